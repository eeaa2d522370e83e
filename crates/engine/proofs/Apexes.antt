-- The third corner of the first triangle with a side, by the side question; and turning by it.
use Rattle.std.proofs.Common.{◌≡◌, ℕ, zero, suc, ◌+◌, ◌-◌, ◌<◌, Bool, true, false, cond, ◌&&◌, eqb, List, [], ◌∷◌, map, Some, None, Option, sym, refl, ap, ◌∙◌, arith, eqb-true}
use Rattle.std.proofs.lemmas.Bool.{and_parts}
use Rattle.std.specs.List.{slice_get}
use Rattle.std.specs.Option.{option_map}
use Rattle.mesh.specs.Triangles.{Tri, tri}
use Rattle.mesh.specs.Sides.{Side, corner_of, Lies, find_side, side_of}
use Rattle.mesh.proofs.Finding.{sides_found}
use Rattle.mesh.proofs.Tests.{some_inj, none_some}
use Rattle.forest.specs.Marks.{is_marked}
use Rattle.forest.specs.Loops.{flipped, read_as, apex, found}

-- a triangle without the side is passed over, and one with it is the one
apex_lacks : (x : Tri) (ts : List Tri) (u v : ℕ) → corner_of u v x ≡ None → apex (x ∷ ts) u v ≡ apex ts u v
apex_lacks (tri a b c) ts u v = go (eqb a u && eqb b v) (eqb b u && eqb c v) (eqb c u && eqb a v)
  where
    go : (p q r : Bool) → cond {A = Option ℕ} p (Some 0) (cond q (Some 1) (cond r (Some 2) None)) ≡ None → cond p c (cond q a (cond r b (apex ts u v))) ≡ apex ts u v
    go true q r e = none_some (sym e)
    go false true r e = none_some (sym e)
    go false false true e = none_some (sym e)
    go false false false e = refl

apex_has : (x : Tri) (ts : List Tri) (u v k : ℕ) → corner_of u v x ≡ Some k → apex (x ∷ ts) u v ≡ apex (x ∷ []) u v
apex_has (tri a b c) ts u v k = go (eqb a u && eqb b v) (eqb b u && eqb c v) (eqb c u && eqb a v)
  where
    go : (p q r : Bool) → cond p (Some 0) (cond q (Some 1) (cond r (Some 2) None)) ≡ Some k → cond p c (cond q a (cond r b (apex ts u v))) ≡ cond p c (cond q a (cond r b 0))
    go true q r e = refl
    go false true r e = refl
    go false false true e = refl
    go false false false e = none_some e

pub apex_at : (ts : List Tri) (u v i c : ℕ) (t : Tri) → slice_get ts i ≡ Some t → corner_of u v t ≡ Some c
    → ((j : ℕ) (x : Tri) → j < i → slice_get ts j ≡ Some x → corner_of u v x ≡ None) → apex ts u v ≡ apex (t ∷ []) u v
apex_at [] u v i c t e k low = none_some e
apex_at (x ∷ ts) u v zero c t e k low = let d = some_inj e in apex_has x ts u v c (ap (corner_of u v) d ∙ k) ∙ ap (λ (y : Tri). apex (y ∷ []) u v) d
apex_at (x ∷ ts) u v (suc i) c t e k low = apex_lacks x ts u v (low 0 x (omega arith) refl) ∙ apex_at ts u v i c t e k (λ j y h g. low (suc j) y (omega arith) g)

pub apex_past : (ts : List Tri) (u v : ℕ) → ((j : ℕ) (x : Tri) → slice_get ts j ≡ Some x → corner_of u v x ≡ None) → apex ts u v ≡ 0
apex_past [] u v f = refl
apex_past (x ∷ ts) u v f = apex_lacks x ts u v (f 0 x refl) ∙ apex_past ts u v (λ j y e. f (suc j) y e)

-- by the side question
pub apex_side : (ts : List Tri) (u v k : ℕ) (t : Tri) → side_of ts u v ≡ Some k → slice_get ts k ≡ Some t → apex (t ∷ []) u v ≡ apex ts u v
apex_side ts u v k t e i = go (find_side ts u v) refl e
  where
    go : (o : Option Lies) → find_side ts u v ≡ o → option_map (λ l. l.triangle) o ≡ Some k → apex (t ∷ []) u v ≡ apex ts u v
    go None f e = none_some e
    go (Some l) f e =
        let r = (sides_found ts u v).0 l f in
        let d = some_inj e in
        let s = some_inj (sym i ∙ ap (slice_get ts) (sym d) ∙ r.is) in
        ap (λ (y : Tri). apex (y ∷ []) u v) s ∙ sym (apex_at ts u v l.triangle l.corner r.one r.is r.begins r.lowest)

pub apex_no_side : (ts : List Tri) (u v : ℕ) → side_of ts u v ≡ None → 0 ≡ apex ts u v
apex_no_side ts u v e = go (find_side ts u v) refl e
  where
    go : (o : Option Lies) → find_side ts u v ≡ o → option_map (λ l. l.triangle) o ≡ None → 0 ≡ apex ts u v
    go None f e = sym (apex_past ts u v ((sides_found ts u v).1 f))
    go (Some l) f e = none_some (sym e)

-- by what the two questions answered
pub apex_found : (ts : List Tri) (u v i : ℕ) (t : Tri) → Some i ≡ side_of ts u v → Some t ≡ slice_get ts i → apex (t ∷ []) u v ≡ apex ts u v
apex_found ts u v i t e g = apex_side ts u v i t (sym e) (sym g)

pub apex_missed : (ts : List Tri) (u v : ℕ) → None ≡ side_of ts u v → 0 ≡ apex ts u v
apex_missed ts u v e = apex_no_side ts u v (sym e)

pub apex_gone : (ts : List Tri) (u v i : ℕ) → Some i ≡ side_of ts u v → None ≡ slice_get ts i → 0 ≡ apex ts u v
apex_gone ts u v i e g = go (find_side ts u v) refl (sym e)
  where
    go : (o : Option Lies) → find_side ts u v ≡ o → option_map (λ l. l.triangle) o ≡ Some i → 0 ≡ apex ts u v
    go None k e = none_some e
    go (Some l) k e = let d = some_inj e in none_some (g ∙ (ap (slice_get ts) (sym d) ∙ ((sides_found ts u v).0 l k).is))

-- turned round, the triangles have the sides the other way
and_swap : (x y : Bool) → (x && y) ≡ (y && x)
and_swap true true = refl
and_swap true false = refl
and_swap false true = refl
and_swap false false = refl

swap : (p q r : Bool) (a b c n m : ℕ) → (p ≡ true → q ≡ true → b ≡ a) → (p ≡ true → r ≡ true → b ≡ c) → (q ≡ true → r ≡ true → a ≡ c) → n ≡ m
    → cond p b (cond q a (cond r c n)) ≡ cond r c (cond q a (cond p b m))
swap true q true a b c n m f g h e = g refl refl
swap true true false a b c n m f g h e = f refl refl
swap true false false a b c n m f g h e = refl
swap false true true a b c n m f g h e = h refl refl
swap false true false a b c n m f g h e = refl
swap false false true a b c n m f g h e = refl
swap false false false a b c n m f g h e = e

two : (a b x y : ℕ) → (eqb a x && eqb b y) ≡ true → (a ≡ x) × (b ≡ y)
two a b x y e = let h = and_parts (eqb a x) (eqb b y) e in (eqb-true a x h.0, eqb-true b y h.1)

pub apex_flipped : (ts : List Tri) (u v : ℕ) → apex (map flipped ts) u v ≡ apex ts v u
apex_flipped [] u v = refl
apex_flipped (tri a b c ∷ ts) u v =
    rw (and_swap (eqb a v) (eqb b u), and_swap (eqb b v) (eqb c u), and_swap (eqb c v) (eqb a u))
    (swap (eqb a u && eqb c v) (eqb c u && eqb b v) (eqb b u && eqb a v) a b c (apex (map flipped ts) u v) (apex ts v u)
    (λ e i. let h = two a c u v e in let k = two c b u v i in cc)
    (λ e i. let h = two a c u v e in let k = two b a u v i in cc)
    (λ e i. let h = two c b u v e in let k = two b a u v i in cc)
    (apex_flipped ts u v))

pub apex_read : (m : Bool) (ts : List Tri) (u v : ℕ) → m ≡ true → apex ts v u ≡ apex (read_as m ts) u v
apex_read m ts u v e = rw e (sym (apex_flipped ts u v))

-- one turn more
pub found_more : (n i : ℕ) (ts : List Tri) (ms : List Side) (u v x : ℕ) (o : Option ℕ) → o ≡ found (n - i) ts ms u v → i < n → x ≡ apex ts u v → is_marked ms v x ≡ false
    → o ≡ found (n - (i + 1)) ts ms x v
found_more n i ts ms u v x o r h e m =
    let z : n - i ≡ suc (n - (i + 1)) = omega arith in
    r ∙ ap (λ (k : ℕ). found k ts ms u v) z ∙ ap (λ (y : ℕ). cond (is_marked ms v y) (Some y) (found (n - (i + 1)) ts ms y v)) (sym e)
    ∙ ap (λ (b : Bool). cond b (Some x) (found (n - (i + 1)) ts ms x v)) m

-- A number set in a table of triangles is one corner renumbered, where no side is there twice.
use Rattle.std.proofs.Common.{◌≡◌, ℕ, zero, suc, ◌+◌, ◌*◌, ◌%◌, ◌<◌, Bool, true, false, cond, ◌&&◌, eqb, List, [], ◌∷◌, map, length, set, Some, None, Option, sym, refl, ap, ◌∙◌, subst, arith, eq-eqb, eqb-true}
use Rattle.std.specs.Option.{option_map}
use Rattle.std.specs.List.{slice_get}
use Rattle.std.proofs.lemmas.Bool.{and_parts}
use Rattle.std.proofs.lemmas.Option.{slice_get_within}
use Rattle.mesh.specs.Lists.{Mem, now, later, Apart, no_one, one_more}
use Rattle.mesh.specs.Triangles.{Tri, tri}
use Rattle.mesh.specs.Sides.{Side, side, sides, corner_of, Lies, find_side, side_of}
use Rattle.mesh.specs.Rings.{Link, here}
use Rattle.mesh.specs.Growth.{with_corner, changed}
use Rattle.mesh.proofs.Finding.{sides_found}
use Rattle.mesh.proofs.Links.{link_turn, link_side, side_link, link_nth, corner_there, there_corner}
use Rattle.mesh.proofs.Tests.{some_inj, none_some}
use Rattle.forest.specs.Loops.{read_as, apex}
use Rattle.forest.specs.Numbering.{renamed}
use Rattle.forest.specs.Tables.{word_tris}
use Rattle.forest.proofs.Naming.{renamed_same}
use Rattle.engine.specs.Corners.{Renumbers, is_corner, place_of, corner_place}
use Rattle.engine.proofs.Apexes.{apex_at, apex_flipped}

-- one number of three for each triangle
pub words_set : (ws : List ℕ) (i t j n : ℕ) → i ≡ 3 * t + j → j < 3 → word_tris (set ws i n) ≡ changed (with_corner j n) t (word_tris ws)
words_set [] i t j n e h = refl
words_set (a ∷ []) zero t j n e h = refl
words_set (a ∷ []) (suc i) t j n e h = refl
words_set (a ∷ b ∷ []) zero t j n e h = refl
words_set (a ∷ b ∷ []) (suc zero) t j n e h = refl
words_set (a ∷ b ∷ []) (suc (suc i)) t j n e h = refl
words_set (a ∷ b ∷ c ∷ ws) i zero j n e h = let d : i ≡ j = omega arith in rw d (go j h)
  where
    go : (j : ℕ) → j < 3 → word_tris (set (a ∷ b ∷ c ∷ ws) j n) ≡ with_corner j n (tri a b c) ∷ word_tris ws
    go zero h = refl
    go (suc zero) h = refl
    go (suc (suc zero)) h = refl
    go (suc (suc (suc j))) h = absurd (omega arith)
words_set (a ∷ b ∷ c ∷ ws) i (suc t) j n e h =
    let d : i ≡ suc (suc (suc (3 * t + j))) = omega arith in
    rw d (ap (λ ts. tri a b c ∷ ts) (words_set ws (3 * t + j) t j n refl h))

changed_three : (ts : List Tri) (t a b c : ℕ) → changed (with_corner 2 c) t (changed (with_corner 1 b) t (changed (with_corner 0 a) t ts)) ≡ set ts t (tri a b c)
changed_three [] t a b c = refl
changed_three (tri x y z ∷ ts) zero a b c = refl
changed_three (tri x y z ∷ ts) (suc t) a b c = ap (λ us. tri x y z ∷ us) (changed_three ts t a b c)

pub words_three : (ws : List ℕ) (t a b c : ℕ) → word_tris (set (set (set ws (3 * t) a) (3 * t + 1) b) (3 * t + 2) c) ≡ set (word_tris ws) t (tri a b c)
words_three ws t a b c =
    words_set (set (set ws (3 * t) a) (3 * t + 1) b) (3 * t + 2) t 2 c refl (omega arith)
    ∙ (ap (changed (with_corner 2 c) t) (words_set (set ws (3 * t) a) (3 * t + 1) t 1 b refl (omega arith))
    ∙ (ap (λ ts. changed (with_corner 2 c) t (changed (with_corner 1 b) t ts)) (words_set ws (3 * t) t 0 a (omega arith) (omega arith)) ∙ changed_three (word_tris ws) t a b c))

pub words_length : (m : ℕ) (ws : List ℕ) → length ws ≡ 3 * m → length (word_tris ws) ≡ m
words_length zero [] e = refl
words_length zero (a ∷ ws) e = absurd (omega arith)
words_length (suc m) [] e = absurd (omega arith)
words_length (suc m) (a ∷ []) e = absurd (omega arith)
words_length (suc m) (a ∷ b ∷ []) e = absurd (omega arith)
words_length (suc m) (a ∷ b ∷ c ∷ ws) e = ap suc (words_length m ws (omega arith))

-- the sides of one triangle, and those of the rest
front_apart : {a b c : Side} {ss : List Side} → Apart (a ∷ b ∷ c ∷ ss) → Apart (a ∷ b ∷ c ∷ [])
front_apart {a} {b} {c} {ss} (one_more f (one_more g (one_more h r))) = one_more (λ m. f (wide m)) (one_more (λ m. g (wide_one m)) (one_more (λ m. h (wide_none m)) no_one))
  where
    wide_none : {s : Side} → Mem s [] → Mem s ss
    wide_none m = elim m [ ]

    wide_one : {s : Side} → Mem s (c ∷ []) → Mem s (c ∷ ss)
    wide_one now = now
    wide_one (later m) = later (wide_none m)

    wide : {s : Side} → Mem s (b ∷ c ∷ []) → Mem s (b ∷ c ∷ ss)
    wide now = now
    wide (later m) = later (wide_one m)

rest_apart : {a b c : Side} {ss : List Side} → Apart (a ∷ b ∷ c ∷ ss) → Apart ss
rest_apart (one_more f (one_more g (one_more h r))) = r

not_both : {s a b c : Side} {ss : List Side} → Apart (a ∷ b ∷ c ∷ ss) → Mem s (a ∷ b ∷ c ∷ []) → Mem s ss → ⊥
not_both (one_more f (one_more g (one_more h r))) now k = f (later (later k))
not_both (one_more f (one_more g (one_more h r))) (later now) k = g (later k)
not_both (one_more f (one_more g (one_more h r))) (later (later now)) k = h k
not_both (one_more f (one_more g (one_more h r))) (later (later (later m))) k = elim m [ ]

nth_side : (ts : List Tri) (t : ℕ) (x : Tri) {s : Side} → slice_get ts t ≡ Some x → Mem s (sides (x ∷ [])) → Mem s (sides ts)
nth_side [] t x e m = none_some e
nth_side (tri a b c ∷ ts) zero x {s} e m = let d = some_inj e in wide (subst (λ (y : Tri). Mem s (sides (y ∷ []))) (sym d) m)
  where
    wide : {s : Side} → Mem s (sides (tri a b c ∷ [])) → Mem s (sides (tri a b c ∷ ts))
    wide now = now
    wide (later now) = later now
    wide (later (later now)) = later (later now)
    wide (later (later (later m))) = elim m [ ]
nth_side (tri a b c ∷ ts) (suc t) x e m = later (later (later (nth_side ts t x e m)))

-- numbers f and g that are the same but at the corners with the key s, of which there is one
module _ (f g : ℕ → ℕ → ℕ → ℕ) (s : Side) (key : ℕ → ℕ → ℕ → Side) (off : (x y z : ℕ) → (key x y z ≡ s → ⊥) → f x y z ≡ g x y z)
    (inside : (ts : List Tri) (x y z : ℕ) → Link ts x y z → Mem (key x y z) (sides ts)) where
  none_renamed : (ts : List Tri) → (Mem s (sides ts) → ⊥) → map (renamed f) ts ≡ map (renamed g) ts
  none_renamed ts h = renamed_same f g ts (λ x y z l. off x y z (λ e. h (subst (λ (k : Side). Mem k (sides ts)) e (inside ts x y z l))))

  one_renamed : (ts : List Tri) (t j n : ℕ) (x : Tri) → Apart (sides ts) → slice_get ts t ≡ Some x → Mem s (sides (x ∷ []))
      → (Apart (sides (x ∷ [])) → with_corner j n (renamed f x) ≡ renamed g x) → changed (with_corner j n) t (map (renamed f) ts) ≡ map (renamed g) ts
  one_renamed [] t j n x once e m r = none_some e
  one_renamed (tri a b c ∷ ts) zero j n x once e m r =
      let d : tri a b c ≡ x = some_inj e in
      let m' = subst (λ (y : Tri). Mem s (sides (y ∷ []))) (sym d) m in
      let r' = subst (λ (y : Tri). with_corner j n (renamed f y) ≡ renamed g y) (sym d) (r (subst (λ (y : Tri). Apart (sides (y ∷ []))) d (front_apart once))) in
      let k = none_renamed ts (not_both once m') in cc
  one_renamed (tri a b c ∷ ts) (suc t) j n x once e m r =
      let k = nth_side ts t x e m in
      let h = none_renamed (tri a b c ∷ []) (λ l. not_both once l k) in
      let i = one_renamed ts t j n x (rest_apart once) e m r in cc

-- the place by the questions that were answered
record Lain (ts : List Tri) (u v t : ℕ) : Type 0 where
  pub lies : Lies
  pub found : find_side ts u v ≡ Some lies
  pub same : t ≡ lies.triangle

lain : (ts : List Tri) (u v t : ℕ) → Some t ≡ side_of ts u v → Lain ts u v t
lain ts u v t e = go (find_side ts u v) refl e
  where
    go : (o : Option Lies) → find_side ts u v ≡ o → Some t ≡ option_map (λ l. l.triangle) o → Lain ts u v t
    go None i e = none_some (sym e)
    go (Some l) i e = record { lies = l; found = i; same = some_inj e }

pub place_found : (ts : List Tri) (u v turn t k m : ℕ) (x : Tri) → Some t ≡ side_of ts u v → Some x ≡ slice_get ts t → Some k ≡ corner_of u v x → m ≡ (k + turn) % 3
    → Some (3 * t + m) ≡ place_of ts u v turn
place_found ts u v turn t k m x e i c h =
    let d = lain ts u v t e in
    let r = (sides_found ts u v).0 d.lies d.found in
    let y : x ≡ r.one = some_inj (i ∙ (ap (slice_get ts) d.same ∙ r.is)) in
    let j : k ≡ d.lies.corner = some_inj (c ∙ (ap (corner_of u v) y ∙ r.begins)) in
    ap (λ n. Some (3 * t + n)) h ∙ (ap (λ n. Some (3 * t + (n + turn) % 3)) j ∙ (ap (λ n. Some (3 * n + (d.lies.corner + turn) % 3)) d.same
    ∙ sym (ap (option_map (λ l. 3 * l.triangle + (l.corner + turn) % 3)) d.found)))

pub place_gone : (ts : List Tri) (u v turn t : ℕ) → Some t ≡ side_of ts u v → None ≡ slice_get ts t → None ≡ place_of ts u v turn
place_gone ts u v turn t e i = let d = lain ts u v t e in let r = (sides_found ts u v).0 d.lies d.found in none_some (i ∙ (ap (slice_get ts) d.same ∙ r.is))

pub place_off : (ts : List Tri) (u v turn t : ℕ) (x : Tri) → Some t ≡ side_of ts u v → Some x ≡ slice_get ts t → None ≡ corner_of u v x → None ≡ place_of ts u v turn
place_off ts u v turn t x e i c =
    let d = lain ts u v t e in
    let r = (sides_found ts u v).0 d.lies d.found in
    let y : x ≡ r.one = some_inj (i ∙ (ap (slice_get ts) d.same ∙ r.is)) in
    none_some (c ∙ (ap (corner_of u v) y ∙ r.begins))

pub place_missed : (ts : List Tri) (u v turn : ℕ) → None ≡ side_of ts u v → None ≡ place_of ts u v turn
place_missed ts u v turn e = go (find_side ts u v) e
  where
    go : (o : Option Lies) → None ≡ option_map (λ l. l.triangle) o → None ≡ option_map (λ l. 3 * l.triangle + (l.corner + turn) % 3) o
    go None e = refl
    go (Some l) e = none_some e

-- the three sides of a triangle differ
record Three (a b c : ℕ) : Type 0 where
  pub one_two : side a b ≡ side b c → ⊥
  pub two_three : side b c ≡ side c a → ⊥
  pub one_three : side a b ≡ side c a → ⊥

three : (a b c : ℕ) → Apart (sides (tri a b c ∷ [])) → Three a b c
three a b c (one_more f (one_more g h)) = record { one_two = λ e. f (at e now); two_three = λ e. g (at e now); one_three = λ e. f (at e (later now)) }
  where
    at : {s t : Side} {ss : List Side} → s ≡ t → Mem t ss → Mem s ss
    at {ss = ss} e m = subst (λ (k : Side). Mem k ss) (sym e) m

two : (a b x y : ℕ) → (eqb a x && eqb b y) ≡ true → (a ≡ x) × (b ≡ y)
two a b x y e = let h = and_parts (eqb a x) (eqb b y) e in (eqb-true a x h.0, eqb-true b y h.1)

tri_is : {a b c x y z : ℕ} → a ≡ x → b ≡ y → c ≡ z → tri a b c ≡ tri x y z
tri_is d e f = cc

test_off : (b : Bool) (n w : ℕ) → (b ≡ true → ⊥) → w ≡ cond b n w
test_off true n w h = absurd (h refl)
test_off false n w h = refl

test_on : (v x y q z u n w : ℕ) → x ≡ v → y ≡ q → z ≡ u → n ≡ cond (eqb v x && (eqb y q && eqb z u)) n w
test_on v x y q z u n w d e f = rw (eq-eqb v x (sym d), eq-eqb y q e, eq-eqb z u f) refl

test_parts : (v x y q z u : ℕ) → (eqb v x && (eqb y q && eqb z u)) ≡ true → (v ≡ x) × (y ≡ q) × (z ≡ u)
test_parts v x y q z u e =
    let h = and_parts (eqb v x) (eqb y q && eqb z u) e in
    let k = and_parts (eqb y q) (eqb z u) h.1 in (eqb-true v x h.0, eqb-true y q k.0, eqb-true z u k.1)

-- the corner at v of the triangle with u→v, and the third corner q
module _ (f : ℕ → ℕ → ℕ → ℕ) (n u v q : ℕ) where
  abbrev straight : ℕ → ℕ → ℕ → ℕ
  straight x y z = cond (eqb v x && (eqb y q && eqb z u)) n (f x y z)

  straight_off : (x y z : ℕ) → (side z x ≡ side u v → ⊥) → f x y z ≡ straight x y z
  straight_off x y z h = test_off (eqb v x && (eqb y q && eqb z u)) n (f x y z) (λ e. let k = test_parts v x y q z u e in h (cc))

  straight_on : (x y z : ℕ) → x ≡ v → y ≡ q → z ≡ u → n ≡ straight x y z
  straight_on x y z d e i = test_on v x y q z u n (f x y z) d e i

  straight_corner : (x : Tri) (k : ℕ) → corner_of u v x ≡ Some k → q ≡ apex (x ∷ []) u v → Apart (sides (x ∷ [])) → with_corner ((k + 1) % 3) n (renamed f x) ≡ renamed straight x
  straight_corner (tri a b c) k e m once = go (eqb a u && eqb b v) refl (eqb b u && eqb c v) refl (eqb c u && eqb a v) refl e m (three a b c once)
    where
      go : (p : Bool) → (eqb a u && eqb b v) ≡ p → (o : Bool) → (eqb b u && eqb c v) ≡ o → (r : Bool) → (eqb c u && eqb a v) ≡ r
          → cond {A = Option ℕ} p (Some 0) (cond o (Some 1) (cond r (Some 2) None)) ≡ Some k → q ≡ cond p c (cond o a (cond r b 0)) → Three a b c
          → with_corner ((k + 1) % 3) n (renamed f (tri a b c)) ≡ renamed straight (tri a b c)
      go true i o j r l e m d =
          let h = two a b u v i in
          subst (λ (k : ℕ). with_corner ((k + 1) % 3) n (renamed f (tri a b c)) ≡ renamed straight (tri a b c)) (some_inj e)
          (tri_is (straight_off a b c (λ w. d.one_three (cc))) (straight_on b c a h.1 (sym m) h.0) (straight_off c a b (λ w. d.one_two (cc))))
      go false i true j r l e m d =
          let h = two b c u v j in
          subst (λ (k : ℕ). with_corner ((k + 1) % 3) n (renamed f (tri a b c)) ≡ renamed straight (tri a b c)) (some_inj e)
          (tri_is (straight_off a b c (λ w. d.two_three (cc))) (straight_off b c a (λ w. d.one_two (cc))) (straight_on c a b h.1 (sym m) h.0))
      go false i false j true l e m d =
          let h = two c a u v l in
          subst (λ (k : ℕ). with_corner ((k + 1) % 3) n (renamed f (tri a b c)) ≡ renamed straight (tri a b c)) (some_inj e)
          (tri_is (straight_on a b c h.1 (sym m) h.0) (straight_off b c a (λ w. d.one_three (cc))) (straight_off c a b (λ w. d.two_three (cc))))
      go false i false j false l e m d = none_some e

-- the same read by a mirrored tree: the corner at v of the triangle with v→u
module _ (f : ℕ → ℕ → ℕ → ℕ) (n u v q : ℕ) where
  abbrev turned : ℕ → ℕ → ℕ → ℕ
  turned x y z = cond (eqb v x && (eqb z q && eqb y u)) n (f x y z)

  turned_off : (x y z : ℕ) → (side x y ≡ side v u → ⊥) → f x y z ≡ turned x y z
  turned_off x y z h = test_off (eqb v x && (eqb z q && eqb y u)) n (f x y z) (λ e. let k = test_parts v x z q y u e in h (cc))

  turned_on : (x y z : ℕ) → x ≡ v → z ≡ q → y ≡ u → n ≡ turned x y z
  turned_on x y z d e i = test_on v x z q y u n (f x y z) d e i

  turned_corner : (x : Tri) (k : ℕ) → corner_of v u x ≡ Some k → q ≡ apex (x ∷ []) v u → Apart (sides (x ∷ [])) → with_corner ((k + 0) % 3) n (renamed f x) ≡ renamed turned x
  turned_corner (tri a b c) k e m once = go (eqb a v && eqb b u) refl (eqb b v && eqb c u) refl (eqb c v && eqb a u) refl e m (three a b c once)
    where
      go : (p : Bool) → (eqb a v && eqb b u) ≡ p → (o : Bool) → (eqb b v && eqb c u) ≡ o → (r : Bool) → (eqb c v && eqb a u) ≡ r
          → cond {A = Option ℕ} p (Some 0) (cond o (Some 1) (cond r (Some 2) None)) ≡ Some k → q ≡ cond p c (cond o a (cond r b 0)) → Three a b c
          → with_corner ((k + 0) % 3) n (renamed f (tri a b c)) ≡ renamed turned (tri a b c)
      go true i o j r l e m d =
          let h = two a b v u i in
          subst (λ (k : ℕ). with_corner ((k + 0) % 3) n (renamed f (tri a b c)) ≡ renamed turned (tri a b c)) (some_inj e)
          (tri_is (turned_on a b c h.0 (sym m) h.1) (turned_off b c a (λ w. d.one_two (cc))) (turned_off c a b (λ w. d.one_three (cc))))
      go false i true j r l e m d =
          let h = two b c v u j in
          subst (λ (k : ℕ). with_corner ((k + 0) % 3) n (renamed f (tri a b c)) ≡ renamed turned (tri a b c)) (some_inj e)
          (tri_is (turned_off a b c (λ w. d.one_two (cc))) (turned_on b c a h.0 (sym m) h.1) (turned_off c a b (λ w. d.two_three (cc))))
      go false i false j true l e m d =
          let h = two c a v u l in
          subst (λ (k : ℕ). with_corner ((k + 0) % 3) n (renamed f (tri a b c)) ≡ renamed turned (tri a b c)) (some_inj e)
          (tri_is (turned_off a b c (λ w. d.one_three (cc))) (turned_off b c a (λ w. d.two_three (cc))) (turned_on c a b h.0 (sym m) h.1))
      go false i false j false l e m d = none_some e

-- the place is in the table, and what is set there is that corner's number
pub place_within : (ts : List Tri) (u v k i : ℕ) → Some i ≡ place_of ts u v k → i < 3 * length ts
place_within ts u v k i e = go (find_side ts u v) refl e
  where
    go : (o : Option Lies) → find_side ts u v ≡ o → Some i ≡ option_map (λ l. 3 * l.triangle + (l.corner + k) % 3) o → i < 3 * length ts
    go None j e = none_some (sym e)
    go (Some l) j e = let d : i ≡ 3 * l.triangle + (l.corner + k) % 3 = some_inj e in let h = slice_get_within ts l.triangle _ ((sides_found ts u v).0 l j).is in omega arith

pub corner_within : (ts : List Tri) (m : Bool) (u v i : ℕ) → Some i ≡ corner_place ts m u v → i < 3 * length ts
corner_within ts true u v i e = place_within ts v u 0 i e
corner_within ts false u v i e = place_within ts u v 1 i e

side_in : (u v k : ℕ) (x : Tri) → corner_of u v x ≡ Some k → Mem (side u v) (sides (x ∷ []))
side_in u v k x e = let c = corner_there u v k x e in link_side (here c.1)

no_side_in : (ts : List Tri) (u v : ℕ) → find_side ts u v ≡ None → Mem (side u v) (sides ts) → ⊥
no_side_in ts u v e m =
    let l = side_link ts m in
    let r = link_nth ts l.1 in
    let k = there_corner r.one r.corner in none_some (sym ((sides_found ts u v).1 e r.num r.one r.there_is) ∙ k.1)

place_none : (ts : List Tri) (u v k : ℕ) → None ≡ place_of ts u v k → find_side ts u v ≡ None
place_none ts u v k e = go (find_side ts u v) e
  where
    go : (o : Option Lies) → None ≡ option_map (λ l. 3 * l.triangle + (l.corner + k) % 3) o → o ≡ None
    go None e = refl
    go (Some l) e = none_some e

pub corner_set : (ts : List Tri) (m : Bool) (u v n i : ℕ) (ws : List ℕ) → Apart (sides ts) → Some i ≡ corner_place ts m u v → Renumbers ts ws (set ws i n) (λ x y z w. cond (is_corner ts m u v x y z) n w)
corner_set ts false u v n i ws once e f w = go (find_side ts u v) refl e
  where
    go : (o : Option Lies) → find_side ts u v ≡ o → Some i ≡ option_map (λ l. 3 * l.triangle + (l.corner + 1) % 3) o → word_tris (set ws i n) ≡ map (renamed (straight f n u v (apex ts u v))) ts
    go None j e = none_some (sym e)
    go (Some l) j e =
        let r = (sides_found ts u v).0 l j in
        let k = (l.corner + 1) % 3 in
        let d : i ≡ 3 * l.triangle + k = some_inj e in
        words_set ws i l.triangle k n d (omega arith)
        ∙ (ap (changed (with_corner k n) l.triangle) w
        ∙ one_renamed f (straight f n u v (apex ts u v)) (side u v) (λ x y z. side z x) (straight_off f n u v (apex ts u v)) (λ ts x y z l. link_side (link_turn (link_turn l)))
        ts l.triangle k n r.one once r.is (side_in u v l.corner r.one r.begins)
        (straight_corner f n u v (apex ts u v) r.one l.corner r.begins (apex_at ts u v l.triangle l.corner r.one r.is r.begins r.lowest)))
corner_set ts true u v n i ws once e f w = go (find_side ts v u) refl e
  where
    go : (o : Option Lies) → find_side ts v u ≡ o → Some i ≡ option_map (λ l. 3 * l.triangle + (l.corner + 0) % 3) o → word_tris (set ws i n) ≡ map (renamed (turned f n u v (apex (read_as true ts) u v))) ts
    go None j e = none_some (sym e)
    go (Some l) j e =
        let r = (sides_found ts v u).0 l j in
        let k = (l.corner + 0) % 3 in
        let d : i ≡ 3 * l.triangle + k = some_inj e in
        words_set ws i l.triangle k n d (omega arith)
        ∙ (ap (changed (with_corner k n) l.triangle) w
        ∙ one_renamed f (turned f n u v (apex (read_as true ts) u v)) (side v u) (λ x y z. side x y) (turned_off f n u v (apex (read_as true ts) u v)) (λ ts x y z l. link_side l)
        ts l.triangle k n r.one once r.is (side_in v u l.corner r.one r.begins)
        (turned_corner f n u v (apex (read_as true ts) u v) r.one l.corner r.begins (apex_flipped ts u v ∙ apex_at ts v u l.triangle l.corner r.one r.is r.begins r.lowest)))

pub corner_missed : (ts : List Tri) (m : Bool) (u v n : ℕ) (ws : List ℕ) → None ≡ corner_place ts m u v → Renumbers ts ws ws (λ x y z w. cond (is_corner ts m u v x y z) n w)
corner_missed ts false u v n ws e f w =
    w ∙ none_renamed f (straight f n u v (apex ts u v)) (side u v) (λ x y z. side z x) (straight_off f n u v (apex ts u v)) (λ ts x y z l. link_side (link_turn (link_turn l)))
    ts (no_side_in ts u v (place_none ts u v 1 e))
corner_missed ts true u v n ws e f w =
    w ∙ none_renamed f (turned f n u v (apex (read_as true ts) u v)) (side v u) (λ x y z. side x y) (turned_off f n u v (apex (read_as true ts) u v)) (λ ts x y z l. link_side l)
    ts (no_side_in ts v u (place_none ts v u 0 e))

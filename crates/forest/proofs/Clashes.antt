-- Where a side can come twice: only in an added triangle, and then with a kept one.
use Rattle.std.proofs.Common.{◌≡◌, ℕ, suc, ◌+◌, ◌<◌, ◌≤◌, Bool, true, false, cond, ◌||◌, ◌⊎◌, List, [], ◌∷◌, ◌++◌, map, length, Some, Option, sym, refl, ap, ◌∙◌, subst, inl, inr, ⊎_elim, arith}
use Rattle.mesh.specs.Lists.{Apart, Mem, later, no_one, now, one_more}
use Rattle.mesh.specs.Triangles.{Tri, tri}
use Rattle.mesh.specs.Sides.{Side, back, side, sides}
use Rattle.forest.specs.Marks.{has_side}
use Rattle.forest.specs.Loops.{flipped, read_as}
use Rattle.forest.specs.Splitting.{first_twice}
use Rattle.forest.specs.Theorems.{Part, edge, first_with, node}
use Rattle.mesh.proofs.Members.{apart_append, map_mem, mem_cases, mem_eq, mem_map, mem_split}
use Rattle.mesh.proofs.Links.{link_turn, side_link}
use Rattle.forest.proofs.Marking.{has_mem, has_out, out_has}
use Rattle.forest.proofs.Renaming.{numbered}
use Rattle.forest.proofs.Fans.{part_lt, part_within}
use Rattle.forest.proofs.Polygons.{part_proper}

module _ {A B : Type 0} (f : A → B) where
  -- a list is without repetition if its image is
  pub apart_unmap : (xs : List A) → Apart (map f xs) → Apart xs
  apart_unmap [] a = no_one
  apart_unmap (x ∷ xs) (one_more n a) = one_more (λ m. n (mem_map f m)) (apart_unmap xs a)

  pub apart_map : {xs : List A} → Apart xs → ((x y : A) → Mem x xs → Mem y xs → f x ≡ f y → x ≡ y) → Apart (map f xs)
  apart_map no_one h = no_one
  apart_map (one_more {x} {xs} n a) h = one_more (λ m. let r = map_mem f xs m in n (mem_eq (h x r.0 now (later r.1) r.2) r.1)) (apart_map a (λ x y m k. h x y (later m) (later k)))

-- the sides of two lists of triangles
pub sides_append : (us ws : List Tri) → sides (us ++ ws) ≡ sides us ++ sides ws
sides_append [] ws = refl
sides_append (tri x y z ∷ us) ws = ap (λ r. side x y ∷ side y z ∷ side z x ∷ r) (sides_append us ws)

-- and of triangles with other numbers
abbrev pub sent : (ℕ → ℕ) → Side → Side
sent f (side x y) = side (f x) (f y)

pub sides_numbered : (n : ℕ → ℕ) (us : List Tri) → sides (numbered n us) ≡ map (sent n) (sides us)
sides_numbered n [] = refl
sides_numbered n (tri x y z ∷ us) = ap (λ r. side (n x) (n y) ∷ side (n y) (n z) ∷ side (n z) (n x) ∷ r) (sides_numbered n us)

-- a part of a polygon has no side twice
pub part_ends : {a b : ℕ} {us : List Tri} → Part a b us → (x y : ℕ) → Mem (side x y) (sides us) → (a ≤ x) × (x ≤ b) × (a ≤ y) × (y ≤ b) × (x ≡ y → ⊥)
part_ends {us = us} p x y m =
    let l = side_link us m in
    let h = part_within p l.1 in
    let k = part_within p (link_turn l.1) in (h.0, h.1, k.0, k.1, part_proper p l.1)

not_back : {a b : ℕ} {us : List Tri} → Part a b us → Mem (side b a) (sides us) → ⊥
not_back edge m = elim m [ ]
not_back (node {a} {o} {b} {ls} {rs} l r) m = first (mem_cases m)
  where
    lt : o < b
    lt = part_lt l

    rt : a < o
    rt = part_lt r

    rest : Mem (side b a) (sides (ls ++ rs)) → ⊥
    rest m = ⊎_elim (λ k. let e = part_ends l b a k in let h = rt in omega (arith, e.2)) (λ k. let e = part_ends r b a k in let h = lt in omega (arith, e.1)) (mem_split (sides ls) (subst (λ (ss : List Side). Mem (side b a) ss) (sides_append ls rs) m))

    first : (side b a ≡ side b o) ⊎ Mem (side b a) (side o a ∷ side a b ∷ sides (ls ++ rs)) → ⊥
    first (inl e) = let h = rt in let i : a ≡ o = cc in omega arith
    first (inr m) = ⊎_elim (λ (e : side b a ≡ side o a). let h = lt in let i : b ≡ o = cc in omega arith)
        (λ m. ⊎_elim (λ (e : side b a ≡ side a b). let h = lt in let k = rt in let i : b ≡ a = cc in omega arith) rest (mem_cases m)) (mem_cases m)

pub part_apart : {a b : ℕ} {us : List Tri} → Part a b us → Apart (sides us)
part_apart edge = no_one
part_apart (node {a} {o} {b} {ls} {rs} l r) = one_more first (one_more second (one_more third (rw (sides_append ls rs) (apart_append (part_apart l) (part_apart r) both))))
  where
    lt : o < b
    lt = part_lt l

    rt : a < o
    rt = part_lt r

    both : (z : Side) → Mem z (sides ls) → Mem z (sides rs) → ⊥
    both (side x y) m k =
        let e = part_ends l x y m in let i = part_ends r x y k in
        let u : x ≡ o = omega (arith, e.0, i.1) in let w : y ≡ o = omega (arith, e.2, i.3) in e.4 (u ∙ sym w)

    split : {s : Side} → Mem s (sides (ls ++ rs)) → Mem s (sides ls) ⊎ Mem s (sides rs)
    split {s} m = mem_split (sides ls) (subst (λ (ss : List Side). Mem s ss) (sides_append ls rs) m)

    third : Mem (side a b) (sides (ls ++ rs)) → ⊥
    third m = ⊎_elim (λ k. let e = part_ends l a b k in let h = rt in omega (arith, e.0)) (λ k. let e = part_ends r a b k in let h = lt in omega (arith, e.3)) (split m)

    second : Mem (side o a) (side a b ∷ sides (ls ++ rs)) → ⊥
    second m = ⊎_elim (λ (e : side o a ≡ side a b). let h = rt in let i : o ≡ a = cc in omega arith)
        (λ k. ⊎_elim (λ k. let e = part_ends l o a k in let h = rt in omega (arith, e.2)) (λ k. not_back r k) (split k)) (mem_cases m)

    first : Mem (side b o) (side o a ∷ side a b ∷ sides (ls ++ rs)) → ⊥
    first m = ⊎_elim (λ (e : side b o ≡ side o a). let h = lt in let i : b ≡ o = cc in omega arith)
        (λ k. ⊎_elim (λ (e : side b o ≡ side a b). let h = lt in let i : o ≡ b = cc in omega arith)
        (λ k. ⊎_elim (λ k. not_back l k) (λ k. let e = part_ends r b o k in let h = lt in omega (arith, e.1)) (split k)) (mem_cases k)) (mem_cases m)

-- nor have triangles that are turned round
flipped_back : (us : List Tri) {s : Side} → Mem s (sides (map flipped us)) → Mem (back s) (sides us)
flipped_back [] m = elim m [ ]
flipped_back (tri x y z ∷ us) {s} m =
    ⊎_elim (λ (e : s ≡ side x z). mem_eq (ap back e) (later (later now)))
    (λ m. ⊎_elim (λ (e : s ≡ side z y). mem_eq (ap back e) (later now))
    (λ m. ⊎_elim (λ (e : s ≡ side y x). mem_eq (ap back e) now) (λ m. later (later (later (flipped_back us m)))) (mem_cases m)) (mem_cases m)) (mem_cases m)

flipped_apart : (us : List Tri) → Apart (sides us) → Apart (sides (map flipped us))
flipped_apart [] a = no_one
flipped_apart (tri x y z ∷ us) (one_more f (one_more g (one_more h a))) = one_more first (one_more second (one_more third (flipped_apart us a)))
  where
    third : Mem (side y x) (sides (map flipped us)) → ⊥
    third m = f (later (later (flipped_back us m)))

    second : Mem (side z y) (side y x ∷ sides (map flipped us)) → ⊥
    second m = ⊎_elim (λ (e : side z y ≡ side y x). f (mem_eq (let i : z ≡ y = cc in let j : y ≡ x = cc in cc) now)) (λ k. g (later (flipped_back us k))) (mem_cases m)

    first : Mem (side x z) (side z y ∷ side y x ∷ sides (map flipped us)) → ⊥
    first m = ⊎_elim (λ (e : side x z ≡ side z y). g (mem_eq (let i : x ≡ z = cc in let j : z ≡ y = cc in cc) now))
        (λ k. ⊎_elim (λ (e : side x z ≡ side y x). f (later (mem_eq (let i : x ≡ y = cc in let j : z ≡ x = cc in cc) now))) (λ k. h (flipped_back us k)) (mem_cases k)) (mem_cases m)

pub read_apart : (b : Bool) (us : List Tri) → Apart (sides us) → Apart (sides (read_as b us))
read_apart true us a = flipped_apart us a
read_apart false us a = a

-- where neither list has a side twice, the first triangle with one twice is the first of the second with one of the first
same_test : (n : ℕ) (r : Option ℕ) (a b c d e f : Bool) → a ≡ d → b ≡ e → c ≡ f → cond (a || (b || c)) (Some n) r ≡ cond (d || (e || f)) (Some n) r
same_test n r a b c d e f i j k = rw (i, j, k)

same_has : (s : Side) (xs ys : List Side) → (Mem s xs → Mem s ys) → (Mem s ys → Mem s xs) → has_side s xs ≡ has_side s ys
same_has s xs ys f g = go (has_side s xs) refl (has_side s ys) refl
  where
    go : (a : Bool) → has_side s xs ≡ a → (b : Bool) → has_side s ys ≡ b → a ≡ b
    go true p true q = refl
    go true p false q = absurd (has_out s ys q (f (has_mem s xs p)))
    go false p true q = absurd (has_out s xs p (g (has_mem s ys q)))
    go false p false q = refl

met_same : (n : ℕ) (seen olds : List Side) (ps : List Tri) → ((s : Side) → Mem s (sides ps) → Mem s seen → Mem s olds) → ((s : Side) → Mem s olds → Mem s seen) → Apart (sides ps) → first_twice n seen ps ≡ first_with n olds ps
met_same n seen olds [] f g a = refl
met_same n seen olds (tri x y z ∷ ps) f g (one_more h (one_more i (one_more j a))) =
    same_test n (first_twice (suc n) (side x y ∷ side y z ∷ side z x ∷ seen) ps) (has_side (side x y) seen) (has_side (side y z) seen) (has_side (side z x) seen) (has_side (side x y) olds) (has_side (side y z) olds) (has_side (side z x) olds)
    (same_has (side x y) seen olds (f (side x y) now) (g (side x y))) (same_has (side y z) seen olds (f (side y z) (later now)) (g (side y z))) (same_has (side z x) seen olds (f (side z x) (later (later now))) (g (side z x)))
    ∙ ap (cond (has_side (side x y) olds || (has_side (side y z) olds || has_side (side z x) olds)) (Some n)) (met_same (suc n) (side x y ∷ side y z ∷ side z x ∷ seen) olds ps onward (λ s m. later (later (later (g s m)))) a)
  where
    onward : (s : Side) → Mem s (sides ps) → Mem s (side x y ∷ side y z ∷ side z x ∷ seen) → Mem s olds
    onward s m k = ⊎_elim (λ (e : s ≡ side x y). absurd (h (later (later (mem_eq (sym e) m)))))
        (λ k. ⊎_elim (λ (e : s ≡ side y z). absurd (i (later (mem_eq (sym e) m)))) (λ k. ⊎_elim (λ (e : s ≡ side z x). absurd (j (mem_eq (sym e) m))) (λ k. f s (later (later (later m))) k) (mem_cases k)) (mem_cases k)) (mem_cases k)

none_test : (n : ℕ) (r : Option ℕ) (a b c : Bool) → a ≡ false → b ≡ false → c ≡ false → cond (a || (b || c)) (Some n) r ≡ r
none_test n r a b c i j k = rw (i, j, k)

twice_met : (n : ℕ) (seen olds : List Side) (os ps : List Tri) → Apart (sides os) → ((s : Side) → Mem s (sides os) → Mem s seen → ⊥) → ((s : Side) → Mem s seen → Mem s olds) → ((s : Side) → Mem s (sides os) → Mem s olds)
    → ((s : Side) → Mem s olds → Mem s seen ⊎ Mem s (sides os)) → Apart (sides ps) → first_twice n seen (os ++ ps) ≡ first_with (n + length os) olds ps
twice_met n seen olds [] ps a out f g h b = met_same n seen olds ps (λ s m k. f s k) (λ s m. ⊎_elim (λ k. k) (λ k. elim k [ ]) (h s m)) b ∙ ap (λ i. first_with i olds ps) (omega arith)
twice_met n seen olds (tri x y z ∷ os) ps (one_more i (one_more j (one_more k a))) out f g h b =
    none_test n (first_twice (suc n) (side x y ∷ side y z ∷ side z x ∷ seen) (os ++ ps)) (has_side (side x y) seen) (has_side (side y z) seen) (has_side (side z x) seen)
    (out_has (side x y) seen (out (side x y) now)) (out_has (side y z) seen (out (side y z) (later now))) (out_has (side z x) seen (out (side z x) (later (later now))))
    ∙ (twice_met (suc n) (side x y ∷ side y z ∷ side z x ∷ seen) olds os ps a apart into (λ s m. g s (later (later (later m)))) from b ∙ ap (λ i. first_with i olds ps) (omega arith))
  where
    apart : (s : Side) → Mem s (sides os) → Mem s (side x y ∷ side y z ∷ side z x ∷ seen) → ⊥
    apart s m q = ⊎_elim (λ (e : s ≡ side x y). i (later (later (mem_eq (sym e) m))))
        (λ q. ⊎_elim (λ (e : s ≡ side y z). j (later (mem_eq (sym e) m))) (λ q. ⊎_elim (λ (e : s ≡ side z x). k (mem_eq (sym e) m)) (λ q. out s (later (later (later m))) q) (mem_cases q)) (mem_cases q)) (mem_cases q)

    into : (s : Side) → Mem s (side x y ∷ side y z ∷ side z x ∷ seen) → Mem s olds
    into s m = ⊎_elim (λ (e : s ≡ side x y). mem_eq e (g (side x y) now))
        (λ q. ⊎_elim (λ (e : s ≡ side y z). mem_eq e (g (side y z) (later now))) (λ q. ⊎_elim (λ (e : s ≡ side z x). mem_eq e (g (side z x) (later (later now)))) (λ q. f s q) (mem_cases q)) (mem_cases q)) (mem_cases m)

    from : (s : Side) → Mem s olds → Mem s (side x y ∷ side y z ∷ side z x ∷ seen) ⊎ Mem s (sides os)
    from s m = ⊎_elim (λ q. inl (later (later (later q))))
        (λ q. ⊎_elim (λ (e : s ≡ side x y). inl (mem_eq e now)) (λ q. ⊎_elim (λ (e : s ≡ side y z). inl (later (mem_eq e now))) (λ q. ⊎_elim (λ (e : s ≡ side z x). inl (later (later (mem_eq e now)))) (λ q. inr q) (mem_cases q)) (mem_cases q)) (mem_cases q)) (h s m)

pub twice_with : (os ps : List Tri) → Apart (sides os) → Apart (sides ps) → first_twice 0 [] (os ++ ps) ≡ first_with (length os) (sides os) ps
twice_with os ps a b = twice_met 0 [] (sides os) os ps a (λ s m k. elim k [ ]) (λ s m. elim m [ ]) (λ s m. m) (λ s m. inr m) b ∙ ap (λ i. first_with i (sides os) ps) (omega arith)

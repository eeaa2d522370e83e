-- The search for a side over a list of triangles.
use Rattle.std.proofs.Common.{◌≡◌, ℕ, zero, suc, ◌+◌, ◌<◌, Bool, cond, List, [], ◌∷◌, map, drop, is_some, Some, None, Option, sym, refl, ap, ◌∙◌, arith}
use Rattle.std.specs.List.{range_with_len, slice_get}
use Rattle.std.specs.Option.{option_map}
use Rattle.std.proofs.lemmas.Option.{slice_get-get_or, slice_get_within}
use Rattle.std.proofs.lemmas.List.{drop_more, at_drop_all}
use Rattle.mesh.specs.Triangles.{Tri}
use Rattle.mesh.specs.Sides.{corner_of, Lies, lies_here, side_from, LiesFirst, SidesFound}
use Rattle.mesh.specs.Searches.{first_in}
use Rattle.mesh.proofs.Tests.{some_inj, none_some}
use Rattle.mesh.proofs.Links.{first_from}
use Rattle.std.proofs.lemmas.List.FromFn.{length-map-range_with_len}
use Rattle.mesh.proofs.Indexed.{counted_there}

-- the item at i stands in front of what follows it
front : {X : Type 0} (xs : List X) (i : ℕ) (x : X) → slice_get xs i ≡ Some x → drop i xs ≡ x ∷ drop (i + 1) xs
front xs i x e = let h = slice_get_within xs i x e in let a = slice_get-get_or xs i x h in let b = drop_more xs i x h in cc

-- the search over triangles made by a function of their numbers is a search over the numbers
pub side_first : (u v n : ℕ) (f : ℕ → Tri) (i m : ℕ) → i + m ≡ n → first_from u v i (drop i (map f (range_with_len 0 n))) ≡ first_in (λ j. is_some (corner_of u v (f j))) i m
side_first u v n f i zero e = at_drop_all (first_from u v i) (map f (range_with_len 0 n)) i (omega (arith, length-map-range_with_len f 0 n))
side_first u v n f i (suc m) e =
    ap (first_from u v i) (front (map f (range_with_len 0 n)) i (f i) (counted_there f n i (omega arith)))
    ∙ go (corner_of u v (f i)) (side_first u v n f (i + 1) m (omega arith))
  where
    p : ℕ → Bool
    p j = is_some (corner_of u v (f j))

    go : (o : Option ℕ) → first_from u v (i + 1) (drop (i + 1) (map f (range_with_len 0 n))) ≡ first_in p (i + 1) m
        → option_map (λ l. l.triangle) (lies_here i o (side_from u v (i + 1) (drop (i + 1) (map f (range_with_len 0 n))))) ≡ cond (is_some o) (Some i) (first_in p (i + 1) m)
    go None r = r
    go (Some k) r = refl

-- where the search over a list whose first triangle is number i finds the side
record FirstFrom (u v i : ℕ) (ts : List Tri) (l : Lies) : Type 0 where
  pub at : ℕ
  pub is : l.triangle ≡ i + at
  pub one : Tri
  pub there_is : slice_get ts at ≡ Some one
  pub begins : corner_of u v one ≡ Some l.corner
  pub lower : (t : ℕ) (x : Tri) → t < at → slice_get ts t ≡ Some x → corner_of u v x ≡ None

first_lies : (u v i : ℕ) (ts : List Tri) (l : Lies) → side_from u v i ts ≡ Some l → FirstFrom u v i ts l
first_lies u v i [] l e = none_some e
first_lies u v i (y ∷ ts) l e = go (corner_of u v y) refl e (λ e. first_lies u v (i + 1) ts l e)
  where
    go : (o : Option ℕ) → corner_of u v y ≡ o → lies_here i o (side_from u v (i + 1) ts) ≡ Some l → (side_from u v (i + 1) ts ≡ Some l → FirstFrom u v (i + 1) ts l) → FirstFrom u v i (y ∷ ts) l
    go (Some k) h e f =
        let d = some_inj e in
        let n = ap (λ (l : Lies). l.triangle) d in
        record { at = 0; is = omega arith; one = y; there_is = refl; begins = h ∙ ap (λ (l : Lies). Some l.corner) d; lower = λ t x q r. absurd (omega arith) }
    go None h e f =
        let r = f e in
        let d = r.is in
        record { at = suc r.at; is = omega arith; one = r.one; there_is = r.there_is; begins = r.begins; lower = below r h }
      where
        below : (r : FirstFrom u v (i + 1) ts l) → corner_of u v y ≡ None → (t : ℕ) (x : Tri) → t < suc r.at → slice_get (y ∷ ts) t ≡ Some x → corner_of u v x ≡ None
        below r h zero x q e = ap (corner_of u v) (sym (some_inj e)) ∙ h
        below r h (suc t) x q e = r.lower t x (omega arith) e

never_lies : (u v i : ℕ) (ts : List Tri) → side_from u v i ts ≡ None → (t : ℕ) (x : Tri) → slice_get ts t ≡ Some x → corner_of u v x ≡ None
never_lies u v i [] e t x n = none_some n
never_lies u v i (y ∷ ts) e t x n = go (corner_of u v y) refl e t n (λ e t n. never_lies u v (i + 1) ts e t x n)
  where
    go : (o : Option ℕ) → corner_of u v y ≡ o → lies_here i o (side_from u v (i + 1) ts) ≡ None → (t : ℕ) → slice_get (y ∷ ts) t ≡ Some x → (side_from u v (i + 1) ts ≡ None → (t : ℕ) → slice_get ts t ≡ Some x → corner_of u v x ≡ None) → corner_of u v x ≡ None
    go (Some k) h e t n f = none_some (sym e)
    go None h e zero n f = ap (corner_of u v) (sym (some_inj n)) ∙ h
    go None h e (suc t) n f = f e t n

pub sides_found : SidesFound
sides_found ts u v = (found_first, never_lies u v 0 ts)
  where
    found_first : (l : Lies) → side_from u v 0 ts ≡ Some l → LiesFirst ts u v l
    found_first l e =
        let r = first_lies u v 0 ts l e in
        let d = r.is in
        let n : l.triangle ≡ r.at = omega arith in
        record { one = r.one; is = ap (slice_get ts) n ∙ r.there_is; begins = r.begins; lowest = λ t x q. r.lower t x (omega arith) }

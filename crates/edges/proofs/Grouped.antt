-- Runs of equal elements, one after another, begin with the elements that `dedup` keeps.
use Rattle.std.proofs.Common.{◌≡◌, ℕ, suc, ◌+◌, ◌-◌, ◌<◌, Bool, true, false, List, [], ◌∷◌, ◌++◌, map, length, get_or, Some, None, Option, sym, refl, ap, ◌∙◌, arith, Bor}
use borrow.Author.Tests.{clash}
use denote.Param.Members.{Mut}
use Rattle.std.proofs.lemmas.Bool.{cond-true, cond-false}
use Rattle.std.proofs.lemmas.Option.{slice_get-map}
use Rattle.std.proofs.lemmas.Iterator.{YieldsList}
use Rattle.std.proofs.lemmas.Iterator.Consumers.{nth_from_yields_List}
use Rattle.std.proofs.lemmas.Iterator.Splits.{YieldsList-from_shown_while}
use Rattle.std.specs.Fn.{ComputesOnPairs}
use Rattle.std.specs.Iterator.{SkipsThenYields}
use Rattle.std.specs.Option.{option_map}
use Rattle.std.specs.List.{AllAdjacentBelow, IsChunkByPrefix, dedup, dedup_from, slice_get}
use Rattle.std.specs.Slice.Iter.{chunk_by_steps, chunk_by_rest, chunk_by_callee}

module _ {X : Type 0} (E : X → X → Bool) (equal : (x y : X) → E x y ≡ true → x ≡ y) (self : (x : X) → E x x ≡ true) where
  -- two that differ do so either way round
  differ : (x y : X) → E x y ≡ false → E y x ≡ false
  differ x y n = go (E y x) refl
    where
      go : (b : Bool) → E y x ≡ b → E y x ≡ false
      go true e = let i = equal y x e in absurd (clash (sym n ∙ (ap (λ z. E x z) i ∙ self x)))
      go false e = e

  behind : (a : X) (xs : List X) (i j : ℕ) (d : X) → i ≡ suc j → get_or (a ∷ xs) i d ≡ get_or xs j d
  behind a xs i j d e = ap (λ k. get_or (a ∷ xs) k d) e

  -- a run of two or more, less its first element
  one_less : (a b : X) (xs : List X) (n : ℕ) → IsChunkByPrefix E (a ∷ b ∷ xs) (suc (suc n)) → (E a b ≡ true) × IsChunkByPrefix E (b ∷ xs) (suc n)
  one_less a b xs n r = (r.0 0 a (omega arith), (adjacent, ends))
    where
      adjacent : AllAdjacentBelow (λ x y. E x y ≡ true) (b ∷ xs) (suc n)
      adjacent k d h = ap (E (get_or (b ∷ xs) k d)) (sym (behind a (b ∷ xs) (suc k + 1) (k + 1) d (omega arith))) ∙ r.0 (suc k) d (omega arith)

      ends : suc n < length (b ∷ xs) → (d : X) → E (get_or (b ∷ xs) (suc n - 1) d) (get_or (b ∷ xs) (suc n) d) ≡ false
      ends h d = ap (λ x. E x (get_or xs n d)) (sym (behind a (b ∷ xs) (suc (suc n) - 1) (suc n - 1) d (omega arith))) ∙ r.1 (omega arith) d

  -- `dedup` keeps the first of a run
  run_kept : (a : X) (more rest : List X) → IsChunkByPrefix E (a ∷ more ++ rest) (suc (length more)) → dedup_from E a (more ++ rest) ≡ a ∷ dedup E rest
  run_kept a [] [] r = refl
  run_kept a [] (b ∷ rest) r = cond-false (E b a) _ _ (differ a b (r.1 (omega arith) a))
  run_kept a (b ∷ more) rest r =
      let o = one_less a b (more ++ rest) (length more) r in
      let i = equal a b o.0 in
      cond-true (E b a) _ _ (ap (λ x. E x a) (sym i) ∙ self a) ∙ rw i (run_kept b more rest o.1)

  front_kept : (xs x rest : List X) → xs ≡ x ++ rest → 0 < length x → IsChunkByPrefix E xs (length x) → map Some (dedup E xs) ≡ slice_get x 0 ∷ map Some (dedup E rest)
  front_kept xs [] rest e h r = absurd (omega arith)
  front_kept xs (a ∷ more) rest e h r = ap (λ l. map Some (dedup E l)) e ∙ ap (map Some) (run_kept a more rest (rw e at r))

  none_left : (xs : List X) → length xs ≡ 0 → length (map Some (dedup E xs)) ≡ 0
  none_left [] e = refl
  none_left (x ∷ xs) e = absurd (omega arith)

  -- the runs that come begin, one after another, with what `dedup` keeps
  chunks_begin : {F : Type 0} (g : Mut F (Bor X × (Bor X × Unit {0})) Bool) (s : _)
      → ComputesOnPairs g E (chunk_by_callee s) → YieldsList (chunk_by_steps g) (λ x. slice_get x.now 0) s (map Some (dedup E (chunk_by_rest s)))
  chunks_begin g s h =
      YieldsList-from_shown_while (chunk_by_steps g) (λ x. slice_get x.now 0) (λ s. map Some (dedup E (chunk_by_rest s))) (λ s. ComputesOnPairs g E (chunk_by_callee s))
      (λ s t p n. none_left (chunk_by_rest s) n.0)
      (λ s x t p n. let q = n.2 E p in (q.0, front_kept (chunk_by_rest s) x.now (chunk_by_rest t) n.0 n.1 q.1))
      s h

  -- the run with number n begins with what `dedup` keeps at n, and comes just where it keeps so many
  module _ {F : Type 0} (g : Mut F (Bor X × (Bor X × Unit {0})) Bool) (s u : _) (n : ℕ) (r : Option (Bor (List X))) (xs : List X)
      (ran : SkipsThenYields (chunk_by_steps g) s n r u) (all : chunk_by_rest s ≡ xs) (computes : ComputesOnPairs g E (chunk_by_callee s)) where
    nth_begins : option_map (λ x. slice_get x.now 0) r ≡ option_map Some (slice_get (dedup E xs) n)
    nth_begins = nth_from_yields_List r u n ran (chunks_begin g s computes) ∙ ap (λ l. slice_get (map Some (dedup E l)) n) all ∙ slice_get-map Some (dedup E xs) n

    pub no_nth : r ≡ None → None ≡ slice_get (dedup E xs) n
    no_nth e = go (slice_get (dedup E xs) n) (ap (option_map (λ x. slice_get x.now 0)) (sym e) ∙ nth_begins)
      where
        go : (o : Option X) → None ≡ option_map Some o → None ≡ o
        go None e = refl
        go (Some y) e = absurd cc

    pub some_nth : (x : Bor (List X)) → r ≡ Some x → slice_get x.now 0 ≡ slice_get (dedup E xs) n
    some_nth x e = go (slice_get x.now 0) (slice_get (dedup E xs) n) (ap (option_map (λ x. slice_get x.now 0)) (sym e) ∙ nth_begins)
      where
        go : (p o : Option X) → Some p ≡ option_map Some o → p ≡ o
        go p None e = absurd cc
        go p (Some y) e = cc

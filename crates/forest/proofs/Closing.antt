-- What it means that a marked edge closes a loop.
use Rattle.std.proofs.Common.{◌≡◌, ℕ, suc, ◌+◌, Bool, true, false, cond, not, eqb, List, [], ◌∷◌, take, Some, filter, refl, ap, subst, arith, eqb-true}
use Rattle.std.specs.List.{slice_get}
use Rattle.std.proofs.lemmas.Bool.{and_from}
use Rattle.mesh.specs.Sides.{Side, side}
use Rattle.forest.specs.Marks.{marked_edges}
use Rattle.forest.specs.Trees.{labels, loop_free, merged, own}
use Rattle.forest.specs.Splitting.{first_closing}
use Rattle.forest.specs.Theorems.{Closing, ClosingMeant, ForestMeant}
use Rattle.mesh.proofs.Tests.{none_some, some_inj}
use Rattle.forest.proofs.Rounds.{apart_without, but}
use Rattle.forest.proofs.Checking.{closing_none}
use Rattle.forest.proofs.Means.{labels_meant}

pub forest_meant : ForestMeant
forest_meant ms free i j m w = apart_without own own (λ v w e. e) ms i j m free ((labels_meant (filter (but (side i j)) ms) i j).1 w)

-- the same from labels l and from the number m on
record From (l : ℕ → ℕ) (m : ℕ) (es : List Side) (bs : List Bool) (n : ℕ) : Type 0 where
  pub at_index : ℕ
  pub number : n ≡ m + at_index
  pub from : ℕ
  pub to : ℕ
  pub there_is : slice_get es at_index ≡ Some (side from to)
  pub is_set : slice_get bs at_index ≡ Some true
  pub alike : labels l (marked_edges (take at_index es) (take at_index bs)) from ≡ labels l (marked_edges (take at_index es) (take at_index bs)) to
  pub free : loop_free l (marked_edges (take at_index es) (take at_index bs)) ≡ true

closing_from : (l : ℕ → ℕ) (m : ℕ) (es : List Side) (bs : List Bool) (n : ℕ) → first_closing l m es bs ≡ Some n → From l m es bs n
closing_from l m [] bs n e = none_some e
closing_from l m (s ∷ es) [] n e = none_some e
closing_from l m (s ∷ es) (false ∷ bs) n e =
    let r = closing_from l (suc m) es bs n e in
    let k = r.number in
    record { at_index = suc r.at_index; number = omega arith; from = r.from; to = r.to; there_is = r.there_is; is_set = r.is_set; alike = r.alike; free = r.free }
closing_from l m (side i j ∷ es) (true ∷ bs) n e = go (eqb (l i) (l j)) refl e (λ e. closing_from (λ v. merged (l i) (l j) (l v)) (suc m) es bs n e)
  where
    go : (b : Bool) → eqb (l i) (l j) ≡ b → cond b (Some m) (first_closing (λ v. merged (l i) (l j) (l v)) (suc m) es bs) ≡ Some n
        → (first_closing (λ v. merged (l i) (l j) (l v)) (suc m) es bs ≡ Some n → From (λ v. merged (l i) (l j) (l v)) (suc m) es bs n) → From l m (side i j ∷ es) (true ∷ bs) n
    go true q e f = let k = some_inj e in record { at_index = 0; number = omega arith; from = i; to = j; there_is = refl; is_set = refl; alike = eqb-true (l i) (l j) q; free = refl }
    go false q e f =
        let r = f e in
        let k = r.number in
        record {
          at_index = suc r.at_index;
          number = omega arith;
          from = r.from;
          to = r.to;
          there_is = r.there_is;
          is_set = r.is_set;
          alike = r.alike;
          free = and_from (not (eqb (l i) (l j))) (loop_free (λ v. merged (l i) (l j) (l v)) (marked_edges (take r.at_index es) (take r.at_index bs))) (ap not q) r.free;
        }

pub closing_meant : ClosingMeant
closing_meant es bs = (λ n e. told_of n (closing_from own 0 es bs n e), closing_none own 0 es bs)
  where
    told_of : (n : ℕ) → From own 0 es bs n → Closing es bs n
    told_of n r = subst (λ (z : ℕ). Closing es bs z) (let k = r.number in omega arith) (record {
      i = r.from;
      j = r.to;
      there_is = r.there_is;
      marked = r.is_set;
      joined = (labels_meant (marked_edges (take r.at_index es) (take r.at_index bs)) r.from r.to).0 r.alike;
      lower_free = r.free;
    })

-- What the checks of a split say where they find no fault.
use Rattle.std.proofs.Common.{◌≡◌, ℕ, suc, ◌-◌, ◌*◌, ◌<◌, ◌≤◌, Bool, true, false, cond, not, ◌||◌, eqb, ◌⊎◌, List, [], ◌∷◌, length, drop, Some, None, Option, sym, refl, ap, ◌∙◌, subst, inl, inr, ⊎_elim, arith, ltb-true, eqb-true}
use borrow.Author.Tests.{eqb-false}
use Rattle.std.specs.Option.{option_map}
use Rattle.std.proofs.lemmas.Bool.{or_parts, and_from}
use Rattle.fault.specs.declared.fault.Fault.TheVariants.{CodeCount, CodesOffTree, LoopTooShort, MarkClosesLoop, SideTwice, SingleEdgeTree}
use Rattle.fault.proofs.Orders.{or_none, mapped_none, test_passed}
use Rattle.mesh.specs.Lists.{Apart, Mem, later, no_one, now, one_more}
use Rattle.mesh.specs.Triangles.{Tri, tri}
use Rattle.mesh.specs.Sides.{Side, side, sides}
use Rattle.mesh.specs.Edges.{edges, up}
use Rattle.mesh.specs.Rings.{Link, at_first, at_second, at_third, here, there}
use Rattle.mesh.specs.Closed.{Closed}
use Rattle.forest.specs.Marks.{has_side, marked_edges}
use Rattle.forest.specs.Trees.{end, loop_free, merged, own, start, tree_edges, trees}
use Rattle.forest.specs.Loops.{around, whole}
use Rattle.forest.specs.Polygons.{Code, closes}
use Rattle.forest.specs.Splitting.{first_closing, first_early, first_single, first_twice, first_unclosed, forest_fault, marked_of, sewing_fault, split_triangles, unmarked_fault}
use Rattle.mesh.proofs.Rise.{ascending_apart, edges_ascend}
use Rattle.mesh.proofs.Counting.{closed_sided, edge_up}
use Rattle.mesh.proofs.Members.{kept_mem, mem_cases, mem_eq}
use Rattle.mesh.proofs.Tests.{none_some}
use Rattle.mesh.proofs.Links.{side_link}
use Rattle.forest.proofs.Forests.{Coded}
use Rattle.forest.proofs.Turning.{EdgesIn}
use Rattle.forest.proofs.Marking.{has_out, marked_apart, marked_mem}
use Rattle.forest.proofs.Labels.{tree_some}

-- checks that find nothing
cond_none : (b : Bool) (n : ℕ) (r : Option ℕ) → cond b (Some n) r ≡ None → (b ≡ false) × (r ≡ None)
cond_none true n r e = none_some (sym e)
cond_none false n r e = (refl, e)

none_cond : (b : Bool) (n : ℕ) (r : Option ℕ) → cond b r (Some n) ≡ None → (b ≡ true) × (r ≡ None)
none_cond true n r e = (refl, e)
none_cond false n r e = none_some (sym e)

pub closing_none : (l : ℕ → ℕ) (n : ℕ) (es : List Side) (bs : List Bool) → first_closing l n es bs ≡ None → loop_free l (marked_edges es bs) ≡ true
closing_none l n [] bs e = refl
closing_none l n (s ∷ es) [] e = refl
closing_none l n (s ∷ es) (false ∷ bs) e = closing_none l (suc n) es bs e
closing_none l n (side i j ∷ es) (true ∷ bs) e =
    let h = cond_none (eqb (l i) (l j)) n (first_closing (λ v. merged (l i) (l j) (l v)) (suc n) es bs) e in
    and_from (not (eqb (l i) (l j))) (loop_free (λ v. merged (l i) (l j) (l v)) (marked_edges es bs)) (ap not h.0) (closing_none (λ v. merged (l i) (l j) (l v)) (suc n) es bs h.1)

single_none : (ms : List Side) (ks : List ℕ) → first_single ms ks ≡ None → (k : ℕ) → Mem k ks → length (tree_edges ms k) ≡ 1 → ⊥
single_none ms [] e k m = elim m [ ]
single_none ms (i ∷ ks) e k m =
    let h = cond_none (eqb (length (tree_edges ms i)) 1) i (first_single ms ks) e in
    ⊎_elim (λ (j : k ≡ i). subst (λ (z : ℕ). length (tree_edges ms z) ≡ 1 → ⊥) (sym j) (eqb-false (length (tree_edges ms i)) 1 h.0)) (λ m. single_none ms ks h.1 k m) (mem_cases m)

pub unclosed_none : (ms : List Side) (i : ℕ) (ks : List ℕ) (cs : List Code) → first_unclosed ms i ks cs ≡ None → Coded ms ks cs
unclosed_none ms i [] cs e = tt
unclosed_none ms i (k ∷ ks) cs e =
    let h = none_cond (closes 1 (around ms k - 2) cs) i (first_unclosed ms (suc i) ks (drop (around ms k - 2) cs)) e in (h.0, unclosed_none ms (suc i) ks (drop (around ms k - 2) cs) h.1)

early_none : (ts : List Tri) (ms : List Side) (i : ℕ) (ks : List ℕ) → first_early ts ms i ks ≡ None → (k : ℕ) → Mem k ks → whole ts ms k ≡ true
early_none ts ms i [] e k m = elim m [ ]
early_none ts ms i (j ∷ ks) e k m =
    let h = none_cond (whole ts ms j) i (first_early ts ms (suc i) ks) e in ⊎_elim (λ (q : k ≡ j). ap (whole ts ms) q ∙ h.0) (λ m. early_none ts ms (suc i) ks h.1 k m) (mem_cases m)

-- no side of a lower triangle: no side twice
pub twice_none : (n : ℕ) (seen : List Side) (us : List Tri) → ((v x y : ℕ) → Link us v x y → v ≡ x → ⊥) → first_twice n seen us ≡ None → Apart (sides us) × ((s : Side) → Mem s (sides us) → Mem s seen → ⊥)
twice_none n seen [] proper e = (no_one, λ s m. elim m [ ])
twice_none n seen (tri x y z ∷ us) proper e =
    let h = cond_none (has_side (side x y) seen || (has_side (side y z) seen || has_side (side z x) seen)) n (first_twice (suc n) (side x y ∷ side y z ∷ side z x ∷ seen) us) e in
    let a = or_parts (has_side (side x y) seen) (has_side (side y z) seen || has_side (side z x) seen) h.0 in
    let b = or_parts (has_side (side y z) seen) (has_side (side z x) seen) a.1 in
    let r = twice_none (suc n) (side x y ∷ side y z ∷ side z x ∷ seen) us (λ v x y l. proper v x y (there l)) h.1 in (
      one_more (λ m. first (mem_cases m) (λ k. r.1 (side x y) k now))
          (one_more (λ m. second (mem_cases m) (λ k. r.1 (side y z) k (later now)))
          (one_more (λ m. r.1 (side z x) m (later (later now))) r.0)),
      λ s m k. out s (mem_cases m) (λ q. r.1 s q (later (later (later k)))) (λ i. has_out (side x y) seen a.0 (mem_eq (sym i) k)) (λ i. has_out (side y z) seen b.0 (mem_eq (sym i) k)) (λ i. has_out (side z x) seen b.1 (mem_eq (sym i) k)),
    )
  where
    xy : x ≡ y → ⊥
    xy = proper x y z (here at_first)

    yz : y ≡ z → ⊥
    yz = proper y z x (here at_second)

    zx : z ≡ x → ⊥
    zx = proper z x y (here at_third)

    first : (side x y ≡ side y z) ⊎ Mem (side x y) (side z x ∷ sides us) → (Mem (side x y) (sides us) → ⊥) → ⊥
    first (inl i) f = xy (cc)
    first (inr m) f = ⊎_elim (λ (i : side x y ≡ side z x). zx (cc)) f (mem_cases m)

    second : (side y z ≡ side z x) ⊎ Mem (side y z) (sides us) → (Mem (side y z) (sides us) → ⊥) → ⊥
    second (inl i) f = yz (cc)
    second (inr m) f = f m

    out : (s : Side) → (s ≡ side x y) ⊎ Mem s (side y z ∷ side z x ∷ sides us) → (Mem s (sides us) → ⊥) → (s ≡ side x y → ⊥) → (s ≡ side y z → ⊥) → (s ≡ side z x → ⊥) → ⊥
    out s (inl i) f a b c = a i
    out s (inr m) f a b c = ⊎_elim b (λ m. ⊎_elim c f (mem_cases m)) (mem_cases m)

-- the marked edges of a closed mesh
module _ (V : ℕ) (ts : List Tri) (bs : List Bool) (closed : Closed V ts) where
  mark_side : (s : Side) → Mem s (marked_of ts bs) → Mem s (sides ts) × (up s ≡ true)
  mark_side s m = kept_mem up (sides ts) (edge_up ts (closed_sided V ts closed) s (marked_mem (edges ts) bs m))

  pub marks_apart : Apart (marked_of ts bs)
  marks_apart = marked_apart (ascending_apart (edges ts) (edges_ascend ts)) bs

  pub marks_rising : (s : Side) → Mem s (marked_of ts bs) → start s < end s
  marks_rising (side u v) m = ltb-true u v (mark_side (side u v) m).1

  pub marks_edges : EdgesIn ts (marked_of ts bs)
  marks_edges v x (inl m) = side_link ts (mark_side (side v x) m).0
  marks_edges v x (inr m) = side_link ts (closed.both_ways (side x v) (mark_side (side x v) m).0)

  pub marks_small : (s : Side) → Mem s (marked_of ts bs) → (start s < V) × (end s < V)
  marks_small (side i j) m =
      let a = marks_edges i j (inl m) in let b = marks_edges j i (inr m) in
      ((closed.fits i j a.0 a.1).0, (closed.fits j i b.0 b.1).0)

-- what no fault says of the marks
pub record Planted (V : ℕ) (ms : List Side) (n : ℕ) : Type 0 where
  pub free : loop_free own ms ≡ true
  pub long : (k : ℕ) → Mem k (trees V ms) → 2 ≤ length (tree_edges ms k)
  pub codes : n ≡ 2 * (length ms - length (trees V ms))

pub planted : (V : ℕ) (ts : List Tri) (bs : List Bool) (n : ℕ) → forest_fault V ts bs n ≡ None → Planted V (marked_of ts bs) n
planted V ts bs n e =
    let a = or_none (unmarked_fault (marked_of ts bs)) _ e in
    let b = or_none (option_map MarkClosesLoop (first_closing own 0 (edges ts) bs)) _ a.1 in
    let c = or_none (option_map SingleEdgeTree (first_single (marked_of ts bs) (trees V (marked_of ts bs)))) _ b.1 in
    record {
      free = closing_none own 0 (edges ts) bs (mapped_none MarkClosesLoop (first_closing own 0 (edges ts) bs) b.0);
      long = λ k m. long k m (single_none (marked_of ts bs) (trees V (marked_of ts bs)) (mapped_none SingleEdgeTree (first_single (marked_of ts bs) (trees V (marked_of ts bs))) c.0) k m);
      codes = eqb-true n (2 * (length (marked_of ts bs) - length (trees V (marked_of ts bs)))) (test_passed (eqb n (2 * (length (marked_of ts bs) - length (trees V (marked_of ts bs))))) CodeCount c.1);
    }
  where
    long : (k : ℕ) → Mem k (trees V (marked_of ts bs)) → (length (tree_edges (marked_of ts bs) k) ≡ 1 → ⊥) → 2 ≤ length (tree_edges (marked_of ts bs) k)
    long k m n = let q = (tree_some V (marked_of ts bs) k m).1 in omega arith

-- and of the codes
pub record Sewn (V : ℕ) (ts : List Tri) (ms : List Side) (cs : List Code) : Type 0 where
  pub coded : Coded ms (trees V ms) cs
  pub wholes : (k : ℕ) → Mem k (trees V ms) → whole ts ms k ≡ true
  pub no_twice : first_twice 0 [] (split_triangles V ts ms cs) ≡ None

pub sewn_well : (V : ℕ) (ts : List Tri) (bs : List Bool) (cs : List Code) → sewing_fault V ts bs cs ≡ None → Sewn V ts (marked_of ts bs) cs
sewn_well V ts bs cs e =
    let ms = marked_of ts bs in
    let ks = trees V ms in
    let a = or_none (option_map CodesOffTree (first_unclosed ms 0 ks cs)) _ e in
    let b = or_none (option_map LoopTooShort (first_early ts ms 0 ks)) _ a.1 in
    record {
      coded = unclosed_none ms 0 ks cs (mapped_none CodesOffTree (first_unclosed ms 0 ks cs) a.0);
      wholes = early_none ts ms 0 ks (mapped_none LoopTooShort (first_early ts ms 0 ks) b.0);
      no_twice = mapped_none SideTwice (first_twice 0 [] (split_triangles V ts ms cs)) b.1;
    }

-- No loop of a tree comes round early, and only an added triangle can have a side twice.
use Rattle.std.proofs.Common.{◌≡◌, ℕ, zero, suc, ◌-◌, ◌<◌, true, cond, eqb, ◌⊎◌, List, [], ◌∷◌, length, Some, None, Option, sym, refl, ap, ◌∙◌, subst, inl, inr, ⊎_elim, arith}
use lib.ListN.{length-map}
use Rattle.std.specs.Option.{option_map}
use Rattle.fault.specs.declared.fault.Fault.TheVariants.{CodesOffTree, LoopTooShort, SideTwice}
use Rattle.fault.specs.declared.fault.Fault.{Fault}
use Rattle.fault.specs.Faults.{or_else, told}
use Rattle.mesh.specs.Lists.{Mem, now, later, Apart}
use Rattle.mesh.specs.Triangles.{Tri}
use Rattle.mesh.specs.Sides.{Side, side, sides}
use Rattle.mesh.specs.Edges.{two_way}
use Rattle.mesh.specs.Closed.{Closed}
use Rattle.forest.specs.Trees.{label, own, loop_free, start, end, tree_edges, trees}
use Rattle.forest.specs.Roots.{root, mirrored}
use Rattle.forest.specs.Loops.{loop, whole, around, hop}
use Rattle.forest.specs.Numbering.{corner_number, renamed}
use Rattle.forest.specs.Polygons.{Code}
use Rattle.forest.specs.Splitting.{first_early, first_twice, first_unclosed, forest_fault, marked_of, sewing_fault, split_triangles, added_triangles, all_numbers, kept_triangles}
use Rattle.forest.specs.Theorems.{Forest, NeverEarly, TwiceAdded, first_with}
use Rattle.mesh.proofs.Members.{apart_le, kept_apart}
use Rattle.mesh.proofs.Tests.{none_some, some_inj}
use Rattle.forest.proofs.Hops.{next, next_in, hop_next}
use Rattle.forest.proofs.Marking.{absent_true}
use Rattle.forest.proofs.Labels.{Ours, InTree, of_mem, tree_side, two_way_length, root_mem, tree_some, two_apart}
use Rattle.forest.proofs.Loops.{loop_length}
use Rattle.forest.proofs.Turning.{Good, good_closed, EdgesIn}
use Rattle.forest.proofs.Means.{labels_meant}
use Rattle.forest.proofs.Rounds.{round_closed, loop_map, loop_keeps, orb_walk}
use Rattle.forest.proofs.Checking.{marks_apart, marks_edges, marks_rising, planted, unclosed_none}
use Rattle.forest.proofs.Forests.{Coded, Ready}
use Rattle.forest.proofs.Sewn.{added_once, kept_once}
use Rattle.forest.proofs.Clashes.{twice_with}

module _ (V : ℕ) (ts : List Tri) (ms : List Side) (g : Good V ts) (edges : EdgesIn ts ms) (free : loop_free own ms ≡ true) (apart : Apart ms) (rising : (s : Side) → Mem s ms → start s < end s) where
  not_round : (k : ℕ) (s : Side) → InTree ms k s → (n : ℕ) → n < around ms k → Mem s (loop (next ts ms) n (next ts ms s)) → ⊥
  not_round k s p n few m = go s p m (round_closed (next ts ms) n s m)
    where
      go : (s : Side) → InTree ms k s → Mem s (loop (next ts ms) n (next ts ms s))
          → (j : ℕ) × (j < n) × (Mem s (loop (next ts ms) (suc j) (next ts ms s))) × ((z : Side) → Mem z (loop (next ts ms) (suc j) (next ts ms s)) → Mem (next ts ms z) (loop (next ts ms) (suc j) (next ts ms s))) → ⊥
      go (side r a) p m o =
          let h = apart_le (λ z. z) (λ x z e. e) (loop (next ts ms) (suc o.0) (next ts ms (side r a))) (two_apart (tree_edges ms k) (kept_apart (λ m. eqb (label ms (start m)) k) apart) (λ s m. rising s (of_mem ms k s m).0)) all in
          let e = two_way_length ms (tree_edges ms k) in
          let l = loop_length (next ts ms) (suc o.0) (next ts ms (side r a)) in
          let q = o.1 in
          omega arith
        where
          ours : (z : Side) → Mem z (loop (next ts ms) (suc o.0) (next ts ms (side r a))) → Ours ms z
          ours z q = (loop_keeps (next ts ms) (InTree ms k) (λ z i. next_in V ts ms g edges k z i) (suc o.0) (next ts ms (side r a)) z (next_in V ts ms g edges k (side r a) p) q).0

          comes : (z : Side) → Mem z (loop (next ts ms) (suc o.0) (next ts ms (side r a))) → (i : ℕ) × Mem z (loop (next ts ms) i (next ts ms z))
          comes z q =
              (n, loop_keeps (next ts ms) (λ z. Mem z (loop (next ts ms) n (next ts ms z))) (λ z i. loop_map (next ts ms) n (next ts ms z) z i) (suc o.0) (next ts ms (side r a)) z (loop_map (next ts ms) n (next ts ms (side r a)) (side r a) m) q)

          each : (z : Side) → InTree ms k z → Mem z (loop (next ts ms) (suc o.0) (next ts ms (side r a)))
          each (side w x) i =
              orb_walk V ts ms g edges free (λ z. Mem z (loop (next ts ms) (suc o.0) (next ts ms (side r a)))) ours o.3 comes ((labels_meant ms r w).0 (p.1 ∙ sym i.1)) a o.2 x i.0

          all : (z : Side) → Mem z (two_way (tree_edges ms k)) → Mem z (loop (next ts ms) (suc o.0) (next ts ms (side r a)))
          all z q = each z (tree_side ms k z q)

  loop_next : (k : ℕ) (n : ℕ) (s : Side) → InTree ms k s → loop (hop ts ms (mirrored ts ms k)) n s ≡ loop (next ts ms) n s
  loop_next k zero s p = refl
  loop_next k (suc n) s p = let e = hop_next V ts ms g edges k s p in ap (λ r. s ∷ r) (ap (loop (hop ts ms (mirrored ts ms k)) n) e ∙ loop_next k n (next ts ms s) (next_in V ts ms g edges k s p))

  pub always_whole : (k : ℕ) → 0 < length (tree_edges ms k) → whole ts ms k ≡ true
  always_whole k h = absent_true (root ms k) (loop N (around ms k - 1) (N (root ms k))) (λ m. not_round k (root ms k) root_in (around ms k - 1) (omega arith) (subst (λ (ss : List Side). Mem (root ms k) ss) same m))
    where
      N : Side → Side
      N s = hop ts ms (mirrored ts ms k) s

      root_in : InTree ms k (root ms k)
      root_in = root_mem ms k h

      same : loop N (around ms k - 1) (N (root ms k)) ≡ loop (next ts ms) (around ms k - 1) (next ts ms (root ms k))
      same = ap (loop N (around ms k - 1)) (hop_next V ts ms g edges k (root ms k) root_in) ∙ loop_next k (around ms k - 1) (next ts ms (root ms k)) (next_in V ts ms g edges k (root ms k) root_in)

pub all_whole : (ts : List Tri) (ms : List Side) (i : ℕ) (ks : List ℕ) → ((k : ℕ) → Mem k ks → whole ts ms k ≡ true) → first_early ts ms i ks ≡ None
all_whole ts ms i [] f = refl
all_whole ts ms i (k ∷ ks) f = ap (λ b. cond b (first_early ts ms (suc i) ks) (Some i)) (f k now) ∙ all_whole ts ms (suc i) ks (λ k m. f k (later m))

-- a fault of one check or of the checks behind it
or_some : (a b : Option Fault) (f : Fault) → or_else a b ≡ Some f → (a ≡ Some f) ⊎ (b ≡ Some f)
or_some None b f e = inr e
or_some (Some g) b f e = inl e

other_fault : (o : Option ℕ) (f : ℕ → Fault) (k : ℕ) → ((n : ℕ) → (told (f n)).number ≡ 32 → ⊥) → option_map f o ≡ Some (LoopTooShort k) → ⊥
other_fault None f k h e = none_some e
other_fault (Some n) f k h e = h n (ap (λ z. (told z).number) (some_inj e))

pub never_early : NeverEarly
never_early V ts bs = (wholes, λ closed n e cs k f. never closed n e cs k f)
  where
    wholes : Forest V ts bs → (k : ℕ) → Mem k (trees V (marked_of ts bs)) → whole ts (marked_of ts bs) k ≡ true
    wholes forest k m =
        let closed = forest.0 in
        always_whole V ts (marked_of ts bs) (good_closed V ts closed) (marks_edges V ts bs closed) forest.1 (marks_apart V ts bs closed) (marks_rising V ts bs closed) k (tree_some V (marked_of ts bs) k m).1

    never : Closed V ts → (n : ℕ) → forest_fault V ts bs n ≡ None → (cs : List Code) (k : ℕ) → sewing_fault V ts bs cs ≡ Some (LoopTooShort k) → ⊥
    never closed n e cs k f =
        ⊎_elim (λ i. other_fault (first_unclosed ms 0 ks cs) CodesOffTree k (λ n z. omega arith) i)
        (λ i. ⊎_elim (λ j. none_some (ap (option_map LoopTooShort) (sym (all_whole ts ms 0 ks (wholes (closed, (planted V ts bs n e).free)))) ∙ j)) (λ j. other_fault (first_twice 0 [] (split_triangles V ts ms cs)) SideTwice k (λ n z. omega arith) j)
        (or_some (option_map LoopTooShort (first_early ts ms 0 ks)) (option_map SideTwice (first_twice 0 [] (split_triangles V ts ms cs))) (LoopTooShort k) i))
        (or_some (option_map CodesOffTree (first_unclosed ms 0 ks cs)) _ (LoopTooShort k) f)
      where
        ms : List Side
        ms = marked_of ts bs

        ks : List ℕ
        ks = trees V (marked_of ts bs)

-- only an added triangle can have a side twice
pub twice_added : TwiceAdded
twice_added V ts bs n cs closed e u =
    twice_with (kept_triangles V ts ms) (added_triangles V ts ms cs) (kept_once V ts ms cs closed (marks_edges V ts bs closed) ready coded) (added_once V ts ms cs closed (marks_edges V ts bs closed) ready coded)
    ∙ ap (λ i. first_with i (sides (kept_triangles V ts ms)) (added_triangles V ts ms cs)) (length-map ts (renamed (corner_number ts ms (trees V ms) (all_numbers V ts ms))))
  where
    ms : List Side
    ms = marked_of ts bs

    coded : Coded ms (trees V ms) cs
    coded = unclosed_none ms 0 (trees V ms) cs u

    ready : (k : ℕ) → Mem k (trees V ms) → Ready ts ms k
    ready k m = let p = planted V ts bs n e in (p.long k m, (never_early V ts bs).0 (closed, p.free) k m)

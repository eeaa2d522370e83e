-- The pairs of all sides, in rising order, are the edges.
use Rattle.std.proofs.Common.{◌≡◌, ℕ, ◌<◌, Bool, true, false, cond, ltb, ◌⊎◌, List, [], ◌∷◌, Some, None, refl, inl, inr, ⊎_elim, arith, ltb-true, lt-ltb, le-ltb}
use Rattle.std.specs.Option.{option_to_list}
use Rattle.mesh.specs.Lists.{Mem, now, later}
use Rattle.mesh.specs.Triangles.{Tri}
use Rattle.mesh.specs.Sides.{Side, side, sides}
use Rattle.mesh.specs.Edges.{edges, rising}
use Rattle.mesh.proofs.Members.{mem_cases, mem_left, mem_right, mem_split, mem_eq}
use Rattle.mesh.proofs.Rise.{ascending_same, rising_ascends, mem_rising, rising_mem, edges_ascend, edge_side, side_edge}
use Rattle.edges.specs.Pairs.{pair_between, pairs}

only : (s t : Side) → Mem s (t ∷ []) → s ≡ t
only s t m = ⊎_elim (λ (e : s ≡ t). e) (λ k. elim k [ ]) (mem_cases m)

-- i < j are the ends of the side u→v or of its reverse
abbrev Ends : ℕ → ℕ → ℕ → ℕ → Type 0
Ends u v i j = (i < j) × ((side i j ≡ side u v) ⊎ (side j i ≡ side u v))

between_ends : (u v i j : ℕ) → Mem (side i j) (option_to_list (pair_between u v)) → Ends u v i j
between_ends u v i j m = go (ltb u v) refl (ltb v u) refl m
  where
    go : (b : Bool) → ltb u v ≡ b → (c : Bool) → ltb v u ≡ c → Mem (side i j) (option_to_list (cond b (Some (side u v)) (cond c (Some (side v u)) None))) → Ends u v i j
    go true p c q m = let e = only (side i j) (side u v) m in let l = ltb-true u v p in let a : i ≡ u = cc in let b : j ≡ v = cc in (omega arith, inl e)
    go false p true q m = let e = only (side i j) (side v u) m in let l = ltb-true v u q in let a : i ≡ v = cc in let b : j ≡ u = cc in (omega arith, inr cc)
    go false p false q m = elim m [ ]

-- a side and its reverse have one pair
ends_between : (i j : ℕ) → i < j → (Mem (side i j) (option_to_list (pair_between i j))) × (Mem (side i j) (option_to_list (pair_between j i)))
ends_between i j h =
    let p = lt-ltb i j h in
    let q = le-ltb j i (omega arith) in
    (simp (p, q) now, simp (p, q) now)

-- the pairs are those of sides and of their reverses
pairs_mem : (ss : List Side) (i j : ℕ) → Mem (side i j) (pairs ss) → (i < j) × (Mem (side i j) ss ⊎ Mem (side j i) ss)
pairs_mem [] i j m = elim m [ ]
pairs_mem (side u v ∷ ss) i j m =
    ⊎_elim {C = (i < j) × (Mem (side i j) (side u v ∷ ss) ⊎ Mem (side j i) (side u v ∷ ss))}
    (λ k. let e = between_ends u v i j k in (e.0, ⊎_elim (λ h. inl (mem_eq h now)) (λ h. inr (mem_eq h now)) e.1))
    (λ k. let r = pairs_mem ss i j k in (r.0, ⊎_elim (λ h. inl (later h)) (λ h. inr (later h)) r.1))
    (mem_split (option_to_list (pair_between u v)) m)

forward_pair : (i j : ℕ) → i < j → {ss : List Side} → Mem (side i j) ss → Mem (side i j) (pairs ss)
forward_pair i j h (now {xs = ss}) = mem_left (pairs ss) (ends_between i j h).0
forward_pair i j h (later {y = side u v} m) = mem_right (option_to_list (pair_between u v)) (forward_pair i j h m)

backward_pair : (i j : ℕ) → i < j → {ss : List Side} → Mem (side j i) ss → Mem (side i j) (pairs ss)
backward_pair i j h (now {xs = ss}) = mem_left (pairs ss) (ends_between i j h).1
backward_pair i j h (later {y = side u v} m) = mem_right (option_to_list (pair_between u v)) (backward_pair i j h m)

pub rising_pairs : (ts : List Tri) → rising (pairs (sides ts)) ≡ edges ts
rising_pairs ts = ascending_same _ _ (rising_ascends (pairs (sides ts))) (edges_ascend ts) to from
  where
    to : (s : Side) → Mem s (rising (pairs (sides ts))) → Mem s (edges ts)
    to (side i j) m = let k = pairs_mem (sides ts) i j (rising_mem (pairs (sides ts)) m) in side_edge ts i j k.0 k.1

    from : (s : Side) → Mem s (edges ts) → Mem s (rising (pairs (sides ts)))
    from (side i j) m = let k = edge_side ts i j m in mem_rising (⊎_elim (λ h. forward_pair i j k.0 h) (λ h. backward_pair i j k.0 h) k.1)

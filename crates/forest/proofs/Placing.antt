-- The places after a split.
use Rattle.std.proofs.Common.{◌≡◌, ℕ, zero, suc, ◌+◌, ◌-◌, ◌<◌, ◌≤◌, Bool, true, false, cond, ltb, List, [], ◌∷◌, ◌++◌, map, length, is_some, Some, None, Option, unwrap_or, sym, refl, ap, ◌∙◌, subst, ⊎_elim, arith, length-append, le-ltb, lt-ltb}
use mathlib.Core.List.{map-append}
use native.Mathlib.Decide.{dec_lt}
use lib.ListN.{length-map}
use Rattle.std.specs.Option.{option_map}
use Rattle.std.specs.List.{slice_get}
use Rattle.fault.specs.declared.fault.Fault.TheVariants.{NoDisplacedPlace}
use Rattle.fault.proofs.Orders.{mapped_none}
use Rattle.place.specs.Kinds.{Kind}
use Rattle.mesh.specs.Lists.{Apart, Mem, later, no_one, now, one_more}
use Rattle.mesh.specs.Triangles.{Tri}
use Rattle.mesh.specs.Sides.{Side, side}
use Rattle.mesh.specs.Meshes.{Vertex, vertex_of, vertex_total}
use Rattle.forest.specs.Marks.{Marked}
use Rattle.forest.specs.Trees.{end, start, trees}
use Rattle.forest.specs.Numbering.{has, numbers, parents}
use Rattle.forest.specs.Splitting.{all_numbers, all_positions, marked_of, split_parents, split_triangles, split_vertices}
use Rattle.forest.specs.Theorems.{Kept, Placed, PlacesMoved}
use Rattle.forest.specs.Places.{added, displaced_at, first_refused, moved, place_after, place_before, with_place}
use Rattle.mesh.proofs.Members.{mem_eq}
use Rattle.mesh.proofs.Tests.{none_some, some_inj}
use Rattle.forest.proofs.Numbers.{entries, entry, numbered_form, numbered_side}
use Rattle.forest.proofs.Checking.{marks_edges}
use Rattle.forest.proofs.Keeping.{number_entry, positions_numbered, split_keeps}

module _ {A : Type 0} where
  pub nth_left : (xs ys : List A) (i : ℕ) → i < length xs → slice_get (xs ++ ys) i ≡ slice_get xs i
  nth_left [] ys i h = absurd (omega arith)
  nth_left (x ∷ xs) ys zero h = refl
  nth_left (x ∷ xs) ys (suc i) h = nth_left xs ys i (omega arith)

  pub nth_right : (xs ys : List A) (i : ℕ) → slice_get (xs ++ ys) (length xs + i) ≡ slice_get ys i
  nth_right [] ys i = ap (slice_get ys) (omega arith)
  nth_right (x ∷ xs) ys i = let e : suc (length xs) + i ≡ suc (length xs + i) = omega arith in ap (slice_get (x ∷ (xs ++ ys))) e ∙ nth_right xs ys i

module _ {P : Type 0} where
  abbrev parent_list : List (Vertex P) → List ℕ
  parent_list ws = map (λ w. w.parent) ws

  with_parents : (n : ℕ) (p : P) (ws : List (Vertex P)) → parent_list (with_place n p ws) ≡ parent_list ws
  with_parents n p [] = refl
  with_parents zero p (w ∷ ws) = refl
  with_parents (suc n) p (w ∷ ws) = ap (λ r. w.parent ∷ r) (with_parents n p ws)

  with_length : (n : ℕ) (p : P) (ws : List (Vertex P)) → length (with_place n p ws) ≡ length ws
  with_length n p [] = refl
  with_length zero p (w ∷ ws) = refl
  with_length (suc n) p (w ∷ ws) = ap suc (with_length n p ws)

  with_same : (n : ℕ) (p : P) (ws : List (Vertex P)) → n < length ws → option_map (λ w. w.place) (slice_get (with_place n p ws) n) ≡ Some p
  with_same n p [] h = absurd (omega arith)
  with_same zero p (w ∷ ws) h = refl
  with_same (suc n) p (w ∷ ws) h = with_same n p ws (omega arith)

  with_other : (n m : ℕ) (p : P) (ws : List (Vertex P)) → (m ≡ n → ⊥) → slice_get (with_place n p ws) m ≡ slice_get ws m
  with_other n m p [] f = refl
  with_other zero zero p (w ∷ ws) f = absurd (f refl)
  with_other zero (suc m) p (w ∷ ws) f = refl
  with_other (suc n) zero p (w ∷ ws) f = refl
  with_other (suc n) (suc m) p (w ∷ ws) f = with_other n m p ws (λ e. f (ap suc e))

module _ {P D : Type 0} (k : Kind P D) (vs : List (Vertex P)) where
  moved_parents : (ss : List Side) (ns : List ℕ) (ds : List D) (ws : List (Vertex P)) → parent_list (moved k vs ss ns ds ws) ≡ parent_list ws
  moved_parents [] ns ds ws = refl
  moved_parents (s ∷ ss) [] ds ws = refl
  moved_parents (s ∷ ss) (n ∷ ns) [] ws = refl
  moved_parents (s ∷ ss) (n ∷ ns) (d ∷ ds) ws = moved_parents ss ns ds (with_place n (place_after k vs s d) ws) ∙ with_parents n (place_after k vs s d) ws

  moved_length : (ss : List Side) (ns : List ℕ) (ds : List D) (ws : List (Vertex P)) → length (moved k vs ss ns ds ws) ≡ length ws
  moved_length [] ns ds ws = refl
  moved_length (s ∷ ss) [] ds ws = refl
  moved_length (s ∷ ss) (n ∷ ns) [] ws = refl
  moved_length (s ∷ ss) (n ∷ ns) (d ∷ ds) ws = moved_length ss ns ds (with_place n (place_after k vs s d) ws) ∙ with_length n (place_after k vs s d) ws

  moved_other : (ss : List Side) (ns : List ℕ) (ds : List D) (ws : List (Vertex P)) (m : ℕ) → (Mem m ns → ⊥) → slice_get (moved k vs ss ns ds ws) m ≡ slice_get ws m
  moved_other [] ns ds ws m f = refl
  moved_other (s ∷ ss) [] ds ws m f = refl
  moved_other (s ∷ ss) (n ∷ ns) [] ws m f = refl
  moved_other (s ∷ ss) (n ∷ ns) (d ∷ ds) ws m f =
      moved_other ss ns ds (with_place n (place_after k vs s d) ws) m (λ q. f (later q)) ∙ with_other n m (place_after k vs s d) ws (λ e. f (mem_eq e now))

  moved_place : (ss : List Side) {ns : List ℕ} → Apart ns → (ds : List D) (ws : List (Vertex P)) (i : ℕ) {s : Side} {n : ℕ} {d : D} → slice_get ss i ≡ Some s → slice_get ns i ≡ Some n → slice_get ds i ≡ Some d → n < length ws
      → option_map (λ w. w.place) (slice_get (moved k vs ss ns ds ws) n) ≡ Some (place_after k vs s d)
  moved_place [] a ds ws i x y z h = none_some x
  moved_place (t ∷ ss) no_one ds ws i x y z h = none_some y
  moved_place (t ∷ ss) (one_more f a) [] ws i x y z h = none_some z
  moved_place (t ∷ ss) (one_more {x = m} {xs = ns} f a) (c ∷ ds) ws zero {s} {n} {d} x y z h =
      let p = place_after k vs t c in
      let e : m ≡ n = some_inj y in
      ap (λ o. option_map (λ w. w.place) o) (moved_other ss ns ds (with_place m p ws) n (λ q. f (mem_eq e q)) ∙ ap (λ j. slice_get (with_place j p ws) n) e)
      ∙ (with_same n p ws h ∙ (ap (λ r. Some (place_after k vs r c)) (some_inj x) ∙ ap (λ r. Some (place_after k vs s r)) (some_inj z)))
  moved_place (t ∷ ss) (one_more {x = m} {xs = ns} f a) (c ∷ ds) ws (suc i) x y z h =
      moved_place ss a ds (with_place m (place_after k vs t c) ws) i x y z (let e = with_length m (place_after k vs t c) ws in omega arith)

  accepts : (ss : List Side) (ns : List ℕ) (ds : List D) → first_refused k vs ss ns ds ≡ None → (i : ℕ) {s : Side} {n : ℕ} {d : D} → slice_get ss i ≡ Some s → slice_get ns i ≡ Some n → slice_get ds i ≡ Some d → displaced_at k vs s d ≡ Some (place_after k vs s d)
  accepts [] ns ds e i x y z = none_some x
  accepts (t ∷ ss) [] ds e i x y z = none_some y
  accepts (t ∷ ss) (m ∷ ns) [] e i x y z = none_some z
  accepts (t ∷ ss) (m ∷ ns) (c ∷ ds) e zero {s} {n} {d} x y z =
      subst (λ (r : Side). displaced_at k vs r d ≡ Some (place_after k vs r d)) (some_inj x) (subst (λ (b : D). displaced_at k vs t b ≡ Some (place_after k vs t b)) (some_inj z) (go (displaced_at k vs t c) e))
    where
      go : (o : Option P) → cond (is_some o) (first_refused k vs ss ns ds) (Some m) ≡ None → o ≡ Some (unwrap_or o (place_before k vs (start t)))
      go None e = none_some (sym e)
      go (Some p) e = refl
  accepts (t ∷ ss) (m ∷ ns) (c ∷ ds) e (suc i) x y z = accepts ss ns ds (go (displaced_at k vs t c) e) i x y z
    where
      go : (o : Option P) → cond (is_some o) (first_refused k vs ss ns ds) (Some m) ≡ None → first_refused k vs ss ns ds ≡ None
      go None e = none_some (sym e)
      go (Some p) e = e

  added_parents : (seen : List ℕ) (n : ℕ) (ss : List Side) (ds : List D) → length vs ≤ n → ((s : Side) → Mem s ss → start s < length vs) → length ss ≤ length ds
      → parent_list (added k vs ss (numbers seen n ss) ds) ≡ parents seen ss
  added_parents seen n [] ds h f l = refl
  added_parents seen n (s ∷ ss) [] h f l = absurd (omega arith)
  added_parents seen n (s ∷ ss) (d ∷ ds) h f l =
      go (has (start s) seen) (f s now) (λ n h. added_parents (start s ∷ seen) n ss ds h (λ s m. f s (later m)) (omega arith))
    where
      rest : ℕ → List (Vertex P)
      rest n = added k vs ss (numbers (start s ∷ seen) n ss) ds

      go : (b : Bool) → start s < length vs → ((n : ℕ) → length vs ≤ n → parent_list (rest n) ≡ parents (start s ∷ seen) ss)
          → parent_list (cond (ltb (cond b n (start s)) (length vs)) (rest (cond b (suc n) n)) (vertex_of (place_after k vs s d) (start s) ∷ rest (cond b (suc n) n)))
          ≡ cond b (start s ∷ parents (start s ∷ seen) ss) (parents (start s ∷ seen) ss)
      go true small r = rw (le-ltb n (length vs) h) (ap (λ q. start s ∷ q) (r (suc n) (omega arith)))
      go false small r = rw (lt-ltb (start s) (length vs) small) (r n h)

  added_place : (seen : List ℕ) (n₀ : ℕ) (ss : List Side) (ds : List D) → length vs ≤ n₀ → ((s : Side) → Mem s ss → start s < length vs)
      → (i : ℕ) {s : Side} {n : ℕ} {d : D} → slice_get ss i ≡ Some s → slice_get (numbers seen n₀ ss) i ≡ Some n → slice_get ds i ≡ Some d → length vs ≤ n
      → (n₀ ≤ n) × (option_map (λ w. w.place) (slice_get (added k vs ss (numbers seen n₀ ss) ds) (n - n₀)) ≡ Some (place_after k vs s d))
  added_place seen n₀ [] ds h f i x y z l = none_some x
  added_place seen n₀ (t ∷ ss) [] h f i x y z l = none_some z
  added_place seen n₀ (t ∷ ss) (c ∷ ds) h f zero {s} {n} {d} x y z l = go (has (start t) seen) (some_inj y) (f t now)
    where
      rest : ℕ → List (Vertex P)
      rest m = added k vs ss (numbers (start t ∷ seen) m ss) ds

      go : (b : Bool) → cond b n₀ (start t) ≡ n → start t < length vs
          → (n₀ ≤ n) × (option_map (λ w. w.place) (slice_get (cond (ltb (cond b n₀ (start t)) (length vs)) (rest (cond b (suc n₀) n₀)) (vertex_of (place_after k vs t c) (start t) ∷ rest (cond b (suc n₀) n₀))) (n - n₀)) ≡ Some (place_after k vs s d))
      go true e small =
          let j : n - n₀ ≡ 0 = omega arith in
          (omega arith, rw (le-ltb n₀ (length vs) h, j) (ap (λ r. Some (place_after k vs r c)) (some_inj x) ∙ ap (λ r. Some (place_after k vs s r)) (some_inj z)))
      go false e small = absurd (omega arith)
  added_place seen n₀ (t ∷ ss) (c ∷ ds) h f (suc i) {s} {n} {d} x y z l =
      go (has (start t) seen) (f t now) y (λ m g y. added_place (start t ∷ seen) m ss ds g (λ s m. f s (later m)) i x y z l)
    where
      rest : ℕ → List (Vertex P)
      rest m = added k vs ss (numbers (start t ∷ seen) m ss) ds

      go : (b : Bool) → start t < length vs → slice_get (numbers (start t ∷ seen) (cond b (suc n₀) n₀) ss) i ≡ Some n
          → ((m : ℕ) → length vs ≤ m → slice_get (numbers (start t ∷ seen) m ss) i ≡ Some n → (m ≤ n) × (option_map (λ w. w.place) (slice_get (rest m) (n - m)) ≡ Some (place_after k vs s d)))
          → (n₀ ≤ n) × (option_map (λ w. w.place) (slice_get (cond (ltb (cond b n₀ (start t)) (length vs)) (rest (cond b (suc n₀) n₀)) (vertex_of (place_after k vs t c) (start t) ∷ rest (cond b (suc n₀) n₀))) (n - n₀)) ≡ Some (place_after k vs s d))
      go true small y r =
          let q = r (suc n₀) (omega arith) y in
          let low = q.0 in
          let j : n - n₀ ≡ suc (n - suc n₀) = omega arith in
          (omega arith, rw (le-ltb n₀ (length vs) h, j) q.1)
      go false small y r = rw (lt-ltb (start t) (length vs) small) (r n₀ h y)

pub places_moved : {P D : Type 0} (k : Kind P D) → PlacesMoved k
places_moved {P} {D} k m bs cs ds closed accepted full none = record { count = count; parents = all_parents; stays = stays; moves = moves }
  where
    V : ℕ
    V = vertex_total m

    ts : List Tri
    ts = m.triangles

    vs : List (Vertex P)
    vs = m.vertices

    ms : List Side
    ms = marked_of m.triangles bs

    ss : List Side
    ss = all_positions V ts ms

    ns : List ℕ
    ns = all_numbers V ts ms

    p : Placed V ms (split_vertices V ts ms) (split_parents V ts ms) ss ns
    p = positions_numbered V ts bs cs closed accepted

    kp : Kept V ts (length ms) (length (trees V ms)) (split_vertices V ts ms) (split_parents V ts ms) (split_triangles V ts ms cs)
    kp = split_keeps V ts bs cs closed accepted

    small : (s : Side) → Mem s ss → start s < length vs
    small s q = at_start s (p.marked s q)
      where
        at_start : (s : Side) → Marked ms (start s) (end s) → start s < V
        at_start (side u v) o = let l = marks_edges V ts bs closed u v o in (closed.fits u v l.0 l.1).0

    all_parents : parent_list (moved k vs ss ns ds vs ++ added k vs ss ns ds) ≡ parent_list vs ++ split_parents V ts ms
    all_parents =
        map-append (λ w. w.parent) (moved k vs ss ns ds vs) (added k vs ss ns ds)
        ∙ (ap (λ r. r ++ parent_list (added k vs ss ns ds)) (moved_parents k vs ss ns ds vs)
        ∙ ap (λ r. parent_list vs ++ r) (added_parents k vs [] V ss ds (omega arith) small (let c = p.count in omega arith)))

    count : length (moved k vs ss ns ds vs ++ added k vs ss ns ds) ≡ split_vertices V ts ms
    count =
        let e = ap length all_parents in
        let g = kp.grown in
        omega (arith, length-map (moved k vs ss ns ds vs ++ added k vs ss ns ds) (λ w. w.parent), length-map vs (λ w. w.parent), length-append (parent_list vs) (split_parents V ts ms))

    same_length : length (moved k vs ss ns ds vs) ≡ length vs
    same_length = moved_length k vs ss ns ds vs

    stays : (v : ℕ) → v < length vs → ((x : ℕ) → Marked ms v x → ⊥) → slice_get (moved k vs ss ns ds vs ++ added k vs ss ns ds) v ≡ slice_get vs v
    stays v h f =
        let l = same_length in
        nth_left (moved k vs ss ns ds vs) (added k vs ss ns ds) v (omega arith) ∙ moved_other k vs ss ns ds vs v (λ q. out (number_entry [] V ss v q))
      where
        out : (s : Side) × Mem (entry s v) (entries [] V ss) → ⊥
        out r = ⊎_elim (λ e. f (end r.0) (subst (λ (z : ℕ). Marked ms z (end r.0)) (sym e.0) (p.marked r.0 (numbered_side [] V ss r.1)))) (λ e. omega (arith, e.0)) (numbered_form [] V ss r.1)

    moves : (i : ℕ) (s : Side) (n : ℕ) (d : D) → slice_get ss i ≡ Some s → slice_get ns i ≡ Some n → slice_get ds i ≡ Some d → option_map (λ w. w.place) (slice_get (moved k vs ss ns ds vs ++ added k vs ss ns ds) n) ≡ displaced_at k vs s d
    moves i s n d x y z = go (dec_lt n (length vs)) ∙ sym (accepts k vs ss ns ds (mapped_none NoDisplacedPlace (first_refused k vs ss ns ds) none) i x y z)
      where
        go : Dec (n < length vs) → option_map (λ w. w.place) (slice_get (moved k vs ss ns ds vs ++ added k vs ss ns ds) n) ≡ Some (place_after k vs s d)
        go (yes h) =
            let l = same_length in
            ap (λ o. option_map (λ w. w.place) o) (nth_left (moved k vs ss ns ds vs) (added k vs ss ns ds) n (omega arith)) ∙ moved_place k vs ss p.once ds vs i x y z h
        go (no h) =
            let l = same_length in
            let r = added_place k vs [] V ss ds (omega arith) small i x y z (omega arith) in
            let e : n ≡ length (moved k vs ss ns ds vs) + (n - V) = omega arith in
            ap (λ j. option_map (λ w. w.place) (slice_get (moved k vs ss ns ds vs ++ added k vs ss ns ds) j)) e
            ∙ (ap (λ o. option_map (λ w. w.place) o) (nth_right (moved k vs ss ns ds vs) (added k vs ss ns ds) (n - V)) ∙ r.1)

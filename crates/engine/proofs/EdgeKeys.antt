-- The keys of a closed mesh's edges: those of the sides that go upward, in rising order.
use Rattle.std.proofs.Common.{◌≡◌, ℕ, zero, suc, ◌+◌, ◌/◌, ◌%◌, ◌<◌, ◌≤◌, Bool, true, false, cond, eqb, ◌⊎◌, List, [], ◌∷◌, ◌++◌, map, length, take, drop, filter, get_or, sym, refl, ap, ◌∙◌, subst, inl, inr, ⊎_elim, arith, append_assoc, append-nil, length-append, eq-eqb, eqb-true}
use Rattle.std.specs.List.{sum_by}
use Rattle.std.specs.List.Sorted.{IsPermutation, IsNonDecreasingBy, IsSorted}
use Rattle.std.specs.Ordering.{nat_cmp}
use Rattle.std.proofs.lemmas.Bool.{cases_lt}
use Rattle.std.proofs.lemmas.List.{length-take-le, take_at}
use Rattle.std.proofs.lemmas.List.Elements.{filter-append}
use Rattle.std.proofs.lemmas.List.Sums.{sum_by-cons}
use Rattle.std.proofs.lemmas.List.Sorted.{length_permutation, sum_by-IsPermutation, IsNonDecreasingBy-from_sort}
use Rattle.mesh.specs.Lists.{Mem, now, later, Apart, no_one, one_more}
use Rattle.mesh.specs.Triangles.{Tri, tri}
use Rattle.mesh.specs.Sides.{Side, side, sides}
use Rattle.mesh.specs.Rings.{Link, here, there, at_first, at_second, at_third}
use Rattle.mesh.specs.Closed.{Closed}
use Rattle.mesh.specs.Edges.{edges, up, Lower, Ascending}
use Rattle.mesh.proofs.Members.{mem_cases, mem_eq, mem_map, map_mem, kept_apart, same_length}
use Rattle.mesh.proofs.Rise.{edges_ascend, edge_side, ascending_apart}
use Rattle.mesh.proofs.Counting.{closed_sided, edge_up, up_edge}
use Rattle.survey.specs.Tables.{Below}
use Rattle.forest.specs.Tables.{key_side, key_sides, Climbing}
use Rattle.engine.specs.Marking.{Upward}
use Rattle.engine.proofs.Marked.{mem_at}

-- ---- the pass over the triangles

-- The keys in front of the table stand for the sides that go upward of the triangles so far, and `left` are the others.
pub record Listing (ts left : List Tri) (n : ℕ) (keys : List ℕ) : Type 0 where
  pub count : n + length (filter up (sides left)) ≡ length (filter up (sides ts))
  pub listed : key_sides (take n keys) ++ filter up (sides left) ≡ filter up (sides ts)
  pub room : length (filter up (sides ts)) ≤ length keys
  pub small : (v x y : ℕ) → Link left v x y → v < 16384

pub none_listed : (V : ℕ) (ts : List Tri) (keys : List ℕ) → Closed V ts → V ≤ 16384 → length (filter up (sides ts)) ≤ length keys → Listing ts ts 0 keys
none_listed V ts keys c few fits = record {
  count = omega arith;
  listed = refl;
  room = fits;
  small = λ v x y l. let h = (c.fits v x y l).0 in omega arith;
}

module _ (ts : List Tri) (t : Tri) (left : List Tri) (n : ℕ) (keys : List ℕ) where
  sides_more : filter up (sides (t ∷ left)) ≡ filter up (sides (t ∷ [])) ++ filter up (sides left)
  sides_more = at t
    where
      at : (t : Tri) → filter up (sides (t ∷ left)) ≡ filter up (sides (t ∷ [])) ++ filter up (sides left)
      at (tri a b c) = filter-append up (sides (tri a b c ∷ [])) (sides left)

  pub next_small : Listing ts (t ∷ left) n keys → Below 16384 t
  next_small i = at t i.small
    where
      at : (t : Tri) → ((v x y : ℕ) → Link (t ∷ left) v x y → v < 16384) → Below 16384 t
      at (tri a b c) h = (h a b c (here at_first), h b c a (here at_second), h c a b (here at_third))

  pub next_room : Listing ts (t ∷ left) n keys → n + length (filter up (sides (t ∷ []))) ≤ length keys
  next_room i = let c = i.count in let r = i.room in let m = ap length sides_more in let l = length-append (filter up (sides (t ∷ []))) (filter up (sides left)) in omega arith

  pub one_listed : (n' : ℕ) (keys' : List ℕ) → Listing ts (t ∷ left) n keys → length keys' ≡ length keys
      → n' ≡ n + length (filter up (sides (t ∷ []))) → key_sides (take n' keys') ≡ key_sides (take n keys) ++ filter up (sides (t ∷ [])) → Listing ts left n' keys'
  one_listed n' keys' i same count listed =
      let c = i.count in
      let r = i.room in
      let m = ap length sides_more in
      let l = length-append (filter up (sides (t ∷ []))) (filter up (sides left)) in
      record {
        count = omega arith;
        listed = ap (λ ss. ss ++ filter up (sides left)) listed
            ∙ append_assoc (key_sides (take n keys)) (filter up (sides (t ∷ []))) (filter up (sides left))
            ∙ ap (λ ss. key_sides (take n keys) ++ ss) (sym sides_more)
            ∙ i.listed;
        room = omega arith;
        small = λ v x y k. i.small v x y (there k);
      }

pub all_listed : (ts : List Tri) (n : ℕ) (keys : List ℕ) → Listing ts [] n keys → (n ≡ length (filter up (sides ts))) × (key_sides (take n keys) ≡ filter up (sides ts))
all_listed ts n keys i = let c = i.count in (omega arith, sym (append-nil (key_sides (take n keys))) ∙ i.listed)

-- ---- lists of numbers without repetition

pub at_mem : (ks : List ℕ) (i : ℕ) → i < length ks → Mem (get_or ks i 0) ks
at_mem [] i l = absurd (omega arith)
at_mem (k ∷ ks) zero l = now
at_mem (k ∷ ks) (suc i) l = later (at_mem ks i (omega arith))

-- how often a number is listed
abbrev times : ℕ → List ℕ → ℕ
times k xs = sum_by (λ x. cond (eqb x k) 1 0) xs

times_more : (k x : ℕ) (xs : List ℕ) → times k (x ∷ xs) ≡ cond (eqb x k) 1 0 + times k xs
times_more k x xs = sum_by-cons (λ x. cond (eqb x k) 1 0) x xs

times_at : (k x : ℕ) (xs : List ℕ) (b : Bool) → eqb x k ≡ b → times k (x ∷ xs) ≡ cond b 1 0 + times k xs
times_at k x xs b e = times_more k x xs ∙ ap (λ (c : Bool). cond c 1 0 + times k xs) e

mem_times : (k : ℕ) (xs : List ℕ) → Mem k xs → 0 < times k xs
mem_times k [] m = elim m [ ]
mem_times k (x ∷ xs) now = let h = times_at k k xs true (eq-eqb k k refl) in omega arith
mem_times k (x ∷ xs) (later m) = let h = times_more k x xs in let i = mem_times k xs m in omega arith

times_mem : (k : ℕ) (xs : List ℕ) → 0 < times k xs → Mem k xs
times_mem k [] h = absurd (omega arith)
times_mem k (x ∷ xs) h = go (eqb x k) refl (times_mem k xs)
  where
    go : (b : Bool) → eqb x k ≡ b → (0 < times k xs → Mem k xs) → Mem k (x ∷ xs)
    go true e f = mem_eq (sym (eqb-true x k e)) now
    go false e f = let m = times_at k x xs false e in later (f (omega arith))

apart_once : {xs : List ℕ} (k : ℕ) → Apart xs → times k xs ≤ 1
apart_once k no_one = omega arith
apart_once k (one_more {x} {xs} n a) = go (eqb x k) refl (apart_once k a)
  where
    go : (b : Bool) → eqb x k ≡ b → times k xs ≤ 1 → times k (x ∷ xs) ≤ 1
    go true e h =
        let m = times_at k x xs true e in
        ⊎_elim (λ (l : 0 < times k xs). absurd (n (mem_eq (eqb-true x k e) (times_mem k xs l)))) (λ (l : times k xs ≤ 0). omega arith) (cases_lt 0 (times k xs))
    go false e h = let m = times_at k x xs false e in omega arith

once_apart : (xs : List ℕ) → ((k : ℕ) → times k xs ≤ 1) → Apart xs
once_apart [] h = no_one
once_apart (x ∷ xs) h =
    one_more
    (λ m. let i = mem_times x xs m in let e = times_at x x xs true (eq-eqb x x refl) in let l = h x in omega arith)
    (once_apart xs (λ k. let e = times_more k x xs in let l = h k in omega arith))

same_times : (k : ℕ) (xs ys : List ℕ) → IsPermutation xs ys → times k ys ≡ times k xs
same_times k xs ys p = sum_by-IsPermutation (λ x. cond (eqb x k) 1 0) xs ys p

moved_apart : (xs ys : List ℕ) → IsPermutation xs ys → Apart xs → Apart ys
moved_apart xs ys p a = once_apart ys (λ k. let e = same_times k xs ys p in let h = apart_once k a in omega arith)

moved_mem : (k : ℕ) (xs ys : List ℕ) → IsPermutation xs ys → Mem k xs → Mem k ys
moved_mem k xs ys p m = times_mem k ys (let e = same_times k xs ys p in let h = mem_times k xs m in omega arith)

moved_back : (k : ℕ) (xs ys : List ℕ) → IsPermutation xs ys → Mem k ys → Mem k xs
moved_back k xs ys p m = times_mem k xs (let e = same_times k xs ys p in let h = mem_times k ys m in omega arith)

map_apart : {A B : Type 0} (f : A → B) (xs : List A) → Apart (map f xs) → Apart xs
map_apart f [] a = no_one
map_apart f (x ∷ xs) (one_more n a) = one_more (λ m. n (mem_map f m)) (map_apart f xs a)

apart_at : (ks : List ℕ) → Apart ks → (i j : ℕ) → i < j → j < length ks → get_or ks i 0 ≡ get_or ks j 0 → ⊥
apart_at [] a i j h l e = absurd (omega arith)
apart_at (k ∷ ks) a i zero h l e = absurd (omega arith)
apart_at (k ∷ ks) (one_more n a) zero (suc j) h l e = n (mem_eq e (at_mem ks j (omega arith)))
apart_at (k ∷ ks) (one_more n a) (suc i) (suc j) h l e = apart_at ks a i j (omega arith) (omega arith) e

sorted_climbs : (ks : List ℕ) → IsNonDecreasingBy (λ x. x) ks → Apart ks → Climbing ks
sorted_climbs ks up a i j h l =
    let le : get_or ks i 0 ≤ get_or ks j 0 = up i j 0 (omega arith) l in
    ⊎_elim (λ (o : get_or ks i 0 < get_or ks j 0). o) (λ (o : get_or ks j 0 ≤ get_or ks i 0). absurd (apart_at ks a i j h l (omega arith))) (cases_lt (get_or ks i 0) (get_or ks j 0))

-- ---- rising keys

lower_key : (j k : ℕ) → j < k → Lower (key_side j) (key_side k)
lower_key j k h = ⊎_elim (λ (l : j / 16384 < k / 16384). inl l) (λ (l : k / 16384 ≤ j / 16384). inr (omega arith, omega arith)) (cases_lt (j / 16384) (k / 16384))

climbing_ascends : (ks : List ℕ) → Climbing ks → Ascending (key_sides ks)
climbing_ascends [] up = tt
climbing_ascends (k ∷ ks) up = (after, climbing_ascends ks (λ i j h l. up (suc i) (suc j) (omega arith) (omega arith)))
  where
    after : (s : Side) → Mem s (key_sides ks) → Lower (key_side k) s
    after s m =
        let r = map_mem key_side ks m in
        let q = mem_at ks r.1 in
        let h : k < r.0 = omega (arith, up 0 (suc q.0) (omega arith) (omega (arith, q.1)), q.2) in
        subst (Lower (key_side k)) (sym r.2) (lower_key k r.0 h)

never_both : (s t : Side) → Lower s t → Lower t s → ⊥
never_both (side a b) (side c d) (inl h) (inl k) = omega arith
never_both (side a b) (side c d) (inl h) (inr k) = omega (arith, k.0)
never_both (side a b) (side c d) (inr h) (inl k) = omega (arith, h.0)
never_both (side a b) (side c d) (inr h) (inr k) = omega (arith, h.1, k.1)

ascending_rest : (s t : Side) (ss ts : List Side) → s ≡ t → Ascending (s ∷ ss) → ((z : Side) → Mem z (s ∷ ss) → Mem z (t ∷ ts)) → (z : Side) → Mem z ss → Mem z ts
ascending_rest s t ss ts e a f z m =
    ⊎_elim (λ (i : z ≡ t). let h = subst (Lower s) (i ∙ sym e) (a.0 z m) in absurd (never_both s s h h)) (λ k. k) (mem_cases (f z (later m)))

-- rising lists with the same members are equal
ascending_same : (ss ts : List Side) → Ascending ss → Ascending ts → ((z : Side) → Mem z ss → Mem z ts) → ((z : Side) → Mem z ts → Mem z ss) → ss ≡ ts
ascending_same [] [] a b f g = refl
ascending_same [] (t ∷ ts) a b f g = elim (g t now) [ ]
ascending_same (s ∷ ss) [] a b f g = elim (f s now) [ ]
ascending_same (s ∷ ss) (t ∷ ts) a b f g =
    let e = heads (mem_cases (f s now)) (mem_cases (g t now)) in
    let r = ascending_same ss ts a.1 b.1 (ascending_rest s t ss ts e a f) (ascending_rest t s ts ss (sym e) b g) in cc
  where
    heads : (s ≡ t) ⊎ Mem s ts → (t ≡ s) ⊎ Mem t ss → s ≡ t
    heads (inl e) k = e
    heads (inr m) (inl e) = sym e
    heads (inr m) (inr k) = absurd (never_both s t (a.0 t k) (b.0 s m))

-- ---- the edges

-- rising keys whose sides are the edges
pub record EdgeKeys (ts : List Tri) (ks : List ℕ) : Type 0 where
  pub listed : key_sides ks ≡ edges ts
  pub climbing : Climbing ks
  pub upward : Upward ks

edges_upward : (ts : List Tri) (ks : List ℕ) → key_sides ks ≡ edges ts → Upward ks
edges_upward ts ks e i l =
    let k = get_or ks i 0 in
    (edge_side ts (k / 16384) (k % 16384) (subst (Mem (key_side k)) e (mem_map key_side (at_mem ks i l)))).0

-- climbing keys of just the sides that are edges
pub climbing_edges : (ts : List Tri) (ks : List ℕ) → Climbing ks → ((s : Side) → Mem s (key_sides ks) → Mem s (edges ts)) → ((s : Side) → Mem s (edges ts) → Mem s (key_sides ks)) → EdgeKeys ts ks
climbing_edges ts ks up f g =
    let e = ascending_same (key_sides ks) (edges ts) (climbing_ascends ks up) (edges_ascend ts) f g in
    record { listed = e; climbing = up; upward = edges_upward ts ks e }

-- in a closed mesh each edge is the side that goes upward of one triangle
pub ups_counted : (V : ℕ) (ts : List Tri) → Closed V ts → length (filter up (sides ts)) ≡ length (edges ts)
ups_counted V ts c = same_length (kept_apart up c.once) (ascending_apart (edges ts) (edges_ascend ts)) (up_edge ts) (edge_up ts (closed_sided V ts c))

sorted_edges : (V : ℕ) (ts : List Tri) → Closed V ts → (xs ys : List ℕ) → key_sides xs ≡ filter up (sides ts) → IsPermutation xs ys → IsNonDecreasingBy (λ x. x) ys → EdgeKeys ts ys
sorted_edges V ts c xs ys e p rise = climbing_edges ts ys (sorted_climbs ys rise (moved_apart xs ys p once)) there back
  where
    once : Apart xs
    once = map_apart key_side xs (subst Apart (sym e) (kept_apart up c.once))

    there : (s : Side) → Mem s (key_sides ys) → Mem s (edges ts)
    there s m = let r = map_mem key_side ys m in up_edge ts s (subst (Mem s) e (mem_eq r.2 (mem_map key_side (moved_back r.0 xs ys p r.1))))

    back : (s : Side) → Mem s (edges ts) → Mem s (key_sides ys)
    back s m = let r = map_mem key_side xs (subst (Mem s) (sym e) (edge_up ts (closed_sided V ts c) s m)) in mem_eq r.2 (mem_map key_side (moved_mem r.0 xs ys p r.1))

-- the front of a table, sorted
pub front_sorted : (V : ℕ) (ts : List Tri) → Closed V ts → (n : ℕ) (keys ys : List ℕ) → n ≡ length (filter up (sides ts)) → key_sides (take n keys) ≡ filter up (sides ts)
    → length (filter up (sides ts)) ≤ length keys → IsPermutation (take n keys) ys → IsSorted nat_cmp ys → EdgeKeys ts (take n (ys ++ drop n keys))
front_sorted V ts c n keys ys count e fits p rise =
    let long : length ys ≡ n = length_permutation (take n keys) ys p ∙ length-take-le n keys (omega arith) in
    subst (EdgeKeys ts) (sym (take_at ys (drop n keys) n long)) (sorted_edges V ts c (take n keys) ys e p (IsNonDecreasingBy-from_sort (λ x. x) ys rise))

-- Following back after a split.
use Rattle.std.proofs.Common.{◌≡◌, ℕ, zero, suc, ◌+◌, ◌-◌, ◌<◌, ltb, List, [], ◌∷◌, ◌++◌, map, length, get_or, take, Some, sym, refl, ap, ◌∙◌, arith, le-ltb, lt-ltb}
use native.Mathlib.Decide.{dec_lt}
use Rattle.std.specs.List.{slice_get}
use Rattle.std.proofs.lemmas.Option.{slice_get-get_or}
use Rattle.std.proofs.lemmas.Bool.{cond-false, cond-true}
use Rattle.mesh.specs.Lists.{Mem}
use Rattle.mesh.specs.Triangles.{Tri, tri}
use Rattle.mesh.specs.Rings.{Link, at_first, at_second, at_third, here, there}
use Rattle.mesh.specs.Follow.{back_step, back_steps, follow_back, smaller_parent}
use Rattle.forest.specs.Splitting.{marked_of, split_parents, split_triangles}
use Rattle.forest.specs.Theorems.{FollowsBack, origin, TrianglesFollow, followed, led_back}
use Rattle.mesh.proofs.Following.{enough_steps, steps_alike}
use Rattle.forest.proofs.Placing.{nth_left, nth_right}
use Rattle.forest.proofs.Loops.{nth_mem}
use Rattle.forest.proofs.Keeping.{split_keeps}

module _ (V : ℕ) (qs ps : List ℕ) (full : length qs ≡ V) (low : (p : ℕ) → Mem p ps → p < V) where
  follow_old : (u : ℕ) → u < V → follow_back (qs ++ ps) u ≡ follow_back qs u
  follow_old u h = steps_alike u (qs ++ ps) qs u (λ w k. nth_left qs ps w (omega arith))

  follow_new : (i : ℕ) → i < length ps → follow_back (qs ++ ps) (V + i) ≡ follow_back qs (get_or ps i 0)
  follow_new i h = go (V + i) refl
    where
      p : ℕ
      p = get_or ps i 0

      small : p < V
      small = low p (nth_mem ps 0 i h)

      there : slice_get (qs ++ ps) (V + i) ≡ Some p
      there = ap (λ n. slice_get (qs ++ ps) (n + i)) (sym full) ∙ (nth_right qs ps i ∙ slice_get-get_or ps i 0 h)

      go : (u : ℕ) → u ≡ V + i → follow_back (qs ++ ps) u ≡ follow_back qs p
      go zero e = let s = small in absurd (omega arith)
      go (suc u) e =
          let s = small in
          let a : back_step (qs ++ ps) (suc u) ≡ p = ap (λ o. smaller_parent o (suc u)) (ap (slice_get (qs ++ ps)) e ∙ there) ∙ cond-true (ltb p (suc u)) p (suc u) (lt-ltb p (suc u) (omega arith)) in
          ap (back_steps u (qs ++ ps)) a ∙ (enough_steps u p (qs ++ ps) p (omega arith) (omega arith) ∙ follow_old p s)

pub follows_back : FollowsBack
follows_back V qs ps full low u h = go (dec_lt u V)
  where
    go : Dec (u < V) → follow_back (qs ++ ps) u ≡ follow_back qs (origin V ps u)
    go (yes k) = follow_old V qs ps full low u k ∙ sym (ap (follow_back qs) (cond-true (ltb u V) u (get_or ps (u - V) 0) (lt-ltb u V k)))
    go (no k) =
        let e : V + (u - V) ≡ u = omega arith in
        ap (follow_back (qs ++ ps)) (sym e) ∙ (follow_new V qs ps full low (u - V) (omega arith) ∙ sym (ap (follow_back qs) (cond-false (ltb u V) u (get_or ps (u - V) 0) (le-ltb u V (omega arith)))))

-- triangles that lead back, followed back
leads_follow : (V : ℕ) (qs ps : List ℕ) → length qs ≡ V → ((p : ℕ) → Mem p ps → p < V) → (us : List Tri) → ((v x y : ℕ) → Link us v x y → v < V + length ps) → map (followed (qs ++ ps)) us ≡ map (followed qs) (map (led_back V ps) us)
leads_follow V qs ps full low [] h = refl
leads_follow V qs ps full low (tri x y z ∷ us) h =
    let a = follows_back V qs ps full low x (h x y z (here at_first)) in
    let b = follows_back V qs ps full low y (h y z x (here at_second)) in
    let c = follows_back V qs ps full low z (h z x y (here at_third)) in
    let r = leads_follow V qs ps full low us (λ v x y l. h v x y (there l)) in
    cc

take_link : (n : ℕ) (us : List Tri) {v x y : ℕ} → Link (take n us) v x y → Link us v x y
take_link zero us l = elim l [ ]
take_link (suc n) [] l = elim l [ ]
take_link (suc n) (u ∷ us) (here c) = here c
take_link (suc n) (u ∷ us) (there l) = there (take_link n us l)

pub triangles_follow : TrianglesFollow
triangles_follow V ts bs cs qs closed accepted full =
    let k = split_keeps V ts bs cs closed accepted in
    let us = split_triangles V ts (marked_of ts bs) cs in
    leads_follow V qs (split_parents V ts (marked_of ts bs)) full k.old_parents (take (length ts) us) (λ v x y l. let f = (k.closed.fits v x y (take_link (length ts) us l)).0 in let g = k.grown in omega arith)
    ∙ ap (map (followed qs)) k.old_triangles

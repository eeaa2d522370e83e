-- Following back comes to its end.
use Rattle.std.proofs.Common.{◌≡◌, ℕ, zero, suc, ◌<◌, ◌≤◌, Bool, true, false, cond, ltb, ◌⊎◌, List, Some, None, Option, sym, refl, ap, ◌∙◌, subst, inl, inr, ⊎_elim, arith, ltb-false, ltb-true}
use Rattle.std.specs.List.{slice_get}
use Rattle.mesh.specs.Follow.{smaller_parent, back_step, back_steps, stays, goes, EndsAt, FollowEnds}
use Rattle.mesh.proofs.Tests.{some_inj, none_some}

-- a step stays, or falls
step_cases : (o : Option ℕ) (v : ℕ) → (smaller_parent o v ≡ v) ⊎ (smaller_parent o v < v)
step_cases None v = inl refl
step_cases (Some p) v = go (ltb p v) refl
  where
    go : (b : Bool) → ltb p v ≡ b → (cond b p v ≡ v) ⊎ (cond b p v < v)
    go true e = inr (ltb-true p v e)
    go false e = inl refl

pub still : (n : ℕ) (ps : List ℕ) (v : ℕ) → back_step ps v ≡ v → back_steps n ps v ≡ v
still zero ps v e = refl
still (suc n) ps v e = ap (back_steps n ps) e ∙ still n ps v e

-- with a step for each number below, the steps come to the end
steps_end : (n : ℕ) (ps : List ℕ) (v : ℕ) → v ≤ n → EndsAt ps v (back_steps n ps v)
steps_end zero ps v h = record { leads = stays; ends = λ p e. omega arith }
steps_end (suc n) ps v h = go (λ p l. steps_end n ps p l) (slice_get ps v) refl
  where
    at_end : back_step ps v ≡ v → ((p : ℕ) → slice_get ps v ≡ Some p → v ≤ p) → EndsAt ps v (back_steps n ps (back_step ps v))
    at_end e f = subst (λ (w : ℕ). EndsAt ps v w) (sym (ap (back_steps n ps) e ∙ still n ps v e)) (record { leads = stays; ends = f })

    onward : (p : ℕ) → slice_get ps v ≡ Some p → p < v → EndsAt ps p (back_steps n ps p) → back_step ps v ≡ p → EndsAt ps v (back_steps n ps (back_step ps v))
    onward p e l r i = subst (λ (w : ℕ). EndsAt ps v w) (sym (ap (back_steps n ps) i)) (record { leads = goes e l r.leads; ends = r.ends })

    parent : ((p : ℕ) → p ≤ n → EndsAt ps p (back_steps n ps p)) → (p : ℕ) → slice_get ps v ≡ Some p → (b : Bool) → ltb p v ≡ b → EndsAt ps v (back_steps n ps (back_step ps v))
    parent f p e true i = let l = ltb-true p v i in onward p e l (f p (omega arith)) (ap (λ (o : Option ℕ). smaller_parent o v) e ∙ ap (λ (b : Bool). cond b p v) i)
    parent f p e false i =
        let l = ltb-false p v i in
        at_end (ap (λ (o : Option ℕ). smaller_parent o v) e ∙ ap (λ (b : Bool). cond b p v) i) (λ q k. let d = some_inj (sym e ∙ k) in omega arith)

    go : ((p : ℕ) → p ≤ n → EndsAt ps p (back_steps n ps p)) → (o : Option ℕ) → slice_get ps v ≡ o → EndsAt ps v (back_steps n ps (back_step ps v))
    go f None e = at_end (ap (λ (o : Option ℕ). smaller_parent o v) e) (λ p k. none_some (sym e ∙ k))
    go f (Some p) e = parent f p e (ltb p v) refl

pub follow_ends : FollowEnds
follow_ends ps v = steps_end v ps v (omega arith)

-- more steps than the number of the vertex change nothing
pub enough_steps : (n m : ℕ) (ps : List ℕ) (v : ℕ) → v ≤ n → v ≤ m → back_steps n ps v ≡ back_steps m ps v
enough_steps zero m ps v h k = ⊎_elim (λ e. sym (still m ps v e)) (λ e. absurd (omega arith)) (step_cases (slice_get ps v) v)
enough_steps (suc n) zero ps v h k = ⊎_elim (λ e. still (suc n) ps v e) (λ e. absurd (omega arith)) (step_cases (slice_get ps v) v)
enough_steps (suc n) (suc m) ps v h k = ⊎_elim at_end (λ e. enough_steps n m ps (back_step ps v) (omega arith) (omega arith)) (step_cases (slice_get ps v) v)
  where
    at_end : back_step ps v ≡ v → back_steps n ps (back_step ps v) ≡ back_steps m ps (back_step ps v)
    at_end e = ap (back_steps n ps) e ∙ (still n ps v e ∙ sym (ap (back_steps m ps) e ∙ still m ps v e))

-- two lists of parents that agree up to v lead v alike
pub steps_alike : (n : ℕ) (ps qs : List ℕ) (v : ℕ) → ((w : ℕ) → w ≤ v → slice_get ps w ≡ slice_get qs w) → back_steps n ps v ≡ back_steps n qs v
steps_alike zero ps qs v f = refl
steps_alike (suc n) ps qs v f =
    let e : back_step ps v ≡ back_step qs v = ap (λ o. smaller_parent o v) (f v (omega arith)) in
    steps_alike n ps qs (back_step ps v) (λ w h. f w (low (step_cases (slice_get ps v) v) w h)) ∙ ap (back_steps n qs) e
  where
    low : (back_step ps v ≡ v) ⊎ (back_step ps v < v) → (w : ℕ) → w ≤ back_step ps v → w ≤ v
    low (inl e) w h = omega arith
    low (inr e) w h = omega arith

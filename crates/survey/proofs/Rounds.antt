-- One turn of the walk round a vertex.
use Rattle.std.proofs.Common.{◌≡◌, ℕ, suc, ◌+◌, ◌-◌, ◌<◌, Bool, false, eqb, List, Some, None, Option, refl, ap, ◌∙◌, arith, ne_eqb}
use Rattle.mesh.specs.Triangles.{Tri}
use Rattle.std.proofs.lemmas.Bool.{cond-false}
use Rattle.survey.specs.Ringwalk.{ring_step, comes_round}

abbrev pub on_from : List Tri → ℕ → ℕ → ℕ → Option ℕ → Bool
on_from ts v a n (Some y) = comes_round ts v a n y
on_from ts v a n None = false

pub round_suc : (ts : List Tri) (v a n x : ℕ) (o : Option ℕ) → (x ≡ a → ⊥) → ring_step ts v x ≡ o → comes_round ts v a (suc n) x ≡ on_from ts v a n o
round_suc ts v a n x o f e =
    cond-false (eqb x a) false _ (ne_eqb x a f) ∙ ap (λ (o : Option ℕ). elim o [ Some y ↦ comes_round ts v a n y | None ↦ false ]) e ∙ go o
  where
    go : (o : Option ℕ) → elim o [ Some y ↦ comes_round ts v a n y | None ↦ false ] ≡ on_from ts v a n o
    go (Some y) = refl
    go None = refl

pub round_more : (ts : List Tri) (v a n i x y : ℕ) → i < n → (x ≡ a → ⊥) → ring_step ts v x ≡ Some y → comes_round ts v a (n - i) x ≡ comes_round ts v a (n - (i + 1)) y
round_more ts v a n i x y h f e = let k : n - i ≡ suc (n - (i + 1)) = omega arith in ap (λ (m : ℕ). comes_round ts v a m x) k ∙ round_suc ts v a (n - (i + 1)) x (Some y) f e

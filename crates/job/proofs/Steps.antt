-- One step back, and one turn of following back.
use Rattle.std.proofs.Common.{◌≡◌, ℕ, suc, ◌+◌, ◌-◌, ◌<◌, min, cond, ltb, List, Some, None, Option, sym, ap, ◌∙◌, arith}
use Rattle.std.specs.List.{slice_get}
use Rattle.std.proofs.lemmas.Bool.Decides.{nat_tests}
use Rattle.std.proofs.lemmas.Option.{slice_get-map}
use Rattle.mesh.specs.Meshes.{Mesh, parents, parent_at}
use Rattle.mesh.specs.Follow.{smaller_parent, back_step, back_steps}

parent_listed : {P : Type 0} (m : Mesh P) (v : ℕ) → slice_get (parents m) v ≡ parent_at m v
parent_listed m v = slice_get-map (λ x. x.parent) m.vertices v

lower_of : (p v : ℕ) → min p v ≡ cond (ltb p v) p v
lower_of p v = grind (arith, nat_tests)

pub step_some : {P : Type 0} (m : Mesh P) (v p : ℕ) → Some p ≡ parent_at m v → min p v ≡ back_step (parents m) v
step_some m v p e = lower_of p v ∙ ap (λ (o : Option ℕ). smaller_parent o v) (e ∙ sym (parent_listed m v))

pub step_none : {P : Type 0} (m : Mesh P) (v : ℕ) → None ≡ parent_at m v → v ≡ back_step (parents m) v
step_none m v e = ap (λ (o : Option ℕ). smaller_parent o v) (e ∙ sym (parent_listed m v))

pub back_more : (ps : List ℕ) (n i at next : ℕ) → i < n → next ≡ back_step ps at → back_steps (n - i) ps at ≡ back_steps (n - (i + 1)) ps next
back_more ps n i at next h e = let k : n - i ≡ suc (n - (i + 1)) = omega arith in ap (λ (m : ℕ). back_steps m ps at) k ∙ ap (back_steps (n - (i + 1)) ps) (sym e)

-- The counts of a sheet with a right layout.
use Rattle.std.proofs.Common.{◌≡◌, ℕ, List, None, Option, sym, ap, ◌∙◌}
use Rattle.fault.specs.declared.fault.Fault.{Fault}
use Rattle.place.specs.Kinds.{Kind}
use Rattle.sheet.specs.Layout.{vertices_of, triangles_of, layout_fault}
use Rattle.sheet.specs.Content.{count_unless, vertices_in, triangles_in}

-- where the layout is right, the counts are those of the fields
pub vertices_right : {P D : Type 0} (k : Kind P D) (bs : List ℕ) (V : ℕ) → layout_fault k bs ≡ None → V ≡ vertices_of bs → V ≡ vertices_in k bs
unfolding vertices_in
vertices_right k bs V e v = v ∙ sym (ap (λ (o : Option Fault). count_unless o (vertices_of bs)) e)

pub triangles_right : {P D : Type 0} (k : Kind P D) (bs : List ℕ) (T : ℕ) → layout_fault k bs ≡ None → T ≡ triangles_of bs → T ≡ triangles_in k bs
unfolding triangles_in
triangles_right k bs T e t = t ∙ sym (ap (λ (o : Option Fault). count_unless o (triangles_of bs)) e)

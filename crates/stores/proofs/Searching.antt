-- The search for a side over the records in use.
use Rattle.std.proofs.Common.{◌≡◌, ℕ, ◌+◌, cond, List, [], ◌∷◌, map, is_some, Some, None, Option, refl}
use Rattle.std.specs.List.{position_from}
use Rattle.std.specs.Option.{option_map}
use Rattle.mesh.specs.Triangles.{Tri}
use Rattle.mesh.specs.Sides.{corner_of, lies_here, side_from}
use Rattle.mesh.proofs.Links.{first_from}

-- the side question's answer is the first place at which a triangle has the side
pub side_position : {X : Type 0} (f : X → Tri) (u v i : ℕ) (xs : List X) → position_from (λ x. is_some (corner_of u v (f x))) i xs ≡ first_from u v i (map f xs)
side_position f u v i [] = refl
side_position f u v i (x ∷ xs) = go (corner_of u v (f x)) (side_position f u v (i + 1) xs)
  where
    go : (o : Option ℕ) → position_from (λ x. is_some (corner_of u v (f x))) (i + 1) xs ≡ first_from u v (i + 1) (map f xs) → cond (is_some o) (Some i) (position_from (λ x. is_some (corner_of u v (f x))) (i + 1) xs) ≡ option_map (λ l. l.triangle) (lies_here i o (side_from u v (i + 1) (map f xs)))
    go None e = e
    go (Some k) e = refl

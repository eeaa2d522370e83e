-- Triangles by their numbers, three for each.
use Rattle.std.proofs.Common.{◌≡◌, ap, ℕ, zero, suc, ◌+◌, ◌*◌, ◌/◌, ◌<◌, List, [], ◌∷◌, length, get_or, Some, refl, ◌∙◌, arith}
use Rattle.std.specs.List.{slice_get}
use Rattle.mesh.specs.Triangles.{tri}
use Rattle.forest.specs.Tables.{word_tris}

-- the triangle at t
pub word_at : (ws : List ℕ) (t : ℕ) → 3 * t + 2 < length ws → slice_get (word_tris ws) t ≡ Some (tri (get_or ws (3 * t) 0) (get_or ws (3 * t + 1) 0) (get_or ws (3 * t + 2) 0))
word_at [] t h = absurd (omega arith)
word_at (a ∷ []) t h = absurd (omega arith)
word_at (a ∷ b ∷ []) t h = absurd (omega arith)
word_at (a ∷ b ∷ c ∷ ws) zero h = refl
word_at (a ∷ b ∷ c ∷ ws) (suc t) h =
    word_at ws t (omega arith) ∙ (λ j. Some (tri (get_or (a ∷ b ∷ c ∷ ws) (x j) 0) (get_or (a ∷ b ∷ c ∷ ws) (y j) 0) (get_or (a ∷ b ∷ c ∷ ws) (z j) 0)))
  where
    x : suc (suc (suc (3 * t))) ≡ 3 * suc t
    x = omega arith

    y : suc (suc (suc (3 * t + 1))) ≡ 3 * suc t + 1
    y = omega arith

    z : suc (suc (suc (3 * t + 2))) ≡ 3 * suc t + 2
    z = omega arith

pub words_counted : (ws : List ℕ) → length (word_tris ws) ≡ length ws / 3
words_counted [] = refl
words_counted (a ∷ []) = refl
words_counted (a ∷ b ∷ []) = refl
words_counted (a ∷ b ∷ c ∷ ws) = ap suc (words_counted ws) ∙ (let e : suc (length ws / 3) ≡ suc (suc (suc (length ws))) / 3 = omega arith in e)

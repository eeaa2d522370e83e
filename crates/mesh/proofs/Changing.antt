-- Lists with one item changed.
use Rattle.std.proofs.Common.{◌≡◌, ℕ, zero, suc, List, [], ◌∷◌, length, get_or, set, refl, ap}
use Rattle.std.specs.Option.{option_map}
use Rattle.std.specs.List.{slice_get}
use Rattle.mesh.specs.Growth.{changed}

-- a change is a write of what the item becomes
pub changed_set : {A : Type 0} (f : A → A) (i : ℕ) (xs : List A) (d : A) → changed f i xs ≡ set xs i (f (get_or xs i d))
changed_set f i [] d = refl
changed_set f zero (x ∷ xs) d = refl
changed_set f (suc i) (x ∷ xs) d = ap (λ ys. x ∷ ys) (changed_set f i xs d)

pub length_changed : {A : Type 0} (f : A → A) (i : ℕ) (xs : List A) → length (changed f i xs) ≡ length xs
length_changed f i [] = refl
length_changed f zero (x ∷ xs) = refl
length_changed f (suc i) (x ∷ xs) = ap suc (length_changed f i xs)

pub changed_here : {A : Type 0} (f : A → A) (i : ℕ) (xs : List A) → slice_get (changed f i xs) i ≡ option_map f (slice_get xs i)
changed_here f i [] = refl
changed_here f zero (x ∷ xs) = refl
changed_here f (suc i) (x ∷ xs) = changed_here f i xs

pub changed_elsewhere : {A : Type 0} (f : A → A) (i j : ℕ) (xs : List A) → (j ≡ i → ⊥) → slice_get (changed f i xs) j ≡ slice_get xs j
changed_elsewhere f i j [] n = refl
changed_elsewhere f zero zero (x ∷ xs) n = absurd (n refl)
changed_elsewhere f zero (suc j) (x ∷ xs) n = refl
changed_elsewhere f (suc i) zero (x ∷ xs) n = refl
changed_elsewhere f (suc i) (suc j) (x ∷ xs) n = changed_elsewhere f i j xs (λ e. n (ap suc e))

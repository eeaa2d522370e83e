-- Members of lists, and lists without repetition.
use Rattle.std.specs.Prelude.{List, [], ◌∷◌}

-- x is a member of the list
pub data Mem {A : Type 0} (x : A) : List A → Type 0 where
  now : {xs : List A} → Mem x (x ∷ xs)
  later : {y : A} {xs : List A} → Mem x xs → Mem x (y ∷ xs)

-- no two members of the list are equal
pub data Apart {A : Type 0} : List A → Type 0 where
  no_one : Apart []
  one_more : {x : A} {xs : List A} → (Mem x xs → ⊥) → Apart xs → Apart (x ∷ xs)

-- The records in use, the front of a table.
use Rattle.std.proofs.Common.{◌≡◌, ℕ, ◌+◌, ◌<◌, ◌≤◌, List, [], ◌∷◌, ◌++◌, map, length, get_or, take, set, Some, None, sym, ap, ◌∙◌, arith}
use lib.Seq.{take-set-lt}
use Rattle.std.specs.List.{slice_get}
use Rattle.std.proofs.lemmas.Option.{slice_get-get_or, slice_get_past}
use Rattle.std.proofs.lemmas.List.{length-take-le, length-map, get_or-take, get_or-map, take_more_set, map_push, map-set}
use Rattle.mesh.specs.Growth.{changed}
use Rattle.mesh.proofs.Changing.{changed_set}
use Rattle.stores.specs.Records.{front}

pub length_front : {X Y : Type 0} (f : X → Y) (n : ℕ) (xs : List X) → n ≤ length xs → length (front f n xs) ≡ n
length_front f n xs k = length-map (take n xs) f ∙ length-take-le n xs k

pub front_at : {X Y : Type 0} (f : X → Y) (n : ℕ) (xs : List X) (i : ℕ) (d : X) → i < n → n ≤ length xs → get_or (front f n xs) i (f d) ≡ f (get_or xs i d)
front_at f n xs i d h k =
    let l : length (take n xs) ≡ n = length-take-le n xs k in
    get_or-map f (take n xs) i d (f d) (omega arith) ∙ ap f (get_or-take n xs i d h)

pub front_there : {X Y : Type 0} (f : X → Y) (n : ℕ) (xs : List X) (i : ℕ) (d : X) → i < n → n ≤ length xs → slice_get (front f n xs) i ≡ Some (f (get_or xs i d))
front_there f n xs i d h k =
    let l : length (front f n xs) ≡ n = length_front f n xs k in
    slice_get-get_or (front f n xs) i (f d) (omega arith) ∙ ap Some (front_at f n xs i d h k)

pub front_past : {X Y : Type 0} (f : X → Y) (n : ℕ) (xs : List X) (i : ℕ) → n ≤ i → n ≤ length xs → slice_get (front f n xs) i ≡ None
front_past f n xs i h k =
    let l : length (front f n xs) ≡ n = length_front f n xs k in
    slice_get_past (front f n xs) i (omega arith)

-- a record written behind the last one in use
pub front_push : {X Y : Type 0} (f : X → Y) (n : ℕ) (xs : List X) (x : X) (y : Y) → n < length xs → f x ≡ y → front f (n + 1) (set xs n x) ≡ front f n xs ++ (y ∷ [])
front_push f n xs x y h e = ap (map f) (take_more_set xs n x h) ∙ map_push f (take n xs) x ∙ ap (λ z. front f n xs ++ (z ∷ [])) e

-- a record in use written again
pub front_changed : {X Y : Type 0} (f : X → Y) (change : Y → Y) (n : ℕ) (xs : List X) (i : ℕ) (x d : X) → i < n → n ≤ length xs → f x ≡ change (f (get_or xs i d)) → front f n (set xs i x) ≡ changed change i (front f n xs)
front_changed f change n xs i x d h k e =
    let ys = front f n xs in
    ap (map f) (take-set-lt n xs i x h) ∙ map-set f (take n xs) i x ∙ ap (set ys i) (e ∙ sym (ap change (front_at f n xs i d h k))) ∙ sym (changed_set change i ys (f d))

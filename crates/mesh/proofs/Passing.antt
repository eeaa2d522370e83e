-- One step of a pass over a list.
use Rattle.std.proofs.Common.{◌≡◌, ℕ, zero, suc, ◌+◌, ◌<◌, ◌≤◌, List, [], ◌∷◌, length, drop, Some, None, Option, sym, refl, ap, ◌∙◌, arith}
use Rattle.std.specs.List.{slice_get}
use Rattle.std.specs.Iterator.{Yields}
use Rattle.std.proofs.lemmas.Iterator.{YieldsList}
use Rattle.std.proofs.lemmas.Iterator.Consumers.{YieldsList-turn, YieldsList-end}
use Rattle.std.proofs.lemmas.Option.{slice_get-get_or, slice_get_within, get_or_from_slice_get, slice_get-map}
use Rattle.std.proofs.lemmas.List.{drop_more, length-drop, length-map}
use Rattle.mesh.specs.Meshes.{Mesh, places, place_at, vertex_total}
use Rattle.mesh.proofs.Tests.{none_some}

-- what is left begins with the item of the next number, which is in the list
pub left_more : {X : Type 0} (xs : List X) (i : ℕ) (x : X) → Some x ≡ slice_get xs i → (i < length xs) × (drop i xs ≡ x ∷ drop (i + 1) xs)
left_more xs i x e =
    let h = slice_get_within xs i x (sym e) in
    (h, drop_more xs i x h ∙ ap (λ y. y ∷ drop (i + 1) xs) (get_or_from_slice_get xs i x x (sym e)))

-- and is nothing where no item has that number
pub left_none : {X : Type 0} (xs : List X) (i : ℕ) → slice_get xs i ≡ None → drop i xs ≡ []
left_none [] zero e = refl
left_none [] (suc i) e = refl
left_none (y ∷ ys) zero e = none_some (sym e)
left_none (y ∷ ys) (suc i) e = left_none ys i e

-- the same for the places of a mesh
pub places_more : {P : Type 0} (m : Mesh P) (v : ℕ) (p : P) → Some p ≡ place_at m v → (v < vertex_total m) × (drop v (places m) ≡ p ∷ drop (v + 1) (places m))
places_more m v p e =
    let h = left_more (places m) v p (e ∙ sym (slice_get-map (λ x. x.place) m.vertices v)) in
    let k = h.0 in (simp length-map at k, h.1)

pub places_none : {P : Type 0} (m : Mesh P) (v : ℕ) → place_at m v ≡ None → drop v (places m) ≡ []
places_none m v e = left_none (places m) v (slice_get-map (λ x. x.place) m.vertices v ∙ e)

-- the item that a loop comes to is the one with the number of those before it
pub item_come_to : {S A B : Type 0} {steps : S → Option A → S → Type 0} {view : A → B} {s : S} {all : List B} → YieldsList steps view s all → (xs : List A) (t : S) → Yields steps s xs t → (r : Option A) (u : S) (x : A) → r ≡ Some x → steps t r u → Some (view x) ≡ slice_get all (length xs)
item_come_to {view = view} {all = all} road xs t before r u x is now =
    let h = YieldsList-turn road xs t before r u x is now in ap Some h.1 ∙ sym (slice_get-get_or all (length xs) (view x) h.0)

-- and at its end it has come to all
pub all_come_to : {S A B : Type 0} {steps : S → Option A → S → Type 0} {view : A → B} {s : S} {all : List B} → YieldsList steps view s all → (xs : List A) (t : S) → Yields steps s xs t → (r : Option A) (u : S) → r ≡ None → steps t r u → length all ≤ length xs
all_come_to road xs t before r u is now = let h = (YieldsList-end road xs t before r u is now).1 in omega arith

-- where what is left of a list is what lies behind the first i items, the next item is item i
pub left_turn : {X : Type 0} (xs : List X) (i : ℕ) (x : X) (rest : List X) → drop i xs ≡ x ∷ rest → (Some x ≡ slice_get xs i) × (rest ≡ drop (i + 1) xs)
left_turn {X} xs i x rest e = go (slice_get xs i) refl
  where
    go : (o : Option X) → slice_get xs i ≡ o → (Some x ≡ slice_get xs i) × (rest ≡ drop (i + 1) xs)
    go None n = let h = left_none xs i n in absurd cc
    go (Some y) n = let h = (left_more xs i y (sym n)).1 in (cc, cc)

-- and with nothing left there is no item i
pub left_end : {X : Type 0} (xs : List X) (i : ℕ) → drop i xs ≡ [] → length xs ≤ i
left_end xs i e = let h = length-drop i xs in let l = ap length e in omega arith

-- the same for the places of a mesh
pub places_turn : {P : Type 0} (m : Mesh P) (v : ℕ) (p : P) (rest : List P) → drop v (places m) ≡ p ∷ rest → (Some p ≡ place_at m v) × (rest ≡ drop (v + 1) (places m))
places_turn m v p rest e = let h = left_turn (places m) v p rest e in (h.0 ∙ slice_get-map (λ x. x.place) m.vertices v, h.1)

pub places_end : {P : Type 0} (m : Mesh P) (v : ℕ) → drop v (places m) ≡ [] → vertex_total m ≤ v
places_end m v e = let h = left_end (places m) v e in simp length-map at h

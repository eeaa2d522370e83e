-- The displacements of positions, one after another.
use Rattle.std.proofs.Common.{◌≡◌, ℕ, zero, suc, ◌+◌, ◌-◌, ◌*◌, ◌<◌, ◌≤◌, Bool, cond, List, [], ◌∷◌, length, get_or, take, drop, is_some, Some, None, Option, sym, ap, ◌∙◌, add-mul, one-mul, zero-mul, arith, length-drop, take_all}
use Rattle.std.proofs.lemmas.List.{drop_all}
use Rattle.std.proofs.Math.Seq.{drop-cons, drop-nil}
use Rattle.std.specs.Option.{option_and_then}
use Rattle.place.specs.Kinds.{Kind, Lawful}
use Rattle.mesh.specs.Meshes.{Vertex}
use Rattle.mesh.proofs.Indexed.{rows_below}
use Rattle.forest.specs.Places.{displaced_at, first_refused}
use Rattle.forest.specs.Tables.{key_side, key_sides}
use Rattle.runs.specs.Parts.{in_front, displacements_read}
use Rattle.engine.specs.Places.{displaced_by}

-- the item at i stands in front of the rest
pub front_of : (xs : List ℕ) (i : ℕ) → i < length xs → drop i xs ≡ get_or xs i 0 ∷ drop (i + 1) xs
front_of xs i h = drop-cons xs i 0 h ∙ ap (λ n. get_or xs i 0 ∷ drop n xs) (let e : suc i ≡ i + 1 = omega arith in e)

pub drop_more : {A : Type 0} (a b : ℕ) (xs : List A) → drop b (drop a xs) ≡ drop (a + b) xs
drop_more zero b xs = ap (λ n. drop n xs) (let e : b ≡ 0 + b = omega arith in e)
drop_more (suc a) b [] = drop-nil b ∙ sym (drop-nil (suc a + b))
drop_more (suc a) b (x ∷ xs) = drop_more a b xs ∙ ap (λ n. drop n (x ∷ xs)) (let e : suc (a + b) ≡ suc a + b = omega arith in e)

-- the bytes behind i rows of the width r
pub bytes_at : (i r w : ℕ) (bs : List ℕ) → r ≡ w → take (length bs - i * r) (drop (i * r) bs) ≡ drop (i * w) bs
bytes_at i r w bs e = take_all (length bs - i * r) (drop (i * r) bs) (let l = length-drop (i * r) bs in omega arith) ∙ ap (λ n. drop (i * n) bs) e

module _ {P D : Type 0} (k : Kind P D) (law : Lawful k) where
  -- the displacements of the positions from i on
  abbrev pub read_from : ℕ → ℕ → List ℕ → List D
  read_from n i bs = displacements_read k (n - i) (drop (i * k.displacement_width) bs)

  -- the displacement at i stands in front of the rest
  pub read_next : (n i : ℕ) (bs : List ℕ) → i < n → n * k.displacement_width ≤ length bs
      → (d : D) × (k.read_displacement (drop (i * k.displacement_width) bs) ≡ Some d) × (read_from n i bs ≡ d ∷ read_from n (i + 1) bs)
  read_next n i bs h enough =
      let w = k.displacement_width in
      let l = length-drop (i * w) bs in
      let b = rows_below i n w h in
      let r = law.displacement_reads (drop (i * w) bs) (omega arith) in
      let e : n - i ≡ suc (n - (i + 1)) = omega arith in
      let c : i * w + w ≡ (i + 1) * w = sym (add-mul i 1 w ∙ ap (λ m. i * w + m) (one-mul w)) in (
        r.0,
        r.1,
        ap (λ m. displacements_read k m (drop (i * w) bs)) e
            ∙ ap (λ o. in_front o (displacements_read k (n - (i + 1)) (drop w (drop (i * w) bs)))) r.1
            ∙ ap (λ ys. r.0 ∷ displacements_read k (n - (i + 1)) ys) (drop_more (i * w) w bs ∙ ap (λ m. drop m bs) c),
      )

  module _ (vs : List (Vertex P)) where
    -- the first refused of the positions from i on
    abbrev pub refused_from : List ℕ → List ℕ → List ℕ → ℕ → Option ℕ
    refused_from ps ns bs i = first_refused k vs (key_sides (drop i ps)) (drop i ns) (read_from (length ps) i bs)

    pub refused_next : (ps ns bs : List ℕ) (i : ℕ) → length ns ≡ length ps → length ps * k.displacement_width ≤ length bs → i < length ps
        → refused_from ps ns bs i ≡ cond (is_some (displaced_by k vs (key_side (get_or ps i 0)) (drop (i * k.displacement_width) bs))) (refused_from ps ns bs (i + 1)) (Some (get_or ns i 0))
    refused_next ps ns bs i e enough h =
        let r = read_next (length ps) i bs h enough in
        let p = front_of ps i h in
        let q = front_of ns i (omega arith) in
        (λ j. first_refused k vs (key_sides (p j)) (q j) (r.2 j))
        ∙ ap (λ o. cond (is_some (option_and_then (displaced_at k vs (key_side (get_or ps i 0))) o)) (refused_from ps ns bs (i + 1)) (Some (get_or ns i 0))) (sym r.1)

    -- the same from what the call answers of the position
    pub refused_test : (ps ns bs : List ℕ) (i r : ℕ) (o : Option P) (b : Bool) → length ns ≡ length ps → length ps * k.displacement_width ≤ length bs → i < length ps → r ≡ k.displacement_width
        → o ≡ displaced_by k vs (key_side (get_or ps i 0)) (take (length bs - i * r) (drop (i * r) bs)) → is_some o ≡ b
        → refused_from ps ns bs i ≡ cond b (refused_from ps ns bs (i + 1)) (Some (get_or ns i 0))
    refused_test ps ns bs i r o b e enough h w told t =
        refused_next ps ns bs i e enough h
        ∙ ap (λ x. cond x (refused_from ps ns bs (i + 1)) (Some (get_or ns i 0))) (sym (ap is_some (told ∙ ap (displaced_by k vs (key_side (get_or ps i 0))) (bytes_at i r k.displacement_width bs w))) ∙ t)

    pub refused_start : (ps ns bs : List ℕ) → refused_from ps ns bs 0 ≡ first_refused k vs (key_sides ps) ns (displacements_read k (length ps) bs)
    refused_start ps ns bs = (λ j. first_refused k vs (key_sides ps) ns (displacements_read k (n j) (drop (z j) bs)))
      where
        n : length ps - 0 ≡ length ps
        n = omega arith

        z : 0 * k.displacement_width ≡ 0
        z = zero-mul k.displacement_width

    pub refused_end : (ps ns bs : List ℕ) (i : ℕ) → length ps ≤ i → refused_from ps ns bs i ≡ None
    refused_end ps ns bs i h = ap (λ qs. first_refused k vs (key_sides qs) (drop i ns) (read_from (length ps) i bs)) (drop_all i ps h)

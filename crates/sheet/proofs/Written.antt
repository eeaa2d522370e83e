-- The parts that are put one after another are the sheet.
use Rattle.std.proofs.Common.{◌≡◌, ℕ, ◌+◌, ◌*◌, ◌<◌, ◌≤◌, Bool, true, false, cond, leb, List, ◌++◌, length, drop, Some, None, Ok, Err, sym, refl, ap, ◌∙◌, mul-le-mul_right, arith}
use Rattle.std.proofs.lemmas.List.{append_assoc, length-append}
use Rattle.std.proofs.lemmas.Bool.{leb-true, leb-false, le-leb, lt-leb}
use Rattle.fault.specs.declared.fault.Fault.{Fault}
use Rattle.fault.specs.declared.fault.Fault.TheVariants.{ShortBuffer}
use Rattle.place.specs.Kinds.{Kind, Lawful}
use Rattle.mesh.specs.Triangles.{Tri, tri}
use Rattle.mesh.specs.Meshes.{Mesh, InLimits, vertex_total, triangle_total}
use Rattle.mesh.proofs.Tests.{some_inj, none_some}
use Rattle.sheet.specs.Layout.{sheet_size}
use Rattle.sheet.specs.Writing.{rows, vertex_bytes, triangle_bytes, body_bytes, sheet_bytes, written_size, short_fault, sheet_written, sheet_after, put_at, head_bytes}
use Rattle.sheet.proofs.Joins.{put_next, put_front}
use Rattle.sheet.proofs.Rows.{rows_length}

pub triangle_long : (t : Tri) → length (triangle_bytes t) ≡ 12
triangle_long (tri a b c) = refl

short_some : (needed have : ℕ) (f : Fault) → Some f ≡ short_fault needed have → (have < needed) × (f ≡ ShortBuffer needed)
short_some needed have f e = go (leb needed have) refl e
  where
    go : (b : Bool) → leb needed have ≡ b → Some f ≡ cond b None (Some (ShortBuffer needed)) → (have < needed) × (f ≡ ShortBuffer needed)
    go true i e = none_some (sym e)
    go false i e = (leb-false needed have i, some_inj e)

pub short_none : (needed have : ℕ) → None ≡ short_fault needed have → needed ≤ have
short_none needed have e = go (leb needed have) refl e
  where
    go : (b : Bool) → leb needed have ≡ b → None ≡ cond b None (Some (ShortBuffer needed)) → needed ≤ have
    go true i e = leb-true needed have i
    go false i e = none_some e

-- the size that the program computes
pub size_is : {P D : Type 0} (k : Kind P D) (m : Mesh P) (n V T : ℕ) → n ≡ sheet_size k.width V T → V ≡ vertex_total m → T ≡ triangle_total m → n ≡ written_size k m
size_is k m n V T e q r = e ∙ (λ i. sheet_size k.width (q i) (r i))

module _ {P D : Type 0} (k : Kind P D) (law : Lawful k) (m : Mesh P) where
  pub small_size : InLimits m → written_size k m ≤ 589838
  small_size l =
      let narrow = law.narrow in
      let few = l.few_triangles in
      let places = mul-le-mul_right k.width l.few_vertices in omega arith

  pub places_length : length (rows (vertex_bytes k) m.vertices) ≡ vertex_total m * k.width
  places_length = rows_length (vertex_bytes k) k.width (λ v. law.long v.place) m.vertices

  triangles_length : length (rows triangle_bytes m.triangles) ≡ triangle_total m * 12
  triangles_length = rows_length triangle_bytes 12 triangle_long m.triangles

  pub body_length : length (body_bytes k m) + 4 ≡ written_size k m
  body_length =
      let p = places_length in
      let t = triangles_length in
      let a = length-append (rows (vertex_bytes k) m.vertices) (rows triangle_bytes m.triangles) in omega arith

  pub sheet_length : length (sheet_bytes k m) ≡ written_size k m
  unfolding sheet_bytes
  sheet_length = let b = body_length in omega arith

  -- where the buffer is long enough
  module _ (out : List ℕ) (room : written_size k m ≤ length out) where
    enough : leb (written_size k m) (length out) ≡ true
    enough = le-leb _ _ room

    pub answered : (n : ℕ) → n ≡ written_size k m → Ok n ≡ sheet_written k m out
    unfolding sheet_written
    answered n e = ap (λ (x : ℕ). Ok x) e ∙ sym (ap (λ (b : Bool). cond b (Ok (written_size k m)) (Err (ShortBuffer (written_size k m)))) enough)

    pub written : (following kind V T at : ℕ) (head places end : List ℕ) → following + 4 ≡ written_size k m → kind ≡ k.byte → V ≡ vertex_total m → T ≡ triangle_total m → at ≡ 14 + vertex_total m * k.width → head ≡ put_at 0 (head_bytes following kind V T) out → places ≡ put_at 14 (rows (vertex_bytes k) m.vertices) head → end ≡ put_at at (rows triangle_bytes m.triangles) places → end ≡ sheet_after k m out
    unfolding sheet_after sheet_bytes
    written following kind V T at head places end f b v t e p q r =
        let vs = rows (vertex_bytes k) m.vertices in
        let ts = rows triangle_bytes m.triangles in
        let pl = places_length in
        let tl = triangles_length in
        let size : following ≡ length (body_bytes k m) = let s = body_length in omega arith in
        let front = head_bytes (length (body_bytes k m)) k.byte (vertex_total m) (triangle_total m) in
        let first : head ≡ put_at 0 front out = p ∙ (λ i. put_at 0 (head_bytes (size i) (b i) (v i) (t i)) out) in
        let second = put_next 0 14 front vs out head places refl (omega arith) first q in
        let third = put_next 0 at (front ++ vs) ts out places end (omega arith) (omega arith) second r in
        let all : (front ++ vs) ++ ts ≡ sheet_bytes k m = append_assoc front vs ts in
        third ∙ (ap (λ (bs : List ℕ). put_at 0 bs out) all ∙ (put_front (sheet_bytes k m) out ∙ (ap (λ (n : ℕ). sheet_bytes k m ++ drop n out) sheet_length
        ∙ sym (ap (λ (b : Bool). cond b (sheet_bytes k m ++ drop (written_size k m) out) out) enough))))

  -- where it is not
  module _ (out : List ℕ) (n : ℕ) (f : Fault) (size : n ≡ written_size k m) (short : Some f ≡ short_fault n (length out)) where
    too_few : leb (written_size k m) (length out) ≡ false
    too_few = let h = (short_some n (length out) f short).0 in lt-leb _ _ (omega arith)

    pub refused : Err f ≡ sheet_written k m out
    unfolding sheet_written
    refused = ap (λ (x : Fault). Err x) (short_some n (length out) f short).1 ∙ (ap (λ (x : ℕ). Err (ShortBuffer x)) size ∙ sym (ap (λ (b : Bool). cond b (Ok (written_size k m)) (Err (ShortBuffer (written_size k m)))) too_few))

    pub unchanged : out ≡ sheet_after k m out
    unfolding sheet_after
    unchanged = sym (ap (λ (b : Bool). cond b (sheet_bytes k m ++ drop (written_size k m) out) out) too_few)

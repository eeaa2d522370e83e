-- The written sheet of a mesh reads back as the mesh.
use Rattle.std.proofs.Common.{◌≡◌, ℕ, zero, suc, ◌+◌, ◌*◌, ◌^◌, ◌<◌, ◌≤◌, List, [], ◌∷◌, ◌++◌, map, length, get_or, drop, Some, None, sym, refl, ap, ◌∙◌, add-zero, zero-add, arith}
use Rattle.std.specs.Option.{option_map}
use Rattle.std.specs.List.{slice_get}
use Rattle.std.proofs.lemmas.List.{append-nil, drop_at, drop-drop, get_or-drop}
use Rattle.fault.proofs.Orders.{or_none}
use Rattle.place.specs.Kinds.{Kind, Lawful}
use Rattle.place.specs.Words.{word, word_bytes}
use Rattle.place.specs.Numbers.{word_back}
use Rattle.mesh.specs.Lists.{Mem, now, later}
use Rattle.mesh.specs.Triangles.{Tri, tri}
use Rattle.mesh.specs.Rings.{Corner, at_first, at_second, at_third, Link, here, there}
use Rattle.mesh.specs.Closed.{Closed}
use Rattle.mesh.specs.Limits.{counts_fault}
use Rattle.mesh.specs.Meshes.{Mesh, Vertex, InLimits, vertex_of, vertex_total, triangle_total, places}
use Rattle.mesh.proofs.Tests.{some_inj, none_some}
use Rattle.mesh.proofs.Bounds.{between_is, counts_none}
use Rattle.survey.specs.Theorems.{ClosedInLimits}
use Rattle.survey.proofs.Exact.{closed_survey}
use Rattle.sheet.specs.Layout.{sheet_size, triangle_offset}
use Rattle.sheet.specs.Content.{triangle_from, place_read, sheet_mesh, LaidOut}
use Rattle.sheet.specs.Writing.{rows, vertex_bytes, triangle_bytes, body_bytes, sheet_bytes}
use Rattle.sheet.specs.ReadBack.{own_from, own, Numbered, Writable, ReadsBack, SheetsReadBack}
use Rattle.sheet.proofs.Exact.{there_value, no_fault, same_mesh}
use Rattle.sheet.proofs.Rows.{rows_at}
use Rattle.sheet.proofs.Written.{triangle_long, small_size, places_length, body_length, sheet_length}

there_mem : {X : Type 0} (xs : List X) (i : ℕ) (x : X) → slice_get xs i ≡ Some x → Mem x xs
there_mem [] i x e = none_some e
there_mem (y ∷ ys) zero x e = let s : y ≡ x = some_inj e in rw s now
there_mem (y ∷ ys) (suc i) x e = later (there_mem ys i x e)

-- a number further on in a list is one of what is left of it
word_drop : (at j : ℕ) (bs : List ℕ) → word (drop at bs) j ≡ word bs (at + j)
word_drop at j bs =
    let a = get_or-drop at bs j 0 in
    let b = get_or-drop at bs (j + 1) 0 ∙ ap (λ (n : ℕ). get_or bs n 0) (omega arith) in
    let c = get_or-drop at bs (j + 2) 0 ∙ ap (λ (n : ℕ). get_or bs n 0) (omega arith) in
    let d = get_or-drop at bs (j + 3) 0 ∙ ap (λ (n : ℕ). get_or bs n 0) (omega arith) in
    λ i. a i * 16777216 + b i * 65536 + c i * 256 + d i

own_length : {P : Type 0} (i : ℕ) (vs : List (Vertex P)) → length (own_from i vs) ≡ length vs
own_length i [] = refl
own_length i (v ∷ vs) = ap suc (own_length (suc i) vs)

own_at : {P : Type 0} (i j : ℕ) (vs : List (Vertex P)) (v : Vertex P) → slice_get vs j ≡ Some v → slice_get (own_from i vs) j ≡ Some (vertex_of v.place (i + j))
own_at i j [] v e = none_some e
own_at {P} i zero (w ∷ vs) v e = let s : w ≡ v = some_inj e in ap (λ (x : Vertex P). Some (vertex_of x.place i)) s ∙ ap (λ (n : ℕ). Some (vertex_of v.place n)) (sym (add-zero i))
own_at i (suc j) (w ∷ vs) v e = own_at (suc i) j vs v e ∙ ap (λ (n : ℕ). Some (vertex_of v.place n)) (omega arith)

own_places : {P : Type 0} (i : ℕ) (vs : List (Vertex P)) → map (λ v. v.place) (own_from i vs) ≡ map (λ v. v.place) vs
own_places i [] = refl
own_places i (v ∷ vs) = ap (λ ps. v.place ∷ ps) (own_places (suc i) vs)

within : {P : Type 0} (m : Mesh P) → counts_fault (vertex_total m) (triangle_total m) ≡ None → InLimits m
within m e =
    let c = counts_none (vertex_total m) (triangle_total m) e in
    record { few_vertices = (between_is 3 16384 (vertex_total m) c.0).1; few_triangles = (between_is 2 32768 (triangle_total m) c.1).1 }

-- three numbers in front of any bytes
three_back : (a b c : ℕ) (rest bs : List ℕ) (at : ℕ) → a < 2 ^ 32 → b < 2 ^ 32 → c < 2 ^ 32 → drop at bs ≡ triangle_bytes (tri a b c) ++ rest → triangle_from bs at ≡ tri a b c
three_back a b c rest bs at p q r e =
    let x : word bs at ≡ a = ap (word bs) (sym (add-zero at)) ∙ (sym (word_drop at 0 bs) ∙ (ap (λ (t : List ℕ). word t 0) e ∙ word_back a p)) in
    let y : word bs (at + 4) ≡ b = sym (word_drop at 4 bs) ∙ (ap (λ (t : List ℕ). word t 4) e ∙ word_back b q) in
    let z : word bs (at + 8) ≡ c = sym (word_drop at 8 bs) ∙ (ap (λ (t : List ℕ). word t 8) e ∙ word_back c r) in
    λ i. tri (x i) (y i) (z i)

module _ {P D : Type 0} (k : Kind P D) (law : Lawful k) (m : Mesh P) (w : Writable k m) where
  limits : InLimits m
  limits = within m w.counts

  vertex_field : word (word_bytes (vertex_total m)) 0 ≡ vertex_total (own m)
  vertex_field = let l = limits.few_vertices in word_back (vertex_total m) (omega arith) ∙ sym (own_length 0 m.vertices)

  triangle_field : word (word_bytes (triangle_total m)) 0 ≡ triangle_total m
  triangle_field = let l = limits.few_triangles in word_back (triangle_total m) (omega arith)

  size_field : word (word_bytes (length (body_bytes k m))) 0 + 4 ≡ length (sheet_bytes k m)
  size_field =
      let s = small_size k law m limits in
      let b = body_length k law m in
      ap (λ (n : ℕ). n + 4) (word_back (length (body_bytes k m)) (omega arith)) ∙ (b ∙ sym (sheet_length k law m))

  -- what stands behind the first fourteen bytes
  abbrev rest : List ℕ
  rest = rows (vertex_bytes k) m.vertices ++ rows triangle_bytes m.triangles

  behind : (n : ℕ) → drop (14 + n) (sheet_bytes k m) ≡ drop n rest
  unfolding sheet_bytes
  behind n = sym (drop-drop n 14 (sheet_bytes k m))

  place_back : (v : ℕ) (x : Vertex P) → slice_get m.vertices v ≡ Some x → place_read k (sheet_bytes k m) v ≡ Some x.place
  place_back v x e =
      let r = rows_at (vertex_bytes k) k.width (λ y. law.long y.place) m.vertices (rows triangle_bytes m.triangles) v x e in
      ap k.read (behind (v * k.width) ∙ r.1) ∙ law.reads_back x.place r.0 (w.held x (there_mem m.vertices v x e))

  triangle_back : (t : ℕ) (x : Tri) → slice_get m.triangles t ≡ Some x → triangle_from (sheet_bytes k m) (triangle_offset k.width (vertex_total m) t) ≡ x
  triangle_back t (tri a b c) e =
      let ts = rows triangle_bytes m.triangles in
      let at = triangle_offset k.width (vertex_total m) t in
      let r = rows_at triangle_bytes 12 triangle_long m.triangles [] t (tri a b c) e in
      let n = w.numbered (tri a b c) (there_mem m.triangles t (tri a b c) e) in
      let sum : 14 + vertex_total m * k.width + t * 12 ≡ 14 + (vertex_total m * k.width + t * 12) = omega arith in
      let skipped : drop (vertex_total m * k.width + t * 12) rest ≡ drop (t * 12) ts =
      sym (drop-drop (t * 12) (vertex_total m * k.width) rest) ∙ ap (drop (t * 12)) (drop_at (rows (vertex_bytes k) m.vertices) ts (vertex_total m * k.width) (places_length k law m)) in
      let there : drop at (sheet_bytes k m) ≡ triangle_bytes (tri a b c) ++ r.0 =
      ap (λ (j : ℕ). drop j (sheet_bytes k m)) sum ∙ (behind (vertex_total m * k.width + t * 12) ∙ (skipped ∙ (ap (drop (t * 12)) (sym (append-nil ts)) ∙ r.1))) in
      three_back a b c r.0 (sheet_bytes k m) at n.0 n.1 n.2 there

  laid_out : LaidOut k (sheet_bytes k m) (own m)
  unfolding sheet_bytes
  laid_out =
      let long = own_length 0 m.vertices in
      record {
        length_field = size_field;
        version = refl;
        kind = refl;
        vertices = vertex_field;
        triangles = triangle_field;
        size = ap (λ (n : ℕ). sheet_size k.width n (triangle_total m)) long ∙ sym (sheet_length k law m);
        place = λ v h. let x = there_value m.vertices v (omega arith) in
            place_back v x.0 x.1 ∙ sym (ap (option_map (λ y. y.place)) (own_at 0 v m.vertices x.0 x.1));
        parent = λ v h. let x = there_value m.vertices v (omega arith) in
            ap (option_map (λ y. y.parent)) (own_at 0 v m.vertices x.0 x.1) ∙ ap (λ (n : ℕ). Some n) (zero-add v);
        triangle = λ t h. let x = there_value m.triangles t h in
            x.1 ∙ ap (λ (y : Tri). Some y) (sym (ap (λ (n : ℕ). triangle_from (sheet_bytes k m) (triangle_offset k.width n t)) long ∙ triangle_back t x.0 x.1));
      }

  own_counts : counts_fault (vertex_total (own m)) (triangle_total (own m)) ≡ None
  own_counts = ap (λ (n : ℕ). counts_fault n (triangle_total m)) (own_length 0 m.vertices) ∙ w.counts

  pub reads_back : ReadsBack k m
  reads_back =
      let same = same_mesh k (sheet_bytes k m) (own m) own_counts laid_out in
      record {
        laid_out = laid_out;
        no_fault = no_fault k (sheet_bytes k m) (own m) own_counts laid_out;
        same_mesh = same;
        same_triangles = ap (λ (n : Mesh P). n.triangles) same;
        same_places = ap (λ (n : Mesh P). places n) same ∙ own_places 0 m.vertices;
      }

mem_link : {t : Tri} {ts : List Tri} {v x y : ℕ} → Mem t ts → Corner t v x y → Link ts v x y
mem_link now c = here c
mem_link (later m) c = there (mem_link m c)

-- the corners of a closed mesh are below V
closed_numbered : (V : ℕ) (ts : List Tri) → V ≤ 16384 → Closed V ts → Numbered ts
closed_numbered V ts h d (tri a b c) m =
    let x = (d.fits a b c (mem_link m at_first)).0 in
    let y = (d.fits b c a (mem_link m at_second)).0 in
    let z = (d.fits c a b (mem_link m at_third)).0 in (omega arith, omega arith, omega arith)

-- the counts of a closed mesh are in their limits, if it is no larger than a mesh may be
pub closed_counts : {P : Type 0} (m : Mesh P) → InLimits m → Closed (vertex_total m) m.triangles → counts_fault (vertex_total m) (triangle_total m) ≡ None
closed_counts m l d =
    let in_limits : ClosedInLimits (vertex_total m) m.triangles = record { few_vertices = l.few_vertices; few_triangles = l.few_triangles; closed = d } in
    let sound = or_none (counts_fault (vertex_total m) (triangle_total m)) _ (closed_survey (vertex_total m) m.triangles in_limits) in sound.0

pub sheets_read_back : {P D : Type 0} (k : Kind P D) → Lawful k → SheetsReadBack k
sheets_read_back {P} k law = record {
  read_back = λ m w. reads_back k law m w;
  closed = λ m l h d. reads_back k law m (record { counts = closed_counts m l d; held = h; numbered = closed_numbered (vertex_total m) m.triangles l.few_vertices d });
  apart = λ m n v w e.
      let a = reads_back k law m v in
      let b = reads_back k law n w in
      (sym a.same_places ∙ (ap (λ (bs : List ℕ). places (sheet_mesh k bs)) e ∙ b.same_places), sym a.same_triangles ∙ (ap (λ (bs : List ℕ). (sheet_mesh k bs).triangles) e ∙ b.same_triangles));
}

-- A sheet has no fault exactly if it is laid out as that of a mesh.
use Rattle.std.proofs.Common.{◌≡◌, ℕ, ◌<◌, ◌≤◌, Bool, true, false, not, List, length, is_some, Some, None, Option, unwrap_or, sym, refl, ap, ◌∙◌, arith, eq-eqb, le-leb}
use Rattle.std.specs.List.{slice_get}
use Rattle.std.specs.Option.{option_map}
use Rattle.std.proofs.lemmas.Bool.{and_from}
use Rattle.fault.specs.declared.fault.Fault.{Fault}
use Rattle.fault.specs.declared.fault.Fault.TheVariants.{NoPlace}
use Rattle.fault.proofs.Orders.{or_none, none_or, mapped_none}
use Rattle.place.specs.Kinds.{Kind}
use Rattle.mesh.specs.Limits.{counts_fault}
use Rattle.mesh.specs.Meshes.{Mesh, Vertex, mesh_of, vertex_of, vertex_total, triangle_total}
use Rattle.mesh.proofs.Tests.{some_inj, none_some, some_there}
use Rattle.mesh.proofs.Firsts.{first_none, none_first}
use Rattle.std.proofs.lemmas.List.FromFn.{length-map-range_with_len}
use Rattle.mesh.proofs.Indexed.{counted_there, same_items}
use Rattle.sheet.specs.Layout.{vertices_of, triangles_of, triangle_offset, sheet_size, unless, length_fault, version_fault, head_fault, layout_fault}
use Rattle.sheet.specs.Content.{triangle_from, triangle_in, place_read, vertex_in, vertices_in, triangles_in, sheet_mesh, no_place, place_fault, sheet_fault, LaidOut}
use Rattle.sheet.specs.Bounds.{right}
use Rattle.sheet.specs.Opening.{SheetExact}
use Rattle.sheet.proofs.Fields.{vertices_right, triangles_right}

value_some : {P : Type 0} (o : Option P) (d : P) → not (is_some o) ≡ false → o ≡ Some (unwrap_or o d)
value_some None d e = absurd (cc)
value_some (Some p) d e = refl

-- every place of a sheet without fault reads
places_read : {P D : Type 0} (k : Kind P D) (bs : List ℕ) → place_fault k bs ≡ None → (v : ℕ) → v < vertices_in k bs → no_place k bs v ≡ false
unfolding place_fault
places_read k bs e v h = first_none (no_place k bs) 0 (vertices_in k bs) (mapped_none NoPlace _ e) v (omega arith) (omega arith)

read_places : {P D : Type 0} (k : Kind P D) (bs : List ℕ) → ((v : ℕ) → v < vertices_in k bs → no_place k bs v ≡ false) → place_fault k bs ≡ None
unfolding place_fault
read_places k bs f = ap (option_map NoPlace) (none_first (no_place k bs) 0 (vertices_in k bs) (λ v h l. f v (omega arith)))

pub laid_out : {P D : Type 0} (k : Kind P D) (bs : List ℕ) → sheet_fault k bs ≡ None → LaidOut k bs (sheet_mesh k bs)
laid_out {P} k bs e =
    let a = or_none (layout_fault k bs) _ e in
    let r = right k bs a.0 in
    let v = length-map-range_with_len (vertex_in k bs) 0 (vertices_in k bs) in
    let t = length-map-range_with_len (triangle_in k.width bs) 0 (triangles_in k bs) in
    let p = vertices_right k bs (vertices_of bs) a.0 refl in
    let q = triangles_right k bs (triangles_of bs) a.0 refl in
    let vs : vertices_of bs ≡ vertex_total (sheet_mesh k bs) = p ∙ sym v in
    let ts : triangles_of bs ≡ triangle_total (sheet_mesh k bs) = q ∙ sym t in
    record {
      length_field = r.length_field;
      version = r.version;
      kind = r.kind;
      vertices = vs;
      triangles = ts;
      size = ap (λ (n : ℕ). sheet_size k.width n (triangle_total (sheet_mesh k bs))) (sym vs) ∙ (ap (λ (n : ℕ). sheet_size k.width (vertices_of bs) n) (sym ts) ∙ r.size);
      place = λ w h. let l : w < vertices_in k bs = omega arith in
          value_some (place_read k bs w) k.origin (places_read k bs a.1 w l) ∙ sym (ap (option_map (λ x. x.place)) (counted_there (vertex_in k bs) (vertices_in k bs) w l));
      parent = λ w h. let l : w < vertices_in k bs = omega arith in ap (option_map (λ x. x.parent)) (counted_there (vertex_in k bs) (vertices_in k bs) w l);
      triangle = λ n h. let l : n < triangles_in k bs = omega arith in
          counted_there (triangle_in k.width bs) (triangles_in k bs) n l ∙ ap (λ (m : ℕ). Some (triangle_from bs (triangle_offset k.width m n))) vs;
    }

-- the layout of bytes that are laid out is right
unless_true : (b : Bool) (f : Fault) → b ≡ true → unless b f ≡ None
unless_true b f e = ap (λ (c : Bool). unless c f) e

laid_right : {P D : Type 0} (k : Kind P D) (bs : List ℕ) (m : Mesh P) → counts_fault (vertex_total m) (triangle_total m) ≡ None → LaidOut k bs m → layout_fault k bs ≡ None
laid_right k bs m c l =
    let v = l.vertices in
    let t = l.triangles in
    let size : sheet_size k.width (vertices_of bs) (triangles_of bs) ≡ length bs =
    ap (λ (n : ℕ). sheet_size k.width n (triangles_of bs)) v ∙ (ap (λ (n : ℕ). sheet_size k.width (vertex_total m) n) t ∙ l.size) in
    let long : 14 ≤ length bs = omega arith in
    none_or (head_fault k.byte bs) _
    (none_or (length_fault bs) _ (unless_true _ _ (and_from _ _ (le-leb 14 (length bs) long) (eq-eqb _ _ l.length_field)))
    (none_or (version_fault bs) _ (unless_true _ _ (eq-eqb _ _ l.version)) (unless_true _ _ (eq-eqb _ _ l.kind))))
    (none_or (counts_fault (vertices_of bs) (triangles_of bs)) _ (ap (λ (n : ℕ). counts_fault n (triangles_of bs)) v ∙ (ap (counts_fault (vertex_total m)) t ∙ c)) (unless_true _ _ (eq-eqb _ _ size)))

-- a vertex by its place and parent
vertex_is : {P : Type 0} (o : Option (Vertex P)) (p : P) (n : ℕ) → option_map (λ x. x.place) o ≡ Some p → option_map (λ x. x.parent) o ≡ Some n → o ≡ Some (vertex_of p n)
vertex_is None p n e i = none_some e
vertex_is (Some x) p n e i = let a = some_inj e in let b = some_inj i in ap (λ q. Some (vertex_of q x.parent)) a ∙ ap (λ (m : ℕ). Some (vertex_of p m)) b

pub there_value : {X : Type 0} (xs : List X) (i : ℕ) → i < length xs → (x : X) × (slice_get xs i ≡ Some x)
there_value {X} xs i h = go (slice_get xs i) refl
  where
    go : (o : Option X) → slice_get xs i ≡ o → (x : X) × (slice_get xs i ≡ Some x)
    go None e = absurd (some_there xs i h e)
    go (Some x) e = (x, e)

module _ {P D : Type 0} (k : Kind P D) (bs : List ℕ) (m : Mesh P) (c : counts_fault (vertex_total m) (triangle_total m) ≡ None) (l : LaidOut k bs m) where
  fine : layout_fault k bs ≡ None
  fine = laid_right k bs m c l

  vertex_count : vertices_in k bs ≡ vertex_total m
  vertex_count = sym (vertices_right k bs (vertices_of bs) fine refl) ∙ l.vertices

  triangle_count : triangles_in k bs ≡ triangle_total m
  triangle_count = sym (triangles_right k bs (triangles_of bs) fine refl) ∙ l.triangles

  read_is : (v : ℕ) → v < vertex_total m → (p : P) × (place_read k bs v ≡ Some p) × (slice_get m.vertices v ≡ Some (vertex_of p v))
  read_is v h =
      let x = there_value m.vertices v h in
      let e = l.place v h ∙ ap (option_map (λ x. x.place)) x.1 in
      (x.0.place, e, vertex_is (slice_get m.vertices v) x.0.place v (ap (option_map (λ x. x.place)) x.1) (l.parent v h))

  vertices_same : (sheet_mesh k bs).vertices ≡ m.vertices
  vertices_same =
      let n = length-map-range_with_len (vertex_in k bs) 0 (vertices_in k bs) in
      let q = vertex_count in
      same_items (sheet_mesh k bs).vertices m.vertices (omega arith) (λ v h.
      let low : v < vertices_in k bs = omega arith in
      let high : v < vertex_total m = omega arith in
      let r = read_is v high in
      counted_there (vertex_in k bs) (vertices_in k bs) v low ∙ (ap (λ (o : Option P). Some (vertex_of (unwrap_or o k.origin) v)) r.1 ∙ sym r.2))

  triangles_same : (sheet_mesh k bs).triangles ≡ m.triangles
  triangles_same =
      let n = length-map-range_with_len (triangle_in k.width bs) 0 (triangles_in k bs) in
      let q = triangle_count in
      same_items (sheet_mesh k bs).triangles m.triangles (omega arith) (λ t h.
      let low : t < triangles_in k bs = omega arith in
      let high : t < triangle_total m = omega arith in
      counted_there (triangle_in k.width bs) (triangles_in k bs) t low ∙ (ap (λ (x : ℕ). Some (triangle_from bs (triangle_offset k.width x t))) l.vertices ∙ sym (l.triangle t high)))

  pub no_fault : sheet_fault k bs ≡ None
  no_fault = none_or (layout_fault k bs) (place_fault k bs) fine (read_places k bs (λ v h.
      let q = vertex_count in
      let high : v < vertex_total m = omega arith in
      ap (λ o. not (is_some o)) (read_is v high).1))

  pub same_mesh : sheet_mesh k bs ≡ m
  same_mesh = ap (λ ts. mesh_of ts (sheet_mesh k bs).vertices) triangles_same ∙ ap (mesh_of m.triangles) vertices_same

-- and its counts are in their limits
counts_fine : {P D : Type 0} (k : Kind P D) (bs : List ℕ) → sheet_fault k bs ≡ None → counts_fault (vertex_total (sheet_mesh k bs)) (triangle_total (sheet_mesh k bs)) ≡ None
counts_fine k bs e =
    let a = or_none (layout_fault k bs) _ e in
    let b = or_none (head_fault k.byte bs) _ a.0 in
    let c = or_none (counts_fault (vertices_of bs) (triangles_of bs)) _ b.1 in
    let l = laid_out k bs e in
    ap (λ (n : ℕ). counts_fault n (triangle_total (sheet_mesh k bs))) (sym l.vertices) ∙ (ap (counts_fault (vertices_of bs)) (sym l.triangles) ∙ c.0)

pub sheet_exact : {P D : Type 0} (k : Kind P D) → SheetExact k
sheet_exact k = (λ bs e. (laid_out k bs e, counts_fine k bs e), λ bs m c l. (no_fault k bs m c l, same_mesh k bs m c l))

-- What the records in use stand for.
use Rattle.std.specs.Prelude.{ℕ, ◌≤◌, List, [], map, length, take}
use Rattle.std.proofs.Common.{arith, length-take}
use Rattle.std.proofs.lemmas.List.{length-map}
use Rattle.std.specs.Option.{unwrap_or}
use Rattle.place.specs.Kinds.{Kind}
use Rattle.mesh.specs.Meshes.{Vertex, vertex_of}
use Rattle.stores.specs.declared.record.VertexRecord.{VertexRecord}

-- the first n items, each by what it stands for
abbrev pub front : {X Y : Type 0} → (X → Y) → ℕ → List X → List Y
front f n xs = map f (take n xs)

pub front_few : {X Y : Type 0} (f : X → Y) (n : ℕ) (xs : List X) → length (front f n xs) ≤ n
front_few f n xs = let a = length-map (take n xs) f in let b = length-take n xs in omega arith

-- the record that is read past the end of a table
abbrev pub no_record : VertexRecord
no_record = record { place = []; parent = 0 }

-- a record's vertex: the place that its bytes are read as, or the origin where they are none
abbrev pub vertex_in : {P D : Type 0} → Kind P D → VertexRecord → Vertex P
vertex_in k r = vertex_of (unwrap_or (k.read r.place) k.origin) r.parent

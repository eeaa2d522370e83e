-- The edges in a table of sides.
use Rattle.std.specs.Prelude.{List, map, take}
use Rattle.mesh.specs.Sides.{Side}
use Rattle.edges.specs.declared.numbering.SideEdges.{SideEdges}
use Rattle.edges.specs.Pairs.{pair_of}

-- the pairs that are in use
abbrev pub listed : SideEdges → List Side
listed s = map pair_of (take s.count s.table)

-- Worked cases.
use Rattle.std.proofs.Common.{refl}
use Rattle.forest.specs.Cases.{SplitCases}

pub split_cases : SplitCases
split_cases = record {
  plain_marks_pass = refl;
  plain_as_it_stands = refl;
  plain_codes_pass = refl;
  plain_loop = refl;
  plain_count = refl;
  plain_parents = refl;
  plain_triangles = refl;
  mirrored_marks_pass = refl;
  mirrored_indeed = refl;
  mirrored_codes_pass = refl;
  mirrored_loop = refl;
  mirrored_parents = refl;
  mirrored_triangles = refl;
  torus_marks_pass = refl;
  torus_codes_pass = refl;
  torus_trees = refl;
  torus_roots = refl;
  torus_mirrored = refl;
  torus_parents = refl;
  torus_triangles = refl;
  nothing_marked = refl;
  closing = refl;
  single = refl;
  codes_missing = refl;
  off_tree = refl;
  side_twice = refl;
  side_kept = refl;
  side_added = refl;
  sixteen = refl;
  still_passes = refl;
  still_mesh = refl;
  refused = refl;
  moved_apart = refl;
}

use Rattle.std.proofs.Common.{refl, arith}
use lib.Ieee.{fits, of_bits}
use Rattle.std.specs.Float.{float_is_finite}
use Rattle.place.specs.Floats.{float_place}
use Rattle.survey.specs.Checks.{first_bad, first_repeated, first_open}
use Rattle.survey.specs.Ringwalk.{first_unringed}
use Rattle.sheet.specs.Content.{vertices_in, triangles_in, place_fault}
use Rattle.runs.proofs.theorems.run_cases.Goals as goal

pub returns : goal.returns
unfolding first_bad first_repeated first_open first_unringed vertices_in triangles_in place_fault float_place float_is_finite fits of_bits
returns c = record {
  run = record { room = record { vertices_few = omega arith; triangles_few = omega arith }; accepted = refl; ends = refl };
  told = refl;
  edges_marked = refl;
  trees_formed = refl;
  other_run = record { room = record { vertices_few = omega arith; triangles_few = omega arith }; accepted = refl; ends = refl };
  same_base = record { vertices = refl; triangles = refl };
}

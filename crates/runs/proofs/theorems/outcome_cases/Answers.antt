use Rattle.std.proofs.Common.{refl}
use Rattle.survey.specs.Checks.{first_bad, first_repeated, first_open}
use Rattle.survey.specs.Ringwalk.{first_unringed}
use Rattle.runs.proofs.theorems.outcome_cases.Goals as goal

pub returns : goal.returns
unfolding first_bad first_repeated first_open first_unringed
returns c = record {
  accepted = refl;
  made = refl;
  counted = refl;
  short_table = refl;
  open_store = refl;
  other_store = refl;
  nothing = refl;
  other_version = refl;
  other_kind = refl;
  no_marks = refl;
  spare_mark = refl;
  none_marked = refl;
  closing = refl;
  single = refl;
  code_more = refl;
  byte_less = refl;
  few_vertices = refl;
  few_triangles = refl;
  spare_code = refl;
  off_tree = refl;
  side_twice = refl;
  mirrored = refl;
  table_first = refl;
  open_first = refl;
  spare_first = refl;
  size_first = refl;
  vertices_first = refl;
  side_first = refl;
  below_zero = refl;
}

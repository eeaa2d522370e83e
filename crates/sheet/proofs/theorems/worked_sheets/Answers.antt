use Rattle.std.proofs.Common.{refl}
use Rattle.survey.specs.Checks.{first_bad, first_repeated, first_open}
use Rattle.survey.specs.Ringwalk.{first_unringed}
use Rattle.survey.specs.Survey.{edge_count}
use Rattle.sheet.specs.Content.{vertices_in, triangles_in, place_fault}
use Rattle.sheet.specs.Surveying.{sheet_surveyed}
use Rattle.sheet.specs.Writing.{sheet_bytes, sheet_written, sheet_after}
use Rattle.sheet.proofs.theorems.worked_sheets.Goals as goal

pub returns : goal.returns
unfolding first_bad first_repeated first_open first_unringed edge_count vertices_in triangles_in place_fault sheet_surveyed sheet_bytes sheet_written sheet_after
returns c = record {
  empty_bytes = refl;
  pair_surveyed = refl;
  block_bytes = refl;
  block_surveyed = refl;
  block_written = refl;
  block_after = refl;
  block_refused = refl;
  block_unchanged = refl;
  blocks_refused = refl;
  blocks_told = refl;
}

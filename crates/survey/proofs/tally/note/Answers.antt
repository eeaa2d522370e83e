use Rattle.std.proofs.lemmas.List.{length-map}
use Rattle.survey.specs.Tables.{counts, lasts}
use Rattle.survey.proofs.Noting.{added_three, noted_three}
use Rattle.survey.proofs.tally.note.Goals as goal

pub returns : goal.returns
returns c =
    let t = c.args.t in
    record {
      counted = added_three (counts c.args.table.now) _ _ _ t.a t.b t.c (simp length-map c.told-table) c.requires.below c.note_corner.ensures.counted c.note_corner-2.ensures.counted c.note_corner-3.ensures.counted;
      noted = noted_three (lasts c.args.table.now) _ _ _ t.a t.b t.c c.args.i (simp length-map c.told-table) c.requires.below c.note_corner.ensures.noted c.note_corner-2.ensures.noted c.note_corner-3.ensures.noted;
    }

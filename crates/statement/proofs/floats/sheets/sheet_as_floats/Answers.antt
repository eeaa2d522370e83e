use Rattle.std.proofs.Common.{take, drop, length, ◌++◌, sym, ap, ◌∙◌, subst, rules}
use Rattle.place.specs.Grids.{grid_kind}
use Rattle.place.specs.Floats.{float_kind}
use Rattle.runs.specs.Statement.{SameBase}
use Rattle.sheet.specs.Content.{sheet_mesh, sheet_fault}
use Rattle.sheet.proofs.Opened.{opened_ok}
use Rattle.statement.specs.Floats.{mesh_as_floats, sheet_as_floats}
use Rattle.statement.proofs.AsFloats.{filled, same_base}
use Rattle.statement.proofs.floats.sheets.sheet_as_floats.Goals as goal

pub returns-in-Ok-write_sheet-clause-value : goal.returns-in-Ok-write_sheet-clause-value
returns-in-Ok-write_sheet-clause-value c =
    let bs = c.args.bytes.now in
    let xs = c.in-Ok.sheet.bytes.now in
    let o = opened_ok (sheet_fault grid_kind bs) bs xs c.in-Ok.ensures in
    filled (mesh_as_floats (sheet_mesh grid_kind xs)) c.resize.new.self.items c.write_sheet.new.out c.resize.new.self.len (search rules) (search rules) (search rules) ∙ ap sheet_as_floats o.1

pub returns-in-Ok-write_sheet-clause-same_base : goal.returns-in-Ok-write_sheet-clause-same_base
returns-in-Ok-write_sheet-clause-same_base c =
    let bs = c.args.bytes.now in
    let xs = c.in-Ok.sheet.bytes.now in
    let o = opened_ok (sheet_fault grid_kind bs) bs xs c.in-Ok.ensures in
    let is = filled (mesh_as_floats (sheet_mesh grid_kind xs)) c.resize.new.self.items c.write_sheet.new.out c.resize.new.self.len (search rules) (search rules) (search rules) in
    subst (λ ys. SameBase (sheet_mesh grid_kind ys) (sheet_mesh float_kind (take c.resize.new.self.len (c.write_sheet.new.out ++ drop (length c.write_sheet.new.out) c.resize.new.self.items)))) o.1
    (subst (λ ys. SameBase (sheet_mesh grid_kind xs) (sheet_mesh float_kind ys)) (sym is) (same_base xs (ap (sheet_fault grid_kind) o.1 ∙ o.0) c.in-Ok-write_sheet.ensures.back.0))

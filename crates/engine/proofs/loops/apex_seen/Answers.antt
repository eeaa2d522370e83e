use Rattle.std.proofs.Common.{◌∙◌}
use Rattle.engine.proofs.Apexes.{apex_read}
use Rattle.engine.proofs.loops.apex_seen.Goals as goal

pub returns-then-mirror : goal.returns-then-mirror
returns-then-mirror g c = c.unwrap_or.ensures ∙ (c.apex.ensures ∙ apex_read _ (g.S.ReadingSurface.mesh c.args.s.now).triangles _ _ c.if-mirror.true)

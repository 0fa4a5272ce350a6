use mathlib.Core.Path.{ap}
use mathlib.Core.Bool.{not}
use Rattle.column_changes.proofs.Excluding.{none-excludes}
use Rattle.column_changes.proofs.changes.excludes_if.Goals as goal

pub returns-then-not-excluding : goal.returns-then-not-excluding
returns-then-not-excluding c = none-excludes _ _ _ _ _ c.args.excluding c.requires (ap not c.if-not-excluding.true)

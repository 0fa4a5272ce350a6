use mathlib.Core.Path.{ap}
use Prim.Native.Nat.{ℕ}
use Rattle.constraints.specs.Lined.{on_line}
use Rattle.column_sets.proofs.marks.limit_at.Goals as goal

pub returns : goal.returns
returns c = ap (λ (v : ℕ). on_line c.args.j v) c.literal_at.ensures

use Rattle.records.proofs.Laws.{flags}
use Rattle.columns.proofs.comparisons.at_mark.Goals as goal

pub returns-then-kind_at-eq0 : goal.returns-then-kind_at-eq0
returns-then-kind_at-eq0 c = search (flags, ← c.kind_at.ensures, ← c.limit_at-v.ensures)

pub returns : goal.returns
returns c = search (flags, ← c.kind_at.ensures, ← c.limit_at-v.ensures)

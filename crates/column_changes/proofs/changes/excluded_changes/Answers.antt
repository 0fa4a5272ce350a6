use Rattle.constraints.specs.Payload.{payload}
use Rattle.constraints.specs.Lined.{lined}
use Rattle.column_changes.proofs.changes.excluded_changes.Goals as goal

-- src/changes.rt:-87:9
pub returns-then-c : goal.returns-then-c
returns-then-c c = λ t e f. rw c.if-c.true

-- src/changes.rt:-92:1
pub returns : goal.returns
unfolding lined payload
returns c = λ t e f. rw (c.if-c.false, c.excludes.ensures, c.literal_at-v.ensures, e, f)

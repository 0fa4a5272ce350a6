use Rattle.truth.specs.FromBytes.{row_keys}
use Rattle.truth.proofs.read.column_value.Goals as goal

pub returns-then-null_marked : goal.returns-then-null_marked
unfolding row_keys
returns-then-null_marked c = rw (← c.null_marked.ensures, c.if-null_marked.true)

pub returns : goal.returns
unfolding row_keys
returns c = rw (← c.null_marked.ensures, c.if-null_marked.false, c.value_in.ensures)

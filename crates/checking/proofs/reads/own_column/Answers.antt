use Rattle.checking.proofs.Others.{no_column}
use borrow.Enum.Refused.{opened}
use Rattle.checking.proofs.reads.own_column.Goals as goal

pub returns-in-Column : goal.returns-in-Column
returns-in-Column c = rw (c.in-Column.is, c.column_bit.ensures)

pub returns-in_default : goal.returns-in_default
returns-in_default c = no_column c.args.r (opened c.in_default.in_default-own.keys2)

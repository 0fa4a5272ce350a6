use borrow.Author.Tests.{lt-ltb}
use Rattle.checking.proofs.Bits.{one_shifted}
use Rattle.records.proofs.Laws.{flags}
use Rattle.checking.proofs.reads.column_bit.Goals as goal

pub returns-then-at-lt64 : goal.returns-then-at-lt64
returns-then-at-lt64 c = rw (lt-ltb _ _ c.if-at-lt64.true) (one_shifted _ c.if-at-lt64.true)

pub returns-else-at-lt64 : goal.returns-else-at-lt64
returns-else-at-lt64 c = search flags

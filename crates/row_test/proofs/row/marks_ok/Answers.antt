use Prim.Native.Nat.{◌^◌}
use Rattle.row_test.proofs.Marks.{nothing_above}
use borrow.Author.Tests.{lt-ltb}
use native.Mathlib.Omega.{arith}
use mathlib.Core.Path.{sym}
use Rattle.row_test.proofs.row.marks_ok.Goals as goal

pub returns-then-count-eq64 : goal.returns-then-count-eq64
returns-then-count-eq64 c = sym (lt-ltb c.args.nulls (2 ^ c.args.count) (rw c.if-count-eq64.true (omega arith)))

pub returns : goal.returns
returns c = nothing_above c.args.nulls c.args.count

use mathlib.Core.Path.{ap}
use native.Mathlib.Omega.{arith}
use Rattle.records.proofs.Laws.{flags}
use Rattle.text_order.specs.Codes.{code_of}
use Rattle.text_order.proofs.Words.{walk-low}
use borrow.Author.Tests.{ne_eqb}
use Prim.Native.Nat.{◌+◌, ◌*◌, ◌/◌, ◌%◌}
use Rattle.text_order.proofs.number.number.Goals as goal

pub returns-then-l-eq0 : goal.returns-then-l-eq0
unfolding code_of
returns-then-l-eq0 c = search flags

pub overflow_mul-result : goal.overflow_mul-result
overflow_mul-result c =
    let w = walk-low 17 c.args.codes.now (c.args.v % 4294967296 % 8192) (c.args.v / 4294967296) in
    omega (arith, c.first_rank.ensures, w)

pub overflow_add-result : goal.overflow_add-result
overflow_add-result c =
    let w = walk-low 17 c.args.codes.now (c.args.v % 4294967296 % 8192) (c.args.v / 4294967296) in
    omega (arith, c.first_rank.ensures, w)

pub returns : goal.returns
unfolding code_of
returns c = rw (ne_eqb _ _ c.if-l-eq0.false) (ap (λ z. 32 * z + c.args.v / 4294967296) c.first_rank.ensures)

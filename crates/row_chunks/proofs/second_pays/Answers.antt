use mathlib.Core.Path.{sym}
use mathlib.Core.Bool.{true≢false}
use Rattle.row_chunks.proofs.second_pays.Goals as goal

pub returns-then-size-le65536 : goal.returns-then-size-le65536
returns-then-size-le65536 c = λ e. absurd (true≢false (sym e))

pub returns : goal.returns
returns c = λ e. c.if-size-le65536.false

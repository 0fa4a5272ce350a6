use mathlib.Core.Path.{sym}
use native.Mathlib.Omega.{arith}
use borrow.Author.Tests.{eqb-true, ltb-true}
use mathlib.Core.Bool.{true≢false}
use Rattle.pool_order.proofs.Answers.{gap-first, gap-last, gap-inside}
use Rattle.pool_order.proofs.asking.is_gap.Goals as goal

pub returns-then-w-y : goal.returns-then-w-y
returns-then-w-y c = λ e i. gap-first c.requires.rising c.if-w-y.true (eqb-true _ _ e) i

pub returns-then-y-w : goal.returns-then-y-w
returns-then-y-w c = λ e i. true≢false (sym e)

pub returns-then-g-k : goal.returns-then-g-k
returns-then-g-k c = λ e i. gap-last _ c.requires.rising c.if-w-y.false c.if-y-w.false c.if-g-k.true i

pub returns : goal.returns
returns c =
    λ e i. gap-inside _ c.requires.rising c.if-w-y.false c.if-y-w.false (omega (arith, c.requires.g_lt_k, c.if-g-k.false)) (ltb-true
    _ _ e) i

use mathlib.Core.Path.{sym}
use mathlib.Core.Bool.{true≢false}
use Rattle.pool_order.proofs.Answers.{last-of-all, last-before}
use Rattle.pool_order.proofs.asking.is_last.Goals as goal

pub returns-then-z-order : goal.returns-then-z-order
returns-then-z-order c = λ e. absurd (true≢false (sym e))

pub returns-then-q-count : goal.returns-then-q-count
returns-then-q-count c = λ e. last-of-all c.requires.rising c.requires.q_lt_count c.if-z-order.false c.if-q-count.true

pub returns : goal.returns
returns c = λ e. last-before c.requires.rising c.requires.q_lt_count c.if-z-order.false c.if-q-count.false e

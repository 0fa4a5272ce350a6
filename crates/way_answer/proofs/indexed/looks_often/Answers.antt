use borrow.Author.Rules.{rules}
use mathlib.Core.Path.{◌≡◌, sym}
use mathlib.Core.Bool.{true≢false}
use native.Mathlib.Omega.{arith}
use Rattle.far_lists.proofs.Sizes.{ends_more, work_bound}
use Rattle.column_constraints.specs.Abstraction.{starts_in, counts_in}
use Rattle.way_answer.proofs.indexed.looks_often.Goals as goal

pub loop-j-init : goal.loop-j-init
loop-j-init c = (search rules, search rules, λ i l. absurd (omega (arith, l)))

pub returns-then-start-count-gt8192 : goal.returns-then-start-count-gt8192
returns-then-start-count-gt8192 c = λ e. absurd (true≢false (sym e))

pub overflow_add-total : goal.overflow_add-total
overflow_add-total c = omega (arith, c.loop-j.invariant.1, c.loop-j.invariant.0, c.if-start-count-gt8192.false)

pub loop-j-preserved : goal.loop-j-preserved
loop-j-preserved c = (
  search rules,
  omega (arith, c.loop-j.invariant.1, c.if-start-count-gt8192.false),
  ends_more (starts_in c.args.told.now) (counts_in c.args.told.now) 8192 c.loop-j.j _ _ c.start_at-start.ensures c.count_at-count.ensures c.if-start-count-gt8192.false c.loop-j.invariant.2,
)

pub overflow_mul-result : goal.overflow_mul-result
overflow_mul-result c =
    let b = (work_bound c.args.n c.loop-j.total c.requires (omega (arith, c.loop-j.invariant.1, c.loop-j.invariant.0))).1 in
    omega (arith, b)

pub returns : goal.returns
returns c =
    let e : c.loop-j.j ≡ 128 = omega (arith, c.loop-j.invariant.0, c.loop-j-test.false) in λ h. rw e at c.loop-j.invariant.2

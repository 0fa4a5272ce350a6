use mathlib.Core.Path.{◌≡◌}
use native.Mathlib.Omega.{arith}
use Rattle.far_lists.proofs.Sizes.{ends_more, work_bound}
use borrow.Author.Rules.{rules}
use Rattle.column_constraints.specs.Abstraction.{starts_in, counts_in}
use Rattle.far_lists.proofs.far.list_work.Goals as goal

pub loop-j-init : goal.loop-j-init
loop-j-init c = (search rules, search rules, search rules, λ i l. absurd (omega (arith, l)))

pub returns-then-places-start : goal.returns-then-places-start
returns-then-places-start c = record { j_bound = (λ h. absurd (omega (arith, h))); upper_bound = search rules }

pub bump-lists-requires : goal.bump-lists-requires
bump-lists-requires c = omega (arith, c.loop-j.invariant.1, c.loop-j.invariant.0)

pub overflow_add-total : goal.overflow_add-total
overflow_add-total c = omega (arith, c.loop-j.invariant.2, c.loop-j.invariant.0, c.if-places-start.false, c.requires)

pub loop-j-preserved : goal.loop-j-preserved
loop-j-preserved c = (
  search rules,
  omega (arith, c.bump-lists.ensures.upper_bound, c.loop-j.invariant.1),
  omega (arith, c.loop-j.invariant.2, c.if-places-start.false, c.requires),
  ends_more (starts_in c.args.told.now) (counts_in c.args.told.now) c.args.places c.loop-j.j _ _ c.start_at-start.ensures c.count_at-count.ensures c.if-places-start.false c.loop-j.invariant.3,
)

pub overflow_mul-result : goal.overflow_mul-result
overflow_mul-result c =
    let b = (work_bound c.loop-j.lists c.loop-j.total (omega (arith, c.loop-j.invariant.1, c.loop-j.invariant.0)) (omega (
      arith,
      c.loop-j.invariant.2,
      c.loop-j.invariant.0,
    ))).1 in
    omega (arith, b)

pub returns : goal.returns
returns c =
    let e : c.loop-j.j ≡ 128 = omega (arith, c.loop-j.invariant.0, c.loop-j-test.false) in
    record {
      j_bound = (λ h. rw e at c.loop-j.invariant.3);
      upper_bound = (work_bound c.loop-j.lists c.loop-j.total (omega (
        arith,
        c.loop-j.invariant.1,
        c.loop-j.invariant.0,
      )) (omega (arith, c.loop-j.invariant.2, c.loop-j.invariant.0))).0;
    }

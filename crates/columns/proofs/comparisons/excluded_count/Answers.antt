use lib.Dec.{eqb}
use mathlib.Core.Path.{◌≡◌, sym}
use Prim.Native.Nat.{◌≤◌}
use native.Mathlib.Omega.{arith}
use Rattle.columns.proofs.Written.{count_none, count-more, count-few}
use borrow.Author.Rules.{rules}
use Rattle.columns.proofs.comparisons.excluded_count.Goals as goal

pub loop-i-init : goal.loop-i-init
loop-i-init c = (search rules, search rules, λ vs. count_none _ vs _)

pub overflow_add-m : goal.overflow_add-m
overflow_add-m c =
    let h : c.counted-m.result ≤ 1 = count-few (eqb c.kind_at.result 0) _ c.counted-m.ensures in
    omega (arith, h, c.loop-i.invariant.1, c.loop-i-test.true)

pub loop-i-preserved : goal.loop-i-preserved
loop-i-preserved c =
    let h : c.counted-m.result ≤ 1 = count-few (eqb c.kind_at.result 0) _ c.counted-m.ensures in (
      search rules,
      omega (arith, h, c.loop-i.invariant.1),
      λ vs. rw (
        c.counted-m.ensures,
        c.kind_at.ensures,
        c.byte-j.ensures,
        c.loop-i.invariant.2 vs,
      ) (sym (count-more _ vs _ _)),
    )

pub returns : goal.returns
returns c =
    let e : c.loop-i.i ≡ c.args.n = omega arith in
    rw e at c.loop-i.invariant.2

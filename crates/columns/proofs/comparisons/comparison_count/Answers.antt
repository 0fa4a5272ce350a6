use mathlib.Core.Bool.{not}
use Rattle.column_constraints.specs.Abstraction.{bound_of, excluded_by}
use mathlib.Core.Path.{sym}
use Prim.Native.Nat.{◌≤◌}
use native.Mathlib.Omega.{arith}
use mathlib.Core.List.{[]}
use Rattle.columns.proofs.Written.{count-few, count-le, count_law}
use Rattle.column_constraints.proofs.Pigeon.{few}
use Rattle.columns.proofs.comparisons.comparison_count.Goals as goal

pub overflow_add-result : goal.overflow_add-result
overflow_add-result c =
    let h : c.counted-in-None.result ≤ 1 = count-few (not c.is_absent-in-None.result) _ c.counted-in-None.ensures in
    let k : c.excluded_count-n.result ≤ c.args.c.len = rw (c.excluded_count-n.ensures []) (count-le _ [] _ _) in
    let g : c.args.c.len ≤ 128 = few _ _ _ c.requires in omega (arith, h, k, g)

pub overflow_add-result-in-None : goal.overflow_add-result-in-None
overflow_add-result-in-None c =
    let h : c.counted-in-None.result ≤ 1 = count-few (not c.is_absent-in-None.result) _ c.counted-in-None.ensures in
    let v : c.counted.result ≤ 1 = count-few (not c.is_absent.result) _ c.counted.ensures in
    let k : c.excluded_count-n.result ≤ c.args.c.len = rw (c.excluded_count-n.ensures []) (count-le _ [] _ _) in
    let g : c.args.c.len ≤ 128 = few _ _ _ c.requires in omega (arith, h, k, g, v)

pub returns-in-None : goal.returns-in-None
returns-in-None c =
    λ t e. rw (
      ← c.fixed_value.ensures t c.args.marks.now,
      c.in-None.is,
      c.counted.ensures,
      c.is_absent.ensures,
      c.counted-in-None.ensures,
      c.is_absent-in-None.ensures,
      c.excluded_count-n.ensures t.values,
      ← e,
    ) (sym (count_law
    (bound_of c.args.c.lower) (bound_of c.args.c.upper) (excluded_by t.kinds t.values c.args.marks.now c.args.c.len)))

pub returns-in-Some : goal.returns-in-Some
returns-in-Some c = λ t e. rw (← c.fixed_value.ensures t c.args.marks.now, c.in-Some.is)

-- The two evaluators: each answer is the law of its kind (Evaluation), with the results of the calls on the way.
-- Assumes nothing.
use Prim.Native.Nat.{◌<◌}
use native.Mathlib.Omega.{arith}
use mathlib.Core.Logic.{inl, inr}
use Rattle.row_test.proofs.Evaluation.{evaluable-below, list-room, member-truth}
use Rattle.row_test.proofs.Evaluation.{binary-below, not-below, null_below, not-null_below, between-below, in_below}
use Rattle.row_test.proofs.Evaluation.{compared-truth, connected_truth, not-truth, null_truth, not-null_truth}
use Rattle.row_test.proofs.Evaluation.{between-truth, leaf-truth}
use Rattle.row_test.proofs.Evaluation.{leaf-is_value, truth-is_value, binary-is_value, divided-value, divided-truth}
use Rattle.row_test.proofs.evaluate.+truth_at_value_at.Goals as goal

pub truth_at-value_at-x-requires : goal.truth_at-value_at-x-requires
truth_at-value_at-x-requires t c =
    let h : c.fields_in-f.result.a < c.args.n.0 = (binary-below c.args.records.now
    c.args.pool.now c.args.row.now c.args.nulls c.args.n _ c.requires
    c.fields_in-f.ensures c.in-4.is).0 in
    (omega arith, evaluable-below _ h c.requires)

pub truth_at-value_at-y-requires : goal.truth_at-value_at-y-requires
truth_at-value_at-y-requires t c =
    let h : c.fields_in-f.result.b < c.args.n.0 = (binary-below
    c.args.records.now c.args.pool.now c.args.row.now c.args.nulls c.args.n _
    c.requires c.fields_in-f.ensures c.in-4.is
    ).1 in
    (omega arith, evaluable-below _ h c.requires)

pub truth_at-returns-then-f-lt8 : goal.truth_at-returns-then-f-lt8
truth_at-returns-then-f-lt8 t c =
    compared-truth c.args.records.now c.args.pool.now c.args.row.now c.args.nulls c.args.n
    _ c.requires c.fields_in-f.ensures
    c.in-4.is c.if-f-lt8.true _ _ _
    c.value_at-x.ensures c.value_at-y.ensures c.compared.ensures

pub truth_at-value_at-x-requires-then-f-lt15 : goal.truth_at-value_at-x-requires-then-f-lt15
truth_at-value_at-x-requires-then-f-lt15 t c =
    let h : c.fields_in-f.result.a < c.args.n.0 = (binary-below c.args.records.now
    c.args.pool.now c.args.row.now c.args.nulls c.args.n _ c.requires
    c.fields_in-f.ensures c.in-4.is).0 in
    (omega arith, evaluable-below _ h c.requires)

pub truth_at-value_at-y-requires-then-f-lt15 : goal.truth_at-value_at-y-requires-then-f-lt15
truth_at-value_at-y-requires-then-f-lt15 t c =
    let h : c.fields_in-f.result.b < c.args.n.0 = (binary-below
    c.args.records.now c.args.pool.now c.args.row.now c.args.nulls c.args.n _
    c.requires c.fields_in-f.ensures c.in-4.is
    ).1 in
    (omega arith, evaluable-below _ h c.requires)

pub truth_at-returns-then-f-lt15 : goal.truth_at-returns-then-f-lt15
truth_at-returns-then-f-lt15 t c =
    divided-truth c.args.records.now c.args.pool.now c.args.row.now c.args.nulls c.args.n _ c.requires c.fields_in-f.ensures
    c.in-4.is c.if-f-lt8.false c.if-f-lt15.true _ _ _ _
    c.value_at-x-then-f-lt15.ensures c.value_at-y-then-f-lt15.ensures c.divided.ensures c.truth_of_value.ensures

pub truth_at-truth_at-s-requires : goal.truth_at-truth_at-s-requires
truth_at-truth_at-s-requires t c =
    let h : c.fields_in-f.result.a < c.args.n.0 = (binary-below c.args.records.now
    c.args.pool.now c.args.row.now c.args.nulls c.args.n _ c.requires
    c.fields_in-f.ensures c.in-4.is).0 in
    (omega arith, evaluable-below _ h c.requires)

pub truth_at-truth_at-t-requires : goal.truth_at-truth_at-t-requires
truth_at-truth_at-t-requires t c =
    let h : c.fields_in-f.result.b < c.args.n.0 = (binary-below
    c.args.records.now c.args.pool.now c.args.row.now c.args.nulls c.args.n _
    c.requires c.fields_in-f.ensures c.in-4.is
    ).1 in
    (omega arith, evaluable-below _ h c.requires)

pub truth_at-truth_at-requires : goal.truth_at-truth_at-requires
truth_at-truth_at-requires t c =
    let h : c.fields_in-f.result.a < c.args.n.0 = not-below c.args.records.now
    c.args.pool.now c.args.row.now c.args.nulls c.args.n _ c.requires
    c.fields_in-f.ensures c.in-5.is in
    (omega arith, evaluable-below _ h c.requires)

pub truth_at-value_at-requires : goal.truth_at-value_at-requires
truth_at-value_at-requires t c =
    let h : c.fields_in-f.result.a < c.args.n.0 = null_below c.args.records.now
    c.args.pool.now c.args.row.now c.args.nulls c.args.n _ c.requires
    c.fields_in-f.ensures c.in-6.is in
    (omega arith, evaluable-below _ h c.requires)

pub truth_at-value_at-requires-in-7 : goal.truth_at-value_at-requires-in-7
truth_at-value_at-requires-in-7 t c =
    let h : c.fields_in-f.result.a < c.args.n.0 = not-null_below c.args.records.now
    c.args.pool.now c.args.row.now c.args.nulls c.args.n _ c.requires
    c.fields_in-f.ensures c.in-7.is in
    (omega arith, evaluable-below _ h c.requires)

pub truth_at-value_at-x-requires-in-8 : goal.truth_at-value_at-x-requires-in-8
truth_at-value_at-x-requires-in-8 t c =
    let h : c.fields_in-f.result.a < c.args.n.0 = (between-below c.args.records.now
    c.args.pool.now c.args.row.now c.args.nulls c.args.n _ c.requires
    c.fields_in-f.ensures c.in-8.is).0 in
    (omega arith, evaluable-below _ h c.requires)

pub truth_at-value_at-low-requires : goal.truth_at-value_at-low-requires
truth_at-value_at-low-requires t c =
    let h : c.fields_in-f.result.b < c.args.n.0 = (between-below c.args.records.now
    c.args.pool.now c.args.row.now c.args.nulls c.args.n _ c.requires
    c.fields_in-f.ensures c.in-8.is).1 in
    (omega arith, evaluable-below _ h c.requires)

pub truth_at-value_at-high-requires : goal.truth_at-value_at-high-requires
truth_at-value_at-high-requires t c =
    let h : c.fields_in-f.result.c < c.args.n.0 = (between-below c.args.records.now
    c.args.pool.now c.args.row.now c.args.nulls c.args.n _ c.requires
    c.fields_in-f.ensures c.in-8.is).2 in
    (omega arith, evaluable-below _ h c.requires)

pub truth_at-value_at-x-requires-in-10 : goal.truth_at-value_at-x-requires-in-10
truth_at-value_at-x-requires-in-10 t c =
    let h : c.fields_in-f.result.a < c.args.n.0 = (in_below c.args.records.now c.args.pool.now
    c.args.row.now c.args.nulls c.args.n _ c.requires c.fields_in-f.ensures
    c.in-10.is).0 in
    (omega arith, evaluable-below _ h c.requires)

pub truth_at-fields_in-requires : goal.truth_at-fields_in-requires
truth_at-fields_in-requires t c =
    let h : c.fields_in-f.result.b < c.args.n.0 = (in_below c.args.records.now
    c.args.pool.now c.args.row.now c.args.nulls c.args.n _ c.requires
    c.fields_in-f.ensures c.in-10.is).1 in
    let r = c.requires.room in omega arith

pub truth_at-member-requires : goal.truth_at-member-requires
truth_at-member-requires t c =
    list-room c.args.records.now c.args.pool.now c.args.row.now c.args.nulls c.args.n _
    c.requires c.fields_in-f.ensures c.in-10.is _
    c.fields_in.ensures

pub truth_at-returns-else-f-lt15 : goal.truth_at-returns-else-f-lt15
truth_at-returns-else-f-lt15 t c =
    connected_truth c.args.records.now c.args.pool.now c.args.row.now c.args.nulls
    c.args.n _ c.requires c.fields_in-f.ensures
    c.in-4.is c.if-f-lt15.false _ _ _
    c.truth_at-s.ensures c.truth_at-t.ensures c.connected.ensures

pub truth_at-returns-in-5 : goal.truth_at-returns-in-5
truth_at-returns-in-5 t c =
    not-truth c.args.records.now c.args.pool.now c.args.row.now c.args.nulls c.args.n _
    c.requires c.fields_in-f.ensures c.in-5.is _ _
    c.truth_at.ensures c.not_of.ensures

pub truth_at-returns-in-6 : goal.truth_at-returns-in-6
truth_at-returns-in-6 t c =
    null_truth c.args.records.now c.args.pool.now c.args.row.now c.args.nulls c.args.n _
    c.requires c.fields_in-f.ensures c.in-6.is _
    _ _
    c.value_at.ensures c.is_null.ensures c.from.ensures

pub truth_at-returns-in-7 : goal.truth_at-returns-in-7
truth_at-returns-in-7 t c =
    not-null_truth c.args.records.now c.args.pool.now c.args.row.now c.args.nulls c.args.n
    _ c.requires c.fields_in-f.ensures c.in-7.is
    _ _ _
    c.value_at-in-7.ensures c.is_null-in-7.ensures c.from-in-7.ensures

pub truth_at-returns-in-8 : goal.truth_at-returns-in-8
truth_at-returns-in-8 t c =
    between-truth c.args.records.now c.args.pool.now c.args.row.now c.args.nulls c.args.n
    _ c.requires c.fields_in-f.ensures
    c.in-8.is _ _ _ _
    c.value_at-x-in-8.ensures c.value_at-low.ensures
    c.value_at-high.ensures c.between.ensures

pub truth_at-returns-in-10 : goal.truth_at-returns-in-10
truth_at-returns-in-10 t c =
    member-truth c.args.records.now c.args.pool.now c.args.row.now c.args.nulls c.args.n _
    c.requires c.fields_in-f.ensures
    c.in-10.is _ c.fields_in.ensures _ _
    c.value_at-x-in-10.ensures c.member.ensures

pub truth_at-returns-in_default : goal.truth_at-returns-in_default
truth_at-returns-in_default t c =
    let k = c.in_default.in_default-own.rest in
    leaf-truth c.args.records.now c.args.pool.now c.args.row.now c.args.nulls c.args.n _
    c.requires c.fields_in-f.ensures
    k.0.0.0.0.0.1 k.0.0.0.0.1 k.0.0.0.1 k.0.0.1 k.0.1 k.1 _ _
    c.leaf_value.ensures c.truth_of_value-in_default.ensures

pub value_at-returns-then-f-le3 : goal.value_at-returns-then-f-le3
value_at-returns-then-f-le3 t c =
    leaf-is_value c.args.records.now c.args.pool.now c.args.row.now c.args.nulls c.args.n _ c.requires c.fields_in-f.ensures c.if-f-le3.true _ c.leaf_value.ensures

pub value_at-value_at-x-requires : goal.value_at-value_at-x-requires
value_at-value_at-x-requires t c =
    let h : c.fields_in-f.result.a < c.args.n.0 = (binary-below c.args.records.now c.args.pool.now c.args.row.now c.args.nulls c.args.n _ c.requires c.fields_in-f.ensures c.in-4.is).0 in (omega arith, evaluable-below _ h c.requires)

pub value_at-value_at-y-requires : goal.value_at-value_at-y-requires
value_at-value_at-y-requires t c =
    let h : c.fields_in-f.result.b < c.args.n.0 = (binary-below c.args.records.now c.args.pool.now c.args.row.now c.args.nulls c.args.n _ c.requires c.fields_in-f.ensures c.in-4.is).1 in (omega arith, evaluable-below _ h c.requires)

pub value_at-returns-then-f-lt8 : goal.value_at-returns-then-f-lt8
value_at-returns-then-f-lt8 t c =
    binary-is_value c.args.records.now c.args.pool.now c.args.row.now c.args.nulls c.args.n _ c.requires c.fields_in-f.ensures c.in-4.is (inl c.if-f-lt8.true) _ _
    (compared-truth c.args.records.now c.args.pool.now c.args.row.now c.args.nulls c.args.n _ c.requires c.fields_in-f.ensures c.in-4.is c.if-f-lt8.true _ _ _ c.value_at-x.ensures c.value_at-y.ensures c.compared.ensures)
    c.value_of_truth.ensures

pub value_at-value_at-x-requires-then-f-lt15 : goal.value_at-value_at-x-requires-then-f-lt15
value_at-value_at-x-requires-then-f-lt15 t c =
    let h : c.fields_in-f.result.a < c.args.n.0 = (binary-below c.args.records.now c.args.pool.now c.args.row.now c.args.nulls c.args.n _ c.requires c.fields_in-f.ensures c.in-4.is).0 in (omega arith, evaluable-below _ h c.requires)

pub value_at-value_at-y-requires-then-f-lt15 : goal.value_at-value_at-y-requires-then-f-lt15
value_at-value_at-y-requires-then-f-lt15 t c =
    let h : c.fields_in-f.result.b < c.args.n.0 = (binary-below c.args.records.now c.args.pool.now c.args.row.now c.args.nulls c.args.n _ c.requires c.fields_in-f.ensures c.in-4.is).1 in (omega arith, evaluable-below _ h c.requires)

pub value_at-returns-then-f-lt15 : goal.value_at-returns-then-f-lt15
value_at-returns-then-f-lt15 t c =
    divided-value c.args.records.now c.args.pool.now c.args.row.now c.args.nulls c.args.n _ c.requires c.fields_in-f.ensures
    c.in-4.is c.if-f-lt8.false c.if-f-lt15.true _ _ _
    c.value_at-x-then-f-lt15.ensures c.value_at-y-then-f-lt15.ensures c.divided.ensures

pub value_at-truth_at-s-requires : goal.value_at-truth_at-s-requires
value_at-truth_at-s-requires t c =
    let h : c.fields_in-f.result.a < c.args.n.0 = (binary-below c.args.records.now c.args.pool.now c.args.row.now c.args.nulls c.args.n _ c.requires c.fields_in-f.ensures c.in-4.is).0 in (omega arith, evaluable-below _ h c.requires)

pub value_at-truth_at-t-requires : goal.value_at-truth_at-t-requires
value_at-truth_at-t-requires t c =
    let h : c.fields_in-f.result.b < c.args.n.0 = (binary-below c.args.records.now c.args.pool.now c.args.row.now c.args.nulls c.args.n _ c.requires c.fields_in-f.ensures c.in-4.is).1 in (omega arith, evaluable-below _ h c.requires)

pub value_at-truth_at-requires : goal.value_at-truth_at-requires
value_at-truth_at-requires t c =
    let h : c.fields_in-f.result.a < c.args.n.0 = not-below c.args.records.now c.args.pool.now c.args.row.now c.args.nulls c.args.n _ c.requires c.fields_in-f.ensures c.in-5.is in (omega arith, evaluable-below _ h c.requires)

pub value_at-value_at-requires : goal.value_at-value_at-requires
value_at-value_at-requires t c =
    let h : c.fields_in-f.result.a < c.args.n.0 = null_below c.args.records.now c.args.pool.now c.args.row.now c.args.nulls c.args.n _ c.requires c.fields_in-f.ensures c.in-6.is in (omega arith, evaluable-below _ h c.requires)

pub value_at-value_at-requires-in-7 : goal.value_at-value_at-requires-in-7
value_at-value_at-requires-in-7 t c =
    let h : c.fields_in-f.result.a < c.args.n.0 = not-null_below c.args.records.now c.args.pool.now c.args.row.now c.args.nulls c.args.n _ c.requires c.fields_in-f.ensures c.in-7.is in (omega arith, evaluable-below _ h c.requires)

pub value_at-value_at-x-requires-in-8 : goal.value_at-value_at-x-requires-in-8
value_at-value_at-x-requires-in-8 t c =
    let h : c.fields_in-f.result.a < c.args.n.0 = (between-below c.args.records.now c.args.pool.now c.args.row.now c.args.nulls c.args.n _ c.requires c.fields_in-f.ensures c.in-8.is).0 in (omega arith, evaluable-below _ h c.requires)

pub value_at-value_at-low-requires : goal.value_at-value_at-low-requires
value_at-value_at-low-requires t c =
    let h : c.fields_in-f.result.b < c.args.n.0 = (between-below c.args.records.now c.args.pool.now c.args.row.now c.args.nulls c.args.n _ c.requires c.fields_in-f.ensures c.in-8.is).1 in (omega arith, evaluable-below _ h c.requires)

pub value_at-value_at-high-requires : goal.value_at-value_at-high-requires
value_at-value_at-high-requires t c =
    let h : c.fields_in-f.result.c < c.args.n.0 = (between-below c.args.records.now c.args.pool.now c.args.row.now c.args.nulls c.args.n _ c.requires c.fields_in-f.ensures c.in-8.is).2 in (omega arith, evaluable-below _ h c.requires)

pub value_at-value_at-x-requires-in-10 : goal.value_at-value_at-x-requires-in-10
value_at-value_at-x-requires-in-10 t c =
    let h : c.fields_in-f.result.a < c.args.n.0 = (in_below c.args.records.now c.args.pool.now c.args.row.now c.args.nulls c.args.n _ c.requires c.fields_in-f.ensures c.in-10.is).0 in (omega arith, evaluable-below _ h c.requires)

pub value_at-fields_in-requires : goal.value_at-fields_in-requires
value_at-fields_in-requires t c =
    let h : c.fields_in-f.result.b < c.args.n.0 = (in_below c.args.records.now c.args.pool.now c.args.row.now c.args.nulls c.args.n _ c.requires c.fields_in-f.ensures c.in-10.is).1 in let r = c.requires.room in omega arith

pub value_at-member-requires : goal.value_at-member-requires
value_at-member-requires t c =
    list-room c.args.records.now c.args.pool.now c.args.row.now c.args.nulls c.args.n _ c.requires c.fields_in-f.ensures c.in-10.is _ c.fields_in.ensures

pub value_at-returns-else-f-lt15 : goal.value_at-returns-else-f-lt15
value_at-returns-else-f-lt15 t c =
    binary-is_value c.args.records.now c.args.pool.now c.args.row.now c.args.nulls c.args.n _ c.requires c.fields_in-f.ensures c.in-4.is (inr c.if-f-lt15.false) _ _
    (connected_truth c.args.records.now c.args.pool.now c.args.row.now c.args.nulls c.args.n _ c.requires c.fields_in-f.ensures c.in-4.is c.if-f-lt15.false _ _ _ c.truth_at-s.ensures c.truth_at-t.ensures c.connected.ensures)
    c.value_of_truth-in-4.ensures

pub value_at-returns-in-5 : goal.value_at-returns-in-5
value_at-returns-in-5 t c =
    truth-is_value c.args.records.now c.args.pool.now c.args.row.now c.args.nulls c.args.n _ c.requires c.fields_in-f.ensures c.if-f-le3.false (λ q. omega (arith, q, c.in-5.is)) _ _
    (not-truth c.args.records.now c.args.pool.now c.args.row.now c.args.nulls c.args.n _ c.requires c.fields_in-f.ensures c.in-5.is _ _ c.truth_at.ensures c.not_of.ensures)
    c.value_of_truth-in-5.ensures

pub value_at-returns-in-6 : goal.value_at-returns-in-6
value_at-returns-in-6 t c =
    truth-is_value c.args.records.now c.args.pool.now c.args.row.now c.args.nulls c.args.n _ c.requires c.fields_in-f.ensures c.if-f-le3.false (λ q. omega (arith, q, c.in-6.is)) _ _
    (null_truth c.args.records.now c.args.pool.now c.args.row.now c.args.nulls c.args.n _ c.requires c.fields_in-f.ensures c.in-6.is _ _ _ c.value_at.ensures c.is_null.ensures c.from.ensures)
    c.value_of_truth-in-6.ensures

pub value_at-returns-in-7 : goal.value_at-returns-in-7
value_at-returns-in-7 t c =
    truth-is_value c.args.records.now c.args.pool.now c.args.row.now c.args.nulls c.args.n _ c.requires c.fields_in-f.ensures c.if-f-le3.false (λ q. omega (arith, q, c.in-7.is)) _ _
    (not-null_truth c.args.records.now c.args.pool.now c.args.row.now c.args.nulls c.args.n _ c.requires c.fields_in-f.ensures c.in-7.is _ _ _ c.value_at-in-7.ensures c.is_null-in-7.ensures c.from-in-7.ensures)
    c.value_of_truth-in-7.ensures

pub value_at-returns-in-8 : goal.value_at-returns-in-8
value_at-returns-in-8 t c =
    truth-is_value c.args.records.now c.args.pool.now c.args.row.now c.args.nulls c.args.n _ c.requires c.fields_in-f.ensures c.if-f-le3.false (λ q. omega (arith, q, c.in-8.is)) _ _
    (between-truth c.args.records.now c.args.pool.now c.args.row.now c.args.nulls c.args.n _ c.requires c.fields_in-f.ensures c.in-8.is _ _ _ _ c.value_at-x-in-8.ensures c.value_at-low.ensures c.value_at-high.ensures c.between.ensures)
    c.value_of_truth-in-8.ensures

pub value_at-returns-in-10 : goal.value_at-returns-in-10
value_at-returns-in-10 t c =
    truth-is_value c.args.records.now c.args.pool.now c.args.row.now c.args.nulls c.args.n _ c.requires c.fields_in-f.ensures c.if-f-le3.false (λ q. omega (arith, q, c.in-10.is)) _ _
    (member-truth c.args.records.now c.args.pool.now c.args.row.now c.args.nulls c.args.n _ c.requires c.fields_in-f.ensures c.in-10.is _ c.fields_in.ensures _ _ c.value_at-x-in-10.ensures c.member.ensures)
    c.value_of_truth-in-10.ensures

pub value_at-returns-in_default : goal.value_at-returns-in_default
value_at-returns-in_default t c =
    let k = c.in_default.in_default-own.rest in
    truth-is_value c.args.records.now c.args.pool.now c.args.row.now c.args.nulls c.args.n _ c.requires c.fields_in-f.ensures c.if-f-le3.false k.0.0.0.0.0.1 _ _
    (leaf-truth c.args.records.now c.args.pool.now c.args.row.now c.args.nulls c.args.n _ c.requires c.fields_in-f.ensures k.0.0.0.0.0.1 k.0.0.0.0.1 k.0.0.0.1 k.0.0.1 k.0.1 k.1 _ _ c.leaf_value-in_default.ensures c.truth_of_value.ensures)
    c.value_of_truth-in_default.ensures

use native.Mathlib.Omega.{arith}
use Rattle.merge.proofs.Splices.{splice-then}
use Rattle.reasons.specs.Text.{operator_name}
use Rattle.reasons.proofs.operator.write_operator.Goals as goal

-- the clauses by their names
named : {A0 A1 : Type 0} → A0 × A1 → record { value : A0; s_after : A1 }
named p = record { value = p.0; s_after = p.1 }

pub put_three-requires : goal.put_three-requires
unfolding operator_name
put_three-requires c = omega (arith, rw c.in-Eq.is at c.requires)

pub put_three-next-requires : goal.put_three-next-requires
unfolding operator_name
put_three-next-requires c = omega (arith, rw c.in-NotEq.is at c.requires)

pub put_three-requires-in-NotEq : goal.put_three-requires-in-NotEq
unfolding operator_name
put_three-requires-in-NotEq c = omega (arith, rw c.in-NotEq.is at c.requires)

pub put_three-requires-in-Lt : goal.put_three-requires-in-Lt
unfolding operator_name
put_three-requires-in-Lt c = omega (arith, rw c.in-Lt.is at c.requires)

pub put_two-next-requires : goal.put_two-next-requires
unfolding operator_name
put_two-next-requires c = omega (arith, rw c.in-LtEq.is at c.requires)

pub put_three-requires-in-LtEq : goal.put_three-requires-in-LtEq
unfolding operator_name
put_three-requires-in-LtEq c = omega (arith, rw c.in-LtEq.is at c.requires)

pub put_three-requires-in-Gt : goal.put_three-requires-in-Gt
unfolding operator_name
put_three-requires-in-Gt c = omega (arith, rw c.in-Gt.is at c.requires)

pub put_two-next-requires-in-GtEq : goal.put_two-next-requires-in-GtEq
unfolding operator_name
put_two-next-requires-in-GtEq c = omega (arith, rw c.in-GtEq.is at c.requires)

pub put_three-requires-in-GtEq : goal.put_three-requires-in-GtEq
unfolding operator_name
put_three-requires-in-GtEq c = omega (arith, rw c.in-GtEq.is at c.requires)

pub returns-in-Eq : goal.returns-in-Eq
unfolding operator_name
returns-in-Eq c = named (rw c.in-Eq.is (omega arith, c.put_three.ensures.s_after))

pub returns-in-NotEq : goal.returns-in-NotEq
unfolding operator_name
returns-in-NotEq c =
    let h = rw c.in-NotEq.is at c.requires in
    named (rw c.in-NotEq.is (
      omega arith,
      splice-then _ _ _ _ _ c.put_three-next.ensures.s_after c.put_three-in-NotEq.ensures.s_after (omega arith) (omega arith),
    ))

pub returns-in-Lt : goal.returns-in-Lt
unfolding operator_name
returns-in-Lt c = named (rw c.in-Lt.is (omega arith, c.put_three-in-Lt.ensures.s_after))

pub returns-in-LtEq : goal.returns-in-LtEq
unfolding operator_name
returns-in-LtEq c =
    let h = rw c.in-LtEq.is at c.requires in
    named (rw c.in-LtEq.is (
      omega arith,
      splice-then _ _ _ _ _ c.put_two-next.ensures.s_after c.put_three-in-LtEq.ensures.s_after
          (omega arith) (omega arith),
    ))

pub returns-in-Gt : goal.returns-in-Gt
unfolding operator_name
returns-in-Gt c = named (rw c.in-Gt.is (omega arith, c.put_three-in-Gt.ensures.s_after))

pub returns-in-GtEq : goal.returns-in-GtEq
unfolding operator_name
returns-in-GtEq c =
    let h = rw c.in-GtEq.is at c.requires in
    named (rw c.in-GtEq.is (
      omega arith,
      splice-then _ _ _ _ _ c.put_two-next-in-GtEq.ensures.s_after c.put_three-in-GtEq.ensures.s_after (omega arith) (omega arith),
    ))

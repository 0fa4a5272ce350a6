use Rattle.std.proofs.Common.{eqb, refl, arith, rules}
use Rattle.row_blocks.proofs.Parts.{distance_small, one-small, size_is}
use Rattle.row_blocks.proofs.quotients.size_of.Goals as goal

-- the clauses by their names
named : {A0 A1 A2 : Type 0} → A0 × (A1 × A2) → record { result_nonzero : A0; q_value : A1; result_value : A2 }
named p = record { result_nonzero = p.0; q_value = p.1.0; result_value = p.1.1 }

pub overflow_add-result : goal.overflow_add-result
overflow_add-result c =
    let small = distance_small c.args.q c.distance-d.result (search rules) c.distance-d.ensures.q_value c.distance-d.ensures.result_value in
    let one = one-small (eqb c.distance-d.result 0) c.one_if.result c.one_if.ensures in
    omega (arith, small, one)

pub returns : goal.returns
returns c =
    named (size_is c.args.q c.distance-d.result _ c.one_if.result (search rules) c.distance-d.ensures.q_value c.distance-d.ensures.result_value c.one_if.ensures refl)

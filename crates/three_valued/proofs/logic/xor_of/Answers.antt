use native.Mathlib.Omega.{arith}
use Rattle.three_valued.specs.Logic.{xor3}
use Rattle.three_valued.proofs.Tables.{truth-code_small, xor_rows, xor_table, entry_read}
use Rattle.three_valued.proofs.logic.xor_of.Goals as goal

pub offset_bounds-i : goal.offset_bounds-i
offset_bounds-i c = omega (arith, truth-code_small c.args.a, c.truth_code-i.ensures)

pub bounds-i : goal.bounds-i
bounds-i c = omega (arith, truth-code_small c.args.a, c.truth_code-i.ensures)

pub bounds-j : goal.bounds-j
bounds-j c = omega (arith, truth-code_small c.args.b, c.truth_code-j.ensures)

pub returns : goal.returns
returns c =
    entry_read xor_rows xor3 xor_table c.args.a c.args.b _ _ _
    c.truth_code-i.ensures c.truth_code-j.ensures
    c.truth_of.ensures

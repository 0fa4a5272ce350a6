use native.Mathlib.Omega.{arith}
use Rattle.three_valued.specs.Logic.{or3}
use Rattle.three_valued.proofs.Tables.{truth-code_small, or_rows, or_table, entry_read}
use Rattle.three_valued.proofs.logic.or_of.Goals as goal

pub offset_bounds-i : goal.offset_bounds-i
offset_bounds-i c = omega (arith, truth-code_small c.args.a, c.truth_code-i.ensures)

pub bounds-i : goal.bounds-i
bounds-i c = omega (arith, truth-code_small c.args.a, c.truth_code-i.ensures)

pub bounds-j : goal.bounds-j
bounds-j c = omega (arith, truth-code_small c.args.b, c.truth_code-j.ensures)

pub returns : goal.returns
returns c =
    entry_read or_rows or3 or_table c.args.a c.args.b _ _ _ c.truth_code-i.ensures
    c.truth_code-j.ensures
    c.truth_of.ensures

-- The reason of a comparison that the code writes: its own operators, and a value's 64 bits.
use Rattle.std.specs.Prelude.{ℕ}
use Rattle.read_operands.specs.declared.operands.Comparison.{Comparison}
use Rattle.read_operands.specs.Read.{comparison_in}
use Rattle.merge.specs.Reasons.{ReasonValue, Reason}

abbrev pub reason_in : (ℕ → ℕ → ReasonValue) → ℕ → Comparison → ℕ → ℕ → Reason
reason_in shows column operator bits line =
    record { column = column; operator = comparison_in operator; value = shows column bits; line = line }

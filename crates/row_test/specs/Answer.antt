-- The answer of testing a row, of 01: a refusal with its number, or what the row makes of the screen; and what code answers for
-- it.
use Rattle.std.specs.Prelude.{ℕ, Result, Ok, Err}
use Rattle.refusal.specs.declared.Refusal.{Refusal}
use Rattle.refusal.specs.Numbers.{number}
use Rattle.three_valued.specs.declared.logic.Truth.{Truth}

pub data RowAnswer : Type 0 where
  Refused : ℕ → RowAnswer
  Tested : Truth → RowAnswer

abbrev pub row_answered : Result Truth Refusal → RowAnswer
row_answered (Ok t) = Tested t
row_answered (Err r) = Refused (number r)

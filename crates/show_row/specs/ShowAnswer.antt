-- The answer of showing a row, of 02, 2.7: a refusal with its number, that no row passes, or the null marks of the row shown; and
-- what code answers for it.
use Rattle.std.specs.Prelude.{ℕ, Option, None, Some, Result, Ok, Err}
use Rattle.refusal.specs.declared.Refusal.{Refusal}
use Rattle.refusal.specs.Numbers.{number}

pub data ShowAnswer : Type 0 where
  Refused : ℕ → ShowAnswer
  NoRow : ShowAnswer
  Row : ℕ → ShowAnswer

-- of a screen that is not refused
abbrev pub row_found : Option ℕ → ShowAnswer
row_found None = NoRow
row_found (Some nulls) = Row nulls

abbrev pub show_answered : Result (Option ℕ) Refusal → ShowAnswer
show_answered (Ok o) = row_found o
show_answered (Err r) = Refused (number r)

-- The answer of columns read, of 01: a refusal with its number, or the word and the number of ones in it; and what code answers
-- for it.
use Rattle.std.specs.Prelude.{ℕ, Result, Ok, Err}
use Rattle.refusal.specs.declared.Refusal.{Refusal}
use Rattle.refusal.specs.Numbers.{number}
use Rattle.checking.specs.declared.reads.ColumnsRead.{ColumnsRead}

pub data ColumnsAnswer : Type 0 where
  Refused : ℕ → ColumnsAnswer
  Read : ℕ → ℕ → ColumnsAnswer

abbrev pub columns_answered : Result ColumnsRead Refusal → ColumnsAnswer
columns_answered (Ok r) = Read r.word r.count
columns_answered (Err r) = Refused (number r)

-- The answer of saving, of 02, 2.3: a refusal with its number, or the file's length; and what code answers for it.
use Rattle.std.specs.Prelude.{ℕ, Result, Ok, Err}
use Rattle.refusal.specs.declared.Refusal.{Refusal}
use Rattle.refusal.specs.Numbers.{number}

pub data SaveAnswer : Type 0 where
  Refused : ℕ → SaveAnswer
  Saved : ℕ → SaveAnswer

abbrev pub save_answered : Result ℕ Refusal → SaveAnswer
save_answered (Ok n) = Saved n
save_answered (Err r) = Refused (number r)

-- The answer of checking, of 01: a refusal with its number, or that the screen is accepted; and what code answers for it.
use Rattle.std.specs.Prelude.{ℕ, Result, Ok, Err}
use Rattle.refusal.specs.declared.Refusal.{Refusal}
use Rattle.refusal.specs.Numbers.{number}

pub data CheckAnswer : Type 0 where
  Refused : ℕ → CheckAnswer
  Accepted : CheckAnswer

abbrev pub answered : Result (Unit {0}) Refusal → CheckAnswer
answered (Ok u) = Accepted
answered (Err r) = Refused (number r)

-- The answer of the builder, of 02, 2.13: a refusal with its number, or the root and the used count of the screen built; and what
-- code answers for it.
use Rattle.std.specs.Prelude.{ℕ, Result, Ok, Err}
use Rattle.refusal.specs.declared.Refusal.{Refusal}
use Rattle.refusal.specs.Numbers.{number}
use Rattle.slowest.specs.declared.build.BuiltScreen.{BuiltScreen}

pub data SlowestAnswer : Type 0 where
  Refused : ℕ → SlowestAnswer
  Built : ℕ → ℕ → SlowestAnswer

abbrev pub slowest_answered : Result BuiltScreen Refusal → SlowestAnswer
slowest_answered (Ok s) = Built s.root s.used
slowest_answered (Err r) = Refused (number r)

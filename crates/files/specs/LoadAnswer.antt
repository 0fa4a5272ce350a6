-- The answer of loading, of 02, 2.3 and 2.10: a refusal with its number, or the root and the totals of columns, records, values
-- and bytes of text; and what code answers for it.
use Rattle.std.specs.Prelude.{ℕ, Result, Ok, Err}
use Rattle.refusal.specs.declared.Refusal.{Refusal}
use Rattle.refusal.specs.Numbers.{number}
use Rattle.files.specs.declared.load.LoadedScreen.{LoadedScreen}

pub data LoadAnswer : Type 0 where
  Refused : ℕ → LoadAnswer
  Loaded : ℕ → ℕ → ℕ → ℕ → ℕ → LoadAnswer

abbrev pub load_answered : Result LoadedScreen Refusal → LoadAnswer
load_answered (Ok s) = Loaded s.root s.columns s.used s.values s.bytes
load_answered (Err r) = Refused (number r)

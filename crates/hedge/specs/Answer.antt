-- The answer of the hedge list, of 02, 2.14: a refusal with its number, or how many rows passed, were false, were unknown; and what
-- code answers for it.
use Rattle.std.specs.Prelude.{ℕ, Result, Ok, Err}
use Rattle.refusal.specs.declared.Refusal.{Refusal}
use Rattle.refusal.specs.Numbers.{number}
use Rattle.hedge.specs.declared.list.ListedRows.{ListedRows}

pub data HedgeAnswer : Type 0 where
  Refused : ℕ → HedgeAnswer
  Listed : ℕ → ℕ → ℕ → HedgeAnswer

abbrev pub hedge_answered : Result ListedRows Refusal → HedgeAnswer
hedge_answered (Ok rows) = Listed rows.passed rows.is_false rows.unknown
hedge_answered (Err r) = Refused (number r)

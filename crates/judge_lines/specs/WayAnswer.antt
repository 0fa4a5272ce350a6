-- The answer of the line in the way, of 02, 2.9: a refusal with its number, that a row passes already, the first line whose
-- removal makes some row pass, or that no single line does; and what code answers for it.
use Rattle.std.specs.Prelude.{ℕ, Result, Ok, Err}
use Rattle.refusal.specs.declared.Refusal.{Refusal}
use Rattle.refusal.specs.Numbers.{number}
use Rattle.judge_lines.specs.declared.answer.Way.{Way}
use Rattle.judge_lines.specs.declared.answer.Way.TheVariants as found

pub data WayAnswer : Type 0 where
  Refused : ℕ → WayAnswer
  Passes : WayAnswer
  Line : ℕ → WayAnswer
  NoLine : WayAnswer

-- of a screen that is not refused
abbrev pub way_found : Way → WayAnswer
way_found found.Passes = Passes
way_found (found.Line i) = Line i
way_found found.NoLine = NoLine

abbrev pub way_answered : Result Way Refusal → WayAnswer
way_answered (Ok w) = way_found w
way_answered (Err r) = Refused (number r)

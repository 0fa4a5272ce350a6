use native.Mathlib.Omega.{arith}
use mathlib.Core.Path.{ap}
use Rattle.ranked_screen.specs.Screen.{ranked_record, list_start}
use Rattle.ranked_screen.proofs.Records.{others-stay}
use borrow.Enum.Refused.{opened}
use Rattle.ranked_screen.proofs.record.ranked_record.Goals as goal

pub ranked_list-requires : goal.ranked_list-requires
unfolding list_start
ranked_list-requires c =
    let e = ap list_start c.in-List.is in
    omega (arith, e, c.requires)

pub returns-in-Literal : goal.returns-in-Literal
unfolding ranked_record
returns-in-Literal c = rw (c.in-Literal.is, c.ranked_literal.ensures)

pub returns-in-List : goal.returns-in-List
unfolding ranked_record
returns-in-List c = rw (c.in-List.is, c.ranked_list.ensures)

pub returns-in_default : goal.returns-in_default
returns-in_default c = others-stay _ _ c.args.r (opened c.in_default.in_default-own.keys3)

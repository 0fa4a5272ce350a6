use mathlib.Core.Path.{◌∙◌}
use Rattle.symbol_values.proofs.SymbolLists.{member-null, member-known}
use Rattle.symbol_values.proofs.symbol_member.Goals as goal

pub symbol_listed-requires : goal.symbol_listed-requires
symbol_listed-requires c =
    record { count_in_bounds = c.requires.b_in_bounds; v_value = rw c.in-Some.is at c.requires.pooled_value; pooled_from = c.requires.pooled_from }

pub returns-in-None : goal.returns-in-None
returns-in-None c = rw c.in-None.is (c.member.ensures ∙ rw c.in-None.is (member-null _ _ _ _))

pub returns-in-Some : goal.returns-in-Some
returns-in-Some c = c.known_in.ensures ∙ rw (c.in-Some.is, c.symbol_listed.ensures) (member-known _ _ _ _ _)

use mathlib.Core.Path.{refl}
use borrow.Author.Tests.{eq-eqb, ne_eqb}
use Rattle.symbol_columns.proofs.convert.typed_column.Goals as goal

pub returns-then-ty-eq4 : goal.returns-then-ty-eq4
returns-then-ty-eq4 c =
    record { by_index = (λ p t a. rw (eq-eqb _ _ c.if-ty-eq4.true) (c.literal_column.ensures.by_index p t a)); len_value = c.literal_column.ensures.len_value }

pub returns : goal.returns
returns c = record { by_index = (λ p t a. rw (ne_eqb _ _ c.if-ty-eq4.false)); len_value = refl }

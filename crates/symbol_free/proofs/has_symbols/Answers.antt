use mathlib.Core.Bool.{true≢false}
use mathlib.Core.Path.{sym, ◌∙◌}
use borrow.Author.Tests.{not-false}
use Rattle.symbol_free.proofs.Free.{no_text}
use mathlib.Core.Path.{ap}
use mathlib.Core.Bool.{not}
use Rattle.symbol_free.proofs.has_symbols.Goals as goal

pub returns-then-used-gt4096 : goal.returns-then-used-gt4096
returns-then-used-gt4096 c = λ e. absurd (true≢false e)

pub returns-then-rs-used : goal.returns-then-rs-used
returns-then-rs-used c = λ e. absurd (true≢false e)

pub returns-then-not-no_text_column : goal.returns-then-not-no_text_column
returns-then-not-no_text_column c = λ e. absurd (true≢false e)

pub returns : goal.returns
returns c =
    λ e. no_text _ _ _ (sym c.no_text_column.ensures ∙ not-false _ (ap not c.if-not-no_text_column.false)) (sym c.no_text_record.ensures
    ∙ not-false _ e)

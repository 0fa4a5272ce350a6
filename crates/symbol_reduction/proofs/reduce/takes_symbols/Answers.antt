use borrow.Author.Tests.{ne_eqb, le-leb, lt-leb}
use Rattle.symbol_reduction.specs.Reduction.{takes_symbols}
use Rattle.symbol_reduction.proofs.reduce.takes_symbols.Goals as goal

pub returns-then-f-lt4 : goal.returns-then-f-lt4
unfolding takes_symbols
returns-then-f-lt4 c = rw (lt-leb _ _ c.if-f-lt4.true)

pub returns-then-f-eq9 : goal.returns-then-f-eq9
unfolding takes_symbols
returns-then-f-eq9 c = rw c.if-f-eq9.true

pub returns : goal.returns
unfolding takes_symbols
returns c = rw (le-leb _ _ c.if-f-lt4.false, ne_eqb _ _ c.if-f-eq9.false) c.is_text_input.ensures

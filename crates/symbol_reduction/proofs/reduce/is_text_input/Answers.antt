use borrow.Author.Tests.{ne_eqb}
use Rattle.records.specs.Record.{fields_at}
use Rattle.symbol_reduction.specs.Reduction.{is_text_input}
use Rattle.symbol_reduction.proofs.reduce.is_text_input.Goals as goal

pub returns-then-byte-eq1 : goal.returns-then-byte-eq1
unfolding is_text_input fields_at
returns-then-byte-eq1 c = rw (← c.byte.ensures, c.if-byte-eq1.true, ← c.word_at.ensures, ← c.byte-then-byte-eq1.ensures)

pub returns : goal.returns
unfolding is_text_input fields_at
returns c = rw (← c.byte.ensures, ne_eqb _ _ c.if-byte-eq1.false, ← c.byte-2.ensures)

use mathlib.Core.Path.{◌∙◌, ap}
use borrow.Author.Tests.{lt-ltb, le-ltb}
use Rattle.symbol_screens.specs.Placed.{word_at, literal_bits}
use Rattle.ranked_screen.proofs.places.place_word.Goals as goal

pub returns-then-i-used : goal.returns-then-i-used
unfolding word_at
returns-then-i-used c = rw (lt-ltb _ _ c.if-i-used.true) (c.literal_bits.ensures ∙ ap literal_bits c.record_at.ensures)

pub returns : goal.returns
unfolding word_at
returns c = rw (le-ltb _ _ c.if-i-used.false) c.value_at.ensures

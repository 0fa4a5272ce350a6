use borrow.Author.Tests.{lt-ltb, le-ltb}
use Rattle.ranked_screen.specs.Screen.{pool_value}
use Rattle.ranked_screen.proofs.pool.pool_value.Goals as goal

pub returns-then-k-words : goal.returns-then-k-words
unfolding pool_value
returns-then-k-words c = rw (lt-ltb _ _ c.if-k-words.true)

pub returns : goal.returns
unfolding pool_value
returns c = rw (le-ltb _ _ c.if-k-words.false) c.value_at.ensures

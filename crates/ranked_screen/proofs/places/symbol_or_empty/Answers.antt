use Rattle.records.proofs.Laws.{flags}
use Rattle.ranked_screen.proofs.places.symbol_or_empty.Goals as goal

pub returns-then-in_pool : goal.returns-then-in_pool
returns-then-in_pool c = search (flags, ← c.in_pool.ensures)

pub returns-else-in_pool : goal.returns-else-in_pool
returns-else-in_pool c = search (flags, ← c.in_pool.ensures)

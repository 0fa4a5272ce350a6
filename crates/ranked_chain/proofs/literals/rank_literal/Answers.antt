use Rattle.records.proofs.Laws.{flags}
use Rattle.ranked_chain.proofs.literals.rank_literal.Goals as goal

pub returns-then-not-is_text_literal : goal.returns-then-not-is_text_literal
returns-then-not-is_text_literal c = search (flags, ← c.is_text_literal.ensures)

pub returns : goal.returns
returns c = search (flags, ← c.is_text_literal.ensures, ← c.put_value.ensures)

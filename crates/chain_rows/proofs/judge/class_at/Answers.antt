use Rattle.records.proofs.Laws.{flags}
use Rattle.chain_rows.proofs.judge.class_at.Goals as goal

pub returns-then-null_marked : goal.returns-then-null_marked
returns-then-null_marked c = search (flags, ← c.null_marked.ensures)

pub returns-then-null_marked-2 : goal.returns-then-null_marked-2
returns-then-null_marked-2 c = search (flags, ← c.null_marked.ensures, ← c.null_marked-2.ensures)

pub returns : goal.returns
returns c = search (flags, ← c.null_marked.ensures, ← c.null_marked-2.ensures)

use borrow.Author.Rules.{rules}
use Rattle.records.proofs.Laws.{flags}
use Rattle.records.proofs.Loops.{flag_yes}
use Rattle.file_structure.specs.Read.{structure_ok, whole_ok}
use mathlib.Core.Path.{ap}
use mathlib.Core.Bool.{not}
use Rattle.file_structure.proofs.structure_ok.Goals as goal

pub returns-then-f-ne0 : goal.returns-then-f-ne0
unfolding structure_ok whole_ok
returns-then-f-ne0 c = search flags

pub returns-then-f-lt512 : goal.returns-then-f-lt512
unfolding structure_ok whole_ok
returns-then-f-lt512 c = search flags

pub returns-then-not-blocks_ok : goal.returns-then-not-blocks_ok
unfolding structure_ok whole_ok
returns-then-not-blocks_ok c = search (flags, ← c.blocks_ok.ensures)

pub returns-then-not-order_ok : goal.returns-then-not-order_ok
unfolding structure_ok whole_ok
returns-then-not-order_ok c = search (flags, ← c.blocks_ok.ensures, ← c.order_ok.ensures)

pub returns-then-not-ends_ok : goal.returns-then-not-ends_ok
unfolding structure_ok whole_ok
returns-then-not-ends_ok c = search (flags, ← c.blocks_ok.ensures, ← c.order_ok.ensures, ← c.ends_ok.ensures)

pub used_ok-requires : goal.used_ok-requires
used_ok-requires c =
    record { in_bounds = search rules; f_value = flag_yes c.blocks_ok.ensures (ap not c.if-not-blocks_ok.false) }

pub returns : goal.returns
unfolding structure_ok whole_ok
returns c =
    search (flags, ← c.blocks_ok.ensures, ← c.order_ok.ensures, ← c.ends_ok.ensures, ← c.used_ok.ensures)

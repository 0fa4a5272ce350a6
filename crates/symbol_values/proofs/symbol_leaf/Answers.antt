use borrow.Author.Rules.{rules}
use borrow.Author.Tests.{ne_eqb}
use Rattle.symbol_values.specs.SymbolValues.{leaf_bits}
use Rattle.symbol_values.proofs.symbol_leaf.Goals as goal

pub null_marked-requires : goal.null_marked-requires
null_marked-requires c = (c.requires c.if-f-eq1.true).0

pub returns-then-null_marked : goal.returns-then-null_marked
unfolding leaf_bits
returns-then-null_marked c = rw (c.if-f-eq1.true, ← c.null_marked.ensures, c.if-null_marked.true)

pub value_in-requires : goal.value_in-requires
value_in-requires c = search (rules, c.requires c.if-f-eq1.true)

pub returns-then-f-eq1 : goal.returns-then-f-eq1
unfolding leaf_bits
returns-then-f-eq1 c = rw (c.if-f-eq1.true, ← c.null_marked.ensures, c.if-null_marked.false, c.value_in.ensures)

pub returns-then-f-eq2 : goal.returns-then-f-eq2
unfolding leaf_bits
returns-then-f-eq2 c = rw c.if-f-eq2.true

pub returns : goal.returns
unfolding leaf_bits
returns c = rw (ne_eqb _ _ c.if-f-eq1.false, ne_eqb _ _ c.if-f-eq2.false)

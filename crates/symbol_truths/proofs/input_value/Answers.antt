use Rattle.symbol_truths.proofs.input_value.Goals as goal

pub symbol_leaf-requires : goal.symbol_leaf-requires
symbol_leaf-requires c = rw c.fields_in.ensures c.requires.column_there

pub returns : goal.returns
returns c = rw (← c.fields_in.ensures) c.symbol_leaf.ensures

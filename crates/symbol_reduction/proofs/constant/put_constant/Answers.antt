use Rattle.symbol_reduction.proofs.constant.put_constant.Goals as goal

pub returns : goal.returns
returns c = rw (← c.constant_kind.ensures, ← c.constant_value.ensures) c.put_value.ensures

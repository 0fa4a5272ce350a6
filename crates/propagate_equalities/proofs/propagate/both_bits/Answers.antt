use Rattle.checking.proofs.Bits.{one_shifted}
use Rattle.propagate_equalities.proofs.propagate.both_bits.Goals as goal

pub returns : goal.returns
returns c = rw (one_shifted c.args.a c.requires.0, one_shifted c.args.b c.requires.1)

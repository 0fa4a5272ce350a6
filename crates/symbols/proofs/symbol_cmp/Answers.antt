use Rattle.symbols.specs.Symbol.{symbol}
use Rattle.symbols.proofs.Comparing.{in_bounds}
use Rattle.symbols.proofs.symbol_cmp.Goals as goal

-- `symbol_cmp` meets its contract: a value that lies in the pool has all its bytes there. Assumes nothing.
pub compare_bytes-requires : goal.compare_bytes-requires
compare_bytes-requires c = (in_bounds _ _ c.requires.0, in_bounds _ _ c.requires.1)

pub returns : goal.returns
unfolding symbol
returns c = c.compare_bytes.ensures

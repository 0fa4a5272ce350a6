use mathlib.Core.Bool.{true≢false}
use Rattle.symbol_chain.proofs.is_cheap.Goals as goal

pub returns-then-rows-eq0 : goal.returns-then-rows-eq0
returns-then-rows-eq0 c = λ e. absurd (true≢false e)

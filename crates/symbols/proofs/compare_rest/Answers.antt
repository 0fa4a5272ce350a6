use mathlib.Core.Path.{◌∙◌}
use native.Mathlib.Omega.{arith}
use Rattle.symbols.proofs.Comparing.{rest-less, rest-greater, rest-next, rest_ended, count-order}
use Rattle.symbols.proofs.compare_rest.Goals as goal

pub loop-k-init : goal.loop-k-init
loop-k-init c = c.requires.2

pub returns-then-x-y : goal.returns-then-x-y
returns-then-x-y c = rest-less c.loop-k.invariant (omega arith) (omega arith) c.if-x-y.true

pub returns-then-y-x : goal.returns-then-y-x
returns-then-y-x c = rest-greater c.loop-k.invariant (omega arith) (omega arith) c.if-y-x.true

pub loop-k-preserved : goal.loop-k-preserved
loop-k-preserved c = rest-next c.loop-k.invariant (omega arith) (omega arith) (omega arith)

pub returns : goal.returns
returns c = c.cmp.ensures ∙ count-order _ _ ∙ rest_ended c.loop-k.invariant (omega arith)

use mathlib.Core.Path.{sym, ◌∙◌}
use native.Mathlib.Omega.{arith}
use Rattle.symbols.proofs.Comparing.{rest-none, rest-four}
use Rattle.symbols.proofs.equal_front.Goals as goal

pub loop-k-init : goal.loop-k-init
loop-k-init c = rest-none _ _ _ _ _

pub loop-k-preserved : goal.loop-k-preserved
loop-k-preserved c =
    rest-four c.loop-k.invariant (λ q. omega (arith, c.type_inv.text q)) (omega arith) (omega arith) (sym
    c.word_in.ensures ∙ c.if-word_in.false ∙ c.word_in-in-loop-k.ensures)

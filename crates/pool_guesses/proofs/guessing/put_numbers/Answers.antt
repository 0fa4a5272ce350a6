use Prim.Native.Nat.{◌+◌}
use mathlib.Core.Path.{refl, ◌∙◌}
use native.Mathlib.Omega.{arith}
use lib.ListN.{length-set}
use lib.Seq.{get_or-set_other}
use borrow.Author.Rules.{rules}
use Rattle.pool_guesses.proofs.guessing.put_numbers.Goals as goal

pub loop-i-init : goal.loop-i-init
loop-i-init c = (search rules, refl, (λ j l. refl))

pub loop-i-preserved : goal.loop-i-preserved
loop-i-preserved c = (
  search rules,
  simp length-set c.loop-i.invariant.1,
  (λ j l. get_or-set_other c.loop-i.keys (c.args.at + c.loop-i.i) j _ 0
      (λ e. omega (arith, e, l)) ∙ c.loop-i.invariant.2 j l),
)

pub returns : goal.returns
returns c = c.loop-i.invariant.2

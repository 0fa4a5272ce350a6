use mathlib.Core.Path.{refl}
use lib.ListN.{length-set}
use borrow.Author.Rules.{rules}
use Rattle.pool_guesses.proofs.guessing.two_levels.Goals as goal

pub loop-i-init : goal.loop-i-init
loop-i-init g c = (search rules, refl)

pub loop-i-preserved : goal.loop-i-preserved
loop-i-preserved g c = (search rules, simp length-set c.loop-i.invariant.1)

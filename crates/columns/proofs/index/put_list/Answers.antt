use mathlib.Core.Path.{◌≡◌, refl}
use native.Mathlib.Omega.{arith}
use borrow.Author.Rules.{rules}
use Rattle.columns.proofs.index.put_list.Goals as goal

pub loop-i-init : goal.loop-i-init
loop-i-init c = (search rules, refl, (λ ss cs S. S))

pub loop-i-preserved : goal.loop-i-preserved
loop-i-preserved c =
    (search rules, search rules, (λ ss cs S. c.place_value.ensures ss cs _ _ refl (c.loop-i.invariant.2 ss cs S)))

pub returns : goal.returns
returns c =
    let e : c.loop-i.i ≡ c.args.count = omega (arith, c.loop-i.invariant.0, c.loop-i-test.false) in
    λ ss cs S. rw e at (c.loop-i.invariant.2 ss cs S)

use mathlib.Core.Path.{refl, ◌∙◌}
use Prim.Native.Nat.{◌<◌}
use native.Mathlib.Omega.{arith}
use lib.ListN.{length, length-set}
use Rattle.contradiction.proofs.Steps.{rename_front, rename_back}
use Rattle.contradiction.proofs.labels.rename_all.Goals as goal

pub loop-c-init : goal.loop-c-init
loop-c-init c = (omega arith, (λ k l. absurd (omega (arith, l))), (λ k l. refl), refl)

pub bounds-labels-c : goal.bounds-labels-c
bounds-labels-c c = omega (arith, c.loop-c.invariant.3, c.requires, c.loop-c-test.true)

pub bounds-labels-c-in-loop-c : goal.bounds-labels-c-in-loop-c
bounds-labels-c-in-loop-c c = omega (arith, c.loop-c.invariant.3, c.requires, c.loop-c-test.true)

pub loop-c-preserved : goal.loop-c-preserved
loop-c-preserved c =
    let q : c.loop-c.c < length c.loop-c.labels = omega (arith, c.loop-c.invariant.3, c.requires, c.loop-c-test.true) in (
      omega (arith, c.loop-c-test.true),
      rename_front c.loop-c.labels c.args.labels.now c.args.from c.args.to c.loop-c.c _ q c.rename.ensures c.loop-c.invariant.2 c.loop-c.invariant.1,
      rename_back c.loop-c.labels c.args.labels.now c.args.from c.args.to c.loop-c.c _ q c.rename.ensures c.loop-c.invariant.2,
      length-set c.loop-c.labels
          c.loop-c.c _ ∙ c.loop-c.invariant.3,
    )

pub shape_of-labels : goal.shape_of-labels
shape_of-labels c = c.loop-c.invariant.3

pub returns : goal.returns
returns c =
    record { by_index = (λ h k. c.loop-c.invariant.1 h (omega (arith, k, c.loop-c.invariant.0, c.loop-c-test.false))); labels_len_unchanged = c.loop-c.invariant.3 }

use mathlib.Core.Path.{◌≡◌, ◌∙◌, refl}
use native.Mathlib.Omega.{arith}
use Rattle.resolve_deferred.proofs.Resolutions.{steps_none, steps_more}
use borrow.Author.Rules.{rules}
use Rattle.resolve_deferred.proofs.resolve.step_marks.Goals as goal

pub loop-i-init : goal.loop-i-init
loop-i-init c = (search rules, refl, c.requires.0, λ t e f. steps_none t _ _)

pub step_mark-c-requires : goal.step_mark-c-requires
step_mark-c-requires c = (
  rw c.loop-i.invariant.1 c.loop-i.invariant.2,
  rw (c.loop-i.invariant.1, c.byte-j.ensures)
      (c.requires.1 _ c.loop-i-test.true).0,
)

pub loop-i-preserved : goal.loop-i-preserved
loop-i-preserved c = (
  search rules,
  search rules,
  rw (← c.loop-i.invariant.1) c.step_mark-c.ensures.fine,
  λ t e f. c.step_mark-c.ensures.result_after t e f ∙
      rw (steps_more, c.byte-j.ensures, c.loop-i.invariant.3 t e f),
)

pub returns : goal.returns
returns c =
    let e : c.loop-i.i ≡ c.args.n = omega arith in
    record { result_after = rw e at c.loop-i.invariant.3; fine = c.loop-i.invariant.2 }

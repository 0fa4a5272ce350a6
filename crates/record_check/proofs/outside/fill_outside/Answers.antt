use Rattle.record_check.proofs.Outsides.{outside-none, outside-more, outside-done}
use Rattle.record_check.proofs.Filling.{filled_more}
use Rattle.record_check.specs.Outside.{outside}
use Rattle.records.specs.Shape.{in_type_in}
use lib.ListN.{length, length-set}
use native.Mathlib.Omega.{arith}
use mathlib.Core.Bool.{cond}
use mathlib.Core.Path.{◌≡◌, refl, ◌∙◌, ap}
use Prim.Native.Nat.{◌/◌}
use borrow.Author.Rules.{rules}
use Rattle.record_check.proofs.outside.fill_outside.Goals as goal

pub loop-k-init : goal.loop-k-init
loop-k-init c = (omega arith, search rules, outside-none _ _ _, omega arith, (λ a h. absurd (omega arith)))

pub overflow_add-d : goal.overflow_add-d
overflow_add-d c = omega (arith, c.miss-d.ensures.upper_bound, c.loop-k.invariant, c.loop-k-test.true)

pub loop-k-preserved : goal.loop-k-preserved
loop-k-preserved c = (
  omega arith,
  simp length-set c.loop-k.invariant.1,
  outside-more c.args.text c.args.p.now c.args.ty c.loop-k.k c.loop-k.d c.miss-d.result c.loop-k.invariant.2
      (c.miss-d.ensures.value ∙ ap (λ v. cond (in_type_in c.args.text c.args.ty v) 0 1) c.value_in-v.ensures),
  omega (arith, c.miss-d.ensures.upper_bound, c.loop-k.invariant.3),
  filled_more (outside c.args.text c.args.p.now c.args.ty) c.loop-k.counts c.loop-k.k c.loop-k.d (omega arith)
      c.loop-k.invariant.4 c.loop-k.invariant.2,
)

pub returns : goal.returns
returns c =
    let e : c.loop-k.k ≡ length c.args.p.now / 8 = omega arith in
    outside-done c.args.text c.args.p.now c.loop-k.counts c.args.ty (length c.args.p.now / 8) c.loop-k.d refl
    (omega arith) (λ a h. c.loop-k.invariant.4 a (omega arith)) (c.loop-k.invariant.2 ∙ ap (outside c.args.text c.args.p.now c.args.ty) e)

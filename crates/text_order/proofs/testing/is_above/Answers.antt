use mathlib.Core.Path.{sym}
use mathlib.Core.Bool.{true≢false}
use mathlib.Core.Logic.{inl, inr}
use native.Mathlib.Omega.{arith}
use lib.ListN.{length}
use Rattle.text_order.proofs.Words.{most-few, most-inside, part_pooled}
use Rattle.text_order.proofs.testing.is_above.Goals as goal

pub returns-then-ranks-s-eq0 : goal.returns-then-ranks-s-eq0
returns-then-ranks-s-eq0 c = λ e. inl c.if-ranks-s-eq0.true

pub returns-then-text-before : goal.returns-then-text-before
returns-then-text-before c = λ e. absurd (true≢false (sym e))

pub returns-then-ranks-before : goal.returns-then-ranks-before
returns-then-ranks-before c = λ e. absurd (true≢false (sym e))

pub overflow_add-d : goal.overflow_add-d
overflow_add-d c =
    let w = most-few (length c.args.text.now) c.args.s in
    omega (arith, w, c.requires.s_in_bounds.1)

pub part_at-requires : goal.part_at-requires
part_at-requires c =
    let w = most-few (length c.args.text.now) c.args.s in
    (omega (arith, c.requires.s_in_bounds.0, c.requires.text_len_bound.0), omega (arith, w, c.requires.s_in_bounds.1))

pub is_less-requires : goal.is_less-requires
is_less-requires c =
    let w = most-few (length c.args.text.now) c.args.s in
    let i = most-inside (length c.args.text.now) c.args.s (omega (arith, c.requires.s_in_bounds.0)) in
    let v = most-few (length c.args.text.now) c.args.before in
    let j = most-inside (length c.args.text.now) c.args.before (omega (arith, c.if-text-before.false)) in (
      rw c.full_at.ensures (part_pooled _ _ _ (omega (arith, c.if-text-before.false, c.requires.text_len_bound.0)) j v),
      rw c.part_at.ensures (part_pooled _ _ _ (omega (arith, c.requires.s_in_bounds.0, c.requires.text_len_bound.0)) (omega (arith, i, c.requires.s_in_bounds.1))
          (omega (arith, w, c.requires.s_in_bounds.1))),
    )

pub returns : goal.returns
returns c =
    λ e. inr (record {
      before = c.args.before;
      inside = omega (arith, c.if-text-before.false);
      next = (let a = c.if-ranks-s-eq0.false
          in
          let b = c.if-ranks-before.false in
          omega (arith, a, b));
      less = (rw (c.full_at.ensures, c.part_at.ensures) at (c.is_less.ensures e));
    })

use mathlib.Core.Path.{sym}
use mathlib.Core.Bool.{true≢false}
use mathlib.Core.Logic.{inl, inr}
use native.Mathlib.Omega.{arith}
use lib.ListN.{length}
use Rattle.text_order.proofs.Words.{most-few, most-inside, part_pooled}
use Rattle.text_order.proofs.testing.is_linked.Goals as goal

pub returns-then-d-eq0 : goal.returns-then-d-eq0
returns-then-d-eq0 c = λ e. inl c.if-d-eq0.true

pub returns-then-text-link : goal.returns-then-text-link
returns-then-text-link c = λ e. absurd (true≢false (sym e))

pub returns-then-most_at-d : goal.returns-then-most_at-d
returns-then-most_at-d c = λ e. absurd (true≢false (sym e))

pub returns-then-d-depth_in : goal.returns-then-d-depth_in
returns-then-d-depth_in c = λ e. absurd (true≢false (sym e))

pub part_at-requires : goal.part_at-requires
part_at-requires c =
    let w = most-few (length c.args.text.now) c.args.s in
    (omega (arith, c.requires.s_in_bounds.0, c.requires.text_len_bound.0), omega (arith, w, c.requires.s_in_bounds.1))

pub part_at-requires-2 : goal.part_at-requires-2
part_at-requires-2 c =
    let w = most-few (length c.args.text.now) c.args.s in
    (omega (arith, c.if-text-link.false, c.requires.text_len_bound.0), omega (arith, w, c.requires.s_in_bounds.1))

pub is_equal-requires : goal.is_equal-requires
is_equal-requires c =
    let w = most-few (length c.args.text.now) c.args.s in
    let i = most-inside (length c.args.text.now) c.args.s (omega (arith, c.requires.s_in_bounds.0)) in
    let j = most-inside (length c.args.text.now) c.args.link (omega (arith, c.if-text-link.false)) in (
      rw c.part_at.ensures (part_pooled _ _ _ (omega (arith, c.requires.s_in_bounds.0, c.requires.text_len_bound.0)) (omega (
        arith,
        i,
        c.requires.s_in_bounds.1,
      )) (omega (arith, w, c.requires.s_in_bounds.1))),
      rw c.part_at-2.ensures (part_pooled _ _ _ (omega (
        arith,
        c.if-text-link.false,
        c.requires.text_len_bound.0,
      )) (omega (arith, j, c.most_at.ensures, c.if-most_at-d.false)) (omega (arith, w, c.requires.s_in_bounds.1))),
    )

pub returns : goal.returns
returns c =
    λ e. inr (record {
      inside = omega (arith, c.if-text-link.false);
      long = (omega (
        arith,
        c.most_at.ensures,
        c.if-most_at-d.false,
      ));
      falls = (omega (arith, c.depth_in.ensures, c.if-d-depth_in.false));
      same = (rw (
        c.part_at.ensures,
        c.part_at-2.ensures,
      ) at (c.is_equal.ensures e));
    })

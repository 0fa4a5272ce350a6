use mathlib.Core.Path.{◌≡◌, ap}
use native.Mathlib.Omega.{arith}
use lib.ListN.{length}
use Prim.Native.Nat.{◌+◌, ◌≤◌}
use Rattle.column_constraints.proofs.Pigeon.{few}
use Rattle.column_constraints.specs.Abstraction.{numbered}
use Rattle.merge.specs.Reasons.{shown_in}
use Rattle.column_reasons.proofs.Places.{begin-length, place-more, text-all}
use borrow.Author.Rules.{rules}
use Rattle.column_reasons.proofs.column_length.Goals as goal

pub overflow_add-places : goal.overflow_add-places
overflow_add-places c =
    let g : c.args.c.len ≤ 128 = few _ _ _ c.requires in
    omega (arith, g)

pub loop-p-init : goal.loop-p-init
loop-p-init c = (
  search rules,
  search rules,
  (λ s e f text. begin-length (shown_in c.args.t.now text) c.args.a.0
      s (numbered c.args.marks.now c.args.c) 0),
)

pub overflow_add-size : goal.overflow_add-size
overflow_add-size c =
    let g : c.args.c.len ≤ 128 = few _ _ _ c.requires in
    omega (arith, g, c.loop-p.invariant.1, c.place_length-size.ensures.upper_bound, c.loop-p-test.true)

pub loop-p-preserved : goal.loop-p-preserved
loop-p-preserved c = (
  search rules,
  omega (arith, c.loop-p.invariant.1, c.place_length-size.ensures.upper_bound),
  (λ s e f text. place-more (shown_in
      c.args.t.now text) c.args.a.0 s (numbered c.args.marks.now c.args.c) 0 _ _ _
      c.comparison_at-k.result (c.comparison_at-k.ensures s e f) (c.loop-p.invariant.2 s e f text) (ap (λ n. c.loop-p.size + n)
      (c.place_length-size.ensures.by_index text))),
)

pub returns : goal.returns
returns c =
    let h : c.loop-p.p ≡ c.args.c.len + 2 = omega (arith, c.loop-p.invariant.0, c.loop-p-test.false) in
    let g : c.args.c.len ≤ 128 = few _ _ _ c.requires in
    record {
      value = (λ s e f text. let m = ap length (text-all (shown_in c.args.t.now text) c.args.a.0 s (numbered
          c.args.marks.now c.args.c) _ h) in omega (arith, c.loop-p.invariant.2 s e f text, m));
      upper_bound = omega (
        arith,
        c.loop-p.invariant.1,
        h,
        g,
      );
    }

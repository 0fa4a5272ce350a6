use mathlib.Core.Path.{◌≡◌, sym, ◌∙◌}
use Prim.Native.Nat.{ℕ, ◌<◌}
use native.Mathlib.Omega.{arith}
use lib.ListN.{length}
use Rattle.column_constraints.specs.Abstraction.{conjuncts, numbered}
use Rattle.columns.proofs.Mergings.{marks-none, marks-more}
use Rattle.column_sets.proofs.Asked.{low-row}
use Rattle.columns.proofs.Held.{marks-skip}
use borrow.Author.Rules.{rules}
use Rattle.columns.proofs.merging.merge_marks.Goals as goal
use Rattle.columns.proofs.merging.merge_marks.Goals.{then-not-has, else-not-has}

below_at : {j k m : ℕ} → m ≡ k → j < k → j < m
below_at e h = rw e h

pub number_set-held-requires : goal.number_set-held-requires
number_set-held-requires c = low-row _ _ _ c.requires.fine.0 c.requires.indexed.1

pub loop-i-init : goal.loop-i-init
loop-i-init c = (c.requires.fine.0, marks-none _ _ _)

pub slice_bounds-has-end : goal.slice_bounds-has-end
slice_bounds-has-end c = search (rules, c.number_set-held.ensures.size)

pub has-requires : goal.has-requires
has-requires c =
    omega (
      arith,
      c.byte-j.ensures,
      (c.requires.fine.1 _ c.loop-i-test.true).0,
      c.requires.indexed.1,
      c.number_set-held.ensures.size,
    )

pub merge_mark-m-requires : goal.merge_mark-m-requires
merge_mark-m-requires c =
    let same : length c.loop-i.own ≡ length c.args.own.now = omega arith in
    record {
      fine = (
        (λ i h. (below_at same (c.loop-i.invariant.0 i h).0, (c.loop-i.invariant.0 i h).1)),
        below_at same (rw c.byte-j.ensures (c.requires.fine.1 _ c.loop-i-test.true).0),
      );
      indexed = (c.requires.indexed.0, omega (arith, same, c.requires.indexed.1));
    }

pub loop-i-preserved : goal.loop-i-preserved
loop-i-preserved c =
    let same : length c.args.own.now ≡ length c.loop-i.own = omega arith in
    let b : c.byte-j.result < 128 = omega (
      arith,
      c.byte-j.ensures,
      (c.requires.fine.1 _ c.loop-i-test.true).0,
      c.requires.indexed.1,
    ) in
    elim c.if-not-has.branch [
      | then-not-has w ↦ rw (w.own-is, w.m-is) (
        (λ i h. (below_at same (w.merge_mark-m.ensures.fine_2 i h).0, (w.merge_mark-m.ensures.fine_2 i h).1)),
        w.merge_mark-m.ensures.result_after ∙ rw (marks-more, c.byte-j.ensures, c.loop-i.invariant.1),
      )
      | else-not-has w ↦ rw (w.own-is, w.m-is) (
        c.loop-i.invariant.0,
        c.loop-i.invariant.1 ∙ marks-skip (conjuncts c.args.told.now c.args.pool.now) c.args.marks.now c.loop-i.i (numbered c.args.own.now c.args.m0.column) c.args.m0.emitted c.args.m0.any c.byte-j.result c.byte-j.ensures (sym (c.number_set-held.ensures.has _ b) ∙ sym c.has.ensures ∙ w.if-not-has.false),
      )
    ]

pub returns : goal.returns
returns c =
    let e : c.loop-i.i ≡ c.args.n = omega arith in
    record { result_after = rw e at c.loop-i.invariant.1; fine_2 = c.loop-i.invariant.0 }

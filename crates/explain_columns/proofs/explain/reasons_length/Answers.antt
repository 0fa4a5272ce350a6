use mathlib.Core.Path.{◌≡◌}
use native.Mathlib.Omega.{arith}
use Rattle.merge.specs.Reasons.{shown_in}
use Rattle.column_table.specs.Words.{columns_of}
use Rattle.explain_columns.proofs.Explaining.{begin-size, length-loaded}
use Rattle.explain_columns.proofs.explain.reasons_length.Goals as goal

pub loop-w-init : goal.loop-w-init
loop-w-init c = (
  omega arith,
  omega arith,
  λ s ek ev text. begin-size (shown_in c.args.t.now text) c.args.order.now s (columns_of c.args.cells.now) c.args.marks.now,
)

pub load-c-requires : goal.load-c-requires
load-c-requires c = (omega (arith, c.slot-x.ensures), c.requires.fits.0.size)

pub row_length-size-requires : goal.row_length-size-requires
row_length-size-requires c = (
  omega (arith, c.slot-x.ensures),
  c.requires.fits.0.narrow,
  rw c.load-c.ensures (c.requires.fits.0.fine _ (omega
      (arith, c.slot-x.ensures))),
)

pub overflow_add-size : goal.overflow_add-size
overflow_add-size c =
    omega (arith, c.loop-w.invariant.1, c.row_length-size.ensures.upper_bound, c.loop-w-test.true, c.requires.fits.2)

pub loop-w-preserved : goal.loop-w-preserved
loop-w-preserved c = (
  omega (arith, c.loop-w-test.true),
  omega (arith, c.loop-w.invariant.1, c.row_length-size.ensures.upper_bound),
  λ s ek ev text.
      length-loaded (shown_in c.args.t.now text) c.args.order.now _ s (columns_of c.args.cells.now) c.args.marks.now _ _ (c.requires.by_index _ c.loop-w-test.true) c.slot-x.ensures c.load-c.ensures _ _ (c.loop-w.invariant.2 s ek ev text) (c.row_length-size.ensures.value s ek ev text),
)

pub returns : goal.returns
returns c =
    let h : c.loop-w.w ≡ c.args.columns = omega (arith, c.loop-w.invariant.0, c.loop-w-test.false) in
    λ s ek ev text. rw (← h) (omega (arith, c.loop-w.invariant.2 s ek ev text))

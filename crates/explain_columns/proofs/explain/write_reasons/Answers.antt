use mathlib.Core.Path.{◌≡◌, refl}
use native.Mathlib.Omega.{arith}
use Rattle.merge.specs.Reasons.{shown_in}
use Rattle.column_table.specs.Words.{columns_of}
use Rattle.explain_columns.proofs.Explaining.{begin-size, begin-out, next-loaded, text-loaded, text-room}
use borrow.Author.Rules.{rules}
use Rattle.explain_columns.proofs.explain.write_reasons.Goals as goal

pub loop-w-init : goal.loop-w-init
loop-w-init c = (
  omega arith,
  refl,
  (λ s ek ev. begin-size (shown_in c.args.t.now c.args.text.now) c.args.order.now s (columns_of c.args.cells.now) c.args.marks.now),
  (λ s ek ev. begin-out (shown_in
      c.args.t.now c.args.text.now) c.args.order.now s (columns_of c.args.cells.now) c.args.marks.now _),
)

pub load-c-requires : goal.load-c-requires
load-c-requires c = (omega (arith, c.slot-x.ensures), c.requires.fits.0.size)

pub write_row_reasons-next-requires : goal.write_row_reasons-next-requires
write_row_reasons-next-requires c =
    record {
      x_bound = (
        omega (arith, c.slot-x.ensures),
        c.requires.fits.0.narrow,
        rw c.load-c.ensures (c.requires.fits.0.fine _ (omega
            (arith, c.slot-x.ensures))),
      );
      c_in_bounds = λ s ek ev. let r = text-room (shown_in c.args.t.now c.args.text.now)
          c.args.order.now _ c.args.columns s (columns_of c.args.cells.now) c.args.marks.now _ _
          _ _ c.loop-w-test.true (c.requires.by_index _ c.loop-w-test.true) c.slot-x.ensures c.load-c.ensures (c.loop-w.invariant.2 s ek ev) (c.requires.marks_in_bounds s ek ev) in omega (arith, r, c.loop-w.invariant.1);
    }

pub loop-w-preserved : goal.loop-w-preserved
loop-w-preserved c = (
  omega (arith, c.loop-w-test.true),
  search rules,
  (λ s ek ev. next-loaded (shown_in c.args.t.now c.args.text.now) c.args.order.now _ s (columns_of c.args.cells.now) c.args.marks.now _ _ (c.requires.by_index _ c.loop-w-test.true) c.slot-x.ensures c.load-c.ensures _ _ (c.loop-w.invariant.2 s ek ev) (c.write_row_reasons-next.ensures.value s ek ev)),
  (λ s ek ev. text-loaded (shown_in c.args.t.now c.args.text.now) c.args.order.now _ s (columns_of c.args.cells.now) c.args.marks.now _ _ (c.requires.by_index _ c.loop-w-test.true)
      c.slot-x.ensures c.load-c.ensures _ _ _ _ (c.loop-w.invariant.2 s ek ev) (c.loop-w.invariant.3 s ek ev) (text-room (shown_in
      c.args.t.now c.args.text.now) c.args.order.now _ c.args.columns s (columns_of c.args.cells.now) c.args.marks.now _ _ _ _ c.loop-w-test.true (c.requires.by_index _ c.loop-w-test.true) c.slot-x.ensures
      c.load-c.ensures (c.loop-w.invariant.2 s ek ev) (c.requires.marks_in_bounds s ek ev)) (c.write_row_reasons-next.ensures.out_after s ek ev)),
)

pub returns : goal.returns
returns c =
    let h : c.loop-w.w ≡ c.args.columns = omega (arith, c.loop-w.invariant.0, c.loop-w-test.false) in
    λ s ek ev. rw (← h) (c.loop-w.invariant.3 s ek ev)

use mathlib.Core.Path.{refl, sym, ◌∙◌}
use Prim.Native.Nat.{ℕ}
use native.Mathlib.Omega.{arith}
use lib.ListN.{length-replicate}
use Rattle.truth.specs.FromBytes.{aexpr_of}
use Rattle.column_constraints.specs.Abstraction.{conjuncts, values_in}
use Rattle.read_operands.specs.Walk.{first_of}
use Rattle.column_table.specs.Words.{columns_of}
use Rattle.column_table.specs.State.{shown}
use Rattle.column_table.proofs.Encoding.{columns-empty}
use Rattle.filter_constraint.specs.Concluded.{lined_to}
use Rattle.filter_constraint.proofs.Concluding.{compared-some}
use Rattle.filter_constraint.proofs.Explained.{ends_stopped, ends_stayed, ends_chained, chained}
use Rattle.filter_constraint.proofs.Converting.{fits-converted}
use Rattle.filter_constraint.proofs.merging.merge_filter_constraints.Goals as goal

pub merge_columns-m-requires : goal.merge_columns-m-requires
merge_columns-m-requires c =
    record {
      n_bound = (
        c.requires.n_bound.0,
        c.requires.n_bound.1,
        c.requires.n_bound.3,
        length-replicate {A = ℕ} 448 0,
        columns-empty,
        c.requires.n_bound.4,
      );
      room = c.requires.room;
      by_index = c.requires.by_index;
      by_index_2 = c.requires.by_index_2;
    }

pub nothing_passes-requires : goal.nothing_passes-requires
nothing_passes-requires c = c.requires.n_bound.2

pub returns-then-m : goal.returns-then-m
returns-then-m c =
    record {
      merges = ends_stopped (lined_to (aexpr_of c.args.rs.now c.args.p.now) c.args.nodes.now c.args.n) (conjuncts c.args.told.now c.args.p.now) c.args.t.now c.args.rs.now c.args.trees.now c.args.nodes.now (values_in c.args.bits.now) c.args.own.now c.args.text.now c.args.reasons.now c.args.used c.with_passes.result _ c.args.reasons.now c.merge_columns-m.new.cells
          c.merge_columns-m.new.marks c.merge_columns-m.new.order c.merge_columns-m.new.kept c.merge_columns-m.result.unsat
          c.merge_columns-m.result.unchanged c.merge_columns-m.result.columns c.merge_columns-m.result.keeps
          c.merge_columns-m.result.total c.merge_columns-m.ensures.concluded c.merge_columns-m.ensures.fits.0 c.merge_columns-m.ensures.fits.4 c.if-m.true (
            c.with_passes.ensures.answer_value ∙ c.nothing_passes.ensures.by_index c.args.trees.now,
            (
              rw c.with_passes.ensures.answer_value (c.nothing_passes.ensures.by_index_2 c.args.t.now),
              (
                refl,
                c.with_passes.ensures.length_value,
              ),
            ),
          );
      passes_value = c.with_passes.ensures.passes_value ∙ c.merge_columns-m.ensures.passes_value;
    }

pub returns-then-m-2 : goal.returns-then-m-2
returns-then-m-2 c =
    record {
      merges = ends_stayed (lined_to (aexpr_of c.args.rs.now c.args.p.now) c.args.nodes.now c.args.n)
          (conjuncts c.args.told.now
          c.args.p.now) c.args.t.now c.args.rs.now c.args.trees.now c.args.nodes.now (values_in c.args.bits.now) c.args.own.now c.args.text.now c.args.reasons.now c.args.used
          c.with_passes-then-m-2.result c.args.rs.now c.args.reasons.now c.merge_columns-m.new.cells
          c.merge_columns-m.new.marks c.merge_columns-m.new.order
          c.merge_columns-m.new.kept c.merge_columns-m.result.unsat c.merge_columns-m.result.unchanged c.merge_columns-m.result.columns c.merge_columns-m.result.keeps
          c.merge_columns-m.result.total c.merge_columns-m.ensures.concluded c.merge_columns-m.ensures.fits.0 c.merge_columns-m.ensures.fits.4 c.if-m.false c.if-m-2.true (
            c.with_passes-then-m-2.ensures.answer_value,
            (
              refl,
              (
                refl,
                c.with_passes-then-m-2.ensures.length_value,
              ),
            ),
          );
      passes_value = c.with_passes-then-m-2.ensures.passes_value ∙ c.merge_columns-m.ensures.passes_value;
    }

pub put_literals-requires : goal.put_literals-requires
put_literals-requires c = (c.requires.counts.few, c.merge_columns-m.ensures.fits.0.size)

pub rebuild-b-requires : goal.rebuild-b-requires
rebuild-b-requires c =
    record {
      fits = (
        fits-converted (conjuncts c.args.told.now c.args.p.now) c.args.t.now c.args.own.now c.args.nodes.now
            c.merge_columns-m.new.cells c.put_literals.new.cells c.merge_columns-m.new.marks c.merge_columns-m.ensures.fits.0 c.put_literals.ensures,
        omega (
          arith,
          c.merge_columns-m.auto.order,
          c.requires.room.0,
          c.merge_columns-m.ensures.fits.1,
        ),
        omega (arith, c.merge_columns-m.ensures.fits.1, c.requires.n_bound.0, c.requires.n_bound.1),
        omega (
          arith,
          c.merge_columns-m.auto.kept,
          c.requires.room.1,
          c.merge_columns-m.ensures.fits.2,
        ),
        omega (arith, c.merge_columns-m.ensures.fits.2, c.requires.n_bound.0, c.requires.n_bound.1),
        c.requires.n_bound.2,
        omega
            (arith, c.merge_columns-m.ensures.fits.3, c.requires.n_bound.0, c.requires.n_bound.1),
        compared-some (aexpr_of c.args.rs.now c.args.p.now) c.args.nodes.now c.args.n _ _ _ (c.merge_columns-m.ensures.concluded.rebuilds c.if-m.false c.if-m-2.false) (c.merge_columns-m.ensures.concluded.counted c.if-m.false),
      );
      by_index = (λ o h.
          c.merge_columns-m.ensures.fits.4 o h);
      total_value = λ s ek ev. c.requires.counts.counts c.merge_columns-m.new.cells c.put_literals.new.cells c.merge_columns-m.new.marks c.merge_columns-m.new.order
          c.merge_columns-m.new.kept c.merge_columns-m.result.unsat c.merge_columns-m.result.unchanged c.merge_columns-m.result.columns c.merge_columns-m.result.keeps c.merge_columns-m.result.total c.merge_columns-m.ensures.concluded
          c.merge_columns-m.ensures.fits.0 c.if-m.false c.if-m-2.false c.merge_columns-m.ensures.fits.4 c.put_literals.ensures s (ek ∙ c.requires.bits_value) ev;
    }

pub shape_of-marks : goal.shape_of-marks
shape_of-marks c = c.merge_columns-m.auto.marks

pub shape_of-order : goal.shape_of-order
shape_of-order c = c.merge_columns-m.auto.order

pub shape_of-kept : goal.shape_of-kept
shape_of-kept c = c.merge_columns-m.auto.kept

pub shape_of-lefts : goal.shape_of-lefts
shape_of-lefts c = c.merge_columns-m.auto.lefts

pub shape_of-rights : goal.shape_of-rights
shape_of-rights c = c.merge_columns-m.auto.rights

pub returns : goal.returns
returns c =
    record {
      merges = ends_chained (lined_to (aexpr_of c.args.rs.now c.args.p.now) c.args.nodes.now c.args.n) (conjuncts c.args.told.now c.args.p.now) c.args.t.now c.args.rs.now c.args.trees.now c.args.nodes.now (values_in c.args.bits.now) c.args.own.now c.args.text.now c.args.reasons.now c.args.used c.with_passes-2.result _ _ c.merge_columns-m.new.cells c.merge_columns-m.new.marks c.merge_columns-m.new.order c.merge_columns-m.new.kept c.merge_columns-m.result.unsat c.merge_columns-m.result.unchanged c.merge_columns-m.result.columns c.merge_columns-m.result.keeps c.merge_columns-m.result.total
          c.merge_columns-m.ensures.concluded c.merge_columns-m.ensures.fits.0 c.merge_columns-m.ensures.fits.4
          c.put_literals.new.cells c.if-m.false c.if-m-2.false c.put_literals.ensures (λ u ek ev. chained c.args.t.now c.args.rs.now c.args.trees.now c.args.text.now c.args.reasons.now c.args.used (first_of c.merge_columns-m.new.kept c.merge_columns-m.result.keeps) (first_of c.merge_columns-m.new.order c.merge_columns-m.result.columns) c.merge_columns-m.result.total (shown u (columns_of c.put_literals.new.cells)
          c.merge_columns-m.new.marks) _ _ c.with_passes-2.result _ _ c.with_passes-2.ensures.answer_value c.with_passes-2.ensures.length_value (c.rebuild-b.ensures.answer_value u (ek ∙ sym c.requires.bits_value) ev) (c.rebuild-b.ensures.rs_after u (ek ∙ sym c.requires.bits_value) ev)
          (c.rebuild-b.ensures.reasons_after u (ek ∙ sym c.requires.bits_value) ev) (c.rebuild-b.ensures.length_value u (ek ∙ sym c.requires.bits_value) ev));
      passes_value = c.with_passes-2.ensures.passes_value ∙
          c.merge_columns-m.ensures.passes_value;
    }

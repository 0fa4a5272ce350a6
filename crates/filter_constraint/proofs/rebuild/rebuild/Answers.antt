use mathlib.Core.Path.{◌≡◌, refl, sym, ◌∙◌, ap}
use mathlib.Core.List.{[]}
use native.Mathlib.Omega.{arith}
use lib.ListN.{length}
use Rattle.constraints.specs.Lined.{lined}
use Rattle.column_reasons.specs.ColumnText.{table_text}
use Rattle.merge.specs.Reasons.{shown_in}
use Rattle.read_operands.specs.Walk.{first_of}
use Rattle.column_table.specs.Words.{columns_of}
use Rattle.column_table.specs.State.{shown}
use mathlib.Core.Bool.{true, false}
use borrow.Author.Tests.{not-true, not-false}
use Rattle.merge.specs.Emit.{comparisons}
use Rattle.reckoning.specs.Reckon.{reckoned}
use Rattle.reckoning.specs.Rewritten.{is_rewritten}
use Rattle.filter_constraint.proofs.Concluding.{chain-refused, chain-room, chain-answered, ands_asked}
use Rattle.filter_constraint.proofs.Explained.{kept-answer, kept-text, kept-length, long-answer, fitting_answer, fitting_text, fitting_length}
use Rattle.column_constraints.specs.Abstraction.{kinds_in, values_in, conjuncts_of}
use mathlib.Core.Bool.{not}
use Rattle.filter_constraint.proofs.rebuild.rebuild.Goals as goal

pub returns-then-not-is_rewritten : goal.returns-then-not-is_rewritten
returns-then-not-is_rewritten c =
    let w : is_rewritten c.rebuilt_answer-answer.result ≡ false = sym c.is_rewritten.ensures ∙ not-true _ (ap not c.if-not-is_rewritten.true)
    in
    record {
      answer_value = (λ s ek ev. c.rebuilt_answer-answer.ensures ∙ sym (kept-answer (length (table_text (shown_in c.args.t.now c.args.text.now) (first_of c.args.order.now c.args.columns) (shown s (columns_of c.args.cells.now) c.args.marks.now))) (length c.args.reasons.now) (reckoned (length c.args.rs.now)
          c.args.trees.now c.args.used (first_of c.args.kept.now c.args.keeps) c.args.total)
          (ap is_rewritten (sym c.rebuilt_answer-answer.ensures) ∙ w)));
      rs_after = (λ s ek ev. (chain-refused c.args.t.now c.args.rs.now c.args.trees.now c.args.used c.args.kept.now c.args.keeps c.args.total (comparisons lined (first_of c.args.order.now c.args.columns) (shown s (columns_of c.args.cells.now) c.args.marks.now)) _ c.rebuilt_answer-answer.ensures (c.requires.total_value s ek ev) _
          c.is_rewritten.ensures (ap not c.if-not-is_rewritten.true)).1);
      reasons_after = (λ s ek ev. kept-text c.rebuilt_answer-answer.result c.args.reasons.now (table_text (shown_in c.args.t.now c.args.text.now) (first_of c.args.order.now
          c.args.columns) (shown s (columns_of c.args.cells.now) c.args.marks.now)) w);
      length_value = (λ s ek ev.
          kept-length c.rebuilt_answer-answer.result (table_text (shown_in c.args.t.now c.args.text.now) (first_of
          c.args.order.now c.args.columns) (shown s (columns_of c.args.cells.now) c.args.marks.now)) w);
    }

pub returns-then-reasons-length : goal.returns-then-reasons-length
returns-then-reasons-length c =
    let w : is_rewritten c.rebuilt_answer-answer.result ≡ true = sym c.is_rewritten.ensures ∙ not-false _ (ap not c.if-not-is_rewritten.false)
    in
    record {
      answer_value = (λ s ek ev. sym (long-answer (length (table_text (shown_in c.args.t.now c.args.text.now)
          (first_of c.args.order.now c.args.columns) (shown s (columns_of c.args.cells.now) c.args.marks.now))) (length c.args.reasons.now) (reckoned (length c.args.rs.now) c.args.trees.now c.args.used (first_of c.args.kept.now c.args.keeps) c.args.total) (ap is_rewritten
          (sym c.rebuilt_answer-answer.ensures) ∙ w) (omega (
            arith,
            c.reasons_length-length.ensures s ek ev c.args.text.now,
            c.if-reasons-length.true,
          ))));
      rs_after = (λ s ek ev. refl);
      reasons_after = (λ s ek ev. refl);
      length_value = (λ s ek ev. refl);
    }

pub write_comparisons-u-requires : goal.write_comparisons-u-requires
write_comparisons-u-requires c =
    record {
      fits = (c.requires.fits.0, c.requires.fits.1, c.requires.fits.2);
      by_index = c.requires.by_index;
      marks_bound = λ s ek ev. let room = chain-room c.args.t.now c.args.rs.now c.args.trees.now c.args.used c.args.kept.now c.args.keeps c.args.total (comparisons lined (first_of c.args.order.now c.args.columns) (shown
          s (columns_of c.args.cells.now) c.args.marks.now)) _ c.rebuilt_answer-answer.ensures (c.requires.total_value
          s ek ev) _ c.is_rewritten.ensures (ap not c.if-not-is_rewritten.false) c.requires.fits.7 in
          let x = room.0 in
          let y = room.1 in
          let e = c.requires.total_value s ek ev in
          (omega (arith, e, x), omega (arith, e, y));
    }

pub overflow_add-keeps : goal.overflow_add-keeps
overflow_add-keeps c = omega (arith, c.requires.fits.4, c.requires.fits.6)

pub write_ands-requires : goal.write_ands-requires
write_ands-requires c =
    let s0 = conjuncts_of (kinds_in c.args.told.now) (values_in c.args.told.now) [] [] [] in
    let room = chain-room c.args.t.now c.args.rs.now c.args.trees.now c.args.used c.args.kept.now c.args.keeps c.args.total (comparisons lined (first_of c.args.order.now
    c.args.columns) (shown s0 (columns_of c.args.cells.now) c.args.marks.now)) _
    c.rebuilt_answer-answer.ensures (c.requires.total_value s0 refl refl) _ c.is_rewritten.ensures (ap not c.if-not-is_rewritten.false) c.requires.fits.7 in
    let r = ands_asked _ _ (comparisons lined (first_of c.args.order.now c.args.columns) (shown s0
    (columns_of c.args.cells.now) c.args.marks.now)) _ _ _ _ _ (c.write_comparisons-u.ensures s0
    refl refl) (c.requires.total_value s0 refl refl) room in
    (c.requires.fits.3, omega (arith, c.requires.fits.5), omega (arith, r.0), omega (arith, r.0), r.1)

pub write_reasons-requires : goal.write_reasons-requires
write_reasons-requires c =
    record {
      fits = (c.requires.fits.0, c.requires.fits.1, c.requires.fits.2);
      by_index = c.requires.by_index;
      marks_in_bounds = λ s ek ev. omega (
        arith,
        c.reasons_length-length.ensures s ek ev c.args.text.now,
        c.if-reasons-length.false,
      );
    }

pub returns : goal.returns
returns c =
    let w : is_rewritten c.rebuilt_answer-answer.result ≡ true = sym c.is_rewritten.ensures ∙ not-false _ (ap not c.if-not-is_rewritten.false)
    in
    record {
      answer_value = (λ s ek ev. c.rebuilt_answer-answer.ensures ∙ sym (fitting_answer (length (table_text (shown_in c.args.t.now
          c.args.text.now) (first_of c.args.order.now c.args.columns) (shown s (columns_of c.args.cells.now) c.args.marks.now))) (length c.args.reasons.now) (reckoned (length c.args.rs.now) c.args.trees.now c.args.used (first_of c.args.kept.now c.args.keeps) c.args.total) (omega (arith, c.reasons_length-length.ensures s ek ev c.args.text.now, c.if-reasons-length.false))));
      rs_after = (λ s ek ev.
          (chain-answered c.args.t.now c.args.rs.now c.args.trees.now c.args.used c.args.kept.now c.args.keeps c.args.total (comparisons lined (first_of c.args.order.now c.args.columns) (shown s (columns_of c.args.cells.now) c.args.marks.now)) _ c.rebuilt_answer-answer.ensures
          (c.requires.total_value s ek ev) _ c.is_rewritten.ensures (ap not c.if-not-is_rewritten.false) c.requires.fits.7 _ _ _ (c.write_comparisons-u.ensures s ek ev) c.write_ands.ensures).1);
      reasons_after = (λ s ek ev. c.write_reasons.ensures s ek ev ∙ fitting_text
          c.rebuilt_answer-answer.result c.args.reasons.now (table_text (shown_in c.args.t.now c.args.text.now) (first_of c.args.order.now c.args.columns) (shown s (columns_of c.args.cells.now) c.args.marks.now)) w);
      length_value = (λ s ek ev. c.reasons_length-length.ensures s ek ev c.args.text.now ∙ fitting_length
          c.rebuilt_answer-answer.result (table_text (shown_in c.args.t.now c.args.text.now) (first_of c.args.order.now c.args.columns) (shown s (columns_of c.args.cells.now) c.args.marks.now)) w);
    }

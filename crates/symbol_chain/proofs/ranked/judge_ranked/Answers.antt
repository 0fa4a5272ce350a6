use borrow.Author.Rules.{rules}
use lib.ListN.{length-take}
use mathlib.Core.Path.{sym, ◌∙◌}
use mathlib.Core.Bool.{true≢false}
use native.Mathlib.Omega.{arith}
use borrow.Author.Tests.{not-true, not-false}
use Rattle.symbol_row_test.proofs.AnswersWith.{columns-small, text-small}
use Rattle.ranked_screen.proofs.Reading.{accepted-sizes}
use Rattle.symbol_chain.proofs.NumberedRows.{accepted, all_tested}
use mathlib.Core.Path.{ap}
use mathlib.Core.Bool.{not}
use Rattle.symbol_chain.proofs.ranked.judge_ranked.Goals as goal

pub rows_fit_with-requires : goal.rows_fit_with-requires
rows_fit_with-requires c =
    record {
      table_len_bound = (
        columns-small c.args.text.now _ _ _ _ _ c.requires.checked_in,
        text-small c.args.text.now _ _ _ _ _
            c.requires.checked_in,
        c.requires.nulls_len_bound,
      );
      values_len = c.requires.values_len;
    }

pub returns-then-not-rows_fit_with : goal.returns-then-not-rows_fit_with
returns-then-not-rows_fit_with c =
    record {
      value = sym (not-true _ (ap not c.if-not-rows_fit_with.true)) ∙ c.rows_fit_with.ensures ∙ all_tested c.args.text.now _ _ _ _ _ _ _
          c.requires.checked_in c.requires.root_bound;
      judged = λ e. absurd (true≢false (sym e));
    }

pub number_text-requires : goal.number_text-requires
number_text-requires c = (text-small c.args.text.now _ _ _ _ _ c.requires.checked_in, search rules)

pub judge_each-requires : goal.judge_each-requires
judge_each-requires c =
    record { checked_in = c.requires.checked_in; root_bound = c.requires.root_bound; used_in_bounds = c.requires.used_in_bounds; reduced = c.requires.reduced; values_len = c.requires.values_len; nulls_len_bound = c.requires.nulls_len_bound; nulls_in_bounds = c.requires.nulls_in_bounds }

pub slice_bounds-ranked-end : goal.slice_bounds-ranked-end
slice_bounds-ranked-end c =
    let s = accepted-sizes _ _ _ _ (accepted c.args.text.now _ _ _ _ _ c.requires.checked_in) in
    omega (arith, s.pool-low)

pub slice_bounds-judge_numbers-end-2 : goal.slice_bounds-judge_numbers-end-2
slice_bounds-judge_numbers-end-2 c =
    let s = accepted-sizes _ _ _ _ (accepted c.args.text.now _ _ _ _ _ c.requires.checked_in) in
    rw length-take (omega (arith, s.pool-low))

pub judge_numbers-requires : goal.judge_numbers-requires
judge_numbers-requires c =
    let s = accepted-sizes _ _ _ _ (accepted c.args.text.now _ _ _ _ _ c.requires.checked_in) in
    record {
      checked_in = c.requires.checked_in;
      root_bound = c.requires.root_bound;
      used_in_bounds = c.requires.used_in_bounds;
      reduced = c.requires.reduced;
      values_len = c.requires.values_len;
      nulls_len_bound = c.requires.nulls_len_bound;
      nulls_in_bounds = c.requires.nulls_in_bounds;
      nulls_nonzero = c.requires.nulls_nonzero;
      nulls_value = sym c.rows_fit_with.ensures ∙ not-false _ (ap not c.if-not-rows_fit_with.false);
      codes = c.number_text.ensures (not-false _ (ap not c.if-not-number_text.false));
      in_bounds = (
        search rules,
        rw
            length-take (omega (arith, s.pool-low)),
      );
    }

pub returns : goal.returns
returns c =
    record {
      value = sym (sym c.rows_fit_with.ensures ∙ not-false _ (ap not c.if-not-rows_fit_with.false)) ∙ all_tested c.args.text.now _ _ _ _ _
          _ _ c.requires.checked_in c.requires.root_bound;
      judged = λ e. c.judge_numbers.ensures;
    }

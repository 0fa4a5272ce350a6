use Rattle.std.proofs.Common.{sym, ap, ◌∙◌, true≢false, arith}
use Rattle.records.proofs.Loops.{flag_no, flag_yes}
use Rattle.checking.proofs.Accepted.{checked-lent}
use Rattle.row_test.proofs.Ready.{columns-small}
use Rattle.chain_rows.proofs.Rows.{all_tested, judged-of, evaluates_of, pool-short}
use mathlib.Core.Bool.{not}
use Rattle.chain_rows.proofs.judge.judge_rows.Goals as goal

pub rows_fit-requires : goal.rows_fit-requires
rows_fit-requires c =
    record { table_len_bound = columns-small _ _ _ _ _ c.requires.checked; values_len = c.requires.values_len; nulls_len_bound = c.requires.nulls_len_bound }

pub returns-then-not-rows_fit : goal.returns-then-not-rows_fit
returns-then-not-rows_fit c =
    record {
      value = sym (flag_no c.rows_fit.ensures (ap not c.if-not-rows_fit.true)) ∙ all_tested _ _ _ _ _ _ _ c.requires.checked _ c.requires.tree_value
          c.requires.tree_bound;
      judged = λ e. absurd (true≢false (sym e));
    }

pub judge_fitting-requires : goal.judge_fitting-requires
judge_fitting-requires c =
    let l = checked-lent _ _ _ _ _ c.requires.checked in
    let u = c.requires.checked.root-used in
    record {
      evaluates = evaluates_of _ _ _ _ _ _ _ c.requires.checked c.requires.values_len c.requires.nulls_len_bound;
      root_in_bounds = omega (
        arith,
        l,
        u,
      );
      nulls_in_bounds = c.requires.nulls_in_bounds;
      pool_len_bound = pool-short _ _ _ c.requires.checked.sizes;
    }

pub returns : goal.returns
returns c =
    record {
      value = sym (flag_yes c.rows_fit.ensures (ap not c.if-not-rows_fit.false)) ∙ all_tested _ _ _ _ _ _ _ c.requires.checked _ c.requires.tree_value
          c.requires.tree_bound;
      judged = λ _. judged-of _ _ _ _ _ _ _ c.requires.checked _ c.requires.tree_value c.requires.tree_bound _
          (flag_yes c.rows_fit.ensures (ap not c.if-not-rows_fit.false)) c.judge_fitting.ensures;
    }

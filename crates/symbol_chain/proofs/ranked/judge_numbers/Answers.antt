use native.Mathlib.Omega.{arith}
use Rattle.symbol_row_test.proofs.AnswersWith.{columns-small}
use Rattle.symbol_chain.proofs.NumberedRows.{judged-by, row-truths, every-row}
use Rattle.symbol_chain.proofs.ranked.judge_numbers.Goals as goal

pub judge_chunks-requires : goal.judge_chunks-requires
judge_chunks-requires c =
    record {
      in_bounds = (c.requires.in_bounds.0, columns-small c.args.text.now _ _ _ _ _ c.requires.checked_in);
      nulls_len_bound = (
        c.requires.nulls_len_bound,
        c.requires.nulls_in_bounds,
      );
      values_len = c.requires.values_len;
      every_row = every-row c.args.text.now _ _ _ _ _ _ _ c.requires.checked_in c.requires.root_bound c.requires.nulls_value (λ q. omega (
        arith,
        c.type_inv.text q,
      )) _ _ _ c.requires.codes c.rank_chain.ensures c.requires.nulls_nonzero (omega (
        arith,
        c.rank_chain.auto.out,
        c.requires.used_in_bounds,
      )) (omega (
        arith,
        c.rank_chain.auto.pool,
        c.requires.in_bounds.1,
      ));
    }

pub returns : goal.returns
returns c =
    judged-by c.args.text.now _ _ _ _ _ _ _ c.requires.checked_in c.requires.root_bound c.requires.nulls_value _ (c.judge_chunks.ensures _ (row-truths c.args.text.now _ _ _ _ _ _ _ c.requires.checked_in c.requires.root_bound
    c.requires.nulls_value (λ q. omega (arith, c.type_inv.text q)) _ _ _ c.requires.codes c.rank_chain.ensures))

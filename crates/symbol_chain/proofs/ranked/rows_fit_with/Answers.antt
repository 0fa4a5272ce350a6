use mathlib.Core.Path.{sym, ◌∙◌}
use mathlib.Core.Bool.{true}
use native.Mathlib.Omega.{arith}
use borrow.Author.Tests.{eq-eqb, ne_eqb}
use Rattle.records.proofs.Loops.{all_none, all_more, all_fails, all_done}
use Rattle.refusal.proofs.Numbers.{fault-positive, fault-zero}
use Rattle.symbol_chain.specs.ChainWith.{row_fits_with}
use Rattle.symbol_chain.proofs.RowClasses.{row_inside}
use Rattle.symbol_chain.proofs.ranked.rows_fit_with.Goals as goal

pub loop-r-init : goal.loop-r-init
loop-r-init c = (omega arith, all_none _)

pub chain_fault-requires : goal.chain_fault-requires
chain_fault-requires c =
    record {
      table_len_bound = (c.requires.table_len_bound.0, c.requires.table_len_bound.1, omega (arith, c.loop-r-test.true, c.requires.table_len_bound.2));
      table_in_bounds = row_inside _ _ _ _ c.requires.values_len
          c.loop-r-test.true;
    }

pub returns-then-is_err : goal.returns-then-is_err
unfolding row_fits_with
returns-then-is_err c =
    all_fails (row_fits_with c.args.text.now c.args.table.now c.args.values.now c.args.nulls.now) _ _ c.loop-r-test.true (ne_eqb _ 0 (λ z. fault-positive _ (sym c.is_err.ensures.value ∙ c.if-is_err.true) (c.chain_fault.ensures ∙ z)))

pub loop-r-preserved : goal.loop-r-preserved
unfolding row_fits_with
loop-r-preserved c = (
  omega (arith, c.loop-r-test.true),
  all_more (row_fits_with c.args.text.now c.args.table.now c.args.values.now c.args.nulls.now) _ c.loop-r.invariant.1 (eq-eqb _ 0 (sym c.chain_fault.ensures ∙ fault-zero _ (sym c.is_err.ensures.value ∙ c.if-is_err.false))),
)

pub returns : goal.returns
returns c = all_done _ _ _ c.loop-r.invariant.0 c.loop-r-test.false c.loop-r.invariant.1

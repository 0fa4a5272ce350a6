use borrow.Author.Rules.{rules}
use native.Mathlib.Omega.{arith}
use mathlib.Core.Path.{sym}
use Rattle.std.proofs.lemmas.Result.{err_from_is_err_and}
use lib.Count.{ones-le}
use Rattle.symbol_rows.specs.ColumnsWith.{columns_answer_in}
use Rattle.checking.proofs.Accepted.{accepted-root_in}
use Rattle.symbol_reads.proofs.columns_read_with.Goals as goal

pub overflow_cast-root : goal.overflow_cast-root
overflow_cast-root c = omega (arith, accepted-root_in _ _ _ _ _ _ (sym c.in_ok-check_lent.ensures))

pub columns_word-word-requires : goal.columns_word-word-requires
columns_word-word-requires c = accepted-root_in _ _ _ _ _ _ (sym c.in_ok-check_lent.ensures)

pub overflow_cast-result : goal.overflow_cast-result
overflow_cast-result c = omega (arith, ones-le 64 c.columns_word-word.result (search rules))

pub returns-in_err-check_lent : goal.returns-in_err-check_lent
unfolding columns_answer_in
returns-in_err-check_lent c =
    let p = err_from_is_err_and c.from_residual.result c.from_residual.ensures.1 in
    rw (p.1, p.2, ← c.in_err-check_lent.ensures)

pub returns : goal.returns
unfolding columns_answer_in
returns c = rw (← c.in_ok-check_lent.ensures, c.columns_word-word.ensures)

use mathlib.Core.Path.{sym}
use Rattle.std.proofs.lemmas.Result.{err_from_is_err_and}
use native.Mathlib.Omega.{arith}
use Rattle.file_blocks.specs.Format.{file_length, blocks_for}
use Rattle.files.proofs.Saving.{limits, save_refused, save_short, save_done}
use Rattle.save_screen.proofs.save_screen.Goals as goal

-- the clauses by their names
named : {A0 A1 : Type 0} → A0 × A1 → record { answer : A0; bytes : A1 }
named p = record { answer = p.0; bytes = p.1 }

pub returns-in_err-check_lent : goal.returns-in_err-check_lent
returns-in_err-check_lent c =
    let q = err_from_is_err_and c.from_residual.result c.from_residual.ensures.1 in
    rw (q.1, q.2) (named (save_refused _ _ _ c.args.x.now _ _ _ _ (sym c.in_err-check_lent.ensures)))

pub overflow_cast-used : goal.overflow_cast-used
overflow_cast-used c =
    let l = limits _ _ _ c.args.x.now _ _ (sym c.in_ok-check_lent.ensures) in
    omega (arith, l.records)

pub file_length-length-requires : goal.file_length-length-requires
file_length-length-requires c =
    let l = limits _ _ _ c.args.x.now _ _ (sym c.in_ok-check_lent.ensures) in
    record { used_bound = l.records; values_bound = l.values; text_bound = l.bytes }

pub returns-then-file-length : goal.returns-then-file-length
unfolding file_length blocks_for
returns-then-file-length c =
    named (save_short _ _ _ c.args.x.now _ _ _ (sym c.in_ok-check_lent.ensures) (omega arith))

pub overflow_cast-used-2 : goal.overflow_cast-used-2
overflow_cast-used-2 c =
    let l = limits _ _ _ c.args.x.now _ _ (sym c.in_ok-check_lent.ensures) in
    omega (arith, l.records)

pub overflow_cast-root : goal.overflow_cast-root
overflow_cast-root c =
    let l = limits _ _ _ c.args.x.now _ _ (sym c.in_ok-check_lent.ensures) in
    omega (arith, l.records, l.root-used)

pub write_screen-requires : goal.write_screen-requires
unfolding file_length blocks_for
write_screen-requires c =
    let l = limits _ _ _ c.args.x.now _ _ (sym c.in_ok-check_lent.ensures) in
    record { t_len_bound = l.columns; used_bound = l.records; used_in_bounds = l.lent; p_len_bound = l.values; x_len_bound = l.bytes; used_in_bounds_2 = omega arith }

pub returns : goal.returns
unfolding file_length blocks_for
returns c =
    named (save_done _ _ _ c.args.x.now _ _ _ _ _ (sym c.in_ok-check_lent.ensures) (omega arith)
    c.file_length-length.ensures c.write_screen.ensures)

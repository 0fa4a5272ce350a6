use mathlib.Core.Path.{sym}
use Rattle.std.proofs.lemmas.Result.{err_from_is_err_and}
use Prim.Native.Nat.{◌*◌, ◌≤◌}
use native.Mathlib.Omega.{arith}
use lib.ListN.{length, take}
use lib.Seq.{length-take-le}
use Rattle.checking.proofs.Accepted.{checked-in, checked-used_in, checked-lent_in, accepted-root_in}
use Rattle.symbol_screens.specs.Rewriting.{lent}
use Rattle.numbered_screen.proofs.Checking.{numbers-checked}
use Rattle.numbered_screen.proofs.Reading.{numbered}
use Rattle.plain_symbols.proofs.Refusals.{columns-few, refused-with, accepted-with}
use Rattle.plain_symbols.proofs.plain_numbers.Goals as goal

pub overflow_mul-n : goal.overflow_mul-n
overflow_mul-n c =
    let ok = checked-in (lent c.args.text.now) c.args.t.now c.args.rs.now c.args.p.now
    c.args.used c.args.root (sym c.in_ok-check_lent.ensures) in
    let h : c.args.used ≤ 4096 = checked-used_in (lent c.args.text.now) c.args.t.now c.args.rs.now c.args.p.now c.args.used c.args.root ok in
    omega (arith, h)

pub number_table-requires : goal.number_table-requires
number_table-requires c =
    let ok = checked-in (lent c.args.text.now) c.args.t.now c.args.rs.now c.args.p.now
    c.args.used c.args.root (sym c.in_ok-check_lent.ensures) in
    let h : length c.args.t.now ≤ 64 = columns-few (lent c.args.text.now) c.args.t.now c.args.rs.now c.args.p.now c.args.used c.args.root ok in
    omega (arith, h, c.requires.columns)

pub number_records-requires : goal.number_records-requires
number_records-requires c =
    let ok = checked-in (lent c.args.text.now) c.args.t.now c.args.rs.now c.args.p.now
    c.args.used c.args.root (sym c.in_ok-check_lent.ensures) in
    let h : c.args.used ≤ 4096 = checked-used_in (lent c.args.text.now) c.args.t.now c.args.rs.now c.args.p.now c.args.used c.args.root ok in
    let l : 16 * c.args.used ≤ length c.args.rs.now = checked-lent_in (lent c.args.text.now) c.args.t.now c.args.rs.now c.args.p.now c.args.used c.args.root ok in
    let m : 16 * c.args.used ≤ length c.args.records.now = c.requires.room h in
    (omega (arith, l), omega (arith, m))

pub slice_bounds-numbers_refusal-end : goal.slice_bounds-numbers_refusal-end
slice_bounds-numbers_refusal-end c =
    let ok = checked-in (lent c.args.text.now) c.args.t.now c.args.rs.now c.args.p.now
    c.args.used c.args.root (sym c.in_ok-check_lent.ensures) in
    let h : length c.args.t.now ≤ 64 = columns-few (lent c.args.text.now) c.args.t.now c.args.rs.now c.args.p.now c.args.used c.args.root ok in
    omega (arith, h, c.requires.columns, c.number_table.auto.table)

pub slice_bounds-numbers_refusal-end-2 : goal.slice_bounds-numbers_refusal-end-2
slice_bounds-numbers_refusal-end-2 c =
    let ok = checked-in (lent c.args.text.now) c.args.t.now c.args.rs.now c.args.p.now
    c.args.used c.args.root (sym c.in_ok-check_lent.ensures) in
    let h : length c.args.t.now ≤ 64 = columns-few (lent c.args.text.now) c.args.t.now c.args.rs.now c.args.p.now c.args.used c.args.root ok in
    let b : length c.args.t.now ≤ length c.number_table.new.table = omega (
      arith,
      h,
      c.requires.columns,
      c.number_table.auto.table,
    ) in
    sym (length-take-le (length c.args.t.now) c.number_table.new.table b)

pub numbers_refusal-requires : goal.numbers_refusal-requires
numbers_refusal-requires c =
    let ok = checked-in (lent c.args.text.now) c.args.t.now c.args.rs.now c.args.p.now
    c.args.used c.args.root (sym c.in_ok-check_lent.ensures) in
    let h : length c.args.t.now ≤ 64 = columns-few (lent c.args.text.now) c.args.t.now c.args.rs.now c.args.p.now c.args.used c.args.root ok in
    let u : c.args.used ≤ 4096 = checked-used_in (lent c.args.text.now) c.args.t.now c.args.rs.now c.args.p.now c.args.used c.args.root ok in
    let m : 16 * c.args.used ≤ length c.args.records.now = c.requires.room u in
    let are = numbered c.args.t.now c.args.rs.now c.args.used c.number_table.new.table
    c.number_records.new.records (omega (arith, h, c.requires.columns, c.number_table.auto.table)) c.number_table.ensures (omega (arith, m, c.number_records.auto.records)) c.number_records.ensures in
    record {
      few = h;
      low = accepted-root_in (lent c.args.text.now) c.args.t.now c.args.rs.now c.args.p.now
          c.args.used c.args.root (sym c.in_ok-check_lent.ensures);
      numbers = are;
      accepted = numbers-checked
          (lent c.args.text.now) c.args.t.now c.args.rs.now c.args.p.now c.args.used
          (take (length c.args.t.now) c.number_table.new.table) c.number_records.new.records are c.args.root ok;
    }

pub returns-in_err-check_lent : goal.returns-in_err-check_lent
returns-in_err-check_lent c =
    let r = refused-with c.args.text.now c.args.t.now c.args.rs.now c.args.p.now c.args.used c.args.root _ (sym c.in_err-check_lent.ensures) in
    let q = err_from_is_err_and c.from_residual.result c.from_residual.ensures.1 in
    rw (q.1, q.2) record { refusal = r.0; numbers = λ z. absurd (r.1 z) }

pub returns : goal.returns
returns c =
    let ok = checked-in (lent c.args.text.now) c.args.t.now c.args.rs.now c.args.p.now
    c.args.used c.args.root (sym c.in_ok-check_lent.ensures) in
    let h : length c.args.t.now ≤ 64 = columns-few (lent c.args.text.now) c.args.t.now c.args.rs.now c.args.p.now c.args.used c.args.root ok in
    let u : c.args.used ≤ 4096 = checked-used_in (lent c.args.text.now) c.args.t.now c.args.rs.now c.args.p.now c.args.used c.args.root ok in
    let m : 16 * c.args.used ≤ length c.args.records.now = c.requires.room u in
    record {
      refusal = accepted-with c.args.text.now c.args.t.now c.args.rs.now c.args.p.now c.args.used c.args.root _ (sym c.in_ok-check_lent.ensures) c.numbers_refusal.ensures;
      numbers = λ z.
          numbered c.args.t.now c.args.rs.now c.args.used c.number_table.new.table c.number_records.new.records (omega (arith, h, c.requires.columns, c.number_table.auto.table)) c.number_table.ensures (omega
          (arith, m, c.number_records.auto.records)) c.number_records.ensures;
    }

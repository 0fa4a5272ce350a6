use borrow.Author.Rules.{rules}
use Prim.Native.Nat.{◌≤◌, ◌*◌}
use lib.ListN.{length}
use mathlib.Core.Path.{sym}
use lib.Seq.{length-take-le}
use native.Mathlib.Omega.{arith}
use Rattle.files.proofs.Loading.{ok_blocks, columns-held, records-held, values-held, held-within}
use Rattle.files.proofs.load.check_copies.Goals as goal

pub gather-requires : goal.gather-requires
gather-requires c =
    let k = columns-held c.args.f.now c.requires.f_value in
    record { f_value = ok_blocks c.args.f.now c.requires.f_value; f_in_bounds = omega (arith, k) }

pub gather-requires-2 : goal.gather-requires-2
gather-requires-2 c =
    let k = records-held c.args.f.now c.requires.f_value in
    record { f_value = ok_blocks c.args.f.now c.requires.f_value; f_in_bounds = omega (arith, k) }

pub gather-requires-3 : goal.gather-requires-3
gather-requires-3 c =
    let k = values-held c.args.f.now c.requires.f_value in
    record { f_value = ok_blocks c.args.f.now c.requires.f_value; f_in_bounds = omega (arith, k) }

pub slice_bounds-check_lent-end-2 : goal.slice_bounds-check_lent-end-2
slice_bounds-check_lent-end-2 c =
    let b : c.args.columns ≤ length c.gather.new.dst = search rules in
    sym (length-take-le c.args.columns c.gather.new.dst b)

pub slice_bounds-check_lent-end-4 : goal.slice_bounds-check_lent-end-4
slice_bounds-check_lent-end-4 c =
    let b : 16 * c.args.used ≤ length c.gather-2.new.dst = search rules in
    sym (length-take-le (16 * c.args.used) c.gather-2.new.dst b)

pub slice_bounds-check_lent-end-6 : goal.slice_bounds-check_lent-end-6
slice_bounds-check_lent-end-6 c =
    let b : 8 * c.args.values ≤ length c.gather-3.new.dst = search rules in
    sym (length-take-le (8 * c.args.values) c.gather-3.new.dst b)

pub returns : goal.returns
returns c =
    held-within c.args.f.now _ _ _ _ _ c.requires.f_value c.requires.columns_value c.requires.used_value c.requires.values_value c.requires.text_value c.requires.root_value _ _ c.gather.ensures _ _ _ _ c.gather-2.ensures
    c.gather-3.ensures _ c.check_lent.ensures

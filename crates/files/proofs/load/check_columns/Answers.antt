use borrow.Author.Rules.{rules}
use Prim.Native.Nat.{◌≤◌}
use lib.ListN.{length}
use mathlib.Core.Path.{sym}
use lib.Seq.{length-take-le}
use native.Mathlib.Omega.{arith}
use Rattle.files.proofs.Loading.{ok_blocks, columns-held, held-past}
use Rattle.files.proofs.load.check_columns.Goals as goal

pub gather-requires : goal.gather-requires
gather-requires c =
    let k = columns-held c.args.f.now c.requires.f_value in
    record { f_value = ok_blocks c.args.f.now c.requires.f_value; f_in_bounds = omega (arith, k) }

pub slice_bounds-check_table-end-2 : goal.slice_bounds-check_table-end-2
slice_bounds-check_table-end-2 c =
    let b : c.args.columns ≤ length c.gather.new.dst = search rules in
    sym (length-take-le c.args.columns c.gather.new.dst b)

pub returns : goal.returns
returns c =
    held-past c.args.f.now _ _ _ _ _ c.requires.f_value c.requires.columns_value c.requires.used_value c.requires.values_value
    c.requires.text_value c.requires.root_value _ _ c.gather.ensures _ c.requires.text_value_2
    c.check_table.ensures

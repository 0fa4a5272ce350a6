use borrow.Author.Rules.{rules}
use mathlib.Core.Path.{◌≡◌}
use Prim.Native.Nat.{◌*◌}
use lib.ListN.{length}
use Rattle.row_ranks.proofs.Rows.{part_row, part_length, row_back, rows_before}
use Rattle.row_ranks.proofs.block.put_row.Goals as goal

pub returns : goal.returns
returns c =
    let t = c.args.table.now in
    let ys = c.row_ranks.new.out in
    let p = part_length (length t) c.args.block.now c.args.i c.requires.i_bound.1 in
    let l : length ys ≡ 8 * length t = search (rules, p) in
    record {
      row_ranks = rw (row_back (length t) c.args.block.now c.args.i ys c.requires.i_bound.1 l) (rw (part_row
          (length t) c.args.values.now c.args.r) at c.row_ranks.ensures);
      rows_before = rows_before (length t) c.args.block.now c.args.i ys c.requires.i_bound.1 l;
    }

use mathlib.Core.Path.{◌≡◌, sym, ◌∙◌, ap}
use Rattle.column_table.specs.Words.{column_from}
use Rattle.column_table.proofs.Encoding.{column-loaded}
use Rattle.column_table.proofs.Lending.{row-lent}
use Prim.Native.Nat.{◌*◌, ◌/◌, ◌+◌}
use Rattle.column_table.specs.Rows.{stride}
use Rattle.column_table.proofs.cells.load.Goals as goal

pub returns : goal.returns
returns c =
    let s : 7 ≡ stride c.args.cells.now = sym (ap (λ n. n / 64) c.requires.1) in
    c.read_words.ensures ∙ ap column_from (row-lent c.args.cells.now c.args.x _ _ (ap (λ n. c.args.x
    * n) s) (ap (λ n. c.args.x * 7 + n) s)) ∙ sym (column-loaded c.args.cells.now c.args.x c.requires.0)

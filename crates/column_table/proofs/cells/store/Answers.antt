use borrow.Author.Rules.{rules}
use mathlib.Core.Path.{◌≡◌, sym, ◌∙◌, ap}
use Rattle.column_table.proofs.Encoding.{column-stored}
use Rattle.column_table.proofs.Lending.{row_back}
use Prim.Native.Nat.{◌*◌, ◌/◌, ◌+◌}
use Rattle.column_table.specs.Rows.{stride}
use lib.ListN.{length}
use Rattle.column_table.proofs.cells.store.Goals as goal

pub returns : goal.returns
returns c =
    let ws = c.args.cells.now in
    let s : 7 ≡ stride ws = sym (ap (λ n. n / 64) c.requires.1) in
    let ys = c.write_words.new.words in
    let l : length ys ≡ stride ws = search (rules, s) in
    let b = row_back ws c.args.x _ _ ys c.requires.0 (ap (λ n. c.args.x * n) s) (ap (λ n. c.args.x *
    7 + n) s) l in
    record { cells_after = column-stored ws _ c.args.x _ c.requires.0 b.1 (b.0 ∙ c.write_words.ensures.words_after) c.write_words.ensures.line_fits; cells_len_unchanged = b.1.size }

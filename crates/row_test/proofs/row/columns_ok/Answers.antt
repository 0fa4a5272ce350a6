use Prim.Native.Nat.{ℕ}
use mathlib.Core.Path.{refl}
use lib.ListN.{get_or, length}
use borrow.Author.Tests.{tests}
use Rattle.std.proofs.Common.{rules}
use Rattle.records.proofs.Ranges.{all_in_range}
use Rattle.records.specs.Bytes.{value_at}
use Rattle.truth.specs.FromBytes.{null_marked}
use Rattle.row_test.specs.RowTest.{column_ok, columns_ok}
use Rattle.row_test.proofs.row.columns_ok.Goals as goal

pub returns : goal.returns
unfolding columns_ok
returns c =
    all_in_range (λ (k : ℕ). column_ok (get_or c.args.table.now k 0) (null_marked c.args.nulls k) (value_at c.args.row.now k))
    (length c.args.table.now) _ _ _ c.all.ensures.ran refl (λ x b q k. search (rules, tests))

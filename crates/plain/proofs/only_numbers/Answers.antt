use Prim.Native.Nat.{ℕ}
use mathlib.Core.Path.{refl}
use mathlib.Core.Bool.{not, ◌||◌}
use lib.Dec.{eqb}
use lib.ListN.{get_or, length}
use borrow.Author.Tests.{tests}
use Rattle.std.proofs.Common.{rules}
use Rattle.records.proofs.Ranges.{all_in_range}
use Rattle.checking.specs.Columns.{bit}
use Rattle.merge.specs.Plain.{is_number_column}
use Rattle.plain.proofs.only_numbers.Goals as goal

pub returns : goal.returns
returns c =
    all_in_range (λ (k : ℕ). not (bit c.args.word k) || is_number_column c.args.t.now k) (length c.args.t.now) _ _ _ c.all.ensures.ran refl
    (λ x b q k. search (rules, tests))

use Prim.Native.Nat.{ℕ, ◌+◌, ◌*◌}
use mathlib.Core.Path.{refl}
use mathlib.Core.Bool.{not}
use lib.Dec.{eqb}
use lib.ListN.{get_or}
use borrow.Author.Tests.{tests}
use Rattle.std.proofs.Common.{rules}
use Rattle.records.proofs.Ranges.{all_in_range}
use Rattle.symbol_free.proofs.no_text_record.Goals as goal

pub returns : goal.returns
returns c =
    all_in_range (λ (k : ℕ). not (eqb (get_or c.args.rs.now (16 * k + 2) 0) 4)) c.args.used _ _ _ c.all.ensures.ran refl
    (λ x b q k. search (rules, tests))

-- Bytes none of which is 4 are those of a screen without Text.
use mathlib.Core.Path.{◌≡◌}
use mathlib.Core.Bool.{true, not}
use mathlib.Core.List.{List}
use Prim.Native.Nat.{ℕ, ◌+◌, ◌*◌}
use lib.Dec.{eqb}
use lib.ListN.{length, get_or}
use borrow.Author.Tests.{not-true}
use Rattle.records.specs.Bytes.{all}
use Rattle.records.specs.Record.{fields_at}
use Rattle.records.proofs.Loops.{all_holds}
use Rattle.symbol_screens.proofs.NumbersChecked.{NoText}

pub no_text : (t rs : List ℕ) (used : ℕ) →
    all (λ (k : ℕ). not (eqb (get_or t k 0) 4)) (length t) ≡ true →
    all (λ (k : ℕ). not (eqb (get_or rs (16 * k + 2) 0) 4)) used ≡ true → NoText t rs used
unfolding fields_at
no_text t rs used h k =
    record {
      columns = λ c l. not-true _ (all_holds (λ (k : ℕ). not (eqb (get_or t k 0) 4)) c (length t) l h);
      records = λ n l. not-true _ (all_holds (λ (k : ℕ). not (eqb (get_or rs (16 * k + 2) 0) 4)) n used l k);
    }

-- The screen returned serves as the one sent: checking accepts it, its tree is no larger than the row test takes, and
-- the row test answers of it as of the screen sent. t is the column table, rs the records, p the pool.
use Rattle.std.specs.Prelude.{◌≡◌, List, ◌↔◌, ℕ, ◌≤◌}
use Rattle.checking.specs.Check.{check_answer_in}
use Rattle.checking.specs.Tree.{tree_count}
use Rattle.checking.specs.Answer as check
use Rattle.three_valued.specs.declared.logic.Truth.TheVariants.{True}
use Rattle.row_test.specs.Answer.{RowAnswer}
use Rattle.row_test.specs.Answer as row
use Rattle.row_test.specs.RowTest.{test_row_answer}
use Rattle.merge.specs.Rewrite.{rewrite_answer, rewrite_bytes}
use Rattle.merge.specs.Demand.{root_after, used_after, AreBytes, AcceptedScreen}

-- No number from 1 to 8 of 01 is given for it: not by checking, and not for its tree. text is what is lent beside the pool.
pub record UsableIn (text : ℕ) (t rs p : List ℕ) (used root : ℕ) : Type 0 where
  pub accepted : check_answer_in text t rs p used root ≡ check.Accepted
  pub tree : tree_count rs root ≤ 4096

-- the same where no text pool is lent
abbrev pub Usable : List ℕ → List ℕ → List ℕ → ℕ → ℕ → Type 0
Usable t rs p used root = UsableIn 0 t rs p used root

-- Two answers of the row test for one row: both refuse it, with one number, or neither does; and the row passes by
-- both or by neither.
pub record SameTest (sent returned : RowAnswer) : Type 0 where
  pub refused : (k : ℕ) → (returned ≡ row.Refused k) ↔ (sent ≡ row.Refused k)
  pub passed : (returned ≡ row.Tested True) ↔ (sent ≡ row.Tested True)

-- Of every row's bytes and null marks, whatever they are.
abbrev pub SameTests : (t rs p : List ℕ) (used root : ℕ) (out : List ℕ) (new_used new_root : ℕ) → Type 0
SameTests t rs p used root out new_used new_root =
    (values : List ℕ) (nulls : ℕ) →
    SameTest (test_row_answer t rs p used root values nulls) (test_row_answer t out p new_used new_root values nulls)

-- What is asked of the screen that rewriting returns, where it refuses nothing.
abbrev pub OfReturned : (List ℕ → ℕ → ℕ → Type 0) → (t rs p : List ℕ) (used root : ℕ) → Type 0
OfReturned C t rs p used root =
    C (rewrite_bytes t rs p used root) (used_after (rewrite_answer t rs p used root) used)
    (root_after (rewrite_answer t rs p used root) root)

abbrev pub ReturnedUsable : Type 0
ReturnedUsable =
    (t rs p : List ℕ) (used root : ℕ) → AreBytes rs → AcceptedScreen t rs p used root →
    OfReturned (λ out new_used new_root. Usable t out p new_used new_root) t rs p used root

abbrev pub ReturnedTestsSame : Type 0
ReturnedTestsSame =
    (t rs p : List ℕ) (used root : ℕ) → AreBytes rs → AcceptedScreen t rs p used root →
    OfReturned (SameTests t rs p used root) t rs p used root

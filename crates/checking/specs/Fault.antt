-- A fault as code has it: the number of the refusal, 0 for none, and 8 more where what is refused says the type Text. One that
-- is not 8 more stands: a screen taken as one without a text pool is answered so beside every text pool within its limit.
use Rattle.std.specs.Prelude.{ℕ, ◌%◌, ◌≤◌, List, cond, ◌≡◌, eqb}
use Rattle.records.specs.Record.{node}
use Rattle.checking.specs.Check.{first_fault_in, records_answer_in, check_answer_in}
use Rattle.checking.specs.Answer.{CheckAnswer}
use Rattle.checking.specs.Answer.{Refused, Accepted}

unfoldable pub answer_of : ℕ → CheckAnswer
answer_of f = cond (eqb (f % 8) 0) Accepted (Refused (f % 8))

-- the first fault among the records; what is answered after the limits; the answer
abbrev pub FaultStands : List ℕ → List ℕ → List ℕ → ℕ → Type 0
FaultStands t rs p used = (s : ℕ) → first_fault_in s t rs p used ≡ first_fault_in 0 t rs p used

abbrev pub RecordsStand : List ℕ → List ℕ → List ℕ → ℕ → ℕ → Type 0
RecordsStand t rs p used root = (s : ℕ) → records_answer_in s t rs p used (node root) ≡ records_answer_in 0 t rs p used (node root)

abbrev pub Stands : List ℕ → List ℕ → List ℕ → ℕ → ℕ → Type 0
Stands t rs p used root = (s : ℕ) → s ≤ 8193 → check_answer_in s t rs p used root ≡ check_answer_in 0 t rs p used root

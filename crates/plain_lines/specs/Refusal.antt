-- The lines of a plain screen: as checking; then 8, 9 and 17 in this order (02, 2.7). t is the column table, rs the records, p
-- the pool.
use Rattle.std.specs.Prelude.{◌≡◌, cond, List, ℕ, ◌≤◌, Result, Ok, Err, ltb, length}
use Rattle.std.proofs.Math.Option.{Option, none, some}
use Rattle.checking.specs.Check.{check_answer}
use Rattle.checking.specs.Tree.{tree_count}
use Rattle.checking.specs.Answer.{CheckAnswer}
use Rattle.checking.specs.Answer as check
use Rattle.truth.specs.FromBytes.{aexpr_at}
use Rattle.merge.specs.Minterms.{minterms}
use Rattle.merge.specs.Plain.{plain_screen}
use Rattle.read_operands.specs.Walk.{walked, first_of}
use Rattle.refusal.specs.declared.Refusal.{Refusal}
use Rattle.refusal.specs.Numbers.{number}

-- 8, 9 and 17, of a checked screen; none if it is plain.
abbrev pub checked_refusal : List ℕ → List ℕ → List ℕ → ℕ → ℕ → Option ℕ
checked_refusal t rs p used root =
    cond (ltb 4096 (tree_count rs root)) (some 8)
    (cond (ltb 128 (length (minterms (aexpr_at rs p used) root))) (some 9)
    (cond (plain_screen t (aexpr_at rs p used) root) none (some 17)))

abbrev pub refusal_if : CheckAnswer → Option ℕ → Option ℕ
refusal_if (check.Refused k) a = some k
refusal_if check.Accepted a = a

-- The number with which the screen is refused, if it is.
unfoldable pub plain_refusal : List ℕ → List ℕ → List ℕ → ℕ → ℕ → Option ℕ
plain_refusal t rs p used root = refusal_if (check_answer t rs p used root) (checked_refusal t rs p used root)

abbrev pub refusal_in : Result ℕ Refusal → Option ℕ
refusal_in (Err r) = some (number r)
refusal_in (Ok n) = none

-- Where the screen is plain, its lines are the first n of `nodes`.
abbrev pub LinesIn : List ℕ → ℕ → List ℕ → Result ℕ Refusal → Type 0
LinesIn rs root nodes (Err r) = Unit {0}
LinesIn rs root nodes (Ok n) = (n ≤ 128) × (first_of nodes n ≡ minterms (walked rs) root)

-- The numbers that a refusal can carry.
use Prim.Native.Nat.{ℕ, zero, suc, ◌≤◌}
use mathlib.Core.List.{List}
use mathlib.Core.Bool.{Bool, true, false, cond}
use mathlib.Core.Path.{◌≡◌, refl, subst}
use native.Mathlib.Omega.{arith}
use lib.Dec.{eqb, ltb}
use borrow.Author.Tests.{eqb-false}
use Rattle.records.specs.Bytes.{first}
use Rattle.records.specs.Record.{node, fields_at, decode}
use Rattle.records.specs.Shape.{shape_ok_in}
use Rattle.record_check.specs.Fit.{reach_ok_in, served_ok, types_ok, type_at}
use Rattle.checking.specs.Check.{table_ok_in, sizes_ok_in, meaning_fault_in, record_fault_in, first_fault_in, records_answer_in, check_answer_in, check_answer}
use Rattle.records.specs.declared.record.Node.{Node}
use Rattle.records.specs.declared.record.Record.{Record}
use Rattle.checking.specs.Answer.{CheckAnswer}
use Rattle.checking.specs.Answer as check

-- of two numbers in a range, a test picks one in it
pick : (b : Bool) (x y : ℕ) → x ≤ 7 → y ≤ 7 → cond b x y ≤ 7
pick true x y h k = h
pick false x y h k = k

meaning-small : (text : ℕ) (t rs p : List ℕ) (r : Record) (n : Node) → meaning_fault_in text t rs p r n ≤ 7
unfolding meaning_fault_in
meaning-small text t rs p r n =
    pick (reach_ok_in text t p r n) _ _
    (pick (served_ok r) _ _ (pick (types_ok t rs r) _ _ (omega arith) (omega arith)) (omega arith)) (omega arith)

pub fault-small : (text : ℕ) (t rs p : List ℕ) (n : Node) → record_fault_in text t rs p n ≤ 7
unfolding record_fault_in
fault-small text t rs p n = pick (shape_ok_in text (fields_at rs n)) _ _ (meaning-small text t rs p (decode (fields_at rs n)) n) (omega arith)

first_small : (f : ℕ → ℕ) → ((n : ℕ) → f n ≤ 7) → (u : ℕ) → first f u ≤ 7
unfolding first
first_small f h zero = omega arith
first_small f h (suc u) = pick (eqb (first f u) 0) _ _ (h u) (first_small f h u)

-- a refusal's number is one of 1 to 7
abbrev Numbered : CheckAnswer → Type 0
Numbered (check.Refused k) = (1 ≤ k) × (k ≤ 7)
Numbered check.Accepted = Unit {0}

choose : (b : Bool) (x y : CheckAnswer) → Numbered x → Numbered y → Numbered (cond b x y)
choose true x y h k = h
choose false x y h k = k

-- a fault that is none is not answered
fault-numbered : (b : Bool) (x : ℕ) (y : CheckAnswer) → eqb x 0 ≡ b → x ≤ 7 → Numbered y
    → Numbered (cond b y (check.Refused x))
fault-numbered true x y e h k = k
fault-numbered false x y e h k = let d : (x ≡ 0 → ⊥) = eqb-false x 0 e in (omega (arith, d), h)

answer-numbered : (text : ℕ) (t rs p : List ℕ) (used root : ℕ) → Numbered (check_answer_in text t rs p used root)
unfolding check_answer_in records_answer_in first_fault_in
answer-numbered text t rs p used root =
    choose (table_ok_in text t) _ (check.Refused 1)
    (choose (sizes_ok_in text rs p used) _ (check.Refused 2)
    (choose (ltb root used) _ (check.Refused 3)
    (fault-numbered (eqb (first_fault_in text t rs p used) 0) (first_fault_in text t rs p used) _ refl
    (first_small (λ (i : ℕ). record_fault_in text t rs p (node i)) (λ n. fault-small text t rs p (node n)) used)
    (choose (eqb (type_at t rs (node root)) 3) check.Accepted (check.Refused 7) tt (omega arith, omega arith)))
    (omega arith, omega arith))
    (omega arith, omega arith))
    (omega arith, omega arith)

-- checking refuses with a number of 01 only: 1 to 7
pub refused-numbered-in : (text : ℕ) (t rs p : List ℕ) (used root k : ℕ) → check_answer_in text t rs p used root ≡ check.Refused k
    → (1 ≤ k) × (k ≤ 7)
refused-numbered-in text t rs p used root k e = subst Numbered e (answer-numbered text t rs p used root)

-- the same where no text pool is lent
pub refused-numbered : (t rs p : List ℕ) (used root k : ℕ) → check_answer t rs p used root ≡ check.Refused k
    → (1 ≤ k) × (k ≤ 7)
refused-numbered = refused-numbered-in 0

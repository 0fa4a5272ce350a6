-- Checking a screen: document 01, 'Answers by operation'. t is the column table, rs the records, p the pool,
-- text what is lent beside it (records, Shape).
-- Limits and table first (1, 2, 3), then records from 0 up, within each 4, 5, 6, 7, then the root's type (7).
use Rattle.std.specs.Prelude.{ℕ, ◌/◌, ◌%◌, List, Bool, false, cond, ◌&&◌, length, get_or, ltb, leb, eqb}
use Rattle.records.specs.Bytes.{all, first}
use Rattle.records.specs.Record.{node, fields_at, decode}
use Rattle.records.specs.Shape.{known_type_in, shape_ok_in}
use Rattle.record_check.specs.Fit.{reach_ok_in, served_ok, types_ok, type_at}
use Rattle.records.specs.declared.record.Node.{Node}
use Rattle.records.specs.declared.record.Record.{Record}
use Rattle.checking.specs.Answer.{CheckAnswer}
use Rattle.checking.specs.Answer.{Refused, Accepted}

-- 1: at most 64 columns, of known types
unfoldable pub types_known_in : ℕ → List ℕ → Bool
types_known_in text t = all (λ (k : ℕ). known_type_in text (get_or t k 0)) (length t)

unfoldable pub table_ok_in : ℕ → List ℕ → Bool
table_ok_in text t = leb (length t) 64 && types_known_in text t

-- 2: used within 4,096 and the whole records lent; the pool whole values, at most 8,192; the text pool at most 8,192 bytes
unfoldable pub sizes_ok_in : ℕ → List ℕ → List ℕ → ℕ → Bool
sizes_ok_in text rs p used =
    leb used 4096 && (leb used (length rs / 16) && (eqb (length p % 8) 0
    && cond (leb text 8193) (leb (length p / 8) 8192) false))

-- 5, 6, 7 of record n, which decodes to r; 0 for no fault
unfoldable pub meaning_fault_in : ℕ → List ℕ → List ℕ → List ℕ → Record → Node → ℕ
meaning_fault_in text t rs p r n =
    cond (reach_ok_in text t p r n) (cond (served_ok r) (cond (types_ok t rs r) 0 7) 6) 5

-- the first of 4, 5, 6, 7 that record n has, or 0
unfoldable pub record_fault_in : ℕ → List ℕ → List ℕ → List ℕ → Node → ℕ
record_fault_in text t rs p n =
    cond (shape_ok_in text (fields_at rs n)) (meaning_fault_in text t rs p (decode (fields_at rs n)) n) 4

-- the fault of the first record, from 0 up, that has one, or 0
unfoldable pub first_fault_in : ℕ → List ℕ → List ℕ → List ℕ → ℕ → ℕ
first_fault_in text t rs p used = first (λ (i : ℕ). record_fault_in text t rs p (node i)) used

-- after the limits: the first fault, then the root's type
unfoldable pub records_answer_in : ℕ → List ℕ → List ℕ → List ℕ → ℕ → Node → CheckAnswer
records_answer_in text t rs p used root =
    cond (eqb (first_fault_in text t rs p used) 0)
    (cond (eqb (type_at t rs root) 3) Accepted (Refused 7))
    (Refused (first_fault_in text t rs p used))

-- the answer of checking
unfoldable pub check_answer_in : ℕ → List ℕ → List ℕ → List ℕ → ℕ → ℕ → CheckAnswer
check_answer_in text t rs p used root =
    cond (table_ok_in text t)
    (cond (sizes_ok_in text rs p used)
    (cond (ltb root used) (records_answer_in text t rs p used (node root)) (Refused 3))
    (Refused 2))
    (Refused 1)

-- the same where no text pool is lent
abbrev pub types_known : List ℕ → Bool
types_known t = types_known_in 0 t

abbrev pub table_ok : List ℕ → Bool
table_ok t = table_ok_in 0 t

abbrev pub sizes_ok : List ℕ → List ℕ → ℕ → Bool
sizes_ok rs p used = sizes_ok_in 0 rs p used

abbrev pub record_fault : List ℕ → List ℕ → List ℕ → Node → ℕ
record_fault t rs p n = record_fault_in 0 t rs p n

abbrev pub check_answer : List ℕ → List ℕ → List ℕ → ℕ → ℕ → CheckAnswer
check_answer t rs p used root = check_answer_in 0 t rs p used root

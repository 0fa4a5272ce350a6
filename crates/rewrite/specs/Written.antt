-- The order in which the code writes the records of a rebuilt screen.
use Rattle.std.specs.Prelude.{cond, List, ℕ, zero, suc, ◌+◌, ◌*◌, ◌-◌, ltb, get_or}
use Rattle.records.specs.Record.{node, column_number}
use Rattle.records.specs.declared.operator.Operator.TheVariants as operator
use Rattle.records.specs.declared.record.Record.TheVariants as kind
use Rattle.truth.specs.Comparison.{Comparison}
use Rattle.merge.specs.Classify.{comparison_operator}
use Rattle.merge.specs.Write.{write_record}

-- A comparison of column a with v: column, literal, binary record.
unfoldable pub write_compared : List ℕ → ℕ → ℕ → Comparison → ℕ → List ℕ → List ℕ
write_compared t u a k v rs =
    write_record
    (write_record
    (write_record rs u (kind.Column (column_number a)))
    (u + 1) (kind.Literal (get_or t a 0) v))
    (u + 2) (kind.Binary (comparison_operator k) (node u) (node (u + 1)))

-- The conjunct number i of a rebuilt chain: the kept nodes, then the comparisons, three records each, from `used` on.
abbrev pub chain_at : List ℕ → ℕ → ℕ → ℕ → ℕ
chain_at nodes kept used i = cond (ltb i kept) (get_or nodes i 0) (used + 3 * (i - kept) + 2)

-- What the first i Ands stand on, written from record u on.
unfoldable pub acc_at : (ℕ → ℕ) → ℕ → ℕ → ℕ
acc_at f u zero = f 0
acc_at f u (suc i) = u + i

-- The first i Ands.
unfoldable pub ands_to : (ℕ → ℕ) → ℕ → ℕ → List ℕ → List ℕ
ands_to f u zero rs = rs
ands_to f u (suc i) rs =
    write_record (ands_to f u i rs) (u + i) (kind.Binary operator.And (node (acc_at f u i)) (node (f (suc i))))

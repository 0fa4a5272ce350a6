-- The bytes of the records that a rebuilt screen adds, from record `used` on. t is the column table, rs the records.
use Rattle.std.specs.Prelude.{List, [], ◌∷◌, ◌++◌, ℕ, suc, ◌+◌, ◌*◌, ◌/◌, ◌%◌, length, get_or, take, drop}
use Rattle.records.specs.Record.{node, column_number, encode}
use Rattle.records.specs.declared.operator.Operator.TheVariants as operator
use Rattle.records.specs.declared.record.Fields.{Fields}
use Rattle.records.specs.declared.record.Record.{Record}
use Rattle.records.specs.declared.record.Record.TheVariants as kind
use Rattle.constraints.specs.Comparisons.{ColumnComparison}
use Rattle.merge.specs.Classify.{comparison_operator}
use Rattle.merge.specs.Emit.{Outcome, Unchanged, NothingPasses, Rebuilt}
use Rattle.merge.specs.Rebuild.{comparison_of, value_of, comparison_nodes, comparisons_end}

-- The four bytes of a number, the lowest first.
abbrev pub word_bytes : ℕ → List ℕ
word_bytes x = x % 256 ∷ x / 256 % 256 ∷ x / 65536 % 256 ∷ x / 16777216 % 256 ∷ []

-- The sixteen bytes of a record's fields.
abbrev pub field_bytes : Fields → List ℕ
field_bytes f =
    (f.kind ∷ f.code ∷ f.ty ∷ f.zero ∷ []) ++ (word_bytes f.a ++ (word_bytes f.b ++ word_bytes f.c))

-- The list with vs in the place of what stood from `at` on.
unfoldable pub splice : List ℕ → ℕ → List ℕ → List ℕ
splice l at vs = take at l ++ (vs ++ drop (at + length vs) l)

-- Record n written.
abbrev pub write_record : List ℕ → ℕ → Record → List ℕ
write_record rs n r = splice rs (16 * n) (field_bytes (encode r))

-- The type of the literal that is written beside column c: the column's.
abbrev pub literal_type : List ℕ → ℕ → ℕ
literal_type t c = get_or t c 0

-- `comparison_node`: column, literal, binary record.
abbrev pub write_comparison : List ℕ → ℕ → (ℕ × ColumnComparison ℕ) → List ℕ → List ℕ
write_comparison t u x rs =
    write_record
    (write_record
    (write_record rs u (kind.Column (column_number x.0)))
    (suc u) (kind.Literal (literal_type t x.0) (value_of x.1)))
    (suc (suc u)) (kind.Binary (comparison_operator (comparison_of x.1)) (node u) (node (suc u)))

abbrev pub write_comparisons : List ℕ → ℕ → List (ℕ × ColumnComparison ℕ) → List ℕ → List ℕ
write_comparisons t u [] rs = rs
write_comparisons t u (x ∷ l) rs = write_comparisons t (suc (suc (suc u))) l (write_comparison t u x rs)

-- `fold_and`: And of what stands at `acc` and the next node, and so on.
abbrev pub write_ands : ℕ → ℕ → List ℕ → List ℕ → List ℕ
write_ands u acc [] rs = rs
write_ands u acc (n ∷ l) rs = write_ands (suc u) u l (write_record rs u (kind.Binary operator.And (node acc) (node n)))

abbrev pub fold_bytes : ℕ → List ℕ → List ℕ → List ℕ
fold_bytes u rs [] = rs
fold_bytes u rs (n ∷ l) = write_ands u n l rs

-- The records' bytes with what an outcome adds: nothing; a false literal; the comparisons and the Ands.
abbrev pub outcome_bytes : List ℕ → List ℕ → ℕ → Outcome ℕ → List ℕ
outcome_bytes t rs used Unchanged = rs
outcome_bytes t rs used NothingPasses = write_record rs used (kind.Literal 3 0)
outcome_bytes t rs used (Rebuilt ns cs) =
    fold_bytes (comparisons_end used cs) (write_comparisons t used cs rs) (ns ++ comparison_nodes used cs)

-- The slowest screen (02, 2.13): a screen of Int columns that takes exactly as many passes over its equalities as it has
-- columns. What every such screen has in common: a bound on the first column, and the chain of equalities listed from its
-- far end, so that a pass carries the bound one column further; three records a column. What is the choice made here: the
-- bound is c0 > 0 and stands behind the equalities; the Ands nest to the right; the order of the records.
use Rattle.std.specs.Prelude.{Bool, false, cond, List, [], ◌∷◌, ◌++◌, ℕ, zero, suc, ◌+◌, ◌*◌, ◌-◌, ◌/◌, ◌%◌, eqb, ltb, replicate}
use Rattle.records.specs.Record.{node, column_number, encode}
use Rattle.records.specs.declared.operator.Operator.TheVariants as operator
use Rattle.records.specs.declared.record.Record.{Record}
use Rattle.records.specs.declared.record.Record.TheVariants as kind
use Rattle.merge.specs.Write.{field_bytes}

-- Record i of the screen of n columns: the columns 0 to n - 1; the literal 0; c0 > 0; then by turns the equality of two
-- neighbours, from c0 == c1 on, and its And with the Ands before.
unfoldable pub slowest_record : ℕ → ℕ → Record
slowest_record n i =
    cond (ltb i n) (kind.Column (column_number i))
    (cond (eqb i n) (kind.Literal 1 0)
    (cond (eqb i (n + 1)) (kind.Binary operator.Gt (node 0) (node n))
    (cond (eqb ((i - n) % 2) 0) (kind.Binary operator.Eq (node ((i - n) / 2 - 1)) (node ((i - n) / 2)))
    (kind.Binary operator.And (node (i - 1)) (node (i - 2))))))

-- The bytes of the first i records.
unfoldable pub bytes_to : ℕ → ℕ → List ℕ
bytes_to n zero = []
bytes_to n (suc i) = bytes_to n i ++ field_bytes (encode (slowest_record n i))

abbrev pub slowest_used : ℕ → ℕ
slowest_used n = 3 * n

abbrev pub slowest_root : ℕ → ℕ
slowest_root n = 3 * n - 1

abbrev pub slowest_bytes : ℕ → List ℕ
slowest_bytes n = bytes_to n (slowest_used n)

-- The table: n times Int.
abbrev pub slowest_table : ℕ → List ℕ
slowest_table n = replicate n 1

-- The records that rewriting the screen needs: those sent, a comparison a column with its column and literal, and an And
-- less than there are conjuncts in the chain rebuilt, which keeps the equalities.
abbrev pub records_needed : ℕ → ℕ
records_needed n = 8 * n - 2

-- What is read of every kind and code, from bytes: nothing but these cases and review holds the reader to 01.
use mathlib.Core.Path.{◌≡◌, refl}
use mathlib.Core.Bool.{Bool, true, false}
use mathlib.Core.List.{List, [], ◌∷◌, ◌++◌, map}
use Prim.Native.Nat.{ℕ, zero, suc, ◌%◌, ◌/◌}
use Rattle.records.specs.Bytes.{word, value_at, all}
use Rattle.records.specs.Course.{up_to, course}
use Rattle.records.specs.Operator.{operator_at}
use Rattle.records.specs.Record.{fields, fields_at, closed_at, decode, record_at}
use Rattle.truth.specs.FromBytes.{values_from, aexpr_of, aexpr_at}
use Rattle.constraints.specs.declared.column.Nullability.TheVariants.{NonNull}
use Rattle.constraints.specs.declared.column.Nullability.TheVariants as required
use Rattle.constraints.specs.Column.{Constraint, Lower, Upper, Exclude, Allow, Disallow, Require}
use Rattle.merge.specs.Classify.{Conjunct, Bounds, Normalized, Equality, Recorded, NonNullPair, Opaque}
use Rattle.merge.specs.Classify.{read_conjuncts}
use Rattle.merge.specs.Plain.{plain_screen}
use Rattle.merge.specs.Write.{field_bytes}
use Rattle.merge_cases.specs.Cases.{column, binary, negation, is_null, membership, between}

abbrev literal : ℕ → List ℕ
literal v = field_bytes (fields 2 0 1 0 (v % 4294967296) (v / 4294967296))

abbrev null : List ℕ
null = field_bytes (fields 3 0 1 0 0 0)

abbrev is_not_null : ℕ → List ℕ
is_not_null a = field_bytes (fields 7 0 0 a 0 0)

abbrev list : ℕ → ℕ → ℕ → List ℕ
list code start count = field_bytes (fields 9 code 1 start count 0)

record Reading : Type 0 where
  records : List ℕ
  pool : List ℕ
  used : ℕ
  root : ℕ
  expected : List (Conjunct ℕ)
  is_plain : Bool

abbrev reading : Bool → List ℕ → List ℕ → ℕ → ℕ → List (Conjunct ℕ) → Reading
reading b rs p u r l = record { records = rs; pool = p; used = u; root = r; expected = l; is_plain = b }

abbrev table : List Reading
table =
    -- c0 Eq 3
    reading true (column 0 ++ literal 3 ++ binary 0 0 1) [] 3 2 (Bounds 0 (Lower true 3 ∷ Upper true 3 ∷ []) ∷ [])
    -- c0 EqValidity 3
    ∷ reading false (column 0 ++ literal 3 ++ binary 1 0 1) [] 3 2 (Recorded false 2 0 [] ∷ [])
    -- c0 NotEq 3
    ∷ reading true (column 0 ++ literal 3 ++ binary 2 0 1) [] 3 2 (Bounds 0 (Exclude 3 ∷ []) ∷ [])
    -- c0 NotEqValidity 3
    ∷ reading false (column 0 ++ literal 3 ++ binary 3 0 1) [] 3 2 (Recorded false 2 0 [] ∷ [])
    -- c0 Lt 3
    ∷ reading true (column 0 ++ literal 3 ++ binary 4 0 1) [] 3 2 (Bounds 0 (Upper false 3 ∷ []) ∷ [])
    -- c0 LtEq 3
    ∷ reading true (column 0 ++ literal 3 ++ binary 5 0 1) [] 3 2 (Bounds 0 (Upper true 3 ∷ []) ∷ [])
    -- c0 Gt 3
    ∷ reading true (column 0 ++ literal 3 ++ binary 6 0 1) [] 3 2 (Bounds 0 (Lower false 3 ∷ []) ∷ [])
    -- c0 GtEq 3
    ∷ reading true (column 0 ++ literal 3 ++ binary 7 0 1) [] 3 2 (Bounds 0 (Lower true 3 ∷ []) ∷ [])
    -- c0 Or 3
    ∷ reading false (column 0 ++ literal 3 ++ binary 16 0 1) [] 3 2 (Recorded false 2 0 [] ∷ [])
    -- c0 Xor 3
    ∷ reading false (column 0 ++ literal 3 ++ binary 17 0 1) [] 3 2 (Recorded false 2 0 [] ∷ [])
    -- c0 LogicalOr 3
    ∷ reading false (column 0 ++ literal 3 ++ binary 19 0 1) [] 3 2 (Recorded false 2 0 [] ∷ [])
    -- 3 Eq c0
    ∷ reading true (column 0 ++ literal 3 ++ binary 0 1 0) [] 3 2 (Bounds 0 (Lower true 3 ∷ Upper true 3 ∷ []) ∷ [])
    -- 3 EqValidity c0
    ∷ reading false (column 0 ++ literal 3 ++ binary 1 1 0) [] 3 2 (Recorded false 2 0 [] ∷ [])
    -- 3 NotEq c0
    ∷ reading true (column 0 ++ literal 3 ++ binary 2 1 0) [] 3 2 (Bounds 0 (Exclude 3 ∷ []) ∷ [])
    -- 3 NotEqValidity c0
    ∷ reading false (column 0 ++ literal 3 ++ binary 3 1 0) [] 3 2 (Recorded false 2 0 [] ∷ [])
    -- 3 Lt c0
    ∷ reading true (column 0 ++ literal 3 ++ binary 4 1 0) [] 3 2 (Bounds 0 (Lower false 3 ∷ []) ∷ [])
    -- 3 LtEq c0
    ∷ reading true (column 0 ++ literal 3 ++ binary 5 1 0) [] 3 2 (Bounds 0 (Lower true 3 ∷ []) ∷ [])
    -- 3 Gt c0
    ∷ reading true (column 0 ++ literal 3 ++ binary 6 1 0) [] 3 2 (Bounds 0 (Upper false 3 ∷ []) ∷ [])
    -- 3 GtEq c0
    ∷ reading true (column 0 ++ literal 3 ++ binary 7 1 0) [] 3 2 (Bounds 0 (Upper true 3 ∷ []) ∷ [])
    -- 3 Or c0
    ∷ reading false (column 0 ++ literal 3 ++ binary 16 1 0) [] 3 2 (Recorded false 2 0 [] ∷ [])
    -- 3 Xor c0
    ∷ reading false (column 0 ++ literal 3 ++ binary 17 1 0) [] 3 2 (Recorded false 2 0 [] ∷ [])
    -- 3 LogicalOr c0
    ∷ reading false (column 0 ++ literal 3 ++ binary 19 1 0) [] 3 2 (Recorded false 2 0 [] ∷ [])
    -- c0 Eq c1
    ∷ reading true (column 0 ++ column 1 ++ binary 0 0 1) [] 3 2 (Equality 0 1 2 ∷ [])
    -- c0 EqValidity c1
    ∷ reading false (column 0 ++ column 1 ++ binary 1 0 1) [] 3 2 (Opaque 2 ∷ [])
    -- c0 NotEq c1
    ∷ reading false (column 0 ++ column 1 ++ binary 2 0 1) [] 3 2 (NonNullPair 2 0 1 ∷ [])
    -- c0 NotEqValidity c1
    ∷ reading false (column 0 ++ column 1 ++ binary 3 0 1) [] 3 2 (Opaque 2 ∷ [])
    -- c0 Lt c1
    ∷ reading false (column 0 ++ column 1 ++ binary 4 0 1) [] 3 2 (NonNullPair 2 0 1 ∷ [])
    -- c0 LtEq c1
    ∷ reading false (column 0 ++ column 1 ++ binary 5 0 1) [] 3 2 (NonNullPair 2 0 1 ∷ [])
    -- c0 Gt c1
    ∷ reading false (column 0 ++ column 1 ++ binary 6 0 1) [] 3 2 (NonNullPair 2 0 1 ∷ [])
    -- c0 GtEq c1
    ∷ reading false (column 0 ++ column 1 ++ binary 7 0 1) [] 3 2 (NonNullPair 2 0 1 ∷ [])
    -- c0 Or c1
    ∷ reading false (column 0 ++ column 1 ++ binary 16 0 1) [] 3 2 (Opaque 2 ∷ [])
    -- c0 Xor c1
    ∷ reading false (column 0 ++ column 1 ++ binary 17 0 1) [] 3 2 (Opaque 2 ∷ [])
    -- c0 LogicalOr c1
    ∷ reading false (column 0 ++ column 1 ++ binary 19 0 1) [] 3 2 (Opaque 2 ∷ [])
    -- is_between(c0, 3, 5), Both
    ∷ reading true (column 0 ++ literal 3 ++ literal 5 ++ between 0 0 1 2) [] 4 3
    (Bounds 0 (Lower true 3 ∷ Upper true 5 ∷ []) ∷ [])
    -- is_between(c0, 3, 5), Left
    ∷ reading true (column 0 ++ literal 3 ++ literal 5 ++ between 1 0 1 2) [] 4 3
    (Bounds 0 (Lower true 3 ∷ Upper false 5 ∷ []) ∷ [])
    -- is_between(c0, 3, 5), Right
    ∷ reading true (column 0 ++ literal 3 ++ literal 5 ++ between 2 0 1 2) [] 4 3
    (Bounds 0 (Lower false 3 ∷ Upper true 5 ∷ []) ∷ [])
    -- is_between(c0, 3, 5), None
    ∷ reading true (column 0 ++ literal 3 ++ literal 5 ++ between 3 0 1 2) [] 4 3
    (Bounds 0 (Lower false 3 ∷ Upper false 5 ∷ []) ∷ [])
    -- is_between(c0, c1, 5)
    ∷ reading false (column 0 ++ column 1 ++ literal 5 ++ between 0 0 1 2) [] 4 3 (Opaque 3 ∷ [])
    -- is_between(c0, null, 5)
    ∷ reading false (column 0 ++ null ++ literal 5 ++ between 0 0 1 2) [] 4 3 (Opaque 3 ∷ [])
    -- is_between(3, 3, 5)
    ∷ reading false (literal 3 ++ literal 5 ++ between 0 0 0 1) [] 3 2 (Opaque 2 ∷ [])
    -- is_in(c0, [1, 2])
    ∷ reading true (column 0 ++ list 0 0 2 ++ membership 0 0 1)
    (1 ∷ 0 ∷ 0 ∷ 0 ∷ 0 ∷ 0 ∷ 0 ∷ 0 ∷ 2 ∷ 0 ∷ 0 ∷ 0 ∷ 0 ∷ 0 ∷ 0 ∷ 0 ∷
    []) 3 2 (Recorded false 2 0 (Allow (1 ∷ 2 ∷ []) ∷ []) ∷ [])
    -- is_in(c0, [2])
    ∷ reading true (column 0 ++ list 0 1 1 ++ membership 0 0 1)
    (1 ∷ 0 ∷ 0 ∷ 0 ∷ 0 ∷ 0 ∷ 0 ∷ 0 ∷ 2 ∷ 0 ∷ 0 ∷ 0 ∷ 0 ∷ 0 ∷ 0 ∷ 0 ∷
    []) 3 2 (Recorded false 2 0 (Allow (2 ∷ []) ∷ []) ∷ [])
    -- is_in(c0, [1, null])
    ∷ reading false (column 0 ++ list 1 0 1 ++ membership 0 0 1)
    (1 ∷ 0 ∷ 0 ∷ 0 ∷ 0 ∷ 0 ∷ 0 ∷ 0 ∷ 2 ∷ 0 ∷ 0 ∷ 0 ∷ 0 ∷ 0 ∷ 0 ∷ 0 ∷
    []) 3 2 (Opaque 2 ∷ [])
    -- Not is_in(c0, [1, 2])
    ∷ reading true (column 0 ++ list 0 0 2 ++ membership 0 0 1 ++ negation 2)
    (1 ∷ 0 ∷ 0 ∷ 0 ∷ 0 ∷ 0 ∷ 0 ∷ 0 ∷ 2 ∷ 0 ∷ 0 ∷ 0 ∷ 0 ∷ 0 ∷ 0 ∷ 0 ∷ []) 4 3
    (Recorded false 3 0 (Disallow true (1 ∷ 2 ∷ []) ∷ []) ∷ [])
    -- Not is_in(c0, [1, null])
    ∷ reading false (column 0 ++ list 1 0 1 ++ membership 0 0 1 ++ negation 2)
    (1 ∷ 0 ∷ 0 ∷ 0 ∷ 0 ∷ 0 ∷ 0 ∷ 0 ∷ 2 ∷ 0 ∷ 0 ∷ 0 ∷ 0 ∷ 0 ∷ 0 ∷ 0 ∷ []) 4 3 (Opaque 3 ∷ [])
    -- is_in(c0, [1, 2]) with nulls_equal
    ∷ reading true (column 0 ++ list 0 0 2 ++ membership 1 0 1)
    (1 ∷ 0 ∷ 0 ∷ 0 ∷ 0 ∷ 0 ∷ 0 ∷ 0 ∷ 2 ∷ 0 ∷ 0 ∷ 0 ∷ 0 ∷ 0 ∷ 0 ∷ 0 ∷
    []) 3 2 (Recorded false 2 0 (Allow (1 ∷ 2 ∷ []) ∷ []) ∷ [])
    -- is_in(c0, [2]) with nulls_equal
    ∷ reading true (column 0 ++ list 0 1 1 ++ membership 1 0 1)
    (1 ∷ 0 ∷ 0 ∷ 0 ∷ 0 ∷ 0 ∷ 0 ∷ 0 ∷ 2 ∷ 0 ∷ 0 ∷ 0 ∷ 0 ∷ 0 ∷ 0 ∷ 0 ∷
    []) 3 2 (Recorded false 2 0 (Allow (2 ∷ []) ∷ []) ∷ [])
    -- is_in(c0, [1, null]) with nulls_equal
    ∷ reading false (column 0 ++ list 1 0 1 ++ membership 1 0 1)
    (1 ∷ 0 ∷ 0 ∷ 0 ∷ 0 ∷ 0 ∷ 0 ∷ 0 ∷ 2 ∷ 0 ∷ 0 ∷ 0 ∷ 0 ∷ 0 ∷ 0 ∷ 0 ∷
    []) 3 2 (Opaque 2 ∷ [])
    -- Not is_in(c0, [1, 2]) with nulls_equal
    ∷ reading true (column 0 ++ list 0 0 2 ++ membership 1 0 1 ++ negation 2)
    (1 ∷ 0 ∷ 0 ∷ 0 ∷ 0 ∷ 0 ∷ 0 ∷ 0 ∷ 2 ∷ 0 ∷ 0 ∷ 0 ∷ 0 ∷ 0 ∷ 0 ∷ 0 ∷ []) 4 3
    (Recorded false 3 0 (Disallow false (1 ∷ 2 ∷ []) ∷ []) ∷ [])
    -- Not is_in(c0, [1, null]) with nulls_equal
    ∷ reading false (column 0 ++ list 1 0 1 ++ membership 1 0 1 ++ negation 2)
    (1 ∷ 0 ∷ 0 ∷ 0 ∷ 0 ∷ 0 ∷ 0 ∷ 0 ∷ 2 ∷ 0 ∷ 0 ∷ 0 ∷ 0 ∷ 0 ∷ 0 ∷ 0 ∷ []) 4 3 (Opaque 3 ∷ [])
    -- is_in(c0, []): the column enters
    ∷ reading true (column 0 ++ list 0 0 0 ++ membership 0 0 1) [] 3 2 (Recorded false 2 0 (Allow [] ∷ []) ∷ [])
    -- is_in(c0, 100 values)
    ∷ reading true (column 0 ++ list 0 0 100 ++ membership 0 0 1) [] 3 2
    (Recorded false 2 0 (Allow (values_from [] 0 100) ∷ []) ∷ [])
    -- is_in(c0, 101 values)
    ∷ reading false (column 0 ++ list 0 0 101 ++ membership 0 0 1) [] 3 2 (Opaque 2 ∷ [])
    -- Not is_in(c0, 101 values)
    ∷ reading false (column 0 ++ list 0 0 101 ++ membership 0 0 1 ++ negation 2) [] 4 3 (Opaque 3 ∷ [])
    -- is_in(3, [1])
    ∷ reading false (literal 3 ++ list 0 0 1 ++ membership 0 0 1)
    (1 ∷ 0 ∷ 0 ∷ 0 ∷ 0 ∷ 0 ∷ 0 ∷ 0 ∷ 2 ∷ 0 ∷ 0 ∷ 0 ∷ 0 ∷ 0 ∷ 0 ∷ 0 ∷
    []) 3 2 (Opaque 2 ∷ [])
    -- is_null(c0)
    ∷ reading true (column 0 ++ is_null 0) [] 2 1 (Recorded true 1 0 (Require required.Null ∷ []) ∷ [])
    -- is_not_null(c0)
    ∷ reading true (column 0 ++ is_not_null 0) [] 2 1 (Recorded true 1 0 (Require NonNull ∷ []) ∷ [])
    -- Not is_null(c0)
    ∷ reading true (column 0 ++ is_null 0 ++ negation 1) [] 3 2 (Recorded true 2 0 (Require NonNull ∷ []) ∷ [])
    -- Not is_not_null(c0)
    ∷ reading true (column 0 ++ is_not_null 0 ++ negation 1) [] 3 2
    (Recorded true 2 0 (Require required.Null ∷ []) ∷ [])
    -- is_null(3)
    ∷ reading false (literal 3 ++ is_null 0) [] 2 1 (Opaque 1 ∷ [])
    -- c0 Eq null
    ∷ reading false (column 0 ++ null ++ binary 0 0 1) [] 3 2 (Opaque 2 ∷ [])
    -- null Gt c0
    ∷ reading false (column 0 ++ null ++ binary 6 1 0) [] 3 2 (Opaque 2 ∷ [])
    -- 3 Eq 3
    ∷ reading false (literal 3 ++ binary 0 0 0) [] 2 1 (Opaque 1 ∷ [])
    -- c0 alone
    ∷ reading false (column 0) [] 1 0 (Opaque 0 ∷ [])
    -- a literal
    ∷ reading false (literal 1) [] 1 0 (Opaque 0 ∷ [])
    -- a null
    ∷ reading false (null) [] 1 0 (Opaque 0 ∷ [])
    -- Not c0
    ∷ reading false (column 0 ++ negation 0) [] 2 1 (Opaque 1 ∷ [])
    -- Not Not is_null(c0)
    ∷ reading false (column 0 ++ is_null 0 ++ negation 1 ++ negation 2) [] 4 3 (Opaque 3 ∷ [])
    -- Not is_between(c0, 3, 5)
    ∷ reading false (column 0 ++ literal 3 ++ literal 5 ++ between 0 0 1 2 ++ negation 3) [] 5 4 (Opaque 4 ∷ [])
    -- Not (c0 Eq 3)
    ∷ reading true (column 0 ++ literal 3 ++ binary 0 0 1 ++ negation 2) [] 4 3
    (Normalized 0 (Exclude 3 ∷ []) ∷ [])
    -- Not (c0 EqValidity 3)
    ∷ reading false (column 0 ++ literal 3 ++ binary 1 0 1 ++ negation 2) [] 4 3
    (Recorded false 3 0 [] ∷ [])
    -- Not (c0 NotEq 3)
    ∷ reading true (column 0 ++ literal 3 ++ binary 2 0 1 ++ negation 2) [] 4 3
    (Normalized 0 (Lower true 3 ∷ Upper true 3 ∷ []) ∷ [])
    -- Not (c0 NotEqValidity 3)
    ∷ reading false (column 0 ++ literal 3 ++ binary 3 0 1 ++ negation 2) [] 4 3
    (Recorded false 3 0 [] ∷ [])
    -- Not (c0 Lt 3)
    ∷ reading true (column 0 ++ literal 3 ++ binary 4 0 1 ++ negation 2) [] 4 3
    (Normalized 0 (Lower true 3 ∷ []) ∷ [])
    -- Not (c0 LtEq 3)
    ∷ reading true (column 0 ++ literal 3 ++ binary 5 0 1 ++ negation 2) [] 4 3
    (Normalized 0 (Lower false 3 ∷ []) ∷ [])
    -- Not (c0 Gt 3)
    ∷ reading true (column 0 ++ literal 3 ++ binary 6 0 1 ++ negation 2) [] 4 3
    (Normalized 0 (Upper true 3 ∷ []) ∷ [])
    -- Not (c0 GtEq 3)
    ∷ reading true (column 0 ++ literal 3 ++ binary 7 0 1 ++ negation 2) [] 4 3
    (Normalized 0 (Upper false 3 ∷ []) ∷ [])
    -- Not (c0 Plus 3)
    ∷ reading false (column 0 ++ literal 3 ++ binary 8 0 1 ++ negation 2) [] 4 3
    (Opaque 3 ∷ [])
    -- Not (c0 And 3)
    ∷ reading false (column 0 ++ literal 3 ++ binary 15 0 1 ++ negation 2) [] 4 3
    (Opaque 3 ∷ [])
    -- Not (c0 Or 3)
    ∷ reading false (column 0 ++ literal 3 ++ binary 16 0 1 ++ negation 2) [] 4 3
    (Opaque 3 ∷ [])
    -- Not (c0 Xor 3)
    ∷ reading false (column 0 ++ literal 3 ++ binary 17 0 1 ++ negation 2) [] 4 3
    (Opaque 3 ∷ [])
    -- Not (c0 LogicalAnd 3)
    ∷ reading false (column 0 ++ literal 3 ++ binary 18 0 1 ++ negation 2) [] 4 3
    (Opaque 3 ∷ [])
    -- Not (c0 LogicalOr 3)
    ∷ reading false (column 0 ++ literal 3 ++ binary 19 0 1 ++ negation 2) [] 4 3
    (Opaque 3 ∷ [])
    -- Not (3 Eq c0)
    ∷ reading true (column 0 ++ literal 3 ++ binary 0 1 0 ++ negation 2) [] 4 3
    (Normalized 0 (Exclude 3 ∷ []) ∷ [])
    -- Not (3 EqValidity c0)
    ∷ reading false (column 0 ++ literal 3 ++ binary 1 1 0 ++ negation 2) [] 4 3
    (Recorded false 3 0 [] ∷ [])
    -- Not (3 NotEq c0)
    ∷ reading true (column 0 ++ literal 3 ++ binary 2 1 0 ++ negation 2) [] 4 3
    (Normalized 0 (Lower true 3 ∷ Upper true 3 ∷ []) ∷ [])
    -- Not (3 NotEqValidity c0)
    ∷ reading false (column 0 ++ literal 3 ++ binary 3 1 0 ++ negation 2) [] 4 3
    (Recorded false 3 0 [] ∷ [])
    -- Not (3 Lt c0)
    ∷ reading true (column 0 ++ literal 3 ++ binary 4 1 0 ++ negation 2) [] 4 3
    (Normalized 0 (Upper true 3 ∷ []) ∷ [])
    -- Not (3 LtEq c0)
    ∷ reading true (column 0 ++ literal 3 ++ binary 5 1 0 ++ negation 2) [] 4 3
    (Normalized 0 (Upper false 3 ∷ []) ∷ [])
    -- Not (3 Gt c0)
    ∷ reading true (column 0 ++ literal 3 ++ binary 6 1 0 ++ negation 2) [] 4 3
    (Normalized 0 (Lower true 3 ∷ []) ∷ [])
    -- Not (3 GtEq c0)
    ∷ reading true (column 0 ++ literal 3 ++ binary 7 1 0 ++ negation 2) [] 4 3
    (Normalized 0 (Lower false 3 ∷ []) ∷ [])
    -- Not (c0 Eq c1)
    ∷ reading false (column 0 ++ column 1 ++ binary 0 0 1 ++ negation 2) [] 4 3 (NonNullPair 3 0 1 ∷ [])
    -- Not (c0 EqValidity c1)
    ∷ reading false (column 0 ++ column 1 ++ binary 1 0 1 ++ negation 2) [] 4 3 (Opaque 3 ∷ [])
    -- Not (c0 NotEq c1)
    ∷ reading false (column 0 ++ column 1 ++ binary 2 0 1 ++ negation 2) [] 4 3 (Equality 0 1 3 ∷ [])
    -- Not (c0 NotEqValidity c1)
    ∷ reading false (column 0 ++ column 1 ++ binary 3 0 1 ++ negation 2) [] 4 3 (Opaque 3 ∷ [])
    -- Not (c0 Lt c1)
    ∷ reading false (column 0 ++ column 1 ++ binary 4 0 1 ++ negation 2) [] 4 3 (NonNullPair 3 0 1 ∷ [])
    -- Not (c0 LtEq c1)
    ∷ reading false (column 0 ++ column 1 ++ binary 5 0 1 ++ negation 2) [] 4 3 (NonNullPair 3 0 1 ∷ [])
    -- Not (c0 Gt c1)
    ∷ reading false (column 0 ++ column 1 ++ binary 6 0 1 ++ negation 2) [] 4 3 (NonNullPair 3 0 1 ∷ [])
    -- Not (c0 GtEq c1)
    ∷ reading false (column 0 ++ column 1 ++ binary 7 0 1 ++ negation 2) [] 4 3 (NonNullPair 3 0 1 ∷ [])
    -- Not (c0 And c1)
    ∷ reading false (column 0 ++ column 1 ++ binary 15 0 1 ++ negation 2) [] 4 3 (Opaque 3 ∷ [])
    -- Not (c0 Or c1)
    ∷ reading false (column 0 ++ column 1 ++ binary 16 0 1 ++ negation 2) [] 4 3 (Opaque 3 ∷ [])
    -- Not (c0 Xor c1)
    ∷ reading false (column 0 ++ column 1 ++ binary 17 0 1 ++ negation 2) [] 4 3 (Opaque 3 ∷ [])
    -- Not (c0 LogicalAnd c1)
    ∷ reading false (column 0 ++ column 1 ++ binary 18 0 1 ++ negation 2) [] 4 3 (Opaque 3 ∷ [])
    -- Not (c0 LogicalOr c1)
    ∷ reading false (column 0 ++ column 1 ++ binary 19 0 1 ++ negation 2) [] 4 3 (Opaque 3 ∷ [])
    -- Not (c0 Lt null), Not (3 Eq 3), Not Not (c0 Lt 3)
    ∷ reading false (column 0 ++ null ++ binary 4 0 1 ++ negation 2) [] 4 3 (Opaque 3 ∷ [])
    ∷ reading false (literal 3 ++ binary 0 0 0 ++ negation 1) [] 3 2 (Opaque 2 ∷ [])
    ∷ reading false (column 0 ++ literal 3 ++ binary 4 0 1 ++ negation 2 ++ negation 3) [] 5 4 (Opaque 4 ∷ [])
    -- (c0 And c1) LogicalAnd (c1 And c0): left to right
    ∷ reading false (column 0 ++ column 1 ++ binary 15 0 1 ++ binary 15 1 0 ++ binary 18 2 3) [] 5 4
    (Opaque 0 ∷ Opaque 1 ∷ Opaque 1 ∷ Opaque 0 ∷ [])
    -- c0 Or (c0 And c1): Or is no chain
    ∷ reading false (column 0 ++ column 1 ++ binary 15 0 1 ++ binary 16 0 2) [] 4 3 (Opaque 3 ∷ [])
    -- the second column
    ∷ reading true (column 1 ++ literal 3 ++ binary 6 0 1) [] 3 2 (Bounds 1 (Lower false 3 ∷ []) ∷ [])
    -- a value of more than 32 bits
    ∷ reading true (column 0 ++ literal 4294967299 ++ binary 6 0 1) [] 3 2
    (Bounds 0 (Lower false 4294967299 ∷ []) ∷ [])
    ∷ []

abbrev read : Reading → List (Conjunct ℕ)
read r = read_conjuncts (aexpr_at r.records r.pool r.used) r.root

abbrev due : Reading → List (Conjunct ℕ)
due r = r.expected

pub readings : map read table ≡ map due table
unfolding word value_at up_to course operator_at fields_at closed_at decode record_at values_from aexpr_of aexpr_at
readings = refl

-- Which of these screens are plain, where c0 and c1 are Int and Day; with a Truth column none is that reads it.
abbrev is_plain : Reading → Bool
is_plain r = plain_screen (1 ∷ 2 ∷ []) (aexpr_at r.records r.pool r.used) r.root

abbrev due_plain : Reading → Bool
due_plain r = r.is_plain

pub plain-ones : map is_plain table ≡ map due_plain table
unfolding word value_at all up_to course operator_at fields_at closed_at decode record_at values_from aexpr_of aexpr_at
plain-ones = refl

reads-truth : plain_screen (3 ∷ 1 ∷ []) (aexpr_at (column 0 ++ literal 1 ++ binary 0 0 1) [] 3) 2 ≡ false
unfolding word value_at all up_to course operator_at fields_at closed_at decode record_at values_from aexpr_of aexpr_at
reads-truth = refl

-- A Truth column that the root does not read does not matter.
reads-no_truth : plain_screen (3 ∷ 1 ∷ []) (aexpr_at (column 1 ++ literal 1 ++ binary 0 0 1 ++ column 0) [] 4) 2 ≡ true
unfolding word value_at all up_to course operator_at fields_at closed_at decode record_at values_from aexpr_of aexpr_at
reads-no_truth = refl

-- The rules of document 01's row test as rows of one table: each kind of record, each operator and code, from bytes to
-- the answer. One proof shows that the definitions yield them all.
-- Assumes nothing.
use mathlib.Core.Path.{◌≡◌, refl}
use mathlib.Core.List.{List, [], ◌∷◌, ◌++◌}
use Prim.Native.Nat.{ℕ, ◌-◌}
use Rattle.records.specs.Bytes.{word, value_at, all, first}
use Rattle.records.specs.Course.{up_to, course}
use Rattle.records.specs.Operator.{operator_at}
use Rattle.records.specs.Record.{fields_at, closed_at, decode, record_at}
use Rattle.records.specs.Shape.{known_type_in, in_type_in, max_code, uses, known_ok_in, zero_or, unused_ok}
use Rattle.records.specs.Shape.{literal_ok_in}
use Rattle.records.specs.Shape.{shape_ok_in}
use Rattle.record_check.specs.Fit.{all_fit_in, list_ok_in, reach_ok_in, served_ok, type_of, type_at, same_type, binary_fits, between_fits}
use Rattle.record_check.specs.Fit.{member_fits, types_ok}
use Rattle.checking.specs.Check.{types_known_in, table_ok_in, sizes_ok_in, meaning_fault_in, record_fault_in, first_fault_in, records_answer_in}
use Rattle.checking.specs.Check.{check_answer_in}
use Rattle.three_valued.specs.declared.logic.Truth.TheVariants.{False, Unknown, True}
use Rattle.row_test.specs.Answer.{RowAnswer}
use Rattle.row_test.specs.Answer.{Refused, Tested}
use Rattle.truth.specs.FromBytes.{values_from, aexpr_of, aexpr_at, row_keys}
use Rattle.row_test.specs.RowTest.{column_ok, columns_ok, row_fault, checked_answer, test_row_answer}

-- a record of sixteen bytes, its fields below 256; a value of eight bytes
abbrev entry : ℕ → ℕ → ℕ → ℕ → ℕ → ℕ → List ℕ
entry kind code ty a b c = kind ∷ code ∷ ty ∷ 0 ∷ a ∷ 0 ∷ 0 ∷ 0 ∷ b ∷ 0 ∷ 0 ∷ 0 ∷ c ∷ 0 ∷ 0 ∷ 0 ∷ []

abbrev int : ℕ → List ℕ
int v = v ∷ 0 ∷ 0 ∷ 0 ∷ 0 ∷ 0 ∷ 0 ∷ 0 ∷ []

abbrev minus : ℕ → List ℕ
minus v = (256 - v) ∷ 255 ∷ 255 ∷ 255 ∷ 255 ∷ 255 ∷ 255 ∷ 255 ∷ []

-- column 0 and column 1 under an operator: two Ints, two Truths
abbrev two : ℕ → ℕ → List ℕ → List ℕ → ℕ → RowAnswer
two ty o x y nulls =
    test_row_answer (ty ∷ ty ∷ []) (entry 1 0 0 0 0 0 ++ (entry 1 0 0 1 0 0 ++ entry 4 o 0 0 1 0)) [] 3 2 (x ++ y) nulls

abbrev compare : ℕ → List ℕ → List ℕ → ℕ → RowAnswer
compare = two 1

abbrev logic : ℕ → List ℕ → List ℕ → ℕ → RowAnswer
logic = two 3

-- a kind of one input above column 0 of a type
abbrev one : ℕ → ℕ → List ℕ → ℕ → RowAnswer
one ty kind x nulls = test_row_answer (ty ∷ []) (entry 1 0 0 0 0 0 ++ entry kind 0 0 0 0 0) [] 2 1 x nulls

-- is_null of (c0 == c1) at a null; (c0 == c1) < true, where it is false
abbrev unknown_is_null : RowAnswer
unknown_is_null =
    test_row_answer (1 ∷ 1 ∷ []) (entry 1 0 0 0 0 0 ++ (entry 1 0 0 1 0 0 ++ (entry 4 0 0 0 1 0 ++ entry 6 0 0 2 0 0)))
    [] 4 3
    (int 0 ++ int 4) 1

abbrev false-below_true : RowAnswer
false-below_true =
    test_row_answer (1 ∷ 1 ∷ [])
    (entry 1 0 0 0 0 0 ++ (entry 1 0 0 1 0 0 ++ (entry 4 0 0 0 1 0 ++ (entry 2 0 3 0 1 0 ++ entry 4 4 0 2 3 0)))) [] 5 4
    (int 3 ++ int 4) 0

-- Not of a comparison of column 0 and column 1
abbrev negated : ℕ → List ℕ → List ℕ → ℕ → RowAnswer
negated o x y nulls =
    test_row_answer (1 ∷ 1 ∷ [])
    (entry 1 0 0 0 0 0 ++ (entry 1 0 0 1 0 0 ++ (entry 4 o 0 0 1 0 ++ entry 5 0 0 2 0 0))) [] 4 3 (x ++ y) nulls

-- is_between of column 0 and the literals 1 and 5; with a null for the high end and 7 for the low one
abbrev between : ℕ → List ℕ → ℕ → RowAnswer
between code x nulls =
    test_row_answer (1 ∷ [])
    (entry 1 0 0 0 0 0 ++ (entry 2 0 1 0 1 0 ++ (entry 2 0 1 0 5 0 ++ entry 8 code 0 0 1 2))) [] 4 3 x nulls

abbrev between-null : RowAnswer
between-null =
    test_row_answer (1 ∷ []) (entry 1 0 0 0 0 0 ++ (entry 2 0 1 0 7 0 ++ (entry 3 0 1 0 0 0 ++ entry 8 0 0 0 1 2))) [] 4 3
    (int 3) 0

-- is_in of column 0 and the first values of 1, 2: nulls_equal, whether the list holds a null, its count
abbrev member : ℕ → ℕ → ℕ → List ℕ → ℕ → RowAnswer
member equal holds count x nulls =
    test_row_answer (1 ∷ []) (entry 1 0 0 0 0 0 ++ (entry 9 holds 1 0 count 0 ++ entry 10 equal 0 0 1 0))
    (int 1 ++ int 2) 3 2
    x nulls

-- column 0 divided by column 1, by FloorDivide or Modulus, equals column 2
abbrev lots : ℕ → List ℕ → List ℕ → List ℕ → ℕ → RowAnswer
lots o x y z nulls =
    test_row_answer (1 ∷ 1 ∷ 1 ∷ [])
    (entry 1 0 0 0 0 0 ++ (entry 1 0 0 1 0 0 ++ (entry 1 0 0 2 0 0 ++ (entry 4 o 0 0 1 0 ++ entry 4 0 0 3 2 0)))) [] 5 4
    (x ++ (y ++ z)) nulls

-- -2^63
abbrev lowest : List ℕ
lowest = 0 ∷ 0 ∷ 0 ∷ 0 ∷ 0 ∷ 0 ∷ 0 ∷ 128 ∷ []

-- a record alone, beside a Truth column
abbrev alone : List ℕ → ℕ → RowAnswer
alone r nulls = test_row_answer (3 ∷ []) r [] 1 0 (int 0) nulls

record Case : Type 0 where
  asked : RowAnswer
  told : RowAnswer

abbrev is : RowAnswer → RowAnswer → Case
is x y = record { asked = x; told = y }

abbrev asked_of : List Case → List RowAnswer
asked_of [] = []
asked_of (c ∷ l) = c.asked ∷ asked_of l

abbrev told_of : List Case → List RowAnswer
told_of [] = []
told_of (c ∷ l) = c.told ∷ told_of l

abbrev cases : List Case
cases =
    -- Eq: 3 and 5, 5 and 5, a null and 5
    is (compare 0 (int 3) (int 5) 0) (Tested False)
    ∷ is (compare 0 (int 5) (int 5) 0) (Tested True)
    ∷ is (compare 0 (int 0) (int 5) 1) (Tested Unknown)
    -- EqValidity: 3 and 5, 5 and 5, a null and 5
    ∷ is (compare 1 (int 3) (int 5) 0) (Tested False)
    ∷ is (compare 1 (int 5) (int 5) 0) (Tested True)
    ∷ is (compare 1 (int 0) (int 5) 1) (Tested False)
    -- NotEq: 3 and 5, 5 and 5, a null and 5
    ∷ is (compare 2 (int 3) (int 5) 0) (Tested True)
    ∷ is (compare 2 (int 5) (int 5) 0) (Tested False)
    ∷ is (compare 2 (int 0) (int 5) 1) (Tested Unknown)
    -- NotEqValidity: 3 and 5, 5 and 5, a null and 5
    ∷ is (compare 3 (int 3) (int 5) 0) (Tested True)
    ∷ is (compare 3 (int 5) (int 5) 0) (Tested False)
    ∷ is (compare 3 (int 0) (int 5) 1) (Tested True)
    -- Lt: 3 and 5, 5 and 5, a null and 5
    ∷ is (compare 4 (int 3) (int 5) 0) (Tested True)
    ∷ is (compare 4 (int 5) (int 5) 0) (Tested False)
    ∷ is (compare 4 (int 0) (int 5) 1) (Tested Unknown)
    -- LtEq: 3 and 5, 5 and 5, a null and 5
    ∷ is (compare 5 (int 3) (int 5) 0) (Tested True)
    ∷ is (compare 5 (int 5) (int 5) 0) (Tested True)
    ∷ is (compare 5 (int 0) (int 5) 1) (Tested Unknown)
    -- Gt: 3 and 5, 5 and 5, a null and 5
    ∷ is (compare 6 (int 3) (int 5) 0) (Tested False)
    ∷ is (compare 6 (int 5) (int 5) 0) (Tested False)
    ∷ is (compare 6 (int 0) (int 5) 1) (Tested Unknown)
    -- GtEq: 3 and 5, 5 and 5, a null and 5
    ∷ is (compare 7 (int 3) (int 5) 0) (Tested False)
    ∷ is (compare 7 (int 5) (int 5) 0) (Tested True)
    ∷ is (compare 7 (int 0) (int 5) 1) (Tested Unknown)
    -- EqValidity and NotEqValidity take two nulls as one value; no other comparison does
    ∷ is (compare 1 (int 0) (int 0) 3) (Tested True)
    ∷ is (compare 3 (int 0) (int 0) 3) (Tested False)
    ∷ is (compare 0 (int 0) (int 0) 3) (Tested Unknown)
    -- values are signed
    ∷ is (compare 4 (minus 1) (int 0) 0) (Tested True)
    ∷ is (compare 6 (minus 1) (int 0) 0) (Tested False)
    -- And: false and unknown, true and unknown, true and false, true and true
    ∷ is (logic 15 (int 0) (int 0) 2) (Tested False)
    ∷ is (logic 15 (int 1) (int 0) 2) (Tested Unknown)
    ∷ is (logic 15 (int 1) (int 0) 0) (Tested False)
    ∷ is (logic 15 (int 1) (int 1) 0) (Tested True)
    -- Or: false and unknown, true and unknown, true and false, true and true
    ∷ is (logic 16 (int 0) (int 0) 2) (Tested Unknown)
    ∷ is (logic 16 (int 1) (int 0) 2) (Tested True)
    ∷ is (logic 16 (int 1) (int 0) 0) (Tested True)
    ∷ is (logic 16 (int 1) (int 1) 0) (Tested True)
    -- Xor: false and unknown, true and unknown, true and false, true and true
    ∷ is (logic 17 (int 0) (int 0) 2) (Tested Unknown)
    ∷ is (logic 17 (int 1) (int 0) 2) (Tested Unknown)
    ∷ is (logic 17 (int 1) (int 0) 0) (Tested True)
    ∷ is (logic 17 (int 1) (int 1) 0) (Tested False)
    -- LogicalAnd: false and unknown, true and unknown, true and false, true and true
    ∷ is (logic 18 (int 0) (int 0) 2) (Tested False)
    ∷ is (logic 18 (int 1) (int 0) 2) (Tested Unknown)
    ∷ is (logic 18 (int 1) (int 0) 0) (Tested False)
    ∷ is (logic 18 (int 1) (int 1) 0) (Tested True)
    -- LogicalOr: false and unknown, true and unknown, true and false, true and true
    ∷ is (logic 19 (int 0) (int 0) 2) (Tested Unknown)
    ∷ is (logic 19 (int 1) (int 0) 2) (Tested True)
    ∷ is (logic 19 (int 1) (int 0) 0) (Tested True)
    ∷ is (logic 19 (int 1) (int 1) 0) (Tested True)
    -- Not of false, true, unknown
    ∷ is (one 3 5 (int 0) 0) (Tested True)
    ∷ is (one 3 5 (int 1) 0) (Tested False)
    ∷ is (one 3 5 (int 0) 1) (Tested Unknown)
    -- is_null and is_not_null of a value and of null
    ∷ is (one 1 6 (int 7) 0) (Tested False)
    ∷ is (one 1 6 (int 0) 1) (Tested True)
    ∷ is (one 1 7 (int 7) 0) (Tested True)
    ∷ is (one 1 7 (int 0) 1) (Tested False)
    -- an unknown comparison is null as a value
    ∷ is (unknown_is_null) (Tested True)
    -- false is below true
    ∷ is (false-below_true) (Tested True)
    -- is_between 1 and 5, code 0, of 1 and of 5
    ∷ is (between 0 (int 1) 0) (Tested True)
    ∷ is (between 0 (int 5) 0) (Tested True)
    -- is_between 1 and 5, code 1, of 1 and of 5
    ∷ is (between 1 (int 1) 0) (Tested True)
    ∷ is (between 1 (int 5) 0) (Tested False)
    -- is_between 1 and 5, code 2, of 1 and of 5
    ∷ is (between 2 (int 1) 0) (Tested False)
    ∷ is (between 2 (int 5) 0) (Tested True)
    -- is_between 1 and 5, code 3, of 1 and of 5
    ∷ is (between 3 (int 1) 0) (Tested False)
    ∷ is (between 3 (int 5) 0) (Tested False)
    -- inside; null
    ∷ is (between 0 (int 3) 0) (Tested True)
    ∷ is (between 3 (int 3) 0) (Tested True)
    ∷ is (between 0 (int 0) 1) (Tested Unknown)
    -- false with one bound null
    ∷ is (between-null) (Tested False)
    -- nothing is in the empty list, a null neither
    ∷ is (member 0 0 0 (int 0) 1) (Tested False)
    ∷ is (member 0 0 0 (int 1) 0) (Tested False)
    ∷ is (member 1 0 0 (int 0) 1) (Tested False)
    -- a list whose only entry is null is not empty: a value, a null; with nulls_equal only a null is found
    ∷ is (member 0 1 0 (int 1) 0) (Tested Unknown)
    ∷ is (member 0 1 0 (int 0) 1) (Tested Unknown)
    ∷ is (member 1 1 0 (int 1) 0) (Tested False)
    ∷ is (member 1 1 0 (int 0) 1) (Tested True)
    -- found; not found; found and not found in a list that holds a null, and with nulls_equal
    ∷ is (member 0 0 2 (int 2) 0) (Tested True)
    ∷ is (member 0 0 2 (int 9) 0) (Tested False)
    ∷ is (member 0 1 2 (int 2) 0) (Tested True)
    ∷ is (member 0 1 2 (int 9) 0) (Tested Unknown)
    ∷ is (member 1 1 2 (int 2) 0) (Tested True)
    ∷ is (member 1 1 2 (int 9) 0) (Tested False)
    -- a null value: unknown, or with nulls_equal whether the list holds a null
    ∷ is (member 0 0 2 (int 0) 1) (Tested Unknown)
    ∷ is (member 0 1 2 (int 0) 1) (Tested Unknown)
    ∷ is (member 1 0 2 (int 0) 1) (Tested False)
    ∷ is (member 1 1 2 (int 0) 1) (Tested True)
    -- Not of Lt: 3 and 5, 5 and 5, a null and 5; Not of EqValidity at two nulls
    ∷ is (negated 4 (int 3) (int 5) 0) (Tested False)
    ∷ is (negated 4 (int 5) (int 5) 0) (Tested True)
    ∷ is (negated 4 (int 0) (int 5) 1) (Tested Unknown)
    ∷ is (negated 1 (int 0) (int 0) 3) (Tested False)
    -- 7 and -7 by 2 and -2: the quotient is rounded down, the remainder has the divisor's sign
    ∷ is (lots 13 (int 7) (int 2) (int 3) 0) (Tested True)
    ∷ is (lots 13 (minus 7) (int 2) (minus 4) 0) (Tested True)
    ∷ is (lots 13 (int 7) (minus 2) (minus 4) 0) (Tested True)
    ∷ is (lots 13 (minus 7) (minus 2) (int 3) 0) (Tested True)
    ∷ is (lots 14 (int 7) (int 2) (int 1) 0) (Tested True)
    ∷ is (lots 14 (minus 7) (int 2) (int 1) 0) (Tested True)
    ∷ is (lots 14 (int 7) (minus 2) (minus 1) 0) (Tested True)
    ∷ is (lots 14 (minus 7) (minus 2) (minus 1) 0) (Tested True)
    -- null for a zero divisor, a null, and a quotient of 2^63
    ∷ is (lots 13 (int 7) (int 0) (int 0) 0) (Tested Unknown)
    ∷ is (lots 14 (int 7) (int 0) (int 7) 0) (Tested Unknown)
    ∷ is (lots 13 (int 0) (int 2) (int 0) 1) (Tested Unknown)
    ∷ is (lots 14 (int 7) (int 0) (int 7) 2) (Tested Unknown)
    ∷ is (lots 13 lowest (minus 1) lowest 0) (Tested Unknown)
    ∷ is (lots 14 lowest (minus 1) (int 0) 0) (Tested Unknown)
    ∷ is (lots 13 lowest (int 1) lowest 0) (Tested True)
    ∷ is (lots 14 lowest (int 10) (int 2) 0) (Tested True)
    -- a literal, a null and a column as the root
    ∷ is (alone (entry 2 0 3 0 1 0) 0) (Tested True)
    ∷ is (alone (entry 2 0 3 0 0 0) 0) (Tested False)
    ∷ is (alone (entry 3 0 3 0 0 0) 0) (Tested Unknown)
    ∷ is (alone (entry 1 0 0 0 0 0) 1) (Tested Unknown)
    -- refusals: checking, the length, the marks, the values; a null column holds zero
    ∷ is (test_row_answer (3 ∷ []) (entry 1 0 0 0 0 0) [] 1 1 (int 1) 0) (Refused 3)
    ∷ is (test_row_answer (3 ∷ []) (entry 1 0 0 0 0 0) [] 1 0 [] 0) (Refused 12)
    ∷ is (test_row_answer (3 ∷ []) (entry 1 0 0 0 0 0) [] 1 0 (int 1 ++ int 1) 0) (Refused 12)
    ∷ is (test_row_answer (3 ∷ []) (entry 1 0 0 0 0 0) [] 1 0 (int 1) 2) (Refused 13)
    ∷ is (test_row_answer (3 ∷ []) (entry 1 0 0 0 0 0) [] 1 0 (int 2) 0) (Refused 13)
    ∷ is (test_row_answer (3 ∷ []) (entry 1 0 0 0 0 0) [] 1 0 (int 1) 1) (Refused 13)
    ∷ []

all_hold : asked_of cases ≡ told_of cases
unfolding word value_at all first up_to course operator_at fields_at closed_at decode record_at known_type_in
    in_type_in max_code uses known_ok_in zero_or unused_ok literal_ok_in shape_ok_in all_fit_in list_ok_in reach_ok_in
    served_ok type_of type_at same_type binary_fits between_fits member_fits types_ok types_known_in table_ok_in sizes_ok_in
    meaning_fault_in record_fault_in first_fault_in records_answer_in check_answer_in values_from aexpr_of aexpr_at row_keys column_ok
    columns_ok row_fault checked_answer test_row_answer
all_hold = refl

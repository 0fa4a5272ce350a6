-- Screens and their answers, computed by the definitions: 01's limits and refusals, one row a screen.
use Prim.Native.Nat.{ℕ}
use mathlib.Core.Path.{◌≡◌, refl}
use mathlib.Core.List.{List, [], ◌∷◌, ◌++◌}
use mathlib.Core.Bool.{Bool, true, ◌&&◌}
use lib.Dec.{eqb}
use Rattle.records.specs.Bytes.{word, value_at, all, first}
use Rattle.records.specs.Course.{up_to, course}
use Rattle.records.specs.Operator.{operator_at}
use Rattle.records.specs.Record.{fields_at, closed_at, decode, record_at}
use Rattle.records.specs.Shape.{known_type_in, in_type_in, max_code, uses, known_ok_in, zero_or, unused_ok, literal_ok_in, shape_ok_in}
use Rattle.record_check.specs.Fit.{all_fit_in, list_ok_in, reach_ok_in, served_ok, type_of, type_at, same_type, binary_fits, between_fits, member_fits, types_ok}
use Rattle.checking.specs.Check.{types_known_in, table_ok_in, sizes_ok_in, meaning_fault_in, record_fault_in, first_fault_in, records_answer_in, check_answer_in, check_answer}
use Rattle.checking.specs.Tree.{tree_count}
use Rattle.checking.specs.Columns.{columns_word}
use Rattle.checking.specs.Answer.{CheckAnswer}
use Rattle.checking.specs.Answer as check

-- a record whose fields A, B, C are below 256
rec : ℕ → ℕ → ℕ → ℕ → ℕ → ℕ → List ℕ
rec kind code ty a b c =
    kind ∷ code ∷ ty ∷ 0 ∷ a ∷ 0 ∷ 0 ∷ 0 ∷ b ∷ 0 ∷ 0 ∷ 0 ∷ c ∷ 0 ∷ 0 ∷ 0 ∷ []

-- c0; 3; c0 op 3, and with a second line And c1 op' 5
line : ℕ → List ℕ
line op = rec 1 0 0 0 0 0 ++ (rec 2 0 1 0 3 0 ++ rec 4 op 0 0 1 0)

two : List ℕ
two = line 6 ++ (rec 1 0 0 1 0 0 ++ (rec 2 0 1 0 5 0 ++ (rec 4 4 0 3 4 0 ++ rec 4 15 0 2 5 0)))

one : List ℕ
one = 1 ∷ 0 ∷ 0 ∷ 0 ∷ 0 ∷ 0 ∷ 0 ∷ 0 ∷ []

record Case : Type 0 where
  table : List ℕ
  records : List ℕ
  pool : List ℕ
  used : ℕ
  root : ℕ
  -- 256 accepted
  answer : ℕ
  -- records in the root's tree, and the word of the columns it reaches
  tree : ℕ
  columns : ℕ

number : CheckAnswer → ℕ
number (check.Refused k) = k
number check.Accepted = 256

row : List ℕ → List ℕ → List ℕ → ℕ → ℕ → ℕ → ℕ → ℕ → Case
row t rs p used root answer tree columns =
    record {
      table = t;
      records = rs;
      pool = p;
      used = used;
      root = root;
      answer = answer;
      tree = tree;
      columns = columns;
    }

int : List ℕ
int = 1 ∷ []

cases : List Case
cases =
    -- c0 > 3, and the same with a root equal to used, without a table, with an unknown type
    row int (line 6) [] 3 2 256 3 1
    ∷ row int (line 6) [] 3 3 3 1 0
    ∷ row [] (line 6) [] 3 2 5 3 1
    ∷ row (4 ∷ []) (line 6) [] 3 2 1 3 1
    -- more used than lent, half a value in the pool
    ∷ row int (line 6) [] 4 2 2 3 1
    ∷ row int (line 6) (0 ∷ []) 3 2 2 3 1
    -- an arithmetic operator, an unknown one, a Day compared with an Int, logic on an Int
    ∷ row int (line 8) [] 3 2 6 3 1
    ∷ row int (line 20) [] 3 2 4 3 1
    ∷ row (2 ∷ []) (line 6) [] 3 2 7 3 1
    ∷ row int (line 15) [] 3 2 7 3 1
    -- a division gives an Int: c0 // 3 >= 3; as the root; of a Day; under Not
    ∷ row int (line 13 ++ rec 4 7 0 2 1 0) [] 4 3 256 5 1
    ∷ row int (line 14 ++ rec 4 7 0 2 1 0) [] 4 3 256 5 1
    ∷ row int (line 13) [] 3 2 7 3 1
    ∷ row (2 ∷ []) (line 14) [] 3 2 7 3 1
    ∷ row int (line 13 ++ rec 5 0 0 2 0 0) [] 4 3 7 4 1
    ∷ row int (line 12) [] 3 2 6 3 1
    -- Not of a comparison; an input that is not below its record; a root that is no Truth
    ∷ row int (line 6 ++ rec 5 0 0 2 0 0) [] 4 3 256 4 1
    ∷ row int (rec 5 0 0 0 0 0) [] 1 0 5 1 0
    ∷ row int (line 6) [] 3 1 7 1 0
    -- c0 in [1]; its list past the pool; the list as the root
    ∷ row int (rec 1 0 0 0 0 0 ++ (rec 9 0 1 0 1 0 ++ rec 10 0 0 0 1 0)) one 3 2 256 3 1
    ∷ row int (rec 1 0 0 0 0 0 ++ (rec 9 0 1 0 2 0 ++ rec 10 0 0 0 1 0)) one 3 2 5 3 1
    ∷ row int (rec 1 0 0 0 0 0 ++ (rec 9 0 1 0 1 0 ++ rec 10 0 0 0 1 0)) one 3 1 7 1 0
    -- two columns; a record shared counts each time reached
    ∷ row (1 ∷ 1 ∷ []) two [] 7 6 256 7 3
    ∷ row int (rec 3 0 3 0 0 0 ++ (rec 4 15 0 0 0 0 ++ rec 4 16 0 1 1 0)) [] 3 2 256 7 0
    ∷ []

holds : List Case → Bool
holds [] = true
holds (c ∷ cs) =
    eqb (number (check_answer c.table c.records c.pool c.used c.root)) c.answer
    && (eqb (tree_count c.records c.root) c.tree
    && (eqb (columns_word c.records c.root) c.columns && holds cs))

all_hold : holds cases ≡ true
unfolding holds cases row rec line two one int number word value_at all first up_to course operator_at fields_at closed_at decode record_at known_type_in in_type_in max_code uses known_ok_in zero_or unused_ok literal_ok_in shape_ok_in all_fit_in list_ok_in reach_ok_in served_ok type_of type_at same_type binary_fits between_fits member_fits types_ok types_known_in table_ok_in sizes_ok_in meaning_fault_in record_fault_in first_fault_in records_answer_in check_answer_in
all_hold = refl

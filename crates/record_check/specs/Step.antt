-- One record's answer in one pass, kind by kind, from the entries and tree counts of the records below it.
-- An entry says what later records ask of a record: 1 Int, 2 Day, 3 Truth, 4 Text, 8 ty a list of ty. So an entry's remainder
-- by 8 is `type_of`, 0 for a list. (`Entry` ties it to the definitions of Fit.)
use Rattle.std.specs.Prelude.{ℕ, ◌+◌, ◌*◌, ◌%◌, ◌<◌, List, Bool, true, cond, not, ◌&&◌, ◌≡◌, length, get_or, ltb, leb, eqb}
use Rattle.records.specs.Record.{node, record_at}
use Rattle.records.specs.Shape.{known_type_in, in_type_in}
use Rattle.record_check.specs.Fit.{list_ok_in, type_of, between_fits, member_fits}
use Rattle.records.specs.declared.record.Fields.{Fields}
use Rattle.records.specs.declared.record.Record.{Record}
use Rattle.record_check.specs.declared.step.Step.{Step}

-- what the table says of a record
pub record Entry (t : List ℕ) (r : Record) (e : ℕ) : Type 0 where
  pub value : type_of t r ≡ e % 8
  pub member : (x : ℕ) → member_fits x r ≡ (ltb 0 x && eqb e (8 * x))

-- a table with the entries of the records below n
unfoldable pub Entered : List ℕ → List ℕ → List ℕ → ℕ → Type 0
Entered t rs types n = (a : ℕ) → a < n → Entry t (record_at rs (node a)) (get_or types a 0)

unfoldable pub bad : ℕ → Step
bad k = record { fault = k; entry = 0; tree = 0 }

unfoldable pub good : ℕ → ℕ → Step
good e tree = record { fault = 0; entry = e; tree = tree }

-- 4, 5, 6, 7 in their order, else the entry and the tree count
abbrev pub judged : Bool → Bool → Bool → Bool → ℕ → ℕ → Step
judged shape reach served types e tree =
    cond shape (cond reach (cond served (cond types (good e tree) (bad 7)) (bad 6)) (bad 5)) (bad 4)

-- number 4 kind by kind: what `shape_ok` leaves of the tests where byte 3 is zero and the kind is known. Only A is used:
abbrev pub only_a : Fields → Bool
only_a f = (eqb f.code 0 && eqb f.ty 0) && (eqb f.b 0 && eqb f.c 0)

abbrev pub literal_shape : ℕ → Fields → Bool
literal_shape text f =
    (eqb f.code 0 && known_type_in text f.ty) && (eqb f.a 0 && in_type_in text f.ty (f.b + 4294967296 * f.c))

abbrev pub null_shape : ℕ → Fields → Bool
null_shape text f = (eqb f.code 0 && known_type_in text f.ty) && (eqb f.a 0 && (eqb f.b 0 && eqb f.c 0))

abbrev pub binary_shape : Fields → Bool
binary_shape f = (leb f.code 19 && eqb f.ty 0) && eqb f.c 0

abbrev pub between_shape : Fields → Bool
between_shape f = leb f.code 3 && eqb f.ty 0

abbrev pub list_shape : ℕ → Fields → Bool
list_shape text f = (leb f.code 1 && known_type_in text f.ty) && eqb f.c 0

abbrev pub member_shape : Fields → Bool
member_shape f = (leb f.code 1 && eqb f.ty 0) && eqb f.c 0

-- two inputs
abbrev pub both_below : Fields → ℕ → Bool
both_below f n = ltb f.a n && ltb f.b n

unfoldable pub column_step : List ℕ → Fields → Step
column_step t f = judged (only_a f) (ltb f.a (length t)) true true (get_or t f.a 0) 1

unfoldable pub literal_step : ℕ → Fields → Step
literal_step text f = judged (literal_shape text f) true true true f.ty 1

unfoldable pub null_step : ℕ → Fields → Step
null_step text f = judged (null_shape text f) true true true f.ty 1

-- `binary_fits` by the operator's code
unfoldable pub pair_fits : ℕ → ℕ → ℕ → Bool
pair_fits code x y =
    cond (leb code 7) (ltb 0 x && eqb x y) (cond (leb 13 code && leb code 14) (eqb x 1 && eqb y 1) (eqb x 3 && eqb y 3))

-- the entry of a binary record: an Int of the two divisions, else the Truth of a binary record
unfoldable pub binary_entry : ℕ → ℕ
binary_entry code = cond (leb 13 code && leb code 14) 1 3

unfoldable pub binary_step : List ℕ → List ℕ → Fields → ℕ → Step
binary_step types trees f n =
    judged (binary_shape f) (both_below f n)
    (not (leb 8 f.code && leb f.code 12))
    (pair_fits f.code (get_or types f.a 0 % 8) (get_or types f.b 0 % 8)) (binary_entry f.code)
    (1 + (get_or trees f.a 0 + get_or trees f.b 0))

unfoldable pub not_step : List ℕ → List ℕ → Fields → ℕ → Step
not_step types trees f n =
    judged (only_a f) (ltb f.a n) true (eqb (get_or types f.a 0 % 8) 3) 3 (1 + get_or trees f.a 0)

unfoldable pub null_test_step : List ℕ → List ℕ → Fields → ℕ → Step
null_test_step types trees f n =
    judged (only_a f) (ltb f.a n) true (ltb 0 (get_or types f.a 0 % 8)) 3 (1 + get_or trees f.a 0)

unfoldable pub between_step : List ℕ → List ℕ → Fields → ℕ → Step
between_step types trees f n =
    judged (between_shape f) (ltb f.a n && (ltb f.b n && ltb f.c n)) true
    (between_fits (get_or types f.a 0 % 8) (get_or types f.b 0 % 8) (get_or types f.c 0 % 8)) 3
    (1 + (get_or trees f.a 0 + (get_or trees f.b 0 + get_or trees f.c 0)))

unfoldable pub list_step : ℕ → List ℕ → Fields → Step
list_step text p f =
    judged (list_shape text f) (list_ok_in text p f.ty f.a f.b) true true
    (8 * (f.ty % 8)) 1

unfoldable pub member_step : List ℕ → List ℕ → Fields → ℕ → Step
member_step types trees f n =
    judged (member_shape f) (both_below f n) true
    (ltb 0 (get_or types f.a 0 % 8) && eqb (get_or types f.b 0) (8 * (get_or types f.a 0 % 8))) 3
    (1 + (get_or trees f.a 0 + get_or trees f.b 0))

unfoldable pub record_step : ℕ → List ℕ → List ℕ → List ℕ → List ℕ → Fields → ℕ → Step
record_step text t p types trees f n =
    cond (eqb f.zero 0)
    (cond (eqb f.kind 1) (column_step t f)
    (cond (eqb f.kind 2) (literal_step text f)
    (cond (eqb f.kind 3) (null_step text f)
    (cond (eqb f.kind 4) (binary_step types trees f n)
    (cond (eqb f.kind 5) (not_step types trees f n)
    (cond (eqb f.kind 6) (null_test_step types trees f n)
    (cond (eqb f.kind 7) (null_test_step types trees f n)
    (cond (eqb f.kind 8) (between_step types trees f n)
    (cond (eqb f.kind 9) (list_step text p f)
    (cond (eqb f.kind 10) (member_step types trees f n)
    (bad 4))))))))))) (bad 4)

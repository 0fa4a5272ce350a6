-- Number 4 of 01: an unknown kind, code or type, a nonzero unused field, a literal outside its type. A fault of the bytes of
-- one record alone.
use Rattle.std.specs.Prelude.{ℕ, ◌+◌, ◌-◌, ◌*◌, ◌/◌, ◌%◌, Bool, true, false, cond, ◌&&◌, ◌||◌, List, [], ◌∷◌, get_or, ltb, leb, eqb}
use Rattle.records.specs.declared.record.Fields.{Fields}

-- A screen with symbols (02, 2.10) has a text pool beside it. Here and above `text` is one more than the bytes of the pool
-- that is lent, and 0 where none is: then there is no type 4.
-- types: 1 Int, 2 Day, 3 Truth, 4 Text
unfoldable pub known_type_in : ℕ → ℕ → Bool
known_type_in text ty = leb 1 ty && leb ty (cond (eqb text 0) 3 4)

-- a symbol packs its start in the low half of its 64 bits and its length in the high half
abbrev pub start_of : ℕ → ℕ
start_of v = v % 4294967296

abbrev pub length_of : ℕ → ℕ
length_of v = v / 4294967296

-- it lies in a pool of that many bytes, and has at most 16
unfoldable pub in_pool : ℕ → ℕ → Bool
in_pool size v = leb (start_of v + length_of v) size && leb (length_of v) 16

-- v, 64 bits in two's complement, is a value of the type: any Int; a Day of 32 signed bits; a Text in its pool; a Truth
-- 0 or 1
unfoldable pub in_type_in : ℕ → ℕ → ℕ → Bool
in_type_in text ty v =
    cond (eqb ty 1) true
    (cond (eqb ty 2) (ltb v 2147483648 || leb 18446744071562067968 v)
    (cond (eqb text 0) (leb v 1) (cond (eqb ty 4) (in_pool (text - 1) v) (leb v 1))))

-- the same where no text pool is lent
abbrev pub known_type : ℕ → Bool
known_type ty = known_type_in 0 ty

abbrev pub in_type : ℕ → ℕ → Bool
in_type ty v = in_type_in 0 ty v

-- the fields that 01's list of kinds names, the code (`max_code`) apart; a literal's value in bytes 8-15 is B and C
pub data Field : Type 0 where
  Ty A B C : Field

-- 01's list of kinds, in its order, with what it names for each; no kind has the number 0
abbrev pub used_fields : List (List Field)
used_fields =
    []
    -- 1 column
    ∷ (A ∷ [])
    -- 2 literal
    ∷ (Ty ∷ B ∷ C ∷ [])
    -- 3 null
    ∷ (Ty ∷ [])
    -- 4 binary
    ∷ (A ∷ B ∷ [])
    -- 5 Not
    ∷ (A ∷ [])
    -- 6 is_null
    ∷ (A ∷ [])
    -- 7 is_not_null
    ∷ (A ∷ [])
    -- 8 is_between
    ∷ (A ∷ B ∷ C ∷ [])
    -- 9 list
    ∷ (Ty ∷ A ∷ B ∷ [])
    -- 10 is_in
    ∷ (A ∷ B ∷ [])
    ∷ []

abbrev pub field_number : Field → ℕ
field_number Ty = 0
field_number A = 1
field_number B = 2
field_number C = 3

abbrev pub is_named : Field → List Field → Bool
is_named x [] = false
is_named x (y ∷ l) = eqb (field_number x) (field_number y) || is_named x l

-- whether a kind uses a field
unfoldable pub uses : Field → ℕ → Bool
uses x k = is_named x (get_or used_fields k [])

-- the highest code of a kind: operators to 19, the four ends of is_between, a mark for lists and is_in, else only 0
unfoldable pub max_code : ℕ → ℕ
max_code k = cond (eqb k 4) 19 (cond (eqb k 8) 3 (cond (eqb k 9 || eqb k 10) 1 0))

-- the kind, its code and its type are known; a kind without a type has 0 there
unfoldable pub known_ok_in : ℕ → Fields → Bool
known_ok_in text f =
    leb 1 f.kind && (leb f.kind 10
    && (leb f.code (max_code f.kind) && cond (uses Ty f.kind) (known_type_in text f.ty) (eqb f.ty 0)))

-- a field that is not used is zero
unfoldable pub zero_or : Bool → ℕ → Bool
zero_or used x = used || eqb x 0

unfoldable pub unused_ok : Fields → Bool
unused_ok f =
    eqb f.zero 0
    && (zero_or (uses A f.kind) f.a && (zero_or (uses B f.kind) f.b && zero_or (uses C f.kind) f.c))

-- a literal is of its type
unfoldable pub literal_ok_in : ℕ → Fields → Bool
literal_ok_in text f = cond (eqb f.kind 2) (in_type_in text f.ty (f.b + 4294967296 * f.c)) true

unfoldable pub shape_ok_in : ℕ → Fields → Bool
shape_ok_in text f = known_ok_in text f && (unused_ok f && literal_ok_in text f)

abbrev pub shape_ok : Fields → Bool
shape_ok f = shape_ok_in 0 f

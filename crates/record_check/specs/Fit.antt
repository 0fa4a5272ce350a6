-- Numbers 5, 6 and 7 of 01: what a record asks of the table, of the pool and of the records below it.
-- t is the column table, rs the records, p the pool, text what is lent beside it (records, Shape).
use Rattle.std.specs.Prelude.{ℕ, ◌+◌, ◌/◌, List, [], ◌∷◌, Bool, true, false, cond, not, ◌&&◌, length, get_or, ltb, leb, eqb}
use Rattle.records.specs.Bytes.{value_at, all}
use Rattle.records.specs.Operator.{is_comparison, is_left_out, is_division}
use Rattle.records.specs.Record.{record_at, inputs}
use Rattle.records.specs.Shape.{in_type_in}
use Rattle.records.specs.declared.operator.Operator.{Operator}
use Rattle.records.specs.declared.record.Node.{Node}
use Rattle.records.specs.declared.record.Record.{Record}
use Rattle.records.specs.declared.record.Record.TheVariants as kind

-- count values of the pool, from the one numbered start on, are of the type
unfoldable pub all_fit_in : ℕ → List ℕ → ℕ → ℕ → ℕ → Bool
all_fit_in text p ty start count = all (λ (k : ℕ). in_type_in text ty (value_at p (start + k))) count

-- 5: a list lies in the pool and its values are of its type
unfoldable pub list_ok_in : ℕ → List ℕ → ℕ → ℕ → ℕ → Bool
list_ok_in text p ty start count = leb (start + count) (length p / 8) && all_fit_in text p ty start count

-- 5: each input is below its own record
abbrev pub all_below : ℕ → List ℕ → Bool
all_below n [] = true
all_below n (x ∷ l) = ltb x n && all_below n l

-- 5: a column is in the table, a list in the pool, the inputs of any other record are below it
unfoldable pub reach_ok_in : ℕ → List ℕ → List ℕ → Record → Node → Bool
reach_ok_in text t p kind.Invalid n = true
reach_ok_in text t p (kind.Column c) n = ltb c.0 (length t)
reach_ok_in text t p (kind.Literal ty v) n = true
reach_ok_in text t p (kind.Null ty) n = true
reach_ok_in text t p (kind.Binary o x y) n = all_below n.0 (inputs (kind.Binary o x y))
reach_ok_in text t p (kind.Not x) n = all_below n.0 (inputs (kind.Not x))
reach_ok_in text t p (kind.IsNull x) n = all_below n.0 (inputs (kind.IsNull x))
reach_ok_in text t p (kind.IsNotNull x) n = all_below n.0 (inputs (kind.IsNotNull x))
reach_ok_in text t p (kind.IsBetween k x low high) n = all_below n.0 (inputs (kind.IsBetween k x low high))
reach_ok_in text t p (kind.List ty marked start count) n = list_ok_in text p ty start count
reach_ok_in text t p (kind.IsIn equal x list) n = all_below n.0 (inputs (kind.IsIn equal x list))

-- the same where no text pool is lent
abbrev pub all_fit : List ℕ → ℕ → ℕ → ℕ → Bool
all_fit p ty start count = all_fit_in 0 p ty start count

abbrev pub list_ok : List ℕ → ℕ → ℕ → ℕ → Bool
list_ok p ty start count = list_ok_in 0 p ty start count

abbrev pub reach_ok : List ℕ → List ℕ → Record → Node → Bool
reach_ok t p r n = reach_ok_in 0 t p r n

-- 6: a left-out operator
unfoldable pub served_ok : Record → Bool
served_ok kind.Invalid = true
served_ok (kind.Column c) = true
served_ok (kind.Literal ty v) = true
served_ok (kind.Null ty) = true
served_ok (kind.Binary o x y) = not (is_left_out o)
served_ok (kind.Not x) = true
served_ok (kind.IsNull x) = true
served_ok (kind.IsNotNull x) = true
served_ok (kind.IsBetween k x low high) = true
served_ok (kind.List ty marked start count) = true
served_ok (kind.IsIn equal x list) = true

-- the type of a record as an input: 1 Int, 2 Day, 3 Truth, 4 Text; 0 for a list, which is no value
unfoldable pub type_of : List ℕ → Record → ℕ
type_of t kind.Invalid = 0
type_of t (kind.Column c) = get_or t c.0 0
type_of t (kind.Literal ty v) = ty
type_of t (kind.Null ty) = ty
type_of t (kind.Binary o x y) = cond (is_division o) 1 3
type_of t (kind.Not x) = 3
type_of t (kind.IsNull x) = 3
type_of t (kind.IsNotNull x) = 3
type_of t (kind.IsBetween k x low high) = 3
type_of t (kind.List ty marked start count) = 0
type_of t (kind.IsIn equal x list) = 3

unfoldable pub type_at : List ℕ → List ℕ → Node → ℕ
type_at t rs n = type_of t (record_at rs n)

-- two values of one type
unfoldable pub same_type : ℕ → ℕ → Bool
same_type x y = ltb 0 x && eqb x y

-- comparisons take two sides of one type, divisions Int, logic Truth
unfoldable pub binary_fits : Operator → ℕ → ℕ → Bool
binary_fits o x y =
    cond (is_comparison o) (same_type x y) (cond (is_division o) (eqb x 1 && eqb y 1) (eqb x 3 && eqb y 3))

-- is_between takes three of one type
unfoldable pub between_fits : ℕ → ℕ → ℕ → Bool
between_fits x low high = same_type x low && same_type x high

-- is_in takes a list of its value's type
unfoldable pub member_fits : ℕ → Record → Bool
member_fits x kind.Invalid = false
member_fits x (kind.Column c) = false
member_fits x (kind.Literal ty v) = false
member_fits x (kind.Null ty) = false
member_fits x (kind.Binary o y z) = false
member_fits x (kind.Not y) = false
member_fits x (kind.IsNull y) = false
member_fits x (kind.IsNotNull y) = false
member_fits x (kind.IsBetween k y low high) = false
member_fits x (kind.List ty marked start count) = same_type x ty
member_fits x (kind.IsIn equal y list) = false

-- 7: types that do not fit; a null test takes any value, so no list
unfoldable pub types_ok : List ℕ → List ℕ → Record → Bool
types_ok t rs kind.Invalid = true
types_ok t rs (kind.Column c) = true
types_ok t rs (kind.Literal ty v) = true
types_ok t rs (kind.Null ty) = true
types_ok t rs (kind.Binary o x y) = binary_fits o (type_at t rs x) (type_at t rs y)
types_ok t rs (kind.Not x) = eqb (type_at t rs x) 3
types_ok t rs (kind.IsNull x) = ltb 0 (type_at t rs x)
types_ok t rs (kind.IsNotNull x) = ltb 0 (type_at t rs x)
types_ok t rs (kind.IsBetween k x low high) = between_fits (type_at t rs x) (type_at t rs low) (type_at t rs high)
types_ok t rs (kind.List ty marked start count) = true
types_ok t rs (kind.IsIn equal x list) = member_fits (type_at t rs x) (record_at rs list)

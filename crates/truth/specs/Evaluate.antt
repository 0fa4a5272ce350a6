-- What the evaluators' code works with: its values as keys, the rule of each operator by its code, and what checking
-- has shown of the bytes that it reads. The meaning of a record is in Cell.
use Rattle.std.specs.Prelude.{◌≡◌, Bool, cond, not, ◌||◌, List, ◌⊎◌, ℕ, ◌+◌, ◌*◌, ◌≤◌, ◌<◌, leb, eqb, ℤ, length}
use Rattle.std.proofs.Math.Option.{Option, none, some}
use Rattle.records.specs.Record.{fields_at, node}
use Rattle.records.specs.declared.record.Fields.{Fields}
use Rattle.std.specs.declared.option.Option as lang
use Rattle.std.specs.declared.option.Option.TheVariants as value
use Rattle.three_valued.specs.declared.logic.Truth.{Truth}
use Rattle.truth.specs.declared.scalar.Scalar.{Scalar}
use Rattle.truth.specs.Halves.{ord_z, key, floor_divide_keys, modulus_keys}
use Rattle.truth.specs.Comparison.{Comparison, Eq, NotEq, Lt, LtEq, Gt, GtEq}
use Rattle.three_valued.specs.Logic.{and3, or3, xor3, of_bool}
use Rattle.truth.specs.AExpr.{Inputs}
use Rattle.truth.specs.Membership.{mem, in3}
use Rattle.truth.specs.Cell.{is_null, value_of_truth, truth_of_value, compare3, same_value, divided}
use Rattle.truth.specs.FromBytes.{aexpr_of, row_keys, truth_keys, truth_in, value_in, values_from}

-- A value of the code as null or a key.
abbrev pub keyed : lang.Option Scalar → Option ℤ
keyed value.None = none
keyed (value.Some v) = some (key v.0)

-- The definitions of Cell at the keys of 64 bits.
abbrev pub comparing : Comparison → Option ℤ → Option ℤ → Truth
comparing c x y = compare3 key ord_z truth_keys c x y

abbrev pub same : Option ℤ → Option ℤ → Bool
same x y = same_value key ord_z truth_keys x y

abbrev pub of_truth : Truth → Option ℤ
of_truth t = value_of_truth key ord_z truth_keys t

abbrev pub to_truth : Option ℤ → Truth
to_truth x = truth_of_value key ord_z truth_keys x

abbrev pub null_test : Option ℤ → Bool
null_test x = is_null x

abbrev pub holds_key : ℤ → List ℕ → Bool
holds_key k values = mem key ord_z k values

abbrev pub member_truth : Bool → Bool → List ℕ → Option ℤ → Truth
member_truth nulls_equal holds_null values x = in3 key ord_z nulls_equal holds_null values x

-- The ordinary comparison of an operator's code.
unfoldable pub comparison_at : ℕ → Comparison
comparison_at code =
    cond (eqb code 0) Eq
    (cond (eqb code 2) NotEq (cond (eqb code 4) Lt (cond (eqb code 5) LtEq (cond (eqb code 6) Gt GtEq))))

-- The operators that compare, codes 0 to 7.
unfoldable pub compared_of : ℕ → Option ℤ → Option ℤ → Truth
compared_of code x y =
    cond (eqb code 1) (of_bool (same x y))
    (cond (eqb code 3) (of_bool (not (same x y))) (comparing (comparison_at code) x y))

-- What FloorDivide and Modulus take of a division.
abbrev pub part_of : ℕ → lang.Option (ℕ × ℕ) → Option ℤ
part_of code value.None = none
part_of code (value.Some (q, r)) = some (key (cond (eqb code 13) q r))

-- FloorDivide and Modulus, codes 13 and 14.
unfoldable pub divided_of : ℕ → Option ℤ → Option ℤ → Option ℤ
divided_of code x y = divided key ord_z truth_keys (cond (eqb code 13) floor_divide_keys modulus_keys) x y

-- The operators of logic, codes 15 to 19.
unfoldable pub connected_of : ℕ → Truth → Truth → Truth
connected_of code a b =
    cond (eqb code 15) (and3 a b)
    (cond (eqb code 16) (or3 a b) (cond (eqb code 17) (xor3 a b) (cond (eqb code 18) (and3 a b) (or3 a b))))

-- is_between's two comparisons, as operator codes.
unfoldable pub low_code : ℕ → ℕ
low_code code = cond (leb code 1) 7 6

unfoldable pub high_code : ℕ → ℕ
high_code code = cond (eqb code 0 || eqb code 2) 5 4

unfoldable pub between_of : ℕ → Option ℤ → Option ℤ → Option ℤ → Truth
between_of code x low high =
    and3 (comparing (comparison_at (low_code code)) x low) (comparing (comparison_at (high_code code)) x high)

-- A column, a literal or null; whatever else has no value of its own.
unfoldable pub leaf_of : (ℕ → Option ℤ) → Fields → Option ℤ
leaf_of row f =
    cond (eqb f.kind 1) (row f.a) (cond (eqb f.kind 2) (some (key (f.b + 4294967296 * f.c))) none)

-- is_in of x and the list with the fields f.
unfoldable pub member_of : List ℕ → Fields → Bool → Option ℤ → Truth
member_of p f nulls_equal x = member_truth nulls_equal (eqb f.code 1) (values_from p f.a f.b) x

-- What the row of these bytes makes of record n of those bytes.
abbrev pub row_truth : List ℕ → List ℕ → List ℕ → ℕ → ℕ → Truth
row_truth rs p row nulls n = truth_in (aexpr_of rs p) (row_keys row nulls) n

abbrev pub row_value : List ℕ → List ℕ → List ℕ → ℕ → ℕ → Option ℤ
row_value rs p row nulls n = value_in (aexpr_of rs p) (row_keys row nulls) n

-- Column c has its eight bytes in the row.
abbrev pub ColumnThere : List ℕ → ℕ → Type 0
ColumnThere row c = (c < 64) × (8 * c + 8 ≤ length row)

-- Operators that a checked screen has: comparisons, divisions, and those of logic.
abbrev pub Served : ℕ → Type 0
Served code = (code < 8) ⊎ ((12 < code) × (code < 20))

-- What checking has shown of record m with the fields f: its inputs are below it, its operator is served, its
-- column is in the row, its list lies in the pool, and what is_in searches is a list.
pub record Fit (rs p row : List ℕ) (m : ℕ) (f : Fields) : Type 0 where
  pub inputs : Inputs m (aexpr_of rs p m)
  pub operator : f.kind ≡ 4 → Served f.code
  pub column : f.kind ≡ 1 → ColumnThere row f.a
  pub list : f.kind ≡ 9 → 8 * (f.a + f.b) ≤ length p
  pub member : f.kind ≡ 10 → (fields_at rs (node f.b)).kind ≡ 9

-- Record n is there, and it and all below it are fit.
pub record Evaluable (rs p row : List ℕ) (n : ℕ) : Type 0 where
  pub room : 16 * n + 16 ≤ length rs
  pub fit : (m : ℕ) → m ≤ n → Fit rs p row m (fields_at rs (node m))

-- The list rule, whole: what is_in means. Nothing else says it.
use Rattle.std.specs.Prelude.{Bool, true, false, cond, not, ◌&&◌, ◌||◌, List, [], ◌∷◌}
use Rattle.std.proofs.Math.Option.{Option, none, some}
use Rattle.three_valued.specs.declared.logic.Truth.{Truth}
use Rattle.three_valued.specs.declared.logic.Truth.TheVariants.{False, Unknown, True}
use Rattle.truth.specs.Order.{Order, is_equal}
use Rattle.three_valued.specs.Logic.{or3, of_bool}

module _ {K Val : Type 0} (key : Val → K) (O : Order K) where
  -- The entries of a list: its values, and a null where it holds one.
  abbrev pub entries : Bool → List Val → List (Option K)
  entries false [] = []
  entries true [] = none ∷ []
  entries holds_null (v ∷ values) = some (key v) ∷ entries holds_null values

  -- x = y: unknown where either is null.
  abbrev pub equal3 : Option K → Option K → Truth
  equal3 none y = Unknown
  equal3 (some a) none = Unknown
  equal3 (some a) (some b) = of_bool (is_equal (O.cmp a b))

  -- ISO/IEC 9075: x IN (a, b, ..) is x = a OR x = b OR .., and nothing is in the empty list.
  abbrev pub any_equal3 : Option K → List (Option K) → Truth
  any_equal3 x [] = False
  any_equal3 x (y ∷ l) = or3 (equal3 x y) (any_equal3 x l)

  -- Some value of the list has the key k.
  abbrev pub mem : K → List Val → Bool
  mem k [] = false
  mem k (v ∷ values) = is_equal (O.cmp k (key v)) || mem k values

  -- nulls_equal, whether the list also holds a null, its values, the value looked for. With nulls_equal null is a value
  -- like another, found exactly if the list holds one.
  abbrev pub in3 : Bool → Bool → List Val → Option K → Truth
  in3 false holds_null values x = any_equal3 x (entries holds_null values)
  in3 true holds_null values none = of_bool holds_null
  in3 true holds_null values (some k) = of_bool (mem k values)

-- The rule without its fold, which the code computes; in3-null and in3-known prove it equal.
-- A null: nulls_equal, whether the list holds a null, whether it has no value.
unfoldable pub null_in3 : Bool → Bool → Bool → Truth
null_in3 nulls_equal holds_null no_value =
    cond nulls_equal (of_bool holds_null) (cond (holds_null || not no_value) Unknown False)

-- A value: nulls_equal, whether the list holds a null, whether one of its values equals it.
unfoldable pub known_in3 : Bool → Bool → Bool → Truth
known_in3 nulls_equal holds_null found = cond found True (cond (not nulls_equal && holds_null) Unknown False)

-- Bounds, columns, constraints and comparisons with each of their values taken to another one.
use Rattle.std.specs.Prelude.{List, [], ◌∷◌, map}
use Rattle.std.proofs.Math.Option.{Option, none, some}
use Rattle.constraints.specs.Bound.{Bound, absent, at}
use Rattle.constraints.specs.Column.{ColumnConstraints, Constraint, Lower, Upper, Exclude, Allow, Disallow, Require}
use Rattle.constraints.specs.Comparisons.{ColumnComparison, IsEq, IsLower, IsUpper, IsNotEq}

abbrev pub map_bound : {A B : Type 0} → (A → B) → Bound A → Bound B
map_bound f absent = absent
map_bound f (at inclusive v) = at inclusive (f v)

abbrev pub map_allowed : {A B : Type 0} → (A → B) → Option (List A) → Option (List B)
map_allowed f none = none
map_allowed f (some values) = some (map f values)

abbrev pub map_column : {A B : Type 0} → (A → B) → ColumnConstraints A → ColumnConstraints B
map_column f cc =
    record {
      lower = map_bound f cc.lower;
      upper = map_bound f cc.upper;
      excluded = map f cc.excluded;
      allowed = map_allowed f cc.allowed;
      disallowed = map f cc.disallowed;
      strict = cc.strict;
      nullability = cc.nullability;
      unsat = cc.unsat;
    }

abbrev pub map_constraint : {A B : Type 0} → (A → B) → Constraint A → Constraint B
map_constraint f (Lower inclusive v) = Lower inclusive (f v)
map_constraint f (Upper inclusive v) = Upper inclusive (f v)
map_constraint f (Exclude v) = Exclude (f v)
map_constraint f (Allow values) = Allow (map f values)
map_constraint f (Disallow counts values) = Disallow counts (map f values)
map_constraint f (Require required) = Require required

abbrev pub map_comparison : {A B : Type 0} → (A → B) → ColumnComparison A → ColumnComparison B
map_comparison f (IsEq v) = IsEq (f v)
map_comparison f (IsLower inclusive v) = IsLower inclusive (f v)
map_comparison f (IsUpper inclusive v) = IsUpper inclusive (f v)
map_comparison f (IsNotEq v) = IsNotEq (f v)

-- Columns of ranks with the literals that their limits stand for. R reads the records sent, `nodes` are their conjuncts.
use Rattle.std.specs.Prelude.{Bool, true, false, cond, List, [], ◌∷◌, ℕ, eqb, get_or}
use Rattle.truth.specs.AExpr.{AExpr}
use Rattle.constraints.specs.Column.{ColumnConstraints, Constraint, Lower, Upper, Exclude, Allow, Disallow, Require}
use Rattle.constraints.specs.Lined.{Lined, lined}
use Rattle.constraints.specs.Mapped.{map_bound}
use Rattle.constraints.specs.Resolve.{fixed_at}
use Rattle.merge.specs.Classify.{Conjunct, Bounds, Normalized, Equality, Recorded, NonNullPair, Opaque, classify}
use Rattle.merge.specs.Emit.{is_fixed}
use Rattle.column_table.specs.State.{ColumnTable}
use Rattle.symbol_sources.specs.Sources.{giver}

-- The first literal of constraints, and the last; 0 where there is none. A comparison has one, is_between the lower bound's and
-- then the upper bound's.
abbrev pub first_literal : List (Constraint ℕ) → ℕ
first_literal [] = 0
first_literal (Lower inclusive v ∷ l) = v
first_literal (Upper inclusive v ∷ l) = v
first_literal (Exclude v ∷ l) = v
first_literal (Allow values ∷ l) = first_literal l
first_literal (Disallow counts values ∷ l) = first_literal l
first_literal (Require required ∷ l) = first_literal l

abbrev pub last_literal : ℕ → List (Constraint ℕ) → ℕ
last_literal past [] = past
last_literal past (Lower inclusive v ∷ l) = last_literal v l
last_literal past (Upper inclusive v ∷ l) = last_literal v l
last_literal past (Exclude v ∷ l) = last_literal v l
last_literal past (Allow values ∷ l) = last_literal past l
last_literal past (Disallow counts values ∷ l) = last_literal past l
last_literal past (Require required ∷ l) = last_literal past l

abbrev pub literal_in : Bool → List (Constraint ℕ) → ℕ
literal_in upper l = cond upper (last_literal 0 l) (first_literal l)

abbrev pub conjunct_literal : Bool → Conjunct ℕ → ℕ
conjunct_literal upper (Bounds c l) = literal_in upper l
conjunct_literal upper (Normalized c l) = literal_in upper l
conjunct_literal upper (Equality a b n) = 0
conjunct_literal upper (Recorded stops n c l) = literal_in upper l
conjunct_literal upper (NonNullPair n a b) = 0
conjunct_literal upper (Opaque n) = 0

-- The literal behind a limit, an upper bound or not, of this line and opener.
unfoldable pub literal_behind : (ℕ → AExpr ℕ) → List ℕ → Bool → ℕ → ℕ → ℕ
literal_behind R nodes upper line opener = conjunct_literal upper (classify R (get_or nodes (giver line opener) 0))

abbrev pub literal_limit : (ℕ → AExpr ℕ) → List ℕ → Bool → Lined → Lined
literal_limit R nodes upper v =
    record { bits = literal_behind R nodes upper v.line v.opener; line = v.line; opener = v.opener }

-- A column whose bounds are one value keeps one: both have the lower bound's literal.
unfoldable pub literal_column : (ℕ → AExpr ℕ) → List ℕ → ColumnConstraints Lined → ColumnConstraints Lined
literal_column R nodes q =
    record {
      lower = map_bound (literal_limit R nodes false) q.lower;
      upper = cond (is_fixed (fixed_at lined q.lower q.upper)) (map_bound (literal_limit R nodes false) q.lower)
          (map_bound (literal_limit R nodes true) q.upper);
      excluded = q.excluded;
      allowed = q.allowed;
      disallowed = q.disallowed;
      strict = q.strict;
      nullability = q.nullability;
      unsat = q.unsat;
    }

-- The columns of type Text so, the others as they are. t is the column table.
abbrev pub literal_table : List ℕ → (ℕ → AExpr ℕ) → List ℕ → ColumnTable → ColumnTable
literal_table t R nodes T a = cond (eqb (get_or t a 0) 4) (literal_column R nodes (T a)) (T a)

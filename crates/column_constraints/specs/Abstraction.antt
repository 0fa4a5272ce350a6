-- What the code's column stands for: numbers of conjuncts stand for the values that those conjuncts give. The
-- contracts say that a function's result stands for what the definition gives of what its arguments stand for. Read
-- `Conjuncts`, then `column_of`.
use Rattle.std.specs.Prelude as code
use Rattle.std.specs.Prelude.{ℕ, zero, suc, ◌+◌, ◌/◌, ◌%◌, ◌<◌, ◌≡◌, Bool, true, false, cond, ◌||◌, List, [], ◌∷◌, ◌++◌, map, get_or, set, eqb}
use Rattle.std.proofs.Math.Option.{Option, none, some}
use Rattle.truth.specs.FromBytes.{values_from}
use Rattle.constraints.specs.Bound as b
use Rattle.constraints.specs.Values.{extend}
use Rattle.constraints.specs.Column as q
use Rattle.constraints.specs.Comparisons as e
use Rattle.constraints.specs.Lined.{Lined, on_line, lined}
use Rattle.column_constraints.specs.declared.bound.Limit.{Limit}
use Rattle.column_constraints.specs.declared.bound.Bound.{Bound}
use Rattle.column_constraints.specs.declared.bound.Tightened.{Tightened}
use Rattle.column_constraints.specs.declared.bound.Bound.TheVariants.{Absent, Open, Closed}
use Rattle.constraints.specs.declared.column.Nullability.{Nullability}
use Rattle.column_constraints.specs.declared.column.ColumnConstraints.{ColumnConstraints}
use Rattle.column_constraints.specs.declared.column.Compared.{Compared}
use Rattle.column_constraints.specs.declared.column.Compared.TheVariants as m

-- What the conjuncts' numbers stand for: each has a kind (0 an excluded literal, 1 an is_in list, 2 a negated one,
-- else none of these), a literal, and a part of the pool.
pub record Conjuncts : Type 0 where
  pub kinds : List ℕ
  pub values : List ℕ
  pub starts : List ℕ
  pub counts : List ℕ
  pub pool : List ℕ

abbrev pub conjuncts_of : List ℕ → List ℕ → List ℕ → List ℕ → List ℕ → Conjuncts
conjuncts_of kinds' values' starts' counts' pool' =
    record { kinds = kinds'; values = values'; starts = starts'; counts = counts'; pool = pool' }

-- The code lends all but the pool as one list of words, two a conjunct: what it gives, and its kind.
unfoldable pub each : (ℕ → ℕ → ℕ) → List ℕ → List ℕ
each f [] = []
each f (w ∷ []) = []
each f (w ∷ k ∷ l) = f w k ∷ each f l

-- The word of a list is its start and 2^32 times its count; a conjunct of another kind has an empty list at 0.
abbrev pub list_in : ℕ → ℕ → ℕ
list_in w k = cond (eqb k 1 || eqb k 2) w 0

unfoldable pub kinds_in : List ℕ → List ℕ
kinds_in told = each (λ w k. k) told

unfoldable pub values_in : List ℕ → List ℕ
values_in told = each (λ w k. w) told

unfoldable pub starts_in : List ℕ → List ℕ
starts_in told = each (λ w k. list_in w k % 4294967296) told

unfoldable pub counts_in : List ℕ → List ℕ
counts_in told = each (λ w k. list_in w k / 4294967296) told

abbrev pub conjuncts : List ℕ → List ℕ → Conjuncts
conjuncts told pool' = conjuncts_of (kinds_in told) (values_in told) (starts_in told) (counts_in told) pool'

-- The list of conjunct j.
unfoldable pub list_of : List ℕ → List ℕ → List ℕ → ℕ → List ℕ
list_of starts counts pool j = values_from pool (get_or starts j 0) (get_or counts j 0)

-- Its values and its literal, under its number.
unfoldable pub values_of : List ℕ → List ℕ → List ℕ → ℕ → List Lined
values_of starts counts pool j = map (on_line j) (list_of starts counts pool j)

abbrev pub literal_at : List ℕ → ℕ → Lined
literal_at values j = on_line j (get_or values j 0)

abbrev pub of_kind : List ℕ → ℕ → ℕ → Bool
of_kind kinds k j = eqb (get_or kinds j 0) k

-- What those of n numbers in an array that pass p give, in their order.
unfoldable pub gather : {A : Type 0} → (ℕ → Bool) → (A → ℕ → A) → A → List ℕ → ℕ → A
gather p f z a zero = z
gather p f z a (suc n) = cond (p (get_or a n 0)) (f (gather p f z a n) (get_or a n 0)) (gather p f z a n)

-- The values that n numbers exclude.
unfoldable pub excluded_by : List ℕ → List ℕ → List ℕ → ℕ → List Lined
excluded_by kinds values a n = gather (of_kind kinds 0) (λ l j. l ++ (literal_at values j ∷ [])) [] a n

-- The common values of the lists that n numbers allow; none if there is no such list.
unfoldable pub allowed_by : List ℕ → List ℕ → List ℕ → List ℕ → List ℕ → ℕ → Option (List Lined)
allowed_by kinds starts counts pool a n =
    gather (of_kind kinds 1) (λ o j. some (q.common lined o (values_of starts counts pool j))) none a n

-- All values of the lists that n numbers disallow.
unfoldable pub disallowed_by : List ℕ → List ℕ → List ℕ → List ℕ → List ℕ → ℕ → List Lined
disallowed_by kinds starts counts pool a n =
    gather (of_kind kinds 2) (λ l j. extend lined l (values_of starts counts pool j)) [] a n

-- A value of a bound with the number of the conjunct that gave it, and whose excluded value opened it.
abbrev pub limit_of : Limit → Lined
limit_of v = record { bits = v.value.0; line = v.line; opener = v.opener }

abbrev pub bound_of : Bound → b.Bound Lined
bound_of Absent = b.absent
bound_of (Open s) = b.at false (limit_of s)
bound_of (Closed s) = b.at true (limit_of s)

abbrev pub tightened_of : Tightened → b.Tightened Lined
tightened_of r = b.tightened (bound_of r.bound) r.change

-- A column with its numbers. The code keeps the numbers of all columns in one array, a row for each column.
pub record Numbered : Type 0 where
  pub lower : Bound
  pub upper : Bound
  pub marks : List ℕ
  pub len : ℕ
  pub strict : Bool
  pub nullability : Nullability
  pub unsat : Bool

abbrev pub numbered : List ℕ → ColumnConstraints → Numbered
numbered a c =
    record {
      lower = c.lower;
      upper = c.upper;
      marks = a;
      len = c.len;
      strict = c.strict;
      nullability = c.nullability;
      unsat = c.unsat;
    }

abbrev pub column_of : Conjuncts → Numbered → q.ColumnConstraints Lined
column_of t c =
    record {
      lower = bound_of c.lower;
      upper = bound_of c.upper;
      excluded = excluded_by t.kinds t.values c.marks c.len;
      allowed = allowed_by t.kinds t.starts t.counts t.pool c.marks c.len;
      disallowed = disallowed_by t.kinds t.starts t.counts t.pool c.marks c.len;
      strict = c.strict;
      nullability = c.nullability;
      unsat = c.unsat;
    }

abbrev pub fixed_of : code.Option Limit → Option Lined
fixed_of code.None = none
fixed_of (code.Some s) = some (limit_of s)

abbrev pub compared_of : Compared → List (e.ColumnComparison Lined)
compared_of m.Vacant = []
compared_of (m.Eq s) = e.IsEq (limit_of s) ∷ []
compared_of (m.Gt s) = e.IsLower false (limit_of s) ∷ []
compared_of (m.GtEq s) = e.IsLower true (limit_of s) ∷ []
compared_of (m.Lt s) = e.IsUpper false (limit_of s) ∷ []
compared_of (m.LtEq s) = e.IsUpper true (limit_of s) ∷ []
compared_of (m.NotEq s) = e.IsNotEq (limit_of s) ∷ []

-- Is j one of n numbers held in an array.
unfoldable pub marked : List ℕ → ℕ → ℕ → Bool
marked a zero j = false
marked a (suc n) j = marked a n j || eqb (get_or a n 0) j

-- n numbers below m, each a new one: what every column's numbers are, so that a row of m has room for all.
abbrev pub Fine : ℕ → List ℕ → ℕ → Type 0
Fine m a n = (i : ℕ) → i < n → (get_or a i 0 < m) × (marked a i (get_or a i 0) ≡ false)

-- One number more.
abbrev pub longer : ColumnConstraints → ColumnConstraints
longer c =
    record {
      lower = c.lower;
      upper = c.upper;
      len = c.len + 1;
      strict = c.strict;
      nullability = c.nullability;
      since = c.since;
      unsat = c.unsat;
    }

abbrev pub pushed : Numbered → ℕ → Numbered
pushed c j =
    record {
      lower = c.lower;
      upper = c.upper;
      marks = set c.marks c.len j;
      len = c.len + 1;
      strict = c.strict;
      nullability = c.nullability;
      unsat = c.unsat;
    }

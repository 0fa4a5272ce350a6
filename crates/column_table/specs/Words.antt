-- A column as seven words, and the table that a slice of 64 times seven words stands for.
use Rattle.std.specs.Prelude.{Bool, true, false, cond, List, [], ◌∷◌, ◌++◌, ℕ, zero, suc, ◌+◌, ◌*◌, ◌/◌, ◌%◌, ◌<◌, get_or, eqb}
use Rattle.constraints.specs.declared.column.Nullability.{Nullability}
use Rattle.constraints.specs.declared.column.Nullability.TheVariants.{Unconstrained, Null, NonNull}
use Rattle.column_constraints.specs.declared.bound.Limit.{Limit}
use Rattle.column_constraints.specs.declared.bound.Bound.{Bound}
use Rattle.column_constraints.specs.declared.bound.Bound.TheVariants.{Absent, Open, Closed}
use Rattle.column_constraints.specs.declared.column.ColumnConstraints.{ColumnConstraints}
use Rattle.column_table.specs.Rows.{row_of}

-- What a read past an array of columns gives: the empty column.
abbrev pub past_column : ColumnConstraints
past_column =
    record {
      lower = Absent;
      upper = Absent;
      len = 0;
      strict = false;
      nullability = Unconstrained;
      since = 0;
      unsat = false;
    }

abbrev pub kind_word : Bound → ℕ
kind_word Absent = 0
kind_word (Open s) = 1
kind_word (Closed s) = 2

abbrev pub value_word : Bound → ℕ
value_word Absent = 0
value_word (Open s) = s.value.0
value_word (Closed s) = s.value.0

-- The line and the opener of a limit in one word, 32 bits each.
abbrev pub limit_lines : Limit → ℕ
limit_lines s = s.line + 4294967296 * s.opener

abbrev pub line_word : Bound → ℕ
line_word Absent = 0
line_word (Open s) = limit_lines s
line_word (Closed s) = limit_lines s

-- A line has 8 bits, so that it is read back from its word.
abbrev pub LineFits : Bound → Type 0
LineFits Absent = Unit {0}
LineFits (Open s) = s.line < 256
LineFits (Closed s) = s.line < 256

abbrev pub null_word : Nullability → ℕ
null_word Unconstrained = 0
null_word Null = 1
null_word NonNull = 2

abbrev pub flag_word : Bool → ℕ
flag_word b = cond b 1 0

-- The small numbers of a column in one word: two bits a kind, two for nullability, one a flag.
abbrev pub small_word : Bound → Bound → Nullability → Bool → Bool → ℕ
small_word lower upper nullability strict unsat =
    kind_word lower + 4 * kind_word upper + 16 * null_word nullability + 64 * flag_word strict + 128 * flag_word unsat

abbrev pub limit_from : ℕ → ℕ → Limit
limit_from v l = record { value = record { 0 = v }; line = l % 256; opener = l / 4294967296 }

abbrev pub bound_from : ℕ → ℕ → ℕ → Bound
bound_from k v l = cond (eqb k 0) Absent (cond (eqb k 1) (Open (limit_from v l)) (Closed (limit_from v l)))

abbrev pub null_from : ℕ → Nullability
null_from w = cond (eqb w 0) Unconstrained (cond (eqb w 1) Null NonNull)

unfoldable pub column_from : List ℕ → ColumnConstraints
column_from w =
    record {
      lower = bound_from (get_or w 0 0 % 4) (get_or w 1 0) (get_or w 4 0);
      upper = bound_from (get_or w 0 0 / 4 % 4) (get_or w 2 0) (get_or w 5 0);
      len = get_or w 3 0;
      strict = eqb (get_or w 0 0 / 64 % 2) 1;
      nullability = null_from (get_or w 0 0 / 16 % 4);
      since = get_or w 6 0;
      unsat = eqb (get_or w 0 0 / 128) 1;
    }

unfoldable pub words_of : ColumnConstraints → List ℕ
words_of c =
    small_word c.lower c.upper c.nullability c.strict c.unsat ∷ value_word c.lower ∷
    value_word c.upper ∷ c.len ∷ line_word c.lower ∷ line_word c.upper ∷ c.since ∷ []

-- The first n columns of a table of words.
unfoldable pub columns_to : List ℕ → ℕ → List ColumnConstraints
columns_to ws zero = []
columns_to ws (suc n) = columns_to ws n ++ (column_from (row_of ws n) ∷ [])

-- All 64.
unfoldable pub columns_of : List ℕ → List ColumnConstraints
columns_of ws = columns_to ws 64

-- The truth values of ISO/IEC 9075 and its tables for And, Or and Not: part 2 (SQL/Foundation), subclause <boolean value
-- expression>, General Rules. And: "Truth table for the AND boolean operator"; Or: "Truth table for the OR boolean
-- operator"; Not: the rule that NOT of True is False, of False True, of Unknown Unknown. In the edition of 2003 these are
-- subclause 6.34 and tables 11 and 12; the numbers differ between editions, and the standard was not at hand: title and
-- numbers are from memory, not looked up. Xor, which the standard lacks, is unknown if either side is (01, 'Row test').
use Rattle.std.specs.Prelude.{Bool, true, false, cond, ℕ, eqb}
use Rattle.three_valued.specs.declared.logic.Truth.{Truth}
use Rattle.three_valued.specs.declared.logic.Truth.TheVariants.{False, Unknown, True}

-- The table for AND, row by row.
abbrev pub and3 : Truth → Truth → Truth
and3 True True = True
and3 True Unknown = Unknown
and3 True False = False
and3 Unknown True = Unknown
and3 Unknown Unknown = Unknown
and3 Unknown False = False
and3 False True = False
and3 False Unknown = False
and3 False False = False

-- The table for OR.
abbrev pub or3 : Truth → Truth → Truth
or3 True True = True
or3 True Unknown = True
or3 True False = True
or3 Unknown True = True
or3 Unknown Unknown = Unknown
or3 Unknown False = Unknown
or3 False True = True
or3 False Unknown = Unknown
or3 False False = False

-- Added by 01.
abbrev pub xor3 : Truth → Truth → Truth
xor3 True True = False
xor3 True Unknown = Unknown
xor3 True False = True
xor3 Unknown True = Unknown
xor3 Unknown Unknown = Unknown
xor3 Unknown False = Unknown
xor3 False True = True
xor3 False Unknown = Unknown
xor3 False False = False

-- NOT.
abbrev pub not3 : Truth → Truth
not3 True = False
not3 Unknown = Unknown
not3 False = True

-- The truth of a test that is never unknown.
abbrev pub of_bool : Bool → Truth
of_bool true = True
of_bool false = False

-- A row passes on true only, as in a <where clause> of the same part.
abbrev pub is_true : Truth → Bool
is_true True = true
is_true Unknown = false
is_true False = false

-- The codes by which the code's tables are indexed.
abbrev pub truth_code : Truth → ℕ
truth_code False = 0
truth_code Unknown = 1
truth_code True = 2

unfoldable pub truth_of : ℕ → Truth
truth_of code = cond (eqb code 0) False (cond (eqb code 1) Unknown True)

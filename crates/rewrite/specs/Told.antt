-- The tables of the conjuncts' literals and lists, which the columns' numbers point into: what the code stores for one
-- conjunct, and when the tables say what it says.
use Rattle.std.specs.Prelude.{◌≡◌, List, [], ◌∷◌, ℕ, ◌/◌, ◌%◌, get_or}
use Rattle.constraints.specs.Column.{Constraint, Lower, Upper, Exclude, Allow, Disallow, Require}
use Rattle.column_constraints.specs.Abstraction.{Conjuncts, list_of}
use Rattle.merge.specs.Classify as c
use Rattle.read_operands.specs.declared.operands.Comparison.{Comparison}
use Rattle.read_operands.specs.declared.operands.Comparison.TheVariants.{Eq, NotEq, Lt, LtEq, Gt, GtEq}
use Rattle.read_operands.specs.declared.operands.Says.{Says}
use Rattle.read_operands.specs.declared.operands.Says.TheVariants as says
use Rattle.read_operands.specs.declared.operands.Conjunct.{Conjunct}
use Rattle.read_operands.specs.declared.operands.Conjunct.TheVariants as conjunct

-- What a conjunct says of its column, if it has one.
abbrev pub said_by : Conjunct → Says
said_by (conjunct.Bounds a s) = s
said_by (conjunct.Normalized a s) = s
said_by (conjunct.Equality a b) = says.Nothing
said_by (conjunct.Recorded stops a s) = s
said_by (conjunct.NonNullPair a b) = says.Nothing
said_by conjunct.Opaque = says.Nothing

-- 0 an excluded literal, 1 an is_in list, 2 a negated one, 3 none of these.
abbrev pub comparison_kind : Comparison → ℕ
comparison_kind Eq = 3
comparison_kind NotEq = 0
comparison_kind Lt = 3
comparison_kind LtEq = 3
comparison_kind Gt = 3
comparison_kind GtEq = 3

abbrev pub kind_of : Says → ℕ
kind_of says.Nothing = 3
kind_of (says.Compare k v) = comparison_kind k
kind_of (says.Between ends v w) = 3
kind_of (says.Allow start count) = 1
kind_of (says.Disallow strict start count) = 2
kind_of (says.Require must) = 3

-- A word that says what it gives: its literal, or its list's start and 2^32 times the count.
abbrev pub Worded : Says → ℕ → Type 0
Worded says.Nothing word = Unit {0}
Worded (says.Compare k v) word = word ≡ v.0
Worded (says.Between ends v w) word = Unit {0}
Worded (says.Allow start count) word = (word % 4294967296 ≡ start) × (word / 4294967296 ≡ count)
Worded (says.Disallow strict start count) word = (word % 4294967296 ≡ start) × (word / 4294967296 ≡ count)
Worded (says.Require must) word = Unit {0}

-- The tables hold at j what a constraint, or a list of them, needs there: its excluded value or its list.
abbrev pub Holds : Conjuncts → ℕ → Constraint ℕ → Type 0
Holds t j (Lower inclusive v) = Unit {0}
Holds t j (Upper inclusive v) = Unit {0}
Holds t j (Exclude v) = (get_or t.kinds j 0 ≡ 0) × (get_or t.values j 0 ≡ v)
Holds t j (Allow l) = (get_or t.kinds j 0 ≡ 1) × (list_of t.starts t.counts t.pool j ≡ l)
Holds t j (Disallow strict l) = (get_or t.kinds j 0 ≡ 2) × (list_of t.starts t.counts t.pool j ≡ l)
Holds t j (Require must) = Unit {0}

abbrev pub Told : Conjuncts → ℕ → List (Constraint ℕ) → Type 0
Told t j [] = Unit {0}
Told t j (a ∷ l) = Holds t j a × Told t j l

abbrev pub ToldConjunct : Conjuncts → ℕ → c.Conjunct ℕ → Type 0
ToldConjunct t j (c.Bounds a l) = Told t j l
ToldConjunct t j (c.Normalized a l) = Told t j l
ToldConjunct t j (c.Equality a b n) = Unit {0}
ToldConjunct t j (c.Recorded stops n a l) = Told t j l
ToldConjunct t j (c.NonNullPair n a b) = Unit {0}
ToldConjunct t j (c.Opaque n) = Unit {0}

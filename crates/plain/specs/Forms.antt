-- What tells the plain conjuncts from the others, beside how the merging reads them.
use Rattle.std.specs.Prelude.{Bool, true, false, List, [], ◌∷◌}
use Rattle.records.specs.declared.record.Record.{Record}
use Rattle.records.specs.declared.record.Record.TheVariants as kind

-- Not of something.
abbrev pub is_negation : Record → Bool
is_negation kind.Invalid = false
is_negation (kind.Column c) = false
is_negation (kind.Literal ty v) = false
is_negation (kind.Null ty) = false
is_negation (kind.Binary o x y) = false
is_negation (kind.Not x) = true
is_negation (kind.IsNull x) = false
is_negation (kind.IsNotNull x) = false
is_negation (kind.IsBetween ends x low high) = false
is_negation (kind.List ty marked start count) = false
is_negation (kind.IsIn equal x list) = false

-- A column that only enters the table is told nothing.
abbrev pub says_something : {A : Type 0} → List A → Bool
says_something [] = false
says_something (x ∷ l) = true

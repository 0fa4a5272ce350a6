-- The records of a screen with symbols as expressions. rs are the records, p the pool.
use Rattle.std.specs.Prelude.{cond, List, ℕ, ltb}
use Rattle.records.specs.Record.{record_at, node}
use Rattle.records.specs.declared.record.Record.{Record}
use Rattle.records.specs.declared.record.Record.TheVariants as kind
use Rattle.truth.specs.AExpr.{AExpr, Missing, map_aexpr}
use Rattle.truth.specs.FromBytes.{to_aexpr}
use Rattle.symbol_screens.specs.Held.{Held, held}

-- The type of the values that stand in a record itself; 0 where none do.
abbrev pub value_type : Record → ℕ
value_type kind.Invalid = 0
value_type (kind.Column c) = 0
value_type (kind.Literal ty v) = ty
value_type (kind.Null ty) = 0
value_type (kind.Binary o x y) = 0
value_type (kind.Not x) = 0
value_type (kind.IsNull x) = 0
value_type (kind.IsNotNull x) = 0
value_type (kind.IsBetween ends x low high) = 0
value_type (kind.List ty holds_null start count) = ty
value_type (kind.IsIn nulls_equal x list) = 0

-- What a record says: as ever, its values by their type.
abbrev pub held_aexpr : List ℕ → Record → AExpr Held
held_aexpr p r = map_aexpr (held (value_type r)) (to_aexpr p r)

-- The records used; there is none at and past `used`.
unfoldable pub held_at : List ℕ → List ℕ → ℕ → ℕ → AExpr Held
held_at rs p used n = cond (ltb n used) (held_aexpr p (record_at rs (node n))) Missing

-- A screen with symbols told by places: a symbol by where it stands, a literal at its record's number, a value of the pool
-- behind the records used; every other value by its bits. Two symbols of equal bytes have one rank, and two places.
use Rattle.std.specs.Prelude.{◌≡◌, Bool, true, false, cond, List, [], ◌∷◌, map, ℕ, zero, suc, ◌+◌, ◌-◌, ◌/◌, ◌<◌, ltb, eqb, length, get_or}
use Rattle.records.specs.Bytes.{value_at}
use Rattle.records.specs.Record.{record_at, node}
use Rattle.records.specs.Shape.{in_pool}
use Rattle.records.specs.declared.record.Record.{Record}
use Rattle.records.specs.declared.record.Record.TheVariants as kind
use Rattle.truth.specs.AExpr.{AExpr, Literal, ListLiteral, Missing, map_aexpr}
use Rattle.truth.specs.FromBytes.{to_aexpr, values_from}

-- whether it is a symbol; its place, or its bits
abbrev pub Placed : Type 0
Placed = Bool × ℕ

abbrev pub number : ℕ → Placed
number v = (false, v)

-- count values of the pool, from the one numbered start on
abbrev pub placed_from : ℕ → ℕ → ℕ → List Placed
placed_from used start zero = []
placed_from used start (suc count) = (true, used + start) ∷ placed_from used (suc start) count

abbrev pub placed_aexpr : ℕ → List ℕ → ℕ → Record → AExpr Placed
placed_aexpr used p n kind.Invalid = map_aexpr number (to_aexpr p kind.Invalid)
placed_aexpr used p n (kind.Column c) = map_aexpr number (to_aexpr p (kind.Column c))
placed_aexpr used p n (kind.Literal ty v) = Literal (cond (eqb ty 4) (true, n) (number v))
placed_aexpr used p n (kind.Null ty) = map_aexpr number (to_aexpr p (kind.Null ty))
placed_aexpr used p n (kind.Binary o x y) = map_aexpr number (to_aexpr p (kind.Binary o x y))
placed_aexpr used p n (kind.Not x) = map_aexpr number (to_aexpr p (kind.Not x))
placed_aexpr used p n (kind.IsNull x) = map_aexpr number (to_aexpr p (kind.IsNull x))
placed_aexpr used p n (kind.IsNotNull x) = map_aexpr number (to_aexpr p (kind.IsNotNull x))
placed_aexpr used p n (kind.IsBetween k x low high) = map_aexpr number (to_aexpr p (kind.IsBetween k x low high))
placed_aexpr used p n (kind.List ty holds_null start count) =
    ListLiteral holds_null (cond (eqb ty 4) (placed_from used start count) (map number (values_from p start count)))
placed_aexpr used p n (kind.IsIn equal x list) = map_aexpr number (to_aexpr p (kind.IsIn equal x list))

-- Record n of the records used.
unfoldable pub placed_at : List ℕ → List ℕ → ℕ → ℕ → AExpr Placed
placed_at rs p used n = cond (ltb n used) (placed_aexpr used p n (record_at rs (node n))) Missing

-- ---- What stands at the places.
abbrev pub literal_bits : Record → ℕ
literal_bits kind.Invalid = 0
literal_bits (kind.Column c) = 0
literal_bits (kind.Literal ty v) = v
literal_bits (kind.Null ty) = 0
literal_bits (kind.Binary o x y) = 0
literal_bits (kind.Not x) = 0
literal_bits (kind.IsNull x) = 0
literal_bits (kind.IsNotNull x) = 0
literal_bits (kind.IsBetween k x low high) = 0
literal_bits (kind.List ty holds_null start count) = 0
literal_bits (kind.IsIn equal x list) = 0

unfoldable pub word_at : List ℕ → List ℕ → ℕ → ℕ → ℕ
word_at rs p used i = cond (ltb i used) (literal_bits (record_at rs (node i))) (value_at p (i - used))

-- how many places there are
abbrev pub place_count : List ℕ → ℕ → ℕ
place_count p used = used + length p / 8

-- the values at all places: what stands there, or the empty symbol where that lies in no pool of that many bytes
pub record Standing (size : ℕ) (rs p : List ℕ) (used : ℕ) (values : List ℕ) : Type 0 where
  pub stands : (i : ℕ) → i < place_count p used →
      get_or values i 0 ≡ cond (in_pool size (word_at rs p used i)) (word_at rs p used i) 0

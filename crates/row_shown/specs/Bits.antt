-- What the code's columns and structs stand for, without the lines of values.
use Rattle.std.specs.Prelude.{cond, ℕ}
use Rattle.std.proofs.Math.Option.{Option, none, some}
use Rattle.constraints.specs.Bound.{Bound}
use Rattle.constraints.specs.Column.{ColumnConstraints}
use Rattle.constraints.specs.Lined.{Lined}
use Rattle.constraints.specs.Mapped.{map_bound, map_column}
use Rattle.row_shown.specs.declared.place.Smallest.{Smallest}

abbrev pub bits_bound : Bound Lined → Bound ℕ
bits_bound b = map_bound (λ (v : Lined). v.bits) b

abbrev pub bits_column : ColumnConstraints Lined → ColumnConstraints ℕ
bits_column cc = map_column (λ (v : Lined). v.bits) cc

abbrev pub smallest_of : Smallest → Option ℕ
smallest_of s = cond s.found (some s.value) none

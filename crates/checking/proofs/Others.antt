-- The default arm of a `match` on a record: what is left of a definition where the tag is none of those matched before.
use Prim.Native.Nat.{ℕ}
use mathlib.Core.Path.{◌≡◌, refl}
use mathlib.Core.List.{List, [], ◌∷◌}
use types.Run.{OneOf, miss}
use denote.Enum.Declared.{tag_of}
use Rattle.records.specs.declared.record.Record.{Record}
use Rattle.records.specs.declared.record.Record.TheVariants as kind
use Rattle.records.specs.contracts.record.Record.{the_type}
use Rattle.checking.specs.Columns.{own_column}

-- the tag of r is one of ks
abbrev pub Tagged : List ℕ → Record → Type 0
Tagged ks r = OneOf ks (tag_of the_type r)

pub no_column : (r : Record) → Tagged (0 ∷ 2 ∷ 3 ∷ 4 ∷ 5 ∷ 6 ∷ 7 ∷ 8 ∷ 9 ∷ 10 ∷ []) r → 0 ≡ own_column r
no_column kind.Invalid h = refl
no_column (kind.Column c) h = absurd (miss (0 ∷ 2 ∷ 3 ∷ 4 ∷ 5 ∷ 6 ∷ 7 ∷ 8 ∷ 9 ∷ 10 ∷ []) 1 tt h)
no_column (kind.Literal ty v) h = refl
no_column (kind.Null ty) h = refl
no_column (kind.Binary o x y) h = refl
no_column (kind.Not x) h = refl
no_column (kind.IsNull x) h = refl
no_column (kind.IsNotNull x) h = refl
no_column (kind.IsBetween k x low high) h = refl
no_column (kind.List ty marked start count) h = refl
no_column (kind.IsIn equal x list) h = refl

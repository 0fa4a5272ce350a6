-- What stands at the places. Assumes nothing.
use mathlib.Core.Path.{◌≡◌, refl, ◌∙◌, ap}
use mathlib.Core.Bool.{Bool, true, false, cond}
use mathlib.Core.List.{List, [], ◌∷◌}
use Prim.Native.Nat.{ℕ, ◌≤◌}
use native.Mathlib.Omega.{arith}
use lib.ListN.{length}
use types.Run.{OneOf, miss}
use denote.Enum.Declared.{tag_of}
use borrow.Author.Tests.{le-leb}
use Rattle.records.specs.Shape.{in_pool}
use Rattle.records.specs.declared.record.Record.{Record}
use Rattle.records.specs.declared.record.Record.TheVariants as kind
use Rattle.records.specs.contracts.record.Record.{the_type}
use Rattle.symbol_ranks.specs.Ranks.{Pooled}
use Rattle.symbol_screens.specs.Placed.{literal_bits, word_at, place_count, Standing}

-- the tag of r is one of ks
abbrev pub Tagged : List ℕ → Record → Type 0
Tagged ks r = OneOf ks (tag_of the_type r)

-- Only a literal has bits.
pub no_literal : (r : Record) → Tagged (0 ∷ 1 ∷ 3 ∷ 4 ∷ 5 ∷ 6 ∷ 7 ∷ 8 ∷ 9 ∷ 10 ∷ []) r → 0 ≡ literal_bits r
no_literal kind.Invalid h = refl
no_literal (kind.Column c) h = refl
no_literal (kind.Literal ty v) h = absurd (miss (0 ∷ 1 ∷ 3 ∷ 4 ∷ 5 ∷ 6 ∷ 7 ∷ 8 ∷ 9 ∷ 10 ∷ []) 2 tt h)
no_literal (kind.Null ty) h = refl
no_literal (kind.Binary o x y) h = refl
no_literal (kind.Not x) h = refl
no_literal (kind.IsNull x) h = refl
no_literal (kind.IsNotNull x) h = refl
no_literal (kind.IsBetween k x low high) h = refl
no_literal (kind.List ty marked start count) h = refl
no_literal (kind.IsIn equal x list) h = refl

-- The empty symbol lies in every pool.
empty-in : (size : ℕ) → in_pool size 0 ≡ true
unfolding in_pool
empty-in size = rw (le-leb 0 size (omega arith))

pub standing-pooled : (text rs p values : List ℕ) (used : ℕ) → place_count p used ≤ length values
    → Standing (length text) rs p used values → Pooled text values (place_count p used)
standing-pooled text rs p values used room st =
    record {
      long = room;
      pooled = λ i h.
          ap (in_pool (length text)) (st.stands i h) ∙ go (word_at rs p used i) (in_pool (length text) (word_at rs p used i)) refl;
    }
  where
    go : (w : ℕ) (b : Bool) → in_pool (length text) w ≡ b → in_pool (length text) (cond b w 0) ≡ true
    go w true e = e
    go w false e = empty-in (length text)

-- The merging of a screen with symbols whose values carry their lines (02, 2.6): as `lined` without symbols. text is the text
-- pool, rs the records, p the pool.
use Rattle.std.specs.Prelude.{refl, List, [], ◌∷◌, ℕ, suc, ℤ}
use Rattle.truth.specs.Halves.{ord_z}
use Rattle.truth.proofs.Orders.{total-z}
use Rattle.constraints.specs.Scalars.{Scalars}
use Rattle.merge.specs.Classify.{Conjunct, read_conjuncts}
use Rattle.merge.specs.Emit.{Outcome, merge_filter_constraints}
use Rattle.merge.specs.Lines.{map_conjunct}
use Rattle.symbol_screens.specs.Held.{Held, key_in}
use Rattle.symbol_screens.specs.Reading.{held_at}

-- A value, and the number of the conjunct that gave it, from 0.
pub record LinedHeld : Type 0 where
  pub held : Held
  pub line : ℕ

abbrev pub held_on_line : ℕ → Held → LinedHeld
held_on_line j v = record { held = v; line = j }

-- An excluded value that opens a bound is what the bound then holds, under the bound's number.
unfoldable pub holding_lined : List ℕ → Scalars ℤ LinedHeld
holding_lined text =
    record {
      key = λ v. key_in text v.held;
      order = ord_z;
      total = total-z;
      opened = λ bound excluded. held_on_line bound.line excluded.held;
      opened-key = λ bound excluded. refl;
    }

-- Conjuncts under their numbers, counted from i.
unfoldable pub held_lines_from : ℕ → List (Conjunct Held) → List (Conjunct LinedHeld)
held_lines_from i [] = []
held_lines_from i (c ∷ l) = map_conjunct (held_on_line i) c ∷ held_lines_from (suc i) l

-- The merging of a screen's lines.
abbrev pub lined_outcome_with : List ℕ → List ℕ → List ℕ → ℕ → ℕ → Outcome LinedHeld
lined_outcome_with text rs p used root =
    merge_filter_constraints (holding_lined text) (held_lines_from 0 (read_conjuncts (held_at rs p used) root))

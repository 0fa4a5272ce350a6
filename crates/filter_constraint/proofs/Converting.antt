-- What the columns' cells are after their literals are put there.
use mathlib.Core.Path.{◌≡◌, refl, sym, ◌∙◌, ap, subst}
use mathlib.Core.Bool.{Bool, true, false}
use mathlib.Core.List.{List, []}
use Prim.Native.Nat.{ℕ, zero, suc, ◌<◌}
use native.Mathlib.Omega.{arith}
use lib.ListN.{length}
use Rattle.column_constraints.specs.Abstraction.{Conjuncts}
use Rattle.column_table.specs.State.{ColumnTable, Shows, Fits, shown}
use Rattle.column_table.specs.Words.{columns_of}
use Rattle.column_table.proofs.Encoding.{columns-size}
use Rattle.filter_constraint.specs.Merges.{Converted}

pub shows-itself : (s : Conjuncts) (cells marks : List ℕ) → Fits cells marks →
    Shows s (columns_of cells) marks (shown s (columns_of cells) marks)
shows-itself s cells marks F = record { size = columns-size cells; column = λ a l. refl; fine = F.fine }

pub fits-converted : (s : Conjuncts) (t own nodes cells converted marks : List ℕ) → Fits cells marks →
    Converted t own nodes cells converted → Fits converted marks
fits-converted s t own nodes cells converted marks F c = go (length own) refl
  where
    go : (k : ℕ) → length own ≡ k → Fits converted marks
    go zero e = subst (λ x. Fits x marks) (sym (c.same e)) F
    go (suc k) e =
        record {
          size = c.size ∙ F.size;
          narrow = F.narrow;
          fine = (c.literals (omega (arith, e)) [] s marks (shown s (columns_of cells) marks) (shows-itself s cells marks F)).fine;
        }

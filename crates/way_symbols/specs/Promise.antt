-- What the call promises in words of rows (02, 2.9 and 2.10), as in_the_way's `WayPromise`: rows have null or any symbol in Text
-- columns, and a line is true of a row by the keys of the text pool.
use Rattle.std.specs.Prelude.{◌≡◌, true, List, ℕ, ◌≤◌, ◌<◌, length, get_or}
use Rattle.three_valued.specs.Logic.{is_true}
use Rattle.truth.specs.FromBytes.{aexpr_at}
use Rattle.merge.specs.Minterms.{minterms}
use Rattle.merge.specs.Plain.{plain_screen}
use Rattle.merge.specs.Demand.{Row}
use Rattle.symbol_screens.specs.Reading.{held_at}
use Rattle.symbol_screens.specs.Rows.{truth_with, passes_with, IsRowWith}

module _ (text t rs p : List ℕ) (used root : ℕ) where
  abbrev pub lines : List ℕ
  lines = minterms (aexpr_at rs p used) root

  -- The row passes the screen without line i: every line but number i is true of it.
  abbrev pub PassesWithoutWith : ℕ → Row → Type 0
  PassesWithoutWith i row =
      (j : ℕ) → j < length lines → (j ≡ i → ⊥) → is_true (truth_with text (held_at rs p used) row (get_or lines j 0)) ≡ true

  -- Some row passes without line i.
  pub record SomePassesWith (i : ℕ) : Type 0 where
    pub row : Row
    pub is : IsRowWith t (aexpr_at rs p used) root row
    pub passed : PassesWithoutWith i row

  abbrev pub NonePassesWith : ℕ → Type 0
  NonePassesWith i = (row : Row) → IsRowWith t (aexpr_at rs p used) root row → PassesWithoutWith i row → ⊥

  pub record WayPromiseWith (answer line : ℕ) : Type 0 where
    pub plain : 256 ≤ answer → plain_screen t (aexpr_at rs p used) root ≡ true
    pub passing : answer ≡ 256 →
        (row : Row) × IsRowWith t (aexpr_at rs p used) root row × (passes_with text rs p used root row ≡ true)
    pub nothing : 256 < answer → (row : Row) → IsRowWith t (aexpr_at rs p used) root row →
        passes_with text rs p used root row ≡ true → ⊥
    pub found : answer ≡ 257 → (line < length lines) × SomePassesWith line
    pub first : answer ≡ 257 → (i : ℕ) → i < line → NonePassesWith i
    pub none : answer ≡ 258 → (i : ℕ) → i < length lines → NonePassesWith i
    pub several : answer ≡ 258 → 1 < length lines

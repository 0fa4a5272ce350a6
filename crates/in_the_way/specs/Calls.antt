-- What the C call gives for each answer, and what it promises in words of rows (02, 2.9) of a screen without symbols.
use Rattle.std.specs.Prelude.{◌≡◌, Bool, true, List, [], ◌∷◌, ℕ, ◌≤◌, ◌<◌, length, get_or}
use Rattle.listed.specs.Listed.{listed}
use Rattle.truth.specs.AExpr.{AExpr}
use Rattle.three_valued.specs.Logic.{is_true}
use Rattle.truth.specs.FromBytes.{aexpr_at, truth_in}
use Rattle.merge.specs.Minterms.{minterms}
use Rattle.merge.specs.Plain.{plain_screen}
use Rattle.merge.specs.Demand.{Row, IsRow, passes}
use Rattle.judge_lines.specs.WayAnswer.{WayAnswer}
use Rattle.judge_lines.specs.WayAnswer as way

-- 256 a row passes already, 257 the line is found, 258 no single line
abbrev pub way_number : WayAnswer → ℕ
way_number (way.Refused k) = k
way_number way.Passes = 256
way_number (way.Line i) = 257
way_number way.NoLine = 258

-- the line that stands in `line` after the call, which found `old` there
abbrev pub line_out : WayAnswer → ℕ → ℕ
line_out (way.Refused k) old = old
line_out way.Passes old = old
line_out (way.Line i) old = i
line_out way.NoLine old = old

-- Every call ends in a listed answer: 1 to 7, 8, 9, 17, or 256 to 258.
abbrev pub way_listed : ℕ → Bool
way_listed r = listed (1 ∷ 2 ∷ 3 ∷ 4 ∷ 5 ∷ 6 ∷ 7 ∷ 8 ∷ 9 ∷ 17 ∷ 256 ∷ 257 ∷ 258 ∷ []) r

-- The row passes the screen without line i: every line but number i is true of it.
abbrev pub PassesWithout : (ℕ → AExpr ℕ) → List ℕ → ℕ → Row → Type 0
PassesWithout R lines i row =
    (j : ℕ) → j < length lines → (j ≡ i → ⊥) → is_true (truth_in R row (get_or lines j 0)) ≡ true

module _ (t rs p : List ℕ) (used root : ℕ) where
  abbrev pub lines : List ℕ
  lines = minterms (aexpr_at rs p used) root

  -- Some row passes without line i.
  pub record SomePasses (i : ℕ) : Type 0 where
    pub row : Row
    pub is : IsRow t (aexpr_at rs p used) root row
    pub passed : PassesWithout (aexpr_at rs p used) lines i row

  abbrev pub NonePasses : ℕ → Type 0
  NonePasses i = (row : Row) → IsRow t (aexpr_at rs p used) root row → PassesWithout (aexpr_at rs p used) lines i row → ⊥

  -- Rows are those of demand 3, with whole numbers, halves and nulls. With 256 some row passes the screen; with 257 and
  -- 258 none does. With 257 some row passes without the line answered, and none without any single earlier one; with 258
  -- none passes without any single line, so a screen of one line is never answered so: without it every row passes.
  pub record WayPromise (answer line : ℕ) : Type 0 where
    pub plain : 256 ≤ answer → plain_screen t (aexpr_at rs p used) root ≡ true
    pub passing : answer ≡ 256 → (row : Row) × IsRow t (aexpr_at rs p used) root row × (passes rs p used root row ≡ true)
    pub nothing : 256 < answer → (row : Row) → IsRow t (aexpr_at rs p used) root row → passes rs p used root row ≡ true → ⊥
    pub found : answer ≡ 257 → (line < length lines) × SomePasses line
    pub first : answer ≡ 257 → (i : ℕ) → i < line → NonePasses i
    pub none : answer ≡ 258 → (i : ℕ) → i < length lines → NonePasses i
    pub several : answer ≡ 258 → 1 < length lines

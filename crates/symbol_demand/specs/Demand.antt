-- Demand 3 (01, 'Statements and samples') of screens with symbols, as statements; they are proved in proofs/Demand.antt. text
-- is the text pool, t the column table, rs the records, p the pool, used and root the screen's; the screen returned is
-- the same with the records at exit and the root and used count answered, or the one sent if the answer is unchanged.
use Rattle.std.specs.Prelude.{◌≡◌, true, false, cond, List, [], ◌∷◌, ◌↔◌, ℕ, suc, ◌≤◌, ◌<◌, length}
use Rattle.checking.specs.Check.{table_ok}
use Rattle.truth.specs.AExpr.{AExpr}
use Rattle.truth.specs.FromBytes.{aexpr_at}
use Rattle.merge.specs.declared.answer.RewriteAnswer.TheVariants as answer
use Rattle.merge.specs.Plain.{plain_screen}
use Rattle.merge.specs.Demand.{Row, IsRow, root_after, used_after, is_refused, is_nothing, AreBytes}
use Rattle.merge.specs.Passes.{edge_columns, screen_equalities}
use Rattle.merge.specs.Usable.{UsableIn}
use Rattle.symbol_screens.specs.Rewriting.{lent, rewrite_answer_with, rewrite_bytes_with, rewrite_passes_with}
use Rattle.symbol_screens.specs.Rows.{IsRowWith, passes_with}

-- A chain is a list of rows, of any length, none too.
abbrev pub IsChainWith : List ℕ → (ℕ → AExpr ℕ) → ℕ → List Row → Type 0
IsChainWith t R root [] = Unit {0}
IsChainWith t R root (row ∷ chain) = IsRowWith t R root row × IsChainWith t R root chain

-- Where no column is a Text, the rows are those of a screen without symbols.
abbrev pub RowsAsEver : Type 0
RowsAsEver =
    (t : List ℕ) (R : ℕ → AExpr ℕ) (root : ℕ) (row : Row) → table_ok t ≡ true → IsRowWith t R root row ↔ IsRow t R root row

-- How many rows of a chain pass.
abbrev pub rows_passing_with : List ℕ → List ℕ → List ℕ → ℕ → ℕ → List Row → ℕ
rows_passing_with text rs p used root [] = 0
rows_passing_with text rs p used root (row ∷ chain) =
    cond (passes_with text rs p used root row) (suc (rows_passing_with text rs p used root chain))
    (rows_passing_with text rs p used root chain)

module _ (text t rs p : List ℕ) (used root : ℕ) where
  -- Rewriting refuses it nothing.
  abbrev pub AcceptedWith : Type 0
  AcceptedWith = is_refused (rewrite_answer_with text t rs p used root) ≡ false

  -- The screen returned.
  abbrev pub bytes_returned : List ℕ
  bytes_returned = rewrite_bytes_with text t rs p used root

  abbrev pub used_returned : ℕ
  used_returned = used_after (rewrite_answer_with text t rs p used root) used

  abbrev pub root_returned : ℕ
  root_returned = root_after (rewrite_answer_with text t rs p used root) root

-- Each row passes under the screen returned exactly when it passes under the screen sent, in fact whatever keys it holds;
-- of every chain as many rows pass; where the answer is nothing passes, that is none; and of a plain screen, nothing
-- passes is answered exactly when no row at all passes.
pub record Demand3With (text t rs p : List ℕ) (used root : ℕ) : Type 0 where
  pub rows : (row : Row) →
      passes_with text (bytes_returned text t rs p used root) p (used_returned text t rs p used root)
      (root_returned text t rs p used root) row ≡ passes_with text rs p used root row
  pub counts : (chain : List Row) →
      rows_passing_with text (bytes_returned text t rs p used root) p (used_returned text t rs p used root)
      (root_returned text t rs p used root) chain ≡ rows_passing_with text rs p used root chain
  pub nothing : is_nothing (rewrite_answer_with text t rs p used root) ≡ true → (chain : List Row) →
      rows_passing_with text rs p used root chain ≡ 0
  pub exactly : plain_screen t (aexpr_at rs p used) root ≡ true →
      (is_nothing (rewrite_answer_with text t rs p used root) ≡ true)
      ↔ ((row : Row) → IsRowWith t (aexpr_at rs p used) root row → passes_with text rs p used root row ≡ true → ⊥)

abbrev pub Demand3WithHolds : Type 0
Demand3WithHolds =
    (text t rs p : List ℕ) (used root : ℕ) → AreBytes rs → AcceptedWith text t rs p used root →
    Demand3With text t rs p used root

-- Checking accepts the screen returned, and its tree is within 4,096 records.
abbrev pub ReturnedUsableWith : Type 0
ReturnedUsableWith =
    (text t rs p : List ℕ) (used root : ℕ) → AreBytes rs → AcceptedWith text t rs p used root →
    UsableIn (lent text) t (bytes_returned text t rs p used root) p (used_returned text t rs p used root)
    (root_returned text t rs p used root)

-- Rewriting it, unless that is refused, answers unchanged (2.12).
abbrev pub TwiceHoldsWith : Type 0
TwiceHoldsWith =
    (text t rs p : List ℕ) (used root : ℕ) → AreBytes rs → AcceptedWith text t rs p used root →
    AcceptedWith text t (bytes_returned text t rs p used root) p (used_returned text t rs p used root)
    (root_returned text t rs p used root) →
    rewrite_answer_with text t (bytes_returned text t rs p used root) p (used_returned text t rs p used root)
    (root_returned text t rs p used root) ≡ answer.Unchanged

-- The root of a rewritten screen is one of the records added; the old root is one of those sent.
abbrev pub RootIsNewWith : Type 0
RootIsNewWith =
    (text t rs p : List ℕ) (used root new_root new_used : ℕ) →
    rewrite_answer_with text t rs p used root ≡ answer.Rewritten new_root new_used →
    (root < used) × (used ≤ new_root) × (new_root < new_used)

-- The passes over the equalities are at most as many as these have different columns (2.13).
abbrev pub PassesAtMostColumnsWith : Type 0
PassesAtMostColumnsWith =
    (text rs p : List ℕ) (used root : ℕ) →
    rewrite_passes_with text rs p used root ≤ length (edge_columns (screen_equalities rs p used root))

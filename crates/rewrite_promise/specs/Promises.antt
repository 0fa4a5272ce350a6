-- What rewriting a screen with symbols promises beyond being equal to its definition, in 01's own words.
use Rattle.std.specs.Prelude.{ℕ, ◌*◌, ◌≤◌, ◌<◌, true, cond, List, ◌↔◌, ◌≡◌, ltb, length, get_or}
use Rattle.truth.specs.FromBytes.{aexpr_at}
use Rattle.merge.specs.Plain.{plain_screen}
use Rattle.merge.specs.Demand.{Row}
use Rattle.merge.specs.Usable.{UsableIn, SameTest}
use Rattle.merge.specs.Passes.{edge_columns, screen_equalities}
use Rattle.reasons.specs.Explained.{refuse_long}
use Rattle.rewrite_number.specs.Answers.{rewrite_number}
use Rattle.symbol_screens.specs.Rewriting.{lent, rewrite_answer_with}
use Rattle.symbol_screens.specs.Rows.{IsRowWith, passes_with}
use Rattle.symbol_rows.specs.RowTestWith.{test_row_answer_with}
use Rattle.symbol_demand.specs.Demand.{IsChainWith, rows_passing_with}

-- The root, or the used count, of the screen returned: what an answer over 256 wrote, or what was sent.
abbrev pub returned : ℕ → ℕ → ℕ → ℕ
returned answer sent out = cond (ltb 256 answer) out sent

-- From rs to out, only bytes of the records from number `first` on and below `end` have changed.
pub record BytesKept (rs out : List ℕ) (first end : ℕ) : Type 0 where
  pub lent : length out ≡ length rs
  pub before : (i : ℕ) → i < 16 * first → get_or out i 0 ≡ get_or rs i 0
  pub behind : (i : ℕ) → 16 * end ≤ i → get_or out i 0 ≡ get_or rs i 0

-- Of every row's bytes and null marks, whatever they are, the row test answers of the one screen as of the other.
abbrev pub SameTestsWith : (text t rs p : List ℕ) (used root : ℕ) (out : List ℕ) (new_used new_root : ℕ) → Type 0
SameTestsWith text t rs p used root out new_used new_root =
    (values : List ℕ) (nulls : ℕ) →
    SameTest (test_row_answer_with text t rs p used root values nulls)
    (test_row_answer_with text t out p new_used new_root values nulls)

-- Demand 3 of 01, for one call of rewriting: text was lent, rs, used and root were sent; out, newRoot, newUsed and made stand
-- in the records, in new_root, in new_used and in passes after the call. If it did not refuse, each row passes under the
-- screen returned exactly when it passes under the screen sent, and of every chain as many rows pass; with 257 no row of any
-- chain passes; and of a plain screen, 257 is the answer exactly when no row at all passes. The screen returned is itself
-- accepted by checking, with a tree of at most 4,096 records; so testing a row, whatever its bytes and null marks, refuses
-- it under both screens with the same number or under neither, and it passes under both or under neither. The root of a
-- rewritten screen is one of the records added, so the screen sent still stands under its old root. Rewriting the screen
-- returned, in any text buffer, however long its text, unless that is refused, answers unchanged. No more passes are made
-- over the equalities than they have different columns (02, 2.13).
pub record RewritePromiseWith (text t rs p : List ℕ) (used root answer : ℕ) (out : List ℕ) (new_root new_used made : ℕ) :
    Type 0 where
  pub rows : 256 ≤ answer → (row : Row) → IsRowWith t (aexpr_at rs p used) root row
      → passes_with text out p (returned answer used new_used) (returned answer root new_root) row
      ≡ passes_with text rs p used root row
  pub counts : 256 ≤ answer → (chain : List Row) → IsChainWith t (aexpr_at rs p used) root chain
      → rows_passing_with text out p (returned answer used new_used) (returned answer root new_root) chain
      ≡ rows_passing_with text rs p used root chain
  pub nothing : answer ≡ 257 → (chain : List Row) → IsChainWith t (aexpr_at rs p used) root chain
      → rows_passing_with text rs p used root chain ≡ 0
  pub exactly : 256 ≤ answer → plain_screen t (aexpr_at rs p used) root ≡ true
      → (answer ≡ 257)
      ↔ ((row : Row) → IsRowWith t (aexpr_at rs p used) root row → passes_with text rs p used root row ≡ true → ⊥)
  pub usable : 256 ≤ answer
      → UsableIn (lent text) t out p (returned answer used new_used) (returned answer root new_root)
  pub tests : 256 ≤ answer
      → SameTestsWith text t rs p used root out (returned answer used new_used) (returned answer root new_root)
  pub root-is_new : answer ≡ 258 → (root < used) × (used ≤ new_root) × (new_root < new_used)
  pub again : 256 ≤ answer → (size len : ℕ)
      → 256 ≤ rewrite_number (refuse_long size len
      (rewrite_answer_with text t out p (returned answer used new_used) (returned answer root new_root)))
      → rewrite_number (refuse_long size len
      (rewrite_answer_with text t out p (returned answer used new_used) (returned answer root new_root))) ≡ 256
  pub ceiling : 256 ≤ answer → made ≤ length (edge_columns (screen_equalities rs p used root))

-- A row of numbers, column by column. Assumes nothing.
use mathlib.Core.Path.{◌≡◌, refl, sym, ◌∙◌, ap}
use mathlib.Core.Bool.{true, false, true≢false}
use mathlib.Core.List.{List}
use Prim.Native.Nat.{ℕ, ◌+◌, ◌*◌, ◌≤◌, ◌<◌}
use native.Mathlib.Omega.{arith}
use lib.ListN.{length}
use Rattle.records.specs.Bytes.{value_at}
use Rattle.sorted.proofs.Parts.{last}
use Rattle.text_order.specs.Codes.{code_of}
use Rattle.ranked_screen.specs.Screen.{write_value}
use Rattle.ranked_screen.proofs.Pools.{value-new, value-old}
use Rattle.row_ranks.specs.RowRanks.{holds_symbol, RowRanks}

module _ {t C row : List ℕ} {nulls : ℕ} where
  pub numbered-none : {out : List ℕ} → RowRanks t C row nulls 0 out
  numbered-none = record { kept = λ c h. absurd (omega arith); coded = λ c h. absurd (omega arith) }

  module _ {c : ℕ} {out out' : List ℕ} (w : ℕ) (room : 8 * c + 8 ≤ length out) (low : w < 18446744073709551616)
      (e : out' ≡ write_value out c w) (n : RowRanks t C row nulls c out) where
    new : (d : ℕ) → d ≡ c → value_at out' d ≡ w
    new d f = ap (value_at out') f ∙ ap (λ l. value_at l c) e ∙ value-new out c w room low

    old : (d : ℕ) → d < c → value_at out' d ≡ value_at out d
    old d f = ap (λ l. value_at l d) e ∙ value-old out c w room d f

    pub symbol-more : holds_symbol t nulls c ≡ true → w ≡ code_of C (value_at row c) → RowRanks t C row nulls (c + 1) out'
    symbol-more k p = record {
      kept = λ d h f. last d c h (λ (u : d < c). old d u ∙ n.kept d u f)
          (λ (u : d ≡ c). absurd (true≢false (sym k ∙ ap (holds_symbol t nulls) (sym u) ∙ f)));
      coded = λ d h f. last d c h (λ (u : d < c). old d u ∙ n.coded d u f)
          (λ (u : d ≡ c). new d u ∙ p ∙ ap (λ z. code_of C (value_at row z)) (sym u));
    }

    pub value-more : holds_symbol t nulls c ≡ false → w ≡ value_at row c → RowRanks t C row nulls (c + 1) out'
    value-more k p = record {
      kept = λ d h f. last d c h (λ (u : d < c). old d u ∙ n.kept d u f)
          (λ (u : d ≡ c). new d u ∙ p ∙ ap (value_at row) (sym u));
      coded = λ d h f. last d c h (λ (u : d < c). old d u ∙ n.coded d u f)
          (λ (u : d ≡ c). absurd (true≢false (sym f ∙ ap (holds_symbol t nulls) u ∙ k)));
    }

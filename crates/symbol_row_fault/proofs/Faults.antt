-- The two ends of the row's checks behind its marks.
use mathlib.Core.Path.{◌≡◌, refl, sym, ◌∙◌, ap}
use mathlib.Core.Bool.{Bool, true, false, cond, not, ◌&&◌}
use mathlib.Core.List.{List}
use Prim.Native.Nat.{ℕ, ◌+◌, ◌*◌}
use native.Mathlib.Numerals.{add-one}
use lib.Dec.{eqb}
use lib.ListN.{length}
use borrow.Author.Tests.{eq-eqb, not-true, not-false}
use Rattle.row_test.specs.RowTest.{marks_ok}
use Rattle.symbol_screens.specs.Rewriting.{lent}
use Rattle.symbol_rows.specs.RowTestWith.{columns_ok_with, row_fault_with}

module _ (text t row : List ℕ) (nulls : ℕ) (long : length row ≡ 8 * length t) (m c : Bool) (em : m ≡ marks_ok (length t) nulls)
    (hm : not m ≡ false) (ec : c ≡ columns_ok_with (length text + 1) t row nulls) where
  columns : c ≡ columns_ok_with (lent text) t row nulls
  columns = ec ∙ ap (λ (n : ℕ). columns_ok_with n t row nulls) (add-one (length text))

  fault_is : row_fault_with text t row nulls ≡ cond c 0 13
  unfolding row_fault_with
  fault_is = rw (eq-eqb (length row) (8 * length t) long, ← em, not-false m hm, ← columns)

  pub bad-column : not c ≡ true → 13 ≡ row_fault_with text t row nulls
  bad-column h = sym (fault_is ∙ rw (not-true c h))

  pub no_fault : not c ≡ false → 0 ≡ row_fault_with text t row nulls
  no_fault h = sym (fault_is ∙ rw (not-false c h))

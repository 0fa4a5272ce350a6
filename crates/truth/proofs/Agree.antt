-- A record's cell depends only on the records at and below it.
-- Assumes nothing.
use mathlib.Core.Path.{◌≡◌, refl, ◌∙◌, ap}
use mathlib.Core.List.{List}
use mathlib.Core.Option.{Option}
use Prim.Native.Nat.{ℕ, ◌<◌}
use borrow.Author.Tests.{lt-ltb}
use Rattle.records.proofs.Courses.{course-agree}
use Rattle.truth.specs.Order.{Order}
use Rattle.truth.specs.AExpr.{AExpr, Column, Literal, Null, BinaryExpr, Not, IsNull, IsNotNull, IsBetween}
use Rattle.truth.specs.AExpr.{ListLiteral, IsIn, Missing}
use Rattle.truth.specs.Cell.{TruthKeys, Cell, no_cell, step, cell_at}
use Rattle.truth.specs.FromBytes.{aexpr_of, aexpr_at}

module _ {K Val : Type 0} (key : Val → K) (O : Order K) (tk : TruthKeys O) where
  -- Two tables with the same cells give every record the same cell.
  pub step-agree :
      (row : ℕ → Option K) (C D : ℕ → Cell K Val) → ((a : ℕ) → C a ≡ D a) →
      (r : AExpr Val) → step key O tk row C r ≡ step key O tk row D r
  step-agree row C D h (Column c) = refl
  step-agree row C D h (Literal v) = refl
  step-agree row C D h Null = refl
  step-agree row C D h (BinaryExpr op x y) = rw (h x, h y)
  step-agree row C D h (Not x) = rw (h x)
  step-agree row C D h (IsNull x) = rw (h x)
  step-agree row C D h (IsNotNull x) = rw (h x)
  step-agree row C D h (IsBetween c d x y z) = rw (h x, h y, h z)
  step-agree row C D h (ListLiteral m l) = refl
  step-agree row C D h (IsIn e x y) = rw (h x, h y)
  step-agree row C D h Missing = refl

  -- Records that are the same below u have the same cells there: what is appended changes nothing.
  pub cells_agree :
      (R S : ℕ → AExpr Val) (row : ℕ → Option K) (u : ℕ) → ((n : ℕ) → n < u → R n ≡ S n) →
      (n : ℕ) → n < u → cell_at key O tk R row n ≡ cell_at key O tk S row n
  cells_agree R S row u same =
      course-agree (λ a. no_cell) (λ C i. step key O tk row C (R i)) (λ C i. step key O tk row C (S i)) u
      (λ n h C D e. step-agree row C D e (R n) ∙ ap (step key O tk row D) (same n h))

-- A record that is used is what its bytes say.
pub used-same : (rs p : List ℕ) (used n : ℕ) → n < used → aexpr_at rs p used n ≡ aexpr_of rs p n
unfolding aexpr_at
used-same rs p used n h = rw (lt-ltb n used h)

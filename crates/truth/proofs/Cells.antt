-- The equation of the row test: a record's cell is its step over the cells below it.
use mathlib.Core.Path.{◌≡◌, refl, sym, ◌∙◌, ap, subst}
use mathlib.Core.Bool.{◌&&◌}
use mathlib.Core.Option.{Option}
use Prim.Native.Nat.{ℕ, ◌<◌}
use Rattle.records.proofs.Courses.{course-law}
use Rattle.three_valued.specs.declared.logic.Truth.{Truth}
use Rattle.three_valued.specs.declared.logic.Truth.TheVariants.{False, Unknown, True}
use Rattle.truth.specs.Order.{Order}
use Rattle.three_valued.specs.Logic.{and3, is_true}
use Rattle.truth.specs.AExpr.{AExpr, Column, Literal, Null, BinaryExpr, Not, IsNull, IsNotNull, IsBetween}
use Rattle.truth.specs.AExpr.{ListLiteral, IsIn, Missing, Inputs}
use Rattle.truth.specs.AExpr.{And, LogicalAnd}
use Rattle.truth.specs.Cell.{TruthKeys, Cell, no_cell, step, cell_at, truth_at}

-- A chain of And is true exactly if both sides are.
pub and_is_true : (a b : Truth) → is_true (and3 a b) ≡ (is_true a && is_true b)
and_is_true True True = refl
and_is_true True Unknown = refl
and_is_true True False = refl
and_is_true Unknown True = refl
and_is_true Unknown Unknown = refl
and_is_true Unknown False = refl
and_is_true False True = refl
and_is_true False Unknown = refl
and_is_true False False = refl

module _ {K Val : Type 0} (key : Val → K) (O : Order K) (tk : TruthKeys O) where
  -- A record with inputs below n has the same cell over two tables that agree below n.
  pub step_same :
      (row : ℕ → Option K) (n : ℕ) (C D : ℕ → Cell K Val) → ((a : ℕ) → a < n → C a ≡ D a) →
      (r : AExpr Val) → Inputs n r → step key O tk row C r ≡ step key O tk row D r
  step_same row n C D h (Column c) i = refl
  step_same row n C D h (Literal v) i = refl
  step_same row n C D h Null i = refl
  step_same row n C D h (BinaryExpr op x y) i = rw (h x i.0, h y i.1)
  step_same row n C D h (Not x) i = rw (h x i)
  step_same row n C D h (IsNull x) i = rw (h x i)
  step_same row n C D h (IsNotNull x) i = rw (h x i)
  step_same row n C D h (IsBetween c d x y z) i = rw (h x i.0, h y i.1, h z i.2)
  step_same row n C D h (ListLiteral m l) i = refl
  step_same row n C D h (IsIn e x y) i = rw (h x i.0, h y i.1)
  step_same row n C D h Missing i = refl

  pub cell_law :
      (R : ℕ → AExpr Val) (row : ℕ → Option K) (n : ℕ) → Inputs n (R n) →
      cell_at key O tk R row n ≡ step key O tk row (λ i. cell_at key O tk R row i) (R n)
  cell_law R row n i =
      course-law (λ a. no_cell) (λ C i. step key O tk row C (R i)) n (λ C D h. step_same row n C D h (R n) i)

  -- The same where the record is known.
  pub cell_at_lem :
      (R : ℕ → AExpr Val) (row : ℕ → Option K) (n : ℕ) (r : AExpr Val) → R n ≡ r → Inputs n r →
      cell_at key O tk R row n ≡ step key O tk row (λ i. cell_at key O tk R row i) r
  cell_at_lem R row n r e i =
      cell_law R row n (subst (Inputs n) (sym e) i) ∙ ap (step key O tk row (λ i. cell_at key O tk R row i)) e

  -- A record that joins two by And is true exactly if both are; so a chain is, exactly if all its conjuncts are.
  pub and_node :
      (R : ℕ → AExpr Val) (row : ℕ → Option K) (n x y : ℕ) → R n ≡ BinaryExpr And x y → (x < n) × (y < n) →
      is_true (truth_at key O tk R row n) ≡ (is_true (truth_at key O tk R row x) && is_true (truth_at key O tk R row y))
  and_node R row n x y e i =
      ap (λ c. is_true c.truth) (cell_at_lem R row n (BinaryExpr And x y) e i)
      ∙ and_is_true (truth_at key O tk R row x) (truth_at key O tk R row y)

  pub logical_and_node :
      (R : ℕ → AExpr Val) (row : ℕ → Option K) (n x y : ℕ) → R n ≡ BinaryExpr LogicalAnd x y → (x < n) × (y < n) →
      is_true (truth_at key O tk R row n) ≡ (is_true (truth_at key O tk R row x) && is_true (truth_at key O tk R row y))
  logical_and_node R row n x y e i =
      ap (λ c. is_true c.truth) (cell_at_lem R row n (BinaryExpr LogicalAnd x y) e i)
      ∙ and_is_true (truth_at key O tk R row x) (truth_at key O tk R row y)

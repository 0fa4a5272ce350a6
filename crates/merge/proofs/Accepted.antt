-- What checking establishes makes the inputs of each record fall.
use mathlib.Core.Path.{◌≡◌, refl}
use mathlib.Core.Bool.{Bool, true, false, ◌&&◌, cond, and-eq-true_iff}
use mathlib.Core.List.{List}
use Prim.Native.Nat.{ℕ, ◌<◌}
use lib.Dec.{ltb}
use borrow.Author.Tests.{ltb-true}
use Rattle.records.specs.Record.{node, record_at}
use Rattle.record_check.specs.Fit.{reach_ok_in}
use Rattle.checking.specs.Checked.{Checked, CheckedIn}
use Rattle.records.specs.declared.operator.Operator.{Operator}
use Rattle.records.specs.declared.operator.Operator.TheVariants as operator
use Rattle.records.specs.declared.record.Record.{Record}
use Rattle.records.specs.declared.record.Record.TheVariants as kind
use Rattle.records.specs.Operator.{is_comparison, is_division}
use Rattle.truth.specs.Comparison.{Comparison, Eq, NotEq, Lt, LtEq, Gt, GtEq}
use Rattle.truth.specs.AExpr.{AExpr, BinaryExpr, Missing, Inputs, WF}
use Rattle.truth.specs.AExpr.{BinaryOp, Compare, EqValidity, NotEqValidity, And, Or, Xor, LogicalAnd, LogicalOr}
use Rattle.truth.specs.AExpr.{FloorDivide, Modulus}
use Rattle.truth.specs.FromBytes.{binary_expr, to_aexpr, aexpr_of, aexpr_at}

-- What holds of a binary record of every operator: by what the operator takes, values, Ints or Truths.
pub binary-ind :
    (C : AExpr ℕ → Type 0) (x y : ℕ) → C Missing → C (BinaryExpr FloorDivide x y) × C (BinaryExpr Modulus x y) →
    (o : Operator) →
    (is_comparison o ≡ true → (c : Comparison) → C (BinaryExpr (Compare c) x y)) →
    (is_comparison o ≡ true → C (BinaryExpr EqValidity x y) × C (BinaryExpr NotEqValidity x y)) →
    (is_comparison o ≡ false → is_division o ≡ false → (b : BinaryOp) → C (BinaryExpr b x y)) → C (binary_expr o x y)
binary-ind C x y m d operator.Eq v w l = v refl Eq
binary-ind C x y m d operator.EqValidity v w l = (w refl).0
binary-ind C x y m d operator.NotEq v w l = v refl NotEq
binary-ind C x y m d operator.NotEqValidity v w l = (w refl).1
binary-ind C x y m d operator.Lt v w l = v refl Lt
binary-ind C x y m d operator.LtEq v w l = v refl LtEq
binary-ind C x y m d operator.Gt v w l = v refl Gt
binary-ind C x y m d operator.GtEq v w l = v refl GtEq
binary-ind C x y m d operator.Plus v w l = m
binary-ind C x y m d operator.Minus v w l = m
binary-ind C x y m d operator.Multiply v w l = m
binary-ind C x y m d operator.RustDivide v w l = m
binary-ind C x y m d operator.TrueDivide v w l = m
binary-ind C x y m d operator.FloorDivide v w l = d.0
binary-ind C x y m d operator.Modulus v w l = d.1
binary-ind C x y m d operator.And v w l = l refl refl And
binary-ind C x y m d operator.Or v w l = l refl refl Or
binary-ind C x y m d operator.Xor v w l = l refl refl Xor
binary-ind C x y m d operator.LogicalAnd v w l = l refl refl LogicalAnd
binary-ind C x y m d operator.LogicalOr v w l = l refl refl LogicalOr

binary-inputs : (n : ℕ) (o : Operator) (x y : ℕ) → (x < n) × (y < n) → Inputs n (binary_expr o x y)
binary-inputs n o x y h = binary-ind (Inputs n) x y tt (h, h) o (λ e c. h) (λ e. (h, h)) (λ e d b. h)

pub one : (n x : ℕ) → (ltb x n && true) ≡ true → x < n
one n x h = ltb-true x n ((and-eq-true_iff (ltb x n) true).0 h).0

pub two : (n x y : ℕ) → (ltb x n && (ltb y n && true)) ≡ true → (x < n) × (y < n)
two n x y h =
    let q = (and-eq-true_iff (ltb x n) (ltb y n && true)).0 h in (ltb-true x n q.0, one n y q.1)

pub three : (n x y z : ℕ) → (ltb x n && (ltb y n && (ltb z n && true))) ≡ true → (x < n) × (y < n) × (z < n)
three n x y z h =
    let q = (and-eq-true_iff (ltb x n) (ltb y n && (ltb z n && true))).0 h in
    let s = two n y z q.1 in
    (ltb-true x n q.0, s.0, s.1)

inputs-below : (text : ℕ) (t p : List ℕ) (n : ℕ) (r : Record) → reach_ok_in text t p r (node n) ≡ true →
    Inputs n (to_aexpr p r)
unfolding reach_ok_in
inputs-below text t p n kind.Invalid h = tt
inputs-below text t p n (kind.Column c) h = tt
inputs-below text t p n (kind.Literal ty v) h = tt
inputs-below text t p n (kind.Null ty) h = tt
inputs-below text t p n (kind.Binary o x y) h = binary-inputs n o x.0 y.0 (two n x.0 y.0 h)
inputs-below text t p n (kind.Not x) h = one n x.0 h
inputs-below text t p n (kind.IsNull x) h = one n x.0 h
inputs-below text t p n (kind.IsNotNull x) h = one n x.0 h
inputs-below text t p n (kind.IsBetween k x low high) h = three n x.0 low.0 high.0 h
inputs-below text t p n (kind.List ty marked start count) h = tt
inputs-below text t p n (kind.IsIn equal x list) h = two n x.0 list.0 h

pub inputs-fall_in : (text : ℕ) (t rs p : List ℕ) (used root : ℕ) → CheckedIn text t rs p used root →
    WF (aexpr_at rs p used)
unfolding aexpr_at aexpr_of
inputs-fall_in text t rs p used root ok n = go (ltb n used) refl
  where
    go : (b : Bool) → ltb n used ≡ b → Inputs n (cond b (to_aexpr p (record_at rs (node n))) Missing)
    go true e = inputs-below text t p n (record_at rs (node n)) (ok.records n (ltb-true n used e)).reach
    go false e = tt

pub inputs-fall : (t rs p : List ℕ) (used root : ℕ) → Checked t rs p used root → WF (aexpr_at rs p used)
inputs-fall t rs p used root ok = inputs-fall_in 0 t rs p used root ok

-- One law for each kind of record: what its inputs' truths and values make of it. The results of the code's calls stand
-- as variables with their equations. f is what was read of record n.
-- Assumes nothing.
use mathlib.Core.Path.{◌≡◌, refl, sym, ◌∙◌, ap, subst}
use mathlib.Core.Bool.{Bool, true, false, cond, not, true≢false}
use mathlib.Core.List.{List}
use mathlib.Core.Logic.{◌⊎◌, ⊎_elim}
use mathlib.Core.Option.{Option, none, some}
use Prim.Native.Nat.{ℕ, zero, suc, ◌+◌, ◌*◌, ◌-◌, ◌<◌, ◌≤◌}
use native.Mathlib.Omega.{arith}
use lib.Dec.{eqb}
use lib.IntN.{ℤ}
use lib.ListN.{length}
use borrow.Author.Tests.{ne_eqb, lt-leb, eqb-true}
use Rattle.records.specs.Operator.{operator_at, is_division}
use Rattle.records.specs.Record.{fields_at, decode, record_at, closed_at, node, column_number}
use Rattle.records.specs.declared.operator.Operator.{Operator}
use Rattle.records.specs.declared.operator.Operator.TheVariants as operator
use Rattle.records.specs.declared.record.Node.{Node}
use Rattle.records.specs.declared.record.Fields.{Fields}
use Rattle.records.specs.declared.record.Record.{Record}
use Rattle.records.specs.declared.record.Record.TheVariants as kind
use Rattle.three_valued.specs.declared.logic.Truth.{Truth}
use Rattle.truth.specs.Halves.{ord_z, key}
use Rattle.three_valued.specs.Logic.{not3, of_bool}
use Rattle.truth.specs.AExpr.{AExpr, Not, IsNull, IsNotNull, IsBetween, ListLiteral, IsIn, Inputs}
use Rattle.truth.specs.Cell.{Cell, step, cell_at}
use Rattle.truth.specs.FromBytes.{binary_expr, closes_low, closes_high, values_from, to_aexpr, aexpr_of, row_keys}
use Rattle.truth.specs.FromBytes.{truth_keys, truth_in, value_in}
use Rattle.truth.specs.Evaluate.{comparison_at, compared_of, divided_of, connected_of, low_code, high_code, between_of}
use Rattle.truth.specs.Evaluate.{member_of, leaf_of, null_test, of_truth, to_truth, Served, Fit}
use Rattle.truth.specs.Evaluate.{Evaluable}
use Rattle.truth.proofs.Cells.{cell_law}
use Rattle.truth.proofs.Keys.{lt-or_le}

-- What is evaluable at n is so at each record below.
pub evaluable-below : {rs p row : List ℕ} {n : ℕ} (a : ℕ) → a < n → Evaluable rs p row n → Evaluable rs p row a
evaluable-below a h ok =
    let r = ok.room in record { room = omega arith; fit = λ m k. ok.fit m (omega arith) }

-- ---- the operators by their codes
-- What holds at 0, 1, .. below n, one by one.
abbrev pub Each : (ℕ → Type 0) → ℕ → Type 0
Each P zero = Unit {0}
Each P (suc n) = Each P n × P n

pub each_at : (P : ℕ → Type 0) (n m : ℕ) → Each P n → m < n → P m
each_at P zero m e h = absurd (omega arith)
each_at P (suc n) m e h =
    ⊎_elim (λ (k : m < n). each_at P n m e.0 k)
    (λ (k : n ≤ m). let q : n ≡ m = omega arith in subst P q e.1) (lt-or_le m n)

-- 13 and 14
each_two : (P : ℕ → Type 0) (m : ℕ) → P 13 → P 14 → 12 < m → m < 15 → P m
each_two P m x y h k =
    ⊎_elim (λ (l : m < 14). let q : 13 ≡ m = omega arith in subst P q x)
    (λ (l : 14 ≤ m). let q : 14 ≡ m = omega arith in subst P q y) (lt-or_le m 14)

-- the same from 15 on
each_from : (P : ℕ → Type 0) (m : ℕ) → Each (λ i. P (15 + i)) 5 → 14 < m → m < 20 → P m
each_from P m e h k =
    let q : 15 + (m - 15) ≡ m = omega arith in subst P q (each_at (λ i. P (15 + i)) 5 (m - 15) e (omega arith))

module _ (row : ℕ → Option ℤ) (C : ℕ → Cell ℤ ℕ) (a b : ℕ) where
  abbrev step_of : AExpr ℕ → Cell ℤ ℕ
  step_of r = step key ord_z truth_keys row C r

  compared-step :
      (code : ℕ) → code < 8 → (step_of (binary_expr (operator_at code) a b)).truth ≡ compared_of code (C a).value
      (C b).value
  unfolding operator_at compared_of comparison_at
  compared-step code h =
      each_at (λ k. (step_of (binary_expr (operator_at k) a b)).truth ≡ compared_of k (C a).value (C b).value) 8 code
      ((((((((tt, refl), refl), refl), refl), refl), refl), refl), refl) h

  divided-step :
      (code : ℕ) → 12 < code → code < 15 →
      (step_of (binary_expr (operator_at code) a b)).value ≡ divided_of code (C a).value (C b).value
  unfolding operator_at divided_of
  divided-step code h k =
      each_two (λ k. (step_of (binary_expr (operator_at k) a b)).value ≡ divided_of k (C a).value (C b).value) code
      refl refl h k

  divided-truth_step :
      (code : ℕ) → 12 < code → code < 15 →
      (step_of (binary_expr (operator_at code) a b)).truth ≡ to_truth (divided_of code (C a).value (C b).value)
  unfolding operator_at divided_of
  divided-truth_step code h k =
      each_two (λ k. (step_of (binary_expr (operator_at k) a b)).truth ≡ to_truth (divided_of k (C a).value (C b).value))
      code refl refl h k

  connected_step :
      (code : ℕ) → 14 < code → code < 20 →
      (step_of (binary_expr (operator_at code) a b)).truth ≡ connected_of code (C a).truth (C b).truth
  unfolding operator_at connected_of
  connected_step code h k =
      each_from (λ k. (step_of (binary_expr (operator_at k) a b)).truth ≡ connected_of k (C a).truth (C b).truth) code
      (((((tt, refl), refl), refl), refl), refl) h k

  -- a truth as a value: every operator but the divisions
  binary-value : (o : Operator) → is_division o ≡ false → (step_of (binary_expr o a b)).value ≡ of_truth
      (step_of (binary_expr o a b)).truth
  binary-value operator.Eq h = refl
  binary-value operator.EqValidity h = refl
  binary-value operator.NotEq h = refl
  binary-value operator.NotEqValidity h = refl
  binary-value operator.Lt h = refl
  binary-value operator.LtEq h = refl
  binary-value operator.Gt h = refl
  binary-value operator.GtEq h = refl
  binary-value operator.Plus h = refl
  binary-value operator.Minus h = refl
  binary-value operator.Multiply h = refl
  binary-value operator.RustDivide h = refl
  binary-value operator.TrueDivide h = refl
  binary-value operator.FloorDivide h = absurd (true≢false h)
  binary-value operator.Modulus h = absurd (true≢false h)
  binary-value operator.And h = refl
  binary-value operator.Or h = refl
  binary-value operator.Xor h = refl
  binary-value operator.LogicalAnd h = refl
  binary-value operator.LogicalOr h = refl

binary-inputs :
    (n code a b : ℕ) → Served code → Inputs n (binary_expr (operator_at code) a b) → (a < n) × (b < n)
unfolding operator_at
binary-inputs n code a b s =
    ⊎_elim
    (λ (h : code < 8). each_at (λ k. Inputs n (binary_expr (operator_at k) a b) → (a < n) × (b < n)) 8 code
    ((((((((tt, λ i. i), λ i. i), λ i. i), λ i. i), λ i. i), λ i. i), λ i. i), λ i. i) h)
    (λ (h : (12 < code) × (code < 20)).
    ⊎_elim
    (λ (k : code < 15). each_two (λ k. Inputs n (binary_expr (operator_at k) a b) → (a < n) × (b < n)) code (λ i. i)
    (λ i. i) h.0 k)
    (λ (k : 15 ≤ code). each_from (λ k. Inputs n (binary_expr (operator_at k) a b) → (a < n) × (b < n)) code
    (((((tt, λ i. i), λ i. i), λ i. i), λ i. i), λ i. i) (omega arith) h.1)
    (lt-or_le code 15))
    s

-- A served operator that does not compare divides or is one of logic.
above-code : (code : ℕ) → Served code → 8 ≤ code → (12 < code) × (code < 20)
above-code code s h = ⊎_elim (λ (k : code < 8). absurd (omega arith)) (λ (k : (12 < code) × (code < 20)). k) s

no_division : (code : ℕ) → Served code → (code < 8) ⊎ (15 ≤ code) → is_division (operator_at code) ≡ false
unfolding operator_at
no_division code s =
    ⊎_elim
    (λ (h : code < 8). each_at (λ k. is_division (operator_at k) ≡ false) 8 code
    ((((((((tt, refl), refl), refl), refl), refl), refl), refl), refl) h)
    (λ (h : 15 ≤ code). each_from (λ k. is_division (operator_at k) ≡ false) code
    (((((tt, refl), refl), refl), refl), refl) (omega arith) (above-code code s (omega arith)).1)

-- is_between's code and its two comparisons
between_step :
    (row : ℕ → Option ℤ) (C : ℕ → Cell ℤ ℕ) (code a b c : ℕ) →
    (step key ord_z truth_keys row C (IsBetween (closes_low (closed_at code)) (closes_high (closed_at code)) a b c)).truth
    ≡ between_of code (C a).value (C b).value (C c).value
unfolding closed_at between_of low_code high_code comparison_at
between_step row C zero a b c = refl
between_step row C (suc zero) a b c = refl
between_step row C (suc (suc zero)) a b c = refl
between_step row C (suc (suc (suc k))) a b c =
    let d0 : (suc (suc (suc k)) ≡ 0 → ⊥) = λ e. omega arith in
    let d1 : (suc (suc (suc k)) ≡ 1 → ⊥) = λ e. omega arith in
    let d2 : (suc (suc (suc k)) ≡ 2 → ⊥) = λ e. omega arith in
    rw (
      lt-leb (suc (suc (suc k))) 1 (omega arith),
      ne_eqb (suc (suc (suc k))) 0 d0,
      ne_eqb (suc (suc (suc k))) 1 d1,
      ne_eqb (suc (suc (suc k))) 2 d2,
    )

-- ---- the kinds, of fields f
module _ (p : List ℕ) (f : Fields) where
  binary-is : f.kind ≡ 4 → to_aexpr p (decode f) ≡ binary_expr (operator_at f.code) f.a f.b
  unfolding decode
  binary-is k = rw k

  not_is : f.kind ≡ 5 → to_aexpr p (decode f) ≡ Not f.a
  unfolding decode
  not_is k = rw k

  null_is : f.kind ≡ 6 → to_aexpr p (decode f) ≡ IsNull f.a
  unfolding decode
  null_is k = rw k

  not-null_is : f.kind ≡ 7 → to_aexpr p (decode f) ≡ IsNotNull f.a
  unfolding decode
  not-null_is k = rw k

  between_is :
      f.kind ≡ 8 →
      to_aexpr p (decode f) ≡ IsBetween (closes_low (closed_at f.code)) (closes_high (closed_at f.code)) f.a
      f.b f.c
  unfolding decode
  between_is k = rw k

  list-is : f.kind ≡ 9 → to_aexpr p (decode f) ≡ ListLiteral (eqb f.code 1) (values_from p f.a f.b)
  unfolding decode
  list-is k = rw k

  in_is : f.kind ≡ 10 → to_aexpr p (decode f) ≡ IsIn (eqb f.code 1) f.a f.b
  unfolding decode
  in_is k = rw k

-- ---- what a leaf is, and that a truth is a value
module _ (p : List ℕ) (row : ℕ → Option ℤ) (C : ℕ → Cell ℤ ℕ) (f : Fields) where
  abbrev cell_of : Record → Cell ℤ ℕ
  cell_of r = step key ord_z truth_keys row C (to_aexpr p r)

  abbrev Other : ℕ → Type 0
  Other k = (f.kind ≡ k → ⊥)

  leaf-truth_step : Other 4 → Other 5 → Other 6 → Other 7 → Other 8 → Other 10 → (cell_of (decode f)).truth ≡ to_truth
      (leaf_of row f)
  unfolding decode leaf_of
  leaf-truth_step n4 n5 n6 n7 n8 n10 =
      rw (ne_eqb _ _ n4, ne_eqb _ _ n5, ne_eqb _ _ n6, ne_eqb _ _ n7, ne_eqb _ _ n8, ne_eqb _ _ n10)
      (go (eqb f.kind 1) (eqb f.kind 2) (eqb f.kind 3) (eqb f.kind 9))
    where
      go : (b1 b2 b3 b9 : Bool) →
          (cell_of
          (cond b1 (kind.Column (column_number f.a)) (cond b2 (kind.Literal f.ty (f.b + 4294967296 * f.c))
          (cond b3 (kind.Null f.ty) (cond b9 (kind.List f.ty (eqb f.code 1) f.a f.b)
          kind.Invalid))))
          ).truth
          ≡ to_truth (cond b1 (row f.a) (cond b2 (some (key (f.b + 4294967296 * f.c))) none))
      go true b2 b3 b9 = refl
      go false true b3 b9 = refl
      go false false true b9 = refl
      go false false false true = refl
      go false false false false = refl

  leaf-value_step : f.kind ≤ 3 → (cell_of (decode f)).value ≡ leaf_of row f
  unfolding decode leaf_of
  leaf-value_step h =
      let n4 : (f.kind ≡ 4 → ⊥) = λ e. omega arith in
      let n5 : (f.kind ≡ 5 → ⊥) = λ e. omega arith in
      let n6 : (f.kind ≡ 6 → ⊥) = λ e. omega arith in
      let n7 : (f.kind ≡ 7 → ⊥) = λ e. omega arith in
      let n8 : (f.kind ≡ 8 → ⊥) = λ e. omega arith in
      let n9 : (f.kind ≡ 9 → ⊥) = λ e. omega arith in
      let n10 : (f.kind ≡ 10 → ⊥) = λ e. omega arith in
      rw (ne_eqb _ _ n4, ne_eqb _ _ n5, ne_eqb _ _ n6, ne_eqb _ _ n7, ne_eqb _ _ n8, ne_eqb _ _ n9, ne_eqb _ _ n10)
      (go (eqb f.kind 1) (eqb f.kind 2) (eqb f.kind 3))
    where
      go : (b1 b2 b3 : Bool) →
          (cell_of
          (cond b1 (kind.Column (column_number f.a)) (cond b2 (kind.Literal f.ty (f.b + 4294967296 * f.c))
          (cond b3 (kind.Null f.ty) kind.Invalid)))
          ).value
          ≡ cond b1 (row f.a) (cond b2 (some (key (f.b + 4294967296 * f.c))) none)
      go true b2 b3 = refl
      go false true b3 = refl
      go false false true = refl
      go false false false = refl

  truth-value_step : 3 < f.kind → (f.kind ≡ 4 → is_division (operator_at f.code) ≡ false) →
      (cell_of (decode f)).value ≡ of_truth (cell_of (decode f)).truth
  unfolding decode
  truth-value_step h v =
      let n1 : (f.kind ≡ 1 → ⊥) = λ e. omega arith in
      let n2 : (f.kind ≡ 2 → ⊥) = λ e. omega arith in
      let n3 : (f.kind ≡ 3 → ⊥) = λ e. omega arith in
      rw (ne_eqb _ _ n1, ne_eqb _ _ n2, ne_eqb _ _ n3)
      (pick-four (eqb f.kind 4) refl _ _
      (λ k. binary-value row C f.a f.b (operator_at f.code) (v (eqb-true f.kind 4 k)))
      (pick (eqb f.kind 5) _ _ refl (pick (eqb f.kind 6) _ _ refl (pick (eqb f.kind 7) _ _ refl
      (pick (eqb f.kind 8) _ _ refl (pick (eqb f.kind 9) _ _ refl (pick (eqb f.kind 10) _ _ refl refl)))))))
    where
      pick : (b : Bool) (x y : Record) →
          (cell_of x).value ≡ of_truth (cell_of x).truth → (cell_of y).value ≡ of_truth (cell_of y).truth →
          (cell_of (cond b x y)).value ≡ of_truth (cell_of (cond b x y)).truth
      pick true x y ex ey = ex
      pick false x y ex ey = ey

      pick-four : (b : Bool) → eqb f.kind 4 ≡ b → (x y : Record) →
          (eqb f.kind 4 ≡ true → (cell_of x).value ≡ of_truth (cell_of x).truth) →
          (cell_of y).value ≡ of_truth (cell_of y).truth →
          (cell_of (cond b x y)).value ≡ of_truth (cell_of (cond b x y)).truth
      pick-four true e x y ex ey = ex e
      pick-four false e x y ex ey = ey

-- ---- record n of the bytes, with what was read of it
module _ (rs p row : List ℕ) (nulls : ℕ) (n : Node) (f : Fields) (ok : Evaluable rs p row n.0)
    (e : f ≡ fields_at rs n) where
  abbrev R : ℕ → AExpr ℕ
  R = aexpr_of rs p

  abbrev cells : ℕ → Cell ℤ ℕ
  cells m = cell_at key ord_z truth_keys R (row_keys row nulls) m

  pub fit_of : Fit rs p row n.0 f
  fit_of = subst (Fit rs p row n.0) (sym e) (ok.fit n.0 (omega arith))

  record_is : R n.0 ≡ to_aexpr p (decode f)
  unfolding aexpr_of record_at
  record_is = ap (λ g. to_aexpr p (decode g)) (sym e)

  inputs-of : (r : AExpr ℕ) → to_aexpr p (decode f) ≡ r → Inputs n.0 r
  inputs-of r h = subst (Inputs n.0) (record_is ∙ h) fit_of.inputs

  cell_of_lem : (r : AExpr ℕ) → to_aexpr p (decode f) ≡ r → cells n.0 ≡ step key ord_z truth_keys (row_keys row nulls) cells r
  cell_of_lem r h =
      cell_law key ord_z truth_keys R (row_keys row nulls) n.0 fit_of.inputs
      ∙ ap (λ q. step key ord_z truth_keys (row_keys row nulls) cells q) (record_is ∙ h)

  truth-of_step :
      (r : AExpr ℕ) → to_aexpr p (decode f) ≡ r →
      truth_in R (row_keys row nulls) n.0 ≡ (step key ord_z truth_keys (row_keys row nulls) cells r).truth
  truth-of_step r h = ap (λ c. c.truth) (cell_of_lem r h)

  pub binary-below : f.kind ≡ 4 → (f.a < n.0) × (f.b < n.0)
  binary-below k =
      binary-inputs n.0 f.code f.a f.b (fit_of.operator k) (inputs-of _ (binary-is p f k))

  pub not-below : f.kind ≡ 5 → f.a < n.0
  not-below k = inputs-of (Not f.a) (not_is p f k)

  pub null_below : f.kind ≡ 6 → f.a < n.0
  null_below k = inputs-of (IsNull f.a) (null_is p f k)

  pub not-null_below : f.kind ≡ 7 → f.a < n.0
  not-null_below k = inputs-of (IsNotNull f.a) (not-null_is p f k)

  pub between-below : f.kind ≡ 8 → (f.a < n.0) × (f.b < n.0) × (f.c < n.0)
  between-below k = inputs-of _ (between_is p f k)

  pub in_below : f.kind ≡ 10 → (f.a < n.0) × (f.b < n.0)
  in_below k = inputs-of (IsIn (eqb f.code 1) f.a f.b) (in_is p f k)

  -- the record that is_in names is a list, and it lies in the pool
  pub list-room : f.kind ≡ 10 → (g : Fields) → g ≡ fields_at rs (node f.b) → 8 * (g.a + g.b) ≤ length p
  list-room k g eg =
      let b : f.b < n.0 = (in_below k).1 in
      subst (λ h. 8 * (h.a + h.b) ≤ length p) (sym eg) ((ok.fit f.b (omega arith)).list (fit_of.member k))

  pub compared-truth :
      f.kind ≡ 4 → f.code < 8 → (x y : Option ℤ) (r : Truth) →
      x ≡ value_in R (row_keys row nulls) f.a → y ≡ value_in R (row_keys row nulls) f.b → r ≡ compared_of f.code x y →
      r ≡ truth_in R (row_keys row nulls) n.0
  compared-truth k h x y r ex ey er =
      er ∙ rw (ex, ey)
      (sym (truth-of_step _ (binary-is p f k) ∙ compared-step (row_keys row nulls) cells f.a f.b f.code h))

  pub divided-value :
      f.kind ≡ 4 → 8 ≤ f.code → f.code < 15 → (x y r : Option ℤ) →
      x ≡ value_in R (row_keys row nulls) f.a → y ≡ value_in R (row_keys row nulls) f.b → r ≡ divided_of f.code x y →
      r ≡ value_in R (row_keys row nulls) n.0
  divided-value k h l x y r ex ey er =
      er ∙ rw (ex, ey)
      (sym (ap (λ c. c.value) (cell_of_lem _ (binary-is p f k))
      ∙ divided-step (row_keys row nulls) cells f.a f.b f.code (above-code f.code (fit_of.operator k) h).0 l))

  pub divided-truth :
      f.kind ≡ 4 → 8 ≤ f.code → f.code < 15 → (x y z : Option ℤ) (r : Truth) →
      x ≡ value_in R (row_keys row nulls) f.a → y ≡ value_in R (row_keys row nulls) f.b → z ≡ divided_of f.code x y →
      r ≡ to_truth z → r ≡ truth_in R (row_keys row nulls) n.0
  divided-truth k h l x y z r ex ey ez er =
      er ∙ rw (ez, ex, ey)
      (sym (truth-of_step _ (binary-is p f k)
      ∙ divided-truth_step (row_keys row nulls) cells f.a f.b f.code
      (above-code f.code (fit_of.operator k) h).0 l))

  pub connected_truth :
      f.kind ≡ 4 → 15 ≤ f.code → (x y r : Truth) →
      x ≡ truth_in R (row_keys row nulls) f.a → y ≡ truth_in R (row_keys row nulls) f.b → r ≡ connected_of f.code x y →
      r ≡ truth_in R (row_keys row nulls) n.0
  connected_truth k h x y r ex ey er =
      er ∙ rw (ex, ey)
      (sym (truth-of_step _ (binary-is p f k) ∙ connected_step (row_keys row nulls) cells f.a f.b f.code
      (omega arith) (above-code f.code (fit_of.operator k) (omega arith)).1))

  pub not-truth :
      f.kind ≡ 5 → (t r : Truth) → t ≡ truth_in R (row_keys row nulls) f.a → r ≡ not3 t → r ≡ truth_in R
      (row_keys row nulls) n.0
  not-truth k t r et er = er ∙ rw et (sym (truth-of_step (Not f.a) (not_is p f k)))

  pub null_truth :
      f.kind ≡ 6 → (x : Option ℤ) (b : Bool) (r : Truth) →
      x ≡ value_in R (row_keys row nulls) f.a → b ≡ null_test x → r ≡ of_bool b → r ≡ truth_in R (row_keys row nulls) n.0
  null_truth k x b r ex eb er = er ∙ rw (eb, ex) (sym (truth-of_step (IsNull f.a) (null_is p f k)))

  pub not-null_truth :
      f.kind ≡ 7 → (x : Option ℤ) (b : Bool) (r : Truth) →
      x ≡ value_in R (row_keys row nulls) f.a → b ≡ null_test x → r ≡ of_bool (not b) → r ≡ truth_in R (row_keys row nulls)
      n.0
  not-null_truth k x b r ex eb er = er ∙ rw (eb, ex) (sym (truth-of_step (IsNotNull f.a) (not-null_is p f k)))

  pub between-truth :
      f.kind ≡ 8 → (x low high : Option ℤ) (r : Truth) →
      x ≡ value_in R (row_keys row nulls) f.a → low ≡ value_in R (row_keys row nulls) f.b →
      high ≡ value_in R (row_keys row nulls) f.c → r ≡ between_of f.code x low high → r ≡ truth_in R (row_keys row nulls)
      n.0
  between-truth k x low high r ex el eh er =
      er ∙ rw (ex, el, eh)
      (sym (truth-of_step _ (between_is p f k) ∙ between_step (row_keys row nulls) cells f.code f.a f.b f.c))

  pub leaf-truth :
      (f.kind ≡ 4 → ⊥) → (f.kind ≡ 5 → ⊥) → (f.kind ≡ 6 → ⊥) → (f.kind ≡ 7 → ⊥) → (f.kind ≡ 8 → ⊥) →
      (f.kind ≡ 10 → ⊥) →
      (x : Option ℤ) (r : Truth) → x ≡ leaf_of (row_keys row nulls) f → r ≡ to_truth x → r ≡ truth_in R (row_keys row nulls)
      n.0
  leaf-truth n4 n5 n6 n7 n8 n10 x r ex er =
      er ∙ rw ex (sym (truth-of_step _ refl ∙ leaf-truth_step p (row_keys row nulls) cells f n4 n5 n6 n7 n8 n10))

  pub leaf-is_value : f.kind ≤ 3 → (x : Option ℤ) → x ≡ leaf_of (row_keys row nulls) f → x ≡ value_in R (row_keys row nulls)
      n.0
  leaf-is_value h x ex = ex ∙ sym (ap (λ c. c.value) (cell_of_lem _ refl) ∙ leaf-value_step p (row_keys row nulls) cells f h)

  truth-value :
      3 < f.kind → (f.kind ≡ 4 → is_division (operator_at f.code) ≡ false) → (t : Truth) (x : Option ℤ) →
      t ≡ truth_in R (row_keys row nulls) n.0 → x ≡ of_truth t → x ≡ value_in R (row_keys row nulls) n.0
  truth-value h v t x et ex =
      ex ∙ ap of_truth et
      ∙ subst (λ c. of_truth c.truth ≡ c.value) (sym (cell_of_lem _ refl))
      (sym (truth-value_step p (row_keys row nulls) cells f h v))

  pub truth-is_value :
      3 < f.kind → (f.kind ≡ 4 → ⊥) → (t : Truth) (x : Option ℤ) → t ≡ truth_in R (row_keys row nulls) n.0 →
      x ≡ of_truth t → x ≡ value_in R (row_keys row nulls) n.0
  truth-is_value h d = truth-value h (λ k. absurd (d k))

  -- comparisons and logic
  pub binary-is_value :
      f.kind ≡ 4 → (f.code < 8) ⊎ (15 ≤ f.code) → (t : Truth) (x : Option ℤ) →
      t ≡ truth_in R (row_keys row nulls) n.0 → x ≡ of_truth t → x ≡ value_in R (row_keys row nulls) n.0
  binary-is_value k h = truth-value (omega arith) (λ q. no_division f.code (fit_of.operator k) h)

-- is_in: the cell of the list is its values.
pub member-truth :
    (rs p row : List ℕ) (nulls : ℕ) (n : Node) (f : Fields) (ok : Evaluable rs p row n.0) (e : f ≡ fields_at rs n) →
    f.kind ≡ 10 → (g : Fields) → g ≡ fields_at rs (node f.b) → (x : Option ℤ) (r : Truth) →
    x ≡ value_in (aexpr_of rs p) (row_keys row nulls) f.a → r ≡ member_of p g (eqb f.code 1) x →
    r ≡ truth_in (aexpr_of rs p) (row_keys row nulls) n.0
unfolding member_of
member-truth rs p row nulls n f ok e k g eg x r ex er =
    let b : f.b < n.0 = (in_below rs p row nulls n f ok e k).1 in
    let kg : g.kind ≡ 9 = ap (λ h. h.kind) eg ∙ (fit_of rs p row nulls n f ok e).member k in
    let list = cell_of_lem rs p row nulls (node f.b) g (evaluable-below f.b b ok) eg
    (ListLiteral (eqb g.code 1) (values_from p g.a g.b)) (list-is p g kg) in
    er ∙ rw ex
    (sym (truth-of_step rs p row nulls n f ok e (IsIn (eqb f.code 1) f.a f.b) (in_is p f k) ∙ rw list))

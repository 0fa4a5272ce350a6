-- What single bytes of a record say, where it is not decoded whole.
use mathlib.Core.Path.{◌≡◌, refl, sym, ◌∙◌, ap}
use mathlib.Core.Bool.{Bool, true, false, not, cond, ◌&&◌, ◌||◌}
use mathlib.Core.List.{List}
use mathlib.Core.Option.{none, some}
use Prim.Native.Nat.{ℕ, ◌+◌, ◌*◌, ◌<◌}
use native.Mathlib.Omega.{arith}
use lib.Dec.{leb, eqb}
use lib.ListN.{length, get_or, get_or-eq_default}
use borrow.Author.Tests.{eqb-true, ne_eqb, leb-true, leb-false}
use Rattle.records.specs.Bytes.{word, value_at}
use Rattle.records.specs.Operator.{operators, operator_at, code_of}
use Rattle.records.specs.Record.{node, column_number, closed_at, fields_at, decode, record_at}
use Rattle.records.specs.declared.operator.Operator.{Operator}
use Rattle.records.specs.declared.operator.Operator.TheVariants as operator
use Rattle.records.specs.declared.record.Fields.{Fields}
use Rattle.records.specs.declared.record.Node.{Node}
use Rattle.records.specs.declared.record.Record.{Record}
use Rattle.records.specs.declared.record.Record.TheVariants as kind
use Rattle.records.proofs.Laws.{by-test}
use Rattle.records.proofs.RoundTrips.{code_back}
use Rattle.truth.specs.FromBytes.{values_from, binary_expr, to_aexpr, aexpr_of}
use Rattle.merge.specs.Classify.{Operand, AColumn, ALiteral, AList, Other, operand, classify}
use Rattle.merge.specs.Minterms.{and_sides}
use Rattle.read_operands.specs.Read.{binary_conjunct}
use Rattle.read_operands.specs.Walk.{record_sides}
use Rattle.read_operands.proofs.Classifying.{no_operand, binary-law, classify-law}

-- What holds of each kind's record, where the kind is that one, holds of the record.
pick : (P : Record → Type 0) (k n : ℕ) (r s : Record) → (k ≡ n → P r) → P s → P (cond (eqb k n) r s)
pick P k n r s h g = go (eqb k n) (λ e. h (eqb-true k n e))
  where
    go : (b : Bool) → (b ≡ true → P r) → P (cond b r s)
    go true f = f refl
    go false f = g

module _ (P : Record → Type 0) (f : Fields) where
  by_kind : (f.kind ≡ 1 → P (kind.Column (column_number f.a)))
      → (f.kind ≡ 2 → P (kind.Literal f.ty (f.b + 4294967296 * f.c))) → P (kind.Null f.ty)
      → (f.kind ≡ 4 → P (kind.Binary (operator_at f.code) (node f.a) (node f.b)))
      → P (kind.Not (node f.a)) → P (kind.IsNull (node f.a)) → P (kind.IsNotNull (node f.a))
      → P (kind.IsBetween (closed_at f.code) (node f.a) (node f.b) (node f.c))
      → (f.kind ≡ 9 → P (kind.List f.ty (eqb f.code 1) f.a f.b))
      → P (kind.IsIn (eqb f.code 1) (node f.a) (node f.b)) → P kind.Invalid → P (decode f)
  unfolding decode
  by_kind h1 h2 h3 h4 h5 h6 h7 h8 h9 h10 h11 =
      pick P f.kind 1 _ _ h1 (pick P f.kind 2 _ _ h2 (pick P f.kind 3 _ _ (λ e. h3)
      (pick P f.kind 4 _ _ h4 (pick P f.kind 5 _ _ (λ e. h5) (pick P f.kind 6 _ _ (λ e. h6)
      (pick P f.kind 7 _ _ (λ e. h7) (pick P f.kind 8 _ _ (λ e. h8) (pick P f.kind 9 _ _ h9
      (pick P f.kind 10 _ _ (λ e. h10) h11)))))))))

-- ---- The sides of an And.
operator-sides : (o : Operator) (x y : ℕ)
    → and_sides (binary_expr o x y) ≡ cond (eqb (code_of o) 15 || eqb (code_of o) 18) (some (x, y)) none
operator-sides operator.Eq x y = refl
operator-sides operator.EqValidity x y = refl
operator-sides operator.NotEq x y = refl
operator-sides operator.NotEqValidity x y = refl
operator-sides operator.Lt x y = refl
operator-sides operator.LtEq x y = refl
operator-sides operator.Gt x y = refl
operator-sides operator.GtEq x y = refl
operator-sides operator.Plus x y = refl
operator-sides operator.Minus x y = refl
operator-sides operator.Multiply x y = refl
operator-sides operator.RustDivide x y = refl
operator-sides operator.TrueDivide x y = refl
operator-sides operator.FloorDivide x y = refl
operator-sides operator.Modulus x y = refl
operator-sides operator.And x y = refl
operator-sides operator.Or x y = refl
operator-sides operator.Xor x y = refl
operator-sides operator.LogicalAnd x y = refl
operator-sides operator.LogicalOr x y = refl

-- a code above 19 reads as Eq
code_sides : (k x y : ℕ) → and_sides (binary_expr (operator_at k) x y) ≡ cond (eqb k 15 || eqb k 18) (some (x, y)) none
unfolding operator_at
code_sides k x y = by-test (leb k 19) low high
  where
    low : leb k 19 ≡ true
        → and_sides (binary_expr (operator_at k) x y) ≡ cond (eqb k 15 || eqb k 18) (some (x, y)) none
    low t =
        operator-sides (operator_at k) x y
        ∙ ap (λ (m : ℕ). cond (eqb m 15 || eqb m 18) (some (x, y)) none) (code_back k (leb-true k 19 t))

    high : leb k 19 ≡ false
        → and_sides (binary_expr (operator_at k) x y) ≡ cond (eqb k 15 || eqb k 18) (some (x, y)) none
    high t =
        let h : 19 < k = leb-false k 19 t in
        rw (
          get_or-eq_default operators operator.Eq h,
          ne_eqb k 15 (λ e. absurd (omega (arith, e, h))),
          ne_eqb k 18 (λ e. absurd (omega (arith, e, h))),
        )

module _ (rs : List ℕ) (n : Node) where
  pub sides_other : (get_or rs (16 * n.0) 0 ≡ 4 → ⊥) → none ≡ record_sides (record_at rs n)
  unfolding record_at fields_at
  sides_other d =
      by_kind (λ r. none ≡ record_sides r) (fields_at rs n) (λ e. refl) (λ e. refl) refl (λ e. absurd (d e)) refl refl refl
      refl (λ e. refl) refl refl

  sides_binary : get_or rs (16 * n.0) 0 ≡ 4
      → record_sides (record_at rs n) ≡ cond (eqb (get_or rs (16 * n.0 + 1) 0) 15 || eqb (get_or rs (16 * n.0 + 1) 0) 18)
      (some (word rs (16 * n.0 + 4), word rs (16 * n.0 + 8))) none
  unfolding record_at fields_at decode
  sides_binary e =
      rw e (code_sides (get_or rs (16 * n.0 + 1) 0) (word rs (16 * n.0 + 4)) (word rs (16 * n.0 + 8)))

  pub sides_both : (x y : ℕ) → get_or rs (16 * n.0) 0 ≡ 4
      → (eqb (get_or rs (16 * n.0 + 1) 0) 15 || eqb (get_or rs (16 * n.0 + 1) 0) 18) ≡ true
      → x ≡ word rs (16 * n.0 + 4) → y ≡ word rs (16 * n.0 + 8) → some (x, y) ≡ record_sides (record_at rs n)
  sides_both x y e f g h = rw (g, h) (sym (sides_binary e ∙ rw f refl))

  pub sides_one : get_or rs (16 * n.0) 0 ≡ 4
      → (eqb (get_or rs (16 * n.0 + 1) 0) 15 || eqb (get_or rs (16 * n.0 + 1) 0) 18) ≡ false
      → none ≡ record_sides (record_at rs n)
  sides_one e f = sym (sides_binary e ∙ rw f refl)

  record_binary : get_or rs (16 * n.0) 0 ≡ 4
      → record_at rs n ≡ kind.Binary (operator_at (get_or rs (16 * n.0 + 1) 0)) (node (word rs (16 * n.0 + 4)))
      (node (word rs (16 * n.0 + 8)))
  unfolding record_at fields_at decode
  record_binary e = rw e

  -- ---- An operand.
  module _ (p : List ℕ) where
    pub operand-other : (get_or rs (16 * n.0) 0 ≡ 1 → ⊥) → (get_or rs (16 * n.0) 0 ≡ 2 → ⊥)
        → (get_or rs (16 * n.0) 0 ≡ 9 → ⊥) → Other ≡ operand (aexpr_of rs p n.0)
    unfolding aexpr_of record_at fields_at
    operand-other d e g =
        by_kind (λ r. Other ≡ operand (to_aexpr p r)) (fields_at rs n) (λ h. absurd (d h)) (λ h. absurd (e h)) refl
        (λ h. no_operand (operator_at (get_or rs (16 * n.0 + 1) 0)) (word rs (16 * n.0 + 4)) (word rs (16 * n.0 + 8)))
        refl refl refl refl (λ h. absurd (g h)) refl refl

    pub operand-column : (a : ℕ) → get_or rs (16 * n.0) 0 ≡ 1 → a ≡ word rs (16 * n.0 + 4)
        → AColumn a ≡ operand (aexpr_of rs p n.0)
    unfolding aexpr_of record_at fields_at decode
    operand-column a e g = rw (e, g)

    -- bytes 8 to 15 of the record are the value numbered 2 n + 1
    pub operand-literal : (v : ℕ) → get_or rs (16 * n.0) 0 ≡ 2 → v ≡ value_at rs (2 * n.0 + 1)
        → ALiteral v ≡ operand (aexpr_of rs p n.0)
    unfolding aexpr_of record_at fields_at decode value_at
    operand-literal v e g =
        let b : 8 * (2 * n.0 + 1) ≡ 16 * n.0 + 8 = omega arith in
        let d : 8 * (2 * n.0 + 1) + 4 ≡ 16 * n.0 + 12 = omega arith in
        rw e (ap ALiteral (g ∙ ap (λ i. word rs i + 4294967296 * word rs (8 * (2 * n.0 + 1) + 4)) b
        ∙ ap (λ i. word rs (16 * n.0 + 8) + 4294967296 * word rs i) d))

    pub operand-list : (start count : ℕ) → get_or rs (16 * n.0) 0 ≡ 9 → start ≡ word rs (16 * n.0 + 4)
        → count ≡ word rs (16 * n.0 + 8)
        → cond (not (eqb (get_or rs (16 * n.0 + 1) 0) 1) && leb (length (values_from p start count)) 100)
        (AList (values_from p start count)) Other ≡ operand (aexpr_of rs p n.0)
    unfolding aexpr_of record_at fields_at decode
    operand-list start count e g h = rw (e, g, h)

    -- ---- A comparison.
    pub binary-read : (k : Operator) (x y : ℕ) (a b : Operand ℕ) → get_or rs (16 * n.0) 0 ≡ 4
        → k ≡ operator_at (get_or rs (16 * n.0 + 1) 0) → x ≡ word rs (16 * n.0 + 4)
        → y ≡ word rs (16 * n.0 + 8) → a ≡ operand (aexpr_of rs p x) → b ≡ operand (aexpr_of rs p y)
        → binary_conjunct n.0 k a b ≡ classify (aexpr_of rs p) n.0
    binary-read k x y a b e f g h i j =
        binary-law rs p n.0 (record_at rs n) (operator_at (get_or rs (16 * n.0 + 1) 0)) k (node (word rs (16 * n.0 + 4)))
        (node (word rs (16 * n.0 + 8))) a b (record_binary e) f (i ∙ ap (λ m. operand (aexpr_of rs p m)) g)
        (j ∙ ap (λ m. operand (aexpr_of rs p m)) h)
        ∙ classify-law rs p n (record_at rs n) refl

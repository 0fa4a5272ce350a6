-- Every form that a conjunct is read as, once: what holds of each form, given what holds of the operands, holds of
-- every conjunct.
use mathlib.Core.Path.{◌≡◌, refl, subst}
use mathlib.Core.Option.{none}
use mathlib.Core.Bool.{Bool, true, false, not, ◌&&◌}
use mathlib.Core.List.{List, [], ◌∷◌}
use Prim.Native.Nat.{ℕ}
use Rattle.records.specs.Operator.{is_null_propagating_comparison, swap_operands, negate}
use Rattle.records.specs.declared.operator.Operator.{Operator}
use Rattle.records.specs.declared.operator.Operator.TheVariants as operator
use Rattle.std.specs.Prelude.{Some}
use Rattle.truth.specs.Comparison.{Comparison, Eq, NotEq, Lt, LtEq, Gt, GtEq}
use Rattle.truth.specs.AExpr.{AExpr, Column, Literal, Null, BinaryExpr, Not, IsNull, IsNotNull, IsBetween}
use Rattle.truth.specs.AExpr.{ListLiteral, IsIn, Missing, BinaryOp, Compare, EqValidity, NotEqValidity, And, Or, Xor}
use Rattle.truth.specs.AExpr.{FloorDivide, Modulus}
use Rattle.truth.specs.AExpr.{LogicalAnd, LogicalOr}
use Rattle.truth.proofs.Negations.{negate_comparison}
use Rattle.constraints.specs.declared.column.Nullability.{Nullability}
use Rattle.constraints.specs.declared.column.Nullability.TheVariants.{NonNull}
use Rattle.constraints.specs.declared.column.Nullability.TheVariants as required
use Rattle.constraints.specs.Column.{Constraint, Lower, Upper, Exclude, Allow, Disallow, Require}
use Rattle.merge.specs.Classify.{Conjunct, Bounds, Normalized, Equality, Recorded, NonNullPair, Opaque}
use Rattle.merge.specs.Classify.{comparison_operator, ordinary_comparison, operator_of, normalized, classify_negated}
use Rattle.merge.specs.Classify.{classify_column_column, classify_literal_column, Operand, AColumn, ALiteral, AList, Other}
use Rattle.merge.specs.Classify.{operand, comparison_constraints, classify_comparison, classify_is_between}
use Rattle.merge.specs.Classify.{classify_is_in, classify_null, classify_negation, classify_record, classify}
use Rattle.merge.proofs.Operators.{swap_comparison, ordinary_of, swap_of}
use Rattle.merge.proofs.PlainForms.{is_column, is_literal, is_short_list, plain_columns, plain_comparison}
use Rattle.merge.proofs.PlainForms.{beside_literal, plain_compared, plain_binary, plain_negation, plain_record, plain_conjunct}

-- What is to hold of each form that a conjunct is read as: C of the record of node n, of whether it is plain, and of
-- what is read of it; given F of the nodes of the operands and of what they are seen as.
pub record ReadForms {Val : Type 0} (R : ℕ → AExpr Val) (n : ℕ) (F : ℕ → Operand Val → Type 0)
    (C : AExpr Val → Bool → Conjunct Val → Type 0) : Type 0 where
  pub opaque : (r : AExpr Val) → C r false (Opaque n)
  pub entered : (r : AExpr Val) (x c : ℕ) → F x (AColumn c) → C r false (Recorded false n c [])
  pub compared :
      (o : Comparison) (x y c : ℕ) (v : Val) → F x (AColumn c) → F y (ALiteral v) →
      C (BinaryExpr (Compare o) x y) true (Bounds c (comparison_constraints o v))
  pub swapped :
      (o : Comparison) (x y c : ℕ) (v : Val) → F x (ALiteral v) → F y (AColumn c) →
      C (BinaryExpr (Compare o) x y) true (Bounds c (comparison_constraints (swap_comparison o) v))
  pub equal :
      (x y a b : ℕ) → F x (AColumn a) → F y (AColumn b) → C (BinaryExpr (Compare Eq) x y) true (Equality a b n)
  pub paired :
      (o : Comparison) (x y a b : ℕ) → F x (AColumn a) → F y (AColumn b) →
      C (BinaryExpr (Compare o) x y) false (NonNullPair n a b)
  pub not_compared :
      (o : Comparison) (a x y c : ℕ) (v : Val) → R a ≡ BinaryExpr (Compare o) x y → F x (AColumn c) →
      F y (ALiteral v) → C (Not a) true (Normalized c (comparison_constraints (negate_comparison o) v))
  pub not_swapped :
      (o : Comparison) (a x y c : ℕ) (v : Val) → R a ≡ BinaryExpr (Compare o) x y → F x (ALiteral v) →
      F y (AColumn c) → C (Not a) true (Normalized c (comparison_constraints (swap_comparison (negate_comparison o)) v))
  pub not_unequal :
      (a x y b d : ℕ) → R a ≡ BinaryExpr (Compare NotEq) x y → F x (AColumn b) → F y (AColumn d) →
      C (Not a) false (Equality b d n)
  pub not_paired :
      (o : Comparison) (a x y b d : ℕ) → R a ≡ BinaryExpr (Compare o) x y → F x (AColumn b) → F y (AColumn d) →
      C (Not a) false (NonNullPair n b d)
  pub between :
      (i j : Bool) (x y z c : ℕ) (v w : Val) → F x (AColumn c) → F y (ALiteral v) → F z (ALiteral w) →
      C (IsBetween i j x y z) true (Bounds c (Lower i v ∷ (Upper j w ∷ [])))
  pub listed :
      (e : Bool) (x y c : ℕ) (l : List Val) → F x (AColumn c) → F y (AList l) →
      C (IsIn e x y) true (Recorded false n c (Allow l ∷ []))
  pub unlisted :
      (e : Bool) (a x y c : ℕ) (l : List Val) → R a ≡ IsIn e x y → F x (AColumn c) → F y (AList l) →
      C (Not a) true (Recorded false n c (Disallow (not e) l ∷ []))
  pub null : (x c : ℕ) → F x (AColumn c) → C (IsNull x) true (Recorded true n c (Require required.Null ∷ []))
  pub non_null : (x c : ℕ) → F x (AColumn c) → C (IsNotNull x) true (Recorded true n c (Require NonNull ∷ []))
  pub not_null :
      (a x c : ℕ) → R a ≡ IsNull x → F x (AColumn c) → C (Not a) true (Recorded true n c (Require NonNull ∷ []))
  pub not_non_null :
      (a x c : ℕ) → R a ≡ IsNotNull x → F x (AColumn c) →
      C (Not a) true (Recorded true n c (Require required.Null ∷ []))

module _ {Val : Type 0} (R : ℕ → AExpr Val) (n : ℕ) (F : ℕ → Operand Val → Type 0)
    (C : AExpr Val → Bool → Conjunct Val → Type 0) (f : ReadForms R n F C) where
  columns :
      (o : Comparison) (x y a b : ℕ) → F x (AColumn a) → F y (AColumn b) →
      C (BinaryExpr (Compare o) x y) (plain_columns o) (classify_column_column n a b (comparison_operator o))
  columns Eq x y a b p q = f.equal x y a b p q
  columns NotEq x y a b p q = f.paired NotEq x y a b p q
  columns Lt x y a b p q = f.paired Lt x y a b p q
  columns LtEq x y a b p q = f.paired LtEq x y a b p q
  columns Gt x y a b p q = f.paired Gt x y a b p q
  columns GtEq x y a b p q = f.paired GtEq x y a b p q

  compares :
      (o : Comparison) (x y : ℕ) (s t : Operand Val) → F x s → F y t →
      C (BinaryExpr (Compare o) x y) (plain_comparison o s t) (classify_comparison n (comparison_operator o) s t)
  compares o x y (AColumn c) (AColumn d) p q = columns o x y c d p q
  compares o x y (AColumn c) (ALiteral v) p q = rw (ordinary_of o) (f.compared o x y c v p q)
  compares o x y (AColumn c) (AList l) p q = f.opaque (BinaryExpr (Compare o) x y)
  compares o x y (AColumn c) Other p q = f.opaque (BinaryExpr (Compare o) x y)
  compares o x y (ALiteral v) (AColumn c) p q =
      rw (swap_of o, ordinary_of (swap_comparison o)) (f.swapped o x y c v p q)
  compares o x y (ALiteral v) (ALiteral w) p q = f.opaque (BinaryExpr (Compare o) x y)
  compares o x y (ALiteral v) (AList l) p q = f.opaque (BinaryExpr (Compare o) x y)
  compares o x y (ALiteral v) Other p q = f.opaque (BinaryExpr (Compare o) x y)
  compares o x y (AList l) t p q = f.opaque (BinaryExpr (Compare o) x y)
  compares o x y Other t p q = f.opaque (BinaryExpr (Compare o) x y)

  -- the other operators: a column beside a literal enters the table, and that is all
  enters :
      (r : AExpr Val) (o : Operator) (x y : ℕ) (s t : Operand Val) → is_null_propagating_comparison o ≡ false →
      ordinary_comparison o ≡ none →
      ((c : ℕ) (v : Val) → F y (AColumn c) → C r false (classify_literal_column n c v (swap_operands o))) →
      F x s → F y t → C r false (classify_comparison n o s t)
  enters r o x y (AColumn c) (AColumn d) h k g p q = rw h (f.opaque r)
  enters r o x y (AColumn c) (ALiteral v) h k g p q = rw k (f.entered r x c p)
  enters r o x y (AColumn c) (AList l) h k g p q = f.opaque r
  enters r o x y (AColumn c) Other h k g p q = f.opaque r
  enters r o x y (ALiteral v) (AColumn c) h k g p q = g c v q
  enters r o x y (ALiteral v) (ALiteral w) h k g p q = f.opaque r
  enters r o x y (ALiteral v) (AList l) h k g p q = f.opaque r
  enters r o x y (ALiteral v) Other h k g p q = f.opaque r
  enters r o x y (AList l) t h k g p q = f.opaque r
  enters r o x y Other t h k g p q = f.opaque r

  binary :
      (b : BinaryOp) (x y : ℕ) (s t : Operand Val) → F x s → F y t →
      C (BinaryExpr b x y) (plain_binary b s t) (classify_comparison n (operator_of b) s t)
  binary (Compare o) x y s t p q = compares o x y s t p q
  binary EqValidity x y s t p q =
      let r = BinaryExpr EqValidity x y in
      enters r operator.EqValidity x y s t refl refl (λ c v. f.entered r y c) p q
  binary NotEqValidity x y s t p q =
      let r = BinaryExpr NotEqValidity x y in
      enters r operator.NotEqValidity x y s t refl refl (λ c v. f.entered r y c) p q
  binary FloorDivide x y s t p q =
      let r = BinaryExpr FloorDivide x y in
      enters r operator.FloorDivide x y s t refl refl (λ c v j. f.opaque r) p q
  binary Modulus x y s t p q =
      let r = BinaryExpr Modulus x y in
      enters r operator.Modulus x y s t refl refl (λ c v j. f.opaque r) p q
  binary And x y s t p q =
      let r = BinaryExpr And x y in
      enters r operator.And x y s t refl refl (λ c v. f.entered r y c) p q
  binary Or x y s t p q =
      let r = BinaryExpr Or x y in
      enters r operator.Or x y s t refl refl (λ c v. f.entered r y c) p q
  binary Xor x y s t p q =
      let r = BinaryExpr Xor x y in
      enters r operator.Xor x y s t refl refl (λ c v. f.entered r y c) p q
  binary LogicalAnd x y s t p q =
      let r = BinaryExpr LogicalAnd x y in
      enters r operator.LogicalAnd x y s t refl refl (λ c v. f.entered r y c) p q
  binary LogicalOr x y s t p q =
      let r = BinaryExpr LogicalOr x y in
      enters r operator.LogicalOr x y s t refl refl (λ c v. f.entered r y c) p q

  -- Not of a comparison
  not-columns :
      (o : Comparison) (a x y b d : ℕ) → R a ≡ BinaryExpr (Compare o) x y → F x (AColumn b) → F y (AColumn d) →
      C (Not a) false (normalized (classify_column_column n b d (comparison_operator (negate_comparison o))))
  not-columns Eq a x y b d e p q = f.not_paired Eq a x y b d e p q
  not-columns NotEq a x y b d e p q = f.not_unequal a x y b d e p q
  not-columns Lt a x y b d e p q = f.not_paired Lt a x y b d e p q
  not-columns LtEq a x y b d e p q = f.not_paired LtEq a x y b d e p q
  not-columns Gt a x y b d e p q = f.not_paired Gt a x y b d e p q
  not-columns GtEq a x y b d e p q = f.not_paired GtEq a x y b d e p q

  not-compares :
      (o : Comparison) (a x y : ℕ) (s t : Operand Val) → R a ≡ BinaryExpr (Compare o) x y → F x s → F y t →
      C (Not a) (beside_literal s t) (normalized (classify_comparison n (comparison_operator (negate_comparison o)) s t))
  not-compares o a x y (AColumn c) (AColumn d) e p q = not-columns o a x y c d e p q
  not-compares o a x y (AColumn c) (ALiteral v) e p q =
      rw (ordinary_of (negate_comparison o)) (f.not_compared o a x y c v e p q)
  not-compares o a x y (AColumn c) (AList l) e p q = f.opaque (Not a)
  not-compares o a x y (AColumn c) Other e p q = f.opaque (Not a)
  not-compares o a x y (ALiteral v) (AColumn c) e p q =
      rw (swap_of (negate_comparison o), ordinary_of (swap_comparison (negate_comparison o)))
      (f.not_swapped o a x y c v e p q)
  not-compares o a x y (ALiteral v) (ALiteral w) e p q = f.opaque (Not a)
  not-compares o a x y (ALiteral v) (AList l) e p q = f.opaque (Not a)
  not-compares o a x y (ALiteral v) Other e p q = f.opaque (Not a)
  not-compares o a x y (AList l) t e p q = f.opaque (Not a)
  not-compares o a x y Other t e p q = f.opaque (Not a)

  -- `negate` of an ordinary comparison is the complementary one
  negates :
      (o : Comparison) (s t : Operand Val) →
      normalized (classify_comparison n (comparison_operator (negate_comparison o)) s t) ≡
      classify_negated n (negate (operator_of (Compare o))) s t
  negates Eq s t = refl
  negates NotEq s t = refl
  negates Lt s t = refl
  negates LtEq s t = refl
  negates Gt s t = refl
  negates GtEq s t = refl

  -- the validity comparisons: a column beside a literal enters the table, and that is all
  not-enters :
      (r : AExpr Val) (o : Operator) (x y : ℕ) (s t : Operand Val) → is_null_propagating_comparison o ≡ false →
      ordinary_comparison o ≡ none → swap_operands o ≡ Some o → F x s → F y t →
      C r false (normalized (classify_comparison n o s t))
  not-enters r o x y (AColumn c) (AColumn d) h k l p q = rw h (f.opaque r)
  not-enters r o x y (AColumn c) (ALiteral v) h k l p q = rw k (f.entered r x c p)
  not-enters r o x y (AColumn c) (AList m) h k l p q = f.opaque r
  not-enters r o x y (AColumn c) Other h k l p q = f.opaque r
  not-enters r o x y (ALiteral v) (AColumn c) h k l p q = rw (l, k) (f.entered r y c q)
  not-enters r o x y (ALiteral v) (ALiteral w) h k l p q = f.opaque r
  not-enters r o x y (ALiteral v) (AList m) h k l p q = f.opaque r
  not-enters r o x y (ALiteral v) Other h k l p q = f.opaque r
  not-enters r o x y (AList m) t h k l p q = f.opaque r
  not-enters r o x y Other t h k l p q = f.opaque r

  not-binary :
      (b : BinaryOp) (a x y : ℕ) (s t : Operand Val) → R a ≡ BinaryExpr b x y → F x s → F y t →
      C (Not a) (plain_compared b s t) (classify_negated n (negate (operator_of b)) s t)
  not-binary (Compare o) a x y s t e p q =
      subst (λ c. C (Not a) (beside_literal s t) c) (negates o s t) (not-compares o a x y s t e p q)
  not-binary EqValidity a x y s t e p q = not-enters (Not a) operator.NotEqValidity x y s t refl refl refl p q
  not-binary NotEqValidity a x y s t e p q = not-enters (Not a) operator.EqValidity x y s t refl refl refl p q
  not-binary FloorDivide a x y s t e p q = f.opaque (Not a)
  not-binary Modulus a x y s t e p q = f.opaque (Not a)
  not-binary And a x y s t e p q = f.opaque (Not a)
  not-binary Or a x y s t e p q = f.opaque (Not a)
  not-binary Xor a x y s t e p q = f.opaque (Not a)
  not-binary LogicalAnd a x y s t e p q = f.opaque (Not a)
  not-binary LogicalOr a x y s t e p q = f.opaque (Not a)

  ends :
      (i j : Bool) (x y z c : ℕ) (t u : Operand Val) → F x (AColumn c) → F y t → F z u →
      C (IsBetween i j x y z) (is_literal t && is_literal u) (classify_is_between n i j (AColumn c) t u)
  ends i j x y z c (ALiteral v) (ALiteral w) p q r = f.between i j x y z c v w p q r
  ends i j x y z c (ALiteral v) (AColumn d) p q r = f.opaque (IsBetween i j x y z)
  ends i j x y z c (ALiteral v) (AList l) p q r = f.opaque (IsBetween i j x y z)
  ends i j x y z c (ALiteral v) Other p q r = f.opaque (IsBetween i j x y z)
  ends i j x y z c (AColumn d) u p q r = f.opaque (IsBetween i j x y z)
  ends i j x y z c (AList l) u p q r = f.opaque (IsBetween i j x y z)
  ends i j x y z c Other u p q r = f.opaque (IsBetween i j x y z)

  range :
      (i j : Bool) (x y z : ℕ) (s t u : Operand Val) → F x s → F y t → F z u →
      C (IsBetween i j x y z) (is_column s && (is_literal t && is_literal u)) (classify_is_between n i j s t u)
  range i j x y z (AColumn c) t u p q r = ends i j x y z c t u p q r
  range i j x y z (ALiteral v) t u p q r = f.opaque (IsBetween i j x y z)
  range i j x y z (AList l) t u p q r = f.opaque (IsBetween i j x y z)
  range i j x y z Other t u p q r = f.opaque (IsBetween i j x y z)

  -- is_in, or Not of it
  member :
      (r : AExpr Val) (says : List Val → Constraint Val) (x y : ℕ) (s t : Operand Val) →
      ((c : ℕ) (l : List Val) → F x (AColumn c) → F y (AList l) → C r true (Recorded false n c (says l ∷ []))) →
      F x s → F y t → C r (is_column s && is_short_list t) (classify_is_in n says s t)
  member r says x y (AColumn c) (AList l) g p q = g c l p q
  member r says x y (AColumn c) (AColumn d) g p q = f.opaque r
  member r says x y (AColumn c) (ALiteral v) g p q = f.opaque r
  member r says x y (AColumn c) Other g p q = f.opaque r
  member r says x y (ALiteral v) t g p q = f.opaque r
  member r says x y (AList l) t g p q = f.opaque r
  member r says x y Other t g p q = f.opaque r

  -- a null test, or Not of it
  nulls :
      (r : AExpr Val) (m : Nullability) (x : ℕ) (s : Operand Val) →
      ((c : ℕ) → F x (AColumn c) → C r true (Recorded true n c (Require m ∷ []))) → F x s →
      C r (is_column s) (classify_null n m s)
  nulls r m x (AColumn c) g p = g c p
  nulls r m x (ALiteral v) g p = f.opaque r
  nulls r m x (AList l) g p = f.opaque r
  nulls r m x Other g p = f.opaque r

  module _ (seen : (x : ℕ) → F x (operand (R x))) where
    negations : (a : ℕ) (r : AExpr Val) → R a ≡ r → C (Not a) (plain_negation R r) (classify_negation R n r)
    negations a (Column c) e = f.opaque (Not a)
    negations a (Literal v) e = f.opaque (Not a)
    negations a Null e = f.opaque (Not a)
    negations a (BinaryExpr b x y) e =
        not-binary b a x y (operand (R x)) (operand (R y)) e (seen x) (seen y)
    negations a (Not x) e = f.opaque (Not a)
    negations a (IsNull x) e = nulls (Not a) NonNull x (operand (R x)) (λ c p. f.not_null a x c e p) (seen x)
    negations a (IsNotNull x) e =
        nulls (Not a) required.Null x (operand (R x)) (λ c p. f.not_non_null a x c e p) (seen x)
    negations a (IsBetween c d x y z) e = f.opaque (Not a)
    negations a (ListLiteral h l) e = f.opaque (Not a)
    negations a (IsIn i x y) e =
        member (Not a) (λ l. Disallow (not i) l) x y (operand (R x)) (operand (R y))
        (λ c l p q. f.unlisted i a x y c l e p q) (seen x) (seen y)
    negations a Missing e = f.opaque (Not a)

    records : (r : AExpr Val) → C r (plain_record R r) (classify_record R n r)
    records (Column c) = f.opaque (Column c)
    records (Literal v) = f.opaque (Literal v)
    records Null = f.opaque Null
    records (BinaryExpr b x y) = binary b x y (operand (R x)) (operand (R y)) (seen x) (seen y)
    records (Not a) = negations a (R a) refl
    records (IsNull x) = nulls (IsNull x) required.Null x (operand (R x)) (λ c p. f.null x c p) (seen x)
    records (IsNotNull x) = nulls (IsNotNull x) NonNull x (operand (R x)) (λ c p. f.non_null x c p) (seen x)
    records (IsBetween i j x y z) =
        range i j x y z (operand (R x)) (operand (R y)) (operand (R z)) (seen x) (seen y) (seen z)
    records (ListLiteral h l) = f.opaque (ListLiteral h l)
    records (IsIn e x y) =
        member (IsIn e x y) (λ l. Allow l) x y (operand (R x)) (operand (R y)) (λ c l p q. f.listed e x y c l p q)
        (seen x) (seen y)
    records Missing = f.opaque Missing

    pub read_ind : C (R n) (plain_conjunct R n) (classify R n)
    read_ind = records (R n)

-- ---- The same where only what is read matters, and what the operands are.
-- What a kept conjunct can say of its column: nothing that is written out.
abbrev pub OnlyRecorded : {Val : Type 0} → Constraint Val → Type 0
OnlyRecorded (Lower inclusive v) = ⊥
OnlyRecorded (Upper inclusive v) = ⊥
OnlyRecorded (Exclude v) = ⊥
OnlyRecorded (Allow l) = Unit {0}
OnlyRecorded (Disallow counts l) = Unit {0}
OnlyRecorded (Require n) = Unit {0}

-- What is to hold of each form, F of the operands given.
pub record Forms {Val : Type 0} (F : Operand Val → Type 0) (C : Conjunct Val → Type 0) : Type 0 where
  pub opaque : (n : ℕ) → C (Opaque n)
  pub entered : (n c : ℕ) → F (AColumn c) → C (Recorded false n c [])
  pub compared : (c : ℕ) (o : Comparison) (v : Val) → F (AColumn c) → F (ALiteral v) →
      C (Bounds c (comparison_constraints o v))
  pub normalized : (c : ℕ) (o : Comparison) (v : Val) → F (AColumn c) → F (ALiteral v) →
      C (Normalized c (comparison_constraints o v))
  pub between :
      (c : ℕ) (i j : Bool) (v w : Val) → F (AColumn c) → F (ALiteral v) → F (ALiteral w) →
      C (Bounds c (Lower i v ∷ (Upper j w ∷ [])))
  pub equal : (a b n : ℕ) → F (AColumn a) → F (AColumn b) → C (Equality a b n)
  pub paired : (n a b : ℕ) → F (AColumn a) → F (AColumn b) → C (NonNullPair n a b)
  pub recorded :
      (z : Bool) (n c : ℕ) (x : Constraint Val) → OnlyRecorded x → F (AColumn c) → C (Recorded z n c (x ∷ []))

module _ {Val : Type 0} (F : Operand Val → Type 0) (C : Conjunct Val → Type 0) (f : Forms F C) where
  read_forms : (R : ℕ → AExpr Val) (n : ℕ) → ReadForms R n (λ x s. F s) (λ r p c. C c)
  read_forms R n =
      record {
        opaque = λ r. f.opaque n;
        entered = λ r x c p. f.entered n c p;
        compared = λ o x y c v p q. f.compared c o v p q;
        swapped = λ o x y c v p q. f.compared c (swap_comparison o) v q p;
        equal = λ x y a b p q. f.equal a b n p q;
        paired = λ o x y a b p q. f.paired n a b p q;
        not_compared = λ o a x y c v e p q. f.normalized c (negate_comparison o) v p q;
        not_swapped = λ o a x y c v e p q. f.normalized c (swap_comparison (negate_comparison o)) v q p;
        not_unequal = λ a x y b d e p q. f.equal b d n p q;
        not_paired = λ o a x y b d e p q. f.paired n b d p q;
        between = λ i j x y z c v w p q r. f.between c i j v w p q r;
        listed = λ e x y c l p q. f.recorded false n c (Allow l) tt p;
        unlisted = λ e a x y c l h p q. f.recorded false n c (Disallow (not e) l) tt p;
        null = λ x c p. f.recorded true n c (Require required.Null) tt p;
        non_null = λ x c p. f.recorded true n c (Require NonNull) tt p;
        not_null = λ a x c h p. f.recorded true n c (Require NonNull) tt p;
        not_non_null = λ a x c h p. f.recorded true n c (Require required.Null) tt p;
      }

  pub classify-ind : (R : ℕ → AExpr Val) → ((x : ℕ) → F (operand (R x))) → (n : ℕ) → C (classify R n)
  classify-ind R seen n = read_ind R n (λ x s. F s) (λ r p c. C c) (read_forms R n) seen

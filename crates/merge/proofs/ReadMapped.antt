-- Reading does not look at values: what is read of records whose values are taken to others is what is read of the
-- records, its values taken. So `translated_within` speaks of screens (02, 2.10).
use mathlib.Core.Path.{◌≡◌, refl, ◌∙◌, ap}
use mathlib.Core.Bool.{Bool, true, false, not, ◌&&◌, cond}
use mathlib.Core.List.{List, [], ◌∷◌, map}
use mathlib.Core.Option.{Option, none, some}
use Prim.Native.Nat.{ℕ, suc}
use native.Mathlib.Omega.{arith}
use lib.Dec.{leb, eqb}
use lib.ListN.{length, length-map}
use Rattle.records.specs.Operator.{code_of, is_null_propagating_comparison, swap_operands, negate}
use Rattle.records.specs.declared.operator.Operator.{Operator}
use Rattle.records.specs.declared.operator.Operator.TheVariants as operator
use Rattle.std.specs.Prelude as code
use Rattle.records.proofs.Courses.{course-agree}
use Rattle.truth.specs.Comparison.{Comparison, Eq, NotEq, Lt, LtEq, Gt, GtEq}
use Rattle.truth.specs.AExpr.{AExpr, Column, Literal, Null, BinaryExpr, Not, IsNull, IsNotNull, IsBetween}
use Rattle.truth.specs.AExpr.{ListLiteral, IsIn, Missing}
use Rattle.truth.specs.AExpr.{map_aexpr}
use Rattle.constraints.specs.declared.column.Nullability.{Nullability}
use Rattle.constraints.specs.declared.column.Nullability.TheVariants.{NonNull}
use Rattle.constraints.specs.declared.column.Nullability.TheVariants as required
use Rattle.constraints.specs.Column.{Constraint, Allow, Disallow}
use Rattle.constraints.specs.Mapped.{map_constraint}
use Rattle.merge.specs.Minterms.{and_sides, minterms_by, minterms}
use Rattle.merge.specs.Classify.{Conjunct, Bounds, Normalized, Equality, Recorded, NonNullPair, Opaque}
use Rattle.merge.specs.Classify.{Operand, AColumn, ALiteral, AList, Other, operand, operator_of}
use Rattle.merge.specs.Classify.{ordinary_comparison, classify_column_literal}
use Rattle.merge.specs.Classify.{classify_literal_column, classify_column_column, classify_comparison, normalized}
use Rattle.merge.specs.Classify.{classify_negated, classify_is_between, classify_is_in, classify_null}
use Rattle.merge.specs.Classify.{classify_negation, classify_record, classify, read_conjuncts}
use Rattle.merge.specs.Lines.{map_conjunct}

module _ {A B : Type 0} (f : A → B) where
  -- ---- operands
  abbrev map_operand : Operand A → Operand B
  map_operand (AColumn c) = AColumn c
  map_operand (ALiteral v) = ALiteral (f v)
  map_operand (AList l) = AList (map f l)
  map_operand Other = Other

  operand-mapped : (r : AExpr A) → operand (map_aexpr f r) ≡ map_operand (operand r)
  operand-mapped (Column c) = refl
  operand-mapped (Literal v) = refl
  operand-mapped Null = refl
  operand-mapped (BinaryExpr op x y) = refl
  operand-mapped (Not x) = refl
  operand-mapped (IsNull x) = refl
  operand-mapped (IsNotNull x) = refl
  operand-mapped (IsBetween c d x y z) = refl
  operand-mapped (ListLiteral m l) =
      ap (λ n. cond (not m && leb n 100) (AList (map f l)) Other) (length-map l f) ∙ go (not m && leb (length l) 100)
    where
      go : (b : Bool) → cond b (AList (map f l)) Other ≡ map_operand (cond b (AList l) Other)
      go true = refl
      go false = refl
  operand-mapped (IsIn e x y) = refl
  operand-mapped Missing = refl

  -- ---- comparisons
  literal-mapped : (n c : ℕ) (v : A) (o : Option Comparison) →
      classify_column_literal n c (f v) o ≡ map_conjunct f (classify_column_literal n c v o)
  literal-mapped n c v none = refl
  literal-mapped n c v (some Eq) = refl
  literal-mapped n c v (some NotEq) = refl
  literal-mapped n c v (some Lt) = refl
  literal-mapped n c v (some LtEq) = refl
  literal-mapped n c v (some Gt) = refl
  literal-mapped n c v (some GtEq) = refl

  swapped_mapped : (n c : ℕ) (v : A) (o : code.Option Operator) →
      classify_literal_column n c (f v) o ≡ map_conjunct f (classify_literal_column n c v o)
  swapped_mapped n c v code.None = refl
  swapped_mapped n c v (code.Some o) = literal-mapped n c v (ordinary_comparison o)

  columns-mapped : (n a b : ℕ) (o : Operator) → classify_column_column n a b o ≡ map_conjunct f (classify_column_column n a b o)
  columns-mapped n a b o = go (is_null_propagating_comparison o) (eqb (code_of o) (code_of operator.Eq))
    where
      go : (p q : Bool) → cond p (cond q (Equality a b n) (NonNullPair n a b)) (Opaque n) ≡
          map_conjunct f (cond p (cond q (Equality a b n) (NonNullPair n a b)) (Opaque n))
      go true true = refl
      go true false = refl
      go false q = refl

  comparison_mapped : (n : ℕ) (o : Operator) (x y : Operand A) →
      classify_comparison n o (map_operand x) (map_operand y) ≡ map_conjunct f (classify_comparison n o x y)
  comparison_mapped n o (AColumn a) (AColumn b) = columns-mapped n a b o
  comparison_mapped n o (AColumn c) (ALiteral v) = literal-mapped n c v (ordinary_comparison o)
  comparison_mapped n o (AColumn c) (AList l) = refl
  comparison_mapped n o (AColumn c) Other = refl
  comparison_mapped n o (ALiteral v) (AColumn c) = swapped_mapped n c v (swap_operands o)
  comparison_mapped n o (ALiteral v) (ALiteral w) = refl
  comparison_mapped n o (ALiteral v) (AList l) = refl
  comparison_mapped n o (ALiteral v) Other = refl
  comparison_mapped n o (AList l) y = refl
  comparison_mapped n o Other y = refl

  normalized-mapped : (x : Conjunct A) → normalized (map_conjunct f x) ≡ map_conjunct f (normalized x)
  normalized-mapped (Bounds c l) = refl
  normalized-mapped (Normalized c l) = refl
  normalized-mapped (Equality a b n) = refl
  normalized-mapped (Recorded stops n c l) = refl
  normalized-mapped (NonNullPair n a b) = refl
  normalized-mapped (Opaque n) = refl

  negated_mapped : (n : ℕ) (o : code.Option Operator) (x y : Operand A) →
      classify_negated n o (map_operand x) (map_operand y) ≡ map_conjunct f (classify_negated n o x y)
  negated_mapped n code.None x y = refl
  negated_mapped n (code.Some o) x y =
      ap normalized (comparison_mapped n o x y) ∙ normalized-mapped (classify_comparison n o x y)

  -- ---- the other readers
  between-mapped : (n : ℕ) (lo hi : Bool) (x y z : Operand A) →
      classify_is_between n lo hi (map_operand x) (map_operand y) (map_operand z) ≡
      map_conjunct f (classify_is_between n lo hi x y z)
  between-mapped n lo hi (AColumn c) (ALiteral v) (ALiteral w) = refl
  between-mapped n lo hi (AColumn c) (ALiteral v) (AColumn d) = refl
  between-mapped n lo hi (AColumn c) (ALiteral v) (AList l) = refl
  between-mapped n lo hi (AColumn c) (ALiteral v) Other = refl
  between-mapped n lo hi (AColumn c) (AColumn d) z = refl
  between-mapped n lo hi (AColumn c) (AList l) z = refl
  between-mapped n lo hi (AColumn c) Other z = refl
  between-mapped n lo hi (ALiteral v) y z = refl
  between-mapped n lo hi (AList l) y z = refl
  between-mapped n lo hi Other y z = refl

  list-mapped : (n : ℕ) (says : List A → Constraint A) (told : List B → Constraint B) →
      ((l : List A) → told (map f l) ≡ map_constraint f (says l)) → (x y : Operand A) →
      classify_is_in n told (map_operand x) (map_operand y) ≡ map_conjunct f (classify_is_in n says x y)
  list-mapped n says told e (AColumn c) (AList l) = λ i. Recorded false n c (e l i ∷ [])
  list-mapped n says told e (AColumn c) (AColumn d) = refl
  list-mapped n says told e (AColumn c) (ALiteral v) = refl
  list-mapped n says told e (AColumn c) Other = refl
  list-mapped n says told e (ALiteral v) y = refl
  list-mapped n says told e (AList l) y = refl
  list-mapped n says told e Other y = refl

  null_mapped : (n : ℕ) (must : Nullability) (x : Operand A) →
      classify_null n must (map_operand x) ≡ map_conjunct f (classify_null n must x)
  null_mapped n must (AColumn c) = refl
  null_mapped n must (ALiteral v) = refl
  null_mapped n must (AList l) = refl
  null_mapped n must Other = refl

  -- ---- records
  module _ (R : ℕ → AExpr A) where
    abbrev mapped : ℕ → AExpr B
    mapped n = map_aexpr f (R n)

    negation-mapped : (n : ℕ) (r : AExpr A) →
        classify_negation mapped n (map_aexpr f r) ≡ map_conjunct f (classify_negation R n r)
    negation-mapped n (Column c) = refl
    negation-mapped n (Literal v) = refl
    negation-mapped n Null = refl
    negation-mapped n (BinaryExpr op x y) =
        (λ i. classify_negated n (negate (operator_of op)) (operand-mapped (R x) i) (operand-mapped (R y) i))
        ∙ negated_mapped n (negate (operator_of op)) (operand (R x)) (operand (R y))
    negation-mapped n (Not x) = refl
    negation-mapped n (IsNull x) =
        ap (classify_null n NonNull) (operand-mapped (R x)) ∙ null_mapped n NonNull (operand (R x))
    negation-mapped n (IsNotNull x) =
        ap (classify_null n required.Null) (operand-mapped (R x)) ∙ null_mapped n required.Null (operand (R x))
    negation-mapped n (IsBetween c d x y z) = refl
    negation-mapped n (ListLiteral m l) = refl
    negation-mapped n (IsIn e x y) =
        (λ i. classify_is_in n (Disallow (not e)) (operand-mapped (R x) i) (operand-mapped (R y) i))
        ∙ list-mapped n (Disallow (not e)) (Disallow (not e)) (λ l. refl) (operand (R x)) (operand (R y))
    negation-mapped n Missing = refl

    record_mapped : (n : ℕ) (r : AExpr A) →
        classify_record mapped n (map_aexpr f r) ≡ map_conjunct f (classify_record R n r)
    record_mapped n (Column c) = refl
    record_mapped n (Literal v) = refl
    record_mapped n Null = refl
    record_mapped n (BinaryExpr op x y) =
        (λ i. classify_comparison n (operator_of op) (operand-mapped (R x) i) (operand-mapped (R y) i))
        ∙ comparison_mapped n (operator_of op) (operand (R x)) (operand (R y))
    record_mapped n (Not x) = negation-mapped n (R x)
    record_mapped n (IsNull x) =
        ap (classify_null n required.Null) (operand-mapped (R x)) ∙ null_mapped n required.Null (operand (R x))
    record_mapped n (IsNotNull x) =
        ap (classify_null n NonNull) (operand-mapped (R x)) ∙ null_mapped n NonNull (operand (R x))
    record_mapped n (IsBetween c d x y z) =
        (λ i. classify_is_between n c d (operand-mapped (R x) i) (operand-mapped (R y) i) (operand-mapped (R z) i))
        ∙ between-mapped n c d (operand (R x)) (operand (R y)) (operand (R z))
    record_mapped n (ListLiteral m l) = refl
    record_mapped n (IsIn e x y) =
        (λ i. classify_is_in n Allow (operand-mapped (R x) i) (operand-mapped (R y) i))
        ∙ list-mapped n Allow Allow (λ l. refl) (operand (R x)) (operand (R y))
    record_mapped n Missing = refl

    -- ---- conjuncts
    sides_mapped : (r : AExpr A) → and_sides (map_aexpr f r) ≡ and_sides r
    sides_mapped (Column c) = refl
    sides_mapped (Literal v) = refl
    sides_mapped Null = refl
    sides_mapped (BinaryExpr op x y) = refl
    sides_mapped (Not x) = refl
    sides_mapped (IsNull x) = refl
    sides_mapped (IsNotNull x) = refl
    sides_mapped (IsBetween c d x y z) = refl
    sides_mapped (ListLiteral m l) = refl
    sides_mapped (IsIn e x y) = refl
    sides_mapped Missing = refl

    pub minterms-mapped : (n : ℕ) → minterms mapped n ≡ minterms R n
    minterms-mapped n =
        course-agree (λ a. a ∷ []) (λ below i. minterms_by i below (and_sides (mapped i)))
        (λ below i. minterms_by i below (and_sides (R i))) (suc n)
        (λ m k C D e. ap (minterms_by m C) (sides_mapped (R m)) ∙ sides C D e m (and_sides (R m))) n (omega arith)
      where
        sides : (C D : ℕ → List ℕ) → ((a : ℕ) → C a ≡ D a) → (m : ℕ) (o : Option (ℕ × ℕ)) →
            minterms_by m C o ≡ minterms_by m D o
        sides C D e m none = refl
        sides C D e m (some s) = rw (e s.0, e s.1)

    pub read_mapped : (root : ℕ) → read_conjuncts mapped root ≡ map (map_conjunct f) (read_conjuncts R root)
    read_mapped root = ap (map (classify mapped)) (minterms-mapped root) ∙ all (minterms R root)
      where
        all : (ns : List ℕ) → map (classify mapped) ns ≡ map (map_conjunct f) (map (classify R) ns)
        all [] = refl
        all (n ∷ ns) = λ i. record_mapped n (R n) i ∷ all ns i

-- What the readers make of a node: bounds tell nothing that is only kept in mind, a kept conjunct tells no bound; and
-- they look at no record from the node on.
use mathlib.Core.Path.{◌≡◌, refl, ◌∙◌, ap}
use mathlib.Core.Bool.{true}
use mathlib.Core.Option.{Option}
use Prim.Native.Nat.{ℕ, ◌<◌}
use native.Mathlib.Omega.{arith}
use Rattle.truth.specs.Comparison.{Comparison, Eq, NotEq, Lt, LtEq, Gt, GtEq}
use Rattle.truth.specs.AExpr.{AExpr, BinaryExpr, Column, Inputs, IsBetween, IsIn, IsNotNull, IsNull, ListLiteral}
use Rattle.truth.specs.AExpr.{Literal, Missing, Not, Null, WF}
use Rattle.constraints.proofs.Columns.{obeys_recorded_all}
use Rattle.constraints.specs.Scalars.{Scalars}
use Rattle.merge.specs.Classify.{classify}
use Rattle.merge.specs.Classify.{classify_negation, classify_record}
use Rattle.merge.specs.Classify.{comparison_constraints}
use Rattle.merge.proofs.Forms.{classify-ind}
use Rattle.merge.proofs.ReadBack.{AsRead}

module _ {K Val : Type 0} (S : Scalars K Val) where
  pub comparison_read : (o : Comparison) (v : Val) (x : Option K) → obeys_recorded_all S (comparison_constraints o v) x ≡ true
  comparison_read Eq v x = refl
  comparison_read NotEq v x = refl
  comparison_read Lt v x = refl
  comparison_read LtEq v x = refl
  comparison_read Gt v x = refl
  comparison_read GtEq v x = refl

  pub classified_as : (R : ℕ → AExpr Val) (n : ℕ) → AsRead S (classify R n)
  classified_as R n = classify-ind (λ s. Unit {0}) (AsRead S) (record {
    opaque = λ n. tt;
    entered = λ n c p. tt;
    compared = λ c o v p q. comparison_read o v;
    normalized = λ c o v p q. comparison_read o v;
    between = λ c i j v w p q r x. refl;
    equal = λ a b n p q. tt;
    paired = λ n a b p q. tt;
    recorded = λ z n c x h p. (h, tt);
  }) R (λ x. tt) n

-- ---- Two tables of records that agree below u are read alike there.
module _ {Val : Type 0} (R Q : ℕ → AExpr Val) (u : ℕ) (same : (a : ℕ) → a < u → Q a ≡ R a) where
  negation-same : (n m : ℕ) (r : AExpr Val) → m < u → Inputs m r → classify_negation Q n r ≡ classify_negation R n r
  negation-same n m (Column c) h i = refl
  negation-same n m (Literal v) h i = refl
  negation-same n m Null h i = refl
  negation-same n m (BinaryExpr op x y) h i = rw (same x (omega (arith, i.0)), same y (omega (arith, i.1)))
  negation-same n m (Not a) h i = refl
  negation-same n m (IsNull a) h i = rw (same a (omega arith))
  negation-same n m (IsNotNull a) h i = rw (same a (omega arith))
  negation-same n m (IsBetween lo hi a x y) h i = refl
  negation-same n m (ListLiteral k values) h i = refl
  negation-same n m (IsIn e a list) h i = rw (same a (omega (arith, i.0)), same list (omega (arith, i.1)))
  negation-same n m Missing h i = refl

  record_same : (n : ℕ) (r : AExpr Val) → n < u → Inputs n r → WF R → classify_record Q n r ≡ classify_record R n r
  record_same n (Column c) h i w = refl
  record_same n (Literal v) h i w = refl
  record_same n Null h i w = refl
  record_same n (BinaryExpr op x y) h i w = rw (same x (omega (arith, i.0)), same y (omega (arith, i.1)))
  record_same n (Not a) h i w =
      ap (classify_negation Q n) (same a (omega arith)) ∙ negation-same n a (R a) (omega arith) (w a)
  record_same n (IsNull a) h i w = rw (same a (omega arith))
  record_same n (IsNotNull a) h i w = rw (same a (omega arith))
  record_same n (IsBetween lo hi a x y) h i w =
      rw (same a (omega (arith, i.0)), same x (omega (arith, i.1)), same y (omega (arith, i.2)))
  record_same n (ListLiteral k values) h i w = refl
  record_same n (IsIn e a list) h i w = rw (same a (omega (arith, i.0)), same list (omega (arith, i.1)))
  record_same n Missing h i w = refl

  pub classify-same : (n : ℕ) → n < u → WF R → classify Q n ≡ classify R n
  classify-same n h w = ap (classify_record Q n) (same n h) ∙ record_same n (R n) h (w n) w

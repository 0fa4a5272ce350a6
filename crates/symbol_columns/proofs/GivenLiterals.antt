-- The literal of what a conjunct says is the value that it gives.
use mathlib.Core.Path.{◌≡◌, refl, sym}
use mathlib.Core.Bool.{Bool, true, false, cond}
use mathlib.Core.List.{List, [], ◌∷◌}
use mathlib.Core.Logic.{inl, inr}
use Prim.Native.Nat.{ℕ, zero, suc, ◌-◌}
use native.Mathlib.Omega.{arith}
use Rattle.truth.specs.AExpr.{AExpr}
use Rattle.truth.specs.Comparison as truth
use Rattle.constraints.specs.Column.{Constraint, Lower, Upper, Exclude, Allow, Disallow, Require}
use Rattle.constraints.specs.LineKept.{Limit, LowerBound, UpperBound, ExcludedValue, OneOf, all_given_as}
use Rattle.merge.specs.Classify.{Conjunct, classify, comparison_constraints}
use Rattle.merge.proofs.Forms.{OnlyRecorded, classify-ind}
use Rattle.symbol_sources.specs.Sources.{limits_of, giver}
use Rattle.symbol_columns.specs.Literals.{literal_in, conjunct_literal}

pub compared-literal : (o : truth.Comparison) (v : ℕ) (upper : Bool) → v ≡ literal_in upper (comparison_constraints o v)
compared-literal truth.Eq v true = refl
compared-literal truth.Eq v false = refl
compared-literal truth.NotEq v true = refl
compared-literal truth.NotEq v false = refl
compared-literal truth.Lt v true = refl
compared-literal truth.Lt v false = refl
compared-literal truth.LtEq v true = refl
compared-literal truth.LtEq v false = refl
compared-literal truth.Gt v true = refl
compared-literal truth.Gt v false = refl
compared-literal truth.GtEq v true = refl
compared-literal truth.GtEq v false = refl

pub no_literal : (upper : Bool) → ◌≡◌ {A = ℕ} 0 (cond upper 0 0)
no_literal true = refl
no_literal false = refl

pub giver-before : (line opener : ℕ) → (opener ≡ 0 → ⊥) → opener - 1 ≡ giver line opener
giver-before line zero h = absurd (h refl)
giver-before line (suc e) h = omega arith

abbrev pub is_upper : Limit → Bool
is_upper LowerBound = false
is_upper UpperBound = true
is_upper ExcludedValue = false

-- ---- What a conjunct gives as a limit is its literal.
one : (v w : ℕ) → OneOf v (w ∷ []) → w ≡ v
one v w (inl e) = sym e
one v w (inr i) = absurd i

abbrev pub GivesLiteral : Conjunct ℕ → Type 0
GivesLiteral x = (k : Limit) (v : ℕ) → OneOf v (limits_of x k) → conjunct_literal (is_upper k) x ≡ v

-- an excluded value is the only literal
abbrev pub ExcludesLiteral : Conjunct ℕ → Type 0
ExcludesLiteral x = (upper : Bool) (v : ℕ) → OneOf v (limits_of x ExcludedValue) → conjunct_literal upper x ≡ v

compared-given : (o : truth.Comparison) (w : ℕ) (k : Limit) (v : ℕ) → OneOf v (all_given_as (comparison_constraints o w) k) →
    literal_in (is_upper k) (comparison_constraints o w) ≡ v
compared-given truth.Eq w LowerBound v i = one v w i
compared-given truth.Eq w UpperBound v i = one v w i
compared-given truth.Eq w ExcludedValue v i = absurd i
compared-given truth.NotEq w LowerBound v i = absurd i
compared-given truth.NotEq w UpperBound v i = absurd i
compared-given truth.NotEq w ExcludedValue v i = one v w i
compared-given truth.Lt w LowerBound v i = absurd i
compared-given truth.Lt w UpperBound v i = one v w i
compared-given truth.Lt w ExcludedValue v i = absurd i
compared-given truth.LtEq w LowerBound v i = absurd i
compared-given truth.LtEq w UpperBound v i = one v w i
compared-given truth.LtEq w ExcludedValue v i = absurd i
compared-given truth.Gt w LowerBound v i = one v w i
compared-given truth.Gt w UpperBound v i = absurd i
compared-given truth.Gt w ExcludedValue v i = absurd i
compared-given truth.GtEq w LowerBound v i = one v w i
compared-given truth.GtEq w UpperBound v i = absurd i
compared-given truth.GtEq w ExcludedValue v i = absurd i

compared-excluded : (o : truth.Comparison) (w : ℕ) (upper : Bool) (v : ℕ) →
    OneOf v (all_given_as (comparison_constraints o w) ExcludedValue) → literal_in upper (comparison_constraints o w) ≡ v
compared-excluded truth.Eq w upper v i = absurd i
compared-excluded truth.NotEq w true v i = one v w i
compared-excluded truth.NotEq w false v i = one v w i
compared-excluded truth.Lt w upper v i = absurd i
compared-excluded truth.LtEq w upper v i = absurd i
compared-excluded truth.Gt w upper v i = absurd i
compared-excluded truth.GtEq w upper v i = absurd i

between-given : (i j : Bool) (x y : ℕ) (k : Limit) (v : ℕ) → OneOf v (all_given_as (Lower i x ∷ (Upper j y ∷ [])) k) →
    literal_in (is_upper k) (Lower i x ∷ (Upper j y ∷ [])) ≡ v
between-given i j x y LowerBound v m = one v x m
between-given i j x y UpperBound v m = one v y m
between-given i j x y ExcludedValue v m = absurd m

recorded-none : (a : Constraint ℕ) → OnlyRecorded a → (k : Limit) (v : ℕ) → OneOf v (all_given_as (a ∷ []) k) → ⊥
recorded-none (Lower c w) h k v i = h
recorded-none (Upper c w) h k v i = h
recorded-none (Exclude w) h k v i = h
recorded-none (Allow l) h k v i = i
recorded-none (Disallow c l) h k v i = i
recorded-none (Require n) h k v i = i

abbrev Both : Conjunct ℕ → Type 0
Both x = GivesLiteral x × ExcludesLiteral x

both : (R : ℕ → AExpr ℕ) (n : ℕ) → Both (classify R n)
both R n =
    classify-ind (λ s. Unit {0}) Both
    (record {
      opaque = λ n. ((λ k v i. absurd i), λ u v i. absurd i);
      entered = λ n c p. ((λ k v i. absurd i), λ u v i. absurd i);
      compared = λ c o v p q. (compared-given o v, compared-excluded o v);
      normalized = λ c o v p q. (compared-given o v, compared-excluded o v);
      between = λ c i j v w p q r. (between-given i j v w, λ u x m. absurd m);
      equal = λ a b n p q. ((λ k v i. absurd i), λ u v i. absurd i);
      paired = λ n a b p q. ((λ k v i. absurd i), λ u v i. absurd i);
      recorded = λ z n c x h p.
          ((λ k v i. absurd (recorded-none x h k v i)), λ u v i. absurd (recorded-none x h ExcludedValue v i));
    }) R (λ x. tt) n

pub gives-literal : (R : ℕ → AExpr ℕ) (n : ℕ) → GivesLiteral (classify R n)
gives-literal R n = (both R n).0

pub excludes_literal : (R : ℕ → AExpr ℕ) (n : ℕ) → ExcludesLiteral (classify R n)
excludes_literal R n = (both R n).1

-- Whether a screen is plain does not depend on its values: what is plain of the bits is plain of what is held.
use mathlib.Core.Path.{◌≡◌, refl, sym, ◌∙◌, ap, fun_ext}
use mathlib.Core.Bool.{Bool, false, not, ◌&&◌, ◌||◌}
use mathlib.Core.List.{List, [], ◌∷◌, map}
use Prim.Native.Nat.{ℕ, suc}
use native.Mathlib.Omega.{arith}
use lib.Dec.{leb}
use lib.ListN.{length}
use Rattle.records.proofs.Courses.{course-agree}
use Rattle.truth.specs.AExpr.{AExpr, Column, Literal, Null, BinaryExpr, Not, IsNull, IsNotNull, IsBetween, ListLiteral, IsIn}
use Rattle.truth.specs.AExpr.{Missing, map_aexpr}
use Rattle.truth.specs.AExpr.{BinaryOp, Compare, EqValidity, NotEqValidity, FloorDivide, Modulus, And, Or, Xor, LogicalAnd}
use Rattle.truth.specs.AExpr.{LogicalOr}
use Rattle.truth.specs.FromBytes.{aexpr_at}
use Rattle.merge.specs.Plain.{is_column, is_literal, is_short_list, is_eq, beside_literal, plain_compared, plain_binary, plain_negation}
use Rattle.merge.specs.Plain.{plain_record, plain_conjuncts, reads_step, reads_column}
use Rattle.symbol_screens.specs.Held.{bits_of}
use Rattle.symbol_screens.specs.Reading.{held_at}
use Rattle.symbol_demand.proofs.Bits.{bits_at}

module _ {A B : Type 0} (f : A → B) where
  column-mapped : (x : AExpr A) → is_column (map_aexpr f x) ≡ is_column x
  column-mapped (Column c) = refl
  column-mapped (Literal v) = refl
  column-mapped Null = refl
  column-mapped (BinaryExpr o x y) = refl
  column-mapped (Not x) = refl
  column-mapped (IsNull x) = refl
  column-mapped (IsNotNull x) = refl
  column-mapped (IsBetween c d x y z) = refl
  column-mapped (ListLiteral m l) = refl
  column-mapped (IsIn e x y) = refl
  column-mapped Missing = refl

  literal-mapped : (x : AExpr A) → is_literal (map_aexpr f x) ≡ is_literal x
  literal-mapped (Column c) = refl
  literal-mapped (Literal v) = refl
  literal-mapped Null = refl
  literal-mapped (BinaryExpr o x y) = refl
  literal-mapped (Not x) = refl
  literal-mapped (IsNull x) = refl
  literal-mapped (IsNotNull x) = refl
  literal-mapped (IsBetween c d x y z) = refl
  literal-mapped (ListLiteral m l) = refl
  literal-mapped (IsIn e x y) = refl
  literal-mapped Missing = refl

  length-mapped : (l : List A) → length (map f l) ≡ length l
  length-mapped [] = refl
  length-mapped (x ∷ l) = ap suc (length-mapped l)

  list-mapped : (x : AExpr A) → is_short_list (map_aexpr f x) ≡ is_short_list x
  list-mapped (Column c) = refl
  list-mapped (Literal v) = refl
  list-mapped Null = refl
  list-mapped (BinaryExpr o x y) = refl
  list-mapped (Not x) = refl
  list-mapped (IsNull x) = refl
  list-mapped (IsNotNull x) = refl
  list-mapped (IsBetween c d x y z) = refl
  list-mapped (ListLiteral m l) = ap (λ n. not m && leb n 100) (length-mapped l)
  list-mapped (IsIn e x y) = refl
  list-mapped Missing = refl

  beside-mapped : (x y : AExpr A) → beside_literal (map_aexpr f x) (map_aexpr f y) ≡ beside_literal x y
  beside-mapped x y =
      λ i. (column-mapped x i && literal-mapped y i) || (literal-mapped x i && column-mapped y i)

  compared-mapped : (o : BinaryOp) (x y : AExpr A) → plain_compared o (map_aexpr f x) (map_aexpr f y) ≡ plain_compared o x y
  compared-mapped (Compare c) x y = beside-mapped x y
  compared-mapped EqValidity x y = refl
  compared-mapped NotEqValidity x y = refl
  compared-mapped FloorDivide x y = refl
  compared-mapped Modulus x y = refl
  compared-mapped And x y = refl
  compared-mapped Or x y = refl
  compared-mapped Xor x y = refl
  compared-mapped LogicalAnd x y = refl
  compared-mapped LogicalOr x y = refl

  binary-mapped : (o : BinaryOp) (x y : AExpr A) → plain_binary o (map_aexpr f x) (map_aexpr f y) ≡ plain_binary o x y
  binary-mapped (Compare c) x y =
      λ i. beside-mapped x y i || (is_eq c && (column-mapped x i && column-mapped y i))
  binary-mapped EqValidity x y = refl
  binary-mapped NotEqValidity x y = refl
  binary-mapped FloorDivide x y = refl
  binary-mapped Modulus x y = refl
  binary-mapped And x y = refl
  binary-mapped Or x y = refl
  binary-mapped Xor x y = refl
  binary-mapped LogicalAnd x y = refl
  binary-mapped LogicalOr x y = refl

  reads-step : (c : ℕ) (below : ℕ → Bool) (x : AExpr A) → reads_step c below (map_aexpr f x) ≡ reads_step c below x
  reads-step c below (Column d) = refl
  reads-step c below (Literal v) = refl
  reads-step c below Null = refl
  reads-step c below (BinaryExpr o x y) = refl
  reads-step c below (Not x) = refl
  reads-step c below (IsNull x) = refl
  reads-step c below (IsNotNull x) = refl
  reads-step c below (IsBetween a b x y z) = refl
  reads-step c below (ListLiteral m l) = refl
  reads-step c below (IsIn e x y) = refl
  reads-step c below Missing = refl

  below-same : (c : ℕ) (C D : ℕ → Bool) → ((a : ℕ) → C a ≡ D a) → (x : AExpr A) → reads_step c C x ≡ reads_step c D x
  below-same c C D h (Column d) = refl
  below-same c C D h (Literal v) = refl
  below-same c C D h Null = refl
  below-same c C D h (BinaryExpr o x y) = rw (h x, h y)
  below-same c C D h (Not x) = h x
  below-same c C D h (IsNull x) = h x
  below-same c C D h (IsNotNull x) = h x
  below-same c C D h (IsBetween a b x y z) = rw (h x, h y, h z)
  below-same c C D h (ListLiteral m l) = refl
  below-same c C D h (IsIn e x y) = rw (h x, h y)
  below-same c C D h Missing = refl

  module _ (R : ℕ → AExpr A) where
    abbrev mapped : ℕ → AExpr B
    mapped n = map_aexpr f (R n)

    negation-mapped : (x : AExpr A) → plain_negation mapped (map_aexpr f x) ≡ plain_negation R x
    negation-mapped (Column c) = refl
    negation-mapped (Literal v) = refl
    negation-mapped Null = refl
    negation-mapped (BinaryExpr o x y) = compared-mapped o (R x) (R y)
    negation-mapped (Not x) = refl
    negation-mapped (IsNull x) = column-mapped (R x)
    negation-mapped (IsNotNull x) = column-mapped (R x)
    negation-mapped (IsBetween c d x y z) = refl
    negation-mapped (ListLiteral m l) = refl
    negation-mapped (IsIn e x y) = λ i. column-mapped (R x) i && list-mapped (R y) i
    negation-mapped Missing = refl

    record_mapped : (x : AExpr A) → plain_record mapped (map_aexpr f x) ≡ plain_record R x
    record_mapped (Column c) = refl
    record_mapped (Literal v) = refl
    record_mapped Null = refl
    record_mapped (BinaryExpr o x y) = binary-mapped o (R x) (R y)
    record_mapped (Not x) = negation-mapped (R x)
    record_mapped (IsNull x) = column-mapped (R x)
    record_mapped (IsNotNull x) = column-mapped (R x)
    record_mapped (IsBetween c d x y z) =
        λ i. column-mapped (R x) i && (literal-mapped (R y) i && literal-mapped (R z) i)
    record_mapped (ListLiteral m l) = refl
    record_mapped (IsIn e x y) = λ i. column-mapped (R x) i && list-mapped (R y) i
    record_mapped Missing = refl

    conjuncts-mapped : (l : List ℕ) → plain_conjuncts mapped l ≡ plain_conjuncts R l
    conjuncts-mapped [] = refl
    conjuncts-mapped (n ∷ l) = λ i. record_mapped (R n) i && conjuncts-mapped l i

    reads-mapped : (n c : ℕ) → reads_column mapped n c ≡ reads_column R n c
    reads-mapped n c =
        course-agree (λ a. false) (λ below i. reads_step c below (mapped i)) (λ below i. reads_step c below (R i)) (suc n)
        (λ m k C D e. reads-step c C (R m) ∙ below-same c C D e (R m)) n (omega arith)

module _ (rs p : List ℕ) (used : ℕ) where
  pub plain-bits : (l : List ℕ) → plain_conjuncts (aexpr_at rs p used) l ≡ plain_conjuncts (held_at rs p used) l
  plain-bits l =
      ap (λ (R : ℕ → AExpr ℕ). plain_conjuncts R l) (sym (fun_ext (bits_at rs p used)))
      ∙ conjuncts-mapped bits_of (held_at rs p used) l

  pub reads-bits : (n c : ℕ) → reads_column (aexpr_at rs p used) n c ≡ reads_column (held_at rs p used) n c
  reads-bits n c =
      ap (λ (R : ℕ → AExpr ℕ). reads_column R n c) (sym (fun_ext (bits_at rs p used)))
      ∙ reads-mapped bits_of (held_at rs p used) n c

-- What holds of every column with a literal that a record compares it with (P c v), holds of the comparisons that the
-- outcome writes.
use mathlib.Core.Path.{◌≡◌, refl, subst}
use mathlib.Core.Bool.{Bool, true, false, cond, not, ◌&&◌}
use mathlib.Core.List.{List, [], ◌∷◌, map}
use Prim.Native.Nat.{ℕ}
use lib.Dec.{leb}
use lib.ListN.{length}
use Rattle.truth.specs.Comparison.{Comparison, Eq, NotEq, Lt, LtEq, Gt, GtEq}
use Rattle.truth.specs.AExpr.{AExpr, Column, Literal, Null, BinaryExpr, Not, IsNull, IsNotNull, IsBetween}
use Rattle.truth.specs.AExpr.{ListLiteral, IsIn, Missing}
use Rattle.truth.specs.AExpr.{BinaryOp, Compare, EqValidity, NotEqValidity, And, Or, Xor, LogicalAnd, LogicalOr}
use Rattle.truth.specs.AExpr.{FloorDivide, Modulus}
use Rattle.truth.proofs.Negations.{negate_comparison}
use Rattle.constraints.specs.Scalars.{Scalars}
use Rattle.merge.specs.Minterms.{minterms}
use Rattle.merge.specs.Classify.{Operand, AColumn, ALiteral, AList, Other, operand, classify}
use Rattle.merge.specs.Classify.{comparison_constraints, read_conjuncts}
use Rattle.merge.proofs.Operators.{swap_comparison}
use Rattle.merge.specs.Emit.{merge_filter_constraints}
use Rattle.merge.proofs.Forms.{ReadForms, read_ind}
use Rattle.merge.proofs.Literals.{Alike, ConjunctP, ConjunctsP, ConstraintsP, OutcomeP, merge_p}

op_p : {Val : Type 0} (P : Val → Type 0) (o : Comparison) (v : Val) → P v → ConstraintsP P (comparison_constraints o v)
op_p P Eq v h = (h, (h, tt))
op_p P NotEq v h = (h, tt)
op_p P Lt v h = (h, tt)
op_p P LtEq v h = (h, tt)
op_p P Gt v h = (h, tt)
op_p P GtEq v h = (h, tt)

module _ {K Val : Type 0} (S : Scalars K Val) (P : ℕ → Val → Type 0)
    (opens : (c : ℕ) (w e : Val) → P c w → P c e → P c (S.opened w e)) where
  -- What two operands that are compared must meet: a column and a literal P; of two columns the same is asked.
  abbrev pub Together : Operand Val → Operand Val → Type 0
  Together (AColumn a) (AColumn b) = Alike S P opens a b
  Together (AColumn c) (ALiteral v) = P c v
  Together (AColumn c) (AList l) = Unit {0}
  Together (AColumn c) Other = Unit {0}
  Together (ALiteral v) (AColumn c) = P c v
  Together (ALiteral v) (ALiteral w) = Unit {0}
  Together (ALiteral v) (AList l) = Unit {0}
  Together (ALiteral v) Other = Unit {0}
  Together (AList l) t = Unit {0}
  Together Other t = Unit {0}

  module _ (R : ℕ → AExpr Val) where
    abbrev pub At : ℕ → ℕ → Type 0
    At x y = Together (operand (R x)) (operand (R y))

    abbrev BinaryP : BinaryOp → ℕ → ℕ → Type 0
    BinaryP (Compare o) x y = At x y
    BinaryP EqValidity x y = Unit {0}
    BinaryP NotEqValidity x y = Unit {0}
    BinaryP FloorDivide x y = Unit {0}
    BinaryP Modulus x y = Unit {0}
    BinaryP And x y = Unit {0}
    BinaryP Or x y = Unit {0}
    BinaryP Xor x y = Unit {0}
    BinaryP LogicalAnd x y = Unit {0}
    BinaryP LogicalOr x y = Unit {0}

    -- What is asked of a record: of its sides, if it is a comparison or is_between.
    abbrev pub RecordP : AExpr Val → Type 0
    RecordP (Column c) = Unit {0}
    RecordP (Literal v) = Unit {0}
    RecordP Null = Unit {0}
    RecordP (BinaryExpr b x y) = BinaryP b x y
    RecordP (Not x) = Unit {0}
    RecordP (IsNull x) = Unit {0}
    RecordP (IsNotNull x) = Unit {0}
    RecordP (IsBetween c d x y z) = At x y × At x z
    RecordP (ListLiteral h l) = Unit {0}
    RecordP (IsIn e x y) = Unit {0}
    RecordP Missing = Unit {0}

    pub record_binary : (b : BinaryOp) (x y : ℕ) → At x y → RecordP (BinaryExpr b x y)
    record_binary (Compare o) x y h = h
    record_binary EqValidity x y h = tt
    record_binary NotEqValidity x y h = tt
    record_binary FloorDivide x y h = tt
    record_binary Modulus x y h = tt
    record_binary And x y h = tt
    record_binary Or x y h = tt
    record_binary Xor x y h = tt
    record_binary LogicalAnd x y h = tt
    record_binary LogicalOr x y h = tt

    seen_as : (x y : ℕ) (s t : Operand Val) → operand (R x) ≡ s → operand (R y) ≡ t → At x y → Together s t
    seen_as x y s t e f h = subst (λ q. Together s q) f (subst (λ q. Together q (operand (R y))) e h)

    module _ (all : (n : ℕ) → RecordP (R n)) where
      -- the sides of a comparison below Not
      inner : (a : ℕ) (o : Comparison) (x y : ℕ) → R a ≡ BinaryExpr (Compare o) x y → At x y
      inner a o x y e = subst RecordP e (all a)

      forms : (n : ℕ) → ReadForms R n (λ x s. operand (R x) ≡ s) (λ r p c. RecordP r → ConjunctP S P opens c)
      forms n =
          record {
            opaque = λ r h. tt;
            entered = λ r x c p h. tt;
            compared = λ o x y c v p q h. op_p (P c) o v (seen_as x y (AColumn c) (ALiteral v) p q h);
            swapped =
                λ o x y c v p q h. op_p (P c) (swap_comparison o) v (seen_as x y (ALiteral v) (AColumn c) p q h);
            equal = λ x y a b p q h. seen_as x y (AColumn a) (AColumn b) p q h;
            paired = λ o x y a b p q h. tt;
            not_compared =
                λ o a x y c v e p q h. op_p (P c) (negate_comparison o) v
                (seen_as x y (AColumn c) (ALiteral v) p q (inner a o x y e));
            not_swapped =
                λ o a x y c v e p q h. op_p (P c) (swap_comparison (negate_comparison o)) v
                (seen_as x y (ALiteral v) (AColumn c) p q (inner a o x y e));
            not_unequal = λ a x y b d e p q h. seen_as x y (AColumn b) (AColumn d) p q (inner a NotEq x y e);
            not_paired = λ o a x y b d e p q h. tt;
            between =
                λ i j x y z c v w p q r h. (
                  seen_as x y (AColumn c) (ALiteral v) p q h.0,
                  (seen_as x z (AColumn c) (ALiteral w) p r h.1, tt),
                );
            listed = λ e x y c l p q h. (tt, tt);
            unlisted = λ e a x y c l f p q h. (tt, tt);
            null = λ x c p h. (tt, tt);
            non_null = λ x c p h. (tt, tt);
            not_null = λ a x c f p h. (tt, tt);
            not_non_null = λ a x c f p h. (tt, tt);
          }

      lines-p : (l : List ℕ) → ConjunctsP S P opens (map (classify R) l)
      lines-p [] = tt
      lines-p (n ∷ l) = (
        read_ind R n (λ x s. operand (R x) ≡ s) (λ r p c. RecordP r → ConjunctP S P opens c) (forms n)
            (λ x. refl) (all n),
        lines-p l,
      )

      pub conjuncts-p : (root : ℕ) → ConjunctsP S P opens (read_conjuncts R root)
      conjuncts-p root = lines-p (minterms R root)

      pub records-p : (root : ℕ) → OutcomeP S P opens (merge_filter_constraints S (read_conjuncts R root))
      records-p root = merge_p S P opens (read_conjuncts R root) (conjuncts-p root)

-- ---- What is asked of columns and of literals apart.
module _ {K Val : Type 0} (S : Scalars K Val) (P : Val → Type 0) (opens : (w e : Val) → P w → P e → P (S.opened w e))
    (Q : ℕ → Type 0) where
  -- of a record: its column, its literal
  abbrev pub AExprP : AExpr Val → Type 0
  AExprP (Column c) = Q c
  AExprP (Literal v) = P v
  AExprP Null = Unit {0}
  AExprP (BinaryExpr b x y) = Unit {0}
  AExprP (Not x) = Unit {0}
  AExprP (IsNull x) = Unit {0}
  AExprP (IsNotNull x) = Unit {0}
  AExprP (IsBetween c d x y z) = Unit {0}
  AExprP (ListLiteral h l) = Unit {0}
  AExprP (IsIn e x y) = Unit {0}
  AExprP Missing = Unit {0}

  abbrev OperandP : Operand Val → Type 0
  OperandP (AColumn c) = Q c
  OperandP (ALiteral v) = P v
  OperandP (AList l) = Unit {0}
  OperandP Other = Unit {0}

  operand-p : (r : AExpr Val) → AExprP r → OperandP (operand r)
  operand-p (Column c) h = h
  operand-p (Literal v) h = h
  operand-p Null h = tt
  operand-p (BinaryExpr b x y) h = tt
  operand-p (Not x) h = tt
  operand-p (IsNull x) h = tt
  operand-p (IsNotNull x) h = tt
  operand-p (IsBetween c d x y z) h = tt
  operand-p (ListLiteral m l) h = go m (leb (length l) 100)
    where
      go : (m b : Bool) → OperandP (cond (not m && b) (AList l) Other)
      go true b = tt
      go false true = tt
      go false false = tt
  operand-p (IsIn e x y) h = tt
  operand-p Missing h = tt

  -- of a column with a literal: both
  abbrev pub Both : ℕ → Val → Type 0
  Both c v = Q c × P v

  abbrev pub both-opens : (c : ℕ) (w e : Val) → Both c w → Both c e → Both c (S.opened w e)
  both-opens c w e h k = (h.0, opens w e h.1 k.1)

  both-together : (s t : Operand Val) → OperandP s → OperandP t → Together S Both both-opens s t
  both-together (AColumn a) (AColumn b) h k = ((λ v q. (k, q.1)), λ v q. (h, q.1))
  both-together (AColumn c) (ALiteral v) h k = (h, k)
  both-together (AColumn c) (AList l) h k = tt
  both-together (AColumn c) Other h k = tt
  both-together (ALiteral v) (AColumn c) h k = (k, h)
  both-together (ALiteral v) (ALiteral w) h k = tt
  both-together (ALiteral v) (AList l) h k = tt
  both-together (ALiteral v) Other h k = tt
  both-together (AList l) t h k = tt
  both-together Other t h k = tt

  module _ (R : ℕ → AExpr Val) (all : (n : ℕ) → AExprP (R n)) where
    both_at : (x y : ℕ) → At S Both both-opens R x y
    both_at x y = both-together (operand (R x)) (operand (R y)) (operand-p (R x) (all x)) (operand-p (R y) (all y))

    both-record : (r : AExpr Val) → RecordP S Both both-opens R r
    both-record (Column c) = tt
    both-record (Literal v) = tt
    both-record Null = tt
    both-record (BinaryExpr b x y) = record_binary S Both both-opens R b x y (both_at x y)
    both-record (Not x) = tt
    both-record (IsNull x) = tt
    both-record (IsNotNull x) = tt
    both-record (IsBetween c d x y z) = (both_at x y, both_at x z)
    both-record (ListLiteral m l) = tt
    both-record (IsIn e x y) = tt
    both-record Missing = tt

    pub apart_p : (root : ℕ) → ConjunctsP S Both both-opens (read_conjuncts R root)
    apart_p root = conjuncts-p S Both both-opens R (λ n. both-record (R n)) root

    pub outcome_p : (root : ℕ) → OutcomeP S Both both-opens (merge_filter_constraints S (read_conjuncts R root))
    outcome_p root = merge_p S Both both-opens (read_conjuncts R root) (apart_p root)

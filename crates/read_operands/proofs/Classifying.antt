-- Reading a conjunct in code: what its matches leave of the definitions.
use mathlib.Core.Path.{◌≡◌, refl, sym, ◌∙◌, ap}
use mathlib.Core.Bool.{true, cond}
use mathlib.Core.List.{List}
use Prim.Native.Nat.{ℕ, zero, suc, ◌≤◌, ◌<◌}
use lib.Dec.{leb}
use lib.ListN.{length}
use borrow.Author.Tests.{le-leb, lt-leb, eq-eqb, ne_eqb}
use Rattle.records.specs.Operator.{code_of, is_null_propagating_comparison, negate}
use Rattle.records.specs.Record.{record_at}
use Rattle.records.specs.declared.operator.Operator.{Operator}
use Rattle.records.specs.declared.operator.Operator.TheVariants as operator
use Rattle.std.specs.Prelude as code
use Rattle.records.specs.declared.record.Node.{Node}
use Rattle.records.specs.declared.record.Record.{Record}
use Rattle.records.specs.declared.record.Record.TheVariants as kind
use Rattle.truth.specs.AExpr.{AExpr}
use Rattle.truth.specs.FromBytes.{values_from, binary_expr, to_aexpr, aexpr_of}
use Rattle.merge.specs.Classify.{Operand, AList, Other, operand, Equality, NonNullPair, classify_column_column}
use Rattle.merge.specs.Classify.{classify_negated, classify_negation, classify_record, classify}
use Rattle.read_operands.specs.Read.{binary_conjunct}

pub values_length : (p : List ℕ) (start count : ℕ) → length (values_from p start count) ≡ count
unfolding values_from
values_length p start zero = refl
values_length p start (suc count) = ap suc (values_length p (suc start) count)

pub list-short : (p : List ℕ) (start count : ℕ) → count ≤ 100
    → AList (values_from p start count) ≡
    cond (leb (length (values_from p start count)) 100) (AList (values_from p start count)) Other
list-short p start count h = rw (values_length p start count, le-leb count 100 h)

pub list-long : (p : List ℕ) (start count : ℕ) → 100 < count
    → Other ≡ cond (leb (length (values_from p start count)) 100) (AList (values_from p start count)) Other
list-long p start count h = rw (values_length p start count, lt-leb count 100 h)

pub no_operand : (o : Operator) (x y : ℕ) → Other ≡ operand (binary_expr o x y)
no_operand operator.Eq x y = refl
no_operand operator.EqValidity x y = refl
no_operand operator.NotEq x y = refl
no_operand operator.NotEqValidity x y = refl
no_operand operator.Lt x y = refl
no_operand operator.LtEq x y = refl
no_operand operator.Gt x y = refl
no_operand operator.GtEq x y = refl
no_operand operator.Plus x y = refl
no_operand operator.Minus x y = refl
no_operand operator.Multiply x y = refl
no_operand operator.RustDivide x y = refl
no_operand operator.TrueDivide x y = refl
no_operand operator.FloorDivide x y = refl
no_operand operator.Modulus x y = refl
no_operand operator.And x y = refl
no_operand operator.Or x y = refl
no_operand operator.Xor x y = refl
no_operand operator.LogicalAnd x y = refl
no_operand operator.LogicalOr x y = refl

pub negation-law : (rs p : List ℕ) (n : ℕ) (r s : Record) (x : Node) → r ≡ kind.Not x → s ≡ record_at rs x
    → classify_negation (aexpr_of rs p) n (to_aexpr p s) ≡ classify_record (aexpr_of rs p) n (to_aexpr p r)
unfolding aexpr_of
negation-law rs p n r s x e f =
    ap (λ q. classify_negation (aexpr_of rs p) n (to_aexpr p q)) f
    ∙ ap (λ q. classify_record (aexpr_of rs p) n (to_aexpr p q)) (sym e)

pub classify-law : (rs p : List ℕ) (n : Node) (r : Record) → r ≡ record_at rs n
    → classify_record (aexpr_of rs p) n.0 (to_aexpr p r) ≡ classify (aexpr_of rs p) n.0
unfolding aexpr_of
classify-law rs p n r e = ap (λ q. classify_record (aexpr_of rs p) n.0 (to_aexpr p q)) e

pub operand-law : (rs p : List ℕ) (n : Node) (r : Record) → r ≡ record_at rs n
    → operand (to_aexpr p r) ≡ operand (aexpr_of rs p n.0)
unfolding aexpr_of
operand-law rs p n r e = ap (λ q. operand (to_aexpr p q)) e

-- ---- A comparison.
binary-same : (R : ℕ → AExpr ℕ) (n x y : ℕ) (o : Operator)
    → binary_conjunct n o (operand (R x)) (operand (R y)) ≡ classify_record R n (binary_expr o x y)
binary-same R n x y operator.Eq = refl
binary-same R n x y operator.EqValidity = refl
binary-same R n x y operator.NotEq = refl
binary-same R n x y operator.NotEqValidity = refl
binary-same R n x y operator.Lt = refl
binary-same R n x y operator.LtEq = refl
binary-same R n x y operator.Gt = refl
binary-same R n x y operator.GtEq = refl
binary-same R n x y operator.Plus = refl
binary-same R n x y operator.Minus = refl
binary-same R n x y operator.Multiply = refl
binary-same R n x y operator.RustDivide = refl
binary-same R n x y operator.TrueDivide = refl
binary-same R n x y operator.FloorDivide = refl
binary-same R n x y operator.Modulus = refl
binary-same R n x y operator.And = refl
binary-same R n x y operator.Or = refl
binary-same R n x y operator.Xor = refl
binary-same R n x y operator.LogicalAnd = refl
binary-same R n x y operator.LogicalOr = refl

pub binary-law : (rs p : List ℕ) (n : ℕ) (r : Record) (o k : Operator) (x y : Node) (a b : Operand ℕ)
    → r ≡ kind.Binary o x y → k ≡ o → a ≡ operand (aexpr_of rs p x.0) → b ≡ operand (aexpr_of rs p y.0)
    → binary_conjunct n k a b ≡ classify_record (aexpr_of rs p) n (to_aexpr p r)
binary-law rs p n r o k x y a b e f g h =
    ap (λ j. binary_conjunct n j a b) f ∙ ap (λ l. binary_conjunct n o l b) g
    ∙ ap (λ l. binary_conjunct n o (operand (aexpr_of rs p x.0)) l) h
    ∙ binary-same (aexpr_of rs p) n x.0 y.0 o
    ∙ ap (λ q. classify_record (aexpr_of rs p) n (to_aexpr p q)) (sym e)

-- ---- Two columns, by the code k of the operator.
pub columns-equal : (n a b : ℕ) (o : Operator) (k : ℕ) → is_null_propagating_comparison o ≡ true → k ≡ code_of o → k ≡ 0
    → Equality a b n ≡ classify_column_column {Val = ℕ} n a b o
columns-equal n a b o k h e z = rw (h, eq-eqb (code_of o) 0 (sym e ∙ z))

pub columns-paired : (n a b : ℕ) (o : Operator) (k : ℕ) → is_null_propagating_comparison o ≡ true → k ≡ code_of o
    → (k ≡ 0 → ⊥) → NonNullPair n a b ≡ classify_column_column {Val = ℕ} n a b o
columns-paired n a b o k h e z = rw (h, ne_eqb (code_of o) 0 (λ q. z (e ∙ q)))

-- ---- A comparison below Not.
negated_same : (R : ℕ → AExpr ℕ) (n x y : ℕ) (o : Operator)
    → classify_negated n (negate o) (operand (R x)) (operand (R y)) ≡ classify_negation R n (binary_expr o x y)
negated_same R n x y operator.Eq = refl
negated_same R n x y operator.EqValidity = refl
negated_same R n x y operator.NotEq = refl
negated_same R n x y operator.NotEqValidity = refl
negated_same R n x y operator.Lt = refl
negated_same R n x y operator.LtEq = refl
negated_same R n x y operator.Gt = refl
negated_same R n x y operator.GtEq = refl
negated_same R n x y operator.Plus = refl
negated_same R n x y operator.Minus = refl
negated_same R n x y operator.Multiply = refl
negated_same R n x y operator.RustDivide = refl
negated_same R n x y operator.TrueDivide = refl
negated_same R n x y operator.FloorDivide = refl
negated_same R n x y operator.Modulus = refl
negated_same R n x y operator.And = refl
negated_same R n x y operator.Or = refl
negated_same R n x y operator.Xor = refl
negated_same R n x y operator.LogicalAnd = refl
negated_same R n x y operator.LogicalOr = refl

pub negation-binary : (rs p : List ℕ) (n : ℕ) (r : Record) (o : Operator) (x y : Node) (k : code.Option Operator) (a b : Operand ℕ)
    → r ≡ kind.Binary o x y → k ≡ negate o → a ≡ operand (aexpr_of rs p x.0) → b ≡ operand (aexpr_of rs p y.0)
    → classify_negated n k a b ≡ classify_negation (aexpr_of rs p) n (to_aexpr p r)
negation-binary rs p n r o x y k a b e f g h =
    ap (λ j. classify_negated n j a b) f ∙ ap (λ l. classify_negated n (negate o) l b) g
    ∙ ap (λ l. classify_negated n (negate o) (operand (aexpr_of rs p x.0)) l) h
    ∙ negated_same (aexpr_of rs p) n x.0 y.0 o
    ∙ ap (λ q. classify_negation (aexpr_of rs p) n (to_aexpr p q)) (sym e)

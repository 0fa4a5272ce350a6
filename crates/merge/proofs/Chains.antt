-- The conjuncts of a record, left to right through And and LogicalAnd.
use mathlib.Core.Path.{◌≡◌, refl, sym, ◌∙◌, ap, subst}
use mathlib.Core.Bool.{Bool, true, ◌&&◌, and-true, and_assoc}
use mathlib.Core.List.{List, [], ◌∷◌, ◌++◌}
use mathlib.Core.Option.{Option, none, some}
use Prim.Native.Nat.{ℕ, zero, suc, ◌≤◌, ◌<◌}
use native.Mathlib.Omega.{arith}
use Rattle.records.proofs.Courses.{course-law}
use Rattle.truth.proofs.Cells.{and_is_true, cell_law}
use Rattle.truth.specs.AExpr.{AExpr, And, BinaryExpr, BinaryOp, Column, Compare, EqValidity, Inputs, IsBetween, IsIn}
use Rattle.truth.specs.AExpr.{IsNotNull, IsNull, ListLiteral, Literal, LogicalAnd, LogicalOr, Missing, Not}
use Rattle.truth.specs.AExpr.{NotEqValidity, FloorDivide, Modulus, Null, Or, Xor}
use Rattle.truth.specs.Cell.{TruthKeys, cell_at, step, truth_at}
use Rattle.three_valued.specs.Logic.{and3, is_true}
use Rattle.constraints.specs.Scalars.{Scalars}
use Rattle.merge.specs.Minterms.{and_sides, minterms, minterms_by, pending, sides_of}

append_assoc : {A : Type 0} (l m n : List A) → ((l ++ m) ++ n) ≡ (l ++ (m ++ n))
append_assoc [] m n = refl
append_assoc (x ∷ l) m n = ap (λ t. x ∷ t) (append_assoc l m n)

minterms-binary : (n x y : ℕ) (U W : ℕ → List ℕ) → U x ≡ W x → U y ≡ W y → (b : BinaryOp) →
    minterms_by n U (sides_of b x y) ≡ minterms_by n W (sides_of b x y)
minterms-binary n x y U W p q (Compare o) = refl
minterms-binary n x y U W p q EqValidity = refl
minterms-binary n x y U W p q NotEqValidity = refl
minterms-binary n x y U W p q FloorDivide = refl
minterms-binary n x y U W p q Modulus = refl
minterms-binary n x y U W p q And = rw (p, q)
minterms-binary n x y U W p q Or = refl
minterms-binary n x y U W p q Xor = refl
minterms-binary n x y U W p q LogicalAnd = rw (p, q)
minterms-binary n x y U W p q LogicalOr = refl

minterms-same : {Val : Type 0} (n : ℕ) (U W : ℕ → List ℕ) → ((a : ℕ) → a < n → U a ≡ W a) → (r : AExpr Val) →
    Inputs n r → minterms_by n U (and_sides r) ≡ minterms_by n W (and_sides r)
minterms-same n U W h (Column c) i = refl
minterms-same n U W h (Literal v) i = refl
minterms-same n U W h Null i = refl
minterms-same n U W h (BinaryExpr b x y) i = minterms-binary n x y U W (h x i.0) (h y i.1) b
minterms-same n U W h (Not x) i = refl
minterms-same n U W h (IsNull x) i = refl
minterms-same n U W h (IsNotNull x) i = refl
minterms-same n U W h (IsBetween c d x y z) i = refl
minterms-same n U W h (ListLiteral m l) i = refl
minterms-same n U W h (IsIn e x y) i = refl
minterms-same n U W h Missing i = refl

pub minterms-law : {Val : Type 0} (R : ℕ → AExpr Val) (n : ℕ) → Inputs n (R n) → minterms R n ≡
    minterms_by n (λ a. minterms R a) (and_sides (R n))
minterms-law R n i = course-law (λ a. a ∷ []) (λ W i. minterms_by i W (and_sides (R i))) n
    (λ U W h. minterms-same n U W h (R n) i)

-- an And at the top: its left side becomes the top, its right side goes below
pub pending-and : {Val : Type 0} (R : ℕ → AExpr Val) (n x y : ℕ) (s : List ℕ) → Inputs n (R n) → and_sides (R n) ≡
    some (x, y) → pending R (n ∷ s) ≡ pending R (x ∷ (y ∷ s))
pending-and R n x y s i e = ap (λ l. l ++ pending R s) (minterms-law R n i ∙ ap (minterms_by n (λ a. minterms R a)) e)
    ∙ append_assoc (minterms R x) (minterms R y) (pending R s)

-- anything else at the top is the next conjunct
pub pending-one : {Val : Type 0} (R : ℕ → AExpr Val) (n : ℕ) (s : List ℕ) → Inputs n (R n) → and_sides (R n) ≡ none →
    pending R (n ∷ s) ≡ (n ∷ pending R s)
pending-one R n s i e = ap (λ l. l ++ pending R s) (minterms-law R n i ∙ ap (minterms_by n (λ a. minterms R a)) e)

-- ---- the chain is true exactly if every conjunct is
abbrev pub all_true : (ℕ → Bool) → List ℕ → Bool
all_true N [] = true
all_true N (n ∷ l) = N n && all_true N l

pub all_true_append : (N : ℕ → Bool) (l m : List ℕ) → all_true N (l ++ m) ≡ (all_true N l && all_true N m)
all_true_append N [] m = refl
all_true_append N (n ∷ l) m = rw (all_true_append N l m) (sym (and_assoc (N n) (all_true N l) (all_true N m)))

-- ---- what an And hands down to its sides, the conjuncts of a root that has it have
abbrev pub Every : (ℕ → Type 0) → List ℕ → Type 0
Every N [] = Unit {0}
Every N (n ∷ l) = N n × Every N l

pub every-app : (N : ℕ → Type 0) (l m : List ℕ) → Every N l → Every N m → Every N (l ++ m)
every-app N [] m h k = k
every-app N (n ∷ l) m h k = (h.0, every-app N l m h.1 k)

pub every_map : (N M : ℕ → Type 0) → ((n : ℕ) → N n → M n) → (l : List ℕ) → Every N l → Every M l
every_map N M f [] h = tt
every_map N M f (n ∷ l) h = (f n h.0, every_map N M f l h.1)

-- both sides of an And have it
abbrev pub Sides : (ℕ → Type 0) → Option (ℕ × ℕ) → Type 0
Sides N none = Unit {0}
Sides N (some s) = N s.0 × N s.1

pub sides_binary : (N : ℕ → Type 0) (b : BinaryOp) (x y : ℕ) → N x × N y → Sides N (sides_of b x y)
sides_binary N (Compare o) x y h = tt
sides_binary N EqValidity x y h = tt
sides_binary N NotEqValidity x y h = tt
sides_binary N FloorDivide x y h = tt
sides_binary N Modulus x y h = tt
sides_binary N And x y h = h
sides_binary N Or x y h = tt
sides_binary N Xor x y h = tt
sides_binary N LogicalAnd x y h = h
sides_binary N LogicalOr x y h = tt

pub sides_below : {Val : Type 0} (n : ℕ) (r : AExpr Val) → Inputs n r → Sides (λ a. a < n) (and_sides r)
sides_below n (Column c) i = tt
sides_below n (Literal v) i = tt
sides_below n Null i = tt
sides_below n (BinaryExpr b x y) i = sides_binary (λ a. a < n) b x y i
sides_below n (Not x) i = tt
sides_below n (IsNull x) i = tt
sides_below n (IsNotNull x) i = tt
sides_below n (IsBetween c d x y z) i = tt
sides_below n (ListLiteral k l) i = tt
sides_below n (IsIn k x y) i = tt
sides_below n Missing i = tt

module _ {Val : Type 0} (R : ℕ → AExpr Val) (wf : (n : ℕ) → Inputs n (R n)) where
  module _ (N : ℕ → Type 0) (down : (n : ℕ) → N n → Sides N (and_sides (R n))) where
    minterms-under_have : (m n : ℕ) → n < m → N n → Every N (minterms R n)
    minterms-under_have zero n h k = absurd (omega arith)
    minterms-under_have (suc m) n h k =
        subst (Every N) (sym (minterms-law R n (wf n)))
        (go (and_sides (R n)) (sides_below n (R n) (wf n)) (down n k)
        (λ a l q. minterms-under_have m a (omega arith) q))
      where
        go :
            (s : Option (ℕ × ℕ)) → Sides (λ a. a < n) s → Sides N s →
            ((a : ℕ) → a < n → N a → Every N (minterms R a)) → Every N (minterms_by n (λ a. minterms R a) s)
        go none b q ih = (k, tt)
        go (some s) b q ih =
            every-app N (minterms R s.0) (minterms R s.1) (ih s.0 b.0 q.0) (ih s.1 b.1 q.1)

    pub minterms-have : (root : ℕ) → N root → Every N (minterms R root)
    minterms-have root k = minterms-under_have (suc root) root (omega arith) k

-- ---- the conjuncts are nodes up to the root
abbrev pub Below : ℕ → List ℕ → Type 0
Below u l = Every (λ n. n < u) l

pub below_more : (u w : ℕ) (l : List ℕ) → u ≤ w → Below u l → Below w l
below_more u w l h b = every_map (λ n. n < u) (λ n. n < w) (λ n k. omega arith) l b

pub below_app : (u : ℕ) (l m : List ℕ) → Below u l → Below u m → Below u (l ++ m)
below_app u l m h k = every-app (λ n. n < u) l m h k

module _ {Val : Type 0} (R : ℕ → AExpr Val) (wf : (n : ℕ) → Inputs n (R n)) where
  pub minterms-low : (root : ℕ) → Below (suc root) (minterms R root)
  minterms-low root =
      minterms-have R wf (λ n. n < suc root) (λ n h. go n h (and_sides (R n)) (sides_below n (R n) (wf n))) root
      (omega arith)
    where
      go : (n : ℕ) → n < suc root → (s : Option (ℕ × ℕ)) → Sides (λ a. a < n) s → Sides (λ a. a < suc root) s
      go n h none b = tt
      go n h (some s) b = let x : s.0 < n = b.0 in let y : s.1 < n = b.1 in (omega arith, omega arith)

module _ {K Val : Type 0} (S : Scalars K Val) (tk : TruthKeys S.order) (R : ℕ → AExpr Val) (wf : (n : ℕ) → Inputs n (R n))
    (ρ : ℕ → Option K) where
  abbrev pub holds_at : ℕ → Bool
  holds_at n = is_true (truth_at S.key S.order tk R ρ n)

  minterms-step : (m : ℕ) (n : ℕ) → ((a : ℕ) → a < n → all_true holds_at (minterms R a) ≡ holds_at a) → (r : AExpr Val) →
      Inputs n r → holds_at n ≡ is_true (step S.key S.order tk ρ (λ i. cell_at S.key S.order tk R ρ i)
      r).truth → all_true holds_at (minterms_by n (λ a. minterms R a) (and_sides r)) ≡ holds_at n
  minterms-step m n h (Column c) i e = and-true (holds_at n)
  minterms-step m n h (Literal v) i e = and-true (holds_at n)
  minterms-step m n h Null i e = and-true (holds_at n)
  minterms-step m n h (BinaryExpr b x y) i e = go b e
    where
      two : holds_at n ≡ is_true (and3 (truth_at S.key S.order tk R ρ x) (truth_at S.key S.order tk R ρ y)) →
          all_true holds_at (minterms R x ++ minterms R y) ≡ holds_at n
      two q = all_true_append holds_at (minterms R x) (minterms R y) ∙ ap (λ t. t && all_true holds_at (minterms R y))
          (h x i.0) ∙ ap (λ t. holds_at x && t) (h y i.1) ∙
          sym (q ∙ and_is_true (truth_at S.key S.order tk R ρ x) (truth_at S.key S.order tk R ρ y))

      go : (b : BinaryOp) → holds_at n ≡
          is_true (step S.key S.order tk ρ (λ i. cell_at S.key S.order tk R ρ i) (BinaryExpr b x y)).truth
          → all_true holds_at (minterms_by n (λ a. minterms R a) (sides_of b x y)) ≡ holds_at n
      go (Compare o) e = and-true (holds_at n)
      go EqValidity e = and-true (holds_at n)
      go NotEqValidity e = and-true (holds_at n)
      go FloorDivide e = and-true (holds_at n)
      go Modulus e = and-true (holds_at n)
      go And e = two e
      go Or e = and-true (holds_at n)
      go Xor e = and-true (holds_at n)
      go LogicalAnd e = two e
      go LogicalOr e = and-true (holds_at n)
  minterms-step m n h (Not x) i e = and-true (holds_at n)
  minterms-step m n h (IsNull x) i e = and-true (holds_at n)
  minterms-step m n h (IsNotNull x) i e = and-true (holds_at n)
  minterms-step m n h (IsBetween c d x y z) i e = and-true (holds_at n)
  minterms-step m n h (ListLiteral k l) i e = and-true (holds_at n)
  minterms-step m n h (IsIn k x y) i e = and-true (holds_at n)
  minterms-step m n h Missing i e = and-true (holds_at n)

  minterms-under : (m n : ℕ) → n < m → all_true holds_at (minterms R n) ≡ holds_at n
  minterms-under zero n h = absurd (omega arith)
  minterms-under (suc m) n h = ap (all_true holds_at) (minterms-law R n (wf n)) ∙
      minterms-step m n (λ a k. minterms-under m a (omega arith)) (R n) (wf n)
      (ap (λ c. is_true c.truth) (cell_law S.key S.order tk R ρ n (wf n)))

  pub minterms-true : (n : ℕ) → all_true holds_at (minterms R n) ≡ holds_at n
  minterms-true n = minterms-under (suc n) n (omega arith)

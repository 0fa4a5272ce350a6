-- The columns that a record reaches; rows by type; chains of rows.
use mathlib.Core.Path.{◌≡◌, refl, sym, ◌∙◌, ap, subst}
use mathlib.Core.Bool.{Bool, true, false, ◌||◌, cond}
use mathlib.Core.Option.{Option, none, some}
use mathlib.Core.Logic.{◌↔◌, ◌⊎◌}
use Prim.Native.Nat.{ℕ, zero, suc, ◌<◌}
use native.Mathlib.Omega.{arith}
use Rattle.records.proofs.Courses.{course-law}
use Rattle.truth.proofs.Cells.{cell_law}
use Rattle.truth.specs.AExpr.{AExpr, BinaryExpr, Column, Inputs, IsBetween, IsIn, IsNotNull, IsNull, ListLiteral}
use Rattle.truth.specs.AExpr.{Literal, Missing, Not, Null, WF}
use Rattle.truth.specs.Cell.{Cell, TruthKeys, cell_at, step, truth_at, value_cell}
use Rattle.three_valued.specs.declared.logic.Truth.TheVariants.{True}
use Rattle.constraints.specs.Scalars.{Scalars}
use Rattle.merge.proofs.Complete.{is_nothing_passes}
use Rattle.merge.proofs.Passes.{eqb-self}
use Rattle.merge.proofs.Whole.{nothing-found, outcome}
use Rattle.merge.proofs.Witness.{HalfPoints}
use Rattle.merge.specs.Minterms.{minterms}
use Rattle.merge.specs.Plain.{reads_column, reads_step}
use Rattle.merge.proofs.PlainForms.{plain_conjuncts}

reads_same : {Val : Type 0} (n c : ℕ) (C D : ℕ → Bool) → ((a : ℕ) → a < n → C a ≡ D a) → (r : AExpr Val) →
    Inputs n r → reads_step c C r ≡ reads_step c D r
reads_same n c C D h (Column d) i = refl
reads_same n c C D h (Literal v) i = refl
reads_same n c C D h Null i = refl
reads_same n c C D h (BinaryExpr b x y) i = rw (h x i.0, h y i.1)
reads_same n c C D h (Not x) i = rw (h x i)
reads_same n c C D h (IsNull x) i = rw (h x i)
reads_same n c C D h (IsNotNull x) i = rw (h x i)
reads_same n c C D h (IsBetween p q x y z) i = rw (h x i.0, h y i.1, h z i.2)
reads_same n c C D h (ListLiteral m l) i = refl
reads_same n c C D h (IsIn e x y) i = rw (h x i.0, h y i.1)
reads_same n c C D h Missing i = refl

pub reads_column-law : {Val : Type 0} (R : ℕ → AExpr Val) (n c : ℕ) → Inputs n (R n) → reads_column R n c ≡
    reads_step c (λ i. reads_column R i c) (R n)
reads_column-law R n c i = course-law (λ a. false) (λ C i. reads_step c C (R i)) n
    (λ C D h. reads_same n c C D h (R n) i)

or_left : (a b : Bool) → a ≡ true → (a || b) ≡ true
or_left a b h = ap (λ x. x || b) h

or_right : (a b : Bool) → b ≡ true → (a || b) ≡ true
or_right true b h = refl
or_right false b h = h

module _ {K Val : Type 0} (S : Scalars K Val) (tk : TruthKeys S.order) (R : ℕ → AExpr Val) (wf : WF R) (ρ σ : ℕ → Option K)
  where
    abbrev Er : ℕ → Cell K Val
    Er n = cell_at S.key S.order tk R ρ n

    abbrev Es : ℕ → Cell K Val
    Es n = cell_at S.key S.order tk R σ n

    -- the rows agree on the columns that a test names
    abbrev Agree : (ℕ → Bool) → Type 0
    Agree p = (c : ℕ) → p c ≡ true → ρ c ≡ σ c

    step-reads : (n : ℕ) → ((a : ℕ) → a < n → Agree (reads_column R a) → Er a ≡ Es a) → (r : AExpr Val) → Inputs n r →
        Agree (λ c. reads_step c (λ i. reads_column R i c) r) → step S.key S.order tk ρ Er r ≡
        step S.key S.order tk σ Es r
    step-reads n ih (Column d) i h = ap (value_cell S.key S.order tk) (h d (eqb-self d))
    step-reads n ih (Literal v) i h = refl
    step-reads n ih Null i h = refl
    step-reads n ih (BinaryExpr b x y) i h =
        rw (
          ih x i.0 (λ c k. h c (or_left (reads_column R x c) (reads_column R y c) k)),
          ih y i.1 (λ c k. h c (or_right (reads_column R x c) (reads_column R y c) k)),
        )
    step-reads n ih (Not x) i h = rw (ih x i h)
    step-reads n ih (IsNull x) i h = rw (ih x i h)
    step-reads n ih (IsNotNull x) i h = rw (ih x i h)
    step-reads n ih (IsBetween p q x y z) i h =
        rw (
          ih x i.0 (λ c k. h c (or_left (reads_column R x c) (reads_column R y c || reads_column R z c) k)),
          ih y i.1 (λ c k. h c (or_right (reads_column R x c) (reads_column R y c || reads_column R z c)
              (or_left (reads_column R y c) (reads_column R z c) k))),
          ih z i.2 (λ c k. h c (or_right (reads_column R x c) (reads_column R y c || reads_column R z c)
              (or_right (reads_column R y c) (reads_column R z c) k))),
        )
    step-reads n ih (ListLiteral m l) i h = refl
    step-reads n ih (IsIn e x y) i h = rw (
      ih x i.0 (λ c k. h c (or_left (reads_column R x c) (reads_column R y c) k)),
      ih y i.1 (λ c k. h c (or_right (reads_column R x c) (reads_column R y c) k)),
    )
    step-reads n ih Missing i h = refl

    reads-under : (m n : ℕ) → n < m → Agree (reads_column R n) → Er n ≡ Es n
    reads-under zero n h a = absurd (omega arith)
    reads-under (suc m) n h a = cell_law S.key S.order tk R ρ n (wf n) ∙
        step-reads n (λ b k. reads-under m b (omega arith)) (R n) (wf n)
        (λ c k. a c (reads_column-law R n c (wf n) ∙ k))
        ∙ sym (cell_law S.key S.order tk R σ n (wf n))

    -- a record depends on the columns it reaches only
    pub reads_only : (n : ℕ) → Agree (reads_column R n) → Er n ≡ Es n
    reads_only n a = reads-under (suc n) n (omega arith) a

module _ {K Val : Type 0} (S : Scalars K Val) (H : HalfPoints S) (tk : TruthKeys S.order) (num : ℕ → Bool) where
  abbrev pub OneOfTwo : Option K → Type 0
  OneOfTwo none = Unit {0}
  OneOfTwo (some k) = (k ≡ tk.false_key) ⊎ (k ≡ tk.true_key)

  abbrev pub Row : (ℕ → Option K) → Type 0
  Row ρ = (c : ℕ) → num c ≡ false → OneOfTwo (ρ c)

  -- the columns of other types made null
  abbrev numbers : (ℕ → Option K) → ℕ → Option K
  numbers ρ c = cond (num c) (ρ c) none

  numbers-row : (ρ : ℕ → Option K) → Row (numbers ρ)
  numbers-row ρ c h = subst (λ b. OneOfTwo (cond b (ρ c) none)) (sym h) tt

  module _ (R : ℕ → AExpr Val) (wf : WF R) where
    -- the root reads no other columns
    abbrev pub Numeric : ℕ → Type 0
    Numeric root = (c : ℕ) → reads_column R root c ≡ true → num c ≡ true

    -- a plain screen is answered by nothing exactly if no row, of its types, passes
    pub nothing-found_typed : (root : ℕ) → plain_conjuncts R (minterms R root) ≡ true → Numeric root →
        (is_nothing_passes S H (outcome S H tk R wf root) ≡ true) ↔ ((ρ : ℕ → Option K) → Row ρ →
        truth_at S.key S.order tk R ρ root ≡ True → ⊥)
    nothing-found_typed root p n = let f = nothing-found S H tk R wf root p in (
      λ h ρ r t. f.0 h ρ t,
      λ h. f.1 (λ ρ t. h (numbers ρ) (numbers-row ρ)
          (ap (λ c. c.truth) (sym (reads_only S tk R wf ρ (numbers ρ) root
          (λ c k. ap (λ b. cond b (ρ c) none) (sym (n c k))))) ∙ t)),
    )

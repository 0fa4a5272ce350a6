-- Rewriting a screen keeps which rows pass; of a plain one it finds out whether any does.
use mathlib.Core.Path.{◌≡◌, refl, sym, ◌∙◌, ap}
use mathlib.Core.Bool.{Bool, true, true≢false, and-eq-true_iff}
use mathlib.Core.List.{List, [], ◌∷◌, map}
use mathlib.Core.Option.{Option}
use mathlib.Core.Logic.{◌↔◌}
use Prim.Native.Nat.{ℕ}
use Rattle.truth.specs.AExpr.{AExpr, Inputs}
use Rattle.truth.specs.Cell.{TruthKeys, truth_at}
use Rattle.three_valued.specs.Logic.{is_true}
use Rattle.three_valued.specs.declared.logic.Truth.{Truth}
use Rattle.three_valued.specs.declared.logic.Truth.TheVariants.{False, True, Unknown}
use Rattle.constraints.specs.Scalars.{Scalars}
use Rattle.merge.proofs.Chains.{all_true, holds_at, minterms-true}
use Rattle.merge.proofs.Complete.{ExactAll, is_nothing_passes, nothing-exactly}
use Rattle.merge.proofs.Readings.{classified_rightly}
use Rattle.merge.proofs.Sound.{FairAll, HoldsAll, NodesTrue, Sound, WrittenTrue, and_both, merge_is_sound}
use Rattle.merge.proofs.Witness.{HalfPoints}
use Rattle.merge.specs.Classify.{read_conjuncts, classify}
use Rattle.merge.specs.Emit.{NothingPasses, Outcome, Rebuilt, Unchanged, merge_filter_constraints}
use Rattle.merge.specs.Minterms.{minterms}
use Rattle.merge.proofs.PlainForms.{plain_conjunct, plain_conjuncts}

pub is_true_lem : (t : Truth) → (is_true t ≡ true) ↔ (t ≡ True)
is_true_lem False = (λ h. absurd (true≢false (sym h)), λ h. ap is_true h)
is_true_lem Unknown = (λ h. absurd (true≢false (sym h)), λ h. ap is_true h)
is_true_lem True = (λ h. refl, λ h. refl)

module _ {K Val : Type 0} (S : Scalars K Val) (H : HalfPoints S) (tk : TruthKeys S.order) (R : ℕ → AExpr Val)
    (wf : (n : ℕ) → Inputs n (R n)) where
  -- the truth of node n of the row ρ, as a test
  abbrev pub M : (ℕ → Option K) → ℕ → Bool
  M ρ n = holds_at S tk R wf ρ n

  -- the answer for the screen with the records R and the given root
  abbrev pub outcome : ℕ → Outcome Val
  outcome root = merge_filter_constraints S (read_conjuncts R root)

  module _ (ρ : ℕ → Option K) where
    conjuncts-hold : (l : List ℕ) → HoldsAll S ρ (M ρ) (map (classify R) l) ↔ (all_true (M ρ) l ≡ true)
    conjuncts-hold [] = (λ h. refl, λ h. tt)
    conjuncts-hold (n ∷ l) = (
      λ h. and_both (M ρ n) (all_true (M ρ) l)
          ((classified_rightly S H tk R wf ρ n).0.0 h.0) ((conjuncts-hold l).0 h.1),
      λ h. let b =
          (and-eq-true_iff (M ρ n) (all_true (M ρ) l)).0 h in
          ((classified_rightly S H tk R wf ρ n).0.1 b.0, (conjuncts-hold l).1 b.1),
    )

    conjuncts-fair : (l : List ℕ) → FairAll S ρ (M ρ) (map (classify R) l)
    conjuncts-fair [] = tt
    conjuncts-fair (n ∷ l) = ((classified_rightly S H tk R wf ρ n).1, conjuncts-fair l)

    conjuncts-exact : (l : List ℕ) → plain_conjuncts R l ≡ true → ExactAll S H ρ (M ρ) (map (classify R) l)
    conjuncts-exact [] h = tt
    conjuncts-exact (n ∷ l) h = let b = (and-eq-true_iff (plain_conjunct R n) (plain_conjuncts R l)).0 h in
        ((classified_rightly S H tk R wf ρ n).2 b.0, conjuncts-exact l b.1)

    -- the root is true exactly if all that is read of it holds
    pub root-holds : (root : ℕ) → HoldsAll S ρ (M ρ) (read_conjuncts R root) ↔ (truth_at S.key S.order tk R ρ root ≡
        True)
    root-holds root = (
      λ h. (is_true_lem (truth_at S.key S.order tk R ρ root)).0
          (sym (minterms-true S tk R wf ρ root) ∙ (conjuncts-hold (minterms R root)).0 h),
      λ h. (conjuncts-hold
          (minterms R root)).1 (minterms-true S tk R wf ρ root ∙ (is_true_lem (truth_at S.key S.order tk R ρ root)).1
          h),
    )

    -- what an answer promises of the row ρ
    abbrev pub Keeps : ℕ → Outcome Val → Type 0
    Keeps root Unchanged = Unit {0}
    Keeps root NothingPasses = truth_at S.key S.order tk R ρ root ≡ True → ⊥
    Keeps root (Rebuilt ns cs) = (truth_at S.key S.order tk R ρ root ≡ True) ↔
        (NodesTrue S ρ (M ρ) ns × WrittenTrue S ρ (M ρ) cs)

    keeps-of : (root : ℕ) (a : Outcome Val) → Sound S ρ (M ρ) (read_conjuncts R root) a → Keeps root a
    keeps-of root Unchanged s = tt
    keeps-of root NothingPasses s = λ h. s ((root-holds root).1 h)
    keeps-of root (Rebuilt ns cs) s = (λ h. s.0 ((root-holds root).1 h), λ h. (root-holds root).0 (s.1 h))

    -- for every screen
    pub outcome_keeps : (root : ℕ) → Keeps root (outcome root)
    outcome_keeps root = keeps-of root (outcome root)
        (merge_is_sound S ρ (M ρ) (read_conjuncts R root) (conjuncts-fair (minterms R root)))

  -- for plain screens
  pub nothing-found : (root : ℕ) → plain_conjuncts R (minterms R root) ≡ true →
      (is_nothing_passes S H (outcome root) ≡ true) ↔ ((ρ : ℕ → Option K) → truth_at S.key S.order tk R ρ root ≡
      True → ⊥)
  nothing-found root p = let e = nothing-exactly S H M (read_conjuncts R root)
      (λ ρ. (conjuncts-fair ρ (minterms R root), conjuncts-exact ρ (minterms R root) p)) in
      (λ h ρ t. e.0 h ρ ((root-holds ρ root).1 t), λ h. e.1 (λ ρ s. h ρ ((root-holds ρ root).0 s)))

-- The screen returned lets the same rows pass as the screen sent.
use mathlib.Core.Path.{◌≡◌, sym, ◌∙◌, ap, subst}
use mathlib.Core.Bool.{Bool, true, false, ◌||◌, true≢false, and-eq-true_iff, cond}
use mathlib.Core.List.{List, [], ◌∷◌, ◌++◌, map}
use mathlib.Core.Option.{Option, none, some}
use mathlib.Core.Logic.{◌↔◌}
use Prim.Native.Nat.{ℕ, suc, ◌<◌}
use native.Mathlib.Omega.{arith}
use lib.ListN.{length}
use Rattle.truth.specs.AExpr.{AExpr, Literal, WF}
use Rattle.truth.specs.Cell.{TruthKeys, truth_at, truth_of_value}
use Rattle.three_valued.specs.Logic.{is_true}
use Rattle.three_valued.specs.declared.logic.Truth.TheVariants.{False}
use Rattle.constraints.specs.Resolve.{fixed_at}
use Rattle.constraints.specs.Scalars.{Scalars}
use Rattle.constraints.specs.Values.{is_empty}
use Rattle.merge.proofs.Chains.{Every, all_true, every-app, below_more, minterms-low}
use Rattle.merge.proofs.Readings.{Names, classified_rightly}
use Rattle.merge.proofs.Rebuilding.{Built, holds, nodes_iff, put-new, put_record, rebuild, rebuild_true}
use Rattle.merge.proofs.Rebuilding.{written-iff, written_holds}
use Rattle.merge.proofs.Sound.{and_both, kept_by}
use Rattle.merge.proofs.Whole.{Keeps, is_true_lem, outcome, outcome_keeps}
use Rattle.merge.proofs.Witness.{HalfPoints}
use Rattle.merge.specs.Classify.{Bounds, Conjunct, Equality, NonNullPair, Normalized, Opaque, Recorded}
use Rattle.merge.specs.Classify.{classify}
use Rattle.merge.specs.Classify.{read_conjuncts}
use Rattle.merge.specs.Collect.{Collected, Table, begin, collect, collect_one}
use Rattle.merge.specs.Emit.{NothingPasses, Outcome, Rebuilt, Unchanged, any_unsat, comparisons, conclude}
use Rattle.merge.specs.Emit.{kept_equalities, merge_filter_constraints}
use Rattle.merge.specs.Emit.{propagated, resolved, rewrites}
use Rattle.merge.specs.Minterms.{minterms}
use Rattle.merge.specs.Rebuild.{comparison_nodes}

module _ {K Val : Type 0} (S : Scalars K Val) (N : ℕ → Type 0) where
  abbrev NodeHas : Conjunct Val → Type 0
  NodeHas (Bounds c l) = Unit {0}
  NodeHas (Normalized c l) = Unit {0}
  NodeHas (Equality a b m) = N m
  NodeHas (Recorded z m c l) = N m
  NodeHas (NonNullPair m a b) = N m
  NodeHas (Opaque m) = N m

  abbrev NodesHave : List (Conjunct Val) → Type 0
  NodesHave [] = Unit {0}
  NodesHave (c ∷ l) = NodeHas c × NodesHave l

  abbrev EdgesHave : List (ℕ × ℕ × ℕ) → Type 0
  EdgesHave [] = Unit {0}
  EdgesHave (e ∷ l) = N e.2 × EdgesHave l

  edges-app : (l m : List (ℕ × ℕ × ℕ)) → EdgesHave l → EdgesHave m → EdgesHave (l ++ m)
  edges-app [] m h k = k
  edges-app (e ∷ l) m h k = (h.0, edges-app l m h.1 k)

  abbrev StHas : Collected Val → Type 0
  StHas s = Every N s.opaque × EdgesHave s.edges

  read_has : (c : Conjunct Val) (s : Collected Val) → NodeHas c → StHas s → StHas (collect_one S c s)
  read_has (Bounds c l) s h k = k
  read_has (Normalized c l) s h k = k
  read_has (Equality a b m) s h k = (k.0, edges-app s.edges ((a, b, m) ∷ []) k.1 (h, tt))
  read_has (Recorded z m c l) s h k = (every-app N s.opaque (m ∷ []) k.0 (h, tt), k.1)
  read_has (NonNullPair m a b) s h k = (every-app N s.opaque (m ∷ []) k.0 (h, tt), k.1)
  read_has (Opaque m) s h k = (every-app N s.opaque (m ∷ []) k.0 (h, tt), k.1)

  read_all_has : (l : List (Conjunct Val)) (s : Collected Val) → NodesHave l → StHas s → StHas (collect S l s)
  read_all_has [] s h k = k
  read_all_has (c ∷ l) s h k = read_all_has l (cond s.unsat s (collect_one S c s)) h.1 (go s.unsat)
    where
      go : (b : Bool) → StHas (cond b s (collect_one S c s))
      go true = k
      go false = read_has c s h.0 k

  kept-has : (t : Table Val) (es : List (ℕ × ℕ × ℕ)) → EdgesHave es → Every N (kept_equalities S t es)
  kept-has t [] h = tt
  kept-has t (e ∷ es) h = go (fixed_at S (t e.0).lower (t e.0).upper) (kept-has t es h.1)
    where
      go : (p : Option Val) → Every N (kept_equalities S t es) → Every N (kept_by p e.2 (kept_equalities S t es))
      go none b = (h.0, b)
      go (some v) b = b

  abbrev pub KeptHave : Outcome Val → Type 0
  KeptHave Unchanged = Unit {0}
  KeptHave NothingPasses = Unit {0}
  KeptHave (Rebuilt ns cs) = Every N ns

  finish_has : (s : Collected Val) → StHas s → KeptHave (conclude S s)
  finish_has s k = go (s.unsat || any_unsat s.order (resolved S s)) (rewrites S s)
    where
      go : (b d : Bool) → KeptHave (cond b NothingPasses (cond d
          (Rebuilt (s.opaque ++ kept_equalities S (propagated S s) s.edges)
          (comparisons S s.order (resolved S s))) Unchanged))
      go true d = tt
      go false true = every-app N s.opaque (kept_equalities S (propagated S s) s.edges) k.0
          (kept-has (propagated S s) s.edges k.1)
      go false false = tt

  pub merge_has : (l : List (Conjunct Val)) → NodesHave l → KeptHave (merge_filter_constraints S l)
  merge_has l h = finish_has (collect S l (begin)) (read_all_has l (begin) h (tt, tt))

  names_has : (n : ℕ) (c : Conjunct Val) → N n → Names n c → NodeHas c
  names_has n (Bounds c l) h e = tt
  names_has n (Normalized c l) h e = tt
  names_has n (Equality a b m) h e = subst N (sym e) h
  names_has n (Recorded z m c l) h e = subst N (sym e) h
  names_has n (NonNullPair m a b) h e = subst N (sym e) h
  names_has n (Opaque m) h e = subst N (sym e) h

  lines-have : (H : HalfPoints S) (tk : TruthKeys S.order) (R : ℕ → AExpr Val) (wf : WF R) (l : List ℕ) → Every N l →
      NodesHave (map (classify R) l)
  lines-have H tk R wf [] b = tt
  lines-have H tk R wf (n ∷ l) b = (
    names_has n (classify R n) b.0 (classified_rightly S H tk R wf (λ c. none) n).3,
    lines-have H tk R wf l b.1,
  )

  -- the kept nodes have what all conjuncts have
  pub kept-have : (H : HalfPoints S) (tk : TruthKeys S.order) (R : ℕ → AExpr Val) (wf : WF R) (root : ℕ) →
      Every N (minterms R root) → KeptHave (outcome S H tk R wf root)
  kept-have H tk R wf root h = merge_has (read_conjuncts R root) (lines-have H tk R wf (minterms R root) h)

-- the kept nodes are below u
abbrev pub AnswerLt : {K Val : Type 0} → Scalars K Val → ℕ → Outcome Val → Type 0
AnswerLt S u o = KeptHave S (λ n. n < u) o

module _ {K Val : Type 0} (S : Scalars K Val) (u : ℕ) where
  pub answer_lt : (H : HalfPoints S) (tk : TruthKeys S.order) (R : ℕ → AExpr Val) (wf : WF R) (root : ℕ) → root < u →
      AnswerLt S u (outcome S H tk R wf root)
  answer_lt H tk R wf root h = kept-have S (λ n. n < u) H tk R wf root
      (below_more (suc root) u (minterms R root) (omega arith) (minterms-low R wf root))

module _ {K Val : Type 0} (S : Scalars K Val) (H : HalfPoints S) (tk : TruthKeys S.order) (nay : Val)
    (nay-no : truth_of_value S.key S.order tk (some (S.key nay)) ≡ False) (R : ℕ → AExpr Val) (wf : WF R)
    (used : ℕ) where
  abbrev pub returned : ℕ → Outcome Val → Built Val
  returned root Unchanged = record { records = R; root = root; used = used }
  returned root NothingPasses = record {
    records = λ i. put_record R used (Literal nay) i;
    root = used;
    used =
        suc used;
  }
  returned root (Rebuilt ns cs) = rebuild R used ns cs

  -- refusal 10
  abbrev pub NotEmpty : Outcome Val → Type 0
  NotEmpty Unchanged = Unit {0}
  NotEmpty NothingPasses = Unit {0}
  NotEmpty (Rebuilt ns cs) = is_empty (ns ++ comparison_nodes used cs) ≡ false

  module _ (ρ : ℕ → Option K) where
    abbrev pub passes : Built Val → Bool
    passes b = is_true (truth_at S.key S.order tk b.records ρ b.root)

    same_of : (root : ℕ) (a : Outcome Val) → Keeps S H tk R wf ρ root a → AnswerLt S used a → NotEmpty a →
        (passes (returned root Unchanged) ≡ true) ↔ (passes (returned root a) ≡ true)
    same_of root Unchanged k b f = (λ h. h, λ h. h)
    same_of root NothingPasses k b f = (
      λ h. absurd (k ((is_true_lem (truth_at S.key S.order tk R ρ root)).0 h)),
      λ h. absurd (true≢false (sym h ∙ ap (λ c. is_true c.truth) (put-new S tk ρ R used (Literal nay) wf tt) ∙
          ap is_true nay-no)),
    )
    same_of root (Rebuilt ns cs) k b f =
        let e = rebuild_true S tk ρ R wf used ns cs b f in
        let i = is_true_lem (truth_at S.key S.order tk R ρ root) in (
          λ h. let p = k.0 (i.0 h) in e ∙ and_both (all_true (holds S tk ρ R) ns) (written_holds S tk ρ cs)
              ((nodes_iff S tk ρ R ns).1 p.0) ((written-iff S tk ρ R cs).1 p.1),
          λ h. let p = (and-eq-true_iff (all_true (holds S tk ρ R) ns) (written_holds S tk ρ cs)).0 (sym e ∙ h) in
              i.1 (k.1 ((nodes_iff S tk ρ R ns).0 p.0, (written-iff S tk ρ R cs).0 p.1)),
        )

    -- the row passes the screen sent exactly if it passes the screen returned
    pub same-passes : (root : ℕ) → root < used → NotEmpty (outcome S H tk R wf root) →
        (passes (returned root Unchanged) ≡ true) ↔ (passes (returned root (outcome S H tk R wf root)) ≡ true)
    same-passes root h f = same_of root (outcome S H tk R wf root) (outcome_keeps S H tk R wf ρ root)
        (answer_lt S used H tk R wf root h) f

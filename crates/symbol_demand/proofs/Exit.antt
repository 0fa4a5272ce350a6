-- The bytes at exit hold the records of the screen returned, read as what a screen with symbols holds; so rows keep their
-- fate, checking accepts them, and what is merged of them changes nothing.
use mathlib.Core.Path.{◌≡◌, refl, sym, ◌∙◌, ap, subst, fun_ext}
use mathlib.Core.Bool.{Bool, true, false, cond, true≢false}
use mathlib.Core.List.{List, [], ◌∷◌}
use mathlib.Core.Logic.{◌↔◌}
use mathlib.Core.Option.{none}
use Prim.Native.Nat.{ℕ, suc, ◌*◌, ◌≤◌}
use native.Mathlib.Omega.{arith}
use lib.Dec.{ltb}
use lib.IntN.{ℤ}
use lib.ListN.{length}
use Rattle.records.specs.Record.{record_at, node}
use Rattle.checking.specs.Checked.{CheckedIn}
use Rattle.three_valued.specs.Logic.{is_true}
use Rattle.truth.specs.Halves.{ord_z}
use Rattle.truth.specs.AExpr.{AExpr, Literal, WF}
use Rattle.truth.specs.FromBytes.{aexpr_at, truth_keys}
use Rattle.truth.proofs.Agree.{cells_agree}
use Rattle.constraints.specs.Comparisons.{ColumnComparison}
use Rattle.constraints.specs.Payload as bits
use Rattle.constraints.specs.Values.{is_empty}
use Rattle.merge.specs.declared.answer.RewriteAnswer.{RewriteAnswer}
use Rattle.merge.specs.Classify.{read_conjuncts}
use Rattle.merge.specs.Demand.{Row, root_after, used_after, is_refused, is_nothing, AreBytes}
use Rattle.merge.specs.Emit.{Outcome, Unchanged, NothingPasses, Rebuilt, merge_filter_constraints}
use Rattle.merge.specs.Lines.{map_comparisons, map_outcome}
use Rattle.merge.specs.Minterms.{minterms}
use Rattle.merge.specs.Rewrite.{outcome_answer, written_if}
use Rattle.merge.specs.Usable.{UsableIn}
use Rattle.merge.specs.Write.{outcome_bytes}
use Rattle.merge.proofs.Chains.{Every}
use Rattle.merge.proofs.Compared.{rebuilt-compares}
use Rattle.merge.proofs.Complete.{is_nothing_passes}
use Rattle.merge.proofs.Demand as number
use Rattle.merge.proofs.Demand.{Roomy, outcome_root, outcome_used, Exit, exit_of, conjuncts-fit, fit_of}
use Rattle.merge.proofs.Fitting.{Both, both-opens}
use Rattle.merge.proofs.Literals.{ConjunctsP, OutcomeP, merge_p}
use Rattle.merge.proofs.Rebuilding.{Built, nodes_below}
use Rattle.merge.proofs.RebuiltBytes.{Long, Fit, literal_record, literal-words, AllReadAs, chain-root, chain-used, chain-holds}
use Rattle.merge.proofs.Returned.{returned, AnswerLt, KeptHave, answer_lt, kept-have}
use Rattle.merge.proofs.TwiceBytes.{returned-again}
use Rattle.merge.proofs.Types.{InColumn, IsTruth, conjuncts-typed, conjuncts-truths}
use Rattle.merge.proofs.Types as types
use Rattle.merge.proofs.Usable.{Writable, outcome_usable}
use Rattle.merge.proofs.Whole.{Keeps, is_true_lem, outcome_keeps}
use Rattle.merge.proofs.Written.{Word, HoldsBy, holds-put}
use Rattle.symbol_screens.specs.Held.{Held, Number, key_in, bits_of, holding}
use Rattle.symbol_screens.specs.Reading.{held_aexpr, held_at}
use Rattle.symbol_screens.specs.Rewriting.{lent, outcome_with}
use Rattle.symbol_screens.specs.Rows.{truth_with, passes_with}
use Rattle.symbol_screens.proofs.ColumnKinds.{conjuncts-have}
use Rattle.symbol_screens.proofs.Kept.{values, halves, held-falls, merged, never_empty, rows-kept}
use Rattle.symbol_demand.proofs.Bits.{bits-read, bits-walk}
use Rattle.symbol_demand.proofs.Values.{OfKind, conjuncts-back, written_on, conjuncts-kind, held_reads, all_read_as}

bool_same : (a b : Bool) → (a ≡ true) ↔ (b ≡ true) → b ≡ a
bool_same true b h = h.0 refl
bool_same false true h = sym (h.1 refl)
bool_same false false h = refl

mapped_empty : (cs : List (ℕ × ColumnComparison Held)) → is_empty cs ≡ false → is_empty (map_comparisons bits_of cs) ≡ false
mapped_empty [] h = h
mapped_empty (x ∷ cs) h = refl

-- A rebuilt chain has a comparison.
abbrev FullIf : Outcome ℕ → Type 0
FullIf Unchanged = Unit {0}
FullIf NothingPasses = Unit {0}
FullIf (Rebuilt ns cs) = is_empty cs ≡ false

pub full-with : (text rs p : List ℕ) (used root : ℕ) (ns : List ℕ) (cs : List (ℕ × ColumnComparison ℕ)) →
    outcome_with text rs p used root ≡ Rebuilt ns cs → is_empty cs ≡ false
full-with text rs p used root ns cs e =
    subst FullIf e (go (merge_filter_constraints (holding text) (read_conjuncts (held_at rs p used) root)) refl)
  where
    go : (x : Outcome Held) → merge_filter_constraints (holding text) (read_conjuncts (held_at rs p used) root) ≡ x →
        FullIf (map_outcome bits_of x)
    go Unchanged q = tt
    go NothingPasses q = tt
    go (Rebuilt ms ds) q =
        mapped_empty ds (rebuilt-compares (holding text) (held_at rs p used) (minterms (held_at rs p used) root) ms ds q)

module _ (text t rs p : List ℕ) (used root : ℕ) (bytes : AreBytes rs) (ok : CheckedIn (lent text) t rs p used root) where
  abbrev R : ℕ → AExpr Held
  R n = held_at rs p used n

  abbrev falls : WF R
  falls n = held-falls (lent text) t rs p used root ok n

  -- the merging, and what it writes
  abbrev pub o : Outcome Held
  o = merged (lent text) t rs p used root ok text

  abbrev pub w : Outcome ℕ
  w = map_outcome bits_of o

  abbrev back : Outcome Held → Built Held
  back x = returned (values text) (halves text) truth_keys (Number 0) refl R falls used root x

  -- ---- Columns and values of what is written.
  abbrev Fits : ℕ → ℕ → Type 0
  Fits c v = Both number.payload Long number.opens Word c v

  abbrev In : ℕ → ℕ → Type 0
  In c v = InColumn (lent text) t c v

  outcome_fits : OutcomeP (values text) (λ c v. Fits c (bits_of v)) (λ c v e h k. (h.0, k.1)) o
  outcome_fits =
      merge_p (values text) (λ c v. Fits c (bits_of v)) (λ c v e h k. (h.0, k.1)) (read_conjuncts (held_at rs p used) root)
      (conjuncts-back (values text) number.payload bits_of Fits (λ c v e h k. (h.0, k.1))
      (both-opens number.payload Long number.opens Word) (read_conjuncts (held_at rs p used) root)
      (subst (ConjunctsP number.payload Fits (both-opens number.payload Long number.opens Word)) (bits-read rs p used root)
      (conjuncts-fit rs p used root bytes)))

  outcome_typed : OutcomeP (values text) (λ c v. In c (bits_of v)) (λ c v e h k. k) o
  outcome_typed =
      merge_p (values text) (λ c v. In c (bits_of v)) (λ c v e h k. k) (read_conjuncts (held_at rs p used) root)
      (conjuncts-back (values text) bits.payload bits_of In (λ c v e h k. k) (types.opens (lent text) t)
      (read_conjuncts (held_at rs p used) root)
      (subst (ConjunctsP bits.payload In (types.opens (lent text) t)) (bits-read rs p used root)
      (conjuncts-typed (lent text) t rs p used root ok)))

  outcome_kinds : OutcomeP (values text) (OfKind t) (λ c v e h k. k) o
  outcome_kinds =
      merge_p (values text) (OfKind t) (λ c v e h k. k) (read_conjuncts (held_at rs p used) root)
      (conjuncts-kind (values text) t (λ c v e h k. k) (read_conjuncts (held_at rs p used) root)
      (conjuncts-have (lent text) t rs p used root ok))

  -- ---- The bytes at exit.
  abbrev ReadBack : Outcome Held → Type 0
  ReadBack Unchanged = Unit {0}
  ReadBack NothingPasses = Unit {0}
  ReadBack (Rebuilt ns cs) = AllReadAs (held_aexpr p) (held_reads p) t (map_comparisons bits_of cs) cs

  abbrev Fitting : Outcome Held → Type 0
  Fitting Unchanged = Unit {0}
  Fitting NothingPasses = Unit {0}
  Fitting (Rebuilt ns cs) = Fit (map_comparisons bits_of cs)

  read_back : (x : Outcome Held) → OutcomeP (values text) (OfKind t) (λ c v e h k. k) x → ReadBack x
  read_back Unchanged h = tt
  read_back NothingPasses h = tt
  read_back (Rebuilt ns cs) h = all_read_as (values text) t p (λ c v e h k. k) cs h

  fitting : (x : Outcome Held) → OutcomeP (values text) (λ c v. Fits c (bits_of v)) (λ c v e h k. (h.0, k.1)) x → Fitting x
  fitting Unchanged h = tt
  fitting NothingPasses h = tt
  fitting (Rebuilt ns cs) h =
      fit_of (map_comparisons bits_of cs) (written_on (values text) number.payload bits_of Fits (λ c v e h k. (h.0, k.1))
      (both-opens number.payload Long number.opens Word) cs h)

  root-back : (x : Outcome Held) → ReadBack x → outcome_root t rs used root (map_outcome bits_of x) ≡ (back x).root
  root-back Unchanged h = refl
  root-back NothingPasses h = refl
  root-back (Rebuilt ns cs) h =
      chain-root (held_aexpr p) (held_reads p) t rs used ns (map_comparisons bits_of cs) cs h R

  used-back : (x : Outcome Held) → ReadBack x → outcome_used t rs used root (map_outcome bits_of x) ≡ (back x).used
  used-back Unchanged h = refl
  used-back NothingPasses h = refl
  used-back (Rebuilt ns cs) h =
      chain-used (held_aexpr p) (held_reads p) t rs used ns (map_comparisons bits_of cs) cs h R

  out_holds : (x : Outcome Held) → AnswerLt (values text) used x → Roomy t rs used root (map_outcome bits_of x) →
      Fitting x → ReadBack x →
      HoldsBy (held_aexpr p) (outcome_bytes t rs used (map_outcome bits_of x)) (back x).used (back x).records
  unfolding held_at
  out_holds Unchanged b room f h n = refl
  out_holds NothingPasses b room f h n =
      let k : 16 * suc used ≤ length rs = room.1 in
      holds-put (held_aexpr p) rs used (literal_record 3 0) R (Literal (Number 0)) (omega arith)
      (literal-words 3 0 (omega arith)) refl (λ n. refl) n
  out_holds (Rebuilt ns cs) b room f h n =
      chain-holds (held_aexpr p) (held_reads p) t rs used ns (map_comparisons bits_of cs) cs h R room.1 room.0 f
      (nodes_below number.payload truth_keys (λ c. none) used ns (map_comparisons bits_of cs) b) (λ n. refl) n

  below : AnswerLt (values text) used o
  below = answer_lt (values text) used (halves text) truth_keys R falls root ok.root-used

  -- ---- What is written may be written.
  same-nothing : (x : Outcome Held) →
      is_nothing_passes number.payload number.halves (map_outcome bits_of x) ≡ is_nothing_passes (values text) (halves text) x
  same-nothing Unchanged = refl
  same-nothing NothingPasses = refl
  same-nothing (Rebuilt ns cs) = refl

  truths : KeptHave (values text) (IsTruth (lent text) t rs p used root ok) o
  truths =
      kept-have (values text) (IsTruth (lent text) t rs p used root ok) (halves text) truth_keys R falls root
      (subst (Every (IsTruth (lent text) t rs p used root ok)) (bits-walk rs p used root)
      (conjuncts-truths (lent text) t rs p used root ok))

  writable : (x : Outcome Held) → o ≡ x → Fitting x →
      OutcomeP (values text) (λ c v. In c (bits_of v)) (λ c v e h k. k) x →
      KeptHave (values text) (IsTruth (lent text) t rs p used root ok) x →
      Writable (lent text) t rs p used root ok (map_outcome bits_of x)
  writable Unchanged q f i k = tt
  writable NothingPasses q f i k = tt
  writable (Rebuilt ns cs) q f i k = (
    f,
    written_on (values text) bits.payload bits_of In (λ c v e h k. k) (types.opens (lent text) t) cs i,
    k,
    mapped_empty cs (rebuilt-compares (values text) (held_at rs p used) (minterms (held_at rs p used) root) ns cs q),
  )

  -- ---- The screen returned.
  pub record Good (out : List ℕ) (new_used new_root : ℕ) : Type 0 where
    pub rows : (row : Row) → passes_with text out p new_used new_root row ≡ passes_with text rs p used root row
    pub usable : UsableIn (lent text) t out p new_used new_root
    pub again : merge_filter_constraints (values text) (read_conjuncts (held_at out p new_used) new_root) ≡ Unchanged

  abbrev pub a : RewriteAnswer
  a = outcome_answer t rs used w

  module _ (sent : UsableIn (lent text) t rs p used root) (kept : is_refused a ≡ false) where
    is : Exit t rs used root w a
    is = exit_of t rs used root w kept

    read : ReadBack o
    read = read_back o outcome_kinds

    holds : (n : ℕ) → held_at (outcome_bytes t rs used w) p (back o).used n ≡ (back o).records n
    unfolding held_at
    holds n = out_holds o below is.roomy (fitting o outcome_fits) read n

    -- what is shown of the bytes written and of the records' root and used count holds of the answer's
    moved : (P : List ℕ → ℕ → ℕ → Type 0) → P (outcome_bytes t rs used w) (back o).used (back o).root →
        P (written_if a rs (outcome_bytes t rs used w)) (used_after a used) (root_after a root)
    moved P h =
        subst (λ b. P b (used_after a used) (root_after a root)) (sym is.written)
        (subst (λ u. P (outcome_bytes t rs used w) u (root_after a root)) (sym (is.new_used ∙ used-back o read))
        (subst (P (outcome_bytes t rs used w) (back o).used) (sym (is.new_root ∙ root-back o read)) h))

    exit_rows : (row : Row) →
        passes_with text (outcome_bytes t rs used w) p (back o).used (back o).root row ≡ passes_with text rs p used root row
    exit_rows row =
        ap (λ c. is_true c.truth)
        (cells_agree (key_in text) ord_z truth_keys (held_at (outcome_bytes t rs used w) p (back o).used) (back o).records row
        (suc (back o).root) (λ n h. holds n) (back o).root (omega arith))
        ∙ bool_same (passes_with text rs p used root row) (is_true (truth_with text (back o).records row (back o).root))
        (rows-kept (lent text) t rs p used root ok text row)

    exit_again : merge_filter_constraints (values text)
        (read_conjuncts (held_at (outcome_bytes t rs used w) p (back o).used) (back o).root) ≡ Unchanged
    exit_again =
        ap (λ (Q : ℕ → AExpr Held). merge_filter_constraints (values text) (read_conjuncts Q (back o).root)) (fun_ext holds)
        ∙ returned-again (values text) (halves text) truth_keys (Number 0) R falls used refl root o refl below
        (never_empty (lent text) t rs p used root ok text o refl)

    pub exit_good : Good (written_if a rs (outcome_bytes t rs used w)) (used_after a used) (root_after a root)
    exit_good =
        record {
          rows = λ row. moved (λ b u r. passes_with text b p u r row ≡ passes_with text rs p used root row) (exit_rows row);
          usable =
              outcome_usable (lent text) t rs p used root ok sent w
              (writable o refl (fitting o outcome_fits) outcome_typed truths) kept;
          again =
              moved (λ b u r. merge_filter_constraints (values text) (read_conjuncts (held_at b p u) r) ≡ Unchanged) exit_again;
        }

    pub exit_nothing : is_nothing a ≡ is_nothing_passes (values text) (halves text) o
    exit_nothing = is.nothing ∙ same-nothing o

    -- Where nothing passes, the screen sent lets no row pass.
    pub none-sent : is_nothing a ≡ true → (row : Row) → passes_with text rs p used root row ≡ false
    none-sent h row = go o (sym exit_nothing ∙ h) (outcome_keeps (values text) (halves text) truth_keys R falls row root)
      where
        no : (b : Bool) → (b ≡ true → ⊥) → b ≡ false
        no true f = absurd (f refl)
        no false f = refl

        go : (x : Outcome Held) → is_nothing_passes (values text) (halves text) x ≡ true →
            Keeps (values text) (halves text) truth_keys R falls row root x → passes_with text rs p used root row ≡ false
        go NothingPasses e k =
            no (passes_with text rs p used root row) (λ e. k ((is_true_lem (truth_with text (held_at rs p used) row root)).0 e))
        go Unchanged e k = absurd (true≢false (sym e))
        go (Rebuilt ns cs) e k = absurd (true≢false (sym e))

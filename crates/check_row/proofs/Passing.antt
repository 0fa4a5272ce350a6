-- The lines of a plain screen are true of a row, as the code tests them, exactly if the row passes.
use mathlib.Core.Path.{◌≡◌, refl, sym, ◌∙◌, ap, subst}
use mathlib.Core.Bool.{Bool, true, false, ◌&&◌, and-true, true≢false, and-eq-true_iff}
use mathlib.Core.List.{List, [], ◌∷◌}
use Prim.Native.Nat.{ℕ, zero, suc}
use lib.ListN.{get_or}
use Rattle.records.specs.Bytes.{all}
use Rattle.checking.specs.Checked.{Checked}
use Rattle.truth.specs.AExpr.{AExpr, WF}
use Rattle.truth.specs.FromBytes.{aexpr_of, aexpr_at, truth_keys}
use Rattle.merge.specs.Minterms.{minterms}
use Rattle.merge.specs.Classify.{Conjunct, Bounds, Normalized, Equality, Recorded, NonNullPair, Opaque, classify}
use Rattle.merge.specs.Plain.{reads_only_numbers, plain_screen, plain_conjuncts}
use Rattle.merge.specs.Demand.{Row, passes}
use Rattle.merge.proofs.Accepted.{inputs-fall}
use Rattle.merge.proofs.Chains.{Below, all_true, all_true_append, holds_at, minterms-true}
use Rattle.merge.proofs.Demand.{payload, halves}
use Rattle.merge.proofs.PlainForms as forms
use Rattle.merge.proofs.PlainForms.{plain-same}
use Rattle.merge.proofs.Readings.{ReadsAs, classified_rightly, eq-mean}
use Rattle.read_operands.specs.Walk.{walked, first_of}
use Rattle.reading.proofs.Screens.{minterms-walked, minterms-below, classify-used}
use Rattle.check_row.specs.Line.{line_true, lines_true, same_keys}

-- Two tests that hold together.
both_ways : (a b : Bool) → (a ≡ true → b ≡ true) → (b ≡ true → a ≡ true) → a ≡ b
both_ways true true f g = refl
both_ways true false f g = absurd (true≢false (sym (f refl)))
both_ways false true f g = g refl
both_ways false false f g = refl

-- The first n of an array, place by place.
all_first : (f : ℕ → Bool) (nodes : List ℕ) (n : ℕ) → all (λ i. f (get_or nodes i 0)) n ≡ all_true f (first_of nodes n)
unfolding all first_of
all_first f nodes zero = refl
all_first f nodes (suc n) =
    ap (λ b. b && f (get_or nodes n 0)) (all_first f nodes n)
    ∙ sym (all_true_append f (first_of nodes n) (get_or nodes n 0 ∷ [])
    ∙ ap (λ b. all_true f (first_of nodes n) && b) (and-true (f (get_or nodes n 0))))

module _ (t rs p : List ℕ) (used root : ℕ) (ok : Checked t rs p used root) (row : Row) where
  abbrev R : ℕ → AExpr ℕ
  R n = aexpr_at rs p used n

  good : WF R
  good n = inputs-fall t rs p used root ok n

  -- Node n is true of the row.
  abbrev M : ℕ → Bool
  M n = holds_at payload truth_keys R good row n

  read_true : (n : ℕ) (c : Conjunct ℕ) → ReadsAs payload halves truth_keys R good row n true c → line_true row c ≡ M n
  read_true n (Bounds c l) r = both_ways _ (M n) r.0.0 r.0.1
  read_true n (Normalized c l) r = both_ways _ (M n) r.0.0 r.0.1
  read_true n (Equality a b m) r =
      let q = eq-mean payload truth_keys (row a) (row b) in
      both_ways (same_keys (row a) (row b)) (M m) (λ h. r.1.1 (q.0 h)) (λ h. q.1 (r.1.0 h)) ∙ ap M r.3
  read_true n (Recorded z m c l) r = both_ways _ (M m) (r.2 refl) r.1 ∙ ap M r.3
  read_true n (NonNullPair m a b) r = absurd (r.2 refl)
  read_true n (Opaque m) r = absurd (r.2 refl)

  lines-true : (l : List ℕ) → Below used l → forms.plain_conjuncts R l ≡ true
      → all_true (λ n. line_true row (classify (aexpr_of rs p) n)) l ≡ all_true M l
  lines-true [] below plain = refl
  lines-true (n ∷ l) below plain =
      let q = (and-eq-true_iff (forms.plain_conjunct R n) (forms.plain_conjuncts R l)).0 plain in
      let e : line_true row (classify (aexpr_of rs p) n) ≡ M n =
      ap (line_true row) (sym (classify-used t rs p used root ok n below.0))
      ∙ read_true n (classify R n)
      (subst (λ b. ReadsAs payload halves truth_keys R good row n b (classify R n)) q.0
      (classified_rightly payload halves truth_keys R good row n)) in
      ap (λ b. b && all_true (λ n. line_true row (classify (aexpr_of rs p) n)) l) e
      ∙ ap (λ b. M n && b) (lines-true l below.1 q.1)

  pub lines-pass : plain_screen t R root ≡ true → (nodes : List ℕ) (n : ℕ) → first_of nodes n ≡ minterms (walked rs) root
      → lines_true (aexpr_of rs p) row nodes n ≡ passes rs p used root row
  lines-pass plain nodes n are =
      all_first (λ n. line_true row (classify (aexpr_of rs p) n)) nodes n
      ∙ ap (all_true (λ n. line_true row (classify (aexpr_of rs p) n))) are
      ∙ lines-true (minterms (walked rs) root) (minterms-below t rs p used root ok)
      (subst (λ l. forms.plain_conjuncts R l ≡ true) (minterms-walked t rs p used root ok)
      (sym (plain-same R (minterms R root))
      ∙ ((and-eq-true_iff (reads_only_numbers t R root) (plain_conjuncts R (minterms R root))).0 plain).1))
      ∙ ap (all_true M) (sym (minterms-walked t rs p used root ok))
      ∙ minterms-true payload truth_keys R good row root

-- What the merging says of plain lines, in words of rows: it says that nothing passes exactly if no row makes them all true.
use mathlib.Core.Path.{◌≡◌, refl, sym, ◌∙◌, ap}
use mathlib.Core.Bool.{Bool, true, false, not, cond, ◌||◌, true≢false, and-eq-true_iff}
use mathlib.Core.List.{List, [], ◌∷◌, map}
use mathlib.Core.Option.{none, some}
use Prim.Native.Nat.{ℕ, zero, suc, ◌<◌}
use native.Mathlib.Omega.{arith}
use lib.Dec.{ltb}
use lib.ListN.{length, get_or}
use borrow.Author.Tests.{lt-ltb, ltb-true}
use Rattle.records.proofs.Loops.{all_holds}
use Rattle.checking.specs.Checked.{Checked}
use Rattle.three_valued.specs.Logic.{is_true}
use Rattle.truth.specs.AExpr.{AExpr, Column, Literal, Null, BinaryExpr, Not, IsNull, IsNotNull, IsBetween}
use Rattle.truth.specs.AExpr.{ListLiteral, IsIn, Missing, WF}
use Rattle.truth.specs.FromBytes.{aexpr_at, truth_keys}
use Rattle.constraints.specs.Payload as values
use Rattle.merge.specs.Minterms.{and_sides, minterms}
use Rattle.merge.specs.Classify.{classify}
use Rattle.merge.specs.Emit.{Outcome, Unchanged, NothingPasses, Rebuilt, merge_filter_constraints}
use Rattle.merge.specs.Plain.{reads_column, reads_step, is_number_column, reads_only_numbers, plain_screen, plain_conjunct, plain_conjuncts}
use Rattle.merge.specs.Demand.{Row, IsRow, passes}
use Rattle.merge.proofs.Accepted.{inputs-fall}
use Rattle.merge.proofs.Chains.{all_true, holds_at, minterms-true, Every, Sides, sides_binary, minterms-have}
use Rattle.merge.proofs.Complete.{ExactAll, Complete, merge_is_complete}
use Rattle.merge.proofs.Demand.{payload, halves}
use Rattle.merge.proofs.PlainForms as forms
use Rattle.merge.proofs.PlainForms.{plain-same}
use Rattle.merge.proofs.Readings.{classified_rightly}
use Rattle.merge.proofs.Sound.{FairAll, HoldsAll, Sound, and_both, merge_is_sound}
use Rattle.merge.proofs.Typed.{reads_column-law, reads_only}
use Rattle.merge.proofs.Unreached.{plain-unreached}
use Rattle.judge_lines.specs.Lines.{is_nothing, nothing_passes}

payload-is : values.payload ≡ payload
unfolding values.payload
payload-is = refl

module _ (t rs p : List ℕ) (used root : ℕ) (ok : Checked t rs p used root) where
  abbrev R : ℕ → AExpr ℕ
  R n = aexpr_at rs p used n

  pub good : WF R
  good n = inputs-fall t rs p used root ok n

  -- Node n is true of the row.
  abbrev pub M : Row → ℕ → Bool
  M row n = holds_at payload truth_keys R good row n

  module _ (row : Row) where
    pub hold : (l : List ℕ) → HoldsAll payload row (M row) (map (classify R) l) → all_true (M row) l ≡ true
    hold [] h = refl
    hold (n ∷ l) h =
        and_both (M row n) (all_true (M row) l)
        ((classified_rightly payload halves truth_keys R good row n).0.0 h.0) (hold l h.1)

    held : (l : List ℕ) → all_true (M row) l ≡ true → HoldsAll payload row (M row) (map (classify R) l)
    held [] h = tt
    held (n ∷ l) h =
        let b = (and-eq-true_iff (M row n) (all_true (M row) l)).0 h in
        ((classified_rightly payload halves truth_keys R good row n).0.1 b.0, held l b.1)

    fair : (l : List ℕ) → FairAll payload row (M row) (map (classify R) l)
    fair [] = tt
    fair (n ∷ l) = ((classified_rightly payload halves truth_keys R good row n).1, fair l)

    pub exact : (l : List ℕ) → forms.plain_conjuncts R l ≡ true → ExactAll payload halves row (M row) (map (classify R) l)
    exact [] h = tt
    exact (n ∷ l) h =
        let b = (and-eq-true_iff (forms.plain_conjunct R n) (forms.plain_conjuncts R l)).0 h in
        ((classified_rightly payload halves truth_keys R good row n).2 b.0, exact l b.1)

  outcome_is : (l : List ℕ) → nothing_passes R l ≡ is_nothing (merge_filter_constraints payload (map (classify R) l))
  outcome_is l = ap (λ S. is_nothing (merge_filter_constraints S (map (classify R) l))) payload-is

  -- Where the merging says so, no row makes the lines true.
  pub none_true : (l : List ℕ) → nothing_passes R l ≡ true → (row : Row) → all_true (M row) l ≡ true → ⊥
  none_true l e row h =
      go (merge_filter_constraints payload (map (classify R) l)) (sym (outcome_is l) ∙ e)
      (merge_is_sound payload row (M row) (map (classify R) l) (fair row l))
    where
      go : (o : Outcome ℕ) → is_nothing o ≡ true → Sound payload row (M row) (map (classify R) l) o → ⊥
      go Unchanged e s = absurd (true≢false (sym e))
      go NothingPasses e s = s (held row l h)
      go (Rebuilt ns cs) e s = absurd (true≢false (sym e))

  -- Where it does not, and the lines are plain, some row does.
  some_true : (l : List ℕ) → plain_conjuncts R l ≡ true → nothing_passes R l ≡ false → (row : Row) × (all_true (M row) l ≡ true)
  some_true l q e =
      go (merge_filter_constraints payload (map (classify R) l)) (sym (outcome_is l) ∙ e)
      (merge_is_complete payload halves M (map (classify R) l)
      (λ row. exact row l (sym (plain-same R l) ∙ q)))
    where
      go : (o : Outcome ℕ) → is_nothing o ≡ false → Complete payload halves M (map (classify R) l) o
          → (row : Row) × (all_true (M row) l ≡ true)
      go Unchanged e c = (c.0, hold c.0 l c.1)
      go NothingPasses e c = absurd (true≢false e)
      go (Rebuilt ns cs) e c = (c.0, hold c.0 l c.1)

  -- ---- Rows of the columns' types.
  abbrev pub num : ℕ → Bool
  num c = not (ltb c (length t)) || is_number_column t c

  abbrev numbers : Row → Row
  numbers row c = cond (num c) (row c) none

  -- The node reads no column of another type.
  abbrev pub Numeric : ℕ → Type 0
  Numeric n = (c : ℕ) → reads_column R n c ≡ true → num c ≡ true

  same_truth : (row : Row) (n : ℕ) → Numeric n → M (numbers row) n ≡ M row n
  same_truth row n h =
      ap (λ c. is_true c.truth) (sym (reads_only payload truth_keys R good row (numbers row) n
      (λ c k. ap (λ b. cond b (row c) none) (sym (h c k)))))

  same-truths : (row : Row) (l : List ℕ) → Every Numeric l → all_true (M (numbers row)) l ≡ all_true (M row) l
  same-truths row [] h = refl
  same-truths row (n ∷ l) h = rw (same_truth row n h.0, same-truths row l h.1)

  or_left : (a b : Bool) → a ≡ true → (a || b) ≡ true
  or_left a b h = ap (λ x. x || b) h

  or_right : (a b : Bool) → b ≡ true → (a || b) ≡ true
  or_right true b h = refl
  or_right false b h = h

  numeric_sides : (n : ℕ) → Numeric n → Sides Numeric (and_sides (R n))
  numeric_sides n h = go (R n) (λ c e. h c (reads_column-law R n c (good n) ∙ e))
    where
      go : (r : AExpr ℕ) → ((c : ℕ) → reads_step c (λ i. reads_column R i c) r ≡ true → num c ≡ true)
          → Sides Numeric (and_sides r)
      go (Column d) k = tt
      go (Literal v) k = tt
      go Null k = tt
      go (BinaryExpr b x y) k =
          sides_binary Numeric b x y (
            (λ c e. k c (or_left (reads_column R x c) (reads_column R y c) e)),
            (λ c e. k c (or_right (reads_column R x c) (reads_column R y c) e)),
          )
      go (Not x) k = tt
      go (IsNull x) k = tt
      go (IsNotNull x) k = tt
      go (IsBetween a b x y z) k = tt
      go (ListLiteral m l) k = tt
      go (IsIn e x y) k = tt
      go Missing k = tt

  module _ (plain : plain_screen t R root ≡ true) where
    pub parts : (reads_only_numbers t R root ≡ true) × (plain_conjuncts R (minterms R root) ≡ true)
    parts = (and-eq-true_iff (reads_only_numbers t R root) (plain_conjuncts R (minterms R root))).0 plain

    numeric : Numeric root
    numeric c e = go (ltb c (length t)) refl
      where
        imp : (x y : Bool) → (not x || y) ≡ true → x ≡ true → y ≡ true
        imp true y h e = h
        imp false y h e = absurd (true≢false (sym e))

        go : (b : Bool) → ltb c (length t) ≡ b → (not b || is_number_column t c) ≡ true
        go true l =
            imp (reads_column R root c) (is_number_column t c)
            (all_holds (λ i. not (reads_column R root i) || is_number_column t i) c (length t) (ltb-true c (length t) l)
            parts.0) e
        go false l = refl

    pub all_numeric : Every Numeric (minterms R root)
    all_numeric = minterms-have R good Numeric numeric_sides root numeric

    -- A row without values in the other columns is a row of this screen.
    is_row : (row : Row) → IsRow t R root (numbers row)
    is_row row =
        record {
          truths = λ c l e. rw (lt-ltb c (length t) l, e) tt;
          typed = λ e. absurd (true≢false (sym e ∙ plain-unreached R good root parts.1));
        }

    -- Lines that the merging lets pass let a row of this screen pass.
    pub some_row : (l : List ℕ) → plain_conjuncts R l ≡ true → Every Numeric l → nothing_passes R l ≡ false
        → (row : Row) × IsRow t R root row × (all_true (M row) l ≡ true)
    some_row l q n e =
        let r = some_true l q e in (numbers r.0, is_row r.0, same-truths r.0 l n ∙ r.1)

    -- ---- The lines of the screen.
    pub screen_passes : nothing_passes R (minterms R root) ≡ false
        → (row : Row) × IsRow t R root row × (passes rs p used root row ≡ true)
    screen_passes e =
        let r = some_row (minterms R root) parts.1 all_numeric e in
        (r.0, r.1, sym (minterms-true payload truth_keys R good r.0 root) ∙ r.2)

    pub screen_none : nothing_passes R (minterms R root) ≡ true → (row : Row) → passes rs p used root row ≡ true → ⊥
    screen_none e row h =
        none_true (minterms R root) e row (minterms-true payload truth_keys R good row root ∙ h)

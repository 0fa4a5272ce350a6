-- Rows of a plain screen beside a text pool, and rows of its numbers. A row of the one is a row of the other but for what stands in
-- Text columns, which the screen does not read: there null serves both.
use mathlib.Core.Path.{◌≡◌, refl, sym, ◌∙◌, ap, subst}
use mathlib.Core.Bool.{Bool, true, false, cond, ◌&&◌, ◌||◌, true≢false, and-eq-true_iff}
use mathlib.Core.List.{List, [], ◌∷◌}
use mathlib.Core.Option.{Option, none, some}
use Prim.Native.Nat.{ℕ, zero, suc, ◌≤◌, ◌<◌}
use native.Mathlib.Omega.{arith}
use lib.Dec.{ltb, leb, eqb}
use lib.ListN.{length, get_or}
use borrow.Author.Tests.{eqb-true, eqb-false, eq-eqb, ne_eqb, leb-true}
use Rattle.records.specs.Bytes.{all}
use Rattle.records.specs.Shape.{known_type_in}
use Rattle.records.proofs.Laws.{and_left, and_right}
use Rattle.records.proofs.Loops.{all_holds}
use Rattle.checking.specs.Check.{types_known_in, table_ok_in}
use Rattle.checking.specs.Checked.{Checked, CheckedIn}
use Rattle.truth.specs.AExpr.{AExpr, WF}
use Rattle.truth.specs.FromBytes.{aexpr_at, truth_keys, truth_in}
use Rattle.three_valued.specs.Logic.{is_true}
use Rattle.merge.specs.Minterms.{minterms}
use Rattle.merge.specs.Plain.{reads_column, is_number_column, reads_only_numbers, plain_conjuncts, plain_screen, reaches_division}
use Rattle.merge.specs.Demand.{Row, IsRow, NullOrTruth, passes}
use Rattle.merge.proofs.Accepted.{inputs-fall}
use Rattle.merge.proofs.Chains.{Every}
use Rattle.merge.proofs.Demand.{payload}
use Rattle.merge.proofs.Typed.{reads_only}
use Rattle.merge.proofs.Unreached.{plain-unreached}
use Rattle.numbered_screen.specs.Numbered.{number_type, Numbered}
use Rattle.numbered_screen.proofs.Checking.{numbers-checked}
use Rattle.numbered_screen.proofs.Reading.{numbers-read}
use Rattle.symbol_screens.specs.Reading.{held_at}
use Rattle.symbol_screens.specs.Rewriting.{lent}
use Rattle.symbol_screens.specs.Rows.{truth_with, passes_with, NullOrSymbol, IsRowWith}
use Rattle.plain_rows.proofs.Lines.{no_text, lines-no_text, lines-alike, passes-alike}

every-at : (P : ℕ → Type 0) (l : List ℕ) → Every P l → (j : ℕ) → j < length l → P (get_or l j 0)
every-at P [] h j k = absurd (omega arith)
every-at P (n ∷ l) h zero k = h.0
every-at P (n ∷ l) h (suc j) k = every-at P l h.1 j (omega arith)

in_table : (l : List ℕ) (i : ℕ) → (get_or l i 0 ≡ 0 → ⊥) → i < length l
in_table [] zero h = absurd (h refl)
in_table [] (suc i) h = absurd (h refl)
in_table (x ∷ l) zero h = omega arith
in_table (x ∷ l) (suc i) h = let k : i < length l = in_table l i h in omega (arith, k)

-- A type that is known and no number is Truth.
is_truth : (text ty : ℕ) → known_type_in text ty ≡ true → (eqb (number_type ty) 1 || eqb (number_type ty) 2) ≡ false → ty ≡ 3
unfolding known_type_in number_type
is_truth text ty h = go (eqb ty 4) refl
  where
    least : 1 ≤ ty
    least = leb-true 1 ty (and_left (leb 1 ty) (leb ty (cond (eqb text 0) 3 4)) h)

    most : (b : Bool) → leb ty (cond b 3 4) ≡ true → ty ≤ 4
    most true e = let l : ty ≤ 3 = leb-true ty 3 e in omega arith
    most false e = leb-true ty 4 e

    neither : (b c : Bool) → (b || c) ≡ false → (b ≡ false) × (c ≡ false)
    neither true c e = absurd (true≢false e)
    neither false c e = (refl, e)

    go : (b : Bool) → eqb ty 4 ≡ b → (eqb (cond b 1 ty) 1 || eqb (cond b 1 ty) 2) ≡ false → ty ≡ 3
    go true e k = absurd (true≢false k)
    go false e k =
        let n = neither (eqb ty 1) (eqb ty 2) k in
        let a : (ty ≡ 1 → ⊥) = eqb-false ty 1 n.0 in
        let b : (ty ≡ 2 → ⊥) = eqb-false ty 2 n.1 in
        let d : (ty ≡ 4 → ⊥) = eqb-false ty 4 e in
        let l : ty ≤ 4 = most (eqb text 0) (and_right (leb 1 ty) (leb ty (cond (eqb text 0) 3 4)) h) in
        omega (arith, least, l, a, b, d)

module _ (text t rs p : List ℕ) (used root : ℕ) (ok : CheckedIn (lent text) t rs p used root)
    (plain : plain_screen t (aexpr_at rs p used) root ≡ true)
    (table records : List ℕ) (are : Numbered t rs used table records) where
  abbrev R : ℕ → AExpr ℕ
  R n = aexpr_at rs p used n

  -- The numbers are read as the screen's own bits.
  pub bits-same : aexpr_at records p used ≡ aexpr_at rs p used
  bits-same = numbers-read t rs used table records are p

  good : WF (aexpr_at rs p used)
  good = subst WF bits-same (inputs-fall table records p used root (numbers-checked (lent text) t rs p used table records are root ok))

  no_division : (S : ℕ → AExpr ℕ) → S ≡ aexpr_at rs p used → reaches_division S root ≡ true → ⊥
  no_division S e h =
      true≢false (sym h ∙ ap (λ (Q : ℕ → AExpr ℕ). reaches_division Q root) e ∙ plain-unreached (aexpr_at rs p used) good root
      ((and-eq-true_iff (reads_only_numbers t R root) (plain_conjuncts R (minterms R root))).0 plain).1)

  -- ---- A row of the screen is a row of its numbers.
  pub row-of_numbers : (row : Row) → IsRowWith t (aexpr_at rs p used) root row → IsRow table (aexpr_at records p used) root row
  unfolding table_ok_in types_known_in
  row-of_numbers row is =
      record {
        truths = λ c l e.
            let h : c < length t = subst (λ n. c < n) are.columns l in
            is.truths c h (is_truth (lent text) (get_or t c 0)
            (all_holds (λ (k : ℕ). known_type_in (lent text) (get_or t k 0)) c (length t) h
            (and_right (leb (length t) 64) (types_known_in (lent text) t) ok.table))
            (sym (ap (λ ty. eqb ty 1 || eqb ty 2) (are.types c)) ∙ e));
        typed = λ e. absurd (no_division (aexpr_at records p used) bits-same e);
      }

  -- ---- A row of the numbers, without what stands in Text columns, is a row of the screen.
  abbrev pub cut : Row → Row
  cut row c = cond (eqb (get_or t c 0) 4) none (row c)

  pub row-of_screen : (row : Row) → IsRow table (aexpr_at records p used) root row → IsRowWith t (aexpr_at rs p used) root (cut row)
  unfolding number_type
  row-of_screen row is =
      record {
        truths = λ c l e.
            subst NullOrTruth (sym (ap (λ b. cond b none (row c)) (ap (λ ty. eqb ty 4) e)))
            (is.truths c (subst (λ n. c < n) (sym are.columns) l)
            (ap (λ ty. eqb ty 1 || eqb ty 2) (are.types c ∙ ap number_type e)));
        symbols = λ c l e. subst NullOrSymbol (sym (ap (λ b. cond b none (row c)) (ap (λ ty. eqb ty 4) e))) tt;
        typed = λ e. absurd (no_division (aexpr_at rs p used) refl e);
      }

  cut_truth : (row : Row) (n : ℕ) → ((c : ℕ) → reads_column R n c ≡ true → eqb (get_or t c 0) 4 ≡ false)
      → truth_in R (cut row) n ≡ truth_in R row n
  cut_truth row n h =
      ap (λ c. c.truth) (sym (reads_only payload truth_keys R good row (cut row) n
      (λ c k. ap (λ b. cond b none (row c)) (sym (h c k)))))

  -- ---- What the rows make of the screen, of its lines, and of the numbers.
  abbrev lines : List ℕ
  lines = minterms (aexpr_at rs p used) root

  pub line-true : (row : Row) (j : ℕ) → j < length lines
      → truth_with text (held_at rs p used) row (get_or lines j 0) ≡ truth_in (aexpr_at rs p used) row (get_or lines j 0)
  line-true row j h = every-at _ lines (lines-alike text t rs p used root ok good row plain) j h

  pub line-cut : (row : Row) (j : ℕ) → j < length lines
      → truth_with text (held_at rs p used) (cut row) (get_or lines j 0) ≡ truth_in (aexpr_at rs p used) row (get_or lines j 0)
  line-cut row j h =
      line-true (cut row) j h
      ∙ cut_truth row (get_or lines j 0) (every-at _ lines (lines-no_text text t rs p used root ok good row plain) j h)

  pub passes-true : (row : Row) → passes_with text rs p used root row ≡ passes records p used root row
  passes-true row =
      passes-alike text t rs p used root ok good row plain
      ∙ ap (λ (S : ℕ → AExpr ℕ). is_true (truth_in S row root)) (sym bits-same)

  pub passes-cut : (row : Row) → passes_with text rs p used root (cut row) ≡ passes records p used root row
  passes-cut row =
      passes-alike text t rs p used root ok good (cut row) plain
      ∙ ap is_true (cut_truth row root (no_text text t rs p used root ok good row plain))
      ∙ ap (λ (S : ℕ → AExpr ℕ). is_true (truth_in S row root)) (sym bits-same)

  -- ---- Text columns: the numbers do not read them, and they are in the table.
  pub root-no_text : (c : ℕ) → reads_column (aexpr_at records p used) root c ≡ true → eqb (get_or t c 0) 4 ≡ false
  root-no_text c e =
      no_text text t rs p used root ok good (λ i. none) plain c
      (ap (λ (S : ℕ → AExpr ℕ). reads_column S root c) (sym bits-same) ∙ e)

  pub text-column : (c : ℕ) → eqb (get_or t c 0) 4 ≡ true → c < length t
  text-column c e = in_table t c (λ z. absurd (true≢false (sym e ∙ ap (λ ty. eqb ty 4) z)))

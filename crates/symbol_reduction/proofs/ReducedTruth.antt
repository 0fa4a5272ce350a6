-- A row makes of the reduced screen what it makes of the screen: the cells of all records but Texts are the same, by course
-- of values.
use mathlib.Core.Path.{◌≡◌, refl, sym, ◌∙◌, ap, subst, fun_ext}
use mathlib.Core.Bool.{Bool, true, false, cond}
use mathlib.Core.List.{List}
use mathlib.Core.Logic.{◌⊎◌, ⊎_elim}
use mathlib.Core.Option.{Option, none, some, map}
use Prim.Native.Nat.{ℕ, zero, suc, ◌≤◌, ◌<◌}
use native.Mathlib.Omega.{arith}
use lib.Dec.{eqb}
use lib.IntN.{ℤ}
use lib.ListN.{length, get_or}
use Rattle.records.specs.Record.{node, fields_at, decode, record_at}
use Rattle.records.specs.declared.record.Fields.{Fields}
use Rattle.records.specs.declared.record.Record.{Record}
use Rattle.records.specs.declared.record.Record.TheVariants as kind
use Rattle.records.proofs.Laws.{by-test}
use Rattle.record_check.specs.Fit.{reach_ok_in, type_at}
use Rattle.checking.specs.Checked.{CheckedIn}
use Rattle.three_valued.specs.declared.logic.Truth.{Truth}
use Rattle.three_valued.specs.declared.logic.Truth.TheVariants.{False, Unknown, True}
use Rattle.truth.specs.Halves.{ord_z, key}
use Rattle.truth.specs.AExpr.{AExpr, Column, Literal, Null, BinaryExpr, Not, IsNull, IsNotNull, IsBetween, ListLiteral, IsIn, Missing}
use Rattle.truth.specs.AExpr.{Inputs, map_aexpr}
use Rattle.truth.specs.Cell.{Cell, truth_cell, step, cell_at}
use Rattle.truth.specs.FromBytes.{to_aexpr, aexpr_of, row_keys, truth_keys, truth_in}
use Rattle.truth.proofs.Cells.{cell_law}
use Rattle.truth.proofs.SameComparisons.{Keeps, truth-kept}
use Rattle.merge.proofs.Accepted.{binary-ind, one, two, three}
use Rattle.symbol_screens.specs.Held.{Held, Number, held, key_in}
use Rattle.symbol_screens.specs.Reading.{held_aexpr, held_at}
use Rattle.symbol_screens.specs.Rewriting.{lent}
use Rattle.symbol_screens.specs.Rows.{row_keys_with, truth_with}
use Rattle.symbol_screens.proofs.Kept.{held-falls}
use Rattle.symbol_screens.proofs.NumbersTested.{numbers-row}
use Rattle.symbol_truths.specs.SymbolTruths.{symbol_truth}
use Rattle.symbol_rows.specs.RowTestWith.{row_fault_with}
use Rattle.symbol_reduction.specs.Reduction.{takes_symbols, constant_of, Reduced}
use Rattle.symbol_reduction.proofs.TextInputs.{is_text, no_symbol, shape-kind, takes_is, Others, others, is_text_lem}
use Rattle.symbol_reduction.proofs.TextLeaves.{cells, used-is, cell_is, symbol-cell}

unchanged : (x : Option ℤ) → map (λ (k : ℤ). k) x ≡ x
unchanged none = refl
unchanged (some k) = refl

module _ (text : List ℕ) where
  numbers_keep : Keeps key truth_keys (key_in text) truth_keys (λ (k : ℤ). k) Number
  numbers_keep = record { keys = λ v. refl; compares = λ a b. refl; false-key = refl; true-key = refl }

  -- numbers have their keys in a screen with symbols
  as_held : (R : ℕ → AExpr ℕ) (row : ℕ → Option ℤ) (n : ℕ) →
      truth_in R row n ≡ truth_with text (λ a. map_aexpr Number (R a)) row n
  as_held R row n =
      truth-kept numbers_keep R (λ m. (λ x y e a b. unchanged _, λ x y e a b. unchanged _)) row n
      ∙ ap (λ (r : ℕ → Option ℤ). truth_with text (λ a. map_aexpr Number (R a)) r n) (fun_ext (λ c. unchanged (row c)))

  -- a constant is a truth
  constant_cell : (row : ℕ → Option ℤ) (D : ℕ → Cell ℤ Held) (s : Truth) →
      step (key_in text) ord_z truth_keys row D (map_aexpr Number (constant_of s)) ≡ truth_cell (key_in text) ord_z truth_keys s
  constant_cell row D False = refl
  constant_cell row D Unknown = refl
  constant_cell row D True = refl

  constant_inputs : (n : ℕ) (s : Truth) → Inputs n (map_aexpr Number (constant_of s))
  constant_inputs n False = tt
  constant_inputs n Unknown = tt
  constant_inputs n True = tt

  -- Two tables that agree on a record's inputs, and two rows on its column, give it one cell.
  module _ (row row' : ℕ → Option ℤ) (C D : ℕ → Cell ℤ Held) where
    abbrev Agree : AExpr Held → Type 0
    Agree (Column c) = row c ≡ row' c
    Agree (Literal v) = Unit {0}
    Agree Null = Unit {0}
    Agree (BinaryExpr op x y) = (C x ≡ D x) × (C y ≡ D y)
    Agree (Not x) = C x ≡ D x
    Agree (IsNull x) = C x ≡ D x
    Agree (IsNotNull x) = C x ≡ D x
    Agree (IsBetween lo hi x y z) = (C x ≡ D x) × (C y ≡ D y) × (C z ≡ D z)
    Agree (ListLiteral m l) = Unit {0}
    Agree (IsIn e x y) = (C x ≡ D x) × (C y ≡ D y)
    Agree Missing = Unit {0}

    agreed : (r : AExpr Held) → Agree r →
        step (key_in text) ord_z truth_keys row C r ≡ step (key_in text) ord_z truth_keys row' D r
    agreed (Column c) h = rw h
    agreed (Literal v) h = refl
    agreed Null h = refl
    agreed (BinaryExpr op x y) h = rw (h.0, h.1)
    agreed (Not x) h = rw h
    agreed (IsNull x) h = rw h
    agreed (IsNotNull x) h = rw h
    agreed (IsBetween lo hi x y z) h = rw (h.0, h.1, h.2)
    agreed (ListLiteral m l) h = refl
    agreed (IsIn e x y) h = rw (h.0, h.1)
    agreed Missing h = refl

-- what holds of a number if it holds of all below holds of every one
by-course : (P : ℕ → Type 0) → ((n : ℕ) → ((x : ℕ) → x < n → P x) → P n) → (b n : ℕ) → n < b → P n
by-course P h zero n l = absurd (omega arith)
by-course P h (suc b) n l = h n (λ x k. by-course P h b x (omega arith))

module _ (text t rs p row : List ℕ) (nulls used root : ℕ) (ok : CheckedIn (lent text) t rs p used root)
    (fault : row_fault_with text t row nulls ≡ 0) (out : List ℕ) (reduced : Reduced text t rs p row nulls used used out) where
  abbrev F : ℕ → Fields
  F x = fields_at rs (node x)

  abbrev C : ℕ → Cell ℤ Held
  C n = cells text t rs p row nulls used root ok fault n

  abbrev S : ℕ → AExpr Held
  S n = map_aexpr Number (aexpr_of out p n)

  abbrev D : ℕ → Cell ℤ Held
  D n = cell_at (key_in text) ord_z truth_keys S (row_keys row nulls) n

  abbrev text_at : ℕ → Bool
  text_at n = is_text t (record_at rs (node n))

  -- a record without Text inputs that is no Text stands as it stood, and holds numbers
  same-record : (n : ℕ) → n < used → takes_symbols t rs (F n) ≡ false → text_at n ≡ false → held_aexpr p (decode (F n)) ≡ S n
  unfolding aexpr_of record_at
  same-record n h e q =
      ap (λ (g : ℕ → Held). map_aexpr g (to_aexpr p (decode (F n)))) (fun_ext (λ v. rw (no_symbol t (decode (F n)) q)))
      ∙ ap (λ f. map_aexpr Number (to_aexpr p (decode f))) (sym (reduced.kept n h e))

  pub inputs-out : (n : ℕ) → n < used → text_at n ≡ false → Inputs n (S n)
  inputs-out n h q = by-test (takes_symbols t rs (F n)) told kept
    where
      told : takes_symbols t rs (F n) ≡ true → Inputs n (S n)
      told e =
          subst (λ r. Inputs n (map_aexpr Number r)) (sym (reduced.told n h e))
          (constant_inputs text n (symbol_truth text rs p row nulls (F n)))

      kept : takes_symbols t rs (F n) ≡ false → Inputs n (S n)
      kept e =
          subst (Inputs n) (used-is text t rs p row nulls used root ok fault n h ∙ same-record n h e q)
          (held-falls (lent text) t rs p used root ok n)

  abbrev Same : ℕ → Type 0
  Same n = n < used → text_at n ≡ false → C n ≡ D n

  abbrev row_keyed : ℕ → Option ℤ
  row_keyed c = row_keys_with text t row nulls c

  abbrev Agreed : AExpr Held → Type 0
  Agreed r = Agree text row_keyed (row_keys row nulls) C D r

  module _ (n : ℕ) (h : n < used) (ih : (x : ℕ) → x < n → Same x) where
    input : (x : ℕ) → x < n → text_at x ≡ false → C x ≡ D x
    input x l e = ih x l (omega (arith, l, h)) e

    inputs-agree : (r : Record) → reach_ok_in (lent text) t p r (node n) ≡ true → Others (lent text) t rs p used root ok r →
        is_text t r ≡ false → Agreed (held_aexpr p r)
    unfolding reach_ok_in
    inputs-agree kind.Invalid re o e = tt
    inputs-agree (kind.Column c) re o e = numbers-row text t row nulls c.0 e
    inputs-agree (kind.Literal s v) re o e = tt
    inputs-agree (kind.Null s) re o e = tt
    inputs-agree (kind.Binary op x y) re o e =
        let b = two n x.0 y.0 re in
        let q : (C x.0 ≡ D x.0) × (C y.0 ≡ D y.0) = (input x.0 b.0 o.0, input y.0 b.1 o.1) in
        binary-ind (λ r. Agreed (map_aexpr (held 0) r)) x.0 y.0 tt (q, q) op (λ _ c. q) (λ _. (q, q)) (λ _ d u. q)
    inputs-agree (kind.Not x) re o e = input x.0 (one n x.0 re) o
    inputs-agree (kind.IsNull x) re o e = input x.0 (one n x.0 re) o
    inputs-agree (kind.IsNotNull x) re o e = input x.0 (one n x.0 re) o
    inputs-agree (kind.IsBetween k x low high) re o e =
        let b = three n x.0 low.0 high.0 re in
        (input x.0 b.0 o.0, input low.0 b.1 o.1, input high.0 b.2 o.2)
    inputs-agree (kind.List s marked start count) re o e = tt
    inputs-agree (kind.IsIn equal x list) re o e =
        let b = two n x.0 list.0 re in (input x.0 b.0 o.0, input list.0 b.1 o.1)

    inputs-other : takes_symbols t rs (F n) ≡ false → text_at n ≡ false → Agreed (held_aexpr p (decode (F n)))
    unfolding record_at
    inputs-other e q =
        let c = ok.records n h in
        inputs-agree (decode (F n)) c.reach
        (others (lent text) t rs p used root ok n h (decode (F n)) c.reach c.types
        (sym (takes_is t rs (F n) (shape-kind (lent text) (F n) c.shape)) ∙ e)) q

    abbrev stepped : AExpr Held → Cell ℤ Held
    stepped r = step (key_in text) ord_z truth_keys (row_keys row nulls) D r

    same-cell : text_at n ≡ false → C n ≡ D n
    same-cell q = by-test (takes_symbols t rs (F n)) told kept
      where
        law : D n ≡ stepped (S n)
        law = cell_law (key_in text) ord_z truth_keys S (row_keys row nulls) n (inputs-out n h q)

        told : takes_symbols t rs (F n) ≡ true → C n ≡ D n
        told e =
            symbol-cell text t rs p row nulls used root ok fault n h e
            ∙ sym (law ∙ ap (λ r. stepped (map_aexpr Number r)) (reduced.told n h e)
            ∙ constant_cell text (row_keys row nulls) D (symbol_truth text rs p row nulls (F n)))

        kept : takes_symbols t rs (F n) ≡ false → C n ≡ D n
        kept e =
            cell_is text t rs p row nulls used root ok fault n h
            ∙ agreed text row_keyed (row_keys row nulls) C D (held_aexpr p (decode (F n))) (inputs-other e q)
            ∙ ap stepped (same-record n h e q) ∙ sym law

  pub same-cells : (n : ℕ) → Same n
  same-cells n h = by-course Same (λ m ih k. same-cell m k ih) used n h h

  -- 02, 2.10: the truth of the screen is that of the reduced one, of which it is evaluated.
  pub reduced_truth_lem : truth_with text (held_at rs p used) (row_keys_with text t row nulls) root ≡
      truth_in (aexpr_of out p) (row_keys row nulls) root
  reduced_truth_lem =
      ap (λ c. c.truth) (same-cells root ok.root-used (is_text_lem (lent text) t rs p used root ok root 3 (omega arith) ok.root-truth))
      ∙ sym (as_held text (aexpr_of out p) (row_keys row nulls) root)

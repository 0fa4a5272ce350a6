-- The records of the screen of numbers may be evaluated. Assumes nothing.
use mathlib.Core.Path.{◌≡◌, refl, sym, ◌∙◌, ap, subst}
use mathlib.Core.Bool.{Bool, true, false, ◌&&◌}
use mathlib.Core.List.{List}
use mathlib.Core.Logic.{◌⊎◌, inl, inr, ⊎_elim}
use Prim.Native.Nat.{ℕ, ◌+◌, ◌*◌, ◌/◌, ◌≤◌, ◌<◌}
use native.Mathlib.Omega.{arith}
use lib.Dec.{eqb}
use lib.ListN.{length}
use borrow.Author.Tests.{eqb-true}
use Rattle.records.specs.Record.{node, fields_at, decode, record_at}
use Rattle.records.specs.declared.record.Fields.{Fields}
use Rattle.records.proofs.Laws.{and_left, by-test}
use Rattle.checking.specs.Checked.{CheckedIn}
use Rattle.checking.proofs.Accepted.{inputs-below_in}
use Rattle.truth.specs.AExpr.{Inputs}
use Rattle.truth.specs.FromBytes.{to_aexpr, aexpr_of}
use Rattle.truth.specs.Evaluate.{Served, ColumnThere, Fit, Evaluable}
use Rattle.row_test.proofs.Ready.{inputs-aexpr}
use Rattle.symbol_screens.specs.Rewriting.{lent}
use Rattle.symbol_rows.specs.RowTestWith.{row_fault_with}
use Rattle.symbol_reduction.proofs.TextInputs.{shape-kind}
use Rattle.symbol_reduction.proofs.TextLeaves.{row-long, binary-code, column-there, list_inside}
use Rattle.symbol_reduction.proofs.ReducedFit.{binary-served, is_in_lem, is_in-below, member-list}
use Rattle.ranked_chain.specs.RankedChain.{is_text_literal, is_number_list, raised, WideRecords}
use Rattle.ranked_chain.proofs.RaisedLists.{in_pool_lem, literal-kind, list-kind, raised-same, raised-kind}

literal-inputs : (pool : List ℕ) (n : ℕ) (f : Fields) → f.kind ≡ 2 → Inputs n (to_aexpr pool (decode f))
unfolding decode
literal-inputs pool n f k = rw k tt

list-inputs : (pool : List ℕ) (n : ℕ) (f : Fields) → f.kind ≡ 9 → Inputs n (to_aexpr pool (decode f))
unfolding decode
list-inputs pool n f k = rw k tt

raised-start : (words : ℕ) (f : Fields) → is_number_list f ≡ true → (raised words f).a + (raised words f).b ≡ words + f.a + f.b
unfolding raised
raised-start words f e = rw e

module _ (text t rs p : List ℕ) (used root : ℕ) (ok : CheckedIn (lent text) t rs p used root) (wide out pool : List ℕ)
    (records : WideRecords rs wide (length p / 8) used out) (as-pool : 16 * (length p / 8) ≤ length pool)
    (whole : length p ≤ length pool) (row : List ℕ) (nulls : ℕ)
    (fault : row_fault_with text t row nulls ≡ 0) (block : List ℕ) (as_long : length block ≡ 8 * length t) where
  abbrev F : ℕ → Fields
  F n = fields_at rs (node n)

  abbrev M : ℕ → Fields
  M n = fields_at records.middle (node n)

  abbrev G : ℕ → Fields
  G n = fields_at out (node n)

  kind-kept : (n : ℕ) → n < used → (G n).kind ≡ (F n).kind
  kind-kept n h =
      ap (λ f. f.kind) (records.lists.done n h) ∙ raised-kind (length p / 8) (M n) ∙ records.literals.kind n h

  there : (c : ℕ) → ColumnThere row c → ColumnThere block c
  there c h = let e = row-long text t row nulls fault in (h.0, omega (arith, h.1, e, as_long))

  -- what is_in searches is a list
  in_list : (n : ℕ) → n < used → (F n).kind ≡ 10 → (G (F n).b).kind ≡ 9
  unfolding record_at
  in_list n h k =
      let c = ok.records n h in
      let l = is_in-below (F n) (lent text) t p n k c.reach in
      let u : (F n).b < used = omega (arith, l, h) in
      kind-kept (F n).b u
      ∙ member-list (F (F n).b) _ (shape-kind (lent text) (F (F n).b) (ok.records (F n).b u).shape) (is_in_lem (F n) t rs k c.types)

  fit-kept : (n : ℕ) → n < used → is_text_literal (F n) ≡ false → is_number_list (F n) ≡ false → Fit out pool block n (G n)
  unfolding aexpr_of record_at
  fit-kept n h e d =
      let s = records.lists.done n h ∙ ap (raised (length p / 8)) (records.literals.kept n h e) ∙ raised-same (length p / 8) (F n) d in
      let c = ok.records n h in
      record {
        inputs = subst (λ f. Inputs n (to_aexpr pool (decode f))) (sym s)
            (inputs-aexpr pool n (decode (F n)) (inputs-below_in (lent text) t rs p used root ok n h));
        operator = λ k. subst (λ f. Served f.code) (sym s) (binary-served (F n) (sym (ap (λ f. f.kind) s) ∙ k)
            (binary-code (lent text) (F n) c.shape (sym (ap (λ f. f.kind) s) ∙ k)) c.served);
        column = λ k. subst (λ f. ColumnThere block f.a) (sym s) (there (F n).a
            (column-there text t rs p row nulls used root ok fault n h (sym (ap (λ f. f.kind) s) ∙ k)));
        list = λ k. subst (λ f. 8 * (f.a + f.b) ≤ length pool) (sym s)
            (let l = list_inside text t rs p row nulls used root ok fault n h (sym (ap (λ f. f.kind) s) ∙ k) in omega (arith, l, whole));
        member = λ k. subst (λ f. (G f.b).kind ≡ 9) (sym s) (in_list n h (sym (ap (λ f. f.kind) s) ∙ k));
      }

  -- a literal with its number, or a list of numbers
  fit-leaf : (n : ℕ) → Inputs n (to_aexpr pool (decode (G n))) → ((G n).kind ≡ 9 → 8 * ((G n).a + (G n).b) ≤ length pool)
      → ((G n).kind ≡ 2) ⊎ ((G n).kind ≡ 9) → Fit out pool block n (G n)
  unfolding aexpr_of record_at
  fit-leaf n i l w =
      record {
        inputs = i;
        operator = λ q. none (λ k. omega (arith, k, q)) (λ k. omega (arith, k, q));
        column = λ q. none (λ k. omega (arith, k, q)) (λ k. omega (arith, k, q));
        list = l;
        member = λ q. none (λ k. omega (arith, k, q)) (λ k. omega (arith, k, q));
      }
    where
      none : {A : Type 0} → ((G n).kind ≡ 2 → ⊥) → ((G n).kind ≡ 9 → ⊥) → A
      none a b = absurd (⊎_elim a b w)

  fit-literal : (n : ℕ) → n < used → is_text_literal (F n) ≡ true → Fit out pool block n (G n)
  fit-literal n h e =
      let k : (G n).kind ≡ 2 = kind-kept n h ∙ literal-kind (F n) e in
      fit-leaf n (literal-inputs pool n (G n) k) (λ q. absurd (omega (arith, k, q))) (inl k)

  fit-list : (n : ℕ) → n < used → is_text_literal (F n) ≡ false → is_number_list (F n) ≡ true → Fit out pool block n (G n)
  fit-list n h e d =
      let f = list-kind (F n) d in
      let k : (G n).kind ≡ 9 = kind-kept n h ∙ f in
      let s = ap (λ x. x.a + x.b) (records.lists.done n h ∙ ap (raised (length p / 8)) (records.literals.kept n h e)) in
      let r = raised-start (length p / 8) (F n) d in
      let b = in_pool_lem (lent text) t rs p used root ok n h f in
      fit-leaf n (list-inputs pool n (G n) k) (λ q. omega (arith, s, r, b, as-pool)) (inr k)

  pub ranks_evaluable : 16 * used ≤ length out → Evaluable out pool block root
  ranks_evaluable long =
      let r = ok.root-used in
      record {
        room = omega (arith, long, r);
        fit = λ m l.
            let k : m < used = omega (arith, l, r) in
            by-test (is_text_literal (F m)) (fit-literal m k) (λ e. by-test (is_number_list (F m)) (fit-list m k e) (fit-kept m k e));
      }

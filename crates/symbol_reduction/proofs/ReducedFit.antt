-- The records of the reduced screen may be evaluated.
use mathlib.Core.Path.{◌≡◌, refl, sym, ◌∙◌, ap, subst}
use mathlib.Core.Bool.{Bool, true, false, cond, not, ◌&&◌, true≢false}
use mathlib.Core.List.{List}
use mathlib.Core.Logic.{◌⊎◌, inl, inr, ⊎_elim}
use Prim.Native.Nat.{ℕ, ◌+◌, ◌*◌, ◌≤◌, ◌<◌}
use native.Mathlib.Omega.{arith}
use lib.Dec.{leb, eqb}
use lib.ListN.{length}
use borrow.Author.Tests.{leb-false, le-leb}
use Rattle.records.specs.Operator.{operator_at, code_of, is_left_out}
use Rattle.records.specs.Record.{node, fields_at, decode, record_at}
use Rattle.records.specs.declared.record.Fields.{Fields}
use Rattle.records.specs.declared.record.Record.{Record}
use Rattle.records.specs.declared.record.Record.TheVariants as kind
use Rattle.records.proofs.Laws.{by-test, and_left}
use Rattle.records.proofs.RoundTrips.{code_back}
use Rattle.record_check.specs.Fit.{reach_ok_in, served_ok, types_ok, type_at, member_fits}
use Rattle.checking.specs.Checked.{CheckedIn}
use Rattle.three_valued.specs.declared.logic.Truth.{Truth}
use Rattle.three_valued.specs.declared.logic.Truth.TheVariants.{False, Unknown, True}
use Rattle.truth.specs.AExpr.{AExpr, Column, Literal, Null, BinaryExpr, Not, IsNull, IsNotNull, IsBetween, ListLiteral, IsIn, Missing}
use Rattle.truth.specs.AExpr.{Inputs, map_aexpr}
use Rattle.truth.specs.FromBytes.{to_aexpr, aexpr_of}
use Rattle.truth.specs.Evaluate.{Served, Fit, Evaluable}
use Rattle.truth.proofs.Keys.{lt-or_le}
use Rattle.merge.proofs.Accepted.{two}
use Rattle.symbol_screens.specs.Held.{Held, held}
use Rattle.symbol_screens.specs.Reading.{value_type, held_aexpr, held_at}
use Rattle.symbol_screens.specs.Rewriting.{lent}
use Rattle.symbol_screens.proofs.Kept.{held-falls}
use Rattle.symbol_truths.specs.SymbolTruths.{symbol_truth}
use Rattle.symbol_rows.specs.RowTestWith.{row_fault_with}
use Rattle.symbol_reduction.specs.Reduction.{takes_symbols, constant_of, Reduced}
use Rattle.symbol_reduction.proofs.TextInputs.{decode-ind, shape-kind}
use Rattle.symbol_reduction.proofs.TextLeaves.{used-is, binary-code, column-there, list_inside}

mapped_inputs : {A B : Type 0} (g : A → B) (n : ℕ) (r : AExpr A) → Inputs n (map_aexpr g r) → Inputs n r
mapped_inputs g n (Column c) h = h
mapped_inputs g n (Literal v) h = h
mapped_inputs g n Null h = h
mapped_inputs g n (BinaryExpr op x y) h = h
mapped_inputs g n (Not x) h = h
mapped_inputs g n (IsNull x) h = h
mapped_inputs g n (IsNotNull x) h = h
mapped_inputs g n (IsBetween lo hi x y z) h = h
mapped_inputs g n (ListLiteral m l) h = h
mapped_inputs g n (IsIn e x y) h = h
mapped_inputs g n Missing h = h

constant_inputs : (n : ℕ) (s : Truth) → Inputs n (constant_of s)
constant_inputs n False = tt
constant_inputs n Unknown = tt
constant_inputs n True = tt

-- ---- Of fields.
served : (code : ℕ) → code < 20 → not (is_left_out (operator_at code)) ≡ true → Served code
served code h e = go (leb 8 code) (leb code 12) refl refl (rw (code_back code (omega (arith, h))) at e)
  where
    go : (a b : Bool) → leb 8 code ≡ a → leb code 12 ≡ b → not (a && b) ≡ true → Served code
    go false b ea eb q = let l : code < 8 = leb-false 8 code ea in inl (omega (arith, l))
    go true false ea eb q = let l : 12 < code = leb-false code 12 eb in inr (omega (arith, l), omega (arith, h))
    go true true ea eb q = absurd (true≢false (sym q))

module _ (f : Fields) where
  pub binary-served : f.kind ≡ 4 → f.code < 20 → served_ok (decode f) ≡ true → Served f.code
  unfolding decode served_ok
  binary-served k h e = served f.code h (rw k at e)

  pub is_in_lem : (t rs : List ℕ) → f.kind ≡ 10 → types_ok t rs (decode f) ≡ true →
      member_fits (type_at t rs (node f.a)) (record_at rs (node f.b)) ≡ true
  unfolding decode types_ok
  is_in_lem t rs k e = rw k at e

  pub is_in-below : (lent_text : ℕ) (t p : List ℕ) (n : ℕ) → f.kind ≡ 10 → reach_ok_in lent_text t p (decode f) (node n) ≡ true → f.b < n
  unfolding decode reach_ok_in
  is_in-below lent_text t p n k e = (two n f.a f.b (rw k at e)).1

  pub member-list : (x : ℕ) → (1 ≤ f.kind) × (f.kind ≤ 10) → member_fits x (decode f) ≡ true → f.kind ≡ 9
  unfolding member_fits
  member-list x l =
      decode-ind (λ r. member_fits x r ≡ true → f.kind ≡ 9) f l (λ k e. no e) (λ k e. no e) (λ k e. no e)
      (λ k e. no e) (λ k e. no e) (λ k e. no e) (λ k e. no e) (λ k e. no e) (λ k e. k) (λ k e. no e)
    where
      no : false ≡ true → f.kind ≡ 9
      no e = absurd (true≢false (sym e))

  list-takes_none : (t rs : List ℕ) → f.kind ≡ 9 → takes_symbols t rs f ≡ false
  unfolding takes_symbols
  list-takes_none t rs k = rw k

module _ (text t rs p row : List ℕ) (nulls used root : ℕ) (ok : CheckedIn (lent text) t rs p used root)
    (fault : row_fault_with text t row nulls ≡ 0) (out : List ℕ) (reduced : Reduced text t rs p row nulls used used out) where
  abbrev F : ℕ → Fields
  F x = fields_at rs (node x)

  inputs-kept : (n : ℕ) → n < used → fields_at out (node n) ≡ F n → Inputs n (aexpr_of out p n)
  unfolding aexpr_of record_at
  inputs-kept n h e =
      subst (λ f. Inputs n (to_aexpr p (decode f))) (sym e)
      (mapped_inputs (held (value_type (decode (F n)))) n (to_aexpr p (decode (F n)))
      (subst (Inputs n) (used-is text t rs p row nulls used root ok fault n h) (held-falls (lent text) t rs p used root ok n)))

  fit-kept : (n : ℕ) → n < used → takes_symbols t rs (F n) ≡ false → Fit out p row n (fields_at out (node n))
  unfolding record_at
  fit-kept n h e =
      let s = reduced.kept n h e in
      let c = ok.records n h in
      let b = shape-kind (lent text) in
      record {
        inputs = inputs-kept n h s;
        operator = λ k. subst (λ f. Served f.code) (sym s) (binary-served (F n) (sym (ap (λ f. f.kind) s) ∙ k)
            (binary-code (lent text) (F n) c.shape (sym (ap (λ f. f.kind) s) ∙ k)) c.served);
        column = λ k. rw s (column-there text t rs p row nulls used root ok fault n h (sym (ap (λ f. f.kind) s) ∙ k));
        list = λ k. rw s (list_inside text t rs p row nulls used root ok fault n h (sym (ap (λ f. f.kind) s) ∙ k));
        member = λ k. rw s (in_list (sym (ap (λ f. f.kind) s) ∙ k));
      }
    where
      in_list : (F n).kind ≡ 10 → (fields_at out (node (F n).b)).kind ≡ 9
      in_list k =
          let c = ok.records n h in
          let l = is_in-below (F n) (lent text) t p n k c.reach in
          let u : (F n).b < used = omega (arith, l, h) in
          let q = member-list (F (F n).b) _ (shape-kind (lent text) (F (F n).b) (ok.records (F n).b u).shape)
          (is_in_lem (F n) t rs k c.types) in
          ap (λ f. f.kind) (reduced.kept (F n).b u (list-takes_none (F (F n).b) t rs q)) ∙ q

  fit-told : (n : ℕ) → n < used → takes_symbols t rs (F n) ≡ true → Fit out p row n (fields_at out (node n))
  fit-told n h e =
      record {
        inputs = subst (Inputs n) (sym (reduced.told n h e)) (constant_inputs n (symbol_truth text rs p row nulls (F n)));
        operator = λ k. absurd (other 4 (inr (omega arith)) k);
        column = λ k. absurd (other 1 (inl (omega arith)) k);
        list = λ k. absurd (other 9 (inr (omega arith)) k);
        member = λ k. absurd (other 10 (inr (omega arith)) k);
      }
    where
      other : (m : ℕ) → (m < 2) ⊎ (3 < m) → (fields_at out (node n)).kind ≡ m → ⊥
      other m d k =
          ⊎_elim
          (λ (z : (fields_at out (node n)).kind ≡ 2).
          ⊎_elim (λ (l : m < 2). omega (arith, l, z, k)) (λ (l : 3 < m). omega (arith, l, z, k)) d)
          (λ (z : (fields_at out (node n)).kind ≡ 3).
          ⊎_elim (λ (l : m < 2). omega (arith, l, z, k)) (λ (l : 3 < m). omega (arith, l, z, k)) d)
          (reduced.leaf n h e)

  pub reduced_evaluable : 16 * used ≤ length out → (n : ℕ) → n < used → Evaluable out p row n
  reduced_evaluable long n h =
      record {
        room = omega (arith, long, h);
        fit = λ m l. let k : m < used = omega (arith, l, h) in by-test (takes_symbols t rs (F m)) (fit-told m k) (fit-kept m k);
      }

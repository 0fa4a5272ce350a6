-- The cells of a checked screen's Text records under a row without a fault, and what a record with Text inputs makes of them.
use mathlib.Core.Path.{◌≡◌, refl, sym, ◌∙◌, ap, subst}
use mathlib.Core.Bool.{Bool, true, false, cond, not, ◌&&◌, ◌||◌, true≢false}
use mathlib.Core.List.{List, [], ◌∷◌, map}
use mathlib.Core.Option.{Option, none, some}
use Prim.Native.Nat.{ℕ, zero, suc, ◌+◌, ◌-◌, ◌*◌, ◌/◌, ◌≤◌, ◌<◌}
use native.Mathlib.Omega.{arith}
use lib.Dec.{ltb, leb, eqb}
use lib.IntN.{ℤ}
use lib.ListN.{length, get_or}
use borrow.Author.Tests.{eqb-true, ne_eqb, leb-true, ltb-true, lt-ltb, lt-leb}
use Rattle.records.specs.Bytes.{all, value_at}
use Rattle.records.specs.Operator.{operator_at, is_comparison, is_division}
use Rattle.records.specs.Record.{node, column_number, fields_at, closed_at, decode, record_at}
use Rattle.records.specs.Shape.{in_pool, in_type_in, shape_ok_in, known_ok_in, unused_ok, literal_ok_in, max_code}
use Rattle.records.specs.declared.record.Fields.{Fields}
use Rattle.records.specs.declared.record.Record.{Record}
use Rattle.records.specs.declared.record.Record.TheVariants as kind
use Rattle.records.proofs.Laws.{and_left, and_right}
use Rattle.records.proofs.Loops.{all_holds}
use Rattle.record_check.specs.Fit.{all_fit_in, list_ok_in, reach_ok_in, type_of, type_at, member_fits}
use Rattle.checking.specs.Check.{table_ok_in, types_known_in}
use Rattle.checking.specs.Checked.{CheckedIn}
use Rattle.checking.proofs.Accepted.{checked-lent_in}
use Rattle.three_valued.specs.Logic.{and3, of_bool}
use Rattle.three_valued.specs.declared.logic.Truth.{Truth}
use Rattle.truth.specs.Order.{is_equal}
use Rattle.truth.specs.Halves.{ord_z}
use Rattle.truth.specs.Comparison.{Comparison, Eq, NotEq, Lt, LtEq, Gt, GtEq}
use Rattle.truth.specs.AExpr.{AExpr, map_aexpr}
use Rattle.truth.specs.Membership.{mem, in3, null_in3, known_in3}
use Rattle.truth.specs.Cell.{Cell, is_null, low_comparison, high_comparison, compare3, same_value, truth_cell, step, cell_at}
use Rattle.truth.specs.FromBytes.{binary_expr, closes_low, closes_high, values_from, null_marked, truth_keys}
use Rattle.truth.specs.Evaluate.{comparing, same, comparison_at, compared_of, low_code, high_code, between_of, ColumnThere}
use Rattle.truth.proofs.Cells.{cell_law}
use Rattle.membership.proofs.Memberships.{is_empty, in3-null, in3-known}
use Rattle.row_test.specs.RowTest.{marks_ok}
use Rattle.row_test.proofs.Evaluation.{Each, each_at}
use Rattle.merge.proofs.Accepted.{one, two, three}
use Rattle.symbols.specs.Symbol.{symbol_key}
use Rattle.symbol_screens.specs.Held.{Held, Symbol, Number, held, key_in}
use Rattle.symbol_screens.specs.Reading.{held_aexpr, held_at}
use Rattle.symbol_screens.specs.Rewriting.{lent}
use Rattle.symbol_screens.specs.Rows.{row_keys_with}
use Rattle.symbol_screens.proofs.ColumnKinds.{same-types}
use Rattle.symbol_screens.proofs.Kept.{held-falls}
use Rattle.symbol_values.specs.SymbolValues.{symbolic, PooledValue, leaf_bits, symbol_member}
use Rattle.symbol_truths.specs.SymbolTruths.{input_key, symbol_truth, SymbolLeaf, SymbolList, SymbolTest}
use Rattle.symbol_rows.specs.RowTestWith.{column_ok_with, columns_ok_with, row_fault_with}
use Rattle.symbol_reduction.specs.Reduction.{takes_symbols}
use Rattle.symbol_reduction.proofs.TextInputs.{decode-ind, shape-kind, binary-type, takes_is, Texts, texts}

-- a value of type 4 lies in the pool
text_in : (size ty v : ℕ) → ty ≡ 4 → in_type_in (suc size) ty v ≡ true → in_pool size v ≡ true
unfolding in_type_in
text_in size ty v q h =
    let z : eqb (suc size) 0 ≡ false = ne_eqb (suc size) 0 (λ k. omega (arith, k)) in
    go (rw (q, z) at h)
  where
    go : in_pool (suc size - 1) v ≡ true → in_pool size v ≡ true
    go k = let q : suc size - 1 ≡ size = omega arith in rw q at k

-- ---- A row without a fault.
module _ (text t row : List ℕ) (nulls : ℕ) where
  fault_free : row_fault_with text t row nulls ≡ 0 → (length row ≡ 8 * length t) × (columns_ok_with (lent text) t row nulls ≡ true)
  unfolding row_fault_with
  fault_free = go (eqb (length row) (8 * length t)) (marks_ok (length t) nulls) (columns_ok_with (lent text) t row nulls) refl refl
    where
      go : (b m c : Bool) → eqb (length row) (8 * length t) ≡ b → columns_ok_with (lent text) t row nulls ≡ c →
          ◌≡◌ {A = ℕ} (cond b (cond (m && c) 0 13) 12) 0 →
          (length row ≡ 8 * length t) × (columns_ok_with (lent text) t row nulls ≡ true)
      go true true true e k h = (eqb-true _ _ e, k)
      go true true false e k h = absurd (omega (arith, h))
      go true false c e k h = absurd (omega (arith, h))
      go false m c e k h = absurd (omega (arith, h))

  pub row-long : row_fault_with text t row nulls ≡ 0 → length row ≡ 8 * length t
  row-long h = (fault_free h).0

  pub column-pooled : row_fault_with text t row nulls ≡ 0 → (c : ℕ) → c < length t → get_or t c 0 ≡ 4 → null_marked nulls c ≡ false →
      in_pool (length text) (value_at row c) ≡ true
  unfolding columns_ok_with column_ok_with
  column-pooled h c l e m =
      text_in (length text) (get_or t c 0) (value_at row c) e
      (rw m at (all_holds (λ (c : ℕ). column_ok_with (lent text) (get_or t c 0) (null_marked nulls c) (value_at row c)) c (length t) l
      (fault_free h).1))

-- ---- Comparisons of keys, whatever values have them.
module _ (text : List ℕ) where
  compare3-any : (c : Comparison) (x y : Option ℤ) → compare3 (key_in text) ord_z truth_keys c x y ≡ comparing c x y
  compare3-any c none y = refl
  compare3-any c (some a) none = refl
  compare3-any c (some a) (some b) = refl

  same-any : (x y : Option ℤ) → same_value (key_in text) ord_z truth_keys x y ≡ same x y
  same-any none none = refl
  same-any none (some b) = refl
  same-any (some a) none = refl
  same-any (some a) (some b) = refl

  mem-held : (k : ℤ) (l : List ℕ) → mem (key_in text) ord_z k (map (held 4) l) ≡ mem (symbol_key text) ord_z k l
  mem-held k [] = refl
  mem-held k (v ∷ l) = ap (λ b. is_equal (ord_z.cmp k (symbol_key text v)) || b) (mem-held k l)

  empty-held : (l : List ℕ) → is_empty (map (held 4) l) ≡ is_empty l
  empty-held [] = refl
  empty-held (v ∷ l) = refl

  in3-held : (e h : Bool) (l : List ℕ) (x : Option ℤ) →
      in3 (key_in text) ord_z e h (map (held 4) l) x ≡ in3 (symbol_key text) ord_z e h l x
  in3-held e h l none =
      in3-null (key_in text) ord_z e h (map (held 4) l) ∙ ap (null_in3 e h) (empty-held l)
      ∙ sym (in3-null (symbol_key text) ord_z e h l)
  in3-held e h l (some k) =
      in3-known (key_in text) ord_z e h (map (held 4) l) k ∙ ap (known_in3 e h) (mem-held k l)
      ∙ sym (in3-known (symbol_key text) ord_z e h l k)

  abbrev truthful : Truth → Cell ℤ Held
  truthful s = truth_cell (key_in text) ord_z truth_keys s

  module _ (row : ℕ → Option ℤ) (C : ℕ → Cell ℤ Held) (a b : ℕ) where
    abbrev step_of : AExpr Held → Cell ℤ Held
    step_of r = step (key_in text) ord_z truth_keys row C r

    abbrev Compares : ℕ → Type 0
    Compares k = is_comparison (operator_at k) ≡ true →
        step_of (map_aexpr (held 0) (binary_expr (operator_at k) a b)) ≡ truthful (compared_of k (C a).value (C b).value)

    by_order : (k : ℕ) (c : Comparison) → truthful (compare3 (key_in text) ord_z truth_keys c (C a).value (C b).value) ≡
        truthful (comparing c (C a).value (C b).value)
    by_order k c = λ i. truthful (compare3-any c (C a).value (C b).value i)

    compared-cell : (code : ℕ) → code < 20 → Compares code
    unfolding operator_at compared_of comparison_at
    compared-cell code h =
        each_at Compares 20 code (
          (
            (
              (
                (
                  (
                    (
                      (
                        (
                          (
                            (
                              (
                                (
                                  (
                                    (
                                      (
                                        (
                                          (
                                            ((tt, λ e. by_order 0 Eq), λ e i. truthful (of_bool (same-any (C a).value (C b).value i))),
                                            λ e. by_order 2 NotEq,
                                          ),
                                          λ e i. truthful (of_bool (not (same-any (C a).value (C b).value i))),
                                        ),
                                        λ e. by_order 4 Lt,
                                      ),
                                      λ e. by_order 5 LtEq,
                                    ),
                                    λ e. by_order 6 Gt,
                                  ),
                                  λ e. by_order 7 GtEq,
                                ),
                                λ e. no e,
                              ),
                              λ e. no e,
                            ),
                            λ e. no e,
                          ),
                          λ e. no e,
                        ),
                        λ e. no e,
                      ),
                      λ e. no e,
                    ),
                    λ e. no e,
                  ),
                  λ e. no e,
                ),
                λ e. no e,
              ),
              λ e. no e,
            ),
            λ e. no e,
          ),
          λ e. no e,
        ) h
      where
        no : {A : Type 0} → false ≡ true → A
        no e = absurd (true≢false (sym e))

low-is : (code : ℕ) → low_comparison (closes_low (closed_at code)) ≡ comparison_at (low_code code)
unfolding closed_at low_code comparison_at
low-is zero = refl
low-is (suc zero) = refl
low-is (suc (suc zero)) = refl
low-is (suc (suc (suc k))) =
    rw (
      lt-leb (suc (suc (suc k))) 1 (omega arith),
      ne_eqb (suc (suc (suc k))) 0 (λ e. omega (arith, e)),
      ne_eqb (suc (suc (suc k))) 1 (λ e. omega (arith, e)),
      ne_eqb (suc (suc (suc k))) 2 (λ e. omega (arith, e)),
    )

high_is : (code : ℕ) → high_comparison (closes_high (closed_at code)) ≡ comparison_at (high_code code)
unfolding closed_at high_code comparison_at
high_is zero = refl
high_is (suc zero) = refl
high_is (suc (suc zero)) = refl
high_is (suc (suc (suc k))) =
    rw (
      ne_eqb (suc (suc (suc k))) 0 (λ e. omega (arith, e)),
      ne_eqb (suc (suc (suc k))) 1 (λ e. omega (arith, e)),
      ne_eqb (suc (suc (suc k))) 2 (λ e. omega (arith, e)),
    )

-- ---- Of fields.
third : (a b c d : Bool) → (a && (b && (c && d))) ≡ true → c ≡ true
third true true c d e = and_left c d e
third true false c d e = absurd (true≢false (sym e))
third false b c d e = absurd (true≢false (sym e))

module _ (lent_text : ℕ) (f : Fields) (sh : shape_ok_in lent_text f ≡ true) where
  pub binary-code : f.kind ≡ 4 → f.code < 20
  unfolding shape_ok_in known_ok_in max_code
  binary-code k =
      let c = third (leb 1 f.kind) (leb f.kind 10) (leb f.code (max_code f.kind)) _
      (and_left (known_ok_in lent_text f) (unused_ok f && literal_ok_in lent_text f) sh) in
      let h : f.code ≤ 19 = leb-true f.code 19 (rw k at c) in omega (arith, h)

  literal-in : f.kind ≡ 2 → in_type_in lent_text f.ty (f.b + 4294967296 * f.c) ≡ true
  unfolding shape_ok_in literal_ok_in
  literal-in k =
      rw k at (and_right (unused_ok f) (literal_ok_in lent_text f)
      (and_right (known_ok_in lent_text f) (unused_ok f && literal_ok_in lent_text f) sh))

module _ (f : Fields) where
  decode-column : f.kind ≡ 1 → decode f ≡ kind.Column (column_number f.a)
  unfolding decode
  decode-column k = rw k

  decode-list : f.kind ≡ 9 → decode f ≡ kind.List f.ty (eqb f.code 1) f.a f.b
  unfolding decode
  decode-list k = rw k

  -- a list of symbols
  member-list : (1 ≤ f.kind) × (f.kind ≤ 10) → member_fits 4 (decode f) ≡ true → (f.kind ≡ 9) × (f.ty ≡ 4)
  unfolding member_fits
  member-list l =
      decode-ind (λ r. member_fits 4 r ≡ true → (f.kind ≡ 9) × (f.ty ≡ 4)) f l (λ k e. no e) (λ k e. no e) (λ k e. no e)
      (λ k e. no e) (λ k e. no e) (λ k e. no e) (λ k e. no e) (λ k e. no e) (λ k e. (k, sym (same-types 4 f.ty e).1))
      (λ k e. no e)
    where
      no : false ≡ true → (f.kind ≡ 9) × (f.ty ≡ 4)
      no e = absurd (true≢false (sym e))

-- ---- A checked screen and a row without a fault.
module _ (text t rs p row : List ℕ) (nulls used root : ℕ) (ok : CheckedIn (lent text) t rs p used root)
    (fault : row_fault_with text t row nulls ≡ 0) where
  abbrev F : ℕ → Fields
  F x = fields_at rs (node x)

  abbrev row_keyed : ℕ → Option ℤ
  row_keyed c = row_keys_with text t row nulls c

  abbrev pub cells : ℕ → Cell ℤ Held
  cells n = cell_at (key_in text) ord_z truth_keys (held_at rs p used) row_keyed n

  abbrev stepped : Record → Cell ℤ Held
  stepped r = step (key_in text) ord_z truth_keys row_keyed cells (held_aexpr p r)

  pub used-is : (x : ℕ) → x < used → held_at rs p used x ≡ held_aexpr p (decode (F x))
  unfolding held_at record_at
  used-is x h = rw (lt-ltb x used h)

  pub cell_is : (x : ℕ) → x < used → cells x ≡ stepped (decode (F x))
  cell_is x h =
      cell_law (key_in text) ord_z truth_keys (held_at rs p used) row_keyed x (held-falls (lent text) t rs p used root ok x)
      ∙ ap (step (key_in text) ord_z truth_keys row_keyed cells) (used-is x h)

  bounds : (x : ℕ) → x < used → (1 ≤ (F x).kind) × ((F x).kind ≤ 10)
  bounds x h = shape-kind (lent text) (F x) (ok.records x h).shape

  reached : (x : ℕ) → x < used → reach_ok_in (lent text) t p (decode (F x)) (node x) ≡ true
  unfolding record_at
  reached x h = (ok.records x h).reach

  typed : (x : ℕ) → type_at t rs (node x) ≡ 4 → type_of t (decode (F x)) ≡ 4
  unfolding type_at record_at
  typed x e = e

  there : (x : ℕ) → x < used → 16 * x + 15 < length rs
  there x h = let r : 16 * used ≤ length rs = checked-lent_in (lent text) t rs p used root ok in omega (arith, r, h)

  narrow : length t ≤ 64
  unfolding table_ok_in
  narrow = leb-true (length t) 64 (and_left (leb (length t) 64) (types_known_in (lent text) t) ok.table)

  pub in_table : (x : ℕ) → x < used → (F x).kind ≡ 1 → (F x).a < length t
  unfolding reach_ok_in
  in_table x h k =
      ltb-true (F x).a (length t)
      (subst (λ r. reach_ok_in (lent text) t p r (node x) ≡ true) (decode-column (F x) k) (reached x h))

  pub column-there : (x : ℕ) → x < used → (F x).kind ≡ 1 → ColumnThere row (F x).a
  column-there x h k =
      let l = in_table x h k in
      let e = row-long text t row nulls fault in
      let m = narrow in
      (omega (arith, l, m), omega (arith, l, e))

  -- ---- Leaves.
  keyed-leaf : (f : Fields) → (1 ≤ f.kind) × (f.kind ≤ 10) → type_of t (decode f) ≡ 4 →
      (stepped (decode f)).value ≡ symbolic text (leaf_bits row nulls f)
  unfolding type_of leaf_bits row_keys_with
  keyed-leaf f l =
      decode-ind (λ r. type_of t r ≡ 4 → (stepped r).value ≡ symbolic text (leaf_bits row nulls f)) f l
      (λ k e. rw (k, e) (go (null_marked nulls f.a))) (λ k e. rw (k, e)) (λ k e. rw k)
      (λ k e. absurd (true≢false (sym (ap (λ s. eqb s 4) e) ∙ binary-type (operator_at f.code))))
      (λ k e. absurd (omega (arith, e))) (λ k e. absurd (omega (arith, e))) (λ k e. absurd (omega (arith, e)))
      (λ k e. absurd (omega (arith, e))) (λ k e. absurd (omega (arith, e))) (λ k e. absurd (omega (arith, e)))
    where
      go : (b : Bool) → cond b none (some (symbol_key text (value_at row f.a))) ≡
          symbolic text (cond b none (some (value_at row f.a)))
      go true = refl
      go false = refl

  pub leaf-key : (x : ℕ) → x < used → type_at t rs (node x) ≡ 4 → (cells x).value ≡ input_key text rs row nulls x
  leaf-key x h e = ap (λ c. c.value) (cell_is x h) ∙ keyed-leaf (F x) (bounds x h) (typed x e)

  pooled-leaf : (x : ℕ) → x < used → type_of t (decode (F x)) ≡ 4 → PooledValue (length text) (leaf_bits row nulls (F x))
  unfolding type_of leaf_bits
  pooled-leaf x h =
      decode-ind (λ r. type_of t r ≡ 4 → PooledValue (length text) (leaf_bits row nulls (F x))) (F x) (bounds x h)
      (λ k e. rw k (go (in_table x h k) e (null_marked nulls (F x).a) refl))
      (λ k e. rw k (text_in (length text) (F x).ty _ e (literal-in (lent text) (F x) (ok.records x h).shape k)))
      (λ k e. rw k tt) (λ k e. rw k tt) (λ k e. rw k tt) (λ k e. rw k tt) (λ k e. rw k tt) (λ k e. rw k tt) (λ k e. rw k tt)
      (λ k e. rw k tt)
    where
      go : (F x).a < length t → get_or t (F x).a 0 ≡ 4 → (b : Bool) → null_marked nulls (F x).a ≡ b →
          PooledValue (length text) (cond b none (some (value_at row (F x).a)))
      go l e true m = tt
      go l e false m = column-pooled text t row nulls fault (F x).a l e m

  pub leaf-fit : (x : ℕ) → x < used → type_at t rs (node x) ≡ 4 → SymbolLeaf text rs row nulls x
  leaf-fit x h e =
      record { there = there x h; column = column-there x h; pooled = pooled-leaf x h (typed x e) }

  -- ---- Lists.
  listed : (x : ℕ) → x < used → (F x).kind ≡ 9 → list_ok_in (lent text) p (F x).ty (F x).a (F x).b ≡ true
  unfolding reach_ok_in
  listed x h k =
      subst (λ r. reach_ok_in (lent text) t p r (node x) ≡ true) (decode-list (F x) k) (reached x h)

  pub list_inside : (x : ℕ) → x < used → (F x).kind ≡ 9 → 8 * ((F x).a + (F x).b) ≤ length p
  unfolding list_ok_in
  list_inside x h k =
      let l : (F x).a + (F x).b ≤ length p / 8 =
      leb-true ((F x).a + (F x).b) (length p / 8) (and_left (leb ((F x).a + (F x).b) (length p / 8)) _ (listed x h k)) in
      omega (arith, l)

  listed-as : (x : ℕ) → x < used → member_fits 4 (record_at rs (node x)) ≡ true → ((F x).kind ≡ 9) × ((F x).ty ≡ 4)
  unfolding record_at
  listed-as x h e = member-list (F x) (bounds x h) e

  pub list-fit : (x : ℕ) → x < used → member_fits 4 (record_at rs (node x)) ≡ true → SymbolList text rs p x
  unfolding list_ok_in all_fit_in
  list-fit x h e =
      let q = listed-as x h e in
      record {
        there = there x h;
        inside = list_inside x h q.0;
        pooled =
            λ k l. text_in (length text) (F x).ty _ q.1
            (all_holds (λ (k : ℕ). in_type_in (lent text) (F x).ty (value_at p ((F x).a + k))) k (F x).b l
            (and_right (leb ((F x).a + (F x).b) (length p / 8)) _ (listed x h q.0)));
      }

  list-cell : (x : ℕ) → x < used → member_fits 4 (record_at rs (node x)) ≡ true → (e : Bool) (y : Option ℤ) →
      in3 (key_in text) ord_z e (cells x).holds_null (cells x).values y ≡ symbol_member text p (F x) e y
  unfolding symbol_member
  list-cell x h m e y =
      let q = listed-as x h m in
      rw (cell_is x h, decode-list (F x) q.0, q.1)
      (in3-held text e (eqb (F x).code 1) (values_from p (F x).a (F x).b) y)

  -- ---- Records with Text inputs.
  module _ (n : ℕ) (h : n < used) where
    below : (x : ℕ) → x < n → x < used
    below x l = omega (arith, l, h)

    pub symbol-test : reach_ok_in (lent text) t p (decode (F n)) (node n) ≡ true → Texts (lent text) t rs p used root ok (decode (F n)) →
        SymbolTest text rs p row nulls (F n)
    unfolding reach_ok_in
    symbol-test =
        decode-ind (λ r. reach_ok_in (lent text) t p r (node n) ≡ true → Texts (lent text) t rs p used root ok r →
        SymbolTest text rs p row nulls (F n)) (F n) (bounds n h) (λ k re x. absurd x) (λ k re x. absurd x) (λ k re x. absurd x)
        (λ k re x. let b = two n (F n).a (F n).b re in
        record {
          value = leaf-fit (F n).a (below _ b.0) x.1;
          right = λ q. leaf-fit (F n).b (below _ b.1) x.2;
          low = λ q. absurd (omega (arith, k, q));
          high = λ q. absurd (omega (arith, k, q));
          list = λ q. absurd (omega (arith, k, q));
        })
        (λ k re x. absurd x) (λ k re x. tested k (omega arith) (one n (F n).a re) x)
        (λ k re x. tested k (omega arith) (one n (F n).a re) x)
        (λ k re x. let b = three n (F n).a (F n).b (F n).c re in
        record {
          value = leaf-fit (F n).a (below _ b.0) x.0;
          right = λ q. absurd (omega (arith, k, q));
          low = λ q. leaf-fit (F n).b (below _ b.1) x.1;
          high = λ q. leaf-fit (F n).c (below _ b.2) x.2;
          list = λ q. absurd (omega (arith, k, q));
        })
        (λ k re x. absurd x)
        (λ k re x. let b = two n (F n).a (F n).b re in
        record {
          value = leaf-fit (F n).a (below _ b.0) x.0;
          right = λ q. absurd (omega (arith, k, q));
          low = λ q. absurd (omega (arith, k, q));
          high = λ q. absurd (omega (arith, k, q));
          list = λ q. list-fit (F n).b (below _ b.1) x.1;
        })
      where
        -- is_null and is_not_null
        tested : {m : ℕ} → (F n).kind ≡ m → (6 ≤ m) × (m ≤ 7) → (F n).a < n → type_at t rs (node (F n).a) ≡ 4 →
            SymbolTest text rs p row nulls (F n)
        tested k u b x =
            record {
              value = leaf-fit (F n).a (below _ b) x;
              right = λ q. absurd (omega (arith, k, q, u));
              low = λ q. absurd (omega (arith, k, q, u));
              high = λ q. absurd (omega (arith, k, q, u));
              list = λ q. absurd (omega (arith, k, q, u));
            }

    symbol-step : reach_ok_in (lent text) t p (decode (F n)) (node n) ≡ true → Texts (lent text) t rs p used root ok (decode (F n)) →
        stepped (decode (F n)) ≡ truthful text (symbol_truth text rs p row nulls (F n))
    unfolding reach_ok_in symbol_truth between_of
    symbol-step =
        decode-ind (λ r. reach_ok_in (lent text) t p r (node n) ≡ true → Texts (lent text) t rs p used root ok r →
        stepped r ≡ truthful text (symbol_truth text rs p row nulls (F n))) (F n) (bounds n h) (λ k re x. absurd x)
        (λ k re x. absurd x) (λ k re x. absurd x)
        (λ k re x. let b = two n (F n).a (F n).b re in
        rw k (compared-cell text row_keyed cells (F n).a (F n).b (F n).code
        (binary-code (lent text) (F n) (ok.records n h).shape k) x.0
        ∙ (λ i. truthful text (compared_of (F n).code (leaf-key (F n).a (below _ b.0) x.1 i)
        (leaf-key (F n).b (below _ b.1) x.2 i)))))
        (λ k re x. absurd x)
        (λ k re x. rw k (λ i. truthful text (of_bool (is_null (leaf-key (F n).a (below _ (one n (F n).a re)) x i)))))
        (λ k re x. rw k (λ i. truthful text (of_bool (not (is_null (leaf-key (F n).a (below _ (one n (F n).a re)) x i))))))
        (λ k re x. let b = three n (F n).a (F n).b (F n).c re in
        rw k (λ i. truthful text (and3
        (end (low-is (F n).code) (leaf-key (F n).a (below _ b.0) x.0) (leaf-key (F n).b (below _ b.1) x.1) i)
        (end (high_is (F n).code) (leaf-key (F n).a (below _ b.0) x.0) (leaf-key (F n).c (below _ b.2) x.2) i))))
        (λ k re x. absurd x)
        (λ k re x. let b = two n (F n).a (F n).b re in
        rw k (λ i. truthful text ((list-cell (F n).b (below _ b.1) x.1 (eqb (F n).code 1) (cells (F n).a).value
        ∙ ap (symbol_member text p (F (F n).b) (eqb (F n).code 1)) (leaf-key (F n).a (below _ b.0) x.0)) i)))
      where
        end : {c d : Comparison} {x y u v : Option ℤ} → c ≡ d → x ≡ u → y ≡ v →
            compare3 (key_in text) ord_z truth_keys c x y ≡ comparing d u v
        end {c} {d} {x} {y} {u} {v} ec ex ey =
            (λ i. compare3 (key_in text) ord_z truth_keys (ec i) (ex i) (ey i)) ∙ compare3-any text d u v

  takes : (n : ℕ) → (h : n < used) → takes_symbols t rs (F n) ≡ true → Texts (lent text) t rs p used root ok (decode (F n))
  unfolding record_at
  takes n h e =
      texts (lent text) t rs p used root ok n h (decode (F n)) (ok.records n h).reach (ok.records n h).types
      (sym (takes_is t rs (F n) (bounds n h)) ∙ e)

  pub symbol-tested : (n : ℕ) → n < used → takes_symbols t rs (F n) ≡ true → SymbolTest text rs p row nulls (F n)
  symbol-tested n h e = symbol-test n h (reached n h) (takes n h e)

  pub symbol-cell : (n : ℕ) → n < used → takes_symbols t rs (F n) ≡ true →
      cells n ≡ truthful text (symbol_truth text rs p row nulls (F n))
  symbol-cell n h e = cell_is n h ∙ symbol-step n h (reached n h) (takes n h e)

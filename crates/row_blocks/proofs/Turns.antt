-- One law a kind of record: what is told of its inputs in a block tells its truth there. The row test's laws, row by row.
-- Assumes nothing.
use Rattle.std.proofs.Common.{◌≡◌, ℕ, ◌+◌, ◌*◌, ◌<◌, ◌≤◌, Bool, true, false, cond, ◌&&◌, ◌||◌, eqb, ltb, leb, ◌⊎◌, List, length, get_or, ℤ, sym, refl, ◌∙◌, inl, inr, ⊎_elim, true≢false, arith, ltb-true, eq-eqb, ne_eqb, eqb-true, leb-true}
use mathlib.Core.Option.{Option}
use borrow.Author.Tests.{eqb-false}
use Rattle.records.specs.Record.{fields_at, node}
use Rattle.records.specs.declared.record.Fields.{Fields}
use Rattle.records.specs.declared.record.Node.{Node}
use Rattle.records.proofs.Laws.{by-test, and_left, and_right}
use Rattle.three_valued.specs.declared.logic.Truth.{Truth}
use Rattle.three_valued.specs.Logic.{not3, of_bool}
use Rattle.truth.specs.Evaluate.{compared_of, connected_of, between_of, member_of, null_test, Evaluable}
use Rattle.row_test.proofs.Evaluation.{evaluable-below, list-room, member-truth, binary-below, not-below, null_below}
use Rattle.row_test.proofs.Evaluation.{not-null_below, between-below, in_below, compared-truth, connected_truth, not-truth}
use Rattle.row_test.proofs.Evaluation.{null_truth, not-null_truth, between-truth}
use Rattle.truth.proofs.Negations.{not-of}
use Rattle.masks.specs.declared.Masks.{Masks}
use Rattle.masks.specs.Masks.{Tells}
use Rattle.masks.specs.Block.{chain_row, chain_truth, chain_worth, Ready, is_kept, Input, is_input, Turn}
use Rattle.masks.proofs.Comparing.{tells-same}

-- the kinds that are kept
pub kept-binary : (f : Fields) → f.kind ≡ 4 → is_kept f ≡ true → (f.code < 8) ⊎ (15 ≤ f.code)
unfolding is_kept
kept-binary f k e =
    let q : (ltb f.code 8 || leb 15 f.code) ≡ true = rw (eq-eqb f.kind 4 k) at e in
    by-test (ltb f.code 8) (λ y. inl (ltb-true f.code 8 y)) (λ y. inr (leb-true 15 f.code (rw y at q)))

pub kept-logic : (f : Fields) → f.kind ≡ 4 → is_kept f ≡ true → 8 ≤ f.code → 15 ≤ f.code
kept-logic f k e h = ⊎_elim (λ (l : f.code < 8). absurd (omega (arith, l, h))) (λ (l : 15 ≤ f.code). l) (kept-binary f k e)

pub kept-other : (f : Fields) → (f.kind ≡ 4 → ⊥) → is_kept f ≡ true → (3 < f.kind) × (f.kind < 11) × (f.kind ≡ 9 → ⊥)
unfolding is_kept
kept-other f k e =
    let q : cond (eqb f.kind 9) false (ltb 3 f.kind && ltb f.kind 11) ≡ true = rw (ne_eqb f.kind 4 k) at e in
    by-test (eqb f.kind 9) (λ y. absurd (true≢false (sym (rw y at q)))) (λ y.
    let z : (ltb 3 f.kind && ltb f.kind 11) ≡ true = rw y at q in (
      ltb-true 3 f.kind (and_left (ltb 3 f.kind) (ltb f.kind 11) z),
      ltb-true f.kind 11 (and_right (ltb 3 f.kind) (ltb f.kind 11) z),
      λ k9. true≢false (sym (sym y ∙ eq-eqb f.kind 9 k9)),
    ))

-- a test that is not 6, 7, 8 is is_in
pub kept-tests : (f : Fields) → is_kept f ≡ true → 5 < f.kind → 8 ≤ f.kind → (f.kind ≡ 8 → ⊥) → f.kind ≡ 10
kept-tests f e h l d8 =
    let o = kept-other f (λ k. omega (arith, k, h)) e in
    let b = o.1 in let d9 = o.2 in omega (arith, h, l, d8, b, d9)

pub kept_above : (f : Fields) → is_kept f ≡ true → (f.kind ≡ 4 → ⊥) → (f.kind ≡ 5 → ⊥) → 5 < f.kind
kept_above f e d4 d5 = let a = (kept-other f d4 e).0 in omega (arith, a, d4, d5)

-- ---- inputs
pub input_a : (f : Fields) → is_input f f.a ≡ true
unfolding is_input
input_a f = rw (eq-eqb f.a f.a refl)

or_true : (b : Bool) → (b || true) ≡ true
or_true true = refl
or_true false = refl

pub input_b : (f : Fields) → is_input f f.b ≡ true
unfolding is_input
input_b f = rw (eq-eqb f.b f.b refl) (or_true (eqb f.b f.a))

pub input_c : (f : Fields) → is_input f f.c ≡ true
unfolding is_input
input_c f =
    rw (eq-eqb f.c f.c refl, or_true (eqb f.c f.b)) (or_true (eqb f.c f.a))

module _ (rs p : List ℕ) (columns : ℕ) (values nulls : List ℕ) (base rows : ℕ) where
  abbrev truth_of : ℕ → ℕ → Truth
  truth_of n i = chain_truth rs p columns values nulls n (base + i)

  abbrev worth_of : ℕ → ℕ → Option ℤ
  worth_of n i = chain_worth rs p columns values nulls n (base + i)

  abbrev row_of : ℕ → List ℕ
  row_of i = chain_row columns values (base + i)

  abbrev marks_of : ℕ → ℕ
  marks_of i = get_or nulls (base + i) 0

  pub ready-below : (n m : ℕ) → m < n → Ready rs p columns values nulls base rows n → Ready rs p columns values nulls base rows m
  ready-below n m h ok =
      record {
        some = ok.some;
        few = ok.few;
        narrow = ok.narrow;
        within = ok.within;
        short = ok.short;
        long = ok.long;
        evaluable = λ r k. evaluable-below m h (ok.evaluable r k);
      }

  pub row-evaluable : (n i : ℕ) → Ready rs p columns values nulls base rows n → i < rows → Evaluable rs p (row_of i) n
  row-evaluable n i ok h = let w = ok.within in ok.evaluable (base + i) (omega (arith, w, h))

  pub first-row : (n : ℕ) → Ready rs p columns values nulls base rows n → Evaluable rs p (row_of 0) n
  first-row n ok = row-evaluable n 0 ok ok.some

  -- ---- a record in its turn
  module _ (truths unknowns : List ℕ) (n : Node) (f : Fields)
      (turn : Turn rs p columns values nulls base rows truths unknowns n f) where
    pub turn_input : (m : ℕ) → m < n.0 → is_input f m ≡ true → Input rs p columns values nulls base rows truths unknowns m
    turn_input m h e =
        let t = turn.truths-room in
        let u = turn.unknowns_room in
        record {
          ready = ready-below n.0 m h turn.ready;
          held = turn.fed m h e;
          truths-room = omega (arith, t, h);
          unknowns_room = omega (arith, u, h);
        }

    abbrev ok : Evaluable rs p (row_of 0) n.0
    ok = first-row n.0 turn.ready

    abbrev ok_at : (i : ℕ) → i < rows → Evaluable rs p (row_of i) n.0
    ok_at i h = row-evaluable n.0 i turn.ready h

    pub binary-a : f.kind ≡ 4 → Input rs p columns values nulls base rows truths unknowns f.a
    binary-a k = turn_input f.a (binary-below rs p (row_of 0) 0 n f ok turn.fields k).0 (input_a f)

    pub binary-b : f.kind ≡ 4 → Input rs p columns values nulls base rows truths unknowns f.b
    binary-b k = turn_input f.b (binary-below rs p (row_of 0) 0 n f ok turn.fields k).1 (input_b f)

    pub not_a : f.kind ≡ 5 → Input rs p columns values nulls base rows truths unknowns f.a
    not_a k = turn_input f.a (not-below rs p (row_of 0) 0 n f ok turn.fields k) (input_a f)

    pub null_a : 5 < f.kind → f.kind < 8 → Input rs p columns values nulls base rows truths unknowns f.a
    null_a h l =
        by-test (eqb f.kind 6)
        (λ e. turn_input f.a (null_below rs p (row_of 0) 0 n f ok turn.fields (eqb_is 6 e)) (input_a f))
        (λ e.
        let d = eqb-not 6 e in
        turn_input f.a (not-null_below rs p (row_of 0) 0 n f ok turn.fields (omega (arith, d, h, l))) (input_a f))
      where
        eqb_is : (m : ℕ) → eqb f.kind m ≡ true → f.kind ≡ m
        eqb_is m e = eqb-true f.kind m e

        eqb-not : (m : ℕ) → eqb f.kind m ≡ false → f.kind ≡ m → ⊥
        eqb-not m e = eqb-false f.kind m e

    pub between-a : f.kind ≡ 8 → Input rs p columns values nulls base rows truths unknowns f.a
    between-a k = turn_input f.a (between-below rs p (row_of 0) 0 n f ok turn.fields k).0 (input_a f)

    pub between-b : f.kind ≡ 8 → Input rs p columns values nulls base rows truths unknowns f.b
    between-b k = turn_input f.b (between-below rs p (row_of 0) 0 n f ok turn.fields k).1 (input_b f)

    pub between-c : f.kind ≡ 8 → Input rs p columns values nulls base rows truths unknowns f.c
    between-c k = turn_input f.c (between-below rs p (row_of 0) 0 n f ok turn.fields k).2 (input_c f)

    pub in_a : f.kind ≡ 10 → Input rs p columns values nulls base rows truths unknowns f.a
    in_a k = turn_input f.a (in_below rs p (row_of 0) 0 n f ok turn.fields k).0 (input_a f)

    -- the list that is_in names is there, and lies in the pool
    pub list-there : f.kind ≡ 10 → 16 * f.b + 15 < length rs
    list-there k =
        let b = (in_below rs p (row_of 0) 0 n f ok turn.fields k).1 in let r = ok.room in omega (arith, b, r)

    pub list-within : f.kind ≡ 10 → (g : Fields) → g ≡ fields_at rs (node f.b) → 8 * (g.a + g.b) ≤ length p
    list-within k g e = list-room rs p (row_of 0) 0 n f ok turn.fields k g e

    -- ---- the kinds
    pub compare-kind : f.kind ≡ 4 → f.code < 8 → (r : Masks)
        → Tells rows r (λ i. compared_of f.code (worth_of f.a i) (worth_of f.b i)) → Tells rows r (truth_of n.0)
    unfolding chain_truth chain_worth
    compare-kind k h r t =
        tells-same rows r _ _
        (λ i l. compared-truth rs p (row_of i) (marks_of i) n f (ok_at i l) turn.fields k h _ _ _ refl refl refl) t

    pub connect_kind : f.kind ≡ 4 → 8 ≤ f.code → (r : Masks)
        → Tells rows r (λ i. connected_of f.code (truth_of f.a i) (truth_of f.b i)) → Tells rows r (truth_of n.0)
    unfolding chain_truth
    connect_kind k h r t =
        tells-same rows r _ _
        (λ i l. connected_truth rs p (row_of i) (marks_of i) n f (ok_at i l) turn.fields k (kept-logic f k turn.kept h) _ _ _
        refl refl refl) t

    pub not-kind : f.kind ≡ 5 → (r : Masks) → Tells rows r (λ i. not3 (truth_of f.a i)) → Tells rows r (truth_of n.0)
    unfolding chain_truth
    not-kind k r t =
        tells-same rows r _ _
        (λ i l. not-truth rs p (row_of i) (marks_of i) n f (ok_at i l) turn.fields k _ _ refl refl) t

    pub null_kind : f.kind ≡ 6 → (r : Masks) → Tells rows r (λ i. of_bool (null_test (worth_of f.a i)))
        → Tells rows r (truth_of n.0)
    unfolding chain_truth chain_worth
    null_kind k r t =
        tells-same rows r _ _
        (λ i l. null_truth rs p (row_of i) (marks_of i) n f (ok_at i l) turn.fields k _ _ _ refl refl refl) t

    pub not-null_kind : 5 < f.kind → f.kind < 8 → (f.kind ≡ 6 → ⊥) → (r : Masks)
        → Tells rows r (λ i. not3 (of_bool (null_test (worth_of f.a i)))) → Tells rows r (truth_of n.0)
    unfolding chain_truth chain_worth
    not-null_kind h g d r t =
        tells-same rows r _ _
        (λ i l. not-null_truth rs p (row_of i) (marks_of i) n f (ok_at i l) turn.fields (omega (arith, h, g, d)) _ _ _ refl refl
        (sym (not-of (null_test (worth_of f.a i))))) t

    pub between-kind : f.kind ≡ 8 → (r : Masks)
        → Tells rows r (λ i. between_of f.code (worth_of f.a i) (worth_of f.b i) (worth_of f.c i))
        → Tells rows r (truth_of n.0)
    unfolding chain_truth chain_worth
    between-kind k r t =
        tells-same rows r _ _
        (λ i l. between-truth rs p (row_of i) (marks_of i) n f (ok_at i l) turn.fields k _ _ _ _ refl refl refl refl) t

    pub member-kind : f.kind ≡ 10 → (g : Fields) → g ≡ fields_at rs (node f.b) → (r : Masks)
        → Tells rows r (λ i. member_of p g (eqb f.code 1) (worth_of f.a i)) → Tells rows r (truth_of n.0)
    unfolding chain_truth chain_worth
    member-kind k g eg r t =
        tells-same rows r _ _
        (λ i l. member-truth rs p (row_of i) (marks_of i) n f (ok_at i l) turn.fields k g eg _ _ refl refl) t

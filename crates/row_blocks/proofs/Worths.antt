-- The value of a record in a block, by what was read of it; where its truth is kept, its value is its truth.
-- Assumes nothing.
use Rattle.std.proofs.Common.{◌≡◌, ℕ, zero, suc, ◌+◌, ◌*◌, ◌^◌, ◌<◌, ◌≤◌, Bool, true, false, cond, ◌&&◌, ◌||◌, eqb, ltb, leb, List, [], ◌∷◌, length, get_or, take, drop, ℤ, sym, refl, ap, ◌∙◌, subst, ⊎_elim, true≢false, arith, ltb-false, lt-ltb, eq-eqb, ne_eqb, eqb-true, le-leb}
use mathlib.Core.Option.{Option, none, some}
use borrow.Author.Tests.{eqb-false}
use Rattle.records.specs.Record.{fields_at, node}
use Rattle.records.specs.declared.record.Fields.{Fields}
use Rattle.records.specs.declared.record.Node.{Node}
use Rattle.records.proofs.Laws.{by-test}
use Rattle.checking.specs.Columns.{bit}
use Rattle.checking.proofs.Bits.{bit-zero}
use Rattle.three_valued.specs.declared.logic.Truth.{Truth}
use Rattle.three_valued.specs.declared.logic.Truth.TheVariants.{False, Unknown, True}
use Rattle.truth.specs.Comparison.{Eq}
use Rattle.truth.specs.Halves.{key, bias_of}
use Rattle.three_valued.specs.Logic.{is_true}
use Rattle.truth.specs.FromBytes.{row_keys}
use Rattle.truth.specs.Evaluate.{leaf_of, of_truth, to_truth, comparing, between_of, Evaluable}
use Rattle.row_test.proofs.Evaluation.{fit_of, leaf-truth, leaf-is_value, truth-is_value, binary-is_value, divided-value, divided-truth}
use Rattle.truth.proofs.Keys.{lt-or_le}
use Rattle.masks.specs.declared.Masks.{Masks}
use Rattle.masks.specs.Masks.{is_unknown, Tells, KeyAt, is_null, is_key, Shown}
use Rattle.masks.specs.Block.{chain_row, chain_value, chain_truth, chain_worth, Ready, is_kept, masks_at, Held, Input}
use Rattle.masks.proofs.Comparing.{tells-same, truth-compared}
use Rattle.pool_lists.proofs.Members.{every-bit}
use Rattle.row_blocks.proofs.Turns.{kept-binary, kept-other, row-evaluable, first-row}

take_short : (m : ℕ) (l : List ℕ) → length (take m l) ≤ m
take_short zero l = omega arith
take_short (suc m) [] = omega arith
take_short (suc m) (x ∷ l) = let h = take_short m l in omega (arith, h)

-- what is not kept: a division, or a leaf, a list, or nothing
pub free_division : (f : Fields) → f.kind ≡ 4 → is_kept f ≡ false → (8 ≤ f.code) × (f.code < 15)
unfolding is_kept
free_division f k e =
    let q : (ltb f.code 8 || leb 15 f.code) ≡ false = rw (eq-eqb f.kind 4 k) at e in
    by-test (ltb f.code 8) (λ y. absurd (true≢false (rw y at q))) (λ y.
    let z : leb 15 f.code ≡ false = rw y at q in
    ⊎_elim (λ (l : f.code < 15). (ltb-false f.code 8 y, l))
    (λ (l : 15 ≤ f.code). absurd (true≢false (sym (le-leb 15 f.code l) ∙ z))) (lt-or_le f.code 15))

-- a kind that has no inputs
abbrev Leaf : Fields → Type 0
Leaf f =
    (f.kind ≡ 4 → ⊥) × (f.kind ≡ 5 → ⊥) × (f.kind ≡ 6 → ⊥) × (f.kind ≡ 7 → ⊥) × (f.kind ≡ 8 → ⊥) × (f.kind ≡ 10 → ⊥)

free_leaf : (f : Fields) → (f.kind ≡ 4 → ⊥) → is_kept f ≡ false → Leaf f
unfolding is_kept
free_leaf f d4 e = (
  d4,
  other 5 (omega arith) (omega arith) (λ z. omega (arith, z)),
  other 6 (omega arith) (omega arith)
      (λ z. omega (arith, z)),
  other 7 (omega arith) (omega arith) (λ z. omega (arith, z)),
  other 8 (omega arith) (omega arith)
      (λ z. omega (arith, z)),
  other 10 (omega arith) (omega arith) (λ z. omega (arith, z)),
)
  where
    q : cond (eqb f.kind 9) false (ltb 3 f.kind && ltb f.kind 11) ≡ false
    q = rw (ne_eqb f.kind 4 d4) at e

    other : (m : ℕ) → 3 < m → m < 11 → (m ≡ 9 → ⊥) → f.kind ≡ m → ⊥
    other m h l d9 k =
        true≢false (sym (rw (ne_eqb f.kind 9 (λ z. d9 (sym k ∙ z)), k, lt-ltb 3 m h, lt-ltb m 11 l)) ∙ q)

column-leaf : (columns : ℕ) (values nulls : List ℕ) (r : ℕ) (f : Fields) → f.kind ≡ 1
    → chain_value columns values nulls f.a r ≡ leaf_of (row_keys (chain_row columns values r) (get_or nulls r 0)) f
unfolding chain_value chain_row leaf_of
column-leaf columns values nulls r f k = rw (eq-eqb f.kind 1 k)

literal-leaf : (row : ℕ → Option ℤ) (f : Fields) → f.kind ≡ 2 → some (key (f.b + 4294967296 * f.c)) ≡ leaf_of row f
unfolding leaf_of
literal-leaf row f k = rw (ne_eqb f.kind 1 (λ z. omega (arith, z, k)), eq-eqb f.kind 2 k)

module _ (rs p : List ℕ) (columns : ℕ) (values nulls : List ℕ) (base : ℕ) (n : Node) (f : Fields) where
  divided-told : f.kind ≡ 4 → (8 ≤ f.code) × (f.code < 15) → (i : ℕ)
      → Evaluable rs p (chain_row columns values (base + i)) n.0 → f ≡ fields_at rs n
      → to_truth (chain_worth rs p columns values nulls n.0 (base + i)) ≡ chain_truth rs p columns values nulls n.0 (base + i)
  unfolding chain_worth chain_truth
  divided-told k c i ok e =
      ap to_truth (sym (divided-value rs p (chain_row columns values (base + i)) (get_or nulls (base + i) 0) n f ok e k c.0 c.1
      _ _ _ refl refl refl))
      ∙ divided-truth rs p (chain_row columns values (base + i)) (get_or nulls (base + i) 0) n f ok e k c.0 c.1 _ _ _ _ refl
      refl refl refl

  leaf-told_at : Leaf f → (i : ℕ) → Evaluable rs p (chain_row columns values (base + i)) n.0 → f ≡ fields_at rs n
      → to_truth (leaf_of (row_keys (chain_row columns values (base + i)) (get_or nulls (base + i) 0)) f)
      ≡ chain_truth rs p columns values nulls n.0 (base + i)
  unfolding chain_truth
  leaf-told_at d i ok e =
      leaf-truth rs p (chain_row columns values (base + i)) (get_or nulls (base + i) 0) n f ok e d.0 d.1 d.2 d.3 d.4
      d.5 _ _ refl refl

-- a truth as a key
truth-key : (t : Truth) (u : Bool) (k : ℕ) → u ≡ is_unknown t
    → k ≡ cond (is_true t) 9223372036854775809 9223372036854775808 → KeyAt u k (of_truth t)
unfolding bias_of
truth-key False u k eu ek = is_key 0 (omega arith) eu ek refl
truth-key Unknown u k eu ek = is_null eu refl
truth-key True u k eu ek = is_key 1 (omega arith) eu ek refl

module _ (rs p : List ℕ) (columns : ℕ) (values nulls : List ℕ) (base rows : ℕ) (n : Node) (f : Fields)
    (ok : Ready rs p columns values nulls base rows n.0) (e : f ≡ fields_at rs n) where
  abbrev row_of : ℕ → List ℕ
  row_of i = chain_row columns values (base + i)

  abbrev marks_of : ℕ → ℕ
  marks_of i = get_or nulls (base + i) 0

  abbrev truth_of : ℕ → Truth
  truth_of i = chain_truth rs p columns values nulls n.0 (base + i)

  abbrev worth_of : ℕ → Option ℤ
  worth_of i = chain_worth rs p columns values nulls n.0 (base + i)

  abbrev ok_at : (i : ℕ) → i < rows → Evaluable rs p (row_of i) n.0
  ok_at i h = row-evaluable rs p columns values nulls base rows n.0 i ok h

  pub record_there : 16 * n.0 + 15 < length rs
  record_there = let r = (first-row rs p columns values nulls base rows n.0 ok).room in omega (arith, r)

  pub column-there : f.kind ≡ 1 → f.a < columns
  unfolding chain_row
  column-there k =
      let c = ((fit_of rs p (row_of 0) 0 n f (first-row rs p columns values nulls base rows n.0 ok) e).column k).1 in
      let s = take_short (8 * columns) (drop (8 * columns * (base + 0)) values) in
      omega (arith, c, s)

  no_leaf : (i : ℕ) → (f.kind ≡ 1 → ⊥) → (f.kind ≡ 2 → ⊥) → leaf_of (row_keys (row_of i) (marks_of i)) f ≡ none
  unfolding leaf_of
  no_leaf i d1 d2 = rw (ne_eqb f.kind 1 d1, ne_eqb f.kind 2 d2)

  -- the value of a leaf
  leaf-worth : Leaf f → (i : ℕ) → i < rows → leaf_of (row_keys (row_of i) (marks_of i)) f ≡ worth_of i
  unfolding chain_worth
  leaf-worth d i h =
      ⊎_elim
      (λ (l : f.kind < 4). leaf-is_value rs p (row_of i) (marks_of i) n f (ok_at i h) e (omega (arith, l)) _ refl)
      (λ (l : 4 ≤ f.kind).
      let z = no_leaf i (λ z. omega (arith, l, z)) (λ z. omega (arith, l, z)) in
      let d4 = d.0 in
      z ∙ truth-is_value rs p (row_of i) (marks_of i) n f (ok_at i h) e (omega (arith, l, d4)) d.0 Unknown none
      (leaf-truth rs p (row_of i) (marks_of i) n f (ok_at i h) e d.0 d.1 d.2 d.3 d.4 d.5 none Unknown (sym z)
      refl) refl)
      (lt-or_le f.kind 4)

  small-leaf : f.kind ≤ 3 → Leaf f
  small-leaf l = (
    λ z. omega (arith, l, z),
    λ z. omega (arith, l, z),
    λ z. omega (arith, l, z),
    λ z. omega (arith, l, z),
    λ z. omega (arith, l, z),
    λ z. omega (arith, l, z),
  )

  pub column-worth : f.kind ≡ 1 → (i : ℕ) → i < rows → chain_value columns values nulls f.a (base + i) ≡ worth_of i
  column-worth k i h = is_column_lem ∙ leaf-worth (small-leaf (omega (arith, k))) i h
    where
      is_column_lem : chain_value columns values nulls f.a (base + i) ≡ leaf_of (row_keys (row_of i) (marks_of i)) f
      is_column_lem = column-leaf columns values nulls (base + i) f k

  pub literal-worth : f.kind ≡ 2 → (i : ℕ) → i < rows → some (key (f.b + 4294967296 * f.c)) ≡ worth_of i
  literal-worth k i h =
      literal-leaf (row_keys (row_of i) (marks_of i)) f k ∙ leaf-worth (small-leaf (omega (arith, k))) i h

  pub rest-worth : (f.kind ≡ 1 → ⊥) → (f.kind ≡ 2 → ⊥) → (f.kind ≡ 4 → ⊥) → is_kept f ≡ false → (i : ℕ) → i < rows
      → none ≡ worth_of i
  rest-worth d1 d2 d4 free i h = sym (no_leaf i d1 d2) ∙ leaf-worth (free_leaf f d4 free) i h

  -- a truth that is kept is the value
  pub kept-worth : is_kept f ≡ true → (i : ℕ) → i < rows → of_truth (truth_of i) ≡ worth_of i
  unfolding chain_worth chain_truth
  kept-worth kept i h =
      by-test (eqb f.kind 4)
      (λ y.
      let k = eqb-true f.kind 4 y in
      binary-is_value rs p (row_of i) (marks_of i) n f (ok_at i h) e k (kept-binary f k kept) _ _ refl refl)
      (λ y.
      let d = eqb-false f.kind 4 y in
      truth-is_value rs p (row_of i) (marks_of i) n f (ok_at i h) e (kept-other f d kept).0 d _ _ refl refl)

  -- a value that is not kept gives the truth
  free_truth : is_kept f ≡ false → (i : ℕ) → i < rows → to_truth (worth_of i) ≡ truth_of i
  free_truth free i h =
      by-test (eqb f.kind 4)
      (λ y. let k = eqb-true f.kind 4 y in division-truth k (free_division f k free) i h)
      (λ y.
      let l = free_leaf f (eqb-false f.kind 4 y) free in
      ap to_truth (sym (leaf-worth l i h)) ∙ leaf-told l i h)
    where
      division-truth : f.kind ≡ 4 → (8 ≤ f.code) × (f.code < 15) → (i : ℕ) → i < rows → to_truth (worth_of i) ≡ truth_of i
      division-truth k c i h = divided-told rs p columns values nulls base n f k c i (ok_at i h) e

      leaf-told : Leaf f → (i : ℕ) → i < rows → to_truth (leaf_of (row_keys (row_of i) (marks_of i)) f) ≡ truth_of i
      leaf-told d i h = leaf-told_at rs p columns values nulls base n f d i (ok_at i h) e

  -- ---- what the code has filled
  module _ (keys : List ℕ) (at : ℕ) where
    pub literal-shown : f.kind ≡ 2 → (o v w : ℕ) → v ≡ f.b + 4294967296 * f.c → v < 2 ^ 64 → w ≡ bias_of v
        → ((i : ℕ) → i < 64 → get_or keys (at + i) 0 ≡ cond (bit 0 i) o w) → Shown rows keys at 0 worth_of
    unfolding Shown
    literal-shown k o v w ev hv ew filled i h l =
        is_key v hv (bit-zero i) (filled i h ∙ rw (bit-zero i) ew)
        (sym (ap (λ z. some (key z)) ev ∙ literal-worth k i l))

    pub kept-shown : is_kept f ≡ true → (truths unknowns : List ℕ)
        → Held rs p columns values nulls base rows truths unknowns n.0
        → ((i : ℕ) → i < 64 → get_or keys (at + i) 0 ≡ cond (bit (get_or truths n.0 0) i) 9223372036854775809 9223372036854775808)
        → Shown rows keys at (get_or unknowns n.0 0) worth_of
    unfolding Shown Held Tells
    kept-shown kept truths unknowns held filled i h l =
        let q = held (subst (λ g. is_kept g ≡ true) e kept) i h l in
        subst (λ z. KeyAt (bit (get_or unknowns n.0 0) i) (get_or keys (at + i) 0) z) (kept-worth kept i l)
        (truth-key (truth_of i) (bit (get_or unknowns n.0 0) i) (get_or keys (at + i) 0) q.1
        (filled i h ∙ ap (λ b. cond b 9223372036854775809 9223372036854775808) q.0))

    pub rest-shown : (f.kind ≡ 1 → ⊥) → (f.kind ≡ 2 → ⊥) → (f.kind ≡ 4 → ⊥) → is_kept f ≡ false
        → Shown rows keys at 18446744073709551615 worth_of
    unfolding Shown
    rest-shown d1 d2 d4 free i h l =
        is_null (every-bit true 18446744073709551615 refl refl i h) (sym (rest-worth d1 d2 d4 free i l))

  pub kept-told : is_kept f ≡ true → (truths unknowns : List ℕ) → Held rs p columns values nulls base rows truths unknowns n.0
      → Tells rows (masks_at truths unknowns n.0) truth_of
  unfolding Held
  kept-told kept truths unknowns held = held (subst (λ g. is_kept g ≡ true) e kept)

  pub free_told : is_kept f ≡ false → (r : Masks) → Tells rows r (λ i. comparing Eq (worth_of i) (some (key 1)))
      → Tells rows r truth_of
  free_told free r t = tells-same rows r _ _ (λ i h. truth-compared (worth_of i) ∙ free_truth free i h) t

-- is_between of truths that are kept: their values are these
module _ (rs p : List ℕ) (columns : ℕ) (values nulls : List ℕ) (base rows : ℕ) (truths unknowns : List ℕ) where
  abbrev value_of : ℕ → ℕ → Option ℤ
  value_of n i = chain_worth rs p columns values nulls n (base + i)

  abbrev Reads : ℕ → Type 0
  Reads n = Input rs p columns values nulls base rows truths unknowns n × (is_kept (fields_at rs (node n)) ≡ true)

  told_at : (n : ℕ) → Reads n → (x : Masks) → x ≡ masks_at truths unknowns n
      → Tells rows x (λ i. chain_truth rs p columns values nulls n (base + i))
  told_at n h x e =
      rw e (kept-told rs p columns values nulls base rows (node n) (fields_at rs (node n)) h.0.ready refl h.1 truths unknowns
      h.0.held)

  value-at : (n : ℕ) → Reads n → (i : ℕ) → i < rows → of_truth (chain_truth rs p columns values nulls n (base + i)) ≡ value_of n i
  value-at n h = kept-worth rs p columns values nulls base rows (node n) (fields_at rs (node n)) h.0.ready refl h.1

  pub between-kept : (a b c code : ℕ) (x y z r : Masks) → Reads a → Reads b → Reads c → x ≡ masks_at truths unknowns a
      → y ≡ masks_at truths unknowns b → z ≡ masks_at truths unknowns c
      → ((f g h : ℕ → Truth) → Tells rows x f → Tells rows y g → Tells rows z h
      → Tells rows r (λ i. between_of code (of_truth (f i)) (of_truth (g i)) (of_truth (h i))))
      → Tells rows r (λ i. between_of code (value_of a i) (value_of b i) (value_of c i))
  between-kept a b c code x y z r ha hb hc ex ey ez t =
      tells-same rows r _ _ (λ i l. rw (value-at a ha i l, value-at b hb i l, value-at c hc i l))
      (t _ _ _ (told_at a ha x ex) (told_at b hb y ey) (told_at c hc z ez))

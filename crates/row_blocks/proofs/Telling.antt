-- The lines of a column and literals: the words of the columns' nulls, and what is told of a line.
-- Assumes nothing.
use Rattle.std.proofs.Common.{◌≡◌, ℕ, ◌+◌, ◌*◌, ◌^◌, ◌<◌, ◌≤◌, true, false, cond, ◌&&◌, eqb, ltb, List, length, get_or, set, ℤ, sym, refl, ap, ◌∙◌, subst, mul-le-mul, arith, get_or-set_other, get_or-set_same, ltb-false, ltb-true, le-ltb, lt-ltb, eqb-true}
use mathlib.Core.Option.{Option, some}
use lib.Bits.{bit_or}
use borrow.Author.Tests.{eqb-false}
use Rattle.records.specs.Record.{fields_at, node}
use Rattle.records.specs.declared.record.Fields.{Fields}
use Rattle.records.specs.declared.record.Node.{Node}
use Rattle.records.proofs.Laws.{by-test}
use Rattle.checking.proofs.Bits.{bit-zero}
use Rattle.three_valued.specs.declared.logic.Truth.{Truth}
use Rattle.three_valued.specs.Logic.{not3, of_bool}
use Rattle.truth.specs.FromBytes.{null_marked}
use Rattle.truth.specs.Halves.{key}
use Rattle.truth.specs.Evaluate.{compared_of, between_of, null_test}
use Rattle.masks.specs.declared.Masks.{Masks}
use Rattle.masks.specs.Masks.{mask_to, Tells}
use Rattle.masks.specs.Block.{chain_value, chain_truth, Ready, Turn, Line, NullWord, NullWords, chain_worth}
use Rattle.masks.proofs.Bits.{mask_none, mask_bit}
use Rattle.masks.proofs.Blocks.{mark_more}
use Rattle.masks.proofs.Comparing.{tells-same}
use Rattle.row_blocks.proofs.Turns.{binary-a, binary-b, null_a, between-a, between-b, between-c}
use Rattle.row_blocks.proofs.Turns.{compare-kind, null_kind, not-null_kind, between-kind}
use Rattle.row_blocks.proofs.Worths.{column-worth, literal-worth}

-- ---- a row's marks
-- the words below n have row i's mark
unfoldable pub MarkedTo : ℕ → ℕ → List ℕ → List ℕ → ℕ → Type 0
MarkedTo marks i old new n =
    (c : ℕ) → get_or new c 0 ≡ cond (ltb c n && null_marked marks c) (bit_or (get_or old c 0) (2 ^ i)) (get_or old c 0)

pub marked-none : (marks i : ℕ) (l : List ℕ) → MarkedTo marks i l l 0
unfolding MarkedTo
marked-none marks i l c = rw (le-ltb c 0 (omega arith))

pub marked_more : (marks i : ℕ) (old new : List ℕ) (n x : ℕ) → n < length new → MarkedTo marks i old new n
    → x ≡ cond (null_marked marks n) (bit_or (get_or new n 0) (2 ^ i)) (get_or new n 0) → MarkedTo marks i old (set new n x) (n + 1)
unfolding MarkedTo
marked_more marks i old new n x room s ex c = by-test (eqb c n) same other
  where
    Goal : ℕ → Type 0
    Goal c =
        get_or (set new n x) c 0 ≡ cond (ltb c (n + 1) && null_marked marks c) (bit_or (get_or old c 0) (2 ^ i)) (get_or old c 0)

    untouched : get_or new n 0 ≡ get_or old n 0
    untouched = s n ∙ rw (le-ltb n n (omega arith))

    here : Goal n
    here =
        get_or-set_same new n x 0 room ∙ ex
        ∙ ap (λ z. cond (null_marked marks n) (bit_or z (2 ^ i)) z) untouched ∙ rw (lt-ltb n (n + 1) (omega arith))

    same : eqb c n ≡ true → Goal c
    same e = subst Goal (sym (eqb-true c n e)) here

    alike : (c ≡ n → ⊥) → ltb c n ≡ ltb c (n + 1)
    alike d =
        by-test (ltb c n)
        (λ e. let h : c < n = ltb-true c n e in e ∙ sym (lt-ltb c (n + 1) (omega (arith, h))))
        (λ e. let h : n ≤ c = ltb-false c n e in e ∙ sym (le-ltb c (n + 1) (omega (arith, h, d))))

    other : eqb c n ≡ false → Goal c
    other e =
        let d : (c ≡ n → ⊥) = eqb-false c n e in
        get_or-set_other new n c x 0 d ∙ s c
        ∙ ap (λ b. cond (b && null_marked marks c) (bit_or (get_or old c 0) (2 ^ i)) (get_or old c 0)) (alike d)

pub marked-done : (marks i : ℕ) (old new : List ℕ) (n columns : ℕ) → n ≡ columns → MarkedTo marks i old new n → (c : ℕ)
    → c < columns → get_or new c 0 ≡ cond (null_marked marks c) (bit_or (get_or old c 0) (2 ^ i)) (get_or old c 0)
unfolding MarkedTo
marked-done marks i old new n columns e s c h = s c ∙ rw (lt-ltb c n (omega (arith, e, h)))

-- ---- the words of the columns' nulls
module _ (nulls : List ℕ) (columns base : ℕ) where
  -- the rows below n
  unfoldable pub WordsTo : ℕ → List ℕ → Type 0
  WordsTo n words =
      (c : ℕ) → c < columns → get_or words c 0 ≡ mask_to (λ (j : ℕ). null_marked (get_or nulls (base + j) 0) c) n

  pub words_none : (words : List ℕ) → ((c : ℕ) → c < columns → get_or words c 0 ≡ 0) → WordsTo 0 words
  unfolding WordsTo
  words_none words zeros c h = zeros c h ∙ mask_none (λ (j : ℕ). null_marked (get_or nulls (base + j) 0) c)

  pub words_more : (n marks : ℕ) (old new : List ℕ) → marks ≡ get_or nulls (base + n) 0
      → ((c : ℕ) → c < columns → get_or new c 0 ≡ cond (null_marked marks c) (bit_or (get_or old c 0) (2 ^ n)) (get_or old c 0))
      → WordsTo n old → WordsTo (n + 1) new
  unfolding WordsTo
  words_more n marks old new em step s c h =
      mark_more (λ (j : ℕ). null_marked (get_or nulls (base + j) 0) c) n (get_or old c 0) (get_or new c 0) (null_marked marks c)
      (ap (λ z. null_marked z c) em) (s c h) (step c h)

  pub words_skip : (n marks : ℕ) (words : List ℕ) → marks ≡ get_or nulls (base + n) 0 → marks ≡ 0 → WordsTo n words
      → WordsTo (n + 1) words
  unfolding WordsTo
  words_skip n marks words em ez s c h =
      mark_more (λ (j : ℕ). null_marked (get_or nulls (base + j) 0) c) n (get_or words c 0) (get_or words c 0) false
      (sym (bit-zero c) ∙ ap (λ z. null_marked z c) (sym ez ∙ em)) (s c h) refl

  pub words_done : (n rows : ℕ) (words : List ℕ) → n ≡ rows → WordsTo n words → NullWords nulls columns base rows words
  unfolding WordsTo NullWords NullWord
  words_done n rows words e s c h i l k =
      ap (λ z. null_marked z i) (s c h)
      ∙ mask_bit (λ (j : ℕ). null_marked (get_or nulls (base + j) 0) c) n i (omega (arith, e, k))

pub word_of : (nulls : List ℕ) (columns base rows c : ℕ) (words : List ℕ) → NullWords nulls columns base rows words
    → c < columns → NullWord nulls c base rows (get_or words c 0)
unfolding NullWords
word_of nulls columns base rows c words s h = s c h

-- ---- a line
pub rows-small : (rs p : List ℕ) (columns : ℕ) (values nulls : List ℕ) (base rows n : ℕ)
    → Ready rs p columns values nulls base rows n → base + rows ≤ 1024
rows-small rs p columns values nulls base rows n ok =
    let w = ok.within in let s = ok.short in omega (arith, w, s)

pub rows_end : (rs p : List ℕ) (columns : ℕ) (values nulls : List ℕ) (base rows n : ℕ)
    → Ready rs p columns values nulls base rows n → 8 * columns * (base + rows) ≤ length values
rows_end rs p columns values nulls base rows n ok =
    let s : 8 * columns ≤ 8 * columns = omega arith in
    let m : 8 * columns * (base + rows) ≤ 8 * columns * length nulls = mul-le-mul s ok.within in
    let l = ok.long in
    omega (arith, m, l)

kind-of : (rs : List ℕ) (m k : ℕ) (x : Fields) → x ≡ fields_at rs (node m) → (fields_at rs (node m)).kind ≡ k → x.kind ≡ k
kind-of rs m k x e h = ap (λ z. z.kind) e ∙ h

pub is_kind_lem : (rs : List ℕ) (m k : ℕ) (x : Fields) → x ≡ fields_at rs (node m) → x.kind ≡ k → (fields_at rs (node m)).kind ≡ k
is_kind_lem rs m k x e h = sym (ap (λ z. z.kind) e) ∙ h

pub line-compared : (rs : List ℕ) (f : Fields) → (fields_at rs (node f.a)).kind ≡ 1 → f.kind ≡ 4 → f.code ≤ 7
    → (f.code ≡ 1 → ⊥) → (f.code ≡ 3 → ⊥) → (fields_at rs (node f.b)).kind ≡ 2 → Line rs f
line-compared rs f column k h d1 d3 b =
    record {
      column = column;
      compared = λ z. (omega (arith, h), d1, d3, b);
      ranged = λ z. absurd (omega (arith, k, z));
      tested = λ d4 d8. absurd (d4 k);
    }

pub line-ranged : (rs : List ℕ) (f : Fields) → (fields_at rs (node f.a)).kind ≡ 1 → f.kind ≡ 8
    → (fields_at rs (node f.b)).kind ≡ 2 → (fields_at rs (node f.c)).kind ≡ 2 → Line rs f
line-ranged rs f column k b c =
    record {
      column = column;
      compared = λ z. absurd (omega (arith, k, z));
      ranged = λ z. (b, c);
      tested = λ d4 d8. absurd (d8 k);
    }

pub line-tested : (rs : List ℕ) (f : Fields) → (fields_at rs (node f.a)).kind ≡ 1 → 5 < f.kind → f.kind < 8 → Line rs f
line-tested rs f column h l =
    record {
      column = column;
      compared = λ z. absurd (omega (arith, h, z));
      ranged = λ z. absurd (omega (arith, l, z));
      tested = λ d4 d8. (h, l);
    }

module _ (rs p : List ℕ) (columns : ℕ) (values nulls : List ℕ) (base rows : ℕ) (truths unknowns : List ℕ) (n : Node)
    (f : Fields) (turn : Turn rs p columns values nulls base rows truths unknowns n f) (line : Line rs f) (x : Fields)
    (ex : x ≡ fields_at rs (node f.a)) where
  abbrev truth_of : ℕ → Truth
  truth_of i = chain_truth rs p columns values nulls n.0 (base + i)

  abbrev value_of : ℕ → Option ℤ
  value_of i = chain_value columns values nulls x.a (base + i)

  pub line-column : x.kind ≡ 1
  line-column = kind-of rs f.a 1 x ex line.column

  pub compare-line : f.kind ≡ 4 → (y : Fields) → y ≡ fields_at rs (node f.b) → (v : ℕ) → v ≡ y.b + 4294967296 * y.c
      → (r : Masks) → Tells rows r (λ i. compared_of f.code (value_of i) (some (key v))) → Tells rows r truth_of
  compare-line k y ey v ev r t =
      compare-kind rs p columns values nulls base rows truths unknowns n f turn k (line.compared k).0 r
      (tells-same rows r _ _ (λ i h. rw (
        column-worth rs p columns values nulls base rows (node f.a) x
            (binary-a rs p columns values nulls base rows truths unknowns n f turn k).ready ex line-column i h,
        ev,
        literal-worth rs p columns values nulls base rows (node f.b) y
            (binary-b rs p columns values nulls base rows truths unknowns n f turn k).ready ey
            (kind-of rs f.b 2 y ey (line.compared k).3) i h,
      )) t)

  pub between-line : f.kind ≡ 8 → (y z : Fields) → y ≡ fields_at rs (node f.b) → z ≡ fields_at rs (node f.c) → (v w : ℕ)
      → v ≡ y.b + 4294967296 * y.c → w ≡ z.b + 4294967296 * z.c → (r : Masks)
      → Tells rows r (λ i. between_of f.code (value_of i) (some (key v)) (some (key w))) → Tells rows r truth_of
  between-line k y z ey ez v w ev ew r t =
      between-kind rs p columns values nulls base rows truths unknowns n f turn k r
      (tells-same rows r _ _ (λ i h. rw (
        column-worth rs p columns values nulls base rows (node f.a) x
            (between-a rs p columns values nulls base rows truths unknowns n f turn k).ready ex line-column i h,
        ev,
        literal-worth rs p columns values nulls base rows (node f.b) y
            (between-b rs p columns values nulls base rows truths unknowns n f turn k).ready ey
            (kind-of rs f.b 2 y ey (line.ranged k).0) i h,
        ew,
        literal-worth rs p columns values nulls base rows (node f.c) z
            (between-c rs p columns values nulls base rows truths unknowns n f turn k).ready ez
            (kind-of rs f.c 2 z ez (line.ranged k).1) i h,
      )) t)

  null_worth : (h : 5 < f.kind) (l : f.kind < 8) (i : ℕ) → i < rows
      → value_of i ≡ chain_worth rs p columns values nulls f.a (base + i)
  null_worth h l i k =
      column-worth rs p columns values nulls base rows (node f.a) x
      (null_a rs p columns values nulls base rows truths unknowns n f turn h l).ready ex line-column i k

  pub null_line_lem : (h : 5 < f.kind) (l : f.kind < 8) → f.kind ≡ 6 → (r : Masks)
      → Tells rows r (λ i. of_bool (null_test (value_of i))) → Tells rows r truth_of
  null_line_lem h l k r t =
      null_kind rs p columns values nulls base rows truths unknowns n f turn k r
      (tells-same rows r _ _ (λ i g. ap (λ z. of_bool (null_test z)) (null_worth h l i g)) t)

  pub not-null_line : (h : 5 < f.kind) (l : f.kind < 8) → (f.kind ≡ 6 → ⊥) → (r : Masks)
      → Tells rows r (λ i. not3 (of_bool (null_test (value_of i)))) → Tells rows r truth_of
  not-null_line h l d r t =
      not-null_kind rs p columns values nulls base rows truths unknowns n f turn h l d r
      (tells-same rows r _ _ (λ i g. ap (λ z. not3 (of_bool (null_test z))) (null_worth h l i g)) t)

-- Divisions of a block: the keys of two columns are divided row by row. Assumes nothing.
use Rattle.std.proofs.Common.{◌≡◌, ℕ, ◌+◌, ◌*◌, ◌^◌, ◌<◌, ◌≤◌, Bool, true, false, cond, ◌||◌, List, length, get_or, set, ℤ, sym, refl, ap, ◌∙◌, arith, get_or-set_other}
use mathlib.Core.Option.{Option}
use lib.Bits.{bit_or}
use Rattle.records.specs.Record.{fields_at}
use Rattle.records.specs.declared.record.Fields.{Fields}
use Rattle.records.specs.declared.record.Node.{Node}
use Rattle.records.proofs.Laws.{by-test}
use Rattle.checking.specs.Columns.{bit}
use Rattle.checking.proofs.Bits.{bit-or}
use Rattle.truth.specs.Evaluate.{divided_of}
use Rattle.row_test.proofs.Evaluation.{binary-below, divided-value}
use Rattle.masks.specs.Masks.{mask_to, KeyAt, is_null, is_key, Shown}
use Rattle.masks.specs.Block.{chain_row, chain_worth, Ready}
use Rattle.masks.proofs.Bits.{mask_none, mask_bit}
use Rattle.masks.proofs.Blocks.{mark_more}
use Rattle.masks.proofs.Comparing.{shown-same, shown-kept}
use Rattle.pool_order.proofs.Ordering.{filled_next}
use Rattle.row_blocks.specs.Parts.{has_none, IsPart}
use Rattle.row_blocks.proofs.Parts.{none-null}
use Rattle.row_blocks.proofs.Turns.{ready-below, row-evaluable, first-row}

-- ---- a row: a null on either side, no quotient, or a part of one
or_last : (b : Bool) → (b || true) ≡ true
or_last true = refl
or_last false = refl

row-divided : (code p q k : ℕ) (n x y : Bool) (v w : Option ℤ) → n ≡ has_none p q → IsPart code p q k → KeyAt x p v → KeyAt y q w
    → KeyAt ((n || x) || y) k (divided_of code v w)
unfolding divided_of IsPart
row-divided code p q k n x y v w en part (is_null e ev) t = is_null (rw (e, or_last n)) (rw ev)
row-divided code p q k n x y v w en part (is_key a ha e ep ev) (is_null f ew) = is_null (rw f (or_last (n || x))) (rw (ev, ew))
row-divided code p q k n x y v w en part (is_key a ha e ep ev) (is_key b hb f eq ew) =
    rw (e, f)
    (by-test n
    (λ z.
    is_null (rw z) (none-null code p q v w (sym en ∙ z) (is_key a ha refl ep ev) (is_key b hb refl eq ew)))
    (λ z.
    rw z (part (sym en ∙ z) v w (is_key a ha refl ep ev) (is_key b hb refl eq ew))))

-- ---- the rows divided so far
module _ (code rows : ℕ) (old : List ℕ) (at one two x y : ℕ) where
  abbrev lacks : ℕ → Bool
  lacks j = has_none (get_or old (one + j) 0) (get_or old (two + j) 0)

  unfoldable pub Divided : List ℕ → ℕ → ℕ → Type 0
  Divided keys marks i =
      (marks ≡ mask_to lacks i)
      × ((j : ℕ) → j < i → IsPart code (get_or old (one + j) 0) (get_or old (two + j) 0) (get_or keys (at + j) 0))

  -- the rows behind them are as they were
  unfoldable pub Untouched : List ℕ → ℕ → Type 0
  Untouched keys i = (j : ℕ) → at + i ≤ j → get_or keys j 0 ≡ get_or old j 0

  pub divided-none : Divided old 0 0
  unfolding Divided
  divided-none = (mask_none _, (λ j l. absurd (omega (arith, l))))

  pub untouched-all : Untouched old 0
  unfolding Untouched
  untouched-all j h = refl

  pub untouched-more : (keys : List ℕ) (i k : ℕ) → Untouched keys i → Untouched (set keys (at + i) k) (i + 1)
  unfolding Untouched
  untouched-more keys i k u j h =
      get_or-set_other keys (at + i) j k 0 (λ z. omega (arith, h, z)) ∙ u j (omega (arith, h))

  pub divided-more : (keys : List ℕ) (marks i m k : ℕ) (null : Bool) → at ≤ one → at ≤ two → at + i < length keys
      → Untouched keys i → IsPart code (get_or keys (one + i) 0) (get_or keys (two + i) 0) k
      → null ≡ has_none (get_or keys (one + i) 0) (get_or keys (two + i) 0) → m ≡ cond null (bit_or marks (2 ^ i)) marks
      → Divided keys marks i → Divided (set keys (at + i) k) m (i + 1)
  unfolding Divided Untouched
  divided-more keys marks i m k null h-one h-two room u part en em d =
      let p : get_or keys (one + i) 0 ≡ get_or old (one + i) 0 = u (one + i) (omega (arith, h-one)) in
      let q : get_or keys (two + i) 0 ≡ get_or old (two + i) 0 = u (two + i) (omega (arith, h-two)) in (
        mark_more lacks i marks m null (en ∙ rw (p, q)) d.0 em,
        filled_next (λ j z. IsPart code (get_or old (one + j) 0) (get_or old (two + j) 0) z) at keys i k room d.1
            (rw (← p, ← q) part),
      )

  pub divided-done : (keys : List ℕ) (marks i r : ℕ) → i ≡ rows → r ≡ bit_or (bit_or marks x) y → Divided keys marks i
      → (value second : ℕ → Option ℤ) → Shown rows old one x value → Shown rows old two y second
      → Shown rows keys at r (λ j. divided_of code (value j) (second j))
  unfolding Divided Shown
  divided-done keys marks i r e er d value second s t j h l =
      let b : bit r j ≡ ((bit marks j || bit x j) || bit y j) =
      ap (λ z. bit z j) er ∙ bit-or (bit_or marks x) y j ∙ ap (λ z. z || bit y j) (bit-or marks x j) in
      let n : bit marks j ≡ lacks j = ap (λ z. bit z j) d.0 ∙ mask_bit lacks i j (omega (arith, e, l)) in
      rw b
      (row-divided code (get_or old (one + j) 0) (get_or old (two + j) 0) (get_or keys (at + j) 0) (bit marks j) (bit x j) (bit y j)
      (value j) (second j) n (d.1 j (omega (arith, e, l))) (s j h l) (t j h l))

-- ---- a division by the values of its inputs
module _ (rs p : List ℕ) (columns : ℕ) (values nulls : List ℕ) (base rows : ℕ) (n : Node) (f : Fields)
    (ok : Ready rs p columns values nulls base rows n.0) (e : f ≡ fields_at rs n) (k : f.kind ≡ 4) where
  abbrev worth_of : ℕ → ℕ → Option ℤ
  worth_of m i = chain_worth rs p columns values nulls m (base + i)

  turned-first : (turned : Bool) (a b m i : ℕ) → m ≡ cond turned b a → worth_of m i ≡ cond turned (worth_of b i) (worth_of a i)
  turned-first true a b m i e = ap (λ z. worth_of z i) e
  turned-first false a b m i e = ap (λ z. worth_of z i) e

  turned-other : (turned : Bool) (a b m i : ℕ) → m ≡ cond turned a b → worth_of m i ≡ cond turned (worth_of a i) (worth_of b i)
  turned-other true a b m i e = ap (λ z. worth_of z i) e
  turned-other false a b m i e = ap (λ z. worth_of z i) e

  below : (f.a < n.0) × (f.b < n.0)
  below =
      binary-below rs p (chain_row columns values (base + 0)) 0 n f (first-row rs p columns values nulls base rows n.0 ok) e k

  -- either input is below, and read in the same rows
  pub below_one : (turned : Bool) (m : ℕ) → m ≡ cond turned f.b f.a → m < n.0
  below_one true m q = rw q below.1
  below_one false m q = rw q below.0

  pub below_two : (turned : Bool) (m : ℕ) → m ≡ cond turned f.a f.b → m < n.0
  below_two true m q = rw q below.0
  below_two false m q = rw q below.1

  pub first-there : 16 * f.a + 15 < length rs
  first-there =
      let h = below.0 in
      let r = (first-row rs p columns values nulls base rows n.0 ok).room in
      omega (arith, h, r)

  pub ready_at : (m : ℕ) → m < n.0 → Ready rs p columns values nulls base rows m
  ready_at m h = ready-below rs p columns values nulls base rows n.0 m h ok

  module _ (low : 8 ≤ f.code) (high : f.code < 15) where
    worth : (i : ℕ) → i < rows → divided_of f.code (worth_of f.a i) (worth_of f.b i) ≡ worth_of n.0 i
    unfolding chain_worth
    worth i h =
        divided-value rs p (chain_row columns values (base + i)) (get_or nulls (base + i) 0) n f
        (row-evaluable rs p columns values nulls base rows n.0 i ok h) e k low high _ _ _ refl refl refl

    -- the inputs' keys stand side by side, in their order or turned round
    pub quotient-shown : (turned : Bool) (m l : ℕ) → m ≡ cond turned f.b f.a → l ≡ cond turned f.a f.b
        → (one two out : List ℕ) (at x y r : ℕ) → Shown rows one at x (worth_of m) → Shown rows two (at + 64) y (worth_of l)
        → ((j : ℕ) → j < at + 64 → get_or two j 0 ≡ get_or one j 0)
        → ((value second : ℕ → Option ℤ) → Shown rows two at x (λ i. cond turned (second i) (value i))
        → Shown rows two (at + 64) y (λ i. cond turned (value i) (second i))
        → Shown rows out at r (λ i. divided_of f.code (value i) (second i)))
        → Shown rows out at r (worth_of n.0)
    quotient-shown turned m l em el one two out at x y r s t kept divided =
        shown-same rows out at r _ _ worth
        (divided (worth_of f.a) (worth_of f.b)
        (shown-same rows two at x _ _ (λ i h. turned-first turned f.a f.b m i em)
        (shown-kept rows one two at (at + 64) x (worth_of m) (omega arith) kept s))
        (shown-same rows two (at + 64) y _ _ (λ i h. turned-other turned f.a f.b l i el) t))

-- keys of what is turned round, or not
pub as_turned : (turned : Bool) (rows : ℕ) (keys : List ℕ) (at n : ℕ) (f g : ℕ → Option ℤ) → turned ≡ true
    → Shown rows keys at n (λ i. cond turned (f i) (g i)) → Shown rows keys at n f
as_turned turned rows keys at n f g e s = shown-same rows keys at n _ _ (λ i h. rw e) s

pub as_they_are : (turned : Bool) (rows : ℕ) (keys : List ℕ) (at n : ℕ) (f g : ℕ → Option ℤ) → turned ≡ false
    → Shown rows keys at n (λ i. cond turned (f i) (g i)) → Shown rows keys at n g
as_they_are turned rows keys at n f g e s = shown-same rows keys at n _ _ (λ i h. rw e) s

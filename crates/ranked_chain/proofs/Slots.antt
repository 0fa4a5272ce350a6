-- The symbols of a screen and of one row in one list: what stands at the screen's places, then the row's symbols, one a column.
-- Their numbers compare as they do. Assumes nothing.
use mathlib.Core.Path.{◌≡◌, refl, sym, ◌∙◌, ap, subst}
use mathlib.Core.Bool.{Bool, true, false, cond, true≢false}
use mathlib.Core.List.{List, [], ◌∷◌}
use Prim.Native.Nat.{ℕ, zero, suc, ◌+◌, ◌-◌, ◌*◌, ◌/◌, ◌≤◌, ◌<◌, compare}
use native.Mathlib.Omega.{arith}
use lib.Dec.{ltb}
use lib.ListN.{length, get_or}
use borrow.Author.Tests.{ltb-true, ltb-false, lt-ltb}
use Rattle.records.specs.Bytes.{value_at}
use Rattle.records.specs.Shape.{in_pool}
use Rattle.truth.specs.Halves.{ordering}
use Rattle.symbols.specs.Symbol.{symbol, cmp_bytes}
use Rattle.symbol_ranks.specs.Ranks.{Ranked, Pooled}
use Rattle.text_order.specs.Codes.{code_of, Codes}
use Rattle.row_ranks.specs.RowRanks.{holds_symbol, RowRanks}
use Rattle.ranked_chain.specs.RankedChain.{Numbered}

-- ---- A list by its values.
pub tabulate : (ℕ → ℕ) → ℕ → List ℕ
tabulate f zero = []
tabulate f (suc n) = f 0 ∷ tabulate (λ i. f (suc i)) n

pub tabulated : (f : ℕ → ℕ) (n i : ℕ) → i < n → get_or (tabulate f n) i 0 ≡ f i
unfolding tabulate
tabulated f zero i h = absurd (omega arith)
tabulated f (suc n) zero h = refl
tabulated f (suc n) (suc i) h = tabulated (λ j. f (suc j)) n i (omega arith)

pub tabulate_long : (f : ℕ → ℕ) (n : ℕ) → length (tabulate f n) ≡ n
unfolding tabulate
tabulate_long f zero = refl
tabulate_long f (suc n) = let e = tabulate_long (λ j. f (suc j)) n in ap suc e

-- ---- What stands at a place of the list: a place of the screen, or a symbol of the row. Whatever lies behind stands for place 0.
module _ (text values wide : List ℕ) (n : ℕ) (first : 0 < n) (pooled : Pooled text values n) (C : List ℕ) (codes : Codes text C)
    (numbered : Numbered C values n wide) (t row : List ℕ) (nulls : ℕ) (out : List ℕ) (told : RowRanks t C row nulls (length t) out)
    (inside : (c : ℕ) → c < length t → holds_symbol t nulls c ≡ true → in_pool (length text) (value_at row c) ≡ true) where
  data Slot : Type 0 where
    OfScreen : (i : ℕ) → i < n → Slot
    OfRow : (c : ℕ) → c < length t → holds_symbol t nulls c ≡ true → Slot

  abbrev row_slot : (c : ℕ) (b h : Bool) → ltb c (length t) ≡ b → holds_symbol t nulls c ≡ h → Slot
  row_slot c true true e k = OfRow c (ltb-true c (length t) e) k
  row_slot c true false e k = OfScreen 0 first
  row_slot c false h e k = OfScreen 0 first

  abbrev slot_at : (i : ℕ) (b : Bool) → ltb i n ≡ b → Slot
  slot_at i true e = OfScreen i (ltb-true i n e)
  slot_at i false e = row_slot (i - n) (ltb (i - n) (length t)) (holds_symbol t nulls (i - n)) refl refl

  abbrev slot_value : Slot → ℕ
  slot_value (OfScreen i h) = get_or values i 0
  slot_value (OfRow c l h) = value_at row c

  abbrev slot_number : Slot → ℕ
  slot_number (OfScreen i h) = get_or wide i 0
  slot_number (OfRow c l h) = value_at out c

  in_pool_lem : (a : Slot) → in_pool (length text) (slot_value a) ≡ true
  in_pool_lem (OfScreen i h) = pooled.pooled i h
  in_pool_lem (OfRow c l h) = inside c l h

  coded : (a : Slot) → slot_number a ≡ code_of C (slot_value a)
  coded (OfScreen i h) = numbered.coded i h
  coded (OfRow c l h) = told.coded c l h

  alike : (a b : Slot) → ordering (compare (slot_number a) (slot_number b)) ≡ cmp_bytes (symbol text (slot_value a)) (symbol text (slot_value b))
  alike a b =
      ap (λ x. ordering (compare x (slot_number b))) (coded a)
      ∙ ap (λ x. ordering (compare (code_of C (slot_value a)) x)) (coded b)
      ∙ codes.alike (slot_value a) (slot_value b) (in_pool_lem a) (in_pool_lem b)

  low : (a : Slot) → slot_number a < 262144
  low a = let e = coded a in let h = codes.below (slot_value a) (in_pool_lem a) in omega (arith, e, h)

  abbrev slot : ℕ → Slot
  slot i = slot_at i (ltb i n) refl

  abbrev pub all_count : ℕ
  all_count = 262144 + n + length t

  pub all_values : List ℕ
  all_values = tabulate (λ i. slot_value (slot i)) all_count

  pub all_numbers : List ℕ
  all_numbers = tabulate (λ i. slot_number (slot i)) all_count

  value-at : (i : ℕ) → i < all_count → get_or all_values i 0 ≡ slot_value (slot i)
  unfolding all_values
  value-at i h = tabulated (λ i. slot_value (slot i)) all_count i h

  number_at : (i : ℕ) → i < all_count → get_or all_numbers i 0 ≡ slot_number (slot i)
  unfolding all_numbers
  number_at i h = tabulated (λ i. slot_number (slot i)) all_count i h

  pub all_pooled : Pooled text all_values all_count
  unfolding all_values
  all_pooled =
      record {
        long = let e = tabulate_long (λ i. slot_value (slot i)) all_count in omega (arith, e);
        pooled = λ i h. ap (in_pool (length text)) (value-at i h) ∙ in_pool_lem (slot i);
      }

  pub all_ranked : Ranked text all_values all_count all_numbers
  all_ranked =
      record {
        compares = λ i j h k.
            ap (λ x. ordering (compare x (get_or all_numbers j 0))) (number_at i h)
            ∙ ap (λ x. ordering (compare (slot_number (slot i)) x)) (number_at j k)
            ∙ alike (slot i) (slot j)
            ∙ ap (λ v. cmp_bytes (symbol text v) (symbol text (slot_value (slot j)))) (sym (value-at i h))
            ∙ ap (λ v. cmp_bytes (symbol text (get_or all_values i 0)) (symbol text v)) (sym (value-at j k));
        below = λ i h.
            let e = number_at i h in
            let l = low (slot i) in omega (arith, e, l);
      }

  -- ---- What stands where.
  module _ (i : ℕ) (h : i < n) where
    screen_slot : (b : Bool) (e : ltb i n ≡ b) → (slot_value (slot_at i b e) ≡ get_or values i 0)
        × (slot_number (slot_at i b e) ≡ get_or wide i 0)
    screen_slot true e = (refl, refl)
    screen_slot false e = absurd (true≢false (sym (lt-ltb i n h) ∙ e))

    pub value-of_screen : get_or all_values i 0 ≡ get_or values i 0
    value-of_screen = value-at i (omega (arith, h)) ∙ (screen_slot (ltb i n) refl).0

    pub number-of_screen : get_or all_numbers i 0 ≡ get_or wide i 0
    number-of_screen = number_at i (omega (arith, h)) ∙ (screen_slot (ltb i n) refl).1

  module _ (c : ℕ) (l : c < length t) (h : holds_symbol t nulls c ≡ true) where
    row-slot : (b k : Bool) (e : ltb c (length t) ≡ b) (f : holds_symbol t nulls c ≡ k)
        → (slot_value (row_slot c b k e f) ≡ value_at row c) × (slot_number (row_slot c b k e f) ≡ value_at out c)
    row-slot true true e f = (refl, refl)
    row-slot true false e f = absurd (true≢false (sym h ∙ f))
    row-slot false k e f = absurd (true≢false (sym (lt-ltb c (length t) l) ∙ e))

    behind : (d : ℕ) → d ≡ c → (slot_value (row_slot d (ltb d (length t)) (holds_symbol t nulls d) refl refl) ≡ value_at row c)
        × (slot_number (row_slot d (ltb d (length t)) (holds_symbol t nulls d) refl refl) ≡ value_at out c)
    behind d q =
        subst (λ d. (slot_value (row_slot d (ltb d (length t)) (holds_symbol t nulls d) refl refl) ≡ value_at row c)
        × (slot_number (row_slot d (ltb d (length t)) (holds_symbol t nulls d) refl refl) ≡ value_at out c)) (sym q)
        (row-slot (ltb c (length t)) (holds_symbol t nulls c) refl refl)

    past_screen : (b : Bool) (e : ltb (n + c) n ≡ b) → (slot_value (slot_at (n + c) b e) ≡ value_at row c)
        × (slot_number (slot_at (n + c) b e) ≡ value_at out c)
    past_screen true e = let k : n + c < n = ltb-true (n + c) n e in absurd (omega (arith, k))
    past_screen false e = behind (n + c - n) (omega arith)

    pub value-of_row : get_or all_values (n + c) 0 ≡ value_at row c
    value-of_row = value-at (n + c) (omega (arith, l)) ∙ (past_screen (ltb (n + c) n) refl).0

    pub number-of_row : get_or all_numbers (n + c) 0 ≡ value_at out c
    number-of_row = number_at (n + c) (omega (arith, l)) ∙ (past_screen (ltb (n + c) n) refl).1

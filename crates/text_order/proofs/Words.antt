-- Parts of the text as values, and their bytes. Assumes nothing.
use mathlib.Core.Path.{◌≡◌, refl, sym, ◌∙◌, ap, subst}
use mathlib.Core.Bool.{true}
use mathlib.Core.List.{List, ◌∷◌}
use Prim.Native.Nat.{ℕ, zero, suc, ◌+◌, ◌-◌, ◌≤◌, ◌<◌}
use native.Mathlib.Omega.{arith}
use lib.Dec.{ltb}
use lib.ListN.{length, get_or, take, set}
use lib.Seq.{get_or-set_same, get_or-set_other}
use borrow.Author.Tests.{lt-ltb, le-ltb, le-leb, ltb-true, ltb-false}
use Rattle.records.specs.Shape.{start_of, length_of, in_pool}
use Rattle.records.proofs.Laws.{by-test}
use Rattle.std.specs.declared.cmp.Ordering.TheVariants.{Less}
use Rattle.symbols.specs.Symbol.{bytes_from, symbol, cmp_bytes}
use Rattle.symbols.proofs.Comparing.{number-equal}
use Rattle.text_order.specs.Codes.{walk, rank_in, depth_in, link_in}
use Rattle.symbol_ranks.specs.Ranks.{Pooled}
use Rattle.sorted.proofs.Parts.{last}
use Rattle.text_order.specs.Starts.{most_at, part_at, full_at, Starts}

-- ---- How many bytes a start has.
pub most-few : (size s : ℕ) → most_at size s ≤ 16
unfolding most_at
most-few size s =
    by-test (ltb (size - s) 16) (λ e. let h = ltb-true (size - s) 16 e in rw e (omega (arith, h))) (λ e. rw e (omega arith))

pub most-inside : (size s : ℕ) → s ≤ size → s + most_at size s ≤ size
unfolding most_at
most-inside size s l =
    by-test (ltb (size - s) 16) (λ e. rw e (omega (arith, l)))
    (λ e. let h = ltb-false (size - s) 16 e in rw e (omega (arith, h, l)))

-- at least those of a symbol that starts there
pub most-enough : (size s l : ℕ) → s + l ≤ size → l ≤ 16 → l ≤ most_at size s
unfolding most_at
most-enough size s l h k = by-test (ltb (size - s) 16) (λ e. rw e (omega (arith, h))) (λ e. rw e k)

-- ---- A part as a value.
pub part_start : (s l : ℕ) → s ≤ 8192 → start_of (part_at s l) ≡ s
unfolding part_at
part_start s l h = omega (arith, h)

pub part_length : (s l : ℕ) → s ≤ 8192 → length_of (part_at s l) ≡ l
unfolding part_at
part_length s l h = omega (arith, h)

pub part_pooled : (size s l : ℕ) → s ≤ 8192 → s + l ≤ size → l ≤ 16 → in_pool size (part_at s l) ≡ true
unfolding in_pool
part_pooled size s l h i k =
    rw (part_start s l h, part_length s l h, le-leb (s + l) size i, le-leb l 16 k)

pub part_symbol : (text : List ℕ) (s l : ℕ) → s ≤ 8192 → symbol text (part_at s l) ≡ bytes_from text s l
unfolding symbol
part_symbol text s l h = rw (part_start s l h, part_length s l h)

-- ---- Bytes.
pub front : (text : List ℕ) (s l d : ℕ) → l ≤ d → take l (bytes_from text s d) ≡ bytes_from text s l
unfolding bytes_from
front text s zero d h = refl
front text s (suc l) zero h = absurd (omega (arith, h))
front text s (suc l) (suc d) h = ap (λ m. get_or text s 0 ∷ m) (front text (suc s) l d (omega (arith, h)))

pub long : (text : List ℕ) (s d : ℕ) → length (bytes_from text s d) ≡ d
unfolding bytes_from
long text s zero = refl
long text s (suc d) = ap suc (long text (suc s) d)

-- fewer bytes at the front of the same are the same
pub front_same : (text : List ℕ) (s u l d : ℕ) → l ≤ d → bytes_from text s d ≡ bytes_from text u d → bytes_from text s l ≡ bytes_from text u l
front_same text s u l d h e = sym (front text s l d h) ∙ ap (take l) e ∙ front text u l d h

-- and below more of them
pub front_less : (text : List ℕ) (s l d : ℕ) → l < d → cmp_bytes (bytes_from text s l) (bytes_from text s d) ≡ Less
unfolding bytes_from
front_less text s zero zero h = absurd (omega (arith, h))
front_less text s zero (suc d) h = refl
front_less text s (suc l) zero h = absurd (omega (arith, h))
front_less text s (suc l) (suc d) h =
    rw (number-equal (get_or text s 0) (get_or text s 0) refl) (front_less text (suc s) l d (omega (arith, h)))

-- ---- The walk of a symbol's first l bytes.
pub walk-low : (n : ℕ) (C : List ℕ) (s l : ℕ) → walk n C s l < 8192
unfolding walk
walk-low zero C s l = omega arith
walk-low (suc n) C s l =
    by-test (ltb (depth_in (get_or C s 0)) l) (λ e. rw e (omega arith)) (λ e. rw e (walk-low n C (link_in (get_or C s 0)) l))

pub walk-stop : (n : ℕ) (C : List ℕ) (s l : ℕ) → 0 < n → depth_in (get_or C s 0) < l → rank_in (get_or C s 0) ≡ walk n C s l
unfolding walk
walk-stop zero C s l h k = absurd (omega (arith, h))
walk-stop (suc n) C s l h k = rw (lt-ltb _ _ k)

pub walk-on : (n : ℕ) (C : List ℕ) (s l : ℕ) → 0 < n → l ≤ depth_in (get_or C s 0) → walk (n - 1) C (link_in (get_or C s 0)) l ≡ walk n C s l
unfolding walk
walk-on zero C s l h k = absurd (omega (arith, h))
walk-on (suc n) C s l h k =
    let e : suc n - 1 ≡ n = omega arith in rw (le-ltb _ _ k, e)

pub walk-done : (n : ℕ) (C : List ℕ) (s l : ℕ) → n ≤ 0 → rank_in (get_or C s 0) ≡ walk n C s l
unfolding walk
walk-done zero C s l h = refl
walk-done (suc n) C s l h = absurd (omega (arith, h))

-- ---- The longest symbol of one start more.
pub starts_none : (size : ℕ) (values : List ℕ) → Starts size 0 values
starts_none size values = record { full = λ s h. absurd (omega (arith, h)) }

pub starts_more : (size n : ℕ) (values : List ℕ) (x : ℕ) → n < length values → x ≡ full_at size n → Starts size n values
    → Starts size (n + 1) (set values n x)
starts_more size n values x room e s =
    record {
      full = λ u h.
          last u n h
          (λ (g : u < n). get_or-set_other values n u x 0 (λ q. omega (arith, q, g)) ∙ s.full u g)
          (λ (g : u ≡ n). subst (λ j. get_or (set values n x) j 0 ≡ full_at size j) (sym g) (get_or-set_same values n x 0 room ∙ e));
    }

-- They lie in the pool.
pub starts-pooled : (text values : List ℕ) → length text ≤ 8192 → length text ≤ length values
    → Starts (length text) (length text) values → Pooled text values (length text)
starts-pooled text values small room s =
    record {
      long = room;
      pooled = λ i h.
          subst (λ v. in_pool (length text) v ≡ true) (sym (s.full i h))
          (part_pooled (length text) i (most_at (length text) i) (omega (arith, h, small)) (most-inside (length text) i (omega (arith, h)))
          (most-few (length text) i));
    }

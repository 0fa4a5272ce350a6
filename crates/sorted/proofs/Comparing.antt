-- Two sets of 128 places compared word by word. Assumes nothing.
use mathlib.Core.Path.{◌≡◌, refl, sym, ◌∙◌, ap}
use mathlib.Core.Bool.{Bool, true, false, true≢false, not, ◌&&◌}
use mathlib.Core.List.{List}
use mathlib.Core.Logic.{⊎_elim}
use Prim.Native.Nat.{ℕ, ◌+◌, ◌-◌, ◌/◌, ◌%◌, ◌^◌, ◌≤◌, ◌<◌}
use native.Mathlib.Omega.{arith}
use lib.Dec.{eqb}
use lib.Bits.{bit_and, bit_or, and_lt, or_zero_l}
use lib.ListN.{get_or}
use borrow.Author.Tests.{eqb-true, eqb-false, not-true, not-false}
use Rattle.records.proofs.Laws.{by-test, and_left, and_right}
use Rattle.checking.specs.Columns.{bit}
use Rattle.checking.proofs.Bits.{lt-or_le, bit-zero}
use Rattle.sorted.specs.BitSets.{member, Common, Missing, Meets, Within}
use Rattle.sorted.proofs.Words.{bit-and, or_nothing, differ}

-- a bit of both words
pub record Both (x y : ℕ) : Type 0 where
  pub place : ℕ
  pub below : place < 64
  pub one : bit x place ≡ true
  pub other : bit y place ≡ true

both_bits : (a b : Bool) → (a && b) ≡ not false → (a ≡ true) × (b ≡ true)
both_bits a b e = (and_left a b e, and_right a b e)

-- words whose conjunction is not 0
pub both : (x y : ℕ) → bit_and x y < 2 ^ 64 → (bit_and x y ≡ 0 → ⊥) → Both x y
both x y h d =
    let r = differ 64 (bit_and x y) 0 h (omega arith) d in
    let e = both_bits (bit x r.place) (bit y r.place)
    (sym (bit-and x y r.place) ∙ r.turned ∙ ap not (bit-zero r.place)) in
    record { place = r.place; below = r.below; one = e.0; other = e.1 }

neither : (a b : Bool) → (a && b) ≡ false → a ≡ true → b ≡ false
neither true b e h = e
neither false b e h = absurd (true≢false (sym h))

-- a bit of the first word that the second has not
pub record Alone (x y : ℕ) : Type 0 where
  pub place : ℕ
  pub below : place < 64
  pub one : bit x place ≡ true
  pub other : bit y place ≡ false

alone_bits : (a b : Bool) → (a && b) ≡ not a → (a ≡ true) × (b ≡ false)
alone_bits true b e = (refl, e)
alone_bits false b e = absurd (true≢false (sym e))

pub alone : (x y : ℕ) → bit_and x y < 2 ^ 64 → x < 2 ^ 64 → (bit_and x y ≡ x → ⊥) → Alone x y
alone x y h k d =
    let r = differ 64 (bit_and x y) x h k d in
    let e = alone_bits (bit x r.place) (bit y r.place) (sym (bit-and x y r.place) ∙ r.turned) in
    record { place = r.place; below = r.below; one = e.0; other = e.1 }

-- ---- sets of two words each
module _ (one : List ℕ) (at : ℕ) (other : List ℕ) (from : ℕ) where
  abbrev low : ℕ
  low = bit_and (get_or one at 0) (get_or other from 0)

  abbrev high : ℕ
  high = bit_and (get_or one (at + 1) 0) (get_or other (from + 1) 0)

  in_low : (l : List ℕ) (a p : ℕ) → p < 64 → member l a p ≡ bit (get_or l a 0) p
  in_low l a p h =
      let e : a + p / 64 ≡ a = omega arith in let f : p % 64 ≡ p = omega arith in rw (e, f)

  in_high : (l : List ℕ) (a p : ℕ) → p < 64 → member l a (64 + p) ≡ bit (get_or l (a + 1) 0) p
  in_high l a p h =
      let e : a + (64 + p) / 64 ≡ a + 1 = omega arith in let f : (64 + p) % 64 ≡ p = omega arith in rw (e, f)

  low_fits : ((q : ℕ) → get_or one q 0 < 2 ^ 64) → ((q : ℕ) → get_or other q 0 < 2 ^ 64) → low < 2 ^ 64
  low_fits h k = and_lt 64 (get_or one at 0) (get_or other from 0) (h at) (k from)

  high_fits : ((q : ℕ) → get_or one q 0 < 2 ^ 64) → ((q : ℕ) → get_or other q 0 < 2 ^ 64) → high < 2 ^ 64
  high_fits h k = and_lt 64 (get_or one (at + 1) 0) (get_or other (from + 1) 0) (h (at + 1)) (k (from + 1))

  pub meets_law : ((q : ℕ) → get_or one q 0 < 2 ^ 64) → ((q : ℕ) → get_or other q 0 < 2 ^ 64) →
      Meets one at other from (not (eqb (bit_or low high) 0))
  meets_law h k = record {
    some = λ t. by-test (eqb low 0)
        (λ u. from-high (both (get_or one (at + 1) 0) (get_or other (from + 1) 0) (high_fits h k)
        (λ e. eqb-false (bit_or low high) 0 (not-true _ t) (nothing (eqb-true low 0 u) e))))
        (λ u. from_low (both (get_or one at 0) (get_or other from 0) (low_fits h k) (eqb-false low 0 u)));
    none = λ t p l h. let z = or_nothing low high (eqb-true (bit_or low high) 0 (not-false _ t)) in
        nowhere z.0 z.1 p l h;
  }
    where
      nothing : low ≡ 0 → high ≡ 0 → bit_or low high ≡ 0
      nothing e f = rw (e, f, or_zero_l 0)

      from_low : Both (get_or one at 0) (get_or other from 0) → Common one at other from
      from_low r = let l = r.below in record {
        place = r.place;
        below = omega arith;
        here = in_low one at r.place l ∙ r.one;
        there = in_low other from r.place l ∙ r.other;
      }

      from-high : Both (get_or one (at + 1) 0) (get_or other (from + 1) 0) → Common one at other from
      from-high r = let l = r.below in record {
        place = 64 + r.place;
        below = omega arith;
        here = in_high one at r.place l ∙ r.one;
        there = in_high other from r.place l ∙ r.other;
      }

      nowhere : low ≡ 0 → high ≡ 0 → (p : ℕ) → p < 128 → member one at p ≡ true → member other from p ≡ false
      nowhere el eh p l h = neither (member one at p) (member other from p) (⊎_elim first second (lt-or_le p 64)) h
        where
          first : p < 64 → (member one at p && member other from p) ≡ false
          first k = rw (in_low one at p k, in_low other from p k)
              (sym (bit-and (get_or one at 0) (get_or other from 0) p) ∙ rw el (bit-zero p))

          second : 64 ≤ p → (member one at p && member other from p) ≡ false
          second k =
              let e : p ≡ 64 + (p - 64) = omega arith in
              let m : p - 64 < 64 = omega arith in
              ap (λ (n : ℕ). member one at n && member other from n) e ∙
              rw (in_high one at (p - 64) m, in_high other from (p - 64) m)
              (sym (bit-and (get_or one (at + 1) 0) (get_or other (from + 1) 0) (p - 64)) ∙ rw eh (bit-zero (p - 64)))

  pub within-law : ((q : ℕ) → get_or one q 0 < 2 ^ 64) → ((q : ℕ) → get_or other q 0 < 2 ^ 64) →
      Within one at other from (eqb low (get_or one at 0) && eqb high (get_or one (at + 1) 0))
  within-law h k = record {
    every = λ t p l m. everywhere
        (eqb-true low (get_or one at 0) (and_left (eqb low (get_or one at 0)) (eqb high (get_or one (at + 1) 0)) t))
        (eqb-true high (get_or one (at + 1) 0)
        (and_right (eqb low (get_or one at 0)) (eqb high (get_or one (at + 1) 0)) t)) p l m;
    some = λ t. by-test (eqb low (get_or one at 0))
        (λ u. from-high (alone (get_or one (at + 1) 0) (get_or other (from + 1) 0) (high_fits h k) (h (at + 1))
        (eqb-false high (get_or one (at + 1) 0) (after u t))))
        (λ u. from_low (alone (get_or one at 0) (get_or other from 0) (low_fits h k) (h at)
        (eqb-false low (get_or one at 0) u)));
  }
    where
      after : eqb low (get_or one at 0) ≡ true →
          (eqb low (get_or one at 0) && eqb high (get_or one (at + 1) 0)) ≡ false → eqb high (get_or one (at + 1) 0) ≡ false
      after u t = neither (eqb low (get_or one at 0)) (eqb high (get_or one (at + 1) 0)) t u

      from_low : Alone (get_or one at 0) (get_or other from 0) → Missing one at other from
      from_low r = let l = r.below in record {
        place = r.place;
        below = omega arith;
        here = in_low one at r.place l ∙ r.one;
        lacks = in_low other from r.place l ∙ r.other;
      }

      from-high : Alone (get_or one (at + 1) 0) (get_or other (from + 1) 0) → Missing one at other from
      from-high r = let l = r.below in record {
        place = 64 + r.place;
        below = omega arith;
        here = in_high one at r.place l ∙ r.one;
        lacks = in_high other from r.place l ∙ r.other;
      }

      -- a conjunction that is its first word
      inside : (x y p : ℕ) → bit_and x y ≡ x → bit x p ≡ true → bit y p ≡ true
      inside x y p e h = and_right (bit x p) (bit y p) (sym (bit-and x y p) ∙ rw e h)

      everywhere : low ≡ get_or one at 0 → high ≡ get_or one (at + 1) 0 → (p : ℕ) → p < 128 → member one at p ≡ true →
          member other from p ≡ true
      everywhere el eh p l h = ⊎_elim first second (lt-or_le p 64)
        where
          first : p < 64 → member other from p ≡ true
          first k = in_low other from p k ∙
              inside (get_or one at 0) (get_or other from 0) p el (sym (in_low one at p k) ∙ h)

          second : 64 ≤ p → member other from p ≡ true
          second k =
              let e : p ≡ 64 + (p - 64) = omega arith in
              let m : p - 64 < 64 = omega arith in
              ap (λ (n : ℕ). member other from n) e ∙ in_high other from (p - 64) m ∙
              inside (get_or one (at + 1) 0) (get_or other (from + 1) 0) (p - 64) eh
              (sym (in_high one at (p - 64) m) ∙ ap (λ (n : ℕ). member one at n) (sym e) ∙ h)

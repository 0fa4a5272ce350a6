-- A column against a literal: the order of 64 bits' keys is the order of the numbers that the loop compares.
-- Assumes nothing.
use mathlib.Core.Path.{◌≡◌, refl, ◌∙◌, ap}
use mathlib.Core.Bool.{Bool, true, false, not, ◌&&◌, ◌||◌, and-false}
use mathlib.Core.List.{List}
use mathlib.Core.Option.{Option, some}
use Prim.Native.Nat.{ℕ, ◌+◌, ◌^◌, ◌<◌}
use native.Mathlib.Omega.{arith}
use lib.Bits.{bit_and, bit_or}
use lib.Dec.{ltb, eqb}
use lib.IntN.{ℤ}
use lib.ListN.{get_or}
use borrow.Author.Tests.{ltb-true, ltb-false, eqb-true, eqb-false, ne_eqb}
use Rattle.records.proofs.Laws.{by-test}
use Rattle.checking.specs.Columns.{bit}
use Rattle.checking.proofs.Bits.{bit-or}
use Rattle.std.specs.declared.cmp.Ordering.{Ordering}
use Rattle.truth.specs.Order.{is_less, is_equal}
use Rattle.truth.specs.Comparison.{Eq, Lt}
use Rattle.truth.specs.Halves.{ord_z, key, bias_of}
use Rattle.truth.specs.Evaluate.{comparing}
use Rattle.three_valued.specs.Logic.{is_true, of_bool}
use Rattle.truth.proofs.Keys.{says_less, says-equal, says-greater}
use Rattle.masks.specs.declared.Masks.{Masks}
use Rattle.masks.specs.Masks.{is_unknown, inverse, mask_to, Tells, KeyAt, is_null, is_key, Shown}
use Rattle.masks.proofs.Bits.{bit-and, bit-inverse, mask_bit}

abbrev pub order : ℕ → ℕ → Ordering
order a b = ord_z.cmp (key a) (key b)

module _ (a b : ℕ) (ha : a < 2 ^ 64) (hb : b < 2 ^ 64) where
  abbrev x : ℕ
  x = bias_of a

  abbrev y : ℕ
  y = bias_of b

  -- the two tests tell the order
  pub order-tests : (ltb x y ≡ is_less (order a b)) × (eqb x y ≡ is_equal (order a b))
  order-tests = by-test (ltb x y) less (λ l. by-test (eqb x y) (equal l) (greater l))
    where
      less : ltb x y ≡ true → (ltb x y ≡ is_less (order a b)) × (eqb x y ≡ is_equal (order a b))
      less e =
          let h : x < y = ltb-true x y e in
          let s = says_less x y a b ha hb refl refl h in
          (e ∙ ap is_less s, ne_eqb x y (λ q. omega (arith, h, q)) ∙ ap is_equal s)

      equal : ltb x y ≡ false → eqb x y ≡ true → (ltb x y ≡ is_less (order a b)) × (eqb x y ≡ is_equal (order a b))
      equal l e = let s = says-equal x y a b ha hb refl refl (eqb-true x y e) in (l ∙ ap is_less s, e ∙ ap is_equal s)

      greater : ltb x y ≡ false → eqb x y ≡ false → (ltb x y ≡ is_less (order a b)) × (eqb x y ≡ is_equal (order a b))
      greater l e =
          let s = says-greater x y a b ha hb refl refl (ltb-false x y l) (eqb-false x y e) in
          (l ∙ ap is_less s, e ∙ ap is_equal s)

pub of_bool-true : (t : Bool) → (t && true) ≡ is_true (of_bool t)
of_bool-true true = refl
of_bool-true false = refl

pub of_bool-known : (t : Bool) → false ≡ is_unknown (of_bool t)
of_bool-known true = refl
of_bool-known false = refl

-- ---- at one row
less-row : (n : Bool) (k : ℕ) (v : Option ℤ) (b : ℕ) → KeyAt n k v → b < 2 ^ 64
    → ((ltb k (bias_of b) && not n) ≡ is_true (comparing Lt v (some (key b)))) × (n ≡ is_unknown (comparing Lt v (some (key b))))
less-row n k v b (is_null e ev) hb = rw (e, ev) (and-false (ltb k (bias_of b)), refl)
less-row n k v b (is_key bits h e ek ev) hb =
    rw (e, ek, ev, (order-tests bits b h hb).0) (of_bool-true (is_less (order bits b)), of_bool-known (is_less (order bits b)))

equal-row : (n : Bool) (k : ℕ) (v : Option ℤ) (b : ℕ) → KeyAt n k v → b < 2 ^ 64
    → ((eqb k (bias_of b) && not n) ≡ is_true (comparing Eq v (some (key b)))) × (n ≡ is_unknown (comparing Eq v (some (key b))))
equal-row n k v b (is_null e ev) hb = rw (e, ev) (and-false (eqb k (bias_of b)), refl)
equal-row n k v b (is_key bits h e ek ev) hb =
    rw (e, ek, ev, (order-tests bits b h hb).1) (of_bool-true (is_equal (order bits b)), of_bool-known (is_equal (order bits b)))

-- ---- the words
module _ (rows : ℕ) (keys : List ℕ) (at nulls w : ℕ) (value : ℕ → Option ℤ) (b : ℕ) (shown : Shown rows keys at nulls value)
    (hb : b < 2 ^ 64)
    (ew : w ≡ bias_of b) (r : Masks) (m inv : ℕ) (ei : inv ≡ inverse nulls) (et : r.truths ≡ bit_and m inv)
    (eu : r.unknowns ≡ nulls) where
  marked-bit : (f : ℕ → Bool) → m ≡ mask_to f 64 → (i : ℕ) → i < 64 → bit r.truths i ≡ (f i && not (bit nulls i))
  marked-bit f em i h =
      ap (λ z. bit z i) et ∙ bit-and m inv i ∙ rw (em, mask_bit f 64 i h, ei, bit-inverse nulls i h)

  pub less-than_tells : m ≡ mask_to (λ (i : ℕ). ltb (get_or keys (at + i) 0) w) 64
      → Tells rows r (λ i. comparing Lt (value i) (some (key b)))
  unfolding Tells Shown
  less-than_tells em i h k =
      let q = less-row (bit nulls i) (get_or keys (at + i) 0) (value i) b (shown i h k) hb in (
        marked-bit (λ (i : ℕ). ltb (get_or keys (at + i) 0) w) em i h
            ∙ ap (λ z. ltb (get_or keys (at + i) 0) z && not (bit nulls i)) ew ∙ q.0,
        ap (λ z. bit z i) eu ∙ q.1,
      )

  pub equal-to_tells : m ≡ mask_to (λ (i : ℕ). eqb (get_or keys (at + i) 0) w) 64
      → Tells rows r (λ i. comparing Eq (value i) (some (key b)))
  unfolding Tells Shown
  equal-to_tells em i h k =
      let q = equal-row (bit nulls i) (get_or keys (at + i) 0) (value i) b (shown i h k) hb in (
        marked-bit (λ (i : ℕ). eqb (get_or keys (at + i) 0) w) em i h
            ∙ ap (λ z. eqb (get_or keys (at + i) 0) z && not (bit nulls i)) ew ∙ q.0,
        ap (λ z. bit z i) eu ∙ q.1,
      )

-- ---- two columns, at one row
pub less-pair : (n : Bool) (k : ℕ) (v : Option ℤ) (n' : Bool) (k' : ℕ) (v' : Option ℤ) → KeyAt n k v → KeyAt n' k' v'
    → ((ltb k k' && not (n || n')) ≡ is_true (comparing Lt v v')) × ((n || n') ≡ is_unknown (comparing Lt v v'))
less-pair n k v n' k' v' (is_null e ev) second = rw (e, ev) (and-false (ltb k k'), refl)
less-pair n k v n' k' v' (is_key bits h e ek ev) (is_null e' ev') = rw (e, ev, e', ev') (and-false (ltb k k'), refl)
less-pair n k v n' k' v' (is_key bits h e ek ev) (is_key bits' h' e' ek' ev') =
    rw (e, ek, ev, e', ek', ev', (order-tests bits bits' h h').0)
    (of_bool-true (is_less (order bits bits')), of_bool-known (is_less (order bits bits')))

pub equal-pair : (n : Bool) (k : ℕ) (v : Option ℤ) (n' : Bool) (k' : ℕ) (v' : Option ℤ) → KeyAt n k v → KeyAt n' k' v'
    → ((eqb k k' && not (n || n')) ≡ is_true (comparing Eq v v')) × ((n || n') ≡ is_unknown (comparing Eq v v'))
equal-pair n k v n' k' v' (is_null e ev) second = rw (e, ev) (and-false (eqb k k'), refl)
equal-pair n k v n' k' v' (is_key bits h e ek ev) (is_null e' ev') = rw (e, ev, e', ev') (and-false (eqb k k'), refl)
equal-pair n k v n' k' v' (is_key bits h e ek ev) (is_key bits' h' e' ek' ev') =
    rw (e, ek, ev, e', ek', ev', (order-tests bits bits' h h').1)
    (of_bool-true (is_equal (order bits bits')), of_bool-known (is_equal (order bits bits')))

-- ---- their words
module _ (rows : ℕ) (keys : List ℕ) (at nulls other others : ℕ) (value second : ℕ → Option ℤ)
    (shown : Shown rows keys at nulls value) (shown' : Shown rows keys other others second) (r : Masks) (m inv : ℕ)
    (ei : inv ≡ inverse (bit_or nulls others)) (et : r.truths ≡ bit_and m inv) (eu : r.unknowns ≡ bit_or nulls others) where
  pair_bit : (f : ℕ → Bool) → m ≡ mask_to f 64 → (i : ℕ) → i < 64
      → bit r.truths i ≡ (f i && not (bit nulls i || bit others i))
  pair_bit f em i h =
      ap (λ z. bit z i) et ∙ bit-and m inv i
      ∙ rw (em, mask_bit f 64 i h, ei, bit-inverse (bit_or nulls others) i h, bit-or nulls others i)

  pub less-columns_tell : m ≡ mask_to (λ (i : ℕ). ltb (get_or keys (at + i) 0) (get_or keys (other + i) 0)) 64
      → Tells rows r (λ i. comparing Lt (value i) (second i))
  unfolding Tells Shown
  less-columns_tell em i h k =
      let q =
      less-pair (bit nulls i) (get_or keys (at + i) 0) (value i) (bit others i) (get_or keys (other + i) 0) (second i)
      (shown i h k) (shown' i h k) in (
        pair_bit (λ (i : ℕ). ltb (get_or keys (at + i) 0) (get_or keys (other + i) 0)) em i h ∙ q.0,
        ap (λ z. bit z i) eu ∙ bit-or nulls others i ∙ q.1,
      )

  pub equal-columns_tell : m ≡ mask_to (λ (i : ℕ). eqb (get_or keys (at + i) 0) (get_or keys (other + i) 0)) 64
      → Tells rows r (λ i. comparing Eq (value i) (second i))
  unfolding Tells Shown
  equal-columns_tell em i h k =
      let q =
      equal-pair (bit nulls i) (get_or keys (at + i) 0) (value i) (bit others i) (get_or keys (other + i) 0) (second i)
      (shown i h k) (shown' i h k) in (
        pair_bit (λ (i : ℕ). eqb (get_or keys (at + i) 0) (get_or keys (other + i) 0)) em i h ∙ q.0,
        ap (λ z. bit z i) eu ∙ bit-or nulls others i ∙ q.1,
      )

-- Divisions by keys: what the code works out is the quotient, or the remainder, or that there is none. Assumes nothing.
use Rattle.std.proofs.Common.{◌≡◌, ℕ, zero, suc, ◌+◌, ◌-◌, ◌*◌, ◌/◌, ◌%◌, ◌^◌, ◌<◌, ◌≤◌, Bool, true, false, cond, ◌&&◌, ◌||◌, eqb, ltb, ℤ, sym, refl, ap, ◌∙◌, ⊎_elim, true≢false, mod-lt, div-add-mod', div-le_self, arith, w64, to_z, le-ltb, lt-ltb, eq-eqb, ne_eqb, eqb-true}
use mathlib.Core.Option.{Option, none, some}
use native.Mathlib.Nat.{zero-div, zero-mod}
use lib.Bits.{bit_and, bit_xor, xor_add_and, and_mask, xor_zero_r}
use borrow.Author.Tests.{eqb-false}
use Rattle.records.proofs.Laws.{by-test}
use Rattle.std.specs.Prelude.{Some, None}
use Rattle.division.specs.Division.{Divides, minus_of}
use Rattle.division.proofs.Bits.{by_zero, up_by_up, down_by_up, zero-by_down, up_by_down, beyond, down_by_down}
use Rattle.truth.specs.Halves.{key, bias_of}
use Rattle.truth.specs.Evaluate.{divided_of}
use Rattle.truth.proofs.Keys.{lt-or_le}
use Rattle.truth.proofs.Quotients.{divided-keys}
use Rattle.masks.specs.Masks.{KeyAt, is_null, is_key}
use Rattle.row_blocks.specs.Parts.{has_none, IsPart}

abbrev half : ℕ
half = 9223372036854775808

abbrev most : ℕ
most = 18446744073709551615

-- ---- the code's steps
xor_most : (x : ℕ) → x < 2 ^ 64 → bit_xor x most ≡ most - x
xor_most x h =
    let e : bit_and x most ≡ x % 2 ^ 64 = and_mask x 64 in
    let s : bit_xor x most + bit_and x most * 2 ≡ x + most = xor_add_and x most in
    omega (arith, e, s, h)

pub turned-is : (t : Bool) (x m : ℕ) → x < 2 ^ 64 → m ≡ cond t most 0 → bit_xor x m ≡ cond t (most - x) x
turned-is true x m h e = ap (bit_xor x) e ∙ xor_most x h
turned-is false x m h e = ap (bit_xor x) e ∙ xor_zero_r x

pub dividend_is : (u v s r : ℕ) → s < 2 ^ 64 → (s + v) % 2 ^ 64 ≡ u → r ≡ cond (ltb u v) (most - s) s → v < 2 ^ 64
    → (v ≤ u → r + v ≡ u) × (u < v → r + u + 1 ≡ v)
dividend_is u v s r h e er b = (
  (λ (l : v ≤ u).
      let k : r ≡ s = er ∙ ap (λ (z : Bool). cond z (most - s) s) (le-ltb u v l) in
      omega (arith, k, e, h, b, l)),
  (λ (l : u < v).
      let k : r ≡ most - s = er ∙ ap (λ (z : Bool). cond z (most - s) s) (lt-ltb u v l) in
      omega (arith, k, e, h, b, l)),
)

pub distance_small : (q d : ℕ) → q < 2 ^ 64 → (q < half → d + q ≡ half) → (half ≤ q → d + half ≡ q) → d ≤ half
distance_small q d hq low high =
    ⊎_elim
    (λ (l : q < half). let k = low l in omega (arith, k))
    (λ (l : half ≤ q). let k = high l in omega (arith, k, hq))
    (lt-or_le q half)

pub one-small : (b : Bool) (o : ℕ) → o ≡ cond b 1 0 → o ≤ 1
one-small true o e = omega (arith, e)
one-small false o e = omega (arith, e)

pub size_is : (q d s o : ℕ) → q < 2 ^ 64 → (q < half → d + q ≡ half) → (half ≤ q → d + half ≡ q) → o ≡ cond (eqb d 0) 1 0 → s ≡ d + o
    → ((0 < s) × (s ≤ half)) × ((q < half → s + q ≡ half) × (half < q → s + half ≡ q))
size_is q d s o hq low high eo es =
    by-test (eqb d 0)
    (λ y.
    let z : d ≡ 0 = eqb-true d 0 y in
    let w : o ≡ 1 = eo ∙ ap (λ (b : Bool). cond b 1 0) y in (
      (omega (arith, z, w, es), omega (arith, z, w, es)),
      (
        (λ l. let k = low l in absurd (omega (arith, z, l, k))),
        (λ l. let k = high (omega (arith, l)) in absurd (omega (arith, z, l, k))),
      ),
    ))
    (λ y.
    let z : (d ≡ 0 → ⊥) = eqb-false d 0 y in
    let w : o ≡ 0 = eo ∙ ap (λ (b : Bool). cond b 1 0) y in (
      (
        omega (arith, z, w, es),
        ⊎_elim
            (λ (l : q < half). let k = low l in omega (arith, w, es, k))
            (λ (l : half ≤ q). let k = high l in omega (arith, w, es, k, hq))
            (lt-or_le q half),
      ),
      (
        (λ l. let k = low l in omega (arith, w, es, k)),
        (λ l. let k = high (omega (arith, l)) in omega (arith, w, es, k)),
      ),
    ))

-- what is left is below the divisor's size
pub rest-small : (n size m : ℕ) (t : Bool) → 0 < size → m ≡ cond t (size - 1 - n % size) (n % size) → m < size
rest-small n size m true h e = omega (arith, e, h)
rest-small n size m false h e = let k : n % size < size = mod-lt n h in omega (arith, e, k)

-- only the least number has a quotient so far from 0, by -1
only-least : (n size r : ℕ) → half * size + r ≡ n → n ≤ half → 0 < size → (n ≡ half) × (size ≡ 1)
only-least n zero r e h l = absurd (omega (arith, l))
only-least n (suc zero) r e h l = (omega (arith, e, h), refl)
only-least n (suc (suc s)) r e h l = absurd (omega (arith, e, h))

-- ---- keys and bits
bias_low : (a : ℕ) → a < half → bias_of a ≡ a + half
unfolding bias_of
bias_low a h = rw (lt-ltb a half h)

bias_high : (a : ℕ) → half ≤ a → bias_of a ≡ a - half
unfolding bias_of
bias_high a h = rw (le-ltb a half h)

bias_minus : (x : ℕ) → x ≤ half → bias_of (minus_of x) ≡ half - x
unfolding minus_of
bias_minus x h =
    by-test (eqb x 0)
    (λ y.
    let z : x ≡ 0 = eqb-true x 0 y in
    rw (y, bias_low 0 (omega arith)) (omega (arith, z)))
    (λ y.
    let z : (x ≡ 0 → ⊥) = eqb-false x 0 y in
    rw (y, bias_high (18446744073709551616 - x) (omega (arith, h))) (omega (arith, z, h)))

minus_fits : (x : ℕ) → minus_of x < 2 ^ 64
unfolding minus_of
minus_fits x =
    by-test (eqb x 0) (λ y. rw y (omega arith))
    (λ y. let z : (x ≡ 0 → ⊥) = eqb-false x 0 y in rw y (omega (arith, z)))

-- ---- no quotient
or_false : (b c : Bool) → (b || c) ≡ false → (b ≡ false) × (c ≡ false)
or_false true c e = absurd (true≢false e)
or_false false c e = (refl, e)

and_true : (b c : Bool) → (b && c) ≡ true → (b ≡ true) × (c ≡ true)
and_true true c e = (refl, e)
and_true false c e = absurd (true≢false (sym e))

by-some : (p q : ℕ) → has_none p q ≡ false → q ≡ half → ⊥
unfolding has_none
by-some p q e = eqb-false q half (or_false (eqb q half) _ e).0

not_least : (p q : ℕ) → has_none p q ≡ false → p ≡ 0 → q ≡ 9223372036854775807 → ⊥
unfolding has_none
not_least p q e z o =
    let n = (or_false (eqb q half) _ e).1 in
    true≢false (sym (rw (eq-eqb p 0 z, eq-eqb q 9223372036854775807 o) refl) ∙ n)

module _ (p q u v n size x m y : ℕ) (eu : u ≡ cond (ltb q half) half p) (ev : v ≡ cond (ltb q half) p half)
    (down : v ≤ u → n + v ≡ u) (up : u < v → n + u + 1 ≡ v) (short : q < half → size + q ≡ half)
    (long : half < q → size + half ≡ q) (ex : x ≡ cond (ltb u v) (most - n / size) (n / size))
    (em : m ≡ cond (ltb u v) (size - 1 - n % size) (n % size)) (ey : y ≡ cond (ltb q half) (minus_of m) m) where
  module _ (a b : ℕ) (ha : a < 2 ^ 64) (hb : b < 2 ^ 64) (ep : p ≡ bias_of a) (eq : q ≡ bias_of b) (some_one : has_none p q ≡ false)
    where
      as_false : ltb u v ≡ false → (x ≡ n / size) × (m ≡ n % size)
      as_false e =
          (ex ∙ ap (λ (z : Bool). cond z (most - n / size) (n / size)) e, em ∙ ap (λ (z : Bool). cond z (size - 1 - n % size) (n % size)) e)

      as_true : ltb u v ≡ true → (x ≡ most - n / size) × (m ≡ size - 1 - n % size)
      as_true e =
          (ex ∙ ap (λ (z : Bool). cond z (most - n / size) (n / size)) e, em ∙ ap (λ (z : Bool). cond z (size - 1 - n % size) (n % size)) e)

      module _ (lb : half ≤ b) where
        q-is : q ≡ b - half
        q-is = eq ∙ bias_high b lb

        test : ltb q half ≡ true
        test = lt-ltb q half (omega (arith, q-is, hb))

        u_is : u ≡ half
        u_is = eu ∙ ap (λ (z : Bool). cond z half p) test

        v_is : v ≡ p
        v_is = ev ∙ ap (λ (z : Bool). cond z p half) test

        y_is : y ≡ minus_of m
        y_is = ey ∙ ap (λ (z : Bool). cond z (minus_of m) m) test

        size-short : size + q ≡ half
        size-short = short (omega (arith, q-is, hb))

        whole : size + b ≡ 18446744073709551616
        whole = omega (arith, q-is, lb, size-short)

        zero-down : a ≡ 0 → Divides (to_z w64 a) (to_z w64 b) (Some (x, y))
        unfolding minus_of
        zero-down e =
            let c : p ≡ half = ep ∙ ap bias_of e ∙ bias_low 0 (omega arith) in
            let w = as_false (le-ltb u v (omega (arith, u_is, v_is, c))) in
            let k = down (omega (arith, u_is, v_is, c)) in
            let z : n ≡ 0 = omega (arith, k, u_is, v_is, c) in
            let ex' : x ≡ 0 = w.0 ∙ ap (λ (i : ℕ). i / size) z ∙ zero-div size in
            let em' : m ≡ 0 = w.1 ∙ ap (λ (i : ℕ). i % size) z ∙ zero-mod size in
            let ey' : y ≡ 0 = y_is ∙ ap minus_of em' in
            rw (ex', ey') (zero-by_down a b lb hb size whole e)

        up_down : (a ≡ 0 → ⊥) → a < half → Divides (to_z w64 a) (to_z w64 b) (Some (x, y))
        up_down d h =
            let c : p ≡ a + half = ep ∙ bias_low a h in
            let l : u < v = omega (arith, u_is, v_is, c, d) in
            let w = as_true (lt-ltb u v l) in
            let k = up l in
            let z : n ≡ a - 1 = omega (arith, k, u_is, v_is, c, d) in
            rw w.0 (up_by_down a b lb hb size whole d h n z y (y_is ∙ ap minus_of w.1))

        down_down : half ≤ a → Divides (to_z w64 a) (to_z w64 b) (Some (x, y))
        down_down h =
            let c : p ≡ a - half = ep ∙ bias_high a h in
            let l : v ≤ u = omega (arith, u_is, v_is, c, ha) in
            let w = as_false (le-ltb u v l) in
            let k = down l in
            let z : n + a ≡ 18446744073709551616 = omega (arith, k, u_is, v_is, c, h) in
            rw w.0 (down_by_down a b lb hb size whole h ha n z (fits c z) y (y_is ∙ ap minus_of w.1))
          where
            is_zero : n ≡ half → n + a ≡ 18446744073709551616 → p ≡ a - half → p ≡ 0
            is_zero i z c = omega (arith, i, z, c)

            is_one : size ≡ 1 → q ≡ 9223372036854775807
            is_one i = omega (arith, i, size-short)

            fits : p ≡ a - half → n + a ≡ 18446744073709551616 → n / size ≡ half → ⊥
            fits c z e =
                let d : half * size + n % size ≡ n = ap (λ (i : ℕ). i * size + n % size) (sym e) ∙ div-add-mod' n size in
                let o = only-least n size (n % size) d (omega (arith, z, h)) (omega (arith, whole, hb)) in
                not_least p q some_one (is_zero o.0 z c) (is_one o.1)

      module _ (lb : b < half) where
        q-up : q ≡ b + half
        q-up = eq ∙ bias_low b lb

        b_some : b ≡ 0 → ⊥
        b_some e = by-some p q some_one (omega (arith, q-up, e))

        test_up : ltb q half ≡ false
        test_up = le-ltb q half (omega (arith, q-up))

        u_up : u ≡ p
        u_up = eu ∙ ap (λ (z : Bool). cond z half p) test_up

        v_up : v ≡ half
        v_up = ev ∙ ap (λ (z : Bool). cond z p half) test_up

        y_up : y ≡ m
        y_up = ey ∙ ap (λ (z : Bool). cond z (minus_of m) m) test_up

        size-up : size ≡ b
        size-up =
            let k = long (omega (arith, q-up, b_some)) in
            omega (arith, k, q-up)

        up_up : a < half → Divides (to_z w64 a) (to_z w64 b) (Some (x, y))
        up_up h =
            let c : p ≡ a + half = ep ∙ bias_low a h in
            let l : v ≤ u = omega (arith, u_up, v_up, c) in
            let w = as_false (le-ltb u v l) in
            let k = down l in
            let z : n ≡ a = omega (arith, k, u_up, v_up, c) in
            rw (w.0, y_up, w.1, z, size-up) (up_by_up a b b_some lb h)

        down_up : half ≤ a → Divides (to_z w64 a) (to_z w64 b) (Some (x, y))
        down_up h =
            let c : p ≡ a - half = ep ∙ bias_high a h in
            let l : u < v = omega (arith, u_up, v_up, c, ha) in
            let w = as_true (lt-ltb u v l) in
            let k = up l in
            let z : n ≡ most - a = omega (arith, k, u_up, v_up, c, h, ha) in
            rw (w.0, y_up, w.1, size-up) (down_by_up a b b_some lb h ha n z)

      worked : Divides (to_z w64 a) (to_z w64 b) (Some (x, y))
      worked =
          ⊎_elim
          (λ (lb : b < half). ⊎_elim (up_up lb) (down_up lb) (lt-or_le a half))
          (λ (lb : half ≤ b).
          ⊎_elim
          (λ (l : a < half).
          by-test (eqb a 0) (λ z. zero-down lb (eqb-true a 0 z)) (λ z. up_down lb (eqb-false a 0 z) l))
          (down_down lb)
          (lt-or_le a half))
          (lt-or_le b half)

  -- the quotient's key
  pub quotient-part : (r : ℕ) → n < 2 ^ 64 → r ≡ bias_of x → (code : ℕ) → code ≡ 13 → IsPart code p q r
  unfolding IsPart
  quotient-part r hn er code ec some_one s t (is_null e es) _ = absurd (true≢false (sym e))
  quotient-part r hn er code ec some_one s t (is_key a ha e ea es) (is_null f et) = absurd (true≢false (sym f))
  quotient-part r hn er code ec some_one s t (is_key a ha e ea es) (is_key b hb f eb et) =
      let d : some (key (cond (eqb code 13) x y)) ≡ divided_of code (some (key a)) (some (key b)) =
      divided-keys code (to_z w64 a) (to_z w64 b) (Some (x, y)) (worked a b ha hb ea eb some_one) in
      let c : cond (eqb code 13) x y ≡ x = ap (λ (z : Bool). cond z x y) (eq-eqb code 13 ec) in
      is_key x fits refl er (rw (es, et) (sym d ∙ ap (λ (z : ℕ). some (key z)) c))
    where
      fits : x < 2 ^ 64
      fits =
          let k : n / size ≤ n = div-le_self n size in
          by-test (ltb u v)
          (λ z. let i = ex ∙ ap (λ (t : Bool). cond t (most - n / size) (n / size)) z in omega (arith, i))
          (λ z. let i = ex ∙ ap (λ (t : Bool). cond t (most - n / size) (n / size)) z in omega (arith, i, k, hn))

  -- that of the remainder
  pub remainder-part : (r c : ℕ) → 0 < size → size ≤ half → c ≡ bias_of m → r ≡ cond (ltb q half) (half - m) c
      → (code : ℕ) → (code ≡ 13 → ⊥) → IsPart code p q r
  unfolding IsPart
  remainder-part r c hs ls ec er code nc some_one s t (is_null e es) _ = absurd (true≢false (sym e))
  remainder-part r c hs ls ec er code nc some_one s t (is_key a ha e ea es) (is_null f et) = absurd (true≢false (sym f))
  remainder-part r c hs ls ec er code nc some_one s t (is_key a ha e ea es) (is_key b hb f eb et) =
      let d : some (key (cond (eqb code 13) x y)) ≡ divided_of code (some (key a)) (some (key b)) =
      divided-keys code (to_z w64 a) (to_z w64 b) (Some (x, y)) (worked a b ha hb ea eb some_one) in
      let c : cond (eqb code 13) x y ≡ y = ap (λ (z : Bool). cond z x y) (ne_eqb code 13 nc) in
      is_key y fits refl is (rw (es, et) (sym d ∙ ap (λ (z : ℕ). some (key z)) c))
    where
      small : m < size
      small = rest-small n size m (ltb u v) hs em

      fits : y < 2 ^ 64
      fits =
          by-test (ltb q half)
          (λ z. rw (ey ∙ ap (λ (t : Bool). cond t (minus_of m) m) z) (minus_fits m))
          (λ z. let i = ey ∙ ap (λ (t : Bool). cond t (minus_of m) m) z in omega (arith, i, small, ls))

      is : r ≡ bias_of y
      is =
          by-test (ltb q half)
          (λ z.
          er ∙ ap (λ (t : Bool). cond t (half - m) c) z ∙ sym (bias_minus m (omega (arith, small, ls)))
          ∙ ap bias_of (sym (ey ∙ ap (λ (t : Bool). cond t (minus_of m) m) z)))
          (λ z.
          er ∙ ap (λ (t : Bool). cond t (half - m) c) z ∙ ec
          ∙ ap bias_of (sym (ey ∙ ap (λ (t : Bool). cond t (minus_of m) m) z)))

-- no quotient: null
zero-key : (b : ℕ) → b < 2 ^ 64 → bias_of b ≡ half → b ≡ 0
zero-key b h e =
    ⊎_elim (λ (l : b < half). let i = bias_low b l in omega (arith, i, e))
    (λ (l : half ≤ b). let i = bias_high b l in absurd (omega (arith, i, e, h)))
    (lt-or_le b half)

low-key : (a k : ℕ) → k < half → bias_of a ≡ k → a ≡ k + half
low-key a k h e =
    ⊎_elim (λ (l : a < half). let i = bias_low a l in absurd (omega (arith, i, e, h)))
    (λ (l : half ≤ a). let i = bias_high a l in omega (arith, i, e, l))
    (lt-or_le a half)

pub none-null : (code p q : ℕ) (v w : Option ℤ) → has_none p q ≡ true → KeyAt false p v → KeyAt false q w → divided_of code v w ≡ none
unfolding has_none
none-null code p q v w n (is_null e ev) _ = absurd (true≢false (sym e))
none-null code p q v w n (is_key a ha e ep ev) (is_null f ew) = absurd (true≢false (sym f))
none-null code p q v w n (is_key a ha e ep ev) (is_key b hb f eq ew) =
    rw (ev, ew) (sym (divided-keys code (to_z w64 a) (to_z w64 b) None (by-test (eqb q half) by-nothing by-minus)))
  where
    by-nothing : eqb q half ≡ true → Divides (to_z w64 a) (to_z w64 b) None
    by-nothing z = by_zero a b (zero-key b hb (sym eq ∙ eqb-true q half z))

    by-minus : eqb q half ≡ false → Divides (to_z w64 a) (to_z w64 b) None
    by-minus z =
        let t = and_true (eqb p 0) (eqb q 9223372036854775807) (ap (λ (i : Bool). i || (eqb p 0 && eqb q 9223372036854775807)) (sym z) ∙ n) in
        let ea : a ≡ half = low-key a 0 (omega arith) (sym ep ∙ eqb-true p 0 t.0) in
        let eb : b ≡ most = low-key b 9223372036854775807 (omega arith) (sym eq ∙ eqb-true q 9223372036854775807 t.1) in
        beyond a b (omega (arith, eb)) hb 1 (omega (arith, eb)) (omega (arith, ea)) ha half (omega (arith, ea)) refl

-- is_in on words: the list rule of the row test, row by row.
-- Assumes nothing.
use mathlib.Core.Path.{◌≡◌, refl, sym, ◌∙◌, ap, subst}
use mathlib.Core.Bool.{Bool, true, false, cond, not, ◌&&◌, ◌||◌, or-false, true≢false}
use mathlib.Core.List.{List}
use mathlib.Core.Option.{Option, none, some}
use Prim.Native.Nat.{ℕ, ◌+◌, ◌-◌, ◌^◌, ◌≤◌, ◌<◌}
use native.Mathlib.Omega.{arith}
use lib.Bits.{bit_and, bit_or}
use lib.Dec.{eqb}
use lib.IntN.{ℤ}
use lib.ListN.{get_or}
use Rattle.records.specs.Bytes.{value_at, all}
use Rattle.records.specs.declared.record.Fields.{Fields}
use Rattle.records.proofs.Loops.{all_holds}
use Rattle.checking.specs.Columns.{bit}
use Rattle.checking.proofs.Bits.{bit-or, bit-pow, bit-zero}
use Rattle.records.proofs.Laws.{by-test}
use borrow.Author.Tests.{eq-eqb, ne_eqb, eqb-true, eqb-false}
use Rattle.truth.specs.Order.{Order, is_equal}
use Rattle.truth.specs.Halves.{ord_z, key, bias_of}
use Rattle.three_valued.specs.Logic.{is_true}
use Rattle.truth.specs.Membership.{null_in3, known_in3}
use Rattle.truth.specs.FromBytes.{values_from}
use Rattle.truth.specs.Evaluate.{holds_key, member_of}
use Rattle.membership.proofs.Lists.{list-more, list-found, list_done, list-start, member-null, member-known}
use Rattle.masks.specs.declared.Masks.{Masks}
use Rattle.masks.specs.Masks.{is_unknown, inverse, mask_to, Tells, KeyAt, is_null, is_key, Shown}
use Rattle.masks.specs.Block.{Finds}
use Rattle.masks.proofs.Bits.{bit-and, bit-inverse, mask_bit}
use Rattle.pool_lists.specs.Truths.{Truths}
use Rattle.masks.proofs.Columns.{order-tests}

pub every-bit : (b : Bool) (r : ℕ) → b ≡ true → r ≡ 18446744073709551615 → (i : ℕ) → i < 64 → bit r i ≡ b
unfolding all
every-bit b r e er i h = ap (λ z. bit z i) er ∙ all_holds (λ i. bit 18446744073709551615 i) i 64 h ones ∙ sym e
  where
    ones : all (λ i. bit 18446744073709551615 i) 64 ≡ true
    ones = refl

pub no_bit : (b : Bool) (r : ℕ) → b ≡ false → r ≡ 0 → (i : ℕ) → i < 64 → bit r i ≡ b
no_bit b r e er i h = ap (λ z. bit z i) er ∙ bit-zero i ∙ sym e

-- ---- searching for one key
module _ (p : List ℕ) (start count end i w : ℕ) where
  -- what is left to search decides, whatever value the key is of
  unfoldable pub Left : Type 0
  Left =
      (bits : ℕ) → bits < 2 ^ 64 → w ≡ bias_of bits
      → holds_key (key bits) (values_from p i (end - i)) ≡ holds_key (key bits) (values_from p start count)

pub left-start : (p : List ℕ) (start count w : ℕ) → Left p start count (start + count) start w
unfolding Left
left-start p start count w bits h e = list-start p (key bits) start count

module _ (p : List ℕ) (start count end i w x v : ℕ) (left : Left p start count end i w) (h : i < end)
    (ev : v ≡ value_at p i) (hv : v < 2 ^ 64) (ex : x ≡ bias_of v) where
  told : (b : Bool) → eqb x w ≡ b → (bits : ℕ) → bits < 2 ^ 64 → w ≡ bias_of bits
      → is_equal (ord_z.cmp (key bits) (key (value_at p i))) ≡ b
  told b e bits hb ew =
      rw (← ev) (sym (order-tests bits v hb hv).1 ∙ rw (← ew, ← ex) (turned ∙ e))
    where
      turned : eqb w x ≡ eqb x w
      turned =
          by-test (eqb x w) (λ y. eq-eqb w x (sym (eqb-true x w y)) ∙ sym y)
          (λ y. ne_eqb w x (λ z. eqb-false x w y (sym z)) ∙ sym y)

  pub left-more : (x ≡ w → ⊥) → Left p start count end (i + 1) w
  unfolding Left
  left-more d bits hb ew =
      list-more p (key bits) i end _ (left bits hb ew) h (told false (ne_eqb x w d) bits hb ew)

  pub left-found : x ≡ w → (bits : ℕ) → bits < 2 ^ 64 → w ≡ bias_of bits
      → true ≡ holds_key (key bits) (values_from p start count)
  unfolding Left
  left-found d bits hb ew = list-found p (key bits) i end _ (left bits hb ew) h (told true (eq-eqb x w d) bits hb ew)

pub left-done : (p : List ℕ) (start count end i w : ℕ) → Left p start count end i w → end ≤ i
    → (bits : ℕ) → bits < 2 ^ 64 → w ≡ bias_of bits → false ≡ holds_key (key bits) (values_from p start count)
unfolding Left
left-done p start count end i w left h bits hb ew = list_done p (key bits) i end _ (left bits hb ew) h

-- ---- for 64 of them
unfoldable pub FindsTo : List ℕ → ℕ → List ℕ → ℕ → ℕ → Type 0
FindsTo keys at values n m =
    ((i : ℕ) → n ≤ i → bit m i ≡ false)
    × ((i bits : ℕ) → i < n → bits < 2 ^ 64 → get_or keys (at + i) 0 ≡ bias_of bits → bit m i ≡ holds_key (key bits) values)

pub finds_none : (keys : List ℕ) (at : ℕ) (values : List ℕ) → FindsTo keys at values 0 0
unfolding FindsTo
finds_none keys at values = (λ i h. bit-zero i, λ i bits h hb e. absurd (omega (arith, h)))

other_bit : (b : Bool) (m n i : ℕ) → (i ≡ n → ⊥) → bit (cond b (bit_or m (2 ^ n)) m) i ≡ bit m i
other_bit true m n i d =
    bit-or m (2 ^ n) i ∙ rw (bit-pow n i, ne_eqb n i (λ z. d (sym z))) (or-false (bit m i))
other_bit false m n i d = refl

own_bit : (b : Bool) (m n : ℕ) → bit m n ≡ false → bit (cond b (bit_or m (2 ^ n)) m) n ≡ b
own_bit true m n e = bit-or m (2 ^ n) n ∙ rw (bit-pow n n, eq-eqb n n refl, e)
own_bit false m n e = e

pub finds_more : (keys : List ℕ) (at : ℕ) (values : List ℕ) (n m r : ℕ) (b : Bool) → FindsTo keys at values n m
    → ((bits : ℕ) → bits < 2 ^ 64 → get_or keys (at + n) 0 ≡ bias_of bits → b ≡ holds_key (key bits) values)
    → r ≡ cond b (bit_or m (2 ^ n)) m → FindsTo keys at values (n + 1) r
unfolding FindsTo
finds_more keys at values n m r b s found er = (
  λ i h. ap (λ z. bit z i) er ∙ other_bit b m n i (λ z. omega (arith, h, z)) ∙ s.0 i (omega (arith, h)),
  λ i bits h hb e.
      ap (λ z. bit z i) er
      ∙ by-test (eqb i n)
      (λ y.
      let q : i ≡ n = eqb-true i n y in
      subst (λ j. bit (cond b (bit_or m (2 ^ n)) m) j ≡ holds_key (key bits) values) (sym q)
      (own_bit b m n (s.0 n (omega arith)) ∙ found bits hb (subst (λ j. get_or keys (at + j) 0 ≡ bias_of bits) q e)))
      (λ y.
      let d : (i ≡ n → ⊥) = eqb-false i n y in
      other_bit b m n i d ∙ s.1 i bits (omega (arith, h, d)) hb e),
)

pub finds_done : (keys : List ℕ) (at : ℕ) (values : List ℕ) (n m : ℕ) → n ≡ 64 → FindsTo keys at values n m
    → Finds keys at values m
unfolding FindsTo Finds
finds_done keys at values n m e s i bits h hb ek = s.1 i bits (omega (arith, e, h)) hb ek

-- ---- the rule, at one row: found, nulls_equal, holds a null, has no value
null_table : (f e h z : Bool) → (((f && false) || ((e && h) && true)) ≡ is_true (null_in3 e h z))
    × ((((not e && (h || not z)) && true) || ((not e && h) && not (f || true))) ≡ is_unknown (null_in3 e h z))
unfolding null_in3
null_table true true true true = (refl, refl)
null_table true true true false = (refl, refl)
null_table true true false true = (refl, refl)
null_table true true false false = (refl, refl)
null_table true false true true = (refl, refl)
null_table true false true false = (refl, refl)
null_table true false false true = (refl, refl)
null_table true false false false = (refl, refl)
null_table false true true true = (refl, refl)
null_table false true true false = (refl, refl)
null_table false true false true = (refl, refl)
null_table false true false false = (refl, refl)
null_table false false true true = (refl, refl)
null_table false false true false = (refl, refl)
null_table false false false true = (refl, refl)
null_table false false false false = (refl, refl)

known-table : (f e h z : Bool) → (((f && true) || ((e && h) && false)) ≡ is_true (known_in3 e h f))
    × ((((not e && (h || not z)) && false) || ((not e && h) && not (f || false))) ≡ is_unknown (known_in3 e h f))
unfolding known_in3
known-table true true true true = (refl, refl)
known-table true true true false = (refl, refl)
known-table true true false true = (refl, refl)
known-table true true false false = (refl, refl)
known-table true false true true = (refl, refl)
known-table true false true false = (refl, refl)
known-table true false false true = (refl, refl)
known-table true false false false = (refl, refl)
known-table false true true true = (refl, refl)
known-table false true true false = (refl, refl)
known-table false true false true = (refl, refl)
known-table false true false false = (refl, refl)
known-table false false true true = (refl, refl)
known-table false false true false = (refl, refl)
known-table false false false true = (refl, refl)
known-table false false false false = (refl, refl)

module _ (p : List ℕ) (g : Fields) (equal : Bool) where
  abbrev holds : Bool
  holds = eqb g.code 1

  abbrev empty : Bool
  empty = eqb g.b 0

  member-row : (n : Bool) (k : ℕ) (v : Option ℤ) (f : Bool)
      → ((bits : ℕ) → bits < 2 ^ 64 → k ≡ bias_of bits → f ≡ holds_key (key bits) (values_from p g.a g.b)) → KeyAt n k v
      → (((f && not n) || ((equal && holds) && n)) ≡ is_true (member_of p g equal v))
      × ((((not equal && (holds || not empty)) && n) || ((not equal && holds) && not (f || n))) ≡ is_unknown (member_of p g equal v))
  unfolding member_of
  member-row n k v f found (is_null e ev) =
      rw (e, ev, ← member-null p g.a g.b equal holds) (null_table f equal holds empty)
  member-row n k v f found (is_key bits h e ek ev) =
      rw (e, ev, ← member-known p g.a g.b equal holds (key bits), ← found bits h ek) (known-table f equal holds empty)

  module _ (rows : ℕ) (keys : List ℕ) (at nulls found certain likely unsure inv both : ℕ) (r : Masks)
      (finds : Finds keys at (values_from p g.a g.b) found)
      (ec : (i : ℕ) → i < 64 → bit certain i ≡ (equal && holds))
      (el : (i : ℕ) → i < 64 → bit likely i ≡ (not equal && (holds || not empty)))
      (eo : (i : ℕ) → i < 64 → bit unsure i ≡ (not equal && holds))
      (ei : inv ≡ inverse nulls) (eb : both ≡ inverse (bit_or found nulls))
      (et : r.truths ≡ bit_or (bit_and found inv) (bit_and certain nulls))
      (eu : r.unknowns ≡ bit_or (bit_and likely nulls) (bit_and unsure both)) where
    pub member-tells : (value : ℕ → Option ℤ) → Shown rows keys at nulls value
        → Tells rows r (λ i. member_of p g equal (value i))
    unfolding Tells Shown Finds
    member-tells value s i h k =
        let q =
        member-row (bit nulls i) (get_or keys (at + i) 0) (value i) (bit found i) (λ bits hb e. finds i bits h hb e) (s i h k)
        in (
          ap (λ z. bit z i) et ∙ bit-or (bit_and found inv) (bit_and certain nulls) i
              ∙ rw (bit-and found inv i, bit-and certain nulls i, ei, bit-inverse nulls i h, ec i h) q.0,
          ap (λ z. bit z i) eu ∙ bit-or (bit_and likely nulls) (bit_and unsure both) i
              ∙ rw (
                bit-and likely nulls i,
                bit-and unsure both i,
                eb,
                bit-inverse (bit_or found nulls) i h,
                bit-or found nulls i,
                el i h,
                eo i h,
              )
              q.1,
        )

-- ---- where the keys are those of truths
pub truths-found : (keys : List ℕ) (at ones zeros : ℕ) (values : List ℕ) (one nought : Bool) (m n r : ℕ)
    → ((bits : ℕ) → bits < 2 ^ 64 → 9223372036854775809 ≡ bias_of bits → one ≡ holds_key (key bits) values)
    → ((bits : ℕ) → bits < 2 ^ 64 → 9223372036854775808 ≡ bias_of bits → nought ≡ holds_key (key bits) values)
    → ((i : ℕ) → i < 64 → bit m i ≡ one) → ((i : ℕ) → i < 64 → bit n i ≡ nought)
    → r ≡ bit_or (bit_and ones m) (bit_and zeros n) → Truths keys at ones zeros → Finds keys at values r
unfolding Finds
truths-found keys at ones zeros values one nought m n r asked asked' em en er t i bits h hb e =
    ap (λ z. bit z i) er
    ∙ bit-or (bit_and ones m) (bit_and zeros n) i
    ∙ rw (bit-and ones m i, bit-and zeros n i, em i h, en i h, bit-one, bit-zeros) told
  where
    x : ℕ
    x = get_or keys (at + i) 0

    bit-one : bit ones i ≡ eqb x 9223372036854775809
    bit-one = ap (λ z. bit z i) t.one ∙ mask_bit _ 64 i h

    bit-zeros : bit zeros i ≡ eqb x 9223372036854775808
    bit-zeros = ap (λ z. bit z i) t.nought ∙ mask_bit _ 64 i h

    either : (eqb x 9223372036854775809 || eqb x 9223372036854775808) ≡ true
    either =
        sym (bit-or ones zeros i ∙ rw (bit-one, bit-zeros) refl)
        ∙ every-bit true _ refl t.every i h

    told : ((eqb x 9223372036854775809 && one) || (eqb x 9223372036854775808 && nought)) ≡ holds_key (key bits) values
    told =
        by-test (eqb x 9223372036854775809)
        (λ y.
        let q : x ≡ 9223372036854775809 = eqb-true _ _ y in
        let z : eqb x 9223372036854775808 ≡ false = ne_eqb x 9223372036854775808
        (λ (o : x ≡ 9223372036854775808). omega (arith, q, o)) in
        rw (y, z) (or-false one ∙ asked bits hb (sym q ∙ e)))
        (λ y.
        by-test (eqb x 9223372036854775808)
        (λ u.
        let q : x ≡ 9223372036854775808 = eqb-true _ _ u in
        rw (y, u) (asked' bits hb (sym q ∙ e)))
        (λ u. absurd (true≢false (sym (rw (y, u) at either)))))

-- ---- where all are one key
pub alike-found : (keys : List ℕ) (at w same : ℕ) (values : List ℕ) (b : Bool) (r : ℕ)
    → same ≡ mask_to (λ (i : ℕ). eqb (get_or keys (at + i) 0) w) 64 → same ≡ 18446744073709551615
    → ((bits : ℕ) → bits < 2 ^ 64 → w ≡ bias_of bits → b ≡ holds_key (key bits) values) → ((i : ℕ) → i < 64 → bit r i ≡ b)
    → Finds keys at values r
unfolding Finds
alike-found keys at w same values b r es All-same asked er i bits h hb e =
    let q : get_or keys (at + i) 0 ≡ w =
    eqb-true _ _
    (sym (ap (λ z. bit z i) es ∙ mask_bit (λ (j : ℕ). eqb (get_or keys (at + j) 0) w) 64 i h)
    ∙ every-bit true same refl All-same i h) in
    er i h ∙ asked bits hb (sym q ∙ e)

-- ---- where the first 64 keys stay
pub finds_kept : (before after values : List ℕ) (m : ℕ) → ((j : ℕ) → j < 64 → get_or after j 0 ≡ get_or before j 0)
    → Finds after 0 values m → Finds before 0 values m
unfolding Finds
finds_kept before after values m same f i bits h hb e =
    let z : 0 + i ≡ i = omega arith in
    f i bits h hb (ap (λ n. get_or after n 0) z ∙ same i h ∙ ap (λ n. get_or before n 0) (sym z) ∙ e)

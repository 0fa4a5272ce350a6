-- A row's checks: the words that its values are put together in, and what a row that fits is.
-- Assumes nothing.
use Rattle.std.proofs.Common.{◌≡◌, ℕ, zero, suc, ◌+◌, ◌*◌, ◌/◌, ◌%◌, ◌^◌, ◌<◌, ◌≤◌, Bool, true, false, cond, not, ◌&&◌, ◌||◌, eqb, ltb, leb, List, length, get_or, drop, set, sym, refl, ap, ◌∙◌, subst, mod-eq_of_lt, add-one, arith, length-drop, length-take-le, get_or-set_other, get_or-set_same, pow_pos, ltb-false, ltb-true, le-ltb, lt-ltb, eq-eqb, ne_eqb, eqb-true, le-leb}
use mathlib.Core.Bool.{and-false}
use lib.Bits.{bit_and, bit_or, or_add_and, and_le_l, and_le_r, and_zero_r, and_high}
use borrow.Author.Tests.{eqb-false, lt-leb}
use Rattle.records.specs.Bytes.{all, value_at}
use Rattle.records.specs.Shape.{in_type, in_type_in}
use Rattle.records.proofs.Laws.{by-test}
use Rattle.records.proofs.Loops.{flag_no, flag_yes, all_true}
use Rattle.checking.proofs.Bits.{bit-zero}
use Rattle.truth.specs.FromBytes.{null_marked}
use Rattle.row_test.specs.RowTest.{column_ok, columns_ok, marks_ok, row_fault}
use Rattle.masks.proofs.Blocks.{value_of, value-end}
use Rattle.chain_rows.specs.Chain.{row_at}
use Rattle.chain_rows.specs.Classes.{row_fits}
use Rattle.chain_rows.specs.Limits.{limit_bias, limit_mask, Limits, WideRow}

-- ---- words that are 0
or_none : (a b : ℕ) → eqb (bit_or a b) 0 ≡ (eqb a 0 && eqb b 0)
or_none a b = by-test (eqb a 0) (λ ea. by-test (eqb b 0) (both ea) (second ea)) first
  where
    s : bit_or a b + bit_and a b ≡ a + b
    s = or_add_and a b

    l : bit_and a b ≤ a
    l = and_le_l a b

    r : bit_and a b ≤ b
    r = and_le_r a b

    both : eqb a 0 ≡ true → eqb b 0 ≡ true → eqb (bit_or a b) 0 ≡ (eqb a 0 && eqb b 0)
    both ea eb =
        let p = eqb-true a 0 ea in
        let q = eqb-true b 0 eb in
        eq-eqb (bit_or a b) 0 (omega (arith, s, l, r, p, q)) ∙ rw (ea, eb)

    second : eqb a 0 ≡ true → eqb b 0 ≡ false → eqb (bit_or a b) 0 ≡ (eqb a 0 && eqb b 0)
    second ea eb =
        let q : (b ≡ 0 → ⊥) = eqb-false b 0 eb in
        ne_eqb (bit_or a b) 0 (λ z. q (omega (arith, s, l, r, z))) ∙ rw (ea, eb)

    first : eqb a 0 ≡ false → eqb (bit_or a b) 0 ≡ (eqb a 0 && eqb b 0)
    first ea =
        let q : (a ≡ 0 → ⊥) = eqb-false a 0 ea in
        ne_eqb (bit_or a b) 0 (λ z. q (omega (arith, s, l, r, z))) ∙ rw ea

-- one more value
pub or_all : (f : ℕ → ℕ) (c m r x : ℕ) → eqb m 0 ≡ all (λ (j : ℕ). eqb (f j) 0) c → x ≡ f c → r ≡ bit_or m x
    → eqb r 0 ≡ all (λ (j : ℕ). eqb (f j) 0) (c + 1)
unfolding all
or_all f c m r x em ex er =
    ap (λ z. eqb z 0) er ∙ or_none m x ∙ ap (λ z. eqb m 0 && eqb z 0) ex ∙ ap (λ b. b && eqb (f c) 0) em ∙ more
  where
    more : (all (λ (j : ℕ). eqb (f j) 0) c && eqb (f c) 0) ≡ all (λ (j : ℕ). eqb (f j) 0) (c + 1)
    more = rw add-one

pub all_start : (p : ℕ → Bool) → true ≡ all p 0
unfolding all
all_start p = refl

pub all_end : (p : ℕ → Bool) (c n : ℕ) (b : Bool) → c ≡ n → b ≡ all p c → b ≡ all p n
all_end p c n b e h = h ∙ ap (all p) e

-- ---- the limits
pub limits_none : (table limits : List ℕ) → Limits table limits 0
unfolding Limits
limits_none table limits c h = absurd (omega (arith, h))

pub limits_more : (table limits : List ℕ) (n x y : ℕ) → n < 64 → 128 ≤ length limits → 128 ≤ length (set limits n x)
    → x ≡ limit_bias (get_or table n 0) → y ≡ limit_mask (get_or table n 0) → Limits table limits n
    → Limits table (set (set limits n x) (64 + n) y) (n + 1)
unfolding Limits
limits_more table limits n x y h room room' ex ey s c l = by-test (eqb c n) same other
  where
    Goal : ℕ → Type 0
    Goal c =
        (get_or (set (set limits n x) (64 + n) y) c 0 ≡ limit_bias (get_or table c 0))
        × (get_or (set (set limits n x) (64 + n) y) (64 + c) 0 ≡ limit_mask (get_or table c 0))

    here : Goal n
    here = (
      get_or-set_other (set limits n x) (64 + n) n y 0 (λ z. omega (arith, z))
          ∙ get_or-set_same limits n x 0 (omega (arith, h, room)) ∙ ex,
      get_or-set_same (set limits n x) (64 + n) y 0 (omega (arith, h, room')) ∙ ey,
    )

    same : eqb c n ≡ true → Goal c
    same e = subst Goal (sym (eqb-true c n e)) here

    other : eqb c n ≡ false → Goal c
    other e =
        let d : (c ≡ n → ⊥) = eqb-false c n e in
        let k : c < n = omega (arith, d, l) in (
          get_or-set_other (set limits n x) (64 + n) c y 0 (λ z. omega (arith, z, k, h))
              ∙ get_or-set_other limits n c x 0 d ∙ (s c k).0,
          get_or-set_other (set limits n x) (64 + n) (64 + c) y 0 (λ z. d (omega (arith, z)))
              ∙ get_or-set_other limits n (64 + c) x 0 (λ z. omega (arith, z, h)) ∙ (s c k).1,
        )

pub limits_done : (table limits : List ℕ) (c n : ℕ) → c ≡ n → Limits table limits c → Limits table limits n
limits_done table limits c n e s = subst (Limits table limits) e s

pub wide-none : (columns : ℕ) (values : List ℕ) (row : ℕ) → WideRow columns values row 0
unfolding WideRow
wide-none columns values row c h = absurd (omega (arith, h))

pub wide-more : (columns : ℕ) (values : List ℕ) (row n v : ℕ) → v < 2 ^ 64 → v ≡ value_at values (columns * row + n)
    → WideRow columns values row n → WideRow columns values row (n + 1)
unfolding WideRow
wide-more columns values row n v hv ev s c h =
    by-test (eqb c n)
    (λ e. subst (λ z. value_at values (columns * row + z) < 2 ^ 64) (sym (eqb-true c n e)) (subst (λ z. z < 2 ^ 64) ev hv))
    (λ e. let d : (c ≡ n → ⊥) = eqb-false c n e in s c (omega (arith, d, h)))

pub wide-done : (columns : ℕ) (values : List ℕ) (row c n : ℕ) → c ≡ n → WideRow columns values row c
    → WideRow columns values row n
wide-done columns values row c n e s = subst (WideRow columns values row) e s

-- where a row's value lies
pub value-within : (w c row n : ℕ) → c < w → 8 * w * row + 8 * w ≤ n → 8 * (w * row + c) + 7 < n
value-within w c row n h l =
    let e : 8 * w * row ≡ 8 * (w * row) = omega arith in omega (arith, h, l, e)

pub place-small : (w c row : ℕ) → c < w → w ≤ 64 → row < 1024 → w * row + c < 65536
place-small w c row h hw hr =
    let e = value-end w c row 1024 h hr in omega (arith, e, hw)

-- ---- the types
-- a number below the whole has no high part only where it is low
high_part : (n k b : ℕ) → n / k < b → n / k % b * k ≡ 0 → n / k * k ≡ 0
high_part n k b h e = ap (λ z. z * k) (sym (mod-eq_of_lt h)) ∙ e

day_bits : (n : ℕ) → n < 2 ^ 64 → eqb (bit_and n 18446744069414584320) 0 ≡ ltb n 4294967296
day_bits n h =
    let a : bit_and n 18446744069414584320 ≡ n / 4294967296 % 4294967296 * 4294967296 = and_high n 32 32 in
    let b : n / 4294967296 < 4294967296 = omega (arith, h) in
    by-test (ltb n 4294967296)
    (λ e.
    let l : n < 4294967296 = ltb-true n 4294967296 e in
    let q : n / 4294967296 % 4294967296 * 4294967296 ≡ 0 = omega (arith, l) in
    eq-eqb (bit_and n 18446744069414584320) 0 (a ∙ q) ∙ sym e)
    (λ e.
    let l : 4294967296 ≤ n = ltb-false n 4294967296 e in
    ne_eqb (bit_and n 18446744069414584320) 0
    (λ z. let q = high_part n 4294967296 4294967296 b (sym a ∙ z) in omega (arith, l, q)) ∙ sym e)

truth-bits : (n : ℕ) → n < 2 ^ 64 → eqb (bit_and n 18446744073709551614) 0 ≡ leb n 1
truth-bits n h =
    let a : bit_and n 18446744073709551614 ≡ n / 2 % 9223372036854775808 * 2 = and_high n 63 1 in
    let b : n / 2 < 9223372036854775808 = omega (arith, h) in
    by-test (ltb n 2)
    (λ e.
    let l : n < 2 = ltb-true n 2 e in
    let q : n / 2 % 9223372036854775808 * 2 ≡ 0 = omega (arith, l) in
    eq-eqb (bit_and n 18446744073709551614) 0 (a ∙ q) ∙ sym (le-leb n 1 (omega (arith, l))))
    (λ e.
    let l : 2 ≤ n = ltb-false n 2 e in
    ne_eqb (bit_and n 18446744073709551614) 0
    (λ z. let q = high_part n 2 9223372036854775808 b (sym a ∙ z) in omega (arith, l, q)) ∙ sym (lt-leb n 1 (omega (arith, l))))

day_type : (v : ℕ) → v < 2 ^ 64 → ltb ((v + 2147483648) % 2 ^ 64) 4294967296 ≡ (ltb v 2147483648 || leb 18446744071562067968 v)
day_type v h =
    by-test (ltb v 2147483648)
    (λ e.
    let l : v < 2147483648 = ltb-true v 2147483648 e in
    lt-ltb ((v + 2147483648) % 2 ^ 64) 4294967296 (omega (arith, l)) ∙ rw e)
    (λ e.
    let l : 2147483648 ≤ v = ltb-false v 2147483648 e in
    by-test (ltb v 18446744071562067968)
    (λ f.
    let k : v < 18446744071562067968 = ltb-true v 18446744071562067968 f in
    le-ltb ((v + 2147483648) % 2 ^ 64) 4294967296 (omega (arith, l, k)) ∙ rw (e, lt-leb 18446744071562067968 v k))
    (λ f.
    let k : 18446744071562067968 ≤ v = ltb-false v 18446744071562067968 f in
    lt-ltb ((v + 2147483648) % 2 ^ 64) 4294967296 (omega (arith, h, k)) ∙ rw (e, le-leb 18446744071562067968 v k)))

limits_tell : (ty v : ℕ) → v < 2 ^ 64 → eqb (bit_and ((v + limit_bias ty) % 2 ^ 64) (limit_mask ty)) 0 ≡ in_type ty v
unfolding limit_bias limit_mask in_type_in
limits_tell ty v h = by-test (eqb ty 1) one (λ e1. by-test (eqb ty 2) (two e1) (three e1))
  where
    Goal : Type 0
    Goal =
        eqb (bit_and ((v + cond (eqb ty 2) 2147483648 0) % 2 ^ 64)
        (cond (eqb ty 1) 0 (cond (eqb ty 2) 18446744069414584320 18446744073709551614))) 0
        ≡ cond (eqb ty 1) true (cond (eqb ty 2) (ltb v 2147483648 || leb 18446744071562067968 v) (leb v 1))

    one : eqb ty 1 ≡ true → Goal
    one e = rw e (eq-eqb _ 0 (and_zero_r ((v + cond (eqb ty 2) 2147483648 0) % 2 ^ 64)))

    two : eqb ty 1 ≡ false → eqb ty 2 ≡ true → Goal
    two e1 e2 = rw (e1, e2) (day_bits ((v + 2147483648) % 2 ^ 64) (omega arith) ∙ day_type v h)

    three : eqb ty 1 ≡ false → eqb ty 2 ≡ false → Goal
    three e1 e2 =
        let z : (v + 0) % 2 ^ 64 ≡ v = omega (arith, h) in rw (e1, e2, z) (truth-bits v h)

-- ---- a row
all_alike : (p q : ℕ → Bool) (n : ℕ) → ((i : ℕ) → i < n → p i ≡ q i) → all p n ≡ all q n
unfolding all
all_alike p q zero e = refl
all_alike p q (suc n) e = rw (all_alike p q n (λ i h. e i (omega (arith, h))), e n (omega arith))

and_swap : (a b c d : Bool) → ((a && b) && (c && d)) ≡ ((a && c) && (b && d))
and_swap true b true d = refl
and_swap true b false d = and-false b
and_swap false b c d = refl

all_both : (p q : ℕ → Bool) (n : ℕ) → all (λ (i : ℕ). p i && q i) n ≡ (all p n && all q n)
unfolding all
all_both p q zero = refl
all_both p q (suc n) = ap (λ b. b && (p n && q n)) (all_both p q n) ∙ and_swap (all p n) (all q n) (p n) (q n)

zero_in : (ty : ℕ) → in_type ty 0 ≡ true
unfolding in_type_in
zero_in ty = by-test (eqb ty 1) (λ e. rw e) (λ e. by-test (eqb ty 2) (λ f. rw (e, f)) (λ f. rw (e, f)))

-- 0 is a value of every type
column-split : (ty : ℕ) (b : Bool) (v : ℕ) → column_ok ty b v ≡ (in_type ty v && eqb (cond b v 0) 0)
unfolding column_ok
column-split ty true v =
    by-test (eqb v 0)
    (λ e. rw (e, eqb-true v 0 e, zero_in ty))
    (λ e. rw e (sym (and-false (in_type ty v))))
column-split ty false v = sym (and_true (in_type ty v))
  where
    and_true : (b : Bool) → (b && true) ≡ b
    and_true true = refl
    and_true false = refl

abbrev types_at : List ℕ → List ℕ → ℕ → ℕ → Bool
types_at table values row w = all (λ (c : ℕ). in_type (get_or table c 0) (value_at values (w * row + c))) w

abbrev nulls_at : List ℕ → ℕ → ℕ → ℕ → Bool
nulls_at values row nulls w = all (λ (c : ℕ). eqb (cond (null_marked nulls c) (value_at values (w * row + c)) 0) 0) w

abbrev Within : List ℕ → ℕ → ℕ → Type 0
Within values row w = 8 * w * row + 8 * w ≤ length values

row-long : (table values : List ℕ) (row : ℕ) → Within values row (length table)
    → length (row_at table values row) ≡ 8 * length table
unfolding row_at
row-long table values row room =
    length-take-le (8 * length table) (drop (8 * length table * row) values)
    (subst (λ k. 8 * length table ≤ k) (sym (length-drop (8 * length table * row) values)) (omega (arith, room)))

columns-split : (table values : List ℕ) (row nulls : ℕ)
    → columns_ok table (row_at table values row) nulls
    ≡ (types_at table values row (length table) && nulls_at values row nulls (length table))
unfolding columns_ok row_at
columns-split table values row nulls =
    all_alike _ (λ (c : ℕ). in_type (get_or table c 0) (value_at values (length table * row + c))
    && eqb (cond (null_marked nulls c) (value_at values (length table * row + c)) 0) 0) (length table)
    (λ c h. ap (column_ok (get_or table c 0) (null_marked nulls c)) (value_of (length table) row c values h)
    ∙ column-split (get_or table c 0) (null_marked nulls c) (value_at values (length table * row + c)))
    ∙ all_both (λ (c : ℕ). in_type (get_or table c 0) (value_at values (length table * row + c)))
    (λ (c : ℕ). eqb (cond (null_marked nulls c) (value_at values (length table * row + c)) 0) 0) (length table)

no_fault : (b : Bool) → eqb (cond b 0 13) 0 ≡ b
no_fault true = refl
no_fault false = refl

turned : (m t n : Bool) → (m && (t && n)) ≡ (t && (m && n))
turned true t n = refl
turned false true n = refl
turned false false n = refl

fits-at : (table values chain : List ℕ) (row nulls : ℕ) → Within values row (length table) → nulls ≡ get_or chain row 0
    → row_fits table values chain row
    ≡ (types_at table values row (length table) && (marks_ok (length table) nulls && nulls_at values row nulls (length table)))
unfolding row_fits row_fault
fits-at table values chain row nulls room en =
    rw (eq-eqb _ _ (row-long table values row room), ← en)
    (no_fault (marks_ok (length table) nulls && columns_ok table (row_at table values row) nulls)
    ∙ ap (λ b. marks_ok (length table) nulls && b) (columns-split table values row nulls)
    ∙ turned (marks_ok (length table) nulls) (types_at table values row (length table)) (nulls_at values row nulls (length table)))

module _ (table values chain limits : List ℕ) (row columns nulls o : ℕ) (room : Within values row columns)
    (wide : WideRow columns values row columns)
    (eo : eqb o 0
    ≡ all (λ (c : ℕ). eqb (bit_and ((value_at values (columns * row + c) + get_or limits c 0) % 2 ^ 64) (get_or limits (64 + c) 0)) 0)
    columns)
    (ec : length table ≡ columns) (lim : Limits table limits columns) (en : nulls ≡ get_or chain row 0) where
  types-told : eqb o 0 ≡ types_at table values row columns
  unfolding Limits WideRow
  types-told =
      eo ∙ all_alike _ (λ (c : ℕ). in_type (get_or table c 0) (value_at values (columns * row + c))) columns
      (λ c h. rw ((lim c h).0, (lim c h).1) (limits_tell (get_or table c 0) (value_at values (columns * row + c)) (wide c h)))

  row_told : row_fits table values chain row ≡ (eqb o 0 && (marks_ok columns nulls && nulls_at values row nulls columns))
  row_told =
      subst (λ w. Within values row w
      → row_fits table values chain row ≡ (types_at table values row w && (marks_ok w nulls && nulls_at values row nulls w))) ec
      (λ r. fits-at table values chain row nulls r en) room
      ∙ ap (λ b. b && (marks_ok columns nulls && nulls_at values row nulls columns)) (sym types-told)

  pub row-outside : (o ≡ 0 → ⊥) → false ≡ row_fits table values chain row
  row-outside d = sym (row_told ∙ rw (ne_eqb o 0 d))

  pub row_plain : o ≡ 0 → nulls ≡ 0 → true ≡ row_fits table values chain row
  row_plain z e = sym (row_told ∙ rw (eq-eqb o 0 z, e, lt-ltb 0 (2 ^ columns) (pow_pos columns)) (all_true _ unmarked columns))
    where
      unmarked : (c : ℕ) → eqb (cond (null_marked 0 c) (value_at values (columns * row + c)) 0) 0 ≡ true
      unmarked c = rw (bit-zero c)

  pub row-marks : (m : Bool) → m ≡ marks_ok columns nulls → not m ≡ true → false ≡ row_fits table values chain row
  row-marks m em e = sym (row_told ∙ rw (← em, flag_no {r = m} {x = m} refl e) (and-false (eqb o 0)))

  pub row-nulls : o ≡ 0 → (m : Bool) → m ≡ marks_ok columns nulls → not m ≡ false → (z : ℕ)
      → eqb z 0 ≡ nulls_at values row nulls columns → eqb z 0 ≡ row_fits table values chain row
  row-nulls eo0 m em e z ez = ez ∙ sym (row_told ∙ rw (eq-eqb o 0 eo0, ← em, flag_yes {r = m} {x = m} refl e))

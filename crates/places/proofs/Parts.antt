-- Whether two places have one value is told by their parts.
-- Assumes nothing.
use mathlib.Core.Path.{◌≡◌, refl, sym, ◌∙◌, ap, subst}
use mathlib.Core.Bool.{Bool, true, false, true≢false}
use mathlib.Core.Logic.{⊎_elim}
use Prim.Native.Nat.{ℕ, suc, ◌+◌, ◌-◌, ◌<◌, ◌≤◌, ◌^◌}
use native.Mathlib.Omega.{arith}
use lib.Dec.{eqb}
use lib.IntN.{ℤ, pos, negsuc, suc_ℤ, pred_ℤ, +ℤ_one, +ℤ_idr, suc-pred, pred-suc, pos-ne-negsuc}
use mir.Syntax.{w64}
use mir.Val.{to_z}
use borrow.Author.Tests.{lt-ltb, le-ltb, eq-eqb, eqb-true, eqb-false}
use Rattle.records.proofs.Laws.{by-test}
use Rattle.truth.specs.Order.{View, less_view, equal_view, greater_view, is_equal}
use Rattle.truth.specs.Halves.{less_z, cmp_z, ord_z, key}
use Rattle.std.specs.declared.cmp.Ordering.{Ordering}
use Rattle.truth.proofs.Orders.{total-z}
use Rattle.truth.proofs.Keys.{lt-or_le}
use Rattle.truth.proofs.HalfPoints.{half_is_no_whole}
use Rattle.places.specs.declared.place.Half.{Half}
use Rattle.places.specs.declared.place.Half.TheVariants.{Minus, Zero, Plus}
use Rattle.places.specs.Held.{key_in, is_next, same_parts}
use Rattle.places.proofs.Order.{minus_one}

-- A test that holds exactly if two keys are equal.
told : (a b : ℤ) (r : Bool) → (r ≡ true → a ≡ b) → (a ≡ b → r ≡ true) → r ≡ is_equal (cmp_z a b)
told a b r f g = go r f g (total-z.view a b)
  where
    go : (r : Bool) → (r ≡ true → a ≡ b) → (a ≡ b → r ≡ true) → {o : Ordering} → View less_z a b o → r ≡ is_equal o
    go true f g (less_view l) = absurd (total-z.irrefl {a = b} (subst (λ x. less_z x b) (f refl) l))
    go true f g (equal_view e) = refl
    go true f g (greater_view l) = absurd (total-z.irrefl {a = b} (subst (λ x. less_z b x) (f refl) l))
    go false f g (less_view l) = refl
    go false f g (equal_view e) = g e
    go false f g (greater_view l) = refl

-- ---- Keys of 64 bits.
abbrev middle : ℕ
middle = 9223372036854775808

key-low : (a : ℕ) → a < middle → key a ≡ pos (a + a)
key-low a h = rw (lt-ltb a middle h)

key-high : (a : ℕ) → middle ≤ a → key a ≡ negsuc (suc ((2 ^ 64 - suc a) + (2 ^ 64 - suc a)))
key-high a h = rw (le-ltb a middle h)

pos_inj : (m n : ℕ) → pos m ≡ pos n → m ≡ n
pos_inj m n e = cc

negsuc-inj : (m n : ℕ) → negsuc m ≡ negsuc n → m ≡ n
negsuc-inj m n e = cc

key-inj : (a b : ℕ) → a < 2 ^ 64 → b < 2 ^ 64 → key a ≡ key b → a ≡ b
key-inj a b ha hb e =
    ⊎_elim
    (λ (p : a < middle). ⊎_elim
    (λ (q : b < middle). omega (arith, pos_inj (a + a) (b + b) (sym (key-low a p) ∙ e ∙ key-low b q)))
    (λ (q : middle ≤ b). absurd (pos-ne-negsuc _ _ (sym (key-low a p) ∙ e ∙ key-high b q)))
    (lt-or_le b middle))
    (λ (p : middle ≤ a). ⊎_elim
    (λ (q : b < middle). absurd (pos-ne-negsuc _ _ (sym (key-low b q) ∙ sym e ∙ key-high a p)))
    (λ (q : middle ≤ b). omega (arith, negsuc-inj _ _ (sym (key-high a p) ∙ e ∙ key-high b q)))
    (lt-or_le b middle))
    (lt-or_le a middle)

-- ---- The whole number after another.
next_low : (w : ℕ) → w + 1 < middle → suc_ℤ (suc_ℤ (key w)) ≡ key (w + 1)
next_low w h =
    let p : w < middle = omega arith in
    let e : suc (suc (w + w)) ≡ w + 1 + (w + 1) = omega arith in
    ap (λ z. suc_ℤ (suc_ℤ z)) (key-low w p) ∙ ap pos e ∙ sym (key-low (w + 1) h)

next-high : (w : ℕ) → middle ≤ w → w + 1 < 2 ^ 64 → suc_ℤ (suc_ℤ (key w)) ≡ key (w + 1)
next-high w h k =
    let d : 2 ^ 64 - suc w + (2 ^ 64 - suc w) ≡ suc (suc (2 ^ 64 - suc (w + 1) + (2 ^ 64 - suc (w + 1)))) = omega arith in
    ap (λ z. suc_ℤ (suc_ℤ z)) (key-high w h ∙ ap (λ n. negsuc (suc n)) d) ∙ sym (key-high (w + 1) (omega arith))

next-key : (w : ℕ) → w < 2 ^ 64 → (w ≡ 9223372036854775807 → ⊥) → (w ≡ 18446744073709551615 → ⊥)
    → suc_ℤ (suc_ℤ (key w)) ≡ key (w + 1)
next-key w h m o =
    ⊎_elim
    (λ (p : w < middle). next_low w (omega (arith, m)))
    (λ (p : middle ≤ w). next-high w p (omega (arith, o)))
    (lt-or_le w middle)

-- The largest has none.
none-next : (v : ℕ) → v < 2 ^ 64 → suc_ℤ (suc_ℤ (key 9223372036854775807)) ≡ key v → ⊥
none-next v h e =
    ⊎_elim
    (λ (q : v < middle). omega (arith, pos_inj 18446744073709551616 (v + v) (e ∙ key-low v q)))
    (λ (q : middle ≤ v). pos-ne-negsuc _ _ (e ∙ key-high v q))
    (lt-or_le v middle)

module _ (w v : ℕ) (hw : w < 2 ^ 64) (hv : v < 2 ^ 64) where
  next-is : is_next w v ≡ true → suc_ℤ (suc_ℤ (key w)) ≡ key v
  unfolding is_next
  next-is =
      by-test (eqb w 9223372036854775807)
      (λ a. λ e. absurd (true≢false (sym e ∙ rw a)))
      (λ a. by-test (eqb w 18446744073709551615)
      (λ b. λ e. rw (eqb-true w 18446744073709551615 b, eqb-true v 0 (sym (rw (a, b)) ∙ e)))
      (λ b. λ e. next-key w hw (eqb-false w 9223372036854775807 a) (eqb-false w 18446744073709551615 b)
      ∙ ap key (sym (eqb-true v (w + 1) (sym (rw (a, b)) ∙ e)))))

  is_next_lem : suc_ℤ (suc_ℤ (key w)) ≡ key v → is_next w v ≡ true
  unfolding is_next
  is_next_lem e =
      by-test (eqb w 9223372036854775807)
      (λ a. absurd (none-next v hv (ap (λ x. suc_ℤ (suc_ℤ (key x))) (sym (eqb-true w 9223372036854775807 a)) ∙ e)))
      (λ a. by-test (eqb w 18446744073709551615)
      (λ b. rw (a, b) (eq-eqb v 0 (sym (key-inj 0 v (omega arith) hv
      (ap (λ x. suc_ℤ (suc_ℤ (key x))) (sym (eqb-true w 18446744073709551615 b)) ∙ e)))))
      (λ b. rw (a, b) (last (eqb-false w 9223372036854775807 a) (eqb-false w 18446744073709551615 b))))
    where
      last : (w ≡ 9223372036854775807 → ⊥) → (w ≡ 18446744073709551615 → ⊥) → eqb v (w + 1) ≡ true
      last m o = eq-eqb v (w + 1) (sym (key-inj (w + 1) v (omega (arith, o)) hv (sym (next-key w hw m o) ∙ e)))

-- ---- The parts of two places.

module _ (w v : ℕ) (hw : w < 2 ^ 64) (hv : v < 2 ^ 64) where
  -- f and its inverse g move a key by the half part that both have
  alike : (f g : ℤ → ℤ) → ((z : ℤ) → g (f z) ≡ z) → eqb w v ≡ is_equal (cmp_z (f (key w)) (f (key v)))
  alike f g i =
      told (f (key w)) (f (key v)) (eqb w v) (λ e. ap (λ x. f (key x)) (eqb-true w v e))
      (λ e. eq-eqb w v (key-inj w v hw hv (sym (i (key w)) ∙ ap g e ∙ i (key v))))

never : (a b : ℤ) → (a ≡ b → ⊥) → false ≡ is_equal (cmp_z a b)
never a b d = told a b false (λ e. absurd (true≢false (sym e))) (λ e. absurd (d e))

-- (w, +1) and (v, -1)
met : (w v : ℕ) → w < 2 ^ 64 → v < 2 ^ 64 → is_next w v ≡ is_equal (cmp_z (suc_ℤ (key w)) (pred_ℤ (key v)))
met w v hw hv =
    told (suc_ℤ (key w)) (pred_ℤ (key v)) (is_next w v)
    (λ e. sym (pred-suc (suc_ℤ (key w))) ∙ ap pred_ℤ (next-is w v hw hv e))
    (λ e. is_next_lem w v hw hv (ap suc_ℤ e ∙ suc-pred (key v)))

met_back : (w v : ℕ) → w < 2 ^ 64 → v < 2 ^ 64 → is_next v w ≡ is_equal (cmp_z (pred_ℤ (key w)) (suc_ℤ (key v)))
met_back w v hw hv =
    told (pred_ℤ (key w)) (suc_ℤ (key v)) (is_next v w)
    (λ e. sym (ap pred_ℤ (next-is v w hv hw e)) ∙ pred-suc (suc_ℤ (key v)))
    (λ e. is_next_lem v w hv hw (sym (ap suc_ℤ e) ∙ suc-pred (key w)))

abbrev at-half : Half → ℤ → ℤ
at-half Minus z = pred_ℤ z
at-half Zero z = z
at-half Plus z = suc_ℤ z

key-at : (w : ℕ) (h : Half) → key_in w h ≡ at-half h (key w)
key-at w Minus = minus_one (key w)
key-at w Zero = +ℤ_idr (key w)
key-at w Plus = +ℤ_one (key w)

pub same_parts_lem : (w : ℕ) (h : Half) (v : ℕ) (g : Half) → w < 2 ^ 64 → v < 2 ^ 64
    → same_parts w h v g ≡ is_equal (ord_z.cmp (key_in w h) (key_in v g))
same_parts_lem w h v g hw hv = go h g ∙ sym (ap is_equal (ap (λ x. cmp_z x (key_in v g)) (key-at w h)
    ∙ ap (cmp_z (at-half h (key w))) (key-at v g)))
  where
    go : (h g : Half) → same_parts w h v g ≡ is_equal (cmp_z (at-half h (key w)) (at-half g (key v)))
    go Minus Minus = alike w v hw hv pred_ℤ suc_ℤ suc-pred
    go Minus Zero =
        never (pred_ℤ (key w)) (key v)
        (λ e. half_is_no_whole (to_z w64 v) (to_z w64 w) (sym (ap suc_ℤ e) ∙ suc-pred (key w)))
    go Minus Plus = met_back w v hw hv
    go Zero Minus =
        never (key w) (pred_ℤ (key v))
        (λ e. half_is_no_whole (to_z w64 w) (to_z w64 v) (ap suc_ℤ e ∙ suc-pred (key v)))
    go Zero Zero = alike w v hw hv (λ z. z) (λ z. z) (λ z. refl)
    go Zero Plus = never (key w) (suc_ℤ (key v)) (λ e. half_is_no_whole (to_z w64 v) (to_z w64 w) (sym e))
    go Plus Minus = met w v hw hv
    go Plus Zero = never (suc_ℤ (key w)) (key v) (λ e. half_is_no_whole (to_z w64 w) (to_z w64 v) e)
    go Plus Plus = alike w v hw hv suc_ℤ pred_ℤ pred-suc

-- The same, where a match has told the half parts.
pub parts_told : (w : ℕ) (h : Half) (v : ℕ) (g h' g' : Half) → h ≡ h' → g ≡ g' → w < 2 ^ 64 → v < 2 ^ 64
    → same_parts w h' v g' ≡ is_equal (ord_z.cmp (key_in w h) (key_in v g))
parts_told w h v g h' g' e f hw hv =
    same_parts_lem w h' v g' hw hv ∙ sym (ap (λ x. is_equal (ord_z.cmp (key_in w h) (key_in v x))) f
    ∙ ap (λ x. is_equal (ord_z.cmp (key_in w x) (key_in v g'))) e)

-- What the tests of sums say.
-- Assumes nothing.
use Prim.Native.Nat.{ℕ, ◌+◌, ◌-◌, ◌^◌, ◌<◌, ◌≤◌}
use native.Mathlib.Omega.{arith}
use mathlib.Core.Path.{◌≡◌, refl, sym, ◌∙◌}
use mathlib.Core.Bool.{Bool, true, false, true≢false, not, cond, ◌&&◌}
use lib.Dec.{ltb, leb}
use borrow.Author.Tests.{lt-ltb, le-leb, ltb-true, leb-true, not-true, not-false}
use Rattle.tally.specs.declared.Tally.{Tally}
use Rattle.tally.specs.Sums.{fits, grown, sums_fit, added}

-- two tests of one fact
same_test : (a b : Bool) → (a ≡ true → b ≡ true) → (b ≡ true → a ≡ true) → a ≡ b
same_test true b f g = sym (f refl)
same_test false true f g = g refl
same_test false false f g = refl

pub fits-test : (x y : ℕ) → y < 2 ^ 64 → leb x (18446744073709551615 - y) ≡ fits x y
fits-test x y h =
    same_test (leb x (18446744073709551615 - y)) (fits x y)
    (λ e. let g : x ≤ 18446744073709551615 - y = leb-true x (18446744073709551615 - y) e in
    lt-ltb (x + y) (2 ^ 64) (omega arith))
    (λ e. let g : x + y < 2 ^ 64 = ltb-true (x + y) (2 ^ 64) e in
    le-leb x (18446744073709551615 - y) (omega arith))

pub fits_sum : (x y : ℕ) → fits x y ≡ true → x + y < 2 ^ 64
fits_sum x y e = ltb-true (x + y) (2 ^ 64) e

-- the flag r of a callee, tested by `!r`
pub told : {r x : Bool} → r ≡ x → not r ≡ false → x ≡ true
told {r} p q = sym p ∙ not-false r q

pub told-not : {r x : Bool} → r ≡ x → not r ≡ true → x ≡ false
told-not {r} p q = sym p ∙ not-true r q

and_left : (a b : Bool) → (a && b) ≡ true → a ≡ true
and_left true b e = refl
and_left false b e = e

and_right : (a b : Bool) → (a && b) ≡ true → b ≡ true
and_right true b e = e
and_right false b e = absurd (true≢false (sym e))

module _ (t : Tally) (p f u : ℕ) where
  abbrev P : Bool
  P = fits t.passed p

  abbrev F : Bool
  F = fits t.is_false f

  abbrev U : Bool
  U = fits t.unknown u

  abbrev B : Bool
  B = fits (t.is_false + f) (t.unknown + u)

  -- each of the four tests decides, in its turn
  pub no_passed : P ≡ false → false ≡ sums_fit t p f u
  unfolding sums_fit
  no_passed e = rw e

  pub no_false : P ≡ true → F ≡ false → false ≡ sums_fit t p f u
  unfolding sums_fit
  no_false e g = rw (e, g)

  pub no_unknown : P ≡ true → F ≡ true → U ≡ false → false ≡ sums_fit t p f u
  unfolding sums_fit
  no_unknown e g h = rw (e, g, h)

  pub last_sum : {r : Bool} → P ≡ true → F ≡ true → U ≡ true → r ≡ B → r ≡ sums_fit t p f u
  unfolding sums_fit
  last_sum e g h k = rw (e, g, h) k

  -- sums that fit are 64 bits
  pub sums_small : sums_fit t p f u ≡ true → (t.passed + p < 2 ^ 64) × (t.is_false + f < 2 ^ 64)
      × (t.unknown + u < 2 ^ 64)
  unfolding sums_fit
  sums_small e =
      let r = and_right P (F && (U && B)) e in (
        fits_sum _ _ (and_left P (F && (U && B)) e),
        fits_sum _ _ (and_left F (U && B) r),
        fits_sum _ _ (and_left U B (and_right F (U && B) r)),
      )

  pub added-grown : sums_fit t p f u ≡ true → grown t p f u ≡ added t p f u
  unfolding added
  added-grown e = rw e

  pub added-same : sums_fit t p f u ≡ false → t ≡ added t p f u
  unfolding added
  added-same e = rw e

-- "A refused chain adds nothing": no rows leave the tally as it is.
plus_none : (x : ℕ) → x + 0 ≡ x
plus_none x = omega arith

pub added_none : (t : Tally) → added t 0 0 0 ≡ t
unfolding added grown
added_none t = go (sums_fit t 0 0 0)
  where
    go : (b : Bool) → cond b (grown t 0 0 0) t ≡ t
    go true = rw (plus_none t.passed, plus_none t.is_false, plus_none t.unknown)
    go false = refl

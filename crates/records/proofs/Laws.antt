-- The set of laws that closes a `returns` of a function whose contract is `r ≡ definition`, and whose tests stand in the definition's order.
-- Assumes nothing.
use Prim.Native.Nat.{ℕ, zero, suc, ◌≤◌}
use native.Mathlib.Omega.{arith}
use mathlib.Core.Path.{◌≡◌, refl, sym}
use mathlib.Core.Bool.{Bool, true, false, true≢false, not, cond, ◌&&◌, ◌||◌}
use borrow.Author.Tests.{eq-eqb, ne_eqb, lt-ltb, le-ltb, le-leb, lt-leb, not-true, not-false}

-- What a flag b that was tested, or `!b`, leaves of a definition.
pub and_yes : (b y : Bool) → b ≡ true → (b && y) ≡ y
and_yes b y e = rw e

pub and_no : (b y : Bool) → b ≡ false → (b && y) ≡ false
and_no b y e = rw e

pub and_yes' : (b y : Bool) → not b ≡ false → (b && y) ≡ y
and_yes' b y e = and_yes b y (not-false b e)

pub and_no' : (b y : Bool) → not b ≡ true → (b && y) ≡ false
and_no' b y e = and_no b y (not-true b e)

pub or_yes : (b y : Bool) → b ≡ true → (b || y) ≡ true
or_yes b y e = rw e

pub or_no : (b y : Bool) → b ≡ false → (b || y) ≡ y
or_no b y e = rw e

pub cond_yes {ℓ} : {A : Type ℓ} (b : Bool) (x y : A) → b ≡ true → cond b x y ≡ x
cond_yes b x y e = rw e

pub cond_no {ℓ} : {A : Type ℓ} (b : Bool) (x y : A) → b ≡ false → cond b x y ≡ y
cond_no b x y e = rw e

pub cond-yes' {ℓ} : {A : Type ℓ} (b : Bool) (x y : A) → not b ≡ false → cond b x y ≡ x
cond-yes' b x y e = cond_yes b x y (not-false b e)

pub cond-no' {ℓ} : {A : Type ℓ} (b : Bool) (x y : A) → not b ≡ true → cond b x y ≡ y
cond-no' b x y e = cond_no b x y (not-true b e)

pub ruleset tests = (eq-eqb, ne_eqb, lt-ltb, le-ltb, le-leb, lt-leb)

pub ruleset flags = (and_yes, and_no, and_yes', and_no', or_yes, or_no, cond_yes, cond_no, cond-yes', cond-no', tests)

-- the first of two tests that both hold
pub and_left : (a b : Bool) → (a && b) ≡ true → a ≡ true
and_left true b e = refl
and_left false b e = e

-- the default arm of a `match` on the keys 0, 1, .. n - 1
abbrev pub NoKey : ℕ → ℕ → Type 0
NoKey zero k = Unit {0}
NoKey (suc n) k = NoKey n k × (k ≡ n → ⊥)

pub no_key : (n k : ℕ) → NoKey n k → n ≤ k
no_key zero k h = omega arith
no_key (suc n) k h =
    let l : n ≤ k = no_key n k h.0 in let d : (k ≡ n → ⊥) = h.1 in omega (arith, d)

pub and_right : (a b : Bool) → (a && b) ≡ true → b ≡ true
and_right true b e = e
and_right false b e = absurd (true≢false (sym e))

-- by cases on a test
pub by-test {ℓ} : {A : Type ℓ} (b : Bool) → (b ≡ true → A) → (b ≡ false → A) → A
by-test true f g = f refl
by-test false f g = g refl

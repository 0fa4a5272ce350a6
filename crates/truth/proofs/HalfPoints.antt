-- Next to the key of a whole number there is the key of no whole number.
use mathlib.Core.Path.{◌≡◌, sym}
use Prim.Native.Nat.{ℕ, zero, suc, ◌+◌}
use native.Mathlib.Omega.{arith}
use lib.IntN.{ℤ, pos, negsuc, suc_ℤ, pred_ℤ, pos-ne-negsuc}
use Rattle.truth.specs.Halves.{less_z, twice}

pub suc-above : (a : ℤ) → less_z a (suc_ℤ a)
suc-above (pos n) = omega arith
suc-above (negsuc zero) = tt
suc-above (negsuc (suc n)) = omega arith

pub pred_below : (a : ℤ) → less_z (pred_ℤ a) a
pred_below (pos zero) = tt
pred_below (pos (suc n)) = omega arith
pred_below (negsuc n) = omega arith

pub half_below : (v w : ℤ) → less_z (twice v) (twice w) → less_z (suc_ℤ (twice v)) (twice w)
half_below (pos m) (pos n) h = omega arith
half_below (pos m) (negsuc n) h = absurd h
half_below (negsuc m) (pos n) h = tt
half_below (negsuc m) (negsuc n) h = omega arith

pos_inj : (m n : ℕ) → pos m ≡ pos n → m ≡ n
pos_inj m n e = cc

negsuc-inj : (m n : ℕ) → negsuc m ≡ negsuc n → m ≡ n
negsuc-inj m n e = cc

pub half_is_no_whole : (v w : ℤ) → suc_ℤ (twice v) ≡ twice w → ⊥
half_is_no_whole (pos m) (pos n) e = omega (arith, pos_inj (suc (m + m)) (n + n) e)
half_is_no_whole (pos m) (negsuc n) e = pos-ne-negsuc (suc (m + m)) (suc (n + n)) e
half_is_no_whole (negsuc m) (pos n) e = pos-ne-negsuc (n + n) (m + m) (sym e)
half_is_no_whole (negsuc m) (negsuc n) e = omega (arith, negsuc-inj (m + m) (suc (n + n)) e)

pub one-half_is_no_whole : (w : ℤ) → pos 1 ≡ twice w → ⊥
one-half_is_no_whole (pos n) e = omega (arith, pos_inj 1 (n + n) e)
one-half_is_no_whole (negsuc n) e = pos-ne-negsuc 1 (suc (n + n)) e

-- The checksum of a block, a pair of bytes at a time from the second on.
-- Assumes nothing.
use Prim.Native.Nat.{ℕ, ◌+◌, ◌-◌, ◌*◌, ◌/◌, ◌≤◌}
use mathlib.Core.Path.{◌≡◌, refl, sym, ◌∙◌, ap, ap₂}
use mathlib.Core.List.{List}
use native.Mathlib.Numerals.{add-one}
use native.Mathlib.Omega.{arith}
use lib.ListN.{length, get_or}
use Rattle.checksum.specs.Checksum.{ones_add, big_word, ones_sum, checksum, cleared}
use Rattle.checksum.proofs.Words.{length-cleared, get_d_cleared}

pub cleared-none : (b : List ℕ) → 0 ≡ ones_sum (cleared b) 1
unfolding ones_sum ones_add big_word cleared
cleared-none b = refl

-- one more word added
pub cleared_more : (b : List ℕ) (k sum word : ℕ) → 1 ≤ k → sum ≡ ones_sum (cleared b) k
    → word ≡ 256 * get_or b (2 * k) 0 + get_or b (2 * k + 1) 0 → ones_add sum word ≡ ones_sum (cleared b) (k + 1)
unfolding ones_sum big_word
cleared_more b k sum word h e w =
    ap₂ ones_add e
    (w ∙ sym (ap₂ (λ x y. 256 * x + y) (get_d_cleared b (2 * k) (omega arith))
    (get_d_cleared b (2 * k + 1) (omega arith))))
    ∙ ap (ones_sum (cleared b)) (sym (add-one k))

pub cleared-done : (b : List ℕ) (sum : ℕ) → length b ≡ 512 → sum ≡ ones_sum (cleared b) 256
    → 65535 - sum ≡ checksum (cleared b)
unfolding checksum
cleared-done b sum h e =
    let n : (length (cleared b) + 1) / 2 ≡ 256 = let l = length-cleared b (omega arith) in omega (arith, l, h) in
    rw (n, e)

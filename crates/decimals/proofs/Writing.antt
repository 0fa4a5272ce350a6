-- Writing in code: digits from the last to the first, values with and without a minus.
use mathlib.Core.Path.{◌≡◌, refl, sym, ◌∙◌, ap, subst}
use mathlib.Core.List.{List, [], ◌∷◌, ◌++◌, append_assoc}
use Prim.Native.Nat.{ℕ, zero, suc, ◌+◌, ◌*◌, ◌-◌, ◌/◌, ◌%◌, ◌<◌, ◌≤◌}
use native.Mathlib.Omega.{arith}
use native.Mathlib.Numerals.{add-one}
use lib.ListN.{length, set, take, drop, length-append, length-drop}
use lib.Seq.{set_split, take-set-le, drop_at, length-take-le}
use mir.Syntax.{w64}
use mir.Val.{to_z}
use borrow.Author.Tests.{lt-ltb, le-ltb}
use Rattle.merge.specs.Write.{splice}
use Rattle.merge.proofs.Splices.{splice-one}
use Rattle.decimals.specs.Decimal.{last_digit, decimal, signed}
use Rattle.decimals.proofs.Decimals.{last_alone, more_digits, length-one, length_more}

-- ---- digits

-- what stands behind is written first
put-before : (l : List ℕ) (at k : ℕ) (u : List ℕ) (d : ℕ) → k ≡ at + length u → k < length l
    → splice (set l k d) at u ≡ splice l at (u ++ (d ∷ []))
unfolding splice
put-before l at k u d e h =
    let q : at + length (u ++ (d ∷ [])) ≡ suc k = omega (arith, length-append u (d ∷ [])) in
    rw (
      take-set-le at l k d (omega arith),
      ← e,
      q,
      append_assoc,
      set_split l k d h,
      drop_at (take k l) (d ∷ drop (suc k) l) k (length-take-le k l (omega arith)),
    )

-- one digit written: the rest of the digits before it gives what the whole number gave
pub digit_turn : (s₀ s : List ℕ) (at i rest n : ℕ) → 10 ≤ rest → i ≡ at + length (decimal rest) → i ≤ length s
    → splice s at (decimal rest) ≡ splice s₀ at (decimal n)
    → splice (set s (i - 1) (last_digit rest)) at (decimal (rest / 10)) ≡ splice s₀ at (decimal n)
digit_turn s₀ s at i rest n h e l inv =
    let g = length_more rest h in
    put-before s at (i - 1) (decimal (rest / 10)) (last_digit rest) (omega arith) (omega arith)
    ∙ (rw (more_digits rest h) at inv)

pub digit_last : (s₀ s : List ℕ) (at i rest n : ℕ) → rest < 10 → i ≡ at + length (decimal rest) → i ≤ length s
    → splice s at (decimal rest) ≡ splice s₀ at (decimal n)
    → set s at (last_digit rest) ≡ splice s₀ at (decimal n)
digit_last s₀ s at i rest n h e l inv =
    let g = length-one rest h in
    splice-one s at (last_digit rest) (omega arith) ∙ (rw (last_alone rest h) at inv)

-- ---- values

pub signed_low : (v : ℕ) → v < 9223372036854775808 → signed (to_z w64 v) ≡ decimal v
unfolding signed
signed_low v h = rw (lt-ltb v 9223372036854775808 h)

pub signed_high : (v m : ℕ) → 9223372036854775808 ≤ v → m + v ≡ 18446744073709551616 → 1 ≤ m
    → signed (to_z w64 v) ≡ 45 ∷ decimal m
unfolding signed
signed_high v m h e l =
    let q : suc (18446744073709551616 - suc v) ≡ m = omega arith in rw (le-ltb v 9223372036854775808 h, q)

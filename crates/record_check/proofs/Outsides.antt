-- Two counts of the values outside a type are the same where all values between are of the type.
use Prim.Native.Nat.{ℕ, zero, suc, ◌+◌, ◌/◌, ◌≤◌, ◌<◌}
use mathlib.Core.List.{List}
use mathlib.Core.Bool.{Bool, true, false, cond, ◌&&◌, and-false}
use mathlib.Core.Path.{◌≡◌, refl, sym, ◌∙◌, ap}
use native.Mathlib.Omega.{arith}
use native.Mathlib.Numerals.{add-one}
use lib.ListN.{length, get_or, set}
use lib.Dec.{eqb}
use borrow.Author.Tests.{eq-eqb, ne_eqb}
use Rattle.records.specs.Bytes.{value_at, all}
use Rattle.records.specs.Shape.{in_type_in}
use Rattle.record_check.specs.Fit.{all_fit_in}
use Rattle.record_check.specs.Outside.{misses, outside, Outside}
use Rattle.record_check.proofs.Filling.{Filled, filled_more}

and_true : (b : Bool) → (b && true) ≡ b
and_true true = refl
and_true false = refl

pub misses-le : (f : ℕ → Bool) (n : ℕ) → misses f n ≤ n
unfolding misses
misses-le f zero = omega arith
misses-le f (suc n) = go (f n) (misses-le f n)
  where
    go : (b : Bool) → misses f n ≤ n → misses f n + cond b 0 1 ≤ suc n
    go true h = omega (arith, h)
    go false h = omega (arith, h)

-- more numbers, no fewer misses
misses-up : (f : ℕ → Bool) (s c : ℕ) → misses f s ≤ misses f (s + c)
unfolding misses
misses-up f s zero = let e : s + 0 ≡ s = omega arith in rw e (omega arith)
misses-up f s (suc c) =
    let e : s + suc c ≡ suc (s + c) = omega arith in
    let h : misses f s ≤ misses f (s + c) = misses-up f s c in
    rw e (omega (arith, h))

misses-from : (f : ℕ → Bool) (s c : ℕ) → eqb (misses f (s + c)) (misses f s) ≡ all (λ (k : ℕ). f (s + k)) c
unfolding misses all
misses-from f s zero = let e : s + 0 ≡ s = omega arith in rw e (eq-eqb (misses f s) (misses f s) refl)
misses-from f s (suc c) =
    let e : s + suc c ≡ suc (s + c) = omega arith in rw e (go (f (s + c)) (misses-from f s c))
  where
    go : (b : Bool) → eqb (misses f (s + c)) (misses f s) ≡ all (λ (k : ℕ). f (s + k)) c
        → eqb (misses f (s + c) + cond b 0 1) (misses f s) ≡ (all (λ (k : ℕ). f (s + k)) c && b)
    go true ih =
        let e : misses f (s + c) + 0 ≡ misses f (s + c) = omega arith in
        rw e (ih ∙ sym (and_true (all (λ (k : ℕ). f (s + k)) c)))
    go false ih =
        let h : misses f s ≤ misses f (s + c) = misses-up f s c in
        ne_eqb (misses f (s + c) + 1) (misses f s) (λ q. omega (arith, h, q))
        ∙ sym (and-false (all (λ (k : ℕ). f (s + k)) c))

-- the entries of two numbers tell of the values between
pub counts-tell : (text : ℕ) (p l : List ℕ) (ty start count : ℕ) → Outside text p ty l → start + count ≤ length p / 8
    → eqb (get_or l (start + count) 0) (get_or l start 0) ≡ all_fit_in text p ty start count
unfolding Outside outside all_fit_in
counts-tell text p l ty start count o h =
    ap (λ a. eqb a (get_or l start 0)) (o (start + count) h)
    ∙ ap (eqb (misses (λ (k : ℕ). in_type_in text ty (value_at p k)) (start + count))) (o start (omega arith))
    ∙ turned
  where
    turned : eqb (misses (λ (k : ℕ). in_type_in text ty (value_at p k)) (start + count)) (misses (λ (k : ℕ). in_type_in text ty (value_at p k)) start)
        ≡ all (λ (k : ℕ). in_type_in text ty (value_at p (start + k))) count
    turned = misses-from (λ (k : ℕ). in_type_in text ty (value_at p k)) start count

-- one turn of the loop that fills the table, and its end
pub outside-none : (text : ℕ) (p : List ℕ) (ty : ℕ) → 0 ≡ outside text p ty 0
unfolding outside misses
outside-none text p ty = refl

pub outside-more : (text : ℕ) (p : List ℕ) (ty k c d : ℕ) → c ≡ outside text p ty k → d ≡ cond (in_type_in text ty (value_at p k)) 0 1
    → c + d ≡ outside text p ty (k + 1)
unfolding outside misses
outside-more text p ty k c d e g = rw (add-one, e, g)

pub outside_low : (text : ℕ) (p : List ℕ) (ty k : ℕ) → outside text p ty k ≤ k
unfolding outside
outside_low text p ty k = misses-le (λ (j : ℕ). in_type_in text ty (value_at p j)) k

pub outside-done : (text : ℕ) (p l : List ℕ) (ty n c : ℕ) → n ≡ length p / 8 → n < length l → Filled (outside text p ty) l n
    → c ≡ outside text p ty n → Outside text p ty (set l n c)
unfolding Outside
outside-done text p l ty n c e h f g k j = filled_more (outside text p ty) l n c h f g k (omega (arith, e, j))

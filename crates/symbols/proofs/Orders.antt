-- The order of byte strings is total, and it is the order of the numbers that stand for them.
use mathlib.Core.Path.{◌≡◌, refl, sym, ◌∙◌, ap, subst}
use mathlib.Core.Bool.{not}
use mathlib.Core.List.{List, [], ◌∷◌}
use mathlib.Core.Logic.{inl, inr, ◌≢◌}
use Prim.Native.Nat as nat
use Prim.Native.Nat.{ℕ, zero, suc, ◌+◌, ◌*◌, ◌^◌, ◌<◌, ◌≤◌, compare}
use native.Mathlib.Omega.{arith}
use native.Mathlib.Nat.{mul-le-mul_right}
use lib.ListN.{length}
use Rattle.truth.specs.Order.{View, less_view, equal_view, greater_view, Total}
use Rattle.truth.specs.Halves.{ordering}
use lib.Dec.{T, eqb, is_le, compare_is_eq, leb→le, nleb→lt, eqb→eq, eqb_refl}
use Rattle.std.specs.declared.cmp.Ordering.{Ordering}
use Rattle.symbols.specs.Symbol.{less_bytes, cmp_bytes, or_else, ord_bytes, number_of}

abbrev pub less_n : ℕ → ℕ → Type 0
less_n m n = m < n

-- The same as truth's own (proofs, Orders), which is not public.
pub view_n : (m n : ℕ) → View less_n m n (ordering (compare m n))
view_n m n = go (compare m n) refl
  where
    go : (o : nat.Ordering) → compare m n ≡ o → View less_n m n (ordering o)
    go Prim.Native.Nat.Ordering.lt e = less_view (omega (arith, leb→le m n (subst (λ o. T (is_le o)) (sym e) tt), differ))
      where
        differ : m ≢ n
        differ p = subst (λ o. T (compare_is_eq o)) e (subst (λ x. T (eqb m x)) p (eqb_refl m))
    go Prim.Native.Nat.Ordering.eq e = equal_view (eqb→eq m n (subst (λ o. T (compare_is_eq o)) (sym e) tt))
    go Prim.Native.Nat.Ordering.gt e = greater_view (nleb→lt m n (subst (λ o. T (not (is_le o))) (sym e) tt))

view : (l m : List ℕ) → View less_bytes l m (cmp_bytes l m)
view [] [] = equal_view refl
view [] (y ∷ m) = less_view tt
view (x ∷ l) [] = greater_view tt
view (x ∷ l) (y ∷ m) = go (view_n x y) (view l m)
  where
    next : {o : Ordering} → x ≡ y → View less_bytes l m o → View less_bytes (x ∷ l) (y ∷ m) o
    next e (less_view h) = less_view (inr (e, h))
    next e (equal_view f) = equal_view (ap (λ b. b ∷ l) e ∙ ap (λ k. y ∷ k) f)
    next e (greater_view h) = greater_view (inr (sym e, h))

    go : {o q : Ordering} → View less_n x y o → View less_bytes l m q → View less_bytes (x ∷ l) (y ∷ m) (or_else o q)
    go (less_view h) v = less_view (inl h)
    go (equal_view e) v = next e v
    go (greater_view h) v = greater_view (inl h)

irrefl : (l : List ℕ) → less_bytes l l → ⊥
irrefl [] h = h
irrefl (x ∷ l) (inl h) = absurd (omega (arith, h))
irrefl (x ∷ l) (inr h) = irrefl l h.1

trans : (l m n : List ℕ) → less_bytes l m → less_bytes m n → less_bytes l n
trans [] [] n h k = absurd h
trans [] (y ∷ m) [] h k = absurd k
trans [] (y ∷ m) (z ∷ n) h k = tt
trans (x ∷ l) [] n h k = absurd h
trans (x ∷ l) (y ∷ m) [] h k = absurd k
trans (x ∷ l) (y ∷ m) (z ∷ n) (inl h) (inl k) = inl (omega (arith, h, k))
trans (x ∷ l) (y ∷ m) (z ∷ n) (inl h) (inr k) = inl (subst (λ b. x < b) k.0 h)
trans (x ∷ l) (y ∷ m) (z ∷ n) (inr h) (inl k) = inl (subst (λ b. b < z) (sym h.0) k)
trans (x ∷ l) (y ∷ m) (z ∷ n) (inr h) (inr k) = inr (h.0 ∙ k.0, trans l m n h.1 k.1)

pub total-bytes : Total ord_bytes
total-bytes = record { view = view; irrefl = λ {a} h. irrefl a h; trans = λ {a} {b} {c} h k. trans a b c h k }

-- ---- The numbers.
-- All below 256.
pub data Bytes : List ℕ → Type 0 where
  none : Bytes []
  more : {b : ℕ} {l : List ℕ} → b < 256 → Bytes l → Bytes (b ∷ l)

power_positive : (n : ℕ) → 0 < 257 ^ n
power_positive zero = omega arith
power_positive (suc n) = let h = power_positive n in omega (arith, h)

number-below : (k : ℕ) (l : List ℕ) → Bytes l → number_of k l < 257 ^ k
number-below zero l h = omega arith
number-below (suc k) [] h = power_positive (suc k)
number-below (suc k) (b ∷ l) (more h hs) =
    let r = number-below k l hs in
    let m : suc b * 257 ^ k ≤ 256 * 257 ^ k = mul-le-mul_right (257 ^ k) (let q : suc b ≤ 256 = omega (arith, h) in q) in
    omega (arith, r, m)

-- Digits differ at the front.
apart : (k x y r s : ℕ) → x < y → r < 257 ^ k → suc x * 257 ^ k + r < suc y * 257 ^ k + s
apart k x y r s h b =
    let q : suc x + 1 ≤ suc y = omega (arith, h) in
    let m : (suc x + 1) * 257 ^ k ≤ suc y * 257 ^ k = mul-le-mul_right (257 ^ k) q in
    omega (arith, m, b)

number-rises : (k : ℕ) (l m : List ℕ) → Bytes l → Bytes m → length l ≤ k → length m ≤ k → less_bytes l m
    → number_of k l < number_of k m
number-rises k [] [] bl bm hl hm h = absurd h
number-rises zero [] (y ∷ m) bl bm hl hm h = absurd (omega (arith, hm))
number-rises (suc k) [] (y ∷ m) bl bm hl hm h = positive y (number_of k m)
  where
    positive : (y s : ℕ) → 0 < suc y * 257 ^ k + s
    positive y s =
        let a = power_positive k in
        let m : 1 * 257 ^ k ≤ suc y * 257 ^ k = mul-le-mul_right (257 ^ k) (let q : 1 ≤ suc y = omega arith in q) in
        omega (arith, a, m)
number-rises k (x ∷ l) [] bl bm hl hm h = absurd h
number-rises zero (x ∷ l) (y ∷ m) bl bm hl hm h = absurd (omega (arith, hl))
number-rises (suc k) (x ∷ l) (y ∷ m) (more bx bl) (more by bm) hl hm (inl h) =
    apart k x y (number_of k l) (number_of k m) h (number-below k l bl)
number-rises (suc k) (x ∷ l) (y ∷ m) (more bx bl) (more by bm) hl hm (inr h) =
    let ih = number-rises k l m bl bm (omega (arith, hl)) (omega (arith, hm)) h.1 in
    subst (λ b. suc x * 257 ^ k + number_of k l < suc b * 257 ^ k + number_of k m) h.0 (omega (arith, ih))

-- The comparison of two strings of at most k bytes is that of their numbers.
pub number-order : (k : ℕ) (l m : List ℕ) → Bytes l → Bytes m → length l ≤ k → length m ≤ k
    → cmp_bytes l m ≡ ordering (compare (number_of k l) (number_of k m))
number-order k l m bl bm hl hm = go (view l m) (view_n (number_of k l) (number_of k m))
  where
    go : {o q : Ordering} → View less_bytes l m o → View less_n (number_of k l) (number_of k m) q → o ≡ q
    go (less_view h) (less_view g) = refl
    go (less_view h) (equal_view e) = let i = number-rises k l m bl bm hl hm h in absurd (omega (arith, i, e))
    go (less_view h) (greater_view g) = let i = number-rises k l m bl bm hl hm h in absurd (omega (arith, i, g))
    go (equal_view e) (less_view g) = let f = ap (number_of k) e in absurd (omega (arith, f, g))
    go (equal_view e) (equal_view f) = refl
    go (equal_view e) (greater_view g) = let f = ap (number_of k) e in absurd (omega (arith, f, g))
    go (greater_view h) (less_view g) = let i = number-rises k m l bm bl hm hl h in absurd (omega (arith, i, g))
    go (greater_view h) (equal_view e) = let i = number-rises k m l bm bl hm hl h in absurd (omega (arith, i, e))
    go (greater_view h) (greater_view g) = refl

-- The checksum by words of eight bytes is the checksum.
-- Assumes nothing.
use Prim.Native.Nat.{ℕ, zero, suc, ◌+◌, ◌-◌, ◌*◌, ◌/◌, ◌%◌, ◌≤◌, ◌<◌}
use mathlib.Core.Path.{◌≡◌, refl, sym, ◌∙◌, ap, ap₂, subst}
use mathlib.Core.List.{List, [], ◌∷◌}
use native.Mathlib.Numerals.{add-one}
use native.Mathlib.Omega.{arith}
use borrow.Author.Tests.{ltb-true, ltb-false}
use lib.Dec.{ltb}
use lib.ListN.{length, get_or, length-drop}
use lib.Seq.{get_or-drop}
use Rattle.records.specs.Bytes.{word, value_at}
use Rattle.records.proofs.Laws.{by-test}
use Rattle.checksum.specs.Checksum.{ones_add, big_word, ones_sum, checksum, cleared}
use Rattle.checksum.specs.Words.{halves, word_sum, fold, swap_bytes}
use Rattle.checksum.proofs.Congruence.{Same, same, same-sym, same-trans, same_add, same-times, number, total}
use Rattle.checksum.proofs.Congruence.{digit_sum, sum_to, swap_digit, swapped_sum, determined}

-- every byte of l is one
abbrev Bytes : List ℕ → Type 0
Bytes l = (i : ℕ) → get_or l i 0 ≤ 255

-- The code's loop

pub none_yet : (l : List ℕ) → 0 ≡ word_sum l 0
unfolding word_sum
none_yet l = refl

-- one more word added
pub word_more : (l : List ℕ) (k sum w : ℕ) → sum ≡ word_sum l k → w ≡ value_at l k → sum + halves w ≡ word_sum l (k + 1)
unfolding word_sum
word_more l k sum w e v = ap₂ (λ s x. s + halves x) e v ∙ ap (word_sum l) (sym (add-one k))

fold-below : (n q : ℕ) → n ≤ 65535 + 65536 * q → fold n ≤ 65535 + q
fold-below n q h = omega arith

-- three folds are enough for a block
pub folded_thrice : (n once twice r : ℕ) → n ≤ 549755813760 → once ≡ fold n → twice ≡ fold once → r ≡ fold twice
    → (r ≡ fold (fold (fold n))) × (r ≤ 65535)
folded_thrice n once twice r h e f g =
    let a = fold-below n 8388607 (omega arith) in
    let b = fold-below once 128 (rw e (omega (arith, a))) in
    (g ∙ ap fold (f ∙ ap fold e), rw g (last twice (rw f b)))
  where
    last : (n : ℕ) → n ≤ 65663 → fold n ≤ 65535
    last n h = omega arith

-- The definition: one's complement addition is addition, up to what folds away

ones-add : (a b : ℕ) → Same (ones_add a b) (a + b)
unfolding ones_add
ones-add a b =
    by-test (ltb 65535 (a + b)) (λ e. subst (λ x. Same x (a + b)) (sym (rw e)) (off (a + b) (ltb-true _ _ e)))
    (λ e. subst (λ x. Same x (a + b)) (sym (rw e)) (same (a + b)))
  where
    off : (n : ℕ) → 65535 < n → Same (n - 65535) n
    off n h =
        record {
          less = 1;
          more = 0;
          congruent = omega arith;
          forth = λ e. absurd (omega arith);
          back = λ e. absurd (omega arith);
        }

pub ones-sum : (l : List ℕ) (n : ℕ) → Same (ones_sum l n) (sum_to (big_word l) n)
unfolding ones_sum sum_to
ones-sum l zero = same 0
ones-sum l (suc n) =
    same-trans _ _ _ (ones-add (ones_sum l n) (big_word l n)) (same_add _ _ _ _ (ones-sum l n) (same (big_word l n)))

pub ones-fit : (l : List ℕ) → Bytes l → (n : ℕ) → ones_sum l n ≤ 65535
unfolding ones_sum ones_add big_word
ones-fit l b zero = omega arith
ones-fit l b (suc n) =
    let h = ones-fit l b n in
    let low = b (2 * n) in
    let high = b (2 * n + 1) in
    by-test (ltb 65535 (ones_sum l n + big_word l n)) (λ e. rw e (omega (arith, h, low, high)))
    (λ e. rw e (let g = ltb-false 65535 (ones_sum l n + big_word l n) e in omega (arith, g)))

-- The code: a word of eight bytes is a number of four digits

-- the k-th digit of l as the machine has it, the low byte first
abbrev little_word : List ℕ → ℕ → ℕ
little_word l k = get_or l (2 * k) 0 + 256 * get_or l (2 * k + 1) 0

abbrev four_digits : List ℕ → ℕ → List ℕ
four_digits l k =
    little_word l (4 * k) ∷ little_word l (4 * k + 1) ∷ little_word l (4 * k + 2) ∷ little_word l (4 * k + 3) ∷ []

value-digits : (l : List ℕ) (k : ℕ) → value_at l k ≡ number (four_digits l k)
unfolding value_at word number
value-digits l k =
    let at : (i j : ℕ) → i ≡ j → get_or l i 0 ≡ get_or l j 0 = λ i j e. ap (λ n. get_or l n 0) e in
    let e0 = at (8 * k) (2 * (4 * k)) (omega arith) in
    let e1 = at (8 * k + 1) (2 * (4 * k) + 1) (omega arith) in
    let e2 = at (8 * k + 2) (2 * (4 * k + 1)) (omega arith) in
    let e3 = at (8 * k + 3) (2 * (4 * k + 1) + 1) (omega arith) in
    let e4 = at (8 * k + 4) (2 * (4 * k + 2)) (omega arith) in
    let e5 = at (8 * k + 4 + 1) (2 * (4 * k + 2) + 1) (omega arith) in
    let e6 = at (8 * k + 4 + 2) (2 * (4 * k + 3)) (omega arith) in
    let e7 = at (8 * k + 4 + 3) (2 * (4 * k + 3) + 1) (omega arith) in
    omega (arith, e0, e1, e2, e3, e4, e5, e6, e7)

halves-same : (w : ℕ) → Same (halves w) w
unfolding number total
halves-same w = digit_sum (w % 4294967296 ∷ 0 ∷ w / 4294967296 ∷ []) _ _ (omega arith) (omega arith)

fold_same : (n : ℕ) → Same (fold n) n
unfolding number total
fold_same n = digit_sum (n % 65536 ∷ n / 65536 ∷ []) _ _ (omega arith) (omega arith)

swap_same : (n : ℕ) → Same (swap_bytes n) (256 * n)
swap_same n =
    let e : n % 256 + 256 * (n / 256) ≡ n = omega arith in
    subst (λ x. Same (swap_bytes n) (256 * x)) e (swap_digit (n % 256) (n / 256))

swap_fits : (n : ℕ) → n ≤ 65535 → swap_bytes n ≤ 65535
swap_fits n h = omega arith

sum_four : (f : ℕ → ℕ) (k : ℕ)
    → sum_to f (4 * suc k) ≡ sum_to f (4 * k) + total (f (4 * k) ∷ f (4 * k + 1) ∷ f (4 * k + 2) ∷ f (4 * k + 3) ∷ [])
unfolding sum_to total
sum_four f k =
    let e : 4 * suc k ≡ suc (suc (suc (suc (4 * k)))) = omega arith in
    let a = ap f (add-one (4 * k)) in
    let b : f (4 * k + 2) ≡ f (suc (suc (4 * k))) = ap f (omega arith) in
    let c : f (4 * k + 3) ≡ f (suc (suc (suc (4 * k)))) = ap f (omega arith) in
    ap (sum_to f) e ∙ omega (arith, a, b, c)

pub word_sum_lem : (l : List ℕ) (n : ℕ) → Same (word_sum l n) (sum_to (little_word l) (4 * n))
unfolding word_sum sum_to
word_sum_lem l zero = same 0
word_sum_lem l (suc n) =
    let w = same-trans _ _ _ (halves-same (value_at l n))
    (same-sym _ _ (digit_sum (four_digits l n) _ _ refl (sym (value-digits l n)))) in
    subst (Same (word_sum l n + halves (value_at l n))) (sym (sum_four (little_word l) n))
    (same_add _ _ _ _ (word_sum_lem l n) w)

-- Both together: the sum by words, folded and swapped, is the one's complement sum

pub by-words : (l : List ℕ) → Bytes l → (n sum : ℕ) → sum ≡ word_sum l n → fold (fold (fold sum)) ≤ 65535
    → swap_bytes (fold (fold (fold sum))) ≡ ones_sum l (4 * n)
unfolding big_word
by-words l b n sum e h =
    let thrice = same-trans _ _ _ (fold_same (fold (fold sum))) (same-trans _ _ _ (fold_same (fold sum)) (fold_same sum)) in
    let little : Same (fold (fold (fold sum))) (sum_to (little_word l) (4 * n)) =
    same-trans _ _ _ thrice (subst (λ x. Same x (sum_to (little_word l) (4 * n))) (sym e) (word_sum_lem l n)) in
    let swapped = same-trans _ _ _ (swap_same (fold (fold (fold sum)))) (same-times _ _ little) in
    let big = same-trans _ _ _ (ones-sum l (4 * n)) (swapped_sum (λ k. get_or l (2 * k) 0) (λ k. get_or l (2 * k + 1) 0) (4 * n)) in
    determined _ _ (swap_fits _ h) (ones-fit l b (4 * n)) (same-trans _ _ _ swapped (same-sym _ _ big))

-- Bytes 0 and 1 count as zero: they are taken off the sum

pub length-cleared : (b : List ℕ) → 2 ≤ length b → length (cleared b) ≡ length b
unfolding cleared
length-cleared b h = let e = length-drop 2 b in omega (arith, e, h)

pub get_d_cleared : (b : List ℕ) (i : ℕ) → 2 ≤ i → get_or (cleared b) i 0 ≡ get_or b i 0
unfolding cleared
get_d_cleared b zero h = absurd (omega arith)
get_d_cleared b (suc zero) h = absurd (omega arith)
get_d_cleared b (suc (suc i)) h = get_or-drop 2 b i 0 ∙ ap (λ n. get_or b n 0) (omega arith)

cleared-bytes : (b : List ℕ) → Bytes b → Bytes (cleared b)
unfolding cleared
cleared-bytes b h zero = omega arith
cleared-bytes b h (suc zero) = omega arith
cleared-bytes b h (suc (suc i)) = subst (λ x. x ≤ 255) (sym (get_d_cleared b (suc (suc i)) (omega arith))) (h (suc (suc i)))

cleared-word : (b : List ℕ) (at : ℕ) → 2 ≤ at → word (cleared b) at ≡ word b at
unfolding word
cleared-word b at h =
    let e0 = get_d_cleared b at h in
    let e1 = get_d_cleared b (at + 1) (omega arith) in
    let e2 = get_d_cleared b (at + 2) (omega arith) in
    let e3 = get_d_cleared b (at + 3) (omega arith) in
    omega (arith, e0, e1, e2, e3)

cleared-first : (b : List ℕ) → word b 0 ≡ word (cleared b) 0 + (get_or b 0 0 + 256 * get_or b 1 0)
unfolding word cleared
cleared-first b =
    let e2 = get_d_cleared b 2 (omega arith) in
    let e3 = get_d_cleared b 3 (omega arith) in
    omega (arith, e2, e3)

word_fits : (l : List ℕ) → Bytes l → (at : ℕ) → word l at < 4294967296
unfolding word
word_fits l b at =
    let b0 = b at in let b1 = b (at + 1) in let b2 = b (at + 2) in let b3 = b (at + 3) in omega (arith, b0, b1, b2, b3)

halves-words : (l : List ℕ) → Bytes l → (k : ℕ) → halves (value_at l k) ≡ word l (8 * k) + word l (8 * k + 4)
unfolding value_at
halves-words l b k = let h = word_fits l b (8 * k) in omega (arith, h)

pub cleared-sum : (b : List ℕ) → Bytes b → (n : ℕ)
    → word_sum b (suc n) ≡ word_sum (cleared b) (suc n) + (get_or b 0 0 + 256 * get_or b 1 0)
unfolding word_sum
cleared-sum b h zero =
    let x = halves-words b h 0 in
    let y = halves-words (cleared b) (cleared-bytes b h) 0 in
    let f = cleared-first b in
    let g = cleared-word b 4 (omega arith) in
    omega (arith, x, y, f, g)
cleared-sum b h (suc n) =
    let x = halves-words b h (suc n) in
    let y = halves-words (cleared b) (cleared-bytes b h) (suc n) in
    let f = cleared-word b (8 * suc n) (omega arith) in
    let g = cleared-word b (8 * suc n + 4) (omega arith) in
    let r = cleared-sum b h n in
    omega (arith, x, y, f, g, r)

pub first_below : (b : List ℕ) → Bytes b → (all first : ℕ) → all ≡ word_sum b 64
    → first ≡ get_or b 0 0 + 256 * get_or b 1 0 → first ≤ all
first_below b h all first e f = let s = cleared-sum b h 63 in omega (arith, s, e, f)

pub checksum-by_words : (b : List ℕ) → Bytes b → (all first folded swapped : ℕ) → length b ≡ 512 → all ≡ word_sum b 64
    → first ≡ get_or b 0 0 + 256 * get_or b 1 0 → folded ≡ fold (fold (fold (all - first))) → folded ≤ 65535
    → swapped ≡ swap_bytes folded → 65535 - swapped ≡ checksum (cleared b)
unfolding checksum
checksum-by_words b h all first folded swapped l e f g m s =
    let n : (length (cleared b) + 1) / 2 ≡ 256 = let k = length-cleared b (omega arith) in omega (arith, k, l) in
    let c = cleared-sum b h 63 in
    let d : all - first ≡ word_sum (cleared b) 64 = omega (arith, c, e, f) in
    let w = by-words (cleared b) (cleared-bytes b h) 64 (all - first) d (subst (λ x. x ≤ 65535) g m) in
    rw n (ap (λ x. 65535 - x) (s ∙ ap swap_bytes g ∙ w))

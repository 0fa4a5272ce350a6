-- Symbols as text: how long they are, one byte more, and that a reader gets the bytes back.
use mathlib.Core.Path.{◌≡◌, refl, sym, ◌∙◌, ap}
use mathlib.Core.Bool.{Bool, true, false, cond}
use mathlib.Core.List.{List, [], ◌∷◌, ◌++◌}
use Prim.Native.Nat.{ℕ, zero, suc, ◌+◌, ◌*◌, ◌-◌, ◌/◌, ◌%◌, ◌<◌, ◌≤◌}
use native.Mathlib.Omega.{arith}
use native.Mathlib.Numerals.{add-one}
use lib.Dec.{ltb}
use lib.ListN.{length, get_or, drop, length-append, take-append-drop}
use borrow.Author.Tests.{ltb-true, ltb-false, lt-ltb, le-ltb}
use Rattle.records.proofs.Laws.{by-test}
use Rattle.merge.specs.Write.{splice}
use Rattle.merge.proofs.Splices.{splice-then}
use Rattle.symbols.specs.Symbol.{bytes_from, symbol}
use Rattle.symbol_text.specs.Hex.{hex_digit, hex_bytes, symbol_text}

-- ---- lengths
pub hex_length : (l : List ℕ) → length (hex_bytes l) ≡ 2 * length l
unfolding hex_bytes
hex_length [] = refl
hex_length (b ∷ l) = omega (arith, hex_length l)

bytes-length : (text : List ℕ) (start n : ℕ) → length (bytes_from text start n) ≡ n
unfolding bytes_from
bytes-length text start zero = refl
bytes-length text start (suc n) = ap suc (bytes-length text (suc start) n)

pub bytes-size : (text : List ℕ) (start n : ℕ) → length (hex_bytes (bytes_from text start n)) ≡ 2 * n
bytes-size text start n = hex_length (bytes_from text start n) ∙ ap (λ (k : ℕ). 2 * k) (bytes-length text start n)

pub symbol-size : (text : List ℕ) (v : ℕ) → length (symbol_text (symbol text v)) ≡ 1 + 2 * (v / 4294967296)
unfolding symbol_text symbol
symbol-size text v = omega (arith, bytes-size text (v % 4294967296) (v / 4294967296))

-- ---- one byte more
hex_append : (l m : List ℕ) → hex_bytes (l ++ m) ≡ hex_bytes l ++ hex_bytes m
unfolding hex_bytes
hex_append [] m = refl
hex_append (b ∷ l) m = ap (λ k. hex_digit (b / 16) ∷ hex_digit (b % 16) ∷ k) (hex_append l m)

bytes-more : (text : List ℕ) (start n : ℕ) → bytes_from text start (suc n) ≡ bytes_from text start n ++ (get_or text (start + n) 0 ∷ [])
unfolding bytes_from
bytes-more text start zero = let e : start + 0 ≡ start = omega arith in rw e refl
bytes-more text start (suc n) =
    let e : start + suc n ≡ suc start + n = omega arith in
    ap (λ k. get_or text start 0 ∷ k)
    (bytes-more text (suc start) n ∙ ap (λ (i : ℕ). bytes_from text (suc start) n ++ (get_or text i 0 ∷ [])) (sym e))

pub hex_more : (text : List ℕ) (start n : ℕ) → hex_bytes (bytes_from text start (n + 1)) ≡
    hex_bytes (bytes_from text start n) ++ hex_bytes (get_or text (start + n) 0 ∷ [])
hex_more text start n =
    rw (add-one) (ap hex_bytes (bytes-more text start n) ∙ hex_append (bytes_from text start n) (get_or text (start + n) 0 ∷ []))

-- ---- in a buffer
pub splice-nothing : (s : List ℕ) (at : ℕ) (text : List ℕ) (start : ℕ) → s ≡ splice s at (hex_bytes (bytes_from text start 0))
unfolding splice hex_bytes bytes_from
splice-nothing s at text start = let e : at + 0 ≡ at = omega arith in rw e (sym (take-append-drop at s))

pub hex_put : (s : List ℕ) {s1 s2 : List ℕ} (at b x y : ℕ) → x ≡ hex_digit (b / 16) → y ≡ hex_digit (b % 16)
    → s1 ≡ splice s at (x ∷ []) → s2 ≡ splice s1 (at + 1) (y ∷ []) → at + 2 ≤ length s → s2 ≡ splice s at (hex_bytes (b ∷ []))
unfolding hex_bytes
hex_put s at b x y ex ey a c h =
    splice-then s at (at + 1) (x ∷ []) (y ∷ []) a c refl (omega (arith, h)) ∙ λ i. splice s at (ex i ∷ ey i ∷ [])

pub hex_turn : (s₀ s : List ℕ) {s1 : List ℕ} (text : List ℕ) (at start i next b : ℕ) → next ≡ at + 2 * i
    → s ≡ splice s₀ at (hex_bytes (bytes_from text start i)) → next + 2 ≤ length s₀ → b ≡ get_or text (start + i) 0
    → s1 ≡ splice s next (hex_bytes (b ∷ []))
    → s1 ≡ splice s₀ at (hex_bytes (bytes_from text start (i + 1)))
hex_turn s₀ s text at start i next b e inv room eb done =
    splice-then s₀ at next (hex_bytes (bytes_from text start i)) (hex_bytes (b ∷ [])) inv done
    (omega (arith, bytes-size text start i, e)) (omega (arith, hex_length (b ∷ []), room))
    ∙ ap (λ d. splice s₀ at (hex_bytes (bytes_from text start i) ++ hex_bytes (d ∷ []))) eb
    ∙ ap (splice s₀ at) (sym (hex_more text start i))

pub hex_ended : (s₀ s text : List ℕ) (at start i count : ℕ) → s ≡ splice s₀ at (hex_bytes (bytes_from text start i)) → i ≡ count
    → s ≡ splice s₀ at (hex_bytes (bytes_from text start count))
hex_ended s₀ s text at start i count inv e = inv ∙ ap (λ n. splice s₀ at (hex_bytes (bytes_from text start n))) e

pub symbol-written : (s : List ℕ) {s1 s2 s3 : List ℕ} (text : List ℕ) (at v end close : ℕ) → s1 ≡ splice s at (116 ∷ [])
    → s2 ≡ splice s1 (at + 1) (hex_bytes (bytes_from text (v % 4294967296) (v / 4294967296)))
    → s3 ≡ splice s2 end (close ∷ []) → at + length (symbol_text (symbol text v)) ≡ end → end + 1 ≤ length s
    → s3 ≡ splice s at (symbol_text (symbol text v) ++ (close ∷ []))
unfolding symbol_text symbol
symbol-written s text at v end close a b c e h =
    let k = bytes-size text (v % 4294967296) (v / 4294967296) in
    splice-then s at end (116 ∷ hex_bytes (bytes_from text (v % 4294967296) (v / 4294967296))) (close ∷ [])
    (splice-then s at (at + 1) (116 ∷ []) (hex_bytes (bytes_from text (v % 4294967296) (v / 4294967296))) a b refl (omega (arith, e, h)))
    c e (omega (arith, h))

-- ---- reading back: no digit is a blank, and two numbers never have one digit
pub digit_low : (n : ℕ) → n < 10 → hex_digit n ≡ 48 + n
unfolding hex_digit
digit_low n h = rw (lt-ltb n 10 h)

pub digit_high : (n : ℕ) → 10 ≤ n → hex_digit n ≡ 87 + n
unfolding hex_digit
digit_high n h = rw (le-ltb n 10 h)

no_blank : (n : ℕ) → 48 ≤ hex_digit n
no_blank n =
    by-test (ltb n 10) (λ t. omega (arith, digit_low n (ltb-true n 10 t))) (λ t. omega (arith, digit_high n (ltb-false n 10 t)))

digits-differ : (m n : ℕ) → hex_digit m ≡ hex_digit n → m ≡ n
digits-differ m n e =
    by-test (ltb m 10)
    (λ s.
    let a = digit_low m (ltb-true m 10 s) in
    by-test (ltb n 10) (λ t. omega (arith, a, e, digit_low n (ltb-true n 10 t)))
    (λ t. omega (arith, a, e, digit_high n (ltb-false n 10 t), ltb-true m 10 s)))
    (λ s.
    let a = digit_high m (ltb-false m 10 s) in
    by-test (ltb n 10) (λ t. omega (arith, a, e, digit_low n (ltb-true n 10 t), ltb-true n 10 t, ltb-false m 10 s))
    (λ t. omega (arith, a, e, digit_high n (ltb-false n 10 t))))

hex_words : (l m x y : List ℕ) → hex_bytes l ++ (32 ∷ x) ≡ hex_bytes m ++ (32 ∷ y) → (l ≡ m) × (x ≡ y)
unfolding hex_bytes
hex_words [] [] x y e = (refl, ap (drop 1) e)
hex_words [] (c ∷ m) x y e =
    let g : 32 ≡ hex_digit (c / 16) = ap (λ k. get_or k 0 0) e in absurd (omega (arith, g, no_blank (c / 16)))
hex_words (b ∷ l) [] x y e =
    let g : hex_digit (b / 16) ≡ 32 = ap (λ k. get_or k 0 0) e in absurd (omega (arith, g, no_blank (b / 16)))
hex_words (b ∷ l) (c ∷ m) x y e =
    let high : b / 16 ≡ c / 16 = digits-differ (b / 16) (c / 16) (ap (λ k. get_or k 0 0) e) in
    let low : b % 16 ≡ c % 16 = digits-differ (b % 16) (c % 16) (ap (λ k. get_or k 1 0) e) in
    let same : b ≡ c = omega (arith, high, low) in
    let p = hex_words l m x y (ap (drop 2) e) in
    (λ i. same i ∷ p.0 i, p.1)

pub symbol-words : (l m x y : List ℕ) → symbol_text l ++ (32 ∷ x) ≡ symbol_text m ++ (32 ∷ y) → (l ≡ m) × (x ≡ y)
unfolding symbol_text
symbol-words l m x y e = hex_words l m x y (ap (drop 1) e)

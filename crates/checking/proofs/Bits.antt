-- Bits of a word: those of a disjunction, those of a power of two; and that columns read marks exactly the columns reached.
use mathlib.Core.Path.{◌≡◌, refl, ◌∙◌}
use mathlib.Core.Bool.{Bool, true, false, ◌||◌}
use mathlib.Core.List.{List, [], ◌∷◌}
use mathlib.Core.Logic.{◌⊎◌, inl, inr, ⊎_elim}
use Prim.Native.Nat.{ℕ, zero, suc, ◌+◌, ◌-◌, ◌*◌, ◌/◌, ◌%◌, ◌^◌, ◌≤◌, ◌<◌, max}
use lib.Bits.{bit_or, or_step, or_shr}
use lib.Pow.{shl_exact, pow-lt, pow_pos, pow-add}
use native.Mathlib.Nat.{one-mul, zero-div, mul-div_right, pow-suc, div_self, div-eq_of_lt}
use native.Mathlib.Omega.{arith}
use lib.Dec.{ltb, eqb}
use borrow.Author.Tests.{ltb-true, ltb-false, eq-eqb, ne_eqb}
use Rattle.checking.specs.Columns.{bit, is_column, any_at, reaches, column_bit, own_column, or_at, columns_step, columns_word}
use Rattle.records.specs.Record.{node, record_at, inputs}
use Rattle.records.specs.declared.record.Record.{Record}
use Rattle.records.specs.declared.record.Record.TheVariants as kind
use Rattle.records.proofs.Courses.{course-map}
use Rattle.records.proofs.Laws.{by-test}

pub one_shifted : (i : ℕ) → i < 64 → (1 * 2 ^ i) % 2 ^ 64 ≡ 2 ^ i
one_shifted i h = shl_exact 1 i 64 (omega arith) (omega arith) ∙ one-mul (2 ^ i)

or_low : (u v : ℕ) → bit_or u v % 2 ≡ max (u % 2) (v % 2)
or_low u v = rw (or_step u v) (omega arith)

or_digit : (p q : ℕ) → p < 2 → q < 2 → eqb (max p q) 1 ≡ (eqb p 1 || eqb q 1)
or_digit zero zero h k = refl
or_digit zero (suc zero) h k = refl
or_digit (suc zero) zero h k = refl
or_digit (suc zero) (suc zero) h k = refl
or_digit (suc (suc p)) q h k = absurd (omega arith)
or_digit zero (suc (suc q)) h k = absurd (omega arith)
or_digit (suc zero) (suc (suc q)) h k = absurd (omega arith)

pub bit-or : (x y j : ℕ) → bit (bit_or x y) j ≡ (bit x j || bit y j)
bit-or x y j = rw (or_shr x y j, or_low (x / 2 ^ j) (y / 2 ^ j)) (or_digit (x / 2 ^ j % 2) (y / 2 ^ j % 2) (omega arith) (omega arith))

pow_up : (j d : ℕ) → 2 ^ (j + suc d) / 2 ^ j % 2 ≡ 0
pow_up j d = rw (pow-add 2 j (suc d), mul-div_right (2 ^ suc d) (pow_pos j), pow-suc 2 d) (omega arith)

bool_or : (t : Bool) → (t ≡ true) ⊎ (t ≡ false)
bool_or true = inl refl
bool_or false = inr refl

pub lt-or_le : (a b : ℕ) → (a < b) ⊎ (b ≤ a)
lt-or_le a b = ⊎_elim (λ e. inl (ltb-true a b e)) (λ e. inr (ltb-false a b e)) (bool_or (ltb a b))

eq_or_lt : (a b : ℕ) → a ≤ b → (b ≡ a) ⊎ (a < b)
eq_or_lt a b h = ⊎_elim (λ k. inr k) (λ k. inl (omega arith)) (lt-or_le a b)

pub bit-pow : (i j : ℕ) → bit (2 ^ i) j ≡ eqb i j
bit-pow i j = ⊎_elim
    (λ (h : i < j). rw (div-eq_of_lt (pow-lt h), ne_eqb i j (λ e. omega arith)))
    (λ (h : j ≤ i). ⊎_elim
    (λ (e : i ≡ j). rw (e, div_self (pow_pos j), eq-eqb j j refl))
    (λ (k : j < i). let e : i ≡ j + suc (i - suc j) = omega arith in rw e (rw (pow_up j (i - suc j), ne_eqb (j + suc (i - suc j)) j (λ q. omega arith))))
    (eq_or_lt j i h))
    (lt-or_le i j)

pub bit-zero : (c : ℕ) → bit 0 c ≡ false
bit-zero c = rw (zero-div (2 ^ c))

bit-column : (k c : ℕ) → c < 64 → bit (column_bit k) c ≡ eqb k c
bit-column k c h = by-test (ltb k 64) low high
  where
    low : ltb k 64 ≡ true → bit (column_bit k) c ≡ eqb k c
    low e = rw e (bit-pow k c)

    high : ltb k 64 ≡ false → bit (column_bit k) c ≡ eqb k c
    high e =
        let l : 64 ≤ k = ltb-false k 64 e in let d : (k ≡ c → ⊥) = λ q. omega arith in rw (e, bit-zero c, ne_eqb k c d)

bit-own : (r : Record) (c : ℕ) → c < 64 → bit (own_column r) c ≡ is_column r c
bit-own kind.Invalid c h = bit-zero c
bit-own (kind.Column k) c h = bit-column k.0 c h
bit-own (kind.Literal ty v) c h = bit-zero c
bit-own (kind.Null ty) c h = bit-zero c
bit-own (kind.Binary o x y) c h = bit-zero c
bit-own (kind.Not x) c h = bit-zero c
bit-own (kind.IsNull x) c h = bit-zero c
bit-own (kind.IsNotNull x) c h = bit-zero c
bit-own (kind.IsBetween k x low high) c h = bit-zero c
bit-own (kind.List ty marked start count) c h = bit-zero c
bit-own (kind.IsIn equal x list) c h = bit-zero c

bit-inputs : (C : ℕ → ℕ) (D : ℕ → Bool) (c : ℕ) → ((a : ℕ) → bit (C a) c ≡ D a) → (l : List ℕ)
    → bit (or_at C l) c ≡ any_at D l
bit-inputs C D c h [] = bit-zero c
bit-inputs C D c h (x ∷ l) = rw (bit-or (C x) (or_at C l) c, h x, bit-inputs C D c h l)

-- bit c of the word is set exactly if record n reaches column c
pub word-reaches : (rs : List ℕ) (n c : ℕ) → c < 64 → bit (columns_word rs n) c ≡ reaches rs c n
word-reaches rs n c h =
    course-map (λ w. bit w c) (λ a. 0) (λ a. false)
    (λ lower i. columns_step lower (record_at rs (node i)))
    (λ lower i. is_column (record_at rs (node i)) c || any_at lower (inputs (record_at rs (node i))))
    (n + 1) (λ a. bit-zero c) same n (omega arith)
  where
    same : (i : ℕ) → i < n + 1 → (C : ℕ → ℕ) (D : ℕ → Bool) → ((a : ℕ) → bit (C a) c ≡ D a)
        → bit (columns_step C (record_at rs (node i))) c
        ≡ (is_column (record_at rs (node i)) c || any_at D (inputs (record_at rs (node i))))
    same i l C D e =
        rw (
          bit-or (own_column (record_at rs (node i))) (or_at C (inputs (record_at rs (node i)))) c,
          bit-own (record_at rs (node i)) c h,
          bit-inputs C D c e (inputs (record_at rs (node i))),
        )

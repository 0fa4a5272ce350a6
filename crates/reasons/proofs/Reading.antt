-- A reader of the text gives the list of reasons back, so two lists never give the same text.
use mathlib.Core.Path.{◌≡◌, refl, sym, ◌∙◌, ap}
use mathlib.Core.Bool.{Bool, true, false, cond, ◌&&◌}
use mathlib.Core.List.{List, [], ◌∷◌, ◌++◌, append_assoc}
use Prim.Native.Nat.{ℕ, zero, suc, ◌+◌, ◌*◌, ◌-◌, ◌/◌, ◌%◌, ◌<◌, ◌≤◌}
use native.Mathlib.Omega.{arith}
use native.Mathlib.Nat.{mod-lt}
use lib.Dec.{leb, eqb}
use lib.IntN.{ℤ, pos, negsuc}
use lib.ListN.{length, get_or, drop, length-append}
use lib.Seq.{drop_at}
use borrow.Author.Tests.{le-leb}
use Rattle.truth.specs.Comparison.{Comparison, Eq, NotEq, Lt, LtEq, Gt, GtEq}
use Rattle.merge.specs.Reasons.{ReasonValue, Whole, Bytes, Reason}
use Rattle.decimals.specs.Decimal.{last_digit, decimal, signed}
use Rattle.symbol_text.specs.Hex.{symbol_text}
use Rattle.symbol_text.proofs.Hex.{symbol-words}
use Rattle.reasons.specs.Text.{operator_name, value_text, reason_text, reasons_text}
use Rattle.reasons.specs.Injective.{DifferentTexts}
use Rattle.decimals.proofs.Decimals.{one-digit, more_digits, by_digits, length_some}

-- ---- a number up to the first byte that is no digit

abbrev is_digit : ℕ → Bool
is_digit b = leb 48 b && leb b 57

unfoldable read_number : ℕ → List ℕ → ℕ × List ℕ
read_number n [] = (n, [])
read_number n (b ∷ l) = cond (is_digit b) (read_number (10 * n + (b - 48)) l) (n, b ∷ l)

read_digit : (n d : ℕ) (l : List ℕ) → d < 10 → read_number n ((48 + d) ∷ l) ≡ read_number (10 * n + d) l
unfolding read_number
read_digit n d l h =
    let e : 48 + d - 48 ≡ d = omega arith in
    rw (le-leb 48 (48 + d) (omega arith), le-leb (48 + d) 57 (omega arith), e)

read_decimal : (n : ℕ) (l : List ℕ) → read_number 0 (decimal n ++ l) ≡ read_number n l
read_decimal =
    by_digits (λ n. (l : List ℕ) → read_number 0 (decimal n ++ l) ≡ read_number n l)
    (λ n h l. rw (one-digit n h) (read_digit 0 n l h ∙ ap (λ (m : ℕ). read_number m l) (omega arith)))
    (λ n h ih l.
    rw (more_digits n h, append_assoc)
    (ih (last_digit n ∷ l) ∙ (read_digit (n / 10) (n % 10) l (mod-lt n (omega arith))
    ∙ ap (λ (m : ℕ). read_number m l) (omega arith))))

-- a word that is a number is read, and with it the byte that closes it
number_word : (c : ℕ) → is_digit c ≡ false → (n : ℕ) (l : List ℕ) → read_number 0 (decimal n ++ (c ∷ l)) ≡ (n, c ∷ l)
unfolding read_number
number_word c h n l = read_decimal n (c ∷ l) ∙ rw h

numbers : (c : ℕ) → is_digit c ≡ false → (m n : ℕ) (x y : List ℕ) → decimal m ++ (c ∷ x) ≡ decimal n ++ (c ∷ y)
    → (m ≡ n) × (x ≡ y)
numbers c h m n x y e =
    let r : ◌≡◌ {A = ℕ × List ℕ} (m, c ∷ x) (n, c ∷ y) = sym (number_word c h m x) ∙ (ap (read_number 0) e ∙ number_word c h n y) in
    (ap (λ (p : ℕ × List ℕ). p.0) r, ap (λ (p : ℕ × List ℕ). drop 1 p.1) r)

-- ---- a signed number: what begins with a minus is negative

first_byte : (n : ℕ) (l : List ℕ) → 48 ≤ get_or (decimal n ++ l) 0 0
first_byte =
    by_digits (λ n. (l : List ℕ) → 48 ≤ get_or (decimal n ++ l) 0 0)
    (λ n h l. rw (one-digit n h) (omega arith))
    (λ n h ih l. rw (more_digits n h, append_assoc) (ih (last_digit n ∷ l)))

no_minus : (c m : ℕ) (x y : List ℕ) → decimal m ++ (c ∷ x) ≡ 45 ∷ y → ⊥
no_minus c m x y e =
    let h : 48 ≤ get_or (decimal m ++ (c ∷ x)) 0 0 = first_byte m (c ∷ x) in
    let g : get_or (decimal m ++ (c ∷ x)) 0 0 ≡ 45 = ap (λ l. get_or l 0 0) e in
    omega arith

integers : (c : ℕ) → is_digit c ≡ false → (v w : ℤ) (x y : List ℕ) → signed v ++ (c ∷ x) ≡ signed w ++ (c ∷ y)
    → (v ≡ w) × (x ≡ y)
unfolding signed
integers c h (pos m) (pos n) x y e = let p = numbers c h m n x y e in (ap pos p.0, p.1)
integers c h (pos m) (negsuc n) x y e = absurd (no_minus c m x _ e)
integers c h (negsuc m) (pos n) x y e = absurd (no_minus c n y _ (sym e))
integers c h (negsuc m) (negsuc n) x y e =
    let p = numbers c h (suc m) (suc n) x y (ap (drop 1) e) in
    let q : m ≡ n = omega (arith, p.0) in
    (ap negsuc q, p.1)

-- ---- a value: what begins with a t is a symbol

below-letters : (n : ℕ) (l : List ℕ) → get_or (decimal n ++ l) 0 0 < 116
below-letters =
    by_digits (λ n. (l : List ℕ) → get_or (decimal n ++ l) 0 0 < 116)
    (λ n h l. rw (one-digit n h) (omega arith))
    (λ n h ih l. rw (more_digits n h, append_assoc) (ih (last_digit n ∷ l)))

no_letter : (z : ℤ) (x m y : List ℕ) → signed z ++ x ≡ symbol_text m ++ y → ⊥
unfolding signed symbol_text
no_letter (pos n) x m y e =
    let h : get_or (decimal n ++ x) 0 0 < 116 = below-letters n x in
    let g : get_or (decimal n ++ x) 0 0 ≡ 116 = ap (λ l. get_or l 0 0) e in
    omega arith
no_letter (negsuc n) x m y e = let g : ◌≡◌ {A = ℕ} 45 116 = ap (λ l. get_or l 0 0) e in omega (arith, g)

values : (v w : ReasonValue) (x y : List ℕ) → value_text v ++ (32 ∷ x) ≡ value_text w ++ (32 ∷ y) → (v ≡ w) × (x ≡ y)
unfolding value_text
values (Whole a) (Whole b) x y e = let p = integers 32 refl a b x y e in (ap Whole p.0, p.1)
values (Whole a) (Bytes m) x y e = absurd (no_letter a _ m _ e)
values (Bytes l) (Whole b) x y e = absurd (no_letter b _ l _ (sym e))
values (Bytes l) (Bytes m) x y e = let p = symbol-words l m x y e in (ap Bytes p.0, p.1)

-- ---- an operator: its first byte, and which byte follows

abbrev read_operator : List ℕ → Comparison
read_operator l =
    cond (eqb (get_or l 0 0) 69) Eq
    (cond (eqb (get_or l 0 0) 78) NotEq
    (cond (eqb (get_or l 0 0) 76) (cond (eqb (get_or l 2 0) 32) Lt LtEq) (cond (eqb (get_or l 2 0) 32) Gt GtEq)))

operator-word : (k : Comparison) (l : List ℕ) → read_operator (operator_name k ++ (32 ∷ l)) ≡ k
unfolding operator_name
operator-word Eq l = refl
operator-word NotEq l = refl
operator-word Lt l = refl
operator-word LtEq l = refl
operator-word Gt l = refl
operator-word GtEq l = refl

same-front : (a : List ℕ) (x y : List ℕ) → a ++ x ≡ a ++ y → x ≡ y
same-front a x y e =
    sym (drop_at a x (length a) refl) ∙ (ap (drop (length a)) e ∙ drop_at a y (length a) refl)

operators : (k j : Comparison) (x y : List ℕ) → operator_name k ++ (32 ∷ x) ≡ operator_name j ++ (32 ∷ y)
    → (k ≡ j) × (x ≡ y)
operators k j x y e =
    let p : k ≡ j = sym (operator-word k x) ∙ (ap read_operator e ∙ operator-word j y) in
    (p, ap (drop 1) (same-front (operator_name j) (32 ∷ x) (32 ∷ y) (rw p at e)))

-- ---- a line, and all lines

same-reason : (r s : Reason) → r.column ≡ s.column → r.operator ≡ s.operator → r.value ≡ s.value → r.line ≡ s.line
    → r ≡ s
same-reason r s a b c d = λ i. record { column = a i; operator = b i; value = c i; line = d i }

reason_first : (r s : Reason) (x y : List ℕ) → reason_text r ++ x ≡ reason_text s ++ y → (r ≡ s) × (x ≡ y)
unfolding reason_text
reason_first r s x y e =
    let p = numbers 32 refl r.column s.column _ _ (simp append_assoc at e) in
    let q = operators r.operator s.operator _ _ p.1 in
    let v = values r.value s.value _ _ q.1 in
    let l = numbers 10 refl r.line s.line x y v.1 in
    (same-reason r s p.0 q.0 v.0 l.0, l.1)

-- a reason's text is never empty
pub some_text : (r : Reason) → 1 ≤ length (reason_text r)
unfolding reason_text
some_text r = simp length-append (omega (arith, length_some r.column))

no_text : (r : Reason) (l : List ℕ) → [] ≡ reason_text r ++ l → ⊥
no_text r l e = omega (arith, some_text r, simp length-append at (ap length e))

pub different_texts : DifferentTexts
unfolding reasons_text
different_texts [] [] e = refl
different_texts [] (r ∷ b) e = absurd (no_text r _ e)
different_texts (r ∷ a) [] e = absurd (no_text r _ (sym e))
different_texts (r ∷ a) (s ∷ b) e =
    let p = reason_first r s (reasons_text a) (reasons_text b) e in rw (p.0, different_texts a b p.1)

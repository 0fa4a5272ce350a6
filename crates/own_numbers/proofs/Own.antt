-- A screen without Text is its own numbers, and a text pool that is not too long changes no answer.
use mathlib.Core.Path.{◌≡◌, refl, sym, ◌∙◌, ap}
use mathlib.Core.Bool.{Bool, true, false, cond}
use mathlib.Core.List.{List, [], ◌∷◌}
use mathlib.Core.Option.{Option}
use Prim.Native.Nat.{ℕ, zero, suc, ◌+◌, ◌*◌, ◌/◌, ◌%◌, ◌≤◌, ◌<◌}
use native.Mathlib.Omega.{arith}
use lib.Dec.{ltb, leb, eqb}
use lib.ListN.{length, get_or}
use borrow.Author.Tests.{eqb-true, le-leb, ltb-true, ltb-false}
use Rattle.records.specs.Record.{node, fields_at}
use Rattle.checking.specs.Check.{check_answer, check_answer_in}
use Rattle.checking.proofs.Accepted.{checked-in, checked-lent_in}
use Rattle.plain_lines.specs.Refusal.{checked_refusal, refusal_if, plain_refusal}
use Rattle.numbered_screen.specs.Numbered.{number_type, number_byte, Numbered}
use Rattle.symbol_screens.specs.Rewriting.{lent}
use Rattle.symbol_screens.proofs.NumbersChecked.{NoText, check-same}
use Rattle.plain_symbols.specs.Refusal.{refusal_number, plain_refusal_with}
use Rattle.plain_symbols.proofs.Refusals.{PlainWith, not-refused_with}

type_stays : (ty : ℕ) → eqb ty 4 ≡ false → number_type ty ≡ ty
unfolding number_type
type_stays ty e = ap (λ b. cond b 1 ty) e

past : (l : List ℕ) (i : ℕ) → length l ≤ i → get_or l i 0 ≡ 0
past [] zero h = refl
past [] (suc i) h = refl
past (x ∷ l) zero h = absurd (omega (arith, h))
past (x ∷ l) (suc i) h = past l i (omega (arith, h))

module _ (t rs : List ℕ) (used : ℕ) (free : NoText t rs used) where
  column-stays : (c : ℕ) → number_type (get_or t c 0) ≡ get_or t c 0
  column-stays c = go (ltb c (length t)) refl
    where
      go : (b : Bool) → ltb c (length t) ≡ b → number_type (get_or t c 0) ≡ get_or t c 0
      go true e = type_stays (get_or t c 0) (free.columns c (ltb-true c (length t) e))
      go false e = type_stays (get_or t c 0) (ap (λ ty. eqb ty 4) (past t c (ltb-false c (length t) e)))

  -- record n, of which byte 2 is the type
  type_free : (n : ℕ) → n < used → eqb (get_or rs (16 * n + 2) 0) 4 ≡ false
  unfolding fields_at
  type_free n h = free.records n h

  byte_stays : (i : ℕ) → i < 16 * used → number_byte i (get_or rs i 0) ≡ get_or rs i 0
  unfolding number_byte
  byte_stays i h = go (eqb (i % 16) 2) refl
    where
      go : (b : Bool) → eqb (i % 16) 2 ≡ b → cond b (number_type (get_or rs i 0)) (get_or rs i 0) ≡ get_or rs i 0
      go true e =
          let r : i % 16 ≡ 2 = eqb-true (i % 16) 2 e in
          let q : i ≡ 16 * (i / 16) + 2 = omega (arith, r) in
          let l : i / 16 < used = omega (arith, h) in
          type_stays (get_or rs i 0) (ap (λ j. eqb (get_or rs j 0) 4) q ∙ type_free (i / 16) l)
      go false e = refl

  pub own_numbers_lem : 16 * used ≤ length rs → Numbered t rs used t rs
  own_numbers_lem room =
      record { columns = refl; types = λ c. sym (column-stays c); room = room; bytes = λ i h. sym (byte_stays i h) }

  module _ (text p : List ℕ) (root : ℕ) where
    same-check : length text ≤ 8192 → check_answer_in (lent text) t rs p used root ≡ check_answer t rs p used root
    same-check h = check-same (lent text) t rs p used (le-leb (suc (length text)) 8193 (omega (arith, h))) free root

    pub check-as_ever : length text ≤ 8192 → check_answer_in (lent text) t rs p used root ≡ check_answer t rs p used root
    check-as_ever h = same-check h

    pub refusal_as_ever : length text ≤ 8192 → plain_refusal_with text t rs p used root ≡ plain_refusal t rs p used root
    unfolding plain_refusal_with plain_refusal
    refusal_as_ever h = ap (λ a. refusal_if a (checked_refusal t rs p used root)) (same-check h)

    -- The screen is plain and its own numbers, or it is refused.
    pub own_or_refused : (A : Type 0)
        → (0 ≡ refusal_number (plain_refusal_with text t rs p used root) → Numbered t rs used t rs → A)
        → ((k : ℕ) → k ≡ refusal_number (plain_refusal_with text t rs p used root) → (k ≡ 0 → ⊥) → A) → A
    own_or_refused A own refused = go (refusal_number (plain_refusal_with text t rs p used root)) refl
      where
        go : (k : ℕ) → k ≡ refusal_number (plain_refusal_with text t rs p used root) → A
        go zero e =
            own e (own_numbers_lem (checked-lent_in (lent text) t rs p used root
            (checked-in (lent text) t rs p used root (not-refused_with text t rs p used root (sym e)).accepted)))
        go (suc k) e = refused (suc k) e (λ z. omega (arith, z))

-- Sets of places as bits: one place more. Assumes nothing.
use mathlib.Core.Path.{◌≡◌, sym, ◌∙◌, ap}
use mathlib.Core.Bool.{◌||◌, or-false}
use mathlib.Core.List.{List}
use Prim.Native.Nat.{ℕ, ◌+◌, ◌/◌, ◌%◌, ◌^◌, ◌<◌}
use native.Mathlib.Omega.{arith}
use lib.Dec.{eqb}
use lib.Bits.{bit_or}
use lib.ListN.{length, get_or, set}
use lib.Seq.{get_or-set_same, get_or-set_other}
use borrow.Author.Tests.{eqb-true, eqb-false, eq-eqb, ne_eqb}
use Rattle.records.proofs.Laws.{by-test}
use Rattle.checking.proofs.Bits.{bit-or, bit-pow}
use Rattle.sorted.specs.BitSets.{member, Put}

same_test : (a b c d : ℕ) → (a ≡ b → c ≡ d) → (c ≡ d → a ≡ b) → eqb a b ≡ eqb c d
same_test a b c d f g =
    by-test (eqb a b) (λ t. t ∙ sym (eq-eqb c d (f (eqb-true a b t))))
    (λ t. t ∙ sym (ne_eqb c d (λ e. eqb-false a b t (g e))))

-- the word of the place with its bit
pub put_word : (l : List ℕ) (at place word : ℕ) → at + place / 64 < length l
    → word ≡ bit_or (get_or l (at + place / 64) 0) (2 ^ (place % 64)) → Put l (set l (at + place / 64) word) at place
put_word l at place word room is = record { put = put; kept = λ q h. get_or-set_other l (at + place / 64) q word 0 h }
  where
    put : (p : ℕ) → member (set l (at + place / 64) word) at p ≡ (member l at p || eqb place p)
    put p = by-test (eqb (p / 64) (place / 64))
        (λ t.
        let e : p / 64 ≡ place / 64 = eqb-true _ _ t in
        rw (
          e,
          get_or-set_same l (at + place / 64) word 0 room,
          is,
          bit-or (get_or l (at + place / 64) 0) (2 ^ (place % 64)) (p % 64),
          bit-pow (place % 64) (p % 64),
          same_test (place % 64) (p % 64) place p (λ q. omega arith) (λ q. omega arith),
        ))
        (λ t.
        let d : (p / 64 ≡ place / 64 → ⊥) = eqb-false _ _ t in
        rw (
          get_or-set_other l (at + place / 64) (at + p / 64) word 0 (λ q. d (omega arith)),
          ne_eqb place p (λ q. d (ap (λ (n : ℕ). n / 64) (sym q))),
        ) (sym (or-false (member l at p))))

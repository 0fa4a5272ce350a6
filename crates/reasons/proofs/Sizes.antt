-- How long lines are, and lines put together.
use mathlib.Core.Path.{◌≡◌, refl, sym, ◌∙◌, ap}
use mathlib.Core.List.{List, [], ◌∷◌, ◌++◌, append_assoc, append-nil}
use Prim.Native.Nat.{ℕ, suc, ◌+◌, ◌*◌, ◌-◌, ◌<◌, ◌≤◌}
use native.Mathlib.Omega.{arith}
use lib.Dec.{ltb}
use lib.IntN.{ℤ, pos, negsuc}
use lib.ListN.{length, length-append}
use mir.Syntax.{w64}
use mir.Val.{to_z}
use borrow.Author.Tests.{ltb-true, ltb-false}
use Rattle.records.proofs.Laws.{by-test}
use Rattle.truth.specs.Comparison.{Comparison, Eq, NotEq, Lt, LtEq, Gt, GtEq}
use Rattle.merge.specs.Write.{splice}
use Rattle.merge.proofs.Splices.{splice-then}
use Rattle.merge.specs.Reasons.{ReasonValue, Whole, Bytes, Reason}
use Rattle.decimals.specs.Decimal.{decimal, signed}
use Rattle.symbol_text.specs.Hex.{symbol_text}
use Rattle.symbol_text.proofs.Hex.{hex_length}
use Rattle.reasons.specs.Text.{operator_name, value_text, reason_text, reasons_text}
use Rattle.reasons.specs.Sizes.{In64, ValueFits, IsWhole, OfScreen, WholeOnly, AtMost34, AtMost47}
use Rattle.decimals.proofs.Decimals.{length-below, length-63}
use Rattle.reasons.proofs.Writing.{line-length}

operator-at_most : (k : Comparison) → length (operator_name k) ≤ 5
unfolding operator_name
operator-at_most Eq = omega arith
operator-at_most NotEq = omega arith
operator-at_most Lt = omega arith
operator-at_most LtEq = omega arith
operator-at_most Gt = omega arith
operator-at_most GtEq = omega arith

signed_at_most : (v : ℤ) → In64 v → length (signed v) ≤ 20
unfolding signed
signed_at_most (pos n) h = omega (arith, length-63 n (omega arith))
signed_at_most (negsuc n) h = omega (arith, length-63 (suc n) (omega arith))

whole-at_most : (v : ReasonValue) → ValueFits v → IsWhole v → length (value_text v) ≤ 20
unfolding value_text
whole-at_most (Whole z) h w = signed_at_most z h
whole-at_most (Bytes l) h w = absurd w

value-at_most : (v : ReasonValue) → ValueFits v → length (value_text v) ≤ 33
unfolding value_text symbol_text
value-at_most (Whole z) h = omega (arith, signed_at_most z h)
value-at_most (Bytes l) h = omega (arith, hex_length l, h)

line-at_most : (r : Reason) (size : ℕ) → r.column < 64 → length (value_text r.value) ≤ size → r.line < 128
    → length (reason_text r) ≤ 14 + size
line-at_most r size h v l =
    omega (
      arith,
      line-length r,
      length-below 1 r.column (omega arith),
      operator-at_most r.operator,
      v,
      length-below 2 r.line (omega arith),
    )

pub at-most-34 : AtMost34
unfolding reasons_text
at-most-34 [] h w = omega arith
at-most-34 (r ∷ l) h w =
    omega (
      arith,
      length-append (reason_text r) (reasons_text l),
      line-at_most r 20 h.0 (whole-at_most r.value h.1 w.0) h.2,
      at-most-34 l h.3 w.1,
    )

pub at-most-47 : AtMost47
unfolding reasons_text
at-most-47 [] h = omega arith
at-most-47 (r ∷ l) h =
    omega (
      arith,
      length-append (reason_text r) (reasons_text l),
      line-at_most r 33 h.0 (value-at_most r.value h.1) h.2,
      at-most-47 l h.3,
    )

-- the bits of a value are such a number
pub bits-in-64 : (n : ℕ) → n < 18446744073709551616 → In64 (to_z w64 n)
bits-in-64 n h =
    by-test (ltb n 9223372036854775808) (λ t. rw t (ltb-true n 9223372036854775808 t))
    (λ t. let g = ltb-false n 9223372036854775808 t in rw t (omega arith))

-- ---- one line more

pub text-more : (l : List Reason) (r : Reason) → reasons_text (l ++ (r ∷ [])) ≡ reasons_text l ++ reason_text r
unfolding reasons_text
text-more [] r = append-nil (reason_text r)
text-more (q ∷ l) r = rw (text-more l r, append_assoc)

pub line-more : (s : List ℕ) {s1 s2 : List ℕ} (at next : ℕ) (l : List Reason) (r : Reason)
    → s1 ≡ splice s at (reasons_text l) → s2 ≡ splice s1 next (reason_text r) → at + length (reasons_text l) ≡ next
    → next + length (reason_text r) ≤ length s → s2 ≡ splice s at (reasons_text (l ++ (r ∷ [])))
line-more s at next l r p q e h = rw (text-more l r) (splice-then s at next (reasons_text l) (reason_text r) p q e h)

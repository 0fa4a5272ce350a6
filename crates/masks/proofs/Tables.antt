-- Logic on masks is the logic of truths, row by row.
-- Assumes nothing.
use mathlib.Core.Path.{◌≡◌, refl, ◌∙◌, ap}
use mathlib.Core.Bool.{not, ◌&&◌, ◌||◌}
use Prim.Native.Nat.{ℕ}
use lib.Bits.{bit_and, bit_or, bit_xor}
use Rattle.checking.specs.Columns.{bit}
use Rattle.checking.proofs.Bits.{bit-or}
use Rattle.three_valued.specs.declared.logic.Truth.{Truth}
use Rattle.three_valued.specs.declared.logic.Truth.TheVariants.{False, Unknown, True}
use Rattle.three_valued.specs.Logic.{and3, or3, xor3, not3, is_true}
use Rattle.truth.specs.Comparison.{Lt}
use Rattle.truth.specs.Evaluate.{of_truth, comparing}
use Rattle.masks.specs.declared.Masks.{Masks}
use Rattle.masks.specs.Masks.{is_unknown, inverse, Tells}
use Rattle.masks.proofs.Bits.{bit-and, bit-xor, bit-inverse, either}

-- ---- the formulas, at one row
and_true : (a b : Truth) → (is_true a && is_true b) ≡ is_true (and3 a b)
and_true True True = refl
and_true True Unknown = refl
and_true True False = refl
and_true Unknown True = refl
and_true Unknown Unknown = refl
and_true Unknown False = refl
and_true False True = refl
and_true False Unknown = refl
and_true False False = refl

and_unknown : (a b : Truth)
    → (((is_true a || is_unknown a) && (is_true b || is_unknown b)) && not (is_true a && is_true b)) ≡ is_unknown (and3 a b)
and_unknown True True = refl
and_unknown True Unknown = refl
and_unknown True False = refl
and_unknown Unknown True = refl
and_unknown Unknown Unknown = refl
and_unknown Unknown False = refl
and_unknown False True = refl
and_unknown False Unknown = refl
and_unknown False False = refl

or_true : (a b : Truth) → (is_true a || is_true b) ≡ is_true (or3 a b)
or_true True True = refl
or_true True Unknown = refl
or_true True False = refl
or_true Unknown True = refl
or_true Unknown Unknown = refl
or_true Unknown False = refl
or_true False True = refl
or_true False Unknown = refl
or_true False False = refl

or_unknown : (a b : Truth)
    → ((is_unknown a || is_unknown b) && not (is_true a || is_true b)) ≡ is_unknown (or3 a b)
or_unknown True True = refl
or_unknown True Unknown = refl
or_unknown True False = refl
or_unknown Unknown True = refl
or_unknown Unknown Unknown = refl
or_unknown Unknown False = refl
or_unknown False True = refl
or_unknown False Unknown = refl
or_unknown False False = refl

xor_true : (a b : Truth)
    → (either (is_true a) (is_true b) && not (is_unknown a || is_unknown b)) ≡ is_true (xor3 a b)
xor_true True True = refl
xor_true True Unknown = refl
xor_true True False = refl
xor_true Unknown True = refl
xor_true Unknown Unknown = refl
xor_true Unknown False = refl
xor_true False True = refl
xor_true False Unknown = refl
xor_true False False = refl

xor_unknown : (a b : Truth) → (is_unknown a || is_unknown b) ≡ is_unknown (xor3 a b)
xor_unknown True True = refl
xor_unknown True Unknown = refl
xor_unknown True False = refl
xor_unknown Unknown True = refl
xor_unknown Unknown Unknown = refl
xor_unknown Unknown False = refl
xor_unknown False True = refl
xor_unknown False Unknown = refl
xor_unknown False False = refl

less-true : (a b : Truth)
    → ((not (is_true a) && is_true b) && not (is_unknown a || is_unknown b)) ≡ is_true (comparing Lt (of_truth a) (of_truth b))
less-true True True = refl
less-true True Unknown = refl
less-true True False = refl
less-true Unknown True = refl
less-true Unknown Unknown = refl
less-true Unknown False = refl
less-true False True = refl
less-true False Unknown = refl
less-true False False = refl

less-unknown : (a b : Truth) → (is_unknown a || is_unknown b) ≡ is_unknown (comparing Lt (of_truth a) (of_truth b))
less-unknown True True = refl
less-unknown True Unknown = refl
less-unknown True False = refl
less-unknown Unknown True = refl
less-unknown Unknown Unknown = refl
less-unknown Unknown False = refl
less-unknown False True = refl
less-unknown False Unknown = refl
less-unknown False False = refl

not-true : (a : Truth) → not (is_true a || is_unknown a) ≡ is_true (not3 a)
not-true True = refl
not-true Unknown = refl
not-true False = refl

not-unknown : (a : Truth) → is_unknown a ≡ is_unknown (not3 a)
not-unknown True = refl
not-unknown Unknown = refl
not-unknown False = refl

-- ---- the words
module _ (rows : ℕ) (x y : Masks) (f g : ℕ → Truth) (hx : Tells rows x f) (hy : Tells rows y g) where
  pub and_tells : (r : Masks) (inv : ℕ) → inv ≡ inverse (bit_and x.truths y.truths)
      → r.truths ≡ bit_and x.truths y.truths
      → r.unknowns ≡ bit_and (bit_and (bit_or x.truths x.unknowns) (bit_or y.truths y.unknowns)) inv
      → Tells rows r (λ i. and3 (f i) (g i))
  unfolding Tells
  and_tells r inv ei et eu i h k =
      let a = hx i h k in
      let b = hy i h k in
      let t : bit (bit_and x.truths y.truths) i ≡ (is_true (f i) && is_true (g i)) =
      bit-and x.truths y.truths i ∙ rw (a.0, b.0) in (
        ap (λ w. bit w i) et ∙ t ∙ and_true (f i) (g i),
        ap (λ w. bit w i) eu
            ∙ bit-and (bit_and (bit_or x.truths x.unknowns) (bit_or y.truths y.unknowns)) inv i
            ∙ rw (
              bit-and (bit_or x.truths x.unknowns) (bit_or y.truths y.unknowns) i,
              bit-or x.truths x.unknowns i,
              bit-or y.truths y.unknowns i,
              ei,
              bit-inverse (bit_and x.truths y.truths) i h,
              t,
              a.0,
              a.1,
              b.0,
              b.1,
            ) (and_unknown (f i) (g i)),
      )

  pub or_tells : (r : Masks) (inv : ℕ) → inv ≡ inverse (bit_or x.truths y.truths)
      → r.truths ≡ bit_or x.truths y.truths
      → r.unknowns ≡ bit_and (bit_or x.unknowns y.unknowns) inv
      → Tells rows r (λ i. or3 (f i) (g i))
  unfolding Tells
  or_tells r inv ei et eu i h k =
      let a = hx i h k in
      let b = hy i h k in
      let t : bit (bit_or x.truths y.truths) i ≡ (is_true (f i) || is_true (g i)) =
      bit-or x.truths y.truths i ∙ rw (a.0, b.0) in (
        ap (λ w. bit w i) et ∙ t ∙ or_true (f i) (g i),
        ap (λ w. bit w i) eu
            ∙ bit-and (bit_or x.unknowns y.unknowns) inv i
            ∙ rw (bit-or x.unknowns y.unknowns i, ei, bit-inverse (bit_or x.truths y.truths) i h, t, a.1, b.1)
            (or_unknown (f i) (g i)),
      )

  pub xor_tells : (r : Masks) (inv : ℕ) → inv ≡ inverse (bit_or x.unknowns y.unknowns)
      → r.truths ≡ bit_and (bit_xor x.truths y.truths) inv
      → r.unknowns ≡ bit_or x.unknowns y.unknowns
      → Tells rows r (λ i. xor3 (f i) (g i))
  unfolding Tells
  xor_tells r inv ei et eu i h k =
      let a = hx i h k in
      let b = hy i h k in
      let u : bit (bit_or x.unknowns y.unknowns) i ≡ (is_unknown (f i) || is_unknown (g i)) =
      bit-or x.unknowns y.unknowns i ∙ rw (a.1, b.1) in (
        ap (λ w. bit w i) et
            ∙ bit-and (bit_xor x.truths y.truths) inv i
            ∙ rw (bit-xor x.truths y.truths i, ei, bit-inverse (bit_or x.unknowns y.unknowns) i h, u, a.0, b.0)
            (xor_true (f i) (g i)),
        ap (λ w. bit w i) eu ∙ u ∙ xor_unknown (f i) (g i),
      )

  pub less-tells : (r : Masks) (turned inv : ℕ) → turned ≡ inverse x.truths → inv ≡ inverse (bit_or x.unknowns y.unknowns)
      → r.truths ≡ bit_and (bit_and turned y.truths) inv
      → r.unknowns ≡ bit_or x.unknowns y.unknowns
      → Tells rows r (λ i. comparing Lt (of_truth (f i)) (of_truth (g i)))
  unfolding Tells
  less-tells r turned inv en ei et eu i h k =
      let a = hx i h k in
      let b = hy i h k in
      let u : bit (bit_or x.unknowns y.unknowns) i ≡ (is_unknown (f i) || is_unknown (g i)) =
      bit-or x.unknowns y.unknowns i ∙ rw (a.1, b.1) in (
        ap (λ w. bit w i) et
            ∙ bit-and (bit_and turned y.truths) inv i
            ∙ rw (
              bit-and turned y.truths i,
              en,
              bit-inverse x.truths i h,
              ei,
              bit-inverse (bit_or x.unknowns y.unknowns) i h,
              u,
              a.0,
              b.0,
            )
            (less-true (f i) (g i)),
        ap (λ w. bit w i) eu ∙ u ∙ less-unknown (f i) (g i),
      )

pub not-tells : (rows : ℕ) (x : Masks) (f : ℕ → Truth) → Tells rows x f → (r : Masks) → r.truths ≡ inverse (bit_or x.truths
    x.unknowns)
    → r.unknowns ≡ x.unknowns → Tells rows r (λ i. not3 (f i))
unfolding Tells
not-tells rows x f hx r et eu i h k =
    let a = hx i h k in (
      ap (λ w. bit w i) et
          ∙ bit-inverse (bit_or x.truths x.unknowns) i h ∙ rw (bit-or x.truths x.unknowns i, a.0, a.1) (not-true (f i)),
      ap (λ w. bit w i) eu ∙ a.1 ∙ not-unknown (f i),
    )

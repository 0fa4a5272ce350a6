-- Lists of a part of the pool are lists of the pool. Assumes nothing.
use mathlib.Core.Path.{◌≡◌, refl, sym, ◌∙◌, ap, subst}
use mathlib.Core.List.{List, ◌∷◌}
use Prim.Native.Nat.{ℕ, zero, suc, ◌+◌, ◌-◌, ◌*◌, ◌/◌, ◌≤◌, ◌<◌}
use native.Mathlib.Omega.{arith}
use lib.ListN.{length, get_or, take, drop, length-drop}
use lib.Seq.{length-take-le, get_or-take, get_or-drop}
use Rattle.records.specs.Bytes.{word, value_at}
use Rattle.truth.specs.FromBytes.{values_from}
use Rattle.masks.specs.Block.{Finds}
use Rattle.pool_order.specs.Order.{Full, OrderedPart, Ordered, part_end}
use Rattle.pool_order.proofs.Parts.{two_parts, rest-is}

-- ---- What is read of the first part.
word-front : (pool : List ℕ) (end at : ℕ) → at + 4 ≤ end → word (take end pool) at ≡ word pool at
unfolding word
word-front pool end at h =
    rw (
      get_or-take end pool at 0 (omega (arith, h)),
      get_or-take end pool (at + 1) 0 (omega (arith, h)),
      get_or-take end pool (at + 2) 0 (omega (arith, h)),
      get_or-take end pool (at + 3) 0 (omega (arith, h)),
    )

value-front : (pool : List ℕ) (end k : ℕ) → 8 * k + 8 ≤ end → value_at (take end pool) k ≡ value_at pool k
unfolding value_at
value-front pool end k h =
    rw (word-front pool end (8 * k) (omega (arith, h)), word-front pool end (8 * k + 4) (omega (arith, h)))

pub values-front : (pool : List ℕ) (end start count : ℕ) → 8 * (start + count) ≤ end
    → values_from (take end pool) start count ≡ values_from pool start count
unfolding values_from
values-front pool end start zero h = refl
values-front pool end start (suc count) h =
    λ i. value-front pool end start (omega (arith, h)) i ∷ values-front pool end (suc start) count (omega (arith, h)) i

-- ---- Of the second.
word_back : (pool : List ℕ) (f at : ℕ) → word (drop f pool) at ≡ word pool (f + at)
unfolding word
word_back pool f at =
    let a : f + (at + 1) ≡ f + at + 1 = omega arith in
    let b : f + (at + 2) ≡ f + at + 2 = omega arith in
    let c : f + (at + 3) ≡ f + at + 3 = omega arith in
    rw (
      get_or-drop f pool at 0,
      get_or-drop f pool (at + 1) 0,
      get_or-drop f pool (at + 2) 0,
      get_or-drop f pool (at + 3) 0,
      a,
      b,
      c,
    )

value-back : (pool : List ℕ) (first k : ℕ) → value_at (drop (8 * first) pool) k ≡ value_at pool (first + k)
unfolding value_at
value-back pool first k =
    let a : 8 * first + 8 * k ≡ 8 * (first + k) = omega arith in
    let b : 8 * first + (8 * k + 4) ≡ 8 * (first + k) + 4 = omega arith in
    rw (word_back pool (8 * first) (8 * k), word_back pool (8 * first) (8 * k + 4), a, b)

values-back : (pool : List ℕ) (first start count : ℕ)
    → values_from (drop (8 * first) pool) start count ≡ values_from pool (first + start) count
unfolding values_from
values-back pool first start zero = refl
values-back pool first start (suc count) =
    let e : first + suc start ≡ suc (first + start) = omega arith in
    λ i. value-back pool first start i ∷ (values-back pool first (suc start) count ∙ ap (λ n. values_from pool n count) e) i

-- ---- The parts of a pool of two.
module _ (pool : List ℕ) (end : ℕ) (ee : end ≡ part_end (length pool)) (long : 65536 < length pool) where
  half : end ≡ 8 * (length pool / 16)
  half = ee ∙ two_parts (length pool) long

  pub found_front : (keys : List ℕ) (start count r : ℕ) → start + count ≤ end / 8
      → Finds keys 0 (values_from (take end pool) start count) r → Finds keys 0 (values_from pool start count) r
  found_front keys start count r h f =
      subst (λ l. Finds keys 0 l r) (values-front pool end start count (let e = half in omega (arith, e, h))) f

  pub found_back : (keys : List ℕ) (start at count r : ℕ) → end / 8 ≤ start → at ≡ start - end / 8
      → Finds keys 0 (values_from (take (length pool - end) (drop end pool)) at count) r
      → Finds keys 0 (values_from pool start count) r
  found_back keys start at count r h ea f =
      let e : end ≡ 8 * (end / 8) = (let k = half in omega (arith, k)) in
      let s : end / 8 + at ≡ start = omega (arith, h, ea) in
      subst (λ l. Finds keys 0 l r)
      (ap (λ l. values_from l at count) (rest-is pool end) ∙ ap (λ n. values_from (drop n pool) at count) e
      ∙ values-back pool (end / 8) at count ∙ ap (λ n. values_from pool n count) s) f

  pub inside_back : (start at count : ℕ) → end / 8 ≤ start → at ≡ start - end / 8 → 8 * (start + count) ≤ length pool
      → 8 * (at + count) ≤ length (take (length pool - end) (drop end pool))
  inside_back start at count h ea l =
      let e = half in
      let r = ap length (rest-is pool end) in
      let d = length-drop end pool in omega (arith, e, r, d, h, ea, l)

  module _ (order : List ℕ) (ordered : Ordered pool order) where
    pub part_front : (till : ℕ) → till ≤ length order → (0 < till → till ≡ 21512) → OrderedPart (take end pool) (take till order)
    unfolding OrderedPart
    part_front till h k g =
        let l = length-take-le till order h in
        let e : till ≡ 21512 = k (omega (arith, l, g)) in
        subst (λ n. Full (take n pool) (take till order)) (sym ee)
        (subst (λ n. Full (take (part_end (length pool)) pool) (take n order)) (sym e) (ordered.front long (omega (arith, h, e))))

    pub part_back : (from : ℕ) → (from < length order → (43024 ≤ length order) × (from ≡ 21512))
        → OrderedPart (take (length pool - end) (drop end pool)) (take (length order - from) (drop from order))
    unfolding OrderedPart
    part_back from k g =
        let r = ap length (rest-is order from) in
        let d = length-drop from order in
        let b = k (omega (arith, r, d, g)) in
        subst (λ l. Full l (take (length order - from) (drop from order)))
        (sym (rest-is pool end ∙ ap (λ n. drop n pool) ee))
        (subst (Full (drop (part_end (length pool)) pool)) (sym (rest-is order from ∙ ap (λ n. drop n order) b.1))
        (ordered.back long b.0))

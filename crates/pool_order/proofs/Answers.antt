-- Asking the order of the pool. Assumes nothing.
use mathlib.Core.Path.{◌≡◌, refl, sym, ◌∙◌}
use mathlib.Core.Logic.{⊎_elim}
use mathlib.Core.Bool.{Bool, true, false, cond, ◌&&◌, ◌||◌, not, or-true, true≢false}
use mathlib.Core.List.{List}
use Prim.Native.Nat.{ℕ, zero, suc, ◌+◌, ◌-◌, ◌*◌, ◌/◌, ◌^◌, ◌≤◌, ◌<◌}
use native.Mathlib.Omega.{arith}
use lib.Dec.{leb, ltb, eqb}
use lib.ListN.{length, get_or}
use borrow.Author.Tests.{leb-true, leb-false, ltb-true, ltb-false, eq-eqb, ne_eqb}
use Rattle.records.proofs.Laws.{by-test}
use Rattle.records.specs.Bytes.{value_at}
use Rattle.checking.proofs.Bits.{lt-or_le}
use Rattle.truth.specs.Order.{is_equal}
use Rattle.truth.specs.Halves.{ord_z, key, bias_of}
use Rattle.truth.specs.FromBytes.{values_from}
use Rattle.truth.specs.Evaluate.{holds_key}
use Rattle.masks.proofs.Columns.{order-tests}
use Rattle.sorted.specs.Rising.{In, Rising, Found}
use Rattle.pool_order.specs.Order.{key_at, key_count, seat_count, Full, Has, Between, Below}

-- ---- the halving
pub below_all : (l : List ℕ) (count z : ℕ) → 0 < count → Below l (8192 + count) z 8192 count
below_all l count z h = record {
  from = omega arith;
  inside = omega arith;
  some = h;
  low = λ g. absurd (omega arith);
  upper = λ p g g'. absurd (omega arith);
}

at-most : {l : List ℕ} {e : ℕ} → Rising l 8192 e → (p q : ℕ) → 8192 ≤ p → p ≤ q → q < e → get_or l p 0 ≤ get_or l q 0
at-most {l} r p q f h h' =
    ⊎_elim (λ (g : p < q). let w = r.rises p q f g h' in omega arith)
    (λ (g : q ≤ p). let w : p ≡ q = omega arith in rw w (omega arith))
    (lt-or_le p q)

pub below_half : {l : List ℕ} {e z lo len : ℕ} → Rising l 8192 e → Below l e z lo len → 1 < len → (lo' : ℕ)
    → lo' ≡ cond (ltb (get_or l (lo + len / 2) 0) z) (lo + len / 2) lo → Below l e z lo' (len - len / 2)
below_half {l} {e} {z} {lo} {len} r s h lo' q =
    by-test (ltb (get_or l (lo + len / 2) 0) z)
    (λ t.
    let g : get_or l (lo + len / 2) 0 < z = ltb-true _ _ t in
    let w : lo' ≡ lo + len / 2 = rw t at q in
    let f = s.from in
    let i = s.inside in
    record {
      from = omega arith;
      inside = omega arith;
      some = omega arith;
      low = λ u. rw w g;
      upper = λ p u u'. s.upper p (omega arith) u';
    })
    (λ t.
    let g : z ≤ get_or l (lo + len / 2) 0 = ltb-false _ _ t in
    let w : lo' ≡ lo = rw t at q in
    let f = s.from in
    let i = s.inside in
    record {
      from = omega arith;
      inside = omega arith;
      some = omega arith;
      low = λ u. rw w (s.low (omega arith));
      upper = λ p u u'. let v = at-most r (lo + len / 2) p (omega arith) (omega arith) u' in omega arith;
    })

-- ---- a guess that is right
leads : {l : List ℕ} {e : ℕ} → Rising l 0 e → (p q : ℕ) → p ≤ q → q < e → get_or l p 0 ≤ get_or l q 0
leads {l} r p q h h' =
    ⊎_elim (λ (g : p < q). let w = r.rises p q (omega arith) g h' in omega arith)
    (λ (g : q ≤ p). let w : p ≡ q = omega arith in rw w (omega arith))
    (lt-or_le p q)

pub gap-first : {l : List ℕ} {k w g : ℕ} → Rising l 0 k → w < get_or l g 0 → g ≡ 0 → In l 0 k w → ⊥
gap-first {l} {k} {w} {g} r h e i =
    let b = i.below in
    let s = i.holds in
    let a = leads r 0 i.place (omega arith) b in
    let h' : w < get_or l 0 0 = rw e at h in
    omega (arith, a, s, h')

pub gap-last : {l : List ℕ} {k w : ℕ} (g : ℕ) → Rising l 0 k → get_or l g 0 ≤ w → (get_or l g 0 ≡ w → ⊥) → g + 1 ≡ k
    → In l 0 k w → ⊥
gap-last {l} {k} {w} g r h d e i =
    let b = i.below in
    let s = i.holds in
    let a = leads r i.place g (omega (arith, b, e)) (omega (arith, e)) in
    let q : get_or l g 0 ≡ w = omega (arith, a, s, h) in
    d q

pub gap-inside : {l : List ℕ} {k w : ℕ} (g : ℕ) → Rising l 0 k → get_or l g 0 ≤ w → (get_or l g 0 ≡ w → ⊥) → g + 1 < k
    → w < get_or l (g + 1) 0 → In l 0 k w → ⊥
gap-inside {l} {k} {w} g r h d e u i =
    let b = i.below in
    let s = i.holds in
    ⊎_elim (λ (y : g < i.place). let a = leads r (g + 1) i.place (omega (arith, y)) b in omega (arith, a, s, u))
    (λ (y : i.place ≤ g).
    let a = leads r i.place g y (omega (arith, e)) in
    let q : get_or l g 0 ≡ w = omega (arith, a, s, h) in
    d q)
    (lt-or_le g i.place)

pub found_here : {l : List ℕ} {k w g : ℕ} → g < k → get_or l g 0 ≡ w → Found l k w g
found_here h e = record {
  within = omega arith;
  there = λ _. e;
  absent = λ q _. omega (arith, h, q);
}

pub found_nowhere : {l : List ℕ} {k w : ℕ} → (In l 0 k w → ⊥) → Found l k w k
found_nowhere n = record {
  within = omega arith;
  there = λ h. absurd (omega arith);
  absent = λ _ i. n i;
}

module _ {l : List ℕ} {count z q : ℕ} (r : Rising l 8192 (8192 + count)) (h : q < count)
    (low : (leb z (get_or l (8192 + q) 0) && not (eqb q 0)) ≡ false) where
  under : 8192 < 8192 + q → get_or l (8192 + q) 0 < z
  under g =
      by-test (leb z (get_or l (8192 + q) 0))
      (λ t. let d : eqb q 0 ≡ false = ne_eqb q 0 (λ e. omega (arith, e, g)) in absurd (true≢false (rw (t, d) at low)))
      (λ t. leb-false _ _ t)

  pub last-of-all : q + 1 ≡ count → Below l (8192 + count) z (8192 + q) 1
  last-of-all e = record {
    from = omega arith;
    inside = omega arith;
    some = omega arith;
    low = under;
    upper = λ p g g'. absurd (omega (arith, g, g', e));
  }

  pub last-before : (q + 1 ≡ count → ⊥) → leb z (get_or l (8193 + q) 0) ≡ true → Below l (8192 + count) z (8192 + q) 1
  last-before d t =
      let u : z ≤ get_or l (8193 + q) 0 = leb-true _ _ t in
      record {
        from = omega arith;
        inside = omega arith;
        some = omega arith;
        low = under;
        upper = λ p g g'. let v = at-most r (8193 + q) p (omega arith) (omega (arith, g)) g' in omega (arith, u, v);
      }

-- one place is left: its number is one that is looked for, or there is none
module _ {l : List ℕ} {e x z lo len : ℕ} (r : Rising l 8192 e) (s : Below l e z lo len) (h : len ≤ 1) where
  there : Has l 8192 e x z → (x ≤ get_or l lo 0) × (get_or l lo 0 < z)
  there i =
      let f = s.from in
      let b = i.below in
      let g = i.from in
      let u = i.least in
      let v = i.most in
      ⊎_elim (λ (d : lo < i.place). let w = s.upper i.place (omega arith) b in absurd (omega arith))
      (λ (d : i.place ≤ lo).
      let c = s.inside in
      let o = s.some in
      let m = at-most r i.place lo g d (omega arith) in
      ⊎_elim (λ (y : 8192 < lo). let n = s.low y in (omega arith, n))
      (λ (y : lo ≤ 8192).
      let q : i.place ≡ lo = omega arith in
      let n : get_or l lo 0 < z = rw q at v in
      (omega arith, n))
      (lt-or_le 8192 lo))
      (lt-or_le lo i.place)

  pub between-told : Between l 8192 e x z (leb x (get_or l lo 0) && ltb (get_or l lo 0) z)
  between-told = by-test (leb x (get_or l lo 0)) below above
    where
      below : leb x (get_or l lo 0) ≡ true → Between l 8192 e x z (leb x (get_or l lo 0) && ltb (get_or l lo 0) z)
      below t = rw t (record {
        some = λ u.
            let f = s.from in
            let c = s.inside in
            let o = s.some in
            record {
              place = lo;
              from = f;
              below = omega arith;
              least = leb-true _ _ t;
              most = ltb-true _ _ u;
            };
        none = λ u i.
            let g : z ≤ get_or l lo 0 = ltb-false _ _ u in
            let n = (there i).1 in
            omega (arith, g, n);
      })

      above : leb x (get_or l lo 0) ≡ false → Between l 8192 e x z (leb x (get_or l lo 0) && ltb (get_or l lo 0) z)
      above t = rw t (record {
        some = λ u. absurd (true≢false (sym u));
        none = λ u i. let g : get_or l lo 0 < x = leb-false _ _ t in let n = (there i).0 in omega (arith, g, n);
      })

-- ---- a list of the pool has a key exactly if one of its places has
same_key : (bits v : ℕ) → bits < 2 ^ 64 → v < 2 ^ 64 → is_equal (ord_z.cmp (key bits) (key v)) ≡ eqb (bias_of bits) (bias_of v)
same_key bits v h g = sym (order-tests bits v h g).1

next : (p : List ℕ) (k : ℕ) (start count : ℕ) → holds_key (key k) (values_from p start (suc count))
    ≡ (is_equal (ord_z.cmp (key k) (key (value_at p start))) || holds_key (key k) (values_from p (suc start) count))
unfolding values_from
next p k start count = refl

pub holds_at : (p : List ℕ) (bits start count place : ℕ) → bits < 2 ^ 64 → value_at p place < 2 ^ 64 → start ≤ place
    → place < start + count → bias_of bits ≡ key_at p place → holds_key (key bits) (values_from p start count) ≡ true
holds_at p bits start zero place h g f b e = absurd (omega arith)
holds_at p bits start (suc count) place h g f b e =
    ⊎_elim
    (λ (d : start < place).
    next p bits start count
    ∙ rw (holds_at p bits (suc start) count place h g (omega arith) (omega arith) e)
    (or-true (is_equal (ord_z.cmp (key bits) (key (value_at p start))))))
    (λ (d : place ≤ start).
    let q : start ≡ place = omega arith in
    next p bits start count ∙ rw (q, same_key bits (value_at p place) h g, eq-eqb _ _ e))
    (lt-or_le start place)

pub holds-nowhere : (p : List ℕ) (bits start count : ℕ) → bits < 2 ^ 64
    → ((place : ℕ) → start ≤ place → place < start + count → value_at p place < 2 ^ 64)
    → ((place : ℕ) → start ≤ place → place < start + count → bias_of bits ≡ key_at p place → ⊥)
    → holds_key (key bits) (values_from p start count) ≡ false
unfolding values_from
holds-nowhere p bits start zero h fits n = refl
holds-nowhere p bits start (suc count) h fits n =
    next p bits start count
    ∙ rw (
      same_key bits (value_at p start) h (fits start (omega arith) (omega arith)),
      ne_eqb _ _ (n start (omega arith) (omega arith)),
    )
    (holds-nowhere p bits (suc start) count h (λ q f b. fits q (omega arith) (omega arith))
    (λ q f b e. n q (omega arith) (omega arith) e))

-- ---- the order of the pool answers
module _ {pool order : List ℕ} (full : Full pool order) where
  pub some-seat : 0 < seat_count order
  some-seat =
      let i = full.known 0 (omega arith) in
      let j = full.every 0 (omega arith) i.place i.below i.holds in
      let f = j.from in
      let b = j.below in
      omega arith

  module _ (start count w : ℕ) (room : 8 * (start + count) ≤ length pool) where
    within : (place : ℕ) → place < start + count → place < 8192
    within place b = let s = full.short in omega arith

    pub asked-absent : (r : ℕ) → r ≡ key_count order → Found order (key_count order) w r → (bits : ℕ) → bits < 2 ^ 64
        → w ≡ bias_of bits → false ≡ holds_key (key bits) (values_from pool start count)
    asked-absent r e f bits h q =
        sym
        (holds-nowhere pool bits start count h (λ place g b. full.fits place (within place b))
        (λ place g b m. f.absent e (rw (q, m) (full.known place (within place b)))))

    pub asked-there : (r : ℕ) → (r ≡ key_count order → ⊥) → Found order (key_count order) w r → (b : Bool)
        → Between order 8192 (8192 + seat_count order) (8192 * r + start) (8192 * r + start + count) b → (bits : ℕ)
        → bits < 2 ^ 64 → w ≡ bias_of bits → b ≡ holds_key (key bits) (values_from pool start count)
    asked-there r d f b between bits h q = by-test b yes-there not_there
      where
        below : r < key_count order
        below = let u = f.within in omega (arith, u, d)

        stands : get_or order r 0 ≡ w
        stands = f.there below

        yes-there : b ≡ true → b ≡ holds_key (key bits) (values_from pool start count)
        yes-there e =
            let i = between.some e in
            let s = full.only _ (record { place = i.place; from = i.from; below = i.below; holds = refl }) in
            let n = s.numbered in
            let is = n.is in
            let low = s.low in
            let least = i.least in
            let most = i.most in
            let size = full.short in
            let same : n.number ≡ r = omega arith in
            let eq : key_at pool s.place ≡ w = sym n.stands ∙ rw same stands in
            e ∙ sym (holds_at pool bits start count s.place h (full.fits s.place low) (omega arith) (omega arith)
            (sym (eq ∙ q)))

        not_there : b ≡ false → b ≡ holds_key (key bits) (values_from pool start count)
        not_there e =
            e ∙ sym (holds-nowhere pool bits start count h (λ place g l. full.fits place (within place l))
            (λ place g l m.
            let i = full.every place (within place l) r below (stands ∙ q ∙ m) in
            let s = i.holds in
            between.none e (record {
              place = i.place;
              from = i.from;
              below = i.below;
              least = omega arith;
              most = omega arith;
            })))

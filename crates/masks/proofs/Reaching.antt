-- Marks of the records that the root reaches: from the root down, each marked record marks what it may name below it.
-- Assumes nothing.
use mathlib.Core.Path.{◌≡◌, refl, sym, ◌∙◌, ap, subst}
use mathlib.Core.Bool.{Bool, true, false, cond, ◌&&◌, true≢false}
use mathlib.Core.List.{List}
use Prim.Native.Nat.{ℕ, suc, ◌+◌, ◌≤◌, ◌<◌}
use native.Mathlib.Omega.{arith}
use lib.Dec.{ltb, eqb}
use lib.ListN.{length, get_or, set, length-set}
use lib.Seq.{get_or-set_same, get_or-set_other}
use borrow.Author.Tests.{eqb-true, eqb-false, lt-ltb, ltb-true}
use Rattle.records.specs.Record.{fields_at, node}
use Rattle.records.specs.declared.record.Fields.{Fields}
use Rattle.records.proofs.Laws.{by-test}
use Rattle.masks.specs.Block.{is_kept, is_input, Closed}

-- what `mark` leaves
abbrev pub marked : List ℕ → ℕ → ℕ → List ℕ
marked l m n = cond (ltb m n) (set l m 1) l

pub mark_length : (l : List ℕ) (m n : ℕ) → length (marked l m n) ≡ length l
mark_length l m n = go (ltb m n)
  where
    go : (b : Bool) → length (cond b (set l m 1) l) ≡ length l
    go true = length-set l m 1
    go false = refl

-- a mark stays, none is added from n on, and what is below n has its mark
mark_stays : (l : List ℕ) (m n j : ℕ) → n ≤ length l → get_or l j 0 ≡ 1 → get_or (marked l m n) j 0 ≡ 1
mark_stays l m n j room e = by-test (ltb m n) set_there (λ q. rw q e)
  where
    set_there : ltb m n ≡ true → get_or (marked l m n) j 0 ≡ 1
    set_there q =
        let h : m < n = ltb-true m n q in
        rw q (by-test (eqb j m)
        (λ z. subst (λ k. get_or (set l m 1) k 0 ≡ 1) (sym (eqb-true j m z)) (get_or-set_same l m 1 0 (omega (arith, h, room))))
        (λ z. get_or-set_other l m j 1 0 (eqb-false j m z) ∙ e))

mark_above : (l : List ℕ) (m n j : ℕ) → n ≤ j → get_or (marked l m n) j 0 ≡ get_or l j 0
mark_above l m n j h = by-test (ltb m n) set_there (λ q. rw q)
  where
    set_there : ltb m n ≡ true → get_or (marked l m n) j 0 ≡ get_or l j 0
    set_there q = let k : m < n = ltb-true m n q in rw q (get_or-set_other l m j 1 0 (λ z. omega (arith, h, k, z)))

mark_done : (l : List ℕ) (m n : ℕ) → n ≤ length l → m < n → get_or (marked l m n) m 0 ≡ 1
mark_done l m n room h = rw (lt-ltb m n h) (get_or-set_same l m 1 0 (omega (arith, h, room)))

-- the root is marked, and what is marked from n on has its inputs marked
unfoldable pub Reached : List ℕ → List ℕ → ℕ → ℕ → Type 0
Reached rs marks root n = (n ≤ root + 1) × (root < length marks) × (get_or marks root 0 ≡ 1) × Closed rs marks n root

pub reached_root : (rs marks : List ℕ) (root : ℕ) → root < length marks → Reached rs (set marks root 1) root (root + 1)
unfolding Reached Closed
reached_root rs marks root h = (
  omega arith,
  subst (λ k. root < k) (sym (length-set marks root 1)) h,
  get_or-set_same marks root 1 0 h,
  λ n from to e kept m below input. absurd (omega (arith, from, to)),
)

-- a record that is not marked, or not kept
pub reached_skip : (rs marks : List ℕ) (root n k : ℕ) (f : Fields) → n ≡ suc k → f ≡ fields_at rs (node k)
    → (eqb (get_or marks k 0) 1 && is_kept f) ≡ false → Reached rs marks root n → Reached rs marks root k
unfolding Reached Closed
reached_skip rs marks root n k f en ef out r = (
  (let a = r.0 in omega (arith, en, a)),
  r.1,
  r.2,
  λ j from to e kept m below input.
      by-test (eqb j k)
      (λ z.
      let q : j ≡ k = eqb-true j k z in
      absurd (true≢false (sym (both (get_or marks k 0) (is_kept f) (subst (λ i. get_or marks i 0 ≡ 1) q e)
      (subst (λ g. is_kept g ≡ true) (sym (ef ∙ ap (λ i. fields_at rs (node i)) (sym q))) kept)) ∙ out)))
      (λ z. r.3 j (let d : (j ≡ k → ⊥) = eqb-false j k z in omega (arith, from, en, d)) to e kept m below input),
)
  where
    both : (x : ℕ) (b : Bool) → x ≡ 1 → b ≡ true → (eqb x 1 && b) ≡ true
    both x b ex eb = rw (ex, eb)

module _ (rs l : List ℕ) (root n k : ℕ) (f : Fields) (en : n ≡ suc k) (ef : f ≡ fields_at rs (node k)) (r : Reached rs l root n)
  where
    abbrev l1 : List ℕ
    l1 = marked l f.a k

    abbrev l2 : List ℕ
    l2 = marked l1 f.b k

    abbrev l3 : List ℕ
    l3 = marked l2 f.c k

    room0 : k ≤ length l
    unfolding Reached
    room0 = let a = r.0 in let b = r.1 in omega (arith, a, b, en)

    room1 : k ≤ length l1
    room1 = subst (λ z. k ≤ z) (sym (mark_length l f.a k)) room0

    room2 : k ≤ length l2
    room2 = subst (λ z. k ≤ z) (sym (mark_length l1 f.b k)) room1

    stays : (j : ℕ) → get_or l j 0 ≡ 1 → get_or l3 j 0 ≡ 1
    stays j e =
        mark_stays l2 f.c k j room2 (mark_stays l1 f.b k j room1 (mark_stays l f.a k j room0 e))

    above : (j : ℕ) → k ≤ j → get_or l3 j 0 ≡ get_or l j 0
    above j h = mark_above l2 f.c k j h ∙ mark_above l1 f.b k j h ∙ mark_above l f.a k j h

    own : (m : ℕ) → m < k → is_input f m ≡ true → get_or l3 m 0 ≡ 1
    unfolding is_input
    own m h e =
        by-test (eqb m f.a)
        (λ z.
        let q : m ≡ f.a = eqb-true m f.a z in
        mark_stays l2 f.c k m room2 (mark_stays l1 f.b k m room1
        (subst (λ i. get_or l1 i 0 ≡ 1) (sym q) (mark_done l f.a k room0 (omega (arith, q, h))))))
        (λ z.
        by-test (eqb m f.b)
        (λ y.
        let q : m ≡ f.b = eqb-true m f.b y in
        mark_stays l2 f.c k m room2
        (subst (λ i. get_or l2 i 0 ≡ 1) (sym q) (mark_done l1 f.b k room1 (omega (arith, q, h)))))
        (λ y.
        let q : m ≡ f.c = eqb-true m f.c (rw (z, y) at e) in
        subst (λ i. get_or l3 i 0 ≡ 1) (sym q) (mark_done l2 f.c k room2 (omega (arith, q, h)))))

    pub reached_more : Reached rs l3 root k
    unfolding Reached Closed
    reached_more = (
      (let a = r.0 in omega (arith, a, en)),
      subst (λ z. root < z) (sym (mark_length l2 f.c k ∙ mark_length l1 f.b k ∙ mark_length l f.a k)) r.1,
      stays root r.2,
      λ j from to e kept m below input.
          by-test (eqb j k)
          (λ z.
          let q : j ≡ k = eqb-true j k z in
          own m (omega (arith, below, q)) (subst (λ g. is_input g m ≡ true) (sym (ef ∙ ap (λ i. fields_at rs (node i)) (sym q))) input))
          (λ z.
          let d : (j ≡ k → ⊥) = eqb-false j k z in
          stays m (r.3 j (omega (arith, from, en, d)) to (sym (above j from) ∙ e) kept m below input)),
    )

pub reached_done : (rs marks : List ℕ) (root n : ℕ) → n ≡ 0 → Reached rs marks root n
    → (get_or marks root 0 ≡ 1) × Closed rs marks 0 root
unfolding Reached
reached_done rs marks root n e r = (r.2, subst (λ k. Closed rs marks k root) e r.3)

-- Tables with one entry a record, filled from record 0 up: of tree counts, and of columns reached.
use mathlib.Core.Path.{◌≡◌, refl, sym, ◌∙◌, ap}
use mathlib.Core.Bool.{true, false}
use mathlib.Core.List.{List, [], ◌∷◌}
use Prim.Native.Nat.{ℕ, ◌+◌, min}
use native.Mathlib.Omega.{arith}
use lib.Dec.{ltb}
use lib.Bits.{bit_or}
use borrow.Author.Tests.{ltb-true, ltb-false}
use Rattle.records.specs.Course.{up_to, course}
use Rattle.records.specs.Record.{node, record_at, inputs}
use Rattle.checking.specs.Table.{below}
use Rattle.checking.specs.Tree.{sum_at, tree_step, tree_count}
use Rattle.checking.specs.Columns.{or_at, own_column, columns_step, columns_word}
use Rattle.records.proofs.Courses.{course-top, up_to-below, up_to-off}
use Rattle.records.proofs.Laws.{by-test}
use Rattle.record_check.proofs.Filling.{Filled}

-- what the table holds below n, where its entries are h of the answers by course of values
module _ (h : ℕ → ℕ) (zero-stays : h 0 ≡ 0) (f : (ℕ → ℕ) → ℕ → ℕ) where
  pub below-is : (l : List ℕ) (n : ℕ) → Filled (λ a. h (course (λ b. 0) f a)) l n
      → (x : ℕ) → below l n x ≡ h (up_to (λ b. 0) f n x)
  below-is l n t x = by-test (ltb x n) low high
    where
      low : ltb x n ≡ true → below l n x ≡ h (up_to (λ b. 0) f n x)
      low e =
          rw (e, up_to-below (λ b. 0) f n x (ltb-true x n e)) (t x (ltb-true x n e))

      high : ltb x n ≡ false → below l n x ≡ h (up_to (λ b. 0) f n x)
      high e = rw (e, up_to-off (λ b. 0) f n x (ltb-false x n e)) (sym zero-stays)

-- a sum cut at 4,097 may cut its parts first
pub sum_cut : (C D : ℕ → ℕ) → ((x : ℕ) → D x ≡ min (C x) 4097) → (l : List ℕ) (k : ℕ)
    → min (k + sum_at D l) 4097 ≡ min (k + sum_at C l) 4097
sum_cut C D h [] k = refl
sum_cut C D h (x ∷ l) k =
    let e : D x ≡ min (C x) 4097 = h x in
    let ih : min (k + C x + sum_at D l) 4097 ≡ min (k + C x + sum_at C l) 4097 = sum_cut C D h l (k + C x) in
    omega (arith, e, ih)

abbrev tree_rule : List ℕ → (ℕ → ℕ) → ℕ → ℕ
tree_rule rs lower i = tree_step lower (record_at rs (node i))

-- one turn of the loop over tree counts
pub tree-turn : (rs l : List ℕ) (n v : ℕ) → Filled (λ a. min (tree_count rs a) 4097) l n
    → v ≡ min (tree_step (below l n) (record_at rs (node n))) 4097 → v ≡ min (tree_count rs n) 4097
tree-turn rs l n v t e =
    e
    ∙ sum_cut (λ i. up_to (λ a. 0) (tree_rule rs) n i) (below l n)
    (below-is (λ s. min s 4097) refl (tree_rule rs) l n t) (inputs (record_at rs (node n))) 1
    ∙ ap (λ s. min s 4097) (sym (course-top (λ a. 0) (tree_rule rs) n))

or_same : (C D : ℕ → ℕ) → ((x : ℕ) → D x ≡ C x) → (l : List ℕ) → or_at D l ≡ or_at C l
or_same C D h [] = refl
or_same C D h (x ∷ l) = rw (h x, or_same C D h l)

abbrev columns_rule : List ℕ → (ℕ → ℕ) → ℕ → ℕ
columns_rule rs lower i = columns_step lower (record_at rs (node i))

-- one turn of the loop over columns reached
pub columns-turn : (rs l : List ℕ) (n v : ℕ) → Filled (columns_word rs) l n
    → v ≡ columns_step (below l n) (record_at rs (node n)) → v ≡ columns_word rs n
columns-turn rs l n v t e =
    e
    ∙ ap (bit_or (own_column (record_at rs (node n))))
    (or_same (λ i. up_to (λ a. 0) (columns_rule rs) n i) (below l n)
    (below-is (λ s. s) refl (columns_rule rs) l n t) (inputs (record_at rs (node n))))
    ∙ sym (course-top (λ a. 0) (columns_rule rs) n)

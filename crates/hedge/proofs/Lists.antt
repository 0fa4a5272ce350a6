-- Classes tell what the answers are.
-- Assumes nothing.
use mathlib.Core.Path.{◌≡◌, refl, sym, ◌∙◌, ap, subst}
use mathlib.Core.Bool.{Bool, true, false, cond}
use mathlib.Core.List.{List, [], ◌∷◌, ◌++◌}
use Prim.Native.Nat.{ℕ, zero, suc, ◌+◌, ◌*◌, ◌/◌, ◌%◌, ◌≤◌, ◌<◌}
use native.Mathlib.Omega.{arith}
use native.Mathlib.Numerals.{add-one}
use lib.Dec.{eqb}
use lib.ListN.{get_or}
use Rattle.file_blocks.specs.Format.{overwrite}
use Rattle.three_valued.specs.declared.logic.Truth.{Truth}
use Rattle.three_valued.specs.declared.logic.Truth.TheVariants.{False, Unknown, True}
use Rattle.row_test.specs.Answer.{RowAnswer}
use Rattle.row_test.specs.Answer.{Refused, Tested}
use Rattle.tally.specs.declared.Tally.{Tally}
use Rattle.tally.specs.Sums.{sums_fit}
use Rattle.hedge.specs.Answer.{HedgeAnswer}
use Rattle.hedge.specs.Answer as hedge
use Rattle.chain_rows.specs.Chain.{passes, is_false, is_unknown}
use Rattle.row_list.specs.Numbers.{count, numbers, bytes_of}
use Rattle.hedge.specs.Hedge.{sums_answer, counts_answer}
use Rattle.chain_rows.specs.Classes.{truth_class, class_of, Judged}

count_same : (f g : ℕ → Bool) (n : ℕ) → ((i : ℕ) → i < n → f i ≡ g i) → count f n ≡ count g n
unfolding count
count_same f g zero h = refl
count_same f g (suc n) h = rw (h n (omega arith), count_same f g n (λ i l. h i (omega arith)))

numbers-same : (f g : ℕ → Bool) (n : ℕ) → ((i : ℕ) → i < n → f i ≡ g i) → numbers f n ≡ numbers g n
unfolding numbers
numbers-same f g zero h = refl
numbers-same f g (suc n) h = rw (h n (omega arith), numbers-same f g n (λ i l. h i (omega arith)))

-- ---- classes
passes-class : (a : RowAnswer) → eqb (class_of a) 2 ≡ passes a
passes-class (Refused k) = refl
passes-class (Tested False) = refl
passes-class (Tested Unknown) = refl
passes-class (Tested True) = refl

false-class : (a : RowAnswer) → eqb (class_of a) 0 ≡ is_false a
false-class (Refused k) = refl
false-class (Tested False) = refl
false-class (Tested Unknown) = refl
false-class (Tested True) = refl

unknown_class : (a : RowAnswer) → eqb (class_of a) 1 ≡ is_unknown a
unknown_class (Refused k) = refl
unknown_class (Tested False) = refl
unknown_class (Tested Unknown) = refl
unknown_class (Tested True) = refl

module _ (A : ℕ → RowAnswer) (l : List ℕ) (n : ℕ) (judged : Judged A l n) where
  of_class : (k : ℕ) (is : RowAnswer → Bool) → ((a : RowAnswer) → eqb (class_of a) k ≡ is a)
      → (i : ℕ) → i < n → eqb (get_or l i 0) k ≡ is (A i)
  unfolding Judged
  of_class k is e i h = ap (λ x. eqb x k) (judged i h) ∙ e (A i)

  -- what is counted and listed of the classes is what is counted and listed of the answers
  pub counts-are : (tally : Tally) (p f u : ℕ) → p ≡ count (λ (i : ℕ). eqb (get_or l i 0) 2) n
      → f ≡ count (λ (i : ℕ). eqb (get_or l i 0) 0) n → u ≡ count (λ (i : ℕ). eqb (get_or l i 0) 1) n
      → sums_answer tally p f u ≡ counts_answer A n tally
  unfolding counts_answer
  counts-are tally p f u ep ef eu =
      let qp : p ≡ count (λ r. passes (A r)) n = ep ∙ count_same _ _ n (of_class 2 passes passes-class) in
      let qf : f ≡ count (λ r. is_false (A r)) n = ef ∙ count_same _ _ n (of_class 0 is_false false-class) in
      let qu : u ≡ count (λ r. is_unknown (A r)) n = eu ∙ count_same _ _ n (of_class 1 is_unknown unknown_class) in
      rw (qp, qf, qu)

  pub list-is : (old out : List ℕ) → out ≡ overwrite old 0 (bytes_of (numbers (λ (i : ℕ). eqb (get_or l i 0) 2) n))
      → out ≡ overwrite old 0 (bytes_of (numbers (λ r. passes (A r)) n))
  list-is old out e =
      e ∙ ap (λ ns. overwrite old 0 (bytes_of ns)) (numbers-same _ _ n (of_class 2 passes passes-class))

pub sums_refused : (tally : Tally) (p f u : ℕ) → sums_fit tally p f u ≡ false → hedge.Refused 21 ≡ sums_answer tally p f u
unfolding sums_answer
sums_refused tally p f u e = rw e

pub sums_listed : (tally : Tally) (p f u : ℕ) → sums_fit tally p f u ≡ true → hedge.Listed p f u ≡ sums_answer tally p f u
unfolding sums_answer
sums_listed tally p f u e = rw e

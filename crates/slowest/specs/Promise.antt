-- What the screen built is good for (02, 2.13): t is its table, rs records that begin with its own.
use Rattle.std.specs.Prelude.{◌≡◌, false, List, [], ◌∷◌, ◌++◌, map, ℕ, zero, suc, ◌*◌, ◌-◌, ◌≤◌, length}
use Rattle.checking.specs.Check.{check_answer}
use Rattle.checking.specs.Answer as check
use Rattle.truth.specs.FromBytes.{aexpr_at}
use Rattle.constraints.specs.Column.{Constraint}
use Rattle.merge.specs.Classify.{Conjunct, Bounds, Normalized, Equality, Recorded, NonNullPair, Opaque, read_conjuncts}
use Rattle.merge.specs.Demand.{is_refused}
use Rattle.merge.specs.Passes.{screen_equalities, rewrite_passes}
use Rattle.merge.specs.Rewrite.{rewrite_answer}
use Rattle.slowest.specs.Screen.{slowest_bytes, slowest_table, slowest_used, slowest_root, records_needed}

-- The conjuncts that are no equality.
abbrev pub besides : List (Conjunct ℕ) → List (Conjunct ℕ)
besides [] = []
besides (Bounds c l ∷ xs) = Bounds c l ∷ besides xs
besides (Normalized c l ∷ xs) = Normalized c l ∷ besides xs
besides (Equality a b n ∷ xs) = besides xs
besides (Recorded stops n c l ∷ xs) = Recorded stops n c l ∷ besides xs
besides (NonNullPair n a b ∷ xs) = NonNullPair n a b ∷ besides xs
besides (Opaque n ∷ xs) = Opaque n ∷ besides xs

-- Neighbours among the columns 0 to k, from the far end.
abbrev pub far_end_first : ℕ → List (ℕ × ℕ)
far_end_first zero = []
far_end_first (suc k) = (k, suc k) ∷ far_end_first k

-- What every choice of such a screen of n columns has in common; which bytes it has is the builder's choice
-- (`slowest_bytes`). Its columns are Int, it has three records a column, one bound on the first column and the chain of
-- equalities listed from its far end. Checking accepts it, rewriting makes exactly n passes, and where 8 n - 2 records are
-- lent rewriting does not refuse it.
pub record TakesAllPasses (n : ℕ) (t rs : List ℕ) (used root : ℕ) : Type 0 where
  pub ints : t ≡ slowest_table n
  pub three : used ≡ 3 * n
  pub chain : map (λ e. (e.0, e.1)) (screen_equalities rs [] used root) ≡ far_end_first (n - 1)
  pub bound : (l : List (Constraint ℕ)) × (besides (read_conjuncts (aexpr_at rs [] used) root) ≡ Bounds 0 l ∷ [])
  pub accepted : check_answer t rs [] used root ≡ check.Accepted
  pub passes : rewrite_passes rs [] used root ≡ n
  pub served : 16 * records_needed n ≤ length rs → is_refused (rewrite_answer t rs [] used root) ≡ false

-- For every number of columns from 2 to 64, whatever stands behind the screen.
abbrev pub SlowestTakesAllPasses : Type 0
SlowestTakesAllPasses =
    (n : ℕ) → 2 ≤ n → n ≤ 64 → (rest : List ℕ) →
    TakesAllPasses n (slowest_table n) (slowest_bytes n ++ rest) (slowest_used n) (slowest_root n)

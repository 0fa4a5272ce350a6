-- What a refusal of checking carries is listed for every call.
use mathlib.Core.Path.{◌≡◌, refl}
use mathlib.Core.Bool.{Bool, true, false, cond}
use mathlib.Core.List.{List, ◌++◌}
use Prim.Native.Nat.{ℕ, zero, suc, ◌≤◌}
use native.Mathlib.Omega.{arith}
use Rattle.checking.specs.Check.{check_answer_in}
use Rattle.checking.specs.Answer.{CheckAnswer}
use Rattle.checking.specs.Answer as check
use Rattle.checking.proofs.Answers.{refused-numbered-in}
use Rattle.listed.specs.Listed.{listed, check_refusals}

-- 1 to 7 stand first in every list
pub first-seven : (l : List ℕ) (k : ℕ) → 1 ≤ k → k ≤ 7 → listed (check_refusals ++ l) k ≡ true
first-seven l zero h g = absurd (omega (arith, h))
first-seven l (suc zero) h g = refl
first-seven l (suc (suc zero)) h g = refl
first-seven l (suc (suc (suc zero))) h g = refl
first-seven l (suc (suc (suc (suc zero)))) h g = refl
first-seven l (suc (suc (suc (suc (suc zero))))) h g = refl
first-seven l (suc (suc (suc (suc (suc (suc zero)))))) h g = refl
first-seven l (suc (suc (suc (suc (suc (suc (suc zero))))))) h g = refl
first-seven l (suc (suc (suc (suc (suc (suc (suc (suc k)))))))) h g = absurd (omega (arith, g))

-- a test picks one of two answers
pub pick : {A : Type 0} (P : A → Type 0) (b : Bool) (x y : A) → P x → P y → P (cond b x y)
pick P true x y h k = h
pick P false x y h k = k

module _ (text : ℕ) (t rs p : List ℕ) (used root : ℕ) where
  -- what a refusal of checking carries is listed for every call, whatever text pool is lent
  pub refusal_listed : (l : List ℕ) (k : ℕ) → check_answer_in text t rs p used root ≡ check.Refused k
      → listed (check_refusals ++ l) k ≡ true
  refusal_listed l k e = let n = refused-numbered-in text t rs p used root k e in first-seven l k n.0 n.1

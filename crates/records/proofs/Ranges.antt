-- What a test of each number from 0 up by an iterator's `all` or `any` says of a definition that goes through the numbers below n.
-- The definition D is given by what it is at 0 and at one number more; the closure, at f, answers p. Assumes nothing.
use mathlib.Core.Path.{◌≡◌, refl, sym, subst, ◌∙◌}
use mathlib.Core.Logic.{⊎_elim}
use mathlib.Core.Bool.{Bool, true, false, ◌&&◌, ◌||◌, and-false, or-true}
use mathlib.Core.List.{List}
use Prim.Native.Nat.{ℕ, zero, suc, ◌+◌, ◌-◌, ◌≤◌, ◌<◌}
use native.Mathlib.Nat.{zero-add, le_of_suc-le-suc, eq-or-lt_of_le}
use native.Mathlib.Omega.{arith}
use lib.ListN.{length, get_or}
use denote.Ref.{Bor}
use denote.Param.Members.{Mut}
use Rattle.std.specs.Bool.{MatchBool}
use Rattle.std.specs.Fn.{Called}
use Rattle.std.specs.Iterator.{YieldsThen}
use Rattle.std.specs.List.{FoldsTo, range_with_len, AllWithin, HoldsAt}
use Rattle.std.specs.Option.{MatchOption}
use Rattle.std.specs.Prelude.{Option}
use Rattle.std.specs.Slice.Iter.{iter_rest}
use Rattle.std.specs.declared.ops.Range.{Range}
use Rattle.std.specs.declared.slice.Iter.{Iter}
use Rattle.std.proofs.iter.Yields.{fronts, nat_range_steps}
use Rattle.std.proofs.lemmas.Iterator.{cases_from_all, cases_from_any, YieldsList-from_slice, YieldsList-from_range}
use Rattle.std.proofs.lemmas.List.FromFn.{length-range_with_len, get_or-range_with_len}
use Rattle.records.specs.Bytes.{all}

-- what stands in the list of the numbers below n
abbrev Each : (ℕ → Type 0) → ℕ → Type 0
Each P n = AllWithin P (range_with_len 0 n) 0 (length (range_with_len 0 n))

abbrev SomeBelow : (ℕ → Type 0) → ℕ → Type 0
SomeBelow P n = (k : ℕ) × (k < length (range_with_len 0 n)) × HoldsAt P (range_with_len 0 n) k

within : (P : ℕ → Type 0) (n : ℕ) → Each P n → (k : ℕ) → k < n → P k
within P n h k l =
    let e : get_or (range_with_len 0 n) k 0 ≡ k = get_or-range_with_len 0 n k 0 l ∙ zero-add k in
    subst P e (h k 0 (omega arith) (rw length-range_with_len l))

some_below : (P : ℕ → Type 0) (n : ℕ) → SomeBelow P n → (k : ℕ) × (k < n) × P k
some_below P n h =
    let l : h.0 < n = rw length-range_with_len at h.1 in
    let e : get_or (range_with_len 0 n) h.0 0 ≡ h.0 = get_or-range_with_len 0 n h.0 0 l ∙ zero-add h.0 in
    (h.0, l, subst P e (h.2 0))

module _ (D p : ℕ → Bool) where
  module _ (start : D 0 ≡ true) (step : (i : ℕ) → D (suc i) ≡ (D i && p i)) where
    each : (n : ℕ) → ((k : ℕ) → k < n → p k ≡ true) → D n ≡ true
    each zero h = start
    each (suc n) h = step n ∙ rw (each n (λ k l. h k (omega arith)), h n (omega arith)) refl

    fails : (n k : ℕ) → k < n → p k ≡ false → D n ≡ false
    fails zero k l e = absurd (omega arith)
    fails (suc n) k l e = step n ∙
        ⊎_elim (λ q. rw (← q, e) (and-false (D k))) (λ m. rw (fails n k m e) refl) (eq-or-lt_of_le (le_of_suc-le-suc l))

    all_decided : (n : ℕ) (r : Bool) → MatchBool r (Each (λ x. p x ≡ true) n) (SomeBelow (λ x. p x ≡ false) n) → r ≡ D n
    all_decided n true h = sym (each n (within (λ x. p x ≡ true) n h))
    all_decided n false h = let k = some_below (λ x. p x ≡ false) n h in sym (fails n k.0 k.1 k.2)

  module _ (start : D 0 ≡ false) (step : (i : ℕ) → D (suc i) ≡ (D i || p i)) where
    none : (n : ℕ) → ((k : ℕ) → k < n → p k ≡ false) → D n ≡ false
    none zero h = start
    none (suc n) h = step n ∙ rw (none n (λ k l. h k (omega arith)), h n (omega arith)) refl

    found : (n k : ℕ) → k < n → p k ≡ true → D n ≡ true
    found zero k l e = absurd (omega arith)
    found (suc n) k l e = step n ∙
        ⊎_elim (λ q. rw (← q, e) (or-true (D k))) (λ m. rw (found n k m e) refl) (eq-or-lt_of_le (le_of_suc-le-suc l))

    any_decided : (n : ℕ) (r : Bool) → MatchBool r (SomeBelow (λ x. p x ≡ true) n) (Each (λ x. p x ≡ false) n) → r ≡ D n
    any_decided n true h = let k = some_below (λ x. p x ≡ true) n h in sym (found n k.0 k.1 k.2)
    any_decided n false h = sym (none n (within (λ x. p x ≡ false) n h))

module _ {F : Type 0} {g : Mut F (ℕ × Unit {0}) Bool} (D p : ℕ → Bool) (n : ℕ) {s : Range ℕ} (u : Range ℕ) (f : F) where
  pub all_by_steps : (r : Bool)
      → (xs : List ℕ) × (o : Option ℕ) × (j : F) × YieldsThen nat_range_steps s xs o u × FoldsTo (λ h x q. Called g h (x, tt) true q) f xs j
      × MatchOption o (r ≡ true) (λ x. (r ≡ false) × ((h : F) × Called g j (x, tt) false h))
      → s ≡ record { start = 0; end = n }
      → ((x : ℕ) (b : Bool) (q : F) → Called g f (x, tt) b q → (q ≡ f) × (b ≡ p x))
      → D 0 ≡ true → ((i : ℕ) → D (suc i) ≡ (D i && p i)) → r ≡ D n
  all_by_steps r ran e calls start step =
      all_decided D p start step n r (cases_from_all u f r (λ x. p x ≡ true) (λ x. p x ≡ false) ran
      (YieldsList-from_range 0 n n e (omega arith)) (λ x q k. let c = calls x true q k in (c.0, sym c.1)) (λ x q k. sym (calls x false q k).1))

  pub any_by_steps : (r : Bool)
      → (xs : List ℕ) × (o : Option ℕ) × (j : F) × YieldsThen nat_range_steps s xs o u × FoldsTo (λ h x q. Called g h (x, tt) false q) f xs j
      × MatchOption o (r ≡ false) (λ x. (r ≡ true) × ((h : F) × Called g j (x, tt) true h))
      → s ≡ record { start = 0; end = n }
      → ((x : ℕ) (b : Bool) (q : F) → Called g f (x, tt) b q → (q ≡ f) × (b ≡ p x))
      → D 0 ≡ false → ((i : ℕ) → D (suc i) ≡ (D i || p i)) → r ≡ D n
  any_by_steps r ran e calls start step =
      any_decided D p start step n r (cases_from_any u f r (λ x. p x ≡ true) (λ x. p x ≡ false) ran
      (YieldsList-from_range 0 n n e (omega arith)) (λ x q k. sym (calls x true q k).1) (λ x q k. let c = calls x false q k in (c.0, sym c.1)))

-- the numbers below n all pass p
pub all_in_range : {F : Type 0} {g : Mut F (ℕ × Unit {0}) Bool} (p : ℕ → Bool) (n : ℕ) {s : Range ℕ} (u : Range ℕ) (f : F) (r : Bool)
    → (xs : List ℕ) × (o : Option ℕ) × (j : F) × YieldsThen nat_range_steps s xs o u × FoldsTo (λ h x q. Called g h (x, tt) true q) f xs j
    × MatchOption o (r ≡ true) (λ x. (r ≡ false) × ((h : F) × Called g j (x, tt) false h))
    → s ≡ record { start = 0; end = n }
    → ((x : ℕ) (b : Bool) (q : F) → Called g f (x, tt) b q → (q ≡ f) × (b ≡ p x))
    → r ≡ all p n
unfolding all
all_in_range p n u f r ran e calls = all_by_steps (all p) p n u f r ran e calls refl (λ i. refl)

-- the elements of a slice all pass p
pub all_in_slice : {F : Type 0} {g : Mut F (Bor ℕ × Unit {0}) Bool} (p : ℕ → Bool) (l : List ℕ) {s : Iter ℕ} (u : Iter ℕ) (f : F) (r : Bool)
    → (xs : List (Bor ℕ)) × (o : Option (Bor ℕ)) × (j : F) × YieldsThen fronts s xs o u × FoldsTo (λ h x q. Called g h (x, tt) true q) f xs j
    × MatchOption o (r ≡ true) (λ x. (r ≡ false) × ((h : F) × Called g j (x, tt) false h))
    → iter_rest s ≡ l
    → ((x : Bor ℕ) (b : Bool) (q : F) → Called g f (x, tt) b q → (q ≡ f) × (b ≡ p x.now))
    → r ≡ all (λ k. p (get_or l k 0)) (length l)
unfolding all
all_in_slice p l u f r ran e calls =
    decided r (cases_from_all u f r (λ x. p x ≡ true) (λ x. p x ≡ false) ran (YieldsList-from_slice l e)
    (λ x q k. let c = calls x true q k in (c.0, sym c.1)) (λ x q k. sym (calls x false q k).1))
  where
    at : ℕ → Bool
    at k = p (get_or l k 0)

    decided : (b : Bool) → MatchBool b (AllWithin (λ x. p x ≡ true) l 0 (length l)) ((k : ℕ) × (k < length l) × HoldsAt (λ x. p x ≡ false) l k)
        → b ≡ all at (length l)
    decided true h = sym (each (all at) at refl (λ i. refl) (length l) (λ k m. h k 0 (omega arith) m))
    decided false h = sym (fails (all at) at refl (λ i. refl) (length l) h.0 h.1 (h.2 0))

-- The nodes that a record names, by its kind.
use Prim.Native.Nat.{ℕ, ◌≤◌, ◌<◌}
use mathlib.Core.Logic.{⊎_elim}
use mathlib.Core.List.{[], ◌∷◌}
use mathlib.Core.Bool.{true, false}
use mathlib.Core.Path.{◌≡◌, refl}
use native.Mathlib.Omega.{arith}
use types.Run.{OneOf}
use lib.Dec.{leb, eqb}
use borrow.Author.Tests.{eqb-true, eqb-false, leb-true, ne_eqb}
use Rattle.records.specs.Record.{decode, inputs}
use Rattle.records.specs.declared.record.Fields.{Fields}
use Rattle.records.proofs.Laws.{by-test}

pub names_two : (f : Fields) → OneOf (4 ∷ 10 ∷ []) f.kind → f.a ∷ f.b ∷ [] ≡ inputs (decode f)
unfolding decode
names_two f h = ⊎_elim (λ e. rw e) (λ e. rw e) h

pub names_three : (f : Fields) → f.kind ≡ 8 → f.a ∷ f.b ∷ f.c ∷ [] ≡ inputs (decode f)
unfolding decode
names_three f e = rw e

-- 5, 6 and 7, as a `match` tests them that has an arm for 4
pub names_one : (f : Fields) → (f.kind ≡ 4 → ⊥) → 4 ≤ f.kind → f.kind < 8 → f.a ∷ [] ≡ inputs (decode f)
unfolding decode
names_one f no4 l h =
    by-test (eqb f.kind 5) (λ e. rw (eqb-true f.kind 5 e))
    (λ no5. by-test (eqb f.kind 6) (λ e. rw (eqb-true f.kind 6 e))
    (λ no6. rw (seven (eqb-false _ _ no5) (eqb-false _ _ no6))))
  where
    seven : (f.kind ≡ 5 → ⊥) → (f.kind ≡ 6 → ⊥) → f.kind ≡ 7
    seven d e = omega (arith, no4, d, e)

pub names_none : (f : Fields) → (4 ≤ f.kind → f.kind ≤ 8 → ⊥) → (f.kind ≡ 10 → ⊥) → [] ≡ inputs (decode f)
unfolding decode
names_none f out d =
    let no4 = not_key 4 refl refl in
    let no5 = not_key 5 refl refl in
    let no6 = not_key 6 refl refl in
    let no7 = not_key 7 refl refl in
    let no8 = not_key 8 refl refl in
    by-test (eqb f.kind 1) (λ e. rw e)
    (λ no1. by-test (eqb f.kind 2) (λ e. rw (no1, e))
    (λ no2. by-test (eqb f.kind 3) (λ e. rw (no1, no2, e))
    (λ no3. by-test (eqb f.kind 9) (λ e. rw (no1, no2, no3, no4, no5, no6, no7, no8, e))
    (λ no9. rw (no1, no2, no3, no4, no5, no6, no7, no8, no9, ne_eqb f.kind 10 d)))))
  where
    not_key : (k : ℕ) → leb 4 k ≡ true → leb k 8 ≡ true → eqb f.kind k ≡ false
    not_key k l h = ne_eqb f.kind k (λ e. out (rw e (leb-true 4 k l)) (rw e (leb-true k 8 h)))

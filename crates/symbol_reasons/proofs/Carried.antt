-- The lines change nothing of what is merged: leaving them away afterwards or before is the same.
use mathlib.Core.Path.{◌≡◌, refl, sym, ◌∙◌, ap}
use mathlib.Core.List.{List, [], ◌∷◌, map}
use Prim.Native.Nat.{ℕ, suc}
use lib.IntN.{ℤ}
use Rattle.constraints.specs.Scalars.{Scalars}
use Rattle.constraints.specs.Column.{Constraint, Lower, Upper, Exclude, Allow, Disallow, Require}
use Rattle.constraints.specs.Mapped.{map_constraint}
use Rattle.constraints.proofs.Carried.{Carries, along}
use Rattle.merge.specs.Classify.{Conjunct, Bounds, Normalized, Equality, Recorded, NonNullPair, Opaque, read_conjuncts}
use Rattle.merge.specs.Emit.{merge_filter_constraints}
use Rattle.merge.specs.Lines.{map_conjunct, map_outcome}
use Rattle.merge.specs.Passes.{merge_passes}
use Rattle.merge.proofs.Carried.{merge_carried, passes-carried}
use Rattle.symbol_screens.specs.Held.{Held, bits_of, holding}
use Rattle.symbol_screens.specs.Reading.{held_at}
use Rattle.symbol_screens.specs.Rewriting.{outcome_with, rewrite_passes_with}
use Rattle.symbol_reasons.specs.Lined.{LinedHeld, held_on_line, holding_lined, held_lines_from, lined_outcome_with}

lines-carry : (text : List ℕ) → Carries (holding text) (λ (v : LinedHeld). v.held)
unfolding holding
lines-carry text =
    record {
      opened = λ bound excluded. held_on_line bound.line excluded.held;
      opened-key = λ bound excluded. refl;
      opens = λ bound excluded. refl;
    }

lines-along : (text : List ℕ) → holding_lined text ≡ along (lines-carry text)
unfolding holding holding_lined lines-carry
lines-along text = refl

-- ---- values taken twice, to the same
module _ {A B C D : Type 0} (f : B → D) (g : A → B) (h : C → D) (k : A → C) (same : (v : A) → f (g v) ≡ h (k v)) where
  values_same : (l : List A) → map f (map g l) ≡ map h (map k l)
  values_same [] = refl
  values_same (v ∷ l) = λ i. same v i ∷ values_same l i

  constraint-same : (a : Constraint A) → map_constraint f (map_constraint g a) ≡ map_constraint h (map_constraint k a)
  constraint-same (Lower c v) = ap (Lower c) (same v)
  constraint-same (Upper c v) = ap (Upper c) (same v)
  constraint-same (Exclude v) = ap Exclude (same v)
  constraint-same (Allow l) = ap Allow (values_same l)
  constraint-same (Disallow c l) = ap (Disallow c) (values_same l)
  constraint-same (Require n) = refl

  constraints-same : (l : List (Constraint A)) →
      map (map_constraint f) (map (map_constraint g) l) ≡ map (map_constraint h) (map (map_constraint k) l)
  constraints-same [] = refl
  constraints-same (a ∷ l) = λ i. constraint-same a i ∷ constraints-same l i

  pub conjunct-same : (c : Conjunct A) → map_conjunct f (map_conjunct g c) ≡ map_conjunct h (map_conjunct k c)
  conjunct-same (Bounds c l) = ap (Bounds c) (constraints-same l)
  conjunct-same (Normalized c l) = ap (Normalized c) (constraints-same l)
  conjunct-same (Equality a b n) = refl
  conjunct-same (Recorded stops n c l) = ap (Recorded stops n c) (constraints-same l)
  conjunct-same (NonNullPair n a b) = refl
  conjunct-same (Opaque n) = refl

-- ---- conjuncts under their numbers are the conjuncts
module _ {A : Type 0} where
  values-kept : (l : List A) → map (λ v. v) l ≡ l
  values-kept [] = refl
  values-kept (v ∷ l) = ap (λ m. v ∷ m) (values-kept l)

  constraint-kept : (a : Constraint A) → map_constraint (λ v. v) a ≡ a
  constraint-kept (Lower c v) = refl
  constraint-kept (Upper c v) = refl
  constraint-kept (Exclude v) = refl
  constraint-kept (Allow l) = ap Allow (values-kept l)
  constraint-kept (Disallow c l) = ap (Disallow c) (values-kept l)
  constraint-kept (Require n) = refl

  constraints-kept : (l : List (Constraint A)) → map (map_constraint (λ v. v)) l ≡ l
  constraints-kept [] = refl
  constraints-kept (a ∷ l) = λ i. constraint-kept a i ∷ constraints-kept l i

  conjunct-kept : (c : Conjunct A) → map_conjunct (λ v. v) c ≡ c
  conjunct-kept (Bounds c l) = ap (Bounds c) (constraints-kept l)
  conjunct-kept (Normalized c l) = ap (Normalized c) (constraints-kept l)
  conjunct-kept (Equality a b n) = refl
  conjunct-kept (Recorded stops n c l) = ap (Recorded stops n c) (constraints-kept l)
  conjunct-kept (NonNullPair n a b) = refl
  conjunct-kept (Opaque n) = refl

pub lines-back : (i : ℕ) (l : List (Conjunct Held)) → map (map_conjunct (λ (v : LinedHeld). v.held)) (held_lines_from i l) ≡ l
unfolding held_lines_from
lines-back i [] = refl
lines-back i (c ∷ l) =
    λ j. (conjunct-same (λ (v : LinedHeld). v.held) (held_on_line i) (λ v. v) (λ v. v) (λ v. refl) c
    ∙ conjunct-kept (map_conjunct (λ v. v) c) ∙ conjunct-kept c) j ∷ lines-back (suc i) l j

module _ (text : List ℕ) (l : List (Conjunct Held)) where
  pub carried_with : map_outcome (λ v. v.held) (merge_filter_constraints (holding_lined text) (held_lines_from 0 l)) ≡
      merge_filter_constraints (holding text) l
  carried_with =
      ap (λ (T : Scalars ℤ LinedHeld). map_outcome (λ v. v.held) (merge_filter_constraints T (held_lines_from 0 l))) (lines-along text)
      ∙ merge_carried (holding text) (λ v. v.held) (lines-carry text) (held_lines_from 0 l)
      ∙ ap (merge_filter_constraints (holding text)) (lines-back 0 l)

  pub passes-with : merge_passes (holding_lined text) (held_lines_from 0 l) ≡ merge_passes (holding text) l
  passes-with =
      ap (λ (T : Scalars ℤ LinedHeld). merge_passes T (held_lines_from 0 l)) (lines-along text)
      ∙ passes-carried (holding text) (λ v. v.held) (lines-carry text) (held_lines_from 0 l)
      ∙ ap (merge_passes (holding text)) (lines-back 0 l)

-- Of a screen: what is written is the outcome of its lines without them.
pub outcome_carried : (text rs p : List ℕ) (used root : ℕ) →
    map_outcome bits_of (map_outcome (λ v. v.held) (lined_outcome_with text rs p used root)) ≡ outcome_with text rs p used root
outcome_carried text rs p used root = ap (map_outcome bits_of) (carried_with text (read_conjuncts (held_at rs p used) root))

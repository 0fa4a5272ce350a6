-- A screen whose values are taken to others in two ways that compare alike is merged alike: as symbols, and as their ranks
-- (02, 2.10). That they compare alike is `SameWithin`.
use mathlib.Core.Path.{◌≡◌, sym, ◌∙◌, ap}
use mathlib.Core.List.{List, map}
use Rattle.constraints.specs.Scalars.{Scalars}
use Rattle.constraints.proofs.Carried.{Carries, along}
use Rattle.merge.specs.Classify.{Conjunct}
use Rattle.merge.specs.Emit.{Outcome, merge_filter_constraints}
use Rattle.merge.specs.Lines.{map_conjunct, map_outcome}
use Rattle.merge.specs.Passes.{merge_passes}
use Rattle.merge.proofs.Carried.{merge_carried, passes-carried}

-- Conjuncts l, whose values f and g take to others: there is one outcome that f and g take to what is merged of either,
-- and as many passes are made.
pub record Translated {K K' A B C : Type 0} (S : Scalars K B) (S' : Scalars K' C) (f : A → B) (g : A → C)
    (l : List (Conjunct A)) : Type 0 where
  pub outcome : Outcome A
  pub left : merge_filter_constraints S (map (map_conjunct f) l) ≡ map_outcome f outcome
  pub right : merge_filter_constraints S' (map (map_conjunct g) l) ≡ map_outcome g outcome
  pub passes : merge_passes S (map (map_conjunct f) l) ≡ merge_passes S' (map (map_conjunct g) l)

pub translates : {K K' A B C : Type 0} {S : Scalars K B} {S' : Scalars K' C} {f : A → B} {g : A → C}
    (F : Carries S f) (G : Carries S' g) (l : List (Conjunct A)) →
    merge_filter_constraints (along F) l ≡ merge_filter_constraints (along G) l →
    merge_passes (along F) l ≡ merge_passes (along G) l → Translated S S' f g l
translates {S = S} {S' = S'} {f = f} {g = g} F G l e p =
    record {
      outcome = merge_filter_constraints (along F) l;
      left = sym (merge_carried S f F l);
      right = sym (merge_carried S' g G l) ∙ ap (map_outcome g) (sym e);
      passes = sym (passes-carried S f F l) ∙ p ∙ passes-carried S' g G l;
    }

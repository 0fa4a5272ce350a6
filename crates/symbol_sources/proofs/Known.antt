-- Every value that the merging writes is one that its conjunct gives as that limit, and of its column's kind.
use mathlib.Core.Path.{◌≡◌, refl, sym, ◌∙◌, ap, subst}
use mathlib.Core.Bool.{Bool, true, true≢false}
use mathlib.Core.List.{List, [], ◌∷◌, ◌++◌, map}
use mathlib.Core.Logic.{inl, inr}
use Prim.Native.Nat.{ℕ, zero, suc, ◌+◌}
use native.Mathlib.Omega.{arith}
use Rattle.constraints.specs.Scalars.{Scalars}
use Rattle.constraints.specs.Column.{Constraint, Lower, Upper, Exclude, Allow, Disallow, Require}
use Rattle.constraints.specs.LineKept.{Limit, LowerBound, UpperBound, ExcludedValue, is_bound, OneOf, given_as, all_given_as}
use Rattle.constraints.specs.Mapped.{map_constraint}
use Rattle.constraints.proofs.LineKept.{Each, Gives}
use Rattle.constraints.proofs.SameWithin.{ConstraintHas, ConstraintsHave}
use Rattle.merge.specs.Classify.{Conjunct, Bounds, Normalized, Equality, Recorded, NonNullPair, Opaque}
use Rattle.merge.specs.Emit.{Outcome, Unchanged, NothingPasses, Rebuilt, merge_filter_constraints}
use Rattle.merge.specs.Lines.{map_conjunct}
use Rattle.merge.proofs.LineBehind.{Tells, Written, written_of, merge_tells}
use Rattle.merge.proofs.SameWithin.{ConjunctHas, ConjunctsHave}
use Rattle.symbol_screens.specs.Placed.{Placed}
use Rattle.symbol_sources.specs.Sources.{LinedPlace, place_on_line, opened_place, places_from, limits_of, limits_at, giver, given_limit}
use Rattle.symbol_sources.specs.Sources.{GivenIn, comparisons_of}
use Rattle.symbol_sources.proofs.Limits.{one_left, one_right}

-- Places compared in any way, where an excluded value opens a bound as `opened_place` says.
abbrev pub places_by : {K : Type 0} → Scalars K Placed → Scalars K LinedPlace
places_by S =
    record {
      key = λ v. S.key v.placed;
      order = S.order;
      total = S.total;
      opened = opened_place;
      opened-key = λ bound excluded. refl;
    }

module _ {K : Type 0} (S : Scalars K Placed) (l : List (Conjunct Placed)) (kind : Placed → Bool) (kind_at : ℕ → Bool) where
  -- An excluded value was not opened itself.
  abbrev pub Known : ℕ → Limit → LinedPlace → Type 0
  Known c k v =
      (kind v.placed ≡ kind_at c) × GivenIn l k v.line v.opener v.placed × (k ≡ ExcludedValue → v.opener ≡ 0)

  opened-known : (c : ℕ) (k : Limit) (w v : LinedPlace) → is_bound k ≡ true → (places_by S).key v ≡ (places_by S).key w → Known c k w →
      Known c ExcludedValue v → Known c k (opened_place w v)
  opened-known c k w v b e p x = (
    x.0,
    subst (λ n. OneOf v.placed (limits_at l (giver v.line n) (given_limit n ExcludedValue))) (x.2 refl) x.1,
    λ q. absurd (true≢false (sym b ∙ ap is_bound q)),
  )

  -- ---- what conjunct i gives
  module _ (i : ℕ) where
    gives : (c : ℕ) (a : Constraint Placed) → ((k : Limit) (v : Placed) → OneOf v (given_as a k) → OneOf v (limits_at l i k)) →
        ConstraintHas kind (kind_at c) a → Gives (places_by S) (Known c) (map_constraint (place_on_line i) a)
    gives c (Lower d v) g h = (h, g LowerBound v (inl refl), λ e. refl)
    gives c (Upper d v) g h = (h, g UpperBound v (inl refl), λ e. refl)
    gives c (Exclude v) g h = (h, g ExcludedValue v (inl refl), λ e. refl)
    gives c (Allow m) g h = tt
    gives c (Disallow d m) g h = tt
    gives c (Require n) g h = tt

    all_give : (c : ℕ) (m : List (Constraint Placed)) →
        ((k : Limit) (v : Placed) → OneOf v (all_given_as m k) → OneOf v (limits_at l i k)) → ConstraintsHave kind (kind_at c) m →
        Each (Gives (places_by S) (Known c)) (map (map_constraint (place_on_line i)) m)
    all_give c [] g h x j = absurd j
    all_give c (a ∷ m) g h x (inl e) =
        subst (Gives (places_by S) (Known c)) (sym e)
        (gives c a (λ k v j. g k v (one_left v (given_as a k) (all_given_as m k) j)) h.0)
    all_give c (a ∷ m) g h x (inr j) =
        all_give c m (λ k v q. g k v (one_right v (given_as a k) (all_given_as m k) q)) h.1 x j

    tells : (x : Conjunct Placed) → ((k : Limit) → limits_at l i k ≡ limits_of x k) → ConjunctHas kind kind_at x →
        Tells (places_by S) Known (map_conjunct (place_on_line i) x)
    tells (Bounds c m) e h = all_give c m (λ k v j. subst (OneOf v) (sym (e k)) j) h
    tells (Normalized c m) e h = all_give c m (λ k v j. subst (OneOf v) (sym (e k)) j) h
    tells (Equality a b n) e h = λ k v. ((λ p. (p.0 ∙ h, p.1, p.2)), (λ p. (p.0 ∙ sym h, p.1, p.2)))
    tells (Recorded stops n c m) e h = all_give c m (λ k v j. subst (OneOf v) (sym (e k)) j) h
    tells (NonNullPair n a b) e h = tt
    tells (Opaque n) e h = tt

  each_tells : (i : ℕ) (m : List (Conjunct Placed)) → ((j : ℕ) (k : Limit) → limits_at l (i + j) k ≡ limits_at m j k) →
      ConjunctsHave kind kind_at m → Each (Tells (places_by S) Known) (places_from i m)
  unfolding places_from
  each_tells i [] f h x j = absurd j
  each_tells i (y ∷ m) f h x (inl e) =
      subst (Tells (places_by S) Known) (sym e)
      (tells i y (λ k. let q : i ≡ i + 0 = omega arith in ap (λ n. limits_at l n k) q ∙ f 0 k) h.0)
  each_tells i (y ∷ m) f h x (inr j) =
      each_tells (suc i) m (λ n k. let q : suc i + n ≡ i + suc n = omega arith in ap (λ a. limits_at l a k) q ∙ f (suc n) k) h.1 x j

  pub written_known : ConjunctsHave kind kind_at l →
      Each (Written (places_by S) Known) (comparisons_of (merge_filter_constraints (places_by S) (places_from 0 l)))
  written_known h =
      all_written (merge_filter_constraints (places_by S) (places_from 0 l))
      (merge_tells (places_by S) Known opened-known (places_from 0 l)
      (each_tells 0 l (λ j k. let q : 0 + j ≡ j = omega arith in ap (λ a. limits_at l a k) q) h))
    where
      all_written : (o : Outcome LinedPlace) → Each (Written (places_by S) Known) (written_of (places_by S) Known o) →
          Each (Written (places_by S) Known) (comparisons_of o)
      all_written Unchanged g = g
      all_written NothingPasses g = g
      all_written (Rebuilt ns cs) g = g

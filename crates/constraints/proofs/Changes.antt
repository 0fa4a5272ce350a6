-- What became of a bound is what is said of it.
use mathlib.Core.Path.{◌≡◌, refl, sym, ◌∙◌, ap, subst}
use mathlib.Core.Bool.{Bool, true, false, ◌&&◌, true≢false}
use mathlib.Core.Logic.{◌↔◌}
use Rattle.truth.specs.Order.{View, equal_view, greater_view, less_view}
use Rattle.std.specs.declared.cmp.Ordering.{Ordering}
use Rattle.std.specs.declared.cmp.Ordering.TheVariants.{Equal}
use Rattle.constraints.specs.declared.column.BoundChange.{BoundChange}
use Rattle.constraints.specs.declared.column.BoundChange.TheVariants.{NewValue, NewlyOpen, NoChange}
use Rattle.constraints.specs.Scalars.{Scalars}
use Rattle.constraints.specs.Bound.{Bound, absent, at, is_absent, is_change, tighten, tighten_by}
use Rattle.constraints.specs.BoundChanges.{Moved, Opened, ChangeExactly, ChangesExactly}

abbrev is_new : BoundChange → Bool
is_new NewValue = true
is_new NewlyOpen = false
is_new NoChange = false

-- the value and the kind of a bound, where it has them
abbrev value_of : {Val : Type 0} → Val → Bound Val → Val
value_of u absent = u
value_of u (at c v) = v

abbrev closed_of : {Val : Type 0} → Bound Val → Bool
closed_of absent = true
closed_of (at c v) = c

never : {A B : Type 0} → (A → ⊥) → (B → ⊥) → A ↔ B
never f g = (λ a. absurd (f a), λ b. absurd (g b))

module _ {K Val : Type 0} (S : Scalars K Val) where
  pub changes-exactly : ChangesExactly S
  changes-exactly absent c v =
      record {
        new_value = (λ h. tt, λ h. refl);
        newly_open = never (λ h. true≢false (ap is_new h)) (λ h. h);
        no_change = never (λ h. true≢false (ap is_new h)) (λ h. true≢false (sym (ap is_absent h)));
      }
  changes-exactly (at d w) c v =
      let x = S.total.view (S.key v) (S.key w) in
      record { new_value = new x; newly_open = opened d c x; no_change = same d c x }
    where
      -- a tighter value is another one
      apart : S.order.less (S.key w) (S.key v) → S.key w ≡ S.key v → ⊥
      apart h e = S.total.irrefl (subst (S.order.less (S.key w)) (sym e) h)

      new : {o : Ordering} → View S.order.less (S.key v) (S.key w) o →
          ((tighten_by o d w c v).change ≡ NewValue) ↔ Moved S (at d w) (tighten_by o d w c v).bound
      new (greater_view h) = (λ e. apart h, λ f. refl)
      new (equal_view p) = never (equal d c) (λ f. f refl)
        where
          equal : (d c : Bool) → (tighten_by Equal d w c v).change ≡ NewValue → ⊥
          equal true true e = true≢false (sym (ap is_new e))
          equal true false e = true≢false (sym (ap is_new e))
          equal false c e = true≢false (sym (ap is_new e))
      new (less_view h) = never (λ e. true≢false (sym (ap is_new e))) (λ f. f refl)

      opened : (d c : Bool) {o : Ordering} → View S.order.less (S.key v) (S.key w) o →
          ((tighten_by o d w c v).change ≡ NewlyOpen) ↔ Opened S (at d w) (tighten_by o d w c v).bound
      opened d c (greater_view h) = never (λ e. true≢false (ap is_new e)) (λ f. apart h f.0)
      opened true true (equal_view p) = never (λ e. true≢false (sym (ap is_change e))) (λ f. true≢false f.2)
      opened true false (equal_view p) = (λ e. (refl, refl, refl), λ f. refl)
      opened false c (equal_view p) = never (λ e. true≢false (sym (ap is_change e))) (λ f. true≢false (sym f.1))
      opened true c (less_view h) = never (λ e. true≢false (sym (ap is_change e))) (λ f. true≢false f.2)
      opened false c (less_view h) = never (λ e. true≢false (sym (ap is_change e))) (λ f. true≢false (sym f.1))

      same : (d c : Bool) {o : Ordering} → View S.order.less (S.key v) (S.key w) o →
          ((tighten_by o d w c v).change ≡ NoChange) ↔ ((tighten_by o d w c v).bound ≡ at d w)
      same d c (greater_view h) =
          never (λ e. true≢false (ap is_change e)) (λ f. apart h (sym (ap (λ b. S.key (value_of v b)) f)))
      same true true (equal_view p) = (λ e. refl, λ f. refl)
      same true false (equal_view p) = never (λ e. true≢false (ap is_change e)) (λ f. true≢false (sym (ap closed_of f)))
      same false true (equal_view p) = (λ e. refl, λ f. refl)
      same false false (equal_view p) = (λ e. refl, λ f. refl)
      same d c (less_view h) = (λ e. refl, λ f. refl)

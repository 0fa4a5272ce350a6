-- What a display may rely on: what `tighten` says became of a bound, by the bound before and after.
use Rattle.std.specs.Prelude.{◌≡◌, Bool, true, false, ◌↔◌}
use Rattle.constraints.specs.declared.column.BoundChange.TheVariants.{NewValue, NewlyOpen, NoChange}
use Rattle.constraints.specs.Scalars.{Scalars}
use Rattle.constraints.specs.Bound.{Bound, absent, at, tighten}

module _ {K Val : Type 0} (S : Scalars K Val) where
  -- There was no bound, or its key moved.
  abbrev pub Moved : Bound Val → Bound Val → Type 0
  Moved absent after = Unit {0}
  Moved (at before w) absent = Unit {0}
  Moved (at before w) (at after v) = S.key w ≡ S.key v → ⊥

  -- The same key, closed before and open after.
  abbrev pub Opened : Bound Val → Bound Val → Type 0
  Opened absent after = ⊥
  Opened (at before w) absent = ⊥
  Opened (at before w) (at after v) = (S.key w ≡ S.key v) × (before ≡ true) × (after ≡ false)

  pub record ChangeExactly (b : Bound Val) (inclusive : Bool) (v : Val) : Type 0 where
    pub new_value : ((tighten S b inclusive v).change ≡ NewValue) ↔ Moved b (tighten S b inclusive v).bound
    pub newly_open : ((tighten S b inclusive v).change ≡ NewlyOpen) ↔ Opened b (tighten S b inclusive v).bound
    pub no_change : ((tighten S b inclusive v).change ≡ NoChange) ↔ ((tighten S b inclusive v).bound ≡ b)

  abbrev pub ChangesExactly : Type 0
  ChangesExactly = (b : Bound Val) (inclusive : Bool) (v : Val) → ChangeExactly b inclusive v

-- `resolve_deferred` and what it calls: the excluded values, allowed lists and disallowed values against the final
-- bounds.
use Rattle.std.specs.Prelude.{Bool, true, false, not, ◌&&◌, ◌||◌, cond, List, [], ◌∷◌}
use Rattle.std.proofs.Math.Option.{Option, none, some}
use Rattle.truth.specs.Order.{is_equal}
use Rattle.std.specs.declared.cmp.Ordering.{Ordering}
use Rattle.std.specs.declared.cmp.Ordering.TheVariants.{Less, Equal, Greater}
use Rattle.constraints.specs.declared.column.ExcludedResolution.{ExcludedResolution}
use Rattle.constraints.specs.declared.column.ExcludedResolution.TheVariants.{Drop, Keep, TightenLower}
use Rattle.constraints.specs.declared.column.ExcludedResolution.TheVariants.{TightenUpper}
use Rattle.constraints.specs.Scalars.{Scalars, opposite, scalar_cmp}
use Rattle.constraints.specs.Bound.{Bound, absent, at, is_absent, crosses, clears}
use Rattle.constraints.specs.Values.{is_empty, contains, insert}
use Rattle.constraints.specs.Column.{ColumnConstraints, is_none, column, set_unsat, is_null_required}

-- ---- `has_value_constraint`, against is_null.
-- A bound, an excluded value, an allowed list or a strict negated is_in: each lets no null through.
abbrev pub has_value_constraint : {Val : Type 0} → ColumnConstraints Val → Bool
has_value_constraint cc =
    not ((is_absent cc.lower && (is_absent cc.upper && is_empty cc.excluded)) && (is_none cc.allowed && not cc.strict))

abbrev pub null_conflict : {Val : Type 0} → ColumnConstraints Val → Bool
null_conflict cc = is_null_required cc.nullability && has_value_constraint cc

-- ---- `classify_excluded`.
-- Outside the bound it drops; on it, it opens a closed end; else the answer is `inside`.
abbrev pub classify_by : Ordering → Bool → ExcludedResolution → ExcludedResolution → ExcludedResolution
classify_by Less inclusive on_end inside = Drop
classify_by Equal inclusive on_end inside = cond inclusive on_end Drop
classify_by Greater inclusive on_end inside = inside

-- The range while the excluded values are gone through: its bounds, the values kept so far, and whether it became
-- empty.
pub record Range (Val : Type 0) : Type 0 where
  pub lower : Bound Val
  pub upper : Bound Val
  pub kept : List Val
  pub crossed : Bool

module _ {K Val : Type 0} (S : Scalars K Val) where
  abbrev pub classify_upper : Bound Val → Val → ExcludedResolution
  classify_upper absent v = Keep
  classify_upper (at inclusive w) v = classify_by (scalar_cmp S w v) inclusive TightenUpper Keep

  -- An excluded value against a lower and an upper bound; the lower one is looked at first.
  abbrev pub classify_at : Bound Val → Bound Val → Val → ExcludedResolution
  classify_at absent upper v = classify_upper upper v
  classify_at (at inclusive w) upper v = classify_by (scalar_cmp S v w) inclusive TightenLower (classify_upper upper v)

  abbrev pub classify_excluded : ColumnConstraints Val → Val → ExcludedResolution
  classify_excluded cc v = classify_at cc.lower cc.upper v

  -- A range, checked (`check_bound_consistency`).
  abbrev pub range_with : Bound Val → Bound Val → List Val → Range Val
  range_with lower upper kept = record { lower = lower; upper = upper; kept = kept; crossed = crosses S lower upper }

  -- The end on which the excluded value v lies becomes exclusive.
  abbrev pub open_at : Bound Val → Val → Bound Val
  open_at absent v = at false v
  open_at (at inclusive w) v = at false (S.opened w v)

  abbrev pub resolve_by : ExcludedResolution → Val → Range Val → Range Val
  resolve_by Drop v r = range_with r.lower r.upper r.kept
  resolve_by Keep v r = range_with r.lower r.upper (insert S v r.kept)
  resolve_by TightenLower v r = range_with (open_at r.lower v) r.upper r.kept
  resolve_by TightenUpper v r = range_with r.lower (open_at r.upper v) r.kept

  -- The excluded values in order of insertion, up to the one that leaves the range empty.
  abbrev pub resolve_excluded : List Val → Range Val → Range Val
  resolve_excluded [] r = r
  resolve_excluded (v ∷ l) r = resolve_excluded l (cond r.crossed r (resolve_by (classify_at r.lower r.upper v) v r))

  -- The column with its excluded values resolved. Impossible: it was, or null is required of a column with a value
  -- constraint (the Rust returns there; an impossible column is never written out), or the range became empty.
  abbrev pub with_excluded : ColumnConstraints Val → ColumnConstraints Val
  with_excluded cc =
      let r = resolve_excluded cc.excluded (record { lower = cc.lower; upper = cc.upper; kept = []; crossed = false }) in
      column r.lower r.upper r.kept cc.allowed cc.disallowed cc.strict cc.nullability
      (cc.unsat || (null_conflict cc || r.crossed))

  -- ---- `is_feasible`, of a key.
  abbrev pub is_allowed : Option (List Val) → K → Bool
  is_allowed none k = true
  is_allowed (some values) k = contains S k values

  -- The key survives both bounds, the excluded values, the allowed list and the disallowed values.
  abbrev pub is_feasible : ColumnConstraints Val → K → Bool
  is_feasible cc k =
      (clears S cc.lower k && (clears (opposite S) cc.upper k && not (contains S k cc.excluded)))
      && (is_allowed cc.allowed k && not (contains S k cc.disallowed))

  abbrev pub any_feasible : ColumnConstraints Val → List Val → Bool
  any_feasible cc [] = false
  any_feasible cc (v ∷ l) = is_feasible cc (S.key v) || any_feasible cc l

  abbrev pub allowed_feasible : ColumnConstraints Val → Option (List Val) → Bool
  allowed_feasible cc none = true
  allowed_feasible cc (some values) = any_feasible cc values

  -- ---- `fixed_value`: the one value of a closed range that is a point.
  abbrev pub fixed_at : Bound Val → Bound Val → Option Val
  fixed_at absent upper = none
  fixed_at (at false v) upper = none
  fixed_at (at true v) absent = none
  fixed_at (at true v) (at inclusive w) = cond (inclusive && is_equal (scalar_cmp S v w)) (some v) none

  abbrev pub fixed_value : ColumnConstraints Val → Option Val
  fixed_value cc = fixed_at cc.lower cc.upper

  abbrev pub fixed_disallowed : ColumnConstraints Val → Option Val → Bool
  fixed_disallowed cc none = false
  fixed_disallowed cc (some v) = contains S (S.key v) cc.disallowed

  -- The last two tests: no allowed value is feasible; the fixed value is disallowed.
  abbrev pub with_lists : ColumnConstraints Val → ColumnConstraints Val
  with_lists cc =
      set_unsat (cc.unsat || (not (allowed_feasible cc cc.allowed) || fixed_disallowed cc (fixed_value cc))) cc

  -- `resolve_deferred`.
  abbrev pub resolve_deferred : ColumnConstraints Val → ColumnConstraints Val
  resolve_deferred cc = with_lists (with_excluded cc)

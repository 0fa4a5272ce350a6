-- The laws of the merging at the values of a screen with symbols: whatever keys a row holds, symbols of no pool among them,
-- it passes the screen that the merging returns exactly if it passes the one sent. Screens as expressions; for their bytes see
-- crate symbol_demand.
use mathlib.Core.Path.{◌≡◌, refl, sym, ◌∙◌, ap}
use mathlib.Core.Bool.{Bool, true, false, cond}
use mathlib.Core.List.{List, [], ◌∷◌, ◌++◌}
use mathlib.Core.Logic.{◌↔◌}
use mathlib.Core.Option.{Option, some}
use Prim.Native.Nat.{ℕ, ◌<◌}
use lib.Dec.{ltb}
use lib.IntN.{ℤ, pos, suc_ℤ, pred_ℤ, suc-pred}
use mir.Syntax.{w64}
use mir.Val.{to_z}
use borrow.Author.Tests.{ltb-true}
use Rattle.records.specs.Record.{node, record_at}
use Rattle.records.specs.declared.record.Record.{Record}
use Rattle.records.specs.declared.record.Record.TheVariants as kind
use Rattle.record_check.specs.Fit.{reach_ok_in}
use Rattle.checking.specs.Checked.{CheckedIn}
use Rattle.three_valued.specs.Logic.{is_true}
use Rattle.truth.specs.Halves.{ord_z, less_z, twice}
use Rattle.truth.specs.AExpr.{AExpr, Missing, Inputs, WF, map_aexpr}
use Rattle.truth.specs.FromBytes.{truth_keys}
use Rattle.truth.proofs.HalfPoints as half
use Rattle.truth.proofs.Orders.{total-z}
use Rattle.symbols.specs.Symbol.{symbol_number}
use Rattle.constraints.specs.Scalars.{Scalars}
use Rattle.constraints.specs.Values.{is_empty}
use Rattle.constraints.specs.Comparisons.{ColumnComparison}
use Rattle.merge.specs.Minterms.{minterms}
use Rattle.merge.specs.Classify.{read_conjuncts}
use Rattle.merge.specs.Emit.{Outcome, Unchanged, NothingPasses, Rebuilt, merge_filter_constraints}
use Rattle.merge.specs.Rebuild.{comparison_nodes}
use Rattle.merge.proofs.Accepted.{binary-ind, one, two, three}
use Rattle.merge.proofs.Witness.{HalfPoints}
use Rattle.merge.proofs.Compared.{full-right, rebuilt-compares}
use Rattle.merge.proofs.Returned.{returned, passes, NotEmpty, same-passes}
use Rattle.symbol_screens.specs.Held.{Held, Number, Symbol, held, key_in, holding}
use Rattle.symbol_screens.specs.Reading.{held_aexpr, held_at}
use Rattle.symbol_screens.specs.Rows.{truth_with}

-- ---- The values, spelled out.
abbrev pub values : List ℕ → Scalars ℤ Held
values text =
    record {
      key = key_in text;
      order = ord_z;
      total = total-z;
      opened = λ bound excluded. excluded;
      opened-key = λ bound excluded. refl;
    }

pub holding-is : (text : List ℕ) → holding text ≡ values text
unfolding holding
holding-is text = refl

-- ---- Next to the key of a number or a symbol there is the key of neither.
whole : List ℕ → Held → ℤ
whole text (Number v) = to_z w64 v
whole text (Symbol v) = pos (symbol_number text v)

whole-key : (text : List ℕ) (v : Held) → key_in text v ≡ twice (whole text v)
unfolding whole
whole-key text (Number v) = refl
whole-key text (Symbol v) = refl

pub halves : (text : List ℕ) → HalfPoints (values text)
halves text =
    record {
      hi = suc_ℤ;
      lo = pred_ℤ;
      nil = pos 1;
      hi_above = λ v. half.suc-above (key_in text v);
      hi_below = below;
      lo_below = λ v. half.pred_below (key_in text v);
      hi_off = off;
      lo_off = λ v w e. off w v (sym (sym (suc-pred (key_in text v)) ∙ ap suc_ℤ e));
      nil_off = λ w e. half.one-half_is_no_whole (whole text w) (e ∙ whole-key text w);
    }
  where
    below : (v w : Held) → less_z (key_in text v) (key_in text w) → less_z (suc_ℤ (key_in text v)) (key_in text w)
    below v w h = rw (whole-key text v, whole-key text w) (half.half_below (whole text v) (whole text w)
        (rw (whole-key text v, whole-key text w) at h))

    off : (v w : Held) → suc_ℤ (key_in text v) ≡ key_in text w → ⊥
    off v w e = half.half_is_no_whole (whole text v) (whole text w) (ap suc_ℤ (sym (whole-key text v)) ∙ e ∙ whole-key text w)

-- ---- The inputs of a checked record are below it.
module _ (text₀ : ℕ) (t p : List ℕ) (n : ℕ) where
  inputs-of : (r : Record) → reach_ok_in text₀ t p r (node n) ≡ true → Inputs n (held_aexpr p r)
  unfolding reach_ok_in
  inputs-of kind.Invalid h = tt
  inputs-of (kind.Column c) h = tt
  inputs-of (kind.Literal ty v) h = tt
  inputs-of (kind.Null ty) h = tt
  inputs-of (kind.Binary o x y) h =
      let b = two n x.0 y.0 h in
      binary-ind (λ e. Inputs n (map_aexpr (held 0) e)) x.0 y.0 tt (b, b) o (λ e c. b) (λ e. (b, b)) (λ e d q. b)
  inputs-of (kind.Not x) h = one n x.0 h
  inputs-of (kind.IsNull x) h = one n x.0 h
  inputs-of (kind.IsNotNull x) h = one n x.0 h
  inputs-of (kind.IsBetween k x low high) h = three n x.0 low.0 high.0 h
  inputs-of (kind.List ty marked start count) h = tt
  inputs-of (kind.IsIn equal x list) h = two n x.0 list.0 h

module _ (text₀ : ℕ) (t rs p : List ℕ) (used root : ℕ) (ok : CheckedIn text₀ t rs p used root) where
  pub held-falls : WF (held_at rs p used)
  unfolding held_at
  held-falls n = go (ltb n used) refl
    where
      go : (b : Bool) → ltb n used ≡ b → Inputs n (cond b (held_aexpr p (record_at rs (node n))) Missing)
      go true e = inputs-of text₀ t p n (record_at rs (node n)) (ok.records n (ltb-true n used e)).reach
      go false e = tt

  -- ---- Rows keep their fate.
  module _ (text : List ℕ) where
    abbrev pub merged : Outcome Held
    merged = merge_filter_constraints (values text) (read_conjuncts (held_at rs p used) root)

    nodes_full : (cs : List (ℕ × ColumnComparison Held)) → is_empty cs ≡ false → is_empty (comparison_nodes used cs) ≡ false
    nodes_full [] h = h
    nodes_full (x ∷ cs) h = refl

    -- a rebuilt chain has a conjunct
    pub never_empty : (x : Outcome Held) → merged ≡ x →
        NotEmpty (values text) (halves text) truth_keys (Number 0) refl (held_at rs p used) held-falls used x
    never_empty Unchanged e = tt
    never_empty NothingPasses e = tt
    never_empty (Rebuilt ns cs) e =
        full-right ns (comparison_nodes used cs) (nodes_full cs
        (rebuilt-compares (values text) (held_at rs p used) (minterms (held_at rs p used) root) ns cs e))

    pub rows-kept : (row : ℕ → Option ℤ) →
        (is_true (truth_with text (held_at rs p used) row root) ≡ true) ↔
        (passes (values text) (halves text) truth_keys (Number 0) refl (held_at rs p used) held-falls used row
        (returned (values text) (halves text) truth_keys (Number 0) refl (held_at rs p used) held-falls used root merged) ≡ true)
    rows-kept row =
        same-passes (values text) (halves text) truth_keys (Number 0) refl (held_at rs p used) held-falls used row root
        ok.root-used (never_empty merged refl)

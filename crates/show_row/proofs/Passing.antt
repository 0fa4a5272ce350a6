-- The row shown is the witness of the completeness theorem, and passes.
use mathlib.Core.Path.{◌≡◌, refl, sym, ◌∙◌, ap}
use mathlib.Core.Bool.{Bool, true, false, not, cond, ◌||◌}
use mathlib.Core.List.{List, [], ◌∷◌, map}
use mathlib.Core.Option.{none, some}
use Prim.Native.Nat.{ℕ, zero, suc}
use lib.ListN.{length}
use Rattle.checking.specs.Checked.{Checked}
use Rattle.truth.specs.AExpr.{AExpr}
use Rattle.truth.specs.FromBytes.{aexpr_at, truth_keys}
use Rattle.constraints.specs.Scalars.{Scalars}
use Rattle.constraints.specs.Column.{ColumnConstraints}
use Rattle.constraints.specs.declared.column.Nullability.{Nullability}
use Rattle.constraints.specs.declared.column.Nullability.TheVariants.{NonNull, Null, Unconstrained}
use Rattle.constraints.specs.Column.{is_null_required}
use Rattle.constraints.specs.Payload as values
use Rattle.constraints.proofs.Merges.{or_no}
use Rattle.constraints.proofs.Resolved.{resolve_consistent}
use Rattle.merge.specs.Classify.{classify}
use Rattle.merge.specs.Collect.{Collected, Table, begin, is_in}
use Rattle.merge.specs.Emit.{any_unsat, propagated, resolved}
use Rattle.merge.specs.Propagate.{pass, pass_any, propagate}
use Rattle.merge.specs.Minterms.{minterms}
use Rattle.merge.specs.Plain.{plain_conjuncts}
use Rattle.merge.specs.Demand.{Row, passes}
use Rattle.merge.proofs.Chains.{holds_at, minterms-true}
use Rattle.merge.proofs.Complete.{AllConsistent, collect-consistent, pass-consistent, witness_holds, witness_row}
use Rattle.merge.proofs.Demand.{payload, halves}
use Rattle.merge.proofs.PlainForms.{plain-same}
use Rattle.merge.proofs.Sound.{is_in-in, unsat-none}
use Rattle.merge.proofs.Witness.{HalfPoints, row_value, value_by, witness}
use Rattle.judge_lines.specs.Lines.{nothing_passes}
use Rattle.judge_lines.proofs.Ends.{nothing-dead}
use Rattle.judge_lines.proofs.Rows.{good, hold, exact}
use Rattle.row_shown.specs.Shown.{exactly, value_place, null_shown, place_shown}
use Rattle.row_shown.proofs.Witness.{key_of, value-key}
use Rattle.show_row.specs.Answer.{collected_of}

module _ {K Val : Type 0} (S : Scalars K Val) (H : HalfPoints S) where
  -- The columns after the passes are consistent.
  propagate-consistent : (n : ℕ) (es : List (ℕ × ℕ × ℕ)) (t : Table Val) → AllConsistent S H t
      → AllConsistent S H (propagate S n es t)
  propagate-consistent zero es t h = h
  propagate-consistent (suc n) es t h =
      go (pass_any S es t) (pass-consistent S H es t h) (propagate-consistent n es (pass S es t) (pass-consistent S H es t h))
    where
      go : (b : Bool) → AllConsistent S H (pass S es t) → AllConsistent S H (propagate S n es (pass S es t))
          → AllConsistent S H (cond b (propagate S n es (pass S es t)) (pass S es t))
      go true h g = g
      go false h g = h

module _ (t rs p : List ℕ) (used root : ℕ) (ok : Checked t rs p used root) where
  abbrev R : ℕ → AExpr ℕ
  R n = aexpr_at rs p used n

  abbrev M : Row → ℕ → Bool
  M row n = holds_at payload truth_keys R (good t rs p used root ok) row n

  module _ (plain : plain_conjuncts R (minterms R root) ≡ true) (lives : nothing_passes R (minterms R root) ≡ false) where
    abbrev s : Collected ℕ
    s = collected_of R (minterms R root)

    -- The witness row.
    abbrev pub witnessed : Row
    witnessed c = witness_row payload halves s c

    live : (s.unsat || any_unsat s.order (resolved payload s)) ≡ false
    unfolding values.payload
    live = sym (nothing-dead payload s) ∙ lives

    pub witness_passes : passes rs p used root witnessed ≡ true
    unfolding values.payload
    witness_passes =
        sym (minterms-true payload truth_keys R (good t rs p used root ok) witnessed root)
        ∙ hold t rs p used root ok witnessed (minterms R root)
        (witness_holds payload halves M (map (classify R) (minterms R root))
        (λ ρ. exact t rs p used root ok ρ (minterms R root) (sym (plain-same R (minterms R root)) ∙ plain)) live)

    -- A column that entered has bounds that do not cross.
    straight : (c : ℕ) → is_in c s.order ≡ true
        → key_of (value_place (resolved payload s c)) ≡ witness payload halves (resolved payload s c)
    unfolding values.payload
    straight c e =
        value-key (resolved payload s c)
        (resolve_consistent payload (propagated payload s c)
        (propagate-consistent payload halves (length s.order) s.edges s.constraints
        (collect-consistent payload halves (map (classify R) (minterms R root)) begin (λ c h. refl)) c)
        (unsat-none payload witnessed (M witnessed) s.order (resolved payload s)
        (or_no s.unsat (any_unsat s.order (resolved payload s)) live).1 c (is_in-in payload c s.order e)))

    -- The row shown is it.
    pub shown-is : (c : ℕ) → cond (null_shown s c) none (some (key_of (place_shown s c))) ≡ witnessed c
    unfolding values.payload
    shown-is c = go (is_in c s.order) (resolved payload s c).nullability (straight c)
      where
        q : ColumnConstraints ℕ
        q = resolved payload s c

        go : (b : Bool) (n : Nullability)
            → (b ≡ true → key_of (value_place (resolved payload s c)) ≡ witness payload halves (resolved payload s c))
            → cond (not b || is_null_required n) none (some (key_of (cond (not b || is_null_required n) (exactly 0)
            (value_place (resolved payload s c)))))
            ≡ cond b (value_by payload halves n (witness payload halves (resolved payload s c))) none
        go true Unconstrained h = ap some (h refl)
        go true NonNull h = ap some (h refl)
        go true Null h = refl
        go false n h = refl

    -- A column that did not enter is null.
    pub unread_null : (c : ℕ) → is_in c s.order ≡ false → witnessed c ≡ none
    unfolding values.payload
    unread_null c e = ap (λ b. cond b (row_value payload halves (resolved payload s c)) none) e

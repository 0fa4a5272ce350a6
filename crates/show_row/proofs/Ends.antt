-- What the ends of the merging say of the answer, and what is written.
use mathlib.Core.Path.{◌≡◌, refl, sym, ◌∙◌, ap, subst, fun_ext}
use mathlib.Core.Bool.{Bool, true, false, not, cond, ◌||◌}
use mathlib.Core.List.{List, map}
use Prim.Native.Nat.{ℕ, ◌<◌, ◌^◌}
use Rattle.truth.specs.AExpr.{AExpr}
use Rattle.constraints.specs.Column as q
use Rattle.constraints.specs.Column.{is_null_required}
use Rattle.constraints.specs.Lined.{Lined, lined}
use Rattle.constraints.specs.Payload.{payload}
use Rattle.constraints.specs.Resolve.{resolve_deferred}
use Rattle.column_constraints.specs.Abstraction.{Conjuncts}
use Rattle.column_constraints.specs.declared.column.ColumnConstraints.{ColumnConstraints}
use Rattle.merge.specs.Classify.{classify}
use Rattle.merge.specs.Collect.{Collected, begin, collect, is_in}
use Rattle.merge.specs.Emit.{propagated, resolved}
use Rattle.merge.specs.Lines.{lines_from}
use Rattle.merge.specs.Propagate.{propagate}
use Rattle.merge.specs.Write.{splice}
use Rattle.merge.proofs.Carried.{map_collected, carried_collect, carried_resolved, lines-back}
use Rattle.masks.specs.Masks.{mask_to}
use Rattle.read_operands.specs.Walk.{first_of}
use Rattle.column_table.specs.State.{ColumnTable, Shows, edges_of, Collects, collect_to, Resolved, resolved_in}
use Rattle.judge_lines.specs.Lines.{nothing_passes}
use Rattle.show_row.proofs.Nothing.{resolved-all, nothing-resolved}
use Rattle.row_shown.specs.Shown.{exactly, value_place, null_in, place_in, place_shown, places_bytes}
use Rattle.row_shown.specs.Bits.{bits_column}
use Rattle.show_row.specs.ShowAnswer as show
use Rattle.show_row.specs.Answer.{collected_of, shown_nulls, shown_bytes, row_answer}
use Rattle.write_places.specs.Written.{RowWritten}

pub no_row : (R : ℕ → AExpr ℕ) (nodes : List ℕ) (k : ℕ) → true ≡ nothing_passes R nodes → show.NoRow ≡ row_answer R nodes k
no_row R nodes k e = ap (λ b. cond b show.NoRow (show.Row (shown_nulls R nodes k))) e

-- The columns that did not enter are not looked at.
module _ (l : List ℕ) (P : ColumnTable) where
  abbrev all : ℕ → q.ColumnConstraints ℕ
  all c = bits_column (resolve_deferred lined (P c))

  abbrev some_of : ℕ → q.ColumnConstraints ℕ
  some_of c = bits_column (resolved_in l P c)

  null_same : null_in l some_of ≡ null_in l all
  null_same = fun_ext (λ c. go c (is_in c l))
    where
      go : (c : ℕ) (b : Bool)
          → (not b || is_null_required (bits_column (cond b (resolve_deferred lined (P c)) (P c))).nullability)
          ≡ (not b || is_null_required (all c).nullability)
      go c true = refl
      go c false = refl

  place_same : place_in l some_of ≡ place_in l all
  place_same = fun_ext (λ c. go c (is_in c l))
    where
      go : (c : ℕ) (b : Bool)
          → cond (not b || is_null_required (bits_column (cond b (resolve_deferred lined (P c)) (P c))).nullability) (exactly 0)
          (value_place (bits_column (cond b (resolve_deferred lined (P c)) (P c))))
          ≡ cond (not b || is_null_required (all c).nullability) (exactly 0) (value_place (all c))
      go c true = refl
      go c false = refl

  written_all : (k : ℕ) (old row : List ℕ) (nulls : ℕ) → RowWritten l some_of k old row nulls → RowWritten l all k old row nulls
  written_all k old row nulls w =
      record {
        marks = w.marks ∙ ap (λ f. mask_to f k) null_same;
        bytes = w.bytes ∙ ap (λ f. splice old 0 (places_bytes f k)) place_same;
        low = λ c h. subst (λ f. (f c).whole < 2 ^ 64) place_same (w.low c h);
      }

-- What was collected, without lines.
collected-bits : (R : ℕ → AExpr ℕ) (nodes : List ℕ) (n : ℕ)
    → map_collected (λ (v : Lined). v.bits) (collect_to R nodes n) ≡ collected_of R (first_of nodes n)
unfolding collect_to
collected-bits R nodes n =
    carried_collect (lines_from 0 (map (classify R) (first_of nodes n)))
    ∙ ap (λ l. collect payload l begin) (lines-back 0 (map (classify R) (first_of nodes n)))

module _ (R : ℕ → AExpr ℕ) (nodes : List ℕ) (n : ℕ) (t : Conjuncts) (table₁ table₂ : List ColumnConstraints)
    (ms₁ ms₂ : List ℕ) (seen : List Bool) (order : List ℕ) (columns : ℕ) (kept₁ : List ℕ) (keeps₁ : ℕ)
    (lefts rights equals : List ℕ) (edges bounds : ℕ) (normalized stop : Bool)
    (C : Collects t table₁ ms₁ seen order columns kept₁ keeps₁ lefts rights equals edges bounds normalized stop
    (collect_to R nodes n))
    (live : stop ≡ false) (unsat : Bool) (total : ℕ)
    (resolving : (T : ColumnTable) (equals : List ℕ) → Shows t table₁ ms₁ T
    → Resolved t table₂ ms₂ (first_of order columns) false unsat total
    (propagate lined columns (edges_of lefts rights equals edges) T)) where
  answered : unsat ≡ nothing_passes R (first_of nodes n)
  answered =
      nothing-resolved R nodes n t table₁ table₂ ms₁ ms₂ seen order columns kept₁ keeps₁ lefts rights equals edges bounds
      normalized stop C live unsat total resolving

  pub row-dead : unsat ≡ true → (k : ℕ) → show.NoRow ≡ row_answer R (first_of nodes n) k
  row-dead h k = no_row R (first_of nodes n) k (sym h ∙ answered)

  s : Collected Lined
  s = collect_to R nodes n

  all_resolved : Resolved t table₂ ms₂ (first_of order columns) false unsat total (propagated lined (collect_to R nodes n))
  all_resolved =
      resolved-all R nodes n t table₁ table₂ ms₁ ms₂ seen order columns kept₁ keeps₁ lefts rights equals edges bounds
      normalized stop C live unsat total resolving

  module _ (k : ℕ) (old row : List ℕ) (nulls : ℕ)
      (writes : (T : ColumnTable) → Shows t table₂ ms₂ T
      → RowWritten (first_of order columns) (λ c. bits_column (T c)) k old row nulls) where
    abbrev Whole : Collected ℕ → Type 0
    Whole s = RowWritten s.order (resolved payload s) k old row nulls

    whole : Whole (collected_of R (first_of nodes n))
    whole =
        subst Whole (collected-bits R nodes n)
        (subst (λ T. RowWritten (collect_to R nodes n).order T k old row nulls) (carried_resolved (collect_to R nodes n))
        (subst (λ l. RowWritten l (λ c. bits_column (resolved lined (collect_to R nodes n) c)) k old row nulls)
        C.entered.listed
        (written_all (first_of order columns) (propagated lined (collect_to R nodes n)) k old row nulls
        (writes (resolved_in (first_of order columns) (propagated lined (collect_to R nodes n)))
        all_resolved.shows))))

    pub row-answer : unsat ≡ false → show.Row nulls ≡ row_answer R (first_of nodes n) k
    unfolding shown_nulls
    row-answer h =
        ap show.Row whole.marks
        ∙ ap (λ b. cond b show.NoRow (show.Row (shown_nulls R (first_of nodes n) k))) (sym h ∙ answered)

    pub row-bytes : row ≡ splice old 0 (shown_bytes R (first_of nodes n) k)
    unfolding shown_bytes
    row-bytes = whole.bytes

    pub row_low : (c : ℕ) → c < k → (place_shown (collected_of R (first_of nodes n)) c).whole < 2 ^ 64
    row_low = whole.low

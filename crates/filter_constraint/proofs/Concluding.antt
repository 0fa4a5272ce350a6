-- What the ends of the loops give: the outcome of the merging, and each of its answers.
use Rattle.merge.specs.Classify.{classify}
use mathlib.Core.Path.{◌≡◌, refl, sym, ◌∙◌, ap, subst}
use mathlib.Core.Bool.{Bool, true, false, not, cond, ◌&&◌, ◌||◌, or-false, true≢false}
use mathlib.Core.List.{List, [], ◌∷◌, ◌++◌, map}
use Prim.Native.Nat.{ℕ, zero, suc, ◌+◌, ◌-◌, ◌*◌, ◌<◌, ◌≤◌, ◌%◌}
use native.Mathlib.Omega.{arith}
use lib.ListN.{length, get_or}
use lib.Dec.{ltb}
use borrow.Author.Tests.{not-true, not-false}
use Rattle.truth.specs.AExpr.{AExpr}
use Rattle.constraints.specs.Column as q
use Rattle.constraints.specs.Comparisons.{ColumnComparison, collect_column_comparisons}
use Rattle.constraints.specs.Payload.{payload}
use Rattle.constraints.specs.Lined.{Lined, lined}
use Rattle.constraints.specs.Resolve.{resolve_deferred}
use Rattle.constraints.specs.Values.{is_empty}
use Rattle.column_constraints.specs.Abstraction.{Conjuncts, column_of, Fine}
use Rattle.column_constraints.specs.declared.column.ColumnConstraints.{ColumnConstraints}
use Rattle.merge.specs.Collect.{Collected, is_in}
use Rattle.merge.specs.Propagate.{propagate, propagate_emitted}
use Rattle.merge.specs.Emit.{Outcome, Unchanged, NothingPasses, Rebuilt, of_column, kept_equalities, dropped_equality}
use Rattle.merge.specs.Emit.{any_unsat, comparisons, propagated, resolved, rewrites, rebuilt, conclude, merge_filter_constraints}
use Rattle.merge.specs.Passes.{passes_made, passes_of, merge_passes}
use Rattle.merge.specs.Rebuild.{comparison_nodes}
use Rattle.merge.specs.Write.{write_comparisons, outcome_bytes}
use Rattle.merge.specs.Rewrite.{written_if}
use Rattle.merge.specs.declared.answer.RewriteAnswer.{RewriteAnswer}
use Rattle.merge.specs.declared.answer.RewriteAnswer.TheVariants as answer
use Rattle.read_operands.specs.Walk.{first_of}
use Rattle.rewrite.specs.Written.{chain_at, ands_to}
use Rattle.reckoning.specs.Reckon.{reckoned, reckoned_answer}
use Rattle.reckoning.specs.Rewritten.{is_rewritten}
use Rattle.column_table.specs.Rows.{stride, row_of}
use Rattle.column_table.specs.State.{column_at, ColumnTable, Shows, Entered, Keeps, Edges, edges_of, Collects, collect_to}
use Rattle.column_table.specs.Words.{past_column}
use Rattle.column_table.specs.State.{Spread, Kept, resolve_all, resolved_in, Resolved, shown, bits_of, Written}
use Rattle.reckoning.proofs.Answers.{chain-written, chain-unwritten}
use Rattle.merge.specs.Lines.{map_outcome}
use Rattle.merge.proofs.Compared.{rebuilt-compares}
use Rattle.merge.proofs.Carried.{carried, carried_passes}
use Rattle.filter_constraint.specs.Concluded.{lined_to, Concluded}
use Rattle.read_operands.proofs.Walks.{first-length}
use Rattle.column_table.proofs.Arrays.{low-slot}
use Rattle.reckoning.proofs.Chains.{chain-bytes, chain-not_empty}
use Rattle.reckoning.proofs.Reckons.{ChainRoom, rewritten_room}
use Rattle.column_table.proofs.Resolving.{comparisons-more, comparisons-upto, comparisons-agree, in_first, same-comparisons}
use Rattle.column_table.proofs.Resolving.{bits-length}

-- The outcome for the first n nodes of an array.
abbrev pub outcome_to : (ℕ → AExpr ℕ) → List ℕ → ℕ → Outcome ℕ
outcome_to R nodes n = merge_filter_constraints payload (map (classify R) (first_of nodes n))

-- What a function that merges them promises.
abbrev pub Answered : List ℕ → List ℕ → List ℕ → ℕ → Outcome ℕ → RewriteAnswer → List ℕ → Type 0
Answered t rs trees used o r out =
    (r ≡ reckoned_answer (length rs) trees used o) × (out ≡ written_if r rs (outcome_bytes t rs used o))

pub answered-as : (t rs trees : List ℕ) (used : ℕ) (o o' : Outcome ℕ) (r : RewriteAnswer) (out : List ℕ) → o ≡ o'
    → Answered t rs trees used o' r out → Answered t rs trees used o r out
answered-as t rs trees used o o' r out e h = subst (λ x. Answered t rs trees used x r out) (sym e) h

-- The passes of the first n nodes.
abbrev pub passes_to : (ℕ → AExpr ℕ) → List ℕ → ℕ → ℕ
passes_to R nodes n = merge_passes payload (map (classify R) (first_of nodes n))

-- ---- The lines change neither the outcome nor the passes.
abbrev pub without_lines : Outcome Lined → Outcome ℕ
without_lines o = map_outcome (λ (v : Lined). v.bits) o

pub passes-is : (R : ℕ → AExpr ℕ) (nodes : List ℕ) (n : ℕ) → passes_of lined (collect_to R nodes n) ≡ passes_to R nodes n
unfolding collect_to
passes-is R nodes n = carried_passes (map (classify R) (first_of nodes n))

pub outcome_is : (R : ℕ → AExpr ℕ) (nodes : List ℕ) (n : ℕ)
    → outcome_to R nodes n ≡ without_lines (conclude lined (collect_to R nodes n))
unfolding collect_to
outcome_is R nodes n = sym (carried (map (classify R) (first_of nodes n)))

outcome_by : (s : Collected Lined) (x y : Bool) → (s.unsat || any_unsat s.order (resolved lined s)) ≡ x
    → rewrites lined s ≡ y → conclude lined s ≡ cond x NothingPasses (cond y (rebuilt lined s) Unchanged)
outcome_by s x y ex ey =
    ap (λ b. cond b NothingPasses (cond (rewrites lined s) (rebuilt lined s) Unchanged)) ex ∙
    ap (λ b. cond x NothingPasses (cond b (rebuilt lined s) Unchanged)) ey

-- The first nodes' outcome, with lines.
pub lined-is : (R : ℕ → AExpr ℕ) (nodes : List ℕ) (n : ℕ) → lined_to R nodes n ≡ conclude lined (collect_to R nodes n)
unfolding collect_to
lined-is R nodes n = refl

pub without-lines : (R : ℕ → AExpr ℕ) (nodes : List ℕ) (n : ℕ) (o : Outcome Lined) → lined_to R nodes n ≡ o →
    outcome_to R nodes n ≡ without_lines o
without-lines R nodes n o e = outcome_is R nodes n ∙ ap without_lines (sym (lined-is R nodes n) ∙ e)

stopped-lined : (R : ℕ → AExpr ℕ) (nodes : List ℕ) (n : ℕ) (b : Bool) → b ≡ (collect_to R nodes n).unsat → b ≡ true
    → lined_to R nodes n ≡ NothingPasses
stopped-lined R nodes n b e h = lined-is R nodes n ∙ stopped (collect_to R nodes n) (sym e ∙ h)
  where
    stopped : (s : Collected Lined) → s.unsat ≡ true → conclude lined s ≡ NothingPasses
    stopped s h =
        outcome_by s true (rewrites lined s) (ap (λ b. b || any_unsat s.order (resolved lined s)) h) refl

pub conclude-stopped : (R : ℕ → AExpr ℕ) (nodes : List ℕ) (n : ℕ) (b : Bool) → b ≡ (collect_to R nodes n).unsat → b ≡ true
    → outcome_to R nodes n ≡ NothingPasses
conclude-stopped R nodes n b e h = without-lines R nodes n NothingPasses (stopped-lined R nodes n b e h)

-- Reading stopped, so the slices say nothing more.
pub concluded-stopped : (R : ℕ → AExpr ℕ) (nodes : List ℕ) (n : ℕ) (b : Bool) (T : ColumnTable) (order kept : List ℕ)
    (columns keeps total : ℕ) → b ≡ (collect_to R nodes n).unsat → b ≡ true
    → Concluded (lined_to R nodes n) T order kept true false columns keeps total
concluded-stopped R nodes n b T order kept columns keeps total e h =
    record {
      stops = λ u. stopped-lined R nodes n b e h;
      stays = λ u. absurd (true≢false u);
      rebuilds = λ u. absurd (true≢false u);
      counted = λ u. absurd (true≢false u);
    }

pub passes-stopped : (R : ℕ → AExpr ℕ) (nodes : List ℕ) (n : ℕ) (b : Bool) → b ≡ (collect_to R nodes n).unsat → b ≡ true
    → 0 ≡ passes_to R nodes n
passes-stopped R nodes n b e h = stopped (collect_to R nodes n) (sym e ∙ h) ∙ passes-is R nodes n
  where
    stopped : (s : Collected Lined) → s.unsat ≡ true → 0 ≡ passes_of lined s
    stopped s h = sym (ap (λ b. cond b 0 (passes_made lined (length s.order) s.edges s.constraints)) h)

-- ---- The ends of the loops behind collecting.
module _ (t : Conjuncts) (table₁ table₂ table₃ : List ColumnConstraints) (ms₁ ms₂ ms₃ : List ℕ) (seen : List Bool) (order : List ℕ)
    (columns : ℕ) (kept₁ : List ℕ) (keeps₁ : ℕ) (kept : List ℕ) (keeps : ℕ) (lefts rights equals : List ℕ)
    (edges bounds : ℕ) (normalized stop : Bool) (s : Collected Lined)
    (C : Collects t table₁ ms₁ seen order columns kept₁ keeps₁ lefts rights equals edges bounds normalized stop s)
    (live : stop ≡ false) (emitted : Bool) (passes : ℕ)
    (spread : (T : ColumnTable) (equals : List ℕ) → Shows t table₁ ms₁ T
    → Spread t table₂ ms₂ (edges_of lefts rights equals edges) columns emitted passes T)
    (dropped : Bool)
    (keeping : (u : Conjuncts) (m : List ℕ) (T : ColumnTable) (l rights : List ℕ) → Shows u table₂ m T → Keeps kept₁ keeps₁ l
    → Kept T (edges_of lefts rights equals edges) kept keeps dropped l)
    (unsat : Bool) (total : ℕ)
    (resolving : (T : ColumnTable) → Shows t table₂ ms₂ T → Resolved t table₃ ms₃ (first_of order columns) false unsat total T) where
  columns-are : columns ≡ length s.order
  columns-are = sym (first-length order columns) ∙ ap length C.entered.listed

  at-end : Spread t table₂ ms₂ (edges_of lefts rights equals edges) columns emitted passes s.constraints
  at-end = spread s.constraints equals C.shows

  spread_shown : Shows t table₂ ms₂ (propagated lined s)
  spread_shown =
      subst (Shows t table₂ ms₂)
      (ap (λ k. propagate lined k (edges_of lefts rights equals edges) s.constraints) columns-are
      ∙ ap (λ es. propagate lined (length s.order) es s.constraints) C.linked.listed) at-end.shows

  spread_emitted : emitted ≡ propagate_emitted lined (length s.order) s.edges s.constraints
  spread_emitted =
      at-end.emits
      ∙ ap (λ k. propagate_emitted lined k (edges_of lefts rights equals edges) s.constraints) columns-are
      ∙ ap (λ es. propagate_emitted lined (length s.order) es s.constraints) C.linked.listed

  pub passes-are : passes ≡ passes_of lined s
  passes-are =
      at-end.counts
      ∙ ap (λ k. passes_made lined k (edges_of lefts rights equals edges) s.constraints) columns-are
      ∙ ap (λ es. passes_made lined (length s.order) es s.constraints) C.linked.listed
      ∙ ap (λ b. cond b 0 (passes_made lined (length s.order) s.edges s.constraints)) (sym live ∙ C.stops)

  K : Kept (propagated lined s) (edges_of lefts rights equals edges) kept keeps dropped s.opaque
  K = keeping t ms₂ (propagated lined s) s.opaque rights spread_shown C.keeping

  Q : Resolved t table₃ ms₃ (first_of order columns) false unsat total (propagated lined s)
  Q = resolving (propagated lined s) spread_shown

  edges_are : edges_of lefts rights equals edges ≡ s.edges
  edges_are = C.linked.listed

  order_is : first_of order columns ≡ s.order
  order_is = C.entered.listed

  kept-are : first_of kept keeps ≡ s.opaque ++ kept_equalities lined (propagated lined s) s.edges
  kept-are = K.keeping.listed ∙ ap (λ es. s.opaque ++ kept_equalities lined (propagated lined s) es) edges_are

  dropped_is : dropped ≡ dropped_equality lined (propagated lined s) s.edges
  dropped_is = K.drops ∙ ap (dropped_equality lined (propagated lined s)) edges_are

  unsat-is : unsat ≡ (s.unsat || any_unsat s.order (resolved lined s))
  unsat-is =
      Q.stops ∙ ap (λ l. any_unsat l (resolved lined s)) order_is
      ∙ ap (λ b. b || any_unsat s.order (resolved lined s)) (sym live ∙ C.stops)

  -- what the array of resolved columns is written out as
  written-comparisons :
      comparisons lined (first_of order columns) (shown t table₃ ms₃) ≡
      comparisons lined s.order (resolved lined s)
  written-comparisons =
      comparisons-agree order (shown t table₃ ms₃) (resolved lined s) columns
      (λ w h. Q.shows.column (get_or order w 0) (C.entered.low w h)
      ∙ ap (λ b. cond b (resolved lined s (get_or order w 0)) (propagated lined s (get_or order w 0)))
      (in_first order w columns h))
      ∙ ap (λ l. comparisons lined l (resolved lined s)) C.entered.listed

  resolved-count : total ≡ length (comparisons lined s.order (resolved lined s))
  resolved-count = Q.counted ∙ ap (λ l. length (comparisons lined l (resolved lined s))) order_is

  rewrites-is : (ltb total bounds || (normalized || (emitted || dropped))) ≡ rewrites lined s
  rewrites-is =
      let n = length (comparisons lined s.order (resolved lined s)) in
      ap (λ k. ltb k bounds || (normalized || (emitted || dropped))) resolved-count
      ∙ ap (λ k. ltb n k || (normalized || (emitted || dropped))) C.bounded
      ∙ ap (λ b. ltb n s.bound_conjuncts || (b || (emitted || dropped))) C.turned
      ∙ ap (λ b. ltb n s.bound_conjuncts || (s.normalized || (b || dropped))) spread_emitted
      ∙ ap (λ b. ltb n s.bound_conjuncts
      || (s.normalized || (propagate_emitted lined (length s.order) s.edges s.constraints || b))) dropped_is

  pub concluded : (o : Outcome Lined) → o ≡ conclude lined s →
      Concluded o (shown t table₃ ms₃) order kept unsat (not (ltb total bounds || (normalized || (emitted || dropped))))
      columns keeps total
  concluded o e =
      record {
        stops = λ h. e ∙ outcome_by s true (rewrites lined s) (sym unsat-is ∙ h) refl;
        stays = λ h r. e ∙ outcome_by s false false (sym unsat-is ∙ h)
            (sym rewrites-is ∙ not-true (ltb total bounds || (normalized || (emitted || dropped))) r);
        rebuilds = λ h r. e ∙ outcome_by s false true (sym unsat-is ∙ h)
            (sym rewrites-is ∙ not-false (ltb total bounds || (normalized || (emitted || dropped))) r)
            ∙ ap (λ l. Rebuilt l (comparisons lined s.order (resolved lined s))) (sym kept-are)
            ∙ ap (Rebuilt (first_of kept keeps)) (sym written-comparisons);
        counted = λ h. resolved-count ∙ ap length (sym written-comparisons);
      }

-- A rebuilt chain has a comparison.
pub compared-some : (R : ℕ → AExpr ℕ) (nodes : List ℕ) (n : ℕ) (ns : List ℕ) (cs : List (ℕ × ColumnComparison Lined))
    (total : ℕ) → lined_to R nodes n ≡ Rebuilt ns cs → total ≡ length cs → 0 < total
compared-some R nodes n ns cs total e et =
    go (bits_of cs) (rebuilt-compares payload R (first_of nodes n) ns (bits_of cs)
    (without-lines R nodes n (Rebuilt ns cs) e)) (et ∙ sym (bits-length cs))
  where
    go : (l : List (ℕ × ColumnComparison ℕ)) → is_empty l ≡ false → total ≡ length l → 0 < total
    go [] f q = absurd (true≢false f)
    go (x ∷ l) f q = omega (arith, q)

-- ---- The answers for a rebuilt chain: refused, or written.
module _ (t rs trees : List ℕ) (used : ℕ) (kept : List ℕ) (keeps total : ℕ) (cs : List (ℕ × ColumnComparison Lined))
    (r : RewriteAnswer) (er : r ≡ reckoned (length rs) trees used (first_of kept keeps) total) (et : total ≡ length cs)
    (b : Bool) (eb : b ≡ is_rewritten r) where
  count-is : total ≡ length (bits_of cs)
  count-is = et ∙ sym (bits-length cs)

  answer_is : r ≡ reckoned (length rs) trees used (first_of kept keeps) (length (bits_of cs))
  answer_is = er ∙ ap (reckoned (length rs) trees used (first_of kept keeps)) count-is

  flag_is : b ≡ is_rewritten (reckoned (length rs) trees used (first_of kept keeps) total)
  flag_is = eb ∙ ap is_rewritten er

  pub chain-refused : not b ≡ true → Answered t rs trees used (Rebuilt (first_of kept keeps) (bits_of cs)) r rs
  chain-refused h = (
    answer_is,
    sym (ap (λ x. written_if x rs (outcome_bytes t rs used (Rebuilt (first_of kept keeps) (bits_of cs)))) er
        ∙ chain-unwritten (length rs) trees used (first_of kept keeps) total rs
        (outcome_bytes t rs used (Rebuilt (first_of kept keeps) (bits_of cs))) (sym flag_is ∙ not-true b h)),
  )

  module _ (h : not b ≡ false) (some : 0 < total) where
    room : ChainRoom (length rs) trees used (first_of kept keeps) total
    room = rewritten_room (length rs) trees used (first_of kept keeps) total (sym flag_is ∙ not-false b h)

    pub chain-room :
        (used + 3 * total + (keeps + total - 1) ≤ 4096) × (16 * (used + 3 * total + (keeps + total - 1)) ≤ length rs)
        × (0 < keeps + total)
    chain-room = rw (← first-length kept keeps) (room.few, room.lent, full)
      where
        full : 0 < length (first_of kept keeps) + total
        full = omega (arith, some)

    pub chain-answered : (u : ℕ) (written out : List ℕ) → Written t used rs cs u written
        → out ≡ ands_to (chain_at kept keeps used) u (keeps + total - 1) written
        → Answered t rs trees used (Rebuilt (first_of kept keeps) (bits_of cs)) r out
    chain-answered u written out W eo = (
      answer_is,
      eo
          ∙ ap (λ v. ands_to (chain_at kept keeps used) v (keeps + total - 1) written)
          (W.end ∙ ap (λ k. used + 3 * k) (sym (bits-length cs)))
          ∙ ap (ands_to (chain_at kept keeps used) (used + 3 * length (bits_of cs)) (keeps + total - 1)) W.bytes
          ∙ ap (λ m. ands_to (chain_at kept keeps used) (used + 3 * length (bits_of cs)) (keeps + m - 1)
          (write_comparisons t used (bits_of cs) rs)) count-is
          ∙ chain-bytes t rs kept keeps used (first_of kept keeps) (bits_of cs) refl
          (chain-not_empty used (first_of kept keeps) (bits_of cs) full)
          ∙ sym (ap (λ x. written_if x rs (outcome_bytes t rs used (Rebuilt (first_of kept keeps) (bits_of cs)))) er
          ∙ chain-written (length rs) trees used (first_of kept keeps) total rs
          (outcome_bytes t rs used (Rebuilt (first_of kept keeps) (bits_of cs))) (sym flag_is ∙ not-false b h)),
    )
      where
        full : 0 < length (first_of kept keeps) + length (bits_of cs)
        full = rw (← count-is) (omega (arith, some))

-- The comparisons read kinds and values only.
comparisons-same : (s s' : Conjuncts) (table : List ColumnConstraints) (ms : List ℕ) (l : List ℕ) → s.kinds ≡ s'.kinds
    → s.values ≡ s'.values → comparisons lined l (shown s table ms) ≡ comparisons lined l (shown s' table ms)
comparisons-same s s' table ms [] ek ev = refl
comparisons-same s s' table ms (a ∷ l) ek ev =
    ap (λ k. of_column a k ++ comparisons lined l (shown s table ms)) (same-comparisons s s' (column_at table ms a) ek ev)
    ∙ ap (λ k. of_column a (collect_column_comparisons lined (shown s' table ms a)) ++ k) (comparisons-same s s' table ms l ek ev)

-- The count of the comparisons, under any conjuncts of the same kinds and values.
pub total-same : (s s' : Conjuncts) (table : List ColumnConstraints) (ms order : List ℕ) (columns total : ℕ)
    → total ≡ length (comparisons lined (first_of order columns) (shown s table ms))
    → s'.kinds ≡ s.kinds → s'.values ≡ s.values
    → total ≡ length (comparisons lined (first_of order columns) (shown s' table ms))
total-same s s' table ms order columns total et ek ev =
    et ∙ ap length (sym (comparisons-same s' s table ms (first_of order columns) ek ev))

-- What `write_ands` asks.
pub ands_asked :
    (t : List ℕ) (used : ℕ) (cs : List (ℕ × ColumnComparison Lined)) (sent rs : List ℕ) (u total keeps : ℕ)
    → Written t used sent cs u rs → total ≡ length cs
    → (used + 3 * total + (keeps + total - 1) ≤ 4096) × (16 * (used + 3 * total + (keeps + total - 1)) ≤ length sent)
    × (0 < keeps + total)
    → (u + (keeps + total) ≤ 4097) × (16 * (u + (keeps + total)) ≤ length rs + 16)
ands_asked t used cs sent rs u total keeps W et room =
    let e = W.end in
    let z = W.size in
    let x = room.0 in
    let y = room.1 in
    let v = room.2 in
    (omega (arith, e, et, x, v), omega (arith, e, z, et, y, v))

-- What the ends of the merging of a screen with symbols give.
use mathlib.Core.Path.{◌≡◌, refl, sym, ◌∙◌, ap, subst}
use mathlib.Core.Bool.{Bool, true, false, cond, true≢false}
use mathlib.Core.List.{List, [], ◌∷◌, map}
use Prim.Native.Nat.{ℕ, suc, ◌+◌, ◌*◌, ◌≤◌, ◌<◌, min}
use native.Mathlib.Omega.{arith}
use lib.Dec.{ltb}
use lib.IntN.{ℤ}
use lib.ListN.{length, get_or}
use borrow.Author.Tests.{le-ltb}
use Rattle.checking.specs.Check.{check_answer_in}
use Rattle.checking.specs.Checked.{CheckedIn}
use Rattle.checking.specs.Tree.{tree_count}
use Rattle.checking.specs.Answer as check
use Rattle.checking.proofs.Accepted.{checked-in}
use Rattle.truth.specs.Halves.{ord_z, key}
use Rattle.truth.proofs.Agree.{used-same}
use Rattle.truth.proofs.Orders.{total-z}
use Rattle.truth.specs.AExpr.{AExpr}
use Rattle.truth.specs.FromBytes.{aexpr_of, aexpr_at, truth_keys}
use Rattle.constraints.specs.Scalars.{Scalars}
use Rattle.constraints.specs.Payload as values
use Rattle.constraints.specs.Comparisons.{ColumnComparison}
use Rattle.constraints.specs.Lined.{Lined, lined}
use Rattle.constraints.specs.LineKept.{OneOf}
use Rattle.constraints.specs.Values.{is_empty}
use Rattle.column_constraints.specs.Abstraction.{Conjuncts}
use Rattle.column_reasons.specs.ColumnText.{table_text}
use Rattle.column_table.specs.State.{ColumnTable, Shows, Fits, shown}
use Rattle.column_table.specs.State as state
use Rattle.column_table.specs.Words.{columns_of}
use Rattle.column_table.proofs.Resolving.{bits-length}
use Rattle.merge.specs.Classify.{classify, read_conjuncts}
use Rattle.merge.specs.Demand.{is_refused, AreBytes}
use Rattle.merge.specs.Emit.{Outcome, Unchanged, NothingPasses, Rebuilt, comparisons, merge_filter_constraints}
use Rattle.merge.specs.Lines.{map_comparisons, map_outcome, lines_from}
use Rattle.merge.specs.Minterms.{minterms}
use Rattle.merge.specs.Passes.{merge_passes}
use Rattle.merge.specs.Reasons.{shown_in, reason_of}
use Rattle.merge.specs.Rewrite.{outcome_answer, rewrite_if, written_if}
use Rattle.merge.specs.Write.{outcome_bytes}
use Rattle.merge.specs.declared.answer.RewriteAnswer.{RewriteAnswer}
use Rattle.merge.specs.declared.answer.RewriteAnswer.TheVariants as answer
use Rattle.merge.specs.declared.answer.Rewriting.{Rewriting}
use Rattle.merge.proofs.Chains.{Below}
use Rattle.merge.proofs.Classified.{classify-same}
use Rattle.merge.proofs.Demand.{halves}
use Rattle.merge.proofs.Returned.{AnswerLt, answer_lt}
use Rattle.read_operands.specs.Walk.{walked, first_of}
use Rattle.read_operands.proofs.Walks.{first-length, walked-minterms}
use Rattle.reasons.specs.Explained.{refuse_long, text_if, length_if}
use Rattle.reasons.specs.Text.{reasons_text}
use Rattle.reckoning.specs.Reckon.{reckoned, reckoned_answer}
use Rattle.rewrite.specs.Told.{ToldConjunct}
use Rattle.reckoning.proofs.Reckons.{reckoned-rebuilt}
use Rattle.reckoning.specs.Rewritten.{is_rewritten}
use Rattle.filter_constraint.specs.Concluded.{lined_to, Concluded}
use Rattle.filter_constraint.proofs.Concluding.{Answered, answered-as, compared-some, without-lines, total-same}
use Rattle.filter_constraint.specs.Merges.{Counts, Chained, Merges}
use Rattle.filter_constraint.proofs.Converting.{shows-itself}
use Rattle.filter_constraint.proofs.Explained.{explained_kept, explained_rebuilt, nothing-unwritten}
use Rattle.symbol_screens.specs.Held.{bits_of}
use Rattle.symbol_screens.specs.Reading.{held_at}
use Rattle.symbol_screens.specs.Rewriting.{lent, outcome_with, rewrite_checked_with, rewrite_answer_with, rewrite_passes_with}
use Rattle.symbol_screens.specs.Placed.{place_count}
use Rattle.symbol_screens.proofs.Ranked.{ranked_at}
use Rattle.symbol_reasons.specs.Explained.{held_reasons, explained_text_with, explained_answer_with, explained_bytes_with}
use Rattle.symbol_reasons.specs.Lined.{LinedHeld, lined_outcome_with}
use Rattle.symbol_reasons.proofs.Carried.{outcome_carried}
use Rattle.ranked_screen.specs.Screen.{RanksOf}
use Rattle.ranked_screen.proofs.Reading.{accepted-sizes}
use Rattle.ranked_reading.proofs.Walking.{held-walked, falls, minterms-below}
use Rattle.ranked_reading.proofs.Conjuncts.{ranked-conjuncts, ranked-falls}
use Rattle.ranked_reading.proofs.Merged.{ranks_alike}
use Rattle.symbol_sources.specs.Sources.{LinedPlace, comparisons_of}
use Rattle.symbol_sources.proofs.Sources.{rank_on, held_on, merged, ranks_merged, sources, symbols-merged}
use Rattle.symbol_columns.specs.Literals.{literal_table}
use Rattle.symbol_columns.proofs.Written.{bits_on, literals-written}
use Rattle.symbol_merge.specs.Explains.{Explains}
use Rattle.symbol_merge.proofs.Outcomes.{both-stop, both-stay, rebuilt-of, as_many, bits_at, outcome_bits, bits-plain, reasons_same}
use Rattle.symbol_merge.specs.Fronts.{fronted}
use Rattle.symbol_merge.proofs.Fronts.{written-fronted}
use Rattle.symbol_merge.proofs.Slices.{excluded-as, order-low, compared-low, table-few}
use Rattle.column_constraints.specs.Abstraction.{conjuncts_of}

-- the bits of values, spelled out
abbrev payload : Scalars ℤ ℕ
payload =
    record {
      key = key;
      order = ord_z;
      total = total-z;
      opened = λ held excluded. excluded;
      opened-key = λ held excluded. refl;
    }

payload-is : values.payload ≡ payload
unfolding values.payload
payload-is = refl

module _ (text t rs p : List ℕ) (used root : ℕ) (accepted : check_answer_in (lent text) t rs p used root ≡ check.Accepted)
    (trees : List ℕ) (counted : (a : ℕ) → a ≤ root → get_or trees a 0 ≡ min (tree_count rs a) 4097) (low : tree_count rs root ≤ 4096)
    (nodes : List ℕ) (n : ℕ) (are : first_of nodes n ≡ minterms (walked rs) root) (few : n ≤ 128)
    (vs ranks src pool : List ℕ) (of : RanksOf text rs p used vs ranks src pool)
    (own : List ℕ) (sent : (a : ℕ) → a < used → aexpr_of own p a ≡ aexpr_of rs p a) where
  ok : CheckedIn (lent text) t rs p used root
  ok = checked-in (lent text) t rs p used root accepted

  abbrev count : ℕ
  count = place_count p used

  enough : place_count p used ≤ count
  enough = omega arith

  abbrev R : ℕ → AExpr ℕ
  R = aexpr_of src pool

  -- the outcome, told by places
  abbrev O : Outcome LinedPlace
  O = merged text t rs p used root ok vs ranks of.standing count enough

  read_ranks : map (classify R) (first_of nodes n) ≡ read_conjuncts (ranked_at rs p used ranks count) root
  read_ranks = ap (map (classify R)) are ∙ sym (ranked-conjuncts text t rs p used root ok vs ranks src pool of)

  lined-of : lined_to R nodes n ≡ map_outcome (rank_on ranks count) O
  lined-of =
      ap (λ l. merge_filter_constraints lined (lines_from 0 l)) read_ranks
      ∙ ranks_merged text t rs p used root ok vs ranks of.standing count enough

  -- what `own` holds are the records sent
  own_are : read_conjuncts (aexpr_at rs p used) root ≡ map (classify (aexpr_of own p)) (first_of nodes n)
  own_are =
      ap (map (classify (aexpr_at rs p used))) (sym (walked-minterms rs p used root ok.root-used))
      ∙ all (minterms (walked rs) root) (minterms-below (lent text) t rs p used root ok)
      ∙ ap (map (classify (aexpr_of own p))) (sym are)
    where
      all : (ns : List ℕ) → Below used ns → map (classify (aexpr_at rs p used)) ns ≡ map (classify (aexpr_of own p)) ns
      all [] h = refl
      all (m ∷ ns) h =
          λ i. sym (classify-same (aexpr_at rs p used) (aexpr_of own p) used (λ a l. sent a l ∙ sym (used-same rs p used a l)) m h.0
          (falls (lent text) t rs p used root ok)) i
          ∷ all ns h.1 i

  -- The kept nodes are not past the root.
  kept_low : (ns : List ℕ) (cs : List (ℕ × ColumnComparison Lined)) → lined_to R nodes n ≡ Rebuilt ns cs → Below (suc root) ns
  kept_low ns cs e =
      subst (AnswerLt payload (suc root))
      (sym (ap (λ S. merge_filter_constraints S (read_conjuncts (ranked_at rs p used ranks count) root)) payload-is)
      ∙ ap (merge_filter_constraints values.payload) (sym read_ranks) ∙ without-lines R nodes n (Rebuilt ns cs) e)
      (answer_lt payload (suc root) halves truth_keys (ranked_at rs p used ranks count)
      (ranked-falls text t rs p used root ok vs ranks src pool of) root (omega arith))

  -- ---- Where the text pool is of bytes.
  module _ (bytes : AreBytes text) where
    small : count ≤ 9223372036854775808
    small =
        let s = accepted-sizes text rs p used (record { table = t; root = root; checked = ok }) in
        let u = s.used_low in
        let w = s.pool-low in
        omega (arith, u, w)

    symbols-of : lined_outcome_with text rs p used root ≡ map_outcome (held_on vs count) O
    symbols-of =
        symbols-merged text t rs p used root ok vs ranks of.standing count enough bytes of.pooled small of.ranked

    outcome_of_lem : outcome_with text rs p used root ≡ map_outcome (bits_at vs count) O
    outcome_of_lem =
        sym (outcome_carried text rs p used root)
        ∙ ap (λ o. map_outcome bits_of (map_outcome (λ (v : LinedHeld). v.held) o)) symbols-of
        ∙ outcome_bits vs count O

    few-held : length (minterms (held_at rs p used) root) ≤ 128
    few-held =
        let e : length (minterms (held_at rs p used) root) ≡ n =
        ap length (held-walked (lent text) t rs p used root ok) ∙ ap length (sym are) ∙ first-length nodes n in
        omega (arith, e, few)

    answer_on : rewrite_answer_with text t rs p used root ≡ outcome_answer t rs used (outcome_with text rs p used root)
    unfolding rewrite_answer_with
    answer_on =
        ap (λ c. rewrite_if c (rewrite_checked_with text t rs p used root)) accepted
        ∙ (λ i. cond (le-ltb 4096 (tree_count rs root) low i) (answer.Refused 8)
        (cond (le-ltb 128 (length (minterms (held_at rs p used) root)) few-held i) (answer.Refused 9)
        (outcome_answer t rs used (outcome_with text rs p used root))))

    passes_of : merge_passes values.payload (map (classify R) (first_of nodes n)) ≡ rewrite_passes_with text rs p used root
    passes_of =
        ap (merge_passes values.payload) read_ranks
        ∙ sym (ranks_alike text t rs p used root ok vs ranks src pool of bytes).passes

    abbrev told : List ℕ
    told = explained_text_with text rs p used root

    abbrev o : Outcome ℕ
    o = outcome_with text rs p used root

    -- what `filter_constraint` says of an outcome is what is promised
    explains : (buffer : List ℕ) (r : Rewriting) (out after : List ℕ) →
        (r.answer ≡ refuse_long (length told) (length buffer) (reckoned_answer (length rs) trees used o))
        × ((out ≡ written_if r.answer rs (outcome_bytes t rs used o))
        × ((r.passes ≡ merge_passes values.payload (map (classify R) (first_of nodes n)))
        × ((after ≡ text_if r.answer buffer told) × (r.length ≡ length_if r.answer told)))) →
        reckoned_answer (length rs) trees used o ≡ outcome_answer t rs used o → Explains text t rs p used root buffer r out after
    unfolding explained_answer_with explained_bytes_with
    explains buffer r out after h e =
        let a : r.answer ≡ refuse_long (length told) (length buffer) (rewrite_answer_with text t rs p used root) =
        h.0 ∙ ap (refuse_long (length told) (length buffer)) (e ∙ sym answer_on) in
        record {
          answers = a;
          writes = h.1.0 ∙ ap (λ x. written_if x rs (outcome_bytes t rs used o)) a;
          counts = λ q. h.1.1.0 ∙ passes_of;
          tells = h.1.1.1.0;
          measures = h.1.1.1.1;
        }

    -- ---- nothing passes, or nothing changes
    pub end-stopped : (buffer : List ℕ) (r : Rewriting) (out : List ℕ) (x : RewriteAnswer) (k z : ℕ) →
        lined_to R nodes n ≡ NothingPasses → r.answer ≡ x → r.passes ≡ k → r.length ≡ z → z ≡ 0 →
        x ≡ reckoned_answer (length rs) trees used NothingPasses → out ≡ written_if x rs (outcome_bytes t rs used NothingPasses) →
        k ≡ merge_passes values.payload (map (classify R) (first_of nodes n)) → Explains text t rs p used root buffer r out buffer
    end-stopped buffer r out x k z e ea ek el ez ex eo ep =
        let q : o ≡ NothingPasses = outcome_of_lem ∙ both-stop (rank_on ranks count) (bits_at vs count) O (sym lined-of ∙ e) in
        explains buffer r out buffer
        (explained_kept t rs trees used o x k (merge_passes values.payload (map (classify R) (first_of nodes n))) z r out buffer told
        ea ek el ez (answered-as t rs trees used o NothingPasses x out q (ex, eo)) ep
        (nothing-unwritten (length rs) trees used x ex))
        (ap (reckoned_answer (length rs) trees used) q ∙ sym (ap (outcome_answer t rs used) q))

    pub end-unchanged : (buffer : List ℕ) (r : Rewriting) (k z : ℕ) → lined_to R nodes n ≡ Unchanged →
        r.answer ≡ answer.Unchanged → r.passes ≡ k → r.length ≡ z → z ≡ 0 →
        k ≡ merge_passes values.payload (map (classify R) (first_of nodes n)) → Explains text t rs p used root buffer r rs buffer
    end-unchanged buffer r k z e ea ek el ez ep =
        let q : o ≡ Unchanged = outcome_of_lem ∙ both-stay (rank_on ranks count) (bits_at vs count) O (sym lined-of ∙ e) in
        explains buffer r rs buffer
        (explained_kept t rs trees used o answer.Unchanged k (merge_passes values.payload (map (classify R) (first_of nodes n))) z r rs
        buffer told ea ek el ez (answered-as t rs trees used o Unchanged answer.Unchanged rs q (refl, refl)) ep refl)
        (ap (reckoned_answer (length rs) trees used) q ∙ sym (ap (outcome_answer t rs used) q))

  -- ---- a rebuilt chain
  module _ (kinds first starts counts said second starts₂ counts₂ cells cells' marks order kept : List ℕ) (unsat unchanged : Bool)
      (columns keeps total : ℕ)
      (C : Concluded (lined_to R nodes n) (shown (conjuncts_of kinds first starts counts pool) (columns_of cells) marks) order kept unsat
      unchanged columns keeps total)
      (live : unsat ≡ false) (changed : unchanged ≡ false) (lows : (i : ℕ) → i < columns → get_or order i 0 < 64)
      (tells : (i : ℕ) → i < n → ToldConjunct (conjuncts_of said second starts₂ counts₂ p) i (classify (aexpr_of own p) (get_or nodes i 0)))
      (shows : Shows (conjuncts_of kinds second starts₂ counts₂ p) (columns_of cells') marks
      (literal_table t (aexpr_of own p) nodes (shown (conjuncts_of kinds second starts₂ counts₂ p) (columns_of cells) marks))) where
    abbrev cs : List (ℕ × ColumnComparison LinedPlace)
    cs = comparisons_of O

    abbrev ord : List ℕ
    ord = first_of order columns

    abbrev ns : List ℕ
    ns = first_of kept keeps

    abbrev T : ColumnTable
    T = shown (conjuncts_of kinds first starts counts pool) (columns_of cells) marks

    abbrev T' : ColumnTable
    T' = shown (conjuncts_of kinds second starts₂ counts₂ p) (columns_of cells') marks

    back : (O ≡ Rebuilt ns cs) × (comparisons lined ord T ≡ map_comparisons (rank_on ranks count) cs)
    back = rebuilt-of (rank_on ranks count) O ns (comparisons lined ord T) (sym lined-of ∙ C.rebuilds live changed)

    written : comparisons lined ord T' ≡ map_comparisons (bits_on vs count) cs
    written =
        literals-written text t rs p used root ok vs ranks of.standing count enough of.pooled of.ranked nodes n
        (aexpr_of own p) own_are (conjuncts_of said second starts₂ counts₂ p) tells cs
        (sources text t rs p used root ok vs ranks of.standing count enough) ord T back.1
        (shown (conjuncts_of kinds second starts₂ counts₂ p) (columns_of cells) marks) T'
        (λ a i. (refl, refl, excluded-as kinds first second _ _)) (λ a i. shows.column a (order-low order columns lows a i))

    counted-after : total ≡ length (comparisons lined ord T')
    counted-after =
        C.counted live ∙ ap length back.1 ∙ as_many (rank_on ranks count) cs ∙ sym (as_many (bits_on vs count) cs)
        ∙ ap length (sym written)

    pub total-after : (s : Conjuncts) → s.kinds ≡ kinds → s.values ≡ second →
        total ≡ length (comparisons lined ord (shown s (columns_of cells') marks))
    total-after s ek ev =
        total-same (conjuncts_of kinds second starts₂ counts₂ p) s (columns_of cells') marks order columns total counted-after ek ev

    pub total-some : 0 < total
    total-some = compared-some R nodes n ns (comparisons lined ord T) total (C.rebuilds live changed) (C.counted live)

    not-empty : (l : List (ℕ × ColumnComparison ℕ)) → 0 < length l → is_empty l ≡ false
    not-empty [] h = absurd (omega (arith, h))
    not-empty (x ∷ l) h = refl

    full : is_empty (state.bits_of (comparisons lined ord T')) ≡ false
    full =
        let e : total ≡ length (state.bits_of (comparisons lined ord T')) =
        counted-after ∙ sym (bits-length (comparisons lined ord T')) in
        let s = total-some in
        not-empty (state.bits_of (comparisons lined ord T')) (omega (arith, e, s))

    reckons : reckoned_answer (length rs) trees used (Rebuilt ns (state.bits_of (comparisons lined ord T'))) ≡
        outcome_answer t rs used (Rebuilt ns (state.bits_of (comparisons lined ord T')))
    reckons =
        let h : root < used = ok.root-used in
        reckoned-rebuilt t rs trees used (suc root) (omega (arith, h)) (λ a k. counted a (omega (arith, k))) ns
        (state.bits_of (comparisons lined ord T')) (kept_low ns (comparisons lined ord T) (C.rebuilds live changed))
        (compared-low ord T' (order-low order columns lows)) full

    module _ (bytes : AreBytes text) where
      outcome_after : outcome_with text rs p used root ≡ Rebuilt ns (state.bits_of (comparisons lined ord T'))
      outcome_after =
          outcome_of_lem bytes ∙ ap (map_outcome (bits_at vs count)) back.0
          ∙ ap (Rebuilt ns) (sym (bits-plain vs count cs) ∙ ap state.bits_of (sym written))

      text-after : explained_text_with text rs p used root ≡ table_text (shown_in t text) ord T'
      unfolding explained_text_with table_text
      text-after =
          ap (λ y. reasons_text (held_reasons text y)) (symbols-of bytes ∙ ap (map_outcome (held_on vs count)) back.0)
          ∙ ap reasons_text (sym (reasons_same vs count t text cs
          (λ x i. (sources text t rs p used root ok vs ranks of.standing count enough x i).0))
          ∙ ap (map (reason_of (shown_in t text))) (sym written))

      pub end-rebuilt : (buffer : List ℕ) (r : Rewriting) (out leaves : List ℕ) (x : RewriteAnswer) (k z : ℕ) → r.answer ≡ x →
          r.passes ≡ k → r.length ≡ z →
          x ≡ refuse_long (length (table_text (shown_in t text) ord T')) (length buffer) (reckoned (length rs) trees used ns total) →
          out ≡ written_if x rs (outcome_bytes t rs used (Rebuilt ns (state.bits_of (comparisons lined ord T')))) →
          leaves ≡ text_if x buffer (table_text (shown_in t text) ord T') → z ≡ length_if x (table_text (shown_in t text) ord T') →
          k ≡ merge_passes values.payload (map (classify R) (first_of nodes n)) →
          Explains text t rs p used root buffer r out leaves
      end-rebuilt buffer r out leaves x k z ea ek el a0 a1 a2 a3 ep =
          explains bytes buffer r out leaves
          (explained_rebuilt t rs trees used (outcome_with text rs p used root) x k
          (merge_passes values.payload (map (classify R) (first_of nodes n))) z r out buffer leaves
          (explained_text_with text rs p used root) (table_text (shown_in t text) ord T') ns total (comparisons lined ord T') ea ek el
          outcome_after counted-after text-after a0 a1 a2 a3 ep)
          (ap (reckoned_answer (length rs) trees used) outcome_after ∙ reckons ∙ sym (ap (outcome_answer t rs used) outcome_after))

  -- ---- What the merging is asked and what it gives. `kinds`, `first`, `starts` and `counts` are the tables of the ranks,
  -- `second` are the literals sent.
  module _ (kinds first starts counts said second starts₂ counts₂ : List ℕ)
      (tells : (i : ℕ) → i < n → ToldConjunct (conjuncts_of said second starts₂ counts₂ p) i (classify (aexpr_of own p) (get_or nodes i 0)))
      (long : 16 * used ≤ length own) where
    abbrev s₁ : Conjuncts
    s₁ = conjuncts_of kinds first starts counts pool

    abbrev s₂ : Conjuncts
    s₂ = conjuncts_of kinds second starts₂ counts₂ p

    some : 0 < length own
    some = let h : root < used = ok.root-used in omega (arith, h, long)

    pub symbols-count : Counts (lined_to R nodes n) s₁ t own nodes second
    symbols-count =
        record {
          few = λ h. table-few (lent text) t rs p used root ok;
          counts = λ cells converted marks order kept unsat unchanged columns keeps total C F live changed low c u ek ev.
              total-after kinds first starts counts said second starts₂ counts₂ cells converted marks order kept unsat unchanged
              columns keeps total C live changed low tells
              (c.literals some p s₂ marks (shown s₂ (columns_of cells) marks) (shows-itself s₂ cells marks F)) u ek ev;
        }

    -- With the records sent put back, all is as promised.
    pub symbols-explain : length src ≡ length rs → 16 * used ≤ length src → fronted (16 * used) own src ≡ rs → AreBytes text →
        (buffer : List ℕ) (r : Rewriting) (out after : List ℕ) →
        Merges (lined_to R nodes n) s₁ t src trees nodes second own text buffer used r out after →
        r.passes ≡ merge_passes values.payload (map (classify R) (first_of nodes n)) →
        Explains text t rs p used root buffer r (fronted (16 * used) own out) after
    symbols-explain whole enough-src put bytes buffer r out after M k = go M.unsat M.unchanged refl refl
      where
        go : (x y : Bool) → M.unsat ≡ x → M.unchanged ≡ y →
            Explains text t rs p used root buffer r (fronted (16 * used) own out) after
        go true y ex ey =
            let a = M.stops ex in
            subst (λ z. Explains text t rs p used root buffer r (fronted (16 * used) own out) z) (sym a.1.1.0)
            (end-stopped bytes buffer r (fronted (16 * used) own out) r.answer r.passes r.length
            (M.concluded.stops ex) refl refl refl a.1.1.1
            (a.0 ∙ ap (λ z. reckoned_answer z trees used NothingPasses) whole)
            (written-fronted t own used r.answer NothingPasses src rs out enough-src put a.1.0) k)
        go false true ex ey =
            let a = M.stays ex ey in
            let same : rs ≡ fronted (16 * used) own out = sym (ap (fronted (16 * used) own) a.1.0 ∙ put) in
            subst (λ z. Explains text t rs p used root buffer r z after) same
            (subst (λ z. Explains text t rs p used root buffer r rs z) (sym a.1.1.0)
            (end-unchanged bytes buffer r r.passes r.length (M.concluded.stays ex ey) a.0 refl refl a.1.1.1 k))
        go false false ex ey =
            let c = M.converts ex ey in
            let shows = c.literals some p s₂ M.marks (shown s₂ (columns_of M.cells) M.marks)
            (shows-itself s₂ M.cells M.marks M.fits) in
            let d : Chained t src trees text buffer used (first_of M.kept M.keeps) (first_of M.order M.columns) M.total
            (shown s₂ (columns_of M.converted) M.marks) r out after = M.chains ex ey s₂ refl refl in
            end-rebuilt kinds first starts counts said second starts₂ counts₂ M.cells M.converted M.marks M.order
            M.kept M.unsat M.unchanged M.columns M.keeps M.total M.concluded ex ey M.low tells shows bytes
            buffer r (fronted (16 * used) own out) after r.answer r.passes r.length refl refl refl
            (d.0 ∙ ap (λ z. refuse_long
            (length (table_text (shown_in t text) (first_of M.order M.columns) (shown s₂ (columns_of M.converted) M.marks)))
            (length buffer) (reckoned z trees used (first_of M.kept M.keeps) M.total)) whole)
            (written-fronted t own used r.answer (Rebuilt (first_of M.kept M.keeps) (state.bits_of (comparisons lined
            (first_of M.order M.columns) (shown s₂ (columns_of M.converted) M.marks)))) src rs out enough-src put d.1.0)
            d.1.1.0 d.1.1.1 k

-- What becomes of an answer where the text of its reasons has to fit.
use mathlib.Core.Path.{◌≡◌, refl, sym, ◌∙◌, ap, subst}
use mathlib.Core.Bool.{Bool, true, false, cond, true≢false}
use mathlib.Core.List.{List, []}
use Prim.Native.Nat.{ℕ, suc, ◌<◌, ◌≤◌}
use native.Mathlib.Omega.{arith}
use lib.ListN.{length, get_or}
use borrow.Author.Tests.{le-leb, lt-leb}
use Rattle.truth.specs.FromBytes.{aexpr_of}
use Rattle.constraints.specs.Comparisons.{ColumnComparison}
use Rattle.constraints.specs.Lined.{Lined, lined}
use Rattle.column_reasons.specs.ColumnText.{table_text}
use Rattle.merge.specs.Emit.{Outcome, Unchanged, NothingPasses, Rebuilt, comparisons}
use Rattle.merge.specs.Reasons.{shown_in, reasons_of}
use Rattle.merge.specs.Rewrite.{written_if}
use Rattle.merge.specs.Write.{outcome_bytes, splice}
use Rattle.merge.specs.declared.answer.RewriteAnswer.{RewriteAnswer}
use Rattle.merge.specs.declared.answer.RewriteAnswer.TheVariants as answer
use Rattle.merge.specs.declared.answer.Rewriting.{Rewriting}
use Rattle.read_operands.specs.Walk.{first_of}
use Rattle.reasons.specs.Explained.{refuse_long, text_if, length_if}
use Rattle.reasons.specs.Text.{reasons_text}
use Rattle.reckoning.specs.Reckon.{room_for, reckoned, reckoned_answer}
use Rattle.reckoning.specs.Rewritten.{is_rewritten}
use Rattle.filter_constraint.specs.Explained.{nodes_text}
use Rattle.column_constraints.specs.Abstraction.{Conjuncts}
use Rattle.column_table.specs.State.{ColumnTable, Fits, shown, bits_of}
use Rattle.column_table.specs.Words.{columns_of}
use Rattle.filter_constraint.specs.Concluded.{lined_to, Concluded}
use Rattle.filter_constraint.specs.Merges.{Converted, Counts, Stopped, Stayed, Chained, Merges}
use Rattle.filter_constraint.proofs.Concluding.{outcome_to, passes_to, Answered, answered-as, without-lines, total-same}
use Rattle.column_table.proofs.Resolving.{bits-length}
use Rattle.column_constraints.specs.Abstraction.{conjuncts_of}

-- ---- An answer that writes no chain is left alone, and the buffer with it.
pub kept-answer : (size len : ℕ) (a : RewriteAnswer) → is_rewritten a ≡ false → refuse_long size len a ≡ a
kept-answer size len (answer.Refused k) h = refl
kept-answer size len answer.Unchanged h = refl
kept-answer size len (answer.NothingPasses root used) h = refl
kept-answer size len (answer.Rewritten root used) h = absurd (true≢false h)

pub kept-text : (a : RewriteAnswer) (buffer text : List ℕ) → is_rewritten a ≡ false → buffer ≡ text_if a buffer text
kept-text (answer.Refused k) buffer text h = refl
kept-text answer.Unchanged buffer text h = refl
kept-text (answer.NothingPasses root used) buffer text h = refl
kept-text (answer.Rewritten root used) buffer text h = absurd (true≢false h)

pub kept-length : (a : RewriteAnswer) (text : List ℕ) → is_rewritten a ≡ false → 0 ≡ length_if a text
kept-length (answer.Refused k) text h = refl
kept-length answer.Unchanged text h = refl
kept-length (answer.NothingPasses root used) text h = refl
kept-length (answer.Rewritten root used) text h = absurd (true≢false h)

-- ---- One that writes a chain is refused where its text does not fit.
pub long-answer : (size len : ℕ) (a : RewriteAnswer) → is_rewritten a ≡ true → len < size → refuse_long size len a ≡ answer.Refused 16
long-answer size len (answer.Refused k) h l = absurd (true≢false (sym h))
long-answer size len answer.Unchanged h l = absurd (true≢false (sym h))
long-answer size len (answer.NothingPasses root used) h l = absurd (true≢false (sym h))
long-answer size len (answer.Rewritten root used) h l = rw (lt-leb size len l)

pub fitting_answer : (size len : ℕ) (a : RewriteAnswer) → size ≤ len → refuse_long size len a ≡ a
fitting_answer size len (answer.Refused k) l = refl
fitting_answer size len answer.Unchanged l = refl
fitting_answer size len (answer.NothingPasses root used) l = refl
fitting_answer size len (answer.Rewritten root used) l = rw (le-leb size len l)

pub fitting_text : (a : RewriteAnswer) (buffer text : List ℕ) → is_rewritten a ≡ true → splice buffer 0 text ≡ text_if a buffer text
fitting_text (answer.Refused k) buffer text h = absurd (true≢false (sym h))
fitting_text answer.Unchanged buffer text h = absurd (true≢false (sym h))
fitting_text (answer.NothingPasses root used) buffer text h = absurd (true≢false (sym h))
fitting_text (answer.Rewritten root used) buffer text h = refl

pub fitting_length : (a : RewriteAnswer) (text : List ℕ) → is_rewritten a ≡ true → length text ≡ length_if a text
fitting_length (answer.Refused k) text h = absurd (true≢false (sym h))
fitting_length answer.Unchanged text h = absurd (true≢false (sym h))
fitting_length (answer.NothingPasses root used) text h = absurd (true≢false (sym h))
fitting_length (answer.Rewritten root used) text h = refl

-- "Nothing passes", and its 11, write no chain.
pub nothing-unwritten : (len : ℕ) (trees : List ℕ) (used : ℕ) (a : RewriteAnswer)
    → a ≡ reckoned_answer len trees used NothingPasses → is_rewritten a ≡ false
nothing-unwritten len trees used a e = ap is_rewritten e ∙ go (room_for len (suc used))
  where
    go : (b : Bool) → is_rewritten (cond b (answer.NothingPasses used (suc used)) (answer.Refused 11)) ≡ false
    go true = refl
    go false = refl

-- ---- What the merging promises, of an answer that writes no chain.
pub explained_kept : (t rs trees : List ℕ) (used : ℕ) (o : Outcome ℕ) (a : RewriteAnswer) (k n z : ℕ) (r : Rewriting) (out : List ℕ)
    (buffer text : List ℕ) → r.answer ≡ a → r.passes ≡ k → r.length ≡ z → z ≡ 0 → Answered t rs trees used o a out → k ≡ n
    → is_rewritten a ≡ false
    → (r.answer ≡ refuse_long (length text) (length buffer) (reckoned_answer (length rs) trees used o))
    × ((out ≡ written_if r.answer rs (outcome_bytes t rs used o)) × ((r.passes ≡ n)
    × ((buffer ≡ text_if r.answer buffer text) × (r.length ≡ length_if r.answer text))))
explained_kept t rs trees used o a k n z r out buffer text ea ek el ez h p w =
    let w' : is_rewritten r.answer ≡ false = ap is_rewritten ea ∙ w in (
      ea ∙ h.0 ∙ sym (kept-answer (length text) (length buffer) (reckoned_answer (length rs) trees used o)
          (ap is_rewritten (sym h.0) ∙ w)),
      (
        h.1 ∙ ap (λ x. written_if x rs (outcome_bytes t rs used o)) (sym ea),
        (ek ∙ p, (kept-text r.answer buffer text w', el ∙ ez ∙ kept-length r.answer text w')),
      ),
    )

-- The text of a rebuilt chain is that of its comparisons.
pub rebuilt-text : (t rs p nodes : List ℕ) (n : ℕ) (ns order : List ℕ) (T : ColumnTable)
    → lined_to (aexpr_of rs p) nodes n ≡ Rebuilt ns (comparisons lined order T)
    → nodes_text t rs p nodes n ≡ table_text (shown_in t []) order T
unfolding nodes_text table_text
rebuilt-text t rs p nodes n ns order T e = ap (λ x. reasons_text (reasons_of (shown_in t []) x)) e

-- ---- The same of a rebuilt chain, by what `rebuild` gives.
pub explained_rebuilt : (t rs trees : List ℕ) (used : ℕ) (o : Outcome ℕ) (a : RewriteAnswer) (k n z : ℕ) (r : Rewriting) (out : List ℕ)
    (buffer after text table ns : List ℕ) (total : ℕ) (cs : List (ℕ × ColumnComparison Lined))
    → r.answer ≡ a → r.passes ≡ k → r.length ≡ z → o ≡ Rebuilt ns (bits_of cs) → total ≡ length cs → text ≡ table
    → a ≡ refuse_long (length table) (length buffer) (reckoned (length rs) trees used ns total)
    → out ≡ written_if a rs (outcome_bytes t rs used (Rebuilt ns (bits_of cs)))
    → after ≡ text_if a buffer table → z ≡ length_if a table → k ≡ n
    → (r.answer ≡ refuse_long (length text) (length buffer) (reckoned_answer (length rs) trees used o))
    × ((out ≡ written_if r.answer rs (outcome_bytes t rs used o)) × ((r.passes ≡ n)
    × ((after ≡ text_if r.answer buffer text) × (r.length ≡ length_if r.answer text))))
explained_rebuilt t rs trees used o a k n z r out buffer after text table ns total cs ea ek el eo et ex a0 a1 a2 a3 p = (
  ea ∙ a0
      ∙ ap (λ m. refuse_long (length table) (length buffer) (reckoned (length rs) trees used ns m)) (et ∙ sym (bits-length cs))
      ∙ ap (λ x. refuse_long (length x) (length buffer) (reckoned_answer (length rs) trees used (Rebuilt ns (bits_of cs)))) (sym ex)
      ∙ ap (λ x. refuse_long (length text) (length buffer) (reckoned_answer (length rs) trees used x)) (sym eo),
  (
    a1 ∙ ap (λ x. written_if x rs (outcome_bytes t rs used (Rebuilt ns (bits_of cs)))) (sym ea)
        ∙ ap (λ x. written_if r.answer rs (outcome_bytes t rs used x)) (sym eo),
    (
      ek ∙ p,
      (
        a2 ∙ ap (λ x. text_if x buffer table) (sym ea) ∙ ap (text_if r.answer buffer) (sym ex),
        el ∙ a3 ∙ ap (λ x. length_if x table) (sym ea) ∙ ap (length_if r.answer) (sym ex),
      ),
    ),
  ),
)

-- ---- The ends of the merging.
module _ (o : Outcome Lined) (s : Conjuncts) (t rs trees nodes bits own text buffer : List ℕ) (used : ℕ) (r : Rewriting)
    (out after cells marks order kept : List ℕ) (unsat unchanged : Bool) (columns keeps total : ℕ)
    (C : Concluded o (shown s (columns_of cells) marks) order kept unsat unchanged columns keeps total) (F : Fits cells marks)
    (low : (i : ℕ) → i < columns → get_or order i 0 < 64) where
  pub ends_stopped : unsat ≡ true → Stopped t rs trees buffer used r out after →
      Merges o s t rs trees nodes bits own text buffer used r out after
  ends_stopped h e =
      record {
        cells = cells;
        converted = cells;
        marks = marks;
        order = order;
        kept = kept;
        unsat = unsat;
        unchanged = unchanged;
        columns = columns;
        keeps = keeps;
        total = total;
        concluded = C;
        fits = F;
        low = low;
        stops = λ q. e;
        stays = λ q. absurd (true≢false (sym h ∙ q));
        converts = λ q. absurd (true≢false (sym h ∙ q));
        chains = λ q. absurd (true≢false (sym h ∙ q));
      }

  pub ends_stayed : unsat ≡ false → unchanged ≡ true → Stayed rs buffer r out after →
      Merges o s t rs trees nodes bits own text buffer used r out after
  ends_stayed h k e =
      record {
        cells = cells;
        converted = cells;
        marks = marks;
        order = order;
        kept = kept;
        unsat = unsat;
        unchanged = unchanged;
        columns = columns;
        keeps = keeps;
        total = total;
        concluded = C;
        fits = F;
        low = low;
        stops = λ q. absurd (true≢false (sym q ∙ h));
        stays = λ q w. e;
        converts = λ q w. absurd (true≢false (sym k ∙ w));
        chains = λ q w. absurd (true≢false (sym k ∙ w));
      }

  pub ends_chained : (converted : List ℕ) → unsat ≡ false → unchanged ≡ false → Converted t own nodes cells converted →
      ((u : Conjuncts) → u.kinds ≡ s.kinds → u.values ≡ bits → Chained t rs trees text buffer used (first_of kept keeps)
      (first_of order columns) total (shown u (columns_of converted) marks) r out after) →
      Merges o s t rs trees nodes bits own text buffer used r out after
  ends_chained converted h k c e =
      record {
        cells = cells;
        converted = converted;
        marks = marks;
        order = order;
        kept = kept;
        unsat = unsat;
        unchanged = unchanged;
        columns = columns;
        keeps = keeps;
        total = total;
        concluded = C;
        fits = F;
        low = low;
        stops = λ q. absurd (true≢false (sym q ∙ h));
        stays = λ q w. absurd (true≢false (sym w ∙ k));
        converts = λ q w. c;
        chains = λ q w. e;
      }

-- A rebuilt chain's answer, records and text, with the passes made.
pub chained : (t rs trees text buffer : List ℕ) (used : ℕ) (ns order : List ℕ) (total : ℕ) (T : ColumnTable) (a : RewriteAnswer) (z : ℕ)
    (r : Rewriting) (out after : List ℕ) → r.answer ≡ a → r.length ≡ z
    → a ≡ refuse_long (length (table_text (shown_in t text) order T)) (length buffer) (reckoned (length rs) trees used ns total)
    → out ≡ written_if a rs (outcome_bytes t rs used (Rebuilt ns (bits_of (comparisons lined order T))))
    → after ≡ text_if a buffer (table_text (shown_in t text) order T) → z ≡ length_if a (table_text (shown_in t text) order T)
    → Chained t rs trees text buffer used ns order total T r out after
chained t rs trees text buffer used ns order total T a z r out after ea ez a0 a1 a2 a3 = (
  ea ∙ a0,
  (
    a1 ∙ ap (λ x. written_if x rs (outcome_bytes t rs used (Rebuilt ns (bits_of (comparisons lined order T))))) (sym ea),
    (
      a2 ∙ ap (λ x. text_if x buffer (table_text (shown_in t text) order T)) (sym ea),
      ez ∙ a3 ∙ ap (λ x. length_if x (table_text (shown_in t text) order T)) (sym ea),
    ),
  ),
)

-- ---- A screen without symbols: the table is written as it is merged.
pub numbers-count : (o : Outcome Lined) (s : Conjuncts) (t nodes bits : List ℕ) → bits ≡ s.values → Counts o s t [] nodes bits
numbers-count o s t nodes bits e =
    record {
      few = λ h. absurd (omega (arith, h));
      counts = λ cells converted marks order kept unsat unchanged columns keeps total C F live changed low c u ek ev.
          subst (λ x. total ≡ length (comparisons lined (first_of order columns) (shown u (columns_of x) marks)))
          (sym (c.same refl))
          (total-same s u (columns_of cells) marks order columns total (C.counted live) ek (ev ∙ e));
    }

module _ (t rs p trees : List ℕ) (used : ℕ) (nodes : List ℕ) (n : ℕ) (kinds values starts counts buffer : List ℕ) (r : Rewriting)
    (out after : List ℕ) where
  abbrev Told : Type 0
  Told =
      (r.answer ≡ refuse_long (length (nodes_text t rs p nodes n)) (length buffer)
      (reckoned_answer (length rs) trees used (outcome_to (aexpr_of rs p) nodes n)))
      × ((out ≡ written_if r.answer rs (outcome_bytes t rs used (outcome_to (aexpr_of rs p) nodes n)))
      × ((r.passes ≡ passes_to (aexpr_of rs p) nodes n)
      × ((after ≡ text_if r.answer buffer (nodes_text t rs p nodes n))
      × (r.length ≡ length_if r.answer (nodes_text t rs p nodes n)))))

  told-kept : (o : Outcome ℕ) → outcome_to (aexpr_of rs p) nodes n ≡ o → r.length ≡ 0 → Answered t rs trees used o r.answer out →
      r.passes ≡ passes_to (aexpr_of rs p) nodes n → is_rewritten r.answer ≡ false → after ≡ buffer → Told
  told-kept o e z h k w l =
      let f = explained_kept t rs trees used (outcome_to (aexpr_of rs p) nodes n) r.answer r.passes
      (passes_to (aexpr_of rs p) nodes n) r.length r out buffer (nodes_text t rs p nodes n) refl refl refl z
      (answered-as t rs trees used (outcome_to (aexpr_of rs p) nodes n) o r.answer out e h) k w in
      (f.0, (f.1.0, (f.1.1.0, (l ∙ f.1.1.1.0, f.1.1.1.1))))

  pub numbers-merged : Merges (lined_to (aexpr_of rs p) nodes n) (conjuncts_of kinds values starts counts p) t rs trees nodes values [] []
      buffer used r out after → r.passes ≡ passes_to (aexpr_of rs p) nodes n → Told
  numbers-merged M k = go M.unsat M.unchanged refl refl
    where
      go : (x y : Bool) → M.unsat ≡ x → M.unchanged ≡ y → Told
      go true y ex ey =
          let a = M.stops ex in
          told-kept NothingPasses (without-lines (aexpr_of rs p) nodes n NothingPasses (M.concluded.stops ex)) a.1.1.1
          (a.0, a.1.0) k (nothing-unwritten (length rs) trees used r.answer a.0) a.1.1.0
      go false true ex ey =
          let a = M.stays ex ey in
          told-kept Unchanged (without-lines (aexpr_of rs p) nodes n Unchanged (M.concluded.stays ex ey)) a.1.1.1
          (a.0, a.1.0 ∙ ap (λ x. written_if x rs rs) (sym a.0)) k (ap is_rewritten a.0) a.1.1.0
      go false false ex ey =
          let s = conjuncts_of kinds values starts counts p in
          let ns = first_of M.kept M.keeps in
          let order = first_of M.order M.columns in
          let T = shown s (columns_of M.cells) M.marks in
          let c : Chained t rs trees [] buffer used ns order M.total T r out after =
          subst (λ x. Chained t rs trees [] buffer used ns order M.total (shown s (columns_of x) M.marks) r out after)
          ((M.converts ex ey).same refl) (M.chains ex ey s refl refl) in
          explained_rebuilt t rs trees used (outcome_to (aexpr_of rs p) nodes n) r.answer r.passes
          (passes_to (aexpr_of rs p) nodes n) r.length r out buffer after (nodes_text t rs p nodes n)
          (table_text (shown_in t []) order T) ns M.total (comparisons lined order T) refl refl refl
          (without-lines (aexpr_of rs p) nodes n (Rebuilt ns (comparisons lined order T)) (M.concluded.rebuilds ex ey))
          (M.concluded.counted ex) (rebuilt-text t rs p nodes n ns order T (M.concluded.rebuilds ex ey)) c.0 c.1.0
          c.1.1.0 c.1.1.1 k

-- What leaving out a quiet edge gives, what the word of an edge notes, and that a pass hands it on.
use mathlib.Core.Path.{◌≡◌, refl, sym, ◌∙◌, ap, subst, fun_ext}
use mathlib.Core.Bool.{Bool, true, false, not, ◌||◌, true≢false}
use mathlib.Core.List.{List}
use Prim.Native.Nat.{ℕ, ◌+◌, ◌^◌, ◌<◌}
use native.Mathlib.Omega.{arith}
use lib.Bits.{bit_or}
use lib.ListN.{get_or}
use lib.Dec.{eqb}
use borrow.Author.Tests.{eq-eqb, eqb-true, eqb-false, not-true}
use Rattle.records.specs.Bytes.{all}
use Rattle.records.proofs.Loops.{all_holds}
use Rattle.records.proofs.Laws.{by-test}
use Rattle.checking.specs.Columns.{bit}
use Rattle.checking.proofs.Bits.{bit-or, bit-pow}
use Rattle.constraints.specs.Column.{ColumnConstraints, merge_from, merge_any, merge_emitted, changes_all, emitted, recorded, add_all}
use Rattle.constraints.specs.Lined.{Lined, lined}
use Rattle.constraints.proofs.Merges.{merge_changes_nothing, or_no}
use Rattle.column_constraints.specs.Abstraction.{Conjuncts}
use Rattle.column_constraints.specs.declared.column.ColumnConstraints as code
use Rattle.merge.specs.Propagate.{merged_right, merged_left}
use Rattle.merge.proofs.Passes.{at_a, at_b, edge-ind, merge_edge_if, edge_any_if, edge_emitted_if}
use Rattle.column_table.specs.Words.{past_column, columns_of}
use Rattle.column_table.specs.State.{ColumnTable, Shows, Fits, EdgesBelow, EdgeMerged, shown}
use Rattle.column_table.proofs.Encoding.{columns-size}
use Rattle.propagate_equalities.specs.Quiet.{TellNothing, QuietEdge, QuietEdges, Noted}

-- ---- bits of a word
or_both : (x y : Bool) → x ≡ false → y ≡ false → (x || y) ≡ false
or_both x y e f = rw (e, f)

no_bits : (x y c : ℕ) → bit (bit_or x y) c ≡ false → (bit x c ≡ false) × (bit y c ≡ false)
no_bits x y c e = or_no (bit x c) (bit y c) (sym (bit-or x y c) ∙ e)

ones-all : all (λ i. bit 18446744073709551615 i) 64 ≡ true
unfolding all
ones-all = refl

pub neither : (x y p q : Bool) → x ≡ p → y ≡ q → not (x || y) ≡ true → (p ≡ false) × (q ≡ false)
neither x y p q ex ey h =
    let n = or_no x y (not-true (x || y) h) in
    (sym ex ∙ n.0, sym ey ∙ n.1)

-- ---- two tables that agree at the edge's columns
quiet_same : (T U : ColumnTable) (a b : ℕ) → U a ≡ T a → U b ≡ T b → QuietEdge T a b → QuietEdge U a b
quiet_same T U a b ea eb Q n =
    subst (λ q. TellNothing q (U b)) (sym ea) (subst (λ r. TellNothing (T a) r) (sym eb) (Q n))

-- the arrays stand for the table that is read off them
shows-itself : (t : Conjuncts) (cells marks : List ℕ) → Fits cells marks
    → Shows t (columns_of cells) marks (shown t (columns_of cells) marks)
shows-itself t cells marks F = record { size = columns-size cells; column = λ a h. refl; fine = F.fine }

-- ---- an edge that is left out
quiet-merge : (a b : ℕ) (T : ColumnTable) (o : Bool) → eqb a b ≡ o → QuietEdge T a b
    → (merge_edge_if lined o a b T ≡ T) × (edge_emitted_if lined o a b T ≡ false) × (edge_any_if lined o a b T ≡ false)
quiet-merge a b T true e Q = (refl, refl, refl)
quiet-merge a b T false e Q =
    let q : TellNothing (T a) (T b) = Q e in
    let back : merged_left lined a b T ≡ T a = ap (merge_from lined (T a)) q.right ∙ q.left in
    let any : merge_any lined (T a) (merged_right lined a b T) ≡ false = ap (merge_any lined (T a)) q.right ∙ q.left-any in (
      fun_ext (edge-ind lined (λ c r. r ≡ T c) a b T (λ c. refl) q.right back false),
      or_both (merge_emitted lined (T b) (T a)) (merge_emitted lined (T a) (merged_right lined a b T))
          (part (T b) (T a) q.right-any) (part (T a) (merged_right lined a b T) any),
      or_both (merge_any lined (T b) (T a)) (merge_any lined (T a) (merged_right lined a b T)) q.right-any any,
    )
  where
    part : (q r : ColumnConstraints Lined) → merge_any lined q r ≡ false → merge_emitted lined q r ≡ false
    part q r h = (or_no (changes_all lined (emitted r) q) (changes_all lined (recorded r) (add_all lined (emitted r) q)) h).0

pub quiet-merged : (t : Conjuncts) (table : List code.ColumnConstraints) (ms : List ℕ) (T : ColumnTable) (a b : ℕ)
    → Shows t table ms T → a < 64 → b < 64 → QuietEdge (shown t table ms) a b → EdgeMerged t table ms a b false false T
quiet-merged t table ms T a b S la lb Q =
    let m = quiet-merge a b T (eqb a b) refl
    (quiet_same (shown t table ms) T a b (sym (S.column a la)) (sym (S.column b lb)) Q) in
    record { shows = subst (Shows t table ms) (sym m.0) S; emits = sym m.1; changes = sym m.2 }

pub noted_quiet : (T : ColumnTable) (a b : ℕ) → QuietEdge T a b → Noted T T a b 0
noted_quiet T a b Q = record { same = λ c l e. refl; quiet = record { still = λ ea eb. Q } }

-- ---- an edge that was merged, and changed neither column; both can still be met
still : (a b : ℕ) (T : ColumnTable) (o : Bool) → eqb a b ≡ o → edge_any_if lined o a b T ≡ false
    → (merge_edge_if lined o a b T a).unsat ≡ false → (merge_edge_if lined o a b T b).unsat ≡ false
    → ((c : ℕ) → merge_edge_if lined o a b T c ≡ T c) × QuietEdge T a b
still a b T true e m fa fb = (λ c. refl, λ n. absurd (true≢false (sym e ∙ n)))
still a b T false e m fa fb =
    let n = or_no (merge_any lined (T b) (T a)) (merge_any lined (T a) (merged_right lined a b T)) m in
    let lb : (merged_right lined a b T).unsat ≡ false = subst (λ q. q.unsat ≡ false) (at_b lined a b T e) fb in
    let la : (merged_left lined a b T).unsat ≡ false = subst (λ q. q.unsat ≡ false) (at_a lined a b T) fa in
    let sb = merge_changes_nothing lined (T b) (T a) n.0 lb in
    let sa = merge_changes_nothing lined (T a) (merged_right lined a b T) n.1 la in (
      edge-ind lined (λ c q. q ≡ T c) a b T (λ c. refl) sb.0 sa.0 false,
      λ d. record {
        right = sb.0;
        right-any = n.0;
        left = sym (ap (merge_from lined (T a)) sb.0) ∙ sa.0;
        left-any = sym (ap (merge_any lined (T a)) sb.0) ∙ n.1;
      },
    )

-- ---- an edge that was merged: its columns' bits, unless it changed nothing
module _ (t : Conjuncts) (cells marks : List ℕ) (table' : List code.ColumnConstraints) (ms' : List ℕ) (a b : ℕ)
    (em an : Bool) (F : Fits cells marks) (la : a < 64) (lb : b < 64)
    (E : (T : ColumnTable) → Shows t (columns_of cells) marks T → EdgeMerged t table' ms' a b em an T) where
  M : EdgeMerged t table' ms' a b em an (shown t (columns_of cells) marks)
  M = E (shown t (columns_of cells) marks) (shows-itself t cells marks F)

  pub noted_still : (x y : Bool) → x ≡ (get_or table' a past_column).unsat → y ≡ (get_or table' b past_column).unsat
      → (an || (x || y)) ≡ false → Noted (shown t (columns_of cells) marks) (shown t table' ms') a b 0
  noted_still x y ex ey h =
      let n = or_no an (x || y) h in
      let u = or_no x y n.1 in
      let r = still a b (shown t (columns_of cells) marks) (eqb a b) refl (sym M.changes ∙ n.0)
      (sym (ap (λ q. q.unsat) (M.shows.column a la)) ∙ sym ex ∙ u.0)
      (sym (ap (λ q. q.unsat) (M.shows.column b lb)) ∙ sym ey ∙ u.1) in
      record {
        same = λ c l d. M.shows.column c l ∙ r.0 c;
        quiet = record {
          still = λ ea eb. quiet_same (shown t (columns_of cells) marks) (shown t table' ms') a b
              (M.shows.column a la ∙ r.0 a) (M.shows.column b lb ∙ r.0 b) r.1;
        };
      }

  pub noted_changed : (word : ℕ) → word ≡ bit_or (2 ^ a) (2 ^ b)
      → Noted (shown t (columns_of cells) marks) (shown t table' ms') a b word
  noted_changed word e =
      record { same = other; quiet = record { still = λ ea eb. absurd (true≢false (sym set ∙ ea)) } }
    where
      set : bit word a ≡ true
      set = ap (λ w. bit w a) e ∙ bit-or (2 ^ a) (2 ^ b) a ∙ rw (bit-pow a a, eq-eqb a a refl)

      other : (c : ℕ) → c < 64 → bit word c ≡ false → shown t table' ms' c ≡ shown t (columns_of cells) marks c
      other c l d =
          let n = no_bits (2 ^ a) (2 ^ b) c (sym (ap (λ w. bit w c) e) ∙ d) in
          M.shows.column c l ∙ away c (sym (bit-pow a c) ∙ n.0) (sym (bit-pow b c) ∙ n.1) (eqb a b)
        where
          away : (c : ℕ) → eqb a c ≡ false → eqb b c ≡ false → (o : Bool)
              → merge_edge_if lined o a b (shown t (columns_of cells) marks) c ≡ shown t (columns_of cells) marks c
          away c ea eb true = refl
          away c ea eb false = rw (ea, eb)

-- ---- a pass: the edges before the turn by its own word, all by it and the word of the pass before
pub quiet-first : (T : ColumnTable) (lefts rights : List ℕ) (n : ℕ) → EdgesBelow lefts rights n
    → QuietEdges T lefts rights n 18446744073709551615
quiet-first T lefts rights n B =
    record {
      edge = λ e l. record {
        still = λ ea eb. absurd (true≢false
            (sym (all_holds (λ i. bit 18446744073709551615 i) (get_or lefts e 0) 64 (B e l).0 ones-all) ∙ ea));
      };
    }

pub quiet_none : (T : ColumnTable) (lefts rights : List ℕ) (word : ℕ) → QuietEdges T lefts rights 0 word
quiet_none T lefts rights word = record { edge = λ e l. absurd (omega arith) }

pub quiet-begin : (T : ColumnTable) (lefts rights : List ℕ) (n before : ℕ) → QuietEdges T lefts rights n before
    → QuietEdges T lefts rights n (bit_or before 0)
quiet-begin T lefts rights n before Q =
    record {
      edge = λ e l. record {
        still = λ ea eb. (Q.edge e l).still (no_bits before 0 (get_or lefts e 0) ea).0
            (no_bits before 0 (get_or rights e 0) eb).0;
      };
    }

module _ (T U : ColumnTable) (lefts rights : List ℕ) (n k w : ℕ) (B : EdgesBelow lefts rights n) (here : k < n)
    (N : Noted T U (get_or lefts k 0) (get_or rights k 0) w) where
  kept : (e : ℕ) → e < n → bit w (get_or lefts e 0) ≡ false → bit w (get_or rights e 0) ≡ false
      → QuietEdge T (get_or lefts e 0) (get_or rights e 0) → QuietEdge U (get_or lefts e 0) (get_or rights e 0)
  kept e l ea eb Q =
      quiet_same T U (get_or lefts e 0) (get_or rights e 0) (N.same (get_or lefts e 0) (B e l).0 ea)
      (N.same (get_or rights e 0) (B e l).1 eb) Q

  pub quiet-more : (word : ℕ) → QuietEdges T lefts rights k word → QuietEdges U lefts rights (k + 1) (bit_or word w)
  quiet-more word Q = record { edge = λ e l. record { still = now e l } }
    where
      now : (e : ℕ) → e < k + 1 → bit (bit_or word w) (get_or lefts e 0) ≡ false → bit (bit_or word w) (get_or rights e 0) ≡ false
          → QuietEdge U (get_or lefts e 0) (get_or rights e 0)
      now e l ea eb =
          let na = no_bits word w (get_or lefts e 0) ea in
          let nb = no_bits word w (get_or rights e 0) eb in
          by-test (eqb e k)
          (λ h. subst (λ i. QuietEdge U (get_or lefts i 0) (get_or rights i 0)) (sym (eqb-true e k h))
          (N.quiet.still (subst (λ i. bit w (get_or lefts i 0) ≡ false) (eqb-true e k h) na.1)
          (subst (λ i. bit w (get_or rights i 0) ≡ false) (eqb-true e k h) nb.1)))
          (λ h. let d : (e ≡ k → ⊥) = eqb-false e k h in
          kept e (omega arith) na.1 nb.1 ((Q.edge e (omega arith)).still na.0 nb.0))

  pub quiet-on : (before word : ℕ) → QuietEdges T lefts rights n (bit_or before word)
      → QuietEdges U lefts rights n (bit_or before (bit_or word w))
  quiet-on before word Q =
      record {
        edge = λ e l. record {
          still = λ ea eb.
              let na = apart (get_or lefts e 0) ea in
              let nb = apart (get_or rights e 0) eb in
              kept e l na.1 nb.1 ((Q.edge e l).still na.0 nb.0);
        };
      }
    where
      apart : (c : ℕ) → bit (bit_or before (bit_or word w)) c ≡ false
          → (bit (bit_or before word) c ≡ false) × (bit w c ≡ false)
      apart c h =
          let x = no_bits before (bit_or word w) c h in
          let y = no_bits word w c x.1 in
          (bit-or before word c ∙ or_both (bit before c) (bit word c) x.0 y.0, y.1)

-- Which bytes rewriting leaves alone: those of the used records, and those behind the used count returned.
use mathlib.Core.Path.{◌≡◌, refl, sym, ◌∙◌, subst}
use mathlib.Core.Bool.{Bool, true, false, cond, and-eq-true_iff}
use mathlib.Core.List.{List, [], ◌∷◌}
use Prim.Native.Nat.{ℕ, suc, ◌+◌, ◌*◌, ◌-◌, ◌/◌, ◌≤◌, ◌<◌}
use native.Mathlib.Omega.{arith}
use lib.Dec.{ltb, leb}
use lib.ListN.{length, get_or}
use borrow.Author.Tests.{leb-true}
use Rattle.checking.specs.Check.{check_answer, check_answer_in}
use Rattle.records.specs.Record.{node, column_number, encode}
use Rattle.checking.specs.Tree.{tree_count}
use Rattle.checking.specs.Answer.{CheckAnswer}
use Rattle.checking.specs.Answer as check
use Rattle.records.specs.declared.operator.Operator.TheVariants as operator
use Rattle.records.specs.declared.record.Record.{Record}
use Rattle.records.specs.declared.record.Record.TheVariants as kind
use Rattle.truth.specs.FromBytes.{aexpr_at}
use Rattle.constraints.specs.Comparisons.{ColumnComparison}
use Rattle.merge.specs.declared.answer.RewriteAnswer.{RewriteAnswer}
use Rattle.merge.specs.declared.answer.RewriteAnswer.TheVariants as answer
use Rattle.merge.specs.Minterms.{minterms}
use Rattle.merge.specs.Emit.{Outcome, Unchanged, NothingPasses, Rebuilt}
use Rattle.merge.specs.Rebuild.{comparison_of, value_of, comparisons_end, ands_end, fold_used}
use Rattle.merge.specs.Classify.{comparison_operator}
use Rattle.merge.specs.Write.{literal_type}
use Rattle.merge.specs.Write.{field_bytes, write_record, write_comparison, write_comparisons, write_ands}
use Rattle.merge.specs.Write.{fold_bytes, outcome_bytes}
use Rattle.merge.specs.Rewrite.{outcome_of, chain_nodes, chain_root, chain_used, has_room, chain_fits, outcome_answer}
use Rattle.merge.specs.Rewrite.{rewrite_if, rewrite_answer, written_if, rewrite_bytes}
use Rattle.merge.specs.Demand.{used_after}
use Rattle.merge.proofs.Splices.{splice-before, splice-after}
use Rattle.merge.proofs.Written.{length-write}
use Rattle.merge.proofs.RebuiltBytes.{comparisons-end, ands_end_lem, fold_end}
use Rattle.symbol_screens.specs.Reading.{held_at}
use Rattle.symbol_screens.specs.Rewriting.{lent, outcome_with, rewrite_answer_with, rewrite_bytes_with}
use Rattle.rewrite_promise.specs.Promises.{BytesKept}

pub kept-all : (rs : List ℕ) (first end : ℕ) → BytesKept rs rs first end
kept-all rs first end = record { lent = refl; before = λ i h. refl; behind = λ i h. refl }

kept_then : (rs mid out : List ℕ) (first middle end : ℕ) → first ≤ middle → middle ≤ end
    → BytesKept rs mid first middle → BytesKept mid out middle end → BytesKept rs out first end
kept_then rs mid out first middle end h k a b =
    record {
      lent = b.lent ∙ a.lent;
      before = λ i l. b.before i (omega arith) ∙ a.before i l;
      behind = λ i l. b.behind i l ∙ a.behind i (omega arith);
    }

record_kept : (rs : List ℕ) (u : ℕ) (r : Record) → 16 * u + 16 ≤ length rs
    → BytesKept rs (write_record rs u r) u (suc u)
record_kept rs u r h =
    record {
      lent = length-write rs u r h;
      before = λ i l. splice-before rs (16 * u) (field_bytes (encode r)) i (omega arith) l;
      behind = λ i l. after i (i - (16 * u + 16)) (omega arith);
    }
  where
    after : (i j : ℕ) → i ≡ 16 * u + 16 + j → get_or (write_record rs u r) i 0 ≡ get_or rs i 0
    after i j e = rw e (at j)
      where
        at : (j : ℕ) → get_or (write_record rs u r) (16 * u + 16 + j) 0 ≡ get_or rs (16 * u + 16 + j) 0
        at j =
            let q : 16 * u + 16 + j ≡ 16 * u + (16 + j) = omega arith in
            rw q (splice-after rs (16 * u) (field_bytes (encode r)) j (omega arith) ∙ rw q)

comparison_kept : (t rs : List ℕ) (u : ℕ) (x : ℕ × ColumnComparison ℕ) → 16 * u + 48 ≤ length rs
    → BytesKept rs (write_comparison t u x rs) u (suc (suc (suc u)))
comparison_kept t rs u x h =
    let a = record_kept rs u column (omega arith) in
    let la : length one ≡ length rs = a.lent in
    let b = record_kept one (suc u) literal (omega (arith, la)) in
    let lb : length two ≡ length one = b.lent in
    let c = record_kept two (suc (suc u)) binary (omega (arith, la, lb)) in
    kept_then rs two (write_record two (suc (suc u)) binary) u (suc (suc u)) (suc (suc (suc u))) (omega arith)
    (omega arith)
    (kept_then rs one two u (suc u) (suc (suc u)) (omega arith) (omega arith) a b) c
  where
    column : Record
    column = kind.Column (column_number x.0)

    literal : Record
    literal = kind.Literal (literal_type t x.0) (value_of x.1)

    binary : Record
    binary = kind.Binary (comparison_operator (comparison_of x.1)) (node u) (node (suc u))

    one : List ℕ
    one = write_record rs u column

    two : List ℕ
    two = write_record one (suc u) literal

comparisons-kept : (t : List ℕ) (l : List (ℕ × ColumnComparison ℕ)) (rs : List ℕ) (u : ℕ)
    → 16 * comparisons_end u l ≤ length rs → BytesKept rs (write_comparisons t u l rs) u (comparisons_end u l)
comparisons-kept t [] rs u h = kept-all rs u u
comparisons-kept t (x ∷ l) rs u h =
    let k : suc (suc (suc u)) ≤ comparisons_end (suc (suc (suc u))) l = comparisons-end l (suc (suc (suc u))) in
    let a = comparison_kept t rs u x (omega arith) in
    let e : length (write_comparison t u x rs) ≡ length rs = a.lent in
    kept_then rs (write_comparison t u x rs) (write_comparisons t u (x ∷ l) rs) u (suc (suc (suc u)))
    (comparisons_end u (x ∷ l)) (omega arith) k a
    (comparisons-kept t l (write_comparison t u x rs) (suc (suc (suc u))) (omega (arith, e)))

ands_kept : (l : List ℕ) (rs : List ℕ) (u acc : ℕ) → 16 * ands_end u l ≤ length rs
    → BytesKept rs (write_ands u acc l rs) u (ands_end u l)
ands_kept [] rs u acc h = kept-all rs u u
ands_kept (n ∷ l) rs u acc h =
    let k : suc u ≤ ands_end (suc u) l = ands_end_lem l (suc u) in
    let a = record_kept rs u (kind.Binary operator.And (node acc) (node n)) (omega arith) in
    let e : length (write_record rs u (kind.Binary operator.And (node acc) (node n))) ≡ length rs = a.lent in
    kept_then rs (write_record rs u (kind.Binary operator.And (node acc) (node n))) (write_ands u acc (n ∷ l) rs) u
    (suc u) (ands_end u (n ∷ l)) (omega arith) k a
    (ands_kept l (write_record rs u (kind.Binary operator.And (node acc) (node n))) (suc u) u (omega (arith, e)))

fold-kept : (l : List ℕ) (rs : List ℕ) (u : ℕ) → 16 * fold_used u l ≤ length rs
    → BytesKept rs (fold_bytes u rs l) u (fold_used u l)
fold-kept [] rs u h = kept-all rs u u
fold-kept (n ∷ l) rs u h = ands_kept l rs u n h

module _ (t rs : List ℕ) (used : ℕ) where
  room_of : (u : ℕ) → has_room rs u ≡ true → 16 * u ≤ length rs
  room_of u h =
      let k : u ≤ length rs / 16 =
      leb-true u (length rs / 16) ((and-eq-true_iff (leb u 4096) (leb u (length rs / 16))).0 h).1 in
      omega arith

  chain-kept : (ns : List ℕ) (cs : List (ℕ × ColumnComparison ℕ)) → chain_fits t rs used ns cs ≡ true
      → BytesKept rs (outcome_bytes t rs used (Rebuilt ns cs)) used (chain_used used ns cs)
  chain-kept ns cs h =
      let room : 16 * chain_used used ns cs ≤ length rs =
      room_of (chain_used used ns cs) ((and-eq-true_iff (has_room rs (chain_used used ns cs)) _).0 h).0 in
      let k : comparisons_end used cs ≤ chain_used used ns cs =
      fold_end (chain_nodes used ns cs) (comparisons_end used cs) in
      let a = comparisons-kept t cs rs used (omega arith) in
      let e : length (write_comparisons t used cs rs) ≡ length rs = a.lent in
      kept_then rs (write_comparisons t used cs rs) (outcome_bytes t rs used (Rebuilt ns cs)) used
      (comparisons_end used cs) (chain_used used ns cs) (comparisons-end cs used) k a
      (fold-kept (chain_nodes used ns cs) (write_comparisons t used cs rs) (comparisons_end used cs)
      (omega (arith, e, room)))

  outcome_kept : (o : Outcome ℕ)
      → BytesKept rs (written_if (outcome_answer t rs used o) rs (outcome_bytes t rs used o)) used
      (used_after (outcome_answer t rs used o) used)
  outcome_kept Unchanged = kept-all rs used used
  outcome_kept NothingPasses = go (has_room rs (suc used)) refl
    where
      a : Bool → RewriteAnswer
      a b = cond b (answer.NothingPasses used (suc used)) (answer.Refused 11)

      go : (b : Bool) → has_room rs (suc used) ≡ b
          → BytesKept rs (written_if (a b) rs (outcome_bytes t rs used NothingPasses)) used (used_after (a b) used)
      go true e =
          let h : 16 * suc used ≤ length rs = room_of (suc used) e in
          record_kept rs used (kind.Literal 3 0) (omega arith)
      go false e = kept-all rs used used
  outcome_kept (Rebuilt ns cs) = go (chain_fits t rs used ns cs) refl
    where
      a : Bool → RewriteAnswer
      a c = cond c (answer.Rewritten (chain_root used ns cs) (chain_used used ns cs)) (answer.Refused 11)

      go : (c : Bool) → chain_fits t rs used ns cs ≡ c
          → BytesKept rs (written_if (a c) rs (outcome_bytes t rs used (Rebuilt ns cs))) used (used_after (a c) used)
      go true e = chain-kept ns cs e
      go false e = kept-all rs used used

-- Rewriting writes records behind those used, and none behind the used count answered.
answered-kept : (t rs : List ℕ) (used : ℕ) (o : Outcome ℕ) (c : CheckAnswer) (b d : Bool) (x : RewriteAnswer)
    → x ≡ rewrite_if c (cond b (answer.Refused 8) (cond d (answer.Refused 9) (outcome_answer t rs used o)))
    → BytesKept rs (written_if x rs (outcome_bytes t rs used o)) used (used_after x used)
answered-kept t rs used o c b d x e =
    subst (λ y. BytesKept rs (written_if y rs (outcome_bytes t rs used o)) used (used_after y used)) (sym e) (go c b d)
  where
    a : CheckAnswer → Bool → Bool → RewriteAnswer
    a c b d = rewrite_if c (cond b (answer.Refused 8) (cond d (answer.Refused 9) (outcome_answer t rs used o)))

    go : (c : CheckAnswer) (b d : Bool)
        → BytesKept rs (written_if (a c b d) rs (outcome_bytes t rs used o)) used (used_after (a c b d) used)
    go (check.Refused k) b d = kept-all rs used used
    go check.Accepted true d = kept-all rs used used
    go check.Accepted false true = kept-all rs used used
    go check.Accepted false false = outcome_kept t rs used o

pub rewrite-kept : (t rs p : List ℕ) (used root : ℕ)
    → BytesKept rs (rewrite_bytes t rs p used root) used (used_after (rewrite_answer t rs p used root) used)
unfolding rewrite_answer rewrite_bytes
rewrite-kept t rs p used root =
    answered-kept t rs used (outcome_of rs p used root) (check_answer t rs p used root) (ltb 4096 (tree_count rs root))
    (ltb 128 (length (minterms (aexpr_at rs p used) root))) (rewrite_answer t rs p used root) refl

-- the same of a screen with symbols
pub rewrite-kept_with : (text t rs p : List ℕ) (used root : ℕ)
    → BytesKept rs (rewrite_bytes_with text t rs p used root) used (used_after (rewrite_answer_with text t rs p used root) used)
unfolding rewrite_answer_with rewrite_bytes_with
rewrite-kept_with text t rs p used root =
    answered-kept t rs used (outcome_with text rs p used root) (check_answer_in (lent text) t rs p used root)
    (ltb 4096 (tree_count rs root)) (ltb 128 (length (minterms (held_at rs p used) root)))
    (rewrite_answer_with text t rs p used root) refl

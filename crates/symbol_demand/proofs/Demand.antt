-- What rewriting promises of screens with symbols (specs/Demand.antt has the statements).
use mathlib.Core.Path.{◌≡◌, refl, sym, ◌∙◌, ap, subst}
use mathlib.Core.Bool.{Bool, true, false, cond, not, ◌||◌, true≢false}
use mathlib.Core.List.{List, [], ◌∷◌}
use mathlib.Core.Logic.{◌↔◌}
use mathlib.Core.Option.{Option, none}
use Prim.Native.Nat.{ℕ, suc, ◌≤◌, ◌<◌}
use lib.Dec.{ltb, eqb}
use lib.IntN.{ℤ}
use lib.ListN.{length, get_or}
use borrow.Author.Tests.{ltb-false, ltb-true, lt-ltb}
use Rattle.records.specs.Bytes.{all}
use Rattle.records.proofs.Loops.{all_holds}
use Rattle.checking.specs.Check.{check_answer_in}
use Rattle.checking.specs.Checked.{CheckedIn}
use Rattle.checking.specs.Tree.{tree_count}
use Rattle.checking.specs.Answer.{CheckAnswer}
use Rattle.checking.specs.Answer as check
use Rattle.checking.proofs.Accepted.{checked-in}
use Rattle.truth.specs.FromBytes.{aexpr_at, truth_keys}
use Rattle.constraints.specs.Comparisons.{ColumnComparison}
use Rattle.constraints.specs.Values.{is_empty}
use Rattle.merge.specs.declared.answer.RewriteAnswer.{RewriteAnswer}
use Rattle.merge.specs.declared.answer.RewriteAnswer.TheVariants as answer
use Rattle.merge.specs.Classify.{read_conjuncts}
use Rattle.merge.specs.Demand.{Row, NullOrTruth, root_after, used_after, is_refused, is_nothing, AreBytes}
use Rattle.merge.specs.Emit.{Outcome, Unchanged, Rebuilt, merge_filter_constraints}
use Rattle.merge.specs.Lines.{map_outcome}
use Rattle.merge.specs.Minterms.{minterms}
use Rattle.merge.specs.Passes.{edge_columns, equalities, screen_equalities}
use Rattle.merge.specs.Plain.{is_number_column, reads_column, reads_only_numbers, plain_conjuncts, plain_screen}
use Rattle.merge.specs.Rewrite.{outcome_answer, rewrite_if, written_if}
use Rattle.merge.specs.Usable.{UsableIn}
use Rattle.merge.specs.Write.{outcome_bytes}
use Rattle.merge.proofs.Accepted.{inputs-fall_in}
use Rattle.merge.proofs.Compared.{NewRoot, outcome_new_root}
use Rattle.merge.proofs.Demand.{and_yes, settled_by}
use Rattle.merge.proofs.PassesEnd.{merge_passes-at_most}
use Rattle.merge.proofs.PlainForms.{plain-same}
use Rattle.merge.proofs.Typed.{reads_only}
use Rattle.merge.proofs.Unreached.{plain-unreached}
use Rattle.merge.proofs.Whole.{is_true_lem, nothing-found}
use Rattle.symbol_screens.specs.Held.{Held, bits_of, holding}
use Rattle.symbol_screens.specs.Reading.{held_at}
use Rattle.symbol_screens.specs.Rewriting.{lent, outcome_with, rewrite_answer_with, rewrite_bytes_with, rewrite_passes_with}
use Rattle.symbol_screens.specs.Rows.{IsRowWith, NullOrSymbol, passes_with, truth_with}
use Rattle.symbol_screens.proofs.Kept.{values, halves, holding-is, held-falls, merged}
use Rattle.symbol_demand.specs.Demand.{AcceptedWith, bytes_returned, used_returned, root_returned, rows_passing_with}
use Rattle.symbol_demand.specs.Demand.{Demand3WithHolds, ReturnedUsableWith, TwiceHoldsWith, RootIsNewWith}
use Rattle.symbol_demand.specs.Demand.{PassesAtMostColumnsWith}
use Rattle.symbol_demand.proofs.Bits.{bits-equalities, bits-walk}
use Rattle.symbol_demand.proofs.Exit.{Good, a, exit_good, exit_nothing, full-with, none-sent, w}
use Rattle.symbol_demand.proofs.PlainBits.{plain-bits, reads-bits}

-- ---- From the answer to the screen.
pub settled_with :
    (text t rs p : List ℕ) (used root : ℕ) → AcceptedWith text t rs p used root →
    UsableIn (lent text) t rs p used root
    × (rewrite_answer_with text t rs p used root ≡ outcome_answer t rs used (outcome_with text rs p used root))
unfolding rewrite_answer_with
settled_with text t rs p used root h =
    let s = settled_by (check_answer_in (lent text) t rs p used root) (ltb 4096 (tree_count rs root))
    (ltb 128 (length (minterms (held_at rs p used) root))) (outcome_answer t rs used (outcome_with text rs p used root)) h in
    (record { accepted = s.0; tree = ltb-false 4096 (tree_count rs root) s.1 }, s.2)

module _ (text t rs p : List ℕ) (used root : ℕ) (bytes : AreBytes rs) (h : AcceptedWith text t rs p used root) where
  pub sent : UsableIn (lent text) t rs p used root
  sent = (settled_with text t rs p used root h).0

  ok : CheckedIn (lent text) t rs p used root
  ok = checked-in (lent text) t rs p used root sent.accepted

  written_is : outcome_with text rs p used root ≡ w text t rs p used root bytes ok
  written_is =
      ap (λ S. map_outcome bits_of (merge_filter_constraints S (read_conjuncts (held_at rs p used) root))) (holding-is text)

  answer_is : rewrite_answer_with text t rs p used root ≡ a text t rs p used root bytes ok
  answer_is = (settled_with text t rs p used root h).1 ∙ ap (outcome_answer t rs used) written_is

  kept : is_refused (a text t rs p used root bytes ok) ≡ false
  kept = subst (λ x. is_refused x ≡ false) answer_is h

  good : Good text t rs p used root bytes ok (bytes_returned text t rs p used root) (used_returned text t rs p used root)
      (root_returned text t rs p used root)
  unfolding rewrite_bytes_with
  good =
      subst (λ x. Good text t rs p used root bytes ok (written_if x rs (outcome_bytes t rs used (outcome_with text rs p used root)))
      (used_after x used) (root_after x root)) (sym answer_is)
      (subst (λ x. Good text t rs p used root bytes ok
      (written_if (a text t rs p used root bytes ok) rs (outcome_bytes t rs used x))
      (used_after (a text t rs p used root bytes ok) used) (root_after (a text t rs p used root bytes ok) root)) (sym written_is)
      (exit_good text t rs p used root bytes ok sent kept))

  -- ---- Plain screens read no column but numbers, so their fate does not depend on the others.
  numbers : Row → Row
  numbers row c = cond (not (ltb c (length t)) || is_number_column t c) (row c) none

  read_numbers : reads_only_numbers t (aexpr_at rs p used) root ≡ true → (c : ℕ) →
      reads_column (held_at rs p used) root c ≡ true → (not (ltb c (length t)) || is_number_column t c) ≡ true
  read_numbers q c e = go (ltb c (length t)) refl
    where
      imp : (x y : Bool) → (not x || y) ≡ true → x ≡ true → y ≡ true
      imp true y h e = h
      imp false y h e = absurd (true≢false (sym e))

      go : (b : Bool) → ltb c (length t) ≡ b → (not b || is_number_column t c) ≡ true
      go true l =
          imp (reads_column (aexpr_at rs p used) root c) (is_number_column t c)
          (all_holds (λ i. not (reads_column (aexpr_at rs p used) root i) || is_number_column t i) c (length t)
          (ltb-true c (length t) l) q) (reads-bits rs p used root c ∙ e)
      go false l = refl

  numbers-none : (row : Row) (c ty : ℕ) → c < length t → get_or t c 0 ≡ ty → (eqb ty 1 || eqb ty 2) ≡ false →
      numbers row c ≡ none
  unfolding numbers
  numbers-none row c ty l e q = rw (lt-ltb c (length t) l, e, q)

  is_row : plain_conjuncts (aexpr_at rs p used) (minterms (aexpr_at rs p used) root) ≡ true → (row : Row) →
      IsRowWith t (aexpr_at rs p used) root (numbers row)
  is_row q row =
      record {
        truths = λ c l e. subst NullOrTruth (sym (numbers-none row c 3 l e refl)) tt;
        symbols = λ c l e. subst NullOrSymbol (sym (numbers-none row c 4 l e refl)) tt;
        typed = λ e. absurd (true≢false (sym e ∙ plain-unreached (aexpr_at rs p used)
            (inputs-fall_in (lent text) t rs p used root ok) root q));
      }

  numbers-same : reads_only_numbers t (aexpr_at rs p used) root ≡ true → (row : Row) →
      truth_with text (held_at rs p used) row root ≡ truth_with text (held_at rs p used) (numbers row) root
  unfolding numbers
  numbers-same q row =
      ap (λ c. c.truth) (reads_only (values text) truth_keys (held_at rs p used)
      (held-falls (lent text) t rs p used root ok) row (numbers row) root
      (λ c k. ap (λ b. cond b (row c) none) (sym (read_numbers q c k))))

  exactly : plain_screen t (aexpr_at rs p used) root ≡ true →
      (is_nothing (a text t rs p used root bytes ok) ≡ true)
      ↔ ((row : Row) → IsRowWith t (aexpr_at rs p used) root row → passes_with text rs p used root row ≡ true → ⊥)
  exactly q =
      let b = and_yes (reads_only_numbers t (aexpr_at rs p used) root)
      (plain_conjuncts (aexpr_at rs p used) (minterms (aexpr_at rs p used) root)) q in
      let plain : plain_conjuncts (held_at rs p used) (minterms (held_at rs p used) root) ≡ true =
      sym (plain-bits rs p used (minterms (held_at rs p used) root))
      ∙ ap (plain_conjuncts (aexpr_at rs p used)) (sym (bits-walk rs p used root)) ∙ b.1 in
      let f = nothing-found (values text) (halves text) truth_keys (held_at rs p used)
      (held-falls (lent text) t rs p used root ok) root
      (sym (plain-same (held_at rs p used) (minterms (held_at rs p used) root)) ∙ plain) in
      let n = exit_nothing text t rs p used root bytes ok sent kept in (
        λ e row r s. f.0 (sym n ∙ e) row ((is_true_lem (truth_with text (held_at rs p used) row root)).0 s),
        λ g. n ∙ f.1 (λ row s. g (numbers row) (is_row b.1 row)
            ((is_true_lem (truth_with text (held_at rs p used) (numbers row) root)).1 (sym (numbers-same b.0 row) ∙ s))),
      )

-- Demand 3 (01, 'Statements and samples').
pub demand-3-with : Demand3WithHolds
demand-3-with text t rs p used root bytes h =
    record {
      rows = rows;
      counts = counts;
      nothing = nothing;
      exactly = λ q. swap (exactly text t rs p used root bytes h q);
    }
  where
    x : RewriteAnswer
    x = a text t rs p used root bytes (ok text t rs p used root bytes h)

    is : rewrite_answer_with text t rs p used root ≡ x
    is = answer_is text t rs p used root bytes h

    rows : (row : Row) →
        passes_with text (bytes_returned text t rs p used root) p (used_returned text t rs p used root)
        (root_returned text t rs p used root) row ≡ passes_with text rs p used root row
    rows row = (good text t rs p used root bytes h).rows row

    counts : (chain : List Row) →
        rows_passing_with text (bytes_returned text t rs p used root) p (used_returned text t rs p used root)
        (root_returned text t rs p used root) chain ≡ rows_passing_with text rs p used root chain
    counts [] = refl
    counts (row ∷ chain) = rw (rows row, counts chain)

    nothing : is_nothing (rewrite_answer_with text t rs p used root) ≡ true → (chain : List Row) →
        rows_passing_with text rs p used root chain ≡ 0
    nothing e [] = refl
    nothing e (row ∷ chain) =
        rw (none-sent text t rs p used root bytes (ok text t rs p used root bytes h) (sent text t rs p used root bytes h)
        (kept text t rs p used root bytes h) (sym (ap is_nothing is) ∙ e) row) (nothing e chain)

    swap : {B : Type 0} → (is_nothing x ≡ true) ↔ B → (is_nothing (rewrite_answer_with text t rs p used root) ≡ true) ↔ B
    swap {B} q = subst (λ y. (is_nothing y ≡ true) ↔ B) (sym is) q

pub returned-usable_with : ReturnedUsableWith
returned-usable_with text t rs p used root bytes h = (good text t rs p used root bytes h).usable

-- Request 2.12.
pub twice-unchanged_with : TwiceHoldsWith
twice-unchanged_with text t rs p used root bytes h h' =
    let b = bytes_returned text t rs p used root in
    let u = used_returned text t rs p used root in
    let r = root_returned text t rs p used root in
    (settled_with text t b p u r h').1
    ∙ ap (outcome_answer t b u)
    (ap (λ S. map_outcome bits_of (merge_filter_constraints S (read_conjuncts (held_at b p u) r))) (holding-is text)
    ∙ ap (map_outcome bits_of) (good text t rs p used root bytes h).again)

-- Request 2.11.
new-root_with : (text t rs p : List ℕ) (used root : ℕ) → NewRoot used root (rewrite_answer_with text t rs p used root)
unfolding rewrite_answer_with
new-root_with text t rs p used root =
    go (check_answer_in (lent text) t rs p used root) refl (ltb 4096 (tree_count rs root))
    (ltb 128 (length (minterms (held_at rs p used) root)))
  where
    go : (c : CheckAnswer) → check_answer_in (lent text) t rs p used root ≡ c → (b d : Bool) →
        NewRoot used root (rewrite_if c (cond b (answer.Refused 8) (cond d (answer.Refused 9)
        (outcome_answer t rs used (outcome_with text rs p used root)))))
    go (check.Refused k) e b d = tt
    go check.Accepted e true d = tt
    go check.Accepted e false true = tt
    go check.Accepted e false false =
        outcome_new_root t rs used root (checked-in (lent text) t rs p used root e).root-used
        (outcome_with text rs p used root) (full-with text rs p used root)

pub root-is_new_with : RootIsNewWith
root-is_new_with text t rs p used root new_root new_used e =
    subst (NewRoot used root) e (new-root_with text t rs p used root)

-- Request 2.13.
pub passes-at_most_with : PassesAtMostColumnsWith
unfolding rewrite_passes_with
passes-at_most_with text rs p used root =
    subst (λ es. rewrite_passes_with text rs p used root ≤ length (edge_columns es)) (sym (bits-equalities rs p used root))
    (merge_passes-at_most (holding text) (read_conjuncts (held_at rs p used) root))

-- Demand 3, whole, of the definitions (specs/Demand.antt has the statements).
use Rattle.records.proofs.Loops.{all_holds}
use Rattle.merge.specs.Demand.{root_after, used_after}
use mathlib.Core.Path.{◌≡◌, refl, sym, ◌∙◌, ap, subst}
use mathlib.Core.Bool.{Bool, true, false, not, ◌&&◌, ◌||◌, cond, true≢false, and-eq-true_iff}
use mathlib.Core.List.{List, [], ◌∷◌, ◌++◌}
use mathlib.Core.Logic.{◌↔◌}
use mathlib.Core.Option.{Option, none, some}
use Prim.Native.Nat.{ℕ, zero, suc, ◌+◌, ◌*◌, ◌/◌, ◌≤◌, ◌<◌}
use native.Mathlib.Omega.{arith}
use lib.Dec.{eqb, ltb, leb}
use lib.IntN.{ℤ, suc_ℤ, pred_ℤ, pos, suc-pred}
use lib.ListN.{length, get_or}
use mir.Syntax.{w64}
use mir.Val.{to_z}
use borrow.Author.Tests.{ltb-true, lt-ltb, le-ltb, ltb-false, leb-true}
use Rattle.records.specs.Bytes.{word, all}
use Rattle.records.specs.Operator.{operator_at}
use Rattle.records.specs.Record.{node, fields_at, decode, record_at}
use Rattle.checking.specs.Tree.{tree_count}
use Rattle.checking.specs.Check.{check_answer}
use Rattle.checking.specs.Checked.{Checked}
use Rattle.checking.proofs.Accepted.{checked}
use Rattle.records.specs.declared.operator.Operator.{Operator}
use Rattle.records.specs.declared.record.Fields.{Fields}
use Rattle.records.specs.declared.record.Record.{Record}
use Rattle.records.specs.declared.record.Record.TheVariants as kind
use Rattle.checking.specs.Answer.{CheckAnswer}
use Rattle.checking.specs.Answer as check
use Rattle.truth.specs.Halves.{ord_z, twice, key}
use Rattle.truth.proofs.Orders.{total-z}
use Rattle.three_valued.specs.declared.logic.Truth.{Truth}
use Rattle.three_valued.specs.declared.logic.Truth.TheVariants.{False, True}
use Rattle.three_valued.specs.Logic.{is_true}
use Rattle.truth.specs.AExpr.{AExpr, Literal, Missing, WF}
use Rattle.truth.specs.FromBytes.{binary_expr, to_aexpr, aexpr_of, aexpr_at, truth_keys, truth_in}
use Rattle.truth.proofs.HalfPoints as half
use Rattle.truth.proofs.Agree.{cells_agree}
use Rattle.constraints.specs.Scalars.{Scalars}
use Rattle.constraints.specs.Payload as values
use Rattle.constraints.specs.Values.{is_empty}
use Rattle.merge.specs.declared.answer.RewriteAnswer.{RewriteAnswer}
use Rattle.merge.specs.declared.answer.RewriteAnswer.TheVariants as answer
use Rattle.merge.specs.Minterms.{minterms}
use Rattle.merge.specs.Classify.{read_conjuncts}
use Rattle.constraints.specs.Comparisons.{ColumnComparison}
use Rattle.merge.specs.Emit.{merge_filter_constraints, Outcome, Unchanged, NothingPasses, Rebuilt}
use Rattle.merge.specs.Plain.{reads_column, is_number_column, reads_only_numbers, plain_conjuncts, plain_screen}
use Rattle.merge.specs.Plain.{reaches_division}
use Rattle.merge.specs.Rebuild.{comparison_nodes}
use Rattle.merge.specs.Write.{outcome_bytes}
use Rattle.merge.specs.Rewrite.{outcome_of, chain_nodes, chain_root, chain_used, has_room, chain_fits, outcome_answer}
use Rattle.merge.specs.Rewrite.{rewrite_if, rewrite_answer, written_if, rewrite_bytes}
use Rattle.merge.specs.Demand as demand
use Rattle.merge.proofs.Passes.{eqb-path, eqb-self}
use Rattle.merge.proofs.Chains.{Below}
use Rattle.merge.proofs.PlainForms.{plain-same}
use Rattle.merge.proofs.Unreached.{plain-unreached}
use Rattle.merge.proofs.Witness.{HalfPoints}
use Rattle.merge.proofs.Complete.{is_nothing_passes}
use Rattle.merge.proofs.Whole.{is_true_lem, outcome, Keeps, outcome_keeps}
use Rattle.merge.proofs.Rebuilding.{Built, nodes_below}
use Rattle.merge.proofs.Returned.{returned, NotEmpty, AnswerLt, answer_lt, same-passes}
use Rattle.merge.proofs.Typed.{Row, Numeric, OneOfTwo, nothing-found_typed}
use Rattle.merge.proofs.Literals.{ConjunctsP, OutcomeP, WrittenP}
use Rattle.merge.proofs.Fitting.{AExprP, Both, both-opens, apart_p, outcome_p}
use Rattle.merge.proofs.Written.{Word, Holds, holds-put}
use Rattle.merge.proofs.RebuiltBytes.{Long, Fit, literal_record, literal-words, bits-read, same_read, chain-holds}
use Rattle.merge.proofs.Compared.{full-right, nodes_full, rebuilt-compares}
use Rattle.merge.proofs.Accepted.{binary-ind, inputs-fall}

-- ---- The values of a screen, spelled out.
abbrev pub payload : Scalars ℤ ℕ
payload =
    record {
      key = key;
      order = ord_z;
      total = total-z;
      opened = λ held excluded. excluded;
      opened-key = λ held excluded. refl;
    }

payload-is : values.payload ≡ payload
unfolding values.payload
payload-is = refl

abbrev pub merged : List ℕ → List ℕ → ℕ → ℕ → Outcome ℕ
merged rs p used root = merge_filter_constraints payload (read_conjuncts (aexpr_at rs p used) root)

pub merged_is : (rs p : List ℕ) (used root : ℕ) → outcome_of rs p used root ≡ merged rs p used root
merged_is rs p used root = ap (λ S. merge_filter_constraints S (read_conjuncts (aexpr_at rs p used) root)) payload-is

-- ---- The keys of 64-bit values leave room between them.
unfoldable pub halves : HalfPoints payload
halves =
    record {
      hi = suc_ℤ;
      lo = pred_ℤ;
      nil = pos 1;
      hi_above = λ v. half.suc-above (key v);
      hi_below = λ v w. half.half_below (to_z w64 v) (to_z w64 w);
      lo_below = λ v. half.pred_below (key v);
      hi_off = λ v w. half.half_is_no_whole (to_z w64 v) (to_z w64 w);
      lo_off = λ v w e. half.half_is_no_whole (to_z w64 w) (to_z w64 v) (sym (sym (suc-pred (key v)) ∙ ap suc_ℤ e));
      nil_off = λ w. half.one-half_is_no_whole (to_z w64 w);
    }

false-is_false : True ≡ False → ⊥
false-is_false e = true≢false (ap is_true e)

bool_same : (a b : Bool) → (a ≡ true) ↔ (b ≡ true) → b ≡ a
bool_same true b h = h.0 refl
bool_same false true h = sym (h.1 refl)
bool_same false false h = refl

pub or_no : (a b : Bool) → (a || b) ≡ false → (a ≡ false) × (b ≡ false)
or_no true b e = absurd (true≢false e)
or_no false b e = (refl, e)

pub and_yes : (a b : Bool) → (a && b) ≡ true → (a ≡ true) × (b ≡ true)
and_yes a b h = (and-eq-true_iff a b).0 h

-- ---- What is read of bytes fits the fields of a record.
word_small : (rs : List ℕ) (j : ℕ) → demand.AreBytes rs → word rs j < 4294967296
unfolding word
word_small rs j h = omega (arith, h j, h (j + 1), h (j + 2), h (j + 3))

abbrev pub opens : (w e : ℕ) → Long w → Long e → Long (payload.opened w e)
opens w e h k = k

abbrev Fits : AExpr ℕ → Type 0
Fits r = AExprP payload Long opens Word r

binary-fits : (o : Operator) (x y : ℕ) → Fits (binary_expr o x y)
binary-fits o x y = binary-ind Fits x y tt (tt, tt) o (λ e c. tt) (λ e. (tt, tt)) (λ e d b. tt)

by_kind : (p : List ℕ) (k m : ℕ) (x y : Record) → Fits (to_aexpr p x) → Fits (to_aexpr p y) →
    Fits (to_aexpr p (cond (eqb k m) x y))
by_kind p k m x y h g = go (eqb k m)
  where
    go : (b : Bool) → Fits (to_aexpr p (cond b x y))
    go true = h
    go false = g

decoded_fits : (p : List ℕ) (f : Fields) → Word f.a → Word f.b → Word f.c → Fits (to_aexpr p (decode f))
unfolding decode
decoded_fits p f ha hb hc =
    by_kind p f.kind 1 _ _ ha
    (by_kind p f.kind 2 _ _ (omega arith)
    (by_kind p f.kind 3 _ _ tt
    (by_kind p f.kind 4 _ _ (binary-fits (operator_at f.code) f.a f.b)
    (by_kind p f.kind 5 _ _ tt
    (by_kind p f.kind 6 _ _ tt
    (by_kind p f.kind 7 _ _ tt
    (by_kind p f.kind 8 _ _ tt
    (by_kind p f.kind 9 _ _ tt
    (by_kind p f.kind 10 _ _ tt
    tt)))))))))

record_fits : (rs p : List ℕ) (used : ℕ) → demand.AreBytes rs → (n : ℕ) → Fits (aexpr_at rs p used n)
unfolding aexpr_at aexpr_of record_at fields_at
record_fits rs p used h n = go (ltb n used)
  where
    go : (b : Bool) → Fits (cond b (to_aexpr p (decode (fields_at rs (node n)))) Missing)
    go true =
        decoded_fits p (fields_at rs (node n)) (word_small rs (16 * n + 4) h) (word_small rs (16 * n + 8) h)
        (word_small rs (16 * n + 12) h)
    go false = tt

-- so do the columns and values of the conjuncts
pub conjuncts-fit : (rs p : List ℕ) (used root : ℕ) → demand.AreBytes rs →
    ConjunctsP payload (Both payload Long opens Word) (both-opens payload Long opens Word)
    (read_conjuncts (aexpr_at rs p used) root)
conjuncts-fit rs p used root h = apart_p payload Long opens Word (aexpr_at rs p used) (record_fits rs p used h) root

pub fit_of : (cs : List (ℕ × ColumnComparison ℕ)) → WrittenP payload (Both payload Long opens Word) (both-opens payload Long opens Word) cs → Fit cs
fit_of [] h = tt
fit_of (x ∷ l) h = (h.0, fit_of l h.1)

-- ---- What an answer says of an outcome, where nothing is refused.
module _ (t rs : List ℕ) (used root : ℕ) where
  -- Refusal 11 was not given; nothing is written for an unchanged screen.
  abbrev pub Roomy : Outcome ℕ → Type 0
  Roomy Unchanged = Unit {0}
  Roomy NothingPasses = (suc used ≤ 4096) × (16 * suc used ≤ length rs)
  Roomy (Rebuilt ns cs) = (chain_used used ns cs ≤ 4096) × (16 * chain_used used ns cs ≤ length rs)

  abbrev pub outcome_root : Outcome ℕ → ℕ
  outcome_root Unchanged = root
  outcome_root NothingPasses = used
  outcome_root (Rebuilt ns cs) = chain_root used ns cs

  abbrev pub outcome_used : Outcome ℕ → ℕ
  outcome_used Unchanged = used
  outcome_used NothingPasses = suc used
  outcome_used (Rebuilt ns cs) = chain_used used ns cs

  pub record Exit (o : Outcome ℕ) (a : RewriteAnswer) : Type 0 where
    pub written : written_if a rs (outcome_bytes t rs used o) ≡ outcome_bytes t rs used o
    pub new_root : root_after a root ≡ outcome_root o
    pub new_used : used_after a used ≡ outcome_used o
    pub roomy : Roomy o
    pub nothing : demand.is_nothing a ≡ is_nothing_passes payload halves o

  pub room_of : (u : ℕ) → has_room rs u ≡ true → (u ≤ 4096) × (16 * u ≤ length rs)
  room_of u h =
      let b = and_yes (leb u 4096) (leb u (length rs / 16)) h in
      let l : u ≤ 4096 = leb-true u 4096 b.0 in
      let m : u ≤ length rs / 16 = leb-true u (length rs / 16) b.1 in
      (l, omega arith)

  pub exit_of : (o : Outcome ℕ) → demand.is_refused (outcome_answer t rs used o) ≡ false →
      Exit o (outcome_answer t rs used o)
  exit_of Unchanged h = record { written = refl; new_root = refl; new_used = refl; roomy = tt; nothing = refl }
  exit_of NothingPasses h = go (has_room rs (suc used)) refl h
    where
      go :
          (b : Bool) → has_room rs (suc used) ≡ b →
          demand.is_refused (cond b (answer.NothingPasses used (suc used)) (answer.Refused 11)) ≡ false →
          Exit NothingPasses (cond b (answer.NothingPasses used (suc used)) (answer.Refused 11))
      go true e h =
          record { written = refl; new_root = refl; new_used = refl; roomy = room_of (suc used) e; nothing = refl }
      go false e h = absurd (true≢false h)
  exit_of (Rebuilt ns cs) h = go (chain_fits t rs used ns cs) refl h
    where
      a : Bool → RewriteAnswer
      a c = cond c (answer.Rewritten (chain_root used ns cs) (chain_used used ns cs)) (answer.Refused 11)

      go :
          (c : Bool) → chain_fits t rs used ns cs ≡ c →
          demand.is_refused (a c) ≡ false → Exit (Rebuilt ns cs) (a c)
      go true f h =
          record {
            written = refl;
            new_root = refl;
            new_used = refl;
            roomy = room_of (chain_used used ns cs) (and_yes (has_room rs (chain_used used ns cs)) _ f).0;
            nothing = refl;
          }
      go false f h = absurd (true≢false h)

-- ---- An accepted screen.
module _ (t rs p : List ℕ) (used root : ℕ) (bytes : demand.AreBytes rs) (ok : Checked t rs p used root) where
  abbrev pub R : ℕ → AExpr ℕ
  R n = aexpr_at rs p used n

  abbrev pub good : WF R
  good n = inputs-fall t rs p used root ok n

  abbrev pub back : Outcome ℕ → Built ℕ
  back o = returned payload halves truth_keys 0 refl R good used root o

  abbrev Fitting : Outcome ℕ → Type 0
  Fitting Unchanged = Unit {0}
  Fitting NothingPasses = Unit {0}
  Fitting (Rebuilt ns cs) = Fit cs

  -- What the answer says of the outcome, where nothing is refused.
  pub record Told (o : Outcome ℕ) (a : RewriteAnswer) : Type 0 where
    pub written : written_if a rs (outcome_bytes t rs used o) ≡ outcome_bytes t rs used o
    pub new_root : root_after a root ≡ (back o).root
    pub new_used : used_after a used ≡ (back o).used
    pub roomy : Roomy t rs used root o
    pub full : NotEmpty payload halves truth_keys 0 refl R good used o
    pub nothing : demand.is_nothing a ≡ is_nothing_passes payload halves o

  root-back : (o : Outcome ℕ) → outcome_root t rs used root o ≡ (back o).root
  root-back Unchanged = refl
  root-back NothingPasses = refl
  root-back (Rebuilt ns cs) = refl

  used-back : (o : Outcome ℕ) → outcome_used t rs used root o ≡ (back o).used
  used-back Unchanged = refl
  used-back NothingPasses = refl
  used-back (Rebuilt ns cs) = refl

  told : (o : Outcome ℕ) → NotEmpty payload halves truth_keys 0 refl R good used o
      → demand.is_refused (outcome_answer t rs used o) ≡ false → Told o (outcome_answer t rs used o)
  told o e h =
      let x = exit_of t rs used root o h in
      record {
        written = x.written;
        new_root = x.new_root ∙ root-back o;
        new_used = x.new_used ∙ used-back o;
        roomy = x.roomy;
        full = e;
        nothing = x.nothing;
      }

  -- The bytes at exit hold the records of the screen returned.
  out_holds :
      (o : Outcome ℕ) → AnswerLt payload used o → Roomy t rs used root o → Fitting o →
      Holds (outcome_bytes t rs used o) p (back o).used (back o).records
  unfolding aexpr_at aexpr_of
  out_holds Unchanged b room f n = refl
  out_holds NothingPasses b room f n =
      let k : 16 * suc used ≤ length rs = room.1 in
      holds-put (to_aexpr p) rs used (literal_record 3 0) R (Literal 0) (omega arith) (literal-words 3 0 (omega arith)) refl
      (λ n. refl) n
  out_holds (Rebuilt ns cs) b room f n =
      chain-holds (to_aexpr p) (bits-read p) t rs used ns cs cs (same_read p t cs) R room.1 room.0 f
      (nodes_below payload truth_keys (λ c. none) used ns cs b) (λ n. refl) n

  fitting : (o : Outcome ℕ) → OutcomeP payload (Both payload Long opens Word) (both-opens payload Long opens Word) o →
      Fitting o
  fitting Unchanged h = tt
  fitting NothingPasses h = tt
  fitting (Rebuilt ns cs) h = fit_of cs h

  abbrev pub o : Outcome ℕ
  o = merged rs p used root

  abbrev pub a : RewriteAnswer
  a = outcome_answer t rs used o

  -- A rebuilt chain has a conjunct.
  pub chain-is_full : (ns : List ℕ) (cs : List (ℕ × ColumnComparison ℕ)) → outcome_of rs p used root ≡ Rebuilt ns cs →
      is_empty (chain_nodes used ns cs) ≡ false
  chain-is_full ns cs e =
      full-right ns (comparison_nodes used cs) (nodes_full used cs
      (rebuilt-compares values.payload R (minterms R root) ns cs e))

  never_empty : (x : Outcome ℕ) → merged rs p used root ≡ x → NotEmpty payload halves truth_keys 0 refl R good used x
  never_empty Unchanged e = tt
  never_empty NothingPasses e = tt
  never_empty (Rebuilt ns cs) e = chain-is_full ns cs (merged_is rs p used root ∙ e)

  -- The kept nodes are used records, and the comparisons fit the fields of a record.
  pub chain-fits_fields : (ns : List ℕ) (cs : List (ℕ × ColumnComparison ℕ)) → outcome_of rs p used root ≡
      Rebuilt ns cs →
      Below used ns × Fit cs
  chain-fits_fields ns cs e =
      let q : merged rs p used root ≡ Rebuilt ns cs = sym (merged_is rs p used root) ∙ e in (
        subst (AnswerLt payload used) q (answer_lt payload used halves truth_keys R good root ok.root-used),
        subst Fitting q (fitting o (outcome_p payload Long opens Word R (record_fits rs p used bytes) root)),
      )

  module _ (kept : demand.is_refused a ≡ false) where
    pub is : Told o a
    is = told o (never_empty o refl) kept

    pub holds : Holds (outcome_bytes t rs used o) p (back o).used (back o).records
    holds =
        out_holds o (answer_lt payload used halves truth_keys R good root ok.root-used) is.roomy
        (fitting o (outcome_p payload Long opens Word R (record_fits rs p used bytes) root))

    -- The row test of the bytes at exit is that of the records of the screen returned.
    exit_same :
        (row : demand.Row) →
        demand.passes (written_if a rs (outcome_bytes t rs used o)) p (used_after a used) (root_after a root) row
        ≡ is_true (truth_in (back o).records row (back o).root)
    exit_same row =
        ap (λ w. demand.passes w p (used_after a used) (root_after a root) row) is.written
        ∙ ap (λ u. demand.passes (outcome_bytes t rs used o) p u (root_after a root) row) is.new_used
        ∙ ap (λ r. demand.passes (outcome_bytes t rs used o) p (back o).used r row) is.new_root
        ∙ ap (λ c. is_true c.truth)
        (cells_agree key ord_z truth_keys (aexpr_at (outcome_bytes t rs used o) p (back o).used) (back o).records row
        (suc (back o).root) (λ n h. holds n) (back o).root (omega arith))

    rows_same :
        (row : demand.Row) →
        demand.passes (written_if a rs (outcome_bytes t rs used o)) p (used_after a used) (root_after a root) row
        ≡ demand.passes rs p used root row
    rows_same row =
        exit_same row
        ∙ bool_same (demand.passes rs p used root row) (is_true (truth_in (back o).records row (back o).root))
        (same-passes payload halves truth_keys 0 refl R good used row root ok.root-used is.full)

    -- Where nothing passes, the screen sent lets no row pass.
    none-sent : demand.is_nothing a ≡ true → (row : demand.Row) → demand.passes rs p used root row ≡ false
    none-sent h row = go o (sym is.nothing ∙ h) (outcome_keeps payload halves truth_keys R good row root)
      where
        no : (b : Bool) → (b ≡ true → ⊥) → b ≡ false
        no true f = absurd (f refl)
        no false f = refl

        go :
            (x : Outcome ℕ) → is_nothing_passes payload halves x ≡ true → Keeps payload halves truth_keys R good row root
            x →
            demand.passes rs p used root row ≡ false
        go NothingPasses e k =
            no (demand.passes rs p used root row) (λ e. k ((is_true_lem (truth_in (aexpr_at rs p used) row root)).0 e))
        go Unchanged e k = absurd (true≢false (sym e))
        go (Rebuilt ns cs) e k = absurd (true≢false (sym e))

    -- ---- Plain screens.
    abbrev num : ℕ → Bool
    num c = not (ltb c (length t)) || is_number_column t c

    row_of : (row : demand.Row) → demand.IsRow t R root row → Row payload halves truth_keys num row
    row_of row h c e =
        let q = or_no (not (ltb c (length t))) (is_number_column t c) e in
        h.truths c (ltb-true c (length t) (not-no (ltb c (length t)) q.0)) q.1
      where
        not-no : (b : Bool) → not b ≡ false → b ≡ true
        not-no true e = refl
        not-no false e = absurd (true≢false e)

    -- a root that reaches no division asks no more of a row
    is_row : reaches_division R root ≡ false → (row : demand.Row) → Row payload halves truth_keys num row →
        demand.IsRow t R root row
    is_row u row h =
        record {
          truths = λ c l e. h c (rw (lt-ltb c (length t) l, e));
          typed = λ e. absurd (true≢false (sym e ∙ u));
        }

    numeric : reads_only_numbers t R root ≡ true → Numeric payload halves truth_keys num R good root
    numeric h c e = go (ltb c (length t)) refl
      where
        imp : (x y : Bool) → (not x || y) ≡ true → x ≡ true → y ≡ true
        imp true y h e = h
        imp false y h e = absurd (true≢false (sym e))

        go : (b : Bool) → ltb c (length t) ≡ b → (not b || is_number_column t c) ≡ true
        go true l =
            imp (reads_column R root c) (is_number_column t c)
            (all_holds (λ i. not (reads_column R root i) || is_number_column t i) c (length t) (ltb-true c (length t) l) h)
            e
        go false l = refl

    exactly :
        plain_screen t R root ≡ true →
        (demand.is_nothing a ≡ true) ↔ ((row : demand.Row) → demand.IsRow t R root row →
        demand.passes rs p used root row ≡ true → ⊥)
    exactly h =
        let q = and_yes (reads_only_numbers t R root) (plain_conjuncts R (minterms R root)) h in
        let u = plain-unreached R good root q.1 in
        let f = nothing-found_typed payload halves truth_keys num R good root (sym (plain-same R (minterms R root)) ∙
        q.1) (numeric q.0) in (
          λ e row r s. f.0 (sym is.nothing ∙ e) row (row_of row r) ((is_true_lem (truth_in R row root)).0 s),
          λ g. is.nothing ∙ f.1 (λ row r s. g row (is_row u row r) ((is_true_lem (truth_in R row root)).1 s)),
        )

-- ---- From the answer to the screen.
-- What is not refused was accepted by checking, with a tree within 4,096 records and conjuncts within 128.
pub settled_by :
    (c : CheckAnswer) (b d : Bool) (x : RewriteAnswer) →
    demand.is_refused (rewrite_if c (cond b (answer.Refused 8) (cond d (answer.Refused 9) x))) ≡ false →
    (c ≡ check.Accepted) × (b ≡ false)
    × (rewrite_if c (cond b (answer.Refused 8) (cond d (answer.Refused 9) x)) ≡ x)
settled_by (check.Refused k) b d x h = absurd (true≢false h)
settled_by check.Accepted true d x h = absurd (true≢false h)
settled_by check.Accepted false true x h = absurd (true≢false h)
settled_by check.Accepted false false x h = (refl, refl, refl)

pub settled :
    (t rs p : List ℕ) (used root : ℕ) → demand.AcceptedScreen t rs p used root →
    (check_answer t rs p used root ≡ check.Accepted)
    × (rewrite_answer t rs p used root ≡ outcome_answer t rs used (merged rs p used root))
unfolding rewrite_answer
settled t rs p used root h =
    let r = settled_by (check_answer t rs p used root) (ltb 4096 (tree_count rs root))
    (ltb 128 (length (minterms (aexpr_at rs p used) root))) (outcome_answer t rs used (outcome_of rs p used root)) h in
    (r.0, r.2 ∙ ap (outcome_answer t rs used) (merged_is rs p used root))

-- Demand 3 (01, 'Statements and samples').
pub demand-3 : demand.Demand3Holds
unfolding rewrite_bytes
demand-3 t rs p used root bytes h =
    record {
      rows = λ row r. rows row;
      counts = λ chain c. counts chain;
      nothing = λ e chain c. none chain e;
      exactly = λ q. swap (exactly t rs p used root bytes ok kept q);
    }
  where
    s : (check_answer t rs p used root ≡ check.Accepted)
        × (rewrite_answer t rs p used root ≡ outcome_answer t rs used (merged rs p used root))
    s = settled t rs p used root h

    ok : Checked t rs p used root
    ok = checked t rs p used root s.0

    x : RewriteAnswer
    x = outcome_answer t rs used (merged rs p used root)

    kept : demand.is_refused x ≡ false
    kept = subst (λ a. demand.is_refused a ≡ false) s.1 h

    w : List ℕ → RewriteAnswer → demand.Row → Bool
    w b a row = demand.passes (written_if a rs b) p (used_after a used) (root_after a root) row

    rows : (row : demand.Row) → demand.passes_returned t rs p used root row ≡ demand.passes_sent t rs p used root row
    rows row =
        ap (λ b. w b (rewrite_answer t rs p used root) row) (ap (outcome_bytes t rs used) (merged_is rs p used root))
        ∙ ap (λ a. w (outcome_bytes t rs used (merged rs p used root)) a row) s.1
        ∙ rows_same t rs p used root bytes ok kept row

    counts : (chain : List demand.Row) → demand.count_returned t rs p used root chain ≡
        demand.count_sent t rs p used root chain
    counts [] = refl
    counts (row ∷ chain) = rw (rows row, counts chain)

    none : (chain : List demand.Row) → demand.is_nothing (rewrite_answer t rs p used root) ≡ true →
        demand.count_sent t rs p used root chain ≡ 0
    none [] e = refl
    none (row ∷ chain) e =
        rw (none-sent t rs p used root bytes ok kept (subst (λ a. demand.is_nothing a ≡ true) s.1 e) row)
        (none chain e)

    swap : {B : Type 0} → (demand.is_nothing x ≡ true) ↔ B → (demand.is_nothing (rewrite_answer t rs p used root) ≡ true)
        ↔ B
    swap {B} q = subst (λ a. (demand.is_nothing a ≡ true) ↔ B) (sym s.1) q

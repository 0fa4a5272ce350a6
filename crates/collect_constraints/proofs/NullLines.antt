-- The number of the conjunct that first required null or not null: one conjunct more.
use mathlib.Core.Path.{◌≡◌, refl, sym, ◌∙◌, ap, subst}
use mathlib.Core.Bool.{Bool, true, false, not, cond, ◌&&◌, true≢false, and-false}
use mathlib.Core.List.{List, [], ◌∷◌}
use Prim.Native.Nat.{ℕ, ◌+◌, ◌<◌, ◌≤◌, ◌%◌}
use native.Mathlib.Omega.{arith}
use lib.ListN.{length, get_or, set}
use lib.Seq.{get_or-set_same, get_or-set_other}
use lib.Dec.{eqb, ltb}
use borrow.Author.Tests.{eqb-true, eqb-false, ltb-true, ltb-false, lt-ltb}
use Rattle.records.proofs.Laws.{by-test}
use Rattle.truth.specs.AExpr.{AExpr}
use Rattle.constraints.specs.Column as q
use Rattle.constraints.specs.Column.{Constraint, Lower, Upper, Exclude, Allow, Disallow, Require, put, add, add_all, first_required}
use Rattle.constraints.specs.Lined.{Lined, lined}
use Rattle.constraints.specs.declared.column.Nullability.{Nullability}
use Rattle.constraints.specs.declared.column.Nullability.TheVariants.{Unconstrained, Null, NonNull}
use Rattle.column_constraints.specs.Abstraction.{Conjuncts, conjuncts, numbered, column_of}
use Rattle.column_constraints.specs.declared.column.ColumnConstraints.{ColumnConstraints}
use Rattle.merge.specs.Lines.{lines_from}
use Rattle.read_operands.specs.Walk.{first_of}
use Rattle.column_table.specs.State.{Shows, collect_to}
use Rattle.collect_constraints.specs.NullLines.{is_required, required_after, FirstRequires, NullLine, not_yet, first}
use Rattle.collect_constraints.specs.NullLines.{NullLines, NullKept}
use Rattle.column_table.specs.Words.{past_column}
use Rattle.column_table.proofs.Arrays.{low-slot}
use Rattle.collect_constraints.proofs.Collecting.{collect-end}
use Rattle.column_constraints.specs.Abstraction.{conjuncts_of}

-- ---- a requirement stays
first-stays : (m n : Nullability) → is_required m ≡ true → is_required (first_required m n) ≡ true
first-stays Unconstrained n h = absurd (true≢false (sym h))
first-stays Null n h = refl
first-stays NonNull n h = refl

put-stays : (k : Constraint Lined) (cc : q.ColumnConstraints Lined) → is_required cc.nullability ≡ true →
    is_required (put lined k cc).nullability ≡ true
put-stays (Lower i v) cc h = h
put-stays (Upper i v) cc h = h
put-stays (Exclude v) cc h = h
put-stays (Allow l) cc h = h
put-stays (Disallow s l) cc h = h
put-stays (Require n) cc h = first-stays cc.nullability n h

pub add-stays : (k : Constraint Lined) (cc : q.ColumnConstraints Lined) → is_required cc.nullability ≡ true →
    is_required (add lined k cc).nullability ≡ true
add-stays k cc h = go cc.unsat
  where
    go : (b : Bool) → is_required (cond b cc (put lined k cc)).nullability ≡ true
    go true = h
    go false = put-stays k cc h

pub all_stays : (l : List (Constraint Lined)) (cc : q.ColumnConstraints Lined) → is_required cc.nullability ≡ true →
    is_required (add_all lined l cc).nullability ≡ true
all_stays [] cc h = h
all_stays (k ∷ l) cc h = all_stays l (add lined k cc) (add-stays k cc h)

-- ---- one column stored
pub null_kept_lem : (table table' : List ColumnConstraints) (a x j : ℕ) (c r : ColumnConstraints) → length table ≡ 64 → a < 64
    → x ≡ a % 64 → c ≡ get_or table x past_column
    → (is_required c.nullability ≡ true → is_required r.nullability ≡ true)
    → r.since ≡ cond (is_required c.nullability) c.since j → table' ≡ set table x r
    → NullKept table table' j
null_kept_lem table table' a x j c r size la ex hc stay el et =
    record {
      stays = λ b lb h. by-test (eqb x b)
          (λ e. subst (λ y. is_required (get_or table y past_column).nullability ≡ true
          → ((get_or table' y past_column).since ≡ (get_or table y past_column).since)
          × (is_required (get_or table' y past_column).nullability ≡ true)) (eqb-true x b e) stays-x h)
          (λ e. (ap (λ d. d.since) (other b e), ap (λ d. is_required d.nullability) (other b e) ∙ h));
      new = λ b lb h g. by-test (eqb x b)
          (λ e. subst (λ y. is_required (get_or table y past_column).nullability ≡ false
          → (get_or table' y past_column).since ≡ j) (eqb-true x b e) new-x h)
          (λ e. absurd (true≢false (sym g ∙ ap (λ d. is_required d.nullability) (other b e) ∙ h)));
    }
  where
    here : get_or table' x past_column ≡ r
    here =
        let p : x ≡ a = low-slot a x la ex in
        ap (λ t. get_or t x past_column) et ∙ get_or-set_same table x r past_column (omega (arith, p, la, size))

    other : (b : ℕ) → eqb x b ≡ false → get_or table' b past_column ≡ get_or table b past_column
    other b e = ap (λ t. get_or t b past_column) et ∙ get_or-set_other table x b r past_column (λ z. eqb-false x b e (sym z))

    stays-x : is_required (get_or table x past_column).nullability ≡ true
        → ((get_or table' x past_column).since ≡ (get_or table x past_column).since)
        × (is_required (get_or table' x past_column).nullability ≡ true)
    stays-x h =
        let k : is_required c.nullability ≡ true = ap (λ d. is_required d.nullability) hc ∙ h in (
          ap (λ d. d.since) here ∙ el ∙ ap (λ b. cond b c.since j) k ∙ ap (λ d. d.since) hc,
          ap (λ d. is_required d.nullability) here ∙ stay k,
        )

    new-x : is_required (get_or table x past_column).nullability ≡ false → (get_or table' x past_column).since ≡ j
    new-x h =
        let k : is_required c.nullability ≡ false = ap (λ d. is_required d.nullability) hc ∙ h in
        ap (λ d. d.since) here ∙ el ∙ ap (λ b. cond b c.since j) k

-- as the calls for one column have it
pub null_required : (table table' : List ColumnConstraints) (a x j : ℕ) (c r : ColumnConstraints) → length table ≡ 64
    → a < 64 → x ≡ a % 64 → c ≡ get_or table x past_column
    → ((t : Conjuncts) (m : List ℕ) → column_of t (numbered m r) ≡ add lined (Require NonNull) (column_of t (numbered m c)))
    → r.since ≡ cond (is_required c.nullability) c.since j → table' ≡ set table x r
    → NullKept table table' j
null_required table table' a x j c r size la ex hc er el et =
    let t : Conjuncts = conjuncts_of [] [] [] [] [] in
    null_kept_lem table table' a x j c r size la ex hc
    (λ h. ap (λ d. is_required d.nullability) (er t []) ∙ add-stays (Require NonNull) (column_of t (numbered [] c)) h) el et

pub null_added : (table table' : List ColumnConstraints) (a x j : ℕ) (c r : ColumnConstraints) (t : Conjuncts) (m m' : List ℕ)
    (l : List (Constraint Lined)) → length table ≡ 64 → a < 64 → x ≡ a % 64 → c ≡ get_or table x past_column
    → column_of t (numbered m' r) ≡ add_all lined l (column_of t (numbered m c))
    → r.since ≡ cond (is_required c.nullability) c.since j → table' ≡ set table x r
    → NullKept table table' j
null_added table table' a x j c r t m m' l size la ex hc er el et =
    null_kept_lem table table' a x j c r size la ex hc
    (λ h. ap (λ d. is_required d.nullability) er ∙ all_stays l (column_of t (numbered m c)) h) el et

pub null_same : (table : List ColumnConstraints) (j : ℕ) → NullKept table table j
null_same table j =
    record { stays = λ a la h. (refl, h); new = λ a la h g. absurd (true≢false (sym g ∙ h)) }

pub null_both : (t t₁ t₂ : List ColumnConstraints) (j : ℕ) → NullKept t t₁ j → NullKept t₁ t₂ j → NullKept t t₂ j
null_both t t₁ t₂ j K L =
    record {
      stays = λ a la h. let s = K.stays a la h in
          let u = L.stays a la s.1 in (u.0 ∙ s.0, u.1);
      new = λ a la h g. by-test (is_required (get_or t₁ a past_column).nullability)
          (λ e. (L.stays a la e).0 ∙ K.new a la h e) (λ e. L.new a la e g);
    }

-- ---- the numbers held
pub nulls_none : (R : ℕ → AExpr ℕ) (nodes : List ℕ) (table : List ColumnConstraints) → NullLines R nodes 0 table
unfolding collect_to first_of lines_from
nulls_none R nodes table a la = not_yet (λ k l. let e : 0 ≡ k = omega (arith, l) in
    subst (λ n. required_after R nodes n a ≡ false) e start)
  where
    start : required_after R nodes 0 a ≡ false
    start = refl

pub nulls_more : (t : Conjuncts) (table table' : List ColumnConstraints) (ms ms' : List ℕ) (R : ℕ → AExpr ℕ)
    (nodes : List ℕ) (i : ℕ) → Shows t table ms (collect_to R nodes i).constraints
    → Shows t table' ms' (collect_to R nodes (i + 1)).constraints → NullKept table table' i
    → NullLines R nodes i table → NullLines R nodes (i + 1) table'
nulls_more t table table' ms ms' R nodes i S S' K N a la = go (N a la)
  where
    now : is_required (get_or table a past_column).nullability ≡ required_after R nodes i a
    now = ap (λ c. is_required c.nullability) (S.column a la)

    then : is_required (get_or table' a past_column).nullability ≡ required_after R nodes (i + 1) a
    then = ap (λ c. is_required c.nullability) (S'.column a la)

    go : NullLine R nodes i a (get_or table a past_column).since
        → NullLine R nodes (i + 1) a (get_or table' a past_column).since
    go (first f) =
        let s = K.stays a la (now ∙ f.still) in
        let l = f.below in
        subst (NullLine R nodes (i + 1) a) (sym s.0)
        (first (record {
          below = omega (arith, l);
          before = f.before;
          after = f.after;
          still = sym then ∙ s.1;
        }))
    go (not_yet u) = by-test (is_required (get_or table' a past_column).nullability)
        (λ e. subst (NullLine R nodes (i + 1) a) (sym (K.new a la (now ∙ u i (omega arith)) e))
        (first (record { below = omega arith; before = u; after = sym then ∙ e; still = sym then ∙ e })))
        (λ e. not_yet (λ k l. by-test (eqb k (i + 1))
        (λ p. ap (λ n. required_after R nodes n a) (eqb-true k (i + 1) p) ∙ sym then ∙ e)
        (λ p. let d = eqb-false k (i + 1) p in u k (omega (arith, d, l)))))

-- Where reading ended, all conjuncts are told of.
pub nulls_all : (R : ℕ → AExpr ℕ) (nodes : List ℕ) (i n : ℕ) (b : Bool) (table : List ColumnConstraints) → i ≤ n
    → b ≡ (collect_to R nodes i).unsat → (ltb i n && not b) ≡ false → NullLines R nodes i table → NullLines R nodes n table
nulls_all R nodes i n b table l e h N a la = go (N a la)
  where
    later : (k : ℕ) → i < k → k ≤ n → required_after R nodes i a ≡ required_after R nodes k a
    later k p r =
        let s : not b ≡ false = sym (ap (λ x. x && not b) (lt-ltb i n (omega (arith, p, r)))) ∙ h in
        let z : (ltb i k && not b) ≡ false = ap (λ x. ltb i k && x) s ∙ and-false (ltb i k) in
        ap (λ c. is_required (c.constraints a).nullability) (collect-end R nodes i k b (omega (arith, p)) e z)

    go : NullLine R nodes i a (get_or table a past_column).since → NullLine R nodes n a (get_or table a past_column).since
    go (first f) =
        let m = f.below in
        first (record {
          below = omega (arith, m, l);
          before = f.before;
          after = f.after;
          still = sym (ap (λ c. is_required (c.constraints a).nullability) (collect-end R nodes i n b l e h)) ∙ f.still;
        })
    go (not_yet u) = not_yet (λ k r. by-test (ltb i k)
        (λ p. sym (later k (ltb-true i k p) r) ∙ u i (omega arith))
        (λ p. u k (ltb-false i k p)))

-- A turn of collecting, with the numbers held: A and B are what is known of the table before and after.
pub with_nulls : {A B : Type 0} (t : Conjuncts) (table table' : List ColumnConstraints) (ms ms' : List ℕ)
    (R : ℕ → AExpr ℕ) (nodes : List ℕ) (i : ℕ) → A × NullLines R nodes i table → B → NullKept table table' i
    → (A → Shows t table ms (collect_to R nodes i).constraints)
    → (B → Shows t table' ms' (collect_to R nodes (i + 1)).constraints) → B × NullLines R nodes (i + 1) table'
with_nulls t table table' ms ms' R nodes i known x K f g =
    (x, nulls_more t table table' ms ms' R nodes i (f known.0) (g x) K known.1)

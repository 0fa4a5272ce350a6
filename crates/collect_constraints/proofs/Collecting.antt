-- Collect: one conjunct more.
use mathlib.Core.Path.{◌≡◌, refl, sym, ◌∙◌, ap, subst}
use mathlib.Core.Bool.{Bool, true, false, not, cond, ◌&&◌, true≢false}
use mathlib.Core.List.{List, [], ◌∷◌, ◌++◌, map}
use Prim.Native.Nat.{ℕ, zero, suc, ◌+◌, ◌-◌, ◌<◌, ◌≤◌, ◌%◌}
use native.Mathlib.Omega.{arith}
use native.Mathlib.Numerals.{add-one}
use lib.ListN.{length, get_or, set, replicate, length-replicate, get_or-replicate}
use lib.Dec.{ltb}
use borrow.Author.Tests.{ltb-false}
use Rattle.truth.specs.AExpr.{AExpr}
use Rattle.constraints.specs.Column as q
use Rattle.constraints.specs.Column.{Constraint, Require, add, add_all}
use Rattle.constraints.specs.Lined.{Lined, on_line, lined}
use Rattle.constraints.specs.Mapped.{map_constraint}
use Rattle.constraints.specs.declared.column.Nullability.TheVariants.{NonNull}
use Rattle.column_constraints.specs.Abstraction.{Conjuncts, numbered, column_of, Fine, excluded_by, allowed_by, disallowed_by, gather}
use Rattle.column_constraints.specs.declared.column.ColumnConstraints.{ColumnConstraints}
use Rattle.merge.specs.Classify.{Conjunct, Bounds, Normalized, Equality, Recorded, NonNullPair, Opaque, classify}
use Rattle.merge.specs.Lines.{map_conjunct, lines_from}
use Rattle.merge.specs.Collect.{Collected, begin, collect, collect_one, enter, add_to, require_non_null}
use Rattle.truth.specs.FromBytes.{aexpr_of}
use Rattle.read_operands.specs.Read.{conjunct_in}
use Rattle.read_operands.specs.declared.operands.Conjunct as code
use Rattle.read_operands.specs.Walk.{first_of}
use Rattle.column_table.specs.Words.{past_column}
use Rattle.column_table.specs.State.{ColumnTable, Shows, Added, Entered, Keeps, Edges, Collects, collect_to, edges_of}
use Rattle.rewrite.proofs.Telling.{fine-same}
use Rattle.read_operands.proofs.Walks.{first-length}
use Rattle.column_table.specs.Rows.{stride, row_of, RowsKept}
use Rattle.column_table.proofs.Lending.{rows_same}
use Rattle.column_table.proofs.Arrays.{entered-more, shows-set, keeps-more, edges_more, low-slot}

-- ---- the conjuncts one by one
collect-snoc : (l : List (Conjunct Lined)) (k : Conjunct Lined) (s : Collected Lined)
    → collect lined (l ++ (k ∷ [])) s ≡ cond (collect lined l s).unsat (collect lined l s)
    (collect_one lined k (collect lined l s))
collect-snoc [] k s = refl
collect-snoc (j ∷ l) k s = collect-snoc l k (cond s.unsat s (collect_one lined j s))

classify-snoc : (R : ℕ → AExpr ℕ) (l : List ℕ) (n : ℕ)
    → map (classify R) (l ++ (n ∷ [])) ≡ map (classify R) l ++ (classify R n ∷ [])
classify-snoc R [] n = refl
classify-snoc R (m ∷ l) n = ap (λ x. classify R m ∷ x) (classify-snoc R l n)

lines_snoc : (i : ℕ) (l : List (Conjunct ℕ)) (k : Conjunct ℕ)
    → lines_from i (l ++ (k ∷ [])) ≡ lines_from i l ++ (map_conjunct (on_line (i + length l)) k ∷ [])
unfolding lines_from
lines_snoc i [] k = let e : i ≡ i + 0 = omega arith in ap (λ n. map_conjunct (on_line n) k ∷ []) e
lines_snoc i (j ∷ l) k =
    let e : suc i + length l ≡ i + suc (length l) = omega arith in
    ap (λ x. map_conjunct (on_line i) j ∷ x) (lines_snoc (suc i) l k)
    ∙ ap (λ n. map_conjunct (on_line i) j ∷ (lines_from (suc i) l ++ (map_conjunct (on_line n) k ∷ []))) e

classified_length : (R : ℕ → AExpr ℕ) (nodes : List ℕ) (i : ℕ) → 0 + length (map (classify R) (first_of nodes i)) ≡ i
classified_length R nodes i =
    let e = same (first_of nodes i) in
    let f = first-length nodes i in omega (arith, e, f)
  where
    same : (l : List ℕ) → length (map (classify R) l) ≡ length l
    same [] = refl
    same (n ∷ l) = ap suc (same l)

collect-step : (R : ℕ → AExpr ℕ) (nodes : List ℕ) (i : ℕ)
    → collect_to R nodes (suc i) ≡
    cond (collect_to R nodes i).unsat (collect_to R nodes i) (collect_one lined
    (map_conjunct (on_line i) (classify R (get_or nodes i 0))) (collect_to R nodes i))
unfolding collect_to first_of
collect-step R nodes i =
    let l : List (Conjunct ℕ) = map (classify R) (first_of nodes i) in
    let k : Conjunct ℕ = classify R (get_or nodes i 0) in
    ap (λ x. collect lined (lines_from 0 x) begin) (classify-snoc R (first_of nodes i) (get_or nodes i 0))
    ∙ ap (λ x. collect lined x begin) (lines_snoc 0 l k)
    ∙ ap (λ n. collect lined (lines_from 0 l ++ (map_conjunct (on_line n) k ∷ [])) begin) (classified_length R nodes i)
    ∙ collect-snoc (lines_from 0 l) (map_conjunct (on_line i) k) begin

pub collect-more : (R : ℕ → AExpr ℕ) (nodes : List ℕ) (i : ℕ) (b : Bool) → b ≡ (collect_to R nodes i).unsat → b ≡ false
    → collect_to R nodes (i + 1) ≡ collect_one lined (map_conjunct (on_line i) (classify R (get_or nodes i 0))) (collect_to R nodes i)
collect-more R nodes i b eb e =
    ap (collect_to R nodes) (add-one i)
    ∙ collect-step R nodes i
    ∙ ap (λ b. cond b (collect_to R nodes i) (collect_one lined (map_conjunct (on_line i) (classify R (get_or nodes i 0)))
    (collect_to R nodes i))) (sym eb ∙ e)

-- ---- reading that stopped stays
collect-still : (R : ℕ → AExpr ℕ) (nodes : List ℕ) (i : ℕ) → (collect_to R nodes i).unsat ≡ true → (d : ℕ)
    → collect_to R nodes (i + d) ≡ collect_to R nodes i
collect-still R nodes i h zero = let e : i + 0 ≡ i = omega arith in ap (collect_to R nodes) e
collect-still R nodes i h (suc d) =
    let e : i + suc d ≡ suc (i + d) = omega arith in
    let ih : collect_to R nodes (i + d) ≡ collect_to R nodes i = collect-still R nodes i h d in
    ap (collect_to R nodes) e
    ∙ collect-step R nodes (i + d)
    ∙ ap (λ b. cond b (collect_to R nodes (i + d)) (collect_one lined
    (map_conjunct (on_line (i + d)) (classify R (get_or nodes (i + d) 0))) (collect_to R nodes (i + d))))
    (ap (λ s. s.unsat) ih ∙ h)
    ∙ ih

pub collect-end : (R : ℕ → AExpr ℕ) (nodes : List ℕ) (i n : ℕ) (b : Bool) → i ≤ n → b ≡ (collect_to R nodes i).unsat
    → (ltb i n && not b) ≡ false → collect_to R nodes i ≡ collect_to R nodes n
collect-end R nodes i n b l e h = go b refl
  where
    last : (c : Bool) → ltb i n ≡ c → (c && true) ≡ false → n ≤ i
    last true q p = absurd (true≢false p)
    last false q p = ltb-false i n q

    go : (c : Bool) → b ≡ c → collect_to R nodes i ≡ collect_to R nodes n
    go true p =
        let q : i + (n - i) ≡ n = omega arith in
        sym (collect-still R nodes i (sym e ∙ p) (n - i)) ∙ ap (collect_to R nodes) q
    go false p =
        let u : n ≤ i = last (ltb i n) refl (rw p at h) in
        let q : i ≡ n = omega arith in
        ap (collect_to R nodes) q

-- ---- before the first conjunct
pub collect-none : (t : Conjuncts) (table : List ColumnConstraints) (ms : List ℕ) (R : ℕ → AExpr ℕ) (nodes : List ℕ)
    (order kept lefts rights equals : List ℕ) → table ≡ replicate 64 past_column
    → Collects t table ms (replicate 64 false) order 0 kept 0 lefts rights equals 0 0 false false (collect_to R nodes 0)
unfolding collect_to first_of lines_from edges_of excluded_by allowed_by disallowed_by gather
collect-none t table ms R nodes order kept lefts rights equals e =
    record {
      shows = record {
        size = ap length e ∙ length-replicate 64 past_column;
        column = λ a h. ap (λ d. column_of t (numbered (row_of ms a) d)) (here a h);
        fine = λ a h i l. absurd (none a h i l);
      };
      entered = record {
        seen_size = length-replicate 64 false;
        listed = refl;
        known = λ a h. get_or-replicate 64 a false false h;
        distinct = λ o h. absurd (omega arith);
        low = λ o h. absurd (omega arith);
      };
      keeping = record { listed = refl };
      linked = record {
        listed = refl;
        low-left = λ o h. absurd (omega arith);
        low-right = λ o h. absurd (omega arith);
      };
      bounded = refl;
      turned = refl;
      stops = refl;
    }
  where
    here : (a : ℕ) → a < 64 → get_or table a past_column ≡ past_column
    here a h = ap (λ l. get_or l a past_column) e ∙ get_or-replicate 64 a past_column past_column h

    none : (a : ℕ) → a < 64 → (i : ℕ) → i < (get_or table a past_column).len → ⊥
    none a h i l = let z : (get_or table a past_column).len ≡ 0 = ap (λ d. d.len) (here a h) in omega (arith, l, z)

-- what a conjunct is, once its form in code is known
pub read_as : (rs p : List ℕ) (n : ℕ) (k k' : code.Conjunct) → conjunct_in p n k ≡ classify (aexpr_of rs p) n → k ≡ k'
    → classify (aexpr_of rs p) n ≡ conjunct_in p n k'
read_as rs p n k k' e h = sym e ∙ ap (conjunct_in p n) h

-- ---- what the calls for one column give
pub required : (t : Conjuncts) (table table' : List ColumnConstraints) (ms : List ℕ) (T : ColumnTable) (a x : ℕ)
    (c r : ColumnConstraints) → Shows t table ms T → a < 64 → x ≡ a % 64 → c ≡ get_or table x past_column
    → ((m : List ℕ) → column_of t (numbered m r) ≡ add lined (Require NonNull) (column_of t (numbered m c)))
    → r.len ≡ c.len → table' ≡ set table x r → Shows t table' ms (require_non_null lined a T)
required t table table' ms T a x c r S la ex hc er el et =
    let p : x ≡ a = low-slot a x la ex in
    let h : c ≡ get_or table a past_column = hc ∙ ap (λ y. get_or table y past_column) p in
    subst (λ u. Shows t u ms (require_non_null lined a T)) (sym (et ∙ ap (λ y. set table y r) p))
    (shows-set t table ms ms T a r (add lined (Require NonNull) (T a)) S la (rows_same ms a)
    (er (row_of ms a) ∙ ap (λ d. add lined (Require NonNull) (column_of t (numbered (row_of ms a) d))) h
    ∙ ap (add lined (Require NonNull)) (S.column a la))
    (fine-same (stride ms) (row_of ms a) (get_or table a past_column).len r.len (el ∙ ap (λ d. d.len) h) (S.fine a la)))

pub added : (t : Conjuncts) (table table' : List ColumnConstraints) (ms ms' : List ℕ) (T : ColumnTable) (a x : ℕ)
    (c r : ColumnConstraints) (l : List (Constraint Lined)) → Shows t table ms T → a < 64 → x ≡ a % 64
    → c ≡ get_or table x past_column
    → column_of t (numbered (row_of ms' x) r) ≡ add_all lined l (column_of t (numbered (row_of ms x) c))
    → Fine (stride ms') (row_of ms' x) r.len → RowsKept ms ms' x → table' ≡ set table x r
    → Added t table' ms' a l r.unsat T
added t table table' ms ms' T a x c r l S la ex hc er f K et =
    let p : x ≡ a = low-slot a x la ex in
    let e : column_of t (numbered (row_of ms' a) r) ≡ add_all lined l (T a) =
    (rw p at (er ∙ ap (λ d. add_all lined l (column_of t (numbered (row_of ms x) d))) hc))
    ∙ ap (add_all lined l) (S.column a la) in
    record {
      shows = subst (λ u. Shows t u ms' (add_to lined a l T)) (sym (et ∙ ap (λ y. set table y r) p))
          (shows-set t table ms ms' T a r (add_all lined l (T a)) S la (rw p at K) e (rw p at f));
      stops = ap (λ d. d.unsat) e;
    }

pub entered_at : (order : List ℕ) (columns : ℕ) (seen : List Bool) (l : List ℕ) (a x o : ℕ) → Entered order columns seen l
    → a < 64 → columns < length order → x ≡ a % 64 → o ≡ cond (get_or seen x false) columns (columns + 1)
    → Entered (set order columns a) o (set seen x true) (enter a l)
entered_at order columns seen l a x o E la lc ex eo =
    let p : x ≡ a = low-slot a x la ex in rw p (entered-more order columns seen l a o E la lc (rw p at eo))

-- ---- one conjunct, by its form
module _ (t : Conjuncts) (table : List ColumnConstraints) (ms : List ℕ) (seen : List Bool) (order : List ℕ) (columns : ℕ)
    (kept : List ℕ) (keeps : ℕ) (lefts rights equals : List ℕ) (edges bounds : ℕ) (normalized unsat : Bool) (s : Collected Lined)
    (C : Collects t table ms seen order columns kept keeps lefts rights equals edges bounds normalized unsat s) (s' : Collected Lined)
    (i : ℕ) (k : Conjunct ℕ) (es : s' ≡ collect_one lined (map_conjunct (on_line i) k) s)
  where
    pub bounds-turn : (table' : List ColumnConstraints) (ms' : List ℕ) (seen' : List Bool) (order' : List ℕ) (a o : ℕ)
        (l : List (Constraint ℕ)) (u : Bool) → k ≡ Bounds a l
        → ((m : List ℕ) → Entered order columns seen m → Entered order' o seen' (enter a m))
        → ((T : ColumnTable) → Shows t table ms T → Added t table' ms' a (map (map_constraint (on_line i)) l) u T)
        → Collects t table' ms' seen' order' o kept keeps lefts rights equals edges (bounds + 1) normalized u s'
    bounds-turn table' ms' seen' order' a o l u ek en ad =
        let A : Added t table' ms' a (map (map_constraint (on_line i)) l) u s.constraints = ad s.constraints C.shows in
        subst (Collects t table' ms' seen' order' o kept keeps lefts rights equals edges (bounds + 1) normalized u)
        (sym (es ∙ ap (λ m. collect_one lined (map_conjunct (on_line i) m) s) ek))
        (record {
          shows = A.shows;
          entered = en s.order C.entered;
          keeping = C.keeping;
          linked = C.linked;
          bounded = add-one bounds ∙ ap suc C.bounded;
          turned = C.turned;
          stops = A.stops;
        })

    pub normalized-turn : (table' : List ColumnConstraints) (ms' : List ℕ) (seen' : List Bool) (order' : List ℕ) (a o : ℕ)
        (l : List (Constraint ℕ)) (u : Bool) → k ≡ Normalized a l
        → ((m : List ℕ) → Entered order columns seen m → Entered order' o seen' (enter a m))
        → ((T : ColumnTable) → Shows t table ms T → Added t table' ms' a (map (map_constraint (on_line i)) l) u T)
        → Collects t table' ms' seen' order' o kept keeps lefts rights equals edges (bounds + 1) true u s'
    normalized-turn table' ms' seen' order' a o l u ek en ad =
        let A : Added t table' ms' a (map (map_constraint (on_line i)) l) u s.constraints = ad s.constraints C.shows in
        subst (Collects t table' ms' seen' order' o kept keeps lefts rights equals edges (bounds + 1) true u)
        (sym (es ∙ ap (λ m. collect_one lined (map_conjunct (on_line i) m) s) ek))
        (record {
          shows = A.shows;
          entered = en s.order C.entered;
          keeping = C.keeping;
          linked = C.linked;
          bounded = add-one bounds ∙ ap suc C.bounded;
          turned = refl;
          stops = A.stops;
        })

    pub recorded-turn : (table' : List ColumnConstraints) (ms' : List ℕ) (seen' : List Bool) (order' : List ℕ) (a o n : ℕ)
        (l : List (Constraint ℕ)) (stops u : Bool) → k ≡ Recorded stops n a l → keeps < length kept
        → ((m : List ℕ) → Entered order columns seen m → Entered order' o seen' (enter a m))
        → ((T : ColumnTable) → Shows t table ms T → Added t table' ms' a (map (map_constraint (on_line i)) l) u T)
        → Collects t table' ms' seen' order' o (set kept keeps n) (keeps + 1) lefts rights equals edges bounds normalized (stops && u) s'
    recorded-turn table' ms' seen' order' a o n l stops u ek lk en ad =
        let A : Added t table' ms' a (map (map_constraint (on_line i)) l) u s.constraints = ad s.constraints C.shows in
        subst (Collects t table' ms' seen' order' o (set kept keeps n) (keeps + 1) lefts rights equals edges bounds normalized (stops && u))
        (sym (es ∙ ap (λ m. collect_one lined (map_conjunct (on_line i) m) s) ek))
        (record {
          shows = A.shows;
          entered = en s.order C.entered;
          keeping = keeps-more kept keeps n s.opaque lk C.keeping;
          linked = C.linked;
          bounded = C.bounded;
          turned = C.turned;
          stops = ap (λ b. stops && b) A.stops;
        })

    pub opaque-turn : (n : ℕ) → k ≡ Opaque n → keeps < length kept → unsat ≡ false
        → Collects t table ms seen order columns (set kept keeps n) (keeps + 1) lefts rights equals edges bounds normalized unsat s'
    opaque-turn n ek lk h =
        subst (Collects t table ms seen order columns (set kept keeps n) (keeps + 1) lefts rights equals edges bounds normalized unsat)
        (sym (es ∙ ap (λ m. collect_one lined (map_conjunct (on_line i) m) s) ek))
        (record {
          shows = C.shows;
          entered = C.entered;
          keeping = keeps-more kept keeps n s.opaque lk C.keeping;
          linked = C.linked;
          bounded = C.bounded;
          turned = C.turned;
          stops = h;
        })

    -- two columns that are not null
    module _ (table₁ table₂ : List ColumnConstraints) (seen₁ seen₂ : List Bool) (order₁ order₂ : List ℕ) (a b o o' n : ℕ)
        (h : unsat ≡ false)
        (en : (m : List ℕ) → Entered order columns seen m → Entered order₁ o seen₁ (enter a m))
        (ra : (u : Conjuncts) (m : List ℕ) (T : ColumnTable) → Shows u table m T → Shows u table₁ m (require_non_null lined a T))
        (fn : (m : List ℕ) → Entered order₁ o seen₁ m → Entered order₂ o' seen₂ (enter b m))
        (rb : (u : Conjuncts) (m : List ℕ) (T : ColumnTable) → Shows u table₁ m T → Shows u table₂ m (require_non_null lined b T))
      where
        pub equality_turn : k ≡ Equality a b n → edges < length lefts → edges < length rights → edges < length equals
            → a < 64 → b < 64
            → Collects t table₂ ms seen₂ order₂ o' kept keeps (set lefts edges a) (set rights edges b) (set equals edges n)
            (edges + 1) bounds normalized unsat s'
        equality_turn ek ll lr le la lb =
            subst (Collects t table₂ ms seen₂ order₂ o' kept keeps (set lefts edges a) (set rights edges b) (set equals edges n)
            (edges + 1) bounds normalized unsat) (sym (es ∙ ap (λ m. collect_one lined (map_conjunct (on_line i) m) s) ek))
            (record {
              shows = rb t ms (require_non_null lined a s.constraints) (ra t ms s.constraints C.shows);
              entered = fn (enter a s.order) (en s.order C.entered);
              keeping = C.keeping;
              linked = edges_more lefts rights equals edges a b n s.edges C.linked ll lr le la lb;
              bounded = C.bounded;
              turned = C.turned;
              stops = h;
            })

        pub pair_turn : k ≡ NonNullPair n a b → keeps < length kept
            → Collects t table₂ ms seen₂ order₂ o' (set kept keeps n) (keeps + 1) lefts rights equals edges bounds normalized unsat s'
        pair_turn ek lk =
            subst (Collects t table₂ ms seen₂ order₂ o' (set kept keeps n) (keeps + 1) lefts rights equals edges bounds normalized unsat)
            (sym (es ∙ ap (λ m. collect_one lined (map_conjunct (on_line i) m) s) ek))
            (record {
              shows = rb t ms (require_non_null lined a s.constraints) (ra t ms s.constraints C.shows);
              entered = fn (enter a s.order) (en s.order C.entered);
              keeping = keeps-more kept keeps n s.opaque lk C.keeping;
              linked = C.linked;
              bounded = C.bounded;
              turned = C.turned;
              stops = h;
            })

-- Where reading ended, all is collected.
pub collected-all : (t : Conjuncts) (table : List ColumnConstraints) (ms : List ℕ) (seen : List Bool) (order : List ℕ) (columns : ℕ)
    (kept : List ℕ) (keeps : ℕ) (lefts rights equals : List ℕ) (edges bounds : ℕ) (normalized unsat : Bool) (R : ℕ → AExpr ℕ)
    (nodes : List ℕ) (i n : ℕ)
    → Collects t table ms seen order columns kept keeps lefts rights equals edges bounds normalized unsat (collect_to R nodes i)
    → i ≤ n → (ltb i n && not unsat) ≡ false
    → Collects t table ms seen order columns kept keeps lefts rights equals edges bounds normalized unsat (collect_to R nodes n)
collected-all t table ms seen order columns kept keeps lefts rights equals edges bounds normalized unsat R nodes i n C l h =
    subst (Collects t table ms seen order columns kept keeps lefts rights equals edges bounds normalized unsat)
    (collect-end R nodes i n unsat l C.stops h) C

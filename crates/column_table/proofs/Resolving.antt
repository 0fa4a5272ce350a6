-- Resolve, and the comparisons written out: one column more.
use Rattle.constraints.specs.Bound.{of_bound}
use mathlib.Core.Path.{◌≡◌, refl, sym, ◌∙◌, ap, subst}
use mathlib.Core.Bool.{Bool, true, false, cond, ◌||◌, or-true, or-false}
use mathlib.Core.List.{List, [], ◌∷◌, ◌++◌, append-nil, map}
use mathlib.Core.Option.{Option, none, some}
use Prim.Native.Nat.{ℕ, zero, suc, ◌+◌, ◌-◌, ◌*◌, ◌<◌, ◌≤◌, ◌%◌}
use native.Mathlib.Omega.{arith}
use native.Mathlib.Numerals.{add-one}
use lib.ListN.{length, get_or, set, length-append}
use lib.Dec.{eqb}
use borrow.Author.Tests.{eqb-true, eqb-false, ne_eqb}
use Rattle.records.proofs.Laws.{by-test}
use Rattle.constraints.specs.Bound as b
use Rattle.constraints.specs.Column as q
use Rattle.constraints.specs.Comparisons.{ColumnComparison, IsLower, IsUpper, IsNotEq}
use Rattle.constraints.specs.Comparisons.{collect_by, collect_column_comparisons}
use Rattle.constraints.specs.Lined.{Lined, lined}
use Rattle.constraints.specs.Mapped.{map_comparison}
use Rattle.constraints.specs.Resolve.{fixed_at, resolve_deferred}
use Rattle.column_constraints.specs.Abstraction.{Conjuncts, Numbered, numbered, column_of, excluded_by, gather, of_kind, literal_at, Fine}
use Rattle.column_constraints.specs.declared.column.ColumnConstraints.{ColumnConstraints}
use Rattle.column_constraints.proofs.Pigeon.{few}
use Rattle.merge.specs.Collect.{is_in, update}
use Rattle.merge.specs.Emit.{of_column, any_unsat, comparisons}
use Rattle.merge.specs.Write.{write_comparison, write_comparisons}
use Rattle.read_operands.specs.Walk.{first_of}
use Rattle.column_table.specs.Rows.{stride, row_of, RowsKept}
use Rattle.column_table.specs.Words.{past_column}
use Rattle.column_table.specs.State.{column_at, ColumnTable, Shows, resolve_all, resolved_in, Resolved, shown, bits_of, Written}
use Rattle.rewrite.proofs.Emitting.{of_column-length, write_append}
use Rattle.column_table.proofs.Arrays.{shows-set, is_in-snoc, low-slot}
use Rattle.column_table.proofs.Propagating.{or_assoc}

-- a table that agrees on the columns
shows-agree : (t : Conjuncts) (table : List ColumnConstraints) (ms : List ℕ) (T U : ColumnTable) → ((a : ℕ) → T a ≡ U a)
    → Shows t table ms T → Shows t table ms U
shows-agree t table ms T U e S = record { size = S.size; column = λ a h. S.column a h ∙ e a; fine = S.fine }

-- ---- a column behind the others
unsat-snoc : (l : List ℕ) (a : ℕ) (T : ColumnTable) → any_unsat (l ++ (a ∷ [])) T ≡ (any_unsat l T || (T a).unsat)
unsat-snoc [] a T = or-false (T a).unsat
unsat-snoc (c ∷ l) a T =
    ap (λ x. (T c).unsat || x) (unsat-snoc l a T) ∙ or_assoc (T c).unsat (any_unsat l T) (T a).unsat

append-assoc' : (x y z : List (ℕ × ColumnComparison Lined)) → x ++ (y ++ z) ≡ (x ++ y) ++ z
append-assoc' [] y z = refl
append-assoc' (c ∷ x) y z = ap (λ l. c ∷ l) (append-assoc' x y z)

pub comparisons-snoc : (l : List ℕ) (a : ℕ) (T : ColumnTable)
    → comparisons lined (l ++ (a ∷ [])) T ≡
    comparisons lined l T ++ of_column a (collect_column_comparisons lined (T a))
comparisons-snoc [] a T = append-nil (of_column a (collect_column_comparisons lined (T a)))
comparisons-snoc (c ∷ l) a T =
    ap (λ x. of_column c (collect_column_comparisons lined (T c)) ++ x) (comparisons-snoc l a T)
    ∙ append-assoc' (of_column c (collect_column_comparisons lined (T c))) (comparisons lined l T)
    (of_column a (collect_column_comparisons lined (T a)))

pub comparisons-more : (order : List ℕ) (o : ℕ) (T : ColumnTable)
    → length (comparisons lined (first_of order (o + 1)) T) ≡
    length (comparisons lined (first_of order o) T) + length (collect_column_comparisons lined (T (get_or order o 0)))
unfolding first_of
comparisons-more order o T =
    rw (add-one)
    (ap length (comparisons-snoc (first_of order o) (get_or order o 0) T)
    ∙ length-append (comparisons lined (first_of order o) T)
    (of_column (get_or order o 0) (collect_column_comparisons lined (T (get_or order o 0))))
    ∙ ap (λ k. length (comparisons lined (first_of order o) T) + k)
    (of_column-length (get_or order o 0) (collect_column_comparisons lined (T (get_or order o 0)))))

-- fewer columns have no more comparisons
pub comparisons-upto : (order : List ℕ) (T : ColumnTable) (o d : ℕ)
    → length (comparisons lined (first_of order o) T) ≤ length (comparisons lined (first_of order (o + d)) T)
comparisons-upto order T o zero =
    let e : o + 0 ≡ o = omega arith in rw e (omega arith)
comparisons-upto order T o (suc d) =
    let e : o + suc d ≡ o + d + 1 = omega arith in
    let ih = comparisons-upto order T o d in
    let m = comparisons-more order (o + d) T in
    rw e (omega (arith, ih, m))

pub in_first : (order : List ℕ) (w n : ℕ) → w < n → is_in (get_or order w 0) (first_of order n) ≡ true
unfolding first_of
in_first order w zero h = absurd (omega arith)
in_first order w (suc n) h = by-test (eqb w n)
    (λ e. last (eqb-true w n e))
    (λ e. let d = eqb-false w n e in
    is_in-snoc (get_or order w 0) (get_or order n 0) (first_of order n)
    ∙ ap (λ x. x || eqb (get_or order w 0) (get_or order n 0)) (in_first order w n (omega (arith, h, d))))
  where
    self : (k : ℕ) → eqb k k ≡ true
    self k = by-test (eqb k k) (λ h. h) (λ h. absurd (eqb-false k k h refl))

    last : w ≡ n → is_in (get_or order w 0) (first_of order n ++ (get_or order n 0 ∷ [])) ≡ true
    last e =
        is_in-snoc (get_or order w 0) (get_or order n 0) (first_of order n)
        ∙ ap (λ k. is_in (get_or order w 0) (first_of order n) || eqb (get_or order w 0) (get_or order k 0)) (sym e)
        ∙ ap (λ x. is_in (get_or order w 0) (first_of order n) || x) (self (get_or order w 0))
        ∙ or-true (is_in (get_or order w 0) (first_of order n))

-- the comparisons depend on the listed columns only
pub comparisons-agree : (order : List ℕ) (T U : ColumnTable) (n : ℕ) → ((w : ℕ) → w < n → T (get_or order w 0) ≡ U (get_or order w 0))
    → comparisons lined (first_of order n) T ≡ comparisons lined (first_of order n) U
unfolding first_of
comparisons-agree order T U zero e = refl
comparisons-agree order T U (suc n) e =
    comparisons-snoc (first_of order n) (get_or order n 0) T
    ∙ ap (λ l. l ++ of_column (get_or order n 0) (collect_column_comparisons lined (T (get_or order n 0))))
    (comparisons-agree order T U n (λ w h. e w (omega (arith, h))))
    ∙ ap (λ c. comparisons lined (first_of order n) U ++ of_column (get_or order n 0) (collect_column_comparisons lined c))
    (e n (omega arith))
    ∙ sym (comparisons-snoc (first_of order n) (get_or order n 0) U)

-- ---- a column is written out as at most 130 comparisons
excluded-few : (kinds values a : List ℕ) (n : ℕ) → length (excluded_by kinds values a n) ≤ n
unfolding excluded_by gather
excluded-few kinds values a zero = omega arith
excluded-few kinds values a (suc n) = go (excluded-few kinds values a n) (of_kind kinds 0 (get_or a n 0))
  where
    go : length (excluded_by kinds values a n) ≤ n → (x : Bool) → length (cond x (excluded_by kinds values a n ++ (literal_at values (get_or a n 0) ∷ []))
        (excluded_by kinds values a n)) ≤ suc n
    go ih true =
        let e = length-append (excluded_by kinds values a n) (literal_at values (get_or a n 0) ∷ []) in omega (arith, e, ih)
    go ih false = omega (arith, ih)

excluded-length : (l : List Lined) → length (map IsNotEq l) ≡ length l
excluded-length [] = refl
excluded-length (v ∷ l) = ap suc (excluded-length l)

lower-few : (x : b.Bound Lined) → length (of_bound IsLower x) ≤ 1
lower-few b.absent = omega arith
lower-few (b.at i v) = omega arith

upper-few : (x : b.Bound Lined) → length (of_bound IsUpper x) ≤ 1
upper-few b.absent = omega arith
upper-few (b.at i v) = omega arith

pub column-few : (t : Conjuncts) (c : Numbered) (k : ℕ) → Fine k c.marks c.len → k ≤ 128
    → length (collect_column_comparisons lined (column_of t c)) ≤ 130
column-few t c k f l128 = go (fixed_at lined (column_of t c).lower (column_of t c).upper)
  where
    go : (o : Option Lined) → length (collect_by o (column_of t c)) ≤ 130
    go (some v) = omega arith
    go none =
        let p = length-append (of_bound IsLower (column_of t c).lower)
        (of_bound IsUpper (column_of t c).upper ++ map IsNotEq (column_of t c).excluded) in
        let r = length-append (of_bound IsUpper (column_of t c).upper) (map IsNotEq (column_of t c).excluded) in
        let e = excluded-length (column_of t c).excluded in
        let x = excluded-few t.kinds t.values c.marks c.len in
        let n = few k c.marks c.len f in
        let l = lower-few (column_of t c).lower in
        let u = upper-few (column_of t c).upper in
        omega (arith, p, r, e, x, n, l, u, l128)

-- ---- resolving, column by column
pub resolved-none : (t : Conjuncts) (table : List ColumnConstraints) (ms : List ℕ) (order : List ℕ) (held : Bool)
    (T : ColumnTable) → Shows t table ms T → Resolved t table ms (first_of order 0) held held 0 T
unfolding first_of
resolved-none t table ms order held T S = record { shows = S; stops = sym (or-false held); counted = refl }

module _ (t : Conjuncts) (table : List ColumnConstraints) (ms ms' : List ℕ) (order : List ℕ) (o : ℕ)
    (held unsat : Bool) (total : ℕ) (T : ColumnTable) (P : Resolved t table ms (first_of order o) held unsat total T) where
  abbrev a : ℕ
  a = get_or order o 0

  at_a : (c : ColumnConstraints) (k : ℕ) → a < 64 → is_in a (first_of order o) ≡ false
      → column_of t (numbered (row_of ms' a) c) ≡ resolve_deferred lined (column_of t (column_at table ms a))
      → Fine (stride ms') (row_of ms' a) c.len → RowsKept ms ms' a
      → k ≡ length (collect_column_comparisons lined (column_of t (numbered (row_of ms' a) c)))
      → Resolved t (set table a c) ms' (first_of order (o + 1)) held (unsat || c.unsat) (total + k) T
  unfolding first_of
  at_a c k la new ec f K ek =
      let e : column_of t (numbered (row_of ms' a) c) ≡ resolve_deferred lined (T a) =
      ec ∙ ap (resolve_deferred lined) (P.shows.column a la
      ∙ ap (λ x. cond x (resolve_deferred lined (T a)) (T a)) new) in
      let m : length (comparisons lined (first_of order (o + 1)) (resolve_all T)) ≡
      length (comparisons lined (first_of order o) (resolve_all T))
      + length (collect_column_comparisons lined (resolve_deferred lined (T a))) =
      comparisons-more order o (resolve_all T) in
      let k' : k ≡ length (collect_column_comparisons lined (resolve_deferred lined (T a))) =
      ek ∙ ap (λ x. length (collect_column_comparisons lined x)) e in
      let p = P.counted in
      record {
        shows = subst (λ l. Shows t (set table a c) ms' (resolved_in l T)) (ap (first_of order) (sym (add-one o)))
            (shows-agree t (set table a c) ms' (update (resolved_in (first_of order o) T) a (resolve_deferred lined (T a)))
            (resolved_in (first_of order o ++ (a ∷ [])) T) agree
            (shows-set t table ms ms' (resolved_in (first_of order o) T) a c (resolve_deferred lined (T a)) P.shows la K e f));
        stops =
            ap (λ x. x || c.unsat) P.stops
            ∙ ap (λ x. (held || any_unsat (first_of order o) (resolve_all T)) || x) (ap (λ x. x.unsat) e)
            ∙ sym (or_assoc held (any_unsat (first_of order o) (resolve_all T)) (resolve_deferred lined (T a)).unsat)
            ∙ ap (λ x. held || x) (sym (unsat-snoc (first_of order o) a (resolve_all T)))
            ∙ ap (λ n. held || any_unsat (first_of order n) (resolve_all T)) (sym (add-one o));
        counted = omega (arith, m, k', p);
      }
    where
      agree : (c : ℕ) → update (resolved_in (first_of order o) T) a (resolve_deferred lined (T a)) c ≡
          resolved_in (first_of order o ++ (a ∷ [])) T c
      agree c = by-test (eqb a c)
          (λ h. rw (h, is_in-snoc c a (first_of order o), ← eqb-true a c h, eq_self a, or-true (is_in a (first_of order o))))
          (λ h. rw (
            h,
            is_in-snoc c a (first_of order o),
            ne_eqb c a (λ p. eqb-false a c h (sym p)),
            or-false (is_in c (first_of order o)),
          ))
        where
          eq_self : (n : ℕ) → eqb n n ≡ true
          eq_self n = by-test (eqb n n) (λ h. h) (λ h. absurd (eqb-false n n h refl))

  pub resolved-more : (x : ℕ) (c : ColumnConstraints) (k : ℕ) → a < 64 → is_in a (first_of order o) ≡ false → x ≡ a % 64
      → column_of t (numbered (row_of ms' x) c) ≡ resolve_deferred lined (column_of t (column_at table ms x))
      → Fine (stride ms') (row_of ms' x) c.len → RowsKept ms ms' x
      → k ≡ length (collect_column_comparisons lined (column_of t (numbered (row_of ms' x) c)))
      → Resolved t (set table x c) ms' (first_of order (o + 1)) held (unsat || c.unsat) (total + k) T
  resolved-more x c k la new ex ec f K ek =
      let p : x ≡ a = low-slot a x la ex in
      rw p (at_a c k la new (rw p at ec) (rw p at f) (rw p at K) (rw p at ek))

-- ---- comparisons without their lines
pub bits-length : (l : List (ℕ × ColumnComparison Lined)) → length (bits_of l) ≡ length l
bits-length [] = refl
bits-length (x ∷ l) = ap suc (bits-length l)

bits-append : (l m : List (ℕ × ColumnComparison Lined)) → bits_of (l ++ m) ≡ bits_of l ++ bits_of m
bits-append [] m = refl
bits-append (x ∷ l) m = ap (λ k. (x.0, map_comparison (λ (v : Lined). v.bits) x.1) ∷ k) (bits-append l m)

-- ---- writing, column by column
pub written_none : (t : List ℕ) (used : ℕ) (order : List ℕ) (T : ColumnTable) (rs : List ℕ)
    → Written t used rs (comparisons lined (first_of order 0) T) used rs
unfolding first_of
written_none t used order T rs = record { end = omega arith; bytes = refl; size = refl }

pub written-more :
    (t : List ℕ) (used : ℕ) (order : List ℕ) (w : ℕ) (s : Conjuncts) (table : List ColumnConstraints) (ms : List ℕ)
    (x u u' : ℕ)
    (rs₀ rs rs' : List ℕ)
    → Written t used rs₀ (comparisons lined (first_of order w) (shown s table ms)) u rs
    → get_or order w 0 < 64 → x ≡ get_or order w 0 % 64
    → u' ≡ u + 3 * length (collect_column_comparisons lined (column_of s (column_at table ms x)))
    → rs' ≡ write_comparisons t u (bits_of (of_column (get_or order w 0) (collect_column_comparisons lined
    (column_of s (column_at table ms x))))) rs
    → length rs' ≡ length rs
    → Written t used rs₀ (comparisons lined (first_of order (w + 1)) (shown s table ms)) u' rs'
unfolding first_of
written-more t used order w s table ms x u u' rs₀ rs rs' W la ex eu er el =
    let p : x ≡ a = low-slot a x la ex in
    let m = comparisons-more order w (shown s table ms) in
    let e = W.end in
    let g : u' ≡ u + 3 * length (collect_column_comparisons lined (shown s table ms a)) = rw p at eu in
    record {
      end = omega (arith, m, e, g);
      bytes = (rw p at er)
          ∙ ap (λ v. write_comparisons t v new rs) (W.end ∙ ap (λ k. used + 3 * k) (sym (bits-length cs)))
          ∙ ap (write_comparisons t (used + 3 * length (bits_of cs)) new) W.bytes
          ∙ sym (write_append t used (bits_of cs) new rs₀)
          ∙ ap (λ l. write_comparisons t used l rs₀)
          (sym (bits-append cs (of_column a (collect_column_comparisons lined (shown s table ms a)))) ∙ ap bits_of (sym snoc_at));
      size = el ∙ W.size;
    }
  where
    a : ℕ
    a = get_or order w 0

    cs : List (ℕ × ColumnComparison Lined)
    cs = comparisons lined (first_of order w) (shown s table ms)

    new : List (ℕ × ColumnComparison ℕ)
    new = bits_of (of_column a (collect_column_comparisons lined (shown s table ms a)))

    snoc_at : comparisons lined (first_of order (w + 1)) (shown s table ms) ≡
        cs ++ of_column a (collect_column_comparisons lined (shown s table ms a))
    snoc_at = rw (add-one) (comparisons-snoc (first_of order w) a (shown s table ms))

-- the comparisons read kinds and values only
pub same-comparisons : (s s' : Conjuncts) (c : Numbered) → s.kinds ≡ s'.kinds → s.values ≡ s'.values
    → collect_column_comparisons lined (column_of s c) ≡ collect_column_comparisons lined (column_of s' c)
same-comparisons s s' c ek ev = go (fixed_at lined (column_of s c).lower (column_of s c).upper)
  where
    go : (o : Option Lined) → collect_by o (column_of s c) ≡ collect_by o (column_of s' c)
    go (some v) = refl
    go none = rw (ek, ev)

-- ---- the same, as the code has it: c₀ is the column loaded, table' what is stored
pub resolved-stored : (t : Conjuncts) (table table' : List ColumnConstraints) (ms ms' : List ℕ) (order : List ℕ) (o : ℕ)
    (held unsat : Bool) (total : ℕ) (T : ColumnTable) (x : ℕ) (c₀ c : ColumnConstraints) (k : ℕ)
    → Resolved t table ms (first_of order o) held unsat total T → get_or order o 0 < 64
    → is_in (get_or order o 0) (first_of order o) ≡ false → x ≡ get_or order o 0 % 64 → c₀ ≡ get_or table x past_column
    → column_of t (numbered (row_of ms' x) c) ≡ resolve_deferred lined (column_of t (numbered (row_of ms x) c₀))
    → Fine (stride ms') (row_of ms' x) c.len → RowsKept ms ms' x
    → k ≡ length (collect_column_comparisons lined (column_of t (numbered (row_of ms' x) c))) → table' ≡ set table x c
    → Resolved t table' ms' (first_of order (o + 1)) held (unsat || c.unsat) (total + k) T
resolved-stored t table table' ms ms' order o held unsat total T x c₀ c k P la new ex hc ec f K ek et =
    subst (λ u. Resolved t u ms' (first_of order (o + 1)) held (unsat || c.unsat) (total + k) T) (sym et)
    (resolved-more t table ms ms' order o held unsat total T P x c k la new ex
    (ec ∙ ap (λ d. resolve_deferred lined (column_of t (numbered (row_of ms x) d))) hc) f K ek)

-- What `write_row` asks of the column loaded from place x.
pub row-asked :
    (t : List ℕ) (used : ℕ) (order : List ℕ) (w columns : ℕ) (s : Conjuncts) (table : List ColumnConstraints)
    (ms sent rs : List ℕ) (u x : ℕ) (c : ColumnConstraints)
    → w < columns → get_or order w 0 < 64 → x ≡ get_or order w 0 % 64 → c ≡ get_or table x past_column
    → Written t used sent (comparisons lined (first_of order w) (shown s table ms)) u rs
    → (used + 3 * length (comparisons lined (first_of order columns) (shown s table ms)) ≤ 4096)
    × (16 * (used + 3 * length (comparisons lined (first_of order columns) (shown s table ms))) ≤ length sent)
    → (u ≤ 4096) × ((s' : Conjuncts) → s'.kinds ≡ s.kinds → s'.values ≡ s.values
    → 16 * (u + 3 * length (collect_column_comparisons lined (column_of s' (numbered (row_of ms x) c)))) ≤ length rs)
row-asked t used order w columns s table ms sent rs u x c l la ex hc W room =
    let T : ColumnTable = shown s table ms in
    let d : w + 1 + (columns - (w + 1)) ≡ columns = omega (arith, l) in
    let m = comparisons-more order w T in
    let n : length (comparisons lined (first_of order (w + 1)) T) ≤ length (comparisons lined (first_of order columns) T) =
    subst (λ k. length (comparisons lined (first_of order (w + 1)) T) ≤ length (comparisons lined (first_of order k) T)) d
    (comparisons-upto order T (w + 1) (columns - (w + 1))) in
    let e = W.end in
    let z = W.size in
    let a = room.0 in
    let b = room.1 in
    let p : x ≡ get_or order w 0 = low-slot (get_or order w 0) x la ex in
    let g : 16 * (u + 3 * length (collect_column_comparisons lined (T (get_or order w 0)))) ≤ length rs =
    omega (arith, e, z, m, n, b) in
    let h : c ≡ get_or table (get_or order w 0) past_column = hc ∙ ap (λ y. get_or table y past_column) p in (
      omega (arith, e, m, n, a),
      λ s' ek ev. rw (p, h, same-comparisons s' s (column_at table ms (get_or order w 0)) ek ev) g,
    )

pub written-loaded :
    (t : List ℕ) (used : ℕ) (order : List ℕ) (w : ℕ) (s : Conjuncts) (table : List ColumnConstraints) (ms : List ℕ)
    (x u u' : ℕ) (rs₀ rs rs' : List ℕ) (c : ColumnConstraints)
    → Written t used rs₀ (comparisons lined (first_of order w) (shown s table ms)) u rs
    → get_or order w 0 < 64 → x ≡ get_or order w 0 % 64 → c ≡ get_or table x past_column
    → u' ≡ u + 3 * length (collect_column_comparisons lined (column_of s (numbered (row_of ms x) c)))
    → rs' ≡ write_comparisons t u (bits_of (of_column (get_or order w 0) (collect_column_comparisons lined
    (column_of s (numbered (row_of ms x) c))))) rs
    → length rs' ≡ length rs
    → Written t used rs₀ (comparisons lined (first_of order (w + 1)) (shown s table ms)) u' rs'
written-loaded t used order w s table ms x u u' rs₀ rs rs' c W la ex hc eu er el =
    written-more t used order w s table ms x u u' rs₀ rs rs' W la ex
    (eu ∙ ap (λ d. u + 3 * length (collect_column_comparisons lined (column_of s (numbered (row_of ms x) d)))) hc)
    (er ∙ ap (λ d. write_comparisons t u (bits_of (of_column (get_or order w 0) (collect_column_comparisons lined
    (column_of s (numbered (row_of ms x) d))))) rs) hc) el

-- One entry more in the arrays of the merging.
use mathlib.Core.Path.{◌≡◌, refl, sym, ◌∙◌, ap, subst}
use mathlib.Core.Bool.{Bool, true, false, cond, ◌||◌, or-true, or-false}
use mathlib.Core.List.{List, [], ◌∷◌, ◌++◌, append_assoc}
use Prim.Native.Nat.{ℕ, zero, suc, ◌+◌, ◌<◌, ◌≤◌, ◌%◌}
use native.Mathlib.Omega.{arith}
use native.Mathlib.Numerals.{add-one}
use lib.ListN.{length, get_or, set, length-set, length-append}
use lib.Seq.{get_or-set_same, get_or-set_other}
use lib.Dec.{eqb}
use borrow.Author.Tests.{eqb-true, eqb-false, ne_eqb}
use Rattle.records.proofs.Laws.{by-test, cond_yes}
use Rattle.constraints.specs.Column as q
use Rattle.constraints.specs.Lined.{Lined}
use Rattle.column_constraints.specs.Abstraction.{Conjuncts, numbered, column_of, Fine}
use Rattle.column_constraints.specs.declared.column.ColumnConstraints.{ColumnConstraints}
use Rattle.merge.specs.Collect.{is_in, enter, update}
use Rattle.read_operands.specs.Walk.{first_of}
use Rattle.read_operands.proofs.Walks.{first-kept, first_more}
use Rattle.column_table.specs.Rows.{stride, row_of, RowsKept}
use Rattle.column_table.specs.Words.{past_column, columns_of}
use Rattle.column_table.proofs.Encoding.{columns-size}
use Rattle.column_table.specs.State.{column_at, Shows, Fits, Entered, Keeps, Edges, edges_of}

pub keeps-more : (a : List ℕ) (n v : ℕ) (l : List ℕ) → n < length a → Keeps a n l → Keeps (set a n v) (n + 1) (l ++ (v ∷ []))
keeps-more a n v l h k =
    record { listed = first_more a n v h ∙ ap (λ m. m ++ (v ∷ [])) k.listed }

-- ---- a column number behind others
pub is_in-snoc : (a b : ℕ) (l : List ℕ) → is_in a (l ++ (b ∷ [])) ≡ (is_in a l || eqb a b)
is_in-snoc a b [] = or-false (eqb a b)
is_in-snoc a b (c ∷ l) = rw (is_in-snoc a b l) (assoc (eqb a c) (is_in a l) (eqb a b))
  where
    assoc : (x y z : Bool) → (x || (y || z)) ≡ ((x || y) || z)
    assoc true y z = refl
    assoc false y z = refl

enter-known : (a b : ℕ) (l : List ℕ) → is_in a (enter b l) ≡ (is_in a l || eqb a b)
enter-known a b l = by-test (is_in b l) held new
  where
    held : is_in b l ≡ true → is_in a (enter b l) ≡ (is_in a l || eqb a b)
    held e = rw e (by-test (eqb a b)
        (λ h. rw (h, eqb-true a b h, e))
        (λ h. rw (h, or-false (is_in a l))))

    new : is_in b l ≡ false → is_in a (enter b l) ≡ (is_in a l || eqb a b)
    new e = rw e (is_in-snoc a b l)

-- ---- a column enters
module _ (order : List ℕ) (columns : ℕ) (seen : List Bool) (l : List ℕ) (a o : ℕ) (E : Entered order columns seen l)
    (la : a < 64) (here : columns < length order) where
  known_more : (b : ℕ) → b < 64 → get_or (set seen a true) b false ≡ is_in b (enter a l)
  known_more b h = by-test (eqb b a) same other
    where
      same : eqb b a ≡ true → get_or (set seen a true) b false ≡ is_in b (enter a l)
      same e =
          ap (λ x. get_or (set seen a true) x false) (eqb-true b a e)
          ∙ get_or-set_same seen a true false (rw E.seen_size la)
          ∙ sym (enter-known b a l ∙ rw e (or-true (is_in b l)))

      other : eqb b a ≡ false → get_or (set seen a true) b false ≡ is_in b (enter a l)
      other e =
          get_or-set_other seen a b true false (eqb-false b a e)
          ∙ E.known b h
          ∙ sym (enter-known b a l ∙ rw e (or-false (is_in b l)))

  kept-order : (i : ℕ) → i < columns → get_or (set order columns a) i 0 ≡ get_or order i 0
  kept-order i h = let d : (i ≡ columns → ⊥) = λ e. absurd (omega (arith, e)) in get_or-set_other order columns i a 0 d

  distinct-old : (i : ℕ) → i < columns
      → is_in (get_or (set order columns a) i 0) (first_of (set order columns a) i) ≡ false
  distinct-old i h =
      rw (kept-order i h, first-kept order columns a i (omega (arith, h))) (E.distinct i h)

  low-old : (i : ℕ) → i < columns → get_or (set order columns a) i 0 < 64
  low-old i h = rw (kept-order i h) (E.low i h)

  held : is_in a l ≡ true → Entered (set order columns a) columns (set seen a true) (enter a l)
  held e =
      record {
        seen_size = length-set seen a true ∙ E.seen_size;
        listed = first-kept order columns a columns (omega arith) ∙ E.listed ∙ sym (rw e);
        known = known_more;
        distinct = distinct-old;
        low = low-old;
      }

  new : is_in a l ≡ false → Entered (set order columns a) (columns + 1) (set seen a true) (enter a l)
  new e =
      record {
        seen_size = length-set seen a true ∙ E.seen_size;
        listed = first_more order columns a here ∙ ap (λ m. m ++ (a ∷ [])) E.listed ∙ sym (rw e);
        known = known_more;
        distinct = λ i h. by-test (eqb i columns)
            (λ p. subst (λ x. is_in (get_or (set order columns a) x 0) (first_of (set order columns a) x) ≡ false)
            (sym (eqb-true i columns p)) last)
            (λ p. let d = eqb-false i columns p in distinct-old i (omega (arith, h, d)));
        low = λ i h. by-test (eqb i columns)
            (λ p. subst (λ x. get_or (set order columns a) x 0 < 64) (sym (eqb-true i columns p)) last_low)
            (λ p. let d = eqb-false i columns p in low-old i (omega (arith, h, d)));
      }
    where
      last_low : get_or (set order columns a) columns 0 < 64
      last_low = rw (get_or-set_same order columns a 0 here) la

      last : is_in (get_or (set order columns a) columns 0) (first_of (set order columns a) columns) ≡ false
      last =
          rw (get_or-set_same order columns a 0 here, first-kept order columns a columns (omega arith), E.listed) e

  pub entered-more : o ≡ cond (get_or seen a false) columns (columns + 1)
      → Entered (set order columns a) o (set seen a true) (enter a l)
  entered-more eo = by-test (is_in a l)
      (λ e. subst (λ x. Entered (set order columns a) x (set seen a true) (enter a l))
      (sym (eo ∙ rw (E.known a la, e))) (held e))
      (λ e. subst (λ x. Entered (set order columns a) x (set seen a true) (enter a l))
      (sym (eo ∙ rw (E.known a la, e))) (new e))

-- ---- a column stored
pub shows-set :
    (t : Conjuncts) (table : List ColumnConstraints) (ms ms' : List ℕ) (T : ℕ → q.ColumnConstraints Lined) (a : ℕ)
    (c : ColumnConstraints) (x : q.ColumnConstraints Lined) → Shows t table ms T → a < 64 → RowsKept ms ms' a
    → column_of t (numbered (row_of ms' a) c) ≡ x → Fine (stride ms') (row_of ms' a) c.len
    → Shows t (set table a c) ms' (update T a x)
shows-set t table ms ms' T a c x S la K e f =
    record {
      size = length-set table a c ∙ S.size;
      column = λ b lb. by-test (eqb a b)
          (λ h. ap (λ d. column_of t (column_at (set table a c) ms' d)) (sym (eqb-true a b h))
          ∙ ap (λ d. column_of t (numbered (row_of ms' a) d)) same ∙ e ∙ sym (cond_yes (eqb a b) x (T b) h))
          (λ h. rw (other b h, h, K.others b lb h) (S.column b lb));
      fine = λ b lb. by-test (eqb a b)
          (λ h. rw (← eqb-true a b h, same) f)
          (λ h. rw (other b h, K.others b lb h, K.size) (S.fine b lb));
    }
  where
    same : get_or (set table a c) a past_column ≡ c
    same = get_or-set_same table a c past_column (rw S.size la)

    other : (b : ℕ) → eqb a b ≡ false → get_or (set table a c) b past_column ≡ get_or table b past_column
    other b h =
        let d : (b ≡ a → ⊥) = λ p. eqb-false a b h (sym p) in get_or-set_other table a b c past_column d

-- The other columns' numbers, once a row was written.
pub rows-fine : (ms ms' : List ℕ) (y x n : ℕ) → RowsKept ms ms' y → x < 64 → (y ≡ x → ⊥)
    → Fine (stride ms) (row_of ms x) n → Fine (stride ms') (row_of ms' x) n
rows-fine ms ms' y x n K l h f = rw (K.others x l (ne_eqb y x h), K.size) f

-- ---- an edge more
edges-kept : (x y z : List ℕ) (i a b n m : ℕ) → m ≤ i
    → edges_of (set x i a) (set y i b) (set z i n) m ≡ edges_of x y z m
unfolding edges_of
edges-kept x y z i a b n zero h = refl
edges-kept x y z i a b n (suc m) h =
    let d : (m ≡ i → ⊥) = λ e. absurd (omega (arith, e)) in
    rw (
      edges-kept x y z i a b n m (omega arith),
      get_or-set_other x i m a 0 d,
      get_or-set_other y i m b 0 d,
      get_or-set_other z i m n 0 d,
    )

pub edges_more :
    (x y z : List ℕ) (i a b n : ℕ) (l : List (ℕ × ℕ × ℕ)) → Edges x y z i l → i < length x → i < length y → i < length z →
    a < 64 → b < 64 →
    Edges (set x i a) (set y i b) (set z i n) (i + 1) (l ++ ((a, b, n) ∷ []))
unfolding edges_of
edges_more x y z i a b n l E hx hy hz la lb =
    record {
      listed = rw (
        add-one,
        edges-kept x y z i a b n i (omega arith),
        get_or-set_same x i a 0 hx,
        get_or-set_same y i b 0 hy,
        get_or-set_same z i n 0 hz,
        E.listed,
      );
      low-left = λ e k. by-test (eqb e i)
          (λ p. rw (eqb-true e i p, get_or-set_same x i a 0 hx) la)
          (λ p. let d = eqb-false e i p in rw (get_or-set_other x i e a 0 d) (E.low-left e (omega (arith, k, d))));
      low-right = λ e k. by-test (eqb e i)
          (λ p. rw (eqb-true e i p, get_or-set_same y i b 0 hy) lb)
          (λ p. let d = eqb-false e i p in rw (get_or-set_other y i e b 0 d) (E.low-right e (omega (arith, k, d))));
    }

-- A column below 64 stands in its own place.
pub low-slot : (a x : ℕ) → a < 64 → x ≡ a % 64 → x ≡ a
low-slot a x h e = omega (arith, h, e)

-- ---- the sizes and the numbers behind a stage
-- A column stored with its row.
pub fits-set : (cells cells' ms ms' : List ℕ) (a : ℕ) (c : ColumnConstraints) → Fits cells ms → a < 64 → RowsKept ms ms' a
    → Fine (stride ms') (row_of ms' a) c.len → columns_of cells' ≡ set (columns_of cells) a c → length cells' ≡ length cells
    → Fits cells' ms'
fits-set cells cells' ms ms' a c F la K f e l =
    record {
      size = l ∙ F.size;
      narrow = rw K.size F.narrow;
      fine = λ b lb. subst (λ t. Fine (stride ms') (row_of ms' b) (get_or t b past_column).len) (sym e)
          (by-test (eqb a b)
          (λ h. rw (← eqb-true a b h, get_or-set_same (columns_of cells) a c past_column (rw (columns-size cells) la)) f)
          (λ h. let d : (b ≡ a → ⊥) = λ p. eqb-false a b h (sym p) in
          rw (get_or-set_other (columns_of cells) a b c past_column d, K.others b lb h, K.size) (F.fine b lb)));
    }

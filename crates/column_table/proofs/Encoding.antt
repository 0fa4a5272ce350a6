-- Columns as words: what is stored is what is loaded, and a store leaves the other columns as they were.
use mathlib.Core.Path.{◌≡◌, refl, sym, ◌∙◌, ap, subst}
use mathlib.Core.Bool.{Bool, true, false}
use mathlib.Core.List.{List, [], ◌∷◌, ◌++◌}
use Prim.Native.Nat.{ℕ, zero, suc, ◌+◌, ◌*◌, ◌/◌, ◌%◌, ◌<◌}
use native.Mathlib.Omega.{arith}
use lib.ListN.{length, get_or, set, replicate, get_or-replicate, length-append, length-set, get_or-append}
use lib.Seq.{get_or-set_same, get_or-set_other, get_or-append-add, ext_get_or}
use lib.Dec.{eqb}
use borrow.Author.Tests.{eqb-true, eqb-false}
use Rattle.records.proofs.Laws.{by-test}
use Rattle.constraints.specs.declared.column.Nullability.{Nullability}
use Rattle.constraints.specs.declared.column.Nullability.TheVariants.{Unconstrained, Null, NonNull}
use Rattle.column_constraints.specs.declared.bound.Limit.{Limit}
use Rattle.column_constraints.specs.declared.bound.Bound.{Bound}
use Rattle.column_constraints.specs.declared.bound.Bound.TheVariants.{Absent, Open, Closed}
use Rattle.column_constraints.specs.declared.column.ColumnConstraints.{ColumnConstraints}
use Rattle.column_table.specs.Rows.{stride, row_of, RowsKept}
use Rattle.column_table.specs.Words.{past_column, kind_word, value_word, line_word, null_word, flag_word, bound_from, null_from}
use Rattle.column_table.specs.Words.{column_from, words_of, columns_to, columns_of, limit_lines, LineFits, limit_from}

-- ---- a column and its words
line-back : (l o : ℕ) → l < 256 → (l + 4294967296 * o) % 256 ≡ l
line-back l o h = omega (arith, h)

opener-back : (l o : ℕ) → l < 256 → (l + 4294967296 * o) / 4294967296 ≡ o
opener-back l o h = omega (arith, h)

limit_back : (s : Limit) → s.line < 256 → limit_from s.value.0 (limit_lines s) ≡ s
limit_back s h = rw (line-back s.line s.opener h, opener-back s.line s.opener h)

bound-back : (b : Bound) → LineFits b → bound_from (kind_word b) (value_word b) (line_word b) ≡ b
bound-back Absent h = refl
bound-back (Open s) h = ap Open (limit_back s h)
bound-back (Closed s) h = ap Closed (limit_back s h)

null_back : (n : Nullability) → null_from (null_word n) ≡ n
null_back Unconstrained = refl
null_back Null = refl
null_back NonNull = refl

flag_back : (b : Bool) → eqb (flag_word b) 1 ≡ b
flag_back true = refl
flag_back false = refl

kind-low : (b : Bound) → kind_word b < 4
kind-low Absent = omega arith
kind-low (Open s) = omega arith
kind-low (Closed s) = omega arith

null_low : (n : Nullability) → null_word n < 4
null_low Unconstrained = omega arith
null_low Null = omega arith
null_low NonNull = omega arith

flag_low : (b : Bool) → flag_word b < 2
flag_low true = omega arith
flag_low false = omega arith

-- Five small numbers in one word, each read back.
module _ (l u n s d : ℕ) (hl : l < 4) (hu : u < 4) (hn : n < 4) (hs : s < 2) where
  small-lower : (l + 4 * u + 16 * n + 64 * s + 128 * d) % 4 ≡ l
  small-lower = omega (arith, hl)

  small-upper : (l + 4 * u + 16 * n + 64 * s + 128 * d) / 4 % 4 ≡ u
  small-upper = omega (arith, hl, hu)

  small-null : (l + 4 * u + 16 * n + 64 * s + 128 * d) / 16 % 4 ≡ n
  small-null = omega (arith, hl, hu, hn)

  small-strict : (l + 4 * u + 16 * n + 64 * s + 128 * d) / 64 % 2 ≡ s
  small-strict = omega (arith, hl, hu, hn, hs)

  small-unsat : (l + 4 * u + 16 * n + 64 * s + 128 * d) / 128 ≡ d
  small-unsat = omega (arith, hl, hu, hn, hs)

pub words_back : (c : ColumnConstraints) → LineFits c.lower × LineFits c.upper → column_from (words_of c) ≡ c
unfolding column_from words_of
words_back c h =
    let l = kind_word c.lower in
    let u = kind_word c.upper in
    let n = null_word c.nullability in
    let s = flag_word c.strict in
    let d = flag_word c.unsat in
    let hl = kind-low c.lower in
    let hu = kind-low c.upper in
    let hn = null_low c.nullability in
    let hs = flag_low c.strict in
    rw (
      small-lower l u n s d hl hu hn hs,
      small-upper l u n s d hl hu hn hs,
      small-null l u n s d hl hu hn hs,
      small-strict l u n s d hl hu hn hs,
      small-unsat l u n s d hl hu hn hs,
      bound-back c.lower h.0,
      bound-back c.upper h.1,
      flag_back c.strict,
      null_back c.nullability,
      flag_back c.unsat,
    )

-- ---- the columns of a table
pub columns-length : (ws : List ℕ) (n : ℕ) → length (columns_to ws n) ≡ n
unfolding columns_to
columns-length ws zero = refl
columns-length ws (suc n) =
    let p = length-append (columns_to ws n) (column_from (row_of ws n) ∷ []) in
    let q = columns-length ws n in omega (arith, p, q)

columns-at : (ws : List ℕ) (n i : ℕ) → i < n → get_or (columns_to ws n) i past_column ≡ column_from (row_of ws i)
unfolding columns_to
columns-at ws zero i h = absurd (omega (arith, h))
columns-at ws (suc n) i h =
    let l = columns-length ws n in
    by-test (eqb i n)
    (λ e. let k = eqb-true i n e in
    let p : i ≡ length (columns_to ws n) + 0 = omega (arith, l, k) in
    ap (λ j. get_or (columns_to ws n ++ (column_from (row_of ws n) ∷ [])) j past_column) p
    ∙ get_or-append-add (columns_to ws n) (column_from (row_of ws n) ∷ []) 0 past_column
    ∙ ap (λ j. column_from (row_of ws j)) (sym k))
    (λ e. let d = eqb-false i n e in
    let k : i < n = omega (arith, d, h) in
    get_or-append (columns_to ws n) (column_from (row_of ws n) ∷ []) past_column i (omega (arith, l, k))
    ∙ columns-at ws n i k)

pub column-loaded : (ws : List ℕ) (x : ℕ) → x < 64 → get_or (columns_of ws) x past_column ≡ column_from (row_of ws x)
unfolding columns_of
column-loaded ws x h = columns-at ws 64 x h

pub columns-size : (ws : List ℕ) → length (columns_of ws) ≡ 64
unfolding columns_of
columns-size ws = columns-length ws 64

-- A row was written with the words of c: the table is the one before with c at its place.
pub column-stored : (ws ws' : List ℕ) (x : ℕ) (c : ColumnConstraints) → x < 64 → RowsKept ws ws' x
    → row_of ws' x ≡ words_of c → LineFits c.lower × LineFits c.upper → columns_of ws' ≡ set (columns_of ws) x c
column-stored ws ws' x c h K e f = ext_get_or past_column (columns_of ws') (set (columns_of ws) x c) sizes same
  where
    sizes : length (columns_of ws') ≡ length (set (columns_of ws) x c)
    sizes = columns-size ws' ∙ sym (length-set (columns_of ws) x c ∙ columns-size ws)

    at_x : get_or (columns_of ws') x past_column ≡ get_or (set (columns_of ws) x c) x past_column
    at_x = column-loaded ws' x h ∙ ap column_from e ∙ words_back c f
        ∙ sym (get_or-set_same (columns_of ws) x c past_column (rw (columns-size ws) h))

    same : (i : ℕ) → i < length (columns_of ws') → get_or (columns_of ws') i past_column ≡ get_or (set (columns_of ws) x c) i past_column
    same i l =
        let k : i < 64 = let s = columns-size ws' in omega (arith, s, l) in
        by-test (eqb x i)
        (λ p. subst (λ j. get_or (columns_of ws') j past_column ≡ get_or (set (columns_of ws) x c) j past_column) (eqb-true x i p) at_x)
        (λ p. let d : (i ≡ x → ⊥) = λ q. eqb-false x i p (sym q) in
        column-loaded ws' i k ∙ ap column_from (K.others i k p) ∙ sym (column-loaded ws i k)
        ∙ sym (get_or-set_other (columns_of ws) x i c past_column d))

-- A table of zeros holds empty columns.
pub columns-empty : columns_of (replicate 448 0) ≡ replicate 64 past_column
unfolding columns_of columns_to column_from row_of
columns-empty = refl

-- ---- what `store` ensures, read by `load`
pub loads-stored : (ws ws' : List ℕ) (x : ℕ) (c : ColumnConstraints) → x < 64 → columns_of ws' ≡ set (columns_of ws) x c
    → get_or (columns_of ws') x past_column ≡ c
loads-stored ws ws' x c h e =
    ap (λ t. get_or t x past_column) e ∙ get_or-set_same (columns_of ws) x c past_column (rw (columns-size ws) h)

pub loads-other : (ws ws' : List ℕ) (x y : ℕ) (c : ColumnConstraints) → (y ≡ x → ⊥) → columns_of ws' ≡ set (columns_of ws) x c
    → get_or (columns_of ws') y past_column ≡ get_or (columns_of ws) y past_column
loads-other ws ws' x y c d e = ap (λ t. get_or t y past_column) e ∙ get_or-set_other (columns_of ws) x y c past_column d

pub loads-empty : (x : ℕ) → x < 64 → get_or (columns_of (replicate 448 0)) x past_column ≡ past_column
loads-empty x h = ap (λ t. get_or t x past_column) columns-empty ∙ get_or-replicate 64 x past_column past_column h

-- ---- seven words written
pub seven_set : (l : List ℕ) (a b c d e f g : ℕ) → length l ≡ 7
    → set (set (set (set (set (set (set l 0 a) 1 b) 2 c) 3 d) 4 e) 5 f) 6 g ≡ (a ∷ b ∷ c ∷ d ∷ e ∷ f ∷ g ∷ [])
seven_set [] a b c d e f g p = absurd (omega (arith, p))
seven_set (x0 ∷ []) a b c d e f g p = absurd (omega (arith, p))
seven_set (x0 ∷ x1 ∷ []) a b c d e f g p = absurd (omega (arith, p))
seven_set (x0 ∷ x1 ∷ x2 ∷ []) a b c d e f g p = absurd (omega (arith, p))
seven_set (x0 ∷ x1 ∷ x2 ∷ x3 ∷ []) a b c d e f g p = absurd (omega (arith, p))
seven_set (x0 ∷ x1 ∷ x2 ∷ x3 ∷ x4 ∷ []) a b c d e f g p = absurd (omega (arith, p))
seven_set (x0 ∷ x1 ∷ x2 ∷ x3 ∷ x4 ∷ x5 ∷ []) a b c d e f g p = absurd (omega (arith, p))
seven_set (x0 ∷ x1 ∷ x2 ∷ x3 ∷ x4 ∷ x5 ∷ x6 ∷ []) a b c d e f g p = refl
seven_set (x0 ∷ x1 ∷ x2 ∷ x3 ∷ x4 ∷ x5 ∷ x6 ∷ x7 ∷ l) a b c d e f g p = absurd (omega (arith, p))

-- The text of the reasons, one column more; and what becomes of an answer where the text has to fit.
use mathlib.Core.Path.{◌≡◌, refl, sym, ◌∙◌, ap}
use mathlib.Core.Bool.{Bool, true, false, cond}
use mathlib.Core.List.{List, [], ◌∷◌, ◌++◌, map, append_assoc}
use Prim.Native.Nat.{ℕ, zero, suc, ◌+◌, ◌-◌, ◌<◌, ◌≤◌, ◌%◌}
use native.Mathlib.Omega.{arith}
use native.Mathlib.Numerals.{add-one}
use lib.ListN.{length, get_or, length-append}
use lib.Dec.{leb}
use Rattle.constraints.specs.Comparisons.{ColumnComparison, collect_column_comparisons}
use Rattle.constraints.specs.Lined.{Lined, lined}
use Rattle.column_constraints.specs.Abstraction.{Conjuncts, numbered, column_of}
use Rattle.column_constraints.specs.declared.column.ColumnConstraints.{ColumnConstraints}
use Rattle.column_reasons.specs.ColumnText.{column_text, table_text}
use Rattle.column_reasons.proofs.Places.{splice-none}
use Rattle.merge.specs.Emit.{of_column, comparisons}
use Rattle.merge.specs.Reasons.{ReasonValue, Reason, reason_of}
use Rattle.merge.specs.Write.{splice}
use Rattle.merge.proofs.Splices.{splice-then}
use Rattle.read_operands.specs.Walk.{first_of}
use Rattle.reasons.specs.Text.{reason_text, reasons_text}
use Rattle.column_table.specs.Rows.{row_of}
use Rattle.column_table.specs.State.{ColumnTable, column_at, shown}
use Rattle.column_table.specs.Words.{past_column}
use Rattle.column_table.proofs.Arrays.{low-slot}
use Rattle.column_table.proofs.Resolving.{comparisons-snoc, same-comparisons}

-- How values are shown, by column and bits.
abbrev Shows : Type 0
Shows = ℕ → ℕ → ReasonValue

texts_append : (shows : Shows) (l m : List (ℕ × ColumnComparison Lined)) → reasons_text (map (reason_of shows) (l ++ m)) ≡
    reasons_text (map (reason_of shows) l) ++ reasons_text (map (reason_of shows) m)
unfolding reasons_text
texts_append shows [] m = refl
texts_append shows (x ∷ l) m =
    ap (λ k. reason_text (reason_of shows x) ++ k) (texts_append shows l m) ∙
    sym (append_assoc (reason_text (reason_of shows x)) (reasons_text (map (reason_of shows) l)) (reasons_text (map (reason_of shows) m)))

text-none : (shows : Shows) (order : List ℕ) (T : ColumnTable) → table_text shows (first_of order 0) T ≡ []
unfolding table_text first_of reasons_text
text-none shows order T = refl

text-more : (shows : Shows) (order : List ℕ) (w : ℕ) (T : ColumnTable) → table_text shows (first_of order (w + 1)) T ≡
    table_text shows (first_of order w) T ++ column_text shows (get_or order w 0) (collect_column_comparisons lined (T (get_or order w 0)))
unfolding table_text column_text first_of
text-more shows order w T =
    rw (add-one)
    (ap (λ l. reasons_text (map (reason_of shows) l)) (comparisons-snoc (first_of order w) (get_or order w 0) T)
    ∙ texts_append shows (comparisons lined (first_of order w) T)
    (of_column (get_or order w 0) (collect_column_comparisons lined (T (get_or order w 0)))))

-- What a column loaded from place x is written out as is what the table's column is.
loaded : (order : List ℕ) (w : ℕ) (s : Conjuncts) (table : List ColumnConstraints) (ms : List ℕ) (x : ℕ) (c : ColumnConstraints)
    → get_or order w 0 < 64 → x ≡ get_or order w 0 % 64 → c ≡ get_or table x past_column
    → column_of s (numbered (row_of ms x) c) ≡ shown s table ms (get_or order w 0)
loaded order w s table ms x c la ex hc =
    let p : x ≡ get_or order w 0 = low-slot (get_or order w 0) x la ex in
    ap (λ d. column_of s (numbered (row_of ms x) d)) hc ∙ ap (λ y. column_of s (column_at table ms y)) p

module _ (shows : Shows) (order : List ℕ) (w : ℕ) (s : Conjuncts) (table : List ColumnConstraints) (ms : List ℕ) (x : ℕ)
    (c : ColumnConstraints) (la : get_or order w 0 < 64) (ex : x ≡ get_or order w 0 % 64) (hc : c ≡ get_or table x past_column) where
  -- The text of the column loaded.
  abbrev pub own : List ℕ
  own = column_text shows (get_or order w 0) (collect_column_comparisons lined (column_of s (numbered (row_of ms x) c)))

  more : table_text shows (first_of order (w + 1)) (shown s table ms) ≡ table_text shows (first_of order w) (shown s table ms) ++ own
  more =
      text-more shows order w (shown s table ms) ∙
      ap (λ d. table_text shows (first_of order w) (shown s table ms) ++
      column_text shows (get_or order w 0) (collect_column_comparisons lined d)) (sym (loaded order w s table ms x c la ex hc))

  more_length : length (table_text shows (first_of order (w + 1)) (shown s table ms)) ≡
      length (table_text shows (first_of order w) (shown s table ms)) + length own
  more_length = ap length more ∙ length-append (table_text shows (first_of order w) (shown s table ms)) own

  pub length-loaded : (size r : ℕ) → size ≡ 0 + length (table_text shows (first_of order w) (shown s table ms)) → r ≡ length own
      → size + r ≡ 0 + length (table_text shows (first_of order (w + 1)) (shown s table ms))
  length-loaded size r e er = let m = more_length in omega (arith, m, e, er)

  pub next-loaded : (next r : ℕ) → next ≡ 0 + length (table_text shows (first_of order w) (shown s table ms)) → r ≡ next + length own
      → r ≡ 0 + length (table_text shows (first_of order (w + 1)) (shown s table ms))
  next-loaded next r e er = let m = more_length in omega (arith, m, e, er)

  pub text-loaded : (next : ℕ) (out₀ out after : List ℕ) → next ≡ 0 + length (table_text shows (first_of order w) (shown s table ms))
      → out ≡ splice out₀ 0 (table_text shows (first_of order w) (shown s table ms)) → next + length own ≤ length out₀
      → after ≡ splice out next own
      → after ≡ splice out₀ 0 (table_text shows (first_of order (w + 1)) (shown s table ms))
  text-loaded next out₀ out after e eo room ea =
      splice-then out₀ 0 next (table_text shows (first_of order w) (shown s table ms)) own eo ea (sym e) room ∙
      ap (splice out₀ 0) (sym more)

-- Fewer columns have no more text.
text-upto : (shows : Shows) (order : List ℕ) (T : ColumnTable) (w d : ℕ)
    → length (table_text shows (first_of order w) T) ≤ length (table_text shows (first_of order (w + d)) T)
text-upto shows order T w zero = let e : w + 0 ≡ w = omega arith in rw e (omega arith)
text-upto shows order T w (suc d) =
    let e : w + suc d ≡ w + d + 1 = omega arith in
    let h : length (table_text shows (first_of order (w + d + 1)) T) ≡ length (table_text shows (first_of order (w + d)) T) +
    length (column_text shows (get_or order (w + d) 0) (collect_column_comparisons lined (T (get_or order (w + d) 0)))) =
    ap length (text-more shows order (w + d) T) ∙ length-append (table_text shows (first_of order (w + d)) T)
    (column_text shows (get_or order (w + d) 0) (collect_column_comparisons lined (T (get_or order (w + d) 0)))) in
    let g = text-upto shows order T w d in
    rw e (omega (arith, h, g))

-- What a column's text takes is there when all have room.
pub text-room : (shows : Shows) (order : List ℕ) (w columns : ℕ) (s : Conjuncts) (table : List ColumnConstraints) (ms : List ℕ) (x : ℕ)
    (c : ColumnConstraints) (next room : ℕ) → w < columns → get_or order w 0 < 64 → x ≡ get_or order w 0 % 64
    → c ≡ get_or table x past_column → next ≡ 0 + length (table_text shows (first_of order w) (shown s table ms))
    → length (table_text shows (first_of order columns) (shown s table ms)) ≤ room
    → next + length (column_text shows (get_or order w 0) (collect_column_comparisons lined (column_of s (numbered (row_of ms x) c)))) ≤ room
text-room shows order w columns s table ms x c next room l la ex hc e h =
    let d : w + 1 + (columns - (w + 1)) ≡ columns = omega (arith, l) in
    let g = text-upto shows order (shown s table ms) (w + 1) (columns - (w + 1)) in
    let g' : length (table_text shows (first_of order (w + 1)) (shown s table ms)) ≤
    length (table_text shows (first_of order columns) (shown s table ms)) = rw d at g in
    let m = more_length shows order w s table ms x c la ex hc in
    omega (arith, g', m, e, h)

pub begin-size : (shows : Shows) (order : List ℕ) (s : Conjuncts) (table : List ColumnConstraints) (ms : List ℕ)
    → 0 ≡ 0 + length (table_text shows (first_of order 0) (shown s table ms))
begin-size shows order s table ms = rw (text-none shows order (shown s table ms)) refl

pub begin-out : (shows : Shows) (order : List ℕ) (s : Conjuncts) (table : List ColumnConstraints) (ms out : List ℕ)
    → out ≡ splice out 0 (table_text shows (first_of order 0) (shown s table ms))
begin-out shows order s table ms out = rw (text-none shows order (shown s table ms)) (sym (splice-none out 0))

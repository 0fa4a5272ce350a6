-- A column's text place by place: what one place more adds, and that all places are the column's comparisons.
use mathlib.Core.Path.{◌≡◌, refl, sym, ◌∙◌, ap}
use mathlib.Core.List.{List, [], ◌∷◌, ◌++◌, map, append-nil, append_assoc}
use Prim.Native.Nat.{ℕ, zero, suc, ◌+◌, ◌*◌, ◌-◌, ◌≤◌, ◌<◌}
use native.Mathlib.Omega.{arith}
use native.Mathlib.Numerals.{add-one}
use lib.ListN.{length, length-append, take-append-drop}
use Rattle.constraints.specs.Comparisons.{ColumnComparison, IsEq, IsLower, IsUpper, IsNotEq, collect_column_comparisons}
use Rattle.constraints.specs.Lined.{Lined, lined}
use Rattle.column_constraints.specs.Abstraction.{Conjuncts, Numbered, column_of, compared_of}
use Rattle.column_constraints.specs.Steps.{placed, placed_to}
use Rattle.column_constraints.specs.declared.column.Compared.{Compared}
use Rattle.columns.proofs.Written.{places-law}
use Rattle.merge.specs.Emit.{of_column}
use Rattle.merge.specs.Reasons.{ReasonValue, Reason, reason_of}
use Rattle.merge.specs.Write.{splice}
use Rattle.merge.proofs.Splices.{splice-then}
use Rattle.reasons.specs.Text.{reason_text, reasons_text}
use Rattle.column_reasons.specs.ColumnText.{column_text}

-- How values are shown, by column and bits.
abbrev Shows : Type 0
Shows = ℕ → ℕ → ReasonValue

pub text-none : (shows : Shows) (a : ℕ) → column_text shows a [] ≡ []
unfolding column_text reasons_text
text-none shows a = refl

-- a comparison alone is its reason's line
pub text-one : (shows : Shows) (a : ℕ) (x : ColumnComparison Lined) → column_text shows a (x ∷ []) ≡ reason_text (reason_of shows (a, x))
unfolding column_text reasons_text
text-one shows a x = append-nil (reason_text (reason_of shows (a, x)))

pub text-append : (shows : Shows) (a : ℕ) (l m : List (ColumnComparison Lined)) →
    column_text shows a (l ++ m) ≡ column_text shows a l ++ column_text shows a m
unfolding column_text reasons_text
text-append shows a [] m = refl
text-append shows a (x ∷ l) m =
    ap (λ k. reason_text (reason_of shows (a, x)) ++ k) (text-append shows a l m) ∙
    sym (append_assoc (reason_text (reason_of shows (a, x))) (column_text shows a l) (column_text shows a m))

placed-none : (s : Conjuncts) (c : Numbered) → placed_to s c 0 ≡ []
unfolding placed_to
placed-none s c = refl

placed-more : (s : Conjuncts) (c : Numbered) (p : ℕ) → placed_to s c (p + 1) ≡ placed_to s c p ++ placed s c p
unfolding placed_to
placed-more s c p = rw add-one

-- The text of the places below p.
abbrev pub text_to : Shows → ℕ → Conjuncts → Numbered → ℕ → List ℕ
text_to shows a s c p = column_text shows a (placed_to s c p)

text-to_none : (shows : Shows) (a : ℕ) (s : Conjuncts) (c : Numbered) → text_to shows a s c 0 ≡ []
text-to_none shows a s c = ap (column_text shows a) (placed-none s c) ∙ text-none shows a

text-to_more : (shows : Shows) (a : ℕ) (s : Conjuncts) (c : Numbered) (p : ℕ) (k : Compared) → compared_of k ≡ placed s c p →
    text_to shows a s c (p + 1) ≡ text_to shows a s c p ++ column_text shows a (compared_of k)
text-to_more shows a s c p k e =
    ap (column_text shows a) (placed-more s c p) ∙ text-append shows a (placed_to s c p) (placed s c p) ∙
    ap (λ l. text_to shows a s c p ++ column_text shows a l) (sym e)

-- ---- lengths
pub begin-length : (shows : Shows) (a : ℕ) (s : Conjuncts) (c : Numbered) (u : ℕ) → u ≡ u + length (text_to shows a s c 0)
begin-length shows a s c u = rw (text-to_none shows a s c) (omega arith)

length_more : (shows : Shows) (a : ℕ) (s : Conjuncts) (c : Numbered) (p : ℕ) (k : Compared) → compared_of k ≡ placed s c p →
    length (text_to shows a s c (p + 1)) ≡ length (text_to shows a s c p) + length (column_text shows a (compared_of k))
length_more shows a s c p k e =
    ap length (text-to_more shows a s c p k e) ∙ length-append (text_to shows a s c p) (column_text shows a (compared_of k))

pub place-more : (shows : Shows) (a : ℕ) (s : Conjuncts) (c : Numbered) (u at p r : ℕ) (k : Compared) → compared_of k ≡ placed s c p
    → at ≡ u + length (text_to shows a s c p) → r ≡ at + length (column_text shows a (compared_of k))
    → r ≡ u + length (text_to shows a s c (p + 1))
place-more shows a s c u at p r k e ea er =
    let h : length (text_to shows a s c (p + 1)) ≡ length (text_to shows a s c p) + length (column_text shows a (compared_of k)) =
    length_more shows a s c p k e in
    omega (arith, h, ea, er)

-- ---- bytes
pub splice-none : (l : List ℕ) (at : ℕ) → splice l at [] ≡ l
unfolding splice
splice-none l at = let e : at + 0 ≡ at = omega arith in rw e (take-append-drop at l)

pub begin-text : (shows : Shows) (a : ℕ) (s : Conjuncts) (c : Numbered) (at : ℕ) (out : List ℕ) → out ≡ splice out at (text_to shows a s c 0)
begin-text shows a s c at out = rw (text-to_none shows a s c) (sym (splice-none out at))

pub text-more : (shows : Shows) (a : ℕ) (s : Conjuncts) (c : Numbered) (u at p : ℕ) (k : Compared) (out₀ out after : List ℕ)
    → compared_of k ≡ placed s c p → at ≡ u + length (text_to shows a s c p) → out ≡ splice out₀ u (text_to shows a s c p)
    → at + length (column_text shows a (compared_of k)) ≤ length out₀
    → after ≡ splice out at (column_text shows a (compared_of k))
    → after ≡ splice out₀ u (text_to shows a s c (p + 1))
text-more shows a s c u at p k out₀ out after e ea eo room er =
    splice-then out₀ u at (text_to shows a s c p) (column_text shows a (compared_of k)) eo er (sym ea) room ∙
    ap (splice out₀ u) (sym (text-to_more shows a s c p k e))

-- ---- all places
pub text-all : (shows : Shows) (a : ℕ) (s : Conjuncts) (c : Numbered) (p : ℕ) → p ≡ c.len + 2 →
    text_to shows a s c p ≡ column_text shows a (collect_column_comparisons lined (column_of s c))
text-all shows a s c p e =
    let h : p ≡ 2 + c.len = omega (arith, e) in
    ap (λ (n : ℕ). text_to shows a s c n) h ∙ ap (column_text shows a) (places-law s c)

-- ---- room
length_up : (shows : Shows) (a : ℕ) (s : Conjuncts) (c : Numbered) (p d : ℕ) →
    length (text_to shows a s c p) ≤ length (text_to shows a s c (p + d))
length_up shows a s c p zero = let e : p + 0 ≡ p = omega arith in rw e (omega arith)
length_up shows a s c p (suc d) =
    let e : p + suc d ≡ p + d + 1 = omega arith in
    let h : length (text_to shows a s c (p + d + 1)) ≡
    length (text_to shows a s c (p + d)) + length (column_text shows a (placed s c (p + d))) =
    ap (λ l. length (column_text shows a l)) (placed-more s c (p + d)) ∙
    ap length (text-append shows a (placed_to s c (p + d)) (placed s c (p + d))) ∙
    length-append (text_to shows a s c (p + d)) (column_text shows a (placed s c (p + d))) in
    let g : length (text_to shows a s c p) ≤ length (text_to shows a s c (p + d)) = length_up shows a s c p d in
    rw e (omega (arith, h, g))

-- What a place takes is there when the whole column has room.
pub place-room : (shows : Shows) (a : ℕ) (s : Conjuncts) (c : Numbered) (u at p room : ℕ) (k : Compared)
    → compared_of k ≡ placed s c p → at ≡ u + length (text_to shows a s c p) → p < c.len + 2
    → u + length (column_text shows a (collect_column_comparisons lined (column_of s c))) ≤ room
    → at + length (column_text shows a (compared_of k)) ≤ room
place-room shows a s c u at p room k e ea l h =
    let q : p + 1 + (c.len + 1 - p) ≡ c.len + 2 = omega (arith, l) in
    let g : length (text_to shows a s c (p + 1)) ≤ length (text_to shows a s c (p + 1 + (c.len + 1 - p))) =
    length_up shows a s c (p + 1) (c.len + 1 - p) in
    let w : length (text_to shows a s c (p + 1 + (c.len + 1 - p))) ≡
    length (column_text shows a (collect_column_comparisons lined (column_of s c))) =
    ap length (text-all shows a s c (p + 1 + (c.len + 1 - p)) q) in
    let m : length (text_to shows a s c (p + 1)) ≡ length (text_to shows a s c p) + length (column_text shows a (compared_of k)) =
    length_more shows a s c p k e in
    omega (arith, g, w, m, ea, h)

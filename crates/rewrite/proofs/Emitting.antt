-- A column written place by place: what one place more adds, and that all places are the column's comparisons.
use mathlib.Core.Path.{◌≡◌, refl, sym, ◌∙◌, ap}
use mathlib.Core.List.{List, [], ◌∷◌, ◌++◌}
use Prim.Native.Nat.{ℕ, zero, suc, ◌+◌, ◌*◌, ◌-◌, ◌≤◌, ◌<◌}
use native.Mathlib.Omega.{arith}
use native.Mathlib.Numerals.{add-one}
use lib.ListN.{length, length-append}
use Rattle.constraints.specs.Comparisons.{ColumnComparison, collect_column_comparisons}
use Rattle.constraints.specs.Lined.{Lined, lined}
use Rattle.column_constraints.specs.Abstraction.{Conjuncts, column_of, compared_of}
use Rattle.column_constraints.specs.Steps.{placed, placed_to}
use Rattle.column_constraints.specs.Abstraction.{Numbered}
use Rattle.column_constraints.specs.declared.column.Compared.{Compared}
use Rattle.column_constraints.specs.declared.column.Compared.TheVariants as place
use Rattle.columns.proofs.Written.{places-law}
use Rattle.constraints.specs.Mapped.{map_comparison}
use Rattle.merge.specs.Emit.{of_column}
use Rattle.merge.specs.Lines.{map_comparisons}
use Rattle.merge.specs.Write.{write_comparison, write_comparisons}

pub place_none : (u : ℕ) → u ≡ u + 3 * 0
place_none u = omega arith

-- A place holds one comparison at most.
pub place-few : (k : Compared) → length (compared_of k) ≤ 1
place-few place.Vacant = omega arith
place-few (place.Eq v) = omega arith
place-few (place.Gt v) = omega arith
place-few (place.GtEq v) = omega arith
place-few (place.Lt v) = omega arith
place-few (place.LtEq v) = omega arith
place-few (place.NotEq v) = omega arith

-- Two parts of a list of comparisons, written one behind the other.
pub write_append : (t : List ℕ) (u : ℕ) (l m : List (ℕ × ColumnComparison ℕ)) (rs : List ℕ) →
    write_comparisons t u (l ++ m) rs ≡ write_comparisons t (u + 3 * length l) m (write_comparisons t u l rs)
write_append t u [] m rs = ap (λ (n : ℕ). write_comparisons t n m rs) (place_none u)
write_append t u (x ∷ l) m rs =
    let q : suc (suc (suc u)) + 3 * length l ≡ u + 3 * suc (length l) = omega arith in
    write_append t (suc (suc (suc u))) l m (write_comparison t u x rs) ∙
    ap (λ (n : ℕ). write_comparisons t n m (write_comparisons t (suc (suc (suc u))) l (write_comparison t u x rs))) q

pub of_column-length : (a : ℕ) (l : List (ColumnComparison Lined)) → length (of_column a l) ≡ length l
of_column-length a [] = refl
of_column-length a (x ∷ l) = ap suc (of_column-length a l)

-- The same of one column's comparisons, which are written without their lines.
abbrev pub bits_in : ℕ → List (ColumnComparison Lined) → List (ℕ × ColumnComparison ℕ)
bits_in a l = map_comparisons (λ (v : Lined). v.bits) (of_column a l)

pub bits-length : (a : ℕ) (l : List (ColumnComparison Lined)) → length (bits_in a l) ≡ length l
bits-length a [] = refl
bits-length a (x ∷ l) = ap suc (bits-length a l)

bits-append : (a : ℕ) (l m : List (ColumnComparison Lined)) → bits_in a (l ++ m) ≡ bits_in a l ++ bits_in a m
bits-append a [] m = refl
bits-append a (x ∷ l) m = ap (λ k. (a, map_comparison (λ (v : Lined). v.bits) x) ∷ k) (bits-append a l m)

written-append : (t : List ℕ) (u a : ℕ) (l m : List (ColumnComparison Lined)) (rs : List ℕ) →
    write_comparisons t u (bits_in a (l ++ m)) rs ≡
    write_comparisons t (u + 3 * length l) (bits_in a m) (write_comparisons t u (bits_in a l) rs)
written-append t u a l m rs =
    ap (λ k. write_comparisons t u k rs) (bits-append a l m) ∙ write_append t u (bits_in a l) (bits_in a m) rs ∙
    ap (λ n. write_comparisons t (u + 3 * n) (bits_in a m) (write_comparisons t u (bits_in a l) rs))
    (bits-length a l)

placed-none : (s : Conjuncts) (c : Numbered) → placed_to s c 0 ≡ []
unfolding placed_to
placed-none s c = refl

placed-more : (s : Conjuncts) (c : Numbered) (p : ℕ) → placed_to s c (p + 1) ≡
    placed_to s c p ++ placed s c p
unfolding placed_to
placed-more s c p = rw add-one

pub begin-at : (s : Conjuncts) (c : Numbered) (u : ℕ) → u ≡ u + 3 * length (placed_to s c 0)
begin-at s c u = rw (placed-none s c) (place_none u)

pub begin-written : (t : List ℕ) (s : Conjuncts) (c : Numbered) (u a : ℕ) (rs : List ℕ) →
    rs ≡ write_comparisons t u (bits_in a (placed_to s c 0)) rs
begin-written t s c u a rs = rw (placed-none s c)

-- ---- one place more
count-more : (s : Conjuncts) (c : Numbered) (p : ℕ) (k : Compared) → compared_of k ≡ placed s c p →
    length (placed_to s c (p + 1)) ≡ length (placed_to s c p) + length (compared_of k)
count-more s c p k e = rw (placed-more s c p, e) (length-append (placed_to s c p) (placed s c p))

pub at_more : (s : Conjuncts) (c : Numbered) (u at p r : ℕ) (k : Compared) → compared_of k ≡ placed s c p
    → at ≡ u + 3 * length (placed_to s c p) → r ≡ at + 3 * length (compared_of k)
    → r ≡ u + 3 * length (placed_to s c (p + 1))
at_more s c u at p r k e ea er =
    let h : length (placed_to s c (p + 1)) ≡ length (placed_to s c p) + length (compared_of k) = count-more s c p k e in
    omega (arith, h, ea, er)

pub written-more : (t : List ℕ) (s : Conjuncts) (c : Numbered) (u a at p : ℕ) (k : Compared)
    (rs₀ rs out : List ℕ) → compared_of k ≡ placed s c p → at ≡ u + 3 * length (placed_to s c p)
    → rs ≡ write_comparisons t u (bits_in a (placed_to s c p)) rs₀
    → out ≡ write_comparisons t at (bits_in a (compared_of k)) rs
    → out ≡ write_comparisons t u (bits_in a (placed_to s c (p + 1))) rs₀
written-more t s c u a at p k rs₀ rs out e ea er eo =
    eo ∙ rw (e, ea, er)
    (sym (ap (λ l. write_comparisons t u (bits_in a l) rs₀) (placed-more s c p) ∙
    written-append t u a (placed_to s c p) (placed s c p) rs₀))

-- ---- room, and the end
count-up : (s : Conjuncts) (c : Numbered) (p d : ℕ) → length (placed_to s c p) ≤ length (placed_to s c (p + d))
count-up s c p zero = let e : p + 0 ≡ p = omega arith in rw e (omega arith)
count-up s c p (suc d) =
    let e : p + suc d ≡ p + d + 1 = omega arith in
    let h : length (placed_to s c (p + d + 1)) ≡ length (placed_to s c (p + d)) + length (placed s c (p + d)) =
    rw (placed-more s c (p + d)) (length-append (placed_to s c (p + d)) (placed s c (p + d))) in
    let g : length (placed_to s c p) ≤ length (placed_to s c (p + d)) = count-up s c p d in
    rw e (omega (arith, h, g))

pub placed-all : (s : Conjuncts) (c : Numbered) (p : ℕ) → p ≡ c.len + 2 →
    placed_to s c p ≡ collect_column_comparisons lined (column_of s c)
placed-all s c p e =
    let h : p ≡ 2 + c.len = omega (arith, e) in ap (λ (n : ℕ). placed_to s c n) h ∙ places-law s c

-- What a place takes is there when the whole column has room.
pub place-room : (s : Conjuncts) (c : Numbered) (u at p room : ℕ) (k : Compared)
    → compared_of k ≡ placed s c p → at ≡ u + 3 * length (placed_to s c p) → p < c.len + 2
    → 16 * (u + 3 * length (collect_column_comparisons lined (column_of s c))) ≤ room
    → 16 * (at + 3 * length (compared_of k)) ≤ room
place-room s c u at p room k e ea l h =
    let q : p + 1 + (c.len + 1 - p) ≡ c.len + 2 = omega (arith, l) in
    let g : length (placed_to s c (p + 1)) ≤ length (placed_to s c (p + 1 + (c.len + 1 - p))) =
    count-up s c (p + 1) (c.len + 1 - p) in
    let w : length (placed_to s c (p + 1 + (c.len + 1 - p))) ≡
    length (collect_column_comparisons lined (column_of s c)) =
    ap length (placed-all s c (p + 1 + (c.len + 1 - p)) q) in
    let m : length (placed_to s c (p + 1)) ≡ length (placed_to s c p) + length (compared_of k) = count-more s c p k e in
    omega (arith, g, w, m, ea, h)

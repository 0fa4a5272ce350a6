-- What a column is written out as: the comparisons at its places, and their number. Assumes nothing.
use Rattle.constraints.specs.Bound.{of_bound}
use mathlib.Core.Path.{◌≡◌, refl, sym, ◌∙◌, ap}
use mathlib.Core.Bool.{Bool, true, false, not, cond}
use mathlib.Core.List.{List, [], ◌∷◌, ◌++◌, map}
use mathlib.Core.Option.{Option, none, some}
use Prim.Native.Nat.{ℕ, zero, suc, ◌+◌, ◌-◌, ◌≤◌}
use native.Mathlib.Omega.{arith}
use native.Mathlib.Numerals.{add-one}
use lib.ListN.{length, get_or, length-append}
use borrow.Author.Tests.{ne_eqb}
use Rattle.constraints.specs.Bound as b
use Rattle.constraints.specs.Resolve as z
use Rattle.constraints.specs.Comparisons as e
use Rattle.constraints.specs.Lined.{Lined, lined}
use Rattle.column_constraints.specs.Abstraction.{Conjuncts, column_of, bound_of, gather, of_kind, literal_at, excluded_by}
use Rattle.column_constraints.specs.Steps.{placed, placed_to, placed_by, placed_free, placed_point, placed_mark}
use Rattle.column_constraints.specs.Abstraction.{Numbered}

pub count_none : (ks vs a : List ℕ) → 0 ≡ length (excluded_by ks vs a 0)
unfolding excluded_by gather
count_none ks vs a = refl

count-suc : (ks vs a : List ℕ) (i : ℕ) → length (excluded_by ks vs a (suc i)) ≡ length (excluded_by ks vs a i) + cond
    (of_kind ks 0 (get_or a i 0)) 1 0
unfolding excluded_by gather
count-suc ks vs a i = go (of_kind ks 0 (get_or a i 0))
  where
    go : (x : Bool) → length (cond x (excluded_by ks vs a i ++ (literal_at vs (get_or a i 0) ∷ [])) (excluded_by ks vs a i)) ≡
        length (excluded_by ks vs a i) + cond x 1 0
    go true = length-append (excluded_by ks vs a i) (literal_at vs (get_or a i 0) ∷ [])
    go false = let h : length (excluded_by ks vs a i) ≡ length (excluded_by ks vs a i) + 0 = omega arith in h

pub count-more : (ks vs a : List ℕ) (i : ℕ) → length (excluded_by ks vs a (i + 1)) ≡
    length (excluded_by ks vs a i) + cond (of_kind ks 0 (get_or a i 0)) 1 0
count-more ks vs a i = rw add-one (count-suc ks vs a i)

pub count-few : (x : Bool) (r : ℕ) → r ≡ cond x 1 0 → r ≤ 1
count-few true r e = omega (arith, e)
count-few false r e = omega (arith, e)

-- ---- the places, one after the other, are the comparisons in their order

compared-snoc : (l : List Lined) (v : Lined) → map e.IsNotEq (l ++ (v ∷ [])) ≡
    map e.IsNotEq l ++ (e.IsNotEq v ∷ [])
compared-snoc [] v = refl
compared-snoc (w ∷ l) v = ap (λ m. e.IsNotEq w ∷ m) (compared-snoc l v)

assoc : {A : Type 0} (l m n : List A) → (l ++ m) ++ n ≡ l ++ (m ++ n)
assoc [] m n = refl
assoc (x ∷ l) m n = ap (λ y. x ∷ y) (assoc l m n)

nil : {A : Type 0} (l : List A) → l ++ [] ≡ l
nil [] = refl
nil (x ∷ l) = ap (λ y. x ∷ y) (nil l)

mark_compared : (ks vs a : List ℕ) (n : ℕ) → map e.IsNotEq (excluded_by ks vs a (suc n)) ≡
    map e.IsNotEq (excluded_by ks vs a n) ++ placed_mark ks vs (get_or a n 0)
unfolding excluded_by gather
mark_compared ks vs a n = go (of_kind ks 0 (get_or a n 0))
  where
    go : (x : Bool) → map e.IsNotEq (cond x (excluded_by ks vs a n ++ (literal_at vs (get_or a n 0) ∷ []))
        (excluded_by ks vs a n)) ≡ map e.IsNotEq (excluded_by ks vs a n) ++ cond x
        (e.IsNotEq (literal_at vs (get_or a n 0)) ∷ []) []
    go true = compared-snoc (excluded_by ks vs a n) (literal_at vs (get_or a n 0))
    go false = sym (nil (map e.IsNotEq (excluded_by ks vs a n)))

none-compared : (ks vs a : List ℕ) → map e.IsNotEq (excluded_by ks vs a 0) ≡ []
unfolding excluded_by gather
none-compared ks vs a = refl

-- the places of a column that no value fixes
abbrev free : Conjuncts → Numbered → ℕ → List (e.ColumnComparison Lined)
free t c n = of_bound e.IsLower (bound_of c.lower) ++
    (of_bound e.IsUpper (bound_of c.upper) ++ map e.IsNotEq (excluded_by t.kinds t.values c.marks n))

unfixed : (t : Conjuncts) (c : Numbered) (p : ℕ) → z.fixed_at lined (bound_of c.lower)
    (bound_of c.upper) ≡ none → placed t c p ≡ placed_free t c p
unfolding placed
unfixed t c p h = ap (λ o. placed_by o t c p) h

fixed : (t : Conjuncts) (c : Numbered) (p : ℕ) (v : Lined) → z.fixed_at lined (bound_of c.lower)
    (bound_of c.upper) ≡ some v → placed t c p ≡ placed_point v p
unfolding placed
fixed t c p v h = ap (λ o. placed_by o t c p) h

two : (t : Conjuncts) (c : Numbered) → placed_to t c 2 ≡ placed t c 0 ++ placed t c 1
unfolding placed_to
two t c = refl

step : (t : Conjuncts) (c : Numbered) (p : ℕ) → placed_to t c (suc p) ≡ placed_to t c p ++ placed t c p
unfolding placed_to
step t c p = refl

place-mark : (t : Conjuncts) (c : Numbered) (n : ℕ) → placed_free t c (2 + n) ≡
    placed_mark t.kinds t.values (get_or c.marks n 0)
place-mark t c n =
    let z0 : (2 + n ≡ 0 → ⊥) = λ e. omega (arith, e) in
    let z1 : (2 + n ≡ 1 → ⊥) = λ e. omega (arith, e) in
    let s : 2 + n - 2 ≡ n = omega arith in
    rw (ne_eqb (2 + n) 0 z0, ne_eqb (2 + n) 1 z1, s)

free_placed : (t : Conjuncts) (c : Numbered) → z.fixed_at lined (bound_of c.lower) (bound_of c.upper) ≡
    none → (n : ℕ) → placed_to t c (2 + n) ≡ free t c n
free_placed t c h zero = two t c ∙
    rw (
      unfixed t c 0 h,
      unfixed t c 1 h,
      none-compared t.kinds t.values c.marks,
      nil (of_bound e.IsUpper (bound_of c.upper)),
    )
free_placed t c h (suc n) =
    let s : 2 + suc n ≡ suc (2 + n) = omega arith in
    ap (λ p. placed_to t c p) s ∙ step t c (2 + n) ∙
    rw (
      free_placed t c h n,
      unfixed t c (2 + n) h,
      place-mark t c n,
      mark_compared t.kinds t.values
          c.marks n,
    )
    (assoc (of_bound e.IsLower (bound_of c.lower)) (of_bound e.IsUpper (bound_of c.upper) ++
    map e.IsNotEq (excluded_by t.kinds t.values c.marks n))
    (placed_mark t.kinds t.values (get_or c.marks n 0))
    ∙ ap (λ y. of_bound e.IsLower (bound_of c.lower) ++ y)
    (assoc (of_bound e.IsUpper (bound_of c.upper))
    (map e.IsNotEq (excluded_by t.kinds t.values c.marks n))
    (placed_mark t.kinds t.values (get_or c.marks n 0))))

none-placed : (t : Conjuncts) (c : Numbered) (v : Lined) → placed_to t c 0 ++ (e.IsEq v ∷ []) ≡ e.IsEq v ∷ []
unfolding placed_to
none-placed t c v = refl

point_placed : (t : Conjuncts) (c : Numbered) (v : Lined) → z.fixed_at lined (bound_of c.lower)
    (bound_of c.upper) ≡ some v → (n : ℕ) → placed_to t c (suc n) ≡ e.IsEq v ∷ []
point_placed t c v h zero = step t c 0 ∙ rw (fixed t c 0 v h) (none-placed t c v)
point_placed t c v h (suc n) =
    let z0 : (suc n ≡ 0 → ⊥) = λ e. omega (arith, e) in
    step t c (suc n) ∙ rw (point_placed t c v h n, fixed t c (suc n) v h, ne_eqb (suc n) 0 z0)

-- the places, one after the other, are the column's comparisons in their order
pub places-law : (t : Conjuncts) (c : Numbered) → placed_to t c (2 + c.len) ≡
    e.collect_column_comparisons lined (column_of t c)
places-law t c = go (z.fixed_at lined (bound_of c.lower) (bound_of c.upper)) refl
  where
    go : (o : Option Lined) → z.fixed_at lined (bound_of c.lower) (bound_of c.upper) ≡ o →
        placed_to t c (2 + c.len) ≡ e.collect_by o (column_of t c)
    go none h = free_placed t c h c.len
    go (some v) h =
        let s : 2 + c.len ≡ suc (1 + c.len) = omega arith in
        ap (λ p. placed_to t c p) s ∙ point_placed t c v h (1 + c.len)

-- ---- their number
pub count-le : (ks vs a : List ℕ) (n : ℕ) → length (excluded_by ks vs a n) ≤ n
count-le ks vs a zero = let h = count_none ks vs a in omega (arith, h)
count-le ks vs a (suc n) =
    let h = count-suc ks vs a n in
    let g = count-le ks vs a n in
    let f = count-few (of_kind ks 0 (get_or a n 0)) (cond (of_kind ks 0 (get_or a n 0)) 1 0) refl in
    omega (arith, h, g, f)

length-excluded : (l : List Lined) → length (map e.IsNotEq l) ≡ length l
length-excluded [] = refl
length-excluded (v ∷ l) = ap suc (length-excluded l)

lower-count : (l : b.Bound Lined) → length (of_bound e.IsLower l) ≡ cond (not (b.is_absent l)) 1 0
lower-count b.absent = refl
lower-count (b.at i v) = refl

upper-count : (l : b.Bound Lined) → length (of_bound e.IsUpper l) ≡ cond (not (b.is_absent l)) 1 0
upper-count b.absent = refl
upper-count (b.at i v) = refl

pub count_law : (l u : b.Bound Lined) (x : List Lined) →
    length (of_bound e.IsLower l ++ (of_bound e.IsUpper u ++ map e.IsNotEq x)) ≡
    cond (not (b.is_absent l)) 1 0 + (cond (not (b.is_absent u)) 1 0 + length x)
count_law l u x = length-append (of_bound e.IsLower l) (of_bound e.IsUpper u ++ map e.IsNotEq x) ∙
    rw (
      length-append (of_bound e.IsUpper u) (map e.IsNotEq x),
      lower-count l,
      upper-count u,
      length-excluded x,
    )

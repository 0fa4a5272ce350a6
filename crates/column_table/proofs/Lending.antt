-- A row lent and given back: what it holds then, and that the other rows are as they were.
use mathlib.Core.Path.{◌≡◌, refl, sym, ◌∙◌, ap, subst}
use mathlib.Core.Logic.{◌⊎◌, ⊎_elim, inl, inr}
use mathlib.Core.Bool.{Bool, true, false}
use mathlib.Core.List.{List, [], ◌∷◌, ◌++◌}
use mathlib.Core.Option.{none, some}
use Prim.Native.Nat.{ℕ, zero, suc, ◌+◌, ◌-◌, ◌*◌, ◌/◌, ◌≤◌, ◌<◌}
use native.Mathlib.Nat.{mul-le-mul_right, suc-mul, mul-div-le}
use native.Mathlib.Omega.{arith}
use lib.ListN.{length, get_or, take, drop, length-append, length-take, length-drop, get_or-append}
use lib.Seq.{length-take-le, take_at, drop_at, get_or-take, get_or-drop, get_or-append-add, ext_get_or}
use lib.Dec.{eqb, ltb}
use borrow.Author.Tests.{eqb-false, ltb-true, ltb-false}
use Rattle.constraints.specs.Column.{common, merge_from, merge_emitted, merge_any}
use Rattle.constraints.specs.Column as q
use Rattle.constraints.specs.Lined.{Lined, lined}
use Rattle.constraints.specs.Values.{extend}
use Rattle.column_constraints.specs.Abstraction.{Conjuncts, numbered, column_of, of_kind, literal_at, values_of, Fine}
use Rattle.column_constraints.specs.Abstraction.{excluded_by, allowed_by, disallowed_by}
use Rattle.column_constraints.specs.declared.column.ColumnConstraints.{ColumnConstraints}
use Rattle.column_sets.proofs.Numbers.{gather-same, marked-same}
use Rattle.column_table.specs.Rows.{stride, row_of, RowsKept}

-- The elements from a on, k of them, replaced by ys.
abbrev pub back : List ℕ → ℕ → ℕ → List ℕ → List ℕ
back l a k ys = take a l ++ (ys ++ drop k (drop a l))

back-length : (l : List ℕ) (a k : ℕ) (ys : List ℕ) → a + k ≤ length l → length ys ≡ k
    → length (back l a k ys) ≡ length l
back-length l a k ys h e =
    let p = length-append (take a l) (ys ++ drop k (drop a l)) in
    let q = length-append ys (drop k (drop a l)) in
    let r = length-take-le a l (omega (arith, h)) in
    let s = length-drop k (drop a l) in
    let t = length-drop a l in
    omega (arith, p, q, r, s, t, h, e)

back_low : (l : List ℕ) (a k : ℕ) (ys : List ℕ) (i : ℕ) → a + k ≤ length l → i < a
    → get_or (back l a k ys) i 0 ≡ get_or l i 0
back_low l a k ys i h p =
    let r = length-take-le a l (omega (arith, h)) in
    get_or-append (take a l) (ys ++ drop k (drop a l)) 0 i (omega (arith, r, p)) ∙ get_or-take a l i 0 p

back-high : (l : List ℕ) (a k : ℕ) (ys : List ℕ) (i : ℕ) → a + k ≤ length l → length ys ≡ k
    → get_or (back l a k ys) (a + (k + i)) 0 ≡ get_or l (a + (k + i)) 0
back-high l a k ys i h e =
    ap (λ n. get_or (back l a k ys) (n + (k + i)) 0) (sym (length-take-le a l (omega (arith, h))))
    ∙ get_or-append-add (take a l) (ys ++ drop k (drop a l)) (k + i) 0
    ∙ ap (λ n. get_or (ys ++ drop k (drop a l)) (n + i) 0) (sym e)
    ∙ get_or-append-add ys (drop k (drop a l)) i 0
    ∙ get_or-drop k (drop a l) i 0
    ∙ get_or-drop a l (k + i) 0

-- A row of k elements that ends before a or begins behind a + k.
row_kept : (l : List ℕ) (a k b : ℕ) (ys : List ℕ) → a + k ≤ length l → length ys ≡ k → b + k ≤ length l
    → (b + k ≤ a) ⊎ (a + k ≤ b) → take k (drop b (back l a k ys)) ≡ take k (drop b l)
row_kept l a k b ys h e g o = ext_get_or 0 (take k (drop b (back l a k ys))) (take k (drop b l)) sizes same
  where
    long : (m : List ℕ) → b + k ≤ length m → length (take k (drop b m)) ≡ k
    long m q = let t = length-drop b m in length-take-le k (drop b m) (omega (arith, t, q))

    first : length (take k (drop b (back l a k ys))) ≡ k
    first = long (back l a k ys) (rw (back-length l a k ys h e) g)

    sizes : length (take k (drop b (back l a k ys))) ≡ length (take k (drop b l))
    sizes = first ∙ sym (long l g)

    place : (i : ℕ) → i < k → get_or (back l a k ys) (b + i) 0 ≡ get_or l (b + i) 0
    place i p = ⊎_elim (λ q. back_low l a k ys (b + i) h (omega (arith, q, p)))
        (λ q. let w : b + i ≡ a + (k + (b + i - (a + k))) = omega (arith, q) in
        subst (λ n. get_or (back l a k ys) n 0 ≡ get_or l n 0) (sym w) (back-high l a k ys (b + i - (a + k)) h e)) o

    same : (i : ℕ) → i < length (take k (drop b (back l a k ys))) → get_or (take k (drop b (back l a k ys))) i 0 ≡
        get_or (take k (drop b l)) i 0
    same i p =
        let q : i < k = omega (arith, first, p) in
        get_or-take k (drop b (back l a k ys)) i 0 q ∙ get_or-drop b (back l a k ys) i 0 ∙ place i q
        ∙ sym (get_or-drop b l i 0) ∙ sym (get_or-take k (drop b l) i 0 q)

row-given : (l : List ℕ) (a k : ℕ) (ys : List ℕ) → a + k ≤ length l → length ys ≡ k
    → take k (drop a (back l a k ys)) ≡ ys
row-given l a k ys h e =
    ap (take k) (drop_at (take a l) (ys ++ drop k (drop a l)) a (length-take-le a l (omega (arith, h))))
    ∙ take_at ys (drop k (drop a l)) k e

-- ---- the rows of an array
pub row_ends : (ms : List ℕ) (x : ℕ) → x < 64 → x * stride ms + stride ms ≤ length ms
row_ends ms x h =
    let p : suc x * stride ms ≤ 64 * stride ms = mul-le-mul_right (stride ms) h in
    let q = suc-mul x (stride ms) in
    let r = mul-div-le (length ms) 64 in
    omega (arith, p, q, r)

rows_apart : (s x y : ℕ) → x < y → x * s + s ≤ y * s
rows_apart s x y h =
    let p : suc x * s ≤ y * s = mul-le-mul_right s h in
    let q = suc-mul x s in
    omega (arith, p, q)

less-or_more : (x y : ℕ) → (x ≡ y → ⊥) → (x < y) ⊎ (y < x)
less-or_more x y n = go (ltb x y) refl
  where
    go : (b : Bool) → ltb x y ≡ b → (x < y) ⊎ (y < x)
    go true e = inl (ltb-true x y e)
    go false e = let g = ltb-false x y e in inr (omega (arith, g, n))

pub row-length : (ms : List ℕ) (x : ℕ) → x < 64 → length (row_of ms x) ≡ stride ms
unfolding row_of
row-length ms x h =
    let p = row_ends ms x h in
    let q = length-drop (x * stride ms) ms in
    length-take-le (stride ms) (drop (x * stride ms) ms) (omega (arith, p, q))

-- What is lent is the row.
pub row-lent : (ms : List ℕ) (x a e : ℕ) → a ≡ x * stride ms → e ≡ a + stride ms → take (e - a) (drop a ms) ≡ row_of ms x
unfolding row_of
row-lent ms x a e p q =
    let r : e - a ≡ stride ms = omega (arith, q) in
    ap (λ n. take n (drop a ms)) r ∙ ap (λ n. take (stride ms) (drop n ms)) p

-- What is given back is the row then, and no other row has changed.
pub row_back : (ms : List ℕ) (x a e : ℕ) (ys : List ℕ) → x < 64 → a ≡ x * stride ms → e ≡ a + stride ms
    → length ys ≡ stride ms → (row_of (back ms a (e - a) ys) x ≡ ys) × RowsKept ms (back ms a (e - a) ys) x
unfolding row_of
row_back ms x a e ys h p q l = (here, record { size = size; others = others })
  where
    k : e - a ≡ stride ms
    k = omega (arith, q)

    room : a + (e - a) ≤ length ms
    room = let r = row_ends ms x h in omega (arith, p, q, r)

    size : length (back ms a (e - a) ys) ≡ length ms
    size = back-length ms a (e - a) ys room (l ∙ sym k)

    here : row_of (back ms a (e - a) ys) x ≡ ys
    here = ap (λ n. take (n / 64) (drop (x * (n / 64)) (back ms a (e - a) ys))) size
        ∙ ap (λ n. take n (drop (x * stride ms) (back ms a (e - a) ys))) (sym k)
        ∙ ap (λ n. take (e - a) (drop n (back ms a (e - a) ys))) (sym p)
        ∙ row-given ms a (e - a) ys room (l ∙ sym k)

    apart : (y : ℕ) → eqb x y ≡ false → (y * stride ms + (e - a) ≤ a) ⊎ (a + (e - a) ≤ y * stride ms)
    apart y n = ⊎_elim
        (λ w. let r = rows_apart (stride ms) x y w in inr (omega (arith, r, p, q)))
        (λ w. let r = rows_apart (stride ms) y x w in inl (omega (arith, r, p, q)))
        (less-or_more x y (eqb-false x y n))

    others : (y : ℕ) → y < 64 → eqb x y ≡ false → row_of (back ms a (e - a) ys) y ≡ row_of ms y
    others y g n =
        let r = row_ends ms y g in
        ap (λ m. take (m / 64) (drop (y * (m / 64)) (back ms a (e - a) ys))) size
        ∙ ap (λ m. take m (drop (y * stride ms) (back ms a (e - a) ys))) (sym k)
        ∙ row_kept ms a (e - a) (y * stride ms) ys room (l ∙ sym k) (omega (arith, r, k)) (apart y n)
        ∙ ap (λ m. take m (drop (y * stride ms) ms)) k

-- A call that writes no row.
pub rows_same : (ms : List ℕ) (x : ℕ) → RowsKept ms ms x
rows_same ms x = record { size = refl; others = λ y g n. refl }

-- ---- what the calls ask and give
abbrev pub part : List ℕ → ℕ → List ℕ
part ms x = take (x * stride ms + stride ms - x * stride ms) (drop (x * stride ms) ms)

pub row-part : (ms : List ℕ) (x : ℕ) → row_of ms x ≡ part ms x
row-part ms x = sym (row-lent ms x (x * stride ms) (x * stride ms + stride ms) refl refl)

pub part_length : (ms : List ℕ) (x : ℕ) → x < 64 → length (part ms x) ≡ stride ms
part_length ms x h = ap length (sym (row-part ms x)) ∙ row-length ms x h

pub fine-lent : (ms : List ℕ) (x n : ℕ) → x < 64 → Fine (stride ms) (row_of ms x) n → Fine (length (part ms x)) (part ms x) n
fine-lent ms x n h f =
    subst (λ k. Fine k (part ms x) n) (sym (part_length ms x h)) (subst (λ l. Fine (stride ms) l n) (row-part ms x) f)

pub fine_back : (ms ms' ys : List ℕ) (x n : ℕ) → x < 64 → (row_of ms' x ≡ ys) × RowsKept ms ms' x
    → Fine (length (part ms x)) ys n → Fine (stride ms') (row_of ms' x) n
fine_back ms ms' ys x n h b f =
    subst (λ k. Fine k (row_of ms' x) n) (part_length ms x h ∙ ap (λ k. k / 64) (sym b.1.size))
    (subst (λ l. Fine (length (part ms x)) l n) (sym b.0) f)

pub fine-wider : (k m : ℕ) (a : List ℕ) (n : ℕ) → k ≤ m → Fine k a n → Fine m a n
fine-wider k m a n h f i l = let g = (f i l).0 in (omega (arith, g, h), (f i l).1)

-- ---- a copy of a row, as far as it is looked at
pub column-copied : (t : Conjuncts) (a b : List ℕ) (c : ColumnConstraints)
    → ((i : ℕ) → i < c.len → get_or a i 0 ≡ get_or b i 0) → column_of t (numbered a c) ≡ column_of t (numbered b c)
unfolding excluded_by allowed_by disallowed_by
column-copied t a b c h = rw (
  gather-same (of_kind t.kinds 0) (λ l j. l ++ (literal_at t.values j ∷ [])) [] a b c.len h,
  gather-same (of_kind t.kinds 1) (λ o j. some (common lined o (values_of t.starts t.counts t.pool j))) none a b
      c.len h,
  gather-same (of_kind t.kinds 2) (λ l j. extend lined l (values_of t.starts t.counts t.pool j)) [] a b c.len
      h,
)

pub fine-copied : (k : ℕ) (a b : List ℕ) (n : ℕ) → ((i : ℕ) → i < n → get_or a i 0 ≡ get_or b i 0) → Fine k b n → Fine k a n
fine-copied k a b n h f i l =
    rw (h i l, marked-same a b i (get_or b i 0) (λ m q. h m (omega (arith, l, q)))) (f i l)

-- What a merge gives, of columns that are equal to those it was given.
pub merged_as : (r c c' d d' : q.ColumnConstraints Lined) (em an : Bool) → c ≡ c' → d ≡ d'
    → (r ≡ merge_from lined c d) × (em ≡ merge_emitted lined c d) × (an ≡ merge_any lined c d)
    → (r ≡ merge_from lined c' d') × (em ≡ merge_emitted lined c' d') × (an ≡ merge_any lined c' d')
merged_as r c c' d d' em an e f h = rw (← e, ← f) h

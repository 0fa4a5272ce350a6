-- A row of the block lent and given back, and the rows so far. Assumes nothing.
use mathlib.Core.Path.{◌≡◌, refl, sym, ◌∙◌, ap, subst}
use mathlib.Core.List.{List, ◌++◌}
use Prim.Native.Nat.{ℕ, zero, suc, ◌+◌, ◌-◌, ◌*◌, ◌≤◌, ◌<◌}
use native.Mathlib.Omega.{arith}
use native.Mathlib.Nat.{mul-le-mul_right, suc-mul, mul_comm}
use lib.ListN.{length, get_or, take, drop, length-append, length-take, length-drop, get_or-append}
use lib.Seq.{length-take-le, take_at, drop_at, get_or-take, get_or-drop, ext_get_or}
use Rattle.sorted.proofs.Parts.{last}
use Rattle.masks.specs.Block.{chain_row}
use Rattle.row_ranks.specs.RowRanks.{RowRanks, BlockRanks, RowsBefore}

-- The elements from a on, k of them, replaced by ys.
abbrev pub back : List ℕ → ℕ → ℕ → List ℕ → List ℕ
back l a k ys = take a l ++ (ys ++ drop k (drop a l))

cancelled : (a b : ℕ) → a + b - a ≡ b
cancelled a b = omega arith

-- what is lent is the row
pub part_row : (columns : ℕ) (values : List ℕ) (r : ℕ) →
    take (8 * columns * r + 8 * columns - 8 * columns * r) (drop (8 * columns * r) values) ≡ chain_row columns values r
unfolding chain_row
part_row columns values r =
    let e : 8 * columns * r + 8 * columns - 8 * columns * r ≡ 8 * columns = cancelled (8 * columns * r) (8 * columns) in rw e

-- rows before it end where it begins, or earlier
pub rows_end : (w i j : ℕ) → j < i → w * j + w ≤ w * i
rows_end w i j h =
    let p : suc j * w ≤ i * w = mul-le-mul_right w h in
    let q = suc-mul j w in
    let a = mul_comm w j in
    let b = mul_comm w i in
    omega (arith, p, q, a, b)

module _ (l : List ℕ) (a k : ℕ) (ys : List ℕ) (room : a + k ≤ length l) (e : length ys ≡ k) where
  size : length (back l a k ys) ≡ length l
  size =
      let p = length-append (take a l) (ys ++ drop k (drop a l)) in
      let q = length-append ys (drop k (drop a l)) in
      let r = length-take-le a l (omega (arith, room)) in
      let s = length-drop k (drop a l) in
      let t = length-drop a l in
      omega (arith, p, q, r, s, t, room, e)

  given : take k (drop a (back l a k ys)) ≡ ys
  given =
      ap (take k) (drop_at (take a l) (ys ++ drop k (drop a l)) a (length-take-le a l (omega (arith, room))))
      ∙ take_at ys (drop k (drop a l)) k e

  -- a part that ends before a
  before : (b : ℕ) → b + k ≤ a → take k (drop b (back l a k ys)) ≡ take k (drop b l)
  before b h = ext_get_or 0 (take k (drop b (back l a k ys))) (take k (drop b l)) sizes same
    where
      long : (m : List ℕ) → b + k ≤ length m → length (take k (drop b m)) ≡ k
      long m q = let t = length-drop b m in length-take-le k (drop b m) (omega (arith, t, q))

      first : length (take k (drop b (back l a k ys))) ≡ k
      first = let s = size in long (back l a k ys) (omega (arith, s, h, room))

      sizes : length (take k (drop b (back l a k ys))) ≡ length (take k (drop b l))
      sizes = first ∙ sym (long l (omega (arith, h, room)))

      same : (i : ℕ) → i < length (take k (drop b (back l a k ys))) → get_or (take k (drop b (back l a k ys))) i 0 ≡
          get_or (take k (drop b l)) i 0
      same i p =
          let q : i < k = omega (arith, first, p) in
          let r = length-take-le a l (omega (arith, room)) in
          get_or-take k (drop b (back l a k ys)) i 0 q ∙ get_or-drop b (back l a k ys) i 0
          ∙ get_or-append (take a l) (ys ++ drop k (drop a l)) 0 (b + i) (omega (arith, r, q, h))
          ∙ get_or-take a l (b + i) 0 (omega (arith, q, h))
          ∙ sym (get_or-drop b l i 0) ∙ sym (get_or-take k (drop b l) i 0 q)

pub part_length : (columns : ℕ) (l : List ℕ) (i : ℕ) → 8 * columns * i + 8 * columns ≤ length l
    → length (take (8 * columns * i + 8 * columns - 8 * columns * i) (drop (8 * columns * i) l)) ≡ 8 * columns
part_length columns l i room =
    let t = length-drop (8 * columns * i) l in
    let e : 8 * columns * i + 8 * columns - 8 * columns * i ≡ 8 * columns = cancelled (8 * columns * i) (8 * columns) in
    rw e (length-take-le (8 * columns) (drop (8 * columns * i) l) (omega (arith, t, room)))

-- What is given back is the row then, and the rows before it are as they were.
module _ (columns : ℕ) (l : List ℕ) (i : ℕ) (ys : List ℕ) (room : 8 * columns * i + 8 * columns ≤ length l)
    (e : length ys ≡ 8 * columns) where
  cancel : 8 * columns * i + 8 * columns - 8 * columns * i ≡ 8 * columns
  cancel = cancelled (8 * columns * i) (8 * columns)

  pub row_back : chain_row columns (back l (8 * columns * i) (8 * columns * i + 8 * columns - 8 * columns * i) ys) i ≡ ys
  unfolding chain_row
  row_back = rw cancel (given l (8 * columns * i) (8 * columns) ys room e)

  pub rows_before : RowsBefore columns i l (back l (8 * columns * i) (8 * columns * i + 8 * columns - 8 * columns * i) ys)
  unfolding chain_row
  rows_before = record {
    same = λ j h. rw cancel (before l (8 * columns * i) (8 * columns) ys room e (8 * columns * j) (rows_end (8 * columns) i j h));
  }

-- ---- The rows so far.
module _ {t C values nulls : List ℕ} {base : ℕ} where
  pub block_none : {block : List ℕ} → BlockRanks t C values nulls base 0 block
  block_none = record { rows = λ i h. absurd (omega arith) }

  pub block_more : {i : ℕ} {block out : List ℕ} → BlockRanks t C values nulls base i block → RowsBefore (length t) i block out
      → RowRanks t C (chain_row (length t) values (base + i)) (get_or nulls (base + i) 0) (length t) (chain_row (length t) out i)
      → BlockRanks t C values nulls base (i + 1) out
  block_more {i} {block} {out} b k r = record {
    rows = λ j h. last j i h
        (λ (u : j < i). subst (λ l. RowRanks t C (chain_row (length t) values (base + j)) (get_or nulls (base + j) 0) (length t) l)
        (sym (k.same j u)) (b.rows j u))
        (λ (u : j ≡ i). subst (λ z. RowRanks t C (chain_row (length t) values (base + z)) (get_or nulls (base + z) 0) (length t)
        (chain_row (length t) out z)) (sym u) r);
  }

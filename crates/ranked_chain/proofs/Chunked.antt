-- Some rows of a chain by their numbers: what is lent of the block, the marks and the classes, and what is given back. Assumes nothing.
use mathlib.Core.Path.{◌≡◌, refl, sym, ◌∙◌, ap, subst}
use mathlib.Core.List.{List, ◌++◌}
use mathlib.Core.Logic.{◌⊎◌, ⊎_elim}
use Prim.Native.Nat.{ℕ, zero, suc, ◌+◌, ◌-◌, ◌*◌, ◌≤◌, ◌<◌}
use native.Mathlib.Omega.{arith}
use native.Mathlib.Nat.{mul-le-mul}
use lib.ListN.{length, get_or, take, drop, length-drop, get_or-append}
use lib.Seq.{length-take-le, get_or-take, get_or-drop, get_or-append-add, ext_get_or}
use Rattle.three_valued.specs.declared.logic.Truth.{Truth}
use Rattle.truth.specs.Evaluate.{row_truth}
use Rattle.truth.proofs.Keys.{lt-or_le}
use Rattle.masks.specs.Block.{chain_row, chain_truth}
use Rattle.chain_rows.specs.Classes.{truth_class, Classed, Evaluates}
use Rattle.chain_rows.proofs.Rows.{row-end}
use Rattle.row_ranks.specs.RowRanks.{RowRanks, BlockRanks}
use Rattle.row_ranks.proofs.Rows.{back}
use Rattle.ranked_chain.specs.Chunks.{EveryRow, RowTruths, ClassesOf}

cancelled : (a b : ℕ) → a + b - a ≡ b
cancelled a b = omega arith

-- ---- A row of the part of the block that is lent is a row of the block.
module _ (columns count : ℕ) (block : List ℕ) (room : 8 * columns * count ≤ length block) where
  abbrev lent : List ℕ
  lent = take (8 * columns * count) block

  pub lent-long : length lent ≡ 8 * columns * count
  lent-long = length-take-le (8 * columns * count) block room

  row-long : (l : List ℕ) (r : ℕ) → 8 * columns * r + 8 * columns ≤ length l → length (chain_row columns l r) ≡ 8 * columns
  unfolding chain_row
  row-long l r h =
      let t = length-drop (8 * columns * r) l in
      length-take-le (8 * columns) (drop (8 * columns * r) l) (omega (arith, t, h))

  pub lent-row_long : (r : ℕ) → r < count → length (chain_row columns lent r) ≡ 8 * columns
  lent-row_long r h = let e = row-end (8 * columns) r count h in let l = lent-long in row-long lent r (omega (arith, e, l))

  pub lent_row : (r : ℕ) → r < count → chain_row columns lent r ≡ chain_row columns block r
  unfolding chain_row
  lent_row r h = ext_get_or 0 (chain_row columns lent r) (chain_row columns block r) sizes same
    where
      end : 8 * columns * r + 8 * columns ≤ 8 * columns * count
      end = row-end (8 * columns) r count h

      sizes : length (chain_row columns lent r) ≡ length (chain_row columns block r)
      sizes = lent-row_long r h ∙ sym (row-long block r (omega (arith, end, room)))

      same : (i : ℕ) → i < length (chain_row columns lent r) → get_or (chain_row columns lent r) i 0 ≡ get_or (chain_row columns block r) i 0
      same i p =
          let q : i < 8 * columns = (let e = lent-row_long r h in omega (arith, e, p)) in
          get_or-take (8 * columns) (drop (8 * columns * r) lent) i 0 q ∙ get_or-drop (8 * columns * r) lent i 0
          ∙ get_or-take (8 * columns * count) block (8 * columns * r + i) 0 (omega (arith, q, end))
          ∙ sym (get_or-drop (8 * columns * r) block i 0) ∙ sym (get_or-take (8 * columns) (drop (8 * columns * r) block) i 0 q)

-- ---- What is asked of the part.
module _ (l : List ℕ) (base count : ℕ) (room : base + count ≤ length l) where
  abbrev part : List ℕ
  part = take (base + count - base) (drop base l)

  pub part_long : length part ≡ count
  part_long =
      let t = length-drop base l in
      let e : base + count - base ≡ count = cancelled base count in
      rw e (length-take-le count (drop base l) (omega (arith, t, room)))

  pub part_at_lem : (i : ℕ) → i < count → get_or part i 0 ≡ get_or l (base + i) 0
  part_at_lem i h =
      let e : base + count - base ≡ count = cancelled base count in
      rw e (get_or-take count (drop base l) i 0 h ∙ get_or-drop base l i 0)

pub part_evaluates : (rs p : List ℕ) (root columns base count : ℕ) (block nulls : List ℕ) → columns ≤ 64 → length nulls ≤ 1024
    → base + count ≤ length nulls → 8 * columns * count ≤ length block → EveryRow columns rs p root
    → Evaluates rs p columns (take (8 * columns * count) block) (take (base + count - base) (drop base nulls)) root
part_evaluates rs p root columns base count block nulls narrow short inside room every =
    record {
      narrow = narrow;
      short = let e = part_long nulls base count inside in omega (arith, e, inside, short);
      long = lent-long columns count block room ∙ ap (λ n. 8 * columns * n) (sym (part_long nulls base count inside));
      small = every.small;
      evaluable = λ r h.
          let e = part_long nulls base count inside in
          every.evaluable _ (lent-row_long columns count block room r (omega (arith, e, h)));
    }

-- ---- What is given back.
module _ (l : List ℕ) (base count : ℕ) (ys : List ℕ) (room : base + count ≤ length l) (e : length ys ≡ count) where
  abbrev after : List ℕ
  after = back l base (base + count - base) ys

  back_low : (j : ℕ) → j < base → get_or after j 0 ≡ get_or l j 0
  back_low j h =
      let r = length-take-le base l (omega (arith, room)) in
      get_or-append (take base l) (ys ++ drop (base + count - base) (drop base l)) 0 j (omega (arith, r, h)) ∙ get_or-take base l j 0 h

  back-new : (i : ℕ) → i < count → get_or after (base + i) 0 ≡ get_or ys i 0
  back-new i h =
      ap (λ n. get_or after (n + i) 0) (sym (length-take-le base l (omega (arith, room))))
      ∙ get_or-append-add (take base l) (ys ++ drop (base + count - base) (drop base l)) i 0
      ∙ get_or-append ys (drop (base + count - base) (drop base l)) 0 i (omega (arith, e, h))

module _ (t C values nulls rs p : List ℕ) (root base count : ℕ) (block classes ys : List ℕ)
    (inside : base + count ≤ length nulls) (long : length nulls ≤ length classes) (room : 8 * length t * count ≤ length block)
    (size : length ys ≡ length (take (base + count - base) (drop base classes)))
    (told : BlockRanks t C values nulls base count block)
    (classed : Classed rs p (length t) (take (8 * length t * count) block) (take (base + count - base) (drop base nulls)) root ys
    (length (take (base + count - base) (drop base nulls)))) where
  as_long : length ys ≡ count
  as_long = size ∙ part_long classes base count (omega (arith, inside, long))

  module _ (f : ℕ → Truth) (truths : RowTruths t C values nulls rs p root f) where
    class_new : (i : ℕ) → i < count → get_or (back classes base (base + count - base) ys) (base + i) 0 ≡ truth_class (f (base + i))
    unfolding Classed chain_truth
    class_new i h =
        let e = part_long nulls base count inside in
        back-new classes base count ys (omega (arith, inside, long)) as_long i h
        ∙ classed i (omega (arith, e, h))
        ∙ ap (λ n. truth_class (row_truth rs p (chain_row (length t) (take (8 * length t * count) block) i) n root))
        (part_at_lem nulls base count inside i h)
        ∙ ap truth_class (truths.truths (base + i) (omega (arith, inside, h)) _ (lent-row_long (length t) count block room i h)
        (subst (λ row. RowRanks t C (chain_row (length t) values (base + i)) (get_or nulls (base + i) 0) (length t) row)
        (sym (lent_row (length t) count block room i h)) (told.rows i h)))

    pub chunk_classes : ClassesOf f classes base → ClassesOf f (back classes base (base + count - base) ys) (base + count)
    unfolding ClassesOf
    chunk_classes s r h =
        ⊎_elim (λ (l : r < base). back_low classes base count ys (omega (arith, inside, long)) as_long r l ∙ s r l)
        (λ (l : base ≤ r).
        let e : base + (r - base) ≡ r = omega (arith, l) in
        subst (λ k. get_or (back classes base (base + count - base) ys) k 0 ≡ truth_class (f k)) e
        (class_new (r - base) (omega (arith, l, h))))
        (lt-or_le r base)

pub classes_none : (f : ℕ → Truth) (classes : List ℕ) → ClassesOf f classes 0
unfolding ClassesOf
classes_none f classes r h = absurd (omega (arith, h))

-- so many values lie in the block
pub chunk_room : (columns count most size : ℕ) → count ≤ most → columns * most ≤ 8192 → 65536 ≤ size → 8 * columns * count ≤ size
chunk_room columns count most size h k l =
    let s : columns ≤ columns = omega arith in
    let e : columns * count ≤ columns * most = mul-le-mul s h in
    let q : 8 * columns * count ≡ 8 * (columns * count) = omega arith in omega (arith, e, k, l, q)

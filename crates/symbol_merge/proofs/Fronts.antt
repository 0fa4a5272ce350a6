-- Two lists whose first entries are exchanged; what is written behind them; what is read of them.
use mathlib.Core.Path.{◌≡◌, refl, sym, ◌∙◌, ap}
use mathlib.Core.List.{List, [], ◌∷◌, ◌++◌}
use Prim.Native.Nat.{ℕ, zero, suc, ◌+◌, ◌*◌, ◌≤◌, ◌<◌}
use native.Mathlib.Omega.{arith}
use lib.ListN.{length, get_or, set, take, drop}
use Rattle.records.specs.Bytes.{word}
use Rattle.records.specs.Record.{node, column_number, fields_at, decode, encode, record_at}
use Rattle.records.specs.declared.operator.Operator.TheVariants as operator
use Rattle.records.specs.declared.record.Record.{Record}
use Rattle.records.specs.declared.record.Record.TheVariants as kind
use Rattle.truth.specs.FromBytes.{to_aexpr, aexpr_of}
use Rattle.constraints.specs.Comparisons.{ColumnComparison}
use Rattle.merge.specs.Classify.{comparison_operator}
use Rattle.merge.specs.Emit.{Outcome, Unchanged, NothingPasses, Rebuilt}
use Rattle.merge.specs.Rebuild.{comparison_of, value_of, comparisons_end, comparison_nodes}
use Rattle.merge.specs.Rewrite.{written_if}
use Rattle.merge.specs.Write.{field_bytes, splice, literal_type, write_record, write_comparison, write_comparisons, write_ands}
use Rattle.merge.specs.Write.{fold_bytes, outcome_bytes}
use Rattle.merge.specs.declared.answer.RewriteAnswer.{RewriteAnswer}
use Rattle.merge.specs.declared.answer.RewriteAnswer.TheVariants as answer
use Rattle.symbol_merge.specs.Fronts.{fronted}

pub fronted-length : (k : ℕ) (a l : List ℕ) → length (fronted k a l) ≡ length l
unfolding fronted
fronted-length zero a l = refl
fronted-length (suc k) [] l = refl
fronted-length (suc k) (x ∷ a) [] = refl
fronted-length (suc k) (x ∷ a) (y ∷ l) = ap suc (fronted-length k a l)

pub as_long : (k : ℕ) (a l now : List ℕ) → now ≡ fronted k a l → length now ≡ length l
as_long k a l now e = ap length e ∙ fronted-length k a l

pub fronted-none : (a l : List ℕ) → l ≡ fronted 0 a l
unfolding fronted
fronted-none a l = refl

-- ---- The next entry.
fronted-at : (k : ℕ) (a l : List ℕ) → get_or (fronted k a l) k 0 ≡ get_or l k 0
unfolding fronted
fronted-at zero a l = refl
fronted-at (suc k) [] l = refl
fronted-at (suc k) (x ∷ a) [] = refl
fronted-at (suc k) (x ∷ a) (y ∷ l) = fronted-at k a l

fronted-next : (k : ℕ) (a l : List ℕ) → k < length a → k < length l → set (fronted k a l) k (get_or a k 0) ≡ fronted (suc k) a l
unfolding fronted
fronted-next k [] l h i = absurd (omega (arith, h))
fronted-next k (x ∷ a) [] h i = absurd (omega (arith, i))
fronted-next zero (x ∷ a) (y ∷ l) h i = refl
fronted-next (suc k) (x ∷ a) (y ∷ l) h i = ap (λ m. x ∷ m) (fronted-next k a l (omega (arith, h)) (omega (arith, i)))

-- An entry of a, put in its place.
pub fronted-more : (k : ℕ) (a l now : List ℕ) (v : ℕ) → now ≡ fronted k a l → v ≡ get_or a k 0 → k < length a → k < length l →
    set now k v ≡ fronted (k + 1) a l
fronted-more k a l now v e f h i =
    let q : suc k ≡ k + 1 = omega arith in
    (λ j. set (e j) k (f j)) ∙ fronted-next k a l h i ∙ ap (λ m. fronted m a l) q

-- The same where a was exchanged with l so far.
pub exchanged_more : (k : ℕ) (a l now other : List ℕ) → now ≡ fronted k a l → other ≡ fronted k l a → k < length a → k < length l →
    set now k (get_or other k 0) ≡ fronted (k + 1) a l
exchanged_more k a l now other e f h i =
    fronted-more k a l now (get_or other k 0) e (ap (λ m. get_or m k 0) f ∙ fronted-at k l a) h i

-- Put back, all is as it was.
pub fronted-back : (k : ℕ) (a l : List ℕ) → k ≤ length a → k ≤ length l → fronted k (fronted k l a) (fronted k a l) ≡ l
unfolding fronted
fronted-back zero a l h i = refl
fronted-back (suc k) [] l h i = absurd (omega (arith, h))
fronted-back (suc k) (x ∷ a) [] h i = absurd (omega (arith, i))
fronted-back (suc k) (x ∷ a) (y ∷ l) h i = ap (λ m. y ∷ m) (fronted-back k a l (omega (arith, h)) (omega (arith, i)))

-- ---- What is read of the front.
fronted-read : (k : ℕ) (a l : List ℕ) (i : ℕ) → i < k → k ≤ length a → k ≤ length l → get_or (fronted k a l) i 0 ≡ get_or a i 0
unfolding fronted
fronted-read zero a l i h j m = absurd (omega (arith, h))
fronted-read (suc k) [] l i h j m = absurd (omega (arith, j))
fronted-read (suc k) (x ∷ a) [] i h j m = absurd (omega (arith, m))
fronted-read (suc k) (x ∷ a) (y ∷ l) zero h j m = refl
fronted-read (suc k) (x ∷ a) (y ∷ l) (suc i) h j m = fronted-read k a l i (omega (arith, h)) (omega (arith, j)) (omega (arith, m))

fields-fronted : (k : ℕ) (a l : List ℕ) (n : ℕ) → 16 * n + 16 ≤ k → k ≤ length a → k ≤ length l →
    fields_at (fronted k a l) (node n) ≡ fields_at a (node n)
unfolding fields_at word
fields-fronted k a l n h j m =
    let g : (i : ℕ) → i < k → get_or (fronted k a l) i 0 ≡ get_or a i 0 = λ i b. fronted-read k a l i b j m in
    rw (
      g (16 * n) (omega arith),
      g (16 * n + 1) (omega arith),
      g (16 * n + 2) (omega arith),
      g (16 * n + 3) (omega arith),
      g (16 * n + 4) (omega arith),
      g (16 * n + 4 + 1) (omega arith),
      g (16 * n + 4 + 2) (omega arith),
      g (16 * n + 4 + 3) (omega arith),
      g (16 * n + 8) (omega arith),
      g (16 * n + 8 + 1) (omega arith),
      g (16 * n + 8 + 2) (omega arith),
      g (16 * n + 8 + 3) (omega arith),
      g (16 * n + 12) (omega arith),
      g (16 * n + 12 + 1) (omega arith),
      g (16 * n + 12 + 2) (omega arith),
      g (16 * n + 12 + 3) (omega arith),
    )

pub read_fronted : (used : ℕ) (a l p : List ℕ) → 16 * used ≤ length a → 16 * used ≤ length l → (n : ℕ) → n < used →
    aexpr_of (fronted (16 * used) a l) p n ≡ aexpr_of a p n
unfolding aexpr_of record_at
read_fronted used a l p h i n b = ap (λ f. to_aexpr p (decode f)) (fields-fronted (16 * used) a l n (omega arith) h i)

-- ---- What is written behind the front.
splice-behind : (y : ℕ) (l : List ℕ) (at : ℕ) (vs : List ℕ) → splice (y ∷ l) (suc at) vs ≡ y ∷ splice l at vs
unfolding splice
splice-behind y l at vs =
    let q : suc at + length vs ≡ suc (at + length vs) = omega arith in
    ap (λ n. take (suc at) (y ∷ l) ++ (vs ++ drop n (y ∷ l))) q

splice-long : (k : ℕ) (l : List ℕ) (at : ℕ) (vs : List ℕ) → k ≤ at → k ≤ length l → k ≤ length (splice l at vs)
splice-long zero l at vs h i = omega arith
splice-long (suc k) l zero vs h i = absurd (omega (arith, h))
splice-long (suc k) [] (suc at) vs h i = absurd (omega (arith, i))
splice-long (suc k) (y ∷ l) (suc at) vs h i =
    let r = splice-long k l at vs (omega (arith, h)) (omega (arith, i)) in
    let e : length (splice (y ∷ l) (suc at) vs) ≡ suc (length (splice l at vs)) = ap length (splice-behind y l at vs) in
    omega (arith, r, e)

splice-fronted : (k : ℕ) (a l : List ℕ) (at : ℕ) (vs : List ℕ) → k ≤ at → k ≤ length l →
    fronted k a (splice l at vs) ≡ splice (fronted k a l) at vs
unfolding fronted
splice-fronted zero a l at vs h i = refl
splice-fronted (suc k) [] l at vs h i = refl
splice-fronted (suc k) (x ∷ a) l zero vs h i = absurd (omega (arith, h))
splice-fronted (suc k) (x ∷ a) [] (suc at) vs h i = absurd (omega (arith, i))
splice-fronted (suc k) (x ∷ a) (y ∷ l) (suc at) vs h i =
    ap (fronted (suc k) (x ∷ a)) (splice-behind y l at vs)
    ∙ ap (λ m. x ∷ m) (splice-fronted k a l at vs (omega (arith, h)) (omega (arith, i)))
    ∙ sym (splice-behind x (fronted k a l) at vs)

module _ (t a : List ℕ) (used : ℕ) where
  abbrev k : ℕ
  k = 16 * used

  -- lists that differ in the front alone
  record_long : (l : List ℕ) (n : ℕ) (r : Record) → used ≤ n → k ≤ length l → k ≤ length (write_record l n r)
  record_long l n r h i = splice-long k l (16 * n) (field_bytes (encode r)) (omega (arith, h)) i

  record_fronted : (l : List ℕ) (n : ℕ) (r : Record) → used ≤ n → k ≤ length l →
      fronted k a (write_record l n r) ≡ write_record (fronted k a l) n r
  record_fronted l n r h i = splice-fronted k a l (16 * n) (field_bytes (encode r)) (omega (arith, h)) i

  abbrev column : (ℕ × ColumnComparison ℕ) → Record
  column x = kind.Column (column_number x.0)

  abbrev literal : (ℕ × ColumnComparison ℕ) → Record
  literal x = kind.Literal (literal_type t x.0) (value_of x.1)

  abbrev binary : ℕ → (ℕ × ColumnComparison ℕ) → Record
  binary u x = kind.Binary (comparison_operator (comparison_of x.1)) (node u) (node (suc u))

  comparison_long : (l : List ℕ) (u : ℕ) (x : ℕ × ColumnComparison ℕ) → used ≤ u → k ≤ length l → k ≤ length (write_comparison t u x l)
  comparison_long l u x h i =
      record_long (write_record (write_record l u (column x)) (suc u) (literal x)) (suc (suc u)) (binary u x) (omega (arith, h))
      (record_long (write_record l u (column x)) (suc u) (literal x) (omega (arith, h)) (record_long l u (column x) h i))

  comparison_fronted : (l : List ℕ) (u : ℕ) (x : ℕ × ColumnComparison ℕ) → used ≤ u → k ≤ length l →
      fronted k a (write_comparison t u x l) ≡ write_comparison t u x (fronted k a l)
  comparison_fronted l u x h i =
      let m = record_long l u (column x) h i in
      let o = record_long (write_record l u (column x)) (suc u) (literal x) (omega (arith, h)) m in
      record_fronted (write_record (write_record l u (column x)) (suc u) (literal x)) (suc (suc u)) (binary u x) (omega (arith, h)) o
      ∙ ap (λ y. write_record y (suc (suc u)) (binary u x))
      (record_fronted (write_record l u (column x)) (suc u) (literal x) (omega (arith, h)) m
      ∙ ap (λ y. write_record y (suc u) (literal x)) (record_fronted l u (column x) h i))

  comparisons-long : (cs : List (ℕ × ColumnComparison ℕ)) (l : List ℕ) (u : ℕ) → used ≤ u → k ≤ length l →
      k ≤ length (write_comparisons t u cs l)
  comparisons-long [] l u h i = i
  comparisons-long (x ∷ cs) l u h i =
      comparisons-long cs (write_comparison t u x l) (suc (suc (suc u))) (omega (arith, h)) (comparison_long l u x h i)

  comparisons-fronted : (cs : List (ℕ × ColumnComparison ℕ)) (l : List ℕ) (u : ℕ) → used ≤ u → k ≤ length l →
      fronted k a (write_comparisons t u cs l) ≡ write_comparisons t u cs (fronted k a l)
  comparisons-fronted [] l u h i = refl
  comparisons-fronted (x ∷ cs) l u h i =
      comparisons-fronted cs (write_comparison t u x l) (suc (suc (suc u))) (omega (arith, h)) (comparison_long l u x h i)
      ∙ ap (write_comparisons t (suc (suc (suc u))) cs) (comparison_fronted l u x h i)

  ands_fronted : (ns : List ℕ) (l : List ℕ) (u acc : ℕ) → used ≤ u → k ≤ length l →
      fronted k a (write_ands u acc ns l) ≡ write_ands u acc ns (fronted k a l)
  ands_fronted [] l u acc h i = refl
  ands_fronted (n ∷ ns) l u acc h i =
      ands_fronted ns (write_record l u (kind.Binary operator.And (node acc) (node n))) (suc u) u (omega (arith, h))
      (record_long l u (kind.Binary operator.And (node acc) (node n)) h i)
      ∙ ap (write_ands (suc u) u ns) (record_fronted l u (kind.Binary operator.And (node acc) (node n)) h i)

  fold-fronted : (ns : List ℕ) (l : List ℕ) (u : ℕ) → used ≤ u → k ≤ length l →
      fronted k a (fold_bytes u l ns) ≡ fold_bytes u (fronted k a l) ns
  fold-fronted [] l u h i = refl
  fold-fronted (n ∷ ns) l u h i = ands_fronted ns l u n h i

  end_low : (cs : List (ℕ × ColumnComparison ℕ)) (u : ℕ) → used ≤ u → used ≤ comparisons_end u cs
  end_low [] u h = h
  end_low (x ∷ cs) u h = end_low cs (suc (suc (suc u))) (omega (arith, h))

  outcome_fronted : (o : Outcome ℕ) (l : List ℕ) → k ≤ length l →
      fronted k a (outcome_bytes t l used o) ≡ outcome_bytes t (fronted k a l) used o
  outcome_fronted Unchanged l i = refl
  outcome_fronted NothingPasses l i = record_fronted l used (kind.Literal 3 0) (omega arith) i
  outcome_fronted (Rebuilt ns cs) l i =
      fold-fronted (ns ++ comparison_nodes used cs) (write_comparisons t used cs l) (comparisons_end used cs)
      (end_low cs used (omega arith)) (comparisons-long cs l used (omega arith) i)
      ∙ ap (λ y. fold_bytes (comparisons_end used cs) y (ns ++ comparison_nodes used cs))
      (comparisons-fronted cs l used (omega arith) i)

  -- What an answer leaves of the records l, with the front put back.
  pub written-fronted : (x : RewriteAnswer) (o : Outcome ℕ) (l rs out : List ℕ) → k ≤ length l → fronted k a l ≡ rs →
      out ≡ written_if x l (outcome_bytes t l used o) → fronted k a out ≡ written_if x rs (outcome_bytes t rs used o)
  written-fronted (answer.Refused n) o l rs out i e w = ap (fronted k a) w ∙ e
  written-fronted answer.Unchanged o l rs out i e w = ap (fronted k a) w ∙ e
  written-fronted (answer.NothingPasses root new) o l rs out i e w =
      ap (fronted k a) w ∙ outcome_fronted o l i ∙ ap (λ y. outcome_bytes t y used o) e
  written-fronted (answer.Rewritten root new) o l rs out i e w =
      ap (fronted k a) w ∙ outcome_fronted o l i ∙ ap (λ y. outcome_bytes t y used o) e

-- The bytes that an outcome adds hold the records that it adds.
use mathlib.Core.Path.{◌≡◌, refl, ◌∙◌, ap, subst}
use mathlib.Core.List.{List, [], ◌∷◌, ◌++◌}
use Prim.Native.Nat.{ℕ, suc, ◌+◌, ◌*◌, ◌≤◌, ◌<◌}
use native.Mathlib.Omega.{arith}
use lib.ListN.{length}
use Rattle.records.specs.Record.{node, column_number, encode}
use Rattle.records.specs.declared.operator.Operator.TheVariants as operator
use Rattle.records.specs.declared.record.Record.{Record}
use Rattle.records.specs.declared.record.Record.TheVariants as kind
use Rattle.truth.specs.Comparison.{Comparison, Eq, NotEq, Lt, LtEq, Gt, GtEq}
use Rattle.truth.specs.AExpr.{AExpr, Column, Literal, BinaryExpr, Compare, And}
use Rattle.truth.specs.FromBytes.{to_aexpr}
use Rattle.constraints.specs.Comparisons.{ColumnComparison}
use Rattle.merge.specs.Emit.{Rebuilt}
use Rattle.merge.specs.Rebuild.{comparison_of, value_of, comparison_nodes, comparisons_end, ands_end, fold_root, fold_used}
use Rattle.merge.specs.Rewrite.{chain_nodes, chain_root, chain_used}
use Rattle.merge.specs.Classify.{comparison_operator}
use Rattle.merge.specs.Write.{literal_type}
use Rattle.merge.specs.Write.{write_record, write_comparison, write_comparisons, write_ands, fold_bytes, outcome_bytes}
use Rattle.merge.proofs.Chains.{Below, below_more}
use Rattle.merge.proofs.Rebuilding.{put_record, add_comparison, add_comparisons, add_ands, fold_records, rebuild}
use Rattle.merge.proofs.Written.{Word, Words, HoldsBy, length-write, holds-put}

-- A value of 64 bits.
abbrev pub Long : ℕ → Type 0
Long v = v < 18446744073709551616

abbrev pub column_record : ℕ → Record
column_record c = kind.Column (column_number c)

abbrev pub literal_record : ℕ → ℕ → Record
literal_record ty v = kind.Literal ty v

abbrev pub comparison_record : Comparison → ℕ → ℕ → Record
comparison_record o x y = kind.Binary (comparison_operator o) (node x) (node y)

abbrev pub and_record : ℕ → ℕ → Record
and_record x y = kind.Binary operator.And (node x) (node y)

-- ---- What a record says: the records written but the literals say the same of any values.
pub record Reads {Val : Type 0} (D : Record → AExpr Val) : Type 0 where
  pub column : (c : ℕ) → D (column_record c) ≡ Column c
  pub comparison : (o : Comparison) (x y : ℕ) → D (comparison_record o x y) ≡ BinaryExpr (Compare o) x y
  pub conjunction : (x y : ℕ) → D (and_record x y) ≡ BinaryExpr And x y

pub bits-read : (p : List ℕ) → Reads (to_aexpr p)
bits-read p = record { column = λ c. refl; comparison = compared; conjunction = λ x y. refl }
  where
    compared : (o : Comparison) (x y : ℕ) → to_aexpr p (comparison_record o x y) ≡ BinaryExpr (Compare o) x y
    compared Eq x y = refl
    compared NotEq x y = refl
    compared Lt x y = refl
    compared LtEq x y = refl
    compared Gt x y = refl
    compared GtEq x y = refl

-- ---- What is written fits its fields.
pub column-words : (c : ℕ) → Word c → Words (encode (column_record c))
unfolding encode
column-words c h = (h, omega arith, omega arith)

pub literal-words : (ty v : ℕ) → Long v → Words (encode (literal_record ty v))
unfolding encode
literal-words ty v h = (omega arith, omega arith, omega arith)

pub comparison_words : (o : Comparison) (x y : ℕ) → Word x → Word y → Words (encode (comparison_record o x y))
unfolding encode
comparison_words o x y h k = (h, k, omega arith)

pub and_words : (x y : ℕ) → Word x → Word y → Words (encode (and_record x y))
unfolding encode
and_words x y h k = (h, k, omega arith)

-- ---- The columns and values of the comparisons fit their fields.
abbrev pub Fit : List (ℕ × ColumnComparison ℕ) → Type 0
Fit [] = Unit {0}
Fit (x ∷ l) = (Word x.0 × Long (value_of x.1)) × Fit l

pub comparisons-end : (l : List (ℕ × ColumnComparison ℕ)) (u : ℕ) → u ≤ comparisons_end u l
comparisons-end [] u = omega arith
comparisons-end (x ∷ l) u = omega (arith, comparisons-end l (suc (suc (suc u))))

pub ands_end_lem : (l : List ℕ) (u : ℕ) → u ≤ ands_end u l
ands_end_lem [] u = omega arith
ands_end_lem (n ∷ l) u = omega (arith, ands_end_lem l (suc u))

pub fold_end : (l : List ℕ) (u : ℕ) → u ≤ fold_used u l
fold_end [] u = omega arith
fold_end (n ∷ l) u = ands_end_lem l u

-- ---- The bytes written, as D reads them.
module _ {Val : Type 0} (D : Record → AExpr Val) (reads : Reads D) (t : List ℕ) where
  -- What is written for the comparison x is read as y.
  pub record ReadAs (x : ℕ × ColumnComparison ℕ) (y : ℕ × ColumnComparison Val) : Type 0 where
    pub column : x.0 ≡ y.0
    pub compares : comparison_of x.1 ≡ comparison_of y.1
    pub literal : D (literal_record (literal_type t x.0) (value_of x.1)) ≡ Literal (value_of y.1)

  abbrev pub AllReadAs : List (ℕ × ColumnComparison ℕ) → List (ℕ × ColumnComparison Val) → Type 0
  AllReadAs [] [] = Unit {0}
  AllReadAs [] (y ∷ m) = ⊥
  AllReadAs (x ∷ l) [] = ⊥
  AllReadAs (x ∷ l) (y ∷ m) = ReadAs x y × AllReadAs l m

  comparison_holds_lem :
      (rs : List ℕ) (u : ℕ) (x : ℕ × ColumnComparison ℕ) (y : ℕ × ColumnComparison Val) (R : ℕ → AExpr Val) →
      16 * u + 48 ≤ length rs → suc (suc u) < 4294967296 → Word x.0 → Long (value_of x.1) → ReadAs x y →
      HoldsBy D rs u R →
      (length (write_comparison t u x rs) ≡ length rs)
      × HoldsBy D (write_comparison t u x rs) (suc (suc (suc u))) (add_comparison u y R)
  comparison_holds_lem rs u x y R room w hc hv q h = (e3 ∙ e2 ∙ e1, h3)
    where
      v : ℕ
      v = value_of x.1

      ty : ℕ
      ty = literal_type t x.0

      o : Comparison
      o = comparison_of x.1

      rs1 : List ℕ
      rs1 = write_record rs u (column_record x.0)

      rs2 : List ℕ
      rs2 = write_record rs1 (suc u) (literal_record ty v)

      R1 : ℕ → AExpr Val
      R1 n = put_record R u (Column y.0) n

      R2 : ℕ → AExpr Val
      R2 n = put_record R1 (suc u) (Literal (value_of y.1)) n

      e1 : length rs1 ≡ length rs
      e1 = length-write rs u (column_record x.0) (omega arith)

      e2 : length rs2 ≡ length rs1
      e2 = length-write rs1 (suc u) (literal_record ty v) (rw e1 (omega arith))

      e3 : length (write_comparison t u x rs) ≡ length rs2
      e3 = length-write rs2 (suc (suc u)) (comparison_record o u (suc u)) (rw (e2, e1) (omega arith))

      h1 : HoldsBy D rs1 (suc u) R1
      h1 = holds-put D rs u (column_record x.0) R (Column y.0) (omega arith) (column-words x.0 hc)
          (reads.column x.0 ∙ ap Column q.column) h

      h2 : HoldsBy D rs2 (suc (suc u)) R2
      h2 = holds-put D rs1 (suc u) (literal_record ty v) R1 (Literal (value_of y.1)) (rw e1 (omega arith))
          (literal-words ty v hv) q.literal h1

      h3 : HoldsBy D (write_comparison t u x rs) (suc (suc (suc u))) (add_comparison u y R)
      h3 = holds-put D rs2 (suc (suc u)) (comparison_record o u (suc u)) R2
          (BinaryExpr (Compare (comparison_of y.1)) u (suc u))
          (rw (e2, e1) (omega arith)) (comparison_words o u (suc u) (omega arith) (omega arith))
          (reads.comparison o u (suc u) ∙ ap (λ z. BinaryExpr (Compare z) u (suc u)) q.compares)
          h2

  comparisons-hold :
      (l : List (ℕ × ColumnComparison ℕ)) (m : List (ℕ × ColumnComparison Val)) (rs : List ℕ) (u : ℕ)
      (R : ℕ → AExpr Val) → 16 * comparisons_end u l ≤ length rs → comparisons_end u l ≤ 4096 → Fit l → AllReadAs l m →
      HoldsBy D rs u R →
      (length (write_comparisons t u l rs) ≡ length rs)
      × HoldsBy D (write_comparisons t u l rs) (comparisons_end u l) (add_comparisons u m R)
  comparisons-hold [] [] rs u R room few f q h = (refl, h)
  comparisons-hold [] (y ∷ m) rs u R room few f q h = absurd q
  comparisons-hold (x ∷ l) [] rs u R room few f q h = absurd q
  comparisons-hold (x ∷ l) (y ∷ m) rs u R room few f q h =
      let k : suc (suc (suc u)) ≤ comparisons_end (suc (suc (suc u))) l = comparisons-end l (suc (suc (suc u))) in
      let c = comparison_holds_lem rs u x y R (omega arith) (omega arith) f.0.0 f.0.1 q.0 h in
      let d = comparisons-hold l m (write_comparison t u x rs) (suc (suc (suc u))) (add_comparison u y R)
      (rw c.0 room) few f.1 q.1 c.1 in
      (d.0 ∙ c.0, d.1)

  ands_hold :
      (l : List ℕ) (rs : List ℕ) (u acc : ℕ) (R : ℕ → AExpr Val) → 16 * ands_end u l ≤ length rs →
      ands_end u l ≤ 4096 → acc < u → Below u l → HoldsBy D rs u R →
      (length (write_ands u acc l rs) ≡ length rs) × HoldsBy D (write_ands u acc l rs) (ands_end u l) (add_ands u acc l R)
  ands_hold [] rs u acc R room few a b h = (refl, h)
  ands_hold (n ∷ l) rs u acc R room few a b h =
      let k : suc u ≤ ands_end (suc u) l = ands_end_lem l (suc u) in
      let z : n < u = b.0 in
      let e : length (write_record rs u (and_record acc n)) ≡ length rs =
      length-write rs u (and_record acc n) (omega arith)
      in
      let c : HoldsBy D (write_record rs u (and_record acc n)) (suc u) (put_record R u (BinaryExpr And acc n)) =
      holds-put D rs u (and_record acc n) R (BinaryExpr And acc n) (omega arith)
      (and_words acc n (omega arith) (omega arith)) (reads.conjunction acc n) h in
      let d = ands_hold l (write_record rs u (and_record acc n)) (suc u) u (put_record R u (BinaryExpr And acc n))
      (rw e room)
      few (omega arith) (below_more u (suc u) l (omega arith) b.1) c in
      (d.0 ∙ e, d.1)

  fold-holds :
      (l : List ℕ) (rs : List ℕ) (u : ℕ) (R : ℕ → AExpr Val) → 16 * fold_used u l ≤ length rs →
      fold_used u l ≤ 4096 → Below u l → HoldsBy D rs u R →
      HoldsBy D (fold_bytes u rs l) (fold_used u l) (fold_records u R l)
  fold-holds [] rs u R room few b h = h
  fold-holds (n ∷ l) rs u R room few b h = (ands_hold l rs u n R room few b.0 b.1 h).1

  read_end : (l : List (ℕ × ColumnComparison ℕ)) (m : List (ℕ × ColumnComparison Val)) (u : ℕ) → AllReadAs l m →
      comparisons_end u l ≡ comparisons_end u m
  read_end [] [] u q = refl
  read_end [] (y ∷ m) u q = absurd q
  read_end (x ∷ l) [] u q = absurd q
  read_end (x ∷ l) (y ∷ m) u q = read_end l m (suc (suc (suc u))) q.1

  read_nodes : (l : List (ℕ × ColumnComparison ℕ)) (m : List (ℕ × ColumnComparison Val)) (u : ℕ) → AllReadAs l m →
      comparison_nodes u l ≡ comparison_nodes u m
  read_nodes [] [] u q = refl
  read_nodes [] (y ∷ m) u q = absurd q
  read_nodes (x ∷ l) [] u q = absurd q
  read_nodes (x ∷ l) (y ∷ m) u q = ap (λ k. suc (suc u) ∷ k) (read_nodes l m (suc (suc (suc u))) q.1)

  module _ (rs : List ℕ) (used : ℕ) (ns : List ℕ) (l : List (ℕ × ColumnComparison ℕ))
      (m : List (ℕ × ColumnComparison Val)) (q : AllReadAs l m) where
    -- root and used count of the chain as it is read
    pub chain-root : (R : ℕ → AExpr Val) → chain_root used ns l ≡ (rebuild R used ns m).root
    chain-root R = λ i. fold_root (read_end l m used q i) (ns ++ read_nodes l m used q i)

    pub chain-used : (R : ℕ → AExpr Val) → chain_used used ns l ≡ (rebuild R used ns m).used
    chain-used R = λ i. fold_used (read_end l m used q i) (ns ++ read_nodes l m used q i)

    -- the bytes of a rebuilt chain hold its records
    pub chain-holds :
        (R : ℕ → AExpr Val) → 16 * chain_used used ns l ≤ length rs → chain_used used ns l ≤ 4096 → Fit l →
        Below (comparisons_end used l) (chain_nodes used ns l) → HoldsBy D rs used R →
        HoldsBy D (outcome_bytes t rs used (Rebuilt ns l)) (rebuild R used ns m).used (rebuild R used ns m).records
    chain-holds R room few f b h =
        let e : comparisons_end used l ≤ chain_used used ns l = fold_end (chain_nodes used ns l) (comparisons_end used l) in
        let c = comparisons-hold l m rs used R (omega arith) (omega arith) f q h in
        let d = fold-holds (chain_nodes used ns l) (write_comparisons t used l rs) (comparisons_end used l)
        (λ n. add_comparisons used m R n) (rw c.0 room) few b c.1 in
        subst (λ (z : ℕ × List ℕ). HoldsBy D (outcome_bytes t rs used (Rebuilt ns l)) (fold_used z.0 z.1)
        (fold_records z.0 (λ n. add_comparisons used m R n) z.1))
        (λ i. (read_end l m used q i, ns ++ read_nodes l m used q i)) d

-- Bits are read as what was written.
pub same_read : (p t : List ℕ) (l : List (ℕ × ColumnComparison ℕ)) → AllReadAs (to_aexpr p) (bits-read p) t l l
same_read p t [] = tt
same_read p t (x ∷ l) = (record { column = refl; compares = refl; literal = refl }, same_read p t l)

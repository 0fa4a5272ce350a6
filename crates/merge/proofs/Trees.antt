-- The rebuilt root's tree, reckoned without writing: the trees of the kept nodes, three records a comparison, and an
-- And less than there are conjuncts.
use mathlib.Core.Path.{◌≡◌, refl, sym, ◌∙◌, ap, subst}
use mathlib.Core.Bool.{Bool, true, false, true≢false}
use mathlib.Core.List.{List, [], ◌∷◌, ◌++◌}
use Prim.Native.Nat.{ℕ, zero, suc, ◌+◌, ◌*◌, ◌≤◌, ◌<◌}
use native.Mathlib.Omega.{arith}
use lib.ListN.{length, length-append}
use Rattle.records.specs.Record.{node, column_number, fields_at, decode, record_at, encode, inputs}
use Rattle.checking.specs.Tree.{sum_at, tree_step, tree_count}
use Rattle.records.specs.Operator.{operator_at}
use Rattle.records.specs.declared.operator.Operator.{Operator}
use Rattle.records.specs.declared.operator.Operator.TheVariants as operator
use Rattle.records.specs.declared.record.Record.{Record}
use Rattle.records.specs.declared.record.Record.TheVariants as kind
use Rattle.records.proofs.Courses.{course-law, course-agree}
use Rattle.constraints.specs.Comparisons.{ColumnComparison}
use Rattle.constraints.specs.Values.{is_empty}
use Rattle.merge.specs.Emit.{Rebuilt}
use Rattle.merge.specs.Rebuild.{comparison_of, value_of, comparison_nodes, comparisons_end, and_root, ands_end}
use Rattle.merge.specs.Rebuild.{fold_root, fold_used}
use Rattle.merge.specs.Classify.{comparison_operator}
use Rattle.merge.specs.Write.{literal_type}
use Rattle.merge.specs.Write.{field_bytes, write_record, write_comparison, write_comparisons, write_ands}
use Rattle.merge.specs.Write.{fold_bytes}
use Rattle.merge.specs.Write.{outcome_bytes}
use Rattle.merge.proofs.Chains.{Below, below_more, below_app}
use Rattle.merge.proofs.Written.{Word, Words, length-write, fields-new, fields-old}
use Rattle.merge.proofs.RebuiltBytes.{Long, Fit, comparisons-end, ands_end_lem, fold_end}
use Rattle.merge.proofs.RebuiltBytes.{column-words, literal-words, comparison_words, and_words}

sum_same : (C D : ℕ → ℕ) (n : ℕ) (l : List ℕ) → Below n l → ((a : ℕ) → a < n → C a ≡ D a) → sum_at C l ≡ sum_at D l
sum_same C D n [] b h = refl
sum_same C D n (x ∷ l) b h = rw (h x b.0, sum_same C D n l b.1 h)

sum_all : (C D : ℕ → ℕ) (l : List ℕ) → ((a : ℕ) → C a ≡ D a) → sum_at C l ≡ sum_at D l
sum_all C D [] h = refl
sum_all C D (x ∷ l) h = rw (h x, sum_all C D l h)

sum_append : (C : ℕ → ℕ) (l m : List ℕ) → sum_at C (l ++ m) ≡ sum_at C l + sum_at C m
sum_append C [] m = omega arith
sum_append C (x ∷ l) m = let e = sum_append C l m in omega (arith, e)

-- ---- One record written.
module _ (rs : List ℕ) (u : ℕ) (r : Record) (room : 16 * u + 16 ≤ length rs) where
  tree-old : (n : ℕ) → n < u → tree_count (write_record rs u r) n ≡ tree_count rs n
  unfolding record_at
  tree-old =
      course-agree (λ a. 0) (λ below i. tree_step below (record_at (write_record rs u r) (node i)))
      (λ below i. tree_step below (record_at rs (node i))) u
      (λ n h C D e.
      ap (λ f. tree_step C (decode f)) (fields-old rs u (encode r) room n h)
      ∙ ap (λ s. 1 + s) (sum_all C D (inputs (decode (fields_at rs (node n)))) e))

  pub tree-new :
      (l : List ℕ) → Words (encode r) → inputs (decode (encode r)) ≡ l → Below u l →
      tree_count (write_record rs u r) u ≡ 1 + sum_at (tree_count rs) l
  unfolding record_at
  tree-new l w e b =
      course-law (λ a. 0) (λ below i. tree_step below (record_at (write_record rs u r) (node i))) u
      (λ C D h. ap (λ s. 1 + s) (sum_same C D u (inputs (decode (fields_at (write_record rs u r) (node u))))
      (subst (Below u) (sym (ap (λ f. inputs (decode f)) (fields-new rs u (encode r) room w) ∙ e)) b) h))
      ∙ ap (λ f. tree_step (tree_count (write_record rs u r)) (decode f)) (fields-new rs u (encode r) room w)
      ∙ ap (λ m. 1 + sum_at (tree_count (write_record rs u r)) m) e
      ∙ ap (λ s. 1 + s) (sum_same (tree_count (write_record rs u r)) (tree_count rs) u l b tree-old)

-- ---- What the records that are written name.
column-inputs : (c : ℕ) → inputs (decode (encode (kind.Column (column_number c)))) ≡ []
unfolding decode encode
column-inputs c = refl

pub literal-inputs : (ty v : ℕ) → inputs (decode (encode (kind.Literal ty v))) ≡ []
unfolding decode encode
literal-inputs ty v = refl

binary-inputs : (o : Operator) (x y : ℕ) → inputs (decode (encode (kind.Binary o (node x) (node y)))) ≡ (x ∷ y ∷ [])
unfolding decode encode
binary-inputs o x y = refl

-- ---- A comparison is a tree of three records.
comparison_tree :
    (t rs : List ℕ) (u : ℕ) (x : ℕ × ColumnComparison ℕ) → 16 * u + 48 ≤ length rs → suc (suc u) < 4294967296 →
    Word x.0 →
    Long (value_of x.1) →
    (length (write_comparison t u x rs) ≡ length rs)
    × ((n : ℕ) → n < u → tree_count (write_comparison t u x rs) n ≡ tree_count rs n)
    × (tree_count (write_comparison t u x rs) (suc (suc u)) ≡ 3)
comparison_tree t rs u x room w hc hv = (e3 ∙ e2 ∙ e1, old, new)
  where
    r1 : Record
    r1 = kind.Column (column_number x.0)

    r2 : Record
    r2 = kind.Literal (literal_type t x.0) (value_of x.1)

    r3 : Record
    r3 = kind.Binary (comparison_operator (comparison_of x.1)) (node u) (node (suc u))

    rs1 : List ℕ
    rs1 = write_record rs u r1

    rs2 : List ℕ
    rs2 = write_record rs1 (suc u) r2

    e1 : length rs1 ≡ length rs
    e1 = length-write rs u r1 (omega arith)

    e2 : length rs2 ≡ length rs1
    e2 = length-write rs1 (suc u) r2 (rw e1 (omega arith))

    e3 : length (write_comparison t u x rs) ≡ length rs2
    e3 = length-write rs2 (suc (suc u)) r3 (rw (e2, e1) (omega arith))

    m1 : 16 * u + 16 ≤ length rs
    m1 = omega arith

    m2 : 16 * suc u + 16 ≤ length rs1
    m2 = rw e1 (omega arith)

    m3 : 16 * suc (suc u) + 16 ≤ length rs2
    m3 = rw (e2, e1) (omega arith)

    old : (n : ℕ) → n < u → tree_count (write_comparison t u x rs) n ≡ tree_count rs n
    old n h =
        tree-old rs2 (suc (suc u)) r3 m3 n (omega arith) ∙ tree-old rs1 (suc u) r2 m2 n (omega arith) ∙
        tree-old rs u r1 m1 n h

    t1 : tree_count rs2 u ≡ 1
    t1 = tree-old rs1 (suc u) r2 m2 u (omega arith) ∙ tree-new rs u r1 m1 [] (column-words x.0 hc)
        (column-inputs x.0) tt

    t2 : tree_count rs2 (suc u) ≡ 1
    t2 = tree-new rs1 (suc u) r2 m2 [] (literal-words (literal_type t x.0) (value_of x.1) hv) (literal-inputs _ _) tt

    new : tree_count (write_comparison t u x rs) (suc (suc u)) ≡ 3
    new =
        tree-new rs2 (suc (suc u)) r3 m3 (u ∷ suc u ∷ [])
        (comparison_words (comparison_of x.1) u (suc u) (omega arith) (omega arith))
        (binary-inputs (comparison_operator (comparison_of x.1)) u (suc u)) (omega arith, (omega arith, tt))
        ∙ rw (t1, t2)

comparisons-tree :
    (t : List ℕ) (l : List (ℕ × ColumnComparison ℕ)) (rs : List ℕ) (u : ℕ) → 16 * comparisons_end u l ≤ length rs →
    comparisons_end u l ≤ 4096 → Fit l →
    (length (write_comparisons t u l rs) ≡ length rs)
    × ((n : ℕ) → n < u → tree_count (write_comparisons t u l rs) n ≡ tree_count rs n)
    × (sum_at (tree_count (write_comparisons t u l rs)) (comparison_nodes u l) ≡ 3 * length l)
comparisons-tree t [] rs u room few f = (refl, λ n h. refl, refl)
comparisons-tree t (x ∷ l) rs u room few f =
    let k : suc (suc (suc u)) ≤ comparisons_end (suc (suc (suc u))) l = comparisons-end l (suc (suc (suc u))) in
    let c = comparison_tree t rs u x (omega arith) (omega arith) f.0.0 f.0.1 in
    let d = comparisons-tree t l (write_comparison t u x rs) (suc (suc (suc u))) (rw c.0 room) few f.1 in
    let e : tree_count (write_comparisons t u (x ∷ l) rs) (suc (suc u)) ≡ 3 = d.1 (suc (suc u)) (omega arith) ∙ c.2 in
    let s : sum_at (tree_count (write_comparisons t u (x ∷ l) rs)) (comparison_nodes (suc (suc (suc u))) l) ≡
    3 * length l = d.2 in
    (d.0 ∙ c.0, λ n h. d.1 n (omega arith) ∙ c.1 n h, omega (arith, e, s))

-- ---- The Ands.
ands_tree :
    (l : List ℕ) (rs : List ℕ) (u acc : ℕ) → 16 * ands_end u l ≤ length rs → ands_end u l ≤ 4096 → acc < u → Below u l →
    tree_count (write_ands u acc l rs) (and_root u acc l) ≡ tree_count rs acc + sum_at (tree_count rs) l + length l
ands_tree [] rs u acc room few a b = omega arith
ands_tree (n ∷ l) rs u acc room few a b =
    let k : suc u ≤ ands_end (suc u) l = ands_end_lem l (suc u) in
    let q : n < u = b.0 in
    let r : Record = kind.Binary operator.And (node acc) (node n) in
    let m : 16 * u + 16 ≤ length rs = omega arith in
    let e : length (write_record rs u (kind.Binary operator.And (node acc) (node n))) ≡ length rs =
    length-write rs u (kind.Binary operator.And (node acc) (node n)) m in
    let i = ands_tree l (write_record rs u (kind.Binary operator.And (node acc) (node n))) (suc u) u (rw e room) few
    (omega arith) (below_more u (suc u) l (omega arith) b.1) in
    let o = sum_same (tree_count (write_record rs u (kind.Binary operator.And (node acc) (node n)))) (tree_count rs) u l
    b.1 (tree-old rs u (kind.Binary operator.And (node acc) (node n)) m) in
    let w = tree-new rs u (kind.Binary operator.And (node acc) (node n)) m (acc ∷ n ∷ [])
    (and_words acc n (omega arith) (omega arith)) (binary-inputs operator.And acc n) (a, (b.0, tt)) in
    i ∙ rw (o, w) (omega arith)

fold-tree :
    (l : List ℕ) (rs : List ℕ) (u : ℕ) → 16 * fold_used u l ≤ length rs → fold_used u l ≤ 4096 → Below u l → is_empty l ≡
    false →
    suc (tree_count (fold_bytes u rs l) (fold_root u l)) ≡ sum_at (tree_count rs) l + length l
fold-tree [] rs u room few b e = absurd (true≢false e)
fold-tree (n ∷ l) rs u room few b e = let i = ands_tree l rs u n room few b.0 b.1 in omega (arith, i)

nodes_length : (u : ℕ) (l : List (ℕ × ColumnComparison ℕ)) → length (comparison_nodes u l) ≡ length l
nodes_length u [] = refl
nodes_length u (x ∷ l) = let i = nodes_length (suc (suc (suc u))) l in omega (arith, i)

nodes_below : (u : ℕ) (l : List (ℕ × ColumnComparison ℕ)) → Below (comparisons_end u l) (comparison_nodes u l)
nodes_below u [] = tt
nodes_below u (x ∷ l) =
    let k = comparisons-end l (suc (suc (suc u))) in (omega (arith, k), nodes_below (suc (suc (suc u))) l)

-- Refusal 11 can be reckoned before anything is written.
pub rebuilt-tree :
    (t rs : List ℕ) (used : ℕ) (ns : List ℕ) (cs : List (ℕ × ColumnComparison ℕ)) →
    16 * fold_used (comparisons_end used cs) (ns ++ comparison_nodes used cs) ≤ length rs →
    fold_used (comparisons_end used cs) (ns ++ comparison_nodes used cs) ≤ 4096 → Below used ns → Fit cs →
    is_empty (ns ++ comparison_nodes used cs) ≡ false →
    suc (tree_count (outcome_bytes t rs used (Rebuilt ns cs))
    (fold_root (comparisons_end used cs) (ns ++ comparison_nodes used cs)))
    ≡ sum_at (tree_count rs) ns + 3 * length cs + (length ns + length cs)
rebuilt-tree t rs used ns cs room few b f e =
    let k : comparisons_end used cs ≤ fold_used (comparisons_end used cs) (ns ++ comparison_nodes used cs) =
    fold_end (ns ++ comparison_nodes used cs) (comparisons_end used cs) in
    let j : used ≤ comparisons_end used cs = comparisons-end cs used in
    let c = comparisons-tree t cs rs used (omega arith) (omega arith) f in
    let g = fold-tree (ns ++ comparison_nodes used cs) (write_comparisons t used cs rs) (comparisons_end used cs)
    (rw c.0 room) few
    (below_app (comparisons_end used cs) ns (comparison_nodes used cs) (below_more used (comparisons_end used cs) ns j b)
    (nodes_below used cs)) e in
    let s = sum_append (tree_count (write_comparisons t used cs rs)) ns (comparison_nodes used cs) in
    let o = sum_same (tree_count (write_comparisons t used cs rs)) (tree_count rs) used ns b c.1 in
    let n = nodes_length used cs in
    let x = length-append ns (comparison_nodes used cs) in
    omega (arith, g, s, o, n, x, c.2)

-- ---- For a program that reckons before it writes: the counts in closed form.
pub comparisons-count : (u : ℕ) (l : List (ℕ × ColumnComparison ℕ)) → comparisons_end u l ≡ u + 3 * length l
comparisons-count u [] = omega arith
comparisons-count u (x ∷ l) = let i = comparisons-count (suc (suc (suc u))) l in omega (arith, i)

ands_count : (u : ℕ) (l : List ℕ) → ands_end u l ≡ u + length l
ands_count u [] = omega arith
ands_count u (n ∷ l) = let i = ands_count (suc u) l in omega (arith, i)

fold-count : (u : ℕ) (l : List ℕ) → is_empty l ≡ false → suc (fold_used u l) ≡ u + length l
fold-count u [] e = absurd (true≢false e)
fold-count u (n ∷ l) e = let i = ands_count u l in omega (arith, i)

-- The used count of a rebuilt screen: three records a comparison, and an And less than there are conjuncts.
pub used-count :
    (used : ℕ) (ns : List ℕ) (cs : List (ℕ × ColumnComparison ℕ)) → is_empty (ns ++ comparison_nodes used cs) ≡ false →
    suc (fold_used (comparisons_end used cs) (ns ++ comparison_nodes used cs)) ≡
    used + 3 * length cs + (length ns + length cs)
used-count used ns cs e =
    let f = fold-count (comparisons_end used cs) (ns ++ comparison_nodes used cs) e in
    let c = comparisons-count used cs in
    let n = nodes_length used cs in
    let x = length-append ns (comparison_nodes used cs) in
    omega (arith, f, c, n, x)

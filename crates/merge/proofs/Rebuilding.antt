-- The records of a rebuilt screen: three for each comparison, then the Ands; and what they mean.
use mathlib.Core.Path.{◌≡◌, refl, sym, ◌∙◌, ap, subst}
use mathlib.Core.Bool.{Bool, true, false, not, ◌&&◌, cond, true≢false, and-true, and_assoc, and-eq-true_iff}
use mathlib.Core.List.{List, [], ◌∷◌, ◌++◌}
use mathlib.Core.Option.{Option, none, some}
use mathlib.Core.Logic.{◌↔◌}
use Prim.Native.Nat.{ℕ, suc, ◌≤◌, ◌<◌}
use native.Mathlib.Omega.{arith}
use lib.Dec.{eqb}
use Rattle.records.proofs.Courses.{course-agree}
use Rattle.truth.proofs.Cells.{and_is_true, cell_law, step_same}
use Rattle.truth.specs.AExpr.{AExpr, And, BinaryExpr, Column, Compare, Inputs, Literal, WF}
use Rattle.truth.specs.Cell.{TruthKeys, cell_at, compare3, no_cell, step, truth_at}
use Rattle.truth.specs.Comparison.{Eq, Gt, GtEq, Lt, LtEq, NotEq, comparison_holds}
use Rattle.three_valued.specs.Logic.{is_true, of_bool}
use Rattle.truth.specs.Order.{is_equal}
use Rattle.std.specs.declared.cmp.Ordering.{Ordering}
use Rattle.std.specs.declared.cmp.Ordering.TheVariants.{Equal, Greater, Less}
use Rattle.constraints.proofs.Resolved.{comparison_true}
use Rattle.constraints.specs.Bound.{at, clears}
use Rattle.constraints.specs.Comparisons.{ColumnComparison, IsEq, IsLower, IsNotEq, IsUpper}
use Rattle.constraints.specs.Scalars.{Scalars, opposite}
use Rattle.constraints.specs.Values.{is_empty}
use Rattle.merge.proofs.Chains.{Below, all_true, all_true_append, below_app, below_more}
use Rattle.merge.proofs.Passes.{eqb-path, eqb-self}
use Rattle.merge.proofs.Readings.{comparison_mean}
use Rattle.merge.proofs.Sound.{NodesTrue, WrittenTrue, and_both}
use Rattle.merge.specs.Rebuild.{and_root, comparison_nodes, comparison_of, comparisons_end, fold_root, fold_used}
use Rattle.merge.specs.Rebuild.{value_of}

pub record Built (Val : Type 0) : Type 0 where
  pub records : ℕ → AExpr Val
  pub root : ℕ
  pub used : ℕ

-- the records with r written at u
abbrev pub put_record : {Val : Type 0} → (ℕ → AExpr Val) → ℕ → AExpr Val → ℕ → AExpr Val
put_record R u r n = cond (eqb n u) r (R n)

-- column, literal, binary record
abbrev pub add_comparison : {Val : Type 0} → ℕ → (ℕ × ColumnComparison Val) → (ℕ → AExpr Val) → ℕ → AExpr Val
add_comparison u x R = put_record (put_record (put_record R u (Column x.0)) (suc u) (Literal (value_of x.1)))
    (suc (suc u)) (BinaryExpr (Compare (comparison_of x.1)) u (suc u))

abbrev pub add_comparisons : {Val : Type 0} → ℕ → List (ℕ × ColumnComparison Val) → (ℕ → AExpr Val) → ℕ → AExpr Val
add_comparisons u [] R = R
add_comparisons u (x ∷ l) R = add_comparisons (suc (suc (suc u))) l (add_comparison u x R)

abbrev pub add_ands : {Val : Type 0} → ℕ → ℕ → List ℕ → (ℕ → AExpr Val) → ℕ → AExpr Val
add_ands u acc [] R = R
add_ands u acc (n ∷ l) R = add_ands (suc u) u l (put_record R u (BinaryExpr And acc n))

-- the Ands behind the others, as `fold_and` adds them
abbrev pub fold_records : {Val : Type 0} → ℕ → (ℕ → AExpr Val) → List ℕ → ℕ → AExpr Val
fold_records u R [] = R
fold_records u R (n ∷ l) = add_ands u n l R

abbrev pub fold_and : {Val : Type 0} → ℕ → (ℕ → AExpr Val) → List ℕ → Built Val
fold_and u R l = record { records = λ i. fold_records u R l i; root = fold_root u l; used = fold_used u l }

abbrev pub rebuild : {Val : Type 0} → (ℕ → AExpr Val) → ℕ → List ℕ → List (ℕ × ColumnComparison Val) → Built Val
rebuild R u ns cs = fold_and (comparisons_end u cs) (λ i. add_comparisons u cs R i) (ns ++ comparison_nodes u cs)

ne_of : (a u : ℕ) → a < u → eqb a u ≡ false
ne_of a u h = go (eqb a u) refl
  where
    go : (b : Bool) → eqb a u ≡ b → b ≡ false
    go true e = let p : a ≡ u = eqb-path a u e in absurd (omega arith)
    go false e = refl

pub wf_put : {Val : Type 0} (R : ℕ → AExpr Val) (u : ℕ) (r : AExpr Val) → WF R → Inputs u r → WF (put_record R u r)
wf_put R u r w i n = go (eqb n u) refl
  where
    go : (b : Bool) → eqb n u ≡ b → Inputs n (cond b r (R n))
    go true e = subst (λ m. Inputs m r) (sym (eqb-path n u e)) i
    go false e = w n

module _ {K Val : Type 0} (S : Scalars K Val) (tk : TruthKeys S.order) (ρ : ℕ → Option K) where
  abbrev pub holds : (ℕ → AExpr Val) → ℕ → Bool
  holds R n = is_true (truth_at S.key S.order tk R ρ n)

  -- what stands below u keeps its cell
  pub put-old : (R : ℕ → AExpr Val) (u : ℕ) (r : AExpr Val) → WF R → (a : ℕ) → a < u →
      cell_at S.key S.order tk (put_record R u r) ρ a ≡ cell_at S.key S.order tk R ρ a
  put-old R u r w a h = course-agree (λ i. no_cell) (λ C i. step S.key S.order tk ρ C (put_record R u r i))
      (λ C i. step S.key S.order tk ρ C (R i)) u
      (λ n k C D s. ap (λ b. step S.key S.order tk ρ C (cond b r (R n))) (ne_of n u k) ∙
      step_same S.key S.order tk ρ n C D (λ i q. s i) (R n) (w n)) a h

  pub put-new : (R : ℕ → AExpr Val) (u : ℕ) (r : AExpr Val) → WF R → Inputs u r →
      cell_at S.key S.order tk (put_record R u r) ρ u ≡
      step S.key S.order tk ρ (λ i. cell_at S.key S.order tk R ρ i) r
  put-new R u r w i = cell_law S.key S.order tk (put_record R u r) ρ u (wf_put R u r w i u) ∙
      ap (λ b. step S.key S.order tk ρ (λ j. cell_at S.key S.order tk (put_record R u r) ρ j)
      (cond b r (R u))) (eqb-self u) ∙ step_same S.key S.order tk ρ u
      (λ j. cell_at S.key S.order tk (put_record R u r) ρ j) (λ j. cell_at S.key S.order tk R ρ j)
      (λ a h. put-old R u r w a h) r i

  -- R' has R's cells below u
  abbrev pub Keeps : (ℕ → AExpr Val) → ℕ → (ℕ → AExpr Val) → Type 0
  Keeps R u Q = (a : ℕ) → a < u → cell_at S.key S.order tk Q ρ a ≡ cell_at S.key S.order tk R ρ a

  true-keeps : (R Q : ℕ → AExpr Val) (u : ℕ) → Keeps R u Q → (l : List ℕ) → Below u l → all_true (holds Q) l ≡
      all_true (holds R) l
  true-keeps R Q u k [] b = refl
  true-keeps R Q u k (n ∷ l) b = ap (λ c. is_true c.truth && all_true (holds Q) l) (k n b.0) ∙
      ap (λ t. holds R n && t) (true-keeps R Q u k l b.1)

  -- ---- one comparison
  comp_mean : (x : ColumnComparison Val) (y : Option K) →
      is_true (compare3 S.key S.order tk (comparison_of x) y (some (S.key (value_of x)))) ≡ comparison_true S x y
  comp_mean (IsEq v) none = refl
  comp_mean (IsEq v) (some k) = go (S.order.cmp k (S.key v))
    where
      go : (r : Ordering) → is_true (of_bool (comparison_holds Eq r)) ≡ is_equal r
      go Less = refl
      go Equal = refl
      go Greater = refl
  comp_mean (IsLower true v) none = refl
  comp_mean (IsLower true v) (some k) = sym (comparison_mean S tk GtEq v (some k)) ∙
      and-true (clears S (at true v) k && true) ∙ and-true (clears S (at true v) k)
  comp_mean (IsLower false v) none = refl
  comp_mean (IsLower false v) (some k) = sym (comparison_mean S tk Gt v (some k)) ∙
      and-true (clears S (at false v) k && true) ∙ and-true (clears S (at false v) k)
  comp_mean (IsUpper true v) none = refl
  comp_mean (IsUpper true v) (some k) = sym (comparison_mean S tk LtEq v (some k)) ∙
      and-true (clears (opposite S) (at true v) k && true) ∙ and-true (clears (opposite S) (at true v) k)
  comp_mean (IsUpper false v) none = refl
  comp_mean (IsUpper false v) (some k) = sym (comparison_mean S tk Lt v (some k)) ∙
      and-true (clears (opposite S) (at false v) k && true) ∙ and-true (clears (opposite S) (at false v) k)
  comp_mean (IsNotEq v) none = refl
  comp_mean (IsNotEq v) (some k) = go (S.order.cmp k (S.key v))
    where
      go : (r : Ordering) → is_true (of_bool (comparison_holds NotEq r)) ≡ not (is_equal r)
      go Less = refl
      go Equal = refl
      go Greater = refl

  comp_wf : (R : ℕ → AExpr Val) → WF R → (u : ℕ) (x : ℕ × ColumnComparison Val) → WF (add_comparison u x R)
  comp_wf R w u x = wf_put (put_record (put_record R u (Column x.0)) (suc u) (Literal (value_of x.1)))
      (suc (suc u)) (BinaryExpr (Compare (comparison_of x.1)) u (suc u))
      (wf_put (put_record R u (Column x.0)) (suc u) (Literal (value_of x.1)) (wf_put R u (Column x.0) w tt) tt)
      (omega arith, omega arith)

  comp_keeps : (R : ℕ → AExpr Val) → WF R → (u : ℕ) (x : ℕ × ColumnComparison Val) → Keeps R u (add_comparison u x R)
  comp_keeps R w u x a h =
      let w1 : WF (put_record R u (Column x.0)) = wf_put R u (Column x.0) w tt in
      let w2 : WF (put_record (put_record R u (Column x.0)) (suc u) (Literal (value_of x.1))) =
      wf_put (put_record R u (Column x.0)) (suc u) (Literal (value_of x.1)) w1 tt in
      put-old (put_record (put_record R u (Column x.0)) (suc u) (Literal (value_of x.1))) (suc (suc u))
      (BinaryExpr (Compare (comparison_of x.1)) u (suc u)) w2 a (omega arith) ∙
      put-old (put_record R u (Column x.0)) (suc u) (Literal (value_of x.1)) w1 a (omega arith) ∙
      put-old R u (Column x.0) w a h

  comp_true : (R : ℕ → AExpr Val) → WF R → (u : ℕ) (x : ℕ × ColumnComparison Val) →
      holds (add_comparison u x R) (suc (suc u)) ≡ comparison_true S x.1 (ρ x.0)
  comp_true R w u x =
      let w1 : WF (put_record R u (Column x.0)) = wf_put R u (Column x.0) w tt in
      let w2 : WF (put_record (put_record R u (Column x.0)) (suc u) (Literal (value_of x.1))) =
      wf_put (put_record R u (Column x.0)) (suc u) (Literal (value_of x.1)) w1 tt in
      let lit : (cell_at S.key S.order tk
      (put_record (put_record R u (Column x.0)) (suc u) (Literal (value_of x.1))) ρ (suc u)).value ≡
      some (S.key (value_of x.1)) =
      ap (λ c. c.value) (put-new (put_record R u (Column x.0)) (suc u) (Literal (value_of x.1)) w1 tt) in
      let col : (cell_at S.key S.order tk
      (put_record (put_record R u (Column x.0)) (suc u) (Literal (value_of x.1))) ρ u).value ≡ ρ x.0 =
      ap (λ c. c.value) (put-old (put_record R u (Column x.0)) (suc u) (Literal (value_of x.1)) w1 u
      (omega arith) ∙ put-new R u (Column x.0) w tt) in
      ap (λ c. is_true c.truth) (put-new
      (put_record (put_record R u (Column x.0)) (suc u) (Literal (value_of x.1))) (suc (suc u))
      (BinaryExpr (Compare (comparison_of x.1)) u (suc u)) w2 (omega arith, omega arith)) ∙
      ap (λ y. is_true (compare3 S.key S.order tk (comparison_of x.1) y
      (cell_at S.key S.order tk (put_record (put_record R u (Column x.0)) (suc u) (Literal (value_of x.1)))
      ρ (suc u)).value)) col ∙ ap (λ y. is_true (compare3 S.key S.order tk (comparison_of x.1) (ρ x.0)
      y)) lit ∙ comp_mean x.1 (ρ x.0)

  -- ---- all of them
  abbrev pub written_holds : List (ℕ × ColumnComparison Val) → Bool
  written_holds [] = true
  written_holds (x ∷ l) = comparison_true S x.1 (ρ x.0) && written_holds l

  comps_wf : (l : List (ℕ × ColumnComparison Val)) (R : ℕ → AExpr Val) → WF R → (u : ℕ) → WF (add_comparisons u l R)
  comps_wf [] R w u = w
  comps_wf (x ∷ l) R w u = comps_wf l (add_comparison u x R) (comp_wf R w u x) (suc (suc (suc u)))

  comps_keeps : (l : List (ℕ × ColumnComparison Val)) (R : ℕ → AExpr Val) → WF R → (u : ℕ) →
      Keeps R u (add_comparisons u l R)
  comps_keeps [] R w u a h = refl
  comps_keeps (x ∷ l) R w u a h = comps_keeps l (add_comparison u x R) (comp_wf R w u x) (suc (suc (suc u))) a
      (omega arith) ∙ comp_keeps R w u x a h

  comps_end : (l : List (ℕ × ColumnComparison Val)) (u : ℕ) → u ≤ comparisons_end u l
  comps_end [] u = omega arith
  comps_end (x ∷ l) u = omega (arith, comps_end l (suc (suc (suc u))))

  comps_below : (l : List (ℕ × ColumnComparison Val)) (u : ℕ) → Below (comparisons_end u l) (comparison_nodes u l)
  comps_below [] u = tt
  comps_below (x ∷ l) u = (omega (arith, comps_end l (suc (suc (suc u)))), comps_below l (suc (suc (suc u))))

  comps_true : (l : List (ℕ × ColumnComparison Val)) (R : ℕ → AExpr Val) → WF R → (u : ℕ) →
      all_true (holds (add_comparisons u l R)) (comparison_nodes u l) ≡ written_holds l
  comps_true [] R w u = refl
  comps_true (x ∷ l) R w u = ap (λ t. t && all_true (holds (add_comparisons u (x ∷ l) R))
      (comparison_nodes (suc (suc (suc u))) l))
      (ap (λ c. is_true c.truth) (comps_keeps l (add_comparison u x R) (comp_wf R w u x) (suc (suc (suc u)))
      (suc (suc u)) (omega arith)) ∙ comp_true R w u x) ∙ ap (λ t. comparison_true S x.1 (ρ x.0) && t)
      (comps_true l (add_comparison u x R) (comp_wf R w u x) (suc (suc (suc u))))

  -- ---- the Ands
  ands_wf : (l : List ℕ) (R : ℕ → AExpr Val) → WF R → (u acc : ℕ) → acc < u → Below u l → WF (add_ands u acc l R)
  ands_wf [] R w u acc h b = w
  ands_wf (n ∷ l) R w u acc h b = ands_wf l (put_record R u (BinaryExpr And acc n))
      (wf_put R u (BinaryExpr And acc n) w (h, b.0)) (suc u) u (omega arith)
      (below_more u (suc u) l (omega arith) b.1)

  ands_keeps : (l : List ℕ) (R : ℕ → AExpr Val) → WF R → (u acc : ℕ) → acc < u → Below u l →
      Keeps R u (add_ands u acc l R)
  ands_keeps [] R w u acc h b a k = refl
  ands_keeps (n ∷ l) R w u acc h b a k = ands_keeps l (put_record R u (BinaryExpr And acc n))
      (wf_put R u (BinaryExpr And acc n) w (h, b.0)) (suc u) u (omega arith)
      (below_more u (suc u) l (omega arith) b.1) a (omega arith) ∙ put-old R u (BinaryExpr And acc n) w a k

  ands_true : (l : List ℕ) (R : ℕ → AExpr Val) → WF R → (u acc : ℕ) → acc < u → Below u l →
      holds (add_ands u acc l R) (and_root u acc l) ≡ (holds R acc && all_true (holds R) l)
  ands_true [] R w u acc h b = sym (and-true (holds R acc))
  ands_true (n ∷ l) R w u acc h b =
      let Q : ℕ → AExpr Val = put_record R u (BinaryExpr And acc n) in
      let w1 : WF Q = wf_put R u (BinaryExpr And acc n) w (h, b.0) in
      ands_true l (put_record R u (BinaryExpr And acc n)) w1 (suc u) u (omega arith)
      (below_more u (suc u) l (omega arith) b.1) ∙ ap (λ t. holds (put_record R u (BinaryExpr And acc n)) u && t)
      (true-keeps R (put_record R u (BinaryExpr And acc n)) u (put-old R u (BinaryExpr And acc n) w) l b.1) ∙
      ap (λ t. t && all_true (holds R) l)
      (ap (λ c. is_true c.truth) (put-new R u (BinaryExpr And acc n) w (h, b.0)) ∙
      and_is_true (truth_at S.key S.order tk R ρ acc) (truth_at S.key S.order tk R ρ n)) ∙
      and_assoc (holds R acc) (holds R n) (all_true (holds R) l)

  -- ---- the whole: comparisons first, then the Ands over the kept nodes and the comparisons

  fold-true : (R : ℕ → AExpr Val) → WF R → (u : ℕ) (l : List ℕ) → Below u l → is_empty l ≡ false →
      holds (fold_and u R l).records (fold_and u R l).root ≡ all_true (holds R) l
  fold-true R w u [] b e = absurd (true≢false e)
  fold-true R w u (n ∷ l) b e = ands_true l R w u n b.0 b.1

  fold-wf : (R : ℕ → AExpr Val) → WF R → (u : ℕ) (l : List ℕ) → Below u l → WF (fold_and u R l).records
  fold-wf R w u [] b = w
  fold-wf R w u (n ∷ l) b = ands_wf l R w u n b.0 b.1

  fold-keeps : (R : ℕ → AExpr Val) → WF R → (u : ℕ) (l : List ℕ) → Below u l → Keeps R u (fold_and u R l).records
  fold-keeps R w u [] b a h = refl
  fold-keeps R w u (n ∷ l) b a h = ands_keeps l R w u n b.0 b.1 a h

  pub nodes_below : (u : ℕ) (ns : List ℕ) (cs : List (ℕ × ColumnComparison Val)) → Below u ns →
      Below (comparisons_end u cs) (ns ++ comparison_nodes u cs)
  nodes_below u ns cs b = below_app (comparisons_end u cs) ns (comparison_nodes u cs)
      (below_more u (comparisons_end u cs) ns (comps_end cs u) b) (comps_below cs u)

  pub rebuild_wf : (R : ℕ → AExpr Val) → WF R → (u : ℕ) (ns : List ℕ) (cs : List (ℕ × ColumnComparison Val)) →
      Below u ns → WF (rebuild R u ns cs).records
  rebuild_wf R w u ns cs b = fold-wf (λ i. add_comparisons u cs R i) (comps_wf cs R w u) (comparisons_end u cs)
      (ns ++ comparison_nodes u cs) (nodes_below u ns cs b)

  -- what was there keeps its truth and value
  pub rebuild_keeps : (R : ℕ → AExpr Val) → WF R → (u : ℕ) (ns : List ℕ) (cs : List (ℕ × ColumnComparison Val)) →
      Below u ns → Keeps R u (rebuild R u ns cs).records
  rebuild_keeps R w u ns cs b a h = fold-keeps (λ i. add_comparisons u cs R i) (comps_wf cs R w u)
      (comparisons_end u cs) (ns ++ comparison_nodes u cs) (nodes_below u ns cs b) a (omega (arith, comps_end cs u)) ∙
      comps_keeps cs R w u a h

  -- the new root is true exactly if the kept nodes and the comparisons are
  pub rebuild_true : (R : ℕ → AExpr Val) → WF R → (u : ℕ) (ns : List ℕ) (cs : List (ℕ × ColumnComparison Val)) →
      Below u ns → is_empty (ns ++ comparison_nodes u cs) ≡ false →
      holds (rebuild R u ns cs).records (rebuild R u ns cs).root ≡ (all_true (holds R) ns && written_holds cs)
  rebuild_true R w u ns cs b e = fold-true (λ i. add_comparisons u cs R i) (comps_wf cs R w u) (comparisons_end u cs)
      (ns ++ comparison_nodes u cs) (nodes_below u ns cs b) e ∙ all_true_append (holds (add_comparisons u cs R)) ns
      (comparison_nodes u cs) ∙ ap (λ t. t && all_true (holds (add_comparisons u cs R)) (comparison_nodes u cs))
      (true-keeps R (λ i. add_comparisons u cs R i) u (comps_keeps cs R w u) ns b) ∙
      ap (λ t. all_true (holds R) ns && t) (comps_true cs R w u)

  -- the same as lists of facts
  pub nodes_iff : (R : ℕ → AExpr Val) (l : List ℕ) → (all_true (holds R) l ≡ true) ↔ NodesTrue S ρ (holds R) l
  nodes_iff R [] = (λ h. tt, λ h. refl)
  nodes_iff R (n ∷ l) = (
    λ h. let b = (and-eq-true_iff (holds R n) (all_true (holds R) l)).0 h in
        (b.0, (nodes_iff R l).0 b.1),
    λ h. and_both (holds R n) (all_true (holds R) l) h.0
        ((nodes_iff R l).1 h.1),
  )

  pub written-iff : (R : ℕ → AExpr Val) (l : List (ℕ × ColumnComparison Val)) → (written_holds l ≡ true) ↔ WrittenTrue
      S ρ (holds R) l
  written-iff R [] = (λ h. tt, λ h. refl)
  written-iff R (x ∷ l) = (
    λ h. let b = (and-eq-true_iff (comparison_true S x.1 (ρ x.0)) (written_holds l)).0 h in
        (b.0, (written-iff R l).0 b.1),
    λ h. and_both (comparison_true S x.1 (ρ x.0)) (written_holds l) h.0
        ((written-iff R l).1 h.1),
  )

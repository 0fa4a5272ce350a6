-- The slowest screen takes as many passes as it has columns, and rewriting serves it.
use mathlib.Core.Path.{◌≡◌, refl, sym, ◌∙◌, ap, subst}
use mathlib.Core.Bool.{Bool, true, false, cond, ◌&&◌, ◌||◌, or-true}
use mathlib.Core.List.{List, [], ◌∷◌, ◌++◌, map}
use mathlib.Core.Option.{none}
use Prim.Native.Nat.{ℕ, zero, suc, ◌+◌, ◌*◌, ◌-◌, ◌/◌, ◌≤◌, ◌<◌}
use native.Mathlib.Omega.{arith}
use lib.Dec.{ltb, leb}
use lib.ListN.{length, length-append, length-map}
use borrow.Author.Tests.{le-ltb, le-leb}
use Rattle.checking.specs.Check.{sizes_ok, sizes_ok_in, check_answer}
use Rattle.checking.specs.Checked.{Checked}
use Rattle.checking.specs.Tree.{sum_at, tree_count}
use Rattle.checking.specs.Answer as check
use Rattle.checking.proofs.Accepted.{checked-accepted}
use Rattle.truth.specs.FromBytes.{aexpr_at}
use Rattle.constraints.specs.Comparisons.{ColumnComparison, IsLower, collect_column_comparisons}
use Rattle.constraints.specs.Payload.{payload}
use Rattle.constraints.specs.Resolve.{fixed_value, resolve_deferred}
use Rattle.constraints.specs.Values.{is_empty}
use Rattle.merge.specs.declared.answer.RewriteAnswer.{RewriteAnswer}
use Rattle.merge.specs.declared.answer.RewriteAnswer.TheVariants as answer
use Rattle.merge.specs.Classify.{Bounds, read_conjuncts}
use Rattle.merge.specs.Collect.{Table, Collected, begin, collect}
use Rattle.merge.specs.Demand.{is_refused}
use Rattle.merge.specs.Emit.{Outcome, NothingPasses, Unchanged, Rebuilt, any_unsat, of_column, comparisons, is_fixed}
use Rattle.merge.specs.Emit.{kept_equalities, dropped_equality, propagated, resolved, rewrites, rebuilt, conclude}
use Rattle.merge.specs.Emit.{merge_filter_constraints}
use Rattle.merge.specs.Minterms.{minterms}
use Rattle.merge.specs.Passes.{equalities, screen_equalities, merge_passes, rewrite_passes}
use Rattle.merge.specs.Propagate.{propagate, propagate_emitted}
use Rattle.merge.specs.Rebuild.{comparison_nodes, comparisons_end, fold_used, fold_root}
use Rattle.merge.specs.Rewrite.{outcome_of, chain_used, chain_root, has_room, chain_fits, outcome_answer, rewrite_checked, rewrite_if}
use Rattle.merge.specs.Rewrite.{rewrite_answer}
use Rattle.merge.specs.Write.{outcome_bytes}
use Rattle.merge.proofs.Accepted.{inputs-fall}
use Rattle.merge.proofs.Chains.{Every, Below}
use Rattle.merge.proofs.RebuiltBytes.{Fit}
use Rattle.merge.proofs.Trees.{rebuilt-tree, used-count}
use Rattle.slowest.specs.Screen.{bytes_to, slowest_bytes, slowest_table, slowest_used, slowest_root, records_needed}
use Rattle.slowest.specs.Promise.{besides, far_end_first, TakesAllPasses, SlowestTakesAllPasses}
use Rattle.slowest.proofs.Accepting.{equality_node, is_checked, conjuncts-are, conjuncts-count, tree-equality, tree-small}
use Rattle.slowest.proofs.Chain.{edges_down, over, full, spreads, spreads_emitted}
use Rattle.slowest.proofs.Collecting.{conjuncts_down, Chained, chained, chain-passes}
use Rattle.slowest.proofs.Records.{Built, fields-built, bytes-length}

-- ---- The chain and the bound beside it.
chain-neighbours : (f : ℕ → ℕ) (k : ℕ) → map (λ e. (e.0, e.1)) (equalities (conjuncts_down f k)) ≡ far_end_first k
chain-neighbours f zero = refl
chain-neighbours f (suc k) = ap (λ l. (k, suc k) ∷ l) (chain-neighbours f k)

bound-beside : (f : ℕ → ℕ) (k : ℕ) → besides (conjuncts_down f k) ≡ Bounds 0 over ∷ []
bound-beside f zero = refl
bound-beside f (suc k) = bound-beside f k

-- ---- A column with the bound alone is possible, not fixed, and written out as one comparison.
full-resolved : resolve_deferred payload full ≡ full
unfolding payload
full-resolved = refl

full-possible : full.unsat ≡ false
unfolding payload
full-possible = refl

full-open : is_fixed (fixed_value payload full) ≡ false
unfolding payload
full-open = refl

full-written : collect_column_comparisons payload full ≡ IsLower false 0 ∷ []
unfolding payload
full-written = refl

-- The comparison of a column.
abbrev compared : ℕ → ℕ × ColumnComparison ℕ
compared c = (c, IsLower false 0)

-- The nodes of the equalities.
abbrev nodes_down : (ℕ → ℕ) → ℕ → List ℕ
nodes_down f zero = []
nodes_down f (suc k) = f k ∷ nodes_down f k

nodes_length : (f : ℕ → ℕ) (k : ℕ) → length (nodes_down f k) ≡ k
nodes_length f zero = refl
nodes_length f (suc k) = ap suc (nodes_length f k)

module _ (m : ℕ) (T : Table ℕ) (all : (c : ℕ) → c ≤ suc m → T c ≡ full) where
  none-impossible : (o : List ℕ) → Every (λ c. c ≤ suc m) o → any_unsat o T ≡ false
  none-impossible [] h = refl
  none-impossible (c ∷ o) h =
      ap (λ q. q.unsat || any_unsat o T) (all c h.0) ∙ ap (λ b. b || any_unsat o T) full-possible
      ∙ none-impossible o h.1

  compared-all : (o : List ℕ) → Every (λ c. c ≤ suc m) o → comparisons payload o T ≡ map compared o
  compared-all [] h = refl
  compared-all (c ∷ o) h =
      ap (λ q. of_column c (collect_column_comparisons payload q) ++ comparisons payload o T) (all c h.0)
      ∙ ap (λ l. of_column c l ++ comparisons payload o T) full-written
      ∙ ap (λ l. compared c ∷ l) (compared-all o h.1)

  kept-all : (f : ℕ → ℕ) (k : ℕ) → k ≤ suc m → kept_equalities payload T (edges_down f k) ≡ nodes_down f k
  kept-all f zero h = refl
  kept-all f (suc k) h =
      ap (λ q. cond (is_fixed (fixed_value payload q)) (kept_equalities payload T (edges_down f k))
      (f k ∷ kept_equalities payload T (edges_down f k))) (all k (omega (arith, h)))
      ∙ ap (λ b. cond b (kept_equalities payload T (edges_down f k)) (f k ∷ kept_equalities payload T (edges_down f k)))
      full-open
      ∙ ap (λ l. f k ∷ l) (kept-all f k (omega (arith, h)))

-- ---- The outcome: the equalities kept, and a comparison a column.
module _ (f : ℕ → ℕ) (m : ℕ) (s : Collected ℕ) (h : Chained f m s) where
  columns : length s.order ≡ suc (suc m)
  columns = h.counted

  spread : (c : ℕ) → c ≤ suc m → propagated payload s c ≡ full
  spread c l =
      ap (λ es. propagate payload (length s.order) es s.constraints c) h.edges
      ∙ (spreads f (suc m) 0 (suc m) (length s.order) s.constraints (omega arith) (omega (arith, columns)) h.reached
      ).all c l

  settled : (c : ℕ) → c ≤ suc m → resolved payload s c ≡ full
  settled c l = ap (resolve_deferred payload) (spread c l) ∙ full-resolved

  changed : rewrites payload s ≡ true
  changed =
      ap (λ b. ltb (length (comparisons payload s.order (resolved payload s))) s.bound_conjuncts
      || (s.normalized || (b || dropped_equality payload (propagated payload s) s.edges)))
      (ap (λ es. propagate_emitted payload (length s.order) es s.constraints) h.edges
      ∙ spreads_emitted f 0 (suc m) (length s.order) s.constraints (omega arith) (omega (arith, columns)) h.reached)
      ∙ ap (λ b. ltb (length (comparisons payload s.order (resolved payload s))) s.bound_conjuncts || b)
      (or-true s.normalized)
      ∙ or-true (ltb (length (comparisons payload s.order (resolved payload s))) s.bound_conjuncts)

  pub chain-outcome : conclude payload s ≡ Rebuilt (nodes_down f (suc m)) (map compared s.order)
  chain-outcome =
      ap (λ b. cond (b || any_unsat s.order (resolved payload s)) NothingPasses
      (cond (rewrites payload s) (rebuilt payload s) Unchanged)) h.possible
      ∙ ap (λ b. cond b NothingPasses (cond (rewrites payload s) (rebuilt payload s) Unchanged))
      (none-impossible m (resolved payload s) settled s.order h.within)
      ∙ ap (λ b. cond b (rebuilt payload s) Unchanged) changed
      ∙ ap (λ l. Rebuilt (l ++ kept_equalities payload (propagated payload s) s.edges)
      (comparisons payload s.order (resolved payload s))) h.none_kept
      ∙ ap (λ es. Rebuilt (kept_equalities payload (propagated payload s) es)
      (comparisons payload s.order (resolved payload s))) h.edges
      ∙ ap (λ l. Rebuilt l (comparisons payload s.order (resolved payload s)))
      (kept-all m (propagated payload s) spread f (suc m) (omega arith))
      ∙ ap (Rebuilt (nodes_down f (suc m))) (compared-all m (resolved payload s) settled s.order h.within)

-- ---- The answer, of bytes rs that begin with the screen.
sum_nodes : (F f : ℕ → ℕ) (k : ℕ) → ((i : ℕ) → i < k → F (f i) ≡ 3) → sum_at F (nodes_down f k) ≡ 3 * k
sum_nodes F f zero h = refl
sum_nodes F f (suc k) h =
    let a = h k (omega arith) in let b = sum_nodes F f k (λ i l. h i (omega (arith, l))) in omega (arith, a, b)

nodes_below : (n k : ℕ) → suc k ≤ n → Below (3 * n) (nodes_down (equality_node n) k)
nodes_below n zero h = tt
nodes_below n (suc k) h = (omega (arith, h), nodes_below n k (omega (arith, h)))

compared-fit : (m : ℕ) (o : List ℕ) → m ≤ 62 → Every (λ c. c ≤ suc m) o → Fit (map compared o)
compared-fit m [] l h = tt
compared-fit m (c ∷ o) l h = ((omega (arith, l, h.0), omega arith), compared-fit m o l h.1)

not-refused : (b : Bool) (r u : ℕ) → b ≡ true → is_refused (cond b (answer.Rewritten r u) (answer.Refused 11)) ≡ false
not-refused b r u e = ap (λ x. is_refused (cond x (answer.Rewritten r u) (answer.Refused 11))) e

module _ (m : ℕ) (most : m ≤ 62) (rs : List ℕ) (built : Built (suc (suc m)) rs)
    (lent : 16 * slowest_used (suc (suc m)) ≤ length rs) where
  abbrev n : ℕ
  n = suc (suc m)

  abbrev f : ℕ → ℕ
  f = equality_node n

  abbrev s : Collected ℕ
  s = collect payload (conjuncts_down f (suc m)) begin

  sizes : sizes_ok rs [] (slowest_used n) ≡ true
  unfolding sizes_ok_in
  sizes =
      rw (le-leb (slowest_used n) 4096 (omega (arith, most)), le-leb (slowest_used n) (length rs / 16) (omega (arith, lent)))

  ok : Checked (slowest_table n) rs [] (slowest_used n) (slowest_root n)
  ok = is_checked n (omega arith) (omega (arith, most)) rs [] built sizes

  pub is_accepted_lem : check_answer (slowest_table n) rs [] (slowest_used n) (slowest_root n) ≡ check.Accepted
  is_accepted_lem = checked-accepted (slowest_table n) rs [] (slowest_used n) (slowest_root n) ok

  read : read_conjuncts (aexpr_at rs [] (slowest_used n)) (slowest_root n) ≡ conjuncts_down f (suc m)
  read =
      let e : n - 1 ≡ suc m = omega arith in
      conjuncts-are n (omega arith) (omega (arith, most)) rs [] built
      (inputs-fall (slowest_table n) rs [] (slowest_used n) (slowest_root n) ok)
      ∙ ap (conjuncts_down f) e

  pub all_passes : rewrite_passes rs [] (slowest_used n) (slowest_root n) ≡ n
  unfolding rewrite_passes
  all_passes = ap (merge_passes payload) read ∙ chain-passes f m

  pub neighbours : map (λ e. (e.0, e.1)) (screen_equalities rs [] (slowest_used n) (slowest_root n)) ≡ far_end_first (n - 1)
  neighbours =
      let e : suc m ≡ n - 1 = omega arith in
      ap (λ l. map (λ e. (e.0, e.1)) (equalities l)) read ∙ chain-neighbours f (suc m) ∙ ap far_end_first e

  pub beside : besides (read_conjuncts (aexpr_at rs [] (slowest_used n)) (slowest_root n)) ≡ Bounds 0 over ∷ []
  beside = ap besides read ∙ bound-beside f (suc m)

  abbrev ns : List ℕ
  ns = nodes_down f (suc m)

  abbrev cs : List (ℕ × ColumnComparison ℕ)
  cs = map compared s.order

  outcome_is : outcome_of rs [] (slowest_used n) (slowest_root n) ≡ Rebuilt ns cs
  outcome_is = ap (merge_filter_constraints payload) read ∙ chain-outcome f m s (chained f m)

  lines : length cs ≡ n
  lines = length-map s.order compared ∙ (chained f m).counted

  module _ (room : 16 * records_needed n ≤ length rs) where
    used-is : suc (chain_used (slowest_used n) ns cs) ≡ slowest_used n + 3 * length cs + (length ns + length cs)
    used-is = used-count (slowest_used n) ns cs refl

    few : chain_used (slowest_used n) ns cs ≡ records_needed n
    few =
        let a : suc (chain_used (slowest_used n) ns cs) ≡ slowest_used n + 3 * length cs + (length ns + length cs) = used-is in
        let b : length cs ≡ n = lines in
        let c : length ns ≡ suc m = nodes_length f (suc m) in
        omega (arith, a, b, c)

    tree_is : suc (tree_count (outcome_bytes (slowest_table n) rs (slowest_used n) (Rebuilt ns cs)) (chain_root (slowest_used n) ns cs)) ≡
        sum_at (tree_count rs) ns + 3 * length cs + (length ns + length cs)
    tree_is =
        rebuilt-tree (slowest_table n) rs (slowest_used n) ns cs (omega (arith, few, room)) (omega (arith, few, most))
        (nodes_below n (suc m) (omega arith)) (compared-fit m s.order most (chained f m).within) refl

    fits : chain_fits (slowest_table n) rs (slowest_used n) ns cs ≡ true
    fits =
        let a = tree_is in
        let b : length cs ≡ n = lines in
        let c : length ns ≡ suc m = nodes_length f (suc m) in
        let d : sum_at (tree_count rs) ns ≡ 3 * suc m =
        sum_nodes (tree_count rs) f (suc m)
        (λ i l. tree-equality n (omega arith) (omega (arith, most)) rs [] built i (omega (arith, l))) in
        rw (
          le-leb (chain_used (slowest_used n) ns cs) 4096 (omega (arith, few, most)),
          le-leb (chain_used (slowest_used n) ns cs) (length rs / 16) (omega (arith, few, room)),
          le-leb (tree_count (outcome_bytes (slowest_table n) rs (slowest_used n) (Rebuilt ns cs)) (chain_root (slowest_used n) ns cs)) 4096
              (omega (arith, a, b, c, d, most)),
        )

    pub is_served : is_refused (rewrite_answer (slowest_table n) rs [] (slowest_used n) (slowest_root n)) ≡ false
    unfolding rewrite_answer
    is_served =
        let k : length (minterms (aexpr_at rs [] (slowest_used n)) (slowest_root n)) ≡ n =
        conjuncts-count n (omega arith) (omega (arith, most)) rs [] built
        (inputs-fall (slowest_table n) rs [] (slowest_used n) (slowest_root n) ok) in
        ap (λ a. is_refused (rewrite_if a (rewrite_checked (slowest_table n) rs [] (slowest_used n) (slowest_root n)))) is_accepted_lem
        ∙ ap (λ b. is_refused (cond b (answer.Refused 8)
        (cond (ltb 128 (length (minterms (aexpr_at rs [] (slowest_used n)) (slowest_root n)))) (answer.Refused 9)
        (outcome_answer (slowest_table n) rs (slowest_used n) (outcome_of rs [] (slowest_used n) (slowest_root n))))))
        (le-ltb 4096 (tree_count rs (slowest_root n)) (tree-small n (omega arith) (omega (arith, most)) rs [] built))
        ∙ ap (λ b. is_refused (cond b (answer.Refused 9)
        (outcome_answer (slowest_table n) rs (slowest_used n) (outcome_of rs [] (slowest_used n) (slowest_root n)))))
        (le-ltb 128 (length (minterms (aexpr_at rs [] (slowest_used n)) (slowest_root n))) (omega (arith, k, most)))
        ∙ ap (λ o. is_refused (outcome_answer (slowest_table n) rs (slowest_used n) o)) outcome_is
        ∙ not-refused (chain_fits (slowest_table n) rs (slowest_used n) ns cs) (chain_root (slowest_used n) ns cs)
        (chain_used (slowest_used n) ns cs) fits

pub slowest-takes_all_passes : SlowestTakesAllPasses
slowest-takes_all_passes zero l h rest = absurd (omega (arith, l))
slowest-takes_all_passes (suc zero) l h rest = absurd (omega (arith, l))
slowest-takes_all_passes (suc (suc m)) l h rest =
    record {
      ints = refl;
      three = refl;
      chain = neighbours m most rs built lent;
      bound = (over, beside m most rs built lent);
      accepted = is_accepted_lem m most rs built lent;
      passes = all_passes m most rs built lent;
      served = is_served m most rs built lent;
    }
  where
    rs : List ℕ
    rs = slowest_bytes (suc (suc m)) ++ rest

    most : m ≤ 62
    most = omega (arith, h)

    built : Built (suc (suc m)) rs
    built i k = fields-built (suc (suc m)) h (3 * suc (suc m)) (omega arith) rest i k

    lent : 16 * slowest_used (suc (suc m)) ≤ length rs
    lent =
        let a = length-append (slowest_bytes (suc (suc m))) rest in
        let b = bytes-length (suc (suc m)) (slowest_used (suc (suc m))) in
        omega (arith, a, b)

-- The bytes of a rebuilt chain: comparisons first, then one And after another over the chain's numbers.
use mathlib.Core.Path.{◌≡◌, refl, sym, ◌∙◌, ap}
use mathlib.Core.Bool.{true, false, true≢false}
use mathlib.Core.List.{List, [], ◌∷◌, ◌++◌}
use Prim.Native.Nat.{ℕ, zero, suc, ◌+◌, ◌*◌, ◌-◌, ◌≤◌, ◌<◌}
use native.Mathlib.Omega.{arith}
use lib.Dec.{ltb}
use lib.ListN.{length, get_or, length-append, get_or-append}
use lib.Seq.{get_or-append-add}
use borrow.Author.Tests.{ltb-true, ltb-false}
use Rattle.records.proofs.Laws.{by-test}
use Rattle.constraints.specs.Comparisons.{ColumnComparison}
use Rattle.constraints.specs.Values.{is_empty}
use Rattle.merge.specs.Emit.{Rebuilt}
use Rattle.merge.specs.Rebuild.{comparison_nodes}
use Rattle.merge.specs.Write.{write_comparisons, fold_bytes, outcome_bytes}
use Rattle.merge.proofs.Trees.{comparisons-count}
use Rattle.read_operands.specs.Walk.{first_of}
use Rattle.rewrite.specs.Written.{chain_at, ands_to}
use Rattle.read_operands.proofs.Walks.{first-length}
use Rattle.rewrite.proofs.Writing.{fold_law}

-- One node a comparison.
pub nodes_length : (u : ℕ) (cs : List (ℕ × ColumnComparison ℕ)) → length (comparison_nodes u cs) ≡ length cs
nodes_length u [] = refl
nodes_length u (x ∷ cs) = let i = nodes_length (suc (suc (suc u))) cs in omega (arith, i)

-- The chain has a conjunct for each kept node and each comparison.
pub chain_length : (u : ℕ) (ns : List ℕ) (cs : List (ℕ × ColumnComparison ℕ))
    → length (ns ++ comparison_nodes u cs) ≡ length ns + length cs
chain_length u ns cs =
    let a = length-append ns (comparison_nodes u cs) in let b = nodes_length u cs in omega (arith, a, b)

not-empty : (l : List ℕ) → 0 < length l → is_empty l ≡ false
not-empty [] h = absurd (omega arith)
not-empty (x ∷ l) h = refl

-- A list that is not empty has some length.
pub empty-not : (l : List ℕ) → is_empty l ≡ false → 0 < length l
empty-not [] e = absurd (true≢false e)
empty-not (x ∷ l) e = omega arith

-- A chain of some conjuncts is not empty.
pub chain-not_empty : (u : ℕ) (ns : List ℕ) (cs : List (ℕ × ColumnComparison ℕ)) → 0 < length ns + length cs
    → is_empty (ns ++ comparison_nodes u cs) ≡ false
chain-not_empty u ns cs h =
    let e : length (ns ++ comparison_nodes u cs) ≡ length ns + length cs = chain_length u ns cs in
    not-empty (ns ++ comparison_nodes u cs) (omega (arith, e, h))

first-at : (a : List ℕ) (n i : ℕ) → i < n → get_or (first_of a n) i 0 ≡ get_or a i 0
unfolding first_of
first-at a zero i h = absurd (omega arith)
first-at a (suc n) i h = by-test (ltb i n) (λ e. low (ltb-true i n e) (first-at a n i (ltb-true i n e)))
    (λ e. last (ltb-false i n e))
  where
    low : i < n → get_or (first_of a n) i 0 ≡ get_or a i 0
        → get_or (first_of a n ++ (get_or a n 0 ∷ [])) i 0 ≡ get_or a i 0
    low k q =
        let l : length (first_of a n) ≡ n = first-length a n in
        get_or-append (first_of a n) (get_or a n 0 ∷ []) 0 i (omega (arith, l, k)) ∙ q

    last : n ≤ i → get_or (first_of a n ++ (get_or a n 0 ∷ [])) i 0 ≡ get_or a i 0
    last k =
        let l : length (first_of a n) ≡ n = first-length a n in
        let e : i ≡ length (first_of a n) + 0 = omega (arith, l, k, h) in
        let q : n ≡ i = omega (arith, k, h) in
        ap (λ m. get_or (first_of a n ++ (get_or a n 0 ∷ [])) m 0) e
        ∙ get_or-append-add (first_of a n) (get_or a n 0 ∷ []) 0 0
        ∙ ap (λ m. get_or a m 0) q

comparison_at_lem : (u : ℕ) (cs : List (ℕ × ColumnComparison ℕ)) (i : ℕ) → i < length cs
    → get_or (comparison_nodes u cs) i 0 ≡ u + 3 * i + 2
comparison_at_lem u [] i h = absurd (omega arith)
comparison_at_lem u (x ∷ cs) zero h = omega arith
comparison_at_lem u (x ∷ cs) (suc i) h =
    let e = comparison_at_lem (suc (suc (suc u))) cs i (omega arith) in omega (arith, e)

-- The numbers that the code reckons are the chain's.
pub chain-at : (nodes : List ℕ) (kept used : ℕ) (cs : List (ℕ × ColumnComparison ℕ)) (j : ℕ)
    → j < length (first_of nodes kept ++ comparison_nodes used cs)
    → chain_at nodes kept used j ≡ get_or (first_of nodes kept ++ comparison_nodes used cs) j 0
chain-at nodes kept used cs j h = by-test (ltb j kept) low high
  where
    l : length (first_of nodes kept) ≡ kept
    l = first-length nodes kept

    low : ltb j kept ≡ true
        → chain_at nodes kept used j ≡ get_or (first_of nodes kept ++ comparison_nodes used cs) j 0
    low e =
        let k : j < kept = ltb-true j kept e in
        rw e (sym (get_or-append (first_of nodes kept) (comparison_nodes used cs) 0 j (omega (arith, l, k))
        ∙ first-at nodes kept j k))

    high : ltb j kept ≡ false
        → chain_at nodes kept used j ≡ get_or (first_of nodes kept ++ comparison_nodes used cs) j 0
    high e =
        let k : kept ≤ j = ltb-false j kept e in
        let c : length (first_of nodes kept ++ comparison_nodes used cs) ≡ length (first_of nodes kept) + length cs =
        chain_length used (first_of nodes kept) cs in
        let q : j ≡ length (first_of nodes kept) + (j - kept) = omega (arith, l, k) in
        rw e (sym (ap (λ m. get_or (first_of nodes kept ++ comparison_nodes used cs) m 0) q
        ∙ get_or-append-add (first_of nodes kept) (comparison_nodes used cs) (j - kept) 0
        ∙ comparison_at_lem used cs (j - kept) (omega (arith, l, k, c, h))))

fold-whole : (f : ℕ → ℕ) (u : ℕ) (l : List ℕ) (rs : List ℕ) → is_empty l ≡ false
    → ((j : ℕ) → j < length l → f j ≡ get_or l j 0)
    → ands_to f u (length l - 1) rs ≡ fold_bytes u rs l
fold-whole f u [] rs e h = absurd (true≢false e)
fold-whole f u (n ∷ l) rs e h =
    let q : suc (length l) - 1 ≡ length l = omega arith in
    ap (λ m. ands_to f u m rs) q ∙ fold_law f u n l rs h

-- The Ands behind the comparisons are the bytes of the outcome.
pub chain-bytes : (t rs nodes : List ℕ) (kept used : ℕ) (ns : List ℕ) (cs : List (ℕ × ColumnComparison ℕ))
    → ns ≡ first_of nodes kept → is_empty (ns ++ comparison_nodes used cs) ≡ false
    → ands_to (chain_at nodes kept used) (used + 3 * length cs) (kept + length cs - 1) (write_comparisons t used cs rs)
    ≡ outcome_bytes t rs used (Rebuilt ns cs)
chain-bytes t rs nodes kept used ns cs e full =
    let f : is_empty (first_of nodes kept ++ comparison_nodes used cs) ≡ false =
    ap (λ l. is_empty (l ++ comparison_nodes used cs)) (sym e) ∙ full in
    let l : length (first_of nodes kept) ≡ kept = first-length nodes kept in
    let c : length (first_of nodes kept ++ comparison_nodes used cs) ≡ length (first_of nodes kept) + length cs =
    chain_length used (first_of nodes kept) cs in
    let q : kept + length cs - 1 ≡ length (first_of nodes kept ++ comparison_nodes used cs) - 1 = omega (arith, l, c) in
    ap (λ m. ands_to (chain_at nodes kept used) (used + 3 * length cs) m (write_comparisons t used cs rs)) q
    ∙ fold-whole (chain_at nodes kept used) (used + 3 * length cs) (first_of nodes kept ++ comparison_nodes used cs)
    (write_comparisons t used cs rs) f (chain-at nodes kept used cs)
    ∙ ap (λ u. fold_bytes u (write_comparisons t used cs rs) (first_of nodes kept ++ comparison_nodes used cs))
    (sym (comparisons-count used cs))
    ∙ ap (λ l. outcome_bytes t rs used (Rebuilt l cs)) (sym e)

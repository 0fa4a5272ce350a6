-- Propagate: an edge, one edge more, one pass more, and the end.
use Rattle.merge.proofs.Passes.{merge_edge_if, edge_any_if, edge_emitted_if}
use Rattle.merge.specs.Passes.{pass_times, pass_count, passes_made}
use mathlib.Core.Path.{◌≡◌, refl, sym, ◌∙◌, ap, subst}
use mathlib.Core.Bool.{Bool, true, false, not, cond, ◌&&◌, ◌||◌, true≢false, or-false}
use mathlib.Core.List.{List, [], ◌∷◌, ◌++◌}
use Prim.Native.Nat.{ℕ, zero, suc, ◌+◌, ◌-◌, ◌<◌, ◌≤◌, ◌%◌}
use native.Mathlib.Omega.{arith}
use native.Mathlib.Numerals.{add-one}
use lib.ListN.{get_or}
use lib.Dec.{ltb, eqb}
use borrow.Author.Tests.{eq-eqb, lt-ltb, ltb-false}
use Rattle.constraints.specs.Column as q
use Rattle.constraints.specs.Lined.{lined}
use Rattle.constraints.specs.Values.{is_empty}
use Rattle.column_constraints.specs.Abstraction.{Conjuncts}
use Rattle.column_constraints.specs.declared.column.ColumnConstraints.{ColumnConstraints}
use Rattle.merge.specs.Propagate.{merge_edge, edge_any, edge_emitted, pass, pass_any, pass_emitted}
use Rattle.merge.specs.Propagate.{propagate, propagate_emitted}
use Rattle.column_table.specs.State.{ColumnTable, Shows, edges_of, EdgeMerged, EdgesMerged, Passed, Spread}
use Rattle.column_table.proofs.Arrays.{low-slot}

-- ---- an edge: its two columns are one
pub edge-self : (t : Conjuncts) (table : List ColumnConstraints) (ms : List ℕ) (T : ColumnTable) (a b x y : ℕ) → Shows t table ms T
    → a < 64 → b < 64 → x ≡ a % 64 → y ≡ b % 64 → x ≡ y → EdgeMerged t table ms a b false false T
edge-self t table ms T a b x y S la lb ex ey h =
    let e : eqb a b ≡ true = eq-eqb a b (sym (low-slot a x la ex) ∙ h ∙ low-slot b y lb ey) in
    record {
      shows = subst (λ o. Shows t table ms (merge_edge_if lined o a b T)) (sym e) S;
      emits = sym (ap (λ o. edge_emitted_if lined o a b T) e);
      changes = sym (ap (λ o. edge_any_if lined o a b T) e);
    }

-- ---- an edge behind the others
pub or_assoc : (x y z : Bool) → (x || (y || z)) ≡ ((x || y) || z)
or_assoc true y z = refl
or_assoc false y z = refl

pass-snoc : (es : List (ℕ × ℕ × ℕ)) (e : ℕ × ℕ × ℕ) (T : ColumnTable)
    → pass lined (es ++ (e ∷ [])) T ≡ merge_edge lined e.0 e.1 (pass lined es T)
pass-snoc [] e T = refl
pass-snoc (f ∷ es) e T = pass-snoc es e (merge_edge lined f.0 f.1 T)

any_snoc : (es : List (ℕ × ℕ × ℕ)) (e : ℕ × ℕ × ℕ) (T : ColumnTable)
    → pass_any lined (es ++ (e ∷ [])) T ≡
    (pass_any lined es T || edge_any lined e.0 e.1 (pass lined es T))
any_snoc [] e T = or-false (edge_any lined e.0 e.1 T)
any_snoc (f ∷ es) e T =
    ap (λ b. edge_any lined f.0 f.1 T || b)
    (any_snoc es e (merge_edge lined f.0 f.1 T))
    ∙ or_assoc (edge_any lined f.0 f.1 T)
    (pass_any lined es (merge_edge lined f.0 f.1 T))
    (edge_any lined e.0 e.1
    (pass lined es (merge_edge lined f.0 f.1 T)))

emitted-snoc : (es : List (ℕ × ℕ × ℕ)) (e : ℕ × ℕ × ℕ) (T : ColumnTable)
    → pass_emitted lined (es ++ (e ∷ [])) T ≡
    (pass_emitted lined es T || edge_emitted lined e.0 e.1 (pass lined es T))
emitted-snoc [] e T = or-false (edge_emitted lined e.0 e.1 T)
emitted-snoc (f ∷ es) e T =
    ap (λ b. edge_emitted lined f.0 f.1 T || b)
    (emitted-snoc es e (merge_edge lined f.0 f.1 T))
    ∙ or_assoc (edge_emitted lined f.0 f.1 T)
    (pass_emitted lined es (merge_edge lined f.0 f.1 T))
    (edge_emitted lined e.0 e.1
    (pass lined es (merge_edge lined f.0 f.1 T)))

-- ---- a pass, edge by edge
pub merged_none : (t : Conjuncts) (table : List ColumnConstraints) (ms : List ℕ) (lefts rights equals : List ℕ)
    (T : ColumnTable) → Shows t table ms T → EdgesMerged t table ms (edges_of lefts rights equals 0) false false T
unfolding edges_of
merged_none t table ms lefts rights equals T S = record { shows = S; emits = refl; changes = refl }

pub merged_more : (t : Conjuncts) (table table' : List ColumnConstraints) (ms ms' : List ℕ) (lefts rights equals : List ℕ) (e : ℕ)
    (emitted any em an : Bool) (T : ColumnTable) → EdgesMerged t table ms (edges_of lefts rights equals e) emitted any T
    → ((U : ColumnTable) → Shows t table ms U → EdgeMerged t table' ms' (get_or lefts e 0) (get_or rights e 0) em an U)
    → EdgesMerged t table' ms' (edges_of lefts rights equals (e + 1)) (emitted || em) (any || an) T
unfolding edges_of
merged_more t table table' ms ms' lefts rights equals e emitted any em an T M E =
    let es : List (ℕ × ℕ × ℕ) = edges_of lefts rights equals e in
    let k : ℕ × ℕ × ℕ = (get_or lefts e 0, get_or rights e 0, get_or equals e 0) in
    let U : ColumnTable = pass lined es T in
    let X = E U M.shows in
    rw (add-one)
    (record {
      shows = subst (Shows t table' ms') (sym (pass-snoc es k T)) X.shows;
      emits = ap (λ b. b || em) M.emits ∙ ap (λ b. pass_emitted lined es T || b) X.emits ∙ sym (emitted-snoc es k T);
      changes = ap (λ b. b || an) M.changes ∙ ap (λ b. pass_any lined es T || b) X.changes ∙ sym (any_snoc es k T);
    })

-- ---- the passes
times_snoc : (p : ℕ) (es : List (ℕ × ℕ × ℕ)) (T : ColumnTable)
    → pass_times lined (suc p) es T ≡ pass lined es (pass_times lined p es T)
times_snoc zero es T = refl
times_snoc (suc p) es T = times_snoc p es (pass lined es T)

-- without equalities no pass is made, and none would change anything
passed-some : (t : Conjuncts) (table : List ColumnConstraints) (ms : List ℕ) (es : List (ℕ × ℕ × ℕ)) (n : ℕ) (T : ColumnTable)
    → Shows t table ms T → Passed t table ms es n 0 false (not (is_empty es)) T
passed-some t table ms [] n T S = record { shows = S; left = still n; emits = quiet n; counts = refl }
  where
    still : (n : ℕ) → T ≡ propagate lined n [] T
    still zero = refl
    still (suc n) = refl

    quiet : (n : ℕ) → false ≡ propagate_emitted lined n [] T
    quiet zero = refl
    quiet (suc n) = refl
passed-some t table ms (e ∷ es) n T S =
    let z : n - 0 ≡ n = omega arith in
    let c : 0 + pass_count lined (n - 0) (e ∷ es) T ≡ pass_count lined (n - 0) (e ∷ es) T = omega arith in
    record {
      shows = S;
      left = ap (λ k. propagate lined k (e ∷ es) T) z;
      emits = ap (λ k. propagate_emitted lined k (e ∷ es) T) z;
      counts = c ∙ ap (λ k. pass_count lined k (e ∷ es) T) z;
    }

edges_some : (lefts rights equals : List ℕ) (edges : ℕ) → ltb 0 edges ≡ not (is_empty (edges_of lefts rights equals edges))
unfolding edges_of
edges_some lefts rights equals zero = refl
edges_some lefts rights equals (suc n) =
    lt-ltb 0 (suc n) (omega arith)
    ∙ sym (ap not (snoc_some (edges_of lefts rights equals n) (get_or lefts n 0, get_or rights n 0, get_or equals n 0)))
  where
    snoc_some : (l : List (ℕ × ℕ × ℕ)) (e : ℕ × ℕ × ℕ) → is_empty (l ++ (e ∷ [])) ≡ false
    snoc_some [] e = refl
    snoc_some (x ∷ l) e = refl

pub passed_none : (t : Conjuncts) (table : List ColumnConstraints) (ms lefts rights equals : List ℕ) (edges n : ℕ) (T : ColumnTable)
    → Shows t table ms T → Passed t table ms (edges_of lefts rights equals edges) n 0 false (ltb 0 edges) T
passed_none t table ms lefts rights equals edges n T S =
    subst (λ b. Passed t table ms (edges_of lefts rights equals edges) n 0 false b T)
    (sym (edges_some lefts rights equals edges)) (passed-some t table ms (edges_of lefts rights equals edges) n T S)

-- a pass that is not the last
propagate-by : (b : Bool) (m : ℕ) (es : List (ℕ × ℕ × ℕ)) (T : ColumnTable) → pass_any lined es T ≡ b
    → propagate lined (suc m) es T ≡ cond b (propagate lined m es (pass lined es T)) (pass lined es T)
propagate-by b m es T e = ap (λ x. cond x (propagate lined m es (pass lined es T)) (pass lined es T)) e

emitted-by : (b : Bool) (m : ℕ) (es : List (ℕ × ℕ × ℕ)) (T : ColumnTable) → pass_any lined es T ≡ b
    → propagate_emitted lined (suc m) es T ≡
    (pass_emitted lined es T || cond b (propagate_emitted lined m es (pass lined es T)) false)
emitted-by b m es T e =
    ap (λ x. pass_emitted lined es T || cond x (propagate_emitted lined m es (pass lined es T)) false) e

count_by : (b : Bool) (m : ℕ) (es : List (ℕ × ℕ × ℕ)) (T : ColumnTable) → pass_any lined es T ≡ b
    → pass_count lined (suc m) es T ≡ suc (cond b (pass_count lined m es (pass lined es T)) 0)
count_by b m es T e = ap (λ x. suc (cond x (pass_count lined m es (pass lined es T)) 0)) e

pub passed-more :
    (t : Conjuncts) (table table' : List ColumnConstraints) (ms ms' : List ℕ) (es : List (ℕ × ℕ × ℕ)) (n p : ℕ)
    (emitted going em any : Bool) (T : ColumnTable) → p < n → going ≡ true
    → Passed t table ms es n p emitted going T
    → ((U : ColumnTable) → Shows t table ms U → EdgesMerged t table' ms' es em any U)
    → Passed t table' ms' es n (p + 1) (emitted || em) any T
passed-more t table table' ms ms' es n p emitted going em any T l eg P N =
    let U : ColumnTable = pass_times lined p es T in
    let M : EdgesMerged t table' ms' es em any U = N U P.shows in
    let m : ℕ = n - suc p in
    let en : n - p ≡ suc m = omega arith in
    let left : propagate lined (n - p) es U ≡ propagate lined n es T =
    sym (ap (λ b. cond b (propagate lined (n - p) es U) U) eg) ∙ P.left in
    let emits : (emitted || propagate_emitted lined (n - p) es U) ≡ propagate_emitted lined n es T =
    sym (ap (λ b. emitted || cond b (propagate_emitted lined (n - p) es U) false) eg) ∙ P.emits in
    let counts : p + pass_count lined (n - p) es U ≡ passes_made lined n es T =
    sym (ap (λ b. p + cond b (pass_count lined (n - p) es U) 0) eg) ∙ P.counts in
    let step : suc p + cond any (pass_count lined m es (pass lined es U)) 0 ≡
    p + suc (cond any (pass_count lined m es (pass lined es U)) 0) = omega arith in
    rw (add-one)
    (record {
      shows = subst (Shows t table' ms') (sym (times_snoc p es T)) M.shows;
      left =
          ap (λ X. cond any (propagate lined m es X) X) (times_snoc p es T)
          ∙ sym (propagate-by any m es U (sym M.changes))
          ∙ ap (λ k. propagate lined k es U) (sym en)
          ∙ left;
      emits =
          ap (λ x. (emitted || x) || cond any (propagate_emitted lined m es (pass_times lined (suc p) es T)) false)
          M.emits
          ∙ sym (or_assoc emitted (pass_emitted lined es U)
          (cond any (propagate_emitted lined m es (pass_times lined (suc p) es T)) false))
          ∙ ap (λ X. emitted || (pass_emitted lined es U || cond any (propagate_emitted lined m es X) false))
          (times_snoc p es T)
          ∙ ap (λ x. emitted || x) (sym (emitted-by any m es U (sym M.changes)))
          ∙ ap (λ k. emitted || propagate_emitted lined k es U) (sym en)
          ∙ emits;
      counts =
          ap (λ X. suc p + cond any (pass_count lined m es X) 0) (times_snoc p es T)
          ∙ step
          ∙ ap (λ k. p + k) (sym (count_by any m es U (sym M.changes)))
          ∙ ap (λ k. p + pass_count lined k es U) (sym en)
          ∙ counts;
    })

-- the last pass was quiet, or there were as many as columns
pub passed-end :
    (t : Conjuncts) (table : List ColumnConstraints) (ms : List ℕ) (es : List (ℕ × ℕ × ℕ)) (n p : ℕ) (emitted going : Bool)
    (T : ColumnTable) → p ≤ n → (ltb p n && going) ≡ false → Passed t table ms es n p emitted going T
    → Spread t table ms es n emitted p T
passed-end t table ms es n p emitted going T l h P = go going refl
  where
    last : (c : Bool) → ltb p n ≡ c → (c && true) ≡ false → n ≤ p
    last true q r = absurd (true≢false r)
    last false q r = ltb-false p n q

    U : ColumnTable
    U = pass_times lined p es T

    go : (g : Bool) → going ≡ g → Spread t table ms es n emitted p T
    go true e =
        let u : n ≤ p = last (ltb p n) refl (rw e at h) in
        let z : n - p ≡ 0 = omega arith in
        let w : p ≡ p + 0 = omega arith in
        record {
          shows = subst (Shows t table ms)
              (sym (ap (λ k. propagate lined k es U) z)
              ∙ sym (ap (λ b. cond b (propagate lined (n - p) es U) U) e) ∙ P.left) P.shows;
          emits = sym (or-false emitted)
              ∙ ap (λ k. emitted || propagate_emitted lined k es U) (sym z)
              ∙ sym (ap (λ b. emitted || cond b (propagate_emitted lined (n - p) es U) false) e) ∙ P.emits;
          counts = w
              ∙ ap (λ k. p + pass_count lined k es U) (sym z)
              ∙ sym (ap (λ b. p + cond b (pass_count lined (n - p) es U) 0) e) ∙ P.counts;
        }
    go false e =
        let w : p ≡ p + 0 = omega arith in
        record {
          shows = subst (Shows t table ms) (sym (ap (λ b. cond b (propagate lined (n - p) es U) U) e) ∙ P.left) P.shows;
          emits = sym (or-false emitted)
              ∙ sym (ap (λ b. emitted || cond b (propagate_emitted lined (n - p) es U) false) e) ∙ P.emits;
          counts = w ∙ sym (ap (λ b. p + cond b (pass_count lined (n - p) es U) 0) e) ∙ P.counts;
        }

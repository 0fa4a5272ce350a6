-- The conjuncts read of a rebuilt chain: the kept nodes as before, then each written comparison.
use mathlib.Core.Path.{◌≡◌, refl, sym, ◌∙◌, ap, subst}
use mathlib.Core.Bool.{Bool, true, false, true≢false, cond}
use mathlib.Core.List.{List, [], ◌∷◌, ◌++◌, append_assoc, append-nil, map}
use mathlib.Core.Option.{none}
use Prim.Native.Nat.{ℕ, zero, suc, ◌≤◌, ◌<◌}
use native.Mathlib.Omega.{arith}
use lib.Dec.{eqb}
use Rattle.truth.specs.AExpr.{AExpr, And, BinaryExpr, Column, Compare, Inputs, Literal, WF}
use Rattle.truth.specs.AExpr.{BinaryOp, EqValidity, IsBetween, IsIn, IsNotNull, IsNull, ListLiteral, LogicalAnd}
use Rattle.truth.specs.AExpr.{FloorDivide, LogicalOr, Missing, Modulus, Not, NotEqValidity, Null, Or, Xor}
use Rattle.constraints.specs.Comparisons.{ColumnComparison}
use Rattle.constraints.specs.Resolve.{fixed_value}
use Rattle.constraints.specs.Scalars.{Scalars}
use Rattle.constraints.specs.Values.{is_empty}
use Rattle.merge.specs.Minterms.{and_sides, minterms, minterms_by, sides_of}
use Rattle.merge.proofs.Operators.{ordinary_of}
use Rattle.merge.specs.Classify.{Bounds, Normalized, Conjunct, Equality, NonNullPair, Opaque, Recorded, classify, read_conjuncts}
use Rattle.merge.specs.Collect.{Collected, Table, begin, collect, collect_one}
use Rattle.merge.specs.Emit.{is_fixed, kept_equalities, propagated}
use Rattle.merge.specs.Passes.{equalities}
use Rattle.merge.specs.Rebuild.{and_root, comparison_nodes, comparison_of, comparisons_end, fold_root, value_of}
use Rattle.merge.proofs.Chains.{Below, minterms-law}
use Rattle.merge.proofs.Classified.{classify-same}
use Rattle.merge.proofs.Passes.{eqb-path, eqb-self}
use Rattle.merge.proofs.ReadBack.{collect-all, collect_all, edges-read, kept_conjuncts, kept_equals}
use Rattle.merge.proofs.ReadBack.{kept_others}
use Rattle.merge.proofs.Readings.{Names}
use Rattle.merge.proofs.Rebuilding.{add_ands, add_comparison, add_comparisons, fold_records, put_record, rebuild}
use Rattle.merge.proofs.Reread.{conjunct_of}

ne_of : (a u : ℕ) → (a ≡ u → ⊥) → eqb a u ≡ false
ne_of a u h = go (eqb a u) refl
  where
    go : (b : Bool) → eqb a u ≡ b → b ≡ false
    go true e = absurd (h (eqb-path a u e))
    go false e = refl

module _ {Val : Type 0} where
  put-at : (R : ℕ → AExpr Val) (u : ℕ) (r : AExpr Val) → put_record R u r u ≡ r
  put-at R u r = ap (λ b. cond b r (R u)) (eqb-self u)

  put-off : (R : ℕ → AExpr Val) (u : ℕ) (r : AExpr Val) (a : ℕ) → a < u → put_record R u r a ≡ R a
  put-off R u r a h = ap (λ b. cond b r (R a)) (ne_of a u (λ e. omega (arith, e, h)))

  -- ---- The records written from u on leave those below.
  ands_old : (l : List ℕ) (R : ℕ → AExpr Val) (u acc a : ℕ) → a < u → add_ands u acc l R a ≡ R a
  ands_old [] R u acc a h = refl
  ands_old (n ∷ l) R u acc a h = ands_old l (put_record R u (BinaryExpr And acc n)) (suc u) u a (omega arith)
      ∙ put-off R u (BinaryExpr And acc n) a h

  fold-old : (l : List ℕ) (R : ℕ → AExpr Val) (u a : ℕ) → a < u → fold_records u R l a ≡ R a
  fold-old [] R u a h = refl
  fold-old (n ∷ l) R u a h = ands_old l R u n a h

  comparison_old : (x : ℕ × ColumnComparison Val) (R : ℕ → AExpr Val) (u a : ℕ) → a < u → add_comparison u x R a ≡ R a
  comparison_old x R u a h =
      let R₁ : ℕ → AExpr Val = put_record R u (Column x.0) in
      let R₂ : ℕ → AExpr Val = put_record R₁ (suc u) (Literal (value_of x.1)) in
      put-off R₂ (suc (suc u)) (BinaryExpr (Compare (comparison_of x.1)) u (suc u)) a (omega arith)
      ∙ put-off R₁ (suc u) (Literal (value_of x.1)) a (omega arith) ∙ put-off R u (Column x.0) a h

  comparisons-old : (cs : List (ℕ × ColumnComparison Val)) (R : ℕ → AExpr Val) (u a : ℕ) → a < u →
      add_comparisons u cs R a ≡ R a
  comparisons-old [] R u a h = refl
  comparisons-old (x ∷ cs) R u a h = comparisons-old cs (add_comparison u x R) (suc (suc (suc u))) a (omega arith)
      ∙ comparison_old x R u a h

  comparisons-up : (cs : List (ℕ × ColumnComparison Val)) (u : ℕ) → u ≤ comparisons_end u cs
  comparisons-up [] u = omega arith
  comparisons-up (x ∷ cs) u = omega (arith, comparisons-up cs (suc (suc (suc u))))

  -- ---- The Ands over nodes that are none.
  abbrev pub Ones : (ℕ → AExpr Val) → List ℕ → Type 0
  Ones Q [] = Unit {0}
  Ones Q (n ∷ l) = (and_sides (Q n) ≡ none) × Ones Q l

  one-minterm : (Q : ℕ → AExpr Val) → WF Q → (n : ℕ) → and_sides (Q n) ≡ none → minterms Q n ≡ n ∷ []
  one-minterm Q w n e = minterms-law Q n (w n) ∙ ap (minterms_by n (λ a. minterms Q a)) e

  ands_minterms : (l : List ℕ) (R : ℕ → AExpr Val) (u acc : ℕ) → WF (add_ands u acc l R) →
      Ones (add_ands u acc l R) l →
      minterms (add_ands u acc l R) (and_root u acc l) ≡ minterms (add_ands u acc l R) acc ++ l
  ands_minterms [] R u acc w o = sym (append-nil (minterms R acc))
  ands_minterms (n ∷ l) R u acc w o =
      let R' : ℕ → AExpr Val = put_record R u (BinaryExpr And acc n) in
      let Q : ℕ → AExpr Val = add_ands (suc u) u l R' in
      let e : Q u ≡ BinaryExpr And acc n = ands_old l R' (suc u) u u (omega arith)
      ∙ put-at R u (BinaryExpr And acc n) in
      ands_minterms l R' (suc u) u w o.1
      ∙ ap (λ k. k ++ l) (minterms-law Q u (w u)
      ∙ ap (λ r. minterms_by u (λ a. minterms Q a) (and_sides r)) e
      ∙ ap (λ k. minterms Q acc ++ k) (one-minterm Q w n o.0))
      ∙ append_assoc (minterms Q acc) (n ∷ []) l

  pub fold-minterms : (l : List ℕ) (R : ℕ → AExpr Val) (u : ℕ) → WF (fold_records u R l) → Ones (fold_records u R l) l →
      is_empty l ≡ false → minterms (fold_records u R l) (fold_root u l) ≡ l
  fold-minterms [] R u w o e = absurd (true≢false e)
  fold-minterms (n ∷ l) R u w o e = ands_minterms l R u n w o.1
      ∙ ap (λ k. k ++ l) (one-minterm (add_ands u n l R) w n o.0)

  -- ---- A conjunct of a node is no And.
  ones-append : (R : ℕ → AExpr Val) (l m : List ℕ) → Ones R l → Ones R m → Ones R (l ++ m)
  ones-append R [] m h k = k
  ones-append R (n ∷ l) m h k = (h.0, ones-append R l m h.1 k)

  minterms-step : (R : ℕ → AExpr Val) (n : ℕ) → ((a : ℕ) → a < n → Ones R (minterms R a)) → (r : AExpr Val) →
      R n ≡ r → Inputs n r → Ones R (minterms_by n (λ a. minterms R a) (and_sides r))
  minterms-step R n h (Column c) e i = (ap and_sides e, tt)
  minterms-step R n h (Literal v) e i = (ap and_sides e, tt)
  minterms-step R n h Null e i = (ap and_sides e, tt)
  minterms-step R n h (BinaryExpr op x y) e i = go op e
    where
      go : (op : BinaryOp) → R n ≡ BinaryExpr op x y → Ones R (minterms_by n (λ a. minterms R a) (sides_of op x y))
      go (Compare o) e = (ap and_sides e, tt)
      go EqValidity e = (ap and_sides e, tt)
      go NotEqValidity e = (ap and_sides e, tt)
      go FloorDivide e = (ap and_sides e, tt)
      go Modulus e = (ap and_sides e, tt)
      go And e = ones-append R (minterms R x) (minterms R y) (h x i.0) (h y i.1)
      go Or e = (ap and_sides e, tt)
      go Xor e = (ap and_sides e, tt)
      go LogicalAnd e = ones-append R (minterms R x) (minterms R y) (h x i.0) (h y i.1)
      go LogicalOr e = (ap and_sides e, tt)
  minterms-step R n h (Not x) e i = (ap and_sides e, tt)
  minterms-step R n h (IsNull x) e i = (ap and_sides e, tt)
  minterms-step R n h (IsNotNull x) e i = (ap and_sides e, tt)
  minterms-step R n h (IsBetween c d x y z) e i = (ap and_sides e, tt)
  minterms-step R n h (ListLiteral k l) e i = (ap and_sides e, tt)
  minterms-step R n h (IsIn k x y) e i = (ap and_sides e, tt)
  minterms-step R n h Missing e i = (ap and_sides e, tt)

  minterms-under : (R : ℕ → AExpr Val) → WF R → (m n : ℕ) → n < m → Ones R (minterms R n)
  minterms-under R w zero n h = absurd (omega arith)
  minterms-under R w (suc m) n h = subst (Ones R) (sym (minterms-law R n (w n)))
      (minterms-step R n (λ a k. minterms-under R w m a (omega arith)) (R n) refl (w n))

  pub minterms-ones : (R : ℕ → AExpr Val) → WF R → (n : ℕ) → Ones R (minterms R n)
  minterms-ones R w n = minterms-under R w (suc n) n (omega arith)

  -- ---- The written comparisons.
  comparison_nodes_lem : (x : ℕ × ColumnComparison Val) (R : ℕ → AExpr Val) (u : ℕ) →
      (add_comparison u x R u ≡ Column x.0) × (add_comparison u x R (suc u) ≡ Literal (value_of x.1)) ×
      (add_comparison u x R (suc (suc u)) ≡ BinaryExpr (Compare (comparison_of x.1)) u (suc u))
  comparison_nodes_lem x R u =
      let R₁ : ℕ → AExpr Val = put_record R u (Column x.0) in
      let R₂ : ℕ → AExpr Val = put_record R₁ (suc u) (Literal (value_of x.1)) in
      let b : AExpr Val = BinaryExpr (Compare (comparison_of x.1)) u (suc u) in (
        put-off R₂ (suc (suc u)) b u (omega arith)
            ∙ put-off R₁ (suc u) (Literal (value_of x.1)) u (omega arith) ∙ put-at R u (Column x.0),
        put-off R₂ (suc (suc u)) b (suc u) (omega arith) ∙ put-at R₁ (suc u) (Literal (value_of x.1)),
        put-at R₂ (suc (suc u)) b,
      )

  abbrev Agrees : (ℕ → AExpr Val) → ℕ → (ℕ → AExpr Val) → Type 0
  Agrees Q u R = (a : ℕ) → a < u → Q a ≡ R a

  written_read : (cs : List (ℕ × ColumnComparison Val)) (R Q : ℕ → AExpr Val) (u : ℕ) →
      Agrees Q (comparisons_end u cs) (add_comparisons u cs R) →
      (map (classify Q) (comparison_nodes u cs) ≡ map conjunct_of cs) × Ones Q (comparison_nodes u cs)
  written_read [] R Q u h = (refl, tt)
  written_read (x ∷ cs) R Q u h =
      let v : ℕ = suc (suc (suc u)) in
      let R' : ℕ → AExpr Val = add_comparison u x R in
      let n = comparison_nodes_lem x R u in
      let up = comparisons-up cs v in
      let c : Q u ≡ Column x.0 = h u (omega (arith, up)) ∙ comparisons-old cs R' v u (omega arith) ∙ n.0 in
      let d : Q (suc u) ≡ Literal (value_of x.1) =
      h (suc u) (omega (arith, up)) ∙ comparisons-old cs R' v (suc u) (omega arith) ∙ n.1 in
      let b : Q (suc (suc u)) ≡ BinaryExpr (Compare (comparison_of x.1)) u (suc u) =
      h (suc (suc u)) (omega (arith, up)) ∙ comparisons-old cs R' v (suc (suc u)) (omega arith) ∙ n.2 in
      let r = written_read cs R' Q v h in
      let e : classify Q (suc (suc u)) ≡ conjunct_of x = rw (b, c, d, ordinary_of (comparison_of x.1)) in (
        ap (λ k. k ∷ map (classify Q) (comparison_nodes v cs)) e ∙ ap (λ k. conjunct_of x ∷ k) r.0,
        (ap and_sides b, r.1),
      )

-- ---- The kept nodes.
abbrev pub others_of : {Val : Type 0} → List (Conjunct Val) → List ℕ
others_of [] = []
others_of (Bounds c l ∷ xs) = others_of xs
others_of (Normalized c l ∷ xs) = others_of xs
others_of (Equality a b n ∷ xs) = others_of xs
others_of (Recorded z n c l ∷ xs) = n ∷ others_of xs
others_of (NonNullPair n a b ∷ xs) = n ∷ others_of xs
others_of (Opaque n ∷ xs) = n ∷ others_of xs

module _ {K Val : Type 0} (S : Scalars K Val) where
  others-read : (l : List (Conjunct Val)) (s : Collected Val) → (collect_all S l s).opaque ≡ s.opaque ++ others_of l
  others-read [] s = sym (append-nil s.opaque)
  others-read (Bounds c l ∷ xs) s = others-read xs (collect_one S (Bounds c l) s)
  others-read (Normalized c l ∷ xs) s = others-read xs (collect_one S (Normalized c l) s)
  others-read (Equality a b n ∷ xs) s = others-read xs (collect_one S (Equality a b n) s)
  others-read (Recorded z n c l ∷ xs) s = others-read xs (collect_one S (Recorded z n c l) s)
      ∙ append_assoc s.opaque (n ∷ []) (others_of xs)
  others-read (NonNullPair n a b ∷ xs) s = others-read xs (collect_one S (NonNullPair n a b) s)
      ∙ append_assoc s.opaque (n ∷ []) (others_of xs)
  others-read (Opaque n ∷ xs) s = others-read xs (collect_one S (Opaque n) s)
      ∙ append_assoc s.opaque (n ∷ []) (others_of xs)

  module _ (R : ℕ → AExpr Val) (names : (n : ℕ) → Names n (classify R n)) where
    -- read again they are the conjuncts that they were, and none is an And
    abbrev pub Back : List ℕ → List (Conjunct Val) → Type 0
    Back ns xs = (map (classify R) ns ≡ xs) × Ones R ns

    back-cons : (n m : ℕ) (x : Conjunct Val) (ns : List ℕ) (xs : List (Conjunct Val)) → classify R n ≡ x → m ≡ n →
        and_sides (R n) ≡ none → Back ns xs → Back (m ∷ ns) (x ∷ xs)
    back-cons n m x ns xs e p o h = (
      ap (λ k. k ∷ map (classify R) ns) (ap (classify R) p ∙ e) ∙ ap (λ k. x ∷ k) h.0,
      (ap (λ k. and_sides (R k)) p ∙ o, h.1),
    )

    others-back : (ms : List ℕ) → Ones R ms →
        Back (others_of (map (classify R) ms)) (kept_others (map (classify R) ms))
    others-back [] o = (refl, tt)
    others-back (n ∷ ms) o = go (classify R n) refl (names n) (others-back ms o.1)
      where
        xs : List (Conjunct Val)
        xs = map (classify R) ms

        go : (x : Conjunct Val) → classify R n ≡ x → Names n x → Back (others_of xs) (kept_others xs) →
            Back (others_of (x ∷ xs)) (kept_others (x ∷ xs))
        go (Bounds c l) e p h = h
        go (Normalized c l) e p h = h
        go (Equality a b m) e p h = h
        go (Recorded z m c l) e p h = back-cons n m (Recorded z m c l) (others_of xs) (kept_others xs) e p o.0 h
        go (NonNullPair m a b) e p h = back-cons n m (NonNullPair m a b) (others_of xs) (kept_others xs) e p o.0 h
        go (Opaque m) e p h = back-cons n m (Opaque m) (others_of xs) (kept_others xs) e p o.0 h

    equals_back : (t : Table Val) (ms : List ℕ) → Ones R ms →
        Back (kept_equalities S t (equalities (map (classify R) ms))) (kept_equals S t (map (classify R) ms))
    equals_back t [] o = (refl, tt)
    equals_back t (n ∷ ms) o = go (classify R n) refl (names n) (equals_back t ms o.1)
      where
        xs : List (Conjunct Val)
        xs = map (classify R) ms

        go : (x : Conjunct Val) → classify R n ≡ x → Names n x →
            Back (kept_equalities S t (equalities xs)) (kept_equals S t xs) →
            Back (kept_equalities S t (equalities (x ∷ xs))) (kept_equals S t (x ∷ xs))
        go (Bounds c l) e p h = h
        go (Normalized c l) e p h = h
        go (Equality a b m) e p h = by (is_fixed (fixed_value S (t a)))
          where
            by : (f : Bool) → Back (cond f (kept_equalities S t (equalities xs)) (m ∷ kept_equalities S t (equalities xs)))
                (cond f (kept_equals S t xs) (Equality a b m ∷ kept_equals S t xs))
            by true = h
            by false = back-cons n m (Equality a b m) (kept_equalities S t (equalities xs)) (kept_equals S t xs) e p
                o.0 h
        go (Recorded z m c l) e p h = h
        go (NonNullPair m a b) e p h = h
        go (Opaque m) e p h = h

    map-append : {A B : Type 0} (f : A → B) (l m : List A) → map f (l ++ m) ≡ map f l ++ map f m
    map-append f [] m = refl
    map-append f (x ∷ l) m = ap (λ k. f x ∷ k) (map-append f l m)

    back-append : (ns ms : List ℕ) (xs ys : List (Conjunct Val)) → Back ns xs → Back ms ys → Back (ns ++ ms) (xs ++ ys)
    back-append ns ms xs ys h k = (
      map-append (classify R) ns ms ∙ ap (λ l. l ++ map (classify R) ms) h.0 ∙ ap (λ l. xs ++ l) k.0,
      ones-append R ns ms h.1 k.1,
    )

    -- the nodes of the rebuilt chain
    pub kept_back : (ms : List ℕ) → Ones R ms → (l : List (Conjunct Val)) → map (classify R) ms ≡ l →
        (collect S l begin).unsat ≡ false →
        Back ((collect S l begin).opaque ++ kept_equalities S (propagated S (collect S l begin))
        (collect S l begin).edges) (kept_conjuncts S l)
    kept_back ms o l e u =
        let t = propagated S (collect S l begin) in
        let c = collect-all S l begin u in
        let a : (collect S l begin).opaque ≡ others_of l = ap (λ s. s.opaque) c ∙ others-read l begin in
        let b : (collect S l begin).edges ≡ equalities l = ap (λ s. s.edges) c ∙ edges-read S l begin in
        subst (λ k. Back (k ++ kept_equalities S t (collect S l begin).edges) (kept_conjuncts S l)) (sym a)
        (subst (λ k. Back (others_of l ++ kept_equalities S t k) (kept_conjuncts S l)) (sym b)
        (back-append (others_of l) (kept_equalities S t (equalities l)) (kept_others l) (kept_equals S t l)
        (subst (λ k. Back (others_of k) (kept_others k)) e (others-back ms o))
        (subst (λ k. Back (kept_equalities S t (equalities k)) (kept_equals S t k)) e (equals_back t ms o))))

    -- ---- the whole chain
    same-ones : (Q : ℕ → AExpr Val) (u : ℕ) → Agrees Q u R → WF R → (ns : List ℕ) → Below u ns → Ones R ns →
        (map (classify Q) ns ≡ map (classify R) ns) × Ones Q ns
    same-ones Q u g w [] b o = (refl, tt)
    same-ones Q u g w (n ∷ ns) b o =
        let r = same-ones Q u g w ns b.1 o.1 in (
          ap (λ k. k ∷ map (classify Q) ns) (classify-same R Q u g n b.0 w) ∙ ap (λ k. classify R n ∷ k) r.0,
          (ap and_sides (g n b.0) ∙ o.0, r.1),
        )

    pub chain-read : (u : ℕ) (ns : List ℕ) (cs : List (ℕ × ColumnComparison Val)) (xs : List (Conjunct Val)) → WF R →
        WF (rebuild R u ns cs).records → Below u ns → is_empty (ns ++ comparison_nodes u cs) ≡ false → Back ns xs →
        read_conjuncts (rebuild R u ns cs).records (rebuild R u ns cs).root ≡ xs ++ map conjunct_of cs
    chain-read u ns cs xs w w' b f h =
        ap (map (classify Q)) (fold-minterms (ns ++ comparison_nodes u cs) (λ i. add_comparisons u cs R i)
        (comparisons_end u cs) w' (ones-append Q ns (comparison_nodes u cs) k.1 c.1) f)
        ∙ map-append (classify Q) ns (comparison_nodes u cs)
        ∙ ap (λ l. l ++ map (classify Q) (comparison_nodes u cs)) (k.0 ∙ h.0)
        ∙ ap (λ l. xs ++ l) c.0
      where
        Q : ℕ → AExpr Val
        Q = (rebuild R u ns cs).records

        old : Agrees Q (comparisons_end u cs) (add_comparisons u cs R)
        old a p = fold-old (ns ++ comparison_nodes u cs) (λ i. add_comparisons u cs R i) (comparisons_end u cs) a p

        older : Agrees Q u R
        older a p = old a (omega (arith, p, comparisons-up cs u)) ∙ comparisons-old cs R u a p

        c : (map (classify Q) (comparison_nodes u cs) ≡ map conjunct_of cs) × Ones Q (comparison_nodes u cs)
        c = written_read cs R Q u old

        k : (map (classify Q) ns ≡ map (classify R) ns) × Ones Q ns
        k = same-ones Q u older w ns b h.1

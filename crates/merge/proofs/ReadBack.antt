-- The conjuncts that are read of a rebuilt chain, and the table that is collected from them.
use mathlib.Core.Path.{◌≡◌, refl, sym, ◌∙◌, ap, subst}
use mathlib.Core.Bool.{Bool, true, false, ◌||◌, true≢false, cond}
use mathlib.Core.List.{List, [], ◌∷◌, ◌++◌, append_assoc, append-nil, map}
use mathlib.Core.Option.{Option, none}
use mathlib.Core.Logic.{◌⊎◌, inl, inr}
use Prim.Native.Nat.{ℕ, ◌+◌, ◌≤◌}
use native.Mathlib.Omega.{arith}
use lib.Dec.{eqb}
use lib.ListN.{length}
use Rattle.constraints.proofs.Columns.{obeys_recorded_all}
use Rattle.constraints.specs.Column.{Allow, ColumnConstraints, Constraint, Disallow, Exclude, Lower, Require, Upper}
use Rattle.constraints.specs.Column.{add, add_all, put}
use Rattle.constraints.specs.Comparisons.{ColumnComparison, collect_column_comparisons}
use Rattle.constraints.specs.Resolve.{fixed_value}
use Rattle.constraints.specs.Scalars.{Scalars}
use Rattle.constraints.specs.declared.column.Nullability.TheVariants.{NonNull}
use Rattle.merge.specs.Classify.{Bounds, Normalized, Conjunct, Equality, NonNullPair, Opaque, Recorded}
use Rattle.merge.specs.Collect.{Collected, Table, add_to, begin, collect, collect_one, enter, is_in}
use Rattle.merge.specs.Collect.{require_non_null}
use Rattle.merge.specs.Emit.{comparisons, is_fixed, of_column, propagated}
use Rattle.merge.specs.Passes.{equalities}
use Rattle.merge.proofs.Forms.{OnlyRecorded}
use Rattle.merge.proofs.Passes.{In, eqb-path, eqb-self}
use Rattle.merge.proofs.Sound.{collect-going, collect_one-grows, enter-in, upd_ind}
use Rattle.merge.proofs.Reread.{Bare, conjunct_of, told, told_all}

-- ---- The conjuncts of a rebuilt chain.
-- The kept conjuncts that are no equality.
abbrev pub kept_others : {Val : Type 0} → List (Conjunct Val) → List (Conjunct Val)
kept_others [] = []
kept_others (Bounds c l ∷ xs) = kept_others xs
kept_others (Normalized c l ∷ xs) = kept_others xs
kept_others (Equality a b n ∷ xs) = kept_others xs
kept_others (Recorded z n c l ∷ xs) = Recorded z n c l ∷ kept_others xs
kept_others (NonNullPair n a b ∷ xs) = NonNullPair n a b ∷ kept_others xs
kept_others (Opaque n ∷ xs) = Opaque n ∷ kept_others xs

module _ {K Val : Type 0} (S : Scalars K Val) where
  -- The equalities whose left column is not fixed.
  abbrev pub kept_equals : Table Val → List (Conjunct Val) → List (Conjunct Val)
  kept_equals t [] = []
  kept_equals t (Bounds c l ∷ xs) = kept_equals t xs
  kept_equals t (Normalized c l ∷ xs) = kept_equals t xs
  kept_equals t (Equality a b n ∷ xs) =
      cond (is_fixed (fixed_value S (t a))) (kept_equals t xs) (Equality a b n ∷ kept_equals t xs)
  kept_equals t (Recorded z n c l ∷ xs) = kept_equals t xs
  kept_equals t (NonNullPair n a b ∷ xs) = kept_equals t xs
  kept_equals t (Opaque n ∷ xs) = kept_equals t xs

  -- The kept nodes read as before, then each written comparison.
  abbrev pub kept_conjuncts : List (Conjunct Val) → List (Conjunct Val)
  kept_conjuncts l = kept_others l ++ kept_equals (propagated S (collect S l begin)) l

  abbrev pub read_back : List (Conjunct Val) → List (ℕ × ColumnComparison Val) → List (Conjunct Val)
  read_back l cs = kept_conjuncts l ++ map conjunct_of cs

  -- ---- What the readers make: a kept conjunct tells no bound, and a bound nothing that is only kept in mind.
  abbrev pub AllMinded : List (Constraint Val) → Type 0
  AllMinded [] = Unit {0}
  AllMinded (a ∷ l) = OnlyRecorded a × AllMinded l

  abbrev pub AsRead : Conjunct Val → Type 0
  AsRead (Bounds c l) = (x : Option K) → obeys_recorded_all S l x ≡ true
  AsRead (Normalized c l) = (x : Option K) → obeys_recorded_all S l x ≡ true
  AsRead (Equality a b n) = Unit {0}
  AsRead (Recorded z n c l) = AllMinded l
  AsRead (NonNullPair n a b) = Unit {0}
  AsRead (Opaque n) = Unit {0}

  abbrev pub IsKept : Conjunct Val → Type 0
  IsKept (Bounds c l) = ⊥
  IsKept (Normalized c l) = ⊥
  IsKept (Equality a b n) = Unit {0}
  IsKept (Recorded z n c l) = AllMinded l
  IsKept (NonNullPair n a b) = Unit {0}
  IsKept (Opaque n) = Unit {0}

  abbrev pub Each : (Conjunct Val → Type 0) → List (Conjunct Val) → Type 0
  Each P [] = Unit {0}
  Each P (x ∷ l) = P x × Each P l

  pub each_append : (P : Conjunct Val → Type 0) (l m : List (Conjunct Val)) → Each P l → Each P m → Each P (l ++ m)
  each_append P [] m h k = k
  each_append P (x ∷ l) m h k = (h.0, each_append P l m h.1 k)

  pub each-others : (P : Conjunct Val → Type 0) (l : List (Conjunct Val)) → Each P l → Each P (kept_others l)
  each-others P [] h = tt
  each-others P (Bounds c l ∷ xs) h = each-others P xs h.1
  each-others P (Normalized c l ∷ xs) h = each-others P xs h.1
  each-others P (Equality a b n ∷ xs) h = each-others P xs h.1
  each-others P (Recorded z n c l ∷ xs) h = (h.0, each-others P xs h.1)
  each-others P (NonNullPair n a b ∷ xs) h = (h.0, each-others P xs h.1)
  each-others P (Opaque n ∷ xs) h = (h.0, each-others P xs h.1)

  pub each-equals : (P : Conjunct Val → Type 0) (t : Table Val) (l : List (Conjunct Val)) → Each P l →
      Each P (kept_equals t l)
  each-equals P t [] h = tt
  each-equals P t (Bounds c l ∷ xs) h = each-equals P t xs h.1
  each-equals P t (Normalized c l ∷ xs) h = each-equals P t xs h.1
  each-equals P t (Equality a b n ∷ xs) h = go (is_fixed (fixed_value S (t a))) (each-equals P t xs h.1)
    where
      go : (o : Bool) → Each P (kept_equals t xs) →
          Each P (cond o (kept_equals t xs) (Equality a b n ∷ kept_equals t xs))
      go true r = r
      go false r = (h.0, r)
  each-equals P t (Recorded z n c l ∷ xs) h = each-equals P t xs h.1
  each-equals P t (NonNullPair n a b ∷ xs) h = each-equals P t xs h.1
  each-equals P t (Opaque n ∷ xs) h = each-equals P t xs h.1

  pub each-kept : (P : Conjunct Val → Type 0) (l : List (Conjunct Val)) → Each P l → Each P (kept_conjuncts l)
  each-kept P l h = each_append P (kept_others l) (kept_equals (propagated S (collect S l begin)) l) (each-others P l h)
      (each-equals P (propagated S (collect S l begin)) l h)

  pub others-kept : (l : List (Conjunct Val)) → Each AsRead l → Each IsKept (kept_others l)
  others-kept [] h = tt
  others-kept (Bounds c l ∷ xs) h = others-kept xs h.1
  others-kept (Normalized c l ∷ xs) h = others-kept xs h.1
  others-kept (Equality a b n ∷ xs) h = others-kept xs h.1
  others-kept (Recorded z n c l ∷ xs) h = (h.0, others-kept xs h.1)
  others-kept (NonNullPair n a b ∷ xs) h = (tt, others-kept xs h.1)
  others-kept (Opaque n ∷ xs) h = (tt, others-kept xs h.1)

  pub equals_kept : (t : Table Val) (l : List (Conjunct Val)) → Each IsKept (kept_equals t l)
  equals_kept t [] = tt
  equals_kept t (Bounds c l ∷ xs) = equals_kept t xs
  equals_kept t (Normalized c l ∷ xs) = equals_kept t xs
  equals_kept t (Equality a b n ∷ xs) = go (is_fixed (fixed_value S (t a))) (equals_kept t xs)
    where
      go : (o : Bool) → Each IsKept (kept_equals t xs) →
          Each IsKept (cond o (kept_equals t xs) (Equality a b n ∷ kept_equals t xs))
      go true r = r
      go false r = (tt, r)
  equals_kept t (Recorded z n c l ∷ xs) = equals_kept t xs
  equals_kept t (NonNullPair n a b ∷ xs) = equals_kept t xs
  equals_kept t (Opaque n ∷ xs) = equals_kept t xs

  -- ---- Collecting that does not stop.
  abbrev pub collect_all : List (Conjunct Val) → Collected Val → Collected Val
  collect_all [] s = s
  collect_all (x ∷ l) s = collect_all l (collect_one S x s)

  pub collect-all : (l : List (Conjunct Val)) (s : Collected Val) → (collect S l s).unsat ≡ false →
      collect S l s ≡ collect_all l s
  collect-all [] s h = refl
  collect-all (x ∷ l) s h = go s.unsat (collect-going S (λ c. none) (λ n. true) (x ∷ l) s h) h
      (collect-all l (collect_one S x s))
    where
      go : (b : Bool) → b ≡ false → (collect S l (cond b s (collect_one S x s))).unsat ≡ false →
          ((collect S l (collect_one S x s)).unsat ≡ false → collect S l (collect_one S x s)
          ≡ collect_all l (collect_one S x s)) →
          collect S l (cond b s (collect_one S x s)) ≡ collect_all l (collect_one S x s)
      go true e h ih = absurd (true≢false e)
      go false e h ih = ih h

  pub collect_all_append : (l m : List (Conjunct Val)) (s : Collected Val) →
      collect_all (l ++ m) s ≡ collect_all m (collect_all l s)
  collect_all_append [] m s = refl
  collect_all_append (x ∷ l) m s = collect_all_append l m (collect_one S x s)

  -- ---- Kept conjuncts leave the columns bare, and count for no bound.
  minded_bare : (a : Constraint Val) (q : ColumnConstraints Val) → OnlyRecorded a → Bare q → Bare (add S a q)
  minded_bare a q m h = go q.unsat a m
    where
      go : (b : Bool) (a : Constraint Val) → OnlyRecorded a → Bare (cond b q (put S a q))
      go true a m = h
      go false (Lower c v) m = absurd m
      go false (Upper c v) m = absurd m
      go false (Exclude v) m = absurd m
      go false (Allow l) m = h
      go false (Disallow c l) m = h
      go false (Require n) m = h

  all_minded_bare : (l : List (Constraint Val)) (q : ColumnConstraints Val) → AllMinded l → Bare q → Bare (add_all S l q)
  all_minded_bare [] q m h = h
  all_minded_bare (a ∷ l) q m h = all_minded_bare l (add S a q) m.1 (minded_bare a q m.0 h)

  abbrev pub AllBare : Table Val → Type 0
  AllBare t = (c : ℕ) → Bare (t c)

  add_to-bare : (c : ℕ) (l : List (Constraint Val)) (t : Table Val) → AllMinded l → AllBare t → AllBare (add_to S c l t)
  add_to-bare c l t m h = upd_ind S (λ d q. Bare q) t c (add_all S l (t c)) h (all_minded_bare l (t c) m (h c))

  required_bare : (a b : ℕ) (t : Table Val) → AllBare t → AllBare (require_non_null S b (require_non_null S a t))
  required_bare a b t h = add_to-bare b (Require NonNull ∷ []) (require_non_null S a t) (tt, tt)
      (add_to-bare a (Require NonNull ∷ []) t (tt, tt) h)

  collect_one-bare : (x : Conjunct Val) (s : Collected Val) → IsKept x → AllBare s.constraints →
      AllBare (collect_one S x s).constraints
  collect_one-bare (Bounds c l) s k h = absurd k
  collect_one-bare (Normalized c l) s k h = absurd k
  collect_one-bare (Equality a b n) s k h = required_bare a b s.constraints h
  collect_one-bare (Recorded z n c l) s k h = add_to-bare c l s.constraints k h
  collect_one-bare (NonNullPair n a b) s k h = required_bare a b s.constraints h
  collect_one-bare (Opaque n) s k h = h

  pub kept-bare : (l : List (Conjunct Val)) (s : Collected Val) → Each IsKept l → AllBare s.constraints →
      AllBare (collect_all l s).constraints
  kept-bare [] s k h = h
  kept-bare (x ∷ l) s k h = kept-bare l (collect_one S x s) k.1 (collect_one-bare x s k.0 h)

  collect_one-count : (x : Conjunct Val) (s : Collected Val) → IsKept x →
      (collect_one S x s).bound_conjuncts ≡ s.bound_conjuncts
  collect_one-count (Bounds c l) s k = absurd k
  collect_one-count (Normalized c l) s k = absurd k
  collect_one-count (Equality a b n) s k = refl
  collect_one-count (Recorded z n c l) s k = refl
  collect_one-count (NonNullPair n a b) s k = refl
  collect_one-count (Opaque n) s k = refl

  pub kept-count : (l : List (Conjunct Val)) (s : Collected Val) → Each IsKept l →
      (collect_all l s).bound_conjuncts ≡ s.bound_conjuncts
  kept-count [] s k = refl
  kept-count (x ∷ l) s k = kept-count l (collect_one S x s) k.1 ∙ collect_one-count x s k.0

  -- Nor do they force a rebuild.
  collect_one-unforced : (x : Conjunct Val) (s : Collected Val) → IsKept x →
      (collect_one S x s).normalized ≡ s.normalized
  collect_one-unforced (Bounds c l) s k = absurd k
  collect_one-unforced (Normalized c l) s k = absurd k
  collect_one-unforced (Equality a b n) s k = refl
  collect_one-unforced (Recorded z n c l) s k = refl
  collect_one-unforced (NonNullPair n a b) s k = refl
  collect_one-unforced (Opaque n) s k = refl

  pub kept-unforced : (l : List (Conjunct Val)) (s : Collected Val) → Each IsKept l →
      (collect_all l s).normalized ≡ s.normalized
  kept-unforced [] s k = refl
  kept-unforced (x ∷ l) s k = kept-unforced l (collect_one S x s) k.1 ∙ collect_one-unforced x s k.0

  -- ---- The equalities read.
  pub edges-read : (l : List (Conjunct Val)) (s : Collected Val) → (collect_all l s).edges ≡ s.edges ++ equalities l
  edges-read [] s = sym (append-nil s.edges)
  edges-read (Bounds c l ∷ xs) s = edges-read xs (collect_one S (Bounds c l) s)
  edges-read (Normalized c l ∷ xs) s = edges-read xs (collect_one S (Normalized c l) s)
  edges-read (Equality a b n ∷ xs) s = edges-read xs (collect_one S (Equality a b n) s)
      ∙ append_assoc s.edges ((a, b, n) ∷ []) (equalities xs)
  edges-read (Recorded z n c l ∷ xs) s = edges-read xs (collect_one S (Recorded z n c l) s)
  edges-read (NonNullPair n a b ∷ xs) s = edges-read xs (collect_one S (NonNullPair n a b) s)
  edges-read (Opaque n ∷ xs) s = edges-read xs (collect_one S (Opaque n) s)

  pub edges-append : (l m : List (Conjunct Val)) → equalities (l ++ m) ≡ equalities l ++ equalities m
  edges-append [] m = refl
  edges-append (Bounds c l ∷ xs) m = edges-append xs m
  edges-append (Normalized c l ∷ xs) m = edges-append xs m
  edges-append (Equality a b n ∷ xs) m = ap (λ e. (a, b, n) ∷ e) (edges-append xs m)
  edges-append (Recorded z n c l ∷ xs) m = edges-append xs m
  edges-append (NonNullPair n a b ∷ xs) m = edges-append xs m
  edges-append (Opaque n ∷ xs) m = edges-append xs m

  others-edges : (l : List (Conjunct Val)) → equalities (kept_others l) ≡ []
  others-edges [] = refl
  others-edges (Bounds c l ∷ xs) = others-edges xs
  others-edges (Normalized c l ∷ xs) = others-edges xs
  others-edges (Equality a b n ∷ xs) = others-edges xs
  others-edges (Recorded z n c l ∷ xs) = others-edges xs
  others-edges (NonNullPair n a b ∷ xs) = others-edges xs
  others-edges (Opaque n ∷ xs) = others-edges xs

  written-edges : (cs : List (ℕ × ColumnComparison Val)) → equalities (map conjunct_of cs) ≡ []
  written-edges [] = refl
  written-edges (x ∷ cs) = written-edges cs

  pub read_back_edges : (l : List (Conjunct Val)) (cs : List (ℕ × ColumnComparison Val)) →
      equalities (read_back l cs) ≡ equalities (kept_equals (propagated S (collect S l begin)) l)
  read_back_edges l cs =
      let t = propagated S (collect S l begin) in
      edges-append (kept_conjuncts l) (map conjunct_of cs)
      ∙ ap (λ e. equalities (kept_conjuncts l) ++ e) (written-edges cs)
      ∙ append-nil (equalities (kept_conjuncts l))
      ∙ edges-append (kept_others l) (kept_equals t l)
      ∙ ap (λ e. e ++ equalities (kept_equals t l)) (others-edges l)

  -- ---- The comparisons read.
  pub read_count : (cs : List (ℕ × ColumnComparison Val)) (s : Collected Val) →
      (collect_all (map conjunct_of cs) s).bound_conjuncts ≡ length cs + s.bound_conjuncts
  read_count [] s = omega arith
  read_count (x ∷ cs) s = read_count cs (collect_one S (conjunct_of x) s) ∙ omega arith

  pub read_unforced : (cs : List (ℕ × ColumnComparison Val)) (s : Collected Val) →
      (collect_all (map conjunct_of cs) s).normalized ≡ s.normalized
  read_unforced [] s = refl
  read_unforced (x ∷ cs) s = read_unforced cs (collect_one S (conjunct_of x) s)

  pub order-grows : (l : List (Conjunct Val)) (s : Collected Val) (c : ℕ) → In S c s.order →
      In S c (collect_all l s).order
  order-grows [] s c i = i
  order-grows (x ∷ l) s c i = order-grows l (collect_one S x s) c
      ((collect_one-grows S (λ c. none) (λ n. true) x s).ord c i)

  -- a column with a comparison enters
  abbrev pub Written : ℕ → List (ℕ × ColumnComparison Val) → Type 0
  Written c [] = ⊥
  Written c (x ∷ cs) = (c ≡ x.0) ⊎ Written c cs

  pub read_enters : (cs : List (ℕ × ColumnComparison Val)) (s : Collected Val) (c : ℕ) → Written c cs →
      In S c (collect_all (map conjunct_of cs) s).order
  read_enters [] s c w = absurd w
  read_enters (x ∷ cs) s c (inl e) = order-grows (map conjunct_of cs) (collect_one S (conjunct_of x) s) c
      (subst (λ d. In S d (enter x.0 s.order)) (sym e) (enter-in S x.0 s.order))
  read_enters (x ∷ cs) s c (inr w) = read_enters cs (collect_one S (conjunct_of x) s) c w

  written-left : (c : ℕ) (l m : List (ℕ × ColumnComparison Val)) → Written c l → Written c (l ++ m)
  written-left c [] m w = absurd w
  written-left c (x ∷ l) m (inl e) = inl e
  written-left c (x ∷ l) m (inr w) = inr (written-left c l m w)

  written-right : (c : ℕ) (l m : List (ℕ × ColumnComparison Val)) → Written c m → Written c (l ++ m)
  written-right c [] m w = w
  written-right c (x ∷ l) m w = inr (written-right c l m w)

  column-written : (c : ℕ) (l : List (ColumnComparison Val)) → 1 ≤ length l → Written c (of_column c l)
  column-written c [] h = absurd (omega arith)
  column-written c (x ∷ l) h = inl refl

  pub comparison_written : (o : List ℕ) (t : Table Val) (c : ℕ) → In S c o →
      1 ≤ length (collect_column_comparisons S (t c)) → Written c (comparisons S o t)
  comparison_written [] t c i h = absurd i
  comparison_written (d ∷ o) t c (inl e) h = written-left c (of_column d (collect_column_comparisons S (t d)))
      (comparisons S o t) (subst (λ y. Written c (of_column y (collect_column_comparisons S (t y)))) e
      (column-written c (collect_column_comparisons S (t c)) h))
  comparison_written (d ∷ o) t c (inr i) h = written-right c (of_column d (collect_column_comparisons S (t d)))
      (comparisons S o t) (comparison_written o t c i h)

  -- ---- Every column is told all its comparisons, once.
  abbrev pub Once : List ℕ → Type 0
  Once [] = Unit {0}
  Once (c ∷ l) = (is_in c l ≡ false) × Once l

  abbrev pub told_if : Bool → List (Constraint Val) → ColumnConstraints Val → ColumnConstraints Val
  told_if b l q = cond b (add_all S l q) q

  add_all-append : (l m : List (Constraint Val)) (q : ColumnConstraints Val) →
      add_all S (l ++ m) q ≡ add_all S m (add_all S l q)
  add_all-append [] m q = refl
  add_all-append (a ∷ l) m q = add_all-append l m (add S a q)

  column-read : (d : ℕ) (l : List (ColumnComparison Val)) (s : Collected Val) (c : ℕ) →
      (collect_all (map conjunct_of (of_column d l)) s).constraints c ≡ told_if (eqb d c) (told_all l) (s.constraints c)
  column-read d [] s c = go (eqb d c)
    where
      go : (b : Bool) → s.constraints c ≡ told_if b [] (s.constraints c)
      go true = refl
      go false = refl
  column-read d (x ∷ l) s c = column-read d l (collect_one S (conjunct_of (d, x)) s) c ∙ go (eqb d c) refl
    where
      go : (b : Bool) → eqb d c ≡ b → told_if b (told_all l) (cond b (add_all S (told x) (s.constraints d))
          (s.constraints c)) ≡ told_if b (told_all (x ∷ l)) (s.constraints c)
      go true e = ap (λ y. add_all S (told_all l) (add_all S (told x) (s.constraints y))) (eqb-path d c e)
          ∙ sym (add_all-append (told x) (told_all l) (s.constraints c))
      go false e = refl

  pub eqb-flip : (c d : ℕ) → eqb c d ≡ eqb d c
  eqb-flip c d = go (eqb c d) refl (eqb d c) refl
    where
      go : (x : Bool) → eqb c d ≡ x → (y : Bool) → eqb d c ≡ y → x ≡ y
      go true e true f = refl
      go true e false f = sym (eqb-self d) ∙ ap (eqb d) (sym (eqb-path c d e)) ∙ f
      go false e true f = sym e ∙ ap (eqb c) (eqb-path d c f) ∙ eqb-self c
      go false e false f = refl

  map-append : (l m : List (ℕ × ColumnComparison Val)) → map conjunct_of (l ++ m) ≡ map conjunct_of l ++ map conjunct_of m
  map-append [] m = refl
  map-append (x ∷ l) m = ap (λ k. conjunct_of x ∷ k) (map-append l m)

  pub read_table : (o : List ℕ) (t : Table Val) (s : Collected Val) (c : ℕ) → Once o →
      (collect_all (map conjunct_of (comparisons S o t)) s).constraints c
      ≡ told_if (is_in c o) (told_all (collect_column_comparisons S (t c))) (s.constraints c)
  read_table [] t s c n = refl
  read_table (d ∷ o) t s c n =
      ap (λ l. (collect_all l s).constraints c) (map-append (of_column d (collect_column_comparisons S (t d)))
      (comparisons S o t))
      ∙ ap (λ f. f.constraints c) (collect_all_append (map conjunct_of (of_column d (collect_column_comparisons S (t d))))
      (map conjunct_of (comparisons S o t)) s)
      ∙ read_table o t s1 c n.1
      ∙ ap (told_if (is_in c o) (told_all (collect_column_comparisons S (t c))))
      (column-read d (collect_column_comparisons S (t d)) s c ∙ ap (λ b. told_if b (told_all
      (collect_column_comparisons S (t d))) (s.constraints c)) (eqb-flip d c))
      ∙ go (eqb c d) refl
    where
      s1 : Collected Val
      s1 = collect_all (map conjunct_of (of_column d (collect_column_comparisons S (t d)))) s

      go : (b : Bool) → eqb c d ≡ b →
          told_if (is_in c o) (told_all (collect_column_comparisons S (t c)))
          (told_if b (told_all (collect_column_comparisons S (t d))) (s.constraints c))
          ≡ told_if (b || is_in c o) (told_all (collect_column_comparisons S (t c))) (s.constraints c)
      go true e =
          let p = eqb-path c d e in
          ap (λ b. told_if b (told_all (collect_column_comparisons S (t c)))
          (add_all S (told_all (collect_column_comparisons S (t d))) (s.constraints c))) (ap (λ y. is_in y o) p ∙ n.0)
          ∙ ap (λ y. add_all S (told_all (collect_column_comparisons S (t y))) (s.constraints c)) (sym p)
      go false e = refl

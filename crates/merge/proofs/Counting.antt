-- How many comparisons a table gives: a sum over its columns.
use mathlib.Core.Path.{◌≡◌, refl, sym, ◌∙◌, ap}
use mathlib.Core.Bool.{Bool, true, false, ◌||◌, true≢false, cond, or-false, or-true}
use mathlib.Core.List.{List, [], ◌∷◌, ◌++◌}
use Prim.Native.Nat.{ℕ, suc, ◌+◌, ◌≤◌}
use native.Mathlib.Omega.{arith}
use native.Mathlib.Decide.{dec_le}
use lib.Dec.{eqb}
use lib.ListN.{length}
use Rattle.constraints.specs.Comparisons.{ColumnComparison, collect_column_comparisons}
use Rattle.constraints.specs.Scalars.{Scalars}
use Rattle.merge.specs.Classify.{Bounds, Normalized, Conjunct, Equality, NonNullPair, Opaque, Recorded}
use Rattle.merge.specs.Collect.{Collected, Table, collect, collect_one, enter, is_in}
use Rattle.merge.specs.Emit.{comparisons, of_column}
use Rattle.merge.proofs.Passes.{eqb-path, eqb-self}
use Rattle.merge.proofs.ReadBack.{Once, eqb-flip}

abbrev pub total : (ℕ → ℕ) → List ℕ → ℕ
total f [] = 0
total f (c ∷ o) = f c + total f o

-- All but one column.
abbrev without : ℕ → (ℕ → ℕ) → ℕ → ℕ
without c f d = cond (eqb c d) 0 (f d)

without-le : (c : ℕ) (f : ℕ → ℕ) (d : ℕ) → without c f d ≤ f d
without-le c f d = go (eqb c d)
  where
    go : (b : Bool) → cond b 0 (f d) ≤ f d
    go true = omega arith
    go false = omega arith

total-le : (f g : ℕ → ℕ) (o : List ℕ) → ((c : ℕ) → f c ≤ g c) → total f o ≤ total g o
total-le f g [] h = omega arith
total-le f g (c ∷ o) h = let a = h c in let b = total-le f g o h in omega (arith, a, b)

total-without : (c : ℕ) (f : ℕ → ℕ) (o : List ℕ) → is_in c o ≡ true → f c + total (without c f) o ≤ total f o
total-without c f [] h = absurd (true≢false (sym h))
total-without c f (d ∷ o) h = go (eqb c d) refl h (total-without c f o) (total-le (without c f) f o (without-le c f))
  where
    go : (b : Bool) → eqb c d ≡ b → (b || is_in c o) ≡ true → (is_in c o ≡ true → f c + total (without c f) o ≤ total f o)
        → total (without c f) o ≤ total f o → f c + (cond b 0 (f d) + total (without c f) o) ≤ f d + total f o
    go true e h ih l = let p : f c ≡ f d = ap f (eqb-path c d e) in omega (arith, p, l)
    go false e h ih l = let r = ih h in omega (arith, r)

module _ {K Val : Type 0} (S : Scalars K Val) where
  -- a sum over columns, each once, is at most one over columns among which are all that count
  pub total-among : (o o' : List ℕ) (f g : ℕ → ℕ) → Once S o → ((c : ℕ) → is_in c o ≡ true → f c ≤ g c) →
      ((c : ℕ) → is_in c o ≡ true → 1 ≤ f c → is_in c o' ≡ true) → total f o ≤ total g o'
  total-among [] o' f g n h k = omega arith
  total-among (c ∷ o) o' f g n h k = go (is_in c o') refl
      (total-among o o' f g n.1 (λ d i. h d (later d i)) (λ d i. k d (later d i)))
      (total-among o o' f (without c g) n.1 less (λ d i. k d (later d i)))
    where
      later : (d : ℕ) → is_in d o ≡ true → is_in d (c ∷ o) ≡ true
      later d i = ap (λ b. eqb d c || b) i ∙ or-true (eqb d c)

      here : is_in c (c ∷ o) ≡ true
      here = ap (λ b. b || is_in c o) (eqb-self c)

      less : (d : ℕ) → is_in d o ≡ true → f d ≤ without c g d
      less d i = other (eqb c d) refl (h d (later d i))
        where
          other : (b : Bool) → eqb c d ≡ b → f d ≤ g d → f d ≤ cond b 0 (g d)
          other true e l = absurd (true≢false (sym i ∙ ap (λ y. is_in y o) (sym (eqb-path c d e)) ∙ n.0))
          other false e l = l

      go : (b : Bool) → is_in c o' ≡ b → total f o ≤ total g o' → total f o ≤ total (without c g) o' →
          f c + total f o ≤ total g o'
      go true e x y = let a = h c here in let t = total-without c g o' e in omega (arith, a, t, y)
      go false e x y = none (dec_le 1 (f c))
        where
          none : Dec (1 ≤ f c) → f c + total f o ≤ total g o'
          none (yes l) = absurd (true≢false (sym (k c here l) ∙ e))
          none (no l) = omega (arith, x)

  pub length-append : {A : Type 0} (l m : List A) → length (l ++ m) ≡ length l + length m
  length-append [] m = omega arith
  length-append (x ∷ l) m = let e = length-append l m in omega (arith, e)

  length-of_column : (c : ℕ) (l : List (ColumnComparison Val)) → length (of_column c l) ≡ length l
  length-of_column c [] = refl
  length-of_column c (x ∷ l) = ap suc (length-of_column c l)

  abbrev pub written : Table Val → ℕ → ℕ
  written t c = length (collect_column_comparisons S (t c))

  pub comparisons-total : (o : List ℕ) (t : Table Val) → length (comparisons S o t) ≡ total (written t) o
  comparisons-total [] t = refl
  comparisons-total (c ∷ o) t =
      length-append (of_column c (collect_column_comparisons S (t c))) (comparisons S o t)
      ∙ ap (λ n. n + length (comparisons S o t)) (length-of_column c (collect_column_comparisons S (t c)))
      ∙ ap (λ n. written t c + n) (comparisons-total o t)

  -- ---- a column enters once
  is_in-append_one : (c d : ℕ) (l : List ℕ) → is_in c (l ++ (d ∷ [])) ≡ (is_in c l || eqb c d)
  is_in-append_one c d [] = or-false (eqb c d)
  is_in-append_one c d (x ∷ l) = go (eqb c x) (is_in-append_one c d l)
    where
      go : (b : Bool) → is_in c (l ++ (d ∷ [])) ≡ (is_in c l || eqb c d) →
          (b || is_in c (l ++ (d ∷ []))) ≡ ((b || is_in c l) || eqb c d)
      go true e = refl
      go false e = e

  snoc_once : (l : List ℕ) (c : ℕ) → Once S l → is_in c l ≡ false → Once S (l ++ (c ∷ []))
  snoc_once [] c n h = (refl, tt)
  snoc_once (d ∷ l) c n h = go (eqb c d) refl h (snoc_once l c n.1)
    where
      go : (b : Bool) → eqb c d ≡ b → (b || is_in c l) ≡ false → (is_in c l ≡ false → Once S (l ++ (c ∷ []))) →
          (is_in d (l ++ (c ∷ [])) ≡ false) × Once S (l ++ (c ∷ []))
      go true e h ih = absurd (true≢false h)
      go false e h ih = (is_in-append_one d c l ∙ ap (λ b. b || eqb d c) n.0 ∙ eqb-flip S d c ∙ e, ih h)

  enter-once : (c : ℕ) (l : List ℕ) → Once S l → Once S (enter c l)
  enter-once c l n = go (is_in c l) refl
    where
      go : (b : Bool) → is_in c l ≡ b → Once S (cond b l (l ++ (c ∷ [])))
      go true e = n
      go false e = snoc_once l c n e

  collect_one-once : (x : Conjunct Val) (s : Collected Val) → Once S s.order → Once S (collect_one S x s).order
  collect_one-once (Bounds c l) s n = enter-once c s.order n
  collect_one-once (Normalized c l) s n = enter-once c s.order n
  collect_one-once (Equality a b m) s n = enter-once b (enter a s.order) (enter-once a s.order n)
  collect_one-once (Recorded z m c l) s n = enter-once c s.order n
  collect_one-once (NonNullPair m a b) s n = enter-once b (enter a s.order) (enter-once a s.order n)
  collect_one-once (Opaque m) s n = n

  pub collect-once : (l : List (Conjunct Val)) (s : Collected Val) → Once S s.order → Once S (collect S l s).order
  collect-once [] s n = n
  collect-once (x ∷ l) s n = collect-once l (cond s.unsat s (collect_one S x s)) (go s.unsat)
    where
      go : (b : Bool) → Once S (cond b s (collect_one S x s)).order
      go true = n
      go false = collect_one-once x s n

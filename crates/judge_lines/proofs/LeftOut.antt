-- A line with record 0 in its place is a line left out.
use mathlib.Core.Path.{◌≡◌, refl, sym, ◌∙◌, ap, subst}
use mathlib.Core.Bool.{Bool, true, false, not, cond}
use mathlib.Core.List.{List, [], ◌∷◌, ◌++◌, map}
use mathlib.Core.Logic.{⊎_elim}
use Prim.Native.Nat.{ℕ, zero, suc, ◌+◌, ◌≤◌, ◌<◌}
use native.Mathlib.Omega.{arith}
use native.Mathlib.Nat.{eq-or-lt_of_le}
use native.Mathlib.Numerals.{add-one}
use lib.Dec.{ltb}
use lib.ListN.{length, get_or, set}
use lib.Seq.{get_or-set_same, get_or-set_other}
use borrow.Author.Tests.{lt-ltb, le-ltb, ltb-true, ltb-false}
use Rattle.truth.specs.AExpr.{AExpr, Column, Literal, Null, BinaryExpr, Not, IsNull, IsNotNull, IsBetween}
use Rattle.truth.specs.AExpr.{ListLiteral, IsIn, Missing, Inputs}
use Rattle.constraints.specs.Payload.{payload}
use Rattle.merge.specs.Classify.{Conjunct, Bounds, Normalized, Equality, Recorded, NonNullPair, Opaque, classify, classify_record}
use Rattle.merge.specs.Collect.{Collected, begin, collect, collect_one}
use Rattle.read_operands.specs.Walk.{first_of}
use Rattle.read_operands.proofs.Walks.{first-kept, first-length}
use Rattle.contradiction.specs.Labels.{dead}
use Rattle.judge_lines.specs.Lines.{without, nothing_passes, first_true}
use Rattle.judge_lines.proofs.Ends.{nothing-dead}

-- ---- Record 0 has no input.
pub opaque-first : (R : ℕ → AExpr ℕ) → Inputs 0 (R 0) → classify R 0 ≡ Opaque 0
opaque-first R i = go (R 0) i
  where
    go : (r : AExpr ℕ) → Inputs 0 r → classify_record R 0 r ≡ Opaque 0
    go (Column c) i = refl
    go (Literal v) i = refl
    go Null i = refl
    go (BinaryExpr op x y) i = absurd (omega (arith, i.0))
    go (Not x) i = absurd (omega (arith, i))
    go (IsNull x) i = absurd (omega (arith, i))
    go (IsNotNull x) i = absurd (omega (arith, i))
    go (IsBetween c d x y z) i = absurd (omega (arith, i.0))
    go (ListLiteral m l) i = refl
    go (IsIn e x y) i = absurd (omega (arith, i.0))
    go Missing i = refl

-- ---- What was collected, the kept nodes aside.
pub record Alike (s u : Collected ℕ) : Type 0 where
  pub constraints : s.constraints ≡ u.constraints
  pub order : s.order ≡ u.order
  pub edges : s.edges ≡ u.edges
  pub unsat : s.unsat ≡ u.unsat

alike-dead : (s u : Collected ℕ) → Alike s u → dead payload s ≡ dead payload u
alike-dead s u h = rw (h.constraints, h.order, h.edges, h.unsat)

alike-one : (x : Conjunct ℕ) (s u : Collected ℕ) → Alike s u → Alike (collect_one payload x s) (collect_one payload x u)
alike-one (Bounds c l) s u h =
    record {
      constraints = rw h.constraints;
      order = rw h.order;
      edges = h.edges;
      unsat = rw h.constraints;
    }
alike-one (Normalized c l) s u h =
    record {
      constraints = rw h.constraints;
      order = rw h.order;
      edges = h.edges;
      unsat = rw h.constraints;
    }
alike-one (Equality a b n) s u h =
    record {
      constraints = rw h.constraints;
      order = rw h.order;
      edges = rw h.edges;
      unsat = refl;
    }
alike-one (Recorded z n c l) s u h =
    record {
      constraints = rw h.constraints;
      order = rw h.order;
      edges = h.edges;
      unsat = rw h.constraints;
    }
alike-one (NonNullPair n a b) s u h =
    record {
      constraints = rw h.constraints;
      order = rw h.order;
      edges = h.edges;
      unsat = refl;
    }
alike-one (Opaque n) s u h =
    record { constraints = h.constraints; order = h.order; edges = h.edges; unsat = refl }

alike-step : (x : Conjunct ℕ) (s u : Collected ℕ) → Alike s u
    → Alike (cond s.unsat s (collect_one payload x s)) (cond u.unsat u (collect_one payload x u))
alike-step x s u h = subst (λ b. Alike (cond s.unsat s (collect_one payload x s)) (cond b u (collect_one payload x u)))
    h.unsat (go s.unsat)
  where
    go : (b : Bool) → Alike (cond b s (collect_one payload x s)) (cond b u (collect_one payload x u))
    go true = h
    go false = alike-one x s u h

alike-collect : (l : List (Conjunct ℕ)) (s u : Collected ℕ) → Alike s u → Alike (collect payload l s) (collect payload l u)
alike-collect [] s u h = h
alike-collect (x ∷ l) s u h =
    alike-collect l (cond s.unsat s (collect_one payload x s)) (cond u.unsat u (collect_one payload x u))
    (alike-step x s u h)

alike_same : (s : Collected ℕ) → Alike s s
alike_same s = record { constraints = refl; order = refl; edges = refl; unsat = refl }

opaque-step : (n : ℕ) (s : Collected ℕ) → Alike (cond s.unsat s (collect_one payload (Opaque n) s)) s
opaque-step n s = go s.unsat refl
  where
    go : (b : Bool) → s.unsat ≡ b → Alike (cond b s (collect_one payload (Opaque n) s)) s
    go true e = alike_same s
    go false e = record { constraints = refl; order = refl; edges = refl; unsat = sym e }

-- ---- The list with 0 at place i.
module _ (R : ℕ → AExpr ℕ) (none : classify R 0 ≡ Opaque 0) where
  replaced_alike : (i : ℕ) (l : List ℕ) → i < length l → (s : Collected ℕ)
      → Alike (collect payload (map (classify R) (set l i 0)) s) (collect payload (map (classify R) (without i l)) s)
  replaced_alike zero [] h s = absurd (omega arith)
  replaced_alike zero (x ∷ l) h s =
      subst (λ k. Alike (collect payload (map (classify R) l) (cond s.unsat s (collect_one payload k s)))
      (collect payload (map (classify R) l) s)) (sym none)
      (alike-collect (map (classify R) l) (cond s.unsat s (collect_one payload (Opaque 0) s)) s (opaque-step 0 s))
  replaced_alike (suc i) [] h s = absurd (omega arith)
  replaced_alike (suc i) (x ∷ l) h s =
      replaced_alike i l (omega arith) (cond s.unsat s (collect_one payload (classify R x) s))

  replaced : (i : ℕ) (l : List ℕ) → i < length l → nothing_passes R (set l i 0) ≡ nothing_passes R (without i l)
  replaced i l h =
      nothing-dead payload (collect payload (map (classify R) (set l i 0)) begin)
      ∙ alike-dead (collect payload (map (classify R) (set l i 0)) begin)
      (collect payload (map (classify R) (without i l)) begin) (replaced_alike i l h begin)
      ∙ sym (nothing-dead payload (collect payload (map (classify R) (without i l)) begin))

set-left : (i v : ℕ) (l m : List ℕ) → i < length l → set (l ++ m) i v ≡ (set l i v ++ m)
set-left i v [] m h = absurd (omega arith)
set-left zero v (x ∷ l) m h = refl
set-left (suc i) v (x ∷ l) m h = ap (λ k. x ∷ k) (set-left i v l m (omega arith))

set_last : (v x : ℕ) (l : List ℕ) → set (l ++ (x ∷ [])) (length l) v ≡ (l ++ (v ∷ []))
set_last v x [] = refl
set_last v x (y ∷ l) = ap (λ k. y ∷ k) (set_last v x l)

-- The first n of the array with v at place i.
first-set : (a : List ℕ) (i v n : ℕ) → i < n → n ≤ length a → first_of (set a i v) n ≡ set (first_of a n) i v
unfolding first_of
first-set a i v zero h k = absurd (omega arith)
first-set a i v (suc n) h k =
    ⊎_elim
    (λ (e : i ≡ n). ap (λ j. first_of (set a j v) n ++ (get_or (set a j v) n 0 ∷ [])) e
    ∙ ap (λ l. l ++ (get_or (set a n v) n 0 ∷ [])) (first-kept a n v n (omega arith))
    ∙ ap (λ x. first_of a n ++ (x ∷ [])) (get_or-set_same a n v 0 (omega arith))
    ∙ sym (set_last v (get_or a n 0) (first_of a n))
    ∙ ap (λ j. set (first_of a n ++ (get_or a n 0 ∷ [])) j v) (first-length a n ∙ sym e))
    (λ (l : i < n). let d : (n ≡ i → ⊥) = λ e. absurd (omega (arith, e)) in
    ap (λ x. first_of (set a i v) n ++ (x ∷ [])) (get_or-set_other a i n v 0 d)
    ∙ ap (λ x. x ++ (get_or a n 0 ∷ [])) (first-set a i v n l (omega arith))
    ∙ sym (set-left i v (first_of a n) (get_or a n 0 ∷ []) (omega (arith, first-length a n, l))))
    (eq-or-lt_of_le (let m : i ≤ n = omega arith in m))

-- What the merging says of the array with 0 at place i.
left_out : (R : ℕ → AExpr ℕ) (nodes : List ℕ) (i n : ℕ) → classify R 0 ≡ Opaque 0 → i < n → n ≤ length nodes
    → nothing_passes R (first_of (set nodes i 0) n) ≡ nothing_passes R (without i (first_of nodes n))
left_out R nodes i n none h k =
    ap (nothing_passes R) (first-set nodes i 0 n h k)
    ∙ replaced R none i (first_of nodes n) (omega (arith, first-length nodes n, h))

-- What is asked of each line is there with 0 at place i.
pub at_set : (Q : ℕ → Conjunct ℕ → Type 0) (R : ℕ → AExpr ℕ) (nodes sent : List ℕ) (i n : ℕ) → nodes ≡ sent
    → classify R 0 ≡ Opaque 0 → ((j : ℕ) → Q j (Opaque 0)) → ((j : ℕ) → j < n → Q j (classify R (get_or sent j 0)))
    → i < length sent → (j : ℕ) → j < n → Q j (classify R (get_or (set nodes i 0) j 0))
at_set Q R nodes sent i n same none q h k j l =
    subst (λ a. Q j (classify R (get_or (set a i 0) j 0))) (sym same) (go (ltb j i) refl (ltb i j) refl)
  where
    kept : (j ≡ i → ⊥) → Q j (classify R (get_or (set sent i 0) j 0))
    kept d = subst (λ x. Q j (classify R x)) (sym (get_or-set_other sent i j 0 0 d)) (h j l)

    go : (b : Bool) → ltb j i ≡ b → (d : Bool) → ltb i j ≡ d → Q j (classify R (get_or (set sent i 0) j 0))
    go true e d f = let m : j < i = ltb-true j i e in kept (λ q. absurd (omega (arith, q)))
    go false e true f = let m : i < j = ltb-true i j f in kept (λ q. absurd (omega (arith, q)))
    go false e false f =
        let z : j ≡ i = omega (arith, ltb-false j i e, ltb-false i j f) in
        subst (Q j) (sym (ap (λ x. classify R (get_or (set sent i 0) x 0)) z
        ∙ ap (classify R) (get_or-set_same sent i 0 0 k) ∙ none)) (q j)

-- What the merging says of the array with 0 at place i, tested by `!b`.
pub line-helps : (R : ℕ → AExpr ℕ) (nodes sent : List ℕ) (i n : ℕ) (b x : Bool) → nodes ≡ sent → classify R 0 ≡ Opaque 0
    → i < n → n ≤ length sent → b ≡ nothing_passes R (first_of (set nodes i 0) n) → not b ≡ x
    → not (nothing_passes R (without i (first_of sent n))) ≡ x
line-helps R nodes sent i n b x same none h k e f =
    ap not (sym (e ∙ ap (λ a. nothing_passes R (first_of (set a i 0) n)) same ∙ left_out R sent i n none h k)) ∙ f

-- The line is put back.
pub set_back : (a : List ℕ) (i v : ℕ) → set (set a i v) i (get_or a i 0) ≡ a
set_back [] i v = refl
set_back (x ∷ a) zero v = refl
set_back (x ∷ a) (suc i) v = ap (λ k. x ∷ k) (set_back a i v)

-- ---- The first number of which f holds.
pub true-none : (f : ℕ → Bool) → first_true f 0 ≡ 0
unfolding first_true
true-none f = refl

pub true-more : (f : ℕ → Bool) (i : ℕ) → first_true f i ≡ i → f i ≡ false → first_true f (i + 1) ≡ i + 1
unfolding first_true
true-more f i h e = rw (add-one, h, le-ltb i i (omega arith), e)

found : (f : ℕ → Bool) (i n : ℕ) → i < n → first_true f i ≡ i → f i ≡ true → first_true f n ≡ i
unfolding first_true
found f i zero l h e = absurd (omega arith)
found f i (suc n) l h e =
    ⊎_elim
    (λ (q : i ≡ n). ap (λ k. cond (ltb (first_true f k) k) (first_true f k) (cond (f k) k (suc k))) (sym q)
    ∙ rw (h, le-ltb i i (omega arith), e))
    (λ (k : i < n). rw (found f i n k h e, lt-ltb i n k))
    (eq-or-lt_of_le (let m : i ≤ n = omega arith in m))

pub true-found : (f : ℕ → Bool) (i n : ℕ) → i < n → first_true f i ≡ i → f i ≡ true → i ≡ first_true f n
true-found f i n l h e = sym (found f i n l h e)

pub true-done : (f : ℕ → Bool) (i n : ℕ) → i ≤ n → n ≤ i → first_true f i ≡ i → n ≡ first_true f n
true-done f i n l g h = let e : i ≡ n = omega arith in subst (λ k. k ≡ first_true f k) e (sym h)

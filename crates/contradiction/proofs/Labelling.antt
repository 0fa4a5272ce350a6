-- The labels of columns, one line more at a time.
use mathlib.Core.Path.{◌≡◌, refl, sym, ◌∙◌, ap, subst}
use mathlib.Core.Bool.{Bool, true, false, cond}
use mathlib.Core.List.{List, [], ◌∷◌, ◌++◌, map, append_assoc, append-nil}
use mathlib.Core.Option.{Option}
use Prim.Native.Nat.{ℕ, zero, suc, ◌+◌, ◌<◌, ◌%◌}
use native.Mathlib.Omega.{arith}
use native.Mathlib.Numerals.{add-one}
use lib.Dec.{eqb}
use lib.IntN.{ℤ}
use lib.ListN.{length, get_or}
use Rattle.truth.specs.AExpr.{AExpr}
use Rattle.constraints.specs.Lined.{Lined, on_line}
use Rattle.merge.specs.Classify.{Conjunct, Bounds, Normalized, Equality, Recorded, NonNullPair, Opaque, classify}
use Rattle.merge.specs.Lines.{map_conjunct, lines_from}
use Rattle.merge.proofs.Passes.{eqb-path, eqb-self}
use Rattle.read_operands.specs.Walk.{first_of}
use Rattle.read_operands.proofs.Walks.{first-length}
use Rattle.reading.specs.Columns.{ColumnsBelow}
use Rattle.contradiction.specs.Labels.{lines_to, renamed, label_at, Joins, OneAt, AllAtOne, Labels}

-- ---- The lines one by one.
classify-snoc : (R : ℕ → AExpr ℕ) (l : List ℕ) (n : ℕ)
    → map (classify R) (l ++ (n ∷ [])) ≡ map (classify R) l ++ (classify R n ∷ [])
classify-snoc R [] n = refl
classify-snoc R (m ∷ l) n = ap (λ x. classify R m ∷ x) (classify-snoc R l n)

lines_snoc : (i : ℕ) (l : List (Conjunct ℕ)) (k : Conjunct ℕ)
    → lines_from i (l ++ (k ∷ [])) ≡ lines_from i l ++ (map_conjunct (on_line (i + length l)) k ∷ [])
unfolding lines_from
lines_snoc i [] k = let e : i ≡ i + 0 = omega arith in ap (λ n. map_conjunct (on_line n) k ∷ []) e
lines_snoc i (j ∷ l) k =
    let e : suc i + length l ≡ i + suc (length l) = omega arith in
    ap (λ x. map_conjunct (on_line i) j ∷ x) (lines_snoc (suc i) l k)
    ∙ ap (λ n. map_conjunct (on_line i) j ∷ (lines_from (suc i) l ++ (map_conjunct (on_line n) k ∷ []))) e

classified_length : (R : ℕ → AExpr ℕ) (nodes : List ℕ) (i : ℕ) → 0 + length (map (classify R) (first_of nodes i)) ≡ i
classified_length R nodes i =
    let e = same (first_of nodes i) in
    let f = first-length nodes i in omega (arith, e, f)
  where
    same : (l : List ℕ) → length (map (classify R) l) ≡ length l
    same [] = refl
    same (n ∷ l) = ap suc (same l)

pub lines_none : (R : ℕ → AExpr ℕ) (nodes : List ℕ) → lines_to R nodes 0 ≡ []
unfolding lines_to first_of lines_from
lines_none R nodes = refl

pub lines_step : (R : ℕ → AExpr ℕ) (nodes : List ℕ) (i : ℕ)
    → lines_to R nodes (suc i) ≡ lines_to R nodes i ++ (map_conjunct (on_line i) (classify R (get_or nodes i 0)) ∷ [])
unfolding lines_to first_of
lines_step R nodes i =
    let l : List (Conjunct ℕ) = map (classify R) (first_of nodes i) in
    let k : Conjunct ℕ = classify R (get_or nodes i 0) in
    ap (lines_from 0) (classify-snoc R (first_of nodes i) (get_or nodes i 0))
    ∙ lines_snoc 0 l k
    ∙ ap (λ n. lines_from 0 l ++ (map_conjunct (on_line n) k ∷ [])) (classified_length R nodes i)

pub lines_more : (R : ℕ → AExpr ℕ) (nodes : List ℕ) (i : ℕ)
    → lines_to R nodes (i + 1) ≡ lines_to R nodes i ++ (map_conjunct (on_line i) (classify R (get_or nodes i 0)) ∷ [])
lines_more R nodes i = ap (lines_to R nodes) (add-one i) ∙ lines_step R nodes i

-- The first i lines are the front of more.
pub lines-front : (R : ℕ → AExpr ℕ) (nodes : List ℕ) (i d : ℕ)
    → (m : List (Conjunct Lined)) × (lines_to R nodes (i + d) ≡ (lines_to R nodes i ++ m))
lines-front R nodes i zero =
    let e : i + 0 ≡ i = omega arith in ([], ap (lines_to R nodes) e ∙ sym (append-nil (lines_to R nodes i)))
lines-front R nodes i (suc d) =
    let e : i + suc d ≡ suc (i + d) = omega arith in
    let r = lines-front R nodes i d in
    let x : List (Conjunct Lined) = map_conjunct (on_line (i + d)) (classify R (get_or nodes (i + d) 0)) ∷ [] in (
      r.0 ++ x,
      ap (lines_to R nodes) e ∙ lines_step R nodes (i + d) ∙ ap (λ l. l ++ x) r.1
          ∙ append_assoc (lines_to R nodes i) r.0 x,
    )

-- ---- What holds of every equality.
module _ {Val A : Type 0} (f : ℕ → A) where
  all_front : (l m : List (Conjunct Val)) → AllAtOne f (l ++ m) → AllAtOne f l
  all_front [] m h = tt
  all_front (x ∷ l) m h = (h.0, all_front l m h.1)

  all_last : (l : List (Conjunct Val)) (x : Conjunct Val) → AllAtOne f (l ++ (x ∷ [])) → OneAt f x
  all_last [] x h = h.0
  all_last (y ∷ l) x h = all_last l x h.1

  all_snoc : (l : List (Conjunct Val)) (x : Conjunct Val) → AllAtOne f l → OneAt f x → AllAtOne f (l ++ (x ∷ []))
  all_snoc [] x h o = (o, tt)
  all_snoc (y ∷ l) x h o = (h.0, all_snoc l x h.1 o)

one-through : {Val A B : Type 0} (f : ℕ → A) (g : ℕ → B) → ((a b : ℕ) → f a ≡ f b → g a ≡ g b)
    → (x : Conjunct Val) → OneAt f x → OneAt g x
one-through f g k (Bounds c l) h = tt
one-through f g k (Normalized c l) h = tt
one-through f g k (Equality a b n) h = k a b h
one-through f g k (Recorded z n c l) h = tt
one-through f g k (NonNullPair n a b) h = tt
one-through f g k (Opaque n) h = tt

all_through : {Val A B : Type 0} (f : ℕ → A) (g : ℕ → B) → ((a b : ℕ) → f a ≡ f b → g a ≡ g b)
    → (l : List (Conjunct Val)) → AllAtOne f l → AllAtOne g l
all_through f g k [] h = tt
all_through f g k (x ∷ l) h = (one-through f g k x h.0, all_through f g k l h.1)

-- ---- Labels.
pub low-place : (c : ℕ) → c < 64 → c % 64 ≡ c
low-place c h = omega (arith, h)

pub place-low : (c : ℕ) → c % 64 < 64
place-low c = omega arith

pub labels_none : (labels : List ℕ) → length labels ≡ 64 → ((c : ℕ) → c < 64 → get_or labels c 0 ≡ c) → Labels [] labels
labels_none labels e h =
    record {
      size = e;
      low = λ c k. subst (λ x. x < 64) (sym (h c k)) k;
      one = tt;
      same = λ row g c k. ap row (h c k);
    }

-- A line that is no equality.
kept : (l : List (Conjunct Lined)) (x : Conjunct Lined) (old new : List ℕ) → OneAt (label_at old) x → new ≡ old → Labels l old
    → Labels (l ++ (x ∷ [])) new
kept l x old new o e L =
    subst (Labels (l ++ (x ∷ []))) (sym e)
    (record {
      size = L.size;
      low = L.low;
      one = all_snoc (label_at old) l x L.one o;
      same = λ row h. L.same row (all_front row l (x ∷ []) h);
    })

module _ (l : List (Conjunct Lined)) (old new : List ℕ) (L : Labels l old) (a b n : ℕ) (ka : a < 64) (kb : b < 64)
    (size : length new ≡ length old)
    (j : (c : ℕ) → c < 64 → get_or new c 0 ≡ renamed (label_at old a) (label_at old b) (get_or old c 0)) where
  at : (c : ℕ) → label_at new c ≡ renamed (label_at old a) (label_at old b) (label_at old c)
  at c = j (c % 64) (place-low c)

  joined-low : (c : ℕ) → c < 64 → get_or new c 0 < 64
  joined-low c k = subst (λ x. x < 64) (sym (j c k)) (go (eqb (get_or old c 0) (label_at old a)))
    where
      go : (o : Bool) → cond o (label_at old b) (get_or old c 0) < 64
      go true = L.low (b % 64) (place-low b)
      go false = L.low c k

  joined-ends : label_at new a ≡ label_at new b
  joined-ends =
      at a ∙ ap (λ o. cond o (label_at old b) (label_at old a)) (eqb-self (label_at old a))
      ∙ sym (at b ∙ go (eqb (label_at old b) (label_at old a)))
    where
      go : (o : Bool) → cond o (label_at old b) (label_at old b) ≡ label_at old b
      go true = refl
      go false = refl

  joined_same : (row : ℕ → Option ℤ) → AllAtOne row (l ++ (Equality a b n ∷ [])) → (c : ℕ) → c < 64
      → row (get_or new c 0) ≡ row c
  joined_same row h c k = ap row (j c k) ∙ go (eqb (get_or old c 0) (label_at old a)) refl
    where
      ends : row a ≡ row b
      ends = all_last row l (Equality a b n) h

      old_same : (c : ℕ) → c < 64 → row (get_or old c 0) ≡ row c
      old_same = L.same row (all_front row l (Equality a b n ∷ []) h)

      label_same : (c : ℕ) → c < 64 → row (label_at old c) ≡ row c
      label_same c k = ap (λ x. row (get_or old x 0)) (low-place c k) ∙ old_same c k

      go : (o : Bool) → eqb (get_or old c 0) (label_at old a) ≡ o → row (cond o (label_at old b) (get_or old c 0)) ≡ row c
      go true e =
          label_same b kb ∙ sym ends ∙ sym (label_same a ka)
          ∙ ap row (sym (eqb-path (get_or old c 0) (label_at old a) e)) ∙ old_same c k
      go false e = old_same c k

  joined : Labels (l ++ (Equality a b n ∷ [])) new
  joined =
      record {
        size = size ∙ L.size;
        low = joined-low;
        one = all_snoc (label_at new) l (Equality a b n)
            (all_through (label_at old) (label_at new)
            (λ c d e. at c ∙ ap (renamed (label_at old a) (label_at old b)) e ∙ sym (at d)) l L.one) joined-ends;
        same = joined_same;
      }

joins_more : (l : List (Conjunct Lined)) (i : ℕ) (k : Conjunct ℕ) (old new : List ℕ) → ColumnsBelow 64 k → Joins k old new
    → Labels l old → Labels (l ++ (map_conjunct (on_line i) k ∷ [])) new
joins_more l i (Bounds c m) old new w j L = kept l _ old new tt j L
joins_more l i (Normalized c m) old new w j L = kept l _ old new tt j L
joins_more l i (Equality a b n) old new w j L = joined l old new L a b n w.0 w.1 j.0 j.1
joins_more l i (Recorded z n c m) old new w j L = kept l _ old new tt j L
joins_more l i (NonNullPair n a b) old new w j L = kept l _ old new tt j L
joins_more l i (Opaque n) old new w j L = kept l _ old new tt j L

-- One line more.
pub labels_more : (R : ℕ → AExpr ℕ) (nodes : List ℕ) (i : ℕ) (old new : List ℕ)
    → ColumnsBelow 64 (classify R (get_or nodes i 0)) → Joins (classify R (get_or nodes i 0)) old new
    → Labels (lines_to R nodes i) old → Labels (lines_to R nodes (i + 1)) new
labels_more R nodes i old new w j L =
    subst (λ l. Labels l new) (sym (lines_more R nodes i))
    (joins_more (lines_to R nodes i) i (classify R (get_or nodes i 0)) old new w j L)

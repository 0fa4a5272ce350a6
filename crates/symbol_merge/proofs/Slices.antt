-- What the slices show, before and after their columns hold literals.
use mathlib.Core.Path.{◌≡◌, refl, sym, ◌∙◌, ap, subst}
use mathlib.Core.Bool.{Bool, true, false, cond}
use mathlib.Core.List.{List, [], ◌∷◌, ◌++◌, map, map-append}
use mathlib.Core.Logic.{◌⊎◌, inl, inr, ⊎_elim}
use Prim.Native.Nat.{ℕ, zero, suc, ◌<◌, ◌≤◌}
use native.Mathlib.Omega.{arith}
use lib.Dec.{leb}
use lib.ListN.{length, get_or}
use borrow.Author.Tests.{leb-true}
use Rattle.records.proofs.Laws.{and_left}
use Rattle.checking.specs.Check.{table_ok_in, types_known_in}
use Rattle.checking.specs.Checked.{CheckedIn}
use Rattle.constraints.specs.Lined.{Lined, lined}
use Rattle.constraints.specs.LineKept.{OneOf}
use Rattle.constraints.specs.Comparisons.{ColumnComparison, collect_column_comparisons}
use Rattle.column_constraints.specs.Abstraction.{Conjuncts, of_kind, literal_at, gather, excluded_by}
use Rattle.column_table.specs.State.{ColumnTable, bits_of}
use Rattle.merge.specs.Emit.{of_column, comparisons}
use Rattle.read_operands.specs.Walk.{first_of}
use Rattle.reckoning.proofs.Reckons.{ComparedBelow}
use Rattle.symbol_columns.proofs.Written.{excluded_in}

-- Under other literals the excluded values are those.
pub excluded-as : (kinds values values' a : List ℕ) (n : ℕ) →
    excluded_by kinds values' a n ≡ map (excluded_in values') (excluded_by kinds values a n)
unfolding excluded_by gather
excluded-as kinds values values' a zero = refl
excluded-as kinds values values' a (suc n) = go (of_kind kinds 0 (get_or a n 0)) (excluded_by kinds values a n) (excluded_by kinds values' a n)
    (excluded-as kinds values values' a n)
  where
    go : (b : Bool) (l m : List Lined) → m ≡ map (excluded_in values') l →
        cond b (m ++ (literal_at values' (get_or a n 0) ∷ [])) m ≡
        map (excluded_in values') (cond b (l ++ (literal_at values (get_or a n 0) ∷ [])) l)
    go true l m e =
        ap (λ x. x ++ (literal_at values' (get_or a n 0) ∷ [])) e
        ∙ sym (map-append (excluded_in values') l (literal_at values (get_or a n 0) ∷ []))
    go false l m e = e

-- ---- the columns of the order are below 64, so those of the comparisons are
in_snoc : (a b : ℕ) (l : List ℕ) → OneOf a (l ++ (b ∷ [])) → OneOf a l ⊎ (a ≡ b)
in_snoc a b [] (inl e) = inr e
in_snoc a b [] (inr i) = absurd i
in_snoc a b (c ∷ l) (inl e) = inl (inl e)
in_snoc a b (c ∷ l) (inr i) = ⊎_elim (λ (j : OneOf a l). inl (inr j)) (λ (e : a ≡ b). inr e) (in_snoc a b l i)

pub order-low : (order : List ℕ) (n : ℕ) → ((o : ℕ) → o < n → get_or order o 0 < 64) → (a : ℕ) → OneOf a (first_of order n) → a < 64
unfolding first_of
order-low order zero h a i = absurd i
order-low order (suc n) h a i =
    ⊎_elim (λ (j : OneOf a (first_of order n)). order-low order n (λ o k. h o (omega arith)) a j)
    (λ (e : a ≡ get_or order n 0). let k = h n (omega arith) in rw e k) (in_snoc a (get_or order n 0) (first_of order n) i)

column-low : (a : ℕ) (l : List (ColumnComparison Lined)) (m : List (ℕ × ColumnComparison Lined)) → a < 64 →
    ComparedBelow 64 (bits_of m) → ComparedBelow 64 (bits_of (of_column a l ++ m))
column-low a [] m h k = k
column-low a (x ∷ l) m h k = (h, column-low a l m h k)

pub compared-low : (order : List ℕ) (T : ColumnTable) → ((a : ℕ) → OneOf a order → a < 64) →
    ComparedBelow 64 (bits_of (comparisons lined order T))
compared-low [] T h = tt
compared-low (a ∷ order) T h =
    column-low a (collect_column_comparisons lined (T a)) (comparisons lined order T) (h a (inl refl))
    (compared-low order T (λ b i. h b (inr i)))

-- an accepted table has at most 64 columns
pub table-few : (text : ℕ) (t rs p : List ℕ) (used root : ℕ) → CheckedIn text t rs p used root → length t ≤ 64
unfolding table_ok_in
table-few text t rs p used root ok = leb-true (length t) 64 (and_left (leb (length t) 64) (types_known_in text t) ok.table)

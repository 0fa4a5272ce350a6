-- Walks over the values of a list in the pool. Assumes nothing.
use mathlib.Core.Path.{◌≡◌, refl, sym, ◌∙◌, ap}
use mathlib.Core.Bool.{Bool, true, false, not, cond, ◌&&◌, ◌||◌, true≢false, or-true, or-false}
use mathlib.Core.Bool.{or_assoc}
use mathlib.Core.List.{List, [], ◌∷◌, ◌++◌, map}
use mathlib.Core.Option.{Option, none, some}
use Prim.Native.Nat.{ℕ, zero, suc, ◌+◌, ◌≤◌, ◌<◌}
use lib.IntN.{ℤ}
use native.Mathlib.Omega.{arith}
use native.Mathlib.Numerals.{add-one}
use lib.ListN.{get_or}
use borrow.Author.Tests.{ne_eqb}
use Rattle.records.proofs.Laws.{and_left, and_right}
use Rattle.records.specs.Bytes.{value_at}
use Rattle.truth.specs.FromBytes.{values_from}
use Rattle.truth.specs.Order.{is_equal}
use Rattle.truth.proofs.Orders.{cmp-refl}
use Rattle.constraints.specs.Scalars.{scalar_cmp, opposite}
use Rattle.constraints.specs.Values.{contains, subset, is_empty}
use Rattle.constraints.specs.Column as q
use Rattle.constraints.specs.Payload.{payload}
use Rattle.constraints.specs.Lined.{Lined, on_line, lined}
use Rattle.column_constraints.specs.Abstraction.{Conjuncts, column_of, gather, of_kind, list_of, values_of, excluded_by}
use Rattle.column_constraints.specs.Abstraction.{literal_at, allowed_by}
use Rattle.column_constraints.specs.Abstraction.{marked}
use Rattle.column_constraints.specs.Abstraction.{Numbered}
use Rattle.constraints.proofs.Sets.{subset-contains, is_equal-subst}
use Rattle.constraints.specs.Resolve as z
use Rattle.constraints.specs.Bound as b
use Rattle.constraints.proofs.Columns.{is_empty-snoc}
use Rattle.column_constraints.specs.Steps.{any_of, outside, any_of_kind, changes_in}
use Rattle.column_constraints.proofs.Lines.{any-lines}
use Rattle.column_sets.proofs.Numbers.{more, found, done}
use Rattle.column_sets.proofs.Insertions.{within, all_within, any-within}

abbrev has : ℕ → List Lined → Bool
has v l = contains lined (payload.key v) l

abbrev given : ℕ → List ℕ → Bool
given v l = contains payload (payload.key v) l

pub values-snoc : (p : List ℕ) (s n : ℕ) → values_from p s (suc n) ≡ values_from p s n ++ (value_at p (s + n) ∷ [])
unfolding values_from
values-snoc p s zero = let e : s ≡ s + 0 = omega arith in ap (λ k. value_at p k ∷ []) e
values-snoc p s (suc n) =
    let e : suc s + n ≡ s + suc n = omega arith in
    ap (λ l. value_at p s ∷ l) (values-snoc p (suc s) n) ∙
    ap (λ k. value_at p s ∷ (values_from p (suc s) n ++ (value_at p k ∷ []))) e

any_append : (f : ℕ → Bool) (l m : List ℕ) → any_of f (l ++ m) ≡ (any_of f l || any_of f m)
any_append f [] m = refl
any_append f (v ∷ l) m = rw (any_append f l m) (sym (or_assoc (f v) (any_of f l) (any_of f m)))

-- ---- is some value of a list such
pub an_step : (f : ℕ → Bool) (p : List ℕ) (s n : ℕ) → any_of f (values_from p s (suc n)) ≡
    (any_of f (values_from p s n) || f (value_at p (s + n)))
an_step f p s n = rw (values-snoc p s n) (any_append f (values_from p s n) (value_at p (s + n) ∷ []) ∙
    ap (λ b. any_of f (values_from p s n) || b) (or-false (f (value_at p (s + n)))))

pub an_none : (f : ℕ → Bool) (p : List ℕ) (s : ℕ) → any_of f (values_from p s 0) ≡ false
unfolding values_from
an_none f p s = refl

pub an_more : (f : ℕ → Bool) (p : List ℕ) (s i : ℕ) → any_of f (values_from p s i) ≡ false → f (value_at p (s + i)) ≡
    false → any_of f (values_from p s (i + 1)) ≡ false
an_more f p s i h e = more (λ n. any_of f (values_from p s n)) (λ n. f (value_at p (s + n))) (an_step f p s) i h e

pub an_found : (f : ℕ → Bool) (p : List ℕ) (s i n : ℕ) → i < n → f (value_at p (s + i)) ≡ true → true ≡
    any_of f (values_from p s n)
an_found f p s i n l e = found (λ n. any_of f (values_from p s n)) (λ n. f (value_at p (s + n))) (an_step f p s) i n l e

pub an_done : (f : ℕ → Bool) (p : List ℕ) (s i n : ℕ) → i ≤ n → n ≤ i → any_of f (values_from p s i) ≡ false → false ≡
    any_of f (values_from p s n)
an_done f p s i n l g h = done (λ n. any_of f (values_from p s n)) i n l g h

-- ---- the tests of values as such
pub given-any : (v : ℕ) (l : List ℕ) → given v l ≡ any_of (λ w. is_equal (scalar_cmp payload v w)) l
given-any v [] = refl
given-any v (w ∷ l) = rw (given-any v l)

new-any : (l m : List Lined) → not (subset lined l m) ≡ any_of (λ v. not (contains lined (lined.key v) m)) l
new-any [] m = refl
new-any (v ∷ l) m = go (contains lined (lined.key v) m) (new-any l m)
  where
    go : (b : Bool) → not (subset lined l m) ≡ any_of (λ v. not (contains lined (lined.key v) m)) l →
        not (b && subset lined l m) ≡ (not b || any_of (λ v. not (contains lined (lined.key v) m)) l)
    go true e = e
    go false e = refl

feasible_any : (cc : q.ColumnConstraints Lined) (l : List Lined) → z.any_feasible lined cc l ≡
    any_of (λ v. z.is_feasible lined cc (lined.key v)) l
feasible_any cc [] = refl
feasible_any cc (v ∷ l) = rw (feasible_any cc l)

-- of the list of a number
pub widens_any : (ss cs ps : List ℕ) (j : ℕ) (m : List Lined) → not (subset lined (values_of ss cs ps j) m) ≡
    any_of (λ v. not (has v m)) (list_of ss cs ps j)
unfolding values_of
widens_any ss cs ps j m = new-any (map (on_line j) (list_of ss cs ps j)) m ∙
    any-lines (λ k. not (contains lined k m)) j (list_of ss cs ps j)

pub feasible_listed : (ss cs ps : List ℕ) (j : ℕ) (cc : q.ColumnConstraints Lined) →
    z.any_feasible lined cc (values_of ss cs ps j) ≡
    any_of (λ v. z.is_feasible lined cc (payload.key v)) (list_of ss cs ps j)
unfolding values_of
feasible_listed ss cs ps j cc = feasible_any cc (map (on_line j) (list_of ss cs ps j)) ∙
    any-lines (λ k. z.is_feasible lined cc k) j (list_of ss cs ps j)

outside-listed : (ss cs ps : List ℕ) (j : ℕ) (m l : List Lined) →
    any_of (λ v. outside (some m) l v) (list_of ss cs ps j) ≡
    any_of (λ x. contains lined (lined.key x) m && not (contains lined (lined.key x) l)) (values_of ss cs ps j)
unfolding values_of
outside-listed ss cs ps j m l =
    sym (any-lines (λ k. contains lined k m && not (contains lined k l)) j (list_of ss cs ps j))

-- ---- a property of keys that some value of a list has
abbrev any_key : (ℤ → Bool) → List Lined → Bool
any_key P l = any_of (λ v. P (lined.key v)) l

key_in : (P : ℤ → Bool) (l : List Lined) (k : ℤ) → contains lined k l ≡ true → P k ≡ true → any_key P l ≡ true
key_in P [] k h e = absurd (true≢false (sym h))
key_in P (v ∷ l) k h e = go (is_equal (lined.order.cmp k (lined.key v))) refl h (λ i. key_in P l k i e)
  where
    go : (b : Bool) → is_equal (lined.order.cmp k (lined.key v)) ≡ b → (b || contains lined k l) ≡ true →
        (contains lined k l ≡ true → any_key P l ≡ true) → (P (lined.key v) || any_key P l) ≡ true
    go true i h f = rw (is_equal-subst lined (λ x. P x ≡ true) i e)
    go false i h f = rw (f h) (or-true (P (lined.key v)))

key-out : (P : ℤ → Bool) (l : List Lined) (C : Type 0) → any_key P l ≡ true →
    ((k : ℤ) → contains lined k l ≡ true → P k ≡ true → C) → C
key-out P [] C h f = absurd (true≢false (sym h))
key-out P (v ∷ l) C h f = go (P (lined.key v)) refl h
    (λ i. key-out P l C i (λ k i e. f k (rw i (or-true (is_equal (lined.order.cmp k (lined.key v))))) e))
  where
    go : (b : Bool) → P (lined.key v) ≡ b → (b || any_key P l) ≡ true → (any_key P l ≡ true → C) → C
    go true e h g = f (lined.key v) (rw (cmp-refl lined.total (lined.key v))) e
    go false e h g = g h

bool_iff : (a b : Bool) → (a ≡ true → b ≡ true) → (b ≡ true → a ≡ true) → a ≡ b
bool_iff true b f g = sym (f refl)
bool_iff false true f g = g refl
bool_iff false false f g = refl

not_yes : (b : Bool) → not b ≡ true → b ≡ false
not_yes true e = absurd (true≢false (sym e))
not_yes false e = refl

-- ---- one of the allowed lists x, and the values m common to them all
outside-all : (m x l : List Lined) → subset lined m x ≡ true →
    any_key (λ k. contains lined k m && not (contains lined k l)) x ≡ not (subset lined m l)
outside-all m x l s = bool_iff (any_key (λ k. contains lined k m && not (contains lined k l)) x) (not (subset lined m l))
    (λ h. key-out (λ k. contains lined k m && not (contains lined k l)) x _ h λ k i e. go k
    (and_left (contains lined k m) (not (contains lined k l)) e)
    (not_yes (contains lined k l) (and_right (contains lined k m) (not (contains lined k l)) e))
    (subset lined m l) refl)
    (λ h. key-out (λ k. not (contains lined k l)) m _ (sym (new-any m l) ∙ h) λ k i e. key_in
    (λ k. contains lined k m && not (contains lined k l)) x k (subset-contains lined k m x s i) (rw (i, e)))
  where
    go : (k : ℤ) → contains lined k m ≡ true → contains lined k l ≡ false → (b : Bool) → subset lined m l ≡ b →
        not b ≡ true
    go k i n true s = absurd (true≢false (sym (subset-contains lined k m l s i) ∙ n))
    go k i n false s = refl

feasible_all : (cc : q.ColumnConstraints Lined) (m x : List Lined) → cc.allowed ≡ some m → subset lined m x ≡ true →
    z.any_feasible lined cc x ≡ z.any_feasible lined cc m
feasible_all cc m x e s = feasible_any cc x ∙ bool_iff (any_key (λ k. z.is_feasible lined cc k) x)
    (any_key (λ k. z.is_feasible lined cc k) m)
    (λ h. key-out (λ k. z.is_feasible lined cc k) x _ h λ k i f. key_in (λ k. z.is_feasible lined cc k) m k
    (ap (λ o. z.is_allowed lined o k) (sym e) ∙ and_left (z.is_allowed lined cc.allowed k)
    (not (contains lined k cc.disallowed))
    (and_right (b.clears lined cc.lower k &&
    (b.clears (opposite lined) cc.upper k && not (contains lined k cc.excluded)))
    (z.is_allowed lined cc.allowed k && not (contains lined k cc.disallowed)) f)) f)
    (λ h. key-out (λ k. z.is_feasible lined cc k) m _ h λ k i f. key_in (λ k. z.is_feasible lined cc k) x k
    (subset-contains lined k m x s i) f)
    ∙ sym (feasible_any cc m)

-- ---- a number of kind 1 that a column has
pub narrows_first : (ks ss cs ps a : List ℕ) (n f j : ℕ) → marked a n f ≡ true → get_or ks f 0 ≡ 1 →
    any_of (λ v. outside (allowed_by ks ss cs ps a n) (values_of ss cs ps j) v) (list_of ss cs ps f) ≡
    q.allowed_changes lined (allowed_by ks ss cs ps a n) (values_of ss cs ps j)
narrows_first ks ss cs ps a n f j h k = go (allowed_by ks ss cs ps a n) (all_within ks ss cs ps a n f h k)
  where
    go : (o : Option (List Lined)) → within o (values_of ss cs ps f) ≡ true → any_of
        (λ v. outside o (values_of ss cs ps j) v) (list_of ss cs ps f) ≡ q.allowed_changes lined o (values_of ss cs ps j)
    go none e = absurd (true≢false (sym e))
    go (some m) e = outside-listed ss cs ps f m (values_of ss cs ps j) ∙
        outside-all m (values_of ss cs ps f) (values_of ss cs ps j) e

pub feasible_first : (t : Conjuncts) (c : Numbered) (f : ℕ) → marked c.marks c.len f ≡ true →
    get_or t.kinds f 0 ≡ 1 →
    z.any_feasible lined (column_of t c) (values_of t.starts t.counts t.pool f) ≡
    z.allowed_feasible lined (column_of t c) (column_of t c).allowed
feasible_first t c f h k = go (column_of t c).allowed refl
    (all_within t.kinds t.starts t.counts t.pool c.marks c.len f h k)
  where
    go : (o : Option (List Lined)) → (column_of t c).allowed ≡ o → within o (values_of t.starts t.counts t.pool f) ≡
        true → z.any_feasible lined (column_of t c) (values_of t.starts t.counts t.pool f) ≡
        z.allowed_feasible lined (column_of t c) o
    go none e h = absurd (true≢false (sym h))
    go (some m) e h = feasible_all (column_of t c) m (values_of t.starts t.counts t.pool f) e h

pub skip_allowed : (ks ss cs ps a : List ℕ) (i : ℕ) → allowed_by ks ss cs ps a i ≡ none →
    (get_or ks (get_or a i 0) 0 ≡ 1 → ⊥) → allowed_by ks ss cs ps a (i + 1) ≡ none
unfolding allowed_by gather
skip_allowed ks ss cs ps a i h k = rw (add-one, ne_eqb (get_or ks (get_or a i 0) 0) 1 k) h

pub none_allowed : (ks ss cs ps a : List ℕ) → allowed_by ks ss cs ps a 0 ≡ none
unfolding allowed_by gather
none_allowed ks ss cs ps a = refl

-- ---- kinds among the numbers
pub kind-step : (ks : List ℕ) (k : ℕ) (a : List ℕ) (n : ℕ) → any_of_kind ks k a (suc n) ≡
    (any_of_kind ks k a n || of_kind ks k (get_or a n 0))
unfolding any_of_kind
kind-step ks k a n = refl

pub kind-none : (ks : List ℕ) (k : ℕ) (a : List ℕ) → any_of_kind ks k a 0 ≡ false
unfolding any_of_kind
kind-none ks k a = refl

pub kind-more : (ks : List ℕ) (k : ℕ) (a : List ℕ) (i : ℕ) → any_of_kind ks k a i ≡ false → of_kind ks k (get_or a i 0) ≡
    false → any_of_kind ks k a (i + 1) ≡ false
kind-more ks k a i h e = more (λ n. any_of_kind ks k a n) (λ n. of_kind ks k (get_or a n 0)) (kind-step ks k a) i h e

pub kind-found : (ks : List ℕ) (k : ℕ) (a : List ℕ) (i n : ℕ) → i < n → of_kind ks k (get_or a i 0) ≡ true → true ≡
    any_of_kind ks k a n
kind-found ks k a i n l e = found (λ n. any_of_kind ks k a n) (λ n. of_kind ks k (get_or a n 0)) (kind-step ks k a) i n l e

pub kind-done : (ks : List ℕ) (k : ℕ) (a : List ℕ) (i n : ℕ) → i ≤ n → n ≤ i → any_of_kind ks k a i ≡ false → false ≡
    any_of_kind ks k a n
kind-done ks k a i n l g h = done (λ n. any_of_kind ks k a n) i n l g h

pub no_excluded : (ks vs a : List ℕ) (n : ℕ) → is_empty (excluded_by ks vs a n) ≡ not (any_of_kind ks 0 a n)
unfolding excluded_by gather any_of_kind
no_excluded ks vs a zero = refl
no_excluded ks vs a (suc n) = go (of_kind ks 0 (get_or a n 0)) (no_excluded ks vs a n)
  where
    go : (x : Bool) → is_empty (excluded_by ks vs a n) ≡ not (any_of_kind ks 0 a n) →
        is_empty (cond x (excluded_by ks vs a n ++ (literal_at vs (get_or a n 0) ∷ [])) (excluded_by ks vs a n)) ≡
        not (any_of_kind ks 0 a n || x)
    go true e = is_empty-snoc (excluded_by ks vs a n) (literal_at vs (get_or a n 0)) ∙
        ap not (sym (or-true (any_of_kind ks 0 a n)))
    go false e = e ∙ ap not (sym (or-false (any_of_kind ks 0 a n)))

pub no_allowed : (ks ss cs ps a : List ℕ) (n : ℕ) → q.is_none (allowed_by ks ss cs ps a n) ≡ not (any_of_kind ks 1 a n)
unfolding allowed_by gather any_of_kind
no_allowed ks ss cs ps a zero = refl
no_allowed ks ss cs ps a (suc n) = go (of_kind ks 1 (get_or a n 0)) (no_allowed ks ss cs ps a n)
  where
    go : (x : Bool) → q.is_none (allowed_by ks ss cs ps a n) ≡ not (any_of_kind ks 1 a n) →
        q.is_none (cond x (some (q.common lined (allowed_by ks ss cs ps a n) (values_of ss cs ps (get_or a n 0))))
        (allowed_by ks ss cs ps a n)) ≡ not (any_of_kind ks 1 a n || x)
    go true e = ap not (sym (or-true (any_of_kind ks 1 a n)))
    go false e = e ∙ ap not (sym (or-false (any_of_kind ks 1 a n)))

-- ---- the list of a number
pub list-as : (ss cs ps : List ℕ) (j s n : ℕ) → s ≡ get_or ss j 0 → n ≡ get_or cs j 0 → values_from ps s n ≡
    list_of ss cs ps j
unfolding list_of
list-as ss cs ps j s n e f = rw (e, f)

pub within-still : (o : Option (List Lined)) (l : List Lined) → within o l ≡ true → q.allowed_changes lined o l ≡ false
within-still none l h = absurd (true≢false (sym h))
within-still (some m) l h = ap not h

pub held-allowed : (t : Conjuncts) (c : Numbered) (j : ℕ) → c.unsat ≡ false → marked c.marks c.len j ≡
    true → get_or t.kinds j 0 ≡ 1 → false ≡ changes_in (q.Allow (values_of t.starts t.counts t.pool j))
    (column_of t c)
held-allowed t c j u m k = sym (ap (λ x. not x && q.changes lined
    (q.Allow (values_of t.starts t.counts t.pool j)) (column_of t c)) u ∙
    within-still (column_of t c).allowed (values_of t.starts t.counts t.pool j)
    (all_within t.kinds t.starts t.counts t.pool c.marks c.len j m k))

pub held-disallowed : (t : Conjuncts) (c : Numbered) (j : ℕ) → c.unsat ≡ false →
    marked c.marks c.len j ≡ true → get_or t.kinds j 0 ≡ 2 → false ≡
    changes_in (q.Disallow false (values_of t.starts t.counts t.pool j)) (column_of t c)
held-disallowed t c j u m k = sym
    (ap (λ x. not x && q.changes lined (q.Disallow false (values_of t.starts t.counts t.pool j))
    (column_of t c)) u
    ∙ ap not (any-within t.kinds t.starts t.counts t.pool c.marks c.len j m k))

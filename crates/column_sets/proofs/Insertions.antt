-- A number that a column takes, or has already. Assumes nothing.
use mathlib.Core.Path.{◌≡◌, refl, sym, ◌∙◌, ap, subst}
use mathlib.Core.Bool.{Bool, true, false, not, cond, ◌&&◌, ◌||◌, true≢false, or-true, or-false, and-true}
use mathlib.Core.Bool.{and-eq-true_iff, not-not, and-false}
use mathlib.Core.List.{List, [], ◌∷◌, ◌++◌, map}
use mathlib.Core.Option.{Option, none, some}
use mathlib.Core.Logic.{⊎_elim}
use Prim.Native.Nat.{ℕ, zero, suc, ◌+◌, ◌≤◌, ◌<◌}
use lib.IntN.{ℤ}
use native.Mathlib.Omega.{arith}
use native.Mathlib.Nat.{le_of_suc-le-suc, not-suc-le-zero, eq-or-lt_of_le, le_antisymm}
use native.Mathlib.Numerals.{add-one}
use lib.ListN.{length, get_or, set}
use lib.Dec.{ltb}
use borrow.Author.Tests.{lt-ltb}
use Rattle.truth.specs.FromBytes.{values_from}
use Rattle.truth.specs.Order.{is_equal}
use Rattle.truth.proofs.Orders.{cmp-refl}
use Rattle.constraints.specs.Values.{contains, extend, retain, subset, is_empty}
use Rattle.constraints.specs.Column as q
use Rattle.constraints.specs.Payload.{payload}
use Rattle.constraints.specs.Lined.{Lined, on_line, lined}
use Rattle.column_constraints.specs.Abstraction.{Conjuncts, column_of, gather, of_kind, list_of, values_of, excluded_by}
use Rattle.column_constraints.specs.Abstraction.{literal_at, allowed_by}
use Rattle.column_constraints.specs.Abstraction.{disallowed_by, marked, pushed}
use Rattle.column_constraints.specs.Abstraction.{Numbered}
use Rattle.constraints.proofs.Sets.{contains-extend, contains-retain, subset-contains, extend-subset}
use Rattle.constraints.proofs.Sets.{retain-subset}
use Rattle.constraints.specs.Resolve.{is_allowed}
use Rattle.column_constraints.proofs.Lines.{contains-values}
use Rattle.column_constraints.proofs.Pigeon.{Eq, yes, no, eq-view}
use Rattle.column_sets.proofs.Numbers.{more, found, done, gather-push, marked_step, marked-none, excl_step}

abbrev has : ℕ → List Lined → Bool
has v l = contains lined (payload.key v) l

abbrev given : ℕ → List ℕ → Bool
given v l = contains payload (payload.key v) l

abbrev pub mem' : ℤ → List Lined → Bool
mem' x l = contains lined x l

abbrev pub sub' : List Lined → List Lined → Bool
sub' l m = subset lined l m

pub all_sub : (l m : List Lined) → ((x : ℤ) → mem' x l ≡ true → mem' x m ≡ true) → sub' l m ≡ true
all_sub [] m h = refl
all_sub (v ∷ l) m h = rw (h (lined.key v) (rw (cmp-refl lined.total (lined.key v))))
    (all_sub l m (λ x e. h x (rw e (or-true (is_equal (lined.order.cmp x (lined.key v)))))))

sub_self : (l : List Lined) → sub' l l ≡ true
sub_self l = all_sub l l (λ x e. e)

sub-kept : (l m x : List Lined) → sub' x l ≡ true → sub' (retain lined m x) l ≡ true
sub-kept l m x s = all_sub (retain lined m x) l
    (λ y e. subset-contains lined y x l s
    ((and-eq-true_iff (mem' y x) (mem' y m)).0 (sym (contains-retain lined y m x) ∙ e)).0)

kept-sub : (l x : List Lined) → sub' (retain lined l x) l ≡ true
kept-sub l x = all_sub (retain lined l x) l
    (λ y e. ((and-eq-true_iff (mem' y x) (mem' y l)).0 (sym (contains-retain lined y l x) ∙ e)).1)

-- a list held among the allowed ones keeps them all
abbrev pub within : Option (List Lined) → List Lined → Bool
within none l = false
within (some x) l = sub' x l

pub within_more : (o : Option (List Lined)) (m l : List Lined) → within o l ≡ true → within (some (q.common lined o m)) l ≡ true
within_more none m l e = absurd (true≢false (sym e))
within_more (some x) m l e = sub-kept l m x e

within-own : (o : Option (List Lined)) (l : List Lined) → within (some (q.common lined o l)) l ≡ true
within-own none l = sub_self l
within-own (some x) l = kept-sub l x

pub within_same : (o : Option (List Lined)) (l : List Lined) → within o l ≡ true → some (q.common lined o l) ≡ o
within_same none l e = absurd (true≢false (sym e))
within_same (some x) l e = ap some (retain-subset lined l x e)

-- the step of a marked number: it is the last one, or one before
marked-case : (a : List ℕ) (n j : ℕ) (P : Type 0) → marked a (suc n) j ≡ true → (get_or a n 0 ≡ j → P) →
    (marked a n j ≡ true → P) → P
marked-case a n j P e f g = go (eq-view (get_or a n 0) j) (sym (marked_step a j n) ∙ e)
  where
    go : {x : Bool} → Eq (get_or a n 0) j x → (marked a n j || x) ≡ true → P
    go (yes p) h = f p
    go (no p) h = g (sym (or-false (marked a n j)) ∙ h)

pub all_within : (ks ss cs ps a : List ℕ) (n j : ℕ) → marked a n j ≡ true → get_or ks j 0 ≡ 1 →
    within (allowed_by ks ss cs ps a n) (values_of ss cs ps j) ≡ true
unfolding allowed_by gather
all_within ks ss cs ps a zero j e k = absurd (true≢false (sym e ∙ marked-none a j))
all_within ks ss cs ps a (suc n) j e k =
    marked-case a n j _ e last (λ h. before (of_kind ks 1 (get_or a n 0)) (all_within ks ss cs ps a n j h k))
  where
    last : get_or a n 0 ≡ j → within (allowed_by ks ss cs ps a (suc n)) (values_of ss cs ps j) ≡ true
    last p = rw (p, k) (within-own (allowed_by ks ss cs ps a n) (values_of ss cs ps j))

    before : (x : Bool) → within (allowed_by ks ss cs ps a n) (values_of ss cs ps j) ≡ true →
        within (cond x (some (q.common lined (allowed_by ks ss cs ps a n) (values_of ss cs ps (get_or a n 0))))
        (allowed_by ks ss cs ps a n)) (values_of ss cs ps j) ≡ true
    before true h = within_more (allowed_by ks ss cs ps a n) (values_of ss cs ps (get_or a n 0)) (values_of ss cs ps j) h
    before false h = h

pub any-within : (ks ss cs ps a : List ℕ) (n j : ℕ) → marked a n j ≡ true → get_or ks j 0 ≡ 2 →
    sub' (values_of ss cs ps j) (disallowed_by ks ss cs ps a n) ≡ true
unfolding disallowed_by gather
any-within ks ss cs ps a zero j e k = absurd (true≢false (sym e ∙ marked-none a j))
any-within ks ss cs ps a (suc n) j e k =
    marked-case a n j _ e last (λ h. before (of_kind ks 2 (get_or a n 0)) (any-within ks ss cs ps a n j h k))
  where
    own : (m l : List Lined) → sub' l (extend lined m l) ≡ true
    own m l = all_sub l (extend lined m l) (λ x h. contains-extend lined x m l ∙ rw h (or-true (mem' x m)))

    last : get_or a n 0 ≡ j → sub' (values_of ss cs ps j) (disallowed_by ks ss cs ps a (suc n)) ≡ true
    last p = rw (p, k) (own (disallowed_by ks ss cs ps a n) (values_of ss cs ps j))

    wider : (m l x : List Lined) → sub' x m ≡ true → sub' x (extend lined m l) ≡ true
    wider m l x s = all_sub x (extend lined m l) (λ y h. contains-extend lined y m l ∙
        rw (subset-contains lined y x m s h))

    before : (x : Bool) → sub' (values_of ss cs ps j) (disallowed_by ks ss cs ps a n) ≡ true →
        sub' (values_of ss cs ps j) (cond x
        (extend lined (disallowed_by ks ss cs ps a n) (values_of ss cs ps (get_or a n 0))) (disallowed_by ks ss cs ps a n))
        ≡ true
    before true h = wider (disallowed_by ks ss cs ps a n) (values_of ss cs ps (get_or a n 0)) (values_of ss cs ps j) h
    before false h = h

pub marked-has : (ks vs a : List ℕ) (n j : ℕ) → marked a n j ≡ true → get_or ks j 0 ≡ 0 →
    has (get_or vs j 0) (excluded_by ks vs a n) ≡ true
marked-has ks vs a zero j e k = absurd (true≢false (sym e ∙ marked-none a j))
marked-has ks vs a (suc n) j e k = excl_step ks vs a (get_or vs j 0) n ∙ marked-case a n j _ e
    (λ p. rw (p, k, cmp-refl payload.total (payload.key (get_or vs j 0)))
    (or-true (has (get_or vs j 0) (excluded_by ks vs a n))))
    (λ h. rw (marked-has ks vs a n j h k))

-- a number whose value is not held is not held
pub not-marked : (ks vs a : List ℕ) (n j : ℕ) → get_or ks j 0 ≡ 0 → has (get_or vs j 0) (excluded_by ks vs a n) ≡ false →
    marked a n j ≡ false
not-marked ks vs a n j k h = go (marked a n j) refl
  where
    go : (x : Bool) → marked a n j ≡ x → x ≡ false
    go true e = absurd (true≢false (sym (marked-has ks vs a n j e k) ∙ h))
    go false e = refl

-- ---- pushing
excl_push : (ks vs a : List ℕ) (n j : ℕ) → n < length a → excluded_by ks vs (set a n j) (n + 1) ≡
    cond (of_kind ks 0 j) (excluded_by ks vs a n ++ (literal_at vs j ∷ [])) (excluded_by ks vs a n)
unfolding excluded_by
excl_push ks vs a n j l = gather-push (of_kind ks 0) (λ l j. l ++ (literal_at vs j ∷ [])) [] a n j l

all_push : (ks ss cs ps a : List ℕ) (n j : ℕ) → n < length a → allowed_by ks ss cs ps (set a n j) (n + 1) ≡
    cond (of_kind ks 1 j) (some (q.common lined (allowed_by ks ss cs ps a n) (values_of ss cs ps j)))
    (allowed_by ks ss cs ps a n)
unfolding allowed_by
all_push ks ss cs ps a n j l = gather-push (of_kind ks 1) (λ o j. some (q.common lined o (values_of ss cs ps j))) none a
    n j l

any_push : (ks ss cs ps a : List ℕ) (n j : ℕ) → n < length a → disallowed_by ks ss cs ps (set a n j) (n + 1) ≡
    cond (of_kind ks 2 j) (extend lined (disallowed_by ks ss cs ps a n) (values_of ss cs ps j))
    (disallowed_by ks ss cs ps a n)
unfolding disallowed_by
any_push ks ss cs ps a n j l = gather-push (of_kind ks 2) (λ l j. extend lined l (values_of ss cs ps j)) [] a n j l

-- ---- the column's laws: held already, or new
pub exc_old : (t : Conjuncts) (c : Numbered) (j v : ℕ) →
    has v (excluded_by t.kinds t.values c.marks c.len) ≡ true → column_of t c ≡
    q.put lined (q.Exclude (on_line j v)) (column_of t c)
unfolding lined payload
exc_old t c j v h = rw (h)

pub exc_new : (t : Conjuncts) (c : Numbered) (j : ℕ) → get_or t.kinds j 0 ≡ 0 → c.len < length c.marks →
    has (get_or t.values j 0) (excluded_by t.kinds t.values c.marks c.len) ≡ false →
    column_of t (pushed c j) ≡ q.put lined (q.Exclude (literal_at t.values j)) (column_of t c)
unfolding lined payload
exc_new t c j k l h = rw (
  h,
  excl_push t.kinds t.values c.marks c.len j l,
  all_push t.kinds t.starts
      t.counts t.pool c.marks c.len j l,
  any_push t.kinds t.starts t.counts t.pool c.marks
      c.len j l,
  k,
)

pub allow_old : (t : Conjuncts) (c : Numbered) (j : ℕ) → marked c.marks c.len j ≡ true →
    get_or t.kinds j 0 ≡ 1 → column_of t c ≡ q.put lined (q.Allow (values_of t.starts t.counts t.pool j))
    (column_of t c)
allow_old t c j h k = rw (within_same (allowed_by t.kinds t.starts t.counts t.pool c.marks c.len)
    (values_of t.starts t.counts t.pool j) (all_within t.kinds t.starts t.counts t.pool c.marks
    c.len j h k))

pub allow_new : (t : Conjuncts) (c : Numbered) (j : ℕ) → c.len < length c.marks → get_or t.kinds j 0 ≡
    1 → column_of t (pushed c j) ≡ q.put lined (q.Allow (values_of t.starts t.counts t.pool j)) (column_of t c)
allow_new t c j l k = rw (
  excl_push t.kinds t.values c.marks c.len j l,
  all_push t.kinds t.starts
      t.counts t.pool c.marks c.len j l,
  any_push t.kinds t.starts t.counts t.pool c.marks
      c.len j l,
  k,
)

pub dis_old : (t : Conjuncts) (c : Numbered) (j : ℕ) → marked c.marks c.len j ≡ true →
    get_or t.kinds j 0 ≡ 2 → column_of t c ≡
    q.put lined (q.Disallow false (values_of t.starts t.counts t.pool j)) (column_of t c)
dis_old t c j h k = rw (
  extend-subset lined (disallowed_by t.kinds t.starts t.counts t.pool c.marks
      c.len) (values_of t.starts t.counts t.pool j)
      (any-within t.kinds t.starts t.counts t.pool c.marks c.len j h k),
  or-false c.strict,
)

pub dis_new : (t : Conjuncts) (c : Numbered) (j : ℕ) → c.len < length c.marks → get_or t.kinds j 0 ≡ 2 →
    column_of t (pushed c j) ≡ q.put lined (q.Disallow false (values_of t.starts t.counts t.pool j))
    (column_of t c)
dis_new t c j l k = rw (
  excl_push t.kinds t.values c.marks c.len j l,
  all_push t.kinds t.starts
      t.counts t.pool c.marks c.len j l,
  any_push t.kinds t.starts t.counts t.pool c.marks
      c.len j l,
  k,
  or-false c.strict,
)

-- ---- the walk for a disallowed value
pub any_step : (ks ss cs ps a : List ℕ) (v : ℕ) (n : ℕ) → has v (disallowed_by ks ss cs ps a (suc n)) ≡
    (has v (disallowed_by ks ss cs ps a n) || (of_kind ks 2 (get_or a n 0) && given v (list_of ss cs ps (get_or a n 0))))
unfolding disallowed_by gather
any_step ks ss cs ps a v n = go (of_kind ks 2 (get_or a n 0))
  where
    go : (x : Bool) → has v (cond x (extend lined (disallowed_by ks ss cs ps a n) (values_of ss cs ps (get_or a n 0)))
        (disallowed_by ks ss cs ps a n)) ≡
        (has v (disallowed_by ks ss cs ps a n) || (x && given v (list_of ss cs ps (get_or a n 0))))
    go true = contains-extend lined (payload.key v) (disallowed_by ks ss cs ps a n) (values_of ss cs ps (get_or a n 0)) ∙
        ap (λ b. has v (disallowed_by ks ss cs ps a n) || b) (contains-values (payload.key v) ss cs ps (get_or a n 0))
    go false = sym (or-false (has v (disallowed_by ks ss cs ps a n)))

pub any_none : (ks ss cs ps a : List ℕ) (v : ℕ) → has v (disallowed_by ks ss cs ps a 0) ≡ false
unfolding disallowed_by gather
any_none ks ss cs ps a v = refl

pub any-more : (ks ss cs ps a : List ℕ) (v : ℕ) (i : ℕ) → has v (disallowed_by ks ss cs ps a i) ≡ false →
    (of_kind ks 2 (get_or a i 0) && given v (list_of ss cs ps (get_or a i 0))) ≡ false →
    has v (disallowed_by ks ss cs ps a (i + 1)) ≡ false
any-more ks ss cs ps a v i h e = more (λ n. has v (disallowed_by ks ss cs ps a n))
    (λ n. (of_kind ks 2 (get_or a n 0) && given v (list_of ss cs ps (get_or a n 0)))) (any_step ks ss cs ps a v) i h e

pub any_found : (ks ss cs ps a : List ℕ) (v : ℕ) (i n : ℕ) → i < n →
    (of_kind ks 2 (get_or a i 0) && given v (list_of ss cs ps (get_or a i 0))) ≡ true → true ≡
    has v (disallowed_by ks ss cs ps a n)
any_found ks ss cs ps a v i n l e = found (λ n. has v (disallowed_by ks ss cs ps a n))
    (λ n. (of_kind ks 2 (get_or a n 0) && given v (list_of ss cs ps (get_or a n 0)))) (any_step ks ss cs ps a v) i n l e

pub any-done : (ks ss cs ps a : List ℕ) (v : ℕ) (i n : ℕ) → i ≤ n → n ≤ i → has v (disallowed_by ks ss cs ps a i) ≡
    false → false ≡ has v (disallowed_by ks ss cs ps a n)
any-done ks ss cs ps a v i n l g h = done (λ n. has v (disallowed_by ks ss cs ps a n)) i n l g h

-- ---- the walk for a value in every allowed list
is_allowed-common : (o : Option (List Lined)) (l : List Lined) (k : ℤ) → contains lined k (q.common lined o l) ≡
    (is_allowed lined o k && contains lined k l)
is_allowed-common none l k = refl
is_allowed-common (some m) l k = contains-retain lined k l m

pub all_step : (ks ss cs ps a : List ℕ) (v n : ℕ) → is_allowed lined (allowed_by ks ss cs ps a (suc n)) (payload.key v) ≡
    (is_allowed lined (allowed_by ks ss cs ps a n) (payload.key v) && not
    (of_kind ks 1 (get_or a n 0) && not (given v (list_of ss cs ps (get_or a n 0)))))
unfolding allowed_by gather
all_step ks ss cs ps a v n = go (of_kind ks 1 (get_or a n 0))
  where
    go : (x : Bool) → is_allowed lined
        (cond x (some (q.common lined (allowed_by ks ss cs ps a n) (values_of ss cs ps (get_or a n 0))))
        (allowed_by ks ss cs ps a n)) (payload.key v) ≡
        (is_allowed lined (allowed_by ks ss cs ps a n) (payload.key v) && not
        (x && not (given v (list_of ss cs ps (get_or a n 0)))))
    go true = is_allowed-common (allowed_by ks ss cs ps a n) (values_of ss cs ps (get_or a n 0)) (payload.key v) ∙
        ap (λ b. is_allowed lined (allowed_by ks ss cs ps a n) (payload.key v) && b)
        (contains-values (payload.key v) ss cs ps (get_or a n 0) ∙
        sym (not-not (given v (list_of ss cs ps (get_or a n 0)))))
    go false = sym (and-true (is_allowed lined (allowed_by ks ss cs ps a n) (payload.key v)))

pub all_none : (ks ss cs ps a : List ℕ) (v : ℕ) → is_allowed lined (allowed_by ks ss cs ps a 0) (payload.key v) ≡
    true
unfolding allowed_by gather
all_none ks ss cs ps a v = refl

pub all_more : (ks ss cs ps a : List ℕ) (v i : ℕ) → is_allowed lined (allowed_by ks ss cs ps a i) (payload.key v) ≡
    true → (of_kind ks 1 (get_or a i 0) && not (given v (list_of ss cs ps (get_or a i 0)))) ≡ false →
    is_allowed lined (allowed_by ks ss cs ps a (i + 1)) (payload.key v) ≡ true
all_more ks ss cs ps a v i h e = rw (add-one, all_step ks ss cs ps a v i, h, e)

pub all_fails : (ks ss cs ps a : List ℕ) (v i n : ℕ) → i < n →
    (of_kind ks 1 (get_or a i 0) && not (given v (list_of ss cs ps (get_or a i 0)))) ≡ true → false ≡
    is_allowed lined (allowed_by ks ss cs ps a n) (payload.key v)
all_fails ks ss cs ps a v i zero l e = absurd (not-suc-le-zero l)
all_fails ks ss cs ps a v i (suc n) l e = ⊎_elim
    (λ p. sym (all_step ks ss cs ps a v n ∙
    rw (← p, e) (and-false (is_allowed lined (allowed_by ks ss cs ps a i) (payload.key v)))))
    (λ k. sym (all_step ks ss cs ps a v n ∙ rw (← all_fails ks ss cs ps a v i n k e)))
    (eq-or-lt_of_le (le_of_suc-le-suc l))

pub all_done : (ks ss cs ps a : List ℕ) (v i n : ℕ) → i ≤ n → n ≤ i → is_allowed lined (allowed_by ks ss cs ps a i)
    (payload.key v) ≡ true → true ≡ is_allowed lined (allowed_by ks ss cs ps a n) (payload.key v)
all_done ks ss cs ps a v i n l g h =
    subst (λ (k : ℕ). true ≡ is_allowed lined (allowed_by ks ss cs ps a k) (payload.key v)) (le_antisymm l g) (sym h)

-- ---- an impossible column takes nothing, another one does
pub live_add : (a : q.Constraint Lined) (cc : q.ColumnConstraints Lined) → cc.unsat ≡ false → q.put lined a cc ≡
    q.add lined a cc
live_add a cc u = sym (ap (λ b. cond b cc (q.put lined a cc)) u)

pub dead-add : (a : q.Constraint Lined) (cc : q.ColumnConstraints Lined) → cc.unsat ≡ true → cc ≡ q.add lined a cc
dead-add a cc u = sym (ap (λ b. cond b cc (q.put lined a cc)) u)

-- ---- a negated is_in that drops nulls
abbrev with_strict : q.ColumnConstraints Lined → Bool → q.ColumnConstraints Lined
with_strict cc s = record {
  lower = cc.lower;
  upper = cc.upper;
  excluded = cc.excluded;
  allowed =
      cc.allowed;
  disallowed = cc.disallowed;
  strict = s;
  nullability = cc.nullability;
  unsat = cc.unsat;
}

empty-count : (ps : List ℕ) (j s n : ℕ) → ltb 0 n ≡ not (is_empty (map (on_line j) (values_from ps s n)))
unfolding values_from
empty-count ps j s zero = refl
empty-count ps j s (suc n) = lt-ltb 0 (suc n) (omega arith)

pub strict-add : (t : Conjuncts) (c d : Numbered) (j : ℕ) (s : Bool) (n : ℕ) → column_of t d ≡
    q.put lined (q.Disallow false (values_of t.starts t.counts t.pool j)) (column_of t c) →
    c.unsat ≡ false → n ≡ get_or t.counts j 0 → with_strict (column_of t d) (d.strict || (s && ltb 0 n)) ≡
    q.add lined (q.Disallow s (values_of t.starts t.counts t.pool j)) (column_of t c)
unfolding list_of values_of
strict-add t c d j s n e u k =
    ap (λ x. with_strict x (x.strict || (s && ltb 0 n))) e
    ∙ ap (λ x. with_strict (q.put lined (q.Disallow false (values_of t.starts t.counts t.pool j))
    (column_of t c)) (x || (s && ltb 0 n))) (or-false c.strict)
    ∙ ap (λ x. with_strict (q.put lined (q.Disallow false (values_of t.starts t.counts t.pool j))
    (column_of t c)) (c.strict || (s && x))) (ap (λ m. ltb 0 m) k ∙ empty-count t.pool j (get_or t.starts j 0)
    (get_or t.counts j 0))
    ∙ live_add (q.Disallow s (values_of t.starts t.counts t.pool j)) (column_of t c) u

-- The tables say what the conjuncts say.
use mathlib.Core.Path.{◌≡◌, refl, sym, ◌∙◌, ap, subst}
use mathlib.Core.Bool.{Bool, true, false, not, ◌&&◌, ◌||◌, cond, true≢false}
use mathlib.Core.Option.{Option, none, some}
use mathlib.Core.List.{List, [], ◌∷◌}
use Prim.Native.Nat.{ℕ, zero, suc, ◌+◌, ◌*◌, ◌/◌, ◌%◌, ◌≤◌, ◌<◌}
use native.Mathlib.Omega.{arith}
use lib.Dec.{eqb}
use lib.ListN.{length, get_or, set, drop, length-set}
use lib.Seq.{get_or-set_same, get_or-set_other}
use borrow.Author.Tests.{eqb-true, eqb-false, not-true}
use Rattle.records.specs.Bytes.{word}
use Rattle.records.specs.Operator.{operators, operator_at, code_of, is_left_out, is_null_propagating_comparison, swap_operands}
use Rattle.records.specs.declared.operator.Operator.{Operator}
use Rattle.records.specs.declared.operator.Operator.TheVariants as operator
use Rattle.records.specs.declared.record.Node.{Node}
use Rattle.records.proofs.Laws.{by-test, and_left, and_right}
use Rattle.truth.specs.Comparison as truth
use Rattle.truth.specs.FromBytes.{values_from, aexpr_of}
use Rattle.constraints.specs.Column.{Constraint, Lower, Upper, Exclude, Allow, Disallow, Require}
use Rattle.column_constraints.specs.Abstraction.{Conjuncts, conjuncts_of, conjuncts, list_of, marked, Fine}
use Rattle.column_constraints.specs.Abstraction.{list_in, kinds_in, values_in, starts_in, counts_in}
use Rattle.column_constraints.proofs.Words.{kind-read, value_read, list_held, start-read, count-read, each-kept}
use Rattle.merge.specs.Classify as c
use Rattle.read_operands.specs.Read.{says_in, conjunct_in}
use Rattle.rewrite.specs.Told.{said_by, kind_of, Worded, Holds, Told, ToldConjunct}
use Rattle.read_operands.specs.declared.operands.Comparison.TheVariants.{Eq, NotEq, Lt, LtEq, Gt, GtEq}
use Rattle.read_operands.specs.declared.operands.Says.{Says}
use Rattle.read_operands.specs.declared.operands.Says.TheVariants as says
use Rattle.read_operands.specs.declared.operands.Conjunct.{Conjunct}
use Rattle.read_operands.specs.declared.operands.Conjunct.TheVariants as conjunct
use Rattle.read_operands.proofs.Reading.{binary-read}

list-told : (ss cs p : List ℕ) (j start count : ℕ) → get_or ss j 0 ≡ start → get_or cs j 0 ≡ count
    → list_of ss cs p j ≡ values_from p start count
unfolding list_of
list-told ss cs p j start count e f = rw (e, f)

-- Two words of the table say what a conjunct says.
module _ (told p : List ℕ) (j : ℕ) (h : j < length told / 2) where
  list-here : (start count : ℕ) → (eqb (get_or told (2 * j + 1) 0) 1 || eqb (get_or told (2 * j + 1) 0) 2) ≡ true
      → get_or told (2 * j) 0 % 4294967296 ≡ start → get_or told (2 * j) 0 / 4294967296 ≡ count
      → list_of (starts_in told) (counts_in told) p j ≡ values_from p start count
  list-here start count e d f =
      list-told (starts_in told) (counts_in told) p j start count
      (sym (start-read told j) ∙ ap (λ w. w % 4294967296) (sym (list_held told j h e)) ∙ d)
      (sym (count-read told j) ∙ ap (λ w. w / 4294967296) (sym (list_held told j h e)) ∙ f)

  says-told : (s : Says) → get_or told (2 * j + 1) 0 ≡ kind_of s → Worded s (get_or told (2 * j) 0)
      → Told (conjuncts told p) j (says_in p s)
  says-told says.Nothing a b = tt
  says-told (says.Compare Eq v) a b = (tt, (tt, tt))
  says-told (says.Compare NotEq v) a b = ((sym (kind-read told j h) ∙ a, sym (value_read told j h) ∙ b), tt)
  says-told (says.Compare Lt v) a b = (tt, tt)
  says-told (says.Compare LtEq v) a b = (tt, tt)
  says-told (says.Compare Gt v) a b = (tt, tt)
  says-told (says.Compare GtEq v) a b = (tt, tt)
  says-told (says.Between ends v w) a b = (tt, (tt, tt))
  says-told (says.Allow start count) a b =
      ((sym (kind-read told j h) ∙ a, list-here start count (rw a) b.0 b.1), tt)
  says-told (says.Disallow strict start count) a b =
      ((sym (kind-read told j h) ∙ a, list-here start count (rw a) b.0 b.1), tt)
  says-told (says.Require must) a b = (tt, tt)

  told-by : (n : ℕ) (k : Conjunct) → get_or told (2 * j + 1) 0 ≡ kind_of (said_by k) → Worded (said_by k) (get_or told (2 * j) 0)
      → ToldConjunct (conjuncts told p) j (conjunct_in p n k)
  told-by n (conjunct.Bounds a s) = says-told s
  told-by n (conjunct.Normalized a s) = says-told s
  told-by n (conjunct.Equality a b) = λ i l. tt
  told-by n (conjunct.Recorded stops a s) = says-told s
  told-by n (conjunct.NonNullPair a b) = λ i l. tt
  told-by n conjunct.Opaque = λ i l. tt

module _ (ks vs ss cs p : List ℕ) (j : ℕ) where
  abbrev here : Conjuncts
  here = conjuncts_of ks vs ss cs p

  -- Tables that agree at j say the same of it.
  module _ (ks' vs' ss' cs' : List ℕ) (ek : get_or ks' j 0 ≡ get_or ks j 0) (ev : get_or vs' j 0 ≡ get_or vs j 0)
      (es : get_or ss' j 0 ≡ get_or ss j 0) (ec : get_or cs' j 0 ≡ get_or cs j 0) where
    same-list : list_of ss' cs' p j ≡ list_of ss cs p j
    unfolding list_of
    same-list = rw (es, ec)

    same-holds : (a : Constraint ℕ) → Holds here j a → Holds (conjuncts_of ks' vs' ss' cs' p) j a
    same-holds (Lower inclusive v) h = tt
    same-holds (Upper inclusive v) h = tt
    same-holds (Exclude v) h = (ek ∙ h.0, ev ∙ h.1)
    same-holds (Allow l) h = (ek ∙ h.0, same-list ∙ h.1)
    same-holds (Disallow strict l) h = (ek ∙ h.0, same-list ∙ h.1)
    same-holds (Require must) h = tt

    same-told : (l : List (Constraint ℕ)) → Told here j l → Told (conjuncts_of ks' vs' ss' cs' p) j l
    same-told [] h = tt
    same-told (a ∷ l) h = (same-holds a h.0, same-told l h.1)

    pub same-conjunct : (x : c.Conjunct ℕ) → ToldConjunct here j x → ToldConjunct (conjuncts_of ks' vs' ss' cs' p) j x
    same-conjunct (c.Bounds a l) h = same-told l h
    same-conjunct (c.Normalized a l) h = same-told l h
    same-conjunct (c.Equality a b n) h = tt
    same-conjunct (c.Recorded stops n a l) h = same-told l h
    same-conjunct (c.NonNullPair n a b) h = tt
    same-conjunct (c.Opaque n) h = tt

-- The same of the table that is lent.
same-words : (s t p : List ℕ) (j : ℕ) → j < length s / 2 → j < length t / 2
    → get_or s (2 * j) 0 ≡ get_or t (2 * j) 0 → get_or s (2 * j + 1) 0 ≡ get_or t (2 * j + 1) 0
    → (x : c.Conjunct ℕ) → ToldConjunct (conjuncts t p) j x → ToldConjunct (conjuncts s p) j x
unfolding kinds_in values_in starts_in counts_in
same-words s t p j hs ht ew ek x =
    same-conjunct (kinds_in t) (values_in t) (starts_in t) (counts_in t) p j (kinds_in s) (values_in s) (starts_in s) (counts_in s)
    (each-kept (λ w k. k) s t j hs ht ew ek) (each-kept (λ w k. w) s t j hs ht ew ek)
    (each-kept (λ w k. list_in w k % 4294967296) s t j hs ht ew ek)
    (each-kept (λ w k. list_in w k / 4294967296) s t j hs ht ew ek) x

-- The table of the first i nodes.
abbrev pub Filled : List ℕ → List ℕ → List ℕ → ℕ → Type 0
Filled rs nodes told i = (p : List ℕ) (m : ℕ) → m < i
    → ToldConjunct (conjuncts told p) m (c.classify (aexpr_of rs p) (get_or nodes m 0))

-- One node more.
pub filled_more : (rs nodes told : List ℕ) (i : ℕ) (k : Conjunct) (s : Says) (word kind : ℕ) → 2 * i + 1 < length told
    → ((p : List ℕ) → conjunct_in p (get_or nodes i 0) k ≡ c.classify (aexpr_of rs p) (get_or nodes i 0))
    → s ≡ said_by k → Worded s word → kind ≡ kind_of s → Filled rs nodes told i
    → Filled rs nodes (set (set told (2 * i) word) (2 * i + 1) kind) (i + 1)
filled_more rs nodes told i k s word kind l ek es ew ea f p m w =
    by-test (eqb m i) here-now before
  where
    after : List ℕ
    after = set (set told (2 * i) word) (2 * i + 1) kind

    size : length after ≡ length told
    size = length-set (set told (2 * i) word) (2 * i + 1) kind ∙ length-set told (2 * i) word

    word_at : get_or after (2 * i) 0 ≡ word
    word_at =
        get_or-set_other (set told (2 * i) word) (2 * i + 1) (2 * i) kind 0 (λ z. omega (arith, z))
        ∙ get_or-set_same told (2 * i) word 0 (omega (arith, l))

    kind_at : get_or after (2 * i + 1) 0 ≡ kind
    kind_at =
        get_or-set_same (set told (2 * i) word) (2 * i + 1) kind 0 (omega (arith, l, length-set told (2 * i) word))

    here-now : eqb m i ≡ true → ToldConjunct (conjuncts after p) m (c.classify (aexpr_of rs p) (get_or nodes m 0))
    here-now q =
        subst (λ g. ToldConjunct (conjuncts after p) g (c.classify (aexpr_of rs p) (get_or nodes g 0))) (sym (eqb-true m i q))
        (subst (ToldConjunct (conjuncts after p) i) (ek p)
        (told-by after p i (omega (arith, l, size)) (get_or nodes i 0) k (kind_at ∙ ea ∙ ap kind_of es)
        (subst (Worded (said_by k)) (sym word_at) (subst (λ x. Worded x word) es ew))))

    before : eqb m i ≡ false → ToldConjunct (conjuncts after p) m (c.classify (aexpr_of rs p) (get_or nodes m 0))
    before q =
        let z : (m ≡ i → ⊥) = eqb-false m i q in
        same-words after told p m (omega (arith, l, w, size)) (omega (arith, l, w))
        (get_or-set_other (set told (2 * i) word) (2 * i + 1) (2 * m) kind 0 (λ y. omega (arith, y))
        ∙ get_or-set_other told (2 * i) (2 * m) word 0 (λ y. z (omega (arith, y))))
        (get_or-set_other (set told (2 * i) word) (2 * i + 1) (2 * m + 1) kind 0 (λ y. z (omega (arith, y)))
        ∙ get_or-set_other told (2 * i) (2 * m + 1) word 0 (λ y. omega (arith, y)))
        (c.classify (aexpr_of rs p) (get_or nodes m 0)) (f p m (omega (arith, z, w)))

-- What stands behind is as it was.
pub kept-behind : (told old : List ℕ) (i n word kind : ℕ) → i < n
    → ((m : ℕ) → 2 * n ≤ m → get_or told m 0 ≡ get_or old m 0)
    → (m : ℕ) → 2 * n ≤ m → get_or (set (set told (2 * i) word) (2 * i + 1) kind) m 0 ≡ get_or old m 0
kept-behind told old i n word kind h f m l =
    get_or-set_other (set told (2 * i) word) (2 * i + 1) m kind 0 (λ y. omega (arith, y, h, l))
    ∙ get_or-set_other told (2 * i) m word 0 (λ y. omega (arith, y, h, l)) ∙ f m l

-- ---- A binary record whose operator is not != excludes no value and has no list: its place in the tables may hold
-- anything.
abbrev excludes : Option truth.Comparison → Bool
excludes none = false
excludes (some truth.Eq) = false
excludes (some truth.NotEq) = true
excludes (some truth.Lt) = false
excludes (some truth.LtEq) = false
excludes (some truth.Gt) = false
excludes (some truth.GtEq) = false

abbrev excludes_as : Operator → Bool
excludes_as o = excludes (c.ordinary_comparison o)

abbrev none_excludes : List Operator → Bool
none_excludes [] = true
none_excludes (o ∷ l) = not (excludes_as o) && none_excludes l

quiet-in : (l : List Operator) (n : ℕ) → none_excludes l ≡ true → excludes_as (get_or l n operator.Eq) ≡ false
quiet-in [] n h = refl
quiet-in (o ∷ l) zero h = not-true (excludes_as o) (and_left (not (excludes_as o)) (none_excludes l) h)
quiet-in (o ∷ l) (suc n) h = quiet-in l n (and_right (not (excludes_as o)) (none_excludes l) h)

quiet-code : (code : ℕ) → (code ≡ 2 → ⊥) → excludes_as (operator_at code) ≡ false
unfolding operator_at
quiet-code zero h = refl
quiet-code (suc zero) h = refl
quiet-code (suc (suc zero)) h = absurd (h refl)
quiet-code (suc (suc (suc n))) h = quiet-in (drop 3 operators) n refl

module _ (t : Conjuncts) (j n : ℕ) where
  quiet-literal : (a v : ℕ) (k : Option truth.Comparison) → excludes k ≡ false
      → ToldConjunct t j (c.classify_column_literal n a v k)
  quiet-literal a v none h = tt
  quiet-literal a v (some truth.Eq) h = (tt, (tt, tt))
  quiet-literal a v (some truth.NotEq) h = absurd (true≢false h)
  quiet-literal a v (some truth.Lt) h = (tt, tt)
  quiet-literal a v (some truth.LtEq) h = (tt, tt)
  quiet-literal a v (some truth.Gt) h = (tt, tt)
  quiet-literal a v (some truth.GtEq) h = (tt, tt)

  quiet-swapped : (a v : ℕ) (o : Operator) → excludes_as o ≡ false
      → ToldConjunct t j (c.classify_literal_column n a v (swap_operands o))
  quiet-swapped a v operator.Eq h = (tt, (tt, tt))
  quiet-swapped a v operator.EqValidity h = tt
  quiet-swapped a v operator.NotEq h = absurd (true≢false h)
  quiet-swapped a v operator.NotEqValidity h = tt
  quiet-swapped a v operator.Lt h = (tt, tt)
  quiet-swapped a v operator.LtEq h = (tt, tt)
  quiet-swapped a v operator.Gt h = (tt, tt)
  quiet-swapped a v operator.GtEq h = (tt, tt)
  quiet-swapped a v operator.Plus h = tt
  quiet-swapped a v operator.Minus h = tt
  quiet-swapped a v operator.Multiply h = tt
  quiet-swapped a v operator.RustDivide h = tt
  quiet-swapped a v operator.TrueDivide h = tt
  quiet-swapped a v operator.FloorDivide h = tt
  quiet-swapped a v operator.Modulus h = tt
  quiet-swapped a v operator.And h = tt
  quiet-swapped a v operator.Or h = tt
  quiet-swapped a v operator.Xor h = tt
  quiet-swapped a v operator.LogicalAnd h = tt
  quiet-swapped a v operator.LogicalOr h = tt

  quiet-columns : (a b : ℕ) (propagates equal : Bool)
      → ToldConjunct t j (cond propagates (cond equal (c.Equality a b n) (c.NonNullPair n a b)) (c.Opaque n))
  quiet-columns a b true true = tt
  quiet-columns a b true false = tt
  quiet-columns a b false equal = tt

  quiet-compared : (o : Operator) (x y : c.Operand ℕ) → excludes_as o ≡ false
      → ToldConjunct t j (c.classify_comparison n o x y)
  quiet-compared o (c.AColumn a) (c.AColumn b) h =
      quiet-columns a b (is_null_propagating_comparison o) (eqb (code_of o) (code_of operator.Eq))
  quiet-compared o (c.AColumn a) (c.ALiteral v) h = quiet-literal a v (c.ordinary_comparison o) h
  quiet-compared o (c.AColumn a) (c.AList l) h = tt
  quiet-compared o (c.AColumn a) c.Other h = tt
  quiet-compared o (c.ALiteral v) (c.AColumn a) h = quiet-swapped a v o h
  quiet-compared o (c.ALiteral v) (c.ALiteral w) h = tt
  quiet-compared o (c.ALiteral v) (c.AList l) h = tt
  quiet-compared o (c.ALiteral v) c.Other h = tt
  quiet-compared o (c.AList l) y h = tt
  quiet-compared o c.Other y h = tt

  quiet-binary : (left_out : Bool) (k : c.Conjunct ℕ) → ToldConjunct t j k
      → ToldConjunct t j (cond left_out (c.Opaque n) k)
  quiet-binary true k h = tt
  quiet-binary false k h = h

pub quiet_told : (rs p : List ℕ) (n : Node) (t : Conjuncts) (j : ℕ) → get_or rs (16 * n.0) 0 ≡ 4
    → (get_or rs (16 * n.0 + 1) 0 ≡ 2 → ⊥) → ToldConjunct t j (c.classify (aexpr_of rs p) n.0)
quiet_told rs p n t j e h =
    let o = operator_at (get_or rs (16 * n.0 + 1) 0) in
    let x = word rs (16 * n.0 + 4) in
    let y = word rs (16 * n.0 + 8) in
    let a = c.operand (aexpr_of rs p x) in
    let b = c.operand (aexpr_of rs p y) in
    subst (ToldConjunct t j) (binary-read rs n p o x y a b e refl refl refl refl refl)
    (quiet-binary t j n.0 (is_left_out o) (c.classify_comparison n.0 o a b)
    (quiet-compared t j n.0 o a b (quiet-code (get_or rs (16 * n.0 + 1) 0) h)))

-- One node more, whose place may hold anything.
pub filled_skip : (rs nodes told : List ℕ) (i : ℕ)
    → ((t : Conjuncts) (p : List ℕ) (j : ℕ) → ToldConjunct t j (c.classify (aexpr_of rs p) (get_or nodes i 0)))
    → Filled rs nodes told i → Filled rs nodes told (i + 1)
filled_skip rs nodes told i q f p m w = by-test (eqb m i)
    (λ e. subst (λ k. ToldConjunct (conjuncts told p) m (c.classify (aexpr_of rs p) (get_or nodes k 0)))
    (sym (eqb-true m i e)) (q (conjuncts told p) p m))
    (λ e. let d = eqb-false m i e in f p m (omega (arith, w, d)))

-- A column with as many numbers.
pub fine-same : (k : ℕ) (a : List ℕ) (n m : ℕ) → m ≡ n → Fine k a n → Fine k a m
fine-same k a n m e f = subst (Fine k a) (sym e) f

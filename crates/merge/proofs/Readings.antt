-- What is read of a conjunct says what the conjunct means.
use mathlib.Core.Path.{◌≡◌, refl, sym, ◌∙◌, ap}
use mathlib.Core.Bool.{Bool, true, false, not, ◌&&◌, true≢false, and-true, cond}
use mathlib.Core.List.{List, [], ◌∷◌}
use mathlib.Core.Option.{Option, none, some, none-ne-some, some-injective}
use mathlib.Core.Logic.{◌↔◌}
use Prim.Native.Nat.{ℕ}
use lib.Dec.{leb}
use lib.ListN.{length}
use Rattle.truth.proofs.Cells.{and_is_true, cell_law}
use Rattle.membership.proofs.Memberships.{in3-known, in3-null, is_empty}
use Rattle.truth.proofs.Negations.{negate_comparison, compare-negate}
use Rattle.truth.proofs.Orders.{cmp-eq, cmp-gt, cmp-lt}
use Rattle.truth.specs.AExpr.{AExpr, BinaryExpr, Column, Compare, Inputs, IsBetween, IsIn, IsNotNull, IsNull, ListLiteral}
use Rattle.truth.specs.AExpr.{Literal, Missing, Not, Null}
use Rattle.truth.specs.Cell.{Cell, TruthKeys, cell_at, compare3, high_comparison, is_null, low_comparison, step}
use Rattle.truth.specs.Comparison.{Comparison, Eq, Gt, GtEq, Lt, LtEq, NotEq, comparison_holds}
use Rattle.three_valued.specs.Logic.{and3, is_true, not3, of_bool}
use Rattle.truth.specs.Membership.{in3, known_in3, null_in3}
use Rattle.truth.specs.Order.{View, equal_view, greater_view, less_view, is_equal}
use Rattle.three_valued.specs.declared.logic.Truth.{Truth}
use Rattle.std.specs.declared.cmp.Ordering.{Ordering}
use Rattle.std.specs.declared.cmp.Ordering.TheVariants.{Equal, Greater, Less}
use Rattle.constraints.proofs.Columns.{obeys, obeys_all, obeys_recorded_all}
use Rattle.constraints.specs.Column.{Allow, Constraint, Disallow, Lower, Require, Upper}
use Rattle.constraints.specs.Scalars.{Scalars}
use Rattle.constraints.specs.Values.{contains}
use Rattle.constraints.specs.declared.column.Nullability.{Nullability}
use Rattle.constraints.specs.declared.column.Nullability.TheVariants.{NonNull}
use Rattle.merge.proofs.Chains.{holds_at}
use Rattle.merge.proofs.Comparisons.{comparison_null, comparison_obeyed}
use Rattle.merge.proofs.Complete.{Exact}
use Rattle.merge.proofs.Sound.{Fair, Holds}
use Rattle.merge.proofs.Witness.{HalfPoints}
use Rattle.merge.specs.Classify.{AColumn, AList, ALiteral, Bounds, Conjunct, Equality, NonNullPair, Normalized}
use Rattle.merge.specs.Classify.{Opaque, Operand, Other, Recorded, classify, comparison_constraints, operand}
use Rattle.merge.proofs.Operators.{swap_comparison}
use Rattle.merge.proofs.Forms.{ReadForms, read_ind}
use Rattle.merge.proofs.PlainForms.{plain_conjunct}
use Rattle.constraints.specs.declared.column.Nullability.TheVariants as required

pub true_of : (b : Bool) → is_true (of_bool b) ≡ b
true_of true = refl
true_of false = refl

-- The list rule in a list without a null: whether a value passes is whether it is found; a null does not pass.
null_untrue : (e b : Bool) → is_true (null_in3 e false b) ≡ false
unfolding null_in3
null_untrue true b = refl
null_untrue false true = refl
null_untrue false false = refl

not-null_untrue : is_true (not3 (null_in3 false false false)) ≡ false
unfolding null_in3
not-null_untrue = refl

known-true : (e b : Bool) → is_true (known_in3 e false b) ≡ b
unfolding known_in3
known-true e true = refl
known-true true false = refl
known-true false false = refl

not-known_true : (e b : Bool) → is_true (not3 (known_in3 e false b)) ≡ not b
unfolding known_in3
not-known_true e true = refl
not-known_true true false = refl
not-known_true false false = refl

abbrev flip : Ordering → Ordering
flip Less = Greater
flip Equal = Equal
flip Greater = Less

comparison_flip : (o : Comparison) (r : Ordering) → comparison_holds o r ≡ comparison_holds (swap_comparison o) (flip r)
comparison_flip Eq Less = refl
comparison_flip Eq Equal = refl
comparison_flip Eq Greater = refl
comparison_flip NotEq Less = refl
comparison_flip NotEq Equal = refl
comparison_flip NotEq Greater = refl
comparison_flip Lt Less = refl
comparison_flip Lt Equal = refl
comparison_flip Lt Greater = refl
comparison_flip LtEq Less = refl
comparison_flip LtEq Equal = refl
comparison_flip LtEq Greater = refl
comparison_flip Gt Less = refl
comparison_flip Gt Equal = refl
comparison_flip Gt Greater = refl
comparison_flip GtEq Less = refl
comparison_flip GtEq Equal = refl
comparison_flip GtEq Greater = refl

iff_of : (a b : Bool) → a ≡ b → (a ≡ true) ↔ (b ≡ true)
iff_of a b e = (λ h. sym e ∙ h, λ h. e ∙ h)

module _ {K Val : Type 0} (S : Scalars K Val) (tk : TruthKeys S.order) where
  cmp-flip : (a b : K) → S.order.cmp b a ≡ flip (S.order.cmp a b)
  cmp-flip a b = go (S.total.view a b)
    where
      go : {o : Ordering} → View S.order.less a b o → S.order.cmp b a ≡ flip o
      go (less_view h) = cmp-gt S.total h
      go (equal_view e) = cmp-eq S.total (sym e)
      go (greater_view h) = cmp-lt S.total h

  -- ---- each kind, over a value
  pub compare-swap : (o : Comparison) (x y : Option K) → compare3 S.key S.order tk o x y ≡
      compare3 S.key S.order tk (swap_comparison o) y x
  compare-swap o none none = refl
  compare-swap o none (some b) = refl
  compare-swap o (some a) none = refl
  compare-swap o (some a) (some b) =
      ap of_bool (comparison_flip o (S.order.cmp a b) ∙ ap (comparison_holds (swap_comparison o)) (sym (cmp-flip a b)))

  pub comparison_mean : (o : Comparison) (v : Val) (x : Option K) → obeys_all S (comparison_constraints o v) x ≡
      is_true (compare3 S.key S.order tk o x (some (S.key v)))
  comparison_mean o v none = comparison_null S o v
  comparison_mean o v (some k) = comparison_obeyed S o v k ∙
      sym (true_of (comparison_holds o (S.order.cmp k (S.key v))))

  pub comparison_recorded : (o : Comparison) (v : Val) (x : Option K) → obeys_recorded_all S (comparison_constraints o v)
      x ≡ true
  comparison_recorded Eq v x = refl
  comparison_recorded NotEq v x = refl
  comparison_recorded Lt v x = refl
  comparison_recorded LtEq v x = refl
  comparison_recorded Gt v x = refl
  comparison_recorded GtEq v x = refl

  lower-mean : (c : Bool) (v : Val) (x : Option K) → obeys S (Lower c v) x ≡
      is_true (compare3 S.key S.order tk (low_comparison c) x (some (S.key v)))
  lower-mean true v x = sym (and-true (obeys S (Lower true v) x)) ∙ comparison_mean GtEq v x
  lower-mean false v x = sym (and-true (obeys S (Lower false v) x)) ∙ comparison_mean Gt v x

  upper-mean : (c : Bool) (v : Val) (x : Option K) → obeys S (Upper c v) x ≡
      is_true (compare3 S.key S.order tk (high_comparison c) x (some (S.key v)))
  upper-mean true v x = sym (and-true (obeys S (Upper true v) x)) ∙ comparison_mean LtEq v x
  upper-mean false v x = sym (and-true (obeys S (Upper false v) x)) ∙ comparison_mean Lt v x

  pub between-mean : (c d : Bool) (v w : Val) (x : Option K) → obeys_all S (Lower c v ∷ (Upper d w ∷ [])) x ≡
      is_true (and3 (compare3 S.key S.order tk (low_comparison c) x (some (S.key v)))
      (compare3 S.key S.order tk (high_comparison d) x (some (S.key w))))
  between-mean c d v w x = ap (λ t. obeys S (Lower c v) x && t) (and-true (obeys S (Upper d w) x) ∙ upper-mean d w x)
      ∙ ap (λ t. t && is_true (compare3 S.key S.order tk (high_comparison d) x (some (S.key w))))
      (lower-mean c v x) ∙ sym (and_is_true (compare3 S.key S.order tk (low_comparison c) x (some (S.key v)))
      (compare3 S.key S.order tk (high_comparison d) x (some (S.key w))))

  pub in_mean : (e : Bool) (l : List Val) (x : Option K) → obeys_all S (Allow l ∷ []) x ≡
      is_true (in3 S.key S.order e false l x)
  in_mean e l none = sym (ap is_true (in3-null S.key S.order e false l) ∙ null_untrue e (is_empty l))
  in_mean e l (some k) = and-true (contains S k l) ∙
      sym (ap is_true (in3-known S.key S.order e false l k) ∙ known-true e (contains S k l))

  pub not-in_mean : (e : Bool) (l : List Val) (x : Option K) → obeys_all S (Disallow (not e) l ∷ []) x ≡
      is_true (not3 (in3 S.key S.order e false l x))
  not-in_mean true l none = refl
  not-in_mean false [] none = refl
  not-in_mean false (v ∷ l) none =
      sym (ap (λ t. is_true (not3 t)) (in3-null S.key S.order false false (v ∷ l)) ∙ not-null_untrue)
  not-in_mean e l (some k) = and-true (not (contains S k l)) ∙
      sym (ap (λ t. is_true (not3 t)) (in3-known S.key S.order e false l k) ∙ not-known_true e (contains S k l))

  pub null_mean : (x : Option K) → obeys_all S (Require required.Null ∷ []) x ≡ is_true (of_bool (is_null x))
  null_mean none = refl
  null_mean (some k) = refl

  pub non_null_mean : (x : Option K) → obeys_all S (Require NonNull ∷ []) x ≡ is_true (of_bool (not (is_null x)))
  non_null_mean none = refl
  non_null_mean (some k) = refl

  pub not-null_mean : (x : Option K) → obeys_all S (Require NonNull ∷ []) x ≡ is_true (not3 (of_bool (is_null x)))
  not-null_mean none = refl
  not-null_mean (some k) = refl

  pub not-non_null_mean : (x : Option K) → obeys_all S (Require required.Null ∷ []) x ≡
      is_true (not3 (of_bool (not (is_null x))))
  not-non_null_mean none = refl
  not-non_null_mean (some k) = refl

  pub eq-mean : (x y : Option K) → (is_true (compare3 S.key S.order tk Eq x y) ≡ true) ↔
      ((k : K) × (x ≡ some k) × (y ≡ some k))
  eq-mean none y = (λ h. absurd (true≢false (sym h)), λ s. absurd (none-ne-some s.0 s.1))
  eq-mean (some a) none = (λ h. absurd (true≢false (sym h)), λ s. absurd (none-ne-some s.0 s.2))
  eq-mean (some a) (some b) = (
    λ h. fwd (S.total.view a b) (sym (true_of (is_equal (S.order.cmp a b))) ∙ h),
    λ s. ap (λ r. is_true (of_bool (is_equal r)))
        (cmp-eq S.total (some-injective a s.0 s.1 ∙ sym (some-injective b s.0 s.2))),
  )
    where
      fwd : {r : Ordering} → View S.order.less a b r → is_equal r ≡ true →
          (k : K) × (some a ≡ some k) × (some b ≡ some k)
      fwd (less_view h) e = absurd (true≢false (sym e))
      fwd (equal_view p) e = (b, ap some p, refl)
      fwd (greater_view h) e = absurd (true≢false (sym e))

  pub pair_mean : (o : Comparison) (x y : Option K) → is_true (compare3 S.key S.order tk o x y) ≡ true →
      ((k : K) × (x ≡ some k)) × ((k : K) × (y ≡ some k))
  pair_mean o none y h = absurd (true≢false (sym h))
  pair_mean o (some a) none h = absurd (true≢false (sym h))
  pair_mean o (some a) (some b) h = ((a, refl), (b, refl))

-- the node that a conjunct names, if any, is n
abbrev pub Names : {Val : Type 0} → ℕ → Conjunct Val → Type 0
Names n (Bounds c l) = Unit {0}
Names n (Normalized c l) = Unit {0}
Names n (Equality a b m) = m ≡ n
Names n (Recorded z m c l) = m ≡ n
Names n (NonNullPair m a b) = m ≡ n
Names n (Opaque m) = m ≡ n

module _ {K Val : Type 0} (S : Scalars K Val) (H : HalfPoints S) (tk : TruthKeys S.order) (R : ℕ → AExpr Val)
    (wf : (n : ℕ) → Inputs n (R n)) (ρ : ℕ → Option K) where
  abbrev pub N : ℕ → Bool
  N n = holds_at S tk R wf ρ n

  abbrev pub E : ℕ → Cell K Val
  E n = cell_at S.key S.order tk R ρ n

  -- a conjunct c that is read of node n, where p says whether n is plain
  abbrev pub ReadsAs : ℕ → Bool → Conjunct Val → Type 0
  ReadsAs n p c = (Holds S ρ N c ↔ (N n ≡ true)) × Fair S ρ N c × (p ≡ true → Exact S H ρ N c) × Names n c

  -- what is known of an operand's cell
  abbrev Shaped : Operand Val → Cell K Val → Type 0
  Shaped (AColumn c) p = p.value ≡ ρ c
  Shaped (ALiteral v) p = p.value ≡ some (S.key v)
  Shaped (AList l) p = (p.holds_null ≡ false) × (p.values ≡ l)
  Shaped Other p = Unit {0}

  shaped : (r : AExpr Val) (p : Cell K Val) → p ≡ step S.key S.order tk ρ E r → Shaped (operand r) p
  shaped (Column c) p e = ap (λ q. q.value) e
  shaped (Literal v) p e = ap (λ q. q.value) e
  shaped Null p e = tt
  shaped (BinaryExpr b x y) p e = tt
  shaped (Not x) p e = tt
  shaped (IsNull x) p e = tt
  shaped (IsNotNull x) p e = tt
  shaped (IsBetween c d x y z) p e = tt
  shaped (ListLiteral h l) p e = go h (leb (length l) 100) (ap (λ q. q.holds_null) e)
    where
      go : (h b : Bool) → p.holds_null ≡ h → Shaped (cond (not h && b) (AList l) Other) p
      go true b m = tt
      go false true m = (m, ap (λ q. q.values) e)
      go false false m = tt
  shaped (IsIn c x y) p e = tt
  shaped Missing p e = tt

  seen : (x : ℕ) → Shaped (operand (R x)) (E x)
  seen x = shaped (R x) (E x) (cell_law S.key S.order tk R ρ x (wf x))

  -- a node kept as it is, nothing told
  apart : (n : ℕ) → ReadsAs n false (Opaque n)
  apart n = ((λ h. h, λ h. h), tt, (λ h. absurd (true≢false (sym h))), refl)

  -- the same where the truth is told by a column
  keeps : (z : Bool) (n c : ℕ) (a : Constraint Val) (p : Bool) → obeys_all S (a ∷ []) (ρ c) ≡ N n →
      ReadsAs n p (Recorded z n c (a ∷ []))
  keeps z n c a p e = ((λ h. h, λ h. h), (λ h. e ∙ h), (λ q h. sym e ∙ h), refl)

  enters : (n c : ℕ) → ReadsAs n false (Recorded false n c [])
  enters n c = ((λ h. h, λ h. h), (λ h. refl), (λ h. absurd (true≢false (sym h))), refl)

  bounds : (n c : ℕ) (l : List (Constraint Val)) (p : Bool) → obeys_all S l (ρ c) ≡ N n →
      ((x : Option K) → obeys_recorded_all S l x ≡ true) → ReadsAs n p (Bounds c l)
  bounds n c l p e m = (iff_of (obeys_all S l (ρ c)) (N n) e, m, (λ h. tt), tt)

  abbrev is : ℕ → Truth → Type 0
  is n t = N n ≡ is_true t

  -- ---- each form, over the operands' cells p, q, r
  reads-compared : (n : ℕ) (o : Comparison) (c : ℕ) (v : Val) (p q : Cell K Val) → p.value ≡ ρ c →
      q.value ≡ some (S.key v) → is n (compare3 S.key S.order tk o p.value q.value) →
      ReadsAs n true (Bounds c (comparison_constraints o v))
  reads-compared n o c v p q a b e = bounds n c (comparison_constraints o v) true
      (comparison_mean S tk o v (ρ c) ∙ sym (e ∙ rw (a, b))) (comparison_recorded S tk o v)

  reads-swapped : (n : ℕ) (o : Comparison) (c : ℕ) (v : Val) (p q : Cell K Val) → p.value ≡ some (S.key v) →
      q.value ≡ ρ c → is n (compare3 S.key S.order tk o p.value q.value) →
      ReadsAs n true (Bounds c (comparison_constraints (swap_comparison o) v))
  reads-swapped n o c v p q a b e = bounds n c (comparison_constraints (swap_comparison o) v) true
      (comparison_mean S tk (swap_comparison o) v (ρ c) ∙
      sym (e ∙ rw (a, b) (ap is_true (compare-swap S tk o (some (S.key v)) (ρ c)))))
      (comparison_recorded S tk (swap_comparison o) v)

  reads-equal : (n a b : ℕ) (p q : Cell K Val) → p.value ≡ ρ a → q.value ≡ ρ b →
      is n (compare3 S.key S.order tk Eq p.value q.value) → ReadsAs n true (Equality a b n)
  reads-equal n a b p q i j h =
      let e : is n (compare3 S.key S.order tk Eq (ρ a) (ρ b)) = h ∙ rw (i, j) in
      let m = eq-mean S tk (ρ a) (ρ b) in
      ((λ h. h, λ h. h), (λ h. m.0 (sym e ∙ h), λ l. e ∙ m.1 l), (λ p l. e ∙ m.1 l), refl)

  reads-paired : (n : ℕ) (o : Comparison) (a b : ℕ) (p q : Cell K Val) → p.value ≡ ρ a → q.value ≡ ρ b →
      is n (compare3 S.key S.order tk o p.value q.value) → ReadsAs n false (NonNullPair n a b)
  reads-paired n o a b p q i j h =
      let e : is n (compare3 S.key S.order tk o (ρ a) (ρ b)) = h ∙ rw (i, j) in
      ((λ h. h, λ h. h), (λ h. pair_mean S tk o (ρ a) (ρ b) (sym e ∙ h)), (λ h. absurd (true≢false (sym h))), refl)

  reads-between : (n : ℕ) (i j : Bool) (c : ℕ) (v w : Val) (p q r : Cell K Val) → p.value ≡ ρ c →
      q.value ≡ some (S.key v) → r.value ≡ some (S.key w) →
      is n (and3 (compare3 S.key S.order tk (low_comparison i) p.value q.value)
      (compare3 S.key S.order tk (high_comparison j) p.value r.value)) →
      ReadsAs n true (Bounds c (Lower i v ∷ (Upper j w ∷ [])))
  reads-between n i j c v w p q r a b d e = bounds n c (Lower i v ∷ (Upper j w ∷ [])) true
      (between-mean S tk i j v w (ρ c) ∙ sym (e ∙ rw (a, b, d))) (λ x. refl)

  -- is_in and Not of it: f is what the list makes of the value, a is what it says of the column
  reads_in : (n c : ℕ) (a : Constraint Val) (l : List Val) (f : Bool → List Val → Option K → Truth) →
      ((x : Option K) → obeys_all S (a ∷ []) x ≡ is_true (f false l x)) → (p q : Cell K Val) → p.value ≡ ρ c →
      Shaped (AList l) q → is n (f q.holds_null q.values p.value) →
      ReadsAs n true (Recorded false n c (a ∷ []))
  reads_in n c a l f m p q i j e = keeps false n c a true (m (ρ c) ∙ sym (e ∙ rw (i, j.0, j.1)))

  reads-null : (n c : ℕ) (w : Nullability) (f : Option K → Truth) →
      ((x : Option K) → obeys_all S (Require w ∷ []) x ≡ is_true (f x)) → (p : Cell K Val) → p.value ≡ ρ c →
      is n (f p.value) → ReadsAs n true (Recorded true n c (Require w ∷ []))
  reads-null n c w f m p i e = keeps true n c (Require w) true (m (ρ c) ∙ sym (e ∙ rw i))

  -- Not of node a, whose record is r
  negated : (n a : ℕ) (r : AExpr Val) → R a ≡ r → is n (not3 (E a).truth) →
      is n (not3 (step S.key S.order tk ρ E r).truth)
  negated n a r h e = e ∙ ap (λ c. is_true (not3 c.truth)) (cell_law S.key S.order tk R ρ a (wf a)) ∙
      ap (λ s. is_true (not3 (step S.key S.order tk ρ E s).truth)) h

  -- Not of a comparison: the complementary one, unknown where that is
  turned : (n a : ℕ) (o : Comparison) (x y : ℕ) → R a ≡ BinaryExpr (Compare o) x y → is n (not3 (E a).truth) →
      is n (compare3 S.key S.order tk (negate_comparison o) (E x).value (E y).value)
  turned n a o x y h e = negated n a (BinaryExpr (Compare o) x y) h e ∙
      ap is_true (sym (compare-negate S.key S.order tk o (E x).value (E y).value))

  -- the same, not plain
  not_plain : (n : ℕ) (c : Conjunct Val) → ReadsAs n true c → ReadsAs n false c
  not_plain n c r = (r.0, r.1, (λ h. absurd (true≢false (sym h))), r.3)

  -- a conjunct that is read of the record of node n
  abbrev Reads : ℕ → AExpr Val → Bool → Conjunct Val → Type 0
  Reads n r p c = is n (step S.key S.order tk ρ E r).truth → ReadsAs n p c

  forms : (n : ℕ) → ReadForms R n (λ x s. Shaped s (E x)) (Reads n)
  forms n =
      record {
        opaque = λ r e. apart n;
        entered = λ r x c h e. enters n c;
        compared = λ o x y c v h k e. reads-compared n o c v (E x) (E y) h k e;
        swapped = λ o x y c v h k e. reads-swapped n o c v (E x) (E y) h k e;
        equal = λ x y a b h k e. reads-equal n a b (E x) (E y) h k e;
        paired = λ o x y a b h k e. reads-paired n o a b (E x) (E y) h k e;
        not_compared = λ o a x y c v g h k e. reads-compared n (negate_comparison o) c v (E x) (E y) h k
            (turned n a o x y g e);
        not_swapped = λ o a x y c v g h k e. reads-swapped n (negate_comparison o) c v (E x) (E y) h k
            (turned n a o x y g e);
        not_unequal = λ a x y b d g h k e. not_plain n (Equality b d n)
            (reads-equal n b d (E x) (E y) h k (turned n a NotEq x y g e));
        not_paired = λ o a x y b d g h k e. reads-paired n (negate_comparison o) b d (E x) (E y) h k
            (turned n a o x y g e);
        between = λ i j x y z c v w h k l e. reads-between n i j c v w (E x) (E y) (E z) h k l e;
        listed = λ i x y c l h k e. reads_in n c (Allow l) l (λ h l z. in3 S.key S.order i h l z)
            (in_mean S tk i l) (E x) (E y) h k e;
        unlisted = λ i a x y c l g h k e. reads_in n c (Disallow (not i) l) l
            (λ h l z. not3 (in3 S.key S.order i h l z)) (not-in_mean S tk i l) (E x) (E y) h k
            (negated n a (IsIn i x y) g e);
        null = λ x c h e. reads-null n c required.Null (λ z. of_bool (is_null z)) (null_mean S tk) (E x) h e;
        non_null = λ x c h e. reads-null n c NonNull (λ z. of_bool (not (is_null z))) (non_null_mean S tk) (E x) h e;
        not_null = λ a x c g h e. reads-null n c NonNull (λ z. not3 (of_bool (is_null z))) (not-null_mean S tk) (E x) h
            (negated n a (IsNull x) g e);
        not_non_null = λ a x c g h e. reads-null n c required.Null (λ z. not3 (of_bool (not (is_null z))))
            (not-non_null_mean S tk) (E x) h (negated n a (IsNotNull x) g e);
      }

  -- what is read of node n says when it is true, and is exact where n is plain
  pub classified_rightly : (n : ℕ) → ReadsAs n (plain_conjunct R n) (classify R n)
  classified_rightly n = read_ind R n (λ x s. Shaped s (E x)) (Reads n) (forms n) seen
      (ap (λ c. is_true c.truth) (cell_law S.key S.order tk R ρ n (wf n)))

-- What is known of one column.
use mathlib.Core.Path.{◌≡◌, refl, sym, ◌∙◌, ap}
use mathlib.Core.Bool.{Bool, true, false, not, ◌&&◌, ◌||◌, and-true, and-false, and_comm, and_assoc, true≢false, cond}
use mathlib.Core.List.{List, [], ◌∷◌, ◌++◌}
use mathlib.Core.Option.{Option, none, some}
use Rattle.truth.specs.Order.{is_equal}
use Rattle.std.specs.declared.cmp.Ordering.{Ordering}
use Rattle.std.specs.declared.cmp.Ordering.TheVariants.{Equal, Greater, Less}
use Rattle.constraints.proofs.Bounds.{crossing_clears_nothing, tighten-is_intersection}
use Rattle.constraints.proofs.Sets.{contains-extend, contains-insert, contains-retain}
use Rattle.constraints.specs.Bound.{Bound, absent, at, clears, is_absent, tighten, tighten_by}
use Rattle.constraints.specs.Column.{Allow, ColumnConstraints, Constraint, Disallow, Exclude, Lower, Require}
use Rattle.constraints.specs.Column.{Upper, add, add_all, common, first_required, is_none, opposed, put}
use Rattle.constraints.specs.Resolve.{is_allowed}
use Rattle.constraints.specs.Scalars.{Scalars, opposite}
use Rattle.constraints.specs.Values.{contains, insert, is_empty}
use Rattle.constraints.specs.declared.column.Nullability.{Nullability}
use Rattle.constraints.specs.declared.column.Nullability.TheVariants.{NonNull, Null, Unconstrained}

-- the null requirement at a null, and at a value
abbrev pub null_fits : Nullability → Bool
null_fits Unconstrained = true
null_fits Null = true
null_fits NonNull = false

abbrev pub value_fits : Nullability → Bool
value_fits Unconstrained = true
value_fits Null = false
value_fits NonNull = true

pub and_left_comm : (a b c : Bool) → (a && (b && c)) ≡ (b && (a && c))
and_left_comm true b c = refl
and_left_comm false b c = sym (and-false b)

ruleset ac = (and_assoc, and_comm, and_left_comm)

-- a conjunct that comes first, second or third among three goes to the end
pub at_1 : (a d b c : Bool) → ((a && d) && (b && c)) ≡ ((a && (b && c)) && d)
at_1 a d b c = simp ac

pub at-2 : (a b d c : Bool) → (a && ((b && d) && c)) ≡ ((a && (b && c)) && d)
at-2 a b d c = simp ac

pub at-3 : (a b c d : Bool) → (a && (b && (c && d))) ≡ ((a && (b && c)) && d)
at-3 a b c d = simp ac

pub gone : (a b c d : Bool) → (a && b) ≡ false → ((a && (b && c)) && d) ≡ false
gone true true c d e = absurd (true≢false e)
gone true false c d e = refl
gone false b c d e = refl

pub null_fits_lem : (m n : Nullability) → opposed m n ≡ false → null_fits (first_required m n) ≡ (null_fits m && null_fits n)
null_fits_lem Unconstrained n e = refl
null_fits_lem Null Unconstrained e = refl
null_fits_lem Null Null e = refl
null_fits_lem Null NonNull e = absurd (true≢false e)
null_fits_lem NonNull n e = refl

pub value-fits : (m n : Nullability) → opposed m n ≡ false → value_fits (first_required m n) ≡
    (value_fits m && value_fits n)
value-fits Unconstrained n e = refl
value-fits NonNull Unconstrained e = refl
value-fits NonNull NonNull e = refl
value-fits NonNull Null e = absurd (true≢false e)
value-fits Null n e = refl

pub opposed-null : (m n : Nullability) → opposed m n ≡ true → (null_fits m && null_fits n) ≡ false
opposed-null Unconstrained n e = absurd (true≢false (sym e))
opposed-null Null Unconstrained e = absurd (true≢false (sym e))
opposed-null Null Null e = absurd (true≢false (sym e))
opposed-null Null NonNull e = refl
opposed-null NonNull n e = refl

pub opposed-value : (m n : Nullability) → opposed m n ≡ true → (value_fits m && value_fits n) ≡ false
opposed-value Unconstrained n e = absurd (true≢false (sym e))
opposed-value NonNull Unconstrained e = absurd (true≢false (sym e))
opposed-value NonNull NonNull e = absurd (true≢false (sym e))
opposed-value NonNull Null e = refl
opposed-value Null n e = refl

pub gone-3 : (a b c d e : Bool) → (d && e) ≡ false → (a && ((b && (c && d)) && e)) ≡ false
gone-3 a b c d e h = simp (and_assoc, h, and-false)

pub swap_mid : (a b c d : Bool) → ((a && b) && (c && d)) ≡ ((a && c) && (b && d))
swap_mid a b c d = simp ac

pub not-or : (a b : Bool) → not (a || b) ≡ (not a && not b)
not-or true b = refl
not-or false b = refl

pub is_empty-snoc : {A : Type 0} (l : List A) (v : A) → is_empty (l ++ (v ∷ [])) ≡ false
is_empty-snoc [] v = refl
is_empty-snoc (x ∷ l) v = refl

module _ {K Val : Type 0} (S : Scalars K Val) where
  pub tighten-present : (b : Bound Val) (c : Bool) (v : Val) → is_absent (tighten S b c v).bound ≡ false
  tighten-present absent c v = refl
  tighten-present (at d w) c v = go (S.order.cmp (S.key v) (S.key w))
    where
      go : (o : Ordering) → is_absent (tighten_by o d w c v).bound ≡ false
      go Less = refl
      go Equal = refl
      go Greater = refl

  pub insert-full : (v : Val) (l : List Val) → is_empty (insert S v l) ≡ false
  insert-full v [] = refl
  insert-full v (w ∷ l) = go (contains S (S.key v) (w ∷ l))
    where
      go : (b : Bool) → is_empty (cond b (w ∷ l) ((w ∷ l) ++ (v ∷ []))) ≡ false
      go true = refl
      go false = refl

module _ {K Val : Type 0} (S : Scalars K Val) where
  -- by the comparisons that are written out again
  abbrev pub admits_emitted : ColumnConstraints Val → Option K → Bool
  admits_emitted q none = is_absent q.lower && (is_absent q.upper && is_empty q.excluded)
  admits_emitted q (some k) = clears S q.lower k &&
      (clears (opposite S) q.upper k && not (contains S k q.excluded))

  -- by what is only kept in mind
  abbrev pub admits_recorded : ColumnConstraints Val → Option K → Bool
  admits_recorded q none = is_none q.allowed && (not q.strict && null_fits q.nullability)
  admits_recorded q (some k) = is_allowed S q.allowed k &&
      (not (contains S k q.disallowed) && value_fits q.nullability)

  -- the same of one addition
  abbrev pub obeys_emitted : Constraint Val → Option K → Bool
  obeys_emitted (Lower c v) none = false
  obeys_emitted (Lower c v) (some k) = clears S (at c v) k
  obeys_emitted (Upper c v) none = false
  obeys_emitted (Upper c v) (some k) = clears (opposite S) (at c v) k
  obeys_emitted (Exclude v) none = false
  obeys_emitted (Exclude v) (some k) = not (is_equal (S.order.cmp k (S.key v)))
  obeys_emitted (Allow l) x = true
  obeys_emitted (Disallow h l) x = true
  obeys_emitted (Require n) x = true

  abbrev pub obeys_recorded : Constraint Val → Option K → Bool
  obeys_recorded (Lower c v) x = true
  obeys_recorded (Upper c v) x = true
  obeys_recorded (Exclude v) x = true
  obeys_recorded (Allow l) none = false
  obeys_recorded (Allow l) (some k) = contains S k l
  obeys_recorded (Disallow h l) none = not (h && not (is_empty l))
  obeys_recorded (Disallow h l) (some k) = not (contains S k l)
  obeys_recorded (Require n) none = null_fits n
  obeys_recorded (Require n) (some k) = value_fits n

  put-emitted : (a : Constraint Val) (q : ColumnConstraints Val) (x : Option K) → admits_emitted (put S a q) x ≡
      (admits_emitted q x && obeys_emitted a x)
  put-emitted (Lower c v) q none = simp (tighten-present, and-false)
  put-emitted (Lower c v) q (some k) = rw (tighten-is_intersection, at_1)
  put-emitted (Upper c v) q none = simp (tighten-present, and-false)
  put-emitted (Upper c v) q (some k) = rw (tighten-is_intersection, at-2)
  put-emitted (Exclude v) q none = simp (insert-full, and-false)
  put-emitted (Exclude v) q (some k) = rw (contains-insert, not-or, at-3)
  put-emitted (Allow l) q none = sym (and-true _)
  put-emitted (Allow l) q (some k) = sym (and-true _)
  put-emitted (Disallow h l) q none = sym (and-true _)
  put-emitted (Disallow h l) q (some k) = sym (and-true _)
  put-emitted (Require n) q none = sym (and-true _)
  put-emitted (Require n) q (some k) = sym (and-true _)

  is_allowed-common : (o : Option (List Val)) (l : List Val) (k : K) → contains S k (common S o l) ≡
      (is_allowed S o k && contains S k l)
  is_allowed-common none l k = refl
  is_allowed-common (some m) l k = contains-retain S k l m

  strict-or : (a b : Bool) → not (a || b) ≡ (not a && not b)
  strict-or = not-or

  put-recorded : (a : Constraint Val) (q : ColumnConstraints Val) (x : Option K) → (put S a q).unsat ≡ false →
      admits_recorded (put S a q) x ≡ (admits_recorded q x && obeys_recorded a x)
  put-recorded (Lower c v) q none e = sym (and-true _)
  put-recorded (Lower c v) q (some k) e = sym (and-true _)
  put-recorded (Upper c v) q none e = sym (and-true _)
  put-recorded (Upper c v) q (some k) e = sym (and-true _)
  put-recorded (Exclude v) q none e = sym (and-true _)
  put-recorded (Exclude v) q (some k) e = sym (and-true _)
  put-recorded (Allow l) q none e = simp and-false
  put-recorded (Allow l) q (some k) e = rw (is_allowed-common, at_1)
  put-recorded (Disallow h l) q none e = rw (not-or, at-2)
  put-recorded (Disallow h l) q (some k) e = rw (contains-extend, not-or, at-2)
  put-recorded (Require n) q none e = rw (null_fits_lem q.nullability n e, at-3)
  put-recorded (Require n) q (some k) e = rw (value-fits q.nullability n e, at-3)

  -- a column made impossible takes no value
  put-unsat : (a : Constraint Val) (q : ColumnConstraints Val) (x : Option K) → q.unsat ≡ false → (put S a q).unsat ≡
      true → (admits_emitted (put S a q) x && (admits_recorded q x && obeys_recorded a x)) ≡ false
  put-unsat (Lower c v) q none s e = simp tighten-present
  put-unsat (Lower c v) q (some k) s e = let h = crossing_clears_nothing S (tighten S q.lower c v).bound q.upper k e
      in rw gone
  put-unsat (Upper c v) q none s e = simp (tighten-present, and-false)
  put-unsat (Upper c v) q (some k) s e = let h = crossing_clears_nothing S q.lower
      (tighten (opposite S) q.upper c v).bound k e in rw gone
  put-unsat (Exclude v) q x s e = absurd (true≢false (sym e ∙ s))
  put-unsat (Allow l) q x s e = absurd (true≢false (sym e ∙ s))
  put-unsat (Disallow h l) q x s e = absurd (true≢false (sym e ∙ s))
  put-unsat (Require n) q none s e = let h = opposed-null q.nullability n e in rw gone-3
  put-unsat (Require n) q (some k) s e = let h = opposed-value q.nullability n e in rw gone-3

  -- the values that the column takes, and those that an addition lets through
  abbrev pub admits : ColumnConstraints Val → Option K → Bool
  admits q x = not q.unsat && (admits_emitted q x && admits_recorded q x)

  abbrev pub obeys : Constraint Val → Option K → Bool
  obeys a x = obeys_emitted a x && obeys_recorded a x

  -- an addition is an intersection
  pub add-is_intersection : (a : Constraint Val) (q : ColumnConstraints Val) (x : Option K) → admits (add S a q) x ≡
      (admits q x && obeys a x)
  add-is_intersection a q x = go q.unsat refl
    where
      live : q.unsat ≡ false → (b : Bool) → (put S a q).unsat ≡ b →
          (not b && (admits_emitted (put S a q) x && admits_recorded (put S a q) x)) ≡
          ((admits_emitted q x && admits_recorded q x) && obeys a x)
      live e true f = sym (rw (
        swap_mid (admits_emitted q x) (admits_recorded q x) (obeys_emitted a x)
            (obeys_recorded a x),
        ← (put-emitted a q x),
      ) (put-unsat a q x e f))
      live e false f = rw (put-emitted a q x, put-recorded a q x f)
          (swap_mid (admits_emitted q x) (obeys_emitted a x) (admits_recorded q x) (obeys_recorded a x))

      go : (b : Bool) → q.unsat ≡ b → admits (cond b q (put S a q)) x ≡ (admits q x && obeys a x)
      go true e = rw e
      go false e = live e (put S a q).unsat refl ∙
          sym (ap (λ b. (not b && (admits_emitted q x && admits_recorded q x)) && obeys a x) e)

  -- an impossible column stays so
  pub add-live : (a : Constraint Val) (q : ColumnConstraints Val) → (add S a q).unsat ≡ false → q.unsat ≡ false
  add-live a q = go q.unsat refl
    where
      go : (b : Bool) → q.unsat ≡ b → (cond b q (put S a q)).unsat ≡ false → q.unsat ≡ false
      go true e h = h
      go false e h = e

  pub add-put : (a : Constraint Val) (q : ColumnConstraints Val) → (add S a q).unsat ≡ false →
      (add S a q ≡ put S a q) × ((put S a q).unsat ≡ false)
  add-put a q h = let e = add-live a q h in let p : add S a q ≡ put S a q = rw e in (p, rw p at h)

  -- what is written out, of a column that did not become impossible
  pub add-emitted : (a : Constraint Val) (q : ColumnConstraints Val) (x : Option K) → (add S a q).unsat ≡ false →
      admits_emitted (add S a q) x ≡ (admits_emitted q x && obeys_emitted a x)
  add-emitted a q x h = let p = (add-put a q h).0 in rw p (put-emitted a q x)

  pub add-recorded : (a : Constraint Val) (q : ColumnConstraints Val) (x : Option K) → (add S a q).unsat ≡ false →
      admits_recorded (add S a q) x ≡ (admits_recorded q x && obeys_recorded a x)
  add-recorded a q x h = let p = add-put a q h in rw p.0 (put-recorded a q x p.1)

  abbrev pub obeys_all : List (Constraint Val) → Option K → Bool
  obeys_all [] x = true
  obeys_all (a ∷ l) x = obeys a x && obeys_all l x

  abbrev pub obeys_emitted_all : List (Constraint Val) → Option K → Bool
  obeys_emitted_all [] x = true
  obeys_emitted_all (a ∷ l) x = obeys_emitted a x && obeys_emitted_all l x

  abbrev pub obeys_recorded_all : List (Constraint Val) → Option K → Bool
  obeys_recorded_all [] x = true
  obeys_recorded_all (a ∷ l) x = obeys_recorded a x && obeys_recorded_all l x

  pub add_all-is_intersection : (l : List (Constraint Val)) (q : ColumnConstraints Val) (x : Option K) →
      admits (add_all S l q) x ≡ (admits q x && obeys_all l x)
  add_all-is_intersection [] q x = sym (and-true (admits q x))
  add_all-is_intersection (a ∷ l) q x = rw (add_all-is_intersection l (add S a q) x, add-is_intersection a q x)
      (and_assoc (admits q x) (obeys a x) (obeys_all l x))

  pub add_all-live : (l : List (Constraint Val)) (q : ColumnConstraints Val) → (add_all S l q).unsat ≡ false → q.unsat ≡
      false
  add_all-live [] q h = h
  add_all-live (a ∷ l) q h = add-live a q (add_all-live l (add S a q) h)

  pub add_all-emitted : (l : List (Constraint Val)) (q : ColumnConstraints Val) (x : Option K) → (add_all S l q).unsat ≡
      false → admits_emitted (add_all S l q) x ≡ (admits_emitted q x && obeys_emitted_all l x)
  add_all-emitted [] q x h = sym (and-true (admits_emitted q x))
  add_all-emitted (a ∷ l) q x h = rw
      (add_all-emitted l (add S a q) x h, add-emitted a q x (add_all-live l (add S a q) h))
      (and_assoc (admits_emitted q x) (obeys_emitted a x) (obeys_emitted_all l x))

  pub add_all-recorded : (l : List (Constraint Val)) (q : ColumnConstraints Val) (x : Option K) → (add_all S l q).unsat ≡
      false → admits_recorded (add_all S l q) x ≡ (admits_recorded q x && obeys_recorded_all l x)
  add_all-recorded [] q x h = sym (and-true (admits_recorded q x))
  add_all-recorded (a ∷ l) q x h =
      rw (add_all-recorded l (add S a q) x h, add-recorded a q x (add_all-live l (add S a q) h))
      (and_assoc (admits_recorded q x) (obeys_recorded a x) (obeys_recorded_all l x))

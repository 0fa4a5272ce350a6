-- Single facts of a column: what travels along an equality. A fact is had by a merge exactly if one of the two had
-- it.
use mathlib.Core.Path.{◌≡◌, refl, sym, ◌∙◌, ap, subst}
use mathlib.Core.Bool.{Bool, true, false, not, ◌&&◌, ◌||◌, and-false, and_comm, and_self, true≢false, or-true, cond}
use mathlib.Core.Bool.{or-false, or_assoc}
use mathlib.Core.List.{List, [], ◌∷◌, ◌++◌, map}
use mathlib.Core.Option.{Option, none, some}
use Rattle.truth.proofs.Orders.{cmp-gt, cmp-refl}
use Rattle.truth.specs.Order.{View, equal_view, greater_view, less_view, is_equal}
use Rattle.std.specs.declared.cmp.Ordering.{Ordering}
use Rattle.std.specs.declared.cmp.Ordering.TheVariants.{Equal, Greater, Less}
use Rattle.constraints.proofs.Columns.{add-put, add_all-live}
use Rattle.constraints.proofs.Merges.{or_no}
use Rattle.constraints.proofs.Sets.{contains-extend, contains-insert, contains-retain}
use Rattle.constraints.proofs.Bounds.{tightens, tightens_by}
use Rattle.constraints.specs.Bound.{Bound, absent, at, is_change, of_bound, opened_by, tighten, tighten_by}
use Rattle.constraints.specs.Column.{Allow, ColumnConstraints, Constraint, Disallow, Exclude, Lower, Require}
use Rattle.constraints.specs.Column.{Upper, add, add_all, allowed_changes, allowed_of, changes, changes_all}
use Rattle.constraints.specs.Column.{common, emitted, merge_any, merge_from, put}
use Rattle.constraints.specs.Column.{recorded}
use Rattle.constraints.specs.Scalars.{Scalars, opposite}
use Rattle.constraints.specs.Values.{contains, subset}

pub data Fact (K Val : Type 0) : Type 0 where
  f_low : Bool → Val → Fact K Val
  f_up : Bool → Val → Fact K Val
  f_exc : K → Fact K Val
  f_dis : K → Fact K Val
  f_some : Fact K Val
  f_out : K → Fact K Val

module _ {K Val : Type 0} (S : Scalars K Val) where
  -- of two bounds, the tighter is at least as tight as a third where one of the two is
  tightens_chain : (w z : Val) (c d : Bool) → S.order.less (S.key w) (S.key z) → (v : Val) (e : Bool) →
      tightens_by (S.order.cmp (S.key v) (S.key z)) c z e v ≡ true →
      tightens_by (S.order.cmp (S.key v) (S.key w)) d w e v ≡ true
  tightens_chain w z c d h v e m = go (S.total.view (S.key v) (S.key z)) m
    where
      go : {o : Ordering} → View S.order.less (S.key v) (S.key z) o → tightens_by o c z e v ≡ true →
          tightens_by (S.order.cmp (S.key v) (S.key w)) d w e v ≡ true
      go (less_view p) m = absurd (true≢false (sym m))
      go (equal_view p) m = rw (cmp-gt S.total (subst (S.order.less (S.key w)) (sym p) h))
      go (greater_view p) m = rw (cmp-gt S.total (S.total.trans h p))

  imp_and : (a b : Bool) → (b ≡ true → a ≡ true) → b ≡ (a && b)
  imp_and true b h = refl
  imp_and false true h = sym (h refl)
  imp_and false false h = refl

  tighten-tightens : (b : Bound Val) (d : Bool) (w : Val) (c : Bool) (v : Val) →
      tightens S (tighten S b d w).bound c v ≡ (tightens S b c v && tightens S (at d w) c v)
  tighten-tightens absent d w c v = refl
  tighten-tightens (at e z) d w c v = go (S.total.view (S.key w) (S.key z))
    where
      eqs : (o : Ordering) (d e : Bool) → tightens_by o (d && e) z c v ≡ (tightens_by o e z c v && tightens_by o d w c v)
      eqs Less d e = refl
      eqs Greater d e = refl
      eqs Equal true true = sym (and_self (is_change (opened_by true c)))
      eqs Equal true false = refl
      eqs Equal false true = sym (and-false (is_change (opened_by true c)))
      eqs Equal false false = refl

      go : {o : Ordering} → View S.order.less (S.key w) (S.key z) o →
          tightens S (tighten_by o e z d w).bound c v ≡
          (tightens_by (S.order.cmp (S.key v) (S.key z)) e z c v && tightens_by (S.order.cmp (S.key v) (S.key w))
          d w c v)
      go (less_view h) = imp_and (tightens_by (S.order.cmp (S.key v) (S.key w)) d w c v)
          (tightens_by (S.order.cmp (S.key v) (S.key z)) e z c v) (tightens_chain w z e d h v c) ∙
          and_comm (tightens_by (S.order.cmp (S.key v) (S.key w)) d w c v)
          (tightens_by (S.order.cmp (S.key v) (S.key z)) e z c v)
      go (equal_view h) = rw h (eqs (S.order.cmp (S.key v) (S.key z)) d e)
      go (greater_view h) = imp_and (tightens_by (S.order.cmp (S.key v) (S.key z)) e z c v)
          (tightens_by (S.order.cmp (S.key v) (S.key w)) d w c v) (tightens_chain z w d e h v c)

abbrev pub out_of : {K Val : Type 0} → (K → List Val → Bool) → Option (List Val) → K → Bool
out_of m none k = false
out_of m (some l) k = not (m k l)

abbrev pub is_some : {A : Type 0} → Option A → Bool
is_some none = false
is_some (some a) = true

not-and : (a b : Bool) → not (a && b) ≡ (not a || not b)
not-and true b = refl
not-and false b = refl

module _ {K Val : Type 0} (S : Scalars K Val) where
  abbrev pub has : Fact K Val → ColumnConstraints Val → Bool
  has (f_low c v) q = not (tightens S q.lower c v)
  has (f_up c v) q = not (tightens (opposite S) q.upper c v)
  has (f_exc k) q = contains S k q.excluded
  has (f_dis k) q = contains S k q.disallowed
  has f_some q = is_some q.allowed
  has (f_out k) q = out_of (contains S) q.allowed k

  abbrev pub gives : Constraint Val → Fact K Val → Bool
  gives (Lower d w) (f_low c v) = not (tightens S (at d w) c v)
  gives (Lower d w) (f_up c v) = false
  gives (Lower d w) (f_exc k) = false
  gives (Lower d w) (f_dis k) = false
  gives (Lower d w) f_some = false
  gives (Lower d w) (f_out k) = false
  gives (Upper d w) (f_low c v) = false
  gives (Upper d w) (f_up c v) = not (tightens (opposite S) (at d w) c v)
  gives (Upper d w) (f_exc k) = false
  gives (Upper d w) (f_dis k) = false
  gives (Upper d w) f_some = false
  gives (Upper d w) (f_out k) = false
  gives (Exclude w) (f_low c v) = false
  gives (Exclude w) (f_up c v) = false
  gives (Exclude w) (f_exc k) = is_equal (S.order.cmp k (S.key w))
  gives (Exclude w) (f_dis k) = false
  gives (Exclude w) f_some = false
  gives (Exclude w) (f_out k) = false
  gives (Allow l) (f_low c v) = false
  gives (Allow l) (f_up c v) = false
  gives (Allow l) (f_exc k) = false
  gives (Allow l) (f_dis k) = false
  gives (Allow l) f_some = true
  gives (Allow l) (f_out k) = not (contains S k l)
  gives (Disallow h l) (f_low c v) = false
  gives (Disallow h l) (f_up c v) = false
  gives (Disallow h l) (f_exc k) = false
  gives (Disallow h l) (f_dis k) = contains S k l
  gives (Disallow h l) f_some = false
  gives (Disallow h l) (f_out k) = false
  gives (Require n) f = false

  allow_out : (o : Option (List Val)) (l : List Val) (k : K) → not (contains S k (common S o l)) ≡
      (out_of (contains S) o k || not (contains S k l))
  allow_out none l k = refl
  allow_out (some m) l k = rw (contains-retain S k l m) (not-and (contains S k m) (contains S k l))

  put_has : (a : Constraint Val) (f : Fact K Val) (q : ColumnConstraints Val) → has f (put S a q) ≡
      (has f q || gives a f)
  put_has (Lower d w) (f_low c v) q = rw (tighten-tightens S q.lower d w c v)
      (not-and (tightens S q.lower c v) (tightens S (at d w) c v))
  put_has (Lower d w) (f_up c v) q = sym (or-false _)
  put_has (Lower d w) (f_exc k) q = sym (or-false _)
  put_has (Lower d w) (f_dis k) q = sym (or-false _)
  put_has (Lower d w) f_some q = sym (or-false _)
  put_has (Lower d w) (f_out k) q = sym (or-false _)
  put_has (Upper d w) (f_low c v) q = sym (or-false _)
  put_has (Upper d w) (f_up c v) q = rw (tighten-tightens (opposite S) q.upper d w c v)
      (not-and (tightens (opposite S) q.upper c v) (tightens (opposite S) (at d w) c v))
  put_has (Upper d w) (f_exc k) q = sym (or-false _)
  put_has (Upper d w) (f_dis k) q = sym (or-false _)
  put_has (Upper d w) f_some q = sym (or-false _)
  put_has (Upper d w) (f_out k) q = sym (or-false _)
  put_has (Exclude w) (f_low c v) q = sym (or-false _)
  put_has (Exclude w) (f_up c v) q = sym (or-false _)
  put_has (Exclude w) (f_exc k) q = contains-insert S k w q.excluded
  put_has (Exclude w) (f_dis k) q = sym (or-false _)
  put_has (Exclude w) f_some q = sym (or-false _)
  put_has (Exclude w) (f_out k) q = sym (or-false _)
  put_has (Allow l) (f_low c v) q = sym (or-false _)
  put_has (Allow l) (f_up c v) q = sym (or-false _)
  put_has (Allow l) (f_exc k) q = sym (or-false _)
  put_has (Allow l) (f_dis k) q = sym (or-false _)
  put_has (Allow l) f_some q = sym (or-true (is_some q.allowed))
  put_has (Allow l) (f_out k) q = allow_out q.allowed l k
  put_has (Disallow h l) (f_low c v) q = sym (or-false _)
  put_has (Disallow h l) (f_up c v) q = sym (or-false _)
  put_has (Disallow h l) (f_exc k) q = sym (or-false _)
  put_has (Disallow h l) (f_dis k) q = contains-extend S k q.disallowed l
  put_has (Disallow h l) f_some q = sym (or-false _)
  put_has (Disallow h l) (f_out k) q = sym (or-false _)
  put_has (Require n) (f_low c v) q = sym (or-false _)
  put_has (Require n) (f_up c v) q = sym (or-false _)
  put_has (Require n) (f_exc k) q = sym (or-false _)
  put_has (Require n) (f_dis k) q = sym (or-false _)
  put_has (Require n) f_some q = sym (or-false _)
  put_has (Require n) (f_out k) q = sym (or-false _)

  abbrev pub gives_all : List (Constraint Val) → Fact K Val → Bool
  gives_all [] f = false
  gives_all (a ∷ l) f = gives a f || gives_all l f

  -- a column that does not become impossible takes the fact in
  pub all_has : (l : List (Constraint Val)) (f : Fact K Val) (q : ColumnConstraints Val) → (add_all S l q).unsat ≡
      false → has f (add_all S l q) ≡ (has f q || gives_all l f)
  all_has [] f q h = sym (or-false (has f q))
  all_has (a ∷ l) f q h =
      let p = (add-put S a q (add_all-live S l (add S a q) h)).0 in
      rw (all_has l f (add S a q) h, p, put_has a f q) (or_assoc (has f q) (gives a f) (gives_all l f))

  -- a fact is kept, and comes from one of the two
  add-keeps : (a : Constraint Val) (f : Fact K Val) (q : ColumnConstraints Val) → has f q ≡ true → has f (add S a q) ≡
      true
  add-keeps a f q h = go q.unsat
    where
      go : (b : Bool) → has f (cond b q (put S a q)) ≡ true
      go true = h
      go false = put_has a f q ∙ ap (λ b. b || gives a f) h

  add-from : (a : Constraint Val) (f : Fact K Val) (q : ColumnConstraints Val) → has f q ≡ false → gives a f ≡ false →
      has f (add S a q) ≡ false
  add-from a f q h g = go q.unsat
    where
      go : (b : Bool) → has f (cond b q (put S a q)) ≡ false
      go true = h
      go false = put_has a f q ∙ ap (λ b. b || gives a f) h ∙ g

  all_keeps : (l : List (Constraint Val)) (f : Fact K Val) (q : ColumnConstraints Val) → has f q ≡ true →
      has f (add_all S l q) ≡ true
  all_keeps [] f q h = h
  all_keeps (a ∷ l) f q h = all_keeps l f (add S a q) (add-keeps a f q h)

  all_from : (l : List (Constraint Val)) (f : Fact K Val) (q : ColumnConstraints Val) → has f q ≡ false →
      gives_all l f ≡ false → has f (add_all S l q) ≡ false
  all_from [] f q h g = h
  all_from (a ∷ l) f q h g = let n = or_no (gives a f) (gives_all l f) g in
      all_from l f (add S a q) (add-from a f q h n.0) n.1

  -- ---- what the additions of a column give is what it has
  abbrev low_has : Bound Val → Fact K Val → Bool
  low_has b (f_low c v) = not (tightens S b c v)
  low_has b (f_up c v) = false
  low_has b (f_exc k) = false
  low_has b (f_dis k) = false
  low_has b f_some = false
  low_has b (f_out k) = false

  abbrev up_has : Bound Val → Fact K Val → Bool
  up_has b (f_low c v) = false
  up_has b (f_up c v) = not (tightens (opposite S) b c v)
  up_has b (f_exc k) = false
  up_has b (f_dis k) = false
  up_has b f_some = false
  up_has b (f_out k) = false

  abbrev exc_has : List Val → Fact K Val → Bool
  exc_has l (f_low c v) = false
  exc_has l (f_up c v) = false
  exc_has l (f_exc k) = contains S k l
  exc_has l (f_dis k) = false
  exc_has l f_some = false
  exc_has l (f_out k) = false

  abbrev al_has : Option (List Val) → Fact K Val → Bool
  al_has o (f_low c v) = false
  al_has o (f_up c v) = false
  al_has o (f_exc k) = false
  al_has o (f_dis k) = false
  al_has o f_some = is_some o
  al_has o (f_out k) = out_of (contains S) o k

  abbrev di_has : List Val → Fact K Val → Bool
  di_has l (f_low c v) = false
  di_has l (f_up c v) = false
  di_has l (f_exc k) = false
  di_has l (f_dis k) = contains S k l
  di_has l f_some = false
  di_has l (f_out k) = false

  has_parts : (f : Fact K Val) (q : ColumnConstraints Val) → has f q ≡
      ((low_has q.lower f || (up_has q.upper f || exc_has q.excluded f)) ||
      (al_has q.allowed f || di_has q.disallowed f))
  has_parts (f_low c v) q = sym (or-false _ ∙ or-false _)
  has_parts (f_up c v) q = sym (or-false _ ∙ or-false _)
  has_parts (f_exc k) q = sym (or-false _)
  has_parts (f_dis k) q = refl
  has_parts f_some q = sym (or-false _)
  has_parts (f_out k) q = sym (or-false _)

  lows_give : (b : Bound Val) (f : Fact K Val) → gives_all (of_bound Lower b) f ≡ low_has b f
  lows_give absent (f_low c v) = refl
  lows_give absent (f_up c v) = refl
  lows_give absent (f_exc k) = refl
  lows_give absent (f_dis k) = refl
  lows_give absent f_some = refl
  lows_give absent (f_out k) = refl
  lows_give (at d w) (f_low c v) = or-false _
  lows_give (at d w) (f_up c v) = refl
  lows_give (at d w) (f_exc k) = refl
  lows_give (at d w) (f_dis k) = refl
  lows_give (at d w) f_some = refl
  lows_give (at d w) (f_out k) = refl

  ups_give : (b : Bound Val) (f : Fact K Val) → gives_all (of_bound Upper b) f ≡ up_has b f
  ups_give absent (f_low c v) = refl
  ups_give absent (f_up c v) = refl
  ups_give absent (f_exc k) = refl
  ups_give absent (f_dis k) = refl
  ups_give absent f_some = refl
  ups_give absent (f_out k) = refl
  ups_give (at d w) (f_low c v) = refl
  ups_give (at d w) (f_up c v) = or-false _
  ups_give (at d w) (f_exc k) = refl
  ups_give (at d w) (f_dis k) = refl
  ups_give (at d w) f_some = refl
  ups_give (at d w) (f_out k) = refl

  excs_give : (l : List Val) (f : Fact K Val) → gives_all (map Exclude l) f ≡ exc_has l f
  excs_give [] (f_low c v) = refl
  excs_give [] (f_up c v) = refl
  excs_give [] (f_exc k) = refl
  excs_give [] (f_dis k) = refl
  excs_give [] f_some = refl
  excs_give [] (f_out k) = refl
  excs_give (w ∷ l) (f_low c v) = excs_give l (f_low c v)
  excs_give (w ∷ l) (f_up c v) = excs_give l (f_up c v)
  excs_give (w ∷ l) (f_exc k) = ap (λ b. is_equal (S.order.cmp k (S.key w)) || b) (excs_give l (f_exc k))
  excs_give (w ∷ l) (f_dis k) = excs_give l (f_dis k)
  excs_give (w ∷ l) f_some = excs_give l f_some
  excs_give (w ∷ l) (f_out k) = excs_give l (f_out k)

  minds_give : (o : Option (List Val)) (l : List Val) (f : Fact K Val) →
      gives_all (allowed_of o ++ (Disallow false l ∷ [])) f ≡ (al_has o f || di_has l f)
  minds_give none l (f_low c v) = refl
  minds_give none l (f_up c v) = refl
  minds_give none l (f_exc k) = refl
  minds_give none l (f_dis k) = or-false _
  minds_give none l f_some = refl
  minds_give none l (f_out k) = refl
  minds_give (some m) l (f_low c v) = refl
  minds_give (some m) l (f_up c v) = refl
  minds_give (some m) l (f_exc k) = refl
  minds_give (some m) l (f_dis k) = or-false _
  minds_give (some m) l f_some = refl
  minds_give (some m) l (f_out k) = refl

  gives-app : (l m : List (Constraint Val)) (f : Fact K Val) → gives_all (l ++ m) f ≡ (gives_all l f || gives_all m f)
  gives-app [] m f = refl
  gives-app (a ∷ l) m f = rw (gives-app l m f) (sym (or_assoc (gives a f) (gives_all l f) (gives_all m f)))

  pub col_gives : (r : ColumnConstraints Val) (f : Fact K Val) → (gives_all (emitted r) f || gives_all (recorded r) f) ≡
      has f r
  col_gives r f = rw (
    gives-app (of_bound Lower r.lower) (of_bound Upper r.upper ++ map Exclude r.excluded) f,
    gives-app (of_bound Upper r.upper) (map Exclude r.excluded) f,
    lows_give r.lower f,
    ups_give r.upper f,
    excs_give r.excluded f,
    minds_give r.allowed r.disallowed f,
  ) (sym (has_parts f r))

  -- ---- merging
  pub merge_keeps : (f : Fact K Val) (q r : ColumnConstraints Val) → has f q ≡ true → has f (merge_from S q r) ≡ true
  merge_keeps f q r h = all_keeps (recorded r) f (add_all S (emitted r) q) (all_keeps (emitted r) f q h)

  pub merge_has : (f : Fact K Val) (q r : ColumnConstraints Val) → (merge_from S q r).unsat ≡ false →
      has f (merge_from S q r) ≡ (has f q || has f r)
  merge_has f q r h = rw (
    all_has (recorded r) f (add_all S (emitted r) q) h,
    all_has (emitted r) f q
        (add_all-live S (recorded r) (add_all S (emitted r) q) h),
    ← (col_gives r f),
  )
      (or_assoc (has f q) (gives_all (emitted r) f) (gives_all (recorded r) f))

  pub merge_from_lem : (f : Fact K Val) (q r : ColumnConstraints Val) → has f q ≡ false → has f r ≡ false →
      has f (merge_from S q r) ≡ false
  merge_from_lem f q r h g =
      let n = or_no (gives_all (emitted r) f) (gives_all (recorded r) f) (col_gives r f ∙ g) in
      all_from (recorded r) f (add_all S (emitted r) q) (all_from (emitted r) f q h n.0) n.1

  -- ---- a change is a fact that was not there
  sub_out : (l m : List Val) → subset S l m ≡ false → (v : Val) × (contains S (S.key v) l ≡ true) ×
      (contains S (S.key v) m ≡ false)
  sub_out [] m h = absurd (true≢false h)
  sub_out (v ∷ l) m h = go (contains S (S.key v) m) refl h (sub_out l m)
    where
      go : (b : Bool) → contains S (S.key v) m ≡ b → (b && subset S l m) ≡ false →
          (subset S l m ≡ false → (w : Val) × (contains S (S.key w) l ≡ true) × (contains S (S.key w) m ≡ false)) →
          (w : Val) × (contains S (S.key w) (v ∷ l) ≡ true) × (contains S (S.key w) m ≡ false)
      go false e h ih = (v, rw (cmp-refl S.total (S.key v)), e)
      go true e h ih = let r = ih h in
          (r.0, rw r.1 (or-true (is_equal (S.order.cmp (S.key r.0) (S.key v)))), r.2)

  abbrev pub New : ColumnConstraints Val → Constraint Val → Type 0
  New q a = (f : Fact K Val) × (has f q ≡ false) × (gives a f ≡ true)

  not_yes : (b : Bool) → not b ≡ true → b ≡ false
  not_yes true e = sym e
  not_yes false e = refl

  unmoved_self : (P : Scalars K Val) (c : Bool) (v : Val) → tightens P (at c v) c v ≡ false
  unmoved_self P c v = rw (cmp-refl P.total (P.key v)) (go c)
    where
      go : (c : Bool) → is_change (opened_by c c) ≡ false
      go true = refl
      go false = refl

  -- what a merge carries over
  abbrev Carried : Constraint Val → Type 0
  Carried (Lower c v) = Unit {0}
  Carried (Upper c v) = Unit {0}
  Carried (Exclude v) = Unit {0}
  Carried (Allow l) = Unit {0}
  Carried (Disallow true l) = ⊥
  Carried (Disallow false l) = Unit {0}
  Carried (Require n) = ⊥

  abbrev CarriedAll : List (Constraint Val) → Type 0
  CarriedAll [] = Unit {0}
  CarriedAll (a ∷ l) = Carried a × CarriedAll l

  change-new : (a : Constraint Val) (q : ColumnConstraints Val) → Carried a → changes S a q ≡ true → New q a
  change-new (Lower c v) q k e = (f_low c v, ap not e, ap not (unmoved_self S c v))
  change-new (Upper c v) q k e = (f_up c v, ap not e, ap not (unmoved_self (opposite S) c v))
  change-new (Exclude v) q k e = (
    f_exc (S.key v),
    not_yes (contains S (S.key v) q.excluded) e,
    ap is_equal (cmp-refl S.total (S.key v)),
  )
  change-new (Allow l) q k e = go q.allowed refl e
    where
      go : (o : Option (List Val)) → q.allowed ≡ o → allowed_changes S o l ≡ true → New q (Allow l)
      go none p e = (f_some, ap is_some p, refl)
      go (some m) p e = let r = sub_out m l (not_yes (subset S m l) e) in
          (f_out (S.key r.0), ap (λ o. out_of (contains S) o (S.key r.0)) p ∙ ap not r.1, ap not r.2)
  change-new (Disallow true l) q k e = absurd k
  change-new (Disallow false l) q k e = let r = sub_out l q.disallowed (not_yes (subset S l q.disallowed) e) in
      (f_dis (S.key r.0), r.2, r.1)
  change-new (Require n) q k e = absurd k

  -- the column before, and after
  abbrev pub Newly : ColumnConstraints Val → ColumnConstraints Val → Type 0
  Newly q p = (f : Fact K Val) × (has f q ≡ false) × (has f p ≡ true)

  has-before : (a : Constraint Val) (f : Fact K Val) (q : ColumnConstraints Val) → has f (add S a q) ≡ false →
      has f q ≡ false
  has-before a f q h = go (has f q) refl
    where
      go : (b : Bool) → has f q ≡ b → b ≡ false
      go true e = sym (add-keeps a f q e) ∙ h
      go false e = refl

  all_new : (l : List (Constraint Val)) (q : ColumnConstraints Val) → CarriedAll l → changes_all S l q ≡ true →
      Newly q (add_all S l q)
  all_new [] q k e = absurd (true≢false (sym e))
  all_new (a ∷ l) q k e = go (not q.unsat && changes S a q) refl e (all_new l (add S a q) k.1)
    where
      here : (b : Bool) → q.unsat ≡ b → (not b && changes S a q) ≡ true → Newly q (add_all S (a ∷ l) q)
      here true s c = absurd (true≢false (sym c))
      here false s c =
          let n = change-new a q k.0 c in
          let p : has n.0 (add S a q) ≡ true = subst (λ b. has n.0 (cond b q (put S a q)) ≡ true) (sym s)
          (put_has a n.0 q ∙ ap (λ b. has n.0 q || b) n.2 ∙ or-true (has n.0 q)) in
          (n.0, n.1, all_keeps l n.0 (add S a q) p)

      go : (b : Bool) → (not q.unsat && changes S a q) ≡ b → (b || changes_all S l (add S a q)) ≡ true →
          (changes_all S l (add S a q) ≡ true → Newly (add S a q) (add_all S l (add S a q))) →
          Newly q (add_all S (a ∷ l) q)
      go true c e ih = here q.unsat refl c
      go false c e ih = let r = ih e in (r.0, has-before a r.0 q r.1, r.2)

  carried_app : (l m : List (Constraint Val)) → CarriedAll l → CarriedAll m → CarriedAll (l ++ m)
  carried_app [] m h k = k
  carried_app (a ∷ l) m h k = (h.0, carried_app l m h.1 k)

  lows_carried : (b : Bound Val) → CarriedAll (of_bound Lower b)
  lows_carried absent = tt
  lows_carried (at c v) = (tt, tt)

  ups_carried : (b : Bound Val) → CarriedAll (of_bound Upper b)
  ups_carried absent = tt
  ups_carried (at c v) = (tt, tt)

  excs_carried : (l : List Val) → CarriedAll (map Exclude l)
  excs_carried [] = tt
  excs_carried (v ∷ l) = (tt, excs_carried l)

  allows_carried : (o : Option (List Val)) → CarriedAll (allowed_of o)
  allows_carried none = tt
  allows_carried (some l) = (tt, tt)

  outs_carried : (r : ColumnConstraints Val) → CarriedAll (emitted r)
  outs_carried r = carried_app (of_bound Lower r.lower) (of_bound Upper r.upper ++ map Exclude r.excluded)
      (lows_carried r.lower) (carried_app (of_bound Upper r.upper) (map Exclude r.excluded)
      (ups_carried r.upper)
      (excs_carried r.excluded))

  minds_carried : (r : ColumnConstraints Val) → CarriedAll (recorded r)
  minds_carried r = carried_app (allowed_of r.allowed) (Disallow false r.disallowed ∷ [])
      (allows_carried r.allowed) (tt, tt)

  -- a merge that reports a change has a fact that the column did not have
  pub merge_new : (q r : ColumnConstraints Val) → merge_any S q r ≡ true → Newly q (merge_from S q r)
  merge_new q r e = go (changes_all S (emitted r) q) refl e
    where
      q' : ColumnConstraints Val
      q' = add_all S (emitted r) q

      go : (b : Bool) → changes_all S (emitted r) q ≡ b → (b || changes_all S (recorded r) q') ≡ true →
          Newly q (merge_from S q r)
      go true c e = let n = all_new (emitted r) q (outs_carried r) c in
          (n.0, n.1, all_keeps (recorded r) n.0 q' n.2)
      go false c e = let n = all_new (recorded r) q' (minds_carried r) e in (n.0, before n.0 n.1, n.2)
        where
          before : (f : Fact K Val) → has f q' ≡ false → has f q ≡ false
          before f h = pick (has f q) refl
            where
              pick : (b : Bool) → has f q ≡ b → b ≡ false
              pick true p = sym (all_keeps (emitted r) f q p) ∙ h
              pick false p = refl

-- A reason names a line that gives it: what is true of every value that the conjuncts give a column, and passes along
-- the equalities, is true of every value written out.
use mathlib.Core.Path.{◌≡◌, refl, sym, ap, subst}
use mathlib.Core.Bool.{Bool, true, false, ◌||◌, cond, true≢false}
use mathlib.Core.List.{List, [], ◌∷◌, ◌++◌, map}
use mathlib.Core.Option.{Option, none, some, some-injective}
use mathlib.Core.Logic.{inl, inr}
use Prim.Native.Nat.{ℕ, zero, suc, ◌+◌}
use native.Mathlib.Omega.{arith}
use lib.Dec.{eqb}
use lib.IntN.{ℤ, pos, negsuc}
use lib.ListN.{get_elem?, length}
use mir.Syntax.{w64}
use mir.Val.{to_z}
use Rattle.truth.specs.Halves.{twice}
use Rattle.truth.specs.Comparison.{Eq}
use Rattle.constraints.specs.declared.column.Nullability.TheVariants.{NonNull}
use Rattle.constraints.specs.Scalars.{Scalars}
use Rattle.constraints.specs.Bound.{Bound, absent, at, of_bound}
use Rattle.constraints.specs.Column.{ColumnConstraints, Constraint, Lower, Upper, Exclude, Allow, Disallow, Require}
use Rattle.constraints.specs.Column.{add, add_all, is_none}
use Rattle.constraints.specs.Resolve.{fixed_value}
use Rattle.constraints.specs.Comparisons.{ColumnComparison, IsEq, IsLower, IsUpper, IsNotEq, collect_by}
use Rattle.constraints.specs.Comparisons.{collect_column_comparisons}
use Rattle.constraints.specs.Payload.{payload}
use Rattle.constraints.specs.Lined.{Lined, on_line, lined}
use Rattle.constraints.specs.Mapped.{map_constraint}
use Rattle.constraints.specs.LineKept.{Limit, LowerBound, UpperBound, ExcludedValue, is_bound, OneOf, bound_value, held_as, given_as}
use Rattle.constraints.proofs.LineKept.{Each, each_append, each-one, each_map, Held, empty-held, Gives, add-held}
use Rattle.constraints.proofs.LineKept.{add_all-held, merge_held, resolve_held, equality_is_lower}
use Rattle.merge.specs.Classify.{Conjunct, Bounds, Normalized, Equality, Recorded, NonNullPair, Opaque, classify}
use Rattle.merge.specs.Classify.{read_conjuncts}
use Rattle.merge.specs.Minterms.{minterms}
use Rattle.merge.specs.Collect.{Table, Collected, begin, require_non_null, add_to, collect_one, collect}
use Rattle.merge.specs.Propagate.{merged_right, merge_edge, pass, pass_any, propagate}
use Rattle.merge.specs.Emit.{Outcome, Unchanged, NothingPasses, Rebuilt, of_column, any_unsat, comparisons, propagated}
use Rattle.merge.specs.Emit.{resolved, rewrites, rebuilt, merge_filter_constraints}
use Rattle.merge.specs.Rebuild.{comparison_of, value_of}
use Rattle.merge.specs.Lines.{map_conjunct, lines_from}
use Rattle.merge.specs.Passes.{equalities}
use Rattle.merge.specs.Reasons.{Whole, Reason, as_number, reason_of, reasons_of, EqualityNamesLower}
use Rattle.merge.specs.LineBehind.{Joined, itself, equal, back, on, bounds_of, GivenBy, limit_of, ReasonsGiven}
use Rattle.merge.proofs.Passes.{edge-ind}
use Rattle.merge.proofs.Sound.{upd_ind}
use Rattle.merge.proofs.Forms.{OnlyRecorded}
use Rattle.merge.proofs.ReadBack.{AsRead, AllMinded}
use Rattle.merge.proofs.Classified.{classified_as}

-- ---- one induction over the stages
module _ {K Val : Type 0} (S : Scalars K Val) (P : ℕ → Limit → Val → Type 0) where
  abbrev pub HeldTable : Table Val → Type 0
  HeldTable t = (c : ℕ) → Held S (P c) (t c)

  -- it passes along an equality
  abbrev pub Passes : ℕ → ℕ → Type 0
  Passes a b = (k : Limit) (v : Val) → (P a k v → P b k v) × (P b k v → P a k v)

  abbrev pub PassesEdge : (ℕ × ℕ × ℕ) → Type 0
  PassesEdge e = Passes e.0 e.1

  -- it is true of what a conjunct gives
  abbrev pub Tells : Conjunct Val → Type 0
  Tells (Bounds c l) = Each (Gives S (P c)) l
  Tells (Normalized c l) = Each (Gives S (P c)) l
  Tells (Equality a b n) = Passes a b
  Tells (Recorded stops n c l) = Each (Gives S (P c)) l
  Tells (NonNullPair n a b) = Unit {0}
  Tells (Opaque n) = Unit {0}

  abbrev Collects : Collected Val → Type 0
  Collects s = HeldTable s.constraints × Each PassesEdge s.edges

  add_to-held : (c : ℕ) (l : List (Constraint Val)) (t : Table Val) → Each (Gives S (P c)) l → HeldTable t →
      HeldTable (add_to S c l t)
  add_to-held c l t g h = upd_ind S (λ d q. Held S (P d) q) t c (add_all S l (t c)) h (add_all-held S (P c) l (t c) g (h c))

  require_held : (c : ℕ) (t : Table Val) → HeldTable t → HeldTable (require_non_null S c t)
  require_held c t h = upd_ind S (λ d q. Held S (P d) q) t c (add S (Require NonNull) (t c)) h
      (add-held S (P c) (Require NonNull) (t c) tt (h c))

  collect_one-held : (x : Conjunct Val) (s : Collected Val) → Tells x → Collects s → Collects (collect_one S x s)
  collect_one-held (Bounds c l) s g h = (add_to-held c l s.constraints g h.0, h.1)
  collect_one-held (Normalized c l) s g h = (add_to-held c l s.constraints g h.0, h.1)
  collect_one-held (Equality a b n) s g h = (
    require_held b (require_non_null S a s.constraints) (require_held a s.constraints h.0),
    each_append PassesEdge s.edges ((a, b, n) ∷ []) h.1 (each-one PassesEdge (a, b, n) g),
  )
  collect_one-held (Recorded stops n c l) s g h = (add_to-held c l s.constraints g h.0, h.1)
  collect_one-held (NonNullPair n a b) s g h =
      (require_held b (require_non_null S a s.constraints) (require_held a s.constraints h.0), h.1)
  collect_one-held (Opaque n) s g h = h

  collect-held : (l : List (Conjunct Val)) (s : Collected Val) → Each Tells l → Collects s → Collects (collect S l s)
  collect-held [] s g h = h
  collect-held (x ∷ l) s g h = collect-held l (cond s.unsat s (collect_one S x s)) (λ y i. g y (inr i)) (go s.unsat)
    where
      go : (b : Bool) → Collects (cond b s (collect_one S x s))
      go true = h
      go false = collect_one-held x s (g x (inl refl)) h

  -- what the one column holds the other may hold
  over : (a b : ℕ) (q : ColumnConstraints Val) → ((k : Limit) (v : Val) → P a k v → P b k v) → Held S (P a) q →
      Held S (P b) q
  over a b q f h =
      (λ v i. f LowerBound v (h.0 v i), λ v i. f UpperBound v (h.1 v i), λ v i. f ExcludedValue v (h.2 v i))

  pass-held : (es : List (ℕ × ℕ × ℕ)) (t : Table Val) → Each PassesEdge es → HeldTable t → HeldTable (pass S es t)
  pass-held [] t g h = h
  pass-held (e ∷ es) t g h = pass-held es (merge_edge S a b t) (λ x i. g x (inr i))
      (edge-ind S (λ d q. Held S (P d) q) a b t h right
      (merge_held S (P a) (t a) (merged_right S a b t) (h a) (over b a (merged_right S a b t) (λ k v. (p k v).1) right))
      (eqb a b))
    where
      a : ℕ
      a = e.0

      b : ℕ
      b = e.1

      p : Passes a b
      p = g e (inl refl)

      right : Held S (P b) (merged_right S a b t)
      right = merge_held S (P b) (t b) (t a) (h b) (over a b (t a) (λ k v. (p k v).0) (h a))

  propagate-held : (n : ℕ) (es : List (ℕ × ℕ × ℕ)) (t : Table Val) → Each PassesEdge es → HeldTable t →
      HeldTable (propagate S n es t)
  propagate-held zero es t g h = h
  propagate-held (suc n) es t g h = go (pass_any S es t) (propagate-held n es (pass S es t) g (pass-held es t g h))
    where
      go : (b : Bool) → HeldTable (propagate S n es (pass S es t)) →
          HeldTable (cond b (propagate S n es (pass S es t)) (pass S es t))
      go true more = more
      go false more = pass-held es t g h

  -- what is written of a column
  abbrev pub Written : (ℕ × ColumnComparison Val) → Type 0
  Written x = P x.0 (limit_of (comparison_of x.1)) (value_of x.1)

  column-held : (c : ℕ) (q : ColumnConstraints Val) → Held S (P c) q →
      Each Written (of_column c (collect_column_comparisons S q))
  column-held c q h = each-column (collect_column_comparisons S q) (go (fixed_value S q) refl)
    where
      Of : ColumnComparison Val → Type 0
      Of x = Written (c, x)

      each-column : (l : List (ColumnComparison Val)) → Each Of l → Each Written (of_column c l)
      each-column [] g x i = absurd i
      each-column (y ∷ l) g x (inl e) = subst Written (sym e) (g y (inl refl))
      each-column (y ∷ l) g x (inr i) = each-column l (λ z j. g z (inr j)) x i

      lower : (b : Bound Val) → Each (P c LowerBound) (bound_value b) → Each Of (of_bound IsLower b)
      lower absent g = λ x i. absurd i
      lower (at true v) g = each-one Of (IsLower true v) (g v (inl refl))
      lower (at false v) g = each-one Of (IsLower false v) (g v (inl refl))

      upper : (b : Bound Val) → Each (P c UpperBound) (bound_value b) → Each Of (of_bound IsUpper b)
      upper absent g = λ x i. absurd i
      upper (at true v) g = each-one Of (IsUpper true v) (g v (inl refl))
      upper (at false v) g = each-one Of (IsUpper false v) (g v (inl refl))

      go : (o : Option Val) → fixed_value S q ≡ o → Each Of (collect_by o q)
      go (some v) e = each-one Of (IsEq v)
          (subst (λ b. Each (P c LowerBound) (bound_value b)) (equality_is_lower S q.lower q.upper v e) h.0 v (inl refl))
      go none e = each_append Of (of_bound IsLower q.lower) (of_bound IsUpper q.upper ++ map IsNotEq q.excluded)
          (lower q.lower h.0) (each_append Of (of_bound IsUpper q.upper) (map IsNotEq q.excluded)
          (upper q.upper h.1) (each_map Of IsNotEq q.excluded h.2))

  comparisons-held : (cs : List ℕ) (t : Table Val) → HeldTable t → Each Written (comparisons S cs t)
  comparisons-held [] t h = λ x i. absurd i
  comparisons-held (c ∷ cs) t h = each_append Written (of_column c (collect_column_comparisons S (t c)))
      (comparisons S cs t) (column-held c (t c) (h c)) (comparisons-held cs t h)

  -- and of an outcome, where it stays true of a bound that an excluded value opens at its own key
  abbrev pub written_of : Outcome Val → List (ℕ × ColumnComparison Val)
  written_of Unchanged = []
  written_of NothingPasses = []
  written_of (Rebuilt ns cs) = cs

  pub merge_tells : ((c : ℕ) (k : Limit) (w v : Val) → is_bound k ≡ true → S.key v ≡ S.key w → P c k w →
      P c ExcludedValue v → P c k (S.opened w v)) → (l : List (Conjunct Val)) → Each Tells l → Each Written (written_of (merge_filter_constraints S l))
  merge_tells opens l g = go (s.unsat || any_unsat s.order (resolved S s)) (rewrites S s)
    where
      s : Collected Val
      s = collect S l begin

      all : Collects s
      all = collect-held l begin g (λ c. empty-held S (P c), λ x i. absurd i)

      written : Each Written (comparisons S s.order (resolved S s))
      written = comparisons-held s.order (resolved S s) (λ c. resolve_held S (P c) (opens c) (propagated S s c)
          (propagate-held (length s.order) s.edges s.constraints all.1 all.0 c))

      go : (b r : Bool) → Each Written (written_of (cond b NothingPasses (cond r (rebuilt S s) Unchanged)))
      go true r = λ x i. absurd i
      go false true = written
      go false false = λ x i. absurd i

-- ---- of lines
-- an equality names the lower bound
pub equality_names_lower : EqualityNamesLower
equality_names_lower shows c q = each_map Q (reason_of shows) (of_column c (collect_column_comparisons lined q))
    (λ x i e. line q.lower (value_of x.1)
    (subst (λ o. OneOf (value_of x.1) (held_as q (limit_of o))) e (column-held lined P c q held x i)))
  where
    P : ℕ → Limit → Lined → Type 0
    P d k v = OneOf v (held_as q k)

    Q : Reason → Type 0
    Q r = r.operator ≡ Eq → map (λ v. v.line) (bound_value q.lower) ≡ r.line ∷ []

    held : Held lined (P c) q
    held = (λ v i. i, λ v i. i, λ v i. i)

    line : (b : Bound Lined) (v : Lined) → OneOf v (bound_value b) → map (λ v. v.line) (bound_value b) ≡ v.line ∷ []
    line absent v i = absurd i
    line (at d w) v (inl e) = ap (λ x. x.line ∷ []) (sym e)
    line (at d w) v (inr i) = absurd i

abbrev is_negative : ℤ → Bool
is_negative (pos n) = false
is_negative (negsuc n) = true

abbrev magnitude : ℤ → ℕ
magnitude (pos n) = n
magnitude (negsuc n) = n

-- numbers of the same key are the same
twice_same : (a b : ℤ) → twice a ≡ twice b → a ≡ b
twice_same (pos n) (pos m) e = let h : n + n ≡ m + m = ap magnitude e in ap pos (omega (arith, h))
twice_same (pos n) (negsuc m) e = absurd (true≢false (sym (ap is_negative e)))
twice_same (negsuc n) (pos m) e = absurd (true≢false (ap is_negative e))
twice_same (negsuc n) (negsuc m) e =
    let h : suc (n + n) ≡ suc (m + m) = ap magnitude e in ap negsuc (omega (arith, h))

in_equalities : (l : List (Conjunct ℕ)) (i a b n : ℕ) → get_elem? l i ≡ some (Equality a b n) →
    OneOf (a, b, n) (equalities l)
in_equalities [] i a b n e = absurd (true≢false (ap is_none e))
in_equalities (x ∷ l) zero a b n e =
    subst (λ y. OneOf (a, b, n) (equalities (y ∷ l))) (sym (some-injective x (Equality a b n) e)) (inl refl)
in_equalities (x ∷ l) (suc i) a b n e = later x (in_equalities l i a b n e)
  where
    later : (x : Conjunct ℕ) → OneOf (a, b, n) (equalities l) → OneOf (a, b, n) (equalities (x ∷ l))
    later (Bounds c m) h = h
    later (Normalized c m) h = h
    later (Equality c d m) h = inr h
    later (Recorded stops m c k) h = h
    later (NonNullPair m c d) h = h
    later (Opaque m) h = h

module _ (l : List (Conjunct ℕ)) where
  abbrev Given : ℕ → Limit → Lined → Type 0
  Given c k v = GivenBy l c k (Whole (to_z w64 v.bits)) v.line

  opened-given : (c : ℕ) (k : Limit) (w v : Lined) → is_bound k ≡ true → lined.key v ≡ lined.key w → Given c k w →
      Given c ExcludedValue v → Given c k (lined.opened w v)
  unfolding lined
  opened-given c k w v b e p x =
      subst (λ z. GivenBy l c k (Whole z) w.line) (sym (twice_same (to_z w64 v.bits) (to_z w64 w.bits) e)) p

  join : (a b : ℕ) (k : Limit) (v : Lined) → Joined (equalities l) a b → Given a k v → Given b k v
  join a b k v j p =
      record {
        conjunct = p.conjunct;
        numbered = p.numbered;
        column = p.column;
        constraints = p.constraints;
        bounds = p.bounds;
        joined = on p.column a b p.joined j;
        constraint = p.constraint;
        among = p.among;
        value = p.value;
        gives = p.gives;
        number = p.number;
      }

  given : (i : ℕ) (x : Conjunct ℕ) (c : ℕ) (m : List (Constraint ℕ)) → get_elem? l i ≡ some x →
      bounds_of x ≡ some (c, m) → (a : Constraint ℕ) → OneOf a m → (k : Limit) (v : ℕ) → OneOf v (given_as a k) →
      Given c k (on_line i v)
  given i x c m e b a j k v h =
      record {
        conjunct = x;
        numbered = e;
        column = c;
        constraints = m;
        bounds = b;
        joined = itself c;
        constraint = a;
        among = j;
        value = v;
        gives = h;
        number = refl;
      }

  given-gives : (i c : ℕ) (a : Constraint ℕ) → ((k : Limit) (v : ℕ) → OneOf v (given_as a k) → Given c k (on_line i v)) →
      Gives lined (Given c) (map_constraint (on_line i) a)
  given-gives i c (Lower d v) g = g LowerBound v (inl refl)
  given-gives i c (Upper d v) g = g UpperBound v (inl refl)
  given-gives i c (Exclude v) g = g ExcludedValue v (inl refl)
  given-gives i c (Allow m) g = tt
  given-gives i c (Disallow d m) g = tt
  given-gives i c (Require n) g = tt

  minded_gives : (i c : ℕ) (m : List (Constraint ℕ)) → AllMinded payload m →
      Each (Gives lined (Given c)) (map (map_constraint (on_line i)) m)
  minded_gives i c [] h = λ x j. absurd j
  minded_gives i c (a ∷ m) h = each_append (Gives lined (Given c)) (map_constraint (on_line i) a ∷ [])
      (map (map_constraint (on_line i)) m)
      (each-one (Gives lined (Given c)) (map_constraint (on_line i) a) (first a h.0)) (minded_gives i c m h.1)
    where
      first : (a : Constraint ℕ) → OnlyRecorded a → Gives lined (Given c) (map_constraint (on_line i) a)
      first (Lower d v) h = absurd h
      first (Upper d v) h = absurd h
      first (Exclude v) h = absurd h
      first (Allow m) h = tt
      first (Disallow d m) h = tt
      first (Require n) h = tt

  tells : (i : ℕ) (x : Conjunct ℕ) → get_elem? l i ≡ some x → AsRead payload x →
      Tells lined Given (map_conjunct (on_line i) x)
  tells i (Bounds c m) e r = each_map (Gives lined (Given c)) (map_constraint (on_line i)) m
      (λ a j. given-gives i c a (given i (Bounds c m) c m e refl a j))
  tells i (Normalized c m) e r = each_map (Gives lined (Given c)) (map_constraint (on_line i)) m
      (λ a j. given-gives i c a (given i (Normalized c m) c m e refl a j))
  tells i (Equality a b n) e r = λ k v. (
    join a b k v (equal a b n (in_equalities l i a b n e)),
    join b a k v (back a b (equal a b n (in_equalities l i a b n e))),
  )
  tells i (Recorded stops n c m) e r = minded_gives i c m r
  tells i (NonNullPair n a b) e r = tt
  tells i (Opaque n) e r = tt

  each_line : (i : ℕ) (m : List (Conjunct ℕ)) →
      ((j : ℕ) (x : Conjunct ℕ) → get_elem? m j ≡ some x → Tells lined Given (map_conjunct (on_line (i + j)) x)) →
      Each (Tells lined Given) (lines_from i m)
  unfolding lines_from
  each_line i [] q y k = absurd k
  each_line i (x ∷ m) q y (inl e) = subst (Tells lined Given) (sym e)
      (let h : i + zero ≡ i = omega arith in
      subst (λ n. Tells lined Given (map_conjunct (on_line n) x)) h (q zero x refl))
  each_line i (x ∷ m) q y (inr k) = each_line (suc i) m (λ j z e.
      let h : i + suc j ≡ suc i + j = omega arith in
      subst (λ n. Tells lined Given (map_conjunct (on_line n) z)) h (q (suc j) z e)) y k

  abbrev GivenReason : Reason → Type 0
  GivenReason r = GivenBy l r.column (limit_of r.operator) r.value r.line

  reasons : (o : Outcome Lined) → Each (Written lined Given) (written_of lined Given o) → Each GivenReason (reasons_of as_number o)
  reasons Unchanged h = λ x i. absurd i
  reasons NothingPasses h = λ x i. absurd i
  reasons (Rebuilt ns cs) h = each_map GivenReason (reason_of as_number) cs h

  pub lines-given : ((i : ℕ) (x : Conjunct ℕ) → get_elem? l i ≡ some x → AsRead payload x) →
      Each GivenReason (reasons_of as_number (merge_filter_constraints lined (lines_from 0 l)))
  lines-given r = reasons (merge_filter_constraints lined (lines_from 0 l))
      (merge_tells lined Given opened-given (lines_from 0 l) (each_line 0 l (λ j x e.
      let h : j ≡ 0 + j = omega arith in
      subst (λ n. Tells lined Given (map_conjunct (on_line n) x)) h (tells j x e (r j x e)))))

mapped : {A B : Type 0} (Q : B → Type 0) (f : A → B) → ((a : A) → Q (f a)) → (l : List A) (i : ℕ) (x : B) →
    get_elem? (map f l) i ≡ some x → Q x
mapped Q f q [] i x e = absurd (true≢false (ap is_none e))
mapped Q f q (a ∷ l) zero x e = subst Q (some-injective (f a) x e) (q a)
mapped Q f q (a ∷ l) (suc i) x e = mapped Q f q l i x e

pub reasons_given : ReasonsGiven
reasons_given R root = lines-given (read_conjuncts R root)
    (mapped (AsRead payload) (classify R) (classified_as payload R) (minterms R root))

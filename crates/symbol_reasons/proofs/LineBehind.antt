-- A reason names a line that gives it, where symbols are: `merge_tells` of values that carry their lines.
use mathlib.Core.Path.{◌≡◌, refl, sym, ◌∙◌, ap, subst}
use mathlib.Core.Bool.{Bool, true, false, true≢false}
use mathlib.Core.List.{List, [], ◌∷◌, map}
use mathlib.Core.Option.{none, some, some-injective}
use mathlib.Core.Logic.{inl, inr}
use Prim.Native.Nat.{ℕ, zero, suc, ◌+◌}
use native.Mathlib.Omega.{arith}
use lib.ListN.{get_elem?}
use Rattle.constraints.specs.Column.{Constraint, Lower, Upper, Exclude, Allow, Disallow, Require, is_none}
use Rattle.constraints.specs.Mapped.{map_constraint}
use Rattle.constraints.specs.LineKept.{Limit, LowerBound, UpperBound, ExcludedValue, OneOf, given_as, is_bound}
use Rattle.constraints.proofs.LineKept.{Each, each_append, each-one, each_map, Gives}
use Rattle.merge.specs.Classify.{Conjunct, Bounds, Normalized, Equality, Recorded, NonNullPair, Opaque, classify, read_conjuncts}
use Rattle.merge.specs.Minterms.{minterms}
use Rattle.merge.specs.Emit.{Outcome, Unchanged, NothingPasses, Rebuilt, merge_filter_constraints}
use Rattle.merge.specs.Lines.{map_conjunct}
use Rattle.merge.specs.LineBehind.{Joined, itself, equal, back, on, bounds_of}
use Rattle.merge.specs.Passes.{equalities}
use Rattle.merge.proofs.Forms.{OnlyRecorded}
use Rattle.merge.proofs.ReadBack.{AsRead, AllMinded}
use Rattle.merge.proofs.Classified.{classified_as}
use Rattle.merge.proofs.LineBehind.{Tells, Written, written_of, merge_tells}
use Rattle.symbol_screens.specs.Held.{Held, key_in, holding}
use Rattle.symbol_reasons.specs.Lined.{LinedHeld, held_on_line, holding_lined, held_lines_from}
use Rattle.symbol_reasons.specs.LineBehind.{HeldGivenBy, compared, LinesGiven, OpeningTakesStart}

pub opening_takes_start : OpeningTakesStart
unfolding holding_lined
opening_takes_start text inclusive bound v = refl

in_equalities : (l : List (Conjunct Held)) (i a b n : ℕ) → get_elem? l i ≡ some (Equality a b n) →
    OneOf (a, b, n) (equalities l)
in_equalities [] i a b n e = absurd (true≢false (ap is_none e))
in_equalities (x ∷ l) zero a b n e =
    subst (λ y. OneOf (a, b, n) (equalities (y ∷ l))) (sym (some-injective x (Equality a b n) e)) (inl refl)
in_equalities (x ∷ l) (suc i) a b n e = later x (in_equalities l i a b n e)
  where
    later : (x : Conjunct Held) → OneOf (a, b, n) (equalities l) → OneOf (a, b, n) (equalities (x ∷ l))
    later (Bounds c m) h = h
    later (Normalized c m) h = h
    later (Equality c d m) h = inr h
    later (Recorded stops m c k) h = h
    later (NonNullPair m c d) h = h
    later (Opaque m) h = h

module _ (text : List ℕ) (l : List (Conjunct Held)) where
  abbrev Given : ℕ → Limit → LinedHeld → Type 0
  Given c k v = HeldGivenBy text l c k (key_in text v.held) v.line

  opened-given : (c : ℕ) (k : Limit) (w v : LinedHeld) → is_bound k ≡ true → (holding_lined text).key v ≡ (holding_lined text).key w
      → Given c k w → Given c ExcludedValue v → Given c k ((holding_lined text).opened w v)
  unfolding holding_lined
  opened-given c k w v b e p x = subst (λ z. HeldGivenBy text l c k z w.line) (sym e) p

  join : (a b : ℕ) (k : Limit) (v : LinedHeld) → Joined (equalities l) a b → Given a k v → Given b k v
  join a b k v j p =
      record {
        conjunct = p.conjunct;
        numbered = p.numbered;
        column = p.column;
        constraints = p.constraints;
        bounds = p.bounds;
        joined = on p.column a b p.joined j;
        constraint = p.constraint;
        among = p.among;
        value = p.value;
        gives = p.gives;
        same = p.same;
      }

  given : (i : ℕ) (x : Conjunct Held) (c : ℕ) (m : List (Constraint Held)) → get_elem? l i ≡ some x →
      bounds_of x ≡ some (c, m) → (a : Constraint Held) → OneOf a m → (k : Limit) (v : Held) → OneOf v (given_as a k) →
      Given c k (held_on_line i v)
  given i x c m e b a j k v h =
      record {
        conjunct = x;
        numbered = e;
        column = c;
        constraints = m;
        bounds = b;
        joined = itself c;
        constraint = a;
        among = j;
        value = v;
        gives = h;
        same = refl;
      }

  given-gives : (i c : ℕ) (a : Constraint Held) → ((k : Limit) (v : Held) → OneOf v (given_as a k) → Given c k (held_on_line i v)) →
      Gives (holding_lined text) (Given c) (map_constraint (held_on_line i) a)
  given-gives i c (Lower d v) g = g LowerBound v (inl refl)
  given-gives i c (Upper d v) g = g UpperBound v (inl refl)
  given-gives i c (Exclude v) g = g ExcludedValue v (inl refl)
  given-gives i c (Allow m) g = tt
  given-gives i c (Disallow d m) g = tt
  given-gives i c (Require n) g = tt

  minded_gives : (i c : ℕ) (m : List (Constraint Held)) → AllMinded (holding text) m →
      Each (Gives (holding_lined text) (Given c)) (map (map_constraint (held_on_line i)) m)
  minded_gives i c [] h = λ x j. absurd j
  minded_gives i c (a ∷ m) h = each_append (Gives (holding_lined text) (Given c)) (map_constraint (held_on_line i) a ∷ [])
      (map (map_constraint (held_on_line i)) m)
      (each-one (Gives (holding_lined text) (Given c)) (map_constraint (held_on_line i) a) (first a h.0)) (minded_gives i c m h.1)
    where
      first : (a : Constraint Held) → OnlyRecorded a → Gives (holding_lined text) (Given c) (map_constraint (held_on_line i) a)
      first (Lower d v) h = absurd h
      first (Upper d v) h = absurd h
      first (Exclude v) h = absurd h
      first (Allow m) h = tt
      first (Disallow d m) h = tt
      first (Require n) h = tt

  tells : (i : ℕ) (x : Conjunct Held) → get_elem? l i ≡ some x → AsRead (holding text) x →
      Tells (holding_lined text) Given (map_conjunct (held_on_line i) x)
  tells i (Bounds c m) e r = each_map (Gives (holding_lined text) (Given c)) (map_constraint (held_on_line i)) m
      (λ a j. given-gives i c a (given i (Bounds c m) c m e refl a j))
  tells i (Normalized c m) e r = each_map (Gives (holding_lined text) (Given c)) (map_constraint (held_on_line i)) m
      (λ a j. given-gives i c a (given i (Normalized c m) c m e refl a j))
  tells i (Equality a b n) e r = λ k v. (
    join a b k v (equal a b n (in_equalities l i a b n e)),
    join b a k v (back a b (equal a b n (in_equalities l i a b n e))),
  )
  tells i (Recorded stops n c m) e r = minded_gives i c m r
  tells i (NonNullPair n a b) e r = tt
  tells i (Opaque n) e r = tt

  each_line : (i : ℕ) (m : List (Conjunct Held)) →
      ((j : ℕ) (x : Conjunct Held) → get_elem? m j ≡ some x → Tells (holding_lined text) Given (map_conjunct (held_on_line (i + j)) x)) →
      Each (Tells (holding_lined text) Given) (held_lines_from i m)
  unfolding held_lines_from
  each_line i [] q y k = absurd k
  each_line i (x ∷ m) q y (inl e) = subst (Tells (holding_lined text) Given) (sym e)
      (let h : i + zero ≡ i = omega arith in
      subst (λ n. Tells (holding_lined text) Given (map_conjunct (held_on_line n) x)) h (q zero x refl))
  each_line i (x ∷ m) q y (inr k) = each_line (suc i) m (λ j z e.
      let h : i + suc j ≡ suc i + j = omega arith in
      subst (λ n. Tells (holding_lined text) Given (map_conjunct (held_on_line n) z)) h (q (suc j) z e)) y k

  listed : (o : Outcome LinedHeld) → Each (Written (holding_lined text) Given) (written_of (holding_lined text) Given o) →
      Each (Written (holding_lined text) Given) (compared o)
  listed Unchanged h = h
  listed NothingPasses h = h
  listed (Rebuilt ns cs) h = h

  all_given : ((i : ℕ) (x : Conjunct Held) → get_elem? l i ≡ some x → AsRead (holding text) x) →
      Each (Written (holding_lined text) Given) (compared (merge_filter_constraints (holding_lined text) (held_lines_from 0 l)))
  all_given r = listed (merge_filter_constraints (holding_lined text) (held_lines_from 0 l))
      (merge_tells (holding_lined text) Given opened-given (held_lines_from 0 l) (each_line 0 l (λ j x e.
      let h : j ≡ 0 + j = omega arith in
      subst (λ n. Tells (holding_lined text) Given (map_conjunct (held_on_line n) x)) h (tells j x e (r j x e)))))

mapped : {A B : Type 0} (Q : B → Type 0) (f : A → B) → ((a : A) → Q (f a)) → (l : List A) (i : ℕ) (x : B) →
    get_elem? (map f l) i ≡ some x → Q x
mapped Q f q [] i x e = absurd (true≢false (ap is_none e))
mapped Q f q (a ∷ l) zero x e = subst Q (some-injective (f a) x e) (q a)
mapped Q f q (a ∷ l) (suc i) x e = mapped Q f q l i x e

pub lines-given : LinesGiven
lines-given text R root = all_given text (read_conjuncts R root)
    (mapped (AsRead (holding text)) (classify R) (classified_as (holding text) R) (minterms R root))

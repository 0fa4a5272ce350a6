-- One number of a conjunct after the other: what the loops over a column's numbers compute, as folds. The laws that
-- these are the definitions of Column, Resolve and Comparisons are in proofs/.
use Rattle.constraints.specs.Bound.{of_bound}
use Rattle.std.specs.Prelude.{ℕ, zero, suc, ◌+◌, ◌-◌, Bool, false, not, cond, ◌&&◌, ◌||◌, ◌≡◌, List, [], ◌∷◌, ◌++◌, get_or, eqb}
use Rattle.std.proofs.Math.Option.{Option, none, some}
use Rattle.constraints.specs.Bound as b
use Rattle.constraints.specs.Values.{contains}
use Rattle.constraints.specs.Column as q
use Rattle.constraints.specs.Resolve as z
use Rattle.constraints.specs.Comparisons as e
use Rattle.constraints.specs.Payload.{payload}
use Rattle.constraints.specs.Lined.{Lined, lined}
use Rattle.column_constraints.specs.Abstraction.{Conjuncts, Numbered, numbered, column_of, bound_of, of_kind, values_of}
use Rattle.column_constraints.specs.Abstraction.{literal_at, kinds_in, starts_in, counts_in}
use Rattle.constraints.specs.declared.column.ExcludedResolution.{ExcludedResolution}
use Rattle.constraints.specs.declared.column.ExcludedResolution.TheVariants.{Drop, Keep, TightenLower}
use Rattle.constraints.specs.declared.column.ExcludedResolution.TheVariants.{TightenUpper}
use Rattle.column_constraints.specs.declared.column.Merged.{Merged}

-- What a function which reads lists is lent.
abbrev pub Lists : Conjuncts → List ℕ → List ℕ → Type 0
Lists t told pool =
    (t.kinds ≡ kinds_in told) × (t.starts ≡ starts_in told) × (t.counts ≡ counts_in told) × (t.pool ≡ pool)

-- Is some number of kind k among n of them.
unfoldable pub any_of_kind : List ℕ → ℕ → List ℕ → ℕ → Bool
any_of_kind kinds k a zero = false
any_of_kind kinds k a (suc n) = any_of_kind kinds k a n || of_kind kinds k (get_or a n 0)

-- Does p hold of some value of the list.
abbrev pub any_of : {A : Type 0} → (A → Bool) → List A → Bool
any_of p [] = false
any_of p (v ∷ l) = p v || any_of p l

-- A value that every allowed list has and the list l has not.
abbrev pub outside : Option (List Lined) → List Lined → ℕ → Bool
outside o l v = z.is_allowed lined o (payload.key v) && not (contains lined (payload.key v) l)

-- ---- merging
pub record Merging : Type 0 where
  pub column : q.ColumnConstraints Lined
  pub emitted : Bool
  pub any : Bool

abbrev pub merging_of : Conjuncts → List ℕ → Merged → Merging
merging_of t a m = record { column = column_of t (numbered a m.column); emitted = m.emitted; any = m.any }

abbrev pub changes_in : q.Constraint Lined → q.ColumnConstraints Lined → Bool
changes_in a cc = (not cc.unsat && q.changes lined a cc)

-- A constraint that is written out again, and one that is only recorded.
abbrev pub emitting : q.Constraint Lined → Merging → Merging
emitting a m =
    record { column = q.add lined a m.column; emitted = m.emitted || changes_in a m.column; any = m.any }

abbrev pub recording : q.Constraint Lined → Merging → Merging
recording a m =
    record { column = q.add lined a m.column; emitted = m.emitted; any = m.any || changes_in a m.column }

abbrev pub take_lower : b.Bound Lined → Merging → Merging
take_lower b.absent m = m
take_lower (b.at inclusive v) m = emitting (q.Lower inclusive v) m

abbrev pub take_upper : b.Bound Lined → Merging → Merging
take_upper b.absent m = m
take_upper (b.at inclusive v) m = emitting (q.Upper inclusive v) m

unfoldable pub take_mark : Conjuncts → ℕ → Merging → Merging
take_mark t j m =
    cond (of_kind t.kinds 0 j) (emitting (q.Exclude (literal_at t.values j)) m)
    (cond (of_kind t.kinds 1 j) (recording (q.Allow (values_of t.starts t.counts t.pool j)) m)
    (cond (of_kind t.kinds 2 j) (recording (q.Disallow false (values_of t.starts t.counts t.pool j)) m) m))

unfoldable pub take_marks : Conjuncts → List ℕ → ℕ → Merging → Merging
take_marks t a zero m = m
take_marks t a (suc n) m = take_mark t (get_or a n 0) (take_marks t a n m)

-- ---- resolving The column with its bounds compared.
abbrev pub consistent : q.ColumnConstraints Lined → q.ColumnConstraints Lined
consistent cc = q.set_unsat (cc.unsat || b.crosses lined cc.lower cc.upper) cc

abbrev pub apply_by : ExcludedResolution → Lined → q.ColumnConstraints Lined → q.ColumnConstraints Lined
apply_by Drop v cc = cc
apply_by Keep v cc = q.put lined (q.Exclude v) cc
apply_by TightenLower v cc = q.set_lower (z.open_at lined cc.lower v) cc
apply_by TightenUpper v cc = q.set_upper (z.open_at lined cc.upper v) cc

abbrev pub apply_excluded : Lined → q.ColumnConstraints Lined → q.ColumnConstraints Lined
apply_excluded v cc = apply_by (z.classify_excluded lined cc v) v cc

abbrev pub step_excluded : Lined → q.ColumnConstraints Lined → q.ColumnConstraints Lined
step_excluded v cc = cond cc.unsat cc (consistent (apply_excluded v cc))

unfoldable pub step_mark : Conjuncts → ℕ → q.ColumnConstraints Lined → q.ColumnConstraints Lined
step_mark t j cc =
    cond (of_kind t.kinds 0 j) (step_excluded (literal_at t.values j) cc)
    (cond (of_kind t.kinds 1 j) (q.put lined (q.Allow (values_of t.starts t.counts t.pool j)) cc)
    (cond (of_kind t.kinds 2 j) (q.put lined (q.Disallow false (values_of t.starts t.counts t.pool j)) cc)
    cc))

unfoldable pub step_marks : Conjuncts → List ℕ → ℕ → q.ColumnConstraints Lined → q.ColumnConstraints Lined
step_marks t a zero cc = cc
step_marks t a (suc n) cc = step_mark t (get_or a n 0) (step_marks t a n cc)

-- Where the walk over the numbers begins: the bounds alone.
abbrev pub begun : q.ColumnConstraints Lined → q.ColumnConstraints Lined
begun cc = q.column cc.lower cc.upper [] none [] cc.strict cc.nullability false

-- ---- what is written out, by places: 0 the lower bound or the fixed value, 1 the upper bound, 2 + i the number i
abbrev pub placed_mark : List ℕ → List ℕ → ℕ → List (e.ColumnComparison Lined)
placed_mark kinds values j = cond (of_kind kinds 0 j) (e.IsNotEq (literal_at values j) ∷ []) []

abbrev pub placed_free : Conjuncts → Numbered → ℕ → List (e.ColumnComparison Lined)
placed_free t c p =
    cond (eqb p 0) (of_bound e.IsLower (bound_of c.lower))
    (cond (eqb p 1) (of_bound e.IsUpper (bound_of c.upper))
    (placed_mark t.kinds t.values (get_or c.marks (p - 2) 0)))

abbrev pub placed_point : Lined → ℕ → List (e.ColumnComparison Lined)
placed_point v p = cond (eqb p 0) (e.IsEq v ∷ []) []

abbrev pub placed_by : Option Lined → Conjuncts → Numbered → ℕ → List (e.ColumnComparison Lined)
placed_by none t c p = placed_free t c p
placed_by (some v) t c p = placed_point v p

unfoldable pub placed : Conjuncts → Numbered → ℕ → List (e.ColumnComparison Lined)
placed t c p = placed_by (z.fixed_at lined (bound_of c.lower) (bound_of c.upper)) t c p

-- The comparisons at the places below p.
unfoldable pub placed_to : Conjuncts → Numbered → ℕ → List (e.ColumnComparison Lined)
placed_to t c zero = []
placed_to t c (suc p) = placed_to t c p ++ placed t c p

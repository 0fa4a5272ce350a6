-- Stage 1, collect: each conjunct is taken into the table of columns, which enter it in the order the Rust enters
-- them.
use Rattle.std.specs.Prelude.{Bool, true, false, ◌&&◌, ◌||◌, cond, List, [], ◌∷◌, ◌++◌, ℕ, suc, eqb}
use Rattle.constraints.specs.declared.column.Nullability.TheVariants.{NonNull}
use Rattle.constraints.specs.Scalars.{Scalars}
use Rattle.constraints.specs.Column.{ColumnConstraints, Constraint, Require, empty, add, add_all}
use Rattle.merge.specs.Classify.{Conjunct, Bounds, Normalized, Equality, Recorded, NonNullPair, Opaque}

-- The table of columns, by number.
abbrev pub Table : Type 0 → Type 0
Table Val = ℕ → ColumnConstraints Val

abbrev pub update : {Val : Type 0} → Table Val → ℕ → ColumnConstraints Val → Table Val
update t c cc d = cond (eqb c d) cc (t d)

-- What the walk has collected: the constraints, the columns in the order they entered, the kept nodes, the edges
-- (left column, right column, node), how many conjuncts became bounds, whether one of them was a negation, and whether a
-- conjunct made its column impossible.
pub record Collected (Val : Type 0) : Type 0 where
  pub constraints : ℕ → ColumnConstraints Val
  pub order : List ℕ
  pub opaque : List ℕ
  pub edges : List (ℕ × ℕ × ℕ)
  pub bound_conjuncts : ℕ
  pub normalized : Bool
  pub unsat : Bool

abbrev pub is_in : ℕ → List ℕ → Bool
is_in c [] = false
is_in c (d ∷ l) = eqb c d || is_in c l

-- A column enters once, behind the others.
abbrev pub enter : ℕ → List ℕ → List ℕ
enter c l = cond (is_in c l) l (l ++ (c ∷ []))

-- Of these parts, in the record's order.
abbrev pub collected : {Val : Type 0} → Table Val → List ℕ → List ℕ → List (ℕ × ℕ × ℕ) → ℕ → Bool → Bool →
    Collected Val
collected t o n e b z u =
    record {
      constraints = t;
      order = o;
      opaque = n;
      edges = e;
      bound_conjuncts = b;
      normalized = z;
      unsat = u;
    }

-- Before the first conjunct.
abbrev pub begin : {Val : Type 0} → Collected Val
begin = collected (λ c. empty) [] [] [] 0 false false

module _ {K Val : Type 0} (S : Scalars K Val) where
  abbrev pub require_non_null : ℕ → Table Val → Table Val
  require_non_null c t = update t c (add S (Require NonNull) (t c))

  abbrev pub add_to : ℕ → List (Constraint Val) → Table Val → Table Val
  add_to c l t = update t c (add_all S l (t c))

  -- Bounds count and drop their node, and a negation among them forces the rebuild; an equality becomes an edge; the others are kept. A null conflict found on two
  -- columns does not stop the reading, nor does is_in.
  abbrev pub collect_one : Conjunct Val → Collected Val → Collected Val
  collect_one (Bounds c l) s =
      collected (add_to c l s.constraints) (enter c s.order) s.opaque s.edges (suc s.bound_conjuncts)
      s.normalized (add_all S l (s.constraints c)).unsat
  collect_one (Normalized c l) s =
      collected (add_to c l s.constraints) (enter c s.order) s.opaque s.edges (suc s.bound_conjuncts) true
      (add_all S l (s.constraints c)).unsat
  collect_one (Equality a b n) s =
      collected (require_non_null b (require_non_null a s.constraints)) (enter b (enter a s.order)) s.opaque
      (s.edges ++ ((a, b, n) ∷ [])) s.bound_conjuncts s.normalized false
  collect_one (Recorded stops n c l) s =
      collected (add_to c l s.constraints) (enter c s.order) (s.opaque ++ (n ∷ [])) s.edges s.bound_conjuncts
      s.normalized (stops && (add_all S l (s.constraints c)).unsat)
  collect_one (NonNullPair n a b) s =
      collected (require_non_null b (require_non_null a s.constraints)) (enter b (enter a s.order)) (s.opaque ++ (n ∷ []))
      s.edges s.bound_conjuncts s.normalized false
  collect_one (Opaque n) s = collected s.constraints s.order (s.opaque ++ (n ∷ [])) s.edges s.bound_conjuncts s.normalized false

  -- Reading stops at the first conjunct that makes its column impossible.
  abbrev pub collect : List (Conjunct Val) → Collected Val → Collected Val
  collect [] s = s
  collect (c ∷ l) s = collect l (cond s.unsat s (collect_one c s))

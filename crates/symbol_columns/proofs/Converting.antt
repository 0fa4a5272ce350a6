-- The loop over the columns: as far as column n they hold literals.
use mathlib.Core.Path.{◌≡◌, refl, sym, ◌∙◌, ap}
use mathlib.Core.Bool.{Bool, true, false, cond}
use mathlib.Core.List.{List, [], ◌∷◌}
use Prim.Native.Nat.{ℕ, zero, suc, ◌+◌, ◌≤◌, ◌<◌}
use native.Mathlib.Omega.{arith}
use lib.Dec.{eqb, ltb}
use lib.ListN.{length, get_or, set}
use borrow.Author.Tests.{lt-ltb, le-ltb, eqb-true, eqb-false, ltb-true, ltb-false}
use Rattle.records.proofs.Laws.{by-test}
use Rattle.truth.specs.AExpr.{AExpr}
use Rattle.constraints.specs.Lined.{lined}
use Rattle.constraints.specs.Mapped.{map_bound}
use Rattle.constraints.specs.Resolve.{fixed_at}
use Rattle.merge.specs.Emit.{is_fixed}
use Rattle.column_constraints.specs.Abstraction.{Conjuncts, numbered, column_of, bound_of, Fine}
use Rattle.column_constraints.specs.declared.bound.Bound.{Bound}
use Rattle.column_constraints.specs.declared.column.ColumnConstraints.{ColumnConstraints}
use Rattle.column_table.specs.State.{ColumnTable, column_at, Shows}
use Rattle.column_table.specs.Words.{past_column}
use Rattle.column_table.proofs.Arrays.{shows-set}
use Rattle.column_table.specs.Rows.{row_of, stride}
use Rattle.symbol_columns.specs.Literals.{literal_limit, literal_column, literal_table}

-- The table with the columns below n converted.
abbrev pub converted_to : ℕ → List ℕ → (ℕ → AExpr ℕ) → List ℕ → ColumnTable → ColumnTable
converted_to n t R nodes T a = cond (ltb a n) (literal_table t R nodes T a) (T a)

-- Tables are shown alike if they agree on the 64 columns.
shows-as : (s : Conjuncts) (table : List ColumnConstraints) (ms : List ℕ) (T U : ColumnTable) → Shows s table ms T →
    ((a : ℕ) → a < 64 → T a ≡ U a) → Shows s table ms U
shows-as s table ms T U S e =
    record { size = S.size; column = λ a l. S.column a l ∙ e a l; fine = S.fine }

module _ (t : List ℕ) (R : ℕ → AExpr ℕ) (nodes : List ℕ) (s : Conjuncts) (ms : List ℕ) (T : ColumnTable) where
  pub converted-none : (table : List ColumnConstraints) → Shows s table ms T → Shows s table ms (converted_to 0 t R nodes T)
  converted-none table S =
      shows-as s table ms T (converted_to 0 t R nodes T) S
      (λ a l. sym (ap (λ b. cond b (literal_table t R nodes T a) (T a)) (le-ltb a 0 (omega arith))))

  pub converted-more : (table table' : List ColumnConstraints) (x ty : ℕ) (c d : ColumnConstraints) → x < 64 →
      Shows s table ms (converted_to x t R nodes T) → c ≡ get_or table x past_column → ty ≡ get_or t x 0 →
      ((a : List ℕ) → column_of s (numbered a d) ≡
      cond (eqb ty 4) (literal_column R nodes (column_of s (numbered a c))) (column_of s (numbered a c))) → d.len ≡ c.len →
      table' ≡ set table x d → Shows s table' ms (converted_to (x + 1) t R nodes T)
  converted-more table table' x ty c d l S ec et ed el es =
      rw es (shows-as s (set table x d) ms _ (converted_to (x + 1) t R nodes T)
      (shows-set s table ms ms (converted_to x t R nodes T) x d (literal_table t R nodes T x) S l
      (record { size = refl; others = λ y k e. refl }) (ed (row_of ms x) ∙ here) (rw (el, ec) (S.fine x l))) all)
    where
      held : column_of s (numbered (row_of ms x) c) ≡ T x
      held =
          ap (λ k. column_of s (numbered (row_of ms x) k)) ec ∙ S.column x l
          ∙ ap (λ b. cond b (literal_table t R nodes T x) (T x)) (le-ltb x x (omega arith))

      here : cond (eqb ty 4) (literal_column R nodes (column_of s (numbered (row_of ms x) c))) (column_of s (numbered (row_of ms x) c))
          ≡ literal_table t R nodes T x
      here = rw (held, et)

      all : (a : ℕ) → a < 64 → cond (eqb x a) (literal_table t R nodes T x) (converted_to x t R nodes T a) ≡
          converted_to (x + 1) t R nodes T a
      all a k =
          by-test (eqb x a)
          (λ e. let q : x ≡ a = eqb-true x a e in
          rw (e, lt-ltb a (x + 1) (omega (arith, q))) (ap (literal_table t R nodes T) q))
          (λ e. let q : (x ≡ a → ⊥) = eqb-false x a e in
          rw e (ap (λ b. cond b (literal_table t R nodes T a) (T a)) (same a q)))
        where
          same : (a : ℕ) → (x ≡ a → ⊥) → ltb a x ≡ ltb a (x + 1)
          same a q =
              by-test (ltb a x)
              (λ e. let h : a < x = ltb-true a x e in e ∙ sym (lt-ltb a (x + 1) (omega (arith, h))))
              (λ e. let h : x ≤ a = ltb-false a x e in e ∙ sym (le-ltb a (x + 1) (omega (arith, h, q))))

  past : (l : List ℕ) (a : ℕ) → length l ≤ a → get_or l a 0 ≡ 0
  past [] a h = refl
  past (x ∷ l) zero h = absurd (omega (arith, h))
  past (x ∷ l) (suc a) h = past l a (omega (arith, h))

  pub converted-all : (table : List ColumnConstraints) (x : ℕ) → length t ≤ x → Shows s table ms (converted_to x t R nodes T) →
      Shows s table ms (literal_table t R nodes T)
  converted-all table x h S =
      shows-as s table ms (converted_to x t R nodes T) (literal_table t R nodes T) S (λ a l. go a (ltb a x) refl)
    where
      go : (a : ℕ) (b : Bool) → ltb a x ≡ b → cond b (literal_table t R nodes T a) (T a) ≡ literal_table t R nodes T a
      go a true e = refl
      go a false e =
          let k : x ≤ a = ltb-false a x e in
          sym (ap (λ y. cond (eqb y 4) (literal_column R nodes (T a)) (T a)) (past t a (omega (arith, h, k))))

-- ---- a converted column, by its parts
pub column-literals : (R : ℕ → AExpr ℕ) (nodes : List ℕ) (s : Conjuncts) (a : List ℕ) (c : ColumnConstraints) (fixed : Bool)
    (lower upper chosen : Bound) → fixed ≡ is_fixed (fixed_at lined (bound_of c.lower) (bound_of c.upper)) →
    bound_of lower ≡ map_bound (literal_limit R nodes false) (bound_of c.lower) →
    bound_of upper ≡ map_bound (literal_limit R nodes true) (bound_of c.upper) → chosen ≡ cond fixed lower upper →
    column_of s (numbered a (record {
      lower = lower;
      upper = chosen;
      len = c.len;
      strict = c.strict;
      nullability = c.nullability;
      since = c.since;
      unsat = c.unsat;
    })) ≡ literal_column R nodes (column_of s (numbered a c))
unfolding literal_column
column-literals R nodes s a c fixed lower upper chosen ef el eu ec =
    λ i. record {
      lower = el i;
      upper = (ap bound_of ec ∙ go fixed ∙ (λ j. cond (ef j) (el j) (eu j))) i;
      excluded = (column_of s (numbered a c)).excluded;
      allowed = (column_of s (numbered a c)).allowed;
      disallowed = (column_of s (numbered a c)).disallowed;
      strict = c.strict;
      nullability = c.nullability;
      unsat = c.unsat;
    }
  where
    go : (b : Bool) → bound_of (cond b lower upper) ≡ cond b (bound_of lower) (bound_of upper)
    go true = refl
    go false = refl

-- What the conjuncts give a column, it holds the first of.
use mathlib.Core.Path.{◌≡◌, refl, sym, subst, ◌∙◌, fun_ext}
use mathlib.Core.Bool.{Bool, true, false, cond, true≢false}
use mathlib.Core.List.{List, [], ◌∷◌, ◌++◌, append_assoc}
use Prim.Native.Nat.{ℕ}
use lib.Dec.{eqb}
use Rattle.constraints.specs.declared.column.Nullability.TheVariants.{NonNull}
use Rattle.constraints.specs.Scalars.{Scalars}
use Rattle.constraints.specs.Column.{Constraint, Require, add, add_all}
use Rattle.constraints.specs.LineKept.{Limit, all_given_as, FirstIn}
use Rattle.constraints.proofs.LineKept.{held-each}
use Rattle.constraints.proofs.HoldsFirst.{Firsts, HoldsFirsts, longer, nothing-more, require_first, add_all-first}
use Rattle.constraints.proofs.HoldsFirst.{empty-first}
use Rattle.merge.specs.Classify.{Conjunct, Bounds, Normalized, Equality, Recorded, NonNullPair, Opaque}
use Rattle.merge.specs.Collect.{Table, Collected, begin, require_non_null, add_to, collect_one, collect}
use Rattle.merge.specs.LineBehind.{conjunct_given_as, column_given_as, FirstGave}
use Rattle.merge.proofs.Passes.{eqb-path}
use Rattle.merge.proofs.Sound.{upd_ind}

module _ {K Val : Type 0} (S : Scalars K Val) where
  abbrev Given : Type 0
  Given = ℕ → Limit → List Val

  abbrev TableFirst : Given → Table Val → Type 0
  TableFirst given t = (c : ℕ) → HoldsFirsts S (given c) (t c)

  add_to-first : (d : ℕ) (l : List (Constraint Val)) (t : Table Val) (given : Given) → TableFirst given t →
      TableFirst (λ c k. given c k ++ cond (eqb d c) (all_given_as l k) []) (add_to S d l t)
  add_to-first d l t given h c = go (eqb d c) refl
    where
      go : (b : Bool) → eqb d c ≡ b →
          HoldsFirsts S (λ k. given c k ++ cond b (all_given_as l k) []) (cond b (add_all S l (t d)) (t c))
      go true e = subst (λ y. HoldsFirsts S (λ k. given c k ++ all_given_as l k) (add_all S l (t y))) (sym (eqb-path d c e))
          (add_all-first S l (t c) (given c) (h c))
      go false e = nothing-more S (t c) (given c) (h c)

  require_both_lem : (a b : ℕ) (t : Table Val) (given : Given) → TableFirst given t →
      TableFirst (λ c k. given c k ++ []) (require_non_null S b (require_non_null S a t))
  require_both_lem a b t given h c = nothing-more S (require_non_null S b (require_non_null S a t) c) (given c)
      (once b (require_non_null S a t) (once a t h) c)
    where
      once : (d : ℕ) (t : Table Val) → TableFirst given t → TableFirst given (require_non_null S d t)
      once d t h = upd_ind S (λ c q. HoldsFirsts S (given c) q) t d (add S (Require NonNull) (t d)) h
          (require_first S NonNull (t d) (given d) (h d))

  collect_one-first : (x : Conjunct Val) (s : Collected Val) (given : Given) → TableFirst given s.constraints →
      TableFirst (λ c k. given c k ++ conjunct_given_as x c k) (collect_one S x s).constraints
  collect_one-first (Bounds d l) s given h = add_to-first d l s.constraints given h
  collect_one-first (Normalized d l) s given h = add_to-first d l s.constraints given h
  collect_one-first (Equality a b n) s given h = require_both_lem a b s.constraints given h
  collect_one-first (Recorded stops n d l) s given h = add_to-first d l s.constraints given h
  collect_one-first (NonNullPair n a b) s given h = require_both_lem a b s.constraints given h
  collect_one-first (Opaque n) s given h = λ c. nothing-more S (s.constraints c) (given c) (h c)

  -- where the reading stopped, what is held stays the first
  abbrev CollectsFirst : Given → Collected Val → Type 0
  CollectsFirst given s = ((c : ℕ) → Firsts S (given c) (s.constraints c)) ×
      (s.unsat ≡ false → TableFirst given s.constraints)

  collect-first : (l : List (Conjunct Val)) (s : Collected Val) (given : Given) → CollectsFirst given s → (c : ℕ) →
      Firsts S (λ k. given c k ++ column_given_as l c k) ((collect S l s).constraints c)
  collect-first [] s given h c = longer S (s.constraints c) (given c) (λ k. []) (h.0 c)
  collect-first (x ∷ l) s given h c =
      subst (λ m. Firsts S m ((collect S l (cond s.unsat s (collect_one S x s))).constraints c))
      (fun_ext (λ k. append_assoc (given c k) (conjunct_given_as x c k) (column_given_as l c k)))
      (collect-first l (cond s.unsat s (collect_one S x s)) (λ d k. given d k ++ conjunct_given_as x d k)
      (go s.unsat refl) c)
    where
      go : (b : Bool) → s.unsat ≡ b →
          CollectsFirst (λ d k. given d k ++ conjunct_given_as x d k) (cond b s (collect_one S x s))
      go true e = (
        λ d. longer S (s.constraints d) (given d) (conjunct_given_as x d) (h.0 d),
        λ f. absurd (true≢false (sym e ∙ f)),
      )
      go false e = let r = collect_one-first x s given (h.1 e) in (λ d. (r d).0, λ f. r)

  pub first-gave : FirstGave S
  first-gave l c = held-each S (λ k v. FirstIn S v (column_given_as l c k)) ((collect S l begin).constraints c)
      (collect-first l begin (λ d k. []) (λ d. (empty-first S).0, λ f d. empty-first S) c)

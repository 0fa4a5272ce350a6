-- The walk over a checked screen with symbols: it finds the conjuncts of the records read as symbols, and all are used
-- records. Assumes nothing.
use mathlib.Core.Path.{◌≡◌, refl, sym, ◌∙◌, ap, subst}
use mathlib.Core.Bool.{Bool, true, false, cond}
use mathlib.Core.List.{List, [], ◌∷◌}
use mathlib.Core.Option.{Option, none, some}
use Prim.Native.Nat.{ℕ, suc, ◌≤◌, ◌<◌}
use native.Mathlib.Omega.{arith}
use lib.Dec.{ltb}
use lib.ListN.{get_or}
use borrow.Author.Tests.{ltb-true, lt-ltb}
use Rattle.records.specs.Record.{node, record_at}
use Rattle.records.specs.declared.record.Record.{Record}
use Rattle.records.specs.declared.record.Record.TheVariants as kind
use Rattle.records.proofs.Courses.{course-agree}
use Rattle.record_check.specs.Fit.{reach_ok_in}
use Rattle.checking.specs.Checked.{CheckedIn}
use Rattle.truth.specs.AExpr.{AExpr, Column, Literal, Null, BinaryExpr, Not, IsNull, IsNotNull, IsBetween, ListLiteral, IsIn, Missing}
use Rattle.truth.specs.AExpr.{Inputs, WF, map_aexpr}
use Rattle.truth.specs.FromBytes.{to_aexpr, aexpr_of, aexpr_at}
use Rattle.merge.specs.Minterms.{and_sides, minterms_by, minterms}
use Rattle.merge.proofs.Accepted.{binary-ind, one, two, three}
use Rattle.merge.proofs.Chains.{Below, below_more, minterms-low}
use Rattle.read_operands.specs.Walk.{walked, first_of, record_sides}
use Rattle.read_operands.proofs.Walks.{walked-sides, walked-minterms}
use Rattle.reading.proofs.Screens.{below-first}
use Rattle.symbol_screens.specs.Reading.{held_at}

-- ---- Other values, the same records.
module _ {A B : Type 0} (f : A → B) where
  pub mapped_sides : (e : AExpr A) → and_sides (map_aexpr f e) ≡ and_sides e
  mapped_sides (Column c) = refl
  mapped_sides (Literal v) = refl
  mapped_sides Null = refl
  mapped_sides (BinaryExpr op x y) = refl
  mapped_sides (Not x) = refl
  mapped_sides (IsNull x) = refl
  mapped_sides (IsNotNull x) = refl
  mapped_sides (IsBetween c d x y z) = refl
  mapped_sides (ListLiteral m l) = refl
  mapped_sides (IsIn e x y) = refl
  mapped_sides Missing = refl

  pub mapped_inputs : (n : ℕ) (e : AExpr A) → Inputs n e → Inputs n (map_aexpr f e)
  mapped_inputs n (Column c) h = h
  mapped_inputs n (Literal v) h = h
  mapped_inputs n Null h = h
  mapped_inputs n (BinaryExpr op x y) h = h
  mapped_inputs n (Not x) h = h
  mapped_inputs n (IsNull x) h = h
  mapped_inputs n (IsNotNull x) h = h
  mapped_inputs n (IsBetween c d x y z) h = h
  mapped_inputs n (ListLiteral m l) h = h
  mapped_inputs n (IsIn e x y) h = h
  mapped_inputs n Missing h = h

-- The two sides of a record do not depend on the pool.
pub record_sides_lem : (p : List ℕ) (r : Record) → and_sides (to_aexpr p r) ≡ record_sides r
record_sides_lem p kind.Invalid = refl
record_sides_lem p (kind.Column c) = refl
record_sides_lem p (kind.Literal ty v) = refl
record_sides_lem p (kind.Null ty) = refl
record_sides_lem p (kind.Binary o x y) = refl
record_sides_lem p (kind.Not x) = refl
record_sides_lem p (kind.IsNull x) = refl
record_sides_lem p (kind.IsNotNull x) = refl
record_sides_lem p (kind.IsBetween ends x low high) = refl
record_sides_lem p (kind.List ty holds_null start count) = refl
record_sides_lem p (kind.IsIn nulls_equal x list) = refl

-- The inputs of a checked record are below it, with any pool.
pub record_inputs : (text : ℕ) (t p q : List ℕ) (n : ℕ) (r : Record) → reach_ok_in text t p r (node n) ≡ true
    → Inputs n (to_aexpr q r)
unfolding reach_ok_in
record_inputs text t p q n kind.Invalid h = tt
record_inputs text t p q n (kind.Column c) h = tt
record_inputs text t p q n (kind.Literal ty v) h = tt
record_inputs text t p q n (kind.Null ty) h = tt
record_inputs text t p q n (kind.Binary o x y) h =
    let b = two n x.0 y.0 h in
    binary-ind (Inputs n) x.0 y.0 tt (b, b) o (λ e c. b) (λ e. (b, b)) (λ e d k. b)
record_inputs text t p q n (kind.Not x) h = one n x.0 h
record_inputs text t p q n (kind.IsNull x) h = one n x.0 h
record_inputs text t p q n (kind.IsNotNull x) h = one n x.0 h
record_inputs text t p q n (kind.IsBetween ends x low high) h = three n x.0 low.0 high.0 h
record_inputs text t p q n (kind.List ty holds_null start count) h = tt
record_inputs text t p q n (kind.IsIn nulls_equal x list) h = two n x.0 list.0 h

-- Records with the sides of the lent ones are walked alike.
pub sides_walk : {Val : Type 0} (R : ℕ → AExpr Val) (rs : List ℕ) (u : ℕ)
    → ((n : ℕ) → n < u → and_sides (R n) ≡ record_sides (record_at rs (node n)))
    → (n : ℕ) → n < u → minterms R n ≡ minterms (walked rs) n
sides_walk R rs u same n h =
    course-agree (λ a. a ∷ []) (λ below i. minterms_by i below (and_sides (R i)))
    (λ below i. minterms_by i below (and_sides (walked rs i))) u
    (λ m k C D e. ap (minterms_by m C) (same m k ∙ sym (walked-sides rs m)) ∙ go m C D e (and_sides (walked rs m))) n h
  where
    go : (m : ℕ) (C D : ℕ → List ℕ) → ((a : ℕ) → C a ≡ D a) → (o : Option (ℕ × ℕ)) → minterms_by m C o ≡ minterms_by m D o
    go m C D e none = refl
    go m C D e (some s) = rw (e s.0, e s.1)

-- ---- A checked screen, whatever text pool is lent.
module _ (text : ℕ) (t rs p : List ℕ) (used root : ℕ) (ok : CheckedIn text t rs p used root) where
  pub falls : WF (aexpr_at rs p used)
  unfolding aexpr_at aexpr_of
  falls n = go (ltb n used) refl
    where
      go : (b : Bool) → ltb n used ≡ b → Inputs n (cond b (to_aexpr p (record_at rs (node n))) Missing)
      go true e = record_inputs text t p p n (record_at rs (node n)) (ok.records n (ltb-true n used e)).reach
      go false e = tt

  -- What the walk asks.
  pub walked-inputs : (n : ℕ) → n ≤ root → Inputs n (walked rs n)
  unfolding aexpr_of
  walked-inputs n h =
      let k = ok.root-used in record_inputs text t p [] n (record_at rs (node n)) (ok.records n (omega arith)).reach

  -- Read as symbols, the records have the conjuncts that the walk finds.
  pub held-walked : minterms (held_at rs p used) root ≡ minterms (walked rs) root
  unfolding held_at
  held-walked =
      sides_walk (held_at rs p used) rs used
      (λ n h. rw (lt-ltb n used h) (mapped_sides _ (to_aexpr p (record_at rs (node n))) ∙ record_sides_lem p (record_at rs (node n))))
      root ok.root-used

  pub minterms-below_root : Below (suc root) (minterms (walked rs) root)
  minterms-below_root =
      subst (Below (suc root)) (sym (walked-minterms rs p used root ok.root-used)) (minterms-low (aexpr_at rs p used) falls root)

  pub minterms-below : Below used (minterms (walked rs) root)
  minterms-below =
      let h = ok.root-used in below_more (suc root) used (minterms (walked rs) root) (omega arith) minterms-below_root

  -- The conjuncts in an array are used records.
  pub nodes_below : (nodes : List ℕ) (n : ℕ) → first_of nodes n ≡ minterms (walked rs) root → (i : ℕ) → i < n
      → get_or nodes i 0 < used
  nodes_below nodes n are i h = below-first used nodes n (subst (Below used) (sym are) minterms-below) i h

use mathlib.Core.Path.{◌≡◌, refl, ◌∙◌, ap}
use mathlib.Core.List.{List}
use Prim.Native.Nat.{ℕ, zero, suc, ◌≤◌, ◌<◌}
use native.Mathlib.Omega.{arith}
use lib.ListN.{length, get_or}
use Rattle.constraints.specs.Lined.{Lined, lined}
use Rattle.constraints.specs.Column as q
use Rattle.constraints.specs.Resolve as z
use Rattle.column_constraints.specs.Abstraction.{Conjuncts, conjuncts, numbered, column_of, Fine}
use Rattle.column_constraints.specs.Steps.{step_marks}
use Rattle.column_sets.proofs.Numbers.{fine-zero, marked-same}
use Rattle.column_constraints.proofs.Pigeon.{few}
use Rattle.resolve_deferred.proofs.Resolutions.{walk-law}
use Rattle.column_sets.proofs.Asked.{low-row}
use Rattle.resolve_deferred.proofs.resolve.resolve_deferred.Goals as goal

-- the copy a has the numbers of b: what is said of n numbers of b is true of a
steps-same : (t : Conjuncts) (a b : List ℕ) (n : ℕ) (cc : q.ColumnConstraints Lined) →
    ((i : ℕ) → i < n → get_or a i 0 ≡ get_or b i 0) → step_marks t a n cc ≡ step_marks t b n cc
unfolding step_marks
steps-same t a b zero cc h = refl
steps-same t a b (suc n) cc h = rw (steps-same t a b n cc (λ i l. h i (omega arith)), h n (omega arith))

fine-same : (m : ℕ) (a b : List ℕ) (n : ℕ) → ((i : ℕ) → i < n → get_or a i 0 ≡ get_or b i 0) → Fine m b n → Fine m a n
fine-same m a b n h f i l =
    rw (h i l, marked-same a b i (get_or b i 0) (λ j k. h j (omega arith))) (f i l)

pub copied-old-requires : goal.copied-old-requires
copied-old-requires c =
    let k : c.args.c.len ≤ length c.args.own.now = few _ _ _ c.requires.fine.0 in
    (k, omega (arith, k, c.requires.fine.1))

pub step_marks-d-requires : goal.step_marks-d-requires
step_marks-d-requires c =
    (fine-zero _ _ _ c.begin_walk-w.ensures.len_value, fine-same _ _ _ _ c.copied-old.ensures c.requires.fine.0)

pub with_lists-requires : goal.with_lists-requires
with_lists-requires c = (c.requires.indexed, low-row _ _ _ c.step_marks-d.ensures.fine c.requires.fine.1)

pub returns : goal.returns
returns c =
    let tables = conjuncts c.args.told.now c.args.pool.now in
    record {
      result_value = c.with_lists.ensures.result_value ∙ ap (λ (x : q.ColumnConstraints Lined). z.with_lists lined x) (walk-law tables
          (numbered c.args.own.now c.args.c) (column_of tables (numbered c.step_marks-d.new.own
          c.step_marks-d.result)) c.null_conflict-conflict.result (c.step_marks-d.ensures.result_after tables refl refl ∙ steps-same tables
          c.copied-old.result c.args.own.now c.args.c.len (column_of tables (numbered c.args.own.now
          c.begin_walk-w.result)) c.copied-old.ensures ∙ ap (λ (x : q.ColumnConstraints Lined). step_marks tables c.args.own.now c.args.c.len x) (c.begin_walk-w.ensures.result_value tables c.args.own.now)) (c.null_conflict-conflict.ensures tables refl));
      fine_2 = rw c.with_lists.ensures.len_value c.step_marks-d.ensures.fine;
    }

use mathlib.Core.Path.{◌≡◌, sym, ◌∙◌, ap}
use Prim.Native.Nat.{ℕ}
use lib.ListN.{get_or}
use Rattle.column_constraints.specs.Abstraction.{numbered, column_of}
use Rattle.resolve_deferred.proofs.Resolutions.{step-0, step-1, step-2, step-else}
use mathlib.Core.List.{List}
use Rattle.resolve_deferred.proofs.resolve.step_mark.Goals as goal

pub returns-then-k-eq0 : goal.returns-then-k-eq0
returns-then-k-eq0 c =
    record {
      result_after = (λ t e f. c.step_excluded.ensures.result_after t e f ∙
          step-0 t _ _ (column_of t (numbered c.args.own.now c.args.c)) f
          (ap (λ (l : List ℕ). get_or l c.args.j 0) e ∙ sym c.kind_at-k.ensures ∙ c.if-k-eq0.true));
      fine = c.step_excluded.ensures.fine;
    }

pub returns-then-k-eq1 : goal.returns-then-k-eq1
returns-then-k-eq1 c =
    record {
      result_after = (λ t e f. let k : get_or t.kinds c.args.j 0 ≡ 1 = ap (λ (l : List ℕ). get_or l c.args.j 0) e ∙
          sym c.kind_at-k.ensures ∙ c.if-k-eq1.true in
          c.insert_list.ensures.result_after t k ∙ step-1 t _ (column_of t (numbered c.args.own.now c.args.c)) k);
      fine = c.insert_list.ensures.fine;
    }

pub returns-then-k-eq2 : goal.returns-then-k-eq2
returns-then-k-eq2 c =
    record {
      result_after = (λ t e f. let k : get_or t.kinds c.args.j 0 ≡ 2 = ap (λ (l : List ℕ). get_or l c.args.j 0) e ∙
          sym c.kind_at-k.ensures ∙ c.if-k-eq2.true in
          c.insert_list-then-k-eq2.ensures.result_after_2 t k ∙ step-2 t _ (column_of t (numbered c.args.own.now c.args.c)) k);
      fine = c.insert_list-then-k-eq2.ensures.fine;
    }

pub returns : goal.returns
returns c =
    record {
      result_after = (λ t e f. step-else t _ (column_of t (numbered c.args.own.now c.args.c)) _
          (ap (λ (l : List ℕ). get_or l c.args.j 0) e ∙ sym c.kind_at-k.ensures) c.if-k-eq0.false c.if-k-eq1.false c.if-k-eq2.false);
      fine = c.requires.0;
    }

use borrow.Author.Tests.{not-true, not-false}
use Rattle.checking.proofs.Standing.{refused-table, refused-sizes, refused-root, table-refusal_stands}
use Rattle.checking.proofs.Standing.{sizes-refusal_stands, root-refusal_stands}
use mathlib.Core.Path.{sym, ◌∙◌, refl}
use native.Mathlib.Omega.{arith}
use mathlib.Core.Path.{ap}
use mathlib.Core.Bool.{not}
use Rattle.checking.proofs.check.limits_fault.Goals as goal

pub returns-then-k-ne0 : goal.returns-then-k-ne0
returns-then-k-ne0 c =
    record { t_value = (λ h. absurd (c.if-k-ne0.true h)); fact = (λ h. let k = c.table_fault-k.ensures.result_value h in refused-table _ _ _ _ _ _ _ k.0 k.1); stands = λ h z l. table-refusal_stands c.args.text _ _ _ _ _ z (c.table_fault-k.ensures.t_value_2 h l) }

pub returns-then-not-sizes_ok : goal.returns-then-not-sizes_ok
returns-then-not-sizes_ok c =
    let a = c.table_fault-k.ensures.t_value c.if-k-ne0.false in
    let b = sym c.sizes_ok.ensures ∙ not-true _ (ap not c.if-not-sizes_ok.true) in
    record { t_value = (λ h. absurd (omega (arith, h))); fact = (λ h. refused-sizes _ _ _ _ _ _ a b); stands = λ h z l. sizes-refusal_stands c.args.text _ _ _ _ _ z a b }

pub returns-then-used-root : goal.returns-then-used-root
returns-then-used-root c =
    let a = c.table_fault-k.ensures.t_value c.if-k-ne0.false in
    let b = sym c.sizes_ok.ensures ∙ not-false _ (ap not c.if-not-sizes_ok.false) in
    record {
      t_value = (λ h. absurd (omega (arith, h)));
      fact = (λ h. refused-root _ _ _ _ _ _ a b c.if-used-root.true);
      stands = λ h z l.
          root-refusal_stands c.args.text _ _ _ _ _ z a b c.if-used-root.true;
    }

pub returns : goal.returns
returns c =
    record { t_value = (λ h. (c.table_fault-k.ensures.t_value c.if-k-ne0.false, sym c.sizes_ok.ensures ∙ not-false _ (ap not c.if-not-sizes_ok.false), c.if-used-root.false)); fact = (λ h. absurd (h refl)); stands = λ h. absurd (h refl) }

use mathlib.Core.Path.{refl, ◌∙◌}
use Rattle.records.proofs.Loops.{flag_no, flag_yes}
use Rattle.hedge.proofs.Lists.{counts-are, list-is, sums_refused, sums_listed}
use mathlib.Core.Path.{ap}
use mathlib.Core.Bool.{not}
use Rattle.hedge.proofs.list.list_rows.Goals as goal

pub returns-then-not-sums_fit : goal.returns-then-not-sums_fit
returns-then-not-sums_fit c =
    record {
      by_index = λ A j. sums_refused _ _ _ _ (flag_no c.sums_fit.ensures (ap not c.if-not-sums_fit.true)) ∙ counts-are A _ _ j _ _ _ _
          c.count_class-passed.ensures c.count_class-is_false.ensures c.count_class-unknown.ensures;
      by_index_2 = λ A j. refl;
    }

pub returns : goal.returns
returns c =
    record {
      by_index = λ A j. sums_listed _ _ _ _ (flag_yes c.sums_fit.ensures (ap not c.if-not-sums_fit.false)) ∙ counts-are A _ _ j _ _ _ _
          c.count_class-passed.ensures c.count_class-is_false.ensures c.count_class-unknown.ensures;
      by_index_2 = λ A j. list-is A _ _ j _ _
          c.write_list.ensures;
    }

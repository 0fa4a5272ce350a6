use borrow.Author.Rules.{rules}
use Rattle.record_check.specs.Outside.{Counts}
use Rattle.checking.proofs.check.records_pooled.Goals as goal

pub records_fault-requires : goal.records_fault-requires
unfolding Counts
records_fault-requires c =
    record { counts = (c.requires.counts_of.0, c.requires.counts_of.1, λ h. (search rules, c.fill_outside.ensures)); used_in_bounds = c.requires.used_in_bounds; used_in_bounds_2 = c.requires.used_in_bounds_2; used_in_bounds_3 = c.requires.used_in_bounds_3; t_value = c.requires.t_value; root_lt_used = c.requires.root_lt_used }

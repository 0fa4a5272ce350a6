use borrow.Author.Rules.{rules}
use Rattle.record_check.specs.Outside.{Counts}
use mathlib.Core.Path.{refl}
use Rattle.checking.proofs.check.records_counted.Goals as goal

pub records_fault-requires : goal.records_fault-requires
unfolding Counts
records_fault-requires c =
    record {
      counts = (
        λ h. (search rules, c.fill_outside.ensures),
        λ h. (search rules, c.fill_outside-2.ensures),
        λ h. absurd (h
            refl),
      );
      used_in_bounds = c.requires.used_in_bounds;
      used_in_bounds_2 = c.requires.used_in_bounds_2;
      used_in_bounds_3 = c.requires.used_in_bounds_3;
      t_value = c.requires.t_value;
      root_lt_used = c.requires.root_lt_used;
    }

pub records_pooled-requires : goal.records_pooled-requires
unfolding Counts
records_pooled-requires c =
    record { p_len_bound = c.requires.p_len_bound; counts_of = (λ h. (search rules, c.fill_outside.ensures), λ h. (search rules, c.fill_outside-2.ensures)); used_in_bounds = c.requires.used_in_bounds; used_in_bounds_2 = c.requires.used_in_bounds_2; used_in_bounds_3 = c.requires.used_in_bounds_3; t_value = c.requires.t_value; root_lt_used = c.requires.root_lt_used }

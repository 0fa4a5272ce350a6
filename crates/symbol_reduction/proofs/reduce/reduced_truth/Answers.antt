use borrow.Author.Rules.{rules}
use mathlib.Core.Path.{◌∙◌, sym}
use Rattle.checking.proofs.Accepted.{checked-lent_in}
use Rattle.symbol_reduction.proofs.TextLeaves.{symbol-tested}
use Rattle.symbol_reduction.proofs.ReducedFit.{reduced_evaluable}
use Rattle.symbol_reduction.proofs.ReducedTruth.{reduced_truth_lem}
use Rattle.symbol_reduction.proofs.reduce.reduced_truth.Goals as goal

pub reduce-requires : goal.reduce-requires
reduce-requires c =
    record {
      used_in_bounds = checked-lent_in _ _ _ _ _ _ c.requires.checked_in;
      used_in_bounds_2 = c.requires.used_in_bounds;
      tested = symbol-tested _ _ _ _ _ _ _ _ c.requires.checked_in
          c.requires.nulls_value;
      reduced = c.requires.reduced;
    }

pub truth_at-requires : goal.truth_at-requires
truth_at-requires c =
    reduced_evaluable _ _ _ _ _ _ _ _ c.requires.checked_in c.requires.nulls_value _ c.reduce.ensures (search rules) _ c.requires.checked_in.root-used

pub returns : goal.returns
returns c =
    record { value = c.truth_at.ensures ∙ sym (reduced_truth_lem _ _ _ _ _ _ _ _ c.requires.checked_in c.requires.nulls_value _ c.reduce.ensures); reduced_2 = c.reduce.ensures }

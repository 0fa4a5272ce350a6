use Rattle.records.proofs.Loops.{flag_no, flag_yes}
use Rattle.symbol_reduction.proofs.Constants.{reduced_skip, reduced_put}
use mathlib.Core.Path.{ap}
use mathlib.Core.Bool.{not}
use Rattle.symbol_reduction.proofs.reduce.reduce_record.Goals as goal

pub returns-then-not-takes_symbols : goal.returns-then-not-takes_symbols
returns-then-not-takes_symbols c =
    reduced_skip _ _ _ _ _ _ _ _ _ c.requires.reduced (rw c.fields_in-f.ensures at (flag_no c.takes_symbols.ensures (ap not c.if-not-takes_symbols.true)))

pub symbol_truth-requires : goal.symbol_truth-requires
symbol_truth-requires c =
    rw c.fields_in-f.ensures (c.requires.tested c.args.n.0 c.requires.n_lt_used (rw c.fields_in-f.ensures at
    (flag_yes c.takes_symbols.ensures (ap not c.if-not-takes_symbols.false))))

pub returns : goal.returns
returns c =
    rw c.put_constant.ensures (reduced_put _ _ _ _ _ _ _ _ _ c.requires.reduced (rw c.fields_in-f.ensures at
    (flag_yes c.takes_symbols.ensures (ap not c.if-not-takes_symbols.false))) c.requires.n_lt_used c.requires.used_in_bounds_2 _ (rw c.fields_in-f.ensures
    at c.symbol_truth.ensures))

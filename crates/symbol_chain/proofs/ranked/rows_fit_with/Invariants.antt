use mathlib.Core.Path.{◌≡◌}
use mathlib.Core.Bool.{true}
use Prim.Native.Nat.{◌-◌, ◌≤◌}
use lib.ListN.{length}
use Rattle.records.specs.Bytes.{all}
use Rattle.symbol_chain.specs.ChainWith.{row_fits_with}
use Rattle.symbol_chain.proofs.ranked.rows_fit_with.Given as goal

abbrev pub invariant-loop-r : goal.invariant-loop-r
invariant-loop-r l =
    (l.r ≤ length l.nulls) × (all (row_fits_with l.text l.table l.values l.nulls) l.r ≡ true)

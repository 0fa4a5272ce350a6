use mathlib.Core.Path.{◌≡◌}
use Prim.Native.Nat.{◌+◌, ◌-◌, ◌≤◌}
use Rattle.symbols.specs.Symbol.{symbol_key}
use Rattle.truth.specs.FromBytes.{values_from}
use Rattle.symbol_values.proofs.SymbolLists.{holds_symbol}
use Rattle.symbol_values.proofs.symbol_listed.Given as goal

abbrev pub invariant-loop-i : goal.invariant-loop-i
invariant-loop-i l =
    (l.i ≤ l.end) × (l.start ≤ l.i) × (l.end ≡ l.start + l.count) × (holds_symbol l.text (symbol_key l.text l.v) (values_from l.pool l.i
    (l.end - l.i)) ≡ holds_symbol l.text (symbol_key l.text l.v) (values_from l.pool l.start l.count))

use Prim.Native.Nat.{◌+◌, ◌*◌, ◌-◌, ◌≤◌}
use mathlib.Core.Path.{◌≡◌}
use lib.ListN.{length}
use Rattle.merge.specs.Write.{splice}
use Rattle.symbols.specs.Symbol.{bytes_from}
use Rattle.symbol_text.specs.Hex.{hex_bytes}
use Rattle.symbol_text.proofs.write_hex.Given as goal

abbrev pub invariant-loop-i : goal.invariant-loop-i
invariant-loop-i l =
    (l.i ≤ l.count) × (l.next ≡ l.at + 2 * l.i) × (length l.s ≡ length l.initial.s) × (l.s ≡ splice l.initial.s l.at (hex_bytes (bytes_from l.text
    l.start l.i)))

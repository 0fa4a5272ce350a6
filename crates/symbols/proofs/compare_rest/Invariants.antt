use Prim.Native.Nat.{◌-◌}
use Rattle.symbols.specs.Symbol.{Rest}
use Rattle.symbols.proofs.compare_rest.Given as goal

-- `compare_rest` meets its contract: what is left of both strings decides. Assumes nothing.
abbrev pub invariant-loop-k : goal.invariant-loop-k
invariant-loop-k l =
    Rest l.text l.i l.m l.j l.n l.k

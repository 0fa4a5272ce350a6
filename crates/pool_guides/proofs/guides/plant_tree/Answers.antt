use mathlib.Core.Path.{◌∙◌}
use native.Mathlib.Omega.{arith}
use Prim.Native.Nat.{◌^◌, ◌<◌, ◌≤◌}
use lib.Pow.{pow_mono}
use Rattle.std.proofs.lemmas.Nat.{pow_pos}
use Rattle.pool_guides.proofs.guides.plant_tree.Goals as goal

pub plant_level-requires-clause-size_nonzero : goal.plant_level-requires-clause-size_nonzero
plant_level-requires-clause-size_nonzero c =
    let h : 2 ^ c.loop-level.level ≤ 2 ^ 9 = pow_mono {j = 9} (omega arith) in
    let k : 0 < 2 ^ c.loop-level.level = pow_pos c.loop-level.level in
    (omega arith, omega arith)

pub loop-level-preserved : goal.loop-level-preserved
loop-level-preserved c = λ q l. c.plant_level.ensures q l ∙ c.loop-level.invariant q l

use mathlib.Core.Path.{refl}
use Prim.Native.Nat.{◌<◌}
use native.Mathlib.Omega.{arith}
use Rattle.checking.specs.Tree.{tree_count}
use Rattle.show_row.proofs.Answers.{show-8}
use Rattle.show_row.proofs.show_checked.Goals as goal

pub returns-then-top-gt4096 : goal.returns-then-top-gt4096
returns-then-top-gt4096 c =
    let e = c.requires.counted c.args.root.0 (omega arith) in
    let k : 4096 < tree_count c.args.rs.now c.args.root.0 = omega (arith, e, c.if-top-gt4096.true) in
    record { value = show-8 c.args.t.now c.args.rs.now c.args.p.now c.args.used c.args.root.0 _ c.requires.root_value k; row_after = refl; low_shown = tt }

pub show_counted-requires : goal.show_counted-requires
show_counted-requires c =
    let e = c.requires.counted c.args.root.0 (omega arith) in
    record { accepted = c.requires.root_value; small = omega (arith, e, c.if-top-gt4096.false) }

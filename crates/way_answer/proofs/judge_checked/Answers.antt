use Prim.Native.Nat.{◌<◌}
use native.Mathlib.Omega.{arith}
use Rattle.checking.specs.Tree.{tree_count}
use Rattle.way_answer.proofs.Answers.{way-8}
use Rattle.way_answer.proofs.judge_checked.Goals as goal

pub returns-then-top-gt4096 : goal.returns-then-top-gt4096
returns-then-top-gt4096 c =
    let e = c.requires.counted c.args.root.0 (omega arith) in
    let k : 4096 < tree_count c.args.rs.now c.args.root.0 = omega (arith, e, c.if-top-gt4096.true) in
    way-8 c.args.t.now c.args.rs.now c.args.p.now c.args.used c.args.root.0 c.requires.root_value k

pub judge_counted-requires : goal.judge_counted-requires
judge_counted-requires c =
    let e = c.requires.counted c.args.root.0 (omega arith) in
    record { accepted = c.requires.root_value; small = omega (arith, e, c.if-top-gt4096.false) }

use Prim.Native.Nat.{◌<◌}
use native.Mathlib.Omega.{arith}
use Rattle.checking.specs.Tree.{tree_count}
use Rattle.rewrite_symbols.proofs.Refusals.{refused-explains, with-8}
use Rattle.rule.proofs.rewrite_checked.Goals as goal

pub returns-then-top-gt4096 : goal.returns-then-top-gt4096
returns-then-top-gt4096 c =
    let e = c.requires.counted c.args.root.0 (omega arith) in
    let k : 4096 < tree_count c.args.rs.now c.args.root.0 = omega (arith, e) in
    record { explains = (λ _. refused-explains c.args.text.now c.args.t.now c.args.rs.now c.args.p.now c.args.used c.args.root.0 8 c.refused.result c.args.reasons.now c.refused.ensures.answer_value c.refused.ensures.length_value (with-8 c.args.text.now c.args.t.now c.args.rs.now c.args.p.now c.args.used c.args.root.0 c.requires.accepted k)) }

pub rewrite_counted-requires : goal.rewrite_counted-requires
rewrite_counted-requires c =
    let e = c.requires.counted c.args.root.0 (omega arith) in
    record { accepted = c.requires.accepted; free = c.requires.free; counted = c.requires.counted; small = omega (arith, e) }

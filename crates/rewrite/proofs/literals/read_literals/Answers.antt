use mathlib.Core.Path.{refl, ◌∙◌}
use Prim.Native.Nat.{◌+◌, ◌*◌, ◌<◌}
use native.Mathlib.Omega.{arith}
use lib.ListN.{length-set}
use Rattle.rewrite.proofs.Telling.{filled_more, filled_skip, kept-behind}
use Rattle.rewrite.proofs.literals.read_literals.Goals as goal
use Rattle.rewrite.proofs.literals.read_literals.Goals.{then-not-tells_nothing, else-not-tells_nothing}

pub loop-i-init : goal.loop-i-init
loop-i-init c = ((λ p m h. absurd (omega arith)), (λ m l. refl))

pub bounds-told-i-then-not-tells_nothing : goal.bounds-told-i-then-not-tells_nothing
bounds-told-i-then-not-tells_nothing c = omega (arith, length-set c.loop-i.told (2 * c.loop-i.i) c.word_of.result)

pub loop-i-preserved : goal.loop-i-preserved
loop-i-preserved c =
    let h : c.loop-i.i < c.args.n = omega arith in
    elim c.if-not-tells_nothing.branch [
      | then-not-tells_nothing w ↦ rw w.told-is (
        filled_more c.args.rs.now c.args.nodes.now c.loop-i.told c.loop-i.i w.classify_by_record-k.result w.said_by-s.result w.word_of.result w.kind_of.result (omega arith) w.classify_by_record-k.ensures
            w.said_by-s.ensures w.word_of.ensures w.kind_of.ensures c.loop-i.invariant.0,
        kept-behind c.loop-i.told c.args.told.now c.loop-i.i c.args.n w.word_of.result w.kind_of.result h c.loop-i.invariant.1,
      )
      | else-not-tells_nothing w ↦ rw w.told-is (
        filled_skip c.args.rs.now c.args.nodes.now c.loop-i.told c.loop-i.i (c.tells_nothing.ensures w.if-not-tells_nothing.false) c.loop-i.invariant.0,
        c.loop-i.invariant.1,
      )
    ]

pub returns : goal.returns
returns c = record { by_index = (λ p i h. c.loop-i.invariant.0 p i (omega arith)); by_index_2 = c.loop-i.invariant.1 }

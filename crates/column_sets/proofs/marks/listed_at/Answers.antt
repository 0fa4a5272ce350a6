use mathlib.Core.Path.{◌∙◌}
use Prim.Native.Nat.{◌+◌, ◌/◌, ◌<◌}
use native.Mathlib.Omega.{arith}
use lib.ListN.{length}
use lib.Dec.{ltb}
use mathlib.Core.Bool.{◌&&◌}
use borrow.Author.Tests.{ltb-true}
use Rattle.records.proofs.Laws.{and_left, and_right}
use Rattle.column_sets.proofs.Asked.{covered}
use Rattle.column_sets.proofs.marks.listed_at.Goals as goal

pub has-requires : goal.has-requires
has-requires c =
    let k = covered c.args.index.now c.args.p c.set_of-at.result (and_left (ltb (c.args.p + 4096)
    (length c.args.index.now / 2) && ltb 0 c.set_of-at.result) (ltb c.args.j 128) c.if-p-index.true)
    c.set_of-at.ensures in
    let l : c.args.j < 128 = ltb-true _ _ (and_right (ltb (c.args.p + 4096) (length c.args.index.now
    / 2) && ltb 0 c.set_of-at.result) (ltb c.args.j 128) c.if-p-index.true) in
    omega (arith, k.is, c.requires.0.room _ k.within, l)

pub returns-then-p-index : goal.returns-then-p-index
returns-then-p-index c =
    let k = covered c.args.index.now c.args.p c.set_of-at.result (and_left (ltb (c.args.p + 4096)
    (length c.args.index.now / 2) && ltb 0 c.set_of-at.result) (ltb c.args.j 128) c.if-p-index.true)
    c.set_of-at.ensures in
    let l : c.args.j < 128 = ltb-true _ _ (and_right (ltb (c.args.p + 4096) (length c.args.index.now
    / 2) && ltb 0 c.set_of-at.result) (ltb c.args.j 128) c.if-p-index.true) in
    c.has.ensures ∙ rw k.is (c.requires.0.lists _ _ k.within k.some l)

pub returns : goal.returns
returns c = rw (← c.value_at.ensures) c.listed.ensures

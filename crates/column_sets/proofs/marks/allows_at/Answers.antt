use native.Mathlib.Omega.{arith}
use Rattle.records.specs.Bytes.{value_at}
use Rattle.column_constraints.specs.Abstraction.{kinds_in, starts_in, counts_in}
use Rattle.column_sets.proofs.Asked.{allowed-asked, covered}
use Rattle.column_sets.proofs.marks.allows_at.Goals as goal

pub within-requires : goal.within-requires
within-requires c =
    let k = covered c.args.index.now c.args.p c.set_of-at.result c.if-p-index.true c.set_of-at.ensures in
    (omega (arith, c.requires.low.1.size), omega (arith, k.is, c.requires.indexed.0.room _ k.within))

pub returns-then-p-index : goal.returns-then-p-index
returns-then-p-index c =
    let k = covered c.args.index.now c.args.p c.set_of-at.result c.if-p-index.true c.set_of-at.ensures in
    allowed-asked (kinds_in c.args.told.now) (starts_in c.args.told.now) (counts_in c.args.told.now) c.args.pool.now
    c.args.marks.now c.args.n (value_at c.args.pool.now c.args.p) c.args.index.now
    c.set_of-at.result c.requires.low.0 (λ j l. rw k.is (c.requires.indexed.0.lists _ j k.within k.some l)) c.args.allowed.now _ c.requires.low.1 c.within.ensures

pub returns : goal.returns
returns c = rw (← c.value_at.ensures) c.allows.ensures

use mathlib.Core.Path.{◌≡◌, refl, ap}
use native.Mathlib.Omega.{arith}
use Rattle.ranked_screen.specs.Screen.{list_start}
use Rattle.ranked_screen.proofs.Records.{records-none, records-more}
use borrow.Author.Rules.{rules}
use Rattle.ranked_screen.proofs.record.rank_records.Goals as goal

pub loop-i-init : goal.loop-i-init
loop-i-init c = (omega arith, refl, records-none)

pub ranked_record-requires : goal.ranked_record-requires
ranked_record-requires c =
    let w = c.requires.used_bound.2.starts _ c.loop-i-test.true in
    let e = ap list_start c.record_at-r.ensures in
    omega (arith, w, e, c.requires.used_bound.1)

pub put_record-requires : goal.put_record-requires
put_record-requires c = omega (arith, c.loop-i.invariant.1, c.loop-i-test.true, c.requires.used_in_bounds.1)

pub loop-i-preserved : goal.loop-i-preserved
loop-i-preserved c =
    let w = c.requires.used_bound.2.starts _ c.loop-i-test.true in (
      omega (arith, c.loop-i-test.true),
      search rules,
      records-more _ _ _ _ _ _ _ _ (λ q. omega (
        arith,
        c.type_inv.rs q,
      )) (omega (arith, c.type_inv.ranks c.loop-i.i)) (omega (arith, w, c.requires.used_bound.1)) (omega
          (arith, c.loop-i.invariant.1, c.loop-i-test.true, c.requires.used_in_bounds.1)) c.record_at-r.ensures c.ranked_record.ensures c.put_record.ensures c.loop-i.invariant.2,
    )

pub shape_of-src : goal.shape_of-src
shape_of-src c = c.loop-i.invariant.1

pub returns : goal.returns
returns c =
    let w : c.loop-i.i ≡ c.args.used = omega (arith, c.loop-i.invariant.0, c.loop-i-test.false) in
    rw w at c.loop-i.invariant.2

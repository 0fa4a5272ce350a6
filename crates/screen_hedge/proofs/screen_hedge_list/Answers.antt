use Rattle.screen_hedge.proofs.Promised.{promised}
use Rattle.screen_hedge.proofs.screen_hedge_list.Goals as goal

pub returns : goal.returns
returns c =
    promised c.args.text.now c.args.table.now c.args.records.now c.args.pool.now c.args.used c.args.root c.args.values.now
    c.args.nulls.now c.hedge_by_value-h.result c.args.list.now c.hedge_by_value-h.new.list c.args.tally.now c.add.new.t
    c.args.count.now c.hedge_by_value-h.new.count c.hedge_by_value-h.ensures c.add.ensures

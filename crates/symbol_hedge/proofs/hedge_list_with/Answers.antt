use mathlib.Core.Path.{◌∙◌}
use Rattle.symbol_hedge.proofs.SameHedge.{same-hedge, same-list}
use Rattle.symbol_hedge.proofs.hedge_list_with.Goals as goal

pub returns : goal.returns
returns c =
    let f = c.has_symbols.ensures c.if-has_symbols.false in
    record {
      value = c.hedge_list.ensures.value ∙ same-hedge c.args.text.now c.args.table.now c.args.records.now
          c.args.pool.now c.args.used c.args.root c.args.values.now c.args.nulls.now c.if-text-gt8192.false f _ _;
      list_after = c.hedge_list.ensures.list_after ∙ same-list c.args.text.now c.args.table.now c.args.records.now c.args.pool.now c.args.used c.args.root c.args.values.now c.args.nulls.now c.if-text-gt8192.false f _ _;
    }

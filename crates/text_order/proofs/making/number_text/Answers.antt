use borrow.Author.Rules.{rules}
use native.Mathlib.Omega.{arith}
use Rattle.text_order.proofs.Words.{starts-pooled}
use Rattle.text_order.proofs.Alike.{codes}
use Rattle.text_order.proofs.making.number_text.Goals as goal

pub symbol_ranks-requires : goal.symbol_ranks-requires
symbol_ranks-requires c = (
  starts-pooled _ _ c.requires.0 (let k = c.fill_starts.auto in omega (arith, k, c.requires.0)) c.fill_starts.ensures,
  search rules,
  search rules,
)

pub returns : goal.returns
returns c =
    λ e. codes c.args.text.now _ _ _ (λ q. omega (arith, c.type_inv.text q)) c.requires.0
    c.fill_starts.ensures c.symbol_ranks.ensures.ranked (c.all_right.ensures e)

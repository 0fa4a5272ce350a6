use native.Mathlib.Omega.{arith}
use Rattle.symbols.specs.Symbol.{symbol_key}
use Rattle.symbol_values.proofs.SymbolLists.{pooled-at, list-more, list-found, list_done, list-start}
use borrow.Author.Rules.{rules}
use Rattle.symbol_values.proofs.symbol_listed.Goals as goal

pub loop-i-init : goal.loop-i-init
loop-i-init c = (search rules, search rules, search rules, list-start c.args.text.now _ (symbol_key c.args.text.now c.args.v) _ _)

pub symbol_cmp-requires : goal.symbol_cmp-requires
symbol_cmp-requires c = (
  c.requires.v_value,
  rw c.value_in-w.ensures (pooled-at _ _ _ _ _ c.requires.pooled_from c.loop-i.invariant.1 (omega (
    arith,
    c.loop-i-test.true,
    c.loop-i.invariant.2,
  ))),
)

pub returns-then-is_eq : goal.returns-then-is_eq
returns-then-is_eq c =
    list-found _ _ _ _ _ _ c.loop-i.invariant.3 c.loop-i-test.true _ (λ q. omega (arith, c.type_inv.text q))
    c.requires.v_value (pooled-at _ _ _ _ _ c.requires.pooled_from c.loop-i.invariant.1 (omega (
      arith,
      c.loop-i-test.true,
      c.loop-i.invariant.2,
    ))) _ (rw c.value_in-w.ensures at c.symbol_cmp.ensures) _ c.is_eq.ensures c.if-is_eq.true

pub loop-i-preserved : goal.loop-i-preserved
loop-i-preserved c = (
  search rules,
  search rules,
  search rules,
  list-more _ _ _ _ _ _ c.loop-i.invariant.3 c.loop-i-test.true _ (λ q.
      omega (arith, c.type_inv.text q)) c.requires.v_value (pooled-at _ _ _ _ _ c.requires.pooled_from c.loop-i.invariant.1 (omega (arith, c.loop-i-test.true, c.loop-i.invariant.2))) _ (rw c.value_in-w.ensures at c.symbol_cmp.ensures) _
      c.is_eq.ensures c.if-is_eq.false,
)

pub returns : goal.returns
returns c = list_done c.args.text.now _ (symbol_key c.args.text.now c.args.v) _ _ _ c.loop-i.invariant.3 c.loop-i-test.false

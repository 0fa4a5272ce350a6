use mathlib.Core.Path.{◌≡◌, sym, ◌∙◌, ap}
use native.Mathlib.Omega.{arith}
use lib.ListN.{length}
use Rattle.text_order.specs.Codes.{code_of}
use Rattle.row_ranks.proofs.Numbering.{numbered-none, symbol-more, value-more}
use Rattle.row_ranks.proofs.row.row_ranks.Goals as goal
use Rattle.row_ranks.proofs.row.row_ranks.Goals.{then-holds_symbol, else-holds_symbol}

pub loop-c-init : goal.loop-c-init
loop-c-init c = numbered-none

pub loop-c-preserved : goal.loop-c-preserved
loop-c-preserved c =
    elim c.if-holds_symbol.branch [
      | then-holds_symbol w ↦ rw w.out-is (symbol-more _ (omega arith) (omega (arith, w.number.type_inv)) w.put_value.ensures c.loop-c.invariant
          (sym c.holds_symbol.ensures ∙ w.if-holds_symbol.true) (w.number.ensures ∙ ap (code_of c.args.codes.now) c.value_in-v.ensures))
      | else-holds_symbol w ↦ rw w.out-is (value-more _ (omega arith) (omega (arith, c.value_in-v.type_inv)) w.put_value-else-holds_symbol.ensures c.loop-c.invariant
          (sym c.holds_symbol.ensures ∙ w.if-holds_symbol.false) c.value_in-v.ensures)
    ]

pub returns : goal.returns
returns c =
    let w : c.loop-c.c ≡ length c.args.table.now = omega arith in
    rw w at c.loop-c.invariant

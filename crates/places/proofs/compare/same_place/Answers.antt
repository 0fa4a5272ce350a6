use mathlib.Core.Path.{◌∙◌}
use native.Mathlib.Omega.{arith}
use Rattle.places.specs.declared.place.Half.TheVariants.{Minus, Zero, Plus}
use Rattle.places.proofs.Parts.{parts_told}
use Rattle.places.proofs.compare.same_place.Goals as goal

pub returns-in-Minus-part : goal.returns-in-Minus-part
returns-in-Minus-part c =
    parts_told c.args.whole.0 c.args.half c.args.other.0 c.args.part Minus Minus
    c.in-Minus.is c.in-Minus-part.is (omega arith) (omega arith)

pub returns-in-Zero-part : goal.returns-in-Zero-part
returns-in-Zero-part c =
    parts_told c.args.whole.0 c.args.half c.args.other.0 c.args.part Minus Zero c.in-Minus.is c.in-Zero-part.is (omega arith) (omega arith)

pub returns-in-Plus-part : goal.returns-in-Plus-part
returns-in-Plus-part c =
    c.is_next.ensures ∙ parts_told c.args.whole.0 c.args.half c.args.other.0 c.args.part
    Minus Plus c.in-Minus.is c.in-Plus-part.is (omega arith) (omega arith)

pub returns-in-Minus-part-2 : goal.returns-in-Minus-part-2
returns-in-Minus-part-2 c =
    parts_told c.args.whole.0 c.args.half c.args.other.0 c.args.part Zero Minus
    c.in-Zero.is c.in-Minus-part-2.is (omega arith) (omega arith)

pub returns-in-Zero-part-2 : goal.returns-in-Zero-part-2
returns-in-Zero-part-2 c =
    parts_told c.args.whole.0 c.args.half c.args.other.0 c.args.part Zero Zero c.in-Zero.is c.in-Zero-part-2.is (omega arith) (omega arith)

pub returns-in-Plus-part-2 : goal.returns-in-Plus-part-2
returns-in-Plus-part-2 c =
    parts_told c.args.whole.0 c.args.half c.args.other.0 c.args.part Zero Plus c.in-Zero.is c.in-Plus-part-2.is (omega arith) (omega arith)

pub returns-in-Minus-part-3 : goal.returns-in-Minus-part-3
returns-in-Minus-part-3 c =
    c.is_next-in-Minus-part-3.ensures ∙ parts_told c.args.whole.0 c.args.half c.args.other.0 c.args.part
    Plus Minus c.in-Plus.is c.in-Minus-part-3.is (omega arith) (omega arith)

pub returns-in-Zero-part-3 : goal.returns-in-Zero-part-3
returns-in-Zero-part-3 c =
    parts_told c.args.whole.0 c.args.half c.args.other.0 c.args.part Plus Zero c.in-Plus.is c.in-Zero-part-3.is (omega arith) (omega arith)

pub returns-in-Plus-part-3 : goal.returns-in-Plus-part-3
returns-in-Plus-part-3 c =
    parts_told c.args.whole.0 c.args.half c.args.other.0 c.args.part Plus Plus c.in-Plus.is c.in-Plus-part-3.is (omega arith) (omega arith)

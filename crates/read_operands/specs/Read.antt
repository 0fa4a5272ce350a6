-- What the code reads of a conjunct, and what that stands for: `Conjunct` of the code is `Conjunct` of Classify, with
-- lists by their place in the pool p. n is the conjunct's node.
use Rattle.std.proofs.Math.Option.{Option, none, some}
use Rattle.std.specs.Prelude as code
use Rattle.std.specs.Prelude.{Bool, cond, List, [], ◌∷◌, ℕ}
use Rattle.records.specs.Operator.{is_left_out}
use Rattle.records.specs.declared.operator.Operator.{Operator}
use Rattle.truth.specs.Comparison as truth
use Rattle.truth.specs.FromBytes.{closes_low, closes_high, values_from}
use Rattle.constraints.specs.Column.{Constraint, Lower, Upper, Allow, Disallow, Require}
use Rattle.merge.specs.Classify as c
use Rattle.read_operands.specs.declared.operands.Comparison.{Comparison}
use Rattle.read_operands.specs.declared.operands.Comparison.TheVariants.{Eq, NotEq, Lt, LtEq, Gt, GtEq}
use Rattle.read_operands.specs.declared.operands.Operand.{Operand}
use Rattle.read_operands.specs.declared.operands.Operand.TheVariants as operand
use Rattle.read_operands.specs.declared.operands.Listing.{Listing}
use Rattle.read_operands.specs.declared.operands.Listing.TheVariants as listing
use Rattle.read_operands.specs.declared.operands.Says.{Says}
use Rattle.read_operands.specs.declared.operands.Says.TheVariants as says
use Rattle.read_operands.specs.declared.operands.Conjunct.{Conjunct}
use Rattle.read_operands.specs.declared.operands.Conjunct.TheVariants as conjunct

abbrev pub comparison_in : Comparison → truth.Comparison
comparison_in Eq = truth.Eq
comparison_in NotEq = truth.NotEq
comparison_in Lt = truth.Lt
comparison_in LtEq = truth.LtEq
comparison_in Gt = truth.Gt
comparison_in GtEq = truth.GtEq

abbrev pub ordinary_in : code.Option Comparison → Option truth.Comparison
ordinary_in code.None = none
ordinary_in (code.Some k) = some (comparison_in k)

abbrev pub operand_in : List ℕ → Operand → c.Operand ℕ
operand_in p (operand.Column a) = c.AColumn a.0
operand_in p (operand.Literal v) = c.ALiteral v.0
operand_in p (operand.List start count) = c.AList (values_from p start count)
operand_in p operand.Other = c.Other

abbrev pub listing_in : Listing → List ℕ → Constraint ℕ
listing_in listing.Allow l = Allow l
listing_in (listing.Disallow strict) l = Disallow strict l

abbrev pub says_in : List ℕ → Says → List (Constraint ℕ)
says_in p says.Nothing = []
says_in p (says.Compare k v) = c.comparison_constraints (comparison_in k) v.0
says_in p (says.Between ends v w) = Lower (closes_low ends) v.0 ∷ (Upper (closes_high ends) w.0 ∷ [])
says_in p (says.Allow start count) = Allow (values_from p start count) ∷ []
says_in p (says.Disallow strict start count) = Disallow strict (values_from p start count) ∷ []
says_in p (says.Require must) = Require must ∷ []

abbrev pub conjunct_in : List ℕ → ℕ → Conjunct → c.Conjunct ℕ
conjunct_in p n (conjunct.Bounds a l) = c.Bounds a.0 (says_in p l)
conjunct_in p n (conjunct.Normalized a l) = c.Normalized a.0 (says_in p l)
conjunct_in p n (conjunct.Equality a b) = c.Equality a.0 b.0 n
conjunct_in p n (conjunct.Recorded stops a l) = c.Recorded stops n a.0 (says_in p l)
conjunct_in p n (conjunct.NonNullPair a b) = c.NonNullPair n a.0 b.0
conjunct_in p n conjunct.Opaque = c.Opaque n

-- A binary record's conjunct. One whose operator checking refuses is read as missing, and so is opaque.
abbrev pub binary_conjunct : ℕ → Operator → c.Operand ℕ → c.Operand ℕ → c.Conjunct ℕ
binary_conjunct n o left right = cond (is_left_out o) (c.Opaque n) (c.classify_comparison n o left right)

use Rattle.std.proofs.Common.{◌≡◌, refl, sym, ap, ◌∙◌, rules, true}
use denote.Enum.Bare.{same_true, same_false}
use Rattle.records.specs.Operator.{code_of, operator_at, is_null_propagating_comparison}
use Rattle.records.specs.contracts.operator.Operator.{the_type}
use Rattle.records.specs.declared.operator.Operator.TheVariants.{Eq}
use Rattle.records.proofs.RoundTrips.{operator-back}
use Rattle.read_operands.proofs.Classifying.{columns-equal, columns-paired}
use Rattle.classify_operands.proofs.conjuncts.column_column.Goals as goal

pub returns-then-eq : goal.returns-then-eq
returns-then-eq c =
    let h : is_null_propagating_comparison c.args.o ≡ true = sym c.is_null_propagating_comparison.ensures
    ∙ c.if-not-is_null_propagating_comparison.false in
    let e : c.args.o ≡ Eq = same_true the_type (search rules) _ _ (sym c.eq.ensures ∙ c.if-eq.true) in
    λ p n. columns-equal n _ _ c.args.o (code_of c.args.o) h refl (ap code_of e)

pub returns : goal.returns
returns c =
    let h : is_null_propagating_comparison c.args.o ≡ true = sym c.is_null_propagating_comparison.ensures
    ∙ c.if-not-is_null_propagating_comparison.false in
    let e : c.args.o ≡ Eq → ⊥ = same_false the_type _ _ (sym c.eq.ensures ∙ c.if-eq.false) in
    λ p n. columns-paired n _ _ c.args.o (code_of c.args.o) h refl (λ z. e (sym (operator-back c.args.o) ∙ ap operator_at z ∙ operator-back Eq))

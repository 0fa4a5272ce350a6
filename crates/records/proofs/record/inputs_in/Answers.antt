use mathlib.Core.Logic.{inl, inr}
use native.Mathlib.Omega.{arith}
use Rattle.records.specs.Record.{fields_at, record_at}
use Rattle.records.proofs.Inputs.{names_one, names_two, names_three, names_none}
use Rattle.records.proofs.record.inputs_in.Goals as goal

pub returns-in-4 : goal.returns-in-4
unfolding record_at fields_at
returns-in-4 c = rw (c.word_in.ensures, c.word_in-in-4.ensures) (names_two _ c.in-4.is)

pub returns-in-8 : goal.returns-in-8
unfolding record_at fields_at
returns-in-8 c =
    rw (c.word_in-in-8.ensures, c.word_in-in-8-2.ensures, c.word_in-in-8-3.ensures)
    (names_three _ c.in-8.is)

pub returns-in-5 : goal.returns-in-5
unfolding record_at fields_at
returns-in-5 c =
    rw c.word_in-in-5.ensures
    (names_one _ (λ e. c.in-5.in_default-own.rest.0.1 (inl e)) c.in-5.if-kind-lt4-own.false c.in-5.if-kind-lt8-own.true)

pub returns-in_default : goal.returns-in_default
unfolding record_at fields_at
returns-in_default c =
    names_none _ (λ l h. absurd (omega (arith, l, c.in_default.if-kind-lt4-own.true))) (λ e. c.in_default.in_default-own.rest.0.1 (inr e))

pub returns-in_default-2 : goal.returns-in_default-2
unfolding record_at fields_at
returns-in_default-2 c =
    names_none _ (λ l h. c.in_default.in_default-own.rest.1 (omega (arith, h, c.in_default.if-kind-lt8-own.false)))
    (λ e. c.in_default.in_default-own.rest.0.1 (inr e))

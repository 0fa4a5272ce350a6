use mathlib.Core.Path.{sym}
use mathlib.Core.Bool.{true≢false}
use borrow.Author.Tests.{eqb-false, not-true}
use Rattle.rewrite.proofs.Telling.{quiet_told}
use Rattle.rewrite.proofs.literals.tells_nothing.Goals as goal

pub returns-then-rs-at-eq4 : goal.returns-then-rs-at-eq4
returns-then-rs-at-eq4 c =
    λ h t p j. quiet_told c.args.rs.now p c.args.n t j c.if-rs-at-eq4.true (eqb-false _ _ (not-true _ h))

pub returns-then-at-rs : goal.returns-then-at-rs
returns-then-at-rs c = λ h. absurd (true≢false (sym h))

pub returns : goal.returns
returns c = λ h. absurd (true≢false (sym h))

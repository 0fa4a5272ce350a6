use Rattle.constraints.specs.Payload.{payload}
use Rattle.constraints.specs.Lined.{lined}
use Rattle.resolve_deferred.proofs.resolve.fixed_disallowed.Goals as goal

pub returns-in-None : goal.returns-in-None
returns-in-None c = λ t e. rw (← c.fixed_value.ensures t c.args.marks.now, c.in-None.is)

pub returns-in-Some : goal.returns-in-Some
unfolding lined payload
returns-in-Some c =
    λ t e. rw (
      ← c.fixed_value.ensures t c.args.marks.now,
      c.in-Some.is,
      e.0,
      e.1,
      e.2,
      e.3,
    ) c.disallows.ensures

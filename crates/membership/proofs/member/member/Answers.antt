use Rattle.membership.proofs.Lists.{member-null, member-known}
use Rattle.truth.specs.Evaluate.{member_of}
use mathlib.Core.Path.{◌∙◌}
use Rattle.membership.proofs.member.member.Goals as goal

pub returns-in-None : goal.returns-in-None
unfolding member_of
returns-in-None c = c.null_in.ensures ∙ rw c.in-None.is (member-null _ _ _ _ _)

pub returns-in-Some : goal.returns-in-Some
unfolding member_of
returns-in-Some c =
    c.known_in.ensures ∙ rw (c.in-Some.is, c.listed.ensures)
    (member-known _ _ _ _ _ _)

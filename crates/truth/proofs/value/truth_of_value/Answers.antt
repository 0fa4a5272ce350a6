use Rattle.truth.proofs.value.truth_of_value.Goals as goal

pub returns-in-Some : goal.returns-in-Some
returns-in-Some c =
    rw (
      c.in-Some.is,
      c.from.ensures,
      c.is_eq.ensures,
      c.scalar_cmp.ensures,
    )

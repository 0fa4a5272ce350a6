use Rattle.rewrite.specs.Written.{write_compared}
use Rattle.rewrite.proofs.write.write_comparison.Goals as goal

pub returns : goal.returns
unfolding write_compared
returns c =
    rw (
      c.put_record-3.ensures,
      c.put_record-2.ensures,
      c.put_record.ensures,
      c.operator_of-o.ensures,
      c.byte-ty.ensures,
    )

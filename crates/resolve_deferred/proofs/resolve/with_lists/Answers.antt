use mathlib.Core.Path.{refl}
use Rattle.column_constraints.specs.Abstraction.{conjuncts, numbered, column_of}
use Rattle.resolve_deferred.proofs.Resolutions.{lists-law, lists-dead}
use Rattle.resolve_deferred.proofs.resolve.with_lists.Goals as goal

pub returns-then-c : goal.returns-then-c
returns-then-c c =
    record { result_value = lists-dead (column_of (conjuncts c.args.told.now c.args.pool.now) (numbered c.args.marks.now c.args.c)) c.if-c.true; len_value = refl }

pub any_allowed-a-requires : goal.any_allowed-a-requires
any_allowed-a-requires c = c.requires

pub returns : goal.returns
returns c =
    let tables = conjuncts c.args.told.now c.args.pool.now in
    record {
      result_value = lists-law (column_of tables (numbered c.args.marks.now c.args.c)) c.any_allowed-a.result
          c.fixed_disallowed-p.result c.if-c.false c.any_allowed-a.ensures (c.fixed_disallowed-p.ensures tables (
            refl,
            refl,
            refl,
            refl,
          ));
      len_value = refl;
    }

use mathlib.Core.Path.{◌≡◌}
use mathlib.Core.Bool.{false}
use Prim.Native.Nat.{◌<◌}
use lib.ListN.{length}
use Rattle.column_constraints.specs.Abstraction.{marked, numbered}
use Rattle.column_constraints.proofs.Pigeon.{room}
use Rattle.column_sets.proofs.Numbers.{fine-push}
use Rattle.column_sets.proofs.Insertions.{exc_old, exc_new, not-marked}
use Rattle.column_constraints.specs.Abstraction.{kinds_in, values_in}
use Rattle.column_sets.proofs.marks.insert_excluded.Goals as goal

-- the clauses by their names
named : {A0 A1 : Type 0} → A0 × A1 → record { result_after : A0; fine : A1 }
named p = record { result_after = p.0; fine = p.1 }

pub returns-then-excludes : goal.returns-then-excludes
returns-then-excludes c =
    record {
      result_after = (λ t e f. exc_old t (numbered c.args.marks.now c.args.c) c.args.j _ (rw (
        e,
        f,
        ← c.literal_at-v.ensures,
        ←
            c.excludes.ensures,
      ) c.if-excludes.true));
      fine = c.requires.0;
    }

pub push-requires : goal.push-requires
push-requires c =
    room _ _ _ _ c.requires.0 c.requires.1 (not-marked (kinds_in c.args.told.now) (values_in c.args.told.now) c.args.marks.now c.args.c.len c.args.j c.requires.2 (rw (← c.literal_at-v.ensures, ← c.excludes.ensures)
    c.if-excludes.false))

pub returns : goal.returns
returns c =
    let m : marked c.args.marks.now c.args.c.len c.args.j ≡ false = not-marked (kinds_in c.args.told.now) (values_in c.args.told.now) c.args.marks.now c.args.c.len c.args.j c.requires.2 (rw
    (← c.literal_at-v.ensures, ← c.excludes.ensures) c.if-excludes.false) in
    let l : c.args.c.len < length c.args.marks.now = room _ _ _ _ c.requires.0 c.requires.1 m in
    named (rw
    (c.push.ensures.marks_after, c.push.ensures.value) (
      (λ t e f. rw (← f) (exc_new t (numbered c.args.marks.now c.args.c) c.args.j (rw e c.requires.2) l (rw (e, f, ← c.literal_at-v.ensures, ← c.excludes.ensures) c.if-excludes.false))),
      fine-push _ _ _ _ l c.requires.0 c.requires.1 m,
    ))

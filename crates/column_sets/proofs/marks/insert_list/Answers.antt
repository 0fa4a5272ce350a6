use mathlib.Core.Path.{◌≡◌, sym, ◌∙◌}
use mathlib.Core.Bool.{true, false}
use Prim.Native.Nat.{◌<◌}
use lib.ListN.{length}
use Rattle.column_constraints.specs.Abstraction.{marked, numbered}
use Rattle.column_constraints.proofs.Pigeon.{room}
use Rattle.column_sets.proofs.Numbers.{fine-push}
use Rattle.column_sets.proofs.Insertions.{allow_old, allow_new, dis_old, dis_new}
use Rattle.column_sets.proofs.marks.insert_list.Goals as goal

-- the clauses by their names
named : {A0 A1 A2 : Type 0} → A0 × (A1 × A2) → record { result_after : A0; result_after_2 : A1; fine : A2 }
named p = record { result_after = p.0; result_after_2 = p.1.0; fine = p.1.1 }

pub returns-then-has_mark : goal.returns-then-has_mark
returns-then-has_mark c =
    let m : marked c.args.marks.now c.args.c.len c.args.j ≡ true = sym c.has_mark.ensures ∙
    c.if-has_mark.true in
    record {
      result_after = (λ t k. allow_old t (numbered c.args.marks.now c.args.c) c.args.j m k);
      result_after_2 = (λ t
          k. dis_old t (numbered c.args.marks.now c.args.c) c.args.j m k);
      fine = c.requires.0;
    }

pub push-requires : goal.push-requires
push-requires c = room _ _ _ _ c.requires.0 c.requires.1 (sym c.has_mark.ensures ∙ c.if-has_mark.false)

pub returns : goal.returns
returns c =
    let m : marked c.args.marks.now c.args.c.len c.args.j ≡ false = sym c.has_mark.ensures ∙
    c.if-has_mark.false in
    let l : c.args.c.len < length c.args.marks.now = room _ _ _ _ c.requires.0 c.requires.1 m in
    named (rw
    (c.push.ensures.marks_after, c.push.ensures.value) (
      (λ t k. allow_new t (numbered c.args.marks.now c.args.c)
          c.args.j l k),
      (
        (λ t k. dis_new t (numbered c.args.marks.now c.args.c) c.args.j l k),
        fine-push _ _ _ _ l c.requires.0 c.requires.1 m,
      ),
    ))

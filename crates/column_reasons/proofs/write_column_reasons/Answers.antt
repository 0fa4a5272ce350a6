use mathlib.Core.Path.{◌≡◌, refl, ◌∙◌, ap}
use native.Mathlib.Omega.{arith}
use lib.ListN.{length}
use Prim.Native.Nat.{◌+◌, ◌≤◌}
use Rattle.column_constraints.proofs.Pigeon.{few}
use Rattle.column_constraints.specs.Abstraction.{numbered, compared_of}
use Rattle.merge.specs.Reasons.{shown_in}
use Rattle.column_reasons.specs.ColumnText.{column_text}
use mathlib.Core.List.{[]}
use Rattle.merge.specs.Write.{splice}
use Rattle.column_reasons.proofs.Places.{begin-length, begin-text, place-more, text-more, place-room, text-all}
use borrow.Author.Rules.{rules}
use Rattle.column_constraints.specs.Abstraction.{kinds_in, values_in, conjuncts_of}
use Rattle.column_reasons.proofs.write_column_reasons.Goals as goal

pub overflow_add-places : goal.overflow_add-places
overflow_add-places c =
    let g : c.args.c.len ≤ 128 = few _ _ _ c.requires.0 in
    omega (arith, g)

pub loop-p-init : goal.loop-p-init
loop-p-init c = (
  search rules,
  refl,
  (λ s e f. begin-length (shown_in c.args.t.now c.args.text.now) c.args.a.0 s (numbered c.args.marks.now c.args.c) _),
  (λ s e f. begin-text (shown_in c.args.t.now
      c.args.text.now) c.args.a.0 s (numbered c.args.marks.now c.args.c) _ _),
)

pub write_place-next-requires : goal.write_place-next-requires
write_place-next-requires c =
    let sj = conjuncts_of (kinds_in c.args.told.now) (values_in c.args.told.now) [] [] [] in
    let r : c.loop-p.next + length (column_text (shown_in c.args.t.now c.args.text.now) c.args.a.0
    (compared_of c.comparison_at-k.result)) ≤ length c.args.out.now = place-room (shown_in c.args.t.now c.args.text.now) c.args.a.0 sj (numbered c.args.marks.now c.args.c) _ _ _ _
    c.comparison_at-k.result (c.comparison_at-k.ensures sj refl refl) (c.loop-p.invariant.2 sj refl refl) c.loop-p-test.true (c.requires.1 sj refl refl) in
    omega (arith, r, c.loop-p.invariant.1)

pub loop-p-preserved : goal.loop-p-preserved
loop-p-preserved c = (
  search rules,
  search rules,
  (λ s e f. place-more (shown_in c.args.t.now c.args.text.now) c.args.a.0 s (numbered c.args.marks.now c.args.c) _ _ _ _ c.comparison_at-k.result
      (c.comparison_at-k.ensures s e f) (c.loop-p.invariant.2 s e f) c.write_place-next.ensures.value),
  (λ s e f. text-more (shown_in
      c.args.t.now c.args.text.now) c.args.a.0 s (numbered c.args.marks.now c.args.c)
      _ _ _ c.comparison_at-k.result _ _ _ (c.comparison_at-k.ensures s e f) (c.loop-p.invariant.2 s e f) (c.loop-p.invariant.3 s e f)
      (place-room (shown_in c.args.t.now c.args.text.now) c.args.a.0 s (numbered c.args.marks.now c.args.c) _ _ _ _ c.comparison_at-k.result (c.comparison_at-k.ensures s e f) (c.loop-p.invariant.2 s e f)
      c.loop-p-test.true (c.requires.1 s e f)) c.write_place-next.ensures.s_after),
)

pub returns : goal.returns
returns c =
    let h : c.loop-p.p ≡ c.args.c.len + 2 = omega (arith, c.loop-p.invariant.0, c.loop-p-test.false) in
    record { value = (λ s e f. c.loop-p.invariant.2 s e f ∙ ap (λ l. c.args.at + length l) (text-all (shown_in c.args.t.now c.args.text.now) c.args.a.0 s (numbered c.args.marks.now c.args.c) _ h)); out_after = (λ s e f. c.loop-p.invariant.3 s e f ∙ ap (splice c.args.out.now c.args.at) (text-all (shown_in c.args.t.now c.args.text.now) c.args.a.0 s (numbered c.args.marks.now c.args.c) _ h)) }

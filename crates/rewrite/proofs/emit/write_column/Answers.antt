use Rattle.rewrite.proofs.Emitting.{place-few, begin-at, begin-written, at_more, written-more}
use Rattle.rewrite.proofs.Emitting.{bits_in, place-room, placed-all}
use Rattle.merge.specs.Write.{write_comparisons}
use Rattle.column_constraints.proofs.Pigeon.{few}
use Rattle.column_constraints.specs.Abstraction.{numbered, compared_of}
use lib.ListN.{length}
use Prim.Native.Nat.{◌≤◌, ◌+◌, ◌*◌}
use mathlib.Core.List.{[]}
use native.Mathlib.Omega.{arith}
use mathlib.Core.Path.{◌≡◌, refl, ◌∙◌, ap}
use borrow.Author.Rules.{rules}
use Rattle.column_constraints.specs.Abstraction.{kinds_in, values_in, conjuncts_of}
use Rattle.rewrite.proofs.emit.write_column.Goals as goal

pub overflow_add-places : goal.overflow_add-places
overflow_add-places c = let g : c.args.c.len ≤ 128 = few _ _ _ c.requires.0 in omega (arith, g)

pub loop-p-init : goal.loop-p-init
loop-p-init c = (
  search rules,
  search rules,
  refl,
  (λ s e f. begin-at s (numbered c.args.marks.now c.args.c) _),
  (λ s e f. begin-written _ s (numbered c.args.marks.now c.args.c) _ _ _),
)

pub write_place-at-requires : goal.write_place-at-requires
write_place-at-requires c =
    let g : c.args.c.len ≤ 128 = few _ _ _ c.requires.0 in
    let sj = conjuncts_of (kinds_in c.args.told.now) (values_in c.args.told.now) [] [] [] in
    let r : 16 * (c.loop-p.at + 3 * length (compared_of c.comparison_at-k.result)) ≤ length c.args.rs.now =
    place-room sj (numbered c.args.marks.now c.args.c) _ _ _ _ c.comparison_at-k.result (c.comparison_at-k.ensures sj refl refl) (c.loop-p.invariant.3 sj refl refl) c.loop-p-test.true (c.requires.2 sj refl refl) in (
      omega
          (arith, g, c.loop-p.invariant.1, c.requires.1, c.loop-p-test.true),
      omega (arith, r, c.loop-p.invariant.2),
    )

pub loop-p-preserved : goal.loop-p-preserved
loop-p-preserved c = (
  search rules,
  omega (arith, place-few c.comparison_at-k.result, c.write_place-at.ensures.value, c.loop-p.invariant.1),
  search rules,
  (λ s e f. at_more s (numbered c.args.marks.now c.args.c) _ _ _ _ c.comparison_at-k.result (c.comparison_at-k.ensures s e f) (c.loop-p.invariant.3 s e f) c.write_place-at.ensures.value),
  (λ s e f.
      written-more _ s (numbered c.args.marks.now c.args.c) _ _ _ _ c.comparison_at-k.result _ _ _
      (c.comparison_at-k.ensures s e f) (c.loop-p.invariant.3 s e f) (c.loop-p.invariant.4 s e f) c.write_place-at.ensures.rs_after),
)

pub returns : goal.returns
returns c =
    let h : c.loop-p.p ≡ c.args.c.len + 2 = omega (arith, c.loop-p.invariant.0, c.loop-p-test.false) in
    record {
      value = (λ s e f. c.loop-p.invariant.3 s e f ∙ ap (λ l. c.args.u + 3 * length l) (placed-all s (numbered c.args.marks.now c.args.c) _ h));
      rs_after = (λ s e f. c.loop-p.invariant.4 s e f ∙ ap (λ l. write_comparisons c.args.t.now c.args.u
          (bits_in c.args.a.0 l) c.args.rs.now) (placed-all s (numbered c.args.marks.now c.args.c) _ h));
    }

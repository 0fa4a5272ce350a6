use Rattle.std.proofs.Common.{◌&&◌, sym, refl, ap, ◌∙◌}
use Rattle.records.proofs.Laws.{and_left, and_right}
use Rattle.masks.specs.Block.{is_kept}
use Rattle.row_blocks.proofs.Turns.{between-a, between-b, between-c, between-kind}
use Rattle.row_blocks.proofs.Worths.{record_there, between-kept}
use Rattle.row_blocks.proofs.record.between_record.Goals as goal

pub fields_in-requires : goal.fields_in-requires
fields_in-requires c =
    record_there _ _ _ _ _ _ _ _ _ (between-a _ _ _ _ _ _ _ _ _ _ _ c.requires.turn c.requires.kind_value).ready refl

pub fields_in-requires-2 : goal.fields_in-requires-2
fields_in-requires-2 c =
    record_there _ _ _ _ _ _ _ _ _ (between-b _ _ _ _ _ _ _ _ _ _ _ c.requires.turn c.requires.kind_value).ready refl

pub fields_in-requires-3 : goal.fields_in-requires-3
fields_in-requires-3 c =
    record_there _ _ _ _ _ _ _ _ _ (between-c _ _ _ _ _ _ _ _ _ _ _ c.requires.turn c.requires.kind_value).ready refl

pub kept_masks-requires : goal.kept_masks-requires
kept_masks-requires c =
    record {
      n_in_bounds = (between-a _ _ _ _ _ _ _ _ _ _ _ c.requires.turn c.requires.kind_value).truths-room;
      n_in_bounds_2 = (between-a _ _ _ _ _ _ _ _ _ _
          _ c.requires.turn c.requires.kind_value).unknowns_room;
    }

pub kept_masks-requires-then-a-b : goal.kept_masks-requires-then-a-b
kept_masks-requires-then-a-b c =
    record {
      n_in_bounds = (between-b _ _ _ _ _ _ _ _ _ _ _ c.requires.turn c.requires.kind_value).truths-room;
      n_in_bounds_2 = (between-b _ _ _ _ _ _ _ _ _ _
          _ c.requires.turn c.requires.kind_value).unknowns_room;
    }

pub kept_masks-requires-then-a-b-2 : goal.kept_masks-requires-then-a-b-2
kept_masks-requires-then-a-b-2 c =
    record {
      n_in_bounds = (between-c _ _ _ _ _ _ _ _ _ _ _ c.requires.turn c.requires.kind_value).truths-room;
      n_in_bounds_2 = (between-c _ _ _ _ _ _ _ _ _ _
          _ c.requires.turn c.requires.kind_value).unknowns_room;
    }

pub returns-then-a-b : goal.returns-then-a-b
returns-then-a-b c =
    let ab = and_left (c.is_kept-a.result && c.is_kept-b.result) c.is_kept-c.result c.if-a-b.true in
    between-kind _ _ _ _ _ _ _ _ _ _ _ c.requires.turn c.requires.kind_value _ (between-kept _ _ _ _ _ _ _ _ _ c.args.f.a c.args.f.b c.args.f.c _ _ _ _ _ (
      (between-a _ _ _ _ _ _ _ _ _ _ _ c.requires.turn c.requires.kind_value),
      ap is_kept (sym c.fields_in.ensures) ∙ sym c.is_kept-a.ensures ∙ and_left c.is_kept-a.result
          c.is_kept-b.result ab,
    ) (
      (between-b _ _ _ _ _ _ _ _ _ _ _ c.requires.turn c.requires.kind_value),
      ap is_kept (sym
          c.fields_in-2.ensures) ∙ sym c.is_kept-b.ensures ∙ and_right c.is_kept-a.result c.is_kept-b.result ab,
    ) (
      (between-c _ _ _ _ _ _ _ _ _ _ _ c.requires.turn c.requires.kind_value),
      ap is_kept (sym c.fields_in-3.ensures) ∙ sym
          c.is_kept-c.ensures ∙ and_right (c.is_kept-a.result && c.is_kept-b.result) c.is_kept-c.result c.if-a-b.true,
    )
    c.kept_masks.ensures c.kept_masks-then-a-b.ensures c.kept_masks-then-a-b-2.ensures (λ f g h. c.between_truths.ensures _ f g
    h))

use mathlib.Core.Path.{◌∙◌}
use Prim.Native.Nat.{ℕ}
use native.Mathlib.Omega.{arith}
use lib.ListN.{length-replicate}
use Rattle.truth.specs.FromBytes.{aexpr_of}
use Rattle.column_table.proofs.Encoding.{columns-empty}
use Rattle.contradiction.proofs.Ends.{ends_stopped, ends_resolved, each-once}
use Rattle.contradiction.proofs.contradict.Goals as goal

pub tell_lines-stopped-requires : goal.tell_lines-stopped-requires
tell_lines-stopped-requires c =
    let L = c.label_lines.ensures.by_index c.args.p.now c.requires.by_index_2 in
    record {
      n_bound = (
        c.requires.n_bound.0,
        c.requires.n_bound.1,
        c.requires.n_bound.2,
        length-replicate {A = ℕ} 448 0,
        columns-empty,
        L.size,
        L.low,
      );
      by_index = c.requires.by_index;
      by_index_2 = c.requires.by_index_2;
    }

pub returns-then-stopped : goal.returns-then-stopped
returns-then-stopped c =
    let L = c.label_lines.ensures.by_index c.args.p.now c.requires.by_index_2 in
    ends_stopped (aexpr_of c.args.rs.now c.args.p.now) c.args.nodes.now c.args.n c.requires.by_index_2 _ L _ c.if-stopped.true c.tell_lines-stopped.ensures.told_lines.stopped

pub resolve_all-r-requires : goal.resolve_all-r-requires
resolve_all-r-requires c =
    let z = length-replicate {A = ℕ} 64 0 in
    record {
      fits = (
        record {
          size = c.tell_lines-stopped.ensures.cells_len_unchanged ∙ length-replicate {A = ℕ} 448 0;
          narrow = omega (
            arith,
            c.tell_lines-stopped.ensures.marks_len_unchanged,
            c.requires.n_bound.1,
          );
          fine = c.tell_lines-stopped.ensures.told_lines.fine;
        },
        omega (
          arith,
          c.number_columns-2.ensures.labels_len_unchanged,
          z,
        ),
        omega arith,
        c.requires.n_bound.3,
      );
      by_index = each-once _ c.number_columns-2.ensures.by_index;
    }

pub returns : goal.returns
returns c =
    let L = c.label_lines.ensures.by_index c.args.p.now c.requires.by_index_2 in
    ends_resolved (aexpr_of c.args.rs.now c.args.p.now) c.args.nodes.now c.args.n c.requires.by_index_2 _ L _ c.number_columns-2.ensures.by_index _ (c.resolve_all-r.ensures.resolved _ (c.tell_lines-stopped.ensures.told_lines.shows c.if-stopped.false)).stops

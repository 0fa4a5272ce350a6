use mathlib.Core.Path.{refl, sym, ◌∙◌, ap}
use native.Mathlib.Omega.{arith}
use Rattle.records.proofs.Laws.{flags}
use Rattle.slowest.specs.Answers.{known_count, has_room, slowest_answer, table_written, records_written}
use Rattle.slowest.proofs.Writing.{count-known, room-known}
use borrow.Author.Tests.{not-false}
use mathlib.Core.Bool.{not}
use Rattle.slowest.proofs.build.build_slowest.Goals as goal

pub returns-then-not-known_count : goal.returns-then-not-known_count
unfolding slowest_answer table_written records_written
returns-then-not-known_count c = record { answer = search (flags, ← c.known_count.ensures); table = refl; records = refl }

pub returns-then-not-has_room : goal.returns-then-not-has_room
unfolding slowest_answer table_written records_written
returns-then-not-has_room c =
    record { answer = search (flags, ← c.has_room.ensures, ← c.known_count.ensures); table = refl; records = refl }

pub write_table-requires : goal.write_table-requires
write_table-requires c =
    (room-known _ _ _ (sym c.has_room.ensures ∙ not-false c.has_room.result (ap not c.if-not-has_room.false))).0

pub overflow_cast-columns : goal.overflow_cast-columns
overflow_cast-columns c =
    omega (
      arith,
      (count-known c.args.columns (sym c.known_count.ensures ∙ not-false c.known_count.result
          (ap not c.if-not-known_count.false))).1,
    )

pub write_records-requires : goal.write_records-requires
write_records-requires c =
    let k = count-known c.args.columns (sym c.known_count.ensures ∙ not-false c.known_count.result (ap not c.if-not-known_count.false)) in
    let r = room-known _ _ _ (sym c.has_room.ensures ∙ not-false c.has_room.result (ap not c.if-not-has_room.false)) in
    (k.1, r.1)

pub overflow_mul-result : goal.overflow_mul-result
overflow_mul-result c =
    omega (
      arith,
      (count-known c.args.columns (sym c.known_count.ensures ∙ not-false c.known_count.result
          (ap not c.if-not-known_count.false))).1,
    )

pub overflow_sub-result : goal.overflow_sub-result
overflow_sub-result c =
    omega (
      arith,
      (count-known c.args.columns (sym c.known_count.ensures ∙ not-false c.known_count.result
          (ap not c.if-not-known_count.false))).0,
    )

pub overflow_mul-result-2 : goal.overflow_mul-result-2
overflow_mul-result-2 c =
    omega (
      arith,
      (count-known c.args.columns (sym c.known_count.ensures ∙ not-false c.known_count.result
          (ap not c.if-not-known_count.false))).1,
    )

pub returns : goal.returns
unfolding slowest_answer table_written records_written
returns c =
    record { answer = search (flags, ← c.has_room.ensures, ← c.known_count.ensures); table = c.write_table.ensures; records = c.write_records.ensures }

use Rattle.std.proofs.lemmas.Result.{err_from_is_err_and}
use mathlib.Core.Path.{refl, sym, ◌∙◌}
use native.Mathlib.Omega.{arith}
use Rattle.records.proofs.Loops.{flag_no, flag_yes}
use Rattle.file_structure.specs.Read.{root_of}
use Rattle.files.proofs.Loading.{ok_blocks, ok_length, room-told, room-table, room-records, room-pool, room-text}
use Rattle.files.proofs.Loading.{refused-structure, refused-room, refused-check, loaded_all}
use mathlib.Core.Path.{ap}
use mathlib.Core.Bool.{not}
use Rattle.files.proofs.load.load_screen.Goals as goal

pub returns-then-not-structure_ok : goal.returns-then-not-structure_ok
returns-then-not-structure_ok c =
    record { answer = refused-structure _ _ _ _ _ (flag_no c.structure_ok.ensures (ap not c.if-not-structure_ok.true)); table = refl; records = refl; pool = refl; text = refl }

pub total_of-columns-requires : goal.total_of-columns-requires
total_of-columns-requires c = ok_blocks _ (flag_yes c.structure_ok.ensures (ap not c.if-not-structure_ok.false))

pub total_of-used-requires : goal.total_of-used-requires
total_of-used-requires c = ok_blocks _ (flag_yes c.structure_ok.ensures (ap not c.if-not-structure_ok.false))

pub total_of-values-requires : goal.total_of-values-requires
total_of-values-requires c = ok_blocks _ (flag_yes c.structure_ok.ensures (ap not c.if-not-structure_ok.false))

pub total_of-text-requires : goal.total_of-text-requires
total_of-text-requires c = ok_blocks _ (flag_yes c.structure_ok.ensures (ap not c.if-not-structure_ok.false))

pub returns-then-not-room_ok : goal.returns-then-not-room_ok
returns-then-not-room_ok c =
    let r = room-told _ _ _ _ _ _ _ _ _ _ c.total_of-columns.ensures c.total_of-used.ensures c.total_of-values.ensures
    c.total_of-text.ensures c.room_ok.ensures in
    record { answer = refused-room _ _ _ _ _ (flag_yes c.structure_ok.ensures (ap not c.if-not-structure_ok.false)) (flag_no r (ap not c.if-not-room_ok.true)); table = refl; records = refl; pool = refl; text = refl }

pub end_word-root-requires : goal.end_word-root-requires
end_word-root-requires c =
    record { in_bounds = ok_length _ (flag_yes c.structure_ok.ensures (ap not c.if-not-structure_ok.false)); at_bound = omega arith }

pub check_held-requires : goal.check_held-requires
unfolding root_of
check_held-requires c =
    record { f_value = flag_yes c.structure_ok.ensures (ap not c.if-not-structure_ok.false); columns_value = c.total_of-columns.ensures; used_value = c.total_of-used.ensures; values_value = c.total_of-values.ensures; text_value = c.total_of-text.ensures; root_value = c.end_word-root.ensures }

pub returns-in_err-check_held : goal.returns-in_err-check_held
returns-in_err-check_held c =
    let r = room-told _ _ _ _ _ _ _ _ _ _ c.total_of-columns.ensures c.total_of-used.ensures c.total_of-values.ensures
    c.total_of-text.ensures c.room_ok.ensures in
    let q = err_from_is_err_and c.from_residual.result c.from_residual.ensures.1 in
    rw (q.1, q.2) record {
      answer = refused-check _ _ _ _ _ _ (flag_yes c.structure_ok.ensures (ap not c.if-not-structure_ok.false)) (flag_yes r (ap not c.if-not-room_ok.false)) (sym
          c.in_err-check_held.ensures);
      table = refl;
      records = refl;
      pool = refl;
      text = refl;
    }

pub gather-requires : goal.gather-requires
gather-requires c =
    let s = flag_yes c.structure_ok.ensures (ap not c.if-not-structure_ok.false) in
    let r = room-told _ _ _ _ _ _ _ _ _ _ c.total_of-columns.ensures c.total_of-used.ensures c.total_of-values.ensures
    c.total_of-text.ensures c.room_ok.ensures in
    record { f_value = ok_blocks _ s; f_in_bounds = room-table _ _ _ _ _ s (flag_yes r (ap not c.if-not-room_ok.false)) }

pub gather-requires-2 : goal.gather-requires-2
gather-requires-2 c =
    let s = flag_yes c.structure_ok.ensures (ap not c.if-not-structure_ok.false) in
    let r = room-told _ _ _ _ _ _ _ _ _ _ c.total_of-columns.ensures c.total_of-used.ensures c.total_of-values.ensures
    c.total_of-text.ensures c.room_ok.ensures in
    record { f_value = ok_blocks _ s; f_in_bounds = room-records _ _ _ _ _ s (flag_yes r (ap not c.if-not-room_ok.false)) }

pub gather-requires-3 : goal.gather-requires-3
gather-requires-3 c =
    let s = flag_yes c.structure_ok.ensures (ap not c.if-not-structure_ok.false) in
    let r = room-told _ _ _ _ _ _ _ _ _ _ c.total_of-columns.ensures c.total_of-used.ensures c.total_of-values.ensures
    c.total_of-text.ensures c.room_ok.ensures in
    record { f_value = ok_blocks _ s; f_in_bounds = room-pool _ _ _ _ _ s (flag_yes r (ap not c.if-not-room_ok.false)) }

pub gather-requires-4 : goal.gather-requires-4
gather-requires-4 c =
    let s = flag_yes c.structure_ok.ensures (ap not c.if-not-structure_ok.false) in
    let r = room-told _ _ _ _ _ _ _ _ _ _ c.total_of-columns.ensures c.total_of-used.ensures c.total_of-values.ensures
    c.total_of-text.ensures c.room_ok.ensures in
    record { f_value = ok_blocks _ s; f_in_bounds = room-text _ _ _ _ _ s (flag_yes r (ap not c.if-not-room_ok.false)) }

pub returns : goal.returns
unfolding root_of
returns c =
    let s = flag_yes c.structure_ok.ensures (ap not c.if-not-structure_ok.false) in
    let r = room-told _ _ _ _ _ _ _ _ _ _ c.total_of-columns.ensures c.total_of-used.ensures c.total_of-values.ensures
    c.total_of-text.ensures c.room_ok.ensures in
    record {
      answer = loaded_all _ _ _ _ _ _ _ _ _ _ s (flag_yes r (ap not c.if-not-room_ok.false)) (sym c.in_ok-check_held.ensures)
          c.end_word-root.ensures c.total_of-columns.ensures c.total_of-used.ensures c.total_of-values.ensures c.total_of-text.ensures;
      table = c.gather.ensures;
      records = c.gather-2.ensures;
      pool = c.gather-3.ensures;
      text = c.gather-4.ensures;
    }

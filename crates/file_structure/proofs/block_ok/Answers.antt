use Rattle.records.proofs.Laws.{flags}
use Rattle.records.proofs.Loops.{flag_yes}
use Rattle.file_structure.specs.Read.{block_ok}
use Rattle.file_structure.proofs.Sizes.{content_fits}
use mathlib.Core.Path.{ap}
use mathlib.Core.Bool.{not}
use Rattle.file_structure.proofs.block_ok.Goals as goal

pub returns-then-not-checksum_ok : goal.returns-then-not-checksum_ok
unfolding block_ok
returns-then-not-checksum_ok c = search (flags, ← c.checksum_ok.ensures)

pub returns-then-not-number_ok : goal.returns-then-not-number_ok
unfolding block_ok
returns-then-not-number_ok c = search (flags, ← c.checksum_ok.ensures, ← c.number_ok.ensures)

pub returns-then-not-kind_ok : goal.returns-then-not-kind_ok
unfolding block_ok
returns-then-not-kind_ok c = search (flags, ← c.checksum_ok.ensures, ← c.number_ok.ensures, ← c.kind_ok.ensures)

pub returns-then-not-count_ok : goal.returns-then-not-count_ok
unfolding block_ok
returns-then-not-count_ok c =
    search (flags, ← c.checksum_ok.ensures, ← c.number_ok.ensures, ← c.kind_ok.ensures, ← c.count_ok.ensures)

pub unused_ok-requires : goal.unused_ok-requires
unused_ok-requires c =
    record { b_len = c.requires; b_bound = content_fits _ (flag_yes c.kind_ok.ensures (ap not c.if-not-kind_ok.false)) (flag_yes c.count_ok.ensures (ap not c.if-not-count_ok.false)) }

pub returns : goal.returns
unfolding block_ok
returns c =
    search (
      flags,
      ← c.checksum_ok.ensures,
      ← c.number_ok.ensures,
      ← c.kind_ok.ensures,
      ← c.count_ok.ensures,
      ←
          c.unused_ok.ensures,
    )

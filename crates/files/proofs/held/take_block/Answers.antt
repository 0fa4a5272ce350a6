use mathlib.Core.Path.{sym}
use native.Mathlib.Omega.{arith}
use Rattle.file_structure.specs.Read.{kind_of}
use Rattle.file_blocks.proofs.Lists.{overwrite-none}
use Rattle.files.proofs.Contents.{taken_none, taken-some, length-content, content_part}
use Rattle.files.proofs.held.take_block.Goals as goal

pub returns-then-b-kind : goal.returns-then-b-kind
unfolding kind_of
returns-then-b-kind c =
    let t = taken_none c.args.kind c.args.b.now c.if-b-kind.true in
    record { value = rw t (omega arith); dst_after = rw t (sym (overwrite-none _ _)) }

pub put-requires : goal.put-requires
unfolding kind_of
put-requires c =
    let t = taken-some c.args.kind c.args.b.now c.if-b-kind.false in
    rw (c.content_size-size.ensures, content_part, ← t) c.requires.b_in_bounds

pub returns : goal.returns
unfolding kind_of
returns c =
    let t = taken-some c.args.kind c.args.b.now c.if-b-kind.false in
    let n = length-content c.args.b.now c.requires.b_len c.requires.b_bound in
    record { value = rw (t, n, c.content_size-size.ensures); dst_after = rw (t, c.put.ensures, c.content_size-size.ensures, content_part) }

use native.Mathlib.Omega.{arith}
use Prim.Native.Nat.{◌+◌, ◌≤◌}
use lib.ListN.{length}
use Rattle.merge.proofs.Splices.{splice-then}
use Rattle.rewrite.proofs.write.put_fields.Goals as goal

pub returns : goal.returns
returns c =
    let h : c.args.at + 16 ≤ length c.args.s.now = c.requires in
    splice-then _ _ _ _ _ (splice-then _ _ _ _ _ (splice-then _ _ _ _ _
    c.put_bytes.ensures c.put_word.ensures (omega arith) (omega arith))
    c.put_word-2.ensures (omega arith) (omega arith))
    c.put_word-3.ensures (omega arith) (omega arith)

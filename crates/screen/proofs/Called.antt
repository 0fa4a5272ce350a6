-- What the call of rewriting ensures, from what the layer below says of its answer, the records and the text.
use mathlib.Core.Path.{◌≡◌, refl}
use mathlib.Core.Bool.{true}
use mathlib.Core.List.{List}
use Prim.Native.Nat.{ℕ}
use lib.ListN.{length}
use Rattle.merge.specs.declared.answer.Rewriting.{Rewriting}
use Rattle.merge.specs.Demand.{AreBytes}
use Rattle.reasons.specs.Explained.{text_if}
use Rattle.rewrite_number.specs.Answers.{rewrite_number, new_root_out, new_used_out, passes_out, reasons_used_out}
use Rattle.symbol_screens.specs.Rewriting.{rewrite_passes_with}
use Rattle.symbol_reasons.specs.Explained.{explained_answer_with, explained_bytes_with, explained_text_with}
use Rattle.symbol_merge.specs.Explains.{Explains}
use Rattle.rewrite_promise.specs.Listed.{rewrite_listed}
use Rattle.rewrite_promise.specs.Promises.{returned, BytesKept, RewritePromiseWith}
use Rattle.rewrite_promise.proofs.Promised.{call_ensures_with}

module _ (text t rs p : List ℕ) (used root : ℕ) (buffer : List ℕ) (r : Rewriting) (out after : List ℕ)
    (old_root old_used old_length old_passes : ℕ) where
  pub call_ensures : Explains text t rs p used root buffer r out after → AreBytes rs →
      (rewrite_number r.answer ≡ rewrite_number (explained_answer_with text t rs p used root (length buffer)))
      × ((rewrite_listed (rewrite_number r.answer) ≡ true)
      × ((new_root_out r.answer old_root ≡ new_root_out (explained_answer_with text t rs p used root (length buffer)) old_root)
      × ((new_used_out r.answer old_used ≡ new_used_out (explained_answer_with text t rs p used root (length buffer)) old_used)
      × ((out ≡ explained_bytes_with text t rs p used root (length buffer))
      × (BytesKept rs out used (returned (rewrite_number r.answer) used (new_used_out r.answer old_used))
      × ((after ≡ text_if (explained_answer_with text t rs p used root (length buffer)) buffer
      (explained_text_with text rs p used root))
      × ((passes_out r.answer r.length old_length ≡
      reasons_used_out (explained_answer_with text t rs p used root (length buffer)) (explained_text_with text rs p used root)
      old_length)
      × ((passes_out r.answer r.passes old_passes ≡
      passes_out (explained_answer_with text t rs p used root (length buffer)) (rewrite_passes_with text rs p used root) old_passes)
      × RewritePromiseWith text t rs p used root (rewrite_number r.answer) out (new_root_out r.answer old_root)
      (new_used_out r.answer old_used) (passes_out r.answer r.passes old_passes)))))))))
  unfolding explained_answer_with explained_bytes_with
  call_ensures x bytes =
      call_ensures_with text t rs p used root (explained_text_with text rs p used root) buffer r.answer r.answer refl
      x.answers out x.writes r.passes x.counts after x.tells r.length x.measures old_root old_used old_length
      old_passes bytes

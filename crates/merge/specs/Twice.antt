-- Rewriting the result of a rewriting changes nothing (as a statement; it is proved in proofs/TwiceBytes.antt). The
-- result is the screen returned: the records at exit, with the root and the used count answered, or those sent.
use Rattle.std.specs.Prelude.{◌≡◌, List, ℕ}
use Rattle.merge.specs.declared.answer.RewriteAnswer.{RewriteAnswer}
use Rattle.merge.specs.declared.answer.RewriteAnswer.TheVariants as answer
use Rattle.merge.specs.Demand.{AcceptedScreen, AreBytes, root_after, used_after}
use Rattle.merge.specs.Rewrite.{rewrite_answer, rewrite_bytes}

module _ (t rs p : List ℕ) (used root : ℕ) where
  abbrev pub bytes_returned : List ℕ
  bytes_returned = rewrite_bytes t rs p used root

  abbrev pub used_returned : ℕ
  used_returned = used_after (rewrite_answer t rs p used root) used

  abbrev pub root_returned : ℕ
  root_returned = root_after (rewrite_answer t rs p used root) root

  -- The result is accepted as input.
  abbrev pub AcceptedAgain : Type 0
  AcceptedAgain = AcceptedScreen t bytes_returned p used_returned root_returned

  abbrev pub answer_again : RewriteAnswer
  answer_again = rewrite_answer t bytes_returned p used_returned root_returned

-- For each accepted screen whose result is accepted as input, rewriting the result answers unchanged.
abbrev pub TwiceHolds : Type 0
TwiceHolds =
    (t rs p : List ℕ) (used root : ℕ) → AreBytes rs → AcceptedScreen t rs p used root →
    AcceptedAgain t rs p used root → answer_again t rs p used root ≡ answer.Unchanged

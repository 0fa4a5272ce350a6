-- The answers of rewriting are listed.
use mathlib.Core.Path.{◌≡◌, refl}
use mathlib.Core.Bool.{Bool, true, cond}
use mathlib.Core.List.{List}
use Prim.Native.Nat.{ℕ, suc}
use lib.Dec.{leb, ltb}
use lib.ListN.{length}
use Rattle.checking.specs.Check.{check_answer, check_answer_in}
use Rattle.checking.specs.Tree.{tree_count}
use Rattle.checking.specs.Answer.{CheckAnswer}
use Rattle.checking.specs.Answer as check
use Rattle.checking.proofs.Answers.{refused-numbered-in}
use Rattle.merge.specs.declared.answer.RewriteAnswer.{RewriteAnswer}
use Rattle.merge.specs.declared.answer.RewriteAnswer.TheVariants as answer
use Rattle.merge.specs.Emit.{Outcome, Unchanged, NothingPasses, Rebuilt}
use Rattle.merge.specs.Minterms.{minterms}
use Rattle.merge.specs.Rewrite.{outcome_of, chain_root, chain_used, has_room, chain_fits, outcome_answer}
use Rattle.merge.specs.Rewrite.{rewrite_if, rewrite_answer}
use Rattle.reasons.specs.Explained.{refuse_long, explained_text, explained_answer}
use Rattle.truth.specs.FromBytes.{aexpr_at}
use Rattle.listed.proofs.Listed.{first-seven, pick}
use Rattle.rewrite_number.specs.Answers.{rewrite_number}
use Rattle.symbol_screens.specs.Reading.{held_at}
use Rattle.symbol_screens.specs.Rewriting.{lent, outcome_with, rewrite_answer_with}
use Rattle.rewrite_promise.specs.Listed.{rewrite_answers, rewrite_listed}

abbrev Ok : RewriteAnswer → Type 0
Ok a = rewrite_listed (rewrite_number a) ≡ true

outcome_listed : (t rs : List ℕ) (used : ℕ) (o : Outcome ℕ) → Ok (outcome_answer t rs used o)
outcome_listed t rs used Unchanged = refl
outcome_listed t rs used NothingPasses =
    pick Ok (has_room rs (suc used)) (answer.NothingPasses used (suc used)) (answer.Refused 11) refl refl
outcome_listed t rs used (Rebuilt ns cs) =
    pick Ok (chain_fits t rs used ns cs) (answer.Rewritten (chain_root used ns cs) (chain_used used ns cs))
    (answer.Refused 11) refl refl

answer_listed : (text : ℕ) (t rs p : List ℕ) (used root : ℕ) (b d : Bool) (o : Outcome ℕ) (c : CheckAnswer)
    → check_answer_in text t rs p used root ≡ c
    → Ok (rewrite_if c (cond b (answer.Refused 8) (cond d (answer.Refused 9) (outcome_answer t rs used o))))
answer_listed text t rs p used root b d o (check.Refused k) e =
    let n = refused-numbered-in text t rs p used root k e in
    first-seven rewrite_answers k n.0 n.1
answer_listed text t rs p used root b d o check.Accepted e =
    pick Ok b (answer.Refused 8) _ refl (pick Ok d (answer.Refused 9) _ refl (outcome_listed t rs used o))

pub rewrite-listed_with : (text t rs p : List ℕ) (used root : ℕ) →
    rewrite_listed (rewrite_number (rewrite_answer_with text t rs p used root)) ≡ true
unfolding rewrite_answer_with
rewrite-listed_with text t rs p used root =
    answer_listed (lent text) t rs p used root (ltb 4096 (tree_count rs root))
    (ltb 128 (length (minterms (held_at rs p used) root))) (outcome_with text rs p used root)
    (check_answer_in (lent text) t rs p used root) refl

rewrite-listed : (t rs p : List ℕ) (used root : ℕ) → rewrite_listed (rewrite_number (rewrite_answer t rs p used root)) ≡ true
unfolding rewrite_answer
rewrite-listed t rs p used root =
    answer_listed 0 t rs p used root (ltb 4096 (tree_count rs root))
    (ltb 128 (length (minterms (aexpr_at rs p used) root))) (outcome_of rs p used root) (check_answer t rs p used root) refl

-- with 16
pub long-listed : (size len : ℕ) (a : RewriteAnswer) → rewrite_listed (rewrite_number a) ≡ true
    → rewrite_listed (rewrite_number (refuse_long size len a)) ≡ true
long-listed size len (answer.Refused k) h = h
long-listed size len answer.Unchanged h = h
long-listed size len (answer.NothingPasses root used) h = h
long-listed size len (answer.Rewritten root used) h =
    pick Ok (leb size len) (answer.Rewritten root used) (answer.Refused 16) refl refl

pub explained_listed : (t rs p : List ℕ) (used root len : ℕ) →
    rewrite_listed (rewrite_number (explained_answer t rs p used root len)) ≡ true
unfolding explained_answer
explained_listed t rs p used root len =
    long-listed (length (explained_text rs p used root)) len (rewrite_answer t rs p used root)
    (rewrite-listed t rs p used root)

-- What the numbers of the answers say of the screen returned and of the passes.
use mathlib.Core.Path.{◌≡◌, refl, sym, ap}
use mathlib.Core.Bool.{Bool, true, false, cond}
use mathlib.Core.List.{List}
use mathlib.Core.Logic.{◌⊎◌, inl, inr}
use Prim.Native.Nat.{ℕ, suc, ◌≤◌, ◌<◌}
use native.Mathlib.Omega.{arith}
use lib.Dec.{leb, ltb}
use lib.ListN.{length}
use borrow.Author.Tests.{le-ltb}
use Rattle.checking.specs.Check.{check_answer, check_answer_in}
use Rattle.checking.specs.Tree.{tree_count}
use Rattle.checking.specs.Answer.{CheckAnswer}
use Rattle.checking.specs.Answer as check
use Rattle.checking.proofs.Answers.{refused-numbered-in}
use Rattle.truth.specs.FromBytes.{aexpr_at}
use Rattle.merge.specs.declared.answer.RewriteAnswer.{RewriteAnswer}
use Rattle.merge.specs.declared.answer.RewriteAnswer.TheVariants as answer
use Rattle.merge.specs.Demand.{is_refused, root_after, used_after}
use Rattle.merge.specs.Emit.{Outcome, Unchanged, NothingPasses, Rebuilt}
use Rattle.merge.specs.Minterms.{minterms}
use Rattle.merge.specs.Rewrite.{outcome_of, chain_root, chain_used, has_room, chain_fits, outcome_answer}
use Rattle.merge.specs.Rewrite.{rewrite_if, rewrite_answer}
use Rattle.reasons.specs.Explained.{refuse_long, length_if}
use Rattle.rewrite_number.proofs.Numbers.{SmallRefusal}
use Rattle.rewrite_number.specs.Answers.{rewrite_number, new_root_out, new_used_out, passes_out, reasons_used_out}
use Rattle.symbol_screens.specs.Reading.{held_at}
use Rattle.symbol_screens.specs.Rewriting.{lent, outcome_with, rewrite_answer_with}
use Rattle.rewrite_promise.specs.Promises.{returned}

-- ---- A refusal's number is below 256.
cond_small : (b : Bool) (x y : RewriteAnswer) → SmallRefusal x → SmallRefusal y → SmallRefusal (cond b x y)
cond_small true x y h k = h
cond_small false x y h k = k

outcome_small : (t rs : List ℕ) (used : ℕ) (o : Outcome ℕ) → SmallRefusal (outcome_answer t rs used o)
outcome_small t rs used Unchanged = tt
outcome_small t rs used NothingPasses =
    cond_small (has_room rs (suc used)) (answer.NothingPasses used (suc used)) (answer.Refused 11) tt (omega arith)
outcome_small t rs used (Rebuilt ns cs) =
    cond_small (chain_fits t rs used ns cs) (answer.Rewritten (chain_root used ns cs) (chain_used used ns cs))
    (answer.Refused 11) tt (omega arith)

answer_small : (text : ℕ) (t rs p : List ℕ) (used root : ℕ) (b d : Bool) (o : Outcome ℕ) (c : CheckAnswer)
    → check_answer_in text t rs p used root ≡ c
    → SmallRefusal (rewrite_if c (cond b (answer.Refused 8) (cond d (answer.Refused 9) (outcome_answer t rs used o))))
answer_small text t rs p used root b d o (check.Refused k) e =
    omega (arith, (refused-numbered-in text t rs p used root k e).1)
answer_small text t rs p used root b d o check.Accepted e =
    cond_small b (answer.Refused 8) (cond d (answer.Refused 9) (outcome_answer t rs used o)) (omega arith)
    (cond_small d (answer.Refused 9) (outcome_answer t rs used o) (omega arith) (outcome_small t rs used o))

pub small : (t rs p : List ℕ) (used root : ℕ) → SmallRefusal (rewrite_answer t rs p used root)
unfolding rewrite_answer
small t rs p used root =
    answer_small 0 t rs p used root (ltb 4096 (tree_count rs root))
    (ltb 128 (length (minterms (aexpr_at rs p used) root))) (outcome_of rs p used root) (check_answer t rs p used root) refl

pub small-with : (text t rs p : List ℕ) (used root : ℕ) → SmallRefusal (rewrite_answer_with text t rs p used root)
unfolding rewrite_answer_with
small-with text t rs p used root =
    answer_small (lent text) t rs p used root (ltb 4096 (tree_count rs root))
    (ltb 128 (length (minterms (held_at rs p used) root))) (outcome_with text rs p used root)
    (check_answer_in (lent text) t rs p used root) refl

-- ---- What is returned, and the passes.
pub used-returned : (a : RewriteAnswer) (used old : ℕ) → SmallRefusal a
    → used_after a used ≡ returned (rewrite_number a) used (new_used_out a old)
used-returned (answer.Refused k) used old h = rw (le-ltb 256 k (omega arith))
used-returned answer.Unchanged used old h = refl
used-returned (answer.NothingPasses root' used') used old h = refl
used-returned (answer.Rewritten root' used') used old h = refl

pub root-returned : (a : RewriteAnswer) (root old : ℕ) → SmallRefusal a
    → root_after a root ≡ returned (rewrite_number a) root (new_root_out a old)
root-returned (answer.Refused k) root old h = rw (le-ltb 256 k (omega arith))
root-returned answer.Unchanged root old h = refl
root-returned (answer.NothingPasses root' used') root old h = refl
root-returned (answer.Rewritten root' used') root old h = refl

pub passes-written : (a : RewriteAnswer) (made defined old : ℕ) → (is_refused a ≡ false → made ≡ defined)
    → passes_out a made old ≡ passes_out a defined old
passes-written (answer.Refused k) made defined old h = refl
passes-written answer.Unchanged made defined old h = h refl
passes-written (answer.NothingPasses root used) made defined old h = h refl
passes-written (answer.Rewritten root used) made defined old h = h refl

pub passes-small : (a : RewriteAnswer) (made old most : ℕ) → SmallRefusal a → made ≤ most → 256 ≤ rewrite_number a
    → passes_out a made old ≤ most
passes-small (answer.Refused k) made old most h m n = absurd (omega (arith, h, n))
passes-small answer.Unchanged made old most h m n = m
passes-small (answer.NothingPasses root used) made old most h m n = m
passes-small (answer.Rewritten root used) made old most h m n = m

pub length-written : (a : RewriteAnswer) (text : List ℕ) (old : ℕ) → passes_out a (length_if a text) old ≡ reasons_used_out a text old
length-written (answer.Refused k) text old = refl
length-written answer.Unchanged text old = refl
length-written (answer.NothingPasses root used) text old = refl
length-written (answer.Rewritten root used) text old = refl

-- ---- The text of the reasons, of that size: with room for it the answer is that of rewriting; without, 16.
pub by_size : (size len : ℕ) (x a : RewriteAnswer) → refuse_long size len x ≡ a → (x ≡ a) ⊎ (a ≡ answer.Refused 16)
by_size size len (answer.Refused k) a h = inl h
by_size size len answer.Unchanged a h = inl h
by_size size len (answer.NothingPasses root used) a h = inl h
by_size size len (answer.Rewritten root used) a h = test (leb size len) h
  where
    test : (b : Bool) → cond b (answer.Rewritten root used) (answer.Refused 16) ≡ a
        → (answer.Rewritten root used ≡ a) ⊎ (a ≡ answer.Refused 16)
    test true h = inl h
    test false h = inr (sym h)

pub unrefused_by : (size len : ℕ) (x : RewriteAnswer) → 256 ≤ rewrite_number (refuse_long size len x) → refuse_long size len x ≡ x
unrefused_by size len x n = go (by_size size len x (refuse_long size len x) refl)
  where
    go : (x ≡ refuse_long size len x) ⊎ (refuse_long size len x ≡ answer.Refused 16) → refuse_long size len x ≡ x
    go (inl e) = sym e
    go (inr e) = let k : rewrite_number (refuse_long size len x) ≡ 16 = ap rewrite_number e in absurd (omega (arith, n, k))

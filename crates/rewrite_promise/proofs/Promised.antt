-- What a call that rewrites a screen with symbols promises, from the laws of the definitions.
use mathlib.Core.Path.{◌≡◌, refl, sym, ◌∙◌, ap, subst}
use mathlib.Core.Bool.{true, false}
use mathlib.Core.List.{List}
use mathlib.Core.Logic.{◌↔◌, ◌⊎◌, inl, inr}
use Prim.Native.Nat.{ℕ, ◌≤◌, ◌<◌}
use native.Mathlib.Omega.{arith}
use lib.ListN.{length}
use Rattle.truth.specs.FromBytes.{aexpr_at}
use Rattle.merge.specs.declared.answer.RewriteAnswer.{RewriteAnswer}
use Rattle.merge.specs.declared.answer.RewriteAnswer.TheVariants as answer
use Rattle.merge.specs.Demand.{Row, is_refused, is_nothing, AreBytes, root_after, used_after}
use Rattle.merge.specs.Passes.{edge_columns, screen_equalities}
use Rattle.merge.specs.Rewrite.{written_if}
use Rattle.merge.specs.Usable.{UsableIn}
use Rattle.merge.specs.Write.{outcome_bytes}
use Rattle.reasons.specs.Explained.{refuse_long, text_if, length_if}
use Rattle.rewrite_number.proofs.Numbers.{SmallRefusal, accepted, nothing-number, number-nothing}
use Rattle.rewrite_number.specs.Answers.{rewrite_number, new_root_out, new_used_out, passes_out, reasons_used_out}
use Rattle.symbol_screens.specs.Rewriting.{lent, outcome_with, rewrite_answer_with, rewrite_bytes_with, rewrite_passes_with}
use Rattle.symbol_screens.specs.Rows.{passes_with}
use Rattle.symbol_demand.specs.Demand.{AcceptedWith, Demand3With, rows_passing_with, bytes_returned, used_returned, root_returned}
use Rattle.symbol_demand.proofs.Demand.{sent, demand-3-with, returned-usable_with, twice-unchanged_with, root-is_new_with}
use Rattle.symbol_demand.proofs.Demand.{passes-at_most_with}
use Rattle.rewrite_promise.specs.Listed.{rewrite_listed}
use Rattle.rewrite_promise.specs.Promises.{returned, BytesKept, SameTestsWith, RewritePromiseWith}
use Rattle.rewrite_promise.proofs.Kept.{kept-all, rewrite-kept_with}
use Rattle.rewrite_promise.proofs.Listed.{rewrite-listed_with, long-listed}
use Rattle.rewrite_promise.proofs.Numbers.{small-with, used-returned, root-returned, passes-written, passes-small}
use Rattle.rewrite_promise.proofs.Numbers.{length-written, by_size, unrefused_by}
use Rattle.rewrite_promise.proofs.Tests.{same_tests}

-- ---- The promises of a call that answered a, made so many passes and left out; oldRoot, oldUsed and oldPasses stood in
-- the out-parameters.
module _ (text t rs p : List ℕ) (used root : ℕ) (a : RewriteAnswer) (is : rewrite_answer_with text t rs p used root ≡ a)
    (out : List ℕ) (written : out ≡ rewrite_bytes_with text t rs p used root) (made : ℕ)
    (counted : is_refused a ≡ false → made ≡ rewrite_passes_with text rs p used root) (old_root old_used old_passes : ℕ) where
  low : SmallRefusal a
  low = subst SmallRefusal is (small-with text t rs p used root)

  call_kept : BytesKept rs out used (returned (rewrite_number a) used (new_used_out a old_used))
  call_kept =
      subst (λ o. BytesKept rs o used (returned (rewrite_number a) used (new_used_out a old_used))) (sym written)
      (subst (BytesKept rs (rewrite_bytes_with text t rs p used root) used) (used-returned a used old_used low)
      (subst (λ x. BytesKept rs (rewrite_bytes_with text t rs p used root) used (used_after x used)) is
      (rewrite-kept_with text t rs p used root)))

  -- What is shown of the definitions' screen holds of the one that the call returns.
  moved : (P : List ℕ → ℕ → ℕ → Type 0)
      → P (bytes_returned text t rs p used root) (used_returned text t rs p used root) (root_returned text t rs p used root)
      → P out (returned (rewrite_number a) used (new_used_out a old_used))
      (returned (rewrite_number a) root (new_root_out a old_root))
  moved P h =
      subst (λ o. P o (returned (rewrite_number a) used (new_used_out a old_used))
      (returned (rewrite_number a) root (new_root_out a old_root))) (sym written)
      (subst (λ u. P (rewrite_bytes_with text t rs p used root) u (returned (rewrite_number a) root (new_root_out a old_root)))
      (used-returned a used old_used low)
      (subst (P (rewrite_bytes_with text t rs p used root) (used_after a used)) (root-returned a root old_root low)
      (subst (λ x. P (rewrite_bytes_with text t rs p used root) (used_after x used) (root_after x root)) is h)))

  -- With 258 the root is new.
  new-root : (x : RewriteAnswer) → rewrite_answer_with text t rs p used root ≡ x → SmallRefusal x → rewrite_number x ≡ 258
      → (root < used) × (used ≤ new_root_out x old_root) × (new_root_out x old_root < new_used_out x old_used)
  new-root (answer.Refused k) q h e = absurd (omega (arith, h, e))
  new-root answer.Unchanged q h e = absurd (omega (arith, e))
  new-root (answer.NothingPasses root' used') q h e = absurd (omega (arith, e))
  new-root (answer.Rewritten root' used') q h e = root-is_new_with text t rs p used root root' used' q

  call_ceiling : 256 ≤ rewrite_number a
      → passes_out a made old_passes ≤ length (edge_columns (screen_equalities rs p used root))
  call_ceiling n =
      subst (λ k. k ≤ length (edge_columns (screen_equalities rs p used root)))
      (sym (passes-written a made (rewrite_passes_with text rs p used root) old_passes counted))
      (passes-small a (rewrite_passes_with text rs p used root) old_passes
      (length (edge_columns (screen_equalities rs p used root))) low (passes-at_most_with text rs p used root) n)

  module _ (bytes : AreBytes rs) where
    kept : 256 ≤ rewrite_number a → AcceptedWith text t rs p used root
    kept n = ap is_refused is ∙ accepted a low n

    demand : 256 ≤ rewrite_number a → Demand3With text t rs p used root
    demand n = demand-3-with text t rs p used root bytes (kept n)

    tests : 256 ≤ rewrite_number a
        → SameTestsWith text t rs p used root (bytes_returned text t rs p used root) (used_returned text t rs p used root)
        (root_returned text t rs p used root)
    tests n =
        same_tests text t rs p used root (bytes_returned text t rs p used root) (used_returned text t rs p used root)
        (root_returned text t rs p used root) (sent text t rs p used root bytes (kept n))
        (returned-usable_with text t rs p used root bytes (kept n)) (demand n).rows

    -- Rewritten once more.
    again : 256 ≤ rewrite_number a → (size len : ℕ)
        → 256 ≤ rewrite_number (refuse_long size len (rewrite_answer_with text t (bytes_returned text t rs p used root) p
        (used_returned text t rs p used root) (root_returned text t rs p used root)))
        → rewrite_number (refuse_long size len (rewrite_answer_with text t (bytes_returned text t rs p used root) p
        (used_returned text t rs p used root) (root_returned text t rs p used root))) ≡ 256
    again n size len m = ap rewrite_number (e ∙ twice-unchanged_with text t rs p used root bytes (kept n)
        (accepted x (small-with text t (bytes_returned text t rs p used root) p (used_returned text t rs p used root)
        (root_returned text t rs p used root)) (subst (λ y. 256 ≤ rewrite_number y) e m)))
      where
        x : RewriteAnswer
        x = rewrite_answer_with text t (bytes_returned text t rs p used root) p (used_returned text t rs p used root)
            (root_returned text t rs p used root)

        e : refuse_long size len x ≡ x
        e = unrefused_by size len x m

    call_promise : RewritePromiseWith text t rs p used root (rewrite_number a) out (new_root_out a old_root)
        (new_used_out a old_used) (passes_out a made old_passes)
    call_promise =
        record {
          rows =
              λ n row r. moved (λ o u s. passes_with text o p u s row ≡ passes_with text rs p used root row)
              ((demand n).rows row);
          counts =
              λ n chain c. moved (λ o u s. rows_passing_with text o p u s chain ≡ rows_passing_with text rs p used root chain)
              ((demand n).counts chain);
          nothing =
              λ e chain c. (demand (omega (arith, e))).nothing (ap is_nothing is ∙ nothing-number a low e) chain;
          exactly =
              λ n q. let d = (demand n).exactly q in (
                (λ e. d.0 (ap is_nothing is ∙ nothing-number a low e)),
                λ g. number-nothing a (sym (ap is_nothing is) ∙ d.1 g),
              );
          usable =
              λ n. moved (λ o u s. UsableIn (lent text) t o p u s)
              (returned-usable_with text t rs p used root bytes (kept n));
          tests = λ n. moved (SameTestsWith text t rs p used root) (tests n);
          root-is_new = λ e. new-root a is low e;
          again =
              λ n size len. moved (λ o u s. 256 ≤ rewrite_number (refuse_long size len (rewrite_answer_with text t o p u s))
              → rewrite_number (refuse_long size len (rewrite_answer_with text t o p u s)) ≡ 256) (again n size len);
          ceiling = call_ceiling;
        }

-- A call that answered 16 left the records as they were, and promises nothing.
refused-promise : (text t rs p : List ℕ) (used root : ℕ) (new_root new_used made : ℕ)
    → RewritePromiseWith text t rs p used root 16 rs new_root new_used made
refused-promise text t rs p used root new_root new_used made =
    record {
      rows = λ n. absurd (omega (arith, n));
      counts = λ n. absurd (omega (arith, n));
      nothing = λ e. absurd (omega (arith, e));
      exactly = λ n. absurd (omega (arith, n));
      usable = λ n. absurd (omega (arith, n));
      tests = λ n. absurd (omega (arith, n));
      root-is_new = λ e. absurd (omega (arith, e));
      again = λ n. absurd (omega (arith, n));
      ceiling = λ n. absurd (omega (arith, n));
    }

-- ---- All that a call with the reasons' text `words` ensures. It answered a, which the layer below gave as x; `after` stands
-- in the text buffer, z is the length of the text that it gave.
module _ (text t rs p : List ℕ) (used root : ℕ) (words buffer : List ℕ) where
  -- 16 after 11, for a lent text buffer that cannot hold the words.
  abbrev pub worded : RewriteAnswer
  worded = refuse_long (length words) (length buffer) (rewrite_answer_with text t rs p used root)

  abbrev pub worded_bytes : List ℕ
  worded_bytes = written_if worded rs (outcome_bytes t rs used (outcome_with text rs p used root))

  same_bytes : rewrite_answer_with text t rs p used root ≡ worded → worded_bytes ≡ rewrite_bytes_with text t rs p used root
  unfolding rewrite_bytes_with
  same_bytes e = ap (λ a. written_if a rs (outcome_bytes t rs used (outcome_with text rs p used root))) (sym e)

  no_bytes : worded ≡ answer.Refused 16 → worded_bytes ≡ rs
  no_bytes e = ap (λ a. written_if a rs (outcome_bytes t rs used (outcome_with text rs p used root))) e

  module _ (x a : RewriteAnswer) (e : x ≡ a) (is : x ≡ worded) (out : List ℕ) (written : out ≡ worded_bytes) (made : ℕ)
      (counted : is_refused x ≡ false → made ≡ rewrite_passes_with text rs p used root) (after : List ℕ)
      (told : after ≡ text_if x buffer words) (z : ℕ) (sized : z ≡ length_if x words)
      (old_root old_used old_length old_passes : ℕ) (bytes : AreBytes rs) where
    answered : worded ≡ a
    answered = sym is ∙ e

    counted-a : is_refused a ≡ false → made ≡ rewrite_passes_with text rs p used root
    counted-a h = counted (ap is_refused e ∙ h)

    abbrev Promised : Type 0
    Promised =
        BytesKept rs out used (returned (rewrite_number a) used (new_used_out a old_used))
        × RewritePromiseWith text t rs p used root (rewrite_number a) out (new_root_out a old_root) (new_used_out a old_used)
        (passes_out a made old_passes)

    promised : Promised
    promised = go (by_size (length words) (length buffer) (rewrite_answer_with text t rs p used root) a answered)
      where
        go : (rewrite_answer_with text t rs p used root ≡ a) ⊎ (a ≡ answer.Refused 16) → Promised
        go (inl r) =
            let w : out ≡ rewrite_bytes_with text t rs p used root = written ∙ same_bytes (r ∙ sym answered) in (
              call_kept text t rs p used root a r out w made counted-a old_root old_used old_passes,
              call_promise text t rs p used root a r out w made counted-a old_root old_used old_passes bytes,
            )
        go (inr r) =
            let w : rs ≡ out = sym (written ∙ no_bytes (answered ∙ r)) in
            subst (λ b. BytesKept rs out used (returned (rewrite_number b) used (new_used_out b old_used))
            × RewritePromiseWith text t rs p used root (rewrite_number b) out (new_root_out b old_root) (new_used_out b old_used)
            (passes_out b made old_passes)) (sym r)
            (subst (λ o. BytesKept rs o used used
            × RewritePromiseWith text t rs p used root 16 o old_root old_used old_passes) w
            (kept-all rs used used, refused-promise text t rs p used root old_root old_used old_passes))

    pub call_ensures_with :
        (rewrite_number a ≡ rewrite_number worded)
        × ((rewrite_listed (rewrite_number a) ≡ true)
        × ((new_root_out a old_root ≡ new_root_out worded old_root)
        × ((new_used_out a old_used ≡ new_used_out worded old_used)
        × ((out ≡ worded_bytes)
        × (BytesKept rs out used (returned (rewrite_number a) used (new_used_out a old_used))
        × ((after ≡ text_if worded buffer words)
        × ((passes_out a z old_length ≡ reasons_used_out worded words old_length)
        × ((passes_out a made old_passes ≡ passes_out worded (rewrite_passes_with text rs p used root) old_passes)
        × RewritePromiseWith text t rs p used root (rewrite_number a) out (new_root_out a old_root) (new_used_out a old_used)
        (passes_out a made old_passes)))))))))
    call_ensures_with = (
      ap rewrite_number (sym answered),
      (
        subst (λ y. rewrite_listed (rewrite_number y) ≡ true) answered
            (long-listed (length words) (length buffer) (rewrite_answer_with text t rs p used root)
            (rewrite-listed_with text t rs p used root)),
        (
          ap (λ y. new_root_out y old_root) (sym answered),
          (
            ap (λ y. new_used_out y old_used) (sym answered),
            (
              written,
              (
                promised.0,
                (
                  told ∙ ap (λ y. text_if y buffer words) is,
                  (
                    ap (λ n. passes_out a n old_length) (sized ∙ ap (λ y. length_if y words) e)
                        ∙ length-written a words old_length ∙ ap (λ y. reasons_used_out y words old_length) (sym answered),
                    (
                      passes-written a made (rewrite_passes_with text rs p used root) old_passes counted-a
                          ∙ ap (λ y. passes_out y (rewrite_passes_with text rs p used root) old_passes) (sym answered),
                      promised.1,
                    ),
                  ),
                ),
              ),
            ),
          ),
        ),
      ),
    )

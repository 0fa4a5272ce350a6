-- The ends of the call: a refusal, what the screen's numbers answer, and what a screen without symbols does.
use mathlib.Core.Path.{◌≡◌, refl, sym, ◌∙◌, ap, subst}
use mathlib.Core.Bool.{true}
use mathlib.Core.List.{List}
use Prim.Native.Nat.{ℕ, ◌≤◌, ◌<◌}
use native.Mathlib.Omega.{arith}
use lib.ListN.{length}
use Rattle.checking.proofs.Accepted.{checked-in}
use Rattle.judge_lines.specs.WayAnswer.{WayAnswer}
use Rattle.judge_lines.specs.WayAnswer as way
use Rattle.way_answer.specs.Answer.{way_answer}
use Rattle.in_the_way.specs.Calls.{way_number, line_out, way_listed, WayPromise}
use Rattle.numbered_screen.specs.Numbered.{Numbered}
use Rattle.symbol_screens.specs.Rewriting.{lent}
use Rattle.symbol_screens.proofs.NumbersChecked.{NoText}
use Rattle.own_numbers.proofs.Own.{own_or_refused}
use Rattle.plain_symbols.specs.Refusal.{refusal_number, plain_refusal_with}
use Rattle.plain_symbols.proofs.Refusals.{columns-few, PlainWith, not-refused_with, refusal_has}
use Rattle.way_symbols.specs.Answer.{way_answer_with}
use Rattle.way_symbols.specs.Promise.{WayPromiseWith}
use Rattle.way_symbols.proofs.Answers.{way-refused, way-alike, way-as-ever}
use Rattle.way_symbols.proofs.Promised.{promise_refused, promise_told}

module _ (text t rs p : List ℕ) (used root : ℕ) where
  abbrev Told : ℕ → ℕ → ℕ → Type 0
  Told r old line =
      (r ≡ way_number (way_answer_with text t rs p used root))
      × ((way_listed r ≡ true)
      × ((line ≡ line_out (way_answer_with text t rs p used root) old) × WayPromiseWith text t rs p used root r line))

  pub end_refused : (k old : ℕ) → k ≡ refusal_number (plain_refusal_with text t rs p used root) → (k ≡ 0 → ⊥) → Told k old old
  end_refused k old e n = (
    ap way_number (way-refused text t rs p used root k e n),
    (
      refusal_has (λ j. way_listed j ≡ true) (refl, refl, refl, refl, refl, refl, refl) (refl, refl, refl) text t rs p used root k e n,
      (
        ap (λ a. line_out a old) (way-refused text t rs p used root k e n),
        promise_refused text t rs p used root k old
            (refusal_has (λ j. j < 256) (omega arith, omega arith, omega arith, omega arith, omega arith, omega arith, omega arith)
            (omega arith, omega arith, omega arith) text t rs p used root k e n),
      ),
    ),
  )

  pub few-columns : 0 ≡ refusal_number (plain_refusal_with text t rs p used root) → length t ≤ 64
  few-columns z =
      columns-few (lent text) t rs p used root
      (checked-in (lent text) t rs p used root (not-refused_with text t rs p used root (sym z)).accepted)

  pub end-told : (table records : List ℕ) → Numbered t rs used table records
      → 0 ≡ refusal_number (plain_refusal_with text t rs p used root) → (r old line : ℕ)
      → r ≡ way_number (way_answer table records p used root) → way_listed r ≡ true
      → line ≡ line_out (way_answer table records p used root) old → WayPromise table records p used root r line → Told r old line
  end-told table records are z r old line e l f w =
      let q = not-refused_with text t rs p used root (sym z) in
      let a = way-alike text t rs p used root table records are q in (
        e ∙ ap way_number a,
        (
          l,
          (
            f ∙ ap (λ x. line_out x old) a,
            promise_told text t rs p used root (checked-in (lent text) t rs p used root q.accepted) q.plain table records are
                r line w,
          ),
        ),
      )

  pub end-as_ever : NoText t rs used → length text ≤ 8192 → (r old line : ℕ)
      → r ≡ way_number (way_answer t rs p used root) → way_listed r ≡ true
      → line ≡ line_out (way_answer t rs p used root) old → WayPromise t rs p used root r line → Told r old line
  end-as_ever free h r old line e l f w =
      own_or_refused t rs used free text p root (Told r old line) (λ z are. end-told t rs are z r old line e l f w)
      (λ k g n.
      let d : way_answer t rs p used root ≡ way.Refused k =
      way-as-ever text t rs p used root free h ∙ sym (way-refused text t rs p used root k g n) in
      subst (λ x. Told x old line) (sym (e ∙ ap way_number d))
      (subst (λ x. Told k old x) (sym (f ∙ ap (λ a. line_out a old) d)) (end_refused k old g n)))

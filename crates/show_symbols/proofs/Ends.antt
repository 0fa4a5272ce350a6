-- The ends of the call: a refusal, what the screen's numbers show, and what a screen without symbols does.
use mathlib.Core.Path.{◌≡◌, refl, sym, ◌∙◌, ap, subst}
use mathlib.Core.Bool.{true}
use mathlib.Core.List.{List}
use Prim.Native.Nat.{ℕ, ◌≤◌, ◌<◌}
use native.Mathlib.Omega.{arith}
use lib.ListN.{length}
use Rattle.checking.proofs.Accepted.{checked-in}
use Rattle.show_row.specs.ShowAnswer.{ShowAnswer}
use Rattle.show_row.specs.ShowAnswer as show
use Rattle.show_row.specs.Answer.{show_answer}
use Rattle.show_row.specs.Calls.{show_number, show_listed, row_out, nulls_out, screen_bytes, ShowPromise}
use Rattle.numbered_screen.specs.Numbered.{Numbered}
use Rattle.symbol_screens.specs.Rewriting.{lent}
use Rattle.symbol_screens.proofs.NumbersChecked.{NoText}
use Rattle.own_numbers.proofs.Own.{own_or_refused}
use Rattle.plain_symbols.specs.Refusal.{refusal_number, plain_refusal_with}
use Rattle.plain_symbols.proofs.Refusals.{columns-few, PlainWith, not-refused_with, refusal_has}
use Rattle.show_symbols.specs.Answer.{show_answer_with}
use Rattle.show_symbols.specs.Promise.{ShowPromiseWith}
use Rattle.show_symbols.proofs.Answers.{show-refused, show-alike, show-as-ever, bytes-alike}
use Rattle.show_symbols.proofs.Promised.{promise_refused, promise_told}

module _ (text t rs p : List ℕ) (used root : ℕ) where
  abbrev Told : ℕ → List ℕ → List ℕ → ℕ → ℕ → Type 0
  Told r before row old nulls =
      (r ≡ show_number (show_answer_with text t rs p used root (length before)))
      × ((show_listed r ≡ true)
      × ((row ≡ row_out (show_answer_with text t rs p used root (length before)) (screen_bytes t rs p used root) before)
      × ((nulls ≡ nulls_out (show_answer_with text t rs p used root (length before)) old)
      × ShowPromiseWith text t rs p used root r before row nulls)))

  pub end_refused : (k : ℕ) (before : List ℕ) (old : ℕ) → k ≡ refusal_number (plain_refusal_with text t rs p used root)
      → (k ≡ 0 → ⊥) → Told k before before old old
  end_refused k before old e n =
      let a = show-refused text t rs p used root (length before) k e n in (
        ap show_number a,
        (
          refusal_has (λ j. show_listed j ≡ true) (refl, refl, refl, refl, refl, refl, refl) (refl, refl, refl) text t rs p used root k e n,
          (
            ap (λ x. row_out x (screen_bytes t rs p used root) before) a,
            (
              ap (λ x. nulls_out x old) a,
              promise_refused text t rs p used root k before old
                  (refusal_has (λ j. j < 256) (omega arith, omega arith, omega arith, omega arith, omega arith, omega arith, omega arith)
                  (omega arith, omega arith, omega arith) text t rs p used root k e n),
            ),
          ),
        ),
      )

  pub few-columns : 0 ≡ refusal_number (plain_refusal_with text t rs p used root) → length t ≤ 64
  few-columns z =
      columns-few (lent text) t rs p used root
      (checked-in (lent text) t rs p used root (not-refused_with text t rs p used root (sym z)).accepted)

  pub end-told : (table records : List ℕ) → Numbered t rs used table records
      → 0 ≡ refusal_number (plain_refusal_with text t rs p used root) → (r : ℕ) (before row : List ℕ) (old nulls : ℕ)
      → r ≡ show_number (show_answer table records p used root (length before)) → show_listed r ≡ true
      → row ≡ row_out (show_answer table records p used root (length before)) (screen_bytes table records p used root) before
      → nulls ≡ nulls_out (show_answer table records p used root (length before)) old
      → ShowPromise table records p used root r before row nulls → Told r before row old nulls
  end-told table records are z r before row old nulls e l f g w =
      let q = not-refused_with text t rs p used root (sym z) in
      let a = show-alike text t rs p used root (length before) table records are q in (
        e ∙ ap show_number a,
        (
          l,
          (
            f ∙ ap (λ x. row_out x (screen_bytes table records p used root) before) a
                ∙ ap (λ b. row_out (show_answer_with text t rs p used root (length before)) b before)
                (bytes-alike text t rs p used root (length before) table records are q),
            (
              g ∙ ap (λ x. nulls_out x old) a,
              promise_told text t rs p used root (length before) (checked-in (lent text) t rs p used root q.accepted) q
                  table records are r old before row nulls e g w,
            ),
          ),
        ),
      )

  pub end-as_ever : NoText t rs used → length text ≤ 8192 → (r : ℕ) (before row : List ℕ) (old nulls : ℕ)
      → r ≡ show_number (show_answer t rs p used root (length before)) → show_listed r ≡ true
      → row ≡ row_out (show_answer t rs p used root (length before)) (screen_bytes t rs p used root) before
      → nulls ≡ nulls_out (show_answer t rs p used root (length before)) old
      → ShowPromise t rs p used root r before row nulls → Told r before row old nulls
  end-as_ever free h r before row old nulls e l f g w =
      own_or_refused t rs used free text p root (Told r before row old nulls)
      (λ z are. end-told t rs are z r before row old nulls e l f g w)
      (λ k q n.
      let d : show_answer t rs p used root (length before) ≡ show.Refused k =
      show-as-ever text t rs p used root (length before) free h
      ∙ sym (show-refused text t rs p used root (length before) k q n) in
      subst (λ x. Told x before row old nulls) (sym (e ∙ ap show_number d))
      (subst (λ x. Told k before x old nulls) (sym (f ∙ ap (λ a. row_out a (screen_bytes t rs p used root) before) d))
      (subst (λ x. Told k before before old x) (sym (g ∙ ap (λ a. nulls_out a old) d)) (end_refused k before old q n))))

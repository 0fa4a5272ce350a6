-- The ends of the call: a refusal, what the screen's numbers answer, and what a screen without symbols does.
use mathlib.Core.Path.{◌≡◌, refl, sym, ◌∙◌, ap, subst}
use mathlib.Core.Bool.{true}
use mathlib.Core.List.{List}
use mathlib.Core.Option.{Option, none, some}
use Prim.Native.Nat.{ℕ, ◌≤◌}
use lib.ListN.{length}
use Rattle.checking.specs.Checked.{CheckedIn}
use Rattle.checking.proofs.Accepted.{checked-in}
use Rattle.merge.specs.Demand.{passes}
use Rattle.places.specs.Places.{places_row}
use Rattle.check_row.specs.Answer.{refused_or, row_answer, check_row_answer, row_listed}
use Rattle.numbered_screen.specs.Numbered.{Numbered}
use Rattle.numbered_screen.proofs.Checking.{numbers-checked}
use Rattle.symbol_screens.specs.Rewriting.{lent}
use Rattle.symbol_screens.proofs.NumbersChecked.{NoText}
use Rattle.own_numbers.proofs.Own.{refusal_as_ever, own_or_refused}
use Rattle.symbol_screens.specs.Rows.{passes_with}
use Rattle.plain_rows.proofs.Rows.{passes-true}
use Rattle.plain_symbols.specs.Refusal.{refusal_number, plain_refusal_with}
use Rattle.plain_symbols.proofs.Refusals.{columns-few, PlainWith, not-refused_with, plain-refusal_none, numbers-refusal_none, refusal_has}
use Rattle.check_symbols.specs.Answer.{check_row_answer_with}

refused-or : (x : Option ℕ) (k a : ℕ) → k ≡ refusal_number x → (k ≡ 0 → ⊥) → k ≡ refused_or x a
refused-or none k a e n = absurd (n e)
refused-or (some j) k a e n = e

module _ (text t rs p : List ℕ) (used root : ℕ) (row : List ℕ) (nulls : ℕ) where
  abbrev Told : ℕ → Type 0
  Told r = (r ≡ check_row_answer_with text t rs p used root row nulls) × (row_listed r ≡ true)

  pub end_refused : (k : ℕ) → k ≡ refusal_number (plain_refusal_with text t rs p used root) → (k ≡ 0 → ⊥) → Told k
  unfolding check_row_answer_with
  end_refused k e n = (
    refused-or (plain_refusal_with text t rs p used root) k _ e n,
    refusal_has (λ j. row_listed j ≡ true) (refl, refl, refl, refl, refl, refl, refl) (refl, refl, refl) text t rs p used root k e n,
  )

  pub few-columns : 0 ≡ refusal_number (plain_refusal_with text t rs p used root) → length t ≤ 64
  few-columns z =
      columns-few (lent text) t rs p used root
      (checked-in (lent text) t rs p used root (not-refused_with text t rs p used root (sym z)).accepted)

  pub end-told : (table records : List ℕ) → Numbered t rs used table records
      → 0 ≡ refusal_number (plain_refusal_with text t rs p used root) → (r : ℕ)
      → r ≡ check_row_answer table records p used root row nulls → row_listed r ≡ true → Told r
  unfolding check_row_answer_with check_row_answer
  end-told table records are z r e l = (
    e
        ∙ ap (λ x. refused_or x (row_answer (length table) row nulls (passes records p used root (places_row row nulls))))
        (numbers-refusal_none text t rs p used root table records are
        (numbers-checked (lent text) t rs p used table records are root ok) q)
        ∙ ap (λ n. row_answer n row nulls (passes records p used root (places_row row nulls))) are.columns
        ∙ ap (row_answer (length t) row nulls)
        (sym (passes-true text t rs p used root ok q.plain table records are (places_row row nulls)))
        ∙ sym (ap (λ x. refused_or x (row_answer (length t) row nulls (passes_with text rs p used root (places_row row nulls))))
        (plain-refusal_none text t rs p used root q)),
    l,
  )
    where
      q : PlainWith text t rs p used root
      q = not-refused_with text t rs p used root (sym z)

      ok : CheckedIn (lent text) t rs p used root
      ok = checked-in (lent text) t rs p used root q.accepted

  pub end-as_ever : NoText t rs used → length text ≤ 8192 → (r : ℕ) → r ≡ check_row_answer t rs p used root row nulls
      → row_listed r ≡ true → Told r
  unfolding check_row_answer
  end-as_ever free h r e l =
      own_or_refused t rs used free text p root (Told r) (λ z are. end-told t rs are z r e l)
      (λ k g n. subst Told (refused-or (plain_refusal_with text t rs p used root) k answer g n
      ∙ ap (λ x. refused_or x answer) (refusal_as_ever t rs used free text p root h) ∙ sym e) (end_refused k g n))
    where
      answer : ℕ
      answer = row_answer (length t) row nulls (passes rs p used root (places_row row nulls))

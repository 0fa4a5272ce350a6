-- What the call of the builder ensures, of its answer a and the bytes that it left.
use mathlib.Core.Path.{◌≡◌, refl, sym, ◌∙◌, ap, subst}
use mathlib.Core.Bool.{true}
use mathlib.Core.List.{List}
use Prim.Native.Nat.{ℕ}
use lib.ListN.{length}
use Rattle.slowest.specs.Answers.{slowest_answer, table_written, records_written}
use Rattle.slowest.specs.Calls.{slowest_number, built_root, built_used, SlowestPromise}
use Rattle.slowest.specs.SlowestAnswer.{SlowestAnswer}
use Rattle.slowest.proofs.Called.{by_answer, call_kept}
use Rattle.screen.specs.Listed.{slowest_listed}

module _ (n : ℕ) (t rs : List ℕ) (a : SlowestAnswer) (is : slowest_answer n (length t) (length rs) ≡ a)
    (tout rout : List ℕ) (et : tout ≡ table_written a n t) (er : rout ≡ records_written a n rs) (old_root old_used : ℕ) where
  call_listed : slowest_listed (slowest_number a) ≡ true
  call_listed =
      subst (λ x. slowest_listed (slowest_number x) ≡ true) is
      (by_answer n t rs old_root old_used (λ x. slowest_listed (slowest_number x) ≡ true) refl refl (λ h k. refl))

  call_promise : SlowestPromise n (slowest_number a) t tout rs rout (built_root a old_root) (built_used a old_used)
  call_promise =
      subst (λ x. SlowestPromise n (slowest_number a) t x rs rout (built_root a old_root) (built_used a old_used)) (sym et)
      (subst (λ x. SlowestPromise n (slowest_number a) t (table_written a n t) rs x (built_root a old_root) (built_used a old_used))
      (sym er)
      (subst (λ x. SlowestPromise n (slowest_number x) t (table_written x n t) rs (records_written x n rs)
      (built_root x old_root) (built_used x old_used)) is (call_kept n t rs old_root old_used)))

  pub slowest-ensures :
      (slowest_number a ≡ slowest_number (slowest_answer n (length t) (length rs)))
      × ((slowest_listed (slowest_number a) ≡ true)
      × ((built_root a old_root ≡ built_root (slowest_answer n (length t) (length rs)) old_root)
      × ((built_used a old_used ≡ built_used (slowest_answer n (length t) (length rs)) old_used)
      × ((tout ≡ table_written (slowest_answer n (length t) (length rs)) n t)
      × ((rout ≡ records_written (slowest_answer n (length t) (length rs)) n rs)
      × SlowestPromise n (slowest_number a) t tout rs rout (built_root a old_root) (built_used a old_used))))))
  slowest-ensures = (
    ap slowest_number (sym is),
    (
      call_listed,
      (
        ap (λ x. built_root x old_root) (sym is),
        (
          ap (λ x. built_used x old_used) (sym is),
          (
            et ∙ ap (λ x. table_written x n t) (sym is),
            (er ∙ ap (λ x. records_written x n rs) (sym is), call_promise),
          ),
        ),
      ),
    ),
  )

-- The bytes, said of the answer that a match has told.
pub written-table : (n : ℕ) (t tout : List ℕ) (x a : SlowestAnswer) → x ≡ a → tout ≡ table_written x n t
    → tout ≡ table_written a n t
written-table n t tout x a e w = w ∙ ap (λ y. table_written y n t) e

pub written-records : (n : ℕ) (rs rout : List ℕ) (x a : SlowestAnswer) → x ≡ a → rout ≡ records_written x n rs
    → rout ≡ records_written a n rs
written-records n rs rout x a e w = w ∙ ap (λ y. records_written y n rs) e

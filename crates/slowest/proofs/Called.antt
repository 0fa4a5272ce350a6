-- What the builder's call promises, from its answer and the bytes that it writes.
use mathlib.Core.Path.{◌≡◌, refl, sym, ◌∙◌, ap, subst}
use mathlib.Core.Bool.{Bool, true, false, cond}
use mathlib.Core.List.{List, [], ◌∷◌, ◌++◌}
use Prim.Native.Nat.{ℕ, ◌+◌, ◌*◌, ◌≤◌, ◌<◌}
use native.Mathlib.Omega.{arith}
use lib.ListN.{length, take, drop, length-replicate}
use Rattle.records.proofs.Laws.{by-test, cond_yes, cond_no}
use Rattle.merge.specs.Write.{splice}
use Rattle.slowest.specs.Answers.{known_count, has_room, slowest_answer, table_written, records_written}
use Rattle.slowest.specs.Calls.{slowest_number, built_root, built_used, SlowestPromise}
use Rattle.slowest.specs.Promise.{TakesAllPasses}
use Rattle.slowest.specs.Screen.{slowest_table, slowest_bytes, slowest_used, slowest_root}
use Rattle.slowest.specs.SlowestAnswer.{SlowestAnswer}
use Rattle.slowest.specs.SlowestAnswer.{Refused, Built}
use Rattle.slowest.proofs.Promised.{slowest-takes_all_passes}
use Rattle.slowest.proofs.Records.{take-front, drop-front, bytes-length}
use Rattle.slowest.proofs.Writing.{count-known}

front-taken : (l vs : List ℕ) (n : ℕ) → length vs ≡ n → take n (splice l 0 vs) ≡ vs
unfolding splice
front-taken l vs n e =
    ap (λ k. take k (splice l 0 vs)) (sym e) ∙ take-front vs (drop (0 + length vs) l)

behind-kept : (l vs : List ℕ) (n : ℕ) → length vs ≡ n → drop n (splice l 0 vs) ≡ drop n l
unfolding splice
behind-kept l vs n e =
    let z : 0 + length vs ≡ n = omega (arith, e) in
    ap (λ k. drop k (splice l 0 vs)) (sym e) ∙ drop-front vs (drop (0 + length vs) l) ∙ ap (λ k. drop k l) z

module _ (n : ℕ) (t rs : List ℕ) (old_root old_used : ℕ) where
  -- What is promised with the answer a.
  abbrev pub Kept : SlowestAnswer → Type 0
  Kept a =
      SlowestPromise n (slowest_number a) t (table_written a n t) rs (records_written a n rs) (built_root a old_root) (built_used a old_used)

  refused-kept : (k : ℕ) → k < 256 → Kept (Refused k)
  unfolding table_written records_written
  refused-kept k l =
      record {
        slowest = λ e. absurd (omega (arith, e, l));
        table_kept = refl;
        records-kept = refl;
        refused = λ h. (refl, refl);
      }

  built_kept : 2 ≤ n → n ≤ 64 → Kept (Built (slowest_root n) (slowest_used n))
  unfolding table_written records_written splice
  built_kept few most =
      let a : length (slowest_table n) ≡ n = length-replicate n 1 in
      let b : length (slowest_bytes n) ≡ 16 * (3 * n) = bytes-length n (slowest_used n) in
      record {
        slowest = λ e.
            subst (λ l. TakesAllPasses n l (splice rs 0 (slowest_bytes n)) (slowest_used n) (slowest_root n))
            (sym (front-taken t (slowest_table n) n a))
            (slowest-takes_all_passes n few most (drop (0 + length (slowest_bytes n)) rs));
        table_kept = behind-kept t (slowest_table n) n a;
        records-kept = behind-kept rs (slowest_bytes n) (48 * n) (omega (arith, b));
        refused = λ h. absurd (omega (arith, h));
      }

  -- Whatever holds of the three answers holds of the answer.
  pub by_answer : (P : SlowestAnswer → Type 0) → P (Refused 19) → P (Refused 11)
      → (2 ≤ n → n ≤ 64 → P (Built (slowest_root n) (slowest_used n)))
      → P (slowest_answer n (length t) (length rs))
  unfolding slowest_answer
  by_answer P none small built =
      by-test (known_count n)
      (λ h. subst P (sym (cond_yes (known_count n) _ _ h))
      (by-test (has_room (length t) (length rs) n)
      (λ g. let c = count-known n h in subst P (sym (cond_yes (has_room (length t) (length rs) n) _ _ g)) (built c.0 c.1))
      (λ g. subst P (sym (cond_no (has_room (length t) (length rs) n) _ _ g)) small)))
      (λ h. subst P (sym (cond_no (known_count n) _ _ h)) none)

  pub call_kept : Kept (slowest_answer n (length t) (length rs))
  call_kept = by_answer Kept (refused-kept 19 (omega arith)) (refused-kept 11 (omega arith)) built_kept

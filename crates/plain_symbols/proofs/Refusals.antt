-- The refusal of a screen from that of its numbers, and what is known of a screen that is not refused.
use mathlib.Core.Path.{◌≡◌, refl, sym, ◌∙◌, ap, subst}
use mathlib.Core.Bool.{Bool, true, false, not, cond, ◌&&◌, ◌||◌, true≢false}
use mathlib.Core.List.{List}
use mathlib.Core.Option.{Option, none, some, none-ne-some, some-injective}
use Prim.Native.Nat.{ℕ, zero, suc, ◌*◌, ◌≤◌, ◌<◌}
use native.Mathlib.Omega.{arith}
use lib.Dec.{ltb, leb, eqb}
use lib.ListN.{length, get_or}
use borrow.Author.Tests.{leb-true, eqb-true}
use Rattle.records.specs.Bytes.{all}
use Rattle.records.proofs.Laws.{and_left, and_right}
use Rattle.checking.specs.Check.{check_answer, check_answer_in, table_ok_in, types_known_in}
use Rattle.checking.specs.Checked.{Checked, CheckedIn}
use Rattle.checking.specs.Columns.{bit, columns_word}
use Rattle.checking.specs.Tree.{tree_count}
use Rattle.checking.specs.Answer.{CheckAnswer}
use Rattle.checking.specs.Answer as check
use Rattle.checking.proofs.Accepted.{checked-accepted, checked-in}
use Rattle.checking.proofs.Answers.{refused-numbered-in}
use Rattle.truth.specs.AExpr.{AExpr}
use Rattle.truth.specs.FromBytes.{aexpr_at}
use Rattle.merge.specs.Minterms.{minterms}
use Rattle.merge.specs.Plain.{reads_column, is_number_column, reads_only_numbers, plain_conjuncts, plain_screen}
use Rattle.plain_lines.specs.Refusal.{checked_refusal, refusal_if, plain_refusal, refusal_in}
use Rattle.refusal.specs.declared.Refusal.{Refusal}
use Rattle.refusal.specs.Numbers.{number}
use Rattle.std.specs.Prelude.{Result, Ok, Err}
use Rattle.symbol_screens.specs.Rewriting.{lent}
use Rattle.numbered_screen.specs.Numbered.{number_type, Numbered}
use Rattle.numbered_screen.proofs.Reading.{numbers-read, trees_same}
use Rattle.plain_symbols.specs.Refusal.{refusal_number, plain_refusal_with}
use Rattle.plain_symbols.proofs.ColumnsRead.{columns-read}

-- ---- A column of numbers is one of the screen's numbers.
number-still : (ty : ℕ) → (eqb ty 1 || eqb ty 2) ≡ true → (eqb (number_type ty) 1 || eqb (number_type ty) 2) ≡ true
unfolding number_type
number-still ty h = go (eqb ty 4)
  where
    go : (b : Bool) → (eqb (cond b 1 ty) 1 || eqb (cond b 1 ty) 2) ≡ true
    go true = refl
    go false = h

each : (f g : ℕ → Bool) (n : ℕ) → all f n ≡ true → ((k : ℕ) → f k ≡ true → g k ≡ true) → all g n ≡ true
unfolding all
each f g zero h s = refl
each f g (suc n) h s =
    ap (λ b. b && g n) (each f g n (and_left (all f n) (f n) h) s) ∙ s n (and_right (all f n) (f n) h)

module _ (t rs : List ℕ) (used : ℕ) (table records : List ℕ) (are : Numbered t rs used table records) where
  pub numbers-only : (R : ℕ → AExpr ℕ) (root : ℕ) → reads_only_numbers t R root ≡ true → reads_only_numbers table R root ≡ true
  numbers-only R root h =
      subst (λ n. all (λ c. not (reads_column R root c) || is_number_column table c) n ≡ true) (sym are.columns)
      (each (λ c. not (reads_column R root c) || is_number_column t c) (λ c. not (reads_column R root c) || is_number_column table c)
      (length t) h (λ c. go (reads_column R root c) c))
    where
      go : (b : Bool) (c : ℕ) → (not b || is_number_column t c) ≡ true → (not b || is_number_column table c) ≡ true
      go true c e =
          ap (λ ty. eqb ty 1 || eqb ty 2) (are.types c) ∙ number-still (get_or t c 0) e
      go false c e = refl

  pub plain-numbers : (R : ℕ → AExpr ℕ) (root : ℕ) → plain_screen t R root ≡ true → plain_screen table R root ≡ true
  plain-numbers R root h =
      ap (λ b. b && plain_conjuncts R (minterms R root))
      (numbers-only R root (and_left (reads_only_numbers t R root) (plain_conjuncts R (minterms R root)) h))
      ∙ and_right (reads_only_numbers t R root) (plain_conjuncts R (minterms R root)) h

-- ---- 8, 9 and 17.
abbrev steps : Bool → Bool → Bool → Option ℕ
steps b c d = cond b (some 8) (cond c (some 9) (cond d none (some 17)))

number_of : (b c m n q : Bool) (k : ℕ) → (n ≡ true → m ≡ true) → some k ≡ steps b c (m && q)
    → k ≡ refusal_number (steps b c (n && q))
number_of true c m n q k i e = some-injective _ _ e
number_of false true m n q k i e = some-injective _ _ e
number_of false false true true true k i e = absurd (none-ne-some k (sym e))
number_of false false true true false k i e = some-injective _ _ e
number_of false false true false q k i e = go q e
  where
    go : (q : Bool) → some k ≡ steps false false q → k ≡ 17
    go true e = absurd (none-ne-some k (sym e))
    go false e = some-injective _ _ e
number_of false false false true q k i e = absurd (true≢false (sym (i refl)))
number_of false false false false q k i e = some-injective _ _ e

none_of : (b c m n q : Bool) → none ≡ steps b c (m && q) → refusal_number (steps b c (n && q)) ≡ cond n 0 17
none_of true c m n q e = absurd (none-ne-some 8 e)
none_of false true m n q e = absurd (none-ne-some 9 e)
none_of false false true true true e = refl
none_of false false true false true e = refl
none_of false false true n false e = absurd (none-ne-some 17 e)
none_of false false false n q e = absurd (none-ne-some 17 e)

module _ (t rs p : List ℕ) (used root : ℕ) (table records : List ℕ) (are : Numbered t rs used table records)
    (ok : Checked table records p used root) where
  abbrev R : ℕ → AExpr ℕ
  R n = aexpr_at rs p used n

  refusal_is : plain_refusal table records p used root ≡ steps (ltb 4096 (tree_count rs root))
      (ltb 128 (length (minterms (aexpr_at rs p used) root)))
      (reads_only_numbers table (aexpr_at rs p used) root && plain_conjuncts (aexpr_at rs p used) (minterms (aexpr_at rs p used) root))
  unfolding plain_refusal
  refusal_is =
      ap (λ a. refusal_if a (checked_refusal table records p used root)) (checked-accepted table records p used root ok)
      ∙ ap (λ k. steps (ltb 4096 k) (ltb 128 (length (minterms (aexpr_at records p used) root)))
      (plain_screen table (aexpr_at records p used) root)) (trees_same t rs used table records are root ok.root-used)
      ∙ ap (λ (S : ℕ → AExpr ℕ). steps (ltb 4096 (tree_count rs root)) (ltb 128 (length (minterms S root))) (plain_screen table S root))
      (numbers-read t rs used table records are p)

  pub refused-alike : (a : Result ℕ Refusal) → refusal_in a ≡ plain_refusal table records p used root → (r : Refusal) → a ≡ Err r
      → number r ≡ refusal_number (checked_refusal t rs p used root)
  refused-alike a e r h =
      number_of (ltb 4096 (tree_count rs root)) (ltb 128 (length (minterms (aexpr_at rs p used) root)))
      (reads_only_numbers table (aexpr_at rs p used) root) (reads_only_numbers t (aexpr_at rs p used) root)
      (plain_conjuncts (aexpr_at rs p used) (minterms (aexpr_at rs p used) root)) (number r)
      (numbers-only t rs used table records are (aexpr_at rs p used) root) (sym (ap refusal_in h) ∙ e ∙ refusal_is)

  pub plain-alike : length t ≤ 64 → (a : Result ℕ Refusal) → refusal_in a ≡ plain_refusal table records p used root
      → (n : ℕ) → a ≡ Ok n → (w : ℕ) → w ≡ columns_word records root
      → (b : Bool) → b ≡ all (λ c. not (bit w c) || is_number_column t c) (length t)
      → (b ≡ true → 0 ≡ refusal_number (checked_refusal t rs p used root))
      × (b ≡ false → 17 ≡ refusal_number (checked_refusal t rs p used root))
  plain-alike l a e n h w f b g = (λ q. sym (ap seventeen q) ∙ told, λ q. sym (ap seventeen q) ∙ told)
    where
      seventeen : Bool → ℕ
      seventeen x = cond x 0 17

      told : seventeen b ≡ refusal_number (checked_refusal t rs p used root)
      told =
          ap seventeen (g ∙ ap (λ x. all (λ c. not (bit x c) || is_number_column t c) (length t)) f
          ∙ columns-read table records p used root ok t l
          ∙ ap (λ (S : ℕ → AExpr ℕ). reads_only_numbers t S root) (numbers-read t rs used table records are p))
          ∙ sym (none_of (ltb 4096 (tree_count rs root)) (ltb 128 (length (minterms (aexpr_at rs p used) root)))
          (reads_only_numbers table (aexpr_at rs p used) root) (reads_only_numbers t (aexpr_at rs p used) root)
          (plain_conjuncts (aexpr_at rs p used) (minterms (aexpr_at rs p used) root)) (sym (ap refusal_in h) ∙ e ∙ refusal_is))

-- The table of a checked screen has at most 64 columns.
pub columns-few : (text : ℕ) (t rs p : List ℕ) (used root : ℕ) → CheckedIn text t rs p used root → length t ≤ 64
unfolding table_ok_in
columns-few text t rs p used root ok =
    leb-true (length t) 64 (and_left (leb (length t) 64) (types_known_in text t) ok.table)

-- ---- What a refusal says, and what none does.
pub refused-with : (text t rs p : List ℕ) (used root k : ℕ) → check_answer_in (lent text) t rs p used root ≡ check.Refused k
    → (k ≡ refusal_number (plain_refusal_with text t rs p used root)) × (k ≡ 0 → ⊥)
unfolding plain_refusal_with
refused-with text t rs p used root k e = (
  sym (ap (λ a. refusal_number (refusal_if a (checked_refusal t rs p used root))) e),
  λ z. let h = refused-numbered-in (lent text) t rs p used root k e in omega (arith, z, h.0),
)

pub accepted-with : (text t rs p : List ℕ) (used root k : ℕ) → check_answer_in (lent text) t rs p used root ≡ check.Accepted
    → k ≡ refusal_number (checked_refusal t rs p used root) → k ≡ refusal_number (plain_refusal_with text t rs p used root)
unfolding plain_refusal_with
accepted-with text t rs p used root k e h =
    h ∙ sym (ap (λ a. refusal_number (refusal_if a (checked_refusal t rs p used root))) e)

-- A screen that is not refused was accepted and is plain.
pub record PlainWith (text t rs p : List ℕ) (used root : ℕ) : Type 0 where
  pub accepted : check_answer_in (lent text) t rs p used root ≡ check.Accepted
  pub small : ltb 4096 (tree_count rs root) ≡ false
  pub few : ltb 128 (length (minterms (aexpr_at rs p used) root)) ≡ false
  pub plain : plain_screen t (aexpr_at rs p used) root ≡ true

pub not-refused_with : (text t rs p : List ℕ) (used root : ℕ) → refusal_number (plain_refusal_with text t rs p used root) ≡ 0
    → PlainWith text t rs p used root
unfolding plain_refusal_with
not-refused_with text t rs p used root = go (check_answer_in (lent text) t rs p used root) refl
  where
    last : (b c d : Bool) → refusal_number (steps b c d) ≡ 0 → (b ≡ false) × (c ≡ false) × (d ≡ true)
    last true c d e = absurd (omega (arith, e))
    last false true d e = absurd (omega (arith, e))
    last false false true e = (refl, refl, refl)
    last false false false e = absurd (omega (arith, e))

    go : (a : CheckAnswer) → check_answer_in (lent text) t rs p used root ≡ a
        → refusal_number (refusal_if a (checked_refusal t rs p used root)) ≡ 0 → PlainWith text t rs p used root
    go (check.Refused k) e h = absurd ((refused-with text t rs p used root k e).1 h)
    go check.Accepted e h =
        let s = last (ltb 4096 (tree_count rs root)) (ltb 128 (length (minterms (aexpr_at rs p used) root)))
        (plain_screen t (aexpr_at rs p used) root) h in
        record { accepted = e; small = s.0; few = s.1; plain = s.2 }

pub plain-refusal_none : (text t rs p : List ℕ) (used root : ℕ) → PlainWith text t rs p used root
    → plain_refusal_with text t rs p used root ≡ none
unfolding plain_refusal_with
plain-refusal_none text t rs p used root q =
    ap (λ a. refusal_if a (checked_refusal t rs p used root)) q.accepted
    ∙ ap (λ x. steps x (ltb 128 (length (minterms (aexpr_at rs p used) root))) (plain_screen t (aexpr_at rs p used) root)) q.small
    ∙ ap (λ x. steps false x (plain_screen t (aexpr_at rs p used) root)) q.few
    ∙ ap (λ x. steps false false x) q.plain

-- The numbers of a plain screen are not refused.
pub numbers-refusal_none : (text t rs p : List ℕ) (used root : ℕ) (table records : List ℕ)
    → Numbered t rs used table records → Checked table records p used root → PlainWith text t rs p used root
    → plain_refusal table records p used root ≡ none
numbers-refusal_none text t rs p used root table records are ok q =
    refusal_is t rs p used root table records are ok
    ∙ ap (λ x. steps x (ltb 128 (length (minterms (aexpr_at rs p used) root))) (plain_screen table (aexpr_at rs p used) root)) q.small
    ∙ ap (λ x. steps false x (plain_screen table (aexpr_at rs p used) root)) q.few
    ∙ ap (λ x. steps false false x) (plain-numbers t rs used table records are (aexpr_at rs p used) root q.plain)

-- What has 1 to 9 and 17 has every refusal.
pub refusal_has : (P : ℕ → Type 0) → P 1 × P 2 × P 3 × P 4 × P 5 × P 6 × P 7 → P 8 × P 9 × P 17 → (text t rs p : List ℕ) (used root k : ℕ)
    → k ≡ refusal_number (plain_refusal_with text t rs p used root) → (k ≡ 0 → ⊥) → P k
unfolding plain_refusal_with
refusal_has P low high text t rs p used root k e n =
    subst P (sym e) (go (check_answer_in (lent text) t rs p used root) refl
    (λ z. n (e ∙ z)))
  where
    small : (j : ℕ) → 1 ≤ j → j ≤ 7 → P j
    small zero a b = absurd (omega (arith, a))
    small (suc zero) a b = low.0
    small (suc (suc zero)) a b = low.1
    small (suc (suc (suc zero))) a b = low.2
    small (suc (suc (suc (suc zero)))) a b = low.3
    small (suc (suc (suc (suc (suc zero))))) a b = low.4
    small (suc (suc (suc (suc (suc (suc zero)))))) a b = low.5
    small (suc (suc (suc (suc (suc (suc (suc zero))))))) a b = low.6
    small (suc (suc (suc (suc (suc (suc (suc (suc j)))))))) a b = absurd (omega (arith, b))

    behind : (b c d : Bool) → (refusal_number (steps b c d) ≡ 0 → ⊥) → P (refusal_number (steps b c d))
    behind true c d m = high.0
    behind false true d m = high.1
    behind false false true m = absurd (m refl)
    behind false false false m = high.2

    go : (a : CheckAnswer) → check_answer_in (lent text) t rs p used root ≡ a
        → (refusal_number (refusal_if a (checked_refusal t rs p used root)) ≡ 0 → ⊥)
        → P (refusal_number (refusal_if a (checked_refusal t rs p used root)))
    go (check.Refused j) q m = let h = refused-numbered-in (lent text) t rs p used root j q in small j h.0 h.1
    go check.Accepted q m =
        behind (ltb 4096 (tree_count rs root)) (ltb 128 (length (minterms (aexpr_at rs p used) root)))
        (plain_screen t (aexpr_at rs p used) root) m

-- One literal more has its wide rank. Assumes nothing.
use mathlib.Core.Path.{◌≡◌, refl, sym, ◌∙◌, ap, subst}
use mathlib.Core.Bool.{Bool, true, false, cond, true≢false}
use mathlib.Core.List.{List, ◌++◌}
use mathlib.Core.Logic.{◌⊎◌, inl, inr, ⊎_elim}
use Prim.Native.Nat.{ℕ, ◌+◌, ◌-◌, ◌*◌, ◌/◌, ◌%◌, ◌≤◌, ◌<◌}
use native.Mathlib.Omega.{arith}
use lib.Dec.{eqb}
use lib.ListN.{length, get_or}
use borrow.Author.Tests.{eqb-true, eqb-false}
use Rattle.records.specs.Bytes.{word, value_at}
use Rattle.records.specs.Record.{node, fields_at}
use Rattle.records.proofs.Laws.{by-test}
use Rattle.sorted.proofs.Parts.{last}
use Rattle.truth.proofs.Keys.{lt-or_le}
use Rattle.merge.specs.Write.{splice, word_bytes}
use Rattle.merge.proofs.Splices.{splice-before, splice-after}
use Rattle.ranked_screen.specs.Screen.{write_value}
use Rattle.ranked_screen.proofs.Pools.{value-new}
use Rattle.symbol_reduction.specs.Reduction.{Copied}
use Rattle.symbol_reduction.proofs.Constants.{fields_copied}
use Rattle.ranked_chain.specs.RankedChain.{is_text_literal, RankedLiterals}

-- ---- The words B and C of record i are written, as value 2 i + 1 of the bytes.
module _ (l : List ℕ) (i x : ℕ) (room : 16 * i + 16 ≤ length l) where
  abbrev bytes : List ℕ
  bytes = word_bytes (x % 4294967296) ++ word_bytes (x / 4294967296)

  abbrev out : List ℕ
  out = write_value l (2 * i + 1) x

  byte_before : (j : ℕ) → j < 16 * i + 8 → get_or out j 0 ≡ get_or l j 0
  unfolding write_value
  byte_before j h = splice-before l (8 * (2 * i + 1)) bytes j (omega (arith, room)) (omega (arith, h))

  byte_after : (j : ℕ) → 16 * i + 16 ≤ j → get_or out j 0 ≡ get_or l j 0
  unfolding write_value
  byte_after j h =
      let e : 8 * (2 * i + 1) + (8 + (j - (16 * i + 16))) ≡ j = omega (arith, h) in
      let f : 8 * (2 * i + 1) + 8 + (j - (16 * i + 16)) ≡ j = omega (arith, h) in
      ap (λ (m : ℕ). get_or (splice l (8 * (2 * i + 1)) bytes) m 0) (sym e)
      ∙ splice-after l (8 * (2 * i + 1)) bytes (j - (16 * i + 16)) (omega (arith, room)) ∙ ap (λ (m : ℕ). get_or l m 0) f

  byte_other : (n j : ℕ) → (n ≡ i → ⊥) → 16 * n ≤ j → j < 16 * n + 16 → get_or out j 0 ≡ get_or l j 0
  byte_other n j d h k =
      ⊎_elim (λ (g : n < i). byte_before j (omega (arith, g, k)))
      (λ (g : i ≤ n). byte_after j (omega (arith, g, h, d))) (lt-or_le n i)

  word-other : (n j : ℕ) → (n ≡ i → ⊥) → 16 * n ≤ j → j + 3 < 16 * n + 16 → word out j ≡ word l j
  unfolding word
  word-other n j d h k =
      rw (
        byte_other n j d h (omega (arith, k)),
        byte_other n (j + 1) d (omega (arith, h)) (omega (arith, k)),
        byte_other n (j + 2) d (omega (arith, h)) (omega (arith, k)),
        byte_other n (j + 3) d (omega (arith, h)) (omega (arith, k)),
      )

  fields-other : (n : ℕ) → (n ≡ i → ⊥) → fields_at out (node n) ≡ fields_at l (node n)
  unfolding fields_at
  fields-other n d =
      rw (
        byte_other n (16 * n) d (omega arith) (omega arith),
        byte_other n (16 * n + 1) d (omega arith) (omega arith),
        byte_other n (16 * n + 2) d (omega arith) (omega arith),
        byte_other n (16 * n + 3) d (omega arith) (omega arith),
        word-other n (16 * n + 4) d (omega arith) (omega arith),
        word-other n (16 * n + 8) d (omega arith) (omega arith),
        word-other n (16 * n + 12) d (omega arith) (omega arith),
      )

  kind-kept : (fields_at out (node i)).kind ≡ (fields_at l (node i)).kind
  unfolding fields_at
  kind-kept = byte_before (16 * i) (omega arith)

  value_there : x < 18446744073709551616 → (fields_at out (node i)).b + 4294967296 * (fields_at out (node i)).c ≡ x
  unfolding fields_at value_at
  value_there h =
      let e : 16 * i + 8 ≡ 8 * (2 * i + 1) = omega arith in
      let f : 16 * i + 12 ≡ 8 * (2 * i + 1) + 4 = omega arith in
      ap (λ (m : ℕ). word out m + 4294967296 * word out (16 * i + 12)) e
      ∙ ap (λ (m : ℕ). word out (8 * (2 * i + 1)) + 4294967296 * word out m) f
      ∙ value-new l (2 * i + 1) x (omega (arith, room)) h

-- ---- One record more.
pub literals-none : (rs ranks : List ℕ) (used : ℕ) (out : List ℕ) → Copied rs out (16 * used) → RankedLiterals rs ranks used 0 out
literals-none rs ranks used out c =
    record {
      kept = λ i h e. fields_copied rs out used c i h;
      kind = λ i h. ap (λ f. f.kind) (fields_copied rs out used c i h);
      ranked = λ i h. absurd (omega (arith, h));
    }

module _ (rs ranks : List ℕ) (used n : ℕ) (old out : List ℕ) (rank : ℕ) (room : 16 * n + 16 ≤ length old) (low : rank < 18446744073709551616)
    (er : rank ≡ get_or ranks n 0)
    (eo : out ≡ cond (is_text_literal (fields_at rs (node n))) (write_value old (2 * n + 1) rank) old)
    (s : RankedLiterals rs ranks used n old) where
  same : is_text_literal (fields_at rs (node n)) ≡ false → out ≡ old
  same e = eo ∙ ap (λ b. cond b (write_value old (2 * n + 1) rank) old) e

  written : is_text_literal (fields_at rs (node n)) ≡ true → out ≡ write_value old (2 * n + 1) rank
  written e = eo ∙ ap (λ b. cond b (write_value old (2 * n + 1) rank) old) e

  skipped : is_text_literal (fields_at rs (node n)) ≡ false → RankedLiterals rs ranks used (n + 1) out
  skipped e =
      subst (RankedLiterals rs ranks used (n + 1)) (sym (same e))
      (record {
        kept = s.kept;
        kind = s.kind;
        ranked = λ i l t. last i n l (λ (g : i < n). s.ranked i g t)
            (λ (g : i ≡ n). absurd (true≢false (sym t ∙ ap (λ j. is_text_literal (fields_at rs (node j))) g ∙ e)));
      })

  other : is_text_literal (fields_at rs (node n)) ≡ true → (i : ℕ) → (i ≡ n → ⊥) → fields_at out (node i) ≡ fields_at old (node i)
  other e i d = ap (λ l. fields_at l (node i)) (written e) ∙ fields-other old n rank room i d

  ranked : is_text_literal (fields_at rs (node n)) ≡ true → RankedLiterals rs ranks used (n + 1) out
  ranked e =
      record {
        kept = λ i h t.
            other e i (λ q. true≢false (sym e ∙ ap (λ j. is_text_literal (fields_at rs (node j))) (sym q) ∙ t)) ∙ s.kept i h t;
        kind = λ i h. by-test (eqb i n)
            (λ q. subst (λ j. j < used → (fields_at out (node j)).kind ≡ (fields_at rs (node j)).kind) (sym (eqb-true i n q)) here h)
            (λ q. ap (λ f. f.kind) (other e i (eqb-false i n q)) ∙ s.kind i h);
        ranked = λ i l t. last i n l
            (λ (g : i < n). ap (λ f. f.b + 4294967296 * f.c) (other e i (λ q. omega (arith, q, g))) ∙ s.ranked i g t)
            (λ (g : i ≡ n). subst (λ j. (fields_at out (node j)).b + 4294967296 * (fields_at out (node j)).c ≡ get_or ranks j 0)
            (sym g) (ap (λ l. (fields_at l (node n)).b + 4294967296 * (fields_at l (node n)).c) (written e)
            ∙ value_there old n rank room low ∙ er));
      }
    where
      here : n < used → (fields_at out (node n)).kind ≡ (fields_at rs (node n)).kind
      here h = ap (λ l. (fields_at l (node n)).kind) (written e) ∙ kind-kept old n rank room ∙ s.kind n h

  pub literals-more : RankedLiterals rs ranks used (n + 1) out
  literals-more = by-test (is_text_literal (fields_at rs (node n))) ranked skipped

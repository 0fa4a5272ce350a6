-- A record written behind the used ones is that record put there; the others stay what they were.
use mathlib.Core.Path.{◌≡◌, refl, sym, ◌∙◌, ap, subst}
use mathlib.Core.Bool.{Bool, true, false, cond, true≢false}
use mathlib.Core.List.{List, [], ◌∷◌, ◌++◌}
use mathlib.Core.Option.{Option}
use Prim.Native.Nat.{ℕ, suc, ◌+◌, ◌*◌, ◌≤◌, ◌<◌}
use native.Mathlib.Omega.{arith}
use lib.Dec.{eqb, ltb}
use lib.ListN.{length, get_or}
use borrow.Author.Tests.{ltb-true, lt-ltb, le-ltb, ltb-false}
use Rattle.records.specs.Bytes.{word}
use Rattle.records.specs.Record.{node, fields_at, decode, record_at, encode}
use Rattle.records.specs.declared.record.Fields.{Fields}
use Rattle.records.specs.declared.record.Record.{Record}
use Rattle.records.proofs.RoundTrips.{decode-encode}
use Rattle.truth.specs.AExpr.{AExpr, Missing}
use Rattle.truth.specs.FromBytes.{aexpr_at}
use Rattle.merge.specs.Write.{splice, field_bytes, write_record}
use Rattle.merge.proofs.Passes.{eqb-path, eqb-self}
use Rattle.merge.proofs.Rebuilding.{put_record}
use Rattle.merge.proofs.Splices.{splice-before, splice-in, length-splice, word_back}

abbrev pub Word : ℕ → Type 0
Word x = x < 4294967296

-- The three numbers of a record fit four bytes each.
abbrev pub Words : Fields → Type 0
Words f = Word f.a × Word f.b × Word f.c

module _ (rs : List ℕ) (u : ℕ) (f : Fields) (room : 16 * u + 16 ≤ length rs) where
  abbrev out : List ℕ
  out = splice rs (16 * u) (field_bytes f)

  byte_in : (i : ℕ) → i < 16 → get_or out (16 * u + i) 0 ≡ get_or (field_bytes f) i 0
  byte_in i h = splice-in rs (16 * u) (field_bytes f) i (omega arith) h

  byte_first : get_or out (16 * u) 0 ≡ f.kind
  byte_first = ap (λ (m : ℕ). get_or out m 0) {x = 16 * u} {y = 16 * u + 0} (omega arith) ∙ byte_in 0 (omega arith)

  byte_at : (j i : ℕ) → j ≡ 16 * u + i → i < 16 → get_or out j 0 ≡ get_or (field_bytes f) i 0
  byte_at j i e h = ap (λ (m : ℕ). get_or out m 0) e ∙ byte_in i h

  word-in-4 : Word f.a → word out (16 * u + 4) ≡ f.a
  unfolding word
  word-in-4 h =
      rw (
        byte_in 4 (omega arith),
        byte_at (16 * u + 4 + 1) 5 (omega arith) (omega arith),
        byte_at (16 * u + 4 + 2) 6 (omega arith) (omega arith),
        byte_at (16 * u + 4 + 3) 7 (omega arith)
            (omega arith),
      )
      (word_back f.a h)

  word-in-8 : Word f.b → word out (16 * u + 8) ≡ f.b
  unfolding word
  word-in-8 h =
      rw (
        byte_in 8 (omega arith),
        byte_at (16 * u + 8 + 1) 9 (omega arith) (omega arith),
        byte_at (16 * u + 8 + 2) 10 (omega arith) (omega arith),
        byte_at (16 * u + 8 + 3) 11 (omega arith)
            (omega arith),
      )
      (word_back f.b h)

  word-in-12 : Word f.c → word out (16 * u + 12) ≡ f.c
  unfolding word
  word-in-12 h =
      rw (
        byte_in 12 (omega arith),
        byte_at (16 * u + 12 + 1) 13 (omega arith) (omega arith),
        byte_at (16 * u + 12 + 2) 14 (omega arith) (omega arith),
        byte_at (16 * u + 12 + 3) 15 (omega arith)
            (omega arith),
      )
      (word_back f.c h)

  pub fields-new : Words f → fields_at out (node u) ≡ f
  unfolding fields_at
  fields-new h =
      rw (
        byte_first,
        byte_in 1 (omega arith),
        byte_in 2 (omega arith),
        byte_in 3 (omega arith),
        word-in-4 h.0,
        word-in-8 h.1,
        word-in-12 h.2,
      )

  byte_old : (j : ℕ) → j < 16 * u → get_or out j 0 ≡ get_or rs j 0
  byte_old j h = splice-before rs (16 * u) (field_bytes f) j (omega arith) h

  word-old : (j : ℕ) → j + 3 < 16 * u → word out j ≡ word rs j
  unfolding word
  word-old j h =
      rw (
        byte_old j (omega arith),
        byte_old (j + 1) (omega arith),
        byte_old (j + 2) (omega arith),
        byte_old (j + 3) (omega arith),
      )

  pub fields-old : (n : ℕ) → n < u → fields_at out (node n) ≡ fields_at rs (node n)
  unfolding fields_at
  fields-old n h =
      rw (
        byte_old (16 * n) (omega arith),
        byte_old (16 * n + 1) (omega arith),
        byte_old (16 * n + 2) (omega arith),
        byte_old (16 * n + 3) (omega arith),
        word-old (16 * n + 4) (omega arith),
        word-old (16 * n + 8) (omega arith),
        word-old (16 * n + 12) (omega arith),
      )

  -- The used records and the one written, each as D reads it, are the records with it put behind them.
  pub read_put :
      {Val : Type 0} (D : Record → AExpr Val) → Words f → (n : ℕ) →
      cond (ltb n (suc u)) (D (record_at out (node n))) Missing
      ≡ put_record (λ m. cond (ltb m u) (D (record_at rs (node m))) Missing) u (D (decode f)) n
  unfolding record_at
  read_put {Val} D h n = go (eqb n u) refl
    where
      new : AExpr Val
      new = cond (ltb n (suc u)) (D (decode (fields_at out (node n)))) Missing

      old : AExpr Val
      old = cond (ltb n u) (D (decode (fields_at rs (node n)))) Missing

      below : n < u → new ≡ old
      below k =
          rw (lt-ltb n (suc u) (omega arith), lt-ltb n u k) (ap (λ x. D (decode x)) (fields-old n k))

      beyond : u < n → new ≡ old
      beyond k = rw (le-ltb n (suc u) (omega arith), le-ltb n u (omega arith))

      part : (b : Bool) → ltb n u ≡ b → (n ≡ u → ⊥) → new ≡ old
      part true e d = below (ltb-true n u e)
      part false e d = let k : u ≤ n = ltb-false n u e in beyond (omega (arith, d))

      go : (b : Bool) → eqb n u ≡ b → new ≡ cond b (D (decode f)) old
      go true e =
          let q : n ≡ u = eqb-path n u e in
          rw (lt-ltb n (suc u) (omega arith))
          (ap (λ m. D (decode (fields_at out (node m)))) q ∙ ap (λ x. D (decode x)) (fields-new h))
      go false e = part (ltb n u) refl (λ q. true≢false (sym (subst (λ m. eqb n m ≡ true) q (eqb-self n)) ∙ e))

-- ---- The bytes hold the expressions R, u of them, where D is what a record says.
abbrev pub HoldsBy : {Val : Type 0} → (Record → AExpr Val) → List ℕ → ℕ → (ℕ → AExpr Val) → Type 0
HoldsBy D rs u R = (n : ℕ) → cond (ltb n u) (D (record_at rs (node n))) Missing ≡ R n

-- The same where a record says its 64 bits.
abbrev pub Holds : List ℕ → List ℕ → ℕ → (ℕ → AExpr ℕ) → Type 0
Holds rs p u R = (n : ℕ) → aexpr_at rs p u n ≡ R n

pub length-write : (rs : List ℕ) (u : ℕ) (r : Record) → 16 * u + 16 ≤ length rs → length (write_record rs u r) ≡
    length rs
length-write rs u r h = length-splice rs (16 * u) (field_bytes (encode r)) h

pub holds-put :
    {Val : Type 0} (D : Record → AExpr Val) (rs : List ℕ) (u : ℕ) (r : Record) (R : ℕ → AExpr Val) (x : AExpr Val) →
    16 * u + 16 ≤ length rs → Words (encode r) → D r ≡ x → HoldsBy D rs u R →
    HoldsBy D (write_record rs u r) (suc u) (put_record R u x)
holds-put {Val} D rs u r R x room w e h n =
    read_put rs u (encode r) room D w n ∙ ap (λ q. cond (eqb n u) q old) (ap D (decode-encode r) ∙ e) ∙
    ap (λ q. cond (eqb n u) x q) (h n)
  where
    old : AExpr Val
    old = cond (ltb n u) (D (record_at rs (node n))) Missing

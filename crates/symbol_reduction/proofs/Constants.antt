-- Writing a constant into a record: it is read back, and the other records stay what they were.
use mathlib.Core.Path.{◌≡◌, refl, sym, ◌∙◌, ap, subst}
use mathlib.Core.Bool.{Bool, true, false, cond, true≢false}
use mathlib.Core.List.{List}
use mathlib.Core.Logic.{◌⊎◌, inl, inr, ⊎_elim}
use Prim.Native.Nat.{ℕ, zero, suc, ◌+◌, ◌*◌, ◌≤◌, ◌<◌}
use native.Mathlib.Omega.{arith}
use lib.Dec.{eqb}
use lib.ListN.{length, get_or, set, length-set}
use borrow.Author.Tests.{eqb-true, eqb-false}
use lib.Seq.{get_or-set_same, get_or-set_other}
use Rattle.records.specs.Bytes.{word}
use Rattle.records.specs.Record.{node, fields_at, decode, record_at}
use Rattle.records.proofs.Laws.{by-test}
use Rattle.three_valued.specs.declared.logic.Truth.{Truth}
use Rattle.three_valued.specs.declared.logic.Truth.TheVariants.{False, Unknown, True}
use Rattle.truth.specs.FromBytes.{to_aexpr, aexpr_of}
use Rattle.truth.proofs.Keys.{lt-or_le}
use Rattle.symbol_truths.specs.SymbolTruths.{symbol_truth}
use Rattle.symbol_reduction.specs.Reduction.{takes_symbols, constant_of, constant_kind, constant_value, with_value, Copied, Reduced}

module _ (l : List ℕ) (at k v : ℕ) (room : at + 16 ≤ length l) where
  abbrev l0 : List ℕ
  l0 = set l at k

  abbrev l1 : List ℕ
  l1 = set l0 (at + 8) v

  abbrev l2 : List ℕ
  l2 = set l1 (at + 9) 0

  abbrev l3 : List ℕ
  l3 = set l2 (at + 10) 0

  abbrev l4 : List ℕ
  l4 = set l3 (at + 11) 0

  abbrev l5 : List ℕ
  l5 = set l4 (at + 12) 0

  abbrev l6 : List ℕ
  l6 = set l5 (at + 13) 0

  abbrev l7 : List ℕ
  l7 = set l6 (at + 14) 0

  abbrev l8 : List ℕ
  l8 = set l7 (at + 15) 0

  longer : (m : List ℕ) (i x : ℕ) → at + 16 ≤ length m → at + 16 ≤ length (set m i x)
  longer m i x h = let e : length (set m i x) ≡ length m = length-set m i x in omega (arith, h, e)

  room0 : at + 16 ≤ length l0
  room0 = longer l at k room

  room1 : at + 16 ≤ length l1
  room1 = longer l0 (at + 8) v room0

  room2 : at + 16 ≤ length l2
  room2 = longer l1 (at + 9) 0 room1

  room3 : at + 16 ≤ length l3
  room3 = longer l2 (at + 10) 0 room2

  room4 : at + 16 ≤ length l4
  room4 = longer l3 (at + 11) 0 room3

  room5 : at + 16 ≤ length l5
  room5 = longer l4 (at + 12) 0 room4

  room6 : at + 16 ≤ length l6
  room6 = longer l5 (at + 13) 0 room5

  room7 : at + 16 ≤ length l7
  room7 = longer l6 (at + 14) 0 room6

  room8 : at + 16 ≤ length l8
  room8 = longer l7 (at + 15) 0 room7

  other : (m : List ℕ) (i x j : ℕ) → (j ≡ i → ⊥) → get_or (set m i x) j 0 ≡ get_or m j 0
  other m i x j d = get_or-set_other m i j x 0 d

  byte0 : get_or (with_value l at k v) at 0 ≡ k
  byte0 =
      other l7 (at + 15) 0 at (λ e. omega (arith, e))
      ∙ other l6 (at + 14) 0 at (λ e. omega (arith, e))
      ∙ other l5 (at + 13) 0 at (λ e. omega (arith, e))
      ∙ other l4 (at + 12) 0 at (λ e. omega (arith, e))
      ∙ other l3 (at + 11) 0 at (λ e. omega (arith, e))
      ∙ other l2 (at + 10) 0 at (λ e. omega (arith, e))
      ∙ other l1 (at + 9) 0 at (λ e. omega (arith, e))
      ∙ other l0 (at + 8) v at (λ e. omega (arith, e))
      ∙ get_or-set_same l at k 0 (omega (arith, room))

  byte8 : get_or (with_value l at k v) (at + 8) 0 ≡ v
  byte8 =
      other l7 (at + 15) 0 (at + 8) (λ e. omega (arith, e))
      ∙ other l6 (at + 14) 0 (at + 8) (λ e. omega (arith, e))
      ∙ other l5 (at + 13) 0 (at + 8) (λ e. omega (arith, e))
      ∙ other l4 (at + 12) 0 (at + 8) (λ e. omega (arith, e))
      ∙ other l3 (at + 11) 0 (at + 8) (λ e. omega (arith, e))
      ∙ other l2 (at + 10) 0 (at + 8) (λ e. omega (arith, e))
      ∙ other l1 (at + 9) 0 (at + 8) (λ e. omega (arith, e))
      ∙ get_or-set_same l0 (at + 8) v 0 (omega (arith, room0))

  byte9 : get_or (with_value l at k v) (at + 9) 0 ≡ 0
  byte9 =
      other l7 (at + 15) 0 (at + 9) (λ e. omega (arith, e))
      ∙ other l6 (at + 14) 0 (at + 9) (λ e. omega (arith, e))
      ∙ other l5 (at + 13) 0 (at + 9) (λ e. omega (arith, e))
      ∙ other l4 (at + 12) 0 (at + 9) (λ e. omega (arith, e))
      ∙ other l3 (at + 11) 0 (at + 9) (λ e. omega (arith, e))
      ∙ other l2 (at + 10) 0 (at + 9) (λ e. omega (arith, e))
      ∙ get_or-set_same l1 (at + 9) 0 0 (omega (arith, room1))

  byte10 : get_or (with_value l at k v) (at + 10) 0 ≡ 0
  byte10 =
      other l7 (at + 15) 0 (at + 10) (λ e. omega (arith, e))
      ∙ other l6 (at + 14) 0 (at + 10) (λ e. omega (arith, e))
      ∙ other l5 (at + 13) 0 (at + 10) (λ e. omega (arith, e))
      ∙ other l4 (at + 12) 0 (at + 10) (λ e. omega (arith, e))
      ∙ other l3 (at + 11) 0 (at + 10) (λ e. omega (arith, e))
      ∙ get_or-set_same l2 (at + 10) 0 0 (omega (arith, room2))

  byte11 : get_or (with_value l at k v) (at + 11) 0 ≡ 0
  byte11 =
      other l7 (at + 15) 0 (at + 11) (λ e. omega (arith, e))
      ∙ other l6 (at + 14) 0 (at + 11) (λ e. omega (arith, e))
      ∙ other l5 (at + 13) 0 (at + 11) (λ e. omega (arith, e))
      ∙ other l4 (at + 12) 0 (at + 11) (λ e. omega (arith, e))
      ∙ get_or-set_same l3 (at + 11) 0 0 (omega (arith, room3))

  byte12 : get_or (with_value l at k v) (at + 12) 0 ≡ 0
  byte12 =
      other l7 (at + 15) 0 (at + 12) (λ e. omega (arith, e))
      ∙ other l6 (at + 14) 0 (at + 12) (λ e. omega (arith, e))
      ∙ other l5 (at + 13) 0 (at + 12) (λ e. omega (arith, e))
      ∙ get_or-set_same l4 (at + 12) 0 0 (omega (arith, room4))

  byte13 : get_or (with_value l at k v) (at + 13) 0 ≡ 0
  byte13 =
      other l7 (at + 15) 0 (at + 13) (λ e. omega (arith, e))
      ∙ other l6 (at + 14) 0 (at + 13) (λ e. omega (arith, e))
      ∙ get_or-set_same l5 (at + 13) 0 0 (omega (arith, room5))

  byte14 : get_or (with_value l at k v) (at + 14) 0 ≡ 0
  byte14 =
      other l7 (at + 15) 0 (at + 14) (λ e. omega (arith, e))
      ∙ get_or-set_same l6 (at + 14) 0 0 (omega (arith, room6))

  byte15 : get_or (with_value l at k v) (at + 15) 0 ≡ 0
  byte15 =
      get_or-set_same l7 (at + 15) 0 0 (omega (arith, room7))

  out : (j : ℕ) → (j < at) ⊎ (at + 16 ≤ j) → (at ≤ j) × (j < at + 16) → ⊥
  out j (inl h) b = omega (arith, h, b)
  out j (inr h) b = omega (arith, h, b)

  byte_old : (j : ℕ) → (j < at) ⊎ (at + 16 ≤ j) → get_or (with_value l at k v) j 0 ≡ get_or l j 0
  byte_old j h =
      other l7 (at + 15) 0 j (λ e. out j h (omega (arith, e)))
      ∙ other l6 (at + 14) 0 j (λ e. out j h (omega (arith, e)))
      ∙ other l5 (at + 13) 0 j (λ e. out j h (omega (arith, e)))
      ∙ other l4 (at + 12) 0 j (λ e. out j h (omega (arith, e)))
      ∙ other l3 (at + 11) 0 j (λ e. out j h (omega (arith, e)))
      ∙ other l2 (at + 10) 0 j (λ e. out j h (omega (arith, e)))
      ∙ other l1 (at + 9) 0 j (λ e. out j h (omega (arith, e)))
      ∙ other l0 (at + 8) v j (λ e. out j h (omega (arith, e)))
      ∙ other l at k j (λ e. out j h (omega (arith, e)))

  pub value-long : length (with_value l at k v) ≡ length l
  value-long =
      length-set l7 (at + 15) 0
      ∙ length-set l6 (at + 14) 0
      ∙ length-set l5 (at + 13) 0
      ∙ length-set l4 (at + 12) 0
      ∙ length-set l3 (at + 11) 0
      ∙ length-set l2 (at + 10) 0
      ∙ length-set l1 (at + 9) 0
      ∙ length-set l0 (at + 8) v
      ∙ length-set l at k

  read_at : (j o x : ℕ) → j ≡ at + o → get_or (with_value l at k v) (at + o) 0 ≡ x → get_or (with_value l at k v) j 0 ≡ x
  read_at j o x e h = ap (λ (m : ℕ). get_or (with_value l at k v) m 0) e ∙ h

  word-8 : word (with_value l at k v) (at + 8) ≡ v
  unfolding word
  word-8 =
      rw (
        byte8,
        read_at (at + 8 + 1) 9 0 (omega arith) byte9,
        read_at (at + 8 + 2) 10 0 (omega arith) byte10,
        read_at (at + 8 + 3) 11 0 (omega arith) byte11,
      )
      (zeros v)
    where
      zeros : (x : ℕ) → x + 256 * 0 + 65536 * 0 + 16777216 * 0 ≡ x
      zeros x = omega arith

  word-12 : word (with_value l at k v) (at + 12) ≡ 0
  unfolding word
  word-12 =
      rw (
        byte12,
        read_at (at + 12 + 1) 13 0 (omega arith) byte13,
        read_at (at + 12 + 2) 14 0 (omega arith) byte14,
        read_at (at + 12 + 3) 15 0 (omega arith) byte15,
      )

module _ (l : List ℕ) (n k v : ℕ) (room : 16 * n + 16 ≤ length l) where
  kind-new : (fields_at (with_value l (16 * n) k v) (node n)).kind ≡ k
  unfolding fields_at
  kind-new = byte0 l (16 * n) k v room

  value-new : (fields_at (with_value l (16 * n) k v) (node n)).b + 4294967296 * (fields_at (with_value l (16 * n) k v) (node n)).c ≡ v
  unfolding fields_at
  value-new = rw (word-8 l (16 * n) k v room, word-12 l (16 * n) k v room) (zero_high v)
    where
      zero_high : (x : ℕ) → x + 4294967296 * 0 ≡ x
      zero_high x = omega arith

  module _ (m : ℕ) (d : m ≡ n → ⊥) where
    apart : (o : ℕ) → o < 16 → (16 * m + o < 16 * n) ⊎ (16 * n + 16 ≤ 16 * m + o)
    apart o h =
        ⊎_elim (λ (q : m < n). inl (omega (arith, q, h))) (λ (q : n ≤ m). inr (omega (arith, q, d)))
        (lt-or_le m n)

    byte_same : (o : ℕ) → o < 16 → get_or (with_value l (16 * n) k v) (16 * m + o) 0 ≡ get_or l (16 * m + o) 0
    byte_same o h = byte_old l (16 * n) k v room (16 * m + o) (apart o h)

    byte_at : (j o : ℕ) → j ≡ 16 * m + o → o < 16 → get_or (with_value l (16 * n) k v) j 0 ≡ get_or l j 0
    byte_at j o e h =
        ap (λ (i : ℕ). get_or (with_value l (16 * n) k v) i 0) e ∙ byte_same o h ∙ ap (λ (i : ℕ). get_or l i 0) (sym e)

    word_same : (o : ℕ) → o + 4 ≤ 16 → word (with_value l (16 * n) k v) (16 * m + o) ≡ word l (16 * m + o)
    unfolding word
    word_same o h =
        rw (
          byte_same o (omega (arith, h)),
          byte_at (16 * m + o + 1) (o + 1) (omega arith) (omega (arith, h)),
          byte_at (16 * m + o + 2) (o + 2) (omega arith) (omega (arith, h)),
          byte_at (16 * m + o + 3) (o + 3) (omega arith) (omega (arith, h)),
        )

    pub fields-same : fields_at (with_value l (16 * n) k v) (node m) ≡ fields_at l (node m)
    unfolding fields_at
    fields-same =
        rw (
          byte_at (16 * m) 0 (omega arith) (omega arith),
          byte_same 1 (omega arith),
          byte_same 2 (omega arith),
          byte_same 3 (omega arith),
          word_same 4 (omega arith),
          word_same 8 (omega arith),
          word_same 12 (omega arith),
        )

module _ (l p : List ℕ) (n : ℕ) (s : Truth) (room : 16 * n + 16 ≤ length l) where
  abbrev new : List ℕ
  new = with_value l (16 * n) (constant_kind s) (constant_value s)

  constant_leaf : ((fields_at new (node n)).kind ≡ 2) ⊎ ((fields_at new (node n)).kind ≡ 3)
  constant_leaf = go s (kind-new l n (constant_kind s) (constant_value s) room)
    where
      go : (s : Truth) {x : ℕ} → x ≡ constant_kind s → (x ≡ 2) ⊎ (x ≡ 3)
      go False e = inl e
      go Unknown e = inr e
      go True e = inl e

  constant_told : aexpr_of new p n ≡ constant_of s
  unfolding aexpr_of record_at decode
  constant_told = go s (kind-new l n (constant_kind s) (constant_value s) room) (value-new l n (constant_kind s) (constant_value s) room)
    where
      go : (u : Truth) → (fields_at new (node n)).kind ≡ constant_kind u →
          (fields_at new (node n)).b + 4294967296 * (fields_at new (node n)).c ≡ constant_value u →
          to_aexpr p (decode (fields_at new (node n))) ≡ constant_of u
      go False e h = rw (e, h)
      go Unknown e h = rw e
      go True e h = rw (e, h)

module _ (text t rs p row : List ℕ) (nulls used i : ℕ) (out : List ℕ) (done : Reduced text t rs p row nulls used i out) where
  abbrev F : ℕ → Bool
  F n = takes_symbols t rs (fields_at rs (node n))

  pub reduced_skip : F i ≡ false → Reduced text t rs p row nulls used (i + 1) out
  reduced_skip e =
      record {
        kept = done.kept;
        leaf = λ n h q. done.leaf n (before n h q) q;
        told = λ n h q. done.told n (before n h q) q;
      }
    where
      before : (n : ℕ) → n < i + 1 → F n ≡ true → n < i
      before n h q =
          ⊎_elim (λ (k : n < i). k)
          (λ (k : i ≤ n). let z : n ≡ i = omega (arith, h, k) in absurd (true≢false (sym (rw z at q) ∙ e))) (lt-or_le n i)

  pub reduced_put : F i ≡ true → i < used → 16 * used ≤ length out → (s : Truth) →
      s ≡ symbol_truth text rs p row nulls (fields_at rs (node i)) →
      Reduced text t rs p row nulls used (i + 1) (with_value out (16 * i) (constant_kind s) (constant_value s))
  unfolding aexpr_of record_at
  reduced_put e h long s es =
      record {
        kept = λ n l q. fields-same out i (constant_kind s) (constant_value s) room n (λ z. true≢false (sym e ∙ sym (ap F z) ∙ q))
            ∙ done.kept n l q;
        leaf = λ n l q. part n l (λ (z : n ≡ i). subst Leaf (sym z) (constant_leaf out p i s room))
            (λ d k. subst (λ f. (f.kind ≡ 2) ⊎ (f.kind ≡ 3)) (sym (same n d)) (done.leaf n k q));
        told = λ n l q. part n l (λ (z : n ≡ i). subst Told (sym z) (constant_told out p i s room ∙ ap constant_of es))
            (λ d k. ap (λ f. to_aexpr p (decode f)) (same n d) ∙ done.told n k q);
      }
    where
      room : 16 * i + 16 ≤ length out
      room = omega (arith, h, long)

      Leaf : ℕ → Type 0
      Leaf n = ((fields_at (with_value out (16 * i) (constant_kind s) (constant_value s)) (node n)).kind ≡ 2)
          ⊎ ((fields_at (with_value out (16 * i) (constant_kind s) (constant_value s)) (node n)).kind ≡ 3)

      Told : ℕ → Type 0
      Told n = aexpr_of (with_value out (16 * i) (constant_kind s) (constant_value s)) p n ≡
          constant_of (symbol_truth text rs p row nulls (fields_at rs (node n)))

      same : (n : ℕ) → (n ≡ i → ⊥) → fields_at (with_value out (16 * i) (constant_kind s) (constant_value s)) (node n) ≡ fields_at out (node n)
      same n d = fields-same out i (constant_kind s) (constant_value s) room n d

      part : {A : Type 0} (n : ℕ) → n < i + 1 → (n ≡ i → A) → ((n ≡ i → ⊥) → n < i → A) → A
      part n l f g =
          by-test (eqb n i) (λ z. f (eqb-true n i z))
          (λ z. let d : (n ≡ i → ⊥) = eqb-false n i z in g d (omega (arith, l, d)))

-- ---- What was copied.
module _ (rs out : List ℕ) (used : ℕ) (copied : Copied rs out (16 * used)) (n : ℕ) (h : n < used) where
  word_copied : (o : ℕ) → o + 4 ≤ 16 → word out (16 * n + o) ≡ word rs (16 * n + o)
  unfolding word
  word_copied o k =
      rw (
        copied (16 * n + o) (omega (arith, h, k)),
        copied (16 * n + o + 1) (omega (arith, h, k)),
        copied (16 * n + o + 2) (omega (arith, h, k)),
        copied (16 * n + o + 3) (omega (arith, h, k)),
      )

  pub fields_copied : fields_at out (node n) ≡ fields_at rs (node n)
  unfolding fields_at
  fields_copied =
      rw (
        copied (16 * n) (omega (arith, h)),
        copied (16 * n + 1) (omega (arith, h)),
        copied (16 * n + 2) (omega (arith, h)),
        copied (16 * n + 3) (omega (arith, h)),
        word_copied 4 (omega arith),
        word_copied 8 (omega arith),
        word_copied 12 (omega arith),
      )

pub copied_more : (rs out : List ℕ) (i : ℕ) → i < length out → Copied rs out i → (b : ℕ) → b ≡ get_or rs i 0 →
    Copied rs (set out i b) (i + 1)
copied_more rs out i h c b e j k =
    by-test (eqb j i)
    (λ z. let q : j ≡ i = eqb-true j i z in rw q (get_or-set_same out i b 0 h ∙ e))
    (λ z. let d : (j ≡ i → ⊥) = eqb-false j i z in get_or-set_other out i j b 0 d ∙ c j (omega (arith, k, d)))

-- a copy of the records is reduced as far as nothing is
pub reduced_none : (text t rs p row : List ℕ) (nulls used : ℕ) (out : List ℕ) → Copied rs out (16 * used) →
    Reduced text t rs p row nulls used 0 out
reduced_none text t rs p row nulls used out c =
    record {
      kept = λ n h q. fields_copied rs out used c n h;
      leaf = λ n h q. absurd (omega (arith, h));
      told = λ n h q. absurd (omega (arith, h));
    }

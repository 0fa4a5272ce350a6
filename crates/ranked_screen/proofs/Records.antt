-- A record more of the screen of ranks. Assumes nothing.
use mathlib.Core.Path.{◌≡◌, refl, sym, ◌∙◌, ap, subst}
use mathlib.Core.Bool.{Bool, true, false, cond}
use mathlib.Core.List.{List, [], ◌∷◌}
use Prim.Native.Nat.{ℕ, ◌+◌, ◌*◌, ◌/◌, ◌%◌, ◌≤◌, ◌<◌}
use native.Mathlib.Omega.{arith}
use lib.Dec.{eqb}
use lib.ListN.{length, get_or}
use types.Run.{miss}
use Rattle.records.specs.Bytes.{word}
use Rattle.records.specs.Record.{node, fields_at, decode, record_at, encode}
use Rattle.records.specs.declared.record.Fields.{Fields}
use Rattle.records.specs.declared.record.Record.{Record}
use Rattle.records.specs.declared.record.Record.TheVariants as kind
use Rattle.records.proofs.RoundTrips.{decode-encode}
use Rattle.sorted.proofs.Parts.{last}
use Rattle.merge.specs.Write.{write_record}
use Rattle.merge.proofs.Written.{Words, fields-new, fields-old}
use Rattle.ranked_screen.specs.Screen.{ranked_record, list_start, RankedRecords}
use Rattle.ranked_screen.proofs.Placing.{Tagged}

-- Every other record stays.
pub others-stay : (words rank : ℕ) (r : Record) → Tagged (0 ∷ 1 ∷ 3 ∷ 4 ∷ 5 ∷ 6 ∷ 7 ∷ 8 ∷ 10 ∷ []) r
    → r ≡ ranked_record words rank r
unfolding ranked_record
others-stay words rank kind.Invalid h = refl
others-stay words rank (kind.Column c) h = refl
others-stay words rank (kind.Literal ty v) h = absurd (miss (0 ∷ 1 ∷ 3 ∷ 4 ∷ 5 ∷ 6 ∷ 7 ∷ 8 ∷ 10 ∷ []) 2 tt h)
others-stay words rank (kind.Null ty) h = refl
others-stay words rank (kind.Binary o x y) h = refl
others-stay words rank (kind.Not x) h = refl
others-stay words rank (kind.IsNull x) h = refl
others-stay words rank (kind.IsNotNull x) h = refl
others-stay words rank (kind.IsBetween k x low high) h = refl
others-stay words rank (kind.List ty marked start count) h =
    absurd (miss (0 ∷ 1 ∷ 3 ∷ 4 ∷ 5 ∷ 6 ∷ 7 ∷ 8 ∷ 10 ∷ []) 9 tt h)
others-stay words rank (kind.IsIn equal x list) h = refl

-- ---- The numbers of a record that is read fit four bytes each, and so do those of the one that is written.
pick : (b : Bool) (x y : Record) → Words (encode x) → Words (encode y) → Words (encode (cond b x y))
pick true x y h k = h
pick false x y h k = k

value-words : (b c : ℕ) → b < 4294967296 → c < 4294967296
    → ((b + 4294967296 * c) % 4294967296 < 4294967296) × ((b + 4294967296 * c) / 4294967296 < 4294967296)
value-words b c h k = (omega arith, omega arith)

decoded_words : (f : Fields) → Words f → Words (encode (decode f))
unfolding decode encode
decoded_words f h =
    let z : 0 < 4294967296 = omega arith in
    let v = value-words f.b f.c h.1 h.2 in
    pick (eqb f.kind 1) _ _ (h.0, z, z)
    (pick (eqb f.kind 2) _ _ (z, v.0, v.1)
    (pick (eqb f.kind 3) _ _ (z, z, z)
    (pick (eqb f.kind 4) _ _ (h.0, h.1, z)
    (pick (eqb f.kind 5) _ _ (h.0, z, z)
    (pick (eqb f.kind 6) _ _ (h.0, z, z)
    (pick (eqb f.kind 7) _ _ (h.0, z, z)
    (pick (eqb f.kind 8) _ _ (h.0, h.1, h.2)
    (pick (eqb f.kind 9) _ _ (h.0, h.1, z)
    (pick (eqb f.kind 10) _ _ (h.0, h.1, z) (z, z, z))))))))))

module _ (rs : List ℕ) (bytes : (q : ℕ) → get_or rs q 0 < 256) where
  word_low : (at : ℕ) → word rs at < 4294967296
  unfolding word
  word_low at = omega (arith, bytes at, bytes (at + 1), bytes (at + 2), bytes (at + 3))

  read_words_lem : (n : ℕ) → Words (encode (record_at rs (node n)))
  unfolding record_at fields_at
  read_words_lem n = decoded_words (fields_at rs (node n)) (word_low (16 * n + 4), word_low (16 * n + 8), word_low (16 * n + 12))

ranked-words : (words rank : ℕ) (r : Record) → rank < 18446744073709551616 → words + list_start r < 4294967296
    → Words (encode r) → Words (encode (ranked_record words rank r))
unfolding ranked_record encode list_start
ranked-words words rank kind.Invalid k l h = h
ranked-words words rank (kind.Column c) k l h = h
ranked-words words rank (kind.Literal ty v) k l h =
    let z : 0 < 4294967296 = omega arith in
    pick (eqb ty 4) (kind.Literal 1 rank) (kind.Literal ty v) (z, omega arith, omega arith) h
ranked-words words rank (kind.Null ty) k l h = h
ranked-words words rank (kind.Binary o x y) k l h = h
ranked-words words rank (kind.Not x) k l h = h
ranked-words words rank (kind.IsNull x) k l h = h
ranked-words words rank (kind.IsNotNull x) k l h = h
ranked-words words rank (kind.IsBetween ends x low high) k l h = h
ranked-words words rank (kind.List ty marked start count) k l h =
    pick (eqb ty 4) (kind.List 1 marked start count) (kind.List ty marked (words + start) count) h (l, h.1, h.2)
ranked-words words rank (kind.IsIn equal x list) k l h = h

-- ---- One record more.
pub records-none : {rs ranks : List ℕ} {words : ℕ} {src : List ℕ} → RankedRecords rs ranks words 0 src
records-none = record { records = λ i h. absurd (omega arith) }

pub records-more : (rs ranks : List ℕ) (words n : ℕ) (src out : List ℕ) (r x : Record)
    → ((q : ℕ) → get_or rs q 0 < 256) → get_or ranks n 0 < 18446744073709551616
    → words + list_start (record_at rs (node n)) < 4294967296 → 16 * n + 16 ≤ length src
    → r ≡ record_at rs (node n) → x ≡ ranked_record words (get_or ranks n 0) r → out ≡ write_record src n x
    → RankedRecords rs ranks words n src → RankedRecords rs ranks words (n + 1) out
unfolding record_at
records-more rs ranks words n src out r x bytes low start room er ex eo h =
    record {
      records = λ i k. ap (λ s. record_at s (node i)) eo ∙ last i n k (old i) (new i);
    }
  where
    due : Record
    due = ranked_record words (get_or ranks n 0) (record_at rs (node n))

    same : x ≡ due
    same = ex ∙ ap (ranked_record words (get_or ranks n 0)) er

    fit : Words (encode x)
    fit = subst (λ y. Words (encode y)) (sym same)
        (ranked-words words (get_or ranks n 0) (record_at rs (node n)) low start (read_words_lem rs bytes n))

    old : (i : ℕ) → i < n → record_at (write_record src n x) (node i) ≡ ranked_record words (get_or ranks i 0) (record_at rs (node i))
    old i k = ap decode (fields-old src n (encode x) room i k) ∙ h.records i k

    new : (i : ℕ) → i ≡ n → record_at (write_record src n x) (node i) ≡ ranked_record words (get_or ranks i 0) (record_at rs (node i))
    new i e =
        subst (λ j. record_at (write_record src n x) (node j) ≡ ranked_record words (get_or ranks j 0) (record_at rs (node j))) (sym e)
        (ap decode (fields-new src n (encode x) room fit) ∙ decode-encode x ∙ same)

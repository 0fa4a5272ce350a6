-- The records of the slowest screen, by their numbers, and that bytes which begin with its bytes hold them.
use mathlib.Core.Path.{◌≡◌, refl, sym, ◌∙◌, ap, subst}
use mathlib.Core.Bool.{Bool, true, false, cond}
use mathlib.Core.List.{List, [], ◌∷◌, ◌++◌, append_assoc}
use Prim.Native.Nat.{ℕ, zero, suc, ◌+◌, ◌*◌, ◌-◌, ◌/◌, ◌%◌, ◌≤◌, ◌<◌}
use native.Mathlib.Omega.{arith}
use native.Mathlib.Decide.{dec_le}
use lib.Dec.{eqb, ltb}
use lib.ListN.{length, take, drop, length-append}
use borrow.Author.Tests.{eq-eqb, ne_eqb, lt-ltb, le-ltb, ltb-true, ltb-false, eqb-true, eqb-false}
use Rattle.records.specs.Record.{node, column_number, fields_at, record_at, decode, encode}
use Rattle.records.specs.declared.operator.Operator.TheVariants as operator
use Rattle.records.specs.declared.record.Fields.{Fields}
use Rattle.records.specs.declared.record.Record.{Record}
use Rattle.records.specs.declared.record.Record.TheVariants as kind
use Rattle.records.proofs.Laws.{by-test, cond_yes, cond_no}
use Rattle.records.proofs.RoundTrips.{decode-encode}
use Rattle.merge.specs.Write.{splice, field_bytes}
use Rattle.merge.proofs.Written.{Words, fields-new}
use Rattle.slowest.specs.Screen.{slowest_record, bytes_to}

-- ---- The five forms of record.
module _ (n i : ℕ) where
  pub at-column : i < n → slowest_record n i ≡ kind.Column (column_number i)
  unfolding slowest_record
  at-column h = cond_yes (ltb i n) _ _ (lt-ltb i n h)

  pub at_literal : i ≡ n → slowest_record n i ≡ kind.Literal 1 0
  unfolding slowest_record
  at_literal e =
      cond_no (ltb i n) _ _ (le-ltb i n (omega (arith, e))) ∙ cond_yes (eqb i n) _ _ (eq-eqb i n e)

  pub at_bound : i ≡ n + 1 → slowest_record n i ≡ kind.Binary operator.Gt (node 0) (node n)
  unfolding slowest_record
  at_bound e =
      cond_no (ltb i n) _ _ (le-ltb i n (omega (arith, e)))
      ∙ cond_no (eqb i n) _ _ (ne_eqb i n (λ (q : i ≡ n). omega (arith, e, q)))
      ∙ cond_yes (eqb i (n + 1)) _ _ (eq-eqb i (n + 1) e)

  chain-record : n + 2 ≤ i → slowest_record n i ≡
      cond (eqb ((i - n) % 2) 0) (kind.Binary operator.Eq (node ((i - n) / 2 - 1)) (node ((i - n) / 2)))
      (kind.Binary operator.And (node (i - 1)) (node (i - 2)))
  unfolding slowest_record
  chain-record l =
      cond_no (ltb i n) _ _ (le-ltb i n (omega (arith, l)))
      ∙ cond_no (eqb i n) _ _ (ne_eqb i n (λ (q : i ≡ n). omega (arith, l, q)))
      ∙ cond_no (eqb i (n + 1)) _ _ (ne_eqb i (n + 1) (λ (q : i ≡ n + 1). omega (arith, l, q)))

  pub at-equality : (k : ℕ) → i ≡ n + 2 + 2 * k → slowest_record n i ≡ kind.Binary operator.Eq (node k) (node (suc k))
  at-equality k e =
      let a : (i - n) % 2 ≡ 0 = omega (arith, e) in
      let b : (i - n) / 2 - 1 ≡ k = omega (arith, e) in
      let c : (i - n) / 2 ≡ suc k = omega (arith, e) in
      chain-record (omega (arith, e))
      ∙ cond_yes (eqb ((i - n) % 2) 0) _ _ (eq-eqb ((i - n) % 2) 0 a)
      ∙ ap (λ x. kind.Binary operator.Eq (node x) (node ((i - n) / 2))) b
      ∙ ap (λ x. kind.Binary operator.Eq (node k) (node x)) c

  pub at-and : (k : ℕ) → i ≡ n + 3 + 2 * k
      → slowest_record n i ≡ kind.Binary operator.And (node (n + 2 + 2 * k)) (node (n + 1 + 2 * k))
  at-and k e =
      let a : ((i - n) % 2 ≡ 0 → ⊥) = (λ (q : (i - n) % 2 ≡ 0). omega (arith, e, q)) in
      let b : i - 1 ≡ n + 2 + 2 * k = omega (arith, e) in
      let c : i - 2 ≡ n + 1 + 2 * k = omega (arith, e) in
      chain-record (omega (arith, e))
      ∙ cond_no (eqb ((i - n) % 2) 0) _ _ (ne_eqb ((i - n) % 2) 0 a)
      ∙ ap (λ x. kind.Binary operator.And (node x) (node (i - 2))) b
      ∙ ap (λ x. kind.Binary operator.And (node (n + 2 + 2 * k)) (node x)) c

  -- What holds of each form holds of the record.
  pub by_form : (P : Record → Type 0) → i < 3 * n → (i < n → P (kind.Column (column_number i)))
      → (i ≡ n → P (kind.Literal 1 0)) → (i ≡ n + 1 → P (kind.Binary operator.Gt (node 0) (node n)))
      → ((k : ℕ) → i ≡ n + 2 + 2 * k → suc k < n → P (kind.Binary operator.Eq (node k) (node (suc k))))
      → ((k : ℕ) → i ≡ n + 3 + 2 * k → suc k < n
      → P (kind.Binary operator.And (node (n + 2 + 2 * k)) (node (n + 1 + 2 * k))))
      → P (slowest_record n i)
  by_form P l column literal bound equality and =
      by-test (ltb i n) (λ h. let b = ltb-true i n h in subst P (sym (at-column b)) (column b))
      (λ h. let low : n ≤ i = ltb-false i n h in
      by-test (eqb i n) (λ g. let b = eqb-true i n g in subst P (sym (at_literal b)) (literal b))
      (λ g. by-test (eqb i (n + 1)) (λ q. let b = eqb-true i (n + 1) q in subst P (sym (at_bound b)) (bound b))
      (λ q. chain (omega (arith, low, eqb-false i n g, eqb-false i (n + 1) q)))))
    where
      chain : n + 2 ≤ i → P (slowest_record n i)
      chain low = by-test (eqb ((i - n) % 2) 0)
          (λ g. let p : (i - n) % 2 ≡ 0 = eqb-true ((i - n) % 2) 0 g in
          let e : i ≡ n + 2 + 2 * ((i - n - 2) / 2) = omega (arith, p, low) in
          subst P (sym (at-equality ((i - n - 2) / 2) e)) (equality ((i - n - 2) / 2) e (omega (arith, e, l))))
          (λ g. let p : ((i - n) % 2 ≡ 0 → ⊥) = eqb-false ((i - n) % 2) 0 g in
          let e : i ≡ n + 3 + 2 * ((i - n - 3) / 2) = omega (arith, p, low) in
          subst P (sym (at-and ((i - n - 3) / 2) e)) (and ((i - n - 3) / 2) e (omega (arith, e, l))))

-- Their numbers fit their fields.
record_words : (n i : ℕ) → n ≤ 64 → i < 3 * n → Words (encode (slowest_record n i))
unfolding encode
record_words n i s l =
    by_form n i (λ r. Words (encode r)) l (λ h. (omega (arith, h, s), omega arith, omega arith))
    (λ h. (omega arith, omega arith, omega arith)) (λ h. (omega arith, omega (arith, s), omega arith))
    (λ k e h. (omega (arith, h, s), omega (arith, h, s), omega arith))
    (λ k e h. (omega (arith, h, s), omega (arith, h, s), omega arith))

-- ---- The bytes.
pub take-front : (l m : List ℕ) → take (length l) (l ++ m) ≡ l
take-front [] m = refl
take-front (x ∷ l) m = ap (λ t. x ∷ t) (take-front l m)

pub drop-front : (l m : List ℕ) → drop (length l) (l ++ m) ≡ m
drop-front [] m = refl
drop-front (x ∷ l) m = drop-front l m

-- Bytes in their place are spliced there.
splice-there : (pre vs rest : List ℕ) → splice (pre ++ (vs ++ rest)) (length pre) vs ≡ pre ++ (vs ++ rest)
unfolding splice
splice-there pre vs rest =
    ap (λ l. l ++ (vs ++ drop (length pre + length vs) (pre ++ (vs ++ rest)))) (take-front pre (vs ++ rest))
    ∙ ap (λ l. pre ++ (vs ++ l))
    (ap (λ k. drop k (pre ++ (vs ++ rest))) (sym (length-append pre vs))
    ∙ ap (drop (length (pre ++ vs))) (sym (append_assoc pre vs rest)) ∙ drop-front (pre ++ vs) rest)

fields-there : (pre rest : List ℕ) (u : ℕ) (f : Fields) → length pre ≡ 16 * u → Words f
    → fields_at (pre ++ (field_bytes f ++ rest)) (node u) ≡ f
fields-there pre rest u f e w =
    let l : List ℕ = pre ++ (field_bytes f ++ rest) in
    let n : length (pre ++ (field_bytes f ++ rest)) ≡ length pre + length (field_bytes f ++ rest) =
    length-append pre (field_bytes f ++ rest) in
    let m : length (field_bytes f ++ rest) ≡ 16 + length rest = length-append (field_bytes f) rest in
    ap (λ x. fields_at x (node u)) (sym (ap (λ k. splice l k (field_bytes f)) (sym e) ∙ splice-there pre (field_bytes f) rest))
    ∙ fields-new l u f (omega (arith, n, m, e)) w

pub bytes-length : (n u : ℕ) → length (bytes_to n u) ≡ 16 * u
unfolding bytes_to
bytes-length n zero = refl
bytes-length n (suc u) =
    let a = length-append (bytes_to n u) (field_bytes (encode (slowest_record n u))) in
    let b = bytes-length n u in
    omega (arith, a, b)

pub fields-built : (n : ℕ) → n ≤ 64 → (u : ℕ) → u ≤ 3 * n → (rest : List ℕ) (i : ℕ) → i < u
    → fields_at (bytes_to n u ++ rest) (node i) ≡ encode (slowest_record n i)
unfolding bytes_to
fields-built n s zero l rest i h = absurd (omega (arith, h))
fields-built n s (suc u) l rest i h =
    ap (λ x. fields_at x (node i)) (append_assoc (bytes_to n u) (field_bytes (encode (slowest_record n u))) rest)
    ∙ go (dec_le u i) (λ k. fields-built n s u (omega (arith, l)) (field_bytes (encode (slowest_record n u)) ++ rest) i k)
  where
    go : Dec (u ≤ i)
        → (i < u → fields_at (bytes_to n u ++ (field_bytes (encode (slowest_record n u)) ++ rest)) (node i)
        ≡ encode (slowest_record n i))
        → fields_at (bytes_to n u ++ (field_bytes (encode (slowest_record n u)) ++ rest)) (node i)
        ≡ encode (slowest_record n i)
    go (yes k) ih =
        let q : u ≡ i = omega (arith, k, h) in
        subst (λ j. fields_at (bytes_to n u ++ (field_bytes (encode (slowest_record n u)) ++ rest)) (node j)
        ≡ encode (slowest_record n j)) q
        (fields-there (bytes_to n u) rest u (encode (slowest_record n u)) (bytes-length n u) (record_words n u s (omega (arith, l))))
    go (no k) ih = ih (omega (arith, k))

-- The bytes rs begin with the screen of n columns.
abbrev pub Built : ℕ → List ℕ → Type 0
Built n rs = (i : ℕ) → i < 3 * n → fields_at rs (node i) ≡ encode (slowest_record n i)

pub built_record : (n : ℕ) (rs : List ℕ) → Built n rs → (i : ℕ) → i < 3 * n → record_at rs (node i) ≡ slowest_record n i
unfolding record_at
built_record n rs b i h = ap decode (b i h) ∙ decode-encode (slowest_record n i)

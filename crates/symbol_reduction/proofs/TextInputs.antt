-- What checking has shown of a screen's Text records: they are leaves, and a record has Text inputs alone or none.
use mathlib.Core.Path.{◌≡◌, refl, sym, ◌∙◌, ap, subst}
use mathlib.Core.Bool.{Bool, true, false, cond, not, ◌&&◌, true≢false}
use mathlib.Core.List.{List}
use Prim.Native.Nat.{ℕ, suc, ◌+◌, ◌*◌, ◌<◌, ◌≤◌}
use native.Mathlib.Omega.{arith}
use lib.Dec.{ltb, leb, eqb}
use lib.ListN.{length, get_or}
use borrow.Author.Tests.{eqb-true, eqb-false, leb-true, ltb-true}
use Rattle.records.specs.Operator.{operator_at, is_comparison, is_division}
use Rattle.records.specs.Record.{node, column_number, fields_at, closed_at, decode, record_at}
use Rattle.records.specs.Shape.{known_type_in, shape_ok_in, known_ok_in, unused_ok, literal_ok_in, max_code, Ty, uses}
use Rattle.records.specs.declared.operator.Operator.{Operator}
use Rattle.records.specs.declared.record.Fields.{Fields}
use Rattle.records.specs.declared.record.Record.{Record}
use Rattle.records.specs.declared.record.Record.TheVariants as kind
use Rattle.records.proofs.Laws.{and_left, and_right}
use Rattle.record_check.specs.Fit.{reach_ok_in, type_of, type_at, same_type, binary_fits, between_fits, member_fits, types_ok}
use Rattle.checking.specs.Checked.{CheckedIn}
use Rattle.merge.proofs.Accepted.{one, two, three}
use Rattle.symbol_screens.specs.Reading.{value_type}
use Rattle.symbol_screens.proofs.ColumnKinds.{same-types}
use Rattle.symbol_reduction.specs.Reduction.{is_text_input, takes_symbols}

-- ---- A record by its kind.
by_kind : (k : ℕ) (P : Record → Type 0) (f : Fields) (x y : Record) → k ≤ f.kind → (f.kind ≡ k → P x) →
    (suc k ≤ f.kind → P y) → P (cond (eqb f.kind k) x y)
by_kind k P f x y l h g = go (eqb f.kind k) refl
  where
    go : (b : Bool) → eqb f.kind k ≡ b → P (cond b x y)
    go true e = h (eqb-true f.kind k e)
    go false e = let d : (f.kind ≡ k → ⊥) = eqb-false f.kind k e in g (omega (arith, l, d))

pub decode-ind : (P : Record → Type 0) (f : Fields) → (1 ≤ f.kind) × (f.kind ≤ 10) →
    (f.kind ≡ 1 → P (kind.Column (column_number f.a))) →
    (f.kind ≡ 2 → P (kind.Literal f.ty (f.b + 4294967296 * f.c))) →
    (f.kind ≡ 3 → P (kind.Null f.ty)) →
    (f.kind ≡ 4 → P (kind.Binary (operator_at f.code) (node f.a) (node f.b))) →
    (f.kind ≡ 5 → P (kind.Not (node f.a))) →
    (f.kind ≡ 6 → P (kind.IsNull (node f.a))) →
    (f.kind ≡ 7 → P (kind.IsNotNull (node f.a))) →
    (f.kind ≡ 8 → P (kind.IsBetween (closed_at f.code) (node f.a) (node f.b) (node f.c))) →
    (f.kind ≡ 9 → P (kind.List f.ty (eqb f.code 1) f.a f.b)) →
    (f.kind ≡ 10 → P (kind.IsIn (eqb f.code 1) (node f.a) (node f.b))) → P (decode f)
unfolding decode
decode-ind P f l h1 h2 h3 h4 h5 h6 h7 h8 h9 h10 =
    by_kind 1 P f _ _ l.0 h1 (λ l2. by_kind 2 P f _ _ l2 h2 (λ l3. by_kind 3 P f _ _ l3 h3 (λ l4. by_kind 4 P f _ _ l4 h4
    (λ l5. by_kind 5 P f _ _ l5 h5 (λ l6. by_kind 6 P f _ _ l6 h6 (λ l7. by_kind 7 P f _ _ l7 h7
    (λ l8. by_kind 8 P f _ _ l8 h8 (λ l9. by_kind 9 P f _ _ l9 h9 (λ l10. by_kind 10 P f _ _ l10 h10
    (λ l11. absurd (omega (arith, l.1, l11))))))))))))

-- ---- The type of what stands in a record, or of a list's entries.
abbrev pub entry_type : List ℕ → Record → ℕ
entry_type t kind.Invalid = 0
entry_type t (kind.Column c) = get_or t c.0 0
entry_type t (kind.Literal ty v) = ty
entry_type t (kind.Null ty) = ty
entry_type t (kind.Binary o x y) = cond (is_division o) 1 3
entry_type t (kind.Not x) = 3
entry_type t (kind.IsNull x) = 3
entry_type t (kind.IsNotNull x) = 3
entry_type t (kind.IsBetween k x low high) = 3
entry_type t (kind.List ty marked start count) = ty
entry_type t (kind.IsIn equal x list) = 3

abbrev pub is_text : List ℕ → Record → Bool
is_text t r = eqb (entry_type t r) 4

pub entry_type_lem : (t : List ℕ) (r : Record) (ty : ℕ) → 0 < ty → type_of t r ≡ ty → entry_type t r ≡ ty
unfolding type_of
entry_type_lem t kind.Invalid ty h e = absurd (omega (arith, h, e))
entry_type_lem t (kind.Column c) ty h e = e
entry_type_lem t (kind.Literal s v) ty h e = e
entry_type_lem t (kind.Null s) ty h e = e
entry_type_lem t (kind.Binary o x y) ty h e = e
entry_type_lem t (kind.Not x) ty h e = e
entry_type_lem t (kind.IsNull x) ty h e = e
entry_type_lem t (kind.IsNotNull x) ty h e = e
entry_type_lem t (kind.IsBetween k x low high) ty h e = e
entry_type_lem t (kind.List s marked start count) ty h e = absurd (omega (arith, h, e))
entry_type_lem t (kind.IsIn equal x list) ty h e = e

-- a record that is no Text holds no symbol
pub no_symbol : (t : List ℕ) (r : Record) → is_text t r ≡ false → eqb (value_type r) 4 ≡ false
no_symbol t kind.Invalid h = refl
no_symbol t (kind.Column c) h = refl
no_symbol t (kind.Literal ty v) h = h
no_symbol t (kind.Null ty) h = refl
no_symbol t (kind.Binary o x y) h = refl
no_symbol t (kind.Not x) h = refl
no_symbol t (kind.IsNull x) h = refl
no_symbol t (kind.IsNotNull x) h = refl
no_symbol t (kind.IsBetween k x low high) h = refl
no_symbol t (kind.List ty marked start count) h = h
no_symbol t (kind.IsIn equal x list) h = refl

-- ---- Bytes and types.
fourth : (a b c d : Bool) → (a && (b && (c && d))) ≡ true → d ≡ true
fourth true true true d e = e
fourth true true false d e = absurd (true≢false (sym e))
fourth true false c d e = absurd (true≢false (sym e))
fourth false b c d e = absurd (true≢false (sym e))

pub shape-kind : (lent_text : ℕ) (f : Fields) → shape_ok_in lent_text f ≡ true → (1 ≤ f.kind) × (f.kind ≤ 10)
unfolding shape_ok_in known_ok_in
shape-kind lent_text f h =
    let k = and_left (known_ok_in lent_text f) (unused_ok f && literal_ok_in lent_text f) h in (
      leb-true 1 f.kind (and_left (leb 1 f.kind) _ k),
      leb-true f.kind 10 (and_left (leb f.kind 10) _ (and_right (leb 1 f.kind) _ k)),
    )

pub binary-type : (o : Operator) → eqb (cond (is_division o) 1 3) 4 ≡ false
binary-type o = go (is_division o)
  where
    go : (b : Bool) → eqb (cond b 1 3) 4 ≡ false
    go true = refl
    go false = refl

module _ (lent_text : ℕ) (t : List ℕ) where
  -- a kind without a type has 0 there
  no_type : (f : Fields) → shape_ok_in lent_text f ≡ true → uses Ty f.kind ≡ false → eqb f.ty 4 ≡ false
  unfolding shape_ok_in known_ok_in
  no_type f h u =
      let k : cond (uses Ty f.kind) (known_type_in lent_text f.ty) (eqb f.ty 0) ≡ true =
      fourth (leb 1 f.kind) (leb f.kind 10) (leb f.code (max_code f.kind)) _
      (and_left (known_ok_in lent_text f) (unused_ok f && literal_ok_in lent_text f) h) in
      let z : f.ty ≡ 0 = eqb-true f.ty 0 (rw u at k) in rw z

  -- what the bytes say is the type, of every record that is a value
  pub text-input : (f : Fields) → shape_ok_in lent_text f ≡ true → (ty : ℕ) → 0 < ty → type_of t (decode f) ≡ ty →
      is_text_input t f ≡ eqb ty 4
  unfolding is_text_input type_of uses
  text-input f sh ty h =
      decode-ind (λ r. type_of t r ≡ ty → is_text_input t f ≡ eqb ty 4) f (shape-kind lent_text f sh)
      (λ k e. rw k (ap (λ s. eqb s 4) e)) (λ k e. rw k (ap (λ s. eqb s 4) e)) (λ k e. rw k (ap (λ s. eqb s 4) e))
      (λ k e. rw (k, no_type f sh (rw k)) (sym (ap (λ s. eqb s 4) (sym e) ∙ binary-type (operator_at f.code))))
      (λ k e. rw (k, no_type f sh (rw k)) (ap (λ s. eqb s 4) e)) (λ k e. rw (k, no_type f sh (rw k)) (ap (λ s. eqb s 4) e))
      (λ k e. rw (k, no_type f sh (rw k)) (ap (λ s. eqb s 4) e)) (λ k e. rw (k, no_type f sh (rw k)) (ap (λ s. eqb s 4) e))
      (λ k e. absurd (omega (arith, h, e))) (λ k e. rw (k, no_type f sh (rw k)) (ap (λ s. eqb s 4) e))

-- ---- Whether a record has Text inputs, of the record.
module _ (t rs : List ℕ) where
  abbrev input_text : ℕ → Bool
  input_text x = is_text_input t (fields_at rs (node x))

  abbrev pub takes_of : Record → Bool
  takes_of kind.Invalid = false
  takes_of (kind.Column c) = false
  takes_of (kind.Literal ty v) = false
  takes_of (kind.Null ty) = false
  takes_of (kind.Binary o x y) = input_text x.0
  takes_of (kind.Not x) = input_text x.0
  takes_of (kind.IsNull x) = input_text x.0
  takes_of (kind.IsNotNull x) = input_text x.0
  takes_of (kind.IsBetween k x low high) = input_text x.0
  takes_of (kind.List ty marked start count) = false
  takes_of (kind.IsIn equal x list) = input_text x.0

  pub takes_is : (f : Fields) → (1 ≤ f.kind) × (f.kind ≤ 10) → takes_symbols t rs f ≡ takes_of (decode f)
  unfolding takes_symbols
  takes_is f l =
      decode-ind (λ r. takes_symbols t rs f ≡ takes_of r) f l (λ k. rw k) (λ k. rw k) (λ k. rw k) (λ k. rw k) (λ k. rw k)
      (λ k. rw k) (λ k. rw k) (λ k. rw k) (λ k. rw k) (λ k. rw k)

-- ---- A checked screen.
module _ (lent_text : ℕ) (t rs p : List ℕ) (used root : ℕ) (ok : CheckedIn lent_text t rs p used root) where
  abbrev at : ℕ → Record
  at x = record_at rs (node x)

  abbrev ty : ℕ → ℕ
  ty x = type_at t rs (node x)

  -- a value's bytes say whether it is a Text
  input_is : (x : ℕ) → x < used → 0 < ty x → input_text t rs x ≡ eqb (ty x) 4
  unfolding record_at type_at
  input_is x h l = text-input lent_text t (fields_at rs (node x)) (ok.records x h).shape (ty x) l refl

  pub is_text_lem : (x s : ℕ) → 0 < s → ty x ≡ s → is_text t (at x) ≡ eqb s 4
  unfolding type_at
  is_text_lem x s l e = ap (λ z. eqb z 4) (entry_type_lem t (at x) s l e)

  -- x is no Text, as its bytes say
  other : (x : ℕ) → x < used → 0 < ty x → input_text t rs x ≡ false → is_text t (at x) ≡ false
  other x h l e = is_text_lem x (ty x) l refl ∙ sym (input_is x h l) ∙ e

  text : (x : ℕ) → x < used → 0 < ty x → input_text t rs x ≡ true → ty x ≡ 4
  text x h l e = eqb-true (ty x) 4 (sym (input_is x h l) ∙ e)

  positive : (x s : ℕ) → 0 < s → eqb (ty x) s ≡ true → 0 < ty x
  positive x s l e = let q : ty x ≡ s = eqb-true (ty x) s e in omega (arith, l, q)

  -- the two types of a binary record
  pub binary-types : (o : Operator) (x y : ℕ) → binary_fits o (ty x) (ty y) ≡ true → (0 < ty x) × (ty x ≡ ty y)
  unfolding binary_fits
  binary-types o x y = go (is_comparison o) (is_division o)
    where
      each : (s : ℕ) → 0 < s → (eqb (ty x) s && eqb (ty y) s) ≡ true → (0 < ty x) × (ty x ≡ ty y)
      each s l h = (
        positive x s l (and_left (eqb (ty x) s) (eqb (ty y) s) h),
        eqb-true (ty x) s (and_left (eqb (ty x) s) (eqb (ty y) s) h)
            ∙ sym (eqb-true (ty y) s (and_right (eqb (ty x) s) (eqb (ty y) s) h)),
      )

      go : (b d : Bool) → cond b (same_type (ty x) (ty y)) (cond d (eqb (ty x) 1 && eqb (ty y) 1) (eqb (ty x) 3 && eqb (ty y) 3)) ≡ true →
          (0 < ty x) × (ty x ≡ ty y)
      go true d h = same-types (ty x) (ty y) h
      go false true h = each 1 (omega arith) h
      go false false h = each 3 (omega arith) h

  -- only comparisons take a Text
  pub text-compares : (o : Operator) (x y : ℕ) → binary_fits o (ty x) (ty y) ≡ true → ty x ≡ 4 → is_comparison o ≡ true
  unfolding binary_fits
  text-compares o x y h e = go (is_comparison o) (is_division o) h
    where
      no : (s : ℕ) → (s ≡ 4 → ⊥) → (eqb (ty x) s && eqb (ty y) s) ≡ true → ⊥
      no s d h = d (sym (eqb-true (ty x) s (and_left (eqb (ty x) s) (eqb (ty y) s) h)) ∙ e)

      go : (b d : Bool) → cond b (same_type (ty x) (ty y)) (cond d (eqb (ty x) 1 && eqb (ty y) 1) (eqb (ty x) 3 && eqb (ty y) 3)) ≡ true →
          b ≡ true
      go true d h = refl
      go false true h = absurd (no 1 (λ q. omega (arith, q)) h)
      go false false h = absurd (no 3 (λ q. omega (arith, q)) h)

  -- the list of an is_in is of the value's type
  pub list-type : (x : ℕ) (r : Record) → member_fits (ty x) r ≡ true → (0 < ty x) × (entry_type t r ≡ ty x)
  unfolding member_fits
  list-type x kind.Invalid h = absurd (true≢false (sym h))
  list-type x (kind.Column c) h = absurd (true≢false (sym h))
  list-type x (kind.Literal s v) h = absurd (true≢false (sym h))
  list-type x (kind.Null s) h = absurd (true≢false (sym h))
  list-type x (kind.Binary o a b) h = absurd (true≢false (sym h))
  list-type x (kind.Not a) h = absurd (true≢false (sym h))
  list-type x (kind.IsNull a) h = absurd (true≢false (sym h))
  list-type x (kind.IsNotNull a) h = absurd (true≢false (sym h))
  list-type x (kind.IsBetween k a low high) h = absurd (true≢false (sym h))
  list-type x (kind.List s marked start count) h = let q = same-types (ty x) s h in (q.0, sym q.1)
  list-type x (kind.IsIn equal a list) h = absurd (true≢false (sym h))

  -- ---- The inputs of a record below `used`, by whether they are Texts.
  -- none is
  abbrev pub Others : Record → Type 0
  Others kind.Invalid = Unit {0}
  Others (kind.Column c) = Unit {0}
  Others (kind.Literal s v) = Unit {0}
  Others (kind.Null s) = Unit {0}
  Others (kind.Binary o x y) = (is_text t (at x.0) ≡ false) × (is_text t (at y.0) ≡ false)
  Others (kind.Not x) = is_text t (at x.0) ≡ false
  Others (kind.IsNull x) = is_text t (at x.0) ≡ false
  Others (kind.IsNotNull x) = is_text t (at x.0) ≡ false
  Others (kind.IsBetween k x low high) =
      (is_text t (at x.0) ≡ false) × (is_text t (at low.0) ≡ false) × (is_text t (at high.0) ≡ false)
  Others (kind.List s marked start count) = Unit {0}
  Others (kind.IsIn equal x list) = (is_text t (at x.0) ≡ false) × (is_text t (at list.0) ≡ false)

  -- all are
  abbrev pub Texts : Record → Type 0
  Texts kind.Invalid = ⊥
  Texts (kind.Column c) = ⊥
  Texts (kind.Literal s v) = ⊥
  Texts (kind.Null s) = ⊥
  Texts (kind.Binary o x y) = (is_comparison o ≡ true) × (ty x.0 ≡ 4) × (ty y.0 ≡ 4)
  Texts (kind.Not x) = ⊥
  Texts (kind.IsNull x) = ty x.0 ≡ 4
  Texts (kind.IsNotNull x) = ty x.0 ≡ 4
  Texts (kind.IsBetween k x low high) = (ty x.0 ≡ 4) × (ty low.0 ≡ 4) × (ty high.0 ≡ 4)
  Texts (kind.List s marked start count) = ⊥
  Texts (kind.IsIn equal x list) = (ty x.0 ≡ 4) × (member_fits 4 (at list.0) ≡ true)

  as_other : (x y : ℕ) → 0 < ty x → ty x ≡ ty y → is_text t (at x) ≡ false → is_text t (at y) ≡ false
  as_other x y l e h = is_text_lem y (ty x) l (sym e) ∙ sym (is_text_lem x (ty x) l refl) ∙ h

  module _ (n : ℕ) (h : n < used) where
    under : (x : ℕ) → x < n → x < used
    under x l = omega (arith, l, h)

    pub others : (r : Record) → reach_ok_in lent_text t p r (node n) ≡ true → types_ok t rs r ≡ true → takes_of t rs r ≡ false → Others r
    unfolding reach_ok_in types_ok between_fits
    others kind.Invalid re k e = tt
    others (kind.Column c) re k e = tt
    others (kind.Literal s v) re k e = tt
    others (kind.Null s) re k e = tt
    others (kind.Binary o x y) re k e =
        let b = two n x.0 y.0 re in
        let q = binary-types o x.0 y.0 k in
        let z = other x.0 (under x.0 b.0) q.0 e in
        (z, as_other x.0 y.0 q.0 q.1 z)
    others (kind.Not x) re k e = is_text_lem x.0 3 (omega arith) (eqb-true _ 3 k)
    others (kind.IsNull x) re k e = other x.0 (under x.0 (one n x.0 re)) (ltb-true 0 _ k) e
    others (kind.IsNotNull x) re k e = other x.0 (under x.0 (one n x.0 re)) (ltb-true 0 _ k) e
    others (kind.IsBetween ends x low high) re k e =
        let b = three n x.0 low.0 high.0 re in
        let q = same-types (ty x.0) (ty low.0) (and_left (same_type (ty x.0) (ty low.0)) _ k) in
        let u = same-types (ty x.0) (ty high.0) (and_right (same_type (ty x.0) (ty low.0)) _ k) in
        let z = other x.0 (under x.0 b.0) q.0 e in
        (z, as_other x.0 low.0 q.0 q.1 z, as_other x.0 high.0 q.0 u.1 z)
    others (kind.List s marked start count) re k e = tt
    others (kind.IsIn equal x list) re k e =
        let b = two n x.0 list.0 re in
        let q = list-type x.0 (at list.0) k in
        let z = other x.0 (under x.0 b.0) q.0 e in
        (z, ap (λ s. eqb s 4) q.1 ∙ sym (is_text_lem x.0 (ty x.0) q.0 refl) ∙ z)

    pub texts : (r : Record) → reach_ok_in lent_text t p r (node n) ≡ true → types_ok t rs r ≡ true → takes_of t rs r ≡ true → Texts r
    unfolding reach_ok_in types_ok between_fits
    texts kind.Invalid re k e = true≢false (sym e)
    texts (kind.Column c) re k e = true≢false (sym e)
    texts (kind.Literal s v) re k e = true≢false (sym e)
    texts (kind.Null s) re k e = true≢false (sym e)
    texts (kind.Binary o x y) re k e =
        let b = two n x.0 y.0 re in
        let q = binary-types o x.0 y.0 k in
        let z = text x.0 (under x.0 b.0) q.0 e in
        (text-compares o x.0 y.0 k z, z, sym q.1 ∙ z)
    texts (kind.Not x) re k e =
        let q : ty x.0 ≡ 3 = eqb-true _ 3 k in
        let z = text x.0 (under x.0 (one n x.0 re)) (omega (arith, q)) e in omega (arith, q, z)
    texts (kind.IsNull x) re k e = text x.0 (under x.0 (one n x.0 re)) (ltb-true 0 _ k) e
    texts (kind.IsNotNull x) re k e = text x.0 (under x.0 (one n x.0 re)) (ltb-true 0 _ k) e
    texts (kind.IsBetween ends x low high) re k e =
        let b = three n x.0 low.0 high.0 re in
        let q = same-types (ty x.0) (ty low.0) (and_left (same_type (ty x.0) (ty low.0)) _ k) in
        let u = same-types (ty x.0) (ty high.0) (and_right (same_type (ty x.0) (ty low.0)) _ k) in
        let z = text x.0 (under x.0 b.0) q.0 e in
        (z, sym q.1 ∙ z, sym u.1 ∙ z)
    texts (kind.List s marked start count) re k e = true≢false (sym e)
    texts (kind.IsIn equal x list) re k e =
        let b = two n x.0 list.0 re in
        let q = list-type x.0 (at list.0) k in
        let z = text x.0 (under x.0 b.0) q.0 e in
        (z, subst (λ s. member_fits s (at list.0) ≡ true) z k)

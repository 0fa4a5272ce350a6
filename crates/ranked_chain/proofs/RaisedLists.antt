-- The lists of other types than Text lie behind the ranks. Assumes nothing.
use mathlib.Core.Path.{◌≡◌, refl, sym, ◌∙◌, ap, subst}
use mathlib.Core.Bool.{Bool, true, false, cond, not, ◌&&◌, true≢false}
use mathlib.Core.List.{List}
use mathlib.Core.Logic.{◌⊎◌, ⊎_elim}
use Prim.Native.Nat.{ℕ, ◌+◌, ◌*◌, ◌/◌, ◌%◌, ◌≤◌, ◌<◌}
use native.Mathlib.Omega.{arith}
use lib.Dec.{leb, eqb}
use lib.ListN.{length, get_or, set, length-set}
use lib.Seq.{get_or-set_same, get_or-set_other}
use borrow.Author.Tests.{eqb-true, leb-true}
use Rattle.records.specs.Bytes.{word}
use Rattle.records.specs.Record.{node, fields_at, decode, record_at}
use Rattle.records.specs.declared.record.Fields.{Fields}
use Rattle.records.proofs.Laws.{and_left, by-test}
use Rattle.record_check.specs.Fit.{list_ok_in, reach_ok_in}
use Rattle.checking.specs.Checked.{CheckedIn}
use Rattle.truth.proofs.Keys.{lt-or_le}
use Rattle.sorted.proofs.Parts.{last}
use Rattle.ranked_chain.specs.RankedChain.{is_text_literal, RankedLiterals, is_number_list, raised, RaisedAt, RaisedLists, ListsPooled}

-- ---- A list of a checked screen lies in its pool.
list-bound : (text : ℕ) (t p : List ℕ) (n : ℕ) (f : Fields) → f.kind ≡ 9 → reach_ok_in text t p (decode f) (node n) ≡ true
    → f.a + f.b ≤ length p / 8
unfolding decode reach_ok_in list_ok_in
list-bound text t p n f k e = leb-true (f.a + f.b) (length p / 8) (and_left (leb (f.a + f.b) (length p / 8)) _ (rw k at e))

module _ (text : ℕ) (t rs p : List ℕ) (used root : ℕ) (ok : CheckedIn text t rs p used root) where
  pub in_pool_lem : (i : ℕ) → i < used → (fields_at rs (node i)).kind ≡ 9 → (fields_at rs (node i)).a + (fields_at rs (node i)).b ≤ length p / 8
  unfolding record_at
  in_pool_lem i h k = list-bound text t p i (fields_at rs (node i)) k (ok.records i h).reach

  pub lists-pooled : length p ≤ 65536 → ListsPooled rs used
  lists-pooled l = record { inside = λ i h k. let b = in_pool_lem i h k in omega (arith, b, l) }

-- ---- The kinds.
pub literal-kind : (f : Fields) → is_text_literal f ≡ true → f.kind ≡ 2
unfolding is_text_literal
literal-kind f e = eqb-true f.kind 2 (and_left (eqb f.kind 2) _ e)

pub list-kind : (f : Fields) → is_number_list f ≡ true → f.kind ≡ 9
unfolding is_number_list
list-kind f e = eqb-true f.kind 9 (and_left (eqb f.kind 9) _ e)

pub no_literal : (f : Fields) → f.kind ≡ 9 → is_text_literal f ≡ false
no_literal f k = by-test (is_text_literal f) (λ e. let l = literal-kind f e in absurd (omega (arith, k, l))) (λ e. e)

pub no_list : (f : Fields) → f.kind ≡ 2 → is_number_list f ≡ false
no_list f k = by-test (is_number_list f) (λ e. let l = list-kind f e in absurd (omega (arith, k, l))) (λ e. e)

pub raised-same : (words : ℕ) (f : Fields) → is_number_list f ≡ false → raised words f ≡ f
unfolding raised
raised-same words f e = rw e

pub raised-kind : (words : ℕ) (f : Fields) → (raised words f).kind ≡ f.kind
unfolding raised
raised-kind words f = by-test (is_number_list f) (λ e. rw e) (λ e. rw e)

-- lists stay where they lie while literals are ranked
pub middle-pooled : (rs wide : List ℕ) (used : ℕ) (middle : List ℕ) → RankedLiterals rs wide used used middle → ListsPooled rs used
    → ListsPooled middle used
middle-pooled rs wide used middle r l =
    record {
      inside = λ i h k.
          let q : (fields_at rs (node i)).kind ≡ 9 = sym (r.kind i h) ∙ k in
          subst (λ f. f.a + f.b ≤ 8192) (sym (r.kept i h (no_literal (fields_at rs (node i)) q))) (l.inside i h q);
    }

-- ---- Two bytes of a start are written.
module _ (l : List ℕ) (i start : ℕ) (room : 16 * i + 16 ≤ length l) where
  abbrev out : List ℕ
  out = set (set l (16 * i + 4) (start % 256)) (16 * i + 4 + 1) (start / 256)

  byte_other : (j : ℕ) → (j ≡ 16 * i + 4 → ⊥) → (j ≡ 16 * i + 4 + 1 → ⊥) → get_or out j 0 ≡ get_or l j 0
  byte_other j a b =
      get_or-set_other (set l (16 * i + 4) (start % 256)) (16 * i + 4 + 1) j (start / 256) 0 (λ e. b (omega (arith, e)))
      ∙ get_or-set_other l (16 * i + 4) j (start % 256) 0 (λ e. a (omega (arith, e)))

  byte_before : (j : ℕ) → j < 16 * i + 4 → get_or out j 0 ≡ get_or l j 0
  byte_before j h = byte_other j (λ e. omega (arith, e, h)) (λ e. omega (arith, e, h))

  byte_after : (j : ℕ) → 16 * i + 6 ≤ j → get_or out j 0 ≡ get_or l j 0
  byte_after j h = byte_other j (λ e. omega (arith, e, h)) (λ e. omega (arith, e, h))

  word-before : (j : ℕ) → j + 3 < 16 * i + 4 → word out j ≡ word l j
  unfolding word
  word-before j h =
      rw (
        byte_before j (omega (arith, h)),
        byte_before (j + 1) (omega (arith, h)),
        byte_before (j + 2) (omega (arith, h)),
        byte_before (j + 3) (omega (arith, h)),
      )

  word_after : (j : ℕ) → 16 * i + 6 ≤ j → word out j ≡ word l j
  unfolding word
  word_after j h =
      rw (
        byte_after j (omega (arith, h)),
        byte_after (j + 1) (omega (arith, h)),
        byte_after (j + 2) (omega (arith, h)),
        byte_after (j + 3) (omega (arith, h)),
      )

  fields-before : (n : ℕ) → n < i → fields_at out (node n) ≡ fields_at l (node n)
  unfolding fields_at
  fields-before n h =
      rw (
        byte_before (16 * n) (omega (arith, h)),
        byte_before (16 * n + 1) (omega (arith, h)),
        byte_before (16 * n + 2) (omega (arith, h)),
        byte_before (16 * n + 3) (omega (arith, h)),
        word-before (16 * n + 4) (omega (arith, h)),
        word-before (16 * n + 8) (omega (arith, h)),
        word-before (16 * n + 12) (omega (arith, h)),
      )

  fields-after : (n : ℕ) → i < n → fields_at out (node n) ≡ fields_at l (node n)
  unfolding fields_at
  fields-after n h =
      rw (
        byte_after (16 * n) (omega (arith, h)),
        byte_after (16 * n + 1) (omega (arith, h)),
        byte_after (16 * n + 2) (omega (arith, h)),
        byte_after (16 * n + 3) (omega (arith, h)),
        word_after (16 * n + 4) (omega (arith, h)),
        word_after (16 * n + 8) (omega (arith, h)),
        word_after (16 * n + 12) (omega (arith, h)),
      )

  fields-other : (n : ℕ) → (n ≡ i → ⊥) → fields_at out (node n) ≡ fields_at l (node n)
  fields-other n d =
      ⊎_elim (λ (h : n < i). fields-before n h) (λ (h : i ≤ n). fields-after n (omega (arith, h, d))) (lt-or_le n i)

  low_byte : get_or out (16 * i + 4) 0 ≡ start % 256
  low_byte =
      get_or-set_other (set l (16 * i + 4) (start % 256)) (16 * i + 4 + 1) (16 * i + 4) (start / 256) 0 (λ e. omega (arith, e))
      ∙ get_or-set_same l (16 * i + 4) (start % 256) 0 (omega (arith, room))

  high_byte : get_or out (16 * i + 4 + 1) 0 ≡ start / 256
  high_byte =
      let e = length-set l (16 * i + 4) (start % 256) in
      get_or-set_same (set l (16 * i + 4) (start % 256)) (16 * i + 4 + 1) (start / 256) 0 (omega (arith, e, room))

  -- the bytes above are zero
  start-there : word l (16 * i + 4) ≤ 8192 → word out (16 * i + 4) ≡ start
  unfolding word
  start-there h =
      let a = low_byte in
      let b = high_byte in
      let c = byte_after (16 * i + 4 + 2) (omega arith) in
      let d = byte_after (16 * i + 4 + 3) (omega arith) in omega (arith, a, b, c, d, h)

  module _ (words : ℕ) (es : start ≡ words + word l (16 * i + 4)) (kind : is_number_list (fields_at l (node i)) ≡ true)
      (low : word l (16 * i + 4) ≤ 8192) where
    fields-here : fields_at out (node i) ≡ record {
      kind = (fields_at l (node i)).kind;
      code = (fields_at l (node i)).code;
      ty = (fields_at l (node i)).ty;
      zero = (fields_at l (node i)).zero;
      a = words + (fields_at l (node i)).a;
      b = (fields_at l (node i)).b;
      c = (fields_at l (node i)).c;
    }
    unfolding fields_at
    fields-here =
        rw (
          byte_before (16 * i) (omega arith),
          byte_before (16 * i + 1) (omega arith),
          byte_before (16 * i + 2) (omega arith),
          byte_before (16 * i + 3) (omega arith),
          start-there low,
          word_after (16 * i + 8) (omega arith),
          word_after (16 * i + 12) (omega arith),
          es,
        )

    pub list-raised : RaisedAt words i l out
    unfolding raised
    list-raised = record { here = fields-here ∙ rw kind; others = fields-other }

pub list-kept : (words i : ℕ) (l : List ℕ) → is_number_list (fields_at l (node i)) ≡ false → RaisedAt words i l l
list-kept words i l e = record { here = sym (raised-same words (fields_at l (node i)) e); others = λ n d. refl }

-- ---- One record more.
pub lists-none : (words : ℕ) (l : List ℕ) → RaisedLists words 0 l l
lists-none words l = record { done = λ i h. absurd (omega (arith, h)); rest = λ i h. refl }

pub lists-more : (words n : ℕ) (before old new : List ℕ) → RaisedLists words n before old → RaisedAt words n old new
    → RaisedLists words (n + 1) before new
lists-more words n before old new s r =
    record {
      done = λ i h.
          last i n h (λ (g : i < n). r.others i (λ e. omega (arith, e, g)) ∙ s.done i g)
          (λ (g : i ≡ n). subst (λ j. fields_at new (node j) ≡ raised words (fields_at before (node j))) (sym g)
          (r.here ∙ ap (raised words) (s.rest n (omega arith))));
      rest = λ i h. r.others i (λ e. omega (arith, e, h)) ∙ s.rest i (omega (arith, h));
    }

-- the start of a list, not yet raised, is low
pub start-low : (words n used : ℕ) (before old : List ℕ) → RaisedLists words n before old → ListsPooled before used → n < used
    → (fields_at old (node n)).kind ≡ 9 → (fields_at old (node n)).a ≤ 8192
start-low words n used before old s l h k =
    let e = s.rest n (omega arith) in
    let q : (fields_at before (node n)).kind ≡ 9 = sym (ap (λ f. f.kind) e) ∙ k in
    let b = l.inside n h q in
    let a = ap (λ f. f.a) e in omega (arith, a, b)

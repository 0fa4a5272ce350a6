-- The loop over the records of a block: the marked ones below n are held.
-- Assumes nothing.
use Rattle.std.proofs.Common.{◌≡◌, ℕ, ◌+◌, ◌*◌, ◌<◌, ◌≤◌, Bool, true, false, ◌&&◌, eqb, List, length, get_or, set, sym, ap, ◌∙◌, subst, true≢false, arith, get_or-set_other, get_or-set_same, eqb-true}
use borrow.Author.Tests.{eqb-false}
use Rattle.records.specs.Record.{fields_at, node}
use Rattle.records.specs.declared.record.Fields.{Fields}
use Rattle.records.proofs.Laws.{by-test, and_left, and_right}
use Rattle.masks.specs.declared.Masks.{Masks}
use Rattle.masks.specs.Masks.{Tells}
use Rattle.masks.specs.Block.{chain_truth, Ready, is_kept, masks_at, Held, Input, is_input, Turn, Closed}
use Rattle.row_blocks.proofs.Turns.{ready-below, first-row}

module _ (rs p : List ℕ) (columns : ℕ) (values nulls : List ℕ) (base rows : ℕ) where
  unfoldable pub Worked : List ℕ → List ℕ → List ℕ → ℕ → Type 0
  Worked marks truths unknowns n =
      (m : ℕ) → m < n → get_or marks m 0 ≡ 1 → Held rs p columns values nulls base rows truths unknowns m

  pub worked_none : (marks truths unknowns : List ℕ) → Worked marks truths unknowns 0
  unfolding Worked
  worked_none marks truths unknowns m h = absurd (omega arith)

  -- a record that is not marked, or not kept
  pub worked_skip : (marks truths unknowns : List ℕ) (n : ℕ) (f : Fields) → f ≡ fields_at rs (node n)
      → (eqb (get_or marks n 0) 1 && is_kept f) ≡ false → Worked marks truths unknowns n → Worked marks truths unknowns (n + 1)
  unfolding Worked Held
  worked_skip marks truths unknowns n f ef out w m h e =
      by-test (eqb m n)
      (λ z kept.
      let q : m ≡ n = eqb-true m n z in
      absurd (true≢false (sym (both (get_or marks n 0) (is_kept f) (subst (λ i. get_or marks i 0 ≡ 1) q e)
      (subst (λ g. is_kept g ≡ true) (sym (ef ∙ ap (λ i. fields_at rs (node i)) (sym q))) kept)) ∙ out)))
      (λ z kept. w m (let d : (m ≡ n → ⊥) = eqb-false m n z in omega (arith, h, d)) e kept)
    where
      both : (x : ℕ) (b : Bool) → x ≡ 1 → b ≡ true → (eqb x 1 && b) ≡ true
      both x b ex eb = rw (ex, eb)

  -- the words of one more
  pub worked_more : (marks truths unknowns : List ℕ) (n : ℕ) (m : Masks) → n < length truths → n < length unknowns
      → Tells rows m (λ i. chain_truth rs p columns values nulls n (base + i)) → Worked marks truths unknowns n
      → Worked marks (set truths n m.truths) (set unknowns n m.unknowns) (n + 1)
  unfolding Worked Held
  worked_more marks truths unknowns n m ht hu t w j h e kept =
      by-test (eqb j n)
      (λ z.
      let q : j ≡ n = eqb-true j n z in
      subst (λ i. Tells rows (masks_at (set truths n m.truths) (set unknowns n m.unknowns) i)
      (λ k. chain_truth rs p columns values nulls i (base + k))) (sym q)
      (rw (get_or-set_same truths n m.truths 0 ht, get_or-set_same unknowns n m.unknowns 0 hu) t))
      (λ z.
      let d : (j ≡ n → ⊥) = eqb-false j n z in
      rw (get_or-set_other truths n j m.truths 0 d, get_or-set_other unknowns n j m.unknowns 0 d)
      (w j (omega (arith, h, d)) e kept))

  pub worked_all : (marks truths unknowns : List ℕ) (n root : ℕ) → root < n → Worked marks truths unknowns n → (m : ℕ)
      → m < root + 1 → get_or marks m 0 ≡ 1 → Held rs p columns values nulls base rows truths unknowns m
  unfolding Worked
  worked_all marks truths unknowns n root h w m l e = w m (omega (arith, h, l)) e

  module _ (root : ℕ) (ok : Ready rs p columns values nulls base rows root) where
    pub ready-upto : (n : ℕ) → n ≤ root → Ready rs p columns values nulls base rows n
    ready-upto n h =
        by-test (eqb n root)
        (λ z. subst (λ i. Ready rs p columns values nulls base rows i) (sym (eqb-true n root z)) ok)
        (λ z.
        let d : (n ≡ root → ⊥) = eqb-false n root z in
        ready-below rs p columns values nulls base rows root n (omega (arith, h, d)) ok)

    pub there : (n : ℕ) → n ≤ root → 16 * n + 15 < length rs
    there n h = let r = (first-row rs p columns values nulls base rows root ok).room in omega (arith, r, h)

    -- a marked record's turn
    pub turn_of : (marks truths unknowns : List ℕ) (n : ℕ) (f : Fields) → n ≤ root → n < length truths → n < length unknowns
        → f ≡ fields_at rs (node n) → (eqb (get_or marks n 0) 1 && is_kept f) ≡ true → Closed rs marks 0 root
        → Worked marks truths unknowns n → Turn rs p columns values nulls base rows truths unknowns (node n) f
    unfolding Closed Worked
    turn_of marks truths unknowns n f h ht hu ef on closed w =
        let e : get_or marks n 0 ≡ 1 = eqb-true (get_or marks n 0) 1 (and_left (eqb (get_or marks n 0) 1) (is_kept f) on) in
        let k : is_kept f ≡ true = and_right (eqb (get_or marks n 0) 1) (is_kept f) on in
        record {
          ready = ready-upto n h;
          fed =
              λ m l i. w m l (closed n (omega arith) h e (subst (λ g. is_kept g ≡ true) ef k) m l
              (subst (λ g. is_input g m ≡ true) ef i));
          truths-room = ht;
          unknowns_room = hu;
          fields = ef;
          kept = k;
        }

    pub root-held : (marks truths unknowns : List ℕ) → root < length truths → root < length unknowns → get_or marks root 0 ≡ 1
        → ((m : ℕ) → m < root + 1 → get_or marks m 0 ≡ 1 → Held rs p columns values nulls base rows truths unknowns m)
        → Input rs p columns values nulls base rows truths unknowns root
    root-held marks truths unknowns ht hu e w =
        record { ready = ok; held = w root (omega arith) e; truths-room = ht; unknowns_room = hu }

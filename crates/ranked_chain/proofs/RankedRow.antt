-- A row with numbers in the place of its symbols makes of the screen of numbers what the row makes of the screen. Assumes nothing.
use mathlib.Core.Path.{◌≡◌, refl, sym, ◌∙◌, ap, subst, fun_ext}
use mathlib.Core.Bool.{Bool, true, false, cond, not, ◌&&◌, true≢false}
use mathlib.Core.List.{List, [], ◌∷◌, map}
use mathlib.Core.Option
use mathlib.Core.Option.{Option, none, some}
use Prim.Native.Nat.{ℕ, zero, suc, ◌+◌, ◌-◌, ◌*◌, ◌/◌, ◌≤◌, ◌<◌}
use native.Mathlib.Omega.{arith}
use lib.Dec.{ltb, leb, eqb}
use lib.IntN.{ℤ}
use lib.ListN.{length, get_or, get_or-eq_default}
use borrow.Author.Tests.{lt-ltb, le-ltb, ltb-true, ltb-false, leb-true, eqb-true, not-true}
use Rattle.records.specs.Bytes.{word, value_at}
use Rattle.records.specs.Record.{node, fields_at, decode, record_at}
use Rattle.records.specs.Shape.{in_pool}
use Rattle.records.specs.declared.record.Fields.{Fields}
use Rattle.records.specs.declared.record.Record.{Record}
use Rattle.records.specs.declared.record.Record.TheVariants as kind
use Rattle.records.proofs.Laws.{and_left, and_right, by-test}
use Rattle.record_check.specs.Fit.{list_ok_in, reach_ok_in}
use Rattle.checking.specs.Checked.{CheckedIn}
use Rattle.truth.specs.Halves.{ord_z, key}
use Rattle.truth.specs.AExpr.{AExpr, Literal, ListLiteral, map_aexpr}
use Rattle.truth.specs.FromBytes.{to_aexpr, aexpr_of, values_from, null_marked, row_keys, truth_keys, truth_in}
use Rattle.truth.specs.Evaluate.{row_truth}
use Rattle.truth.proofs.Agree.{cells_agree}
use Rattle.truth.proofs.Keys.{lt-or_le}
use Rattle.merge.proofs.Accepted.{binary-ind}
use Rattle.symbols.specs.Symbol.{symbol_key}
use Rattle.symbol_ranks.specs.Ranks.{Ranked, Pooled}
use Rattle.symbol_ranks.proofs.SameComparisons.{within-below, standing, standing_or_not}
use Rattle.symbol_screens.specs.Placed.{number, placed_from, placed_aexpr, placed_at, place_count, Standing}
use Rattle.symbol_screens.specs.Held.{Symbol, Number, key_in}
use Rattle.symbol_screens.specs.Reading.{held_at}
use Rattle.symbol_screens.specs.Rewriting.{lent}
use Rattle.symbol_screens.specs.Rows.{row_keys_with, truth_with}
use Rattle.symbol_screens.proofs.ColumnKinds.{kind_at}
use Rattle.symbol_screens.proofs.Ranked.{ranked_at}
use Rattle.symbol_screens.proofs.RankedRows.{NumberKey, SymbolAt, by_symbol, by_rank, row_places, row-kinds, ranked-truth}
use Rattle.symbol_reduction.proofs.TextInputs.{decode-ind, shape-kind}
use Rattle.symbol_rows.specs.RowTestWith.{row_fault_with}
use Rattle.symbol_reduction.proofs.TextLeaves.{row-long, column-pooled}
use Rattle.text_order.specs.Codes.{Codes}
use Rattle.row_ranks.specs.RowRanks.{holds_symbol, RowRanks}
use Rattle.ranked_screen.specs.Screen.{pool_value, RankedPool}
use Rattle.ranked_chain.specs.RankedChain.{is_text_literal, is_number_list, raised, WideRecords, ChainRanks}
use Rattle.ranked_chain.proofs.RaisedLists.{in_pool_lem, list-kind, no_list, raised-same}
use Rattle.ranked_chain.proofs.Slots as slots

-- ---- Past its end a row reads as 0.
past : (row : List ℕ) (k : ℕ) → length row ≤ 8 * k → value_at row k ≡ 0
unfolding value_at word
past row k h =
    let b : (j : ℕ) → 8 * k ≤ j → get_or row j 0 ≡ 0 = λ j g. get_or-eq_default row 0 (omega (arith, h, g)) in
    rw (
      b (8 * k) (omega arith),
      b (8 * k + 1) (omega arith),
      b (8 * k + 2) (omega arith),
      b (8 * k + 3) (omega arith),
      b (8 * k + 4) (omega arith),
      b (8 * k + 4 + 1) (omega arith),
      b (8 * k + 4 + 2) (omega arith),
      b (8 * k + 4 + 3) (omega arith),
    )

-- ---- A list, if it is one, is of type Text.
abbrev TextList : Record → Type 0
TextList kind.Invalid = Unit {0}
TextList (kind.Column c) = Unit {0}
TextList (kind.Literal ty v) = Unit {0}
TextList (kind.Null ty) = Unit {0}
TextList (kind.Binary o x y) = Unit {0}
TextList (kind.Not x) = Unit {0}
TextList (kind.IsNull x) = Unit {0}
TextList (kind.IsNotNull x) = Unit {0}
TextList (kind.IsBetween ends x low high) = Unit {0}
TextList (kind.List ty marked start count) = eqb ty 4 ≡ true
TextList (kind.IsIn equal x list) = Unit {0}

of_text : (b : Bool) → not b ≡ false → b ≡ true
of_text true e = refl
of_text false e = absurd (true≢false e)

text-list : (f : Fields) → (1 ≤ f.kind) × (f.kind ≤ 10) → is_number_list f ≡ false → TextList (decode f)
unfolding is_number_list
text-list f l e =
    decode-ind TextList f l (λ k. tt) (λ k. tt) (λ k. tt) (λ k. tt) (λ k. tt) (λ k. tt) (λ k. tt) (λ k. tt)
    (λ k. of_text (eqb f.ty 4) (rw k at e)) (λ k. tt)

number-type : (f : Fields) → is_number_list f ≡ true → eqb f.ty 4 ≡ false
unfolding is_number_list
number-type f e = not-true (eqb f.ty 4) (and_right (eqb f.kind 9) (not (eqb f.ty 4)) e)

decode-list : (f : Fields) → f.kind ≡ 9 → decode f ≡ kind.List f.ty (eqb f.code 1) f.a f.b
unfolding decode
decode-list f k = rw k

decode-raised : (words : ℕ) (f : Fields) → is_number_list f ≡ true
    → decode (raised words f) ≡ kind.List f.ty (eqb f.code 1) (words + f.a) f.b
unfolding raised decode
decode-raised words f e = let k = list-kind f e in rw (e, k)

-- ---- No literal of type Text.
abbrev NoText : Record → Type 0
NoText kind.Invalid = Unit {0}
NoText (kind.Column c) = Unit {0}
NoText (kind.Literal ty v) = eqb ty 4 ≡ false
NoText (kind.Null ty) = Unit {0}
NoText (kind.Binary o x y) = Unit {0}
NoText (kind.Not x) = Unit {0}
NoText (kind.IsNull x) = Unit {0}
NoText (kind.IsNotNull x) = Unit {0}
NoText (kind.IsBetween ends x low high) = Unit {0}
NoText (kind.List ty marked start count) = Unit {0}
NoText (kind.IsIn equal x list) = Unit {0}

no_text : (f : Fields) → (1 ≤ f.kind) × (f.kind ≤ 10) → is_text_literal f ≡ false → NoText (decode f)
unfolding is_text_literal
no_text f l e =
    decode-ind NoText f l (λ k. tt) (λ k. rw k at e) (λ k. tt) (λ k. tt) (λ k. tt) (λ k. tt) (λ k. tt) (λ k. tt) (λ k. tt) (λ k. tt)

text-literal : (f : Fields) → is_text_literal f ≡ true → (f.kind ≡ 2) × (f.ty ≡ 4)
unfolding is_text_literal
text-literal f e = (eqb-true _ _ (and_left (eqb f.kind 2) _ e), eqb-true _ _ (and_right (eqb f.kind 2) _ e))

decode-literal : (f : Fields) → f.kind ≡ 2 → decode f ≡ kind.Literal f.ty (f.b + 4294967296 * f.c)
unfolding decode
decode-literal f k = rw k

-- ---- What is read of the screen of numbers.
module _ (text t rs p : List ℕ) (used root : ℕ) (ok : CheckedIn (lent text) t rs p used root) (wide numbers : List ℕ) (count : ℕ)
    (enough : place_count p used ≤ count) (same : (i : ℕ) → i < place_count p used → get_or numbers i 0 ≡ get_or wide i 0)
    (out pool : List ℕ) (records : WideRecords rs wide (length p / 8) used out)
    (held : RankedPool p wide used (2 * (length p / 8)) pool) where
  abbrev by : Bool × ℕ → ℕ
  by v = standing_or_not numbers count v

  stands : (i : ℕ) → i < place_count p used → standing numbers count i ≡ get_or wide i 0
  stands i h = ap (λ j. get_or numbers j 0) (within-below count i (omega (arith, h, enough))) ∙ same i h

  -- the ranks stand in front
  rank-value : (k : ℕ) → k < length p / 8 → value_at pool k ≡ standing numbers count (used + k)
  unfolding pool_value
  rank-value k h =
      held.values k (omega (arith, h)) ∙ rw (lt-ltb k (length p / 8) h) (sym (stands (used + k) (omega (arith, h))))

  texts_from : (start c : ℕ) → start + c ≤ length p / 8 → values_from pool start c ≡ map by (placed_from used start c)
  unfolding values_from
  texts_from start zero h = refl
  texts_from start (suc c) h =
      λ i. rank-value start (omega (arith, h)) i ∷ texts_from (suc start) c (omega (arith, h)) i

  -- behind them the values
  moved_value : (k : ℕ) → k < length p / 8 → value_at pool (length p / 8 + k) ≡ value_at p k
  unfolding pool_value
  moved_value k h =
      held.values (length p / 8 + k) (omega (arith, h))
      ∙ (let q : length p / 8 + k - length p / 8 ≡ k = omega arith in
      rw (le-ltb (length p / 8 + k) (length p / 8) (omega arith), q))

  values_moved : (start c : ℕ) → start + c ≤ length p / 8
      → values_from pool (length p / 8 + start) c ≡ map by (map number (values_from p start c))
  unfolding values_from
  values_moved start zero h = refl
  values_moved start (suc c) h =
      let q : suc (length p / 8 + start) ≡ length p / 8 + suc start = omega arith in
      λ i. moved_value start (omega (arith, h)) i
      ∷ (ap (λ m. values_from pool m c) q ∙ values_moved (suc start) c (omega (arith, h))) i

  record_read : (n : ℕ) (r : Record) → NoText r → TextList r → reach_ok_in (lent text) t p r (node n) ≡ true
      → to_aexpr pool r ≡ map_aexpr by (placed_aexpr used p n r)
  unfolding reach_ok_in list_ok_in
  record_read n kind.Invalid l h k = refl
  record_read n (kind.Column c) l h k = refl
  record_read n (kind.Literal ty v) l h k = ap (λ b. Literal (by (cond b (true, n) (number v)))) (sym l)
  record_read n (kind.Null ty) l h k = refl
  record_read n (kind.Binary o x y) l h k =
      binary-ind (λ q. q ≡ map_aexpr by (map_aexpr number q)) x.0 y.0 refl (refl, refl) o (λ a c. refl)
      (λ a. (refl, refl)) (λ a d b. refl)
  record_read n (kind.Not x) l h k = refl
  record_read n (kind.IsNull x) l h k = refl
  record_read n (kind.IsNotNull x) l h k = refl
  record_read n (kind.IsBetween ends x low high) l h k = refl
  record_read n (kind.List ty marked start c) l h k =
      ap (ListLiteral marked) (texts_from start c (leb-true (start + c) (length p / 8) (and_left (leb (start + c) (length p / 8)) _ k))
      ∙ ap (λ b. map by (cond b (placed_from used start c) (map number (values_from p start c)))) (sym h))
  record_read n (kind.IsIn equal x list) l h k = refl

  abbrev F : ℕ → Fields
  F n = fields_at rs (node n)

  abbrev M : ℕ → Fields
  M n = fields_at records.middle (node n)

  abbrev G : ℕ → Fields
  G n = fields_at out (node n)

  literal-read : (n : ℕ) → n < used → is_text_literal (F n) ≡ true
      → to_aexpr pool (decode (G n)) ≡ map_aexpr by (placed_aexpr used p n (decode (F n)))
  literal-read n h e =
      let k = text-literal (F n) e in
      let m : (M n).kind ≡ 2 = records.literals.kind n h ∙ k.0 in
      ap (λ f. to_aexpr pool (decode f)) (records.lists.done n h ∙ raised-same (length p / 8) (M n) (no_list (M n) m))
      ∙ ap (to_aexpr pool) (decode-literal (M n) m)
      ∙ ap Literal (records.literals.ranked n h e ∙ sym (stands n (omega (arith, h))))
      ∙ ap (λ ty. Literal (by (cond (eqb ty 4) (true, n) (number ((F n).b + 4294967296 * (F n).c))))) (sym k.1)
      ∙ ap (λ r. map_aexpr by (placed_aexpr used p n r)) (sym (decode-literal (F n) k.0))

  raised-to : (n : ℕ) → n < used → is_text_literal (F n) ≡ false → G n ≡ raised (length p / 8) (F n)
  raised-to n h e = records.lists.done n h ∙ ap (raised (length p / 8)) (records.literals.kept n h e)

  list_read : (n : ℕ) → n < used → is_text_literal (F n) ≡ false → is_number_list (F n) ≡ true
      → to_aexpr pool (decode (G n)) ≡ map_aexpr by (placed_aexpr used p n (decode (F n)))
  list_read n h e d =
      let k = list-kind (F n) d in
      ap (λ f. to_aexpr pool (decode f)) (raised-to n h e)
      ∙ ap (to_aexpr pool) (decode-raised (length p / 8) (F n) d)
      ∙ ap (ListLiteral (eqb (F n).code 1)) (values_moved (F n).a (F n).b (in_pool_lem (lent text) t rs p used root ok n h k)
      ∙ ap (λ b. map by (cond b (placed_from used (F n).a (F n).b) (map number (values_from p (F n).a (F n).b))))
      (sym (number-type (F n) d)))
      ∙ ap (λ r. map_aexpr by (placed_aexpr used p n r)) (sym (decode-list (F n) k))

  kept_read : (n : ℕ) → n < used → is_text_literal (F n) ≡ false → is_number_list (F n) ≡ false
      → to_aexpr pool (decode (G n)) ≡ map_aexpr by (placed_aexpr used p n (decode (F n)))
  unfolding record_at
  kept_read n h e d =
      ap (λ f. to_aexpr pool (decode f)) (raised-to n h e ∙ raised-same (length p / 8) (F n) d)
      ∙ (let l = shape-kind (lent text) (F n) (ok.records n h).shape in
      record_read n (decode (F n)) (no_text (F n) l e) (text-list (F n) l d) (ok.records n h).reach)

  pub reads : (n : ℕ) → n < used → aexpr_of out pool n ≡ ranked_at rs p used numbers count n
  unfolding aexpr_of placed_at record_at
  reads n h =
      rw (lt-ltb n used h) (by-test (is_text_literal (F n)) (literal-read n h)
      (λ e. by-test (is_number_list (F n)) (list_read n h e) (kept_read n h e)))

-- ---- The row.
module _ (text t row : List ℕ) (nulls : ℕ) (C block : List ℕ) (told : RowRanks t C row nulls (length t) block)
    (long : length row ≡ 8 * length t) (as_long : length block ≡ 8 * length t) (values numbers : List ℕ) (n count : ℕ)
    (enough : n + length t ≤ count)
    (value_of : (c : ℕ) → c < length t → holds_symbol t nulls c ≡ true → get_or values (n + c) 0 ≡ value_at row c)
    (number_of : (c : ℕ) → c < length t → holds_symbol t nulls c ≡ true → get_or numbers (n + c) 0 ≡ value_at block c) where
  text-column : (c : ℕ) → kind_at t c ≡ true → c < length t
  text-column c e =
      by-test (ltb c (length t)) (ltb-true c (length t))
      (λ f. let l : length t ≤ c = ltb-false c (length t) f in
      let z : get_or t c 0 ≡ 0 = get_or-eq_default t 0 l in
      let q : get_or t c 0 ≡ 4 = eqb-true (get_or t c 0) 4 e in absurd (omega (arith, z, q)))

  holds : (c : ℕ) → null_marked nulls c ≡ false → kind_at t c ≡ true → holds_symbol t nulls c ≡ true
  unfolding holds_symbol
  holds c e k = rw (e, k)

  free : (c : ℕ) → kind_at t c ≡ false → holds_symbol t nulls c ≡ false
  unfolding holds_symbol
  free c k = rw k

  stays : (c : ℕ) → kind_at t c ≡ false → value_at row c ≡ value_at block c
  stays c k =
      by-test (ltb c (length t)) (λ e. sym (told.kept c (ltb-true c (length t) e) (free c k)))
      (λ e. let l : length t ≤ c = ltb-false c (length t) e in
      past row c (omega (arith, long, l)) ∙ sym (past block c (omega (arith, as_long, l))))

  there : (l : List ℕ) (c : ℕ) → c < length t → standing l count (n + c) ≡ get_or l (n + c) 0
  there l c h = ap (λ j. get_or l j 0) (within-below count (n + c) (omega (arith, h, enough)))

  by-symbol : (c : ℕ) → row_keys_with text t row nulls c ≡ Option.map (by_symbol text values count) (row_places t row nulls n c)
  unfolding row_keys_with
  by-symbol c = go (null_marked nulls c) (kind_at t c) refl refl
    where
      go : (b k : Bool) → null_marked nulls c ≡ b → kind_at t c ≡ k
          → cond b none (some (key_in text (cond k (Symbol (value_at row c)) (Number (value_at row c)))))
          ≡ Option.map (by_symbol text values count) (cond b none (some (cond k (SymbolAt (n + c)) (NumberKey (key (value_at row c))))))
      go true k e f = refl
      go false true e f =
          let l = text-column c f in
          ap (λ v. some (symbol_key text v)) (sym (there values c l ∙ value_of c l (holds c e f)))
      go false false e f = refl

  by_number : (c : ℕ) → Option.map (by_rank numbers count) (row_places t row nulls n c) ≡ row_keys block nulls c
  unfolding row_keys
  by_number c = go (null_marked nulls c) (kind_at t c) refl refl
    where
      go : (b k : Bool) → null_marked nulls c ≡ b → kind_at t c ≡ k
          → Option.map (by_rank numbers count) (cond b none (some (cond k (SymbolAt (n + c)) (NumberKey (key (value_at row c))))))
          ≡ cond b none (some (key (value_at block c)))
      go true k e f = refl
      go false true e f =
          let l = text-column c f in
          ap (λ v. some (key v)) (there numbers c l ∙ number_of c l (holds c e f))
      go false false e f = ap (λ v. some (key v)) (stays c f)

-- ---- A row without a fault, of a checked screen.
module _ (text t rs p : List ℕ) (used root : ℕ) (ok : CheckedIn (lent text) t rs p used root) (sizes : place_count p used ≤ 12288)
    (narrow : length t ≤ 64) (bytes : (q : ℕ) → get_or text q 0 < 256) (C out pool : List ℕ) (codes : Codes text C)
    (ranks : ChainRanks text rs p used C out pool) (row : List ℕ) (nulls : ℕ) (fault : row_fault_with text t row nulls ≡ 0)
    (block : List ℕ) (as_long : length block ≡ 8 * length t) (told : RowRanks t C row nulls (length t) block) where
  abbrev n : ℕ
  n = place_count p used

  first : 0 < n
  first = let h = ok.root-used in omega (arith, h)

  inside : (c : ℕ) → c < length t → holds_symbol t nulls c ≡ true → in_pool (length text) (value_at row c) ≡ true
  unfolding holds_symbol
  inside c l h =
      column-pooled text t row nulls fault c l (eqb-true (get_or t c 0) 4 (and_left (eqb (get_or t c 0) 4) _ h))
      (not-true (null_marked nulls c) (and_right (eqb (get_or t c 0) 4) (not (null_marked nulls c)) h))

  abbrev values : List ℕ
  values =
      slots.all_values text ranks.values ranks.wide n first ranks.pooled C codes ranks.numbered t row nulls block told inside

  abbrev numbers : List ℕ
  numbers =
      slots.all_numbers text ranks.values ranks.wide n first ranks.pooled C codes ranks.numbered t row nulls block told inside

  abbrev count : ℕ
  count = 262144 + n + length t

  wide : (i : ℕ) → i < n → get_or numbers i 0 ≡ get_or ranks.wide i 0
  wide i h =
      slots.number-of_screen text ranks.values ranks.wide n first ranks.pooled C codes ranks.numbered t row nulls block told inside i h

  standing-all : Standing (length text) rs p used values
  standing-all =
      record {
        stands = λ i h.
            slots.value-of_screen text ranks.values ranks.wide n first ranks.pooled C codes ranks.numbered t row nulls block told inside i h ∙ ranks.standing.stands i h;
      }

  value_of : (c : ℕ) → c < length t → holds_symbol t nulls c ≡ true → get_or values (n + c) 0 ≡ value_at row c
  value_of c l h =
      slots.value-of_row text ranks.values ranks.wide n first ranks.pooled C codes ranks.numbered t row nulls block told inside c l h

  number_of : (c : ℕ) → c < length t → holds_symbol t nulls c ≡ true → get_or numbers (n + c) 0 ≡ value_at block c
  number_of c l h =
      slots.number-of_row text ranks.values ranks.wide n first ranks.pooled C codes ranks.numbered t row nulls block told inside c l h

  small : count ≤ 9223372036854775808
  small = omega (arith, sizes, narrow)

  enough_screen : n ≤ count
  enough_screen = omega arith

  enough_row : n + length t ≤ count
  enough_row = omega arith

  pub ranked-row : truth_with text (held_at rs p used) (row_keys_with text t row nulls) root ≡ row_truth out pool block nulls root
  ranked-row =
      ap (λ (r : ℕ → Option ℤ). truth_with text (held_at rs p used) r root)
      (fun_ext (by-symbol text t row nulls C block told (row-long text t row nulls fault) as_long values numbers n count enough_row
      value_of number_of))
      ∙ ranked-truth text t rs p used root ok values numbers standing-all count enough_screen bytes
      (slots.all_pooled text ranks.values ranks.wide n first ranks.pooled C codes ranks.numbered t row nulls block told inside)
      small
      (slots.all_ranked text ranks.values ranks.wide n first ranks.pooled C codes ranks.numbered t row nulls block told inside)
      (row_places t row nulls n) (row-kinds t row nulls n)
      ∙ ap (λ (r : ℕ → Option ℤ). truth_in (ranked_at rs p used numbers count) r root)
      (fun_ext (by_number text t row nulls C block told (row-long text t row nulls fault) as_long values numbers n count enough_row
      value_of number_of))
      ∙ ap (λ c. c.truth)
      (cells_agree key ord_z truth_keys (ranked_at rs p used numbers count) (aexpr_of out pool) (row_keys block nulls) used
      (λ k h. sym (reads text t rs p used root ok ranks.wide numbers count enough_screen
      wide out pool ranks.records ranks.held k h)) root ok.root-used)

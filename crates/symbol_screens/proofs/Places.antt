-- A checked screen with symbols is the screen of its places, with what stands there.
use mathlib.Core.Path.{◌≡◌, refl, sym, ◌∙◌, ap}
use mathlib.Core.Bool.{Bool, true, false, cond, ◌&&◌}
use mathlib.Core.List.{List, [], ◌∷◌, map}
use Prim.Native.Nat.{ℕ, zero, suc, ◌+◌, ◌-◌, ◌*◌, ◌/◌, ◌≤◌, ◌<◌}
use native.Mathlib.Omega.{arith}
use lib.Dec.{ltb, leb, eqb}
use lib.ListN.{length, get_or}
use borrow.Author.Tests.{ltb-true, lt-ltb, le-ltb, leb-true, eqb-true, ne_eqb}
use Rattle.records.specs.Bytes.{value_at, all}
use Rattle.records.specs.Record.{node, fields_at, decode, record_at}
use Rattle.records.specs.Shape.{in_pool, in_type_in, known_ok_in, unused_ok, literal_ok_in, shape_ok_in}
use Rattle.records.specs.declared.operator.Operator.{Operator}
use Rattle.records.specs.declared.record.Fields.{Fields}
use Rattle.records.specs.declared.record.Record.{Record}
use Rattle.records.specs.declared.record.Record.TheVariants as kind
use Rattle.records.proofs.Laws.{and_left, and_right}
use Rattle.records.proofs.Loops.{all_holds}
use Rattle.record_check.specs.Fit.{all_fit_in, list_ok_in, reach_ok_in}
use Rattle.checking.specs.Checked.{CheckedIn}
use Rattle.truth.specs.AExpr.{AExpr, Literal, ListLiteral, Missing, BinaryExpr, BinaryOp, map_aexpr}
use Rattle.truth.specs.FromBytes.{binary_expr, to_aexpr, values_from}
use Rattle.merge.proofs.Accepted.{binary-ind}
use Rattle.symbol_ranks.proofs.SameComparisons.{within, standing, within-below}
use Rattle.symbol_screens.specs.Held.{Held, Number, Symbol, held}
use Rattle.symbol_screens.specs.Reading.{value_type, held_aexpr, held_at}
use Rattle.symbol_screens.specs.Placed.{Placed, number, placed_from, placed_aexpr, placed_at, literal_bits, word_at, place_count, Standing}

-- ---- Number 4: a literal of type 4 lies in the text pool.
abbrev LiteralIn : ℕ → Record → Type 0
LiteralIn text kind.Invalid = Unit {0}
LiteralIn text (kind.Column c) = Unit {0}
LiteralIn text (kind.Literal ty v) = in_type_in text ty v ≡ true
LiteralIn text (kind.Null ty) = Unit {0}
LiteralIn text (kind.Binary o x y) = Unit {0}
LiteralIn text (kind.Not x) = Unit {0}
LiteralIn text (kind.IsNull x) = Unit {0}
LiteralIn text (kind.IsNotNull x) = Unit {0}
LiteralIn text (kind.IsBetween k x low high) = Unit {0}
LiteralIn text (kind.List ty marked start count) = Unit {0}
LiteralIn text (kind.IsIn equal x list) = Unit {0}

pick : (text : ℕ) (b : Bool) (x y : Record) → (b ≡ true → LiteralIn text x) → LiteralIn text y → LiteralIn text (cond b x y)
pick text true x y h k = h refl
pick text false x y h k = k

literal-in : (text : ℕ) (f : Fields) → shape_ok_in text f ≡ true → LiteralIn text (decode f)
unfolding shape_ok_in literal_ok_in decode
literal-in text f h =
    let l = and_right (unused_ok f) (literal_ok_in text f) (and_right (known_ok_in text f) (unused_ok f && literal_ok_in text f) h) in
    pick text (eqb f.kind 1) _ _ (λ e. tt)
    (pick text (eqb f.kind 2) _ _ (λ e. rw e at l)
    (pick text (eqb f.kind 3) _ _ (λ e. tt)
    (pick text (eqb f.kind 4) _ _ (λ e. tt)
    (pick text (eqb f.kind 5) _ _ (λ e. tt)
    (pick text (eqb f.kind 6) _ _ (λ e. tt)
    (pick text (eqb f.kind 7) _ _ (λ e. tt)
    (pick text (eqb f.kind 8) _ _ (λ e. tt)
    (pick text (eqb f.kind 9) _ _ (λ e. tt)
    (pick text (eqb f.kind 10) _ _ (λ e. tt) tt)))))))))

-- a value of type 4 lies in the pool
text_in : (size ty v : ℕ) → eqb ty 4 ≡ true → in_type_in (suc size) ty v ≡ true → in_pool size v ≡ true
unfolding in_type_in
text_in size ty v e h =
    let q : ty ≡ 4 = eqb-true ty 4 e in
    let z : eqb (suc size) 0 ≡ false = ne_eqb (suc size) 0 (λ k. omega (arith, k)) in
    go (rw (q, z) at h)
  where
    go : in_pool (suc size - 1) v ≡ true → in_pool size v ≡ true
    go k = let q : suc size - 1 ≡ size = omega arith in rw q at k

-- what a place is taken to
abbrev pub held_by : List ℕ → ℕ → Placed → Held
held_by values n v = cond v.0 (Symbol (standing values n v.1)) (Number v.1)

module _ (size : ℕ) (t rs p : List ℕ) (used root : ℕ) (ok : CheckedIn (suc size) t rs p used root) (values : List ℕ)
    (st : Standing size rs p used values) (count : ℕ) (enough : place_count p used ≤ count) where
  abbrev by : Placed → Held
  by v = held_by values count v

  -- a place whose word lies in the pool has it
  stands_at : (i w : ℕ) → i < place_count p used → word_at rs p used i ≡ w → in_pool size w ≡ true → standing values count i ≡ w
  stands_at i w h e k =
      ap (λ j. get_or values j 0) (within-below count i (omega arith))
      ∙ st.stands i h
      ∙ ap (λ x. cond (in_pool size x) x 0) e
      ∙ ap (λ b. cond b w 0) k

  literal-at : (n ty v : ℕ) → n < used → record_at rs (node n) ≡ kind.Literal ty v → in_type_in (suc size) ty v ≡ true →
      (b : Bool) → eqb ty 4 ≡ b → cond b (Symbol v) (Number v) ≡ by (cond b (true, n) (number v))
  unfolding word_at
  literal-at n ty v h e k true q =
      ap Symbol (sym (stands_at n v (omega arith) (rw (lt-ltb n used h) (ap literal_bits e)) (text_in size ty v q k)))
  literal-at n ty v h e k false q = refl

  list_at : (ty start c : ℕ) → start + c ≤ length p / 8 → eqb ty 4 ≡ true →
      ((k : ℕ) → k < c → in_type_in (suc size) ty (value_at p (start + k)) ≡ true) →
      map (held ty) (values_from p start c) ≡ map by (placed_from used start c)
  unfolding values_from word_at
  list_at ty start zero h e f = refl
  list_at ty start (suc c) h e f = λ i. first i ∷ list_at ty (suc start) c (omega arith) e rest i
    where
      here : in_type_in (suc size) ty (value_at p start) ≡ true
      here = let q : start + 0 ≡ start = omega arith in rw q at (f 0 (omega arith))

      word : word_at rs p used (used + start) ≡ value_at p start
      word = let q : used + start - used ≡ start = omega arith in rw (le-ltb (used + start) used (omega arith), q)

      first : held ty (value_at p start) ≡ by (true, used + start)
      first = rw e (ap Symbol (sym (stands_at (used + start) (value_at p start) (omega arith) word (text_in size ty _ e here))))

      rest : (k : ℕ) → k < c → in_type_in (suc size) ty (value_at p (suc start + k)) ≡ true
      rest k l = let q : start + suc k ≡ suc start + k = omega arith in rw q at (f (suc k) (omega arith))

  numbers-at : (ty : ℕ) (l : List ℕ) → eqb ty 4 ≡ false → map (held ty) l ≡ map by (map number l)
  numbers-at ty [] e = refl
  numbers-at ty (v ∷ l) e = λ i. ap (λ b. cond b (Symbol v) (Number v)) e i ∷ numbers-at ty l e i

  record_at_lem : (n : ℕ) → n < used → (r : Record) → record_at rs (node n) ≡ r → LiteralIn (suc size) r →
      reach_ok_in (suc size) t p r (node n) ≡ true → held_aexpr p r ≡ map_aexpr by (placed_aexpr used p n r)
  unfolding reach_ok_in list_ok_in all_fit_in
  record_at_lem n h kind.Invalid e l k = refl
  record_at_lem n h (kind.Column c) e l k = refl
  record_at_lem n h (kind.Literal ty v) e l k = ap Literal (literal-at n ty v h e l (eqb ty 4) refl)
  record_at_lem n h (kind.Null ty) e l k = refl
  record_at_lem n h (kind.Binary o x y) e l k =
      binary-ind (λ q. map_aexpr (held 0) q ≡ map_aexpr by (map_aexpr number q)) x.0 y.0 refl (refl, refl) o (λ a c. refl)
      (λ a. (refl, refl)) (λ a d b. refl)
  record_at_lem n h (kind.Not x) e l k = refl
  record_at_lem n h (kind.IsNull x) e l k = refl
  record_at_lem n h (kind.IsNotNull x) e l k = refl
  record_at_lem n h (kind.IsBetween ends x low high) e l k = refl
  record_at_lem n h (kind.List ty holds start c) e l k = ap (ListLiteral holds) (go (eqb ty 4) refl)
    where
      low : start + c ≤ length p / 8
      low = leb-true (start + c) (length p / 8) (and_left (leb (start + c) (length p / 8)) _ k)

      each : (j : ℕ) → j < c → in_type_in (suc size) ty (value_at p (start + j)) ≡ true
      each j q =
          all_holds (λ (i : ℕ). in_type_in (suc size) ty (value_at p (start + i))) j c q
          (and_right (leb (start + c) (length p / 8)) _ k)

      go : (b : Bool) → eqb ty 4 ≡ b →
          map (held ty) (values_from p start c) ≡ map by (cond b (placed_from used start c) (map number (values_from p start c)))
      go true q = list_at ty start c low q each
      go false q = numbers-at ty (values_from p start c) q
  record_at_lem n h (kind.IsIn equal x list) e l k = refl

  pub held-placed : (n : ℕ) → held_at rs p used n ≡ map_aexpr by (placed_at rs p used n)
  unfolding held_at placed_at record_at
  held-placed n = go (ltb n used) refl
    where
      go : (b : Bool) → ltb n used ≡ b →
          cond b (held_aexpr p (record_at rs (node n))) Missing ≡
          map_aexpr by (cond b (placed_aexpr used p n (record_at rs (node n))) Missing)
      go true e =
          let h = ltb-true n used e in
          record_at_lem n h (record_at rs (node n)) refl (literal-in (suc size) (fields_at rs (node n)) (ok.records n h).shape)
          (ok.records n h).reach
      go false e = refl

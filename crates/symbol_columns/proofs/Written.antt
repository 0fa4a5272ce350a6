-- The comparisons of a merging of ranks, with the literals behind their limits, are those of the merging of the symbols.
use mathlib.Core.Path.{◌≡◌, refl, sym, ◌∙◌, ap, subst}
use mathlib.Core.Bool.{Bool, true, false, cond, true≢false}
use mathlib.Core.List.{List, [], ◌∷◌, ◌++◌, map, map-append}
use mathlib.Core.Logic.{◌⊎◌, inl, inr, ⊎_elim}
use Prim.Native.Nat.{ℕ, zero, suc, ◌+◌, ◌*◌, ◌/◌, ◌%◌, ◌≤◌, ◌<◌}
use native.Mathlib.Omega.{arith}
use lib.Dec.{ltb}
use borrow.Author.Tests.{ltb-true}
use lib.IntN.{ℤ, pos, negsuc}
use lib.ListN.{length, get_or}
use mir.Syntax.{w64}
use mir.ValLaws.{to_z_pos}
use Rattle.records.proofs.Laws.{by-test}
use Rattle.records.specs.Shape.{length_of, in_pool}
use Rattle.checking.specs.Checked.{CheckedIn}
use Rattle.truth.specs.Halves.{ord_z, twice, key}
use Rattle.truth.specs.Order.{View, equal_view, greater_view, less_view, is_equal}
use Rattle.std.specs.declared.cmp.Ordering.{Ordering}
use Rattle.std.specs.declared.cmp.Ordering.TheVariants.{Equal}
use Rattle.truth.proofs.Orders.{total-z, cmp-refl}
use Rattle.truth.specs.AExpr.{AExpr}
use Rattle.truth.specs.FromBytes.{aexpr_at}
use Rattle.symbols.specs.Symbol.{symbol, cmp_bytes, or_else}
use Rattle.symbols.proofs.Comparing.{short}
use Rattle.constraints.specs.Bound.{Bound, at}
use Rattle.constraints.specs.Column.{Constraint, Lower, Upper, Exclude, Allow, Disallow, Require}
use Rattle.constraints.specs.Comparisons.{ColumnComparison, IsEq, IsLower, IsUpper, IsNotEq, collect_column_comparisons}
use Rattle.constraints.specs.Lined.{Lined, lined}
use Rattle.constraints.specs.LineKept.{Limit, LowerBound, UpperBound, ExcludedValue, OneOf, all_given_as}
use Rattle.constraints.specs.Mapped.{map_bound, map_comparison}
use Rattle.constraints.specs.Resolve.{fixed_at}
use Rattle.constraints.specs.Scalars.{scalar_cmp}
use Rattle.constraints.proofs.LineKept.{Each}
use Rattle.column_constraints.specs.Abstraction.{Conjuncts}
use Rattle.column_table.specs.State.{ColumnTable}
use Rattle.merge.specs.Classify.{Conjunct, Bounds, Normalized, Equality, Recorded, NonNullPair, Opaque, classify, read_conjuncts}
use Rattle.merge.specs.Emit.{is_fixed, comparisons}
use Rattle.merge.specs.Lines.{map_comparisons}
use Rattle.merge.specs.Rebuild.{value_of}
use Rattle.read_operands.specs.Walk.{first_of}
use Rattle.read_operands.proofs.Walks.{first-length}
use Rattle.rewrite.specs.Told.{Told, ToldConjunct}
use Rattle.symbol_ranks.specs.Ranks.{Ranked, Pooled}
use Rattle.symbol_ranks.proofs.SameComparisons.{within, standing, standing_or_not}
use Rattle.symbol_screens.specs.Held.{Held, Symbol, Number, bits_of}
use Rattle.symbol_screens.specs.Rewriting.{lent}
use Rattle.symbol_screens.specs.Placed.{Placed, place_count, Standing}
use Rattle.symbol_screens.proofs.ColumnKinds.{is_symbol, kind_at}
use Rattle.symbol_screens.proofs.Places.{held_by}
use Rattle.symbol_sources.specs.Sources.{LinedPlace, limits_of, limits_at, giver, given_limit, GivenIn}
use Rattle.symbol_sources.proofs.Sources.{rank_on, Sourced}
use Rattle.symbol_columns.specs.Literals.{conjunct_literal, literal_behind, literal_limit, literal_column, literal_table}
use Rattle.symbol_columns.proofs.GivenLiterals.{is_upper, gives-literal, excludes_literal}
use Rattle.symbol_columns.proofs.Compared.{has_both, converted, Apart, column-converted, kept, column-kept, converted_if}
use Rattle.symbol_columns.proofs.Compared.{converted_in, all_converted, in_comparisons}

-- ---- what conjunct number j of an array gives
limits_snoc : {A : Type 0} (l : List (Conjunct A)) (y : Conjunct A) (j : ℕ) (k : Limit) (v : A) →
    OneOf v (limits_at (l ++ (y ∷ [])) j k) → OneOf v (limits_at l j k) ⊎ ((j ≡ length l) × OneOf v (limits_of y k))
limits_snoc [] y zero k v i = inr (refl, i)
limits_snoc [] y (suc j) k v i = absurd i
limits_snoc (x ∷ l) y zero k v i = inl i
limits_snoc (x ∷ l) y (suc j) k v i =
    ⊎_elim (λ h. inl h) (λ (h : (j ≡ length l) × OneOf v (limits_of y k)). inr (ap suc h.0, h.1)) (limits_snoc l y j k v i)

mapped_length : {A B : Type 0} (f : A → B) (l : List A) → length (map f l) ≡ length l
mapped_length f [] = refl
mapped_length f (x ∷ l) = ap suc (mapped_length f l)

limits_first : (R : ℕ → AExpr ℕ) (nodes : List ℕ) (n j : ℕ) (k : Limit) (v : ℕ) →
    OneOf v (limits_at (map (classify R) (first_of nodes n)) j k) → (j < n) × OneOf v (limits_of (classify R (get_or nodes j 0)) k)
unfolding first_of
limits_first R nodes zero j k v i = absurd i
limits_first R nodes (suc n) j k v i =
    ⊎_elim
    (λ (h : OneOf v (limits_at (map (classify R) (first_of nodes n)) j k)).
    let g = limits_first R nodes n j k v h in let l = g.0 in (omega (arith, l), g.1))
    (λ (h : (j ≡ length (map (classify R) (first_of nodes n))) × OneOf v (limits_of (classify R (get_or nodes n 0)) k)).
    let e : j ≡ n = h.0 ∙ mapped_length (classify R) (first_of nodes n) ∙ first-length nodes n in
    (omega (arith, e), subst (λ m. OneOf v (limits_of (classify R (get_or nodes m 0)) k)) (sym e) h.1))
    (limits_snoc (map (classify R) (first_of nodes n)) (classify R (get_or nodes n 0)) j k v
    (subst (λ l. OneOf v (limits_at l j k)) (map-append (classify R) (first_of nodes n) (get_or nodes n 0 ∷ [])) i))

-- the tables have what a conjunct excludes
told-excluded : (s : Conjuncts) (j : ℕ) (l : List (Constraint ℕ)) (v : ℕ) → Told s j l → OneOf v (all_given_as l ExcludedValue) →
    get_or s.values j 0 ≡ v
told-excluded s j [] v h i = absurd i
told-excluded s j (Lower c w ∷ l) v h i = told-excluded s j l v h.1 i
told-excluded s j (Upper c w ∷ l) v h i = told-excluded s j l v h.1 i
told-excluded s j (Exclude w ∷ l) v h (inl e) = h.0.1 ∙ sym e
told-excluded s j (Exclude w ∷ l) v h (inr i) = told-excluded s j l v h.1 i
told-excluded s j (Allow m ∷ l) v h i = told-excluded s j l v h.1 i
told-excluded s j (Disallow c m ∷ l) v h i = told-excluded s j l v h.1 i
told-excluded s j (Require m ∷ l) v h i = told-excluded s j l v h.1 i

conjunct-excluded : (s : Conjuncts) (j : ℕ) (x : Conjunct ℕ) (v : ℕ) → ToldConjunct s j x → OneOf v (limits_of x ExcludedValue) →
    get_or s.values j 0 ≡ v
conjunct-excluded s j (Bounds c l) v h i = told-excluded s j l v h i
conjunct-excluded s j (Normalized c l) v h i = told-excluded s j l v h i
conjunct-excluded s j (Equality a b n) v h i = absurd i
conjunct-excluded s j (Recorded stops n c l) v h i = told-excluded s j l v h i
conjunct-excluded s j (NonNullPair n a b) v h i = absurd i
conjunct-excluded s j (Opaque n) v h i = absurd i

-- ---- equal literals name equal symbols
is_equal-key : (a b : ℤ) → is_equal (ord_z.cmp a b) ≡ true → a ≡ b
is_equal-key a b e = go (total-z.view a b) e
  where
    go : {o : Ordering} → View ord_z.less a b o → is_equal o ≡ true → a ≡ b
    go (less_view h) e = absurd (true≢false (sym e))
    go (equal_view h) e = h
    go (greater_view h) e = absurd (true≢false (sym e))

abbrev half : ℤ → ℕ
half (pos n) = n
half (negsuc n) = n

small_same : (x y : ℕ) → x < 9223372036854775808 → y < 9223372036854775808 → key x ≡ key y → x ≡ y
small_same x y h k e =
    let q : x + x ≡ y + y = ap half (sym (ap twice (to_z_pos w64 x h)) ∙ e ∙ ap twice (to_z_pos w64 y k)) in omega (arith, q)

bytes_same : (l : List ℕ) → cmp_bytes l l ≡ Equal
bytes_same [] = refl
bytes_same (x ∷ l) = ap (λ o. or_else o (cmp_bytes l l)) (cmp-refl total-z (pos x)) ∙ bytes_same l

pooled-small : (size v : ℕ) → in_pool size v ≡ true → v < 9223372036854775808
pooled-small size v e = let h : v / 4294967296 ≤ 16 = short size v e in omega (arith, h)

-- A place with its lines, by the 64 bits that stand there.
abbrev pub bits_on : List ℕ → ℕ → LinedPlace → Lined
bits_on values count v = record { bits = bits_of (held_by values count v.placed); line = v.line; opener = v.opener }

-- An excluded value is taken to what the tables have for its conjunct.
abbrev pub excluded_in : List ℕ → Lined → Lined
excluded_in values v = record { bits = get_or values v.line 0; line = v.line; opener = v.opener }

back_in : {A : Type 0} (f : A → Lined) (cs : List (ℕ × ColumnComparison A)) (y : ℕ × ColumnComparison Lined) →
    OneOf y (map_comparisons f cs) → (x : ℕ × ColumnComparison A) × OneOf x cs × (y ≡ (x.0, map_comparison f x.1))
back_in f [] y i = absurd i
back_in f (x ∷ cs) y (inl e) = (x, inl refl, e)
back_in f (x ∷ cs) y (inr i) = let r = back_in f cs y i in (r.0, inr r.1, r.2)

value-mapped : {A B : Type 0} (f : A → B) (x : ColumnComparison A) → value_of (map_comparison f x) ≡ f (value_of x)
value-mapped f (IsEq v) = refl
value-mapped f (IsLower c v) = refl
value-mapped f (IsUpper c v) = refl
value-mapped f (IsNotEq v) = refl

module _ (text t rs p : List ℕ) (used root : ℕ) (ok : CheckedIn (lent text) t rs p used root) (values ranks : List ℕ)
    (st : Standing (length text) rs p used values) (count : ℕ) (enough : place_count p used ≤ count)
    (pooled : Pooled text values count) (ranked : Ranked text values count ranks)
    (nodes : List ℕ) (n : ℕ) (R : ℕ → AExpr ℕ) (are : read_conjuncts (aexpr_at rs p used) root ≡ map (classify R) (first_of nodes n))
    (s : Conjuncts) (told : (i : ℕ) → i < n → ToldConjunct s i (classify R (get_or nodes i 0)))
    (cs : List (ℕ × ColumnComparison LinedPlace)) where
  abbrev Source : (ℕ × ColumnComparison LinedPlace) → Type 0
  Source x = Sourced text t rs p used root ok values ranks st count enough x

  abbrev low : Lined → Lined
  low v = literal_limit R nodes false v

  abbrev high : Lined → Lined
  high v = literal_limit R nodes true v

  abbrev barred : Lined → Lined
  barred v = excluded_in s.values v

  bits : LinedPlace → ℕ
  bits v = bits_of (held_by values count v.placed)

  -- ---- one value
  literal-is : (upper : Bool) (k : Limit) (line opener b : ℕ) → is_upper k ≡ upper →
      GivenIn (read_conjuncts (aexpr_at rs p used) root) k line opener b → literal_behind R nodes upper line opener ≡ b
  unfolding literal_behind
  literal-is upper k line zero b e g =
      let h = limits_first R nodes n line k b (subst (λ l. OneOf b (limits_at l line k)) are g) in
      ap (λ u. conjunct_literal u (classify R (get_or nodes line 0))) (sym e) ∙ gives-literal R (get_or nodes line 0) k b h.1
  literal-is upper k line (suc o) b e g =
      let h = limits_first R nodes n o ExcludedValue b (subst (λ l. OneOf b (limits_at l o ExcludedValue)) are g) in
      excludes_literal R (get_or nodes o 0) upper b h.1

  limit_is : (upper : Bool) (k : Limit) (v : LinedPlace) → is_upper k ≡ upper →
      GivenIn (read_conjuncts (aexpr_at rs p used) root) k v.line v.opener (bits v) →
      literal_limit R nodes upper (rank_on ranks count v) ≡ bits_on values count v
  unfolding bits
  limit_is upper k v e g =
      ap (λ b. record { bits = b; line = v.line; opener = v.opener }) (literal-is upper k v.line v.opener (bits v) e g)

  barred_is : (v : LinedPlace) → GivenIn (read_conjuncts (aexpr_at rs p used) root) ExcludedValue v.line v.opener (bits v) →
      v.opener ≡ 0 → barred (rank_on ranks count v) ≡ bits_on values count v
  unfolding bits
  barred_is v g e =
      let i : OneOf (bits v) (limits_at (map (classify R) (first_of nodes n)) v.line ExcludedValue) =
      subst (λ l. OneOf (bits v) (limits_at l v.line ExcludedValue)) are
      (subst (λ o. GivenIn (read_conjuncts (aexpr_at rs p used) root) ExcludedValue v.line o (bits v)) e g) in
      let h = limits_first R nodes n v.line ExcludedValue (bits v) i in
      ap (λ b. record { bits = b; line = v.line; opener = v.opener })
      (conjunct-excluded s v.line (classify R (get_or nodes v.line 0)) (bits v) (told v.line h.0) h.1)

  number_is : (v : LinedPlace) → is_symbol (held_by values count v.placed) ≡ false → rank_on ranks count v ≡ bits_on values count v
  number_is v e = ap (λ b. record { bits = b; line = v.line; opener = v.opener }) (go v.placed.0 v.placed.1 e)
    where
      go : (b : Bool) (i : ℕ) → is_symbol (held_by values count (b, i)) ≡ false →
          standing_or_not ranks count (b, i) ≡ bits_of (held_by values count (b, i))
      go true i e = absurd (true≢false e)
      go false i e = refl

  -- ---- one comparison
  symbol-compared : (a : ℕ) (y : ColumnComparison LinedPlace) → Source (a, y) →
      converted low high barred (map_comparison (rank_on ranks count) y) ≡ map_comparison (bits_on values count) y
  unfolding bits
  symbol-compared a (IsEq v) h = ap IsEq (limit_is false LowerBound v refl h.1)
  symbol-compared a (IsLower true v) h = ap (IsLower true) (limit_is false LowerBound v refl h.1)
  symbol-compared a (IsLower false v) h = ap (IsLower false) (limit_is false LowerBound v refl h.1)
  symbol-compared a (IsUpper true v) h = ap (IsUpper true) (limit_is true UpperBound v refl h.1)
  symbol-compared a (IsUpper false v) h = ap (IsUpper false) (limit_is true UpperBound v refl h.1)
  symbol-compared a (IsNotEq v) h = ap IsNotEq (barred_is v h.1 (h.2 refl))

  number-compared : (a : ℕ) (y : ColumnComparison LinedPlace) → Source (a, y) → kind_at t a ≡ false →
      converted kept kept barred (map_comparison (rank_on ranks count) y) ≡ map_comparison (bits_on values count) y
  unfolding bits
  number-compared a (IsEq v) h e = ap IsEq (number_is v (h.0 ∙ e))
  number-compared a (IsLower c v) h e = ap (IsLower c) (number_is v (h.0 ∙ e))
  number-compared a (IsUpper c v) h e = ap (IsUpper c) (number_is v (h.0 ∙ e))
  number-compared a (IsNotEq v) h e = ap IsNotEq (barred_is v h.1 (h.2 refl))

  compared : (x : ℕ × ColumnComparison LinedPlace) → Source x →
      converted_in low high barred (kind_at t) (x.0, map_comparison (rank_on ranks count) x.1) ≡
      (x.0, map_comparison (bits_on values count) x.1)
  compared x h = ap (λ y. (x.0, y)) (go (kind_at t x.0) refl)
    where
      go : (b : Bool) → kind_at t x.0 ≡ b →
          converted_if low high barred (kind_at t) b (map_comparison (rank_on ranks count) x.1) ≡
          map_comparison (bits_on values count) x.1
      go true e = symbol-compared x.0 x.1 h
      go false e = number-compared x.0 x.1 h e

  all_compared : (l : List (ℕ × ColumnComparison LinedPlace)) → Each Source l →
      map (converted_in low high barred (kind_at t)) (map_comparisons (rank_on ranks count) l) ≡ map_comparisons (bits_on values count) l
  all_compared [] h = refl
  all_compared (x ∷ l) h = λ i. compared x (h x (inl refl)) i ∷ all_compared l (λ y j. h y (inr j)) i

  -- ---- symbols of one literal have one rank
  some_place : 0 < count
  some_place = let h = ok.root-used in omega (arith, h, enough)

  below : (i : ℕ) → within count i < count
  below i = go (ltb i count) refl
    where
      go : (b : Bool) → ltb i count ≡ b → cond b i 0 < count
      go true e = ltb-true i count e
      go false e = some_place

  pooled-at : (i : ℕ) → in_pool (length text) (standing values count i) ≡ true
  pooled-at i = pooled.pooled (within count i) (below i)

  same_rank : (a b : Placed) → is_symbol (held_by values count a) ≡ true → is_symbol (held_by values count b) ≡ true →
      is_equal (ord_z.cmp (key (bits_of (held_by values count a))) (key (bits_of (held_by values count b)))) ≡ true →
      is_equal (ord_z.cmp (key (standing_or_not ranks count a)) (key (standing_or_not ranks count b))) ≡ true
  same_rank a b ea eb e = go a.0 b.0 a.1 b.1 ea eb e
    where
      both : (i j : ℕ) → standing values count i ≡ standing values count j →
          is_equal (ord_z.cmp (key (standing ranks count i)) (key (standing ranks count j))) ≡ true
      both i j q =
          let e : is_equal (ord_z.cmp (pos (standing ranks count i)) (pos (standing ranks count j))) ≡ true =
          ap is_equal (ranked.compares (within count i) (within count j) (below i) (below j)
          ∙ ap (λ x. cmp_bytes (symbol text x) (symbol text (standing values count j))) q
          ∙ bytes_same (symbol text (standing values count j))) in
          let r : standing ranks count i ≡ standing ranks count j =
          ap half (is_equal-key (pos (standing ranks count i)) (pos (standing ranks count j)) e) in
          ap (λ x. is_equal (ord_z.cmp (key x) (key (standing ranks count j)))) r
          ∙ ap is_equal (cmp-refl total-z (key (standing ranks count j)))

      go : (x y : Bool) (i j : ℕ) → is_symbol (held_by values count (x, i)) ≡ true → is_symbol (held_by values count (y, j)) ≡ true →
          is_equal (ord_z.cmp (key (bits_of (held_by values count (x, i)))) (key (bits_of (held_by values count (y, j))))) ≡ true →
          is_equal (ord_z.cmp (key (standing_or_not ranks count (x, i))) (key (standing_or_not ranks count (y, j)))) ≡ true
      go false y i j ea eb e = absurd (true≢false (sym ea))
      go true false i j ea eb e = absurd (true≢false (sym eb))
      go true true i j ea eb e =
          both i j (small_same (standing values count i) (standing values count j)
          (pooled-small (length text) (standing values count i) (pooled-at i))
          (pooled-small (length text) (standing values count j) (pooled-at j))
          (is_equal-key (key (standing values count i)) (key (standing values count j)) e))

  module _ (sources : Each Source cs) (order : List ℕ) (T : ColumnTable)
      (ranks-are : comparisons lined order T ≡ map_comparisons (rank_on ranks count) cs) where
    -- what stands behind a bound of a Text column
    pub record Behind (v w : Lined) : Type 0 where
      pub place : LinedPlace
      pub symbol : is_symbol (held_by values count place.placed) ≡ true
      pub rank : v ≡ rank_on ranks count place
      pub literal : w ≡ bits_on values count place

    behind : (a : ℕ) → kind_at t a ≡ true → (y : ColumnComparison Lined) → OneOf (a, y) (comparisons lined order T) →
        Behind (value_of y) (value_of (converted low high barred y))
    behind a e y i =
        let r = back_in (rank_on ranks count) cs (a, y) (subst (OneOf (a, y)) ranks-are i) in
        let x = r.0 in
        let h = sources x r.1 in
        record {
          place = value_of x.1;
          symbol = h.0 ∙ ap (λ (z : ℕ × ColumnComparison Lined). kind_at t z.0) (sym r.2) ∙ e;
          rank = ap (λ (z : ℕ × ColumnComparison Lined). value_of z.1) r.2 ∙ value-mapped (rank_on ranks count) x.1;
          literal = ap (λ b. value_of (converted_if low high barred (kind_at t) b y)) (sym e)
              ∙ ap (λ (z : ℕ × ColumnComparison Lined). value_of (converted_in low high barred (kind_at t) z).1) r.2
              ∙ ap (λ (z : ℕ × ColumnComparison Lined). value_of z.1) (compared x h)
              ∙ value-mapped (bits_on values count) x.1;
        }

    apart : (a : ℕ) → OneOf a order → kind_at t a ≡ true → Apart low high barred (T a).lower (T a).upper
    unfolding lined
    apart a i e v u el eu d =
        let h = has_both (T a) v u el eu d in
        let x = behind a e (IsLower true v) (in_comparisons order T a (IsLower true v) i h.0) in
        let y = behind a e (IsUpper true u) (in_comparisons order T a (IsUpper true u) i h.1) in
        by-test (is_equal (scalar_cmp lined (low v) (high u)))
        (λ q. absurd (true≢false (sym (same_rank x.place.placed y.place.placed x.symbol y.symbol
        (sym (λ j. is_equal (scalar_cmp lined (x.literal j) (y.literal j))) ∙ q))
        ∙ sym (λ j. is_equal (scalar_cmp lined (x.rank j) (y.rank j))) ∙ d)))
        (λ q. q)

    module _ (U T' : ColumnTable)
        (same : (a : ℕ) → OneOf a order → ((U a).lower ≡ (T a).lower) × ((U a).upper ≡ (T a).upper)
        × ((U a).excluded ≡ map barred (T a).excluded))
        (after : (a : ℕ) → OneOf a order → T' a ≡ literal_table t R nodes U a) where
      column : (a : ℕ) → OneOf a order → (b : Bool) → kind_at t a ≡ b →
          collect_column_comparisons lined (cond b (literal_column R nodes (U a)) (U a)) ≡
          map (converted_if low high barred (kind_at t) b) (collect_column_comparisons lined (T a))
      unfolding literal_column
      column a i true e =
          let h = same a i in
          column-converted low high barred (T a) (literal_column R nodes (U a)) (ap (map_bound low) h.0)
          (λ j. cond (is_fixed (fixed_at lined (h.0 j) (h.1 j))) (map_bound low (h.0 j)) (map_bound high (h.1 j))) h.2
          (apart a i e)
      column a i false e = let h = same a i in column-kept barred (T a) (U a) h.0 h.1 h.2

      pub literals-written : comparisons lined order T' ≡ map_comparisons (bits_on values count) cs
      literals-written =
          all_converted low high barred (kind_at t) order T T'
          (λ a i. ap (collect_column_comparisons lined) (after a i) ∙ column a i (kind_at t a) refl)
          ∙ ap (map (converted_in low high barred (kind_at t))) ranks-are
          ∙ all_compared cs sources

-- Words that are right give the symbols of the text numbers that compare as they do. Assumes nothing.
use mathlib.Core.Path.{◌≡◌, refl, sym, ◌∙◌, ap, subst}
use mathlib.Core.Logic.{⊎_elim}
use mathlib.Core.Bool.{true, true≢false}
use mathlib.Core.List.{List}
use Prim.Native.Nat.{ℕ, zero, suc, ◌+◌, ◌*◌, ◌%◌, ◌≤◌, ◌<◌, compare}
use native.Mathlib.Omega.{arith}
use lib.Dec.{ltb, eqb}
use lib.ListN.{length, get_or}
use borrow.Author.Tests.{ltb-true, ltb-false, eqb-true, eqb-false, ne_eqb}
use Rattle.records.specs.Shape.{start_of, length_of, in_pool}
use Rattle.records.proofs.Laws.{by-test}
use Rattle.truth.proofs.Keys.{lt-or_le}
use Rattle.truth.specs.Order.{View, less_view, equal_view, greater_view, is_less, is_equal}
use Rattle.truth.specs.Halves.{ordering}
use Rattle.std.specs.declared.cmp.Ordering.{Ordering}
use Rattle.std.specs.declared.cmp.Ordering.TheVariants.{Less, Equal}
use Rattle.symbols.specs.Symbol.{bytes_from, symbol, cmp_bytes, less_bytes, symbol_number, number_of}
use Rattle.symbols.proofs.Orders.{less_n, view_n, total-bytes}
use Rattle.symbols.proofs.Comparing.{number-less, number-equal, number-greater, in_bounds, short}
use Rattle.symbols.proofs.Keys.{symbol-order}
use Rattle.symbol_ranks.specs.Ranks.{Ranked}
use Rattle.text_order.specs.Codes.{depth_in, link_in, walk, code_of, Codes}
use Rattle.text_order.specs.Starts.{most_at, part_at, full_at, Starts, Above, Linked, Tested}
use Rattle.text_order.proofs.Words.{most-few, most-inside, most-enough, part_pooled, part_symbol, front_same, front_less, long, walk-low}

-- ---- What a comparison says.
is_below : (m n : ℕ) → ordering (compare m n) ≡ Less → m < n
is_below m n = go (view_n m n)
  where
    go : {o : Ordering} → View less_n m n o → o ≡ Less → m < n
    go (less_view h) e = h
    go (equal_view h) e = absurd (true≢false (ap is_equal e))
    go (greater_view h) e = absurd (true≢false (sym (ap is_less e)))

equal-bytes : (l m : List ℕ) → cmp_bytes l m ≡ Equal → l ≡ m
equal-bytes l m = go (total-bytes.view l m)
  where
    go : {o : Ordering} → View less_bytes l m o → o ≡ Equal → l ≡ m
    go (less_view h) e = absurd (true≢false (sym (ap is_equal e)))
    go (equal_view h) e = h
    go (greater_view h) e = absurd (true≢false (sym (ap is_equal e)))

module _ (text ranks C values : List ℕ) (bytes : (q : ℕ) → get_or text q 0 < 256) (small : length text ≤ 8192)
    (starts : Starts (length text) (length text) values) (ranked : Ranked text values (length text) ranks)
    (right : (s : ℕ) → s < length text → Tested text ranks C s) where
  abbrev size : ℕ
  size = length text

  abbrev most : ℕ → ℕ
  most s = most_at size s

  abbrev depth : ℕ → ℕ
  depth s = depth_in (get_or C s 0)

  abbrev rank : ℕ → ℕ
  rank s = get_or ranks s 0

  -- the number of l bytes from s on
  abbrev num : ℕ → ℕ → ℕ
  num s l = symbol_number text (part_at s l)

  inside : (s l : ℕ) → s < size → l ≤ most s → in_pool size (part_at s l) ≡ true
  inside s l h k =
      let a = most-few size s in
      let b = most-inside size s (omega (arith, h)) in
      part_pooled size s l (omega (arith, h, small)) (omega (arith, b, k)) (omega (arith, a, k))

  num_bytes : (s l : ℕ) → s < size → num s l ≡ number_of 16 (bytes_from text s l)
  unfolding symbol_number
  num_bytes s l h = ap (number_of 16) (part_symbol text s l (omega (arith, h, small)))

  -- ---- Parts of one start.
  num_rises : (s l d : ℕ) → s < size → d ≤ most s → l < d → num s l < num s d
  num_rises s l d h k g =
      let u : s ≤ 8192 = omega (arith, h, small) in
      is_below (num s l) (num s d)
      (sym (symbol-order text bytes size (part_at s l) (part_at s d) (inside s l h (omega (arith, k, g))) (inside s d h k))
      ∙ ap (λ x. cmp_bytes x (symbol text (part_at s d))) (part_symbol text s l u)
      ∙ ap (cmp_bytes (bytes_from text s l)) (part_symbol text s d u) ∙ front_less text s l d g)

  num_full : (s l : ℕ) → s < size → l ≤ most s → num s l ≤ num s (most s)
  num_full s l h k =
      ⊎_elim (λ (g : l < most s). let r = num_rises s l (most s) h (omega arith) g in omega (arith, r))
      (λ (g : most s ≤ l). let e : l ≡ most s = omega (arith, g, k) in let f = ap (num s) e in omega (arith, f)) (lt-or_le l (most s))

  num_up : (s l d : ℕ) → s < size → d ≤ most s → l ≤ d → num s l ≤ num s d
  num_up s l d h k g =
      ⊎_elim (λ (i : l < d). let r = num_rises s l d h k i in omega (arith, r))
      (λ (i : d ≤ l). let e : l ≡ d = omega (arith, g, i) in let f = ap (num s) e in omega (arith, f)) (lt-or_le l d)

  -- ---- The starts by their ranks.
  ranks_told : (s u : ℕ) → s < size → u < size
      → ordering (compare (rank s) (rank u)) ≡ cmp_bytes (symbol text (full_at size s)) (symbol text (full_at size u))
  ranks_told s u h k =
      ranked.compares s u h k
      ∙ ap (λ v. cmp_bytes (symbol text v) (symbol text (get_or values u 0))) (starts.full s h)
      ∙ ap (λ v. cmp_bytes (symbol text (full_at size s)) (symbol text v)) (starts.full u k)

  full-order : (s u : ℕ) → s < size → u < size
      → cmp_bytes (symbol text (full_at size s)) (symbol text (full_at size u)) ≡ ordering (compare (num s (most s)) (num u (most u)))
  full-order s u h k =
      symbol-order text bytes size (full_at size s) (full_at size u) (inside s (most s) h (omega arith)) (inside u (most u) k (omega arith))

  rank_less : (s u : ℕ) → s < size → u < size → rank s < rank u → num s (most s) < num u (most u)
  rank_less s u h k g =
      is_below _ _ (sym (full-order s u h k) ∙ sym (ranks_told s u h k) ∙ number-less (rank s) (rank u) g)

  rank_same : (s u : ℕ) → s < size → u < size → rank s ≡ rank u → bytes_from text s (most s) ≡ bytes_from text u (most u)
  rank_same s u h k e =
      sym (part_symbol text s (most s) (omega (arith, h, small)))
      ∙ equal-bytes _ _ (sym (ranks_told s u h k) ∙ number-equal (rank s) (rank u) e)
      ∙ part_symbol text u (most u) (omega (arith, k, small))

  rank_most : (s u : ℕ) → s < size → u < size → rank s ≤ rank u → num s (most s) ≤ num u (most u)
  rank_most s u h k g =
      ⊎_elim (λ (i : rank s < rank u). let r = rank_less s u h k i in omega (arith, r))
      (λ (i : rank u ≤ rank s).
      let e : rank s ≡ rank u = omega (arith, g, i) in
      let f = ap (number_of 16) (rank_same s u h k e) in
      let a = num_bytes s (most s) h in let b = num_bytes u (most u) k in omega (arith, f, a, b)) (lt-or_le (rank s) (rank u))

  -- every start of a lower rank is below more bytes of u than it has in common with the one before it
  lower-starts : (w u l : ℕ) → w < size → u < size → depth u < l → l ≤ most u → rank w < rank u → num w (most w) < num u l
  lower-starts w u l h k g i j =
      ⊎_elim (λ (e : rank u ≡ 0). absurd (omega (arith, e, j)))
      (λ (a : Above text ranks u (depth u)).
      let n = a.next in
      let r = rank_most w a.before h a.inside (omega (arith, n, j)) in
      let d = num_up u (depth u + 1) l k i (omega (arith, g)) in
      let t = is_below (num a.before (most a.before)) (num u (depth u + 1))
      (sym (symbol-order text bytes size (full_at size a.before) (part_at u (depth u + 1))
      (inside a.before (most a.before) a.inside (omega arith))
      (inside u (depth u + 1) k (omega (arith, g, i)))) ∙ a.less) in
      omega (arith, r, d, t))
      (right u k).above

  -- ---- Where the walk ends.
  record End (s l r : ℕ) : Type 0 where
    at : ℕ
    within : at < size
    long-enough : l ≤ most at
    same : bytes_from text at l ≡ bytes_from text s l
    less : depth at < l
    is : r ≡ rank at

  -- one step more
  step : (n s l : ℕ) → s < size → 0 < l → l ≤ depth s
      → ((u : ℕ) → u < size → l ≤ most u → depth u < depth s → End u l (walk n C u l)) → End s l (walk n C (link_in (get_or C s 0)) l)
  step n s l h i f more =
      ⊎_elim (λ (z : depth s ≡ 0). absurd (omega (arith, z, f, i)))
      (λ (d : Linked text C s (depth s) (link_in (get_or C s 0))).
      let a = d.long in
      let e = more (link_in (get_or C s 0)) d.inside (omega (arith, a, f)) d.falls in
      record {
        at = e.at;
        within = e.within;
        long-enough = e.long-enough;
        same = e.same ∙ sym (front_same text s (link_in (get_or C s 0)) l (depth s) f
            (sym (part_symbol text s (depth s) (omega (arith, h, small))) ∙ equal-bytes _ _ d.same
            ∙ part_symbol text (link_in (get_or C s 0)) (depth s) (let i = d.inside in omega (arith, i, small))));
        less = e.less;
        is = e.is;
      })
      (right s h).linked

  ends : (n s l : ℕ) → s < size → 0 < l → l ≤ most s → depth s < l + n → End s l (walk n C s l)
  unfolding walk
  ends zero s l h i k g =
      record { at = s; within = h; long-enough = k; same = refl; less = omega (arith, g); is = (right s h).rank }
  ends (suc n) s l h i k g =
      by-test (ltb (depth s) l)
      (λ e. rw e (record { at = s; within = h; long-enough = k; same = refl; less = ltb-true (depth s) l e; is = (right s h).rank }))
      (λ e. rw e (step n s l h i (ltb-false (depth s) l e) (λ u a b c. ends n u l a i b (omega (arith, c, g)))))

  -- ---- A symbol that is not empty: the start where its walk ends, and its number.
  record Placed (v : ℕ) : Type 0 where
    at : ℕ
    within : at < size
    enough : length_of v ≤ most at
    first : depth at < length_of v
    number : symbol_number text v ≡ num at (length_of v)
    code : code_of C v ≡ 32 * rank at + length_of v

  module _ (v : ℕ) (pooled : in_pool size v ≡ true) (some : (length_of v ≡ 0) → ⊥) where
    abbrev s : ℕ
    s = start_of v

    abbrev l : ℕ
    l = length_of v

    l_some : 0 < l
    l_some = ⊎_elim (λ (h : 0 < l). h) (λ (h : l ≤ 0). absurd (some (omega (arith, h)))) (lt-or_le 0 l)

    s_low : s < size
    s_low = let b = in_bounds size v pooled in let k = l_some in omega (arith, b, k)

    l_enough : l ≤ most s
    l_enough = most-enough size s l (in_bounds size v pooled) (short size v pooled)

    end : End s l (walk 17 C s l)
    end =
        let d = (right s s_low).deep in
        let f = most-few size s in ends 17 s l s_low l_some l_enough (omega (arith, d, f))

    code_is : code_of C v ≡ 32 * walk 17 C s l + l
    unfolding code_of
    code_is =
        let h = s_low in
        let e : s % 8192 ≡ s = omega (arith, h, small) in
        rw (ne_eqb l 0 some, e)

    number_is : symbol_number text v ≡ number_of 16 (bytes_from text s l)
    unfolding symbol_number symbol
    number_is = refl

    placed : Placed v
    placed =
        record {
          at = end.at;
          within = end.within;
          enough = end.long-enough;
          first = end.less;
          number = number_is ∙ ap (number_of 16) (sym end.same) ∙ sym (num_bytes end.at l end.within);
          code = code_is ∙ ap (λ r. 32 * r + l) end.is;
        }

  -- two of them
  module _ (a b : ℕ) (la : length_of a ≤ 16) (lb : length_of b ≤ 16) (p : Placed a) (q : Placed b) where
    lower : rank p.at < rank q.at → (code_of C a < code_of C b) × (symbol_number text a < symbol_number text b)
    lower h =
        let ca = p.code in
        let cb = q.code in
        let na = p.number in
        let nb = q.number in
        let x = num_full p.at (length_of a) p.within p.enough in
        let y = lower-starts p.at q.at (length_of b) p.within q.within q.first q.enough h in
        (omega (arith, ca, cb, la, lb, h), omega (arith, na, nb, x, y))

    -- of one rank: parts of the same bytes
    b_there : rank p.at ≡ rank q.at → (length_of b ≤ most p.at) × (symbol_number text b ≡ num p.at (length_of b))
    b_there e =
        let f = rank_same p.at q.at p.within q.within e in
        let m : most p.at ≡ most q.at =
        sym (long text p.at (most p.at)) ∙ ap length f ∙ long text q.at (most q.at) in
        let k = q.enough in (
          omega (arith, m, k),
          q.number ∙ num_bytes q.at (length_of b) q.within
              ∙ ap (number_of 16) (sym (front_same text p.at q.at (length_of b) (most q.at) k
              (subst (λ z. bytes_from text p.at z ≡ bytes_from text q.at (most q.at)) m f)))
              ∙ sym (num_bytes p.at (length_of b) p.within),
        )

    shorter : rank p.at ≡ rank q.at → length_of a < length_of b
        → (code_of C a < code_of C b) × (symbol_number text a < symbol_number text b)
    shorter e h =
        let ca = p.code in
        let cb = q.code in
        let na = p.number in
        let t = b_there e in
        let nb = t.1 in
        let x = num_rises p.at (length_of a) (length_of b) p.within t.0 h in
        (omega (arith, ca, cb, e, h), omega (arith, na, nb, x))

    equal : rank p.at ≡ rank q.at → length_of a ≡ length_of b
        → (code_of C a ≡ code_of C b) × (symbol_number text a ≡ symbol_number text b)
    equal e h =
        let ca = p.code in
        let cb = q.code in
        (omega (arith, ca, cb, e, h), p.number ∙ ap (num p.at) h ∙ sym (b_there e).1)

  abbrev Same : ℕ → ℕ → Type 0
  Same a b = ordering (compare (code_of C a) (code_of C b)) ≡ ordering (compare (symbol_number text a) (symbol_number text b))

  by_less : (a b : ℕ) → (code_of C a < code_of C b) × (symbol_number text a < symbol_number text b) → Same a b
  by_less a b h = number-less _ _ h.0 ∙ sym (number-less _ _ h.1)

  by-greater : (a b : ℕ) → (code_of C b < code_of C a) × (symbol_number text b < symbol_number text a) → Same a b
  by-greater a b h = number-greater _ _ h.0 ∙ sym (number-greater _ _ h.1)

  by_equal : (a b : ℕ) → (code_of C a ≡ code_of C b) × (symbol_number text a ≡ symbol_number text b) → Same a b
  by_equal a b h = number-equal _ _ h.0 ∙ sym (number-equal _ _ h.1)

  both : (a b : ℕ) → length_of a ≤ 16 → length_of b ≤ 16 → Placed a → Placed b → Same a b
  both a b la lb p q =
      ⊎_elim (λ (h : rank p.at < rank q.at). by_less a b (lower a b la lb p q h))
      (λ (h : rank q.at ≤ rank p.at).
      ⊎_elim (λ (g : rank q.at < rank p.at). by-greater a b (lower b a lb la q p g))
      (λ (g : rank p.at ≤ rank q.at).
      let e : rank p.at ≡ rank q.at = omega (arith, h, g) in
      ⊎_elim (λ (k : length_of a < length_of b). by_less a b (shorter a b la lb p q e k))
      (λ (k : length_of b ≤ length_of a).
      ⊎_elim (λ (j : length_of b < length_of a). by-greater a b (shorter b a lb la q p (sym e) j))
      (λ (j : length_of a ≤ length_of b). by_equal a b (equal a b la lb p q e (omega (arith, j, k))))
      (lt-or_le (length_of b) (length_of a)))
      (lt-or_le (length_of a) (length_of b)))
      (lt-or_le (rank q.at) (rank p.at)))
      (lt-or_le (rank p.at) (rank q.at))

  -- ---- The empty symbol.
  empty_code : (v : ℕ) → length_of v ≡ 0 → (code_of C v ≡ 0) × (symbol_number text v ≡ 0)
  unfolding code_of symbol_number symbol bytes_from
  empty_code v e = (rw e, ap (λ l. number_of 16 (bytes_from text (start_of v) l)) e)

  some_code : (v : ℕ) → in_pool size v ≡ true → ((length_of v ≡ 0) → ⊥) → (0 < code_of C v) × (0 < symbol_number text v)
  some_code v h e =
      let p = placed v h e in
      let k = l_some v h e in
      let c = p.code in
      let n = p.number in
      let r = num_rises p.at 0 (length_of v) p.within p.enough k in
      (omega (arith, c, k), omega (arith, n, r))

  compared : (a b : ℕ) → in_pool size a ≡ true → in_pool size b ≡ true → Same a b
  compared a b h k =
      by-test (eqb (length_of a) 0)
      (λ e. let x = empty_code a (eqb-true _ _ e) in
      by-test (eqb (length_of b) 0)
      (λ f. let y = empty_code b (eqb-true _ _ f) in by_equal a b (x.0 ∙ sym y.0, x.1 ∙ sym y.1))
      (λ f. let y = some_code b k (eqb-false _ _ f) in
      by_less a b (subst (λ z. z < code_of C b) (sym x.0) y.0, subst (λ z. z < symbol_number text b) (sym x.1) y.1)))
      (λ e. let y = some_code a h (eqb-false _ _ e) in
      by-test (eqb (length_of b) 0)
      (λ f. let x = empty_code b (eqb-true _ _ f) in
      by-greater a b (subst (λ z. z < code_of C a) (sym x.0) y.0, subst (λ z. z < symbol_number text a) (sym x.1) y.1))
      (λ f. both a b (short size a h) (short size b k) (placed a h (eqb-false _ _ e)) (placed b k (eqb-false _ _ f))))

  low : (a : ℕ) → in_pool size a ≡ true → code_of C a < 262144
  unfolding code_of
  low a h =
      let w = walk-low 17 C (start_of a % 8192) (length_of a) in
      let k = short size a h in
      by-test (eqb (length_of a) 0) (λ e. rw e (omega arith)) (λ e. rw e (omega (arith, w, k)))

  pub codes : Codes text C
  codes = record { alike = λ a b h k. compared a b h k ∙ sym (symbol-order text bytes size a b h k); below = low }

-- The smallest possible value of a column's allowed list is that of the first of its lists: a possible value is in all.
use mathlib.Core.Path.{◌≡◌, refl, sym, ◌∙◌, ap, fun_ext}
use mathlib.Core.Bool.{Bool, true, false, not, cond, ◌&&◌, true≢false, and-eq-true_iff}
use mathlib.Core.List.{List, [], ◌∷◌, map}
use mathlib.Core.Option.{Option, none, some}
use Prim.Native.Nat.{ℕ, zero, suc, ◌+◌, ◌-◌, ◌<◌, ◌≤◌}
use native.Mathlib.Omega.{arith}
use lib.IntN.{ℤ}
use lib.Dec.{ltb}
use lib.ListN.{get_or}
use borrow.Author.Tests.{ltb-true, ltb-false, eq-eqb}
use Rattle.records.specs.Bytes.{value_at}
use Rattle.truth.specs.FromBytes.{values_from}
use Rattle.truth.specs.Halves.{ord_z, key}
use Rattle.std.specs.declared.cmp.Ordering.{Ordering}
use Rattle.constraints.specs.Lined.{Lined, on_line, lined}
use Rattle.constraints.specs.Payload.{payload}
use Rattle.constraints.specs.Scalars.{Scalars, opposite}
use Rattle.constraints.specs.Bound.{clears}
use Rattle.constraints.specs.Values.{contains, retain}
use Rattle.constraints.specs.Column.{ColumnConstraints, common}
use Rattle.constraints.specs.Mapped.{map_allowed}
use Rattle.constraints.specs.Resolve.{is_allowed, is_feasible, fixed_value}
use Rattle.constraints.proofs.Sets.{contains-retain}
use Rattle.constraints.proofs.Carried.{lines-carry, lined-along, feasible_carried, fixed_value-carried, map_value}
use Rattle.column_constraints.specs.Abstraction.{Conjuncts, Numbered, column_of, fixed_of, list_of, values_of, gather, allowed_by, of_kind}
use Rattle.column_constraints.specs.declared.bound.Limit.{Limit}
use Rattle.std.specs.Prelude as code
use Rattle.row_shown.specs.declared.place.Place.{Place}
use Rattle.row_shown.specs.declared.place.Smallest.{Smallest}
use Rattle.row_shown.specs.Shown.{exactly, plus_half, lesser_by, smaller, smallest, list_place, lower_place}
use Rattle.row_shown.specs.Shown.{fixed_place, place_by, value_place}
use Rattle.row_shown.specs.Bits.{bits_bound, bits_column, smallest_of}

abbrev bits : List Lined → List ℕ
bits l = map (λ (v : Lined). v.bits) l

module _ (F : ℤ → Bool) where
  -- A value that is not possible changes nothing.
  skipped : (v : ℕ) (o : Option ℕ) → F (payload.key v) ≡ false → o ≡ smaller (F (payload.key v)) v o
  skipped v o e = sym (ap (λ b. smaller b v o) e)

  -- Values that some list has not are not possible.
  smallest-retain : (m l : List Lined) → ((k : ℤ) → F k ≡ true → contains lined k m ≡ true)
      → smallest F (bits (retain lined m l)) ≡ smallest F (bits l)
  unfolding lined payload
  smallest-retain m [] h = refl
  smallest-retain m (v ∷ l) h =
      go (contains lined (key v.bits) m) refl (F (key v.bits)) refl (smallest-retain m l h)
    where
      go : (b : Bool) → contains lined (key v.bits) m ≡ b → (f : Bool) → F (key v.bits) ≡ f
          → smallest F (bits (retain lined m l)) ≡ smallest F (bits l)
          → smallest F (bits (cond b (v ∷ retain lined m l) (retain lined m l)))
          ≡ smaller (F (key v.bits)) v.bits (smallest F (bits l))
      go true e f g ih = ap (smaller (F (key v.bits)) v.bits) ih
      go false e true g ih = absurd (true≢false (sym (h (key v.bits) g) ∙ e))
      go false e false g ih = ih ∙ skipped v.bits (smallest F (bits l)) g

  both : (o : Option (List Lined)) (l : List Lined) (k : ℤ) → is_allowed lined (some (common lined o l)) k ≡ true
      → (is_allowed lined o k ≡ true) × (contains lined k l ≡ true)
  both none l k h = (refl, h)
  both (some held) l k h =
      (and-eq-true_iff (contains lined k held) (contains lined k l)).0 (sym (contains-retain lined k l held) ∙ h)

  values-back : (j : ℕ) (l : List ℕ) → bits (map (on_line j) l) ≡ l
  values-back j [] = refl
  values-back j (v ∷ l) = ap (λ m. v ∷ m) (values-back j l)

  module _ (ks ss cs ps a : List ℕ) (i : ℕ) (before : allowed_by ks ss cs ps a i ≡ none)
      (first : get_or ks (get_or a i 0) 0 ≡ 1) where
    -- The common values of the lists, of which that of the number at i is the first.
    pub record Held (n : ℕ) : Type 0 where
      pub held : List Lined
      pub are : allowed_by ks ss cs ps a n ≡ some held
      pub same : smallest F (bits held) ≡ smallest F (list_of ss cs ps (get_or a i 0))

    pub smallest-first : (n : ℕ) → i < n → ((k : ℤ) → F k ≡ true → is_allowed lined (allowed_by ks ss cs ps a n) k ≡ true)
        → Held n
    unfolding allowed_by gather values_of
    smallest-first zero l h = absurd (omega arith)
    smallest-first (suc n) l h = go (ltb i n) refl (of_kind ks 1 (get_or a n 0)) refl h (λ k g. smallest-first n k g)
      where
        more : List Lined
        more = values_of ss cs ps (get_or a n 0)

        go : (b : Bool) → ltb i n ≡ b → (c : Bool) → of_kind ks 1 (get_or a n 0) ≡ c
            → ((k : ℤ) → F k ≡ true → is_allowed lined
            (cond (of_kind ks 1 (get_or a n 0)) (some (common lined (allowed_by ks ss cs ps a n) more)) (allowed_by ks ss cs ps a n)) k
            ≡ true)
            → (i < n → ((k : ℤ) → F k ≡ true → is_allowed lined (allowed_by ks ss cs ps a n) k ≡ true) → Held n)
            → Held (suc n)
        go true e true f h ih =
            let g : (k : ℤ) → F k ≡ true → is_allowed lined (some (common lined (allowed_by ks ss cs ps a n) more)) k ≡ true =
            λ k x. sym (ap (λ b. is_allowed lined
            (cond b (some (common lined (allowed_by ks ss cs ps a n) more)) (allowed_by ks ss cs ps a n)) k) f) ∙ h k x in
            let r = ih (ltb-true i n e) (λ k x. (both (allowed_by ks ss cs ps a n) more k (g k x)).0) in
            record {
              held = retain lined more r.held;
              are = ap (λ b. cond b (some (common lined (allowed_by ks ss cs ps a n) more)) (allowed_by ks ss cs ps a n)) f
                  ∙ ap (λ o. some (common lined o more)) r.are;
              same = smallest-retain more r.held (λ k x. (both (allowed_by ks ss cs ps a n) more k (g k x)).1) ∙ r.same;
            }
        go true e false f h ih =
            let r = ih (ltb-true i n e) (λ k x. sym (ap (λ b. is_allowed lined
            (cond b (some (common lined (allowed_by ks ss cs ps a n) more)) (allowed_by ks ss cs ps a n)) k) f) ∙ h k x) in
            record {
              held = r.held;
              are = ap (λ b. cond b (some (common lined (allowed_by ks ss cs ps a n) more)) (allowed_by ks ss cs ps a n)) f
                  ∙ r.are;
              same = r.same;
            }
        go false e c f h ih =
            let q : i ≡ n = omega (arith, l, ltb-false i n e) in
            record {
              held = values_of ss cs ps (get_or a i 0);
              are = ap (λ m. cond (of_kind ks 1 (get_or a m 0))
                  (some (common lined (allowed_by ks ss cs ps a m) (values_of ss cs ps (get_or a m 0)))) (allowed_by ks ss cs ps a m))
                  (sym q)
                  ∙ ap (λ b. cond b (some (common lined (allowed_by ks ss cs ps a i) (values_of ss cs ps (get_or a i 0))))
                  (allowed_by ks ss cs ps a i)) (eq-eqb (get_or ks (get_or a i 0) 0) 1 first)
                  ∙ ap (λ o. some (common lined o (values_of ss cs ps (get_or a i 0)))) before;
              same = ap (smallest F) (values-back (get_or a i 0) (list_of ss cs ps (get_or a i 0)));
            }

-- What is possible does not look at lines.
possible_bits : (cc : ColumnConstraints Lined) → is_feasible payload (bits_column cc) ≡ is_feasible lined cc
possible_bits cc =
    fun_ext (λ k. feasible_carried payload (λ (v : Lined). v.bits) lines-carry cc k
    ∙ ap (λ (S : Scalars ℤ Lined). is_feasible S cc k) (sym lined-along))

-- ---- What value_place returns.
module _ (t : Conjuncts) (c : Numbered) where
  abbrev cc : ColumnConstraints Lined
  cc = column_of t c

  allowed-place : (o : Option (List Lined)) → cc.allowed ≡ o → place_by (map_allowed (λ (v : Lined). v.bits) o) (bits_column cc)
      ≡ value_place (bits_column cc)
  unfolding value_place
  allowed-place o e = ap (λ o. place_by (map_allowed (λ (v : Lined). v.bits) o) (bits_column cc)) (sym e)

  pub place-bounds : (p : Place) → p ≡ place_by none (bits_column cc)
      → allowed_by t.kinds t.starts t.counts t.pool c.marks c.len ≡ none → p ≡ value_place (bits_column cc)
  place-bounds p e h = e ∙ allowed-place none h

  feasible_allowed : (k : ℤ) → is_feasible lined cc k ≡ true → is_allowed lined cc.allowed k ≡ true
  feasible_allowed k h =
      ((and-eq-true_iff (is_allowed lined cc.allowed k) (not (contains lined k cc.disallowed))).0
      ((and-eq-true_iff
      (clears lined cc.lower k && (clears (opposite lined) cc.upper k && not (contains lined k cc.excluded)))
      (is_allowed lined cc.allowed k && not (contains lined k cc.disallowed))).0 h).1).0

  pub place-listed : (i : ℕ) → i < c.len
      → allowed_by t.kinds t.starts t.counts t.pool c.marks i ≡ none
      → (f : ℕ) → f ≡ get_or c.marks i 0 → get_or t.kinds f 0 ≡ 1
      → (s : Smallest) → smallest_of s ≡ smallest (is_feasible lined cc) (list_of t.starts t.counts t.pool f)
      → (p : Place) → p ≡ list_place (smallest_of s) → p ≡ value_place (bits_column cc)
  place-listed i l h f e g s es p ep =
      let r = smallest-first (is_feasible lined cc) t.kinds t.starts t.counts t.pool c.marks i h
      (ap (λ m. get_or t.kinds m 0) (sym e) ∙ g) c.len l feasible_allowed in
      ep ∙ ap list_place (es ∙ ap (λ m. smallest (is_feasible lined cc) (list_of t.starts t.counts t.pool m)) e
      ∙ sym r.same ∙ ap (λ F. smallest F (bits r.held)) (sym (possible_bits cc)))
      ∙ allowed-place (some r.held) r.are

  -- ---- What fixed_place returns.
  fixed_bits : fixed_value payload (bits_column cc) ≡ map_value payload (λ (v : Lined). v.bits) lines-carry (fixed_value lined cc)
  fixed_bits =
      fixed_value-carried payload (λ (v : Lined). v.bits) lines-carry cc
      ∙ ap (λ (S : Scalars ℤ Lined). map_value payload (λ (v : Lined). v.bits) lines-carry (fixed_value S cc)) (sym lined-along)

  fixed_is : (f : code.Option Limit) → fixed_of f ≡ fixed_value lined cc
      → fixed_place (map_value payload (λ (v : Lined). v.bits) lines-carry (fixed_of f)) (bits_bound cc.lower) (bits_bound cc.upper)
      ≡ place_by none (bits_column cc)
  fixed_is f e =
      ap (λ o. fixed_place o (bits_bound cc.lower) (bits_bound cc.upper))
      (ap (map_value payload (λ (v : Lined). v.bits) lines-carry) e ∙ sym fixed_bits)

  pub fixed_nothing : (f : code.Option Limit) → fixed_of f ≡ fixed_value lined cc → f ≡ code.None
      → (p : Place) → p ≡ lower_place (bits_bound cc.lower) (bits_bound cc.upper) → p ≡ place_by none (bits_column cc)
  fixed_nothing f e h p ep =
      ep ∙ ap (λ o. fixed_place (map_value payload (λ (v : Lined). v.bits) lines-carry (fixed_of o)) (bits_bound cc.lower)
      (bits_bound cc.upper)) (sym h) ∙ fixed_is f e

  pub fixed_at_lem : (f : code.Option Limit) (v : Limit) → fixed_of f ≡ fixed_value lined cc → f ≡ code.Some v
      → (p : Place) → p ≡ exactly v.value.0 → p ≡ place_by none (bits_column cc)
  fixed_at_lem f v e h p ep =
      ep ∙ ap (λ o. fixed_place (map_value payload (λ (v : Lined). v.bits) lines-carry (fixed_of o)) (bits_bound cc.lower)
      (bits_bound cc.upper)) (sym h) ∙ fixed_is f e

-- ---- The walk over a list from its end.
module _ (F : ℤ → Bool) (p : List ℕ) (s m : ℕ) where
  pub walk_none : (b : Bool) (w : ℕ) → b ≡ false → cond b (some w) none ≡ smallest F (values_from p (s + m) (m - m))
  unfolding values_from
  walk_none b w e = let k : m - m ≡ 0 = omega arith in rw (k, e)

  pub walk_more : (i : ℕ) → 0 < i → i ≤ m → (b : Bool) (v : ℕ) (o r : Option ℕ)
      → v ≡ value_at p (s + (i - 1)) → b ≡ F (payload.key v) → o ≡ smallest F (values_from p (s + i) (m - i))
      → r ≡ smaller b v o → r ≡ smallest F (values_from p (s + (i - 1)) (m - (i - 1)))
  unfolding values_from
  walk_more i h l b v o r ev eb eo er =
      let k : m - (i - 1) ≡ suc (m - i) = omega arith in
      let j : s + i ≡ suc (s + (i - 1)) = omega arith in
      er ∙ ap (λ x. smaller x v o) eb ∙ ap (smaller (F (payload.key v)) v) eo
      ∙ ap (λ x. smaller (F (payload.key x)) x (smallest F (values_from p (s + i) (m - i)))) ev
      ∙ ap (λ x. smaller (F (payload.key (value_at p (s + (i - 1))))) (value_at p (s + (i - 1)))
      (smallest F (values_from p x (m - i)))) j
      ∙ ap (λ x. smallest F (values_from p (s + (i - 1)) x)) (sym k)

  pub walk_end : (ss cs : List ℕ) (f i : ℕ) (o : Option ℕ) → i ≤ 0 → o ≡ smallest F (values_from p (s + i) (m - i))
      → s ≡ get_or ss f 0 → m ≡ get_or cs f 0 → o ≡ smallest F (list_of ss cs p f)
  unfolding list_of
  walk_end ss cs f i o h e es em =
      let j : s + i ≡ s = omega arith in
      let k : m - i ≡ m = omega arith in
      e ∙ ap (λ x. smallest F (values_from p x (m - i))) j ∙ ap (λ x. smallest F (values_from p s x)) k
      ∙ ap (λ x. smallest F (values_from p x m)) es ∙ ap (λ x. smallest F (values_from p (get_or ss f 0) x)) em

-- ---- One value more.
pub smaller-no : (b : Bool) (v : ℕ) (o : Option ℕ) → not b ≡ true → o ≡ smaller b v o
smaller-no true v o h = absurd (true≢false (sym h))
smaller-no false v o h = refl

pub smaller-first : (b f : Bool) (v w : ℕ) → not b ≡ false → not f ≡ true → some v ≡ smaller b v (cond f (some w) none)
smaller-first true true v w h g = absurd (true≢false (sym g))
smaller-first true false v w h g = refl
smaller-first false f v w h g = absurd (true≢false h)

pub smaller-next : (b f : Bool) (v w x : ℕ) (o : Ordering) → not b ≡ false → not f ≡ false → o ≡ ord_z.cmp (key v) (key w)
    → x ≡ lesser_by o v w → some x ≡ smaller b v (cond f (some w) none)
unfolding payload
smaller-next true true v w x o h g e ex = ap some (ex ∙ ap (λ o. lesser_by o v w) e)
smaller-next true false v w x o h g e ex = absurd (true≢false g)
smaller-next false f v w x o h g e ex = absurd (true≢false h)

pub list-none : (f : Bool) (w : ℕ) (p : Place) → not f ≡ true → p ≡ plus_half 0 → p ≡ list_place (cond f (some w) none)
list-none true w p h e = absurd (true≢false (sym h))
list-none false w p h e = e

pub list-some : (f : Bool) (w : ℕ) (p : Place) → not f ≡ false → p ≡ exactly w → p ≡ list_place (cond f (some w) none)
list-some true w p h e = e
list-some false w p h e = absurd (true≢false h)

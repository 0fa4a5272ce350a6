-- The numbers of a checked screen with symbols are a checked screen without.
use mathlib.Core.Path.{◌≡◌, refl, sym, ◌∙◌, ap, subst}
use mathlib.Core.Bool.{Bool, true, false, cond, ◌&&◌, ◌||◌, true≢false}
use mathlib.Core.List.{List}
use Prim.Native.Nat.{ℕ, zero, suc, ◌+◌, ◌-◌, ◌*◌, ◌/◌, ◌%◌, ◌≤◌, ◌<◌}
use native.Mathlib.Omega.{arith}
use lib.Dec.{ltb, leb, eqb}
use lib.ListN.{length, get_or}
use borrow.Author.Tests.{eqb-true, eqb-false, eq-eqb, leb-true, le-leb}
use Rattle.records.specs.Bytes.{all, value_at}
use Rattle.records.specs.Operator.{is_comparison, is_division}
use Rattle.records.specs.Record.{node, fields_at, record_at, inputs}
use Rattle.records.specs.Shape.{known_type_in, in_pool, in_type_in, max_code, Ty, uses, known_ok_in, unused_ok, literal_ok_in, shape_ok_in}
use Rattle.records.specs.declared.operator.Operator.{Operator}
use Rattle.records.specs.declared.record.Fields.{Fields}
use Rattle.records.specs.declared.record.Record.{Record}
use Rattle.records.specs.declared.record.Record.TheVariants as kind
use Rattle.records.proofs.Laws.{and_left, and_right}
use Rattle.record_check.specs.Fit.{all_fit_in, list_ok_in, reach_ok_in, served_ok, type_of, type_at, same_type, binary_fits}
use Rattle.record_check.specs.Fit.{between_fits, member_fits, types_ok}
use Rattle.checking.specs.Check.{types_known_in, table_ok_in, sizes_ok_in}
use Rattle.checking.specs.Checked.{CheckedRecordIn, CheckedIn, Checked}
use Rattle.checking.proofs.Accepted.{Below, inputs-below_in}
use Rattle.numbered_screen.specs.Numbered.{number_type, Numbered}
use Rattle.numbered_screen.proofs.Fields.{number_fields, number_record, fields-numbered, record_numbered}

both : (a b : Bool) → a ≡ true → b ≡ true → (a && b) ≡ true
both a b h k = ap (λ x. x && b) h ∙ k

each : (f g : ℕ → Bool) (n : ℕ) → all f n ≡ true → ((k : ℕ) → f k ≡ true → g k ≡ true) → all g n ≡ true
unfolding all
each f g zero h s = refl
each f g (suc n) h s = both (all g n) (g n) (each f g n (and_left (all f n) (f n) h) s) (s n (and_right (all f n) (f n) h))

-- ---- Types and values.
module _ (text : ℕ) where
  known-number : (ty : ℕ) → known_type_in text ty ≡ true → known_type_in 0 (number_type ty) ≡ true
  unfolding known_type_in number_type
  known-number ty h = go (eqb ty 4) refl
    where
      least : 1 ≤ ty
      least = leb-true 1 ty (and_left (leb 1 ty) (leb ty (cond (eqb text 0) 3 4)) h)

      most : (b : Bool) → leb ty (cond b 3 4) ≡ true → ty ≤ 4
      most true e = let l : ty ≤ 3 = leb-true ty 3 e in omega arith
      most false e = leb-true ty 4 e

      go : (b : Bool) → eqb ty 4 ≡ b → (leb 1 (cond b 1 ty) && leb (cond b 1 ty) 3) ≡ true
      go true e = refl
      go false e =
          let d : (ty ≡ 4 → ⊥) = eqb-false ty 4 e in
          let l : ty ≤ 4 = most (eqb text 0) (and_right (leb 1 ty) (leb ty (cond (eqb text 0) 3 4)) h) in
          both (leb 1 ty) (leb ty 3) (le-leb 1 ty least) (le-leb ty 3 (omega (arith, d, l)))

  typed-number : (ty v : ℕ) → in_type_in text ty v ≡ true → in_type_in 0 (number_type ty) v ≡ true
  unfolding in_type_in number_type
  typed-number ty v h = go (eqb ty 4) refl
    where
      other : (b : Bool) → eqb ty 4 ≡ false → cond b (leb v 1) (cond (eqb ty 4) (in_pool (text - 1) v) (leb v 1)) ≡ leb v 1
      other true e = refl
      other false e = rw e

      go : (b : Bool) → eqb ty 4 ≡ b
          → cond (eqb (cond b 1 ty) 1) true (cond (eqb (cond b 1 ty) 2) (ltb v 2147483648 || leb 18446744071562067968 v) (leb v 1))
          ≡ true
      go true e = refl
      go false e =
          sym (ap (λ x. cond (eqb ty 1) true (cond (eqb ty 2) (ltb v 2147483648 || leb 18446744071562067968 v) x))
          (other (eqb text 0) e)) ∙ h

  shape-number : (f : Fields) → shape_ok_in text f ≡ true → shape_ok_in 0 (number_fields f) ≡ true
  unfolding shape_ok_in known_ok_in literal_ok_in unused_ok number_type
  shape-number f h =
      let k = and_left (known_ok_in text f) (unused_ok f && literal_ok_in text f) h in
      let m = and_right (known_ok_in text f) (unused_ok f && literal_ok_in text f) h in
      let c = and_right (leb 1 f.kind) _ k in
      let d = and_right (leb f.kind 10) _ c in
      both _ _
      (both _ _ (and_left (leb 1 f.kind) _ k)
      (both _ _ (and_left (leb f.kind 10) _ c)
      (both _ _ (and_left (leb f.code (max_code f.kind)) _ d)
      (ty (uses Ty f.kind) (and_right (leb f.code (max_code f.kind)) _ d)))))
      (both _ _ (and_left (unused_ok f) (literal_ok_in text f) m)
      (value (eqb f.kind 2) (and_right (unused_ok f) (literal_ok_in text f) m)))
    where
      ty : (b : Bool) → cond b (known_type_in text f.ty) (eqb f.ty 0) ≡ true
          → cond b (known_type_in 0 (number_type f.ty)) (eqb (number_type f.ty) 0) ≡ true
      ty true e = known-number f.ty e
      ty false e = ap (λ x. eqb (cond (eqb x 4) 1 x) 0) (eqb-true f.ty 0 e)

      value : (b : Bool) → cond b (in_type_in text f.ty (f.b + 4294967296 * f.c)) true ≡ true
          → cond b (in_type_in 0 (number_type f.ty) (f.b + 4294967296 * f.c)) true ≡ true
      value true e = typed-number f.ty (f.b + 4294967296 * f.c) e
      value false e = refl

  list-number : (p : List ℕ) (ty start count : ℕ) → list_ok_in text p ty start count ≡ true
      → list_ok_in 0 p (number_type ty) start count ≡ true
  unfolding list_ok_in all_fit_in
  list-number p ty start count h =
      both _ _ (and_left (leb (start + count) (length p / 8)) _ h)
      (each (λ k. in_type_in text ty (value_at p (start + k))) (λ k. in_type_in 0 (number_type ty) (value_at p (start + k))) count
      (and_right (leb (start + count) (length p / 8)) _ h) (λ k e. typed-number ty (value_at p (start + k)) e))

positive : (x : ℕ) → ltb 0 x ≡ true → ltb 0 (number_type x) ≡ true
unfolding number_type
positive x h = go (eqb x 4)
  where
    go : (b : Bool) → ltb 0 (cond b 1 x) ≡ true
    go true = refl
    go false = h

same_number : (x y : ℕ) → same_type x y ≡ true → same_type (number_type x) (number_type y) ≡ true
unfolding same_type
same_number x y h =
    both _ _ (positive x (and_left (ltb 0 x) (eqb x y) h))
    (eq-eqb (number_type x) (number_type y) (ap number_type (eqb-true x y (and_right (ltb 0 x) (eqb x y) h))))

is_still : (x k : ℕ) → number_type k ≡ k → eqb x k ≡ true → eqb (number_type x) k ≡ true
is_still x k e h = eq-eqb (number_type x) k (ap number_type (eqb-true x k h) ∙ e)

one-still : number_type 1 ≡ 1
unfolding number_type
one-still = refl

three-still : number_type 3 ≡ 3
unfolding number_type
three-still = refl

binary-number : (o : Operator) (x y : ℕ) → binary_fits o x y ≡ true → binary_fits o (number_type x) (number_type y) ≡ true
unfolding binary_fits
binary-number o x y = go (is_comparison o) (is_division o)
  where
    go : (b d : Bool) → cond b (same_type x y) (cond d (eqb x 1 && eqb y 1) (eqb x 3 && eqb y 3)) ≡ true
        → cond b (same_type (number_type x) (number_type y)) (cond d (eqb (number_type x) 1 && eqb (number_type y) 1)
        (eqb (number_type x) 3 && eqb (number_type y) 3)) ≡ true
    go true d h = same_number x y h
    go false true h =
        both _ _ (is_still x 1 one-still (and_left (eqb x 1) (eqb y 1) h)) (is_still y 1 one-still (and_right (eqb x 1) (eqb y 1) h))
    go false false h =
        both _ _ (is_still x 3 three-still (and_left (eqb x 3) (eqb y 3) h))
        (is_still y 3 three-still (and_right (eqb x 3) (eqb y 3) h))

member-number : (x : ℕ) (r : Record) → member_fits x r ≡ true → member_fits (number_type x) (number_record r) ≡ true
unfolding member_fits
member-number x kind.Invalid h = h
member-number x (kind.Column c) h = h
member-number x (kind.Literal ty v) h = h
member-number x (kind.Null ty) h = h
member-number x (kind.Binary o y z) h = h
member-number x (kind.Not y) h = h
member-number x (kind.IsNull y) h = h
member-number x (kind.IsNotNull y) h = h
member-number x (kind.IsBetween k y low high) h = h
member-number x (kind.List ty marked start count) h = same_number x ty h
member-number x (kind.IsIn equal y list) h = h

served-number : (r : Record) → served_ok r ≡ true → served_ok (number_record r) ≡ true
unfolding served_ok
served-number kind.Invalid h = h
served-number (kind.Column c) h = h
served-number (kind.Literal ty v) h = h
served-number (kind.Null ty) h = h
served-number (kind.Binary o x y) h = h
served-number (kind.Not x) h = h
served-number (kind.IsNull x) h = h
served-number (kind.IsNotNull x) h = h
served-number (kind.IsBetween k x low high) h = h
served-number (kind.List ty marked start count) h = h
served-number (kind.IsIn equal x list) h = h

module _ (text : ℕ) (t rs p : List ℕ) (used : ℕ) (table records : List ℕ) (are : Numbered t rs used table records) where
  type_number : (r : Record) → type_of table (number_record r) ≡ number_type (type_of t r)
  unfolding type_of number_type
  type_number kind.Invalid = refl
  type_number (kind.Column c) = are.types c.0
  type_number (kind.Literal ty v) = refl
  type_number (kind.Null ty) = refl
  type_number (kind.Binary o x y) = go (is_division o)
    where
      go : (b : Bool) → ◌≡◌ {A = ℕ} (cond b 1 3) (cond (eqb (cond b 1 3) 4) 1 (cond b 1 3))
      go true = refl
      go false = refl
  type_number (kind.Not x) = refl
  type_number (kind.IsNull x) = refl
  type_number (kind.IsNotNull x) = refl
  type_number (kind.IsBetween k x low high) = refl
  type_number (kind.List ty marked start count) = refl
  type_number (kind.IsIn equal x list) = refl

  type_at_lem : (x : ℕ) → x < used → type_at table records (node x) ≡ number_type (type_at t rs (node x))
  unfolding type_at
  type_at_lem x h = ap (type_of table) (record_numbered t rs used table records are x h) ∙ type_number (record_at rs (node x))

  reach-number : (n : ℕ) (r : Record) → reach_ok_in text t p r (node n) ≡ true → reach_ok_in 0 table p (number_record r) (node n) ≡ true
  unfolding reach_ok_in
  reach-number n kind.Invalid h = h
  reach-number n (kind.Column c) h = ap (ltb c.0) are.columns ∙ h
  reach-number n (kind.Literal ty v) h = h
  reach-number n (kind.Null ty) h = h
  reach-number n (kind.Binary o x y) h = h
  reach-number n (kind.Not x) h = h
  reach-number n (kind.IsNull x) h = h
  reach-number n (kind.IsNotNull x) h = h
  reach-number n (kind.IsBetween k x low high) h = h
  reach-number n (kind.List ty marked start count) h = list-number text p ty start count h
  reach-number n (kind.IsIn equal x list) h = h

  types-number : (n : ℕ) → n < used → (r : Record) → Below n (inputs r) → types_ok t rs r ≡ true
      → types_ok table records (number_record r) ≡ true
  unfolding types_ok between_fits
  types-number n u kind.Invalid b h = h
  types-number n u (kind.Column c) b h = h
  types-number n u (kind.Literal ty v) b h = h
  types-number n u (kind.Null ty) b h = h
  types-number n u (kind.Binary o x y) b h =
      rw (type_at_lem x.0 (omega (arith, u, b.0)), type_at_lem y.0 (omega (arith, u, b.1.0)))
      (binary-number o (type_at t rs x) (type_at t rs y) h)
  types-number n u (kind.Not x) b h =
      rw (type_at_lem x.0 (omega (arith, u, b.0))) (is_still (type_at t rs x) 3 three-still h)
  types-number n u (kind.IsNull x) b h = rw (type_at_lem x.0 (omega (arith, u, b.0))) (positive (type_at t rs x) h)
  types-number n u (kind.IsNotNull x) b h = rw (type_at_lem x.0 (omega (arith, u, b.0))) (positive (type_at t rs x) h)
  types-number n u (kind.IsBetween k x low high) b h =
      rw (
        type_at_lem x.0 (omega (arith, u, b.0)),
        type_at_lem low.0 (omega (arith, u, b.1.0)),
        type_at_lem high.0 (omega (arith, u, b.1.1.0)),
      )
      (both _ _ (same_number (type_at t rs x) (type_at t rs low) (and_left (same_type (type_at t rs x) (type_at t rs low)) _ h))
      (same_number (type_at t rs x) (type_at t rs high) (and_right (same_type (type_at t rs x) (type_at t rs low)) _ h)))
  types-number n u (kind.List ty marked start count) b h = h
  types-number n u (kind.IsIn equal x list) b h =
      rw (type_at_lem x.0 (omega (arith, u, b.0)), record_numbered t rs used table records are list.0 (omega (arith, u, b.1.0)))
      (member-number (type_at t rs x) (record_at rs list) h)

  module _ (root : ℕ) (ok : CheckedIn text t rs p used root) where
    one : (n : ℕ) → n < used → CheckedRecordIn 0 table records p n
    one n h =
        let k = ok.records n h in
        let e = sym (record_numbered t rs used table records are n h) in
        record {
          shape = subst (λ f. shape_ok_in 0 f ≡ true) (sym (fields-numbered rs records used are.bytes n h))
              (shape-number text (fields_at rs (node n)) k.shape);
          reach = subst (λ r. reach_ok_in 0 table p r (node n) ≡ true) e (reach-number n (record_at rs (node n)) k.reach);
          served = subst (λ r. served_ok r ≡ true) e (served-number (record_at rs (node n)) k.served);
          types = subst (λ r. types_ok table records r ≡ true) e
              (types-number n h (record_at rs (node n)) (inputs-below_in text t rs p used root ok n h) k.types);
        }

    table-number : table_ok_in 0 table ≡ true
    unfolding table_ok_in types_known_in
    table-number =
        let few = and_left (leb (length t) 64) _ ok.table in
        let each-known = and_right (leb (length t) 64) _ ok.table in
        rw are.columns (both _ _ few
        (each (λ k. known_type_in text (get_or t k 0)) (λ k. known_type_in 0 (get_or table k 0)) (length t) each-known
        (λ k e. ap (known_type_in 0) (are.types k) ∙ known-number text (get_or t k 0) e)))

    sizes-number : sizes_ok_in 0 records p used ≡ true
    unfolding sizes_ok_in
    sizes-number =
        let m = and_right (leb used 4096) _ ok.sizes in
        let q = and_right (leb used (length rs / 16)) _ m in
        both _ _ (and_left (leb used 4096) _ ok.sizes)
        (both _ _ (le-leb used (length records / 16) (omega (arith, are.room)))
        (both _ _ (and_left (eqb (length p % 8) 0) _ q) (pool (leb text 8193) (and_right (eqb (length p % 8) 0) _ q))))
      where
        pool : (b : Bool) → cond b (leb (length p / 8) 8192) false ≡ true → leb (length p / 8) 8192 ≡ true
        pool true e = e
        pool false e = absurd (true≢false (sym e))

    pub numbers-checked : Checked table records p used root
    numbers-checked =
        record {
          table = table-number;
          sizes = sizes-number;
          root-used = ok.root-used;
          records = one;
          root-truth = type_at_lem root ok.root-used ∙ ap number_type ok.root-truth ∙ three-still;
        }

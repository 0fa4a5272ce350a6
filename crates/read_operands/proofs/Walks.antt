-- The walk in code, and its stack. The walk reads no pool, and no record past the root.
use mathlib.Core.Path.{◌≡◌, refl, sym, ◌∙◌, ap, subst}
use mathlib.Core.Bool.{Bool, true, false, cond}
use mathlib.Core.List.{List, [], ◌∷◌, ◌++◌}
use mathlib.Core.Option.{Option, none, some, none-ne-some}
use Prim.Native.Nat.{ℕ, zero, suc, ◌+◌, ◌-◌, ◌≤◌, ◌<◌}
use native.Mathlib.Omega.{arith}
use native.Mathlib.Numerals.{add-one}
use lib.ListN.{length, get_or, set, length-append}
use lib.Seq.{get_or-set_same, get_or-set_other}
use lib.Dec.{eqb}
use borrow.Author.Tests.{lt-ltb}
use Rattle.records.specs.Course.{up_to, course}
use Rattle.records.specs.Record.{node, record_at}
use Rattle.records.specs.declared.record.Record.{Record}
use Rattle.records.specs.declared.record.Record.TheVariants as kind
use Rattle.records.proofs.Courses.{course-agree}
use Rattle.truth.specs.AExpr.{AExpr, Inputs, Column, Literal, Null, BinaryExpr, Not, IsNull, IsNotNull, IsBetween}
use Rattle.truth.specs.AExpr.{ListLiteral, IsIn, Missing}
use Rattle.truth.specs.AExpr.{Compare, EqValidity, NotEqValidity, And, Or, Xor, LogicalAnd, LogicalOr}
use Rattle.truth.specs.AExpr.{FloorDivide, Modulus}
use Rattle.truth.specs.FromBytes.{to_aexpr, aexpr_of, aexpr_at}
use Rattle.merge.specs.Minterms.{and_sides, minterms, minterms_by, pending}
use Rattle.read_operands.specs.Walk.{record_sides, walked, first_of, stack_of, InputsBelow}
use Rattle.merge.proofs.Chains.{pending-and, pending-one}

pub walked-sides : (rs : List ℕ) (n : ℕ) → and_sides (walked rs n) ≡ record_sides (record_at rs (node n))
unfolding aexpr_of
walked-sides rs n = refl

-- ---- The walk is that of the used records.
any-pool : (p : List ℕ) (r : Record) → and_sides (to_aexpr p r) ≡ record_sides r
any-pool p kind.Invalid = refl
any-pool p (kind.Column c) = refl
any-pool p (kind.Literal ty v) = refl
any-pool p (kind.Null ty) = refl
any-pool p (kind.Binary o x y) = refl
any-pool p (kind.Not x) = refl
any-pool p (kind.IsNull x) = refl
any-pool p (kind.IsNotNull x) = refl
any-pool p (kind.IsBetween ends x low high) = refl
any-pool p (kind.List ty holds_null start count) = refl
any-pool p (kind.IsIn nulls_equal x list) = refl

used-sides : (rs p : List ℕ) (used n : ℕ) → n < used → and_sides (aexpr_at rs p used n) ≡ and_sides (walked rs n)
unfolding aexpr_at aexpr_of
used-sides rs p used n h =
    rw (lt-ltb n used h) (any-pool p (record_at rs (node n)))

pub walked-minterms : (rs p : List ℕ) (used n : ℕ) → n < used
    → minterms (walked rs) n ≡ minterms (aexpr_at rs p used) n
walked-minterms rs p used n h =
    course-agree (λ a. a ∷ []) (λ below i. minterms_by i below (and_sides (walked rs i)))
    (λ below i. minterms_by i below (and_sides (aexpr_at rs p used i))) used
    (λ m k C D e. ap (minterms_by m C) (sym (used-sides rs p used m k)) ∙ go m C D e (and_sides (aexpr_at rs p used m)))
    n h
  where
    go : (m : ℕ) (C D : ℕ → List ℕ) → ((a : ℕ) → C a ≡ D a) → (o : Option (ℕ × ℕ))
        → minterms_by m C o ≡ minterms_by m D o
    go m C D e none = refl
    go m C D e (some s) = rw (e s.0, e s.1)

-- ---- The stack.
above-set : (a : List ℕ) (i j v : ℕ) → j < i → get_or (set a i v) j 0 ≡ get_or a j 0
above-set a i j v h = let d : (j ≡ i → ⊥) = λ e. absurd (omega (arith, e)) in get_or-set_other a i j v 0 d

pub stack_kept : (a : List ℕ) (i v n : ℕ) → n ≤ i → stack_of (set a i v) n ≡ stack_of a n
unfolding stack_of
stack_kept a i v zero h = refl
stack_kept a i v (suc n) h = rw (above-set a i n v (omega arith), stack_kept a i v n (omega arith))

pub first-kept : (a : List ℕ) (i v n : ℕ) → n ≤ i → first_of (set a i v) n ≡ first_of a n
unfolding first_of
first-kept a i v zero h = refl
first-kept a i v (suc n) h = rw (above-set a i n v (omega arith), first-kept a i v n (omega arith))

pub first_more : (a : List ℕ) (n v : ℕ) → n < length a → first_of (set a n v) (n + 1) ≡ (first_of a n ++ (v ∷ []))
unfolding first_of
first_more a n v h = rw (add-one, first-kept a n v n (omega arith), get_or-set_same a n v 0 h)

pub first-none : (a : List ℕ) → first_of a 0 ≡ []
unfolding first_of
first-none a = refl

pub first-length : (a : List ℕ) (n : ℕ) → length (first_of a n) ≡ n
unfolding first_of
first-length a zero = refl
first-length a (suc n) =
    length-append (first_of a n) (get_or a n 0 ∷ [])
    ∙ let e : length (first_of a n) ≡ n = first-length a n in omega (arith, e)

stack_top : (a : List ℕ) (n : ℕ) → 0 < n → stack_of a n ≡ (get_or a (n - 1) 0 ∷ stack_of a (n - 1))
unfolding stack_of
stack_top a zero h = absurd (omega arith)
stack_top a (suc n) h = let e : suc n - 1 ≡ n = omega arith in rw e

stack_push : (a : List ℕ) (n y : ℕ) → n < length a → stack_of (set a n y) (n + 1) ≡ (y ∷ stack_of a n)
unfolding stack_of
stack_push a n y h = rw (add-one, get_or-set_same a n y 0 h, stack_kept a n y n (omega arith))

stack_length : (a : List ℕ) (n : ℕ) → length (stack_of a n) ≡ n
unfolding stack_of
stack_length a zero = refl
stack_length a (suc n) = ap suc (stack_length a n)

-- Every node has a conjunct, so the stack is no longer than what it still has to give.
some_below : (R : ℕ → AExpr ℕ) (n a : ℕ)
    → 1 ≤ length (up_to (λ a. a ∷ []) (λ below i. minterms_by i below (and_sides (R i))) n a)
unfolding up_to
some_below R zero a = omega arith
some_below R (suc n) a = go (eqb a n) (and_sides (R n)) (λ b. some_below R n b)
  where
    go : (b : Bool) (o : Option (ℕ × ℕ))
        → ((c : ℕ) → 1 ≤ length (up_to (λ a. a ∷ []) (λ below i. minterms_by i below (and_sides (R i))) n c))
        → 1 ≤ length (cond b
        (minterms_by n (λ i. up_to (λ a. a ∷ []) (λ below i. minterms_by i below (and_sides (R i))) n i) o)
        (up_to (λ a. a ∷ []) (λ below i. minterms_by i below (and_sides (R i))) n a))
    go true none h = omega arith
    go true (some s) h =
        let e = length-append (up_to (λ a. a ∷ []) (λ below i. minterms_by i below (and_sides (R i))) n s.0)
        (up_to (λ a. a ∷ []) (λ below i. minterms_by i below (and_sides (R i))) n s.1) in
        let k = h s.0 in
        omega (arith, e, k)
    go false o h = h a

minterms-some : (R : ℕ → AExpr ℕ) (n : ℕ) → 1 ≤ length (minterms R n)
unfolding course
minterms-some R n = some_below R (suc n) n

pending-long : (R : ℕ → AExpr ℕ) (l : List ℕ) → length l ≤ length (pending R l)
pending-long R [] = omega arith
pending-long R (n ∷ l) =
    let e = length-append (minterms R n) (pending R l) in
    let a = minterms-some R n in
    let b = pending-long R l in
    omega (arith, e, a, b)

pub append-nil : (l : List ℕ) → (l ++ []) ≡ l
append-nil [] = refl
append-nil (x ∷ l) = ap (λ m. x ∷ m) (append-nil l)

-- The sides of a record are below it.
abbrev sides_or : Option (ℕ × ℕ) → ℕ × ℕ
sides_or none = (0, 0)
sides_or (some s) = s

both-low : (n u w x y : ℕ) → u < n → w < n → ◌≡◌ {A = Option (ℕ × ℕ)} (some (u, w)) (some (x, y)) → (x < n) × (y < n)
both-low n u w x y h k e =
    (subst (λ m. m < n) (ap (λ o. (sides_or o).0) e) h, subst (λ m. m < n) (ap (λ o. (sides_or o).1) e) k)

pub sides_low : (n x y : ℕ) (r : AExpr ℕ) → Inputs n r → and_sides r ≡ some (x, y) → (x < n) × (y < n)
sides_low n x y (Column c) i e = absurd (none-ne-some _ e)
sides_low n x y (Literal v) i e = absurd (none-ne-some _ e)
sides_low n x y Null i e = absurd (none-ne-some _ e)
sides_low n x y (BinaryExpr (Compare o) u w) i e = absurd (none-ne-some _ e)
sides_low n x y (BinaryExpr EqValidity u w) i e = absurd (none-ne-some _ e)
sides_low n x y (BinaryExpr NotEqValidity u w) i e = absurd (none-ne-some _ e)
sides_low n x y (BinaryExpr FloorDivide u w) i e = absurd (none-ne-some _ e)
sides_low n x y (BinaryExpr Modulus u w) i e = absurd (none-ne-some _ e)
sides_low n x y (BinaryExpr And u w) i e = both-low n u w x y i.0 i.1 e
sides_low n x y (BinaryExpr Or u w) i e = absurd (none-ne-some _ e)
sides_low n x y (BinaryExpr Xor u w) i e = absurd (none-ne-some _ e)
sides_low n x y (BinaryExpr LogicalAnd u w) i e = both-low n u w x y i.0 i.1 e
sides_low n x y (BinaryExpr LogicalOr u w) i e = absurd (none-ne-some _ e)
sides_low n x y (Not a) i e = absurd (none-ne-some _ e)
sides_low n x y (IsNull a) i e = absurd (none-ne-some _ e)
sides_low n x y (IsNotNull a) i e = absurd (none-ne-some _ e)
sides_low n x y (IsBetween c d a low high) i e = absurd (none-ne-some _ e)
sides_low n x y (ListLiteral k l) i e = absurd (none-ne-some _ e)
sides_low n x y (IsIn k a l) i e = absurd (none-ne-some _ e)
sides_low n x y Missing i e = absurd (none-ne-some _ e)

-- ---- One turn of the walk: an And at the top.
module _ (rs : List ℕ) (top x y : ℕ) (st : List ℕ) (left : ℕ)
    (below : InputsBelow (walked rs) (top ∷ stack_of st left))
    (both : some (x, y) ≡ record_sides (record_at rs (node top))) where
  sides_here : and_sides (walked rs top) ≡ some (x, y)
  sides_here = walked-sides rs top ∙ sym both

  inputs-here : Inputs top (walked rs top)
  inputs-here = below.0 top (omega arith)

  pub left_below : (x < top) × (y < top)
  left_below = sides_low top x y (walked rs top) inputs-here sides_here

  turn_two : pending (walked rs) (top ∷ stack_of st left) ≡ pending (walked rs) (x ∷ (y ∷ stack_of st left))
  turn_two = pending-and (walked rs) top x y (stack_of st left) inputs-here sides_here

  -- both sides have a conjunct, so there is room for one node more
  pub turn_room : (room : ℕ) → length (pending (walked rs) (top ∷ stack_of st left)) ≤ room → left + 1 < room
  turn_room room few =
      let e : length (pending (walked rs) (top ∷ stack_of st left)) ≡
      length (pending (walked rs) (x ∷ (y ∷ stack_of st left))) = ap length turn_two in
      let c : suc (suc (length (stack_of st left))) ≤ length (pending (walked rs) (x ∷ (y ∷ stack_of st left))) =
      pending-long (walked rs) (x ∷ (y ∷ stack_of st left)) in
      let d = stack_length st left in
      omega (arith, e, c, d, few)

  pub turn_pending : left < length st
      → pending (walked rs) (x ∷ stack_of (set st left y) (left + 1)) ≡ pending (walked rs) (top ∷ stack_of st left)
  turn_pending room = ap (λ l. pending (walked rs) (x ∷ l)) (stack_push st left y room) ∙ sym turn_two

  pub turn_below : left < length st → InputsBelow (walked rs) (x ∷ stack_of (set st left y) (left + 1))
  turn_below room =
      let p : x < top = left_below.0 in
      let q : y < top = left_below.1 in (
        (λ n h. below.0 n (omega arith)),
        subst (InputsBelow (walked rs)) (sym (stack_push st left y room)) ((λ n h. below.0 n (omega arith)), below.1),
      )

-- No And at the top: the conjunct.
pub turn_one : (rs : List ℕ) (top : ℕ) (s : List ℕ) → InputsBelow (walked rs) (top ∷ s)
    → none ≡ record_sides (record_at rs (node top))
    → pending (walked rs) (top ∷ s) ≡ (top ∷ pending (walked rs) s)
turn_one rs top s below one =
    pending-one (walked rs) top s (below.0 top (omega arith)) (walked-sides rs top ∙ sym one)

-- The stack as it is taken: its top, and the rest.
pub top_pending : (R : ℕ → AExpr ℕ) (st : List ℕ) (depth : ℕ) → 0 < depth
    → pending R (get_or st (depth - 1) 0 ∷ stack_of st (depth - 1)) ≡ pending R (stack_of st depth)
top_pending R st depth live = ap (pending R) (sym (stack_top st depth live))

pub top_below : (R : ℕ → AExpr ℕ) (st : List ℕ) (depth : ℕ) → 0 < depth → InputsBelow R (stack_of st depth)
    → InputsBelow R (get_or st (depth - 1) 0 ∷ stack_of st (depth - 1))
top_below R st depth live b = subst (InputsBelow R) (stack_top st depth live) b

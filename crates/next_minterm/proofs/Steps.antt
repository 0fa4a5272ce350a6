-- The stack at the start, one step of the walk, and one turn of `minterms`.
use mathlib.Core.Path.{◌≡◌, refl, sym, ap, ◌∙◌, subst}
use mathlib.Core.Bool.{Bool, true, false}
use mathlib.Core.List.{List, [], ◌∷◌, ◌++◌, map, append_assoc}
use Rattle.std.specs.Prelude.{Option, Some, None, Result, Ok, Err}
use Prim.Native.Nat.{ℕ, suc, ◌+◌, ◌≤◌, ◌<◌, min}
use native.Mathlib.Omega.{arith}
use Rattle.checking.proofs.Bits.{lt-or_le}
use mathlib.Core.Logic.{◌⊎◌, inl, inr}
use mathlib.Core.Option.{some}
use lib.ListN.{length, set, length-append}
use Rattle.records.specs.Record.{node, record_at}
use Rattle.records.specs.declared.record.Node.{Node}
use Rattle.truth.specs.AExpr.{AExpr, Inputs}
use Rattle.merge.specs.Minterms.{minterms, pending}
use Rattle.read_operands.specs.Walk.{walked, record_sides, first_of, stack_of, InputsBelow}
use Rattle.read_operands.proofs.Walks.{append-nil, first_more, first-length, first-none, turn_room}
use Rattle.next_minterm.specs.Iter.{stack_in, Walkable, Next, Taken}
use Rattle.next_minterm.specs.declared.Over.{Over}
use Rattle.next_minterm.specs.declared.Stack.{Stack}

-- An array field's row holds its list mapped by the elements' own way into theirs, which for numbers is no change.
pub map_same : (l : List ℕ) → map (λ (v : ℕ). v) l ≡ l
map_same [] = refl
map_same (x ∷ l) = ap (λ m. x ∷ m) (map_same l)

-- ---- What `new` gives can be walked.
pub new-walkable : (rs : List ℕ) (s : Stack) (root : ℕ) → (stack_in s ≡ (root ∷ [])) × (s.len ≤ 128)
    → ((n : ℕ) → n ≤ root → Inputs n (walked rs n)) → Walkable rs s
new-walkable rs s root e below = (subst (InputsBelow (walked rs)) (sym e.0) (below, tt), e.1)

-- ---- An empty stack gives nothing.
pub step-none : (R : ℕ → AExpr ℕ) (st : List ℕ) (depth : ℕ) → depth ≡ 0
    → Next R (stack_of st depth) None (stack_of st 0) × InputsBelow R (stack_of st 0) × (0 ≤ 128)
unfolding stack_of
step-none R st depth e = ((ap (λ d. pending R (stack_of st d)) e, refl), tt, omega arith)

-- An And on top of 127 nodes: each gives a conjunct at least, and the And two.
pub step-over : (rs p : List ℕ) (top x y : ℕ) (st : List ℕ) (left : ℕ)
    → InputsBelow (walked rs) (top ∷ stack_of st left) → some (x, y) ≡ record_sides (record_at rs (node top)) → 127 ≤ left
    → pending (walked rs) (top ∷ stack_of st left) ≡ p
    → ((128 < length p) × (stack_of st 0 ≡ [])) × InputsBelow (walked rs) (stack_of st 0) × (0 ≤ 128)
unfolding stack_of
step-over rs p top x y st left below both full e =
    let r = turn_room rs top x y st left below both (length (pending (walked rs) (top ∷ stack_of st left))) (omega
    arith) in
    let q = ap length e in
    ((omega (arith, r, q, full), refl), tt, omega arith)

-- ---- An item taken.
pub taken_none : (a : List ℕ) (n : ℕ) (i : Option (Result Node Over)) → i ≡ None → Taken a n i a n false
taken_none a n i e = subst (λ j. Taken a n j a n false) (sym e) (refl, refl, refl)

pub taken-full : (a : List ℕ) (n : ℕ) (i : Option (Result Node Over)) (x : Node) → i ≡ Some (Ok x) → 128 ≤ n → Taken a n i a 129 false
taken-full a n i x e full =
    subst (λ j. Taken a n j a 129 false) (sym e) ((λ low. absurd (omega (arith, low, full))), λ _. (refl, refl))

pub taken-some : (a : List ℕ) (n : ℕ) (i : Option (Result Node Over)) (x : Node) → i ≡ Some (Ok x) → n < 128
    → Taken a n i (set a n x.0) (n + 1) true
taken-some a n i x e low =
    subst (λ j. Taken a n j (set a n x.0) (n + 1) true) (sym e)
    ((λ _. (refl, refl, refl)), λ full. absurd (omega (arith, low, full)))

pub taken-over : (a : List ℕ) (n : ℕ) (i : Option (Result Node Over)) (o : Over) → i ≡ Some (Err o) → Taken a n i a 129 false
taken-over a n i o e = subst (λ j. Taken a n j a 129 false) (sym e) (refl, refl)

-- ---- One turn of `minterms`.
-- Before a turn: those found, and those to come, are the root's. After the last: how many they are, and those found.
abbrev pub Turning : (ℕ → AExpr ℕ) → List ℕ → List ℕ → List ℕ → ℕ → Bool → Type 0
Turning R all s a n true = ((first_of a n ++ pending R s) ≡ all) × (n ≤ 128)
Turning R all s a n false = (n ≡ min (length all) 129) × (length all ≤ 128 → first_of a n ≡ all)

-- What falls from turn to turn.
abbrev pub to_come : (ℕ → AExpr ℕ) → List ℕ → Bool → ℕ
to_come R s true = suc (length (pending R s))
to_come R s false = 0

pub begins : (rs : List ℕ) (root : ℕ) (s a : List ℕ) → s ≡ (root ∷ [])
    → Turning (walked rs) (minterms (walked rs) root) s a 0 true
begins rs root s a e = (
  ap (λ l. l ++ pending (walked rs) s) (first-none a) ∙ ap (pending (walked rs)) e
      ∙ append-nil (minterms (walked rs) root),
  omega arith,
)

pub count : (all a l : List ℕ) (n : ℕ) → (first_of a n ++ l) ≡ all → length all ≡ n + length l
count all a l n e =
    let c = sym (ap length e) in
    let d = length-append (first_of a n) l in
    let f = first-length a n in
    omega (arith, c, d, f)

-- Too many: the count is 129, whatever is found.
pub over : (R : ℕ → AExpr ℕ) (all t b : List ℕ) → 128 < length all → Turning R all t b 129 false
over R all t b many = (omega (arith, many), λ few. absurd (omega (arith, many, few)))

pub stop : (R : ℕ → AExpr ℕ) (all s a : List ℕ) (n : ℕ) → pending R s ≡ [] → Turning R all s a n true
    → (t : List ℕ) → Turning R all t a n false
stop R all s a n none h t =
    let e : first_of a n ≡ all = sym (append-nil (first_of a n)) ∙ ap (λ l. first_of a n ++ l) (sym none) ∙ h.0 in
    let c = sym (ap length e) in
    let f = first-length a n in
    (omega (arith, c, f, h.1), λ few. e)

pub more : (R : ℕ → AExpr ℕ) (all s t a : List ℕ) (n x : ℕ) → n < length a → n < 128
    → pending R s ≡ (x ∷ pending R t) → Turning R all s a n true → Turning R all t (set a n x) (n + 1) true
more R all s t a n x room low p h = (
  ap (λ l. l ++ pending R t) (first_more a n x room) ∙ append_assoc (first_of a n) (x ∷ []) (pending R t)
      ∙ ap (λ l. first_of a n ++ l) (sym p) ∙ h.0,
  omega (arith, low),
)

abbrev pub Turned : (ℕ → AExpr ℕ) → List ℕ → List ℕ → List ℕ → List ℕ → ℕ → Bool → Type 0
Turned R all s t b m z = Turning R all t b m z × (to_come R t z < to_come R s true)

pub turn : (R : ℕ → AExpr ℕ) (all s t a b : List ℕ) (n m : ℕ) (i : Option (Result Node Over)) (z : Bool) → 128 ≤ length a
    → Turning R all s a n true → Next R s i t → Taken a n i b m z → Turned R all s t b m z
turn R all s t a b n m None z room h p k =
    subst (Turned R all s t b m) (sym k.2)
    (subst (λ l. Turned R all s t l m false) (sym k.0) (subst (λ j. Turned R all s t a j false) (sym k.1)
    (stop R all s a n p.0 h t, omega arith)))
turn R all s t a b n m (Some (Ok x)) z room h p k = go (lt-or_le n 128)
  where
    fall : length (pending R s) ≡ suc (length (pending R t))
    fall = ap length p

    go : (n < 128) ⊎ (128 ≤ n) → Turned R all s t b m z
    go (inl low) =
        let e = k.0 low in
        subst (Turned R all s t b m) (sym e.2)
        (subst (λ l. Turned R all s t l m true) (sym e.0)
        (subst (λ j. Turned R all s t (set a n x.0) j true) (sym e.1)
        (more R all s t a n x.0 (omega (arith, low, room)) low p h, omega (arith, fall))))
    go (inr full) =
        let e = k.1 full in
        let c = count all a (pending R s) n h.0 in
        subst (Turned R all s t b m) (sym e.1) (subst (λ j. Turned R all s t b j false) (sym e.0)
        (over R all t b (omega (arith, c, fall, full)), omega arith))
turn R all s t a b n m (Some (Err e)) z room h p k =
    let c = count all a (pending R s) n h.0 in
    subst (Turned R all s t b m) (sym k.1) (subst (λ j. Turned R all s t b j false) (sym k.0)
    (over R all t b (omega (arith, c, p.0)), omega arith))

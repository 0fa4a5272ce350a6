-- The first nodes of an array summed, and the answer by its tests.
use mathlib.Core.Path.{◌≡◌, refl, sym, ◌∙◌, ap}
use mathlib.Core.Bool.{Bool, true, false, not, cond, ◌&&◌}
use mathlib.Core.List.{List, [], ◌∷◌, ◌++◌}
use Prim.Native.Nat.{ℕ, zero, suc, ◌+◌, ◌*◌, ◌-◌, ◌/◌, ◌≤◌}
use native.Mathlib.Omega.{arith}
use native.Mathlib.Numerals.{add-one}
use lib.Dec.{leb}
use lib.ListN.{length, get_or, length-append}
use borrow.Author.Tests.{leb-true, not-true, not-false}
use Rattle.checking.specs.Tree.{sum_at}
use Rattle.records.proofs.Laws.{and_left, and_right}
use Rattle.merge.specs.declared.answer.RewriteAnswer.{RewriteAnswer}
use Rattle.merge.specs.declared.answer.RewriteAnswer.TheVariants as answer
use Rattle.read_operands.specs.Walk.{first_of}
use Rattle.read_operands.proofs.Walks.{first-length}
use Rattle.reckoning.specs.Reckon.{room_for, reckoned}

-- ---- the trees of the kept nodes
sum_append : (f : ℕ → ℕ) (l m : List ℕ) → sum_at f (l ++ m) ≡ sum_at f l + sum_at f m
sum_append f [] m = let h : sum_at f m ≡ 0 + sum_at f m = omega arith in h
sum_append f (x ∷ l) m =
    let h : sum_at f (l ++ m) ≡ sum_at f l + sum_at f m = sum_append f l m in
    let g : f x + sum_at f (l ++ m) ≡ f x + sum_at f l + sum_at f m = omega (arith, h) in g

pub sum_none : (f : ℕ → ℕ) (a : List ℕ) → 0 ≡ sum_at f (first_of a 0)
unfolding first_of
sum_none f a = refl

pub sum_more : (f : ℕ → ℕ) (a : List ℕ) (i sum x : ℕ) → sum ≡ sum_at f (first_of a i) → x ≡ f (get_or a i 0) →
    sum + x ≡ sum_at f (first_of a (i + 1))
unfolding first_of
sum_more f a i sum x e g =
    let h : sum_at f (first_of a i ++ (get_or a i 0 ∷ [])) ≡ sum_at f (first_of a i) + (f (get_or a i 0) + 0) =
    sum_append f (first_of a i) (get_or a i 0 ∷ []) in
    let k : sum + x ≡ sum_at f (first_of a i) + (f (get_or a i 0) + 0) = omega (arith, e, g) in rw add-one (k ∙ sym h)

-- ---- room
pub room-few : (len used : ℕ) → room_for len used ≡ true → used ≤ 4096
room-few len used e = leb-true used 4096 (and_left (leb used 4096) (leb used (len / 16)) e)

pub room-lent : (len used : ℕ) → room_for len used ≡ true → used ≤ len / 16
room-lent len used e = leb-true used (len / 16) (and_right (leb used 4096) (leb used (len / 16)) e)

next-room : (len used : ℕ) (b x : Bool) → b ≡ room_for len (used + 1) → b ≡ x → room_for len (suc used) ≡ x
next-room len used b x e f = rw add-one at (sym e ∙ f)

pub nothing-full : (len used : ℕ) (b : Bool) → b ≡ room_for len (used + 1) → not b ≡ true →
    answer.Refused 11 ≡ cond (room_for len (suc used)) (answer.NothingPasses used (suc used)) (answer.Refused 11)
nothing-full len used b e h =
    sym (ap (λ (x : Bool). cond x (answer.NothingPasses used (suc used)) (answer.Refused 11))
    (next-room len used b false e (not-true b h)))

pub nothing-fits : (len used : ℕ) (b : Bool) → b ≡ room_for len (used + 1) → not b ≡ false →
    answer.NothingPasses used (used + 1) ≡
    cond (room_for len (suc used)) (answer.NothingPasses used (suc used)) (answer.Refused 11)
nothing-fits len used b e h =
    rw add-one (sym (ap (λ (x : Bool). cond x (answer.NothingPasses used (suc used)) (answer.Refused 11))
    (next-room len used b true e (not-false b h))))

-- ---- the answer for a rebuilt chain, by its tests: room, tree
abbrev added_to : ℕ → ℕ → ℕ
added_to kept m = 3 * m + (kept + m - 1)

abbrev tested : Bool → Bool → ℕ → ℕ → RewriteAnswer
tested room small last used = cond (room && small) (answer.Rewritten last used) (answer.Refused 11)

pub reckoned-law : (len : ℕ) (trees nodes : List ℕ) (used kept m : ℕ) (room small : Bool) (sum : ℕ)
    → room ≡ room_for len (used + added_to kept m)
    → sum ≡ sum_at (λ n. get_or trees n 0) (first_of nodes kept) → small ≡ leb (sum + added_to kept m) 4096
    → reckoned len trees used (first_of nodes kept) m ≡
    tested room small (used + added_to kept m - 1) (used + added_to kept m)
unfolding reckoned
reckoned-law len trees nodes used kept m room small sum e1 e2 e3 = rw (first-length nodes kept, e1, e3, e2)

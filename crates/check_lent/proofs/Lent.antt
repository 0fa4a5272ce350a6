-- What is lent past the limit of 2.10 is refused whatever its length; and to a screen that is accepted where nothing is lent
-- a text pool says nothing.
-- Assumes nothing.
use Prim.Native.Nat.{ℕ, suc, ◌+◌, ◌/◌, ◌%◌, ◌≤◌, ◌<◌}
use mathlib.Core.Path.{◌≡◌, refl, sym, ◌∙◌, ap}
use mathlib.Core.Bool.{Bool, true, false, cond, ◌&&◌}
use mathlib.Core.List.{List}
use native.Mathlib.Omega.{arith}
use lib.Dec.{ltb, leb, eqb}
use lib.ListN.{length, get_or}
use borrow.Author.Tests.{ltb-true, lt-leb, ne_eqb}
use Rattle.records.specs.Record.{node, fields_at}
use Rattle.records.specs.Shape.{known_type_in}
use Rattle.records.proofs.Laws.{by-test}
use Rattle.records.proofs.Loops.{all_holds}
use Rattle.checking.specs.Check.{types_known_in, table_ok_in, sizes_ok_in, check_answer_in, check_answer}
use Rattle.checking.specs.Fault.{answer_of, Stands}
use Rattle.checking.specs.Answer.{Accepted}
use Rattle.checking.proofs.Accepted.{checked}
use Rattle.checking.proofs.Sizes.{table-known}
use Rattle.checking.proofs.Standing.{accepted-of, not-text, shape_free}
use Rattle.symbol_screens.proofs.NumbersChecked.{NoText}

-- a table is known or not whatever the length of what is lent
pub table_same : (n m : ℕ) (t : List ℕ) → table_ok_in (suc n) t ≡ table_ok_in (suc m) t
unfolding table_ok_in types_known_in known_type_in
table_same n m t =
    let a : eqb (suc n) 0 ≡ false = ne_eqb (suc n) 0 (λ q. omega (arith, q)) in
    let b : eqb (suc m) 0 ≡ false = ne_eqb (suc m) 0 (λ q. omega (arith, q)) in rw (a, b)

-- the last of four tests
pub last_fails : (a b c d : Bool) → d ≡ false → (a && (b && (c && d))) ≡ false
last_fails true true true d e = e
last_fails true true false d e = refl
last_fails true false c d e = refl
last_fails false b c d e = refl

pub long-text : (n : ℕ) (rs p : List ℕ) (used : ℕ) → 8192 < n → sizes_ok_in (suc n) rs p used ≡ false
unfolding sizes_ok_in
long-text n rs p used h =
    last_fails (leb used 4096) (leb used (length rs / 16)) (eqb (length p % 8) 0)
    (cond (leb (suc n) 8193) (leb (length p / 8) 8192) false) (rw (lt-leb (suc n) 8193 (omega (arith, h))))

-- two screens with the same table, both past a limit of sizes, are refused alike
pub refused-alike : (n m : ℕ) (t a b rs p : List ℕ) (u used r root : ℕ) → sizes_ok_in (suc n) a b u ≡ false
    → sizes_ok_in (suc m) rs p used ≡ false → check_answer_in (suc n) t a b u r ≡ check_answer_in (suc m) t rs p used root
unfolding check_answer_in
refused-alike n m t a b rs p u used r root e g = rw (table_same n m t, e, g)

-- a fault that is 8 more stands for the same answer
pub eight_more : (f : ℕ) → answer_of (f % 8 + 8) ≡ answer_of f
unfolding answer_of
eight_more f = let e : (f % 8 + 8) % 8 ≡ f % 8 = omega arith in rw e

pub unfaulted : (f : ℕ) → f % 8 ≡ 0 → answer_of f ≡ Accepted
unfolding answer_of
unfaulted f h = rw h

pub lent_alike : (text : ℕ) (t rs p : List ℕ) (used root : ℕ)
    → check_answer_in (cond (ltb 8192 text) 8194 (suc text)) t rs p used root ≡ check_answer_in (suc text) t rs p used root
lent_alike text t rs p used root =
    by-test (ltb 8192 text)
    (λ y. rw y (refused-alike 8193 text t rs p rs p used used root root (long-text 8193 rs p used (omega arith))
    (long-text text rs p used (ltb-true 8192 text y))))
    (λ n. rw n)

-- ---- What is accepted without a text pool.
pub accepted-free : (t rs p : List ℕ) (used root : ℕ) → check_answer t rs p used root ≡ Accepted → NoText t rs used
unfolding types_known_in
accepted-free t rs p used root e =
    let ok = checked t rs p used root e in
    record {
      columns = λ c l.
          not-text (get_or t c 0) (all_holds (λ (k : ℕ). known_type_in 0 (get_or t k 0)) c (length t) l (table-known t ok.table));
      records = λ n l. shape_free (fields_at rs (node n)) (ok.records n l).shape;
    }

-- ---- A round: what checking was told of the text pool, and the fault that it gave.
module _ (symbols : Bool) (lent text : ℕ) (t rs p : List ℕ) (used root f : ℕ)
    (how : lent ≡ cond symbols (cond (ltb 8192 text) 8194 (suc text)) 0)
    (given : answer_of f ≡ check_answer_in lent t rs p used root) where
  pub told-answer : symbols ≡ true → answer_of (f % 8 + 8) ≡ check_answer_in (suc text) t rs p used root
  told-answer s =
      eight_more f ∙ given
      ∙ ap (λ x. check_answer_in x t rs p used root) (how ∙ ap (λ b. cond b (cond (ltb 8192 text) 8194 (suc text)) 0) s)
      ∙ lent_alike text t rs p used root

  module _ (s : symbols ≡ false) (short : text ≤ 8192) where
    pub untold : lent ≡ 0
    untold = how ∙ ap (λ b. cond b (cond (ltb 8192 text) 8194 (suc text)) 0) s

    untold_given : answer_of f ≡ check_answer t rs p used root
    untold_given = given ∙ ap (λ x. check_answer_in x t rs p used root) untold

    pub untold_answer : Stands t rs p used root → answer_of f ≡ check_answer_in (suc text) t rs p used root
    untold_answer h = untold_given ∙ sym (h (suc text) (omega (arith, short)))

    pub untold_free : f ≡ 0 → (text ≤ 8192) × NoText t rs used
    untold_free z = (short, accepted-free t rs p used root (sym untold_given ∙ accepted-of f z))

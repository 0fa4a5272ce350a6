-- A screen saved: the limits that checking grants, and the blocks one behind the other.
-- Assumes nothing.
use Prim.Native.Nat.{ℕ, suc, ◌+◌, ◌-◌, ◌*◌, ◌/◌, ◌%◌, ◌≤◌, ◌<◌}
use mathlib.Core.Path.{◌≡◌, refl, sym, ◌∙◌, ap, ap₂}
use mathlib.Core.Bool.{Bool, true, false, cond, true≢false, ◌&&◌}
use mathlib.Core.List.{List, ◌++◌, append_assoc}
use native.Mathlib.Omega.{arith}
use lib.Dec.{leb, eqb}
use lib.ListN.{length, take, length-append}
use lib.Seq.{length-take-le}
use borrow.Author.Tests.{leb-true, eqb-true, le-leb, lt-leb}
use Rattle.records.proofs.Laws.{and_left, and_right, by-test}
use Rattle.checking.specs.Check.{types_known_in, table_ok_in, sizes_ok_in, check_answer_in}
use Rattle.checking.specs.Answer as check
use Rattle.checking.proofs.Accepted.{checked-in}
use Rattle.checking.proofs.Sizes.{used-small_in, used-lent_in, pool-small_in}
use Rattle.files.specs.SaveAnswer as save
use Rattle.file_blocks.specs.Format.{block, blocks_to, blocks_for, file_blocks, file_of, file_length, word_bytes, overwrite}
use Rattle.files.specs.Answers.{save_answer, save_bytes}
use Rattle.file_blocks.proofs.Lists.{overwrite-more}
use Rattle.file_blocks.proofs.Making.{length-block, length-blocks}

-- what saving needs to know of a checked screen
pub record Limits (t rs p text : List ℕ) (used root : ℕ) : Type 0 where
  pub columns : length t ≤ 64
  pub records : used ≤ 4096
  pub lent : 16 * used ≤ length rs
  pub values : length p ≤ 65536
  pub whole : length p % 8 ≡ 0
  pub bytes : length text ≤ 8192
  pub root-used : root < used

behind-records : (text : ℕ) (rs p : List ℕ) (used : ℕ) → sizes_ok_in text rs p used ≡ true
    → (eqb (length p % 8) 0 && cond (leb text 8193) (leb (length p / 8) 8192) false) ≡ true
unfolding sizes_ok_in
behind-records text rs p used e =
    let last = eqb (length p % 8) 0 && cond (leb text 8193) (leb (length p / 8) 8192) false in
    and_right (leb used (length rs / 16)) last (and_right (leb used 4096) (leb used (length rs / 16) && last) e)

pool-whole : (text : ℕ) (rs p : List ℕ) (used : ℕ) → sizes_ok_in text rs p used ≡ true → length p % 8 ≡ 0
pool-whole text rs p used e =
    eqb-true (length p % 8) 0
    (and_left (eqb (length p % 8) 0) (cond (leb text 8193) (leb (length p / 8) 8192) false) (behind-records text rs p used e))

pool-small : (text : ℕ) (rs p : List ℕ) (used : ℕ) → sizes_ok_in text rs p used ≡ true → length p ≤ 65536
pool-small text rs p used e =
    let w = pool-whole text rs p used e in let h = pool-small_in text rs p used e in omega (arith, w, h)

text-small : (text : ℕ) (rs p : List ℕ) (used : ℕ) → sizes_ok_in text rs p used ≡ true → text ≤ 8193
text-small text rs p used e =
    leb-true text 8193
    (go (leb text 8193)
    (and_right (eqb (length p % 8) 0) (cond (leb text 8193) (leb (length p / 8) 8192) false) (behind-records text rs p used e)))
  where
    go : (b : Bool) → cond b (leb (length p / 8) 8192) false ≡ true → b ≡ true
    go true h = refl
    go false h = absurd (true≢false (sym h))

table-small : (text : ℕ) (t : List ℕ) → table_ok_in text t ≡ true → length t ≤ 64
unfolding table_ok_in
table-small text t e = leb-true (length t) 64 (and_left (leb (length t) 64) (types_known_in text t) e)

pub limits : (t rs p text : List ℕ) (used root : ℕ) → check_answer_in (suc (length text)) t rs p used root ≡ check.Accepted
    → Limits t rs p text used root
limits t rs p text used root e =
    let n = suc (length text) in
    let c = checked-in n t rs p used root e in
    record {
      columns = table-small n t c.table;
      records = used-small_in n rs p used c.sizes;
      lent = used-lent_in n rs p used c.sizes;
      values = pool-small n rs p used c.sizes;
      whole = pool-whole n rs p used c.sizes;
      bytes = let s = text-small n rs p used c.sizes in omega (arith, s);
      root-used = c.root-used;
    }

-- the five parts of a file, each written behind the one before
pub parts_written : (f0 f1 f2 f3 f4 f5 t r p x end : List ℕ) (nr np nx : ℕ) → nr ≡ blocks_for r → np ≡ blocks_for p
    → nx ≡ blocks_for x → length t ≤ 496 → length end ≤ 496 → 512 * (2 + nr + np + nx) ≤ length f0
    → f1 ≡ overwrite f0 0 (block 0 1 t)
    → f2 ≡ overwrite f1 512 (blocks_to 1 2 r (blocks_for r))
    → f3 ≡ overwrite f2 (512 * (1 + nr)) (blocks_to (1 + nr) 3 p (blocks_for p))
    → f4 ≡ overwrite f3 (512 * (1 + nr + np)) (blocks_to (1 + nr + np) 5 x (blocks_for x))
    → f5 ≡ overwrite f4 (512 * (1 + nr + np + nx)) (block (1 + nr + np + nx) 4 end)
    → f5 ≡ overwrite f0 0 (file_blocks t r p x end)
unfolding file_blocks
parts_written f0 f1 f2 f3 f4 f5 t r p x end nr np nx er ep ex ht he room e1 e2 e3 e4 e5 =
    let b1 = block 0 1 t in
    let b2 = blocks_to 1 2 r (blocks_for r) in
    let b3 = blocks_to (1 + nr) 3 p (blocks_for p) in
    let b4 = blocks_to (1 + nr + np) 5 x (blocks_for x) in
    let b5 = block (1 + nr + np + nx) 4 end in
    let l1 : length b1 ≡ 512 = length-block 0 1 t ht in
    let l2 : length b2 ≡ 512 * nr = length-blocks 1 2 r (blocks_for r) ∙ ap (λ (n : ℕ). 512 * n) (sym er) in
    let l3 : length b3 ≡ 512 * np = length-blocks (1 + nr) 3 p (blocks_for p) ∙ ap (λ (n : ℕ). 512 * n) (sym ep) in
    let l4 : length b4 ≡ 512 * nx = length-blocks (1 + nr + np) 5 x (blocks_for x) ∙ ap (λ (n : ℕ). 512 * n) (sym ex) in
    let l5 : length b5 ≡ 512 = length-block (1 + nr + np + nx) 4 end he in
    let a2 : length (b1 ++ b2) ≡ 512 + 512 * nr = length-append b1 b2 ∙ ap₂ (λ (x y : ℕ). x + y) l1 l2 in
    let a3 : length (b1 ++ b2 ++ b3) ≡ 512 + 512 * nr + 512 * np =
    length-append (b1 ++ b2) b3 ∙ ap₂ (λ (x y : ℕ). x + y) a2 l3 in
    let a4 : length (b1 ++ b2 ++ b3 ++ b4) ≡ 512 + 512 * nr + 512 * np + 512 * nx =
    length-append (b1 ++ b2 ++ b3) b4 ∙ ap₂ (λ (x y : ℕ). x + y) a3 l4 in
    let s2 : f2 ≡ overwrite f0 0 (b1 ++ b2) =
    e2 ∙ ap (λ f. overwrite f 512 b2) e1
    ∙ overwrite-more f0 0 512 b1 b2 (omega (arith, l1)) (omega (arith, l2, room)) in
    let s3 : f3 ≡ overwrite f0 0 (b1 ++ b2 ++ b3) =
    e3 ∙ ap (λ f. overwrite f (512 * (1 + nr)) b3) s2
    ∙ overwrite-more f0 0 (512 * (1 + nr)) (b1 ++ b2) b3 (omega (arith, a2)) (omega (arith, l3, room)) in
    let s4 : f4 ≡ overwrite f0 0 (b1 ++ b2 ++ b3 ++ b4) =
    e4 ∙ ap (λ f. overwrite f (512 * (1 + nr + np)) b4) s3
    ∙ overwrite-more f0 0 (512 * (1 + nr + np)) (b1 ++ b2 ++ b3) b4 (omega (arith, a3)) (omega (arith, l4, room)) in
    e5 ∙ ap (λ f. overwrite f (512 * (1 + nr + np + nx)) b5) s4
    ∙ overwrite-more f0 0 (512 * (1 + nr + np + nx)) (b1 ++ b2 ++ b3 ++ b4) b5 (omega (arith, a4)) (omega (arith, l5, room))
    ∙ ap (λ (l : List ℕ). overwrite f0 0 l)
    (append_assoc (b1 ++ b2 ++ b3) b4 b5 ∙ append_assoc (b1 ++ b2) b3 (b4 ++ b5) ∙ append_assoc b1 b2 (b3 ++ (b4 ++ b5)))
    ∙ rw (er, ep, ex)

pub screen_written : (f0 f1 f2 f3 f4 f5 t rs p x end : List ℕ) (used root nr np nx : ℕ) → nr ≡ (16 * used + 495) / 496
    → np ≡ (length p + 495) / 496 → nx ≡ (length x + 495) / 496 → length t ≤ 64 → 16 * used ≤ length rs
    → file_length p x used ≤ length f0 → end ≡ word_bytes used ++ word_bytes root
    → f1 ≡ overwrite f0 0 (block 0 1 t)
    → f2 ≡ overwrite f1 512 (blocks_to 1 2 (take (16 * used) rs) (blocks_for (take (16 * used) rs)))
    → f3 ≡ overwrite f2 (512 * (1 + nr)) (blocks_to (1 + nr) 3 p (blocks_for p))
    → f4 ≡ overwrite f3 (512 * (1 + nr + np)) (blocks_to (1 + nr + np) 5 x (blocks_for x))
    → f5 ≡ overwrite f4 (512 * (1 + nr + np + nx)) (block (1 + nr + np + nx) 4 end)
    → f5 ≡ overwrite f0 0 (file_of t rs p x used root)
unfolding file_of file_length blocks_for word_bytes
screen_written f0 f1 f2 f3 f4 f5 t rs p x end used root nr np nx er ep ex ht hr room ee e1 e2 e3 e4 e5 =
    let l : length (take (16 * used) rs) ≡ 16 * used = length-take-le (16 * used) rs hr in
    let n : length end ≡ 8 = ap length ee in
    parts_written f0 f1 f2 f3 f4 f5 t (take (16 * used) rs) p x end nr np nx (rw l er) ep ex (omega arith) (omega (arith, n))
    (omega (arith, er, ep, ex, room)) e1 e2 e3 e4 e5
    ∙ rw ee

-- ---- what saving answers

module _ (t rs p text : List ℕ) (used root : ℕ) (old : List ℕ) where
  pub save_refused : (k : ℕ) → check_answer_in (suc (length text)) t rs p used root ≡ check.Refused k
      → (save.Refused k ≡ save_answer t rs p text used root (length old)) × (old ≡ save_bytes t rs p text used root old)
  unfolding save_answer save_bytes
  save_refused k e = (rw e, rw e)

  pub save_short : check_answer_in (suc (length text)) t rs p used root ≡ check.Accepted → length old < file_length p text used
      → (save.Refused 14 ≡ save_answer t rs p text used root (length old)) × (old ≡ save_bytes t rs p text used root old)
  unfolding save_answer save_bytes
  save_short e h =
      let n = lt-leb (file_length p text used) (length old) h in (rw (e, n), rw (e, n))

  pub save_done : (out : List ℕ) (n : ℕ) → check_answer_in (suc (length text)) t rs p used root ≡ check.Accepted
      → file_length p text used ≤ length old → n ≡ file_length p text used
      → out ≡ overwrite old 0 (file_of t rs p text used root)
      → (save.Saved n ≡ save_answer t rs p text used root (length old)) × (out ≡ save_bytes t rs p text used root old)
  unfolding save_answer save_bytes
  save_done out n e h en eo =
      let y = le-leb (file_length p text used) (length old) h in (rw (e, y, en), rw (e, y, eo))

records-for : (r : List ℕ) (used : ℕ) → length r ≡ 16 * used → blocks_for r ≡ (16 * used + 495) / 496
unfolding blocks_for
records-for r used e = rw e

end_short : (used root : ℕ) → length (word_bytes used ++ word_bytes root) ≤ 496
unfolding word_bytes
end_short used root = omega arith

-- the length of an accepted screen's file
pub file_length_lem : (t rs p text : List ℕ) (used root : ℕ) → check_answer_in (suc (length text)) t rs p used root ≡ check.Accepted
    → length (file_of t rs p text used root) ≡ file_length p text used
unfolding file_of file_blocks file_length
file_length_lem t rs p text used root ok =
    let k = limits t rs p text used root ok in
    let n : length (take (16 * used) rs) ≡ 16 * used = length-take-le (16 * used) rs k.lent in
    let nr : blocks_for (take (16 * used) rs) ≡ (16 * used + 495) / 496 = records-for (take (16 * used) rs) used n in
    let b1 = block 0 1 t in
    let b2 = blocks_to 1 2 (take (16 * used) rs) (blocks_for (take (16 * used) rs)) in
    let b3 = blocks_to (1 + blocks_for (take (16 * used) rs)) 3 p (blocks_for p) in
    let b4 = blocks_to (1 + blocks_for (take (16 * used) rs) + blocks_for p) 5 text (blocks_for text) in
    let b5 = block (1 + blocks_for (take (16 * used) rs) + blocks_for p + blocks_for text) 4 (word_bytes used ++ word_bytes root) in
    let l1 : length b1 ≡ 512 = length-block 0 1 t (let c = k.columns in omega (arith, c)) in
    let l2 = length-blocks 1 2 (take (16 * used) rs) (blocks_for (take (16 * used) rs)) in
    let l3 = length-blocks (1 + blocks_for (take (16 * used) rs)) 3 p (blocks_for p) in
    let l4 = length-blocks (1 + blocks_for (take (16 * used) rs) + blocks_for p) 5 text (blocks_for text) in
    let l5 = length-block (1 + blocks_for (take (16 * used) rs) + blocks_for p + blocks_for text) 4
    (word_bytes used ++ word_bytes root) (end_short used root) in
    let a1 = length-append b1 (b2 ++ (b3 ++ (b4 ++ b5))) in
    let a2 = length-append b2 (b3 ++ (b4 ++ b5)) in
    let a3 = length-append b3 (b4 ++ b5) in
    let a4 = length-append b4 b5 in
    omega (arith, nr, l1, l2, l3, l4, l5, a1, a2, a3, a4)

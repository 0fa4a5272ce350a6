-- What the calls promise, from the answers and bytes that they are equal to.
-- Assumes nothing.
use Prim.Native.Nat.{ℕ, suc, ◌+◌, ◌-◌, ◌*◌, ◌/◌, ◌%◌, ◌≤◌, ◌<◌}
use mathlib.Core.Path.{◌≡◌, refl, sym, ◌∙◌, ap, ap₂, subst}
use mathlib.Core.Bool.{Bool, true, false, cond, ◌&&◌}
use mathlib.Core.List.{List, [], ◌∷◌, ◌++◌}
use native.Mathlib.Omega.{arith}
use lib.Dec.{leb}
use lib.ListN.{length, get_or, take, drop}
use lib.Seq.{length-take-le, drop_at, take_all}
use borrow.Author.Tests.{leb-true, le-leb}
use Rattle.records.proofs.Laws.{by-test}
use Rattle.checking.specs.Check.{check_answer_in}
use Rattle.checking.specs.Answer.{CheckAnswer}
use Rattle.checking.specs.Answer as check
use Rattle.checking.proofs.Answers.{refused-numbered-in}
use Rattle.files.specs.SaveAnswer.{SaveAnswer}
use Rattle.files.specs.SaveAnswer as save
use Rattle.files.specs.LoadAnswer.{LoadAnswer}
use Rattle.files.specs.LoadAnswer as load
use Rattle.file_blocks.specs.Format.{blocks_for, word_bytes, file_blocks, file_of, file_length, overwrite}
use Rattle.file_structure.specs.Read.{structure_ok, held, total, root_of}
use Rattle.files.specs.Answers.{save_if, save_answer, saved_bytes, save_bytes, room_ok, held_answer, load_if, load_answer}
use Rattle.files.specs.Answers.{loaded_bytes}
use Rattle.files.specs.RoundTrip.{Survives}
use Rattle.files.specs.Calls.{save_number, saved_length, load_number, loaded_root, loaded_columns, loaded_used, loaded_values}
use Rattle.files.specs.Calls.{loaded_text}
use Rattle.files.specs.Calls.{SavePromise, LoadPromise}
use Rattle.file_blocks.proofs.Lists.{overwrite-front}
use Rattle.files.proofs.Saving.{limits, file_length_lem}
use Rattle.files.proofs.Loading.{columns-held, records-held, values-held, text-held}
use Rattle.files.proofs.Survival.{screens_survive}
use Rattle.files.proofs.Unique.{files_are_written}

-- what is behind the bytes written in front
behind-front : (l vs : List ℕ) (n : ℕ) → length vs ≡ n → drop n (overwrite l 0 vs) ≡ drop n l
unfolding overwrite
behind-front l vs n e =
    let z : 0 + length vs ≡ n = omega (arith, e) in
    drop_at vs (drop (0 + length vs) l) n e ∙ ap (λ (m : ℕ). drop m l) z

held-checked : (f : List ℕ) → held_answer f ≡ check.Accepted
    → check_answer_in (suc (length (held 5 f))) (held 1 f) (held 2 f) (held 3 f) (total 2 f) (root_of f) ≡ check.Accepted
unfolding held_answer
held-checked f q = q

-- a file that is the one of an accepted screen is what saving it answers
save_room : (t rs p text : List ℕ) (used root room : ℕ) (f : List ℕ) → check_answer_in (suc (length text)) t rs p used root ≡ check.Accepted
    → f ≡ file_of t rs p text used root → length f ≤ room → save_answer t rs p text used root room ≡ save.Saved (length f)
unfolding save_answer
save_room t rs p text used root room f ok w h =
    let l : length f ≡ file_length p text used = ap length w ∙ file_length_lem t rs p text used root ok in
    rw (ok, ← l, le-leb (length f) room h)

-- ---- saving

record Saved (t rs p text : List ℕ) (used root room n : ℕ) : Type 0 where
  pub accepted : check_answer_in (suc (length text)) t rs p used root ≡ check.Accepted
  pub length-is : n ≡ file_length p text used
  pub fits : file_length p text used ≤ room

saved-is : (t rs p text : List ℕ) (used root room n : ℕ) → save_answer t rs p text used root room ≡ save.Saved n
    → Saved t rs p text used root room n
unfolding save_answer
saved-is t rs p text used root room n e = go (check_answer_in (suc (length text)) t rs p used root) refl e
  where
    go : (c : CheckAnswer) → check_answer_in (suc (length text)) t rs p used root ≡ c → save_if c (file_length p text used) room ≡ save.Saved n
        → Saved t rs p text used root room n
    go (check.Refused k) q e = absurd (let z : ◌≡◌ {A = ℕ} 0 1 = cc in omega arith)
    go check.Accepted q e =
        by-test (leb (file_length p text used) room)
        (λ y. let s : save.Saved (file_length p text used) ≡ save.Saved n = rw y at e in
        record {
          accepted = q;
          length-is = cc;
          fits = leb-true (file_length p text used) room y;
        })
        (λ m. absurd (let s : save.Refused 14 ≡ save.Saved n = rw m at e in
        let z : ◌≡◌ {A = ℕ} 0 1 = cc in omega arith))

save_small : (t rs p text : List ℕ) (used root room k : ℕ) → save_answer t rs p text used root room ≡ save.Refused k → k < 256
unfolding save_answer
save_small t rs p text used root room k e = go (check_answer_in (suc (length text)) t rs p used root) refl e
  where
    go : (c : CheckAnswer) → check_answer_in (suc (length text)) t rs p used root ≡ c
        → save_if c (file_length p text used) room ≡ save.Refused k → k < 256
    go (check.Refused j) q e =
        let h : j ≡ k = cc in let s = (refused-numbered-in (suc (length text)) t rs p used root j q).1 in omega (arith, h, s)
    go check.Accepted q e =
        by-test (leb (file_length p text used) room)
        (λ y. absurd (let s : save.Saved (file_length p text used) ≡ save.Refused k = rw y at e in
        let z : ◌≡◌ {A = ℕ} 0 1 = cc in omega arith))
        (λ m. let s : save.Refused 14 ≡ save.Refused k = rw m at e in let h : 14 ≡ k = cc in omega (arith, h))

module _ (t rs p text : List ℕ) (used root : ℕ) (old out : List ℕ) (old_length : ℕ) where
  save_promise : (a : SaveAnswer) → save_answer t rs p text used root (length old) ≡ a
      → out ≡ saved_bytes a old (file_of t rs p text used root)
      → SavePromise t rs p text used root (save_number a) old out (saved_length a old_length)
  save_promise (save.Refused k) e b =
      let s = save_small t rs p text used root (length old) k e in
      record {
        written = λ q. absurd (omega (arith, q, s));
        behind = λ q. absurd (omega (arith, q, s));
        survives = λ q. absurd (omega (arith, q, s));
        refused = λ q. b;
      }
  save_promise (save.Saved n) e b =
      let s = saved-is t rs p text used root (length old) n e in
      let l : length (file_of t rs p text used root) ≡ n =
      file_length_lem t rs p text used root s.accepted ∙ sym s.length-is in
      let w : take n out ≡ file_of t rs p text used root = rw b (overwrite-front old (file_of t rs p text used root) n l) in
      record {
        written = λ q. w;
        behind = λ q. rw b (behind-front old (file_of t rs p text used root) n l);
        survives = λ q. rw w (screens_survive t rs p text used root s.accepted);
        refused = λ q. absurd (omega (arith, q));
      }

  -- all that the call ensures
  pub save_ensures : (a : SaveAnswer) → a ≡ save_answer t rs p text used root (length old)
      → out ≡ save_bytes t rs p text used root old
      → (save_number a ≡ save_number (save_answer t rs p text used root (length old)))
      × ((saved_length a old_length ≡ saved_length (save_answer t rs p text used root (length old)) old_length)
      × ((out ≡ save_bytes t rs p text used root old)
      × SavePromise t rs p text used root (save_number a) old out (saved_length a old_length)))
  unfolding save_bytes
  save_ensures a e b = (
    ap save_number e,
    (
      ap (λ (x : SaveAnswer). saved_length x old_length) e,
      (
        b,
        save_promise a (sym e) (b ∙ ap (λ (x : SaveAnswer). saved_bytes x old (file_of t rs p text used root)) (sym e)),
      ),
    ),
  )

-- ---- loading

record Loaded (f : List ℕ) (root columns used values bytes : ℕ) : Type 0 where
  pub structure : structure_ok f ≡ true
  pub accepted : held_answer f ≡ check.Accepted
  pub root_is : root ≡ root_of f
  pub columns-are : columns ≡ total 1 f
  pub used-is : used ≡ total 2 f
  pub values-are : values ≡ total 3 f
  pub bytes-are : bytes ≡ total 5 f

module _ (f : List ℕ) (t rs p x : ℕ) where
  loaded_is : (root columns used values bytes : ℕ) → load_answer f t rs p x ≡ load.Loaded root columns used values bytes
      → Loaded f root columns used values bytes
  unfolding load_answer
  loaded_is root columns used values bytes e =
      by-test (structure_ok f)
      (λ y. by-test (room_ok f t rs p x) (λ r. go (held_answer f) refl y (rw (y, r) at e))
      (λ m. absurd (let s : load.Refused 14 ≡ load.Loaded root columns used values bytes = rw (y, m) at e in
      let z : ◌≡◌ {A = ℕ} 0 1 = cc in omega arith)))
      (λ m. absurd (let s : load.Refused 15 ≡ load.Loaded root columns used values bytes = rw m at e in
      let z : ◌≡◌ {A = ℕ} 0 1 = cc in omega arith))
    where
      go : (c : CheckAnswer) → held_answer f ≡ c → structure_ok f ≡ true
          → load_if c f ≡ load.Loaded root columns used values bytes → Loaded f root columns used values bytes
      go (check.Refused k) q y e = absurd (let z : ◌≡◌ {A = ℕ} 0 1 = cc in omega arith)
      go check.Accepted q y e =
          record {
            structure = y;
            accepted = q;
            root_is = cc;
            columns-are = cc;
            used-is = cc;
            values-are = cc;
            bytes-are = cc;
          }

  load-small : (k : ℕ) → load_answer f t rs p x ≡ load.Refused k → k < 256
  unfolding load_answer held_answer
  load-small k e =
      by-test (structure_ok f)
      (λ y. by-test (room_ok f t rs p x) (λ r. go (held_answer f) refl (rw (y, r) at e))
      (λ m. let s : load.Refused 14 ≡ load.Refused k = rw (y, m) at e in let h : 14 ≡ k = cc in omega (arith, h)))
      (λ m. let s : load.Refused 15 ≡ load.Refused k = rw m at e in let h : 15 ≡ k = cc in omega (arith, h))
    where
      go : (c : CheckAnswer) → held_answer f ≡ c → load_if c f ≡ load.Refused k → k < 256
      go (check.Refused j) q e =
          let h : j ≡ k = cc in
          let s = (refused-numbered-in (suc (length (held 5 f))) (held 1 f) (held 2 f) (held 3 f) (total 2 f) (root_of f) j q).1 in
          omega (arith, h, s)
      go check.Accepted q e = absurd (let z : ◌≡◌ {A = ℕ} 0 1 = cc in omega arith)

module _ (f t rs p x t' rs' p' x' : List ℕ) (bytes : (i : ℕ) → get_or f i 0 < 256)
    (old_root old_columns old_used old_values old_text : ℕ) where
  load-promise : (a : LoadAnswer) → load_answer f (length t) (length rs) (length p) (length x) ≡ a
      → t' ≡ loaded_bytes a t (held 1 f) → rs' ≡ loaded_bytes a rs (held 2 f) → p' ≡ loaded_bytes a p (held 3 f)
      → x' ≡ loaded_bytes a x (held 5 f)
      → LoadPromise f (load_number a) t' rs' p' x' (loaded_root a old_root) (loaded_columns a old_columns) (loaded_used a old_used)
      (loaded_values a old_values) (loaded_text a old_text)
  load-promise (load.Refused k) e bt br bp bx =
      let s = load-small f (length t) (length rs) (length p) (length x) k e in
      record {
        accepted = λ q. absurd (omega (arith, q, s));
        written = λ q. absurd (omega (arith, q, s));
        saved = λ q. absurd (omega (arith, q, s));
      }
  load-promise (load.Loaded root columns used values text) e bt br bp bx =
      let s = loaded_is f (length t) (length rs) (length p) (length x) root columns used values text e in
      let ft : take columns t' ≡ held 1 f =
      rw bt (overwrite-front t (held 1 f) columns (columns-held f s.structure ∙ sym s.columns-are)) in
      let fr : take (16 * used) rs' ≡ held 2 f =
      rw br (overwrite-front rs (held 2 f) (16 * used)
      (records-held f s.structure ∙ ap (λ (n : ℕ). 16 * n) (sym s.used-is))) in
      let fp : take (8 * values) p' ≡ held 3 f =
      rw bp (overwrite-front p (held 3 f) (8 * values)
      (values-held f s.structure ∙ ap (λ (n : ℕ). 8 * n) (sym s.values-are))) in
      let fx : take text x' ≡ held 5 f =
      rw bx (overwrite-front x (held 5 f) text (text-held f s.structure ∙ sym s.bytes-are)) in
      let ok : check_answer_in (suc (length (take text x'))) (take columns t') (take (16 * used) rs') (take (8 * values) p') used
      root ≡ check.Accepted = rw (ft, fr, fp, fx, s.used-is, s.root_is) (held-checked f s.accepted) in
      let w : f ≡ file_of (take columns t') (take (16 * used) rs') (take (8 * values) p') (take text x') used root =
      rw (ft, fr, fp, fx, s.used-is, s.root_is) (files_are_written f bytes s.structure) in
      record {
        accepted = λ q. ok;
        written = λ q. w;
        saved =
            λ q room h. save_room (take columns t') (take (16 * used) rs') (take (8 * values) p') (take text x') used root room f
            ok w h;
      }

  -- all that the call ensures
  pub load-ensures : (a : LoadAnswer) → a ≡ load_answer f (length t) (length rs) (length p) (length x)
      → t' ≡ loaded_bytes a t (held 1 f) → rs' ≡ loaded_bytes a rs (held 2 f) → p' ≡ loaded_bytes a p (held 3 f)
      → x' ≡ loaded_bytes a x (held 5 f)
      → LoadPromise f (load_number a) t' rs' p' x' (loaded_root a old_root) (loaded_columns a old_columns) (loaded_used a old_used)
      (loaded_values a old_values) (loaded_text a old_text)
  load-ensures a e bt br bp bx = load-promise a (sym e) bt br bp bx

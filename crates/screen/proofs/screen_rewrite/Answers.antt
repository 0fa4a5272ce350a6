use borrow.Author.Rules.{rules}
use native.Mathlib.Omega.{arith}
use Rattle.screen.proofs.Called.{call_ensures}
use Rattle.screen.proofs.screen_rewrite.Goals as goal

-- the clauses by their names
named : {A0 A1 A2 A3 A4 A5 A6 A7 A8 A9 : Type 0} → A0 × (A1 × (A2 × (A3 × (A4 × (A5 × (A6 × (A7 × (A8 × A9)))))))) → record { answer : A0; listed : A1; root : A2; used : A3; bytes : A4; kept : A5; text : A6; length : A7; passes : A8; promise : A9 }
named p = record { answer = p.0; listed = p.1.0; root = p.1.1.0; used = p.1.1.1.0; bytes = p.1.1.1.1.0; kept = p.1.1.1.1.1.0; text = p.1.1.1.1.1.1.0; length = p.1.1.1.1.1.1.1.0; passes = p.1.1.1.1.1.1.1.1.0; promise = p.1.1.1.1.1.1.1.1.1 }

pub returns : goal.returns
returns c =
    named (rw (
      c.put_answer.ensures.number,
      c.put_answer.ensures.root,
      c.put_answer.ensures.used,
      c.put_answer.ensures.length,
      c.put_answer.ensures.passes,
    ) (call_ensures c.args.text.now c.args.table.now c.args.records.now c.args.pool.now c.args.used c.args.root c.args.reasons.now
    c.rewrite_screen-rewriting.result _ _ c.args.new_root.now c.args.new_used.now c.args.reasons_used.now c.args.passes.now (c.rewrite_screen-rewriting.ensures.explains (λ i. omega (arith, c.type_inv.text i))) (λ i. search rules)))

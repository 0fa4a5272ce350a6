use Rattle.std.proofs.Common.{◌≡◌, ℕ, ◌+◌, ◌<◌, cond, length, refl, ap, ◌∙◌, arith, length-set, rules}
use Rattle.checking.specs.Columns.{bit}
use Rattle.masks.proofs.Blocks.{kept-all, kept_more, kept-told}
use Rattle.masks.proofs.Operands.{keys_none, keys_more, keys_done}
use Rattle.row_blocks.proofs.operand.fill_keys.Goals as goal

pub loop-i-init : goal.loop-i-init
loop-i-init c = (search rules, refl, keys_none _ _ _, kept-all _ _)

pub loop-i-preserved : goal.loop-i-preserved
loop-i-preserved c =
    let room : c.args.at + c.loop-i.i < length c.loop-i.keys = omega (arith, c.loop-i-test.true, c.requires, c.loop-i.invariant.1) in (
      search rules,
      simp length-set c.loop-i.invariant.1,
      keys_more (λ (j : ℕ). cond (bit c.args.word j) c.args.on c.args.off) _ _ _ _ room c.loop-i.invariant.2 (c.pick.ensures ∙ ap (λ b. cond b c.args.on c.args.off) c.null_marked.ensures),
      kept_more _ _ _ _ _ c.loop-i.invariant.3,
    )

pub returns : goal.returns
returns c =
    let e : c.loop-i.i ≡ 64 = omega arith in
    record { by_index = keys_done _ _ _ _ _ e c.loop-i.invariant.2; by_index_2 = kept-told _ _ _ c.loop-i.invariant.3 }

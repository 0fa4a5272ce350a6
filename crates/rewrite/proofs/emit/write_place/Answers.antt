use Rattle.rewrite.proofs.Emitting.{place_none}
use Rattle.rewrite.proofs.Writing.{compared-written}
use Rattle.constraints.specs.Comparisons.{IsEq, IsLower, IsUpper, IsNotEq}
use lib.ListN.{length}
use native.Mathlib.Omega.{arith}
use Prim.Native.Nat.{◌+◌, ◌*◌, ◌≤◌}
use mathlib.Core.Bool.{true, false}
use mathlib.Core.Path.{refl, ◌∙◌}
use Rattle.rewrite.proofs.emit.write_place.Goals as goal

pub write_one-requires : goal.write_one-requires
write_one-requires c =
    let h : 16 * (c.args.u + 3 * 1) ≤ length c.args.rs.now =
    rw c.in-Eq.is at c.requires.1 in
    (c.requires.0, omega (arith, h))

pub write_one-requires-in-Gt : goal.write_one-requires-in-Gt
write_one-requires-in-Gt c =
    let h : 16 * (c.args.u + 3 * 1) ≤ length c.args.rs.now =
    rw c.in-Gt.is at c.requires.1 in
    (c.requires.0, omega (arith, h))

pub write_one-requires-in-GtEq : goal.write_one-requires-in-GtEq
write_one-requires-in-GtEq c =
    let h : 16 * (c.args.u + 3 * 1) ≤ length c.args.rs.now =
    rw c.in-GtEq.is at c.requires.1 in
    (c.requires.0, omega (arith, h))

pub write_one-requires-in-Lt : goal.write_one-requires-in-Lt
write_one-requires-in-Lt c =
    let h : 16 * (c.args.u + 3 * 1) ≤ length c.args.rs.now =
    rw c.in-Lt.is at c.requires.1 in
    (c.requires.0, omega (arith, h))

pub write_one-requires-in-LtEq : goal.write_one-requires-in-LtEq
write_one-requires-in-LtEq c =
    let h : 16 * (c.args.u + 3 * 1) ≤ length c.args.rs.now =
    rw c.in-LtEq.is at c.requires.1 in
    (c.requires.0, omega (arith, h))

pub write_one-requires-in-NotEq : goal.write_one-requires-in-NotEq
write_one-requires-in-NotEq c =
    let h : 16 * (c.args.u + 3 * 1) ≤ length c.args.rs.now =
    rw c.in-NotEq.is at c.requires.1 in
    (c.requires.0, omega (arith, h))

pub returns-in-Vacant : goal.returns-in-Vacant
returns-in-Vacant c = record { value = rw c.in-Vacant.is (place_none _); rs_after = rw c.in-Vacant.is }

pub returns-in-Eq : goal.returns-in-Eq
returns-in-Eq c =
    record {
      value = rw c.in-Eq.is c.write_one.ensures.value;
      rs_after = rw c.in-Eq.is (c.write_one.ensures.rs_after ∙
          compared-written _ _ _ (IsEq _) _ _ _ refl refl);
    }

pub returns-in-Gt : goal.returns-in-Gt
returns-in-Gt c =
    record {
      value = rw c.in-Gt.is c.write_one-in-Gt.ensures.value;
      rs_after = rw c.in-Gt.is (c.write_one-in-Gt.ensures.rs_after ∙
          compared-written _ _ _ (IsLower false _) _ _ _ refl refl);
    }

pub returns-in-GtEq : goal.returns-in-GtEq
returns-in-GtEq c =
    record {
      value = rw c.in-GtEq.is c.write_one-in-GtEq.ensures.value;
      rs_after = rw c.in-GtEq.is (c.write_one-in-GtEq.ensures.rs_after ∙
          compared-written _ _ _ (IsLower true _) _ _ _ refl refl);
    }

pub returns-in-Lt : goal.returns-in-Lt
returns-in-Lt c =
    record {
      value = rw c.in-Lt.is c.write_one-in-Lt.ensures.value;
      rs_after = rw c.in-Lt.is (c.write_one-in-Lt.ensures.rs_after ∙
          compared-written _ _ _ (IsUpper false _) _ _ _ refl refl);
    }

pub returns-in-LtEq : goal.returns-in-LtEq
returns-in-LtEq c =
    record {
      value = rw c.in-LtEq.is c.write_one-in-LtEq.ensures.value;
      rs_after = rw c.in-LtEq.is (c.write_one-in-LtEq.ensures.rs_after ∙
          compared-written _ _ _ (IsUpper true _) _ _ _ refl refl);
    }

pub returns-in-NotEq : goal.returns-in-NotEq
returns-in-NotEq c =
    record {
      value = rw c.in-NotEq.is c.write_one-in-NotEq.ensures.value;
      rs_after = rw c.in-NotEq.is (c.write_one-in-NotEq.ensures.rs_after ∙
          compared-written _ _ _ (IsNotEq _) _ _ _ refl refl);
    }

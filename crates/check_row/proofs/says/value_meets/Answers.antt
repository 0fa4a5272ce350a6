use Rattle.places.specs.Held.{key_in}
use Rattle.check_row.proofs.Meeting.{compared-key, between-key, listed-key, unlisted_key, required_key}
use Rattle.check_row.proofs.says.value_meets.Goals as goal

pub returns-in-Compare : goal.returns-in-Compare
returns-in-Compare c =
    compared-key c.args.p.now c.args.s (key_in c.args.whole.0 c.args.half) _ _ _ _ c.in-Compare.is c.place_cmp.ensures c.compare_holds.ensures

pub returns-in-Between : goal.returns-in-Between
returns-in-Between c =
    between-key c.args.p.now c.args.s (key_in c.args.whole.0 c.args.half) _ _ _ _ _ _ c.in-Between.is c.place_cmp-in-Between.ensures c.place_cmp-in-Between-2.ensures c.within_ends.ensures

pub returns-in-Allow : goal.returns-in-Allow
returns-in-Allow c =
    listed-key c.args.p.now c.args.s (key_in c.args.whole.0 c.args.half) _ _ _ c.in-Allow.is c.place_listed.ensures

pub returns-in-Disallow : goal.returns-in-Disallow
returns-in-Disallow c =
    unlisted_key c.args.p.now c.args.s (key_in c.args.whole.0 c.args.half) _ _ _ _ c.in-Disallow.is c.place_listed-in-Disallow.ensures

pub returns-in-Require : goal.returns-in-Require
returns-in-Require c =
    required_key c.args.p.now c.args.s (key_in c.args.whole.0 c.args.half) _ _ c.in-Require.is c.value_fits.ensures

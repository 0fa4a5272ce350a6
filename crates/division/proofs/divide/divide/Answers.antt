use borrow.Author.Rules.{rules}
use Rattle.division.proofs.Bits.{div_small, mod_small, by_zero, up_by_up, down_by_up, zero-by_down, up_by_down, beyond, down_by_down}
use mathlib.Core.Path.{refl}
use Rattle.division.proofs.divide.divide.Goals as goal

pub returns-then-b-eq0 : goal.returns-then-b-eq0
returns-then-b-eq0 c =
    let st = c in
    let if1 = c.if-b-eq0 in
    by_zero st.args.a st.args.b if1.true

pub returns-then-a-lt9223372036854775808 : goal.returns-then-a-lt9223372036854775808
returns-then-a-lt9223372036854775808 c =
    let st = c in
    let if1 = c.if-b-eq0 in
    let if2 = c.if-b-lt9223372036854775808 in
    let if3 = c.if-a-lt9223372036854775808 in
    up_by_up st.args.a st.args.b if1.false if2.true if3.true

pub overflow_sub-result : goal.overflow_sub-result
overflow_sub-result c = div_small _ _ _ (search rules)

pub overflow_sub-result-then-b-lt9223372036854775808-2 : goal.overflow_sub-result-then-b-lt9223372036854775808-2
overflow_sub-result-then-b-lt9223372036854775808-2 c = mod_small _ _ (search rules)

pub returns-then-b-lt9223372036854775808 : goal.returns-then-b-lt9223372036854775808
returns-then-b-lt9223372036854775808 c =
    let st = c in
    let if1 = c.if-b-eq0 in
    let if2 = c.if-b-lt9223372036854775808 in
    let if3 = c.if-a-lt9223372036854775808 in
    down_by_up st.args.a st.args.b if1.false if2.true if3.false (search rules) _ refl

pub returns-then-a-eq0 : goal.returns-then-a-eq0
returns-then-a-eq0 c =
    let st = c in
    let if2 = c.if-b-lt9223372036854775808 in
    let magnitude = c.magnitude-size in
    let if4 = c.if-a-eq0 in
    zero-by_down st.args.a st.args.b if2.false (search rules) _ magnitude.ensures if4.true

pub overflow_sub-result-then-a-lt9223372036854775808-2 : goal.overflow_sub-result-then-a-lt9223372036854775808-2
overflow_sub-result-then-a-lt9223372036854775808-2 c = div_small _ _ _ (search rules)

pub overflow_sub-size-then-a-lt9223372036854775808-2 : goal.overflow_sub-size-then-a-lt9223372036854775808-2
overflow_sub-size-then-a-lt9223372036854775808-2 c = mod_small _ _ (search rules)

pub returns-then-a-lt9223372036854775808-2 : goal.returns-then-a-lt9223372036854775808-2
returns-then-a-lt9223372036854775808-2 c =
    let st = c in
    let if2 = c.if-b-lt9223372036854775808 in
    let magnitude = c.magnitude-size in
    let if4 = c.if-a-eq0 in
    let if5 = c.if-a-lt9223372036854775808-2 in
    let negated = c.negated in
    up_by_down st.args.a st.args.b if2.false (search rules) _ magnitude.ensures if4.false if5.true _ refl _ negated.ensures

pub returns-then-n-size : goal.returns-then-n-size
returns-then-n-size c =
    let st = c in
    let if2 = c.if-b-lt9223372036854775808 in
    let magnitude = c.magnitude-size in
    let if5 = c.if-a-lt9223372036854775808-2 in
    let magnitude2 = c.magnitude-n in
    let if6 = c.if-n-size in
    beyond st.args.a st.args.b if2.false (search rules) _ magnitude.ensures if5.false (search
    rules) _ magnitude2.ensures if6.true

pub returns : goal.returns
returns c =
    let st = c in
    let if2 = c.if-b-lt9223372036854775808 in
    let magnitude = c.magnitude-size in
    let if5 = c.if-a-lt9223372036854775808-2 in
    let magnitude2 = c.magnitude-n in
    let if6 = c.if-n-size in
    let negated2 = c.negated-2 in
    down_by_down st.args.a st.args.b if2.false (search rules) _ magnitude.ensures if5.false
    (search rules) _ magnitude2.ensures if6.false _ negated2.ensures

-- Number 11, reckoned before a byte is written, is that of the records written.
use Rattle.merge.specs.Demand.{root_after, used_after}
use mathlib.Core.Path.{◌≡◌, refl, sym, ◌∙◌, ap, subst}
use mathlib.Core.Bool.{Bool, true, false, cond, ◌&&◌, true≢false}
use mathlib.Core.List.{List, [], ◌∷◌, ◌++◌}
use Prim.Native.Nat.{ℕ, suc, ◌+◌, ◌*◌, ◌-◌, ◌/◌, ◌%◌, ◌≤◌, ◌<◌, min}
use native.Mathlib.Omega.{arith}
use lib.Dec.{leb}
use lib.ListN.{length, get_or}
use borrow.Author.Tests.{leb-true, leb-false, le-leb, lt-leb}
use lib.IntN.{ℤ}
use Rattle.records.specs.Record.{node, column_number, encode}
use Rattle.checking.specs.Tree.{sum_at, tree_count}
use Rattle.checking.specs.Checked.{Checked}
use Rattle.records.specs.declared.record.Record.TheVariants as kind
use Rattle.records.proofs.Laws.{by-test, and_left, and_right}
use Rattle.truth.specs.Halves.{ord_z, key}
use Rattle.truth.proofs.Orders.{total-z}
use Rattle.truth.specs.FromBytes.{aexpr_at, truth_keys}
use Rattle.constraints.specs.Scalars.{Scalars}
use Rattle.constraints.specs.Payload as values
use Rattle.constraints.specs.Comparisons.{ColumnComparison, IsEq, IsLower, IsUpper, IsNotEq}
use Rattle.constraints.specs.Values.{is_empty}
use Rattle.merge.specs.declared.answer.RewriteAnswer.TheVariants as answer
use Rattle.merge.specs.Classify.{read_conjuncts}
use Rattle.merge.specs.Emit.{Outcome, Unchanged, NothingPasses, Rebuilt, merge_filter_constraints}
use Rattle.merge.specs.Rebuild.{comparison_of, value_of, comparison_nodes, comparisons_end, and_root, fold_root, fold_used}
use Rattle.merge.specs.Classify.{comparison_operator}
use Rattle.merge.specs.Write.{literal_type}
use Rattle.merge.specs.Write.{field_bytes, word_bytes, write_record, splice, write_comparison}
use Rattle.merge.specs.Write.{write_comparisons, fold_bytes, outcome_bytes}
use Rattle.merge.specs.Rewrite.{outcome_of, chain_nodes, chain_root, chain_used, has_room, chain_fits, outcome_answer}
use Rattle.merge.proofs.Accepted.{inputs-fall}
use Rattle.merge.proofs.Chains.{Below, below_more}
use Rattle.merge.proofs.Compared.{full-right, nodes_full, rebuilt-compares}
use Rattle.merge.specs.Minterms.{minterms}
use Rattle.merge.proofs.Demand.{halves}
use Rattle.merge.proofs.Fitting.{Both, both-opens, outcome_p}
use Rattle.merge.proofs.Literals.{WrittenP, OutcomeP}
use Rattle.merge.proofs.RebuiltBytes.{Long, Fit}
use Rattle.merge.proofs.Returned.{AnswerLt, answer_lt}
use Rattle.merge.proofs.Trees.{rebuilt-tree, comparisons-count, used-count}
use Rattle.reckoning.specs.Reckon.{added, reckoned_used, reckoned_root, reckoned_tree, room_for}
use Rattle.reckoning.specs.Reckon.{reckoned, reckoned_answer}
use Rattle.reckoning.specs.Rewritten.{is_rewritten}
use Rattle.reckoning.proofs.Chains.{nodes_length, chain_length, empty-not}
use Rattle.reading.proofs.Screens.{AnyValue, table_below}

-- ---- A literal is written as its 64 bits, so the records of a chain do not depend on more.
abbrev cut : ℕ → ℕ
cut v = v % 18446744073709551616

low-cut : (v : ℕ) → v % 4294967296 ≡ cut v % 4294967296
low-cut v = omega arith

high_cut : (v : ℕ) → cut v / 4294967296 ≡ v / 4294967296 % 4294967296
high_cut v = omega arith

byte-1 : (w q r : ℕ) → w ≡ 4294967296 * q + r → w / 256 % 256 ≡ r / 256 % 256
byte-1 w q r e = let d : w / 256 ≡ 16777216 * q + r / 256 = omega (arith, e) in low (w / 256) q (r / 256) d
  where
    low : (x q y : ℕ) → x ≡ 16777216 * q + y → x % 256 ≡ y % 256
    low x q y e = omega (arith, e)

byte-2 : (w q r : ℕ) → w ≡ 4294967296 * q + r → w / 65536 % 256 ≡ r / 65536 % 256
byte-2 w q r e = let d : w / 65536 ≡ 65536 * q + r / 65536 = omega (arith, e) in low (w / 65536) q (r / 65536) d
  where
    low : (x q y : ℕ) → x ≡ 65536 * q + y → x % 256 ≡ y % 256
    low x q y e = omega (arith, e)

byte-3 : (w q r : ℕ) → w ≡ 4294967296 * q + r → w / 16777216 % 256 ≡ r / 16777216 % 256
byte-3 w q r e =
    let d : w / 16777216 ≡ 256 * q + r / 16777216 = omega (arith, e) in low (w / 16777216) q (r / 16777216) d
  where
    low : (x q y : ℕ) → x ≡ 256 * q + y → x % 256 ≡ y % 256
    low x q y e = omega (arith, e)

word_cut : (w : ℕ) → word_bytes w ≡ word_bytes (w % 4294967296)
word_cut w =
    let e : w ≡ 4294967296 * (w / 4294967296) + w % 4294967296 = omega arith in
    let a : w % 256 ≡ w % 4294967296 % 256 = omega arith in
    let b = byte-1 w (w / 4294967296) (w % 4294967296) e in
    let c = byte-2 w (w / 4294967296) (w % 4294967296) e in
    let d = byte-3 w (w / 4294967296) (w % 4294967296) e in
    rw (a, b, c, d)

literal-cut : (ty v : ℕ) → field_bytes (encode (kind.Literal ty v)) ≡ field_bytes (encode (kind.Literal ty (cut v)))
unfolding encode
literal-cut ty v =
    ap (λ w. (2 ∷ 0 ∷ ty ∷ 0 ∷ []) ++ (word_bytes 0 ++ (word_bytes w ++ word_bytes (v / 4294967296)))) (low-cut v)
    ∙ ap (λ l. (2 ∷ 0 ∷ ty ∷ 0 ∷ []) ++ (word_bytes 0 ++ (word_bytes (cut v % 4294967296) ++ l)))
    (word_cut (v / 4294967296) ∙ ap word_bytes (sym (high_cut v)))

abbrev cut_comparison : ColumnComparison ℕ → ColumnComparison ℕ
cut_comparison (IsEq v) = IsEq (cut v)
cut_comparison (IsLower inclusive v) = IsLower inclusive (cut v)
cut_comparison (IsUpper inclusive v) = IsUpper inclusive (cut v)
cut_comparison (IsNotEq v) = IsNotEq (cut v)

abbrev cut_all : List (ℕ × ColumnComparison ℕ) → List (ℕ × ColumnComparison ℕ)
cut_all [] = []
cut_all (x ∷ l) = (x.0, cut_comparison x.1) ∷ cut_all l

comparison_cut : (x : ColumnComparison ℕ) → comparison_of (cut_comparison x) ≡ comparison_of x
comparison_cut (IsEq v) = refl
comparison_cut (IsLower true v) = refl
comparison_cut (IsLower false v) = refl
comparison_cut (IsUpper true v) = refl
comparison_cut (IsUpper false v) = refl
comparison_cut (IsNotEq v) = refl

value-cut : (x : ColumnComparison ℕ) → value_of (cut_comparison x) ≡ cut (value_of x)
value-cut (IsEq v) = refl
value-cut (IsLower inclusive v) = refl
value-cut (IsUpper inclusive v) = refl
value-cut (IsNotEq v) = refl

write_cut : (t : List ℕ) (u : ℕ) (x : ℕ × ColumnComparison ℕ) (rs : List ℕ)
    → write_comparison t u (x.0, cut_comparison x.1) rs ≡ write_comparison t u x rs
write_cut t u x rs =
    ap (λ o. write_record (second (value_of (cut_comparison x.1))) (suc (suc u))
    (kind.Binary (comparison_operator o) (node u) (node (suc u)))) (comparison_cut x.1)
    ∙ ap (λ s. write_record s (suc (suc u)) (kind.Binary (comparison_operator (comparison_of x.1)) (node u) (node (suc u))))
    (ap second (value-cut x.1)
    ∙ sym (ap (splice first (16 * suc u)) (literal-cut (literal_type t x.0) (value_of x.1))))
  where
    first : List ℕ
    first = write_record rs u (kind.Column (column_number x.0))

    second : ℕ → List ℕ
    second v = write_record first (suc u) (kind.Literal (literal_type t x.0) v)

writes-cut : (t : List ℕ) (u : ℕ) (cs : List (ℕ × ColumnComparison ℕ)) (rs : List ℕ)
    → write_comparisons t u (cut_all cs) rs ≡ write_comparisons t u cs rs
writes-cut t u [] rs = refl
writes-cut t u (x ∷ cs) rs =
    ap (write_comparisons t (suc (suc (suc u))) (cut_all cs)) (write_cut t u x rs)
    ∙ writes-cut t (suc (suc (suc u))) cs (write_comparison t u x rs)

nodes_cut : (u : ℕ) (cs : List (ℕ × ColumnComparison ℕ)) → comparison_nodes u (cut_all cs) ≡ comparison_nodes u cs
nodes_cut u [] = refl
nodes_cut u (x ∷ cs) = ap (λ l. suc (suc u) ∷ l) (nodes_cut (suc (suc (suc u))) cs)

end-cut : (u : ℕ) (cs : List (ℕ × ColumnComparison ℕ)) → comparisons_end u (cut_all cs) ≡ comparisons_end u cs
end-cut u [] = refl
end-cut u (x ∷ cs) = end-cut (suc (suc (suc u))) cs

length_cut : (cs : List (ℕ × ColumnComparison ℕ)) → length (cut_all cs) ≡ length cs
length_cut [] = refl
length_cut (x ∷ cs) = ap suc (length_cut cs)

-- Every column of the comparisons is in the table.
abbrev pub ComparedBelow : ℕ → List (ℕ × ColumnComparison ℕ) → Type 0
ComparedBelow k [] = Unit {0}
ComparedBelow k (x ∷ cs) = (x.0 < k) × ComparedBelow k cs

fit_cut : (cs : List (ℕ × ColumnComparison ℕ)) → ComparedBelow 64 cs → Fit (cut_all cs)
fit_cut [] h = tt
fit_cut (x ∷ cs) h =
    let a : x.0 < 64 = h.0 in
    ((omega arith, subst Long (sym (value-cut x.1)) (below (value_of x.1))), fit_cut cs h.1)
  where
    below : (v : ℕ) → Long (cut v)
    below v = omega arith

-- ---- The tree of the rebuilt root, whatever the literals: nothing need be known of the bytes sent.
module _ (t rs : List ℕ) (used : ℕ) (ns : List ℕ) where
  abbrev TreeAt : ℕ → List ℕ → List ℕ → ℕ → Type 0
  TreeAt e nodes w m =
      16 * fold_used e (ns ++ nodes) ≤ length rs → fold_used e (ns ++ nodes) ≤ 4096 → is_empty (ns ++ nodes) ≡ false →
      suc (tree_count (fold_bytes e w (ns ++ nodes)) (fold_root e (ns ++ nodes)))
      ≡ sum_at (tree_count rs) ns + 3 * m + (length ns + m)

  -- The records of the root, for a chain that has room.
  pub rebuilt-tree_any : (cs : List (ℕ × ColumnComparison ℕ)) → Below used ns → ComparedBelow 64 cs
      → TreeAt (comparisons_end used cs) (comparison_nodes used cs) (write_comparisons t used cs rs) (length cs)
  rebuilt-tree_any cs b h =
      subst (λ e. TreeAt e (comparison_nodes used cs) (write_comparisons t used cs rs) (length cs)) (end-cut used cs)
      (subst (λ l. TreeAt (comparisons_end used (cut_all cs)) l (write_comparisons t used cs rs) (length cs))
      (nodes_cut used cs)
      (subst (λ w. TreeAt (comparisons_end used (cut_all cs)) (comparison_nodes used (cut_all cs)) w (length cs))
      (writes-cut t used cs rs)
      (subst (TreeAt (comparisons_end used (cut_all cs)) (comparison_nodes used (cut_all cs))
      (write_comparisons t used (cut_all cs) rs)) (length_cut cs)
      (λ room few full. rebuilt-tree t rs used ns (cut_all cs) room few b (fit_cut cs h) full))))

-- ---- Sums of counts cut at 4,097.
sum_cut_below : (C D : ℕ → ℕ) (n : ℕ) → ((x : ℕ) → x < n → D x ≡ min (C x) 4097) → (l : List ℕ) → Below n l → (k : ℕ)
    → min (k + sum_at D l) 4097 ≡ min (k + sum_at C l) 4097
sum_cut_below C D n h [] b k = refl
sum_cut_below C D n h (x ∷ l) b k =
    let e : D x ≡ min (C x) 4097 = h x b.0 in
    let ih : min (k + C x + sum_at D l) 4097 ≡ min (k + C x + sum_at C l) 4097 =
    sum_cut_below C D n h l b.1 (k + C x) in
    omega (arith, e, ih)

same-side : (a b : ℕ) → min a 4097 ≡ min b 4097 → leb a 4096 ≡ leb b 4096
same-side a b e = by-test (leb a 4096) low high
  where
    low : leb a 4096 ≡ true → leb a 4096 ≡ leb b 4096
    low q = let h : a ≤ 4096 = leb-true a 4096 q in q ∙ sym (le-leb b 4096 (omega (arith, e, h)))

    high : leb a 4096 ≡ false → leb a 4096 ≡ leb b 4096
    high q = let h : 4096 < a = leb-false a 4096 q in q ∙ sym (lt-leb b 4096 (omega (arith, e, h)))

-- ---- The root and the used count in closed form.
and_root_lem : (u acc n : ℕ) (l : List ℕ) → and_root u acc (n ∷ l) ≡ u + length l
and_root_lem u acc n [] = omega arith
and_root_lem u acc n (m ∷ l) = let e = and_root_lem (suc u) u m l in omega (arith, e)

-- the last And
last_and : (u n : ℕ) (l : List ℕ) → is_empty l ≡ false → fold_root u (n ∷ l) ≡ u + length l - 1
last_and u n [] f = absurd (true≢false f)
last_and u n (m ∷ l) f = let e : and_root u n (m ∷ l) ≡ u + length l = and_root_lem u n m l in omega (arith, e)

chain-root : (used : ℕ) (ns : List ℕ) (cs : List (ℕ × ColumnComparison ℕ)) → is_empty cs ≡ false
    → chain_root used ns cs ≡ reckoned_root used ns (length cs)
chain-root used ns [] e = absurd (true≢false e)
chain-root used [] (x ∷ []) e = let q : suc (suc used) ≡ used + (3 * 1 + (0 + 1 - 1)) - 1 = omega arith in q
chain-root used [] (x ∷ y ∷ cs) e =
    let a : length (comparison_nodes (suc (suc (suc used))) (y ∷ cs)) ≡ length (y ∷ cs) =
    nodes_length (suc (suc (suc used))) (y ∷ cs) in
    let b : comparisons_end used (x ∷ y ∷ cs) ≡ used + 3 * length (x ∷ y ∷ cs) =
    comparisons-count used (x ∷ y ∷ cs) in
    let c = last_and (comparisons_end used (x ∷ y ∷ cs)) (suc (suc used))
    (comparison_nodes (suc (suc (suc used))) (y ∷ cs)) refl in
    omega (arith, a, b, c)
chain-root used (n ∷ ns) (x ∷ cs) e =
    let a : length (ns ++ comparison_nodes used (x ∷ cs)) ≡ length ns + length (x ∷ cs) =
    chain_length used ns (x ∷ cs) in
    let b : comparisons_end used (x ∷ cs) ≡ used + 3 * length (x ∷ cs) = comparisons-count used (x ∷ cs) in
    let c = last_and (comparisons_end used (x ∷ cs)) n (ns ++ comparison_nodes used (x ∷ cs))
    (full-right ns (comparison_nodes used (x ∷ cs)) refl) in
    omega (arith, a, b, c)

chain-used : (used : ℕ) (ns : List ℕ) (cs : List (ℕ × ColumnComparison ℕ)) → is_empty (chain_nodes used ns cs) ≡ false
    → chain_used used ns cs ≡ reckoned_used used ns (length cs)
chain-used used ns cs e =
    let a = used-count used ns cs e in
    let b = empty-not (ns ++ comparison_nodes used cs) e in
    let c = chain_length used ns cs in
    omega (arith, a, b, c)

room_of : (rs : List ℕ) (u : ℕ) → has_room rs u ≡ true → (u ≤ 4096) × (16 * u ≤ length rs)
room_of rs u h =
    let a : u ≤ 4096 = leb-true u 4096 (and_left (leb u 4096) (leb u (length rs / 16)) h) in
    let b : u ≤ length rs / 16 = leb-true u (length rs / 16) (and_right (leb u 4096) (leb u (length rs / 16)) h) in
    (a, omega arith)

answer_same : (b d : Bool) (r s u w : ℕ) → b ≡ d → r ≡ s → u ≡ w
    → cond b (answer.Rewritten r u) (answer.Refused 11) ≡ cond d (answer.Rewritten s w) (answer.Refused 11)
answer_same b d r s u w e f g = rw (e, f, g)

-- ---- The answer reckoned is the answer of the records written, of any chain whose kept nodes are used records.
module _ (t rs trees : List ℕ) (used bound : ℕ) (low : bound ≤ used)
    (counted : (a : ℕ) → a < bound → get_or trees a 0 ≡ min (tree_count rs a) 4097) (ns : List ℕ)
    (cs : List (ℕ × ColumnComparison ℕ)) (b : Below bound ns) (h : ComparedBelow 64 cs) where
  tree-same : is_empty (chain_nodes used ns cs) ≡ false → has_room rs (chain_used used ns cs) ≡ true
      → leb (tree_count (outcome_bytes t rs used (Rebuilt ns cs)) (chain_root used ns cs)) 4096
      ≡ leb (reckoned_tree trees ns (length cs)) 4096
  tree-same e r =
      let q = room_of rs (chain_used used ns cs) r in
      let a : suc (tree_count (outcome_bytes t rs used (Rebuilt ns cs)) (chain_root used ns cs))
      ≡ sum_at (tree_count rs) ns + 3 * length cs + (length ns + length cs) =
      rebuilt-tree_any t rs used ns cs (below_more bound used ns low b) h q.1 q.0 e in
      let c = empty-not (ns ++ comparison_nodes used cs) e in
      let d = chain_length used ns cs in
      let f : tree_count (outcome_bytes t rs used (Rebuilt ns cs)) (chain_root used ns cs)
      ≡ added ns (length cs) + sum_at (tree_count rs) ns = omega (arith, a, c, d) in
      let g : reckoned_tree trees ns (length cs) ≡ added ns (length cs) + sum_at (λ n. get_or trees n 0) ns = omega arith in
      let s : min (added ns (length cs) + sum_at (λ n. get_or trees n 0) ns) 4097 ≡
      min (added ns (length cs) + sum_at (tree_count rs) ns) 4097 =
      sum_cut_below (tree_count rs) (λ n. get_or trees n 0) bound counted ns b (added ns (length cs)) in
      same-side _ _ (ap (λ m. min m 4097) f ∙ sym s ∙ ap (λ m. min m 4097) (sym g))

  fits-same : is_empty (chain_nodes used ns cs) ≡ false
      → (room_for (length rs) (reckoned_used used ns (length cs)) && leb (reckoned_tree trees ns (length cs)) 4096)
      ≡ chain_fits t rs used ns cs
  fits-same e = by-test (has_room rs (chain_used used ns cs)) yes no
    where
      same : room_for (length rs) (reckoned_used used ns (length cs)) ≡ has_room rs (chain_used used ns cs)
      same = ap (λ u. has_room rs u) (sym (chain-used used ns cs e))

      yes : has_room rs (chain_used used ns cs) ≡ true
          → (room_for (length rs) (reckoned_used used ns (length cs)) && leb (reckoned_tree trees ns (length cs)) 4096)
          ≡ chain_fits t rs used ns cs
      yes r =
          ap (λ x. x && leb (reckoned_tree trees ns (length cs)) 4096) same
          ∙ ap (λ x. has_room rs (chain_used used ns cs) && x) (sym (tree-same e r))

      no : has_room rs (chain_used used ns cs) ≡ false
          → (room_for (length rs) (reckoned_used used ns (length cs)) && leb (reckoned_tree trees ns (length cs)) 4096)
          ≡ chain_fits t rs used ns cs
      no r =
          ap (λ x. x && leb (reckoned_tree trees ns (length cs)) 4096) (same ∙ r)
          ∙ sym (ap (λ x. x && leb (tree_count (outcome_bytes t rs used (Rebuilt ns cs)) (chain_root used ns cs)) 4096) r)

  -- Reckoning gives the answer for a rebuilt chain, which has a comparison.
  pub reckoned-rebuilt : is_empty cs ≡ false
      → reckoned (length rs) trees used ns (length cs) ≡ outcome_answer t rs used (Rebuilt ns cs)
  unfolding reckoned
  reckoned-rebuilt f =
      let e = full-right ns (comparison_nodes used cs) (nodes_full used cs f) in
      answer_same
      (room_for (length rs) (reckoned_used used ns (length cs)) && leb (reckoned_tree trees ns (length cs)) 4096)
      (chain_fits t rs used ns cs) (reckoned_root used ns (length cs)) (chain_root used ns cs)
      (reckoned_used used ns (length cs)) (chain_used used ns cs) (fits-same e) (sym (chain-root used ns cs f))
      (sym (chain-used used ns cs e))

-- ---- The screen's own outcome.
abbrev payload : Scalars ℤ ℕ
payload =
    record {
      key = key;
      order = ord_z;
      total = total-z;
      opened = λ held excluded. excluded;
      opened-key = λ held excluded. refl;
    }

payload-is : values.payload ≡ payload
unfolding values.payload
payload-is = refl

-- A column of the table, beside any value.
abbrev OfTable : ℕ → ℕ → Type 0
OfTable = Both values.payload AnyValue (λ w e h l. tt) (λ c. c < 64)

abbrev of_table_opens : (c w e : ℕ) → OfTable c w → OfTable c e → OfTable c ((values.payload).opened w e)
of_table_opens = both-opens values.payload AnyValue (λ w e h l. tt) (λ c. c < 64)

compared-below : (cs : List (ℕ × ColumnComparison ℕ))
    → WrittenP values.payload OfTable of_table_opens cs → ComparedBelow 64 cs
compared-below [] h = tt
compared-below (x ∷ cs) h = (h.0.0, compared-below cs h.1)

module _ (t rs p : List ℕ) (used root : ℕ) (ok : Checked t rs p used root) where
  -- The kept nodes are not past the root.
  pub kept-below : (ns : List ℕ) (cs : List (ℕ × ColumnComparison ℕ)) → outcome_of rs p used root ≡ Rebuilt ns cs
      → Below (suc root) ns
  kept-below ns cs e =
      subst (AnswerLt payload (suc root))
      (sym (ap (λ S. merge_filter_constraints S (read_conjuncts (aexpr_at rs p used) root)) payload-is) ∙ e)
      (answer_lt payload (suc root) halves truth_keys (aexpr_at rs p used) (inputs-fall t rs p used root ok) root
      (omega arith))

  -- The comparisons are of columns of the table.
  pub compared-in_table : (ns : List ℕ) (cs : List (ℕ × ColumnComparison ℕ))
      → outcome_of rs p used root ≡ Rebuilt ns cs → ComparedBelow 64 cs
  compared-in_table ns cs e =
      compared-below cs
      (subst (OutcomeP values.payload OfTable of_table_opens) e
      (outcome_p values.payload AnyValue (λ w e h l. tt) (λ c. c < 64) (aexpr_at rs p used)
      (table_below t rs p used root ok) root))

  module _ (trees : List ℕ) (counted : (a : ℕ) → a ≤ root → get_or trees a 0 ≡ min (tree_count rs a) 4097) where
    reckoned-of : (o : Outcome ℕ) → outcome_of rs p used root ≡ o
        → reckoned_answer (length rs) trees used o ≡ outcome_answer t rs used o
    reckoned-of Unchanged e = refl
    reckoned-of NothingPasses e = refl
    reckoned-of (Rebuilt ns cs) e =
        let h : root < used = ok.root-used in
        reckoned-rebuilt t rs trees used (suc root) (omega arith) (λ a k. counted a (omega arith)) ns cs
        (kept-below ns cs e) (compared-in_table ns cs e)
        (rebuilt-compares values.payload (aexpr_at rs p used) (minterms (aexpr_at rs p used) root) ns cs e)

    -- Reckoning gives the answer for the screen's own outcome.
    pub reckoned-answer : reckoned_answer (length rs) trees used (outcome_of rs p used root)
        ≡ outcome_answer t rs used (outcome_of rs p used root)
    reckoned-answer = reckoned-of (outcome_of rs p used root) refl

-- ---- What a writer needs: the records of a chain that is rewritten fit.
pub record ChainRoom (len : ℕ) (trees : List ℕ) (used : ℕ) (ns : List ℕ) (m : ℕ) : Type 0 where
  pub few : used + 3 * m + (length ns + m - 1) ≤ 4096
  pub lent : 16 * (used + 3 * m + (length ns + m - 1)) ≤ len
  pub is : reckoned len trees used ns m ≡ answer.Rewritten (reckoned_root used ns m) (reckoned_used used ns m)

-- A chain is rewritten only if it has room.
pub rewritten_room : (len : ℕ) (trees : List ℕ) (used : ℕ) (ns : List ℕ) (m : ℕ)
    → is_rewritten (reckoned len trees used ns m) ≡ true → ChainRoom len trees used ns m
unfolding reckoned
rewritten_room len trees used ns m h =
    let a = one _ _ _ h in
    let r : room_for len (reckoned_used used ns m) ≡ true =
    and_left (room_for len (reckoned_used used ns m)) (leb (reckoned_tree trees ns m) 4096) a.0 in
    let k : reckoned_used used ns m ≤ 4096 = leb-true (reckoned_used used ns m) 4096
    (and_left (leb (reckoned_used used ns m) 4096) (leb (reckoned_used used ns m) (len / 16)) r) in
    let l : reckoned_used used ns m ≤ len / 16 = leb-true (reckoned_used used ns m) (len / 16)
    (and_right (leb (reckoned_used used ns m) 4096) (leb (reckoned_used used ns m) (len / 16)) r) in
    record { few = omega (arith, k); lent = omega (arith, l); is = a.1 }
  where
    one : (c : Bool) (r u : ℕ) → is_rewritten (cond c (answer.Rewritten r u) (answer.Refused 11)) ≡ true
        → (c ≡ true) × (cond c (answer.Rewritten r u) (answer.Refused 11) ≡ answer.Rewritten r u)
    one true r u e = (refl, refl)
    one false r u e = absurd (true≢false (sym e))

-- The same from the answer itself, whose root and used count are then those reckoned.
pub rewritten_is : (len : ℕ) (trees : List ℕ) (used : ℕ) (ns : List ℕ) (m r u : ℕ)
    → reckoned len trees used ns m ≡ answer.Rewritten r u
    → ChainRoom len trees used ns m × (r ≡ reckoned_root used ns m) × (u ≡ reckoned_used used ns m)
rewritten_is len trees used ns m r u e =
    let k = rewritten_room len trees used ns m (ap is_rewritten e) in
    (k, ap (λ a. root_after a 0) (sym e ∙ k.is), ap (λ a. used_after a 0) (sym e ∙ k.is))

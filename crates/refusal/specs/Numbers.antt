-- The numbers of the refusals: document 01, 'Answers by operation', and include/screen.h. 10 is not used.
use Rattle.std.specs.Prelude.{ℕ, Result, Ok, Err}
use Rattle.refusal.specs.declared.Refusal.{Refusal}
use Rattle.refusal.specs.declared.Refusal.TheVariants.{Table, Size, Root, Record, Reference, Operator, Types, Tree, Conjuncts, Room, RowLength, Row, Short, File, Reasons, Plain, Cells, Columns, Chain, Tally}

abbrev pub number : Refusal → ℕ
number Table = 1
number Size = 2
number Root = 3
number Record = 4
number Reference = 5
number Operator = 6
number Types = 7
number Tree = 8
number Conjuncts = 9
number Room = 11
number RowLength = 12
number Row = 13
number Short = 14
number File = 15
number Reasons = 16
number Plain = 17
number Cells = 18
number Columns = 19
number Chain = 20
number Tally = 21

-- the number of what a function refuses, 0 where it refuses nothing
abbrev pub fault : Result (Unit {0}) Refusal → ℕ
fault (Ok u) = 0
fault (Err r) = number r

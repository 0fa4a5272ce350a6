-- The definitions yield the cases of screens with symbols.
use mathlib.Core.Path.{◌≡◌, refl}
use mathlib.Core.List.{map}
use Rattle.records.specs.Bytes.{word, value_at, all, first}
use Rattle.records.specs.Course.{up_to, course}
use Rattle.records.specs.Operator.{operator_at}
use Rattle.records.specs.Record.{fields_at, closed_at, decode, record_at, encode}
use Rattle.records.specs.Shape.{known_type_in, in_pool, in_type_in, max_code, uses, known_ok_in, zero_or, unused_ok, literal_ok_in, shape_ok_in}
use Rattle.record_check.specs.Fit.{all_fit_in, list_ok_in, reach_ok_in, served_ok, type_of, type_at, same_type, binary_fits}
use Rattle.record_check.specs.Fit.{between_fits, member_fits, types_ok}
use Rattle.checking.specs.Check.{types_known_in, table_ok_in, sizes_ok_in, meaning_fault_in, record_fault_in, first_fault_in, records_answer_in}
use Rattle.checking.specs.Check.{check_answer_in}
use Rattle.checking.specs.Answer as check
use Rattle.truth.specs.FromBytes.{values_from}
use Rattle.symbols.specs.Symbol.{bytes_from, symbol, symbol_number}
use Rattle.merge.specs.Write.{splice}
use Rattle.symbol_screens.specs.Held.{holding}
use Rattle.symbol_screens.specs.Reading.{held_at}
use Rattle.symbol_screens.specs.Rewriting.{rewrite_answer_with, rewrite_bytes_with}
use Rattle.symbol_screens.specs.Cases.{cases, yielded, due, checked_with}

pub symbol-cases : map yielded cases ≡ map due cases
unfolding word value_at all first up_to course operator_at fields_at closed_at decode record_at encode known_type_in in_pool in_type_in max_code uses
    known_ok_in zero_or unused_ok literal_ok_in shape_ok_in all_fit_in list_ok_in reach_ok_in served_ok type_of type_at same_type binary_fits
    between_fits member_fits types_ok types_known_in table_ok_in sizes_ok_in meaning_fault_in record_fault_in first_fault_in records_answer_in
    check_answer_in values_from bytes_from symbol symbol_number splice holding held_at rewrite_answer_with rewrite_bytes_with
symbol-cases = refl

-- a type that no text pool makes known; the longest text pool, and one byte more
pub no_text_pool : checked_with 0 ≡ check.Refused 1
unfolding all known_type_in types_known_in table_ok_in check_answer_in
no_text_pool = refl

pub text-pool_too_long : checked_with 8194 ≡ check.Refused 2
unfolding all known_type_in types_known_in table_ok_in sizes_ok_in check_answer_in
text-pool_too_long = refl

pub longest_text_pool : checked_with 8193 ≡ check.Accepted
unfolding word value_at all first operator_at fields_at closed_at decode record_at known_type_in in_pool in_type_in max_code uses known_ok_in
    zero_or unused_ok literal_ok_in shape_ok_in reach_ok_in served_ok type_of type_at same_type binary_fits types_ok types_known_in table_ok_in
    sizes_ok_in meaning_fault_in record_fault_in first_fault_in records_answer_in check_answer_in
longest_text_pool = refl

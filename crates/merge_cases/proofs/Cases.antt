-- The definitions yield the starred cases of 01: one table (specs/Cases.antt), one proof. So do they its other cases,
-- those of negated lines, and the numbers of passes.
use mathlib.Core.Path.{◌≡◌, refl}
use mathlib.Core.List.{map}
use Rattle.records.specs.Bytes.{word, value_at, all, first}
use Rattle.checking.specs.Check.{types_known, types_known_in, table_ok, table_ok_in, sizes_ok, sizes_ok_in, meaning_fault_in, record_fault, record_fault_in, first_fault_in, records_answer_in}
use Rattle.checking.specs.Check.{check_answer, check_answer_in}
use Rattle.records.specs.Course.{up_to, course}
use Rattle.record_check.specs.Fit.{all_fit, all_fit_in, list_ok, list_ok_in, reach_ok, reach_ok_in, served_ok, type_of, type_at, same_type, binary_fits}
use Rattle.record_check.specs.Fit.{between_fits, member_fits, types_ok}
use Rattle.records.specs.Operator.{operator_at}
use Rattle.records.specs.Record.{fields_at, closed_at, decode, record_at, encode}
use Rattle.records.specs.Shape.{known_type, known_type_in, in_type, in_type_in, max_code, uses, known_ok_in, zero_or, unused_ok}
use Rattle.records.specs.Shape.{literal_ok_in, shape_ok, shape_ok_in}
use Rattle.truth.specs.FromBytes.{values_from, aexpr_of, aexpr_at, row_keys}
use Rattle.merge.specs.Rewrite.{rewrite_answer, rewrite_bytes}
use Rattle.merge.specs.Write.{splice}
use Rattle.constraints.specs.Payload.{payload}
use Rattle.merge.specs.Passes.{rewrite_passes}
use Rattle.merge_cases.specs.Cases.{starred, further, negated_lines, yielded, due, passes_cases, passes_yielded}

pub starred-cases : map yielded starred ≡ map due starred
unfolding payload word value_at all first types_known_in table_ok_in sizes_ok_in meaning_fault_in record_fault_in first_fault_in records_answer_in
    check_answer_in up_to course all_fit_in list_ok_in reach_ok_in served_ok type_of type_at same_type binary_fits between_fits
    member_fits types_ok operator_at fields_at closed_at decode record_at encode known_type_in in_type_in max_code uses
    known_ok_in zero_or unused_ok literal_ok_in shape_ok_in values_from aexpr_of aexpr_at row_keys rewrite_answer rewrite_bytes
    splice
starred-cases = refl

pub further-cases : map yielded further ≡ map due further
unfolding payload word value_at all first types_known_in table_ok_in sizes_ok_in meaning_fault_in record_fault_in first_fault_in records_answer_in
    check_answer_in up_to course all_fit_in list_ok_in reach_ok_in served_ok type_of type_at same_type binary_fits between_fits
    member_fits types_ok operator_at fields_at closed_at decode record_at encode known_type_in in_type_in max_code uses
    known_ok_in zero_or unused_ok literal_ok_in shape_ok_in values_from aexpr_of aexpr_at row_keys rewrite_answer rewrite_bytes
    splice
further-cases = refl

pub negated_cases : map yielded negated_lines ≡ map due negated_lines
unfolding payload word value_at all first types_known_in table_ok_in sizes_ok_in meaning_fault_in record_fault_in first_fault_in records_answer_in
    check_answer_in up_to course all_fit_in list_ok_in reach_ok_in served_ok type_of type_at same_type binary_fits between_fits
    member_fits types_ok operator_at fields_at closed_at decode record_at encode known_type_in in_type_in max_code uses
    known_ok_in zero_or unused_ok literal_ok_in shape_ok_in values_from aexpr_of aexpr_at row_keys rewrite_answer rewrite_bytes
    splice
negated_cases = refl

pub passes-cases : map passes_yielded passes_cases ≡ map (λ c. c.passes) passes_cases
unfolding payload word value_at up_to course operator_at fields_at closed_at decode record_at values_from aexpr_of aexpr_at
    rewrite_passes
passes-cases = refl

-- Each case holds under its profile: the checker computes each from the definitions.
use mathlib.Core.List.{List, ◌∷◌}
use mathlib.Core.Path.{refl}
use Rattle.paper.specs.Accepted.{All, all_none, all_more}
use Rattle.paper.specs.Bytes.{bytes, is, from_to, one_of, white, text_byte, capital, digit, letter, letter_or_digit, capital_or_digit, value_character, every, same, each}
use Rattle.paper.specs.Form.{root_tag, start_tag, amount_tag, end_tag, head, declaration}
use Rattle.paper.specs.Computed.Reading.{closed, want, ending, in_root, in_amount, behind_name, step, ended, run, read}
use Rattle.paper.specs.Rows.{leaf, group, group_under, rows, instant_changes, with_row, with_rows, instant_rows, for_new, for_archived, profile_by, first_profile, instant_profile, as_archived, as_new, every_row, name_in, name, row_in, row_of, longest_of, head_of}
use Rattle.paper.specs.Values.{among, lies_from, number_after, number, fits, shaped, piece, two_slashes, id, purpose, days_in, true_day, date, date_and_time, zone, date_time_zone, count, before_point, behind_point, digits, money, cents, amount, bic, country, countries, of_a_country, moved, read_after, iban, right_for, spaces_alone, allowed}
use Rattle.paper.specs.Payments.{text_of, listed, children, all_named, all_of, child, follow, blocks, of_header, payments_of, payments_from, payments, either_of, in_payment, in_block, inherited, amount_of, sum_of, total}
use Rattle.paper.specs.Refusals.{refuse, ◌or_else◌, table_refusal, size_refusal, first_not, rows_at, required, left_of, first_row, missing_of, missing, ends, only_white, first_at, past, named_in, seek_in, seek, walk, no_judgement, rows_refusal, sixty_fifth, too_many, limits_refusal, text_refusal, leaf_refusal, value_refusal, values_refusal, in_both, in_neither, usage_of, usage, usage_refusal, among_texts, repeated, ids_refusal, unless, block_counts, counts_refusal, tree_refusal, unless_refused, of_reading, outcome_alone, outcome, refused, accepted, answer_to, verdict}
use Rattle.paper.specs.Table.{part_of, start_and_length, first_pairs, last_pairs, numbers_of, written, over, table_after}
use Rattle.paper.specs.Fields.{text_value, text_value_or, cents_value, issuer_text, remittance_value, plain, or_means, amount_field, remittance, fields, values_of, field_element, field_of, field_part, same_issuer, same_value, differ_from}
use Rattle.paper.specs.Regrouping.{add_first, numbers_16, counted, ordinals_of, message_refused, answered, pairing, of_payments, all_values, of_outcomes, regrouping, part_for, differing_part}
use Rattle.paper.specs.Host.{profile_numbered, four_bytes, bytes_after}
use Rattle.paper.specs.Answers.{profile_named}
use Rattle.paper_cases.specs.Cases.{Case, header, a_bic, not_provided, block_by, block_with, sepa, fourth_of_march, block, payment_with, payment, order, study_12, weis, klein, m1_with, m1, m2, m3_by, m3, inst, half_past_nine, i1_with, i1, i2, list, Holds, refused_with, message_refused_with, times}
use Rattle.paper_cases_instant.specs.InstantCases.{priority, level, instrument, category, day, time, typed, dated, of_code, of_time, coded, timed, paid, counted_three, type_cases, instrument_cases, code_cases, date_cases, time_cases, in_payment_cases, instant_order_cases, instant_table_cases, instant_part_cases, instant_regrouping_cases, not_instant_cases, instant_message_cases, instant_later_cases}

-- one case more
pub ◌also◌ : {P : Case → Type 0} {c : Case} {cs : List Case} → P c → All P cs → All P (c ∷ cs)
◌also◌ = all_more

infixr 20 ◌also◌
pub instant_message_cases_hold : All (Holds instant_profile) instant_message_cases
unfolding bytes is from_to one_of white text_byte capital digit letter letter_or_digit capital_or_digit value_character every same each root_tag start_tag amount_tag end_tag head declaration closed want ending in_root in_amount behind_name step ended run read leaf group group_under rows instant_changes with_row with_rows instant_rows for_new for_archived profile_by first_profile instant_profile as_archived as_new every_row name_in name row_in row_of longest_of head_of among lies_from number_after number fits shaped piece two_slashes id purpose days_in true_day date date_and_time zone date_time_zone count before_point behind_point digits money cents amount bic country countries of_a_country moved read_after iban right_for spaces_alone allowed text_of listed children all_named all_of child follow blocks of_header payments_of payments_from payments either_of in_payment in_block inherited amount_of sum_of total refuse ◌or_else◌ table_refusal size_refusal first_not rows_at required left_of first_row missing_of missing ends only_white first_at past named_in seek_in seek walk no_judgement rows_refusal sixty_fifth too_many limits_refusal text_refusal leaf_refusal value_refusal values_refusal in_both in_neither usage_of usage usage_refusal among_texts repeated ids_refusal unless block_counts counts_refusal tree_refusal unless_refused of_reading outcome_alone outcome refused accepted answer_to verdict part_of start_and_length first_pairs last_pairs numbers_of written over table_after text_value text_value_or cents_value issuer_text remittance_value plain or_means amount_field remittance fields values_of field_element field_of field_part same_issuer same_value differ_from add_first numbers_16 counted ordinals_of message_refused answered pairing of_payments all_values of_outcomes regrouping part_for differing_part profile_numbered four_bytes bytes_after profile_named header a_bic not_provided block_by block_with sepa fourth_of_march block payment_with payment order study_12 weis klein m1_with m1 m2 m3_by m3 inst half_past_nine i1_with i1 i2 list Holds refused_with message_refused_with times priority level instrument category day time typed dated of_code of_time coded timed paid counted_three type_cases instrument_cases code_cases date_cases time_cases in_payment_cases instant_order_cases instant_table_cases instant_part_cases instant_regrouping_cases not_instant_cases instant_message_cases instant_later_cases
instant_message_cases_hold =
    refl also refl also refl also refl also refl also refl also refl also refl also refl also refl also refl also refl also refl also refl also refl also refl also refl also refl also refl also
    refl also refl also refl also refl also refl also refl also refl also refl also refl also refl also refl also refl also refl also refl also refl also refl also refl also refl also refl also
    refl also refl also refl also refl also refl also refl also refl also refl also refl also refl also refl also refl also refl also refl also refl also refl also refl also refl also refl also
    refl also refl also refl also refl also refl also refl also refl also refl also refl also refl also refl also refl also refl also refl also refl also refl also refl also refl also refl also
    refl also refl also refl also refl also refl also refl also refl also all_none

pub instant_later_cases_hold : All (Holds instant_profile) instant_later_cases
unfolding bytes is from_to one_of white text_byte capital digit letter letter_or_digit capital_or_digit value_character every same each root_tag start_tag amount_tag end_tag head declaration closed want ending in_root in_amount behind_name step ended run read leaf group group_under rows instant_changes with_row with_rows instant_rows for_new for_archived profile_by first_profile instant_profile as_archived as_new every_row name_in name row_in row_of longest_of head_of among lies_from number_after number fits shaped piece two_slashes id purpose days_in true_day date date_and_time zone date_time_zone count before_point behind_point digits money cents amount bic country countries of_a_country moved read_after iban right_for spaces_alone allowed text_of listed children all_named all_of child follow blocks of_header payments_of payments_from payments either_of in_payment in_block inherited amount_of sum_of total refuse ◌or_else◌ table_refusal size_refusal first_not rows_at required left_of first_row missing_of missing ends only_white first_at past named_in seek_in seek walk no_judgement rows_refusal sixty_fifth too_many limits_refusal text_refusal leaf_refusal value_refusal values_refusal in_both in_neither usage_of usage usage_refusal among_texts repeated ids_refusal unless block_counts counts_refusal tree_refusal unless_refused of_reading outcome_alone outcome refused accepted answer_to verdict part_of start_and_length first_pairs last_pairs numbers_of written over table_after text_value text_value_or cents_value issuer_text remittance_value plain or_means amount_field remittance fields values_of field_element field_of field_part same_issuer same_value differ_from add_first numbers_16 counted ordinals_of message_refused answered pairing of_payments all_values of_outcomes regrouping part_for differing_part profile_numbered four_bytes bytes_after profile_named header a_bic not_provided block_by block_with sepa fourth_of_march block payment_with payment order study_12 weis klein m1_with m1 m2 m3_by m3 inst half_past_nine i1_with i1 i2 list Holds refused_with message_refused_with times priority level instrument category day time typed dated of_code of_time coded timed paid counted_three type_cases instrument_cases code_cases date_cases time_cases in_payment_cases instant_order_cases instant_table_cases instant_part_cases instant_regrouping_cases not_instant_cases instant_message_cases instant_later_cases
instant_later_cases_hold =
    refl also refl also refl also refl also refl also refl also refl also refl also refl also refl also refl also refl also refl also refl also refl also refl also refl also refl also refl also
    refl also refl also refl also refl also refl also refl also refl also refl also refl also refl also refl also refl also refl also refl also all_none

pub not_instant_cases_hold : All (Holds first_profile) not_instant_cases
unfolding bytes is from_to one_of white text_byte capital digit letter letter_or_digit capital_or_digit value_character every same each root_tag start_tag amount_tag end_tag head declaration closed want ending in_root in_amount behind_name step ended run read leaf group group_under rows instant_changes with_row with_rows instant_rows for_new for_archived profile_by first_profile instant_profile as_archived as_new every_row name_in name row_in row_of longest_of head_of among lies_from number_after number fits shaped piece two_slashes id purpose days_in true_day date date_and_time zone date_time_zone count before_point behind_point digits money cents amount bic country countries of_a_country moved read_after iban right_for spaces_alone allowed text_of listed children all_named all_of child follow blocks of_header payments_of payments_from payments either_of in_payment in_block inherited amount_of sum_of total refuse ◌or_else◌ table_refusal size_refusal first_not rows_at required left_of first_row missing_of missing ends only_white first_at past named_in seek_in seek walk no_judgement rows_refusal sixty_fifth too_many limits_refusal text_refusal leaf_refusal value_refusal values_refusal in_both in_neither usage_of usage usage_refusal among_texts repeated ids_refusal unless block_counts counts_refusal tree_refusal unless_refused of_reading outcome_alone outcome refused accepted answer_to verdict part_of start_and_length first_pairs last_pairs numbers_of written over table_after text_value text_value_or cents_value issuer_text remittance_value plain or_means amount_field remittance fields values_of field_element field_of field_part same_issuer same_value differ_from add_first numbers_16 counted ordinals_of message_refused answered pairing of_payments all_values of_outcomes regrouping part_for differing_part profile_numbered four_bytes bytes_after profile_named header a_bic not_provided block_by block_with sepa fourth_of_march block payment_with payment order study_12 weis klein m1_with m1 m2 m3_by m3 inst half_past_nine i1_with i1 i2 list Holds refused_with message_refused_with times priority level instrument category day time typed dated of_code of_time coded timed paid counted_three type_cases instrument_cases code_cases date_cases time_cases in_payment_cases instant_order_cases instant_table_cases instant_part_cases instant_regrouping_cases not_instant_cases instant_message_cases instant_later_cases
not_instant_cases_hold =
    refl also refl also refl also refl also refl also refl also refl also refl also refl also refl also refl also refl also all_none

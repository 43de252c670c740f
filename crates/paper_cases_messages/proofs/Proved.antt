-- Each case holds under its profile: the checker computes each from the definitions.
use mathlib.Core.List.{List, ◌∷◌}
use mathlib.Core.Path.{refl}
use Rattle.paper.specs.Accepted.{All, all_none, all_more}
use Rattle.paper.specs.Bytes.{bytes, is, from_to, one_of, white, text_byte, capital, digit, letter, letter_or_digit, capital_or_digit, value_character, every, same, each}
use Rattle.paper.specs.Form.{root_tag, start_tag, amount_tag, end_tag, head, declaration}
use Rattle.paper.specs.Computed.Reading.{closed, want, ending, in_root, in_amount, behind_name, step, ended, run, read}
use Rattle.paper.specs.Rows.{leaf, group, group_under, rows, instant_changes, with_row, with_rows, instant_rows, for_new, for_archived, profile_by, first_profile, instant_profile, as_archived, as_new, every_row, name_in, name, row_in, row_of, longest_of, head_of}
use Rattle.paper.specs.Values.{among, lies_from, number_after, number, fits, shaped, piece, two_slashes, id, purpose, days_in, true_day, date, date_and_time, zone, date_time_zone, count, before_point, behind_point, digits, money, cents, amount, bic, country, countries, of_a_country, moved, read_after, iban, right_for, spaces_alone, allowed}
use Rattle.paper.specs.Payments.{text_of, listed, children, all_named, all_of, child, follow, blocks, of_header, payments_of, payments_from, payments, either_of, in_payment, in_block, inherited, amount_of, sum_of, total}
use Rattle.paper.specs.Refusals.{refuse, ◌or_else◌, table_refusal, size_refusal, first_not, rows_at, required, left_of, first_row, missing_of, missing, ends, only_white, first_at, past, named_in, seek_in, seek, walk, no_judgement, rows_refusal, sixty_fifth, too_many, limits_refusal, text_refusal, leaf_refusal, value_refusal, values_refusal, in_both, in_neither, usage_of, usage, usage_refusal, among_texts, repeated, ids_refusal, unless, block_counts, counts_refusal, tree_refusal, unless_refused, of_reading, outcome_alone, outcome, refused, accepted, answer_to, verdict}
use Rattle.paper.specs.Table.{part_of, start_and_length, first_pairs, last_pairs, numbers_of, written, over, table_after}
use Rattle.paper.specs.Fields.{text_value, text_value_or, cents_value, issuer_text, remittance_value, plain, or_means, amount_field, remittance, fields, values_of, field_element, field_of, field_part, same_issuer, same_value, differ_from}
use Rattle.paper.specs.Regrouping.{two_bytes, file_of, add_first, numbers_16, counted, ordinals_of, message_refused, answered, pairing, of_payments, all_values, of_outcomes, regrouping, part_for, differing_part, same_payment, often}
use Rattle.paper_cases.specs.Cases.{header, a_bic, not_provided, block_by, block_with, sepa, fourth_of_march, block, payment_with, payment, order, study_12, weis, klein, m1_with, m1, m2, m3_by, m3, inst, half_past_nine, i1_with, i1, i2, m1_by_and, m1_by, i1_by, list, refused_with, message_refused_with, times}
use Rattle.paper_cases_messages.specs.Changed.{Case, part, all_parts, no_parts, answers, expected, Holds, either_way, begins_with, replaced, but, m1_but, m4_by, m4, m4_new, m5_by, m5, m5_but, m5_new, m5_new_but, bare_rows, bare, initiation, between, header_of, inside_block, block_of, bare_payment, inside_payment, payment_of, copies, crowd, nested}
use Rattle.paper_cases_messages.specs.FormCases.{size_cases, around_cases, short_cases, root_cases, name_cases, amount_tag_cases, content_cases, text_cases, depth_cases, form_cases}
use Rattle.paper_cases_messages.specs.RowCases.{child_cases, missing_cases, choice_cases, text_in_group_cases, walk_cases, whole_cases, header_row_cases, block_row_cases, payment_row_cases, deeper_row_cases, row_cases}
use Rattle.paper_cases_messages.specs.AlikeCases.{alike_cases}
use Rattle.paper_cases_messages.specs.StageCases.{limit_cases, leaf_cases, each_leaf_cases, value_order_cases, usage_cases, block_id_cases, count_and_sum_cases, order_cases, stage_cases, later_stage_cases}
use Rattle.paper_cases_messages.specs.FieldCases.{table_cases, part_cases, field_cases}
use Rattle.paper_cases_messages.specs.RegroupingCases.{one_alone, three_in_order, its_type, m5_with_type, message_cases, file_cases, ordinal_cases, no_field_cases, equal_cases, different_cases, differing_cases, often_cases, regrouping_cases, comparing_cases}
use Rattle.paper_cases_messages.specs.WithdrawnCases.{m1_holding, unprovided_but, withdrawn_row_cases, withdrawn_order_cases, withdrawn_regrouping_cases, withdrawn_instant_cases, withdrawn_message_cases}

-- one case more
pub ◌also◌ : {P : Case → Type 0} {c : Case} {cs : List Case} → P c → All P cs → All P (c ∷ cs)
◌also◌ = all_more

infixr 20 ◌also◌
pub form_cases_hold : All (Holds first_profile) form_cases
unfolding bytes is from_to one_of white text_byte capital digit letter letter_or_digit capital_or_digit value_character every same each root_tag start_tag amount_tag end_tag head declaration closed want ending in_root in_amount behind_name step ended run read leaf group group_under rows instant_changes with_row with_rows instant_rows for_new for_archived profile_by first_profile instant_profile as_archived as_new every_row name_in name row_in row_of longest_of head_of among lies_from number_after number fits shaped piece two_slashes id purpose days_in true_day date date_and_time zone date_time_zone count before_point behind_point digits money cents amount bic country countries of_a_country moved read_after iban right_for spaces_alone allowed text_of listed children all_named all_of child follow blocks of_header payments_of payments_from payments either_of in_payment in_block inherited amount_of sum_of total refuse ◌or_else◌ table_refusal size_refusal first_not rows_at required left_of first_row missing_of missing ends only_white first_at past named_in seek_in seek walk no_judgement rows_refusal sixty_fifth too_many limits_refusal text_refusal leaf_refusal value_refusal values_refusal in_both in_neither usage_of usage usage_refusal among_texts repeated ids_refusal unless block_counts counts_refusal tree_refusal unless_refused of_reading outcome_alone outcome refused accepted answer_to verdict header a_bic not_provided block_by block_with sepa fourth_of_march block payment_with payment order study_12 weis klein m1_with m1 m2 m3_by m3 inst half_past_nine i1_with i1 i2 m1_by_and m1_by i1_by list refused_with message_refused_with times part all_parts no_parts answers expected Holds either_way begins_with replaced but m1_but m4_by m4 m4_new m5_by m5 m5_but m5_new m5_new_but bare_rows bare initiation between header_of inside_block block_of bare_payment inside_payment payment_of copies crowd nested size_cases around_cases short_cases root_cases name_cases amount_tag_cases content_cases text_cases depth_cases form_cases
form_cases_hold =
    refl also refl also refl also refl also refl also refl also refl also refl also refl also refl also refl also refl also refl also refl also refl also refl also refl also
    refl also refl also refl also refl also refl also refl also refl also refl also refl also refl also refl also refl also refl also refl also refl also refl also refl also refl also refl also
    refl also refl also refl also refl also refl also refl also refl also refl also refl also refl also refl also refl also refl also refl also refl also refl also refl also refl also refl also
    refl also refl also refl also refl also refl also refl also refl also refl also refl also refl also refl also refl also refl also refl also refl also refl also refl also refl also refl also
    refl also refl also refl also refl also refl also refl also refl also refl also refl also refl also refl also refl also refl also refl also refl also refl also refl also refl also refl also
    refl also refl also refl also refl also refl also refl also refl also refl also refl also refl also refl also refl also refl also refl also refl also refl also refl also refl also refl also
    refl also refl also refl also all_none

pub row_cases_hold : All (Holds first_profile) row_cases
unfolding bytes is from_to one_of white text_byte capital digit letter letter_or_digit capital_or_digit value_character every same each root_tag start_tag amount_tag end_tag head declaration closed want ending in_root in_amount behind_name step ended run read leaf group group_under rows instant_changes with_row with_rows instant_rows for_new for_archived profile_by first_profile instant_profile as_archived as_new every_row name_in name row_in row_of longest_of head_of among lies_from number_after number fits shaped piece two_slashes id purpose days_in true_day date date_and_time zone date_time_zone count before_point behind_point digits money cents amount bic country countries of_a_country moved read_after iban right_for spaces_alone allowed text_of listed children all_named all_of child follow blocks of_header payments_of payments_from payments either_of in_payment in_block inherited amount_of sum_of total refuse ◌or_else◌ table_refusal size_refusal first_not rows_at required left_of first_row missing_of missing ends only_white first_at past named_in seek_in seek walk no_judgement rows_refusal sixty_fifth too_many limits_refusal text_refusal leaf_refusal value_refusal values_refusal in_both in_neither usage_of usage usage_refusal among_texts repeated ids_refusal unless block_counts counts_refusal tree_refusal unless_refused of_reading outcome_alone outcome refused accepted answer_to verdict header a_bic not_provided block_by block_with sepa fourth_of_march block payment_with payment order study_12 weis klein m1_with m1 m2 m3_by m3 inst half_past_nine i1_with i1 i2 m1_by_and m1_by i1_by list refused_with message_refused_with times part all_parts no_parts answers expected Holds either_way begins_with replaced but m1_but m4_by m4 m4_new m5_by m5 m5_but m5_new m5_new_but bare_rows bare initiation between header_of inside_block block_of bare_payment inside_payment payment_of copies crowd nested child_cases missing_cases choice_cases text_in_group_cases walk_cases whole_cases header_row_cases block_row_cases payment_row_cases deeper_row_cases row_cases
row_cases_hold =
    refl also refl also refl also refl also refl also refl also refl also refl also refl also refl also refl also refl also refl also refl also refl also refl also refl also refl also refl also
    refl also refl also refl also refl also refl also refl also refl also refl also refl also refl also refl also refl also refl also refl also refl also refl also refl also refl also refl also
    refl also refl also refl also refl also refl also refl also refl also refl also refl also refl also refl also refl also refl also refl also refl also refl also refl also refl also refl also
    refl also refl also refl also refl also refl also refl also refl also refl also refl also refl also refl also refl also refl also refl also refl also refl also refl also refl also refl also
    refl also refl also refl also refl also refl also refl also refl also refl also refl also refl also refl also refl also refl also refl also refl also refl also refl also refl also refl also
    refl also refl also refl also refl also refl also refl also refl also refl also refl also refl also refl also refl also refl also refl also refl also refl also refl also refl also refl also
    refl also refl also refl also refl also refl also refl also refl also refl also refl also refl also refl also refl also refl also refl also refl also refl also refl also refl also refl also
    refl also refl also refl also refl also refl also refl also refl also refl also refl also refl also refl also refl also refl also refl also refl also refl also refl also refl also refl also
    refl also refl also refl also refl also refl also refl also refl also refl also refl also refl also refl also refl also refl also refl also refl also refl also refl also refl also refl also
    refl also refl also refl also refl also refl also refl also refl also refl also refl also refl also refl also refl also refl also refl also refl also refl also refl also refl also refl also
    all_none

pub stage_cases_hold : All (Holds first_profile) stage_cases
unfolding bytes is from_to one_of white text_byte capital digit letter letter_or_digit capital_or_digit value_character every same each root_tag start_tag amount_tag end_tag head declaration closed want ending in_root in_amount behind_name step ended run read leaf group group_under rows instant_changes with_row with_rows instant_rows for_new for_archived profile_by first_profile instant_profile as_archived as_new every_row name_in name row_in row_of longest_of head_of among lies_from number_after number fits shaped piece two_slashes id purpose days_in true_day date date_and_time zone date_time_zone count before_point behind_point digits money cents amount bic country countries of_a_country moved read_after iban right_for spaces_alone allowed text_of listed children all_named all_of child follow blocks of_header payments_of payments_from payments either_of in_payment in_block inherited amount_of sum_of total refuse ◌or_else◌ table_refusal size_refusal first_not rows_at required left_of first_row missing_of missing ends only_white first_at past named_in seek_in seek walk no_judgement rows_refusal sixty_fifth too_many limits_refusal text_refusal leaf_refusal value_refusal values_refusal in_both in_neither usage_of usage usage_refusal among_texts repeated ids_refusal unless block_counts counts_refusal tree_refusal unless_refused of_reading outcome_alone outcome refused accepted answer_to verdict header a_bic not_provided block_by block_with sepa fourth_of_march block payment_with payment order study_12 weis klein m1_with m1 m2 m3_by m3 inst half_past_nine i1_with i1 i2 m1_by_and m1_by i1_by list refused_with message_refused_with times part all_parts no_parts answers expected Holds either_way begins_with replaced but m1_but m4_by m4 m4_new m5_by m5 m5_but m5_new m5_new_but bare_rows bare initiation between header_of inside_block block_of bare_payment inside_payment payment_of copies crowd nested limit_cases leaf_cases each_leaf_cases value_order_cases usage_cases block_id_cases count_and_sum_cases order_cases stage_cases later_stage_cases
stage_cases_hold =
    refl also refl also refl also refl also refl also refl also refl also refl also refl also refl also refl also refl also refl also refl also refl also refl also refl also refl also refl also
    refl also refl also refl also refl also refl also refl also refl also refl also refl also refl also refl also refl also refl also refl also refl also refl also refl also refl also refl also
    refl also refl also refl also refl also refl also refl also refl also refl also refl also refl also refl also refl also refl also refl also refl also refl also all_none

pub later_stage_cases_hold : All (Holds first_profile) later_stage_cases
unfolding bytes is from_to one_of white text_byte capital digit letter letter_or_digit capital_or_digit value_character every same each root_tag start_tag amount_tag end_tag head declaration closed want ending in_root in_amount behind_name step ended run read leaf group group_under rows instant_changes with_row with_rows instant_rows for_new for_archived profile_by first_profile instant_profile as_archived as_new every_row name_in name row_in row_of longest_of head_of among lies_from number_after number fits shaped piece two_slashes id purpose days_in true_day date date_and_time zone date_time_zone count before_point behind_point digits money cents amount bic country countries of_a_country moved read_after iban right_for spaces_alone allowed text_of listed children all_named all_of child follow blocks of_header payments_of payments_from payments either_of in_payment in_block inherited amount_of sum_of total refuse ◌or_else◌ table_refusal size_refusal first_not rows_at required left_of first_row missing_of missing ends only_white first_at past named_in seek_in seek walk no_judgement rows_refusal sixty_fifth too_many limits_refusal text_refusal leaf_refusal value_refusal values_refusal in_both in_neither usage_of usage usage_refusal among_texts repeated ids_refusal unless block_counts counts_refusal tree_refusal unless_refused of_reading outcome_alone outcome refused accepted answer_to verdict header a_bic not_provided block_by block_with sepa fourth_of_march block payment_with payment order study_12 weis klein m1_with m1 m2 m3_by m3 inst half_past_nine i1_with i1 i2 m1_by_and m1_by i1_by list refused_with message_refused_with times part all_parts no_parts answers expected Holds either_way begins_with replaced but m1_but m4_by m4 m4_new m5_by m5 m5_but m5_new m5_new_but bare_rows bare initiation between header_of inside_block block_of bare_payment inside_payment payment_of copies crowd nested limit_cases leaf_cases each_leaf_cases value_order_cases usage_cases block_id_cases count_and_sum_cases order_cases stage_cases later_stage_cases
later_stage_cases_hold =
    refl also refl also refl also refl also refl also refl also refl also refl also refl also refl also refl also refl also refl also refl also refl also refl also refl also refl also refl also
    refl also refl also refl also refl also refl also refl also refl also refl also refl also refl also refl also refl also refl also refl also refl also refl also refl also refl also refl also
    refl also refl also refl also refl also refl also refl also refl also refl also refl also refl also refl also all_none

pub field_cases_hold : All (Holds first_profile) field_cases
unfolding bytes is from_to one_of white text_byte capital digit letter letter_or_digit capital_or_digit value_character every same each root_tag start_tag amount_tag end_tag head declaration closed want ending in_root in_amount behind_name step ended run read leaf group group_under rows instant_changes with_row with_rows instant_rows for_new for_archived profile_by first_profile instant_profile as_archived as_new every_row name_in name row_in row_of longest_of head_of among lies_from number_after number fits shaped piece two_slashes id purpose days_in true_day date date_and_time zone date_time_zone count before_point behind_point digits money cents amount bic country countries of_a_country moved read_after iban right_for spaces_alone allowed text_of listed children all_named all_of child follow blocks of_header payments_of payments_from payments either_of in_payment in_block inherited amount_of sum_of total refuse ◌or_else◌ table_refusal size_refusal first_not rows_at required left_of first_row missing_of missing ends only_white first_at past named_in seek_in seek walk no_judgement rows_refusal sixty_fifth too_many limits_refusal text_refusal leaf_refusal value_refusal values_refusal in_both in_neither usage_of usage usage_refusal among_texts repeated ids_refusal unless block_counts counts_refusal tree_refusal unless_refused of_reading outcome_alone outcome refused accepted answer_to verdict part_of start_and_length first_pairs last_pairs numbers_of written over table_after text_value text_value_or cents_value issuer_text remittance_value plain or_means amount_field remittance fields values_of field_element field_of field_part same_issuer same_value differ_from header a_bic not_provided block_by block_with sepa fourth_of_march block payment_with payment order study_12 weis klein m1_with m1 m2 m3_by m3 inst half_past_nine i1_with i1 i2 m1_by_and m1_by i1_by list refused_with message_refused_with times part all_parts no_parts answers expected Holds either_way begins_with replaced but m1_but m4_by m4 m4_new m5_by m5 m5_but m5_new m5_new_but bare_rows bare initiation between header_of inside_block block_of bare_payment inside_payment payment_of copies crowd nested table_cases part_cases field_cases
field_cases_hold =
    refl also refl also refl also refl also refl also refl also refl also refl also refl also refl also refl also refl also refl also refl also all_none

pub regrouping_cases_hold : All (Holds first_profile) regrouping_cases
unfolding bytes is from_to one_of white text_byte capital digit letter letter_or_digit capital_or_digit value_character every same each root_tag start_tag amount_tag end_tag head declaration closed want ending in_root in_amount behind_name step ended run read leaf group group_under rows instant_changes with_row with_rows instant_rows for_new for_archived profile_by first_profile instant_profile as_archived as_new every_row name_in name row_in row_of longest_of head_of among lies_from number_after number fits shaped piece two_slashes id purpose days_in true_day date date_and_time zone date_time_zone count before_point behind_point digits money cents amount bic country countries of_a_country moved read_after iban right_for spaces_alone allowed text_of listed children all_named all_of child follow blocks of_header payments_of payments_from payments either_of in_payment in_block inherited amount_of sum_of total refuse ◌or_else◌ table_refusal size_refusal first_not rows_at required left_of first_row missing_of missing ends only_white first_at past named_in seek_in seek walk no_judgement rows_refusal sixty_fifth too_many limits_refusal text_refusal leaf_refusal value_refusal values_refusal in_both in_neither usage_of usage usage_refusal among_texts repeated ids_refusal unless block_counts counts_refusal tree_refusal unless_refused of_reading outcome_alone outcome refused accepted answer_to verdict part_of start_and_length first_pairs last_pairs numbers_of written over table_after text_value text_value_or cents_value issuer_text remittance_value plain or_means amount_field remittance fields values_of field_element field_of field_part same_issuer same_value differ_from two_bytes file_of add_first numbers_16 counted ordinals_of message_refused answered pairing of_payments all_values of_outcomes regrouping part_for differing_part same_payment often header a_bic not_provided block_by block_with sepa fourth_of_march block payment_with payment order study_12 weis klein m1_with m1 m2 m3_by m3 inst half_past_nine i1_with i1 i2 m1_by_and m1_by i1_by list refused_with message_refused_with times part all_parts no_parts answers expected Holds either_way begins_with replaced but m1_but m4_by m4 m4_new m5_by m5 m5_but m5_new m5_new_but bare_rows bare initiation between header_of inside_block block_of bare_payment inside_payment payment_of copies crowd nested one_alone three_in_order its_type m5_with_type message_cases file_cases ordinal_cases no_field_cases equal_cases different_cases differing_cases often_cases regrouping_cases comparing_cases
regrouping_cases_hold =
    refl also refl also refl also refl also refl also refl also refl also refl also refl also refl also refl also refl also refl also refl also refl also refl also refl also refl also refl also
    refl also refl also refl also refl also refl also refl also refl also refl also refl also refl also refl also refl also refl also refl also refl also refl also refl also refl also refl also
    refl also refl also refl also refl also refl also refl also refl also refl also refl also refl also refl also refl also refl also refl also refl also refl also refl also refl also refl also
    refl also refl also refl also refl also refl also refl also refl also refl also refl also all_none

pub comparing_cases_hold : All (Holds first_profile) comparing_cases
unfolding bytes is from_to one_of white text_byte capital digit letter letter_or_digit capital_or_digit value_character every same each root_tag start_tag amount_tag end_tag head declaration closed want ending in_root in_amount behind_name step ended run read leaf group group_under rows instant_changes with_row with_rows instant_rows for_new for_archived profile_by first_profile instant_profile as_archived as_new every_row name_in name row_in row_of longest_of head_of among lies_from number_after number fits shaped piece two_slashes id purpose days_in true_day date date_and_time zone date_time_zone count before_point behind_point digits money cents amount bic country countries of_a_country moved read_after iban right_for spaces_alone allowed text_of listed children all_named all_of child follow blocks of_header payments_of payments_from payments either_of in_payment in_block inherited amount_of sum_of total refuse ◌or_else◌ table_refusal size_refusal first_not rows_at required left_of first_row missing_of missing ends only_white first_at past named_in seek_in seek walk no_judgement rows_refusal sixty_fifth too_many limits_refusal text_refusal leaf_refusal value_refusal values_refusal in_both in_neither usage_of usage usage_refusal among_texts repeated ids_refusal unless block_counts counts_refusal tree_refusal unless_refused of_reading outcome_alone outcome refused accepted answer_to verdict part_of start_and_length first_pairs last_pairs numbers_of written over table_after text_value text_value_or cents_value issuer_text remittance_value plain or_means amount_field remittance fields values_of field_element field_of field_part same_issuer same_value differ_from two_bytes file_of add_first numbers_16 counted ordinals_of message_refused answered pairing of_payments all_values of_outcomes regrouping part_for differing_part same_payment often header a_bic not_provided block_by block_with sepa fourth_of_march block payment_with payment order study_12 weis klein m1_with m1 m2 m3_by m3 inst half_past_nine i1_with i1 i2 m1_by_and m1_by i1_by list refused_with message_refused_with times part all_parts no_parts answers expected Holds either_way begins_with replaced but m1_but m4_by m4 m4_new m5_by m5 m5_but m5_new m5_new_but bare_rows bare initiation between header_of inside_block block_of bare_payment inside_payment payment_of copies crowd nested one_alone three_in_order its_type m5_with_type message_cases file_cases ordinal_cases no_field_cases equal_cases different_cases differing_cases often_cases regrouping_cases comparing_cases
comparing_cases_hold =
    refl also refl also refl also refl also refl also refl also refl also refl also refl also refl also refl also refl also refl also refl also refl also all_none

pub alike_cases_hold : All (Holds instant_profile) alike_cases
unfolding bytes is from_to one_of white text_byte capital digit letter letter_or_digit capital_or_digit value_character every same each root_tag start_tag amount_tag end_tag head declaration closed want ending in_root in_amount behind_name step ended run read leaf group group_under rows instant_changes with_row with_rows instant_rows for_new for_archived profile_by first_profile instant_profile as_archived as_new every_row name_in name row_in row_of longest_of head_of among lies_from number_after number fits shaped piece two_slashes id purpose days_in true_day date date_and_time zone date_time_zone count before_point behind_point digits money cents amount bic country countries of_a_country moved read_after iban right_for spaces_alone allowed text_of listed children all_named all_of child follow blocks of_header payments_of payments_from payments either_of in_payment in_block inherited amount_of sum_of total refuse ◌or_else◌ table_refusal size_refusal first_not rows_at required left_of first_row missing_of missing ends only_white first_at past named_in seek_in seek walk no_judgement rows_refusal sixty_fifth too_many limits_refusal text_refusal leaf_refusal value_refusal values_refusal in_both in_neither usage_of usage usage_refusal among_texts repeated ids_refusal unless block_counts counts_refusal tree_refusal unless_refused of_reading outcome_alone outcome refused accepted answer_to verdict header a_bic not_provided block_by block_with sepa fourth_of_march block payment_with payment order study_12 weis klein m1_with m1 m2 m3_by m3 inst half_past_nine i1_with i1 i2 m1_by_and m1_by i1_by list refused_with message_refused_with times part all_parts no_parts answers expected Holds either_way begins_with replaced but m1_but m4_by m4 m4_new m5_by m5 m5_but m5_new m5_new_but bare_rows bare initiation between header_of inside_block block_of bare_payment inside_payment payment_of copies crowd nested size_cases around_cases short_cases root_cases name_cases amount_tag_cases content_cases text_cases depth_cases form_cases header_row_cases alike_cases
alike_cases_hold =
    refl also refl also refl also refl also refl also refl also refl also refl also refl also refl also refl also refl also refl also refl also refl also refl also refl also refl also refl also
    refl also refl also refl also refl also refl also refl also refl also refl also refl also refl also refl also refl also refl also refl also refl also refl also refl also refl also refl also all_none

pub withdrawn_message_cases_hold : All (Holds first_profile) withdrawn_message_cases
unfolding bytes is from_to one_of white text_byte capital digit letter letter_or_digit capital_or_digit value_character every same each root_tag start_tag amount_tag end_tag head declaration closed want ending in_root in_amount behind_name step ended run read leaf group group_under rows instant_changes with_row with_rows instant_rows for_new for_archived profile_by first_profile instant_profile as_archived as_new every_row name_in name row_in row_of longest_of head_of among lies_from number_after number fits shaped piece two_slashes id purpose days_in true_day date date_and_time zone date_time_zone count before_point behind_point digits money cents amount bic country countries of_a_country moved read_after iban right_for spaces_alone allowed text_of listed children all_named all_of child follow blocks of_header payments_of payments_from payments either_of in_payment in_block inherited amount_of sum_of total refuse ◌or_else◌ table_refusal size_refusal first_not rows_at required left_of first_row missing_of missing ends only_white first_at past named_in seek_in seek walk no_judgement rows_refusal sixty_fifth too_many limits_refusal text_refusal leaf_refusal value_refusal values_refusal in_both in_neither usage_of usage usage_refusal among_texts repeated ids_refusal unless block_counts counts_refusal tree_refusal unless_refused of_reading outcome_alone outcome refused accepted answer_to verdict part_of start_and_length first_pairs last_pairs numbers_of written over table_after text_value text_value_or cents_value issuer_text remittance_value plain or_means amount_field remittance fields values_of field_element field_of field_part same_issuer same_value differ_from two_bytes file_of add_first numbers_16 counted ordinals_of message_refused answered pairing of_payments all_values of_outcomes regrouping part_for differing_part same_payment often header a_bic not_provided block_by block_with sepa fourth_of_march block payment_with payment order study_12 weis klein m1_with m1 m2 m3_by m3 inst half_past_nine i1_with i1 i2 m1_by_and m1_by i1_by list refused_with message_refused_with times part all_parts no_parts answers expected Holds either_way begins_with replaced but m1_but m4_by m4 m4_new m5_by m5 m5_but m5_new m5_new_but bare_rows bare initiation between header_of inside_block block_of bare_payment inside_payment payment_of copies crowd nested one_alone three_in_order its_type m5_with_type m1_holding unprovided_but withdrawn_row_cases withdrawn_order_cases withdrawn_regrouping_cases withdrawn_instant_cases withdrawn_message_cases
withdrawn_message_cases_hold =
    refl also refl also refl also refl also refl also refl also refl also refl also refl also refl also refl also refl also refl also refl also refl also refl also refl also refl also refl also
    refl also refl also refl also refl also refl also refl also refl also refl also refl also refl also refl also refl also refl also refl also refl also refl also refl also refl also refl also
    refl also refl also refl also refl also refl also refl also all_none

pub withdrawn_regrouping_cases_hold : All (Holds first_profile) withdrawn_regrouping_cases
unfolding bytes is from_to one_of white text_byte capital digit letter letter_or_digit capital_or_digit value_character every same each root_tag start_tag amount_tag end_tag head declaration closed want ending in_root in_amount behind_name step ended run read leaf group group_under rows instant_changes with_row with_rows instant_rows for_new for_archived profile_by first_profile instant_profile as_archived as_new every_row name_in name row_in row_of longest_of head_of among lies_from number_after number fits shaped piece two_slashes id purpose days_in true_day date date_and_time zone date_time_zone count before_point behind_point digits money cents amount bic country countries of_a_country moved read_after iban right_for spaces_alone allowed text_of listed children all_named all_of child follow blocks of_header payments_of payments_from payments either_of in_payment in_block inherited amount_of sum_of total refuse ◌or_else◌ table_refusal size_refusal first_not rows_at required left_of first_row missing_of missing ends only_white first_at past named_in seek_in seek walk no_judgement rows_refusal sixty_fifth too_many limits_refusal text_refusal leaf_refusal value_refusal values_refusal in_both in_neither usage_of usage usage_refusal among_texts repeated ids_refusal unless block_counts counts_refusal tree_refusal unless_refused of_reading outcome_alone outcome refused accepted answer_to verdict part_of start_and_length first_pairs last_pairs numbers_of written over table_after text_value text_value_or cents_value issuer_text remittance_value plain or_means amount_field remittance fields values_of field_element field_of field_part same_issuer same_value differ_from two_bytes file_of add_first numbers_16 counted ordinals_of message_refused answered pairing of_payments all_values of_outcomes regrouping part_for differing_part same_payment often header a_bic not_provided block_by block_with sepa fourth_of_march block payment_with payment order study_12 weis klein m1_with m1 m2 m3_by m3 inst half_past_nine i1_with i1 i2 m1_by_and m1_by i1_by list refused_with message_refused_with times part all_parts no_parts answers expected Holds either_way begins_with replaced but m1_but m4_by m4 m4_new m5_by m5 m5_but m5_new m5_new_but bare_rows bare initiation between header_of inside_block block_of bare_payment inside_payment payment_of copies crowd nested one_alone three_in_order its_type m5_with_type m1_holding unprovided_but withdrawn_row_cases withdrawn_order_cases withdrawn_regrouping_cases withdrawn_instant_cases withdrawn_message_cases
withdrawn_regrouping_cases_hold =
    refl also refl also refl also refl also refl also refl also refl also refl also refl also refl also refl also refl also refl also refl also refl also refl also refl also refl also refl also
    refl also refl also refl also refl also refl also refl also all_none

pub withdrawn_instant_cases_hold : All (Holds instant_profile) withdrawn_instant_cases
unfolding bytes is from_to one_of white text_byte capital digit letter letter_or_digit capital_or_digit value_character every same each root_tag start_tag amount_tag end_tag head declaration closed want ending in_root in_amount behind_name step ended run read leaf group group_under rows instant_changes with_row with_rows instant_rows for_new for_archived profile_by first_profile instant_profile as_archived as_new every_row name_in name row_in row_of longest_of head_of among lies_from number_after number fits shaped piece two_slashes id purpose days_in true_day date date_and_time zone date_time_zone count before_point behind_point digits money cents amount bic country countries of_a_country moved read_after iban right_for spaces_alone allowed text_of listed children all_named all_of child follow blocks of_header payments_of payments_from payments either_of in_payment in_block inherited amount_of sum_of total refuse ◌or_else◌ table_refusal size_refusal first_not rows_at required left_of first_row missing_of missing ends only_white first_at past named_in seek_in seek walk no_judgement rows_refusal sixty_fifth too_many limits_refusal text_refusal leaf_refusal value_refusal values_refusal in_both in_neither usage_of usage usage_refusal among_texts repeated ids_refusal unless block_counts counts_refusal tree_refusal unless_refused of_reading outcome_alone outcome refused accepted answer_to verdict part_of start_and_length first_pairs last_pairs numbers_of written over table_after text_value text_value_or cents_value issuer_text remittance_value plain or_means amount_field remittance fields values_of field_element field_of field_part same_issuer same_value differ_from two_bytes file_of add_first numbers_16 counted ordinals_of message_refused answered pairing of_payments all_values of_outcomes regrouping part_for differing_part same_payment often header a_bic not_provided block_by block_with sepa fourth_of_march block payment_with payment order study_12 weis klein m1_with m1 m2 m3_by m3 inst half_past_nine i1_with i1 i2 m1_by_and m1_by i1_by list refused_with message_refused_with times part all_parts no_parts answers expected Holds either_way begins_with replaced but m1_but m4_by m4 m4_new m5_by m5 m5_but m5_new m5_new_but bare_rows bare initiation between header_of inside_block block_of bare_payment inside_payment payment_of copies crowd nested one_alone three_in_order its_type m5_with_type m1_holding unprovided_but withdrawn_row_cases withdrawn_order_cases withdrawn_regrouping_cases withdrawn_instant_cases withdrawn_message_cases
withdrawn_instant_cases_hold =
    refl also refl also refl also refl also refl also refl also refl also refl also refl also refl also refl also refl also refl also refl also all_none

use Rattle.definition_laws.proofs.audits.AfterRecords.{WrittenLaws}
use Rattle.definition_laws.proofs.audits.LeftDifferent.{Laws, empty_alone, is_path_left_over, left_is}
use Rattle.definition_laws.proofs.audits.after_a_change_an_audit_reports_what_it_left_to_the_user.Goals as goal

pub returns-clause-each : goal.returns-clause-each
returns-clause-each c command read files chosen clash done left d e off =
    let written : WrittenLaws = record { paths = c.a_database_lists_the_owned_files.ensures; entries = c.a_database_keeps_the_entries_of_owned_files.ensures } in
    let laws : Laws = record {
      values = c.sound_containers_hold_sound_values.ensures.value;
      reserved = c.what_is_written_is_not_reserved.ensures.records;
      made = c.a_change_that_is_made_passes_each_test.ensures;
      differences = c.an_audit_reports_just_the_files_that_differ.ensures.each;
      written = written;
    } in
    (is_path_left_over laws command read files chosen clash done left e off d, left_is laws command read files chosen clash done left e off d)

pub returns-clause-empty : goal.returns-clause-empty
returns-clause-empty c = empty_alone c.the_first_bad_text_is_reported.ensures c.listings_are_at_their_places.ensures c.the_files_of_an_added_package_are_as_listed.ensures

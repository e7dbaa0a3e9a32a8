use Rattle.definition_laws.proofs.roots.RootLeft.{root_left}
use Rattle.definition_laws.proofs.roots.SoundBefore.{texts_are_sound}
use Rattle.definition_laws.proofs.roots.what_a_change_leaves_is_read_by_the_next_run.Goals as goal

pub returns : goal.returns
returns c = λ command read files chosen clash done bytes ok off.
    root_left (record {
      stay = c.packages_of_sound_containers_may_be_members.ensures.stays;
      come = c.packages_of_sound_containers_may_be_members.ensures.comes;
      tested = c.a_package_is_tested_by_its_values_and_then_its_files.ensures;
      texts = texts_are_sound (record {
        visited = c.values_of_few_visits_have_no_fault.ensures;
        shaped = c.values_have_their_shape.ensures.word;
        kept = c.no_text_is_bad_where_each_keeps_its_rule.ensures;
        once = c.no_repeated_name_is_reported_if_there_is_none.ensures;
      }) c.a_canonical_payload_is_read_back.ensures c.a_value_overflows_exactly_past_a_limit.ensures;
      written = record {
        one_owner = c.no_path_is_owned_by_two_members.ensures;
        root = c.a_database_of_sound_packages_may_be_the_root.ensures;
        sound = c.a_written_database_is_read_back.ensures.database;
        packages = c.a_written_database_is_read_back.ensures.packages;
      };
      worlds = c.worlds_are_read_back.ensures;
    }) command read files chosen clash done bytes ok off

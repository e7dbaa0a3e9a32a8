use Rattle.db_core.proofs.Root.{database_root}
use Rattle.db_core.proofs.laws.a_database_of_sound_packages_may_be_the_root.Goals as goal

pub returns : goal.returns
returns c = database_root c.a_value_overflows_exactly_past_a_limit.ensures c.no_text_is_bad_where_each_keeps_its_rule.ensures c.no_repeated_name_is_reported_if_there_is_none.ensures

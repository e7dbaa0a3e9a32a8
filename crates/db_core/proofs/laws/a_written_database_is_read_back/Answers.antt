use Rattle.db_core.proofs.ReadBack.{is_read_back, is_sound, is_sound_database}
use Rattle.db_core.proofs.laws.a_written_database_is_read_back.Goals as goal

pub returns-clause-database : goal.returns-clause-database
returns-clause-database c = is_sound_database c.a_file_is_spelled.ensures c.what_is_spelled_is_read.ensures c.a_container_of_a_good_value_is_sound.ensures

pub returns-clause-sound : goal.returns-clause-sound
returns-clause-sound c = is_sound c.a_container_of_a_good_value_is_sound.ensures

pub returns-clause-packages : goal.returns-clause-packages
returns-clause-packages c = is_read_back c.what_a_container_is_made_of_is_read_back.ensures.value

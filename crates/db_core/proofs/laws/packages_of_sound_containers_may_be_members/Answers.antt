use Rattle.db_core.proofs.SoundPackages.{may_come, may_be_kept}
use Rattle.db_core.proofs.laws.packages_of_sound_containers_may_be_members.Goals as goal

pub returns-clause-stays : goal.returns-clause-stays
returns-clause-stays c = may_be_kept c.sound_containers_hold_sound_values.ensures.value c.sound_containers_hold_sound_values.ensures.normal

pub returns-clause-comes : goal.returns-clause-comes
returns-clause-comes c = may_come c.sound_containers_hold_sound_values.ensures.value c.sound_containers_hold_sound_values.ensures.normal

use Rattle.make_core.proofs.InformationGood.{Needs}
use Rattle.make_core.proofs.SoundPackage.{Sizes, made_sound}
use Rattle.make_core.proofs.laws.a_made_package_is_sound.Goals as goal

pub returns : goal.returns
returns c =
    let sizes : Sizes = record { installed = c.the_installed_size_is_that_of_the_contents.ensures; container = c.contents_are_in_their_container.ensures.container } in
    let needs : Needs = record { spelled = c.read_texts_are_spelled.ensures; back = c.values_are_read_back.ensures } in
    made_sound c.a_package_of_a_good_value_and_its_contents_is_sound.ensures sizes c.a_value_overflows_exactly_past_a_limit.ensures needs
    c.the_first_pair_in_one_of_several_lists_is_reported.ensures

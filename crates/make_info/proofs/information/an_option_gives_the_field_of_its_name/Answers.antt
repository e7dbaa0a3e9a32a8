use Rattle.make_info.proofs.OptionFields.{option_field}
use Rattle.make_info.proofs.information.an_option_gives_the_field_of_its_name.Goals as goal

pub returns : goal.returns
returns c = option_field

use Rattle.words_core.proofs.Explained.{all_listed, common_explained, own_explained}
use Rattle.words_core.proofs.laws.help_explains_each_option.Goals as goal

pub returns-clause-own : goal.returns-clause-own
returns-clause-own _ applet = own_explained applet

pub returns-clause-common : goal.returns-clause-common
returns-clause-common _ = common_explained

pub returns-clause-listed : goal.returns-clause-listed
returns-clause-listed _ = all_listed

use Rattle.std.proofs.Common.{inl, refl}
use Rattle.base_core.proofs.OneList.{files_finite, files_named}
use Rattle.base_core.proofs.laws.the_files_of_a_well_formed_state_are_named_files.Goals as goal

pub returns-clause-named : goal.returns-clause-named
returns-clause-named c = files_named

pub returns-clause-read : goal.returns-clause-read
returns-clause-read c = λ v whole. files_named v whole v.names (inl refl)

pub returns-clause-finite : goal.returns-clause-finite
returns-clause-finite c = files_finite

use Rattle.pool_core.proofs.SamePackage.{either_way, front_is_same, never_without_id, same_id, same_name, same_text}
use Rattle.pool_core.proofs.laws.an_installed_package_is_known_by_text_and_id.Goals as goal

pub returns-clause-name : goal.returns-clause-name
returns-clause-name c = λ installed candidate h. same_name installed candidate h

pub returns-clause-text : goal.returns-clause-text
returns-clause-text c = λ installed candidate h. same_text installed candidate h

pub returns-clause-id : goal.returns-clause-id
returns-clause-id c = λ installed candidate h. same_id installed candidate h

pub returns-clause-empty : goal.returns-clause-empty
returns-clause-empty c = λ installed candidate none. never_without_id installed candidate none

pub returns-clause-either : goal.returns-clause-either
returns-clause-either c = λ a b. either_way a b

pub returns-clause-front : goal.returns-clause-front
returns-clause-front c = λ id rest h. front_is_same id rest h

use Rattle.make_core.proofs.EntryPlaces.{by_id, by_name, by_text, by_version}
use Rattle.make_core.proofs.indexes.index.entries_stand_by_name_version_and_id.Goals as goal

pub returns-clause-name : goal.returns-clause-name
returns-clause-name c = by_name

pub returns-clause-version : goal.returns-clause-version
returns-clause-version c = by_version

pub returns-clause-text : goal.returns-clause-text
returns-clause-text c = by_text

pub returns-clause-id : goal.returns-clause-id
returns-clause-id c = by_id

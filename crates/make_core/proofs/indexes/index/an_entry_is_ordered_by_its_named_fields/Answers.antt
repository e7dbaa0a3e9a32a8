use Rattle.make_core.proofs.EntryPlaces.{id_field, name_field, version_field}
use Rattle.make_core.proofs.indexes.index.an_entry_is_ordered_by_its_named_fields.Goals as goal

pub returns-clause-name : goal.returns-clause-name
returns-clause-name c = name_field

pub returns-clause-version : goal.returns-clause-version
returns-clause-version c = version_field

pub returns-clause-id : goal.returns-clause-id
returns-clause-id c = id_field

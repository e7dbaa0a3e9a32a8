use Rattle.v2_core.specs.Reading.{records_of}
use Rattle.v2_core.proofs.Payloads.{database_closed}
use Rattle.v2_core.proofs.read.write_database.Goals as goal

pub returns-clause-ok : goal.returns-clause-ok
returns-clause-ok c =
    database_closed (records_of c.args.bytes.now) c.args.draft.now _ _ _ _ _ c.in_ok-open_list.ensures.ok c.in_ok-open_list-2.ensures.ok c.in_ok-write_packages.ensures.ok c.in_ok-close_array.ensures.ok c.in_ok-close_object.ensures.ok

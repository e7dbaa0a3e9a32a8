use Rattle.std.proofs.Common.{Err, ap, subst, sym, ◌∙◌}
use Rattle.base_core.specs.Read.{bytes_in}
use Rattle.base_core.proofs.ReadAfter.{reading_as, reading_off}
use Rattle.command_core.specs.declared.command.Flags.{Flags}
use Rattle.change_inputs.proofs.Explained.{database_failed, database_given, database_refused}
use Rattle.change_inputs.specs.Answers.{Agrees}
use Rattle.change_inputs.specs.Database.{root_database}
use Rattle.change_inputs.specs.Seen.{database_seen, installed_seen}
use Rattle.change_inputs.proofs.Reading.{no_disk, reads_then_fault}
use Rattle.change_inputs.proofs.installed.Installed.read.Goals as goal

pub returns-in_err-found-clause-found : goal.returns-in_err-found-clause-found
returns-in_err-found-clause-found g c = database_failed installed_seen _ c.args.command.now c.from_residual.result _ c.from_residual.ensures.1 c.in_err-found.ensures.failed

pub returns-in_err-database-clause-found : goal.returns-in_err-database-clause-found
returns-in_err-database-clause-found g c =
    let file = bytes_in c.in_ok-found.found.0 in
    let text = bytes_in c.in_ok-found.found.1 in
    database_refused installed_seen database_seen _ c.args.command.now file text c.from_residual-in_err-database.result _ c.in_ok-found.ensures.database c.in_ok-found.ensures.text_database
    c.from_residual-in_err-database.ensures.1
    (subst (λ (flags : Flags). Agrees database_seen (Err c.in_err-database.field-0.0) (root_database flags.initdb file text)) c.flags-may_begin.ensures.value c.in_err-database.ensures)

pub returns-clause-found : goal.returns-clause-found
returns-clause-found g c =
    let file = bytes_in c.in_ok-found.found.0 in
    let text = bytes_in c.in_ok-found.found.1 in
    database_given _ c.args.command.now file text (database_seen c.in_ok-database.database) c.in_ok-found.ensures.database c.in_ok-found.ensures.text_database
    (ap (λ (flags : Flags). root_database flags.initdb file text) (sym c.flags-may_begin.ensures.value) ∙ c.in_ok-database.ensures)

pub returns-in_err-found-clause-tree : goal.returns-in_err-found-clause-tree
returns-in_err-found-clause-tree g c = reading_off _ _ _ _ _ _ c.from_residual.result c.from_residual.ensures.1 c.in_err-found.ensures.tree

pub returns-in_err-database-clause-tree : goal.returns-in_err-database-clause-tree
returns-in_err-database-clause-tree g c =
    reads_then_fault _ _ _ _ _ c.in_err-database.field-0.0 c.from_residual-in_err-database.result (no_disk database_seen _ c.in_err-database.field-0.0 c.in_err-database.ensures) c.from_residual-in_err-database.ensures.1 c.in_ok-found.ensures.tree

pub returns-clause-tree : goal.returns-clause-tree
returns-clause-tree g c = reading_as _ _ _ _ _ _ _ c.in_ok-found.ensures.tree

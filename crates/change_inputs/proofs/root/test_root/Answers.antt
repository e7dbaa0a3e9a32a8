use Rattle.std.proofs.Common.{◌≡◌, ℕ, List, Option, Ok, Err, sym}
use Rattle.base_core.specs.Read.{bytes_in}
use Rattle.command_core.specs.Command.{CommandLine}
use Rattle.dep_core.specs.Dependency.{Dependency}
use Rattle.dep_core.specs.Repositories.{Repository}
use Rattle.change_inputs.proofs.Handed.{handed_on, refused_part}
use Rattle.change_inputs.specs.Answers.{Agrees}
use Rattle.change_inputs.specs.Database.{Database, root_database}
use Rattle.change_inputs.specs.Inputs.{root_from_databases_world_repositories}
use Rattle.change_inputs.specs.Repositories.{root_repositories}
use Rattle.change_inputs.specs.Seen.{database_seen, root_seen}
use Rattle.change_inputs.specs.World.{new_world, root_world, found_text_or_empty}
use Rattle.change_inputs.specs.declared.root.Refused.{Refused}
use Rattle.change_inputs.specs.declared.world.Worlds.{Worlds}
use Rattle.change_inputs.proofs.root.test_root.Goals as goal

repositories_refused : (command : CommandLine) (file text world_file repositories_file : Option (List ℕ)) (database : Database) (world : List Dependency) (fault : Refused)
    → root_database command.flags.initdb file text ≡ Ok database → root_world (found_text_or_empty world_file) ≡ Ok world
    → Agrees (λ (repositories : List Repository). repositories) (Err fault) (root_repositories command.flags.allow_untrusted (found_text_or_empty repositories_file))
    → Agrees root_seen (Err fault) (root_from_databases_world_repositories command file text world_file repositories_file)
repositories_refused command file text world_file repositories_file database world fault d w h =
    rw d (rw w (refused_part (λ (repositories : List Repository). repositories) root_seen _ fault _ h))

database_refused : (command : CommandLine) (file text world_file repositories_file : Option (List ℕ)) (fault : Refused)
    → Agrees database_seen (Err fault) (root_database command.flags.initdb file text)
    → Agrees root_seen (Err fault) (root_from_databases_world_repositories command file text world_file repositories_file)
database_refused command file text world_file repositories_file fault h = refused_part database_seen root_seen _ fault _ h

worlds_refused : (command : CommandLine) (file text world_file repositories_file : Option (List ℕ)) (database : Database) (fault : Refused)
    → root_database command.flags.initdb file text ≡ Ok database
    → Agrees (λ (worlds : Worlds). worlds.before) (Err fault) (root_world (found_text_or_empty world_file))
    → Agrees root_seen (Err fault) (root_from_databases_world_repositories command file text world_file repositories_file)
worlds_refused command file text world_file repositories_file database fault d h =
    rw d (refused_part (λ (worlds : Worlds). worlds.before) root_seen _ fault _ h)

root_made : (command : CommandLine) (file text world_file repositories_file : Option (List ℕ)) (database : Database) (world after : List Dependency) (world_text : List ℕ) (repositories : List Repository)
    → root_database command.flags.initdb file text ≡ Ok database → root_world (found_text_or_empty world_file) ≡ Ok world
    → root_repositories command.flags.allow_untrusted (found_text_or_empty repositories_file) ≡ Ok repositories
    → world_text ≡ found_text_or_empty world_file → after ≡ new_world command.applet command.operands world
    → root_from_databases_world_repositories command file text world_file repositories_file
    ≡ Ok (record { database = database; world_text = world_text; world = world; new_world = after; repositories = repositories })
root_made command file text world_file repositories_file database world after world_text repositories d w r t n =
    rw d (rw w (rw r (λ i. Ok (record { database = database; world_text = sym t i; world = world; new_world = sym n i; repositories = repositories }))))

pub returns-in_err-repositories : goal.returns-in_err-repositories
returns-in_err-repositories c =
    let same = c.flags-flags.ensures.value in
    handed_on root_seen _ c.from_residual-in_err-repositories.result _ c.from_residual-in_err-repositories.ensures.1
    (repositories_refused c.args.command.now _ _ (bytes_in c.args.files.world) (bytes_in c.args.files.repositories) _ _ _ (rw same at c.in_ok-database.ensures) c.in_ok-worlds.ensures.read (rw same at c.in_err-repositories.ensures))

pub returns-in_err-database : goal.returns-in_err-database
returns-in_err-database c =
    let files = c.args.files in
    handed_on root_seen _ c.from_residual.result _ c.from_residual.ensures.1
    (database_refused c.args.command.now _ _ (bytes_in files.world) (bytes_in files.repositories) _ (rw c.flags-flags.ensures.value at c.in_err-database.ensures))

pub returns-in_err-worlds : goal.returns-in_err-worlds
returns-in_err-worlds c =
    let files = c.args.files in
    handed_on root_seen _ c.from_residual-in_err-worlds.result _ c.from_residual-in_err-worlds.ensures.1
    (worlds_refused c.args.command.now _ _ (bytes_in files.world) (bytes_in files.repositories) _ _ (rw c.flags-flags.ensures.value at c.in_ok-database.ensures) c.in_err-worlds.ensures.read)

pub returns : goal.returns
returns c =
    let same = c.flags-flags.ensures.value in
    let files = c.args.files in
    let worlds = c.in_ok-worlds.ensures in
    root_made c.args.command.now _ _ (bytes_in files.world) (bytes_in files.repositories) _ _ _ _ _ (rw same at c.in_ok-database.ensures) worlds.read (rw same at c.in_ok-repositories.ensures) worlds.text worlds.after

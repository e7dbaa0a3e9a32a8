-- When a fault of `World::read` or `Repos::read` is right for the text. The rules are in `docs/formats.md`, "World" and
-- "Repositories": the first bad line is reported.
use Rattle.std.specs.Prelude.{◌≡◌, ℕ, List, Result, Err}
use Rattle.dep_core.specs.declared.world.WorldFault.{WorldFault}
use Rattle.dep_core.specs.declared.world.WorldFault.TheVariants.{Bad as BadWorld, Memory as WorldMemory}
use Rattle.dep_core.specs.declared.repos.ReposFault.{ReposFault}
use Rattle.dep_core.specs.declared.repos.ReposFault.TheVariants.{Bad as BadRepos, Memory as ReposMemory}
use Rattle.dep_core.specs.Dependency.{Dependency}
use Rattle.dep_core.specs.Repositories.{Repository}

-- the fault is right, where `read` is the result of *world_of*: a bad line is the one that the definition gives;
-- running out of memory is always allowed
abbrev pub IsWorldFault : WorldFault → Result (List Dependency) ℕ → Type 0
IsWorldFault (BadWorld line) read = read ≡ Err line
IsWorldFault WorldMemory read = Unit {0}

-- the fault is right, where `read` is the result of *repositories_of*: a bad line is the one that the definition gives;
-- running out of memory is always allowed
abbrev pub IsReposFault : ReposFault → Result (List Repository) ℕ → Type 0
IsReposFault (BadRepos line) read = read ≡ Err line
IsReposFault ReposMemory read = Unit {0}

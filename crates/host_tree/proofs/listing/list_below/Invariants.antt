use Rattle.std.proofs.Common.{All}
use Rattle.base_core.specs.Files.{IsFolderOf}
use Rattle.host_tree.proofs.listing.list_below.Given as goal

-- the files so far are below the folder
abbrev pub invariant-loop : goal.invariant-loop
invariant-loop g l = All (IsFolderOf l.folder) l.walk.files.items

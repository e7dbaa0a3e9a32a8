use Rattle.std.proofs.Common.{◌≡◌, [], map, replicate}
use Rattle.package_files.specs.BorrowedNames.{names_borrowed}
use Rattle.package_files.proofs.folders.empty_lists.Given as goal

abbrev pub invariant-loop : goal.invariant-loop
invariant-loop l = map names_borrowed l.lists.items ≡ replicate l.counter []

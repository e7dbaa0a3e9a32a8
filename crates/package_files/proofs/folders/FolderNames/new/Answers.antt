use Rattle.std.proofs.Common.{[]}
use Rattle.std.specs.Ordering.{nat_cmp}
use Rattle.std.specs.Cmp.Lexicographic.{slice_cmp}
use Rattle.std.specs.List.Sorted.{IsStrictlySortedBy}
use Rattle.package_files.proofs.folders.FolderNames.new.Goals as goal

none_sorted : IsStrictlySortedBy (slice_cmp nat_cmp) []
unfolding IsStrictlySortedBy
none_sorted = tt

pub invariant_of-result : goal.invariant_of-result
invariant_of-result c = rw c.new.ensures.items none_sorted

use Rattle.std.proofs.Common.{List, ℕ, ap, nat_cmp, rules}
use Rattle.std.specs.Cmp.Lexicographic.{slice_cmp}
use Rattle.std.specs.Ordering.{is_lt}
use Rattle.std.proofs.lemmas.Cmp.{nat_list_cmp_total}
use Rattle.std.proofs.lemmas.List.Sorted.{All-permutation, answers_always, ranks_by}
use Rattle.base_core.specs.Files.{IsFolderOf}
use Rattle.host_tree.proofs.NamesInOrder.{below_each}
use Rattle.host_tree.proofs.listing.Walk.into_names.Goals as goal

pub each_once-requires : goal.each_once-requires
each_once-requires c =
    c.in_ok-sort_by.ensures.sorted (λ (a b : List ℕ). is_lt (slice_cmp nat_cmp a b)) (ranks_by nat_list_cmp_total (λ (name : List ℕ). name)) (answers_always _ _ _ (λ f a r q k. ap is_lt (search rules)))

pub returns : goal.returns
returns c = λ root below.
    below_each root c.sort_by.new.self.items c.in_ok-names.names
    (All-permutation (IsFolderOf root) c.args.self.files.items c.sort_by.new.self.items c.in_ok-sort_by.ensures.permutation below)
    c.in_ok-names.ensures.rising c.in_ok-names.ensures.each c.are_names.ensures

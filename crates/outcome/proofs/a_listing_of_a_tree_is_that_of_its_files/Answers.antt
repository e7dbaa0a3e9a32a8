use Rattle.outcome.proofs.Listings.{listing_of_files}
use Rattle.outcome.proofs.a_listing_of_a_tree_is_that_of_its_files.Goals as goal

pub returns : goal.returns
returns c = listing_of_files

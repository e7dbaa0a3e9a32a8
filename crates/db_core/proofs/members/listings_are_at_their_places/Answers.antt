use Rattle.db_core.proofs.ListingPlaces.{stands_at}
use Rattle.db_core.proofs.members.listings_are_at_their_places.Goals as goal

pub returns : goal.returns
returns c = stands_at

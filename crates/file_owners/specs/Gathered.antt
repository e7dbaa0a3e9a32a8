-- Lists of claims to which the claims of listed files are added.
-- No document has a rule for this: it serves the contracts of `src/gather.rt`, which adds one file
-- after the other.
use Rattle.std.specs.Prelude.{List, [], ◌∷◌, ◌++◌, length}
use Rattle.db_core.specs.Members.{Listing}
use Rattle.path_claims.specs.Claims.{PathClaim}
use Rattle.file_owners.specs.Owners.{indexed_claim_of_listing}

-- the claims, followed by the claims of the listings; the number of each added claim is how many claims are before it
abbrev pub claims_with_listings : List PathClaim → List Listing → List PathClaim
claims_with_listings claims [] = claims
claims_with_listings claims (l ∷ listings) =
    claims_with_listings (claims ++ (indexed_claim_of_listing (length claims) l ∷ [])) listings

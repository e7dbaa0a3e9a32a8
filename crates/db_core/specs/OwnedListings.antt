-- The files that members own.
-- The rule is in `docs/formats.md`, "The database after a change": "of its files those that the
-- package owns".
use Rattle.std.specs.Prelude.{◌≡◌, ℕ, Bool, true, false, List, [], ◌∷◌, map}
use Rattle.pkg_core.specs.adb_fields.FirstPair.{IsIn}
use Rattle.db_core.specs.Members.{Listing, Member, listings_of_members}

-- the listings whose flag is set, by one flag for each; a listing without a flag is left out
abbrev pub owned_listings : List Listing → List Bool → List Listing
owned_listings [] flags = []
owned_listings (l ∷ listings) [] = []
owned_listings (l ∷ listings) (true ∷ flags) = l ∷ owned_listings listings flags
owned_listings (l ∷ listings) (false ∷ flags) = owned_listings listings flags

-- the paths of the files that members list and own, member by member, folder by folder; `flags` has one flag for
-- each listed file, which is set if the member owns the file
abbrev pub owned_paths : List Member → List Bool → List (List ℕ)
owned_paths members flags = map (λ l. l.path) (owned_listings (listings_of_members members) flags)

-- no two different members have a file with the same path among these listings
abbrev pub HaveAtMostOneOwnerForEachPath : List Listing → Type 0
HaveAtMostOneOwnerForEachPath listings =
    (l k : Listing) → IsIn l listings → IsIn k listings → l.path ≡ k.path → l.place ≡ k.place

-- The files of a package that stays are added.
use Rattle.std.proofs.Common.{◌≡◌, ℕ, List, map, Option, Some, None, ◌∙◌, ap, sym}
use Rattle.std.specs.Prelude.{option_map, slice_get, IfOk, Result, Ok, Err}
use Rattle.std.proofs.lemmas.Option.{slice_get-map}
use Rattle.adb_view.specs.Plain.{Plain}
use Rattle.path_claims.specs.adb_fields.Repeated.{list_of}
use Rattle.adb_view.specs.Values.{entries_in, entry_at_index}
use Rattle.db_core.specs.Members.{Member, listings_of_member, listings_in_folders_from, member_of_kept}
use Rattle.path_claims.specs.Claims.{PathClaim}
use Rattle.file_owners.specs.Gathered.{claims_with_listings}

member_or : Member → Option Member → Member
member_or d None = d
member_or d (Some m) = m

is_staying : (packages : List Plain) (i : ℕ) (pkg : Plain) (m : Member) → slice_get packages i ≡ Some pkg → slice_get (map member_of_kept packages) i ≡ Some m → member_of_kept pkg ≡ m
unfolding member_or
is_staying packages i pkg m at g = ap (member_or m) (sym (ap (option_map member_of_kept) at) ∙ (sym (slice_get-map member_of_kept packages i) ∙ g))

pub if_added : {A E : Type 0} (r : Result A E) (old new : List PathClaim) (packages : List Plain) (i : ℕ) (pkg folders : Plain)
    → slice_get packages i ≡ Some pkg → folders ≡ entry_at_index pkg 1
    → IfOk r (λ _. (m : Member) → new ≡ claims_with_listings old (listings_in_folders_from m i 1 (list_of (entries_in folders))))
    → IfOk r (λ _. (m : Member) → slice_get (map member_of_kept packages) i ≡ Some m → new ≡ claims_with_listings old (listings_of_member i m))
if_added (Err e) old new packages i pkg folders at paths h = h
if_added (Ok x) old new packages i pkg folders at paths h = λ m g.
    let is : member_of_kept pkg ≡ m = is_staying packages i pkg m at g in
    h m ∙ (λ j. claims_with_listings old (listings_in_folders_from m i 1 (list_of (entries_in ((paths ∙ ap (λ (k : Member). entry_at_index k.pkg 1) is) j)))))

use Rattle.std.proofs.Common.{◌≡◌, ◌<◌, ◌∙◌, ℕ, List, Some, ap, sym, subst, length}
use Rattle.std.specs.Prelude.{slice_get, option_map}
use Rattle.std.proofs.lemmas.List.{length-map}
use Rattle.std.proofs.lemmas.Option.{slice_get-map, slice_get_within}
use Rattle.adb_view.specs.Plain.{Plain}
use Rattle.file_guard.specs.adb_schema.Views.{package_value}
use Rattle.file_owners.specs.db_core.Members.{Member, member_of_kept, members_of_kept}
use Rattle.file_owners.specs.db_core.Seen.{packages_of}
use Rattle.file_guard.specs.Listed.{DescribesEntry}
use Rattle.own_core.specs.ClaimEntries.{HasFileAt, claim_entry, folders_if_any, listed_file_at}
use Rattle.own_core.proofs.entries.listed_before.Goals as goal

-- an index of a kept member is that of a package
kept_within : (packages : List Plain) (i : ℕ) (m : Member) → slice_get (members_of_kept packages) i ≡ Some m → i < length packages
kept_within packages i m at = subst (λ (n : ℕ). i < n) (length-map packages member_of_kept) (slice_get_within (members_of_kept packages) i m at)

-- the kept member at the index of a package has this package
kept_at : (packages : List Plain) (i : ℕ) (pkg : Plain) → slice_get packages i ≡ Some pkg → slice_get (members_of_kept packages) i ≡ Some (member_of_kept pkg)
kept_at packages i pkg at = slice_get-map member_of_kept packages i ∙ ap (option_map member_of_kept) at

pub package-pkg-requires : goal.package-pkg-requires
package-pkg-requires c = kept_within (packages_of c.args.db.now) c.args.claim.now.member c.requires.member c.requires.at

pub listed_in-requires : goal.listed_in-requires
listed_in-requires c =
    let at : slice_get (members_of_kept (packages_of c.args.db.now)) c.args.claim.now.member ≡ Some (member_of_kept (package_value c.package-pkg.result)) =
    kept_at (packages_of c.args.db.now) c.args.claim.now.member (package_value c.package-pkg.result) c.package-pkg.ensures in
    subst (λ (folders : Plain). HasFileAt folders c.args.claim.now.folder c.args.claim.now.file) (ap folders_if_any (sym c.requires.at ∙ at)) c.requires.place

pub returns : goal.returns
unfolding claim_entry
returns c =
    let at : slice_get (members_of_kept (packages_of c.args.db.now)) c.args.claim.now.member ≡ Some (member_of_kept (package_value c.package-pkg.result)) =
    kept_at (packages_of c.args.db.now) c.args.claim.now.member (package_value c.package-pkg.result) c.package-pkg.ensures in
    subst (λ (folders : Plain). DescribesEntry c.listed_in.result (listed_file_at folders c.args.claim.now.folder c.args.claim.now.file)) (sym (ap folders_if_any at)) c.listed_in.ensures

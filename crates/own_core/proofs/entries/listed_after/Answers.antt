use Rattle.std.proofs.Common.{Option, subst, sym}
use Rattle.std.proofs.lemmas.Option.{slice_get_within}
use Rattle.adb_view.specs.FieldIndexes.{PACKAGE_PATHS_INDEX}
use Rattle.adb_view.specs.Plain.{Plain}
use Rattle.adb_view.specs.Values.{entry_at_index}
use Rattle.file_owners.specs.db_core.Members.{Member}
use Rattle.file_owners.specs.db_core.Seen.{members_of}
use Rattle.file_guard.specs.Listed.{DescribesEntry}
use Rattle.own_core.specs.ClaimEntries.{HasFileAt, claim_entry, folders_if_any, listed_file_at}
use Rattle.own_core.proofs.entries.listed_after.Goals as goal

pub view-requires : goal.view-requires
view-requires c = slice_get_within (members_of c.args.members.now) c.args.claim.now.member c.requires.member c.requires.at

pub listed_in-requires : goal.listed_in-requires
listed_in-requires c =
    subst (λ (pkg : Plain). HasFileAt (entry_at_index pkg PACKAGE_PATHS_INDEX) c.args.claim.now.folder c.args.claim.now.file) (sym (c.view.ensures.value c.requires.member c.requires.at)) c.requires.place

pub returns : goal.returns
unfolding claim_entry
returns c =
    subst (λ (m : Option Member). DescribesEntry c.listed_in.result (listed_file_at (folders_if_any m) c.args.claim.now.folder c.args.claim.now.file)) (sym c.requires.at)
    (subst (λ (pkg : Plain). DescribesEntry c.listed_in.result (listed_file_at (entry_at_index pkg PACKAGE_PATHS_INDEX) c.args.claim.now.folder c.args.claim.now.file)) (c.view.ensures.value c.requires.member c.requires.at) c.listed_in.ensures)

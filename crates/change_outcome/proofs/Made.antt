-- What is known of a change that nothing refuses.
use Rattle.std.proofs.Common.{◌≡◌, ◌∙◌, ℕ, false, List, Option, Some, None, Result, Ok, Err, refl, sym, ap, subst}
use Rattle.db_core.specs.adb_write.Canonical.{ByteAndValueCounts, counts_at_first_overflow}
use Rattle.base_core.specs.Files.{Files, HasOnlyNamesAmong}
use Rattle.package_changes.specs.own_core.FileChange.{FileChange}
use Rattle.package_changes.specs.own_core.NamesAfter.{name_change}
use Rattle.package_changes.specs.own_core.PlanLists.{first_reserved_added_path_in_byte_order}
use Rattle.change_inputs.specs.Chains.{and_then}
use Rattle.change_inputs.specs.Inputs.{Inputs}
use Rattle.change_outcome.specs.ChangeOutcome.{ChangeDone, ChangeWishes, IsFirstClashUnlessMembersRefused, IsFirstClashOfChange, intent_of_change, change_done, members_after_change, change_or_refusal, change_with_members, packages_before_and_after_with_purge, database_and_world_after_change, touched_paths, unless_clash, unless_contested, or_result_too_large, unless_overflow, unless_reserved_path, change_done_unless_over_writer_limits}
use Rattle.change_outcome.specs.MembersAfter.{MemberFound}
use Rattle.change_outcome.specs.Triggers.{unless_trigger_due}
use Rattle.db_core.specs.Members.{Member}
use Rattle.db_core.specs.NewDatabase.{database_of}
use Rattle.package_changes.specs.file_owners.Owners.{first_contested_member_path_in_byte_order, owned_flags_of}
use Rattle.journal_core.specs.Staged.{HasEmptyStageAndFreeJournalPaths}
use Rattle.journal_core.specs.journal_intent.Intent.{intent_name}
use Rattle.journal_core.specs.journal_intent.IntentValue.{value_of_intent}
use Rattle.change_inputs.specs.make_info.Reads.{Reads}
use Rattle.package_changes.specs.Changes.{Replacement}
use Rattle.package_changes.specs.path_claims.Claims.{ContestedPath}
use Rattle.package_changes.specs.path_clashes.Clash.{HasNoClash, NamePair}
use Rattle.package_changes.specs.path_clashes.FirstClash.{IsFirstClashOrNone}
use Rattle.package_changes.proofs.path_clashes.OneFirst.{one_first}
use Rattle.report_core.specs.declared.refusal.Refusal.{Refusal}
use Rattle.change_outcome.specs.Made.{IsChangeMade}
use Rattle.change_outcome.specs.Premises.{AreDatabaseAndWorldReadFromFiles}
use Rattle.change_outcome.proofs.ChangeLeads.{does_nothing}
use Rattle.change_outcome.proofs.ClashExists.{clash_exists}
use Rattle.change_outcome.proofs.Room.{no_intent, room}

-- ---- values that are not refused

pub and_then_ok : {A B : Type 0} (a : Result A Refusal) (next : A → Result B Refusal) (b : B) → and_then a next ≡ Ok b → (x : A) × (a ≡ Ok x) × (next x ≡ Ok b)
and_then_ok (Ok x) next b e = (x, refl, e)
and_then_ok (Err refusal) next b e = absurd (cc (e))

unreserved_ok : {A : Type 0} (o : Option (List ℕ)) (next : Result A Refusal) (a : A) → unless_reserved_path o next ≡ Ok a → (o ≡ None) × (next ≡ Ok a)
unreserved_ok None next a e = (refl, e)
unreserved_ok (Some path) next a e = absurd (cc (e))

no_clash_ok : {A : Type 0} (o : Option NamePair) (next : Result A Refusal) (a : A) → unless_clash o next ≡ Ok a → (o ≡ None) × (next ≡ Ok a)
no_clash_ok None next a e = (refl, e)
no_clash_ok (Some pair) next a e = absurd (cc (e))

uncontested_ok : {A : Type 0} (members : List Member) (o : Option ContestedPath) (next : Result A Refusal) (a : A) → unless_contested members o next ≡ Ok a → (o ≡ None) × (next ≡ Ok a)
uncontested_ok members None next a e = (refl, e)
uncontested_ok members (Some c) next a e = absurd (cc (e))

large_ok : {A : Type 0} (r : Result A ByteAndValueCounts) (a : A) → or_result_too_large r ≡ Ok a → r ≡ Ok a
large_ok (Ok x) a e = let same : x ≡ a = cc in ap (λ y. Ok y) same
large_ok (Err counts) a e = absurd (cc (e))

overflow_ok : {A : Type 0} (o : Option ByteAndValueCounts) (x a : A) → unless_overflow o x ≡ Ok a → (o ≡ None) × (x ≡ a)
overflow_ok None x a e = (refl, cc (e))
overflow_ok (Some counts) x a e = absurd (cc (e))

module _ (inputs : Inputs) (r : Replacement) (wishes : ChangeWishes) (read : Reads) (clash : Option NamePair) (files : Files) (done : ChangeDone) where
  with_found : (found : List MemberFound) → members_after_change inputs r wishes read ≡ Ok found → change_with_members inputs r wishes clash files found ≡ Ok done → IsChangeMade inputs r wishes read clash files done
  with_found found are e =
      let change : FileChange = packages_before_and_after_with_purge inputs wishes found in
      let reserved = unreserved_ok (first_reserved_added_path_in_byte_order change.members) (unless_clash clash (unless_contested change.members (first_contested_member_path_in_byte_order change.members)
      (and_then (unless_trigger_due wishes.no_scripts (touched_paths change files) change.members) (λ is_allowed. change_done_unless_over_writer_limits inputs r wishes found files)))) done e in
      let clashes = no_clash_ok clash (unless_contested change.members (first_contested_member_path_in_byte_order change.members)
      (and_then (unless_trigger_due wishes.no_scripts (touched_paths change files) change.members) (λ is_allowed. change_done_unless_over_writer_limits inputs r wishes found files))) done reserved.1 in
      let contested = uncontested_ok change.members (first_contested_member_path_in_byte_order change.members)
      (and_then (unless_trigger_due wishes.no_scripts (touched_paths change files) change.members) (λ is_allowed. change_done_unless_over_writer_limits inputs r wishes found files)) done clashes.1 in
      let triggers = and_then_ok (unless_trigger_due wishes.no_scripts (touched_paths change files) change.members) (λ is_allowed. change_done_unless_over_writer_limits inputs r wishes found files) done contested.1 in
      let large = and_then_ok (or_result_too_large (database_of change.members (owned_flags_of change.members))) (λ database.
      unless_overflow (counts_at_first_overflow (value_of_intent (intent_of_change inputs change files (database_and_world_after_change inputs database))))
      (change_done inputs r wishes found files (database_and_world_after_change inputs database))) done triggers.2 in
      let over = overflow_ok (counts_at_first_overflow (value_of_intent (intent_of_change inputs change files (database_and_world_after_change inputs large.0))))
      (change_done inputs r wishes found files (database_and_world_after_change inputs large.0)) done large.2 in
      record {
        found = found;
        members = are;
        unreserved = reserved.0;
        no_clash = clashes.0;
        uncontested = contested.0;
        database = large.0;
        new_database = large_ok (database_of change.members (owned_flags_of change.members)) large.0 large.1;
        fits = over.0;
        is = sym over.1;
      }

  pub made : change_or_refusal inputs r wishes read clash files ≡ Ok done → IsChangeMade inputs r wishes read clash files done
  unfolding change_or_refusal
  made e =
      let found = and_then_ok (members_after_change inputs r wishes read) (change_with_members inputs r wishes clash files) done e in
      with_found found.0 found.1 found.2

  pub leaves_files : IsChangeMade inputs r wishes read clash files done → AreDatabaseAndWorldReadFromFiles files inputs.root → done.commits ≡ false → done.files ≡ files
  leaves_files m root nothing =
      ap (λ (d : ChangeDone). d.files) m.is
      ∙ does_nothing inputs (packages_before_and_after_with_purge inputs wishes m.found) _ m.database files root (sym (ap (λ (d : ChangeDone). d.commits) m.is) ∙ nothing)

  no_clash_found : (m : IsChangeMade inputs r wishes read clash files done) → IsFirstClashOfChange inputs r wishes read files clash → HasNoClash (name_change (packages_before_and_after_with_purge inputs wishes m.found) files) files
  no_clash_found m clashes =
      let at : IsFirstClashUnlessMembersRefused inputs wishes files (Ok m.found) clash = subst (λ (x : Result (List MemberFound) Refusal). IsFirstClashUnlessMembersRefused inputs wishes files x clash) m.members clashes in
      subst (λ (o : Option NamePair). IsFirstClashOrNone (name_change (packages_before_and_after_with_purge inputs wishes m.found) files) files o) m.no_clash at

  pub keeps_room : IsChangeMade inputs r wishes read clash files done → IsFirstClashOfChange inputs r wishes read files clash → HasEmptyStageAndFreeJournalPaths files → HasEmptyStageAndFreeJournalPaths done.files
  keeps_room m clashes stage =
      subst (λ (d : ChangeDone). HasEmptyStageAndFreeJournalPaths d.files) (sym m.is)
      (room (packages_before_and_after_with_purge inputs wishes m.found) _ (database_and_world_after_change inputs m.database) files m.unreserved stage (no_clash_found m clashes))

  pub brings_no_intent : IsChangeMade inputs r wishes read clash files done → files intent_name ≡ None → done.files intent_name ≡ None
  brings_no_intent m absent =
      ap (λ (d : ChangeDone). d.files intent_name) m.is
      ∙ no_intent (packages_before_and_after_with_purge inputs wishes m.found) _ (database_and_world_after_change inputs m.database) files m.unreserved absent

-- ---- the first clash

found_once : (inputs : Inputs) (wishes : ChangeWishes) (files : Files) (members : Result (List MemberFound) Refusal) (a b : Option NamePair) → IsFirstClashUnlessMembersRefused inputs wishes files members a → IsFirstClashUnlessMembersRefused inputs wishes files members b → a ≡ b
found_once inputs wishes files (Ok found) a b one other = one_first (name_change (packages_before_and_after_with_purge inputs wishes found) files) files a b one other
found_once inputs wishes files (Err refusal) a b one other = one ∙ sym other

pub clash_once : (inputs : Inputs) (r : Replacement) (wishes : ChangeWishes) (read : Reads) (files : Files) (a b : Option NamePair)
    → IsFirstClashOfChange inputs r wishes read files a → IsFirstClashOfChange inputs r wishes read files b → a ≡ b
clash_once inputs r wishes read files a b one other = found_once inputs wishes files (members_after_change inputs r wishes read) a b one other

clash_of_found : (inputs : Inputs) (wishes : ChangeWishes) (within : List (List ℕ)) (files : Files) → HasOnlyNamesAmong within files → (members : Result (List MemberFound) Refusal) → (clash : Option NamePair) × IsFirstClashUnlessMembersRefused inputs wishes files members clash
clash_of_found inputs wishes within files finite (Ok found) = clash_exists (packages_before_and_after_with_purge inputs wishes found) files within finite
clash_of_found inputs wishes within files finite (Err refusal) = (None, refl)

pub a_clash_found : (inputs : Inputs) (r : Replacement) (wishes : ChangeWishes) (read : Reads) (within : List (List ℕ)) (files : Files) → HasOnlyNamesAmong within files
    → (clash : Option NamePair) × IsFirstClashOfChange inputs r wishes read files clash
a_clash_found inputs r wishes read within files finite = clash_of_found inputs wishes within files finite (members_after_change inputs r wishes read)

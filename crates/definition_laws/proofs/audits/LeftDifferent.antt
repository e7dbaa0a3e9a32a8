-- What differs after a command is what its change left so.
use Rattle.std.proofs.Common.{◌≡◌, inl, inr, ◌∙◌, ◌↔◌, ℕ, suc, Bool, true, false, List, [], ◌∷◌, Contains, Option, Some, None, Result, Ok, refl, ap, sym, subst, true≢false}
use Rattle.std.specs.Prelude.{slice_get, if◌then◌else◌}
use Rattle.make_core.specs.adb_copy.Zeros.{without_zeros}
use Rattle.audit_core.specs.adb_fields.FirstPair.{IsIn}
use Rattle.audit_core.specs.adb_fields.Repeated.{entries_of_field_at_index}
use Rattle.make_core.specs.adb_schema.Reserved.{is_reserved}
use Rattle.make_core.specs.adb_schema.SoundContainers.{IsSoundContainerExceptContents, IsSoundValue}
use Rattle.make_core.specs.adb_schema.Soundness.{container_fault_except_contents, payload_in, root_value_of_payload}
use Rattle.make_core.specs.adb_schema.Texts.{is_file_with_contents}
use Rattle.adb_view.specs.FieldIndexes.{IDB_PACKAGES_INDEX}
use Rattle.adb_view.specs.Plain.{Plain}
use Rattle.adb_view.specs.declared.tables.Which.{Which}
use Rattle.adb_view.specs.declared.tables.Which.TheVariants.{Idb}
use Rattle.audit_core.specs.Audit.{FileDifference}
use Rattle.audit_core.specs.Differences.{IsDifferenceIn, DiffersFromEntry, file_differences}
use Rattle.base_core.specs.Files.{Files}
use Rattle.base_core.specs.declared.cause.Cause.{Cause}
use Rattle.engine_core.specs.own_core.FileChange.{FileChange, added_owner_listing, if_member_added, owner_listing}
use Rattle.engine_core.specs.own_core.FilesAfter.{DatabaseAndWorldAfter, files_after_change, listing_bytes}
use Rattle.engine_core.specs.own_core.Touched.{is_old_or_new_database_or_world_name}
use Rattle.engine_core.proofs.own_core.Lists.{IsOneOf, contains_from_one}
use Rattle.engine_core.proofs.own_core.OwnedFiles.{coming_is}
use Rattle.engine_core.proofs.own_core.RecordNames.{database_after}
use Rattle.engine_core.specs.change_inputs.Chains.{and_then, unless_cause}
use Rattle.engine_core.specs.change_inputs.Database.{Database, container_database, database_of_packages_file_and_is_text, root_database}
use Rattle.engine_core.specs.change_outcome.ChangeOutcome.{ChangeDone, ChangeWishes, change_or_refusal, packages_before_and_after_with_purge, database_and_world_after_change}
use Rattle.engine_core.specs.change_outcome.Made.{IsChangeMade}
use Rattle.engine_core.specs.change_outcome.MembersAfter.{MemberFound, found_package_contents, found_members}
use Rattle.command_core.specs.Command.{CommandLine}
use Rattle.audit_core.specs.db_core.ListedAt.{IsListedAt}
use Rattle.audit_core.specs.db_core.Members.{Listing, Member, is_added, listings_of_members}
use Rattle.engine_core.specs.change_inputs.Inputs.{Inputs}
use Rattle.engine_core.specs.Changed.{InputsAndReplacement, change_of_command, change_of_selected, simulated_change}
use Rattle.engine_core.specs.Wishes.{wishes_of}
use Rattle.audit_core.specs.file_guard.AsListed.{has_target, is_as_listed}
use Rattle.make_core.specs.make_info.Reads.{Reads}
use Rattle.engine_core.specs.package_changes.Changes.{Replacement}
use Rattle.audit_core.specs.path_clashes.Clash.{NamePair}
use Rattle.make_core.specs.pkg_core.Contents.{Contents, expected_files_of_package}
use Rattle.make_core.specs.pkg_core.GoodContents.{MatchEachExpectedSizeAndKnownDigest, HaveValidDigestLengths}
use Rattle.make_core.proofs.pkg_core.Digests.{HasFirstValue}
use Rattle.report_core.specs.declared.refusal.Refusal.{Refusal}
use Rattle.report_core.specs.declared.refusal.Refusal.TheVariants.{DatabaseBad}
use Rattle.definition_laws.specs.roots.RootLeft.{LaterCommandsFindMembersAndNewWorld}
use Rattle.root_names.specs.RootNames.{database_name, text_database_name}
use Rattle.definition_laws.specs.audits.AfterChange.{ExplainsDifference, IsEmptyFileWithOtherDigest, IsDifferenceExplainedByFilesBeforeChange, old_and_new_packages_of_change_left, contents_of_added_packages_left, packages_left}
use Rattle.definition_laws.proofs.audits.AfterFiles.{by_left, left_by, stays_so}
use Rattle.definition_laws.proofs.audits.AfterRecords.{WrittenLaws, owner_free, owner_record, record_of_owner, zeros_alike}
use Rattle.definition_laws.proofs.audits.FoundContents.{contents_listed}

-- what the laws of the crates below say
pub record Laws : Type 0 where
  pub values : (which : Which) (file : List ℕ) → IsSoundContainerExceptContents which file → IsSoundValue which (root_value_of_payload which (payload_in file))
  pub reserved : (records : DatabaseAndWorldAfter) (name : List ℕ) → is_old_or_new_database_or_world_name records name ≡ true → is_reserved name ≡ true
  pub made : (inputs : Inputs) (r : Replacement) (wishes : ChangeWishes) (read : Reads) (clash : Option NamePair) (files : Files) (done : ChangeDone)
      → change_or_refusal inputs r wishes read clash files ≡ Ok done → IsChangeMade inputs r wishes read clash files done
  pub differences : (files : Files) (packages : List Plain) (d : FileDifference) → IsIn d (file_differences files packages) ↔ IsDifferenceIn packages files d
  pub written : WrittenLaws

-- ---- a database that is read

abbrev kept : Database → Result Database Refusal
kept d = Ok d

container_ok : (file : List ℕ) (packages : List Plain) (bytes : List ℕ) → container_database file ≡ Ok (database_of_packages_file_and_is_text packages (Some bytes) false)
    → (container_fault_except_contents Idb file ≡ None) × (entries_of_field_at_index IDB_PACKAGES_INDEX (root_value_of_payload Idb (payload_in file)) ≡ packages)
container_ok file packages bytes e = by_fault (container_fault_except_contents Idb file) refl e
  where
    there : Database
    there = database_of_packages_file_and_is_text (entries_of_field_at_index IDB_PACKAGES_INDEX (root_value_of_payload Idb (payload_in file))) (Some file) false

    by_fault : (fault : Option Cause) → container_fault_except_contents Idb file ≡ fault → unless_cause DatabaseBad fault there ≡ Ok (database_of_packages_file_and_is_text packages (Some bytes) false)
        → (container_fault_except_contents Idb file ≡ None) × (entries_of_field_at_index IDB_PACKAGES_INDEX (root_value_of_payload Idb (payload_in file)) ≡ packages)
    by_fault None t e = (let same : there ≡ database_of_packages_file_and_is_text packages (Some bytes) false = (let both : kept there ≡ kept (database_of_packages_file_and_is_text packages (Some bytes) false) = e in cc) in (t, ap (λ (d : Database). d.packages) same))
    by_fault (Some cause) t e = absurd (cc (e))

not_record : (records : DatabaseAndWorldAfter) (name : List ℕ) → ((records : DatabaseAndWorldAfter) (name : List ℕ) → is_old_or_new_database_or_world_name records name ≡ true → is_reserved name ≡ true) → is_reserved name ≡ false → is_old_or_new_database_or_world_name records name ≡ false
not_record records name reserved free = by_test (is_old_or_new_database_or_world_name records name) refl
  where
    by_test : (b : Bool) → is_old_or_new_database_or_world_name records name ≡ b → is_old_or_new_database_or_world_name records name ≡ false
    by_test true t = absurd (true≢false (sym (reserved records name t) ∙ free))
    by_test false t = t

comes_if : (change : FileChange) (path : List ℕ) (l : Listing) → owner_listing change path ≡ Some l → is_added l.member ≡ true → added_owner_listing change path ≡ Some l
comes_if change path l owner comes = ap if_member_added owner ∙ ap (λ (b : Bool). if b then Some l else None) comes

module _ (laws : Laws) (command : CommandLine) (read : Reads) (files : Files) (chosen : Option (List ℕ)) (clash : Option NamePair) (done : ChangeDone) (left : LaterCommandsFindMembersAndNewWorld command read chosen done)
    (e : change_of_command command read files chosen clash ≡ Ok done) (off : command.flags.simulate ≡ false) where
  abbrev s : InputsAndReplacement
  s = left.selected

  not_simulated : (b : Bool) → b ≡ false → (if b then Ok (simulated_change s.replacement (wishes_of command) files) else change_or_refusal s.inputs s.replacement (wishes_of command) read clash files) ≡ Ok done
      → change_or_refusal s.inputs s.replacement (wishes_of command) read clash files ≡ Ok done
  not_simulated true off e = absurd (true≢false off)
  not_simulated false off e = e

  made_so : IsChangeMade s.inputs s.replacement (wishes_of command) read clash files done
  unfolding change_of_command
  made_so =
      laws.made s.inputs s.replacement (wishes_of command) read clash files done
      (not_simulated command.flags.simulate off (ap (λ (r : Result InputsAndReplacement Refusal). and_then r (change_of_selected command read files clash)) (sym left.is_selected) ∙ e))

  same_found : made_so.found ≡ left.found
  same_found = let both : Ok made_so.found ≡ Ok left.found = sym made_so.members ∙ left.members in (cc)

  abbrev records : DatabaseAndWorldAfter
  records = database_and_world_after_change s.inputs made_so.database

  abbrev change : FileChange
  change = old_and_new_packages_of_change_left left

  abbrev bytes_of : Listing → List ℕ
  bytes_of = listing_bytes (contents_of_added_packages_left left)

  files_are : done.files ≡ files_after_change change bytes_of records files
  files_are =
      ap (λ (d : ChangeDone). d.files) made_so.is
      ∙ ap (λ (fs : List MemberFound). files_after_change (packages_before_and_after_with_purge s.inputs (wishes_of command) fs) (listing_bytes (found_package_contents fs)) records files) same_found

  database_there : done.files database_name ≡ Some made_so.database
  database_there = ap (λ (fs : Files). fs database_name) files_are ∙ database_after change bytes_of records files

  read_back : (container_fault_except_contents Idb made_so.database ≡ None) × (entries_of_field_at_index IDB_PACKAGES_INDEX (root_value_of_payload Idb (payload_in made_so.database)) ≡ packages_left left)
  read_back =
      let next : Reads = λ n name. done.files name in
      container_ok made_so.database (packages_left left) left.bytes
      (sym (ap (λ (o : Option (List ℕ)). root_database command.flags.initdb o (done.files text_database_name)) database_there)
      ∙ left.database command next (record { database = refl; world = refl }))

  abbrev value : Plain
  value = root_value_of_payload Idb (payload_in made_so.database)

  sound : IsSoundValue Idb value
  sound = laws.values Idb made_so.database read_back.0

  plain : (path : List ℕ) (l : Listing) → owner_listing change path ≡ Some l → is_old_or_new_database_or_world_name records path ≡ false
  plain path l owner = not_record records path laws.reserved (owner_free laws.written change value sound read_back.1 path l owner)

  -- ---- what differs was left so

  left_so : (path : List ℕ) (l : Listing) (d : FileDifference) → d.path ≡ path → owner_listing change path ≡ Some l → DiffersFromEntry d.difference l.entry (done.files path)
      → ExplainsDifference (contents_of_added_packages_left left) change files d l (is_added l.member)
  left_so path l d at owner differs =
      let here = subst (λ (fs : Files). DiffersFromEntry d.difference l.entry (fs path)) files_are differs in
      by_coming (is_added l.member) refl here
    where
      by_coming : (b : Bool) → is_added l.member ≡ b → DiffersFromEntry d.difference l.entry (files_after_change change bytes_of records files path) → ExplainsDifference (contents_of_added_packages_left left) change files d l b
      by_coming false t here =
          subst (λ (q : List ℕ). DiffersFromEntry d.difference l.entry (files q)) (sym at) ((stays_so change bytes_of records files path (plain path l owner) l d.difference owner t).0 here)
      by_coming true t here =
          subst (λ (q : List ℕ). ExplainsDifference (contents_of_added_packages_left left) change files (record { path = q; difference = d.difference }) l true) (sym at)
          (left_by change bytes_of records files path (plain path l owner) l (comes_if change path l owner t) d.difference here)

  pub is_path_left_over : (d : FileDifference) → IsIn d (file_differences done.files (packages_left left)) → IsDifferenceExplainedByFilesBeforeChange (contents_of_added_packages_left left) change files d
  is_path_left_over d here =
      let is = (laws.differences done.files (packages_left left) d).0 here in
      let found = record_of_owner laws.written change value sound read_back.1 d.path is.entry is.recorded in
      let l = found.0 in
      record {
        listing = l;
        owner = found.1;
        left = left_so d.path l d refl found.1 ((zeros_alike l.entry (done.files d.path) d.difference).0 (subst (λ (p : Plain). DiffersFromEntry d.difference p (done.files d.path)) found.2 is.differs));
      }

  -- ---- what was left so differs

  differs_so : (l : Listing) (d : FileDifference) → owner_listing change d.path ≡ Some l → (b : Bool) → is_added l.member ≡ b → ExplainsDifference (contents_of_added_packages_left left) change files d l b
      → DiffersFromEntry d.difference l.entry (files_after_change change bytes_of records files d.path)
  differs_so l d owner false t why = (stays_so change bytes_of records files d.path (plain d.path l owner) l d.difference owner t).1 why
  differs_so l d owner true t why = by_left change bytes_of records files d.path (plain d.path l owner) l (comes_if change d.path l owner t) d.difference why

  pub left_is : (d : FileDifference) → IsDifferenceExplainedByFilesBeforeChange (contents_of_added_packages_left left) change files d → IsIn d (file_differences done.files (packages_left left))
  left_is d is =
      let l = is.listing in
      let here = subst (λ (fs : Files). DiffersFromEntry d.difference l.entry (fs d.path)) (sym files_are) (differs_so l d is.owner (is_added l.member) refl is.left) in
      (laws.differences done.files (packages_left left) d).1
      (record {
        entry = without_zeros l.entry;
        recorded = owner_record laws.written change value sound read_back.1 d.path l is.owner;
        differs = (zeros_alike l.entry (done.files d.path) d.difference).1 here;
      })

-- ---- bytes unlike their entry

some_place : (l : Listing) (ls : List Listing) → IsOneOf l ls → (i : ℕ) × (slice_get ls i ≡ Some l)
some_place l [] here = absurd here
some_place l (k ∷ ls) (inl is) = (0, ap Some (sym is))
some_place l (k ∷ ls) (inr later) = let found = some_place l ls later in (suc found.0, found.1)

empty_by : (entry : Plain) (bytes : List ℕ) → ((is_file_with_contents entry ≡ false → has_target entry ≡ false → is_as_listed entry [] ≡ true) → is_as_listed entry bytes ≡ true) → is_as_listed entry bytes ≡ false → IsEmptyFileWithOtherDigest entry
empty_by entry bytes brought unlike = by_tests (is_file_with_contents entry) refl (has_target entry) refl (is_as_listed entry []) refl
  where
    never : (is_file_with_contents entry ≡ false → has_target entry ≡ false → is_as_listed entry [] ≡ true) → IsEmptyFileWithOtherDigest entry
    never h = absurd (true≢false (sym (brought h) ∙ unlike))

    by_tests : (a : Bool) → is_file_with_contents entry ≡ a → (b : Bool) → has_target entry ≡ b → (c : Bool) → is_as_listed entry [] ≡ c → IsEmptyFileWithOtherDigest entry
    by_tests true with b target c same = never (λ h g. absurd (true≢false (sym with ∙ h)))
    by_tests false with true target c same = never (λ h g. absurd (true≢false (sym target ∙ g)))
    by_tests false with false target true same = never (λ h g. same)
    by_tests false with false target false same = record { no_contents = with; no_link = target; unlike = same }

pub empty_alone :
    HasFirstValue → ((members : List Member) (i : ℕ) (l : Listing) → slice_get (listings_of_members members) i ≡ Some l → IsListedAt members l)
    → ((contents : ℕ → List Contents) (members : List Member) (l : Listing) → Contains (listings_of_members members) l → HaveValidDigestLengths (expected_files_of_package l.member.pkg)
    → MatchEachExpectedSizeAndKnownDigest (expected_files_of_package l.member.pkg) (contents l.place) → (is_file_with_contents l.entry ≡ false → has_target l.entry ≡ false → is_as_listed l.entry [] ≡ true)
    → is_as_listed l.entry (listing_bytes contents l) ≡ true)
    → (command : CommandLine) (read : Reads) (chosen : Option (List ℕ)) (done : ChangeDone) (left : LaterCommandsFindMembersAndNewWorld command read chosen done) (path : List ℕ) (l : Listing)
    → added_owner_listing (old_and_new_packages_of_change_left left) path ≡ Some l → is_as_listed l.entry (listing_bytes (contents_of_added_packages_left left) l) ≡ false → IsEmptyFileWithOtherDigest l.entry
empty_alone told placed brought command read chosen done left path l comes unlike =
    let members = found_members left.found in
    let owner = coming_is (old_and_new_packages_of_change_left left) path l comes in
    let listed : IsOneOf l (listings_of_members members) = owner.0.listed in
    let place = some_place l (listings_of_members members) listed in
    let s = left.selected in
    let are = contents_listed told read s.replacement s.inputs.root.repositories (wishes_of command).no_scripts left.found l.place l.member left.members (placed members place.0 l place.1).member owner.1 in
    empty_by l.entry (listing_bytes (contents_of_added_packages_left left) l)
    (brought (contents_of_added_packages_left left) members l (contains_from_one (listings_of_members members) l listed) are.0 are.1) unlike

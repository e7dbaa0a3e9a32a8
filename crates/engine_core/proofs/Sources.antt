-- Which bytes a change leaves under the names that it writes, and that the sources stand for them.
use Rattle.std.proofs.Common.{◌≡◌, inl, inr, ◌∙◌, ℕ, zero, suc, arith, Bool, true, false, List, [], ◌∷◌, length, map, All, Contains, Option, Some, None, Bor, refl, sym, ap, subst, true≢false}
use Rattle.std.specs.Str.{bytes_eq}
use Rattle.std.specs.Prelude.{not, if◌then◌else◌, is_some, slice_get, unwrap_or}
use Rattle.std.specs.Option.{option_copied}
use Rattle.base_core.specs.Files.{Files}
use Rattle.base_core.specs.Tree.{TreeState, files_of}
use Rattle.journal_staging.specs.adb_schema.Reserved.{is_reserved}
use Rattle.adb_view.specs.Plain.{Plain}
use Rattle.change_outcome.specs.Arrivals.{IsTestedPackageWithContentsOfMember}
use Rattle.change_report.specs.own_core.FileChange.{FileChange}
use Rattle.change_report.specs.own_core.FilesAfter.{DatabaseAndWorldAfter, files_after_change, database_name, is_listing_written_under_name, listing_bytes, new_world_bytes_unless_empty_and_absent, world_name, listing_written_under_name}
use Rattle.change_report.specs.own_core.PlanLists.{FileWrite, file_writes_of, file_write_under_name}
use Rattle.change_report.specs.own_core.Touched.{is_old_or_new_database_or_world_name}
use Rattle.change_report.proofs.own_core.Lists.{IsOneOf}
use Rattle.change_report.proofs.own_core.OwnedFiles.{coming_is, written_is}
use Rattle.change_report.proofs.own_core.PlanNames.{writes_are}
use Rattle.change_report.proofs.own_core.RecordNames.{database_after}
use Rattle.change_report.proofs.own_core.Reserved.{records_reserved}
use Rattle.change_report.proofs.own_core.Untouched.{takes_its_path}
use Rattle.std.proofs.lemmas.Bool.{false_from_ne_true}
use Rattle.change_report.specs.change_inputs.Inputs.{Inputs}
use Rattle.change_report.specs.change_outcome.Premises.{OldAndAddedPackagesListNoReservedPath, AreDatabaseAndWorldReadFromFiles}
use Rattle.change_report.proofs.change_outcome.ActionNames.{written_free}
use Rattle.change_report.specs.change_outcome.ChangeOutcome.{bytes_or_empty_under, is_absent_or_different, database_and_world_after_change}
use Rattle.change_report.specs.change_outcome.MembersAfter.{MemberFound, found_package_contents}
use Rattle.change_report.specs.db_core.Members.{Listing, Member, listings_of_members}
use Rattle.journal_staging.specs.file_guard.AsListed.{has_target, link_file_bytes_of_entry, link_file_bytes_of_target}
use Rattle.base_core.proofs.Sorting.{Each}
use Rattle.change_report.specs.own_core.ClaimEntries.{folders_if_any, listed_file_at}
use Rattle.change_report.proofs.own_core.Listings.{IsPlaced, each_placed}
use Rattle.journal_staging.specs.package_verifier.Tested.{tested_name}
use Rattle.journal_staging.specs.package_verifier.declared.package.TestedPackage.{TestedPackage}
use Rattle.journal_staging.specs.pkg_core.Contents.{Contents, bytes_of_file}
use Rattle.journal_staging.specs.Sources.{EachDenotes, DenotesBytes}
use Rattle.journal_staging.specs.declared.writes.Source.{Source}
use Rattle.journal_staging.specs.declared.writes.Source.TheVariants.{Bytes, File, Link}
use Rattle.journal_staging.specs.declared.writes.StagedWrite.{StagedWrite}
use Rattle.engine_core.specs.Preparing.{AreRecordWrites, AreNewRecordsOf, bytes_if}
use Rattle.engine_core.specs.Writing.{HasBytes, IsWriteOfRecord, IsSourceOfWrite, IsWriteOfChange, entry_of_write, name_of_write}
use Rattle.engine_core.specs.declared.rendering.NewRecords.{NewRecords}
use Rattle.engine_core.specs.declared.writes.RecordWrites.{RecordWrites}

-- ---- a file of a package

each_one : {X : Type 0} (P : X → Type 0) (xs : List X) (x : X) → Each P xs → IsOneOf x xs → P x
each_one P [] x each here = absurd here
each_one P (y ∷ ys) x each (inl is) = subst P (sym is) each.0
each_one P (y ∷ ys) x each (inr more) = each_one P ys x each.1 more

-- the bytes that a planned write gets, where members have these contents
abbrev write_bytes : List Member → (ℕ → List Contents) → FileWrite → List ℕ
write_bytes members contents w =
    if has_target (entry_of_write members w) then link_file_bytes_of_entry (entry_of_write members w) else bytes_of_file w.folder w.file (contents w.member)

listing_bytes_are : (contents : ℕ → List Contents) (members : List Member) (name : List ℕ) (l : Listing) → l.entry ≡ entry_of_write members (file_write_under_name name l) → listing_bytes contents l ≡ write_bytes members contents (file_write_under_name name l)
unfolding listing_bytes
listing_bytes_are contents members name l entry =
    ap (λ (e : Plain). if has_target e then link_file_bytes_of_entry e else bytes_of_file l.folder l.file (contents l.place)) entry

module _ (inputs : Inputs) (change : FileChange) (contents : ℕ → List Contents) (database : List ℕ) (files : Files) (root : AreDatabaseAndWorldReadFromFiles files inputs.root) (free : OldAndAddedPackagesListNoReservedPath change) where
  abbrev records : DatabaseAndWorldAfter
  records = database_and_world_after_change inputs database

  abbrev after : Files
  after = files_after_change change (listing_bytes contents) records files

  placed : (l : Listing) (name : List ℕ) → listing_written_under_name change files name ≡ Some l → IsPlaced change.members l
  placed l name written =
      each_one (IsPlaced change.members) (listings_of_members change.members) l (each_placed change.members)
      ((coming_is change l.path l (written_is change files name l written).comes).0).listed

  entry_is : (l : Listing) (name : List ℕ) → IsPlaced change.members l → l.entry ≡ entry_of_write change.members (file_write_under_name name l)
  entry_is l name p = p.entry ∙ sym (ap (λ (o : Option Member). listed_file_at (folders_if_any o) l.folder l.file) p.at)

  no_record : (name : List ℕ) → is_reserved name ≡ false → is_old_or_new_database_or_world_name records name ≡ false
  no_record name unreserved = false_from_ne_true (is_old_or_new_database_or_world_name records name) (λ is. true≢false (sym (records_reserved records name is) ∙ unreserved))

  some_written : (l : Listing) (name : List ℕ) → listing_written_under_name change files name ≡ Some l → is_listing_written_under_name change files name ≡ true
  some_written l name written = ap is_some written

  bytes_by : (l : Listing) (name : List ℕ) → listing_written_under_name change files name ≡ Some l → bytes_or_empty_under after name ≡ write_bytes change.members contents (file_write_under_name name l)
  bytes_by l name written =
      ap (λ (o : Option (List ℕ)). unwrap_or o []) (takes_its_path change (listing_bytes contents) records files name l written
      (no_record name (written_free inputs change files records free name (some_written l name written))))
      ∙ listing_bytes_are contents change.members name l (entry_is l name (placed l name written))

  pub file_bytes : (w : FileWrite) → Contains (file_writes_of change files) w → bytes_or_empty_under after w.name ≡ write_bytes change.members contents w
  file_bytes w here =
      let is = (writes_are change files w).0 here in
      bytes_by is.listing w.name is.written ∙ sym (ap (write_bytes change.members contents) is.shown)

  -- ---- the database and world

  pub database_bytes : bytes_or_empty_under after database_name ≡ database
  database_bytes = ap (λ (o : Option (List ℕ)). unwrap_or o []) (database_after change (listing_bytes contents) records files)

  world_by : after world_name ≡ new_world_bytes_unless_empty_and_absent records.world (files world_name)
  unfolding files_after_change
  world_by = refl

  said_world : (world : List ℕ) (old : Option (List ℕ)) → unwrap_or (new_world_bytes_unless_empty_and_absent world old) [] ≡ world
  said_world [] None = refl
  said_world [] (Some old) = refl
  said_world (b ∷ world) old = refl

  pub world_bytes : bytes_or_empty_under after world_name ≡ records.world
  world_bytes = ap (λ (o : Option (List ℕ)). unwrap_or o []) world_by ∙ said_world records.world (files world_name)

-- ---- sources

given_bytes : (own : List ℕ) (opt : Option (Bor (List ℕ))) (b : Bool) (bytes : Bor (List ℕ)) → opt ≡ Some bytes → option_copied opt ≡ bytes_if b own → bytes.now ≡ own
given_bytes own None b bytes is copied = absurd (cc)
given_bytes own (Some x) true bytes is copied = let same : x ≡ bytes = cc in sym (ap (λ (y : Bor (List ℕ)). y.now) same) ∙ cc
given_bytes own (Some x) false bytes is copied = absurd (cc)

record_stands : (files : Files) (name own wanted : List ℕ) (b : Bool) (opt : Option (Bor (List ℕ))) (write : StagedWrite) → option_copied opt ≡ bytes_if b own → own ≡ wanted → IsWriteOfRecord name opt write
    → (name_of_write write ≡ name) × DenotesBytes files write.source wanted
record_stands files name own wanted b None write copied same is = absurd is
record_stands files name own wanted b (Some bytes) write copied same is = (is.named, by write.source is.source)
  where
    by : (s : Source) → HasBytes bytes.now s → DenotesBytes files s wanted
    by (Bytes x) has = sym same ∙ (sym (given_bytes own (Some bytes) b bytes refl copied) ∙ sym has)
    by (Link target) has = absurd has
    by (File f) has = absurd has

-- what `a_package_that_was_read_is_that_of_its_file` says
abbrev pub FilesAreRead : List TreeState → List MemberFound → (ℕ → Option TestedPackage) → Type 0
FilesAreRead history found packages = (place : ℕ) (pkg : TestedPackage) → packages place ≡ Some pkg → IsTestedPackageWithContentsOfMember history found place pkg

module _ (v : TreeState) (earlier : List TreeState) (found : List MemberFound) (members : List Member) (packages : ℕ → Option TestedPackage) (read : FilesAreRead (v ∷ earlier) found packages) where
  file_stands : (w : FileWrite) (bytes : List ℕ) (s : Source) → bytes ≡ write_bytes members (found_package_contents found) w → IsSourceOfWrite members packages w s → DenotesBytes (files_of v) s bytes
  file_stands w bytes (Bytes own) is source = absurd source
  file_stands w bytes (Link target) is source =
      is ∙ (ap (λ (b : Bool). if b then link_file_bytes_of_entry (entry_of_write members w) else bytes_of_file w.folder w.file (found_package_contents found w.member)) source.0
      ∙ ap link_file_bytes_of_target (sym source.1))
  file_stands w bytes (File f) is source =
      let of = source.1 in
      let file = read w.member f.package.now of.read in
      record {
        name = tested_name f.package.now;
        pkg = file.file;
        there = sym file.located;
        tested = file.tested;
        is = is ∙ (ap (λ (b : Bool). if b then link_file_bytes_of_entry (entry_of_write members w) else bytes_of_file w.folder w.file (found_package_contents found w.member)) source.0
            ∙ ((λ i. bytes_of_file (sym of.folder i) (sym of.file i) (found_package_contents found w.member))
            ∙ ap (bytes_of_file f.folder f.file) file.contents));
      }

-- ---- each write

pub all_at : {X : Type 0} (P : X → Type 0) (xs : List X) (i : ℕ) (x : X) → All P xs → slice_get xs i ≡ Some x → P x
all_at P [] i x all at = absurd (cc)
all_at P (y ∷ ys) zero x all at = let same : y ≡ x = cc in subst P same (all 0 y (omega arith))
all_at P (y ∷ ys) (suc i) x all at = all_at P ys i x (λ k d below. all (suc k) d (omega (arith, below))) at

mapped_at : {X : Type 0} (f : X → List ℕ) (g : List ℕ → List ℕ) (xs : List X) (i : ℕ) (x : X) (bytes : List ℕ) → slice_get xs i ≡ Some x → slice_get (map g (map f xs)) i ≡ Some bytes → bytes ≡ g (f x)
mapped_at f g [] i x bytes at is = absurd (cc)
mapped_at f g (y ∷ ys) zero x bytes at is = let same : y ≡ x = cc in let b : g (f y) ≡ bytes = cc in sym b ∙ ap (λ z. g (f z)) same
mapped_at f g (y ∷ ys) (suc i) x bytes at is = mapped_at f g ys i x bytes at is

mapped_long : {X : Type 0} (f : X → List ℕ) (g : List ℕ → List ℕ) (xs : List X) → length (map g (map f xs)) ≡ length xs
mapped_long f g [] = refl
mapped_long f g (x ∷ xs) = ap suc (mapped_long f g xs)

module _ (inputs : Inputs) (change : FileChange) (found : List MemberFound) (own : NewRecords) (rw : RecordWrites) (packages : ℕ → Option TestedPackage)
    (is_own : AreNewRecordsOf inputs own) (which : AreRecordWrites inputs own rw) (free : OldAndAddedPackagesListNoReservedPath change)
    (v : TreeState) (earlier : List TreeState) (read : FilesAreRead (v ∷ earlier) found packages)
    (files : Files) (root : AreDatabaseAndWorldReadFromFiles files inputs.root) where
  abbrev left : Files
  left = files_after_change change (listing_bytes (found_package_contents found)) (database_and_world_after_change inputs own.database.items) files

  one_stands : (w : StagedWrite) → IsWriteOfChange change.members packages (file_writes_of change files) rw w → DenotesBytes (files_of v) w.source (bytes_or_empty_under left (name_of_write w))
  one_stands w (inl f) =
      file_stands v earlier found change.members packages read f.file (bytes_or_empty_under left (name_of_write w)) w.source
      (ap (bytes_or_empty_under left) f.named ∙ file_bytes inputs change (found_package_contents found) own.database.items files root free f.file f.planned_file) f.source
  one_stands w (inr (inl r)) =
      let (named, located) = record_stands (files_of v) rw.database_name.now own.database.items own.database.items (is_absent_or_different inputs.root.database.file own.database.items) rw.database w which.database refl r in
      subst (DenotesBytes (files_of v) w.source)
      (sym (ap (bytes_or_empty_under left) (named ∙ (which.database_name ∙ is_own.database_name)) ∙ database_bytes inputs change (found_package_contents found) own.database.items files root free)) located
  one_stands w (inr (inr r)) =
      let (named, located) = record_stands (files_of v) rw.world_name.now own.world own.world (not (bytes_eq inputs.root.world_text own.world)) rw.world w which.world refl r in
      subst (DenotesBytes (files_of v) w.source)
      (is_own.world ∙ sym (ap (bytes_or_empty_under left) (named ∙ (which.world_name ∙ is_own.world_name)) ∙ world_bytes inputs change (found_package_contents found) own.database.items files root free)) located

  pub all_stand : (writes : List StagedWrite) → All (IsWriteOfChange change.members packages (file_writes_of change files) rw) writes → EachDenotes (files_of v) writes (map (bytes_or_empty_under left) (map name_of_write writes))
  all_stand writes each = record {
    same = mapped_long name_of_write (bytes_or_empty_under left) writes;
    each = λ i w bytes at is. subst (DenotesBytes (files_of v) w.source) (sym (mapped_at name_of_write (bytes_or_empty_under left) writes i w bytes at is))
        (one_stands w (all_at (IsWriteOfChange change.members packages (file_writes_of change files) rw) writes i w each at));
  }

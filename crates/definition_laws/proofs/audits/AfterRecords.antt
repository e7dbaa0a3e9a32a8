-- The records of the database after a change, and the listings that members own.
use Rattle.std.proofs.Common.{◌≡◌, inl, inr, ◌∙◌, ◌↔◌, ℕ, Bool, true, false, List, [], ◌∷◌, map, Option, Some, None, refl, ap, sym, subst, true≢false}
use Rattle.std.specs.Prelude.{◌==◌, option_and_then, bytes_eq, cond}
use Rattle.std.specs.List.{filter, find, flat_map}
use Rattle.std.proofs.lemmas.Bool.{eq-eqb, not-true}
use Rattle.std.proofs.lemmas.Slice.Eq.{bytes_eq-Decides}
use Rattle.make_core.proofs.adb_copy.WithoutZeros.{int_zeros, text_zeros}
use Rattle.make_core.specs.adb_copy.Zeros.{without_zeros}
use Rattle.make_core.proofs.adb_copy.Entries.{entry_zeros}
use Rattle.audit_core.specs.adb_fields.FirstPair.{IsIn}
use Rattle.audit_core.specs.adb_fields.Once.{AreDistinctNames}
use Rattle.audit_core.specs.adb_fields.Repeated.{entries_of_field_at_index, files_in, folders_in, list_of, name_of, paths_of_package_files}
use Rattle.audit_core.proofs.adb_fields.Members.{from-flat_map, from-map, in-flat_map, in-map}
use Rattle.make_core.specs.adb_schema.Reserved.{is_reserved}
use Rattle.make_core.specs.adb_schema.SoundContainers.{IsSoundValue}
use Rattle.make_core.specs.adb_schema.SoundValues.{ObeysTextAndNumberRulesOfFileInFolder, ObeysTextAndNumberRulesOfFolder, ObeysTextAndNumberRulesOfPackage}
use Rattle.adb_view.specs.FieldIndexes.{DIR_FILES_INDEX, IDB_PACKAGES_INDEX, PACKAGE_PATHS_INDEX}
use Rattle.adb_view.specs.Plain.{Plain, Plains, more, none}
use Rattle.adb_view.specs.Shaped.{Each}
use Rattle.adb_view.specs.Values.{entries_in, entry_at_index, int_in, text_in}
use Rattle.adb_view.specs.declared.tables.Which.TheVariants.{Idb}
use Rattle.audit_core.specs.Differences.{DiffersFromEntry, IsRecordOfPackages}
use Rattle.audit_core.specs.Records.{PathAndEntry, database_records, file_record, folder_records, package_records}
use Rattle.audit_core.specs.declared.comparing.Difference.{Difference}
use Rattle.audit_core.specs.declared.comparing.Difference.TheVariants.{Changed, Missing}
use Rattle.audit_core.proofs.Listings.{listing_record, records_are_listings}
use Rattle.audit_core.proofs.PathsOnce.{database_once, record_paths}
use Rattle.engine_core.specs.own_core.FileChange.{FileChange, owner_listing}
use Rattle.engine_core.proofs.own_core.Lists.{IsOneOf, passing_kept}
use Rattle.engine_core.proofs.own_core.OwnedFiles.{owner_is}
use Rattle.audit_core.specs.db_core.Members.{Listing, Member, listings_of_path, listings_of_members, members_of_kept}
use Rattle.audit_core.specs.db_core.OwnedListings.{owned_listings, owned_paths}
use Rattle.engine_core.specs.db_core.NewDatabase.{packages_in_new_database}
use Rattle.audit_core.specs.file_guard.AsListed.{file_hash, file_size, file_target, is_as_listed, is_as_listed_by_size_hash_target}
use Rattle.engine_core.specs.file_owners.Owners.{owned_flags_of, owner_of_path}
use Rattle.engine_core.proofs.file_owners.OneOwner.{owner_is as member_place}
use Rattle.engine_core.specs.path_claims.Claims.{is_owning_member}

-- what the laws of `db_write` say
pub record WrittenLaws : Type 0 where
  pub paths : (members : List Member) (flags : List Bool) → flat_map paths_of_package_files (list_of (packages_in_new_database members flags)) ≡ owned_paths members flags
  pub entries : (members : List Member) (flags : List Bool)
      → map (λ l. l.entry) (listings_of_members (members_of_kept (list_of (packages_in_new_database members flags)))) ≡ map (λ l. without_zeros l.entry) (owned_listings (listings_of_members members) flags)

-- ---- entries in which an integer 0 is Null

zeros_as_listed : (entry : Plain) (bytes : List ℕ) → is_as_listed (without_zeros entry) bytes ≡ is_as_listed entry bytes
zeros_as_listed entry bytes =
    ap (λ size. is_as_listed_by_size_hash_target size (file_hash (without_zeros entry)) (file_target (without_zeros entry)) bytes) (ap int_in (entry_zeros entry 2) ∙ int_zeros (entry_at_index entry 2))
    ∙ (ap (λ hash. is_as_listed_by_size_hash_target (file_size entry) hash (file_target (without_zeros entry)) bytes) (ap text_in (entry_zeros entry 4) ∙ text_zeros (entry_at_index entry 4))
    ∙ ap (λ target. is_as_listed_by_size_hash_target (file_size entry) (file_hash entry) target bytes) (ap text_in (entry_zeros entry 5) ∙ text_zeros (entry_at_index entry 5)))

pub zeros_alike : (entry : Plain) (found : Option (List ℕ)) (d : Difference) → DiffersFromEntry d (without_zeros entry) found ↔ DiffersFromEntry d entry found
zeros_alike entry found Missing = (λ is. is, λ is. is)
zeros_alike entry None Changed = (λ is. is, λ is. is)
zeros_alike entry (Some bytes) Changed = (λ is. sym (zeros_as_listed entry bytes) ∙ is, λ is. zeros_as_listed entry bytes ∙ is)

-- ---- the records are those of the owned listings

abbrev pub kept_record : Listing → PathAndEntry
kept_record l = record { path = l.path; entry = without_zeros l.entry }

abbrev tail_records : {X : Type 0} → List X → List X
tail_records [] = []
tail_records (x ∷ xs) = xs

abbrev head_or : {X : Type 0} → X → List X → X
head_or d [] = d
head_or d (x ∷ xs) = x

same_records : (rs : List PathAndEntry) (ls : List Listing) → map (λ r. r.path) rs ≡ map (λ l. l.path) ls → map (λ r. r.entry) rs ≡ map (λ l. without_zeros l.entry) ls → rs ≡ map kept_record ls
same_records [] [] p e = refl
same_records [] (l ∷ ls) p e = absurd (cc)
same_records (r ∷ rs) [] p e = absurd (cc)
same_records (r ∷ rs) (l ∷ ls) p e =
    let path : r.path ≡ l.path = ap (head_or r.path) p in
    let entry : r.entry ≡ without_zeros l.entry = ap (head_or r.entry) e in
    let first : r ≡ kept_record l = (λ i. record { path = path i; entry = entry i }) in
    ap (λ q. q ∷ rs) first ∙ ap (λ qs. kept_record l ∷ qs) (same_records rs ls (ap tail_records p) (ap tail_records e))

map_twice : {X Y Z : Type 0} (f : Y → Z) (g : X → Y) (xs : List X) → map f (map g xs) ≡ map (λ x. f (g x)) xs
map_twice f g [] = refl
map_twice f g (x ∷ xs) = ap (λ ys. f (g x) ∷ ys) (map_twice f g xs)

-- ---- listings by their flags

flagged_in : (f : Listing → Bool) (l : Listing) (ls : List Listing) → IsIn l (owned_listings ls (map f ls)) → IsIn l ls × (f l ≡ true)
flagged_in f l [] here = absurd here
flagged_in f l (k ∷ ls) here = by_flag (f k) refl (flagged_in f l ls) here
  where
    by_flag : (b : Bool) → f k ≡ b → (IsIn l (owned_listings ls (map f ls)) → IsIn l ls × (f l ≡ true)) → IsIn l (owned_listings (k ∷ ls) (b ∷ map f ls)) → IsIn l (k ∷ ls) × (f l ≡ true)
    by_flag true t rest (inl is) = (inl is, ap f is ∙ t)
    by_flag true t rest (inr later) = (let found = rest later in (inr found.0, found.1))
    by_flag false t rest here = (let found = rest here in (inr found.0, found.1))

in_flagged : (f : Listing → Bool) (l : Listing) (ls : List Listing) → IsIn l ls → f l ≡ true → IsIn l (owned_listings ls (map f ls))
in_flagged f l [] here t = absurd here
in_flagged f l (k ∷ ls) here t = by_flag (f k) refl (λ later. in_flagged f l ls later t) here
  where
    by_flag : (b : Bool) → f k ≡ b → (IsIn l ls → IsIn l (owned_listings ls (map f ls))) → IsIn l (k ∷ ls) → IsIn l (owned_listings (k ∷ ls) (b ∷ map f ls))
    by_flag true e rest (inl is) = inl is
    by_flag true e rest (inr later) = inr (rest later)
    by_flag false e rest (inl is) = absurd (true≢false (sym t ∙ (ap f is ∙ e)))
    by_flag false e rest (inr later) = rest later

-- ---- one listing of a path

path_in : (l : Listing) (ls : List Listing) → IsIn l ls → IsIn l.path (map (λ l. l.path) ls)
path_in l ls here = in-map (λ (l : Listing). l.path) l ls here

one_of_path : (ls : List Listing) → AreDistinctNames (map (λ l. l.path) ls) → (l k : Listing) → IsIn l ls → IsIn k ls → l.path ≡ k.path → l ≡ k
one_of_path [] d l k h g e = absurd h
one_of_path (m ∷ ls) d l k (inl h) (inl g) e = h ∙ sym g
one_of_path (m ∷ ls) d l k (inl h) (inr g) e = absurd (d.0 (subst (λ (q : List ℕ). IsIn q (map (λ l. l.path) ls)) (sym e ∙ ap (λ (x : Listing). x.path) h) (path_in k ls g)))
one_of_path (m ∷ ls) d l k (inr h) (inl g) e = absurd (d.0 (subst (λ (q : List ℕ). IsIn q (map (λ l. l.path) ls)) (e ∙ ap (λ (x : Listing). x.path) g) (path_in l ls h)))
one_of_path (m ∷ ls) d l k (inr h) (inr g) e = one_of_path ls d.1 l k h g e

as_one : (l : Listing) (ls : List Listing) → IsIn l ls → IsOneOf l ls
as_one l [] here = here
as_one l (k ∷ ls) (inl is) = inl is
as_one l (k ∷ ls) (inr later) = inr (as_one l ls later)

as_in : (l : Listing) (ls : List Listing) → IsOneOf l ls → IsIn l ls
as_in l [] here = here
as_in l (k ∷ ls) (inl is) = inl is
as_in l (k ∷ ls) (inr later) = inr (as_in l ls later)

some_found : (p : Listing → Bool) (ls : List Listing) (l : Listing) → IsOneOf l ls → p l ≡ true → (k : Listing) × (find p ls ≡ Some k)
some_found p [] l here t = absurd here
some_found p (k ∷ ls) l here t = by_test (p k) refl (λ later. some_found p ls l later t) here
  where
    by_test : (b : Bool) → p k ≡ b → (IsOneOf l ls → (m : Listing) × (find p ls ≡ Some m)) → IsOneOf l (k ∷ ls) → (m : Listing) × (cond b (Some k) (find p ls) ≡ Some m)
    by_test true e rest here = (k, refl)
    by_test false e rest (inl is) = absurd (true≢false (sym t ∙ (ap p is ∙ e)))
    by_test false e rest (inr later) = rest later

-- ---- a path of a sound database is not reserved

each_in : (P : Plain → Type 0) (v : Plain) (vs : Plains) → Each P vs → IsIn v (list_of vs) → P v
each_in P v none h here = absurd here
each_in P v (more w vs) h (inl is) = subst P (sym is) h.0
each_in P v (more w vs) h (inr here) = each_in P v vs h.1 here

pub free_path : (database : Plain) → IsSoundValue Idb database → (r : PathAndEntry) → IsIn r (database_records (entries_of_field_at_index IDB_PACKAGES_INDEX database)) → is_reserved r.path ≡ false
free_path database sound r here =
    let pkg = from-flat_map package_records r (entries_of_field_at_index IDB_PACKAGES_INDEX database) here in
    let folder = from-flat_map folder_records r (folders_in pkg.0) pkg.2 in
    let file = from-map (file_record (name_of folder.0)) r (files_in folder.0) folder.2 in
    let is_package = each_in (ObeysTextAndNumberRulesOfPackage Idb) pkg.0 (entries_in (entry_at_index database IDB_PACKAGES_INDEX)) sound.rules pkg.1 in
    let is_folder = each_in (ObeysTextAndNumberRulesOfFolder Idb) folder.0 (entries_in (entry_at_index pkg.0 PACKAGE_PATHS_INDEX)) is_package.folders folder.1 in
    let is_file = each_in (ObeysTextAndNumberRulesOfFileInFolder Idb (name_of folder.0)) file.0 (entries_in (entry_at_index folder.0 DIR_FILES_INDEX)) is_folder.files file.1 in
    ap (λ (q : PathAndEntry). is_reserved q.path) file.2 ∙ not-true (is_reserved (file_record (name_of folder.0) file.0).path) is_file.listed

-- ---- the database after a change

module _ (laws : WrittenLaws) (change : FileChange) (database : Plain) (sound : IsSoundValue Idb database)
    (are : entries_of_field_at_index IDB_PACKAGES_INDEX database ≡ list_of (packages_in_new_database change.members (owned_flags_of change.members))) where
  abbrev flags : List Bool
  flags = owned_flags_of change.members

  abbrev owned : List Listing
  owned = owned_listings (listings_of_members change.members) flags

  records_are : database_records (list_of (packages_in_new_database change.members flags)) ≡ map kept_record owned
  records_are =
      let packages = list_of (packages_in_new_database change.members flags) in
      same_records (database_records packages) owned (record_paths packages ∙ laws.paths change.members flags)
      (ap (map (λ (r : PathAndEntry). r.entry)) (sym (records_are_listings packages))
      ∙ (map_twice (λ (r : PathAndEntry). r.entry) listing_record (listings_of_members (members_of_kept packages)) ∙ laws.entries change.members flags))

  once : AreDistinctNames (map (λ l. l.path) owned)
  once = subst AreDistinctNames (ap (flat_map paths_of_package_files) are ∙ laws.paths change.members flags) (database_once database sound)

  owned_is : (l : Listing) → IsIn l owned → IsIn l (listings_of_members change.members) × (owner_of_path change.members l.path ≡ Some l.place)
  unfolding owned_flags_of
  owned_is l here =
      let found = flagged_in (λ l. is_owning_member l.place (owner_of_path change.members l.path)) l (listings_of_members change.members) here in
      (found.0, member_place l.place (owner_of_path change.members l.path) found.1)

  is_owned : (l : Listing) → IsIn l (listings_of_members change.members) → owner_of_path change.members l.path ≡ Some l.place → IsIn l owned
  unfolding owned_flags_of
  is_owned l here place =
      in_flagged (λ l. is_owning_member l.place (owner_of_path change.members l.path)) l (listings_of_members change.members) here
      (ap (is_owning_member l.place) place ∙ eq-eqb l.place l.place refl)

  owner_owned : (path : List ℕ) (l : Listing) → owner_listing change path ≡ Some l → IsIn l owned × (l.path ≡ path)
  owner_owned path l e =
      let owner = owner_is change path l e in
      (is_owned l (as_in l (listings_of_members change.members) owner.listed) (ap (owner_of_path change.members) owner.of_path ∙ owner.place), owner.of_path)

  some_owner : (l : Listing) → IsIn l owned → (k : Listing) × (owner_listing change l.path ≡ Some k)
  unfolding owner_listing listings_of_path
  some_owner l here =
      let is = owned_is l here in
      let claims = filter (λ k. bytes_eq k.path l.path) (listings_of_members change.members) in
      let found = some_found (λ k. k.place == l.place) claims l (passing_kept (λ k. bytes_eq k.path l.path) (listings_of_members change.members) l (as_one l (listings_of_members change.members) is.0) ((bytes_eq-Decides l.path l.path).1 refl))
      (eq-eqb l.place l.place refl) in
      (found.0, ap (option_and_then (λ place. find (λ k. k.place == place) claims)) is.1 ∙ found.1)

  pub owned_listing : (l : Listing) → IsIn l owned → owner_listing change l.path ≡ Some l
  owned_listing l here =
      let some = some_owner l here in
      let of = owner_owned l.path some.0 some.1 in
      some.1 ∙ ap Some (one_of_path owned once some.0 l of.0 here of.1)

  -- ---- a record, and the listing of its path's owner

  pub record_of_owner : (path : List ℕ) (entry : Plain) → IsRecordOfPackages (list_of (packages_in_new_database change.members flags)) (record { path = path; entry = entry })
      → (l : Listing) × (owner_listing change path ≡ Some l) × (entry ≡ without_zeros l.entry)
  record_of_owner path entry is =
      let r : PathAndEntry = record { path = path; entry = entry } in
      let here = subst (IsIn r) records_are (in-flat_map package_records r is.pkg (list_of (packages_in_new_database change.members flags)) is.installed is.listed) in
      let found = from-map kept_record r owned here in
      let same : path ≡ found.0.path = ap (λ (q : PathAndEntry). q.path) found.2 in
      (found.0, ap (owner_listing change) same ∙ owned_listing found.0 found.1, ap (λ (q : PathAndEntry). q.entry) found.2)

  pub owner_record : (path : List ℕ) (l : Listing) → owner_listing change path ≡ Some l → IsRecordOfPackages (list_of (packages_in_new_database change.members flags)) (record { path = path; entry = without_zeros l.entry })
  owner_record path l e =
      let of = owner_owned path l e in
      let here = subst (IsIn (kept_record l)) (sym records_are) (in-map kept_record l owned of.0) in
      let found = from-flat_map package_records (kept_record l) (list_of (packages_in_new_database change.members flags)) here in
      subst (λ (q : List ℕ). IsRecordOfPackages (list_of (packages_in_new_database change.members flags)) (record { path = q; entry = without_zeros l.entry })) of.1
      (record { pkg = found.0; installed = found.1; listed = found.2 })

  pub owner_free : (path : List ℕ) (l : Listing) → owner_listing change path ≡ Some l → is_reserved path ≡ false
  owner_free path l e =
      let of = owner_owned path l e in
      let here = subst (IsIn (kept_record l)) (sym records_are) (in-map kept_record l owned of.0) in
      ap is_reserved (sym of.1) ∙ free_path database sound (kept_record l) (subst (λ (ps : List Plain). IsIn (kept_record l) (database_records ps)) (sym are) here)

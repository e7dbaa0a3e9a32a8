-- Where packages and databases are found.
use Rattle.std.proofs.Common.{◌≡◌, ◌∙◌, ℕ, ◌+◌, Bool, true, false, List, [], ◌∷◌, ◌++◌, Option, Some, None, Result, Ok, Err, refl, ap, sym, arith}
use Rattle.std.specs.Prelude.{◌-◌, ◌==◌, ◌||◌, if◌then◌else◌, codes, slice_get}
use Rattle.change_outcome.specs.adb_fields.Repeated.{entries_of_field_at_index}
use Rattle.tell_core.specs.adb_schema.Soundness.{payload_in, root_value_of_payload}
use Rattle.adb_view.specs.FieldIndexes.{IDB_PACKAGES_INDEX}
use Rattle.adb_view.specs.declared.tables.Which.TheVariants.{Idb}
use Rattle.base_core.specs.Name.{is_name}
use Rattle.base_core.specs.declared.cause.Cause.{Cause}
use Rattle.tell_core.specs.candidate_core.Candidates.{Candidate}
use Rattle.change_outcome.specs.change_inputs.Chains.{unless_cause}
use Rattle.change_outcome.specs.change_inputs.Database.{Database, database_of_packages_file_and_is_text, payload_database, root_database}
use Rattle.change_outcome.specs.PackageFiles.{package_file_path_of_candidate, path_of_name_version_beside_index}
use Rattle.change_outcome.specs.root_names.PackagePath.{path_up_to_last_slash, has_slash, path_if_valid_name, package_path}
use Rattle.dep_core.specs.Repositories.{Repository}
use Rattle.change_outcome.specs.package_changes.Changes.{candidate_version_text}
use Rattle.tell_core.specs.adb_schema.Soundness.{container_fault_except_contents}
use Rattle.report_core.specs.declared.refusal.Refusal.TheVariants.{DatabaseBad}
use Rattle.change_outcome.specs.v2_core.Payload.{payload_of_text}
use Rattle.change_outcome.specs.v2_core.declared.read.V2Fault.{V2Fault}
use Rattle.change_outcome.specs.v2_core.declared.read.V2Fault.TheVariants.{Bad, Memory, TooLarge}
use Rattle.definition_laws.specs.answers.FoundFiles.{HasNoSlash, IsCandidateOfIndexAtPath, candidate_file_name}

-- ---- the folder of an index

no_prefix : (text : List ℕ) → HasNoSlash text → path_up_to_last_slash text ≡ []
no_prefix [] none = refl
no_prefix (b ∷ text) none = ap (λ (t : Bool). if t then b ∷ path_up_to_last_slash text else []) none

slash_within : (folder index : List ℕ) → has_slash (folder ++ codes "/" ++ index) ≡ true
slash_within [] index = refl
slash_within (b ∷ folder) index = go (b == 47) (slash_within folder index)
  where
    go : (t : Bool) → has_slash (folder ++ codes "/" ++ index) ≡ true → (t || has_slash (folder ++ codes "/" ++ index)) ≡ true
    go true e = refl
    go false e = e

prefix_is : (folder index : List ℕ) → HasNoSlash index → path_up_to_last_slash (folder ++ codes "/" ++ index) ≡ folder ++ codes "/"
prefix_is [] index none = ap (λ (t : List ℕ). 47 ∷ t) (no_prefix index none)
prefix_is (b ∷ folder) index none =
    ap (λ (t : Bool). if t then b ∷ path_up_to_last_slash (folder ++ codes "/" ++ index) else []) (slash_within (b ∷ folder) index)
    ∙ ap (λ (t : List ℕ). b ∷ t) (prefix_is folder index none)

-- ---- the file of a candidate

named_path : (path : List ℕ) → is_name path ≡ true → path_if_valid_name path ≡ Some path
named_path path e = ap (λ (t : Bool). let o : Option (List ℕ) = if t then Some path else None in o) e

-- the name of the file beside an index, given the candidate's repository
beside : (repositories : List Repository) (c : Candidate) (path : List ℕ) → IsCandidateOfIndexAtPath repositories c path
    → package_file_path_of_candidate repositories c ≡ path_if_valid_name (package_path path c.name (candidate_version_text c))
beside repositories c path of =
    let at : (of.place + 1) - 1 ≡ of.place = omega arith in
    by_number of.numbered
    ∙ ap (λ (n : ℕ). path_of_name_version_beside_index c.name (candidate_version_text c) (slice_get repositories n)) at
    ∙ ap (path_of_name_version_beside_index c.name (candidate_version_text c)) of.listed
    ∙ ap (λ (p : List ℕ). path_if_valid_name (package_path p c.name (candidate_version_text c))) of.path_is
  where
    by_number : c.repository ≡ Some (of.place + 1) → package_file_path_of_candidate repositories c ≡ path_of_name_version_beside_index c.name (candidate_version_text c) (slice_get repositories ((of.place + 1) - 1))
    by_number e = ap (λ (o : Option ℕ). package_file_path_of_candidate repositories (record c { repository = o })) e

pub below : (repositories : List Repository) (c : Candidate) (folder index : List ℕ) → HasNoSlash index → IsCandidateOfIndexAtPath repositories c (folder ++ codes "/" ++ index)
    → is_name (folder ++ codes "/" ++ candidate_file_name c) ≡ true → package_file_path_of_candidate repositories c ≡ Some (folder ++ codes "/" ++ candidate_file_name c)
below repositories c folder index none of named =
    beside repositories c (folder ++ codes "/" ++ index) of
    ∙ ap (λ (t : List ℕ). path_if_valid_name (t ++ candidate_file_name c)) (prefix_is folder index none)
    ∙ named_path (folder ++ codes "/" ++ candidate_file_name c) named

pub top : (repositories : List Repository) (c : Candidate) (index : List ℕ) → HasNoSlash index → IsCandidateOfIndexAtPath repositories c index
    → is_name (candidate_file_name c) ≡ true → package_file_path_of_candidate repositories c ≡ Some (candidate_file_name c)
top repositories c index none of named =
    beside repositories c index of
    ∙ ap (λ (t : List ℕ). path_if_valid_name (t ++ candidate_file_name c)) (no_prefix index none)
    ∙ named_path (candidate_file_name c) named

-- ---- the two databases

pub container : (begins other : Bool) (file : List ℕ) (text another : Option (List ℕ)) → root_database begins (Some file) text ≡ root_database other (Some file) another
container begins other file text another = refl

pub by_container : (begins : Bool) (file : List ℕ) (text : Option (List ℕ)) (d : Database) → root_database begins (Some file) text ≡ Ok d → (d.from_text ≡ false) × (d.file ≡ Some file)
by_container begins file text d e = go (container_fault_except_contents Idb file) e
  where
    go : (o : Option Cause) → unless_cause DatabaseBad o (database_of_packages_file_and_is_text (entries_of_field_at_index IDB_PACKAGES_INDEX (root_value_of_payload Idb (payload_in file))) (Some file) false) ≡ Ok d → (d.from_text ≡ false) × (d.file ≡ Some file)
    go None e =
        let is : database_of_packages_file_and_is_text (entries_of_field_at_index IDB_PACKAGES_INDEX (root_value_of_payload Idb (payload_in file))) (Some file) false ≡ d = cc in
        (sym (ap (λ (x : Database). x.from_text) is), sym (ap (λ (x : Database). x.file) is))
    go (Some cause) e = absurd cc

pub text_alone : (begins other : Bool) (text : List ℕ) → root_database begins None (Some text) ≡ root_database other None (Some text)
text_alone begins other text = refl

pub by_text : (begins : Bool) (text : List ℕ) (d : Database) → root_database begins None (Some text) ≡ Ok d → (d.from_text ≡ true) × (d.file ≡ None)
by_text begins text d e = go (payload_of_text text) e
  where
    go : (r : Result (List ℕ) V2Fault) → payload_database r ≡ Ok d → (d.from_text ≡ true) × (d.file ≡ None)
    go (Ok payload) e =
        let is : database_of_packages_file_and_is_text (entries_of_field_at_index IDB_PACKAGES_INDEX (root_value_of_payload Idb payload)) None true ≡ d = cc in
        (sym (ap (λ (x : Database). x.from_text) is), sym (ap (λ (x : Database). x.file) is))
    go (Err (Bad cause)) e = absurd cc
    go (Err (TooLarge bytes values)) e = absurd cc
    go (Err Memory) e = absurd cc

pub begun : (d : Database) → root_database true None None ≡ Ok d → (d.packages ≡ []) × (d.from_text ≡ false) × (d.file ≡ None)
begun d e =
    let is : database_of_packages_file_and_is_text [] None false ≡ d = cc in
    (sym (ap (λ (x : Database). x.packages) is), sym (ap (λ (x : Database). x.from_text) is), sym (ap (λ (x : Database). x.file) is))

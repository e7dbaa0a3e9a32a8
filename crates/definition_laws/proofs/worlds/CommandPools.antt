-- The candidates of a command are those of the indexes and of the database.
use Rattle.std.proofs.Common.{◌≡◌, ◌⊎◌, ◌≤◌, inl, inr, ℕ, zero, suc, ◌+◌, Bool, true, false, true≢false, List, [], ◌∷◌, length, Option, Some, None, Ok, Err, refl, ap, sym, subst, ◌∙◌, arith}
use Rattle.std.specs.Prelude.{slice_get, nat_lt, if◌then◌else◌}
use Rattle.std.specs.List.{list_any}
use Rattle.std.proofs.lemmas.Bool.{ltb-false}
use Rattle.engine_core.specs.adb_fields.FirstPair.{IsIn}
use Rattle.engine_core.specs.adb_fields.Repeated.{entries_of_field_at_index, list_of}
use Rattle.engine_core.specs.adb_schema.Soundness.{container_fault_except_contents, payload_in, root_value_of_payload}
use Rattle.adb_view.specs.FieldIndexes.{INDEX_PACKAGES_INDEX}
use Rattle.adb_view.specs.Values.{entries_in, entry_at_index}
use Rattle.adb_view.specs.declared.tables.Which.TheVariants.{Index}
use Rattle.adb_view.specs.Plain.{Plain, Plains, none, more}
use Rattle.base_core.specs.declared.cause.Cause.{Cause}
use Rattle.engine_core.specs.candidate_core.Candidates.{Candidate, as_installed, candidate_of, candidates_of_index, is_repository_package_same_as_installed}
use Rattle.engine_core.specs.candidate_core.Rank.{SelectionProblem, UpgradedNames, selection_problem_from_parts}
use Rattle.engine_core.specs.candidate_core.declared.candidate_list.TheConstants.{MOST_CANDIDATES}
use Rattle.engine_core.specs.change_inputs.Candidates.{candidates_of_repositories_from, candidates_of, installed_candidate, root_pool}
use Rattle.engine_core.specs.change_inputs.Chains.{and_then, unless_cause}
use Rattle.engine_core.specs.change_inputs.Indexes.{file_or_index_missing, index_files_from, index_in_file, indexes_in_files}
use Rattle.engine_core.specs.change_inputs.Inputs.{Inputs, first_index_read_number, index_reads_from, indexes_of, inputs_from_parts, inputs_of, root_for}
use Rattle.command_core.specs.Command.{CommandLine}
use Rattle.dep_core.specs.Repositories.{Repository}
use Rattle.engine_core.specs.make_info.Reads.{Reads}
use Rattle.report_core.specs.declared.refusal.Refusal.TheVariants.{IndexBad, TooMany}
use Rattle.definition_laws.specs.worlds.CommandPool.{AreCandidates, IsCandidateFor, IsInstalledAlone, IsOfIndex, IsIndexed}
use Rattle.definition_laws.proofs.worlds.InstalledCounted.{IsCounted, all_back, all_there, in_any, in_append, in_left, in_right, installed_there}
use Rattle.definition_laws.proofs.worlds.ReadWorlds.{and_then_ok}

-- ---- the packages of one index

of_index : (n : ℕ) (tag : Option (List ℕ)) (infos : Plains) (c : Candidate) → IsIn c (candidates_of_index n tag infos) → (info : Plain) × IsIn info (list_of infos) × (c ≡ candidate_of info (Some n) tag false)
of_index n tag none c here = absurd here
of_index n tag (more info infos) c (inl is) = (info, inl refl, is)
of_index n tag (more info infos) c (inr behind) = let rest = of_index n tag infos c behind in (rest.0, inr rest.1, rest.2)

in_index : (n : ℕ) (tag : Option (List ℕ)) (infos : Plains) (info : Plain) → IsIn info (list_of infos) → IsIn (candidate_of info (Some n) tag false) (candidates_of_index n tag infos)
in_index n tag none info here = absurd here
in_index n tag (more x infos) info (inl is) = inl (ap (λ (i : Plain). candidate_of i (Some n) tag false) is)
in_index n tag (more x infos) info (inr behind) = inr (in_index n tag infos info behind)

-- ---- what is read of the indexes

module _ (read : Reads) where
  -- the values are those of the files that are found
  abbrev AreValues : ℕ → List Repository → List Plain → Type 0
  AreValues n [] values = Unit {0}
  AreValues n (x ∷ rs) [] = ⊥
  AreValues n (x ∷ rs) (value ∷ values) =
      ((file : List ℕ) × (read n x.path ≡ Some file) × (value ≡ root_value_of_payload Index (payload_in file))) × AreValues (suc n) rs values

  value_in : (number : ℕ) (file : List ℕ) (value : Plain) → index_in_file number file ≡ Ok value → value ≡ root_value_of_payload Index (payload_in file)
  value_in number file value e = by (container_fault_except_contents Index file) e
    where
      by : (fault : Option Cause) → unless_cause (IndexBad number) fault (root_value_of_payload Index (payload_in file)) ≡ Ok value → value ≡ root_value_of_payload Index (payload_in file)
      by None e = let same : root_value_of_payload Index (payload_in file) ≡ value = cc in sym same
      by (Some cause) e = absurd (cc (e))

  are_values : (n number : ℕ) (rs : List Repository) (files : List (List ℕ)) (values : List Plain) → index_files_from number (index_reads_from read n rs) ≡ Ok files → indexes_in_files number files ≡ Ok values → AreValues n rs values
  are_values n number [] files values found e = tt
  are_values n number (x ∷ rs) files values found e = by_read (read n x.path) refl (λ others rest found e. are_values (suc n) (number + 1) rs others rest found e) found
    where
      by_values : (file : List ℕ) (others : List (List ℕ)) → read n x.path ≡ Some file → ((rest : List Plain) → indexes_in_files (number + 1) others ≡ Ok rest → AreValues (suc n) rs rest)
          → (all : List Plain) → indexes_in_files number (file ∷ others) ≡ Ok all → AreValues n (x ∷ rs) all
      by_values file others here rest_of all e =
          let first = and_then_ok (index_in_file number file) (λ index. and_then (indexes_in_files (number + 1) others) (λ indexes. Ok (index ∷ indexes))) all e in
          let rest = and_then_ok (indexes_in_files (number + 1) others) (λ indexes. Ok (first.0 ∷ indexes)) all first.2 in
          let same : first.0 ∷ rest.0 ≡ all = (let last = rest.2 in cc) in
          subst (AreValues n (x ∷ rs)) same ((file, here, value_in number file first.0 first.1), rest_of rest.0 rest.1)

      by_read : (file : Option (List ℕ)) → read n x.path ≡ file
          → ((others : List (List ℕ)) (rest : List Plain) → index_files_from (number + 1) (index_reads_from read (suc n) rs) ≡ Ok others → indexes_in_files (number + 1) others ≡ Ok rest → AreValues (suc n) rs rest)
          → and_then (file_or_index_missing number file) (λ file. and_then (index_files_from (number + 1) (index_reads_from read (suc n) rs)) (λ files. Ok (file ∷ files))) ≡ Ok files → AreValues n (x ∷ rs) values
      by_read None here rest_of k = absurd (cc (k))
      by_read (Some file) here rest_of k =
          let others = and_then_ok (index_files_from (number + 1) (index_reads_from read (suc n) rs)) (λ files. Ok (file ∷ files)) files k in
          let same : files ≡ file ∷ others.0 = (let last = others.2 in cc) in
          by_values file others.0 here (λ rest d. rest_of others.0 rest others.1 d) values (sym (ap (indexes_in_files number) same) ∙ e)

  -- ---- the packages of all indexes

  -- a candidate is a package in the index of one of these repositories, of which the first has the
  -- read n and the number m
  record IsFromOne (n m : ℕ) (rs : List Repository) (c : Candidate) : Type 0 where
    pub place : ℕ
    pub repository : Repository
    pub listed : slice_get rs place ≡ Some repository
    pub file : List ℕ
    pub is_index : read (n + place) repository.path ≡ Some file
    pub info : Plain
    pub has : IsIn info (entries_of_field_at_index INDEX_PACKAGES_INDEX (root_value_of_payload Index (payload_in file)))
    pub is : c ≡ candidate_of info (Some (m + place)) repository.tag false

  later : (n m : ℕ) (x : Repository) (rs : List Repository) (c : Candidate) → IsFromOne (suc n) (m + 1) rs c → IsFromOne n m (x ∷ rs) c
  later n m x rs c f =
      let k : suc n + f.place ≡ n + suc f.place = omega arith in
      let j : (m + 1) + f.place ≡ m + suc f.place = omega arith in
      record {
        place = suc f.place;
        repository = f.repository;
        listed = f.listed;
        file = f.file;
        is_index = ap (λ i. read i f.repository.path) (sym k) ∙ f.is_index;
        info = f.info;
        has = f.has;
        is = f.is ∙ ap (λ i. candidate_of f.info (Some i) f.repository.tag false) j;
      }

  from_one : (n m : ℕ) (rs : List Repository) (values : List Plain) (c : Candidate) → AreValues n rs values → IsIn c (candidates_of_repositories_from m rs values) → IsFromOne n m rs c
  from_one n m [] values c are here = absurd here
  from_one n m (x ∷ rs) [] c are here = absurd are
  from_one n m (x ∷ rs) (value ∷ values) c are here =
      elim (in_append c (candidates_of_index m x.tag (entries_in (entry_at_index value INDEX_PACKAGES_INDEX))) (candidates_of_repositories_from (m + 1) rs values) here) [
        | inl first ↦ (let found = of_index m x.tag (entries_in (entry_at_index value INDEX_PACKAGES_INDEX)) c first in
            let k : n + 0 ≡ n = omega arith in
            let j : m ≡ m + 0 = omega arith in
            record {
              place = 0;
              repository = x;
              listed = refl;
              file = are.0.0;
              is_index = ap (λ i. read i x.path) k ∙ are.0.1;
              info = found.0;
              has = subst (λ (v : Plain). IsIn found.0 (entries_of_field_at_index INDEX_PACKAGES_INDEX v)) are.0.2 found.1;
              is = found.2 ∙ ap (λ i. candidate_of found.0 (Some i) x.tag false) j;
            })
        | inr behind ↦ later n m x rs c (from_one (suc n) (m + 1) rs values c are.1 behind)
      ]

  from_all : (n m : ℕ) (rs : List Repository) (values : List Plain) → AreValues n rs values → (place : ℕ) (repository : Repository) (info : Plain) (file : List ℕ) → slice_get rs place ≡ Some repository
      → read (n + place) repository.path ≡ Some file → IsIn info (entries_of_field_at_index INDEX_PACKAGES_INDEX (root_value_of_payload Index (payload_in file)))
      → IsIn (candidate_of info (Some (m + place)) repository.tag false) (candidates_of_repositories_from m rs values)
  from_all n m [] values are place repository info file listed found has = absurd (cc (listed))
  from_all n m (x ∷ rs) [] are place repository info file listed found has = absurd are
  from_all n m (x ∷ rs) (value ∷ values) are zero repository info file listed found has =
      let k : n + 0 ≡ n = omega arith in
      let j : m ≡ m + 0 = omega arith in
      let same : x ≡ repository = cc in
      let both : Some are.0.0 ≡ Some file = sym are.0.1 ∙ (ap (λ i. read i x.path) (sym k) ∙ (ap (λ (r : Repository). read (n + 0) r.path) same ∙ found)) in
      let one : are.0.0 ≡ file = cc in
      let value_is : root_value_of_payload Index (payload_in file) ≡ value = ap (λ f. root_value_of_payload Index (payload_in f)) (sym one) ∙ sym are.0.2 in
      let here = in_index m x.tag (entries_in (entry_at_index value INDEX_PACKAGES_INDEX)) info (subst (λ (v : Plain). IsIn info (entries_of_field_at_index INDEX_PACKAGES_INDEX v)) value_is has) in
      let named : candidate_of info (Some m) x.tag false ≡ candidate_of info (Some (m + 0)) repository.tag false =
      ap (λ i. candidate_of info (Some i) x.tag false) j ∙ ap (λ (r : Repository). candidate_of info (Some (m + 0)) r.tag false) same in
      in_left (candidate_of info (Some (m + 0)) repository.tag false) (candidates_of_index m x.tag (entries_in (entry_at_index value INDEX_PACKAGES_INDEX))) (candidates_of_repositories_from (m + 1) rs values)
      (subst (λ (c : Candidate). IsIn c (candidates_of_index m x.tag (entries_in (entry_at_index value INDEX_PACKAGES_INDEX)))) named here)
  from_all n m (x ∷ rs) (value ∷ values) are (suc place) repository info file listed found has =
      let k : suc n + place ≡ n + suc place = omega arith in
      let j : (m + 1) + place ≡ m + suc place = omega arith in
      let behind = from_all (suc n) (m + 1) rs values are.1 place repository info file listed (ap (λ i. read i repository.path) k ∙ found) has in
      in_right (candidate_of info (Some (m + suc place)) repository.tag false) (candidates_of_index m x.tag (entries_in (entry_at_index value INDEX_PACKAGES_INDEX))) (candidates_of_repositories_from (m + 1) rs values)
      (subst (λ i. IsIn (candidate_of info (Some i) repository.tag false) (candidates_of_repositories_from (m + 1) rs values)) j behind)

  -- ---- with the installed packages

  module _ (inputs : Inputs) (are : AreValues first_index_read_number inputs.root.repositories inputs.indexes) where
    abbrev offers : List Candidate
    offers = candidates_of_repositories_from 1 inputs.root.repositories inputs.indexes

    abbrev packages : List Plain
    packages = inputs.root.database.packages

    one_of : (was : Candidate) → IsIn was offers → IsFromOne first_index_read_number 1 inputs.root.repositories was
    one_of was here = from_one first_index_read_number 1 inputs.root.repositories inputs.indexes was are here

    -- a package of an index, as it counts
    of_one : (was c : Candidate) → IsFromOne first_index_read_number 1 inputs.root.repositories was → IsCounted packages was c → IsOfIndex inputs read c
    of_one was c f (inl is) =
        let named : c ≡ candidate_of f.info (Some (1 + f.place)) f.repository.tag true = is.0 ∙ ap as_installed f.is in
        record {
          place = f.place;
          repository = f.repository;
          info = f.info;
          indexed = record { listed = f.listed; file = f.file; is_index = f.is_index; has = f.has };
          is = named ∙ ap (λ t. candidate_of f.info (Some (1 + f.place)) f.repository.tag t) (sym (ap (λ (x : Candidate). x.installed) named));
          counts = (λ on. (is.1.0, is.1.1, ap (is_repository_package_same_as_installed (installed_candidate is.1.0)) is.0 ∙ is.1.2), λ same. ap (λ (x : Candidate). x.installed) named);
        }
    of_one was c f (inr is) =
        let named : c ≡ candidate_of f.info (Some (1 + f.place)) f.repository.tag false = is.0 ∙ f.is in
        let off : c.installed ≡ false = ap (λ (x : Candidate). x.installed) named in
        record {
          place = f.place;
          repository = f.repository;
          info = f.info;
          indexed = record { listed = f.listed; file = f.file; is_index = f.is_index; has = f.has };
          is = named ∙ ap (λ t. candidate_of f.info (Some (1 + f.place)) f.repository.tag t) (sym off);
          counts = (λ on. absurd (true≢false (sym on ∙ off)), λ same. absurd (true≢false (sym same.2 ∙ (ap (is_repository_package_same_as_installed (installed_candidate same.0)) is.0 ∙ is.1 same.0 same.1))));
        }

    -- an installed package is the same as none that no index has
    none_else : (pkg : Plain) → list_any (is_repository_package_same_as_installed (installed_candidate pkg)) offers ≡ false → (other : Candidate) → IsIn other (candidates_of inputs) → is_repository_package_same_as_installed (installed_candidate pkg) other ≡ false
    none_else pkg alone other here = by (is_repository_package_same_as_installed (installed_candidate pkg) other) refl (all_back packages offers other here)
      where
        still : (was : Candidate) → IsIn was offers → IsCounted packages was other → is_repository_package_same_as_installed (installed_candidate pkg) other ≡ true → is_repository_package_same_as_installed (installed_candidate pkg) was ≡ true
        still was at (inl is) e = sym (ap (is_repository_package_same_as_installed (installed_candidate pkg)) is.0) ∙ e
        still was at (inr is) e = sym (ap (is_repository_package_same_as_installed (installed_candidate pkg)) is.0) ∙ e

        by : (t : Bool) → is_repository_package_same_as_installed (installed_candidate pkg) other ≡ t
            → ((was : Candidate) × IsIn was offers × IsCounted packages was other) ⊎ ((p : Plain) × IsIn p packages × (other ≡ installed_candidate p) × (list_any (is_repository_package_same_as_installed (installed_candidate p)) offers ≡ false)) → t ≡ false
        by false e from = refl
        by true e (inl from) = absurd (true≢false (sym (in_any (is_repository_package_same_as_installed (installed_candidate pkg)) offers from.0 from.1 (still from.0 from.1 from.2 e)) ∙ alone))
        by true e (inr apart) = absurd (true≢false (sym e ∙ ap (is_repository_package_same_as_installed (installed_candidate pkg)) apart.2))

    each_is : (c : Candidate) → IsIn c (candidates_of inputs) → IsOfIndex inputs read c ⊎ IsInstalledAlone inputs (candidates_of inputs) c
    each_is c here = elim (all_back packages offers c here) [
      | inl from ↦ inl (of_one from.0 c (one_of from.0 from.1) from.2)
      | inr alone ↦ inr (record {
        pkg = alone.0;
        installed = alone.1;
        is = alone.2;
        alone = λ other at. ap (λ (x : Candidate). is_repository_package_same_as_installed x other) alone.2 ∙ none_else alone.0 alone.3 other at;
      })
    ]

    candidate_for : (place : ℕ) (repository : Repository) (info : Plain) (was c : Candidate) → was ≡ candidate_of info (Some (1 + place)) repository.tag false → IsCounted packages was c → IsCandidateFor place repository info c
    candidate_for place repository info was c named (inl is) =
        let e : c ≡ candidate_of info (Some (1 + place)) repository.tag true = is.0 ∙ ap as_installed named in
        e ∙ ap (λ t. candidate_of info (Some (1 + place)) repository.tag t) (sym (ap (λ (x : Candidate). x.installed) e))
    candidate_for place repository info was c named (inr is) =
        let e : c ≡ candidate_of info (Some (1 + place)) repository.tag false = is.0 ∙ named in
        e ∙ ap (λ t. candidate_of info (Some (1 + place)) repository.tag t) (sym (ap (λ (x : Candidate). x.installed) e))

    of_indexes_is : (place : ℕ) (repository : Repository) (info : Plain) → IsIndexed inputs read place repository info → (c : Candidate) × IsIn c (candidates_of inputs) × IsCandidateFor place repository info c
    of_indexes_is place repository info indexed =
        let here = from_all first_index_read_number 1 inputs.root.repositories inputs.indexes are place repository info indexed.file indexed.listed indexed.is_index indexed.has in
        let there = all_there packages offers (candidate_of info (Some (1 + place)) repository.tag false) here in
        (there.0, there.1, candidate_for place repository info (candidate_of info (Some (1 + place)) repository.tag false) there.0 refl there.2)

    pub are_candidates : AreCandidates inputs read (candidates_of inputs)
    are_candidates = record {
      each = each_is;
      of_indexes = of_indexes_is;
      installed = λ pkg here. (let there = installed_there packages offers pkg here in (there.0, there.1, there.2.0, there.2.1));
    }

-- ---- by the inputs

pub candidates_are : (command : CommandLine) (read : Reads) (inputs : Inputs) → inputs_of command read ≡ Ok inputs → AreCandidates inputs read (candidates_of inputs)
unfolding inputs_of
candidates_are command read inputs e =
    let root = and_then_ok (root_for command read) _ inputs e in
    let indexes = and_then_ok (indexes_of read root.0.repositories) (λ indexes. Ok (inputs_from_parts root.0 indexes)) inputs root.2 in
    let files = and_then_ok (index_files_from 1 (index_reads_from read first_index_read_number root.0.repositories)) (indexes_in_files 1) indexes.0 indexes.1 in
    let same : inputs_from_parts root.0 indexes.0 ≡ inputs = (let last = indexes.2 in cc) in
    subst (λ (i : Inputs). AreCandidates i read (candidates_of i)) same
    (are_candidates read (inputs_from_parts root.0 indexes.0) (are_values read first_index_read_number 1 root.0.repositories files.0 indexes.0 files.1 files.2))

-- the candidates of a pool are not too many, and its world is the new one
pub record IsRootPool (inputs : Inputs) (upgraded : UpgradedNames) (pool : SelectionProblem) : Type 0 where
  pub is : pool ≡ selection_problem_from_parts (candidates_of inputs) inputs.root.new_world upgraded
  pub few : length (candidates_of inputs) ≤ MOST_CANDIDATES

pub root_pool_is : (inputs : Inputs) (upgraded : UpgradedNames) (pool : SelectionProblem) → root_pool inputs upgraded ≡ Ok pool → IsRootPool inputs upgraded pool
unfolding root_pool
root_pool_is inputs upgraded pool e = by (nat_lt MOST_CANDIDATES (length (candidates_of inputs))) refl e
  where
    by : (t : Bool) → nat_lt MOST_CANDIDATES (length (candidates_of inputs)) ≡ t
        → (if t then Err (TooMany (MOST_CANDIDATES + 1)) else Ok (selection_problem_from_parts (candidates_of inputs) inputs.root.new_world upgraded)) ≡ Ok pool → IsRootPool inputs upgraded pool
    by true t e = absurd (cc (e))
    by false t e =
        let same : selection_problem_from_parts (candidates_of inputs) inputs.root.new_world upgraded ≡ pool = cc in
        record { is = sym same; few = ltb-false _ _ t }

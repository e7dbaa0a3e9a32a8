-- What was read without a refusal before a later one.
use Rattle.std.proofs.Common.{◌≡◌, ◌<◌, inl, inr, ◌∙◌, ℕ, zero, suc, ◌+◌, Bool, true, false, List, [], ◌∷◌, Option, Some, None, Result, Ok, Err, refl, ap, sym, subst, arith}
use Rattle.std.specs.Prelude.{slice_get}
use Rattle.outcome.specs.adb_schema.Soundness.{container_fault_except_contents}
use Rattle.adb_view.specs.declared.tables.Which.TheVariants.{Idb, Index}
use Rattle.base_core.specs.declared.cause.Cause.{Cause}
use Rattle.outcome.specs.change_inputs.Chains.{and_then, with_error_as_refusal, unless_cause}
use Rattle.outcome.specs.change_inputs.Database.{payload_database, root_database}
use Rattle.outcome.specs.change_inputs.Indexes.{file_or_index_missing, index_files_from, index_in_file, indexes_in_files}
use Rattle.outcome.specs.change_inputs.Inputs.{Root, database_read_number, first_index_read_number, index_reads_from, indexes_of, inputs_from_parts, inputs_of, root_with_new_world_of_command, root_for, text_database_read_number, world_read_number}
use Rattle.outcome.specs.change_inputs.Repositories.{repositories_if_untrusted_allowed, root_repositories}
use Rattle.outcome.specs.change_inputs.World.{root_world, found_text_or_empty}
use Rattle.command_core.specs.Command.{CommandLine}
use Rattle.dep_core.specs.Repositories.{Repository, repositories_of}
use Rattle.dep_core.specs.World.{world_of}
use Rattle.outcome.specs.make_info.Reads.{Reads}
use Rattle.report_core.specs.declared.refusal.Refusal.{Refusal}
use Rattle.report_core.specs.declared.refusal.Refusal.TheVariants.{DatabaseBad, IndexBad, IndexMissing, NoDatabase, RepositoriesBad, ResultTooLarge, Untrusted, WorldBad}
use Rattle.root_names.specs.RootNames.{database_name, text_database_name, world_name}
use Rattle.outcome.specs.v2_core.Payload.{payload_of_text}
use Rattle.outcome.specs.v2_core.declared.read.V2Fault.{V2Fault}
use Rattle.outcome.specs.v2_core.declared.read.V2Fault.TheVariants.{Bad, Memory, TooLarge}
use Rattle.refusal_laws.specs.InputFaults.{IsIndexRead, repositories_file_text}
use Rattle.refusal_laws.specs.ReadBefore.{AreEarlierIndexesSound, HasDatabaseAndWorld, HasDatabase, HasIndexes, HasIndexesBefore, AllowsUntrusted, HasPassedTestsBeforeInputRefusal}
use Rattle.refusal_laws.proofs.InputFaults.{as_err, cause_err, no_refusal, root_listed, world_then}
use Rattle.refusal_laws.proofs.Lists.{and_then_err, and_then_ok}

module _ (command : CommandLine) (read : Reads) where
  abbrev IsSo : Refusal → Type 0
  IsSo refusal = HasPassedTestsBeforeInputRefusal command read refusal

  payload_told : (payload : Result (List ℕ) V2Fault) (refusal : Refusal) → payload_database payload ≡ Err refusal → IsSo refusal
  payload_told (Ok payload) refusal e = absurd (cc (e))
  payload_told (Err (Bad cause)) refusal e = let same : DatabaseBad cause ≡ refusal = cc in subst IsSo same tt
  payload_told (Err (TooLarge bytes values)) refusal e = let same : ResultTooLarge bytes values ≡ refusal = cc in subst IsSo same tt
  payload_told (Err Memory) refusal e = let same : NoDatabase ≡ refusal = cc in subst IsSo same tt

  database_told : (may_begin : Bool) (file text : Option (List ℕ)) (refusal : Refusal) → root_database may_begin file text ≡ Err refusal → IsSo refusal
  database_told may_begin (Some file) text refusal e = let why = cause_err DatabaseBad (container_fault_except_contents Idb file) _ refusal e in subst IsSo why.2 tt
  database_told may_begin None (Some text) refusal e = payload_told (payload_of_text text) refusal e
  database_told true None None refusal e = absurd (cc (e))
  database_told false None None refusal e = let same : NoDatabase ≡ refusal = cc in subst IsSo same tt

  world_told : (refusal : Refusal) → HasDatabase command read → root_world (found_text_or_empty (read world_read_number world_name)) ≡ Err refusal → IsSo refusal
  world_told refusal has e = let why = as_err WorldBad (world_of (found_text_or_empty (read world_read_number world_name))) refusal e in subst IsSo why.2 has

  trusted_told : (is_allowed : Bool) (repositories : List Repository) (refusal : Refusal) → HasDatabaseAndWorld command read → repositories_if_untrusted_allowed is_allowed repositories ≡ Err refusal → IsSo refusal
  trusted_told is_allowed [] refusal has e = absurd (cc (e))
  trusted_told true (repository ∷ others) refusal has e = absurd (cc (e))
  trusted_told false (repository ∷ others) refusal has e = let same : Untrusted ≡ refusal = cc in subst IsSo same has

  repositories_told : (refusal : Refusal) → HasDatabaseAndWorld command read → root_repositories command.flags.allow_untrusted (repositories_file_text read) ≡ Err refusal → IsSo refusal
  repositories_told refusal has e =
      elim (and_then_err (with_error_as_refusal RepositoriesBad (repositories_of (repositories_file_text read))) (repositories_if_untrusted_allowed command.flags.allow_untrusted) refusal e) [
        | inl first ↦ (let why = as_err RepositoriesBad (repositories_of (repositories_file_text read)) refusal first in subst IsSo why.2 has)
        | inr next ↦ trusted_told command.flags.allow_untrusted next.0 refusal has next.2
      ]

  root_told : (refusal : Refusal) → root_for command read ≡ Err refusal → IsSo refusal
  root_told refusal e =
      elim (and_then_err (root_database command.flags.initdb (read database_read_number database_name) (read text_database_read_number text_database_name)) (λ database.
      and_then (root_world (found_text_or_empty (read world_read_number world_name))) (world_then command read database)) refusal e) [
        | inl first ↦ database_told command.flags.initdb (read database_read_number database_name) (read text_database_read_number text_database_name) refusal first
        | inr next ↦ elim (and_then_err (root_world (found_text_or_empty (read world_read_number world_name))) (world_then command read next.0) refusal next.2) [
          | inl second ↦ world_told refusal (next.0, next.1) second
          | inr third ↦ elim (and_then_err (root_repositories command.flags.allow_untrusted (repositories_file_text read)) (λ repositories.
              Ok (root_with_new_world_of_command command next.0 (found_text_or_empty (read world_read_number world_name)) third.0 repositories)) refusal third.2) [
                | inl last ↦ repositories_told refusal ((next.0, next.1), (third.0, third.1)) last
                | inr done ↦ absurd (no_refusal (root_with_new_world_of_command command next.0 (found_text_or_empty (read world_read_number world_name)) third.0 done.0) refusal done.2)
              ]
        ]
      ]

  has_both : (root : Root) → root_for command read ≡ Ok root → HasDatabaseAndWorld command read
  has_both root e =
      let database = and_then_ok (root_database command.flags.initdb (read database_read_number database_name) (read text_database_read_number text_database_name)) (λ database.
      and_then (root_world (found_text_or_empty (read world_read_number world_name))) (world_then command read database)) root e in
      let world = and_then_ok (root_world (found_text_or_empty (read world_read_number world_name))) (world_then command read database.0) root database.2 in
      ((database.0, database.1), (world.0, world.1))

  -- ---- leave

  trusted : (is_allowed : Bool) (repository : Repository) (others kept : List Repository) → repositories_if_untrusted_allowed is_allowed (repository ∷ others) ≡ Ok kept → is_allowed ≡ true
  trusted true repository others kept e = refl
  trusted false repository others kept e = absurd (cc (e))

  some_trusted : (is_allowed : Bool) (repositories : List Repository) (repository : Repository) (others : List Repository) → repositories_if_untrusted_allowed is_allowed repositories ≡ Ok (repository ∷ others) → is_allowed ≡ true
  some_trusted is_allowed [] repository others e = absurd (cc (e))
  some_trusted is_allowed (x ∷ xs) repository others e = trusted is_allowed x xs (repository ∷ others) e

  leave_then : (kept : List Repository) → root_repositories command.flags.allow_untrusted (repositories_file_text read) ≡ Ok kept → (repository : Repository) (others : List Repository) → kept ≡ repository ∷ others
      → command.flags.allow_untrusted ≡ true
  leave_then kept e repository others is =
      let all = and_then_ok (with_error_as_refusal RepositoriesBad (repositories_of (repositories_file_text read))) (repositories_if_untrusted_allowed command.flags.allow_untrusted) kept e in
      some_trusted command.flags.allow_untrusted all.0 repository others (all.2 ∙ ap Ok is)

  leave : (root : Root) → root_for command read ≡ Ok root → (repository : Repository) (others : List Repository) → root.repositories ≡ repository ∷ others → command.flags.allow_untrusted ≡ true
  leave root e repository others is =
      let database = and_then_ok (root_database command.flags.initdb (read database_read_number database_name) (read text_database_read_number text_database_name)) (λ database.
      and_then (root_world (found_text_or_empty (read world_read_number world_name))) (world_then command read database)) root e in
      let world = and_then_ok (root_world (found_text_or_empty (read world_read_number world_name))) (world_then command read database.0) root database.2 in
      let listed = and_then_ok (root_repositories command.flags.allow_untrusted (repositories_file_text read)) (λ repositories.
      Ok (root_with_new_world_of_command command database.0 (found_text_or_empty (read world_read_number world_name)) world.0 repositories)) root world.2 in
      let same : root_with_new_world_of_command command database.0 (found_text_or_empty (read world_read_number world_name)) world.0 listed.0 ≡ root = (let last = listed.2 in cc) in
      leave_then listed.0 listed.1 repository others (ap (λ (x : Root). x.repositories) same ∙ is)

  -- ---- the indexes

  -- what is found under the path of a repository, among reads that begin with this one
  abbrev IsFoundAt : ℕ → List Repository → ℕ → Option (List ℕ) → Type 0
  IsFoundAt n rs i file = (x : Repository) × (slice_get rs i ≡ Some x) × (read (n + i) x.path ≡ file)

  found_after : (n i : ℕ) (x : Repository) (rs : List Repository) (file : Option (List ℕ)) → IsFoundAt n (x ∷ rs) (suc i) file → IsFoundAt (suc n) rs i file
  found_after n i x rs file (y, at, is) = let k : suc n + i ≡ n + suc i = omega arith in (y, at, ap (λ m. read m y.path) k ∙ is)

  found_first : (n : ℕ) (x : Repository) (rs : List Repository) (file other : Option (List ℕ)) → IsFoundAt n (x ∷ rs) 0 file → read n x.path ≡ other → file ≡ other
  found_first n x rs file other (y, at, is) here =
      let same : x ≡ y = cc in
      let k : n ≡ n + 0 = omega arith in
      sym is ∙ (ap (λ m. read m y.path) (sym k) ∙ (ap (λ (z : Repository). read n z.path) (sym same) ∙ here))

  -- each file is there
  all_found : (n number : ℕ) (rs : List Repository) (files : List (List ℕ)) → index_files_from number (index_reads_from read n rs) ≡ Ok files → (i : ℕ) → IsFoundAt n rs i None → ⊥
  all_found n number [] files e i none = absurd (let gone = none.1 in cc)
  all_found n number (x ∷ rs) files e i none = by_read (read n x.path) refl (all_found (suc n) (number + 1) rs) e i none
    where
      by_place : (file : List ℕ) → read n x.path ≡ Some file → ((j : ℕ) → IsFoundAt (suc n) rs j None → ⊥) → (j : ℕ) → IsFoundAt n (x ∷ rs) j None → ⊥
      by_place file here more zero none = let both : None ≡ Some file = found_first n x rs None (Some file) none here in cc
      by_place file here more (suc j) none = more j (found_after n j x rs None none)

      by_read : (file : Option (List ℕ)) → read n x.path ≡ file
          → ((others : List (List ℕ)) → index_files_from (number + 1) (index_reads_from read (suc n) rs) ≡ Ok others → (j : ℕ) → IsFoundAt (suc n) rs j None → ⊥)
          → and_then (file_or_index_missing number file) (λ file. and_then (index_files_from (number + 1) (index_reads_from read (suc n) rs)) (λ files. Ok (file ∷ files))) ≡ Ok files → (j : ℕ) → IsFoundAt n (x ∷ rs) j None → ⊥
      by_read None here more e j none = absurd (cc (e))
      by_read (Some file) here more e j none =
          let others = and_then_ok (index_files_from (number + 1) (index_reads_from read (suc n) rs)) (λ files. Ok (file ∷ files)) files e in
          by_place file here (more others.0 others.1) j none

  -- one is the first that is absent
  record IsFirstMissing (n number : ℕ) (rs : List Repository) (refusal : Refusal) : Type 0 where
    pub place : ℕ
    pub told : refusal ≡ IndexMissing (number + place)
    pub first : Repository
    pub located : slice_get rs place ≡ Some first
    pub before : (i : ℕ) → i < place → IsFoundAt n rs i None → ⊥

  first_missing : (n number : ℕ) (rs : List Repository) (refusal : Refusal) → index_files_from number (index_reads_from read n rs) ≡ Err refusal → IsFirstMissing n number rs refusal
  first_missing n number [] refusal e = absurd (cc (e))
  first_missing n number (x ∷ rs) refusal e = by_read (read n x.path) refl (first_missing (suc n) (number + 1) rs refusal) e
    where
      behind : (file : List ℕ) → read n x.path ≡ Some file → (place : ℕ) → ((i : ℕ) → i < place → IsFoundAt (suc n) rs i None → ⊥) → (i : ℕ) → i < suc place → IsFoundAt n (x ∷ rs) i None → ⊥
      behind file here place more zero h none = let both : None ≡ Some file = found_first n x rs None (Some file) none here in cc
      behind file here place more (suc i) h none = more i (omega (arith, h)) (found_after n i x rs None none)

      later : (file : List ℕ) → read n x.path ≡ Some file → IsFirstMissing (suc n) (number + 1) rs refusal → IsFirstMissing n number (x ∷ rs) refusal
      later file here f =
          let k : (number + 1) + f.place ≡ number + suc f.place = omega arith in
          record { place = suc f.place; told = f.told ∙ ap IndexMissing k; first = f.first; located = f.located; before = behind file here f.place f.before }

      by_read : (file : Option (List ℕ)) → read n x.path ≡ file → (index_files_from (number + 1) (index_reads_from read (suc n) rs) ≡ Err refusal → IsFirstMissing (suc n) (number + 1) rs refusal)
          → and_then (file_or_index_missing number file) (λ file. and_then (index_files_from (number + 1) (index_reads_from read (suc n) rs)) (λ files. Ok (file ∷ files))) ≡ Err refusal → IsFirstMissing n number (x ∷ rs) refusal
      by_read None here more e =
          let same : IndexMissing number ≡ refusal = cc in
          let k : number ≡ number + 0 = omega arith in
          record { place = 0; told = sym same ∙ ap IndexMissing k; first = x; located = refl; before = λ i h none. absurd (omega (arith, h)) }
      by_read (Some file) here more e =
          elim (and_then_err (index_files_from (number + 1) (index_reads_from read (suc n) rs)) (λ files. Ok (file ∷ files)) refusal e) [
            | inl others ↦ later file here (more others)
            | inr last ↦ absurd (no_refusal (file ∷ last.0) refusal last.2)
          ]

  -- one is the first that fails a test
  record IsFirstBad (n number : ℕ) (rs : List Repository) (refusal : Refusal) : Type 0 where
    pub place : ℕ
    pub cause : Cause
    pub told : refusal ≡ IndexBad (number + place) cause
    pub first : Repository
    pub located : slice_get rs place ≡ Some first
    pub before : (i : ℕ) (file : List ℕ) → i < place → IsFoundAt n rs i (Some file) → container_fault_except_contents Index file ≡ None

  passed : {A : Type 0} (refused : Cause → Refusal) (fault : Option Cause) (a b : A) → unless_cause refused fault a ≡ Ok b → fault ≡ None
  passed refused None a b e = refl
  passed refused (Some cause) a b e = absurd (cc (e))

  first_bad : (n number : ℕ) (rs : List Repository) (files : List (List ℕ)) (refusal : Refusal) → index_files_from number (index_reads_from read n rs) ≡ Ok files → indexes_in_files number files ≡ Err refusal
      → IsFirstBad n number rs refusal
  first_bad n number [] files refusal found e = let none : [] ≡ files = cc in absurd (empty_fine files none e)
    where
      empty_fine : (files : List (List ℕ)) → [] ≡ files → indexes_in_files number files ≡ Err refusal → ⊥
      empty_fine [] none e = cc (e)
      empty_fine (file ∷ files) none e = cc (none)
  first_bad n number (x ∷ rs) files refusal found e =
      by_read (read n x.path) refl (λ others rest. first_bad (suc n) (number + 1) rs others refusal rest) found
    where
      one_passed : (file other : List ℕ) → container_fault_except_contents Index file ≡ None → Some other ≡ Some file → container_fault_except_contents Index other ≡ None
      one_passed file other none is = let same : other ≡ file = cc in ap (container_fault_except_contents Index) same ∙ none

      behind : (file : List ℕ) → read n x.path ≡ Some file → container_fault_except_contents Index file ≡ None → (place : ℕ) → ((i : ℕ) (other : List ℕ) → i < place → IsFoundAt (suc n) rs i (Some other) → container_fault_except_contents Index other ≡ None)
          → (i : ℕ) (other : List ℕ) → i < suc place → IsFoundAt n (x ∷ rs) i (Some other) → container_fault_except_contents Index other ≡ None
      behind file here none place more zero other h is = one_passed file other none (found_first n x rs (Some other) (Some file) is here)
      behind file here none place more (suc i) other h is = more i other (omega (arith, h)) (found_after n i x rs (Some other) is)

      later : (file : List ℕ) → read n x.path ≡ Some file → container_fault_except_contents Index file ≡ None → IsFirstBad (suc n) (number + 1) rs refusal → IsFirstBad n number (x ∷ rs) refusal
      later file here none f =
          let k : (number + 1) + f.place ≡ number + suc f.place = omega arith in
          record { place = suc f.place; cause = f.cause; told = f.told ∙ ap (λ m. IndexBad m f.cause) k; first = f.first; located = f.located; before = behind file here none f.place f.before }

      by_index : (file : List ℕ) (others : List (List ℕ)) → read n x.path ≡ Some file → (indexes_in_files (number + 1) others ≡ Err refusal → IsFirstBad (suc n) (number + 1) rs refusal) → indexes_in_files number (file ∷ others) ≡ Err refusal
          → IsFirstBad n number (x ∷ rs) refusal
      by_index file others here more e =
          elim (and_then_err (index_in_file number file) (λ index. and_then (indexes_in_files (number + 1) others) (λ indexes. Ok (index ∷ indexes))) refusal e) [
            | inl bad ↦ (let why = cause_err (IndexBad number) (container_fault_except_contents Index file) _ refusal bad in
                let k : number ≡ number + 0 = omega arith in
                record { place = 0; cause = why.0; told = sym why.2 ∙ ap (λ m. IndexBad m why.0) k; first = x; located = refl; before = λ i other h is. absurd (omega (arith, h)) })
            | inr next ↦ elim (and_then_err (indexes_in_files (number + 1) others) (λ indexes. Ok (next.0 ∷ indexes)) refusal next.2) [
              | inl rest ↦ later file here (passed (IndexBad number) (container_fault_except_contents Index file) _ next.0 next.1) (more rest)
              | inr last ↦ absurd (no_refusal (next.0 ∷ last.0) refusal last.2)
            ]
          ]

      by_read : (file : Option (List ℕ)) → read n x.path ≡ file
          → ((others : List (List ℕ)) → index_files_from (number + 1) (index_reads_from read (suc n) rs) ≡ Ok others → indexes_in_files (number + 1) others ≡ Err refusal → IsFirstBad (suc n) (number + 1) rs refusal)
          → and_then (file_or_index_missing number file) (λ file. and_then (index_files_from (number + 1) (index_reads_from read (suc n) rs)) (λ files. Ok (file ∷ files))) ≡ Ok files → IsFirstBad n number (x ∷ rs) refusal
      by_read None here more k = absurd (cc (k))
      by_read (Some file) here more k =
          let others = and_then_ok (index_files_from (number + 1) (index_reads_from read (suc n) rs)) (λ files. Ok (file ∷ files)) files k in
          let same : files ≡ file ∷ others.0 = (let last = others.2 in cc) in
          by_index file others.0 here (more others.0 others.1) (sym (ap (indexes_in_files number) same) ∙ e)

  -- ---- by the root

  module _ (root : Root) (is_root : root_for command read ≡ Ok root) where
    -- what is read of an index is found there
    found_at : (number place : ℕ) (file : Option (List ℕ)) (is : IsIndexRead read number file) → is.place ≡ place → IsFoundAt first_index_read_number root.repositories place file
    found_at number place file is at =
        let both : Ok is.repositories ≡ Ok root.repositories = sym is.listed ∙ root_listed command read root is_root in
        let same : is.repositories ≡ root.repositories = cc in (
          is.repository,
          ap (λ (rs : List Repository). slice_get rs place) (sym same) ∙ (ap (slice_get is.repositories) (sym at) ∙ is.is_repository),
          ap (λ m. read (first_index_read_number + m) is.repository.path) (sym at) ∙ is.is_file,
        )

    has_leave : (place : ℕ) (x : Repository) → slice_get root.repositories place ≡ Some x → AllowsUntrusted command read
    has_leave place x at = (has_both root is_root, (root.repositories, root_listed command read root is_root), by_list root.repositories refl at)
      where
        by_list : (rs : List Repository) → root.repositories ≡ rs → slice_get rs place ≡ Some x → command.flags.allow_untrusted ≡ true
        by_list [] is at = absurd (cc (at))
        by_list (y ∷ rs) is at = leave root is_root y rs is

    missing_told : (refusal : Refusal) → IsFirstMissing first_index_read_number 1 root.repositories refusal → IsSo refusal
    missing_told refusal f =
        let before : HasIndexesBefore read (1 + f.place) = λ earlier h is.
        (let less : is.place < f.place = (let number = is.is_number in omega (arith, h, number)) in f.before is.place less (found_at earlier is.place None is refl)) in
        subst IsSo (sym f.told) (has_leave f.place f.first f.located, before)

    bad_told : (files : List (List ℕ)) (refusal : Refusal) → index_files_from 1 (index_reads_from read first_index_read_number root.repositories) ≡ Ok files
        → IsFirstBad first_index_read_number 1 root.repositories refusal → IsSo refusal
    bad_told files refusal found f =
        let there : HasIndexes read = λ number is. all_found first_index_read_number 1 root.repositories files found is.place (found_at number is.place None is refl) in
        let before : AreEarlierIndexesSound read (1 + f.place) = λ earlier cause h is.
        (let less : is.is_read.place < f.place = (let number = is.is_read.is_number in omega (arith, h, number)) in
        let none = f.before is.is_read.place is.file less (found_at earlier is.is_read.place (Some is.file) is.is_read refl) in
        let both : Some cause ≡ None = sym is.fault ∙ none in cc) in
        subst IsSo (sym f.told) (has_leave f.place f.first f.located, there, before)

    indexes_told : (refusal : Refusal) → indexes_of read root.repositories ≡ Err refusal → IsSo refusal
    indexes_told refusal e =
        elim (and_then_err (index_files_from 1 (index_reads_from read first_index_read_number root.repositories)) (indexes_in_files 1) refusal e) [
          | inl missing ↦ missing_told refusal (first_missing first_index_read_number 1 root.repositories refusal missing)
          | inr next ↦ bad_told next.0 refusal next.1 (first_bad first_index_read_number 1 root.repositories next.0 refusal next.1 next.2)
        ]

  pub read_before : (refusal : Refusal) → inputs_of command read ≡ Err refusal → HasPassedTestsBeforeInputRefusal command read refusal
  unfolding inputs_of
  read_before refusal e =
      elim (and_then_err (root_for command read) (λ root. and_then (indexes_of read root.repositories) (λ indexes. Ok (inputs_from_parts root indexes))) refusal e) [
        | inl first ↦ root_told refusal first
        | inr next ↦ elim (and_then_err (indexes_of read next.0.repositories) (λ indexes. Ok (inputs_from_parts next.0 indexes)) refusal next.2) [
          | inl second ↦ indexes_told next.0 next.1 refusal second
          | inr last ↦ absurd (no_refusal (inputs_from_parts next.0 last.0) refusal last.2)
        ]
      ]

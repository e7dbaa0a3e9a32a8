-- A command that is refused for its input is refused for its fault.
use Rattle.std.proofs.Common.{◌≡◌, inl, inr, ◌∙◌, ℕ, suc, ◌+◌, Bool, true, false, List, [], ◌∷◌, Option, Some, None, Result, Ok, Err, refl, ap, sym, subst, arith}
use Rattle.std.specs.Prelude.{slice_get}
use Rattle.outcome.proofs.Lacking.{text_remembers}
use Rattle.outcome.specs.adb_schema.Soundness.{container_fault_except_contents}
use Rattle.adb_view.specs.declared.tables.Which.TheVariants.{Idb, Index}
use Rattle.base_core.specs.declared.cause.Cause.{Cause}
use Rattle.outcome.specs.change_inputs.Chains.{and_then, with_error_as_refusal, unless_cause}
use Rattle.outcome.specs.change_inputs.Database.{Database, payload_database, root_database}
use Rattle.outcome.specs.change_inputs.Indexes.{file_or_index_missing, index_files_from, index_in_file, indexes_in_files}
use Rattle.outcome.specs.change_inputs.Inputs.{Root, database_read_number, first_index_read_number, index_reads_from, indexes_of, inputs_from_parts, inputs_of, root_with_new_world_of_command, root_for, text_database_read_number, world_read_number}
use Rattle.outcome.specs.change_inputs.Repositories.{repositories_if_untrusted_allowed, root_repositories}
use Rattle.outcome.specs.change_inputs.World.{root_world, found_text_or_empty}
use Rattle.command_core.specs.Command.{CommandLine}
use Rattle.dep_core.specs.Dependency.{Dependency}
use Rattle.dep_core.specs.Repositories.{Repository, repositories_of}
use Rattle.dep_core.specs.World.{world_of}
use Rattle.outcome.specs.make_info.Reads.{Reads}
use Rattle.report_core.specs.declared.refusal.Refusal.{Refusal}
use Rattle.report_core.specs.declared.refusal.Refusal.TheVariants.{DatabaseBad, IndexBad, IndexMissing, NoDatabase, RepositoriesBad, ResultTooLarge, Untrusted, WorldBad}
use Rattle.root_names.specs.RootNames.{database_name, text_database_name, world_name}
use Rattle.outcome.specs.v2_core.Payload.{payload_of_text}
use Rattle.outcome.specs.v2_core.declared.read.V2Fault.{V2Fault}
use Rattle.outcome.specs.v2_core.declared.read.V2Fault.TheVariants.{Bad, Memory, TooLarge}
use Rattle.refusal_laws.specs.InputFaults.{IsFaultOfInput, IsIndexRead, repositories_file_text}
use Rattle.refusal_laws.proofs.Lists.{and_then_err, and_then_ok}

-- ---- chains

pub cause_err : {A : Type 0} (refused : Cause → Refusal) (o : Option Cause) (a : A) (refusal : Refusal) → unless_cause refused o a ≡ Err refusal → (cause : Cause) × (o ≡ Some cause) × (refused cause ≡ refusal)
cause_err refused None a refusal e = absurd (cc (e))
cause_err refused (Some cause) a refusal e = (cause, refl, (let same : refused cause ≡ refusal = cc in same))

pub as_err : {A : Type 0} (refused : ℕ → Refusal) (w : Result A ℕ) (refusal : Refusal) → with_error_as_refusal refused w ≡ Err refusal → (n : ℕ) × (w ≡ Err n) × (refused n ≡ refusal)
as_err refused (Ok a) refusal e = absurd (cc (e))
as_err refused (Err n) refusal e = (n, refl, (let same : refused n ≡ refusal = cc in same))

as_ok : {A : Type 0} (refused : ℕ → Refusal) (w : Result A ℕ) (a : A) → with_error_as_refusal refused w ≡ Ok a → w ≡ Ok a
as_ok refused (Ok x) a e = let same : x ≡ a = cc in ap (λ y. Ok y) same
as_ok refused (Err n) a e = absurd (cc (e))

pub no_refusal : {A : Type 0} (a : A) (refusal : Refusal) → Ok a ≡ Err refusal → ⊥
no_refusal a refusal e = cc (e)

module _ (command : CommandLine) (read : Reads) where
  abbrev IsSo : Refusal → Type 0
  IsSo refusal = IsFaultOfInput command read refusal

  -- ---- the database

  text_fault : (text : List ℕ) (refusal : Refusal) → read database_read_number database_name ≡ None → read text_database_read_number text_database_name ≡ Some text
      → (payload : Result (List ℕ) V2Fault) → payload_of_text text ≡ payload → payload_database payload ≡ Err refusal → IsSo refusal
  text_fault text refusal none some (Ok payload) is e = absurd (cc (e))
  text_fault text refusal none some (Err (Bad cause)) is e =
      let same : DatabaseBad cause ≡ refusal = cc in
      subst IsSo same (inr (record { container = none; text = text; is_text = some; refused = is }))
  text_fault text refusal none some (Err (TooLarge bytes values)) is e =
      let same : ResultTooLarge bytes values ≡ refusal = cc in
      subst IsSo same (record { container = none; text = text; is_text = some; refused = is })
  text_fault text refusal none some (Err Memory) is e = absurd (text_remembers text is)

  none_fault : (may_begin : Bool) (refusal : Refusal) → command.flags.initdb ≡ may_begin → read database_read_number database_name ≡ None → read text_database_read_number text_database_name ≡ None
      → root_database may_begin None None ≡ Err refusal → IsSo refusal
  none_fault true refusal begun none neither e = absurd (cc (e))
  none_fault false refusal begun none neither e =
      let same : NoDatabase ≡ refusal = cc in
      subst IsSo same (record { container = none; text = neither; not_begun = begun })

  database_fault : (file text : Option (List ℕ)) (refusal : Refusal) → read database_read_number database_name ≡ file → read text_database_read_number text_database_name ≡ text
      → root_database command.flags.initdb file text ≡ Err refusal → IsSo refusal
  database_fault (Some file) text refusal is other e =
      let why = cause_err DatabaseBad (container_fault_except_contents Idb file) _ refusal e in
      subst IsSo why.2 (inl (record { file = file; is_file = is; fault = why.1 }))
  database_fault None (Some text) refusal is other e = text_fault text refusal is other (payload_of_text text) refl e
  database_fault None None refusal is other e = none_fault command.flags.initdb refusal refl is other e

  -- ---- world and the repositories

  world_fault : (refusal : Refusal) → root_world (found_text_or_empty (read world_read_number world_name)) ≡ Err refusal → IsSo refusal
  world_fault refusal e =
      let why = as_err WorldBad (world_of (found_text_or_empty (read world_read_number world_name))) refusal e in
      subst IsSo why.2 why.1

  trusted_fault : (is_allowed : Bool) (repositories : List Repository) (refusal : Refusal) → command.flags.allow_untrusted ≡ is_allowed → repositories_of (repositories_file_text read) ≡ Ok repositories
      → repositories_if_untrusted_allowed is_allowed repositories ≡ Err refusal → IsSo refusal
  trusted_fault is_allowed [] refusal leave listed e = absurd (cc (e))
  trusted_fault true (repository ∷ others) refusal leave listed e = absurd (cc (e))
  trusted_fault false (repository ∷ others) refusal leave listed e =
      let same : Untrusted ≡ refusal = cc in
      subst IsSo same (record { no_leave = leave; repository = repository; others = others; listed = listed })

  repositories_fault : (refusal : Refusal) → root_repositories command.flags.allow_untrusted (repositories_file_text read) ≡ Err refusal → IsSo refusal
  repositories_fault refusal e =
      elim (and_then_err (with_error_as_refusal RepositoriesBad (repositories_of (repositories_file_text read))) (repositories_if_untrusted_allowed command.flags.allow_untrusted) refusal e) [
        | inl first ↦ (let why = as_err RepositoriesBad (repositories_of (repositories_file_text read)) refusal first in subst IsSo why.2 why.1)
        | inr next ↦ trusted_fault command.flags.allow_untrusted next.0 refusal refl (as_ok RepositoriesBad (repositories_of (repositories_file_text read)) next.0 next.1) next.2
      ]

  trusted_ok : (is_allowed : Bool) (repositories kept : List Repository) → repositories_if_untrusted_allowed is_allowed repositories ≡ Ok kept → repositories ≡ kept
  trusted_ok is_allowed [] kept e = cc (e)
  trusted_ok true (repository ∷ others) kept e = cc (e)
  trusted_ok false (repository ∷ others) kept e = absurd (cc (e))

  repositories_ok : (repositories : List Repository) → root_repositories command.flags.allow_untrusted (repositories_file_text read) ≡ Ok repositories → repositories_of (repositories_file_text read) ≡ Ok repositories
  repositories_ok repositories e =
      let all = and_then_ok (with_error_as_refusal RepositoriesBad (repositories_of (repositories_file_text read))) (repositories_if_untrusted_allowed command.flags.allow_untrusted) repositories e in
      as_ok RepositoriesBad (repositories_of (repositories_file_text read)) all.0 all.1 ∙ ap (λ (rs : List Repository). Ok rs) (trusted_ok command.flags.allow_untrusted all.0 repositories all.2)

  -- ---- the root

  abbrev pub world_then : Database → List Dependency → Result Root Refusal
  world_then database world =
      and_then (root_repositories command.flags.allow_untrusted (repositories_file_text read)) (λ repositories. Ok (root_with_new_world_of_command command database (found_text_or_empty (read world_read_number world_name)) world repositories))

  root_fault : (refusal : Refusal) → root_for command read ≡ Err refusal → IsSo refusal
  root_fault refusal e =
      elim (and_then_err (root_database command.flags.initdb (read database_read_number database_name) (read text_database_read_number text_database_name)) (λ database.
      and_then (root_world (found_text_or_empty (read world_read_number world_name))) (world_then database)) refusal e) [
        | inl first ↦ database_fault (read database_read_number database_name) (read text_database_read_number text_database_name) refusal refl refl first
        | inr next ↦ elim (and_then_err (root_world (found_text_or_empty (read world_read_number world_name))) (world_then next.0) refusal next.2) [
          | inl second ↦ world_fault refusal second
          | inr third ↦ elim (and_then_err (root_repositories command.flags.allow_untrusted (repositories_file_text read)) (λ repositories.
              Ok (root_with_new_world_of_command command next.0 (found_text_or_empty (read world_read_number world_name)) third.0 repositories)) refusal third.2) [
                | inl last ↦ repositories_fault refusal last
                | inr done ↦ absurd (no_refusal (root_with_new_world_of_command command next.0 (found_text_or_empty (read world_read_number world_name)) third.0 done.0) refusal done.2)
              ]
        ]
      ]

  pub root_listed : (root : Root) → root_for command read ≡ Ok root → repositories_of (repositories_file_text read) ≡ Ok root.repositories
  root_listed root e =
      let database = and_then_ok (root_database command.flags.initdb (read database_read_number database_name) (read text_database_read_number text_database_name)) (λ database.
      and_then (root_world (found_text_or_empty (read world_read_number world_name))) (world_then database)) root e in
      let world = and_then_ok (root_world (found_text_or_empty (read world_read_number world_name))) (world_then database.0) root database.2 in
      let listed = and_then_ok (root_repositories command.flags.allow_untrusted (repositories_file_text read)) (λ repositories. Ok (root_with_new_world_of_command command database.0 (found_text_or_empty (read world_read_number world_name)) world.0 repositories)) root world.2 in
      let same : root_with_new_world_of_command command database.0 (found_text_or_empty (read world_read_number world_name)) world.0 listed.0 ≡ root = (let last = listed.2 in cc) in
      repositories_ok listed.0 listed.1 ∙ ap (λ (x : Root). Ok x.repositories) same

  -- ---- the indexes

  module _ (repositories : List Repository) (listed : repositories_of (repositories_file_text read) ≡ Ok repositories) where
    -- the repositories behind so many
    abbrev AreFrom : ℕ → List Repository → Type 0
    AreFrom place rs = (i : ℕ) (x : Repository) → slice_get rs i ≡ Some x → slice_get repositories (place + i) ≡ Some x

    others_from : (place : ℕ) (x : Repository) (rs : List Repository) → AreFrom place (x ∷ rs) → AreFrom (suc place) rs
    others_from place x rs are i y e = let k : suc place + i ≡ place + suc i = omega arith in ap (slice_get repositories) k ∙ are (suc i) y e

    read_at : (place n : ℕ) (x : Repository) (rs : List Repository) (file : Option (List ℕ)) → AreFrom place (x ∷ rs) → first_index_read_number + place ≡ n → read n x.path ≡ file → IsIndexRead read (suc place) file
    read_at place n x rs file are number is =
        let k : place ≡ place + 0 = omega arith in
        record {
          repositories = repositories;
          listed = listed;
          place = place;
          is_number = refl;
          repository = x;
          is_repository = ap (slice_get repositories) k ∙ are 0 x refl;
          is_file = ap (λ m. read m x.path) number ∙ is;
        }

    -- all are found, or one is not
    missing_fault : (place n number : ℕ) (rs : List Repository) (refusal : Refusal) → AreFrom place rs → first_index_read_number + place ≡ n → number ≡ suc place → index_files_from number (index_reads_from read n rs) ≡ Err refusal → IsSo refusal
    missing_fault place n number [] refusal are is told e = absurd (cc (e))
    missing_fault place n number (x ∷ rs) refusal are is told e =
        by_read (read n x.path) refl (missing_fault (suc place) (suc n) (number + 1) rs refusal (others_from place x rs are) (omega (arith, is)) (omega (arith, told))) e
      where
        by_others : (file : List ℕ) → (index_files_from (number + 1) (index_reads_from read (suc n) rs) ≡ Err refusal → IsSo refusal) → and_then (index_files_from (number + 1) (index_reads_from read (suc n) rs)) (λ files. Ok (file ∷ files)) ≡ Err refusal → IsSo refusal
        by_others file more e =
            elim (and_then_err (index_files_from (number + 1) (index_reads_from read (suc n) rs)) (λ files. Ok (file ∷ files)) refusal e) [
              | inl others ↦ more others
              | inr last ↦ absurd (no_refusal (file ∷ last.0) refusal last.2)
            ]

        by_read : (file : Option (List ℕ)) → read n x.path ≡ file → (index_files_from (number + 1) (index_reads_from read (suc n) rs) ≡ Err refusal → IsSo refusal)
            → and_then (file_or_index_missing number file) (λ file. and_then (index_files_from (number + 1) (index_reads_from read (suc n) rs)) (λ files. Ok (file ∷ files))) ≡ Err refusal → IsSo refusal
        by_read None found more e =
            let same : IndexMissing number ≡ refusal = cc in
            subst IsSo (ap IndexMissing (sym told) ∙ same) (read_at place n x rs None are is found)
        by_read (Some file) found more e = by_others file more e

    -- all are indexes, or one is none
    bad_fault : (place n number : ℕ) (rs : List Repository) (files : List (List ℕ)) (refusal : Refusal) → AreFrom place rs → first_index_read_number + place ≡ n → number ≡ suc place
        → index_files_from number (index_reads_from read n rs) ≡ Ok files → indexes_in_files number files ≡ Err refusal → IsSo refusal
    bad_fault place n number [] files refusal are is told found e = let none : [] ≡ files = cc in absurd (empty_fine files none e)
      where
        empty_fine : (files : List (List ℕ)) → [] ≡ files → indexes_in_files number files ≡ Err refusal → ⊥
        empty_fine [] none e = cc (e)
        empty_fine (file ∷ files) none e = cc (none)
    bad_fault place n number (x ∷ rs) files refusal are is told found e =
        by_read (read n x.path) refl (λ others rest. bad_fault (suc place) (suc n) (number + 1) rs others refusal (others_from place x rs are) (omega (arith, is)) (omega (arith, told)) rest) found
      where
        by_index : (file : List ℕ) (others : List (List ℕ)) → read n x.path ≡ Some file → (indexes_in_files (number + 1) others ≡ Err refusal → IsSo refusal) → indexes_in_files number (file ∷ others) ≡ Err refusal → IsSo refusal
        by_index file others here more e =
            elim (and_then_err (index_in_file number file) (λ index. and_then (indexes_in_files (number + 1) others) (λ indexes. Ok (index ∷ indexes))) refusal e) [
              | inl first ↦ (let why = cause_err (IndexBad number) (container_fault_except_contents Index file) _ refusal first in
                  subst IsSo (ap (λ m. IndexBad m why.0) (sym told) ∙ why.2) (record { file = file; is_read = read_at place n x rs (Some file) are is here; fault = why.1 }))
              | inr next ↦ elim (and_then_err (indexes_in_files (number + 1) others) (λ indexes. Ok (next.0 ∷ indexes)) refusal next.2) [
                | inl behind ↦ more behind
                | inr last ↦ absurd (no_refusal (next.0 ∷ last.0) refusal last.2)
              ]
            ]

        by_read : (file : Option (List ℕ)) → read n x.path ≡ file
            → ((others : List (List ℕ)) → index_files_from (number + 1) (index_reads_from read (suc n) rs) ≡ Ok others → indexes_in_files (number + 1) others ≡ Err refusal → IsSo refusal)
            → and_then (file_or_index_missing number file) (λ file. and_then (index_files_from (number + 1) (index_reads_from read (suc n) rs)) (λ files. Ok (file ∷ files))) ≡ Ok files → IsSo refusal
        by_read None here more k = absurd (cc (k))
        by_read (Some file) here more k =
            let others = and_then_ok (index_files_from (number + 1) (index_reads_from read (suc n) rs)) (λ files. Ok (file ∷ files)) files k in
            let same : files ≡ file ∷ others.0 = (let last = others.2 in cc) in
            by_index file others.0 here (more others.0 others.1) (sym (ap (indexes_in_files number) same) ∙ e)

    indexes_fault : (refusal : Refusal) → indexes_of read repositories ≡ Err refusal → IsSo refusal
    indexes_fault refusal e =
        let all : AreFrom 0 repositories = λ i x at. (let k : 0 + i ≡ i = omega arith in ap (slice_get repositories) k ∙ at) in
        elim (and_then_err (index_files_from 1 (index_reads_from read first_index_read_number repositories)) (indexes_in_files 1) refusal e) [
          | inl first ↦ missing_fault 0 first_index_read_number 1 repositories refusal all (omega arith) refl first
          | inr next ↦ bad_fault 0 first_index_read_number 1 repositories next.0 refusal all (omega arith) refl next.1 next.2
        ]

  -- ---- all of them

  pub input_fault : (refusal : Refusal) → inputs_of command read ≡ Err refusal → IsFaultOfInput command read refusal
  unfolding inputs_of
  input_fault refusal e =
      elim (and_then_err (root_for command read) (λ root. and_then (indexes_of read root.repositories) (λ indexes. Ok (inputs_from_parts root indexes))) refusal e) [
        | inl first ↦ root_fault refusal first
        | inr next ↦ elim (and_then_err (indexes_of read next.0.repositories) (λ indexes. Ok (inputs_from_parts next.0 indexes)) refusal next.2) [
          | inl second ↦ indexes_fault next.0.repositories (root_listed next.0 next.1) refusal second
          | inr last ↦ absurd (no_refusal (inputs_from_parts next.0 last.0) refusal last.2)
        ]
      ]

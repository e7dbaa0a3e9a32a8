-- What the reads of a root explain.
use Rattle.std.proofs.Common.{◌≡◌, ℕ, zero, suc, Bool, List, [], ◌∷◌, Option, Some, None, Result, Ok, Err, refl, sym, ap, ◌∙◌, subst}
use Rattle.std.specs.Result.{IsErrAnd}
use Rattle.base_core.specs.Read.{bytes_in}
use Rattle.base_core.specs.Tree.{TreeState, files_of}
use Rattle.command_core.specs.Command.{CommandLine}
use Rattle.dep_core.specs.Repositories.{Repository}
use Rattle.package_files.specs.make_info.Reads.{Reads}
use Rattle.package_files.proofs.ReadLemmas.{explained}
use Rattle.package_files.specs.Runs.{HoldsOfSomeReadsOfTree}
use Rattle.report_core.specs.declared.refusal.Refusal as Refusals
use Rattle.root_names.specs.RootNames.{database_name, repositories_name, text_database_name, world_name}
use Rattle.adb_view.specs.Plain.{Plain}
use Rattle.change_inputs.proofs.Handed.{failure_agrees, handed_on_disk, refused_part, refused_part_disk, unless_disk}
use Rattle.change_inputs.proofs.IndexSteps.{unread, unread_stands}
use Rattle.change_inputs.specs.Answers.{Agrees, AgreesUnlessDiskOrMemory, IsDiskOrMemoryFailure, AreFilesFoundInTree, IsFileFoundInTree}
use Rattle.change_inputs.specs.Chains.{and_then}
use Rattle.change_inputs.specs.Database.{Database, root_database}
use Rattle.change_inputs.specs.Indexes.{index_files_from, indexes_in_files, root_indexes}
use Rattle.change_inputs.specs.Inputs.{Inputs, Root, database_for, index_reads_from, indexes_of, inputs_from_parts, inputs_of, root_for, root_from_databases_world_repositories}
use Rattle.change_inputs.specs.RootFiles.{AreRootFilesInTree}
use Rattle.change_inputs.specs.declared.root.Refused.{Refused}
use Rattle.change_inputs.specs.declared.root.RootFiles.{RootFiles}

-- ---- reads that find what a list says

abbrev nth_found : List (Option (List ℕ)) → ℕ → Option (List ℕ)
nth_found [] n = None
nth_found (f ∷ fs) zero = f
nth_found (f ∷ fs) (suc n) = nth_found fs n

-- from a number on they find this
abbrev FindFrom : (ℕ → Option (List ℕ)) → ℕ → List (Option (List ℕ)) → Type 0
FindFrom found n [] = Unit {0}
FindFrom found n (f ∷ fs) = (found n ≡ f) × FindFrom found (suc n) fs

later : (found : ℕ → Option (List ℕ)) (n : ℕ) (fs : List (Option (List ℕ))) → FindFrom (λ k. found (suc k)) n fs → FindFrom found (suc n) fs
later found n [] h = tt
later found n (f ∷ fs) h = (h.0, later found (suc n) fs h.1)

found_from : (fs : List (Option (List ℕ))) → FindFrom (nth_found fs) 0 fs
found_from [] = tt
found_from (f ∷ fs) = (refl, later (nth_found (f ∷ fs)) 0 fs (found_from fs))

-- what is found under the paths of repositories

reads_unobserved : (found : ℕ → Option (List ℕ)) (n : ℕ) (rs : List Repository) (fs : List (Option (List ℕ))) → AreFilesFoundInTree [] rs fs → FindFrom found n fs → index_reads_from (λ k name. found k) n rs ≡ fs
reads_unobserved found n [] [] stand h = refl
reads_unobserved found n [] (f ∷ fs) stand h = absurd stand
reads_unobserved found n (r ∷ rs) [] stand h = absurd stand
reads_unobserved found n (r ∷ rs) (f ∷ fs) stand h = λ i. h.0 i ∷ reads_unobserved found (suc n) rs fs stand.1 h.1 i

reads_observed : (v : TreeState) (earlier : List TreeState) (n : ℕ) (rs : List Repository) (fs : List (Option (List ℕ))) → AreFilesFoundInTree (v ∷ earlier) rs fs → index_reads_from (λ k name. files_of v name) n rs ≡ fs
reads_observed v earlier n [] [] stand = refl
reads_observed v earlier n [] (f ∷ fs) stand = absurd stand
reads_observed v earlier n (r ∷ rs) [] stand = absurd stand
reads_observed v earlier n (r ∷ rs) (f ∷ fs) stand = λ i. sym stand.0 i ∷ reads_observed v earlier (suc n) rs fs stand.1 i

-- ---- reads of a root

pub record AreReads (read : Reads) (file text world repositories : Option (List ℕ)) (rs : List Repository) (fs : List (Option (List ℕ))) : Type 0 where
  pub file_is : read 0 database_name ≡ file
  pub text_is : read 1 text_database_name ≡ text
  pub world_is : read 2 world_name ≡ world
  pub repositories_is : read 3 repositories_name ≡ repositories
  pub indexes_are : index_reads_from read 4 rs ≡ fs

pub explained_root : (history : List TreeState) (file text world repositories : Option (List ℕ)) (rs : List Repository) (fs : List (Option (List ℕ)))
    → IsFileFoundInTree history database_name file → IsFileFoundInTree history text_database_name text → IsFileFoundInTree history world_name world → IsFileFoundInTree history repositories_name repositories → AreFilesFoundInTree history rs fs
    → HoldsOfSomeReadsOfTree history (λ read. AreReads read file text world repositories rs fs)
explained_root [] file text world repositories rs fs a b c d stand =
    let all = file ∷ text ∷ world ∷ repositories ∷ fs in
    let found = found_from all in
    record {
      read = λ n name. nth_found all n;
      observed = tt;
      is = record {
        file_is = refl;
        text_is = refl;
        world_is = refl;
        repositories_is = refl;
        indexes_are = reads_unobserved (nth_found all) 4 rs fs stand found.1.1.1.1;
      };
    }
explained_root (v ∷ earlier) file text world repositories rs fs a b c d stand =
    record {
      read = λ n name. files_of v name;
      observed = λ n name. refl;
      is = record {
        file_is = sym a;
        text_is = sym b;
        world_is = sym c;
        repositories_is = sym d;
        indexes_are = reads_observed v earlier 4 rs fs stand;
      };
    }

-- ---- the files of a root as they were read

-- the text database counts only if there is no other
text_or : (history : List TreeState) (text file : Option (List ℕ)) → Option (List ℕ)
text_or history text None = text
text_or history text (Some file) = unread history text_database_name

text_stands : (history : List TreeState) (text file : Option (List ℕ)) → (file ≡ None → IsFileFoundInTree history text_database_name text) → IsFileFoundInTree history text_database_name (text_or history text file)
unfolding text_or
text_stands history text None h = h refl
text_stands history text (Some file) h = unread_stands history text_database_name

same_database : (may_begin : Bool) (history : List TreeState) (text file : Option (List ℕ)) → root_database may_begin file (text_or history text file) ≡ root_database may_begin file text
unfolding text_or
same_database may_begin history text None = refl
same_database may_begin history text (Some file) = refl

same_root : (command : CommandLine) (history : List TreeState) (text file world repositories : Option (List ℕ)) → root_from_databases_world_repositories command file (text_or history text file) world repositories ≡ root_from_databases_world_repositories command file text world repositories
unfolding text_or
same_root command history text None world repositories = refl
same_root command history text (Some file) world repositories = refl

-- the database alone
pub explained_database : (history : List TreeState) (command : CommandLine) (file text : Option (List ℕ)) → IsFileFoundInTree history database_name file → (file ≡ None → IsFileFoundInTree history text_database_name text)
    → HoldsOfSomeReadsOfTree history (λ read. database_for command read ≡ root_database command.flags.initdb file text)
explained_database history command file text located text_stand =
    let e = explained_root history file (text_or history text file) (unread history world_name) (unread history repositories_name) [] [] located (text_stands history text file text_stand) (unread_stands history world_name) (unread_stands history repositories_name) tt in
    record {
      read = e.read;
      observed = e.observed;
      is = (λ i. root_database command.flags.initdb (e.is.file_is i) (e.is.text_is i)) ∙ same_database command.flags.initdb history text file;
    }

pub database_failed : {A : Type 0} (view : A → Database) (history : List TreeState) (command : CommandLine) (r : Result A Refused) (fault : Refused) → IsErrAnd r (λ e. e ≡ fault) → IsDiskOrMemoryFailure fault
    → HoldsOfSomeReadsOfTree history (λ read. AgreesUnlessDiskOrMemory view r (database_for command read))
database_failed view history command r fault is failed = explained history (λ read. AgreesUnlessDiskOrMemory view r (database_for command read)) (λ read. failure_agrees view (database_for command read) r fault is failed)

pub database_refused : {A B : Type 0} (view : A → Database) (seen : B → Database) (history : List TreeState) (command : CommandLine) (file text : Option (List ℕ)) (r : Result A Refused) (fault : Refused) → IsFileFoundInTree history database_name file → (file ≡ None → IsFileFoundInTree history text_database_name text)
    → IsErrAnd r (λ e. e ≡ fault) → Agrees seen (Err fault) (root_database command.flags.initdb file text) → HoldsOfSomeReadsOfTree history (λ read. AgreesUnlessDiskOrMemory view r (database_for command read))
database_refused view seen history command file text r fault located text_stand is h =
    let e = explained_database history command file text located text_stand in
    record {
      read = e.read;
      observed = e.observed;
      is = handed_on_disk view (database_for command e.read) r fault is (unless_disk view (database_for command e.read) (Err fault) (subst (λ x. Agrees seen (Err fault) x) (sym e.is) h));
    }

pub database_given : (history : List TreeState) (command : CommandLine) (file text : Option (List ℕ)) (database : Database) → IsFileFoundInTree history database_name file → (file ≡ None → IsFileFoundInTree history text_database_name text)
    → root_database command.flags.initdb file text ≡ Ok database → HoldsOfSomeReadsOfTree history (λ read. database_for command read ≡ Ok database)
database_given history command file text database located text_stand is =
    let e = explained_database history command file text located text_stand in
    record { read = e.read; observed = e.observed; is = e.is ∙ is }

pub explained_files : (history : List TreeState) (command : CommandLine) (files : RootFiles) (rs : List Repository) (fs : List (Option (List ℕ))) → AreRootFilesInTree history files → AreFilesFoundInTree history rs fs
    → HoldsOfSomeReadsOfTree history (λ read. (root_for command read ≡ root_from_databases_world_repositories command (bytes_in files.database) (bytes_in files.text_database) (bytes_in files.world) (bytes_in files.repositories)) × (index_reads_from read 4 rs ≡ fs))
explained_files history command files rs fs stand indexes =
    let file = bytes_in files.database in
    let e = explained_root history file (text_or history (bytes_in files.text_database) file) (bytes_in files.world) (bytes_in files.repositories) rs fs stand.database (text_stands history (bytes_in files.text_database) file stand.text_database) stand.world stand.repositories indexes in
    record {
      read = e.read;
      observed = e.observed;
      is = (
        (λ i. root_from_databases_world_repositories command (e.is.file_is i) (e.is.text_is i) (e.is.world_is i) (e.is.repositories_is i)) ∙ same_root command history (bytes_in files.text_database) file (bytes_in files.world) (bytes_in files.repositories),
        e.is.indexes_are,
      );
    }

-- ---- the inputs

-- nothing is said if the tree failed or no memory was found
pub explained_failure : {A : Type 0} (view : A → Inputs) (history : List TreeState) (command : CommandLine) (r : Result A Refused) (fault : Refused) → IsErrAnd r (λ e. e ≡ fault) → IsDiskOrMemoryFailure fault
    → HoldsOfSomeReadsOfTree history (λ read. AgreesUnlessDiskOrMemory view r (inputs_of command read))
explained_failure view history command r fault is failed = explained history (λ read. AgreesUnlessDiskOrMemory view r (inputs_of command read)) (λ read. failure_agrees view (inputs_of command read) r fault is failed)

abbrev then_indexes : Reads → Root → Result Inputs Refusals.Refusal
then_indexes read root = and_then (indexes_of read root.repositories) (λ indexes. Ok (inputs_from_parts root indexes))

-- a root that is refused
pub explained_refusal : {A B : Type 0} (view : A → Inputs) (seen : B → Root) (history : List TreeState) (command : CommandLine) (files : RootFiles) (r : Result A Refused) (fault : Refused) → AreRootFilesInTree history files → IsErrAnd r (λ e. e ≡ fault)
    → Agrees seen (Err fault) (root_from_databases_world_repositories command (bytes_in files.database) (bytes_in files.text_database) (bytes_in files.world) (bytes_in files.repositories))
    → HoldsOfSomeReadsOfTree history (λ read. AgreesUnlessDiskOrMemory view r (inputs_of command read))
unfolding inputs_of
explained_refusal view seen history command files r fault stand is h =
    let e = explained_files history command files [] [] stand tt in
    record {
      read = e.read;
      observed = e.observed;
      is = handed_on_disk view _ r fault is
          (unless_disk view _ (Err fault)
          (refused_part seen view (then_indexes e.read) fault (root_for command e.read) (subst (λ x. Agrees seen (Err fault) x) (sym e.is.0) h)));
    }

-- a root that is good, and what comes of its indexes
pub explained_indexes : {A : Type 0} (view : A → Inputs) (history : List TreeState) (command : CommandLine) (files : RootFiles) (root : Root) (fs : List (Option (List ℕ))) (r : Result A Refused) → AreRootFilesInTree history files
    → root_from_databases_world_repositories command (bytes_in files.database) (bytes_in files.text_database) (bytes_in files.world) (bytes_in files.repositories) ≡ Ok root
    → AreFilesFoundInTree history root.repositories fs → AgreesUnlessDiskOrMemory view r (and_then (root_indexes fs) (λ indexes. Ok (inputs_from_parts root indexes)))
    → HoldsOfSomeReadsOfTree history (λ read. AgreesUnlessDiskOrMemory view r (inputs_of command read))
unfolding inputs_of
explained_indexes view history command files root fs r stand good indexes h =
    let e = explained_files history command files root.repositories fs stand indexes in
    record {
      read = e.read;
      observed = e.observed;
      is =
          subst (λ x. AgreesUnlessDiskOrMemory view r (and_then x (then_indexes e.read))) (sym (e.is.0 ∙ good))
          (subst (λ (x : List (Option (List ℕ))). AgreesUnlessDiskOrMemory view r (and_then (root_indexes x) (λ indexes. Ok (inputs_from_parts root indexes)))) (sym e.is.1) h);
    }

-- the files of the indexes are not all there
pub indexes_absent : {A B : Type 0} (view : A → Inputs) (seen : B → List (List ℕ)) (root : Root) (fs : List (Option (List ℕ))) (r : Result A Refused) (fault : Refused) → IsErrAnd r (λ e. e ≡ fault) → AgreesUnlessDiskOrMemory seen (Err fault) (index_files_from 1 fs)
    → AgreesUnlessDiskOrMemory view r (and_then (root_indexes fs) (λ indexes. Ok (inputs_from_parts root indexes)))
indexes_absent {A} {B} view seen root fs r fault is h =
    handed_on_disk view _ r fault is
    (refused_part_disk (λ (x : List Plain). x) view (λ indexes. Ok (inputs_from_parts root indexes)) fault (root_indexes fs)
    (refused_part_disk seen (λ (x : List Plain). x) (indexes_in_files 1) fault (index_files_from 1 fs) h))

-- one of them is no index
pub indexes_bad : {A B : Type 0} (view : A → Inputs) (seen : B → List Plain) (root : Root) (fs : List (Option (List ℕ))) (files : List (List ℕ)) (r : Result A Refused) (fault : Refused) → IsErrAnd r (λ e. e ≡ fault) → index_files_from 1 fs ≡ Ok files → Agrees seen (Err fault) (indexes_in_files 1 files)
    → AgreesUnlessDiskOrMemory view r (and_then (root_indexes fs) (λ indexes. Ok (inputs_from_parts root indexes)))
indexes_bad view seen root fs files r fault is there h =
    handed_on_disk view _ r fault is
    (unless_disk view _ (Err fault)
    (refused_part seen view (λ indexes. Ok (inputs_from_parts root indexes)) fault (root_indexes fs)
    (subst (λ (x : Result (List (List ℕ)) Refusals.Refusal). Agrees seen (Err fault) (and_then x (indexes_in_files 1))) (sym there) h)))

-- all are good
pub indexes_good : (root : Root) (fs : List (Option (List ℕ))) (files : List (List ℕ)) (indexes : List Plain) → index_files_from 1 fs ≡ Ok files → indexes_in_files 1 files ≡ Ok indexes
    → and_then (root_indexes fs) (λ indexes. Ok (inputs_from_parts root indexes)) ≡ Ok (inputs_from_parts root indexes)
indexes_good root fs files indexes there good =
    ap (λ (x : Result (List (List ℕ)) Refusals.Refusal). and_then (and_then x (indexes_in_files 1)) (λ indexes. Ok (inputs_from_parts root indexes))) there
    ∙ ap (λ (x : Result (List Plain) Refusals.Refusal). and_then x (λ indexes. Ok (inputs_from_parts root indexes))) good

pub explained_good : (history : List TreeState) (command : CommandLine) (files : RootFiles) (root : Root) (fs : List (Option (List ℕ))) (found : List (List ℕ)) (indexes : List Plain) → AreRootFilesInTree history files
    → root_from_databases_world_repositories command (bytes_in files.database) (bytes_in files.text_database) (bytes_in files.world) (bytes_in files.repositories) ≡ Ok root
    → AreFilesFoundInTree history root.repositories fs → index_files_from 1 fs ≡ Ok found → indexes_in_files 1 found ≡ Ok indexes
    → HoldsOfSomeReadsOfTree history (λ read. inputs_of command read ≡ Ok (inputs_from_parts root indexes))
explained_good history command files root fs found indexes stand good those there are =
    explained_indexes {A = Inputs} (λ inputs. inputs) history command files root fs (Ok (inputs_from_parts root indexes)) stand good those (indexes_good root fs found indexes there are)

-- ---- over a tree as it was before

pub as_before : (old now : List TreeState) (P : Reads → Type 0) → now ≡ old → HoldsOfSomeReadsOfTree now P → HoldsOfSomeReadsOfTree old P
as_before old now P same h = subst (λ (t : List TreeState). HoldsOfSomeReadsOfTree t P) same h

pub root_as_now : (old now : List TreeState) (files : RootFiles) → now ≡ old → AreRootFilesInTree old files → AreRootFilesInTree now files
root_as_now old now files same h = subst (λ (t : List TreeState). AreRootFilesInTree t files) (sym same) h

-- A file is staged piece by piece.
use Rattle.std.proofs.Common.{◌≡◌, ◌⊎◌, inl, inr, ℕ, Bool, true, false, List, [], ◌∷◌, ◌++◌, Option, Some, None, Result, Ok, Err, refl, sym, ap, subst, ◌∙◌, append_assoc}
use Rattle.std.proofs.lemmas.List.{append-nil}
use Rattle.std.specs.Prelude.{OnErr, OnOk, IfErr}
use Rattle.std.specs.Result.{IsErrAnd}
use Rattle.base_core.specs.Calls.{HoldsNow, IfObservable}
use Rattle.base_core.specs.Files.{Files}
use Rattle.base_core.specs.Tree.{TreeState, files_of}
use Rattle.base_core.specs.declared.cause.Cause.{Cause}
use Rattle.journal_commit.specs.journal_core.Recovery.{is_staged}
use Rattle.journal_commit.specs.journal_core.Staged.{AreIntentAndStagedPathsFree, HasNoStagedNames, Staging}
use Rattle.journal_commit.proofs.journal_core.Chain.{by_now}
use Rattle.journal_commit.proofs.journal_core.History.{History, now_map, now_since}
use Rattle.package_verifier.specs.package_reader.FileReading.{AreAsExpected, IsTestedReturn, ReturnsNextBytes, HaveBeenReturned, HaveOtherDigest, HasUnreadBytes, expected_file_of, remembered_fault, package_len_of_file, package_name_of_file}
use Rattle.package_verifier.specs.package_reader.declared.piece.PieceFault.{PieceFault}
use Rattle.package_verifier.specs.package_reader.declared.piece.PieceFault.TheVariants.{Bad, Disk}
use Rattle.package_verifier.specs.package_reader.declared.one_file.FilePieces.{FilePieces}
use Rattle.file_guard.specs.pkg_core.Contents.{ExpectedFile}
use Rattle.file_guard.specs.pkg_core.Seen.{IsFileOfLength}
use Rattle.journal_commit.specs.StageRun.{HasSameFilesExceptStaged, IsRunThatStagedAndBeganFiles, IsStagingRun}
use Rattle.journal_commit.proofs.Joins.{start_is}
use Rattle.journal_staging.specs.Reading.{IsReadingIn}

-- ---- what is read while files come to wait

pub shown_now : (stage : Staging) (contents : List (List ℕ)) (begun : Option (List ℕ)) (v : TreeState) (first now : History) → IsRunThatStagedAndBeganFiles stage contents begun v first now → HoldsNow now (HasSameFilesExceptStaged (files_of v))
shown_now stage contents begun v first now staging =
    let (rest, is) = start_is first v staging.start in
    now_since (HasSameFilesExceptStaged (files_of v)) first now v rest is (λ q off. refl) staging.run.reads

-- a file that stood there before is none that waits
pub no_waiting : (files : Files) (name pkg : List ℕ) → HasNoStagedNames files → files name ≡ Some pkg → is_staged name ≡ false
no_waiting files name pkg empty there = by (is_staged name) refl
  where
    by : (b : Bool) → is_staged name ≡ b → b ≡ false
    by true is = cc (empty name is)
    by false is = refl

pub package_now : (stage : Staging) (contents : List (List ℕ)) (begun : Option (List ℕ)) (v : TreeState) (first now : History) (name pkg : List ℕ) → IsRunThatStagedAndBeganFiles stage contents begun v first now → files_of v name ≡ Some pkg
    → HoldsNow now (λ w. files_of w name ≡ Some pkg)
package_now stage contents begun v first now name pkg staging there =
    now_map now (HasSameFilesExceptStaged (files_of v)) (λ w. files_of w name ≡ Some pkg) (shown_now stage contents begun v first now staging)
    (λ w shown. shown name (no_waiting (files_of v) name pkg staging.empty there) ∙ there)

-- ---- whatever the tree shows

-- a file that is begun waits, with whatever bytes came
abbrev pub IsBegunOn : Staging → Staging → History → History → Type 0
IsBegunOn start stage old now =
    (contents : List (List ℕ)) (v : TreeState) (first : List TreeState) → IsRunThatStagedAndBeganFiles start contents None v first old
    → (so_far : List ℕ) × IsRunThatStagedAndBeganFiles stage contents (Some so_far) v first now

pub begun_first : (start stage : Staging) (old now : History)
    → ((contents : List (List ℕ)) (v : TreeState) (first : List TreeState) → IsRunThatStagedAndBeganFiles start contents None v first old → IsRunThatStagedAndBeganFiles stage contents (Some []) v first now)
    → IsBegunOn start stage old now
begun_first start stage old now begun contents v first staging = ([], begun contents v first staging)

module _ (start stage : Staging) (old now later : History) (begun : IsBegunOn start stage old now) where
  pub begun_more : (grown : Staging) (piece : List ℕ)
      → ((contents : List (List ℕ)) (so_far : List ℕ) (v : TreeState) (first : List TreeState) → IsRunThatStagedAndBeganFiles stage contents (Some so_far) v first now → IsRunThatStagedAndBeganFiles grown contents (Some (so_far ++ piece)) v first later)
      → IsBegunOn start grown old later
  begun_more grown piece appended contents v first staging =
      let (so_far, half) = begun contents v first staging in
      (so_far ++ piece, appended contents so_far v first half)

  pub begun_run : ((contents : List (List ℕ)) (so_far : List ℕ) (v : TreeState) (first : List TreeState) → IsRunThatStagedAndBeganFiles stage contents (Some so_far) v first now → IsStagingRun v first later)
      → (contents : List (List ℕ)) (v : TreeState) (first : List TreeState) → IsRunThatStagedAndBeganFiles start contents None v first old → IsStagingRun v first later
  begun_run run contents v first staging =
      let (so_far, half) = begun contents v first staging in
      run contents so_far v first half

-- ---- the file that is begun

-- some of its bytes wait, and these are left
pub record IsHalfway (stage : Staging) (file : FilePieces) (contents : List (List ℕ)) (bytes : List ℕ) (v : TreeState) (first now : History) : Type 0 where
  pub so_far : List ℕ
  pub left : List ℕ
  pub parts : bytes ≡ so_far ++ left
  pub reading : IsReadingIn (files_of v) file left
  pub staging : IsRunThatStagedAndBeganFiles stage contents (Some so_far) v first now

abbrev pub IsReadOn : Staging → Staging → FilePieces → FilePieces → History → History → Type 0
IsReadOn start stage whole file old now =
    (contents : List (List ℕ)) (v : TreeState) (first : List TreeState) (bytes : List ℕ) → IsRunThatStagedAndBeganFiles start contents None v first old
    → IsReadingIn (files_of v) whole bytes → IsHalfway stage file contents bytes v first now

-- where there is room, no call is a misuse
abbrev pub IsProperOn : Staging → FilePieces → History → ℕ → ℕ → Type 0
IsProperOn start whole old before now =
    (contents : List (List ℕ)) (v : TreeState) (first : List TreeState) (bytes : List ℕ) → IsRunThatStagedAndBeganFiles start contents None v first old
    → IsReadingIn (files_of v) whole bytes → AreIntentAndStagedPathsFree (files_of v) → now ≡ before

-- ---- a piece is read

only_disk : (A : List ℕ → Type 0) (left piece : List ℕ) (fault : PieceFault) → ReturnsNextBytes A left piece (Err fault) → fault ≡ Disk
only_disk A left piece (Bad cause) g = absurd g
only_disk A left piece Disk g = refl

abbrev Gives : FilePieces → FilePieces → List ℕ → History → Result Bool PieceFault → Type 0
Gives file next piece now result =
    IfObservable now (λ w. (pkg left : List ℕ) → files_of w (package_name_of_file file) ≡ Some pkg → HasUnreadBytes file pkg left → ReturnsNextBytes (HasUnreadBytes next pkg) left piece result)

module _ (start stage : Staging) (whole file next : FilePieces) (piece : List ℕ) (old now later : History) (result : Result Bool PieceFault)
    (read : IsReadOn start stage whole file old now) (gives : Gives file next piece now result) where
  given : (contents : List (List ℕ)) (v : TreeState) (first : List TreeState) (bytes : List ℕ) (half : IsHalfway stage file contents bytes v first now)
      → ReturnsNextBytes (HasUnreadBytes next half.reading.pkg) half.left piece result
  given contents v first bytes half =
      by_now now (λ w. files_of w (package_name_of_file file) ≡ Some half.reading.pkg) (ReturnsNextBytes (HasUnreadBytes next half.reading.pkg) half.left piece result)
      (package_now stage contents (Some half.so_far) v first now (package_name_of_file file) half.reading.pkg half.staging half.reading.there)
      (observed now gives)
    where
      observed : (h : History) → Gives file next piece h result → IfObservable h (λ w. files_of w (package_name_of_file file) ≡ Some half.reading.pkg → ReturnsNextBytes (HasUnreadBytes next half.reading.pkg) half.left piece result)
      observed [] g = tt
      observed (w ∷ earlier) g = λ there. g half.reading.pkg half.left there half.reading.reading

  -- where the package stands, only the tree fails
  pub read_fails : (contents : List (List ℕ)) (v : TreeState) (first : List TreeState) (bytes : List ℕ) → IsRunThatStagedAndBeganFiles start contents None v first old → IsReadingIn (files_of v) whole bytes
      → (fault : PieceFault) → result ≡ Err fault → fault ≡ Disk
  read_fails contents v first bytes staging reading fault is =
      let half = read contents v first bytes staging reading in
      only_disk (HasUnreadBytes next half.reading.pkg) half.left piece fault (subst (ReturnsNextBytes (HasUnreadBytes next half.reading.pkg) half.left piece) is (given contents v first bytes half))

  module _ (name : package_name_of_file next ≡ package_name_of_file file) (len : package_len_of_file next ≡ package_len_of_file file) where
    next_reading : (v : TreeState) (left rest : List ℕ) (reading : IsReadingIn (files_of v) file left) → HasUnreadBytes next reading.pkg rest → IsReadingIn (files_of v) next rest
    next_reading v left rest reading is = record {
      pkg = reading.pkg;
      there = ap (files_of v) name ∙ reading.there;
      long = reading.long ∙ sym len;
      reading = is;
    }

    -- a piece came, and was appended
    pub read_more : (grown : Staging) → result ≡ Ok true
        → ((contents : List (List ℕ)) (so_far : List ℕ) (v : TreeState) (first : List TreeState) → IsRunThatStagedAndBeganFiles stage contents (Some so_far) v first now → IsRunThatStagedAndBeganFiles grown contents (Some (so_far ++ piece)) v first later)
        → IsReadOn start grown whole next old later
    read_more grown is appended contents v first bytes staging reading =
        let half = read contents v first bytes staging reading in
        let came = subst (ReturnsNextBytes (HasUnreadBytes next half.reading.pkg) half.left piece) is (given contents v first bytes half) in
        record {
          so_far = half.so_far ++ piece;
          left = came.0;
          parts = half.parts ∙ ap (λ l. half.so_far ++ l) came.1 ∙ sym (append_assoc half.so_far piece came.0);
          reading = next_reading v half.left came.0 half.reading came.2;
          staging = appended contents half.so_far v first half.staging;
        }

    -- the file has ended
    pub read_whole : result ≡ Ok false → (contents : List (List ℕ)) (v : TreeState) (first : List TreeState) (bytes : List ℕ) → IsRunThatStagedAndBeganFiles start contents None v first old → IsReadingIn (files_of v) whole bytes
        → IsRunThatStagedAndBeganFiles stage contents (Some bytes) v first now
    read_whole is contents v first bytes staging reading =
        let half = read contents v first bytes staging reading in
        let ended = subst (ReturnsNextBytes (HasUnreadBytes next half.reading.pkg) half.left piece) is (given contents v first bytes half) in
        let all : bytes ≡ half.so_far = half.parts ∙ ap (λ l. half.so_far ++ l) ended.0 ∙ append-nil half.so_far in
        subst (λ (b : List ℕ). IsRunThatStagedAndBeganFiles stage contents (Some b) v first now) (sym all) half.staging

-- ---- whatever the package holds

-- just the bytes wait that came
abbrev pub IsListedOn : Staging → Staging → FilePieces → FilePieces → History → History → Type 0
IsListedOn start stage whole file old now =
    HaveBeenReturned whole [] → (contents : List (List ℕ)) (v : TreeState) (first : List TreeState) → IsRunThatStagedAndBeganFiles start contents None v first old
    → (so_far : List ℕ) × HaveBeenReturned file so_far × IsRunThatStagedAndBeganFiles stage contents (Some so_far) v first now

pub begun_listed : (start stage : Staging) (whole : FilePieces) (old now : History)
    → ((contents : List (List ℕ)) (v : TreeState) (first : List TreeState) → IsRunThatStagedAndBeganFiles start contents None v first old → IsRunThatStagedAndBeganFiles stage contents (Some []) v first now)
    → IsListedOn start stage whole whole old now
begun_listed start stage whole old now begun come contents v first staging = ([], come, begun contents v first staging)

module _ (start stage : Staging) (whole file next : FilePieces) (piece : List ℕ) (old now later : History) (result : Result Bool PieceFault)
    (listed : IsListedOn start stage whole file old now) (tested : (so_far : List ℕ) → HaveBeenReturned file so_far → IsTestedReturn file so_far piece result next) where
  pub listed_more : (grown : Staging) → result ≡ Ok true
      → ((contents : List (List ℕ)) (so_far : List ℕ) (v : TreeState) (first : List TreeState) → IsRunThatStagedAndBeganFiles stage contents (Some so_far) v first now → IsRunThatStagedAndBeganFiles grown contents (Some (so_far ++ piece)) v first later)
      → IsListedOn start grown whole next old later
  listed_more grown is appended come contents v first staging =
      let (so_far, came, half) = listed come contents v first staging in
      let behind = subst (λ (r : Result Bool PieceFault). IsTestedReturn file so_far piece r next) is (tested so_far came) in
      (so_far ++ piece, behind.1, appended contents so_far v first half)

  pub listed_whole : expected_file_of file ≡ expected_file_of whole → result ≡ Ok false → HaveBeenReturned whole [] → (contents : List (List ℕ)) (v : TreeState) (first : List TreeState) → IsRunThatStagedAndBeganFiles start contents None v first old
      → (bytes : List ℕ) × AreAsExpected (expected_file_of whole) bytes × IsRunThatStagedAndBeganFiles stage contents (Some bytes) v first now
  listed_whole due is come contents v first staging =
      let (so_far, came, half) = listed come contents v first staging in
      let behind = subst (λ (r : Result Bool PieceFault). IsTestedReturn file so_far piece r next) is (tested so_far came) in
      (so_far, subst (λ (d : Option ExpectedFile). AreAsExpected d so_far) due behind.1, half)

-- ---- a test that fails

-- no test failed, and just some bytes came
abbrev pub HasComeOn : FilePieces → FilePieces → Type 0
HasComeOn whole file = HaveBeenReturned whole [] → remembered_fault whole ≡ None → (so_far : List ℕ) × HaveBeenReturned file so_far × (remembered_fault file ≡ None)

pub come_first : (whole : FilePieces) → HasComeOn whole whole
come_first whole come none = ([], come, none)

module _ (whole file next : FilePieces) (piece : List ℕ) (result : Result Bool PieceFault) (has : HasComeOn whole file) (tested : (so_far : List ℕ) → HaveBeenReturned file so_far → IsTestedReturn file so_far piece result next) where
  pub come_more : result ≡ Ok true → HasComeOn whole next
  come_more is come none =
      let (so_far, came, kept) = has come none in
      let behind = subst (λ (r : Result Bool PieceFault). IsTestedReturn file so_far piece r next) is (tested so_far came) in
      (so_far ++ piece, behind.1, behind.0)

  pub come_bad : expected_file_of file ≡ expected_file_of whole → HaveBeenReturned whole [] → remembered_fault whole ≡ None → (cause : Cause) → result ≡ Err (Bad cause) → (bytes : List ℕ) × HaveOtherDigest (expected_file_of whole) bytes cause
  come_bad due come none cause is =
      let (so_far, came, kept) = has come none in
      by so_far kept (subst (λ (r : Result Bool PieceFault). IsTestedReturn file so_far piece r next) is (tested so_far came))
    where
      by : (so_far : List ℕ) → remembered_fault file ≡ None → (remembered_fault file ≡ Some cause) ⊎ HaveOtherDigest (expected_file_of file) (so_far ++ piece) cause → (bytes : List ℕ) × HaveOtherDigest (expected_file_of whole) bytes cause
      by so_far kept (inl before) = absurd (let e : None ≡ Some cause = sym kept ∙ before in cc (e))
      by so_far kept (inr other) = (so_far ++ piece, subst (λ (d : Option ExpectedFile). HaveOtherDigest d (so_far ++ piece) cause) due other)

-- ---- the first and the last call

pub begun_read : (start stage : Staging) (whole : FilePieces) (old now : History)
    → ((contents : List (List ℕ)) (v : TreeState) (first : List TreeState) → IsRunThatStagedAndBeganFiles start contents None v first old → IsRunThatStagedAndBeganFiles stage contents (Some []) v first now)
    → IsReadOn start stage whole whole old now
begun_read start stage whole old now begun contents v first bytes staging reading = record {
  so_far = [];
  left = bytes;
  parts = refl;
  reading = reading;
  staging = begun contents v first staging;
}

-- what a call makes of the file that is begun
module _ (start stage : Staging) (whole file : FilePieces) (old now later : History) (read : IsReadOn start stage whole file old now) where
  pub half_proper : (before between after : ℕ) → IsProperOn start whole old before between
      → ((contents : List (List ℕ)) (so_far : List ℕ) (v : TreeState) (first : List TreeState) → IsRunThatStagedAndBeganFiles stage contents (Some so_far) v first now → after ≡ between)
      → IsProperOn start whole old before after
  half_proper before between after proper one contents v first bytes staging reading room =
      let half = read contents v first bytes staging reading in
      one contents half.so_far v first half.staging ∙ proper contents v first bytes staging reading room

  pub read_proper : (before between after : ℕ) → IsProperOn start whole old before between
      → IfObservable now (λ w. IsFileOfLength (package_name_of_file file) (package_len_of_file file) w → after ≡ between) → IsProperOn start whole old before after
  read_proper before between after proper one contents v first bytes staging reading room =
      let half = read contents v first bytes staging reading in
      by_now now (λ w. files_of w (package_name_of_file file) ≡ Some half.reading.pkg) (after ≡ between)
      (package_now stage contents (Some half.so_far) v first now (package_name_of_file file) half.reading.pkg half.staging half.reading.there)
      (long now one half)
      ∙ proper contents v first bytes staging reading room
    where
      long : {contents : List (List ℕ)} {bytes : List ℕ} {v : TreeState} {first : List TreeState} (h : History) → IfObservable h (λ w. IsFileOfLength (package_name_of_file file) (package_len_of_file file) w → after ≡ between)
          → (half : IsHalfway stage file contents bytes v first now) → IfObservable h (λ w. files_of w (package_name_of_file file) ≡ Some half.reading.pkg → after ≡ between)
      long [] p half = tt
      long (w ∷ earlier) p half = λ there. p (record { file = half.reading.pkg; present = there; long = half.reading.long })

pub same_history : (stage : Staging) (contents : List (List ℕ)) (begun : Option (List ℕ)) (v : TreeState) (first now later : History) → later ≡ now → IsRunThatStagedAndBeganFiles stage contents begun v first now → IsRunThatStagedAndBeganFiles stage contents begun v first later
same_history stage contents begun v first now later same staging = subst (λ (h : History). IsRunThatStagedAndBeganFiles stage contents begun v first h) (sym same) staging

pub same_bytes : (stage : Staging) (contents : List (List ℕ)) (so_far one other : List ℕ) (v : TreeState) (first now : History) → other ≡ one → IsRunThatStagedAndBeganFiles stage contents (Some (so_far ++ one)) v first now
    → IsRunThatStagedAndBeganFiles stage contents (Some (so_far ++ other)) v first now
same_bytes stage contents so_far one other v first now same staging = subst (λ (b : List ℕ). IsRunThatStagedAndBeganFiles stage contents (Some (so_far ++ b)) v first now) (sym same) staging

pub if_disk : {A E : Type 0} {disk : E} (r : Result A E) (fault : E) → IsErrAnd r (λ e. e ≡ fault) → fault ≡ disk → IfErr r (λ e. e ≡ disk)
if_disk (Ok a) fault is disk = tt
if_disk (Err e) fault is disk = is ∙ disk

pub same_fault : {A E : Type 0} (r : Result A E) (fault other : E) → IsErrAnd r (λ e. e ≡ fault) → r ≡ Err other → fault ≡ other
same_fault {A} {E} r fault other and is = sym (subst (λ (x : Result A E). IsErrAnd x (λ e. e ≡ fault)) is and)

pub not_ok : {A E : Type 0} (P : E → Type 0) (r : Result A E) (Q : Type 0) → IsErrAnd r P → OnOk r Q
not_ok P (Ok a) Q is = absurd is
not_ok P (Err e) Q is = tt

pub on_err : {A E : Type 0} (r : Result A E) (Q : Type 0) → Q → OnErr r Q
on_err (Ok a) Q is = tt
on_err (Err e) Q is = is

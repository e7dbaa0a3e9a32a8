-- What is done with the files of added packages, claim by claim.
-- The rule is in `docs/commands.md`, "What a change does with files", what is said there of
-- configuration files; *fate_with_file_found* of `Fate` defines it.
use Rattle.std.specs.Prelude.{ℕ, Bool, true, false, not, ◌&&◌, nat_le, List, [], ◌∷◌, length, Option, Some, None, cond}
use Rattle.adb_view.specs.Plain.{Plain}
use Rattle.path_claim_lists.specs.path_claims.Claims.{PathClaim}
use Rattle.file_guard.specs.Listed.{DescribesEntry}
use Rattle.file_guard.specs.declared.compare.ListedFile.{ListedFile}
use Rattle.own_core.specs.Fate as Fates
use Rattle.own_core.specs.Fate.{apk_new_name, fate_with_file_found, gives_way, goes_aside, goes_in, most_name_bytes}
use Rattle.own_core.specs.FileChange.{FileChange, is_listed_after_change}
use Rattle.own_core.specs.ClaimEntries.{claim_entry}
use Rattle.own_core.specs.declared.fate.AddedFileFate.{AddedFileFate}
use Rattle.own_core.specs.declared.fate.AddedFileFate.TheVariants.{GivesWay, GoesAside, GoesIn}

-- the fate of an added file, as contracts see it: an `AddedFileFate` of the program as one of `Fate`
abbrev pub fate_seen : AddedFileFate → Fates.AddedFileFate
fate_seen GoesIn = goes_in
fate_seen GivesWay = gives_way
fate_seen GoesAside = goes_aside

-- the fate of the claim's file, if the claim's member is added and owns its path. `found` are the bytes of the user's
-- file under the path, or None if there is none
abbrev pub claim_fate : FileChange → PathClaim → Option (List ℕ) → Fates.AddedFileFate
claim_fate change c found = fate_with_file_found change c.path (claim_entry change.members c) found

-- whether a file can be written aside as `PATH.apk-new`: this is short enough for a name, and no package lists it
-- after the change
abbrev pub is_apk_new_name_free : FileChange → List ℕ → Bool
is_apk_new_name_free change path =
    nat_le (length (apk_new_name path)) most_name_bytes
    && not (is_listed_after_change change (apk_new_name path))

-- a `ListedFile` of the program describes the entry, or both are absent
abbrev pub DescribesEntryIfAny : Option ListedFile → Option Plain → Type 0
DescribesEntryIfAny None None = Unit {0}
DescribesEntryIfAny None (Some entry) = ⊥
DescribesEntryIfAny (Some listed) None = ⊥
DescribesEntryIfAny (Some listed) (Some entry) = DescribesEntry listed entry

-- ---- claims by their fates

-- whether two fates are the same
abbrev pub are_equal_fates : Fates.AddedFileFate → Fates.AddedFileFate → Bool
are_equal_fates goes_in goes_in = true
are_equal_fates gives_way gives_way = true
are_equal_fates goes_aside goes_aside = true
are_equal_fates f g = false

-- the claims whose element of `marks` passes the test; `marks` has one element for each claim, in the same order
abbrev pub marked_claims : {X : Type 0} → (X → Bool) → List PathClaim → List X → List PathClaim
marked_claims test [] marks = []
marked_claims test (c ∷ cs) [] = []
marked_claims test (c ∷ cs) (m ∷ marks) =
    cond (test m) (c ∷ marked_claims test cs marks) (marked_claims test cs marks)

-- whether two flags are the same
abbrev pub are_equal_flags : Bool → Bool → Bool
are_equal_flags true b = b
are_equal_flags false b = not b

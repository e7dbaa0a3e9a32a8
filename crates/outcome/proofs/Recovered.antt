-- What holds of each file still holds once a root is recovered.
use Rattle.std.proofs.Common.{◌≡◌, ℕ, ◌+◌, Bool, true, false, List, [], ◌∷◌, ◌++◌, map, not, Option, Some, None, IsSome, refl, sym, ap, subst, ◌∙◌}
use Rattle.std.specs.Prelude.{if◌then◌else◌, is_some}
use Rattle.std.specs.List.{list_any}
use Rattle.std.specs.Str.{bytes_eq}
use Rattle.std.proofs.lemmas.Bool.{and_parts, or_right, or_left}
use Rattle.std.proofs.lemmas.Option.{same_Some}
use Rattle.std.proofs.lemmas.Slice.Eq.{bytes_eq-Decides}
use Rattle.make_core.specs.adb_fields.Repeated.{list_of}
use Rattle.gen_core.specs.adb_schema.Reserved.{is_intent_or_stage_name}
use Rattle.gen_core.specs.adb_schema.Rules.{is_name_allowed_in_intent}
use Rattle.gen_core.specs.adb_schema.SoundValues.{IsNameAllowedInIntent}
use Rattle.gen_core.specs.adb_schema.SoundContainers.{IsSoundContainerExceptContents, IsSoundValue}
use Rattle.gen_core.specs.adb_schema.Soundness.{container_fault_except_contents, payload_in, root_value_of_payload}
use Rattle.adb_view.specs.Values.{entries_in, entry_at_index, text_in}
use Rattle.adb_view.specs.declared.tables.Which.{Which}
use Rattle.adb_view.specs.declared.tables.Which.TheVariants.{Intent as IntentTable}
use Rattle.adb_view.specs.Plain.{Plain, Plains, none, more}
use Rattle.adb_view.specs.Shaped.{Each}
use Rattle.base_core.specs.Files.{HaveValidNamesAndBytes, Files, AreFileBytes, HasOnlyNamesAmong, drop_name, move_name}
use Rattle.base_core.specs.Name.{IsName, is_name}
use Rattle.base_core.specs.declared.cause.Cause.{Cause}
use Rattle.engine_core.specs.journal_core.Recovery.{Intent, files_after_actions, files_after_staged_moves_from, intent_in_file, intent_of_value, intent_name, intent_of, is_staged, move_if_present, read_intent, recovered_files, files_after_intent, stage_name, files_without_names}
use Rattle.engine_core.specs.journal_core.Staged.{unstaged_files}

-- ---- of each file

abbrev pub Property : Type 1
Property = List ℕ → List ℕ → Type 0

abbrev pub Holds : Property → Files → Type 0
Holds P files = (q bytes : List ℕ) → files q ≡ Some bytes → P q bytes

-- what holds of a file does so under each of these names
abbrev pub Carries : Property → List (List ℕ) → Type 0
Carries P [] = Unit {0}
Carries P (name ∷ names) = ((from bytes : List ℕ) → P from bytes → P name bytes) × Carries P names

if_there : (b : Bool) (o : Option (List ℕ)) (bytes : List ℕ) → (if b then None else o) ≡ Some bytes → o ≡ Some bytes
if_there true o bytes is = cc
if_there false o bytes is = is

moved_holds : (P : Property) (files : Files) (from to bytes : List ℕ) → P to bytes → Holds P files → Holds P (move_name files from to bytes)
moved_holds P files from to bytes here holds q other is = by_name (bytes_eq q to) refl is
  where
    by_name : (b : Bool) → bytes_eq q to ≡ b → (if b then Some bytes else drop_name files from q) ≡ Some other → P q other
    by_name true same is = subst (λ (n : List ℕ). P n other) (sym ((bytes_eq-Decides q to).0 same)) (subst (P to) (same_Some bytes other is) here)
    by_name false same is = holds q other (if_there (bytes_eq q from) (files q) other is)

move_holds : (P : Property) (files : Files) (from to : List ℕ) (found : Option (List ℕ)) → files from ≡ found → ((other bytes : List ℕ) → P other bytes → P to bytes) → Holds P files → Holds P (move_if_present files from to found)
move_holds P files from to None is carry holds = holds
move_holds P files from to (Some bytes) is carry holds = moved_holds P files from to bytes (carry from bytes (holds from bytes is)) holds

moves_hold : (P : Property) (k : ℕ) (names : List (List ℕ)) (files : Files) → Carries P names → Holds P files → Holds P (files_after_staged_moves_from k names files)
moves_hold P k [] files carry holds = holds
moves_hold P k (name ∷ names) files (one, others) holds =
    moves_hold P (k + 1) names (move_if_present files (stage_name k) name (files (stage_name k))) others (move_holds P files (stage_name k) name (files (stage_name k)) refl one holds)

recovered_by_holds : (P : Property) (files : Files) (intent : Option Intent) → ((i : Intent) → intent ≡ Some i → Carries P i.writes) → Holds P files → Holds P (files_after_intent intent files)
recovered_by_holds P files None carry holds = holds
recovered_by_holds P files (Some intent) carry holds = λ q bytes is.
    moves_hold P 1 intent.writes (files_without_names intent.removals files) (carry intent refl)
    (λ p other is_there. holds p other (if_there (list_any (bytes_eq p) intent.removals) (files p) other is_there)) q bytes (if_there (bytes_eq q intent_name) (files_after_actions intent files q) bytes is)

pub unstaged_holds : (P : Property) (files : Files) → ((i : Intent) → intent_of files ≡ Some i → Carries P i.writes) → Holds P files → Holds P (unstaged_files files)
unstaged_holds P files carry holds = λ q bytes is. recovered_by_holds P files (intent_of files) carry holds q bytes (if_there (is_staged q) (recovered_files files q) bytes is)

-- ---- a list of names

some_bytes : (o : Option (List ℕ)) → IsSome o → (bytes : List ℕ) × (o ≡ Some bytes)
some_bytes None some = cc
some_bytes (Some bytes) some = (bytes, refl)

within_more : (names within : List (List ℕ)) (q : List ℕ) → list_any (bytes_eq q) within ≡ true → list_any (bytes_eq q) (names ++ within) ≡ true
within_more [] within q is = is
within_more (n ∷ names) within q is = or_right (bytes_eq q n) (list_any (bytes_eq q) (names ++ within)) (within_more names within q is)

-- each of these names is in the list
abbrev AreIn : List (List ℕ) → List (List ℕ) → Type 0
AreIn all [] = Unit {0}
AreIn all (n ∷ names) = (list_any (bytes_eq n) all ≡ true) × AreIn all names

in_more : (x : List ℕ) (all names : List (List ℕ)) → AreIn all names → AreIn (x ∷ all) names
in_more x all [] are = tt
in_more x all (n ∷ names) (one, others) = (or_right (bytes_eq n x) (list_any (bytes_eq n) all) one, in_more x all names others)

in_itself : (names within : List (List ℕ)) → AreIn (names ++ within) names
in_itself [] within = tt
in_itself (n ∷ names) within = (or_left (bytes_eq n n) (list_any (bytes_eq n) (names ++ within)) ((bytes_eq-Decides n n).1 refl), in_more n (names ++ within) names (in_itself names within))

carries_in : (all names : List (List ℕ)) → AreIn all names → Carries (λ q bytes. list_any (bytes_eq q) all ≡ true) names
carries_in all [] are = tt
carries_in all (n ∷ names) (one, others) = (λ from bytes h. one, carries_in all names others)

-- the names that an intent writes, if there is one
abbrev writes_of : Option Intent → List (List ℕ)
writes_of None = []
writes_of (Some intent) = intent.writes

pub unstaged_within : (files : Files) (within : List (List ℕ)) → HasOnlyNamesAmong within files → (names : List (List ℕ)) × HasOnlyNamesAmong names (unstaged_files files)
unstaged_within files within h =
    let all = writes_of (intent_of files) ++ within in (
      all,
      λ q some.
          let (bytes, is) = some_bytes (unstaged_files files q) some in
          unstaged_holds (λ p other. list_any (bytes_eq p) all ≡ true) files
          (λ i is_read. subst (λ (o : Option Intent). Carries (λ p other. list_any (bytes_eq p) (writes_of o ++ within) ≡ true) i.writes) (sym is_read) (carries_in (i.writes ++ within) i.writes (in_itself i.writes within)))
          (λ p other is_there. within_more (writes_of (intent_of files)) within p (h p (ap (λ (o : Option (List ℕ)). is_some o) is_there))) q bytes is,
    )

-- ---- names

-- an intent is read from a sound container, whose value is sound
abbrev pub ReadSound : Type 0
ReadSound = (file : List ℕ) → container_fault_except_contents IntentTable file ≡ None → read_intent file ≡ Some (intent_of_value (root_value_of_payload IntentTable (payload_in file)))

abbrev pub ReadNone : Type 0
ReadNone = (file : List ℕ) (cause : Cause) → container_fault_except_contents IntentTable file ≡ Some cause → read_intent file ≡ None

abbrev pub HoldsSound : Type 0
HoldsSound = (which : Which) (file : List ℕ) → IsSoundContainerExceptContents which file → IsSoundValue which (root_value_of_payload which (payload_in file))

-- a name and the content of a file
abbrev NamedFile : Property
NamedFile q bytes = IsName q × AreFileBytes bytes

change_named : (name : List ℕ) → is_name_allowed_in_intent name ≡ true → IsName name
change_named name h = (and_parts (is_name name) (not (is_intent_or_stage_name name)) h).0

named_carries : (vs : Plains) → Each IsNameAllowedInIntent vs → Carries NamedFile (map text_in (list_of vs))
named_carries none each = tt
named_carries (more v vs) (one, others) = (λ from bytes h. (change_named (text_in v) one, h.1), named_carries vs others)

file_named : ReadSound → ReadNone → HoldsSound → (file : List ℕ) (intent : Intent) → read_intent file ≡ Some intent → Carries NamedFile intent.writes
file_named read none_read sound file intent is = by_fault (container_fault_except_contents IntentTable file) refl
  where
    by_fault : (fault : Option Cause) → container_fault_except_contents IntentTable file ≡ fault → Carries NamedFile intent.writes
    by_fault None good =
        let v : Plain = root_value_of_payload IntentTable (payload_in file) in
        subst (λ (i : Intent). Carries NamedFile i.writes) (same_Some (intent_of_value v) intent (sym (read file good) ∙ is)) (named_carries (entries_in (entry_at_index v 1)) (sound IntentTable file good).rules.writes)
    by_fault (Some cause) bad = absurd (let e : None ≡ Some intent = sym (none_read file cause bad) ∙ is in cc)

at_named : ReadSound → ReadNone → HoldsSound → (found : Option (List ℕ)) (intent : Intent) → intent_in_file found ≡ Some intent → Carries NamedFile intent.writes
at_named read none_read sound None intent is = cc
at_named read none_read sound (Some file) intent is = file_named read none_read sound file intent is

pub unstaged_named : ReadSound → ReadNone → HoldsSound → (files : Files) → HaveValidNamesAndBytes files → HaveValidNamesAndBytes (unstaged_files files)
unstaged_named read none_read sound files good =
    let all : Holds NamedFile (unstaged_files files) =
    unstaged_holds NamedFile files (λ i is. at_named read none_read sound (files intent_name) i is) (λ q bytes is. (good.named q (ap (λ (o : Option (List ℕ)). is_some o) is), good.each q bytes is)) in
    record {
      named = λ q some. let (bytes, is) = some_bytes (unstaged_files files q) some in (all q bytes is).0;
      each = λ q bytes is. (all q bytes is).1;
    }

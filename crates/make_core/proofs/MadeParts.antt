-- The parts of a package that a command asks for.
use Rattle.command_core.specs.declared.values.TheConstants.{FILES, SCRIPT, TRIGGER}
use Rattle.std.proofs.Common.{◌≡◌, ℕ, zero, suc, ◌+◌, ◌≤◌, Bool, true, false, cond, eqb, ◌&&◌, List, [], ◌∷◌, ◌++◌, length, drop, map, codes, sum_by, Option, Some, None, Result, Ok, Err, Vec, Bor, refl, sym, ap, ◌∙◌, subst, arith, append_assoc, append-nil}
use Rattle.std.specs.Int.{w32, to_le_bytes}
use Rattle.std.specs.List.{flat_map, list_all, list_any, slice_get}
use Rattle.std.specs.Option.{option_map}
use Rattle.std.specs.Prelude.{IfSome}
use Rattle.std.specs.Result.{IsErrAnd}
use Rattle.std.specs.Str.{bytes_eq}
use Rattle.std.specs.declared.alloc.Global.{Global}
use Rattle.std.proofs.lemmas.Bool.{and_parts, eq-eqb, eqb-true}
use Rattle.std.proofs.lemmas.List.Concat.{flat_map-cons}
use Rattle.std.proofs.lemmas.List.Sums.{sum_by-cons}
use Rattle.adb_block.specs.BlockWithoutOffset.{BlockWithoutOffset}
use Rattle.adb_block.specs.Written.{block_bytes}
use Rattle.adb_view.specs.Plain.{Plain}
use Rattle.package_files.specs.adb_schema.declared.read.TheConstants.{PACKAGE_WORD}
use Rattle.package_files.specs.adb_write.Canonical.{ByteAndValueCounts, canonical, payload_unless_overflow, counts_at_first_overflow, payload_or_counts_at_overflow}
use Rattle.package_files.specs.adb_write.File.{adb_block_of_payload, file_of}
use Rattle.package_files.specs.pkg_core.Contents.{Contents}
use Rattle.command_core.specs.Sound.{value_rules, IsValidCommand, may_both_be_given, value_rule_of_letter, is_allowed_value, are_allowed_values}
use Rattle.command_core.specs.declared.values.ValueRule.{ValueRule}
use Rattle.command_core.specs.Command.{CommandLine}
use Rattle.command_core.specs.Values.{first_value_with_letter, script_file, script_type, script_types}
use Rattle.command_core.specs.Files.{is_file_argument, without_one_leading_dot_slash}
use Rattle.command_core.specs.declared.command.Applet.{Applet}
use Rattle.command_core.specs.declared.command.Applet.TheVariants.{Mkpkg}
use Rattle.command_core.specs.declared.values.OptionValue.{OptionValue}
use Rattle.command_core.proofs.Parts.{value_at}
use Rattle.package_files.specs.Blocks.{contents_block, contents_blocks}
use Rattle.package_files.specs.make_info.Faults.{IsOverflowFault}
use Rattle.package_files.specs.make_info.Information.{FieldWithValue, information_value_with_installed_size, replaces_priority}
use Rattle.package_files.specs.adb_sound.Contents.{total_size_of_file_contents}
use Rattle.package_files.specs.adb_sound.Container.{block_of_contents, container_of_value_and_contents}
use Rattle.make_core.specs.Answers.{IsBytes, IsFirstValue, IsNotDisk}
use Rattle.make_core.specs.Making.{container_unless_too_large, package_container}
use Rattle.package_files.specs.Package.{Script, SourceFileNameAndBytes, SourceFolder, contents_of_folders, value_of_file, value_of_folder, folder_with, installed_size, kind_of_file, value_of_kind, value_of_package, package_with, size_of_folder, size_of_kind}
use Rattle.package_files.specs.Packed.{AreFilesFrom, AreFoldersFrom, ArePackedFolders, packed_file, packed_folder, files_size, installed_size_of_folders}
use Rattle.package_files.specs.Runs.{AgreesOrIsFault}
use Rattle.package_files.specs.Sources.{values_of_letter, texts_of}
use Rattle.package_files.specs.make_info.declared.fault.MakeFault.{MakeFault}
use Rattle.package_files.specs.make_info.declared.fault.MakeFault.TheVariants.{FileMissing, FileBad, InfoBad, TooLarge, Disk, Memory}
use Rattle.package_files.specs.declared.file.File.{File}
use Rattle.package_files.specs.declared.file.Folder.{Folder}
use Rattle.make_core.proofs.ContentSizes.{installed_total}

-- what is left of a list where an element stands
left_at : {X : Type 0} (xs : List X) (i : ℕ) (x : X) → slice_get xs i ≡ Some x → drop i xs ≡ x ∷ drop (i + 1) xs
left_at [] i x e = cc
left_at (y ∷ xs) zero x e = cc
left_at (y ∷ xs) (suc i) x e =
    let next : suc (i + 1) ≡ suc i + 1 = omega arith in left_at xs i x e ∙ ap (λ n. x ∷ drop n (y ∷ xs)) next

-- ---- the values of a command

-- what the layer of commands says of the values of a command
abbrev pub AreAllowed : Type 0
AreAllowed = (c : CommandLine) → IsValidCommand c → are_allowed_values (value_rules c.applet) c.values ≡ true

pub values_allowed : AreAllowed → (command : CommandLine) (values : List OptionValue) → IsValidCommand command → command.applet ≡ Mkpkg → values ≡ command.values → are_allowed_values (value_rules Mkpkg) values ≡ true
values_allowed law command values h e is =
    let own : are_allowed_values (value_rules Mkpkg) command.values ≡ true = subst (λ (a : Applet). are_allowed_values (value_rules a) command.values ≡ true) e (law command h) in
    ap (are_allowed_values (value_rules Mkpkg)) is ∙ own

first_two : (options : List ValueRule) (v : OptionValue) (vs : List OptionValue) → are_allowed_values options (v ∷ vs) ≡ true → (is_allowed_value (value_rule_of_letter options v.letter) v.text ≡ true) × (are_allowed_values options vs ≡ true)
first_two options v vs h =
    let parts = and_parts (is_allowed_value (value_rule_of_letter options v.letter) v.text && list_all (may_both_be_given options v) vs) (are_allowed_values options vs) h in
    ((and_parts (is_allowed_value (value_rule_of_letter options v.letter) v.text) (list_all (may_both_be_given options v) vs) parts.0).0, parts.1)

-- the value of the option for scripts gives a file
pub script_allowed : (vs : List OptionValue) (i : ℕ) (v : OptionValue) → are_allowed_values (value_rules Mkpkg) vs ≡ true → slice_get vs i ≡ Some v → v.letter ≡ SCRIPT → is_file_argument (script_file v.text) ≡ true
script_allowed vs i v h at e =
    let good : is_allowed_value (value_rule_of_letter (value_rules Mkpkg) SCRIPT) v.text ≡ true =
    subst (λ (l : ℕ). is_allowed_value (value_rule_of_letter (value_rules Mkpkg) l) v.text ≡ true) e (value_at (value_rules Mkpkg) vs i v h at) in
    (and_parts (list_any (λ t. bytes_eq t (script_type v.text)) script_types) (is_file_argument (script_file v.text)) good).1

pub script_there : (vs : List OptionValue) (i : ℕ) (v : OptionValue) → are_allowed_values (value_rules Mkpkg) vs ≡ true → slice_get vs i ≡ Some v → v.letter ≡ SCRIPT
    → IfSome (slice_get vs i) (λ w. (w.letter ≡ SCRIPT) × (is_file_argument (script_file w.text) ≡ true))
script_there vs i v h at e =
    let P : Option OptionValue → Type 0 = λ o. IfSome o (λ w. (w.letter ≡ SCRIPT) × (is_file_argument (script_file w.text) ≡ true)) in
    subst P (sym at) (e, script_allowed vs i v h at e)

pub script_name : (vs : List OptionValue) (i : ℕ) (v : OptionValue) (name : List ℕ) → slice_get vs i ≡ Some v
    → option_map (λ (w : OptionValue). without_one_leading_dot_slash (script_file w.text)) (slice_get vs i) ≡ Some name → name ≡ without_one_leading_dot_slash (script_file v.text)
script_name vs i v name at e =
    let both : Some name ≡ Some (without_one_leading_dot_slash (script_file v.text)) = sym e ∙ ap (option_map (λ (w : OptionValue). without_one_leading_dot_slash (script_file w.text))) at in
    cc (both)

-- and that of the option for a folder names one
pub folder_file : (vs : List OptionValue) → are_allowed_values (value_rules Mkpkg) vs ≡ true → IfSome (first_value_with_letter FILES vs) (λ v. is_file_argument v.text ≡ true)
folder_file [] h = tt
folder_file (u ∷ us) h = by_letter (eqb u.letter FILES) refl (folder_file us (first_two (value_rules Mkpkg) u us h).1)
  where
    by_letter : (b : Bool) → eqb u.letter FILES ≡ b → IfSome (first_value_with_letter FILES us) (λ v. is_file_argument v.text ≡ true) → IfSome (cond b (Some u) (first_value_with_letter FILES us)) (λ v. is_file_argument v.text ≡ true)
    by_letter true t rest =
        let good : is_allowed_value (value_rule_of_letter (value_rules Mkpkg) FILES) u.text ≡ true =
        subst (λ (l : ℕ). is_allowed_value (value_rule_of_letter (value_rules Mkpkg) l) u.text ≡ true) (eqb-true u.letter FILES t) (first_two (value_rules Mkpkg) u us h).0 in
        good
    by_letter false t rest = rest

-- ---- the first value of an option

abbrev IsFirstIn : Option OptionValue → List OptionValue → Type 0
IsFirstIn None values = values ≡ []
IsFirstIn (Some v) values = (others : List OptionValue) × (values ≡ v ∷ others)

first_in : (letter : ℕ) (vs : List OptionValue) → IsFirstIn (first_value_with_letter letter vs) (values_of_letter letter vs)
first_in letter [] = refl
first_in letter (v ∷ vs) = by_letter (eqb v.letter letter) (first_in letter vs)
  where
    by_letter : (b : Bool) → IsFirstIn (first_value_with_letter letter vs) (values_of_letter letter vs) → IsFirstIn (cond b (Some v) (first_value_with_letter letter vs)) (cond b (v ∷ values_of_letter letter vs) (values_of_letter letter vs))
    by_letter true h = (values_of_letter letter vs, refl)
    by_letter false h = h

first_as : (first : Option (Bor OptionValue)) (found : Option OptionValue) (values : List OptionValue) → option_map (λ (v : Bor OptionValue). v.now) first ≡ found → IsFirstIn found values → IsFirstValue first values
first_as None found values e h = let P : Option OptionValue → Type 0 = λ o. IsFirstIn o values in subst P (sym e) h
first_as (Some v) found values e h = let P : Option OptionValue → Type 0 = λ o. IsFirstIn o values in subst P (sym e) h

pub first_value_is : (letter : ℕ) (vs : List OptionValue) (first : Option (Bor OptionValue)) → option_map (λ (v : Bor OptionValue). v.now) first ≡ first_value_with_letter letter vs → IsFirstValue first (values_of_letter letter vs)
first_value_is letter vs first e = first_as first (first_value_with_letter letter vs) (values_of_letter letter vs) e (first_in letter vs)

-- the folder that is given
abbrev folder_in : OptionValue → List ℕ
folder_in v = without_one_leading_dot_slash v.text

pub record IsFolder (vs : List OptionValue) (folder : List ℕ) : Type 0 where
  pub value : OptionValue
  pub others : List OptionValue
  pub first : values_of_letter FILES vs ≡ value ∷ others
  pub name : folder_in value ≡ folder

folder_by : (vs : List OptionValue) (folder : List ℕ) (found : Option OptionValue) → IsFirstIn found (values_of_letter FILES vs) → Some folder ≡ option_map folder_in found → IsFolder vs folder
folder_by vs folder None h e = absurd (cc (e))
folder_by vs folder (Some v) h e = record { value = v; others = h.0; first = h.1; name = cc (e) }

pub folder_is : (vs : List OptionValue) (folder : List ℕ) → Some folder ≡ option_map folder_in (first_value_with_letter FILES vs) → IsFolder vs folder
folder_is vs folder e = folder_by vs folder (first_value_with_letter FILES vs) (first_in FILES vs) e

no_folder_by : (vs : List OptionValue) (found : Option OptionValue) → IsFirstIn found (values_of_letter FILES vs) → None ≡ option_map folder_in found → values_of_letter FILES vs ≡ []
no_folder_by vs None h e = h
no_folder_by vs (Some v) h e = absurd (cc (e))

pub no_folder : (vs : List OptionValue) → None ≡ option_map folder_in (first_value_with_letter FILES vs) → values_of_letter FILES vs ≡ []
no_folder vs e = no_folder_by vs (first_value_with_letter FILES vs) (first_in FILES vs) e

-- ---- the values of an option, from a place on

pub given_here : (letter : ℕ) (vs : List OptionValue) (i : ℕ) (v : OptionValue) → slice_get vs i ≡ Some v → v.letter ≡ letter → values_of_letter letter (drop i vs) ≡ v ∷ values_of_letter letter (drop (i + 1) vs)
given_here letter vs i v at e =
    ap (values_of_letter letter) (left_at vs i v at) ∙ ap (λ b. cond b (v ∷ values_of_letter letter (drop (i + 1) vs)) (values_of_letter letter (drop (i + 1) vs))) (eq-eqb v.letter letter e)

pub first_is : (values : List OptionValue) (first : Option (Bor OptionValue)) (v : Bor OptionValue) → IsFirstValue first values → first ≡ Some v → IsFirstValue (Some v) values
first_is values first v h e = let P : Option (Bor OptionValue) → Type 0 = λ o. IsFirstValue o values in subst P e h

pub first_none : (values : List OptionValue) (first : Option (Bor OptionValue)) → IsFirstValue first values → first ≡ None → values ≡ []
first_none values first h e = let P : Option (Bor OptionValue) → Type 0 = λ o. IsFirstValue o values in subst P e h

-- ---- folders that are package_by have the sizes and the values of their sources

abbrev pub file_size : File → ℕ
file_size file = size_of_kind file.kind

abbrev source_size : SourceFileNameAndBytes → ℕ
source_size source = size_of_kind (kind_of_file source.bytes)

files_sized : (files : List File) (sources : List SourceFileNameAndBytes) → AreFilesFrom files sources → sum_by file_size files ≡ sum_by source_size sources
files_sized [] [] h = refl
files_sized [] (s ∷ ss) h = absurd h
files_sized (f ∷ fs) [] h = absurd h
files_sized (f ∷ fs) (s ∷ ss) h =
    let one : file_size f ≡ source_size s = ap size_of_kind h.0.kind in
    omega (arith, sum_by-cons file_size f fs, sum_by-cons source_size s ss, files_sized fs ss h.1, one)

abbrev pub folder_size : Folder → ℕ
folder_size folder = files_size folder.files.items

pub folders_sized : (folders : List Folder) (sources : List SourceFolder) → AreFoldersFrom folders sources → installed_size_of_folders folders ≡ installed_size sources
folders_sized [] [] h = refl
folders_sized [] (s ∷ ss) h = absurd h
folders_sized (f ∷ fs) [] h = absurd h
folders_sized (f ∷ fs) (s ∷ ss) h =
    let one : folder_size f ≡ size_of_folder s = files_sized f.files.items s.files h.0.files in
    omega (arith, sum_by-cons folder_size f fs, sum_by-cons size_of_folder s ss, folders_sized fs ss h.1, one)

files_valued : (files : List File) (sources : List SourceFileNameAndBytes) → AreFilesFrom files sources → map packed_file files ≡ map value_of_file sources
files_valued [] [] h = refl
files_valued [] (s ∷ ss) h = absurd h
files_valued (f ∷ fs) [] h = absurd h
files_valued (f ∷ fs) (s ∷ ss) h = λ j. value_of_kind (h.0.name j) (h.0.kind j) ∷ files_valued fs ss h.1 j

pub folders_valued : (folders : List Folder) (sources : List SourceFolder) → AreFoldersFrom folders sources → map packed_folder folders ≡ map value_of_folder sources
folders_valued [] [] h = refl
folders_valued [] (s ∷ ss) h = absurd h
folders_valued (f ∷ fs) [] h = absurd h
folders_valued (f ∷ fs) (s ∷ ss) h = λ j. folder_with (h.0.name j) (files_valued f.files.items s.files h.0.files j) ∷ folders_valued fs ss h.1 j

-- ---- each size stands in the blocks

blocks_laid : (cs : List Contents) → contents_blocks cs ≡ flat_map block_bytes (map block_of_contents cs)
blocks_laid [] = refl
blocks_laid (c ∷ cs) =
    flat_map-cons contents_block c cs ∙ ap (λ (l : List ℕ). contents_block c ++ l) (blocks_laid cs) ∙ sym (flat_map-cons block_bytes (block_of_contents c) (map block_of_contents cs))

-- contents stand in their blocks
abbrev pub Held : Type 0
Held = (contents : List Contents) → total_size_of_file_contents contents ≤ length (flat_map block_bytes (map block_of_contents contents))

pub sizes_held : Held → (blocks : List ℕ) (folders : Vec Folder Global) (sources : List SourceFolder) → ArePackedFolders blocks folders sources → installed_size_of_folders folders.items ≤ length blocks
sizes_held held blocks folders sources h =
    let sum : installed_size_of_folders folders.items ≡ installed_size sources = folders_sized folders.items sources h.are in
    let same : length blocks ≡ length (flat_map block_bytes (map block_of_contents (contents_of_folders 1 sources))) = ap length (h.blocks ∙ blocks_laid (contents_of_folders 1 sources)) in
    omega (arith, sum, same, installed_total 1 sources, held (contents_of_folders 1 sources))

-- ---- the file

pub laid_is : (v : Plain) (contents : List Contents) → file_of PACKAGE_WORD (canonical v) ++ contents_blocks contents ≡ container_of_value_and_contents PACKAGE_WORD v contents
laid_is v contents =
    let piece : BlockWithoutOffset = adb_block_of_payload (canonical v) in
    let mark : List ℕ = codes "ADB." in
    let schema : List ℕ = to_le_bytes w32 PACKAGE_WORD in
    let payload : List ℕ = flat_map block_bytes (piece ∷ []) in
    let rest : List ℕ = contents_blocks contents in
    let tail : payload ++ rest ≡ flat_map block_bytes (piece ∷ map block_of_contents contents) =
    ap (λ (l : List ℕ). l ++ rest) (flat_map-cons block_bytes piece [] ∙ append-nil (block_bytes piece))
    ∙ ap (λ (l : List ℕ). block_bytes piece ++ l) (blocks_laid contents) ∙ sym (flat_map-cons block_bytes piece (map block_of_contents contents)) in
    append_assoc mark (schema ++ payload) rest ∙ ap (λ (l : List ℕ). mark ++ l) (append_assoc schema payload rest ∙ ap (λ (l : List ℕ). schema ++ l) tail)

file_ok : (v : Plain) (contents : List Contents) (payload file blocks : List ℕ) (o : Option ByteAndValueCounts) → payload_unless_overflow (canonical v) o ≡ Ok payload → blocks ≡ contents_blocks contents
    → file ≡ file_of PACKAGE_WORD payload ++ blocks → container_unless_too_large o v contents ≡ Ok file
file_ok v contents payload file blocks None w b e =
    let same : canonical v ≡ payload = cc in
    ap Ok (sym (e ∙ ap (λ (p : List ℕ). file_of PACKAGE_WORD p ++ blocks) (sym same) ∙ ap (λ (l : List ℕ). file_of PACKAGE_WORD (canonical v) ++ l) b ∙ laid_is v contents))
file_ok v contents payload file blocks (Some counts) w b e = absurd (cc)

pub package_ok : (v : Plain) (contents : List Contents) (payload file blocks : List ℕ) → payload_or_counts_at_overflow v ≡ Ok payload → blocks ≡ contents_blocks contents → file ≡ file_of PACKAGE_WORD payload ++ blocks
    → package_container v contents ≡ Ok file
unfolding payload_or_counts_at_overflow package_container
package_ok v contents payload file blocks w b e = file_ok v contents payload file blocks (counts_at_first_overflow v) w b e

file_large : (v : Plain) (contents : List Contents) (bytes values : ℕ) (o : Option ByteAndValueCounts) → payload_unless_overflow (canonical v) o ≡ Err (bytes, values) → container_unless_too_large o v contents ≡ Err (TooLarge bytes values)
file_large v contents bytes values None w = absurd (cc)
file_large v contents bytes values (Some counts) w =
    let same : counts ≡ (bytes, values) = cc in
    ap (λ (c : ByteAndValueCounts). Err (TooLarge c.0 c.1)) same

pub package_err : (v : Plain) (contents : List Contents) (fault : MakeFault) → IsOverflowFault fault (payload_or_counts_at_overflow v) → AgreesOrIsFault IsBytes (Err fault) (package_container v contents)
unfolding payload_or_counts_at_overflow package_container
package_err v contents (TooLarge bytes values) h = file_large v contents bytes values (counts_at_first_overflow v) h
package_err v contents Disk h = tt
package_err v contents Memory h = tt
package_err v contents (FileMissing p) h = absurd h
package_err v contents (FileBad p c) h = absurd h
package_err v contents (InfoBad p) h = absurd h

large_not_disk : (A : Type 0) (fault : MakeFault) (told : Result (List ℕ) ByteAndValueCounts) → IsOverflowFault fault told → IsNotDisk {A = A} (Err fault)
large_not_disk A (TooLarge bytes values) told h = tt
large_not_disk A Memory told h = tt
large_not_disk A Disk told h = absurd h
large_not_disk A (FileMissing p) told h = absurd h
large_not_disk A (FileBad p c) told h = absurd h
large_not_disk A (InfoBad p) told h = absurd h

pub large_answer : {A : Type 0} (r : Result A MakeFault) (fault : MakeFault) (told : Result (List ℕ) ByteAndValueCounts) → IsErrAnd r (λ e. e ≡ fault) → IsOverflowFault fault told → IsNotDisk r
large_answer (Ok x) fault told h o = absurd h
large_answer {A} (Err e) fault told h o = let P : MakeFault → Type 0 = λ f. IsNotDisk {A = A} (Err f) in subst P (sym h) (large_not_disk A fault told o)

pub memory_answer : {A : Type 0} (r : Result A MakeFault) → IsErrAnd r (λ e. e ≡ Memory) → IsNotDisk r
memory_answer (Ok x) h = absurd h
memory_answer {A} (Err e) h = let P : MakeFault → Type 0 = λ f. IsNotDisk {A = A} (Err f) in subst P (sym h) tt

-- the value that is written is that of the package
pub value_is : (about : List FieldWithValue) (size : ℕ) (written folders : List Folder) (sources : List SourceFolder) (scripts : List Script) (values wanted : List OptionValue)
    → size ≡ installed_size_of_folders folders → written ≡ folders → AreFoldersFrom folders sources → values ≡ wanted
    → package_with (information_value_with_installed_size about size) (map packed_folder written) scripts (texts_of (values_of_letter TRIGGER values)) (replaces_priority about)
    ≡ value_of_package (information_value_with_installed_size about (installed_size sources)) sources scripts (texts_of (values_of_letter TRIGGER wanted)) (replaces_priority about)
value_is about size written folders sources scripts values wanted s w h v =
    let sized : size ≡ installed_size sources = s ∙ folders_sized folders sources h in
    let valued : map packed_folder written ≡ map value_of_folder sources = ap (map packed_folder) w ∙ folders_valued folders sources h in
    λ j. package_with (information_value_with_installed_size about (sized j)) (valued j) scripts (texts_of (values_of_letter TRIGGER (v j))) (replaces_priority about)

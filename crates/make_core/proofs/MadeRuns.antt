-- A package that is made by reads one after the other.
use Rattle.command_core.specs.declared.values.TheConstants.{FILES, SCRIPT}
use Rattle.std.proofs.Common.{◌≡◌, ℕ, suc, ◌+◌, ◌≤◌, List, [], ◌∷◌, ◌++◌, length, drop, take, map, slice_get, Option, Some, Result, Ok, Err, Vec, refl, sym, ap, ◌∙◌, subst, arith}
use Rattle.std.specs.declared.alloc.Global.{Global}
use Rattle.std.specs.Result.{IsErrAnd}
use Rattle.std.proofs.lemmas.List.{map-append, take-append-drop}
use Rattle.base_core.specs.Calls.{IfObservable}
use Rattle.base_core.specs.Read.{OnlyReads}
use Rattle.base_core.specs.Listed.{AreSortedAndEachBelowFolder, IsSortedListingOfFolder}
use Rattle.base_core.specs.Faults.{Counts}
use Rattle.base_core.specs.Tree.{TreeState}
use Rattle.command_core.specs.Command.{CommandLine}
use Rattle.command_core.specs.Values.{script_file}
use Rattle.command_core.specs.Files.{without_one_leading_dot_slash}
use Rattle.command_core.specs.declared.values.OptionValue.{OptionValue}
use Rattle.package_files.specs.Folders.{folder_listings_by_tree_names}
use Rattle.package_files.specs.make_info.Faults.{IsInfoFault}
use Rattle.package_files.specs.make_info.Information.{FieldWithValue, information}
use Rattle.make_core.specs.Answers.{IsBytes, IsOkOrDiskOrMemory, IsMakeResult, IsNotDisk, IsSortedListingOfFirstFolder}
use Rattle.make_core.specs.Making.{made_package, or_info_bad, package_of_parts}
use Rattle.package_files.specs.Package as packages
use Rattle.package_files.specs.Package.{SourceFolder}
use Rattle.package_files.specs.Packed.{IsPacking}
use Rattle.package_files.specs.Runs.{AgreesOrIsFault, HoldsOfSomeReadsOfTree}
use Rattle.make_core.specs.Scripts.{AreScripts, IsScript, script_view, scripts_view}
use Rattle.package_files.specs.Sources.{AreSortedAndEachBelowFirstFolder, and_then, results_from_read, source_folder_at_place_by_read, source_folders_of_first_option_only, source_folders_at_place_from_read, found_bytes_or_missing, values_of_letter, script_at, scripts_from_read}
use Rattle.package_files.specs.make_info.Reads.{Reads}
use Rattle.package_files.specs.make_info.declared.fault.MakeFault.{MakeFault}
use Rattle.package_files.specs.make_info.declared.fault.MakeFault.TheVariants.{FileMissing, FileBad, InfoBad, TooLarge, Disk, Memory}
use Rattle.package_files.specs.declared.file.Packing.{Packing}
use Rattle.make_core.specs.declared.packages.writing.Script.{Script}
use Rattle.make_core.proofs.MadeParts.{IsFolder, given_here}
use Rattle.package_files.proofs.PackLemmas.{folder_own, folders_none, reads_in}
use Rattle.package_files.proofs.ReadLemmas.{IsNext, IsSoFar, RestsOnOwn, each_rests, explained, fault_of_part, joined, joined_from, joined_told, kept_reads, so_far_more, so_far_stops, total}
use Rattle.make_core.proofs.ScriptLemmas.{next_of}
use Rattle.make_core.proofs.WriteLemmas.{given_append, given_one}

-- ---- scripts one after the other

abbrev pub one_read : OptionValue → ℕ
one_read v = 1

pub script_own : RestsOnOwn one_read script_at
script_own f g n v h = ap (λ (o : Option (List ℕ)). and_then (found_bytes_or_missing v.place o) (next_of v)) (h n (without_one_leading_dot_slash (script_file v.text)) (omega arith) (omega arith))

pub scripts_none : (scripts : Vec Script Global) → scripts.items ≡ [] → AreScripts scripts []
scripts_none scripts e = ap (map script_view) e

scripts_more : (scripts more : Vec Script Global) (script : Script) (ys : List packages.Script) (y : packages.Script) → more.items ≡ scripts.items ++ script ∷ [] → AreScripts scripts ys → IsScript script y
    → AreScripts more (ys ++ y ∷ [])
scripts_more scripts more script ys y e h i = ap (map script_view) e ∙ map-append script_view scripts.items (script ∷ []) ∙ λ j. h j ++ i j ∷ []

module _ (told : List TreeState) (values : List OptionValue) (i : ℕ) (v : OptionValue) (here : slice_get values i ≡ Some v) (is : v.letter ≡ SCRIPT) where
  pub scripts_go_on : (scripts more : Vec Script Global) (script : Script) → more.items ≡ scripts.items ++ script ∷ [] → IsSoFar told one_read script_at (values_of_letter SCRIPT (take i values)) (AreScripts scripts)
      → IsNext told script_at v IsScript (Ok script) → IsSoFar told one_read script_at (values_of_letter SCRIPT (take (i + 1) values)) (AreScripts more)
  scripts_go_on scripts more script e so_far next =
      let P : List OptionValue → Type 0 = λ xs. IsSoFar told one_read script_at xs (AreScripts more) in
      subst P (sym (given_one SCRIPT values i v here is))
      (so_far_more told one_read script_at script_own (values_of_letter SCRIPT (take i values)) v (AreScripts scripts) (AreScripts more) IsScript script so_far next (λ ys y. scripts_more scripts more script ys y e))

  all_given : values_of_letter SCRIPT (take i values) ++ v ∷ values_of_letter SCRIPT (drop (i + 1) values) ≡ values_of_letter SCRIPT values
  all_given =
      ap (λ (l : List OptionValue). values_of_letter SCRIPT (take i values) ++ l) (sym (given_here SCRIPT values i v here is))
      ∙ sym (given_append SCRIPT (take i values) (drop i values)) ∙ ap (values_of_letter SCRIPT) (take-append-drop i values)

  pub scripts_stop : (scripts : Vec Script Global) (fault : MakeFault) → IsSoFar told one_read script_at (values_of_letter SCRIPT (take i values)) (AreScripts scripts) → IsNext told script_at v IsScript (Err fault)
      → (n : ℕ) → HoldsOfSomeReadsOfTree told (λ read. AgreesOrIsFault AreScripts (Err fault) (scripts_from_read read n (values_of_letter SCRIPT values)))
  scripts_stop scripts fault so_far next n =
      let P : List OptionValue → Type 0 = λ xs. HoldsOfSomeReadsOfTree told (λ read. AgreesOrIsFault AreScripts (Err fault) (scripts_from_read read n xs)) in
      subst P all_given
      (so_far_stops told one_read script_at script_own (values_of_letter SCRIPT (take i values)) v (values_of_letter SCRIPT (drop (i + 1) values)) (AreScripts scripts) IsScript AreScripts fault so_far next n)

pub scripts_same : (told : List TreeState) (xs ys : List OptionValue) (scripts : Vec Script Global) → ys ≡ xs → IsSoFar told one_read script_at xs (AreScripts scripts) → IsSoFar told one_read script_at ys (AreScripts scripts)
scripts_same told xs ys scripts e h = let P : List OptionValue → Type 0 = λ l. IsSoFar told one_read script_at l (AreScripts scripts) in subst P (sym e) h

-- ---- as many as there are values

module _ {X Y : Type 0} (count : X → ℕ) (of : ℕ → X → Result Y MakeFault) where
  long_by : (r : Result Y MakeFault) (e : Result (List Y) MakeFault) (ys : List Y) (m : ℕ) → and_then r (λ y0. and_then e (λ l. Ok (y0 ∷ l))) ≡ Ok ys → ((l : List Y) → e ≡ Ok l → length l ≡ m) → length ys ≡ suc m
  long_by (Ok y0) (Ok l) ys m e h = let all : ys ≡ y0 ∷ l = cc in ap length all ∙ ap suc (h l refl)
  long_by (Ok y0) (Err x) ys m e h = absurd (cc)
  long_by (Err x) e ys m i h = absurd (cc)

  each_long : (n : ℕ) (xs : List X) (ys : List Y) → results_from_read count of n xs ≡ Ok ys → length ys ≡ length xs
  each_long n [] ys e = let none : ys ≡ [] = cc in ap length none
  each_long n (x ∷ xs) ys e = long_by (of n x) (results_from_read count of (n + count x) xs) ys (length xs) e (λ l g. each_long (n + count x) xs l g)

ones : (xs : List OptionValue) → total one_read xs ≡ length xs
ones [] = refl
ones (x ∷ xs) = let further = ones xs in omega arith

-- ---- scripts, and then folders

folders_rest : (k : ℕ) (ds : List OptionValue) (names : List (List ℕ)) (f g : Reads) → ((m : ℕ) (name : List ℕ) → k ≤ m → f m name ≡ g m name) → source_folders_of_first_option_only f k ds names ≡ source_folders_of_first_option_only g k ds names
folders_rest k [] names f g h = refl
folders_rest k (v ∷ vs) names f g h = each_rests reads_in (source_folder_at_place_by_read v.place) (folder_own v.place) f g k (folder_listings_by_tree_names (without_one_leading_dot_slash v.text) names) (λ m name lo hi. h m name lo)

-- scripts and folders are explained together
pub record AreParts (ss ds : List OptionValue) (names : List (List ℕ)) (scripts : Vec Script Global) (r : Result Packing MakeFault) (read : Reads) : Type 0 where
  pub given : List packages.Script
  pub are : scripts_from_read read 0 ss ≡ Ok given
  pub view : AreScripts scripts given
  pub rest : AgreesOrIsFault IsPacking r (source_folders_of_first_option_only read (length given) ds names)

pub both_parts : (told : List TreeState) (ss ds : List OptionValue) (names : List (List ℕ)) (scripts : Vec Script Global) (r : Result Packing MakeFault)
    → HoldsOfSomeReadsOfTree told (λ read. AgreesOrIsFault AreScripts (Ok scripts) (scripts_from_read read 0 ss)) → ((n : ℕ) → HoldsOfSomeReadsOfTree told (λ read. AgreesOrIsFault IsPacking r (source_folders_of_first_option_only read n ds names)))
    → HoldsOfSomeReadsOfTree told (AreParts ss ds names scripts r)
both_parts told ss ds names scripts r p q =
    let k : ℕ = 0 + total one_read ss in
    let h = q k in
    let both : Reads = joined k p.read h.read in
    let many : length p.is.0 ≡ length ss = each_long one_read (script_at p.read) 0 ss p.is.0 p.is.1 in
    let counted : total one_read ss ≡ length ss = ones ss in
    let long : k ≡ length p.is.0 = omega arith in
    let P : ℕ → Type 0 = λ n. AgreesOrIsFault IsPacking r (source_folders_of_first_option_only both n ds names) in
    let Q : Result (List SourceFolder) MakeFault → Type 0 = λ w. AgreesOrIsFault IsPacking r w in
    record {
      read = both;
      observed = joined_told told k p.read h.read p.observed h.observed;
      is = record {
        given = p.is.0;
        are = kept_reads told one_read script_at script_own 0 ss p.read h.read ∙ p.is.1;
        view = p.is.2;
        rest = subst P long (subst Q (sym (folders_rest k ds names both h.read (λ m name lo. joined_from k p.read h.read m name lo))) h.is);
      };
    }

-- ---- what is made of the parts

module _ (command : CommandLine) (names : List (List ℕ)) (read : Reads) where
  abbrev behind_info : List packages.Script → List FieldWithValue → Result (List ℕ) MakeFault
  behind_info scripts about = and_then (source_folders_of_first_option_only read (length scripts) (values_of_letter FILES command.values) names) (package_of_parts command scripts about)

  abbrev after_scripts : List packages.Script → Result (List ℕ) MakeFault
  after_scripts scripts = and_then (or_info_bad (information command)) (behind_info scripts)

  pub scripts_fault : (fault : MakeFault) → AgreesOrIsFault AreScripts (Err fault) (scripts_from_read read 0 (values_of_letter SCRIPT command.values)) → AgreesOrIsFault IsBytes (Err fault) (made_package command names read)
  unfolding made_package
  scripts_fault fault h = fault_of_part AreScripts IsBytes fault (scripts_from_read read 0 (values_of_letter SCRIPT command.values)) after_scripts h

  to_info : (ys : List packages.Script) → scripts_from_read read 0 (values_of_letter SCRIPT command.values) ≡ Ok ys → made_package command names read ≡ after_scripts ys
  unfolding made_package
  to_info ys e = ap (λ (r : Result (List packages.Script) MakeFault). and_then r after_scripts) e

  pub info_fault : (ys : List packages.Script) (fault : MakeFault) → scripts_from_read read 0 (values_of_letter SCRIPT command.values) ≡ Ok ys → IsInfoFault fault (information command) → AgreesOrIsFault IsBytes (Err fault) (made_package command names read)
  info_fault ys (InfoBad place) e h = to_info ys e ∙ ap (λ (r : Result (List FieldWithValue) ℕ). and_then (or_info_bad r) (behind_info ys)) h
  info_fault ys Memory e h = tt
  info_fault ys Disk e h = tt
  info_fault ys (FileMissing p) e h = absurd h
  info_fault ys (FileBad p c) e h = absurd h
  info_fault ys (TooLarge b v) e h = absurd h

  to_folders : (ys : List packages.Script) (about : List FieldWithValue) → scripts_from_read read 0 (values_of_letter SCRIPT command.values) ≡ Ok ys → information command ≡ Ok about → made_package command names read ≡ behind_info ys about
  to_folders ys about e i = to_info ys e ∙ ap (λ (r : Result (List FieldWithValue) ℕ). and_then (or_info_bad r) (behind_info ys)) i

  pub folders_fault : (scripts : Vec Script Global) (about : List FieldWithValue) (fault : MakeFault) → information command ≡ Ok about
      → AreParts (values_of_letter SCRIPT command.values) (values_of_letter FILES command.values) names scripts (Err fault) read → AgreesOrIsFault IsBytes (Err fault) (made_package command names read)
  folders_fault scripts about fault i h =
      let Q : Result (List ℕ) MakeFault → Type 0 = λ w. AgreesOrIsFault IsBytes (Err fault) w in
      subst Q (sym (to_folders h.given about h.are i))
      (fault_of_part IsPacking IsBytes fault (source_folders_of_first_option_only read (length h.given) (values_of_letter FILES command.values) names) (package_of_parts command h.given about) h.rest)

  pub parts_made : (scripts : Vec Script Global) (about : List FieldWithValue) (packing : Packing) (r : Result (Vec ℕ Global) MakeFault) → information command ≡ Ok about
      → AreParts (values_of_letter SCRIPT command.values) (values_of_letter FILES command.values) names scripts (Ok packing) read
      → ((sources : List SourceFolder) → IsPacking packing sources → AgreesOrIsFault IsBytes r (package_of_parts command (scripts_view scripts.items) about sources))
      → AgreesOrIsFault IsBytes r (made_package command names read)
  parts_made scripts about packing r i h made =
      let Q : Result (List ℕ) MakeFault → Type 0 = λ w. AgreesOrIsFault IsBytes r w in
      let R : List packages.Script → Type 0 = λ l. AgreesOrIsFault IsBytes r (package_of_parts command l about h.rest.0) in
      subst Q (sym (to_folders h.given about h.are i ∙ ap (λ (x : Result (List SourceFolder) MakeFault). and_then x (package_of_parts command h.given about)) h.rest.1))
      (subst R h.view (made h.rest.0 h.rest.2))

-- ---- a run, of what is made

pub made_by : (told : List TreeState) (command : CommandLine) (names : List (List ℕ)) (r : Result (Vec ℕ Global) MakeFault) → AreSortedAndEachBelowFirstFolder (values_of_letter FILES command.values) names → IfObservable told (λ v. IsSortedListingOfFirstFolder (values_of_letter FILES command.values) v names)
    → HoldsOfSomeReadsOfTree told (λ read. AgreesOrIsFault IsBytes r (made_package command names read)) → IsMakeResult told command r
made_by told command names (Ok file) named below p = record { names = names; named = named; below = below; reads = record { read = p.read; observed = p.observed; is = p.is.1 ∙ ap Ok p.is.2 } }
made_by told command names (Err Disk) named below p = tt
made_by told command names (Err Memory) named below p = tt
made_by told command names (Err (FileMissing q)) named below p = record { names = names; named = named; below = below; reads = p }
made_by told command names (Err (FileBad q c)) named below p = record { names = names; named = named; below = below; reads = p }
made_by told command names (Err (InfoBad q)) named below p = record { names = names; named = named; below = below; reads = p }
made_by told command names (Err (TooLarge b v)) named below p = record { names = names; named = named; below = below; reads = p }

-- the tree was asked before the run, and stayed as it was
pub run_as : (t0 t1 : List TreeState) (command : CommandLine) (names : List (List ℕ)) (r : Result (Vec ℕ Global) MakeFault) → t1 ≡ t0 → AreSortedAndEachBelowFirstFolder (values_of_letter FILES command.values) names → IfObservable t0 (λ v. IsSortedListingOfFirstFolder (values_of_letter FILES command.values) v names)
    → HoldsOfSomeReadsOfTree t1 (λ read. AgreesOrIsFault IsBytes r (made_package command names read)) → IsMakeResult t0 command r
run_as t0 t1 command names r e named below p =
    let P : List TreeState → Type 0 = λ t. HoldsOfSomeReadsOfTree t (λ read. AgreesOrIsFault IsBytes r (made_package command names read)) in
    made_by t0 command names r named below (subst P e p)

-- ---- the listing

pub below_as : (told : List TreeState) (command : CommandLine) (values : List OptionValue) (names : List (List ℕ)) → values ≡ command.values → IfObservable told (λ v. IsSortedListingOfFirstFolder (values_of_letter FILES values) v names)
    → IfObservable told (λ v. IsSortedListingOfFirstFolder (values_of_letter FILES command.values) v names)
below_as told command values names e h = let P : List OptionValue → Type 0 = λ vs. IfObservable told (λ v. IsSortedListingOfFirstFolder (values_of_letter FILES vs) v names) in subst P e h

pub named_as : (command : CommandLine) (values : List OptionValue) (names : List (List ℕ)) → values ≡ command.values → AreSortedAndEachBelowFirstFolder (values_of_letter FILES values) names → AreSortedAndEachBelowFirstFolder (values_of_letter FILES command.values) names
named_as command values names e h = let P : List OptionValue → Type 0 = λ vs. AreSortedAndEachBelowFirstFolder (values_of_letter FILES vs) names in subst P e h

pub nothing_named : (dirs : List OptionValue) (names : List (List ℕ)) → dirs ≡ [] → AreSortedAndEachBelowFirstFolder dirs names
nothing_named dirs names e = let P : List OptionValue → Type 0 = λ l. AreSortedAndEachBelowFirstFolder l names in subst P (sym e) tt

pub nothing_below : (told : List TreeState) (dirs : List OptionValue) (names : List (List ℕ)) → dirs ≡ [] → IfObservable told (λ v. IsSortedListingOfFirstFolder dirs v names)
nothing_below [] dirs names e = tt
nothing_below (v ∷ vs) dirs names e = let P : List OptionValue → Type 0 = λ l. IsSortedListingOfFirstFolder l v names in subst P (sym e) tt

cut_by : (told : List TreeState) (command : CommandLine) (fault : MakeFault) → IsOkOrDiskOrMemory {A = List (List ℕ)} (Err fault) → IsMakeResult told command (Err fault)
cut_by told command Disk cut = tt
cut_by told command Memory cut = tt
cut_by told command (FileMissing p) cut = absurd cut
cut_by told command (FileBad p c) cut = absurd cut
cut_by told command (InfoBad p) cut = absurd cut
cut_by told command (TooLarge b v) cut = absurd cut

pub cut_run : (told : List TreeState) (command : CommandLine) (r : Result (Vec ℕ Global) MakeFault) (fault : MakeFault) → IsErrAnd r (λ e. e ≡ fault) → IsOkOrDiskOrMemory {A = List (List ℕ)} (Err fault) → IsMakeResult told command r
cut_run told command (Ok file) fault h cut = absurd h
cut_run told command (Err e) fault h cut = let P : MakeFault → Type 0 = λ f. IsMakeResult told command (Err f) in subst P (sym h) (cut_by told command fault cut)

-- ---- what is said of a command's values, and of lists as they are borrowed

pub scripts_as : (told : List TreeState) (r : Result (Vec Script Global) MakeFault) (values wanted : List OptionValue) → values ≡ wanted
    → HoldsOfSomeReadsOfTree told (λ read. AgreesOrIsFault AreScripts r (scripts_from_read read 0 (values_of_letter SCRIPT values))) → HoldsOfSomeReadsOfTree told (λ read. AgreesOrIsFault AreScripts r (scripts_from_read read 0 (values_of_letter SCRIPT wanted)))
scripts_as told r values wanted e h = let P : List OptionValue → Type 0 = λ vs. HoldsOfSomeReadsOfTree told (λ read. AgreesOrIsFault AreScripts r (scripts_from_read read 0 (values_of_letter SCRIPT vs))) in subst P e h

-- folders behind scripts, after which the tree stayed as it was
pub both_as : (t0 t1 : List TreeState) (command : CommandLine) (values : List OptionValue) (names : List (List ℕ)) (scripts : Vec Script Global) (r : Result Packing MakeFault) → values ≡ command.values → t1 ≡ t0
    → HoldsOfSomeReadsOfTree t0 (λ read. AgreesOrIsFault AreScripts (Ok scripts) (scripts_from_read read 0 (values_of_letter SCRIPT values))) → ((n : ℕ) → HoldsOfSomeReadsOfTree t1 (λ read. AgreesOrIsFault IsPacking r (source_folders_of_first_option_only read n (values_of_letter FILES values) names)))
    → HoldsOfSomeReadsOfTree t0 (AreParts (values_of_letter SCRIPT command.values) (values_of_letter FILES command.values) names scripts r)
both_as t0 t1 command values names scripts r e same p q =
    let P : List OptionValue → Type 0 = λ vs. HoldsOfSomeReadsOfTree t0 (AreParts (values_of_letter SCRIPT vs) (values_of_letter FILES vs) names scripts r) in
    let Q : List TreeState → Type 0 = λ t. (n : ℕ) → HoldsOfSomeReadsOfTree t (λ read. AgreesOrIsFault IsPacking r (source_folders_of_first_option_only read n (values_of_letter FILES values) names)) in
    subst P e (both_parts t0 (values_of_letter SCRIPT values) (values_of_letter FILES values) names scripts r p (subst Q same q))

pub package_as : (command : CommandLine) (about : List FieldWithValue) (borrowed scripts : List Script) (packing : Packing) (r : Result (Vec ℕ Global) MakeFault) → borrowed ≡ scripts
    → ((sources : List SourceFolder) → IsPacking packing sources → AgreesOrIsFault IsBytes r (package_of_parts command (scripts_view borrowed) about sources))
    → (sources : List SourceFolder) → IsPacking packing sources → AgreesOrIsFault IsBytes r (package_of_parts command (scripts_view scripts) about sources)
package_as command about borrowed scripts packing r e made sources is =
    let P : List Script → Type 0 = λ l. AgreesOrIsFault IsBytes r (package_of_parts command (scripts_view l) about sources) in subst P e (made sources is)

-- ---- of the folder that is given, or of none

pub listed_for : (told : List TreeState) (vs : List OptionValue) (folder : List ℕ) (names : List (List ℕ)) → IsFolder vs folder
    → IfObservable told (λ w. IsSortedListingOfFolder folder w names) → IfObservable told (λ w. IsSortedListingOfFirstFolder (values_of_letter FILES vs) w names)
listed_for told vs folder names f h =
    let P : List OptionValue → Type 0 = λ l. IfObservable told (λ w. IsSortedListingOfFirstFolder l w names) in
    let Q : List ℕ → Type 0 = λ d. IfObservable told (λ w. IsSortedListingOfFolder d w names) in
    subst P (sym f.first) (subst Q (sym f.name) h)

pub named_for : (vs : List OptionValue) (folder : List ℕ) (names : List (List ℕ)) → IsFolder vs folder → AreSortedAndEachBelowFolder folder names → AreSortedAndEachBelowFirstFolder (values_of_letter FILES vs) names
named_for vs folder names f h =
    let P : List OptionValue → Type 0 = λ l. AreSortedAndEachBelowFirstFolder l names in
    let Q : List ℕ → Type 0 = λ d. AreSortedAndEachBelowFolder d names in
    subst P (sym f.first) (subst Q (sym f.name) h)

pub packed_for : (told : List TreeState) (dirs : List OptionValue) (v : OptionValue) (others : List OptionValue) (dir : List ℕ) (names : List (List ℕ)) (r : Result Packing MakeFault) (n : ℕ) → dirs ≡ v ∷ others
    → dir ≡ without_one_leading_dot_slash v.text → HoldsOfSomeReadsOfTree told (λ read. AgreesOrIsFault IsPacking r (source_folders_at_place_from_read v.place read n (folder_listings_by_tree_names dir names))) → HoldsOfSomeReadsOfTree told (λ read. AgreesOrIsFault IsPacking r (source_folders_of_first_option_only read n dirs names))
packed_for told dirs v others dir names r n e d h =
    let P : List OptionValue → Type 0 = λ l. HoldsOfSomeReadsOfTree told (λ read. AgreesOrIsFault IsPacking r (source_folders_of_first_option_only read n l names)) in
    let Q : List ℕ → Type 0 = λ f. HoldsOfSomeReadsOfTree told (λ read. AgreesOrIsFault IsPacking r (source_folders_at_place_from_read v.place read n (folder_listings_by_tree_names f names))) in
    subst P (sym e) (subst Q d h)

pub nothing_packed : (told : List TreeState) (dirs : List OptionValue) (names : List (List ℕ)) (packing : Packing) (n : ℕ) → dirs ≡ [] → packing.blocks.items ≡ [] → packing.folders.items ≡ []
    → HoldsOfSomeReadsOfTree told (λ read. AgreesOrIsFault IsPacking (Ok packing) (source_folders_of_first_option_only read n dirs names))
nothing_packed told dirs names packing n e b f =
    let P : List OptionValue → Type 0 = λ l. HoldsOfSomeReadsOfTree told (λ read. AgreesOrIsFault IsPacking (Ok packing) (source_folders_of_first_option_only read n l names)) in
    subst P (sym e) (explained told (λ read. AgreesOrIsFault IsPacking (Ok packing) (Ok [])) (λ read. ([], refl, folders_none packing.blocks.items packing.folders b f)))

-- ---- a run, of the tree

-- no call on the tree came behind
module _ {A B : Type 0} (x : B) (t0 t1 : List TreeState) (a b : Counts) where
  pub quiet_answer : (r : Result A MakeFault) → OnlyReads Disk t0 t1 a b (Ok x) → IsNotDisk r → OnlyReads Disk t0 t1 a b r
  quiet_answer (Ok y) h n = record { same = h.same; goes_on = h.goes_on; disk = λ e. absurd (cc); kept = h.kept; others = tt; proper = h.proper }
  quiet_answer (Err Disk) h n = absurd n
  quiet_answer (Err Memory) h n = record { same = h.same; goes_on = h.goes_on; disk = λ e. absurd (cc); kept = tt; others = λ off. h.kept; proper = h.proper }
  quiet_answer (Err (FileMissing p)) h n = record { same = h.same; goes_on = h.goes_on; disk = λ e. absurd (cc); kept = tt; others = λ off. h.kept; proper = h.proper }
  quiet_answer (Err (FileBad p c)) h n = record { same = h.same; goes_on = h.goes_on; disk = λ e. absurd (cc); kept = tt; others = λ off. h.kept; proper = h.proper }
  quiet_answer (Err (InfoBad p)) h n = record { same = h.same; goes_on = h.goes_on; disk = λ e. absurd (cc); kept = tt; others = λ off. h.kept; proper = h.proper }
  quiet_answer (Err (TooLarge p q)) h n = record { same = h.same; goes_on = h.goes_on; disk = λ e. absurd (cc); kept = tt; others = λ off. h.kept; proper = h.proper }

-- The root that a change leaves.
use Rattle.std.proofs.Common.{◌≡◌, ◌∙◌, ℕ, Bool, true, false, List, Option, Some, None, Result, Ok, refl, sym, ap, subst}
use Rattle.std.specs.Prelude.{if◌then◌else◌}
use Rattle.base_core.specs.Files.{Files}
use Rattle.engine_core.specs.own_core.FileChange.{FileChange}
use Rattle.engine_core.specs.own_core.FilesAfter.{DatabaseAndWorldAfter, listing_bytes}
use Rattle.engine_core.proofs.own_core.RecordNames.{database_after}
use Rattle.engine_core.specs.change_inputs.Database.{root_database}
use Rattle.engine_core.specs.change_inputs.Inputs.{Inputs, inputs_of, text_database_read_number}
use Rattle.engine_core.specs.change_inputs.World.{root_world, found_text_or_empty}
use Rattle.engine_core.specs.change_outcome.Made.{IsChangeMade}
use Rattle.engine_core.proofs.change_outcome.Made.{and_then_ok, made}
use Rattle.engine_core.specs.change_outcome.ChangeOutcome.{ChangeDone, change_or_refusal, packages_before_and_after_with_purge, database_and_world_after_change}
use Rattle.engine_core.specs.change_outcome.MembersAfter.{found_package_contents, found_members}
use Rattle.command_core.specs.Command.{CommandLine}
use Rattle.engine_core.specs.Changed.{InputsAndReplacement, change_of_selected, change_of_command, selected_from_pool_by_choice, selected_from_reads_by_choice, selected_from_inputs_by_choice, simulated_change}
use Rattle.engine_core.specs.Selecting.{pool_of_inputs_unless_too_many_candidates}
use Rattle.engine_core.specs.Wishes.{unknown_operand_place, unless_unknown_operand, wishes_of}
use Rattle.make_core.specs.make_info.Reads.{Reads}
use Rattle.engine_core.specs.path_clashes.Clash.{NamePair}
use Rattle.engine_core.specs.candidate_core.Rank.{SelectionProblem}
use Rattle.report_core.specs.declared.refusal.Refusal.{Refusal}
use Rattle.root_names.specs.RootNames.{database_name, text_database_name, world_name}
use Rattle.definition_laws.specs.roots.RootLeft.{AreAllReadFilesBytes, LaterCommandsFindMembersAndNewWorld}
use Rattle.definition_laws.proofs.roots.DatabaseLeft.{WrittenLaws, database_left}
use Rattle.definition_laws.proofs.roots.MembersFound.{FilesMayCome, PackagesAreTested, members_ok}
use Rattle.definition_laws.proofs.roots.NewWorld.{WorldsAreReadBack, root_world_left, world_text_left}
use Rattle.definition_laws.proofs.roots.SoundBefore.{AllSound, FilesMayStay, TextsAreSound, before_sound, inputs_parts, new_world_sound}

-- what the laws of the crates below say
pub record Laws : Type 0 where
  pub stay : FilesMayStay
  pub come : FilesMayCome
  pub tested : PackagesAreTested
  pub texts : TextsAreSound
  pub written : WrittenLaws
  pub worlds : WorldsAreReadBack

-- ---- what is selected

record IsSelectedOf (command : CommandLine) (read : Reads) (s : InputsAndReplacement) : Type 0 where
  inputs : inputs_of command read ≡ Ok s.inputs
  before : s.replacement.before ≡ s.inputs.root.database.packages

abbrev kept : InputsAndReplacement → Result InputsAndReplacement Refusal
kept s = Ok s

chosen_ok : (command : CommandLine) (inputs : Inputs) (pool : SelectionProblem) (chosen : Option (List ℕ)) (s : InputsAndReplacement) → selected_from_pool_by_choice command inputs pool chosen ≡ Ok s
    → (s.inputs ≡ inputs) × (s.replacement.before ≡ inputs.root.database.packages)
chosen_ok command inputs pool None s e = absurd (cc (e))
chosen_ok command inputs pool (Some trace) s e = by_same _ refl refl e
  where
    by_same : (t : InputsAndReplacement) → t.inputs ≡ inputs → t.replacement.before ≡ inputs.root.database.packages → kept t ≡ kept s → (s.inputs ≡ inputs) × (s.replacement.before ≡ inputs.root.database.packages)
    by_same t same before e = let is : t ≡ s = cc in (ap (λ (x : InputsAndReplacement). x.inputs) (sym is) ∙ same, ap (λ (x : InputsAndReplacement). x.replacement.before) (sym is) ∙ before)

place_ok : {A : Type 0} (o : Option ℕ) (next : Result A Refusal) (a : A) → unless_unknown_operand o next ≡ Ok a → next ≡ Ok a
place_ok None next a e = e
place_ok (Some place) next a e = absurd (cc (e))

selected_ok : (command : CommandLine) (read : Reads) (chosen : Option (List ℕ)) (s : InputsAndReplacement) → selected_from_reads_by_choice command read chosen ≡ Ok s → IsSelectedOf command read s
selected_ok command read chosen s e =
    let inputs = and_then_ok (inputs_of command read) (selected_from_inputs_by_choice command chosen) s e in
    let pool = and_then_ok (pool_of_inputs_unless_too_many_candidates command inputs.0) (λ pool. unless_unknown_operand (unknown_operand_place command.applet inputs.0 command.operands) (selected_from_pool_by_choice command inputs.0 pool chosen)) s inputs.2 in
    let is = chosen_ok command inputs.0 pool.0 chosen s (place_ok (unknown_operand_place command.applet inputs.0 command.operands) (selected_from_pool_by_choice command inputs.0 pool.0 chosen) s pool.2) in
    record {
      inputs = inputs.1 ∙ ap (λ (x : Inputs). Ok x) (sym is.0);
      before = is.1 ∙ ap (λ (x : Inputs). x.root.database.packages) (sym is.0);
    }

-- ---- what is left

module _ (laws : Laws) (command : CommandLine) (read : Reads) (files : Files) (chosen : Option (List ℕ)) (clash : Option NamePair) (done : ChangeDone) (bytes : AreAllReadFilesBytes read) where
  with_made : (s : InputsAndReplacement) → selected_from_reads_by_choice command read chosen ≡ Ok s → IsChangeMade s.inputs s.replacement (wishes_of command) read clash files done → LaterCommandsFindMembersAndNewWorld command read chosen done
  with_made s is m =
      let of = selected_ok command read chosen s is in
      let root = inputs_parts command read s.inputs of.inputs in
      let sound : AllSound s.replacement.before = subst AllSound (sym of.before) (before_sound laws.stay laws.texts command read s.inputs.root bytes root) in
      let members = members_ok laws.come laws.tested read bytes s.replacement sound s.inputs.root.repositories (wishes_of command).no_scripts m.found m.members in
      let change : FileChange = packages_before_and_after_with_purge s.inputs (wishes_of command) m.found in
      let records : DatabaseAndWorldAfter = database_and_world_after_change s.inputs m.database in
      let database_there : done.files database_name ≡ Some m.database =
      ap (λ (d : ChangeDone). d.files database_name) m.is ∙ database_after change (listing_bytes (found_package_contents m.found)) records files in
      let world_there : found_text_or_empty (done.files world_name) ≡ records.world =
      ap (λ (d : ChangeDone). found_text_or_empty (d.files world_name)) m.is ∙ world_text_left change (listing_bytes (found_package_contents m.found)) records files in
      record {
        selected = s;
        is_selected = is;
        found = m.found;
        members = m.members;
        bytes = m.database;
        database = λ later next finds.
            ap (λ (o : Option (List ℕ)). root_database later.flags.initdb o (next text_database_read_number text_database_name)) (finds.database ∙ database_there)
            ∙ database_left laws.written (found_members m.found) m.database members.0 members.1 m.unreserved m.new_database;
        world = λ next finds.
            ap root_world (ap found_text_or_empty finds.world ∙ world_there)
            ∙ root_world_left laws.worlds s.inputs.root.new_world (new_world_sound command read s.inputs.root root);
        text = λ next finds. ap found_text_or_empty finds.world ∙ world_there;
      }

  not_simulated : (s : InputsAndReplacement) (b : Bool) → b ≡ false → (if b then Ok (simulated_change s.replacement (wishes_of command) files) else change_or_refusal s.inputs s.replacement (wishes_of command) read clash files) ≡ Ok done
      → change_or_refusal s.inputs s.replacement (wishes_of command) read clash files ≡ Ok done
  not_simulated s true off e = absurd (cc (off))
  not_simulated s false off e = e

  pub root_left : change_of_command command read files chosen clash ≡ Ok done → command.flags.simulate ≡ false → LaterCommandsFindMembersAndNewWorld command read chosen done
  unfolding change_of_command
  root_left e off =
      let s = and_then_ok (selected_from_reads_by_choice command read chosen) (change_of_selected command read files clash) done e in
      with_made s.0 s.1 (made s.0.inputs s.0.replacement (wishes_of command) read clash files done (not_simulated s.0 command.flags.simulate off s.2))

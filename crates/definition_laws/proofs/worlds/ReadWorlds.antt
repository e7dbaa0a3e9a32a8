-- World among what a change reads of a root.
use Rattle.std.proofs.Common.{◌≡◌, ℕ, List, Result, Ok, Err, refl, ap, subst}
use Rattle.engine_core.specs.change_inputs.Chains.{and_then, with_error_as_refusal}
use Rattle.engine_core.specs.change_inputs.Database.{root_database}
use Rattle.engine_core.specs.change_inputs.Inputs.{Inputs, Root, database_read_number, indexes_of, inputs_from_parts, inputs_of, repositories_read_number, root_with_new_world_of_command, root_for, text_database_read_number, world_read_number}
use Rattle.engine_core.specs.change_inputs.Repositories.{root_repositories}
use Rattle.engine_core.specs.change_inputs.World.{root_world, found_text_or_empty}
use Rattle.command_core.specs.Command.{CommandLine}
use Rattle.dep_core.specs.World.{world_of}
use Rattle.dep_core.proofs.WorldWords.{world-words}
use Rattle.engine_core.specs.make_info.Reads.{Reads}
use Rattle.report_core.specs.declared.refusal.Refusal.{Refusal}
use Rattle.root_names.specs.RootNames.{database_name, repositories_name, text_database_name, world_name}
use Rattle.definition_laws.specs.worlds.NewWorld.{HasOldWorldAsReadAndNewWorldAsRequested}
use Rattle.definition_laws.proofs.worlds.NewWorlds.{holds_asked}

pub and_then_ok : {A B : Type 0} (a : Result A Refusal) (next : A → Result B Refusal) (b : B) → and_then a next ≡ Ok b → (x : A) × (a ≡ Ok x) × (next x ≡ Ok b)
and_then_ok (Ok x) next b e = (x, refl, e)
and_then_ok (Err refusal) next b e = absurd (cc (e))

refused_ok : {A E : Type 0} (refusal : E → Refusal) (a : Result A E) (x : A) → with_error_as_refusal refusal a ≡ Ok x → a ≡ Ok x
refused_ok refusal (Ok a) x e = let same : a ≡ x = cc in ap Ok same
refused_ok refusal (Err e) x is = absurd (cc (is))

module _ (command : CommandLine) (read : Reads) where
  text : List ℕ
  text = found_text_or_empty (read world_read_number world_name)

  of_root : (root : Root) → root_for command read ≡ Ok root → HasOldWorldAsReadAndNewWorldAsRequested command read root
  unfolding text
  of_root root e =
      let database = and_then_ok (root_database command.flags.initdb (read database_read_number database_name) (read text_database_read_number text_database_name)) _ root e in
      let world = and_then_ok (root_world text) _ root database.2 in
      let listed = and_then_ok (root_repositories command.flags.allow_untrusted (found_text_or_empty (read repositories_read_number repositories_name))) (λ repositories. Ok (root_with_new_world_of_command command database.0 text world.0 repositories)) root world.2 in
      let same : root_with_new_world_of_command command database.0 text world.0 listed.0 ≡ root = (let last = listed.2 in cc) in
      let is : world_of text ≡ Ok world.0 = refused_ok _ (world_of text) world.0 world.1 in
      subst (HasOldWorldAsReadAndNewWorldAsRequested command read) same (record {
        file = is;
        asked = holds_asked command.applet command.operands world.0 (world-words text world.0 is).in_order;
      })

  pub of_inputs : (inputs : Inputs) → inputs_of command read ≡ Ok inputs → HasOldWorldAsReadAndNewWorldAsRequested command read inputs.root
  unfolding inputs_of
  of_inputs inputs e =
      let root = and_then_ok (root_for command read) _ inputs e in
      let indexes = and_then_ok (indexes_of read root.0.repositories) (λ indexes. Ok (inputs_from_parts root.0 indexes)) inputs root.2 in
      let same : inputs_from_parts root.0 indexes.0 ≡ inputs = (let last = indexes.2 in cc) in
      subst (λ (i : Inputs). HasOldWorldAsReadAndNewWorldAsRequested command read i.root) same (of_root root.0 root.1)

use Rattle.std.proofs.Common.{◌≡◌, ap, sym, ◌∙◌, Some, None}
use Rattle.std.specs.Prelude.{is_none}
use Rattle.db_core.specs.adb_schema.Texts.{text_or_number_fault}
use Rattle.db_core.specs.adb_schema.Soundness.{container_fault_except_contents, root_value_of_payload}
use Rattle.adb_view.specs.Values.{is_sound}
use Rattle.adb_view.specs.declared.tables.Kind.TheVariants as Kinds
use Rattle.adb_view.specs.declared.tables.Which.TheVariants.{Index}
use Rattle.adb_view.specs.Head.{payload_head_fault, root_word_of_payload}
use Rattle.change_inputs.proofs.IndexSteps.{few_seen, in_list, passes_at, seen_at}
use Rattle.db_core.proofs.adb_schema.SoundPayload.{file_head, file_sound, file_texts}
use Rattle.change_inputs.specs.IndexFiles.{bytes_of_each}
use Rattle.change_inputs.proofs.index.IndexFiles.open.Goals as goal

pub payload_in-requires : goal.payload_in-requires
payload_in-requires c =
    let own = c.args.self.now in
    (Index, passes_at (bytes_of_each own.files.items) c.args.i c.deref.result.now own.sound (in_list own.files.items c.args.i c.index.result.now c.deref.result.now (few_seen own.files.items c.args.i c.requires) c.index.ensures c.deref.ensures.value))

pub open_payload-requires-clause-head : goal.open_payload-requires-clause-head
open_payload-requires-clause-head c =
    let own = c.args.self.now in
    let passed : container_fault_except_contents Index c.deref.result.now ≡ None = passes_at (bytes_of_each own.files.items) c.args.i c.deref.result.now own.sound (in_list own.files.items c.args.i c.index.result.now c.deref.result.now (few_seen own.files.items c.args.i c.requires) c.index.ensures c.deref.ensures.value) in
    ap (λ p. is_none (payload_head_fault p)) c.payload_in.ensures ∙ file_head Index c.deref.result.now passed

pub open_payload-requires-clause-sound : goal.open_payload-requires-clause-sound
open_payload-requires-clause-sound c =
    let own = c.args.self.now in
    let passed : container_fault_except_contents Index c.deref.result.now ≡ None = passes_at (bytes_of_each own.files.items) c.args.i c.deref.result.now own.sound (in_list own.files.items c.args.i c.index.result.now c.deref.result.now (few_seen own.files.items c.args.i c.requires) c.index.ensures c.deref.ensures.value) in
    ap (λ p. is_sound p (Kinds.Obj Index) (root_word_of_payload p)) c.payload_in.ensures ∙ file_sound c.values_of_few_visits_have_no_fault.ensures Index c.deref.result.now passed

pub open_payload-requires-clause-texts : goal.open_payload-requires-clause-texts
open_payload-requires-clause-texts c =
    let own = c.args.self.now in
    let passed : container_fault_except_contents Index c.deref.result.now ≡ None = passes_at (bytes_of_each own.files.items) c.args.i c.deref.result.now own.sound (in_list own.files.items c.args.i c.index.result.now c.deref.result.now (few_seen own.files.items c.args.i c.requires) c.index.ensures c.deref.ensures.value) in
    ap (λ p. is_none (text_or_number_fault Index (root_value_of_payload Index p))) c.payload_in.ensures ∙ ap is_none (file_texts Index c.deref.result.now passed)

pub returns : goal.returns
returns c =
    let own = c.args.self.now in
    seen_at (bytes_of_each own.files.items) c.args.i c.deref.result.now (in_list own.files.items c.args.i c.index.result.now c.deref.result.now (few_seen own.files.items c.args.i c.requires) c.index.ensures c.deref.ensures.value)
    ∙ ap Some (sym (c.open_payload.ensures ∙ ap (root_value_of_payload Index) c.payload_in.ensures))

use Rattle.std.proofs.Common.{ap, ◌∙◌, ◌++◌, List, ℕ}
use Rattle.sha2.specs.Sha256.{sha256}
use Rattle.pkg_core.specs.adb_schema.Views.{info_value}
use Rattle.adb_view.specs.Values.{entry_at_index}
use Rattle.make_core.proofs.IndexHeld.{holds_found, keyed_of, bytes_all}
use Rattle.make_core.proofs.Reading.{no_value, refused_memory, refused_on}
use Rattle.make_core.proofs.indexes.entry.read_parts.Goals as goal

pub returns-clause-keys : goal.returns-clause-keys
returns-clause-keys c =
    keyed_of c.sound_containers_hold_sound_values.ensures.value c.args.file.now _ _ _ (info_value c.info-info.result)
    (c.info-info.ensures ∙ ap (λ v. entry_at_index v 0) (c.view.ensures ∙ c.in_ok-pkg.ensures.value))
    (c.in_ok-extend_from_slice.ensures.items ∙ (ap (λ (xs : List ℕ). xs ++ c.name.result.now) c.new-name.ensures.items ∙ c.name.ensures))
    (c.in_ok-extend_from_slice-2.ensures.items ∙ (ap (λ (xs : List ℕ). xs ++ c.version.result.now) c.new-version.ensures.items ∙ c.version.ensures))
    (c.id-id.ensures ∙ ap sha256 c.in_ok-pkg.ensures.payload)
    c.in_ok-pkg.ensures.opened

pub returns-clause-payload : goal.returns-clause-payload
returns-clause-payload c =
    holds_found c.values_have_their_shape.ensures.word c.a_canonical_payload_is_read_back.ensures c.a_value_overflows_exactly_past_a_limit.ensures c.values_are_normal.ensures
    c.args.file.now _ _ c.in_ok-pkg.ensures.value c.in_ok-pkg.ensures.payload (bytes_all c.args.file.now (λ i. (c.type_inv.file i).fits)) c.in_ok-entry_payload.ensures.small c.in_ok-entry_payload.field-0 c.in_ok-entry_payload.ensures.payload

pub returns-in_err-pkg-clause-bad : goal.returns-in_err-pkg-clause-bad
returns-in_err-pkg-clause-bad c = refused_on _ _ _ c.from_residual.result c.from_residual.ensures.1 c.in_err-pkg.ensures.bad

pub returns-in_err-pkg-clause-sound : goal.returns-in_err-pkg-clause-sound
returns-in_err-pkg-clause-sound c = no_value _ _ c.from_residual.result c.from_residual.ensures.1

pub returns-in_err-pkg-clause-opened : goal.returns-in_err-pkg-clause-opened
returns-in_err-pkg-clause-opened c = no_value _ _ c.from_residual.result c.from_residual.ensures.1

pub returns-in_err-pkg-clause-keys : goal.returns-in_err-pkg-clause-keys
returns-in_err-pkg-clause-keys c = no_value _ _ c.from_residual.result c.from_residual.ensures.1

pub returns-in_err-pkg-clause-payload : goal.returns-in_err-pkg-clause-payload
returns-in_err-pkg-clause-payload c = no_value _ _ c.from_residual.result c.from_residual.ensures.1

pub returns-in_err-extend_from_slice-clause-bad : goal.returns-in_err-extend_from_slice-clause-bad
returns-in_err-extend_from_slice-clause-bad c = refused_memory _ _ c.from_residual-in_err-extend_from_slice.result c.from_residual-in_err-extend_from_slice.ensures.1

pub returns-in_err-extend_from_slice-clause-sound : goal.returns-in_err-extend_from_slice-clause-sound
returns-in_err-extend_from_slice-clause-sound c = no_value _ _ c.from_residual-in_err-extend_from_slice.result c.from_residual-in_err-extend_from_slice.ensures.1

pub returns-in_err-extend_from_slice-clause-opened : goal.returns-in_err-extend_from_slice-clause-opened
returns-in_err-extend_from_slice-clause-opened c = no_value _ _ c.from_residual-in_err-extend_from_slice.result c.from_residual-in_err-extend_from_slice.ensures.1

pub returns-in_err-extend_from_slice-clause-keys : goal.returns-in_err-extend_from_slice-clause-keys
returns-in_err-extend_from_slice-clause-keys c = no_value _ _ c.from_residual-in_err-extend_from_slice.result c.from_residual-in_err-extend_from_slice.ensures.1

pub returns-in_err-extend_from_slice-clause-payload : goal.returns-in_err-extend_from_slice-clause-payload
returns-in_err-extend_from_slice-clause-payload c = no_value _ _ c.from_residual-in_err-extend_from_slice.result c.from_residual-in_err-extend_from_slice.ensures.1

pub returns-in_err-extend_from_slice-2-clause-bad : goal.returns-in_err-extend_from_slice-2-clause-bad
returns-in_err-extend_from_slice-2-clause-bad c = refused_memory _ _ c.from_residual-in_err-extend_from_slice-2.result c.from_residual-in_err-extend_from_slice-2.ensures.1

pub returns-in_err-extend_from_slice-2-clause-sound : goal.returns-in_err-extend_from_slice-2-clause-sound
returns-in_err-extend_from_slice-2-clause-sound c = no_value _ _ c.from_residual-in_err-extend_from_slice-2.result c.from_residual-in_err-extend_from_slice-2.ensures.1

pub returns-in_err-extend_from_slice-2-clause-opened : goal.returns-in_err-extend_from_slice-2-clause-opened
returns-in_err-extend_from_slice-2-clause-opened c = no_value _ _ c.from_residual-in_err-extend_from_slice-2.result c.from_residual-in_err-extend_from_slice-2.ensures.1

pub returns-in_err-extend_from_slice-2-clause-keys : goal.returns-in_err-extend_from_slice-2-clause-keys
returns-in_err-extend_from_slice-2-clause-keys c = no_value _ _ c.from_residual-in_err-extend_from_slice-2.result c.from_residual-in_err-extend_from_slice-2.ensures.1

pub returns-in_err-extend_from_slice-2-clause-payload : goal.returns-in_err-extend_from_slice-2-clause-payload
returns-in_err-extend_from_slice-2-clause-payload c = no_value _ _ c.from_residual-in_err-extend_from_slice-2.result c.from_residual-in_err-extend_from_slice-2.ensures.1

pub returns-in_err-entry_payload-clause-bad : goal.returns-in_err-entry_payload-clause-bad
returns-in_err-entry_payload-clause-bad c = refused_memory _ _ c.from_residual-in_err-entry_payload.result c.from_residual-in_err-entry_payload.ensures.1

pub returns-in_err-entry_payload-clause-sound : goal.returns-in_err-entry_payload-clause-sound
returns-in_err-entry_payload-clause-sound c = no_value _ _ c.from_residual-in_err-entry_payload.result c.from_residual-in_err-entry_payload.ensures.1

pub returns-in_err-entry_payload-clause-opened : goal.returns-in_err-entry_payload-clause-opened
returns-in_err-entry_payload-clause-opened c = no_value _ _ c.from_residual-in_err-entry_payload.result c.from_residual-in_err-entry_payload.ensures.1

pub returns-in_err-entry_payload-clause-keys : goal.returns-in_err-entry_payload-clause-keys
returns-in_err-entry_payload-clause-keys c = no_value _ _ c.from_residual-in_err-entry_payload.result c.from_residual-in_err-entry_payload.ensures.1

pub returns-in_err-entry_payload-clause-payload : goal.returns-in_err-entry_payload-clause-payload
returns-in_err-entry_payload-clause-payload c = no_value _ _ c.from_residual-in_err-entry_payload.result c.from_residual-in_err-entry_payload.ensures.1

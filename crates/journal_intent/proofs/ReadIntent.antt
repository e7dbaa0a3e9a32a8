-- An intent is read from a container that passes all tests, and from no other.
use Rattle.std.proofs.Common.{◌≡◌, ℕ, List, None, Some, ap}
use Rattle.adb_sound.specs.adb_schema.Soundness.{container_fault_except_contents, payload_in, root_value_of_payload}
use Rattle.adb_view.specs.declared.tables.Which.TheVariants.{Intent as IntentTable}
use Rattle.base_core.specs.declared.cause.Cause.{Cause}
use Rattle.journal_intent.specs.Intent.{intent_of_value, intent_unless_fault, read_intent}

pub spelled : (file : List ℕ) → container_fault_except_contents IntentTable file ≡ None → read_intent file ≡ Some (intent_of_value (root_value_of_payload IntentTable (payload_in file)))
unfolding read_intent
spelled file sound = ap (λ o. intent_unless_fault o (root_value_of_payload IntentTable (payload_in file))) sound

pub not_spelled : (file : List ℕ) (cause : Cause) → container_fault_except_contents IntentTable file ≡ Some cause → read_intent file ≡ None
unfolding read_intent
not_spelled file cause fault = ap (λ o. intent_unless_fault o (root_value_of_payload IntentTable (payload_in file))) fault

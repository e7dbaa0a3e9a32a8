-- A state shows a bad intent, and no other.
use Rattle.std.proofs.Common.{◌≡◌, ℕ, Bool, true, false, List, Option, None, Some, refl, sym, ap, ◌∙◌}
use Rattle.std.proofs.lemmas.Bool.{or_right}
use Rattle.journal_intent.specs.adb_schema.Soundness.{container_fault_except_contents, payload_in, root_value_of_payload}
use Rattle.adb_view.specs.declared.tables.Which.TheVariants.{Intent as IntentTable}
use Rattle.base_core.specs.Files.{Files}
use Rattle.base_core.specs.declared.cause.Cause.{Cause}
use Rattle.journal_core.specs.Recovery.{Intent, intent_in_file, intent_of_value, intent_name, is_staged, read_intent, recovered_files, files_after_intent, state_of}
use Rattle.journal_core.specs.Staged.{IsIntentFault}
use Rattle.journal_core.proofs.Contents.{hidden_state, shown_state}

module _ (sound : (file : List ℕ) → container_fault_except_contents IntentTable file ≡ None → read_intent file ≡ Some (intent_of_value (root_value_of_payload IntentTable (payload_in file))))
    (other : (file : List ℕ) (cause : Cause) → container_fault_except_contents IntentTable file ≡ Some cause → read_intent file ≡ None) where
  -- a file that fails a test stays where it is
  stays : (files : Files) (file : List ℕ) (cause : Cause) → files intent_name ≡ Some file → container_fault_except_contents IntentTable file ≡ Some cause → recovered_files files intent_name ≡ Some file
  stays files file cause is bad = ap (λ (o : Option Intent). files_after_intent o files intent_name) (ap intent_in_file is ∙ other file cause bad) ∙ is

  -- one that fails none is an intent, and goes
  goes : (files : Files) (file : List ℕ) → files intent_name ≡ Some file → container_fault_except_contents IntentTable file ≡ None → recovered_files files intent_name ≡ None
  goes files file is good = ap (λ (o : Option Intent). files_after_intent o files intent_name) (ap intent_in_file is ∙ sound file good)

  absent : (files : Files) → files intent_name ≡ None → recovered_files files intent_name ≡ None
  absent files is = ap (λ (o : Option (List ℕ)). files_after_intent (intent_in_file o) files intent_name) is ∙ is

  pub bad_shown : (ignored : List ℕ → Bool) (files : Files) (cause : Cause) → ignored intent_name ≡ false → IsIntentFault files cause → state_of ignored files intent_name ≡ files intent_name
  bad_shown ignored files cause shown (file, is, bad) = shown_state ignored files intent_name refl shown ∙ (stays files file cause is bad ∙ sym is)

  none_left : (files : Files) → ((cause : Cause) → IsIntentFault files cause → ⊥) → (found : Option (List ℕ)) → files intent_name ≡ found → recovered_files files intent_name ≡ None
  none_left files none None is = absent files is
  none_left files none (Some file) is = by (container_fault_except_contents IntentTable file) refl
    where
      by : (fault : Option Cause) → container_fault_except_contents IntentTable file ≡ fault → recovered_files files intent_name ≡ None
      by None good = goes files file is good
      by (Some cause) bad = absurd (none cause (file, is, bad))

  pub none_shown : (ignored : List ℕ → Bool) (files : Files) → ((cause : Cause) → IsIntentFault files cause → ⊥) → state_of ignored files intent_name ≡ None
  none_shown ignored files none = by (ignored intent_name) refl
    where
      by : (b : Bool) → ignored intent_name ≡ b → state_of ignored files intent_name ≡ None
      by true hidden = hidden_state ignored files intent_name (or_right (is_staged intent_name) (ignored intent_name) hidden)
      by false shown = shown_state ignored files intent_name refl shown ∙ none_left files none (files intent_name) refl

  none_some : {X : Type 0} (x : X) (o : Option X) → o ≡ Some x → o ≡ None → ⊥
  none_some x o some none = cc (some, none)

  -- what a recovery leaves under the name is a bad intent
  is_bad : (files : Files) (file : List ℕ) → recovered_files files intent_name ≡ Some file → (found : Option (List ℕ)) → files intent_name ≡ found → files intent_name ≡ Some file
  is_bad files file left None is = absurd (none_some file (recovered_files files intent_name) left (absent files is))
  is_bad files file left (Some other_file) is = by (container_fault_except_contents IntentTable other_file) refl
    where
      by : (fault : Option Cause) → container_fault_except_contents IntentTable other_file ≡ fault → files intent_name ≡ Some file
      by None good = absurd (none_some file (recovered_files files intent_name) left (goes files other_file is good))
      by (Some cause) bad = is ∙ (sym (stays files other_file cause is bad) ∙ left)

  pub bad_in_both : (ignored : List ℕ → Bool) (a b : Files) (cause : Cause) → ignored intent_name ≡ false → state_of ignored a ≡ state_of ignored b → IsIntentFault a cause → IsIntentFault b cause
  bad_in_both ignored a b cause shown same (file, is, bad) =
      let left : recovered_files b intent_name ≡ Some file =
      sym (shown_state ignored b intent_name refl shown) ∙ (sym (ap (λ (f : Files). f intent_name) same) ∙ (bad_shown ignored a cause shown (file, is, bad) ∙ is)) in
      (file, is_bad b file left (b intent_name) refl, bad)

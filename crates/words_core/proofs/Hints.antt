-- The line that explains a usage error: the flags that are read, and its bytes one after another.
use Rattle.std.proofs.Common.{List, None, Option, Some, [], ap, append_assoc, arith, drop, false, length, map, refl, suc, sym, take, true, zero, ℕ, ◌++◌, ◌+◌, ◌∙◌, ◌∷◌, ◌≡◌, ◌≤◌, if◌then◌else◌}
use Rattle.std.specs.List.{list_all, slice_get}
use Rattle.std.specs.Option.{option_map}
use Rattle.std.specs.Prelude.{is_some, not, option_and_then, ◌||◌}
use Rattle.std.specs.Str.{bytes_eq}
use Rattle.std.proofs.lemmas.Bool.{false≢true}
use Rattle.report_core.proofs.Fronts.{Chains}
use Rattle.command_core.specs.declared.command.Applet.{Applet}
use Rattle.command_core.specs.declared.command.Applet.TheVariants.{Info, Version}
use Rattle.command_core.specs.declared.command.Flags.{Flags}
use Rattle.command_core.specs.Applets.{operand_rule_if_needed_kind_flag_given}
use Rattle.words_core.specs.declared.options.Meaning.{Meaning}
use Rattle.words_core.specs.declared.options.Meaning.TheVariants.{Flag as Plain, Kind, Value}
use Rattle.words_core.specs.declared.reading.OptionState.{OptionState}
use Rattle.words_core.specs.declared.reading.Reading.{Reading}
use Rattle.words_core.specs.Grammar.{value_in_long_or_short_option_word, is_double_dash, is_option_or_double_dash, option_word_without_value, reading_of_words_from_place, value_rule_of_meaning, option_state_from_parts, flags_with_meaning_if_one_command_kind, state_with_meaning, flags_with_option_if_one_command_kind, with_option_or_value_word}
use Rattle.words_core.specs.Options.{OptionSpec, common_options, option_of_word, options_of}
use Rattle.words_core.specs.Steps.{operands_depend_on_flags, flags_with_spelled_option, has_no_values, is_option_without_value}
use Rattle.words_core.specs.Usage.{shown_byte, shown_bytes, texts_joined}
use Rattle.words_core.proofs.KindsKept.{find_passes}
use Rattle.words_core.proofs.LinesRead.{end_kept, option_taken}
use Rattle.words_core.proofs.OneMore.{reading_ended, reading_more, reading_operand}

pub take_within : (n : ℕ) (xs : List ℕ) → length xs ≤ n → take n xs ≡ xs
take_within zero [] l = refl
take_within (suc n) [] l = refl
take_within zero (x ∷ xs) l = absurd (omega (arith, l))
take_within (suc n) (x ∷ xs) l = ap (λ ys. x ∷ ys) (take_within n xs (omega (arith, l)))

-- ---- one after another

pub shown_chain : Chains shown_bytes
shown_chain [] b = refl
shown_chain (x ∷ a) b = ap (λ t. shown_byte x ++ t) (shown_chain a b) ∙ sym (append_assoc (shown_byte x) (shown_bytes a) (shown_bytes b))

abbrev pub joined : {X : Type 0} → (X → List ℕ) → List X → List ℕ
joined f xs = texts_joined (map f xs)

pub joined_chain : {X : Type 0} (f : X → List ℕ) → Chains (joined f)
joined_chain f [] b = refl
joined_chain f (x ∷ a) b = ap (λ t. f x ++ t) (joined_chain f a b) ∙ sym (append_assoc (f x) (joined f a) (joined f b))

-- ---- the flags that are read

plain_meaning : (flags : Flags) (place : ℕ) (held : Option (List ℕ)) (meaning : Meaning) → not (is_some (value_rule_of_meaning meaning)) ≡ true → state_with_meaning (option_state_from_parts flags [] None) place held meaning ≡ option_map (λ more. option_state_from_parts more [] None) (if is_some held then None else flags_with_meaning_if_one_command_kind flags meaning)
plain_meaning flags place held (Value rule) p = absurd (false≢true p)
plain_meaning flags place (Some text) (Plain flag) p = refl
plain_meaning flags place (Some text) (Kind flag) p = refl
plain_meaning flags place None (Plain flag) p = refl
plain_meaning flags place None (Kind flag) p = refl

pub spelled_by : (options : List OptionSpec) (flags : Flags) (place : ℕ) (word : List ℕ) → list_all is_option_without_value options ≡ true → with_option_or_value_word options (option_state_from_parts flags [] None) place word ≡ option_map (λ more. option_state_from_parts more [] None) (flags_with_spelled_option options flags word)
spelled_by options flags place word p =
    elim (option_of_word options (option_word_without_value word)) as (λ o. option_of_word options (option_word_without_value word) ≡ o → option_and_then (λ (e : OptionSpec). state_with_meaning (option_state_from_parts flags [] None) place (value_in_long_or_short_option_word word) e.meaning) o ≡ option_map (λ more. option_state_from_parts more [] None) (if is_some (value_in_long_or_short_option_word word) then None else option_and_then (flags_with_option_if_one_command_kind flags) o)) [
      | None ↦ λ s. elim (value_in_long_or_short_option_word word) as (λ h. None ≡ option_map (λ more. option_state_from_parts more [] None) (if is_some h then None else None)) [
        | None ↦ refl
        | Some text ↦ refl
      ]
      | Some option ↦ λ s. plain_meaning flags place (value_in_long_or_short_option_word word) option.meaning (find_passes is_option_without_value (λ (x : OptionSpec). bytes_eq x.long (option_word_without_value word) || bytes_eq x.short (option_word_without_value word)) options option p s)
    ] refl

pub plain_options : (applet : Applet) → has_no_values applet ≡ true → list_all is_option_without_value (options_of applet) ≡ true
unfolding has_no_values
plain_options applet h = h

pub info_plain : has_no_values Info ≡ true
unfolding has_no_values common_options options_of
info_plain = refl

pub version_plain : has_no_values Version ≡ true
unfolding has_no_values common_options options_of
version_plain = refl

-- one more word behind the applet
module _ (options : List OptionSpec) (flags : Flags) (words : List (List ℕ)) (i : ℕ) (word : List ℕ) (at : slice_get words i ≡ Some word) where
  abbrev state : OptionState
  state = option_state_from_parts flags [] None

  pub flags_ended : is_double_dash word ≡ true → (reading_of_words_from_place options state (i + 1) (drop i words)).state.flags ≡ flags
  flags_ended e = ap (λ (r : Reading). r.state.flags) (reading_ended options state words i word at (end_kept state word refl e) e)

  pub flags_operand : is_double_dash word ≡ false → is_option_or_double_dash word ≡ false → (reading_of_words_from_place options state (i + 1) (drop i words)).state.flags ≡ (reading_of_words_from_place options state (i + 1 + 1) (drop (i + 1) words)).state.flags
  flags_operand e o = ap (λ (r : Reading). r.state.flags) (reading_operand options state words i word at (rw o refl) e)

  pub flags_unread : list_all is_option_without_value options ≡ true → is_double_dash word ≡ false → is_option_or_double_dash word ≡ true → flags_with_spelled_option options flags word ≡ None → (reading_of_words_from_place options state (i + 1) (drop i words)).state.flags ≡ flags
  flags_unread p e o n =
      ap (λ (r : Reading). r.state.flags) (reading_more options state words i word None at (option_taken state word refl e o)
      (spelled_by options flags (i + 1) word p ∙ ap (option_map (λ m. option_state_from_parts m [] None)) n))

  pub flags_taken : (more : Flags) → list_all is_option_without_value options ≡ true → is_double_dash word ≡ false → is_option_or_double_dash word ≡ true → flags_with_spelled_option options flags word ≡ Some more → (reading_of_words_from_place options state (i + 1) (drop i words)).state.flags ≡ (reading_of_words_from_place options (option_state_from_parts more [] None) (i + 1 + 1) (drop (i + 1) words)).state.flags
  flags_taken more p e o n =
      ap (λ (r : Reading). r.state.flags) (reading_more options state words i word (Some (option_state_from_parts more [] None)) at (option_taken state word refl e o)
      (spelled_by options flags (i + 1) word p ∙ ap (option_map (λ m. option_state_from_parts m [] None)) n))

-- ---- the operands of a command without such flags

pub plain_asked : (applet : Applet) → operands_depend_on_flags applet ≡ true → has_no_values applet ≡ true
plain_asked Info h = info_plain
plain_asked Version h = version_plain
plain_asked applet h = absurd (false≢true h)

pub rule_same : (applet : Applet) (flags more : Flags) → operands_depend_on_flags applet ≡ false → operand_rule_if_needed_kind_flag_given applet flags ≡ operand_rule_if_needed_kind_flag_given applet more
rule_same Info flags more h = absurd (false≢true (sym h))
rule_same Version flags more h = absurd (false≢true (sym h))
rule_same applet flags more h = refl

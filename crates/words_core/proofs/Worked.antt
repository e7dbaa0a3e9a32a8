-- Worked words of options with values, of a made-up table, and words that are stuck: what the definitions say of them, by
-- computation.
use Rattle.std.proofs.Common.{List, None, Some, [], codes, false, refl, true, ℕ, ◌++◌, ◌∷◌, ◌≡◌}
use Rattle.base_core.specs.Name.{is_name}
use Rattle.std.specs.List.{repeat}
use Rattle.std.specs.Str.{chars, is_utf8}
use lib.Utf8.{encode}
use Rattle.command_core.specs.declared.command.Flag.TheVariants.{NoScripts, Test}
use Rattle.command_core.specs.declared.values.OptionValue.{OptionValue}
use Rattle.command_core.specs.declared.values.TheConstants.{OUTPUT}
use Rattle.command_core.specs.declared.values.ValueKind.TheVariants.{Any, File, Nonempty, Output, Script, Uncompressed}
use Rattle.command_core.specs.declared.values.ValueRule.{ValueRule}
use Rattle.command_core.specs.Flags.{no_flags, with_flag}
use Rattle.command_core.specs.Operands.{operand_at}
use Rattle.command_core.specs.Values.{is_value_of_kind, option_value_from_place_letter_and_text}
use Rattle.words_core.specs.declared.options.Meaning.TheVariants.{Flag as Plain, Kind, Value}
use Rattle.words_core.specs.declared.reading.OptionState.{OptionState}
use Rattle.words_core.specs.declared.reading.Reading.{Reading}
use Rattle.words_core.specs.Grammar.{command_of, option_state_at_start, value_in_long_or_short_option_word, spelled_command, option_word_without_value, reading_of_words_from_place, reading_of_rest_of_command_words, words_reading_from_parts, applet_site_of_word, applet_site_after_double_dash, option_state_from_parts, command_of_reading_with_end_place}
use Rattle.words_core.specs.Kinds.{can_info_kind_follow}
use Rattle.words_core.specs.Options.{OptionSpec, common_options, option_words_that_may_precede_applet, options_of}
use Rattle.words_core.specs.Stuck.{is_command_line_stuck}

-- `-o` stands once and has any value, `-f` stands once and has a file, `-I` has texts and `-s` has scripts; `-t` and `-n`
-- have none
abbrev output : ValueRule
output = record { letter = OUTPUT; single = true; kind = Any }

abbrev info : ValueRule
info = record { letter = 73; single = false; kind = Nonempty }

abbrev table : List OptionSpec
table =
    record { long = codes "--output"; short = codes "-o"; meaning = Value output } ∷
    (record { long = codes "--file"; short = codes "-f"; meaning = Value (record { letter = 102; single = true; kind = File }) } ∷
    (record { long = codes "--info"; short = codes "-I"; meaning = Value info } ∷
    (record { long = codes "--script"; short = codes "-s"; meaning = Value (record { letter = 115; single = false; kind = Script }) } ∷
    (record { long = codes "--test"; short = codes "-t"; meaning = Kind Test } ∷
    (record { long = codes "--no-scripts"; short = codes "-n"; meaning = Plain NoScripts } ∷ [])))))

-- words behind an applet that is the first word
abbrev read : List (List ℕ) → Reading
read words = reading_of_words_from_place table (option_state_at_start no_flags) 2 words

-- values that were given, and no flags
abbrev giving : List OptionValue → OptionState
giving values = option_state_from_parts no_flags values None

-- all words were read, and they gave values
abbrev whole : List OptionValue → Reading
whole values = words_reading_from_parts (giving values) [] None

-- the values were read, but not the word at a place
abbrev up_to : List OptionValue → ℕ → Reading
up_to values place = words_reading_from_parts (giving values) [] (Some place)

-- ---- where the value of an option is, and whose place it has

after_short : read (codes "-o" ∷ (codes "a" ∷ [])) ≡ whole (option_value_from_place_letter_and_text 3 OUTPUT (codes "a") ∷ [])
unfolding option_word_without_value value_in_long_or_short_option_word
after_short = refl

in_short : read (codes "-oa" ∷ []) ≡ whole (option_value_from_place_letter_and_text 2 OUTPUT (codes "a") ∷ [])
unfolding option_word_without_value value_in_long_or_short_option_word
in_short = refl

after_long : read (codes "--output" ∷ (codes "a" ∷ [])) ≡ whole (option_value_from_place_letter_and_text 3 OUTPUT (codes "a") ∷ [])
unfolding option_word_without_value value_in_long_or_short_option_word
after_long = refl

in_long : read (codes "--output=a" ∷ []) ≡ whole (option_value_from_place_letter_and_text 2 OUTPUT (codes "a") ∷ [])
unfolding option_word_without_value value_in_long_or_short_option_word
in_long = refl

-- what is behind the first `=` is the value, and behind a letter even the `=` is of it
empty_in_long : read (codes "--output=" ∷ []) ≡ whole (option_value_from_place_letter_and_text 2 OUTPUT [] ∷ [])
unfolding option_word_without_value value_in_long_or_short_option_word
empty_in_long = refl

equals_in_long : read (codes "--output=a=b" ∷ []) ≡ whole (option_value_from_place_letter_and_text 2 OUTPUT (codes "a=b") ∷ [])
unfolding option_word_without_value value_in_long_or_short_option_word
equals_in_long = refl

equals_in_short : read (codes "-o=a" ∷ []) ≡ whole (option_value_from_place_letter_and_text 2 OUTPUT (codes "=a") ∷ [])
unfolding option_word_without_value value_in_long_or_short_option_word
equals_in_short = refl

-- the word behind an option is its value, whatever it looks like
end_is_value : read (codes "-o" ∷ (codes "--" ∷ [])) ≡ whole (option_value_from_place_letter_and_text 3 OUTPUT (codes "--") ∷ [])
unfolding option_word_without_value value_in_long_or_short_option_word
end_is_value = refl

option_is_value : read (codes "-o" ∷ (codes "-o" ∷ [])) ≡ whole (option_value_from_place_letter_and_text 3 OUTPUT (codes "-o") ∷ [])
unfolding option_word_without_value value_in_long_or_short_option_word
option_is_value = refl

empty_is_value : read (codes "-o" ∷ ([] ∷ [])) ≡ whole (option_value_from_place_letter_and_text 3 OUTPUT [] ∷ [])
unfolding option_word_without_value value_in_long_or_short_option_word
empty_is_value = refl

-- and behind a value that its word holds comes the next word: an operand, or the end of the options
operands_after : read (codes "-oa" ∷ (codes "b" ∷ (codes "--" ∷ (codes "-o" ∷ [])))) ≡ words_reading_from_parts (giving (option_value_from_place_letter_and_text 2 OUTPUT (codes "a") ∷ [])) (operand_at 3 (codes "b") ∷ (operand_at 5 (codes "-o") ∷ [])) None
unfolding option_word_without_value value_in_long_or_short_option_word
operands_after = refl

-- ---- a value that is missing is so behind the last word

missing : read (codes "-o" ∷ []) ≡ words_reading_from_parts (option_state_from_parts no_flags [] (Some output)) [] (Some 3)
unfolding option_word_without_value value_in_long_or_short_option_word
missing = refl

missing_after_others : read (codes "b" ∷ (codes "-oa" ∷ (codes "--info" ∷ []))) ≡ words_reading_from_parts (option_state_from_parts no_flags (option_value_from_place_letter_and_text 3 OUTPUT (codes "a") ∷ []) (Some info)) (operand_at 2 (codes "b") ∷ []) (Some 5)
unfolding option_word_without_value value_in_long_or_short_option_word
missing_after_others = refl

-- ---- which options may stand again

single_twice : read (codes "-o" ∷ (codes "a" ∷ (codes "-o" ∷ (codes "b" ∷ [])))) ≡ up_to (option_value_from_place_letter_and_text 3 OUTPUT (codes "a") ∷ []) 4
unfolding option_word_without_value value_in_long_or_short_option_word
single_twice = refl

single_twice_at_end : read (codes "-o" ∷ (codes "a" ∷ (codes "-o" ∷ []))) ≡ up_to (option_value_from_place_letter_and_text 3 OUTPUT (codes "a") ∷ []) 4
unfolding option_word_without_value value_in_long_or_short_option_word
single_twice_at_end = refl

single_in_both_words : read (codes "--output=a" ∷ (codes "-oa" ∷ [])) ≡ up_to (option_value_from_place_letter_and_text 2 OUTPUT (codes "a") ∷ []) 3
unfolding option_word_without_value value_in_long_or_short_option_word
single_in_both_words = refl

repeated : read (codes "-I" ∷ (codes "a" ∷ (codes "-Ia" ∷ (codes "--info=b" ∷ [])))) ≡ whole (option_value_from_place_letter_and_text 3 73 (codes "a") ∷ (option_value_from_place_letter_and_text 4 73 (codes "a") ∷ (option_value_from_place_letter_and_text 5 73 (codes "b") ∷ [])))
unfolding option_word_without_value value_in_long_or_short_option_word
repeated = refl

two_options : read (codes "-Ia" ∷ (codes "-ob" ∷ [])) ≡ whole (option_value_from_place_letter_and_text 2 73 (codes "a") ∷ (option_value_from_place_letter_and_text 3 OUTPUT (codes "b") ∷ []))
unfolding option_word_without_value value_in_long_or_short_option_word
two_options = refl

-- ---- scripts: one of a type

scripts : read (codes "-s" ∷ (codes "trigger:a" ∷ (codes "--script=pre-install:./a" ∷ []))) ≡ whole (option_value_from_place_letter_and_text 3 115 (codes "trigger:a") ∷ (option_value_from_place_letter_and_text 4 115 (codes "pre-install:./a") ∷ []))
unfolding option_word_without_value value_in_long_or_short_option_word is_name is_utf8 chars encode
scripts = refl

type_twice : read (codes "-s" ∷ (codes "trigger:a" ∷ (codes "-s" ∷ (codes "trigger:b" ∷ [])))) ≡ words_reading_from_parts (option_state_from_parts no_flags (option_value_from_place_letter_and_text 3 115 (codes "trigger:a") ∷ []) (Some (record { letter = 115; single = false; kind = Script }))) [] (Some 5)
unfolding option_word_without_value value_in_long_or_short_option_word is_name is_utf8 chars encode
type_twice = refl

type_twice_in_word : read (codes "-strigger:a" ∷ (codes "-strigger:a" ∷ [])) ≡ up_to (option_value_from_place_letter_and_text 2 115 (codes "trigger:a") ∷ []) 3
unfolding option_word_without_value value_in_long_or_short_option_word is_name is_utf8 chars encode
type_twice_in_word = refl

no_type : read (codes "-strigge:a" ∷ []) ≡ up_to [] 2
unfolding option_word_without_value value_in_long_or_short_option_word is_name is_utf8 chars encode
no_type = refl

no_colon : read (codes "-strigger" ∷ []) ≡ up_to [] 2
unfolding option_word_without_value value_in_long_or_short_option_word is_name is_utf8 chars encode
no_colon = refl

-- ---- a value that its option does not have is at its own word

bad_after : read (codes "-f" ∷ (codes "/a" ∷ [])) ≡ words_reading_from_parts (option_state_from_parts no_flags [] (Some (record { letter = 102; single = true; kind = File }))) [] (Some 3)
unfolding option_word_without_value value_in_long_or_short_option_word is_name is_utf8 chars encode
bad_after = refl

bad_in_short : read (codes "-f/a" ∷ []) ≡ up_to [] 2
unfolding option_word_without_value value_in_long_or_short_option_word is_name is_utf8 chars encode
bad_in_short = refl

empty_after : read (codes "-I" ∷ ([] ∷ [])) ≡ words_reading_from_parts (option_state_from_parts no_flags [] (Some info)) [] (Some 3)
unfolding option_word_without_value value_in_long_or_short_option_word
empty_after = refl

bad_in_long : read (codes "-Ia" ∷ (codes "--info=" ∷ [])) ≡ up_to (option_value_from_place_letter_and_text 2 73 (codes "a") ∷ []) 3
unfolding option_word_without_value value_in_long_or_short_option_word
bad_in_long = refl

-- ---- words that spell no option, and values of options that have none

flag_with_value : read (codes "--test=x" ∷ []) ≡ up_to [] 2
unfolding option_word_without_value value_in_long_or_short_option_word
flag_with_value = refl

flag_with_empty_value : read (codes "--test=" ∷ []) ≡ up_to [] 2
unfolding option_word_without_value value_in_long_or_short_option_word
flag_with_empty_value = refl

flag_with_more : read (codes "-nt" ∷ []) ≡ up_to [] 2
unfolding option_word_without_value value_in_long_or_short_option_word
flag_with_more = refl

flag_alone : read (codes "-t" ∷ (codes "a" ∷ [])) ≡ words_reading_from_parts (option_state_from_parts (with_flag Test no_flags) [] None) (operand_at 3 (codes "a") ∷ []) None
unfolding option_word_without_value value_in_long_or_short_option_word
flag_alone = refl

no_option : read (codes "-oa" ∷ (codes "--outpu=b" ∷ [])) ≡ up_to (option_value_from_place_letter_and_text 2 OUTPUT (codes "a") ∷ []) 3
unfolding option_word_without_value value_in_long_or_short_option_word
no_option = refl

-- ---- kinds of values

none_is_uncompressed : is_value_of_kind Uncompressed (codes "none") ≡ true
none_is_uncompressed = refl

level_is_not : is_value_of_kind Uncompressed (codes "none:9") ≡ false
level_is_not = refl

output_of_1016 : is_value_of_kind Output (codes "./" ++ repeat 1016 (codes "a")) ≡ true
unfolding is_name is_utf8 chars encode
output_of_1016 = refl

output_of_1017 : is_value_of_kind Output (repeat 1017 (codes "a")) ≡ false
unfolding is_name is_utf8 chars encode
output_of_1017 = refl

file_of_1017 : is_value_of_kind File (repeat 1017 (codes "a")) ≡ true
unfolding is_name is_utf8 chars encode
file_of_1017 = refl

-- ---- words that are stuck

-- the options have ended, and the kind is lacking
no_kind_follows : is_command_line_stuck (codes "version" ∷ (codes "a" ∷ (codes "--" ∷ []))) ≡ true
unfolding is_command_line_stuck command_of spelled_command command_of_reading_with_end_place reading_of_rest_of_command_words applet_site_of_word applet_site_after_double_dash option_words_that_may_precede_applet common_options options_of option_word_without_value value_in_long_or_short_option_word is_name is_utf8 chars encode
no_kind_follows = refl

no_kind_follows_early : is_command_line_stuck (codes "--" ∷ (codes "version" ∷ [])) ≡ true
unfolding is_command_line_stuck command_of spelled_command command_of_reading_with_end_place reading_of_rest_of_command_words applet_site_of_word applet_site_after_double_dash option_words_that_may_precede_applet common_options options_of option_word_without_value value_in_long_or_short_option_word is_name is_utf8 chars encode
no_kind_follows_early = refl

kind_is_given : is_command_line_stuck (codes "version" ∷ (codes "-t" ∷ (codes "--" ∷ (codes "a" ∷ [])))) ≡ false
unfolding is_command_line_stuck command_of spelled_command command_of_reading_with_end_place reading_of_rest_of_command_words applet_site_of_word applet_site_after_double_dash option_words_that_may_precede_applet common_options options_of option_word_without_value value_in_long_or_short_option_word is_name is_utf8 chars encode
kind_is_given = refl

kind_follows : is_command_line_stuck (codes "version" ∷ (codes "a" ∷ [])) ≡ false
unfolding is_command_line_stuck command_of spelled_command command_of_reading_with_end_place reading_of_rest_of_command_words applet_site_of_word applet_site_after_double_dash option_words_that_may_precede_applet common_options options_of option_word_without_value value_in_long_or_short_option_word is_name is_utf8 chars encode
kind_follows = refl

no_output_follows : is_command_line_stuck (codes "mkndx" ∷ (codes "--" ∷ (codes "a" ∷ []))) ≡ true
unfolding is_command_line_stuck command_of spelled_command command_of_reading_with_end_place reading_of_rest_of_command_words applet_site_of_word applet_site_after_double_dash option_words_that_may_precede_applet common_options options_of option_word_without_value value_in_long_or_short_option_word is_name is_utf8 chars encode
no_output_follows = refl

output_is_given : is_command_line_stuck (codes "mkndx" ∷ (codes "-oi" ∷ (codes "--" ∷ []))) ≡ false
unfolding is_command_line_stuck command_of spelled_command command_of_reading_with_end_place reading_of_rest_of_command_words applet_site_of_word applet_site_after_double_dash option_words_that_may_precede_applet common_options options_of option_word_without_value value_in_long_or_short_option_word is_name is_utf8 chars encode
output_is_given = refl

-- `--` as a value ends nothing
end_as_value : is_command_line_stuck (codes "mkndx" ∷ (codes "-d" ∷ (codes "--" ∷ []))) ≡ false
unfolding is_command_line_stuck command_of spelled_command command_of_reading_with_end_place reading_of_rest_of_command_words applet_site_of_word applet_site_after_double_dash option_words_that_may_precede_applet common_options options_of option_word_without_value value_in_long_or_short_option_word is_name is_utf8 chars encode
end_as_value = refl

end_after_value : is_command_line_stuck (codes "mkndx" ∷ (codes "-d" ∷ (codes "--" ∷ (codes "--" ∷ [])))) ≡ true
unfolding is_command_line_stuck command_of spelled_command command_of_reading_with_end_place reading_of_rest_of_command_words applet_site_of_word applet_site_after_double_dash option_words_that_may_precede_applet common_options options_of option_word_without_value value_in_long_or_short_option_word is_name is_utf8 chars encode
end_after_value = refl

nothing_is_lacking : is_command_line_stuck (codes "--" ∷ (codes "mkpkg" ∷ [])) ≡ false
unfolding is_command_line_stuck command_of spelled_command command_of_reading_with_end_place reading_of_rest_of_command_words applet_site_of_word applet_site_after_double_dash option_words_that_may_precede_applet common_options options_of option_word_without_value value_in_long_or_short_option_word is_name is_utf8 chars encode
nothing_is_lacking = refl

-- a script is awaited, and there is one of each type
no_script_follows : is_command_line_stuck (codes "mkpkg" ∷ (codes "-strigger:a" ∷ (codes "-spre-install:a" ∷ (codes "-spost-install:a" ∷ (codes "-spre-deinstall:a" ∷ (codes "-spost-deinstall:a" ∷ (codes "-spre-upgrade:a" ∷ (codes "-spost-upgrade:a" ∷ (codes "-s" ∷ []))))))))) ≡ true
unfolding is_command_line_stuck command_of spelled_command command_of_reading_with_end_place reading_of_rest_of_command_words applet_site_of_word applet_site_after_double_dash option_words_that_may_precede_applet common_options options_of option_word_without_value value_in_long_or_short_option_word is_name is_utf8 chars encode
no_script_follows = refl

script_follows : is_command_line_stuck (codes "mkpkg" ∷ (codes "-spre-install:a" ∷ (codes "-spost-install:a" ∷ (codes "-spre-deinstall:a" ∷ (codes "-spost-deinstall:a" ∷ (codes "-spre-upgrade:a" ∷ (codes "-spost-upgrade:a" ∷ (codes "-s" ∷ [])))))))) ≡ false
unfolding is_command_line_stuck command_of spelled_command command_of_reading_with_end_place reading_of_rest_of_command_words applet_site_of_word applet_site_after_double_dash option_words_that_may_precede_applet common_options options_of option_word_without_value value_in_long_or_short_option_word is_name is_utf8 chars encode
script_follows = refl

scripts_are_given : is_command_line_stuck (codes "mkpkg" ∷ (codes "-strigger:a" ∷ (codes "-spre-install:a" ∷ (codes "-spost-install:a" ∷ (codes "-spre-deinstall:a" ∷ (codes "-spost-deinstall:a" ∷ (codes "-spre-upgrade:a" ∷ (codes "-spost-upgrade:a" ∷ [])))))))) ≡ false
unfolding is_command_line_stuck command_of spelled_command command_of_reading_with_end_place reading_of_rest_of_command_words applet_site_of_word applet_site_after_double_dash option_words_that_may_precede_applet common_options options_of option_word_without_value value_in_long_or_short_option_word is_name is_utf8 chars encode
scripts_are_given = refl

-- options before the applet that no applet has: only `--help` and `--version` can follow
no_applet_has_them : is_command_line_stuck (codes "--initdb" ∷ (codes "--purge" ∷ (codes "--" ∷ []))) ≡ true
unfolding is_command_line_stuck command_of spelled_command command_of_reading_with_end_place reading_of_rest_of_command_words applet_site_of_word applet_site_after_double_dash option_words_that_may_precede_applet common_options options_of option_word_without_value value_in_long_or_short_option_word is_name is_utf8 chars encode
no_applet_has_them = refl

help_follows : is_command_line_stuck (codes "--initdb" ∷ (codes "--purge" ∷ [])) ≡ false
unfolding is_command_line_stuck command_of spelled_command command_of_reading_with_end_place reading_of_rest_of_command_words applet_site_of_word applet_site_after_double_dash option_words_that_may_precede_applet common_options options_of option_word_without_value value_in_long_or_short_option_word is_name is_utf8 chars encode
help_follows = refl

-- a word asks, and what follows it says nothing
help_is_asked : is_command_line_stuck (codes "version" ∷ (codes "--help" ∷ (codes "--" ∷ []))) ≡ false
unfolding is_command_line_stuck command_of spelled_command command_of_reading_with_end_place reading_of_rest_of_command_words applet_site_of_word applet_site_after_double_dash option_words_that_may_precede_applet common_options options_of option_word_without_value value_in_long_or_short_option_word is_name is_utf8 chars encode
help_is_asked = refl

each_has_them : is_command_line_stuck (codes "--no-scripts" ∷ (codes "--allow-untrusted" ∷ [])) ≡ false
unfolding is_command_line_stuck command_of spelled_command command_of_reading_with_end_place reading_of_rest_of_command_words applet_site_of_word applet_site_after_double_dash option_words_that_may_precede_applet common_options options_of option_word_without_value value_in_long_or_short_option_word is_name is_utf8 chars encode
each_has_them = refl

-- an applet can follow
no_applet : is_command_line_stuck (codes "--" ∷ []) ≡ false
unfolding is_command_line_stuck command_of spelled_command command_of_reading_with_end_place reading_of_rest_of_command_words applet_site_of_word applet_site_after_double_dash option_words_that_may_precede_applet common_options options_of option_word_without_value value_in_long_or_short_option_word is_name is_utf8 chars encode
no_applet = refl

-- ---- words of `info` that can still get a kind

kind_may_follow : can_info_kind_follow (codes "info" ∷ (codes "usr/x" ∷ [])) ≡ true
unfolding can_info_kind_follow reading_of_rest_of_command_words applet_site_of_word applet_site_after_double_dash option_words_that_may_precede_applet common_options options_of option_word_without_value value_in_long_or_short_option_word is_name is_utf8 chars encode
kind_may_follow = refl

kind_may_follow_none : can_info_kind_follow (codes "info" ∷ []) ≡ true
unfolding can_info_kind_follow reading_of_rest_of_command_words applet_site_of_word applet_site_after_double_dash option_words_that_may_precede_applet common_options options_of option_word_without_value value_in_long_or_short_option_word is_name is_utf8 chars encode
kind_may_follow_none = refl

kind_may_follow_packages : can_info_kind_follow (codes "--no-scripts" ∷ (codes "info" ∷ (codes "a" ∷ (codes "b" ∷ [])))) ≡ true
unfolding can_info_kind_follow reading_of_rest_of_command_words applet_site_of_word applet_site_after_double_dash option_words_that_may_precede_applet common_options options_of option_word_without_value value_in_long_or_short_option_word is_name is_utf8 chars encode
kind_may_follow_packages = refl

no_kind_after_end : can_info_kind_follow (codes "info" ∷ (codes "--" ∷ (codes "usr/x" ∷ []))) ≡ false
unfolding can_info_kind_follow reading_of_rest_of_command_words applet_site_of_word applet_site_after_double_dash option_words_that_may_precede_applet common_options options_of option_word_without_value value_in_long_or_short_option_word is_name is_utf8 chars encode
no_kind_after_end = refl

no_kind_after_early_end : can_info_kind_follow (codes "--" ∷ (codes "info" ∷ (codes "usr/x" ∷ []))) ≡ false
unfolding can_info_kind_follow reading_of_rest_of_command_words applet_site_of_word applet_site_after_double_dash option_words_that_may_precede_applet common_options options_of option_word_without_value value_in_long_or_short_option_word is_name is_utf8 chars encode
no_kind_after_early_end = refl

no_second_kind : can_info_kind_follow (codes "info" ∷ (codes "a" ∷ (codes "-e" ∷ []))) ≡ false
unfolding can_info_kind_follow reading_of_rest_of_command_words applet_site_of_word applet_site_after_double_dash option_words_that_may_precede_applet common_options options_of option_word_without_value value_in_long_or_short_option_word is_name is_utf8 chars encode
no_second_kind = refl

no_kind_after_bad_word : can_info_kind_follow (codes "info" ∷ (codes "usr/x" ∷ (codes "--bad" ∷ []))) ≡ false
unfolding can_info_kind_follow reading_of_rest_of_command_words applet_site_of_word applet_site_after_double_dash option_words_that_may_precede_applet common_options options_of option_word_without_value value_in_long_or_short_option_word is_name is_utf8 chars encode
no_kind_after_bad_word = refl

kind_of_version : can_info_kind_follow (codes "version" ∷ (codes "a" ∷ [])) ≡ false
unfolding can_info_kind_follow reading_of_rest_of_command_words applet_site_of_word applet_site_after_double_dash option_words_that_may_precede_applet common_options options_of option_word_without_value value_in_long_or_short_option_word is_name is_utf8 chars encode
kind_of_version = refl

-- Options with values: which values are allowed, and which may be combined. The rules are in
-- `docs/commands.md`, "Words", the rows of options with a value; the types of scripts in "`mkpkg`".
use Rattle.std.specs.Prelude.{ℕ, ◌==◌, nat_lt, Bool, true, false, not, ◌&&◌, List, [], ◌∷◌, length, codes, Option, Some, None}
use Rattle.std.specs.List.{after_first, before_first, find, list_any}
use Rattle.std.specs.Str.{bytes_eq}
use Rattle.command_core.specs.declared.values.OptionValue.{OptionValue}
use Rattle.command_core.specs.declared.values.TheConstants.{COMPRESSION, DESCRIPTION, FILES, INFO, OUTPUT, SCRIPT, TRIGGER}
use Rattle.command_core.specs.declared.values.ValueKind.{ValueKind}
use Rattle.command_core.specs.declared.values.ValueKind.TheVariants.{Any, Nonempty, File, Output, Uncompressed, Script}
use Rattle.command_core.specs.declared.values.ValueRule.{ValueRule}
use Rattle.command_core.specs.Files.{is_file_argument, is_file_argument_within_output_length}

-- the value of an option with this letter, at the place of its word
abbrev pub option_value_from_place_letter_and_text : ℕ → ℕ → List ℕ → OptionValue
option_value_from_place_letter_and_text place letter text =
    record { place = place; letter = letter; text = text }

-- the first value that the option with a letter was given
abbrev pub first_value_with_letter : ℕ → List OptionValue → Option OptionValue
first_value_with_letter letter values = find (λ (v : OptionValue). v.letter == letter) values

-- whether the option with a letter was given a value
abbrev pub is_given : ℕ → List OptionValue → Bool
is_given letter values = list_any (λ (v : OptionValue). v.letter == letter) values

-- ---- scripts

-- the types of a package's scripts
abbrev pub script_types : List (List ℕ)
script_types =
    codes "trigger" ∷ (codes "pre-install" ∷ (codes "post-install" ∷ (codes "pre-deinstall" ∷
    (codes "post-deinstall" ∷ (codes "pre-upgrade" ∷ (codes "post-upgrade" ∷ []))))))

-- the byte `:`, which separates the type of a script from its file
abbrev pub colon : ℕ
colon = 58

-- the type of a script: the part before the first colon of TYPE:FILE, or all if there is none
abbrev pub script_type : List ℕ → List ℕ
script_type text = before_first (λ b. b == colon) text

-- the file of a script: the part after the first colon of TYPE:FILE
abbrev pub script_file : List ℕ → List ℕ
script_file text = after_first (λ b. b == colon) text

-- whether a text is TYPE:FILE: a type of a script, and a text that can name a file
abbrev pub is_script_argument : List ℕ → Bool
is_script_argument text =
    list_any (λ t. bytes_eq t (script_type text)) script_types && is_file_argument (script_file text)

-- ---- kinds

-- whether a text may be a value of a kind
abbrev pub is_value_of_kind : ValueKind → List ℕ → Bool
is_value_of_kind Any text = true
is_value_of_kind Nonempty text = nat_lt 0 (length text)
is_value_of_kind File text = is_file_argument text
is_value_of_kind Output text = is_file_argument_within_output_length text
is_value_of_kind Uncompressed text = bytes_eq text (codes "none")
is_value_of_kind Script text = is_script_argument text

-- whether two values of one option, whose values are of this kind, exclude each other: two scripts of one type do, and
-- no other values
abbrev pub excludes : ValueKind → List ℕ → List ℕ → Bool
excludes Script a b = bytes_eq (script_type a) (script_type b)
excludes kind a b = false

-- ---- rules

-- the rule of `-I`: it may be given often, with any text; `make_info` says which of them are bad
abbrev pub info_rule : ValueRule
info_rule = record { letter = INFO; single = false; kind = Any }

-- the rule of `-s`: it may be given once for each type of script
abbrev pub script_rule : ValueRule
script_rule = record { letter = SCRIPT; single = false; kind = Script }

-- the rule of `-t`: it may be given often, and its value is not empty
abbrev pub repeatable_nonempty_trigger_rule : ValueRule
repeatable_nonempty_trigger_rule = record { letter = TRIGGER; single = false; kind = Nonempty }

-- the rule of `-F`: its value names a folder, and it may be given once
abbrev pub files_rule : ValueRule
files_rule = record { letter = FILES; single = true; kind = File }

-- the rule of `-o`: its value names the file that is made, and it may be given once
abbrev pub output_rule : ValueRule
output_rule = record { letter = OUTPUT; single = true; kind = Output }

-- the rule of `-c`: its only value is `none` (no compression), and it may be given once
abbrev pub compression_rule : ValueRule
compression_rule = record { letter = COMPRESSION; single = true; kind = Uncompressed }

-- the rule of `-d`: its value is the description of an index, and it may be given once
abbrev pub description_rule : ValueRule
description_rule = record { letter = DESCRIPTION; single = true; kind = Any }

-- whether the option with this rule may not be given again: it may be given once, and has one of `values`
abbrev pub is_single_and_given : ValueRule → List OptionValue → Bool
is_single_and_given rule values = rule.single && is_given rule.letter values

-- whether one of the earlier values (`values`) is of the option with this rule, and excludes `text` as a further value
abbrev pub is_excluded_by_earlier_value : ValueRule → List ℕ → List OptionValue → Bool
is_excluded_by_earlier_value rule text values =
    list_any (λ (v : OptionValue). (v.letter == rule.letter) && excludes rule.kind v.text text)
    values

-- whether an option is required (its letter is given) and has none of `values`
abbrev pub is_required_value_missing : Option ℕ → List OptionValue → Bool
is_required_value_missing None values = false
is_required_value_missing (Some letter) values = not (is_given letter values)

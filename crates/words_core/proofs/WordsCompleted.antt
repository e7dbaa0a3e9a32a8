-- Words that lack a word can be completed, unless they are stuck: where their applet was found.
use Rattle.std.proofs.Common.{Bool, Err, List, None, Ok, Option, Some, [], ap, append-nil, arith, codes, drop, false, inl, inr, is_some, length, length-append, not, refl, subst, suc, sym, true, zero, ℕ, ◌++◌, ◌+◌, ◌-◌, ◌<◌, ◌∙◌, ◌∷◌, ◌≡◌, ◌≤◌, if◌then◌else◌}
use Rattle.base_core.specs.Name.{is_name}
use Rattle.dep_core.specs.Reading.{dependency_from_name_onward, dependency_after_name, dependency_of}
use Rattle.std.specs.List.{list_all, list_any}
use Rattle.std.specs.Option.{option_or}
use Rattle.std.specs.Prelude.{nat_lt, ◌&&◌, ◌==◌, ◌||◌}
use Rattle.std.specs.Str.{bytes_eq, chars, is_utf8}
use Rattle.std.proofs.lemmas.Bool.{and_from, and_parts, and_right, false≢true, le-leb, le-ltb, leb-true, not_from_false, not_from_true, or_from, or_parts, or_right, true≢false, not-true}
use Rattle.std.proofs.lemmas.Option.{none-some, same_Some}
use Rattle.std.proofs.lemmas.Slice.Eq.{bytes_eq-Decides}
use lib.Utf8.{encode}
use Rattle.command_core.specs.declared.command.Applet.{Applet}
use Rattle.command_core.specs.declared.command.Applet.TheVariants.{Info, Mkndx, Version}
use Rattle.command_core.specs.declared.command.Flag.{Flag}
use Rattle.command_core.specs.declared.command.Flag.TheVariants.{Check, Contents, Depends, Installed, WhoOwns}
use Rattle.command_core.specs.declared.command.Flags.{Flags}
use Rattle.command_core.specs.declared.operands.Operand.{Operand}
use Rattle.command_core.specs.declared.operands.OperandKind.{OperandKind}
use Rattle.command_core.specs.declared.operands.OperandKind.TheVariants.{Any, Dependency, DependencyName, File, Number, PackageName, Path, Pattern}
use Rattle.command_core.specs.declared.operands.OperandRule.{OperandRule}
use Rattle.command_core.specs.declared.values.OptionValue.{OptionValue}
use Rattle.command_core.specs.declared.values.TheConstants.{OUTPUT}
use Rattle.command_core.specs.declared.values.ValueKind.{ValueKind}
use Rattle.command_core.specs.declared.values.ValueKind.TheVariants.{Any as AnyText, File as FileName, Nonempty, Output, Script, Uncompressed}
use Rattle.command_core.specs.declared.values.ValueRule.{ValueRule}
use Rattle.command_core.specs.Applets.{info_operand_rule, required_option_letter, operand_rule_if_needed_kind_flag_given, version_operand_rule}
use Rattle.command_core.specs.Sound.{allowed_flags, may_have_flags, are_flags_allowed, has_at_most_one, is_count_within_limit}
use Rattle.command_core.specs.Command.{CommandLine}
use Rattle.command_core.specs.Flags.{has_flag, has_command_kind_flag, command_kind_flags, with_flag}
use Rattle.command_core.specs.Operands.{at_least, exactly, place_of_first_refused_operand, is_operand_of_kind, operand_at, takes}
use Rattle.command_core.specs.Values.{excludes, is_excluded_by_earlier_value, is_given, is_script_argument, is_value_of_kind, is_required_value_missing, option_value_from_place_letter_and_text, output_rule, script_type, script_types}
use Rattle.words_core.specs.declared.reading.OptionState.{OptionState}
use Rattle.words_core.specs.declared.reading.Reading.{Reading}
use Rattle.words_core.specs.declared.reading.Start.{Start}
use Rattle.words_core.specs.Grammar.{spelled_command_by_start, spelled_command, command_from_end_place_and_reading, value_in_long_or_short_option_word, lacks_operand_kind_flag_or_required_option, start_of_command_line, words_as_operands_from_place, option_word_without_value, reading_of_words_from_place, reading_of_rest_of_command_words, words_reading_from_parts, place_of_first_operand_refused_by_rule, option_state_from_parts, command_of_reading_with_end_place, with_operand_in_front, with_word_as_option_or_value}
use Rattle.words_core.specs.Options.{OptionSpec, common_options, options_of}
use Rattle.words_core.specs.Stuck.{awaits_impossible_value, has_script, have_options_ended, has_all_possible_values, is_stuck, is_required_option_missing}
use Rattle.words_core.proofs.GivenKept.{from_kept}
use Rattle.words_core.proofs.GoneOn.{IsRemovedPackage, from_going}
use Rattle.words_core.proofs.KindsKept.{IsPlain, start_known, within_at}
use Rattle.words_core.proofs.LinesJudged.{room_by}
use Rattle.words_core.proofs.LinesRead.{awaited_taken, step_taken}
use Rattle.words_core.proofs.OffendingWords.{AllBetween, IsJudgedAt, from_placed, judged_at, refused_between}
use Rattle.words_core.proofs.OneMore.{behind}
use Rattle.words_core.proofs.Sites.{start_stays}
use Rattle.words_core.proofs.WhatIsRead.{no_more}

-- operands that are taken, and more of them
pub refused_then : (rule : OperandRule) (before : ℕ) (os more : List Operand) → place_of_first_refused_operand rule before os ≡ None → place_of_first_refused_operand rule before (os ++ more) ≡ place_of_first_refused_operand rule (before + length os) more
refused_then rule before [] more h = (let same : before ≡ before + 0 = omega arith in ap (λ k. place_of_first_refused_operand rule k more) same)
refused_then rule before (o ∷ os) more h =
    let same : before + 1 + length os ≡ before + length (o ∷ os) = omega arith in
    elim (takes rule before o.text) as (λ b. (if b then place_of_first_refused_operand rule (before + 1) os else Some o.place) ≡ None → (if b then place_of_first_refused_operand rule (before + 1) (os ++ more) else Some o.place) ≡ place_of_first_refused_operand rule (before + length (o ∷ os)) more) [
      | true ↦ λ (later : place_of_first_refused_operand rule (before + 1) os ≡ None). refused_then rule (before + 1) os more later ∙ ap (λ k. place_of_first_refused_operand rule k more) same
      | false ↦ λ (here : Some o.place ≡ None). absurd (none-some o.place (sym here))
    ] h

pub one_more : (os : List Operand) (o : Operand) → nat_lt (length (os ++ (o ∷ []))) 1 ≡ false
one_more [] o = refl
one_more (p ∷ os) o = le-ltb (length (p ∷ (os ++ (o ∷ [])))) 1 (omega arith)

pub judged_good : (applet : Applet) (reading : Reading) (end : ℕ) → place_of_first_operand_refused_by_rule (operand_rule_if_needed_kind_flag_given applet reading.state.flags) reading.operands ≡ None → reading.unread ≡ None → lacks_operand_kind_flag_or_required_option applet (operand_rule_if_needed_kind_flag_given applet reading.state.flags) reading ≡ false → command_of_reading_with_end_place end applet reading ≡ Ok (command_from_end_place_and_reading end applet reading)
unfolding command_of_reading_with_end_place
judged_good applet reading end taken u enough = rw taken (rw u (rw enough refl))

abbrev pub IsJudgedGood : Applet → Reading → Type 0
IsJudgedGood applet reading = (end : ℕ) → command_of_reading_with_end_place end applet reading ≡ Ok (command_from_end_place_and_reading end applet reading)

-- ---- operands that can follow

-- words that are operands wherever they stand
abbrev pub AreTexts : List (List ℕ) → Type 0
AreTexts more = (options : List OptionSpec) (state : OptionState) (place : ℕ) → state.awaiting ≡ None → reading_of_words_from_place options state place more ≡ words_reading_from_parts state (words_as_operands_from_place place more) None

pub no_texts : AreTexts []
no_texts options state place a = rw a refl

pub a_text : AreTexts (codes "a" ∷ [])
a_text options state place a = rw a refl

pub two_texts : AreTexts (codes "a" ∷ (codes "a" ∷ []))
two_texts options state place a = rw a refl

-- such words behind what was read
abbrev pub with_texts : OptionState → List Operand → ℕ → List (List ℕ) → Reading
with_texts state os at more = behind os (words_reading_from_parts state (words_as_operands_from_place at more) None)

abbrev pub CanHaveTexts : Applet → OptionState → List Operand → ℕ → Type 0
CanHaveTexts applet state os at = (more : List (List ℕ)) × AreTexts more × IsJudgedGood applet (with_texts state os at more)

-- ---- operands of a kind that can follow

-- a text of a kind
abbrev pub sample : OperandKind → List ℕ
sample Number = codes "1"
sample kind = codes "a"

pub sample_fits : (kind : OperandKind) → is_operand_of_kind kind (sample kind) ≡ true
unfolding dependency_of dependency_from_name_onward dependency_after_name is_name is_utf8 chars encode
sample_fits File = refl
sample_fits Any = refl
sample_fits Dependency = refl
sample_fits DependencyName = refl
sample_fits PackageName = refl
sample_fits Path = refl
sample_fits Number = refl
sample_fits Pattern = refl

-- so many of them
abbrev pub samples : OperandKind → ℕ → List (List ℕ)
samples kind zero = []
samples kind (suc count) = sample kind ∷ samples kind count

sample_read : (kind : OperandKind) (options : List OptionSpec) (state : OptionState) (place : ℕ) (more : List (List ℕ)) → state.awaiting ≡ None → reading_of_words_from_place options state place (sample kind ∷ more) ≡ with_operand_in_front (operand_at place (sample kind)) (reading_of_words_from_place options state (place + 1) more)
sample_read Number options state place more a = rw a refl
sample_read File options state place more a = rw a refl
sample_read Any options state place more a = rw a refl
sample_read Dependency options state place more a = rw a refl
sample_read DependencyName options state place more a = rw a refl
sample_read PackageName options state place more a = rw a refl
sample_read Path options state place more a = rw a refl
sample_read Pattern options state place more a = rw a refl

pub samples_read : (kind : OperandKind) (count : ℕ) → AreTexts (samples kind count)
samples_read kind zero options state place a = rw a refl
samples_read kind (suc count) options state place a =
    sample_read kind options state place (samples kind count) a ∙ ap (with_operand_in_front (operand_at place (sample kind))) (samples_read kind count options state (place + 1) a)

-- there is room for so many
pub samples_taken : (rule : OperandRule) (before place count : ℕ) → is_count_within_limit rule.most (before + count) ≡ true → place_of_first_refused_operand rule before (words_as_operands_from_place place (samples rule.kind count)) ≡ None
samples_taken rule before place zero m = refl
samples_taken rule before place (suc count) m =
    let here : before + suc count ≡ before + (count + 1) = omega arith in
    let next : before + suc count ≡ before + 1 + count = omega arith in
    rw (room_by rule.most before count (ap (is_count_within_limit rule.most) (sym here) ∙ m))
    (rw (sample_fits rule.kind) (samples_taken rule (before + 1) (place + 1) count (ap (is_count_within_limit rule.most) (sym next) ∙ m)))

samples_length : (kind : OperandKind) (place count : ℕ) → length (words_as_operands_from_place place (samples kind count)) ≡ count
samples_length kind place zero = refl
samples_length kind place (suc count) = (let rest : length (words_as_operands_from_place (place + 1) (samples kind count)) ≡ count = samples_length kind (place + 1) count in omega arith)

-- a rule asks for no more operands than it takes
abbrev pub IsPossible : OperandRule → Type 0
IsPossible rule = is_count_within_limit rule.most rule.least ≡ true

info_possible : (flags : Flags) → IsPossible (info_operand_rule flags)
info_possible flags =
    elim flags.who_owns as (λ b. IsPossible (if b then exactly 1 Path else if flags.installed || flags.contents || flags.depends then at_least 1 PackageName else at_least 0 PackageName)) [
      | true ↦ refl
      | false ↦ elim (flags.installed || flags.contents || flags.depends) as (λ b. IsPossible (if b then at_least 1 PackageName else at_least 0 PackageName)) [
        | true ↦ refl
        | false ↦ refl
      ]
    ]

abbrev is_possible : Option OperandRule → Bool
is_possible None = true
is_possible (Some rule) = is_count_within_limit rule.most rule.least

version_possible : (flags : Flags) → is_possible (version_operand_rule flags) ≡ true
version_possible flags =
    elim flags.test as (λ b. is_possible (if b then Some (exactly 2 Any) else if flags.check then Some (at_least 1 Any) else None) ≡ true) [
      | true ↦ refl
      | false ↦ elim flags.check as (λ b. is_possible (if b then Some (at_least 1 Any) else None) ≡ true) [
        | true ↦ refl
        | false ↦ refl
      ]
    ]

each_possible : (applet : Applet) (flags : Flags) → is_possible (operand_rule_if_needed_kind_flag_given applet flags) ≡ true
each_possible Info flags = info_possible flags
each_possible Version flags = version_possible flags
each_possible applet flags = refl

pub rule_possible : (applet : Applet) (flags : Flags) (rule : OperandRule) → operand_rule_if_needed_kind_flag_given applet flags ≡ Some rule → IsPossible rule
rule_possible applet flags rule r = subst (λ o. is_possible o ≡ true) r (each_possible applet flags)

-- as many as are still wanted fit behind those that are taken
wanted_fit : (rule : OperandRule) (os : List Operand) → IsPossible rule → place_of_first_refused_operand rule 0 os ≡ None → is_count_within_limit rule.most (length os + (rule.least - length os)) ≡ true
wanted_fit rule os p h = by_most rule.most refl
  where
    by_most : (most : Option ℕ) → rule.most ≡ most → is_count_within_limit most (length os + (rule.least - length os)) ≡ true
    by_most None e = refl
    by_most (Some most) e =
        let least : rule.least ≤ most = leb-true rule.least most (ap (λ m. is_count_within_limit m rule.least) (sym e) ∙ p) in
        let fits : 0 + length os ≤ most = no_more rule most 0 os e (omega arith) h in
        le-leb (length os + (rule.least - length os)) most (omega arith)

-- where no option is lacking, operands complete what was read
pub can_have_texts : (applet : Applet) (state : OptionState) (os : List Operand) (at : ℕ) → is_required_option_missing applet state ≡ false → place_of_first_operand_refused_by_rule (operand_rule_if_needed_kind_flag_given applet state.flags) os ≡ None → CanHaveTexts applet state os at
can_have_texts applet state os at k h = by_rule (operand_rule_if_needed_kind_flag_given applet state.flags) refl k h
  where
    wanted_fit_at : (rule : OperandRule) (os : List Operand) → operand_rule_if_needed_kind_flag_given applet state.flags ≡ Some rule → place_of_first_refused_operand rule 0 os ≡ None → is_count_within_limit rule.most (0 + length os + (rule.least - length os)) ≡ true
    wanted_fit_at rule os r h =
        let same : 0 + length os + (rule.least - length os) ≡ length os + (rule.least - length os) = omega arith in
        ap (is_count_within_limit rule.most) same ∙ wanted_fit rule os (rule_possible applet state.flags rule r) h

    by_rule : (o : Option OperandRule) → operand_rule_if_needed_kind_flag_given applet state.flags ≡ o → (not (is_some o) || is_required_value_missing (required_option_letter applet) state.values) ≡ false → place_of_first_operand_refused_by_rule o os ≡ None → CanHaveTexts applet state os at
    by_rule None r k h = absurd (true≢false k)
    by_rule (Some rule) r k h =
        let count : ℕ = rule.least - length os in
        let texts : List (List ℕ) = samples rule.kind count in
        let reading : Reading = with_texts state os at texts in
        let taken : place_of_first_refused_operand rule 0 reading.operands ≡ None =
        refused_then rule 0 os (words_as_operands_from_place at texts) h
        ∙ samples_taken rule (0 + length os) at count (wanted_fit_at rule os r h) in
        let enough : rule.least ≤ length reading.operands =
        (let size : length (words_as_operands_from_place at texts) ≡ count = samples_length rule.kind at count in omega (arith, length-append os (words_as_operands_from_place at texts))) in (
          texts,
          samples_read rule.kind count,
          λ end. judged_good applet reading end
              (ap (λ o. place_of_first_operand_refused_by_rule o reading.operands) r ∙ taken) refl
              (ap (λ o. lacks_operand_kind_flag_or_required_option applet o reading) r ∙ or_from (nat_lt (length reading.operands) rule.least) (is_required_value_missing (required_option_letter applet) state.values) (le-ltb (length reading.operands) rule.least enough) k),
        )

-- ---- values that can follow

abbrev pub rule_by : ℕ → Bool → ValueKind → ValueRule
rule_by letter single kind = record { letter = letter; single = single; kind = kind }

abbrev pub IsFitting : ValueRule → List OptionValue → List ℕ → Type 0
IsFitting rule values text = (is_value_of_kind rule.kind text && not (is_excluded_by_earlier_value rule text values)) ≡ true

pub none_excluded : (letter : ℕ) (kind : ValueKind) (text : List ℕ) (values : List OptionValue) → ((a b : List ℕ) → excludes kind a b ≡ false) → list_any (λ (v : OptionValue). (v.letter == letter) && excludes kind v.text text) values ≡ false
none_excluded letter kind text [] n = refl
none_excluded letter kind text (v ∷ vs) n =
    or_from ((v.letter == letter) && excludes kind v.text text) _ (and_right (v.letter == letter) (excludes kind v.text text) (n v.text text)) (none_excluded letter kind text vs n)

pub some_fails : (p q : List ℕ → Bool) (xs : List (List ℕ)) → list_all q xs ≡ true → list_all p xs ≡ false → (x : List ℕ) × (q x ≡ true) × (p x ≡ false)
some_fails p q [] a h = absurd (true≢false h)
some_fails p q (x ∷ xs) a h =
    let parts = and_parts (q x) (list_all q xs) a in
    elim (p x) as (λ b. p x ≡ b → (b && list_all p xs) ≡ false → (y : List ℕ) × (q y ≡ true) × (p y ≡ false)) [
      | true ↦ λ e rest. some_fails p q xs parts.1 rest
      | false ↦ λ e rest. (x, parts.0, e)
    ] refl h

-- a script of a type
abbrev pub a_script : List ℕ → List ℕ
a_script t = t ++ codes ":a"

abbrev pub is_its_script : List ℕ → Bool
is_its_script t = is_script_argument (a_script t) && bytes_eq (script_type (a_script t)) t

pub all_scripts : list_all is_its_script script_types ≡ true
unfolding is_name is_utf8 chars encode
all_scripts = refl

pub script_fits : (letter : ℕ) (single : Bool) (values : List OptionValue) (t : List ℕ) → is_its_script t ≡ true → has_script letter values t ≡ false → IsFitting (rule_by letter single Script) values (a_script t)
script_fits letter single values t is none =
    let parts = and_parts (is_script_argument (a_script t)) (bytes_eq (script_type (a_script t)) t) is in
    let same : script_type (a_script t) ≡ t = (bytes_eq-Decides (script_type (a_script t)) t).0 parts.1 in
    and_from (is_script_argument (a_script t)) _ parts.0 (not_from_false _ (ap (has_script letter values) same ∙ none))

pub fitting : (letter : ℕ) (single : Bool) (kind : ValueKind) (values : List OptionValue) → has_all_possible_values kind letter values ≡ false → (text : List ℕ) × IsFitting (rule_by letter single kind) values text
unfolding is_name is_utf8 chars encode
fitting letter single AnyText values h = (codes "a", not_from_false _ (none_excluded letter AnyText (codes "a") values (λ a b. refl)))
fitting letter single Nonempty values h = (codes "a", not_from_false _ (none_excluded letter Nonempty (codes "a") values (λ a b. refl)))
fitting letter single FileName values h = (codes "a", not_from_false _ (none_excluded letter FileName (codes "a") values (λ a b. refl)))
fitting letter single Output values h = (codes "a", not_from_false _ (none_excluded letter Output (codes "a") values (λ a b. refl)))
fitting letter single Uncompressed values h = (codes "none", not_from_false _ (none_excluded letter Uncompressed (codes "none") values (λ a b. refl)))
fitting letter single Script values h = (let some = some_fails (has_script letter values) is_its_script script_types all_scripts h in (a_script some.0, script_fits letter single values some.0 some.1 some.2))

pub value_read : (options : List OptionSpec) (state : OptionState) (at : ℕ) (text : List ℕ) (rule : ValueRule) (more : List (List ℕ)) → state.awaiting ≡ Some rule → IsFitting rule state.values text → reading_of_words_from_place options state at (text ∷ more) ≡ reading_of_words_from_place options (option_state_from_parts state.flags (state.values ++ (option_value_from_place_letter_and_text at rule.letter text ∷ [])) None) (at + 1) more
value_read options state at text rule more a f =
    let next : OptionState = option_state_from_parts state.flags (state.values ++ (option_value_from_place_letter_and_text at rule.letter text ∷ [])) None in
    step_taken options state at text more (Some next) (awaited_taken state text rule a)
    (ap (with_word_as_option_or_value options state at text) a ∙ ap (λ b. if b then Some next else None) f)

-- ---- options that can follow

-- what was read of words, and more words behind it
abbrev pub gone_on : Applet → Flags → List OptionValue → List Operand → ℕ → List (List ℕ) → Reading
gone_on applet flags values os at more = behind os (reading_of_words_from_place (options_of applet) (option_state_from_parts flags values None) at more)

abbrev pub CanGoOn : Applet → Flags → List OptionValue → List Operand → ℕ → Type 0
CanGoOn applet flags values os at = (more : List (List ℕ)) × IsJudgedGood applet (gone_on applet flags values os at more)

pub output_read : (flags : Flags) (values : List OptionValue) (at : ℕ) → is_given OUTPUT values ≡ false → reading_of_words_from_place (options_of Mkndx) (option_state_from_parts flags values None) at (codes "-o" ∷ (codes "a" ∷ [])) ≡ words_reading_from_parts (option_state_from_parts flags (values ++ (option_value_from_place_letter_and_text (at + 1) OUTPUT (codes "a") ∷ [])) None) [] None
unfolding common_options options_of option_word_without_value value_in_long_or_short_option_word is_name is_utf8 chars encode
output_read flags values at g =
    step_taken (options_of Mkndx) (option_state_from_parts flags values None) at (codes "-o") (codes "a" ∷ []) (Some (option_state_from_parts flags values (Some output_rule))) refl
    (ap (λ b. if b then None else Some (option_state_from_parts flags values (Some output_rule))) g)
    ∙ value_read (options_of Mkndx) (option_state_from_parts flags values (Some output_rule)) (at + 1) (codes "a") output_rule [] refl
    (not_from_false _ (none_excluded OUTPUT Output (codes "a") values (λ a b. refl)))

pub given_last : (place letter : ℕ) (text : List ℕ) (values : List OptionValue) → (letter == letter) ≡ true → is_given letter (values ++ (option_value_from_place_letter_and_text place letter text ∷ [])) ≡ true
given_last place letter text [] e = rw e refl
given_last place letter text (v ∷ vs) e = or_right (v.letter == letter) _ (given_last place letter text vs e)

-- flags of `version` without a kind of its own have none
version_kinds : (flags : Flags) → may_have_flags Version flags ≡ true → flags.test ≡ false → flags.check ≡ false → has_command_kind_flag flags ≡ false
version_kinds flags m t c =
    let within = (and_parts (are_flags_allowed (allowed_flags Version) flags) (has_at_most_one command_kind_flags flags) m).0 in
    let no : (f : Flag) → has_flag f (allowed_flags Version) ≡ false → has_flag f flags ≡ false = λ f n. absent (has_flag f flags) (has_flag f (allowed_flags Version)) n (within_at (allowed_flags Version) flags f within) in
    let i : flags.installed ≡ false = no Installed refl in
    let o : flags.contents ≡ false = no Contents refl in
    let d : flags.depends ≡ false = no Depends refl in
    let w : flags.who_owns ≡ false = no WhoOwns refl in
    rw i (rw o (rw d (rw w (rw t (rw c refl)))))
  where
    absent : (b d : Bool) → d ≡ false → (b ≡ true → d ≡ true) → b ≡ false
    absent true d n h = absurd (true≢false (sym (h refl) ∙ n))
    absent false d n h = refl

-- no operand is lacking of `mkndx`
index_good : (state : OptionState) (os : List Operand) → place_of_first_refused_operand (at_least 0 File) 0 os ≡ None → is_given OUTPUT state.values ≡ true → IsJudgedGood Mkndx (behind os (words_reading_from_parts state [] None))
index_good state os h g end = judged_good Mkndx (behind os (words_reading_from_parts state [] None)) end
    (ap (place_of_first_refused_operand (at_least 0 File) 0) (append-nil os) ∙ h) refl
    (or_from (nat_lt (length (os ++ [])) 0) (not (is_given OUTPUT state.values)) (le-ltb (length (os ++ [])) 0 (omega arith)) (not_from_true (is_given OUTPUT state.values) g))

texts_taken : (before : ℕ) (operands : List Operand) → place_of_first_refused_operand (at_least 1 Any) before operands ≡ None
texts_taken before [] = refl
texts_taken before (o ∷ os) = texts_taken (before + 1) os

-- where an option is lacking, it completes what was read
pub options_follow : (applet : Applet) (flags : Flags) (values : List OptionValue) (os : List Operand) (at : ℕ) → may_have_flags applet flags ≡ true → is_required_option_missing applet (option_state_from_parts flags values None) ≡ true → place_of_first_operand_refused_by_rule (operand_rule_if_needed_kind_flag_given applet flags) os ≡ None → CanGoOn applet flags values os at
unfolding common_options options_of option_word_without_value value_in_long_or_short_option_word
options_follow Mkndx flags values os at m k h =
    let more : List OptionValue = values ++ (option_value_from_place_letter_and_text (at + 1) OUTPUT (codes "a") ∷ []) in
    (codes "-o" ∷ (codes "a" ∷ []), subst (λ r. IsJudgedGood Mkndx (behind os r)) (sym (output_read flags values at (not-true (is_given OUTPUT values) k))) (index_good (option_state_from_parts flags more None) os h (given_last (at + 1) OUTPUT (codes "a") values refl)))
options_follow Version flags values os at m k h =
    let none = no_kind flags (lacks_kind flags k) in
    let now : Flags = with_flag Check flags in
    let reading : Reading = behind os (words_reading_from_parts (option_state_from_parts now values None) (operand_at (at + 1) (codes "a") ∷ []) None) in
    let stand : has_command_kind_flag flags ≡ false = version_kinds flags m none.0 none.1 in
    let read : reading_of_words_from_place (options_of Version) (option_state_from_parts flags values None) at (codes "-c" ∷ (codes "a" ∷ [])) ≡ words_reading_from_parts (option_state_from_parts now values None) (operand_at (at + 1) (codes "a") ∷ []) None = rw stand refl in (
      codes "-c" ∷ (codes "a" ∷ []),
      subst (λ r. IsJudgedGood Version (behind os r)) (sym read) (λ end. judged_good Version reading end
          (rw none.0 (texts_taken 0 (os ++ (operand_at (at + 1) (codes "a") ∷ [])))) refl
          (rw none.0 (rw (one_more os (operand_at (at + 1) (codes "a"))) refl))),
    )
  where
    lacks_kind : (flags : Flags) → is_required_option_missing Version (option_state_from_parts flags values None) ≡ true → is_some (version_operand_rule flags) ≡ false
    lacks_kind flags k = elim (version_operand_rule flags) as (λ o. (not (is_some o) || false) ≡ true → is_some o ≡ false) [
      | None ↦ λ h. refl
      | Some rule ↦ λ (h : false ≡ true). absurd (false≢true h)
    ] k

    by_flags : (t c : Bool) → is_some (if t then Some (exactly 2 Any) else if c then Some (at_least 1 Any) else None) ≡ false → (t ≡ false) × (c ≡ false)
    by_flags true c h = absurd (true≢false h)
    by_flags false true h = absurd (true≢false h)
    by_flags false false h = (refl, refl)

    no_kind : (flags : Flags) → is_some (version_operand_rule flags) ≡ false → (flags.test ≡ false) × (flags.check ≡ false)
    no_kind flags n = by_flags flags.test flags.check n
options_follow applet flags values os at m k h = absurd (false≢true k)

pub can_go_on : (applet : Applet) (flags : Flags) (values : List OptionValue) (os : List Operand) (at : ℕ) → may_have_flags applet flags ≡ true → place_of_first_operand_refused_by_rule (operand_rule_if_needed_kind_flag_given applet flags) os ≡ None → CanGoOn applet flags values os at
can_go_on applet flags values os at m h =
    elim (is_required_option_missing applet (option_state_from_parts flags values None)) as (λ b. is_required_option_missing applet (option_state_from_parts flags values None) ≡ b → CanGoOn applet flags values os at) [
      | true ↦ λ k. options_follow applet flags values os at m k h
      | false ↦ λ k. (let can = can_have_texts applet (option_state_from_parts flags values None) os at k h in
          (can.0, subst (λ r. IsJudgedGood applet (behind os r)) (sym (can.1 (options_of applet) (option_state_from_parts flags values None) at refl)) can.2))
    ] refl

-- ---- words that lack a word

abbrev pub CanBeCompleted : List (List ℕ) → Type 0
CanBeCompleted words = (more : List (List ℕ)) × (command : CommandLine) × (spelled_command (words ++ more) ≡ Ok command)

-- no operand offends where words offend at their end
pub none_refused : (rule : Option OperandRule) (low end : ℕ) (operands : List Operand) (unread : Option ℕ) → AllBetween low end operands → IsJudgedAt end (option_or (place_of_first_operand_refused_by_rule rule operands) unread) end → place_of_first_operand_refused_by_rule rule operands ≡ None
none_refused None low end operands unread p j = refl
none_refused (Some rule) low end operands unread p j =
    elim (place_of_first_refused_operand rule 0 operands) as (λ o. place_of_first_refused_operand rule 0 operands ≡ o → IsJudgedAt end (option_or o unread) end → o ≡ None) [
      | None ↦ λ f j. refl
      | Some at ↦ λ f j. absurd (elim j as (λ _. ⊥) [
        | inl e ↦ (let is = refused_between rule 0 low end end operands p (f ∙ e) in omega (arith, is.1))
        | inr e ↦ none-some at (sym e.0)
      ])
    ] refl j

-- a word that cannot be read offends before their end
pub not_stopped : (rule : Option OperandRule) (end at : ℕ) (operands : List Operand) (unread : Option ℕ) → place_of_first_operand_refused_by_rule rule operands ≡ None → unread ≡ Some at → at < end → IsJudgedAt end (option_or (place_of_first_operand_refused_by_rule rule operands) unread) end → ⊥
not_stopped rule end at operands unread r u l j =
    elim (subst (λ o. IsJudgedAt end o end) (ap (λ o. option_or o unread) r ∙ u) j) as (λ _. ⊥) [
      | inl e ↦ (let same : at ≡ end = same_Some at end e in omega arith)
      | inr e ↦ none-some at (sym e.0)
    ]

pub both_none : (o unread : Option ℕ) → option_or o unread ≡ None → (o ≡ None) × (unread ≡ None)
both_none None unread h = (refl, h)
both_none (Some at) unread h = absurd (none-some at (sym h))

pub completed_from : (words : List (List ℕ)) (start : Start) → is_stuck words start ≡ false → start_of_command_line words ≡ Ok start → command_of_reading_with_end_place (length words + 1) start.applet (reading_of_rest_of_command_words start words) ≡ Err (length words + 1) → CanBeCompleted words
unfolding spelled_command
completed_from words start k s h = by_going (from_going start words low)
  where
    end : ℕ
    end = length words + 1

    options : List OptionSpec
    options = options_of start.applet

    reading : Reading
    reading = reading_of_rest_of_command_words start words

    ended : Bool
    ended = start.ended || have_options_ended (options_of start.applet) None (drop start.read words)

    known : IsPlain start (1 + length words)
    known = start_known words start s

    low : start.read ≤ length words
    low = omega (arith, known.read)

    own : may_have_flags start.applet reading.state.flags ≡ true
    own = (from_kept start (1 + length words) words known).0

    at_end : IsJudgedAt end (option_or (place_of_first_operand_refused_by_rule (operand_rule_if_needed_kind_flag_given start.applet reading.state.flags) reading.operands) reading.unread) end
    at_end = judged_at start.applet reading end end h

    taken : place_of_first_operand_refused_by_rule (operand_rule_if_needed_kind_flag_given start.applet reading.state.flags) reading.operands ≡ None
    taken = none_refused (operand_rule_if_needed_kind_flag_given start.applet reading.state.flags) (start.read + 1) end reading.operands reading.unread (from_placed start words low).operands at_end

    free : ((ended && is_required_option_missing start.applet reading.state) ≡ false) × (awaits_impossible_value reading.state.awaiting reading.state.values ≡ false)
    free = or_parts (ended && is_required_option_missing start.applet reading.state) (awaits_impossible_value reading.state.awaiting reading.state.values) k

    complete : (more : List (List ℕ)) → IsJudgedGood start.applet (reading_of_rest_of_command_words start (words ++ more)) → CanBeCompleted words
    complete more good = (
      more,
      command_from_end_place_and_reading (length (words ++ more) + 1) start.applet (reading_of_rest_of_command_words start (words ++ more)),
      ap (spelled_command_by_start (words ++ more)) (start_stays words more start s) ∙ good (length (words ++ more) + 1),
    )

    by_awaiting : (awaiting : Option ValueRule) → reading.state.awaiting ≡ awaiting → ((more : List (List ℕ)) → reading_of_rest_of_command_words start (words ++ more) ≡ behind reading.operands (reading_of_words_from_place options reading.state end more)) → CanBeCompleted words
    by_awaiting None a on =
        let can = can_go_on start.applet reading.state.flags reading.state.values reading.operands end own taken in
        complete can.0 (subst (λ r. IsJudgedGood start.applet r) (sym (on can.0 ∙ ap (λ o. behind reading.operands (reading_of_words_from_place options (option_state_from_parts reading.state.flags reading.state.values o) end can.0)) a)) can.1)
    by_awaiting (Some rule) a on =
        let text = fitting rule.letter rule.single rule.kind reading.state.values (ap (λ o. awaits_impossible_value o reading.state.values) (sym a) ∙ free.1) in
        let can = can_go_on start.applet reading.state.flags (reading.state.values ++ (option_value_from_place_letter_and_text end rule.letter text.0 ∷ [])) reading.operands (end + 1) own taken in
        complete (text.0 ∷ can.0) (subst (λ r. IsJudgedGood start.applet r) (sym (on (text.0 ∷ can.0) ∙ ap (behind reading.operands) (value_read options reading.state end text.0 rule can.0 a text.1))) can.1)

    by_going : IsRemovedPackage options end ended reading (λ more. reading_of_rest_of_command_words start (words ++ more)) → CanBeCompleted words
    by_going (inl stopped) = absurd (not_stopped (operand_rule_if_needed_kind_flag_given start.applet reading.state.flags) end stopped.0 reading.operands reading.unread taken stopped.1 stopped.2 at_end)
    by_going (inr (inl on)) = by_awaiting reading.state.awaiting refl on.goes_on
    by_going (inr (inr off)) =
        let can = can_have_texts start.applet reading.state reading.operands end (ap (λ b. b && is_required_option_missing start.applet reading.state) (sym off.over) ∙ free.0) taken in
        complete can.0 (subst (λ r. IsJudgedGood start.applet r) (sym (off.goes_on can.0)) can.2)

-- Stuck words are no command, whatever follows.
use Rattle.std.proofs.Common.{Bool, Err, IfOk, List, None, Ok, Option, Result, Some, [], ap, arith, cond, drop, false, inl, inr, is_ok, length, not, refl, subst, suc, sym, take, true, zero, ℕ, ◌++◌, ◌+◌, ◌-◌, ◌∙◌, ◌∷◌, ◌≡◌, ◌≤◌, if◌then◌else◌}
use Rattle.std.specs.List.{find, list_all, list_any}
use Rattle.std.specs.Option.{option_map, option_or}
use Rattle.std.specs.Prelude.{is_some, ◌&&◌, ◌||◌}
use Rattle.std.specs.Str.{bytes_eq}
use Rattle.std.proofs.lemmas.Bool.{and_parts, and_right, cases_lt, false≢true, not_from_true, or_cases, or_parts, or_right, true≢false, not-true}
use Rattle.std.proofs.lemmas.Option.{none-some, same_Some}
use Rattle.std.proofs.lemmas.Result.{IfOk-weaker}
use Rattle.std.proofs.lemmas.Slice.Eq.{bytes_eq-Decides}
use Rattle.command_core.specs.declared.command.Applet.{Applet}
use Rattle.command_core.specs.declared.command.Flags.{Flags}
use Rattle.command_core.specs.declared.values.OptionValue.{OptionValue}
use Rattle.command_core.specs.declared.values.ValueKind.{ValueKind}
use Rattle.command_core.specs.declared.values.ValueKind.TheVariants.{Script}
use Rattle.command_core.specs.declared.values.ValueRule.{ValueRule}
use Rattle.command_core.specs.Applets.{required_option_letter, operand_rule_if_needed_kind_flag_given}
use Rattle.command_core.specs.Command.{CommandLine}
use Rattle.command_core.specs.Files.{is_file_argument}
use Rattle.command_core.specs.Flags.{no_flags}
use Rattle.command_core.specs.Values.{is_excluded_by_earlier_value, is_value_of_kind, is_required_value_missing, option_value_from_place_letter_and_text, script_file, script_type, script_types}
use Rattle.words_core.specs.declared.reading.AppletSite.{AppletSite}
use Rattle.words_core.specs.declared.reading.OptionState.{OptionState}
use Rattle.words_core.specs.declared.reading.Reading.{Reading}
use Rattle.words_core.specs.declared.reading.Start.{Start}
use Rattle.words_core.specs.Grammar.{applet_site, spelled_command_by_start, spelled_command, command_from_end_place_and_reading, flags_with_options_before_applet, is_double_dash, is_option_or_double_dash, lacks_operand_or_kind_flag, lacks_operand_kind_flag_or_required_option, start_of_command_line, reading_of_words_from_place, or_err_at, reading_of_rest_of_command_words, words_reading_from_parts, place_of_first_operand_refused_by_rule, applet_site_of_word, applet_site_after_double_dash, applet_site_from_ended_read_applet, start_by_applet_site, start_with_flags_before_applet, option_state_from_parts, unless_refused_at, command_of_reading_with_end_place, with_word_as_option_or_value}
use Rattle.words_core.specs.Options.{OptionSpec, applet_of, applet_word, applets, is_option_word_that_may_precede_applet, options_of}
use Rattle.words_core.specs.Stuck.{are_stuck_by, awaits_impossible_value, has_script, have_options_ended, has_all_possible_values, is_stuck, is_stuck_by, is_required_option_missing, are_options_of}
use Rattle.words_core.proofs.GoneOn.{IsRemovedPackage, from_going}
use Rattle.words_core.proofs.KindsKept.{IsPlain, start_known}
use Rattle.words_core.proofs.LinesRead.{awaited_taken, step_taken}
use Rattle.words_core.proofs.OffendingWords.{IsBetween, IsSearched, site_searched}
use Rattle.words_core.proofs.OneMore.{behind}
use Rattle.words_core.proofs.Sites.{err_here, IsKnown, flags_offend, seek_early, seek_end, seek_here, seek_late, site_stays, start_stays}
use Rattle.words_core.proofs.WordsCompleted.{rule_by}

abbrev pub IsBad : Applet → Reading → Type 0
IsBad applet reading = (end : ℕ) → (place : ℕ) × (command_of_reading_with_end_place end applet reading ≡ Err place)

-- what cannot be read is no command
pub unread_bad : (applet : Applet) (reading : Reading) (at : ℕ) → reading.unread ≡ Some at → IsBad applet reading
unfolding command_of_reading_with_end_place
unread_bad applet reading at u end =
    let rest = if lacks_operand_kind_flag_or_required_option applet (operand_rule_if_needed_kind_flag_given applet reading.state.flags) reading then Err end else Ok (command_from_end_place_and_reading end applet reading) in
    elim (place_of_first_operand_refused_by_rule (operand_rule_if_needed_kind_flag_given applet reading.state.flags) reading.operands) as (λ o. (place : ℕ) × (unless_refused_at (option_or o reading.unread) rest ≡ Err place)) [
      | None ↦ (at, ap (λ x. unless_refused_at x rest) u)
      | Some place ↦ (place, refl)
    ]

-- nor is what lacks an option
pub lacks_by_option : (applet : Applet) (reading : Reading) → is_required_option_missing applet reading.state ≡ true → lacks_operand_kind_flag_or_required_option applet (operand_rule_if_needed_kind_flag_given applet reading.state.flags) reading ≡ true
lacks_by_option applet reading h =
    let needed = is_required_value_missing (required_option_letter applet) reading.state.values in
    elim (operand_rule_if_needed_kind_flag_given applet reading.state.flags) as (λ r. (not (is_some r) || needed) ≡ true → (lacks_operand_or_kind_flag r reading.operands || needed) ≡ true) [
      | None ↦ λ h. refl
      | Some rule ↦ λ h. or_right (lacks_operand_or_kind_flag (Some rule) reading.operands) needed h
    ] h

pub bad_by : (o : Option ℕ) (lacking : Bool) (end : ℕ) (command : CommandLine) → lacking ≡ true → (place : ℕ) × (unless_refused_at o (if lacking then Err end else Ok command) ≡ Err place)
bad_by None lacking end command e = (end, ap (λ b. if b then Err end else Ok command) e)
bad_by (Some at) lacking end command e = (at, refl)

pub lacking_bad : (applet : Applet) (reading : Reading) → is_required_option_missing applet reading.state ≡ true → IsBad applet reading
unfolding command_of_reading_with_end_place
lacking_bad applet reading h end =
    bad_by (option_or (place_of_first_operand_refused_by_rule (operand_rule_if_needed_kind_flag_given applet reading.state.flags) reading.operands) reading.unread) (lacks_operand_kind_flag_or_required_option applet (operand_rule_if_needed_kind_flag_given applet reading.state.flags) reading) end (command_from_end_place_and_reading end applet reading) (lacks_by_option applet reading h)

-- a value of an option that can have no value more
pub both_at : (p q : List ℕ → Bool) (xs : List (List ℕ)) → list_all p xs ≡ true → list_any q xs ≡ true → (x : List ℕ) × (p x ≡ true) × (q x ≡ true)
both_at p q [] a h = absurd (false≢true h)
both_at p q (x ∷ xs) a h =
    let parts = and_parts (p x) (list_all p xs) a in
    elim (or_cases (q x) (list_any q xs) h) as (λ _. (y : List ℕ) × (p y ≡ true) × (q y ≡ true)) [
      | inl here ↦ (x, parts.0, here)
      | inr later ↦ both_at p q xs parts.1 later
    ]

pub no_fit : (letter : ℕ) (single : Bool) (kind : ValueKind) (values : List OptionValue) (text : List ℕ) → has_all_possible_values kind letter values ≡ true → (is_value_of_kind kind text && not (is_excluded_by_earlier_value (rule_by letter single kind) text values)) ≡ false
no_fit letter single Script values text h =
    let excluded = is_excluded_by_earlier_value (rule_by letter single Script) text values in
    elim (list_any (λ t. bytes_eq t (script_type text)) script_types) as (λ b. list_any (λ t. bytes_eq t (script_type text)) script_types ≡ b → ((b && is_file_argument (script_file text)) && not excluded) ≡ false) [
      | false ↦ λ e. refl
      | true ↦ λ e.
          let one = both_at (has_script letter values) (λ t. bytes_eq t (script_type text)) script_types h e in
          let same : one.0 ≡ script_type text = (bytes_eq-Decides one.0 (script_type text)).0 one.2 in
          let is : is_excluded_by_earlier_value (rule_by letter single Script) text values ≡ true = ap (has_script letter values) (sym same) ∙ one.1 in
          and_right (is_file_argument (script_file text)) _ (not_from_true excluded is)
    ] refl
no_fit letter single kind values text h = absurd (false≢true h)

pub awaited_whole : (options : List OptionSpec) (state : OptionState) (end : ℕ) (rule : ValueRule) (more : List (List ℕ)) → state.awaiting ≡ Some rule → has_all_possible_values rule.kind rule.letter state.values ≡ true → reading_of_words_from_place options state end more ≡ words_reading_from_parts state [] (Some end)
awaited_whole options state end rule [] a f = ap (λ o. words_reading_from_parts state [] (option_map (λ (r : ValueRule). end) o)) a
awaited_whole options state end rule (word ∷ words) a f =
    let next : OptionState = option_state_from_parts state.flags (state.values ++ (option_value_from_place_letter_and_text end rule.letter word ∷ [])) None in
    step_taken options state end word words None (awaited_taken state word rule a)
    (ap (with_word_as_option_or_value options state end word) a ∙ ap (λ b. if b then Some next else None) (no_fit rule.letter rule.single rule.kind state.values word f))

pub awaited_unread : (options : List OptionSpec) (state : OptionState) (end : ℕ) (rule : ValueRule) (more : List (List ℕ)) → state.awaiting ≡ Some rule → has_all_possible_values rule.kind rule.letter state.values ≡ true → (reading_of_words_from_place options state end more).unread ≡ Some end
awaited_unread options state end rule more a f = ap (λ (r : Reading). r.unread) (awaited_whole options state end rule more a f)

-- stuck words are no command, whatever follows, where their applet was found
pub stuck_bad : (words more : List (List ℕ)) (start : Start) → start_of_command_line words ≡ Ok start → is_stuck words start ≡ true → IsBad start.applet (reading_of_rest_of_command_words start (words ++ more))
stuck_bad words more start s k = by_going (from_going start words low)
  where
    end : ℕ
    end = length words + 1

    options : List OptionSpec
    options = options_of start.applet

    reading : Reading
    reading = reading_of_rest_of_command_words start words

    ended : Bool
    ended = start.ended || have_options_ended (options_of start.applet) None (drop start.read words)

    known : IsPlain start (1 + length words)
    known = start_known words start s

    low : start.read ≤ length words
    low = omega (arith, known.read)

    bad_on : (awaiting : Option ValueRule) → reading.state.awaiting ≡ awaiting → awaits_impossible_value awaiting reading.state.values ≡ true → reading_of_rest_of_command_words start (words ++ more) ≡ behind reading.operands (reading_of_words_from_place options reading.state end more) → IsBad start.applet (reading_of_rest_of_command_words start (words ++ more))
    bad_on None a w on = absurd (false≢true w)
    bad_on (Some rule) a w on = unread_bad start.applet (reading_of_rest_of_command_words start (words ++ more)) end (ap (λ (r : Reading). r.unread) on ∙ awaited_unread options reading.state end rule more a w)

    by_going : IsRemovedPackage options end ended reading (λ m. reading_of_rest_of_command_words start (words ++ m)) → IsBad start.applet (reading_of_rest_of_command_words start (words ++ more))
    by_going (inl stopped) = unread_bad start.applet (reading_of_rest_of_command_words start (words ++ more)) stopped.0 (ap (λ (r : Reading). r.unread) (stopped.3 more) ∙ stopped.1)
    by_going (inr (inl on)) =
        elim (or_cases (ended && is_required_option_missing start.applet reading.state) (awaits_impossible_value reading.state.awaiting reading.state.values) k) as (λ _. IsBad start.applet (reading_of_rest_of_command_words start (words ++ more))) [
          | inl both ↦ absurd (true≢false (sym (and_parts ended (is_required_option_missing start.applet reading.state) both).0 ∙ on.over))
          | inr none ↦ bad_on reading.state.awaiting refl none (on.goes_on more)
        ]
    by_going (inr (inr off)) =
        elim (or_cases (ended && is_required_option_missing start.applet reading.state) (awaits_impossible_value reading.state.awaiting reading.state.values) k) as (λ _. IsBad start.applet (reading_of_rest_of_command_words start (words ++ more))) [
          | inl both ↦ lacking_bad start.applet (reading_of_rest_of_command_words start (words ++ more)) (ap (λ (r : Reading). is_required_option_missing start.applet r.state) (off.goes_on more) ∙ (and_parts ended (is_required_option_missing start.applet reading.state) both).1)
          | inr none ↦ absurd (false≢true (sym (ap (λ o. awaits_impossible_value o reading.state.values) off.awaiting) ∙ none))
        ]

-- options before the applet that no applet has are in no command
not_any : {A : Type 0} (p : A → Bool) (xs : List A) (q : A → Bool) (x : A) → not (list_any p xs) ≡ true → find q xs ≡ Some x → p x ≡ false
not_any p [] q x n f = absurd (none-some x f)
not_any p (y ∷ ys) q x n f =
    let parts = or_parts (p y) (list_any p ys) (not-true (p y || list_any p ys) n) in
    elim (q y) as (λ b. cond b (Some y) (find q ys) ≡ Some x → p x ≡ false) [
      | true ↦ λ (same : Some y ≡ Some x). subst (λ z. p z ≡ false) (same_Some y x same) parts.0
      | false ↦ λ (later : find q ys ≡ Some x). not_any p ys q x (ap not parts.1) later
    ] f

-- the applet that is found behind words in which none was
pub record IsNotFirst (words more : List (List ℕ)) (place : ℕ) (site : AppletSite) : Type 0 where
  pub word : List ℕ
  pub names : applet_of word ≡ Some site.applet
  pub late : place + length words ≤ site.read

named_later : (ended : Bool) (place at : ℕ) (words more : List (List ℕ)) (word : List ℕ) → at + length words ≤ place → IfOk (applet_site_of_word ended place word) (λ s. IsNotFirst words more at s)
unfolding applet_site_of_word
named_later ended place at words more word l =
    elim (applet_of word) as (λ o. applet_of word ≡ o → IfOk (or_err_at place (λ applet. Ok (applet_site_from_ended_read_applet ended place applet)) o) (λ s. IsNotFirst words more at s)) [
      | None ↦ λ e. tt
      | Some applet ↦ λ e. record { word = word; names = e; late = l }
    ] refl

end_later : (place at : ℕ) (words more : List (List ℕ)) (left : List (List ℕ)) → at + length words ≤ place → IfOk (applet_site_after_double_dash place left) (λ s. IsNotFirst words more at s)
unfolding applet_site_after_double_dash
end_later place at words more [] l = tt
end_later place at words more (word ∷ left) l = named_later true place at words more word l

any_later : (place at : ℕ) (words more : List (List ℕ)) (left : List (List ℕ)) → at + length words ≤ place → IfOk (applet_site place left) (λ s. IsNotFirst words more at s)
any_later place at words more [] l = tt
any_later place at words more (word ∷ left) l =
    let next : at + length words ≤ place + 1 = omega arith in
    elim (is_double_dash word) as (λ b. IfOk (if b then applet_site_after_double_dash (place + 1) left else if is_option_or_double_dash word then (if is_option_word_that_may_precede_applet word then applet_site (place + 1) left else Err place) else applet_site_of_word false place word) (λ s. IsNotFirst words more at s)) [
      | true ↦ end_later (place + 1) at words more left next
      | false ↦ elim (is_option_or_double_dash word) as (λ b. IfOk (if b then (if is_option_word_that_may_precede_applet word then applet_site (place + 1) left else Err place) else applet_site_of_word false place word) (λ s. IsNotFirst words more at s)) [
        | true ↦ elim (is_option_word_that_may_precede_applet word) as (λ b. IfOk (if b then applet_site (place + 1) left else Err place) (λ s. IsNotFirst words more at s)) [
          | true ↦ any_later (place + 1) at words more left next
          | false ↦ tt
        ]
        | false ↦ named_later false place at words more word l
      ]
    ]

end_site_later : (place : ℕ) (word : List ℕ) (words more : List (List ℕ)) → applet_site_after_double_dash (place + 1) words ≡ Err (place + length (word ∷ words)) → IfOk (applet_site_after_double_dash (place + 1) (words ++ more)) (λ s. IsNotFirst (word ∷ words) more place s)
unfolding applet_site_after_double_dash
end_site_later place word [] more h = end_later (place + 1) place (word ∷ []) more more (omega arith)
end_site_later place word (next ∷ words) more h =
    absurd (let same : place + length (word ∷ (next ∷ words)) ≡ place + 1 = err_here (place + 1) (place + length (word ∷ (next ∷ words))) true next h in omega arith)

site_later : (place : ℕ) (words more : List (List ℕ)) → applet_site place words ≡ Err (place + length words) → IfOk (applet_site place (words ++ more)) (λ s. IsNotFirst words more place s)
site_later place [] more h = any_later place place [] more more (omega arith)
site_later place (word ∷ words) more h =
    let next : place + length (word ∷ words) ≡ place + 1 + length words = omega arith in
    elim (is_double_dash word) as (λ b. is_double_dash word ≡ b → IfOk (applet_site place (word ∷ (words ++ more))) (λ s. IsNotFirst (word ∷ words) more place s)) [
      | true ↦ λ e. subst (λ r. IfOk r (λ s. IsNotFirst (word ∷ words) more place s)) (sym (seek_end place word (words ++ more) e))
          (end_site_later place word words more (sym (seek_end place word words e) ∙ h))
      | false ↦ λ e. elim (is_option_or_double_dash word) as (λ b. is_option_or_double_dash word ≡ b → IfOk (applet_site place (word ∷ (words ++ more))) (λ s. IsNotFirst (word ∷ words) more place s)) [
        | true ↦ λ o. elim (is_option_word_that_may_precede_applet word) as (λ b. is_option_word_that_may_precede_applet word ≡ b → IfOk (applet_site place (word ∷ (words ++ more))) (λ s. IsNotFirst (word ∷ words) more place s)) [
          | true ↦ λ y. subst (λ r. IfOk r (λ s. IsNotFirst (word ∷ words) more place s)) (sym (seek_early place word (words ++ more) e o y))
              (IfOk-weaker (applet_site (place + 1) (words ++ more)) (λ s. IsNotFirst words more (place + 1) s) (λ s. IsNotFirst (word ∷ words) more place s)
              (λ s later. record { word = later.word; names = later.names; late = omega (arith, later.late) })
              (site_later (place + 1) words more (sym (seek_early place word words e o y) ∙ (h ∙ ap Err next))))
          | false ↦ λ y. absurd (let same : Err place ≡ Err (place + length (word ∷ words)) = sym (seek_late place word words e o y) ∙ h in let is : place ≡ place + length (word ∷ words) = cc in omega arith)
        ] refl
        | false ↦ λ o. absurd (let same : place + length (word ∷ words) ≡ place = err_here place (place + length (word ∷ words)) false word (sym (seek_here place word words e o) ∙ h) in omega arith)
      ] refl
    ] refl

pub take_more : (count : ℕ) (words more : List (List ℕ)) → length words ≤ count → take count (words ++ more) ≡ words ++ take (count - length words) more
take_more count [] more l = (let same : count ≡ count - 0 = omega arith in ap (λ k. take k more) same)
take_more zero (word ∷ words) more l = absurd (omega (arith, l))
take_more (suc count) (word ∷ words) more l =
    ap (λ ws. word ∷ ws) (take_more count words more (omega (arith, l)) ∙ ap (λ k. words ++ take k more) (let same : count - length words ≡ suc count - length (word ∷ words) = omega arith in same))

no_applet_stays : (words more : List (List ℕ)) (at : ℕ) → applet_site 1 words ≡ Err at → not (list_any (are_options_of words) applets) ≡ true → (place : ℕ) × (spelled_command (words ++ more) ≡ Err place)
unfolding spelled_command
no_applet_stays words more at s k =
    elim (cases_lt at (1 + length words)) as (λ _. (place : ℕ) × (spelled_command_by_start (words ++ more) (start_of_command_line (words ++ more)) ≡ Err place)) [
      | inl less ↦ (at, ap (λ r. spelled_command_by_start (words ++ more) (start_by_applet_site (words ++ more) r)) (site_stays 1 words more (subst (λ r. IsKnown (1 + length words) r) (sym s) less) ∙ s))
      | inr last ↦
          (let is : IsBetween 1 (length words + 2) at = subst (λ r. IsSearched 1 (length words + 2) r) s (site_searched 1 1 (length words + 2) words (omega arith) (omega arith)) in
          let end : at ≡ 1 + length words = omega (arith, is.1) in
          by_site (applet_site 1 (words ++ more)) refl (site_later 1 words more (s ∙ ap Err end)))
    ]
  where
    by_flags : (site : AppletSite) → applet_site 1 (words ++ more) ≡ Ok site → (f : Result Flags ℕ) → flags_with_options_before_applet (options_of site.applet) no_flags 1 words ≡ f → is_ok f ≡ false → length words ≤ site.read - 1 → (place : ℕ) × (spelled_command_by_start (words ++ more) (start_of_command_line (words ++ more)) ≡ Err place)
    by_flags site found (Ok flags) f n l = absurd (true≢false n)
    by_flags site found (Err place) f n l = (
      place,
      ap (λ r. spelled_command_by_start (words ++ more) (start_by_applet_site (words ++ more) r)) found
          ∙ (ap (λ ws. spelled_command_by_start (words ++ more) (start_with_flags_before_applet site (flags_with_options_before_applet (options_of site.applet) no_flags 1 ws))) (take_more (site.read - 1) words more l)
          ∙ ap (λ r. spelled_command_by_start (words ++ more) (start_with_flags_before_applet site r)) (flags_offend (options_of site.applet) no_flags 1 place words (take (site.read - 1 - length words) more) f)),
    )

    by_site : (r : Result AppletSite ℕ) → applet_site 1 (words ++ more) ≡ r → IfOk r (λ x. IsNotFirst words more 1 x) → (place : ℕ) × (spelled_command_by_start (words ++ more) (start_of_command_line (words ++ more)) ≡ Err place)
    by_site (Err place) found later = (place, ap (λ r. spelled_command_by_start (words ++ more) (start_by_applet_site (words ++ more) r)) found)
    by_site (Ok site) found later =
        by_flags site found (flags_with_options_before_applet (options_of site.applet) no_flags 1 words) refl
        (not_any (are_options_of words) applets (λ applet. bytes_eq (applet_word applet) later.word) site.applet k later.names)
        (omega (arith, later.late))

pub stuck_stay : (words more : List (List ℕ)) → are_stuck_by words (applet_site 1 words) ≡ true → (place : ℕ) × (spelled_command (words ++ more) ≡ Err place)
unfolding spelled_command
stuck_stay words more k =
    elim (applet_site 1 words) as (λ s. applet_site 1 words ≡ s → are_stuck_by words s ≡ true → (place : ℕ) × (spelled_command (words ++ more) ≡ Err place)) [
      | Err at ↦ λ s k. no_applet_stays words more at s (and_parts (list_any is_double_dash words) (not (list_any (are_options_of words) applets)) k).1
      | Ok site ↦ λ s k. by_start (start_of_command_line words) refl (ap (λ r. is_stuck_by words (start_by_applet_site words r)) s ∙ k)
    ] refl k
  where
    by_start : (r : Result Start ℕ) → start_of_command_line words ≡ r → is_stuck_by words (start_of_command_line words) ≡ true → (place : ℕ) × (spelled_command (words ++ more) ≡ Err place)
    by_start (Err at) s k = absurd (false≢true (sym (ap (is_stuck_by words) s) ∙ k))
    by_start (Ok start) s k =
        let bad = stuck_bad words more start s (sym (ap (is_stuck_by words) s) ∙ k) (length (words ++ more) + 1) in
        (bad.0, ap (spelled_command_by_start (words ++ more)) (start_stays words more start s) ∙ bad.1)

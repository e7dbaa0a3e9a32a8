-- Stuck words, and words that can be completed, where a word may ask.
use Rattle.std.proofs.Common.{Bool, Err, List, None, Ok, Option, Result, Some, [], ap, append-nil, append_assoc, arith, codes, drop, false, inl, inr, is_ok, length, not, refl, subst, sym, take, true, ℕ, ◌++◌, ◌+◌, ◌-◌, ◌<◌, ◌∙◌, ◌∷◌, ◌≡◌, ◌≤◌, ◌⊎◌, if◌then◌else◌}
use Rattle.std.specs.List.{list_any}
use Rattle.std.specs.Option.{option_map, option_or}
use Rattle.std.specs.Prelude.{◌&&◌, ◌||◌}
use Rattle.std.proofs.lemmas.Bool.{and_parts, cases_lt, false≢true, or_cases, not-true}
use Rattle.std.proofs.lemmas.List.{length-take-le, take-append-drop}
use Rattle.command_core.specs.declared.command.Applet.{Applet}
use Rattle.command_core.specs.declared.command.Applet.TheVariants.{Help}
use Rattle.command_core.specs.declared.operands.Operand.{Operand}
use Rattle.command_core.specs.declared.operands.OperandRule.{OperandRule}
use Rattle.command_core.specs.declared.values.ValueRule.{ValueRule}
use Rattle.command_core.specs.Applets.{operand_rule_if_needed_kind_flag_given}
use Rattle.command_core.specs.Command.{CommandLine}
use Rattle.words_core.specs.declared.next.NextWord.TheVariants.{OptionOrCommand, Command as CommandAlone, Value as NextValue}
use Rattle.words_core.specs.declared.reading.AppletSite.{AppletSite}
use Rattle.words_core.specs.declared.reading.Reading.{Reading}
use Rattle.words_core.specs.declared.reading.Start.{Start}
use Rattle.words_core.specs.Grammar.{applet_site, help_or_version_option_at, command_with_help_or_version_applet, spelled_command_by_start, command_of, is_double_dash, is_option_or_double_dash, spelled_command, start_of_command_line, next_word_of_command_line, next_word_after_words, reading_of_words_from_place, reading_of_rest_of_command_words, words_reading_from_parts, place_of_first_operand_refused_by_rule, applet_site_after_double_dash, start_by_applet_site, can_be_option}
use Rattle.words_core.specs.Options.{OptionSpec, applets, is_option_word_that_may_precede_applet, options_of}
use Rattle.words_core.specs.Stuck.{is_command_line_stuck, are_stuck_by, awaits_impossible_value, have_options_ended, is_stuck_by, is_required_option_missing, are_options_of}
use Rattle.words_core.proofs.AppletCompleted.{line_stuck, line_stuck_by, usage_is_first}
use Rattle.words_core.proofs.Asked.{alone_stays, asking, next_append, next_early, next_end, operand_stays}
use Rattle.words_core.proofs.AskedLaws.{asked_command_is, asked_made, asked_stays, line_is, offends_unasked, same_fault, unasked_is}
use Rattle.words_core.proofs.AskedLines.{HasAsked, asked_parts, awaited_after, ended_next, first_near, next_of_start}
use Rattle.words_core.proofs.GoneOn.{IsRemovedPackage, from_going}
use Rattle.words_core.proofs.KindsKept.{IsPlain, start_known}
use Rattle.words_core.proofs.OffendingWords.{AllBetween, IsBetween, IsSearched, from_placed, judged_bad, site_searched, usage_between}
use Rattle.words_core.proofs.OneMore.{behind}
use Rattle.words_core.proofs.Sites.{err_here, no_start_stays, seek_early, seek_end, seek_here, seek_late, start_stays}
use Rattle.words_core.proofs.StuckWords.{awaited_whole, stuck_stay, take_more}

-- ---- before the applet

end_here : (place at : ℕ) (word : List ℕ) (left : List (List ℕ)) → applet_site_after_double_dash place (word ∷ left) ≡ Err at → at ≡ place
unfolding applet_site_after_double_dash
end_here place at word left h = err_here place at true word h

-- where no applet was found, `--` says whether an option can follow
pub first_next : (place : ℕ) (words : List (List ℕ)) → applet_site place words ≡ Err (place + length words) → next_word_after_words OptionOrCommand words ≡ (if list_any is_double_dash words then CommandAlone else OptionOrCommand)
first_next place [] h = refl
first_next place (word ∷ words) h =
    let next : place + length (word ∷ words) ≡ place + 1 + length words = omega arith in
    elim (is_double_dash word) as (λ b. is_double_dash word ≡ b → next_word_after_words OptionOrCommand (word ∷ words) ≡ (if b || list_any is_double_dash words then CommandAlone else OptionOrCommand)) [
      | true ↦ λ e. ap (λ n. next_word_after_words n words) (next_end word e) ∙ alone words (sym (seek_end place word words e) ∙ h)
      | false ↦ λ e. elim (is_option_or_double_dash word) as (λ b. is_option_or_double_dash word ≡ b → next_word_after_words OptionOrCommand (word ∷ words) ≡ (if list_any is_double_dash words then CommandAlone else OptionOrCommand)) [
        | true ↦ λ o. elim (is_option_word_that_may_precede_applet word) as (λ b. is_option_word_that_may_precede_applet word ≡ b → next_word_after_words OptionOrCommand (word ∷ words) ≡ (if list_any is_double_dash words then CommandAlone else OptionOrCommand)) [
          | true ↦ λ y. ap (λ n. next_word_after_words n words) (next_early word e o) ∙ first_next (place + 1) words (sym (seek_early place word words e o y) ∙ (h ∙ ap Err next))
          | false ↦ λ y. absurd (let same : Err place ≡ Err (place + length (word ∷ words)) = sym (seek_late place word words e o y) ∙ h in let is : place ≡ place + length (word ∷ words) = cc in omega arith)
        ] refl
        | false ↦ λ o. absurd (let same : place + length (word ∷ words) ≡ place = err_here place (place + length (word ∷ words)) false word (sym (seek_here place word words e o) ∙ h) in omega arith)
      ] refl
    ] refl
  where
    alone : (left : List (List ℕ)) → applet_site_after_double_dash (place + 1) left ≡ Err (place + length (word ∷ left)) → next_word_after_words CommandAlone left ≡ CommandAlone
    alone [] e = refl
    alone (v ∷ left) e = absurd (let same : place + length (word ∷ (v ∷ left)) ≡ place + 1 = end_here (place + 1) (place + length (word ∷ (v ∷ left))) v left e in omega arith)

-- ---- words that can be completed

abbrev pub CanBeCommand : List (List ℕ) → Type 0
CanBeCommand words = (more : List (List ℕ)) × (command : CommandLine) × (command_of (words ++ more) ≡ Ok command)

-- `--help` completes words in which no applet is named, and options have not ended
asks_help : (words : List (List ℕ)) → spelled_command words ≡ Err (length words + 1) → next_word_of_command_line words ≡ OptionOrCommand → CanBeCommand words
asks_help words e n = (
  codes "--help" ∷ [],
  command_with_help_or_version_applet (words ++ (codes "--help" ∷ [])) Help,
  asked_made (words ++ (codes "--help" ∷ [])) (command_with_help_or_version_applet (words ++ (codes "--help" ∷ [])) Help) (record {
    before = words;
    word = codes "--help";
    after = [];
    whole = refl;
    asks = refl;
    option = ap can_be_option n;
    fine = λ at h. (let same : Err at ≡ Err (length words + 1) = sym h ∙ e in let is : at ≡ length words + 1 = cc in omega (arith, is));
    is = refl;
  }),
)

pub completed_words : (words : List (List ℕ)) (place : ℕ) → not (is_command_line_stuck (take (place - 1) words)) ≡ true → command_of words ≡ Err place → CanBeCommand (take (place - 1) words)
unfolding is_command_line_stuck line_stuck spelled_command
completed_words words place n c =
    elim (command_of before) as (λ r. command_of before ≡ r → not (not (is_ok r) && are_stuck_by before (applet_site 1 before)) ≡ true → CanBeCommand before) [
      | Ok command ↦ λ e n. ([], command, ap command_of (append-nil before) ∙ e)
      | Err at ↦ λ e n. by_line (line_stuck before) refl (not-true (are_stuck_by before (applet_site 1 before)) n)
    ] refl n
  where
    before : List (List ℕ)
    before = take (place - 1) words

    offends : spelled_command words ≡ Err place
    offends = (offends_unasked words place c).offends

    bounds : (1 ≤ place) × (place ≤ length words + 1)
    bounds = usage_between words place offends

    size : length (take (place - 1) words) ≡ place - 1
    size = length-take-le (place - 1) words (omega (arith, bounds.0, bounds.1))

    whole : spelled_command (before ++ drop (place - 1) words) ≡ Err place
    whole = ap spelled_command (take-append-drop (place - 1) words) ∙ offends

    -- no applet is found before the end
    no_applet : (at : ℕ) → applet_site 1 before ≡ Err at → (at < 1 + length before) ⊎ (1 + length before ≤ at) → list_any is_double_dash before ≡ false → CanBeCommand before
    no_applet at s (inl less) f =
        absurd (let same : Err at ≡ Err place = sym (ap (spelled_command_by_start (before ++ drop (place - 1) words)) (no_start_stays before (drop (place - 1) words) at (ap (start_by_applet_site before) s) (omega (arith, less)))) ∙ whole in let is : at ≡ place = cc in omega (arith, less, size, bounds.0))
    no_applet at s (inr more) f =
        let between : IsBetween 1 (length before + 2) at = subst (λ r. IsSearched 1 (length before + 2) r) s (site_searched 1 1 (length before + 2) before (omega arith) (omega arith)) in
        let is : at ≡ 1 + length before = omega (arith, between.1, more) in
        let end : 1 + length before ≡ length before + 1 = omega arith in
        asks_help before (ap (λ r. spelled_command_by_start before (start_by_applet_site before r)) s ∙ ap Err (is ∙ end))
        (first_next 1 before (s ∙ ap Err is) ∙ ap (λ b. if b then CommandAlone else OptionOrCommand) f)

    by_site : (r : Result AppletSite ℕ) → applet_site 1 before ≡ r → line_stuck_by before r ≡ true → are_stuck_by before r ≡ false → CanBeCommand before
    by_site (Ok site) s l k = absurd (false≢true (sym k ∙ l))
    by_site (Err at) s l k = no_applet at s (cases_lt at (1 + length before)) (not_both (list_any is_double_dash before) (not (list_any (are_options_of before) applets)) l k)
      where
        not_both : (a b : Bool) → b ≡ true → (a && b) ≡ false → a ≡ false
        not_both true b h k = sym h ∙ k
        not_both false b h k = refl

    by_line : (b : Bool) → line_stuck before ≡ b → are_stuck_by before (applet_site 1 before) ≡ false → CanBeCommand before
    by_line false l k =
        let done = usage_is_first words place (ap not l) offends in
        (done.0, done.1, line_is (before ++ done.0) done.1 done.2)
    by_line true l k = by_site (applet_site 1 before) refl l k

-- ---- stuck words

all_wider : (low end : ℕ) (operands : List Operand) → AllBetween low end operands → AllBetween low (end + 1) operands
all_wider low end [] h = tt
all_wider low end (o ∷ os) h = ((h.0.0, omega (arith, h.0.1)), all_wider low end os h.1)

-- no word asks after stuck words
module _ (words more : List (List ℕ)) (place : ℕ) (applet : Applet) (offends : spelled_command (words ++ more) ≡ Err place) (asked : help_or_version_option_at (words ++ more) place ≡ Some applet) where
  abbrev later : List (List ℕ)
  later = take (place - 1 - length words) more

  parts : HasAsked (words ++ more) place applet
  parts = asked_parts (words ++ more) place applet asked

  -- a word of these asks
  within : place - 1 < length words → command_of words ≡ Ok (command_with_help_or_version_applet words applet)
  within l =
      let same : help_or_version_option_at words place ≡ Some applet = sym (asked_stays words more place l) ∙ asked in
      let here : HasAsked words place applet = asked_parts words place applet same in
      let before : List (List ℕ) = take (place - 1) words in
      let longer : words ++ more ≡ before ++ (here.word ∷ (here.after ++ more)) = ap (λ ws. ws ++ more) here.whole ∙ append_assoc before (here.word ∷ here.after) more in
      asked_command_is words place applet
      (ap spelled_command here.whole ∙ same_fault before (here.after ++ more) here.after here.word place (asking here.word applet here.asks) here.option (sym (ap spelled_command longer) ∙ offends))
      same

  option : length words ≤ place - 1 → can_be_option (next_word_after_words (next_word_of_command_line words) later) ≡ true
  option l = ap can_be_option (sym (ap (next_word_after_words OptionOrCommand) (take_more (place - 1) words more l) ∙ next_append OptionOrCommand words later)) ∙ parts.option

  no_applet : (at : ℕ) → applet_site 1 words ≡ Err at → list_any is_double_dash words ≡ true → length words ≤ place - 1 → (at < 1 + length words) ⊎ (1 + length words ≤ at) → ⊥
  unfolding spelled_command
  no_applet at s e l (inl less) =
      let low = (usage_between (words ++ more) place offends).0 in
      let same : Err at ≡ Err place = sym (ap (spelled_command_by_start (words ++ more)) (no_start_stays words more at (ap (start_by_applet_site words) s) (omega (arith, less)))) ∙ offends in
      let is : at ≡ place = cc in omega (arith, less, l, low)
  no_applet at s e l (inr high) =
      let between : IsBetween 1 (length words + 2) at = subst (λ r. IsSearched 1 (length words + 2) r) s (site_searched 1 1 (length words + 2) words (omega arith) (omega arith)) in
      let is : at ≡ 1 + length words = omega (arith, between.1, high) in
      let next : next_word_of_command_line words ≡ CommandAlone = first_next 1 words (s ∙ ap Err is) ∙ ap (λ b. if b then CommandAlone else OptionOrCommand) e in
      false≢true (sym (ap (λ n. can_be_option (next_word_after_words n later)) next ∙ alone_stays later) ∙ option l)

  ended : (start : Start) → start_of_command_line words ≡ Ok start → (start.ended || have_options_ended (options_of start.applet) None (drop start.read words)) ≡ true → length words ≤ place - 1 → ⊥
  ended start s e l = false≢true (sym (ap (λ n. can_be_option (next_word_after_words n later)) (ended_next words start s e) ∙ ap can_be_option (operand_stays start.applet later)) ∙ option l)

  -- what was read of all words offends at the place
  judged : (start : Start) (at : ℕ) → start_of_command_line words ≡ Ok start → option_or (place_of_first_operand_refused_by_rule (operand_rule_if_needed_kind_flag_given start.applet (reading_of_rest_of_command_words start (words ++ more)).state.flags) (reading_of_rest_of_command_words start (words ++ more)).operands) (reading_of_rest_of_command_words start (words ++ more)).unread ≡ Some at → at ≡ place
  unfolding spelled_command
  judged start at s first =
      let same : Err at ≡ Err place = sym (ap (spelled_command_by_start (words ++ more)) (start_stays words more start s) ∙ judged_bad start.applet (reading_of_rest_of_command_words start (words ++ more)) (length (words ++ more) + 1) at first) ∙ offends in cc

  awaits : (start : Start) → start_of_command_line words ≡ Ok start → awaits_impossible_value (reading_of_rest_of_command_words start words).state.awaiting (reading_of_rest_of_command_words start words).state.values ≡ true → length words ≤ place - 1 → ⊥
  awaits start s w l = by_going (from_going start words low)
    where
      end : ℕ
      end = length words + 1

      options : List OptionSpec
      options = options_of start.applet

      reading : Reading
      reading = reading_of_rest_of_command_words start words

      known : IsPlain start (1 + length words)
      known = start_known words start s

      low : start.read ≤ length words
      low = omega (arith, known.read)

      placed : AllBetween (start.read + 1) end reading.operands
      placed = (from_placed start words low).operands

      rule : Option OperandRule
      rule = operand_rule_if_needed_kind_flag_given start.applet reading.state.flags

      near : (at : ℕ) → reading_of_rest_of_command_words start (words ++ more) ≡ words_reading_from_parts reading.state reading.operands (Some at) → at ≤ end → (p : ℕ) × (p ≡ place) × (p ≤ end)
      near at same h = (
        first.0,
        judged start first.0 s (ap (λ (r : Reading). option_or (place_of_first_operand_refused_by_rule (operand_rule_if_needed_kind_flag_given start.applet r.state.flags) r.operands) r.unread) same ∙ first.1),
        omega (arith, first.2),
      )
        where
          wide : at < end + 1
          wide = omega (arith, h)

          far : AllBetween (start.read + 1) (end + 1) reading.operands
          far = all_wider (start.read + 1) end reading.operands placed

          first : (p : ℕ) × (option_or (place_of_first_operand_refused_by_rule rule reading.operands) (Some at) ≡ Some p) × (p < end + 1)
          first = first_near (start.read + 1) (end + 1) rule reading.operands at far wide

      stopped : (at : ℕ) → reading.unread ≡ Some at → at < end → reading_of_rest_of_command_words start (words ++ more) ≡ reading → ⊥
      stopped at u h same =
          let first = first_near (start.read + 1) end rule reading.operands at placed h in
          let is : first.0 ≡ place = judged start first.0 s (ap (λ (r : Reading). option_or (place_of_first_operand_refused_by_rule (operand_rule_if_needed_kind_flag_given start.applet r.state.flags) r.operands) r.unread) same ∙ (ap (option_or (place_of_first_operand_refused_by_rule rule reading.operands)) u ∙ first.1)) in
          let bound = first.2 in
          let start_low = (usage_between (words ++ more) place offends).0 in
          omega (arith, is, bound, l, start_low)

      by_rule : (awaiting : Option ValueRule) → reading.state.awaiting ≡ awaiting → awaits_impossible_value awaiting reading.state.values ≡ true → reading.unread ≡ option_map (λ (r : ValueRule). end) awaiting → ((rest : List (List ℕ)) → reading_of_rest_of_command_words start (words ++ rest) ≡ behind reading.operands (reading_of_words_from_place options reading.state end rest)) → ⊥
      by_rule None a w u on = false≢true w
      by_rule (Some value) a w u on =
          let same : reading_of_rest_of_command_words start (words ++ more) ≡ words_reading_from_parts reading.state reading.operands (Some end) =
          on more ∙ (ap (behind reading.operands) (awaited_whole options reading.state end value more a w) ∙ ap (λ os. words_reading_from_parts reading.state os (Some end)) (append-nil reading.operands)) in
          let p = near end same (omega arith) in
          let is = p.1 in
          let bound = p.2 in
          let none : place - 1 - length words ≡ 0 = omega (arith, is, bound, l) in
          let next : next_word_of_command_line words ≡ NextValue start.applet value = next_of_start words start s ∙ awaited_after words start value low a u in
          false≢true (sym (ap (λ k. can_be_option (next_word_after_words (next_word_of_command_line words) (take k more))) none ∙ ap can_be_option next) ∙ option l)

      by_going : IsRemovedPackage options end (start.ended || have_options_ended options None (drop start.read words)) reading (λ rest. reading_of_rest_of_command_words start (words ++ rest)) → ⊥
      by_going (inl stop) = stopped stop.0 stop.1 stop.2 (stop.3 more)
      by_going (inr (inl on)) = by_rule reading.state.awaiting refl w on.unread on.goes_on
      by_going (inr (inr off)) = false≢true (sym (ap (λ o. awaits_impossible_value o reading.state.values) off.awaiting) ∙ w)

  by_start : (r : Result Start ℕ) → start_of_command_line words ≡ r → is_stuck_by words r ≡ true → length words ≤ place - 1 → ⊥
  by_start (Err at) s k l = false≢true k
  by_start (Ok start) s k l =
      let over : Bool = start.ended || have_options_ended (options_of start.applet) None (drop start.read words) in
      elim (or_cases (over && is_required_option_missing start.applet (reading_of_rest_of_command_words start words).state) (awaits_impossible_value (reading_of_rest_of_command_words start words).state.awaiting (reading_of_rest_of_command_words start words).state.values) k) as (λ _. ⊥) [
        | inl both ↦ ended start s (and_parts over (is_required_option_missing start.applet (reading_of_rest_of_command_words start words).state) both).0 l
        | inr none ↦ awaits start s none l
      ]

  by_site : (r : Result AppletSite ℕ) → applet_site 1 words ≡ r → are_stuck_by words r ≡ true → length words ≤ place - 1 → ⊥
  by_site (Err at) s k l = no_applet at s (and_parts (list_any is_double_dash words) (not (list_any (are_options_of words) applets)) k).0 l (cases_lt at (1 + length words))
  by_site (Ok site) s k l = by_start (start_of_command_line words) refl (ap (λ r. is_stuck_by words (start_by_applet_site words r)) s ∙ k) l

  none_asks : not (is_ok (command_of words)) ≡ true → are_stuck_by words (applet_site 1 words) ≡ true → (place - 1 < length words) ⊎ (length words ≤ place - 1) → ⊥
  none_asks n k (inl less) = false≢true (sym (ap (λ r. not (is_ok r)) (within less)) ∙ n)
  none_asks n k (inr more) = by_site (applet_site 1 words) refl k more

pub stuck_words : (words more : List (List ℕ)) → is_command_line_stuck words ≡ true → (place : ℕ) × (command_of (words ++ more) ≡ Err place)
unfolding is_command_line_stuck
stuck_words words more k =
    let both = and_parts (not (is_ok (command_of words))) (are_stuck_by words (applet_site 1 words)) k in
    let bad = stuck_stay words more both.1 in
    elim (help_or_version_option_at (words ++ more) bad.0) as (λ o. help_or_version_option_at (words ++ more) bad.0 ≡ o → (place : ℕ) × (command_of (words ++ more) ≡ Err place)) [
      | None ↦ λ a. (bad.0, unasked_is (words ++ more) bad.0 bad.1 a)
      | Some applet ↦ λ a. absurd (none_asks words more bad.0 applet bad.1 a both.0 both.1 (cases_lt (bad.0 - 1) (length words)))
    ] refl

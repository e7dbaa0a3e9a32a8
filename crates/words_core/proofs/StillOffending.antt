-- Where a word offends, more words behind change nothing, unless `info` can still get its kind.
use Rattle.std.proofs.Common.{Bool, Err, List, None, Ok, Option, Some, ap, arith, drop, false, inl, inr, length, not, refl, subst, sym, true, ℕ, ◌++◌, ◌+◌, ◌<◌, ◌∙◌, ◌≡◌, ◌≤◌, ◌⊎◌}
use Rattle.std.specs.Option.{option_map, option_or}
use Rattle.std.specs.Prelude.{is_some, ◌&&◌, ◌||◌}
use Rattle.std.proofs.lemmas.Bool.{true≢false}
use Rattle.std.proofs.lemmas.Option.{none-some, same_Some}
use Rattle.command_core.specs.declared.command.Applet.{Applet}
use Rattle.command_core.specs.declared.command.Applet.TheVariants.{Info}
use Rattle.command_core.specs.declared.command.Flags.{Flags}
use Rattle.command_core.specs.declared.operands.Operand.{Operand}
use Rattle.command_core.specs.declared.operands.OperandRule.{OperandRule}
use Rattle.command_core.specs.declared.values.OptionValue.{OptionValue}
use Rattle.command_core.specs.declared.values.ValueRule.{ValueRule}
use Rattle.command_core.specs.Applets.{operand_rule_if_needed_kind_flag_given}
use Rattle.command_core.specs.Flags.{has_command_kind_flag}
use Rattle.command_core.specs.Operands.{place_of_first_refused_operand}
use Rattle.words_core.specs.declared.reading.Reading.{Reading}
use Rattle.words_core.specs.declared.reading.Start.{Start}
use Rattle.words_core.specs.Grammar.{spelled_command_by_start, command_of_reading_with_end_place, spelled_command, start_of_command_line, words_as_operands_from_place, reading_of_words_from_place, reading_of_rest_of_command_words, place_of_first_operand_refused_by_rule}
use Rattle.words_core.specs.Kinds.{can_info_kind_follow, can_info_kind_follow_if_started, can_started_words_get_info_kind, is_info_applet}
use Rattle.words_core.specs.Options.{OptionSpec, options_of}
use Rattle.words_core.specs.Stuck.{have_options_ended}
use Rattle.words_core.proofs.GivenKept.{IsAwaited, IsGood, from_good}
use Rattle.words_core.proofs.GoneOn.{IsRemovedPackage, from_going}
use Rattle.words_core.proofs.KindsKept.{IsPlain, start_known}
use Rattle.words_core.proofs.MoreWords.{keeps_rule, refused_append, rule_stays}
use Rattle.words_core.proofs.OffendingWords.{judged_at, judged_bad}
use Rattle.words_core.proofs.Sites.{no_start_stays, start_stays}

-- ---- `info` with a kind, or with nothing that can follow

none_awaited : (values : List OptionValue) (awaiting : Option ValueRule) → IsAwaited Info values awaiting → awaiting ≡ None
none_awaited values None h = refl
none_awaited values (Some rule) h = absurd (none-some rule h.0)

-- no option of `info` has a value
pub info_awaits : (words : List (List ℕ)) (start : Start) → IsPlain start (1 + length words) → start.applet ≡ Info → (reading_of_rest_of_command_words start words).state.awaiting ≡ None
info_awaits words start known is =
    let good : IsGood start.applet (reading_of_rest_of_command_words start words).state = from_good start (1 + length words) words known in
    let state = (reading_of_rest_of_command_words start words).state in
    none_awaited state.values state.awaiting (subst (λ (a : Applet). IsAwaited a state.values state.awaiting) is good.awaiting)

has_its_kind : (kind unread over : Bool) → (true && not kind && not unread && not over) ≡ false → unread ≡ false → over ≡ false → kind ≡ true
has_its_kind true unread over k u e = refl
has_its_kind false true over k u e = absurd (true≢false u)
has_its_kind false false true k u e = absurd (true≢false e)
has_its_kind false false false k u e = absurd (true≢false k)

keeps_by : (applet : Applet) (flags : Flags) (unread : Option ℕ) (over : Bool) → (is_info_applet applet && not (has_command_kind_flag flags) && not (is_some unread) && not over) ≡ false → (applet ≡ Info → unread ≡ None) → over ≡ false → keeps_rule applet flags ≡ true
keeps_by Info flags unread over k u e = has_its_kind (has_command_kind_flag flags) (is_some unread) over k (ap is_some (u refl)) e
keeps_by applet flags unread over k u e = refl

-- ---- the rule of the operands that were read stays

-- no word before a place cannot be read
abbrev pub IsOpen : ℕ → Option ℕ → Type 0
IsOpen end unread = (at : ℕ) → unread ≡ Some at → end ≤ at

-- what follows adds operands
pub record IsLonger (applet : Applet) (end : ℕ) (reading longer : Reading) : Type 0 where
  pub unread : IsOpen end reading.unread
  pub new : List Operand
  pub operands : longer.operands ≡ reading.operands ++ new
  pub rule : (rule : OperandRule) → operand_rule_if_needed_kind_flag_given applet reading.state.flags ≡ Some rule → operand_rule_if_needed_kind_flag_given applet longer.state.flags ≡ Some rule

end_at : (end at : ℕ) (awaiting : Option ValueRule) → option_map (λ (rule : ValueRule). end) awaiting ≡ Some at → end ≤ at
end_at end at None h = absurd (none-some at h)
end_at end at (Some rule) h = (let same : end ≡ at = same_Some end at h in omega arith)

-- or a word cannot be read, and it changes nothing
pub longer_or_same : (words more : List (List ℕ)) (start : Start) → IsPlain start (1 + length words) → can_started_words_get_info_kind words start ≡ false
    → ((reading_of_rest_of_command_words start (words ++ more) ≡ reading_of_rest_of_command_words start words) × ((reading_of_rest_of_command_words start words).unread ≡ None → ⊥)) ⊎ IsLonger start.applet (length words + 1) (reading_of_rest_of_command_words start words) (reading_of_rest_of_command_words start (words ++ more))
longer_or_same words more start known k = by_going (from_going start words low)
  where
    end : ℕ
    end = length words + 1

    options : List OptionSpec
    options = options_of start.applet

    reading : Reading
    reading = reading_of_rest_of_command_words start words

    low : start.read ≤ length words
    low = omega (arith, known.read)

    over : Bool
    over = start.ended || have_options_ended (options_of start.applet) None (drop start.read words)

    by_going : IsRemovedPackage options end over reading (λ m. reading_of_rest_of_command_words start (words ++ m)) → ((reading_of_rest_of_command_words start (words ++ more) ≡ reading) × (reading.unread ≡ None → ⊥)) ⊎ IsLonger start.applet end reading (reading_of_rest_of_command_words start (words ++ more))
    by_going (inl stopped) = inl (stopped.3 more, λ none. none-some stopped.0 (sym none ∙ stopped.1))
    by_going (inr (inl on)) =
        let nothing : start.applet ≡ Info → reading.unread ≡ None = λ is. on.unread ∙ ap (option_map (λ (rule : ValueRule). end)) (info_awaits words start known is) in
        let keeps = keeps_by start.applet reading.state.flags reading.unread over k nothing on.over in
        inr (record {
          unread = λ at u. end_at end at reading.state.awaiting (sym on.unread ∙ u);
          new = (reading_of_words_from_place options reading.state end more).operands;
          operands = ap (λ (r : Reading). r.operands) (on.goes_on more);
          rule = λ rule r. ap (λ (x : Reading). operand_rule_if_needed_kind_flag_given start.applet x.state.flags) (on.goes_on more) ∙ rule_stays start.applet reading.state end more rule keeps r;
        })
    by_going (inr (inr off)) =
        inr (record {
          unread = λ at u. absurd (none-some at (sym off.unread ∙ u));
          new = words_as_operands_from_place end more;
          operands = ap (λ (r : Reading). r.operands) (off.goes_on more);
          rule = λ rule r. ap (λ (x : Reading). operand_rule_if_needed_kind_flag_given start.applet x.state.flags) (off.goes_on more) ∙ r;
        })

-- ---- the first that offends

abbrev pub first_of : Applet → Reading → Option ℕ
first_of applet reading = option_or (place_of_first_operand_refused_by_rule (operand_rule_if_needed_kind_flag_given applet reading.state.flags) reading.operands) reading.unread

-- an operand that offends before a place, where no word before it cannot be read
alone : (end place : ℕ) (o unread : Option ℕ) → IsOpen end unread → place < end → option_or o unread ≡ Some place → o ≡ Some place
alone end place (Some at) unread open_from l h = h
alone end place None unread open_from l h = absurd (omega (arith, open_from place h))

first_stays : (applet : Applet) (end : ℕ) (reading longer : Reading) (place : ℕ) → IsLonger applet end reading longer → place < end → first_of applet reading ≡ Some place → first_of applet longer ≡ Some place
first_stays applet end reading longer place long l h =
    by_rule (operand_rule_if_needed_kind_flag_given applet reading.state.flags) refl (alone end place (place_of_first_operand_refused_by_rule (operand_rule_if_needed_kind_flag_given applet reading.state.flags) reading.operands) reading.unread long.unread l h)
  where
    by_rule : (rule : Option OperandRule) → operand_rule_if_needed_kind_flag_given applet reading.state.flags ≡ rule → place_of_first_operand_refused_by_rule rule reading.operands ≡ Some place → first_of applet longer ≡ Some place
    by_rule None r e = absurd (none-some place e)
    by_rule (Some rule) r e =
        ap (λ o. option_or (place_of_first_operand_refused_by_rule o longer.operands) longer.unread) (long.rule rule r)
        ∙ ap (λ o. option_or o longer.unread) (ap (place_of_first_refused_operand rule 0) long.operands ∙ refused_append rule 0 place reading.operands long.new e)

-- what is said of words is so from where their applet was found
pub cannot_from : (words : List (List ℕ)) (start : Start) → can_info_kind_follow words ≡ false → start_of_command_line words ≡ Ok start → can_started_words_get_info_kind words start ≡ false
unfolding can_info_kind_follow
cannot_from words start k s = sym (ap (can_info_kind_follow_if_started words) s) ∙ k

-- a word that offends does so whatever follows
pub usage_stays : (words more : List (List ℕ)) (place : ℕ) → can_info_kind_follow words ≡ false → spelled_command words ≡ Err place → place ≤ length words → spelled_command (words ++ more) ≡ Err place
unfolding spelled_command
usage_stays words more place k c l =
    elim (start_of_command_line words) as (λ s. start_of_command_line words ≡ s → spelled_command_by_start words s ≡ Err place → spelled_command_by_start (words ++ more) (start_of_command_line (words ++ more)) ≡ Err place) [
      | Err at ↦ λ s (e : Err at ≡ Err place).
          let same : at ≡ place = cc in
          ap (spelled_command_by_start (words ++ more)) (no_start_stays words more at s (omega arith)) ∙ e
      | Ok start ↦ λ s e. ap (spelled_command_by_start (words ++ more)) (start_stays words more start s) ∙ by_start start s e
    ] refl c
  where
    by_start : (start : Start) → start_of_command_line words ≡ Ok start → command_of_reading_with_end_place (length words + 1) start.applet (reading_of_rest_of_command_words start words) ≡ Err place → command_of_reading_with_end_place (length (words ++ more) + 1) start.applet (reading_of_rest_of_command_words start (words ++ more)) ≡ Err place
    by_start start s e =
        let less : place < length words + 1 = omega arith in
        elim (judged_at start.applet (reading_of_rest_of_command_words start words) (length words + 1) place e) as (λ _. command_of_reading_with_end_place (length (words ++ more) + 1) start.applet (reading_of_rest_of_command_words start (words ++ more)) ≡ Err place) [
          | inl first ↦ judged_bad start.applet (reading_of_rest_of_command_words start (words ++ more)) (length (words ++ more) + 1) place
              (elim (longer_or_same words more start (start_known words start s) (cannot_from words start k s)) as (λ _. first_of start.applet (reading_of_rest_of_command_words start (words ++ more)) ≡ Some place) [
                | inl same ↦ ap (first_of start.applet) same.0 ∙ first
                | inr long ↦ first_stays start.applet (length words + 1) (reading_of_rest_of_command_words start words) (reading_of_rest_of_command_words start (words ++ more)) place long less first
              ])
          | inr last ↦ absurd (omega (arith, last.1))
        ]

-- Words of `info` that offend without a kind, and are completed by one: what follows them shows that it is `-W`.
use Rattle.std.proofs.Common.{Bool, Err, List, None, Ok, Option, Some, [], ap, append-nil, arith, codes, drop, false, inl, inr, length, not, refl, sym, true, ℕ, ◌++◌, ◌+◌, ◌∙◌, ◌∷◌, ◌≡◌, ◌≤◌, if◌then◌else◌}
use Rattle.std.specs.Option.{option_or}
use Rattle.std.specs.Prelude.{is_some, nat_lt, ◌&&◌, ◌||◌}
use Rattle.std.proofs.lemmas.Bool.{false≢true, le-ltb}
use Rattle.std.proofs.lemmas.Option.{none-some, same_Some}
use Rattle.base_core.proofs.Options.{is_none}
use Rattle.command_core.specs.declared.command.Applet.{Applet}
use Rattle.command_core.specs.declared.command.Applet.TheVariants.{Info}
use Rattle.command_core.specs.declared.command.Flag.TheVariants.{WhoOwns}
use Rattle.command_core.specs.declared.command.Flags.{Flags}
use Rattle.command_core.specs.declared.operands.Operand.{Operand}
use Rattle.command_core.specs.declared.operands.OperandKind.{OperandKind}
use Rattle.command_core.specs.declared.operands.OperandKind.TheVariants.{PackageName, Path}
use Rattle.command_core.specs.declared.operands.OperandRule.{OperandRule}
use Rattle.command_core.specs.declared.values.OptionValue.{OptionValue}
use Rattle.command_core.specs.Applets.{info_operand_rule, operand_rule_if_needed_kind_flag_given}
use Rattle.command_core.specs.Flags.{has_command_kind_flag, with_flag}
use Rattle.command_core.specs.Operands.{at_least, exactly, place_of_first_refused_operand, is_operand_of_kind}
use Rattle.words_core.specs.declared.reading.Reading.{Reading}
use Rattle.words_core.specs.declared.reading.Start.{Start}
use Rattle.words_core.specs.Grammar.{spelled_command_by_start, spelled_command, command_from_end_place_and_reading, value_in_long_or_short_option_word, start_of_command_line, option_word_without_value, reading_of_words_from_place, reading_of_rest_of_command_words, words_reading_from_parts, place_of_first_operand_refused_by_rule, option_state_from_parts, command_of_reading_with_end_place}
use Rattle.words_core.specs.Kinds.{can_info_kind_follow, can_info_kind_follow_if_started, can_started_words_get_info_kind, is_info_applet}
use Rattle.words_core.specs.Options.{common_options, options_of}
use Rattle.words_core.specs.Stuck.{have_options_ended}
use Rattle.words_core.proofs.GoneOn.{IsRemovedPackage, from_going}
use Rattle.words_core.proofs.KindsKept.{IsPlain, start_known}
use Rattle.words_core.proofs.MoreWords.{refused_append}
use Rattle.words_core.proofs.OffendingWords.{AllBetween, IsJudgedAt, from_placed, judged_at, refused_between}
use Rattle.words_core.proofs.OneMore.{behind}
use Rattle.words_core.proofs.Sites.{start_stays}
use Rattle.words_core.proofs.StillOffending.{info_awaits}
use Rattle.words_core.proofs.WordsCompleted.{CanBeCompleted, IsJudgedGood, judged_good}

-- ---- what it is to be able to get a kind

info_is : (applet : Applet) → is_info_applet applet ≡ true → applet ≡ Info
info_is Info h = refl
info_is applet h = absurd (false≢true h)

four : (info kind unread over : Bool) → (info && not kind && not unread && not over) ≡ true → (info ≡ true) × (kind ≡ false) × (unread ≡ false) × (over ≡ false)
four true false false false h = (refl, refl, refl, refl)
four false kind unread over h = absurd (false≢true h)
four true true unread over h = absurd (false≢true h)
four true false true over h = absurd (false≢true h)
four true false false true h = absurd (false≢true h)

-- ---- rules of the operands of `info`

-- how many there have to be says nothing of each
least_aside : (a b before : ℕ) (kind : OperandKind) (operands : List Operand) → place_of_first_refused_operand (at_least a kind) before operands ≡ place_of_first_refused_operand (at_least b kind) before operands
least_aside a b before kind [] = refl
least_aside a b before kind (o ∷ operands) =
    elim (is_operand_of_kind kind o.text) as (λ t. (if true && t then place_of_first_refused_operand (at_least a kind) (before + 1) operands else Some o.place) ≡ (if true && t then place_of_first_refused_operand (at_least b kind) (before + 1) operands else Some o.place)) [
      | true ↦ least_aside a b (before + 1) kind operands
      | false ↦ refl
    ]

-- without a kind they are packages
packages_unless : (installed contents depends owns : Bool) → (installed || (contents || (depends || (owns || false)))) ≡ false → (if owns then exactly 1 Path else if installed || contents || depends then at_least 1 PackageName else at_least 0 PackageName) ≡ at_least 0 PackageName
packages_unless false false false false h = refl
packages_unless true contents depends owns h = absurd (false≢true (sym h))
packages_unless false true depends owns h = absurd (false≢true (sym h))
packages_unless false false true owns h = absurd (false≢true (sym h))
packages_unless false false false true h = absurd (false≢true (sym h))

-- operands that are refused without a kind, and not under flags, are a path
path_of : (flags : Flags) (operands : List Operand) (at : ℕ) → place_of_first_refused_operand (at_least 0 PackageName) 0 operands ≡ Some at → place_of_first_refused_operand (info_operand_rule flags) 0 operands ≡ None → place_of_first_refused_operand (exactly 1 Path) 0 operands ≡ None
path_of flags operands at bad good = by_flags flags.who_owns (flags.installed || flags.contents || flags.depends) good
  where
    refused : (least : ℕ) → place_of_first_refused_operand (at_least least PackageName) 0 operands ≡ None → ⊥
    refused least h = none-some at (sym h ∙ (least_aside least 0 0 PackageName operands ∙ bad))

    by_flags : (owns packages : Bool) → place_of_first_refused_operand (if owns then exactly 1 Path else if packages then at_least 1 PackageName else at_least 0 PackageName) 0 operands ≡ None → place_of_first_refused_operand (exactly 1 Path) 0 operands ≡ None
    by_flags true packages h = h
    by_flags false true h = absurd (refused 1 h)
    by_flags false false h = absurd (refused 0 h)

-- ---- `-W` behind the words

owner_read : (flags : Flags) (values : List OptionValue) (at : ℕ) → has_command_kind_flag flags ≡ false → reading_of_words_from_place (options_of Info) (option_state_from_parts flags values None) at (codes "-W" ∷ []) ≡ words_reading_from_parts (option_state_from_parts (with_flag WhoOwns flags) values None) [] None
unfolding common_options options_of option_word_without_value value_in_long_or_short_option_word
owner_read flags values at k = rw k refl

enough : (operands : List Operand) (at : ℕ) → place_of_first_refused_operand (at_least 0 PackageName) 0 operands ≡ Some at → nat_lt (length (operands ++ [])) 1 ≡ false
enough [] at h = absurd (none-some at h)
enough (o ∷ operands) at h = le-ltb (length (o ∷ (operands ++ []))) 1 (omega arith)

owner_good : (flags : Flags) (values : List OptionValue) (operands : List Operand) (at : ℕ) → place_of_first_refused_operand (at_least 0 PackageName) 0 operands ≡ Some at → place_of_first_refused_operand (exactly 1 Path) 0 operands ≡ None
    → IsJudgedGood Info (behind operands (words_reading_from_parts (option_state_from_parts (with_flag WhoOwns flags) values None) [] None))
owner_good flags values operands at bad good end =
    judged_good Info (behind operands (words_reading_from_parts (option_state_from_parts (with_flag WhoOwns flags) values None) [] None)) end
    (ap (place_of_first_refused_operand (exactly 1 Path) 0) (append-nil operands) ∙ good) refl (rw (enough operands at bad) refl)

-- ---- the words before an operand that offends

-- none of the operands before a place offends where the first that does is there
none_before : (rule : OperandRule) (low end last place : ℕ) (operands new : List Operand) (unread : Option ℕ) → AllBetween low end operands → end ≤ place → end ≤ last
    → IsJudgedAt last (option_or (place_of_first_refused_operand rule 0 (operands ++ new)) unread) place → place_of_first_refused_operand rule 0 operands ≡ None
none_before rule low end last place operands new unread placed far behind judged =
    elim (place_of_first_refused_operand rule 0 operands) as (λ o. place_of_first_refused_operand rule 0 operands ≡ o → o ≡ None) [
      | None ↦ λ h. refl
      | Some at ↦ λ h. absurd (
          let is = refused_between rule 0 low end at operands placed h in
          let all : option_or (place_of_first_refused_operand rule 0 (operands ++ new)) unread ≡ Some at = ap (λ o. option_or o unread) (refused_append rule 0 at operands new h) in
          elim judged as (λ _. ⊥) [
            | inl there ↦ (let same : at ≡ place = same_Some at place (sym all ∙ there) in omega (arith, is.1))
            | inr none ↦ none-some at (sym none.0 ∙ all)
          ]
          )
    ] refl

module _ (words rest : List (List ℕ)) (start : Start) (at place : ℕ) (known : IsPlain start (1 + length words)) (can : can_started_words_get_info_kind words start ≡ true) (found : start_of_command_line words ≡ Ok start)
    (bad : command_of_reading_with_end_place (length words + 1) start.applet (reading_of_rest_of_command_words start words) ≡ Err at) (before : at ≤ length words)
    (later : command_of_reading_with_end_place (length (words ++ rest) + 1) start.applet (reading_of_rest_of_command_words start (words ++ rest)) ≡ Err place) (far : length words + 1 ≤ place) (all : length words ≤ length (words ++ rest)) where
  abbrev end : ℕ
  end = length words + 1

  abbrev reading : Reading
  reading = reading_of_rest_of_command_words start words

  abbrev over : Bool
  over = start.ended || have_options_ended (options_of start.applet) None (drop start.read words)

  parts : (is_info_applet start.applet ≡ true) × (has_command_kind_flag reading.state.flags ≡ false) × (is_some reading.unread ≡ false) × (over ≡ false)
  parts = four (is_info_applet start.applet) (has_command_kind_flag reading.state.flags) (is_some reading.unread) over can

  is : start.applet ≡ Info
  is = info_is start.applet parts.0

  unread : reading.unread ≡ None
  unread = is_none reading.unread parts.2

  low : start.read ≤ length words
  low = omega (arith, known.read)

  rule_is : info_operand_rule reading.state.flags ≡ at_least 0 PackageName
  rule_is = packages_unless reading.state.flags.installed reading.state.flags.contents reading.state.flags.depends reading.state.flags.who_owns (kinds_of reading.state.flags parts.1)
    where
      front : (a b c d t k : Bool) → (a || (b || (c || (d || (t || (k || false)))))) ≡ false → (a || (b || (c || (d || false)))) ≡ false
      front false false false false t k h = refl
      front true b c d t k h = absurd (false≢true (sym h))
      front false true c d t k h = absurd (false≢true (sym h))
      front false false true d t k h = absurd (false≢true (sym h))
      front false false false true t k h = absurd (false≢true (sym h))

      kinds_of : (flags : Flags) → has_command_kind_flag flags ≡ false → (flags.installed || (flags.contents || (flags.depends || (flags.who_owns || false)))) ≡ false
      kinds_of flags h = front flags.installed flags.contents flags.depends flags.who_owns flags.test flags.check h

  refused : place_of_first_refused_operand (at_least 0 PackageName) 0 reading.operands ≡ Some at
  refused =
      let judged : IsJudgedAt end (option_or (place_of_first_operand_refused_by_rule (operand_rule_if_needed_kind_flag_given Info reading.state.flags) reading.operands) reading.unread) at = judged_at Info reading end at (ap (λ (a : Applet). command_of_reading_with_end_place end a reading) (sym is) ∙ bad) in
      elim judged as (λ _. place_of_first_refused_operand (at_least 0 PackageName) 0 reading.operands ≡ Some at) [
        | inl first ↦ by_first (place_of_first_refused_operand (at_least 0 PackageName) 0 reading.operands) (ap (λ o. option_or (place_of_first_refused_operand (at_least 0 PackageName) 0 reading.operands) o) (sym unread) ∙ (ap (λ (r : OperandRule). option_or (place_of_first_refused_operand r 0 reading.operands) reading.unread) (sym rule_is) ∙ first))
        | inr none ↦ absurd (omega (arith, none.1))
      ]
    where
      by_first : (o : Option ℕ) → option_or o None ≡ Some at → o ≡ Some at
      by_first None h = absurd (none-some at h)
      by_first (Some x) h = h

  module _ (goes_on : (more : List (List ℕ)) → reading_of_rest_of_command_words start (words ++ more) ≡ behind reading.operands (reading_of_words_from_place (options_of start.applet) reading.state end more)) where
    abbrev longer : Reading
    longer = behind reading.operands (reading_of_words_from_place (options_of start.applet) reading.state end rest)

    path : place_of_first_refused_operand (exactly 1 Path) 0 reading.operands ≡ None
    path =
        let last : ℕ = length (words ++ rest) + 1 in
        let judged : IsJudgedAt last (option_or (place_of_first_operand_refused_by_rule (operand_rule_if_needed_kind_flag_given Info longer.state.flags) longer.operands) longer.unread) place = judged_at Info longer last place (ap (λ (a : Applet). command_of_reading_with_end_place last a longer) (sym is) ∙ (ap (command_of_reading_with_end_place last start.applet) (sym (goes_on rest)) ∙ later)) in
        path_of longer.state.flags reading.operands at refused
        (none_before (info_operand_rule longer.state.flags) (start.read + 1) end last place reading.operands (reading_of_words_from_place (options_of start.applet) reading.state end rest).operands longer.unread (from_placed start words low).operands far (omega (arith, all)) judged)

    owner : reading_of_rest_of_command_words start (words ++ (codes "-W" ∷ [])) ≡ behind reading.operands (words_reading_from_parts (option_state_from_parts (with_flag WhoOwns reading.state.flags) reading.state.values None) [] None)
    owner =
        goes_on (codes "-W" ∷ [])
        ∙ (ap (λ (a : Applet). behind reading.operands (reading_of_words_from_place (options_of a) reading.state end (codes "-W" ∷ []))) is
        ∙ (ap (λ o. behind reading.operands (reading_of_words_from_place (options_of Info) (option_state_from_parts reading.state.flags reading.state.values o) end (codes "-W" ∷ []))) (info_awaits words start known is)
        ∙ ap (behind reading.operands) (owner_read reading.state.flags reading.state.values end parts.1)))

    completed_on : CanBeCompleted words
    unfolding spelled_command
    completed_on =
        let last : ℕ = length (words ++ (codes "-W" ∷ [])) + 1 in
        let read : Reading = behind reading.operands (words_reading_from_parts (option_state_from_parts (with_flag WhoOwns reading.state.flags) reading.state.values None) [] None) in (
          codes "-W" ∷ [],
          command_from_end_place_and_reading last Info read,
          ap (spelled_command_by_start (words ++ (codes "-W" ∷ []))) (start_stays words (codes "-W" ∷ []) start found)
              ∙ (ap (command_of_reading_with_end_place last start.applet) owner
              ∙ (ap (λ (a : Applet). command_of_reading_with_end_place last a read) is
              ∙ owner_good reading.state.flags reading.state.values reading.operands at refused path last)),
        )

  by_going : IsRemovedPackage (options_of start.applet) end over reading (λ more. reading_of_rest_of_command_words start (words ++ more)) → CanBeCompleted words
  by_going (inl stopped) = absurd (none-some stopped.0 (sym unread ∙ stopped.1))
  by_going (inr (inl on)) = completed_on on.goes_on
  by_going (inr (inr off)) = absurd (false≢true (sym parts.3 ∙ off.over))

  kind_completes_from : CanBeCompleted words
  kind_completes_from = by_going (from_going start words low)

-- where more words behind offend at a later place, a kind completes the words
pub kind_completes : (words rest : List (List ℕ)) (at place : ℕ) → can_info_kind_follow words ≡ true → spelled_command words ≡ Err at → at ≤ length words → spelled_command (words ++ rest) ≡ Err place → length words + 1 ≤ place → length words ≤ length (words ++ rest) → CanBeCompleted words
unfolding spelled_command can_info_kind_follow
kind_completes words rest at place can bad before later far all =
    elim (start_of_command_line words) as (λ s. start_of_command_line words ≡ s → can_info_kind_follow_if_started words s ≡ true → spelled_command_by_start words s ≡ Err at → CanBeCompleted words) [
      | Err first ↦ λ s none bad. absurd (false≢true none)
      | Ok start ↦ λ s can bad. kind_completes_from words rest start at place (start_known words start s) can s bad before (sym (ap (spelled_command_by_start (words ++ rest)) (start_stays words rest start s)) ∙ later) far all
    ] refl can bad

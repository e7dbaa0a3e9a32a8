-- Lines in which a word asks: what stands before it alone says whether it is answered.
use Rattle.std.proofs.Common.{Bool, Err, List, None, Ok, Option, Some, [], ap, append-nil, arith, drop, false, inl, inr, length, length-drop, refl, suc, sym, take, true, zero, ℕ, ◌++◌, ◌+◌, ◌-◌, ◌<◌, ◌∙◌, ◌∷◌, ◌≡◌, ◌≤◌, ◌⊎◌, if◌then◌else◌}
use Rattle.std.specs.List.{slice_get}
use Rattle.std.specs.Option.{option_map, option_or}
use Rattle.std.specs.Prelude.{option_and_then, ◌||◌}
use Rattle.std.proofs.lemmas.Bool.{cases_lt, false≢true}
use Rattle.std.proofs.lemmas.List.{take-append-drop}
use Rattle.std.proofs.lemmas.Option.{none-some}
use Rattle.command_core.specs.declared.command.Applet.{Applet}
use Rattle.command_core.specs.declared.operands.Operand.{Operand}
use Rattle.command_core.specs.declared.operands.OperandRule.{OperandRule}
use Rattle.command_core.specs.declared.values.ValueRule.{ValueRule}
use Rattle.command_core.specs.Applets.{operand_rule_if_needed_kind_flag_given}
use Rattle.command_core.specs.Operands.{place_of_first_refused_operand}
use Rattle.words_core.specs.declared.next.NextWord.TheVariants.{OptionOrOperand, Operand as OperandAlone, Value as NextValue}
use Rattle.words_core.specs.declared.reading.Reading.{Reading}
use Rattle.words_core.specs.declared.reading.Start.{Start}
use Rattle.words_core.specs.Grammar.{help_or_version_option_at, spelled_command_by_start, option_state_at_start, spelled_command, start_of_command_line, next_word_of_command_line, next_word_after_words, words_as_operands_from_place, reading_of_words_from_place, reading_of_rest_of_command_words, words_reading_from_parts, place_of_first_operand_refused_by_rule, start_by_applet_site, can_be_option}
use Rattle.words_core.specs.Options.{OptionSpec, applet_of_help_or_version_option, options_of}
use Rattle.words_core.specs.Stuck.{have_options_ended}
use Rattle.words_core.proofs.Asked.{HasNoMeaning, asks_first, asks_now, awaited_next, ended_alone, found_next, next_at, next_behind, operand_stays}
use Rattle.words_core.proofs.GoneOn.{from_going, IsRemovedPackage}
use Rattle.words_core.proofs.KindsKept.{IsPlain, start_known, start_parts}
use Rattle.words_core.proofs.OffendingWords.{AllBetween, IsJudgedAt, from_placed, judged_at, judged_bad, refused_between, usage_between}
use Rattle.words_core.proofs.OneMore.{behind, left_at}
use Rattle.words_core.proofs.Sites.{foreign_between, no_start, no_start_stays, start_stays}

-- ---- what can follow the words before, by their start

pub next_of_start : (words : List (List ℕ)) (start : Start) → start_of_command_line words ≡ Ok start → next_word_of_command_line words ≡ next_word_after_words (if start.ended then OperandAlone start.applet else OptionOrOperand start.applet) (drop start.read words)
next_of_start words start s =
    let parts = start_parts words start s in
    let found = found_next 1 words parts.site parts.found in
    let read : suc found.count ≡ parts.site.read = omega (arith, found.read) in
    next_behind 1 words parts.site found
    ∙ (ap (λ n. next_word_after_words (next_at parts.site) (drop n words)) read
    ∙ ap (λ (x : Start). next_word_after_words (if x.ended then OperandAlone x.applet else OptionOrOperand x.applet) (drop x.read words)) parts.same)

-- where options have ended, none can follow
pub ended_next : (words : List (List ℕ)) (start : Start) → start_of_command_line words ≡ Ok start → (start.ended || have_options_ended (options_of start.applet) None (drop start.read words)) ≡ true → next_word_of_command_line words ≡ OperandAlone start.applet
ended_next words start s h =
    next_of_start words start s
    ∙ elim start.ended as (λ b. (b || have_options_ended (options_of start.applet) None (drop start.read words)) ≡ true → next_word_after_words (if b then OperandAlone start.applet else OptionOrOperand start.applet) (drop start.read words) ≡ OperandAlone start.applet) [
      | true ↦ λ h. operand_stays start.applet (drop start.read words)
      | false ↦ λ h. ended_alone start.applet None (drop start.read words) h
    ] h

-- where an option can follow, options have not ended
pub not_ended : (words : List (List ℕ)) (start : Start) → start_of_command_line words ≡ Ok start → can_be_option (next_word_of_command_line words) ≡ true → (start.ended || have_options_ended (options_of start.applet) None (drop start.read words)) ≡ false
not_ended words start s t =
    elim (start.ended || have_options_ended (options_of start.applet) None (drop start.read words)) as (λ b. (start.ended || have_options_ended (options_of start.applet) None (drop start.read words)) ≡ b → b ≡ false) [
      | true ↦ λ e. absurd (false≢true (sym (ap can_be_option (ended_next words start s e)) ∙ t))
      | false ↦ λ e. refl
    ] refl

-- where a value is awaited behind the words, no option can follow
pub awaited_after : (words : List (List ℕ)) (start : Start) (rule : ValueRule) → start.read ≤ length words → (reading_of_rest_of_command_words start words).state.awaiting ≡ Some rule → (reading_of_rest_of_command_words start words).unread ≡ Some (length words + 1) → next_word_after_words (if start.ended then OperandAlone start.applet else OptionOrOperand start.applet) (drop start.read words) ≡ NextValue start.applet rule
unfolding reading_of_rest_of_command_words
awaited_after words start rule l a u =
    let left = drop start.read words in
    let ends : length words + 1 ≡ start.read + 1 + length (drop start.read words) = omega (arith, length-drop start.read words) in
    elim start.ended as (λ b. (if b then words_reading_from_parts (option_state_at_start start.flags) (words_as_operands_from_place (start.read + 1) left) None else reading_of_words_from_place (options_of start.applet) (option_state_at_start start.flags) (start.read + 1) left).state.awaiting ≡ Some rule → (if b then words_reading_from_parts (option_state_at_start start.flags) (words_as_operands_from_place (start.read + 1) left) None else reading_of_words_from_place (options_of start.applet) (option_state_at_start start.flags) (start.read + 1) left).unread ≡ Some (length words + 1) → next_word_after_words (if b then OperandAlone start.applet else OptionOrOperand start.applet) (drop start.read words) ≡ NextValue start.applet rule) [
      | true ↦ λ a u. absurd (none-some (length words + 1) u)
      | false ↦ λ a u. awaited_next start.applet (option_state_at_start start.flags) (start.read + 1) left rule a (u ∙ ap Some ends)
    ] a u

-- the first that offends in what was read, and before the end of the words
abbrev pub IsBad : ℕ → Applet → Reading → Type 0
IsBad end applet reading = (at : ℕ) × (option_or (place_of_first_operand_refused_by_rule (operand_rule_if_needed_kind_flag_given applet reading.state.flags) reading.operands) reading.unread ≡ Some at) × (at < end)

-- nothing offends in what was read
pub record IsFree (applet : Applet) (reading : Reading) : Type 0 where
  pub operands : place_of_first_operand_refused_by_rule (operand_rule_if_needed_kind_flag_given applet reading.state.flags) reading.operands ≡ None
  pub unread : reading.unread ≡ None

-- what is read of the words before a word that asks, with it: the same offends, or it does
abbrev pub IsAskedIn : ℕ → Applet → Reading → Reading → Type 0
IsAskedIn end applet reading longer =
    (IsBad end applet reading × (longer ≡ reading))
    ⊎ ((reading.unread ≡ None) × (longer ≡ words_reading_from_parts reading.state reading.operands (Some end)))

-- the first that offends, where a word cannot be read
pub first_near : (low end : ℕ) (rule : Option OperandRule) (operands : List Operand) (at : ℕ) → AllBetween low end operands → at < end → (p : ℕ) × (option_or (place_of_first_operand_refused_by_rule rule operands) (Some at) ≡ Some p) × (p < end)
first_near low end None operands at p l = (at, refl, l)
first_near low end (Some rule) operands at p l =
    elim (place_of_first_refused_operand rule 0 operands) as (λ o. place_of_first_refused_operand rule 0 operands ≡ o → (q : ℕ) × (option_or o (Some at) ≡ Some q) × (q < end)) [
      | None ↦ λ f. (at, refl, l)
      | Some q ↦ λ f. (q, refl, (refused_between rule 0 low end q operands p f).1)
    ] refl

asked_in : (words after : List (List ℕ)) (start : Start) (word : List ℕ) → HasNoMeaning word → start_of_command_line words ≡ Ok start → can_be_option (next_word_of_command_line words) ≡ true → IsAskedIn (length words + 1) start.applet (reading_of_rest_of_command_words start words) (reading_of_rest_of_command_words start (words ++ (word ∷ after)))
asked_in words after start word m s t = by_going (from_going start words low)
  where
    end : ℕ
    end = length words + 1

    options : List OptionSpec
    options = options_of start.applet

    reading : Reading
    reading = reading_of_rest_of_command_words start words

    ended : Bool
    ended = start.ended || have_options_ended options None (drop start.read words)

    known : IsPlain start (1 + length words)
    known = start_known words start s

    low : start.read ≤ length words
    low = omega (arith, known.read)

    placed : AllBetween (start.read + 1) end reading.operands
    placed = (from_placed start words low).operands

    by_awaiting : (awaiting : Option ValueRule) → reading.state.awaiting ≡ awaiting → reading.unread ≡ option_map (λ (rule : ValueRule). end) awaiting → ((more : List (List ℕ)) → reading_of_rest_of_command_words start (words ++ more) ≡ behind reading.operands (reading_of_words_from_place options reading.state end more)) → IsAskedIn end start.applet reading (reading_of_rest_of_command_words start (words ++ (word ∷ after)))
    by_awaiting None a u on = inr (
      u,
      on (word ∷ after)
          ∙ (ap (behind reading.operands) (asks_now start.applet reading.state end word after m a)
          ∙ ap (λ os. words_reading_from_parts reading.state os (Some end)) (append-nil reading.operands)),
    )
    by_awaiting (Some rule) a u on = absurd (false≢true (sym (ap can_be_option (next_of_start words start s ∙ awaited_after words start rule low a u)) ∙ t))

    by_going : IsRemovedPackage options end ended reading (λ more. reading_of_rest_of_command_words start (words ++ more)) → IsAskedIn end start.applet reading (reading_of_rest_of_command_words start (words ++ (word ∷ after)))
    by_going (inl stopped) =
        let bad = first_near (start.read + 1) end (operand_rule_if_needed_kind_flag_given start.applet reading.state.flags) reading.operands stopped.0 placed stopped.2 in
        inl ((bad.0, ap (option_or (place_of_first_operand_refused_by_rule (operand_rule_if_needed_kind_flag_given start.applet reading.state.flags) reading.operands)) stopped.1 ∙ bad.1, bad.2), stopped.3 (word ∷ after))
    by_going (inr (inl on)) = by_awaiting reading.state.awaiting refl on.unread on.goes_on
    by_going (inr (inr off)) = absurd (false≢true (sym (not_ended words start s t) ∙ off.over))

-- ---- the line, by the words before the word that asks

-- a word of these offends
abbrev pub Offends : List (List ℕ) → Type 0
Offends words = (place : ℕ) × (spelled_command words ≡ Err place) × (place ≤ length words)

-- none of these words offends
abbrev pub AreFine : List (List ℕ) → Type 0
AreFine words = (place : ℕ) → spelled_command words ≡ Err place → length words < place

abbrev pub IsAskedAfter : List (List ℕ) → List (List ℕ) → Type 0
IsAskedAfter before all =
    ((bad : Offends before) × (spelled_command all ≡ Err bad.0))
    ⊎ (AreFine before × (spelled_command all ≡ Err (length before + 1)))

pub asked_after : (before after : List (List ℕ)) (word : List ℕ) → HasNoMeaning word → can_be_option (next_word_of_command_line before) ≡ true → IsAskedAfter before (before ++ (word ∷ after))
unfolding spelled_command
asked_after before after word m t =
    elim (start_of_command_line before) as (λ s. start_of_command_line before ≡ s → IsAskedAfter before (before ++ (word ∷ after))) [
      | Err at ↦ λ s. no_applet at s (cases_lt at (length before + 1))
      | Ok start ↦ λ s. by_reading start s (asked_in before after start word m s t)
    ] refl
  where
    all : List (List ℕ)
    all = before ++ (word ∷ after)

    fails : (at : ℕ) → start_of_command_line before ≡ Err at → spelled_command before ≡ Err at
    fails at s = ap (spelled_command_by_start before) s

    no_applet : (at : ℕ) → start_of_command_line before ≡ Err at → (at < length before + 1) ⊎ (length before + 1 ≤ at) → IsAskedAfter before all
    no_applet at s (inl less) =
        let low : at ≤ length before = omega (arith, less) in
        inl ((at, fails at s, low), ap (spelled_command_by_start all) (no_start_stays before (word ∷ after) at s low))
    no_applet at s (inr more) =
        let between = usage_between before at (fails at s) in
        let is : at ≡ 1 + length before = omega (arith, between.1, more) in
        elim (no_start before at s) as (λ _. IsAskedAfter before all) [
          | inl none ↦ inr (
            λ place e. (let same : Err at ≡ Err place = sym (fails at s) ∙ e in let here : at ≡ place = cc in omega (arith, is)),
            ap (λ r. spelled_command_by_start all (start_by_applet_site all r)) (asks_first 1 before after word m t (none ∙ ap Err is)) ∙ (let same : 1 + length before ≡ length before + 1 = omega arith in ap Err same),
          )
          | inr f ↦ absurd (let far = foreign_between before at f in omega (arith, far.1, more))
        ]

    refused_near : (rule : Option OperandRule) (low end at : ℕ) (operands : List Operand) → AllBetween low end operands → place_of_first_operand_refused_by_rule rule operands ≡ Some at → at < end
    refused_near None low end at operands p e = absurd (none-some at e)
    refused_near (Some rule) low end at operands p e = (refused_between rule 0 low end at operands p e).1

    by_operands : (start : Start) → start_of_command_line before ≡ Ok start → (reading_of_rest_of_command_words start before).unread ≡ None → reading_of_rest_of_command_words start all ≡ words_reading_from_parts (reading_of_rest_of_command_words start before).state (reading_of_rest_of_command_words start before).operands (Some (length before + 1)) → (o : Option ℕ) → place_of_first_operand_refused_by_rule (operand_rule_if_needed_kind_flag_given start.applet (reading_of_rest_of_command_words start before).state.flags) (reading_of_rest_of_command_words start before).operands ≡ o → IsAskedAfter before all
    by_operands start s u l None r =
        let known : IsPlain start (1 + length before) = start_known before start s in
        let longer : option_or (place_of_first_operand_refused_by_rule (operand_rule_if_needed_kind_flag_given start.applet (reading_of_rest_of_command_words start all).state.flags) (reading_of_rest_of_command_words start all).operands) (reading_of_rest_of_command_words start all).unread ≡ Some (length before + 1) =
        ap (λ (x : Reading). option_or (place_of_first_operand_refused_by_rule (operand_rule_if_needed_kind_flag_given start.applet x.state.flags) x.operands) x.unread) l ∙ ap (λ o. option_or o (Some (length before + 1))) r in
        inr (
          λ place e. far place (judged_at start.applet (reading_of_rest_of_command_words start before) (length before + 1) place (sym (ap (spelled_command_by_start before) s) ∙ e)),
          ap (spelled_command_by_start all) (start_stays before (word ∷ after) start s) ∙ judged_bad start.applet (reading_of_rest_of_command_words start all) (length all + 1) (length before + 1) longer,
        )
      where
        nothing : option_or (place_of_first_operand_refused_by_rule (operand_rule_if_needed_kind_flag_given start.applet (reading_of_rest_of_command_words start before).state.flags) (reading_of_rest_of_command_words start before).operands) (reading_of_rest_of_command_words start before).unread ≡ None
        nothing = ap (λ o. option_or o (reading_of_rest_of_command_words start before).unread) r ∙ u

        far : (place : ℕ) → IsJudgedAt (length before + 1) (option_or (place_of_first_operand_refused_by_rule (operand_rule_if_needed_kind_flag_given start.applet (reading_of_rest_of_command_words start before).state.flags) (reading_of_rest_of_command_words start before).operands) (reading_of_rest_of_command_words start before).unread) place → length before < place
        far place (inl here) = absurd (none-some place (sym nothing ∙ here))
        far place (inr end) = omega (arith, end.1)
    by_operands start s u l (Some at) r =
        let known : IsPlain start (1 + length before) = start_known before start s in
        let placed : AllBetween (start.read + 1) (length before + 1) (reading_of_rest_of_command_words start before).operands = (from_placed start before (omega (arith, known.read))).operands in
        let near : at < length before + 1 = refused_near (operand_rule_if_needed_kind_flag_given start.applet (reading_of_rest_of_command_words start before).state.flags) (start.read + 1) (length before + 1) at (reading_of_rest_of_command_words start before).operands placed r in
        let longer : option_or (place_of_first_operand_refused_by_rule (operand_rule_if_needed_kind_flag_given start.applet (reading_of_rest_of_command_words start all).state.flags) (reading_of_rest_of_command_words start all).operands) (reading_of_rest_of_command_words start all).unread ≡ Some at =
        ap (λ (x : Reading). option_or (place_of_first_operand_refused_by_rule (operand_rule_if_needed_kind_flag_given start.applet x.state.flags) x.operands) x.unread) l ∙ ap (λ o. option_or o (Some (length before + 1))) r in
        inl (
          (at, ap (spelled_command_by_start before) s ∙ judged_bad start.applet (reading_of_rest_of_command_words start before) (length before + 1) at (ap (λ o. option_or o (reading_of_rest_of_command_words start before).unread) r), omega (arith, near)),
          ap (spelled_command_by_start all) (start_stays before (word ∷ after) start s) ∙ judged_bad start.applet (reading_of_rest_of_command_words start all) (length all + 1) at longer,
        )

    by_reading : (start : Start) → start_of_command_line before ≡ Ok start → IsAskedIn (length before + 1) start.applet (reading_of_rest_of_command_words start before) (reading_of_rest_of_command_words start all) → IsAskedAfter before all
    by_reading start s (inl same) =
        let bad = same.0 in
        let longer : option_or (place_of_first_operand_refused_by_rule (operand_rule_if_needed_kind_flag_given start.applet (reading_of_rest_of_command_words start all).state.flags) (reading_of_rest_of_command_words start all).operands) (reading_of_rest_of_command_words start all).unread ≡ Some bad.0 =
        ap (λ (r : Reading). option_or (place_of_first_operand_refused_by_rule (operand_rule_if_needed_kind_flag_given start.applet r.state.flags) r.operands) r.unread) same.1 ∙ bad.1 in
        inl (
          (bad.0, ap (spelled_command_by_start before) s ∙ judged_bad start.applet (reading_of_rest_of_command_words start before) (length before + 1) bad.0 bad.1, omega (arith, bad.2)),
          ap (spelled_command_by_start all) (start_stays before (word ∷ after) start s) ∙ judged_bad start.applet (reading_of_rest_of_command_words start all) (length all + 1) bad.0 longer,
        )
    by_reading start s (inr free) = by_operands start s free.0 free.1 (place_of_first_operand_refused_by_rule (operand_rule_if_needed_kind_flag_given start.applet (reading_of_rest_of_command_words start before).state.flags) (reading_of_rest_of_command_words start before).operands) refl

-- ---- where a word asks

pub take_front : (before more : List (List ℕ)) → take (length before) (before ++ more) ≡ before
take_front [] more = refl
take_front (word ∷ before) more = ap (λ ws. word ∷ ws) (take_front before more)

pub get_after : (before after : List (List ℕ)) (word : List ℕ) → slice_get (before ++ (word ∷ after)) (length before) ≡ Some word
get_after [] after word = refl
get_after (w ∷ before) after word = get_after before after word

pub asked_here : (before after : List (List ℕ)) (word : List ℕ) (applet : Applet) → applet_of_help_or_version_option word ≡ Some applet → can_be_option (next_word_of_command_line before) ≡ true → help_or_version_option_at (before ++ (word ∷ after)) (length before + 1) ≡ Some applet
asked_here before after word applet a t =
    let count : length before + 1 - 1 ≡ length before = omega arith in
    rw count (rw (take_front before (word ∷ after)) (rw t (rw (get_after before after word) a)))

-- the parts of words in which one asks
pub record HasAsked (words : List (List ℕ)) (place : ℕ) (applet : Applet) : Type 0 where
  pub word : List ℕ
  pub after : List (List ℕ)
  pub asks : applet_of_help_or_version_option word ≡ Some applet
  pub option : can_be_option (next_word_of_command_line (take (place - 1) words)) ≡ true
  pub whole : words ≡ take (place - 1) words ++ (word ∷ after)
  pub within : place - 1 < length words

pub get_within : {X : Type 0} (xs : List X) (i : ℕ) (x : X) → slice_get xs i ≡ Some x → i < length xs
get_within [] i x e = absurd (cc)
get_within (y ∷ xs) zero x e = omega arith
get_within (y ∷ xs) (suc i) x e = (let rest = get_within xs i x e in omega (arith, rest))

pub asked_parts : (words : List (List ℕ)) (place : ℕ) (applet : Applet) → help_or_version_option_at words place ≡ Some applet → HasAsked words place applet
asked_parts words place applet h =
    elim (can_be_option (next_word_of_command_line (take (place - 1) words))) as (λ b. can_be_option (next_word_of_command_line (take (place - 1) words)) ≡ b → (if b then option_and_then applet_of_help_or_version_option (slice_get words (place - 1)) else None) ≡ Some applet → HasAsked words place applet) [
      | false ↦ λ t (h : None ≡ Some applet). absurd (none-some applet h)
      | true ↦ λ t. elim (slice_get words (place - 1)) as (λ o. slice_get words (place - 1) ≡ o → option_and_then applet_of_help_or_version_option o ≡ Some applet → HasAsked words place applet) [
        | None ↦ λ g (h : None ≡ Some applet). absurd (none-some applet h)
        | Some word ↦ λ g h. record {
          word = word;
          after = drop (place - 1 + 1) words;
          asks = h;
          option = t;
          whole = sym (take-append-drop (place - 1) words) ∙ ap (λ ws. take (place - 1) words ++ ws) (left_at words (place - 1) word g);
          within = get_within words (place - 1) word g;
        }
      ] refl
    ] refl h

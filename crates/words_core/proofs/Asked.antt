-- Words that ask for help or for the version: where an option can be, none of them can be read.
use Rattle.std.proofs.Common.{Bool, Err, List, None, Ok, Option, Some, [], ap, arith, codes, drop, false, if◌then◌else◌, inl, inr, length, refl, subst, suc, sym, take, true, zero, ℕ, ◌++◌, ◌+◌, ◌∙◌, ◌∷◌, ◌≡◌, ◌≤◌}
use Rattle.std.specs.List.{slice_get}
use Rattle.std.specs.Prelude.{is_some, not, ◌&&◌, ◌||◌}
use Rattle.std.specs.Str.{bytes_eq}
use Rattle.std.proofs.lemmas.Bool.{and_parts, false≢true, or_cases, or_parts, not-true}
use Rattle.std.proofs.lemmas.List.{take-append-drop}
use Rattle.std.proofs.lemmas.Option.{none-some, option_and_then_some, same_Some}
use Rattle.std.proofs.lemmas.Slice.Eq.{bytes_eq-Decides}
use Rattle.command_core.specs.declared.command.Applet.{Applet}
use Rattle.command_core.specs.declared.command.Applet.TheVariants.{Add, Help, ProgramVersion}
use Rattle.command_core.specs.declared.values.ValueRule.{ValueRule}
use Rattle.command_core.specs.Operands.{operand_at}
use Rattle.words_core.specs.declared.next.NextWord.{NextWord}
use Rattle.words_core.specs.declared.next.NextWord.TheVariants.{OptionOrCommand, Command as CommandAlone, OptionOrOperand, Value as NextValue, Operand as OperandAlone, Nothing}
use Rattle.words_core.specs.declared.reading.AppletSite.{AppletSite}
use Rattle.words_core.specs.declared.reading.OptionState.{OptionState}
use Rattle.words_core.specs.Grammar.{applet_site, value_in_long_or_short_option_word, is_double_dash, is_option_or_double_dash, is_option_or_value, next_word_of_applet_or_nothing, next_word_after_option, next_word, next_word_after_words, words_as_operands_from_place, option_word_without_value, reading_of_words_from_place, or_err_at, or_stop_at_unread_word, words_reading_from_parts, awaited_rule, value_rule_unless_attached, applet_site_of_word, applet_site_after_double_dash, applet_site_from_ended_read_applet, can_be_option, state_with_meaning, with_operand_in_front, with_option_or_value_word, with_word_as_option_or_value}
use Rattle.words_core.specs.Options.{OptionSpec, applet_of, applet_of_help_or_version_option, common_options, option_words_that_may_precede_applet, is_option_word_that_may_precede_applet, option_of_word, options_of}
use Rattle.words_core.specs.Stuck.{have_options_ended}
use Rattle.words_core.proofs.GoneOn.{none_is, not_option}
use Rattle.words_core.proofs.LinesRead.{Says, meaning_says, option_taken, rule_at_is, step_taken, value_says}
use Rattle.words_core.proofs.OneMore.{left_at}
use Rattle.words_core.proofs.Sites.{err_here, seek_early, seek_end, seek_here, seek_late}

-- ---- a word that asks is no option of an applet

pub record HasNoMeaning (word : List ℕ) : Type 0 where
  pub end : is_double_dash word ≡ false
  pub option : is_option_or_double_dash word ≡ true
  pub early : is_option_word_that_may_precede_applet word ≡ false
  pub spelled : (applet : Applet) → option_of_word (options_of applet) (option_word_without_value word) ≡ None

long_help : HasNoMeaning (codes "--help")
unfolding common_options options_of option_words_that_may_precede_applet option_word_without_value
long_help = record { end = refl; option = refl; early = refl; spelled = none }
  where
    none : (applet : Applet) → option_of_word (options_of applet) (option_word_without_value (codes "--help")) ≡ None
    none Add = refl
    none applet = refl

short_help : HasNoMeaning (codes "-h")
unfolding common_options options_of option_words_that_may_precede_applet option_word_without_value
short_help = record { end = refl; option = refl; early = refl; spelled = none }
  where
    none : (applet : Applet) → option_of_word (options_of applet) (option_word_without_value (codes "-h")) ≡ None
    none Add = refl
    none applet = refl

long_version : HasNoMeaning (codes "--version")
unfolding common_options options_of option_words_that_may_precede_applet option_word_without_value
long_version = record { end = refl; option = refl; early = refl; spelled = none }
  where
    none : (applet : Applet) → option_of_word (options_of applet) (option_word_without_value (codes "--version")) ≡ None
    none Add = refl
    none applet = refl

short_version : HasNoMeaning (codes "-V")
unfolding common_options options_of option_words_that_may_precede_applet option_word_without_value
short_version = record { end = refl; option = refl; early = refl; spelled = none }
  where
    none : (applet : Applet) → option_of_word (options_of applet) (option_word_without_value (codes "-V")) ≡ None
    none Add = refl
    none applet = refl

one_of_two : (a b word : List ℕ) → HasNoMeaning a → HasNoMeaning b → (bytes_eq a word || bytes_eq b word) ≡ true → HasNoMeaning word
one_of_two a b word x y h =
    elim (or_cases (bytes_eq a word) (bytes_eq b word) h) as (λ _. HasNoMeaning word) [
      | inl e ↦ subst (λ w. HasNoMeaning w) ((bytes_eq-Decides a word).0 e) x
      | inr e ↦ subst (λ w. HasNoMeaning w) ((bytes_eq-Decides b word).0 e) y
    ]

pub asking : (word : List ℕ) (applet : Applet) → applet_of_help_or_version_option word ≡ Some applet → HasNoMeaning word
asking word applet h =
    elim (bytes_eq (codes "--help") word || bytes_eq (codes "-h") word) as (λ b. (bytes_eq (codes "--help") word || bytes_eq (codes "-h") word) ≡ b → (if b then Some Help else if bytes_eq (codes "--version") word || bytes_eq (codes "-V") word then Some ProgramVersion else None) ≡ Some applet → HasNoMeaning word) [
      | true ↦ λ e h. one_of_two (codes "--help") (codes "-h") word long_help short_help e
      | false ↦ λ e. elim (bytes_eq (codes "--version") word || bytes_eq (codes "-V") word) as (λ b. (bytes_eq (codes "--version") word || bytes_eq (codes "-V") word) ≡ b → (if b then Some ProgramVersion else None) ≡ Some applet → HasNoMeaning word) [
        | true ↦ λ f h. one_of_two (codes "--version") (codes "-V") word long_version short_version f
        | false ↦ λ f (h : None ≡ Some applet). absurd (none-some applet h)
      ] refl
    ] refl h

-- ---- where no option can follow, none can later

pub nothing_stays : (words : List (List ℕ)) → next_word_after_words Nothing words ≡ Nothing
nothing_stays [] = refl
nothing_stays (word ∷ words) = nothing_stays words

pub operand_stays : (applet : Applet) (words : List (List ℕ)) → next_word_after_words (OperandAlone applet) words ≡ OperandAlone applet
operand_stays applet [] = refl
operand_stays applet (word ∷ words) = operand_stays applet words

pub alone_stays : (words : List (List ℕ)) → can_be_option (next_word_after_words CommandAlone words) ≡ false
alone_stays [] = refl
alone_stays (word ∷ words) =
    elim (applet_of word) as (λ o. can_be_option (next_word_after_words (next_word_of_applet_or_nothing OperandAlone o) words) ≡ false) [
      | None ↦ ap can_be_option (nothing_stays words)
      | Some applet ↦ ap can_be_option (operand_stays applet words)
    ]

pub next_append : (next : NextWord) (words more : List (List ℕ)) → next_word_after_words next (words ++ more) ≡ next_word_after_words (next_word_after_words next words) more
next_append next [] more = refl
next_append next (word ∷ words) more = next_append (next_word next word) words more

-- ---- one more word

pub next_end : (word : List ℕ) → is_double_dash word ≡ true → next_word OptionOrCommand word ≡ CommandAlone
next_end word e = rw e refl

pub next_early : (word : List ℕ) → is_double_dash word ≡ false → is_option_or_double_dash word ≡ true → next_word OptionOrCommand word ≡ OptionOrCommand
next_early word e o = rw e (rw o refl)

pub next_named : (word : List ℕ) → is_double_dash word ≡ false → is_option_or_double_dash word ≡ false → next_word OptionOrCommand word ≡ next_word_of_applet_or_nothing OptionOrOperand (applet_of word)
next_named word e o = rw e (rw o refl)

pub next_ended : (applet : Applet) (word : List ℕ) → is_double_dash word ≡ true → next_word (OptionOrOperand applet) word ≡ OperandAlone applet
next_ended applet word e = rw e refl

pub next_option : (applet : Applet) (word : List ℕ) → is_double_dash word ≡ false → is_option_or_double_dash word ≡ true → next_word (OptionOrOperand applet) word ≡ next_word_after_option applet (awaited_rule (options_of applet) word)
next_option applet word e o = rw e (rw o refl)

pub next_operand : (applet : Applet) (word : List ℕ) → is_double_dash word ≡ false → is_option_or_double_dash word ≡ false → next_word (OptionOrOperand applet) word ≡ OptionOrOperand applet
next_operand applet word e o = rw e (rw o refl)

-- .. of words that are read one after another
pub next_step : (next new : NextWord) (words : List (List ℕ)) (i : ℕ) (word : List ℕ) → slice_get words i ≡ Some word → new ≡ next_word next word → next_word_after_words next (drop i words) ≡ next_word_after_words new (drop (i + 1) words)
next_step next new words i word at e = ap (next_word_after_words next) (left_at words i word at) ∙ ap (λ n. next_word_after_words n (drop (i + 1) words)) (sym e)

pub next_done : (next : NextWord) (words : List (List ℕ)) (i : ℕ) → length words ≤ i → next_word_after_words next (drop i words) ≡ next
next_done next [] zero l = refl
next_done next [] (suc i) l = refl
next_done next (word ∷ words) zero l = absurd (omega (arith, l))
next_done next (word ∷ words) (suc i) l = next_done next words i (omega (arith, l))

-- ---- before the applet

-- where no applet is found and an option can follow, a word that asks offends
pub asks_first : (place : ℕ) (before after : List (List ℕ)) (word : List ℕ) → HasNoMeaning word → can_be_option (next_word_after_words OptionOrCommand before) ≡ true → applet_site place before ≡ Err (place + length before) → applet_site place (before ++ (word ∷ after)) ≡ Err (place + length before)
asks_first place [] after word m t h = seek_late place word after m.end m.option m.early ∙ (let same : place ≡ place + 0 = omega arith in ap Err same)
asks_first place (w ∷ before) after word m t h =
    let next : place + length (w ∷ before) ≡ place + 1 + length before = omega arith in
    elim (is_double_dash w) as (λ b. is_double_dash w ≡ b → applet_site place (w ∷ (before ++ (word ∷ after))) ≡ Err (place + length (w ∷ before))) [
      | true ↦ λ e. absurd (false≢true (sym (ap (λ n. can_be_option (next_word_after_words n before)) (next_end w e) ∙ alone_stays before) ∙ t))
      | false ↦ λ e. elim (is_option_or_double_dash w) as (λ b. is_option_or_double_dash w ≡ b → applet_site place (w ∷ (before ++ (word ∷ after))) ≡ Err (place + length (w ∷ before))) [
        | true ↦ λ o. elim (is_option_word_that_may_precede_applet w) as (λ b. is_option_word_that_may_precede_applet w ≡ b → applet_site place (w ∷ (before ++ (word ∷ after))) ≡ Err (place + length (w ∷ before))) [
          | true ↦ λ y. seek_early place w (before ++ (word ∷ after)) e o y
              ∙ (asks_first (place + 1) before after word m (sym (ap (λ n. can_be_option (next_word_after_words n before)) (next_early w e o)) ∙ t) (sym (seek_early place w before e o y) ∙ (h ∙ ap Err next))
              ∙ ap Err (sym next))
          | false ↦ λ y. absurd (let same : Err place ≡ Err (place + length (w ∷ before)) = sym (seek_late place w before e o y) ∙ h in let is : place ≡ place + length (w ∷ before) = cc in omega arith)
        ] refl
        | false ↦ λ o. absurd (let same : place + length (w ∷ before) ≡ place = err_here place (place + length (w ∷ before)) false w (sym (seek_here place w before e o) ∙ h) in omega arith)
      ] refl
    ] refl

-- ---- behind the applet

-- what the next word can be where the applet was found
abbrev pub next_at : AppletSite → NextWord
next_at site = if site.ended then OperandAlone site.applet else OptionOrOperand site.applet

pub record IsNext (place : ℕ) (words : List (List ℕ)) (site : AppletSite) : Type 0 where
  pub count : ℕ
  pub read : site.read ≡ place + count
  pub front : next_word_after_words OptionOrCommand (take (suc count) words) ≡ next_at site

pub named_site : (ended : Bool) (place : ℕ) (word : List ℕ) (site : AppletSite) → applet_site_of_word ended place word ≡ Ok site → (applet : Applet) × (applet_of word ≡ Some applet) × (applet_site_from_ended_read_applet ended place applet ≡ site)
unfolding applet_site_of_word
named_site ended place word site h =
    elim (applet_of word) as (λ o. or_err_at place (λ applet. Ok (applet_site_from_ended_read_applet ended place applet)) o ≡ Ok site → (applet : Applet) × (o ≡ Some applet) × (applet_site_from_ended_read_applet ended place applet ≡ site)) [
      | None ↦ λ (e : Err place ≡ Ok site). absurd (cc)
      | Some applet ↦ λ (e : Ok (applet_site_from_ended_read_applet ended place applet) ≡ Ok site). (applet, refl, cc)
    ] h

end_next : (place : ℕ) (word : List ℕ) (words : List (List ℕ)) (site : AppletSite) → is_double_dash word ≡ true → applet_site_after_double_dash (place + 1) words ≡ Ok site → IsNext place (word ∷ words) site
unfolding applet_site_after_double_dash
end_next place word [] site e h = absurd (cc)
end_next place word (v ∷ words) site e h =
    let named = named_site true (place + 1) v site h in
    record {
      count = 1;
      read = sym (ap (λ (s : AppletSite). s.read) named.2);
      front = ap (λ n. next_word n v) (next_end word e) ∙ (ap (λ o. next_word_of_applet_or_nothing OperandAlone o) named.1 ∙ ap (λ s. next_at s) named.2);
    }

pub found_next : (place : ℕ) (words : List (List ℕ)) (site : AppletSite) → applet_site place words ≡ Ok site → IsNext place words site
found_next place [] site h = absurd (cc)
found_next place (word ∷ words) site h =
    elim (is_double_dash word) as (λ b. is_double_dash word ≡ b → IsNext place (word ∷ words) site) [
      | true ↦ λ e. end_next place word words site e (sym (seek_end place word words e) ∙ h)
      | false ↦ λ e. elim (is_option_or_double_dash word) as (λ b. is_option_or_double_dash word ≡ b → IsNext place (word ∷ words) site) [
        | true ↦ λ o. elim (is_option_word_that_may_precede_applet word) as (λ b. is_option_word_that_may_precede_applet word ≡ b → IsNext place (word ∷ words) site) [
          | true ↦ λ y.
              let rest = found_next (place + 1) words site (sym (seek_early place word words e o y) ∙ h) in
              record {
                count = suc rest.count;
                read = omega (arith, rest.read);
                front = ap (λ n. next_word_after_words n (take (suc rest.count) words)) (next_early word e o) ∙ rest.front;
              }
          | false ↦ λ y. absurd (let both : Err place ≡ Ok site = sym (seek_late place word words e o y) ∙ h in cc)
        ] refl
        | false ↦ λ o.
            let named = named_site false place word site (sym (seek_here place word words e o) ∙ h) in
            record {
              count = 0;
              read = (let same : place ≡ place + 0 = omega arith in sym (ap (λ (s : AppletSite). s.read) named.2) ∙ same);
              front = next_named word e o ∙ (ap (λ o. next_word_of_applet_or_nothing OptionOrOperand o) named.1 ∙ ap (λ s. next_at s) named.2);
            }
      ] refl
    ] refl

-- .. and behind it
pub next_behind : (place : ℕ) (words : List (List ℕ)) (site : AppletSite) (found : IsNext place words site) → next_word_after_words OptionOrCommand words ≡ next_word_after_words (next_at site) (drop (suc found.count) words)
next_behind place words site found =
    ap (next_word_after_words OptionOrCommand) (sym (take-append-drop (suc found.count) words))
    ∙ (next_append OptionOrCommand (take (suc found.count) words) (drop (suc found.count) words)
    ∙ ap (λ n. next_word_after_words n (drop (suc found.count) words)) found.front)

-- where options have ended, only operands can follow
pub ended_alone : (applet : Applet) (rule : Option ValueRule) (words : List (List ℕ)) → have_options_ended (options_of applet) rule words ≡ true → next_word_after_words (next_word_after_option applet rule) words ≡ OperandAlone applet
ended_alone applet None [] h = absurd (false≢true h)
ended_alone applet (Some rule) [] h = absurd (false≢true h)
ended_alone applet (Some rule) (word ∷ words) h = ended_alone applet None words h
ended_alone applet None (word ∷ words) h =
    elim (is_double_dash word) as (λ b. is_double_dash word ≡ b → (if b then true else if is_option_or_double_dash word then have_options_ended (options_of applet) (awaited_rule (options_of applet) word) words else have_options_ended (options_of applet) None words) ≡ true → next_word_after_words (next_word (OptionOrOperand applet) word) words ≡ OperandAlone applet) [
      | true ↦ λ e h. ap (λ n. next_word_after_words n words) (next_ended applet word e) ∙ operand_stays applet words
      | false ↦ λ e. elim (is_option_or_double_dash word) as (λ b. is_option_or_double_dash word ≡ b → (if b then have_options_ended (options_of applet) (awaited_rule (options_of applet) word) words else have_options_ended (options_of applet) None words) ≡ true → next_word_after_words (next_word (OptionOrOperand applet) word) words ≡ OperandAlone applet) [
        | true ↦ λ o h. ap (λ n. next_word_after_words n words) (next_option applet word e o) ∙ ended_alone applet (awaited_rule (options_of applet) word) words h
        | false ↦ λ o h. ap (λ n. next_word_after_words n words) (next_operand applet word e o) ∙ ended_alone applet None words h
      ] refl
    ] refl h

-- what can follow a word that is read
pub next_taken : (applet : Applet) (state more : OptionState) (place : ℕ) (word : List ℕ) → is_option_or_value state word ≡ true → with_option_or_value_word (options_of applet) state place word ≡ Some more → next_word (next_word_after_option applet state.awaiting) word ≡ next_word_after_option applet more.awaiting
next_taken applet state more place word t w = by_rule state.awaiting refl t w
  where
    options : List OptionSpec
    options = options_of applet

    by_rule : (rule : Option ValueRule) → state.awaiting ≡ rule → (is_some rule || (is_option_or_double_dash word && not (is_double_dash word))) ≡ true → with_word_as_option_or_value options state place word rule ≡ Some more → next_word (next_word_after_option applet rule) word ≡ next_word_after_option applet more.awaiting
    by_rule (Some rule) a t h = ap (next_word_after_option applet) (ap (λ (g : OptionState). g.awaiting) (value_says state more place word rule h))
    by_rule None a t h =
        let parts = and_parts (is_option_or_double_dash word) (not (is_double_dash word)) t in
        option_and_then_some (λ (e : OptionSpec). state_with_meaning state place (value_in_long_or_short_option_word word) e.meaning) (option_of_word options (option_word_without_value word)) more h
        (λ found is made.
        (let says : Says state place (value_in_long_or_short_option_word word) found.meaning more = meaning_says state more place (value_in_long_or_short_option_word word) found.meaning a made in
        next_option applet word (not-true (is_double_dash word) parts.1) parts.0
        ∙ ap (next_word_after_option applet) (ap (value_rule_unless_attached (value_in_long_or_short_option_word word)) (rule_at_is options word found is) ∙ says.awaiting)))

-- where a value is awaited, no option can follow
pub awaited_next : (applet : Applet) (state : OptionState) (place : ℕ) (words : List (List ℕ)) (rule : ValueRule) → (reading_of_words_from_place (options_of applet) state place words).state.awaiting ≡ Some rule → (reading_of_words_from_place (options_of applet) state place words).unread ≡ Some (place + length words) → next_word_after_words (next_word_after_option applet state.awaiting) words ≡ NextValue applet rule
awaited_next applet state place [] rule a u = ap (next_word_after_option applet) a
awaited_next applet state place (word ∷ words) rule a u =
    let next : place + length (word ∷ words) ≡ place + 1 + length words = omega arith in
    elim (is_option_or_value state word) as (λ b. is_option_or_value state word ≡ b → (if b then or_stop_at_unread_word state place (λ m. reading_of_words_from_place (options_of applet) m (place + 1) words) (with_option_or_value_word (options_of applet) state place word) else if is_double_dash word then words_reading_from_parts state (words_as_operands_from_place (place + 1) words) None else with_operand_in_front (operand_at place word) (reading_of_words_from_place (options_of applet) state (place + 1) words)).state.awaiting ≡ Some rule → (if b then or_stop_at_unread_word state place (λ m. reading_of_words_from_place (options_of applet) m (place + 1) words) (with_option_or_value_word (options_of applet) state place word) else if is_double_dash word then words_reading_from_parts state (words_as_operands_from_place (place + 1) words) None else with_operand_in_front (operand_at place word) (reading_of_words_from_place (options_of applet) state (place + 1) words)).unread ≡ Some (place + length (word ∷ words)) → next_word_after_words (next_word (next_word_after_option applet state.awaiting) word) words ≡ NextValue applet rule) [
      | true ↦ λ t. elim (with_option_or_value_word (options_of applet) state place word) as (λ w. with_option_or_value_word (options_of applet) state place word ≡ w → (or_stop_at_unread_word state place (λ m. reading_of_words_from_place (options_of applet) m (place + 1) words) w).state.awaiting ≡ Some rule → (or_stop_at_unread_word state place (λ m. reading_of_words_from_place (options_of applet) m (place + 1) words) w).unread ≡ Some (place + length (word ∷ words)) → next_word_after_words (next_word (next_word_after_option applet state.awaiting) word) words ≡ NextValue applet rule) [
        | None ↦ λ w a (u : Some place ≡ Some (place + length (word ∷ words))). absurd (let same : place ≡ place + length (word ∷ words) = same_Some place (place + length (word ∷ words)) u in omega arith)
        | Some g ↦ λ w a u. ap (λ n. next_word_after_words n words) (next_taken applet state g place word t w) ∙ awaited_next applet g (place + 1) words rule a (u ∙ ap Some next)
      ] refl
      | false ↦ λ t.
          let parts = or_parts (is_some state.awaiting) (is_option_or_double_dash word && not (is_double_dash word)) t in
          let none : state.awaiting ≡ None = none_is state.awaiting parts.0 in
          elim (is_double_dash word) as (λ b. is_double_dash word ≡ b → (if b then words_reading_from_parts state (words_as_operands_from_place (place + 1) words) None else with_operand_in_front (operand_at place word) (reading_of_words_from_place (options_of applet) state (place + 1) words)).state.awaiting ≡ Some rule → (if b then words_reading_from_parts state (words_as_operands_from_place (place + 1) words) None else with_operand_in_front (operand_at place word) (reading_of_words_from_place (options_of applet) state (place + 1) words)).unread ≡ Some (place + length (word ∷ words)) → next_word_after_words (next_word (next_word_after_option applet state.awaiting) word) words ≡ NextValue applet rule) [
            | true ↦ λ e a u. absurd (none-some (place + length (word ∷ words)) u)
            | false ↦ λ e a u.
                ap (λ o. next_word_after_words (next_word (next_word_after_option applet o) word) words) none
                ∙ (ap (λ n. next_word_after_words n words) (next_operand applet word e (not_option (is_option_or_double_dash word) (is_double_dash word) e parts.1))
                ∙ (ap (λ o. next_word_after_words (next_word_after_option applet o) words) (sym none)
                ∙ awaited_next applet state (place + 1) words rule a (u ∙ ap Some next)))
          ] refl
    ] refl a u

-- a word that asks, where a value is not awaited, cannot be read
pub asks_now : (applet : Applet) (state : OptionState) (place : ℕ) (word : List ℕ) (after : List (List ℕ)) → HasNoMeaning word → state.awaiting ≡ None → reading_of_words_from_place (options_of applet) state place (word ∷ after) ≡ words_reading_from_parts state [] (Some place)
asks_now applet state place word after m a =
    step_taken (options_of applet) state place word after None (option_taken state word a m.end m.option)
    (ap (with_word_as_option_or_value (options_of applet) state place word) a ∙ rw (m.spelled applet) refl)

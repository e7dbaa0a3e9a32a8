-- Words that lack a word can be completed, unless they are stuck.
use Rattle.std.proofs.Common.{Bool, Err, List, None, Ok, Option, Result, Some, [], ap, append-nil, arith, codes, drop, false, inl, inr, is_ok, length, length-append, not, option_and_then, refl, subst, suc, sym, take, true, ℕ, ◌++◌, ◌+◌, ◌-◌, ◌∙◌, ◌∷◌, ◌≡◌, ◌⊎◌, ◌≤◌, if◌then◌else◌}
use Rattle.std.specs.List.{list_all, list_any}
use Rattle.std.specs.Prelude.{◌||◌}
use Rattle.std.proofs.lemmas.Bool.{and_parts, cases_lt, false≢true, not-true}
use Rattle.std.proofs.lemmas.List.{length-take-le, take-append-drop}
use Rattle.std.proofs.lemmas.Option.{none-some}
use Rattle.command_core.specs.declared.command.Applet.{Applet}
use Rattle.command_core.specs.declared.command.Applet.TheVariants.{Add, Del}
use Rattle.command_core.specs.declared.command.Flag.TheVariants.{AllowUntrusted, Initdb, NoScripts, Simulate}
use Rattle.command_core.specs.declared.command.Flags.{Flags}
use Rattle.command_core.specs.Flags.{no_flags}
use Rattle.command_core.specs.Operands.{operand_at}
use Rattle.words_core.specs.declared.options.Meaning.{Meaning}
use Rattle.words_core.specs.declared.options.Meaning.TheVariants.{Flag as Plain}
use Rattle.words_core.specs.declared.reading.AppletSite.{AppletSite}
use Rattle.words_core.specs.declared.reading.OptionState.{OptionState}
use Rattle.words_core.specs.declared.reading.Start.{Start}
use Rattle.words_core.specs.Grammar.{applet_site, spelled_command_by_start, spelled_command, command_from_end_place_and_reading, flags_with_options_before_applet, option_state_at_start, is_double_dash, is_option_or_double_dash, start_of_command_line, words_as_operands_from_place, reading_of_words_from_place, reading_of_rest_of_command_words, words_reading_from_parts, applet_site_of_word, applet_site_after_double_dash, applet_site_from_ended_read_applet, start_from_parts, start_by_applet_site, start_with_flags_before_applet, command_of_reading_with_end_place, flags_with_meaning_if_one_command_kind, flags_with_option_word_if_one_command_kind, flags_with_option_if_one_command_kind}
use Rattle.words_core.specs.Kinds.{can_info_kind_follow}
use Rattle.words_core.specs.Options.{OptionSpec, applets, common_options, option_words_that_may_precede_applet, is_option_word_that_may_precede_applet, option_of_word, options_of}
use Rattle.words_core.specs.Stuck.{is_stuck_by, are_options_of}
use Rattle.words_core.proofs.LinesRead.{by_early}
use Rattle.words_core.proofs.KindCompleted.{kind_completes}
use Rattle.words_core.proofs.OffendingWords.{usage_between}
use Rattle.words_core.proofs.Sites.{err_here, flags_end, flags_step, foreign_between, no_start, seek_early, seek_end, seek_here, seek_late, take_stays}
use Rattle.words_core.proofs.StillOffending.{usage_stays}
use Rattle.words_core.proofs.WordsCompleted.{AreTexts, CanBeCompleted, IsJudgedGood, a_text, completed_from, judged_good, no_texts}

-- what is behind the applet where it is named behind words
pub named_after : (words : List (List ℕ)) (word : List ℕ) (more : List (List ℕ)) → drop (1 + length words) (words ++ (word ∷ more)) ≡ more
named_after [] word more = refl
named_after (w ∷ words) word more = (let same : 1 + length (w ∷ words) ≡ suc (1 + length words) = omega arith in ap (λ k. drop k ((w ∷ words) ++ (word ∷ more))) same ∙ named_after words word more)

-- ---- options before the applet

-- two options say the same flag
abbrev is_same_meaning : Meaning → Meaning → Bool
is_same_meaning (Plain AllowUntrusted) (Plain AllowUntrusted) = true
is_same_meaning (Plain NoScripts) (Plain NoScripts) = true
is_same_meaning (Plain Initdb) (Plain Initdb) = true
is_same_meaning (Plain Simulate) (Plain Simulate) = true
is_same_meaning a b = false

-- such a word is no option of the first applet, or says there what it says for `add`
abbrev says_same : Option OptionSpec → Option OptionSpec → Bool
says_same None add = true
says_same (Some o) None = false
says_same (Some o) (Some v) = is_same_meaning o.meaning v.meaning

abbrev is_as_add : Applet → List ℕ → Bool
is_as_add applet word = says_same (option_of_word (options_of applet) word) (option_of_word (options_of Add) word)

-- the applets that exist, without `add` and `del`
abbrev other_applets : List Applet
other_applets = drop 2 applets

today : list_all (λ applet. list_all (is_as_add applet) option_words_that_may_precede_applet) other_applets ≡ true
unfolding common_options options_of option_words_that_may_precede_applet
today = refl

same_flags : (flags more : Flags) (a b : Meaning) → is_same_meaning a b ≡ true → flags_with_meaning_if_one_command_kind flags a ≡ Some more → flags_with_meaning_if_one_command_kind flags b ≡ Some more
same_flags flags more (Plain AllowUntrusted) (Plain AllowUntrusted) s h = h
same_flags flags more (Plain NoScripts) (Plain NoScripts) s h = h
same_flags flags more (Plain Initdb) (Plain Initdb) s h = h
same_flags flags more (Plain Simulate) (Plain Simulate) s h = h
same_flags flags more a b s h = absurd (false≢true s)

same_option : (flags more : Flags) (o v : Option OptionSpec) → says_same o v ≡ true → option_and_then (flags_with_option_if_one_command_kind flags) o ≡ Some more → option_and_then (flags_with_option_if_one_command_kind flags) v ≡ Some more
same_option flags more None v s h = absurd (none-some more h)
same_option flags more (Some o) None s h = absurd (false≢true s)
same_option flags more (Some o) (Some v) s h = same_flags flags more o.meaning v.meaning s h

-- options before the applet that are an applet's are those of `add` too
abbrev IsSuited : Applet → Flags → ℕ → List (List ℕ) → Type 0
IsSuited applet flags place words = (more : Flags) × (flags_with_options_before_applet (options_of applet) flags place words ≡ Ok more)

suited : (applet : Applet) (flags : Flags) (place : ℕ) (words : List (List ℕ)) → list_all (is_as_add applet) option_words_that_may_precede_applet ≡ true → applet_site place words ≡ Err (place + length words) → IsSuited applet flags place words → IsSuited Add flags place words
suited applet flags place [] each s f = (flags, refl)
suited applet flags place (word ∷ words) each s f =
    let next : place + length (word ∷ words) ≡ place + 1 + length words = omega arith in
    elim (is_double_dash word) as (λ b. is_double_dash word ≡ b → IsSuited Add flags place (word ∷ words)) [
      | true ↦ λ e. (flags, flags_end (options_of Add) flags place word words e)
      | false ↦ λ e. elim (is_option_or_double_dash word) as (λ b. is_option_or_double_dash word ≡ b → IsSuited Add flags place (word ∷ words)) [
        | false ↦ λ o. absurd (let same : place + length (word ∷ words) ≡ place = err_here place (place + length (word ∷ words)) false word (sym (seek_here place word words e o) ∙ s) in omega arith)
        | true ↦ λ o. elim (is_option_word_that_may_precede_applet word) as (λ b. is_option_word_that_may_precede_applet word ≡ b → IsSuited Add flags place (word ∷ words)) [
          | false ↦ λ y. absurd (let same : Err place ≡ Err (place + length (word ∷ words)) = sym (seek_late place word words e o y) ∙ s in let is : place ≡ place + length (word ∷ words) = cc in omega arith)
          | true ↦ λ y. elim (flags_with_option_word_if_one_command_kind (options_of applet) flags word) as (λ m. flags_with_option_word_if_one_command_kind (options_of applet) flags word ≡ m → IsSuited Add flags place (word ∷ words)) [
            | None ↦ λ m. absurd (let none : Err place ≡ Ok f.0 = sym (flags_step (options_of applet) flags place word words None e m) ∙ f.1 in cc)
            | Some g ↦ λ m.
                let same : flags_with_option_word_if_one_command_kind (options_of Add) flags word ≡ Some g = same_option flags g (option_of_word (options_of applet) word) (option_of_word (options_of Add) word) (by_early (is_as_add applet) word each y) m in
                let rest = suited applet g (place + 1) words each (sym (seek_early place word words e o y) ∙ (s ∙ ap Err next)) (f.0, sym (flags_step (options_of applet) flags place word words (Some g) e m) ∙ f.1) in
                (rest.0, flags_step (options_of Add) flags place word words (Some g) e same ∙ rest.1)
          ] refl
        ] refl
      ] refl
    ] refl

any_suits : (words : List (List ℕ)) (xs : List Applet) → list_all (λ applet. list_all (is_as_add applet) option_words_that_may_precede_applet) xs ≡ true → applet_site 1 words ≡ Err (1 + length words) → list_any (are_options_of words) xs ≡ true → IsSuited Add no_flags 1 words
any_suits words [] each s h = absurd (false≢true h)
any_suits words (x ∷ xs) each s h =
    let parts = and_parts (list_all (is_as_add x) option_words_that_may_precede_applet) (list_all (λ applet. list_all (is_as_add applet) option_words_that_may_precede_applet) xs) each in
    elim (flags_with_options_before_applet (options_of x) no_flags 1 words) as (λ r. flags_with_options_before_applet (options_of x) no_flags 1 words ≡ r → (is_ok r || list_any (are_options_of words) xs) ≡ true → IsSuited Add no_flags 1 words) [
      | Ok more ↦ λ f h. suited x no_flags 1 words parts.0 s (more, f)
      | Err at ↦ λ f h. any_suits words xs parts.1 s h
    ] refl h

-- they are those of `add`, or of `del`
one_suits : (words : List (List ℕ)) → applet_site 1 words ≡ Err (1 + length words) → list_any (are_options_of words) applets ≡ true → IsSuited Add no_flags 1 words ⊎ IsSuited Del no_flags 1 words
one_suits words s h =
    elim (flags_with_options_before_applet (options_of Add) no_flags 1 words) as (λ r. flags_with_options_before_applet (options_of Add) no_flags 1 words ≡ r → (is_ok r || (are_options_of words Del || list_any (are_options_of words) other_applets)) ≡ true → IsSuited Add no_flags 1 words ⊎ IsSuited Del no_flags 1 words) [
      | Ok more ↦ λ f h. inl (more, f)
      | Err at ↦ λ f h. elim (flags_with_options_before_applet (options_of Del) no_flags 1 words) as (λ r. flags_with_options_before_applet (options_of Del) no_flags 1 words ≡ r → (is_ok r || list_any (are_options_of words) other_applets) ≡ true → IsSuited Add no_flags 1 words ⊎ IsSuited Del no_flags 1 words) [
        | Ok more ↦ λ g h. inr (more, g)
        | Err at ↦ λ g h. inl (any_suits words other_applets today s h)
      ] refl h
    ] refl h

none_good : (state : OptionState) → IsJudgedGood Add (words_reading_from_parts state [] None)
none_good state end = judged_good Add (words_reading_from_parts state [] None) end refl refl refl

one_good : (state : OptionState) (place : ℕ) → IsJudgedGood Del (words_reading_from_parts state (operand_at place (codes "a") ∷ []) None)
one_good state place end = judged_good Del (words_reading_from_parts state (operand_at place (codes "a") ∷ []) None) end refl refl refl

-- ---- an applet behind words that lack it: its word, and operands behind it

module _ (applet : Applet) (named : List ℕ) (operands : List (List ℕ))
    (here : (place : ℕ) → applet_site place (named ∷ operands) ≡ Ok (applet_site_from_ended_read_applet false place applet))
    (after_end : (place : ℕ) → applet_site_after_double_dash place (named ∷ operands) ≡ Ok (applet_site_from_ended_read_applet true place applet))
    (texts : AreTexts operands) (good : (state : OptionState) (place : ℕ) → IsJudgedGood applet (words_reading_from_parts state (words_as_operands_from_place place operands) None)) where
  abbrev more : List (List ℕ)
  more = named ∷ operands

  -- the words before the applet, whether or not the options have ended
  abbrev IsSought : ℕ → List (List ℕ) → Type 0
  IsSought place words = (ended : Bool) × (applet_site place (words ++ more) ≡ Ok (applet_site_from_ended_read_applet ended (place + length words) applet))

  end_sought : (place : ℕ) (word : List ℕ) (words : List (List ℕ)) → is_double_dash word ≡ true → applet_site_after_double_dash (place + 1) words ≡ Err (place + length (word ∷ words)) → IsSought place (word ∷ words)
  unfolding applet_site_after_double_dash applet_site_of_word
  end_sought place word [] e h = (true, seek_end place word more e ∙ after_end (place + 1))
  end_sought place word (next ∷ words) e h = absurd (let same : place + length (word ∷ (next ∷ words)) ≡ place + 1 = err_here (place + 1) (place + length (word ∷ (next ∷ words))) true next h in omega arith)

  sought : (place : ℕ) (words : List (List ℕ)) → applet_site place words ≡ Err (place + length words) → IsSought place words
  sought place [] h = (false, here place ∙ (let same : place ≡ place + 0 = omega arith in ap (λ k. Ok (applet_site_from_ended_read_applet false k applet)) same))
  sought place (word ∷ words) h =
      let next : place + length (word ∷ words) ≡ place + 1 + length words = omega arith in
      elim (is_double_dash word) as (λ b. is_double_dash word ≡ b → IsSought place (word ∷ words)) [
        | true ↦ λ e. end_sought place word words e (sym (seek_end place word words e) ∙ h)
        | false ↦ λ e. elim (is_option_or_double_dash word) as (λ b. is_option_or_double_dash word ≡ b → IsSought place (word ∷ words)) [
          | true ↦ λ o. elim (is_option_word_that_may_precede_applet word) as (λ b. is_option_word_that_may_precede_applet word ≡ b → IsSought place (word ∷ words)) [
            | false ↦ λ y. absurd (let same : Err place ≡ Err (place + length (word ∷ words)) = sym (seek_late place word words e o y) ∙ h in let is : place ≡ place + length (word ∷ words) = cc in omega arith)
            | true ↦ λ y. (let rest = sought (place + 1) words (sym (seek_early place word words e o y) ∙ (h ∙ ap Err next)) in
                (rest.0, seek_early place word (words ++ more) e o y ∙ (rest.1 ∙ ap (λ k. Ok (applet_site_from_ended_read_applet rest.0 k applet)) (sym next))))
          ] refl
          | false ↦ λ o. absurd (let same : place + length (word ∷ words) ≡ place = err_here place (place + length (word ∷ words)) false word (sym (seek_here place word words e o) ∙ h) in omega arith)
        ] refl
      ] refl

  from_named : (start : Start) (words : List (List ℕ)) → start.applet ≡ applet → start.read ≡ 1 + length words → reading_of_rest_of_command_words start (words ++ more) ≡ words_reading_from_parts (option_state_at_start start.flags) (words_as_operands_from_place (start.read + 1) operands) None
  unfolding reading_of_rest_of_command_words
  from_named start words v r =
      subst (λ left. (if start.ended then words_reading_from_parts (option_state_at_start start.flags) (words_as_operands_from_place (start.read + 1) left) None else reading_of_words_from_place (options_of start.applet) (option_state_at_start start.flags) (start.read + 1) left) ≡ words_reading_from_parts (option_state_at_start start.flags) (words_as_operands_from_place (start.read + 1) operands) None)
      (sym (ap (λ k. drop k (words ++ more)) r ∙ named_after words named operands))
      (elim start.ended as (λ b. (if b then words_reading_from_parts (option_state_at_start start.flags) (words_as_operands_from_place (start.read + 1) operands) None else reading_of_words_from_place (options_of start.applet) (option_state_at_start start.flags) (start.read + 1) operands) ≡ words_reading_from_parts (option_state_at_start start.flags) (words_as_operands_from_place (start.read + 1) operands) None) [
        | true ↦ refl
        | false ↦ texts (options_of start.applet) (option_state_at_start start.flags) (start.read + 1) refl
      ])

  take_all : (ws : List (List ℕ)) → take (length ws) ws ≡ ws
  take_all [] = refl
  take_all (w ∷ ws) = ap (λ xs. w ∷ xs) (take_all ws)

  completed_by : (words : List (List ℕ)) → applet_site 1 words ≡ Err (1 + length words) → IsSuited applet no_flags 1 words → CanBeCompleted words
  unfolding spelled_command
  completed_by words h flags =
      let found = sought 1 words h in
      let site : AppletSite = applet_site_from_ended_read_applet found.0 (1 + length words) applet in
      let start : Start = start_from_parts site flags.0 in
      let reading = words_reading_from_parts (option_state_at_start flags.0) (words_as_operands_from_place (1 + length words + 1) operands) None in
      let before : 1 + length words - 1 ≡ length words = omega arith in
      let early : flags_with_options_before_applet (options_of applet) no_flags 1 (take (1 + length words - 1) (words ++ more)) ≡ Ok flags.0 =
      ap (λ n. flags_with_options_before_applet (options_of applet) no_flags 1 (take n (words ++ more))) before
      ∙ (ap (flags_with_options_before_applet (options_of applet) no_flags 1) (take_stays (length words) words more (omega arith) ∙ take_all words) ∙ flags.1) in
      let is : start_of_command_line (words ++ more) ≡ Ok start = ap (start_by_applet_site (words ++ more)) found.1 ∙ ap (start_with_flags_before_applet site) early in (
        more,
        command_from_end_place_and_reading (length (words ++ more) + 1) applet reading,
        ap (spelled_command_by_start (words ++ more)) is ∙ (ap (command_of_reading_with_end_place (length (words ++ more) + 1) applet) (from_named start words refl refl) ∙ good (option_state_at_start flags.0) (1 + length words + 1) (length (words ++ more) + 1)),
      )

add_here : (place : ℕ) → applet_site place (codes "add" ∷ []) ≡ Ok (applet_site_from_ended_read_applet false place Add)
unfolding applet_site_of_word
add_here place = refl

add_after : (place : ℕ) → applet_site_after_double_dash place (codes "add" ∷ []) ≡ Ok (applet_site_from_ended_read_applet true place Add)
unfolding applet_site_of_word applet_site_after_double_dash
add_after place = refl

del_here : (place : ℕ) → applet_site place (codes "del" ∷ (codes "a" ∷ [])) ≡ Ok (applet_site_from_ended_read_applet false place Del)
unfolding applet_site_of_word
del_here place = refl

del_after : (place : ℕ) → applet_site_after_double_dash place (codes "del" ∷ (codes "a" ∷ [])) ≡ Ok (applet_site_from_ended_read_applet true place Del)
unfolding applet_site_of_word applet_site_after_double_dash
del_after place = refl

pub applet_completed : (words : List (List ℕ)) → applet_site 1 words ≡ Err (1 + length words) → list_any (are_options_of words) applets ≡ true → CanBeCompleted words
applet_completed words h k =
    elim (one_suits words h k) [
      | inl flags ↦ completed_by Add (codes "add") [] add_here add_after no_texts (λ state place. none_good state) words h flags
      | inr flags ↦ completed_by Del (codes "del") (codes "a" ∷ []) del_here del_after a_text one_good words h flags
    ]

-- whether words can become no line: no applet has all the options before it, or they are stuck behind it
abbrev pub line_stuck_by : List (List ℕ) → Result AppletSite ℕ → Bool
line_stuck_by words (Err place) = not (list_any (are_options_of words) applets)
line_stuck_by words (Ok site) = is_stuck_by words (start_by_applet_site words (Ok site))

unfoldable pub line_stuck : List (List ℕ) → Bool
line_stuck words = line_stuck_by words (applet_site 1 words)

pub completed_unless : (words : List (List ℕ)) → line_stuck words ≡ false → spelled_command words ≡ Err (length words + 1) → CanBeCompleted words
unfolding spelled_command line_stuck
completed_unless words k c =
    elim (applet_site 1 words) as (λ s. applet_site 1 words ≡ s → line_stuck_by words s ≡ false → CanBeCompleted words) [
      | Err at ↦ λ s k.
          (let none : Err at ≡ Err (length words + 1) = sym (ap (λ r. spelled_command_by_start words (start_by_applet_site words r)) s) ∙ c in
          let same : at ≡ length words + 1 = cc in
          let is : at ≡ 1 + length words = omega arith in
          applet_completed words (s ∙ ap Err is) (is_so (list_any (are_options_of words) applets) k))
      | Ok site ↦ λ s k. by_start site s (start_of_command_line words) refl (ap (λ r. is_stuck_by words (start_by_applet_site words r)) s ∙ k)
    ] refl k
  where
    is_so : (b : Bool) → not b ≡ false → b ≡ true
    is_so true h = refl
    is_so false h = sym h

    by_start : (site : AppletSite) → applet_site 1 words ≡ Ok site → (r : Result Start ℕ) → start_of_command_line words ≡ r → is_stuck_by words (start_of_command_line words) ≡ false → CanBeCompleted words
    by_start site found (Ok start) s k = completed_from words start (sym (ap (is_stuck_by words) s) ∙ k) s (sym (ap (spelled_command_by_start words) s) ∙ c)
    by_start site found (Err at) s k =
        let none : Err at ≡ Err (length words + 1) = sym (ap (spelled_command_by_start words) s) ∙ c in
        let same : at ≡ length words + 1 = cc in
        elim (no_start words at s) as (λ _. CanBeCompleted words) [
          | inl e ↦ absurd (let both : Ok site ≡ Err at = sym found ∙ e in cc)
          | inr f ↦ absurd (let between = foreign_between words at f in omega (arith, between.1))
        ]

-- the words before a usage error can be completed
pub usage_is_first : (words : List (List ℕ)) (place : ℕ) → not (line_stuck (take (place - 1) words)) ≡ true → spelled_command words ≡ Err place → CanBeCompleted (take (place - 1) words)
usage_is_first words place n c =
    elim (spelled_command (take (place - 1) words)) as (λ r. spelled_command (take (place - 1) words) ≡ r → CanBeCompleted (take (place - 1) words)) [
      | Ok command ↦ λ e. ([], command, ap spelled_command (append-nil (take (place - 1) words)) ∙ e)
      | Err at ↦ λ e. by_place at e (usage_between (take (place - 1) words) at e)
    ] refl
  where
    bounds : (1 ≤ place) × (place ≤ length words + 1)
    bounds = usage_between words place c

    size : length (take (place - 1) words) ≡ place - 1
    size = length-take-le (place - 1) words (omega (arith, bounds.0, bounds.1))

    whole : spelled_command (take (place - 1) words ++ drop (place - 1) words) ≡ Err place
    whole = ap spelled_command (take-append-drop (place - 1) words) ∙ c

    no_earlier : (at : ℕ) → can_info_kind_follow (take (place - 1) words) ≡ false → spelled_command (take (place - 1) words) ≡ Err at → at ≤ length (take (place - 1) words) → at ≡ place
    no_earlier at k e l = (let same : Err at ≡ Err place = sym (usage_stays (take (place - 1) words) (drop (place - 1) words) at k e l) ∙ whole in cc)

    by_kind : (at : ℕ) → spelled_command (take (place - 1) words) ≡ Err at → at ≤ length (take (place - 1) words) → CanBeCompleted (take (place - 1) words)
    by_kind at e l = elim (can_info_kind_follow (take (place - 1) words)) as (λ k. can_info_kind_follow (take (place - 1) words) ≡ k → CanBeCompleted (take (place - 1) words)) [
      | true ↦ λ k. kind_completes (take (place - 1) words) (drop (place - 1) words) at place k e l whole (omega (arith, bounds.0, size)) (omega (arith, length-append (take (place - 1) words) (drop (place - 1) words)))
      | false ↦ λ k. absurd (let same : at ≡ place = no_earlier at k e l in omega (arith, bounds.0, size))
    ] refl

    by_place : (at : ℕ) → spelled_command (take (place - 1) words) ≡ Err at → (1 ≤ at) × (at ≤ length (take (place - 1) words) + 1) → CanBeCompleted (take (place - 1) words)
    by_place at e between = elim (cases_lt at (length (take (place - 1) words) + 1)) as (λ _. CanBeCompleted (take (place - 1) words)) [
      | inl less ↦ by_kind at e (omega arith)
      | inr more ↦ (let same : at ≡ length (take (place - 1) words) + 1 = omega (arith, between.1) in completed_unless (take (place - 1) words) (not-true (line_stuck (take (place - 1) words)) n) (e ∙ ap Err same))
    ]

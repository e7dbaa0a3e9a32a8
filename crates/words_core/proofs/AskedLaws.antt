-- The laws of lines, where a word may ask.
use Rattle.std.proofs.Common.{Err, List, None, Ok, Some, [], ap, append_assoc, arith, codes, false, inl, inr, is_ok, length, refl, subst, suc, sym, take, true, zero, ℕ, ◌++◌, ◌+◌, ◌-◌, ◌<◌, ◌∙◌, ◌∷◌, ◌≡◌, ◌≤◌, ◌⊎◌, if◌then◌else◌}
use Rattle.std.specs.List.{slice_get}
use Rattle.std.specs.Prelude.{option_and_then, ◌||◌}
use Rattle.std.specs.Str.{bytes_eq}
use Rattle.std.proofs.lemmas.Bool.{false≢true}
use Rattle.std.proofs.lemmas.List.{length-take-le}
use Rattle.std.proofs.lemmas.Option.{none-some, same_Some}
use Rattle.command_core.specs.declared.command.Applet.{Applet}
use Rattle.command_core.specs.declared.command.Applet.TheVariants.{Help, ProgramVersion}
use Rattle.command_core.specs.Command.{CommandLine, command_from_parts_and_end_place}
use Rattle.command_core.specs.Flags.{no_flags}
use Rattle.command_core.specs.Sound.{is_valid_command}
use Rattle.command_core.specs.declared.operands.Operand.{Operand}
use Rattle.command_core.specs.Operands.{operand_at}
use Rattle.words_core.specs.declared.reading.AppletSite.{AppletSite}
use Rattle.words_core.specs.Asked.{IsHelpOrVersionAskedBy}
use Rattle.words_core.specs.Grammar.{applet_site, help_or_version_option_at, command_with_help_or_version_applet, help_or_version_or_err, spelled_command_by_start, command_of, spelled_command, start_of_command_line, next_word_of_command_line, command_else_help_or_version_at_error, can_be_option, help_topic_operands}
use Rattle.words_core.specs.Kinds.{can_info_kind_follow}
use Rattle.words_core.specs.Lines.{AreWordsOfCommand}
use Rattle.words_core.specs.Options.{applet_word, applet_of_help_or_version_option}
use Rattle.words_core.proofs.Asked.{HasNoMeaning, asking, asks_first}
use Rattle.words_core.proofs.AskedLines.{HasAsked, IsAskedAfter, asked_after, asked_here, asked_parts}
use Rattle.words_core.proofs.LinesMade.{made_line}
use Rattle.words_core.proofs.LinesRead.{read_line}
use Rattle.words_core.proofs.OffendingWords.{usage_between}
use Rattle.words_core.proofs.Sites.{IsForeign, foreign_between, no_start, start_stays, take_stays}
use Rattle.words_core.proofs.StillOffending.{usage_stays}
use Rattle.words_core.proofs.WhatFollows.{offends_after}

-- words are a command as a line, or since a word asks; or they offend, and the word does not ask
pub record IsUnasked (words : List (List ℕ)) (place : ℕ) : Type 0 where
  pub offends : spelled_command words ≡ Err place
  pub unasked : help_or_version_option_at words place ≡ None

pub record IsAskedAt (words : List (List ℕ)) (command : CommandLine) : Type 0 where
  pub place : ℕ
  pub applet : Applet
  pub offends : spelled_command words ≡ Err place
  pub asked : help_or_version_option_at words place ≡ Some applet
  pub is : command_with_help_or_version_applet words applet ≡ command

pub asked_command_is : (words : List (List ℕ)) (place : ℕ) (applet : Applet) → spelled_command words ≡ Err place → help_or_version_option_at words place ≡ Some applet → command_of words ≡ Ok (command_with_help_or_version_applet words applet)
unfolding command_of
asked_command_is words place applet e a = rw e (rw a refl)

pub line_is : (words : List (List ℕ)) (command : CommandLine) → spelled_command words ≡ Ok command → command_of words ≡ Ok command
unfolding command_of
line_is words command e = rw e refl

pub unasked_is : (words : List (List ℕ)) (place : ℕ) → spelled_command words ≡ Err place → help_or_version_option_at words place ≡ None → command_of words ≡ Err place
unfolding command_of
unasked_is words place e a = rw e (rw a refl)

pub offends_unasked : (words : List (List ℕ)) (place : ℕ) → command_of words ≡ Err place → IsUnasked words place
unfolding command_of
offends_unasked words place c =
    elim (spelled_command words) as (λ r. spelled_command words ≡ r → command_else_help_or_version_at_error words r ≡ Err place → IsUnasked words place) [
      | Ok command ↦ λ e (h : Ok command ≡ Err place). absurd (cc)
      | Err at ↦ λ e. elim (help_or_version_option_at words at) as (λ o. help_or_version_option_at words at ≡ o → help_or_version_or_err words at o ≡ Err place → IsUnasked words place) [
        | None ↦ λ a (h : Err at ≡ Err place). (let same : at ≡ place = cc in subst (λ p. IsUnasked words p) same (record { offends = e; unasked = a }))
        | Some applet ↦ λ a (h : Ok (command_with_help_or_version_applet words applet) ≡ Err place). absurd (cc)
      ] refl
    ] refl c

pub line_or_asked : (words : List (List ℕ)) (command : CommandLine) → command_of words ≡ Ok command → (spelled_command words ≡ Ok command) ⊎ IsAskedAt words command
unfolding command_of
line_or_asked words command c =
    elim (spelled_command words) as (λ r. spelled_command words ≡ r → command_else_help_or_version_at_error words r ≡ Ok command → (spelled_command words ≡ Ok command) ⊎ IsAskedAt words command) [
      | Ok spelled ↦ λ e (h : Ok spelled ≡ Ok command). inl (e ∙ h)
      | Err at ↦ λ e. elim (help_or_version_option_at words at) as (λ o. help_or_version_option_at words at ≡ o → help_or_version_or_err words at o ≡ Ok command → (spelled_command words ≡ Ok command) ⊎ IsAskedAt words command) [
        | None ↦ λ a (h : Err at ≡ Ok command). absurd (cc)
        | Some applet ↦ λ a (h : Ok (command_with_help_or_version_applet words applet) ≡ Ok command). (let same : command_with_help_or_version_applet words applet ≡ command = cc in inr (record { place = at; applet = applet; offends = e; asked = a; is = same }))
      ] refl
    ] refl c

-- ---- the words before the word that asks

-- none of them offends, and so the word that asks does
record IsFirst (words : List (List ℕ)) (place : ℕ) : Type 0 where
  size : length (take (place - 1) words) ≡ place - 1
  low : 1 ≤ place
  fine : (at : ℕ) → spelled_command (take (place - 1) words) ≡ Err at → length (take (place - 1) words) < at

asked_first : (words : List (List ℕ)) (place : ℕ) (applet : Applet) → spelled_command words ≡ Err place → HasAsked words place applet → IsFirst words place
asked_first words place applet e parts =
    let between = usage_between words place e in
    let size : length (take (place - 1) words) ≡ place - 1 = length-take-le (place - 1) words (omega (arith, parts.within)) in
    record { size = size; low = between.0; fine = by_after size between.0 (asked_after before parts.after parts.word (asking parts.word applet parts.asks) parts.option) }
  where
    before : List (List ℕ)
    before = take (place - 1) words

    by_after : length (take (place - 1) words) ≡ place - 1 → 1 ≤ place → IsAskedAfter (take (place - 1) words) (take (place - 1) words ++ (parts.word ∷ parts.after)) → (at : ℕ) → spelled_command before ≡ Err at → length before < at
    by_after size low (inl bad) at h =
        let same : Err place ≡ Err bad.0.0 = sym e ∙ (ap spelled_command parts.whole ∙ bad.1) in
        let is : place ≡ bad.0.0 = cc in
        absurd (let near = bad.0.2 in omega (arith, near, size, low))
    by_after size low (inr fine) at h = fine.0 at h

pub asked_line : (words : List (List ℕ)) (command : CommandLine) → IsAskedAt words command → IsHelpOrVersionAskedBy words command
asked_line words command a = subst (λ c. IsHelpOrVersionAskedBy words c) a.is here
  where
    parts : HasAsked words a.place a.applet
    parts = asked_parts words a.place a.applet a.asked

    here : IsHelpOrVersionAskedBy words (command_with_help_or_version_applet words a.applet)
    here = record {
      before = take (a.place - 1) words;
      word = parts.word;
      after = parts.after;
      whole = parts.whole;
      asks = parts.asks;
      option = parts.option;
      fine = (asked_first words a.place a.applet a.offends parts).fine;
      is = refl;
    }

pub read_or_asked : (words : List (List ℕ)) (command : CommandLine) → command_of words ≡ Ok command → AreWordsOfCommand words command ⊎ IsHelpOrVersionAskedBy words command
read_or_asked words command c = elim (line_or_asked words command c) as (λ _. AreWordsOfCommand words command ⊎ IsHelpOrVersionAskedBy words command) [
  | inl e ↦ inl (read_line words command e)
  | inr a ↦ inr (asked_line words command a)
]

pub asked_made : (words : List (List ℕ)) (command : CommandLine) → IsHelpOrVersionAskedBy words command → command_of words ≡ Ok command
asked_made words command a = by_after (asked_after a.before a.after a.word (asking a.word command.applet a.asks) a.option)
  where
    all : List (List ℕ)
    all = a.before ++ (a.word ∷ a.after)

    by_after : IsAskedAfter a.before all → command_of words ≡ Ok command
    by_after (inl bad) = absurd (let far = a.fine bad.0.0 bad.0.1 in let near = bad.0.2 in omega (arith, far, near))
    by_after (inr fine) =
        asked_command_is words (length a.before + 1) command.applet (ap spelled_command a.whole ∙ fine.1) (ap (λ ws. help_or_version_option_at ws (length a.before + 1)) a.whole ∙ asked_here a.before a.after a.word command.applet a.asks a.option)
        ∙ ap Ok (sym a.is)

pub made_or_asked : (words : List (List ℕ)) (command : CommandLine) → AreWordsOfCommand words command ⊎ IsHelpOrVersionAskedBy words command → command_of words ≡ Ok command
made_or_asked words command (inl line) = line_is words command (made_line words command line)
made_or_asked words command (inr asked) = asked_made words command asked

-- ---- more words

pub get_stays : (words more : List (List ℕ)) (i : ℕ) → i < length words → slice_get (words ++ more) i ≡ slice_get words i
get_stays [] more i l = absurd (omega (arith, l))
get_stays (word ∷ words) more zero l = refl
get_stays (word ∷ words) more (suc i) l = get_stays words more i (omega (arith, l))

pub asked_stays : (words more : List (List ℕ)) (place : ℕ) → place - 1 < length words → help_or_version_option_at (words ++ more) place ≡ help_or_version_option_at words place
asked_stays words more place l =
    ap (λ ws. if can_be_option (next_word_of_command_line ws) then option_and_then applet_of_help_or_version_option (slice_get (words ++ more) (place - 1)) else None) (take_stays (place - 1) words more (omega (arith, l)))
    ∙ ap (λ o. if can_be_option (next_word_of_command_line (take (place - 1) words)) then option_and_then applet_of_help_or_version_option o else None) (get_stays words more (place - 1) l)

pub usage_between_words : (words : List (List ℕ)) (place : ℕ) → command_of words ≡ Err place → (1 ≤ place) × (place ≤ length words + 1)
usage_between_words words place c = usage_between words place (offends_unasked words place c).offends

pub usage_stays_words : (words more : List (List ℕ)) (place : ℕ) → can_info_kind_follow words ≡ false → command_of words ≡ Err place → place ≤ length words → command_of (words ++ more) ≡ Err place
usage_stays_words words more place k c l =
    let bad = offends_unasked words place c in
    let between = usage_between words place bad.offends in
    unasked_is (words ++ more) place (usage_stays words more place k bad.offends l) (asked_stays words more place (omega (arith, between.0, l)) ∙ bad.unasked)

-- words that ask do so whatever follows
pub same_fault : (before one other : List (List ℕ)) (word : List ℕ) (place : ℕ) → HasNoMeaning word → can_be_option (next_word_of_command_line before) ≡ true → spelled_command (before ++ (word ∷ one)) ≡ Err place → spelled_command (before ++ (word ∷ other)) ≡ Err place
same_fault before one other word place m t h = by_both (asked_after before one word m t) (asked_after before other word m t)
  where
    by_both : IsAskedAfter before (before ++ (word ∷ one)) → IsAskedAfter before (before ++ (word ∷ other)) → spelled_command (before ++ (word ∷ other)) ≡ Err place
    by_both (inl a) (inl b) = b.1 ∙ (sym b.0.1 ∙ (a.0.1 ∙ (sym a.1 ∙ h)))
    by_both (inr a) (inr b) = b.1 ∙ (sym a.1 ∙ h)
    by_both (inl a) (inr b) = absurd (let far = b.0 a.0.0 a.0.1 in let near = a.0.2 in omega (arith, far, near))
    by_both (inr a) (inl b) = absurd (let far = a.0 b.0.0 b.0.1 in let near = b.0.2 in omega (arith, far, near))

pub asked_offends : (words more : List (List ℕ)) (place : ℕ) (applet : Applet) → spelled_command words ≡ Err place → help_or_version_option_at words place ≡ Some applet → spelled_command (words ++ more) ≡ Err place
asked_offends words more place applet e a =
    let parts = asked_parts words place applet a in
    let before : List (List ℕ) = take (place - 1) words in
    let longer : words ++ more ≡ before ++ (parts.word ∷ (parts.after ++ more)) = ap (λ ws. ws ++ more) parts.whole ∙ append_assoc before (parts.word ∷ parts.after) more in
    ap spelled_command longer ∙ same_fault before parts.after (parts.after ++ more) parts.word place (asking parts.word applet parts.asks) parts.option (sym (ap spelled_command parts.whole) ∙ e)

pub asked_on : (words more : List (List ℕ)) (place : ℕ) (applet : Applet) → spelled_command words ≡ Err place → help_or_version_option_at words place ≡ Some applet → command_of (words ++ more) ≡ Ok (command_with_help_or_version_applet (words ++ more) applet)
asked_on words more place applet e a =
    asked_command_is (words ++ more) place applet (asked_offends words more place applet e a) (asked_stays words more place (asked_parts words place applet a).within ∙ a)

pub offends_after_words : (words more : List (List ℕ)) (command : CommandLine) (place : ℕ) → can_info_kind_follow words ≡ false → command_of words ≡ Ok command → command_of (words ++ more) ≡ Err place → length words < place
offends_after_words words more command place k c d = by_parts (line_or_asked words command c)
  where
    by_parts : (spelled_command words ≡ Ok command) ⊎ IsAskedAt words command → length words < place
    by_parts (inl e) = offends_after words more command place k e (offends_unasked (words ++ more) place d).offends
    by_parts (inr a) = absurd (let both : Ok (command_with_help_or_version_applet (words ++ more) a.applet) ≡ Err place = sym (asked_on words more a.place a.applet a.offends a.asked) ∙ d in cc)

-- ---- what words ask for is a command

one_of_both : (word : List ℕ) (applet : Applet) → applet_of_help_or_version_option word ≡ Some applet → (Help ≡ applet) ⊎ (ProgramVersion ≡ applet)
one_of_both word applet h =
    elim (bytes_eq (codes "--help") word || bytes_eq (codes "-h") word) as (λ b. (if b then Some Help else if bytes_eq (codes "--version") word || bytes_eq (codes "-V") word then Some ProgramVersion else None) ≡ Some applet → (Help ≡ applet) ⊎ (ProgramVersion ≡ applet)) [
      | true ↦ λ (h : Some Help ≡ Some applet). inl (same_Some Help applet h)
      | false ↦ elim (bytes_eq (codes "--version") word || bytes_eq (codes "-V") word) as (λ b. (if b then Some ProgramVersion else None) ≡ Some applet → (Help ≡ applet) ⊎ (ProgramVersion ≡ applet)) [
        | true ↦ λ (h : Some ProgramVersion ≡ Some applet). inr (same_Some ProgramVersion applet h)
        | false ↦ λ (h : None ≡ Some applet). absurd (none-some applet h)
      ]
    ] h

help_sound : (words : List (List ℕ)) → is_valid_command (command_with_help_or_version_applet words Help) ≡ true
help_sound words =
    elim (applet_site 1 words) as (λ s. is_valid_command (command_from_parts_and_end_place Help no_flags (help_topic_operands s) [] (length words + 1)) ≡ true) [
      | Err place ↦ refl
      | Ok site ↦ refl
    ]

pub asked_sound : (words : List (List ℕ)) (place : ℕ) (applet : Applet) → help_or_version_option_at words place ≡ Some applet → is_valid_command (command_with_help_or_version_applet words applet) ≡ true
asked_sound words place applet a =
    let parts = asked_parts words place applet a in
    elim (one_of_both parts.word applet parts.asks) as (λ _. is_valid_command (command_with_help_or_version_applet words applet) ≡ true) [
      | inl is ↦ subst (λ x. is_valid_command (command_with_help_or_version_applet words x) ≡ true) is (help_sound words)
      | inr is ↦ subst (λ x. is_valid_command (command_with_help_or_version_applet words x) ≡ true) is refl
    ]

-- where an applet was found before the word that asks, its own options stand before it
pub asked_start : (words : List (List ℕ)) (place : ℕ) (applet : Applet) → spelled_command words ≡ Err place → help_or_version_option_at words place ≡ Some applet → is_ok (applet_site 1 words) ≡ true → is_ok (start_of_command_line words) ≡ true
unfolding spelled_command
asked_start words place applet e a n =
    elim (start_of_command_line before) as (λ s. start_of_command_line before ≡ s → is_ok (start_of_command_line words) ≡ true) [
      | Ok start ↦ λ s. ap is_ok (ap start_of_command_line parts.whole ∙ start_stays before (parts.word ∷ parts.after) start s)
      | Err at ↦ λ s. no_applet at s (no_start before at s)
    ] refl
  where
    before : List (List ℕ)
    before = take (place - 1) words

    parts : HasAsked words place applet
    parts = asked_parts words place applet a

    first : IsFirst words place
    first = asked_first words place applet e parts

    no_applet : (at : ℕ) → start_of_command_line before ≡ Err at → (applet_site 1 before ≡ Err at) ⊎ IsForeign before at → is_ok (start_of_command_line words) ≡ true
    no_applet at s (inr f) = absurd (let near = (foreign_between before at f).1 in let far = first.fine at (ap (spelled_command_by_start before) s) in omega (arith, near, far))
    no_applet at s (inl none) =
        let far = first.fine at (ap (spelled_command_by_start before) s) in
        let between = usage_between before at (ap (spelled_command_by_start before) s) in
        let is : at ≡ 1 + length before = omega (arith, far, between.1) in
        let site : applet_site 1 words ≡ Err (1 + length before) = ap (applet_site 1) parts.whole ∙ asks_first 1 before parts.after parts.word (asking parts.word applet parts.asks) parts.option (none ∙ ap Err is) in
        absurd (false≢true (sym (ap is_ok site) ∙ n))

-- the word of the applet, as it is pushed
pub topic_is : (words : List (List ℕ)) (site : AppletSite) (operands pushed : List Operand) (place : ℕ) (word : List ℕ) → applet_site 1 words ≡ Ok site → operands ≡ [] → pushed ≡ operands ++ (operand_at place word ∷ []) → place ≡ site.read - 1 + 1 → 1 ≤ site.read → word ≡ applet_word site.applet → pushed ≡ help_topic_operands (applet_site 1 words)
topic_is words site operands pushed place word s none is p low w =
    let at : place ≡ site.read = omega (arith, p, low) in
    is ∙ (ap (λ os. os ++ (operand_at place word ∷ [])) none ∙ (ap (λ n. operand_at n word ∷ []) at ∙ (ap (λ t. operand_at site.read t ∷ []) w ∙ sym (ap help_topic_operands s))))

-- The reason of a usage error before the command, or of its word, is so.
use Rattle.std.proofs.Common.{Bool, Err, List, None, Ok, Option, Some, [], ap, arith, false, inl, inr, is_ok, length, not, option_and_then, refl, subst, suc, sym, take, true, zero, ℕ, ◌++◌, ◌+◌, ◌-◌, ◌∙◌, ◌∷◌, ◌≡◌, ◌≤◌, ◌⊎◌, if◌then◌else◌}
use Rattle.std.specs.List.{slice_get}
use Rattle.std.proofs.lemmas.Bool.{false≢true}
use Rattle.std.proofs.lemmas.Option.{none-some}
use Rattle.std.proofs.lemmas.Result.{IfOk-at_ok}
use Rattle.command_core.specs.declared.command.Applet.{Applet}
use Rattle.command_core.specs.declared.command.Flags.{Flags}
use Rattle.command_core.specs.Flags.{with_flag}
use Rattle.words_core.specs.declared.next.NextWord.TheVariants.{OptionOrCommand, Command as CommandAlone}
use Rattle.words_core.specs.declared.options.Meaning.{Meaning}
use Rattle.words_core.specs.declared.options.Meaning.TheVariants.{Flag as Plain, Kind, Value}
use Rattle.words_core.specs.declared.reading.AppletSite.{AppletSite}
use Rattle.words_core.specs.declared.usage.UsageReason.TheVariants.{CommandUnknown, OptionEarly}
use Rattle.words_core.specs.Grammar.{applet_site, flags_with_options_before_applet, is_double_dash, is_option_or_double_dash, next_word_of_command_line, next_word, option_word_without_value, or_err_at, applet_site_of_word, applet_site_after_double_dash, applet_site_from_ended_read_applet, flags_with_meaning_if_one_command_kind, flags_with_option_word_if_one_command_kind, flags_with_option_if_one_command_kind}
use Rattle.words_core.specs.Options.{OptionSpec, applet_of, is_option_word_that_may_precede_applet, option_of_word, options_of}
use Rattle.words_core.specs.Reasons.{IsUsageReason}
use Rattle.words_core.specs.Usage.{command_reason}
use Rattle.words_core.proofs.Asked.{named_site, next_early, next_end}
use Rattle.words_core.proofs.AskedLines.{get_after, take_front}
use Rattle.words_core.proofs.LinesMade.{early_flag, is_flag, is_flag_meaning, says_flag}
use Rattle.words_core.proofs.LinesRead.{by_early, site_low, whole_early}
use Rattle.words_core.proofs.Reasons.{append-none, longer, next_one, shifted}
use Rattle.words_core.proofs.Sites.{err_here, flags_between, flags_end, flags_step, seek_early, seek_end, seek_here, seek_late}

-- ---- places

pub get_none : (words : List (List ℕ)) (i : ℕ) → length words ≤ i → slice_get words i ≡ None
get_none [] i l = refl
get_none (word ∷ words) zero l = absurd (omega (arith, l))
get_none (word ∷ words) (suc i) l = get_none words i (omega (arith, l))

-- ---- the place before a command, or of it

-- a word that names no command
pub record IsNoCommand (words : List (List ℕ)) (place : ℕ) : Type 0 where
  pub word : List ℕ
  pub at : slice_get words (place - 1) ≡ Some word
  pub names : applet_of word ≡ None
  pub next : (next_word_of_command_line (take (place - 1) words) ≡ CommandAlone) ⊎ ((next_word_of_command_line (take (place - 1) words) ≡ OptionOrCommand) × (is_option_or_double_dash word ≡ false))

-- an option that cannot be before the command
pub record IsLateOption (words : List (List ℕ)) (place : ℕ) : Type 0 where
  pub word : List ℕ
  pub at : slice_get words (place - 1) ≡ Some word
  pub option : is_option_or_double_dash word ≡ true
  pub early : is_option_word_that_may_precede_applet word ≡ false
  pub next : next_word_of_command_line (take (place - 1) words) ≡ OptionOrCommand

abbrev pub IsSoughtErr : List (List ℕ) → ℕ → Type 0
IsSoughtErr words place = (place ≡ length words + 1) ⊎ (IsNoCommand words place ⊎ IsLateOption words place)

no_name : (ended : Bool) (place at : ℕ) (word : List ℕ) → applet_site_of_word ended place word ≡ Err at → applet_of word ≡ None
unfolding applet_site_of_word
no_name ended place at word h =
    elim (applet_of word) as (λ o. or_err_at place (λ applet. Ok (applet_site_from_ended_read_applet ended place applet)) o ≡ Err at → o ≡ None) [
      | None ↦ λ e. refl
      | Some applet ↦ λ (e : Ok (applet_site_from_ended_read_applet ended place applet) ≡ Err at). absurd (cc)
    ] h

-- the word behind some names no command
nameless : (front words : List (List ℕ)) (word : List ℕ) (ended : Bool) (place at : ℕ) → place ≡ length front + 1 → applet_site_of_word ended place word ≡ Err at → (next_word_of_command_line front ≡ CommandAlone) ⊎ ((next_word_of_command_line front ≡ OptionOrCommand) × (is_option_or_double_dash word ≡ false)) → IsNoCommand (front ++ (word ∷ words)) at
nameless front words word ended place at p h n =
    let here : at ≡ place = err_here place at ended word h in
    let count : length front ≡ at - 1 = omega (arith, here, p) in
    record {
      word = word;
      at = subst (λ k. slice_get (front ++ (word ∷ words)) k ≡ Some word) count (get_after front words word);
      names = no_name ended place at word h;
      next = subst (λ k. (next_word_of_command_line (take k (front ++ (word ∷ words))) ≡ CommandAlone) ⊎ ((next_word_of_command_line (take k (front ++ (word ∷ words))) ≡ OptionOrCommand) × (is_option_or_double_dash word ≡ false))) count
          (subst (λ ws. (next_word_of_command_line ws ≡ CommandAlone) ⊎ ((next_word_of_command_line ws ≡ OptionOrCommand) × (is_option_or_double_dash word ≡ false))) (sym (take_front front (word ∷ words))) n);
    }

end_sought : (front words : List (List ℕ)) (at : ℕ) → next_word_of_command_line front ≡ CommandAlone → applet_site_after_double_dash (length front + 1) words ≡ Err at → IsSoughtErr (front ++ words) at
unfolding applet_site_after_double_dash
end_sought front [] at n h = (let same : length front + 1 ≡ at = cc in inl (sym same ∙ ap (λ ws. length ws + 1) (sym (append-none front))))
end_sought front (word ∷ words) at n h = inr (inl (nameless front words word true (length front + 1) at refl h (inl n)))

pub sought_err : (front words : List (List ℕ)) (at : ℕ) → next_word_of_command_line front ≡ OptionOrCommand → applet_site (length front + 1) words ≡ Err at → IsSoughtErr (front ++ words) at
sought_err front [] at n h = (let same : length front + 1 ≡ at = cc in inl (sym same ∙ ap (λ ws. length ws + 1) (sym (append-none front))))
sought_err front (word ∷ words) at n h =
    elim (is_double_dash word) as (λ b. is_double_dash word ≡ b → IsSoughtErr (front ++ (word ∷ words)) at) [
      | true ↦ λ e.
          subst (λ ws. IsSoughtErr ws at) (shifted front words word)
          (end_sought (front ++ (word ∷ [])) words at (next_one front word ∙ (ap (λ x. next_word x word) n ∙ next_end word e))
          (ap (λ k. applet_site_after_double_dash k words) (longer front word) ∙ (sym (seek_end (length front + 1) word words e) ∙ h)))
      | false ↦ λ e. elim (is_option_or_double_dash word) as (λ b. is_option_or_double_dash word ≡ b → IsSoughtErr (front ++ (word ∷ words)) at) [
        | true ↦ λ o. elim (is_option_word_that_may_precede_applet word) as (λ b. is_option_word_that_may_precede_applet word ≡ b → IsSoughtErr (front ++ (word ∷ words)) at) [
          | true ↦ λ y.
              subst (λ ws. IsSoughtErr ws at) (shifted front words word)
              (sought_err (front ++ (word ∷ [])) words at (next_one front word ∙ (ap (λ x. next_word x word) n ∙ next_early word e o))
              (ap (λ k. applet_site k words) (longer front word) ∙ (sym (seek_early (length front + 1) word words e o y) ∙ h)))
          | false ↦ λ y.
              let same : Err (length front + 1) ≡ Err at = sym (seek_late (length front + 1) word words e o y) ∙ h in
              let here : length front + 1 ≡ at = cc in
              let count : length front ≡ at - 1 = omega (arith, here) in
              inr (inr (record {
                word = word;
                at = subst (λ k. slice_get (front ++ (word ∷ words)) k ≡ Some word) count (get_after front words word);
                option = o;
                early = y;
                next = subst (λ k. next_word_of_command_line (take k (front ++ (word ∷ words))) ≡ OptionOrCommand) count (ap next_word_of_command_line (take_front front (word ∷ words)) ∙ n);
              }))
        ] refl
        | false ↦ λ o. inr (inl (nameless front words word false (length front + 1) at refl (sym (seek_here (length front + 1) word words e o) ∙ h) (inr (n, o))))
      ] refl
    ] refl

pub command_why : (words : List (List ℕ)) (place : ℕ) → applet_site 1 words ≡ Err place → IsSoughtErr words place → IsUsageReason (command_reason (next_word_of_command_line (take (place - 1) words)) (slice_get words (place - 1))) words place
command_why words place s (inl e) =
    let far : length words ≤ place - 1 = omega (arith, e) in
    subst (λ o. IsUsageReason (command_reason (next_word_of_command_line (take (place - 1) words)) o) words place) (sym (get_none words (place - 1) far))
    (e, ap (λ r. not (is_ok r)) s)
command_why words place s (inr (inl k)) =
    subst (λ o. IsUsageReason (command_reason (next_word_of_command_line (take (place - 1) words)) o) words place) (sym k.at)
    (elim k.next as (λ _. IsUsageReason (command_reason (next_word_of_command_line (take (place - 1) words)) (Some k.word)) words place) [
      | inl n ↦ subst (λ x. IsUsageReason (command_reason x (Some k.word)) words place) (sym n) (k.word, k.at, k.names)
      | inr n ↦ subst (λ x. IsUsageReason (command_reason x (Some k.word)) words place) (sym n.0)
          (subst (λ b. IsUsageReason (if b then OptionEarly else CommandUnknown) words place) (sym n.1) (k.word, k.at, k.names))
    ])
command_why words place s (inr (inr k)) =
    subst (λ o. IsUsageReason (command_reason (next_word_of_command_line (take (place - 1) words)) o) words place) (sym k.at)
    (subst (λ x. IsUsageReason (command_reason x (Some k.word)) words place) (sym k.next)
    (subst (λ b. IsUsageReason (if b then OptionEarly else CommandUnknown) words place) (sym k.option) (k.word, k.at, (k.option, ap not k.early))))

-- an option before the applet that is none of it
pub record IsForeignWord (applet : Applet) (words : List (List ℕ)) (index : ℕ) : Type 0 where
  pub word : List ℕ
  pub at : slice_get words index ≡ Some word
  pub early : is_option_word_that_may_precede_applet word ≡ true
  pub flags : Flags
  pub refused : flags_with_option_word_if_one_command_kind (options_of applet) flags word ≡ None

pub foreign_word : (flags : Flags) (place at : ℕ) (words : List (List ℕ)) (site : AppletSite) → applet_site place words ≡ Ok site → flags_with_options_before_applet (options_of site.applet) flags place (take (site.read - place) words) ≡ Err at → IsForeignWord site.applet words (at - place)
foreign_word flags place at [] site s f = absurd (cc)
foreign_word flags place at (word ∷ words) site s f =
    elim (is_double_dash word) as (λ b. is_double_dash word ≡ b → IsForeignWord site.applet (word ∷ words) (at - place)) [
      | true ↦ λ e. absurd (at_end e (site.read - place) refl)
      | false ↦ λ e. elim (is_option_or_double_dash word) as (λ b. is_option_or_double_dash word ≡ b → IsForeignWord site.applet (word ∷ words) (at - place)) [
        | true ↦ λ o. elim (is_option_word_that_may_precede_applet word) as (λ b. is_option_word_that_may_precede_applet word ≡ b → IsForeignWord site.applet (word ∷ words) (at - place)) [
          | true ↦ λ y. by_flags e y (sym (seek_early place word words e o y) ∙ s) (λ g read. foreign_word g (place + 1) at words site (sym (seek_early place word words e o y) ∙ s) read) (flags_with_option_word_if_one_command_kind (options_of site.applet) flags word) refl
          | false ↦ λ y. absurd (let both : Err place ≡ Ok site = sym (seek_late place word words e o y) ∙ s in cc)
        ] refl
        | false ↦ λ o. absurd (
            let named = named_site false place word site (sym (seek_here place word words e o) ∙ s) in
            let read : site.read ≡ place = sym (ap (λ (x : AppletSite). x.read) named.2) in
            let none : site.read - place ≡ 0 = omega (arith, read) in
            let both : Ok flags ≡ Err at = sym (ap (λ k. flags_with_options_before_applet (options_of site.applet) flags place (take k (word ∷ words))) none) ∙ f in cc
            )
      ] refl
    ] refl
  where
    at_end : is_double_dash word ≡ true → (count : ℕ) → site.read - place ≡ count → ⊥
    at_end e zero c = (let both : Ok flags ≡ Err at = sym (ap (λ k. flags_with_options_before_applet (options_of site.applet) flags place (take k (word ∷ words))) c) ∙ f in cc)
    at_end e (suc count) c = (let both : Ok flags ≡ Err at = sym (ap (λ k. flags_with_options_before_applet (options_of site.applet) flags place (take k (word ∷ words))) c ∙ flags_end (options_of site.applet) flags place word (take count words) e) ∙ f in cc)

    by_flags : is_double_dash word ≡ false → is_option_word_that_may_precede_applet word ≡ true → applet_site (place + 1) words ≡ Ok site → ((g : Flags) → flags_with_options_before_applet (options_of site.applet) g (place + 1) (take (site.read - (place + 1)) words) ≡ Err at → IsForeignWord site.applet words (at - (place + 1))) → (more : Option Flags) → flags_with_option_word_if_one_command_kind (options_of site.applet) flags word ≡ more → IsForeignWord site.applet (word ∷ words) (at - place)
    by_flags e y rest others more m =
        let least : place + 1 ≤ site.read = IfOk-at_ok (λ (x : AppletSite). place + 1 ≤ x.read) rest (site_low (place + 1) words) in
        let next : site.read - place ≡ suc (site.read - (place + 1)) = omega (arith, least) in
        let read : flags_with_options_before_applet (options_of site.applet) flags place (word ∷ take (site.read - (place + 1)) words) ≡ Err at = ap (λ k. flags_with_options_before_applet (options_of site.applet) flags place (take k (word ∷ words))) (sym next) ∙ f in
        by_option more m read
      where
        by_option : (more : Option Flags) → flags_with_option_word_if_one_command_kind (options_of site.applet) flags word ≡ more → flags_with_options_before_applet (options_of site.applet) flags place (word ∷ take (site.read - (place + 1)) words) ≡ Err at → IsForeignWord site.applet (word ∷ words) (at - place)
        by_option None m read =
            let same : Err place ≡ Err at = sym (flags_step (options_of site.applet) flags place word (take (site.read - (place + 1)) words) None e m) ∙ read in
            let here : place ≡ at = cc in
            let first : 0 ≡ at - place = omega (arith, here) in
            subst (λ i. IsForeignWord site.applet (word ∷ words) i) first (record { word = word; at = refl; early = y; flags = flags; refused = m })
        by_option (Some g) m read =
            let later : flags_with_options_before_applet (options_of site.applet) g (place + 1) (take (site.read - (place + 1)) words) ≡ Err at = sym (flags_step (options_of site.applet) flags place word (take (site.read - (place + 1)) words) (Some g) e m) ∙ read in
            let found = others g later in
            let between = flags_between (options_of site.applet) g (place + 1) at (take (site.read - (place + 1)) words) later in
            let index : suc (at - (place + 1)) ≡ at - place = omega (arith, between.0) in
            subst (λ i. IsForeignWord site.applet (word ∷ words) i) index (record { word = found.word; at = found.at; early = found.early; flags = found.flags; refused = found.refused })

-- it is not spelled by an option of the applet
pub unspelled : (applet : Applet) (flags : Flags) (word : List ℕ) → is_option_word_that_may_precede_applet word ≡ true → flags_with_option_word_if_one_command_kind (options_of applet) flags word ≡ None → option_of_word (options_of applet) (option_word_without_value word) ≡ None
unspelled applet flags word early m =
    let name : option_word_without_value word ≡ word = (whole_early word early).name in
    ap (option_of_word (options_of applet)) name ∙ by_option (option_of_word (options_of applet) word) (by_early (says_flag applet) word (early_flag applet) early) m
  where
    by_meaning : (meaning : Meaning) → is_flag_meaning meaning ≡ true → flags_with_meaning_if_one_command_kind flags meaning ≡ None → ⊥
    by_meaning (Plain flag) f n = none-some (with_flag flag flags) (sym n)
    by_meaning (Kind flag) f n = false≢true f
    by_meaning (Value rule) f n = false≢true f

    by_option : (o : Option OptionSpec) → is_flag o ≡ true → option_and_then (flags_with_option_if_one_command_kind flags) o ≡ None → o ≡ None
    by_option None f n = refl
    by_option (Some option) f n = absurd (by_meaning option.meaning f n)

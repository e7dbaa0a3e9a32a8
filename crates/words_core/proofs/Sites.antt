-- The words up to the applet, one word at a time, and with more words behind them.
use Rattle.std.proofs.Common.{Bool, Err, List, None, Ok, Option, Result, Some, [], ap, arith, false, inl, inr, length, refl, subst, suc, sym, take, true, zero, ℕ, ◌++◌, ◌+◌, ◌-◌, ◌<◌, ◌∙◌, ◌∷◌, ◌≡◌, ◌≤◌, ◌⊎◌, if◌then◌else◌}
use Rattle.std.proofs.lemmas.List.{length-take-le}
use Rattle.std.proofs.lemmas.Result.{IfOk-at_ok}
use Rattle.command_core.specs.declared.command.Flags.{Flags}
use Rattle.command_core.specs.Flags.{no_flags}
use Rattle.words_core.specs.declared.reading.AppletSite.{AppletSite}
use Rattle.words_core.specs.declared.reading.Start.{Start}
use Rattle.words_core.specs.Grammar.{applet_site, flags_with_options_before_applet, is_double_dash, is_option_or_double_dash, start_of_command_line, or_err_at, applet_site_of_word, applet_site_after_double_dash, applet_site_from_ended_read_applet, start_by_applet_site, start_with_flags_before_applet, flags_with_option_word_if_one_command_kind}
use Rattle.words_core.specs.Options.{applet_of, OptionSpec, is_option_word_that_may_precede_applet, options_of}
use Rattle.words_core.proofs.KindsKept.{IsSite, site_known, start_parts}

pub seek_end : (place : ℕ) (word : List ℕ) (words : List (List ℕ)) → is_double_dash word ≡ true → applet_site place (word ∷ words) ≡ applet_site_after_double_dash (place + 1) words
seek_end place word words e = rw e refl

pub seek_here : (place : ℕ) (word : List ℕ) (words : List (List ℕ)) → is_double_dash word ≡ false → is_option_or_double_dash word ≡ false → applet_site place (word ∷ words) ≡ applet_site_of_word false place word
seek_here place word words e o = rw e (rw o refl)

pub seek_early : (place : ℕ) (word : List ℕ) (words : List (List ℕ)) → is_double_dash word ≡ false → is_option_or_double_dash word ≡ true → is_option_word_that_may_precede_applet word ≡ true → applet_site place (word ∷ words) ≡ applet_site (place + 1) words
seek_early place word words e o y = rw e (rw o (rw y refl))

pub seek_late : (place : ℕ) (word : List ℕ) (words : List (List ℕ)) → is_double_dash word ≡ false → is_option_or_double_dash word ≡ true → is_option_word_that_may_precede_applet word ≡ false → applet_site place (word ∷ words) ≡ Err place
seek_late place word words e o y = rw e (rw o (rw y refl))

pub flags_end : (options : List OptionSpec) (flags : Flags) (place : ℕ) (word : List ℕ) (words : List (List ℕ)) → is_double_dash word ≡ true → flags_with_options_before_applet options flags place (word ∷ words) ≡ Ok flags
flags_end options flags place word words e = rw e refl

pub flags_step : (options : List OptionSpec) (flags : Flags) (place : ℕ) (word : List ℕ) (words : List (List ℕ)) (more : Option Flags) → is_double_dash word ≡ false → flags_with_option_word_if_one_command_kind options flags word ≡ more → flags_with_options_before_applet options flags place (word ∷ words) ≡ or_err_at place (λ m. flags_with_options_before_applet options m (place + 1) words) more
flags_step options flags place word words more e m = rw e (rw m refl)

-- a word that names no applet offends itself
pub err_here : (place at : ℕ) (ended : Bool) (word : List ℕ) → applet_site_of_word ended place word ≡ Err at → at ≡ place
unfolding applet_site_of_word
err_here place at ended word h =
    elim (applet_of word) as (λ o. or_err_at place (λ applet. Ok (applet_site_from_ended_read_applet ended place applet)) o ≡ Err at → at ≡ place) [
      | None ↦ λ (e : Err place ≡ Err at). cc
      | Some applet ↦ λ (e : Ok (applet_site_from_ended_read_applet ended place applet) ≡ Err at). absurd (cc)
    ] h

-- ---- more words behind

-- the applet was found, or a word offends before it
abbrev pub IsKnown : ℕ → Result AppletSite ℕ → Type 0
IsKnown behind (Ok site) = Unit {0}
IsKnown behind (Err place) = place < behind

pub end_stays : (place : ℕ) (words more : List (List ℕ)) → IsKnown (place + length words) (applet_site_after_double_dash place words) → applet_site_after_double_dash place (words ++ more) ≡ applet_site_after_double_dash place words
unfolding applet_site_after_double_dash
end_stays place [] more k = absurd (omega (arith, k))
end_stays place (word ∷ words) more k = refl

pub site_stays : (place : ℕ) (words more : List (List ℕ)) → IsKnown (place + length words) (applet_site place words) → applet_site place (words ++ more) ≡ applet_site place words
site_stays place [] more k = absurd (omega (arith, k))
site_stays place (word ∷ words) more k =
    let next : place + length (word ∷ words) ≡ place + 1 + length words = omega arith in
    elim (is_double_dash word) as (λ b. is_double_dash word ≡ b → IsKnown (place + length (word ∷ words)) (if b then applet_site_after_double_dash (place + 1) words else if is_option_or_double_dash word then (if is_option_word_that_may_precede_applet word then applet_site (place + 1) words else Err place) else applet_site_of_word false place word) → applet_site place (word ∷ (words ++ more)) ≡ (if b then applet_site_after_double_dash (place + 1) words else if is_option_or_double_dash word then (if is_option_word_that_may_precede_applet word then applet_site (place + 1) words else Err place) else applet_site_of_word false place word)) [
      | true ↦ λ e h. seek_end place word (words ++ more) e ∙ end_stays (place + 1) words more (subst (λ n. IsKnown n (applet_site_after_double_dash (place + 1) words)) next h)
      | false ↦ λ e. elim (is_option_or_double_dash word) as (λ b. is_option_or_double_dash word ≡ b → IsKnown (place + length (word ∷ words)) (if b then (if is_option_word_that_may_precede_applet word then applet_site (place + 1) words else Err place) else applet_site_of_word false place word) → applet_site place (word ∷ (words ++ more)) ≡ (if b then (if is_option_word_that_may_precede_applet word then applet_site (place + 1) words else Err place) else applet_site_of_word false place word)) [
        | true ↦ λ o. elim (is_option_word_that_may_precede_applet word) as (λ b. is_option_word_that_may_precede_applet word ≡ b → IsKnown (place + length (word ∷ words)) (if b then applet_site (place + 1) words else Err place) → applet_site place (word ∷ (words ++ more)) ≡ (if b then applet_site (place + 1) words else Err place)) [
          | true ↦ λ y h. seek_early place word (words ++ more) e o y ∙ site_stays (place + 1) words more (subst (λ n. IsKnown n (applet_site (place + 1) words)) next h)
          | false ↦ λ y h. seek_late place word (words ++ more) e o y
        ] refl
        | false ↦ λ o h. seek_here place word (words ++ more) e o
      ] refl
    ] refl k

pub take_stays : (count : ℕ) (words more : List (List ℕ)) → count ≤ length words → take count (words ++ more) ≡ take count words
take_stays zero words more l = refl
take_stays (suc count) [] more l = absurd (omega (arith, l))
take_stays (suc count) (word ∷ words) more l = ap (λ ws. word ∷ ws) (take_stays count words more (omega (arith, l)))

-- flags that offend do so whatever follows
pub flags_offend : (options : List OptionSpec) (flags : Flags) (place at : ℕ) (words more : List (List ℕ)) → flags_with_options_before_applet options flags place words ≡ Err at → flags_with_options_before_applet options flags place (words ++ more) ≡ Err at
flags_offend options flags place at [] more h = absurd (cc)
flags_offend options flags place at (word ∷ words) more h =
    elim (is_double_dash word) as (λ b. is_double_dash word ≡ b → flags_with_options_before_applet options flags place (word ∷ (words ++ more)) ≡ Err at) [
      | true ↦ λ e. absurd (let same : Ok flags ≡ Err at = sym (flags_end options flags place word words e) ∙ h in cc)
      | false ↦ λ e. elim (flags_with_option_word_if_one_command_kind options flags word) as (λ m. flags_with_option_word_if_one_command_kind options flags word ≡ m → flags_with_options_before_applet options flags place (word ∷ (words ++ more)) ≡ Err at) [
        | None ↦ λ m. flags_step options flags place word (words ++ more) None e m ∙ (sym (flags_step options flags place word words None e m) ∙ h)
        | Some g ↦ λ m. flags_step options flags place word (words ++ more) (Some g) e m
            ∙ flags_offend options g (place + 1) at words more (sym (flags_step options flags place word words (Some g) e m) ∙ h)
      ] refl
    ] refl

pub flags_between : (options : List OptionSpec) (flags : Flags) (place at : ℕ) (words : List (List ℕ)) → flags_with_options_before_applet options flags place words ≡ Err at → (place ≤ at) × (at < place + length words)
flags_between options flags place at [] h = absurd (cc)
flags_between options flags place at (word ∷ words) h =
    elim (is_double_dash word) as (λ b. is_double_dash word ≡ b → (place ≤ at) × (at < place + length (word ∷ words))) [
      | true ↦ λ e. absurd (let same : Ok flags ≡ Err at = sym (flags_end options flags place word words e) ∙ h in cc)
      | false ↦ λ e. elim (flags_with_option_word_if_one_command_kind options flags word) as (λ m. flags_with_option_word_if_one_command_kind options flags word ≡ m → (place ≤ at) × (at < place + length (word ∷ words))) [
        | None ↦ λ m. (let same : Err place ≡ Err at = sym (flags_step options flags place word words None e m) ∙ h in let is : place ≡ at = cc in (omega arith, omega arith))
        | Some g ↦ λ m. (let rest = flags_between options g (place + 1) at words (sym (flags_step options flags place word words (Some g) e m) ∙ h) in (omega (arith, rest.0), omega (arith, rest.1)))
      ] refl
    ] refl

-- ---- the start of a line

pub start_stays : (words more : List (List ℕ)) (start : Start) → start_of_command_line words ≡ Ok start → start_of_command_line (words ++ more) ≡ Ok start
start_stays words more start s =
    let parts = start_parts words start s in
    let site : IsSite parts.site (1 + length words) = IfOk-at_ok (λ x. IsSite x (1 + length words)) parts.found (site_known 1 (1 + length words) words (omega arith) (omega arith)) in
    let less : parts.site.read - 1 ≤ length words = omega (arith, site.read) in
    let found : applet_site 1 (words ++ more) ≡ Ok parts.site = site_stays 1 words more (subst (λ r. IsKnown (1 + length words) r) (sym parts.found) tt) ∙ parts.found in
    ap (start_by_applet_site (words ++ more)) found
    ∙ (ap (λ ws. start_with_flags_before_applet parts.site (flags_with_options_before_applet (options_of parts.site.applet) no_flags 1 ws)) (take_stays (parts.site.read - 1) words more less)
    ∙ (ap (start_with_flags_before_applet parts.site) parts.early ∙ ap Ok parts.same))

-- why there is no start: the search for the applet ends, or an option before it is not its own
pub record IsForeign (words : List (List ℕ)) (at : ℕ) : Type 0 where
  pub site : AppletSite
  pub found : applet_site 1 words ≡ Ok site
  pub early : flags_with_options_before_applet (options_of site.applet) no_flags 1 (take (site.read - 1) words) ≡ Err at

pub no_start : (words : List (List ℕ)) (at : ℕ) → start_of_command_line words ≡ Err at → (applet_site 1 words ≡ Err at) ⊎ IsForeign words at
no_start words at e =
    elim (applet_site 1 words) as (λ s. applet_site 1 words ≡ s → start_by_applet_site words s ≡ Err at → (applet_site 1 words ≡ Err at) ⊎ IsForeign words at) [
      | Err place ↦ λ s (h : Err place ≡ Err at). (let is : place ≡ at = cc in inl (s ∙ ap Err is))
      | Ok site ↦ λ s h. by_flags site s (flags_with_options_before_applet (options_of site.applet) no_flags 1 (take (site.read - 1) words)) refl h
    ] refl e
  where
    by_flags : (site : AppletSite) → applet_site 1 words ≡ Ok site → (f : Result Flags ℕ) → flags_with_options_before_applet (options_of site.applet) no_flags 1 (take (site.read - 1) words) ≡ f → start_with_flags_before_applet site f ≡ Err at → (applet_site 1 words ≡ Err at) ⊎ IsForeign words at
    by_flags site s (Ok flags) f h = absurd (cc)
    by_flags site s (Err place) f h = (let same : Err place ≡ Err at = cc in inr (record { site = site; found = s; early = f ∙ same }))

-- an option that is not the applet's offends before the applet
pub foreign_between : (words : List (List ℕ)) (at : ℕ) (f : IsForeign words at) → (1 ≤ at) × (at ≤ length words) × (f.site.read - 1 ≤ length words)
foreign_between words at f =
    let site : IsSite f.site (1 + length words) = IfOk-at_ok (λ x. IsSite x (1 + length words)) f.found (site_known 1 (1 + length words) words (omega arith) (omega arith)) in
    let less : f.site.read - 1 ≤ length words = omega (arith, site.read) in
    let is = flags_between (options_of f.site.applet) no_flags 1 at (take (f.site.read - 1) words) f.early in
    let size : length (take (f.site.read - 1) words) ≡ f.site.read - 1 = length-take-le (f.site.read - 1) words less in
    (is.0, omega (arith, is.1, size), less)

pub no_start_stays : (words more : List (List ℕ)) (at : ℕ) → start_of_command_line words ≡ Err at → at ≤ length words → start_of_command_line (words ++ more) ≡ Err at
no_start_stays words more at e l =
    elim (no_start words at e) as (λ _. start_of_command_line (words ++ more) ≡ Err at) [
      | inl s ↦
          (let known : at < 1 + length words = omega arith in
          ap (start_by_applet_site (words ++ more)) (site_stays 1 words more (subst (λ r. IsKnown (1 + length words) r) (sym s) known) ∙ s))
      | inr f ↦
          (let between = foreign_between words at f in
          let found : applet_site 1 (words ++ more) ≡ Ok f.site = site_stays 1 words more (subst (λ r. IsKnown (1 + length words) r) (sym f.found) tt) ∙ f.found in
          ap (start_by_applet_site (words ++ more)) found
          ∙ (ap (λ ws. start_with_flags_before_applet f.site (flags_with_options_before_applet (options_of f.site.applet) no_flags 1 ws)) (take_stays (f.site.read - 1) words more between.2)
          ∙ ap (start_with_flags_before_applet f.site) f.early))
    ]

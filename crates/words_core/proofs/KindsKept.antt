-- The flags of a line that is read: each is one of the applet's, and at most one says of which kind the command is.
use Rattle.std.proofs.Common.{Bool, Err, IfOk, List, None, Ok, Option, Result, Some, [], ap, arith, cond, false, inl, inr, length, not, refl, subst, suc, sym, take, true, zero, ℕ, ◌+◌, ◌-◌, ◌<◌, ◌∙◌, ◌∷◌, ◌≡◌, ◌≤◌, ◌⊎◌, if◌then◌else◌}
use Rattle.std.specs.List.{find, list_all, list_any, slice_get}
use Rattle.std.specs.Prelude.{◌&&◌, ◌||◌}
use Rattle.std.specs.Str.{bytes_eq}
use Rattle.std.proofs.lemmas.Bool.{and_from, and_parts, false≢true, true≢false}
use Rattle.std.proofs.lemmas.Option.{none-some, option_and_then_some, same_Some}
use Rattle.std.proofs.lemmas.Result.{IfOk-at_ok}
use Rattle.base_core.proofs.Booleans.{implied, implies}
use Rattle.command_core.specs.declared.command.Applet.{Applet}
use Rattle.command_core.specs.declared.command.Applet.TheVariants.{Add}
use Rattle.command_core.specs.declared.command.Flag.{Flag}
use Rattle.command_core.specs.declared.command.Flag.TheVariants.{AllowUntrusted, Check, Contents, Depends, Initdb, Installed, NoScripts, Purge, Simulate, Test, WhoOwns}
use Rattle.command_core.specs.declared.command.Flags.{Flags}
use Rattle.command_core.specs.Sound.{allowed_flags, may_have_flags, all_flags, are_flags_allowed, has_at_most_one}
use Rattle.command_core.specs.Flags.{has_flag, has_command_kind_flag, command_kind_flags, no_flags, with_flag}
use Rattle.words_core.specs.declared.options.Meaning.{Meaning}
use Rattle.words_core.specs.declared.options.Meaning.TheVariants.{Flag as Plain, Kind, Value}
use Rattle.words_core.specs.declared.reading.AppletSite.{AppletSite}
use Rattle.words_core.specs.declared.reading.Start.{Start}
use Rattle.words_core.specs.Grammar.{applet_site, flags_with_options_before_applet, is_double_dash, is_option_or_double_dash, start_of_command_line, or_err_at, applet_site_of_word, applet_site_after_double_dash, applet_site_from_ended_read_applet, start_from_parts, start_by_applet_site, start_with_flags_before_applet, flags_with_meaning_if_one_command_kind, flags_with_option_word_if_one_command_kind, flags_with_option_if_one_command_kind}
use Rattle.words_core.specs.Options.{OptionSpec, applet_of, common_options, is_option_word_that_may_precede_applet, option_of_word, options_of}

-- ---- tests on lists
pub find_passes : {A : Type 0} (q p : A → Bool) (xs : List A) (x : A) → list_all q xs ≡ true → find p xs ≡ Some x → q x ≡ true
find_passes q p [] x h e = absurd (none-some x e)
find_passes q p (y ∷ ys) x h e =
    let parts = and_parts (q y) (list_all q ys) h in
    elim (p y) as (λ b. cond b (Some y) (find p ys) ≡ Some x → q x ≡ true) [
      | true ↦ λ (same : Some y ≡ Some x). subst (λ z. q z ≡ true) (same_Some y x same) parts.0
      | false ↦ λ (later : find p ys ≡ Some x). find_passes q p ys x parts.1 later
    ] e

pub passes_at : {A : Type 0} (p : A → Bool) (xs : List A) (i : ℕ) (x : A) → list_all p xs ≡ true → slice_get xs i ≡ Some x → p x ≡ true
passes_at p [] i x h e = cc
passes_at p (y ∷ ys) zero x h e = (let same : y ≡ x = cc in subst (λ z. p z ≡ true) same (and_parts (p y) (list_all p ys) h).0)
passes_at p (y ∷ ys) (suc i) x h e = passes_at p ys i x (and_parts (p y) (list_all p ys) h).1 e

pub all_from : {A : Type 0} (p : A → Bool) (xs : List A) → ((x : A) → p x ≡ true) → list_all p xs ≡ true
all_from p [] h = refl
all_from p (x ∷ xs) h = and_from (p x) (list_all p xs) (h x) (all_from p xs h)

pub all_weaken : {A : Type 0} (p q : A → Bool) (xs : List A) → ((x : A) → p x ≡ true → q x ≡ true) → list_all p xs ≡ true → list_all q xs ≡ true
all_weaken p q [] w h = refl
all_weaken p q (x ∷ xs) w h =
    let parts = and_parts (p x) (list_all p xs) h in
    and_from (q x) (list_all q xs) (w x parts.0) (all_weaken p q xs w parts.1)

-- ---- flags among those that are allowed

all_listed : (p : Flag → Bool) (f : Flag) → list_all p all_flags ≡ true → p f ≡ true
all_listed p AllowUntrusted h = passes_at p all_flags 0 AllowUntrusted h refl
all_listed p NoScripts h = passes_at p all_flags 1 NoScripts h refl
all_listed p Initdb h = passes_at p all_flags 2 Initdb h refl
all_listed p Simulate h = passes_at p all_flags 3 Simulate h refl
all_listed p Purge h = passes_at p all_flags 4 Purge h refl
all_listed p Installed h = passes_at p all_flags 5 Installed h refl
all_listed p Contents h = passes_at p all_flags 6 Contents h refl
all_listed p Depends h = passes_at p all_flags 7 Depends h refl
all_listed p WhoOwns h = passes_at p all_flags 8 WhoOwns h refl
all_listed p Test h = passes_at p all_flags 9 Test h refl
all_listed p Check h = passes_at p all_flags 10 Check h refl

pub within_at : (allowed flags : Flags) (f : Flag) → are_flags_allowed allowed flags ≡ true → has_flag f flags ≡ true → has_flag f allowed ≡ true
within_at allowed flags f w h =
    implied (has_flag f flags) (has_flag f allowed) (all_listed (λ g. not (has_flag g flags) || has_flag g allowed) f w) h

pub within_from : (allowed flags : Flags) → ((f : Flag) → has_flag f flags ≡ true → has_flag f allowed ≡ true) → are_flags_allowed allowed flags ≡ true
within_from allowed flags h =
    all_from (λ g. not (has_flag g flags) || has_flag g allowed) all_flags (λ g. implies (has_flag g flags) (has_flag g allowed) (h g))

has_with : (allowed flags : Flags) (g f : Flag) → has_flag g allowed ≡ true → (has_flag f flags ≡ true → has_flag f allowed ≡ true) → has_flag f (with_flag g flags) ≡ true → has_flag f allowed ≡ true
has_with a s AllowUntrusted AllowUntrusted o k h = o
has_with a s NoScripts NoScripts o k h = o
has_with a s Initdb Initdb o k h = o
has_with a s Simulate Simulate o k h = o
has_with a s Purge Purge o k h = o
has_with a s Installed Installed o k h = o
has_with a s Contents Contents o k h = o
has_with a s Depends Depends o k h = o
has_with a s WhoOwns WhoOwns o k h = o
has_with a s Test Test o k h = o
has_with a s Check Check o k h = o
has_with a s g f o k h = k h

pub has_more : (flags : Flags) (g f : Flag) → has_flag f flags ≡ true → has_flag f (with_flag g flags) ≡ true
has_more s AllowUntrusted AllowUntrusted h = refl
has_more s NoScripts NoScripts h = refl
has_more s Initdb Initdb h = refl
has_more s Simulate Simulate h = refl
has_more s Purge Purge h = refl
has_more s Installed Installed h = refl
has_more s Contents Contents h = refl
has_more s Depends Depends h = refl
has_more s WhoOwns WhoOwns h = refl
has_more s Test Test h = refl
has_more s Check Check h = refl
has_more s g f h = h

pub has_it : (flags : Flags) (g : Flag) → has_flag g (with_flag g flags) ≡ true
has_it s AllowUntrusted = refl
has_it s NoScripts = refl
has_it s Initdb = refl
has_it s Simulate = refl
has_it s Purge = refl
has_it s Installed = refl
has_it s Contents = refl
has_it s Depends = refl
has_it s WhoOwns = refl
has_it s Test = refl
has_it s Check = refl

pub same_with : (flags : Flags) (g : Flag) → has_flag g flags ≡ true → with_flag g flags ≡ flags
same_with s AllowUntrusted h = ap (λ b. record s { allow_untrusted = b }) (sym h)
same_with s NoScripts h = ap (λ b. record s { no_scripts = b }) (sym h)
same_with s Initdb h = ap (λ b. record s { initdb = b }) (sym h)
same_with s Simulate h = ap (λ b. record s { simulate = b }) (sym h)
same_with s Purge h = ap (λ b. record s { purge = b }) (sym h)
same_with s Installed h = ap (λ b. record s { installed = b }) (sym h)
same_with s Contents h = ap (λ b. record s { contents = b }) (sym h)
same_with s Depends h = ap (λ b. record s { depends = b }) (sym h)
same_with s WhoOwns h = ap (λ b. record s { who_owns = b }) (sym h)
same_with s Test h = ap (λ b. record s { test = b }) (sym h)
same_with s Check h = ap (λ b. record s { check = b }) (sym h)

pub within_with : (allowed flags : Flags) (g : Flag) → has_flag g allowed ≡ true → are_flags_allowed allowed flags ≡ true → are_flags_allowed allowed (with_flag g flags) ≡ true
within_with allowed flags g o w =
    within_from allowed (with_flag g flags) (λ f h. has_with allowed flags g f o (λ k. within_at allowed flags f w k) h)

pub within_less : (allowed flags : Flags) (g : Flag) → are_flags_allowed allowed (with_flag g flags) ≡ true → are_flags_allowed allowed flags ≡ true
within_less allowed flags g w =
    within_from allowed flags (λ f h. within_at allowed (with_flag g flags) f w (has_more flags g f h))

-- ---- command_kind_flags

abbrev pub is_kind : Flag → Bool
is_kind Installed = true
is_kind Contents = true
is_kind Depends = true
is_kind WhoOwns = true
is_kind Test = true
is_kind Check = true
is_kind flag = false

-- a flag that is no kind changes nothing
single_plain : (g : Flag) (flags : Flags) → is_kind g ≡ false → has_at_most_one command_kind_flags flags ≡ true → has_at_most_one command_kind_flags (with_flag g flags) ≡ true
single_plain Installed flags k s = absurd (true≢false k)
single_plain Contents flags k s = absurd (true≢false k)
single_plain Depends flags k s = absurd (true≢false k)
single_plain WhoOwns flags k s = absurd (true≢false k)
single_plain Test flags k s = absurd (true≢false k)
single_plain Check flags k s = absurd (true≢false k)
single_plain g flags k s = s

abbrev flags_by : Bool → Bool → Bool → Bool → Bool → Bool → Bool → Bool → Bool → Bool → Bool → Flags
flags_by a b c d e i o p w t k = record {
  allow_untrusted = a;
  no_scripts = b;
  initdb = c;
  simulate = d;
  purge = e;
  installed = i;
  contents = o;
  depends = p;
  who_owns = w;
  test = t;
  check = k;
}

-- the first kind is the only one
single_first_by : (g : Flag) (a b c d e i o p w t k : Bool) → has_command_kind_flag (flags_by a b c d e i o p w t k) ≡ false → has_at_most_one command_kind_flags (with_flag g (flags_by a b c d e i o p w t k)) ≡ true
single_first_by g a b c d e true o p w t k h = absurd (true≢false h)
single_first_by g a b c d e false true p w t k h = absurd (true≢false h)
single_first_by g a b c d e false false true w t k h = absurd (true≢false h)
single_first_by g a b c d e false false false true t k h = absurd (true≢false h)
single_first_by g a b c d e false false false false true k h = absurd (true≢false h)
single_first_by g a b c d e false false false false false true h = absurd (true≢false h)
single_first_by AllowUntrusted a b c d e false false false false false false h = refl
single_first_by NoScripts a b c d e false false false false false false h = refl
single_first_by Initdb a b c d e false false false false false false h = refl
single_first_by Simulate a b c d e false false false false false false h = refl
single_first_by Purge a b c d e false false false false false false h = refl
single_first_by Installed a b c d e false false false false false false h = refl
single_first_by Contents a b c d e false false false false false false h = refl
single_first_by Depends a b c d e false false false false false false h = refl
single_first_by WhoOwns a b c d e false false false false false false h = refl
single_first_by Test a b c d e false false false false false false h = refl
single_first_by Check a b c d e false false false false false false h = refl

pub single_first : (g : Flag) (s : Flags) → has_command_kind_flag s ≡ false → has_at_most_one command_kind_flags (with_flag g s) ≡ true
single_first g s h = single_first_by g s.allow_untrusted s.no_scripts s.initdb s.simulate s.purge s.installed s.contents s.depends s.who_owns s.test s.check h

any_more : (flags more : Flags) (xs : List Flag) → ((f : Flag) → has_flag f flags ≡ true → has_flag f more ≡ true) → list_any (λ f. has_flag f flags) xs ≡ true → list_any (λ f. has_flag f more) xs ≡ true
any_more flags more [] m h = h
any_more flags more (x ∷ xs) m h =
    elim (has_flag x flags) as (λ b. has_flag x flags ≡ b → (b || list_any (λ f. has_flag f flags) xs) ≡ true → list_any (λ f. has_flag f more) (x ∷ xs) ≡ true) [
      | true ↦ λ e h. rw (m x e) refl
      | false ↦ λ e h. or_later (has_flag x more) (list_any (λ f. has_flag f more) xs) (any_more flags more xs m h)
    ] refl h
  where
    or_later : (b c : Bool) → c ≡ true → (b || c) ≡ true
    or_later true c h = refl
    or_later false c h = h

not_both : (a b c d : Bool) → (a ≡ true → c ≡ true) → (b ≡ true → d ≡ true) → not (c && d) ≡ true → not (a && b) ≡ true
not_both false b c d m n h = refl
not_both true false c d m n h = refl
not_both true true c d m n h = (let both : (c && d) ≡ true = rw (m refl) (n refl) in absurd (false≢true (sym (ap not both) ∙ h)))

-- with fewer flags at most one still is a kind
pub single_less : (flags more : Flags) (xs : List Flag) → ((f : Flag) → has_flag f flags ≡ true → has_flag f more ≡ true) → has_at_most_one xs more ≡ true → has_at_most_one xs flags ≡ true
single_less flags more [] m h = refl
single_less flags more (x ∷ xs) m h =
    let parts = and_parts (not (has_flag x more && list_any (λ f. has_flag f more) xs)) (has_at_most_one xs more) h in
    and_from (not (has_flag x flags && list_any (λ f. has_flag f flags) xs)) (has_at_most_one xs flags)
    (not_both (has_flag x flags) (list_any (λ f. has_flag f flags) xs) (has_flag x more) (list_any (λ f. has_flag f more) xs) (m x) (any_more flags more xs m) parts.0)
    (single_less flags more xs m parts.1)

abbrev IsOneOf : Flag → List Flag → Type 0
IsOneOf g [] = ⊥
IsOneOf g (x ∷ xs) = (g ≡ x) ⊎ IsOneOf g xs

any_among : (more : Flags) (g : Flag) (xs : List Flag) → IsOneOf g xs → has_flag g more ≡ true → list_any (λ f. has_flag f more) xs ≡ true
any_among more g [] among h = absurd among
any_among more g (x ∷ xs) (inl e) h = rw (ap (λ f. has_flag f more) (sym e) ∙ h) refl
any_among more g (x ∷ xs) (inr later) h = rw (any_among more g xs later h) (or_true (has_flag x more))
  where
    or_true : (b : Bool) → (b || true) ≡ true
    or_true true = refl
    or_true false = refl

-- a second kind is one too many
clash : (flags more : Flags) (g : Flag) (xs : List Flag) → ((f : Flag) → has_flag f flags ≡ true → has_flag f more ≡ true) → has_flag g flags ≡ false → has_flag g more ≡ true → IsOneOf g xs → list_any (λ f. has_flag f flags) xs ≡ true → has_at_most_one xs more ≡ false
clash flags more g [] m n o among h = absurd among
clash flags more g (x ∷ xs) m n o (inl e) h =
    let none : has_flag x flags ≡ false = ap (λ f. has_flag f flags) (sym e) ∙ n in
    let any : list_any (λ f. has_flag f flags) xs ≡ true = ap (λ b. b || list_any (λ f. has_flag f flags) xs) (sym none) ∙ h in
    rw (ap (λ f. has_flag f more) (sym e) ∙ o) (rw (any_more flags more xs m any) refl)
clash flags more g (x ∷ xs) m n o (inr later) h =
    elim (has_flag x flags) as (λ b. has_flag x flags ≡ b → (b || list_any (λ f. has_flag f flags) xs) ≡ true → has_at_most_one (x ∷ xs) more ≡ false) [
      | true ↦ λ e h. rw (m x e) (rw (any_among more g xs later o) refl)
      | false ↦ λ e h. and_false (not (has_flag x more && list_any (λ f. has_flag f more) xs)) (has_at_most_one xs more) (clash flags more g xs m n o later h)
    ] refl h
  where
    and_false : (b c : Bool) → c ≡ false → (b && c) ≡ false
    and_false true c h = h
    and_false false c h = refl

among_kinds : (g : Flag) → is_kind g ≡ true → IsOneOf g command_kind_flags
among_kinds Installed k = inl refl
among_kinds Contents k = inr (inl refl)
among_kinds Depends k = inr (inr (inl refl))
among_kinds WhoOwns k = inr (inr (inr (inl refl)))
among_kinds Test k = inr (inr (inr (inr (inl refl))))
among_kinds Check k = inr (inr (inr (inr (inr (inl refl)))))
among_kinds g k = absurd (false≢true k)

pub second_kind : (g : Flag) (flags : Flags) → is_kind g ≡ true → has_command_kind_flag flags ≡ true → has_flag g flags ≡ false → has_at_most_one command_kind_flags (with_flag g flags) ≡ false
second_kind g flags k h n = clash flags (with_flag g flags) g command_kind_flags (has_more flags g) n (has_it flags g) (among_kinds g k) h

-- ---- the flags of an applet

-- whether the flags behind an option, if it may stand, pass a test
abbrev pub pass_or_none : (Flags → Bool) → Option Flags → Bool
pass_or_none test None = true
pass_or_none test (Some more) = test more

-- whether what an option says is for the applet
abbrev pub is_own_meaning : Applet → Meaning → Bool
is_own_meaning applet (Plain flag) = has_flag flag (allowed_flags applet) && not (is_kind flag)
is_own_meaning applet (Kind flag) = has_flag flag (allowed_flags applet) && is_kind flag
is_own_meaning applet (Value rule) = true

abbrev pub is_own_option : Applet → OptionSpec → Bool
is_own_option applet option = is_own_meaning applet option.meaning

pub own_meanings : (applet : Applet) → list_all (is_own_option applet) (options_of applet) ≡ true
unfolding common_options options_of
own_meanings Add = refl
own_meanings applet = refl

may_have_with : (applet : Applet) (flags : Flags) (g : Flag) → has_flag g (allowed_flags applet) ≡ true → has_at_most_one command_kind_flags (with_flag g flags) ≡ true → may_have_flags applet flags ≡ true → may_have_flags applet (with_flag g flags) ≡ true
may_have_with applet flags g o s m =
    and_from (are_flags_allowed (allowed_flags applet) (with_flag g flags)) (has_at_most_one command_kind_flags (with_flag g flags))
    (within_with (allowed_flags applet) flags g o (and_parts (are_flags_allowed (allowed_flags applet) flags) (has_at_most_one command_kind_flags flags) m).0) s

pub meaning_kept : (applet : Applet) (flags : Flags) (meaning : Meaning) → is_own_meaning applet meaning ≡ true → may_have_flags applet flags ≡ true → pass_or_none (may_have_flags applet) (flags_with_meaning_if_one_command_kind flags meaning) ≡ true
meaning_kept applet flags (Value rule) o m = refl
meaning_kept applet flags (Plain g) o m =
    let own = and_parts (has_flag g (allowed_flags applet)) (not (is_kind g)) o in
    may_have_with applet flags g own.0 (single_plain g flags (is_not (is_kind g) own.1) (and_parts (are_flags_allowed (allowed_flags applet) flags) (has_at_most_one command_kind_flags flags) m).1) m
  where
    is_not : (b : Bool) → not b ≡ true → b ≡ false
    is_not true h = sym h
    is_not false h = refl
meaning_kept applet flags (Kind g) o m =
    let own = and_parts (has_flag g (allowed_flags applet)) (is_kind g) o in
    elim (has_command_kind_flag flags) as (λ b. has_command_kind_flag flags ≡ b → pass_or_none (may_have_flags applet) (if b && not (has_flag g flags) then None else Some (with_flag g flags)) ≡ true) [
      | false ↦ λ n. may_have_with applet flags g own.0 (single_first g flags n) m
      | true ↦ λ n. elim (has_flag g flags) as (λ b. has_flag g flags ≡ b → pass_or_none (may_have_flags applet) (if not b then None else Some (with_flag g flags)) ≡ true) [
        | true ↦ λ e. ap (may_have_flags applet) (same_with flags g e) ∙ m
        | false ↦ λ e. refl
      ] refl
    ] refl

-- flags with an option of a table pass, where they do with each of its options
pub option_passes : (test : Flags → Bool) (options : List OptionSpec) (flags more : Flags) (word : List ℕ) → list_all (λ o. pass_or_none test (flags_with_option_if_one_command_kind flags o)) options ≡ true → flags_with_option_word_if_one_command_kind options flags word ≡ Some more → test more ≡ true
option_passes test options flags more word each e =
    option_and_then_some (flags_with_option_if_one_command_kind flags) (option_of_word options word) more e
    (λ found is made. subst (λ o. pass_or_none test o ≡ true) made (find_passes (λ x. pass_or_none test (flags_with_option_if_one_command_kind flags x)) (λ (x : OptionSpec). bytes_eq x.long word || bytes_eq x.short word) options found each is))

-- the options of an applet leave it at most one kind
pub options_kept : (applet : Applet) (flags : Flags) → may_have_flags applet flags ≡ true → list_all (λ o. pass_or_none (may_have_flags applet) (flags_with_option_if_one_command_kind flags o)) (options_of applet) ≡ true
options_kept applet flags m =
    all_weaken (is_own_option applet) (λ o. pass_or_none (may_have_flags applet) (flags_with_option_if_one_command_kind flags o)) (options_of applet)
    (λ o own. meaning_kept applet flags o.meaning own m) (own_meanings applet)

-- ---- the applet, and the flags before it

pub record IsSite (site : AppletSite) (behind : ℕ) : Type 0 where
  pub low : 1 ≤ site.read
  pub read : site.read < behind

pub named_known : (ended : Bool) (place behind : ℕ) (word : List ℕ) → 1 ≤ place → place < behind → IfOk (applet_site_of_word ended place word) (λ s. IsSite s behind)
unfolding applet_site_of_word
named_known ended place behind word low l =
    elim (applet_of word) as (λ o. applet_of word ≡ o → IfOk (or_err_at place (λ applet. Ok (applet_site_from_ended_read_applet ended place applet)) o) (λ s. IsSite s behind)) [
      | None ↦ λ e. tt
      | Some applet ↦ λ e. record { low = low; read = l }
    ] refl

pub after_end_known : (place behind : ℕ) (words : List (List ℕ)) → 1 ≤ place → place + length words ≤ behind → IfOk (applet_site_after_double_dash place words) (λ s. IsSite s behind)
unfolding applet_site_after_double_dash
after_end_known place behind [] low l = tt
after_end_known place behind (word ∷ words) low l = named_known true place behind word low (omega arith)

pub site_known : (place behind : ℕ) (words : List (List ℕ)) → 1 ≤ place → place + length words ≤ behind → IfOk (applet_site place words) (λ s. IsSite s behind)
site_known place behind [] low l = tt
site_known place behind (word ∷ words) low l =
    let less : place + 1 + length words ≤ behind = omega arith in
    let next : 1 ≤ place + 1 = omega arith in
    elim (is_double_dash word) as (λ b. IfOk (if b then applet_site_after_double_dash (place + 1) words else if is_option_or_double_dash word then (if is_option_word_that_may_precede_applet word then applet_site (place + 1) words else Err place) else applet_site_of_word false place word) (λ s. IsSite s behind)) [
      | true ↦ after_end_known (place + 1) behind words next less
      | false ↦ elim (is_option_or_double_dash word) as (λ b. IfOk (if b then (if is_option_word_that_may_precede_applet word then applet_site (place + 1) words else Err place) else applet_site_of_word false place word) (λ s. IsSite s behind)) [
        | true ↦ elim (is_option_word_that_may_precede_applet word) as (λ b. IfOk (if b then applet_site (place + 1) words else Err place) (λ s. IsSite s behind)) [
          | true ↦ site_known (place + 1) behind words next less
          | false ↦ tt
        ]
        | false ↦ named_known false place behind word low (omega arith)
      ]
    ]

pub early_kept : (applet : Applet) (flags : Flags) (place : ℕ) (words : List (List ℕ)) → may_have_flags applet flags ≡ true → IfOk (flags_with_options_before_applet (options_of applet) flags place words) (λ more. may_have_flags applet more ≡ true)
early_kept applet flags place [] m = m
early_kept applet flags place (word ∷ words) m =
    elim (is_double_dash word) as (λ b. IfOk (if b then Ok flags else or_err_at place (λ more. flags_with_options_before_applet (options_of applet) more (place + 1) words) (flags_with_option_word_if_one_command_kind (options_of applet) flags word)) (λ more. may_have_flags applet more ≡ true)) [
      | true ↦ m
      | false ↦ elim (flags_with_option_word_if_one_command_kind (options_of applet) flags word) as (λ o. flags_with_option_word_if_one_command_kind (options_of applet) flags word ≡ o → IfOk (or_err_at place (λ more. flags_with_options_before_applet (options_of applet) more (place + 1) words) o) (λ more. may_have_flags applet more ≡ true)) [
        | None ↦ λ e. tt
        | Some more ↦ λ e. early_kept applet more (place + 1) words (option_passes (may_have_flags applet) (options_of applet) flags more word (options_kept applet flags m) e)
      ] refl
    ]

-- what is known of where the applet was found
pub record IsPlain (start : Start) (behind : ℕ) : Type 0 where
  pub flags : may_have_flags start.applet start.flags ≡ true
  pub read : start.read < behind

none_had : (applet : Applet) → may_have_flags applet no_flags ≡ true
none_had applet = refl

-- the parts of a start that was found
pub record IsStart (words : List (List ℕ)) (start : Start) : Type 0 where
  pub site : AppletSite
  pub found : applet_site 1 words ≡ Ok site
  pub flags : Flags
  pub early : flags_with_options_before_applet (options_of site.applet) no_flags 1 (take (site.read - 1) words) ≡ Ok flags
  pub same : start_from_parts site flags ≡ start

pub start_parts : (words : List (List ℕ)) (start : Start) → start_of_command_line words ≡ Ok start → IsStart words start
start_parts words start e =
    elim (applet_site 1 words) as (λ s. applet_site 1 words ≡ s → start_by_applet_site words s ≡ Ok start → IsStart words start) [
      | Err place ↦ λ s (h : Err place ≡ Ok start). absurd (cc)
      | Ok site ↦ λ s h. by_flags site s (flags_with_options_before_applet (options_of site.applet) no_flags 1 (take (site.read - 1) words)) refl h
    ] refl e
  where
    by_flags : (site : AppletSite) → applet_site 1 words ≡ Ok site → (f : Result Flags ℕ) → flags_with_options_before_applet (options_of site.applet) no_flags 1 (take (site.read - 1) words) ≡ f → start_with_flags_before_applet site f ≡ Ok start → IsStart words start
    by_flags site s (Err place) f h = absurd (cc)
    by_flags site s (Ok flags) f h = (let same : start_from_parts site flags ≡ start = cc in record { site = site; found = s; flags = flags; early = f; same = same })

pub start_known : (words : List (List ℕ)) (start : Start) → start_of_command_line words ≡ Ok start → IsPlain start (1 + length words)
start_known words start e =
    let parts = start_parts words start e in
    let site : IsSite parts.site (1 + length words) = IfOk-at_ok (λ s. IsSite s (1 + length words)) parts.found (site_known 1 (1 + length words) words (omega arith) (omega arith)) in
    subst (λ (s : Start). IsPlain s (1 + length words)) parts.same (record {
      flags = IfOk-at_ok (λ more. may_have_flags parts.site.applet more ≡ true) parts.early (early_kept parts.site.applet no_flags 1 (take (parts.site.read - 1) words) (none_had parts.site.applet));
      read = site.read;
    })

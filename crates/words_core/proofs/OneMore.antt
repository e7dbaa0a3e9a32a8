-- One more word of a line that is read.
use Rattle.std.proofs.Common.{Bool, Err, List, None, Ok, Option, Some, [], ap, append-nil, append_assoc, arith, drop, false, length, option_and_then, refl, suc, sym, take, true, zero, ℕ, ◌++◌, ◌+◌, ◌<◌, ◌∙◌, ◌∷◌, ◌≡◌, ◌≤◌}
use Rattle.std.proofs.lemmas.Bool.{false≢true, true≢false}
use Rattle.std.specs.List.{slice_get}
use Rattle.command_core.specs.declared.command.Flags.{Flags}
use Rattle.command_core.specs.declared.operands.Operand.{Operand}
use Rattle.command_core.specs.Operands.{operand_at}
use Rattle.words_core.specs.declared.reading.OptionState.{OptionState}
use Rattle.words_core.specs.declared.reading.Reading.{Reading}
use Rattle.words_core.specs.Grammar.{applet_site, flags_with_options_before_applet, is_double_dash, is_option_or_double_dash, is_option_or_value, words_as_operands_from_place, reading_of_words_from_place, or_err_at, or_stop_at_unread_word, words_reading_from_parts, applet_site_of_word, applet_site_after_double_dash, with_operand_in_front, flags_with_option_word_if_one_command_kind, flags_with_option_if_one_command_kind, with_option_or_value_word}
use Rattle.words_core.specs.Options.{OptionSpec, is_option_word_that_may_precede_applet, option_of_word}
use Rattle.words_core.specs.Steps.{IsReadingStep}

-- what is left of a list where an element stands
pub left_at : {X : Type 0} (xs : List X) (i : ℕ) (x : X) → slice_get xs i ≡ Some x → drop i xs ≡ x ∷ drop (i + 1) xs
left_at [] i x e = cc
left_at (y ∷ xs) zero x e = cc
left_at (y ∷ xs) (suc i) x e =
    let next : suc (i + 1) ≡ suc i + 1 = omega arith in left_at xs i x e ∙ ap (λ n. x ∷ drop n (y ∷ xs)) next

-- a reading with operands before those that it has
abbrev pub behind : List Operand → Reading → Reading
behind operands reading = record reading { operands = operands ++ reading.operands }

-- an operand that was pushed stands before the others
pub pushed_front : (operands pushed rest : List Operand) (word : List ℕ) (place at : ℕ) → place ≡ at → pushed ≡ operands ++ (operand_at place word ∷ []) → operands ++ (operand_at at word ∷ rest) ≡ pushed ++ rest
pushed_front operands pushed rest word place at p e =
    sym (append_assoc operands (operand_at at word ∷ []) rest)
    ∙ ap (λ os. os ++ rest) (sym (e ∙ ap (λ n. operands ++ (operand_at n word ∷ [])) p))

pub behind_front : (operands pushed : List Operand) (reading : Reading) (word : List ℕ) (place at : ℕ) → place ≡ at → pushed ≡ operands ++ (operand_at place word ∷ []) → behind operands (with_operand_in_front (operand_at at word) reading) ≡ behind pushed reading
behind_front operands pushed reading word place at p e =
    ap (λ os. words_reading_from_parts reading.state os reading.unread) (pushed_front operands pushed reading.operands word place at p e)

-- flags with an option that was found
pub option_found : (options : List OptionSpec) (flags : Flags) (word : List ℕ) (found : Option OptionSpec) (result more : Option Flags) → found ≡ option_of_word options word → result ≡ option_and_then (flags_with_option_if_one_command_kind flags) found → result ≡ more → flags_with_option_word_if_one_command_kind options flags word ≡ more
option_found options flags word found result more f r m = sym (ap (option_and_then (flags_with_option_if_one_command_kind flags)) f) ∙ (sym r ∙ m)

-- the search for the applet
pub site_ended : (words : List (List ℕ)) (i : ℕ) (word : List ℕ) → slice_get words i ≡ Some word → is_double_dash word ≡ true → applet_site (i + 1) (drop i words) ≡ applet_site_after_double_dash (i + 1 + 1) (drop (i + 1) words)
site_ended words i word at e = rw (left_at words i word at) (rw e refl)

pub site_named : (words : List (List ℕ)) (i : ℕ) (word : List ℕ) → slice_get words i ≡ Some word → is_double_dash word ≡ false → is_option_or_double_dash word ≡ false → applet_site (i + 1) (drop i words) ≡ applet_site_of_word false (i + 1) word
site_named words i word at e o = rw (left_at words i word at) (rw e (rw o refl))

pub site_unread : (words : List (List ℕ)) (i : ℕ) (word : List ℕ) → slice_get words i ≡ Some word → is_double_dash word ≡ false → is_option_or_double_dash word ≡ true → is_option_word_that_may_precede_applet word ≡ false → applet_site (i + 1) (drop i words) ≡ Err (i + 1)
site_unread words i word at e o y = rw (left_at words i word at) (rw e (rw o (rw y refl)))

pub site_more : (words : List (List ℕ)) (i : ℕ) (word : List ℕ) → slice_get words i ≡ Some word → is_double_dash word ≡ false → is_option_or_double_dash word ≡ true → is_option_word_that_may_precede_applet word ≡ true → applet_site (i + 1) (drop i words) ≡ applet_site (i + 1 + 1) (drop (i + 1) words)
site_more words i word at e o y = rw (left_at words i word at) (rw e (rw o (rw y refl)))

-- the flags before the applet
pub taken_at : (words : List (List ℕ)) (count i : ℕ) (word : List ℕ) → i < count → slice_get words i ≡ Some word → slice_get (take count words) i ≡ Some word
taken_at [] count i word l at = cc
taken_at (w ∷ words) zero i word l at = absurd (omega (arith, l))
taken_at (w ∷ words) (suc count) zero word l at = at
taken_at (w ∷ words) (suc count) (suc i) word l at = taken_at words count i word (omega (arith, l)) at

pub early_ended : (options : List OptionSpec) (flags : Flags) (words : List (List ℕ)) (i : ℕ) (word : List ℕ) → slice_get words i ≡ Some word → is_double_dash word ≡ true → flags_with_options_before_applet options flags (i + 1) (drop i words) ≡ Ok flags
early_ended options flags words i word at e = rw (left_at words i word at) (rw e refl)

pub early_more : (options : List OptionSpec) (flags : Flags) (words : List (List ℕ)) (i : ℕ) (word : List ℕ) (more : Option Flags) → slice_get words i ≡ Some word → is_double_dash word ≡ false → flags_with_option_word_if_one_command_kind options flags word ≡ more → flags_with_options_before_applet options flags (i + 1) (drop i words) ≡ or_err_at (i + 1) (λ m. flags_with_options_before_applet options m (i + 1 + 1) (drop (i + 1) words)) more
early_more options flags words i word more at e m = rw (left_at words i word at) (rw e (rw m refl))

pub early_done : (options : List OptionSpec) (flags : Flags) (words : List (List ℕ)) (i : ℕ) → length words ≤ i → flags_with_options_before_applet options flags (i + 1) (drop i words) ≡ Ok flags
early_done options flags words i l = rw (drop_all words i l) refl
  where
    drop_all : (ws : List (List ℕ)) (k : ℕ) → length ws ≤ k → drop k ws ≡ []
    drop_all [] zero l = refl
    drop_all [] (suc k) l = refl
    drop_all (w ∷ ws) zero l = absurd (omega (arith, l))
    drop_all (w ∷ ws) (suc k) l = drop_all ws k (omega (arith, l))

-- the reading behind the applet
pub reading_ended : (options : List OptionSpec) (state : OptionState) (words : List (List ℕ)) (i : ℕ) (word : List ℕ) → slice_get words i ≡ Some word → is_option_or_value state word ≡ false → is_double_dash word ≡ true → reading_of_words_from_place options state (i + 1) (drop i words) ≡ words_reading_from_parts state (words_as_operands_from_place (i + 1 + 1) (drop (i + 1) words)) None
reading_ended options state words i word at t e = rw (left_at words i word at) (rw t (rw e refl))

pub reading_operand : (options : List OptionSpec) (state : OptionState) (words : List (List ℕ)) (i : ℕ) (word : List ℕ) → slice_get words i ≡ Some word → is_option_or_value state word ≡ false → is_double_dash word ≡ false → reading_of_words_from_place options state (i + 1) (drop i words) ≡ with_operand_in_front (operand_at (i + 1) word) (reading_of_words_from_place options state (i + 1 + 1) (drop (i + 1) words))
reading_operand options state words i word at t e = rw (left_at words i word at) (rw t (rw e refl))

pub reading_more : (options : List OptionSpec) (state : OptionState) (words : List (List ℕ)) (i : ℕ) (word : List ℕ) (more : Option OptionState) → slice_get words i ≡ Some word → is_option_or_value state word ≡ true → with_option_or_value_word options state (i + 1) word ≡ more → reading_of_words_from_place options state (i + 1) (drop i words) ≡ or_stop_at_unread_word state (i + 1) (λ m. reading_of_words_from_place options m (i + 1 + 1) (drop (i + 1) words)) more
reading_more options state words i word more at t m = rw (left_at words i word at) (rw t (rw m refl))

-- one more operand
pub operands_more : (words : List (List ℕ)) (i : ℕ) (word : List ℕ) → slice_get words i ≡ Some word → words_as_operands_from_place (i + 1) (drop i words) ≡ operand_at (i + 1) word ∷ words_as_operands_from_place (i + 1 + 1) (drop (i + 1) words)
operands_more words i word at = rw (left_at words i word at) refl

pub operands_push : (all operands pushed : List Operand) (words : List (List ℕ)) (i : ℕ) (word : List ℕ) (place : ℕ) → slice_get words i ≡ Some word → place ≡ i + 1 → pushed ≡ operands ++ (operand_at place word ∷ []) → all ≡ operands ++ words_as_operands_from_place (i + 1) (drop i words) → all ≡ pushed ++ words_as_operands_from_place (i + 1 + 1) (drop (i + 1) words)
operands_push all operands pushed words i word place at p e kept =
    kept ∙ (ap (λ os. operands ++ os) (operands_more words i word at) ∙ pushed_front operands pushed _ word place (i + 1) p e)

pub reading_push : (all : Reading) (options : List OptionSpec) (state : OptionState) (operands pushed : List Operand) (words : List (List ℕ)) (i : ℕ) (word : List ℕ) (place : ℕ) → slice_get words i ≡ Some word → is_option_or_value state word ≡ false → is_double_dash word ≡ false → place ≡ i + 1 → pushed ≡ operands ++ (operand_at place word ∷ []) → all ≡ behind operands (reading_of_words_from_place options state (i + 1) (drop i words)) → all ≡ behind pushed (reading_of_words_from_place options state (i + 1 + 1) (drop (i + 1) words))
reading_push all options state operands pushed words i word place at t e p d kept =
    kept ∙ (ap (behind operands) (reading_operand options state words i word at t e)
    ∙ behind_front operands pushed (reading_of_words_from_place options state (i + 1 + 1) (drop (i + 1) words)) word place (i + 1) p d)

-- the reading ends, as all that is left are operands
pub reading_rest : (all : Reading) (options : List OptionSpec) (state : OptionState) (operands : List Operand) (words : List (List ℕ)) (i : ℕ) (word : List ℕ) → slice_get words i ≡ Some word → is_option_or_value state word ≡ false → is_double_dash word ≡ true → all ≡ behind operands (reading_of_words_from_place options state (i + 1) (drop i words)) → words_reading_from_parts state (operands ++ words_as_operands_from_place (i + 1 + 1) (drop (i + 1) words)) None ≡ all
reading_rest all options state operands words i word at t e kept =
    sym (kept ∙ ap (behind operands) (reading_ended options state words i word at t e))

-- the reading goes on, as the word was taken
pub reading_taken : (all : Reading) (options : List OptionSpec) (state more : OptionState) (operands : List Operand) (words : List (List ℕ)) (i : ℕ) (word : List ℕ) (place : ℕ) → slice_get words i ≡ Some word → is_option_or_value state word ≡ true → place ≡ i + 1 → with_option_or_value_word options state place word ≡ Some more → all ≡ behind operands (reading_of_words_from_place options state (i + 1) (drop i words)) → all ≡ behind operands (reading_of_words_from_place options more (i + 1 + 1) (drop (i + 1) words))
reading_taken all options state more operands words i word place at t p m kept =
    kept ∙ ap (behind operands) (reading_more options state words i word (Some more) at t (ap (λ n. with_option_or_value_word options state n word) (sym p) ∙ m))

-- the reading ends, as the word cannot be read
pub reading_unread : (all : Reading) (options : List OptionSpec) (state : OptionState) (operands : List Operand) (words : List (List ℕ)) (i : ℕ) (word : List ℕ) (place at : ℕ) → slice_get words i ≡ Some word → is_option_or_value state word ≡ true → place ≡ i + 1 → at ≡ i + 1 → with_option_or_value_word options state at word ≡ None → all ≡ behind operands (reading_of_words_from_place options state (i + 1) (drop i words)) → words_reading_from_parts state operands (Some place) ≡ all
reading_unread all options state operands words i word place at located t p q m kept =
    ap (λ n. words_reading_from_parts state operands (Some n)) p
    ∙ (ap (λ os. words_reading_from_parts state os (Some (i + 1))) (sym (append-nil operands))
    ∙ sym (kept ∙ ap (behind operands) (reading_more options state words i word None located t (ap (λ n. with_option_or_value_word options state n word) (sym q) ∙ m))))

-- what a call says that took a word, or refused it
pub taken_is : (taken : Bool) (old new : OptionState) (more : Option OptionState) → taken ≡ true → IsReadingStep taken old new more → more ≡ Some new
taken_is true old new more e t = t
taken_is false old new more e t = absurd (false≢true e)

pub refused_is : (taken : Bool) (old new : OptionState) (more : Option OptionState) → taken ≡ false → IsReadingStep taken old new more → (more ≡ None) × (new ≡ old)
refused_is true old new more e t = absurd (true≢false e)
refused_is false old new more e t = t

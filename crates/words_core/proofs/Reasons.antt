-- Each reason of a usage error is so.
use Rattle.std.proofs.Common.{List, None, Some, [], ap, append_assoc, arith, false, inl, inr, is_some, length, length-append, not, refl, subst, sym, take, true, ℕ, ◌++◌, ◌+◌, ◌-◌, ◌∙◌, ◌∷◌, ◌≡◌, ◌⊎◌, if◌then◌else◌}
use Rattle.std.specs.List.{slice_get}
use Rattle.std.specs.Option.{option_map}
use Rattle.std.specs.Prelude.{◌&&◌}
use Rattle.std.proofs.lemmas.Bool.{or_parts}
use Rattle.std.proofs.lemmas.Option.{none-some, same_Some}
use Rattle.command_core.specs.declared.command.Applet.{Applet}
use Rattle.command_core.specs.declared.operands.Operand.{Operand}
use Rattle.command_core.specs.declared.values.ValueRule.{ValueRule}
use Rattle.command_core.specs.Operands.{operand_at}
use Rattle.words_core.specs.declared.next.NextWord.{NextWord}
use Rattle.words_core.specs.declared.next.NextWord.TheVariants.{OptionOrCommand, OptionOrOperand, Value as NextValue, Operand as OperandAlone}
use Rattle.words_core.specs.declared.reading.OptionState.{OptionState}
use Rattle.words_core.specs.Grammar.{is_double_dash, is_option_or_double_dash, is_option_or_value, next_word_of_command_line, next_word_after_option, next_word, next_word_after_words, words_as_operands_from_place, reading_of_words_from_place, or_stop_at_unread_word, words_reading_from_parts, with_operand_in_front, with_option_or_value_word}
use Rattle.words_core.specs.Options.{options_of}
use Rattle.words_core.proofs.Asked.{next_append, next_ended, next_operand, next_taken, operand_stays}
use Rattle.words_core.proofs.AskedLines.{get_after, take_front}
use Rattle.words_core.proofs.GoneOn.{none_is, not_option}

-- ---- the operands that are read are words, where operands can be

-- a word that is read as an operand, by what it could have been
abbrev pub IsOperandNext : Applet → NextWord → List ℕ → Type 0
IsOperandNext applet next text = (next ≡ OperandAlone applet) ⊎ ((next ≡ OptionOrOperand applet) × ((is_option_or_double_dash text && not (is_double_dash text)) ≡ false))

pub record IsOperandAt (applet : Applet) (words : List (List ℕ)) (o : Operand) : Type 0 where
  pub at : slice_get words (o.place - 1) ≡ Some o.text
  pub next : IsOperandNext applet (next_word_of_command_line (take (o.place - 1) words)) o.text

abbrev pub AreOperandsAt : Applet → List (List ℕ) → List Operand → Type 0
AreOperandsAt applet words [] = Unit {0}
AreOperandsAt applet words (o ∷ os) = IsOperandAt applet words o × AreOperandsAt applet words os

-- the word behind some
operand_here : (applet : Applet) (front words : List (List ℕ)) (word : List ℕ) → IsOperandNext applet (next_word_of_command_line front) word → IsOperandAt applet (front ++ (word ∷ words)) (operand_at (length front + 1) word)
operand_here applet front words word n =
    let count : length front ≡ length front + 1 - 1 = omega arith in
    record {
      at = subst (λ k. slice_get (front ++ (word ∷ words)) k ≡ Some word) count (get_after front words word);
      next = subst (λ k. IsOperandNext applet (next_word_of_command_line (take k (front ++ (word ∷ words)))) word) count (subst (λ ws. IsOperandNext applet (next_word_of_command_line ws) word) (sym (take_front front (word ∷ words))) n);
    }

-- the words behind one more word
pub shifted : (front words : List (List ℕ)) (word : List ℕ) → (front ++ (word ∷ [])) ++ words ≡ front ++ (word ∷ words)
shifted front words word = append_assoc front (word ∷ []) words

pub longer : (front : List (List ℕ)) (word : List ℕ) → length (front ++ (word ∷ [])) + 1 ≡ length front + 1 + 1
longer front word = (let size : length (front ++ (word ∷ [])) ≡ length front + length (word ∷ []) = length-append front (word ∷ []) in omega (arith, size))

pub next_one : (front : List (List ℕ)) (word : List ℕ) → next_word_of_command_line (front ++ (word ∷ [])) ≡ next_word (next_word_of_command_line front) word
next_one front word = next_append OptionOrCommand front (word ∷ [])

pub texts_at : (applet : Applet) (front words : List (List ℕ)) → next_word_of_command_line front ≡ OperandAlone applet → AreOperandsAt applet (front ++ words) (words_as_operands_from_place (length front + 1) words)
texts_at applet front [] n = tt
texts_at applet front (word ∷ words) n = (
  operand_here applet front words word (inl n),
  subst (λ ws. AreOperandsAt applet ws (words_as_operands_from_place (length front + 1 + 1) words)) (shifted front words word)
      (subst (λ k. AreOperandsAt applet ((front ++ (word ∷ [])) ++ words) (words_as_operands_from_place k words)) (longer front word)
      (texts_at applet (front ++ (word ∷ [])) words (next_one front word ∙ ap (λ x. next_word x word) n))),
)

pub operands_at : (applet : Applet) (state : OptionState) (front words : List (List ℕ)) → next_word_of_command_line front ≡ next_word_after_option applet state.awaiting → AreOperandsAt applet (front ++ words) (reading_of_words_from_place (options_of applet) state (length front + 1) words).operands
operands_at applet state front [] n = tt
operands_at applet state front (word ∷ words) n =
    elim (is_option_or_value state word) as (λ b. is_option_or_value state word ≡ b → AreOperandsAt applet (front ++ (word ∷ words)) (if b then or_stop_at_unread_word state (length front + 1) (λ m. reading_of_words_from_place (options_of applet) m (length front + 1 + 1) words) (with_option_or_value_word (options_of applet) state (length front + 1) word) else if is_double_dash word then words_reading_from_parts state (words_as_operands_from_place (length front + 1 + 1) words) None else with_operand_in_front (operand_at (length front + 1) word) (reading_of_words_from_place (options_of applet) state (length front + 1 + 1) words)).operands) [
      | true ↦ λ t. elim (with_option_or_value_word (options_of applet) state (length front + 1) word) as (λ w. with_option_or_value_word (options_of applet) state (length front + 1) word ≡ w → AreOperandsAt applet (front ++ (word ∷ words)) (or_stop_at_unread_word state (length front + 1) (λ m. reading_of_words_from_place (options_of applet) m (length front + 1 + 1) words) w).operands) [
        | None ↦ λ w. tt
        | Some g ↦ λ w. on g (operands_at applet g (front ++ (word ∷ [])) words (next_one front word ∙ (ap (λ x. next_word x word) n ∙ next_taken applet state g (length front + 1) word t w)))
      ] refl
      | false ↦ λ t.
          let parts = or_parts (is_some state.awaiting) (is_option_or_double_dash word && not (is_double_dash word)) t in
          let none : state.awaiting ≡ None = none_is state.awaiting parts.0 in
          let free : next_word_of_command_line front ≡ OptionOrOperand applet = n ∙ ap (next_word_after_option applet) none in
          elim (is_double_dash word) as (λ b. is_double_dash word ≡ b → AreOperandsAt applet (front ++ (word ∷ words)) (if b then words_reading_from_parts state (words_as_operands_from_place (length front + 1 + 1) words) None else with_operand_in_front (operand_at (length front + 1) word) (reading_of_words_from_place (options_of applet) state (length front + 1 + 1) words)).operands) [
            | true ↦ λ e.
                subst (λ ws. AreOperandsAt applet ws (words_as_operands_from_place (length front + 1 + 1) words)) (shifted front words word)
                (subst (λ k. AreOperandsAt applet ((front ++ (word ∷ [])) ++ words) (words_as_operands_from_place k words)) (longer front word)
                (texts_at applet (front ++ (word ∷ [])) words (next_one front word ∙ (ap (λ x. next_word x word) free ∙ next_ended applet word e))))
            | false ↦ λ e. (
              operand_here applet front words word (inr (free, parts.1)),
              on state (operands_at applet state (front ++ (word ∷ [])) words (next_one front word ∙ (ap (λ x. next_word x word) free ∙ (next_operand applet word e (not_option (is_option_or_double_dash word) (is_double_dash word) e parts.1) ∙ ap (next_word_after_option applet) (sym none))))),
            )
          ] refl
    ] refl
  where
    on : (g : OptionState) → AreOperandsAt applet ((front ++ (word ∷ [])) ++ words) (reading_of_words_from_place (options_of applet) g (length (front ++ (word ∷ [])) + 1) words).operands → AreOperandsAt applet (front ++ (word ∷ words)) (reading_of_words_from_place (options_of applet) g (length front + 1 + 1) words).operands
    on g rest =
        subst (λ ws. AreOperandsAt applet ws (reading_of_words_from_place (options_of applet) g (length front + 1 + 1) words).operands) (shifted front words word)
        (subst (λ k. AreOperandsAt applet ((front ++ (word ∷ [])) ++ words) (reading_of_words_from_place (options_of applet) g k words).operands) (longer front word) rest)

-- ---- the word that cannot be read

pub record IsUnreadWord (applet : Applet) (words : List (List ℕ)) (place : ℕ) (state : OptionState) : Type 0 where
  pub word : List ℕ
  pub at : slice_get words (place - 1) ≡ Some word
  pub taken : is_option_or_value state word ≡ true
  pub unread : with_option_or_value_word (options_of applet) state place word ≡ None
  pub next : next_word_of_command_line (take (place - 1) words) ≡ next_word_after_option applet state.awaiting

pub record IsUnreadEnd (applet : Applet) (words : List (List ℕ)) (place : ℕ) (state : OptionState) : Type 0 where
  pub end : place ≡ length words + 1
  pub rule : ValueRule
  pub awaits : state.awaiting ≡ Some rule
  pub next : next_word_of_command_line words ≡ NextValue applet rule

abbrev pub IsUnreadAt : Applet → List (List ℕ) → ℕ → OptionState → Type 0
IsUnreadAt applet words place state = IsUnreadWord applet words place state ⊎ IsUnreadEnd applet words place state

pub append-none : (front : List (List ℕ)) → front ++ [] ≡ front
append-none [] = refl
append-none (word ∷ front) = ap (λ ws. word ∷ ws) (append-none front)

pub unread_at : (applet : Applet) (state : OptionState) (front words : List (List ℕ)) (place : ℕ) → next_word_of_command_line front ≡ next_word_after_option applet state.awaiting → (reading_of_words_from_place (options_of applet) state (length front + 1) words).unread ≡ Some place → IsUnreadAt applet (front ++ words) place (reading_of_words_from_place (options_of applet) state (length front + 1) words).state
unread_at applet state front [] place n u =
    elim state.awaiting as (λ a. state.awaiting ≡ a → option_map (λ (rule : ValueRule). length front + 1) a ≡ Some place → IsUnreadAt applet (front ++ []) place state) [
      | None ↦ λ a u. absurd (none-some place u)
      | Some rule ↦ λ a u.
          let same : length front + 1 ≡ place = same_Some (length front + 1) place u in
          subst (λ ws. IsUnreadAt applet ws place state) (sym (append-none front)) (inr (record {
            end = sym same;
            rule = rule;
            awaits = a;
            next = n ∙ ap (next_word_after_option applet) a;
          }))
    ] refl u
unread_at applet state front (word ∷ words) place n u =
    elim (is_option_or_value state word) as (λ b. is_option_or_value state word ≡ b → (if b then or_stop_at_unread_word state (length front + 1) (λ m. reading_of_words_from_place (options_of applet) m (length front + 1 + 1) words) (with_option_or_value_word (options_of applet) state (length front + 1) word) else if is_double_dash word then words_reading_from_parts state (words_as_operands_from_place (length front + 1 + 1) words) None else with_operand_in_front (operand_at (length front + 1) word) (reading_of_words_from_place (options_of applet) state (length front + 1 + 1) words)).unread ≡ Some place
    → IsUnreadAt applet (front ++ (word ∷ words)) place (if b then or_stop_at_unread_word state (length front + 1) (λ m. reading_of_words_from_place (options_of applet) m (length front + 1 + 1) words) (with_option_or_value_word (options_of applet) state (length front + 1) word) else if is_double_dash word then words_reading_from_parts state (words_as_operands_from_place (length front + 1 + 1) words) None else with_operand_in_front (operand_at (length front + 1) word) (reading_of_words_from_place (options_of applet) state (length front + 1 + 1) words)).state) [
      | true ↦ λ t. elim (with_option_or_value_word (options_of applet) state (length front + 1) word) as (λ w. with_option_or_value_word (options_of applet) state (length front + 1) word ≡ w → (or_stop_at_unread_word state (length front + 1) (λ m. reading_of_words_from_place (options_of applet) m (length front + 1 + 1) words) w).unread ≡ Some place → IsUnreadAt applet (front ++ (word ∷ words)) place (or_stop_at_unread_word state (length front + 1) (λ m. reading_of_words_from_place (options_of applet) m (length front + 1 + 1) words) w).state) [
        | None ↦ λ w (u : Some (length front + 1) ≡ Some place). subst (λ p. IsUnreadAt applet (front ++ (word ∷ words)) p state) (same_Some (length front + 1) place u) (inl (here t w))
        | Some g ↦ λ w u. on g (λ v. unread_at applet g (front ++ (word ∷ [])) words place (next_one front word ∙ (ap (λ x. next_word x word) n ∙ next_taken applet state g (length front + 1) word t w)) v) u
      ] refl
      | false ↦ λ t.
          let parts = or_parts (is_some state.awaiting) (is_option_or_double_dash word && not (is_double_dash word)) t in
          let none : state.awaiting ≡ None = none_is state.awaiting parts.0 in
          let free : next_word_of_command_line front ≡ OptionOrOperand applet = n ∙ ap (next_word_after_option applet) none in
          elim (is_double_dash word) as (λ b. is_double_dash word ≡ b → (if b then words_reading_from_parts state (words_as_operands_from_place (length front + 1 + 1) words) None else with_operand_in_front (operand_at (length front + 1) word) (reading_of_words_from_place (options_of applet) state (length front + 1 + 1) words)).unread ≡ Some place → IsUnreadAt applet (front ++ (word ∷ words)) place (if b then words_reading_from_parts state (words_as_operands_from_place (length front + 1 + 1) words) None else with_operand_in_front (operand_at (length front + 1) word) (reading_of_words_from_place (options_of applet) state (length front + 1 + 1) words)).state) [
            | true ↦ λ e u. absurd (none-some place u)
            | false ↦ λ e u. on state (λ v. unread_at applet state (front ++ (word ∷ [])) words place (next_one front word ∙ (ap (λ x. next_word x word) free ∙ (next_operand applet word e (not_option (is_option_or_double_dash word) (is_double_dash word) e parts.1) ∙ ap (next_word_after_option applet) (sym none)))) v) u
          ] refl
    ] refl u
  where
    here : is_option_or_value state word ≡ true → with_option_or_value_word (options_of applet) state (length front + 1) word ≡ None → IsUnreadWord applet (front ++ (word ∷ words)) (length front + 1) state
    here t w =
        let count : length front ≡ length front + 1 - 1 = omega arith in
        record {
          word = word;
          at = subst (λ k. slice_get (front ++ (word ∷ words)) k ≡ Some word) count (get_after front words word);
          taken = t;
          unread = w;
          next = subst (λ k. next_word_of_command_line (take k (front ++ (word ∷ words))) ≡ next_word_after_option applet state.awaiting) count (ap next_word_of_command_line (take_front front (word ∷ words)) ∙ n);
        }

    on : (g : OptionState) → ((reading_of_words_from_place (options_of applet) g (length (front ++ (word ∷ [])) + 1) words).unread ≡ Some place → IsUnreadAt applet ((front ++ (word ∷ [])) ++ words) place (reading_of_words_from_place (options_of applet) g (length (front ++ (word ∷ [])) + 1) words).state)
        → (reading_of_words_from_place (options_of applet) g (length front + 1 + 1) words).unread ≡ Some place → IsUnreadAt applet (front ++ (word ∷ words)) place (reading_of_words_from_place (options_of applet) g (length front + 1 + 1) words).state
    on g rest u =
        subst (λ ws. IsUnreadAt applet ws place (reading_of_words_from_place (options_of applet) g (length front + 1 + 1) words).state) (shifted front words word)
        (subst (λ k. IsUnreadAt applet ((front ++ (word ∷ [])) ++ words) place (reading_of_words_from_place (options_of applet) g k words).state) (longer front word)
        (rest (ap (λ k. (reading_of_words_from_place (options_of applet) g k words).unread) (longer front word) ∙ u)))

-- ---- the end of words that can be read

-- no value is awaited behind them
abbrev pub IsFreeNext : Applet → NextWord → Type 0
IsFreeNext applet next = (next ≡ OperandAlone applet) ⊎ (next ≡ OptionOrOperand applet)

pub end_at : (applet : Applet) (state : OptionState) (front words : List (List ℕ)) → next_word_of_command_line front ≡ next_word_after_option applet state.awaiting → (reading_of_words_from_place (options_of applet) state (length front + 1) words).unread ≡ None → IsFreeNext applet (next_word_of_command_line (front ++ words))
end_at applet state front [] n u =
    elim state.awaiting as (λ a. state.awaiting ≡ a → option_map (λ (rule : ValueRule). length front + 1) a ≡ None → IsFreeNext applet (next_word_of_command_line (front ++ []))) [
      | None ↦ λ a u. inr (ap next_word_of_command_line (append-none front) ∙ (n ∙ ap (next_word_after_option applet) a))
      | Some rule ↦ λ a u. absurd (none-some (length front + 1) (sym u))
    ] refl u
end_at applet state front (word ∷ words) n u =
    elim (is_option_or_value state word) as (λ b. is_option_or_value state word ≡ b → (if b then or_stop_at_unread_word state (length front + 1) (λ m. reading_of_words_from_place (options_of applet) m (length front + 1 + 1) words) (with_option_or_value_word (options_of applet) state (length front + 1) word) else if is_double_dash word then words_reading_from_parts state (words_as_operands_from_place (length front + 1 + 1) words) None else with_operand_in_front (operand_at (length front + 1) word) (reading_of_words_from_place (options_of applet) state (length front + 1 + 1) words)).unread ≡ None → IsFreeNext applet (next_word_of_command_line (front ++ (word ∷ words)))) [
      | true ↦ λ t. elim (with_option_or_value_word (options_of applet) state (length front + 1) word) as (λ w. with_option_or_value_word (options_of applet) state (length front + 1) word ≡ w → (or_stop_at_unread_word state (length front + 1) (λ m. reading_of_words_from_place (options_of applet) m (length front + 1 + 1) words) w).unread ≡ None → IsFreeNext applet (next_word_of_command_line (front ++ (word ∷ words)))) [
        | None ↦ λ w (u : Some (length front + 1) ≡ None). absurd (none-some (length front + 1) (sym u))
        | Some g ↦ λ w u. on g (λ v. end_at applet g (front ++ (word ∷ [])) words (next_one front word ∙ (ap (λ x. next_word x word) n ∙ next_taken applet state g (length front + 1) word t w)) v) u
      ] refl
      | false ↦ λ t.
          let parts = or_parts (is_some state.awaiting) (is_option_or_double_dash word && not (is_double_dash word)) t in
          let none : state.awaiting ≡ None = none_is state.awaiting parts.0 in
          let free : next_word_of_command_line front ≡ OptionOrOperand applet = n ∙ ap (next_word_after_option applet) none in
          elim (is_double_dash word) as (λ b. is_double_dash word ≡ b → (if b then words_reading_from_parts state (words_as_operands_from_place (length front + 1 + 1) words) None else with_operand_in_front (operand_at (length front + 1) word) (reading_of_words_from_place (options_of applet) state (length front + 1 + 1) words)).unread ≡ None → IsFreeNext applet (next_word_of_command_line (front ++ (word ∷ words)))) [
            | true ↦ λ e u. inl (next_append OptionOrCommand front (word ∷ words) ∙ (ap (λ x. next_word_after_words (next_word x word) words) free ∙ (ap (λ x. next_word_after_words x words) (next_ended applet word e) ∙ operand_stays applet words)))
            | false ↦ λ e u. on state (λ v. end_at applet state (front ++ (word ∷ [])) words (next_one front word ∙ (ap (λ x. next_word x word) free ∙ (next_operand applet word e (not_option (is_option_or_double_dash word) (is_double_dash word) e parts.1) ∙ ap (next_word_after_option applet) (sym none)))) v) u
          ] refl
    ] refl u
  where
    on : (g : OptionState) → ((reading_of_words_from_place (options_of applet) g (length (front ++ (word ∷ [])) + 1) words).unread ≡ None → IsFreeNext applet (next_word_of_command_line ((front ++ (word ∷ [])) ++ words)))
        → (reading_of_words_from_place (options_of applet) g (length front + 1 + 1) words).unread ≡ None → IsFreeNext applet (next_word_of_command_line (front ++ (word ∷ words)))
    on g rest u =
        subst (λ ws. IsFreeNext applet (next_word_of_command_line ws)) (shifted front words word)
        (rest (ap (λ k. (reading_of_words_from_place (options_of applet) g k words).unread) (longer front word) ∙ u))

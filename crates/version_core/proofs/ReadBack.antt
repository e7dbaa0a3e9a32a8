-- A text that is read without a stray token is spelled after the grammar, by its parts from the back.
use Rattle.std.proofs.Common.{◌≡◌, ℕ, zero, suc, ◌+◌, ◌≤◌, Bool, true, false, ◌&&◌, cond, eqb, ltb, List, [], ◌∷◌, ◌++◌, drop, length, Option, Some, None, refl, ap, sym, ◌∙◌, arith, subst, append_assoc, append-nil}
use Rattle.std.specs.Prelude.{is_some, not}
use Rattle.std.specs.Char.{is_ascii_digit, is_ascii_lowercase}
use Rattle.std.specs.List.{list_all, prefix_len, take_while}
use Rattle.std.specs.Str.Parse.{digits_value}
use Rattle.std.proofs.lemmas.Bool.{false≢true, and_from}
use Rattle.std.proofs.lemmas.Bool.Decides.{nat_tests}
use Rattle.std.proofs.lemmas.List.{take-append-drop, length-drop}
use Rattle.std.proofs.lemmas.List.Sums.{take_while-cons}
use Rattle.std.proofs.lemmas.List.Folds.{length-prefix_len}
use Rattle.version_core.specs.declared.token.Class.{Class}
use Rattle.version_core.specs.declared.token.Class.TheVariants.{Stray, PreRelease, End, Revision, Hash, SuffixNumber, Suffix, Letter, ZeroComponent, Component}
use Rattle.version_core.specs.Token.{Token, Lexeme, number_token, text_token, lexeme, stray_lexeme, has_number_length, is_hex_digit, is_component, is_suffix, is_allowed_before_suffix_or_hash, is_allowed_before_revision, begins_with_zero, leading_digits, leading_hex_digits, leading_letters, number_lexeme_by_digits, later_component_lexeme_by_digits, suffix_rank, suffix_lexeme_by_word, suffix_lexeme_by_word_and_rank, hash_lexeme_by_hex_digits, revision_lexeme_by_text_after_hyphen, next_lexeme}
use Rattle.version_core.specs.Order.{has_no_stray_token, is_end_or_stray_class, is_stray_class, is_version, tokens, tokens_after_class_skipping_bytes}
use Rattle.version_core.specs.Grammar.{VersionParts, IsSpelledVersion, is_none_or, is_numeral, is_hash_text, is_suffix_part, SuffixPart, later_components_text, letter_text, number_text, suffixes_text, hash_text, revision_text, component_token}
use Rattle.version_core.proofs.Walk.{after, has_number_length-pos, tokens_after_class_skipping_bytes-step}
use Rattle.version_core.proofs.Spelled.{first_true, then_true, number_read, component_read, component_is_not_last_by, suffix_whole_by, suffix_class_by, suffix_is_not_last, hash_read, component_before_hash, before_hash_before_revision, suffix_before_hash}

-- ---- runs

pub split_run : (q : ℕ → Bool) (xs : List ℕ) → xs ≡ take_while q xs ++ drop (length (take_while q xs)) xs
split_run q xs = rw (length-prefix_len q xs) (sym (take-append-drop (prefix_len q xs) xs))

passes_by : (q : ℕ → Bool) (b : Bool) (x : ℕ) (ts : List ℕ) → q x ≡ b → list_all q ts ≡ true → list_all q (cond b (x ∷ ts) []) ≡ true
passes_by q true x ts h all = rw h all
passes_by q false x ts h all = refl

take_while_passes : (q : ℕ → Bool) (xs : List ℕ) → list_all q (take_while q xs) ≡ true
take_while_passes q [] = refl
take_while_passes q (x ∷ xs) =
    ap (list_all q) (take_while-cons q x xs) ∙ passes_by q (q x) x (take_while q xs) refl (take_while_passes q xs)

-- ---- what a sound lexeme shows

abbrev CountsOnlyRise : List ℕ → Lexeme → Type 0
CountsOnlyRise text found = has_no_stray_token (found.token ∷ after text found) ≡ true

sound_or_stray : (text : List ℕ) (b : Bool) (found : Lexeme) → CountsOnlyRise text (cond b found stray_lexeme) → b ≡ true
sound_or_stray text true found h = refl
sound_or_stray text false found h = h

number_goes_on : (text : List ℕ) (class : Class) (mark : ℕ) (ds : List ℕ) → CountsOnlyRise text (number_lexeme_by_digits class mark ds) → has_number_length ds ≡ true
unfolding number_lexeme_by_digits
number_goes_on text class mark ds h =
    sound_or_stray text (has_number_length ds) (lexeme (number_token class (digits_value 10 ds)) (mark + length ds)) h

component_by : (text ds : List ℕ) (starts : Bool) (found : Lexeme) → CountsOnlyRise text (cond (has_number_length ds && starts) found (number_lexeme_by_digits Component 1 ds)) → (b : Bool) → (has_number_length ds && starts) ≡ b → has_number_length ds ≡ true
component_by text ds starts found h true e = first_true (has_number_length ds) starts e
component_by text ds starts found h false e = number_goes_on text Component 1 ds (subst (λ t. CountsOnlyRise text (cond t found (number_lexeme_by_digits Component 1 ds))) e h)

component_goes_on : (text ds : List ℕ) → CountsOnlyRise text (later_component_lexeme_by_digits ds) → has_number_length ds ≡ true
unfolding later_component_lexeme_by_digits
component_goes_on text ds h =
    component_by text ds (begins_with_zero ds) (lexeme (text_token ZeroComponent ds) (1 + length ds)) h (has_number_length ds && begins_with_zero ds) refl

suffix_by : (text word : List ℕ) (rank : Option ℕ) → CountsOnlyRise text (suffix_lexeme_by_word_and_rank word rank) → is_some rank ≡ true
suffix_by text word None h = h
suffix_by text word (Some rank) h = refl

hash_goes_on : (text ds : List ℕ) → CountsOnlyRise text (hash_lexeme_by_hex_digits ds) → ltb 0 (length ds) ≡ true
unfolding hash_lexeme_by_hex_digits
hash_goes_on text ds h = sound_or_stray text (ltb 0 (length ds)) (lexeme (text_token Hash ds) (1 + length ds)) h

-- what follows a lexeme is sound too
sound_after : (text behind : List ℕ) (found : Lexeme) (token : Token) (width : ℕ) → found ≡ lexeme token width → is_end_or_stray_class token.class ≡ false → drop width text ≡ behind → CountsOnlyRise text found → has_no_stray_token (tokens_after_class_skipping_bytes (Some token.class) 0 behind) ≡ true
sound_after text behind found token width e h d sound =
    let here : has_no_stray_token (token ∷ after text (lexeme token width)) ≡ true = subst (CountsOnlyRise text) e sound in
    let rest = then_true (not (is_stray_class token.class)) (has_no_stray_token (after text (lexeme token width))) here in
    subst (λ b. has_no_stray_token (cond b [] (tokens_after_class_skipping_bytes (Some token.class) 0 behind)) ≡ true) h
    (subst (λ t. has_no_stray_token (cond (is_end_or_stray_class token.class) [] (tokens_after_class_skipping_bytes (Some token.class) 0 t)) ≡ true) d rest)

-- ---- the end of a version, after a token of some class

abbrev tail_text : List (List ℕ) → Option ℕ → Option (List ℕ) → List SuffixPart → Option (List ℕ) → Option (List ℕ) → List ℕ
tail_text later letter number suffixes hash revision =
    later_components_text later ++ (letter_text letter ++ (number_text number ++ (suffixes_text suffixes ++ (hash_text hash ++ revision_text revision))))

record IsTail (last : Class) (text : List ℕ) : Type 0 where
  later : List (List ℕ)
  letter : Option ℕ
  number : Option (List ℕ)
  suffixes : List SuffixPart
  hash : Option (List ℕ)
  revision : Option (List ℕ)
  later_ok : list_all is_numeral later ≡ true
  letter_ok : is_none_or is_ascii_lowercase letter ≡ true
  number_ok : is_none_or is_numeral number ≡ true
  suffixes_ok : list_all is_suffix_part suffixes ≡ true
  hash_ok : is_none_or is_hash_text hash ≡ true
  revision_ok : is_none_or is_numeral revision ≡ true
  no_later : is_component last ≡ false → later ≡ []
  no_letter : is_component last ≡ false → letter ≡ None
  no_number : is_suffix last ≡ false → number ≡ None
  no_suffixes : is_allowed_before_suffix_or_hash last ≡ false → suffixes ≡ []
  no_hash : is_allowed_before_suffix_or_hash last ≡ false → hash ≡ None
  no_revision : is_allowed_before_revision last ≡ false → revision ≡ None
  whole : text ≡ tail_text later letter number suffixes hash revision

at_end : (last : Class) → IsTail last []
at_end last = record {
  later = [];
  letter = None;
  number = None;
  suffixes = [];
  hash = None;
  revision = None;
  later_ok = refl;
  letter_ok = refl;
  number_ok = refl;
  suffixes_ok = refl;
  hash_ok = refl;
  revision_ok = refl;
  no_later = λ _. refl;
  no_letter = λ _. refl;
  no_number = λ _. refl;
  no_suffixes = λ _. refl;
  no_hash = λ _. refl;
  no_revision = λ _. refl;
  whole = refl;
}

impossible : {A : Type 0} (b : Bool) → b ≡ true → b ≡ false → A
impossible b h k = absurd (false≢true (sym k ∙ h))

-- `.` and digits before such an end
with_component : (last class : Class) (ds behind : List ℕ) → is_component last ≡ true → is_suffix class ≡ false → is_numeral ds ≡ true → IsTail class behind → IsTail last (46 ∷ (ds ++ behind))
with_component last class ds behind h plain numeral end = record {
  later = ds ∷ end.later;
  letter = end.letter;
  number = None;
  suffixes = end.suffixes;
  hash = end.hash;
  revision = end.revision;
  later_ok = and_from (is_numeral ds) (list_all is_numeral end.later) numeral end.later_ok;
  letter_ok = end.letter_ok;
  number_ok = refl;
  suffixes_ok = end.suffixes_ok;
  hash_ok = end.hash_ok;
  revision_ok = end.revision_ok;
  no_later = λ k. impossible (is_component last) h k;
  no_letter = λ k. impossible (is_component last) h k;
  no_number = λ _. refl;
  no_suffixes = λ k. impossible (is_allowed_before_suffix_or_hash last) (component_before_hash last h) k;
  no_hash = λ k. impossible (is_allowed_before_suffix_or_hash last) (component_before_hash last h) k;
  no_revision = λ k. impossible (is_allowed_before_revision last) (before_hash_before_revision last (component_before_hash last h)) k;
  whole =
      ap (λ t. 46 ∷ (ds ++ t)) (end.whole ∙ ap (λ n. tail_text end.later end.letter n end.suffixes end.hash end.revision) (end.no_number plain))
      ∙ ap (λ t. 46 ∷ t) (sym (append_assoc ds (later_components_text end.later) (letter_text end.letter ++ (suffixes_text end.suffixes ++ (hash_text end.hash ++ revision_text end.revision)))));
}

-- a letter before such an end
with_letter : (last : Class) (b : ℕ) (behind : List ℕ) → is_component last ≡ true → is_ascii_lowercase b ≡ true → IsTail Letter behind → IsTail last (b ∷ behind)
with_letter last b behind h small end = record {
  later = [];
  letter = Some b;
  number = None;
  suffixes = end.suffixes;
  hash = end.hash;
  revision = end.revision;
  later_ok = refl;
  letter_ok = small;
  number_ok = refl;
  suffixes_ok = end.suffixes_ok;
  hash_ok = end.hash_ok;
  revision_ok = end.revision_ok;
  no_later = λ _. refl;
  no_letter = λ k. impossible (is_component last) h k;
  no_number = λ _. refl;
  no_suffixes = λ k. impossible (is_allowed_before_suffix_or_hash last) (component_before_hash last h) k;
  no_hash = λ k. impossible (is_allowed_before_suffix_or_hash last) (component_before_hash last h) k;
  no_revision = λ k. impossible (is_allowed_before_revision last) (before_hash_before_revision last (component_before_hash last h)) k;
  whole =
      ap (λ t. b ∷ t) (end.whole
      ∙ (λ i. tail_text (end.no_later refl i) (end.no_letter refl i) (end.no_number refl i) end.suffixes end.hash end.revision));
}

-- `_`, a suffix and its number before such an end
with_suffix : (last class : Class) (name behind : List ℕ) → is_allowed_before_suffix_or_hash last ≡ true → is_component class ≡ false → is_some (suffix_rank name) ≡ true → IsTail class behind → IsTail last (95 ∷ (name ++ behind))
with_suffix last class name behind h plain known end = record {
  later = [];
  letter = None;
  number = None;
  suffixes = record { name = name; number = end.number } ∷ end.suffixes;
  hash = end.hash;
  revision = end.revision;
  later_ok = refl;
  letter_ok = refl;
  number_ok = refl;
  suffixes_ok = and_from (is_some (suffix_rank name) && is_none_or is_numeral end.number) (list_all is_suffix_part end.suffixes)
      (and_from (is_some (suffix_rank name)) (is_none_or is_numeral end.number) known end.number_ok) end.suffixes_ok;
  hash_ok = end.hash_ok;
  revision_ok = end.revision_ok;
  no_later = λ _. refl;
  no_letter = λ _. refl;
  no_number = λ _. refl;
  no_suffixes = λ k. impossible (is_allowed_before_suffix_or_hash last) h k;
  no_hash = λ k. impossible (is_allowed_before_suffix_or_hash last) h k;
  no_revision = λ k. impossible (is_allowed_before_revision last) (before_hash_before_revision last h) k;
  whole =
      ap (λ t. 95 ∷ (name ++ t)) (end.whole
      ∙ (λ i. tail_text (end.no_later plain i) (end.no_letter plain i) end.number end.suffixes end.hash end.revision)
      ∙ sym (append_assoc (number_text end.number) (suffixes_text end.suffixes) (hash_text end.hash ++ revision_text end.revision)))
      ∙ ap (λ t. 95 ∷ t) (sym (append_assoc name (number_text end.number ++ suffixes_text end.suffixes) (hash_text end.hash ++ revision_text end.revision)));
}

-- a suffix's number before such an end
with_number : (last : Class) (ds behind : List ℕ) → is_suffix last ≡ true → is_component last ≡ false → is_numeral ds ≡ true → IsTail SuffixNumber behind → IsTail last (ds ++ behind)
with_number last ds behind h plain numeral end = record {
  later = [];
  letter = None;
  number = Some ds;
  suffixes = end.suffixes;
  hash = end.hash;
  revision = end.revision;
  later_ok = refl;
  letter_ok = refl;
  number_ok = numeral;
  suffixes_ok = end.suffixes_ok;
  hash_ok = end.hash_ok;
  revision_ok = end.revision_ok;
  no_later = λ _. refl;
  no_letter = λ _. refl;
  no_number = λ k. impossible (is_suffix last) h k;
  no_suffixes = λ k. impossible (is_allowed_before_suffix_or_hash last) (suffix_before_hash last h) k;
  no_hash = λ k. impossible (is_allowed_before_suffix_or_hash last) (suffix_before_hash last h) k;
  no_revision = λ k. impossible (is_allowed_before_revision last) (before_hash_before_revision last (suffix_before_hash last h)) k;
  whole =
      ap (λ t. ds ++ t) (end.whole
      ∙ (λ i. tail_text (end.no_later refl i) (end.no_letter refl i) (end.no_number refl i) end.suffixes end.hash end.revision));
}

-- `~` and a hash before such an end
with_hash : (last : Class) (ds behind : List ℕ) → is_allowed_before_suffix_or_hash last ≡ true → is_hash_text ds ≡ true → IsTail Hash behind → IsTail last (126 ∷ (ds ++ behind))
with_hash last ds behind h hash end = record {
  later = [];
  letter = None;
  number = None;
  suffixes = [];
  hash = Some ds;
  revision = end.revision;
  later_ok = refl;
  letter_ok = refl;
  number_ok = refl;
  suffixes_ok = refl;
  hash_ok = hash;
  revision_ok = end.revision_ok;
  no_later = λ _. refl;
  no_letter = λ _. refl;
  no_number = λ _. refl;
  no_suffixes = λ _. refl;
  no_hash = λ k. impossible (is_allowed_before_suffix_or_hash last) h k;
  no_revision = λ k. impossible (is_allowed_before_revision last) (before_hash_before_revision last h) k;
  whole =
      ap (λ t. 126 ∷ (ds ++ t)) (end.whole
      ∙ (λ i. tail_text (end.no_later refl i) (end.no_letter refl i) (end.no_number refl i) (end.no_suffixes refl i) (end.no_hash refl i) end.revision));
}

-- `-r` and a number before such an end
with_revision : (last : Class) (ds behind : List ℕ) → is_allowed_before_revision last ≡ true → is_numeral ds ≡ true → IsTail Revision behind → IsTail last (45 ∷ 114 ∷ (ds ++ behind))
with_revision last ds behind h numeral end = record {
  later = [];
  letter = None;
  number = None;
  suffixes = [];
  hash = None;
  revision = Some ds;
  later_ok = refl;
  letter_ok = refl;
  number_ok = refl;
  suffixes_ok = refl;
  hash_ok = refl;
  revision_ok = numeral;
  no_later = λ _. refl;
  no_letter = λ _. refl;
  no_number = λ _. refl;
  no_suffixes = λ _. refl;
  no_hash = λ _. refl;
  no_revision = λ k. impossible (is_allowed_before_revision last) h k;
  whole =
      ap (λ t. 45 ∷ 114 ∷ (ds ++ t)) (end.whole
      ∙ (λ i. tail_text (end.no_later refl i) (end.no_letter refl i) (end.no_number refl i) (end.no_suffixes refl i) (end.no_hash refl i) (end.no_revision refl i)))
      ∙ ap (λ t. 45 ∷ 114 ∷ t) (append-nil ds);
}

-- ---- the lexemes, by the byte that they begin with

-- what holds of shorter texts
abbrev Shorter : ℕ → Type 0
Shorter n = (last : Class) (text : List ℕ) → length text ≤ n → has_no_stray_token (tokens_after_class_skipping_bytes (Some last) 0 text) ≡ true → IsTail last text

cond_case : (P : Lexeme → Type 0) (b : Bool) (x y : Lexeme) → (b ≡ true → P x) → P y → P (cond b x y)
cond_case P true x y f g = f refl
cond_case P false x y f g = g

digits_numeral : (rest : List ℕ) → has_number_length (leading_digits rest) ≡ true → is_numeral (leading_digits rest) ≡ true
digits_numeral rest h = and_from (has_number_length (leading_digits rest)) (list_all is_ascii_digit (leading_digits rest)) h (take_while_passes is_ascii_digit rest)

same_byte : (b c : ℕ) → eqb b c ≡ true → c ≡ b
same_byte b c h = grind (arith, nat_tests)

drop_one : (k b : ℕ) (rest : List ℕ) → drop (1 + k) (b ∷ rest) ≡ drop k rest
drop_one k b rest = let e : 1 + k ≡ suc k = omega arith in ap (λ m. drop m (b ∷ rest)) e

drop_two : (k b c : ℕ) (rest : List ℕ) → drop (2 + k) (b ∷ c ∷ rest) ≡ drop k rest
drop_two k b c rest = let e : 2 + k ≡ suc (suc k) = omega arith in ap (λ m. drop m (b ∷ c ∷ rest)) e

component_no_suffix_by : (starts : Bool) (text : List ℕ) (n : ℕ) → is_suffix (cond starts (text_token ZeroComponent text) (number_token Component n)).class ≡ false
component_no_suffix_by true text n = refl
component_no_suffix_by false text n = refl

component_case : (n : ℕ) → Shorter n → (last : Class) (b : ℕ) (rest : List ℕ) → length rest ≤ n → (eqb b 46 && is_component last) ≡ true → CountsOnlyRise (b ∷ rest) (later_component_lexeme_by_digits (leading_digits rest)) → IsTail last (b ∷ rest)
component_case n shorter last b rest few guard sound =
    let ds : List ℕ = leading_digits rest in
    let behind : List ℕ = drop (length ds) rest in
    let number = component_goes_on (b ∷ rest) ds sound in
    let numeral = digits_numeral rest number in
    let class : Class = (component_token ds).class in
    let short : length behind ≤ n = omega (arith, length-drop (length ds) rest) in
    let end = shorter class behind short
    (sound_after (b ∷ rest) behind (later_component_lexeme_by_digits ds) (component_token ds) (1 + length ds) (component_read ds numeral)
    (component_is_not_last_by (begins_with_zero ds) ds (digits_value 10 ds)) (drop_one (length ds) b rest) sound) in
    let tail = with_component last class ds behind (then_true (eqb b 46) (is_component last) guard) (component_no_suffix_by (begins_with_zero ds) ds (digits_value 10 ds)) numeral end in
    subst (IsTail last)
    (λ i. same_byte b 46 (first_true (eqb b 46) (is_component last) guard) i ∷ sym (split_run is_ascii_digit rest) i) tail

letter_case : (n : ℕ) → Shorter n → (last : Class) (b : ℕ) (rest : List ℕ) → length rest ≤ n → (is_ascii_lowercase b && is_component last) ≡ true → CountsOnlyRise (b ∷ rest) (lexeme (number_token Letter b) 1) → IsTail last (b ∷ rest)
letter_case n shorter last b rest few guard sound =
    let end = shorter Letter rest few (sound_after (b ∷ rest) rest (lexeme (number_token Letter b) 1) (number_token Letter b) 1 refl refl refl sound) in
    with_letter last b rest (then_true (is_ascii_lowercase b) (is_component last) guard) (first_true (is_ascii_lowercase b) (is_component last) guard) end

suffix_no_component : (class : Class) → is_suffix class ≡ true → is_component class ≡ false
suffix_no_component Stray h = refl
suffix_no_component PreRelease h = refl
suffix_no_component End h = refl
suffix_no_component Revision h = refl
suffix_no_component Hash h = refl
suffix_no_component SuffixNumber h = refl
suffix_no_component Suffix h = refl
suffix_no_component Letter h = refl
suffix_no_component ZeroComponent h = absurd (false≢true h)
suffix_no_component Component h = absurd (false≢true h)

suffix_case : (n : ℕ) → Shorter n → (last : Class) (b : ℕ) (rest : List ℕ) → length rest ≤ n → (eqb b 95 && is_allowed_before_suffix_or_hash last) ≡ true → CountsOnlyRise (b ∷ rest) (suffix_lexeme_by_word (leading_letters rest)) → IsTail last (b ∷ rest)
suffix_case n shorter last b rest few guard sound =
    let word : List ℕ = leading_letters rest in
    let behind : List ℕ = drop (length word) rest in
    let known = suffix_by (b ∷ rest) word (suffix_rank word) sound in
    let class = suffix_class_by word (suffix_rank word) known in
    let short : length behind ≤ n = omega (arith, length-drop (length word) rest) in
    let end = shorter (suffix_lexeme_by_word word).token.class behind short
    (sound_after (b ∷ rest) behind (suffix_lexeme_by_word word) (suffix_lexeme_by_word word).token (1 + length word) (suffix_whole_by word (suffix_rank word) known)
    (suffix_is_not_last (suffix_lexeme_by_word word).token.class class) (drop_one (length word) b rest) sound) in
    let tail = with_suffix last (suffix_lexeme_by_word word).token.class word behind (then_true (eqb b 95) (is_allowed_before_suffix_or_hash last) guard)
    (suffix_no_component (suffix_lexeme_by_word word).token.class class) known end in
    subst (IsTail last)
    (λ i. same_byte b 95 (first_true (eqb b 95) (is_allowed_before_suffix_or_hash last) guard) i ∷ sym (split_run is_ascii_lowercase rest) i) tail

number_case : (n : ℕ) → Shorter n → (last : Class) (b : ℕ) (rest : List ℕ) → length rest ≤ n → (is_ascii_digit b && is_suffix last) ≡ true → CountsOnlyRise (b ∷ rest) (number_lexeme_by_digits SuffixNumber 0 (leading_digits (b ∷ rest))) → IsTail last (b ∷ rest)
number_case n shorter last b rest few guard sound =
    let ds : List ℕ = leading_digits (b ∷ rest) in
    let behind : List ℕ = drop (length ds) (b ∷ rest) in
    let number = number_goes_on (b ∷ rest) SuffixNumber 0 ds sound in
    let numeral = digits_numeral (b ∷ rest) number in
    let some = has_number_length-pos ds number in
    let short : length behind ≤ n = omega (arith, length-drop (length ds) (b ∷ rest)) in
    let same : drop (0 + length ds) (b ∷ rest) ≡ behind = let e : 0 + length ds ≡ length ds = omega arith in ap (λ m. drop m (b ∷ rest)) e in
    let end = shorter SuffixNumber behind short
    (sound_after (b ∷ rest) behind (number_lexeme_by_digits SuffixNumber 0 ds) (number_token SuffixNumber (digits_value 10 ds)) (0 + length ds) (number_read SuffixNumber 0 ds numeral) refl same sound) in
    let suffix = then_true (is_ascii_digit b) (is_suffix last) guard in
    let tail = with_number last ds behind suffix (suffix_no_component last suffix) numeral end in
    subst (IsTail last) (sym (split_run is_ascii_digit (b ∷ rest))) tail

hash_case : (n : ℕ) → Shorter n → (last : Class) (b : ℕ) (rest : List ℕ) → length rest ≤ n → (eqb b 126 && is_allowed_before_suffix_or_hash last) ≡ true → CountsOnlyRise (b ∷ rest) (hash_lexeme_by_hex_digits (leading_hex_digits rest)) → IsTail last (b ∷ rest)
hash_case n shorter last b rest few guard sound =
    let ds : List ℕ = leading_hex_digits rest in
    let behind : List ℕ = drop (length ds) rest in
    let hash = and_from (ltb 0 (length ds)) (list_all is_hex_digit ds) (hash_goes_on (b ∷ rest) ds sound) (take_while_passes is_hex_digit rest) in
    let short : length behind ≤ n = omega (arith, length-drop (length ds) rest) in
    let end = shorter Hash behind short
    (sound_after (b ∷ rest) behind (hash_lexeme_by_hex_digits ds) (text_token Hash ds) (1 + length ds) (hash_read ds hash) refl (drop_one (length ds) b rest) sound) in
    let tail = with_hash last ds behind (then_true (eqb b 126) (is_allowed_before_suffix_or_hash last) guard) hash end in
    subst (IsTail last)
    (λ i. same_byte b 126 (first_true (eqb b 126) (is_allowed_before_suffix_or_hash last) guard) i ∷ sym (split_run is_hex_digit rest) i) tail

-- after the `-`
revision_by : (n : ℕ) → Shorter n → (last : Class) (b : ℕ) (rest : List ℕ) → length rest ≤ n → b ≡ 45 → is_allowed_before_revision last ≡ true → CountsOnlyRise (b ∷ rest) (revision_lexeme_by_text_after_hyphen rest) → IsTail last (b ∷ rest)
unfolding revision_lexeme_by_text_after_hyphen
revision_by n shorter last b [] few dash guard sound = absurd (false≢true sound)
revision_by n shorter last b (c ∷ rest) few dash guard sound =
    let ds : List ℕ = leading_digits rest in
    let behind : List ℕ = drop (length ds) rest in
    let text : List ℕ = b ∷ c ∷ rest in
    let letter = sound_or_stray text (eqb c 114) (number_lexeme_by_digits Revision 2 ds) sound in
    let here : CountsOnlyRise text (number_lexeme_by_digits Revision 2 ds) = subst (λ t. CountsOnlyRise text (cond t (number_lexeme_by_digits Revision 2 ds) stray_lexeme)) letter sound in
    let numeral = digits_numeral rest (number_goes_on text Revision 2 ds here) in
    let short : length behind ≤ n = omega (arith, length-drop (length ds) rest) in
    let end = shorter Revision behind short
    (sound_after text behind (number_lexeme_by_digits Revision 2 ds) (number_token Revision (digits_value 10 ds)) (2 + length ds) (number_read Revision 2 ds numeral) refl (drop_two (length ds) b c rest) here) in
    let tail = with_revision last ds behind guard numeral end in
    subst (IsTail last)
    (λ i. sym dash i ∷ same_byte c 114 letter i ∷ sym (split_run is_ascii_digit rest) i) tail

revision_case : (n : ℕ) → Shorter n → (last : Class) (b : ℕ) (rest : List ℕ) → length rest ≤ n → (eqb b 45 && is_allowed_before_revision last) ≡ true → CountsOnlyRise (b ∷ rest) (revision_lexeme_by_text_after_hyphen rest) → IsTail last (b ∷ rest)
revision_case n shorter last b rest few guard sound =
    revision_by n shorter last b rest few (sym (same_byte b 45 (first_true (eqb b 45) (is_allowed_before_revision last) guard)))
    (then_true (eqb b 45) (is_allowed_before_revision last) guard) sound

lexeme_case : (n : ℕ) → Shorter n → (last : Class) (b : ℕ) (rest : List ℕ) → length rest ≤ n → CountsOnlyRise (b ∷ rest) (next_lexeme last (b ∷ rest)) → IsTail last (b ∷ rest)
unfolding next_lexeme
lexeme_case n shorter last b rest few =
    let P : Lexeme → Type 0 = λ found. CountsOnlyRise (b ∷ rest) found → IsTail last (b ∷ rest) in
    cond_case P (eqb b 46 && is_component last) (later_component_lexeme_by_digits (leading_digits rest)) _ (component_case n shorter last b rest few)
    (cond_case P (is_ascii_lowercase b && is_component last) (lexeme (number_token Letter b) 1) _ (letter_case n shorter last b rest few)
    (cond_case P (eqb b 95 && is_allowed_before_suffix_or_hash last) (suffix_lexeme_by_word (leading_letters rest)) _ (suffix_case n shorter last b rest few)
    (cond_case P (is_ascii_digit b && is_suffix last) (number_lexeme_by_digits SuffixNumber 0 (leading_digits (b ∷ rest))) _ (number_case n shorter last b rest few)
    (cond_case P (eqb b 126 && is_allowed_before_suffix_or_hash last) (hash_lexeme_by_hex_digits (leading_hex_digits rest)) _ (hash_case n shorter last b rest few)
    (cond_case P (eqb b 45 && is_allowed_before_revision last) (revision_lexeme_by_text_after_hyphen rest) stray_lexeme (revision_case n shorter last b rest few)
    (λ sound. absurd (false≢true sound)))))))

tails : (n : ℕ) → Shorter n
tails zero last [] few sound = at_end last
tails zero last (b ∷ rest) few sound = absurd (omega arith)
tails (suc n) last [] few sound = at_end last
tails (suc n) last (b ∷ rest) few sound =
    lexeme_case n (tails n) last b rest (omega arith) (ap has_no_stray_token (sym (tokens_after_class_skipping_bytes-step (Some last) (b ∷ rest))) ∙ sound)

pub spelled : (text : List ℕ) → is_version text ≡ true → IsSpelledVersion text
unfolding is_version tokens
spelled text h =
    let ds : List ℕ = leading_digits text in
    let behind : List ℕ = drop (length ds) text in
    let here : CountsOnlyRise text (number_lexeme_by_digits Component 0 ds) = ap has_no_stray_token (sym (tokens_after_class_skipping_bytes-step None text)) ∙ h in
    let numeral = digits_numeral text (number_goes_on text Component 0 ds here) in
    let same : drop (0 + length ds) text ≡ behind = let e : 0 + length ds ≡ length ds = omega arith in ap (λ m. drop m text) e in
    let end = tails (length behind) Component behind (omega arith)
    (sound_after text behind (number_lexeme_by_digits Component 0 ds) (number_token Component (digits_value 10 ds)) (0 + length ds) (number_read Component 0 ds numeral) refl same here) in
    let parts : VersionParts = record { first = ds; later = end.later; letter = end.letter; suffixes = end.suffixes; hash = end.hash; revision = end.revision } in
    record {
      parts = parts;
      sound =
          and_from (is_numeral ds) _ numeral (and_from (list_all is_numeral end.later) _ end.later_ok
          (and_from (is_none_or is_ascii_lowercase end.letter) _ end.letter_ok (and_from (list_all is_suffix_part end.suffixes) _ end.suffixes_ok
          (and_from (is_none_or is_hash_text end.hash) (is_none_or is_numeral end.revision) end.hash_ok end.revision_ok))));
      whole =
          ap (λ t. ds ++ t) (sym (end.whole ∙ ap (λ number. tail_text end.later end.letter number end.suffixes end.hash end.revision) (end.no_number refl)))
          ∙ sym (split_run is_ascii_digit text);
    }

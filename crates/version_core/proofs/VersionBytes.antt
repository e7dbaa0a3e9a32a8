-- Which bytes a version has, and that it begins with a digit.
use Rattle.std.proofs.Common.{◌≡◌, ℕ, Bool, true, false, cond, eqb, List, [], ◌∷◌, ◌++◌, length, Option, Some, None, refl, sym, ◌∙◌, arith, codes, subst}
use Rattle.std.specs.Prelude.{◌||◌, is_some, nat_lt}
use Rattle.std.specs.List.{list_all}
use Rattle.std.specs.Str.{bytes_eq}
use Rattle.std.specs.Char.{is_ascii_digit, is_ascii_lowercase}
use Rattle.std.specs.Cmp.Lexicographic.{bytes_decides}
use Rattle.std.proofs.lemmas.Bool.{and_parts, and_from, or_left, or_right}
use Rattle.std.proofs.lemmas.Bool.Decides.{nat_tests}
use Rattle.std.proofs.lemmas.List.Folds.{list_all-append}
use Rattle.version_core.specs.Order.{is_version}
use Rattle.version_core.specs.Token.{is_hex_digit, has_number_length, suffix_rank}
use Rattle.version_core.specs.Grammar.{IsSpelledVersion, VersionParts, SuffixPart, are_version_parts, hash_text, is_none_or, is_hash_text, is_numeral, is_suffix_part, later_components_text, letter_text, number_text, revision_text, spelling, suffixes_text, begins_with_digit, is_version_byte}
use Rattle.version_core.proofs.ReadBack.{spelled}

pub all-imp : (P Q : ℕ → Bool) → ((b : ℕ) → P b ≡ true → Q b ≡ true) → (xs : List ℕ) → list_all P xs ≡ true → list_all Q xs ≡ true
all-imp P Q imp [] h = refl
all-imp P Q imp (x ∷ xs) h =
    let parts : (P x ≡ true) × (list_all P xs ≡ true) = and_parts (P x) (list_all P xs) h in
    and_from (Q x) (list_all Q xs) (imp x parts.0) (all-imp P Q imp xs parts.1)

pub all-append : (P : ℕ → Bool) (xs ys : List ℕ) → list_all P xs ≡ true → list_all P ys ≡ true → list_all P (xs ++ ys) ≡ true
all-append P xs ys hx hy = list_all-append P xs ys ∙ and_from (list_all P xs) (list_all P ys) hx hy

digit-byte : (b : ℕ) → is_ascii_digit b ≡ true → is_version_byte b ≡ true
digit-byte b h = or_left (is_ascii_digit b) (is_ascii_lowercase b || (eqb b 46 || (eqb b 95 || (eqb b 126 || eqb b 45)))) h

letter-byte : (b : ℕ) → is_ascii_lowercase b ≡ true → is_version_byte b ≡ true
letter-byte b h =
    or_right (is_ascii_digit b) (is_ascii_lowercase b || (eqb b 46 || (eqb b 95 || (eqb b 126 || eqb b 45)))) (or_left (is_ascii_lowercase b) (eqb b 46 || (eqb b 95 || (eqb b 126 || eqb b 45))) h)

numeral-bytes : (digits : List ℕ) → is_numeral digits ≡ true → list_all is_version_byte digits ≡ true
numeral-bytes digits h =
    all-imp is_ascii_digit is_version_byte digit-byte digits (and_parts (has_number_length digits) (list_all is_ascii_digit digits) h).1

hex-byte : (b : ℕ) → is_hex_digit b ≡ true → is_version_byte b ≡ true
hex-byte b h = grind (arith, nat_tests)

-- ---- suffixes

word-row : (test : Bool) (word text : List ℕ) (n : ℕ) (rest : Option ℕ) → test ≡ bytes_eq word text → list_all is_version_byte text ≡ true → is_some (cond test (Some n) rest) ≡ true → (is_some rest ≡ true → list_all is_version_byte word ≡ true) → list_all is_version_byte word ≡ true
word-row true word text n rest t known h more =
    let P : List ℕ → Type 0 = λ w. list_all is_version_byte w ≡ true in
    subst P (sym ((bytes_decides word text).0 (sym t))) known
word-row false word text n rest t known h more = more h

no_word : (word : List ℕ) → false ≡ true → list_all is_version_byte word ≡ true
no_word word h = (cc)

word-bytes : (word : List ℕ) → is_some (suffix_rank word) ≡ true → list_all is_version_byte word ≡ true
unfolding suffix_rank
word-bytes word h =
    word-row (bytes_eq word (codes "alpha")) word (codes "alpha") 0 _ refl refl h
    (λ h. word-row (bytes_eq word (codes "beta")) word (codes "beta") 1 _ refl refl h
    (λ h. word-row (bytes_eq word (codes "pre")) word (codes "pre") 2 _ refl refl h
    (λ h. word-row (bytes_eq word (codes "rc")) word (codes "rc") 3 _ refl refl h
    (λ h. word-row (bytes_eq word (codes "cvs")) word (codes "cvs") 4 _ refl refl h
    (λ h. word-row (bytes_eq word (codes "svn")) word (codes "svn") 5 _ refl refl h
    (λ h. word-row (bytes_eq word (codes "git")) word (codes "git") 6 _ refl refl h
    (λ h. word-row (bytes_eq word (codes "hg")) word (codes "hg") 7 _ refl refl h
    (λ h. word-row (bytes_eq word (codes "p")) word (codes "p") 8 _ refl refl h
    (no_word word)))))))))

-- ---- the parts of a version

later-bytes : (later : List (List ℕ)) → list_all is_numeral later ≡ true → list_all is_version_byte (later_components_text later) ≡ true
later-bytes [] h = refl
later-bytes (digits ∷ later) h =
    let parts : (is_numeral digits ≡ true) × (list_all is_numeral later ≡ true) = and_parts (is_numeral digits) (list_all is_numeral later) h in
    all-append is_version_byte digits (later_components_text later) (numeral-bytes digits parts.0) (later-bytes later parts.1)

letter-bytes : (letter : Option ℕ) → is_none_or is_ascii_lowercase letter ≡ true → list_all is_version_byte (letter_text letter) ≡ true
letter-bytes None h = refl
letter-bytes (Some letter) h = and_from (is_version_byte letter) true (letter-byte letter h) refl

number-bytes : (number : Option (List ℕ)) → is_none_or is_numeral number ≡ true → list_all is_version_byte (number_text number) ≡ true
number-bytes None h = refl
number-bytes (Some digits) h = numeral-bytes digits h

suffixes-bytes : (suffixes : List SuffixPart) → list_all is_suffix_part suffixes ≡ true → list_all is_version_byte (suffixes_text suffixes) ≡ true
suffixes-bytes [] h = refl
suffixes-bytes (suffix ∷ rest) h =
    let parts : (is_suffix_part suffix ≡ true) × (list_all is_suffix_part rest ≡ true) = and_parts (is_suffix_part suffix) (list_all is_suffix_part rest) h in
    let both : (is_some (suffix_rank suffix.name) ≡ true) × (is_none_or is_numeral suffix.number ≡ true) =
    and_parts (is_some (suffix_rank suffix.name)) (is_none_or is_numeral suffix.number) parts.0 in
    all-append is_version_byte suffix.name (number_text suffix.number ++ suffixes_text rest) (word-bytes suffix.name both.0) (all-append is_version_byte (number_text suffix.number) (suffixes_text rest) (number-bytes suffix.number both.1) (suffixes-bytes rest parts.1))

hash-bytes : (hash : Option (List ℕ)) → is_none_or is_hash_text hash ≡ true → list_all is_version_byte (hash_text hash) ≡ true
hash-bytes None h = refl
hash-bytes (Some digits) h =
    all-imp is_hex_digit is_version_byte hex-byte digits (and_parts (nat_lt 0 (length digits)) (list_all is_hex_digit digits) h).1

revision-bytes : (revision : Option (List ℕ)) → is_none_or is_numeral revision ≡ true → list_all is_version_byte (revision_text revision) ≡ true
revision-bytes None h = refl
revision-bytes (Some digits) h = numeral-bytes digits h

spelling-bytes : (parts : VersionParts) → are_version_parts parts ≡ true → list_all is_version_byte (spelling parts) ≡ true
spelling-bytes parts h =
    let a = and_parts (is_numeral parts.first) _ h in
    let b = and_parts (list_all is_numeral parts.later) _ a.1 in
    let c = and_parts (is_none_or is_ascii_lowercase parts.letter) _ b.1 in
    let d = and_parts (list_all is_suffix_part parts.suffixes) _ c.1 in
    let e = and_parts (is_none_or is_hash_text parts.hash) _ d.1 in
    all-append is_version_byte parts.first _ (numeral-bytes parts.first a.0) (all-append is_version_byte (later_components_text parts.later) _ (later-bytes parts.later b.0) (all-append is_version_byte (letter_text parts.letter) _ (letter-bytes parts.letter c.0) (all-append is_version_byte (suffixes_text parts.suffixes) _ (suffixes-bytes parts.suffixes d.0) (all-append is_version_byte (hash_text parts.hash) (revision_text parts.revision) (hash-bytes parts.hash e.0) (revision-bytes parts.revision e.1)))))

first-by : (first rest : List ℕ) → is_numeral first ≡ true → begins_with_digit (first ++ rest) ≡ true
first-by [] rest h = (cc)
first-by (b ∷ digits) rest h =
    (and_parts (is_ascii_digit b) (list_all is_ascii_digit digits) (and_parts (has_number_length (b ∷ digits)) (list_all is_ascii_digit (b ∷ digits)) h).1).0

pub version-bytes : (text : List ℕ) → is_version text ≡ true → list_all is_version_byte text ≡ true
version-bytes text h =
    let s : IsSpelledVersion text = spelled text h in
    let P : List ℕ → Type 0 = λ t. list_all is_version_byte t ≡ true in
    subst P s.whole (spelling-bytes s.parts s.sound)

pub version-first : (text : List ℕ) → is_version text ≡ true → begins_with_digit text ≡ true
version-first text h =
    let s : IsSpelledVersion text = spelled text h in
    let P : List ℕ → Type 0 = λ t. begins_with_digit t ≡ true in
    subst P s.whole (first-by s.parts.first _ (and_parts (is_numeral s.parts.first) _ s.sound).0)

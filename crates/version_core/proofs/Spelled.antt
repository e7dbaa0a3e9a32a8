-- What is spelled after the grammar is read as its tokens, section by section from the back.
use Rattle.std.proofs.Common.{◌≡◌, ℕ, ◌+◌, Bool, true, false, ◌&&◌, cond, eqb, ltb, List, [], ◌∷◌, ◌++◌, drop, length, Option, Some, None, refl, ap, sym, ◌∙◌, arith, append_assoc, append-nil, codes}
use Rattle.std.specs.Prelude.{is_some, not}
use Rattle.std.specs.Char.{is_ascii_digit, is_ascii_lowercase}
use Rattle.std.specs.List.{list_all, take_while}
use Rattle.std.specs.Str.{bytes_eq}
use Rattle.std.specs.Str.Parse.{digits_value}
use Rattle.std.proofs.Math.Seq.{drop-append_seam}
use Rattle.std.proofs.lemmas.Bool.{false≢true}
use Rattle.std.proofs.lemmas.Bool.Decides.{nat_tests}
use Rattle.std.proofs.lemmas.List.Sums.{take_while-cons}
use Rattle.std.proofs.lemmas.Slice.Eq.{bytes_eq-Decides}
use Rattle.version_core.specs.declared.token.Class.{Class}
use Rattle.version_core.specs.declared.token.Class.TheVariants.{Stray, PreRelease, End, Revision, Hash, SuffixNumber, Suffix, Letter, ZeroComponent, Component}
use Rattle.version_core.specs.Token.{Token, Lexeme, token_without_value, number_token, text_token, lexeme, stray_lexeme, has_number_length, is_hex_digit, is_component, is_suffix, is_allowed_before_suffix_or_hash, is_allowed_before_revision, begins_with_zero, leading_digits, leading_hex_digits, leading_letters, number_lexeme_by_digits, later_component_lexeme_by_digits, suffix_rank, suffix_lexeme_by_word, suffix_lexeme_by_word_and_rank, hash_lexeme_by_hex_digits, revision_lexeme_by_text_after_hyphen, next_lexeme, lexeme_at}
use Rattle.version_core.specs.Order.{has_no_stray_token, is_end_or_stray_class, is_stray_class, is_version, tokens, tokens_after_class_skipping_bytes}
use Rattle.version_core.specs.Grammar.{VersionParts, are_version_parts, spelling, tokens_of, is_none_or, is_numeral, is_hash_text, is_suffix_part, SuffixPart, later_components_text, letter_text, number_text, suffixes_text, hash_text, revision_text, component_token, later_component_tokens, letter_tokens, number_tokens, suffix_tokens, hash_tokens, revision_tokens}
use Rattle.version_core.proofs.Walk.{after, tokens_after_class_skipping_bytes-step}

-- ---- tests

pub first_true : (a b : Bool) → (a && b) ≡ true → a ≡ true
first_true true b h = refl
first_true false b h = h

pub then_true : (a b : Bool) → (a && b) ≡ true → b ≡ true
then_true true b h = h
then_true false b h = absurd (false≢true h)

letter_is_no_digit : (b : ℕ) → is_ascii_lowercase b ≡ true → is_ascii_digit b ≡ false
letter_is_no_digit b h = grind (arith, nat_tests)

letter_is_no_dot : (b : ℕ) → is_ascii_lowercase b ≡ true → eqb b 46 ≡ false
letter_is_no_dot b h = grind (arith, nat_tests)

digit_is_no_letter : (b : ℕ) → is_ascii_digit b ≡ true → is_ascii_lowercase b ≡ false
digit_is_no_letter b h = grind (arith, nat_tests)

digit_is_no_dot : (b : ℕ) → is_ascii_digit b ≡ true → eqb b 46 ≡ false
digit_is_no_dot b h = grind (arith, nat_tests)

digit_is_no_underscore : (b : ℕ) → is_ascii_digit b ≡ true → eqb b 95 ≡ false
digit_is_no_underscore b h = grind (arith, nat_tests)

-- ---- runs

-- whether the first byte of a text passes
abbrev pub begins : (ℕ → Bool) → List ℕ → Bool
begins q [] = false
begins q (b ∷ rest) = q b

no_run : (q : ℕ → Bool) (rest : List ℕ) → begins q rest ≡ false → take_while q rest ≡ []
no_run q [] h = refl
no_run q (b ∷ rest) h = take_while-cons q b rest ∙ ap (λ t. cond t (b ∷ take_while q rest) []) h

run-append : (q : ℕ → Bool) (ds rest : List ℕ) → list_all q ds ≡ true → begins q rest ≡ false → take_while q (ds ++ rest) ≡ ds
run-append q [] rest all h = no_run q rest h
run-append q (d ∷ ds) rest all h =
    take_while-cons q d (ds ++ rest)
    ∙ ap (λ t. cond t (d ∷ take_while q (ds ++ rest)) []) (first_true (q d) (list_all q ds) all)
    ∙ ap (λ xs. d ∷ xs) (run-append q ds rest (then_true (q d) (list_all q ds) all) h)

begins-later : (q : ℕ → Bool) (ds : List (List ℕ)) (rest : List ℕ) → q 46 ≡ false → begins q rest ≡ false → begins q (later_components_text ds ++ rest) ≡ false
begins-later q [] rest dot h = h
begins-later q (d ∷ ds) rest dot h = dot

begins-letter : (l : Option ℕ) (rest : List ℕ) → is_none_or is_ascii_lowercase l ≡ true → begins is_ascii_digit rest ≡ false → begins is_ascii_digit (letter_text l ++ rest) ≡ false
begins-letter None rest small h = h
begins-letter (Some b) rest small h = letter_is_no_digit b small

begins-suffixes : (q : ℕ → Bool) (ss : List SuffixPart) (rest : List ℕ) → q 95 ≡ false → begins q rest ≡ false → begins q (suffixes_text ss ++ rest) ≡ false
begins-suffixes q [] rest mark h = h
begins-suffixes q (s ∷ ss) rest mark h = mark

begins-hash : (q : ℕ → Bool) (hash : Option (List ℕ)) (rest : List ℕ) → q 126 ≡ false → begins q rest ≡ false → begins q (hash_text hash ++ rest) ≡ false
begins-hash q None rest mark h = h
begins-hash q (Some digits) rest mark h = mark

begins-revision : (q : ℕ → Bool) (revision : Option (List ℕ)) → q 45 ≡ false → begins q (revision_text revision) ≡ false
begins-revision q None mark = refl
begins-revision q (Some digits) mark = mark

digits_are_no_letters : (ds rest : List ℕ) → list_all is_ascii_digit ds ≡ true → begins is_ascii_lowercase rest ≡ false → begins is_ascii_lowercase (ds ++ rest) ≡ false
digits_are_no_letters [] rest all h = h
digits_are_no_letters (d ∷ ds) rest all h = digit_is_no_letter d (first_true (is_ascii_digit d) (list_all is_ascii_digit ds) all)

run_all : (q : ℕ → Bool) (ds : List ℕ) → list_all q ds ≡ true → take_while q ds ≡ ds
run_all q ds all = ap (take_while q) (sym (append-nil ds)) ∙ run-append q ds [] all refl

-- ---- one token

read_token : (last : Option Class) (text front rest : List ℕ) (token : Token) (width : ℕ) → text ≡ front ++ rest → width ≡ length front → lexeme_at last text ≡ lexeme token width → is_end_or_stray_class token.class ≡ false → tokens_after_class_skipping_bytes last 0 text ≡ token ∷ tokens_after_class_skipping_bytes (Some token.class) 0 rest
read_token last text front rest token width whole long e h =
    let behind : drop width text ≡ rest = (λ i. drop (long i) (whole i)) ∙ drop-append_seam front rest in
    tokens_after_class_skipping_bytes-step last text
    ∙ ap (λ (l : Lexeme). l.token ∷ after text l) e
    ∙ (λ i. token ∷ cond (h i) [] (tokens_after_class_skipping_bytes (Some token.class) 0 (behind i)))

pub number_read : (class : Class) (mark : ℕ) (ds : List ℕ) → is_numeral ds ≡ true → number_lexeme_by_digits class mark ds ≡ lexeme (number_token class (digits_value 10 ds)) (mark + length ds)
unfolding number_lexeme_by_digits
number_read class mark ds h =
    ap (λ t. cond t (lexeme (number_token class (digits_value 10 ds)) (mark + length ds)) stray_lexeme) (first_true (has_number_length ds) (list_all is_ascii_digit ds) h)

pub numeral_digits : (ds : List ℕ) → is_numeral ds ≡ true → list_all is_ascii_digit ds ≡ true
numeral_digits ds h = then_true (has_number_length ds) (list_all is_ascii_digit ds) h

-- ---- revision

next_revision : (last : Class) (rest : List ℕ) → is_allowed_before_revision last ≡ true → next_lexeme last (45 ∷ rest) ≡ revision_lexeme_by_text_after_hyphen rest
unfolding next_lexeme
next_revision last rest h = rw h refl

pub revision_digits : (ds : List ℕ) → is_numeral ds ≡ true → revision_lexeme_by_text_after_hyphen (114 ∷ ds) ≡ lexeme (number_token Revision (digits_value 10 ds)) (2 + length ds)
unfolding revision_lexeme_by_text_after_hyphen
revision_digits ds ok =
    ap (number_lexeme_by_digits Revision 2) (run_all is_ascii_digit ds (numeral_digits ds ok)) ∙ number_read Revision 2 ds ok

at_end : (last : Class) → tokens_after_class_skipping_bytes (Some last) 0 [] ≡ token_without_value End ∷ []
unfolding next_lexeme
at_end last = refl

read_revision : (revision : Option (List ℕ)) (last : Class) → is_allowed_before_revision last ≡ true → is_none_or is_numeral revision ≡ true → tokens_after_class_skipping_bytes (Some last) 0 (revision_text revision) ≡ revision_tokens revision ++ token_without_value End ∷ []
read_revision None last h ok = at_end last
read_revision (Some ds) last h ok =
    let long : 2 + length ds ≡ length (45 ∷ 114 ∷ ds) = omega arith in
    read_token (Some last) (45 ∷ 114 ∷ ds) (45 ∷ 114 ∷ ds) [] (number_token Revision (digits_value 10 ds)) (2 + length ds)
    (sym (append-nil (45 ∷ 114 ∷ ds))) long (next_revision last (114 ∷ ds) h ∙ revision_digits ds ok) refl
    ∙ ap (λ ts. number_token Revision (digits_value 10 ds) ∷ ts) (at_end Revision)

-- ---- hash

next_hash : (last : Class) (rest : List ℕ) → is_allowed_before_suffix_or_hash last ≡ true → next_lexeme last (126 ∷ rest) ≡ hash_lexeme_by_hex_digits (leading_hex_digits rest)
unfolding next_lexeme
next_hash last rest h = rw h refl

pub hash_read : (ds : List ℕ) → is_hash_text ds ≡ true → hash_lexeme_by_hex_digits ds ≡ lexeme (text_token Hash ds) (1 + length ds)
unfolding hash_lexeme_by_hex_digits
hash_read ds h =
    ap (λ t. cond t (lexeme (text_token Hash ds) (1 + length ds)) stray_lexeme) (first_true (ltb 0 (length ds)) (list_all is_hex_digit ds) h)

pub before_hash_before_revision : (last : Class) → is_allowed_before_suffix_or_hash last ≡ true → is_allowed_before_revision last ≡ true
before_hash_before_revision Stray h = h
before_hash_before_revision PreRelease h = h
before_hash_before_revision End h = h
before_hash_before_revision Revision h = h
before_hash_before_revision Hash h = refl
before_hash_before_revision SuffixNumber h = h
before_hash_before_revision Suffix h = h
before_hash_before_revision Letter h = h
before_hash_before_revision ZeroComponent h = h
before_hash_before_revision Component h = h

read_hash : (hash : Option (List ℕ)) (last : Class) (rest : List ℕ) (ts : List Token) → is_allowed_before_suffix_or_hash last ≡ true → is_none_or is_hash_text hash ≡ true → begins is_hex_digit rest ≡ false → ((class : Class) → is_allowed_before_revision class ≡ true → tokens_after_class_skipping_bytes (Some class) 0 rest ≡ ts) → tokens_after_class_skipping_bytes (Some last) 0 (hash_text hash ++ rest) ≡ hash_tokens hash ++ ts
read_hash None last rest ts h ok other more = more last (before_hash_before_revision last h)
read_hash (Some ds) last rest ts h ok other more =
    let long : 1 + length ds ≡ length (126 ∷ ds) = omega arith in
    let all = then_true (ltb 0 (length ds)) (list_all is_hex_digit ds) ok in
    read_token (Some last) (126 ∷ (ds ++ rest)) (126 ∷ ds) rest (text_token Hash ds) (1 + length ds) refl long
    (next_hash last (ds ++ rest) h ∙ ap hash_lexeme_by_hex_digits (run-append is_hex_digit ds rest all other) ∙ hash_read ds ok) refl
    ∙ ap (λ tokens. text_token Hash ds ∷ tokens) (more Hash refl)

-- ---- suffixes

next_number : (last : Class) (d : ℕ) (rest : List ℕ) → is_suffix last ≡ true → is_ascii_digit d ≡ true → next_lexeme last (d ∷ rest) ≡ number_lexeme_by_digits SuffixNumber 0 (leading_digits (d ∷ rest))
unfolding next_lexeme
next_number last d rest h digit =
    rw (digit_is_no_dot d digit, digit_is_no_letter d digit, digit_is_no_underscore d digit, digit, h) refl

pub suffix_before_hash : (last : Class) → is_suffix last ≡ true → is_allowed_before_suffix_or_hash last ≡ true
suffix_before_hash Stray h = h
suffix_before_hash PreRelease h = refl
suffix_before_hash End h = h
suffix_before_hash Revision h = h
suffix_before_hash Hash h = h
suffix_before_hash SuffixNumber h = refl
suffix_before_hash Suffix h = refl
suffix_before_hash Letter h = refl
suffix_before_hash ZeroComponent h = refl
suffix_before_hash Component h = refl

pub suffix_is_not_last : (last : Class) → is_suffix last ≡ true → is_end_or_stray_class last ≡ false
suffix_is_not_last PreRelease h = refl
suffix_is_not_last Suffix h = refl
suffix_is_not_last Stray h = absurd (false≢true h)
suffix_is_not_last End h = absurd (false≢true h)
suffix_is_not_last Revision h = refl
suffix_is_not_last Hash h = refl
suffix_is_not_last SuffixNumber h = refl
suffix_is_not_last Letter h = refl
suffix_is_not_last ZeroComponent h = refl
suffix_is_not_last Component h = refl

read_number : (number : Option (List ℕ)) (last : Class) (rest : List ℕ) (ts : List Token) → is_suffix last ≡ true → is_none_or is_numeral number ≡ true → begins is_ascii_digit rest ≡ false → ((class : Class) → is_allowed_before_suffix_or_hash class ≡ true → tokens_after_class_skipping_bytes (Some class) 0 rest ≡ ts) → tokens_after_class_skipping_bytes (Some last) 0 (number_text number ++ rest) ≡ number_tokens number ++ ts
read_number None last rest ts h ok other more = more last (suffix_before_hash last h)
read_number (Some []) last rest ts h ok other more = absurd (false≢true ok)
read_number (Some (d ∷ ds)) last rest ts h ok other more =
    let all = numeral_digits (d ∷ ds) ok in
    let long : 0 + length (d ∷ ds) ≡ length (d ∷ ds) = omega arith in
    read_token (Some last) (d ∷ (ds ++ rest)) (d ∷ ds) rest (number_token SuffixNumber (digits_value 10 (d ∷ ds))) (0 + length (d ∷ ds)) refl long
    (next_number last d (ds ++ rest) h (first_true (is_ascii_digit d) (list_all is_ascii_digit ds) all)
    ∙ ap (number_lexeme_by_digits SuffixNumber 0) (run-append is_ascii_digit (d ∷ ds) rest all other) ∙ number_read SuffixNumber 0 (d ∷ ds) ok) refl
    ∙ ap (λ tokens. number_token SuffixNumber (digits_value 10 (d ∷ ds)) ∷ tokens) (more SuffixNumber refl)

next_suffix : (last : Class) (rest : List ℕ) → is_allowed_before_suffix_or_hash last ≡ true → next_lexeme last (95 ∷ rest) ≡ suffix_lexeme_by_word (leading_letters rest)
unfolding next_lexeme
next_suffix last rest h = rw h refl

pub suffix_whole_by : (word : List ℕ) (rank : Option ℕ) → is_some rank ≡ true → suffix_lexeme_by_word_and_rank word rank ≡ lexeme (suffix_lexeme_by_word_and_rank word rank).token (1 + length word)
suffix_whole_by word None h = absurd (false≢true h)
suffix_whole_by word (Some rank) h = refl

two_suffixes : (b : Bool) → is_suffix (cond b PreRelease Suffix) ≡ true
two_suffixes true = refl
two_suffixes false = refl

pub suffix_class_by : (word : List ℕ) (rank : Option ℕ) → is_some rank ≡ true → is_suffix (suffix_lexeme_by_word_and_rank word rank).token.class ≡ true
suffix_class_by word None h = absurd (false≢true h)
suffix_class_by word (Some rank) h = two_suffixes (ltb rank 4)

-- a known suffix is made of letters
known_word : (test : Bool) (word literal : List ℕ) (rank : ℕ) (others : Option ℕ) → (test ≡ true → word ≡ literal) → list_all is_ascii_lowercase literal ≡ true → (is_some others ≡ true → list_all is_ascii_lowercase word ≡ true) → is_some (cond test (Some rank) others) ≡ true → list_all is_ascii_lowercase word ≡ true
known_word true word literal rank others same small more h = ap (list_all is_ascii_lowercase) (same refl) ∙ small
known_word false word literal rank others same small more h = more h

suffix_letters : (word : List ℕ) → is_some (suffix_rank word) ≡ true → list_all is_ascii_lowercase word ≡ true
unfolding suffix_rank
suffix_letters word =
    known_word (bytes_eq word (codes "alpha")) word (codes "alpha") 0 _ (bytes_eq-Decides word (codes "alpha")).0 refl
    (known_word (bytes_eq word (codes "beta")) word (codes "beta") 1 _ (bytes_eq-Decides word (codes "beta")).0 refl
    (known_word (bytes_eq word (codes "pre")) word (codes "pre") 2 _ (bytes_eq-Decides word (codes "pre")).0 refl
    (known_word (bytes_eq word (codes "rc")) word (codes "rc") 3 _ (bytes_eq-Decides word (codes "rc")).0 refl
    (known_word (bytes_eq word (codes "cvs")) word (codes "cvs") 4 _ (bytes_eq-Decides word (codes "cvs")).0 refl
    (known_word (bytes_eq word (codes "svn")) word (codes "svn") 5 _ (bytes_eq-Decides word (codes "svn")).0 refl
    (known_word (bytes_eq word (codes "git")) word (codes "git") 6 _ (bytes_eq-Decides word (codes "git")).0 refl
    (known_word (bytes_eq word (codes "hg")) word (codes "hg") 7 _ (bytes_eq-Decides word (codes "hg")).0 refl
    (known_word (bytes_eq word (codes "p")) word (codes "p") 8 None (bytes_eq-Decides word (codes "p")).0 refl
    (λ h. absurd (false≢true h))))))))))

begins_no_letter : (number : Option (List ℕ)) (rest : List ℕ) → is_none_or is_numeral number ≡ true → begins is_ascii_lowercase rest ≡ false → begins is_ascii_lowercase (number_text number ++ rest) ≡ false
begins_no_letter None rest ok h = h
begins_no_letter (Some ds) rest ok h = digits_are_no_letters ds rest (numeral_digits ds ok) h

read_suffixes : (suffixes : List SuffixPart) (last : Class) (rest : List ℕ) (ts : List Token) → is_allowed_before_suffix_or_hash last ≡ true → list_all is_suffix_part suffixes ≡ true → begins is_ascii_digit rest ≡ false → begins is_ascii_lowercase rest ≡ false → ((class : Class) → is_allowed_before_suffix_or_hash class ≡ true → tokens_after_class_skipping_bytes (Some class) 0 rest ≡ ts) → tokens_after_class_skipping_bytes (Some last) 0 (suffixes_text suffixes ++ rest) ≡ suffix_tokens suffixes ++ ts
read_suffixes [] last rest ts h ok no_digit no_letter more = more last h
read_suffixes (s ∷ ss) last rest ts h ok no_digit no_letter more =
    let behind : List ℕ = suffixes_text ss ++ rest in
    let here = first_true (is_suffix_part s) (list_all is_suffix_part ss) ok in
    let known = first_true (is_some (suffix_rank s.name)) (is_none_or is_numeral s.number) here in
    let number = then_true (is_some (suffix_rank s.name)) (is_none_or is_numeral s.number) here in
    let whole : (95 ∷ (s.name ++ (number_text s.number ++ suffixes_text ss))) ++ rest ≡ 95 ∷ (s.name ++ (number_text s.number ++ behind)) =
    ap (λ t. 95 ∷ t) (append_assoc s.name (number_text s.number ++ suffixes_text ss) rest ∙ ap (λ t. s.name ++ t) (append_assoc (number_text s.number) (suffixes_text ss) rest)) in
    let long : 1 + length s.name ≡ length (95 ∷ s.name) = omega arith in
    let word = run-append is_ascii_lowercase s.name (number_text s.number ++ behind) (suffix_letters s.name known)
    (begins_no_letter s.number behind number (begins-suffixes is_ascii_lowercase ss rest refl no_letter)) in
    let class = suffix_class_by s.name (suffix_rank s.name) known in
    ap (tokens_after_class_skipping_bytes (Some last) 0) whole
    ∙ read_token (Some last) (95 ∷ (s.name ++ (number_text s.number ++ behind))) (95 ∷ s.name) (number_text s.number ++ behind) (suffix_lexeme_by_word s.name).token (1 + length s.name) refl long
    (next_suffix last (s.name ++ (number_text s.number ++ behind)) h ∙ ap suffix_lexeme_by_word word ∙ suffix_whole_by s.name (suffix_rank s.name) known)
    (suffix_is_not_last (suffix_lexeme_by_word s.name).token.class class)
    ∙ ap (λ tokens. (suffix_lexeme_by_word s.name).token ∷ tokens)
    (read_number s.number (suffix_lexeme_by_word s.name).token.class behind (suffix_tokens ss ++ ts) class number
    (begins-suffixes is_ascii_digit ss rest refl no_digit)
    (λ c before. read_suffixes ss c rest ts before (then_true (is_suffix_part s) (list_all is_suffix_part ss) ok) no_digit no_letter more)
    ∙ sym (append_assoc (number_tokens s.number) (suffix_tokens ss) ts))

-- ---- letter

next_letter : (last : Class) (b : ℕ) (rest : List ℕ) → is_component last ≡ true → is_ascii_lowercase b ≡ true → next_lexeme last (b ∷ rest) ≡ lexeme (number_token Letter b) 1
unfolding next_lexeme
next_letter last b rest h small = rw (letter_is_no_dot b small, small, h) refl

pub component_before_hash : (last : Class) → is_component last ≡ true → is_allowed_before_suffix_or_hash last ≡ true
component_before_hash Stray h = absurd (false≢true h)
component_before_hash PreRelease h = refl
component_before_hash End h = absurd (false≢true h)
component_before_hash Revision h = absurd (false≢true h)
component_before_hash Hash h = absurd (false≢true h)
component_before_hash SuffixNumber h = refl
component_before_hash Suffix h = refl
component_before_hash Letter h = refl
component_before_hash ZeroComponent h = refl
component_before_hash Component h = refl

read_letter : (letter : Option ℕ) (last : Class) (rest : List ℕ) (ts : List Token) → is_component last ≡ true → is_none_or is_ascii_lowercase letter ≡ true → ((class : Class) → is_allowed_before_suffix_or_hash class ≡ true → tokens_after_class_skipping_bytes (Some class) 0 rest ≡ ts) → tokens_after_class_skipping_bytes (Some last) 0 (letter_text letter ++ rest) ≡ letter_tokens letter ++ ts
read_letter None last rest ts h ok more = more last (component_before_hash last h)
read_letter (Some b) last rest ts h ok more =
    read_token (Some last) (b ∷ rest) (b ∷ []) rest (number_token Letter b) 1 refl refl (next_letter last b rest h ok) refl
    ∙ ap (λ tokens. number_token Letter b ∷ tokens) (more Letter refl)

-- ---- components

next_component : (last : Class) (rest : List ℕ) → is_component last ≡ true → next_lexeme last (46 ∷ rest) ≡ later_component_lexeme_by_digits (leading_digits rest)
unfolding next_lexeme
next_component last rest h = rw h refl

component_by : (zero : Bool) (a b : Token) (width : ℕ) → cond zero (lexeme a width) (lexeme b width) ≡ lexeme (cond zero a b) width
component_by true a b width = refl
component_by false a b width = refl

pub component_read : (ds : List ℕ) → is_numeral ds ≡ true → later_component_lexeme_by_digits ds ≡ lexeme (component_token ds) (1 + length ds)
unfolding later_component_lexeme_by_digits
component_read ds ok =
    let number = first_true (has_number_length ds) (list_all is_ascii_digit ds) ok in
    let zero : Lexeme = lexeme (text_token ZeroComponent ds) (1 + length ds) in
    ap (λ t. cond (t && begins_with_zero ds) zero (number_lexeme_by_digits Component 1 ds)) number
    ∙ ap (λ l. cond (begins_with_zero ds) zero l) (number_read Component 1 ds ok)
    ∙ component_by (begins_with_zero ds) (text_token ZeroComponent ds) (number_token Component (digits_value 10 ds)) (1 + length ds)

pub component_class_by : (zero : Bool) (text : List ℕ) (n : ℕ) → is_component (cond zero (text_token ZeroComponent text) (number_token Component n)).class ≡ true
component_class_by true text n = refl
component_class_by false text n = refl

pub component_is_not_last_by : (zero : Bool) (text : List ℕ) (n : ℕ) → is_end_or_stray_class (cond zero (text_token ZeroComponent text) (number_token Component n)).class ≡ false
component_is_not_last_by true text n = refl
component_is_not_last_by false text n = refl

read_later : (later : List (List ℕ)) (last : Class) (rest : List ℕ) (ts : List Token) → is_component last ≡ true → list_all is_numeral later ≡ true → begins is_ascii_digit rest ≡ false → ((class : Class) → is_component class ≡ true → tokens_after_class_skipping_bytes (Some class) 0 rest ≡ ts) → tokens_after_class_skipping_bytes (Some last) 0 (later_components_text later ++ rest) ≡ later_component_tokens later ++ ts
read_later [] last rest ts h ok other more = more last h
read_later (ds ∷ later) last rest ts h ok other more =
    let behind : List ℕ = later_components_text later ++ rest in
    let numeral = first_true (is_numeral ds) (list_all is_numeral later) ok in
    let long : 1 + length ds ≡ length (46 ∷ ds) = omega arith in
    ap (λ t. tokens_after_class_skipping_bytes (Some last) 0 (46 ∷ t)) (append_assoc ds (later_components_text later) rest)
    ∙ read_token (Some last) (46 ∷ (ds ++ behind)) (46 ∷ ds) behind (component_token ds) (1 + length ds) refl long
    (next_component last (ds ++ behind) h
    ∙ ap later_component_lexeme_by_digits (run-append is_ascii_digit ds behind (numeral_digits ds numeral) (begins-later is_ascii_digit later rest refl other))
    ∙ component_read ds numeral)
    (component_is_not_last_by (begins_with_zero ds) ds (digits_value 10 ds))
    ∙ ap (λ tokens. component_token ds ∷ tokens)
    (read_later later (component_token ds).class rest ts (component_class_by (begins_with_zero ds) ds (digits_value 10 ds))
    (then_true (is_numeral ds) (list_all is_numeral later) ok) other more)

-- ---- all of it

-- which parts are in the grammar
record InGrammar (parts : VersionParts) : Type 0 where
  first : is_numeral parts.first ≡ true
  later : list_all is_numeral parts.later ≡ true
  letter : is_none_or is_ascii_lowercase parts.letter ≡ true
  suffixes : list_all is_suffix_part parts.suffixes ≡ true
  hash : is_none_or is_hash_text parts.hash ≡ true
  revision : is_none_or is_numeral parts.revision ≡ true

in_grammar_by : (a b c d e f : Bool) → (a && (b && (c && (d && (e && f))))) ≡ true → (a ≡ true) × (b ≡ true) × (c ≡ true) × (d ≡ true) × (e ≡ true) × (f ≡ true)
in_grammar_by true true true true true f h = (refl, refl, refl, refl, refl, h)
in_grammar_by true true true true false f h = absurd (false≢true h)
in_grammar_by true true true false e f h = absurd (false≢true h)
in_grammar_by true true false d e f h = absurd (false≢true h)
in_grammar_by true false c d e f h = absurd (false≢true h)
in_grammar_by false b c d e f h = absurd (false≢true h)

in_grammar : (parts : VersionParts) → are_version_parts parts ≡ true → InGrammar parts
in_grammar parts ok =
    let six = in_grammar_by (is_numeral parts.first) (list_all is_numeral parts.later) (is_none_or is_ascii_lowercase parts.letter)
    (list_all is_suffix_part parts.suffixes) (is_none_or is_hash_text parts.hash) (is_none_or is_numeral parts.revision) ok in
    record { first = six.0; later = six.1; letter = six.2; suffixes = six.3; hash = six.4; revision = six.5 }

pub read_spelling : (parts : VersionParts) → are_version_parts parts ≡ true → tokens (spelling parts) ≡ tokens_of parts
unfolding tokens
read_spelling parts ok =
    let each = in_grammar parts ok in
    let t5 : List ℕ = revision_text parts.revision in
    let t4 : List ℕ = hash_text parts.hash ++ t5 in
    let t3 : List ℕ = suffixes_text parts.suffixes ++ t4 in
    let t2 : List ℕ = letter_text parts.letter ++ t3 in
    let t1 : List ℕ = later_components_text parts.later ++ t2 in
    let s5 : List Token = revision_tokens parts.revision ++ token_without_value End ∷ [] in
    let s4 : List Token = hash_tokens parts.hash ++ s5 in
    let s3 : List Token = suffix_tokens parts.suffixes ++ s4 in
    let s2 : List Token = letter_tokens parts.letter ++ s3 in
    let digit4 = begins-hash is_ascii_digit parts.hash t5 refl (begins-revision is_ascii_digit parts.revision refl) in
    let letter4 = begins-hash is_ascii_lowercase parts.hash t5 refl (begins-revision is_ascii_lowercase parts.revision refl) in
    let digit3 = begins-suffixes is_ascii_digit parts.suffixes t4 refl digit4 in
    let digit2 = begins-letter parts.letter t3 each.letter digit3 in
    let digit1 = begins-later is_ascii_digit parts.later t2 refl digit2 in
    let long : 0 + length parts.first ≡ length parts.first = omega arith in
    read_token None (parts.first ++ t1) parts.first t1 (number_token Component (digits_value 10 parts.first)) (0 + length parts.first) refl long
    (ap (number_lexeme_by_digits Component 0) (run-append is_ascii_digit parts.first t1 (numeral_digits parts.first each.first) digit1)
    ∙ number_read Component 0 parts.first each.first) refl
    ∙ ap (λ ts. number_token Component (digits_value 10 parts.first) ∷ ts)
    (read_later parts.later Component t2 s2 refl each.later digit2
    (λ c2 h2. read_letter parts.letter c2 t3 s3 h2 each.letter
    (λ c3 h3. read_suffixes parts.suffixes c3 t4 s4 h3 each.suffixes digit4 letter4
    (λ c4 h4. read_hash parts.hash c4 t5 s5 h4 each.hash (begins-revision is_hex_digit parts.revision refl)
    (λ c5 h5. read_revision parts.revision c5 h5 each.revision)))))

sound-append : (xs ys : List Token) → has_no_stray_token xs ≡ true → has_no_stray_token ys ≡ true → has_no_stray_token (xs ++ ys) ≡ true
sound-append [] ys h k = k
sound-append (x ∷ xs) ys h k =
    rw (first_true (not (is_stray_class x.class)) (has_no_stray_token xs) h) (sound-append xs ys (then_true (not (is_stray_class x.class)) (has_no_stray_token xs) h) k)

component_sound : (zero : Bool) (text : List ℕ) (n : ℕ) → not (is_stray_class (cond zero (text_token ZeroComponent text) (number_token Component n)).class) ≡ true
component_sound true text n = refl
component_sound false text n = refl

later_sound : (later : List (List ℕ)) → has_no_stray_token (later_component_tokens later) ≡ true
later_sound [] = refl
later_sound (ds ∷ later) = rw (component_sound (begins_with_zero ds) ds (digits_value 10 ds)) (later_sound later)

letter_sound : (letter : Option ℕ) → has_no_stray_token (letter_tokens letter) ≡ true
letter_sound None = refl
letter_sound (Some b) = refl

number_sound : (number : Option (List ℕ)) → has_no_stray_token (number_tokens number) ≡ true
number_sound None = refl
number_sound (Some ds) = refl

suffix_sound_by : (b : Bool) → not (is_stray_class (cond b PreRelease Suffix)) ≡ true
suffix_sound_by true = refl
suffix_sound_by false = refl

suffix_sound : (word : List ℕ) (rank : Option ℕ) → is_some rank ≡ true → not (is_stray_class (suffix_lexeme_by_word_and_rank word rank).token.class) ≡ true
suffix_sound word None h = absurd (false≢true h)
suffix_sound word (Some rank) h = suffix_sound_by (ltb rank 4)

suffixes_sound : (suffixes : List SuffixPart) → list_all is_suffix_part suffixes ≡ true → has_no_stray_token (suffix_tokens suffixes) ≡ true
suffixes_sound [] ok = refl
suffixes_sound (s ∷ ss) ok =
    let known = first_true (is_some (suffix_rank s.name)) (is_none_or is_numeral s.number) (first_true (is_suffix_part s) (list_all is_suffix_part ss) ok) in
    rw (suffix_sound s.name (suffix_rank s.name) known)
    (sound-append (number_tokens s.number) (suffix_tokens ss) (number_sound s.number) (suffixes_sound ss (then_true (is_suffix_part s) (list_all is_suffix_part ss) ok)))

hash_sound : (hash : Option (List ℕ)) → has_no_stray_token (hash_tokens hash) ≡ true
hash_sound None = refl
hash_sound (Some ds) = refl

revision_sound : (revision : Option (List ℕ)) → has_no_stray_token (revision_tokens revision) ≡ true
revision_sound None = refl
revision_sound (Some ds) = refl

pub spelling_is_version : (parts : VersionParts) → are_version_parts parts ≡ true → is_version (spelling parts) ≡ true
unfolding is_version
spelling_is_version parts ok =
    let each = in_grammar parts ok in
    ap has_no_stray_token (read_spelling parts ok)
    ∙ sound-append (later_component_tokens parts.later) _ (later_sound parts.later)
    (sound-append (letter_tokens parts.letter) _ (letter_sound parts.letter)
    (sound-append (suffix_tokens parts.suffixes) _ (suffixes_sound parts.suffixes each.suffixes)
    (sound-append (hash_tokens parts.hash) _ (hash_sound parts.hash)
    (sound-append (revision_tokens parts.revision) (token_without_value End ∷ []) (revision_sound parts.revision) refl))))

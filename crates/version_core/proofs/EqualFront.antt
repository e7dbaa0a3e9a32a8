-- Two versions that are equal up to a mark compare by what is from the mark on, and match by it.
use Rattle.std.proofs.Common.{◌≡◌, ℕ, zero, suc, ◌+◌, ◌-◌, ◌<◌, ◌≤◌, Bool, true, false, ◌&&◌, ◌||◌, cond, eqb, ltb, List, [], ◌∷◌, ◌++◌, take, drop, get_or, length, Option, Some, None, refl, ap, sym, ◌∙◌, subst, arith}
use Rattle.std.specs.Prelude.{not}
use Rattle.std.specs.Char.{is_ascii_digit, is_ascii_lowercase}
use Rattle.std.specs.List.{take_while}
use Rattle.std.specs.Ordering.{is_eq, nat_cmp, ordering_then}
use Rattle.std.specs.Cmp.Lexicographic.{slice_cmp}
use Rattle.std.proofs.lemmas.Bool.{false≢true}
use Rattle.std.proofs.lemmas.Bool.Decides.{Decides-eqb}
use Rattle.std.proofs.lemmas.Cmp.{tied_itself, nat_cmp_total}
use Rattle.std.proofs.lemmas.Slice.Eq.{bytes_eq-Decides}
use Rattle.std.proofs.lemmas.List.{append_assoc, drop-append-le, drop-drop, drop_more, length-drop, length-take, take-append-drop, take_all}
use Rattle.std.proofs.Math.Seq.{take-add}
use Rattle.std.proofs.lemmas.List.Sums.{take_while-cons}
use Rattle.std.proofs.Math.Bool.{and-false}
use Rattle.version_core.specs.declared.token.Class.{Class}
use Rattle.version_core.specs.declared.token.Class.TheVariants.{Revision, Hash, SuffixNumber, Letter, Component}
use Rattle.version_core.specs.Token.{Token, Lexeme, number_token, text_token, lexeme, stray_lexeme, is_component, is_suffix, is_allowed_before_suffix_or_hash, is_allowed_before_revision, is_hex_digit, leading_digits, leading_hex_digits, leading_letters, number_lexeme_by_digits, later_component_lexeme_by_digits, suffix_lexeme_by_word, hash_lexeme_by_hex_digits, revision_lexeme_by_text_after_hyphen, next_lexeme, lexeme_at}
use Rattle.version_core.specs.Order.{has_no_stray_token, is_end_or_stray_class, is_stray_class, is_version, token_cmp, tokens, tokens_after_class_skipping_bytes, version_cmp}
use Rattle.version_core.specs.Matching.{are_wanted_tokens_met_by, is_prefix_of, is_wanted_token_met_by, is_fuzzy_match, is_zero_component}
use Rattle.version_core.specs.Reading.{AreEqualUpTo, IsLastMark, begins_with_mark, hash_cmp, hash_fits, is_token_mark, is_unmarked}
use Rattle.version_core.proofs.OrderLaws.{token_cmp-total}
use Rattle.version_core.proofs.Places.{NoEnd, number_no_end, some_no_end, stray_first}
use Rattle.version_core.proofs.Walk.{lexeme_at_within}

-- ---- the four marks

or_cases : {P : Type 0} (a b : Bool) → (a || b) ≡ true → (a ≡ true → P) → (b ≡ true → P) → P
or_cases true b h f g = f refl
or_cases false b h f g = g h

pub by_mark : (P : ℕ → Type 0) (m : ℕ) → is_token_mark m ≡ true → P 46 → P 95 → P 126 → P 45 → P m
by_mark P m h dot line tilde dash =
    let at : (n : ℕ) → P n → eqb m n ≡ true → P m = λ n p e. subst P (sym ((Decides-eqb m n).0 e)) p in
    or_cases (eqb m 46 || eqb m 95 || eqb m 126) (eqb m 45) h
    (λ h. or_cases (eqb m 46 || eqb m 95) (eqb m 126) h (λ h. or_cases (eqb m 46) (eqb m 95) h (at 46 dot) (at 95 line)) (at 126 tilde))
    (at 45 dash)

no_digit : (m : ℕ) → is_token_mark m ≡ true → is_ascii_digit m ≡ false
no_digit m h = by_mark (λ m. is_ascii_digit m ≡ false) m h refl refl refl refl

no_letter : (m : ℕ) → is_token_mark m ≡ true → is_ascii_lowercase m ≡ false
no_letter m h = by_mark (λ m. is_ascii_lowercase m ≡ false) m h refl refl refl refl

no_hex : (m : ℕ) → is_token_mark m ≡ true → is_hex_digit m ≡ false
no_hex m h = by_mark (λ m. is_hex_digit m ≡ false) m h refl refl refl refl

no_r : (m : ℕ) → is_token_mark m ≡ true → eqb m 114 ≡ false
no_r m h = by_mark (λ m. eqb m 114 ≡ false) m h refl refl refl refl

-- ---- no token goes over a mark after its first byte

run_front : (q : ℕ → Bool) (a : List ℕ) (m : ℕ) (x : List ℕ) → q m ≡ false → take_while q (a ++ m ∷ x) ≡ take_while q a
run_front q [] m x h = take_while-cons q m x ∙ ap (λ b. cond b (m ∷ take_while q x) []) h
run_front q (b ∷ a) m x h =
    take_while-cons q b (a ++ m ∷ x) ∙ ap (λ r. cond (q b) (b ∷ r) []) (run_front q a m x h) ∙ sym (take_while-cons q b a)

revision_front : (a : List ℕ) (m : ℕ) (x : List ℕ) → is_token_mark m ≡ true → revision_lexeme_by_text_after_hyphen (a ++ m ∷ x) ≡ revision_lexeme_by_text_after_hyphen a
unfolding revision_lexeme_by_text_after_hyphen
revision_front [] m x h = ap (λ b. cond b (number_lexeme_by_digits Revision 2 (leading_digits x)) stray_lexeme) (no_r m h)
revision_front (b ∷ a) m x h = ap (λ ds. cond (eqb b 114) (number_lexeme_by_digits Revision 2 ds) stray_lexeme) (run_front is_ascii_digit a m x (no_digit m h))

abbrev next_by : Class → ℕ → List ℕ → List ℕ → List ℕ → List ℕ → Lexeme → Lexeme
next_by last b digits letters number hash revision =
    cond (eqb b 46 && is_component last) (later_component_lexeme_by_digits digits)
    (cond (is_ascii_lowercase b && is_component last) (lexeme (number_token Letter b) 1)
    (cond (eqb b 95 && is_allowed_before_suffix_or_hash last) (suffix_lexeme_by_word letters)
    (cond (is_ascii_digit b && is_suffix last) (number_lexeme_by_digits SuffixNumber 0 number)
    (cond (eqb b 126 && is_allowed_before_suffix_or_hash last) (hash_lexeme_by_hex_digits hash)
    (cond (eqb b 45 && is_allowed_before_revision last) revision
    stray_lexeme)))))

lexeme_front : (last : Option Class) (b : ℕ) (a : List ℕ) (m : ℕ) (x : List ℕ) → is_token_mark m ≡ true → lexeme_at last (b ∷ (a ++ m ∷ x)) ≡ lexeme_at last (b ∷ a)
unfolding next_lexeme
lexeme_front None b a m x h = ap (number_lexeme_by_digits Component 0) (run_front is_ascii_digit (b ∷ a) m x (no_digit m h))
lexeme_front (Some last) b a m x h = λ i.
    next_by last b (run_front is_ascii_digit a m x (no_digit m h) i) (run_front is_ascii_lowercase a m x (no_letter m h) i)
    (run_front is_ascii_digit (b ∷ a) m x (no_digit m h) i) (run_front is_hex_digit a m x (no_hex m h) i) (revision_front a m x h i)

-- ---- what a version has from a mark on does not depend on the token before

plain_by : (b : Bool) (x : Lexeme) → is_end_or_stray_class (cond b x stray_lexeme).token.class ≡ false → cond b x stray_lexeme ≡ x
plain_by true x h = refl
plain_by false x h = absurd (false≢true (sym h))

mark_lexeme : (last : Option Class) (m : ℕ) (x : List ℕ) → is_token_mark m ≡ true → is_end_or_stray_class (lexeme_at last (m ∷ x)).token.class ≡ false → lexeme_at last (m ∷ x) ≡ lexeme_at (Some Component) (m ∷ x)
unfolding next_lexeme number_lexeme_by_digits
mark_lexeme None m x mark h =
    let none : number_lexeme_by_digits Component 0 (leading_digits (m ∷ x)) ≡ stray_lexeme = ap (number_lexeme_by_digits Component 0) (run_front is_ascii_digit [] m x (no_digit m mark)) in
    absurd (false≢true (sym h ∙ ap (λ (l : Lexeme). is_end_or_stray_class l.token.class) none))
mark_lexeme (Some last) m x mark h =
    by_mark (λ m. is_end_or_stray_class (next_lexeme last (m ∷ x)).token.class ≡ false → next_lexeme last (m ∷ x) ≡ next_lexeme Component (m ∷ x)) m mark
    (plain_by (is_component last) (later_component_lexeme_by_digits (leading_digits x)))
    (plain_by (is_allowed_before_suffix_or_hash last) (suffix_lexeme_by_word (leading_letters x)))
    (plain_by (is_allowed_before_suffix_or_hash last) (hash_lexeme_by_hex_digits (leading_hex_digits x)))
    (plain_by (is_allowed_before_revision last) (revision_lexeme_by_text_after_hyphen x))
    h

-- ---- the tokens of a text that is in the grammar

abbrev pub IsGood : Option Class → ℕ → List ℕ → Type 0
IsGood last inside text = has_no_stray_token (tokens_after_class_skipping_bytes last inside text) ≡ true

no_end : (last : Option Class) (b : ℕ) (rest : List ℕ) → NoEnd (lexeme_at last (b ∷ rest))
no_end None b rest = number_no_end Component 0 (leading_digits (b ∷ rest)) (λ h. h)
no_end (Some last) b rest = some_no_end last (b ∷ rest) (omega arith)

bool_by : (b : Bool) → (b ≡ true → false ≡ true) → b ≡ false
bool_by true f = sym (f refl)
bool_by false f = refl

pub goes_on : (last : Option Class) (b : ℕ) (rest : List ℕ) → IsGood last 0 (b ∷ rest) → is_end_or_stray_class (lexeme_at last (b ∷ rest)).token.class ≡ false
goes_on last b rest good = bool_by _ (λ h. sym (stray_first last (b ∷ rest) (no_end last b rest) h) ∙ good)

-- the tokens after a token, if it begins a text of which so much follows its first byte
abbrev tokens_by : List ℕ → Lexeme → List Token
tokens_by rest found = found.token ∷ cond (is_end_or_stray_class found.token.class) [] (tokens_after_class_skipping_bytes (Some found.token.class) (found.width - 1) rest)

pub good_after : (rest : List ℕ) (found : Lexeme) (stray : Bool) (last : Bool) → last ≡ false → (not stray && has_no_stray_token (cond last [] (tokens_after_class_skipping_bytes (Some found.token.class) (found.width - 1) rest))) ≡ true → IsGood (Some found.token.class) (found.width - 1) rest
good_after rest found true last e h = absurd (false≢true h)
good_after rest found false true e h = absurd (false≢true (sym e))
good_after rest found false false e h = h

-- what is made of two lists of tokens, where a token that both begin with makes no difference
abbrev pub PassesEqual : {X : Type 0} → (List Token → List Token → X) → Type 0
PassesEqual make = (token : Token) (ts us : List Token) → is_end_or_stray_class token.class ≡ false → make (token ∷ ts) (token ∷ us) ≡ make ts us

-- what is made of the tokens of two texts after a token of some class
abbrev made_at : {X : Type 0} → (List Token → List Token → X) → Option Class → ℕ → List ℕ → List ℕ → X
made_at make last inside left right = make (tokens_after_class_skipping_bytes last inside left) (tokens_after_class_skipping_bytes last inside right)

module _ {X : Type 0} (make : List Token → List Token → X) (passes : PassesEqual make) where
  -- of two texts that begin with one token the same is made as of what follows it
  same_token : (found : Lexeme) (x y : List ℕ) → is_end_or_stray_class found.token.class ≡ false → make (tokens_by x found) (tokens_by y found) ≡ made_at make (Some found.token.class) (found.width - 1) x y
  same_token found x y h =
      ap (λ b. make (found.token ∷ cond b [] (tokens_after_class_skipping_bytes (Some found.token.class) (found.width - 1) x)) (found.token ∷ cond b [] (tokens_after_class_skipping_bytes (Some found.token.class) (found.width - 1) y))) h
      ∙ passes found.token (tokens_after_class_skipping_bytes (Some found.token.class) (found.width - 1) x) (tokens_after_class_skipping_bytes (Some found.token.class) (found.width - 1) y) h

  -- the same with an equal front, after which both go on with a mark
  made_after : (last : Option Class) (inside : ℕ) (a : List ℕ) (m : ℕ) (x y : List ℕ) → is_token_mark m ≡ true → inside ≤ length a → IsGood last inside (a ++ m ∷ x) → IsGood last inside (a ++ m ∷ y) → made_at make last inside (a ++ m ∷ x) (a ++ m ∷ y) ≡ made_at make (Some Component) 0 (m ∷ x) (m ∷ y)
  made_after last zero [] m x y mark room left right = λ i.
      make (tokens_by x (mark_lexeme last m x mark (goes_on last m x left) i)) (tokens_by y (mark_lexeme last m y mark (goes_on last m y right) i))
  made_after last (suc inside) [] m x y mark room left right = absurd (omega arith)
  made_after last (suc inside) (b ∷ a) m x y mark room left right = made_after last inside a m x y mark (omega arith) left right
  made_after last zero (b ∷ a) m x y mark room left right =
      let found = lexeme_at last (b ∷ a) in
      let e = lexeme_front last b a m x mark in
      let f = lexeme_front last b a m y mark in
      let on : is_end_or_stray_class found.token.class ≡ false = ap (λ (l : Lexeme). is_end_or_stray_class l.token.class) (sym e) ∙ goes_on last b (a ++ m ∷ x) left in
      let most = (lexeme_at_within last (b ∷ a)).most in
      (λ i. make (tokens_by (a ++ m ∷ x) (e i)) (tokens_by (a ++ m ∷ y) (f i)))
      ∙ same_token found (a ++ m ∷ x) (a ++ m ∷ y) on
      ∙ made_after (Some found.token.class) (found.width - 1) a m x y mark (omega arith)
      (good_after (a ++ m ∷ x) found (is_stray_class found.token.class) (is_end_or_stray_class found.token.class) on (ap (λ (l : Lexeme). has_no_stray_token (tokens_by (a ++ m ∷ x) l)) (sym e) ∙ left))
      (good_after (a ++ m ∷ y) found (is_stray_class found.token.class) (is_end_or_stray_class found.token.class) on (ap (λ (l : Lexeme). has_no_stray_token (tokens_by (a ++ m ∷ y) l)) (sym f) ∙ right))

-- and each is in the grammar from the mark on
pub good_front : (last : Option Class) (inside : ℕ) (a : List ℕ) (m : ℕ) (x : List ℕ) → is_token_mark m ≡ true → inside ≤ length a → IsGood last inside (a ++ m ∷ x) → IsGood (Some Component) 0 (m ∷ x)
good_front last zero [] m x mark room good =
    ap (λ (l : Lexeme). has_no_stray_token (tokens_by x l)) (sym (mark_lexeme last m x mark (goes_on last m x good))) ∙ good
good_front last (suc inside) [] m x mark room good = absurd (omega arith)
good_front last (suc inside) (b ∷ a) m x mark room good = good_front last inside a m x mark (omega arith) good
good_front last zero (b ∷ a) m x mark room good =
    let found = lexeme_at last (b ∷ a) in
    let e = lexeme_front last b a m x mark in
    let on : is_end_or_stray_class found.token.class ≡ false = ap (λ (l : Lexeme). is_end_or_stray_class l.token.class) (sym e) ∙ goes_on last b (a ++ m ∷ x) good in
    let most = (lexeme_at_within last (b ∷ a)).most in
    good_front (Some found.token.class) (found.width - 1) a m x mark (omega arith)
    (good_after (a ++ m ∷ x) found (is_stray_class found.token.class) (is_end_or_stray_class found.token.class) on (ap (λ (l : Lexeme). has_no_stray_token (tokens_by (a ++ m ∷ x) l)) (sym e) ∙ good))

-- ---- within the hash of both

pub and_left : (a b : Bool) → (a && b) ≡ true → a ≡ true
and_left true b h = refl
and_left false b h = absurd (false≢true h)

pub and_right : (a b : Bool) → (a && b) ≡ true → b ≡ true
and_right true b h = h
and_right false b h = absurd (false≢true h)

or_right : (a b : Bool) → not (a || b) ≡ true → b ≡ false
or_right true b h = absurd (false≢true h)
or_right false true h = absurd (false≢true h)
or_right false false h = refl

no_hash_byte : (b : ℕ) (rest : List ℕ) → not (is_token_mark b) ≡ true → next_lexeme Hash (b ∷ rest) ≡ stray_lexeme
unfolding next_lexeme
no_hash_byte b rest h = λ i.
    cond (and-false (eqb b 46) i) (later_component_lexeme_by_digits (leading_digits rest))
    (cond (and-false (is_ascii_lowercase b) i) (lexeme (number_token Letter b) 1)
    (cond (and-false (eqb b 95) i) (suffix_lexeme_by_word (leading_letters rest))
    (cond (and-false (is_ascii_digit b) i) (number_lexeme_by_digits SuffixNumber 0 (leading_digits (b ∷ rest)))
    (cond (and-false (eqb b 126) i) (hash_lexeme_by_hex_digits (leading_hex_digits rest))
    (cond (or_right (eqb b 46 || eqb b 95 || eqb b 126) (eqb b 45) h i && true) (revision_lexeme_by_text_after_hyphen rest) stray_lexeme)))))

-- the digits of a hash up to a place within it
record AreHashDigits (digits rest : List ℕ) : Type 0 where
  text : leading_hex_digits (digits ++ rest) ≡ digits ++ leading_hex_digits rest
  behind : tokens_after_class_skipping_bytes (Some Hash) (length (leading_hex_digits (digits ++ rest))) (digits ++ rest) ≡ tokens_after_class_skipping_bytes (Some Hash) (length (leading_hex_digits rest)) rest

hash_digits_by : (b : ℕ) (digits rest : List ℕ) (hex : Bool) → is_hex_digit b ≡ hex → not (is_token_mark b) ≡ true → IsGood (Some Hash) (length (leading_hex_digits (b ∷ (digits ++ rest)))) (b ∷ (digits ++ rest))
    → (IsGood (Some Hash) (length (leading_hex_digits (digits ++ rest))) (digits ++ rest) → AreHashDigits digits rest) → AreHashDigits (b ∷ digits) rest
hash_digits_by b digits rest true h plain good later =
    let run : leading_hex_digits (b ∷ (digits ++ rest)) ≡ b ∷ leading_hex_digits (digits ++ rest) = take_while-cons is_hex_digit b (digits ++ rest) ∙ ap (λ c. cond c (b ∷ leading_hex_digits (digits ++ rest)) []) h in
    let there : tokens_after_class_skipping_bytes (Some Hash) (length (leading_hex_digits (b ∷ (digits ++ rest)))) (b ∷ (digits ++ rest)) ≡ tokens_after_class_skipping_bytes (Some Hash) (length (leading_hex_digits (digits ++ rest))) (digits ++ rest) = ap (λ ds. tokens_after_class_skipping_bytes (Some Hash) (length ds) (b ∷ (digits ++ rest))) run in
    let more = later (ap has_no_stray_token (sym there) ∙ good) in
    record { text = run ∙ ap (λ ds. b ∷ ds) more.text; behind = there ∙ more.behind }
hash_digits_by b digits rest false h plain good later =
    let run : leading_hex_digits (b ∷ (digits ++ rest)) ≡ [] = take_while-cons is_hex_digit b (digits ++ rest) ∙ ap (λ c. cond c (b ∷ leading_hex_digits (digits ++ rest)) []) h in
    let here : IsGood (Some Hash) 0 (b ∷ (digits ++ rest)) = ap (λ ds. has_no_stray_token (tokens_after_class_skipping_bytes (Some Hash) (length ds) (b ∷ (digits ++ rest)))) (sym run) ∙ good in
    let stray : is_end_or_stray_class (lexeme_at (Some Hash) (b ∷ (digits ++ rest))).token.class ≡ true = ap (λ (l : Lexeme). is_end_or_stray_class l.token.class) (no_hash_byte b (digits ++ rest) plain) in
    absurd (false≢true (sym (goes_on (Some Hash) b (digits ++ rest) here) ∙ stray))

hash_digits : (digits rest : List ℕ) → is_unmarked digits ≡ true → IsGood (Some Hash) (length (leading_hex_digits (digits ++ rest))) (digits ++ rest) → AreHashDigits digits rest
hash_digits [] rest plain good = record { text = refl; behind = refl }
hash_digits (b ∷ digits) rest plain good =
    hash_digits_by b digits rest (is_hex_digit b) refl (and_left (not (is_token_mark b)) (is_unmarked digits) plain) good (hash_digits digits rest (and_right (not (is_token_mark b)) (is_unmarked digits) plain))

hash_first : (rest : List ℕ) → IsGood (Some Component) 0 (126 ∷ rest) → tokens_after_class_skipping_bytes (Some Component) 0 (126 ∷ rest) ≡ text_token Hash (leading_hex_digits rest) ∷ tokens_after_class_skipping_bytes (Some Hash) (length (leading_hex_digits rest)) rest
unfolding next_lexeme hash_lexeme_by_hex_digits
hash_first rest good =
    let len = length (leading_hex_digits rest) in
    let less : 1 + len - 1 ≡ len = omega arith in
    ap (tokens_by rest) (plain_by (ltb 0 len) (lexeme (text_token Hash (leading_hex_digits rest)) (1 + len)) (goes_on (Some Component) 126 rest good))
    ∙ ap (λ n. text_token Hash (leading_hex_digits rest) ∷ tokens_after_class_skipping_bytes (Some Hash) n rest) less

same_digits : (a x y : List ℕ) → slice_cmp nat_cmp (a ++ x) (a ++ y) ≡ slice_cmp nat_cmp x y
same_digits [] x y = refl
same_digits (b ∷ a) x y = ap (λ o. ordering_then o (slice_cmp nat_cmp (a ++ x) (a ++ y))) (tied_itself nat_cmp_total b) ∙ same_digits a x y

-- the tokens from a hash on, whose digits are these and those that a text begins with
abbrev hash_and_after : List ℕ → List ℕ → List Token
hash_and_after digits rest =
    text_token Hash (digits ++ leading_hex_digits rest) ∷ tokens_after_class_skipping_bytes (Some Hash) (length (leading_hex_digits rest)) rest

hash_tokens : (digits rest : List ℕ) → is_unmarked digits ≡ true → IsGood (Some Component) 0 (126 ∷ (digits ++ rest)) → tokens_after_class_skipping_bytes (Some Component) 0 (126 ∷ (digits ++ rest)) ≡ hash_and_after digits rest
hash_tokens digits rest plain good =
    let first = hash_first (digits ++ rest) good in
    let inner = hash_digits digits rest plain (ap has_no_stray_token (sym first) ∙ good) in
    first ∙ (λ i. text_token Hash (inner.text i) ∷ inner.behind i)

-- ---- what the code passes over

-- a text with the mark at which it is cut, and what is up to the place that was compared
pub record IsCut (text front : List ℕ) (len at m : ℕ) (plain : List ℕ) : Type 0 where
  pub whole : text ≡ take at front ++ m ∷ (plain ++ drop len text)
  pub rest : drop at text ≡ m ∷ (plain ++ drop len text)

pub cut_text : (text front : List ℕ) (len at m : ℕ) (plain : List ℕ) → front ≡ take len text → drop at front ≡ m ∷ plain → IsCut text front len at m plain
cut_text text front len at m plain e h =
    let joined : front ++ drop len text ≡ text = ap (λ f. f ++ drop len text) e ∙ take-append-drop len text in
    let some : at ≤ length front = omega (arith, length-drop at front, ap length h) in
    record {
      whole = sym joined ∙ ap (λ f. f ++ drop len text) (sym (take-append-drop at front)) ∙ append_assoc (take at front) (drop at front) (drop len text) ∙ ap (λ d. take at front ++ (d ++ drop len text)) h;
      rest = ap (drop at) (sym joined) ∙ drop-append-le at front (drop len text) some ∙ ap (λ d. d ++ drop len text) h;
    }

-- the mark and what follows it in a front
pub with_mark : (P : Type 0) (text : List ℕ) → begins_with_mark text ≡ true → ((m : ℕ) (rest : List ℕ) → text ≡ m ∷ rest → is_token_mark m ≡ true → P) → P
with_mark P [] h f = absurd (false≢true h)
with_mark P (m ∷ rest) h f = f m rest refl h

pub more_equal : (left right : List ℕ) (len n : ℕ) → AreEqualUpTo left right len → len + n ≤ length left → len + n ≤ length right → take n (drop len left) ≡ take n (drop len right) → AreEqualUpTo left right (len + n)
more_equal left right len n known one two e = record {
  within = (one, two);
  same = take-add len n left ∙ (λ i. known.same i ++ e i) ∙ sym (take-add len n right);
}

pub cmp_whole : (left right : List ℕ) → slice_cmp token_cmp (tokens left) (tokens right) ≡ version_cmp left right
unfolding version_cmp
cmp_whole left right = refl

tokens_whole : (text : List ℕ) → tokens text ≡ tokens_after_class_skipping_bytes None 0 text
unfolding tokens
tokens_whole text = refl

pub good_whole : (text : List ℕ) → is_version text ≡ true → IsGood None 0 text
unfolding is_version tokens
good_whole text h = h

module _ {X : Type 0} (make : List Token → List Token → X) (passes : PassesEqual make) (left right : List ℕ) (len at : ℕ) (equal : AreEqualUpTo left right len) (found : IsLastMark (take len left) at) (one : is_version left ≡ true) (two : is_version right ≡ true) where
  pub made_from_mark : make (tokens left) (tokens right) ≡ make (tokens_after_class_skipping_bytes (Some Component) 0 (drop at left)) (tokens_after_class_skipping_bytes (Some Component) 0 (drop at right))
  made_from_mark =
      let front = take len left in
      with_mark _ (drop at front) found.mark (λ m plain h mark.
      let l = cut_text left front len at m plain refl h in
      let r = cut_text right front len at m plain equal.same h in
      let x = plain ++ drop len left in
      let y = plain ++ drop len right in
      (λ i. make (tokens_whole left i) (tokens_whole right i))
      ∙ (λ i. made_at make None 0 (l.whole i) (r.whole i))
      ∙ made_after make passes None 0 (take at front) m x y mark (omega arith) (subst (IsGood None 0) l.whole (good_whole left one)) (subst (IsGood None 0) r.whole (good_whole right two))
      ∙ (λ i. made_at make (Some Component) 0 (sym l.rest i) (sym r.rest i)))

  pub made_from_hash : (inner : List ℕ → List ℕ → X) → ((digits x y : List ℕ) → make (hash_and_after digits x) (hash_and_after digits y) ≡ inner x y) → at < length left → get_or left at 0 ≡ 126 → make (tokens left) (tokens right) ≡ inner (drop len left) (drop len right)
  made_from_hash inner drops within tilde =
      let front = take len left in
      with_mark _ (drop at front) found.mark (λ m plain h mark.
      let l = cut_text left front len at m plain refl h in
      let r = cut_text right front len at m plain equal.same h in
      let x = plain ++ drop len left in
      let y = plain ++ drop len right in
      let is : m ≡ 126 = ap (λ t. get_or t 0 0) (sym l.rest ∙ drop_more left at 0 within) ∙ tilde in
      let digits : is_unmarked plain ≡ true = ap is_unmarked (sym (sym (drop-drop 1 at front) ∙ ap (drop 1) h)) ∙ found.last in
      let good_l = subst (λ m. IsGood (Some Component) 0 (m ∷ x)) is (good_front None 0 (take at front) m x mark (omega arith) (subst (IsGood None 0) l.whole (good_whole left one))) in
      let good_r = subst (λ m. IsGood (Some Component) 0 (m ∷ y)) is (good_front None 0 (take at front) m y mark (omega arith) (subst (IsGood None 0) r.whole (good_whole right two))) in
      made_from_mark
      ∙ (λ i. made_at make (Some Component) 0 (l.rest i) (r.rest i))
      ∙ (λ i. made_at make (Some Component) 0 (is i ∷ x) (is i ∷ y))
      ∙ (λ i. make (hash_tokens plain (drop len left) digits good_l i) (hash_tokens plain (drop len right) digits good_r i))
      ∙ drops plain (drop len left) (drop len right))

-- ---- the order

cmp_passes : PassesEqual (slice_cmp token_cmp)
cmp_passes token ts us h = ap (λ o. ordering_then o (slice_cmp token_cmp ts us)) (tied_itself token_cmp-total token)

cmp_drops : (digits x y : List ℕ) → slice_cmp token_cmp (hash_and_after digits x) (hash_and_after digits y) ≡ hash_cmp x y
cmp_drops digits x y =
    ap (λ o. ordering_then o (slice_cmp token_cmp (tokens_after_class_skipping_bytes (Some Hash) (length (leading_hex_digits x)) x) (tokens_after_class_skipping_bytes (Some Hash) (length (leading_hex_digits y)) y)))
    (same_digits digits (leading_hex_digits x) (leading_hex_digits y))

pub cmp_from_mark : (left right : List ℕ) (len at : ℕ) → AreEqualUpTo left right len → IsLastMark (take len left) at → is_version left ≡ true → is_version right ≡ true → version_cmp left right ≡ slice_cmp token_cmp (tokens_after_class_skipping_bytes (Some Component) 0 (drop at left)) (tokens_after_class_skipping_bytes (Some Component) 0 (drop at right))
cmp_from_mark left right len at equal found one two =
    sym (cmp_whole left right) ∙ made_from_mark (slice_cmp token_cmp) cmp_passes left right len at equal found one two

pub cmp_from_hash : (left right : List ℕ) (len at : ℕ) → AreEqualUpTo left right len → IsLastMark (take len left) at → is_version left ≡ true → is_version right ≡ true → at < length left → get_or left at 0 ≡ 126 → version_cmp left right ≡ hash_cmp (drop len left) (drop len right)
cmp_from_hash left right len at equal found one two within tilde =
    sym (cmp_whole left right) ∙ made_from_hash (slice_cmp token_cmp) cmp_passes left right len at equal found one two hash_cmp cmp_drops within tilde

-- ---- the fuzzy match

fits_by_itself : (both : Bool) (token : Token) → cond both (is_prefix_of token.text token.text) (is_eq (token_cmp token token)) ≡ true
fits_by_itself true token =
    (bytes_eq-Decides token.text (take (length token.text) token.text)).1 (sym (take_all (length token.text) token.text (omega arith)))
fits_by_itself false token = ap is_eq (tied_itself token_cmp-total token)

equal_fits : (token : Token) → is_wanted_token_met_by token token ≡ true
unfolding is_wanted_token_met_by
equal_fits token = fits_by_itself (is_zero_component token.class && is_zero_component token.class) token

pub fit_passes : PassesEqual are_wanted_tokens_met_by
fit_passes token ts us h =
    (λ i. h i || (is_wanted_token_met_by token token && are_wanted_tokens_met_by ts us)) ∙ ap (λ b. b && are_wanted_tokens_met_by ts us) (equal_fits token)

fit_drops : (digits x y : List ℕ) → are_wanted_tokens_met_by (hash_and_after digits x) (hash_and_after digits y) ≡ hash_fits x y
unfolding is_wanted_token_met_by
fit_drops digits x y =
    ap (λ o. is_eq o && are_wanted_tokens_met_by (tokens_after_class_skipping_bytes (Some Hash) (length (leading_hex_digits x)) x) (tokens_after_class_skipping_bytes (Some Hash) (length (leading_hex_digits y)) y))
    (same_digits digits (leading_hex_digits y) (leading_hex_digits x))

pub fit_whole : (wanted found : List ℕ) → are_wanted_tokens_met_by (tokens wanted) (tokens found) ≡ is_fuzzy_match found wanted
unfolding is_fuzzy_match
fit_whole wanted found = refl

pub fit_from_mark : (wanted found : List ℕ) (len at : ℕ) → AreEqualUpTo wanted found len → IsLastMark (take len wanted) at → is_version wanted ≡ true → is_version found ≡ true → is_fuzzy_match found wanted ≡ are_wanted_tokens_met_by (tokens_after_class_skipping_bytes (Some Component) 0 (drop at wanted)) (tokens_after_class_skipping_bytes (Some Component) 0 (drop at found))
fit_from_mark wanted found len at equal last one two =
    sym (fit_whole wanted found) ∙ made_from_mark are_wanted_tokens_met_by fit_passes wanted found len at equal last one two

pub fit_from_hash : (wanted found : List ℕ) (len at : ℕ) → AreEqualUpTo wanted found len → IsLastMark (take len wanted) at → is_version wanted ≡ true → is_version found ≡ true → at < length wanted → get_or wanted at 0 ≡ 126 → is_fuzzy_match found wanted ≡ hash_fits (drop len wanted) (drop len found)
fit_from_hash wanted found len at equal last one two within tilde =
    sym (fit_whole wanted found) ∙ made_from_hash are_wanted_tokens_met_by fit_passes wanted found len at equal last one two hash_fits fit_drops within tilde

pub mark_within : (text : List ℕ) (len at : ℕ) → IsLastMark (take len text) at → at < length text
mark_within text len at found =
    with_mark _ (drop at (take len text)) found.mark (λ m plain h mark. omega (arith, length-drop at (take len text), ap length h, length-take-most len text))
  where
    length-take-most : (n : ℕ) (xs : List ℕ) → length (take n xs) ≤ length xs
    length-take-most n xs = omega (arith, length-take n xs)

pub mark_before : (text : List ℕ) (len at : ℕ) → IsLastMark (take len text) at → at < len
mark_before text len at found =
    with_mark _ (drop at (take len text)) found.mark (λ m plain h mark. omega (arith, length-drop at (take len text), ap length h, length-take len text))

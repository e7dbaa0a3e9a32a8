-- The tokens of a text, one after another.
use Rattle.std.proofs.Common.{◌≡◌, ℕ, zero, suc, ◌+◌, ◌-◌, ◌<◌, ◌≤◌, Bool, true, false, ◌&&◌, cond, ltb, eqb, List, [], ◌∷◌, drop, length, Option, Some, None, refl, ap, sym, ◌∙◌, arith}
use Rattle.std.specs.Char.{is_ascii_digit, is_ascii_lowercase}
use Rattle.std.specs.Str.Parse.{digits_value}
use Rattle.std.specs.List.{take_while}
use Rattle.std.proofs.lemmas.Bool.{false≢true}
use Rattle.std.proofs.lemmas.Bool.Decides.{nat_tests}
use Rattle.std.proofs.lemmas.List.{length-drop, drop-drop}
use Rattle.std.proofs.lemmas.List.Folds.{length-prefix_len}
use Rattle.std.proofs.lemmas.List.Sums.{prefix_len-le-length}
use Rattle.version_core.specs.declared.token.Class.{Class}
use Rattle.version_core.specs.declared.token.Class.TheVariants.{Revision, Hash, SuffixNumber, Letter, ZeroComponent, Component}
use Rattle.version_core.specs.Token.{Token, Lexeme, number_token, text_token, lexeme, stray_lexeme, has_number_length, is_component, is_suffix, is_allowed_before_suffix_or_hash, is_allowed_before_revision, begins_with_zero, is_hex_digit, leading_digits, leading_hex_digits, leading_letters, number_lexeme_by_digits, later_component_lexeme_by_digits, suffix_rank, suffix_lexeme_by_word, suffix_lexeme_by_word_and_rank, hash_lexeme_by_hex_digits, revision_lexeme_by_text_after_hyphen, next_lexeme, lexeme_at}
use Rattle.version_core.specs.declared.lexeme.Lexeme.{Lexeme as LexemeAt}
use Rattle.version_core.specs.Order.{is_end_or_stray_class, tokens_after_class_skipping_bytes}
use Rattle.version_core.specs.Reading.{lexeme_view, token_view, unread_len}

-- a lexeme is no longer than its text, and has a byte at least, unless it is the last
pub record HasNamesAmong (text : List ℕ) (found : Lexeme) : Type 0 where
  pub most : found.width ≤ length text
  pub some : is_end_or_stray_class found.token.class ≡ false → 0 < found.width

stray_within : (text : List ℕ) → HasNamesAmong text stray_lexeme
stray_within text = record { most = omega arith; some = λ h. absurd (false≢true (sym h)) }

cond_within : (text : List ℕ) (b : Bool) (x y : Lexeme) → (b ≡ true → HasNamesAmong text x) → HasNamesAmong text y → HasNamesAmong text (cond b x y)
cond_within text true x y f g = f refl
cond_within text false x y f g = g

lexeme_within : (text : List ℕ) (token : Token) (width : ℕ) → width ≤ length text → 0 < width → HasNamesAmong text (lexeme token width)
lexeme_within text token width most some = record { most = most; some = λ _. some }

length-take_while : (q : ℕ → Bool) (xs : List ℕ) → length (take_while q xs) ≤ length xs
length-take_while q xs = omega (arith, length-prefix_len q xs, prefix_len-le-length q xs)

pub has_number_length-pos : (ds : List ℕ) → has_number_length ds ≡ true → 0 < length ds
has_number_length-pos ds h = grind (arith, nat_tests)

number_within : (text : List ℕ) (class : Class) (mark : ℕ) (ds : List ℕ) → mark + length ds ≤ length text → HasNamesAmong text (number_lexeme_by_digits class mark ds)
unfolding number_lexeme_by_digits
number_within text class mark ds most =
    cond_within text (has_number_length ds) (lexeme (number_token class (digits_value 10 ds)) (mark + length ds)) stray_lexeme
    (λ h. let pos = has_number_length-pos ds h in lexeme_within text _ (mark + length ds) most (omega arith))
    (stray_within text)

component_within : (text ds : List ℕ) → 1 + length ds ≤ length text → HasNamesAmong text (later_component_lexeme_by_digits ds)
unfolding later_component_lexeme_by_digits
component_within text ds most =
    cond_within text (has_number_length ds && begins_with_zero ds) (lexeme (text_token ZeroComponent ds) (1 + length ds)) (number_lexeme_by_digits Component 1 ds)
    (λ _. lexeme_within text _ (1 + length ds) most (omega arith))
    (number_within text Component 1 ds most)

suffix_within_by : (text word : List ℕ) (rank : Option ℕ) → 1 + length word ≤ length text → HasNamesAmong text (suffix_lexeme_by_word_and_rank word rank)
suffix_within_by text word None most = stray_within text
suffix_within_by text word (Some rank) most = lexeme_within text _ (1 + length word) most (omega arith)

hash_within : (text ds : List ℕ) → 1 + length ds ≤ length text → HasNamesAmong text (hash_lexeme_by_hex_digits ds)
unfolding hash_lexeme_by_hex_digits
hash_within text ds most =
    cond_within text (ltb 0 (length ds)) (lexeme (text_token Hash ds) (1 + length ds)) stray_lexeme
    (λ _. lexeme_within text _ (1 + length ds) most (omega arith))
    (stray_within text)

revision_within : (text rest : List ℕ) → 1 + length rest ≤ length text → HasNamesAmong text (revision_lexeme_by_text_after_hyphen rest)
unfolding revision_lexeme_by_text_after_hyphen
revision_within text [] most = stray_within text
revision_within text (b ∷ rest) most =
    cond_within text (eqb b 114) (number_lexeme_by_digits Revision 2 (leading_digits rest)) stray_lexeme
    (λ _. number_within text Revision 2 (leading_digits rest) (omega (arith, length-take_while is_ascii_digit rest)))
    (stray_within text)

next_within : (last : Class) (text : List ℕ) → HasNamesAmong text (next_lexeme last text)
unfolding next_lexeme
next_within last [] = record { most = omega arith; some = λ h. absurd (false≢true (sym h)) }
next_within last (b ∷ rest) =
    let text : List ℕ = b ∷ rest in
    let digits : 1 + length (leading_digits rest) ≤ length text = omega (arith, length-take_while is_ascii_digit rest) in
    let word : 1 + length (leading_letters rest) ≤ length text = omega (arith, length-take_while is_ascii_lowercase rest) in
    let hex : 1 + length (leading_hex_digits rest) ≤ length text = omega (arith, length-take_while is_hex_digit rest) in
    cond_within text (eqb b 46 && is_component last) (later_component_lexeme_by_digits (leading_digits rest)) _ (λ _. component_within text (leading_digits rest) digits)
    (cond_within text (is_ascii_lowercase b && is_component last) (lexeme (number_token Letter b) 1) _ (λ _. lexeme_within text (number_token Letter b) 1 (omega arith) (omega arith))
    (cond_within text (eqb b 95 && is_allowed_before_suffix_or_hash last) (suffix_lexeme_by_word (leading_letters rest)) _ (λ _. suffix_within_by text (leading_letters rest) (suffix_rank (leading_letters rest)) word)
    (cond_within text (is_ascii_digit b && is_suffix last) (number_lexeme_by_digits SuffixNumber 0 (leading_digits text)) _ (λ _. number_within text SuffixNumber 0 (leading_digits text) (omega (arith, length-take_while is_ascii_digit text)))
    (cond_within text (eqb b 126 && is_allowed_before_suffix_or_hash last) (hash_lexeme_by_hex_digits (leading_hex_digits rest)) _ (λ _. hash_within text (leading_hex_digits rest) hex)
    (cond_within text (eqb b 45 && is_allowed_before_revision last) (revision_lexeme_by_text_after_hyphen rest) stray_lexeme (λ _. revision_within text rest (omega arith))
    (stray_within text))))))

pub lexeme_at_within : (last : Option Class) (text : List ℕ) → HasNamesAmong text (lexeme_at last text)
lexeme_at_within None text = number_within text Component 0 (leading_digits text) (omega (arith, length-take_while is_ascii_digit text))
lexeme_at_within (Some last) text = next_within last text

-- the bytes that belong to the token before are skipped
pub tokens_after_class_skipping_bytes-drop : (last : Option Class) (inside : ℕ) (text : List ℕ) → tokens_after_class_skipping_bytes last inside text ≡ tokens_after_class_skipping_bytes last 0 (drop inside text)
tokens_after_class_skipping_bytes-drop last zero text = refl
tokens_after_class_skipping_bytes-drop last (suc inside) [] = refl
tokens_after_class_skipping_bytes-drop last (suc inside) (b ∷ rest) = tokens_after_class_skipping_bytes-drop last inside rest

-- the tokens after a lexeme
abbrev pub after : List ℕ → Lexeme → List Token
after text found = cond (is_end_or_stray_class found.token.class) [] (tokens_after_class_skipping_bytes (Some found.token.class) 0 (drop found.width text))

-- what is at the end is the last
last_at_end : (last : Option Class) → is_end_or_stray_class (lexeme_at last []).token.class ≡ true
unfolding number_lexeme_by_digits next_lexeme
last_at_end None = refl
last_at_end (Some last) = refl

drop-pred : (n : ℕ) (c : ℕ) (rest : List ℕ) → 0 < n → drop (n - 1) rest ≡ drop n (c ∷ rest)
drop-pred zero c rest pos = absurd (omega arith)
drop-pred (suc n) c rest pos = let e : suc n - 1 ≡ n = omega arith in ap (λ m. drop m rest) e

after_by : (b : Bool) (found : Lexeme) (c : ℕ) (rest : List ℕ) → (b ≡ false → 0 < found.width) → cond b [] (tokens_after_class_skipping_bytes (Some found.token.class) (found.width - 1) rest) ≡ cond b [] (tokens_after_class_skipping_bytes (Some found.token.class) 0 (drop found.width (c ∷ rest)))
after_by true found c rest some = refl
after_by false found c rest some =
    tokens_after_class_skipping_bytes-drop (Some found.token.class) (found.width - 1) rest
    ∙ ap (tokens_after_class_skipping_bytes (Some found.token.class) 0) (drop-pred found.width c rest (some refl))

end_by : (b : Bool) (x : Token) (ts : List Token) → b ≡ true → x ∷ [] ≡ x ∷ cond b [] ts
end_by b x ts h = rw h refl

-- the tokens of a text are its first, and those after that
pub tokens_after_class_skipping_bytes-step : (last : Option Class) (text : List ℕ) → tokens_after_class_skipping_bytes last 0 text ≡ (lexeme_at last text).token ∷ after text (lexeme_at last text)
tokens_after_class_skipping_bytes-step last [] =
    let found = lexeme_at last [] in
    end_by (is_end_or_stray_class found.token.class) found.token (tokens_after_class_skipping_bytes (Some found.token.class) 0 (drop found.width [])) (last_at_end last)
tokens_after_class_skipping_bytes-step last (b ∷ rest) =
    let found = lexeme_at last (b ∷ rest) in
    ap (λ ts. found.token ∷ ts) (after_by (is_end_or_stray_class found.token.class) found b rest (lexeme_at_within last (b ∷ rest)).some)

-- what is left after a lexeme that was read
pub advance_within : (last : Option Class) (text : List ℕ) (found : LexemeAt) → lexeme_view text found ≡ lexeme_at last text → found.advance ≤ length text
advance_within last text found e =
    let within = (lexeme_at_within last text).most in
    let width = ap (λ (l : Lexeme). l.width) e in
    omega (arith, within, width)

behind_at : (class : Class) (text : List ℕ) (advance : ℕ) → tokens_after_class_skipping_bytes (Some class) 0 (drop (advance + unread_len (Some class) (drop advance text)) text) ≡ tokens_after_class_skipping_bytes (Some class) (unread_len (Some class) (drop advance text)) (drop advance text)
behind_at class text advance =
    sym (tokens_after_class_skipping_bytes-drop (Some class) (unread_len (Some class) (drop advance text)) (drop advance text)
    ∙ ap (tokens_after_class_skipping_bytes (Some class) 0) (drop-drop (unread_len (Some class) (drop advance text)) advance text))

left_at : (last : Option Class) (text : List ℕ) (found : LexemeAt) → lexeme_view text found ≡ lexeme_at last text → tokens_after_class_skipping_bytes last 0 text ≡ token_view found.token ∷ cond (is_end_or_stray_class found.token.class) [] (tokens_after_class_skipping_bytes (Some found.token.class) (unread_len (Some found.token.class) (drop found.advance text)) (drop found.advance text))
left_at last text found e =
    tokens_after_class_skipping_bytes-step last text
    ∙ ap (λ (l : Lexeme). l.token ∷ after text l) (sym e)
    ∙ ap (λ ts. token_view found.token ∷ cond (is_end_or_stray_class found.token.class) [] ts) (behind_at found.token.class text found.advance)

pub left_after : (last : Option Class) (rest text behind : List ℕ) (found : LexemeAt) → text ≡ drop (unread_len last rest) rest → lexeme_view text found ≡ lexeme_at last text → behind ≡ drop found.advance text → tokens_after_class_skipping_bytes last (unread_len last rest) rest ≡ token_view found.token ∷ cond (is_end_or_stray_class found.token.class) [] (tokens_after_class_skipping_bytes (Some found.token.class) (unread_len (Some found.token.class) behind) behind)
left_after last rest text behind found here e there =
    tokens_after_class_skipping_bytes-drop last (unread_len last rest) rest
    ∙ ap (tokens_after_class_skipping_bytes last 0) (sym here)
    ∙ left_at last text found e
    ∙ ap (λ b. token_view found.token ∷ cond (is_end_or_stray_class found.token.class) [] (tokens_after_class_skipping_bytes (Some found.token.class) (unread_len (Some found.token.class) b) b)) (sym there)

fewer_at : (last : Option Class) (text : List ℕ) (found : LexemeAt) → lexeme_view text found ≡ lexeme_at last text → is_end_or_stray_class found.token.class ≡ false → length (drop (unread_len (Some found.token.class) (drop found.advance text)) (drop found.advance text)) < length text
fewer_at last text found e h =
    let within = lexeme_at_within last text in
    let width : found.advance + unread_len (Some found.token.class) (drop found.advance text) ≡ (lexeme_at last text).width = ap (λ (l : Lexeme). l.width) e in
    let class : found.token.class ≡ (lexeme_at last text).token.class = ap (λ (l : Lexeme). l.token.class) e in
    let some = within.some (ap is_end_or_stray_class (sym class) ∙ h) in
    omega (arith, within.most, some, width, length-drop (unread_len (Some found.token.class) (drop found.advance text)) (drop found.advance text), length-drop found.advance text)

pub fewer_bytes : (last : Option Class) (rest text behind : List ℕ) (found : LexemeAt) → text ≡ drop (unread_len last rest) rest → lexeme_view text found ≡ lexeme_at last text → behind ≡ drop found.advance text → is_end_or_stray_class found.token.class ≡ false → length (drop (unread_len (Some found.token.class) behind) behind) < length (drop (unread_len last rest) rest)
fewer_bytes last rest text behind found here e there h =
    rw (there, ← here) (fewer_at last text found e h)

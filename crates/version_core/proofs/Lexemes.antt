-- What the parts of a lexeme make of the whole.
use Rattle.std.proofs.Common.{◌≡◌, ℕ, ◌+◌, ◌≤◌, Bool, true, false, ◌&&◌, cond, List, [], ◌∷◌, drop, length, Option, refl, ap, sym, ◌∙◌, add-zero, arith}
use Rattle.std.proofs.lemmas.Bool.{false≢true}
use Rattle.std.specs.Prelude.{is_some}
use Rattle.std.proofs.lemmas.Bool.Decides.{nat_tests}
use Rattle.version_core.specs.declared.token.Class.TheVariants.{Stray, Hash, ZeroComponent, Component}
use Rattle.version_core.specs.declared.lexeme.Lexeme.{Lexeme as LexemeAt}
use Rattle.version_core.specs.Token.{Lexeme, lexeme, text_token, stray_lexeme, begins_with_zero, has_number_length, later_component_lexeme_by_digits, number_lexeme_by_digits, hash_lexeme_by_hex_digits, leading_hex_digits}
use Rattle.version_core.specs.Reading.{AreDigits, hex_digit_at, is_hash, lexeme_view, whole_lexeme, token_view}
use Rattle.version_core.proofs.Runs.{all_hex, any_hex}

-- except for a hash, all bytes of a lexeme are skipped at once
pub view_plain : (text : List ℕ) (found : LexemeAt) (whole : Lexeme) → whole_lexeme found ≡ whole → is_hash found.token.class ≡ false → lexeme_view text found ≡ whole
view_plain text found whole e plain = rw (plain, add-zero found.advance) e

pub view_hash : (text : List ℕ) (found : LexemeAt) → found.token.class ≡ Hash → found.advance ≡ 1 → lexeme_view text found ≡ lexeme (token_view found.token) (1 + length (leading_hex_digits (drop 1 text)))
view_hash text found class one = rw (class, one) refl

pub hash_lexeme_by_hex_digits-stray : (xs : List ℕ) → is_some (hex_digit_at xs 0) ≡ false → stray_lexeme ≡ hash_lexeme_by_hex_digits (leading_hex_digits xs)
unfolding hash_lexeme_by_hex_digits
hash_lexeme_by_hex_digits-stray xs h = rw (any_hex xs ∙ h) refl

pub hash_lexeme_by_hex_digits-found : (xs : List ℕ) → is_some (hex_digit_at xs 0) ≡ true → lexeme (text_token Hash (leading_hex_digits xs)) (1 + length (leading_hex_digits xs)) ≡ hash_lexeme_by_hex_digits (leading_hex_digits xs)
unfolding hash_lexeme_by_hex_digits
hash_lexeme_by_hex_digits-found xs h = rw (any_hex xs ∙ h) refl

has_number_length-some : (d : ℕ) (ds : List ℕ) → length (d ∷ ds) ≤ 18 → has_number_length (d ∷ ds) ≡ true
has_number_length-some d ds few = grind (arith, nat_tests)

component_by : (b : Bool) (x y : Lexeme) → b ≡ true → x ≡ cond b x y
component_by b x y h = rw h refl

pub component_lexeme_zero : (ds : List ℕ) → AreDigits ds → length ds ≤ 18 → begins_with_zero ds ≡ true → lexeme (text_token ZeroComponent (leading_hex_digits ds)) (1 + length ds) ≡ later_component_lexeme_by_digits ds
unfolding later_component_lexeme_by_digits
component_lexeme_zero [] digits few zero = absurd (false≢true zero)
component_lexeme_zero (d ∷ ds) digits few zero =
    let number = has_number_length-some d ds few in
    let both : (has_number_length (d ∷ ds) && begins_with_zero (d ∷ ds)) ≡ true = rw (number, zero) refl in
    ap (λ text. lexeme (text_token ZeroComponent text) (1 + length (d ∷ ds))) (all_hex (d ∷ ds) digits)
    ∙ component_by (has_number_length (d ∷ ds) && begins_with_zero (d ∷ ds)) (lexeme (text_token ZeroComponent (d ∷ ds)) (1 + length (d ∷ ds))) (number_lexeme_by_digits Component 1 (d ∷ ds)) both

pub hash_is_stray : (text digits : List ℕ) (found : LexemeAt) (first : Option ℕ) → digits ≡ drop 1 text → first ≡ hex_digit_at digits 0 → is_some first ≡ false → whole_lexeme found ≡ stray_lexeme → found.token.class ≡ Stray → lexeme_view text found ≡ hash_lexeme_by_hex_digits (leading_hex_digits (drop 1 text))
hash_is_stray text digits found first behind at none plain class =
    let same : is_some (hex_digit_at (drop 1 text) 0) ≡ false = rw (← behind) (ap is_some (sym at) ∙ none) in
    let no_hash : is_hash found.token.class ≡ false = rw class refl in
    view_plain text found stray_lexeme plain no_hash ∙ hash_lexeme_by_hex_digits-stray (drop 1 text) same

pub hash_is_found : (text digits : List ℕ) (found : LexemeAt) (first : Option ℕ) → digits ≡ drop 1 text → first ≡ hex_digit_at digits 0 → is_some first ≡ true → whole_lexeme found ≡ lexeme (text_token Hash (leading_hex_digits digits)) 1 → found.token.class ≡ Hash → lexeme_view text found ≡ hash_lexeme_by_hex_digits (leading_hex_digits (drop 1 text))
hash_is_found text digits found first behind at some plain class =
    let same : is_some (hex_digit_at (drop 1 text) 0) ≡ true = rw (← behind) (ap is_some (sym at) ∙ some) in
    let one : found.advance ≡ 1 = ap (λ (l : Lexeme). l.width) plain in
    let token : token_view found.token ≡ text_token Hash (leading_hex_digits (drop 1 text)) = rw (← behind) (ap (λ (l : Lexeme). l.token) plain) in
    view_hash text found class one
    ∙ ap (λ t. lexeme t (1 + length (leading_hex_digits (drop 1 text)))) token
    ∙ hash_lexeme_by_hex_digits-found (drop 1 text) same

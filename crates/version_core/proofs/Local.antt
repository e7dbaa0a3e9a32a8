-- The first token of a text is the same wherever the text is cut after it.
use Rattle.std.proofs.Common.{◌≡◌, ℕ, zero, suc, ◌+◌, ◌<◌, ◌≤◌, Bool, true, false, ◌&&◌, cond, eqb, ltb, List, [], ◌∷◌, take, length, Option, Some, None, refl, ap, sym, ◌∙◌, arith, ◌-◌, drop}
use Rattle.std.specs.Char.{is_ascii_digit, is_ascii_lowercase}
use Rattle.std.specs.Str.Parse.{digits_value}
use Rattle.std.specs.List.{take_while}
use Rattle.std.proofs.lemmas.Bool.{false≢true}
use Rattle.std.proofs.lemmas.List.{drop-take, drop-drop}
use Rattle.std.specs.Prelude.{slice_range}
use Rattle.std.proofs.lemmas.List.Sums.{take_while-cons}
use Rattle.version_core.specs.declared.token.Class.{Class}
use Rattle.version_core.specs.declared.token.Class.TheVariants.{Revision, SuffixNumber, Letter, ZeroComponent, Component}
use Rattle.version_core.specs.Token.{Lexeme, number_token, text_token, lexeme, stray_lexeme, has_number_length, is_component, is_suffix, is_allowed_before_suffix_or_hash, is_allowed_before_revision, begins_with_zero, is_hex_digit, leading_digits, leading_hex_digits, leading_letters, number_lexeme_by_digits, later_component_lexeme_by_digits, suffix_rank, suffix_lexeme_by_word, suffix_lexeme_by_word_and_rank, hash_lexeme_by_hex_digits, revision_lexeme_by_text_after_hyphen, next_lexeme}
use Rattle.version_core.specs.Order.{is_end_or_stray_class}
use Rattle.version_core.proofs.Walk.{lexeme_at_within}

-- ---- ranges

pub drop_range : (bytes : List ℕ) (at end width : ℕ) → at + width ≤ end → drop width (slice_range bytes at end) ≡ slice_range bytes (at + width) end
drop_range bytes at end width fits =
    let split : end - at ≡ width + (end - (at + width)) = omega arith in
    ap (λ n. drop width (take n (drop at bytes))) split
    ∙ drop-take width (end - (at + width)) (drop at bytes)
    ∙ ap (take (end - (at + width))) (drop-drop width at bytes)

-- ---- runs

pub run_by : (b : Bool) (q : ℕ → Bool) (x : ℕ) (xs : List ℕ) → q x ≡ b → take_while q (x ∷ xs) ≡ cond b (x ∷ take_while q xs) []
run_by b q x xs h = take_while-cons q x xs ∙ ap (λ c. cond c (x ∷ take_while q xs) []) h

-- a run that ends before its text does
pub run_local : (q : ℕ → Bool) (xs : List ℕ) (n m : ℕ) → length (take_while q (take n xs)) < n → length (take_while q (take n xs)) ≤ m → take_while q (take m xs) ≡ take_while q (take n xs)
run_local q [] zero zero ends fits = refl
run_local q [] zero (suc m) ends fits = refl
run_local q [] (suc n) zero ends fits = refl
run_local q [] (suc n) (suc m) ends fits = refl
run_local q (x ∷ xs) zero m ends fits = absurd (omega arith)
run_local q (x ∷ xs) (suc n) m ends fits = run_local_by (q x) refl m (run_local q xs n) ends fits
  where
    run_local_by : (b : Bool) → q x ≡ b → (m : ℕ) → ((k : ℕ) → length (take_while q (take n xs)) < n → length (take_while q (take n xs)) ≤ k → take_while q (take k xs) ≡ take_while q (take n xs))
        → length (take_while q (x ∷ take n xs)) < suc n → length (take_while q (x ∷ take n xs)) ≤ m → take_while q (take m (x ∷ xs)) ≡ take_while q (x ∷ take n xs)
    run_local_by false h zero later ends fits = sym (run_by false q x (take n xs) h)
    run_local_by false h (suc m) later ends fits = run_by false q x (take m xs) h ∙ sym (run_by false q x (take n xs) h)
    run_local_by true h zero later ends fits = let e = ap length (run_by true q x (take n xs) h) in absurd (omega arith)
    run_local_by true h (suc m) later ends fits =
        let e = ap length (run_by true q x (take n xs) h) in
        run_by true q x (take m xs) h ∙ ap (λ r. x ∷ r) (later m (omega arith) (omega arith)) ∙ sym (run_by true q x (take n xs) h)

-- ---- lexemes

-- the second is the first, if the first is a token that ends before n and not after m
abbrev IsLocal : ℕ → ℕ → Lexeme → Lexeme → Type 0
IsLocal n m found other = is_end_or_stray_class found.token.class ≡ false → found.width < n → found.width ≤ m → other ≡ found

stray_local : (n m : ℕ) → IsLocal n m stray_lexeme stray_lexeme
stray_local n m token ends fits = refl

cond_local : (n m : ℕ) (b : Bool) (x y u v : Lexeme) → IsLocal n m x u → IsLocal n m y v → IsLocal n m (cond b x y) (cond b u v)
cond_local n m true x y u v f g = f
cond_local n m false x y u v f g = g

number_width_by : (b : Bool) (class : Class) (value width : ℕ) → is_end_or_stray_class (cond b (lexeme (number_token class value) width) stray_lexeme).token.class ≡ false → (cond b (lexeme (number_token class value) width) stray_lexeme).width ≡ width
number_width_by true class value width h = refl
number_width_by false class value width h = absurd (false≢true (sym h))

number_width : (class : Class) (mark : ℕ) (ds : List ℕ) → is_end_or_stray_class (number_lexeme_by_digits class mark ds).token.class ≡ false → (number_lexeme_by_digits class mark ds).width ≡ mark + length ds
unfolding number_lexeme_by_digits
number_width class mark ds h = number_width_by (has_number_length ds) class (digits_value 10 ds) (mark + length ds) h

component_width_by : (b : Bool) (ds : List ℕ) → is_end_or_stray_class (cond b (lexeme (text_token ZeroComponent ds) (1 + length ds)) (number_lexeme_by_digits Component 1 ds)).token.class ≡ false → (cond b (lexeme (text_token ZeroComponent ds) (1 + length ds)) (number_lexeme_by_digits Component 1 ds)).width ≡ 1 + length ds
component_width_by true ds h = refl
component_width_by false ds h = number_width Component 1 ds h

component_width : (ds : List ℕ) → is_end_or_stray_class (later_component_lexeme_by_digits ds).token.class ≡ false → (later_component_lexeme_by_digits ds).width ≡ 1 + length ds
unfolding later_component_lexeme_by_digits
component_width ds h = component_width_by (has_number_length ds && begins_with_zero ds) ds h

suffix_width_by : (word : List ℕ) (rank : Option ℕ) → is_end_or_stray_class (suffix_lexeme_by_word_and_rank word rank).token.class ≡ false → (suffix_lexeme_by_word_and_rank word rank).width ≡ 1 + length word
suffix_width_by word None h = absurd (false≢true (sym h))
suffix_width_by word (Some rank) h = refl

hash_width_by : (b : Bool) (x : Lexeme) (width : ℕ) → x.width ≡ width → is_end_or_stray_class (cond b x stray_lexeme).token.class ≡ false → (cond b x stray_lexeme).width ≡ width
hash_width_by true x width e h = e
hash_width_by false x width e h = absurd (false≢true (sym h))

hash_width : (ds : List ℕ) → is_end_or_stray_class (hash_lexeme_by_hex_digits ds).token.class ≡ false → (hash_lexeme_by_hex_digits ds).width ≡ 1 + length ds
unfolding hash_lexeme_by_hex_digits
hash_width ds h = hash_width_by (ltb 0 (length ds)) _ (1 + length ds) refl h

-- a lexeme of the run that a text begins with, whose bytes are counted after a mark
local_by : (q : ℕ → Bool) (make : List ℕ → Lexeme) (mark : ℕ) → ((ds : List ℕ) → is_end_or_stray_class (make ds).token.class ≡ false → (make ds).width ≡ mark + length ds)
    → (xs : List ℕ) (n m : ℕ) → IsLocal (mark + n) (mark + m) (make (take_while q (take n xs))) (make (take_while q (take m xs)))
local_by q make mark width xs n m token ends fits =
    let e = width (take_while q (take n xs)) token in
    ap make (run_local q xs n m (omega arith) (omega arith))

-- the same where the counts are spelled otherwise
along : (n m k l : ℕ) (x y : Lexeme) → k ≡ n → l ≡ m → IsLocal k l x y → IsLocal n m x y
along n m k l x y e f h token ends fits = h token (omega arith) (omega arith)

revision_local : (rest : List ℕ) (n m : ℕ) → IsLocal (suc n) (suc m) (revision_lexeme_by_text_after_hyphen (take n rest)) (revision_lexeme_by_text_after_hyphen (take m rest))
unfolding revision_lexeme_by_text_after_hyphen
revision_local [] zero zero token ends fits = refl
revision_local [] zero (suc m) token ends fits = refl
revision_local [] (suc n) zero token ends fits = refl
revision_local [] (suc n) (suc m) token ends fits = refl
revision_local (c ∷ rest) zero m token ends fits = absurd (false≢true (sym token))
revision_local (c ∷ rest) (suc n) m token ends fits = go m (eqb c 114) refl token ends fits
  where
    go : (m : ℕ) (b : Bool) → eqb c 114 ≡ b → is_end_or_stray_class (cond b (number_lexeme_by_digits Revision 2 (leading_digits (take n rest))) stray_lexeme).token.class ≡ false → (cond b (number_lexeme_by_digits Revision 2 (leading_digits (take n rest))) stray_lexeme).width < suc (suc n) → (cond b (number_lexeme_by_digits Revision 2 (leading_digits (take n rest))) stray_lexeme).width ≤ suc m
        → revision_lexeme_by_text_after_hyphen (take m (c ∷ rest)) ≡ cond b (number_lexeme_by_digits Revision 2 (leading_digits (take n rest))) stray_lexeme
    go m false h token ends fits = absurd (false≢true (sym token))
    go zero true h token ends fits = let e = number_width Revision 2 (leading_digits (take n rest)) token in absurd (omega arith)
    go (suc m) true h token ends fits =
        ap (λ b. cond b (number_lexeme_by_digits Revision 2 (leading_digits (take m rest))) stray_lexeme) h
        ∙ along (suc (suc n)) (suc (suc m)) (2 + n) (2 + m) _ _ (omega arith) (omega arith) (local_by is_ascii_digit (number_lexeme_by_digits Revision 2) 2 (number_width Revision 2) rest n m) token ends fits

next_local : (last : Class) (b : ℕ) (rest : List ℕ) (n m : ℕ) → IsLocal (suc n) (suc m) (next_lexeme last (b ∷ take n rest)) (next_lexeme last (b ∷ take m rest))
unfolding next_lexeme
next_local last b rest n m =
    let one : (x y : Lexeme) → IsLocal (1 + n) (1 + m) x y → IsLocal (suc n) (suc m) x y = λ x y. along (suc n) (suc m) (1 + n) (1 + m) x y (omega arith) (omega arith) in
    cond_local (suc n) (suc m) (eqb b 46 && is_component last) (later_component_lexeme_by_digits (leading_digits (take n rest))) _ (later_component_lexeme_by_digits (leading_digits (take m rest))) _ (one _ _ (local_by is_ascii_digit later_component_lexeme_by_digits 1 component_width rest n m))
    (cond_local (suc n) (suc m) (is_ascii_lowercase b && is_component last) (lexeme (number_token Letter b) 1) _ (lexeme (number_token Letter b) 1) _ (λ token ends fits. refl)
    (cond_local (suc n) (suc m) (eqb b 95 && is_allowed_before_suffix_or_hash last) (suffix_lexeme_by_word (leading_letters (take n rest))) _ (suffix_lexeme_by_word (leading_letters (take m rest))) _ (one _ _ (local_by is_ascii_lowercase suffix_lexeme_by_word 1 (λ word. suffix_width_by word (suffix_rank word)) rest n m))
    (cond_local (suc n) (suc m) (is_ascii_digit b && is_suffix last) (number_lexeme_by_digits SuffixNumber 0 (leading_digits (b ∷ take n rest))) _ (number_lexeme_by_digits SuffixNumber 0 (leading_digits (b ∷ take m rest))) _ (along (suc n) (suc m) (0 + suc n) (0 + suc m) _ _ (omega arith) (omega arith) (local_by is_ascii_digit (number_lexeme_by_digits SuffixNumber 0) 0 (number_width SuffixNumber 0) (b ∷ rest) (suc n) (suc m)))
    (cond_local (suc n) (suc m) (eqb b 126 && is_allowed_before_suffix_or_hash last) (hash_lexeme_by_hex_digits (leading_hex_digits (take n rest))) _ (hash_lexeme_by_hex_digits (leading_hex_digits (take m rest))) _ (one _ _ (local_by is_hex_digit hash_lexeme_by_hex_digits 1 hash_width rest n m))
    (cond_local (suc n) (suc m) (eqb b 45 && is_allowed_before_revision last) (revision_lexeme_by_text_after_hyphen (take n rest)) stray_lexeme (revision_lexeme_by_text_after_hyphen (take m rest)) stray_lexeme (revision_local rest n m) (stray_local (suc n) (suc m)))))))

-- after a token of some class
pub token_local : (last : Class) (xs : List ℕ) (n m : ℕ) → IsLocal n m (next_lexeme last (take n xs)) (next_lexeme last (take m xs))
token_local last [] zero zero token ends fits = refl
token_local last [] zero (suc m) token ends fits = refl
token_local last [] (suc n) zero token ends fits = refl
token_local last [] (suc n) (suc m) token ends fits = refl
token_local last (b ∷ rest) zero m token ends fits = absurd (omega arith)
token_local last (b ∷ rest) (suc n) zero token ends fits = let some = (lexeme_at_within (Some last) (b ∷ take n rest)).some token in absurd (omega arith)
token_local last (b ∷ rest) (suc n) (suc m) token ends fits = next_local last b rest n m token ends fits

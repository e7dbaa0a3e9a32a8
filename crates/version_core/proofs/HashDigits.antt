-- Places between the digits of a hash.
use Rattle.std.proofs.Common.{◌≡◌, ℕ, zero, suc, ◌+◌, ◌-◌, ◌<◌, ◌≤◌, Bool, true, false, ◌&&◌, cond, eqb, ltb, List, [], ◌∷◌, take, drop, length, Option, Some, None, refl, ap, sym, ◌∙◌, zero-add, arith}
use Rattle.std.specs.Prelude.{slice_range}
use Rattle.std.specs.Char.{is_ascii_digit, is_ascii_lowercase}
use Rattle.std.specs.List.{take_while}
use Rattle.std.specs.Str.Parse.{digits_value}
use Rattle.std.proofs.lemmas.Bool.{false≢true}
use Rattle.std.proofs.lemmas.Bool.Decides.{nat_tests}
use Rattle.std.proofs.lemmas.List.{drop-drop}
use Rattle.version_core.specs.declared.token.Class.{Class}
use Rattle.version_core.specs.declared.token.Class.TheVariants as Classes
use Rattle.version_core.specs.declared.overlapping.Place.{Place}
use Rattle.version_core.specs.Token.{Lexeme, number_token, text_token, lexeme, stray_lexeme, has_number_length, is_component, is_suffix, is_allowed_before_suffix_or_hash, is_allowed_before_revision, is_hex_digit, begins_with_zero, leading_digits, leading_hex_digits, leading_letters, number_lexeme_by_digits, later_component_lexeme_by_digits, suffix_rank, suffix_lexeme_by_word, suffix_lexeme_by_word_and_rank, hash_lexeme_by_hex_digits, revision_lexeme_by_text_after_hyphen, next_lexeme}
use Rattle.version_core.specs.Order.{has_no_stray_token, tokens_after_class_skipping_bytes}
use Rattle.version_core.specs.Reading.{is_hash, unread_len}
use Rattle.version_core.specs.Overlapping.{IsNextPlace, can_rest_follow_place, is_valid_version_rest}
use Rattle.version_core.proofs.Walk.{after, tokens_after_class_skipping_bytes-drop, tokens_after_class_skipping_bytes-step}
use Rattle.version_core.proofs.Local.{drop_range, run_by}

-- ---- runs

-- a run that begins a cut text begins the text too, and what is left of it is a run
run_front : (q : ℕ → Bool) (xs : List ℕ) (n m k : ℕ) → k ≡ length (take_while q (take n xs)) → k ≤ m → length (take_while q (take m xs)) ≡ k + length (take_while q (drop k (take m xs)))
run_front q [] zero zero k e fits = rw e refl
run_front q [] zero (suc m) k e fits = rw e refl
run_front q [] (suc n) zero k e fits = rw e refl
run_front q [] (suc n) (suc m) k e fits = rw e refl
run_front q (x ∷ xs) zero m k e fits = rw e (sym (zero-add (length (take_while q (take m (x ∷ xs))))))
run_front q (x ∷ xs) (suc n) m k e fits = run_front_by (q x) refl m (run_front q xs n) e fits
  where
    run_front_by : (b : Bool) → q x ≡ b → (m : ℕ) → ((m k : ℕ) → k ≡ length (take_while q (take n xs)) → k ≤ m → length (take_while q (take m xs)) ≡ k + length (take_while q (drop k (take m xs))))
        → k ≡ length (take_while q (x ∷ take n xs)) → k ≤ m → length (take_while q (take m (x ∷ xs))) ≡ k + length (take_while q (drop k (take m (x ∷ xs))))
    run_front_by false h m later e fits =
        let none : k ≡ 0 = e ∙ ap length (run_by false q x (take n xs) h) in
        rw none (sym (zero-add (length (take_while q (take m (x ∷ xs))))))
    run_front_by true h zero later e fits =
        let some = e ∙ ap length (run_by true q x (take n xs) h) in absurd (omega arith)
    run_front_by true h (suc m) later e fits =
        let j : ℕ = length (take_while q (take n xs)) in
        let some : k ≡ suc j = e ∙ ap length (run_by true q x (take n xs) h) in
        let here = ap length (run_by true q x (take m xs) h) in
        let there = later m j refl (omega arith) in
        rw some (omega (arith, here, there))

-- if no byte of a cut text belongs to the run, none of the text does
run_none : (q : ℕ → Bool) (xs : List ℕ) (n m : ℕ) → 0 < n → length (take_while q (take n xs)) ≡ 0 → length (take_while q (take m xs)) ≡ 0
run_none q [] n zero some none = refl
run_none q [] n (suc m) some none = refl
run_none q (x ∷ xs) zero m some none = absurd (omega arith)
run_none q (x ∷ xs) (suc n) m some none = run_none_by (q x) refl m none
  where
    run_none_by : (b : Bool) → q x ≡ b → (m : ℕ) → length (take_while q (x ∷ take n xs)) ≡ 0 → length (take_while q (take m (x ∷ xs))) ≡ 0
    run_none_by b h zero none = refl
    run_none_by false h (suc m) none = ap length (run_by false q x (take m xs) h)
    run_none_by true h (suc m) none = let some = ap length (run_by true q x (take n xs) h) in absurd (omega arith)

-- a run that begins a cut text is no longer than the cut
run_fits : (q : ℕ → Bool) (xs : List ℕ) (n : ℕ) → length (take_while q (take n xs)) ≤ n
run_fits q [] zero = omega arith
run_fits q [] (suc n) = omega arith
run_fits q (x ∷ xs) zero = omega arith
run_fits q (x ∷ xs) (suc n) = run_fits_by (q x) refl (run_fits q xs n)
  where
    run_fits_by : (b : Bool) → q x ≡ b → length (take_while q (take n xs)) ≤ n → length (take_while q (x ∷ take n xs)) ≤ suc n
    run_fits_by false h later = let e = ap length (run_by false q x (take n xs) h) in omega arith
    run_fits_by true h later = let e = ap length (run_by true q x (take n xs) h) in omega arith

-- ---- what is left of a hash

unread_front : (class : Class) (xs : List ℕ) (n m k : ℕ) → k ≡ unread_len (Some class) (take n xs) → k ≤ m → unread_len (Some class) (take m xs) ≡ k + unread_len (Some class) (drop k (take m xs))
unread_front class xs n m k e fits = unread_front_by (is_hash class) e
  where
    unread_front_by : (b : Bool) → k ≡ cond b (length (leading_hex_digits (take n xs))) 0 → cond b (length (leading_hex_digits (take m xs))) 0 ≡ k + cond b (length (leading_hex_digits (drop k (take m xs)))) 0
    unread_front_by true e = run_front is_hex_digit xs n m k e fits
    unread_front_by false e = omega (arith, e)

pub unread_none : (class : Class) (xs : List ℕ) (n m : ℕ) → 0 < n → unread_len (Some class) (take n xs) ≡ 0 → unread_len (Some class) (take m xs) ≡ 0
unread_none class xs n m some none = unread_none_by (is_hash class) none
  where
    unread_none_by : (b : Bool) → cond b (length (leading_hex_digits (take n xs))) 0 ≡ 0 → cond b (length (leading_hex_digits (take m xs))) 0 ≡ 0
    unread_none_by true none = run_none is_hex_digit xs n m some none
    unread_none_by false none = refl

tokens_on : (class : Class) (k j : ℕ) (xs : List ℕ) → tokens_after_class_skipping_bytes (Some class) (k + j) xs ≡ tokens_after_class_skipping_bytes (Some class) j (drop k xs)
tokens_on class k j xs =
    tokens_after_class_skipping_bytes-drop (Some class) (k + j) xs ∙ ap (tokens_after_class_skipping_bytes (Some class) 0) (sym (drop-drop j k xs)) ∙ sym (tokens_after_class_skipping_bytes-drop (Some class) j (drop k xs))

-- what follows a place may follow after some more digits, and the other way round
pub digits_follow : (bytes : List ℕ) (place : Place) (n end k : ℕ) → k ≡ unread_len (Some place.class) (take n (drop place.at bytes)) → place.at + k ≤ end → can_rest_follow_place bytes place end ≡ can_rest_follow_place bytes (record { at = place.at + k; class = place.class }) end
digits_follow bytes place n end k e fits =
    let xs : List ℕ = slice_range bytes place.at end in
    ap (λ u. has_no_stray_token (tokens_after_class_skipping_bytes (Some place.class) u xs)) (unread_front place.class (drop place.at bytes) n (end - place.at) k e (omega arith))
    ∙ ap has_no_stray_token (tokens_on place.class k (unread_len (Some place.class) (drop k xs)) xs)
    ∙ ap (is_valid_version_rest place) (drop_range bytes place.at end k fits)

unread_fits : (class : Class) (xs : List ℕ) (n : ℕ) → unread_len (Some class) (take n xs) ≤ n
unread_fits class xs n = unread_fits_by (is_hash class)
  where
    unread_fits_by : (b : Bool) → cond b (length (leading_hex_digits (take n xs))) 0 ≤ n
    unread_fits_by true = run_fits is_hex_digit xs n
    unread_fits_by false = omega arith

-- after some of the bytes that are before the end, all of them digits
pub comes_on : (bytes : List ℕ) (place : Place) (end len k : ℕ) → place.at + len ≤ end → k ≡ unread_len (Some place.class) (slice_range bytes place.at (place.at + len)) → 0 < k → IsNextPlace bytes end place (record { at = place.at + k; class = place.class })
comes_on bytes place end len k fits is some =
    let n : ℕ = (place.at + len) - place.at in
    let most = unread_fits place.class (drop place.at bytes) n in
    record {
      forth = omega arith;
      within = omega arith;
      same = digits_follow bytes place n end k is (omega arith);
      leads = λ before. record {
        forth = omega arith;
        same = λ other past. digits_follow bytes place n other k is past;
      };
    }

-- if none of them is a digit, none is that follows
pub no_digit_on : (bytes : List ℕ) (place : Place) (end len k : ℕ) → 0 < len → k ≡ unread_len (Some place.class) (slice_range bytes place.at (place.at + len)) → k ≡ 0 → unread_len (Some place.class) (slice_range bytes place.at end) ≡ 0
no_digit_on bytes place end len k some is none =
    unread_none place.class (drop place.at bytes) ((place.at + len) - place.at) (end - place.at) (omega arith) (sym is ∙ none)

-- ---- a hash begins

-- of two lexemes the first is no hash, or both are what is told
abbrev AreHashes : Lexeme → Lexeme → Lexeme → Lexeme → Type 0
AreHashes found other hash other_hash = is_hash found.token.class ≡ true → (found ≡ hash) × (other ≡ other_hash)

cond_hashes : (b : Bool) (x y u v hash other : Lexeme) → AreHashes x u hash other → AreHashes y v hash other → AreHashes (cond b x y) (cond b u v) hash other
cond_hashes true x y u v hash other f g = f
cond_hashes false x y u v hash other f g = g

no_hashes : (x u hash other : Lexeme) → is_hash x.token.class ≡ false → AreHashes x u hash other
no_hashes x u hash other plain marked = absurd (false≢true (sym plain ∙ marked))

number_no_hash : (class : Class) (mark : ℕ) (ds : List ℕ) → is_hash class ≡ false → is_hash (number_lexeme_by_digits class mark ds).token.class ≡ false
unfolding number_lexeme_by_digits
number_no_hash class mark ds h = number_no_hash_by (has_number_length ds)
  where
    number_no_hash_by : (b : Bool) → is_hash (cond b (lexeme (number_token class (digits_value 10 ds)) (mark + length ds)) stray_lexeme).token.class ≡ false
    number_no_hash_by true = h
    number_no_hash_by false = refl

component_no_hash : (ds : List ℕ) → is_hash (later_component_lexeme_by_digits ds).token.class ≡ false
unfolding later_component_lexeme_by_digits
component_no_hash ds = component_no_hash_by (has_number_length ds && begins_with_zero ds)
  where
    component_no_hash_by : (b : Bool) → is_hash (cond b (lexeme (text_token Classes.ZeroComponent ds) (1 + length ds)) (number_lexeme_by_digits Classes.Component 1 ds)).token.class ≡ false
    component_no_hash_by true = refl
    component_no_hash_by false = number_no_hash Classes.Component 1 ds refl

suffix_class_no_hash : (b : Bool) → is_hash (cond b Classes.PreRelease Classes.Suffix) ≡ false
suffix_class_no_hash true = refl
suffix_class_no_hash false = refl

suffix_no_hash : (word : List ℕ) (rank : Option ℕ) → is_hash (suffix_lexeme_by_word_and_rank word rank).token.class ≡ false
suffix_no_hash word None = refl
suffix_no_hash word (Some rank) = suffix_class_no_hash _

revision_no_hash : (rest : List ℕ) → is_hash (revision_lexeme_by_text_after_hyphen rest).token.class ≡ false
unfolding revision_lexeme_by_text_after_hyphen
revision_no_hash [] = refl
revision_no_hash (b ∷ rest) = revision_no_hash_by (eqb b 114)
  where
    revision_no_hash_by : (c : Bool) → is_hash (cond c (number_lexeme_by_digits Classes.Revision 2 (leading_digits rest)) stray_lexeme).token.class ≡ false
    revision_no_hash_by true = number_no_hash Classes.Revision 2 (leading_digits rest) refl
    revision_no_hash_by false = refl

next_hashes : (last : Class) (b : ℕ) (rest other : List ℕ) → AreHashes (next_lexeme last (b ∷ rest)) (next_lexeme last (b ∷ other)) (hash_lexeme_by_hex_digits (leading_hex_digits rest)) (hash_lexeme_by_hex_digits (leading_hex_digits other))
unfolding next_lexeme
next_hashes last b rest other =
    let h : Lexeme = hash_lexeme_by_hex_digits (leading_hex_digits rest) in
    let o : Lexeme = hash_lexeme_by_hex_digits (leading_hex_digits other) in
    cond_hashes (eqb b 46 && is_component last) (later_component_lexeme_by_digits (leading_digits rest)) _ (later_component_lexeme_by_digits (leading_digits other)) _ h o (no_hashes _ _ h o (component_no_hash (leading_digits rest)))
    (cond_hashes (is_ascii_lowercase b && is_component last) (lexeme (number_token Classes.Letter b) 1) _ (lexeme (number_token Classes.Letter b) 1) _ h o (no_hashes _ _ h o refl)
    (cond_hashes (eqb b 95 && is_allowed_before_suffix_or_hash last) (suffix_lexeme_by_word (leading_letters rest)) _ (suffix_lexeme_by_word (leading_letters other)) _ h o (no_hashes _ _ h o (suffix_no_hash (leading_letters rest) (suffix_rank (leading_letters rest))))
    (cond_hashes (is_ascii_digit b && is_suffix last) (number_lexeme_by_digits Classes.SuffixNumber 0 (leading_digits (b ∷ rest))) _ (number_lexeme_by_digits Classes.SuffixNumber 0 (leading_digits (b ∷ other))) _ h o (no_hashes _ _ h o (number_no_hash Classes.SuffixNumber 0 (leading_digits (b ∷ rest)) refl))
    (cond_hashes (eqb b 126 && is_allowed_before_suffix_or_hash last) h _ o _ h o (λ marked. (refl, refl))
    (cond_hashes (eqb b 45 && is_allowed_before_revision last) (revision_lexeme_by_text_after_hyphen rest) stray_lexeme (revision_lexeme_by_text_after_hyphen other) stray_lexeme h o (no_hashes _ _ h o (revision_no_hash rest)) (no_hashes stray_lexeme stray_lexeme h o refl))))))

-- a hash has a digit
digit_first : (d : ℕ) (rest : List ℕ) → is_hash (hash_lexeme_by_hex_digits (leading_hex_digits (d ∷ rest))).token.class ≡ true → is_hex_digit d ≡ true
unfolding hash_lexeme_by_hex_digits
digit_first d rest marked = digit_first_by (is_hex_digit d) refl
  where
    digit_first_by : (b : Bool) → is_hex_digit d ≡ b → b ≡ true
    digit_first_by true h = refl
    digit_first_by false h =
        absurd (false≢true (sym (ap (λ ds. is_hash (cond (ltb 0 (length ds)) (lexeme (text_token Classes.Hash ds) (1 + length ds)) stray_lexeme).token.class) (run_by false is_hex_digit d rest h)) ∙ marked))

no_digits : (ds : List ℕ) → ds ≡ [] → is_hash (hash_lexeme_by_hex_digits ds).token.class ≡ true → ⊥
unfolding hash_lexeme_by_hex_digits
no_digits ds none marked = false≢true (sym (ap (λ xs. is_hash (cond (ltb 0 (length xs)) (lexeme (text_token Classes.Hash xs) (1 + length xs)) stray_lexeme).token.class) none) ∙ marked)

-- what follows the mark and the first digit of a hash may follow there exactly if the whole is in the
-- grammar
hash_first : (last : Class) (b d : ℕ) (rest : List ℕ) → next_lexeme last (b ∷ d ∷ rest) ≡ hash_lexeme_by_hex_digits (leading_hex_digits (d ∷ rest)) → is_hex_digit d ≡ true → has_no_stray_token (tokens_after_class_skipping_bytes (Some last) 0 (b ∷ d ∷ rest)) ≡ has_no_stray_token (tokens_after_class_skipping_bytes (Some Classes.Hash) (unread_len (Some Classes.Hash) rest) rest)
unfolding hash_lexeme_by_hex_digits
hash_first last b d rest is digit =
    let ds : List ℕ = leading_hex_digits rest in
    let some : ltb 0 (length (d ∷ ds)) ≡ true = grind (arith, nat_tests) in
    let found : next_lexeme last (b ∷ d ∷ rest) ≡ lexeme (text_token Classes.Hash (d ∷ ds)) (1 + length (d ∷ ds)) =
    is ∙ ap (λ xs. cond (ltb 0 (length xs)) (lexeme (text_token Classes.Hash xs) (1 + length xs)) stray_lexeme) (run_by true is_hex_digit d rest digit) ∙ ap (λ c. cond c (lexeme (text_token Classes.Hash (d ∷ ds)) (1 + length (d ∷ ds))) stray_lexeme) some in
    let width : 1 + length (d ∷ ds) ≡ 2 + length ds = omega arith in
    ap has_no_stray_token (tokens_after_class_skipping_bytes-step (Some last) (b ∷ d ∷ rest) ∙ ap (λ (l : Lexeme). l.token ∷ after (b ∷ d ∷ rest) l) found)
    ∙ ap (λ n. has_no_stray_token (tokens_after_class_skipping_bytes (Some Classes.Hash) 0 (drop n (b ∷ d ∷ rest)))) width
    ∙ ap (λ xs. has_no_stray_token (tokens_after_class_skipping_bytes (Some Classes.Hash) 0 xs)) (sym (drop-drop (length ds) 2 (b ∷ d ∷ rest)))
    ∙ ap has_no_stray_token (sym (tokens_after_class_skipping_bytes-drop (Some Classes.Hash) (length ds) rest))

-- a text that is cut after a mark and a digit at least
pub hash_follow : (last : Class) (xs : List ℕ) (n m : ℕ) → is_hash (next_lexeme last (take n xs)).token.class ≡ true → 2 ≤ m → has_no_stray_token (tokens_after_class_skipping_bytes (Some last) 0 (take m xs)) ≡ has_no_stray_token (tokens_after_class_skipping_bytes (Some Classes.Hash) (unread_len (Some Classes.Hash) (drop 2 (take m xs))) (drop 2 (take m xs)))
unfolding next_lexeme
hash_follow last [] zero m marked fits = absurd (false≢true marked)
hash_follow last [] (suc n) m marked fits = absurd (false≢true marked)
hash_follow last (b ∷ xs) zero m marked fits = absurd (false≢true marked)
hash_follow last (b ∷ []) (suc zero) m marked fits = absurd (no_digits [] refl (ap (λ (l : Lexeme). is_hash l.token.class) (sym (next_hashes last b [] [] marked).0) ∙ marked))
hash_follow last (b ∷ []) (suc (suc n)) m marked fits = absurd (no_digits [] refl (ap (λ (l : Lexeme). is_hash l.token.class) (sym (next_hashes last b [] [] marked).0) ∙ marked))
hash_follow last (b ∷ d ∷ xs) (suc zero) m marked fits = absurd (no_digits [] refl (ap (λ (l : Lexeme). is_hash l.token.class) (sym (next_hashes last b [] [] marked).0) ∙ marked))
hash_follow last (b ∷ d ∷ xs) (suc (suc n)) zero marked fits = absurd (omega arith)
hash_follow last (b ∷ d ∷ xs) (suc (suc n)) (suc zero) marked fits = absurd (omega arith)
hash_follow last (b ∷ d ∷ xs) (suc (suc n)) (suc (suc m)) marked fits =
    let both = next_hashes last b (d ∷ take n xs) (d ∷ take m xs) marked in
    hash_first last b d (take m xs) both.1 (digit_first d (take n xs) (ap (λ (l : Lexeme). is_hash l.token.class) (sym both.0) ∙ marked))

pub hash_room : (last : Class) (xs : List ℕ) (n : ℕ) → is_hash (next_lexeme last (take n xs)).token.class ≡ true → 2 ≤ n
unfolding next_lexeme
hash_room last [] zero marked = absurd (false≢true marked)
hash_room last [] (suc n) marked = absurd (false≢true marked)
hash_room last (b ∷ xs) zero marked = absurd (false≢true marked)
hash_room last (b ∷ xs) (suc zero) marked = absurd (no_digits [] refl (ap (λ (l : Lexeme). is_hash l.token.class) (sym (next_hashes last b [] [] marked).0) ∙ marked))
hash_room last (b ∷ xs) (suc (suc n)) marked = omega arith

-- Where a version goes from a place.
use Rattle.std.proofs.Common.{◌≡◌, ℕ, ◌+◌, ◌-◌, ◌<◌, ◌≤◌, Bool, true, false, ◌&&◌, cond, eqb, List, [], ◌∷◌, take, drop, length, Option, Some, None, refl, ap, sym, ◌∙◌, subst, arith}
use Rattle.std.specs.Prelude.{not, slice_range}
use Rattle.std.specs.Char.{is_ascii_digit, is_ascii_lowercase}
use Rattle.std.proofs.lemmas.Bool.{false≢true}
use Rattle.std.proofs.lemmas.List.{length-drop, length-take-le}
use Rattle.version_core.specs.declared.token.Class.{Class}
use Rattle.version_core.specs.declared.token.Class.TheVariants as Classes
use Rattle.version_core.specs.declared.overlapping.Place.{Place}
use Rattle.version_core.specs.Token.{Token, Lexeme, number_token, text_token, lexeme, stray_lexeme, has_number_length, is_component, is_suffix, is_allowed_before_suffix_or_hash, is_allowed_before_revision, begins_with_zero, leading_digits, leading_hex_digits, leading_letters, number_lexeme_by_digits, later_component_lexeme_by_digits, suffix_rank, suffix_lexeme_by_word, suffix_lexeme_by_word_and_rank, hash_lexeme_by_hex_digits, revision_lexeme_by_text_after_hyphen, next_lexeme, lexeme_at}
use Rattle.version_core.specs.Order.{has_no_stray_token, is_end_or_stray_class, is_stray_class, is_version, tokens, tokens_after_class_skipping_bytes}
use Rattle.version_core.specs.Overlapping.{IsNextPlace, IsSafeSkip, can_rest_follow_place, is_valid_version_rest, passed_len}
use Rattle.version_core.proofs.Walk.{after, lexeme_at_within, tokens_after_class_skipping_bytes-step}
use Rattle.version_core.specs.Reading.{is_hash, unread_len}
use Rattle.version_core.proofs.Local.{drop_range, token_local}
use Rattle.version_core.proofs.HashDigits.{digits_follow, hash_follow, hash_room, unread_none}

-- ---- places

pub leads_itself : (bytes : List ℕ) (place : Place) → IsSafeSkip bytes place place
leads_itself bytes place = record { forth = omega arith; same = λ end past. refl }

pub leads_on : (bytes : List ℕ) (a b c : Place) → IsSafeSkip bytes a b → IsSafeSkip bytes b c → IsSafeSkip bytes a c
leads_on bytes a b c f g = record {
  forth = let p = f.forth in let q = g.forth in omega arith;
  same = λ end past. let q = g.forth in f.same end (omega arith) ∙ g.same end past;
}

-- ---- after a token

no_last : (class : Class) → is_end_or_stray_class class ≡ false → is_stray_class class ≡ false
no_last Classes.Stray h = h
no_last Classes.PreRelease h = refl
no_last Classes.End h = refl
no_last Classes.Revision h = refl
no_last Classes.Hash h = refl
no_last Classes.SuffixNumber h = refl
no_last Classes.Suffix h = refl
no_last Classes.Letter h = refl
no_last Classes.ZeroComponent h = refl
no_last Classes.Component h = refl

grammar_by : (last stray : Bool) (ts : List Token) → last ≡ false → stray ≡ false → (not stray && has_no_stray_token (cond last [] ts)) ≡ has_no_stray_token ts
grammar_by false false ts l s = refl
grammar_by true stray ts l s = absurd (false≢true (sym l))
grammar_by false true ts l s = absurd (false≢true (sym s))

-- ---- places that are not between the digits of a hash

follow_by : (bytes : List ℕ) (place : Place) (end n : ℕ) → unread_len (Some place.class) (slice_range bytes place.at end) ≡ n → can_rest_follow_place bytes place end ≡ has_no_stray_token (tokens_after_class_skipping_bytes (Some place.class) n (slice_range bytes place.at end))
follow_by bytes place end n e = ap (λ u. has_no_stray_token (tokens_after_class_skipping_bytes (Some place.class) u (slice_range bytes place.at end))) e

no_hash_unread : (class : Class) (rest : List ℕ) → is_hash class ≡ false → unread_len (Some class) rest ≡ 0
no_hash_unread class rest h = ap (λ b. cond b (length (leading_hex_digits rest)) 0) h

-- what is in a range is in the grammar exactly if what follows its first token, no hash, may follow
-- there
behind_first : (bytes : List ℕ) (last : Option Class) (at end : ℕ) (found : Lexeme) → lexeme_at last (slice_range bytes at end) ≡ found → is_end_or_stray_class found.token.class ≡ false → is_hash found.token.class ≡ false → at + found.width ≤ end
    → has_no_stray_token (tokens_after_class_skipping_bytes last 0 (slice_range bytes at end)) ≡ can_rest_follow_place bytes (record { at = at + found.width; class = found.token.class }) end
behind_first bytes last at end found is token plain fits =
    ap has_no_stray_token (tokens_after_class_skipping_bytes-step last (slice_range bytes at end) ∙ ap (λ (l : Lexeme). l.token ∷ after (slice_range bytes at end) l) is)
    ∙ grammar_by (is_end_or_stray_class found.token.class) (is_stray_class found.token.class) (tokens_after_class_skipping_bytes (Some found.token.class) 0 (drop found.width (slice_range bytes at end))) token (no_last found.token.class token)
    ∙ ap (λ ts. has_no_stray_token (tokens_after_class_skipping_bytes (Some found.token.class) 0 ts)) (drop_range bytes at end found.width fits)
    ∙ sym (follow_by bytes (record { at = at + found.width; class = found.token.class }) end 0 (no_hash_unread found.token.class (slice_range bytes (at + found.width) end) plain))

-- ---- no token but at the end of the text is the end

-- a last class that is not the end's
abbrev pub NoEnd : Lexeme → Type 0
NoEnd found = is_end_or_stray_class found.token.class ≡ true → is_stray_class found.token.class ≡ true

cond_no_end : (b : Bool) (x y : Lexeme) → NoEnd x → NoEnd y → NoEnd (cond b x y)
cond_no_end true x y f g = f
cond_no_end false x y f g = g

pub number_no_end : (class : Class) (mark : ℕ) (ds : List ℕ) → (is_end_or_stray_class class ≡ true → is_stray_class class ≡ true) → NoEnd (number_lexeme_by_digits class mark ds)
unfolding number_lexeme_by_digits
number_no_end class mark ds h = cond_no_end (has_number_length ds) _ stray_lexeme h (λ _. refl)

component_no_end : (ds : List ℕ) → NoEnd (later_component_lexeme_by_digits ds)
unfolding later_component_lexeme_by_digits
component_no_end ds = cond_no_end (has_number_length ds && begins_with_zero ds) (lexeme (text_token Classes.ZeroComponent ds) (1 + length ds)) (number_lexeme_by_digits Classes.Component 1 ds) (λ h. h) (number_no_end Classes.Component 1 ds (λ h. h))

suffix_class_no_end : (b : Bool) → is_end_or_stray_class (cond b Classes.PreRelease Classes.Suffix) ≡ true → is_stray_class (cond b Classes.PreRelease Classes.Suffix) ≡ true
suffix_class_no_end true h = h
suffix_class_no_end false h = h

suffix_no_end : (word : List ℕ) (rank : Option ℕ) → NoEnd (suffix_lexeme_by_word_and_rank word rank)
suffix_no_end word None h = refl
suffix_no_end word (Some rank) h = suffix_class_no_end _ h

hash_no_end : (ds : List ℕ) → NoEnd (hash_lexeme_by_hex_digits ds)
unfolding hash_lexeme_by_hex_digits
hash_no_end ds = cond_no_end _ (lexeme (text_token Classes.Hash ds) (1 + length ds)) stray_lexeme (λ h. h) (λ _. refl)

revision_no_end : (rest : List ℕ) → NoEnd (revision_lexeme_by_text_after_hyphen rest)
unfolding revision_lexeme_by_text_after_hyphen
revision_no_end [] h = refl
revision_no_end (b ∷ rest) h = cond_no_end (eqb b 114) (number_lexeme_by_digits Classes.Revision 2 (leading_digits rest)) stray_lexeme (number_no_end Classes.Revision 2 (leading_digits rest) (λ h. h)) (λ _. refl) h

next_no_end : (last : Class) (b : ℕ) (rest : List ℕ) → NoEnd (next_lexeme last (b ∷ rest))
unfolding next_lexeme
next_no_end last b rest =
    cond_no_end (eqb b 46 && is_component last) (later_component_lexeme_by_digits (leading_digits rest)) _ (component_no_end (leading_digits rest))
    (cond_no_end (is_ascii_lowercase b && is_component last) (lexeme (number_token Classes.Letter b) 1) _ (λ h. h)
    (cond_no_end (eqb b 95 && is_allowed_before_suffix_or_hash last) (suffix_lexeme_by_word (leading_letters rest)) _ (suffix_no_end (leading_letters rest) (suffix_rank (leading_letters rest)))
    (cond_no_end (is_ascii_digit b && is_suffix last) (number_lexeme_by_digits Classes.SuffixNumber 0 (leading_digits (b ∷ rest))) _ (number_no_end Classes.SuffixNumber 0 (leading_digits (b ∷ rest)) (λ h. h))
    (cond_no_end (eqb b 126 && is_allowed_before_suffix_or_hash last) (hash_lexeme_by_hex_digits (leading_hex_digits rest)) _ (hash_no_end (leading_hex_digits rest))
    (cond_no_end (eqb b 45 && is_allowed_before_revision last) (revision_lexeme_by_text_after_hyphen rest) stray_lexeme (revision_no_end rest) (λ _. refl))))))

pub some_no_end : (last : Class) (text : List ℕ) → 0 < length text → NoEnd (next_lexeme last text)
some_no_end last [] long = absurd (omega arith)
some_no_end last (b ∷ rest) long = next_no_end last b rest

stray_by : (stray : Bool) (ts : List Token) → stray ≡ true → (not stray && has_no_stray_token ts) ≡ false
stray_by true ts h = refl
stray_by false ts h = absurd (false≢true h)

pub stray_first : (last : Option Class) (text : List ℕ) → NoEnd (lexeme_at last text) → is_end_or_stray_class (lexeme_at last text).token.class ≡ true → has_no_stray_token (tokens_after_class_skipping_bytes last 0 text) ≡ false
stray_first last text no_end h =
    ap has_no_stray_token (tokens_after_class_skipping_bytes-step last text) ∙ stray_by (is_stray_class (lexeme_at last text).token.class) (after text (lexeme_at last text)) (no_end h)

-- ---- what the reader finds

length_range : (bytes : List ℕ) (at end : ℕ) → at ≤ end → end ≤ length bytes → length (slice_range bytes at end) ≡ end - at
length_range bytes at end order within = omega (arith, length-take-le (end - at) (drop at bytes) (omega (arith, length-drop at bytes)))

pub no_version : (bytes : List ℕ) (at end : ℕ) (class : Class) → class ≡ (lexeme_at None (slice_range bytes at end)).token.class → is_end_or_stray_class class ≡ true → is_version (slice_range bytes at end) ≡ false
unfolding is_version tokens
no_version bytes at end class is h =
    stray_first None (slice_range bytes at end) (number_no_end Classes.Component 0 (leading_digits (slice_range bytes at end)) (λ h. h)) (ap is_end_or_stray_class (sym is) ∙ h)

pub none_follows : (bytes : List ℕ) (place : Place) (end : ℕ) (class : Class) → place.at < end → end ≤ length bytes → unread_len (Some place.class) (slice_range bytes place.at end) ≡ 0 → class ≡ (lexeme_at (Some place.class) (slice_range bytes place.at end)).token.class → is_end_or_stray_class class ≡ true → can_rest_follow_place bytes place end ≡ false
none_follows bytes place end class order within none is h =
    let long = length_range bytes place.at end (omega arith) within in
    follow_by bytes place end 0 none
    ∙ stray_first (Some place.class) (slice_range bytes place.at end) (some_no_end place.class (slice_range bytes place.at end) (omega arith)) (ap is_end_or_stray_class (sym is) ∙ h)

first_width : (bytes : List ℕ) (last : Option Class) (at end len : ℕ) → at ≤ end → end ≤ length bytes → len ≡ (lexeme_at last (slice_range bytes at end)).width → at + len ≤ end
first_width bytes last at end len order within is =
    let most = (lexeme_at_within last (slice_range bytes at end)).most in
    let long = length_range bytes at end order within in
    omega arith

-- ---- the first token of a version, which is no hash

component_by : (b : Bool) (found : Lexeme) → is_hash found.token.class ≡ false → is_hash (cond b found stray_lexeme).token.class ≡ false
component_by true found h = h
component_by false found h = refl

first_plain : (text : List ℕ) → is_hash (lexeme_at None text).token.class ≡ false
unfolding number_lexeme_by_digits
first_plain text = component_by (has_number_length (leading_digits text)) (lexeme (number_token Classes.Component _) _) refl

-- how many bytes of the token that begins a text are skipped at first: of a hash its mark and a digit
passed_plain : (found : Lexeme) → is_hash found.token.class ≡ false → passed_len found ≡ found.width
passed_plain found h = ap (λ b. cond b 2 found.width) h

pub first_passed : (bytes : List ℕ) (at end len : ℕ) → at ≤ end → end ≤ length bytes → len ≡ passed_len (lexeme_at None (slice_range bytes at end)) → at + len ≤ end
first_passed bytes at end len order within is =
    first_width bytes None at end len order within (is ∙ passed_plain (lexeme_at None (slice_range bytes at end)) (first_plain (slice_range bytes at end)))

pub first_version : (bytes : List ℕ) (at end len : ℕ) (class : Class) → at ≤ end → end ≤ length bytes → class ≡ (lexeme_at None (slice_range bytes at end)).token.class → len ≡ passed_len (lexeme_at None (slice_range bytes at end)) → is_end_or_stray_class class ≡ false
    → is_version (slice_range bytes at end) ≡ can_rest_follow_place bytes (record { at = at + len; class = class }) end
unfolding is_version tokens
first_version bytes at end len class order within is passed h =
    let found = lexeme_at None (slice_range bytes at end) in
    let plain = first_plain (slice_range bytes at end) in
    let width : len ≡ found.width = passed ∙ passed_plain found plain in
    behind_first bytes None at end found refl (ap is_end_or_stray_class (sym is) ∙ h) plain (first_width bytes None at end found.width order within refl)
    ∙ ap (λ (n : ℕ). can_rest_follow_place bytes (record { at = at + n; class = found.token.class }) end) (sym width)
    ∙ ap (λ (c : Class). can_rest_follow_place bytes (record { at = at + len; class = c }) end) (sym is)

-- ---- the next token

after_plain : (bytes : List ℕ) (place : Place) (end : ℕ) (found : Lexeme) → place.at < end → end ≤ length bytes → unread_len (Some place.class) (slice_range bytes place.at end) ≡ 0 → found ≡ lexeme_at (Some place.class) (slice_range bytes place.at end) → is_end_or_stray_class found.token.class ≡ false → is_hash found.token.class ≡ false
    → IsNextPlace bytes end place (record { at = place.at + found.width; class = found.token.class })
after_plain bytes place end found order within none is token plain =
    let fits = first_width bytes (Some place.class) place.at end found.width (omega arith) within (ap (λ (l : Lexeme). l.width) is) in
    let some = (lexeme_at_within (Some place.class) (slice_range bytes place.at end)).some (ap (λ (l : Lexeme). is_end_or_stray_class l.token.class) (sym is) ∙ token) in
    let width : found.width ≡ (lexeme_at (Some place.class) (slice_range bytes place.at end)).width = ap (λ (l : Lexeme). l.width) is in
    record {
      forth = omega arith;
      within = fits;
      same = follow_by bytes place end 0 none ∙ behind_first bytes (Some place.class) place.at end found (sym is) token plain fits;
      leads = λ before. record {
        forth = omega arith;
        same = λ other past.
            follow_by bytes place other 0 (unread_none place.class (drop place.at bytes) (end - place.at) (other - place.at) (omega arith) none)
            ∙ behind_first bytes (Some place.class) place.at other found
            (token_local place.class (drop place.at bytes) (end - place.at) (other - place.at) (ap (λ (l : Lexeme). is_end_or_stray_class l.token.class) (sym is) ∙ token) (omega arith) (omega arith) ∙ sym is) token plain past;
      };
    }

hash_behind : (bytes : List ℕ) (place : Place) (end other : ℕ) → is_hash (lexeme_at (Some place.class) (slice_range bytes place.at end)).token.class ≡ true → place.at + 2 ≤ other
    → has_no_stray_token (tokens_after_class_skipping_bytes (Some place.class) 0 (slice_range bytes place.at other)) ≡ can_rest_follow_place bytes (record { at = place.at + 2; class = Classes.Hash }) other
hash_behind bytes place end other marked fits =
    hash_follow place.class (drop place.at bytes) (end - place.at) (other - place.at) marked (omega arith)
    ∙ ap (is_valid_version_rest (record { at = place.at + 2; class = Classes.Hash })) (drop_range bytes place.at other 2 fits)

behind_hash : (bytes : List ℕ) (place : Place) (end : ℕ) → place.at < end → unread_len (Some place.class) (slice_range bytes place.at end) ≡ 0 → is_hash (lexeme_at (Some place.class) (slice_range bytes place.at end)).token.class ≡ true
    → IsNextPlace bytes end place (record { at = place.at + 2; class = Classes.Hash })
behind_hash bytes place end order none marked =
    let room = hash_room place.class (drop place.at bytes) (end - place.at) marked in
    record {
      forth = omega arith;
      within = omega arith;
      same = follow_by bytes place end 0 none ∙ hash_behind bytes place end end marked (omega arith);
      leads = λ before. record {
        forth = omega arith;
        same = λ other past.
            follow_by bytes place other 0 (unread_none place.class (drop place.at bytes) (end - place.at) (other - place.at) (omega arith) none)
            ∙ hash_behind bytes place end other marked past;
      };
    }

hash_class : (class : Class) → is_hash class ≡ true → class ≡ Classes.Hash
hash_class Classes.Hash h = refl
hash_class Classes.Stray h = absurd (false≢true h)
hash_class Classes.PreRelease h = absurd (false≢true h)
hash_class Classes.End h = absurd (false≢true h)
hash_class Classes.Revision h = absurd (false≢true h)
hash_class Classes.SuffixNumber h = absurd (false≢true h)
hash_class Classes.Suffix h = absurd (false≢true h)
hash_class Classes.Letter h = absurd (false≢true h)
hash_class Classes.ZeroComponent h = absurd (false≢true h)
hash_class Classes.Component h = absurd (false≢true h)

behind_by : (bytes : List ℕ) (place : Place) (end : ℕ) (found : Lexeme) (b : Bool) → is_hash found.token.class ≡ b → place.at < end → end ≤ length bytes → unread_len (Some place.class) (slice_range bytes place.at end) ≡ 0 → found ≡ lexeme_at (Some place.class) (slice_range bytes place.at end) → is_end_or_stray_class found.token.class ≡ false
    → IsNextPlace bytes end place (record { at = place.at + passed_len found; class = found.token.class })
behind_by bytes place end found false e order within none is token =
    subst (λ (n : ℕ). IsNextPlace bytes end place (record { at = place.at + n; class = found.token.class })) (sym (passed_plain found e)) (after_plain bytes place end found order within none is token e)
behind_by bytes place end found true e order within none is token =
    let there = behind_hash bytes place end order none (ap (λ (l : Lexeme). is_hash l.token.class) (sym is) ∙ e) in
    let passed : 2 ≡ passed_len found = sym (ap (λ b. cond b 2 found.width) e) in
    let one = subst (λ (n : ℕ). IsNextPlace bytes end place (record { at = place.at + n; class = Classes.Hash })) passed there in
    subst (λ (c : Class). IsNextPlace bytes end place (record { at = place.at + passed_len found; class = c })) (sym (hash_class found.token.class e)) one

pub is_after_members : (bytes : List ℕ) (place : Place) (end len : ℕ) (class : Class) → place.at < end → end ≤ length bytes → unread_len (Some place.class) (slice_range bytes place.at end) ≡ 0 → class ≡ (lexeme_at (Some place.class) (slice_range bytes place.at end)).token.class → len ≡ passed_len (lexeme_at (Some place.class) (slice_range bytes place.at end)) → is_end_or_stray_class class ≡ false
    → IsNextPlace bytes end place (record { at = place.at + len; class = class })
is_after_members bytes place end len class order within none is passed h =
    let found = lexeme_at (Some place.class) (slice_range bytes place.at end) in
    let there = behind_by bytes place end found (is_hash found.token.class) refl order within none refl (ap is_end_or_stray_class (sym is) ∙ h) in
    let one = subst (λ (n : ℕ). IsNextPlace bytes end place (record { at = place.at + n; class = found.token.class })) (sym passed) there in
    subst (λ (c : Class). IsNextPlace bytes end place (record { at = place.at + len; class = c })) (sym is) one

-- after some more digits of a hash
pub comes_after_digits : (bytes : List ℕ) (place : Place) (end n len : ℕ) → n ≤ end - place.at → len ≡ unread_len (Some place.class) (take n (drop place.at bytes)) → len ≤ n → 0 < len → place.at < end → IsNextPlace bytes end place (record { at = place.at + len; class = place.class })
comes_after_digits bytes place end n len most is few some order = record {
  forth = omega arith;
  within = omega arith;
  same = digits_follow bytes place n end len is (omega arith);
  leads = λ before. record { forth = omega arith; same = λ other past. digits_follow bytes place n other len is past };
}

-- nothing follows at the end
pub follows_at_end : (bytes : List ℕ) (place : Place) (end : ℕ) → end ≤ place.at → can_rest_follow_place bytes place end ≡ true
unfolding next_lexeme
follows_at_end bytes place end past =
    let none : end - place.at ≡ 0 = omega arith in
    ap (λ n. is_valid_version_rest place (take n (drop place.at bytes))) none ∙ good_end (is_hash place.class)
  where
    good_end : (b : Bool) → has_no_stray_token (tokens_after_class_skipping_bytes (Some place.class) (cond b 0 0) []) ≡ true
    good_end true = refl
    good_end false = refl

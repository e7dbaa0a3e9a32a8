-- Outside of a hash a version has few bytes in a row of which none begins a token wherever it occurs.
-- So a version that has more of them in front of a place is within its hash there.
use Rattle.std.proofs.Common.{◌≡◌, ℕ, zero, suc, ◌+◌, ◌-◌, ◌<◌, ◌≤◌, Bool, true, false, ◌&&◌, cond, eqb, ltb, List, [], ◌∷◌, ◌++◌, take, drop, get_or, length, Option, Some, None, refl, ap, sym, ◌∙◌, subst, arith}
use Rattle.std.specs.Prelude.{codes, is_some, not}
use Rattle.std.specs.Char.{is_ascii_digit, is_ascii_lowercase}
use Rattle.std.specs.Str.{bytes_eq}
use Rattle.std.specs.Str.Parse.{digits_value}
use Rattle.std.proofs.lemmas.Bool.{false≢true}
use Rattle.std.proofs.lemmas.Bool.Decides.{Decides-eqb, nat_tests}
use Rattle.std.proofs.lemmas.List.{drop-drop, drop_more, length-drop, length-take-le, take-append-drop}
use Rattle.std.proofs.lemmas.Slice.Eq.{bytes_eq-Decides}
use Rattle.version_core.specs.declared.token.Class.{Class}
use Rattle.version_core.specs.declared.token.Class.TheVariants.{PreRelease, Revision, SuffixNumber, Suffix, Letter, ZeroComponent, Component}
use Rattle.version_core.specs.Token.{Lexeme, number_token, text_token, lexeme, stray_lexeme, has_number_length, is_component, is_suffix, is_allowed_before_suffix_or_hash, is_allowed_before_revision, begins_with_zero, leading_digits, leading_hex_digits, leading_letters, number_lexeme_by_digits, later_component_lexeme_by_digits, suffix_class, suffix_rank, suffix_lexeme_by_word_and_rank, hash_lexeme_by_hex_digits, revision_lexeme_by_text_after_hyphen, next_lexeme, lexeme_at}
use Rattle.version_core.specs.Order.{is_end_or_stray_class, is_stray_class, is_version}
use Rattle.version_core.specs.Reading.{AreEqualUpTo, AreEqualUpToPlaceInHash, HasUnmarkedEnd, IsLastMark, begins_with_mark, is_token_mark, is_unmarked}
use Rattle.version_core.proofs.EqualFront.{IsGood, and_left, and_right, by_mark, cut_text, good_after, good_front, good_whole, goes_on, mark_within, with_mark}
use Rattle.version_core.proofs.Walk.{lexeme_at_within}

-- ---- one token

-- how many bytes without a mark may follow a token: the number of a suffix, or a letter
abbrev room : Class → ℕ
room class = cond (is_suffix class) 18 (cond (is_component class) 1 0)

room_suffix : (suffix component : Bool) → suffix ≡ true → 18 ≤ cond suffix 18 (cond component 1 0)
room_suffix true component h = omega arith
room_suffix false component h = absurd (false≢true h)

room_component : (suffix component : Bool) → component ≡ true → 1 ≤ cond suffix 18 (cond component 1 0)
room_component true component h = omega arith
room_component false true h = omega arith
room_component false false h = absurd (false≢true h)

-- a token, and what may follow it without a mark, have so many bytes at most
abbrev IsShort : ℕ → Lexeme → Type 0
IsShort most found = is_end_or_stray_class found.token.class ≡ false → found.width + room found.token.class ≤ most

shorter : (n m : ℕ) (found : Lexeme) → n ≤ m → IsShort n found → IsShort m found
shorter n m found le short token = omega (arith, le, short token)

stray_short : (most : ℕ) → IsShort most stray_lexeme
stray_short most token = absurd (false≢true (sym token))

cond_short : (most : ℕ) (b : Bool) (x y : Lexeme) → (b ≡ true → IsShort most x) → IsShort most y → IsShort most (cond b x y)
cond_short most true x y f g = f refl
cond_short most false x y f g = g

number_few : (ds : List ℕ) → has_number_length ds ≡ true → length ds ≤ 18
number_few ds h = grind (arith, nat_tests)

number_room : (mark len after : ℕ) → len ≤ 18 → mark + len + after ≤ mark + 18 + after
number_room mark len after few = omega (arith, few)

number_short : (class : Class) (mark : ℕ) (ds : List ℕ) → IsShort (mark + 18 + room class) (number_lexeme_by_digits class mark ds)
unfolding number_lexeme_by_digits
number_short class mark ds =
    cond_short (mark + 18 + room class) (has_number_length ds) (lexeme (number_token class (digits_value 10 ds)) (mark + length ds)) stray_lexeme
    (λ h token. number_room mark (length ds) (room class) (number_few ds h))
    (stray_short (mark + 18 + room class))

component_short : (ds : List ℕ) → IsShort 20 (later_component_lexeme_by_digits ds)
unfolding later_component_lexeme_by_digits
component_short ds =
    cond_short 20 (has_number_length ds && begins_with_zero ds) (lexeme (text_token ZeroComponent ds) (1 + length ds)) (number_lexeme_by_digits Component 1 ds)
    (λ h token. number_room 1 (length ds) 1 (number_few ds (and_left (has_number_length ds) (begins_with_zero ds) h)))
    (number_short Component 1 ds)

word_by : (test : Bool) (word literal : List ℕ) (rank n : ℕ) (others : Option ℕ) → (test ≡ true → word ≡ literal) → length literal ≡ n → n ≤ 5 → (is_some others ≡ true → length word ≤ 5) → is_some (cond test (Some rank) others) ≡ true → length word ≤ 5
word_by true word literal rank n others same len few more h = let e : length word ≡ n = ap length (same refl) ∙ len in omega (arith, e, few)
word_by false word literal rank n others same len few more h = more h

word_few : (word : List ℕ) → is_some (suffix_rank word) ≡ true → length word ≤ 5
unfolding suffix_rank
word_few word =
    word_by (bytes_eq word (codes "alpha")) word (codes "alpha") 0 5 _ (bytes_eq-Decides word (codes "alpha")).0 refl (omega arith)
    (word_by (bytes_eq word (codes "beta")) word (codes "beta") 1 4 _ (bytes_eq-Decides word (codes "beta")).0 refl (omega arith)
    (word_by (bytes_eq word (codes "pre")) word (codes "pre") 2 3 _ (bytes_eq-Decides word (codes "pre")).0 refl (omega arith)
    (word_by (bytes_eq word (codes "rc")) word (codes "rc") 3 2 _ (bytes_eq-Decides word (codes "rc")).0 refl (omega arith)
    (word_by (bytes_eq word (codes "cvs")) word (codes "cvs") 4 3 _ (bytes_eq-Decides word (codes "cvs")).0 refl (omega arith)
    (word_by (bytes_eq word (codes "svn")) word (codes "svn") 5 3 _ (bytes_eq-Decides word (codes "svn")).0 refl (omega arith)
    (word_by (bytes_eq word (codes "git")) word (codes "git") 6 3 _ (bytes_eq-Decides word (codes "git")).0 refl (omega arith)
    (word_by (bytes_eq word (codes "hg")) word (codes "hg") 7 2 _ (bytes_eq-Decides word (codes "hg")).0 refl (omega arith)
    (word_by (bytes_eq word (codes "p")) word (codes "p") 8 1 None (bytes_eq-Decides word (codes "p")).0 refl (omega arith)
    (λ h. absurd (false≢true h))))))))))

suffix_room : (pre : Bool) → room (cond pre PreRelease Suffix) ≡ 18
suffix_room true = refl
suffix_room false = refl

suffix_short_by : (word : List ℕ) (rank : Option ℕ) → (is_some rank ≡ true → length word ≤ 5) → IsShort 24 (suffix_lexeme_by_word_and_rank word rank)
suffix_short_by word None few token = stray_short 24 token
suffix_short_by word (Some rank) few token =
    let after : room (suffix_class rank) ≡ 18 = suffix_room (ltb rank 4) in
    let whole : 1 + length word + room (suffix_class rank) ≤ 24 = omega (arith, few refl, after) in
    whole

suffix_short : (word : List ℕ) → IsShort 24 (suffix_lexeme_by_word_and_rank word (suffix_rank word))
suffix_short word = suffix_short_by word (suffix_rank word) (word_few word)

revision_short : (rest : List ℕ) → IsShort 20 (revision_lexeme_by_text_after_hyphen rest)
unfolding revision_lexeme_by_text_after_hyphen
revision_short [] = stray_short 20
revision_short (b ∷ rest) =
    cond_short 20 (eqb b 114) (number_lexeme_by_digits Revision 2 (leading_digits rest)) stray_lexeme
    (λ _. number_short Revision 2 (leading_digits rest))
    (stray_short 20)

-- a byte that is no mark is not this one
no_mark : {P : Type 0} (b mark : ℕ) (other : Bool) → not (is_token_mark b) ≡ true → is_token_mark mark ≡ true → (eqb b mark && other) ≡ true → P
no_mark b mark other bare is h =
    let same : b ≡ mark = (Decides-eqb b mark).0 (and_left (eqb b mark) other h) in
    absurd (false≢true (sym (ap not (ap is_token_mark same ∙ is)) ∙ bare))

letter_short : (last : Class) (b : ℕ) → is_component last ≡ true → IsShort (room last) (lexeme (number_token Letter b) 1)
letter_short last b h token = omega (arith, room_component (is_suffix last) (is_component last) h)

suffix_number_short : (last : Class) (ds : List ℕ) → is_suffix last ≡ true → IsShort (room last) (number_lexeme_by_digits SuffixNumber 0 ds)
suffix_number_short last ds h =
    shorter 18 (room last) (number_lexeme_by_digits SuffixNumber 0 ds) (room_suffix (is_suffix last) (is_component last) h) (number_short SuffixNumber 0 ds)

-- without a mark a letter alone follows a component, and a number a suffix
unmarked_short : (last : Class) (b : ℕ) (rest : List ℕ) → not (is_token_mark b) ≡ true → IsShort (room last) (next_lexeme last (b ∷ rest))
unfolding next_lexeme
unmarked_short last b rest bare =
    cond_short (room last) (eqb b 46 && is_component last) (later_component_lexeme_by_digits (leading_digits rest)) _ (no_mark b 46 (is_component last) bare refl)
    (cond_short (room last) (is_ascii_lowercase b && is_component last) (lexeme (number_token Letter b) 1) _ (λ h. letter_short last b (and_right (is_ascii_lowercase b) (is_component last) h))
    (cond_short (room last) (eqb b 95 && is_allowed_before_suffix_or_hash last) (suffix_lexeme_by_word_and_rank (leading_letters rest) (suffix_rank (leading_letters rest))) _ (no_mark b 95 (is_allowed_before_suffix_or_hash last) bare refl)
    (cond_short (room last) (is_ascii_digit b && is_suffix last) (number_lexeme_by_digits SuffixNumber 0 (leading_digits (b ∷ rest))) _ (λ h. suffix_number_short last (leading_digits (b ∷ rest)) (and_right (is_ascii_digit b) (is_suffix last) h))
    (cond_short (room last) (eqb b 126 && is_allowed_before_suffix_or_hash last) (hash_lexeme_by_hex_digits (leading_hex_digits rest)) _ (no_mark b 126 (is_allowed_before_suffix_or_hash last) bare refl)
    (cond_short (room last) (eqb b 45 && is_allowed_before_revision last) (revision_lexeme_by_text_after_hyphen rest) stray_lexeme (no_mark b 45 (is_allowed_before_revision last) bare refl)
    (stray_short (room last)))))))

-- ---- bytes in a row

-- after a token, of which `inside` bytes still follow
few_unmarked : (last : Class) (inside : ℕ) (p x : List ℕ) → is_unmarked p ≡ true → IsGood (Some last) inside (p ++ x) → length p ≤ inside + room last
few_unmarked last inside [] x bare good = omega arith
few_unmarked last (suc inside) (b ∷ p) x bare good =
    omega (arith, few_unmarked last inside p x (and_right (not (is_token_mark b)) (is_unmarked p) bare) good)
few_unmarked last zero (b ∷ p) x bare good =
    let found = lexeme_at (Some last) (b ∷ (p ++ x)) in
    let token : is_end_or_stray_class found.token.class ≡ false = goes_on (Some last) b (p ++ x) good in
    let short : found.width + room found.token.class ≤ room last = unmarked_short last b (p ++ x) (and_left (not (is_token_mark b)) (is_unmarked p) bare) token in
    let some : 0 < found.width = (lexeme_at_within (Some last) (b ∷ (p ++ x))).some token in
    let more : length p ≤ found.width - 1 + room found.token.class =
    few_unmarked found.token.class (found.width - 1) p x (and_right (not (is_token_mark b)) (is_unmarked p) bare)
    (good_after (p ++ x) found (is_stray_class found.token.class) (is_end_or_stray_class found.token.class) token good) in
    omega (arith, short, some, more)

-- after the first byte of a token
few_after : (last : Option Class) (b : ℕ) (p x : List ℕ) (most : ℕ) → is_unmarked p ≡ true → IsShort most (lexeme_at last (b ∷ (p ++ x))) → IsGood last 0 (b ∷ (p ++ x)) → length p < most
few_after last b p x most bare short good =
    let found = lexeme_at last (b ∷ (p ++ x)) in
    let token : is_end_or_stray_class found.token.class ≡ false = goes_on last b (p ++ x) good in
    let whole : found.width + room found.token.class ≤ most = short token in
    let some : 0 < found.width = (lexeme_at_within last (b ∷ (p ++ x))).some token in
    let more : length p ≤ found.width - 1 + room found.token.class =
    few_unmarked found.token.class (found.width - 1) p x bare (good_after (p ++ x) found (is_stray_class found.token.class) (is_end_or_stray_class found.token.class) token good) in
    omega (arith, whole, some, more)

-- at the front of a version
few_at_front : (p x : List ℕ) → is_unmarked p ≡ true → IsGood None 0 (p ++ x) → length p ≤ 23
few_at_front [] x bare good = omega arith
few_at_front (b ∷ p) x bare good =
    let few : length p < 19 = few_after None b p x 19 (and_right (not (is_token_mark b)) (is_unmarked p) bare) (number_short Component 0 (leading_digits (b ∷ (p ++ x)))) good in
    omega (arith, few)

-- more of them stand after the mark of a hash alone
many_after : (m : ℕ) (p x : List ℕ) → is_token_mark m ≡ true → is_unmarked p ≡ true → 23 < length p → IsGood (Some Component) 0 (m ∷ (p ++ x)) → m ≡ 126
unfolding next_lexeme
many_after m p x mark bare many =
    by_mark (λ m. IsGood (Some Component) 0 (m ∷ (p ++ x)) → m ≡ 126) m mark
    (λ good. let few = few_after (Some Component) 46 p x 20 bare (component_short (leading_digits (p ++ x))) good in absurd (omega arith))
    (λ good. let few = few_after (Some Component) 95 p x 24 bare (suffix_short (leading_letters (p ++ x))) good in absurd (omega arith))
    (λ good. refl)
    (λ good. let few = few_after (Some Component) 45 p x 20 bare (revision_short (p ++ x)) good in absurd (omega arith))

-- ---- the last mark

first_mark_by : (P : Type 0) (b : ℕ) (rest : List ℕ) (m : Bool) → is_token_mark b ≡ m → is_unmarked rest ≡ true → (is_unmarked (b ∷ rest) ≡ true → P) → ((at : ℕ) → IsLastMark (b ∷ rest) at → P) → P
first_mark_by P b rest true h bare none some = some 0 (record { mark = h; last = bare })
first_mark_by P b rest false h bare none some = none (ap (λ c. not c && is_unmarked rest) h ∙ bare)

-- a text has no mark, or a last one
by_last_mark : (P : Type 0) (text : List ℕ) → (is_unmarked text ≡ true → P) → ((at : ℕ) → IsLastMark text at → P) → P
by_last_mark P [] none some = none refl
by_last_mark P (b ∷ rest) none some =
    by_last_mark P rest
    (λ bare. first_mark_by P b rest (is_token_mark b) refl bare none some)
    (λ at found.
    let next : suc at + 1 ≡ suc (at + 1) = omega arith in
    some (suc at) (record { mark = found.mark; last = ap (λ n. is_unmarked (drop n (b ∷ rest))) next ∙ found.last }))

-- no mark is in a text without one
none_in : {P : Type 0} (text : List ℕ) (at : ℕ) → is_unmarked text ≡ true → begins_with_mark (drop at text) ≡ true → P
none_in [] zero bare mark = absurd (false≢true mark)
none_in [] (suc at) bare mark = absurd (false≢true mark)
none_in (b ∷ rest) zero bare mark = absurd (false≢true (sym (ap not mark) ∙ and_left (not (is_token_mark b)) (is_unmarked rest) bare))
none_in (b ∷ rest) (suc at) bare mark = none_in rest at (and_right (not (is_token_mark b)) (is_unmarked rest) bare) mark

-- a mark is in front of an end without one
before_end_by : (text : List ℕ) (at end : ℕ) (before : Bool) → ltb at end ≡ before → is_unmarked (drop end text) ≡ true → begins_with_mark (drop at text) ≡ true → at < end
before_end_by text at end true h bare mark = grind (arith, nat_tests)
before_end_by text at end false h bare mark =
    let past : end ≤ at = grind (arith, nat_tests) in
    let there : end + (at - end) ≡ at = omega (arith, past) in
    none_in (drop end text) (at - end) bare (ap begins_with_mark (drop-drop (at - end) end text ∙ ap (λ n. drop n text) there) ∙ mark)

before_end : (text : List ℕ) (at end : ℕ) → is_unmarked (drop end text) ≡ true → begins_with_mark (drop at text) ≡ true → at < end
before_end text at end = before_end_by text at end (ltb at end) refl

-- ---- what two versions begin with

-- what is at the last mark of the front that two versions have in common
tilde_at : (left : List ℕ) (len at : ℕ) → IsLastMark (take len left) at → HasUnmarkedEnd (take len left) → is_version left ≡ true → get_or left at 0 ≡ 126
tilde_at left len at found end one =
    let front = take len left in
    let before : at < length front - 24 = before_end front at (length front - 24) end found.mark in
    with_mark _ (drop at front) found.mark (λ m plain h mark.
    let l = cut_text left front len at m plain refl h in
    let bare : is_unmarked plain ≡ true = ap is_unmarked (sym (sym (drop-drop 1 at front) ∙ ap (drop 1) h)) ∙ found.last in
    let long : 23 < length plain = omega (arith, before, length-drop at front, ap length h) in
    let good = good_front None 0 (take at front) m (plain ++ drop len left) mark (omega arith) (subst (IsGood None 0) l.whole (good_whole left one)) in
    let is : m ≡ 126 = many_after m plain (drop len left) mark bare long good in
    sym (ap (λ t. get_or t 0 0) (sym l.rest ∙ drop_more left at 0 (mark_within left len at found))) ∙ is)

-- where the front that they have in common ends without a mark, both are within their hash
pub parted_in_hash : (left right : List ℕ) (len : ℕ) → AreEqualUpTo left right len → 23 < len → HasUnmarkedEnd (take len left) → is_version left ≡ true → AreEqualUpToPlaceInHash left right len
parted_in_hash left right len equal many end one =
    let front = take len left in
    let size : length front ≡ len = length-take-le len left equal.within.0 in
    by_last_mark (AreEqualUpToPlaceInHash left right len) front
    (λ bare.
    let few : length front ≤ 23 = few_at_front front (drop len left) bare (subst (IsGood None 0) (sym (take-append-drop len left)) (good_whole left one)) in
    absurd (omega (arith, few, size, many)))
    (λ at found. record { at = at; equal = equal; last = found; tilde = tilde_at left len at found end one })

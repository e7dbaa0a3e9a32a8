-- A pattern is found in a name just if it matches a part of it.
use Rattle.std.proofs.Common.{◌≡◌, inl, inr, ℕ, true, false, List, [], ◌∷◌, ◌++◌, refl, sym, ap, ◌∙◌, append_assoc, true≢false}
use Rattle.std.specs.Prelude.{◌==◌, ◌&&◌, if◌then◌else◌}
use Rattle.std.specs.List.{list_any}
use Rattle.std.proofs.lemmas.Bool.{and_parts, cases_Bool}
use Rattle.star_patterns.specs.Ends.{matches_some_suffix}
use Rattle.star_patterns.specs.Patterns.{starts_with_byte_then, is_whole_text_matched, matches_some_part, suffixes_of}
use Rattle.star_patterns.proofs.Pieces.{end_found, literal_byte, whole_end, end_matched, empty_end}

star_matched : (b : ℕ) (p text : List ℕ) → (b == 42) ≡ true → matches_some_suffix p text ≡ true → is_whole_text_matched (b ∷ p) text ≡ true
star_matched b p text e m = ap (λ t. if t then list_any (is_whole_text_matched p) (suffixes_of text) else starts_with_byte_then b (is_whole_text_matched p) text) e ∙ m

matched_star : (b : ℕ) (p text : List ℕ) → (b == 42) ≡ true → is_whole_text_matched (b ∷ p) text ≡ true → matches_some_suffix p text ≡ true
matched_star b p text e m = sym (ap (λ t. if t then list_any (is_whole_text_matched p) (suffixes_of text) else starts_with_byte_then b (is_whole_text_matched p) text) e) ∙ m

-- a text begins with a part that the pattern matches
pub record BeginsWithMatch (p text : List ℕ) : Type 0 where
  pub part : List ℕ
  pub after : List ℕ
  pub is : text ≡ part ++ after
  pub matched : is_whole_text_matched p part ≡ true

front_star : (b : ℕ) (p text : List ℕ) → (b == 42) ≡ true → ((rest : List ℕ) → is_whole_text_matched (p ++ 42 ∷ []) rest ≡ true → BeginsWithMatch p rest) → matches_some_suffix (p ++ 42 ∷ []) text ≡ true → BeginsWithMatch (b ∷ p) text
front_star b p text e again m =
    let found = end_found (p ++ 42 ∷ []) text m in
    let further = again found.rest found.matched in
    record {
      part = found.front ++ further.part;
      after = further.after;
      is = found.is ∙ (ap (λ z. found.front ++ z) further.is ∙ sym (append_assoc found.front further.part further.after));
      matched = star_matched b p (found.front ++ further.part) e (end_matched p found.front further.part (whole_end p further.part further.matched));
    }

front_byte : (b : ℕ) (p text : List ℕ) → (b == 42) ≡ false → ((rest : List ℕ) → is_whole_text_matched (p ++ 42 ∷ []) rest ≡ true → BeginsWithMatch p rest) → starts_with_byte_then b (is_whole_text_matched (p ++ 42 ∷ [])) text ≡ true → BeginsWithMatch (b ∷ p) text
front_byte b p [] e again m = absurd (true≢false (sym m))
front_byte b p (t ∷ text) e again m =
    let both = and_parts (b == t) (is_whole_text_matched (p ++ 42 ∷ []) text) m in
    let further = again text both.1 in
    record {
      part = t ∷ further.part;
      after = further.after;
      is = ap (λ z. t ∷ z) further.is;
      matched = literal_byte b p (t ∷ further.part) e ∙ (ap (λ x. x && is_whole_text_matched p further.part) both.0 ∙ further.matched);
    }

front : (p text : List ℕ) → is_whole_text_matched (p ++ 42 ∷ []) text ≡ true → BeginsWithMatch p text
front [] text m = record { part = []; after = text; is = refl; matched = refl }
front (b ∷ p) text m = elim (cases_Bool (b == 42)) [
  | inl e ↦ front_star b p text e (λ rest h. front p rest h) (matched_star b (p ++ 42 ∷ []) text e m)
  | inr e ↦ front_byte b p text e (λ rest h. front p rest h) (sym (literal_byte b (p ++ 42 ∷ []) text e) ∙ m)
]

back_byte : (b : ℕ) (p part after : List ℕ) → (b == 42) ≡ false → ((rest : List ℕ) → is_whole_text_matched p rest ≡ true → is_whole_text_matched (p ++ 42 ∷ []) (rest ++ after) ≡ true) → starts_with_byte_then b (is_whole_text_matched p) part ≡ true → is_whole_text_matched (b ∷ p ++ 42 ∷ []) (part ++ after) ≡ true
back_byte b p [] after e again m = absurd (true≢false (sym m))
back_byte b p (t ∷ part) after e again m =
    let both = and_parts (b == t) (is_whole_text_matched p part) m in
    literal_byte b (p ++ 42 ∷ []) (t ∷ (part ++ after)) e ∙ (ap (λ x. x && is_whole_text_matched (p ++ 42 ∷ []) (part ++ after)) both.0 ∙ again part both.1)

back : (p part after : List ℕ) → is_whole_text_matched p part ≡ true → is_whole_text_matched (p ++ 42 ∷ []) (part ++ after) ≡ true
back [] part after m = empty_end (part ++ after)
back (b ∷ p) part after m = elim (cases_Bool (b == 42)) [
  | inl e ↦
      let found = end_found p part (matched_star b p part e m) in
      let text : part ++ after ≡ found.front ++ (found.rest ++ after) = ap (λ z. z ++ after) found.is ∙ append_assoc found.front found.rest after in
      star_matched b (p ++ 42 ∷ []) (part ++ after) e
      (ap (matches_some_suffix (p ++ 42 ∷ [])) text ∙ end_matched (p ++ 42 ∷ []) found.front (found.rest ++ after) (whole_end (p ++ 42 ∷ []) (found.rest ++ after) (back p found.rest after found.matched)))
  | inr e ↦ back_byte b p part after e (λ rest h. back p rest after h) (sym (literal_byte b p part e) ∙ m)
]

-- a part of a name that the pattern matches
pub record HasMatchedPart (p name : List ℕ) : Type 0 where
  pub before : List ℕ
  pub part : List ℕ
  pub after : List ℕ
  pub is : name ≡ before ++ part ++ after
  pub matched : is_whole_text_matched p part ≡ true

pub part_found : (p name : List ℕ) → matches_some_part p name ≡ true → HasMatchedPart p name
part_found p name m =
    let found = end_found (p ++ 42 ∷ []) name m in
    let further = front p found.rest found.matched in
    record {
      before = found.front;
      part = further.part;
      after = further.after;
      is = found.is ∙ (ap (λ z. found.front ++ z) further.is ∙ sym (append_assoc found.front further.part further.after));
      matched = further.matched;
    }

pub found_in_part : (p before part after name : List ℕ) → name ≡ before ++ part ++ after → is_whole_text_matched p part ≡ true → matches_some_part p name ≡ true
found_in_part p before part after name is m =
    let text : name ≡ before ++ (part ++ after) = is ∙ append_assoc before part after in
    ap (matches_some_suffix (p ++ 42 ∷ [])) text ∙ end_matched (p ++ 42 ∷ []) before (part ++ after) (whole_end (p ++ 42 ∷ []) (part ++ after) (back p part after m))

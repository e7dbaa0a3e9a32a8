-- A text gives a value to a field exactly when it is FIELD:VALUE.
use Rattle.std.proofs.Common.{◌≡◌, ℕ, suc, ◌+◌, ◌<◌, Bool, true, false, cond, not, ◌==◌, nat_lt, bytes_eq, List, [], ◌∷◌, ◌++◌, length, take, drop, get_or, Option, Some, None, refl, ap, sym, ◌∙◌, append_assoc, arith}
use Rattle.std.specs.List.{find, list_any, position, prefix_len}
use Rattle.std.specs.Option.{option_map}
use Rattle.std.proofs.Math.Seq.{split_at}
use Rattle.std.proofs.lemmas.Bool.{eqb-true, lt-ltb, or_parts}
use Rattle.std.proofs.lemmas.List.{drop_at, length-append, take_at}
use Rattle.std.proofs.lemmas.List.Quantifiers.{position-Some}
use Rattle.std.proofs.lemmas.Slice.Eq.{bytes_eq-Decides}
use Rattle.command_core.specs.Values.{script_file, script_type}
use Rattle.make_core.specs.make_info.declared.field.Field.{Field}
use Rattle.make_core.specs.make_info.declared.field.Field.TheVariants as Fields
use Rattle.make_core.specs.make_info.Fields.{field_of, field_word, fields}
use Rattle.make_core.specs.make_info.FieldTexts.{FieldText, field_text_split_at_colon, field_text_in}
use Rattle.definition_laws.specs.making.OptionGrammar.{option_text}

abbrev is_colon : ℕ → Bool
is_colon b = b == 58

named : (f : Field) → field_of (field_word f) ≡ Some f
unfolding field_of
named Fields.Name = refl
named Fields.Version = refl
named Fields.Description = refl
named Fields.Arch = refl
named Fields.License = refl
named Fields.Origin = refl
named Fields.Maintainer = refl
named Fields.Url = refl
named Fields.RepoCommit = refl
named Fields.BuildTime = refl
named Fields.ProviderPriority = refl
named Fields.ReplacesPriority = refl
named Fields.Depends = refl
named Fields.Provides = refl
named Fields.Replaces = refl
named Fields.InstallIf = refl
named Fields.Recommends = refl
named Fields.Tags = refl

colon_free : (f : Field) → list_any is_colon (field_word f) ≡ false
colon_free Fields.Name = refl
colon_free Fields.Version = refl
colon_free Fields.Description = refl
colon_free Fields.Arch = refl
colon_free Fields.License = refl
colon_free Fields.Origin = refl
colon_free Fields.Maintainer = refl
colon_free Fields.Url = refl
colon_free Fields.RepoCommit = refl
colon_free Fields.BuildTime = refl
colon_free Fields.ProviderPriority = refl
colon_free Fields.ReplacesPriority = refl
colon_free Fields.Depends = refl
colon_free Fields.Provides = refl
colon_free Fields.Replaces = refl
colon_free Fields.InstallIf = refl
colon_free Fields.Recommends = refl
colon_free Fields.Tags = refl

-- ---- a text of the form is read

before_colon : (word value : List ℕ) → list_any is_colon word ≡ false → prefix_len (λ b. not (is_colon b)) (word ++ 58 ∷ value) ≡ length word
before_colon [] value h = refl
before_colon (b ∷ bs) value h =
    let both = or_parts (is_colon b) (list_any is_colon bs) h in
    let rest = before_colon bs value both.1 in
    ap (λ (c : Bool). cond (not c) (1 + prefix_len (λ b. not (is_colon b)) (bs ++ 58 ∷ value)) 0) both.0 ∙ omega (arith, rest)

colon_found : (word value : List ℕ) → list_any is_colon word ≡ false → position is_colon (word ++ 58 ∷ value) ≡ Some (length word)
colon_found word value h =
    let all : List ℕ = word ++ 58 ∷ value in
    let n = before_colon word value h in
    let long : length all ≡ length word + suc (length value) = length-append word (58 ∷ value) in
    let lt : length word < length all = omega arith in
    (λ k. cond (nat_lt (n k) (length all)) (Some (n k)) None) ∙ ap (λ (c : Bool). cond c (Some (length word)) None) (lt-ltb (length word) (length all) lt)

after_colon : (word value : List ℕ) → drop (length word + 1) (word ++ 58 ∷ value) ≡ value
after_colon word value =
    ap (drop (length word + 1)) (sym (append_assoc word (58 ∷ []) value)) ∙ drop_at (word ++ 58 ∷ []) value (length word + 1) (omega (arith, length-append word (58 ∷ [])))

-- of TYPE:FILE the part before the first colon, and the part behind it
pub script_parts : (type file : List ℕ) → list_any is_colon type ≡ false → (script_type (type ++ 58 ∷ file) ≡ type) × (script_file (type ++ 58 ∷ file) ≡ file)
script_parts type file free =
    let n = before_colon type file free in (
      ap (λ m. take m (type ++ 58 ∷ file)) n ∙ take_at type (58 ∷ file) (length type) refl,
      ap (λ m. drop (m + 1) (type ++ 58 ∷ file)) n ∙ after_colon type file,
    )

pub given : (f : Field) (value : List ℕ) → field_text_in (option_text f value) ≡ Some (record { field = f; value = value })
given f value =
    let word : List ℕ = field_word f in
    let t : List ℕ = option_text f value in
    let front : take (length word) t ≡ word = take_at word (58 ∷ value) (length word) refl in
    let back : drop (length word + 1) t ≡ value = after_colon word value in
    let make : List ℕ → Field → FieldText = λ (v : List ℕ) (g : Field). record { field = g; value = v } in
    ap (field_text_split_at_colon t) (colon_found word value (colon_free f))
    ∙ ((λ k. option_map (make (back k)) (field_of (front k)))
    ∙ ap (option_map (make value)) (named f))

-- ---- what is read has the form

find_passes : (p : Field → Bool) (fs : List Field) (f : Field) → find p fs ≡ Some f → p f ≡ true
find_passes p [] f e = absurd (cc (e))
find_passes p (g ∷ gs) f e = by_test (p g) refl e (find_passes p gs f)
  where
    by_test : (b : Bool) → p g ≡ b → cond b (Some g) (find p gs) ≡ Some f → (find p gs ≡ Some f → p f ≡ true) → p f ≡ true
    by_test true t e further = let same : g ≡ f = cc (e) in ap p (sym same) ∙ t
    by_test false t e further = further e

word_is : (word : List ℕ) (f : Field) → field_of word ≡ Some f → word ≡ field_word f
unfolding field_of
word_is word f e = sym ((bytes_eq-Decides (field_word f) word).0 (find_passes (λ g. bytes_eq (field_word g) word) fields f e))

read_at : (t : List ℕ) (n : ℕ) (g : FieldText) (o : Option Field) → n < length t → is_colon (get_or t n 0) ≡ true → field_of (take n t) ≡ o
    → option_map (λ f. record { field = f; value = drop (n + 1) t }) o ≡ Some g → t ≡ option_text g.field g.value
read_at t n g None lt colon is e = absurd (cc (e))
read_at t n g (Some f) lt colon is e =
    let same : record { field = f; value = drop (n + 1) t } ≡ g = cc (e) in
    let field : f ≡ g.field = ap (λ (x : FieldText). x.field) same in
    let value : drop (n + 1) t ≡ g.value = ap (λ (x : FieldText). x.value) same in
    let word : take n t ≡ field_word g.field = word_is (take n t) f is ∙ ap field_word field in
    let byte : get_or t n 0 ≡ 58 = eqb-true (get_or t n 0) 58 colon in
    let next : suc n ≡ n + 1 = omega arith in
    let rest : drop (suc n) t ≡ g.value = ap (λ m. drop m t) next ∙ value in
    split_at t n 0 lt ∙ (λ k. word k ++ byte k ∷ rest k)

read_by : (t : List ℕ) (g : FieldText) (o : Option ℕ) → position is_colon t ≡ o → field_text_split_at_colon t o ≡ Some g → t ≡ option_text g.field g.value
read_by t g None at e = absurd (cc (e))
read_by t g (Some n) at e =
    let found = position-Some is_colon t n 0 at in
    read_at t n g (field_of (take n t)) found.0 found.1 refl e

pub text_is : (t : List ℕ) (g : FieldText) → field_text_in t ≡ Some g → t ≡ option_text g.field g.value
text_is t g e = read_by t g (position is_colon t) refl e

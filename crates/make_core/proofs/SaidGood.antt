-- What a value of `-I` says is good for the kind of its field.
use Rattle.std.proofs.Common.{◌≡◌, ℕ, ◌^◌, ◌<◌, Bool, true, false, ◌&&◌, nat_lt, if◌then◌else◌, List, [], ◌∷◌, Option, Some, None, option_map, option_and_then, Result, Ok, Err, refl, ap, sym, subst, ◌∙◌}
use Rattle.std.specs.Prelude.{is_some}
use Rattle.std.specs.Str.Parse.{digits_value}
use Rattle.std.proofs.lemmas.Bool.{ltb-true}
use Rattle.std.proofs.lemmas.Slice.Eq.{bytes_eq-Decides}
use Rattle.hex.specs.Hex.{decode_of}
use Rattle.hex.specs.declared.error.FromHexError.{FromHexError}
use Rattle.version_core.specs.Order.{is_version}
use Rattle.dep_core.specs.Dependency.{Dependency, is_package_name}
use Rattle.dep_core.specs.Reading.{dependency_of}
use Rattle.make_info.specs.declared.field.Field.{Field}
use Rattle.make_info.specs.declared.field.Field.TheVariants as Fields
use Rattle.make_info.specs.declared.field.Kind.{Kind}
use Rattle.make_info.specs.declared.field.Kind.TheVariants as Kinds
use Rattle.make_info.specs.Fields.{TextNumberOrDependency, text, number, need, field_values_of_decoded_hex, field_word, fields, kind_of_field, field_among, untagged_dependency_in, dependency_values_of_parts, decimal_number_without_leading_zeros, nonempty_parts_between_spaces, values_by_kind, text_value_if, text_values, dependency_value_and_others, dependency_if_untagged}
use Rattle.command_core.specs.Operands.{is_decimal_without_leading_zeros}
use Rattle.make_info.specs.FieldTexts.{is_same_field}

-- ---- the kind of a field is that of its word

abbrev kind_by : List ℕ → Option Kind
kind_by word = option_map kind_of_field (field_among fields word)

kind_by_word : (f : Field) → kind_by (field_word f) ≡ Some (kind_of_field f)
kind_by_word Fields.Name = refl
kind_by_word Fields.Version = refl
kind_by_word Fields.Description = refl
kind_by_word Fields.Arch = refl
kind_by_word Fields.License = refl
kind_by_word Fields.Origin = refl
kind_by_word Fields.Maintainer = refl
kind_by_word Fields.Url = refl
kind_by_word Fields.RepoCommit = refl
kind_by_word Fields.BuildTime = refl
kind_by_word Fields.ProviderPriority = refl
kind_by_word Fields.ReplacesPriority = refl
kind_by_word Fields.Depends = refl
kind_by_word Fields.Provides = refl
kind_by_word Fields.Replaces = refl
kind_by_word Fields.InstallIf = refl
kind_by_word Fields.Recommends = refl
kind_by_word Fields.Tags = refl

some_same : {A : Type 0} (x y : A) → Some x ≡ Some y → x ≡ y
some_same x y e = cc (e)

pub same_kind : (g f : Field) → is_same_field g f ≡ true → kind_of_field g ≡ kind_of_field f
same_kind g f e =
    let word : field_word g ≡ field_word f = (bytes_eq-Decides (field_word g) (field_word f)).0 e in
    some_same (kind_of_field g) (kind_of_field f) (sym (kind_by_word g) ∙ (ap kind_by word ∙ kind_by_word f))

-- ---- what is said is good for its kind

abbrev pub IsNeed : Dependency → Type 0
IsNeed d = (part : List ℕ) × (dependency_of part ≡ Some d) × (d.tag ≡ None)

abbrev pub IsSaidAs : Kind → TextNumberOrDependency → Type 0
IsSaidAs Kinds.PackageName (text b) = is_package_name b ≡ true
IsSaidAs Kinds.PackageName (number n) = ⊥
IsSaidAs Kinds.PackageName (need d) = ⊥
IsSaidAs Kinds.PackageVersion (text b) = is_version b ≡ true
IsSaidAs Kinds.PackageVersion (number n) = ⊥
IsSaidAs Kinds.PackageVersion (need d) = ⊥
IsSaidAs Kinds.AnyText (text b) = Unit {0}
IsSaidAs Kinds.AnyText (number n) = ⊥
IsSaidAs Kinds.AnyText (need d) = ⊥
IsSaidAs Kinds.HexDigits (text b) = Unit {0}
IsSaidAs Kinds.HexDigits (number n) = ⊥
IsSaidAs Kinds.HexDigits (need d) = ⊥
IsSaidAs Kinds.Number (text b) = ⊥
IsSaidAs Kinds.Number (number n) = n < 2 ^ 64
IsSaidAs Kinds.Number (need d) = ⊥
IsSaidAs Kinds.Dependencies (text b) = ⊥
IsSaidAs Kinds.Dependencies (number n) = ⊥
IsSaidAs Kinds.Dependencies (need d) = IsNeed d
IsSaidAs Kinds.Texts (text b) = Unit {0}
IsSaidAs Kinds.Texts (number n) = ⊥
IsSaidAs Kinds.Texts (need d) = ⊥

abbrev pub AreSaidAs : Kind → List TextNumberOrDependency → Type 0
AreSaidAs k [] = Unit {0}
AreSaidAs k (s ∷ ss) = IsSaidAs k s × AreSaidAs k ss

text_said : (k : Kind) (b : Bool) (value : List ℕ) (ss : List TextNumberOrDependency) → (b ≡ true → IsSaidAs k (text value)) → text_value_if b value ≡ Some ss → AreSaidAs k ss
text_said k true value ss h e = let same : text value ∷ [] ≡ ss = cc (e) in subst (AreSaidAs k) same (h refl, tt)
text_said k false value ss h e = absurd (cc (e))

bytes_are_said : (r : Result (List ℕ) FromHexError) (ss : List TextNumberOrDependency) → field_values_of_decoded_hex r ≡ Some ss → AreSaidAs Kinds.HexDigits ss
bytes_are_said (Ok bytes) ss e = let same : text bytes ∷ [] ≡ ss = cc (e) in subst (AreSaidAs Kinds.HexDigits) same (tt, tt)
bytes_are_said (Err f) ss e = absurd (cc (e))

number_is_said : (o : Option ℕ) (ss : List TextNumberOrDependency) → ((n : ℕ) → o ≡ Some n → n < 2 ^ 64) → option_map (λ n. number n ∷ []) o ≡ Some ss → AreSaidAs Kinds.Number ss
number_is_said (Some n) ss small e = let same : number n ∷ [] ≡ ss = cc (e) in subst (AreSaidAs Kinds.Number) same (small n refl, tt)
number_is_said None ss small e = absurd (cc (e))

small_if : (a : Bool) (m n : ℕ) → (if a && nat_lt m (2 ^ 64) then Some m else None) ≡ Some n → n < 2 ^ 64
small_if a m n = by_test a (nat_lt m (2 ^ 64)) refl
  where
    by_test : (a b : Bool) → nat_lt m (2 ^ 64) ≡ b → (if a && b then Some m else None) ≡ Some n → n < 2 ^ 64
    by_test true true lt e = let same : m ≡ n = cc (e) in subst (λ k. k < 2 ^ 64) same (ltb-true m (2 ^ 64) lt)
    by_test true false lt e = absurd (cc (e))
    by_test false b lt e = absurd (cc (e))

untagged_is : (d e : Dependency) → dependency_if_untagged d ≡ Some e → (d ≡ e) × (e.tag ≡ None)
untagged_is d e h = by_tag d.tag refl h
  where
    by_tag : (o : Option (List ℕ)) → d.tag ≡ o → (if is_some o then None else Some d) ≡ Some e → (d ≡ e) × (e.tag ≡ None)
    by_tag None is k = let same : d ≡ e = cc (k) in (same, ap (λ (x : Dependency). x.tag) (sym same) ∙ is)
    by_tag (Some t) is k = absurd (cc (k))

need_by : (part : List ℕ) (o : Option Dependency) (d : Dependency) → dependency_of part ≡ o → option_and_then dependency_if_untagged o ≡ Some d → IsNeed d
need_by part None d is e = absurd (cc (e))
need_by part (Some x) d is e = let both = untagged_is x d e in (part, is ∙ ap Some both.0, both.1)

needs_by : (part : List ℕ) (o : Option Dependency) (os : Option (List TextNumberOrDependency)) (ss : List TextNumberOrDependency) → untagged_dependency_in part ≡ o → ((ts : List TextNumberOrDependency) → os ≡ Some ts → AreSaidAs Kinds.Dependencies ts) → dependency_value_and_others o os ≡ Some ss → AreSaidAs Kinds.Dependencies ss
needs_by part None os ss is further e = absurd (cc (e))
needs_by part (Some d) None ss is further e = absurd (cc (e))
needs_by part (Some d) (Some ts) ss is further e =
    let same : need d ∷ ts ≡ ss = cc (e) in
    subst (AreSaidAs Kinds.Dependencies) same (need_by part (dependency_of part) d refl is, further ts refl)

needs_said : (parts : List (List ℕ)) (ss : List TextNumberOrDependency) → dependency_values_of_parts parts ≡ Some ss → AreSaidAs Kinds.Dependencies ss
needs_said [] ss e = let same : [] ≡ ss = cc (e) in subst (AreSaidAs Kinds.Dependencies) same tt
needs_said (part ∷ parts) ss e = needs_by part (untagged_dependency_in part) (dependency_values_of_parts parts) ss refl (λ ts is. needs_said parts ts is) e

texts_said : (parts : List (List ℕ)) → AreSaidAs Kinds.Texts (text_values parts)
texts_said [] = tt
texts_said (part ∷ parts) = (tt, texts_said parts)

pub said_good : (k : Kind) (value : List ℕ) (ss : List TextNumberOrDependency) → values_by_kind k value ≡ Some ss → AreSaidAs k ss
said_good Kinds.PackageName value ss e = text_said Kinds.PackageName (is_package_name value) value ss (λ h. h) e
said_good Kinds.PackageVersion value ss e = text_said Kinds.PackageVersion (is_version value) value ss (λ h. h) e
said_good Kinds.AnyText value ss e = text_said Kinds.AnyText true value ss (λ h. tt) e
said_good Kinds.HexDigits value ss e = bytes_are_said (decode_of value) ss e
said_good Kinds.Number value ss e = number_is_said (decimal_number_without_leading_zeros value) ss (λ n is. small_if (is_decimal_without_leading_zeros value) (digits_value 10 value) n is) e
said_good Kinds.Dependencies value ss e = needs_said (nonempty_parts_between_spaces value) ss e
said_good Kinds.Texts value ss e = let same : text_values (nonempty_parts_between_spaces value) ≡ ss = cc (e) in subst (AreSaidAs Kinds.Texts) same (texts_said (nonempty_parts_between_spaces value))

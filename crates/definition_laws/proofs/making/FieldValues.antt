-- A value is one of a field exactly when it is of the field's grammar.
use Rattle.std.proofs.Common.{lit<, ◌≡◌, ℕ, zero, suc, ◌+◌, ◌*◌, ◌%◌, ◌^◌, ◌<◌, Bool, true, false, cond, not, ◌&&◌, ◌==◌, nat_lt, if◌then◌else◌, List, [], ◌∷◌, length, map, get_or, Option, Some, None, option_map, option_and_then, Result, Ok, Err, refl, ap, sym, subst, ◌∙◌, arith}
use Rattle.std.specs.Prelude.{is_some}
use Rattle.std.specs.Char.{is_ascii_digit}
use Rattle.std.specs.Fmt.{decimal}
use Rattle.std.specs.List.{filter, list_all, slice_split}
use Rattle.std.specs.Str.Parse.{digits_value}
use Rattle.std.proofs.lemmas.Bool.{and_parts, eq-eqb, lt-ltb, ltb-true, ne_eqb, not-true, and_from}
use Rattle.std.proofs.lemmas.Fmt.{decimal-digits_value, decimal_nonempty, digits_decimal, digits_value-decimal, first_decimal}
use Rattle.hex.specs.Hex.{decode_of, decode_pairs, digit_or_error, hex_digit_value, ◌>>=◌}
use Rattle.hex.specs.declared.error.FromHexError.{FromHexError}
use Rattle.hex.specs.declared.error.FromHexError.TheVariants.{OddLength}
use Rattle.hex.proofs.HexLemmas.{decode_of-even}
use Rattle.command_core.specs.Operands.{has_superfluous_leading_zero, is_decimal_without_leading_zeros}
use Rattle.command_core.proofs.Numbers.{decimal_digits, decimal_some, digits_model}
use Rattle.dep_core.specs.Dependency.{Dependency, is_package_name}
use Rattle.dep_core.specs.Reading.{dependency_of}
use Rattle.dep_core.specs.Spelling.{SpellsDependency}
use Rattle.version_core.specs.Order.{is_version}
use Rattle.make_core.specs.make_info.declared.field.Field.{Field}
use Rattle.make_core.specs.make_info.declared.field.Field.TheVariants as Fields
use Rattle.make_core.specs.make_info.Fields.{TextNumberOrDependency, text, number, need, dependency_value_and_others, decimal_number_without_leading_zeros, dependency_if_untagged, is_nonempty, kind_of_field, untagged_dependency_in, dependency_values_of_parts, nonempty_parts_between_spaces, text_value_if, text_values, field_values_of_decoded_hex, values_by_kind}
use Rattle.definition_laws.specs.making.OptionGrammar.{SaysDependencies, SaysNumber, FieldTextGivesValues, SaysText, SpellDependencies, SpellsBytes, SpellsNumber, spaced_parts}

-- ---- texts

text_to : (b : Bool) (value : List ℕ) (said : List TextNumberOrDependency) → text_value_if b value ≡ Some said → (b ≡ true) × SaysText value said
text_to true value said e = let same : text value ∷ [] ≡ said = cc (e) in (refl, sym same)
text_to false value said e = absurd (cc (e))

text_from : (b : Bool) (value : List ℕ) (said : List TextNumberOrDependency) → b ≡ true → SaysText value said → text_value_if b value ≡ Some said
text_from b value said is e = ap (λ (c : Bool). text_value_if c value) is ∙ ap Some (sym e)

-- ---- pairs of digits

-- what comes of two digits, and of those behind them
abbrev pair_after : ℕ → ℕ → ℕ → Option ℕ → Option ℕ → Result (List ℕ) FromHexError → Result (List ℕ) FromHexError
pair_after h l i oh ol r = (digit_or_error h i oh >>= (λ a. digit_or_error l (i + 1) ol >>= (λ b. Ok (a * 16 + b)))) >>= (λ byte. r >>= (λ bs. Ok (byte ∷ bs)))

pair_to : (h l i : ℕ) (rest bytes : List ℕ) (oh ol : Option ℕ) (r : Result (List ℕ) FromHexError) → hex_digit_value h ≡ oh → hex_digit_value l ≡ ol → ((bs : List ℕ) → r ≡ Ok bs → SpellsBytes rest bs)
    → pair_after h l i oh ol r ≡ Ok bytes → SpellsBytes (h ∷ l ∷ rest) bytes
pair_to h l i rest bytes (Some a) (Some b) (Ok bs) eh el further e =
    let same : (a * 16 + b) ∷ bs ≡ bytes = cc (e) in
    subst (SpellsBytes (h ∷ l ∷ rest)) same ((a, b, eh, el, refl), further bs refl)
pair_to h l i rest bytes (Some a) (Some b) (Err f) eh el further e = absurd (cc (e))
pair_to h l i rest bytes (Some a) None r eh el further e = absurd (cc (e))
pair_to h l i rest bytes None ol r eh el further e = absurd (cc (e))

bytes_to : (i : ℕ) (digits bytes : List ℕ) → decode_pairs i digits ≡ Ok bytes → SpellsBytes digits bytes
unfolding decode_pairs
bytes_to i [] [] e = tt
bytes_to i [] (b ∷ bs) e = absurd (cc (e))
bytes_to i (d ∷ []) bytes e = absurd (cc (e))
bytes_to i (h ∷ l ∷ rest) bytes e =
    pair_to h l i rest bytes (hex_digit_value h) (hex_digit_value l) (decode_pairs (i + 2) rest) refl refl (λ bs is. bytes_to (i + 2) rest bs is) e

bytes_from : (i : ℕ) (digits bytes : List ℕ) → SpellsBytes digits bytes → decode_pairs i digits ≡ Ok bytes
unfolding decode_pairs
bytes_from i [] [] s = refl
bytes_from i [] (b ∷ bs) s = absurd s
bytes_from i (d ∷ []) bytes s = absurd s
bytes_from i (h ∷ l ∷ rest) [] s = absurd s
bytes_from i (h ∷ l ∷ rest) (byte ∷ bs) s =
    let (a, b, eh, el, is) = s.0 in
    let more = bytes_from (i + 2) rest bs s.1 in
    (λ k. pair_after h l i (eh k) (el k) (more k))
    ∙ ap (λ (x : ℕ). Ok (x ∷ bs)) (sym is)

two_each : (digits bytes : List ℕ) → SpellsBytes digits bytes → length digits ≡ 2 * length bytes
two_each [] [] s = refl
two_each [] (b ∷ bs) s = absurd s
two_each (d ∷ []) bytes s = absurd s
two_each (h ∷ l ∷ rest) [] s = absurd s
two_each (h ∷ l ∷ rest) (byte ∷ bs) s = let more = two_each rest bs s.1 in omega (arith, more)

decoded_to : (digits bytes : List ℕ) → decode_of digits ≡ Ok bytes → SpellsBytes digits bytes
decoded_to digits bytes e = by_length (length digits % 2 == 1) e
  where
    by_length : (b : Bool) → (if b then Err OddLength else decode_pairs 0 digits) ≡ Ok bytes → SpellsBytes digits bytes
    by_length true e = absurd (cc (e))
    by_length false e = bytes_to 0 digits bytes e

decoded_from : (digits bytes : List ℕ) → SpellsBytes digits bytes → decode_of digits ≡ Ok bytes
decoded_from digits bytes s =
    let two = two_each digits bytes s in
    decode_of-even digits (omega arith) ∙ bytes_from 0 digits bytes s

hex_to : (r : Result (List ℕ) FromHexError) (said : List TextNumberOrDependency) → field_values_of_decoded_hex r ≡ Some said → (bytes : List ℕ) × (r ≡ Ok bytes) × (said ≡ text bytes ∷ [])
hex_to (Ok bytes) said e = let same : text bytes ∷ [] ≡ said = cc (e) in (bytes, refl, sym same)
hex_to (Err f) said e = absurd (cc (e))

-- ---- numbers

if_both : (a b : Bool) (m n : ℕ) → (if a && b then Some m else None) ≡ Some n → (a ≡ true) × (b ≡ true) × (m ≡ n)
if_both true true m n e = let same : m ≡ n = cc (e) in (refl, refl, same)
if_both true false m n e = absurd (cc (e))
if_both false b m n e = absurd (cc (e))

alone : (ds : List ℕ) → not (has_superfluous_leading_zero ds) ≡ true → get_or ds 0 0 ≡ 48 → 0 < length ds → length ds ≡ 1
alone [] h z some = absurd (omega arith)
alone (d ∷ ds) h z some = by_rest ds (not-true (has_superfluous_leading_zero (d ∷ ds)) h)
  where
    by_rest : (es : List ℕ) → ((d == 48) && nat_lt 0 (length es)) ≡ false → length (d ∷ es) ≡ 1
    by_rest [] f = refl
    by_rest (e ∷ es) f =
        let yes : ((d == 48) && nat_lt 0 (length (e ∷ es))) ≡ true = and_from (d == 48) (nat_lt 0 (length (e ∷ es))) (eq-eqb d 48 z) (lt-ltb 0 (length (e ∷ es)) (omega arith)) in
        absurd (cc (f, yes))

number_to : (value : List ℕ) (n : ℕ) → decimal_number_without_leading_zeros value ≡ Some n → SpellsNumber value n
number_to value n e =
    let both = if_both (is_decimal_without_leading_zeros value) (nat_lt (digits_value 10 value) (2 ^ 64)) (digits_value 10 value) n e in
    let small : digits_value 10 value < 2 ^ 64 = ltb-true (digits_value 10 value) (2 ^ 64) both.1 in
    let some : 0 < length value = decimal_some value both.0 in
    let parts = and_parts (nat_lt 0 (length value)) (not (has_superfluous_leading_zero value)) (and_parts (nat_lt 0 (length value) && not (has_superfluous_leading_zero value)) (list_all is_ascii_digit value) both.0).0 in
    let is : decimal (digits_value 10 value) ≡ value = decimal-digits_value digits_model value (decimal_digits value both.0) some (λ z. alone value parts.1 z some) small in
    (omega (arith, both.2), sym is ∙ ap decimal both.2)

no_zero : (ds : List ℕ) → 48 < get_or ds 0 0 → not (has_superfluous_leading_zero ds) ≡ true
no_zero [] lt = refl
no_zero (d ∷ ds) lt = ap (λ (b : Bool). not (b && nat_lt 0 (length ds))) (ne_eqb d 48 (omega arith))

no_zero_of : (n : ℕ) → n < 2 ^ 64 → not (has_superfluous_leading_zero (decimal n)) ≡ true
no_zero_of zero small =
    let is : decimal 0 ≡ 48 ∷ [] = decimal-digits_value digits_model (48 ∷ []) refl (omega arith) (λ z. refl) (lit< tt) in
    ap (λ (ds : List ℕ). not (has_superfluous_leading_zero ds)) is
no_zero_of (suc n) small = no_zero (decimal (suc n)) (first_decimal (suc n) (omega arith) small)

number_from : (value : List ℕ) (n : ℕ) → SpellsNumber value n → decimal_number_without_leading_zeros value ≡ Some n
number_from value n s =
    let ds : List ℕ = decimal n in
    let read : digits_value 10 ds ≡ n = digits_value-decimal digits_model n s.0 in
    let good : is_decimal_without_leading_zeros ds ≡ true =
    and_from (nat_lt 0 (length ds) && not (has_superfluous_leading_zero ds)) (list_all is_ascii_digit ds)
    (and_from (nat_lt 0 (length ds)) (not (has_superfluous_leading_zero ds)) (lt-ltb 0 (length ds) (decimal_nonempty n s.0)) (no_zero_of n s.0))
    (digits_decimal digits_model n s.0) in
    let small : nat_lt (digits_value 10 ds) (2 ^ 64) ≡ true = lt-ltb (digits_value 10 ds) (2 ^ 64) (omega (arith, read, s.0)) in
    ap decimal_number_without_leading_zeros s.1
    ∙ ((λ k. if good k && small k then Some (digits_value 10 ds) else None) ∙ ap Some read)

numbers_to : (o : Option ℕ) (said : List TextNumberOrDependency) → option_map (λ n. number n ∷ []) o ≡ Some said → (n : ℕ) × (o ≡ Some n) × (said ≡ number n ∷ [])
numbers_to (Some n) said e = let same : number n ∷ [] ≡ said = cc (e) in (n, refl, sym same)
numbers_to None said e = absurd (cc (e))

says_number_to : (value : List ℕ) (said : List TextNumberOrDependency) → option_map (λ n. number n ∷ []) (decimal_number_without_leading_zeros value) ≡ Some said → SaysNumber value said
says_number_to value said e =
    let (n, is, says) = numbers_to (decimal_number_without_leading_zeros value) said e in
    (n, number_to value n is, says)

says_number_from : (value : List ℕ) (said : List TextNumberOrDependency) → SaysNumber value said → option_map (λ n. number n ∷ []) (decimal_number_without_leading_zeros value) ≡ Some said
says_number_from value said (n, spells, says) = ap (option_map (λ n. number n ∷ [])) (number_from value n spells) ∙ ap Some (sym says)

-- ---- parts between spaces

some_test : (part : List ℕ) → is_nonempty part ≡ not (length part == 0)
some_test [] = refl
some_test (b ∷ bs) = lt-ltb 0 (length (b ∷ bs)) (omega arith) ∙ sym (ap not (ne_eqb (length (b ∷ bs)) 0 (omega arith)))

same_filter : (parts : List (List ℕ)) → filter is_nonempty parts ≡ filter (λ part. not (length part == 0)) parts
same_filter [] = refl
same_filter (p ∷ ps) = λ k. cond (some_test p k) (p ∷ same_filter ps k) (same_filter ps k)

same_parts : (value : List ℕ) → nonempty_parts_between_spaces value ≡ spaced_parts value
same_parts value = same_filter (slice_split (λ b. b == 32) value)

-- ---- dependencies

module _ (spelled : (t : List ℕ) (d : Dependency) → dependency_of t ≡ Some d → SpellsDependency t d) (read : (t : List ℕ) (d : Dependency) → SpellsDependency t d → dependency_of t ≡ Some d) where
  untagged_by : (d e : Dependency) (o : Option (List ℕ)) → d.tag ≡ o → (if is_some o then None else Some d) ≡ Some e → (d ≡ e) × (e.tag ≡ None)
  untagged_by d e None is k = let same : d ≡ e = cc (k) in (same, ap (λ (x : Dependency). x.tag) (sym same) ∙ is)
  untagged_by d e (Some t) is k = absurd (cc (k))

  need_by : (o : Option Dependency) (d : Dependency) → option_and_then dependency_if_untagged o ≡ Some d → (o ≡ Some d) × (d.tag ≡ None)
  need_by None d e = absurd (cc (e))
  need_by (Some x) d e = let both = untagged_by x d x.tag refl e in (ap Some both.0, both.1)

  needs_to : (parts : List (List ℕ)) (said : List TextNumberOrDependency) → dependency_values_of_parts parts ≡ Some said → SpellDependencies parts said
  needs_to [] said e = let same : [] ≡ said = cc (e) in subst (SpellDependencies []) same tt
  needs_to (part ∷ parts) said e = by_both (untagged_dependency_in part) (dependency_values_of_parts parts) refl (needs_to parts) e
    where
      by_both : (od : Option Dependency) (os : Option (List TextNumberOrDependency)) → untagged_dependency_in part ≡ od → ((more : List TextNumberOrDependency) → os ≡ Some more → SpellDependencies parts more)
          → dependency_value_and_others od os ≡ Some said → SpellDependencies (part ∷ parts) said
      by_both (Some d) (Some more) is further e =
          let same : need d ∷ more ≡ said = cc (e) in
          let one = need_by (dependency_of part) d is in
          subst (SpellDependencies (part ∷ parts)) same ((spelled part d one.0, one.1), further more refl)
      by_both (Some d) None is further e = absurd (cc (e))
      by_both None os is further e = absurd (cc (e))

  needs_from : (parts : List (List ℕ)) (said : List TextNumberOrDependency) → SpellDependencies parts said → dependency_values_of_parts parts ≡ Some said
  needs_from [] [] s = refl
  needs_from [] (x ∷ xs) s = absurd s
  needs_from (part ∷ parts) [] s = absurd s
  needs_from (part ∷ parts) (text bytes ∷ xs) s = absurd s
  needs_from (part ∷ parts) (number n ∷ xs) s = absurd s
  needs_from (part ∷ parts) (need d ∷ xs) s =
      let one : untagged_dependency_in part ≡ Some d = ap (option_and_then dependency_if_untagged) (read part d s.0.0) ∙ ap (λ (o : Option (List ℕ)). if is_some o then None else Some d) s.0.1 in
      let more = needs_from parts xs s.1 in
      λ k. dependency_value_and_others (one k) (more k)

  says_needs_to : (value : List ℕ) (said : List TextNumberOrDependency) → dependency_values_of_parts (nonempty_parts_between_spaces value) ≡ Some said → SaysDependencies value said
  says_needs_to value said e = needs_to (spaced_parts value) said (ap dependency_values_of_parts (sym (same_parts value)) ∙ e)

  says_needs_from : (value : List ℕ) (said : List TextNumberOrDependency) → SaysDependencies value said → dependency_values_of_parts (nonempty_parts_between_spaces value) ≡ Some said
  says_needs_from value said s = ap dependency_values_of_parts (same_parts value) ∙ needs_from (spaced_parts value) said s

  -- ---- field by field

  tags_to : (value : List ℕ) (said : List TextNumberOrDependency) → Some (text_values (nonempty_parts_between_spaces value)) ≡ Some said → said ≡ map text (spaced_parts value)
  tags_to value said e = let same : text_values (nonempty_parts_between_spaces value) ≡ said = cc (e) in sym same ∙ ap (map text) (same_parts value)

  tags_from : (value : List ℕ) (said : List TextNumberOrDependency) → said ≡ map text (spaced_parts value) → Some (text_values (nonempty_parts_between_spaces value)) ≡ Some said
  tags_from value said e = ap Some (ap (map text) (same_parts value) ∙ sym e)

  hex_said_to : (value : List ℕ) (said : List TextNumberOrDependency) → field_values_of_decoded_hex (decode_of value) ≡ Some said → (bytes : List ℕ) × SpellsBytes value bytes × (said ≡ text bytes ∷ [])
  hex_said_to value said e =
      let (bytes, is, says) = hex_to (decode_of value) said e in
      (bytes, decoded_to value bytes is, says)

  hex_said_from : (value : List ℕ) (said : List TextNumberOrDependency) → (bytes : List ℕ) × SpellsBytes value bytes × (said ≡ text bytes ∷ []) → field_values_of_decoded_hex (decode_of value) ≡ Some said
  hex_said_from value said (bytes, spells, says) = ap field_values_of_decoded_hex (decoded_from value bytes spells) ∙ ap Some (sym says)

  pub says_to : (f : Field) (value : List ℕ) (said : List TextNumberOrDependency) → values_by_kind (kind_of_field f) value ≡ Some said → FieldTextGivesValues f value said
  says_to Fields.Name value said e = text_to (is_package_name value) value said e
  says_to Fields.Version value said e = text_to (is_version value) value said e
  says_to Fields.Description value said e = (text_to true value said e).1
  says_to Fields.Arch value said e = (text_to true value said e).1
  says_to Fields.License value said e = (text_to true value said e).1
  says_to Fields.Origin value said e = (text_to true value said e).1
  says_to Fields.Maintainer value said e = (text_to true value said e).1
  says_to Fields.Url value said e = (text_to true value said e).1
  says_to Fields.RepoCommit value said e = hex_said_to value said e
  says_to Fields.BuildTime value said e = says_number_to value said e
  says_to Fields.ProviderPriority value said e = says_number_to value said e
  says_to Fields.ReplacesPriority value said e = says_number_to value said e
  says_to Fields.Depends value said e = says_needs_to value said e
  says_to Fields.Provides value said e = says_needs_to value said e
  says_to Fields.Replaces value said e = says_needs_to value said e
  says_to Fields.InstallIf value said e = says_needs_to value said e
  says_to Fields.Recommends value said e = says_needs_to value said e
  says_to Fields.Tags value said e = tags_to value said e

  pub says_from : (f : Field) (value : List ℕ) (said : List TextNumberOrDependency) → FieldTextGivesValues f value said → values_by_kind (kind_of_field f) value ≡ Some said
  says_from Fields.Name value said s = text_from (is_package_name value) value said s.0 s.1
  says_from Fields.Version value said s = text_from (is_version value) value said s.0 s.1
  says_from Fields.Description value said s = text_from true value said refl s
  says_from Fields.Arch value said s = text_from true value said refl s
  says_from Fields.License value said s = text_from true value said refl s
  says_from Fields.Origin value said s = text_from true value said refl s
  says_from Fields.Maintainer value said s = text_from true value said refl s
  says_from Fields.Url value said s = text_from true value said refl s
  says_from Fields.RepoCommit value said s = hex_said_from value said s
  says_from Fields.BuildTime value said s = says_number_from value said s
  says_from Fields.ProviderPriority value said s = says_number_from value said s
  says_from Fields.ReplacesPriority value said s = says_number_from value said s
  says_from Fields.Depends value said s = says_needs_from value said s
  says_from Fields.Provides value said s = says_needs_from value said s
  says_from Fields.Replaces value said s = says_needs_from value said s
  says_from Fields.InstallIf value said s = says_needs_from value said s
  says_from Fields.Recommends value said s = says_needs_from value said s
  says_from Fields.Tags value said s = tags_from value said s

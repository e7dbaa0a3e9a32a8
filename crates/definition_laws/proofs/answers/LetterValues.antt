-- What the value of a line of a text database says to the field of its letter.
use Rattle.std.proofs.Common.{◌≡◌, inl, inr, ◌∙◌, ℕ, Bool, true, false, eqb, List, [], ◌∷◌, length, Option, Some, None, Result, Ok, Err, refl, ap, sym, subst}
use Rattle.std.specs.Prelude.{◌==◌, ◌&&◌, if◌then◌else◌, option_map}
use Rattle.std.proofs.lemmas.Bool.{eqb-true}
use Rattle.base64.specs.Engines.{standard}
use Rattle.base64.specs.GeneralPurpose.{decode_of as base64_bytes}
use Rattle.base64.specs.declared.decode.DecodeError.{DecodeError}
use Rattle.hex.specs.Hex.{decode_of as hex_bytes}
use Rattle.hex.specs.declared.error.FromHexError.{FromHexError}
use Rattle.dep_core.specs.Dependency.{Dependency}
use Rattle.dep_core.specs.Reading.{dependency_of}
use Rattle.dep_core.specs.Spelling.{SpellsDependency}
use Rattle.change_outcome.specs.make_info.Fields.{TextNumberOrDependency, text, kind_of_field, field_values_of_decoded_hex, values_by_kind}
use Rattle.change_outcome.specs.make_info.declared.field.Field.{Field}
use Rattle.change_outcome.specs.make_info.declared.field.Field.TheVariants as Options
use Rattle.definition_laws.specs.making.OptionGrammar.{FieldTextGivesValues}
use Rattle.definition_laws.proofs.making.FieldValues.{says_from, says_to}
use Rattle.change_outcome.specs.v2_core.InfoFields.{field_of_letter, grammar_of, letter_of}
use Rattle.change_outcome.specs.v2_core.InfoValues.{commit_values, sha1_in_text, bytes_if_twenty, values_under_grammar}
use Rattle.change_outcome.specs.v2_core.Lines.{info_line, record_line_or_skipped_if_letter_unknown}
use Rattle.change_outcome.specs.v2_core.declared.field.InfoField.{InfoField}
use Rattle.change_outcome.specs.v2_core.declared.field.InfoField.TheVariants as Letters
use Rattle.definition_laws.specs.answers.TextLetters.{GivesCommit, GivesHash, LineValueGivesFieldValues, letter_line, line_letter}

-- ---- the meaning of a line of a letter

pub by_letter : (f : InfoField) (value : List ℕ) → record_line_or_skipped_if_letter_unknown (letter_of f) value ≡ option_map (info_line f) (values_under_grammar (grammar_of f) value)
unfolding record_line_or_skipped_if_letter_unknown field_of_letter
by_letter Letters.Hashes value = refl
by_letter Letters.Name value = refl
by_letter Letters.Version value = refl
by_letter Letters.Arch value = refl
by_letter Letters.Description value = refl
by_letter Letters.Url value = refl
by_letter Letters.License value = refl
by_letter Letters.Origin value = refl
by_letter Letters.Maintainer value = refl
by_letter Letters.InstalledSize value = refl
by_letter Letters.BuildTime value = refl
by_letter Letters.ProviderPriority value = refl
by_letter Letters.ReplacesPriority value = refl
by_letter Letters.RepoCommit value = refl
by_letter Letters.Depends value = refl
by_letter Letters.Provides value = refl
by_letter Letters.Replaces value = refl
by_letter Letters.InstallIf value = refl

pub letter_is : (f : InfoField) (value : List ℕ) → letter_line (line_letter f) value ≡ letter_of f ∷ 58 ∷ value
letter_is Letters.Hashes value = refl
letter_is Letters.Name value = refl
letter_is Letters.Version value = refl
letter_is Letters.Arch value = refl
letter_is Letters.Description value = refl
letter_is Letters.Url value = refl
letter_is Letters.License value = refl
letter_is Letters.Origin value = refl
letter_is Letters.Maintainer value = refl
letter_is Letters.InstalledSize value = refl
letter_is Letters.BuildTime value = refl
letter_is Letters.ProviderPriority value = refl
letter_is Letters.ReplacesPriority value = refl
letter_is Letters.RepoCommit value = refl
letter_is Letters.Depends value = refl
letter_is Letters.Provides value = refl
letter_is Letters.Replaces value = refl
letter_is Letters.InstallIf value = refl

-- ---- what a value says

if_twenty : (b : Bool) (bytes found : List ℕ) → length bytes ≡ length bytes → (if b then Some bytes else None) ≡ Some found → (b ≡ true) × (bytes ≡ found)
if_twenty true bytes found n e = (refl, cc)
if_twenty false bytes found n e = absurd cc

twenty : (r : Result (List ℕ) DecodeError) (found : List ℕ) → bytes_if_twenty r ≡ Some found → (r ≡ Ok found) × (length found ≡ 20)
twenty (Err error) found e = absurd cc
twenty (Ok bytes) found e =
    let t = if_twenty (eqb (length bytes) 20) bytes found refl e in
    (ap Ok t.1, ap length (sym t.1) ∙ eqb-true (length bytes) 20 t.0)

chosen_hash : (a b : Bool) (q one : ℕ) (o : Option (List ℕ)) (found : List ℕ) → (q == 81) ≡ a → (one == 49) ≡ b → (if a && b then o else None) ≡ Some found → (q ≡ 81) × (one ≡ 49) × (o ≡ Some found)
chosen_hash true true q one o found f g e = (eqb-true q 81 f, eqb-true one 49 g, e)
chosen_hash true false q one o found f g e = absurd cc
chosen_hash false b q one o found f g e = absurd cc

hash_says : (value bytes : List ℕ) → sha1_in_text value ≡ Some bytes → GivesHash value (text bytes ∷ [])
hash_says [] bytes e = absurd cc
hash_says (q ∷ []) bytes e = absurd cc
hash_says (q ∷ one ∷ encoded) bytes e =
    let (is_q, is_one, is) = chosen_hash (q == 81) (one == 49) q one (bytes_if_twenty (base64_bytes standard encoded)) bytes refl refl e in
    let t = twenty (base64_bytes standard encoded) bytes is in
    (encoded, bytes, ap (λ (x : ℕ). x ∷ one ∷ encoded) is_q ∙ ap (λ (x : ℕ). 81 ∷ x ∷ encoded) is_one, t.0, t.1, refl)

mapped : {A : Type 0} (f : A → List TextNumberOrDependency) (o : Option A) (said : List TextNumberOrDependency) → option_map f o ≡ Some said → (x : A) × (o ≡ Some x) × (f x ≡ said)
mapped f None said e = absurd cc
mapped f (Some x) said e = (x, refl, cc)

module _ (spelled : (t : List ℕ) (d : Dependency) → dependency_of t ≡ Some d → SpellsDependency t d) (read : (t : List ℕ) (d : Dependency) → SpellsDependency t d → dependency_of t ≡ Some d) where
  as_option : (f : Field) (value : List ℕ) (said : List TextNumberOrDependency) → values_by_kind (kind_of_field f) value ≡ Some said → FieldTextGivesValues f value said
  as_option f value said e = says_to spelled read f value said e

  commit : (value : List ℕ) (r : Result (List ℕ) FromHexError) (said : List TextNumberOrDependency) → hex_bytes value ≡ r → commit_values r ≡ said → GivesCommit value said
  commit value (Ok bytes) said is e =
      inl (as_option Options.RepoCommit value said (ap field_values_of_decoded_hex is ∙ ap Some e))
  commit value (Err error) said is e = inr (
    λ given says. let t : None ≡ Some given = sym (ap field_values_of_decoded_hex is) ∙ says_from spelled read Options.RepoCommit value given says in absurd cc,
    sym e,
  )

  some_commit : (value said : List TextNumberOrDependency) → Some value ≡ Some said → value ≡ said
  some_commit value said e = cc

  pub says : (f : InfoField) (value : List ℕ) (said : List TextNumberOrDependency) → values_under_grammar (grammar_of f) value ≡ Some said → LineValueGivesFieldValues f value said
  says Letters.Hashes value said e =
      let (bytes, is, same) = mapped (λ (b : List ℕ). text b ∷ []) (sha1_in_text value) said e in
      subst (GivesHash value) same (hash_says value bytes is)
  says Letters.InstalledSize value said e = as_option Options.BuildTime value said e
  says Letters.RepoCommit value said e = commit value (hex_bytes value) said refl (some_commit _ said e)
  says Letters.Name value said e = as_option Options.Name value said e
  says Letters.Version value said e = as_option Options.Version value said e
  says Letters.Arch value said e = as_option Options.Arch value said e
  says Letters.Description value said e = as_option Options.Description value said e
  says Letters.Url value said e = as_option Options.Url value said e
  says Letters.License value said e = as_option Options.License value said e
  says Letters.Origin value said e = as_option Options.Origin value said e
  says Letters.Maintainer value said e = as_option Options.Maintainer value said e
  says Letters.BuildTime value said e = as_option Options.BuildTime value said e
  says Letters.ProviderPriority value said e = as_option Options.ProviderPriority value said e
  says Letters.ReplacesPriority value said e = as_option Options.ReplacesPriority value said e
  says Letters.Depends value said e = as_option Options.Depends value said e
  says Letters.Provides value said e = as_option Options.Provides value said e
  says Letters.Replaces value said e = as_option Options.Replaces value said e
  says Letters.InstallIf value said e = as_option Options.InstallIf value said e

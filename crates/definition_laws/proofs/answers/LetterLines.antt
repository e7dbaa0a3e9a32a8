-- What the lines of a record give to the fields of its package.
use Rattle.std.proofs.Common.{◌≡◌, inl, inr, ◌∙◌, ℕ, Bool, true, false, cond, List, [], ◌∷◌, ◌++◌, Option, Some, None, refl, ap, sym, subst, append-nil}
use Rattle.std.specs.Prelude.{◌==◌, if◌then◌else◌, option_map}
use Rattle.std.specs.List.{flat_map}
use Rattle.std.proofs.lemmas.Bool.{eqb-true}
use Rattle.dep_core.specs.Dependency.{Dependency}
use Rattle.dep_core.specs.Reading.{dependency_of}
use Rattle.dep_core.specs.Spelling.{SpellsDependency}
use Rattle.change_outcome.specs.make_info.Fields.{TextNumberOrDependency}
use Rattle.change_outcome.specs.v2_core.InfoFields.{field_of_letter, grammar_of, info_field_among, info_fields, letter_of}
use Rattle.change_outcome.specs.v2_core.InfoValues.{sha1_in_text, values_under_grammar}
use Rattle.change_outcome.specs.v2_core.Lines.{RecordLine, info_line, folder_line, folder_access_line, file_line, file_access_line, file_hash_line, other_line, folder_line_if_path, file_line_if_one_part, info_line_or_skipped_if_no_field, record_line_or_skipped_if_letter_unknown, record_line_of}
use Rattle.change_outcome.specs.v2_core.Accesses.{access_in}
use Rattle.change_outcome.specs.v2_core.declared.field.InfoField.{InfoField}
use Rattle.change_outcome.specs.v2_core.Database.{values_if_line_of_field}
use Rattle.change_outcome.specs.v2_core.Records.{InfoLine, info_line_from_parts}
use Rattle.definition_laws.specs.answers.TextLetters.{LineValueGivesFieldValues, LineGivesFieldValues}
use Rattle.std.proofs.lemmas.Bool.{eq-eqb}
use Rattle.tell_core.specs.adb_schema.Rules.{is_folder_name, is_one_part}
use Rattle.definition_laws.proofs.answers.LetterValues.{by_letter, letter_is, says}

-- ---- which lines are of the information

found_field : (among : List InfoField) (letter : ℕ) (g : InfoField) → info_field_among among letter ≡ Some g → letter_of g ≡ letter
found_field [] letter g e = absurd cc
found_field (f ∷ fs) letter g e = go (letter_of f == letter) refl e (found_field fs letter g)
  where
    go : (b : Bool) → (letter_of f == letter) ≡ b → cond b (Some f) (info_field_among fs letter) ≡ Some g → (info_field_among fs letter ≡ Some g → letter_of g ≡ letter) → letter_of g ≡ letter
    go true t e more =
        let same : f ≡ g = cc in
        ap letter_of (sym same) ∙ eqb-true (letter_of f) letter t
    go false t e more = more e

-- what is known of a line of the information
abbrev IsInfo : ℕ → List ℕ → InfoField → List TextNumberOrDependency → Type 0
IsInfo letter value g v = (letter ≡ letter_of g) × (values_under_grammar (grammar_of g) value ≡ Some v)

info_by_line : (letter : ℕ) (o : Option InfoField) (value : List ℕ) (g : InfoField) (v : List TextNumberOrDependency) → field_of_letter letter ≡ o → info_line_or_skipped_if_no_field o value ≡ Some (info_line g v) → IsInfo letter value g v
unfolding field_of_letter
info_by_line letter None value g v is e = absurd cc
info_by_line letter (Some f) value g v is e = go (values_under_grammar (grammar_of f) value) refl e
  where
    go : (o : Option (List TextNumberOrDependency)) → values_under_grammar (grammar_of f) value ≡ o → option_map (info_line f) o ≡ Some (info_line g v) → IsInfo letter value g v
    go None said e = absurd cc
    go (Some u) said e =
        let same : info_line f u ≡ info_line g v = cc in
        let field : f ≡ g = cc in
        let values : u ≡ v = cc in
        (sym (found_field info_fields letter g (is ∙ ap Some field)), subst (λ (x : InfoField). values_under_grammar (grammar_of x) value ≡ Some v) field (said ∙ ap Some values))

-- a meaning that is no line of the information
abbrev IsElse : Option RecordLine → Type 0
IsElse o = (g : InfoField) (v : List TextNumberOrDependency) → o ≡ Some (info_line g v) → ⊥

else_by : (b : Bool) (l : RecordLine) → IsElse (Some l) → IsElse (if b then Some l else None)
else_by true l other g v e = other g v e
else_by false l other g v e = absurd cc

else_of : {A : Type 0} (line : A → RecordLine) → ((a : A) → IsElse (Some (line a))) → (o : Option A) → IsElse (option_map line o)
else_of line other None g v e = absurd cc
else_of line other (Some a) g v e = other a g v e

after_else : (b : Bool) (o next : Option RecordLine) (g : InfoField) (v : List TextNumberOrDependency) → IsElse o → (if b then o else next) ≡ Some (info_line g v) → next ≡ Some (info_line g v)
after_else true o next g v other e = absurd (other g v e)
after_else false o next g v other e = e

info_found : (letter : ℕ) (value : List ℕ) (g : InfoField) (v : List TextNumberOrDependency) → record_line_or_skipped_if_letter_unknown letter value ≡ Some (info_line g v) → IsInfo letter value g v
unfolding record_line_or_skipped_if_letter_unknown
info_found letter value g v e =
    info_by_line letter (field_of_letter letter) value g v refl
    (after_else (letter == 90) (option_map file_hash_line (sha1_in_text value)) (info_line_or_skipped_if_no_field (field_of_letter letter) value) g v (else_of file_hash_line (λ a g v e. absurd cc) (sha1_in_text value))
    (after_else (letter == 97) (option_map file_access_line (access_in value)) _ g v (else_of file_access_line (λ a g v e. absurd cc) (access_in value))
    (after_else (letter == 82) (file_line_if_one_part value) _ g v (else_by (is_one_part value) (file_line value) (λ g v e. absurd cc))
    (after_else (letter == 77) (option_map folder_access_line (access_in value)) _ g v (else_of folder_access_line (λ a g v e. absurd cc) (access_in value))
    (after_else (letter == 70) (folder_line_if_path value) _ g v (else_by (is_folder_name value) (folder_line value) (λ g v e. absurd cc)) e)))))

-- ---- the values of a line

-- the lines of the information that a line is: one or none
abbrev pub infos : Option RecordLine → List InfoLine
infos None = []
infos (Some (info_line f values)) = info_line_from_parts f values ∷ []
infos (Some (folder_line name)) = []
infos (Some (folder_access_line a)) = []
infos (Some (file_line name)) = []
infos (Some (file_access_line a)) = []
infos (Some (file_hash_line hash)) = []
infos (Some other_line) = []

abbrev pub values_of : InfoField → List InfoLine → List TextNumberOrDependency
values_of f info = flat_map (values_if_line_of_field f) info

-- the values that a line gives to a field
abbrev pub given : InfoField → List ℕ → List TextNumberOrDependency
given f line = values_of f (infos (record_line_of line))

own_letter : (f : InfoField) → (letter_of f == letter_of f) ≡ true
own_letter f = eq-eqb (letter_of f) (letter_of f) refl

pub own_values : (f : InfoField) (v : List TextNumberOrDependency) → values_of f (info_line_from_parts f v ∷ []) ≡ v
own_values f v = ap (λ (b : Bool). (if b then v else []) ++ []) (own_letter f) ∙ append-nil v

pub other_values : (f g : InfoField) (v : List TextNumberOrDependency) → (letter_of g == letter_of f) ≡ false → values_of f (info_line_from_parts g v ∷ []) ≡ []
other_values f g v e = ap (λ (b : Bool). (if b then v else []) ++ []) e

marked : (mark : ℕ) (o : Option RecordLine) (l : RecordLine) (b : Bool) → (mark == 58) ≡ b → (if b then o else None) ≡ Some l → (mark ≡ 58) × (o ≡ Some l)
marked mark o l true t e = (eqb-true mark 58 t, e)
marked mark o l false t e = absurd cc

same_head : (x y : ℕ) (xs ys : List ℕ) → x ∷ xs ≡ y ∷ ys → x ≡ y
same_head x y xs ys e = cc

module _ (spelled : (t : List ℕ) (d : Dependency) → dependency_of t ≡ Some d → SpellsDependency t d) (read : (t : List ℕ) (d : Dependency) → SpellsDependency t d → dependency_of t ≡ Some d) where
  own_line : (f : InfoField) (value : List ℕ) (l : RecordLine) (o : Option (List TextNumberOrDependency)) → values_under_grammar (grammar_of f) value ≡ o → option_map (info_line f) o ≡ Some l → LineValueGivesFieldValues f value (values_of f (infos (Some l)))
  own_line f value l None is e = absurd cc
  own_line f value l (Some v) is e =
      let same : info_line f v ≡ l = cc in
      subst (λ (x : RecordLine). LineValueGivesFieldValues f value (values_of f (infos (Some x)))) same
      (subst (LineValueGivesFieldValues f value) (sym (own_values f v)) (says spelled read f value v is))

  none_of_line : (f : InfoField) (letter : ℕ) (value : List ℕ) (l : RecordLine) → (letter == letter_of f) ≡ false → record_line_or_skipped_if_letter_unknown letter value ≡ Some l → values_of f (infos (Some l)) ≡ []
  none_of_line f letter value (info_line g v) other e =
      let is = (info_found letter value g v e).0 in
      other_values f g v (ap (λ (n : ℕ). n == letter_of f) (sym is) ∙ other)
  none_of_line f letter value (folder_line name) other e = refl
  none_of_line f letter value (folder_access_line a) other e = refl
  none_of_line f letter value (file_line name) other e = refl
  none_of_line f letter value (file_access_line a) other e = refl
  none_of_line f letter value (file_hash_line hash) other e = refl
  none_of_line f letter value other_line other e = refl

  says_by : (f : InfoField) (letter : ℕ) (value : List ℕ) (l : RecordLine) (b : Bool) → (letter == letter_of f) ≡ b → record_line_or_skipped_if_letter_unknown letter value ≡ Some l → LineGivesFieldValues f (letter ∷ 58 ∷ value) (values_of f (infos (Some l)))
  says_by f letter value l true t e =
      let same : letter ≡ letter_of f = eqb-true letter (letter_of f) t in
      inl (
        value,
        ap (λ (n : ℕ). n ∷ 58 ∷ value) same ∙ sym (letter_is f value),
        own_line f value l (values_under_grammar (grammar_of f) value) refl (sym (by_letter f value) ∙ ap (λ (n : ℕ). record_line_or_skipped_if_letter_unknown n value) (sym same) ∙ e),
      )
  says_by f letter value l false t e = inr (
    λ other is.
        let same : letter ≡ letter_of f = same_head letter (letter_of f) (58 ∷ value) (58 ∷ other) (is ∙ letter_is f other) in
        let yes : (letter == letter_of f) ≡ true = eq-eqb letter (letter_of f) same in
        absurd cc,
    none_of_line f letter value l t e,
  )

  pub one_line : (f : InfoField) (line : List ℕ) (l : RecordLine) → record_line_of line ≡ Some l → LineGivesFieldValues f line (given f line)
  one_line f [] l e = absurd cc
  one_line f (letter ∷ []) l e = absurd cc
  one_line f (letter ∷ mark ∷ value) l e =
      let (is, by) = marked mark (record_line_or_skipped_if_letter_unknown letter value) l (mark == 58) refl e in
      subst (λ (o : Option RecordLine). LineGivesFieldValues f (letter ∷ mark ∷ value) (values_of f (infos o))) (sym e)
      (subst (λ (m : ℕ). LineGivesFieldValues f (letter ∷ m ∷ value) (values_of f (infos (Some l)))) (sym is) (says_by f letter value l (letter == letter_of f) refl by))

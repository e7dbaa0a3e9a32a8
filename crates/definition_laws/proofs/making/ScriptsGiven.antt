-- The scripts of a package are those that options give.
use Rattle.std.proofs.Common.{◌≡◌, inl, inr, ℕ, Bool, true, false, if◌then◌else◌, List, [], ◌∷◌, bytes_eq, Some, Ok, refl, ap, sym, subst, ◌∙◌}
use Rattle.std.proofs.lemmas.Slice.Eq.{bytes_eq-Decides}
use Rattle.make_core.specs.adb_fields.FirstPair.{IsIn}
use Rattle.adb_view.proofs.ValueEntries.{nth_obj}
use Rattle.adb_view.specs.declared.tables.Which.TheVariants.{Scripts}
use Rattle.adb_view.specs.Plain.{Plain, blob_or_null}
use Rattle.command_core.specs.Files.{without_one_leading_dot_slash}
use Rattle.command_core.specs.Values.{script_file, script_type, script_types}
use Rattle.command_core.specs.declared.values.OptionValue.{OptionValue}
use Rattle.make_core.specs.make_info.Reads.{Reads}
use Rattle.make_core.specs.package_files.Package.{Script, script_fields, script_bytes_of_field, value_of_scripts}
use Rattle.make_core.specs.package_files.Sources.{found_bytes_or_missing, script_at, script_with, scripts_from_read}
use Rattle.make_core.proofs.ListedNames.{AllOf, after_ok, each_read}
use Rattle.make_core.proofs.PackageFolder.{found_is}
use Rattle.definition_laws.specs.making.NamedFields.{field_named}
use Rattle.definition_laws.specs.making.ScriptFiles.{IsNotGiven, IsScriptOfOptionsOrNull}

module _ (read : Reads) where
  -- an option gives a script of its type, with the bytes that are found
  abbrev IsReadFrom : OptionValue → Script → Type 0
  IsReadFrom v s = (script_type v.text ≡ s.field) × ((n : ℕ) × (read n (without_one_leading_dot_slash (script_file v.text)) ≡ Some s.bytes))

  script_is : (n : ℕ) (v : OptionValue) (s : Script) → script_at read n v ≡ Ok s → IsReadFrom v s
  script_is n v s e =
      let one = after_ok (found_bytes_or_missing v.place (read n (without_one_leading_dot_slash (script_file v.text)))) (λ bytes. Ok (script_with (script_type v.text) bytes)) s e in
      let gives = one.gives in
      let same : script_with (script_type v.text) one.x ≡ s = cc (gives) in
      subst (IsReadFrom v) same (refl, (n, found_is v.place (read n (without_one_leading_dot_slash (script_file v.text))) one.x one.is))

  further : (type : List ℕ) (v : OptionValue) (vs : List OptionValue) (script : Plain) → (script_type v.text ≡ type → ⊥) → IsScriptOfOptionsOrNull read vs type script → IsScriptOfOptionsOrNull read (v ∷ vs) type script
  further type v vs script other (inl (bytes, g, e)) =
      inl (bytes, record { option = g.option; given = inr g.given; of_type = g.of_type; number = g.number; found = g.found }, e)
  further type v vs script other (inr (none, e)) = inr (not_given, e)
    where
      not_given : IsNotGiven (v ∷ vs) type
      not_given o (inl is) t = other (ap (λ (x : OptionValue). script_type x.text) (sym is) ∙ t)
      not_given o (inr more) t = none o more t

  given : (type : List ℕ) (vs : List OptionValue) (ss : List Script) → AllOf IsReadFrom vs ss → IsScriptOfOptionsOrNull read vs type (blob_or_null (script_bytes_of_field ss type))
  given type [] [] all = inr ((λ o h t. absurd h), refl)
  given type [] (s ∷ ss) all = absurd all
  given type (v ∷ vs) [] all = absurd all
  given type (v ∷ vs) (s ∷ ss) all = by_type (bytes_eq s.field type) refl (given type vs ss all.1)
    where
      by_type : (b : Bool) → bytes_eq s.field type ≡ b → IsScriptOfOptionsOrNull read vs type (blob_or_null (script_bytes_of_field ss type))
          → IsScriptOfOptionsOrNull read (v ∷ vs) type (blob_or_null (if b then s.bytes else script_bytes_of_field ss type))
      by_type true e rest =
          let is : s.field ≡ type = (bytes_eq-Decides s.field type).0 e in
          inl (s.bytes, record { option = v; given = inl refl; of_type = all.0.0 ∙ is; number = all.0.1.0; found = all.0.1.1 }, refl)
      by_type false e rest =
          further type v vs (blob_or_null (script_bytes_of_field ss type)) (λ t. let same : bytes_eq s.field type ≡ true = (bytes_eq-Decides s.field type).1 (sym all.0.0 ∙ t) in cc (e, same)) rest

  abbrev Stands : List Script → List ℕ → Type 0
  Stands scripts t = field_named Scripts t (value_of_scripts scripts) ≡ blob_or_null (script_bytes_of_field scripts t)

  script_stands : (scripts : List Script) (type : List ℕ) → IsIn type script_types → Stands scripts type
  script_stands scripts type (inl e) = subst (Stands scripts) (sym e) (nth_obj (script_fields scripts) 0)
  script_stands scripts type (inr (inl e)) = subst (Stands scripts) (sym e) (nth_obj (script_fields scripts) 1)
  script_stands scripts type (inr (inr (inl e))) = subst (Stands scripts) (sym e) (nth_obj (script_fields scripts) 2)
  script_stands scripts type (inr (inr (inr (inl e)))) = subst (Stands scripts) (sym e) (nth_obj (script_fields scripts) 3)
  script_stands scripts type (inr (inr (inr (inr (inl e))))) = subst (Stands scripts) (sym e) (nth_obj (script_fields scripts) 4)
  script_stands scripts type (inr (inr (inr (inr (inr (inl e)))))) = subst (Stands scripts) (sym e) (nth_obj (script_fields scripts) 5)
  script_stands scripts type (inr (inr (inr (inr (inr (inr (inl e))))))) = subst (Stands scripts) (sym e) (nth_obj (script_fields scripts) 6)
  script_stands scripts type (inr (inr (inr (inr (inr (inr (inr h))))))) = absurd h

  pub scripts_given : (values : List OptionValue) (scripts : List Script) (type : List ℕ) → scripts_from_read read 0 values ≡ Ok scripts → IsIn type script_types
      → IsScriptOfOptionsOrNull read values type (field_named Scripts type (value_of_scripts scripts))
  scripts_given values scripts type e h =
      subst (IsScriptOfOptionsOrNull read values type) (sym (script_stands scripts type h))
      (given type values scripts (each_read IsReadFrom (λ v. 1) (script_at read) script_is 0 values scripts e))

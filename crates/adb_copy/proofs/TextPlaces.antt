-- The text of a word is the blob that is read there.
use Rattle.std.proofs.Common.{◌≡◌, ℕ, Bool, true, false, List, [], Option, Some, refl, sym, ap, ◌∙◌, cond, eqb}
use Rattle.std.specs.Prelude.{Ok, unwrap_or}
use Rattle.adb_view.specs.Plain.{Plain, null, blob_or_null, option_of_ok_value, plain_of}
use Rattle.adb_view.specs.Readers.{blob_of}
use Rattle.adb_view.specs.Visits.{or_empty}
use Rattle.adb_view.specs.Schema.{shape_of}
use Rattle.adb_view.specs.Values.{text_in, value_at}
use Rattle.adb_view.specs.declared.tables.Kind.TheVariants as Kinds
use Rattle.adb_view.proofs.ValueEntries.{text_blob}

-- NULL is empty, and any other word has what is found
by_null : {R : Type 0} (value : R → Option Plain) (bytes : R → List ℕ) (is_null : Bool) (read other none found : R) (b : List ℕ)
    → [] ≡ bytes none → bytes found ≡ b → value found ≡ Some (blob_or_null b) → read ≡ cond is_null none other → read ≡ found
    → text_in (unwrap_or (cond is_null (Some null) (value read)) null) ≡ b
by_null value bytes true read other none found b empty same is e h = empty ∙ (ap bytes (sym e ∙ h) ∙ same)
by_null value bytes false read other none found b empty same is e h =
    ap (λ r. text_in (unwrap_or (value r) null)) h ∙ (ap (λ o. text_in (unwrap_or o null)) is ∙ text_blob b)

pub text_read : (p : List ℕ) (w : ℕ) (b : List ℕ) → blob_of p w ≡ Ok b → text_in (value_at p Kinds.Text w) ≡ b
unfolding value_at plain_of shape_of blob_of
text_read p w b e = by_null (option_of_ok_value (λ x. Some (blob_or_null x))) or_empty (eqb w 0) (blob_of p w) _ (Ok []) (Ok b) b refl refl refl refl e

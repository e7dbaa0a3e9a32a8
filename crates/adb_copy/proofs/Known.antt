-- Texts that are known stay blobs of what the draft becomes.
use Rattle.std.proofs.Common.{◌≡◌, ℕ, Bool, true, false, cond, List, Option, Some, refl, sym, ap, subst, ◌∙◌, arith}
use Rattle.std.specs.Ordering.{nat_cmp, is_eq}
use Rattle.std.specs.BTreeMap.{BTreeMap, get}
use Rattle.adb_view.specs.Plain.{Plain, Plains, none, more, trimmed_object_or_null, array_or_null}
use Rattle.adb_view.specs.Values.{text_in, value_at}
use Rattle.adb_view.specs.declared.tables.Kind.TheVariants.{Text}
use Rattle.adb_values.specs.Drafts.{DraftState, draft_with, draft_with_all, draft_with_open_list}
use Rattle.adb_values.specs.Words.{HasBlob}
use Rattle.adb_values.proofs.Words.{has_closed_array, has_closed_object, has_more, has_opened}
use Rattle.adb_copy.specs.Known.{AreRememberedBlobsOfDraft, IsRememberedTextWord}
use Rattle.adb_copy.specs.declared.known_texts.KnownTexts.{KnownTexts}

module _ (payload : List ℕ) (texts : KnownTexts) (d later : DraftState) (known : AreRememberedBlobsOfDraft payload d texts) where
  pub known_more : (v : Plain) → later ≡ draft_with v d → AreRememberedBlobsOfDraft payload later texts
  known_more v e = record { known = λ word x at. has_more v d later _ x (known.known word x at) e; periodic = known.periodic }

  pub known_opened : later ≡ draft_with_open_list d → AreRememberedBlobsOfDraft payload later texts
  known_opened e = record { known = λ word x at. has_opened d later _ x (known.known word x at) e; periodic = known.periodic }

  pub known_closed_array : (vs : Plains) (before : DraftState) → d ≡ draft_with_all vs (draft_with_open_list before) → later ≡ draft_with (array_or_null vs) before → AreRememberedBlobsOfDraft payload later texts
  known_closed_array vs before is e = record { known = λ word x at. has_closed_array vs before d later _ x (known.known word x at) is e; periodic = known.periodic }

  pub known_closed_object : (vs : Plains) (before : DraftState) → d ≡ draft_with_all vs (draft_with_open_list before) → later ≡ draft_with (trimmed_object_or_null vs) before → AreRememberedBlobsOfDraft payload later texts
  known_closed_object vs before is e = record { known = λ word x at. has_closed_object vs before d later _ x (known.known word x at) is e; periodic = known.periodic }

-- some values more
pub known_all : (payload : List ℕ) (texts : KnownTexts) (vs : Plains) (d later : DraftState) → AreRememberedBlobsOfDraft payload d texts → later ≡ draft_with_all vs d → AreRememberedBlobsOfDraft payload later texts
known_all payload texts none d later known e = subst (λ (x : DraftState). AreRememberedBlobsOfDraft payload x texts) (sym e) known
known_all payload texts (more v vs) d later known e =
    known_all payload texts vs (draft_with v d) later (known_more payload texts d (draft_with v d) known v refl) e

-- a text for which a word is kept
pub known_blob : (payload : List ℕ) (texts : KnownTexts) (d : DraftState) → AreRememberedBlobsOfDraft payload d texts → (word x : ℕ) → IsRememberedTextWord payload texts.words word x → HasBlob d (text_in (value_at payload Text word)) x
known_blob payload texts d known word x h = subst (λ (bytes : List ℕ). HasBlob d bytes x) h.same (known.known h.kept x h.has)

-- one text more is known
pub known_inserted : (payload : List ℕ) (old new : BTreeMap ℕ ℕ) (k v : ℕ) (d : DraftState)
    → ((q x : ℕ) → get nat_cmp old q ≡ Some x → HasBlob d (text_in (value_at payload Text q)) x)
    → ((q : ℕ) → get nat_cmp new q ≡ cond (is_eq (nat_cmp k q)) (Some v) (get nat_cmp old q))
    → HasBlob d (text_in (value_at payload Text k)) v
    → (q x : ℕ) → get nat_cmp new q ≡ Some x → HasBlob d (text_in (value_at payload Text q)) x
known_inserted payload old new k v d known updates has q x at = go (is_eq (nat_cmp k q)) refl
  where
    go : (same : Bool) → is_eq (nat_cmp k q) ≡ same → HasBlob d (text_in (value_at payload Text q)) x
    go true e =
        let key : k ≡ q = grind arith in
        let both : ◌≡◌ {A = Option ℕ} (Some v) (Some x) = sym (updates q ∙ ap (λ (b : Bool). cond b (Some v) (get nat_cmp old q)) e) ∙ at in
        let value : v ≡ x = cc in
        subst (λ (y : ℕ). HasBlob d (text_in (value_at payload Text q)) y) value (subst (λ (w : ℕ). HasBlob d (text_in (value_at payload Text w)) v) key has)
    go false e = known q x (sym (updates q ∙ ap (λ (b : Bool). cond b (Some v) (get nat_cmp old q)) e) ∙ at)

-- What is given of the columns, or of what is said of a field.
use Rattle.std.proofs.Common.{◌≡◌, ℕ, ◌+◌, ◌<◌, true, false, cond, List, length, map, get_or, drop, Some, sym, ◌∙◌, ap}
use Rattle.std.proofs.lemmas.Option.{slice_get-get_or}
use Rattle.adb_view.specs.Plain.{Plains, more}
use Rattle.adb_values.specs.Drafts.{DraftState, draft_with, draft_with_all}
use Rattle.adb_values.proofs.Lists.{drop_at}
use Rattle.make_info.specs.declared.information.Item.{Item}
use Rattle.make_info.specs.declared.field.Field.{Field}
use Rattle.make_info.specs.FieldTexts.{is_same_field}
use Rattle.make_info.specs.Information.{plain_value, plain_values_of_field}
use Rattle.make_info.specs.Views.{item_view, value_view}

-- what is said of a field by these entries
abbrev pub said_by : Field → List Item → Plains
said_by f es = plain_values_of_field f (map item_view es)

-- by one entry, and those behind it
abbrev said_from : Field → List Item → ℕ → Item → Plains
said_from f es i e = cond (is_same_field e.field f) (more (plain_value (value_view e.value)) (said_by f (drop (i + 1) es))) (said_by f (drop (i + 1) es))

said_at : (f : Field) (es : List Item) (i : ℕ) (e : Item) → i < length es → e ≡ get_or es i e → said_by f (drop i es) ≡ said_from f es i e
said_at f es i e l h = ap (said_by f) (drop_at es i e (slice_get-get_or es i e l ∙ ap (λ (x : Item). Some x) (sym h)))

module _ (f : Field) (es : List Item) (i : ℕ) (e : Item) (old new whole : DraftState) (l : i < length es) (h : e ≡ get_or es i e) (so : draft_with_all (said_by f (drop i es)) old ≡ whole) where
  -- what an entry of the field says is given
  pub said_more : is_same_field e.field f ≡ true → new ≡ draft_with (plain_value (value_view e.value)) old → draft_with_all (said_by f (drop (i + 1) es)) new ≡ whole
  said_more s one =
      ap (λ (d : DraftState). draft_with_all (said_by f (drop (i + 1) es)) d) one
      ∙ sym (ap (λ (us : Plains). draft_with_all us old) (said_at f es i e l h ∙ ap (λ b. cond b (more (plain_value (value_view e.value)) (said_by f (drop (i + 1) es))) (said_by f (drop (i + 1) es))) s)) ∙ so

  -- another entry says nothing
  pub said_same : is_same_field e.field f ≡ false → new ≡ old → draft_with_all (said_by f (drop (i + 1) es)) new ≡ whole
  said_same s same =
      ap (λ (d : DraftState). draft_with_all (said_by f (drop (i + 1) es)) d) same
      ∙ sym (ap (λ (us : Plains). draft_with_all us old) (said_at f es i e l h ∙ ap (λ b. cond b (more (plain_value (value_view e.value)) (said_by f (drop (i + 1) es))) (said_by f (drop (i + 1) es))) s)) ∙ so

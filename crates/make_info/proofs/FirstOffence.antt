-- The offence that is found is the first one.
use Rattle.std.proofs.Common.{◌≡◌, ℕ, Bool, true, false, List, [], ◌∷◌, ◌++◌, Some, None, refl, ap, sym, ◌∙◌, append_assoc, append-nil, if◌then◌else◌}
use Rattle.command_core.specs.declared.values.OptionValue.{OptionValue}
use Rattle.make_info.specs.FirstOffence.{IsFirstOffencePlaceByOutputLength, HasNoOffendingOptionByOutputLength}
use Rattle.make_info.specs.Information.{first_offence_place_by_output_length_after, offends}

module _ (too_long : Bool) where
  -- behind these, no one of the others offends
  NoneBehind : List OptionValue → List OptionValue → Type 0
  NoneBehind done values = (before : List OptionValue) (v : OptionValue) (after : List OptionValue) → values ≡ before ++ v ∷ after → offends too_long (done ++ before) v ≡ false

  record IsFirstAfter (done values : List OptionValue) (place : ℕ) : Type 0 where
    before : List OptionValue
    value : OptionValue
    after : List OptionValue
    located : values ≡ before ++ value ∷ after
    reported : value.place ≡ place
    bad : offends too_long (done ++ before) value ≡ true
    first : NoneBehind done before

  shifted : (done : List OptionValue) (v : OptionValue) (before : List OptionValue) → (done ++ v ∷ []) ++ before ≡ done ++ v ∷ before
  shifted done v before = append_assoc done (v ∷ []) before

  no_none : (done : List OptionValue) → NoneBehind done []
  unfolding NoneBehind
  no_none done [] v after e = absurd (cc (e))
  no_none done (u ∷ us) v after e = absurd (cc (e))

  one_more : (done : List OptionValue) (v : OptionValue) (values : List OptionValue) → offends too_long done v ≡ false → NoneBehind (done ++ v ∷ []) values → NoneBehind done (v ∷ values)
  unfolding NoneBehind
  one_more done v values good rest [] u after e =
      let same : v ≡ u = cc (e) in
      ap (λ (d : List OptionValue). offends too_long d u) (append-nil done) ∙ ap (offends too_long done) (sym same) ∙ good
  one_more done v values good rest (w ∷ ws) u after e =
      let same : v ≡ w = cc (e) in
      let left : values ≡ ws ++ u ∷ after = cc (e) in
      ap (λ (d : List OptionValue). offends too_long d u) (ap (λ (x : OptionValue). done ++ x ∷ ws) (sym same) ∙ sym (shifted done v ws)) ∙ rest ws u after left

  found : (done values : List OptionValue) (place : ℕ) → first_offence_place_by_output_length_after too_long done values ≡ Some place → IsFirstAfter done values place
  found done [] place e = absurd (cc (e))
  found done (v ∷ vs) place e = by (offends too_long done v) refl (found (done ++ v ∷ []) vs place) e
    where
      by : (b : Bool) → offends too_long done v ≡ b → (first_offence_place_by_output_length_after too_long (done ++ v ∷ []) vs ≡ Some place → IsFirstAfter (done ++ v ∷ []) vs place)
          → (if b then Some v.place else first_offence_place_by_output_length_after too_long (done ++ v ∷ []) vs) ≡ Some place → IsFirstAfter done (v ∷ vs) place
      by true t further e =
          record {
            before = [];
            value = v;
            after = vs;
            located = refl;
            reported = cc (e);
            bad = ap (λ (d : List OptionValue). offends too_long d v) (append-nil done) ∙ t;
            first = no_none done;
          }
      by false t further e =
          let rest = further e in
          record {
            before = v ∷ rest.before;
            value = rest.value;
            after = rest.after;
            located = ap (λ (l : List OptionValue). v ∷ l) rest.located;
            reported = rest.reported;
            bad = ap (λ (d : List OptionValue). offends too_long d rest.value) (sym (shifted done v rest.before)) ∙ rest.bad;
            first = one_more done v rest.before t rest.first;
          }

  none_found : (done values : List OptionValue) → first_offence_place_by_output_length_after too_long done values ≡ None → NoneBehind done values
  none_found done [] e = no_none done
  none_found done (v ∷ vs) e = by (offends too_long done v) refl (none_found (done ++ v ∷ []) vs) e
    where
      by : (b : Bool) → offends too_long done v ≡ b → (first_offence_place_by_output_length_after too_long (done ++ v ∷ []) vs ≡ None → NoneBehind (done ++ v ∷ []) vs)
          → (if b then Some v.place else first_offence_place_by_output_length_after too_long (done ++ v ∷ []) vs) ≡ None → NoneBehind done (v ∷ vs)
      by true t further e = absurd (cc (e))
      by false t further e = one_more done v vs t (further e)

  pub first_is : (values : List OptionValue) (place : ℕ) → first_offence_place_by_output_length_after too_long [] values ≡ Some place → IsFirstOffencePlaceByOutputLength too_long values place
  unfolding NoneBehind
  first_is values place e =
      let is = found [] values place e in
      record { before = is.before; value = is.value; after = is.after; located = is.located; reported = is.reported; offends = is.bad; first = is.first }

  pub none_is : (values : List OptionValue) → first_offence_place_by_output_length_after too_long [] values ≡ None → HasNoOffendingOptionByOutputLength too_long values
  unfolding NoneBehind
  none_is values e = none_found [] values e

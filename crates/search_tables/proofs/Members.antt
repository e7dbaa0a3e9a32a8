-- Lists with the same members.
use Rattle.std.proofs.Common.{◌≡◌, inl, inr, ℕ, List, [], ◌∷◌, ◌++◌, sym, subst, ap, ◌∙◌, append_assoc, append-nil}
use Rattle.pool_core.specs.candidate_core.Options.{IsIn}
use Rattle.search_tables.specs.Reasons.{HasSameMembers, other_members_of_reasons}
use Rattle.search_tables.proofs.Theory.{in_left, in_right, in_append}

pub same_trans : (xs ys zs : List ℕ) → HasSameMembers xs ys → HasSameMembers ys zs → HasSameMembers xs zs
same_trans xs ys zs a b = (λ c h. b.0 c (a.0 c h), λ c h. a.1 c (b.1 c h))

pub same_after : (xs ys zs : List ℕ) → HasSameMembers xs ys → HasSameMembers (xs ++ zs) (ys ++ zs)
same_after xs ys zs a = (
  λ c h. elim (in_append c xs zs h) [ inl l ↦ in_left c ys zs (a.0 c l) | inr r ↦ in_right c ys zs r ],
  λ c h. elim (in_append c ys zs h) [ inl l ↦ in_left c xs zs (a.1 c l) | inr r ↦ in_right c xs zs r ],
)

-- one that is there already adds nothing
pub same_there : (xs : List ℕ) (id : ℕ) → IsIn id xs → HasSameMembers xs (xs ++ id ∷ [])
same_there xs id there = (
  λ c h. in_left c xs (id ∷ []) h,
  λ c h. elim (in_append c xs (id ∷ []) h) [
    | inl a ↦ a
    | inr b ↦ elim b [ inl e ↦ subst (λ (z : ℕ). IsIn z xs) (sym e) there | inr bad ↦ absurd bad ]
  ],
)

-- one more of what is added
pub same_more : (new now old done : List ℕ) (id : ℕ) (more : List ℕ) → HasSameMembers now (old ++ done) → HasSameMembers new (now ++ id ∷ []) → more ≡ done ++ id ∷ [] → HasSameMembers new (old ++ more)
same_more new now old done id more was is e =
    subst (λ (z : List ℕ). HasSameMembers new (old ++ z)) (sym e)
    (subst (λ (z : List ℕ). HasSameMembers new z) (append_assoc old done (id ∷ []))
    (same_trans new (now ++ id ∷ []) ((old ++ done) ++ id ∷ []) is (same_after now (old ++ done) (id ∷ []) was)))

pub same_self : (xs : List ℕ) → HasSameMembers xs (xs ++ [])
same_self xs = subst (λ (z : List ℕ). HasSameMembers xs z) (sym (append-nil xs)) (λ c h. h, λ c h. h)

pub others-append : (ps : List (ℕ × List ℕ)) (p : ℕ × List ℕ) → other_members_of_reasons (ps ++ p ∷ []) ≡ other_members_of_reasons ps ++ p.1
others-append [] p = append-nil p.1
others-append (q ∷ ps) p = ap (λ (z : List ℕ). q.1 ++ z) (others-append ps p) ∙ sym (append_assoc q.1 (other_members_of_reasons ps) p.1)

-- more of what is added, all at once
pub same_more_all : (new now old done next more : List ℕ) → HasSameMembers now (old ++ done) → HasSameMembers new (now ++ next) → more ≡ done ++ next → HasSameMembers new (old ++ more)
same_more_all new now old done next more was is e =
    subst (λ (z : List ℕ). HasSameMembers new (old ++ z)) (sym e)
    (subst (λ (z : List ℕ). HasSameMembers new z) (append_assoc old done next)
    (same_trans new (now ++ next) ((old ++ done) ++ next) is (same_after now (old ++ done) next was)))

-- No path is owned by two members.
use Rattle.std.proofs.Common.{◌≡◌, inl, inr, ℕ, Bool, true, false, List, [], ◌∷◌, map, Option, Some, None, refl, ap, sym, ◌∙◌, true≢false}
use Rattle.std.proofs.lemmas.Bool.{eqb-true}
use Rattle.path_claims.specs.adb_fields.FirstPair.{IsIn}
use Rattle.db_core.specs.Members.{Listing, Member, listings_of_members}
use Rattle.db_core.specs.OwnedListings.{HaveAtMostOneOwnerForEachPath, owned_listings}
use Rattle.path_claims.specs.Claims.{is_owning_member}
use Rattle.file_owners.specs.Owners.{owned_flags_of, owner_of_path}

-- what is kept by flags that a test gives passes the test
passes : (f : Listing → Bool) (ls : List Listing) (l : Listing) → IsIn l (owned_listings ls (map f ls)) → f l ≡ true
passes f [] l h = absurd h
passes f (x ∷ ls) l h = go (passes f ls l) (f x) refl h
  where
    go : (IsIn l (owned_listings ls (map f ls)) → f l ≡ true) → (b : Bool) → f x ≡ b → IsIn l (owned_listings (x ∷ ls) (b ∷ map f ls)) → f l ≡ true
    go rest true e (inl is) = ap f is ∙ e
    go rest true e (inr h) = rest h
    go rest false e h = rest h

pub owner_is : (m : ℕ) (o : Option ℕ) → is_owning_member m o ≡ true → o ≡ Some m
owner_is m None h = absurd (true≢false (sym h))
owner_is m (Some owner) h = ap Some (sym (eqb-true m owner h))

abbrev value_or : ℕ → Option ℕ → ℕ
value_or d None = d
value_or d (Some v) = v

pub owned_once : (members : List Member) → HaveAtMostOneOwnerForEachPath (owned_listings (listings_of_members members) (owned_flags_of members))
unfolding owned_flags_of
owned_once members l k lin kin same =
    let owns : Listing → Bool = λ x. is_owning_member x.place (owner_of_path members x.path) in
    let first = owner_is l.place (owner_of_path members l.path) (passes owns (listings_of_members members) l lin) in
    let second = owner_is k.place (owner_of_path members k.path) (passes owns (listings_of_members members) k kin) in
    ap (value_or 0) (sym first ∙ (ap (owner_of_path members) same ∙ second))

-- The first reserved path, and the first path that no package owns.
use Rattle.std.proofs.Common.{◌≡◌, inl, inr, ◌∙◌, ℕ, zero, ◌+◌, ◌==◌, ◌⊎◌, Bool, true, false, cond, List, [], ◌∷◌, map, Option, Some, None, refl, ap, ap₂, sym, subst, true≢false}
use Rattle.std.specs.Prelude.{not, ◌||◌, bytes_eq, is_none, is_some, option_and_then, option_map, slice_get}
use Rattle.std.specs.Option.{option_map_or}
use Rattle.std.specs.List.{filter, find}
use Rattle.std.specs.Ordering.{is_lt}
use Rattle.std.proofs.lemmas.Bool.{or_left, or_right}
use Rattle.std.proofs.lemmas.Cmp.{nat_list_cmp_total, tied_itself}
use Rattle.std.proofs.lemmas.Slice.Eq.{bytes_eq-Decides}
use Rattle.outcome.specs.adb_fields.FirstPair.{IsIn}
use Rattle.outcome.specs.adb_schema.Reserved.{is_reserved}
use Rattle.base_core.proofs.Rising as Names
use Rattle.outcome.proofs.own_core.InOrder.{from_filter, in_filter, in_sorted, from_sorted}
use Rattle.outcome.specs.own_core.NamesAfter.{added_paths}
use Rattle.outcome.specs.own_core.PlanLists.{first_reserved_added_path_in_byte_order}
use Rattle.outcome.specs.change_outcome.ChangeOutcome.{member_name_at_place}
use Rattle.outcome.specs.db_core.Members.{Listing, Member, listings_of_members, member_name}
use Rattle.outcome.specs.file_owners.Owners.{indexed_claim_of_listing, claims_of_listings_indexed_from, claims_in, first_contested_member_path_in_byte_order, member_beats, owner_of_path, takes_over_if_both_exist}
use Rattle.outcome.specs.file_owners.Replaces.{takes_over}
use Rattle.outcome.proofs.file_owners.Claiming.{owner_is}
use Rattle.base_core.specs.ByteOrder.{bytes_cmp, precedes, smallest_text}
use Rattle.base_core.specs.Sorted.{sorted_by}
use Rattle.base_core.proofs.Smallest.{smallest_first}
use Rattle.base_core.proofs.Sorting.{Each, Rises, ranks, rises_in_order}
use Rattle.base_core.proofs.Numbers.{same_number}
use Rattle.outcome.proofs.own_core.Listings.{IsPlaced, each_placed}
use Rattle.outcome.proofs.own_core.NamesOnce.{not_below}
use Rattle.outcome.specs.path_claims.Claims.{ContestedPath, claimants, path_with_rivals_of_first_claimant, first_contested_path_in_byte_order, first_path_without_owner_in_byte_order, is_claim_of_path, owner_among}
use Rattle.outcome.specs.path_claims.Contest.{are_all_others_beaten_by, first_with_unbeaten_rival, rivals_of, member_beating_all_others}
use Rattle.outcome.specs.path_claims.declared.contest.Rivals.{Rivals}
use Rattle.refusal_laws.specs.ChangeFaults.{IsFirstContestedPath, IsFirstReservedAddedPath}
use Rattle.refusal_laws.specs.TestsPassed.{AreAddedPathsUnreserved, EachListedPathHasOwner}
use Rattle.refusal_laws.proofs.Lists.{all_pass, found_in, in_names, name_in, none_found}

-- ---- the first name that passes

abbrev RisesWeakly : List (List ℕ) → Type 0
RisesWeakly xs = Rises (λ x y. is_lt (bytes_cmp x y)) (ranks bytes_cmp nat_list_cmp_total) xs

not_before_itself : (x q : List ℕ) → q ≡ x → precedes q x ≡ false
not_before_itself x q is = ap (λ y. precedes y x) is ∙ ap is_lt (tied_itself nat_list_cmp_total x)

-- no name before it passes
found_is_first : (test : List ℕ → Bool) (xs : List (List ℕ)) (x : List ℕ) → RisesWeakly xs → find test xs ≡ Some x → (q : List ℕ) → Names.IsIn q xs → test q ≡ true → precedes q x ≡ false
found_is_first test [] x up e q here t = absurd here
found_is_first test (y ∷ ys) x up e q here t = by_test (test y) refl e here (λ found more. found_is_first test ys x up.1 found q more t)
  where
    by_test : (b : Bool) → test y ≡ b → cond b (Some y) (find test ys) ≡ Some x → Names.IsIn q (y ∷ ys) → (find test ys ≡ Some x → Names.IsIn q ys → precedes q x ≡ false) → precedes q x ≡ false
    by_test true f e (inl is) rest = let same : y ≡ x = cc in not_before_itself x q (is ∙ same)
    by_test true f e (inr more) rest = let same : y ≡ x = cc in ap (precedes q) (sym same) ∙ not_below y ys up.0 q more
    by_test false f e (inl is) rest = absurd (true≢false (sym t ∙ (ap test is ∙ f)))
    by_test false f e (inr more) rest = rest e more

smallest_is : (xs : List (List ℕ)) (x : List ℕ) → smallest_text xs ≡ Some x → Names.IsIn x xs × ((q : List ℕ) → Names.IsIn q xs → precedes q x ≡ false)
smallest_is xs x e = by_list (sorted_by bytes_cmp xs) refl (sym (smallest_first xs) ∙ e) (rises_in_order bytes_cmp nat_list_cmp_total xs)
  where
    by_list : (ys : List (List ℕ)) → sorted_by bytes_cmp xs ≡ ys → slice_get ys zero ≡ Some x → RisesWeakly ys → Names.IsIn x xs × ((q : List ℕ) → Names.IsIn q xs → precedes q x ≡ false)
    by_list [] is e up = absurd (cc (e))
    by_list (y ∷ ys) is e up =
        let same : y ≡ x = cc in (
          from_sorted x xs (subst (λ zs. Names.IsIn x zs) (sym is) (inl (sym same))),
          λ q here. found_is_first (λ z. true) (y ∷ ys) x up e q (subst (λ zs. Names.IsIn q zs) is (in_sorted q xs here)) refl,
        )

pub first_reserved_is : (members : List Member) (path : List ℕ) → first_reserved_added_path_in_byte_order members ≡ Some path → IsFirstReservedAddedPath members path
unfolding first_reserved_added_path_in_byte_order
first_reserved_is members path e =
    let is = smallest_is (filter is_reserved (added_paths members)) path e in
    let passes = from_filter is_reserved (added_paths members) path is.0 in
    record {
      comes = name_in path (added_paths members) passes.0;
      reserved = passes.1;
      first = λ other here reserved. is.1 other (in_filter is_reserved (added_paths members) other (in_names other (added_paths members) here) reserved);
    }

none_smallest : (xs : List (List ℕ)) (q : List ℕ) → smallest_text xs ≡ None → Names.IsIn q xs → ⊥
none_smallest xs q e here = by_list (sorted_by bytes_cmp xs) (sym (smallest_first xs) ∙ e) (in_sorted q xs here)
  where
    by_list : (ys : List (List ℕ)) → slice_get ys zero ≡ None → Names.IsIn q ys → ⊥
    by_list [] e here = here
    by_list (y ∷ ys) e here = cc (e)

pub are_unreserved : (members : List Member) → first_reserved_added_path_in_byte_order members ≡ None → AreAddedPathsUnreserved members
unfolding first_reserved_added_path_in_byte_order
are_unreserved members none path here = by_test (is_reserved path) refl
  where
    by_test : (b : Bool) → is_reserved path ≡ b → b ≡ false
    by_test false e = refl
    by_test true e = absurd (none_smallest (filter is_reserved (added_paths members)) path none (in_filter is_reserved (added_paths members) path (in_names path (added_paths members) here) e))

-- ---- two packages of one path

each_here : {X : Type 0} (P : X → Type 0) (xs : List X) (x : X) → Each P xs → IsIn x xs → P x
each_here P [] x h here = absurd here
each_here P (y ∷ ys) x h (inl is) = subst P (sym is) h.0
each_here P (y ∷ ys) x h (inr more) = each_here P ys x h.1 more

-- a member that claims a path lists it
claimant_lists : (path : List ℕ) (n : ℕ) (ls : List Listing) (y : ℕ) → IsIn y (claimants (claims_of_listings_indexed_from n ls) path) → (l : Listing) × IsIn l ls × (l.path ≡ path) × (y ≡ l.place)
claimant_lists path n [] y here = absurd here
claimant_lists path n (l ∷ ls) y here = by_test (bytes_eq l.path path) refl here (claimant_lists path (n + 1) ls y)
  where
    by_test : (b : Bool) → bytes_eq l.path path ≡ b → IsIn y (map (λ c. c.member) (cond b (indexed_claim_of_listing n l ∷ filter (is_claim_of_path path) (claims_of_listings_indexed_from (n + 1) ls)) (filter (is_claim_of_path path) (claims_of_listings_indexed_from (n + 1) ls))))
        → (IsIn y (claimants (claims_of_listings_indexed_from (n + 1) ls) path) → (k : Listing) × IsIn k ls × (k.path ≡ path) × (y ≡ k.place)) → (k : Listing) × IsIn k (l ∷ ls) × (k.path ≡ path) × (y ≡ k.place)
    by_test true is (inl same) more = (l, inl refl, (bytes_eq-Decides l.path path).0 is, same)
    by_test true is (inr here) more = let other = more here in (other.0, inr other.1, other.2, other.3)
    by_test false is here more = let other = more here in (other.0, inr other.1, other.2, other.3)

neither : (a b : Bool) → not (a || b) ≡ true → (a ≡ false) × (b ≡ false)
neither true b e = absurd (true≢false (sym e))
neither false true e = absurd (true≢false (sym e))
neither false false e = (refl, refl)

record AreRivals (beats : ℕ → ℕ → Bool) (ms : List ℕ) (rivals : Rivals) : Type 0 where
  first : IsIn rivals.first ms
  second : IsIn rivals.second ms
  apart : rivals.first ≡ rivals.second → ⊥
  located : beats rivals.first rivals.second ≡ false

rivals_are : (beats : ℕ → ℕ → Bool) (ms : List ℕ) (rivals : Rivals) → first_with_unbeaten_rival beats ms ≡ Some rivals → AreRivals beats ms rivals
unfolding first_with_unbeaten_rival
rivals_are beats [] rivals e = absurd (cc (e))
rivals_are beats (x ∷ ms) rivals e = by_found (find (λ y. not ((x == y) || beats x y)) (x ∷ ms)) refl e
  where
    by_found : (o : Option ℕ) → find (λ y. not ((x == y) || beats x y)) (x ∷ ms) ≡ o → option_map (rivals_of x) o ≡ Some rivals → AreRivals beats (x ∷ ms) rivals
    by_found None f e = absurd (cc (e))
    by_found (Some y) f e =
        let same : rivals_of x y ≡ rivals = cc in
        let found = found_in (λ y. not ((x == y) || beats x y)) (x ∷ ms) y f in
        let both = neither (x == y) (beats x y) found.1 in
        subst (AreRivals beats (x ∷ ms)) same (record {
          first = inl refl;
          second = found.0;
          apart = λ is. true≢false (sym (ap (λ z. x == z) (sym is) ∙ same_number x) ∙ both.0);
          located = both.1;
        })

-- ---- the first contested path

none_is : (o : Option ℕ) → is_none o ≡ true → o ≡ None
none_is None e = refl
none_is (Some x) e = absurd (true≢false (sym e))

listing_claimed : (n : ℕ) (ls : List Listing) (l : Listing) → IsIn l ls → Names.IsIn l.path (map (λ c. c.path) (claims_of_listings_indexed_from n ls))
listing_claimed n [] l here = absurd here
listing_claimed n (k ∷ ls) l (inl is) = inl (ap (λ (l : Listing). l.path) is)
listing_claimed n (k ∷ ls) l (inr more) = inr (listing_claimed (n + 1) ls l more)

module _ (members : List Member) where
  abbrev owner_by_claims : List ℕ → Option ℕ
  owner_by_claims path = owner_among (member_beats members) (claims_in members) path

  owned_or_not : (path : List ℕ) → (is_none (owner_by_claims path) ≡ true → ⊥) → is_some (owner_of_path members path) ≡ true
  owned_or_not path not_none = ap is_some (sym (owner_is members path)) ∙ by_owner (owner_by_claims path) not_none
    where
      by_owner : (o : Option ℕ) → (is_none o ≡ true → ⊥) → is_some o ≡ true
      by_owner None not_none = absurd (not_none refl)
      by_owner (Some x) not_none = refl

  listed_by : (place : ℕ) (l : Listing) → IsIn l (listings_of_members members) → place ≡ l.place → member_name_at_place members place ≡ member_name l.member
  listed_by place l here is =
      let at = each_here (IsPlaced members) (listings_of_members members) l (each_placed members) here in
      ap (λ (o : Option Member). option_map_or member_name o []) (ap (slice_get members) is ∙ at.at)

  beats_is : (one other : Listing) → IsIn one (listings_of_members members) → IsIn other (listings_of_members members) → member_beats members one.place other.place ≡ takes_over one.member.pkg other.member.pkg
  unfolding member_beats
  beats_is one other here there =
      let first = each_here (IsPlaced members) (listings_of_members members) one (each_placed members) here in
      let second = each_here (IsPlaced members) (listings_of_members members) other (each_placed members) there in
      ap₂ takes_over_if_both_exist first.at second.at

  -- where no third member claims the path, and one of the two took it over, it would own it
  takes_neither : (path : List ℕ) (x y : ℕ) → owner_by_claims path ≡ None → IsIn x (claimants (claims_in members) path)
      → ((z : ℕ) → IsIn z (claimants (claims_in members) path) → (z ≡ x) ⊎ (z ≡ y)) → member_beats members x y ≡ false
  unfolding member_beating_all_others
  takes_neither path x y unowned here two = by_test (member_beats members x y) refl
    where
      by_test : (b : Bool) → member_beats members x y ≡ b → b ≡ false
      by_test false t = refl
      by_test true t =
          let ms : List ℕ = claimants (claims_in members) path in
          let each : are_all_others_beaten_by (member_beats members) ms x ≡ true = all_pass (λ z. (x == z) || member_beats members x z) ms (λ z there. elim (two z there) [
            | inl is ↦ or_left (x == z) (member_beats members x z) (ap (λ w. x == w) is ∙ same_number x)
            | inr is ↦ or_right (x == z) (member_beats members x z) (ap (member_beats members x) is ∙ t)
          ]) in
          absurd (true≢false (sym each ∙ none_found (are_all_others_beaten_by (member_beats members) ms) ms x unowned here))

  contested_rivals : (path : List ℕ) (rivals : Rivals) → first_path_without_owner_in_byte_order (member_beats members) (claims_in members) ≡ Some path → first_with_unbeaten_rival (member_beats members) (claimants (claims_in members) path) ≡ Some rivals
      → IsFirstContestedPath members path (member_name_at_place members rivals.first) (member_name_at_place members rivals.second)
  unfolding claims_in
  contested_rivals path rivals found e =
      let are = rivals_are (member_beats members) (claimants (claims_in members) path) rivals e in
      let one = claimant_lists path 0 (listings_of_members members) rivals.first are.first in
      let other = claimant_lists path 0 (listings_of_members members) rivals.second are.second in
      let paths : List (List ℕ) = map (λ c. c.path) (claims_in members) in
      let test : List ℕ → Bool = λ p. is_none (owner_by_claims p) in
      record {
        unowned = sym (owner_is members path) ∙ none_is (owner_by_claims path) (found_in test (sorted_by bytes_cmp paths) path found).1;
        first = λ l here before. owned_or_not l.path (λ none.
            true≢false (sym before ∙ found_is_first test (sorted_by bytes_cmp paths) path (rises_in_order bytes_cmp nat_list_cmp_total paths) found l.path
            (in_sorted l.path paths (listing_claimed 0 (listings_of_members members) l here)) none));
        by_one = one.0;
        lists_one = record { listed = one.1; of_path = one.2; by = sym (listed_by rivals.first one.0 one.1 one.3) };
        by_other = other.0;
        lists_other = record { listed = other.1; of_path = other.2; by = sym (listed_by rivals.second other.0 other.1 other.3) };
        apart = λ same. are.apart (one.3 ∙ (same ∙ sym other.3));
        neither = λ two.
            (let unowned : owner_by_claims path ≡ None = none_is (owner_by_claims path) (found_in test (sorted_by bytes_cmp paths) path found).1 in
            sym (beats_is other.0 one.0 other.1 one.1)
            ∙ (sym (ap₂ (member_beats members) other.3 one.3)
            ∙ takes_neither path rivals.second rivals.first unowned are.second (λ z there.
            (let third = claimant_lists path 0 (listings_of_members members) z there in
            elim (two third.0 third.1 third.2) [
              | inl is ↦ inr (third.3 ∙ (is ∙ sym one.3))
              | inr is ↦ inl (third.3 ∙ (is ∙ sym other.3))
            ]))));
        located = sym (beats_is one.0 other.0 one.1 other.1) ∙ (sym (ap₂ (member_beats members) one.3 other.3) ∙ are.located);
      }

  -- ---- no contested path

  some_claimant : (path : List ℕ) (n : ℕ) (ls : List Listing) → Names.IsIn path (map (λ c. c.path) (claims_of_listings_indexed_from n ls)) → (y : ℕ) × IsIn y (claimants (claims_of_listings_indexed_from n ls) path)
  some_claimant path n [] here = absurd here
  some_claimant path n (l ∷ ls) here = by_test (bytes_eq l.path path) refl here (some_claimant path (n + 1) ls)
    where
      by_test : (b : Bool) → bytes_eq l.path path ≡ b → Names.IsIn path (l.path ∷ map (λ c. c.path) (claims_of_listings_indexed_from (n + 1) ls))
          → (Names.IsIn path (map (λ c. c.path) (claims_of_listings_indexed_from (n + 1) ls)) → (y : ℕ) × IsIn y (claimants (claims_of_listings_indexed_from (n + 1) ls) path))
          → (y : ℕ) × IsIn y (map (λ c. c.member) (cond b (indexed_claim_of_listing n l ∷ filter (is_claim_of_path path) (claims_of_listings_indexed_from (n + 1) ls)) (filter (is_claim_of_path path) (claims_of_listings_indexed_from (n + 1) ls))))
      by_test true is here more = (l.place, inl refl)
      by_test false is (inl same) more = absurd (true≢false (sym ((bytes_eq-Decides l.path path).1 (sym same)) ∙ is))
      by_test false is (inr here) more = more here

  -- where a path has no owner, two of its claimants are told
  rivals_told : (beats : ℕ → ℕ → Bool) (ms : List ℕ) (y : ℕ) → IsIn y ms → member_beating_all_others beats ms ≡ None → first_with_unbeaten_rival beats ms ≡ None → ⊥
  unfolding member_beating_all_others first_with_unbeaten_rival
  rivals_told beats [] y here none e = here
  rivals_told beats (x ∷ ms) y here none e = by_found (find (λ z. not ((x == z) || beats x z)) (x ∷ ms)) refl e
    where
      beaten : (a : Bool) → not a ≡ false → a ≡ true
      beaten true f = refl
      beaten false f = absurd (true≢false f)

      by_found : (o : Option ℕ) → find (λ z. not ((x == z) || beats x z)) (x ∷ ms) ≡ o → option_map (rivals_of x) o ≡ None → ⊥
      by_found (Some z) f e = cc (e)
      by_found None f e =
          let each : are_all_others_beaten_by beats (x ∷ ms) x ≡ true = all_pass (λ z. (x == z) || beats x z) (x ∷ ms) (λ z there. beaten ((x == z) || beats x z) (none_found (λ z. not ((x == z) || beats x z)) (x ∷ ms) z f there)) in
          true≢false (sym each ∙ none_found (are_all_others_beaten_by beats (x ∷ ms)) (x ∷ ms) x none (inl refl))

  owned_where : (path : List ℕ) → is_none (owner_by_claims path) ≡ false → is_some (owner_of_path members path) ≡ true
  owned_where path e = owned_or_not path (λ t. true≢false (sym t ∙ e))

  pub have_owners : first_contested_member_path_in_byte_order members ≡ None → EachListedPathHasOwner members
  unfolding first_contested_member_path_in_byte_order first_contested_path_in_byte_order claims_in
  have_owners e l here = by_path (first_path_without_owner_in_byte_order (member_beats members) (claims_in members)) refl e
    where
      by_path : (o : Option (List ℕ)) → first_path_without_owner_in_byte_order (member_beats members) (claims_in members) ≡ o → option_and_then (path_with_rivals_of_first_claimant (member_beats members) (claims_in members)) o ≡ None → is_some (owner_of_path members l.path) ≡ true
      by_path None is e =
          let paths : List (List ℕ) = map (λ c. c.path) (claims_in members) in
          let sorted : Names.IsIn l.path (sorted_by bytes_cmp paths) = in_sorted l.path paths (listing_claimed 0 (listings_of_members members) l here) in
          owned_where l.path (none_found (λ p. is_none (owner_by_claims p)) (sorted_by bytes_cmp paths) l.path is (name_in l.path (sorted_by bytes_cmp paths) sorted))
      by_path (Some path) is e =
          let paths : List (List ℕ) = map (λ c. c.path) (claims_in members) in
          let passes = found_in (λ p. is_none (owner_by_claims p)) (sorted_by bytes_cmp paths) path is in
          let claimed : Names.IsIn path paths = from_sorted path paths (in_names path (sorted_by bytes_cmp paths) passes.0) in
          let some = some_claimant path 0 (listings_of_members members) claimed in
          absurd (rivals_told (member_beats members) (claimants (claims_in members) path) some.0 some.1 (none_is (owner_by_claims path) passes.1)
          (no_rivals (first_with_unbeaten_rival (member_beats members) (claimants (claims_in members) path)) e))
        where
          no_rivals : (o : Option Rivals) → option_map {U = ContestedPath} (λ rivals. record { path = path; rivals = rivals }) o ≡ None → o ≡ None
          no_rivals None e = refl
          no_rivals (Some rivals) e = absurd (cc (e))

  pub contested_is : (c : ContestedPath) → first_contested_member_path_in_byte_order members ≡ Some c → IsFirstContestedPath members c.path (member_name_at_place members c.rivals.first) (member_name_at_place members c.rivals.second)
  unfolding first_contested_member_path_in_byte_order first_contested_path_in_byte_order
  contested_is c e = by_path (first_path_without_owner_in_byte_order (member_beats members) (claims_in members)) refl e
    where
      by_rivals : (path : List ℕ) → first_path_without_owner_in_byte_order (member_beats members) (claims_in members) ≡ Some path → (o : Option Rivals) → first_with_unbeaten_rival (member_beats members) (claimants (claims_in members) path) ≡ o
          → option_map (λ rivals. record { path = path; rivals = rivals }) o ≡ Some c → IsFirstContestedPath members c.path (member_name_at_place members c.rivals.first) (member_name_at_place members c.rivals.second)
      by_rivals path found None is e = absurd (cc (e))
      by_rivals path found (Some rivals) is e =
          let same : record { path = path; rivals = rivals } ≡ c = cc in
          subst (λ (d : ContestedPath). IsFirstContestedPath members d.path (member_name_at_place members d.rivals.first) (member_name_at_place members d.rivals.second)) same (contested_rivals path rivals found is)

      by_path : (o : Option (List ℕ)) → first_path_without_owner_in_byte_order (member_beats members) (claims_in members) ≡ o → option_and_then (path_with_rivals_of_first_claimant (member_beats members) (claims_in members)) o ≡ Some c
          → IsFirstContestedPath members c.path (member_name_at_place members c.rivals.first) (member_name_at_place members c.rivals.second)
      by_path None is e = absurd (cc (e))
      by_path (Some path) is e = by_rivals path is (first_with_unbeaten_rival (member_beats members) (claimants (claims_in members) path)) refl e

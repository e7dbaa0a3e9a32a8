-- A package that stays is read from the payload of the database.
use Rattle.std.proofs.Common.{◌≡◌, ℕ, zero, suc, Bool, true, false, List, [], ◌∷◌, map, get_or, Option, Some, None, ap, ◌∙◌, true≢false}
use Rattle.std.specs.Prelude.{◌||◌, bytes_eq, is_some, slice_get}
use Rattle.std.specs.List.{list_all}
use Rattle.std.proofs.lemmas.Bool.{and_parts}
use Rattle.std.proofs.lemmas.Slice.Eq.{bytes_eq-Decides}
use Rattle.db_core.specs.EntrySeen.{is_added_or_has_payload, member_of_entry}
use Rattle.db_core.specs.Members.{Member, is_added}
use Rattle.db_core.proofs.ListedNames.{Kept}

second_of : (a b : Bool) → (a || b) ≡ true → a ≡ false → b ≡ true
second_of true b h off = absurd (true≢false off)
second_of false b h off = h

no_member : (m : Member) → ◌≡◌ {A = Option Member} None (Some m) → ⊥
no_member m e = absurd (cc)

abbrev member_or : Member → Option Member → Member
member_or m None = m
member_or m (Some found) = found

-- the entry at a place is that of the member there
pub kept_member : (es : List Kept) (i : ℕ) (e : Kept) (m : Member) → e ≡ get_or es i e → slice_get (map member_of_entry es) i ≡ Some m → member_of_entry e ≡ m
kept_member [] i e m at here = absurd (no_member m here)
kept_member (x ∷ es) zero e m at here = ap (λ (k : Kept). member_of_entry k) at ∙ ap (member_or m) here
kept_member (x ∷ es) (suc i) e m at here = kept_member es i e m at here

-- of one that stays it has the payload of the database
pub kept_lent : (payload : List ℕ) (es : List Kept) (i : ℕ) (e : Kept) (m : Member) → list_all (is_added_or_has_payload payload) es ≡ true → e ≡ get_or es i e → slice_get (map member_of_entry es) i ≡ Some m → is_added m ≡ false → e.0 ≡ payload
kept_lent payload [] i e m all at here stays = absurd (no_member m here)
kept_lent payload (x ∷ es) zero e m all at here stays =
    let one = and_parts (is_added_or_has_payload payload x) (list_all (is_added_or_has_payload payload) es) all in
    let off : is_some x.2 ≡ false = ap (λ (o : Option Member). is_some (member_or m o).id) here ∙ stays in
    ap (λ (k : Kept). k.0) at ∙ (bytes_eq-Decides x.0 payload).0 (second_of (is_some x.2) (bytes_eq x.0 payload) one.0 off)
kept_lent payload (x ∷ es) (suc i) e m all at here stays =
    kept_lent payload es i e m (and_parts (is_added_or_has_payload payload x) (list_all (is_added_or_has_payload payload) es) all).1 at here stays

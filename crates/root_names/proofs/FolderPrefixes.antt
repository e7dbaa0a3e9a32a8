-- A path up to its last slash, byte by byte.
use Rattle.std.proofs.Common.{◌≡◌, ℕ, ◌+◌, ◌<◌, Bool, true, false, ◌||◌, ◌==◌, ◌≢◌, inl, inr, if◌then◌else◌, get_or, List, [], ◌∷◌, ◌++◌, length, take, refl, sym, ap, ◌∙◌}
use Rattle.std.proofs.lemmas.Bool.Decides.{eqb_tells}
use Rattle.std.proofs.lemmas.List.{take_more}
use Rattle.root_names.specs.PackagePath.{path_up_to_last_slash, has_slash}

-- with one byte more
abbrev pub prefix_with : List ℕ → ℕ → Bool → List ℕ
prefix_with bytes b true = bytes ++ b ∷ []
prefix_with bytes b false = path_up_to_last_slash bytes

slash_after : (bytes : List ℕ) (b : ℕ) → has_slash (bytes ++ b ∷ []) ≡ (has_slash bytes || (b == 47))
slash_after [] b = go (b == 47)
  where
    go : (t : Bool) → (t || false) ≡ t
    go true = refl
    go false = refl
slash_after (x ∷ bytes) b = go (x == 47) (slash_after bytes b)
  where
    go : (t : Bool) → has_slash (bytes ++ b ∷ []) ≡ (has_slash bytes || (b == 47)) → (t || has_slash (bytes ++ b ∷ [])) ≡ ((t || has_slash bytes) || (b == 47))
    go true is = refl
    go false is = is

one_after : (bytes : List ℕ) (b : ℕ) → path_up_to_last_slash (bytes ++ b ∷ []) ≡ prefix_with bytes b (b == 47)
one_after [] b = go (b == 47)
  where
    go : (t : Bool) → (if (t || false) then b ∷ [] else []) ≡ prefix_with [] b t
    go true = refl
    go false = refl
one_after (x ∷ bytes) b =
    ap (λ t. if t then x ∷ path_up_to_last_slash (bytes ++ b ∷ []) else []) (slash_after (x ∷ bytes) b)
    ∙ (ap (λ z. if (has_slash (x ∷ bytes) || (b == 47)) then x ∷ z else []) (one_after bytes b) ∙ go (b == 47))
  where
    none : (s : Bool) → (if (s || false) then x ∷ path_up_to_last_slash bytes else []) ≡ (if s then x ∷ path_up_to_last_slash bytes else [])
    none true = refl
    none false = refl

    some : (s : Bool) → (if (s || true) then x ∷ (bytes ++ b ∷ []) else []) ≡ x ∷ (bytes ++ b ∷ [])
    some true = refl
    some false = refl

    go : (t : Bool) → (if (has_slash (x ∷ bytes) || t) then x ∷ prefix_with bytes b t else []) ≡ prefix_with (x ∷ bytes) b t
    go true = some (has_slash (x ∷ bytes))
    go false = none (has_slash (x ∷ bytes))

prefix_at : (bytes : List ℕ) (i d : ℕ) (t : Bool) → i < length bytes → (get_or bytes i d == 47) ≡ t → path_up_to_last_slash (take (i + 1) bytes) ≡ prefix_with (take i bytes) (get_or bytes i d) t
prefix_at bytes i d t lt is =
    ap path_up_to_last_slash (take_more bytes i d lt)
    ∙ (one_after (take i bytes) (get_or bytes i d) ∙ ap (prefix_with (take i bytes) (get_or bytes i d)) is)

-- up to a slash it is all
pub prefix_at_slash : (bytes : List ℕ) (i d : ℕ) → i < length bytes → get_or bytes i d ≡ 47 → path_up_to_last_slash (take (i + 1) bytes) ≡ take (i + 1) bytes
prefix_at_slash bytes i d lt is =
    prefix_at bytes i d true lt (ap (λ b. b == 47) is) ∙ sym (take_more bytes i d lt)

-- another byte makes it no longer
pub prefix_at_other : (bytes : List ℕ) (i d : ℕ) → i < length bytes → get_or bytes i d ≢ 47 → path_up_to_last_slash (take (i + 1) bytes) ≡ path_up_to_last_slash (take i bytes)
prefix_at_other bytes i d lt other = elim (eqb_tells (get_or bytes i d) 47) [
  | inl p ↦ absurd (other p.1)
  | inr p ↦ prefix_at bytes i d false lt p.0
]

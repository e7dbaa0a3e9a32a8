-- What is kept of the versions that dependencies name, as one more is kept or one is taken out.
use Rattle.std.proofs.Common.{◌≡◌, ℕ, zero, suc, ◌<◌, Bool, true, false, cond, List, [], ◌∷◌, length, refl, ap, sym, subst, ◌∙◌, arith, true≢false}
use Rattle.std.specs.Prelude.{Option, Some, None, slice_get}
use Rattle.std.specs.Borrow.{Bor}
use Rattle.std.specs.BTreeMap.{BTreeMap, get}
use Rattle.std.specs.Map.{lookup}
use Rattle.std.specs.Option.{option_map_or}
use Rattle.std.specs.Ordering.{is_eq, nat_cmp, ordering_then}
use Rattle.std.specs.declared.cmp.Ordering.{Ordering}
use Rattle.std.specs.declared.cmp.Ordering.TheVariants.{Less, Equal, Greater}
use Rattle.dep_core.specs.Dependency.{Dependency}
use Rattle.dep_core.specs.Meets.{constraint_accepts}
use Rattle.candidate_core.specs.Candidates.{Candidate}
use Rattle.candidate_core.specs.Matches.{AreRememberedMatchesOf, text_place_cmp}
use Rattle.candidate_core.specs.PackageMatches.{AreMatchesAmong, AreMatchesByVersion, wanted_version_cmp}
use Rattle.candidate_core.specs.Packages.{candidates_of_packages}
use Rattle.candidate_core.specs.VersionTexts.{source_text}
use Rattle.candidate_core.specs.declared.matches.KnownMatches.{KnownMatches}
use Rattle.candidate_core.specs.declared.package_matches.PackageMatches.{PackageMatches}
use Rattle.candidate_core.specs.declared.packages.Packages.{Packages}
use Rattle.candidate_core.proofs.WantedVersions.{same_place}

same_wanted : (a b : ℕ × ℕ × ℕ) → is_eq (wanted_version_cmp a b) ≡ true → (a.0 ≡ b.0) × (a.1 ≡ b.1) × (a.2 ≡ b.2)
same_wanted a b h = go (text_place_cmp (a.0, a.1) (b.0, b.1)) refl
  where
    go : (o : Ordering) → text_place_cmp (a.0, a.1) (b.0, b.1) ≡ o → (a.0 ≡ b.0) × (a.1 ≡ b.1) × (a.2 ≡ b.2)
    go Less e = absurd (true≢false (sym h ∙ ap (λ (o : Ordering). is_eq (ordering_then o (nat_cmp a.2 b.2))) e))
    go Greater e = absurd (true≢false (sym h ∙ ap (λ (o : Ordering). is_eq (ordering_then o (nat_cmp a.2 b.2))) e))
    go Equal e =
        let last : is_eq (nat_cmp a.2 b.2) ≡ true = sym (ap (λ (o : Ordering). is_eq (ordering_then o (nat_cmp a.2 b.2))) e) ∙ h in
        let front = same_place (a.0, a.1) (b.0, b.1) (ap is_eq e) in
        (front.0, front.1, grind arith)

-- what is right for a dependency is right for each that names the same version with the same
-- operator
same_wants : (text : ℕ → ℕ → List ℕ) (d e : Dependency) (known : KnownMatches) → d.version ≡ e.version → d.bits ≡ e.bits → AreRememberedMatchesOf text d known → AreRememberedMatchesOf text e known
same_wants text d e known version bits right source word answer at =
    right source word answer at
    ∙ (ap (λ (v : Option (List ℕ)). constraint_accepts v d.bits (Some (text source word))) version
    ∙ ap (λ (n : ℕ). constraint_accepts e.version n (Some (text source word))) bits)

module _ (text : ℕ → ℕ → List ℕ) (old new : BTreeMap (ℕ × ℕ × ℕ) KnownMatches) (k : ℕ × ℕ × ℕ) (right : AreMatchesByVersion text old) where
  -- one version more is kept
  pub matches_inserted : (v : KnownMatches) (d : Dependency)
      → ((q : ℕ × ℕ × ℕ) → get wanted_version_cmp new q ≡ cond (is_eq (wanted_version_cmp k q)) (Some v) (get wanted_version_cmp old q))
      → d.version ≡ Some (text k.0 k.1) → d.bits ≡ k.2 → AreRememberedMatchesOf text d v
      → AreMatchesByVersion text new
  matches_inserted v d updates version bits is source word b known e at named same = go (is_eq (wanted_version_cmp k (source, word, b))) refl
    where
      go : (t : Bool) → is_eq (wanted_version_cmp k (source, word, b)) ≡ t → AreRememberedMatchesOf text e known
      go true h =
          let key = same_wanted k (source, word, b) h in
          let both : ◌≡◌ {A = Option KnownMatches} (Some v) (Some known) = sym (updates (source, word, b) ∙ ap (λ (t : Bool). cond t (Some v) (get wanted_version_cmp old (source, word, b))) h) ∙ at in
          let value : v ≡ known = cc in
          let version_is : d.version ≡ e.version = version ∙ (ap (λ (s : ℕ). Some (text s k.1)) key.0 ∙ (ap (λ (w : ℕ). Some (text source w)) key.1 ∙ sym named)) in
          let bits_are : d.bits ≡ e.bits = bits ∙ (key.2 ∙ sym same) in
          subst (λ (m : KnownMatches). AreRememberedMatchesOf text e m) value (same_wants text d e v version_is bits_are is)
      go false h = right source word b known e (sym (updates (source, word, b) ∙ ap (λ (t : Bool). cond t (Some v) (get wanted_version_cmp old (source, word, b))) h) ∙ at) named same

  -- what is known of a version is taken out
  pub matches_removed : ((q : ℕ × ℕ × ℕ) → get wanted_version_cmp new q ≡ cond (is_eq (wanted_version_cmp k q)) None (get wanted_version_cmp old q))
      → AreMatchesByVersion text new
  matches_removed updates source word b known e at named same = go (is_eq (wanted_version_cmp k (source, word, b))) refl
    where
      go : (t : Bool) → is_eq (wanted_version_cmp k (source, word, b)) ≡ t → AreRememberedMatchesOf text e known
      go true h =
          let bad : ◌≡◌ {A = Option KnownMatches} None (Some known) = sym (updates (source, word, b) ∙ ap (λ (t : Bool). cond t None (get wanted_version_cmp old (source, word, b))) h) ∙ at in
          absurd (cc)
      go false h = right source word b known e (sym (updates (source, word, b) ∙ ap (λ (t : Bool). cond t None (get wanted_version_cmp old (source, word, b))) h) ∙ at) named same

-- what is kept is right among the candidates that the packages are
pub own_matches : (candidates : List Candidate) (matches : PackageMatches) → AreMatchesAmong candidates matches → AreMatchesAmong (candidates_of_packages matches.packages.now) matches
own_matches candidates matches right = (refl, right.1)

-- what is right among the candidates that the packages were is right among these
pub matches_among : (candidates : List Candidate) (old new : PackageMatches) → AreMatchesAmong candidates old → AreMatchesAmong (candidates_of_packages old.packages.now) new → AreMatchesAmong candidates new
matches_among candidates old new before right = (right.0 ∙ before.0, right.1)

-- the same, where the packages stay
pub matches_after : (old new : PackageMatches) → new.packages ≡ old.packages → AreMatchesByVersion (source_text old.packages.now.sources.items) new.by_version → AreMatchesAmong (candidates_of_packages old.packages.now) new
matches_after old new same right = (
  ap (λ (p : Bor Packages). candidates_of_packages p.now) same,
  subst (λ (p : Bor Packages). AreMatchesByVersion (source_text p.now.sources.items) new.by_version) (sym same) right,
)

-- nothing is kept
pub matches_of_nothing : (text : ℕ → ℕ → List ℕ) (by_version : BTreeMap (ℕ × ℕ × ℕ) KnownMatches) → by_version.entries ≡ [] → AreMatchesByVersion text by_version
matches_of_nothing text by_version none source word bits known d at version same =
    let gone : get wanted_version_cmp by_version (source, word, bits) ≡ None = ap (lookup (λ (q : ℕ × ℕ × ℕ). is_eq (wanted_version_cmp (source, word, bits) q))) none in
    let bad : ◌≡◌ {A = Option KnownMatches} None (Some known) = sym gone ∙ at in
    absurd (cc)

-- what holds of the candidate at a place is what a test says at the place
pub told_at : (p : Candidate → Bool) (cs : List Candidate) (k : ℕ) (b : Bool) → k < length cs → ((c : Candidate) → slice_get cs k ≡ Some c → b ≡ p c) → b ≡ option_map_or p (slice_get cs k) false
told_at p [] k b h is = absurd (omega (arith, h))
told_at p (c ∷ cs) zero b h is = is c refl
told_at p (c ∷ cs) (suc k) b h is = told_at p cs k b (omega (arith, h)) is

use Rattle.std.proofs.Common.{◌≡◌, ◌∙◌, ◌<◌, ◌≤◌, ℕ, zero, suc, Bool, true, false, List, [], ◌∷◌, get_or, length, map, refl, ap, sym, subst, arith}
use Rattle.std.specs.Prelude.{◌&&◌, Option, Some, slice_get}
use Rattle.std.specs.Option.{option_map_or}
use Rattle.std.proofs.lemmas.List.{length-map}
use Rattle.std.proofs.lemmas.Option.{slice_get_past}
use Rattle.option_ranks.specs.candidate_core.Candidates.{Candidate, Need, is_eligible, meets_dependency_or_has_package_name}
use Rattle.option_ranks.specs.candidate_core.Options.{is_eligible_for_need}
use Rattle.option_ranks.specs.candidate_core.Packages.{candidates_of_packages}
use Rattle.option_ranks.specs.candidate_core.Rank.{SelectionProblem, candidate_at_passes}
use Rattle.option_ranks.specs.candidate_core.Values.{need_of_ref}
use Rattle.option_ranks.proofs.candidate_core.Steps.{if_ok}
use Rattle.pool_core.proofs.sealed.Sealed.fits.Goals as goal

-- no candidate is behind the last one
past_all : (pool : SelectionProblem) (test : Candidate → Bool) (k : ℕ) → length pool.candidates ≤ k → false ≡ candidate_at_passes pool test k
past_all pool test k h = ap (λ (o : Option Candidate). option_map_or test o false) (sym (slice_get_past pool.candidates k h))

one_value : {X : Type 0} (o : Option X) (a b : X) → o ≡ Some a → o ≡ Some b → a ≡ b
one_value o a b h g = cc

-- the candidates pass the test `p` as their marks say
module _ (p q : Candidate → Bool) where
  -- where the mark is false, both tests are not passed
  unmarked_fails : (cs : List Candidate) (k : ℕ) (mark : Bool) → mark ≡ get_or (map p cs) k mark → mark ≡ false → false ≡ option_map_or (λ c. p c && q c) (slice_get cs k) false
  unmarked_fails [] zero mark is off = refl
  unmarked_fails [] (suc k) mark is off = refl
  unmarked_fails (c ∷ cs) zero mark is off = ap (λ (b : Bool). b && q c) (sym off ∙ is)
  unmarked_fails (c ∷ cs) (suc k) mark is off = unmarked_fails cs k mark is off

  -- where the mark is true, the test `q` decides
  marked_passes : (cs : List Candidate) (k : ℕ) (mark b : Bool) → k < length cs → mark ≡ get_or (map p cs) k mark → mark ≡ true → ((c : Candidate) → slice_get cs k ≡ Some c → b ≡ q c) → b ≡ option_map_or (λ c. p c && q c) (slice_get cs k) false
  marked_passes [] k mark b h is on told = absurd (omega (arith, h))
  marked_passes (c ∷ cs) zero mark b h is on told = told c refl ∙ ap (λ (t : Bool). t && q c) (sym on ∙ is)
  marked_passes (c ∷ cs) (suc k) mark b h is on told = marked_passes cs k mark b (omega (arith, h)) is on told

pub index-requires : goal.index-requires
index-requires c =
    let pool : SelectionProblem = c.args.self.now in
    let marks : c.self.inside.eligible.items ≡ map (is_eligible pool.world) pool.candidates =
    c.self.invariant.1 ∙ ap (λ (p : SelectionProblem). map (is_eligible p.world) p.candidates) c.self.view_is in
    subst (λ (n : ℕ). c.id.inside.place < n)
    (c.len.ensures ∙ (ap length c.requires.own ∙ (sym (length-map pool.candidates (is_eligible pool.world)) ∙ (ap length (sym marks) ∙ sym c.self.inside.eligible.ok.0)))) c.if-place-len.false

pub get-requires : goal.get-requires
get-requires c = subst (λ (n : ℕ). c.id.inside.place < n) c.len.ensures c.if-place-len.false

pub meets_dependency_or_has_package_name-requires-2-clause-within : goal.meets_dependency_or_has_package_name-requires-2-clause-within
meets_dependency_or_has_package_name-requires-2-clause-within c = subst (λ (n : ℕ). c.id.inside.place < n) c.len.ensures c.if-place-len.false

pub meets_dependency_or_has_package_name-requires-2-clause-known : goal.meets_dependency_or_has_package_name-requires-2-clause-known
meets_dependency_or_has_package_name-requires-2-clause-known c = c.requires.known

pub returns-then-place-len-clause-fits : goal.returns-then-place-len-clause-fits
returns-then-place-len-clause-fits c =
    let pool : SelectionProblem = c.args.self.now in
    past_all pool (is_eligible_for_need pool (need_of_ref c.args.need.now)) c.args.id
    (subst (λ (n : ℕ). n ≤ c.args.id) (c.len.ensures ∙ ap length c.requires.own) (subst (λ (k : ℕ). c.len.result ≤ k) c.id.view_is c.if-place-len.true))

pub returns-then-not-index-clause-fits : goal.returns-then-not-index-clause-fits
returns-then-not-index-clause-fits c =
    let pool : SelectionProblem = c.args.self.now in
    let mark : Bool = c.index.result.now in
    let marks : c.self.inside.eligible.items ≡ map (is_eligible pool.world) pool.candidates =
    c.self.invariant.1 ∙ ap (λ (p : SelectionProblem). map (is_eligible p.world) p.candidates) c.self.view_is in
    let is : mark ≡ get_or (map (is_eligible pool.world) pool.candidates) c.args.id mark =
    c.index.ensures ∙ (ap (λ (k : ℕ). get_or c.self.inside.eligible.items k mark) c.id.view_is ∙ ap (λ (ms : List Bool). get_or ms c.args.id mark) marks) in
    unmarked_fails (is_eligible pool.world) (meets_dependency_or_has_package_name (need_of_ref c.args.need.now)) pool.candidates c.args.id mark is c.if-not-index.true

pub returns-then-not-has_long_version-clause-fits : goal.returns-then-not-has_long_version-clause-fits
returns-then-not-has_long_version-clause-fits c =
    let pool : SelectionProblem = c.args.self.now in
    let need : Need = need_of_ref c.args.need.now in
    let cs : List Candidate = candidates_of_packages c.args.packages.now in
    let mark : Bool = c.index.result.now in
    let marks : c.self.inside.eligible.items ≡ map (is_eligible pool.world) pool.candidates =
    c.self.invariant.1 ∙ ap (λ (p : SelectionProblem). map (is_eligible p.world) p.candidates) c.self.view_is in
    let is : mark ≡ get_or (map (is_eligible pool.world) pool.candidates) c.args.id mark =
    c.index.ensures ∙ (ap (λ (k : ℕ). get_or c.self.inside.eligible.items k mark) c.id.view_is ∙ ap (λ (ms : List Bool). get_or ms c.args.id mark) marks) in
    let within : c.args.id < length pool.candidates =
    subst (λ (n : ℕ). c.args.id < n) (c.len.ensures ∙ ap length c.requires.own) (subst (λ (k : ℕ). k < c.len.result) c.id.view_is c.if-place-len.false) in
    let same : slice_get cs c.id.inside.place ≡ slice_get pool.candidates c.args.id = ap (slice_get cs) c.id.view_is ∙ ap (λ (z : List Candidate). slice_get z c.args.id) c.requires.own in
    marked_passes (is_eligible pool.world) (meets_dependency_or_has_package_name need) pool.candidates c.args.id mark c.meets_dependency_or_has_package_name.result within is c.if-not-index.false
    (λ d at. c.meets_dependency_or_has_package_name.ensures ∙ ap (meets_dependency_or_has_package_name need) (one_value (slice_get cs c.id.inside.place) c.get.result d c.get.ensures (same ∙ at)))

pub returns-clause-fits : goal.returns-clause-fits
returns-clause-fits c =
    let pool : SelectionProblem = c.args.self.now in
    let need : Need = need_of_ref c.args.need.now in
    let cs : List Candidate = candidates_of_packages c.args.packages.now in
    let mark : Bool = c.index.result.now in
    let marks : c.self.inside.eligible.items ≡ map (is_eligible pool.world) pool.candidates =
    c.self.invariant.1 ∙ ap (λ (p : SelectionProblem). map (is_eligible p.world) p.candidates) c.self.view_is in
    let is : mark ≡ get_or (map (is_eligible pool.world) pool.candidates) c.args.id mark =
    c.index.ensures ∙ (ap (λ (k : ℕ). get_or c.self.inside.eligible.items k mark) c.id.view_is ∙ ap (λ (ms : List Bool). get_or ms c.args.id mark) marks) in
    let within : c.args.id < length pool.candidates =
    subst (λ (n : ℕ). c.args.id < n) (c.len.ensures ∙ ap length c.requires.own) (subst (λ (k : ℕ). k < c.len.result) c.id.view_is c.if-place-len.false) in
    let same : slice_get cs c.id.inside.place ≡ slice_get pool.candidates c.args.id = ap (slice_get cs) c.id.view_is ∙ ap (λ (z : List Candidate). slice_get z c.args.id) c.requires.own in
    if_ok c.meets_dependency_or_has_package_name-2.result _ _ (λ fits told.
    marked_passes (is_eligible pool.world) (meets_dependency_or_has_package_name need) pool.candidates c.args.id mark fits within is c.if-not-index.false (λ d at. told d (same ∙ at)))
    c.meets_dependency_or_has_package_name-2.ensures.meets

-- What is marked at the seal is what world says of each candidate.
use Rattle.std.proofs.Common.{◌≡◌, inl, inr, ℕ, suc, Bool, true, false, List, [], ◌∷◌, map, refl, sym, ap, ◌∙◌}
use Rattle.std.specs.Prelude.{Option, Some, None, is_some, ◌&&◌, ◌||◌, not}
use Rattle.std.specs.Option.{option_map_or}
use Rattle.std.specs.List.{filter, list_any}
use Rattle.std.specs.Str.{bytes_eq}
use Rattle.std.proofs.lemmas.Bool.{cases_Bool}
use Rattle.base_core.proofs.Booleans.{both_second, both_first}
use Rattle.dep_core.specs.Dependency.{Dependency}
use Rattle.pool_core.specs.declared.world_marks.EntryKind.TheVariants.{Conflict, Tagged}
use Rattle.option_ranks.specs.candidate_core.Candidates.{Candidate, is_eligible_with_positive_install_if, is_allowed_by_tags_of_world, is_eligible, is_barred_by_world, meets_dependency, is_tag_used_in_world}
use Rattle.option_ranks.specs.candidate_core.Options.{places_passing_counted_from}
use Rattle.option_ranks.specs.candidate_core.Rank.{is_pinned, is_name_pinned_to_tag}
use Rattle.option_ranks.specs.candidate_core.PositiveInstallIfs.{has_positive_install_if, places_marked_with_install_if}
use Rattle.pool_core.specs.World.{entries_of_kind, is_entry_of_kind}

any_filter : {X : Type 0} (p q : X → Bool) (xs : List X) → ((x : X) → p x ≡ true → q x ≡ true) → list_any p (filter q xs) ≡ list_any p xs
any_filter p q [] to = refl
any_filter p q (x ∷ xs) to = elim (cases_Bool (q x)) [
  | inl e ↦ rw e (ap (λ (b : Bool). p x || b) (any_filter p q xs to))
  | inr e ↦ elim (cases_Bool (p x)) [
    | inl g ↦ let bad : true ≡ false = sym (to x g) ∙ e in absurd (cc)
    | inr g ↦ rw (e, g) (any_filter p q xs to)
  ]
]

tag_there : (tag : List ℕ) (o : Option (List ℕ)) → option_map_or (bytes_eq tag) o false ≡ true → is_some o ≡ true
tag_there tag None h = absurd (cc)
tag_there tag (Some t) h = refl

is_tag_used_in_world-tagged : (world : List Dependency) (tag : List ℕ) → is_tag_used_in_world (entries_of_kind Tagged world) tag ≡ is_tag_used_in_world world tag
is_tag_used_in_world-tagged world tag = any_filter (λ (d : Dependency). option_map_or (bytes_eq tag) d.tag false) (is_entry_of_kind Tagged) world (λ d h. tag_there tag d.tag h)

pinned_to-tagged : (world : List Dependency) (name tag : List ℕ) → is_name_pinned_to_tag (entries_of_kind Tagged world) name tag ≡ is_name_pinned_to_tag world name tag
pinned_to-tagged world name tag =
    any_filter (λ (d : Dependency). bytes_eq name d.name && option_map_or (bytes_eq tag) d.tag false) (is_entry_of_kind Tagged) world
    (λ d h. tag_there tag d.tag (both_second (bytes_eq name d.name) (option_map_or (bytes_eq tag) d.tag false) h))

barred-conflicts : (world : List Dependency) (c : Candidate) → is_barred_by_world (entries_of_kind Conflict world) c ≡ is_barred_by_world world c
barred-conflicts world c =
    any_filter (λ (d : Dependency). d.conflict && meets_dependency d c) (is_entry_of_kind Conflict) world
    (λ d h. both_first d.conflict (meets_dependency d c) h)

tag_or : (o : Option (List ℕ)) (p q : List ℕ → Bool) (d : Bool) → ((t : List ℕ) → p t ≡ q t) → option_map_or p o d ≡ option_map_or q o d
tag_or None p q d same = refl
tag_or (Some t) p q d same = same t

allowed-tagged : (world : List Dependency) (c : Candidate) → is_allowed_by_tags_of_world (entries_of_kind Tagged world) c ≡ is_allowed_by_tags_of_world world c
allowed-tagged world c = ap (λ (b : Bool). c.installed || (not (is_some c.repository) || b)) (tag_or c.tag (is_tag_used_in_world (entries_of_kind Tagged world)) (is_tag_used_in_world world) true (is_tag_used_in_world-tagged world))

eligible_is : (world : List Dependency) (c : Candidate) → (is_allowed_by_tags_of_world (entries_of_kind Tagged world) c && not (is_barred_by_world (entries_of_kind Conflict world) c)) ≡ is_eligible world c
eligible_is world c = ap (λ (a : Bool). a && not (is_barred_by_world (entries_of_kind Conflict world) c)) (allowed-tagged world c) ∙ ap (λ (b : Bool). is_allowed_by_tags_of_world world c && not b) (barred-conflicts world c)

pinned_is : (world : List Dependency) (c : Candidate) → is_pinned (entries_of_kind Tagged world) c ≡ is_pinned world c
pinned_is world c = tag_or c.tag (is_name_pinned_to_tag (entries_of_kind Tagged world) c.name) (is_name_pinned_to_tag world c.name) false (pinned_to-tagged world c.name)

map_same : (f g : Candidate → Bool) (cs : List Candidate) → ((c : Candidate) → f c ≡ g c) → map f cs ≡ map g cs
map_same f g [] same = refl
map_same f g (c ∷ cs) same = ap (λ (b : Bool). b ∷ map f cs) (same c) ∙ ap (λ (bs : List Bool). g c ∷ bs) (map_same f g cs same)

pub eligible_marked : (world tagged conflicts : List Dependency) (marks : List Bool) (cs : List Candidate) → tagged ≡ entries_of_kind Tagged world → conflicts ≡ entries_of_kind Conflict world → marks ≡ map (λ (c : Candidate). is_allowed_by_tags_of_world tagged c && not (is_barred_by_world conflicts c)) cs → marks ≡ map (is_eligible world) cs
eligible_marked world tagged conflicts marks cs t k is =
    is ∙ (ap (λ (ds : List Dependency). map (λ (c : Candidate). is_allowed_by_tags_of_world ds c && not (is_barred_by_world conflicts c)) cs) t
    ∙ (ap (λ (ds : List Dependency). map (λ (c : Candidate). is_allowed_by_tags_of_world (entries_of_kind Tagged world) c && not (is_barred_by_world ds c)) cs) k
    ∙ map_same (λ (c : Candidate). is_allowed_by_tags_of_world (entries_of_kind Tagged world) c && not (is_barred_by_world (entries_of_kind Conflict world) c)) (is_eligible world) cs (eligible_is world)))

pub pinned_marked : (world tagged : List Dependency) (marks : List Bool) (cs : List Candidate) → tagged ≡ entries_of_kind Tagged world → marks ≡ map (λ (c : Candidate). is_pinned tagged c) cs → marks ≡ map (is_pinned world) cs
pinned_marked world tagged marks cs t is =
    is ∙ (ap (λ (ds : List Dependency). map (λ (c : Candidate). is_pinned ds c) cs) t
    ∙ map_same (λ (c : Candidate). is_pinned (entries_of_kind Tagged world) c) (is_pinned world) cs (pinned_is world))

marked_places : (world : List Dependency) (n : ℕ) (cs : List Candidate) → places_marked_with_install_if n (map (is_eligible world) cs) cs ≡ places_passing_counted_from n (is_eligible_with_positive_install_if world) cs
marked_places world n [] = refl
marked_places world n (c ∷ cs) = elim (cases_Bool (is_eligible world c && has_positive_install_if c)) [
  | inl e ↦ rw e (ap (λ (z : List ℕ). n ∷ z) (marked_places world (suc n) cs))
  | inr e ↦ rw e (marked_places world (suc n) cs)
]

pub install_ifs_marked : (world : List Dependency) (marks : List Bool) (cs : List Candidate) (ids : List ℕ) → marks ≡ map (is_eligible world) cs → ids ≡ places_marked_with_install_if 0 marks cs → ids ≡ places_passing_counted_from 0 (is_eligible_with_positive_install_if world) cs
install_ifs_marked world marks cs ids is found = found ∙ (ap (λ (ms : List Bool). places_marked_with_install_if 0 ms cs) is ∙ marked_places world 0 cs)

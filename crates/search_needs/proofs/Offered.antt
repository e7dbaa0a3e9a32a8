-- What meets a need offers its name.
use Rattle.std.proofs.Common.{◌≡◌, inl, inr, ℕ, ◌+◌, true, false, List, subst, arith}
use Rattle.std.specs.Prelude.{slice_get, not, ◌&&◌, is_some}
use Rattle.std.specs.List.{list_any}
use Rattle.std.specs.Str.{bytes_eq}
use Rattle.std.proofs.lemmas.Bool.{and_parts, or_cases, cases_Bool, both_ways}
use Rattle.search_tables.proofs.pool_core.Filtered.{meeting_offers, at_weaker}
use Rattle.dep_core.specs.Dependency.{Dependency}
use Rattle.search_tables.specs.candidate_core.Candidates.{Candidate, Need, entry, is_name_occupied_by_provides_entry, named, need_name, meets_dependency, occupies_name, offers_name}
use Rattle.search_tables.specs.candidate_core.Rank.{SelectionProblem, candidate_at_passes, meets_at}
use Rattle.search_tables.specs.candidate_core.Options.{IsIn, places_offering}
use Rattle.search_tables.specs.Selection.{is_met}
use Rattle.search_tables.proofs.candidate_core.OptionLists.{in_places}
use Rattle.search_tables.proofs.PoolFacts.{any_in}
use Rattle.search_tables.proofs.Satisfying.{true_or, any_one, one_any}

pub meets_offered : (pool : SelectionProblem) (d : Dependency) (m : ℕ) → meets_at pool m (entry d) ≡ true → IsIn m (places_offering d.name pool.candidates)
meets_offered pool d m h =
    let z : 0 + m ≡ m = omega arith in
    subst (λ (o : ℕ). IsIn o (places_offering d.name pool.candidates)) z
    (in_places 0 (offers_name d.name) pool.candidates m (at_weaker (meets_dependency d) (offers_name d.name) (slice_get pool.candidates m) (meeting_offers d) h))

named_offered : (pool : SelectionProblem) (name : List ℕ) (m : ℕ) → meets_at pool m (named name) ≡ true → IsIn m (places_offering name pool.candidates)
named_offered pool name m h =
    let z : 0 + m ≡ m = omega arith in
    subst (λ (o : ℕ). IsIn o (places_offering name pool.candidates)) z
    (in_places 0 (offers_name name) pool.candidates m (at_weaker (λ (c : Candidate). bytes_eq name c.name) (offers_name name) (slice_get pool.candidates m) (λ c e. true_or (bytes_eq name c.name) _ (inl e)) h))

need_offered : (pool : SelectionProblem) (need : Need) (m : ℕ) → meets_at pool m need ≡ true → IsIn m (places_offering (need_name need) pool.candidates)
need_offered pool (entry d) m h = meets_offered pool d m h
need_offered pool (named name) m h = named_offered pool name m h

-- no choice meets the need, looked for among all choices
pub unmet_among_all : (pool : SelectionProblem) (chosen : List ℕ) (need : Need) → ((k : ℕ) → IsIn k chosen → meets_at pool k need ≡ false) → is_met pool chosen need ≡ false
unmet_among_all pool chosen need none = elim (cases_Bool (is_met pool chosen need)) [
  | inl e ↦ let r = any_in (λ c. meets_at pool c need) chosen e in absurd (both_ways (meets_at pool r.0 need) (none r.0 r.1) r.2)
  | inr e ↦ e
]

-- the same, among those that offer its name
pub unmet_among_offers : (pool : SelectionProblem) (chosen : List ℕ) (need : Need) → ((k : ℕ) → IsIn k (places_offering (need_name need) pool.candidates) → IsIn k chosen → meets_at pool k need ≡ false) → is_met pool chosen need ≡ false
unmet_among_offers pool chosen need none = elim (cases_Bool (is_met pool chosen need)) [
  | inl e ↦ let r = any_in (λ c. meets_at pool c need) chosen e in absurd (both_ways (meets_at pool r.0 need) (none r.0 (need_offered pool need r.0 r.2) r.1) r.2)
  | inr e ↦ e
]

-- a candidate that occupies a name offers it
occupied_offers : (name : List ℕ) (c : Candidate) → occupies_name name c ≡ true → offers_name name c ≡ true
occupied_offers name c h = elim (or_cases (bytes_eq name c.name) (list_any (is_name_occupied_by_provides_entry name) c.provides) h) [
  | inl e ↦ true_or (bytes_eq name c.name) _ (inl e)
  | inr e ↦
      let a = any_one (is_name_occupied_by_provides_entry name) c.provides e in
      let b = and_parts (not a.0.conflict) (is_some a.0.version && bytes_eq name a.0.name) a.2 in
      let n = and_parts (is_some a.0.version) (bytes_eq name a.0.name) b.1 in
      true_or (bytes_eq name c.name) (list_any (λ (p : Dependency). not p.conflict && bytes_eq name p.name) c.provides)
      (inr (one_any (λ (p : Dependency). not p.conflict && bytes_eq name p.name) c.provides a.0 a.1 (rw b.0 n.1)))
]

-- no choice occupies the name, looked for among those that offer it
pub occupied_among_offers : (pool : SelectionProblem) (chosen : List ℕ) (name : List ℕ) → ((k : ℕ) → IsIn k (places_offering name pool.candidates) → IsIn k chosen → candidate_at_passes pool (occupies_name name) k ≡ false) → (k : ℕ) → IsIn k chosen → candidate_at_passes pool (occupies_name name) k ≡ false
occupied_among_offers pool chosen name none k there = elim (cases_Bool (candidate_at_passes pool (occupies_name name) k)) [
  | inr e ↦ e
  | inl e ↦
      let z : 0 + k ≡ k = omega arith in
      let offered : IsIn k (places_offering name pool.candidates) = subst (λ (o : ℕ). IsIn o (places_offering name pool.candidates)) z
      (in_places 0 (offers_name name) pool.candidates k (at_weaker (occupies_name name) (offers_name name) (slice_get pool.candidates k) (occupied_offers name) e)) in
      none k offered there
]

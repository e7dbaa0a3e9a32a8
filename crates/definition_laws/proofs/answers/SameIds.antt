-- When two ids are those of one package.
use Rattle.std.proofs.Common.{◌≡◌, ◌≢◌, inl, inr, ◌↔◌, ℕ, true, List, [], ◌∷◌, ◌++◌, length, drop, refl, arith}
use Rattle.std.specs.Prelude.{◌&&◌, ◌||◌, nat_eq, nat_lt}
use Rattle.std.specs.List.{starts_with}
use Rattle.std.proofs.lemmas.Bool.{and_from, and_parts, or_cases, or_left, or_right}
use Rattle.std.proofs.lemmas.Bool.Decides.{Decides-eqb}
use Rattle.std.proofs.lemmas.Slice.Eq.{starts_is}
use Rattle.tell_core.specs.candidate_core.Candidates.{is_same_id_by_nonempty_prefix}
use Rattle.definition_laws.specs.answers.SameIds.{AreNonemptyAndOneBeginsTheOther}

-- ---- a list that begins with another

begins : (s p : List ℕ) → starts_with nat_eq s p ≡ true → s ≡ p ++ drop (length p) s
begins s p = (starts_is Decides-eqb s p (starts_with nat_eq s p) refl).0

begun : (s p rest : List ℕ) → s ≡ p ++ rest → starts_with nat_eq s p ≡ true
begun s p = (starts_is Decides-eqb s p (starts_with nat_eq s p) refl).1

-- ---- a list that has a byte

bytes_there : (a : List ℕ) → nat_lt 0 (length a) ≡ true → a ≢ []
bytes_there [] h is = absurd (cc)
bytes_there (x ∷ a) h is = cc

there : (a : List ℕ) → a ≢ [] → nat_lt 0 (length a) ≡ true
there [] some = absurd (some refl)
there (x ∷ a) some = grind arith

-- ---- ids

pub same_ids : (a b : List ℕ) → (is_same_id_by_nonempty_prefix a b ≡ true) ↔ AreNonemptyAndOneBeginsTheOther a b
same_ids a b = (
  λ e.
      let one = and_parts (nat_lt 0 (length a)) (nat_lt 0 (length b) && (starts_with nat_eq a b || starts_with nat_eq b a)) e in
      let other = and_parts (nat_lt 0 (length b)) (starts_with nat_eq a b || starts_with nat_eq b a) one.1 in
      elim (or_cases (starts_with nat_eq a b) (starts_with nat_eq b a) other.1) [
        | inl first ↦ record {
          first_has_bytes = bytes_there a one.0;
          second_has_bytes = bytes_there b other.0;
          rest = drop (length b) a;
          begins = inl (begins a b first);
        }
        | inr second ↦ record {
          first_has_bytes = bytes_there a one.0;
          second_has_bytes = bytes_there b other.0;
          rest = drop (length a) b;
          begins = inr (begins b a second);
        }
      ],
  λ s.
      and_from (nat_lt 0 (length a)) (nat_lt 0 (length b) && (starts_with nat_eq a b || starts_with nat_eq b a)) (there a s.first_has_bytes)
      (and_from (nat_lt 0 (length b)) (starts_with nat_eq a b || starts_with nat_eq b a) (there b s.second_has_bytes) (elim s.begins [
        | inl first ↦ or_left (starts_with nat_eq a b) (starts_with nat_eq b a) (begun a b s.rest first)
        | inr second ↦ or_right (starts_with nat_eq a b) (starts_with nat_eq b a) (begun b a s.rest second)
      ])),
)

-- Marks that are set through the table of names.
use Rattle.std.proofs.Common.{◌≡◌, inl, inr, ℕ, zero, suc, Bool, true, false, List, [], ◌∷◌, ◌++◌, length, map, refl, sym, subst, ap, ◌∙◌, arith}
use Rattle.std.specs.Prelude.{Option, Some, None, slice_get, ◌&&◌, ◌||◌, not}
use Rattle.std.specs.Option.{option_map_or}
use Rattle.std.specs.Cmp.Lexicographic.{bytes_decides}
use Rattle.std.specs.List.{list_any}
use Rattle.std.specs.Str.{bytes_eq}
use Rattle.std.proofs.Math.ListN.{set}
use Rattle.std.proofs.Math.Bool.{or-true, or-false, or_assoc}
use Rattle.std.proofs.lemmas.Bool.{cases_Bool}
use Rattle.dep_core.specs.Dependency.{Dependency}
use Rattle.pool_core.specs.declared.marks.Effect.{Effect}
use Rattle.pool_core.specs.declared.marks.Effect.TheVariants.{Bar, Pin}
use Rattle.option_ranks.specs.candidate_core.Candidates.{Candidate, is_allowed_by_tags_of_world, is_barred_by_world, offers_name}
use Rattle.pool_core.specs.Marks.{affects, is_affected, with_mark_set_at, with_marks_set}
use Rattle.option_ranks.specs.candidate_core.Options.{places_passing_counted_from}
use Rattle.option_ranks.specs.candidate_core.Rank.{is_pinned, is_name_pinned_to_tag}
use Rattle.pool_core.proofs.Filtered.{meeting_offers}
use Rattle.option_ranks.proofs.candidate_core.Steps.{any_snoc}

pub length-with_marks_set : (test : Candidate → Bool) (ms : List Bool) (cs : List Candidate) → length (with_marks_set test ms cs) ≡ length ms
length-with_marks_set test [] cs = refl
length-with_marks_set test (m ∷ ms) [] = refl
length-with_marks_set test (m ∷ ms) (c ∷ cs) = ap suc (length-with_marks_set test ms cs)

length-with_mark_set_at : (test : Candidate → Bool) (k : ℕ) (ms : List Bool) (cs : List Candidate) → length (with_mark_set_at test k ms cs) ≡ length ms
length-with_mark_set_at test k [] cs = refl
length-with_mark_set_at test k (m ∷ ms) [] = refl
length-with_mark_set_at test zero (m ∷ ms) (c ∷ cs) = refl
length-with_mark_set_at test (suc k) (m ∷ ms) (c ∷ cs) = ap suc (length-with_mark_set_at test k ms cs)

-- ---- one place

pub with_mark_set_at-passed : (test : Candidate → Bool) (k : ℕ) (ms : List Bool) (cs : List Candidate) (c : Candidate) → slice_get cs k ≡ Some c → test c ≡ true → length ms ≡ length cs → with_mark_set_at test k ms cs ≡ set ms k true
with_mark_set_at-passed test zero [] cs c h e l = refl
with_mark_set_at-passed test (suc k) [] cs c h e l = refl
with_mark_set_at-passed test k (m ∷ ms) [] c h e l = absurd (omega (arith, l))
with_mark_set_at-passed test zero (m ∷ ms) (d ∷ cs) c h e l =
    let s : c ≡ d = cc in
    let is : test d ≡ true = subst (λ (z : Candidate). test z ≡ true) s e in
    ap (λ (b : Bool). b ∷ ms) (ap (λ (b : Bool). m || b) is ∙ or-true m)
with_mark_set_at-passed test (suc k) (m ∷ ms) (d ∷ cs) c h e l = ap (λ (z : List Bool). m ∷ z) (with_mark_set_at-passed test k ms cs c h e (omega (arith, l)))

pub with_mark_set_at-failed : (test : Candidate → Bool) (k : ℕ) (ms : List Bool) (cs : List Candidate) (c : Candidate) → slice_get cs k ≡ Some c → test c ≡ false → with_mark_set_at test k ms cs ≡ ms
with_mark_set_at-failed test k [] cs c h e = refl
with_mark_set_at-failed test k (m ∷ ms) [] c h e = refl
with_mark_set_at-failed test zero (m ∷ ms) (d ∷ cs) c h e =
    let s : c ≡ d = cc in
    let is : test d ≡ false = subst (λ (z : Candidate). test z ≡ false) s e in
    ap (λ (b : Bool). b ∷ ms) (ap (λ (b : Bool). m || b) is ∙ or-false m)
with_mark_set_at-failed test (suc k) (m ∷ ms) (d ∷ cs) c h e = ap (λ (z : List Bool). m ∷ z) (with_mark_set_at-failed test k ms cs c h e)

-- ---- some places

abbrev pub marks_among : (Candidate → Bool) → List ℕ → List Bool → List Candidate → List Bool
marks_among test [] ms cs = ms
marks_among test (k ∷ ks) ms cs = marks_among test ks (with_mark_set_at test k ms cs) cs

pub marks_among-snoc : (test : Candidate → Bool) (ks : List ℕ) (k : ℕ) (ms : List Bool) (cs : List Candidate) → marks_among test (ks ++ k ∷ []) ms cs ≡ with_mark_set_at test k (marks_among test ks ms cs) cs
marks_among-snoc test [] k ms cs = refl
marks_among-snoc test (j ∷ ks) k ms cs = marks_among-snoc test ks k (with_mark_set_at test j ms cs) cs

pub length-marks_among : (test : Candidate → Bool) (ks : List ℕ) (ms : List Bool) (cs : List Candidate) → length (marks_among test ks ms cs) ≡ length ms
length-marks_among test [] ms cs = refl
length-marks_among test (k ∷ ks) ms cs = length-marks_among test ks (with_mark_set_at test k ms cs) cs ∙ length-with_mark_set_at test k ms cs

later_places : (n : ℕ) (test : Candidate → Bool) (cs : List Candidate) → places_passing_counted_from (suc n) test cs ≡ map suc (places_passing_counted_from n test cs)
later_places n test [] = refl
later_places n test (c ∷ cs) = elim (cases_Bool (test c)) [
  | inl e ↦ rw e (ap (λ (z : List ℕ). suc n ∷ z) (later_places (suc n) test cs))
  | inr e ↦ rw e (later_places (suc n) test cs)
]

later_marks : (test : Candidate → Bool) (ks : List ℕ) (m : Bool) (ms : List Bool) (c : Candidate) (cs : List Candidate) → marks_among test (map suc ks) (m ∷ ms) (c ∷ cs) ≡ m ∷ marks_among test ks ms cs
later_marks test [] m ms c cs = refl
later_marks test (k ∷ ks) m ms c cs = later_marks test ks m (with_mark_set_at test k ms cs) c cs

-- marking at the places that pass a weaker test marks all that pass
marks_at_places : (weak test : Candidate → Bool) → ((c : Candidate) → weak c ≡ false → test c ≡ false) → (ms : List Bool) (cs : List Candidate) → length ms ≡ length cs → marks_among test (places_passing_counted_from 0 weak cs) ms cs ≡ with_marks_set test ms cs
marks_at_places weak test out [] [] h = refl
marks_at_places weak test out [] (c ∷ cs) h = absurd (omega (arith, h))
marks_at_places weak test out (m ∷ ms) [] h = refl
marks_at_places weak test out (m ∷ ms) (c ∷ cs) h =
    let rest : marks_among test (places_passing_counted_from 0 weak cs) ms cs ≡ with_marks_set test ms cs = marks_at_places weak test out ms cs (omega (arith, h)) in
    let behind : (b : Bool) → marks_among test (places_passing_counted_from 1 weak cs) (b ∷ ms) (c ∷ cs) ≡ b ∷ with_marks_set test ms cs =
    λ b. ap (λ (ks : List ℕ). marks_among test ks (b ∷ ms) (c ∷ cs)) (later_places 0 weak cs) ∙ (later_marks test (places_passing_counted_from 0 weak cs) b ms c cs ∙ ap (λ (z : List Bool). b ∷ z) rest) in
    elim (cases_Bool (weak c)) [
      | inl e ↦ rw e (behind (m || test c))
      | inr e ↦ rw e (behind m ∙ ap (λ (b : Bool). b ∷ with_marks_set test ms cs) (sym (ap (λ (b : Bool). m || b) (out c e) ∙ or-false m)))
    ]

-- ---- what an entry affects offers its name

pinned_offers : (name : List ℕ) (d : Dependency) (o : Option (List ℕ)) → option_map_or (λ tag. bytes_eq name d.name && option_map_or (bytes_eq tag) d.tag false) o false ≡ true → bytes_eq d.name name ≡ true
pinned_offers name d None h = absurd (cc)
pinned_offers name d (Some tag) h = elim (cases_Bool (bytes_eq name d.name)) [
  | inl e ↦ (bytes_decides d.name name).1 (sym ((bytes_decides name d.name).0 e))
  | inr e ↦ let bad : false ≡ true = rw e at h in absurd (cc)
]

affected_offers : (effect : Effect) (d : Dependency) (c : Candidate) → affects effect d c ≡ true → offers_name d.name c ≡ true
affected_offers Bar d c h = elim (cases_Bool d.conflict) [
  | inl e ↦ meeting_offers d c (rw e at h)
  | inr e ↦ let bad : false ≡ true = rw e at h in absurd (cc)
]
affected_offers Pin d c h = rw (pinned_offers c.name d c.tag h) refl

not_affected : (effect : Effect) (d : Dependency) (c : Candidate) → offers_name d.name c ≡ false → affects effect d c ≡ false
not_affected effect d c h = elim (cases_Bool (affects effect d c)) [
  | inl e ↦ let bad : true ≡ false = sym (affected_offers effect d c e) ∙ h in absurd (cc)
  | inr e ↦ e
]

pub marks_at_offers : (effect : Effect) (d : Dependency) (ms : List Bool) (cs : List Candidate) → length ms ≡ length cs → marks_among (affects effect d) (places_passing_counted_from 0 (offers_name d.name) cs) ms cs ≡ with_marks_set (affects effect d) ms cs
marks_at_offers effect d ms cs h = marks_at_places (offers_name d.name) (affects effect d) (not_affected effect d) ms cs h

-- ---- some entries

pub no_entry : (effect : Effect) (ms : List Bool) (cs : List Candidate) → with_marks_set (is_affected effect []) ms cs ≡ ms
no_entry effect [] cs = refl
no_entry effect (m ∷ ms) [] = refl
no_entry effect (m ∷ ms) (c ∷ cs) = ap (λ (b : Bool). b ∷ with_marks_set (is_affected effect []) ms cs) (or-false m) ∙ ap (λ (z : List Bool). m ∷ z) (no_entry effect ms cs)

pub one_entry_more : (effect : Effect) (ds : List Dependency) (d : Dependency) (ms : List Bool) (cs : List Candidate) → with_marks_set (affects effect d) (with_marks_set (is_affected effect ds) ms cs) cs ≡ with_marks_set (is_affected effect (ds ++ d ∷ [])) ms cs
one_entry_more effect ds d [] cs = refl
one_entry_more effect ds d (m ∷ ms) [] = refl
one_entry_more effect ds d (m ∷ ms) (c ∷ cs) =
    let here : ((m || is_affected effect ds c) || affects effect d c) ≡ (m || is_affected effect (ds ++ d ∷ []) c) =
    or_assoc m (is_affected effect ds c) (affects effect d c) ∙ ap (λ (b : Bool). m || b) (sym (any_snoc (λ (e : Dependency). affects effect e c) ds d)) in
    ap (λ (b : Bool). b ∷ with_marks_set (affects effect d) (with_marks_set (is_affected effect ds) ms cs) cs) here
    ∙ ap (λ (z : List Bool). (m || is_affected effect (ds ++ d ∷ []) c) ∷ z) (one_entry_more effect ds d ms cs)

-- ---- all candidates

with_marks_set-map : (test f : Candidate → Bool) (cs : List Candidate) → with_marks_set test (map f cs) cs ≡ map (λ (c : Candidate). f c || test c) cs
with_marks_set-map test f [] = refl
with_marks_set-map test f (c ∷ cs) = ap (λ (z : List Bool). (f c || test c) ∷ z) (with_marks_set-map test f cs)

not_or : (a e : Bool) → not (not a || e) ≡ (a && not e)
not_or true e = refl
not_or false e = refl

opposite : (allowed excluded : Candidate → Bool) (cs : List Candidate) → map not (map (λ (c : Candidate). not (allowed c) || excluded c) cs) ≡ map (λ (c : Candidate). allowed c && not (excluded c)) cs
opposite allowed excluded [] = refl
opposite allowed excluded (c ∷ cs) =
    ap (λ (b : Bool). b ∷ map not (map (λ (c : Candidate). not (allowed c) || excluded c) cs)) (not_or (allowed c) (excluded c))
    ∙ ap (λ (z : List Bool). (allowed c && not (excluded c)) ∷ z) (opposite allowed excluded cs)

pub eligible_by_marks : (tagged conflicts : List Dependency) (cs : List Candidate) (barred marked : List Bool) → barred ≡ map (λ (c : Candidate). not (is_allowed_by_tags_of_world tagged c)) cs → marked ≡ with_marks_set (is_affected Bar conflicts) barred cs → map not marked ≡ map (λ (c : Candidate). is_allowed_by_tags_of_world tagged c && not (is_barred_by_world conflicts c)) cs
eligible_by_marks tagged conflicts cs barred marked start is =
    ap (map not) (is ∙ (ap (λ (ms : List Bool). with_marks_set (is_affected Bar conflicts) ms cs) start ∙ with_marks_set-map (is_affected Bar conflicts) (λ (c : Candidate). not (is_allowed_by_tags_of_world tagged c)) cs))
    ∙ opposite (is_allowed_by_tags_of_world tagged) (is_barred_by_world conflicts) cs

no_pin : (ds : List Dependency) → list_any (λ (d : Dependency). false) ds ≡ false
no_pin [] = refl
no_pin (d ∷ ds) = no_pin ds

pinned_by_any : (name : List ℕ) (o : Option (List ℕ)) (ds : List Dependency) → list_any (λ (d : Dependency). option_map_or (λ tag. bytes_eq name d.name && option_map_or (bytes_eq tag) d.tag false) o false) ds ≡ option_map_or (is_name_pinned_to_tag ds name) o false
pinned_by_any name None ds = no_pin ds
pinned_by_any name (Some tag) ds = refl

each_pinned : (ds : List Dependency) (cs : List Candidate) → map (λ (c : Candidate). false || is_affected Pin ds c) cs ≡ map (λ (c : Candidate). is_pinned ds c) cs
each_pinned ds [] = refl
each_pinned ds (c ∷ cs) =
    ap (λ (b : Bool). b ∷ map (λ (c : Candidate). false || is_affected Pin ds c) cs) (pinned_by_any c.name c.tag ds)
    ∙ ap (λ (z : List Bool). is_pinned ds c ∷ z) (each_pinned ds cs)

pub pinned_by_marks : (tagged : List Dependency) (cs : List Candidate) (none marked : List Bool) → none ≡ map (λ (c : Candidate). false) cs → marked ≡ with_marks_set (is_affected Pin tagged) none cs → marked ≡ map (λ (c : Candidate). is_pinned tagged c) cs
pinned_by_marks tagged cs none marked start is =
    is ∙ (ap (λ (ms : List Bool). with_marks_set (is_affected Pin tagged) ms cs) start ∙ (with_marks_set-map (is_affected Pin tagged) (λ (c : Candidate). false) cs ∙ each_pinned tagged cs))

pub map-snoc : {X Y : Type 0} (f : X → Y) (xs : List X) (x : X) → map f (xs ++ x ∷ []) ≡ map f xs ++ f x ∷ []
map-snoc f [] x = refl
map-snoc {X} {Y} f (y ∷ xs) x = ap (λ (z : List Y). f y ∷ z) (map-snoc f xs x)

-- Choices stay consistent when one is made and when one is taken back.
use Rattle.std.proofs.Common.{◌≡◌, inl, inr, ℕ, zero, suc, ◌+◌, ◌≤◌, ◌<◌, Bool, true, false, List, [], ◌∷◌, ◌++◌, length, take, refl, sym, subst, ap, ◌∙◌, arith, append_assoc, append-nil}
use Rattle.std.specs.Prelude.{Option, Some, None, slice_get, option_to_list, map, MatchOption, not, if◌then◌else◌, ◌⊎◌}
use Rattle.std.specs.Bool.{MatchBool}
use Rattle.dep_core.specs.Dependency.{Dependency}
use Rattle.std.specs.Option.{option_map_or}
use Rattle.std.specs.List.{filter, find, flat_map}
use Rattle.search_needs.specs.candidate_core.Candidates.{Candidate, Need, entry, named}
use Rattle.search_needs.specs.candidate_core.Rank.{SelectionProblem, candidate_at_passes}
use Rattle.search_needs.specs.candidate_core.Candidates.{is_eligible}
use Rattle.search_needs.specs.search_tables.Reasons.{IsFrameTaking, ruled_out_options}
use Rattle.std.proofs.lemmas.Bool.{cases_Bool}
use Rattle.search_needs.specs.candidate_core.Options.{IsIn, options_for}
use Rattle.search_needs.specs.search_tables.Selection.{AreAllMembersOf, names_whose_install_if_applies, depends_at, is_met, is_unmet, needs, positive_needs, next_need, needs_of_world_and_chosen}
use Rattle.search_needs.specs.search_tables.Reasons.{FrameValue, IsFrameOf}
use Rattle.search_needs.specs.TriggeredInstallIf.{AreNoneTriggeredBelow}
use Rattle.search_needs.specs.search_tables.InstallIf.{AreUsableInstallIfsByName}
use Rattle.search_needs.specs.search_tables.Queue.{AreFirstDepsMet, RaisedDepValue, is_unmet_dep, queue_of, raised_deps_at, raised_deps, raised_deps_from}
use Rattle.search_needs.specs.search_tables.Conflicts.{AreConflictsOf, HasDepends, ListedConflictValue, conflicts_among, conflicts_in, conflicts_of_name_in}
use Rattle.search_needs.specs.search_tables.Excluders.{IsConflictTable}
use Rattle.search_needs.specs.search_tables.NameTable.{items_under_name}
use Rattle.search_needs.specs.search_tables.Reasons.{HasOptions}
use Rattle.search_choices.specs.Choices.{AreCheckpointsOfLaterChoices, IsConsistent, choices_of, install_ifs_of, pool_of}
use Rattle.search_needs.specs.search_tables.declared.conflicts.Conflicts.{Conflicts}
use Rattle.search_needs.specs.search_tables.declared.install_ifs.InstallIfs.{InstallIfs}
use Rattle.search_choices.specs.declared.choices.Choices.{Choices}
use Rattle.search_needs.specs.search_tables.declared.queue.Checkpoint.{Checkpoint}
use Rattle.search_needs.proofs.search_tables.Theory.{in_left, in_right, in_append}
use Rattle.search_needs.proofs.search_tables.PoolFacts.{find_in, pool_facts}
use Rattle.search_needs.proofs.search_tables.ConflictTables.{listed_more}
use Rattle.search_needs.proofs.search_tables.Queued.{find_here, past_end, met_more, met_next, queue_more}

module _ (pool : SelectionProblem) (install_ifs : List ℕ) where
  abbrev pub IsBefore : List ℕ → Checkpoint → Type 0
  IsBefore u b = (b.queue_len ≡ length (queue_of pool u)) × AreFirstDepsMet pool u b.cursor × AreNoneTriggeredBelow pool u install_ifs b.asking_cursor

  pub checkpoints_more : (u cs : List ℕ) (bs : List Checkpoint) (c : ℕ) (b : Checkpoint) → AreCheckpointsOfLaterChoices pool install_ifs u cs bs → IsBefore (u ++ cs) b → AreCheckpointsOfLaterChoices pool install_ifs u (cs ++ c ∷ []) (bs ++ b ∷ [])
  checkpoints_more u [] [] c b checkpoints last =
      let l : IsBefore u b = subst (λ (z : List ℕ). IsBefore z b) (append-nil u) last in
      (l.0, l.1, l.2, tt)
  checkpoints_more u [] (x ∷ bs) c b checkpoints last = absurd checkpoints
  checkpoints_more u (d ∷ cs) [] c b checkpoints last = absurd checkpoints
  checkpoints_more u (d ∷ cs) (x ∷ bs) c b checkpoints last =
      (checkpoints.0, checkpoints.1, checkpoints.2, checkpoints_more (u ++ d ∷ []) cs bs c b checkpoints.3 (subst (λ (z : List ℕ). IsBefore z b) (sym (append_assoc u (d ∷ []) cs)) last))

  pub checkpoints_none : (u cs : List ℕ) → AreCheckpointsOfLaterChoices pool install_ifs u cs [] → cs ≡ []
  checkpoints_none u [] checkpoints = refl
  checkpoints_none u (c ∷ cs) checkpoints = absurd checkpoints

  pub checkpoints_less : (u cs : List ℕ) (bs : List Checkpoint) (b : Checkpoint) → AreCheckpointsOfLaterChoices pool install_ifs u cs (bs ++ b ∷ []) → (rest : List ℕ) × (c : ℕ) × (cs ≡ rest ++ c ∷ []) × AreCheckpointsOfLaterChoices pool install_ifs u rest bs × IsBefore (u ++ rest) b
  checkpoints_less u [] [] b checkpoints = absurd checkpoints
  checkpoints_less u [] (x ∷ bs) b checkpoints = absurd checkpoints
  checkpoints_less u (d ∷ cs) [] b checkpoints =
      ([], d, ap (λ (z : List ℕ). d ∷ z) (checkpoints_none (u ++ d ∷ []) cs checkpoints.3), tt, subst (λ (z : List ℕ). IsBefore z b) (sym (append-nil u)) (checkpoints.0, checkpoints.1, checkpoints.2))
  checkpoints_less u (d ∷ cs) (x ∷ bs) b checkpoints =
      let r = checkpoints_less (u ++ d ∷ []) cs bs b checkpoints.3 in
      (d ∷ r.0, r.1, ap (λ (z : List ℕ). d ∷ z) r.2, (checkpoints.0, checkpoints.1, checkpoints.2, r.3), subst (λ (z : List ℕ). IsBefore z b) (append_assoc u (d ∷ []) r.0) r.4)

pub never_empty : (rest : List ℕ) (c : ℕ) → [] ≡ rest ++ c ∷ [] → ⊥
never_empty [] c e = cc
never_empty (x ∷ rest) c e = cc

-- ---- what a new choice brings

at_within : {X : Type 0} (p : X → Bool) (xs : List X) (k : ℕ) → option_map_or p (slice_get xs k) false ≡ true → k < length xs
at_within p [] zero h = absurd (cc)
at_within p [] (suc k) h = absurd (cc)
at_within p (x ∷ xs) zero h = omega arith
at_within p (x ∷ xs) (suc k) h = let r = at_within p xs k h in omega arith

pub passing_is_within : (pool : SelectionProblem) (p : Candidate → Bool) (k : ℕ) → candidate_at_passes pool p k ≡ true → k < length pool.candidates
passing_is_within pool p k h = at_within p pool.candidates k h

-- ---- a choice is made

-- what the pool, the choices and the order of the install-ifs say of all else
pub record IsStep (old new : Choices) (t : List ℕ) : Type 0 where
  pub pool : pool_of new ≡ pool_of old
  pub choices : choices_of new ≡ t
  pub install_ifs : new.install_ifs ≡ old.install_ifs

-- consistent again, if all is as a list of choices has it
pub consistent_by : (old new : Choices) (t : List ℕ) → IsStep old new t
    → AreUsableInstallIfsByName (pool_of old) (install_ifs_of old) old.install_ifs.waiting
    → ((c : ℕ) → IsIn c t → c < length (pool_of old).candidates)
    → new.queue.items ≡ queue_of (pool_of old) t
    → AreFirstDepsMet (pool_of old) t new.cursor
    → AreNoneTriggeredBelow (pool_of old) t (install_ifs_of old) new.asking_cursor
    → IsConflictTable (pool_of old) t new.conflicts
    → AreConflictsOf (pool_of old).candidates new.conflicts.by_name
    → AreCheckpointsOfLaterChoices (pool_of old) (install_ifs_of old) [] t new.checkpoints.items
    → IsConsistent new
consistent_by old new t step are within queue met unasked listed conflicts checkpoints =
    let p = sym step.pool in
    let s = sym step.choices in
    let i : install_ifs_of old ≡ install_ifs_of new = ap (λ (z : InstallIfs). z.by_name.items) (sym step.install_ifs) in
    let w : List (List ℕ × List ℕ) = old.install_ifs.waiting in
    let same_waiting : w ≡ new.install_ifs.waiting = ap (λ (z : InstallIfs). z.waiting) (sym step.install_ifs) in
    record {
      within = λ k h. subst (λ (q : SelectionProblem). k < length q.candidates) p (within k (subst (λ (z : List ℕ). IsIn k z) step.choices h));
      queue = queue ∙ (ap (queue_of (pool_of old)) s ∙ ap (λ (q : SelectionProblem). queue_of q (choices_of new)) p);
      met = subst (λ (q : SelectionProblem). AreFirstDepsMet q (choices_of new) new.cursor) p (subst (λ (z : List ℕ). AreFirstDepsMet (pool_of old) z new.cursor) s met);
      install_ifs = subst (λ (q : SelectionProblem). AreUsableInstallIfsByName q (install_ifs_of new) new.install_ifs.waiting) p
          (subst (λ (z : List ℕ). AreUsableInstallIfsByName (pool_of old) z new.install_ifs.waiting) i (subst (λ (z : List (List ℕ × List ℕ)). AreUsableInstallIfsByName (pool_of old) (install_ifs_of old) z) same_waiting are));
      unasked = subst (λ (q : SelectionProblem). AreNoneTriggeredBelow q (choices_of new) (install_ifs_of new) new.asking_cursor) p
          (subst (λ (z : List ℕ). AreNoneTriggeredBelow (pool_of old) z (install_ifs_of new) new.asking_cursor) s (subst (λ (z : List ℕ). AreNoneTriggeredBelow (pool_of old) t z new.asking_cursor) i unasked));
      listed = subst (λ (q : SelectionProblem). IsConflictTable q (choices_of new) new.conflicts) p (subst (λ (z : List ℕ). IsConflictTable (pool_of old) z new.conflicts) s listed);
      conflicts = subst (λ (q : SelectionProblem). AreConflictsOf q.candidates new.conflicts.by_name) p conflicts;
      checkpoints = subst (λ (q : SelectionProblem). AreCheckpointsOfLaterChoices q (install_ifs_of new) [] (choices_of new) new.checkpoints.items) p
          (subst (λ (z : List ℕ). AreCheckpointsOfLaterChoices (pool_of old) (install_ifs_of new) [] z new.checkpoints.items) s (subst (λ (z : List ℕ). AreCheckpointsOfLaterChoices (pool_of old) z [] t new.checkpoints.items) i checkpoints));
    }

pub consistent_more : (old new : Choices) (c : ℕ) (deps : List Dependency) (b : Checkpoint) → IsConsistent old → c < length (pool_of old).candidates → deps ≡ depends_at (pool_of old) c → IsStep old new (choices_of old ++ c ∷ []) → new.queue.items ≡ old.queue.items ++ raised_deps (Some c) deps → new.cursor ≡ old.cursor → new.checkpoints.items ≡ old.checkpoints.items ++ b ∷ [] → b.queue_len ≡ length old.queue.items → b.cursor ≡ old.cursor → b.asking_cursor ≡ old.asking_cursor
    → AreNoneTriggeredBelow (pool_of old) (choices_of old ++ c ∷ []) (install_ifs_of old) new.asking_cursor → ((name : List ℕ) → conflicts_in new.conflicts.by_name name ≡ conflicts_in old.conflicts.by_name name ++ conflicts_of_name_in name c deps)
    → ((candidates : List Candidate) → HasDepends candidates c deps → AreConflictsOf candidates old.conflicts.by_name → AreConflictsOf candidates new.conflicts.by_name) → IsConsistent new
consistent_more old new c deps b consistent small is step queue at checkpoints b_queue b_at b_asking unasked conflicts listed =
    let p = pool_of old in
    let t = choices_of old in
    let t' = t ++ c ∷ [] in
    let before : IsBefore p (install_ifs_of old) t b =
    (b_queue ∙ ap length consistent.queue, subst (λ (k : ℕ). AreFirstDepsMet p t k) (sym b_at) consistent.met, subst (λ (k : ℕ). AreNoneTriggeredBelow p t (install_ifs_of old) k) (sym b_asking) consistent.unasked) in
    let all_queue : new.queue.items ≡ queue_of p t' =
    queue ∙ (ap (λ (z : List RaisedDepValue). z ++ raised_deps (Some c) deps) consistent.queue ∙ (ap (λ (z : List Dependency). queue_of p t ++ raised_deps (Some c) z) is ∙ sym (queue_more p t c))) in
    let all_met : AreFirstDepsMet p t' new.cursor = subst (λ (k : ℕ). AreFirstDepsMet p t' k) (sym at) (met_more p t c old.cursor consistent.met) in
    let all_saved : AreCheckpointsOfLaterChoices p (install_ifs_of old) [] t' new.checkpoints.items =
    subst (λ (z : List Checkpoint). AreCheckpointsOfLaterChoices p (install_ifs_of old) [] t' z) (sym checkpoints) (checkpoints_more p (install_ifs_of old) [] t old.checkpoints.items c b consistent.checkpoints before) in
    let all_within : (k : ℕ) → IsIn k t' → k < length p.candidates = λ k h. elim (in_append k t (c ∷ []) h) [
      | inl a ↦ consistent.within k a
      | inr d ↦ elim d [ inl e ↦ subst (λ (z : ℕ). z < length p.candidates) (sym e) small | inr bad ↦ absurd bad ]
    ] in
    let has : HasDepends p.candidates c deps = λ k there. sym (is ∙ ap (λ (o : Option Candidate). option_map_or (λ (e : Candidate). e.depends) o []) there) in
    consistent_by old new t' step consistent.install_ifs all_within all_queue all_met unasked (listed_more p t c deps old.conflicts new.conflicts is consistent.listed conflicts) (listed p.candidates has consistent.conflicts) all_saved

take_none : {X : Type 0} (xs : List X) → take 0 xs ≡ []
take_none [] = refl
take_none (x ∷ xs) = refl

pub met_start : (pool : SelectionProblem) (t : List ℕ) → AreFirstDepsMet pool t 0
met_start pool t = (omega arith, ap (find (is_unmet_dep pool t)) (take_none (queue_of pool t)))

-- ---- no choices

none_below : (k : ℕ) → k < 0 → ⊥
none_below k h = absurd (omega (arith, h))

pub consistent_start : (chosen : Choices) → choices_of chosen ≡ [] → chosen.queue.items ≡ [] ++ raised_deps None (pool_of chosen).world → chosen.cursor ≡ 0 → chosen.asking_cursor ≡ 0 → AreUsableInstallIfsByName (pool_of chosen) (install_ifs_of chosen) chosen.install_ifs.waiting → chosen.conflicts.by_name ≡ [] → chosen.checkpoints.items ≡ [] → IsConsistent chosen
consistent_start chosen none queue at asking are conflicts checkpoints =
    let p = pool_of chosen in
    let all : raised_deps None p.world ≡ queue_of p [] = sym (append-nil (raised_deps None p.world)) in
    record {
      within = λ k h. absurd (subst (λ (z : List ℕ). IsIn k z) none h);
      queue = queue ∙ (all ∙ ap (queue_of p) (sym none));
      met = subst (λ (k : ℕ). AreFirstDepsMet p (choices_of chosen) k) (sym at) (met_start p (choices_of chosen));
      install_ifs = are;
      unasked = subst (λ (k : ℕ). AreNoneTriggeredBelow p (choices_of chosen) (install_ifs_of chosen) k) (sym asking) (λ rank low. absurd (none_below rank low));
      listed = λ name. ap (λ (z : List (List ℕ × List ListedConflictValue)). conflicts_in z name) conflicts ∙ ap (λ (z : List ℕ). conflicts_among p z name) (sym none);
      conflicts = λ name listed h. absurd (subst (λ (z : List (List ℕ × List ListedConflictValue)). IsIn listed (items_under_name z name)) conflicts h);
      checkpoints = subst (λ (z : List ℕ). AreCheckpointsOfLaterChoices p (install_ifs_of chosen) [] z chosen.checkpoints.items) (sym none) (subst (λ (z : List Checkpoint). AreCheckpointsOfLaterChoices p (install_ifs_of chosen) [] [] z) (sym checkpoints) tt);
    }

-- ---- the cursors

pub consistent_on : (old new : Choices) → IsConsistent old → IsStep old new (choices_of old) → new.queue.items ≡ old.queue.items → new.conflicts ≡ old.conflicts → new.checkpoints.items ≡ old.checkpoints.items → AreFirstDepsMet (pool_of old) (choices_of old) new.cursor → AreNoneTriggeredBelow (pool_of old) (choices_of old) (install_ifs_of old) new.asking_cursor → IsConsistent new
consistent_on old new consistent step queue conflicts checkpoints met unasked =
    consistent_by old new (choices_of old) step consistent.install_ifs consistent.within (queue ∙ consistent.queue) met unasked
    (subst (λ (z : Conflicts). IsConflictTable (pool_of old) (choices_of old) z) (sym conflicts) consistent.listed)
    (subst (λ (z : Conflicts). AreConflictsOf (pool_of old).candidates z.by_name) (sym conflicts) consistent.conflicts)
    (subst (λ (z : List Checkpoint). AreCheckpointsOfLaterChoices (pool_of old) (install_ifs_of old) [] (choices_of old) z) (sym checkpoints) consistent.checkpoints)

get_within : {X : Type 0} (xs : List X) (i : ℕ) (x : X) → slice_get xs i ≡ Some x → i < length xs
get_within [] zero x h = absurd (cc)
get_within [] (suc i) x h = absurd (cc)
get_within (y ∷ xs) zero x h = omega arith
get_within (y ∷ xs) (suc i) x h = let r = get_within xs i x h in omega arith

pub met_by : (pool : SelectionProblem) (t : List ℕ) (queue : List RaisedDepValue) (at : ℕ) (r : RaisedDepValue) (b : Bool) → queue ≡ queue_of pool t → AreFirstDepsMet pool t at → slice_get queue at ≡ Some r → b ≡ is_met pool t (entry r.0) → MatchBool b (AreFirstDepsMet pool t (at + 1)) (slice_get queue at ≡ find (is_unmet_dep pool t) (queue_of pool t))
met_by pool t queue at r false is met here m =
    subst (λ (z : List RaisedDepValue). slice_get z at ≡ find (is_unmet_dep pool t) (queue_of pool t)) (sym is)
    (find_here (is_unmet_dep pool t) (queue_of pool t) at r met.1 (subst (λ (z : List RaisedDepValue). slice_get z at ≡ Some r) is here) (ap not (sym m)))
met_by pool t queue at r true is met here m =
    let g : slice_get (queue_of pool t) at ≡ Some r = subst (λ (z : List RaisedDepValue). slice_get z at ≡ Some r) is here in
    met_next pool t at r met (get_within (queue_of pool t) at r g) g (ap not (sym m))

get_none : {X : Type 0} (xs : List X) (i : ℕ) → slice_get xs i ≡ None → length xs ≤ i
get_none [] i h = omega arith
get_none (x ∷ xs) zero h = absurd (cc)
get_none (x ∷ xs) (suc i) h = let r = get_none xs i h in omega arith

-- ---- the frame of a raised dependency

abbrev pub need_in : RaisedDepValue → Need
need_in r = entry r.0

map_raised : (by : Option ℕ) (n : ℕ) (ds : List Dependency) → positive_needs ds ≡ map need_in (raised_deps_from by n ds)
map_raised by n [] = refl
map_raised by n (d ∷ ds) = step d.conflict (filter (λ (e : Dependency). not e.conflict) ds) (raised_deps_from by (suc n) ds) (map_raised by (suc n) ds)
  where
    step : (b : Bool) (us : List Dependency) (vs : List RaisedDepValue) → map entry us ≡ map need_in vs → map entry (if not b then d ∷ us else us) ≡ map need_in (if b then vs else (d, by, n) ∷ vs)
    step true us vs e = e
    step false us vs e = ap (λ (z : List Need). entry d ∷ z) e

map_append : (f : RaisedDepValue → Need) (xs ys : List RaisedDepValue) → map f (xs ++ ys) ≡ map f xs ++ map f ys
map_append f [] ys = refl
map_append f (x ∷ xs) ys = ap (λ (z : List Need). f x ∷ z) (map_append f xs ys)

flat_raised : (pool : SelectionProblem) (t : List ℕ) → flat_map (λ c. positive_needs (depends_at pool c)) t ≡ map need_in (flat_map (raised_deps_at pool) t)
flat_raised pool [] = refl
flat_raised pool (c ∷ t) =
    ap (λ (z : List Need). positive_needs (depends_at pool c) ++ z) (flat_raised pool t)
    ∙ (ap (λ (z : List Need). z ++ map need_in (flat_map (raised_deps_at pool) t)) (map_raised (Some c) 0 (depends_at pool c))
    ∙ sym (map_append need_in (raised_deps_at pool c) (flat_map (raised_deps_at pool) t)))

pub raised_queue : (pool : SelectionProblem) (t : List ℕ) → needs_of_world_and_chosen pool t ≡ map need_in (queue_of pool t)
raised_queue pool t =
    ap (λ (z : List Need). positive_needs pool.world ++ z) (flat_raised pool t)
    ∙ (ap (λ (z : List Need). z ++ map need_in (flat_map (raised_deps_at pool) t)) (map_raised None 0 pool.world)
    ∙ sym (map_append need_in (raised_deps None pool.world) (flat_map (raised_deps_at pool) t)))

find_map : (p : Need → Bool) (xs : List RaisedDepValue) (o : Option RaisedDepValue) → find (λ r. p (need_in r)) xs ≡ o → MatchOption o (find p (map need_in xs) ≡ None) (λ r. find p (map need_in xs) ≡ Some (need_in r))
find_map p [] None h = refl
find_map p [] (Some r) h = absurd (cc)
find_map p (x ∷ xs) o h = elim (cases_Bool (p (need_in x))) [
  | inl e ↦ rw e (here o (rw e at h))
  | inr e ↦ rw e (find_map p xs o (rw e at h))
]
  where
    here : (o : Option RaisedDepValue) → Some x ≡ o → MatchOption o (Some (need_in x) ≡ None) (λ r. Some (need_in x) ≡ Some (need_in r))
    here None h = absurd (cc)
    here (Some r) h = let e : x ≡ r = cc in ap (λ (z : RaisedDepValue). Some (need_in z)) e

flat_in : (f : ℕ → List RaisedDepValue) (q : RaisedDepValue) (xs : List ℕ) → IsIn q (flat_map f xs) → (c : ℕ) × IsIn c xs × IsIn q (f c)
flat_in f q [] h = absurd h
flat_in f q (x ∷ xs) h = elim (in_append q (f x) (flat_map f xs) h) [
  | inl a ↦ (x, inl refl, a)
  | inr b ↦ let r = flat_in f q xs b in (r.0, inr r.1, r.2)
]

-- what is among the dependencies that are raised of a list is the first or one of the others
in_raised : (by : Option ℕ) (n : ℕ) (d : Dependency) (ds : List Dependency) (r : RaisedDepValue) → IsIn r (raised_deps_from by n (d ∷ ds)) → ((d.conflict ≡ false) × (r ≡ (d, by, n))) ⊎ IsIn r (raised_deps_from by (suc n) ds)
in_raised by n d ds r h = step d.conflict (raised_deps_from by (suc n) ds) h
  where
    step : (b : Bool) (us : List RaisedDepValue) → IsIn r (if b then us else (d, by, n) ∷ us) → ((b ≡ false) × (r ≡ (d, by, n))) ⊎ IsIn r us
    step true us h = inr h
    step false us h = elim h [ inl e ↦ inl (refl, e) | inr g ↦ inr g ]

-- a need of a list without its first dependency is one of the list
in_rest : (d : Dependency) (ds : List Dependency) (q : Need) → IsIn q (positive_needs ds) → IsIn q (positive_needs (d ∷ ds))
in_rest d ds q h = step d.conflict (filter (λ (e : Dependency). not e.conflict) ds) h
  where
    step : (b : Bool) (us : List Dependency) → IsIn q (map entry us) → IsIn q (map entry (if not b then d ∷ us else us))
    step true us h = h
    step false us h = inr h

-- the first dependency, if it is no conflict, is a need of the list
first_in : (d : Dependency) (ds : List Dependency) → d.conflict ≡ false → IsIn (entry d) (positive_needs (d ∷ ds))
first_in d ds none = step d.conflict (filter (λ (e : Dependency). not e.conflict) ds) none
  where
    step : (b : Bool) (us : List Dependency) → b ≡ false → IsIn (entry d) (map entry (if not b then d ∷ us else us))
    step true us e = absurd (cc)
    step false us e = inl refl

raised_in : (by : Option ℕ) (n : ℕ) (deps : List Dependency) (r : RaisedDepValue) → IsIn r (raised_deps_from by n deps) → (r.1 ≡ by) × IsIn (entry r.0) (positive_needs deps)
raised_in by n [] r h = absurd h
raised_in by n (d ∷ ds) r h = elim (in_raised by n d ds r h) [
  | inl f ↦ (ap (λ (z : RaisedDepValue). z.1) f.1, subst (λ (z : RaisedDepValue). IsIn (entry z.0) (positive_needs (d ∷ ds))) (sym f.1) (first_in d ds f.0))
  | inr g ↦ let k = raised_in by (suc n) ds r g in (k.0, in_rest d ds (entry r.0) k.1)
]

-- what is raised is at its index
raised_at : (by : Option ℕ) (n : ℕ) (deps : List Dependency) (r : RaisedDepValue) → IsIn r (raised_deps_from by n deps) → (k : ℕ) × (r.2 ≡ n + k) × (slice_get deps k ≡ Some r.0)
raised_at by n [] r h = absurd h
raised_at by n (d ∷ ds) r h = elim (in_raised by n d ds r h) [
  | inl f ↦ let e : r.2 ≡ n + 0 = ap (λ (z : RaisedDepValue). z.2) f.1 ∙ omega arith in (0, e, ap (λ (z : RaisedDepValue). Some z.0) (sym f.1))
  | inr there ↦ let g = raised_at by (suc n) ds r there in let e : r.2 ≡ n + suc g.0 = omega (arith, g.1) in (suc g.0, e, g.2)
]

-- what a choice raises is the dependency that it has at that index
pub raised_of_choice : (pool : SelectionProblem) (t : List ℕ) (r : RaisedDepValue) (c : ℕ) → IsIn r (queue_of pool t) → r.1 ≡ Some c → slice_get (depends_at pool c) r.2 ≡ Some r.0
raised_of_choice pool t r c h by = elim (in_append r (raised_deps None pool.world) (flat_map (raised_deps_at pool) t) h) [
  | inl a ↦ let k = raised_in None 0 pool.world r a in let bad : ◌≡◌ {A = Option ℕ} None (Some c) = sym k.0 ∙ by in absurd (cc)
  | inr b ↦
      let f = flat_in (raised_deps_at pool) r t b in
      let k = raised_in (Some f.0) 0 (depends_at pool f.0) r f.2 in
      let both : ◌≡◌ {A = Option ℕ} (Some f.0) (Some c) = sym k.0 ∙ by in
      let same : f.0 ≡ c = cc in
      let g = raised_at (Some f.0) 0 (depends_at pool f.0) r f.2 in
      let at : g.0 ≡ r.2 = omega (arith, g.1) in
      subst (λ (z : ℕ). slice_get (depends_at pool z) r.2 ≡ Some r.0) same (subst (λ (n : ℕ). slice_get (depends_at pool f.0) n ≡ Some r.0) at g.2)
]

in_needs : (pool : SelectionProblem) (t : List ℕ) (r : RaisedDepValue) → IsIn r (queue_of pool t) → AreAllMembersOf (option_to_list r.1) t × IsIn (entry r.0) (needs pool (option_to_list r.1))
in_needs pool t r h = elim (in_append r (raised_deps None pool.world) (flat_map (raised_deps_at pool) t) h) [
  | inl a ↦
      let k = raised_in None 0 pool.world r a in
      subst (λ (o : Option ℕ). AreAllMembersOf (option_to_list o) t × IsIn (entry r.0) (needs pool (option_to_list o))) (sym k.0)
      ((λ c g. absurd g), in_left (entry r.0) (needs_of_world_and_chosen pool []) (map named (names_whose_install_if_applies pool [])) (in_left (entry r.0) (positive_needs pool.world) [] k.1))
  | inr b ↦
      let f = flat_in (raised_deps_at pool) r t b in
      let k = raised_in (Some f.0) 0 (depends_at pool f.0) r f.2 in
      subst (λ (o : Option ℕ). AreAllMembersOf (option_to_list o) t × IsIn (entry r.0) (needs pool (option_to_list o))) (sym k.0) (
        (λ c g. elim g [ inl e ↦ subst (λ (z : ℕ). IsIn z t) (sym e) f.1 | inr bad ↦ absurd bad ]),
        in_left (entry r.0) (needs_of_world_and_chosen pool (f.0 ∷ [])) (map named (names_whose_install_if_applies pool (f.0 ∷ []))) (in_right (entry r.0) (positive_needs pool.world) (positive_needs (depends_at pool f.0) ++ []) (in_left (entry r.0) (positive_needs (depends_at pool f.0)) [] k.1)),
      )
]

pub open_raised : (pool : SelectionProblem) (t : List ℕ) (r : RaisedDepValue) (frame : FrameValue) → find (is_unmet_dep pool t) (queue_of pool t) ≡ Some r → frame ≡ ([], options_for pool (entry r.0), option_to_list r.1) → IsFrameOf pool t frame
unfolding next_need
open_raised pool t r frame found is =
    let there = find_in (is_unmet_dep pool t) (queue_of pool t) r found in
    let facts = in_needs pool t r there.0 in
    let first : find (is_unmet pool t) (needs_of_world_and_chosen pool t) ≡ Some (entry r.0) =
    ap (find (is_unmet pool t)) (raised_queue pool t) ∙ find_map (is_unmet pool t) (queue_of pool t) (Some r) found in
    let open_now : IsFrameOf pool t ([], options_for pool (entry r.0), option_to_list r.1) =
    (entry r.0, rw first refl, refl, facts.0, facts.1, tt) in
    subst (λ (f : FrameValue). IsFrameOf pool t f) (sym is) open_now

pub none_raised : (pool : SelectionProblem) (t : List ℕ) → find (is_unmet_dep pool t) (queue_of pool t) ≡ None → find (is_unmet pool t) (needs_of_world_and_chosen pool t) ≡ None
none_raised pool t h = ap (find (is_unmet pool t)) (raised_queue pool t) ∙ find_map (is_unmet pool t) (queue_of pool t) None h

pub past_by : (pool : SelectionProblem) (t : List ℕ) (queue : List RaisedDepValue) (at : ℕ) → queue ≡ queue_of pool t → AreFirstDepsMet pool t at → slice_get queue at ≡ None → slice_get queue at ≡ find (is_unmet_dep pool t) (queue_of pool t)
past_by pool t queue at is met none =
    let past = get_none queue at none in
    subst (λ (z : List RaisedDepValue). slice_get z at ≡ find (is_unmet_dep pool t) (queue_of pool t)) (sym is)
    (past_end (is_unmet_dep pool t) (queue_of pool t) at (subst (λ (z : List RaisedDepValue). length z ≤ at) is past) met.1)

-- an option is a candidate
pub taken_within : (pool : SelectionProblem) → ((need : Need) → HasOptions pool need) → (t : List ℕ) (f : FrameValue) (id : ℕ) → IsFrameTaking pool t f id → id < length pool.candidates
taken_within pool has t f id taken =
    let there : IsIn id (options_for pool taken.0) = subst (λ (z : List ℕ). IsIn id z) (sym taken.2) (in_right id (ruled_out_options f.0) (id ∷ f.1) (inl refl)) in
    passing_is_within pool (is_eligible pool.world) id ((has taken.0).those id there).0

-- an option of an unmet need is no choice
pub taken_once : (pool : SelectionProblem) → ((need : Need) → HasOptions pool need) → (t : List ℕ) (f : FrameValue) (id : ℕ) → IsFrameTaking pool t f id → IsIn id t → ⊥
taken_once pool has t f id taken h =
    let there : IsIn id (options_for pool taken.0) = subst (λ (z : List ℕ). IsIn id z) (sym taken.2) (in_right id (ruled_out_options f.0) (id ∷ f.1) (inl refl)) in
    ((pool_facts pool has).next_some t taken.0 taken.1).1 (id, h, ((has taken.0).those id there).1)

-- What an intent stands for is the same before and after each of its actions.
use Rattle.std.proofs.Common.{◌≡◌, ◌||◌, ◌≢◌, ⊎_elim, ℕ, ◌+◌, ◌≤◌, ◌<◌, ◌^◌, Bool, true, false, cond, List, [], ◌∷◌, length, Option, None, Some, refl, sym, ap, ◌∙◌, arith}
use Rattle.std.specs.List.{list_any}
use Rattle.std.specs.Str.{bytes_eq}
use Rattle.base_core.specs.Files.{Files, drop_name, move_name}
use Rattle.base_core.proofs.AtName.{other_name, name_cases}
use Rattle.journal_core.specs.Recovery.{Intent, intent_name, intent_in_file, intent_of, stage_name, files_without_names, move_if_present, files_after_staged_moves_from, files_after_intent, recovered_files}
use Rattle.journal_intent.specs.FreeNames.{AreFreeNames, HaveNoRepeats, HasFreeNamesAndUnrepeatedWrites, IsFreeName, IsNoneOf, IsOneOf}
use Rattle.journal_intent.proofs.AtName.{put_name-off, drop_name-off, drop_name-at}
use Rattle.journal_intent.proofs.StageNames.{stage_names_apart, stage_name_no_intent}

-- an intent whose names are free, each once, and not too many
pub record IsProper (intent : Intent) : Type 0 where
  pub removals : AreFreeNames intent.removals
  pub writes : AreFreeNames intent.writes
  pub once : HaveNoRepeats intent.writes
  pub apart : (name : List ℕ) → IsOneOf name intent.writes → IsNoneOf name intent.removals
  pub few : length intent.writes < 2 ^ 63

pub proper_of : (intent : Intent) → HasFreeNamesAndUnrepeatedWrites intent → length intent.writes < 2 ^ 63 → IsProper intent
proper_of intent free few = record { removals = free.removals; writes = free.writes; once = free.once; apart = free.apart; few = few }

same_intent : (F G : Files) → F intent_name ≡ G intent_name → intent_of F ≡ intent_of G
same_intent F G is = ap intent_in_file is

-- ---- a removal

cond_same : {X : Type 0} (b : Bool) (x y z : X) → (b ≡ false → y ≡ z) → cond b x y ≡ cond b x z
cond_same true x y z same = refl
cond_same false x y z same = same refl

without_dropped : (names : List (List ℕ)) (F : Files) (r : List ℕ) → IsOneOf r names → files_without_names names (drop_name F r) ≡ files_without_names names F
without_dropped names F r among i q =
    cond_same (list_any (bytes_eq q) names) None (drop_name F r q) (F q) (λ out. drop_name-off F r q (λ is. let here : list_any (bytes_eq q) names ≡ true = ap (λ (x : List ℕ). list_any (bytes_eq x) names) is ∙ among in absurd (cc (here, out)))) i

pub recovered-removed : (F : Files) (intent : Intent) (r : List ℕ) → intent_of F ≡ Some intent → r ≢ intent_name → IsOneOf r intent.removals → recovered_files (drop_name F r) ≡ recovered_files F
recovered-removed F intent r has ne among =
    let there : intent_of (drop_name F r) ≡ Some intent = same_intent (drop_name F r) F (drop_name-off F r intent_name (λ is. ne (sym is))) ∙ has in
    ap (λ o. files_after_intent o (drop_name F r)) there
    ∙ ap (λ (G : Files). drop_name (files_after_staged_moves_from 1 intent.writes G) intent_name) (without_dropped intent.removals F r among)
    ∙ sym (ap (λ o. files_after_intent o F) has)

-- ---- a waiting file that is moved

swapped : {X : Type 0} (a b : Bool) (x y r : X) → (a ≡ true → b ≡ true → ⊥) → cond a x (cond b y r) ≡ cond b y (cond a x r)
swapped true true x y r apart = absurd (apart refl refl)
swapped true false x y r apart = refl
swapped false b x y r apart = refl

both : (q a b : List ℕ) → a ≢ b → bytes_eq q a ≡ true → bytes_eq q b ≡ true → ⊥
both q a b ne at_a at_b = ⊎_elim
    (λ is_a. ⊎_elim (λ is_b. ne (sym is_a ∙ is_b)) (λ off. let e : true ≡ false = sym at_b ∙ off in cc (e, e)) (name_cases q b))
    (λ off. let e : true ≡ false = sym at_a ∙ off in cc (e, e))
    (name_cases q a)

-- four names, no two of them equal
record AreApart (a b c d : List ℕ) : Type 0 where
  ac : a ≢ c
  ad : a ≢ d
  bc : b ≢ c
  bd : b ≢ d

moves_commute : (F : Files) (a b c d : List ℕ) (x y : List ℕ) → AreApart a b c d → move_name (move_name F a b x) c d y ≡ move_name (move_name F c d y) a b x
moves_commute F a b c d x y apart i q =
    let at_a = bytes_eq q a in let at_b = bytes_eq q b in let at_c = bytes_eq q c in let at_d = bytes_eq q d in
    let some_x : Option (List ℕ) = Some x in let some_y : Option (List ℕ) = Some y in
    (ap (cond at_d some_y) (swapped at_c at_b None some_x (cond at_a None (F q)) (λ p r. both q b c apart.bc r p))
    ∙ swapped at_d at_b some_y some_x (cond at_c None (cond at_a None (F q))) (λ p r. both q b d apart.bd r p)
    ∙ ap (λ r. cond at_b some_x (cond at_d some_y r)) (swapped at_c at_a None None (F q) (λ p r. both q a c apart.ac r p))
    ∙ ap (cond at_b some_x) (swapped at_d at_a some_y None (cond at_c None (F q)) (λ p r. both q a d apart.ad r p))) i

-- what stands at another name stays
pub move_if_present-off : (F : Files) (a b : List ℕ) (o : Option (List ℕ)) (q : List ℕ) → q ≢ a → q ≢ b → move_if_present F a b o q ≡ F q
move_if_present-off F a b None q na nb = refl
move_if_present-off F a b (Some x) q na nb = put_name-off (drop_name F a) b x q nb ∙ drop_name-off F a q na

commute_by : (F : Files) (a b c d : List ℕ) → AreApart a b c d → (o p : Option (List ℕ)) → move_if_present (move_if_present F a b o) c d p ≡ move_if_present (move_if_present F c d p) a b o
commute_by F a b c d apart None p = refl
commute_by F a b c d apart (Some x) None = refl
commute_by F a b c d apart (Some x) (Some y) = moves_commute F a b c d x y apart

abbrev pub moved : Files → List ℕ → List ℕ → Files
moved F a b = move_if_present F a b (F a)

moved_commute : (F : Files) (a b c d : List ℕ) → AreApart a b c d → moved (moved F a b) c d ≡ moved (moved F c d) a b
moved_commute F a b c d apart =
    ap (λ o. move_if_present (moved F a b) c d o) (move_if_present-off F a b (F a) c (λ is. apart.ac (sym is)) (λ is. apart.bc (sym is)))
    ∙ commute_by F a b c d apart (F a) (F c)
    ∙ sym (ap (λ o. move_if_present (moved F c d) a b o) (move_if_present-off F c d (F c) a apart.ac apart.ad))

-- the second time there is nothing to move
moved_twice : (F : Files) (a b : List ℕ) → a ≢ b → moved (moved F a b) a b ≡ moved F a b
moved_twice F a b ne = by (F a) refl
  where
    by : (o : Option (List ℕ)) → F a ≡ o → moved (move_if_present F a b (F a)) a b ≡ move_if_present F a b (F a)
    by None none = ap (λ o. move_if_present (move_if_present F a b (F a)) a b o) (ap (λ o. move_if_present F a b o a) none ∙ none)
    by (Some x) some = ap (λ o. move_if_present (move_if_present F a b (F a)) a b o) (ap (λ o. move_if_present F a b o a) some ∙ put_name-off (drop_name F a) b x a ne ∙ drop_name-at F a a refl)

-- the j-th of the writes that are numbered from k on is this name
pub data IsNumbered : ℕ → List (List ℕ) → ℕ → List ℕ → Type 0 where
  here : (k : ℕ) (name : List ℕ) (names : List (List ℕ)) → IsNumbered k (name ∷ names) k name
  later : (k : ℕ) (head : List ℕ) (names : List (List ℕ)) (j : ℕ) (name : List ℕ) → k < j → head ≢ name → IsFreeName head → IsNumbered (k + 1) names j name → IsNumbered k (head ∷ names) j name

-- a write done early is done
files_after_staged_moves_from-moved : (k : ℕ) (names : List (List ℕ)) (j : ℕ) (name : List ℕ) (F : Files) → j < 2 ^ 64 → IsFreeName name → IsNumbered k names j name
    → files_after_staged_moves_from k names (moved F (stage_name j) name) ≡ files_after_staged_moves_from k names F
files_after_staged_moves_from-moved k names j name F small free (here k' name' rest) = ap (files_after_staged_moves_from (k + 1) rest) (moved_twice F (stage_name k) name (λ is. free.no_place k (sym is)))
files_after_staged_moves_from-moved k names j name F small free (later k' head rest j' name' less other others_free numbered) =
    ap (files_after_staged_moves_from (k + 1) rest) (moved_commute F (stage_name j) name (stage_name k) head (record {
      ac = λ is. absurd (let same = stage_names_apart j k small (omega (arith, small, less)) is in omega (arith, less, same));
      ad = λ is. others_free.no_place j (sym is);
      bc = free.no_place k;
      bd = λ is. other (sym is);
    }))
    ∙ files_after_staged_moves_from-moved (k + 1) rest j name (moved F (stage_name k) head) small free numbered

not_among : (names : List (List ℕ)) (name q : List ℕ) → IsNoneOf name names → list_any (bytes_eq q) names ≡ true → bytes_eq q name ≡ true → ⊥
not_among names name q out there is = ⊎_elim
    (λ same. let here : list_any (bytes_eq name) names ≡ true = sym (ap (λ (x : List ℕ). list_any (bytes_eq x) names) same) ∙ there in let e : true ≡ false = sym here ∙ out in cc (e, e))
    (λ off. let e : true ≡ false = sym is ∙ off in cc (e, e))
    (name_cases q name)

without_at : (names : List (List ℕ)) (F : Files) (a : List ℕ) → IsNoneOf a names → files_without_names names F a ≡ F a
without_at names F a out = ap (λ b. cond b None (F a)) out

without_moved : (names : List (List ℕ)) (F : Files) (a b : List ℕ) → IsNoneOf a names → IsNoneOf b names → files_without_names names (moved F a b) ≡ moved (files_without_names names F) a b
without_moved names F a b out_a out_b = by (F a) ∙ sym (ap (λ o. move_if_present (files_without_names names F) a b o) (without_at names F a out_a))
  where
    by : (o : Option (List ℕ)) → files_without_names names (move_if_present F a b o) ≡ move_if_present (files_without_names names F) a b o
    by None = refl
    by (Some x) = λ i q.
        let some_x : Option (List ℕ) = Some x in
        (swapped (list_any (bytes_eq q) names) (bytes_eq q b) None some_x (cond (bytes_eq q a) None (F q)) (not_among names b q out_b)
        ∙ ap (cond (bytes_eq q b) some_x) (swapped (list_any (bytes_eq q) names) (bytes_eq q a) None None (F q) (not_among names a q out_a))) i

-- no waiting name is among free names
pub place_not_among : (names : List (List ℕ)) (k : ℕ) → AreFreeNames names → IsNoneOf (stage_name k) names
place_not_among [] k free = refl
place_not_among (name ∷ names) k free = both_false (bytes_eq (stage_name k) name) (list_any (bytes_eq (stage_name k)) names) (other_name (stage_name k) name (λ is. free.0.no_place k (sym is))) (place_not_among names k free.1)
  where
    both_false : (a b : Bool) → a ≡ false → b ≡ false → (a || b) ≡ false
    both_false a b x y = ap (λ c. c || b) x ∙ y

pub recovered-moved : (F : Files) (intent : Intent) (k : ℕ) (name : List ℕ) → intent_of F ≡ Some intent → IsProper intent → k < 2 ^ 64 → IsFreeName name → IsNumbered 1 intent.writes k name → IsNoneOf name intent.removals
    → recovered_files (moved F (stage_name k) name) ≡ recovered_files F
recovered-moved F intent k name has proper small free numbered out =
    let there : intent_of (moved F (stage_name k) name) ≡ Some intent =
    same_intent (moved F (stage_name k) name) F (move_if_present-off F (stage_name k) name (F (stage_name k)) intent_name (λ is. stage_name_no_intent k (sym is)) (λ is. free.no_intent (sym is))) ∙ has in
    ap (λ o. files_after_intent o (moved F (stage_name k) name)) there
    ∙ ap (λ (G : Files). drop_name (files_after_staged_moves_from 1 intent.writes G) intent_name) (without_moved intent.removals F (stage_name k) name (place_not_among intent.removals k proper.removals) out)
    ∙ ap (λ (G : Files). drop_name G intent_name) (files_after_staged_moves_from-moved 1 intent.writes k name (files_without_names intent.removals F) small free numbered)
    ∙ sym (ap (λ o. files_after_intent o F) has)

-- ---- the intent is dropped

unstaged_none : (k : ℕ) (names : List (List ℕ)) (F : Files) → ((i : ℕ) → k ≤ i → i < k + length names → F (stage_name i) ≡ None) → files_after_staged_moves_from k names F ≡ F
unstaged_none k [] F none = refl
unstaged_none k (name ∷ names) F none =
    ap (λ o. files_after_staged_moves_from (k + 1) names (move_if_present F (stage_name k) name o)) (none k (omega arith) (omega arith)) ∙ unstaged_none (k + 1) names F (λ i from below. none i (omega arith) (omega arith))

-- all actions are done: the files stand for themselves files_without_names the intent
pub recovered-done : (F : Files) (intent : Intent) → intent_of F ≡ Some intent → files_without_names intent.removals F ≡ F → ((i : ℕ) → 1 ≤ i → i < 1 + length intent.writes → F (stage_name i) ≡ None) → recovered_files F ≡ drop_name F intent_name
recovered-done F intent has removed none =
    ap (λ o. files_after_intent o F) has
    ∙ ap (λ (G : Files). drop_name (files_after_staged_moves_from 1 intent.writes G) intent_name) removed
    ∙ ap (λ (G : Files). drop_name G intent_name) (unstaged_none 1 intent.writes F none)

pub recovered-dropped : (F : Files) → recovered_files (drop_name F intent_name) ≡ drop_name F intent_name
recovered-dropped F = ap (λ o. files_after_intent o (drop_name F intent_name)) (ap intent_in_file (drop_name-at F intent_name intent_name refl))

-- Why a candidate may not be selected, and who has an entry of world, as texts that are added.
use Rattle.std.proofs.Common.{◌≡◌, ℕ, Bool, Bor, true, false, List, [], ◌++◌, Option, Some, None, Result, Ok, Err, refl, sym, ap, ◌∙◌, append_assoc}
use Rattle.std.specs.Prelude.{IfOk, OnOk, codes, find, unwrap_or, if◌then◌else◌}
use Rattle.std.specs.Option.{option_copied}
use Rattle.std.specs.Result.{IsErrAnd, is_ok}
use Rattle.dep_core.specs.Dependency.{Dependency}
use Rattle.search_tables.specs.candidate_core.Candidates.{Candidate, is_allowed_by_tags_of_world}
use Rattle.unmet_world.specs.Exclusion.{is_conflict_met_by}
use Rattle.unmet_world.specs.Lines.{world_conflict_text, world_conflict_reason_text}
use Rattle.unmet_world.proofs.AddedTexts.{three_added}

-- a call that failed has no value of which anything is to be said
pub no_value : {T E : Type 0} (P : T → Type 0) (Q : E → Type 0) (r : Result T E) → IsErrAnd r Q → IfOk r P
no_value P Q (Ok x) is = absurd is
no_value P Q (Err fault) is = tt

-- a text that is added, written otherwise
pub added_as : {T E : Type 0} (r : Result T E) (old new a b : List ℕ) → a ≡ b → OnOk r (new ≡ old ++ a) → OnOk r (new ≡ old ++ b)
added_as (Ok x) old new a b same is = is ∙ ap (λ z. old ++ z) same
added_as (Err e) old new a b same is = tt

-- a text that the last call adds, which may fail
pub one_added : {T E : Type 0} (r : Result T E) (old new a b : List ℕ) → a ≡ b → new ≡ (if is_ok r then old ++ a else old) → OnOk r (new ≡ old ++ b)
one_added (Ok x) old new a b same is = is ∙ ap (λ z. old ++ z) same
one_added (Err e) old new a b same is = tt

-- five texts that are added in turn, of which the last may fail
pub five_added : {T E : Type 0} (r : Result T E) (t0 t1 t2 t3 t4 t5 a b c d e : List ℕ) → t1 ≡ t0 ++ a → t2 ≡ t1 ++ b → t3 ≡ t2 ++ c → t4 ≡ t3 ++ d → t5 ≡ (if is_ok r then t4 ++ e else t4) → OnOk r (t5 ≡ t0 ++ ((((a ++ b) ++ c) ++ d) ++ e))
five_added r t0 t1 t2 t3 t4 t5 a b c d e e1 e2 e3 e4 e5 =
    three_added r t0 t3 t4 t5 ((a ++ b) ++ c) d e (e3 ∙ (ap (λ z. z ++ c) (e2 ∙ (ap (λ z. z ++ b) e1 ∙ append_assoc t0 a b)) ∙ append_assoc t0 (a ++ b) c)) e4 e5

-- the text of a tag, or none
pub tag_text : (o : Option (Bor (List ℕ))) (other found : Bor (List ℕ)) (tag : Option (List ℕ)) → option_copied o ≡ tag → found ≡ unwrap_or o other → other.now ≡ [] → found.now ≡ unwrap_or tag []
tag_text o other found tag same is none =
    ap (λ (b : Bor (List ℕ)). b.now) is ∙ (by o ∙ ap (λ (t : Option (List ℕ)). unwrap_or t []) same)
  where
    by : (o : Option (Bor (List ℕ))) → (unwrap_or o other).now ≡ unwrap_or (option_copied o) []
    by None = none
    by (Some x) = refl

module _ (listed world : List Dependency) (c : Candidate) where
  -- the reason, by whether its tag is allowed, and by the conflict that bars it
  abbrev reason : Option Dependency → Bool → List ℕ
  reason bar allowed = if allowed then world_conflict_text listed bar else (codes " (tagged @" ++ unwrap_or c.tag []) ++ codes ")"

  -- its tag is one that world does not use
  pub refused_by_tag : is_allowed_by_tags_of_world world c ≡ false → (codes " (tagged @" ++ unwrap_or c.tag []) ++ codes ")" ≡ world_conflict_reason_text listed world c
  refused_by_tag other = ap (reason (find (is_conflict_met_by c) world)) (sym other)

  -- its tag is allowed, and a conflict of world may bar it
  pub refused_by_world : (bar : Option Dependency) → is_allowed_by_tags_of_world world c ≡ true → bar ≡ find (is_conflict_met_by c) world → world_conflict_text listed bar ≡ world_conflict_reason_text listed world c
  refused_by_world bar allowed is = ap (world_conflict_text listed) is ∙ ap (reason (find (is_conflict_met_by c) world)) (sym allowed)

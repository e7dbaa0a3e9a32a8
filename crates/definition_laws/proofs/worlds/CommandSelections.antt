-- What a command chooses from, and what it selects.
use Rattle.std.proofs.Common.{◌≡◌, ◌↔◌, inl, inr, ℕ, true, List, [], ◌∷◌, Option, Some, None, Result, Ok, refl, ap, sym, subst, ◌∙◌}
use Rattle.std.specs.List.{list_any}
use Rattle.std.specs.Str.{bytes_eq}
use Rattle.std.proofs.lemmas.Slice.Eq.{bytes_eq-Decides}
use Rattle.engine_core.specs.adb_fields.FirstPair.{IsIn}
use Rattle.engine_core.specs.candidate_core.Candidates.{Candidate}
use Rattle.engine_core.specs.candidate_core.Rank.{SelectionProblem, is_upgraded}
use Rattle.engine_core.specs.change_inputs.Candidates.{candidates_of}
use Rattle.engine_core.specs.change_inputs.Chains.{and_then}
use Rattle.engine_core.specs.change_inputs.Inputs.{Inputs, inputs_of}
use Rattle.command_core.specs.Command.{CommandLine}
use Rattle.command_core.specs.declared.command.Applet.{Applet}
use Rattle.command_core.specs.declared.command.Applet.TheVariants as Applets
use Rattle.command_core.specs.declared.operands.Operand.{Operand}
use Rattle.dep_core.specs.Dependency.{Dependency}
use Rattle.engine_core.specs.Changed.{InputsAndReplacement, selected_from_pool_by_choice, selected_from_reads_by_choice, selected_from_inputs_by_choice}
use Rattle.engine_core.specs.Choice.{IsPreferredChoiceOrNoneIfRefused}
use Rattle.engine_core.specs.Selecting.{pool_of_inputs_unless_too_many_candidates, pool_of_command, replacement_of_choice}
use Rattle.engine_core.specs.Wishes.{names_to_reinstall, names_to_upgrade, operand_texts, unknown_operand_place, unless_unknown_operand}
use Rattle.engine_core.specs.make_info.Reads.{Reads}
use Rattle.engine_core.specs.package_changes.Placed.{candidates_at}
use Rattle.report_core.specs.declared.refusal.Refusal.{Refusal}
use Rattle.engine_core.specs.search_tables.Selection.{IsFirstPreferredSelection}
use Rattle.definition_laws.specs.worlds.CommandPool.{IsCommandPool, IsToUpgrade}
use Rattle.definition_laws.specs.worlds.SatisfiedWorld.{IsNeededByWorldOrPackages, SatisfyWorld}
use Rattle.definition_laws.proofs.worlds.CommandPools.{candidates_are, root_pool_is}
use Rattle.definition_laws.proofs.worlds.InstalledCounted.{any_in, in_any}
use Rattle.definition_laws.proofs.worlds.NextNeeds.{next}
use Rattle.definition_laws.proofs.worlds.ReadWorlds.{and_then_ok}
use Rattle.definition_laws.proofs.worlds.SatisfiedWorlds.{needed, satisfied}

-- ---- the names that are upgraded

text_in : (operands : List Operand) (text : List ℕ) → IsIn text (operand_texts operands) → (o : Operand) × IsIn o operands × (o.text ≡ text)
text_in [] text here = absurd here
text_in (o ∷ operands) text (inl is) = (o, inl refl, sym is)
text_in (o ∷ operands) text (inr more) = let rest = text_in operands text more in (rest.0, inr rest.1, rest.2)

in_texts : (operands : List Operand) (o : Operand) → IsIn o operands → IsIn o.text (operand_texts operands)
in_texts [] o here = absurd here
in_texts (x ∷ operands) o (inl is) = inl (ap (λ (y : Operand). y.text) is)
in_texts (x ∷ operands) o (inr more) = inr (in_texts operands o more)

listed_to : (operands : List Operand) (name : List ℕ) → list_any (bytes_eq name) (operand_texts operands) ≡ true → (o : Operand) × IsIn o operands × (o.text ≡ name)
listed_to operands name e =
    let found = any_in (bytes_eq name) (operand_texts operands) e in
    let o = text_in operands found.0 found.1 in
    (o.0, o.1, o.2 ∙ sym ((bytes_eq-Decides name found.0).0 found.2))

to_listed : (operands : List Operand) (name : List ℕ) (o : Operand) → IsIn o operands → o.text ≡ name → list_any (bytes_eq name) (operand_texts operands) ≡ true
to_listed operands name o here is = in_any (bytes_eq name) (operand_texts operands) o.text (in_texts operands o here) ((bytes_eq-Decides name o.text).1 (sym is))

upgrades : (applet : Applet) (operands : List Operand) (name : List ℕ) → (is_upgraded (names_to_upgrade applet operands) name ≡ true) ↔ IsToUpgrade applet operands name
upgrades Applets.Upgrade [] name = (λ e. tt, λ all. refl)
upgrades Applets.Upgrade (o ∷ operands) name = (listed_to (o ∷ operands) name, λ is. to_listed (o ∷ operands) name is.0 is.1 is.2)
upgrades other operands name = (λ e. absurd (cc (e)), λ none. absurd none)

-- ---- what a command chooses from

module _ (command : CommandLine) (read : Reads) where
  pool_of : (inputs : Inputs) (pool : SelectionProblem) → inputs_of command read ≡ Ok inputs → pool_of_inputs_unless_too_many_candidates command inputs ≡ Ok pool → IsCommandPool command read pool
  pool_of inputs pool found e =
      let upgraded = names_to_upgrade command.applet command.operands in
      let is = root_pool_is inputs upgraded pool e in
      subst (IsCommandPool command read) (sym is.is) (record {
        inputs = inputs;
        is_inputs = found;
        candidates = candidates_are command read inputs found;
        few = is.few;
        world = refl;
        upgraded = upgrades command.applet command.operands;
      })

  pub pool_chosen : (pool : SelectionProblem) → pool_of_command command read ≡ Ok pool → IsCommandPool command read pool
  pool_chosen pool e = let inputs = and_then_ok (inputs_of command read) (pool_of_inputs_unless_too_many_candidates command) pool e in pool_of inputs.0 pool inputs.1 inputs.2

-- ---- what it selects

module _ (command : CommandLine) (read : Reads) where
  -- a first selection is what is selected
  record IsTaken (s : InputsAndReplacement) : Type 0 where
    pub pool : SelectionProblem
    pub trace : List ℕ
    pub first : IsFirstPreferredSelection pool trace
    pub selected : candidates_at pool trace ≡ s.replacement.selected
    pub candidates : pool.candidates ≡ candidates_of s.inputs
    pub world : pool.world ≡ s.inputs.root.new_world

  taken_by : (inputs : Inputs) (pool : SelectionProblem) (place : Option ℕ) (chosen : Option (List ℕ)) (s : InputsAndReplacement) → pool_of_inputs_unless_too_many_candidates command inputs ≡ Ok pool
      → IsPreferredChoiceOrNoneIfRefused (Ok pool) chosen → unless_unknown_operand place (selected_from_pool_by_choice command inputs pool chosen) ≡ Ok s → IsTaken s
  taken_by inputs pool (Some place) chosen s is choice e = absurd (cc (e))
  taken_by inputs pool None None s is choice e = absurd (cc (e))
  taken_by inputs pool None (Some trace) s is choice e =
      let root = root_pool_is inputs (names_to_upgrade command.applet command.operands) pool is in
      let made : InputsAndReplacement = record { inputs = inputs; replacement = replacement_of_choice (names_to_reinstall command.applet command.operands) inputs pool trace } in
      let same : made ≡ s = cc in
      subst IsTaken same (record {
        pool = pool;
        trace = trace;
        first = choice;
        selected = refl;
        candidates = ap (λ (p : SelectionProblem). p.candidates) root.is;
        world = ap (λ (p : SelectionProblem). p.world) root.is;
      })

  taken : (chosen : Option (List ℕ)) (s : InputsAndReplacement) → IsPreferredChoiceOrNoneIfRefused (pool_of_command command read) chosen → selected_from_reads_by_choice command read chosen ≡ Ok s → IsTaken s
  taken chosen s choice e =
      let inputs = and_then_ok (inputs_of command read) (selected_from_inputs_by_choice command chosen) s e in
      let pool = and_then_ok (pool_of_inputs_unless_too_many_candidates command inputs.0) (λ pool. unless_unknown_operand (unknown_operand_place command.applet inputs.0 command.operands) (selected_from_pool_by_choice command inputs.0 pool chosen)) s inputs.2 in
      let is : pool_of_command command read ≡ Ok pool.0 = ap (λ (r : Result Inputs Refusal). and_then r (pool_of_inputs_unless_too_many_candidates command)) inputs.1 ∙ pool.1 in
      taken_by inputs.0 pool.0 (unknown_operand_place command.applet inputs.0 command.operands) chosen s pool.1 (subst (λ (r : Result SelectionProblem Refusal). IsPreferredChoiceOrNoneIfRefused r chosen) is choice) pool.2

  pub satisfies : (chosen : Option (List ℕ)) (s : InputsAndReplacement) → IsPreferredChoiceOrNoneIfRefused (pool_of_command command read) chosen → selected_from_reads_by_choice command read chosen ≡ Ok s
      → SatisfyWorld (candidates_of s.inputs) s.inputs.root.new_world s.replacement.selected
  satisfies chosen s choice e =
      let t = taken chosen s choice e in
      let done : SatisfyWorld t.pool.candidates t.pool.world (candidates_at t.pool t.trace) = satisfied t.pool t.trace t.first.satisfies in
      subst (λ (l : List Candidate). SatisfyWorld (candidates_of s.inputs) s.inputs.root.new_world l) t.selected
      (subst (λ (w : List Dependency). SatisfyWorld (candidates_of s.inputs) w (candidates_at t.pool t.trace)) t.world
      (subst (λ (cs : List Candidate). SatisfyWorld cs t.pool.world (candidates_at t.pool t.trace)) t.candidates done))

  pub each_needed : (chosen : Option (List ℕ)) (s : InputsAndReplacement) (c : Candidate) → IsPreferredChoiceOrNoneIfRefused (pool_of_command command read) chosen → selected_from_reads_by_choice command read chosen ≡ Ok s → IsIn c s.replacement.selected
      → IsNeededByWorldOrPackages (candidates_of s.inputs) s.inputs.root.new_world s.replacement.selected c
  each_needed chosen s c choice e here =
      let t = taken chosen s choice e in
      let at : IsIn c (candidates_at t.pool t.trace) = subst (IsIn c) (sym t.selected) here in
      let done : IsNeededByWorldOrPackages t.pool.candidates t.pool.world (candidates_at t.pool t.trace) c = needed t.pool t.trace t.first.satisfies (next t.pool) t.first.walked c at in
      subst (λ (l : List Candidate). IsNeededByWorldOrPackages (candidates_of s.inputs) s.inputs.root.new_world l c) t.selected
      (subst (λ (w : List Dependency). IsNeededByWorldOrPackages (candidates_of s.inputs) w (candidates_at t.pool t.trace) c) t.world
      (subst (λ (cs : List Candidate). IsNeededByWorldOrPackages cs t.pool.world (candidates_at t.pool t.trace) c) t.candidates done))

-- Operands and values that are files have names.
use Rattle.std.proofs.Common.{◌≡◌, ℕ, zero, suc, ◌+◌, ◌<◌, Bool, true, false, List, [], ◌∷◌, map, drop, length, Option, Some, None, IfSome, refl, sym, ◌∙◌, ap, subst, arith, if◌then◌else◌}
use Rattle.std.specs.Prelude.{◌==◌, not, IsTrue}
use Rattle.std.specs.List.{find, list_all, slice_get}
use Rattle.std.specs.Option.{option_map}
use Rattle.std.proofs.lemmas.Bool.{and_parts, eqb-true, not-true}
use Rattle.std.proofs.lemmas.List.{length-map}
use Rattle.std.proofs.lemmas.Option.{slice_get-map}
use Rattle.command_core.specs.declared.operands.Operand.{Operand}
use Rattle.command_core.specs.declared.operands.OperandEntry.{OperandEntry}
use Rattle.command_core.specs.declared.operands.OperandRule.{OperandRule}
use Rattle.command_core.specs.declared.values.OptionValue.{OptionValue}
use Rattle.command_core.specs.declared.values.TheConstants.{SCRIPT}
use Rattle.command_core.specs.declared.values.ValueEntry.{ValueEntry}
use Rattle.command_core.specs.Files.{is_file_argument, without_one_leading_dot_slash}
use Rattle.command_core.specs.Named.{file_name, are_files, operand_file, file_in, file_part_of_value}
use Rattle.command_core.specs.Operands.{place_of_first_refused_operand, takes}
use Rattle.command_core.specs.Values.{script_file, first_value_with_letter}
use Rattle.command_core.proofs.Entries.{agree_at, agree_found, find-map, found_passes, left_at, option_map-twice}

-- a text that is a file has its name
pub file_named : (text : List ℕ) → is_file_argument text ≡ true → file_name text ≡ Some (without_one_leading_dot_slash text)
file_named text h = ap (λ b. if b then Some (without_one_leading_dot_slash text) else None) h

pub passes_at : {A : Type 0} (p : A → Bool) (xs : List A) (i : ℕ) (x : A) → list_all p xs ≡ true → slice_get xs i ≡ Some x → p x ≡ true
passes_at p [] i x h e = cc
passes_at p (y ∷ ys) zero x h e = (let same : y ≡ x = cc in subst (λ z. p z ≡ true) same (and_parts (p y) (list_all p ys) h).0)
passes_at p (y ∷ ys) (suc i) x h e = passes_at p ys i x (and_parts (p y) (list_all p ys) h).1 e

-- what is inside a view of a list is inside the list
pub inside : {A B : Type 0} (f : A → B) (xs : List A) (ys : List B) (i : ℕ) → map f xs ≡ ys → i < length ys → i < length xs
inside f xs ys i e h = (let same : length xs ≡ length ys = sym (length-map xs f) ∙ ap length e in omega arith)

-- ---- operands

pub record IsOperandFile (operands : List Operand) (i : ℕ) (e : OperandEntry) : Type 0 where
  pub at : slice_get operands i ≡ Some e.operand
  pub file : e.file ≡ Some (operand_file e.operand)

pub operand_named : (entries : List OperandEntry) (operands : List Operand) (i : ℕ) (e : OperandEntry) → map (λ (x : OperandEntry). x.operand) entries ≡ operands → map (λ (x : OperandEntry). x.file) entries ≡ map (λ (x : OperandEntry). file_name x.operand.text) entries → slice_get entries i ≡ Some e → are_files operands ≡ true → IsOperandFile operands i e
operand_named entries operands i e v a s h =
    let at : slice_get operands i ≡ Some e.operand =
    ap (λ os. slice_get os i) (sym v) ∙ (slice_get-map (λ (x : OperandEntry). x.operand) entries i ∙ ap (option_map (λ (x : OperandEntry). x.operand)) s) in
    record {
      at = at;
      file = agree_at (λ (x : OperandEntry). x.file) (λ (x : OperandEntry). file_name x.operand.text) entries i e a s
          ∙ file_named e.operand.text (passes_at (λ (o : Operand). is_file_argument o.text) operands i e.operand h at);
    }

-- ---- values

pub record IsScriptFile (values : List OptionValue) (i : ℕ) (e : ValueEntry) : Type 0 where
  pub at : slice_get values i ≡ Some e.value
  pub file : e.file ≡ Some (without_one_leading_dot_slash (script_file e.value.text))

pub script_named : (entries : List ValueEntry) (values : List OptionValue) (i : ℕ) (e : ValueEntry) → map (λ (x : ValueEntry). x.value) entries ≡ values → map (λ (x : ValueEntry). x.file) entries ≡ map (λ (x : ValueEntry). file_in x.value) entries → slice_get entries i ≡ Some e → IfSome (slice_get values i) (λ v. v.letter ≡ SCRIPT × IsTrue (is_file_argument (script_file v.text))) → IsScriptFile values i e
script_named entries values i e v a s h =
    let at : slice_get values i ≡ Some e.value =
    ap (λ vs. slice_get vs i) (sym v) ∙ (slice_get-map (λ (x : ValueEntry). x.value) entries i ∙ ap (option_map (λ (x : ValueEntry). x.value)) s) in
    let is : (e.value.letter ≡ SCRIPT) × (IsTrue (is_file_argument (script_file e.value.text))) =
    subst (λ o. IfSome o (λ (w : OptionValue). w.letter ≡ SCRIPT × IsTrue (is_file_argument (script_file w.text)))) at h in
    record {
      at = at;
      file = agree_at (λ (x : ValueEntry). x.file) (λ (x : ValueEntry). file_in x.value) entries i e a s
          ∙ (ap (λ n. file_name (file_part_of_value n e.value.text)) is.0 ∙ file_named (script_file e.value.text) is.1);
    }

-- the first value of an option, and the file in it
pub first_seen : {A : Type 0} (see : A → ValueEntry) (letter : ℕ) (entries : List ValueEntry) (values : List OptionValue) (r : Option A) → map (λ (x : ValueEntry). x.value) entries ≡ values → option_map see r ≡ find (λ (x : ValueEntry). x.value.letter == letter) entries → option_map (λ x. (see x).value) r ≡ first_value_with_letter letter values
first_seen see letter entries values r v f =
    option_map-twice (λ (x : ValueEntry). x.value) see r
    ∙ (ap (option_map (λ (x : ValueEntry). x.value)) f
    ∙ (sym (find-map (λ (w : OptionValue). w.letter == letter) (λ (x : ValueEntry). x.value) entries) ∙ ap (first_value_with_letter letter) v))

pub first_agrees : {A : Type 0} (see : A → ValueEntry) (letter : ℕ) (entries : List ValueEntry) (r : Option A) → map (λ (x : ValueEntry). x.file) entries ≡ map (λ (x : ValueEntry). file_in x.value) entries → option_map see r ≡ find (λ (x : ValueEntry). x.value.letter == letter) entries → IfSome r (λ x. (see x).file ≡ file_in (see x).value)
first_agrees see letter entries None a f = tt
first_agrees see letter entries (Some x) a f =
    agree_found (λ (y : ValueEntry). y.file) (λ (y : ValueEntry). file_in y.value) (λ (y : ValueEntry). y.value.letter == letter) entries (see x) a (sym f)

pub first_named : (letter : ℕ) (values : List OptionValue) (v : OptionValue) (file : Option (List ℕ)) → Some v ≡ first_value_with_letter letter values → file ≡ file_in v → not (letter == SCRIPT) ≡ true → IfSome (first_value_with_letter letter values) (λ w. IsTrue (is_file_argument w.text)) → file ≡ option_map (λ (w : OptionValue). without_one_leading_dot_slash w.text) (first_value_with_letter letter values)
first_named letter values v file f e n h =
    let same : v.letter ≡ letter = eqb-true v.letter letter (found_passes (λ (w : OptionValue). w.letter == letter) values v (sym f)) in
    let other : (v.letter == SCRIPT) ≡ false = ap (λ k. k == SCRIPT) same ∙ not-true (letter == SCRIPT) n in
    let good : is_file_argument v.text ≡ true = subst (λ o. IfSome o (λ (w : OptionValue). IsTrue (is_file_argument w.text))) (sym f) h in
    e ∙ (ap (λ b. file_name (if b then script_file v.text else v.text)) other ∙ (file_named v.text good ∙ ap (option_map (λ (w : OptionValue). without_one_leading_dot_slash w.text)) f))

-- ---- the first operand that is refused

pub refused_more : (rule : OperandRule) (operands : List Operand) (i : ℕ) (operand : Operand) → slice_get operands i ≡ Some operand → takes rule i operand.text ≡ true → place_of_first_refused_operand rule i (drop i operands) ≡ place_of_first_refused_operand rule (i + 1) (drop (i + 1) operands)
refused_more rule operands i operand at t = rw (left_at operands i operand at) (rw t refl)

pub refused_here : (rule : OperandRule) (operands : List Operand) (i : ℕ) (operand : Operand) → slice_get operands i ≡ Some operand → takes rule i operand.text ≡ false → place_of_first_refused_operand rule i (drop i operands) ≡ Some operand.place
refused_here rule operands i operand at t = rw (left_at operands i operand at) (rw t refl)

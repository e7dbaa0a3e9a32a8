-- Operands one by one.
use Rattle.std.proofs.Common.{◌≡◌, ℕ, zero, suc, ◌+◌, ◌<◌, ◌≤◌, ◌==◌, Bool, true, false, ◌&&◌, if◌then◌else◌, List, [], ◌∷◌, ◌++◌, length, drop, codes, Option, Some, None, is_some, Result, Ok, refl, sym, ◌∙◌, ap, subst, arith, append_assoc}
use Rattle.std.specs.List.{list_all, slice_get}
use Rattle.std.specs.Option.{option_map, option_or}
use Rattle.std.specs.Prelude.{not, nat_le}
use Rattle.std.proofs.lemmas.Bool.{and_parts, eq-eqb, leb-true, ne_eqb}
use Rattle.std.proofs.lemmas.Option.{same_Some}
use Rattle.make_core.proofs.IndexReads.{operand_name}
use Rattle.base_core.specs.Calls.{IfObservable}
use Rattle.base_core.specs.Faults.{Counts}
use Rattle.base_core.specs.Files.{Files, no_names}
use Rattle.base_core.specs.Read.{OnlyReads}
use Rattle.base_core.specs.Tree.{TreeState, files_of}
use Rattle.command_core.specs.Applets.{required_option_letter, operand_rule_if_needed_kind_flag_given, version_operand_rule as version_rule}
use Rattle.command_core.specs.Sound.{may_have_flags, value_rules, IsValidCommand, are_allowed_operands, are_allowed_values}
use Rattle.command_core.specs.Command.{CommandLine}
use Rattle.command_core.specs.Files.{without_one_leading_dot_slash}
use Rattle.command_core.specs.Named.{are_files, operand_file}
use Rattle.command_core.specs.Operands.{at_least, exactly, is_operand_of_kind}
use Rattle.command_core.specs.Values.{is_required_value_missing}
use Rattle.command_core.specs.declared.command.Applet.{Applet}
use Rattle.command_core.specs.declared.command.Applet.TheVariants.{Adbdump, Adbgen, Demo, Verify, Version}
use Rattle.command_core.specs.declared.command.Flags.{Flags}
use Rattle.command_core.specs.declared.operands.Operand.{Operand}
use Rattle.command_core.specs.declared.operands.OperandKind.TheVariants.{Any, Number}
use Rattle.make_core.specs.make_info.Reads.{Reads}
use Rattle.outcome.specs.Commands.{reads_in}
use Rattle.outcome.specs.Outcome.{just_refusal, just_report, just_report_unless_refusal}
use Rattle.outcome.specs.Verify.{file_refusal, sound_lines, verify, verify_refusal_from_read_number}
use Rattle.outcome.specs.Version.{line_if_invalid_version, invalid_version_lines, order_line, version_order_report, version_refusal}
use Rattle.report_core.specs.declared.refusal.Refusal.{Refusal}
use Rattle.report_core.specs.declared.refusal.Refusal.TheVariants.{VersionBad}
use Rattle.version_core.specs.Order.{is_version, version_cmp}
use Rattle.apk_front.specs.Verdicts.{as_outcome}
use Rattle.apk_front.specs.declared.answer.Verdict.{Verdict}

-- ---- the operands of a command

operands_of : (c : CommandLine) → IsValidCommand c → are_allowed_operands (operand_rule_if_needed_kind_flag_given c.applet c.flags) c.operands ≡ true
operands_of c h =
    let flagged = may_have_flags c.applet c.flags && are_allowed_operands (operand_rule_if_needed_kind_flag_given c.applet c.flags) c.operands in
    let valued = and_parts (flagged && are_allowed_values (value_rules c.applet) c.values) (not (is_required_value_missing (required_option_letter c.applet) c.values)) h in
    let taken = and_parts flagged (are_allowed_values (value_rules c.applet) c.values) valued.0 in
    (and_parts (may_have_flags c.applet c.flags) (are_allowed_operands (operand_rule_if_needed_kind_flag_given c.applet c.flags) c.operands) taken.0).1

of_applet : (c : CommandLine) (applet : Applet) → IsValidCommand c → applet ≡ c.applet → are_allowed_operands (operand_rule_if_needed_kind_flag_given applet c.flags) c.operands ≡ true
of_applet c applet h same = subst (λ (a : Applet). are_allowed_operands (operand_rule_if_needed_kind_flag_given a c.flags) c.operands ≡ true) (sym same) (operands_of c h)

-- just so many
just_many : (n : ℕ) (os : List Operand) (each : Bool) → (nat_le n (length os) && nat_le (length os) n) && each ≡ true → (length os ≡ n) × (each ≡ true)
just_many n os each taken =
    let parts = and_parts (nat_le n (length os) && nat_le (length os) n) each taken in
    let counts = and_parts (nat_le n (length os)) (nat_le (length os) n) parts.0 in
    let least : n ≤ length os = leb-true n (length os) counts.0 in
    let most : length os ≤ n = leb-true (length os) n counts.1 in
    (omega arith, parts.1)

-- one file, where a container is dumped
pub dump_operands : (c : CommandLine) (applet : Applet) (operands : List Operand) → IsValidCommand c → applet ≡ c.applet → applet ≡ Adbdump → operands ≡ c.operands → (length operands ≡ 1) × (are_files operands ≡ true)
dump_operands c applet operands h same is of =
    let parts = just_many 1 c.operands (are_files c.operands) (of_applet c Adbdump h (sym is ∙ same)) in
    (ap length of ∙ parts.0, ap are_files of ∙ parts.1)

-- and where one is generated
pub gen_operands : (c : CommandLine) (applet : Applet) (operands : List Operand) → IsValidCommand c → applet ≡ c.applet → applet ≡ Adbgen → operands ≡ c.operands → (length operands ≡ 1) × (are_files operands ≡ true)
gen_operands c applet operands h same is of =
    let parts = just_many 1 c.operands (are_files c.operands) (of_applet c Adbgen h (sym is ∙ same)) in
    (ap length of ∙ parts.0, ap are_files of ∙ parts.1)

-- files, where containers are tested
pub verify_operands : (c : CommandLine) (applet : Applet) (operands : List Operand) → IsValidCommand c → applet ≡ c.applet → applet ≡ Verify → operands ≡ c.operands → are_files operands ≡ true
verify_operands c applet operands h same is of =
    let taken : (nat_le 1 (length c.operands) && true) && are_files c.operands ≡ true = of_applet c Verify h (sym is ∙ same) in
    ap are_files of ∙ (and_parts (nat_le 1 (length c.operands) && true) (are_files c.operands) taken).1

-- two texts, where versions are compared
pub version_operand_rule : (c : CommandLine) (applet : Applet) (flags : Flags) (operands : List Operand) → IsValidCommand c → applet ≡ c.applet → applet ≡ Version → flags ≡ c.flags → operands ≡ c.operands → flags.test ≡ true → length operands ≡ 2
version_operand_rule c applet flags operands h same is f of tests =
    let tested : c.flags.test ≡ true = ap (λ (g : Flags). g.test) (sym f) ∙ tests in
    let taken : are_allowed_operands (version_rule c.flags) c.operands ≡ true = of_applet c Version h (sym is ∙ same) in
    let two : are_allowed_operands (Some (exactly 2 Any)) c.operands ≡ true =
    subst (λ b. are_allowed_operands (if b then Some (exactly 2 Any) else if c.flags.check then Some (at_least 1 Any) else None) c.operands ≡ true) tested taken in
    ap length of ∙ (just_many 2 c.operands (list_all (λ (o : Operand). is_operand_of_kind Any o.text) c.operands) two).0

-- one number, where packages are shown in memory
pub demo_operands : (c : CommandLine) (applet : Applet) (operands : List Operand) → IsValidCommand c → applet ≡ c.applet → applet ≡ Demo → operands ≡ c.operands → are_allowed_operands (Some (exactly 1 Number)) operands ≡ true
demo_operands c applet operands h same is of = ap (are_allowed_operands (Some (exactly 1 Number))) of ∙ of_applet c Demo h (sym is ∙ same)

-- ---- an operand and its file

-- what is left of a list where an element stands
pub left_at : {X : Type 0} (xs : List X) (i : ℕ) (x : X) → slice_get xs i ≡ Some x → drop i xs ≡ x ∷ drop (i + 1) xs
left_at [] i x e = cc
left_at (y ∷ xs) zero x e = cc
left_at (y ∷ xs) (suc i) x e =
    let next : suc (i + 1) ≡ suc i + 1 = omega arith in left_at xs i x e ∙ ap (λ n. x ∷ drop n (y ∷ xs)) next

-- the operand that lends a name
pub file_at : (os : List Operand) (i : ℕ) (name : List ℕ) → option_map operand_file (slice_get os i) ≡ Some name → (o : Operand) × (slice_get os i ≡ Some o) × (name ≡ without_one_leading_dot_slash o.text)
file_at os i name is = of (slice_get os i) refl is
  where
    of : (found : Option Operand) → slice_get os i ≡ found → option_map operand_file found ≡ Some name → (o : Operand) × (slice_get os i ≡ Some o) × (name ≡ without_one_leading_dot_slash o.text)
    of None at h = cc
    of (Some o) at h = (o, at, sym (same_Some (without_one_leading_dot_slash o.text) name h))

-- ---- the lines of verify

pub sound_more : (os : List Operand) (i : ℕ) (report file : List ℕ) → option_map operand_file (slice_get os i) ≡ Some file
    → report ++ sound_lines (drop i os) ≡ sound_lines os → report ++ file ++ codes ": OK\n" ++ sound_lines (drop (i + 1) os) ≡ sound_lines os
sound_more os i report file is h =
    let (o, at, same) = file_at os i file is in
    let before : report ++ (without_one_leading_dot_slash o.text ++ codes ": OK\n" ++ sound_lines (drop (i + 1) os)) ≡ sound_lines os = ap (λ (l : List Operand). report ++ sound_lines l) (sym (left_at os i o at)) ∙ h in
    ap (λ (f : List ℕ). report ++ f ++ codes ": OK\n" ++ sound_lines (drop (i + 1) os)) same
    ∙ append_assoc (report ++ without_one_leading_dot_slash o.text) (codes ": OK\n") (sound_lines (drop (i + 1) os))
    ∙ append_assoc report (without_one_leading_dot_slash o.text) (codes ": OK\n" ++ sound_lines (drop (i + 1) os))
    ∙ ap (λ (l : List ℕ). report ++ l) (sym (append_assoc (without_one_leading_dot_slash o.text) (codes ": OK\n") (sound_lines (drop (i + 1) os))))
    ∙ before

-- ---- the refusal of verify

or_here : (r later : Option Refusal) → true ≡ is_some r → option_or r later ≡ r
or_here (Some x) later e = refl
or_here None later e = cc

or_next : (r later : Option Refusal) → false ≡ is_some r → option_or r later ≡ later
or_next (Some x) later e = cc
or_next None later e = refl

-- ---- what verify finds at each read

-- what is found at each read, and what at this one
abbrev pub read_with : Reads → ℕ → Option (List ℕ) → Reads
read_with read i f k name = if k == i then f else read k name

read_with_at : (read : Reads) (i : ℕ) (f : Option (List ℕ)) (name : List ℕ) → read_with read i f i name ≡ f
read_with_at read i f name = ap (λ b. if b then f else read i name) (eq-eqb i i refl)

read_with_before : (read : Reads) (i k : ℕ) (f : Option (List ℕ)) (name : List ℕ) → k < i → read_with read i f k name ≡ read k name
read_with_before read i k f name lt = ap (λ b. if b then f else read k name) (ne_eqb k i (λ same. omega (lt, same, arith)))

-- reads find the same before a place
abbrev pub AgreeBefore : Reads → Reads → ℕ → Type 0
AgreeBefore later read i = (k : ℕ) (name : List ℕ) → k < i → later k name ≡ read k name

-- the operands before a place were read, and none of them is refused
pub record IsReadTo (os : List Operand) (i : ℕ) : Type 0 where
  pub read : Reads
  pub rest : (later : Reads) → AgreeBefore later read i → verify_refusal_from_read_number later 0 os ≡ verify_refusal_from_read_number later i (drop i os)

pub read_none : (os : List Operand) → IsReadTo os 0
read_none os = record { read = λ k name. None; rest = λ later agree. refl }

-- the operands that are left, where one was read
read_one : (os : List Operand) (i : ℕ) (o : Operand) (r : Option Refusal) (f : Option (List ℕ)) (later : Reads) → slice_get os i ≡ Some o → r ≡ file_refusal o.place f → later i (without_one_leading_dot_slash o.text) ≡ f
    → verify_refusal_from_read_number later i (drop i os) ≡ option_or r (verify_refusal_from_read_number later (i + 1) (drop (i + 1) os))
read_one os i o r f later at is here =
    ap (verify_refusal_from_read_number later i) (left_at os i o at)
    ∙ ap (λ (x : Option (List ℕ)). option_or (file_refusal o.place x) (verify_refusal_from_read_number later (i + 1) (drop (i + 1) os))) here
    ∙ ap (λ (x : Option Refusal). option_or x (verify_refusal_from_read_number later (i + 1) (drop (i + 1) os))) (sym is)

pub read_more : (os : List Operand) (i : ℕ) (o : Operand) (r : Option Refusal) → slice_get os i ≡ Some o → IsReadTo os i → (found : Option (List ℕ)) × (r ≡ file_refusal o.place found) → false ≡ is_some r → IsReadTo os (i + 1)
read_more os i o r at so (f, is) none = record {
  read = read_with so.read i f;
  rest = λ later agree.
      so.rest later (λ k name lt. agree k name (omega (lt, arith)) ∙ read_with_before so.read i k f name lt)
      ∙ read_one os i o r f later at is (agree i (without_one_leading_dot_slash o.text) (omega arith) ∙ read_with_at so.read i f (without_one_leading_dot_slash o.text))
      ∙ or_next r (verify_refusal_from_read_number later (i + 1) (drop (i + 1) os)) none;
}

pub read_here : (os : List Operand) (i : ℕ) (o : Operand) (r : Option Refusal) → slice_get os i ≡ Some o → IsReadTo os i → (found : Option (List ℕ)) × (r ≡ file_refusal o.place found) → true ≡ is_some r
    → (read : Reads) × (r ≡ verify_refusal_from_read_number read 0 os)
read_here os i o r at so (f, is) some =
    let now = read_with so.read i f in
    (now, sym (so.rest now (λ k name lt. read_with_before so.read i k f name lt) ∙ read_one os i o r f now at is (read_with_at so.read i f (without_one_leading_dot_slash o.text)) ∙ or_here r (verify_refusal_from_read_number now (i + 1) (drop (i + 1) os)) some))

pub read_all_of : (os : List Operand) (i : ℕ) → drop i os ≡ [] → IsReadTo os i → (read : Reads) × (None ≡ verify_refusal_from_read_number read 0 os)
read_all_of os i ended so = (so.read, sym (so.rest so.read (λ k name lt. refl) ∙ ap (verify_refusal_from_read_number so.read i) ended))

-- ---- what verify finds in the files

-- the operands before a place are not refused
abbrev pub IsFine : List Operand → ℕ → TreeState → Type 0
IsFine os i v = verify_refusal_from_read_number (reads_in (files_of v)) 0 os ≡ verify_refusal_from_read_number (reads_in (files_of v)) i (drop i os)

abbrev pub IsTestOf : Operand → List ℕ → Option Refusal → TreeState → Type 0
IsTestOf o name r v = r ≡ file_refusal o.place (files_of v name)

pub fine_none : (old : List TreeState) (os : List Operand) → IfObservable old (IsFine os 0)
fine_none [] os = tt
fine_none (v ∷ old) os = refl

test_one : (v : TreeState) (os : List Operand) (i : ℕ) (o : Operand) (name : List ℕ) (r : Option Refusal) → slice_get os i ≡ Some o → name ≡ without_one_leading_dot_slash o.text → IsTestOf o name r v
    → verify_refusal_from_read_number (reads_in (files_of v)) i (drop i os) ≡ option_or r (verify_refusal_from_read_number (reads_in (files_of v)) (i + 1) (drop (i + 1) os))
test_one v os i o name r at named is = read_one os i o r (files_of v name) (reads_in (files_of v)) at is (ap (files_of v) (sym named))

pub found_here : (old now : List TreeState) (os : List Operand) (i : ℕ) (o : Operand) (name : List ℕ) (r : Option Refusal) → now ≡ old → slice_get os i ≡ Some o → option_map operand_file (slice_get os i) ≡ Some name
    → IfObservable old (IsFine os i) → IfObservable now (IsTestOf o name r) → true ≡ is_some r
    → IfObservable old (λ v. r ≡ verify_refusal_from_read_number (reads_in (files_of v)) 0 os)
found_here [] now os i o name r same at is so_far found some = tt
found_here (v ∷ old) now os i o name r same at is so_far found some =
    let k : IsTestOf o name r v = subst (λ (h : List TreeState). IfObservable h (IsTestOf o name r)) same found in
    sym (so_far ∙ test_one v os i o name r at (operand_name os i o name at is) k ∙ or_here r (verify_refusal_from_read_number (reads_in (files_of v)) (i + 1) (drop (i + 1) os)) some)

pub found_more : (old now : List TreeState) (os : List Operand) (i : ℕ) (o : Operand) (name : List ℕ) (r : Option Refusal) → now ≡ old → slice_get os i ≡ Some o → option_map operand_file (slice_get os i) ≡ Some name
    → IfObservable old (IsFine os i) → IfObservable now (IsTestOf o name r) → false ≡ is_some r
    → IfObservable old (IsFine os (i + 1))
found_more [] now os i o name r same at is so_far found none = tt
found_more (v ∷ old) now os i o name r same at is so_far found none =
    let k : IsTestOf o name r v = subst (λ (h : List TreeState). IfObservable h (IsTestOf o name r)) same found in
    so_far ∙ test_one v os i o name r at (operand_name os i o name at is) k ∙ or_next r (verify_refusal_from_read_number (reads_in (files_of v)) (i + 1) (drop (i + 1) os)) none

pub found_all : (old : List TreeState) (os : List Operand) (i : ℕ) → drop i os ≡ [] → IfObservable old (IsFine os i) → IfObservable old (λ v. None ≡ verify_refusal_from_read_number (reads_in (files_of v)) 0 os)
found_all [] os i ended so_far = tt
found_all (v ∷ old) os i ended so_far = sym (so_far ∙ ap (verify_refusal_from_read_number (reads_in (files_of v)) i) ended)

pub verify_found : (old : List TreeState) (os : List Operand) (verdict : Verdict) (r : Option Refusal) → IfObservable old (λ v. r ≡ verify_refusal_from_read_number (reads_in (files_of v)) 0 os)
    → ((files : Files) → as_outcome files verdict ≡ just_report_unless_refusal files r (sound_lines os)) → IfObservable old (λ v. as_outcome (files_of v) verdict ≡ verify (reads_in (files_of v)) (files_of v) os)
verify_found [] os verdict r found is = tt
verify_found (v ∷ old) os verdict r found is = is (files_of v) ∙ ap (λ (x : Option Refusal). just_report_unless_refusal (files_of v) x (sound_lines os)) found

pub verify_read : (os : List Operand) (verdict : Verdict) (r : Option Refusal) → (read : Reads) × (r ≡ verify_refusal_from_read_number read 0 os)
    → ((files : Files) → as_outcome files verdict ≡ just_report_unless_refusal files r (sound_lines os)) → (read : Reads) × (as_outcome no_names verdict ≡ verify read no_names os)
verify_read os verdict r (read, same) is = (read, is no_names ∙ ap (λ (x : Option Refusal). just_report_unless_refusal no_names x (sound_lines os)) same)

pub test_found : (old : List TreeState) (place : ℕ) (name : List ℕ) (found : Option (List ℕ)) (r : Option Refusal) → r ≡ file_refusal place found
    → IfObservable old (λ v. found ≡ files_of v name) → IfObservable old (λ v. r ≡ file_refusal place (files_of v name))
test_found [] place name found r is h = tt
test_found (v ∷ old) place name found r is h = is ∙ ap (file_refusal place) h

-- ---- what only reads

-- whatever the value is
pub any_value : {A E : Type 0} (disk : E) (old new : List TreeState) (before now : Counts) (r : Result A E) (x value : A) → r ≡ Ok x → OnlyReads disk old new before now r → OnlyReads disk old new before now (Ok value)
any_value {A} {E} disk old new before now r x value is tree =
    let t : OnlyReads disk old new before now (Ok x) = subst (λ (q : Result A E). OnlyReads disk old new before now q) is tree in
    record { same = t.same; goes_on = t.goes_on; disk = λ h. cc; kept = t.kept; others = tt; proper = t.proper }

-- ---- version

pub valid_more : (os : List Operand) (i : ℕ) (o : Operand) → slice_get os i ≡ Some o → is_version o.text ≡ true → version_refusal (drop i os) ≡ version_refusal (drop (i + 1) os)
valid_more os i o at e = rw (left_at os i o at) (rw e refl)

pub invalid_here : (os : List Operand) (i : ℕ) (o : Operand) → slice_get os i ≡ Some o → is_version o.text ≡ false → version_refusal (drop i os) ≡ Some (VersionBad o.place)
invalid_here os i o at e = rw (left_at os i o at) (rw e refl)

pub invalid_more : (os : List Operand) (i : ℕ) (o : Operand) (report now text : List ℕ) → slice_get os i ≡ Some o → text ≡ o.text → now ≡ report ++ line_if_invalid_version text
    → report ++ invalid_version_lines (drop i os) ≡ invalid_version_lines os → now ++ invalid_version_lines (drop (i + 1) os) ≡ invalid_version_lines os
invalid_more os i o report now text at is so h =
    ap (λ (l : List ℕ). l ++ invalid_version_lines (drop (i + 1) os)) (so ∙ ap (λ (t : List ℕ). report ++ line_if_invalid_version t) is)
    ∙ append_assoc report (line_if_invalid_version o.text) (invalid_version_lines (drop (i + 1) os))
    ∙ ap (λ (l : List Operand). report ++ invalid_version_lines l) (sym (left_at os i o at)) ∙ h

three_not_two : (n : ℕ) → suc (suc (suc n)) ≡ 2 → ⊥
three_not_two n e = omega arith

pub two_of : (os : List Operand) (a b : Operand) → length os ≡ 2 → slice_get os 0 ≡ Some a → slice_get os 1 ≡ Some b → os ≡ a ∷ (b ∷ [])
two_of [] a b n x y = cc
two_of (p ∷ []) a b n x y = cc
two_of (p ∷ (q ∷ [])) a b n x y = cc
two_of (p ∷ (q ∷ (r ∷ os))) a b n x y = absurd (three_not_two (length os) n)

pub first_bad : (os : List Operand) (a b : Operand) → os ≡ a ∷ (b ∷ []) → is_version a.text ≡ false → (files : Files) → just_report_unless_refusal files (version_refusal os) (version_order_report os) ≡ just_refusal files (VersionBad a.place)
first_bad os a b is e files = rw is (rw e refl)

pub second_bad : (os : List Operand) (a b : Operand) → os ≡ a ∷ (b ∷ []) → is_version a.text ≡ true → is_version b.text ≡ false → (files : Files) → just_report_unless_refusal files (version_refusal os) (version_order_report os) ≡ just_refusal files (VersionBad b.place)
second_bad os a b is e f files = rw is (rw e (rw f refl))

pub both_good : (os : List Operand) (a b : Operand) → os ≡ a ∷ (b ∷ []) → is_version a.text ≡ true → is_version b.text ≡ true → (files : Files) → just_report_unless_refusal files (version_refusal os) (version_order_report os) ≡ just_report files (order_line (version_cmp a.text b.text))
both_good os a b is e f files = rw is (rw e (rw f refl))

pub cmp_same : (v w a b : List ℕ) → v ≡ a → w ≡ b → version_cmp v w ≡ version_cmp a b
cmp_same v w a b h k = rw h (rw k refl)

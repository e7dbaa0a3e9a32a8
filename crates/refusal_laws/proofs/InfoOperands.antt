-- Which operand of `info` is refused.
use Rattle.std.proofs.Common.{◌≡◌, ◌⊎◌, inl, inr, ◌∙◌, ℕ, Bool, true, false, List, [], ◌∷◌, ◌++◌, Option, Some, None, Ok, Err, refl, ap, sym, subst, true≢false}
use Rattle.std.specs.Prelude.{if◌then◌else◌, bytes_eq, is_some}
use Rattle.std.proofs.lemmas.Slice.Eq.{bytes_eq-Decides}
use Rattle.outcome.specs.adb_fields.FirstPair.{IsIn}
use Rattle.outcome.specs.adb_fields.Repeated.{package_name, paths_of_package_files}
use Rattle.adb_view.specs.Plain.{Plain}
use Rattle.command_core.specs.Command.{CommandLine}
use Rattle.command_core.specs.declared.command.Flags.{Flags}
use Rattle.command_core.specs.declared.operands.Operand.{Operand}
use Rattle.outcome.specs.db_core.Packages.{is_package_named, lists_path}
use Rattle.dep_core.specs.LeadingSlash.{without_leading_slash}
use Rattle.report_core.specs.declared.refusal.Refusal.{Refusal}
use Rattle.report_core.specs.declared.refusal.Refusal.TheVariants.{NotInstalled}
use Rattle.outcome.specs.tell_core.InfoForm.{info_form_of_flags}
use Rattle.outcome.specs.tell_core.Info.{form_info, info_of, info_refusal, info_unless_refused, operands_info}
use Rattle.outcome.specs.tell_core.InfoPackages.{package_meant_by_operand_text, package_named, path_owner}
use Rattle.outcome.specs.tell_core.declared.info.reporting.ReportAndRefusal.{ReportAndRefusal}
use Rattle.outcome.proofs.tell_core.Refusing.{unless_err}
use Rattle.refusal_laws.specs.InfoFaults.{AreFoundInstalled, IsPackageAskedFor, IsFirstNotInstalled, IsFoundInstalled}
use Rattle.refusal_laws.proofs.Lists.{any_in, found_in, in_any, none_found}

-- ---- whether what a text asks for is installed

some_is : {X : Type 0} (o : Option X) → is_some o ≡ true → (x : X) × (o ≡ Some x)
some_is None e = absurd (cc (e))
some_is (Some x) e = (x, refl)

none_is : {X : Type 0} (o : Option X) → is_some o ≡ false → o ≡ None
none_is None e = refl
none_is (Some x) e = absurd (cc (e))

-- by whether it is a path
abbrev IsThere : Bool → List Plain → List ℕ → Type 0
IsThere owner packages text = (pkg : Plain) × IsIn pkg packages × IsPackageAskedFor owner text pkg

lists : (path : List ℕ) (pkg : Plain) → lists_path path pkg ≡ true → IsIn path (paths_of_package_files pkg)
lists path pkg e =
    let here = any_in (bytes_eq path) (paths_of_package_files pkg) e in
    subst (λ (p : List ℕ). IsIn p (paths_of_package_files pkg)) (sym ((bytes_eq-Decides path here.0).0 here.2)) here.1

is_listed : (path : List ℕ) (pkg : Plain) → IsIn path (paths_of_package_files pkg) → lists_path path pkg ≡ true
is_listed path pkg here = in_any (bytes_eq path) (paths_of_package_files pkg) path here ((bytes_eq-Decides path path).1 refl)

owner_there : (packages : List Plain) (path : List ℕ) → is_some (path_owner packages (without_leading_slash path)) ≡ true → IsThere true packages path
owner_there packages path e =
    let some = some_is (path_owner packages (without_leading_slash path)) e in
    let found = found_in (lists_path (without_leading_slash path)) packages some.0 some.1 in
    (some.0, found.0, lists (without_leading_slash path) some.0 found.1)

no_owner_there : (packages : List Plain) (path : List ℕ) → is_some (path_owner packages (without_leading_slash path)) ≡ false → ¬ IsThere true packages path
no_owner_there packages path e there =
    let none = none_found (lists_path (without_leading_slash path)) packages there.0 (none_is (path_owner packages (without_leading_slash path)) e) there.1 in
    true≢false (sym (is_listed (without_leading_slash path) there.0 there.2) ∙ none)

pub named_there : (packages : List Plain) (name : List ℕ) → is_some (package_named packages name) ≡ true → IsThere false packages name
named_there packages name e =
    let some = some_is (package_named packages name) e in
    let found = found_in (is_package_named name) packages some.0 some.1 in
    (some.0, found.0, (bytes_eq-Decides (package_name some.0) name).0 found.1)

pub none_named_there : (packages : List Plain) (name : List ℕ) → is_some (package_named packages name) ≡ false → ¬ IsThere false packages name
none_named_there packages name e there =
    let none = none_found (is_package_named name) packages there.0 (none_is (package_named packages name) e) there.1 in
    true≢false (sym ((bytes_eq-Decides (package_name there.0) name).1 there.2) ∙ none)

-- flags with the four that say what is asked for; so a form is told without its name
abbrev flags_by : Flags → Bool → Bool → Bool → Bool → Flags
flags_by flags owner installed contents depends =
    record flags { who_owns = owner; installed = installed; contents = contents; depends = depends }

there : (flags : Flags) (owner installed contents depends : Bool) (packages : List Plain) (text : List ℕ)
    → is_some (package_meant_by_operand_text (info_form_of_flags (flags_by flags owner installed contents depends)) packages text) ≡ true → IsThere owner packages text
there flags true installed contents depends packages text e = owner_there packages text e
there flags false true contents depends packages text e = named_there packages text e
there flags false false true depends packages text e = named_there packages text e
there flags false false false true packages text e = named_there packages text e
there flags false false false false packages text e = named_there packages text e

not_there : (flags : Flags) (owner installed contents depends : Bool) (packages : List Plain) (text : List ℕ)
    → is_some (package_meant_by_operand_text (info_form_of_flags (flags_by flags owner installed contents depends)) packages text) ≡ false → ¬ IsThere owner packages text
not_there flags true installed contents depends packages text e = no_owner_there packages text e
not_there flags false true contents depends packages text e = none_named_there packages text e
not_there flags false false true depends packages text e = none_named_there packages text e
not_there flags false false false true packages text e = none_named_there packages text e
not_there flags false false false false packages text e = none_named_there packages text e

-- ---- a report or a refusal

unless_ok : (refused : Option Refusal) (report : List ℕ) (done : ReportAndRefusal) → info_unless_refused refused report ≡ Ok done → (refused ≡ None) × (done.following_refusal ≡ None)
unless_ok None report done e = (refl, cc)
unless_ok (Some r) report done e = absurd (cc (e))

module _ (flags : Flags) (packages : List Plain) where
  form_err : (owner installed contents depends : Bool) (operands : List Operand) (refusal : Refusal)
      → form_info (info_form_of_flags (flags_by flags owner installed contents depends)) packages operands ≡ Err refusal → info_refusal (info_form_of_flags (flags_by flags owner installed contents depends)) packages operands ≡ Some refusal
  form_err true installed contents depends operands refusal e =
      unless_err (info_refusal (info_form_of_flags (flags_by flags true installed contents depends)) packages operands) (operands_info (info_form_of_flags (flags_by flags true installed contents depends)) packages operands) refusal e
  form_err false true contents depends operands refusal e = absurd (cc (e))
  form_err false false true depends operands refusal e =
      unless_err (info_refusal (info_form_of_flags (flags_by flags false false true depends)) packages operands) (operands_info (info_form_of_flags (flags_by flags false false true depends)) packages operands) refusal e
  form_err false false false true operands refusal e =
      unless_err (info_refusal (info_form_of_flags (flags_by flags false false false true)) packages operands) (operands_info (info_form_of_flags (flags_by flags false false false true)) packages operands) refusal e
  form_err false false false false [] refusal e = absurd (cc (e))
  form_err false false false false (o ∷ operands) refusal e =
      unless_err (info_refusal (info_form_of_flags (flags_by flags false false false false)) packages (o ∷ operands)) (operands_info (info_form_of_flags (flags_by flags false false false false)) packages (o ∷ operands)) refusal e

  -- a report has the refusal of `-e` behind it, or there is none
  abbrev IsLate : Bool → Option Refusal → List Operand → Option Refusal → Type 0
  IsLate installed refused operands following_refusal = ((installed ≡ true) × (refused ≡ following_refusal)) ⊎ ((following_refusal ≡ None) × ((refused ≡ None) ⊎ (operands ≡ [])))

  not_late : (installed : Bool) (refused : Option Refusal) (report : List ℕ) (operands : List Operand) (done : ReportAndRefusal) → info_unless_refused refused report ≡ Ok done → IsLate installed refused operands done.following_refusal
  not_late installed refused report operands done e = let none = unless_ok refused report done e in inr (none.1, inl none.0)

  form_ok : (owner installed contents depends : Bool) (operands : List Operand) (done : ReportAndRefusal) → form_info (info_form_of_flags (flags_by flags owner installed contents depends)) packages operands ≡ Ok done
      → IsLate installed (info_refusal (info_form_of_flags (flags_by flags owner installed contents depends)) packages operands) operands done.following_refusal
  form_ok true installed contents depends operands done e =
      not_late installed (info_refusal (info_form_of_flags (flags_by flags true installed contents depends)) packages operands) (operands_info (info_form_of_flags (flags_by flags true installed contents depends)) packages operands) operands done e
  form_ok false true contents depends operands done e =
      let same : info_refusal (info_form_of_flags (flags_by flags false true contents depends)) packages operands ≡ done.following_refusal = cc in inl (refl, same)
  form_ok false false true depends operands done e =
      not_late false (info_refusal (info_form_of_flags (flags_by flags false false true depends)) packages operands) (operands_info (info_form_of_flags (flags_by flags false false true depends)) packages operands) operands done e
  form_ok false false false true operands done e =
      not_late false (info_refusal (info_form_of_flags (flags_by flags false false false true)) packages operands) (operands_info (info_form_of_flags (flags_by flags false false false true)) packages operands) operands done e
  form_ok false false false false [] done e = let none : done.following_refusal ≡ None = cc in inr (none, inr refl)
  form_ok false false false false (o ∷ operands) done e =
      not_late false (info_refusal (info_form_of_flags (flags_by flags false false false false)) packages (o ∷ operands)) (operands_info (info_form_of_flags (flags_by flags false false false false)) packages (o ∷ operands)) (o ∷ operands) done e

module _ (command : CommandLine) (packages : List Plain) where
  is_there : (text : List ℕ) → is_some (package_meant_by_operand_text (info_form_of_flags command.flags) packages text) ≡ true → IsFoundInstalled command packages text
  is_there text e = there command.flags command.flags.who_owns command.flags.installed command.flags.contents command.flags.depends packages text e

  is_not_there : (text : List ℕ) → is_some (package_meant_by_operand_text (info_form_of_flags command.flags) packages text) ≡ false → ¬ IsFoundInstalled command packages text
  is_not_there text e = not_there command.flags command.flags.who_owns command.flags.installed command.flags.contents command.flags.depends packages text e

  -- ---- operands

  record IsFirst (operands : List Operand) (refusal : Refusal) : Type 0 where
    pub before : List Operand
    pub operand : Operand
    pub after : List Operand
    pub are : operands ≡ before ++ operand ∷ after
    pub installed : AreFoundInstalled command packages before
    pub missing : ¬ IsFoundInstalled command packages operand.text
    pub told : refusal ≡ NotInstalled operand.place

  one_more : (o : Operand) (operands : List Operand) → IsFoundInstalled command packages o.text → AreFoundInstalled command packages operands → AreFoundInstalled command packages (o ∷ operands)
  one_more o operands is more p (inl same) = subst (λ (x : Operand). IsFoundInstalled command packages x.text) (sym same) is
  one_more o operands is more p (inr inside) = more p inside

  first : (operands : List Operand) (refusal : Refusal) → info_refusal (info_form_of_flags command.flags) packages operands ≡ Some refusal → IsFirst operands refusal
  first [] refusal e = absurd (cc (e))
  first (o ∷ operands) refusal e = by_test (is_some (package_meant_by_operand_text (info_form_of_flags command.flags) packages o.text)) refl e (first operands refusal)
    where
      behind : IsFoundInstalled command packages o.text → IsFirst operands refusal → IsFirst (o ∷ operands) refusal
      behind is f = record {
        before = o ∷ f.before;
        operand = f.operand;
        after = f.after;
        are = ap (λ (xs : List Operand). o ∷ xs) f.are;
        installed = one_more o f.before is f.installed;
        missing = f.missing;
        told = f.told;
      }

      by_test : (t : Bool) → is_some (package_meant_by_operand_text (info_form_of_flags command.flags) packages o.text) ≡ t → (if t then info_refusal (info_form_of_flags command.flags) packages operands else Some (NotInstalled o.place)) ≡ Some refusal
          → (info_refusal (info_form_of_flags command.flags) packages operands ≡ Some refusal → IsFirst operands refusal) → IsFirst (o ∷ operands) refusal
      by_test true t e more = behind (is_there o.text t) (more e)
      by_test false t e more = record {
        before = [];
        operand = o;
        after = operands;
        are = refl;
        installed = λ p inside. absurd inside;
        missing = is_not_there o.text t;
        told = (let same : refusal ≡ NotInstalled o.place = cc in same);
      }

  all : (operands : List Operand) → info_refusal (info_form_of_flags command.flags) packages operands ≡ None → AreFoundInstalled command packages operands
  all [] e = λ p inside. absurd inside
  all (o ∷ operands) e = by_test (is_some (package_meant_by_operand_text (info_form_of_flags command.flags) packages o.text)) refl e (all operands)
    where
      by_test : (t : Bool) → is_some (package_meant_by_operand_text (info_form_of_flags command.flags) packages o.text) ≡ t → (if t then info_refusal (info_form_of_flags command.flags) packages operands else Some (NotInstalled o.place)) ≡ None
          → (info_refusal (info_form_of_flags command.flags) packages operands ≡ None → AreFoundInstalled command packages operands) → AreFoundInstalled command packages (o ∷ operands)
      by_test true t e more = one_more o operands (is_there o.text t) (more e)
      by_test false t e more = absurd (cc (e))

  first_of : (refusal : Refusal) → IsFirst command.operands refusal → IsFirstNotInstalled command packages refusal
  first_of refusal f = record {
    before = f.before;
    operand = f.operand;
    after = f.after;
    are = f.are;
    installed = f.installed;
    missing = f.missing;
    told = f.told;
  }

  first_in : (refusal : Refusal) → info_refusal (info_form_of_flags command.flags) packages command.operands ≡ Some refusal → IsFirstNotInstalled command packages refusal
  first_in refusal e = first_of refusal (first command.operands refusal e)

  -- ---- what is told

  abbrev refused : Option Refusal
  refused = info_refusal (info_form_of_flags command.flags) packages command.operands

  pub operand_refused : (refusal : Refusal) → info_of command packages ≡ Err refusal → IsFirstNotInstalled command packages refusal
  unfolding info_of
  operand_refused refusal e =
      first_in refusal (form_err command.flags packages command.flags.who_owns command.flags.installed command.flags.contents command.flags.depends command.operands refusal e)

  late_by : (following_refusal : Option Refusal) (refusal : Refusal) → IsLate command.flags packages command.flags.installed refused command.operands following_refusal → following_refusal ≡ Some refusal
      → (command.flags.installed ≡ true) × IsFirstNotInstalled command packages refusal
  late_by following_refusal refusal (inl is) e = (is.0, first_in refusal (is.1 ∙ e))
  late_by following_refusal refusal (inr no_one) e = let both : None ≡ Some refusal = sym no_one.0 ∙ e in absurd (cc (both))

  pub operand_late : (done : ReportAndRefusal) (refusal : Refusal) → info_of command packages ≡ Ok done → done.following_refusal ≡ Some refusal → (command.flags.installed ≡ true) × IsFirstNotInstalled command packages refusal
  unfolding info_of
  operand_late done refusal e following_refusal =
      late_by done.following_refusal refusal (form_ok command.flags packages command.flags.who_owns command.flags.installed command.flags.contents command.flags.depends command.operands done e) following_refusal

  all_by : (following_refusal : Option Refusal) → IsLate command.flags packages command.flags.installed refused command.operands following_refusal → following_refusal ≡ None → AreFoundInstalled command packages command.operands
  all_by following_refusal (inl is) e = all command.operands (is.1 ∙ e)
  all_by following_refusal (inr (gone, inl is)) e = all command.operands is
  all_by following_refusal (inr (gone, inr is)) e = subst (AreFoundInstalled command packages) (sym is) (λ p inside. absurd inside)

  pub operands_told : (done : ReportAndRefusal) → info_of command packages ≡ Ok done → done.following_refusal ≡ None → AreFoundInstalled command packages command.operands
  unfolding info_of
  operands_told done e following_refusal =
      all_by done.following_refusal (form_ok command.flags packages command.flags.who_owns command.flags.installed command.flags.contents command.flags.depends command.operands done e) following_refusal

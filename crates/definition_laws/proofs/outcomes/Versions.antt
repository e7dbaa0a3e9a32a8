-- What `version` answers.
use Rattle.std.proofs.Common.{◌≡◌, ◌↔◌, ◌∙◌, inl, inr, ℕ, Bool, true, false, cond, not, List, [], ◌∷◌, ◌++◌, map, Option, Some, None, get_or, refl, ap, sym, arith}
use Rattle.std.specs.Prelude.{codes, if◌then◌else◌}
use Rattle.std.specs.List.{filter}
use Rattle.std.specs.declared.cmp.Ordering.{Ordering}
use Rattle.std.specs.declared.cmp.Ordering.TheVariants.{Less, Equal, Greater}
use Rattle.base_core.specs.Files.{Files}
use Rattle.base_core.specs.Lists.{IsIn}
use Rattle.command_core.specs.declared.command.Flags.{Flags}
use Rattle.command_core.specs.declared.operands.Operand.{Operand}
use Rattle.outcome.specs.Outcome.{outcome_without_commit, just_report_unless_refusal}
use Rattle.outcome.specs.Version.{invalid_version_lines, order_line, version_order_report, version, version_refusal}
use Rattle.report_core.specs.Reports.{report_line, report_lines}
use Rattle.report_core.specs.declared.refusal.Refusal.{Refusal}
use Rattle.report_core.specs.declared.refusal.Refusal.TheVariants.{VersionBad}
use Rattle.version_core.specs.Order.{is_version, version_cmp}
use Rattle.definition_laws.specs.outcomes.CheckedVersions.{AreBothVersions, IsPlaceOfFirstInvalidVersion}

refusal_by : (files : Files) (refusal : Option Refusal) (report : List ℕ) → (just_report_unless_refusal files refusal report).refusal ≡ refusal
refusal_by files None report = refl
refusal_by files (Some r) report = refl

refusal_is : (files : Files) (flags : Flags) (operands : List Operand) → (version files flags operands).refusal ≡ version_refusal operands
refusal_is files flags operands = go flags.test
  where
    go : (b : Bool) → (if b then just_report_unless_refusal files (version_refusal operands) (version_order_report operands) else outcome_without_commit (version_refusal operands) (invalid_version_lines operands) files).refusal ≡ version_refusal operands
    go true = refusal_by files (version_refusal operands) (version_order_report operands)
    go false = refl

-- ---- the first operand that is no version

refused_at : (operands : List Operand) (place : ℕ) → version_refusal operands ≡ Some (VersionBad place) → IsPlaceOfFirstInvalidVersion operands place
refused_at [] place e = absurd cc
refused_at (o ∷ operands) place e = go (is_version o.text) refl e (refused_at operands place)
  where
    go : (b : Bool) → is_version o.text ≡ b → (if b then version_refusal operands else Some (VersionBad o.place)) ≡ Some (VersionBad place)
        → (version_refusal operands ≡ Some (VersionBad place) → IsPlaceOfFirstInvalidVersion operands place) → IsPlaceOfFirstInvalidVersion (o ∷ operands) place
    go false is e more =
        let same : o.place ≡ place = cc in
        record { front = []; operand = o; rest = operands; operands_are = refl; place_is = same; none = is; earlier = λ p at. absurd at }
    go true is e more =
        let h = more e in
        record {
          front = o ∷ h.front;
          operand = h.operand;
          rest = h.rest;
          operands_are = ap (λ (os : List Operand). o ∷ os) h.operands_are;
          place_is = h.place_is;
          none = h.none;
          earlier = λ p at. elim at [ inl same ↦ ap (λ (q : Operand). is_version q.text) same ∙ is | inr later ↦ h.earlier p later ];
        }

at_first : (front : List Operand) (o : Operand) (rest : List Operand) (place : ℕ) → o.place ≡ place → is_version o.text ≡ false
    → ((p : Operand) → IsIn p front → is_version p.text ≡ true) → version_refusal (front ++ o ∷ rest) ≡ Some (VersionBad place)
at_first [] o rest place at none earlier =
    ap (λ (b : Bool). if b then version_refusal rest else Some (VersionBad o.place)) none ∙ ap (λ (n : ℕ). Some (VersionBad n)) at
at_first (p ∷ front) o rest place at none earlier =
    ap (λ (b : Bool). if b then version_refusal (front ++ o ∷ rest) else Some (VersionBad p.place)) (earlier p (inl refl))
    ∙ at_first front o rest place at none (λ q within. earlier q (inr within))

pub first_no_version : (files : Files) (flags : Flags) (operands : List Operand) (place : ℕ) → ((version files flags operands).refusal ≡ Some (VersionBad place)) ↔ IsPlaceOfFirstInvalidVersion operands place
first_no_version files flags operands place = (
  λ e. refused_at operands place (sym (refusal_is files flags operands) ∙ e),
  λ f. refusal_is files flags operands ∙ ap version_refusal f.operands_are ∙ at_first f.front f.operand f.rest place f.place_is f.none f.earlier,
)

-- ---- what `--check` prints

checked_lines : (operands : List Operand) → invalid_version_lines operands ≡ report_lines (map (λ (o : Operand). o.text) (filter (λ (o : Operand). not (is_version o.text)) operands))
checked_lines [] = refl
checked_lines (o ∷ operands) = go (is_version o.text) (checked_lines operands)
  where
    go : (b : Bool) → invalid_version_lines operands ≡ report_lines (map (λ (o : Operand). o.text) (filter (λ (o : Operand). not (is_version o.text)) operands))
        → (if b then [] else o.text ++ codes "\n") ++ invalid_version_lines operands
        ≡ report_lines (map (λ (o : Operand). o.text) (cond (not b) (o ∷ filter (λ (o : Operand). not (is_version o.text)) operands) (filter (λ (o : Operand). not (is_version o.text)) operands)))
    go true more = more
    go false more = ap (λ (t : List ℕ). report_line o.text ++ t) more

pub checked : (files : Files) (flags : Flags) (operands : List Operand) → flags.test ≡ false
    → (version files flags operands).out ≡ report_lines (map (λ (o : Operand). o.text) (filter (λ (o : Operand). not (is_version o.text)) operands))
checked files flags operands e =
    ap (λ (b : Bool). (if b then just_report_unless_refusal files (version_refusal operands) (version_order_report operands) else outcome_without_commit (version_refusal operands) (invalid_version_lines operands) files).out) e
    ∙ checked_lines operands

-- ---- what `--test` prints

none_by : (a b : Bool) (p q : ℕ) → (if a then (if b then None else Some (VersionBad q)) else Some (VersionBad p)) ≡ None → (a ≡ true) × (b ≡ true)
none_by true true p q e = (refl, refl)
none_by true false p q e = absurd cc
none_by false b p q e = absurd cc

both_versions : (a b : Operand) → AreBothVersions a b → version_refusal (a ∷ b ∷ []) ≡ None
both_versions a b v =
    ap (λ (t : Bool). if t then version_refusal (b ∷ []) else Some (VersionBad a.place)) v.first
    ∙ ap (λ (t : Bool). if t then None else Some (VersionBad b.place)) v.second

pub accepted : (files : Files) (flags : Flags) (a b : Operand) → flags.test ≡ true → ((version files flags (a ∷ b ∷ [])).refusal ≡ None) ↔ AreBothVersions a b
accepted files flags a b test = (
  λ e. let t = none_by (is_version a.text) (is_version b.text) a.place b.place (sym (refusal_is files flags (a ∷ b ∷ [])) ∙ e) in record { first = t.0; second = t.1 },
  λ v. refusal_is files flags (a ∷ b ∷ []) ∙ both_versions a b v,
)

printed : (files : Files) (flags : Flags) (a b : Operand) → flags.test ≡ true → AreBothVersions a b → (version files flags (a ∷ b ∷ [])).out ≡ order_line (version_cmp a.text b.text)
printed files flags a b test v =
    ap (λ (t : Bool). (if t then just_report_unless_refusal files (version_refusal (a ∷ b ∷ [])) (version_order_report (a ∷ b ∷ [])) else outcome_without_commit (version_refusal (a ∷ b ∷ [])) (invalid_version_lines (a ∷ b ∷ [])) files).out) test
    ∙ ap (λ (r : Option Refusal). (just_report_unless_refusal files r (version_order_report (a ∷ b ∷ []))).out) (both_versions a b v)

line_less : (o : Ordering) → (order_line o ≡ codes "<\n") ↔ (o ≡ Less)
line_less Less = (λ e. refl, λ e. refl)
line_less Equal = (λ e. let n : 61 ≡ 60 = ap (λ (l : List ℕ). get_or l 0 0) e in absurd (omega (arith, n)), λ e. absurd cc)
line_less Greater = (λ e. let n : 62 ≡ 60 = ap (λ (l : List ℕ). get_or l 0 0) e in absurd (omega (arith, n)), λ e. absurd cc)

line_equal : (o : Ordering) → (order_line o ≡ codes "=\n") ↔ (o ≡ Equal)
line_equal Less = (λ e. let n : 60 ≡ 61 = ap (λ (l : List ℕ). get_or l 0 0) e in absurd (omega (arith, n)), λ e. absurd cc)
line_equal Equal = (λ e. refl, λ e. refl)
line_equal Greater = (λ e. let n : 62 ≡ 61 = ap (λ (l : List ℕ). get_or l 0 0) e in absurd (omega (arith, n)), λ e. absurd cc)

line_greater : (o : Ordering) → (order_line o ≡ codes ">\n") ↔ (o ≡ Greater)
line_greater Less = (λ e. let n : 60 ≡ 62 = ap (λ (l : List ℕ). get_or l 0 0) e in absurd (omega (arith, n)), λ e. absurd cc)
line_greater Equal = (λ e. let n : 61 ≡ 62 = ap (λ (l : List ℕ). get_or l 0 0) e in absurd (omega (arith, n)), λ e. absurd cc)
line_greater Greater = (λ e. refl, λ e. refl)

abbrev pub Shows : List ℕ → Ordering → Type 0
Shows line order =
    (files : Files) (flags : Flags) (a b : Operand) → flags.test ≡ true → AreBothVersions a b
    → ((version files flags (a ∷ b ∷ [])).out ≡ line) ↔ (version_cmp a.text b.text ≡ order)

pub shows_less : Shows (codes "<\n") Less
shows_less files flags a b test v =
    let p = printed files flags a b test v in
    let l = line_less (version_cmp a.text b.text) in
    (λ e. l.0 (sym p ∙ e), λ e. p ∙ l.1 e)

pub shows_equal : Shows (codes "=\n") Equal
shows_equal files flags a b test v =
    let p = printed files flags a b test v in
    let l = line_equal (version_cmp a.text b.text) in
    (λ e. l.0 (sym p ∙ e), λ e. p ∙ l.1 e)

pub shows_greater : Shows (codes ">\n") Greater
shows_greater files flags a b test v =
    let p = printed files flags a b test v in
    let l = line_greater (version_cmp a.text b.text) in
    (λ e. l.0 (sym p ∙ e), λ e. p ∙ l.1 e)

pub silent : (files : Files) (flags : Flags) (a b : Operand) → flags.test ≡ true → (AreBothVersions a b → ⊥) → (version files flags (a ∷ b ∷ [])).out ≡ []
silent files flags a b test other =
    ap (λ (t : Bool). (if t then just_report_unless_refusal files (version_refusal (a ∷ b ∷ [])) (version_order_report (a ∷ b ∷ [])) else outcome_without_commit (version_refusal (a ∷ b ∷ [])) (invalid_version_lines (a ∷ b ∷ [])) files).out) test
    ∙ go (version_refusal (a ∷ b ∷ [])) refl
  where
    go : (r : Option Refusal) → version_refusal (a ∷ b ∷ []) ≡ r → (just_report_unless_refusal files r (version_order_report (a ∷ b ∷ []))).out ≡ []
    go (Some r) is = refl
    go None is =
        let t = none_by (is_version a.text) (is_version b.text) a.place b.place is in
        absurd (other (record { first = t.0; second = t.1 }))

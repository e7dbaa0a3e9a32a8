-- The first script by number.
use Rattle.std.proofs.Common.{◌≡◌, ◌⊎◌, inl, inr, ◌↔◌, ◌∙◌, ℕ, ◌<◌, Bool, true, false, Option, Some, None, refl, ap, sym, subst, true≢false, arith}
use Rattle.std.specs.Prelude.{if◌then◌else◌}
use Rattle.adb_view.specs.Plain.{Plain}
use Rattle.change_outcome.specs.PackageFiles.{first_script_number_of_package, has_script_with_number, scripts_of_change}
use Rattle.report_core.specs.Reports.{Change, Downgrade, Install, Purge, Reinstall, Replace, Upgrade}
use Rattle.definition_laws.specs.answers.FirstScripts.{IsFirstScriptRunByChange, IsScriptNumberRunByChange}

abbrev Runs : ℕ → ℕ → ℕ → Type 0
Runs a b n = (n ≡ a) ⊎ (n ≡ b)

-- the first of two numbers that passes a test
record IsFirst (a b : ℕ) (test : ℕ → Bool) (n : ℕ) : Type 0 where
  runs : Runs a b n
  present : test n ≡ true
  first : (m : ℕ) → m < n → Runs a b m → test m ≡ false

abbrev first_of_two : (ℕ → Bool) → ℕ → ℕ → Option ℕ
first_of_two test a b = if test a then Some a else if test b then Some b else None

abbrev by_tests : ℕ → ℕ → Bool → Bool → Option ℕ
by_tests a b s t = if s then Some a else if t then Some b else None

named_of : (test : ℕ → Bool) (a b n : ℕ) → a < b → (first_of_two test a b ≡ Some n) ↔ IsFirst a b test n
named_of test a b n less = go (test a) (test b) refl refl
  where
    go : (s t : Bool) → test a ≡ s → test b ≡ t → (by_tests a b s t ≡ Some n) ↔ IsFirst a b test n
    go true t is are = (
      λ e.
          let same : a ≡ n = cc in
          record {
            runs = inl (sym same);
            present = sym (ap test same) ∙ is;
            first = λ m below runs. absurd (elim runs [ inl one ↦ omega (arith, below, one, same) | inr two ↦ omega (arith, below, two, same, less) ]);
          },
      λ f. elim f.runs [
        | inl one ↦ ap Some (sym one)
        | inr two ↦ absurd (true≢false (sym is ∙ f.first a (omega (arith, two, less)) (inl refl)))
      ],
    )
    go false true is are = (
      λ e.
          let same : b ≡ n = cc in
          record {
            runs = inr (sym same);
            present = sym (ap test same) ∙ are;
            first = λ m below runs. elim runs [ inl one ↦ ap test one ∙ is | inr two ↦ absurd (omega (arith, below, two, same)) ];
          },
      λ f. elim f.runs [
        | inl one ↦ absurd (true≢false (sym f.present ∙ (ap test one ∙ is)))
        | inr two ↦ ap Some (sym two)
      ],
    )
    go false false is are = (
      λ e. absurd cc,
      λ f. absurd (elim f.runs [
        | inl one ↦ true≢false (sym f.present ∙ (ap test one ∙ is))
        | inr two ↦ true≢false (sym f.present ∙ (ap test two ∙ are))
      ]),
    )

none_of : (test : ℕ → Bool) (a b : ℕ) → (first_of_two test a b ≡ None) ↔ ((n : ℕ) → Runs a b n → test n ≡ false)
none_of test a b = go (test a) (test b) refl refl
  where
    go : (s t : Bool) → test a ≡ s → test b ≡ t → (by_tests a b s t ≡ None) ↔ ((n : ℕ) → Runs a b n → test n ≡ false)
    go true t is are = (λ e. absurd cc, λ f. absurd (true≢false (sym is ∙ f a (inl refl))))
    go false true is are = (λ e. absurd cc, λ f. absurd (true≢false (sym are ∙ f b (inr refl))))
    go false false is are = (λ e n runs. elim runs [ inl one ↦ ap test one ∙ is | inr two ↦ ap test two ∙ are ], λ f. refl)

-- ---- for each kind of change

pub first_named : (change : Change) (pkg : Plain) (n : ℕ) → (first_script_number_of_package pkg (scripts_of_change change) ≡ Some n) ↔ IsFirstScriptRunByChange change pkg n
first_named change pkg n = go change
  where
    as_law : (a b : ℕ) → a < b → (change : Change) → (first_script_number_of_package pkg (scripts_of_change change) ≡ first_of_two (has_script_with_number pkg) a b) → ((m : ℕ) → IsScriptNumberRunByChange change m ≡ Runs a b m)
        → (first_script_number_of_package pkg (scripts_of_change change) ≡ Some n) ↔ IsFirstScriptRunByChange change pkg n
    as_law a b less change is runs = (
      λ e.
          let f = (named_of (has_script_with_number pkg) a b n less).0 (sym is ∙ e) in
          record {
            runs = subst (λ (T : Type 0). T) (sym (runs n)) f.runs;
            present = f.present;
            first = λ m below r. f.first m below (subst (λ (T : Type 0). T) (runs m) r);
          },
      λ f.
          is ∙ (named_of (has_script_with_number pkg) a b n less).1 (record {
            runs = subst (λ (T : Type 0). T) (runs n) f.runs;
            present = f.present;
            first = λ m below r. f.first m below (subst (λ (T : Type 0). T) (sym (runs m)) r);
          }),
    )

    go : (change : Change) → (first_script_number_of_package pkg (scripts_of_change change) ≡ Some n) ↔ IsFirstScriptRunByChange change pkg n
    go (Install name version) = as_law 2 3 (omega arith) (Install name version) refl (λ m. refl)
    go (Purge name version) = as_law 4 5 (omega arith) (Purge name version) refl (λ m. refl)
    go (Reinstall name version) = as_law 6 7 (omega arith) (Reinstall name version) refl (λ m. refl)
    go (Upgrade name old new) = as_law 6 7 (omega arith) (Upgrade name old new) refl (λ m. refl)
    go (Downgrade name old new) = as_law 6 7 (omega arith) (Downgrade name old new) refl (λ m. refl)
    go (Replace name old new) = as_law 6 7 (omega arith) (Replace name old new) refl (λ m. refl)

pub none_named : (change : Change) (pkg : Plain) → (first_script_number_of_package pkg (scripts_of_change change) ≡ None) ↔ ((n : ℕ) → IsScriptNumberRunByChange change n → has_script_with_number pkg n ≡ false)
none_named (Install name version) pkg = none_of (has_script_with_number pkg) 2 3
none_named (Purge name version) pkg = none_of (has_script_with_number pkg) 4 5
none_named (Reinstall name version) pkg = none_of (has_script_with_number pkg) 6 7
none_named (Upgrade name old new) pkg = none_of (has_script_with_number pkg) 6 7
none_named (Downgrade name old new) pkg = none_of (has_script_with_number pkg) 6 7
none_named (Replace name old new) pkg = none_of (has_script_with_number pkg) 6 7

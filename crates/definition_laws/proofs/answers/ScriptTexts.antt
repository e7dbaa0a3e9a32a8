-- Which scripts of a package have text.
use Rattle.std.proofs.Common.{◌≡◌, ◌≢◌, inl, inr, ◌↔◌, ◌∙◌, ℕ, Bool, true, false, List, [], ◌∷◌, ◌++◌, length, Some, None, refl, ap, sym, subst, true≢false, arith}
use Rattle.std.specs.Prelude.{◌==◌, not, if◌then◌else◌}
use Rattle.adb_view.specs.Plain.{Plain}
use Rattle.base_core.specs.Lists.{IsIn}
use Rattle.change_outcome.specs.PackageFiles.{first_script_number_of_package, has_script_with_number}
use Rattle.definition_laws.specs.answers.ScriptTexts.{IsFirstScriptNumberWithText, script_text_by_number}

pub nonempty : (text : List ℕ) → (not (length text == 0) ≡ true) ↔ (text ≢ [])
nonempty [] = (λ e. absurd (cc), λ some. absurd (some refl))
nonempty (x ∷ text) = (λ e is. cc, λ some. grind arith)

empty : (text : List ℕ) → not (length text == 0) ≡ false → text ≡ []
empty [] e = refl
empty (x ∷ text) e = absurd (true≢false (sym ((nonempty (x ∷ text)).1 (λ is. cc)) ∙ e))

without_text : (text : List ℕ) → text ≡ [] → not (length text == 0) ≡ false
without_text text is = ap (λ (t : List ℕ). not (length t == 0)) is

pub has_text : (pkg : Plain) (number : ℕ) → (has_script_with_number pkg number ≡ true) ↔ (script_text_by_number pkg number ≢ [])
has_text pkg number = nonempty (script_text_by_number pkg number)

-- no number of a list has a script with text
abbrev NoneHasText : Plain → List ℕ → Type 0
NoneHasText pkg numbers = (m : ℕ) → IsIn m numbers → script_text_by_number pkg m ≡ []

none_more : (pkg : Plain) (n : ℕ) (numbers : List ℕ) (test : Bool) → has_script_with_number pkg n ≡ test → (first_script_number_of_package pkg numbers ≡ None) ↔ NoneHasText pkg numbers
    → ((if test then Some n else first_script_number_of_package pkg numbers) ≡ None) ↔ NoneHasText pkg (n ∷ numbers)
none_more pkg n numbers true has later = (λ e. absurd (cc), λ each. absurd ((has_text pkg n).0 has (each n (inl refl))))
none_more pkg n numbers false has later = (
  λ e m here. elim here [
    | inl same ↦ ap (script_text_by_number pkg) same ∙ empty (script_text_by_number pkg n) has
    | inr further ↦ later.0 e m further
  ],
  λ each. later.1 (λ m further. each m (inr further)),
)

pub none_taken : (pkg : Plain) (numbers : List ℕ) → (first_script_number_of_package pkg numbers ≡ None) ↔ NoneHasText pkg numbers
none_taken pkg [] = (λ e m here. absurd here, λ each. refl)
none_taken pkg (n ∷ numbers) = none_more pkg n numbers (has_script_with_number pkg n) refl (none_taken pkg numbers)

no_place : (number : ℕ) (front rest : List ℕ) → [] ≡ front ++ number ∷ rest → ⊥
no_place number [] rest is = cc
no_place number (x ∷ front) rest is = cc

-- if the script of the head has text, the first number is the head
at_head : (pkg : Plain) (n number : ℕ) (numbers front rest : List ℕ) → has_script_with_number pkg n ≡ true → n ∷ numbers ≡ front ++ number ∷ rest → NoneHasText pkg front → n ≡ number
at_head pkg n number numbers [] rest has is earlier = cc
at_head pkg n number numbers (x ∷ front) rest has is earlier =
    let same : n ≡ x = cc in
    absurd ((has_text pkg n).0 has (earlier n (inl same)))

-- if the script of the head has no text, the first number is that of the rest
in_rest : (pkg : Plain) (n number : ℕ) (numbers front rest : List ℕ) → has_script_with_number pkg n ≡ false → n ∷ numbers ≡ front ++ number ∷ rest → script_text_by_number pkg number ≢ [] → NoneHasText pkg front
    → IsFirstScriptNumberWithText pkg numbers number
in_rest pkg n number numbers [] rest has is text earlier =
    let same : number ≡ n = cc in
    absurd (text (ap (script_text_by_number pkg) same ∙ empty (script_text_by_number pkg n) has))
in_rest pkg n number numbers (x ∷ front) rest has is text earlier = record {
  front = front;
  rest = rest;
  numbers_are = cc;
  text = text;
  earlier = λ m here. earlier m (inr here);
}

first_more : (pkg : Plain) (n number : ℕ) (numbers : List ℕ) (test : Bool) → has_script_with_number pkg n ≡ test → (first_script_number_of_package pkg numbers ≡ Some number) ↔ IsFirstScriptNumberWithText pkg numbers number
    → ((if test then Some n else first_script_number_of_package pkg numbers) ≡ Some number) ↔ IsFirstScriptNumberWithText pkg (n ∷ numbers) number
first_more pkg n number numbers true has later = (
  λ e.
      let same : n ≡ number = cc in
      record {
        front = [];
        rest = numbers;
        numbers_are = ap (λ (m : ℕ). m ∷ numbers) same;
        text = subst (λ (m : ℕ). script_text_by_number pkg m ≢ []) same ((has_text pkg n).0 has);
        earlier = λ m here. absurd here;
      },
  λ f. ap Some (at_head pkg n number numbers f.front f.rest has f.numbers_are f.earlier),
)
first_more pkg n number numbers false has later = (
  λ e.
      let f = later.0 e in
      record {
        front = n ∷ f.front;
        rest = f.rest;
        numbers_are = ap (λ (ms : List ℕ). n ∷ ms) f.numbers_are;
        text = f.text;
        earlier = λ m here. elim here [
          | inl same ↦ ap (script_text_by_number pkg) same ∙ empty (script_text_by_number pkg n) has
          | inr further ↦ f.earlier m further
        ];
      },
  λ f. later.1 (in_rest pkg n number numbers f.front f.rest has f.numbers_are f.text f.earlier),
)

pub first_taken : (pkg : Plain) (numbers : List ℕ) (number : ℕ) → (first_script_number_of_package pkg numbers ≡ Some number) ↔ IsFirstScriptNumberWithText pkg numbers number
first_taken pkg [] number = (λ e. absurd (cc), λ f. absurd (no_place number f.front f.rest f.numbers_are))
first_taken pkg (n ∷ numbers) number = first_more pkg n number numbers (has_script_with_number pkg n) refl (first_taken pkg numbers number)

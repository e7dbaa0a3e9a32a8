-- Each text of a dependency is read as that dependency.
use Rattle.std.proofs.Common.{◌≡◌, ℕ, ◌+◌, Bool, true, false, not, cond, eqb, List, [], ◌∷◌, ◌++◌, length, take, drop, Option, Some, None, refl, ap, sym, ◌∙◌, arith, append_assoc, append-nil, inl, inr}
use Rattle.std.specs.Prelude.{◌&&◌, is_some, nat_lt, nat_le, unwrap_or}
use Rattle.std.specs.List.{list_all, prefix_len, take_while}
use Rattle.std.specs.Char.{is_ascii_digit}
use Rattle.std.proofs.Math.Seq.{take-append_seam, drop-append_seam}
use Rattle.std.proofs.lemmas.Bool.{and_parts, eqb-true}
use Rattle.std.proofs.lemmas.Bool.Decides.{nat_tests}
use Rattle.version_core.specs.Order.{is_version}
use Rattle.dep_core.specs.Dependency.{Dependency, dependency_from_parts, is_dependency_name_by_bytes_and_length, is_name_byte, is_tag, is_tag_byte}
use Rattle.dep_core.specs.DependencyText.{IsDependency, is_constraint_or_none, is_tag_or_none, dep_text, constraint_text, conflict_mark_text, operator_text, tag_text}
use Rattle.dep_core.specs.Reading.{dependency_on_any_version, dependency_from_tag_onward, without_leading_bytes, dependency_of, dependency_after_version, is_not_at_sign, is_operator_byte, dependency_from_operator_onward, dependency_after_operator, dependency_from_name_onward, operator_bits, dependency_after_name, dependency_from_version_onward, with_constraint, with_tag}
use Rattle.dep_core.specs.Spelling.{SpellsDependency, SpellsConstraint}
use Rattle.dep_core.proofs.Operators.{IsOperator, begins_as_operator, operator-is, text-read}
use Rattle.dep_core.proofs.Versions.{Versions}
use Rattle.version_core.specs.Grammar.{begins_with_digit, is_version_byte}
use Rattle.version_core.proofs.VersionBytes.{all-imp}

-- ---- a run of bytes ends where the next text begins with another byte

abbrev pub stops : (ℕ → Bool) → List ℕ → Bool
stops p [] = true
stops p (b ∷ rest) = not (p b)

run-len : (p : ℕ → Bool) (xs ys : List ℕ) → list_all p xs ≡ true → stops p ys ≡ true → prefix_len p (xs ++ ys) ≡ length xs
run-len p [] [] h s = refl
run-len p [] (y ∷ ys) h s = by (p y) s
  where
    by : (b : Bool) → not b ≡ true → cond b (1 + prefix_len p ys) 0 ≡ 0
    by true n = (cc)
    by false n = refl
run-len p (x ∷ xs) ys h s =
    let parts : (p x ≡ true) × (list_all p xs ≡ true) = and_parts (p x) (list_all p xs) h in
    ap (λ b. cond b (1 + prefix_len p (xs ++ ys)) 0) parts.0 ∙ (ap (λ n. 1 + n) (run-len p xs ys parts.1 s) ∙ omega arith)

pub run : (p : ℕ → Bool) (xs ys : List ℕ) → list_all p xs ≡ true → stops p ys ≡ true → take_while p (xs ++ ys) ≡ xs
run p xs ys h s = ap (λ n. take n (xs ++ ys)) (run-len p xs ys h s) ∙ take-append_seam xs ys

pub past_run : (p : ℕ → Bool) (xs ys : List ℕ) → list_all p xs ≡ true → stops p ys ≡ true → without_leading_bytes p (xs ++ ys) ≡ ys
past_run p xs ys h s = ap (λ n. drop n (xs ++ ys)) (run-len p xs ys h s) ∙ drop-append_seam xs ys

-- ---- bytes

not_at : (b : ℕ) → is_version_byte b ≡ true → is_not_at_sign b ≡ true
not_at b h = grind (arith, nat_tests)

digit_stops : (b : ℕ) → is_ascii_digit b ≡ true → not (is_operator_byte b) ≡ true
digit_stops b h = grind (arith, nat_tests)

operator_is_no_at : (b : ℕ) → is_operator_byte b ≡ true → eqb b 64 ≡ false
operator_is_no_at b h = grind (arith, nat_tests)

operator_ends_name : (b : ℕ) → is_operator_byte b ≡ true → not (is_name_byte b) ≡ true
operator_ends_name b h = grind (arith, nat_tests)

operator_ends_tag : (b : ℕ) → is_operator_byte b ≡ true → not (is_tag_byte b) ≡ true
operator_ends_tag b h = grind (arith, nat_tests)

name_is_no_mark : (b : ℕ) → is_name_byte b ≡ true → eqb b 33 ≡ false
name_is_no_mark b h = grind (arith, nat_tests)

-- ---- what follows the version

ended-tag : (d : Dependency) (tag : Option (List ℕ)) → d.tag ≡ None → is_tag_or_none tag ≡ true → dependency_after_version d (tag_text tag) ≡ Some (dependency_from_parts d.name d.version d.bits d.conflict tag)
unfolding dependency_after_version
ended-tag d None n t = ap (λ o. Some (dependency_from_parts d.name d.version d.bits d.conflict o)) n
ended-tag d (Some tag) n t =
    ap (λ o. cond (not (is_some o) && is_tag tag) (Some (with_tag d tag)) None) n
    ∙ ap (λ b. cond b (Some (with_tag d tag)) None) t

-- ---- the version

begins_with_digit-stops : (v tail : List ℕ) → begins_with_digit v ≡ true → stops is_operator_byte (v ++ tail) ≡ true
begins_with_digit-stops [] tail h = (cc)
begins_with_digit-stops (b ∷ v) tail h = digit_stops b h

versioned-text : Versions → (d : Dependency) (bits : ℕ) (v tail : List ℕ) → is_version v ≡ true → stops is_not_at_sign tail ≡ true → dependency_from_version_onward d bits (v ++ tail) ≡ dependency_after_version (with_constraint d v bits) tail
unfolding dependency_from_version_onward
versioned-text spelled d bits v tail h s =
    let bytes : list_all is_not_at_sign v ≡ true = all-imp is_version_byte is_not_at_sign not_at v (spelled.bytes v h) in
    (λ i. cond (is_version (run is_not_at_sign v tail bytes s i)) (dependency_after_version (with_constraint d (run is_not_at_sign v tail bytes s i) bits) (past_run is_not_at_sign v tail bytes s i)) None)
    ∙ ap (λ b. cond b (dependency_after_version (with_constraint d v bits) tail) None) h

-- ---- the operator

limited-text : Versions → (d : Dependency) (op v tail : List ℕ) (bits : ℕ) → operator_bits op ≡ Some bits → is_version v ≡ true → stops is_not_at_sign tail ≡ true → dependency_from_operator_onward d (op ++ (v ++ tail)) ≡ dependency_after_version (with_constraint d v bits) tail
unfolding dependency_from_operator_onward
limited-text spelled d [] v tail bits o h s = absurd (nothing (operator-is [] bits o).1)
  where
    nothing : false ≡ true → ⊥
    nothing e = (cc)
limited-text spelled d (b ∷ op) v tail bits o h s =
    let known : IsOperator (b ∷ op) bits = operator-is (b ∷ op) bits o in
    let stop : stops is_operator_byte (v ++ tail) ≡ true = begins_with_digit-stops v tail (spelled.first v h) in
    (λ i. dependency_after_operator d (operator_bits (run is_operator_byte (b ∷ op) (v ++ tail) known.0 stop i)) (past_run is_operator_byte (b ∷ op) (v ++ tail) known.0 stop i))
    ∙ (ap (λ r. dependency_after_operator d r (v ++ tail)) o ∙ versioned-text spelled d bits v tail h s)

-- a dependency on any version, with a tag or none
abbrev bare : List ℕ → Bool → Option (List ℕ) → Dependency
bare name conflict tag = dependency_from_parts name None 1 conflict tag

limited-limit : Versions → (name : List ℕ) (conflict : Bool) (tag version : Option (List ℕ)) (bits : ℕ) (limit : List ℕ) → SpellsConstraint limit version bits → is_constraint_or_none version bits ≡ true → dependency_from_operator_onward (bare name conflict tag) limit ≡ Some (dependency_from_parts name version bits conflict tag)
unfolding dependency_from_operator_onward dependency_after_version
limited-limit spelled name conflict tag None bits limit e g =
    ap (dependency_from_operator_onward (bare name conflict tag)) e ∙ ap (λ n. Some (dependency_from_parts name None n conflict tag)) (sym (eqb-true bits 1 g))
limited-limit spelled name conflict tag (Some v) bits limit e g =
    ap (dependency_from_operator_onward (bare name conflict tag)) (e.2 ∙ ap (λ t. e.0 ++ t) (sym (append-nil v)))
    ∙ limited-text spelled (bare name conflict tag) e.0 v [] bits e.1 (and_parts (is_version v) _ g).0 refl

at_stops : (tag : Option (List ℕ)) → stops is_not_at_sign (tag_text tag) ≡ true
at_stops None = refl
at_stops (Some tag) = refl

limited-limit_tag : Versions → (name : List ℕ) (conflict : Bool) (tag : Option (List ℕ)) (v : List ℕ) (bits : ℕ) (op : List ℕ) → operator_bits op ≡ Some bits → is_version v ≡ true → is_tag_or_none tag ≡ true → dependency_from_operator_onward (bare name conflict None) (op ++ (v ++ tag_text tag)) ≡ Some (dependency_from_parts name (Some v) bits conflict tag)
limited-limit_tag spelled name conflict tag v bits op o h t =
    limited-text spelled (bare name conflict None) op v (tag_text tag) bits o h (at_stops tag)
    ∙ ended-tag (with_constraint (bare name conflict None) v bits) tag refl t

-- ---- the tag after the name

limit_stops : (p : ℕ → Bool) (version : Option (List ℕ)) (bits : ℕ) (limit : List ℕ) → ((b : ℕ) → is_operator_byte b ≡ true → not (p b) ≡ true) → SpellsConstraint limit version bits → stops p limit ≡ true
limit_stops p None bits limit q e = ap (stops p) e
limit_stops p (Some v) bits limit q e = ap (stops p) e.2 ∙ by e.0 (operator-is e.0 bits e.1).1
  where
    by : (op : List ℕ) → begins_as_operator op ≡ true → stops p (op ++ v) ≡ true
    by [] h = (cc)
    by (b ∷ op) h = q b h

tagged-at : Versions → (name : List ℕ) (conflict : Bool) (tag : List ℕ) (version : Option (List ℕ)) (bits : ℕ) (limit : List ℕ) → is_tag tag ≡ true → SpellsConstraint limit version bits → is_constraint_or_none version bits ≡ true → dependency_after_name (bare name conflict None) (64 ∷ (tag ++ limit)) ≡ Some (dependency_from_parts name version bits conflict (Some tag))
unfolding dependency_after_name dependency_from_tag_onward
tagged-at spelled name conflict tag version bits limit t e g =
    let bytes : list_all is_tag_byte tag ≡ true = (and_parts (nat_lt 0 (length tag)) (list_all is_tag_byte tag) t).1 in
    let stop : stops is_tag_byte limit ≡ true = limit_stops is_tag_byte version bits limit operator_ends_tag e in
    (λ i. cond (is_tag (run is_tag_byte tag limit bytes stop i)) (dependency_from_operator_onward (with_tag (bare name conflict None) (run is_tag_byte tag limit bytes stop i)) (past_run is_tag_byte tag limit bytes stop i)) None)
    ∙ (ap (λ b. cond b (dependency_from_operator_onward (bare name conflict (Some tag)) limit) None) t ∙ limited-limit spelled name conflict (Some tag) version bits limit e g)

-- an operator follows the name
tagged-operator : (d : Dependency) (op rest : List ℕ) (bits : ℕ) → operator_bits op ≡ Some bits → dependency_after_name d (op ++ rest) ≡ dependency_from_operator_onward d (op ++ rest)
unfolding dependency_after_name
tagged-operator d op rest bits o = by op (operator-is op bits o).1
  where
    by : (op' : List ℕ) → begins_as_operator op' ≡ true → dependency_after_name d (op' ++ rest) ≡ dependency_from_operator_onward d (op' ++ rest)
    by [] h = (cc)
    by (b ∷ op') h =
        ap (λ x. cond x (dependency_from_tag_onward d (op' ++ rest)) (dependency_from_operator_onward d (b ∷ (op' ++ rest)))) (operator_is_no_at b h)

-- ---- the name, and the mark before it

tagged-none : (name : List ℕ) (conflict : Bool) → dependency_after_name (bare name conflict None) [] ≡ Some (bare name conflict None)
unfolding dependency_after_name
tagged-none name conflict = refl

limited-none : (name : List ℕ) (conflict : Bool) → dependency_from_operator_onward (bare name conflict None) [] ≡ Some (bare name conflict None)
unfolding dependency_from_operator_onward
limited-none name conflict = refl

-- after the name, where the tag is there
tagged-front : Versions → (name : List ℕ) (conflict : Bool) (tag version : Option (List ℕ)) (bits : ℕ) (limit : List ℕ) → is_tag_or_none tag ≡ true → SpellsConstraint limit version bits → is_constraint_or_none version bits ≡ true → dependency_after_name (bare name conflict None) (tag_text tag ++ limit) ≡ Some (dependency_from_parts name version bits conflict tag)
tagged-front spelled name conflict (Some tag) version bits limit t e g = tagged-at spelled name conflict tag version bits limit t e g
tagged-front spelled name conflict None None bits limit t e g =
    ap (dependency_after_name (bare name conflict None)) e ∙ (tagged-none name conflict ∙ (sym (limited-none name conflict) ∙ limited-limit spelled name conflict None None bits [] refl g))
tagged-front spelled name conflict None (Some v) bits limit t e g =
    ap (dependency_after_name (bare name conflict None)) e.2
    ∙ (tagged-operator (bare name conflict None) e.0 v bits e.1 ∙ (ap (dependency_from_operator_onward (bare name conflict None)) (sym e.2) ∙ limited-limit spelled name conflict None (Some v) bits limit e g))

-- after the name, where the tag follows the version
tagged-back : Versions → (name : List ℕ) (conflict : Bool) (tag version : Option (List ℕ)) (bits : ℕ) (limit : List ℕ) → is_tag_or_none tag ≡ true → SpellsConstraint limit version bits → is_constraint_or_none version bits ≡ true → dependency_after_name (bare name conflict None) (limit ++ tag_text tag) ≡ Some (dependency_from_parts name version bits conflict tag)
tagged-back spelled name conflict tag None bits limit t e g =
    ap (λ l. dependency_after_name (bare name conflict None) (l ++ tag_text tag)) e
    ∙ (ap (dependency_after_name (bare name conflict None)) (sym (append-nil (tag_text tag))) ∙ tagged-front spelled name conflict tag None bits [] t refl g)
tagged-back spelled name conflict tag (Some v) bits limit t e g =
    ap (λ l. dependency_after_name (bare name conflict None) (l ++ tag_text tag)) e.2
    ∙ (ap (dependency_after_name (bare name conflict None)) (append_assoc e.0 v (tag_text tag))
    ∙ (tagged-operator (bare name conflict None) e.0 (v ++ tag_text tag) bits e.1 ∙ limited-limit_tag spelled name conflict tag v bits e.0 e.1 (and_parts (is_version v) _ g).0 t))

front_stops : (tag version : Option (List ℕ)) (bits : ℕ) (limit : List ℕ) → SpellsConstraint limit version bits → stops is_name_byte (tag_text tag ++ limit) ≡ true
front_stops (Some tag) version bits limit e = refl
front_stops None version bits limit e = limit_stops is_name_byte version bits limit operator_ends_name e

back_stops : (tag version : Option (List ℕ)) (bits : ℕ) (limit : List ℕ) → SpellsConstraint limit version bits → stops is_name_byte (limit ++ tag_text tag) ≡ true
back_stops None version bits limit e =
    ap (stops is_name_byte) (append-nil limit) ∙ limit_stops is_name_byte version bits limit operator_ends_name e
back_stops (Some tag) None bits limit e = ap (λ l. stops is_name_byte (l ++ (64 ∷ tag))) e
back_stops (Some tag) (Some v) bits limit e =
    ap (λ l. stops is_name_byte (l ++ (64 ∷ tag))) e.2 ∙ by e.0 (operator-is e.0 bits e.1).1
  where
    by : (op : List ℕ) → begins_as_operator op ≡ true → stops is_name_byte ((op ++ v) ++ (64 ∷ tag)) ≡ true
    by [] h = (cc)
    by (b ∷ op) h = operator_ends_name b h

named-text : (conflict : Bool) (name rest : List ℕ) → is_dependency_name_by_bytes_and_length name ≡ true → stops is_name_byte rest ≡ true → dependency_from_name_onward conflict (name ++ rest) ≡ dependency_after_name (bare name conflict None) rest
unfolding dependency_from_name_onward
named-text conflict name rest h s =
    let a = and_parts (nat_lt 0 (length name) && nat_le (length name) 255) (list_all is_name_byte name) h in
    (λ i. cond (is_dependency_name_by_bytes_and_length (run is_name_byte name rest a.1 s i)) (dependency_after_name (dependency_on_any_version conflict (run is_name_byte name rest a.1 s i)) (past_run is_name_byte name rest a.1 s i)) None)
    ∙ ap (λ b. cond b (dependency_after_name (dependency_on_any_version conflict name) rest) None) h

marked : (conflict : Bool) (name rest : List ℕ) → is_dependency_name_by_bytes_and_length name ≡ true → dependency_of (conflict_mark_text conflict ++ (name ++ rest)) ≡ dependency_from_name_onward conflict (name ++ rest)
unfolding dependency_of
marked true name rest h = refl
marked false [] rest h = (cc)
marked false (b ∷ name) rest h =
    let a = and_parts (nat_lt 0 (length (b ∷ name)) && nat_le (length (b ∷ name)) 255) (list_all is_name_byte (b ∷ name)) h in
    ap (λ x. cond x (dependency_from_name_onward true (name ++ rest)) (dependency_from_name_onward false (b ∷ (name ++ rest)))) (name_is_no_mark b (and_parts (is_name_byte b) (list_all is_name_byte name) a.1).0)

pub read-spelled : Versions → (text : List ℕ) (d : Dependency) → SpellsDependency text d → dependency_of text ≡ Some d
read-spelled spelled text d s =
    let good = and_parts (is_dependency_name_by_bytes_and_length d.name && is_constraint_or_none d.version d.bits) (is_tag_or_none d.tag) s.0 in
    let both = and_parts (is_dependency_name_by_bytes_and_length d.name) (is_constraint_or_none d.version d.bits) good.0 in
    elim s.1.2 [
      | inl e ↦ ap dependency_of e
          ∙ (marked d.conflict d.name (tag_text d.tag ++ s.1.0) both.0
          ∙ (named-text d.conflict d.name (tag_text d.tag ++ s.1.0) both.0 (front_stops d.tag d.version d.bits s.1.0 s.1.1)
          ∙ tagged-front spelled d.name d.conflict d.tag d.version d.bits s.1.0 good.1 s.1.1 both.1))
      | inr e ↦ ap dependency_of e
          ∙ (marked d.conflict d.name (s.1.0 ++ tag_text d.tag) both.0
          ∙ (named-text d.conflict d.name (s.1.0 ++ tag_text d.tag) both.0 (back_stops d.tag d.version d.bits s.1.0 s.1.1)
          ∙ tagged-back spelled d.name d.conflict d.tag d.version d.bits s.1.0 good.1 s.1.1 both.1))
    ]

-- ---- the text that a dependency is written as

limit-written : (version : Option (List ℕ)) (bits : ℕ) → is_constraint_or_none version bits ≡ true → SpellsConstraint (constraint_text version bits) version bits
limit-written None bits g = refl
limit-written (Some v) bits g =
    (unwrap_or (operator_text bits) [], text-read bits (and_parts (is_version v) (is_some (operator_text bits)) g).1, refl)

pub written-spelled : (d : Dependency) → IsDependency d → SpellsDependency (dep_text d) d
written-spelled d g =
    let good = and_parts (is_dependency_name_by_bytes_and_length d.name && is_constraint_or_none d.version d.bits) (is_tag_or_none d.tag) g in
    (g, (constraint_text d.version d.bits, limit-written d.version d.bits (and_parts (is_dependency_name_by_bytes_and_length d.name) (is_constraint_or_none d.version d.bits) good.0).1, inl refl))

pub read-written : Versions → (d : Dependency) → IsDependency d → dependency_of (dep_text d) ≡ Some d
read-written spelled d g = read-spelled spelled (dep_text d) d (written-spelled d g)

-- NAME-VERSION.apk is a name.
use Rattle.std.proofs.Common.{◌≡◌, ℕ, zero, suc, ◌<◌, ◌≤◌, Bool, true, false, not, cond, eqb, List, [], ◌∷◌, ◌++◌, length, get_or, Option, Some, None, refl, sym, ◌∙◌, ap, subst, arith, lit<, codes, length-append}
use Rattle.std.specs.Prelude.{nat_lt, nat_le, ◌&&◌, ◌||◌}
use Rattle.std.specs.List.{list_all, list_any, slice_split, onto_first}
use Rattle.std.specs.Option.{option_and_then}
use Rattle.std.specs.Str.{bytes_eq}
use Rattle.std.specs.Cmp.Lexicographic.{bytes_decides}
use Rattle.std.proofs.lemmas.Bool.{and_parts, and_from, lt-ltb, ltb-true, not-true, or_parts, false_from_ne_true}
use Rattle.std.proofs.lemmas.Bool.Decides.{nat_tests}
use Rattle.std.proofs.lemmas.Str.{IsUtf8-from_ascii, is_utf8-from_IsUtf8}
use Rattle.base_core.specs.Name.{is_name, is_path_part, path_parts_of}
use Rattle.dep_core.specs.Dependency.{begins_with_dash_or_dot, is_dependency_name_by_bytes_and_length, is_name_end_mark, is_name_byte, is_package_name}
use Rattle.version_core.specs.Grammar.{is_version_byte}
use Rattle.version_core.specs.Order.{is_version}
use Rattle.version_core.proofs.VersionBytes.{all-imp, all-append}
use Rattle.root_names.specs.PackagePath.{package_file_name}
use Rattle.command_core.specs.declared.values.OptionValue.{OptionValue}
use Rattle.make_info.specs.declared.field.Field.TheVariants as Fields
use Rattle.make_info.specs.FieldTexts.{first_text_for, value_if_passes, package_name_in, default_output, package_file_name_of, package_version_in}

-- what the layer of versions says of them
abbrev pub HaveVersionBytes : Type 0
HaveVersionBytes = (text : List ℕ) → is_version text ≡ true → list_all is_version_byte text ≡ true

-- printable, and no slash
abbrev pub is_file_byte : ℕ → Bool
is_file_byte b = nat_lt 32 b && (nat_lt b 127 && not (eqb b 47))

version_byte : (b : ℕ) → is_version_byte b ≡ true → is_file_byte b ≡ true
version_byte b h = grind (arith, nat_tests)

name_byte : (b : ℕ) → is_name_byte b ≡ true → eqb b 47 ≡ false → is_file_byte b ≡ true
name_byte b h k =
    let all = and_parts (nat_lt 32 b && nat_lt b 127) (not (is_name_end_mark b)) h in
    let both = and_parts (nat_lt 32 b) (nat_lt b 127) all.0 in
    and_from (nat_lt 32 b) (nat_lt b 127 && not (eqb b 47)) both.0 (and_from (nat_lt b 127) (not (eqb b 47)) both.1 (ap not k))

name_bytes : (name : List ℕ) → list_all is_name_byte name ≡ true → list_any (λ b. eqb b 47) name ≡ false → list_all is_file_byte name ≡ true
name_bytes [] h k = refl
name_bytes (b ∷ rest) h k =
    let all = and_parts (is_name_byte b) (list_all is_name_byte rest) h in
    let no_slash = or_parts (eqb b 47) (list_any (λ b. eqb b 47) rest) k in
    and_from (is_file_byte b) (list_all is_file_byte rest) (name_byte b all.0 no_slash.0) (name_bytes rest all.1 no_slash.1)

package_name_bytes : (name : List ℕ) → is_package_name name ≡ true → (list_all is_file_byte name ≡ true) × (0 < length name)
package_name_bytes name h =
    let all = and_parts (is_dependency_name_by_bytes_and_length name && not (begins_with_dash_or_dot name)) (not (list_any (λ b. eqb b 47) name)) h in
    let dep = (and_parts (is_dependency_name_by_bytes_and_length name) (not (begins_with_dash_or_dot name)) all.0).0 in
    let parts = and_parts (nat_lt 0 (length name) && nat_le (length name) 255) (list_all is_name_byte name) dep in
    let some = (and_parts (nat_lt 0 (length name)) (nat_le (length name) 255) parts.0).0 in
    (name_bytes name parts.1 (not-true (list_any (λ b. eqb b 47) name) all.1), ltb-true 0 (length name) some)

-- ---- what such bytes are

none_is : (k : ℕ) → ((b : ℕ) → is_file_byte b ≡ true → eqb b k ≡ false) → (xs : List ℕ) → list_all is_file_byte xs ≡ true → list_any (λ b. eqb b k) xs ≡ false
none_is k apart [] h = refl
none_is k apart (b ∷ rest) h =
    let all = and_parts (is_file_byte b) (list_all is_file_byte rest) h in
    ap (λ x. x || list_any (λ b. eqb b k) rest) (apart b all.0) ∙ none_is k apart rest all.1

not_zero : (b : ℕ) → is_file_byte b ≡ true → eqb b 0 ≡ false
not_zero b h = grind (arith, nat_tests)

not_slash : (b : ℕ) → is_file_byte b ≡ true → eqb b 47 ≡ false
not_slash b h =
    not-true (eqb b 47) (and_parts (nat_lt b 127) (not (eqb b 47)) (and_parts (nat_lt 32 b) (nat_lt b 127 && not (eqb b 47)) h).1).1

ascii : (xs : List ℕ) → list_all is_file_byte xs ≡ true → (i : ℕ) → get_or xs i 0 < 128
ascii [] h i = lit< tt
ascii (b ∷ rest) h zero =
    let is : is_file_byte b ≡ true = (and_parts (is_file_byte b) (list_all is_file_byte rest) h).0 in
    grind (arith, nat_tests)
ascii (b ∷ rest) h (suc i) = ascii rest (and_parts (is_file_byte b) (list_all is_file_byte rest) h).1 i

one_part : (p : ℕ → Bool) (xs : List ℕ) → list_any p xs ≡ false → slice_split p xs ≡ xs ∷ []
one_part p [] h = refl
one_part p (x ∷ xs) h =
    let both = or_parts (p x) (list_any p xs) h in
    ap (λ b. cond b ([] ∷ slice_split p xs) (onto_first x (slice_split p xs))) both.0 ∙ ap (onto_first x) (one_part p xs both.1)

differs : (xs ys : List ℕ) → length ys < length xs → bytes_eq xs ys ≡ false
differs xs ys h =
    false_from_ne_true (bytes_eq xs ys) (λ t. let same : length xs ≡ length ys = ap length ((bytes_decides xs ys).0 t) in omega (arith, same, h))

is_a_part : (xs : List ℕ) → 2 < length xs → is_path_part xs ≡ true
is_a_part xs h =
    let nonempty : not (eqb (length xs) 0) ≡ true = grind (arith, nat_tests) in
    and_from (not (eqb (length xs) 0) && not (bytes_eq xs (codes "."))) (not (bytes_eq xs (codes "..")))
    (and_from (not (eqb (length xs) 0)) (not (bytes_eq xs (codes "."))) nonempty (ap not (differs xs (codes ".") (omega (arith, h)))))
    (ap not (differs xs (codes "..") h))

file_name : (xs : List ℕ) → list_all is_file_byte xs ≡ true → 2 < length xs → length xs ≤ 1016 → is_name xs ≡ true
unfolding is_name
file_name xs h long short =
    let some : nat_lt 0 (length xs) ≡ true = lt-ltb 0 (length xs) (omega (arith, long)) in
    let fits : nat_le (length xs) 1024 ≡ true = grind (arith, nat_tests) in
    let no_zero : not (list_any (λ b. eqb b 0) xs) ≡ true = ap not (none_is 0 not_zero xs h) in
    let parts : list_all is_path_part (path_parts_of xs) ≡ true =
    ap (list_all is_path_part) (one_part (λ b. eqb b 47) xs (none_is 47 not_slash xs h)) ∙ and_from (is_path_part xs) true (is_a_part xs long) refl in
    and_from _ _ (and_from _ _ (and_from _ _ (and_from _ _ some fits) no_zero) (is_utf8-from_IsUtf8 xs (IsUtf8-from_ascii xs (ascii xs h)))) parts

package_file_is_name : HaveVersionBytes → (name version : List ℕ) → is_package_name name ≡ true → is_version version ≡ true → length (package_file_name name version) ≤ 1016 → is_name (package_file_name name version) ≡ true
package_file_is_name spelled name version n v short =
    let named = package_name_bytes name n in
    let versioned : list_all is_file_byte version ≡ true = all-imp is_version_byte is_file_byte version_byte version (spelled version v) in
    let bytes : list_all is_file_byte (package_file_name name version) ≡ true =
    all-append is_file_byte ((name ++ codes "-") ++ version) (codes ".apk") (all-append is_file_byte (name ++ codes "-") version (all-append is_file_byte name (codes "-") named.0 refl) versioned) refl in
    let whole = length-append ((name ++ codes "-") ++ version) (codes ".apk") in
    file_name (package_file_name name version) bytes (omega (arith, whole)) short

-- ---- where both are given

by_good : (p : List ℕ → Bool) (b : Bool) (y x : List ℕ) → p y ≡ b → cond b (Some y) None ≡ Some x → p x ≡ true
by_good p true y x e h = let same : y ≡ x = cc in subst (λ z. p z ≡ true) same e
by_good p false y x e h = cc

good : (p : List ℕ → Bool) (o : Option (List ℕ)) (x : List ℕ) → option_and_then (value_if_passes p) o ≡ Some x → p x ≡ true
good p None x h = cc
good p (Some y) x h = by_good p (p y) y x refl h

both_given : HaveVersionBytes → (name version : Option (List ℕ)) (file : List ℕ) → ((x : List ℕ) → name ≡ Some x → is_package_name x ≡ true) → ((x : List ℕ) → version ≡ Some x → is_version x ≡ true) → package_file_name_of name version ≡ Some file → length file ≤ 1016 → is_name file ≡ true
both_given spelled None version file n v h short = cc
both_given spelled (Some name) None file n v h short = cc
both_given spelled (Some name) (Some version) file n v h short =
    let same : package_file_name name version ≡ file = cc in
    subst (λ f. is_name f ≡ true) same (package_file_is_name spelled name version (n name refl) (v version refl) (subst (λ f. length f ≤ 1016) (sym same) short))

pub own_file_name : HaveVersionBytes → (values : List OptionValue) (file : List ℕ) → default_output values ≡ Some file → length file ≤ 1016 → is_name file ≡ true
own_file_name spelled values file h short =
    both_given spelled (package_name_in values) (package_version_in values) file (λ x e. good is_package_name (first_text_for Fields.Name values) x e) (λ x e. good is_version (first_text_for Fields.Version values) x e) h short

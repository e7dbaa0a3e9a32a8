-- The line that is reported is the first bad one.
use Rattle.std.proofs.Common.{◌≡◌, ◌≢◌, ℕ, zero, suc, ◌+◌, ◌-◌, ◌≤◌, ◌<◌, Bool, true, false, List, [], ◌∷◌, ◌++◌, length, take, drop, Option, Some, None, Result, Ok, Err, refl, sym, ap, subst, ◌∙◌, append_assoc, arith, inl, inr, ◌⊎◌}
use Rattle.std.specs.Prelude.{IsSome}
use Rattle.std.proofs.lemmas.List.{append-nil}
use Rattle.std.proofs.lemmas.Bool.{cases_lt}
use Rattle.adb_view.specs.Plain.{Plain, null}
use Rattle.adb_view.specs.Schema.{shape_of}
use Rattle.adb_view.specs.declared.tables.Kind.TheVariants.{Obj}
use Rattle.adb_view.specs.declared.tables.Which.{Which}
use Rattle.adb_view.specs.declared.tables.Which.TheVariants.{Dep, Acl, PkgInfo, File, Dir, Scripts, Package, Index, Idb, Intent}
use Rattle.adb_dump.specs.adb_schema.Soundness.{header_schema_if_root_table}
use Rattle.base_core.specs.Lists.{and_then}
use Rattle.adb_dump.specs.Dump.{Line, dump_lines, schema_line_or_empty_line, object_lines_by_table}
use Rattle.adb_dump.specs.ReadBack.{ResultOrBadLine, value_of_lines_below_schema_line}
use Rattle.adb_dump.proofs.ValueLaws.{read_back}
use Rattle.gen_core.specs.Dumps.{AreDumpLines, BeginsADump, IsFirstBadDumpLine, IsNormalRootValueOfTable}
use Rattle.gen_core.specs.Generated.{DumpedRoot, dumped_root, root_of_lines, root_of_lines_below_schema_line, dumped_root_of_value_read, table_of_line, whole_lines_and_rest, unless_unfinished_line}
use Rattle.gen_core.proofs.Completed.{Completed, block_completed, has_samples}
use Rattle.gen_core.proofs.Stable.{Agree, block_stable}
use Rattle.gen_core.proofs.Texts.{AreLinesOf, NamesRoot, line_of_root, lines_are_read, lines_of_root, root_of_line}

-- ---- values

table_samples : (w : Which) → has_samples (shape_of (Obj w)) ≡ true
unfolding has_samples shape_of
table_samples Dep = refl
table_samples Acl = refl
table_samples PkgInfo = refl
table_samples File = refl
table_samples Dir = refl
table_samples Scripts = refl
table_samples Package = refl
table_samples Index = refl
table_samples Idb = refl
table_samples Intent = refl

value_completed : (w : Which) (ls : List Line) (k : ℕ) → value_of_lines_below_schema_line w ls ≡ Err k → Completed (shape_of (Obj w)) ls k
value_completed w [] k e = absurd cc
value_completed w (l ∷ ls) k e = block_completed (shape_of (Obj w)) (table_samples w) (l ∷ ls) k e

value_stable : (w : Which) (xs ys : List Line) (k : ℕ) → value_of_lines_below_schema_line w xs ≡ Err k → Agree (suc k) xs ys → value_of_lines_below_schema_line w ys ≡ Err k
value_stable w [] ys k e a = absurd a
value_stable w (x ∷ xs) [] k e a = absurd a
value_stable w (x ∷ xs) (y ∷ ys) k e a = block_stable (shape_of (Obj w)) (x ∷ xs) (y ∷ ys) k e a

agree_front : (n : ℕ) (xs others : List Line) → n ≤ length xs → Agree n xs (take n xs ++ others)
agree_front zero xs others le = tt
agree_front (suc n) [] others le = absurd (omega (arith, le))
agree_front (suc n) (x ∷ xs) others le = (refl, agree_front n xs others (omega (arith, le)))

-- ---- lines

some_same : (v w : Which) → Some v ≡ Some w → v ≡ w
some_same v w e = cc

heads : (x y : Line) (xs ys : List Line) → x ∷ xs ≡ y ∷ ys → x ≡ y
heads x y xs ys e = cc

tails : (x y : Line) (xs ys : List Line) → x ∷ xs ≡ y ∷ ys → xs ≡ ys
tails x y xs ys e = cc

-- the first line of a dump names its table
first_line_of_dump : (d l : Line) (ls : List Line) (w : Which) (v : Plain) → IsNormalRootValueOfTable w v → dump_lines w v ≡ l ∷ ls → table_of_line l ≡ Some w
first_line_of_dump d l ls w v is e = ap table_of_line (sym (heads (schema_line_or_empty_line (header_schema_if_root_table w)) l (object_lines_by_table w v) ls e)) ∙ line_of_root w is.root

-- lines that are all lines of a dump are read
dump_read : (ls : List Line) (n : ℕ) → AreDumpLines ls → root_of_lines ls ≢ Err n
dump_read ls n d e = let ok = ap root_of_lines (sym d.lines_are) ∙ lines_are_read d.which d.value d.is in absurd (let f = sym ok ∙ e in cc)

-- with a first line that names no table no dump begins
no_dump : (l : Line) (ls : List Line) → table_of_line l ≡ None → ¬ BeginsADump (l ∷ ls)
no_dump l ls e b =
    let named = first_line_of_dump l l (ls ++ b.others) b.whole.which b.whole.value b.whole.is b.whole.lines_are in
    absurd (let f = sym e ∙ named in cc)

-- with the bad line no dump begins
no_dump_with : (l : Line) (ls : List Line) (w : Which) (k : ℕ) → table_of_line l ≡ Some w → value_of_lines_below_schema_line w ls ≡ Err k → suc k ≤ length ls → ¬ BeginsADump (l ∷ take (suc k) ls)
no_dump_with l ls w k t e le b =
    let d = b.whole in
    let same : d.which ≡ w = some_same d.which w (sym (first_line_of_dump l l (take (suc k) ls ++ b.others) d.which d.value d.is d.lines_are) ∙ t) in
    let lines : object_lines_by_table d.which d.value ≡ take (suc k) ls ++ b.others = tails (schema_line_or_empty_line (header_schema_if_root_table d.which)) l (object_lines_by_table d.which d.value) (take (suc k) ls ++ b.others) d.lines_are in
    let read : value_of_lines_below_schema_line w (take (suc k) ls ++ b.others) ≡ Ok d.value = ap (λ (x : Which). value_of_lines_below_schema_line x (take (suc k) ls ++ b.others)) (sym same) ∙ ap (value_of_lines_below_schema_line d.which) (sym lines) ∙ read_back d.which d.value d.is.normal d.is.bytes in
    let bad : value_of_lines_below_schema_line w (take (suc k) ls ++ b.others) ≡ Err k = value_stable w ls (take (suc k) ls ++ b.others) k e (agree_front (suc k) ls b.others le) in
    absurd (let f = sym read ∙ bad in cc)

-- a dump begins with the lines before it
dump_before : (l : Line) (ls : List Line) (w : Which) (k : ℕ) → NamesRoot l w → Completed (shape_of (Obj w)) ls k → BeginsADump (l ∷ take k ls)
dump_before l ls w k names c = record {
  others = c.rest;
  whole = record {
    which = w;
    value = c.value;
    is = record { root = names.root; normal = (c.fit.normal, c.fit.shape); bytes = c.fit.bytes };
    lines_are = ap (λ (x : Line). x ∷ object_lines_by_table w c.value) names.line ∙ ap (λ (x : List Line). l ∷ x) c.lines;
  };
}

-- ---- the first bad line, by the lines

abbrev bad_root : ℕ → Result DumpedRoot ℕ
bad_root n = Err n

root_number : (m n : ℕ) → bad_root m ≡ bad_root n → m ≡ n
root_number m n e = cc

-- the parts of what is to be shown, by the whole lines
record FirstBad (ls : List Line) (n : ℕ) : Type 0 where
  low : 1 ≤ n
  high : n ≤ length ls + 1
  before : n ≢ 1 → BeginsADump (take (n - 1) ls)
  bad : n ≤ length ls → ¬ BeginsADump (take n ls)

at_value : (l : Line) (ls : List Line) (w : Which) (k : ℕ) → table_of_line l ≡ Some w → value_of_lines_below_schema_line w ls ≡ Err k → FirstBad (l ∷ ls) (k + 2)
at_value l ls w k t e =
    let c = value_completed w ls k e in
    let one_less : k + 2 - 1 ≡ suc k = omega arith in
    let two : k + 2 ≡ suc (suc k) = omega arith in
    record {
      low = omega arith;
      high = omega (arith, c.count);
      before = λ ne. subst (λ (n : ℕ). BeginsADump (take n (l ∷ ls))) (sym one_less) (dump_before l ls w k (root_of_line l w t) c);
      bad = λ le. subst (λ (n : ℕ). ¬ BeginsADump (take n (l ∷ ls))) (sym two) (no_dump_with l ls w k t e (omega (arith, le)));
    }

at_table : (l : Line) (ls : List Line) → table_of_line l ≡ None → FirstBad (l ∷ ls) 1
at_table l ls t = record { low = omega arith; high = omega arith; before = λ ne. absurd (ne refl); bad = λ le. no_dump l [] t }

at_nothing : FirstBad [] 1
at_nothing = record { low = omega arith; high = omega arith; before = λ ne. absurd (ne refl); bad = λ le. absurd (omega (arith, le)) }

first_bad : (ls : List Line) (n : ℕ) → root_of_lines ls ≡ Err n → FirstBad ls n
first_bad [] n e = subst (FirstBad []) (root_number 1 n e) at_nothing
first_bad (l ∷ ls) n e = by_table (table_of_line l) refl e
  where
    by_value : (w : Which) (r : ResultOrBadLine Plain) → table_of_line l ≡ Some w → value_of_lines_below_schema_line w ls ≡ r → dumped_root_of_value_read w r ≡ bad_root n → FirstBad (l ∷ ls) n
    by_value w (Ok v) t is e = absurd cc
    by_value w (Err k) t is e = subst (FirstBad (l ∷ ls)) (root_number (k + 2) n e) (at_value l ls w k t is)

    by_table : (o : Option Which) → table_of_line l ≡ o → root_of_lines_below_schema_line o ls ≡ bad_root n → FirstBad (l ∷ ls) n
    by_table None t e = subst (FirstBad (l ∷ ls)) (root_number 1 n e) (at_table l ls t)
    by_table (Some w) t e = by_value w (value_of_lines_below_schema_line w ls) t refl e

whole_front : (ls : List Line) → take (length ls) ls ≡ ls
whole_front [] = refl
whole_front (l ∷ ls) = ap (λ (x : List Line). l ∷ x) (whole_front ls)

-- the lines are all there, and bytes follow
only_rest_bad : (ls : List Line) (root : DumpedRoot) → root_of_lines ls ≡ Ok root → FirstBad ls (length ls + 1)
only_rest_bad ls root ok =
    let r = lines_of_root ls root ok in
    let all : AreDumpLines (ls ++ []) = record { which = root.which; value = root.value; is = r.is; lines_are = r.lines ∙ sym (append-nil ls) } in
    let begins : BeginsADump ls = record { others = []; whole = all } in
    let one_less : length ls + 1 - 1 ≡ length ls = omega arith in
    record {
      low = omega arith;
      high = omega arith;
      before = λ ne. subst (λ (n : ℕ). BeginsADump (take n ls)) (sym one_less) (subst BeginsADump (sym (whole_front ls)) begins);
      bad = λ le. absurd (omega (arith, le));
    }

pub first : (t : List ℕ) (n : ℕ) → dumped_root t ≡ Err n → IsFirstBadDumpLine t n
unfolding dumped_root
first t n e = go (root_of_lines (whole_lines_and_rest t).0) refl e
  where
    ls : List Line
    ls = (whole_lines_and_rest t).0

    by_rest : (root : DumpedRoot) (rest : List ℕ) → root_of_lines ls ≡ Ok root → (whole_lines_and_rest t).1 ≡ rest → unless_unfinished_line rest (length ls) root ≡ bad_root n → IsFirstBadDumpLine t n
    by_rest root [] ok is e = absurd cc
    by_rest root (c ∷ cs) ok is e =
        let f : FirstBad ls n = subst (FirstBad ls) (root_number (length ls + 1) n e) (only_rest_bad ls root ok) in
        record { low = f.low; high = f.high; before = f.before; bad = f.bad; end = λ at_end. inl (λ nothing. let g = sym is ∙ nothing in absurd cc) }

    go : (r : Result DumpedRoot ℕ) → root_of_lines ls ≡ r → and_then r (unless_unfinished_line (whole_lines_and_rest t).1 (length ls)) ≡ bad_root n → IsFirstBadDumpLine t n
    go (Err m) is e =
        let bad : root_of_lines ls ≡ Err n = is ∙ e in
        let f = first_bad ls n bad in
        record { low = f.low; high = f.high; before = f.before; bad = f.bad; end = λ at_end. inr (λ d. dump_read ls n d bad) }
    go (Ok root) is e = by_rest root (whole_lines_and_rest t).1 is refl e

-- ---- there is one

abbrev no_lines : List Line
no_lines = []

take-nil : (n : ℕ) → take n no_lines ≡ no_lines
take-nil zero = refl
take-nil (suc n) = refl

take-split : (m d : ℕ) (xs : List Line) → take (m + d) xs ≡ take m xs ++ take d (drop m xs)
take-split zero d xs = let e : 0 + d ≡ d = omega arith in ap (λ (n : ℕ). take n xs) e
take-split (suc m) d [] = take-nil (suc m + d) ∙ sym (take-nil d)
take-split (suc m) d (x ∷ xs) = let e : suc m + d ≡ suc (m + d) = omega arith in ap (λ (n : ℕ). take n (x ∷ xs)) e ∙ ap (λ (l : List Line). x ∷ l) (take-split m d xs)

-- a dump that begins with lines begins with fewer of them
fewer : (m n : ℕ) (ls : List Line) → m ≤ n → BeginsADump (take n ls) → BeginsADump (take m ls)
fewer m n ls le b =
    let d : ℕ = n - m in
    let is : n ≡ m + d = omega (arith, le) in
    let lines : take n ls ≡ take m ls ++ take d (drop m ls) = ap (λ (k : ℕ). take k ls) is ∙ take-split m d ls in
    record { others = take d (drop m ls) ++ b.others; whole = subst AreDumpLines (ap (λ (x : List Line). x ++ b.others) lines ∙ append_assoc (take m ls) (take d (drop m ls)) b.others) b.whole }

not_less : (t : List ℕ) (m n : ℕ) → IsFirstBadDumpLine t m → IsFirstBadDumpLine t n → ¬ (m < n)
not_less t m n a b lt =
    a.bad (omega (arith, lt, b.high)) (fewer m (n - 1) (whole_lines_and_rest t).0 (omega (arith, lt)) (b.before (λ e. omega (arith, lt, a.low, e))))

pub one : (t : List ℕ) (m n : ℕ) → IsFirstBadDumpLine t m → IsFirstBadDumpLine t n → m ≡ n
one t m n a b =
    elim (cases_lt m n) [
      | inl lt ↦ absurd (not_less t m n a b lt)
      | inr ge ↦ equal ge
    ]
  where
    equal : n ≤ m → m ≡ n
    equal ge =
        elim (cases_lt n m) [
          | inl lt ↦ absurd (not_less t n m b a lt)
          | inr le ↦ omega (arith, ge, le)
        ]

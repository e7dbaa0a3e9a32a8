-- The set of texts that are known to keep a rule.
use Rattle.std.proofs.Common.{◌≡◌, ℕ, Bool, true, false, List, rules, refl, sym, ap, ◌∙◌, subst, cond, eqb, [], Some}
use Rattle.std.specs.Prelude.{All, Result, Ok, Err, OnOk, OnErr, unwrap_or}
use Rattle.std.specs.Bool.{OnTrue}
use Rattle.std.specs.List.{list_any}
use Rattle.std.specs.Ordering.{is_eq, eq_by_cmp}
use Rattle.std.specs.declared.cmp.Ordering.{Ordering}
use Rattle.std.specs.declared.cmp.Ordering.TheVariants.{Less, Equal, Greater}
use Rattle.std.specs.Cmp.Derive.{bare_tied}
use Rattle.std.specs.BTreeSet.{insert_key}
use Rattle.std.proofs.lemmas.Map.Lookups.{CmpEqualImpliesEq}
use Rattle.std.proofs.lemmas.Map.Views.{All-insert_key, Contains-from_any}
use Rattle.std.proofs.lemmas.List.Elements.{All-contains}
use Rattle.base_core.specs.declared.cause.Cause.{Cause}
use Rattle.adb_view.specs.Plain.{null, blob_or_null, option_of_ok_value, plain_of}
use Rattle.adb_view.specs.Readers.{blob_of}
use Rattle.adb_view.specs.Schema.{shape_of}
use Rattle.adb_view.specs.Values.{text_in, value_at}
use Rattle.adb_schema.specs.TextRules.{text_at}
use Rattle.adb_schema.specs.contracts.judged.TextRule.{enum, the_type}
use Rattle.adb_schema.specs.contracts.judged.TextRuleOrd.TheImpl.{ghosts}
use Rattle.adb_schema.specs.declared.judged.TextRule.{TextRule}
use denote.Enum.Bare.{same_true}
use Rattle.adb_view.proofs.ValueEntries.{text_blob}

-- rules that are equal in their order are the same
pub exact_rules : (x y : TextRule) → (ghosts).cmp x y ≡ Equal → x ≡ y
exact_rules x y e = same_true the_type (search rules) x y ((bare_tied enum).ties x y ∙ ap is_eq e)

is_equal : (o : Ordering) → is_eq o ≡ true → o ≡ Equal
is_equal Less e = absurd cc
is_equal Equal e = refl
is_equal Greater e = absurd cc

-- what is in the set has what each of its keys has
pub has-contained : {K : Type 0} {cmp : K → K → Ordering} → CmpEqualImpliesEq cmp → (P : K → Type 0) (keys : List K) (k : K) (b : Bool) → b ≡ list_any (eq_by_cmp cmp k) keys → All P keys → OnTrue b (P k)
has-contained exact P keys k true e all = All-contains P keys k all (Contains-from_any (λ x y h. exact x y (is_equal _ h)) k keys (sym e))
has-contained exact P keys k false e all = tt

-- a try to insert a key that has it keeps that all have it
pub all-inserted : {K E : Type 0} (cmp : K → K → Ordering) (P : K → Type 0) (old new : List K) (k : K) (r : Result Bool E) → OnOk r (new ≡ insert_key cmp old k) → OnErr r (new ≡ old) → All P old → P k → All P new
all-inserted cmp P old new k (Ok b) ok err all here = let Q : List _ → Type 0 = λ ks. All P ks in subst Q (sym ok) (All-insert_key cmp k P old all here)
all-inserted cmp P old new k (Err e) ok err all here = let Q : List _ → Type 0 = λ ks. All P ks in subst Q (sym err) all

-- ---- the text of a word, as it is read

text_by : (is_null : Bool) (read other : Result (List ℕ) Cause) (b : List ℕ) → read ≡ cond is_null (Ok []) other → read ≡ Ok b → text_in (unwrap_or (cond is_null (Some null) (option_of_ok_value (λ x. Some (blob_or_null x)) read)) null) ≡ b
text_by true read other b e h = let same : Ok [] ≡ Ok b = sym e ∙ h in cc
text_by false read other b e h = ap (λ (r : Result (List ℕ) Cause). text_in (unwrap_or (option_of_ok_value (λ x. Some (blob_or_null x)) r) null)) h ∙ text_blob b

pub text_at-blob : (p : List ℕ) (w : ℕ) (b : List ℕ) → blob_of p w ≡ Ok b → text_at p w ≡ b
unfolding value_at plain_of shape_of blob_of
text_at-blob p w b e = text_by (eqb w 0) (blob_of p w) _ b refl e

-- What is answered of a name, by the read of its file.
use Rattle.std.proofs.Common.{◌≡◌, ℕ, Bool, true, false, List, [], ◌∷◌, Option, Some, None, Result, Ok, Err, refl, sym, ap, ◌∙◌, subst}
use Rattle.std.specs.Prelude.{IsErrOf}
use Rattle.std.specs.Result.{IsErrAnd}
use Rattle.base_core.specs.Faults.{Counts}
use Rattle.base_core.specs.Read.{OnlyReads}
use Rattle.base_core.specs.Tree.{TreeState, files_of}
use Rattle.base_core.specs.declared.tree.TreeFault.{TreeFault}
use Rattle.base_core.specs.declared.tree.TreeFault.TheVariants as Trees
use Rattle.change_inputs.specs.Answers.{Agrees, IsDiskOrMemoryFailure, IsFileFoundInTree}
use Rattle.change_inputs.specs.Chains.{and_then}
use Rattle.change_inputs.specs.Faults.{IsRefusedOf}
use Rattle.change_inputs.specs.declared.root.Refused.{Refused}
use Rattle.change_inputs.specs.declared.root.Refused.TheVariants.{Disk, Memory, Refusal}
use Rattle.change_inputs.specs.make_info.Reads.{Reads}
use Rattle.report_core.specs.declared.refusal.Refusal as Refusals
use Rattle.change_outcome.specs.NameReads.{FindsTreeFileOrFound, IsAnswerByRead, IsByRead}
use Rattle.change_outcome.specs.Told.{IsRefusalReported}

-- a read finds under a name what stands there
pub finds_it : (h : List TreeState) (read : Reads) (n : ℕ) (name : List ℕ) (found : Option (List ℕ)) → IsFileFoundInTree h name found → FindsTreeFileOrFound h read n found → read n name ≡ found
finds_it [] read n name found located finds = finds name
finds_it (v ∷ earlier) read n name found located finds = finds name ∙ sym located

-- what a definition gives whatever is read
pub by_any_read : {B : Type 0} (h : List TreeState) (by : Reads → ℕ → B) (wanted : B) → ((read : Reads) (n : ℕ) → by read n ≡ wanted) → IsByRead h by wanted
by_any_read h by wanted is = record { found = None; is = λ read n finds. is read n }

pub read_alike : {B C : Type 0} (f : B → C) (h : List TreeState) (by : Reads → ℕ → B) (other : Reads → ℕ → C) (wanted : B) (further : C) → ((read : Reads) (n : ℕ) → by read n ≡ wanted → other read n ≡ further) → IsByRead h by wanted → IsByRead h other further
read_alike f h by other wanted further alike r = record { found = r.found; is = λ read n finds. alike read n (r.is read n finds) }

module _ {A B : Type 0} (Denotes : A → B → Type 0) (h : List TreeState) (by : Reads → ℕ → Result B Refusals.Refusal) where
  -- a failure says nothing
  pub failure_answers : (P : Refused → Type 0) (r : Result A Refused) → ((e : Refused) → P e → IsDiskOrMemoryFailure e) → IsErrAnd r P → IsAnswerByRead Denotes h by r
  failure_answers P (Ok a) fails is = absurd is
  failure_answers P (Err (Refusal refusal)) fails is = absurd (fails (Refusal refusal) is)
  failure_answers P (Err Disk) fails is = tt
  failure_answers P (Err Memory) fails is = tt

  pub answer_handed : (r : Result A Refused) (fault : Refused) → IsErrAnd r (λ e. e ≡ fault) → IsAnswerByRead Denotes h by (Err fault) → IsAnswerByRead Denotes h by r
  answer_handed (Ok a) fault is answers = absurd is
  answer_handed (Err e) fault is answers = let P : Refused → Type 0 = λ x. IsAnswerByRead Denotes h by (Err x) in subst P (sym is) answers

  pub told_answers : (wanted : Refusals.Refusal) (fault : Refused) → IsRefusalReported wanted fault → IsByRead h by (Err wanted) → IsAnswerByRead Denotes h by (Err fault)
  told_answers wanted (Refusal refusal) told is = let P : Refusals.Refusal → Type 0 = λ x. IsByRead h by (Err x) in subst P (sym told) is
  told_answers wanted Disk told is = tt
  told_answers wanted Memory told is = tt

-- a refusal of a part is that of the whole
pub part_refused : {A B C D : Type 0} (S : A → B → Type 0) (whole : C → D → Type 0) (h : List TreeState) (by : Reads → ℕ → Result B Refusals.Refusal) (other : Reads → ℕ → Result D Refusals.Refusal) (fault : Refused) → ((read : Reads) (n : ℕ) (refusal : Refusals.Refusal) → by read n ≡ Err refusal → other read n ≡ Err refusal) → IsAnswerByRead S h by (Err fault) → IsAnswerByRead whole h other (Err fault)
part_refused S whole h by other (Refusal refusal) alike answers = record { found = answers.found; is = λ read n finds. alike read n refusal (answers.is read n finds) }
part_refused S whole h by other Disk alike answers = tt
part_refused S whole h by other Memory alike answers = tt

-- an answer of another definition that gives the same
pub same_answer : {A B : Type 0} (S : A → B → Type 0) (h : List TreeState) (by other : Reads → ℕ → Result B Refusals.Refusal) (r : Result A Refused) → ((read : Reads) (n : ℕ) → other read n ≡ by read n) → IsAnswerByRead S h by r → IsAnswerByRead S h other r
same_answer S h by other (Ok a) same answers = (answers.0, record { found = answers.1.found; is = λ read n finds. same read n ∙ answers.1.is read n finds }, answers.2)
same_answer S h by other (Err (Refusal refusal)) same answers = record { found = answers.found; is = λ read n finds. same read n ∙ answers.is read n finds }
same_answer S h by other (Err Disk) same answers = tt
same_answer S h by other (Err Memory) same answers = tt

-- a test that failed, of a part that was read
pub test_refused : {U A B C D : Type 0} (view : U → C) (S : A → D → Type 0) (h : List TreeState) (by : Reads → ℕ → B) (other : Reads → ℕ → Result D Refusals.Refusal) (b : B) (test : Result C Refusals.Refusal) (r : Result A Refused) (fault : Refused) → IsErrAnd r (λ e. e ≡ fault) → IsByRead h by b → Agrees view (Err fault) test
    → ((read : Reads) (n : ℕ) (refusal : Refusals.Refusal) → by read n ≡ b → test ≡ Err refusal → other read n ≡ Err refusal) → IsAnswerByRead S h other r
test_refused view S h by other b test r fault is part agrees alike = answer_handed S h other r fault is (go fault agrees)
  where
    go : (x : Refused) → Agrees view (Err x) test → IsAnswerByRead S h other (Err x)
    go (Refusal refusal) a = record { found = part.found; is = λ read n finds. alike read n refusal (part.is read n finds) a }
    go Disk a = absurd a
    go Memory a = tt

-- ---- the tree

pub tree_failed : (fault : TreeFault) (refused : Refused) → IsRefusedOf fault refused → IsDiskOrMemoryFailure refused
tree_failed Trees.Disk refused is = subst IsDiskOrMemoryFailure (sym is) tt
tree_failed Trees.Memory refused is = subst IsDiskOrMemoryFailure (sym is) tt

-- a reading that succeeded, and then a refusal that is no fault of the tree
pub then_refused : {A B U C E : Type 0} (view : U → C) (test : Result C Refusals.Refusal) (d : E) (h0 h1 : List TreeState) (a b : Counts) (value : A) (r : Result B Refused) (fault : Refused) → IsErrAnd r (λ e. e ≡ fault) → Agrees view (Err fault) test → OnlyReads {A = A} {E = E} d h0 h1 a b (Ok value) → OnlyReads Disk h0 h1 a b r
then_refused view test d h0 h1 a b value (Ok x) fault is agrees reads = absurd is
then_refused {B = B} view test d h0 h1 a b value (Err e) fault is agrees reads = record {
  same = reads.same;
  goes_on = reads.goes_on;
  disk = λ failed. absurd (go fault (from e is failed) agrees);
  kept = tt;
  others = λ other. reads.kept;
  proper = reads.proper;
}
  where
    from : (e : Refused) → e ≡ fault → IsErrOf {T = B} {E = Refused} (Err e) Disk → fault ≡ Disk
    from e is failed = cc

    go : (x : Refused) → x ≡ Disk → Agrees view (Err x) test → ⊥
    go (Refusal refusal) same a = cc
    go Disk same a = a
    go Memory same a = cc

-- a reading that succeeded, and then memory ran out
pub then_no_memory : {A B E : Type 0} (d : E) (h0 h1 : List TreeState) (a b : Counts) (value : A) (r : Result B Refused) → IsErrAnd r (λ e. e ≡ Memory) → OnlyReads {A = A} {E = E} d h0 h1 a b (Ok value) → OnlyReads {A = B} {E = Refused} Disk h0 h1 a b r
then_no_memory d h0 h1 a b value r is reads = then_refused {U = ℕ} {C = ℕ} (λ (n : ℕ). n) (Ok 0) d h0 h1 a b value r Memory is tt reads

pub no_memory : (e : Refused) → e ≡ Memory → IsDiskOrMemoryFailure e
no_memory e is = subst IsDiskOrMemoryFailure (sym is) tt

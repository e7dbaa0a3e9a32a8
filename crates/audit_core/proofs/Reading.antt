-- Calls that only read a tree, one after the other.
use Rattle.std.proofs.Common.{◌≡◌, List, Result, Ok, Err, refl, sym, subst}
use Rattle.std.specs.Result.{IsErrAnd}
use Rattle.base_core.specs.Faults.{Counts}
use Rattle.base_core.specs.Read.{OnlyReads}
use Rattle.base_core.specs.Tree.{TreeState}
use Rattle.base_core.specs.declared.tree.Disk as Failures
use Rattle.base_core.specs.declared.tree.TreeFault.{TreeFault}
use Rattle.base_core.specs.declared.tree.TreeFault.TheVariants.{Disk, Memory}
use Rattle.base_core.proofs.Counting.{readings_two}

any_answer : {A B E : Type 0} (disk : E) (h0 h1 : List TreeState) (a b : Counts) (x : A) (y : B) → OnlyReads disk h0 h1 a b (Ok x) → OnlyReads disk h0 h1 a b (Ok y)
any_answer disk h0 h1 a b x y h = record {
  same = h.same;
  goes_on = h.goes_on;
  disk = λ off. absurd (cc);
  kept = h.kept;
  others = tt;
  proper = h.proper;
}

pub reads_on : {A B E : Type 0} (disk : E) (h0 h1 h2 : List TreeState) (a b c : Counts) (x : A) (y : B) → OnlyReads disk h0 h1 a b (Ok x) → OnlyReads disk h1 h2 b c (Ok y) → OnlyReads disk h0 h2 a c (Ok x)
reads_on disk h0 h1 h2 a b c x y h k = any_answer disk h0 h2 a c y x (readings_two disk h0 h1 h2 a b c x (Ok y) h k)

-- memory runs out after reads that succeeded
pub out_of_memory : {A B : Type 0} (old new : List TreeState) (a b : Counts) (value : A) (r : Result B TreeFault) → IsErrAnd r (λ e. e ≡ Memory) → OnlyReads {A = A} {E = TreeFault} Disk old new a b (Ok value) → OnlyReads {A = B} {E = TreeFault} Disk old new a b r
out_of_memory old new a b value (Ok x) is h = absurd is
out_of_memory {A} {B} old new a b value (Err e) is h = subst (λ (f : TreeFault). OnlyReads {A = B} {E = TreeFault} Disk old new a b (Err f)) (sym is) (record {
  same = h.same;
  goes_on = h.goes_on;
  disk = λ failed. absurd (cc);
  kept = tt;
  others = λ other. h.kept;
  proper = h.proper;
})

-- a read that succeeded, told with faults of another kind and as another value
pub reads_told : {A B E F : Type 0} (e : E) (f : F) (old new : List TreeState) (a b : Counts) (value : A) (other : B) → OnlyReads {A = A} {E = E} e old new a b (Ok value) → OnlyReads {A = B} {E = F} f old new a b (Ok other)
reads_told e f old new a b value other h = record { same = h.same; goes_on = h.goes_on; disk = λ failed. absurd (cc); kept = h.kept; others = tt; proper = h.proper }

-- the tree fails at a read
pub reads_failed : {A B : Type 0} (fault : Failures.Disk) (old new : List TreeState) (a b : Counts) (r : Result B TreeFault) → IsErrAnd r (λ e. e ≡ Disk) → OnlyReads {A = A} {E = Failures.Disk} fault old new a b (Err fault) → OnlyReads {A = B} {E = TreeFault} Disk old new a b r
reads_failed fault old new a b (Ok x) is h = absurd is
reads_failed fault old new a b (Err e) is h = record { same = h.same; goes_on = h.goes_on; disk = λ failed. h.disk refl; kept = tt; others = λ other. absurd (other is); proper = h.proper }

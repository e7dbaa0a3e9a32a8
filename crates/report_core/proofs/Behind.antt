-- A text behind another on a sink.
use Rattle.std.proofs.Common.{◌≡◌, ◌∙◌, ℕ, List, ◌++◌, Option, Result, Ok, Err, subst, refl, sym, codes, append_assoc}
use Rattle.base_core.specs.Faults.{Counts, CountsOnlyRise, CountsNoNewFaultOrLackOfMemory}
use Rattle.base_core.specs.Sink.{AddsBytesToSink, SinkBeforeAndAfter}
use Rattle.base_core.specs.Write.{Writes}
use Rattle.base_core.proofs.Counting.{goes_on_twice, no_fault_twice}
use Rattle.base_core.proofs.Added.{AddsBytesToSink-more}
use Rattle.report_core.specs.Texts.{refusal_text_of_package_and_reason}
use Rattle.report_core.proofs.Counting.{fails_after}
use Rattle.report_core.proofs.Fronts.{AddsPrefixToSink-grows, AddsPrefixToSink-after}

-- what a sink makes of a call, from one moment to another
abbrev pub Between : Option (List ℕ) → Counts → Option (List ℕ) → Counts → SinkBeforeAndAfter
Between told before told_then after = record { bytes_before = told; bytes_after = told_then; before = before; after = after }

-- the first text was written, and nothing failed
pub record IsDone (text : List ℕ) (sink : SinkBeforeAndAfter) : Type 0 where
  pub added : AddsBytesToSink sink.bytes_before sink.bytes_after text
  pub goes_on : CountsOnlyRise sink.before sink.after
  pub kept : CountsNoNewFaultOrLackOfMemory sink.before sink.after
  pub proper : sink.after.misuses ≡ sink.before.misuses

pub done_by : {T E : Type 0} (text : List ℕ) (sink : SinkBeforeAndAfter) (x : T) → Writes {T = T} {E = E} text sink (Ok x) → IsDone text sink
done_by text sink x w = record { added = w.ok; goes_on = w.cause.goes_on; kept = w.cause.kept; proper = w.cause.proper }

pub done_then : (a b : List ℕ) (t0 t1 t2 : Option (List ℕ)) (c0 c1 c2 : Counts) → IsDone a (Between t0 c0 t1 c1) → IsDone b (Between t1 c1 t2 c2) → IsDone (a ++ b) (Between t0 c0 t2 c2)
done_then a b t0 t1 t2 c0 c1 c2 h k = record { added = AddsBytesToSink-more t0 t1 t2 a b h.added k.added; goes_on = goes_on_twice c0 c1 c2 h.goes_on k.goes_on; kept = no_fault_twice c0 c1 c2 h.kept k.kept; proper = k.proper ∙ h.proper }

pub written_behind : {T E : Type 0} (a b : List ℕ) (t0 t1 t2 : Option (List ℕ)) (c0 c1 c2 : Counts) (result : Result T E)
    → IsDone a (Between t0 c0 t1 c1) → Writes b (Between t1 c1 t2 c2) result → Writes (a ++ b) (Between t0 c0 t2 c2) result
written_behind a b t0 t1 t2 c0 c1 c2 (Ok x) h k = record {
  ok = AddsBytesToSink-more t0 t1 t2 a b h.added k.ok;
  err = tt;
  cause = record { goes_on = goes_on_twice c0 c1 c2 h.goes_on k.cause.goes_on; cause = tt; kept = no_fault_twice c0 c1 c2 h.kept k.cause.kept; proper = k.cause.proper ∙ h.proper };
}
written_behind a b t0 t1 t2 c0 c1 c2 (Err e) h k = record { ok = tt; err = AddsPrefixToSink-after t0 t1 t2 a b h.added k.err; cause = fails_after c0 c1 c2 e h.goes_on h.proper k.cause }

-- more might have followed
pub cut_short : {T U E F : Type 0} (a b : List ℕ) (sink : SinkBeforeAndAfter) (e : E) (f : F) → Writes {T = T} a sink (Err e) → Writes {T = U} (a ++ b) sink (Err f)
cut_short a b sink e f w = record { ok = tt; err = AddsPrefixToSink-grows sink.bytes_before sink.bytes_after a b w.err; cause = record { goes_on = w.cause.goes_on; cause = w.cause.cause; kept = tt; proper = w.cause.proper } }

pub writes_same : {T E : Type 0} (a b : List ℕ) (sink : SinkBeforeAndAfter) (result : Result T E) → a ≡ b → Writes a sink result → Writes b sink result
writes_same a b sink result same writes = subst (λ (bytes : List ℕ). Writes bytes sink result) same writes

-- ---- three texts in a row

pub three : {T E : Type 0} (a b c : List ℕ) (t0 t1 t2 t3 : Option (List ℕ)) (c0 c1 c2 c3 : Counts) (result : Result T E)
    → IsDone a (Between t0 c0 t1 c1) → IsDone b (Between t1 c1 t2 c2) → Writes c (Between t2 c2 t3 c3) result → Writes (a ++ b ++ c) (Between t0 c0 t3 c3) result
three a b c t0 t1 t2 t3 c0 c1 c2 c3 result h k w = written_behind (a ++ b) c t0 t2 t3 c0 c2 c3 result (done_then a b t0 t1 t2 c0 c1 c2 h k) w

pub cut_in_the_second : {T U E F : Type 0} (a b c : List ℕ) (t0 t1 t2 : Option (List ℕ)) (c0 c1 c2 : Counts) (e : E) (f : F)
    → IsDone a (Between t0 c0 t1 c1) → Writes {T = T} b (Between t1 c1 t2 c2) (Err e) → Writes {T = U} (a ++ b ++ c) (Between t0 c0 t2 c2) (Err f)
cut_in_the_second {T} {U} a b c t0 t1 t2 c0 c1 c2 e f h w = cut_short (a ++ b) c (Between t0 c0 t2 c2) e f (written_behind {T = T} a b t0 t1 t2 c0 c1 c2 (Err e) h w)

pub cut_in_the_first : {T U E F : Type 0} (a b c : List ℕ) (sink : SinkBeforeAndAfter) (e : E) (f : F) → Writes {T = T} a sink (Err e) → Writes {T = U} (a ++ b ++ c) sink (Err f)
cut_in_the_first {T} a b c sink e f w = cut_short (a ++ b) c sink e f (cut_short {T = T} {U = T} a b sink e e w)

-- ---- texts in other brackets

pub differs_text : (name version wanted found n v w f : List ℕ) → n ≡ name → v ≡ version → w ≡ wanted → f ≡ found
    → n ++ codes "-" ++ v ++ codes ": differs from its index: " ++ w ++ codes ", " ++ f
    ≡ refusal_text_of_package_and_reason name version (codes "differs from its index: " ++ wanted ++ codes ", " ++ found)
differs_text name version wanted found n v w f is_n is_v is_w is_f = rw is_n (rw is_v (rw is_w (rw is_f (simp append_assoc))))

pub clash_text : (path other p o : List ℕ) → p ≡ path → o ≡ other → p ++ codes ": is a folder of " ++ o ≡ path ++ codes ": is a folder of " ++ other
clash_text path other p o is_p is_o = rw is_p (rw is_o refl)

pub ended : (text colon more : List ℕ) → text ++ (colon ++ more) ≡ text ++ colon ++ more
ended text colon more = sym (append_assoc text colon more)

-- Texts that are added one behind another, and what a call finds.
use Rattle.std.proofs.Common.{◌≡◌, ◌∙◌, ◌+◌, ◌<◌, ℕ, List, [], ◌∷◌, ◌++◌, length, take, get_or, Option, Some, None, Result, Ok, Err, true, false, refl, sym, ap, subst, append_assoc, if◌then◌else◌}
use Rattle.std.specs.Prelude.{IfErr}
use Rattle.std.proofs.lemmas.List.{take_more}
use Rattle.base_core.specs.Faults.{Counts}
use Rattle.base_core.specs.Read.{OnlyReads}
use Rattle.base_core.specs.Sink.{AddsBytesToSink, SinkBeforeAndAfter}
use Rattle.base_core.specs.Tree.{TreeState, files_of}
use Rattle.base_core.specs.declared.tree.TreeFault.{TreeFault}
use Rattle.base_core.specs.declared.tree.TreeFault.TheVariants as Trees
use Rattle.base_core.proofs.Added.{AddsBytesToSink-none}
use Rattle.report_core.specs.declared.refusal.Refusal.{Refusal}
use Rattle.report_core.proofs.Behind.{Between}
use Rattle.report_core.proofs.Fronts.{Chains}
use Rattle.words_core.specs.Grammar.{command_of}
use Rattle.hint_core.specs.declared.telling.HintFault.{HintFault}
use Rattle.hint_core.specs.declared.telling.HintFault.TheVariants.{Disk, Memory, Sink}
use Rattle.hint_core.specs.Hints.{hints_by_words_and_subject_file, is_explained}
use Rattle.hint_core.specs.Lines.{hint_lines, printed_byte, printed_bytes}
use Rattle.hint_core.specs.Told.{IsFoundIfNamed, IsNotDiskFault, Tells, hint_lines_after_refusal}

pub printed_chain : Chains printed_bytes
printed_chain [] b = refl
printed_chain (x ∷ a) b = ap (λ t. printed_byte x ++ t) (printed_chain a b) ∙ sym (append_assoc (printed_byte x) (printed_bytes a) (printed_bytes b))

-- one more text behind those of a front of a list
pub more_text : {A : Type 0} (text : List A → List ℕ) → Chains text → (old mid new : List ℕ) (xs : List A) (i : ℕ) (d : A) (bytes : List ℕ) → bytes ≡ text (get_or xs i d ∷ []) → i < length xs → mid ≡ old ++ text (take i xs) → new ≡ mid ++ bytes → new ≡ old ++ text (take (i + 1) xs)
more_text text chains old mid new xs i d bytes is lt h k =
    k ∙ (ap (λ b. b ++ bytes) h ∙ (append_assoc old (text (take i xs)) bytes
    ∙ (ap (λ b. old ++ (text (take i xs) ++ b)) is
    ∙ ap (λ b. old ++ b) (sym (ap text (take_more xs i d lt) ∙ chains (take i xs) (get_or xs i d ∷ []))))))

-- what is under a name now, if that can be seen
pub found_now : (history : List TreeState) → Option (List ℕ) → Option (List ℕ)
found_now [] name = None
found_now (v ∷ earlier) None = None
found_now (v ∷ earlier) (Some name) = files_of v name

pub is_found_now : (history : List TreeState) (name : Option (List ℕ)) → IsFoundIfNamed history name (found_now history name)
unfolding found_now
is_found_now [] None = refl
is_found_now [] (Some name) = tt
is_found_now (v ∷ earlier) None = refl
is_found_now (v ∷ earlier) (Some name) = refl

-- ---- what is written

-- a call that wrote nothing failed
pub tells_nothing : {T E : Type 0} (lines : List ℕ) (told : Option (List ℕ)) (before after : Counts) (fault : E) → Tells {T = T} lines (Between told before told after) (Err fault)
tells_nothing lines told before after fault = record { ok = tt; err = record { front = []; rest = lines; whole = refl; added = AddsBytesToSink-none told } }

pub silent : (words : List (List ℕ)) (refusal : Refusal) (found : Option (List ℕ)) → is_explained (command_of words) ≡ false → hint_lines_after_refusal words refusal found ≡ []
silent words refusal found own = ap (λ b. if b then hint_lines (hints_by_words_and_subject_file words refusal found) else []) own

pub told_all : (words : List (List ℕ)) (refusal : Refusal) (found : Option (List ℕ)) → is_explained (command_of words) ≡ true → hint_lines_after_refusal words refusal found ≡ hint_lines (hints_by_words_and_subject_file words refusal found)
told_all words refusal found own = ap (λ b. if b then hint_lines (hints_by_words_and_subject_file words refusal found) else []) own

-- nothing was to be written
pub tells_none : {T E : Type 0} (lines : List ℕ) (told : Option (List ℕ)) (before after : Counts) (x : T) → lines ≡ [] → Tells {E = E} lines (Between told before told after) (Ok x)
tells_none lines told before after x none = record { ok = subst (AddsBytesToSink told told) (sym none) (AddsBytesToSink-none told); err = tt }

pub tells_same : {T E : Type 0} (a b : List ℕ) (sink : SinkBeforeAndAfter) (result : Result T E) → a ≡ b → Tells a sink result → Tells b sink result
tells_same a b sink result same tells = subst (λ lines. Tells lines sink result) same tells

memory_is_no_disk : {B : Type 0} → ◌≡◌ {A = Result B HintFault} (Err Memory) (Err Disk) → ⊥
memory_is_no_disk is = cc

sink_is_no_disk : {B : Type 0} → ◌≡◌ {A = Result B HintFault} (Err Sink) (Err Disk) → ⊥
sink_is_no_disk is = cc

-- what follows a read fails for another reason than the tree
pub behind_reading : {A B : Type 0} (old new : List TreeState) (a b : Counts) (value : A) (result : Result B HintFault) → IfErr result IsNotDiskFault → OnlyReads {A = A} {E = TreeFault} Trees.Disk old new a b (Ok value) → OnlyReads Disk old new a b result
behind_reading old new a b value (Ok done) kind h = record { same = h.same; goes_on = h.goes_on; disk = λ is. absurd cc; kept = h.kept; others = tt; proper = h.proper }
behind_reading old new a b value (Err Disk) kind h = absurd kind
behind_reading old new a b value (Err Memory) kind h = record { same = h.same; goes_on = h.goes_on; disk = λ is. absurd (memory_is_no_disk is); kept = tt; others = λ other. h.kept; proper = h.proper }
behind_reading old new a b value (Err Sink) kind h = record { same = h.same; goes_on = h.goes_on; disk = λ is. absurd (sink_is_no_disk is); kept = tt; others = λ other. h.kept; proper = h.proper }

-- ---- a read that fails in other words

ok_is_no_err : {A E : Type 0} (x : A) (fault : E) → ◌≡◌ {A = Result A E} (Ok x) (Err fault) → ⊥
ok_is_no_err x fault is = cc

same_err : {A E : Type 0} (fault other : E) → ◌≡◌ {A = Result A E} (Err fault) (Err other) → fault ≡ other
same_err fault other is = cc

-- a result after a read is a fault of the tree exactly if the read was
pub read_on : {A B E F : Type 0} (disk : E) (other_disk : F) (old new : List TreeState) (a b : Counts) (read : Result A E) (result : Result B F) → (result ≡ Err other_disk → read ≡ Err disk) → (read ≡ Err disk → result ≡ Err other_disk) → OnlyReads disk old new a b read → OnlyReads other_disk old new a b result
read_on disk other old new a b (Ok x) (Ok y) to from h = record { same = h.same; goes_on = h.goes_on; disk = λ is. absurd (ok_is_no_err x disk (to is)); kept = h.kept; others = tt; proper = h.proper }
read_on disk other old new a b (Ok x) (Err fault) to from h = record { same = h.same; goes_on = h.goes_on; disk = λ is. absurd (ok_is_no_err x disk (to is)); kept = tt; others = λ apart. h.kept; proper = h.proper }
read_on disk other old new a b (Err e) (Ok y) to from h = record { same = h.same; goes_on = h.goes_on; disk = λ is. h.disk (to is); kept = h.others (λ same. ok_is_no_err y other (from (ap Err same))); others = tt; proper = h.proper }
read_on disk other old new a b (Err e) (Err fault) to from h = record { same = h.same; goes_on = h.goes_on; disk = λ is. h.disk (to is); kept = tt; others = λ apart. h.others (λ same. apart (same_err fault other (from (ap Err same)))); proper = h.proper }

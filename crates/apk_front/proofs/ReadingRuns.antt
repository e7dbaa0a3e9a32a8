-- A run of a command that only reads.
use Rattle.std.proofs.Common.{◌≡◌, ℕ, List, [], ◌∷◌, Result, Ok, Err, refl, sym, ap, subst}
use Rattle.base_core.specs.Calls.{IfObservable}
use Rattle.base_core.specs.Faults.{Counts}
use Rattle.base_core.specs.Files.{Files}
use Rattle.base_core.specs.Read.{OnlyReads}
use Rattle.base_core.specs.Tree.{TreeState}
use Rattle.base_core.specs.declared.tree.TreeFault.{TreeFault}
use Rattle.base_core.specs.declared.tree.TreeFault.TheVariants.{Disk, Memory}
use Rattle.base_core.proofs.Counting.{goes_on_same, no_fault_same}
use Rattle.command_core.specs.Command.{CommandLine}
use Rattle.command_core.specs.declared.command.Applet.{Applet}
use Rattle.command_core.specs.declared.operands.Operand.{Operand}
use Rattle.make_core.specs.make_info.Reads.{Reads}
use Rattle.outcome.specs.Commands.{effect_outcome}
use Rattle.outcome.specs.Effect.{effect_of}
use Rattle.outcome.specs.Given.{no_listing_choice_or_clash}
use Rattle.outcome.specs.Outcome.{Outcome}
use Rattle.apk_front.specs.RunContracts.{IsReadingRun, IsRunByArguments}
use Rattle.apk_front.specs.Verdicts.{read_only_outcome}
use Rattle.apk_front.specs.declared.answer.Verdict.{Verdict}
use Rattle.apk_front.proofs.Carried.{Ran, ran_found, ran_read}
use Rattle.apk_front.proofs.Runs.{History, Judged}

-- the reading failed
pub read_failed : {A : Type 0} (outcome : Reads → Files → Outcome) (old now : History) (before after : Counts) (fault : TreeFault) (judged : Judged) → judged ≡ Err fault → OnlyReads {A = A} {E = TreeFault} Disk old now before after (Err fault)
    → IsReadingRun outcome old now before after judged
read_failed outcome old now before after fault judged is reads = subst (λ (j : Judged). IsReadingRun outcome old now before after j) (sym is) (record {
  found = tt;
  by_reads = tt;
  tree = record {
    same = reads.same;
    goes_on = reads.goes_on;
    disk = λ failed. reads.disk (let same : fault ≡ Disk = cc in ap Err same);
    kept = tt;
    others = reads.others;
    proper = reads.proper;
  };
})

-- memory ran out after it
pub read_then_memory : {A : Type 0} (outcome : Reads → Files → Outcome) (old now : History) (before after : Counts) (x : A) (judged : Judged) → judged ≡ Err Memory → OnlyReads {A = A} {E = TreeFault} Disk old now before after (Ok x)
    → IsReadingRun outcome old now before after judged
read_then_memory outcome old now before after x judged is reads = subst (λ (j : Judged). IsReadingRun outcome old now before after j) (sym is) (record {
  found = tt;
  by_reads = tt;
  tree = record {
    same = reads.same;
    goes_on = reads.goes_on;
    disk = λ failed. absurd (cc);
    kept = tt;
    others = λ apart. reads.kept;
    proper = reads.proper;
  };
})

no_misuse : (old : History) (n : ℕ) → IfObservable old (λ v. n ≡ n)
no_misuse [] n = tt
no_misuse (v ∷ rest) n = refl

-- a verdict without a call
unread : (old : History) (counts : Counts) (verdict : Verdict) → OnlyReads {A = Verdict} {E = TreeFault} Disk old old counts counts (Ok verdict)
unread old counts verdict = record {
  same = refl;
  goes_on = goes_on_same counts;
  disk = λ is. absurd (cc);
  kept = no_fault_same counts;
  others = tt;
  proper = no_misuse old counts.misuses;
}

pub ran : (old : History) (counts : Counts) (command : CommandLine) (verdict : Verdict) → Ran command verdict → IsReadingRun (read_only_outcome command) old old counts counts (Ok verdict)
ran old counts command verdict is = record { found = ran_found old command verdict is; by_reads = ran_read command verdict is; tree = unread old counts verdict }

-- memory ran out before a call
pub unread_memory : (outcome : Reads → Files → Outcome) (old : History) (counts : Counts) (judged : Judged) → judged ≡ Err Memory → IsReadingRun outcome old old counts counts judged
unread_memory outcome old counts judged is = subst (λ (j : Judged). IsReadingRun outcome old old counts counts j) (sym is) (record {
  found = tt;
  by_reads = tt;
  tree = record {
    same = refl;
    goes_on = goes_on_same counts;
    disk = λ failed. absurd (cc);
    kept = tt;
    others = λ apart. no_fault_same counts;
    proper = no_misuse old counts.misuses;
  };
})

pub arguments_memory : {Tree : Type 0} (IsOne : Files → Outcome → Type 0) (tree : Tree) (judged : Judged) → judged ≡ Err Memory → IsRunByArguments IsOne tree tree judged
arguments_memory IsOne tree judged is = subst (λ (j : Judged). IsRunByArguments IsOne tree tree j) (sym is) (record { by_words = refl; untouched = refl })

-- by the applet as it is read of the command
pub looked : (command : CommandLine) (applet : Applet) (old now : History) (before after : Counts) (judged : Judged) → command.applet ≡ applet
    → IsReadingRun (λ read files. effect_outcome (effect_of applet) applet command no_listing_choice_or_clash read files) old now before after judged → IsReadingRun (read_only_outcome command) old now before after judged
looked command applet old now before after judged is run =
    subst (λ (a : Applet). IsReadingRun (λ read files. effect_outcome (effect_of a) a command no_listing_choice_or_clash read files) old now before after judged) (sym is) run

-- over the same operands
pub over_operands : (outcome : List Operand → Reads → Files → Outcome) (given asked : List Operand) (old now : History) (before after : Counts) (judged : Judged) → given ≡ asked → IsReadingRun (outcome given) old now before after judged
    → IsReadingRun (outcome asked) old now before after judged
over_operands outcome given asked old now before after judged same run =
    subst (λ (os : List Operand). IsReadingRun (outcome os) old now before after judged) same run

-- A report, and the line of a refusal behind it.
use Rattle.std.proofs.Common.{◌≡◌, ◌≢◌, ◌⊎◌, inl, inr, ℕ, List, [], Option, Some, None, Ok, Err, refl, sym, subst, ◌∙◌, append-nil}
use Rattle.base_core.specs.Files.{Files}
use Rattle.base_core.specs.Sink.{AddsBytesToSink, AddsPrefixToSink, SinkBeforeAndAfter, SinkBytesGrowBy, SinkBytesGrowByPrefixOf, SinkFailedWithCause}
use Rattle.base_core.specs.Write.{Writes}
use Rattle.base_core.proofs.Added.{AddsBytesToSink-none}
use Rattle.report_core.specs.Texts.{refusal_line}
use Rattle.report_core.specs.declared.refusal.Refusal.{Refusal}
use Rattle.outcome.specs.Outcome.{outcome_without_commit, refusal_line_or_empty}
use Rattle.apk_front.specs.Answers.{DidNotFail, IsSingleSinkFault}
use Rattle.apk_front.specs.Verdicts.{IsPrinted, IsRefusalPrinted}
use Rattle.apk_front.specs.declared.answer.Answer.{Answer}
use Rattle.apk_front.specs.declared.answer.Answer.TheVariants.{OutFault}

-- all of it
pub all_some : (old new : Option (List ℕ)) (bytes : List ℕ) → AddsBytesToSink old new bytes → AddsPrefixToSink old new bytes
all_some old new bytes h = record { front = bytes; rest = []; whole = sym (append-nil bytes); added = h }

-- nothing of it
pub none_some : (old : Option (List ℕ)) (bytes : List ℕ) → AddsPrefixToSink old old bytes
none_some old bytes = record { front = []; rest = bytes; whole = refl; added = AddsBytesToSink-none old }

line_some : (refusal : Refusal) → refusal_line refusal ≢ []
line_some refusal e = cc

-- which of the two sinks failed
pub either_failed : {A B C D E F : Type 0} → (A × C × E) ⊎ (B × D × F) → A ⊎ B
either_failed (inl w) = inl w.0
either_failed (inr w) = inr w.0

-- the report was written
pub printed_after : (refusal : Option Refusal) (report : List ℕ) (files : Files) (answer : Answer) (out err : SinkBeforeAndAfter) → SinkBytesGrowBy out report → DidNotFail out → IsRefusalPrinted refusal answer err → IsPrinted (outcome_without_commit refusal report files) answer out err
printed_after None report files answer out err got kept (is, gets, calm) =
    subst (λ (a : Answer). IsPrinted (outcome_without_commit None report files) a out err) (sym is) (record { same = refl; out_gets = got; err_gets = gets; out_kept = kept; err_kept = calm })
printed_after (Some refusal) report files answer out err got kept (inl (is, gets, calm)) =
    subst (λ (a : Answer). IsPrinted (outcome_without_commit (Some refusal) report files) a out err) (sym is) (record { same = refl; out_gets = got; err_gets = gets; out_kept = kept; err_kept = calm })
printed_after (Some refusal) report files answer out err got kept (inr (is, gets, failed)) =
    subst (λ (a : Answer). IsPrinted (outcome_without_commit (Some refusal) report files) a out err) (sym is)
    (record { which = inr (record { some = line_some refusal; failed = failed }, got, kept); out_gets = all_some out.bytes_before out.bytes_after report got; err_gets = gets })

pub printed_whole : {T E : Type 0} (refusal : Option Refusal) (report bytes : List ℕ) (files : Files) (answer : Answer) (out err : SinkBeforeAndAfter) (x : T) → bytes ≡ report → Writes {E = E} bytes out (Ok x)
    → IsRefusalPrinted refusal answer err → IsPrinted (outcome_without_commit refusal report files) answer out err
printed_whole {T} {E} refusal report bytes files answer out err x is w printed =
    printed_after refusal report files answer out err (subst (SinkBytesGrowBy out) is w.ok) w.cause.kept printed

-- the report was not written
pub not_printed : (refusal : Option Refusal) (report : List ℕ) (files : Files) (out err : SinkBeforeAndAfter) → report ≢ [] → SinkBytesGrowByPrefixOf out report → SinkFailedWithCause out → err.bytes_after ≡ err.bytes_before → DidNotFail err → IsPrinted (outcome_without_commit refusal report files) OutFault out err
not_printed refusal report files out err some gets failed same kept = record {
  which = inl (record { some = some; failed = failed }, subst (λ (t : Option (List ℕ)). AddsBytesToSink err.bytes_before t []) (sym same) (AddsBytesToSink-none err.bytes_before), kept);
  out_gets = gets;
  err_gets = subst (λ (t : Option (List ℕ)). AddsPrefixToSink err.bytes_before t (refusal_line_or_empty refusal)) (sym same) (none_some err.bytes_before (refusal_line_or_empty refusal));
}

pub printed_front : {T E : Type 0} (refusal : Option Refusal) (report bytes : List ℕ) (files : Files) (out err : SinkBeforeAndAfter) (e : E) → bytes ≡ report → Writes {T = T} bytes out (Err e) → bytes ≢ []
    → err.bytes_after ≡ err.bytes_before → DidNotFail err → IsSingleSinkFault (outcome_without_commit refusal report files) out err
printed_front {T} refusal report bytes files out err e is w some same kept =
    let got : Writes {T = T} report out (Err e) = subst (λ (b : List ℕ). Writes {T = T} b out (Err e)) is w in
    not_printed refusal report files out err (λ none. some (is ∙ none)) got.err got.cause.cause same kept

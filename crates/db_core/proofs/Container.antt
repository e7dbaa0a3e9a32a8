-- The container of a database, and why there is none.
use Rattle.std.proofs.Common.{◌≡◌, ℕ, Bool, List, Result, Ok, Err, ap, sym, ◌∙◌, subst}
use Rattle.adb_sound.specs.adb_schema.declared.read.TheConstants.{IDB_WORD}
use Rattle.adb_sound.specs.adb_write.Canonical.{ByteAndValueCounts, payload_or_counts_at_overflow}
use Rattle.adb_sound.specs.adb_write.File.{file_of}
use Rattle.adb_sound.specs.adb_write.declared.writer.WriteFault.{WriteFault}
use Rattle.adb_sound.specs.adb_write.declared.writer.WriteFault.TheVariants.{TooLarge, Memory}
use Rattle.db_core.specs.Members.{Member}
use Rattle.db_core.specs.NewDatabase.{database_file_of_payload_unless_too_large, database_of, database_value}
use Rattle.adb_copy.specs.adb_values.Written.{IsWrittenAs}

pub file_written : (members : List Member) (flags slice : List Bool) (payload bytes file : List ℕ) → slice ≡ flags → payload_or_counts_at_overflow (database_value members slice) ≡ Ok payload → bytes ≡ payload → file ≡ file_of IDB_WORD bytes
    → database_of members flags ≡ Ok file
unfolding database_of
file_written members flags slice payload bytes file same written is e =
    ap (λ (fs : List Bool). database_file_of_payload_unless_too_large (payload_or_counts_at_overflow (database_value members fs))) (sym same)
    ∙ (ap database_file_of_payload_unless_too_large written ∙ ap Ok (ap (file_of IDB_WORD) (sym is) ∙ sym e))

refused : {A B : Type 0} (view : A → List ℕ) (other : B → List ℕ) (fault : WriteFault) (told : Result (List ℕ) ByteAndValueCounts) → IsWrittenAs view (Err fault) told → IsWrittenAs other (Err fault) (database_file_of_payload_unless_too_large told)
refused view other (TooLarge bytes values) told h = ap database_file_of_payload_unless_too_large h
refused view other Memory told h = tt

pub file_refused : {A B : Type 0} (view : A → List ℕ) (other : B → List ℕ) (members : List Member) (flags slice : List Bool) (fault : WriteFault) (r : Result A WriteFault) → slice ≡ flags → r ≡ Err fault
    → IsWrittenAs view r (payload_or_counts_at_overflow (database_value members slice)) → IsWrittenAs other (Err fault) (database_of members flags)
unfolding database_of
file_refused view other members flags slice fault r same e h =
    subst (λ (fs : List Bool). IsWrittenAs other (Err fault) (database_file_of_payload_unless_too_large (payload_or_counts_at_overflow (database_value members fs)))) same
    (refused view other fault (payload_or_counts_at_overflow (database_value members slice)) (subst (λ x. IsWrittenAs view x (payload_or_counts_at_overflow (database_value members slice))) e h))

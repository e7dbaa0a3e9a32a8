use Rattle.std.proofs.Common.{sym, append-nil}
use Rattle.hint_core.proofs.lines.push_hint.Goals as goal

pub returns-in-Word : goal.returns-in-Word
returns-in-Word c = rw c.in-Word.is (rw c.as_bytes.ensures at c.push_word.ensures)

pub returns-in-AbsentFile : goal.returns-in-AbsentFile
returns-in-AbsentFile c = rw c.in-AbsentFile.is (rw (c.as_bytes-in-AbsentFile.ensures, c.absent_file_end.ensures) at c.push_word-in-AbsentFile.ensures)

pub returns-in-Unowned : goal.returns-in-Unowned
returns-in-Unowned c = rw c.in-Unowned.is (rw (c.as_bytes-in-Unowned.ensures, c.unowned_end.ensures) at c.push_word-in-Unowned.ensures)

pub returns-in-Information : goal.returns-in-Information
returns-in-Information c = rw c.in-Information.is (rw (c.as_bytes-in-Information.ensures, c.information_end.ensures) at c.push_word-in-Information.ensures)

pub returns-in-Missing : goal.returns-in-Missing
returns-in-Missing c = rw c.in-Missing.is c.push_missing.ensures

pub returns-in-Repository : goal.returns-in-Repository
returns-in-Repository c = rw c.in-Repository.is (rw c.as_bytes-in-Repository.ensures at c.push_repository.ensures)

pub returns-in-Line : goal.returns-in-Line
returns-in-Line c = rw c.in-Line.is (rw c.as_bytes-in-Line.ensures at c.push_line.ensures)

pub returns-in-Database : goal.returns-in-Database
returns-in-Database c = rw c.in-Database.is (rw c.database_file_name_of.ensures at c.push_texts.ensures)

pub returns-in-AbsentDatabase : goal.returns-in-AbsentDatabase
returns-in-AbsentDatabase c = rw c.in-AbsentDatabase.is c.push_texts-in-AbsentDatabase.ensures

pub returns-in-SharedPath : goal.returns-in-SharedPath
returns-in-SharedPath c = rw c.in-SharedPath.is c.push_texts-in-SharedPath.ensures

pub returns-in-Journal : goal.returns-in-Journal
returns-in-Journal c = rw c.in-Journal.is c.push_texts-in-Journal.ensures

pub returns-in-Untrusted : goal.returns-in-Untrusted
returns-in-Untrusted c = rw c.in-Untrusted.is c.push_texts-in-Untrusted.ensures

pub returns-in-AbsentPackage : goal.returns-in-AbsentPackage
returns-in-AbsentPackage c = rw c.in-AbsentPackage.is c.push_texts-in-AbsentPackage.ensures

pub returns-in-OtherPackage : goal.returns-in-OtherPackage
returns-in-OtherPackage c = rw c.in-OtherPackage.is c.push_texts-in-OtherPackage.ensures

pub returns-in-Damaged : goal.returns-in-Damaged
returns-in-Damaged c = rw c.in-Damaged.is c.push_texts-in-Damaged.ensures

pub returns-in-Foreign : goal.returns-in-Foreign
returns-in-Foreign c = rw c.in-Foreign.is c.push_texts-in-Foreign.ensures

pub returns-in-Field : goal.returns-in-Field
returns-in-Field c = rw c.in-Field.is c.push_field.ensures

pub returns-in-Schema : goal.returns-in-Schema
returns-in-Schema c = rw c.in-Schema.is (rw c.table_text.ensures at c.push_texts-in-Schema.ensures)

pub returns-in-UnknownSchema : goal.returns-in-UnknownSchema
returns-in-UnknownSchema c = rw c.in-UnknownSchema.is c.push_texts-in-UnknownSchema.ensures

pub returns-in-Nothing : goal.returns-in-Nothing
returns-in-Nothing c = rw c.in-Nothing.is (sym (append-nil _))

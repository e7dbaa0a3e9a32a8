use Rattle.std.proofs.Common.{sym, ◌∙◌}
use Rattle.definition_laws.proofs.roots.reads_of_named_files_find_bytes.Goals as goal

pub returns : goal.returns
returns c = λ files read named reads n name bytes found. (named.each name bytes (sym (reads n name) ∙ found)).each

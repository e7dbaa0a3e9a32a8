use Rattle.std.proofs.Common.{◌≡◌, ◌∙◌, ◌+◌, ◌++◌, ◌∷◌, [], false, List, ℕ, length, length-append, sym, ap, arith}
use Rattle.std.specs.Prelude.{None, true}
use Rattle.std.specs.List.{list_any}
use Rattle.adb_view.specs.Adb.{payload_of}
use Rattle.adb_view.specs.declared.adb.Adb.{Adb}
use Rattle.adb_view.specs.Values.{value_at}
use Rattle.adb_view.specs.declared.tables.Kind.TheVariants as Kinds
use Rattle.adb_view.specs.declared.tables.Which.TheVariants as Tables
use Rattle.candidate_core.specs.Candidates.{Candidate, candidate_of, is_repository_package_same_as_installed, with_installed_marked_or_added}
use Rattle.candidate_core.specs.Packages.{candidates_of_packages}
use Rattle.candidate_core.specs.Values.{IsPoolFault}
use Rattle.candidate_core.specs.declared.candidate_list.PoolFault.{PoolFault}
use Rattle.candidate_core.proofs.Installed.{none_same, stands_last}
use Rattle.candidate_core.proofs.Steps.{fault_more, if_err, on_ok}
use Rattle.candidate_core.proofs.candidate_list.CandidateList.push_installed.Goals as goal

abbrev read_as : Adb → ℕ → Candidate
read_as adb word = candidate_of (value_at (payload_of adb) (Kinds.Obj Tables.PkgInfo) word) None None true

pub returns-clause-pushed : goal.returns-clause-pushed
returns-clause-pushed c =
    let old : List Candidate = candidates_of_packages c.args.self.now.packages in
    let installed : Candidate = read_as c.args.info.adb c.args.info.word in
    let first : c.of.result ≡ installed = c.of.ensures ∙ (ap (λ (a : Adb). read_as a c.word.result) c.adb.ensures ∙ ap (read_as c.args.info.adb) c.word.ensures.is) in
    let again : read_as c.adb.result c.word-2.result ≡ installed = ap (λ (a : Adb). read_as a c.word-2.result) c.adb.ensures ∙ ap (read_as c.args.info.adb) c.word-2.ensures.is in
    let none : list_any (is_repository_package_same_as_installed installed) old ≡ false = ap (λ (i : Candidate). list_any (is_repository_package_same_as_installed i) old) (sym first) ∙ (sym c.mark_same.ensures.some ∙ c.if-mark_same.false) in
    let same : candidates_of_packages c.add_source.new.self ≡ old =
    c.add_source.ensures.same ∙ (c.mark_same.ensures.same ∙ (none_same c.of.result old (sym c.mark_same.ensures.some ∙ c.if-mark_same.false))) in
    on_ok c.push.result _ _
    (λ h. h ∙ (ap (λ (z : List Candidate). z ++ read_as c.adb.result c.word-2.result ∷ []) same ∙ (ap (λ (i : Candidate). old ++ i ∷ []) again ∙ sym (stands_last old installed none)))) c.push.ensures.pushed

pub returns-clause-fault : goal.returns-clause-fault
returns-clause-fault c =
    let old : List Candidate = candidates_of_packages c.args.self.now.packages in
    let installed : Candidate = read_as c.args.info.adb c.args.info.word in
    let first : c.of.result ≡ installed = c.of.ensures ∙ (ap (λ (a : Adb). read_as a c.word.result) c.adb.ensures ∙ ap (read_as c.args.info.adb) c.word.ensures.is) in
    let none : list_any (is_repository_package_same_as_installed installed) old ≡ false = ap (λ (i : Candidate). list_any (is_repository_package_same_as_installed i) old) (sym first) ∙ (sym c.mark_same.ensures.some ∙ c.if-mark_same.false) in
    let same : length (candidates_of_packages c.add_source.new.self) ≡ length old =
    ap length (c.add_source.ensures.same ∙ (c.mark_same.ensures.same ∙ (none_same c.of.result old (sym c.mark_same.ensures.some ∙ c.if-mark_same.false)))) in
    let last : length (with_installed_marked_or_added old installed) ≡ length old + 1 = ap length (stands_last old installed none) ∙ length-append old (installed ∷ []) in
    if_err c.push.result (λ (fault : PoolFault). IsPoolFault fault (length (candidates_of_packages c.add_source.new.self) + 1)) (λ (fault : PoolFault). IsPoolFault fault (length (with_installed_marked_or_added old installed)))
    (λ fault h. fault_more fault (length (candidates_of_packages c.add_source.new.self) + 1) (length (with_installed_marked_or_added old installed)) (omega (arith, same, last)) h) c.push.ensures.fault

-- The reads on which inputs rest.
use Rattle.std.proofs.Common.{◌≡◌, ℕ, suc, ◌+◌, ◌<◌, List, [], ◌∷◌, length, Result, Ok, Err, refl, sym, ap, ◌∙◌, subst, arith}
use Rattle.adb_view.specs.Plain.{Plain}
use Rattle.command_core.specs.Command.{CommandLine}
use Rattle.dep_core.specs.Repositories.{Repository}
use Rattle.package_files.specs.make_info.Reads.{Reads}
use Rattle.report_core.specs.declared.refusal.Refusal as Refusals
use Rattle.root_names.specs.RootNames.{database_name, repositories_name, text_database_name, world_name}
use Rattle.change_inputs.specs.Chains.{and_then}
use Rattle.change_inputs.specs.Indexes.{root_indexes}
use Rattle.change_inputs.specs.Inputs.{Inputs, Root, index_reads_from, indexes_of, inputs_from_parts, inputs_of, root_for, root_from_databases_world_repositories}

same_index_reads : (read other : Reads) (n : ℕ) (rs : List Repository) → ((k : ℕ) (name : List ℕ) → k < n + length rs → read k name ≡ other k name) → index_reads_from read n rs ≡ index_reads_from other n rs
same_index_reads read other n [] h = refl
same_index_reads read other n (r ∷ rs) h =
    let here : read n r.path ≡ other n r.path = h n r.path (omega arith) in
    let rest : index_reads_from read (suc n) rs ≡ index_reads_from other (suc n) rs = same_index_reads read other (suc n) rs (λ k name lt. h k name (omega (arith, lt))) in
    λ i. here i ∷ rest i

given : {A B : Type 0} (r : Result A Refusals.Refusal) (next : A → Result B Refusals.Refusal) (b : B) → and_then r next ≡ Ok b → (a : A) × (r ≡ Ok a) × (next a ≡ Ok b)
given (Ok a) next b is = (a, refl, is)
given (Err refusal) next b is = absurd (cc)

module _ (command : CommandLine) (read other : Reads) where
  same_inputs : (root : Root) (indexes : List Plain) → root_for command read ≡ Ok root → indexes_of read root.repositories ≡ Ok indexes
      → ((n : ℕ) (name : List ℕ) → n < 4 + length root.repositories → read n name ≡ other n name) → inputs_of command other ≡ Ok (inputs_from_parts root indexes)
  unfolding inputs_of
  same_inputs root indexes good those h =
      let e0 : read 0 database_name ≡ other 0 database_name = h 0 database_name (omega arith) in
      let e1 : read 1 text_database_name ≡ other 1 text_database_name = h 1 text_database_name (omega arith) in
      let e2 : read 2 world_name ≡ other 2 world_name = h 2 world_name (omega arith) in
      let e3 : read 3 repositories_name ≡ other 3 repositories_name = h 3 repositories_name (omega arith) in
      let roots : root_for command other ≡ Ok root = sym (λ i. root_from_databases_world_repositories command (e0 i) (e1 i) (e2 i) (e3 i)) ∙ good in
      let all : indexes_of other root.repositories ≡ Ok indexes = ap root_indexes (sym (same_index_reads read other 4 root.repositories h)) ∙ those in
      ap (λ r. and_then r (λ root. and_then (indexes_of other root.repositories) (λ indexes. Ok (inputs_from_parts root indexes)))) roots
      ∙ ap (λ r. and_then r (λ indexes. Ok (inputs_from_parts root indexes))) all

  pub own_reads : (inputs : Inputs) → inputs_of command read ≡ Ok inputs → ((n : ℕ) (name : List ℕ) → n < 4 + length inputs.root.repositories → read n name ≡ other n name) → inputs_of command other ≡ Ok inputs
  unfolding inputs_of
  own_reads inputs is h =
      let p = given (root_for command read) (λ root. and_then (indexes_of read root.repositories) (λ indexes. Ok (inputs_from_parts root indexes))) inputs is in
      let q = given (indexes_of read p.0.repositories) (λ indexes. Ok (inputs_from_parts p.0 indexes)) inputs p.2 in
      let are : inputs_from_parts p.0 q.0 ≡ inputs = cc (q.2) in
      let P : Inputs → Type 0 = λ x. ((n : ℕ) (name : List ℕ) → n < 4 + length x.root.repositories → read n name ≡ other n name) → inputs_of command other ≡ Ok x in
      subst P are (same_inputs p.0 q.0 p.1 q.1) h

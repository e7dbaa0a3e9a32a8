use Rattle.std.proofs.Common.{◌≡◌, List, ℕ, [], ◌∷◌, ◌++◌, length, get_or, set, ap, sym, subst, refl, ◌∙◌, arith, rules}
use Rattle.std.proofs.lemmas.List.{get_or-set_same}
use Rattle.std.specs.Vec.{vec_len}
use Rattle.tree_memory.specs.Changes.{contents_of}
use Rattle.tree_memory.specs.Kept.{IsConsistentStore}
use Rattle.tree_memory.specs.Table.{lookup}
use Rattle.tree_memory.specs.declared.store.Change.{Change}
use Rattle.tree_memory.specs.declared.store.Change.TheVariants.{Append}
use Rattle.tree_memory.specs.declared.store.Stored.{Stored}
use Rattle.tree_memory.proofs.Keeping.{leads_within, stored_bytes}
use Rattle.tree_memory.proofs.Changed.{states_of, IsOther, store_append, history_append, store_same, states_same}
use Rattle.tree_memory.proofs.Outcomes.{on_any_err}
use Rattle.tree_memory.proofs.store.Store.append.Goals as goal

pub index_mut-requires : goal.index_mut-requires
index_mut-requires c =
    let es = c.args.self.now.names.entries.items in
    let found = sym (c.in-Some.ensures ∙ ap (lookup es) c.as_bytes.ensures.value) in
    let within = leads_within c.args.self.now.changes.items es c.args.self.now.files.items c.args.name.now c.in-Some.file c.args.self.now.in_step found in
    omega (arith, within)

pub invariant_of-self-in-Break-branch-2 : goal.invariant_of-self-in-Break-branch-2
invariant_of-self-in-Break-branch-2 c =
    let es = c.args.self.now.names.entries.items in
    let files = c.args.self.now.files.items in
    let found = sym (c.in-Some.ensures ∙ ap (lookup es) c.as_bytes.ensures.value) in
    let within = leads_within c.args.self.now.changes.items es files c.args.name.now c.in-Some.file c.args.self.now.in_step found in
    let more = set files c.in-Some.file c.append.new.self in record {
      in_step = subst (λ (l : List Change). IsConsistentStore l es more) (sym c.in_ok-reserve.ensures.items)
          (store_same c.in-Some.file c.args.self.now.changes.items es files more c.append.new.self c.index_mut.result.now c.args.self.now.in_step refl within c.in_err-append.ensures.same_bytes c.in_err-append.ensures.same_synced c.index_mut.ensures.value);
    }

pub returns-in_err-append-clause-err : goal.returns-in_err-append-clause-err
returns-in_err-append-clause-err c =
    let files = c.args.self.now.files.items in
    let more = set files c.in-Some.file c.append.new.self in
    on_any_err c.from_residual-in_err-append.result
    (ap (λ (l : List Change). states_of l more) c.in_ok-reserve.ensures.items
    ∙ states_same c.in-Some.file c.args.self.now.changes.items files more c.append.new.self c.index_mut.result.now refl c.in_err-append.ensures.same_bytes c.index_mut.ensures.value)

pub index-requires : goal.index-requires
index-requires c =
    let es = c.args.self.now.names.entries.items in
    let found = sym (c.in-Some.ensures ∙ ap (lookup es) c.as_bytes.ensures.value) in
    let within = leads_within c.args.self.now.changes.items es c.args.self.now.files.items c.args.name.now c.in-Some.file c.args.self.now.in_step found in
    search (rules, within)

pub invariant_of-self-in-Some : goal.invariant_of-self-in-Some
invariant_of-self-in-Some c =
    let es = c.args.self.now.names.entries.items in
    let files = c.args.self.now.files.items in
    let found = sym (c.in-Some.ensures ∙ ap (lookup es) c.as_bytes.ensures.value) in
    let within = leads_within c.args.self.now.changes.items es files c.args.name.now c.in-Some.file c.args.self.now.in_step found in
    let s : Stored = c.append.new.self in
    let here : c.index.result.now ≡ s = c.index.ensures ∙ get_or-set_same files c.in-Some.file s c.index.result.now within in
    let len_is : c.len-len.result ≡ length s.bytes.items = omega (arith, c.len-len.ensures, ap (λ (t : Stored). vec_len t.bytes) here, s.bytes.ok.0) in
    let m : IsOther c.args.name.now c.in-Some.file es files (set files c.in-Some.file s) s = record { named = found; stored = refl } in
    let grown : s.bytes.items ≡ get_or (contents_of files) c.in-Some.file [] ++ c.args.piece.now =
    c.in_ok-append.ensures.bytes ∙ ap (λ (l : List ℕ). l ++ c.args.piece.now) (sym (stored_bytes files c.in-Some.file c.index_mut.result.now within c.index_mut.ensures.value))
    in record {
      in_step = store_append c.args.name.now c.in-Some.file c.args.self.now.changes.items c.add.new.list.items es files (set files c.in-Some.file s) s c.args.self.now.in_step m c.args.piece.now grown
          (c.add.ensures ∙ (λ i. c.in_ok-reserve.ensures.items i ++ Append c.in-Some.file (len_is i) ∷ [])) c.in_ok-append.ensures.synced c.in_ok-append.ensures.piece (omega (arith, len_is, s.bytes.small));
    }

pub returns-in_ok-append-clause-ok : goal.returns-in_ok-append-clause-ok
returns-in_ok-append-clause-ok c =
    let es = c.args.self.now.names.entries.items in
    let files = c.args.self.now.files.items in
    let found = sym (c.in-Some.ensures ∙ ap (lookup es) c.as_bytes.ensures.value) in
    let within = leads_within c.args.self.now.changes.items es files c.args.name.now c.in-Some.file c.args.self.now.in_step found in
    let s : Stored = c.append.new.self in
    let here : c.index.result.now ≡ s = c.index.ensures ∙ get_or-set_same files c.in-Some.file s c.index.result.now within in
    let len_is : c.len-len.result ≡ length s.bytes.items = omega (arith, c.len-len.ensures, ap (λ (t : Stored). vec_len t.bytes) here, s.bytes.ok.0) in
    let m : IsOther c.args.name.now c.in-Some.file es files (set files c.in-Some.file s) s = record { named = found; stored = refl } in
    let grown : s.bytes.items ≡ get_or (contents_of files) c.in-Some.file [] ++ c.args.piece.now =
    c.in_ok-append.ensures.bytes ∙ ap (λ (l : List ℕ). l ++ c.args.piece.now) (sym (stored_bytes files c.in-Some.file c.index_mut.result.now within c.index_mut.ensures.value))
    in
    history_append c.args.name.now c.in-Some.file c.args.self.now.changes.items c.add.new.list.items es files (set files c.in-Some.file s) s c.args.self.now.in_step m c.args.piece.now grown
    (c.add.ensures ∙ (λ i. c.in_ok-reserve.ensures.items i ++ Append c.in-Some.file (len_is i) ∷ []))

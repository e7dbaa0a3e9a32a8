use Rattle.std.proofs.Common.{◌≡◌, ◌++◌, [], ◌∷◌, IfSome, List, ℕ, Option, subst, sym}
use Rattle.std.proofs.lemmas.List.Elements.{All-push, All-same}
use Rattle.base_core.specs.Files.{IsFolderOf}
use Rattle.host_tree.proofs.listing.Walk.meet.Goals as goal

pub returns-in_ok-keep-in-File : goal.returns-in_ok-keep-in-File
returns-in_ok-keep-in-File g c =
    let top = c.args.top.now in
    let path = c.args.path.now in
    let name = c.in-Some.name in
    let below : IsFolderOf top path = subst (λ (folder : List ℕ). IsFolderOf folder path) c.as_bytes.ensures.value (c.is_folder_of.ensures.0 c.if-not-is_folder_of.false) in
    let same : name ≡ path = subst (λ (found : Option (List ℕ)). IfSome found (λ n. n ≡ path)) c.in-Some.is c.in_ok-name.ensures.value in
    All-same (IsFolderOf top) c.keep-in-File.new.list.items (c.args.self.now.files.items ++ name ∷ []) c.in_ok-keep-in-File.ensures.ok
    (All-push (IsFolderOf top) c.args.self.now.files.items name c.requires (subst (IsFolderOf top) (sym same) below))

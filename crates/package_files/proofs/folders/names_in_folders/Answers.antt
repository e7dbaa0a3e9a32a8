use Rattle.std.proofs.Common.{◌≡◌, ◌∙◌, ◌+◌, ◌++◌, ◌∷◌, ap, subst, ℕ, List, [], length, drop, map, replicate, Option, None, Bor, Vec}
use Rattle.std.specs.declared.alloc.Global.{Global}
use Rattle.std.proofs.lemmas.List.{map-append}
use Rattle.package_files.specs.Folders.{folder_of, path_relative_to}
use Rattle.package_files.specs.BorrowedNames.{IsIndexOf, names_borrowed}
use Rattle.package_files.proofs.PlaceLemmas.{no_files, grown_list, kept_lists, place_grows, place_keeps}
use Rattle.package_files.proofs.folders.names_in_folders.Goals as goal
use Rattle.package_files.proofs.folders.names_in_folders.Goals.{in-Some+in_ok-push, in_default}

pub loop-i-init : goal.loop-i-init
loop-i-init c = c.in_ok-files.ensures ∙ ap (λ (n : ℕ). replicate n []) c.len.ensures ∙ no_files c.args.dir.now c.args.folders.now

one_more : (before later : Vec (Bor (List ℕ)) Global) (name : Bor (List ℕ)) → later.items ≡ before.items ++ name ∷ [] → names_borrowed later ≡ names_borrowed before ++ name.now ∷ []
one_more before later name e = ap (map (λ n. n.now)) e ∙ map-append (λ n. n.now) before.items (name ∷ [])

pub loop-i-preserved : goal.loop-i-preserved
loop-i-preserved c =
    let path : c.path_relative_to.result.now ≡ path_relative_to c.args.dir.now c.get-name.result.now =
    c.path_relative_to.ensures ∙ ap (λ (n : List ℕ). drop (length c.args.dir.now + 1) n) c.as_bytes.ensures.value in
    let folder : c.folder_of-folder.result.now ≡ folder_of (path_relative_to c.args.dir.now c.get-name.result.now) = c.folder_of-folder.ensures ∙ ap folder_of path in
    let P : List ℕ → Type 0 = λ f. IsIndexOf f c.args.folders.now c.index_of.result in
    let there = subst P folder c.index_of.ensures in
    let Q : Option ℕ → Type 0 = λ o. IsIndexOf (folder_of (path_relative_to c.args.dir.now c.get-name.result.now)) c.args.folders.now o in
    elim c.match-index_of.branch [
      | in-Some+in_ok-push w ↦
          let at = subst Q w.in-Some.is there in
          ap (λ (v : Vec (Vec (Bor (List ℕ)) Global) Global). map names_borrowed v.items) w.files-is
          ∙ grown_list names_borrowed _ _ c.loop-i.files.items c.args.folders.now w.in-Some.at w.push.new.self w.index_mut.result.now c.get-name.result.now c.loop-i.invariant at.0
          (place_grows c.args.dir.now c.args.names.now c.args.folders.now c.loop-i.i w.in-Some.at c.get-name.result.now c.get-name.ensures at)
          (one_more w.index_mut.result.now w.push.new.self c.get-name.result w.in_ok-push.ensures.items ∙ ap (λ (v : Vec (Bor (List ℕ)) Global). names_borrowed v ++ c.get-name.result.now ∷ []) w.index_mut.ensures.value)
      | in_default w ↦
          let none : c.index_of.result ≡ None = w.in_default.is in
          ap (λ (v : Vec (Vec (Bor (List ℕ)) Global) Global). map names_borrowed v.items) w.files-is
          ∙ kept_lists names_borrowed _ _ c.loop-i.files.items c.args.folders.now c.get-name.result.now c.loop-i.invariant
          (place_keeps c.args.dir.now c.args.names.now c.args.folders.now c.loop-i.i c.get-name.result.now c.get-name.ensures (subst Q none there))
    ]

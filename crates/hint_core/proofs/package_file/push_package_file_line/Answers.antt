use Rattle.hint_core.proofs.package_file.push_package_file_line.Goals as goal

pub returns : goal.returns
returns c =
    rw (c.deref.ensures.value, c.in_ok-shown_package.ensures, c.deref-2.ensures.value, c.in_ok-shown_path.ensures, c.deref-3.ensures.value, c.in_ok-shown_index.ensures, c.as_bytes.ensures.value) at c.push_texts.ensures

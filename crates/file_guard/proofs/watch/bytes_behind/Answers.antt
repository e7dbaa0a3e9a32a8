-- What is due behind some bytes.
use Rattle.std.proofs.Common.{◌≡◌, ◌++◌, ◌-◌, ℕ, Bool, true, false, List, length, take, drop, subst}
use Rattle.std.specs.Str.{bytes_eq}
use Rattle.base_core.proofs.Added.{take-behind}
use Rattle.file_guard.proofs.Due.{due_further, due_left, due_missed, first_differs, second_differs}
use Rattle.file_guard.proofs.watch.bytes_behind.Goals as goal

compared_rest : (n : ℕ) (bytes second : List ℕ) (b : Bool) → bytes_eq (take (length (take (length bytes - n) (drop n bytes))) second) (take (length bytes - n) (drop n bytes)) ≡ b → bytes_eq (take (length (drop n bytes)) second) (drop n bytes) ≡ b
compared_rest n bytes second b h = subst (λ (rest : List ℕ). bytes_eq (take (length rest) second) rest ≡ b) (take-behind n bytes) h

left_rest : (n : ℕ) (bytes second left : List ℕ) → left ≡ drop (length (take (length bytes - n) (drop n bytes))) second → left ≡ drop (length (drop n bytes)) second
left_rest n bytes second left h = subst (λ (rest : List ℕ). left ≡ drop (length rest) second) (take-behind n bytes) h

pub returns-in_default : goal.returns-in_default
returns-in_default c = λ test so_far due.
    due_missed test so_far c.args.bytes.now (c.args.first.now ++ c.args.second.now)
    (first_differs c.args.bytes.now c.args.first.now c.args.second.now c.min-len.result c.min-len.ensures c.in_default.ensures.cases) due

pub returns-in-Some-strip_prefix : goal.returns-in-Some-strip_prefix
returns-in-Some-strip_prefix c = λ test so_far due.
    let len : ℕ = c.min-len.result in
    let bytes : List ℕ = c.args.bytes.now in
    let second : List ℕ = c.args.second.now in
    due_further test so_far bytes (c.args.first.now ++ second) (c.in-Some.first_left.now ++ c.in-Some-strip_prefix.second_left.now)
    (due_left bytes c.args.first.now second c.in-Some.first_left.now c.in-Some-strip_prefix.second_left.now len c.min-len.ensures
    c.in-Some.ensures.cases.0 c.in-Some.ensures.cases.1
    (compared_rest len bytes second true c.in-Some-strip_prefix.ensures.cases.0)
    (left_rest len bytes second c.in-Some-strip_prefix.second_left.now c.in-Some-strip_prefix.ensures.cases.1)) due

pub returns-in-None : goal.returns-in-None
returns-in-None c = λ test so_far due.
    let len : ℕ = c.min-len.result in
    let bytes : List ℕ = c.args.bytes.now in
    due_missed test so_far bytes (c.args.first.now ++ c.args.second.now)
    (second_differs bytes c.args.first.now c.args.second.now len c.min-len.ensures c.in-Some.ensures.cases.0
    (compared_rest len bytes c.args.second.now false c.in-None.ensures.cases)) due

-- The next file of a package, block by block.
use Rattle.std.proofs.Common.{◌≡◌, ℕ, ◌+◌, ◌-◌, ◌≤◌, List, [], ◌∷◌, ◌++◌, length, Option, Some, None, Result, Ok, Err, refl, ap, sym, subst, ◌∙◌, arith}
use Rattle.std.specs.Prelude.{IfOk, IfSome, IsErrAnd}
use Rattle.std.proofs.lemmas.List.{length-append}
use Rattle.base_core.specs.declared.cause.Cause.{Cause}
use Rattle.base_core.specs.Tree.{TreeState}
use Rattle.pkg_core.specs.Opened.{files_left_in_walk}
use Rattle.pkg_core.specs.declared.walk.Walk.{Walk}
use Rattle.pkg_core.specs.Seen.{HasBytesAtOffset, IsSeenIn}
use Rattle.pkg_core.proofs.SeenBytes.{filled, has_front, has_rest, seen_then}
use Rattle.pkg_core.specs.Pieces.{PiecesRead, no_piece, refusal}
use Rattle.pkg_core.specs.Places.{pieces_at}
use Rattle.pkg_core.specs.declared.place.BlockPlace.{BlockPlace}
use Rattle.package_reader.specs.Blocks.{IsNextBlock, IsBlockRead}
use Rattle.package_reader.specs.Opened.{IsOpenFile}
use Rattle.package_reader.specs.Readers.{IsFileFound}
use Rattle.package_reader.specs.declared.block.BlockStep.{BlockStep}
use Rattle.package_reader.specs.declared.block.BlockStep.TheVariants.{End, Opened, Passed}
use Rattle.package_reader.specs.declared.piece.PieceFault.{PieceFault}
use Rattle.package_reader.specs.declared.piece.PieceFault.TheVariants.{Bad, Disk}
use Rattle.package_reader.specs.declared.open.OpenFile.{OpenFile}
use Rattle.package_reader.proofs.BlockSeen.{not_ok, nothing_seen}

-- ---- bytes that were seen, and those up to an offset

-- some bytes represent those between two offsets: first these, then the others at another offset
pub record IsSeenUpTo (h : List TreeState) (name : List ℕ) (len at to mid : ℕ) (first second : List ℕ) : Type 0 where
  pub all : List ℕ
  pub is_seen : IsSeenIn h name len at all
  pub ends : at + length all ≡ to
  pub has_first : (pkg : List ℕ) → HasBytesAtOffset pkg at all → HasBytesAtOffset pkg at first
  pub has_second : (pkg : List ℕ) → HasBytesAtOffset pkg at all → HasBytesAtOffset pkg mid second

pub seen_up_to : (h later : List TreeState) (name : List ℕ) (len at to mid : ℕ) (first second : List ℕ) → later ≡ h → at + length first ≡ mid → mid + length second ≤ to → to ≤ len → IsSeenIn h name len at first → IsSeenIn later name len mid second → IsSeenUpTo h name len at to mid first second
seen_up_to h later name len at to mid first second same located ends room seen then =
    let n : ℕ = to - (mid + length second) in
    let here : IsSeenIn h name len mid second = subst (λ (g : List TreeState). IsSeenIn g name len mid second) same then in
    let fill = filled h name len mid n second here.seen (omega (arith, ends, room)) in
    let long = length-append second fill.further in
    let all = length-append first (second ++ fill.further) in
    record {
      all = first ++ (second ++ fill.further);
      is_seen = record {
        seen = seen_then h name len at mid first (second ++ fill.further) (sym located) seen.seen fill.seen;
        within = omega (arith, long, all, fill.long, located, ends, room);
      };
      ends = omega (arith, long, all, fill.long, located, ends);
      has_first = λ pkg has. has_front pkg at first (second ++ fill.further) has;
      has_second = λ pkg has. has_front pkg mid second fill.further (subst (λ (k : ℕ). HasBytesAtOffset pkg k (second ++ fill.further)) located (has_rest pkg at first (second ++ fill.further) has));
    }

-- ---- blocks that were passed

-- from one place to another all blocks were passed, and these bytes were seen
pub record IsPassedTo (h : List TreeState) (name : List ℕ) (len : ℕ) (before now : BlockPlace) : Type 0 where
  pub seen : List ℕ
  pub is_seen : IsSeenIn h name len before.at seen
  pub ends : before.at + length seen ≡ now.at
  pub same : (pkg : List ℕ) → length pkg ≡ len → HasBytesAtOffset pkg before.at seen → pieces_at before pkg ≡ pieces_at now pkg

pub none_passed : (h : List TreeState) (name : List ℕ) (place : BlockPlace) → place.at ≤ place.len → IsPassedTo h name place.len place place
none_passed h name place le = record { seen = []; is_seen = nothing_seen h name place.len place.at le; ends = omega arith; same = λ pkg long has. refl }

pub one_passed : (h later : List TreeState) (name : List ℕ) (len : ℕ) (before now after : BlockPlace) (seen : List ℕ) → later ≡ h → now.len ≡ len → after.at ≤ len → IsPassedTo h name len before now → IsSeenIn later name now.len now.at seen → now.at + length seen ≤ after.at → ((pkg : List ℕ) → length pkg ≡ now.len → HasBytesAtOffset pkg now.at seen → pieces_at now pkg ≡ pieces_at after pkg)
    → IsPassedTo h name len before after
one_passed h later name len before now after seen same long room passed is_seen ends step =
    let to = seen_up_to h later name len before.at after.at now.at passed.seen seen same passed.ends ends room passed.is_seen (subst (λ (n : ℕ). IsSeenIn later name n now.at seen) long is_seen) in
    record {
      seen = to.all;
      is_seen = to.is_seen;
      ends = to.ends;
      same = λ pkg is has. passed.same pkg is (to.has_first pkg has) ∙ step pkg (is ∙ sym long) (to.has_second pkg has);
    }

-- ---- what is answered

-- what a call says of the bytes that it saw
abbrev pub IsFoundBy : List TreeState → List ℕ → ℕ → BlockPlace → Result (Option OpenFile) PieceFault → BlockPlace → Type 0
IsFoundBy h name len before result after = (seen : List ℕ)
    × IsSeenIn h name len before.at seen
    × IfOk result (λ found. IfSome found (λ next. before.at + length seen ≡ next.at))
    × ((pkg : List ℕ) → length pkg ≡ len → HasBytesAtOffset pkg before.at seen → IsFileFound before pkg result after)

pub found_end : (h later : List TreeState) (name : List ℕ) (len : ℕ) (before now after : BlockPlace) (seen : List ℕ) → later ≡ h → now.len ≡ len → IsPassedTo h name len before now → IsSeenIn later name now.len now.at seen → ((pkg : List ℕ) → length pkg ≡ now.len → HasBytesAtOffset pkg now.at seen → pieces_at now pkg ≡ no_piece)
    → IsFoundBy h name len before (Ok None) after
found_end h later name len before now after seen same long passed is_seen step =
    let here = subst (λ (n : ℕ). IsSeenIn later name n now.at seen) long is_seen in
    let to = seen_up_to h later name len before.at (now.at + length seen) now.at passed.seen seen same passed.ends (omega arith) here.within passed.is_seen here in
    (to.all, to.is_seen, tt, λ pkg is has. passed.same pkg is (to.has_first pkg has) ∙ step pkg (is ∙ sym long) (to.has_second pkg has))

by_fault : (before now after : BlockPlace) (pkg : List ℕ) (fault : PieceFault) (r : Result (Option OpenFile) PieceFault) → IsErrAnd r (λ other. other ≡ fault) → pieces_at before pkg ≡ pieces_at now pkg → IsNextBlock now pkg (Err fault) after → IsFileFound before pkg r after
by_fault before now after pkg fault (Ok found) is same step = absurd is
by_fault before now after pkg (Bad d) (Err (Bad c)) is same step = let e : Bad c ≡ Bad d = is in let cause : c ≡ d = (cc) in same ∙ (step ∙ ap refusal (sym cause))
by_fault before now after pkg Disk (Err (Bad c)) is same step = absurd (let e : Bad c ≡ Disk = is in (cc))
by_fault before now after pkg fault (Err Disk) is same step = tt

pub found_err : (h later : List TreeState) (name : List ℕ) (len : ℕ) (before now after : BlockPlace) (seen : List ℕ) (fault : PieceFault) (r : Result (Option OpenFile) PieceFault) → later ≡ h → now.len ≡ len → IsErrAnd r (λ other. other ≡ fault) → IsPassedTo h name len before now → IsSeenIn later name now.len now.at seen → ((pkg : List ℕ) → length pkg ≡ now.len → HasBytesAtOffset pkg now.at seen → IsNextBlock now pkg (Err fault) after)
    → IsFoundBy h name len before r after
found_err h later name len before now after seen fault r same long is passed is_seen step =
    let here = subst (λ (n : ℕ). IsSeenIn later name n now.at seen) long is_seen in
    let to = seen_up_to h later name len before.at (now.at + length seen) now.at passed.seen seen same passed.ends (omega arith) here.within passed.is_seen here in
    (to.all, to.is_seen, not_ok _ r fault is, λ pkg long_pkg has. by_fault before now after pkg fault r is (passed.same pkg long_pkg (to.has_first pkg has)) (step pkg (long_pkg ∙ sym long) (to.has_second pkg has)))

moved : (o : OpenFile) (so_far pkg : List ℕ) (further pieces others : PiecesRead) → others ≡ pieces → IsOpenFile o so_far pkg further pieces → IsOpenFile o so_far pkg further others
moved o so_far pkg further pieces others same is = record { taken = is.taken; long = is.long; come = same ∙ is.come }

pub found_file : (h later : List TreeState) (name : List ℕ) (len : ℕ) (before now after : BlockPlace) (seen : List ℕ) (o : OpenFile) → later ≡ h → now.len ≡ len → o.at ≤ len → IsPassedTo h name len before now → IsSeenIn later name now.len now.at seen → now.at + length seen ≤ o.at → ((pkg : List ℕ) → length pkg ≡ now.len → HasBytesAtOffset pkg now.at seen → IsNextBlock now pkg (Ok (Opened o)) after)
    → IsFoundBy h name len before (Ok (Some o)) after
found_file h later name len before now after seen o same long room passed is_seen ends step =
    let to = seen_up_to h later name len before.at o.at now.at passed.seen seen same passed.ends ends room passed.is_seen (subst (λ (n : ℕ). IsSeenIn later name n now.at seen) long is_seen) in (
      to.all,
      to.is_seen,
      to.ends,
      λ pkg is has.
          moved o [] pkg (pieces_at after pkg) (pieces_at now pkg) (pieces_at before pkg) (passed.same pkg is (to.has_first pkg has)) (step pkg (is ∙ sym long) (to.has_second pkg has)),
    )

-- a block that was not read is the fault of the step
pub next_failed : (place after : BlockPlace) (file : List ℕ) (fault : PieceFault) (r : Result BlockStep PieceFault) → IsErrAnd r (λ other. other ≡ fault) → IsBlockRead place file (Err fault) → IsNextBlock place file r after
next_failed place after file fault (Ok step) is read = absurd is
next_failed place after file (Bad d) (Err (Bad c)) is read = let e : Bad c ≡ Bad d = is in let cause : d ≡ c = (cc) in read ∙ ap refusal cause
next_failed place after file Disk (Err (Bad c)) is read = absurd (let e : Bad c ≡ Disk = is in (cc))
next_failed place after file fault (Err Disk) is read = tt

use Rattle.std.proofs.Common.{Option, Err, ap, refl, subst}
use Rattle.journal_staging.specs.Spoiled.{IsSpoiledForEachTested}
use Rattle.package_verifier.specs.package_reader.FileReading.{AreAsExpected}
use Rattle.file_guard.specs.pkg_core.Contents.{ExpectedFile}
use Rattle.journal_staging.proofs.Counted.{ok_counts}
use Rattle.journal_staging.proofs.Files.{bad_not_disk, bad_parts, not_disk, source_reading, spoiled_since}
use Rattle.journal_staging.proofs.writes.stage_packaged.Goals as goal

pub returns-in-Ok-clause-source : goal.returns-in-Ok-clause-source
returns-in-Ok-clause-source g c = record {
  run = c.in-Ok.ensures.source.run;
  staging =
      λ contents v first bytes staging source.
      c.in-Ok.ensures.source.staging contents v first bytes staging
      (source_reading _ _ _ _ c.file-file.ensures.name c.file-file.ensures.len c.file-file.ensures.reading source);
  good = λ contents v first bytes staging source. tt;
  view = c.in-Ok.ensures.source.view;
  counts = ok_counts _ _ _ tt c.in-Ok.ensures.source.counts.goes_on c.in-Ok.ensures.source.counts.kept;
  proper =
      λ contents v first bytes staging source room.
      c.in-Ok.ensures.source.proper contents v first bytes staging
      (source_reading _ _ _ _ c.file-file.ensures.name c.file-file.ensures.len c.file-file.ensures.reading source) room;
}

pub returns-in-Err-Bad-clause-source : goal.returns-in-Err-Bad-clause-source
returns-in-Err-Bad-clause-source g c = record {
  run = c.in-Err-Bad.ensures.source.run;
  staging = λ contents v first bytes staging source. tt;
  good =
      λ contents v first bytes staging source.
      absurd (not_disk _ _ c.in-Err-Bad.field-0-is (c.in-Err-Bad.ensures.source.good contents v first bytes staging
      (source_reading _ _ _ _ c.file-file.ensures.name c.file-file.ensures.len c.file-file.ensures.reading source)));
  view = tt;
  counts = record {
    goes_on = c.in-Err-Bad.ensures.source.counts.goes_on;
    disk = λ off. absurd (bad_not_disk _ _ off);
    kept = tt;
    others = λ off. c.in-Err-Bad.ensures.source.counts.others (not_disk _ _ c.in-Err-Bad.field-0-is);
  };
  proper =
      λ contents v first bytes staging source room.
      c.in-Err-Bad.ensures.source.proper contents v first bytes staging
      (source_reading _ _ _ _ c.file-file.ensures.name c.file-file.ensures.len c.file-file.ensures.reading source) room;
}

pub returns-in-Err-Disk-clause-source : goal.returns-in-Err-Disk-clause-source
returns-in-Err-Disk-clause-source g c = record {
  run = c.in-Err-Disk.ensures.source.run;
  staging = λ contents v first bytes staging source. tt;
  good = λ contents v first bytes staging source. refl;
  view = tt;
  counts = record {
    goes_on = c.in-Err-Disk.ensures.source.counts.goes_on;
    disk = λ off. c.in-Err-Disk.ensures.source.counts.disk (ap Err c.in-Err-Disk.field-0-is);
    kept = tt;
    others = λ off. absurd (off refl);
  };
  proper =
      λ contents v first bytes staging source room.
      c.in-Err-Disk.ensures.source.proper contents v first bytes staging
      (source_reading _ _ _ _ c.file-file.ensures.name c.file-file.ensures.len c.file-file.ensures.reading source) room;
}

pub returns-in-Ok-clause-listed : goal.returns-in-Ok-clause-listed
returns-in-Ok-clause-listed g c = λ contents v first staging.
    let found = c.in-Ok.ensures.listed c.file-file.ensures.begun contents v first staging in
    (found.0, subst (λ (d : Option ExpectedFile). AreAsExpected d found.0) c.file-file.ensures.due found.1, found.2)

pub returns-in-Err-Bad-clause-bad : goal.returns-in-Err-Bad-clause-bad
returns-in-Err-Bad-clause-bad g c = λ member cause is.
    let (place, same) = bad_parts _ _ _ _ is in (
      place,
      subst (IsSpoiledForEachTested c.args.f.now) same
          (spoiled_since c.args.f.now c.file-file.result c.in-Err-Bad.cause c.file-file.ensures.due c.file-file.ensures.reading
          (λ none. c.in-Err-Bad.ensures.bad c.file-file.ensures.begun none c.in-Err-Bad.cause (ap Err c.in-Err-Bad.field-0-is))),
    )

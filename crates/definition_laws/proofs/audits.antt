-- lemmas of the laws of `src/audits.rt`
mod AfterFiles
mod AfterRecords
mod TestedContents
mod FoundContents
mod LeftDifferent

-- cited by the law of `src/audits.rt`
pub mod AfterChange

-- lemmas of the laws of `src/outcomes/`
mod DemoLine
mod Dumped
mod DumpFaults
mod Verified
mod Versions
mod MadeFiles

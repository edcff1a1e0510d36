pub mod CutRun

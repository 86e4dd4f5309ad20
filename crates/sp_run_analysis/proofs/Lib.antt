mod MadeLaws
mod SolvedLaws
mod SparseLaws

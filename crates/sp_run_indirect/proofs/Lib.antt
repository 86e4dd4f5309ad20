mod LineLaws
mod EqualLaws

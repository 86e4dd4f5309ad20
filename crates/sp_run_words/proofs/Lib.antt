mod Examples
mod RowLaws
mod SeenLaws
mod WordLaws
mod WalkLaws
mod RequestLaws

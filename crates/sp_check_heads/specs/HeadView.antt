-- What the head of the code stands for.
use Rattle.sp_check_heads.specs.FormalsView.{own_of}
use Rattle.sp_check_heads.specs.declared.heads.Head.{Head as CodeHead}
use Rattle.sp_check_heads.specs.Heads.{Head}

abbrev pub head_of : CodeHead → Head
head_of h = record { number = h.number; own = own_of h.own }

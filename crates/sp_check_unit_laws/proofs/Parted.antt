-- What holds of each element of two lists holds of those of either.
use Rattle.std.proofs.Common.{zero, suc, List, [], ◌∷◌, ◌++◌}
use Rattle.sp_check_formed_laws.proofs.Lists.{Each, none_some}

pub each_left : {A : Type 0} (P : A → Type 0) (xs ys : List A) → Each P (xs ++ ys) → Each P xs
each_left P [] ys h k x e = absurd (none_some x e)
each_left P (z ∷ zs) ys h zero x e = h zero x e
each_left P (z ∷ zs) ys h (suc k) x e = each_left P zs ys (λ j w g. h (suc j) w g) k x e

pub each_right : {A : Type 0} (P : A → Type 0) (xs ys : List A) → Each P (xs ++ ys) → Each P ys
each_right P [] ys h = h
each_right P (z ∷ zs) ys h = each_right P zs ys (λ j w g. h (suc j) w g)

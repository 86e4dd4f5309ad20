-- Lowerings are formed.
use Rattle.std.proofs.Common.{ℕ, ◌+◌, List, refl, sym, subst, arith}
use Rattle.sp_types.specs.Programs.{Program}
use Rattle.sp_ir.specs.Programs.{Lowered}
use Rattle.sp_ir.specs.Formed.{IsFormed}
use Rattle.sp_lower_draft.specs.Draft.{Left}
use Rattle.sp_lower_functions.specs.Functions.{Part}
use Rattle.sp_lower.specs.Answers.{Fits}
use Rattle.sp_lower.specs.Programs.{lowered_program, IsNumbered}
use Rattle.sp_lower_program_laws.proofs.Typed.{lowered-holds}
use Rattle.sp_check_typing.specs.Programs.{IsTypedProgram}
use Rattle.sp_lower_starts_laws.specs.Starts.{StartsStand}
use Rattle.sp_lower_formed_laws.specs.Formed.{LoweringsAreFormed}
use Rattle.sp_lower_starts_laws.proofs.Lists.{below_there}
use Rattle.sp_lower_formed_laws.proofs.Fits.{c, is, os, rs}
use Rattle.sp_lower_formed_laws.proofs.Statics.{starts_stand}
use Rattle.sp_lower_formed_laws.proofs.Whole.{sound}
use Rattle.sp_lower_formed_laws.proofs.Entities.{object_formed}
use Rattle.sp_lower_formed_laws.proofs.Nodes.{node_formed, each_code, each_named, main_below, start_there}
use Rattle.sp_lower_formed_laws.proofs.Outside.{heap_is, foreign_is, foreign_start_is}

module _ (p : Program) (names : List (List ℕ)) (typed : IsTypedProgram p) (w : Left (List Part)) (numbered : IsNumbered p names w)
    (starting : StartsStand p (c p names typed w numbered) (os p names typed w numbered) (rs p names typed w numbered) (is p names typed w numbered)) where
  whole_formed : Fits (lowered_program p names w) → IsFormed (lowered_program p names w)
  whole_formed fits = record {
    structs = typed.structs;
    objects = object_formed p names typed w numbered starting;
    regions = lowered-holds p names (lowered_program p names w) (record { functions = w; numbered = numbered; is = refl }) typed.structs typed.members;
    nodes = node_formed p names typed w numbered starting;
    begins = let low = below_there w.after.nodes 0 _ (start_there p names typed w numbered starting) in omega (arith, low);
    flow = (sound p names typed w numbered starting).edges;
    functions = each_code p names typed w numbered starting;
    codes = each_named p names typed w numbered starting;
    main = main_below p names typed w numbered starting;
    returned = λ n x callee args e k. (
      n + 1,
      (sound p names typed w numbered starting).calls n x callee args e k,
      λ m r. ((sound p names typed w numbered starting).returns m n r.back r.to r.returns r.is_return).1,
    );
    returning = λ n m x to e k. ((sound p names typed w numbered starting).returns n m x to e k).0;
    heap = heap_is p names typed w numbered starting;
    foreign = foreign_is p names typed w numbered starting;
    foreign_start = foreign_start_is p names typed w numbered starting;
    few_nodes = fits.0;
    few_regions = fits.1;
  }

pub lowering_formed : LoweringsAreFormed
lowering_formed p names l typed lowering fits =
    subst (λ (x : Lowered). Fits x → IsFormed x) (sym lowering.is)
    (λ f. whole_formed p names typed lowering.functions lowering.numbered (starts_stand p names typed lowering.functions lowering.numbered f.1) f) fits

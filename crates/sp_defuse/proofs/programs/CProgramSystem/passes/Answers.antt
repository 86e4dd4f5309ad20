use Rattle.sp_defuse.proofs.EquationLaws.{passes-known}
use Rattle.sp_defuse.proofs.programs.CProgramSystem.passes.Goals as goal

pub returns : goal.returns
returns c =
    let s = c.args.self.now in
    passes-known s.flow s.sources.items c.args.to c.index.result.now c.args.from c.args.location c.pass.result s.joined c.requires.to c.index.ensures c.requires.from c.pass.ensures

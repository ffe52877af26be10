use Rattle.std.proofs.Common.{length, ap, arith}
use Rattle.kak_world.proofs.KeepingLaws.{here_joined, count_goes}
use Rattle.kak_engine.proofs.CrossingLemmas.{calm-leads, calm-asked, calm-none, ended-count, ended-joined}
use Rattle.kak_engine.proofs.engine.keep_leaving.Goals as goal

pub push_reserved-requires : goal.push_reserved-requires
push_reserved-requires g c =
    let joined = ended-joined c.args.who c.args.world.now.flat c.end_step.new.self.flat c.end_step.ensures c.requires.joined in
    omega (arith, c.requires.places, ended-count c.args.world.now.flat c.end_step.new.self.flat c.end_step.ensures, count_goes c.args.who c.end_step.new.self.flat (here_joined c.args.who c.end_step.new.self.flat joined))

pub returns-clause-places : goal.returns-clause-places
returns-clause-places g c =
    let joined = ended-joined c.args.who c.args.world.now.flat c.end_step.new.self.flat c.end_step.ensures c.requires.joined in
    omega (
      arith,
      c.requires.places,
      ended-count c.args.world.now.flat c.end_step.new.self.flat c.end_step.ensures,
      count_goes c.args.who c.end_step.new.self.flat (here_joined c.args.who c.end_step.new.self.flat joined),
      ap (λ f. length f.clients) c.leave.ensures,
      c.push_reserved.ensures.len,
      c.push_reserved.ensures.capacity,
    )

pub returns-clause-leads : goal.returns-clause-leads
returns-clause-leads g c = calm-leads c.args.who c.args.world.now.flat c.end_step.new.self.flat c.leave.new.self.flat c.requires.calm c.end_step.ensures c.leave.ensures

pub returns-clause-asked : goal.returns-clause-asked
returns-clause-asked g c = calm-asked c.args.who c.args.world.now.flat c.requires.calm

pub returns-clause-none : goal.returns-clause-none
returns-clause-none g c = calm-none c.args.who c.args.world.now.flat c.requires.calm

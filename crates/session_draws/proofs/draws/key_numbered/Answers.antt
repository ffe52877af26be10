use Rattle.std.proofs.Common.{ap}
use Rattle.std.proofs.lemmas.List.{get_or_default}
use Rattle.key_names.specs.declared.key.Base.TheVariants.{Esc}
use Rattle.key_names.specs.Reading.{bare}
use Rattle.session_draws.specs.Draws.{drawn_bases}
use Rattle.session_draws.proofs.draws.key_numbered.Goals as goal

pub returns : goal.returns
returns c = ap bare (get_or_default drawn_bases c.args.number _ Esc c.requires)

use Rattle.std.proofs.Common.{◌≡◌, ◌++◌, sym, ◌∙◌, ap, append-nil}
use Rattle.session_server.specs.Hosting.{passes_back}
use Rattle.session_server.proofs.closing.take_rest.Goals as goal

pub returns-in_default-clause-given : goal.returns-in_default-clause-given
returns-in_default-clause-given g c = sym (append-nil c.args.keeper.now.given) ∙ ap (λ back. c.args.keeper.now.given ++ passes_back back) (sym c.in_default.is)

use Rattle.std.proofs.Common.{not, ap, ◌∙◌, rules}
use Rattle.std.specs.List.{filter}
use Rattle.std.proofs.lemmas.Fn.{filter_same}
use Rattle.kak_world.specs.declared.clients.Client.{Client}
use Rattle.kak_world.specs.Flat.{is_of}
use Rattle.kak_world.proofs.clients.Clients.remove.Goals as goal

pub returns : goal.returns
returns c =
    filter_same _ (λ (r : Client). not (is_of c.args.who r)) _ (λ x b f' k. search rules) _ _ c.retain.ensures.filtered
    ∙ ap (filter (λ (r : Client). not (is_of c.args.who r))) c.self.view_is

use Rattle.std.proofs.Common.{rules, ap, take, drop, ◌∙◌}
use Rattle.client_links.proofs.Giving.{gives}
use Rattle.client_links.proofs.kept.MemLink.give.Goals as goal

pub returns-clause-gets : goal.returns-clause-gets
returns-clause-gets c =
    gives c.args.self.now.at _ c.min-count.result c.args.self.now.bytes c.copy_from.new.into _ _ _
    (search rules) (search rules) (search rules)
    (c.copy_from.ensures ∙ ap (λ bytes. take c.min-count.result (drop c.args.self.now.at bytes)) c.as_slice.ensures)

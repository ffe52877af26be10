use Rattle.std.proofs.Common.{◌≡◌, ap, ◌∙◌}
use Rattle.change_list.specs.Logs.{stamp_of}
use Rattle.list_shelf.specs.Shelves.{least}
use Rattle.list_shelf.proofs.NoteLemmas.{trim-behind, trim-within}
use Rattle.list_shelf.proofs.shelf.Shelf.trim.Goals as goal

-- where the log is trimmed to
to-least : (c : goal.After-trim-arg-1) → c.least-to.result ≡ least (stamp_of c.self.inside.log) c.self.inside.rows.items
to-least c = c.least-to.ensures ∙ ap (least c.stamp.result) c.as_slice.ensures.value ∙ ap (λ n. least n c.self.inside.rows.items) c.stamp.ensures.value

pub trim-requires-clause-first : goal.trim-requires-clause-first
trim-requires-clause-first c = trim-behind c.self.inside.limit c.self.inside.log c.self.inside.rows.items c.args.self.now c.least-to.result c.self.view_is c.requires (to-least c)

pub trim-requires-clause-last : goal.trim-requires-clause-last
trim-requires-clause-last c = trim-within c.self.inside.log c.self.inside.rows.items c.least-to.result (to-least c)

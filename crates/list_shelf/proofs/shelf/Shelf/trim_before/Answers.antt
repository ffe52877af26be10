use Rattle.std.proofs.Common.{◌≡◌, ◌≤◌, sym, ap, subst, ◌∙◌, arith}
use Rattle.change_list.specs.Logs.{stamp_of}
use Rattle.list_shelf.specs.Shelves.{Shelved, least, CanStand}
use Rattle.list_shelf.proofs.StandLemmas.{least-below, least-behind}
use Rattle.list_shelf.proofs.shelf.Shelf.trim_before.Goals as goal

-- where the log is trimmed to
from-least : (c : goal.After-trim-arg-1) → c.least-from.result ≡ least c.args.stamp c.self.inside.rows.items
from-least c = c.least-from.ensures ∙ ap (least c.args.stamp) c.as_slice.ensures.value

pub trim-requires-clause-first : goal.trim-requires-clause-first
trim-requires-clause-first c =
    let can = subst (λ (s : Shelved). CanStand s) (sym c.self.view_is) c.requires.can in
    let first : c.self.inside.log.first ≤ c.args.stamp = subst (λ (s : Shelved). s.log.first ≤ c.args.stamp) (sym c.self.view_is) c.requires.first in
    subst (λ n. c.self.inside.log.first ≤ n) (sym (from-least c)) (least-behind can.text c.self.inside.log c.args.stamp c.self.inside.rows.items first can.all)

pub trim-requires-clause-last : goal.trim-requires-clause-last
trim-requires-clause-last c =
    let last : c.args.stamp ≤ stamp_of c.self.inside.log = subst (λ (s : Shelved). c.args.stamp ≤ stamp_of s.log) (sym c.self.view_is) c.requires.last in
    let below : least c.args.stamp c.self.inside.rows.items ≤ c.args.stamp = least-below c.args.stamp c.self.inside.rows.items in
    omega (arith, from-least c, below, last)

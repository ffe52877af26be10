use Rattle.std.proofs.Common.{◌≡◌, ◌<◌, ap, sym, subst, ◌∙◌, All}
use Rattle.session_desk.specs.Tokens.{DeskPlace, KeeperView, SeesMoreOf}
use Rattle.session_desk.proofs.StepLemmas.{sees_more_of}
use Rattle.session_desk.proofs.desk.Desk.watch.Goals as goal

pub returns-clause-sees : goal.returns-clause-sees
returns-clause-sees g c = let freed = c.give_turn.ensures.freed in let taken = c.take_turn-object.ensures.taken in let seat = c.give_turn.new.seat in let was = c.keeper.inside.seat in
    let place : DeskPlace g.row.O-Frame.Denot = record { table = seat.table_id; frame = seat.me.0.frame } in let home : DeskPlace g.row.O-Frame.Denot = record { table = was.table_id; frame = was.me.0.frame } in
    let after : KeeperView g.row.O-Entry.Denot g.row.O-Frame.Denot = record { place = place; made = c.keeper.inside.admitted; given = seat.me.0.given; seen = seat.me.0.seen; mark = seat.me.0.mark } in
    subst (λ (b : KeeperView g.row.O-Entry.Denot g.row.O-Frame.Denot). SeesMoreOf g.O.Played.maker b after) c.keeper.view_is
    (sees_more_of g.O.Played.entries g.O.Played.maker g.O.Played.marked g.O.Played.frame home c.keeper.inside.admitted was.me.0 c.take_turn-object.result after
    (ap (λ m. m.0.seen) freed ∙ ap (λ m. m.0.seen) taken) (ap (λ m. m.0.mark) freed ∙ ap (λ m. m.0.mark) taken) c.take_turn-object.ensures.found)

pub returns-clause-numbers : goal.returns-clause-numbers
returns-clause-numbers g c = let freed = c.give_turn.ensures.freed in let taken = c.take_turn-object.ensures.taken in let seat = c.give_turn.new.seat in
    let seen : seat.me.0.seen ≡ g.O.Played.entries c.take_turn-object.result = ap (λ m. m.0.seen) freed ∙ ap (λ m. m.0.seen) taken in
    subst (λ (b : KeeperView g.row.O-Entry.Denot g.row.O-Frame.Denot). All (λ e. g.O.Played.maker e < b.made) seat.me.0.seen) c.keeper.view_is
    (subst (All (λ e. g.O.Played.maker e < c.keeper.inside.admitted)) (sym seen)
    (c.take_turn-object.ensures.found.numbers c.keeper.inside.admitted c.keeper.inside.out c.keeper.invariant.0.role_is))

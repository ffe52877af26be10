use Rattle.std.proofs.Common.{rules, ◌≡◌, ap, subst, IfOk, IfErr}
use Rattle.session_desk.specs.Tokens.{DeskPlace, PassView, PassAdds, PassRefuses}
use Rattle.session_desk.proofs.StepLemmas.{adds, refuses}
use Rattle.session_desk.proofs.desk.Desk.step.Goals as goal

pub returns-clause-ok : goal.returns-clause-ok
returns-clause-ok g c = let p = c.play-answer.ensures in let o = c.take_turn-object.result in let o' = c.play-answer.new.self in let freed = c.publish.ensures.freed in
    let seat = c.publish.new.seat in let place : DeskPlace g.row.O-Frame.Denot = record { table = seat.table_id; frame = seat.me.0.frame } in
    let after : PassView g.row.O-Entry.Denot g.row.O-Frame.Denot = record { place = place; number = c.pass.inside.number; seen = seat.me.0.seen; mark = seat.me.0.mark } in
    let was = c.pass.inside.seat in let home : DeskPlace g.row.O-Frame.Denot = record { table = was.table_id; frame = was.me.0.frame } in
    let framed : g.O.Played.frame o ≡ c.args.self.now.frame = search rules in
    subst (λ (b : PassView g.row.O-Entry.Denot g.row.O-Frame.Denot). IfOk c.play-answer.result (λ reply. PassAdds g.O.Played.maker (g.O.Played.answers c.args.self.now.frame) b after c.args.mv.now reply)) c.pass.view_is
    (adds g.O.Played.entries g.O.Played.maker g.O.Played.marked g.O.Played.frame g.O.Played.answers home c.pass.inside.number c.pass.inside.seat.me.0 c.args.self.now.frame o o' c.args.mv.now c.play-answer.result after
    c.pass.invariant.0.role_is framed (ap (λ m. m.0.seen) freed) (ap (λ m. m.0.mark) freed) c.take_turn-object.ensures.found p.answer p.ok p.unmarked)

pub returns-clause-fault : goal.returns-clause-fault
returns-clause-fault g c = let p = c.play-answer.ensures in let o = c.take_turn-object.result in let o' = c.play-answer.new.self in let freed = c.publish.ensures.freed in
    let seat = c.publish.new.seat in let place : DeskPlace g.row.O-Frame.Denot = record { table = seat.table_id; frame = seat.me.0.frame } in
    let after : PassView g.row.O-Entry.Denot g.row.O-Frame.Denot = record { place = place; number = c.pass.inside.number; seen = seat.me.0.seen; mark = seat.me.0.mark } in
    let was = c.pass.inside.seat in let home : DeskPlace g.row.O-Frame.Denot = record { table = was.table_id; frame = was.me.0.frame } in
    let framed : g.O.Played.frame o ≡ c.args.self.now.frame = search rules in
    subst (λ (b : PassView g.row.O-Entry.Denot g.row.O-Frame.Denot). IfErr c.play-answer.result (λ fault. PassRefuses g.O.Played.maker (g.O.Played.answers c.args.self.now.frame) b after c.args.mv.now fault)) c.pass.view_is
    (refuses g.O.Played.entries g.O.Played.maker g.O.Played.marked g.O.Played.frame g.O.Played.answers home c.pass.inside.number c.pass.inside.seat.me.0 c.args.self.now.frame o o' c.args.mv.now c.play-answer.result after
    c.pass.invariant.0.role_is framed (ap (λ m. m.0.seen) freed) (ap (λ m. m.0.mark) freed) c.take_turn-object.ensures.found p.answer p.err p.mark)

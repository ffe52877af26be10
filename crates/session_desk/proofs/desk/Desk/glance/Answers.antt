use Rattle.std.proofs.Common.{rules, ◌≡◌, ◌/◌, length, sym, ap, ◌∙◌, arith}
use Rattle.session_desk.proofs.HistoryLemmas.{front_length}
use Rattle.session_desk.proofs.RuleLemmas.{looks_kept}
use Rattle.session_desk.proofs.StepLemmas.{half_word}
use Rattle.session_desk.proofs.desk.Desk.glance.Goals as goal

pub load-word-requires : goal.load-word-requires
load-word-requires g c = (search rules, search rules, looks_kept g.O.Played.entries g.O.Played.maker g.O.Played.marked g.O.Played.frame _ _ _ _ c.pass.invariant.0.idle)

pub returns-clause-at_least : goal.returns-clause-at_least
returns-clause-at_least g c = let l = c.load-word.ensures.2.0 in let w = c.load-word.new.seat.me.0 in
    let half : c.load-word.result / 2 ≡ length w.seen = ap (λ n. n / 2) l.word ∙ half_word (length w.seen) w.mark in
    let was : length c.args.pass.now.seen ≡ length c.pass.inside.seat.me.0.seen = ap (λ p. length p.seen) (sym c.pass.view_is) in
    omega (arith, front_length w.seen c.pass.inside.seat.me.0.seen l.begins)

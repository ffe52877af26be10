use Rattle.std.proofs.Common.{◌≡◌, ℕ, List, length, ap, ◌∙◌, subst}
use Rattle.std.specs.Prelude.{◌==◌, ◌&&◌}
use Rattle.std.specs.List.{list_any}
use Rattle.session_events.specs.declared.event.Entry.{Entry}
use Rattle.session_events.specs.Missing.{has_news}
use Rattle.engine_desk.specs.Sharing.{Shared, Shows, frame_of}
use Rattle.engine_desk.proofs.WorldLemmas.{glimpse-is}
use Rattle.engine_desk.proofs.shared.SharedEnginePlayed.glimpse.Goals as goal

pub returns : goal.returns
returns g c =
    let x = c.self.inside.engine in let here = c.self.inside.here in let who = c.args.who in
    let stale = c.is_stale.ensures ∙ ap (λ (numbers : List ℕ). list_any (λ number. number == who) numbers && has_news who c.history.result.now) c.deref.ensures.value ∙ ap (λ (history : List Entry). list_any (λ number. number == who) here.items && has_news who history) c.history.ensures.value in
    let joined : c.len.result ≡ length here.items = c.len.ensures ∙ here.ok.0 in
    subst (λ (s : Shared). Shows (frame_of s) s.engine.history s.engine.mark who (record { stale = c.is_stale.result; joined = c.len.result; joins = c.self.inside.joins; broken = c.self.inside.mark })) c.self.view_is
    (record { is = glimpse-is x here.items _ c.self.inside.joins c.self.inside.mark who c.is_stale.result c.len.result c.self.invariant.1 stale joined; legal = c.history.ensures.legal })

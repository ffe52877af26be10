use Rattle.std.proofs.Common.{◌≡◌, true, [], ◌∷◌, refl, sym, ap, ◌∙◌}
use Rattle.session_events.specs.declared.event.Event.{Event}
use Rattle.session_events.specs.declared.event.Event.TheVariants.{Join, Key as Struck, Resize, Scroll, Mouse as Pointed, Refresh, Leave}
use Rattle.session_events.specs.Entries.{entry_with, is_join}
use Rattle.server_trials.proofs.link_tests.FragileSeatSeat.step.Goals as goal

-- who comes, comes
join-is : (event : Event) → is_join event ≡ true → Join ≡ event
join-is Join e = refl
join-is (Struck key) e = cc
join-is (Resize size) e = cc
join-is (Scroll lines) e = cc
join-is (Pointed mouse) e = cc
join-is (Refresh asked) e = cc
join-is Leave e = cc

pub returns-then-is_join-clause-ok : goal.returns-then-is_join-clause-ok
returns-then-is_join-clause-ok c = record {
  between = [];
  answers = [];
  foreign = refl;
  stands = rw c.if-self.false (ap (λ e. entry_with c.args.self.now.who e [] ∷ []) (join-is c.args.event.now (sym c.is_join.ensures ∙ c.if-is_join.true)));
  is = c.nothing.ensures;
}

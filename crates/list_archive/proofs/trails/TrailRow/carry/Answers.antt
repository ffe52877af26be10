use Rattle.std.proofs.Common.{◌≡◌, length, ap, sym, subst, ◌∙◌, arith}
use Rattle.std.proofs.lemmas.List.{length-map}
use Rattle.list_shelf.specs.declared.lag.Lag.{Lag}
use Rattle.list_archive.specs.Trails.{Trail, trail_with}
use Rattle.list_archive.specs.Archives.{carried, IsCarriable, IsTrailCarriable}
use Rattle.list_archive.proofs.CodeLemmas.{all-parts, parts-made}
use Rattle.list_archive.proofs.trails.TrailRow.carry.Goals as goal

pub carry_all-requires : goal.carry_all-requires
carry_all-requires c =
    let can = subst (λ (t : Trail Lag). IsTrailCarriable c.args.log.now c.args.shifts.now t) (sym c.self.view_is) c.requires in
    all-parts (IsCarriable c.args.log.now c.args.shifts.now) c.self.inside.past c.self.inside.lags.items can.0 can.1

pub invariant_of-self : goal.invariant_of-self
invariant_of-self c =
    let size : length c.carry_all.new.lags.items ≡ length c.self.inside.lags.items = ap length c.carry_all.ensures ∙ length-map c.self.inside.lags.items (carried c.args.log.now c.args.shifts.now) in
    omega (arith, c.self.invariant, size)

pub returns : goal.returns
returns c =
    parts-made c.self.inside.who c.self.inside.past (carried c.args.log.now c.args.shifts.now) c.self.inside.lags.items c.carry_all.new.lags.items c.carry_all.ensures
    ∙ ap (λ (t : Trail Lag). trail_with (carried c.args.log.now c.args.shifts.now) t) c.self.view_is

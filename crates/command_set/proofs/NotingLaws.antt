-- Events that a row makes take no units, and keep those that have joined; and worlds in which the last of them aren't due.
use Rattle.std.proofs.Common.{◌≡◌, true, false, [], ◌∷◌, ◌++◌, ap, sym, subst, ◌∙◌, Ok, Err, inr}
use Rattle.std.specs.Prelude.{if◌then◌else◌, OnErr}
use Rattle.std.specs.declared.result.Result.{Result}
use Rattle.kak_world.specs.declared.events.HookEvent.{HookEvent}
use Rattle.kak_world.specs.Events.{due_of, with_due, has_hooks, noted, WantsEvents, IsUnheard}
use Rattle.kak_world.specs.Flat.{Flat, rest_of, with_rest}
use Rattle.kak_world.specs.Rows.{Row, does}
use Rattle.kak_world.proofs.EventLaws.{keeps_noted, units_noted, lacks_more, lacks_noted}
use Rattle.kak_world.proofs.JoinedLemmas.{joined_kept, joined_then}
use Rattle.command_set.specs.Laws.{IsTame}

-- behind a row that does so
pub tame_noted : (event : HookEvent) (old w : Flat) (row next : Row) → IsTame old (record { world = w; row = row }) → IsTame old (record { world = noted event w; row = next })
tame_noted event old w row next t = record {
  units = units_noted event w ∙ t.units;
  keeps = joined_then old w (noted event w) t.keeps (joined_kept w (noted event w) (keeps_noted event w));
}

-- no event is due where no hook is held
pub noted_none : (event : HookEvent) (flat : Flat) → has_hooks flat ≡ false → flat ≡ noted event flat
unfolding rest_of with_rest
noted_none event flat h = ap (λ t. with_due (if t then due_of flat ++ event ∷ [] else due_of flat) flat) (sym h)

-- an event isn't due, and perhaps others before it aren't
pub wants_noted : (event : HookEvent) (flat new : Flat) → has_hooks new ≡ true → new ≡ flat → WantsEvents (noted event flat) new
wants_noted event flat new h e =
    subst (λ (x : Flat). has_hooks x ≡ true → WantsEvents (noted event flat) x) (sym e) (λ k. record { hooks = k; lacks = lacks_noted event flat }) h

pub wants_more : (event : HookEvent) (full new : Flat) → WantsEvents full new → WantsEvents (noted event full) new
wants_more event full new w = record { hooks = w.hooks; lacks = lacks_more event full new w.lacks }

-- the same in a world that is that
pub wants_as : (other full new : Flat) → other ≡ full → WantsEvents full new → WantsEvents other new
wants_as other full new e w = subst (λ (x : Flat). WantsEvents x new) (sym e) w

-- an answer of what was to make an event due
pub wants_err : {T E : Type 0} (r : Result T E) (event : HookEvent) (full flat new : Flat) → full ≡ noted event flat → OnErr r (new ≡ flat) → OnErr r (has_hooks new ≡ true) → OnErr r (WantsEvents full new)
wants_err (Ok x) event full flat new e same held = tt
wants_err (Err error) event full flat new e same held = wants_as full (noted event flat) new e (wants_noted event flat new held same)

-- and so of a row of which that was all that was left to do
pub unheard_err : {T E : Type 0} (r : Result T E) (event : HookEvent) (old full flat new : Flat) → full ≡ noted event flat → OnErr r (new ≡ flat) → OnErr r (has_hooks new ≡ true) → OnErr r (IsUnheard (does full) old new)
unheard_err (Ok x) event old full flat new e same held = tt
unheard_err (Err error) event old full flat new e same held = inr (wants_as full (noted event flat) new e (wants_noted event flat new held same))

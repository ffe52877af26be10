-- A mouse and scrolling change a client's list, where its window stands and whether it is dragging, and nothing else.
use Rattle.std.proofs.Common.{◌≡◌, ℕ, ℤ, Bool, true, false, refl, sym, ap, ◌∙◌}
use Rattle.std.specs.Prelude.{if◌then◌else◌}
use Rattle.text_model.specs.declared.coords.Coord.{Coord}
use Rattle.list_model.specs.Ranges.{Selected}
use Rattle.window_view.specs.declared.corner.Corner.{Corner}
use Rattle.mouse_events.specs.declared.mouse.Button.TheVariants.{Left, Middle, Right}
use Rattle.mouse_events.specs.declared.mouse.Mouse.{Mouse}
use Rattle.mouse_events.specs.declared.mouse.Mouse.TheVariants.{Move, Press, Release}
use Rattle.list_shelf.specs.declared.holder.Holder.TheVariants.{Of}
use Rattle.list_shelf.specs.Shelves.{Held}
use Rattle.kak_world.specs.declared.own.Own.{Own}
use Rattle.kak_world.specs.Flat.{Flat, Buffer, buffer_at, client_of, is_joined, own_of, rest_of, scoped_of, shown_of, text_of, sels_of, view_of, with_own, with_buffers, with_list, with_list_of, with_sels, with_corner}
use Rattle.kak_world.proofs.SlotLemmas.{buffer-kept}
use Rattle.kak_world.proofs.WorldLaws.{own_own, own_other, rest_own, scoped_own, joined_own, joined_sels, joined_corner}
use Rattle.pointer_rows.specs.Pointing.{is_quiet, is_dragging, selects, extends, drags, with_drag, mouse_done, pointed}
use Rattle.pointer_rows.specs.Windows.{shows_line}
use Rattle.pointer_rows.specs.Lists.{main_line}
use Rattle.pointer_rows.specs.Scrolling.{keeps_shown, window_by, scrolled}
use Rattle.pointer_rows.specs.Laws.{MovesPlaces, PointingMovesPlaces, ScrollingMovesPlaces}

same-places : (who : ℕ) (flat : Flat) → MovesPlaces who flat flat
same-places who flat = record { own = λ j. refl; others = λ k apart. refl; joined = λ k. refl; stories = λ n. refl; rest = refl; scoped = refl }

-- one change behind another
places-behind : (who : ℕ) (a b c : Flat) → MovesPlaces who a b → MovesPlaces who b c → MovesPlaces who a c
places-behind who a b c f g = record {
  own = λ j. g.own (f.joined who ∙ j) ∙ ap (λ (o : Own). record o { dragging = is_dragging who c }) (f.own j);
  others = λ k apart. g.others k apart ∙ f.others k apart;
  joined = λ k. g.joined k ∙ f.joined k;
  stories = λ n. g.stories n ∙ f.stories n;
  rest = g.rest ∙ f.rest;
  scoped = g.scoped ∙ f.scoped;
}

places-chosen : (t : Bool) (who : ℕ) (old a b : Flat) → MovesPlaces who old a → MovesPlaces who old b → MovesPlaces who old (if t then a else b)
places-chosen true who old a b f g = f
places-chosen false who old a b f g = g

-- a change of a client's list
own-listed : (k who : ℕ) (f : Held → Held) (flat : Flat) → own_of k (with_list_of who f flat) ≡ own_of k flat
unfolding own_of client_of with_list_of with_buffers
own-listed k who f flat = refl

stories-listed : (n who : ℕ) (f : Held → Held) (flat : Flat) → (buffer_at n (with_list_of who f flat).buffers).story ≡ (buffer_at n flat.buffers).story
unfolding with_list_of with_buffers
stories-listed n who f flat = buffer-kept n (shown_of who flat) (with_list (Of who) f) (λ (b : Buffer). b.story) flat.buffers (λ b. refl)

rest-listed : (who : ℕ) (f : Held → Held) (flat : Flat) → rest_of (with_list_of who f flat) ≡ rest_of flat
unfolding rest_of with_list_of with_buffers
rest-listed who f flat = refl

scoped-listed : (who : ℕ) (f : Held → Held) (flat : Flat) → scoped_of (with_list_of who f flat) ≡ scoped_of flat
unfolding scoped_of with_list_of with_buffers
scoped-listed who f flat = refl

-- what a client has of its own is as it was, so it drags as it did
same-own : (who : ℕ) (old new : Flat) → own_of who new ≡ own_of who old → own_of who new ≡ record (own_of who old) { dragging = is_dragging who new }
same-own who old new e = e ∙ ap (λ (d : Bool). record (own_of who old) { dragging = d }) (ap (λ (o : Own). o.dragging) (sym e))

listed-places : (who : ℕ) (f : Held → Held) (flat : Flat) → ((k : ℕ) → is_joined k (with_list_of who f flat) ≡ is_joined k flat) → MovesPlaces who flat (with_list_of who f flat)
listed-places who f flat joined = record {
  own = λ j. same-own who flat (with_list_of who f flat) (own-listed who who f flat);
  others = λ k apart. own-listed k who f flat;
  joined = joined;
  stories = λ n. stories-listed n who f flat;
  rest = rest-listed who f flat;
  scoped = scoped-listed who f flat;
}

sels-places : (who : ℕ) (sels : Selected) (flat : Flat) → MovesPlaces who flat (with_sels who sels flat)
unfolding with_sels
sels-places who sels flat = listed-places who (λ held. record held { sels = sels }) flat (λ k. joined_sels k who sels flat)

corner-places : (who : ℕ) (corner : Corner) (flat : Flat) → MovesPlaces who flat (with_corner who corner flat)
unfolding with_corner
corner-places who corner flat = listed-places who (λ held. record held { corner = corner }) flat (λ k. joined_corner k who corner flat)

-- a drag that begins or ends
own-dragged : (who : ℕ) (dragging : Bool) (flat : Flat) → is_joined who flat ≡ true → own_of who (with_drag who dragging flat) ≡ record (own_of who flat) { dragging = is_dragging who (with_drag who dragging flat) }
own-dragged who dragging flat j =
    let e : own_of who (with_drag who dragging flat) ≡ record (own_of who flat) { dragging = dragging } = own_own who (λ o. record o { dragging = dragging }) flat j in
    e ∙ ap (λ (d : Bool). record (own_of who flat) { dragging = d }) (sym (ap (λ (o : Own). o.dragging) e))

stories-own : (n who : ℕ) (f : Own → Own) (flat : Flat) → (buffer_at n (with_own who f flat).buffers).story ≡ (buffer_at n flat.buffers).story
unfolding with_own
stories-own n who f flat = refl

drag-places : (who : ℕ) (dragging : Bool) (flat : Flat) → MovesPlaces who flat (with_drag who dragging flat)
drag-places who dragging flat = record {
  own = own-dragged who dragging flat;
  others = λ k apart. own_other k who (λ o. record o { dragging = dragging }) flat apart;
  joined = λ k. joined_own k who (λ o. record o { dragging = dragging }) flat;
  stories = λ n. stories-own n who (λ o. record o { dragging = dragging }) flat;
  rest = rest_own who (λ o. record o { dragging = dragging }) flat;
  scoped = scoped_own who (λ o. record o { dragging = dragging }) flat;
}

drags-places : (who gutter : ℕ) (at : Coord) (flat : Flat) → MovesPlaces who flat (drags who gutter at flat)
drags-places who gutter at flat = places-chosen (is_dragging who flat) who flat (extends who gutter at flat) flat (sels-places who _ flat) (same-places who flat)

done-places : (who gutter : ℕ) (mouse : Mouse) (flat : Flat) → MovesPlaces who flat (mouse_done who gutter mouse flat)
done-places who gutter (Move at) flat = drags-places who gutter at flat
done-places who gutter (Press Left at) flat = places-behind who flat (selects who gutter at flat) _ (sels-places who _ flat) (drag-places who true (selects who gutter at flat))
done-places who gutter (Press Middle at) flat = same-places who flat
done-places who gutter (Press Right at) flat = sels-places who _ flat
done-places who gutter (Release Left at) flat = places-behind who flat (drags who gutter at flat) _ (drags-places who gutter at flat) (drag-places who false (drags who gutter at flat))
done-places who gutter (Release Middle at) flat = same-places who flat
done-places who gutter (Release Right at) flat = same-places who flat

pub pointing_moves_places : PointingMovesPlaces
pointing_moves_places who gutter mouse flat = places-chosen (is_quiet who flat) who flat (mouse_done who gutter mouse flat) flat (done-places who gutter mouse flat) (same-places who flat)

shown-places : (who : ℕ) (flat : Flat) → MovesPlaces who flat (keeps_shown who flat)
shown-places who flat = places-chosen (shows_line (view_of who flat) (main_line (text_of who flat) (sels_of who flat))) who flat flat _ (same-places who flat) (sels-places who _ flat)

pub scrolling_moves_places : ScrollingMovesPlaces
scrolling_moves_places who lines flat =
    places-chosen (is_quiet who flat) who flat (keeps_shown who (window_by who lines flat)) flat
    (places-behind who flat (window_by who lines flat) (keeps_shown who (window_by who lines flat)) (corner-places who _ flat) (shown-places who (window_by who lines flat)))
    (same-places who flat)

-- What is held for the clients of a replay, and how it changes.
use Rattle.std.proofs.Common.{◌≡◌, ◌≢◌, ℕ, zero, suc, ◌<◌, inl, inr, Bool, true, false, List, [], ◌∷◌, ◌++◌, length, Ok, Err, refl, sym, ap, ◌∙◌, subst, arith, append-nil, length-drop, take_all, ◌-◌, ◌+◌}
use Rattle.std.specs.Prelude.{◌⊎◌, OnOk, drop, take, get_or, map, set, Option, Some, None, option_map, is_none}
use Rattle.std.specs.declared.result.Result.{Result}
use Rattle.std.proofs.lemmas.List.{map-append, map-set, get_or-set_same, get_or-set_other, get_or-map, length-map}
use Rattle.ui_board.specs.declared.ui.Kind.{Kind}
use Rattle.ui_board.specs.declared.ui.Kind.TheVariants.{Silent}
use Rattle.ui_board.specs.Told.{Shown, json_lines}
use Rattle.ui_board.specs.Boards.{seat_at, shown_at, OthersStay, report_at}
use Rattle.session_turns.specs.Histories.{own}
use Rattle.session_turns.specs.Turns.{later, phases, turns_of}
use Rattle.session_turns.specs.Growth.{How, Whole, Over, Lost, Fits}
use Rattle.session_turns.proofs.TurnLemmas.{over-more, short-more, unsent-more, lost-more}
use Rattle.session_events.specs.declared.event.Entry.{Entry}
use Rattle.session_events.specs.Legal.{Away, is_here, presence_from}
use Rattle.session_events.specs.Meaning.{rules}
use Rattle.session_events.specs.Seats.{Seated}
use Rattle.session_lines.specs.declared.playing.Stop.{Stop}
use Rattle.session_lines.specs.declared.playing.Stop.TheVariants as stop
use Rattle.session_lines.specs.Session.{protocol}
use Rattle.session_lines.specs.Serving.{how_of}
use Rattle.session_lines.specs.Stops.{IsLoss}
use Rattle.session_replay.specs.Settings.{Setting}
use Rattle.session_replay.specs.Boxes.{kind_in, told_in}
use Rattle.session_replay.specs.declared.places.ClientPlace.TheVariants as place
use Rattle.session_replay.specs.declared.players.ReplayClient.{ReplayClient}
use Rattle.session_replay.specs.declared.players.Taken.TheVariants as taken
use Rattle.session_replay.specs.declared.written.Written as answer
use Rattle.session_replay.specs.declared.written.Written.TheVariants as variant
use Rattle.session_replay.specs.Written.{Of, Blank, written, lines_for}
use Rattle.session_replay.specs.WrittenPlaces.{written_at}
use Rattle.session_replay.specs.Clients.{GotTo, LeftAt, ClientStands, HeldClient, Keeps, IsClient, IsMoment, GrowsBy, moment, Moment}
use Rattle.session_replay.specs.Replays.{is_bad}
use Rattle.session_replay.specs.Players.{places, reports, held_of, IsHeldStill, OthersAreHeld, ConcernsOnly, HasNotCome, let_off, IsAt, IsHere, IsStopped, TakesLine, PassesLine, IsPlayed, TakesWritten, kinds_of, told_by_all}
use Rattle.session_replay.proofs.ClientLemmas.{phases-append, stands-gone, moment-line, moment-blank}
use Rattle.session_replay.proofs.PlayingLemmas.{grows-then}

-- two things held are the same where their parts are
same-held : (a b : HeldClient) → a.place ≡ b.place → a.box ≡ b.box → a.report ≡ b.report → a ≡ b
same-held a b p x r =
    ap (λ q. record { place = q; box = a.box; report = a.report }) p
    ∙ ap (λ q. record { place = b.place; box = q; report = a.report }) x
    ∙ ap (λ q. record { place = b.place; box = b.box; report = q }) r

-- where there is what a box has shown, there is the box
pub box-there : {B : Type 0} (shown : B → Shown) (box : Option B) → is_none (option_map shown box) ≡ false → is_none box ≡ false
box-there shown None there = there
box-there shown (Some box) there = refl

pub seat-others : {B : Type 0} (n other : ℕ) (old new : List (Option B)) → other ≢ n → OthersStay n old new → seat_at other new ≡ seat_at other old
seat-others n other old new differs stay = ap (λ q. seat_at other q) stay ∙ get_or-set_other old n other (seat_at n new) None differs

-- nothing is held for another client but what was held
pub held-others : {B : Type 0} (shown : B → Shown) (old new : List (Option B)) (clients : List ReplayClient) (who : ℕ) (client : ReplayClient) → ((other : ℕ) → other ≢ who → seat_at other new ≡ seat_at other old)
    → OthersAreHeld who (held_of shown old clients) (held_of shown new (set clients who client))
held-others shown old new clients who client seats other differs = same-held _ _
    (ap (λ q. get_or q other place.Away) (map-set (λ c. c.place) clients who client) ∙ get_or-set_other (places clients) who other client.place place.Away differs)
    (ap (option_map shown) (seats other differs))
    (ap (λ q. get_or q other []) (map-set (λ c. c.report.items) clients who client) ∙ get_or-set_other (reports clients) who other client.report.items [] differs)

pub held-others-seats : {B : Type 0} (shown : B → Shown) (old new : List (Option B)) (clients : List ReplayClient) (who : ℕ) → OthersStay who old new → OthersAreHeld who (held_of shown old clients) (held_of shown new clients)
held-others-seats shown old new clients who stay other differs = same-held _ _ refl (ap (option_map shown) (seat-others who other old new differs stay)) refl

-- what was told to a client's box concerns that client alone
pub board-concerns : {B : Type 0} (g : Setting) (who : ℕ) (shown : B → Shown) (h h' : List Entry) (old new : List (Option B)) (clients : List ReplayClient) → GrowsBy g who h h' → OthersStay who old new
    → ConcernsOnly g who (moment h (held_of shown old clients)) (moment h' (held_of shown new clients))
board-concerns g who shown h h' old new clients grows stay = record { grows = grows; others = held-others-seats shown old new clients who stay }

-- and so does one thing after another
pub concerns-then : (g : Setting) (who : ℕ) (x y z : Moment) → ConcernsOnly g who x y → ConcernsOnly g who y z → ConcernsOnly g who x z
concerns-then g who x y z s t = record {
  grows = grows-then g who x.history y.history z.history s.grows t.grows;
  others = λ other differs. t.others other differs ∙ s.others other differs;
}

-- nothing is held but what was held
pub held-still : {B : Type 0} (shown : B → Shown) (old new : List (Option B)) (clients : List ReplayClient) → new ≡ old → IsHeldStill (held_of shown old clients) (held_of shown new clients)
held-still shown old new clients e who = ap (λ q. held_of shown q clients who) e

-- what is held for the client whose place is written
pub place-set : (clients : List ReplayClient) (who : ℕ) (client : ReplayClient) → who < length clients → get_or (places (set clients who client)) who place.Away ≡ client.place
place-set clients who client inside = ap (λ q. get_or q who place.Away) (map-set (λ c. c.place) clients who client) ∙ get_or-set_same (places clients) who client.place place.Away (omega (arith, inside, length-map clients (λ c. c.place)))

pub report-set : (clients : List ReplayClient) (who : ℕ) (client : ReplayClient) → who < length clients → get_or (reports (set clients who client)) who [] ≡ client.report.items
report-set clients who client inside = ap (λ q. get_or q who []) (map-set (λ c. c.report.items) clients who client) ∙ get_or-set_same (reports clients) who client.report.items [] (omega (arith, inside, length-map clients (λ c. c.report.items)))

-- a client is let off
pub held-off : {B : Type 0} (shown : B → Shown) (seats : List (Option B)) (clients : List ReplayClient) (who : ℕ) (client : ReplayClient) → who < length clients → client.place ≡ place.Gone
    → client.report.items ≡ report_at (shown_at shown who seats) → held_of shown seats (set clients who client) who ≡ let_off (shown_at shown who seats)
held-off shown seats clients who client inside gone report = same-held _ _ (place-set clients who client inside ∙ gone) refl (report-set clients who client inside ∙ report)

-- where a client is that was read
pub place-at : (clients : List ReplayClient) (who : ℕ) (client : ReplayClient) → who < length clients → client ≡ get_or clients who client → get_or (places clients) who place.Away ≡ client.place
place-at clients who client inside is = get_or-map (λ c. c.place) clients who client place.Away inside ∙ ap (λ c. c.place) (sym is)

-- lines behind are free where a client may leave, or was stopped
pub over-lines : (g : Setting) (who : ℕ) (h : List Entry) (lines more : List (List ℕ)) (told : List ℕ) → GotTo g Over who h lines told → GotTo g Over who h (lines ++ more) told
over-lines g who h lines more told s = record {
  got = s.got;
  adds = s.adds;
  fits = subst (λ all. Fits (protocol g.reads []) Over all s.got told) (sym (phases-append lines more)) (over-more (protocol g.reads []) (phases (turns_of lines)) (later (turns_of more)) s.got told s.fits);
}

pub stop-lines : (g : Setting) (why : Stop) (who : ℕ) (h : List Entry) (lines more : List (List ℕ)) (told : List ℕ) → GotTo g (how_of (Err why)) who h lines told → GotTo g (how_of (Err why)) who h (lines ++ more) told
stop-lines g why who h lines more told s = record {
  got = s.got;
  adds = s.adds;
  fits = subst (λ all. Fits (protocol g.reads []) (how_of (Err why)) all s.got told) (sym (phases-append lines more)) (by why s.fits);
}
  where
    by : (why : Stop) → Fits (protocol g.reads []) (how_of (Err why)) (phases (turns_of lines)) s.got told → Fits (protocol g.reads []) (how_of (Err why)) (phases (turns_of lines) ++ later (turns_of more)) s.got told
    by stop.HistoryFull f = short-more (protocol g.reads []) (phases (turns_of lines)) (later (turns_of more)) s.got told f
    by (stop.Broken at) f = lost-more (protocol g.reads []) (phases (turns_of lines)) (later (turns_of more)) s.got told f
    by stop.NoMemory f = lost-more (protocol g.reads []) (phases (turns_of lines)) (later (turns_of more)) s.got told f
    by stop.WriteFault f = unsent-more (protocol g.reads []) (phases (turns_of lines)) (later (turns_of more)) s.got told f

-- A client whose line was stopped.
pub stopped-at : (g : Setting) (why : Stop) (kind : Kind) (who : ℕ) (h : List Entry) (lines : List (List ℕ)) (held : HeldClient) → is_none held.box ≡ false → kind_in held.box ≡ Some kind → held.report ≡ [] → IsAt g held.place who h
    → GotTo g (how_of (Err why)) who h lines (told_in held.box) → IsStopped g why kind who h lines held
stopped-at g why kind who h lines held there is none at got = by held.box refl there is got
  where
    by : (b : Option Shown) → held.box ≡ b → is_none b ≡ false → kind_in b ≡ Some kind → GotTo g (how_of (Err why)) who h lines (told_in b) → IsStopped g why kind who h lines held
    by None e there is got = absurd (let no : true ≡ false = there in cc)
    by (Some shown) e there is got = record { shown = shown; kind_is = cc; box = e; report = none; gets = inl (at, got) }

pub stopped-lost : (g : Setting) (why : Stop) (kind : Kind) (who : ℕ) (h : List Entry) (lines : List (List ℕ)) (old held : HeldClient) → held ≡ old → is_none old.box ≡ false → kind_in old.box ≡ Some kind → old.report ≡ []
    → (how_of (Err why) ≡ Lost) × (GotTo g Over who h lines (told_in old.box) ⊎ LeftAt g Over who h lines (told_in old.box)) → IsStopped g why kind who h lines held
stopped-lost g why kind who h lines old held same there is none lost = subst (λ q. IsStopped g why kind who h lines q) (sym same) (by old.box refl there is lost)
  where
    by : (b : Option Shown) → old.box ≡ b → is_none b ≡ false → kind_in b ≡ Some kind → (how_of (Err why) ≡ Lost) × (GotTo g Over who h lines (told_in b) ⊎ LeftAt g Over who h lines (told_in b)) → IsStopped g why kind who h lines old
    by None e there is lost = absurd (let no : true ≡ false = there in cc)
    by (Some shown) e there is lost = record { shown = shown; kind_is = cc; box = e; report = none; gets = inr lost }

-- A client that was let off.
pub client-off : (g : Setting) (kind : Kind) (who : ℕ) (h : List Entry) (lines : List (List ℕ)) (box : Option Shown) (held : HeldClient) → held ≡ let_off box → is_none box ≡ false → kind_in box ≡ Some kind → 0 < length lines
    → LeftAt g Over who h lines (told_in box) → IsClient g kind who h lines held × (held.place ≡ place.Gone)
client-off g kind who h lines box held off there is some left = (subst (λ q. IsClient g kind who h lines q) (sym off) (by box there is left), ap (λ q. q.place) off)
  where
    by : (b : Option Shown) → is_none b ≡ false → kind_in b ≡ Some kind → LeftAt g Over who h lines (told_in b) → IsClient g kind who h lines (let_off b)
    by None there is left = absurd (let no : true ≡ false = there in cc)
    by (Some shown) there is left = record { shown = shown; kind_is = cc; keeps = (refl, refl); stands = (some, left) }

-- A client that is here.
pub here-now : (g : Setting) (how : How) (kind : Kind) (who : ℕ) (h : List Entry) (lines : List (List ℕ)) (held : HeldClient) → is_none held.box ≡ false → kind_in held.box ≡ Some kind → held.report ≡ [] → held.place ≡ place.Here → is_here (presence_from who Away h) ≡ true
    → GotTo g how who h lines (told_in held.box) → IsHere g how kind who h lines held
here-now g how kind who h lines held there is none at here got = by held.box refl there is got
  where
    by : (b : Option Shown) → held.box ≡ b → is_none b ≡ false → kind_in b ≡ Some kind → GotTo g how who h lines (told_in b) → IsHere g how kind who h lines held
    by None e there is got = absurd (let no : true ≡ false = there in cc)
    by (Some shown) e there is got = record { shown = shown; kind_is = cc; box = e; report = none; at = at; here = here; got = got }

pub here-client : (g : Setting) (kind : Kind) (who : ℕ) (h : List Entry) (lines : List (List ℕ)) (held : HeldClient) → 0 < length lines → IsHere g Whole kind who h lines held → IsClient g kind who h lines held
here-client g kind who h lines held some w = record {
  shown = w.shown;
  kind_is = w.kind_is;
  keeps = subst (λ q. Keeps q held w.shown) (sym w.at) (w.box, w.report);
  stands = subst (λ q. ClientStands g q who h lines (json_lines w.shown.told)) (sym w.at) (w.here, some, w.got);
}

pub here-told : (g : Setting) (how : How) (kind : Kind) (who : ℕ) (h : List Entry) (lines : List (List ℕ)) (held : HeldClient) → IsHere g how kind who h lines held → GotTo g how who h lines (told_in held.box)
here-told g how kind who h lines held w = subst (λ q. GotTo g how who h lines q) (ap told_in (sym w.box)) w.got

pub here-kind : (g : Setting) (how : How) (kind : Kind) (who : ℕ) (h : List Entry) (lines : List (List ℕ)) (old : HeldClient) (box : Option Shown) → kind_in box ≡ kind_in old.box → IsHere g how kind who h lines old → kind_in box ≡ Some kind
here-kind g how kind who h lines old box e w = e ∙ ap kind_in w.box ∙ ap Some w.kind_is

-- What stands for a client, by where it is.
pub client-here : (g : Setting) (kind : Kind) (who : ℕ) (h : List Entry) (lines : List (List ℕ)) (held : HeldClient) → held.place ≡ place.Here → IsClient g kind who h lines held → IsHere g Whole kind who h lines held
client-here g kind who h lines held at c =
    let s = subst (λ q. ClientStands g q who h lines (json_lines c.shown.told)) at c.stands in
    let k = subst (λ q. Keeps q held c.shown) at c.keeps in
    record { shown = c.shown; kind_is = c.kind_is; box = k.0; report = k.1; at = at; here = s.0; got = s.2 }

pub here-boxed : (g : Setting) (how : How) (kind : Kind) (who : ℕ) (h : List Entry) (lines : List (List ℕ)) (held : HeldClient) → IsHere g how kind who h lines held → is_none held.box ≡ false
here-boxed g how kind who h lines held w = ap is_none w.box

away-stands : (g : Setting) (kind : Kind) (who : ℕ) (h : List Entry) (lines : List (List ℕ)) (held : HeldClient) → held.place ≡ place.Away → (c : IsClient g kind who h lines held) → ClientStands g place.Away who h lines (json_lines c.shown.told)
away-stands g kind who h lines held at c = subst (λ q. ClientStands g q who h lines (json_lines c.shown.told)) at c.stands

away-box : (g : Setting) (kind : Kind) (who : ℕ) (h : List Entry) (lines : List (List ℕ)) (held : HeldClient) → held.place ≡ place.Away → (c : IsClient g kind who h lines held) → held.box ≡ Some c.shown
away-box g kind who h lines held at c = (subst (λ q. Keeps q held c.shown) at c.keeps).0

pub away-report : (g : Setting) (kind : Kind) (who : ℕ) (h : List Entry) (lines : List (List ℕ)) (held : HeldClient) → held.place ≡ place.Away → IsClient g kind who h lines held → held.report ≡ []
away-report g kind who h lines held at c = (subst (λ q. Keeps q held c.shown) at c.keeps).1

pub away-own : (g : Setting) (kind : Kind) (who : ℕ) (h : List Entry) (lines : List (List ℕ)) (held : HeldClient) → held.place ≡ place.Away → IsClient g kind who h lines held → own (rules g.gives) who h ≡ []
away-own g kind who h lines held at c = (away-stands g kind who h lines held at c).0

pub away-lines : (g : Setting) (kind : Kind) (who : ℕ) (h : List Entry) (lines : List (List ℕ)) (held : HeldClient) → held.place ≡ place.Away → IsClient g kind who h lines held → lines ≡ []
away-lines g kind who h lines held at c = (away-stands g kind who h lines held at c).1

pub away-untold : (g : Setting) (kind : Kind) (who : ℕ) (h : List Entry) (lines : List (List ℕ)) (held : HeldClient) → held.place ≡ place.Away → IsClient g kind who h lines held → told_in held.box ≡ []
away-untold g kind who h lines held at c = ap told_in (away-box g kind who h lines held at c) ∙ (away-stands g kind who h lines held at c).2

pub away-boxed : (g : Setting) (kind : Kind) (who : ℕ) (h : List Entry) (lines : List (List ℕ)) (held : HeldClient) → held.place ≡ place.Away → IsClient g kind who h lines held → is_none held.box ≡ false
away-boxed g kind who h lines held at c = ap is_none (away-box g kind who h lines held at c)

pub not-come : (g : Setting) (kind : Kind) (who : ℕ) (now : Moment) (lines : List (List ℕ)) → (now.held who).place ≡ place.Away → IsClient g kind who now.history lines (now.held who) → HasNotCome g who now
not-come g kind who now lines at c = record {
  away = away-own g kind who now.history lines (now.held who) at c;
  at = at;
  boxed = away-boxed g kind who now.history lines (now.held who) at c;
  untold = away-untold g kind who now.history lines (now.held who) at c;
}

pub away-kind : (g : Setting) (kind : Kind) (who : ℕ) (h : List Entry) (lines : List (List ℕ)) (held : HeldClient) → held.place ≡ place.Away → IsClient g kind who h lines held → kind_in held.box ≡ Some kind
away-kind g kind who h lines held at c = ap kind_in (away-box g kind who h lines held at c) ∙ ap Some c.kind_is

pub gone-client : (g : Setting) (kind : Kind) (who : ℕ) (h : List Entry) (lines : List (List ℕ)) (line : List ℕ) (held : HeldClient) → held.place ≡ place.Gone → IsClient g kind who h lines held → IsClient g kind who h (lines ++ line ∷ []) held
gone-client g kind who h lines line held at c = record {
  shown = c.shown;
  kind_is = c.kind_is;
  keeps = c.keeps;
  stands = subst (λ q. ClientStands g q who h (lines ++ line ∷ []) (json_lines c.shown.told)) (sym at)
      (stands-gone g who h lines line (json_lines c.shown.told) (subst (λ q. ClientStands g q who h lines (json_lines c.shown.told)) at c.stands));
}

-- what the answer of a playing says
pub over-told : (g : Setting) (leaving : Bool) (who : ℕ) (h : List Entry) (lines : List (List ℕ)) (told : List ℕ) → leaving ≡ true → GotTo g (how_of (Ok leaving)) who h lines told → GotTo g Over who h lines told
over-told g leaving who h lines told e got = subst (λ b. GotTo g (how_of (Ok b)) who h lines told) e got

pub whole-told : (g : Setting) (leaving : Bool) (who : ℕ) (h : List Entry) (lines : List (List ℕ)) (told : List ℕ) → leaving ≡ false → GotTo g (how_of (Ok leaving)) who h lines told → GotTo g Whole who h lines told
whole-told g leaving who h lines told e got = subst (λ b. GotTo g (how_of (Ok b)) who h lines told) e got

-- A written line was played for its client.
played-line : (g : Setting) (kinds : List Kind) (who : ℕ) (lines : List (List ℕ)) (w line : List ℕ) (h h' : List Entry) (held held' : ℕ → HeldClient) → IsMoment g kinds lines (moment h held) → GrowsBy g who h h' → who < length kinds → written (length kinds) w ≡ Of who line → OthersAreHeld who held held'
    → IsClient g (get_or kinds who Silent) who h' (lines_for (length kinds) who lines ++ line ∷ []) (held' who) → IsPlayed g kinds lines w h (moment h' held')
played-line g kinds who lines w line h h' held held' m grows inside is others client = record {
  good = ap is_bad is;
  grows = (grows.more, grows.grows);
  moment = moment-line g kinds who lines w line h h' held held' m grows inside is others client;
}

pub written-left : (g : Setting) (kinds : List Kind) (who : ℕ) (lines : List (List ℕ)) (w line : List ℕ) (h h' : List Entry) (held held' : ℕ → HeldClient) (left : Bool) → left ≡ true → IsMoment g kinds lines (moment h held) → GrowsBy g who h h' → who < length kinds
    → written (length kinds) w ≡ Of who line → OthersAreHeld who held held'
    → TakesLine g (get_or kinds who Silent) who (Ok left) h' (lines_for (length kinds) who lines ++ line ∷ []) (held' who) ⊎ PassesLine g (get_or kinds who Silent) who (Ok left) h h' (lines_for (length kinds) who lines ++ line ∷ []) (held' who)
    → TakesWritten g kinds lines w (Ok taken.Left) (moment h held) (moment h' held')
written-left g kinds who lines w line h h' held held' left e m grows inside is others takes = by left e takes
  where
    by : (b : Bool) → b ≡ true → TakesLine g (get_or kinds who Silent) who (Ok b) h' (lines_for (length kinds) who lines ++ line ∷ []) (held' who) ⊎ PassesLine g (get_or kinds who Silent) who (Ok b) h h' (lines_for (length kinds) who lines ++ line ∷ []) (held' who)
        → TakesWritten g kinds lines w (Ok taken.Left) (moment h held) (moment h' held')
    by true e (inl t) = (played-line g kinds who lines w line h h' held held' m grows inside is others t.0, (who, inside, t.1))
    by true e (inr p) = absurd (let no = p.stays in cc)
    by false e t = absurd (cc)

pub written-stayed : (g : Setting) (kinds : List Kind) (who : ℕ) (lines : List (List ℕ)) (w line : List ℕ) (h h' : List Entry) (held held' : ℕ → HeldClient) (left : Bool) → left ≡ false → IsMoment g kinds lines (moment h held) → GrowsBy g who h h' → who < length kinds
    → written (length kinds) w ≡ Of who line → OthersAreHeld who held held'
    → TakesLine g (get_or kinds who Silent) who (Ok left) h' (lines_for (length kinds) who lines ++ line ∷ []) (held' who) ⊎ PassesLine g (get_or kinds who Silent) who (Ok left) h h' (lines_for (length kinds) who lines ++ line ∷ []) (held' who)
    → TakesWritten g kinds lines w (Ok taken.Stayed) (moment h held) (moment h' held')
written-stayed g kinds who lines w line h h' held held' left e m grows inside is others takes = by left e takes
  where
    by : (b : Bool) → b ≡ false → TakesLine g (get_or kinds who Silent) who (Ok b) h' (lines_for (length kinds) who lines ++ line ∷ []) (held' who) ⊎ PassesLine g (get_or kinds who Silent) who (Ok b) h h' (lines_for (length kinds) who lines ++ line ∷ []) (held' who)
        → TakesWritten g kinds lines w (Ok taken.Stayed) (moment h held) (moment h' held')
    by false e (inl t) = (played-line g kinds who lines w line h h' held held' m grows inside is others t.0, inl (who, inside, t.1))
    by false e (inr p) = (played-line g kinds who lines w line h h' held held' m grows inside is others p.client, inr p.same)
    by true e t = absurd (cc)

pub written-cut : (g : Setting) (why : Stop) (kinds : List Kind) (who : ℕ) (lines : List (List ℕ)) (w line : List ℕ) (h h' : List Entry) (held held' : ℕ → HeldClient) → IsMoment g kinds lines (moment h held) → GrowsBy g who h h' → who < length kinds
    → written (length kinds) w ≡ Of who line → OthersAreHeld who held held'
    → TakesLine g (get_or kinds who Silent) who (Err why) h' (lines_for (length kinds) who lines ++ line ∷ []) (held' who) ⊎ PassesLine g (get_or kinds who Silent) who (Err why) h h' (lines_for (length kinds) who lines ++ line ∷ []) (held' who)
    → TakesWritten g kinds lines w (Err why) (moment h held) (moment h' held')
written-cut g why kinds who lines w line h h' held held' m grows inside is others (inr p) = absurd (let no = p.stays in cc)
written-cut g why kinds who lines w line h h' held held' m grows inside is others (inl t) = record {
  who = who;
  line = line;
  is = is;
  inside = inside;
  alone = record { grows = grows; others = others };
  stopped = t;
}

-- what an answer says of a written line
pub written-of : (n count : ℕ) (kinds : List Kind) (w line : List ℕ) (given : answer.Written) (who from : ℕ) → n ≡ count → length kinds ≡ count → written_at w given ≡ written n w → given ≡ variant.Of who from → line ≡ drop from w → written (length kinds) w ≡ Of who line
written-of n count kinds w line given who from e many reading is sliced = ap (λ q. written q w) (many ∙ sym e) ∙ sym reading ∙ ap (written_at w) is ∙ ap (Of who) (sym sliced)

pub written-blank : (n count : ℕ) (g : Setting) (kinds : List Kind) (lines : List (List ℕ)) (w : List ℕ) (h : List Entry) (held : ℕ → HeldClient) (given : answer.Written) → n ≡ count → length kinds ≡ count → written_at w given ≡ written n w → given ≡ variant.Blank → IsMoment g kinds lines (moment h held)
    → TakesWritten g kinds lines w (Ok taken.Stayed) (moment h held) (moment h held)
written-blank n count g kinds lines w h held given e many reading is m =
    let blank : written (length kinds) w ≡ Blank = ap (λ q. written q w) (many ∙ sym e) ∙ sym reading ∙ ap (written_at w) is in
    (record { good = ap is_bad blank; grows = ([], sym (append-nil h)); moment = moment-blank g kinds lines w h held m blank }, inr refl)

pub written-bad : (n count : ℕ) (g : Setting) (kinds : List Kind) (lines : List (List ℕ)) (w : List ℕ) (h : List Entry) (held : ℕ → HeldClient) (given : answer.Written) → n ≡ count → length kinds ≡ count → written_at w given ≡ written n w → given ≡ variant.Bad
    → TakesWritten g kinds lines w (Ok taken.Bad) (moment h held) (moment h held)
written-bad n count g kinds lines w h held given e many reading is = (ap (λ q. written q w) (many ∙ sym e) ∙ sym reading ∙ ap (written_at w) is, refl, λ who. refl)

-- what holds anyway holds where a call went well
pub always-ok : {A E : Type 0} {P : Type 0} (result : Result A E) → P → OnOk result P
always-ok (Ok x) p = p
always-ok (Err e) p = tt

-- all of a list behind a number of elements
pub rest-of : (l : List ℕ) (n : ℕ) → take (length l - n) (drop n l) ≡ drop n l
rest-of l n = take_all (length l - n) (drop n l) (omega (arith, length-drop n l))

-- what holds for a client before any has come
front-empty : {A : Type 0} (a b : List A) → a ++ b ≡ [] → a ≡ []
front-empty [] b e = refl
front-empty (x ∷ a) b e = cc

back-empty : {A : Type 0} (a b : List A) → a ++ b ≡ [] → b ≡ []
back-empty [] b e = e
back-empty (x ∷ a) b e = cc

-- What the box at a seat has shown, where the boxes were told nothing.
record IsUntold {B : Type 0} (shown : B → Shown) (boxes : List B) (who : ℕ) : Type 0 where
  what : Shown
  box : shown_at shown who (map Some boxes) ≡ Some what
  kind : what.kind ≡ get_or (kinds_of shown boxes) who Silent
  told : what.told ≡ []

untold-at : {B : Type 0} (shown : B → Shown) (boxes : List B) (who : ℕ) → who < length (kinds_of shown boxes) → told_by_all shown boxes ≡ [] → IsUntold shown boxes who
untold-at shown [] who inside e = absurd (omega (arith, inside))
untold-at shown (box ∷ boxes) zero inside e = record { what = shown box; box = refl; kind = refl; told = front-empty (shown box).told (told_by_all shown boxes) e }
untold-at shown (box ∷ boxes) (suc who) inside e =
    let w : IsUntold shown boxes who = untold-at shown boxes who (omega (arith, inside)) (back-empty (shown box).told (told_by_all shown boxes) e) in
    record { what = w.what; box = w.box; kind = w.kind; told = w.told }

away-at : {B : Type 0} (boxes : List B) (who : ℕ) → get_or (map (λ ui. place.Away) boxes) who place.Away ≡ place.Away
away-at [] who = refl
away-at (box ∷ boxes) zero = refl
away-at (box ∷ boxes) (suc who) = away-at boxes who

none-at : {B : Type 0} (boxes : List B) (who : ℕ) → get_or {A = List ℕ} (map (λ ui. []) boxes) who [] ≡ []
none-at [] who = refl
none-at (box ∷ boxes) zero = refl
none-at (box ∷ boxes) (suc who) = none-at boxes who

pub all-away : {B : Type 0} (g : Setting) (shown : B → Shown) (boxes : List B) (seats : List (Option B)) (clients : List ReplayClient) (h : List Entry) → seats ≡ map Some boxes → places clients ≡ map (λ ui. place.Away) boxes → reports clients ≡ map (λ ui. []) boxes → h ≡ [] → told_by_all shown boxes ≡ []
    → IsMoment g (kinds_of shown boxes) [] (moment h (held_of shown seats clients))
all-away g shown boxes seats clients h s p r e untold = record {
  clients = λ who inside. by who (untold-at shown boxes who inside untold);
  strangers = λ who past. ap (own (rules g.gives) who) e;
}
  where
    by : (who : ℕ) → IsUntold shown boxes who → IsClient g (get_or (kinds_of shown boxes) who Silent) who h [] (held_of shown seats clients who)
    by who w =
        let at : get_or (places clients) who place.Away ≡ place.Away = ap (λ q. get_or q who place.Away) p ∙ away-at boxes who in
        let box : shown_at shown who seats ≡ Some w.what = ap (shown_at shown who) s ∙ w.box in
        record {
          shown = w.what;
          kind_is = w.kind;
          keeps = subst (λ q. Keeps q (held_of shown seats clients who) w.what) (sym at) (box, ap (λ q. get_or q who []) r ∙ none-at boxes who);
          stands = subst (λ q. ClientStands g q who h [] (json_lines w.what.told)) (sym at) (ap (own (rules g.gives) who) e, refl, ap json_lines w.told);
        }

-- what a client's box reported that was read
pub report-at : (clients : List ReplayClient) (who : ℕ) (client : ReplayClient) → who < length clients → client ≡ get_or clients who client → get_or (reports clients) who [] ≡ client.report.items
report-at clients who client inside is = get_or-map (λ c. c.report.items) clients who client [] inside ∙ ap (λ c. c.report.items) (sym is)

-- what stands where a client couldn't be let go
pub lost-stands : (parting : List Entry → Bool) (g : Setting) (how : How) (why : Stop) (seat : Seated) (who : ℕ) (h : List Entry) (lines : List (List ℕ)) (told : List ℕ)
    → ((why ≡ stop.NoMemory) × LeftAt g how who h lines told) ⊎ (IsLoss parting why seat × GotTo g how who h lines told) → (how_of (Err why) ≡ Lost) × (GotTo g how who h lines told ⊎ LeftAt g how who h lines told)
lost-stands parting g how why seat who h lines told (inl s) = (ap (λ q. how_of (Err q)) s.0, inr s.1)
lost-stands parting g how stop.HistoryFull seat who h lines told (inr s) = absurd s.0
lost-stands parting g how (stop.Broken at) seat who h lines told (inr s) = (refl, inl s.1)
lost-stands parting g how stop.NoMemory seat who h lines told (inr s) = (refl, inl s.1)
lost-stands parting g how stop.WriteFault seat who h lines told (inr s) = absurd s.0

-- as many of one thing as elements were passed
more-of : {A B : Type 0} (a : A) (xs : List B) (i : ℕ) → i < length xs → map (λ x. a) (take (i + 1) xs) ≡ map (λ x. a) (take i xs) ++ a ∷ []
more-of a [] i inside = absurd (omega (arith, inside))
more-of a (x ∷ xs) zero inside = refl
more-of a (x ∷ xs) (suc i) inside = let e : suc i + 1 ≡ suc (i + 1) = omega arith in rw e (ap (λ q. a ∷ q) (more-of a xs i (omega (arith, inside))))

pub next-away : {B : Type 0} (boxes : List B) (i : ℕ) (old new : List ReplayClient) (client : ReplayClient) → i < length boxes → places old ≡ map (λ ui. place.Away) (take i boxes) → new ≡ old ++ client ∷ [] → client.place ≡ place.Away → places new ≡ map (λ ui. place.Away) (take (i + 1) boxes)
next-away boxes i old new client inside e n away =
    ap places n ∙ map-append (λ c. c.place) old (client ∷ []) ∙ ap (λ q. q ++ client.place ∷ []) e ∙ ap (λ q. map (λ ui. place.Away) (take i boxes) ++ q ∷ []) away ∙ sym (more-of place.Away boxes i inside)

pub next-unreported : {B : Type 0} (boxes : List B) (i : ℕ) (old new : List ReplayClient) (client : ReplayClient) → i < length boxes → reports old ≡ map (λ ui. []) (take i boxes) → new ≡ old ++ client ∷ [] → client.report.items ≡ [] → reports new ≡ map (λ ui. []) (take (i + 1) boxes)
next-unreported boxes i old new client inside e n none =
    ap reports n ∙ map-append (λ c. c.report.items) old (client ∷ []) ∙ ap (λ q. q ++ client.report.items ∷ []) e ∙ ap (λ q. map (λ ui. []) (take i boxes) ++ q ∷ []) none ∙ sym (more-of [] boxes i inside)

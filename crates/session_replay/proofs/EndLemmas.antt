-- How a replay ends, from where its lines stopped: its clients leave, and it was replayed.
use Rattle.std.proofs.Common.{◌≡◌, ◌≢◌, ℕ, ◌<◌, ◌≤◌, ◌==◌, ◌⊎◌, inl, inr, Bool, true, false, ◌||◌, List, [], ◌∷◌, ◌++◌, length, Ok, Err, refl, sym, ap, ◌∙◌, subst, arith, append-nil, append_assoc, length-append}
use Rattle.std.specs.Prelude.{if◌then◌else◌, get_or, Some, None}
use Rattle.std.specs.declared.option.Option.{Option}
use Rattle.std.specs.declared.result.Result.{Result}
use Rattle.std.specs.List.{list_any}
use Rattle.std.proofs.lemmas.Bool.{eq-eqb, ne_eqb}
use Rattle.std.proofs.lemmas.List.Folds.{list_any-append}
use Rattle.kak_ports.specs.Ports.{Inlet, Rose}
use Rattle.ui_board.specs.declared.ui.Kind.{Kind}
use Rattle.ui_board.specs.declared.ui.Kind.TheVariants.{Silent}
use Rattle.ui_board.specs.Told.{json_lines}
use Rattle.line_reading.specs.declared.limits.TheConstants.{MAX_INPUT}
use Rattle.session_turns.specs.Histories.{own}
use Rattle.session_turns.specs.Turns.{phases, turns_of}
use Rattle.session_turns.specs.Growth.{Begins, How, Short, Over, IsShort}
use Rattle.session_turns.specs.Headline.{Lost as WasLost}
use Rattle.session_turns.proofs.HistoryLemmas.{own-append, adds-own_events}
use Rattle.session_events.specs.declared.event.Event.{Event}
use Rattle.session_events.specs.declared.event.Entry.{Entry}
use Rattle.session_events.specs.Entries.{is_leave}
use Rattle.session_events.specs.Meaning.{rules}
use Rattle.session_events.specs.Seats.{Seated}
use Rattle.session_lines.specs.declared.playing.Stop.{Stop}
use Rattle.session_lines.specs.declared.playing.Stop.TheVariants.{HistoryFull, Broken, NoMemory, WriteFault}
use Rattle.session_lines.specs.Session.{protocol}
use Rattle.session_lines.specs.Serving.{how_of}
use Rattle.session_lines.specs.Stops.{IsFull, Stops, IsWholeStill, StaysWhole, StaysWholeFor}
use Rattle.session_replay.specs.Settings.{Setting}
use Rattle.session_replay.specs.declared.ends.ReplayEnd.{ReplayEnd}
use Rattle.session_replay.specs.declared.ends.ReplayEnd.TheVariants as end
use Rattle.session_replay.specs.declared.places.ClientPlace.{ClientPlace}
use Rattle.session_replay.specs.declared.places.ClientPlace.TheVariants as place
use Rattle.session_replay.specs.Written.{Of, Bad, written, lines_for}
use Rattle.session_replay.specs.Clients.{GotTo, LeftAt, HeldClient, Keeps, IsMoment, GrowsBy, moment}
use Rattle.session_replay.specs.Players.{GetsStopped, IsStopped, IsPlayCutOff, ArePlayersStill}
use Rattle.session_replay.specs.Partings.{how_at, StandsLast, IsParting, AreParting}
use Rattle.session_replay.specs.declared.players.Players.{Players}
use Rattle.session_replay.specs.Phases.{HasGivenLines, HasFirst, HasAllLines, HasWholeLines, replay_of, ArePlayedInOrder, HasPlayed, HasStopped, WasCutOff, hows_at, IsEnding, AreLeaving, AreLost, IsLossFor, MayLeave, IsLostLeaving, DismissesAll, WasPlayed, IsLossOf, IsNoLoss}
use Rattle.session_replay.specs.Replays.{StandsAt, leave_in_order, ReplayFaultIs}
use Rattle.session_replay.proofs.ClientLemmas.{moment-bad, lines-own, some-line, still-strange}
use Rattle.session_replay.proofs.EndingLemmas.{no-answers}
use Rattle.session_replay.proofs.PartingLemmas.{parting-begins, refused-begins, how-ends, hows-end, apart}
use Rattle.session_replay.proofs.LostLemmas.{got-at-lost, left-at-lost, short-no_leave}
use Rattle.session_replay.proofs.LeavingLemmas.{leaving-begins}
use Rattle.session_replay.proofs.ReplayLemmas.{all-own, rest-alone}
use Rattle.session_replay.proofs.HeadlineLemmas.{order-behind, order-later, order-grew, moment-stops, Concludes, conclude, Done, replayed-ended, replayed-failed, replayed-full, replayed-over, replayed-bad}
use Rattle.session_replay.proofs.StoppedLemmas.{Stopped, IsLosing, replayed-refused, moment-lost, line-lost, replayed-lost, given-first, all-first, whole-first}

-- of one client's entries a leaving is its own
alone-leaves : (g : Setting) (k : ℕ) (more : List Entry) → ((other : ℕ) → other ≢ k → own (rules g.gives) other more ≡ []) → list_any is_leave (own (rules g.gives) k more) ≡ list_any (λ entry. is_leave entry.event) more
alone-leaves g k [] alone = refl
alone-leaves g k (entry ∷ more) alone =
    ap (λ t. list_any is_leave (if t then entry.event ∷ own (rules g.gives) k more else own (rules g.gives) k more)) (eq-eqb entry.who k (all-own g k entry more alone))
    ∙ ap (λ t. is_leave entry.event || t) (alone-leaves g k more (rest-alone g k entry more alone))

back-none : (x y : Bool) → (x || y) ≡ false → y ≡ false
back-none true y e = cc
back-none false y e = e

grew-no_leave : (g : Setting) (k : ℕ) (h h' : List Entry) (lines : List (List ℕ)) (told : List ℕ) → (grows : GrowsBy g k h h') → GotTo g Short k h' lines told → list_any (λ entry. is_leave entry.event) grows.more ≡ false
grew-no_leave g k h h' lines told grows s =
    sym (alone-leaves g k grows.more grows.alone)
    ∙ back-none (list_any is_leave (own (rules g.gives) k h)) (list_any is_leave (own (rules g.gives) k grows.more))
    (sym (list_any-append is_leave (own (rules g.gives) k h) (own (rules g.gives) k grows.more)) ∙ ap (list_any is_leave) (sym (own-append (rules g.gives) k h grows.more) ∙ ap (own (rules g.gives) k) (sym grows.grows)) ∙ short-no_leave g k h' lines told s)

-- a client whose coming was refused was told nothing
nothing-told : (g : Setting) (k : ℕ) (h : List Entry) (lines : List (List ℕ)) (told : List ℕ) → own (rules g.gives) k h ≡ [] → GotTo g Short k h lines told → told ≡ []
nothing-told g k h lines told none s =
    let nothing : s.got ≡ [] = no-answers s.got (sym (adds-own_events (rules g.gives) k h s.got s.adds) ∙ none) in
    let short : IsShort (protocol g.reads []) (phases (turns_of lines)) [] told = subst (λ q. IsShort (protocol g.reads []) (phases (turns_of lines)) q told) nothing s.fits in
    sym (short.bytes [])

-- where an event of a client was refused, it may part
refused-stands : (g : Setting) (p : ClientPlace) (k : ℕ) (h : List Entry) (lines : List (List ℕ)) (told : List ℕ) → 0 < length lines → GetsStopped g HistoryFull p k h lines told → StandsLast g Short p k h lines told × GotTo g Short k h lines told
refused-stands g place.Away k h lines told some (inl s) = ((s.0, nothing-told g k h lines told s.0 s.1, inr (refl, s.1)), s.1)
refused-stands g place.Here k h lines told some (inl s) = ((s.0, some, s.1), s.1)
refused-stands g place.Gone k h lines told some (inl s) = absurd s.0
refused-stands g p k h lines told some (inr s) = let no : Short ≡ _ = s.0 in cc

stopped-keeps : (p : ClientPlace) (g : Setting) (k : ℕ) (h : List Entry) (lines : List (List ℕ)) (held : HeldClient) (kind : Kind) → held.place ≡ p → (w : IsStopped g HistoryFull kind k h lines held) → Keeps p held w.shown
stopped-keeps place.Away g k h lines held kind e w = (w.box, w.report)
stopped-keeps place.Here g k h lines held kind e w = (w.box, w.report)
stopped-keeps place.Gone g k h lines held kind e w = absurd (none (subst (λ p. GetsStopped g HistoryFull p k h lines (json_lines w.shown.told)) e w.gets))
  where
    none : GetsStopped g HistoryFull place.Gone k h lines (json_lines w.shown.told) → ⊥
    none (inl s) = s.0
    none (inr s) = let no : Short ≡ _ = s.0 in cc

refused-parting : (g : Setting) (kind : Kind) (k : ℕ) (h : List Entry) (lines : List (List ℕ)) (held : HeldClient) → 0 < length lines → IsStopped g HistoryFull kind k h lines held → IsParting g kind Short k h lines held
refused-parting g kind k h lines held some w = record {
  shown = w.shown;
  kind_is = w.kind_is;
  keeps = stopped-keeps held.place g k h lines held kind refl w;
  stands = (refused-stands g held.place k h lines (json_lines w.shown.told) some w.gets).0;
}

-- where something was lost in its line, a beginning stands of a client
lost-stands : (why : Stop) (g : Setting) (p : ClientPlace) (k : ℕ) (h : List Entry) (lines : List (List ℕ)) (told : List ℕ) → IsLossFor why → 0 < length lines → GetsStopped g why p k h lines told → StandsAt WasLost g k h lines told
lost-stands (Broken at) g p k h lines told loss some (inl s) = got-at-lost g _ k h lines told tt some s.1
lost-stands NoMemory g p k h lines told loss some (inl s) = got-at-lost g _ k h lines told tt some s.1
lost-stands HistoryFull g p k h lines told loss some s = absurd loss
lost-stands WriteFault g p k h lines told loss some s = absurd loss
lost-stands why g p k h lines told loss some (inr s) = by s.1
  where
    by : GotTo g Over k h lines told ⊎ LeftAt g Over k h lines told → StandsAt WasLost g k h lines told
    by (inl got) = got-at-lost g Over k h lines told tt some got
    by (inr left) = left-at-lost g Over k h lines told tt some left

-- Where lines stopped and nothing was lost, clients begin to leave.
pub record BeginsToLeave (g : Setting) (limit : ℕ) (kinds : List Kind) (h : List Entry) (held : ℕ → HeldClient) (left rest : Inlet) : Type 0 where
  pub hows : ℕ → How
  pub lines : List (List ℕ)
  pub before : List Entry
  pub ending : (who : ℕ) → who < length kinds → IsEnding (hows who)
  pub leaving : AreLeaving g kinds hows 0 lines before (moment h held)
  pub order : ArePlayedInOrder g limit (length kinds) lines before
  pub first : HasFirst left rest lines

moment-leaves : (g : Setting) (limit : ℕ) (kinds : List Kind) (lines : List (List ℕ)) (h : List Entry) (held : ℕ → HeldClient) (left rest : Inlet) → IsMoment g kinds lines (moment h held) → ArePlayedInOrder g limit (length kinds) lines h → HasFirst left rest lines → BeginsToLeave g limit kinds h held left rest
moment-leaves g limit kinds lines h held left rest m order first = record {
  hows = λ who. how_at (held who).place;
  lines = lines;
  before = h;
  ending = λ who inside. how-ends (held who).place;
  leaving = record { rest = []; split = sym (append-nil h); in_order = refl; below = refl; parting = parting-begins g kinds lines h held m };
  order = order;
  first = first;
}

bad-order : (g : Setting) (limit : ℕ) (kinds : List Kind) (lines : List (List ℕ)) (w : List ℕ) (h : List Entry) (held : ℕ → HeldClient) → HasPlayed g limit kinds lines false (moment h held) → ArePlayedInOrder g limit (length kinds) (lines ++ w ∷ []) h
bad-order g limit kinds lines w h held p = subst (λ q. ArePlayedInOrder g limit (length kinds) (lines ++ w ∷ []) q) (append-nil h) (order-behind g limit kinds lines w h [] held p)

line-some : (g : Setting) (kinds : List Kind) (who : ℕ) (lines : List (List ℕ)) (w line : List ℕ) → written (length kinds) w ≡ Of who line → lines_for (length kinds) who lines ++ line ∷ [] ≡ lines_for (length kinds) who (lines ++ w ∷ [])
line-some g kinds who lines w line is = sym (lines-own (length kinds) who lines w line is)

cut-leaves : (g : Setting) (limit : ℕ) (kinds : List Kind) (h : List Entry) (held : ℕ → HeldClient) (left rest : Inlet) → WasCutOff g limit kinds (moment h held) left rest HistoryFull → BeginsToLeave g limit kinds h held left rest
cut-leaves g limit kinds h held left rest s =
    let c : IsPlayCutOff g HistoryFull kinds s.lines s.last s.old (moment h held) = s.cut in
    let mine : IsParting g (get_or kinds c.who Silent) Short c.who h (lines_for (length kinds) c.who (s.lines ++ s.last ∷ [])) (held c.who) =
    subst (λ q. IsParting g (get_or kinds c.who Silent) Short c.who h q (held c.who)) (line-some g kinds c.who s.lines s.last c.line c.is)
    (refused-parting g (get_or kinds c.who Silent) c.who h (lines_for (length kinds) c.who s.lines ++ c.line ∷ []) (held c.who) (some-line (lines_for (length kinds) c.who s.lines) c.line) c.stopped) in
    let parting : AreParting g kinds (hows_at c.who s.old.held) 0 (s.lines ++ s.last ∷ []) (moment h held) =
    refused-begins g kinds c.who s.lines s.last c.line s.old.history h s.old.held held s.played.moment c.alone.grows c.inside c.is c.alone.others mine in
    let got : GotTo g Short c.who h (lines_for (length kinds) c.who s.lines ++ c.line ∷ []) (json_lines c.stopped.shown.told) =
    (refused-stands g (held c.who).place c.who h (lines_for (length kinds) c.who s.lines ++ c.line ∷ []) (json_lines c.stopped.shown.told) (some-line (lines_for (length kinds) c.who s.lines) c.line) c.stopped.gets).1 in
    record {
      hows = hows_at c.who s.old.held;
      lines = s.lines ++ s.last ∷ [];
      before = s.old.history;
      ending = λ who inside. hows-end c.who s.old.held who;
      leaving = subst (λ q. AreLeaving g kinds (hows_at c.who s.old.held) 0 (s.lines ++ s.last ∷ []) s.old.history (moment q held)) (sym c.alone.grows.grows)
          (leaving-begins g kinds (hows_at c.who s.old.held) (s.lines ++ s.last ∷ []) s.old.history c.alone.grows.more held (grew-no_leave g c.who s.old.history h _ _ c.alone.grows got)
          (subst (λ q. AreParting g kinds (hows_at c.who s.old.held) 0 (s.lines ++ s.last ∷ []) (moment q held)) c.alone.grows.grows parting));
      order = bad-order g limit kinds s.lines s.last s.old.history s.old.held s.played;
      first = given-first left rest (s.lines ++ s.last ∷ []) s.read;
    }

pub stops-leave : (ended : Result ReplayEnd Stop) (seat : Seated) (g : Setting) (limit : ℕ) (kinds : List Kind) (h : List Entry) (held : ℕ → HeldClient) (left rest : Inlet) → IsNoLoss ended → Stops ended seat → HasStopped g limit kinds ended (moment h held) left rest → BeginsToLeave g limit kinds h held left rest
stops-leave (Ok end.Over) seat g limit kinds h held left rest none why s = moment-leaves g limit kinds s.lines h held left rest s.played.moment s.played.order (given-first left rest s.lines s.read)
stops-leave (Ok end.Ended) seat g limit kinds h held left rest none why s = moment-leaves g limit kinds s.lines h held left rest s.played.moment s.played.order (all-first left rest s.lines s.read)
stops-leave (Ok end.BadClient) seat g limit kinds h held left rest none why s =
    moment-leaves g limit kinds (s.lines ++ s.last ∷ []) h held left rest (moment-bad g kinds s.lines s.last h held s.played.moment s.bad) (bad-order g limit kinds s.lines s.last h held s.played) (given-first left rest (s.lines ++ s.last ∷ []) s.read)
stops-leave (Ok end.ReadFault) seat g limit kinds h held left rest none why s = moment-leaves g limit kinds s.lines h held left rest s.played.moment s.played.order (whole-first left rest s.read.0 s.lines s.read.1)
stops-leave (Ok end.Full) seat g limit kinds h held left rest none why s = moment-leaves g limit kinds s.lines h held left rest s.played.moment s.played.order (whole-first left rest MAX_INPUT s.lines s.read)
stops-leave (Err HistoryFull) seat g limit kinds h held left rest none why (inl s) = let no : HistoryFull ≡ NoMemory = s.0 in cc
stops-leave (Err HistoryFull) seat g limit kinds h held left rest none why (inr s) = cut-leaves g limit kinds h held left rest s
stops-leave (Err (Broken at)) seat g limit kinds h held left rest none why s = absurd none
stops-leave (Err NoMemory) seat g limit kinds h held left rest none why s = absurd none
stops-leave (Err WriteFault) seat g limit kinds h held left rest none why s = absurd why

pub leaves-may : (g : Setting) (limit count now : ℕ) (kinds : List Kind) (h : List Entry) (held : ℕ → HeldClient) (left rest : Inlet) → length kinds ≡ count → now ≡ count → BeginsToLeave g limit kinds h held left rest → MayLeave g now (moment h held)
leaves-may g limit count now kinds h held left rest many same b = record { kinds = kinds; hows = b.hows; lines = b.lines; many = many ∙ sym same; parting = b.leaving.parting }

-- it was replayed, and the reports are held
done-played : (by : ReplayEnd) (g : Setting) (limit : ℕ) (kinds : List Kind) (hows : ℕ → How) (lines : List (List ℕ)) (h : List Entry) (held : ℕ → HeldClient) (left rest : Inlet) → (c : Concludes g kinds hows lines h held) → Done (replay_of g limit lines h c.shown) by left rest → WasPlayed g limit kinds (Ok by) (moment h held) left rest
done-played by g limit kinds hows lines h held left rest c d = record { bytes = d.bytes; takes = d.takes; few = d.few; lines = lines; shown = c.shown; kinds_are = c.kinds_are; replayed = d.replayed; reports = c.reports; boxes = c.boxes }

abbrev hows-of : (ℕ → HeldClient) → ℕ → How
hows-of held who = how_at (held who).place

-- what is known where all left behind a moment
left-all : (g : Setting) (kinds : List Kind) (lines : List (List ℕ)) (before h : List Entry) (held held' : ℕ → HeldClient) → (l : AreLeaving g kinds (hows-of held) (length kinds) lines before (moment h held')) → Concludes g kinds (hows-of held) lines (before ++ l.rest) held'
left-all g kinds lines before h held held' l =
    conclude g kinds (hows-of held) lines (before ++ l.rest) held' (λ who inside. how-ends (held who).place) (subst (λ q. AreParting g kinds (hows-of held) (length kinds) lines (moment q held')) l.split l.parting)

over-played : (g : Setting) (limit : ℕ) (kinds : List Kind) (lines : List (List ℕ)) (h h' : List Entry) (held held' : ℕ → HeldClient) (left rest : Inlet) → HasPlayed g limit kinds lines true (moment h held) → HasGivenLines left rest lines → AreLeaving g kinds (hows-of held) (length kinds) lines h (moment h' held') → WasPlayed g limit kinds (Ok end.Over) (moment h' held') left rest
over-played g limit kinds lines h h' held held' left rest p r l =
    let c = left-all g kinds lines h h' held held' l in
    subst (λ q. WasPlayed g limit kinds (Ok end.Over) (moment q held') left rest) (sym l.split)
    (done-played end.Over g limit kinds (hows-of held) lines (h ++ l.rest) held' left rest c
    (replayed-over g limit kinds lines (h ++ l.rest) held' held left rest c (order-later g limit (length kinds) lines h l.rest p.order) (moment-stops g limit kinds lines lines h l.rest held true p.moment p.good p.over_is l.in_order) r))

ended-played : (g : Setting) (limit : ℕ) (kinds : List Kind) (lines : List (List ℕ)) (h h' : List Entry) (held held' : ℕ → HeldClient) (left rest : Inlet) → HasPlayed g limit kinds lines false (moment h held) → HasAllLines left rest lines → AreLeaving g kinds (hows-of held) (length kinds) lines h (moment h' held') → WasPlayed g limit kinds (Ok end.Ended) (moment h' held') left rest
ended-played g limit kinds lines h h' held held' left rest p r l =
    let c = left-all g kinds lines h h' held held' l in
    subst (λ q. WasPlayed g limit kinds (Ok end.Ended) (moment q held') left rest) (sym l.split)
    (done-played end.Ended g limit kinds (hows-of held) lines (h ++ l.rest) held' left rest c
    (replayed-ended g limit kinds lines (h ++ l.rest) held' held left rest c (order-later g limit (length kinds) lines h l.rest p.order) (moment-stops g limit kinds lines lines h l.rest held false p.moment p.good p.over_is l.in_order) r))

failed-played : (g : Setting) (limit : ℕ) (kinds : List Kind) (lines : List (List ℕ)) (h h' : List Entry) (held held' : ℕ → HeldClient) (left rest : Inlet) (taken : ℕ) → HasPlayed g limit kinds lines false (moment h held) → HasWholeLines left rest taken lines → AreLeaving g kinds (hows-of held) (length kinds) lines h (moment h' held') → WasPlayed g limit kinds (Ok end.ReadFault) (moment h' held') left rest
failed-played g limit kinds lines h h' held held' left rest taken p r l =
    let c = left-all g kinds lines h h' held held' l in
    subst (λ q. WasPlayed g limit kinds (Ok end.ReadFault) (moment q held') left rest) (sym l.split)
    (done-played end.ReadFault g limit kinds (hows-of held) lines (h ++ l.rest) held' left rest c
    (replayed-failed g limit kinds lines (h ++ l.rest) held' held left rest taken c (order-later g limit (length kinds) lines h l.rest p.order) (moment-stops g limit kinds lines lines h l.rest held false p.moment p.good p.over_is l.in_order) r))

full-played : (g : Setting) (limit : ℕ) (kinds : List Kind) (lines : List (List ℕ)) (h h' : List Entry) (held held' : ℕ → HeldClient) (left rest : Inlet) → HasPlayed g limit kinds lines false (moment h held) → HasWholeLines left rest MAX_INPUT lines → AreLeaving g kinds (hows-of held) (length kinds) lines h (moment h' held') → WasPlayed g limit kinds (Ok end.Full) (moment h' held') left rest
full-played g limit kinds lines h h' held held' left rest p r l =
    let c = left-all g kinds lines h h' held held' l in
    subst (λ q. WasPlayed g limit kinds (Ok end.Full) (moment q held') left rest) (sym l.split)
    (done-played end.Full g limit kinds (hows-of held) lines (h ++ l.rest) held' left rest c
    (replayed-full g limit kinds lines (h ++ l.rest) held' held left rest c (order-later g limit (length kinds) lines h l.rest p.order) (moment-stops g limit kinds lines lines h l.rest held false p.moment p.good p.over_is l.in_order) r))

bad-played : (g : Setting) (limit : ℕ) (kinds : List Kind) (lines : List (List ℕ)) (w : List ℕ) (h h' : List Entry) (held held' : ℕ → HeldClient) (left rest : Inlet) → written (length kinds) w ≡ Bad → HasPlayed g limit kinds lines false (moment h held) → HasGivenLines left rest (lines ++ w ∷ []) → AreLeaving g kinds (hows-of held) (length kinds) (lines ++ w ∷ []) h (moment h' held') → WasPlayed g limit kinds (Ok end.BadClient) (moment h' held') left rest
bad-played g limit kinds lines w h h' held held' left rest bad p r l =
    let c = left-all g kinds (lines ++ w ∷ []) h h' held held' l in
    subst (λ q. WasPlayed g limit kinds (Ok end.BadClient) (moment q held') left rest) (sym l.split)
    (done-played end.BadClient g limit kinds (hows-of held) (lines ++ w ∷ []) (h ++ l.rest) held' left rest c
    (replayed-bad g limit kinds lines w (h ++ l.rest) held' held left rest c bad (order-behind g limit kinds lines w h l.rest held p) (moment-stops g limit kinds (lines ++ w ∷ []) lines h l.rest held false p.moment p.good p.over_is l.in_order) r))

-- where an event was refused
cancel : {A : Type 0} (a b c : List A) → a ++ b ≡ a ++ c → b ≡ c
cancel [] b c e = e
cancel (x ∷ a) b c e = cancel a b c (cc)

cut-played : (g : Setting) (limit : ℕ) (kinds : List Kind) (h h' : List Entry) (held held' : ℕ → HeldClient) (left rest : Inlet) → (s : WasCutOff g limit kinds (moment h held) left rest HistoryFull) → limit ≤ length h → Begins h' h
    → AreLeaving g kinds (hows_at s.cut.who s.old.held) (length kinds) (s.lines ++ s.last ∷ []) s.old.history (moment h' held') → WasPlayed g limit kinds (Err HistoryFull) (moment h' held') left rest
cut-played g limit kinds h h' held held' left rest s full behind l = subst (λ q. WasPlayed g limit kinds (Err HistoryFull) (moment q held') left rest) (sym (l.split ∙ ap (λ q. s.old.history ++ q) rest-is)) played
  where
    c : IsPlayCutOff g HistoryFull kinds s.lines s.last s.old (moment h held)
    c = s.cut

    rest-is : l.rest ≡ c.alone.grows.more ++ behind.0
    rest-is = cancel s.old.history l.rest (c.alone.grows.more ++ behind.0) (sym l.split ∙ behind.1 ∙ ap (λ q. q ++ behind.0) c.alone.grows.grows ∙ append_assoc s.old.history c.alone.grows.more behind.0)

    got : GotTo g Short c.who h (lines_for (length kinds) c.who s.lines ++ c.line ∷ []) (json_lines c.stopped.shown.told)
    got = (refused-stands g (held c.who).place c.who h (lines_for (length kinds) c.who s.lines ++ c.line ∷ []) (json_lines c.stopped.shown.told) (some-line (lines_for (length kinds) c.who s.lines) c.line) c.stopped.gets).1

    concludes : Concludes g kinds (hows_at c.who s.old.held) (s.lines ++ s.last ∷ []) (s.old.history ++ (c.alone.grows.more ++ behind.0)) held'
    concludes = conclude g kinds (hows_at c.who s.old.held) (s.lines ++ s.last ∷ []) (s.old.history ++ (c.alone.grows.more ++ behind.0)) held' (λ who inside. hows-end c.who s.old.held who)
        (subst (λ q. AreParting g kinds (hows_at c.who s.old.held) (length kinds) (s.lines ++ s.last ∷ []) (moment q held')) (l.split ∙ ap (λ q. s.old.history ++ q) rest-is) l.parting)

    stopped : Stopped g limit (s.lines ++ s.last ∷ []) (s.old.history ++ (c.alone.grows.more ++ behind.0)) concludes.shown HistoryFull left rest
    stopped = replayed-refused g limit kinds s.lines s.last c.line c.who s.old.history c.alone.grows.more behind.0 s.old.held held' left rest s.played c.is c.inside (grew-no_leave g c.who s.old.history h _ _ c.alone.grows got)
        (subst (λ q. limit ≤ length q) c.alone.grows.grows full) (subst (λ q. leave_in_order q ≡ true) rest-is l.in_order) concludes s.read

    played : WasPlayed g limit kinds (Err HistoryFull) (moment (s.old.history ++ (c.alone.grows.more ++ behind.0)) held') left rest
    played = record { bytes = stopped.bytes; takes = stopped.takes; few = stopped.few; lines = s.lines ++ s.last ∷ []; shown = concludes.shown; kinds_are = concludes.kinds_are; replayed = stopped.replayed; reports = concludes.reports; boxes = concludes.boxes }

-- all left, where nothing was lost
pub all-played : (ended : Result ReplayEnd Stop) (seat : Seated) (g : Setting) (limit : ℕ) (kinds : List Kind) (h h' : List Entry) (held held' : ℕ → HeldClient) (left rest : Inlet) → (none : IsNoLoss ended) → (why : Stops ended seat) → (s : HasStopped g limit kinds ended (moment h held) left rest) → seat.limit ≡ limit → seat.seen ≡ h → Begins h' h
    → (let b = stops-leave ended seat g limit kinds h held left rest none why s in AreLeaving g kinds b.hows (length kinds) b.lines b.before (moment h' held')) → WasPlayed g limit kinds ended (moment h' held') left rest
unfolding stops-leave moment-leaves cut-leaves
all-played (Ok end.Over) seat g limit kinds h h' held held' left rest none why s at seen behind l = over-played g limit kinds s.lines h h' held held' left rest s.played s.read l
all-played (Ok end.Ended) seat g limit kinds h h' held held' left rest none why s at seen behind l = ended-played g limit kinds s.lines h h' held held' left rest s.played s.read l
all-played (Ok end.BadClient) seat g limit kinds h h' held held' left rest none why s at seen behind l = bad-played g limit kinds s.lines s.last h h' held held' left rest s.bad s.played s.read l
all-played (Ok end.ReadFault) seat g limit kinds h h' held held' left rest none why s at seen behind l = failed-played g limit kinds s.lines h h' held held' left rest s.read.0 s.played s.read.1 l
all-played (Ok end.Full) seat g limit kinds h h' held held' left rest none why s at seen behind l = full-played g limit kinds s.lines h h' held held' left rest s.played s.read l
all-played (Err HistoryFull) seat g limit kinds h h' held held' left rest none why (inl s) at seen behind l = let no : HistoryFull ≡ NoMemory = s.0 in cc
all-played (Err HistoryFull) seat g limit kinds h h' held held' left rest none why (inr s) at seen behind l = cut-played g limit kinds h h' held held' left rest s (omega (arith, why, at, ap length seen)) behind l
all-played (Err (Broken at)) seat g limit kinds h h' held held' left rest none why s same seen behind l = absurd none
all-played (Err NoMemory) seat g limit kinds h h' held held' left rest none why s at seen behind l = absurd none
all-played (Err WriteFault) seat g limit kinds h h' held held' left rest none why s at seen behind l = absurd why

-- something was lost
losing-played : (why : Stop) (g : Setting) (limit : ℕ) (kinds : List Kind) (lines : List (List ℕ)) (h : List Entry) (held : ℕ → HeldClient) (left rest : Inlet) → IsLossFor why → IsLosing g limit kinds lines h why left rest → WasPlayed g limit kinds (Err why) (moment h held) left rest
losing-played (Broken at) g limit kinds lines h held left rest loss s = record { bytes = s.stopped.bytes; takes = s.stopped.takes; few = s.stopped.few; lines = lines; shown = s.shown; kinds_are = s.kinds_are; replayed = s.stopped.replayed; reports = tt; boxes = tt }
losing-played NoMemory g limit kinds lines h held left rest loss s = record { bytes = s.stopped.bytes; takes = s.stopped.takes; few = s.stopped.few; lines = lines; shown = s.shown; kinds_are = s.kinds_are; replayed = s.stopped.replayed; reports = tt; boxes = tt }
losing-played HistoryFull g limit kinds lines h held left rest loss s = absurd loss
losing-played WriteFault g limit kinds lines h held left rest loss s = absurd loss

cut-lost : (why : Stop) (g : Setting) (limit : ℕ) (kinds : List Kind) (h : List Entry) (held : ℕ → HeldClient) (left rest : Inlet) → IsLossFor why → WasCutOff g limit kinds (moment h held) left rest why → WasPlayed g limit kinds (Err why) (moment h held) left rest
cut-lost why g limit kinds h held left rest loss s =
    let c : IsPlayCutOff g why kinds s.lines s.last s.old (moment h held) = s.cut in
    let mine : StandsAt WasLost g c.who h (lines_for (length kinds) c.who (s.lines ++ s.last ∷ [])) (json_lines c.stopped.shown.told) =
    subst (λ q. StandsAt WasLost g c.who h q (json_lines c.stopped.shown.told)) (line-some g kinds c.who s.lines s.last c.line c.is)
    (lost-stands why g (held c.who).place c.who h (lines_for (length kinds) c.who s.lines ++ c.line ∷ []) (json_lines c.stopped.shown.told) loss (some-line (lines_for (length kinds) c.who s.lines) c.line) c.stopped.gets) in
    losing-played why g limit kinds (s.lines ++ s.last ∷ []) h held left rest loss
    (replayed-lost why g limit kinds (s.lines ++ s.last ∷ []) h left rest loss (order-grew g limit kinds s.lines s.last c.who s.old.history h s.old.held s.played c.alone.grows)
    (line-lost g kinds c.who s.lines s.last c.line s.old.history h s.old.held c.stopped.shown s.played.moment c.alone.grows c.is c.stopped.kind_is mine)
    (λ other past. still-strange g c.who other s.old.history h c.alone.grows (apart (length kinds) c.who other past c.inside) (s.played.moment.strangers other past))
    (given-first left rest (s.lines ++ s.last ∷ []) s.read))

pub lost-early : (ended : Result ReplayEnd Stop) (g : Setting) (limit : ℕ) (kinds : List Kind) (h : List Entry) (held : ℕ → HeldClient) (left rest : Inlet) → IsLossOf ended → HasStopped g limit kinds ended (moment h held) left rest → WasPlayed g limit kinds ended (moment h held) left rest
lost-early (Err NoMemory) g limit kinds h held left rest loss (inl s) =
    losing-played NoMemory g limit kinds s.1.lines h held left rest tt (replayed-lost NoMemory g limit kinds s.1.lines h left rest tt s.1.played.order (moment-lost g kinds s.1.lines h held s.1.played.moment) s.1.played.moment.strangers s.1.read)
lost-early (Err NoMemory) g limit kinds h held left rest loss (inr s) = cut-lost NoMemory g limit kinds h held left rest tt s
lost-early (Err (Broken at)) g limit kinds h held left rest loss (inl s) = let no : Broken at ≡ NoMemory = s.0 in cc
lost-early (Err (Broken at)) g limit kinds h held left rest loss (inr s) = cut-lost (Broken at) g limit kinds h held left rest tt s
lost-early (Err HistoryFull) g limit kinds h held left rest loss s = absurd loss
lost-early (Err WriteFault) g limit kinds h held left rest loss s = absurd loss
lost-early (Ok by) g limit kinds h held left rest loss s = absurd loss

-- and where it was lost as clients left
pub lost-leaving : (why : Stop) (g : Setting) (limit : ℕ) (kinds : List Kind) (h h' : List Entry) (held held' : ℕ → HeldClient) (left rest : Inlet) → (b : BeginsToLeave g limit kinds h held left rest) → IsLostLeaving g kinds b.lines b.before h' why → WasPlayed g limit kinds (Err why) (moment h' held') left rest
lost-leaving why g limit kinds h h' held held' left rest b l =
    losing-played why g limit kinds b.lines h' held' left rest l.loss
    (replayed-lost why g limit kinds b.lines h' left rest l.loss (subst (λ q. ArePlayedInOrder g limit (length kinds) b.lines q) (sym l.grows.1) (order-later g limit (length kinds) b.lines b.before l.grows.0 b.order)) l.lost l.strangers b.first)

-- a fault that was met is told, or something was lost behind it
pub fault-behind : (ended : Result ReplayEnd Stop) (why : Stop) (left rest : Inlet) → IsLossFor why → ReplayFaultIs ended left rest → ReplayFaultIs (Err why) left rest
fault-behind ended why left rest loss f = by why loss (met ended f)
  where
    met : (r : Result ReplayEnd Stop) → ReplayFaultIs r left rest → (rest.faults ≡ left.faults) ⊎ Rose left.faults rest.faults
    met (Ok end.Over) f = inl f
    met (Ok end.Ended) f = inl f
    met (Ok end.BadClient) f = inl f
    met (Ok end.ReadFault) f = inr f
    met (Ok end.Full) f = inl f
    met (Err HistoryFull) f = inl f
    met (Err (Broken at)) f = f
    met (Err NoMemory) f = f
    met (Err WriteFault) f = inl f

    by : (why : Stop) → IsLossFor why → (rest.faults ≡ left.faults) ⊎ Rose left.faults rest.faults → ReplayFaultIs (Err why) left rest
    by (Broken at) loss m = m
    by NoMemory loss m = m
    by HistoryFull loss m = absurd loss
    by WriteFault loss m = absurd loss

-- the reason of a stop stands behind the leaving of all
stops-behind : (ended : Result ReplayEnd Stop) (seat seat' : Seated) → IsNoLoss ended → Stops ended seat → seat'.limit ≡ seat.limit → Begins seat'.seen seat.seen → Stops ended seat'
stops-behind (Ok by) seat seat' none s same b = tt
stops-behind (Err HistoryFull) seat seat' none s same b = omega (arith, s, same, ap length b.1, length-append seat.seen b.0)
stops-behind (Err (Broken at)) seat seat' none s same b = absurd none
stops-behind (Err NoMemory) seat seat' none s same b = absurd none
stops-behind (Err WriteFault) seat seat' none s same b = absurd s

-- the session stays whole behind the leaving of all
whole-behind : (ended : Result ReplayEnd Stop) (x y z : Option ℕ) → StaysWhole ended x y → IsWholeStill y z → StaysWhole ended x z
whole-behind (Ok by) x y z f k = λ none. k (f none)
whole-behind (Err HistoryFull) x y z f k = λ none. k (f none)
whole-behind (Err (Broken at)) x y z f k = tt
whole-behind (Err NoMemory) x y z f k = tt
whole-behind (Err WriteFault) x y z f k = λ none. k (f none)

pub whole-lost : (why : Stop) (x z : Option ℕ) → IsLossFor why → StaysWholeFor why x z
whole-lost (Broken at) x z loss = tt
whole-lost NoMemory x z loss = tt
whole-lost HistoryFull x z loss = absurd loss
whole-lost WriteFault x z loss = absurd loss

pub still-behind : {S U K A : Type 0} {seated : S → Seated} {kept : S → K} {x y z : Players S U} (ended : Result ReplayEnd Stop) (done : A) → IsNoLoss ended → Begins (seated z.seats).seen (seated y.seats).seen
    → ArePlayersStill seated kept ended x y → ArePlayersStill seated kept (Ok done) y z → ArePlayersStill seated kept ended x z
still-behind {seated = seated} {y = y} {z = z} ended done none grows s t = record {
  session = record {
    kept_is = t.session.kept_is ∙ s.session.kept_is;
    limit = t.session.limit ∙ s.session.limit;
    legal = t.session.legal;
    whole = whole-behind ended _ _ _ s.session.whole t.session.whole;
  };
  count = t.count ∙ s.count;
  stops = stops-behind ended (seated y.seats) (seated z.seats) none s.stops t.session.limit grows;
}

pub still-lost : {S U K A B : Type 0} {seated : S → Seated} {kept : S → K} {x y z : Players S U} (ended : Result A Stop) (why : Stop) → ArePlayersStill seated kept ended x y → ArePlayersStill {A = B} seated kept (Err why) y z
    → StaysWholeFor why (seated x.seats).mark (seated z.seats).mark → ArePlayersStill {A = ReplayEnd} seated kept (Err why) x z
still-lost ended why s t whole = record {
  session = record { kept_is = t.session.kept_is ∙ s.session.kept_is; limit = t.session.limit ∙ s.session.limit; legal = t.session.legal; whole = whole };
  count = t.count ∙ s.count;
  stops = t.stops;
}

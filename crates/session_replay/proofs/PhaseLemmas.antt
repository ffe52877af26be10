-- How the playing of a replay's lines goes on, and where it ends.
use Rattle.std.proofs.Common.{◌≡◌, ◌≢◌, ℕ, ◌<◌, ◌⊎◌, inl, inr, Bool, true, false, List, [], ◌∷◌, ◌++◌, length, Ok, Err, refl, sym, ap, ◌∙◌, subst}
use Rattle.std.specs.Prelude.{get_or, Some, None}
use Rattle.std.specs.declared.option.Option.{Option}
use Rattle.kak_ports.specs.Ports.{Inlet, Rose}
use Rattle.ui_board.specs.declared.ui.Kind.{Kind}
use Rattle.ui_board.specs.declared.ui.Kind.TheVariants.{Silent}
use Rattle.ui_board.specs.Told.{json_lines}
use Rattle.line_reading.specs.declared.reader.NextLine.TheVariants as next
use Rattle.line_reading.specs.Reading.{Reading, ReadsCounted}
use Rattle.session_turns.specs.Growth.{Begins, Over}
use Rattle.session_events.specs.declared.event.Entry.{Entry}
use Rattle.session_lines.specs.declared.playing.Stop.{Stop}
use Rattle.session_lines.specs.declared.playing.Stop.TheVariants.{HistoryFull, Broken, NoMemory, WriteFault}
use Rattle.session_replay.specs.Settings.{Setting}
use Rattle.session_replay.specs.declared.ends.ReplayEnd.{ReplayEnd}
use Rattle.session_replay.specs.declared.ends.ReplayEnd.TheVariants as end
use Rattle.session_replay.specs.declared.places.ClientPlace.TheVariants as place
use Rattle.session_replay.specs.declared.players.Taken.{Taken}
use Rattle.session_replay.specs.declared.players.Taken.TheVariants as taken
use Rattle.session_replay.specs.Written.{Bad, written, lines_for}
use Rattle.session_replay.specs.Clients.{ClientStands, HeldClient, IsClient, IsMoment, Moment, moment}
use Rattle.session_replay.specs.Players.{IsHeldStill, IsPlayed, IsPlayCutOff, SomeIsAt, TakesWritten, AreSomewhere}
use Rattle.session_replay.specs.Phases.{HasGivenLines, ArePlayedInOrder, HasPlayed, PlaysOn, AllPlayed, HasStopped}
use Rattle.session_replay.specs.Replays.{is_over, ReplayFaultIs}
use Rattle.session_replay.proofs.OverLemmas.{here-not-over, gone-over}
use Rattle.session_replay.proofs.GivenLemmas.{HasRead, begin-reading, line-read, line-given, last-given, last-all, ended-all, fault-whole, full-whole, none-first}
use Rattle.session_replay.proofs.HeadlineLemmas.{nothing-played, order-behind, line-played, bad-more}

-- a replay isn't over behind a moment at which somebody is here
some-here : (g : Setting) (kinds : List Kind) (lines : List (List ℕ)) (h : List Entry) (held : ℕ → HeldClient) → IsMoment g kinds lines (moment h held) → SomeIsAt place.Here (length kinds) held → is_over h ≡ false
some-here g kinds lines h held m some =
    let c = m.clients some.0 some.1 in
    let stands : ClientStands g place.Here some.0 h (lines_for (length kinds) some.0 lines) (json_lines c.shown.told) =
    subst (λ p. ClientStands g p some.0 h (lines_for (length kinds) some.0 lines) (json_lines c.shown.told)) some.2 c.stands in
    here-not-over g some.0 h stands.0

-- one more line was played
played-more : (g : Setting) (limit : ℕ) (kinds : List Kind) (lines : List (List ℕ)) (w : List ℕ) (old new : List Entry) (before now : ℕ → HeldClient) → HasPlayed g limit kinds lines false (moment old before) → IsPlayed g kinds lines w old (moment new now) → is_over new ≡ false → HasPlayed g limit kinds (lines ++ w ∷ []) false (moment new now)
played-more g limit kinds lines w old new before now p q over =
    let more : List Entry = q.grows.0 in
    let e : new ≡ old ++ more = q.grows.1 in
    subst (λ h. HasPlayed g limit kinds (lines ++ w ∷ []) false (moment h now)) (sym e)
    (line-played g limit kinds lines w old more before now p (subst (λ h. IsMoment g kinds (lines ++ w ∷ []) (moment h now)) e q.moment) q.good (subst (λ h. is_over h ≡ false) e over))

-- what was taken of a line, as the answer says
taken-as : (g : Setting) (kinds : List Kind) (lines : List (List ℕ)) (w : List ℕ) (old new : List Entry) (before now : ℕ → HeldClient) (t u : Taken) → t ≡ u → TakesWritten g kinds lines w (Ok t) (moment old before) (moment new now) → TakesWritten g kinds lines w (Ok u) (moment old before) (moment new now)
taken-as g kinds lines w old new before now t u e k = subst (λ q. TakesWritten g kinds lines w (Ok q) (moment old before) (moment new now)) e k

pub plays-stayed : (g : Setting) (limit : ℕ) (kinds : List Kind) (lines : List (List ℕ)) (w : List ℕ) (old new : List Entry) (before now : ℕ → HeldClient) (t : Taken) → t ≡ taken.Stayed → HasPlayed g limit kinds lines false (moment old before) → TakesWritten g kinds lines w (Ok t) (moment old before) (moment new now)
    → HasPlayed g limit kinds (lines ++ w ∷ []) false (moment new now)
plays-stayed g limit kinds lines w old new before now t e p k = by (taken-as g kinds lines w old new before now t taken.Stayed e k)
  where
    by : IsPlayed g kinds lines w old (moment new now) × (SomeIsAt place.Here (length kinds) now ⊎ (new ≡ old)) → HasPlayed g limit kinds (lines ++ w ∷ []) false (moment new now)
    by (q, inl some) = played-more g limit kinds lines w old new before now p q (some-here g kinds (lines ++ w ∷ []) new now q.moment some)
    by (q, inr same) = played-more g limit kinds lines w old new before now p q (ap is_over same ∙ p.over_is)

-- a client left by the line, and another is here still
pub plays-left : (g : Setting) (limit count : ℕ) (kinds : List Kind) (lines : List (List ℕ)) (w : List ℕ) (old new : List Entry) (before now : ℕ → HeldClient) (t : Taken) → t ≡ taken.Left → length kinds ≡ count → HasPlayed g limit kinds lines false (moment old before) → TakesWritten g kinds lines w (Ok t) (moment old before) (moment new now)
    → SomeIsAt place.Here count now → HasPlayed g limit kinds (lines ++ w ∷ []) false (moment new now)
plays-left g limit count kinds lines w old new before now t e many p k some =
    let q : IsPlayed g kinds lines w old (moment new now) = (taken-as g kinds lines w old new before now t taken.Left e k).0 in
    played-more g limit kinds lines w old new before now p q (some-here g kinds (lines ++ w ∷ []) new now q.moment (subst (λ n. SomeIsAt place.Here n now) (sym many) some))

-- or none is, and the replay is over
pub plays-over : (g : Setting) (limit count : ℕ) (kinds : List Kind) (lines : List (List ℕ)) (w : List ℕ) (old new : List Entry) (before now : ℕ → HeldClient) (t : Taken) → t ≡ taken.Left → length kinds ≡ count → HasPlayed g limit kinds lines false (moment old before) → TakesWritten g kinds lines w (Ok t) (moment old before) (moment new now)
    → ((who : ℕ) → who < count → (now who).place ≢ place.Here) → HasPlayed g limit kinds (lines ++ w ∷ []) true (moment new now)
plays-over g limit count kinds lines w old new before now t e many p k nobody =
    let left = taken-as g kinds lines w old new before now t taken.Left e k in
    let q : IsPlayed g kinds lines w old (moment new now) = left.0 in
    let who : ℕ = left.1.0 in
    let c = q.moment.clients who left.1.1 in
    let gone : ClientStands g place.Gone who new (lines_for (length kinds) who (lines ++ w ∷ [])) (json_lines c.shown.told) =
    subst (λ a. ClientStands g a who new (lines_for (length kinds) who (lines ++ w ∷ [])) (json_lines c.shown.told)) left.1.2 c.stands in
    record {
      moment = q.moment;
      good = bad-more (length kinds) lines w p.good q.good;
      over_is = gone-over g kinds who (lines ++ w ∷ []) (lines_for (length kinds) who (lines ++ w ∷ [])) (json_lines c.shown.told) new now Over q.moment
          (λ other inside. nobody other (subst (λ n. other < n) many inside)) gone.1;
      order = subst (λ h. ArePlayedInOrder g limit (length kinds) (lines ++ w ∷ []) h) (sym q.grows.1) (order-behind g limit kinds lines w old q.grows.0 before p);
    }

-- where nothing was played, all stands as it stood
moment-still : (g : Setting) (kinds : List Kind) (lines : List (List ℕ)) (old new : List Entry) (before now : ℕ → HeldClient) → new ≡ old → IsHeldStill before now → IsMoment g kinds lines (moment old before) → IsMoment g kinds lines (moment new now)
moment-still g kinds lines old new before now e same m = subst (λ h. IsMoment g kinds lines (moment h now)) (sym e) (record {
  clients = λ who inside. subst (λ q. IsClient g (get_or kinds who Silent) who old (lines_for (length kinds) who lines) q) (sym (same who)) (m.clients who inside);
  strangers = m.strangers;
})

pub plays-bad : (g : Setting) (limit : ℕ) (kinds : List Kind) (lines : List (List ℕ)) (w : List ℕ) (old new : List Entry) (before now : ℕ → HeldClient) (t : Taken) → t ≡ taken.Bad → HasPlayed g limit kinds lines false (moment old before) → TakesWritten g kinds lines w (Ok t) (moment old before) (moment new now)
    → (written (length kinds) w ≡ Bad) × HasPlayed g limit kinds lines false (moment new now)
plays-bad g limit kinds lines w old new before now t e p k =
    let bad = taken-as g kinds lines w old new before now t taken.Bad e k in
    let then : HasPlayed g limit kinds lines false (moment old now) = record { moment = moment-still g kinds lines old old before now refl bad.2 p.moment; good = p.good; over_is = p.over_is; order = p.order } in
    (bad.0, subst (λ h. HasPlayed g limit kinds lines false (moment h now)) (sym bad.1) then)

-- While lines are read and played: these were, and this was taken for them.
pub record AreReading (g : Setting) (limit : ℕ) (kinds : List Kind) (now : Moment) (left rest : Inlet) (reading : Reading) : Type 0 where
  pub lines : List (List ℕ)
  pub played : HasPlayed g limit kinds lines false now
  pub read : HasRead left rest reading.taken reading.pending lines

pub reading-begins : (g : Setting) (limit : ℕ) (kinds : List Kind) (h : List Entry) (held : ℕ → HeldClient) (left : Inlet) (reading : Reading) → h ≡ [] → IsMoment g kinds [] (moment h held) → reading.taken ≡ 0 → reading.pending ≡ [] → AreReading g limit kinds (moment h held) left left reading
reading-begins g limit kinds h held left reading e m none nothing = record {
  lines = [];
  played = subst (λ q. HasPlayed g limit kinds [] false (moment q held)) (sym e) (nothing-played g limit kinds held (subst (λ q. IsMoment g kinds [] (moment q held)) e m));
  read = begin-reading left reading none nothing;
}

pub reading-somewhere : (g : Setting) (limit count now : ℕ) (kinds : List Kind) (h : List Entry) (held : ℕ → HeldClient) (left rest : Inlet) (reading : Reading) → length kinds ≡ count → now ≡ count → AreReading g limit kinds (moment h held) left rest reading → AreSomewhere g now (moment h held)
reading-somewhere g limit count now kinds h held left rest reading many same r = record { kinds = kinds; lines = r.lines; many = many ∙ sym same; moment = r.played.moment }

-- memory was wanting for a line
pub next-lost : {E : Type 0} (e : E) (g : Setting) (limit : ℕ) (kinds : List Kind) (h : List Entry) (held : ℕ → HeldClient) (left rest more : Inlet) (was now : Reading) → more.most ≡ rest.most → ReadsCounted (Err e) was now rest more → AreReading g limit kinds (moment h held) left rest was → HasStopped g limit kinds (Err NoMemory) (moment h held) left more
next-lost e g limit kinds h held left rest more was now m r s = inl (refl, record { lines = s.lines; played = s.played; read = none-first e left rest more was now s.lines m r s.read })

-- a line was played
pub line-on : {E : Type 0} (g : Setting) (limit : ℕ) (kinds : List Kind) (old new : List Entry) (before held : ℕ → HeldClient) (left rest more : Inlet) (was now : Reading) (said : List ℕ) (o : Option ReplayEnd) → o ≡ None → said ≡ now.line → more.most ≡ rest.most → ReadsCounted {E = E} (Ok next.Line) was now rest more
    → (s : AreReading g limit kinds (moment old before) left rest was) → PlaysOn g limit kinds s.lines said (Ok o) (moment old before) (moment new held) → AreReading g limit kinds (moment new held) left more now
line-on g limit kinds old new before held left rest more was now said o f e m r s p = record {
  lines = s.lines ++ now.line ∷ [];
  played = subst (λ q. HasPlayed g limit kinds (s.lines ++ q ∷ []) false (moment new held)) e (subst (λ q. PlaysOn g limit kinds s.lines said (Ok q) (moment old before) (moment new held)) f p);
  read = line-read left rest more was now s.lines m r s.read;
}

-- a line by which the replay ends
ends-by : (ended : ReplayEnd) (g : Setting) (limit : ℕ) (kinds : List Kind) (lines : List (List ℕ)) (w : List ℕ) (old new : List Entry) (before held : ℕ → HeldClient) (left more : Inlet) → HasGivenLines left more (lines ++ w ∷ []) → PlaysOn g limit kinds lines w (Ok (Some ended)) (moment old before) (moment new held) → HasStopped g limit kinds (Ok ended) (moment new held) left more
ends-by end.Over g limit kinds lines w old new before held left more r p = record { lines = lines ++ w ∷ []; played = p; read = r }
ends-by end.BadClient g limit kinds lines w old new before held left more r p = record { lines = lines; last = w; bad = p.0; played = p.1; read = r }
ends-by end.Ended g limit kinds lines w old new before held left more r p = absurd p
ends-by end.ReadFault g limit kinds lines w old new before held left more r p = absurd p
ends-by end.Full g limit kinds lines w old new before held left more r p = absurd p

pub line-ends : {E : Type 0} (g : Setting) (limit : ℕ) (kinds : List Kind) (old new : List Entry) (before held : ℕ → HeldClient) (left rest more : Inlet) (was now : Reading) (said : List ℕ) (o : Option ReplayEnd) (ended : ReplayEnd) → o ≡ Some ended → said ≡ now.line → more.most ≡ rest.most → ReadsCounted {E = E} (Ok next.Line) was now rest more
    → (s : AreReading g limit kinds (moment old before) left rest was) → PlaysOn g limit kinds s.lines said (Ok o) (moment old before) (moment new held) → HasStopped g limit kinds (Ok ended) (moment new held) left more
line-ends g limit kinds old new before held left rest more was now said o ended f e m r s p =
    ends-by ended g limit kinds s.lines now.line old new before held left more (line-given left rest more was now s.lines m r s.read)
    (subst (λ q. PlaysOn g limit kinds s.lines q (Ok (Some ended)) (moment old before) (moment new held)) e (subst (λ q. PlaysOn g limit kinds s.lines said (Ok q) (moment old before) (moment new held)) f p))

pub line-stopped : {E : Type 0} (g : Setting) (limit : ℕ) (kinds : List Kind) (old new : List Entry) (before held : ℕ → HeldClient) (left rest more : Inlet) (was now : Reading) (said : List ℕ) (why : Stop) → said ≡ now.line → more.most ≡ rest.most → ReadsCounted {E = E} (Ok next.Line) was now rest more
    → (s : AreReading g limit kinds (moment old before) left rest was) → PlaysOn g limit kinds s.lines said (Err why) (moment old before) (moment new held) → HasStopped g limit kinds (Err why) (moment new held) left more
line-stopped g limit kinds old new before held left rest more was now said why e m r s p = inr (record {
  lines = s.lines;
  last = now.line;
  old = moment old before;
  played = s.played;
  cut = subst (λ q. IsPlayCutOff g why kinds s.lines q (moment old before) (moment new held)) e p;
  read = line-given left rest more was now s.lines m r s.read;
})

-- so it is for a last line, behind which the input has ended
pub last-ends : {E : Type 0} (g : Setting) (limit : ℕ) (kinds : List Kind) (old new : List Entry) (before held : ℕ → HeldClient) (left rest more : Inlet) (was now : Reading) (said : List ℕ) (o : Option ReplayEnd) (ended : ReplayEnd) → o ≡ Some ended → said ≡ now.line → more.most ≡ rest.most → ReadsCounted {E = E} (Ok next.Last) was now rest more
    → (s : AreReading g limit kinds (moment old before) left rest was) → PlaysOn g limit kinds s.lines said (Ok o) (moment old before) (moment new held) → HasStopped g limit kinds (Ok ended) (moment new held) left more
last-ends g limit kinds old new before held left rest more was now said o ended f e m r s p =
    ends-by ended g limit kinds s.lines now.line old new before held left more (last-given left rest more was now s.lines m r s.read)
    (subst (λ q. PlaysOn g limit kinds s.lines q (Ok (Some ended)) (moment old before) (moment new held)) e (subst (λ q. PlaysOn g limit kinds s.lines said (Ok q) (moment old before) (moment new held)) f p))

pub last-stopped : {E : Type 0} (g : Setting) (limit : ℕ) (kinds : List Kind) (old new : List Entry) (before held : ℕ → HeldClient) (left rest more : Inlet) (was now : Reading) (said : List ℕ) (why : Stop) → said ≡ now.line → more.most ≡ rest.most → ReadsCounted {E = E} (Ok next.Last) was now rest more
    → (s : AreReading g limit kinds (moment old before) left rest was) → PlaysOn g limit kinds s.lines said (Err why) (moment old before) (moment new held) → HasStopped g limit kinds (Err why) (moment new held) left more
last-stopped g limit kinds old new before held left rest more was now said why e m r s p = inr (record {
  lines = s.lines;
  last = now.line;
  old = moment old before;
  played = s.played;
  cut = subst (λ q. IsPlayCutOff g why kinds s.lines q (moment old before) (moment new held)) e p;
  read = last-given left rest more was now s.lines m r s.read;
})

pub last-on : {E : Type 0} (g : Setting) (limit : ℕ) (kinds : List Kind) (old new : List Entry) (before held : ℕ → HeldClient) (left rest more : Inlet) (was now : Reading) (said : List ℕ) (o : Option ReplayEnd) → o ≡ None → said ≡ now.line → more.most ≡ rest.most → ReadsCounted {E = E} (Ok next.Last) was now rest more
    → (s : AreReading g limit kinds (moment old before) left rest was) → PlaysOn g limit kinds s.lines said (Ok o) (moment old before) (moment new held) → HasStopped g limit kinds (Ok end.Ended) (moment new held) left more
last-on g limit kinds old new before held left rest more was now said o f e m r s p = record {
  lines = s.lines ++ now.line ∷ [];
  played = subst (λ q. HasPlayed g limit kinds (s.lines ++ q ∷ []) false (moment new held)) e (subst (λ q. PlaysOn g limit kinds s.lines said (Ok q) (moment old before) (moment new held)) f p);
  read = last-all left rest more was now s.lines m r s.read;
}

-- no line more was read
pub next-ended : {E : Type 0} (g : Setting) (limit : ℕ) (kinds : List Kind) (h : List Entry) (held : ℕ → HeldClient) (left rest more : Inlet) (was now : Reading) → more.most ≡ rest.most → ReadsCounted {E = E} (Ok next.Ended) was now rest more → AreReading g limit kinds (moment h held) left rest was → HasStopped g limit kinds (Ok end.Ended) (moment h held) left more
next-ended g limit kinds h held left rest more was now m r s = record { lines = s.lines; played = s.played; read = ended-all left rest more was now s.lines m r s.read }

pub next-failed : {E : Type 0} (g : Setting) (limit : ℕ) (kinds : List Kind) (h : List Entry) (held : ℕ → HeldClient) (left rest more : Inlet) (was now : Reading) → more.most ≡ rest.most → ReadsCounted {E = E} (Ok next.ReadFault) was now rest more → AreReading g limit kinds (moment h held) left rest was → HasStopped g limit kinds (Ok end.ReadFault) (moment h held) left more
next-failed g limit kinds h held left rest more was now m r s = record { lines = s.lines; played = s.played; read = (now.taken, fault-whole left rest more was now s.lines m r s.read) }

pub next-full : {E : Type 0} (g : Setting) (limit : ℕ) (kinds : List Kind) (h : List Entry) (held : ℕ → HeldClient) (left rest more : Inlet) (was now : Reading) → more.most ≡ rest.most → ReadsCounted {E = E} (Ok next.Full) was now rest more → AreReading g limit kinds (moment h held) left rest was → HasStopped g limit kinds (Ok end.Full) (moment h held) left more
next-full g limit kinds h held left rest more was now m r s = record { lines = s.lines; played = s.played; read = full-whole left rest more was now s.lines m r s.read }

-- where playing stopped, no read fault was met
pub fault-none : (why : Stop) (left rest : Inlet) → rest.faults ≡ left.faults → ReplayFaultIs (Err why) left rest
fault-none HistoryFull left rest e = e
fault-none (Broken at) left rest e = inl e
fault-none NoMemory left rest e = inl e
fault-none WriteFault left rest e = e

fault-ended : (ended : ReplayEnd) (g : Setting) (limit : ℕ) (kinds : List Kind) (lines : List (List ℕ)) (w : List ℕ) (old new : List Entry) (before held : ℕ → HeldClient) (left rest : Inlet) → PlaysOn g limit kinds lines w (Ok (Some ended)) (moment old before) (moment new held) → rest.faults ≡ left.faults → ReplayFaultIs (Ok ended) left rest
fault-ended end.Over g limit kinds lines w old new before held left rest p e = e
fault-ended end.BadClient g limit kinds lines w old new before held left rest p e = e
fault-ended end.Ended g limit kinds lines w old new before held left rest p e = e
fault-ended end.ReadFault g limit kinds lines w old new before held left rest p e = absurd p
fault-ended end.Full g limit kinds lines w old new before held left rest p e = e

pub fault-by : (o : Option ReplayEnd) (ended : ReplayEnd) (g : Setting) (limit : ℕ) (kinds : List Kind) (lines : List (List ℕ)) (w : List ℕ) (old new : List Entry) (before held : ℕ → HeldClient) (left rest : Inlet) → o ≡ Some ended → PlaysOn g limit kinds lines w (Ok o) (moment old before) (moment new held) → rest.faults ≡ left.faults → ReplayFaultIs (Ok ended) left rest
fault-by o ended g limit kinds lines w old new before held left rest f p e = fault-ended ended g limit kinds lines w old new before held left rest (subst (λ q. PlaysOn g limit kinds lines w (Ok q) (moment old before) (moment new held)) f p) e

pub not-some : (o : Option ReplayEnd) → ((ended : ReplayEnd) → o ≡ Some ended → ⊥) → o ≡ None
not-some None none = refl
not-some (Some ended) none = absurd (none ended refl)

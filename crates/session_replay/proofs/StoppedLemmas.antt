-- From what was played to the statement for many clients, where playing stopped.
use Rattle.std.proofs.Common.{◌≡◌, ◌≢◌, ℕ, ◌<◌, ◌≤◌, ◌==◌, inl, inr, Bool, true, false, List, [], ◌∷◌, ◌++◌, length, map, Err, refl, sym, ap, ◌∙◌, subst, arith, append-nil, length-append}
use Rattle.std.specs.Prelude.{if◌then◌else◌, get_or}
use Rattle.std.specs.List.{list_any}
use Rattle.std.specs.Io.KnownBytes.{Consumes}
use Rattle.std.proofs.lemmas.Bool.{eqb-true, eqb-false, eq-eqb, ne_eqb}
use Rattle.std.proofs.lemmas.List.{length-map}
use Rattle.kak_ports.specs.Ports.{Inlet}
use Rattle.ui_board.specs.declared.ui.Kind.{Kind}
use Rattle.ui_board.specs.declared.ui.Kind.TheVariants.{Silent}
use Rattle.ui_board.specs.Told.{Shown, untold, json_lines}
use Rattle.line_reading.specs.declared.limits.TheConstants.{MAX_INPUT}
use Rattle.session_turns.specs.Histories.{own}
use Rattle.session_turns.specs.Growth.{How, Short}
use Rattle.session_turns.specs.Headline.{Lost as WasLost}
use Rattle.session_events.specs.declared.event.Entry.{Entry}
use Rattle.session_events.specs.Entries.{is_leave}
use Rattle.session_events.specs.Meaning.{rules}
use Rattle.session_lines.specs.declared.playing.Stop.{Stop}
use Rattle.session_lines.specs.declared.playing.Stop.TheVariants.{HistoryFull, Broken, NoMemory, WriteFault}
use Rattle.session_replay.specs.Settings.{Setting}
use Rattle.session_replay.specs.Written.{Of, written, lines_for}
use Rattle.session_replay.specs.Clients.{HeldClient, IsMoment, GrowsBy, moment}
use Rattle.session_replay.specs.Partings.{ends_as, how_at, AreParting}
use Rattle.session_replay.specs.Replays.{EndedAs, StandsAt, has_bad, leave_in_order, before_leavings, IsReplayed}
use Rattle.session_replay.proofs.ClientLemmas.{stands-others, lines-others}
use Rattle.session_replay.proofs.PartingLemmas.{last-others}
use Rattle.session_replay.proofs.LostLemmas.{stands-lost, last-lost}
use Rattle.session_replay.proofs.ReplayLemmas.{moment-reached, before-leavings}
use Rattle.session_replay.proofs.ReportLemmas.{all-shown, ended-how}
use Rattle.session_replay.proofs.HeadlineLemmas.{order-behind, Concludes}
use Rattle.session_replay.specs.Phases.{HasGivenLines, HasFirst, HasAllLines, HasWholeLines, replay_of, ArePlayedInOrder, HasPlayed, hows_at, IsEnding, AreLost, IsLossFor}

-- what was taken, and that it was replayed up to a stop
pub record Stopped (g : Setting) (limit : ℕ) (lines : List (List ℕ)) (h : List Entry) (shown : List Shown) (why : Stop) (left rest : Inlet) : Type 0 where
  pub bytes : List ℕ
  pub takes : Consumes left.left rest.left bytes
  pub few : length bytes ≤ MAX_INPUT
  pub replayed : IsReplayed (replay_of g limit lines h shown) (Err why) left bytes

-- an event of a line was refused behind `part` of its entries, and then all left that were here
pub replayed-refused : (g : Setting) (limit : ℕ) (kinds : List Kind) (lines : List (List ℕ)) (w line : List ℕ) (who : ℕ) (h part leavings : List Entry) (before held : ℕ → HeldClient) (left rest : Inlet) → HasPlayed g limit kinds lines false (moment h before) → written (length kinds) w ≡ Of who line → who < length kinds
    → list_any (λ entry. is_leave entry.event) part ≡ false → limit ≤ length (h ++ part) → leave_in_order (part ++ leavings) ≡ true → (c : Concludes g kinds (hows_at who before) (lines ++ w ∷ []) (h ++ (part ++ leavings)) held) → HasGivenLines left rest (lines ++ w ∷ [])
    → Stopped g limit (lines ++ w ∷ []) (h ++ (part ++ leavings)) c.shown HistoryFull left rest
replayed-refused g limit kinds lines w line who h part leavings before held left rest p is inside stays full order c r = record {
  bytes = r.bytes;
  takes = r.takes;
  few = r.few;
  replayed = record {
    first = r.first;
    order = order-behind g limit kinds lines w h (part ++ leavings) before p c.shown c.count;
    strangers = c.strangers;
    ends = (
      record {
        before = lines;
        last = w;
        split = refl;
        who = who;
        line = line;
        is = subst (λ n. written n w ≡ Of who line) (sym c.count) is;
        inside = subst (λ n. who < n) (sym c.count) inside;
        stops = record {
          reaches = moment-reached (replay_of g limit (lines ++ w ∷ []) (h ++ (part ++ leavings)) c.shown) kinds lines h (part ++ leavings) before false (sym c.count) refl p.moment
              (good c.count) p.over_is;
          in_order = order;
        };
        full = omega (arith, full, length-append h part, ap length (before-leavings part leavings stays), length-append part (before_leavings leavings));
        refused = subst (λ how. StandsAt (ends_as how) g who (h ++ (part ++ leavings)) (lines_for (length c.shown) who (lines ++ w ∷ [])) (json_lines (get_or c.shown who (untold Silent)).told))
            (ap (λ t. if t then Short else how_at (before who).place) (eq-eqb who who refl)) (c.ended who (subst (λ n. who < n) (sym c.count) inside));
        others = λ other below differs.
            ended-how g (before other).place other (h ++ (part ++ leavings)) (lines_for (length c.shown) other (lines ++ w ∷ [])) (json_lines (get_or c.shown other (untold Silent)).told)
            (subst (λ how. StandsAt (ends_as how) g other (h ++ (part ++ leavings)) (lines_for (length c.shown) other (lines ++ w ∷ [])) (json_lines (get_or c.shown other (untold Silent)).told))
            (ap (λ t. if t then Short else how_at (before other).place) (ne_eqb other who differs)) (c.ended other below));
      },
      r.needed,
    );
  };
}
  where
    good : (same : length c.shown ≡ length kinds) → has_bad (length c.shown) lines ≡ false
    good same = subst (λ n. has_bad n lines ≡ false) (sym same) p.good

-- so it is behind lines that were played
pub moment-lost : (g : Setting) (kinds : List Kind) (lines : List (List ℕ)) (h : List Entry) (held : ℕ → HeldClient) → IsMoment g kinds lines (moment h held) → AreLost g kinds lines h
moment-lost g kinds lines h held m who inside =
    let c = m.clients who inside in
    (c.shown, c.kind_is, stands-lost g (held who).place who h (lines_for (length kinds) who lines) (json_lines c.shown.told) c.stands)

-- where something was lost in a line
pub line-lost : (g : Setting) (kinds : List Kind) (who : ℕ) (lines : List (List ℕ)) (w line : List ℕ) (h h' : List Entry) (held : ℕ → HeldClient) (box : Shown) → IsMoment g kinds lines (moment h held) → GrowsBy g who h h' → written (length kinds) w ≡ Of who line
    → box.kind ≡ get_or kinds who Silent → StandsAt WasLost g who h' (lines_for (length kinds) who (lines ++ w ∷ [])) (json_lines box.told) → AreLost g kinds (lines ++ w ∷ []) h'
line-lost g kinds who lines w line h h' held box m grows is kind mine other inside = by (other == who) refl
  where
    by : (t : Bool) → (other == who) ≡ t → (box : Shown) × (box.kind ≡ get_or kinds other Silent) × StandsAt WasLost g other h' (lines_for (length kinds) other (lines ++ w ∷ [])) (json_lines box.told)
    by true e = subst (λ k. (box : Shown) × (box.kind ≡ get_or kinds k Silent) × StandsAt WasLost g k h' (lines_for (length kinds) k (lines ++ w ∷ [])) (json_lines box.told)) (sym (eqb-true other who e)) (box, kind, mine)
    by false e =
        let differs : other ≢ who = eqb-false other who e in
        let c = m.clients other inside in (
          c.shown,
          c.kind_is,
          subst (λ q. StandsAt WasLost g other q (lines_for (length kinds) other (lines ++ w ∷ [])) (json_lines c.shown.told)) (sym grows.grows)
              (subst (λ q. StandsAt WasLost g other (h ++ grows.more) q (json_lines c.shown.told)) (sym (lines-others (length kinds) other who lines w line is differs))
              (stands-lost g (held other).place other (h ++ grows.more) (lines_for (length kinds) other lines) (json_lines c.shown.told)
              (stands-others g (held other).place other h grows.more (lines_for (length kinds) other lines) (json_lines c.shown.told) (grows.alone other differs) c.stands))),
        )

-- where something was lost when a client was to leave at the end
pub parting-lost : (g : Setting) (kinds : List Kind) (hows : ℕ → How) (who next : ℕ) (lines : List (List ℕ)) (h h' : List Entry) (held : ℕ → HeldClient) (box : Shown) → AreParting g kinds hows next lines (moment h held) → ((k : ℕ) → k < length kinds → IsEnding (hows k)) → GrowsBy g who h h'
    → box.kind ≡ get_or kinds who Silent → StandsAt WasLost g who h' (lines_for (length kinds) who lines) (json_lines box.told) → AreLost g kinds lines h'
parting-lost g kinds hows who next lines h h' held box m ending grows kind mine other inside = by (other == who) refl
  where
    by : (t : Bool) → (other == who) ≡ t → (box : Shown) × (box.kind ≡ get_or kinds other Silent) × StandsAt WasLost g other h' (lines_for (length kinds) other lines) (json_lines box.told)
    by true e = subst (λ k. (box : Shown) × (box.kind ≡ get_or kinds k Silent) × StandsAt WasLost g k h' (lines_for (length kinds) k lines) (json_lines box.told)) (sym (eqb-true other who e)) (box, kind, mine)
    by false e =
        let differs : other ≢ who = eqb-false other who e in
        let c = m.clients other inside in (
          c.shown,
          c.kind_is,
          subst (λ q. StandsAt WasLost g other q (lines_for (length kinds) other lines) (json_lines c.shown.told)) (sym grows.grows)
              (last-lost g (hows other) (held other).place other (h ++ grows.more) (lines_for (length kinds) other lines) (json_lines c.shown.told) (ending other inside)
              (last-others g (hows other) (held other).place other h grows.more (lines_for (length kinds) other lines) (json_lines c.shown.told) (grows.alone other differs) c.stands)),
        )

-- Boxes of these kinds, and that what they have shown is a replay in which something was lost.
pub record IsLosing (g : Setting) (limit : ℕ) (kinds : List Kind) (lines : List (List ℕ)) (h : List Entry) (why : Stop) (left rest : Inlet) : Type 0 where
  pub shown : List Shown
  pub kinds_are : map (λ box. box.kind) shown ≡ kinds
  pub stopped : Stopped g limit lines h shown why left rest

pub replayed-lost : (why : Stop) (g : Setting) (limit : ℕ) (kinds : List Kind) (lines : List (List ℕ)) (h : List Entry) (left rest : Inlet) → IsLossFor why → ArePlayedInOrder g limit (length kinds) lines h → AreLost g kinds lines h → ((who : ℕ) → length kinds ≤ who → own (rules g.gives) who h ≡ []) → HasFirst left rest lines
    → IsLosing g limit kinds lines h why left rest
replayed-lost why g limit kinds lines h left rest loss order lost strangers r =
    let s = all-shown kinds (λ who box. StandsAt WasLost g who h (lines_for (length kinds) who lines) (json_lines box.told)) lost in
    let count : length s.shown ≡ length kinds = sym (length-map s.shown (λ box. box.kind)) ∙ ap length s.kinds_are in
    record {
      shown = s.shown;
      kinds_are = s.kinds_are;
      stopped = by why loss s.shown count (λ who inside.
          subst (λ n. StandsAt WasLost g who h (lines_for n who lines) (json_lines (get_or s.shown who (untold Silent)).told)) (sym count) (s.each who (subst (λ n. who < n) count inside)));
    }
  where
    by : (why : Stop) → IsLossFor why → (shown : List Shown) → length shown ≡ length kinds → ((who : ℕ) → who < length shown → EndedAs WasLost (replay_of g limit lines h shown) who) → Stopped g limit lines h shown why left rest
    by (Broken at) loss shown count each = record { bytes = r.bytes; takes = r.takes; few = r.few; replayed = record { first = r.first; order = order shown count; strangers = λ who past. strangers who (subst (λ n. n ≤ who) count past); ends = each } }
    by NoMemory loss shown count each = record { bytes = r.bytes; takes = r.takes; few = r.few; replayed = record { first = r.first; order = order shown count; strangers = λ who past. strangers who (subst (λ n. n ≤ who) count past); ends = each } }
    by HistoryFull loss shown count each = absurd loss
    by WriteFault loss shown count each = absurd loss

-- whatever was read, its lines are the first ones
pub given-first : (left rest : Inlet) (lines : List (List ℕ)) → HasGivenLines left rest lines → HasFirst left rest lines
given-first left rest lines r = record { bytes = r.bytes; takes = r.takes; few = r.few; first = r.first }

pub all-first : (left rest : Inlet) (lines : List (List ℕ)) → HasAllLines left rest lines → HasFirst left rest lines
all-first left rest lines r = record { bytes = r.bytes; takes = r.takes; few = r.few; first = inr (r.all, ([], sym r.lines_are ∙ sym (append-nil lines))) }

pub whole-first : (left rest : Inlet) (taken : ℕ) (lines : List (List ℕ)) → HasWholeLines left rest taken lines → HasFirst left rest lines
whole-first left rest taken lines r = record { bytes = r.bytes; takes = r.takes; few = r.few; first = inl ([], sym r.lines_are ∙ sym (append-nil lines)) }
